-- What is written over the front of a slice, element by element.
use Rattle.std.specs.Prelude.{ℕ, ◌+◌, ◌-◌, ◌<◌, ◌≤◌, List, ◌++◌, ◌≡◌, ℤ, pos, length, get_or, set, drop, replicate}
use Rattle.std.proofs.Common.{sym, ◌∙◌, ap, arith, length-append, length-drop, ext_get_or, get_or-append-add, get_or-drop, drop_at}
use Rattle.std.proofs.Math.Decide.{dec_lt}
use Rattle.std.proofs.lemmas.List.{length-replicate, get_or-replicate}
use Rattle.std.proofs.Math.ListN.{get_or-append}
use Rattle.numbers.specs.Lists.{over}
use Rattle.slices.specs.Patch.{at, patch, patch_in, patch_above, patch_ext, patch_set}
use Rattle.slices.specs.Fronts.{zeroed}

-- a list that has the new elements in front and the old ones after them
pub over_is : {A : Type 0} (d : A) (new old l : List A) → length l ≡ length old → length new ≤ length old
    → ((k : ℕ) → k < length new → get_or l k d ≡ get_or new k d) → ((q : ℕ) → length new ≤ q → get_or l q d ≡ get_or old q d) → l ≡ over new old
over_is d new old l same fits front back = ext_get_or d l (over new old) (omega (arith, length-append new (drop (length new) old), length-drop (length new) old)) (λ k h. go k (dec_lt k (length new)))
  where
    go : (k : ℕ) → Dec (k < length new) → get_or l k d ≡ get_or (over new old) k d
    go k (yes h) = front k h ∙ sym (get_or-append new (drop (length new) old) d k h)
    go k (no f) =
        let e : k ≡ length new + (k - length new) = omega arith in
        back k (omega arith) ∙ ap (λ (n : ℕ). get_or old n d) e ∙ sym (get_or-drop (length new) old (k - length new) d)
        ∙ sym (get_or-append-add new (drop (length new) old) (k - length new) d) ∙ ap (λ (n : ℕ). get_or (over new old) n d) (sym e)

-- a store after the first n places
pub patch_next : {A : Type 0} (n : ℕ) (new x : ℕ → A) (l : List A) (d : A) → (λ k. get_or l k d) ≡ patch 0 n new x → n < length l → (v : A) → v ≡ new n → (λ k. get_or (set l n v) k d) ≡ patch 0 (n + 1) new x
patch_next {A} n new x l d is fits v same =
    let e : n ≡ 0 + n = omega arith in
    ap {B = ℕ → A} (λ m k. get_or (set l m v) k d) e ∙ patch_set 0 n new x l d is (omega arith) v same

-- a list written to the front, element by element
pub patch_over : {A : Type 0} (d : A) (i : ℕ) (new old l : List A) → (λ k. get_or l k d) ≡ patch 0 i (λ k. get_or new k d) (λ k. get_or old k d) → length l ≡ length old → i ≡ length new → length new ≤ length old → l ≡ over new old
patch_over {A} d i new old l is same all fits =
    over_is d new old l same fits
    (λ k h. ap (λ (y : ℕ → A). y k) is ∙ ap (patch 0 i (λ k. get_or new k d) (λ k. get_or old k d)) (omega arith) ∙ patch_in 0 i (λ k. get_or new k d) (λ k. get_or old k d) k (omega arith))
    (λ q h. ap (λ (y : ℕ → A). y q) is ∙ patch_above 0 i _ (λ k. get_or old k d) q (omega arith))

-- zeros at the front
pub patch_zeroed : (i n : ℕ) (l l' : List ℤ) → at l' ≡ patch 0 i (λ k. pos 0) (at l) → length l' ≡ length l → n ≤ length l → i ≡ n → l' ≡ zeroed n l
patch_zeroed i n l l' is same room e =
    patch_over (pos 0) i (replicate n (pos 0)) l l' (is ∙ patch_ext 0 i _ _ (at l) (λ k h. sym (get_or-replicate n k (pos 0) (pos 0) (omega arith)))) same
    (omega (arith, length-replicate n (pos 0))) (omega (arith, length-replicate n (pos 0)))

-- the work area is cleared, whatever its front was used for
pub zeroed_part : (n : ℕ) (part work : List ℤ) → length part ≡ n → zeroed n (part ++ drop n work) ≡ zeroed n work
zeroed_part n part work e =
    let l = length-replicate n (pos 0) in
    ap (λ (t : List ℤ). replicate n (pos 0) ++ t) (ap (λ (m : ℕ). drop m (part ++ drop n work)) l ∙ drop_at part (drop n work) n e ∙ ap (λ (m : ℕ). drop m work) (sym l))
