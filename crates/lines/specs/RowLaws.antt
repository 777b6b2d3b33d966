-- Planes as lists, row by row.
use Prim.Native.Nat.{ℕ, zero, suc, ◌+◌, ◌*◌, ◌/◌, ◌%◌, ◌<◌, ◌≤◌}
use Rattle.std.specs.Prelude.{Bool, ◌≡◌, T, length, take}
use mathlib.Core.List.{List, [], ◌∷◌, map}
use Rattle.std.proofs.Math.Path.{refl, ap, ap₂}
use Rattle.std.proofs.Common.{sym, ◌∙◌, subst, mod-lt, div-add-mod', div-lt_iff_lt-mul, mul-le-mul_right, mul_comm}
use native.Mathlib.Omega.{arith}
use Rattle.std.proofs.Math.Nat.{mul-add-div_right, mul-add-mod_self_right, div-eq_of_lt, mod-eq_of_lt}
use Rattle.std.proofs.Math.ListN.{get_or}
use Rattle.lines.specs.Planes.{Plane, tabulate, row_by_row}
use Rattle.numbers.specs.Tests.{every, both, and_intro}

module _ (w h : ℕ) (some : 1 ≤ w) where
  row_in : (k : ℕ) → k < w * h → k / w < h
  row_in k i = (div-lt_iff_lt-mul some).1 (subst (λ (n : ℕ). k < n) (mul_comm w h) i)

  pub place_in : (r c : ℕ) → r < h → c < w → r * w + c < w * h
  place_in r c i j = omega (arith, mul-le-mul_right w i, mul_comm w h)

module _ {A : Type 0} where
  tabulate_length : (n : ℕ) (f : ℕ → A) → length (tabulate n f) ≡ n
  unfolding tabulate
  tabulate_length zero f = refl
  tabulate_length (suc n) f = ap suc (tabulate_length n (λ k. f (suc k)))

  pub tabulate_at : (n : ℕ) (f : ℕ → A) (d : A) (k : ℕ) → k < n → get_or (tabulate n f) k d ≡ f k
  unfolding tabulate
  tabulate_at zero f d k h = absurd (omega arith)
  tabulate_at (suc n) f d zero h = refl
  tabulate_at (suc n) f d (suc k) h = tabulate_at n (λ k. f (suc k)) d k (omega arith)

  pub tabulate_same : (n : ℕ) (f g : ℕ → A) → ((k : ℕ) → k < n → f k ≡ g k) → tabulate n f ≡ tabulate n g
  unfolding tabulate
  tabulate_same zero f g h = refl
  tabulate_same (suc n) f g h = ap₂ (λ (a : A) (l : List A). a ∷ l) (h zero (omega arith)) (tabulate_same n (λ k. f (suc k)) (λ k. g (suc k)) (λ k i. h (suc k) (omega arith)))

  pub tabulate_take : (n : ℕ) (l : List A) (d : A) → n ≤ length l → tabulate n (λ k. get_or l k d) ≡ take n l
  unfolding tabulate
  tabulate_take zero l d h = refl
  tabulate_take (suc n) [] d h = absurd (omega arith)
  tabulate_take (suc n) (a ∷ l) d h = ap (λ (t : List A). a ∷ t) (tabulate_take n l d (omega arith))

  every_tabulate : (right : A → Bool) (n : ℕ) (f : ℕ → A) → ((k : ℕ) → k < n → T (right (f k))) → T (every right (tabulate n f))
  unfolding tabulate every
  every_tabulate right zero f h = tt
  every_tabulate right (suc n) f h =
      and_intro (right (f zero)) (every right (tabulate n (λ k. f (suc k)))) (h zero (omega arith)) (every_tabulate right n (λ k. f (suc k)) (λ k i. h (suc k) (omega arith)))

  pub every_at : (right : A → Bool) (l : List A) (d : A) → T (every right l) → (k : ℕ) → k < length l → T (right (get_or l k d))
  unfolding every
  every_at right [] d h k i = absurd (omega arith)
  every_at right (a ∷ l) d h zero i = (both (right a) (every right l) h).0
  every_at right (a ∷ l) d h (suc k) i = every_at right l d (both (right a) (every right l) h).1 k (omega arith)

  module _ (w h : ℕ) (some : 1 ≤ w) where
    pub rows_length : (p : Plane A) → length (row_by_row w h p) ≡ w * h
    unfolding row_by_row
    rows_length p = tabulate_length (w * h) (λ k. p (k / w) (k % w))

    pub rows_at : (p : Plane A) (d : A) (r c : ℕ) → r < h → c < w → get_or (row_by_row w h p) (r * w + c) d ≡ p r c
    unfolding row_by_row
    rows_at p d r c i j =
        let e : (r * w + c) / w ≡ r = mul-add-div_right some r c ∙ ap (λ (n : ℕ). r + n) (div-eq_of_lt j) ∙ omega arith in
        let f : (r * w + c) % w ≡ c = mul-add-mod_self_right r w c ∙ mod-eq_of_lt j in
        tabulate_at (w * h) (λ k. p (k / w) (k % w)) d (r * w + c) (place_in w h some r c i j) ∙ ap₂ p e f

    pub rows_same : (p q : Plane A) → ((r c : ℕ) → r < h → c < w → p r c ≡ q r c) → row_by_row w h p ≡ row_by_row w h q
    unfolding row_by_row
    rows_same p q e = tabulate_same (w * h) (λ k. p (k / w) (k % w)) (λ k. q (k / w) (k % w)) (λ k i. e (k / w) (k % w) (row_in w h some k i) (mod-lt k some))

    pub every_row : (right : A → Bool) (p : Plane A) → ((r c : ℕ) → r < h → c < w → T (right (p r c))) → T (every right (row_by_row w h p))
    unfolding row_by_row
    every_row right p e = every_tabulate right (w * h) (λ k. p (k / w) (k % w)) (λ k i. e (k / w) (k % w) (row_in w h some k i) (mod-lt k some))

    pub every_row_at : (right : A → Bool) (p : Plane A) → T (every right (row_by_row w h p)) → (r c : ℕ) → r < h → c < w → T (right (p r c))
    every_row_at right p e r c i j =
        subst (λ (a : A). T (right a)) (rows_at p (p r c) r c i j)
        (every_at right (row_by_row w h p) (p r c) e (r * w + c) (subst (λ (n : ℕ). r * w + c < n) (sym (rows_length p)) (place_in w h some r c i j)))

    -- the elements of a list, taken as a plane and row by row again
    pub rows_take : (l : List A) (d : A) → w * h ≤ length l → row_by_row w h (λ r c. get_or l (r * w + c) d) ≡ take (w * h) l
    unfolding row_by_row
    rows_take l d i = tabulate_same (w * h) _ (λ k. get_or l k d) (λ k j. ap (λ (n : ℕ). get_or l n d) (div-add-mod' k w)) ∙ tabulate_take (w * h) l d i

module _ {A C : Type 0} (f : A → C) where
  tabulate_map : (n : ℕ) (g : ℕ → A) → map f (tabulate n g) ≡ tabulate n (λ k. f (g k))
  unfolding tabulate
  tabulate_map zero g = refl
  tabulate_map (suc n) g = ap (λ (l : List C). f (g zero) ∷ l) (tabulate_map n (λ k. g (suc k)))

  pub rows_map : (w h : ℕ) (p : Plane A) → map f (row_by_row w h p) ≡ row_by_row w h (λ r c. f (p r c))
  unfolding row_by_row
  rows_map w h p = tabulate_map (w * h) (λ k. p (k / w) (k % w))
