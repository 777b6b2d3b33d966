-- Lists: what a write over the front of a slice leaves (`over`); parts of lists, and tests of every element.
use Prim.Native.Nat.{ℕ, zero, suc, ◌+◌, ◌-◌, ◌<◌, ◌≤◌}
use Rattle.std.specs.Prelude.{Bool, false, ◌&&◌, ◌≡◌, refl, eqb, length, get_or, take, drop, set, replicate}
use Rattle.std.proofs.Math.Bool.{true}
use mathlib.Core.List.{List, [], ◌∷◌, ◌++◌, append_assoc}
use Rattle.std.proofs.Common.{sym, ◌∙◌, ap₂, subst, arith, eqb→eq, length-append, length-drop, drop_of_length-le, drop-cons, drop-drop, take_all, take_at, drop_at}
use Rattle.std.proofs.Math.Path.{ap}
use Rattle.std.proofs.Math.Dec.{T}
use Rattle.std.proofs.Math.Seq.{paste, take-length}
use Rattle.std.proofs.lemmas.List.Edits.{take-paste, drop-paste}
use Rattle.numbers.specs.Tests.{every, both, and_intro}

-- `new` over the front of `old`; what lies past it stays
abbrev pub over : {A : Type 0} → List A → List A → List A
over new old = new ++ drop (length new) old

-- ---- parts

module _ {A : Type 0} where
  -- what a part that starts at n holds
  pub rest_whole : (n : ℕ) (l : List A) → take (length l - n) (drop n l) ≡ drop n l
  rest_whole n l = take_all (length l - n) (drop n l) (omega (arith, length-drop n l))

  -- the first of what is left, and the first two
  pub next_one : (l : List A) (d : A) (i : ℕ) → i < length l → drop i l ≡ get_or l i d ∷ drop (i + 1) l
  next_one l d i h =
      let s : suc i ≡ i + 1 = omega arith in
      drop-cons l i d h ∙ ap (λ (n : ℕ). get_or l i d ∷ drop n l) s

  pub next_two : (l : List A) (d : A) (i : ℕ) → i + 1 < length l → drop i l ≡ get_or l i d ∷ get_or l (i + 1) d ∷ drop (i + 2) l
  next_two l d i h =
      let s : i + 1 + 1 ≡ i + 2 = omega arith in
      next_one l d i (omega arith)
      ∙ ap (λ (r : List A). get_or l i d ∷ r) (next_one l d (i + 1) h)
      ∙ ap (λ (n : ℕ). get_or l i d ∷ get_or l (i + 1) d ∷ drop n l) s

  -- a part of one element
  pub one_of : (l : List A) (d : A) (i : ℕ) → i < length l → take 1 (drop i l) ≡ get_or l i d ∷ []
  one_of l d i h = ap (take 1) (next_one l d i h)

  -- what is written over the front grows by a part put after it
  pub put_next : (w x e l : List A) (n : ℕ) → l ≡ over w e → length w ≡ n → paste l n x (length x) ≡ over (w ++ x) e
  put_next w x e l n h k =
      ap (λ (y : List A). paste y n x (length x)) h
      ∙ ap₂ (λ (a b : List A). a ++ b ++ drop (n + length x) (over w e)) (take_at w (drop (length w) e) n k) (take-length x)
      ∙ ap (λ (y : List A). w ++ x ++ y) (
      sym (drop-drop (length x) n (over w e))
      ∙ ap (drop (length x)) (drop_at w (drop (length w) e) n k)
      ∙ drop-drop (length x) (length w) e
      ∙ ap (λ (m : ℕ). drop m e) (sym (length-append w x)))

  -- two parts put one after the other are one part
  pub put_both : (e h v : List A) (n : ℕ) → n ≤ length e → paste (paste e n h (length h)) (n + length h) v (length v) ≡ paste e n (h ++ v) (length (h ++ v))
  put_both e h v n k =
      let m : n + length h + length v ≡ n + length (h ++ v) = omega (arith, length-append h v) in
      let a : take n e ++ take (length h) h ≡ take n e ++ h = ap (λ (y : List A). take n e ++ y) (take-length h) in
      ap₂ (λ (x y : List A). x ++ y ++ drop (n + length h + length v) (paste e n h (length h))) (take-paste e n h (length h) k (omega arith) ∙ a) (take-length v)
      ∙ ap (λ (y : List A). take n e ++ h ++ v ++ y) (
      sym (drop-drop (length v) (n + length h) (paste e n h (length h)))
      ∙ ap (drop (length v)) (drop-paste e n h (length h) k (omega arith))
      ∙ drop-drop (length v) (n + length h) e)
      ∙ ap₂ (λ (x : List A) (m : ℕ). x ++ drop m e) (append_assoc (take n e) h v ∙ ap (λ (y : List A). take n e ++ y) (sym (take-length (h ++ v)))) m

-- ---- every element

module _ {A : Type 0} (test : A → Bool) where
  module _ (l : List A) (d : A) (i : ℕ) (h : i < length l) where
    pub every_next : test (get_or l i d) ≡ true → every test (drop i l) ≡ every test (drop (i + 1) l)
    unfolding every
    every_next e = ap (every test) (next_one l d i h) ∙ ap (λ (t : Bool). t && every test (drop (i + 1) l)) e

    pub every_stops : test (get_or l i d) ≡ false → every test (drop i l) ≡ false
    unfolding every
    every_stops e = ap (every test) (next_one l d i h) ∙ ap (λ (t : Bool). t && every test (drop (i + 1) l)) e

    -- of a part of one
    pub every_one : T (every test (take 1 (drop i l))) → T (test (get_or l i d))
    unfolding every
    every_one k = (both (test (get_or l i d)) true (subst (λ (m : List A). T (every test m)) (one_of l d i h) k)).0

  pub every_ends : (l : List A) (i : ℕ) → length l ≤ i → every test (drop i l) ≡ true
  unfolding every
  every_ends l i h = ap (every test) (drop_of_length-le l h)

  pub every_set : (l : List A) (i : ℕ) (x : A) → T (every test l) → T (test x) → T (every test (set l i x))
  unfolding every
  every_set [] i x h k = tt
  every_set (a ∷ l) zero x h k = and_intro (test x) (every test l) k (both (test a) (every test l) h).1
  every_set (a ∷ l) (suc i) x h k = let (u, v) = both (test a) (every test l) h in and_intro (test a) (every test (set l i x)) u (every_set l i x v k)

-- an element of a list
pub data In {A : Type 0} (x : A) : List A → Type 0 where
  here : {xs : List A} → In x (x ∷ xs)
  there : {y : A} {xs : List A} → In x xs → In x (y ∷ xs)

pub in_left : {A : Type 0} {x : A} {xs : List A} (ys : List A) → In x xs → In x (xs ++ ys)
in_left ys here = here
in_left ys (there i) = there (in_left ys i)

pub in_right : {A : Type 0} {x : A} (xs : List A) {ys : List A} → In x ys → In x (xs ++ ys)
in_right [] i = i
in_right (y ∷ xs) i = there (in_right xs i)

pub every_in : {A : Type 0} (test : A → Bool) {x : A} {xs : List A} → In x xs → T (every test xs) → T (test x)
unfolding every
every_in test {x} (here {xs = ys}) h = (both (test x) (every test ys) h).0
every_in test (there {y = y} {xs = ys} i) h = every_in test i (both (test y) (every test ys) h).1

-- zeros
pub zeros : (l : List ℕ) → T (every (eqb 0) l) → l ≡ replicate (length l) 0
unfolding every
zeros [] h = refl
zeros (a ∷ l) h =
    let x = both (eqb 0 a) (every (eqb 0) l) h in
    ap (λ (n : ℕ). n ∷ l) (sym (eqb→eq 0 a x.0)) ∙ ap (λ (t : List ℕ). 0 ∷ t) (zeros l x.1)

pub zeros_right : (n : ℕ) → T (every (eqb 0) (replicate n 0))
unfolding every
zeros_right zero = tt
zeros_right (suc n) = zeros_right n
