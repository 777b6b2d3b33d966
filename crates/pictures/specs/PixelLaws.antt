-- The largest of some pixels, and refusals 8 to 10 as the code finds them.
use Rattle.std.specs.Prelude.{◌≡◌, ℕ, suc, ◌+◌, ◌*◌, ◌%◌, ◌^◌, ◌<◌, ◌≤◌, max, Bool, true, false, ◌&&◌, ltb, List, [], ◌∷◌, ◌++◌, length, take, nat_lt, slice_index, refl, nat_le, slice_index_or}
use Rattle.std.proofs.Common.{sym, ◌∙◌, arith, mul-le-mul, lt-ltb, le-ltb, pow_pos, shl_exact, take-suc, le-leb, take_all}
use Rattle.std.proofs.Math.Path.{ap}
use Rattle.std.proofs.lemmas.Bool.{lt-leb}
use Rattle.numbers.specs.Tests.{every, by_ltb}
use Rattle.refusals.specs.Answers.{refused, passed, asks}
use Rattle.pictures.specs.PictureLaws.{sided_done}
use Rattle.pictures.specs.Pictures.{side_right, side_answer, length_answer, pixel_answer, max_side}

-- 1, shifted
pub one_shifted : (k w : ℕ) → 1 + k ≤ w → (1 * 2 ^ k) % 2 ^ w ≡ 2 ^ k
one_shifted k w h = shl_exact {a = 1} 1 k w (omega arith) h ∙ omega arith

and_false : (t : Bool) → t && false ≡ false
and_false true = refl
and_false false = refl

-- ---- a side

pub side_long : (n : ℕ) → max_side < n → side_right n ≡ false
side_long n h = ap (λ (t : Bool). nat_le 1 n && t) (lt-leb n max_side h) ∙ and_false (nat_le 1 n)

pub side_short : (n : ℕ) → n ≤ max_side → nat_le 1 n ≡ side_right n
side_short n h = sym (ap (λ (t : Bool). nat_le 1 n && t) (le-leb n max_side h) ∙ and_true (nat_le 1 n))
  where
    and_true : (t : Bool) → t && true ≡ t
    and_true true = refl
    and_true false = refl

-- two sides make a size that fits a machine word
pub size_fits : (w h : ℕ) → side_answer w h ≡ passed → w * h ≤ 16777216
size_fits w h e = let d = sided_done w h e in mul-le-mul d.0.1 d.1.1

-- ---- refusals 8 and 9

module _ (w h : ℕ) where
  asked : (s t : Bool) → side_right w ≡ s → side_right h ≡ t → side_answer w h ≡ asks (s && t) 8 passed
  unfolding side_answer
  asked s t d e = λ j. asks (d j && e j) 8 passed

  pub wide_wrong : side_right w ≡ false → side_answer w h ≡ refused (8, [])
  wide_wrong d = asked false (side_right h) d refl

  pub tall_wrong : side_right w ≡ true → side_right h ≡ false → side_answer w h ≡ refused (8, [])
  tall_wrong d e = asked true false d e

  pub both_right : side_right w ≡ true → side_right h ≡ true → side_answer w h ≡ passed
  both_right d e = asked true true d e

pub slice_short : (n k : ℕ) → k < n → length_answer n k ≡ refused (9, [])
unfolding length_answer
slice_short n k h = ap (λ (t : Bool). asks t 9 passed) (lt-leb n k h)

-- ---- refusal 10

-- r is the largest of some numbers, 0 of none: they are all below what r is below
abbrev pub Largest : List ℕ → ℕ → Type 0
Largest l r = (b : ℕ) → 1 ≤ b → every (λ p. ltb p b) l ≡ nat_lt r b

every_snoc : (right : ℕ → Bool) (l : List ℕ) (a : ℕ) → every right (l ++ a ∷ []) ≡ every right l && right a
unfolding every
every_snoc right [] a = and_true (right a)
  where
    and_true : (t : Bool) → t && true ≡ t
    and_true true = refl
    and_true false = refl
every_snoc right (x ∷ l) a = go (right x) (every right l) (right a) (every_snoc right l a)
  where
    go : (t : Bool) {u : Bool} (v w : Bool) → u ≡ v && w → t && u ≡ t && v && w
    go true v w e = e
    go false v w e = refl

pub largest_none : (l : List ℕ) → Largest (take 0 l) 0
unfolding every
largest_none l b h = sym (lt-ltb 0 b h)

module _ (l : List ℕ) (i m : ℕ) (h : i < length l) (is : Largest (take i l) m) where
  -- one number more
  both_below : (b : ℕ) → 1 ≤ b → every (λ p. ltb p b) (take (i + 1) l) ≡ nat_lt m b && nat_lt (slice_index l i) b
  both_below b s =
      let e : i + 1 ≡ suc i = omega arith in
      ap (λ (n : ℕ). every (λ p. ltb p b) (take n l)) e ∙ ap (every (λ p. ltb p b)) (take-suc l i 0 h)
      ∙ every_snoc (λ p. ltb p b) (take i l) (slice_index l i) ∙ ap (λ (t : Bool). t && nat_lt (slice_index l i) b) (is b s)

  pub largest_keeps : slice_index_or l i 0 ≤ m → Largest (take (i + 1) l) m
  largest_keeps q b s = both_below b s ∙ by_ltb (λ t. t && nat_lt (slice_index l i) b ≡ t) m b (λ j. lt-ltb _ b (omega arith)) (λ j. refl)

  pub largest_grows : m < slice_index l i → Largest (take (i + 1) l) (slice_index l i)
  largest_grows q b s = both_below b s ∙ by_ltb (λ t. nat_lt m b && t ≡ t) (slice_index l i) b (λ j. ap (λ (t : Bool). t && true) (lt-ltb m b (omega arith))) (λ j. and_false (nat_lt m b))

  pub largest_more : Largest (take (i + 1) l) (max m (slice_index l i))
  largest_more b s = both_below b s ∙ by_ltb (λ t. t && nat_lt (slice_index l i) b ≡ nat_lt (max m (slice_index l i)) b) m b
      (λ j. by_ltb (λ t. t ≡ nat_lt (max m (slice_index l i)) b) (slice_index l i) b (λ k. sym (lt-ltb _ b (omega arith))) (λ k. sym (le-ltb _ b (omega arith))))
      (λ j. sym (le-ltb _ b (omega arith)))

pub largest_all : (l : List ℕ) (i m : ℕ) → Largest (take i l) m → length l ≤ i → Largest l m
largest_all l i m is h b s = ap (every (λ p. ltb p b)) (sym (take_all i l h)) ∙ is b s

module _ (B w h m : ℕ) (pixels : List ℕ) (is : Largest (take (w * h) pixels) m) where
  judged : (t : Bool) → nat_lt m (2 ^ B) ≡ t → pixel_answer B w h pixels ≡ asks t 10 passed
  unfolding pixel_answer
  judged t e = ap (λ (t : Bool). asks t 10 passed) (is (2 ^ B) (pow_pos B) ∙ e)

  pub pixels_small : m < 2 ^ B → pixel_answer B w h pixels ≡ passed
  pixels_small q = judged true (lt-ltb _ _ q)

  pub pixel_large : 2 ^ B ≤ m → pixel_answer B w h pixels ≡ refused (10, [])
  pixel_large q = judged false (le-ltb _ _ q)
