-- Numbers and lines as text, as the code writes them; and how long they are.
use Prim.Native.Nat.{ℕ, zero, suc, ◌+◌, ◌*◌, ◌-◌, ◌/◌, ◌%◌, ◌^◌, ◌<◌, ◌≤◌}
use Rattle.std.specs.Prelude.{Bool, true, false, ◌≡◌, refl, T, ℤ, pos, negsuc, nat_abs, neg_ℤ, ◌+ℤ◌, length, take}
use mathlib.Core.List.{List, [], ◌∷◌, ◌++◌}
use Rattle.std.proofs.Common.{sym, ◌∙◌, subst, mul_comm, suc-mul, mul-le-mul_right, add-one, lt-ltb, le-ltb, ltb-true, length-append, length-drop, drop_of_length-le, get_or-drop, length-take-le}
use Rattle.std.proofs.Math.Path.{ap}
use native.Mathlib.Omega.{arith}
use Rattle.std.proofs.Math.Decide.{dec_lt}
use Rattle.std.specs.Int.Signed.{lt_z, non_neg, mag}
use Rattle.std.proofs.Math.ListN.{get_or, drop}
use Rattle.std.proofs.Math.Seq.{drop-cons}
use Rattle.lines.specs.Planes.{Plane, tabulate}
use Rattle.lines.specs.RowLaws.{tabulate_same, tabulate_take}
use Rattle.pictures.specs.Pictures.{plane_of}
use Rattle.listing.specs.Listing.{space, newline, minus, digit, digits, natural, decimal, line, row_lines}

-- ---- digits

abbrev pick : {A : Type 0} → A → A → Bool → A
pick a b t = elim t [ true ↦ a | false ↦ b ]

module _ (fuel n : ℕ) where
  last_digit : n < 10 → digits (suc fuel) n ≡ digit n ∷ []
  unfolding digits
  last_digit h = ap (pick (digit n ∷ []) (digits fuel (n / 10) ++ digit (n % 10) ∷ [])) (lt-ltb n 10 h)

  more_digits : 10 ≤ n → digits (suc fuel) n ≡ digits fuel (n / 10) ++ digit (n % 10) ∷ []
  unfolding digits
  more_digits h = ap (pick (digit n ∷ []) (digits fuel (n / 10) ++ digit (n % 10) ∷ [])) (le-ltb n 10 h)

-- any fuel above n gives the same digits
same_digits : (f g n : ℕ) → n < f → n < g → digits f n ≡ digits g n
same_digits zero g n h k = absurd (omega arith)
same_digits (suc f) zero n h k = absurd (omega arith)
same_digits (suc f) (suc g) n h k = go (dec_lt n 10) (λ b. same_digits f g (n / 10) (omega arith) (omega arith))
  where
    go : Dec (n < 10) → (10 ≤ n → digits f (n / 10) ≡ digits g (n / 10)) → digits (suc f) n ≡ digits (suc g) n
    go (yes l) e = last_digit f n l ∙ sym (last_digit g n l)
    go (no l) e = more_digits f n (omega arith) ∙ ap (λ (d : List ℕ). d ++ digit (n % 10) ∷ []) (e (omega arith)) ∙ sym (more_digits g n (omega arith))

pub natural_one : (n : ℕ) → n < 10 → natural n ≡ digit n ∷ []
natural_one n h = last_digit n n h

pub natural_more : (n : ℕ) → 10 ≤ n → natural n ≡ natural (n / 10) ++ digit (n % 10) ∷ []
natural_more n h = more_digits n n h ∙ ap (λ (d : List ℕ). d ++ digit (n % 10) ∷ []) (same_digits n (suc (n / 10)) (n / 10) (omega arith) (omega arith))

pub natural_longer : (n : ℕ) → 10 ≤ n → length (natural n) ≡ length (natural (n / 10)) + 1
natural_longer n h = ap length (natural_more n h) ∙ length-append (natural (n / 10)) (digit (n % 10) ∷ [])

-- a number below 10^k has at most k digits
pub natural_short : (k n : ℕ) → n < 10 ^ suc k → length (natural n) ≤ suc k
natural_short zero n h = omega (arith, ap length (natural_one n (omega arith)))
natural_short (suc k) n h = go (dec_lt n 10) (λ b. natural_short k (n / 10) (omega arith))
  where
    go : Dec (n < 10) → (10 ≤ n → length (natural (n / 10)) ≤ suc k) → length (natural n) ≤ suc (suc k)
    go (yes l) e = omega (arith, ap length (natural_one n l))
    go (no l) e = omega (arith, e (omega arith), natural_longer n (omega arith))

-- ---- a number and its sign

pub decimal_below : (z : ℤ) → lt_z z (pos 0) ≡ true → decimal z ≡ minus ∷ natural (nat_abs z)
unfolding decimal
decimal_below (pos n) e = absurd (omega (arith, ltb-true n 0 e))
decimal_below (negsuc n) e = refl

pub decimal_above : (z : ℤ) → lt_z z (pos 0) ≡ false → decimal z ≡ natural (nat_abs z)
unfolding decimal
decimal_above (pos n) e = refl
decimal_above (negsuc n) e = absurd (subst T e tt)

pub negated : (z : ℤ) → lt_z z (pos 0) ≡ true → T (non_neg (pos 0 +ℤ neg_ℤ z)) × (nat_abs (pos 0 +ℤ neg_ℤ z) ≡ nat_abs z)
negated (pos n) e = absurd (omega (arith, ltb-true n 0 e))
negated (negsuc n) e = (tt, omega arith)

pub not_below : (z : ℤ) → lt_z z (pos 0) ≡ false → T (non_neg z)
not_below (pos n) e = tt
not_below (negsuc n) e = absurd (subst T e tt)

pub size_of_mag : (z : ℤ) {H : ℕ} → mag z < H → nat_abs z ≤ H
size_of_mag (pos n) h = omega arith
size_of_mag (negsuc n) h = omega arith

-- ---- lines

module _ (l : List ℤ) (i : ℕ) where
  pub line_more : i + 1 < length l → line (drop i l) ≡ decimal (get_or l i (pos 0)) ++ space ∷ line (drop (i + 1) l)
  unfolding line
  line_more h =
      let e : suc i ≡ i + 1 = omega arith in
      let f : suc (suc i) ≡ i + 2 = omega arith in
      let two : drop (i + 1) l ≡ get_or l (i + 1) (pos 0) ∷ drop (suc (i + 1)) l = drop-cons l (i + 1) (pos 0) h in
      ap line (drop-cons l i (pos 0) (omega arith) ∙ ap (λ (n : ℕ). get_or l i (pos 0) ∷ drop n l) e ∙ ap (λ (t : List ℤ). get_or l i (pos 0) ∷ t) two)
      ∙ ap (λ (t : List ℤ). decimal (get_or l i (pos 0)) ++ space ∷ line t) (sym two)

  pub line_last : i + 1 ≡ length l → line (drop i l) ≡ decimal (get_or l i (pos 0)) ++ newline ∷ []
  unfolding line
  line_last h = ap line (drop-cons l i (pos 0) (omega arith) ∙ ap (λ (t : List ℤ). get_or l i (pos 0) ∷ t) (drop_of_length-le l {i = suc i} (omega arith)))

-- row r of a plane in memory
pub row_line : (w r : ℕ) (l : List ℤ) → r * w + w ≤ length l → line (tabulate w (plane_of w l r)) ≡ line (take w (drop (r * w) l))
row_line w r l h =
    ap line (tabulate_same w _ (λ k. get_or (drop (r * w) l) k (pos 0)) (λ k i. sym (get_or-drop (r * w) l k (pos 0))) ∙ tabulate_take w (drop (r * w) l) (pos 0) (omega (arith, length-drop (r * w) l)))

-- the rows from r on: the first of them, and the others
pub rows_more : (w : ℕ) (p : Plane ℤ) (r h : ℕ) → r < h → row_lines w p r (h - r) ≡ line (tabulate w (p r)) ++ row_lines w p (r + 1) (h - (r + 1))
unfolding row_lines
rows_more w p r h i =
    let e : h - r ≡ suc (h - (r + 1)) = omega arith in
    let f : suc r ≡ r + 1 = omega arith in
    ap (row_lines w p r) e ∙ ap (λ (s : ℕ). line (tabulate w (p r)) ++ row_lines w p s (h - (r + 1))) f

pub rows_none : (w : ℕ) (p : Plane ℤ) (r h : ℕ) → h ≤ r → row_lines w p r (h - r) ≡ []
unfolding row_lines
rows_none w p r h i = ap (row_lines w p r) (let e : h - r ≡ 0 = omega arith in e)

-- the part of a list that a row is
pub part_length : (s w : ℕ) (l : List ℤ) → s + w ≤ length l → length (take (s + w - s) (drop s l)) ≡ w
part_length s w l h = length-take-le (s + w - s) (drop s l) (omega (arith, length-drop s l)) ∙ omega arith

-- a row's end lies in the plane, and is where the next row starts
pub row_end : (w h r : ℕ) → r < h → (r * w + w ≤ w * h) × ((r + 1) * w ≡ r * w + w)
row_end w h r i =
    let e : (r + 1) * w ≡ r * w + w = ap (λ (k : ℕ). k * w) (add-one r) ∙ suc-mul r w in
    (omega (arith, e, mul-le-mul_right {m = r + 1} {n = h} w (omega arith), mul_comm w h), e)
