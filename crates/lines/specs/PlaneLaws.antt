-- Laws of planes: what lies inside and outside of a part, and the sides of the low-low parts.
use Rattle.std.specs.Prelude.{ℕ, zero, suc, ◌+◌, ◌<◌, ◌≤◌, Bool, true, false, not, ◌≡◌, refl, T, ltb}
use Rattle.std.proofs.Common.{sym, subst, add-one, arith, ltb→lt, nltb→le}
use Rattle.std.proofs.Math.Path.{ap}
use Rattle.numbers.specs.Tests.{and_true, and_false_l, and_false_r}
use Rattle.lines.specs.Lines.{lows}
use Rattle.lines.specs.Planes.{Plane, OnLine, OnPart, rows, columns, within, side, level_rows_first, level_columns_first}

abbrev pick : {A : Type 0} → A → A → Bool → A
pick a b t = elim t [ true ↦ a | false ↦ b ]

module _ {A : Type 0} (w h : ℕ) (new old : Plane A) (r c : ℕ) where
  pub within_in : r < h → c < w → within w h new old r c ≡ new r c
  unfolding within
  within_in i j = ap (pick (new r c) (old r c)) (and_true r h c w i j)

  pub within_below : h ≤ r → within w h new old r c ≡ old r c
  unfolding within
  within_below i = ap (pick (new r c) (old r c)) (and_false_l r h c w i)

  pub within_beyond : w ≤ c → within w h new old r c ≡ old r c
  unfolding within
  within_beyond j = ap (pick (new r c) (old r c)) (and_false_r r h c w j)

-- a level changes its part and nothing else
pub record Keeps {A : Type 0} (level : OnPart A) : Type 0 where
  pub below : (w h : ℕ) (p : Plane A) (r c : ℕ) → h ≤ r → level w h p r c ≡ p r c
  pub beyond : (w h : ℕ) (p : Plane A) (r c : ℕ) → w ≤ c → level w h p r c ≡ p r c

module _ {A : Type 0} (row : OnLine A) (column : Bool → OnLine A) where
  pub rows_first_in : (w h : ℕ) (p : Plane A) (r c : ℕ) → r < h → c < w → level_rows_first row column w h p r c ≡ column (ltb c (lows w)) h (λ k. row w (p k) c) r
  unfolding level_rows_first columns rows
  rows_first_in w h p r c i j = within_in w h (λ r c. column (ltb c (lows w)) h (λ k. row w (p k) c) r) p r c i j

  pub rows_first_keeps : Keeps (level_rows_first row column)
  unfolding level_rows_first
  rows_first_keeps = record { below = λ w h p r c i. within_below w h _ p r c i; beyond = λ w h p r c j. within_beyond w h _ p r c j }

  pub columns_first_in : (w h : ℕ) (p : Plane A) (r c : ℕ) → r < h → c < w → level_columns_first row column w h p r c ≡ row w (λ k. column (ltb k (lows w)) h (λ m. p m k) r) c
  unfolding level_columns_first columns rows
  columns_first_in w h p r c i j = within_in w h (λ r c. row w (λ k. column (ltb k (lows w)) h (λ m. p m k) r) c) p r c i j

  pub columns_first_keeps : Keeps (level_columns_first row column)
  unfolding level_columns_first
  columns_first_keeps = record { below = λ w h p r c i. within_below w h _ p r c i; beyond = λ w h p r c j. within_beyond w h _ p r c j }

-- a place lies in a part of a plane or outside it
pub by_part : (P : ℕ → ℕ → Type 0) (w h : ℕ) → ((r c : ℕ) → r < h → c < w → P r c) → ((r c : ℕ) → h ≤ r → P r c) → ((r c : ℕ) → w ≤ c → P r c) → (r c : ℕ) → P r c
by_part P w h inside below beyond r c = go (ltb r h) (ltb c w) refl refl
  where
    go : (a b : Bool) → ltb r h ≡ a → ltb c w ≡ b → P r c
    go true true e f = inside r c (ltb→lt r h (subst T (sym e) tt)) (ltb→lt c w (subst T (sym f) tt))
    go true false e f = beyond r c (nltb→le c w (subst (λ (t : Bool). T (not t)) (sym f) tt))
    go false b e f = below r c (nltb→le r h (subst (λ (t : Bool). T (not t)) (sym e) tt))

pub side_none : (n : ℕ) → side 0 n ≡ n
unfolding side
side_none n = refl

pub side_one : (n : ℕ) → lows n ≡ side 1 n
unfolding side
side_one n = refl

pub side_more : (k n : ℕ) → lows (side k n) ≡ side (k + 1) n
unfolding side
side_more k n = ap (λ (j : ℕ). side j n) (sym (add-one k))

-- a side of a picture leaves one of every level
pub side_some : (k n : ℕ) → 1 ≤ n → 1 ≤ side k n
unfolding side
side_some zero n h = h
side_some (suc k) n h = omega (arith, side_some k n h)

-- the side of a level lies within the plane
pub side_le : (k n : ℕ) → side k n ≤ n
unfolding side
side_le zero n = omega arith
side_le (suc k) n = omega (arith, side_le k n)

-- alike within w columns and h rows
abbrev pub Alike : {A : Type 0} → (A → A → Type 0) → ℕ → ℕ → Plane A → Plane A → Type 0
Alike R w h p q = (r c : ℕ) → r < h → c < w → R (p r c) (q r c)

-- equal within w columns and h rows
abbrev pub Agree : {A : Type 0} → ℕ → ℕ → Plane A → Plane A → Type 0
Agree w h p q = (r c : ℕ) → r < h → c < w → p r c ≡ q r c
