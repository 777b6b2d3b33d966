-- For the code: lines of w values, one after the other in memory. A stage replaces a line by what it makes of that line and two others, a move
-- by another line. In one column the lines are a number each (`column`), and each such change changes one of them (`column_set`).
use Rattle.std.specs.Prelude.{ℕ, suc, ◌+◌, ◌-◌, ◌*◌, ◌<◌, ◌≤◌, Bool, true, false, cond, List, ◌≡◌, refl, T, ltb, eqb, length, ℤ}
use Rattle.std.proofs.Math.Path.{sym, ap, fun_ext}
use Rattle.std.proofs.Common.{◌∙◌, arith, mul-le-mul_right, eqb→eq, lt-ltb, le-ltb}
use Rattle.std.proofs.Math.Decide.{dec_lt, ℕ_discrete}
use Rattle.std.proofs.Math.Dec.{eqb_refl}
use Rattle.lines.specs.Lines.{lows, highs}
use Rattle.lifting.specs.declared.Step.{Step}
use Rattle.lifting.specs.declared.Factor.{Factor}
use Rattle.slices.specs.Patch.{patch, patch_in, patch_out, patch_below, patch_above, patch_is}
use Rattle.slices.specs.Runs.{ran, as_type}
use Rattle.lifting.specs.SafeRuns.{SafeRun}
use Rattle.lifting.specs.Steps.{applied, Safe, scaled_by, FactorSafe}
use Rattle.pictures.specs.Pictures.{max_side}
use Rattle.rolling_lines.specs.LentLines.{held_lines}
use Rattle.rolling_lines.specs.Schedule.{Line}

-- line k
abbrev pub line_in : ℕ → (ℕ → ℤ) → ℕ → Line
line_in w m k c = m (k * w + c)

-- another line k
unfoldable pub set_line : ℕ → ℕ → Line → (ℕ → ℤ) → ℕ → ℤ
set_line w k l m = patch (k * w) w l m

-- line `to` becomes line `from`
abbrev pub moved : ℕ → ℕ → ℕ → (ℕ → ℤ) → ℕ → ℤ
moved w to from m = set_line w to (line_in w m from) m

-- of two, the first in the row-low columns, which stand first
abbrev pub pick : {A : Type 0} → A → A → ℕ → ℕ → A
pick low high w c = cond (ltb c (lows w)) low high

-- what a stage makes of a line and of the lines beside it, and that it may be taken there
module _ (low high : Step) (w : ℕ) where
  abbrev pub on_lines : Line → Line → Line → Line
  on_lines own a b c = applied (pick low high w c) (own c) (a c) (b c)

  abbrev pub SafeLines : Line → Line → Line → Type 0
  SafeLines own a b = (c : ℕ) → c < w → Safe (pick low high w c) (own c) (a c) (b c)

-- line `own` becomes what a stage makes of it and of lines a and b
abbrev pub staged : Step → Step → ℕ → ℕ → ℕ → ℕ → (ℕ → ℤ) → ℕ → ℤ
staged low high w own a b m = set_line w own (on_lines low high w (line_in w m own) (line_in w m a) (line_in w m b)) m

abbrev pub SafeStage : Step → Step → ℕ → ℕ → ℕ → ℕ → (ℕ → ℤ) → Type 0
SafeStage low high w own a b m = SafeLines low high w (line_in w m own) (line_in w m a) (line_in w m b)

-- a scaling of a line
module _ (low high : Factor) (w : ℕ) where
  abbrev pub scaled_line : Line → Line
  scaled_line x c = scaled_by (pick low high w c) (x c)

  abbrev pub SafeScaling : Line → Type 0
  SafeScaling x = (c : ℕ) → c < w → FactorSafe (pick low high w c) (x c)

-- what is lent to hold has seven lines
pub record Lent (held : List ℤ) (w : ℕ) : Type 0 where
  pub narrow : w ≤ max_side
  pub room : held_lines * w ≤ length held

-- two of the seven lines
pub record Apart (j k : ℕ) : Type 0 where
  pub one : j < held_lines
  pub other : k < held_lines
  pub apart : ¬ (j ≡ k)

-- their places do not meet
pub lines_apart : (w j k : ℕ) → ¬ (j ≡ k) → (c i : ℕ) → c < w → i < w → j * w + c ≡ k * w + i → ⊥
lines_apart w j k f c i inside h e = go (dec_lt j k) (dec_lt k j)
  where
    go : Dec (j < k) → Dec (k < j) → ⊥
    go (yes l) d = omega (arith, mul-le-mul_right {m = suc j} {n = k} w l)
    go (no l) (yes l') = omega (arith, mul-le-mul_right {m = suc k} {n = j} w l')
    go (no l) (no l') = f (omega arith)

-- a line lies within what is lent
pub in_lent : {held : List ℤ} {w : ℕ} → Lent held w → (k : ℕ) → k < held_lines → k * w + w ≤ length held
in_lent {held} {w} lent k h = omega (arith, lent.room, mul-le-mul_right {m = suc k} {n = held_lines} w h)

-- ---- a line in two parts

module _ {A : Type 0} (t half n w : ℕ) (whole : half + n ≡ w) (new first second x y z : ℕ → A) (is : y ≡ patch t half first x) (then : z ≡ patch (t + half) n second y)
    (same : (j : ℕ) → j < half → first j ≡ new j) (same' : (j : ℕ) → j < n → second j ≡ new (half + j)) where
  pub in_two : z ≡ patch t w new x
  in_two = patch_is t w new x z
      (λ k h. ap (λ (g : ℕ → A). g k) then ∙ patch_below (t + half) n second y k (omega arith) ∙ ap (λ (g : ℕ → A). g k) is ∙ patch_below t half first x k h)
      (λ j h. go j h (dec_lt j half))
      (λ k h. ap (λ (g : ℕ → A). g k) then ∙ patch_above (t + half) n second y k (omega arith) ∙ ap (λ (g : ℕ → A). g k) is ∙ patch_above t half first x k (omega arith))
    where
      go : (j : ℕ) → j < w → Dec (j < half) → z (t + j) ≡ new j
      go j h (yes l) = ap (λ (g : ℕ → A). g (t + j)) then ∙ patch_below (t + half) n second y (t + j) (omega arith) ∙ ap (λ (g : ℕ → A). g (t + j)) is ∙ patch_in t half first x j l ∙ same j l
      go j h (no l) =
          let e : t + j ≡ t + half + (j - half) = omega arith in
          let i : half + (j - half) ≡ j = omega arith in
          ap z e ∙ ap (λ (g : ℕ → A). g (t + half + (j - half))) then ∙ patch_in (t + half) n second y (j - half) (omega arith) ∙ same' (j - half) (omega arith) ∙ ap new i

-- a line that is put and then changed value by value
pub changed_there : (g : ℤ → ℤ) (t n : ℕ) (l x y z : ℕ → ℤ) → y ≡ patch t n l x → z ≡ patch t n (λ j. g (y (t + j))) y → z ≡ patch t n (λ j. g (l j)) x
changed_there g t n l x y z is then = patch_is t n (λ j. g (l j)) x z
    (λ k h. ap (λ (u : ℕ → ℤ). u k) then ∙ patch_below t n _ y k h ∙ ap (λ (u : ℕ → ℤ). u k) is ∙ patch_below t n l x k h)
    (λ j h. ap (λ (u : ℕ → ℤ). u (t + j)) then ∙ patch_in t n _ y j h ∙ ap g (ap (λ (u : ℕ → ℤ). u (t + j)) is ∙ patch_in t n l x j h))
    (λ k h. ap (λ (u : ℕ → ℤ). u k) then ∙ patch_above t n _ y k h ∙ ap (λ (u : ℕ → ℤ). u k) is ∙ patch_above t n l x k h)

-- the first part picks the first of two, the second part the second
pub pick_low : {A : Type 0} (a b : A) (w j : ℕ) → j < lows w → a ≡ pick a b w j
pick_low a b w j h = sym (ap (λ (t : Bool). cond t a b) (lt-ltb j (lows w) h))

pub pick_high : {A : Type 0} (a b : A) (w j : ℕ) → b ≡ pick a b w (lows w + j)
pick_high a b w j = sym (ap (λ (t : Bool). cond t a b) (le-ltb (lows w + j) (lows w) (omega arith)))

-- a stage, first in the row-low columns
module _ (low high : Step) (w own a b : ℕ) (off-a : ¬ (own ≡ a)) (off-b : ¬ (own ≡ b)) (m y : ℕ → ℤ) (is : y ≡ ran (applied low) (own * w) (a * w) (b * w) (lows w) m) where
  -- what the row-high columns read is as it was
  own_kept : (j : ℕ) → y (own * w + lows w + j) ≡ m (own * w + (lows w + j))
  own_kept j = let e : own * w + lows w + j ≡ own * w + (lows w + j) = omega arith in ap (λ (g : ℕ → ℤ). g (own * w + lows w + j)) is ∙ patch_above (own * w) (lows w) _ m (own * w + lows w + j) (omega arith) ∙ ap m e

  side_kept : (k : ℕ) → ¬ (own ≡ k) → (j : ℕ) → j < highs w → y (k * w + lows w + j) ≡ m (k * w + (lows w + j))
  side_kept k off j h =
      let e : k * w + lows w + j ≡ k * w + (lows w + j) = omega arith in
      ap y e ∙ ap (λ (g : ℕ → ℤ). g (k * w + (lows w + j))) is ∙ patch_out (own * w) (lows w) _ m (k * w + (lows w + j)) (λ i q z. lines_apart w own k off i (lows w + j) (omega arith) (omega arith) (sym z))

  pub second_safe : SafeStage low high w own a b m → SafeRun high (own * w + lows w) (a * w + lows w) (b * w + lows w) (highs w) y
  second_safe safe j h =
      as_type (λ u. Safe (sym (pick_high low high w j) u) (sym (own_kept j) u) (sym (side_kept a off-a j h) u) (sym (side_kept b off-b j h) u)) (safe (lows w + j) (omega arith))

  pub stage_in_two : (z : ℕ → ℤ) → z ≡ ran (applied high) (own * w + lows w) (a * w + lows w) (b * w + lows w) (highs w) y → z ≡ staged low high w own a b m
  unfolding set_line
  stage_in_two z then =
      in_two (own * w) (lows w) (highs w) w (omega arith) _ _ _ m y z is then
      (λ j h. λ u. applied (pick_low low high w j h u) (m (own * w + j)) (m (a * w + j)) (m (b * w + j)))
      (λ j h. λ u. applied (pick_high low high w j u) (own_kept j u) (side_kept a off-a j h u) (side_kept b off-b j h u))

-- a scaling likewise
pub scaling_in_two : (low high : Factor) (w k place : ℕ) (m x y z : ℕ → ℤ) → y ≡ patch (place * w) (lows w) (λ j. scaled_by low (m (k * w + j))) x
    → z ≡ patch (place * w + lows w) (highs w) (λ j. scaled_by high (m (k * w + lows w + j))) y → z ≡ set_line w place (scaled_line low high w (line_in w m k)) x
unfolding set_line
scaling_in_two low high w k place m x y z is then =
    in_two (place * w) (lows w) (highs w) w (omega arith) _ _ _ x y z is then
    (λ j h. λ u. scaled_by (pick_low low high w j h u) (m (k * w + j)))
    (λ j h. let e : k * w + lows w + j ≡ k * w + (lows w + j) = omega arith in λ u. scaled_by (pick_high low high w j u) (m (e u)))

-- ---- one column

-- the lines in column c
abbrev pub column : ℕ → ℕ → (ℕ → ℤ) → ℕ → ℤ
column w c m k = m (k * w + c)

-- number k replaced
abbrev pub put : ℕ → ℤ → (ℕ → ℤ) → ℕ → ℤ
put k v u j = cond (eqb j k) v (u j)

put_own : (k : ℕ) (v : ℤ) (u : ℕ → ℤ) → put k v u k ≡ v
put_own k v u = go (eqb k k) (eqb_refl k)
  where
    go : (b : Bool) → T b → cond b v (u k) ≡ v
    go true t = refl
    go false t = absurd t

put_other : (j k : ℕ) (v : ℤ) (u : ℕ → ℤ) → ¬ (j ≡ k) → put k v u j ≡ u j
put_other j k v u f = go (eqb j k) (eqb→eq j k)
  where
    go : (b : Bool) → (T b → j ≡ k) → cond b v (u j) ≡ u j
    go true h = absurd (f (h tt))
    go false h = refl

module _ (w c : ℕ) (inside : c < w) where
  pub column_set : (k : ℕ) (l : Line) (m : ℕ → ℤ) → column w c (set_line w k l m) ≡ put k (l c) (column w c m)
  unfolding set_line
  column_set k l m = fun_ext λ j. go j (ℕ_discrete j k)
    where
      go : (j : ℕ) → Dec (j ≡ k) → patch (k * w) w l m (j * w + c) ≡ put k (l c) (column w c m) j
      go j (yes e) =
          ap (λ (i : ℕ). patch (k * w) w l m (i * w + c)) e ∙ patch_in (k * w) w l m c inside
          ∙ sym (ap (put k (l c) (column w c m)) e ∙ put_own k (l c) (column w c m))
      go j (no f) = patch_out (k * w) w l m (j * w + c) (λ i h e. lines_apart w j k f c i inside h e) ∙ sym (put_other j k (l c) (column w c m) f)

-- nothing past seven lines changes
pub past_set : (w k : ℕ) (l : Line) (m : ℕ → ℤ) → k < held_lines → (p : ℕ) → held_lines * w ≤ p → set_line w k l m p ≡ m p
unfolding set_line
past_set w k l m h p i = patch_above (k * w) w l m p (omega (arith, mul-le-mul_right {m = suc k} {n = held_lines} w h))

-- a line that is replaced, and another, in one column
pub line_own : (w c : ℕ) → c < w → (k : ℕ) (l : Line) (m : ℕ → ℤ) → line_in w (set_line w k l m) k c ≡ l c
line_own w c i k l m = ap (λ (u : ℕ → ℤ). u k) (column_set w c i k l m) ∙ put_own k (l c) (column w c m)

pub line_other : (w c : ℕ) → c < w → (j k : ℕ) (l : Line) (m : ℕ → ℤ) → ¬ (j ≡ k) → line_in w (set_line w k l m) j c ≡ line_in w m j c
line_other w c i j k l m off = ap (λ (u : ℕ → ℤ). u j) (column_set w c i k l m) ∙ put_other j k (l c) (column w c m) off
