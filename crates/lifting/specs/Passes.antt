-- A pair of lifting steps over a line: the highs take part of the lows, then the lows of the new highs.
use Rattle.std.specs.Prelude.{ℕ, ◌+◌, ◌*◌, ◌<◌, ℤ}
use Rattle.lifting.specs.declared.Pair.{Pair}
use Rattle.lifting.specs.Steps.{applied, Safe}
use Rattle.lines.specs.Lines.{lows, highs, on_highs, on_lows}
pub use Rattle.lines.specs.Lines.{Liftable}

module _ {A : Type 0} (x : ℕ → A) where
  abbrev pub evens : ℕ → A
  evens i = x (2 * i)

  abbrev pub odds : ℕ → A
  odds i = x (2 * i + 1)

-- what a pair makes of the lows l and the highs h
module _ (pair : Pair) (n : ℕ) (l h : ℕ → ℤ) where
  abbrev pub lifted_highs : ℕ → ℤ
  lifted_highs = on_highs (applied pair.highs) n l h

  abbrev pub lifted_lows : ℕ → ℤ
  lifted_lows = on_lows (applied pair.lows) n l lifted_highs

-- every number on the way fits
pub record SafePair (pair : Pair) (n : ℕ) (l h : ℕ → ℤ) : Type 0 where
  pub on_highs_lem : (i : ℕ) → i < highs n → on_highs (Safe pair.highs) n l h i
  pub on_lows_lem : (i : ℕ) → i < lows n → on_lows (Safe pair.lows) n l (lifted_highs pair n l h) i
