-- A loop that fills a run of places, or lines, one after the other: what holds of it after so many turns.
use Rattle.std.specs.Prelude.{◌≡◌, refl, List, ℕ, ◌+◌, ◌<◌, ◌≤◌, ℤ, pos, length, set}
use Rattle.std.proofs.Common.{◌∙◌, arith, length-set}
use Rattle.slices.specs.Patch.{at, patch, patch_none, patch_set, patch_to}
use Rattle.slices.specs.PatchLines.{line_at, patch_lines, lines_none, lines_more, lines_to}
use Rattle.slices.specs.Runs.{Apart, own_as_was, side_as_was}

-- the first j places of a run of n from place t on are filled, and the rest is as before
pub record Filling (t n : ℕ) (new : ℕ → ℤ) (before now : List ℤ) (j : ℕ) : Type 0 where
  pub turns : j ≤ n
  pub long : length now ≡ length before
  pub held : at now ≡ patch t j new (at before)

pub filling_none : (t n : ℕ) (new : ℕ → ℤ) (l : List ℤ) → Filling t n new l l 0
filling_none t n new l = record { turns = omega arith; long = refl; held = patch_none t 0 new (at l) refl }

module _ {t n j : ℕ} {new : ℕ → ℤ} {before now : List ℤ} (h : Filling t n new before now j) where
  pub filling_more : j < n → t + n ≤ length before → (v : ℤ) → v ≡ new j → Filling t n new before (set now (t + j) v) (j + 1)
  filling_more some room v same = record {
    turns = omega arith;
    long = length-set now (t + j) v ∙ h.long;
    held = patch_set t j new (at before) now (pos 0) h.held (omega (arith, h.long)) v same;
  }

  pub filling_all : n ≤ j → at now ≡ patch t n new (at before)
  filling_all all = patch_to t j n new (at before) (at now) h.held (omega (arith, h.turns))

  -- the place that is filled next, and one of another run, are as before
  pub filling_own : at now (t + j) ≡ at before (t + j)
  filling_own = own_as_was t j new (at before) (at now) h.held

  pub filling_side : (s : ℕ) → Apart t s n → j < n → at now (s + j) ≡ at before (s + j)
  filling_side s off some = side_as_was t j new (at before) (at now) h.held s n off some

-- the first i of n lines of m places are filled, line i from place base + i * stride on, and the rest is as before
pub record FillingLines (base stride m n : ℕ) (new : ℕ → ℕ → ℤ) (before now : List ℤ) (i : ℕ) : Type 0 where
  pub turns : i ≤ n
  pub long : length now ≡ length before
  pub held : at now ≡ patch_lines (line_at base stride) m i new (at before)

pub lines_filling_none : (base stride m n : ℕ) (new : ℕ → ℕ → ℤ) (l : List ℤ) → FillingLines base stride m n new l l 0
lines_filling_none base stride m n new l = record { turns = omega arith; long = refl; held = lines_none (line_at base stride) m new (at l) }

module _ {base stride m n i : ℕ} {new : ℕ → ℕ → ℤ} {before now : List ℤ} (h : FillingLines base stride m n new before now i) where
  pub lines_filling_more : i < n → (next : List ℤ) → length next ≡ length now → (line : ℕ → ℤ) → at next ≡ patch (line_at base stride i) m line (at now) → ((j : ℕ) → j < m → line j ≡ new i j) → FillingLines base stride m n new before next (i + 1)
  lines_filling_more some next long line is same = record {
    turns = omega arith;
    long = long ∙ h.long;
    held = lines_more (line_at base stride) m new (at before) i (at now) (at next) line h.held is same;
  }

  pub lines_filling_all : n ≤ i → at now ≡ patch_lines (line_at base stride) m n new (at before)
  lines_filling_all all = lines_to (line_at base stride) m i n new (at before) (at now) h.held (omega (arith, h.turns))
