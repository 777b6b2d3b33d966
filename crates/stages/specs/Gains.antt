-- Gains (document 01: the judge): on an endless line, the sum of the magnitudes of node j's exact answer to a unit at each place
-- of node i, rounded up to a whole number of 2^-16. The input counts as a node.
use Rattle.std.specs.Prelude.{List, ℕ, zero, suc, ℤ, pos, negsuc, Bool, true, false, eqb}
use Rattle.std.proofs.Math.IntN.{suc_ℤ, pred_ℤ}
use Rattle.exact.specs.Fractions.{Frac, ◌⊕◌, whole, magnitude, rounded_up}
use Rattle.stages.specs.Stages.{Side, low, high, Stage, stage, made, worked}

-- a value at each place of a side; places are whole numbers of either sign
abbrev pub Line : Type 0
Line = ℤ → Frac

-- high k stands between low k and low k + 1
abbrev pub before : Side → ℤ → ℤ
before low k = pred_ℤ k
before high k = k

abbrev pub after : Side → ℤ → ℤ
after low k = k
after high k = suc_ℤ k

-- What stands on an endless line after m stages, with something added by each stage.
unfoldable pub values_after : List Stage → (Side → Line) → (ℕ → Line) → ℕ → Side → Line
unfolding made
values_after st input added zero = input
values_after st input added (suc m) = worked before after (stage st m).side (λ k own x y. made (stage st m).kind (stage st m).constant own x y ⊕ added m k) (values_after st input added m)

abbrev pub nothing : Line
nothing k = whole (pos 0)

abbrev pub same : ℤ → ℤ → Bool
same (pos a) (pos b) = eqb a b
same (pos a) (negsuc b) = false
same (negsuc a) (pos b) = false
same (negsuc a) (negsuc b) = eqb a b

-- 1 at place p, 0 elsewhere
abbrev pub unit : ℤ → Line
unit p k = elim (same p k) [ true ↦ whole (pos 1) | false ↦ whole (pos 0) ]

-- a line on one side of the input, nothing on the other
abbrev pub feed : Side → Line → Side → Line
feed low line low = line
feed low line high = nothing
feed high line low = nothing
feed high line high = line

-- a line added by stage i, nothing by the others
abbrev pub only : ℕ → Line → ℕ → Line
only i line n = elim (eqb i n) [ true ↦ line | false ↦ nothing ]

-- the sum of the magnitudes at the places from -m to m
unfoldable pub sum_to : ℕ → (ℤ → Frac) → Frac
sum_to zero f = magnitude (f (pos 0))
sum_to (suc m) f = sum_to m f ⊕ magnitude (f (pos (suc m))) ⊕ magnitude (f (negsuc m))

-- Where something comes in: the samples, even and odd places together; the lows or the highs alone; or what stage i leaves.
pub data Source : Type 0 where
  samples lows highs : Source
  node : ℕ → Source

-- A node is a side after m stages: what the last stage on that side left, or the input. Its answer, at place 0 (any other would do:
-- Endless), to a unit at place p of one side of the input, and of what stage i leaves
module _ (st : List Stage) (s : Side) (m : ℕ) where
  unfoldable pub input_answer : Side → ℤ → Frac
  input_answer t p = values_after st (feed t (unit p)) (λ i. nothing) m s (pos 0)

  unfoldable pub node_answer : ℕ → ℤ → Frac
  node_answer i p = values_after st (λ t. nothing) (only i (unit p)) m s (pos 0)

  -- the sum of the magnitudes of the answers to a unit at the places from -r to r of a source
  unfoldable pub sum_from : ℕ → Source → Frac
  sum_from r samples = sum_to r (input_answer low) ⊕ sum_to r (input_answer high)
  sum_from r lows = sum_to r (input_answer low)
  sum_from r highs = sum_to r (input_answer high)
  sum_from r (node i) = sum_to r (node_answer i)

  -- A stage reads no further than one place on either side, so that beyond place m every answer is zero and this is the sum over the
  -- endless line (Endless).
  unfoldable pub exact_gain : Source → Frac
  exact_gain i = sum_from m i

  unfoldable pub gain : Source → ℕ
  gain i = rounded_up 65536 (exact_gain i)
