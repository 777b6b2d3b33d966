-- The cases that document 01 marks P (numbers to hold it against), by computation on the definitions.
use Rattle.std.specs.Prelude.{ℕ, List, [], ◌∷◌, map, ◌≡◌, refl, ℤ, pos, negsuc, get_or, length}
use Rattle.lines.specs.Lines.{low_after, high_before, high_after, on_highs, on_lows, lows_first}
use Rattle.lines.specs.Planes.{from_one, tabulate}
use Rattle.exact.specs.Fractions.{◌⊕◌, ◌⊗◌, whole, magnitude, rounded_up}
use Rattle.numbers.specs.Ceiling.{up_div}
use Rattle.exact.specs.Exact.{alpha, lift}
use Rattle.stages.specs.Stages as S
use Rattle.stages.specs.Stages.{forward, made, uncut}
use Rattle.stages.specs.Gains.{samples, node, values_after, sum_to, input_answer, node_answer, sum_from, exact_gain, gain}
use Rattle.reversible.specs.Reversible.{predict, update, high, low, reversible_long, reversible_pass}
use Rattle.stages.specs.Fixed.{step, cut, cut_product, nearest}
use Rattle.width_table.specs.Nodes.{P1}
use Rattle.fixed_stages.specs.Fixed.{value_at, at_p1}
use Rattle.listing.specs.Listing.{copy_text}
use Rattle.listing.specs.WorkedListings.{document}

-- a 5/3 pass over a list: the lows, then the highs
abbrev pub pass : List ℤ → List ℤ
pass l = tabulate (length l) (reversible_pass (length l) (λ i. get_or l i (pos 0)))

-- Node P1 of the lifting with B = 1 and F = 1, the nodes' f: own pixel, then neighbours, as integers. They are a line of three samples.
abbrev pub node_p1 : ℤ → ℤ → ℤ → ℕ → ℤ
node_p1 own x y f = value_at (λ n. 1) (λ n. uncut) 1 (λ n. f) 3 (λ i. get_or (x ∷ own ∷ y ∷ []) i (pos 0)) P1 0

pub record Table : Type 0 where
  -- 0 0 gives 0 | 0; 1 3 gives 2 | 2; -1 0 gives 0 | 1; 0 -3 gives -1 | -3; 3 0 -2 gives 3 -2 | 0; 0 0 0 1 gives 0 0 | 0 1
  pub passes :
      map pass ((pos 0 ∷ pos 0 ∷ []) ∷ (pos 1 ∷ pos 3 ∷ []) ∷ (negsuc 0 ∷ pos 0 ∷ []) ∷ (pos 0 ∷ negsuc 2 ∷ []) ∷ (pos 3 ∷ pos 0 ∷ negsuc 1 ∷ []) ∷ (pos 0 ∷ pos 0 ∷ pos 0 ∷ pos 1 ∷ []) ∷ [])
      ≡ (pos 0 ∷ pos 0 ∷ []) ∷ (pos 2 ∷ pos 2 ∷ []) ∷ (pos 0 ∷ pos 1 ∷ []) ∷ (negsuc 0 ∷ negsuc 2 ∷ []) ∷ (pos 3 ∷ negsuc 1 ∷ pos 0 ∷ []) ∷ (pos 0 ∷ pos 0 ∷ pos 0 ∷ pos 1 ∷ []) ∷ []
  -- alpha becomes -3/2
  pub alpha_one : nearest alpha 1 ≡ negsuc 2
  -- -1; -1, 0 with f 0 gives 0
  pub stage_0 : node_p1 (negsuc 0) (negsuc 0) (pos 0) 0 ≡ pos 0
  -- with f 2 gives 1
  pub stage_2 : node_p1 (negsuc 0) (negsuc 0) (pos 0) 2 ≡ pos 1
  -- -1; 0, 0 with f 0 gives -1
  pub stage_down : node_p1 (negsuc 0) (pos 0) (pos 0) 0 ≡ negsuc 0
  -- the listing of 3 1, 2 2, 5 7 4 4: "53 3 1 2 2", "2 1", "-2 -2" (document 02, job 4)
  pub listing : copy_text (3 ∷ 1 ∷ 0 ∷ 2 ∷ 0 ∷ 2 ∷ 0 ∷ 5 ∷ 0 ∷ 7 ∷ 0 ∷ 4 ∷ 0 ∷ 4 ∷ [])
      ≡ 53 ∷ 51 ∷ 32 ∷ 51 ∷ 32 ∷ 49 ∷ 32 ∷ 50 ∷ 32 ∷ 50 ∷ 10 ∷ 50 ∷ 32 ∷ 49 ∷ 10 ∷ 45 ∷ 50 ∷ 32 ∷ 45 ∷ 50 ∷ 10 ∷ []
  -- in 2^-16: input to P1 273434, P1 to U1 6945, U2 to G1 75341 (stages 0, 1, 3 and 4 leave P1, U1, U2 and G1)
  pub gains : gain forward S.high 1 samples ∷ gain forward S.low 2 (node 0) ∷ gain forward S.low 5 (node 3) ∷ [] ≡ 273434 ∷ 6945 ∷ 75341 ∷ []

pub table : Table
unfolding reversible_pass reversible_long from_one low high on_highs on_lows low_after high_before high_after lows_first predict update tabulate at_p1 step cut_product cut nearest gain exact_gain sum_from sum_to input_answer node_answer values_after made rounded_up up_div lift ◌⊕◌ ◌⊗◌ whole magnitude
table = record { passes = refl; alpha_one = refl; stage_0 = refl; stage_2 = refl; stage_down = refl; listing = document; gains = refl }
