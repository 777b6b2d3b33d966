use Prim.Native.Nat.{ℕ, ◌+◌, ◌≤◌}
use mathlib.Core.Path.{◌≡◌, sym, ◌∙◌, ap, subst}
use mathlib.Core.Bool.{true}
use mathlib.Core.List.{List}
use native.Mathlib.Omega.{arith}
use lib.Dec.{T}
use lib.ListN.{length}
use Rattle.table_bytes.specs.Fields.{IsTag, value_start, value_length}
use Rattle.refusals.specs.Answers.{passed}
use Rattle.table_bytes.specs.Bytes.{levels_in, has_fifth, form}
use Rattle.table_bytes.specs.Names.{has_tag}
use Rattle.table_bytes.specs.BytesLaws.{form_long}
use Rattle.table_bytes.specs.Tags.{number_of, is_tag}
use Rattle.table_bytes.specs.ReadLaws.{value_within}
use Rattle.table_bytes.proofs.value_in.Goals as goal

-- the value is there
within : (b : List ℕ) (tag : ℕ) → IsTag tag → form b ≡ passed → has_tag b tag ≡ true → value_start (levels_in b) tag + value_length (levels_in b) tag ≤ length b
within b tag h formed has = omega (arith, value_within (levels_in b) (has_fifth b) tag h (subst T (sym has) tt), form_long b formed)

-- where it starts and how long it is
starts : (tag L l s n : ℕ) → l ≡ L → s ≡ value_start l tag → n ≡ value_length l tag → (s ≡ value_start L tag) × (n ≡ value_length L tag)
starts tag L l s n e f g = (f ∙ ap (λ (k : ℕ). value_start k tag) e, g ∙ ap (λ (k : ℕ). value_length k tag) e)

pub slice_bounds-result-end : goal.slice_bounds-result-end
slice_bounds-result-end c =
    let b = c.args.bytes.now in
    let there = within b (number_of c.args.tag) (is_tag c.args.tag) c.requires.0 c.requires.1 in
    let start = starts (number_of c.args.tag) (levels_in b) _ _ _ c.levels_in-levels.ensures c.value_start-start.ensures c.value_length.ensures in
    omega (arith, start, there)
