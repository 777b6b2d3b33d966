-- The code's tags, by their numbers.
use Rattle.std.specs.Prelude.{ℕ, ◌≡◌, false, Result, MatchResult}
use Rattle.std.proofs.Common.{arith}
use Rattle.refusals.specs.declared.Refusal.{Refusal}
use Rattle.refusals.specs.declared.Refusal.TheVariants.{WrongTag}
use Rattle.table_bytes.specs.declared.Tag.{Tag}
use Rattle.table_bytes.specs.declared.Tag.TheVariants.{Depth, Levels, Constants, Nodes, Products}
use Rattle.table_bytes.specs.Fields.{depth_tag, levels_tag, constants_tag, nodes_tag, products_tag, tag_right, IsTag}

abbrev pub number_of : Tag → ℕ
number_of Depth = depth_tag
number_of Levels = levels_tag
number_of Constants = constants_tag
number_of Nodes = nodes_tag
number_of Products = products_tag

-- what a byte names: the tag with this number, or nothing where it is no tag's (2)
abbrev pub Names : ℕ → Result Tag Refusal → Type 0
Names number r = MatchResult r (λ tag. number_of tag ≡ number) (λ why. (why ≡ WrongTag) × (tag_right number ≡ false))

pub is_tag : (tag : Tag) → IsTag (number_of tag)
is_tag Depth = (omega arith, omega arith)
is_tag Levels = (omega arith, omega arith)
is_tag Constants = (omega arith, omega arith)
is_tag Nodes = (omega arith, omega arith)
is_tag Products = (omega arith, omega arith)
