use Rattle.std.proofs.Common.{ℕ, ◌-◌, ◌/◌, ◌%◌, ◌∙◌, ap, [], ◌∷◌, length}
use Rattle.std.proofs.Math.Seq.{paste}
use Rattle.table_bytes.specs.Fields.{head_bytes}
use Prim.Native.Nat.{ℕ, ◌+◌, ◌-◌, ◌≤◌}
use mathlib.Core.Path.{◌≡◌}
use mathlib.Core.Bool.{true}
use native.Mathlib.Omega.{arith}
use Rattle.table_bytes.specs.Fields.{IsTag, head_bytes, table_size, value_start, value_length}
use Rattle.table_bytes.specs.Tags.{number_of, is_tag}
use Rattle.table_bytes.specs.ReadLaws.{start_after_lem, value_ends}
use Rattle.table_bytes.specs.WriteLaws.{field_put}
use Rattle.table_bytes.proofs.put_field.Goals as goal

-- the field lies within the table
within : (levels tag n : ℕ) → IsTag tag → n ≡ value_length levels tag → (value_start levels tag - head_bytes + head_bytes ≡ value_start levels tag) × (value_start levels tag + n ≤ table_size true levels)
within levels tag n h e = (start_after_lem levels tag h, omega (arith, e, value_ends levels tag h))

pub returns : goal.returns
returns c =
    let a = c.args in
    let in_place = within a.levels (number_of a.tag) _ (is_tag a.tag) c.requires.1 in
    field_put a.levels (number_of a.tag) (is_tag a.tag) c.value_start-start.result c.value_start-start.ensures a.value.now a.lent.now _ _ c.requires.1 (omega (arith, in_place, c.value_start-start.ensures, c.requires.2)) (c.put.ensures ∙ ap (λ (t : ℕ). paste a.lent.now (c.value_start-start.result - head_bytes) (t ∷ length a.value.now / 256 ∷ length a.value.now % 256 ∷ []) head_bytes) c.number.ensures) c.put-2.ensures
