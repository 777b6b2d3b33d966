use mathlib.Core.Path.{◌∙◌}
use native.Mathlib.Omega.{arith}
use Rattle.width_table.specs.Numbered.{pass_of}
use Rattle.slices.specs.Patch.{at}
use Rattle.slices.specs.PatchLines.{line_at, patch_lines}
use Rattle.slices.specs.Parts.{column_of}
use Rattle.fixed_stages.specs.KernelLaws.{kernel_line, factor_line}
use Rattle.irreversible.proofs.columns_by.Goals as goal

-- columns of one
pub returns-then-part-lt2 : goal.returns-then-part-lt2
returns-then-part-lt2 c =
    let a = c.args in
    let x = at a.plane.now in
    let q = factor_line a.table a.level (pass_of a.pass) a.part.h c.single_of.ensures (omega arith) in
    c.scale_part.ensures ∙ (λ u. patch_lines (line_at a.part.from a.part.stride) a.part.w a.part.h (λ r j. q u (column_of a.part.stride a.part.from x j) r) x)

-- columns of two or more
pub returns : goal.returns
returns c =
    let a = c.args in
    let x = at a.plane.now in
    let q = kernel_line a.table a.level (pass_of a.pass) a.part.h c.kernel_of.ensures (record { least = omega arith }) in
    c.columns.ensures.plane ∙ (λ u. patch_lines (line_at a.part.from a.part.stride) a.part.w a.part.h (λ c j. q u (column_of a.part.stride a.part.from x j) c) x)

pub scale_part-requires : goal.scale_part-requires
scale_part-requires c = record {
  part = c.requires.0.part;
  by_index = λ r j i k. c.single_of.ensures.safe _ ((c.requires.0.safe j k).single (omega arith) r i);
}

pub columns-requires : goal.columns-requires
columns-requires c = record {
  part = (c.requires.0.part, record { least = omega arith }, c.requires.0.down);
  by_index = (λ j i. c.kernel_of.ensures.safe _ _ ((c.requires.0.safe j i).long (record { least = omega arith })));
}
