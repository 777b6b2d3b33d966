use mathlib.Core.Path.{◌∙◌}
use native.Mathlib.Omega.{arith}
use Rattle.width_table.specs.Nodes.{Rows}
use Rattle.slices.specs.Patch.{at}
use Rattle.slices.specs.PatchLines.{line_at, patch_lines}
use Rattle.slices.specs.Parts.{row_of}
use Rattle.fixed_stages.specs.KernelLaws.{kernel_line, factor_line}
use Rattle.irreversible.proofs.work_rows.Goals as goal

-- rows of one
pub returns-then-front-lt2 : goal.returns-then-front-lt2
returns-then-front-lt2 c =
    let a = c.args in
    let x = at a.plane.now in
    let q = factor_line a.table a.level Rows a.front.w c.single_of.ensures (omega arith) in
    c.scale_part.ensures ∙ (λ u. patch_lines (line_at 0 a.front.stride) a.front.w a.front.h (λ r. q u (row_of a.front.stride 0 x r)) x)

-- rows of two or more
pub returns : goal.returns
returns c =
    let a = c.args in
    let x = at a.plane.now in
    let q = kernel_line a.table a.level Rows a.front.w c.kernel_of.ensures (record { least = omega arith }) in
    c.rows.ensures.plane ∙ (λ u. patch_lines (line_at 0 a.front.stride) a.front.w a.front.h (λ c. q u (row_of a.front.stride 0 x c)) x)

pub scale_part-requires : goal.scale_part-requires
scale_part-requires c = record {
  part = c.requires.part;
  by_index = λ r j i k. c.single_of.ensures.safe _ ((c.requires.safe r i).single (omega arith) j k);
}

pub rows-requires : goal.rows-requires
rows-requires c = record {
  part = (c.requires.part, record { least = omega arith }, c.requires.across);
  by_index = (λ r i. c.kernel_of.ensures.safe _ _ ((c.requires.safe r i).long (record { least = omega arith })));
}
