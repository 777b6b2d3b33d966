-- `rolling_lines::row_to` meets its contract.
use mathlib.Core.Path.{◌≡◌, sym, ◌∙◌, ap, subst}
use Prim.Native.Nat.{ℕ, ◌*◌}
use native.Mathlib.Omega.{arith}
use lib.IntN.{ℤ}
use Rattle.width_table.specs.Limits.{form_depth}
use Rattle.width_table.specs.Nodes.{Rows}
use Rattle.lifting.specs.declared.Kernel.TheVariants.{Two}
use Rattle.slices.specs.Patch.{at, patch}
use Rattle.lifting.specs.Kernels.{worked}
use Rattle.pictures.specs.Pictures.{sample}
use Rattle.precision.specs.Promise.{promise}
use Rattle.fixed_stages.specs.KernelLaws.{kernel_line, stages_kernel}
use Rattle.rolling_lines.specs.Memory.{set_line, Lent, in_lent}
use Rattle.rolling_lines.specs.Rows.{LineRight, row_of, pixels_sampled}
use Rattle.rolling_lines.specs.FiveBits.{row_safe}
use Rattle.rolling_lines.proofs.row_to.Goals as goal

pub single_row-requires : goal.single_row-requires
single_row-requires c =
    let one : c.args.w ≡ 1 =
    omega (arith, c.requires.0.side.0) in
    (subst (LineRight c.args.table c.args.pixels.now) one c.requires.0, subst (Lent c.args.held.now) one c.requires.1, c.requires.2)

pub returns-then-w-lt2 : goal.returns-then-w-lt2
returns-then-w-lt2 c =
    let one : c.args.w ≡ 1 =
    omega (arith, c.requires.0.side.0) in
    let a = c.args in
    c.single_row.ensures ∙ ap (λ (w : ℕ). set_line w a.line (row_of a.table a.pixels.now w) (at a.held.now)) (sym one)

-- of two or more
pub pixel_line-requires : goal.pixel_line-requires
pixel_line-requires c =
    let a = c.args in
    let right = c.requires.0 in
    let samples = pixels_sampled a.table a.pixels.now a.w _ c.middle-middle.ensures in
    let safe = row_safe a.table right.accepted a.pixels.now a.w right.side right.below right.one _ (λ i h. ap (λ (x : ℕ → ℤ). x i) samples) in
    record {
      w_bound = (omega (arith, c.requires.1.narrow), record { least = omega arith }, right.long, in_lent c.requires.1 a.line c.requires.2);
      safe_kernel = (stages_kernel a.table 1 Rows c.stages_of-stages.result c.stages_of-stages.ensures).safe _ _ (safe.long (record { least = omega arith }));
    }

pub returns : goal.returns
unfolding set_line
returns c =
    let a = c.args in
    let stages = c.stages_of-stages.result in
    -- the stages are the kernel of the rows of level 1
    let rows-kernel = stages_kernel a.table 1 Rows stages c.stages_of-stages.ensures in
    let samples = pixels_sampled a.table a.pixels.now a.w _ c.middle-middle.ensures in
    c.pixel_line.ensures
    ∙ (λ u. patch (a.line * a.w) a.w (worked (Two stages) a.w (samples u)) (at a.held.now))
    ∙ (λ u. patch (a.line * a.w) a.w (kernel_line a.table 1 Rows a.w rows-kernel (record { least = omega arith }) u (sample a.pixels.now a.table.depth a.w 0)) (at a.held.now))

pub middle-middle-requires : goal.middle-middle-requires
middle-middle-requires c = form_depth c.args.table (promise c.args.table c.requires.0.accepted).form
