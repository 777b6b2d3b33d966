-- The rows of the pixels are those of the plane that holds them.
use mathlib.Core.Path.{◌≡◌, sym, ◌∙◌}
use Prim.Native.Nat.{ℕ, ◌*◌, ◌-◌, ◌^◌}
use native.Mathlib.Omega.{arith}
use lib.IntN.{ℤ}
use mathlib.Core.List.{List}
use Rattle.width_table.specs.Nodes.{Rows}
use Rattle.slices.specs.Patch.{at, patch}
use Rattle.slices.specs.PatchLines.{line_at, patch_lines}
use Rattle.slices.specs.Runs.{as_type}
use Rattle.lifting.specs.Kernels.{worked, SafeKernel}
use Rattle.slices.specs.Parts.{row_of}
use Rattle.slices.specs.Pixels.{pixel_line, loaded}
use Rattle.lifting.specs.PixelLaws.{put_loaded, pixel_rows_worked}
use Rattle.width_table.specs.Limits.{form_depth}
use Rattle.precision.specs.Promise.{promise}
use Rattle.fixed_stages.specs.Kernels.{kernel_of}
use Rattle.fixed_stages.specs.KernelLaws.{kernel_line}
use Rattle.fixed_stages.specs.Safe.{LineSafe}
use Rattle.irreversible.specs.CallSteps.{first_ready, part_of}
use Rattle.irreversible.proofs.pixel_rows.Goals as goal

-- pixels as they are: the plane that holds them
put : (pixels : List ℕ) (w h : ℕ) (plane new : List ℤ) {middle : ℕ} (m : ℕ) → at new ≡ patch 0 (w * h) (pixel_line pixels m 0) (at plane) → m ≡ middle → at new ≡ loaded pixels middle w h (at plane)
put pixels w h plane new m e is = e ∙ put_loaded pixels m w h (at plane) ∙ (λ u. loaded pixels (is u) w h (at plane))

pub work_rows-requires : goal.work_rows-requires
work_rows-requires c =
    let a = c.args in
    let f = first_ready c.requires in
    let held = put a.pixels.now a.w a.h a.plane.now c.put_pixels.new.plane c.middle-middle.result c.put_pixels.ensures c.middle-middle.ensures in
    record {
      is_level = f.is_level;
      part = part_of f.part _ (omega arith) 0 a.w (omega arith);
      across = f.across;
      safe = λ r i. as_type (λ u. LineSafe a.table 1 Rows a.w (row_of a.w 0 (sym held u) r)) (f.safe.on_rows r i);
    }

pub pixel_rows-requires : goal.pixel_rows-requires
unfolding kernel_of
pixel_rows-requires c =
    let a = c.args in
    let f = first_ready c.requires in record {
      part = (f.part, record { least = omega arith }, f.across, c.kernel_of-kernel.ensures.way tt, c.requires.first);
      by_index = (λ r i. c.kernel_of-kernel.ensures.safe _ _ (as_type (λ u. SafeKernel (kernel_of a.table 1 Rows) a.w (pixel_line a.pixels.now (sym c.middle-middle.ensures u) (r * a.w))) ((f.on_pixels r i).long (record { least = omega arith }))));
    }

pub returns : goal.returns
returns c =
    let a = c.args in
    let x = loaded a.pixels.now (2 ^ (a.table.depth - 1)) a.w a.h (at a.plane.now) in
    let q = kernel_line a.table 1 Rows a.w c.kernel_of-kernel.ensures (record { least = omega arith }) in
    c.pixel_rows.ensures.plane
    ∙ (λ u. patch_lines (line_at 0 a.w) a.w a.h (λ r. worked c.kernel_of-kernel.result a.w (pixel_line a.pixels.now (c.middle-middle.ensures u) (r * a.w))) (at a.plane.now))
    ∙ pixel_rows_worked c.kernel_of-kernel.result a.pixels.now (2 ^ (a.table.depth - 1)) a.w a.h (at a.plane.now) c.requires.picture.width.0 (record { least = omega arith })
    ∙ (λ u. patch_lines (line_at 0 a.w) a.w a.h (λ r. q u (row_of a.w 0 x r)) x)

pub middle-middle-requires : goal.middle-middle-requires
middle-middle-requires c = form_depth c.args.table (promise c.args.table c.requires.accepted).form

pub kernel_of-kernel-requires : goal.kernel_of-kernel-requires
kernel_of-kernel-requires c = ((first_ready c.requires).is_level, (omega arith, omega arith))
