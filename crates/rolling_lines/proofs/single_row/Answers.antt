-- `rolling_lines::single_row` meets its contract: the sample is put, and cut where it stands.
use mathlib.Core.Path.{◌≡◌, sym, ◌∙◌, ap, subst}
use Prim.Native.Nat.{ℕ, ◌+◌, ◌*◌}
use native.Mathlib.Omega.{arith}
use borrow.Author.Rules.{sfits_of}
use lib.IntN.{ℤ, pos}
use lib.ListN.{length-set}
use mir.Syntax.{w32}
use mir.Facts.{to_z-of_z}
use Rattle.width_table.specs.Limits.{form_depth}
use Rattle.width_table.specs.Nodes.{Rows}
use Rattle.slices.specs.Patch.{at, patch, patch_in, patch_one}
use Rattle.lifting.specs.Steps.{FactorSafe, scaled_by}
use Rattle.slices.specs.Pixels.{pixel_line}
use Rattle.precision.specs.Promise.{promise}
use Rattle.fixed_stages.specs.KernelLaws.{factor_line}
use Rattle.rolling_lines.specs.Memory.{set_line, changed_there}
use Rattle.rolling_lines.specs.Rows.{pixels_sampled}
use Rattle.rolling_lines.specs.FiveBits.{row_safe}
use Rattle.rolling_lines.proofs.single_row.Goals as goal

pub scale_here-requires : goal.scale_here-requires
scale_here-requires c =
    let a = c.args in
    let right = c.requires.0 in
    let l = pixel_line a.pixels.now c.middle-middle.result 0 in
    let safe = row_safe a.table right.accepted a.pixels.now 1 right.side right.below right.one l (λ k h. ap (λ (x : ℕ → ℤ). x k) (pixels_sampled a.table a.pixels.now 1 _ c.middle-middle.ensures)) in record {
      n_in_bounds = simp length-set (omega (arith, c.requires.1.room));
      by_index = (λ j h. subst (FactorSafe c.single_of-single.result) (sym (ap (λ (u : ℕ → ℤ). u (a.line + j)) (patch_one a.line l a.held.now (pos 0) (omega (arith, c.requires.1.room)) _ (to_z-of_z {w = w32} (sfits_of c.centred.type_inv) ∙ c.centred.ensures)) ∙ patch_in a.line 1 l (at a.held.now) j h))
          (c.single_of-single.ensures.safe (l j) (safe.single (omega arith) j h)));
    }

pub returns : goal.returns
unfolding set_line
returns c =
    let a = c.args in
    let l = pixel_line a.pixels.now c.middle-middle.result 0 in
    let place : a.line ≡ a.line * 1 = omega arith in
    let line = factor_line a.table 1 Rows 1 c.single_of-single.ensures (omega arith) in
    changed_there (scaled_by c.single_of-single.result) a.line 1 l (at a.held.now) _ _
    (patch_one a.line l a.held.now (pos 0) (omega (arith, c.requires.1.room)) _ (to_z-of_z {w = w32} (sfits_of c.centred.type_inv) ∙ c.centred.ensures))
    c.scale_here.ensures
    ∙ (λ u. patch (place u) 1 (line u (pixels_sampled a.table a.pixels.now 1 _ c.middle-middle.ensures u)) (at a.held.now))

pub middle-middle-requires : goal.middle-middle-requires
middle-middle-requires c = form_depth c.args.table (promise c.args.table c.requires.0.accepted).form
