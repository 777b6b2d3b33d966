-- `viewing::finish_row` meets its contract: what the row gives is small, and so it can be shown; zeros put back into its place clear it.
use Rattle.std.specs.Prelude.{ℕ, ◌≡◌, ◌<◌, ◌+◌, ◌-◌, List, ℤ, pos, get_or}
use Rattle.std.proofs.Common.{ap, ◌∙◌, arith}
use Rattle.std.proofs.lemmas.List.{get_or-replicate}
use Rattle.slices.specs.Patch.{patch_ext, patch_part, patch_to}
use Rattle.viewing.specs.View.{pixel}
use Rattle.viewing.specs.RowSteps.{taken_small}
use Rattle.viewing.proofs.finish_row.Goals as goal

pub show_row-requires : goal.show_row-requires
show_row-requires c =
    record {
      le_depth = (c.requires.depth.0, c.requires.depth.1, omega (arith, c.requires.row.room), c.requires.room);
      by_index = taken_small c.requires c.row.new.line c.row.ensures.row;
    }

pub returns : goal.returns
returns c =
    let a = c.args in
    let zero : (j : ℕ) → j < a.from + a.w - a.from → get_or c.fill.new.self j (pos 0) ≡ pos 0 =
    λ j h. ap (λ (l : List ℤ). get_or l j (pos 0)) (c.fill.ensures.after (λ y e. e)) ∙ get_or-replicate _ j (pos 0) (pos 0) (omega arith) in
    record {
      pixels = c.show_row.ensures ∙ patch_ext a.from a.w _ _ (λ k. get_or a.pixels.now k 0) (λ j h. ap (pixel a.depth) (c.row.ensures.row j h));
      work = patch_to _ _ _ _ _ _ (patch_part a.from (a.from + a.w - a.from) _ a.work.now c.fill.new.self (pos 0) (omega (arith, c.requires.row.held)) (omega arith) zero) (omega arith);
    }
