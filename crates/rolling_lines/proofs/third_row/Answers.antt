-- `rolling_lines::third_row` meets its contract.
use mathlib.Core.Path.{sym, ◌∙◌, ap, subst}
use Prim.Native.Nat.{ℕ, ◌*◌}
use borrow.Author.Rules.{rules}
use lib.IntN.{ℤ}
use Rattle.width_table.specs.declared.WidthTable.{WidthTable}
use Rattle.slices.specs.Patch.{at}
use Rattle.rolling_lines.specs.LentLines.{held_lines}
use Rattle.rolling_lines.specs.Program.{FirstFits, first_done, first_kept}
use Rattle.rolling_lines.specs.ProgramLaws.{past_then, past_first, past_kept}
use Rattle.rolling_lines.specs.Rows.{row_of}
use Rattle.rolling_lines.specs.WorkLaws.{kept_from, kept_then, two_same, two_fits}
use Rattle.rolling_lines.proofs.third_row.Goals as goal

pub first_low-requires : goal.first_low-requires
first_low-requires c =
    let a = c.args in
    let (stages, table) = c.columns_of.ensures in
    (search rules, stages, subst (λ (t : WidthTable). FirstFits t a.w 6 (at c.low_row.new.held)) (sym table) (two_fits a.table a.w _ c.low_row.ensures.fits c.low_row.ensures.enters))

pub returns : goal.returns
returns c =
    let a = c.args in
    let row = row_of a.table a.pixels.now a.w in
    let ready = c.low_row.ensures in
    let done = c.first_low.ensures ∙ ap (λ (t : WidthTable). first_kept a.w (first_done t a.w 6 (at c.low_row.new.held))) c.columns_of.ensures.1 in
    record {
      past = kept_then (held_lines * a.w) a.held.now _ _ ready.past
          (kept_from (held_lines * a.w) _ _ (search rules) (λ p i. ap (λ (m : ℕ → ℤ). m p) done ∙ past_then a.w (past_first a.w a.table 6 (at c.low_row.new.held)) (past_kept a.w (first_done a.table a.w 6 (at c.low_row.new.held))) p i));
      works = λ sound. two_same a.table a.w row a.held.now _ (done ∙ ap (λ (m : ℕ → ℤ). first_kept a.w (first_done a.table a.w 6 m)) (ready.same (sound tt)));
    }
