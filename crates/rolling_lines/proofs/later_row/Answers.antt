-- `rolling_lines::later_row` meets its contract.
use mathlib.Core.Path.{sym, ◌∙◌, ap, subst}
use Prim.Native.Nat.{ℕ, ◌*◌, ◌≤◌}
use native.Mathlib.Omega.{arith}
use borrow.Author.Rules.{rules}
use lib.IntN.{ℤ}
use Rattle.width_table.specs.declared.WidthTable.{WidthTable}
use Rattle.slices.specs.Patch.{at}
use Rattle.rolling_lines.specs.LentLines.{held_lines}
use Rattle.rolling_lines.specs.Program.{LaterFits, later_done, later_kept, two_given}
use Rattle.rolling_lines.specs.ProgramLaws.{past_later}
use Rattle.rolling_lines.specs.Rows.{row_of}
use Rattle.rolling_lines.specs.Worked.{later_even}
use Rattle.rolling_lines.specs.WorkLaws.{kept_from, kept_then, later_same, later_given, later_kept_lem, later_fits}
use Rattle.rolling_lines.proofs.later_row.Goals as goal

pub later_low-requires : goal.later_low-requires
later_low-requires c =
    let a = c.args in
    let (stages, table) = c.columns_of.ensures in
    (search rules, stages, subst (λ (t : WidthTable). LaterFits t a.w a.before (at c.low_row.new.held)) (sym table) (later_fits a.table a.w _ c.low_row.ensures.fits c.low_row.ensures.enters a.before c.requires.3), c.requires.2)

pub returns : goal.returns
returns c k turn =
    let a = c.args in
    let row = row_of a.table a.pixels.now a.w in
    let ready = c.low_row.ensures in
    let m = at c.low_row.new.held in
    let some : 1 ≤ a.w = omega (arith, c.requires.0.side.0) in
    let done = c.later_low.ensures.held ∙ ap (λ (t : WidthTable). later_kept t a.w a.before m) c.columns_of.ensures.1 in
    let given = c.later_low.ensures.out ∙ ap (λ (t : WidthTable). two_given t a.w 0 (later_done t a.w a.before m) (at a.out.now)) c.columns_of.ensures.1 in (
      record {
        past = kept_then (held_lines * a.w) a.held.now _ _ ready.past (kept_from (held_lines * a.w) _ _ (search rules) (λ p i. ap (λ (m : ℕ → ℤ). m p) done ∙ past_later a.w a.table a.before m p i));
        works = λ sound. later_same a.table a.w row a.held.now turn _ (done ∙ ap (later_kept a.table a.w a.before) (ready.same (sound (later_even turn))));
      },
      record {
        past = later_kept_lem a.table a.w row a.held.now some a.out.now _ c.requires.2 (search rules) turn (later_done a.table a.w a.before m) given;
        works = λ sound. later_given a.table a.w row a.held.now some a.out.now _ c.requires.2 (search rules) turn (given ∙ ap (λ (m : ℕ → ℤ). two_given a.table a.w 0 (later_done a.table a.w a.before m) (at a.out.now)) (ready.same (sound (later_even turn))));
      },
    )
