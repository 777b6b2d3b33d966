-- `rolling_lines::low_row` meets its contract.
use mathlib.Core.Path.{sym, ◌∙◌, ap, subst}
use mathlib.Core.List.{List}
use Prim.Native.Nat.{ℕ, ◌*◌}
use native.Mathlib.Omega.{arith}
use borrow.Author.Rules.{rules}
use lib.IntN.{ℤ}
use Rattle.slices.specs.Patch.{at}
use Rattle.rolling_lines.specs.LentLines.{held_lines}
use Rattle.rolling_lines.specs.Memory.{set_line, line_in, past_set}
use Rattle.rolling_lines.specs.Program.{HeldFits, Enters}
use Rattle.rolling_lines.specs.Rows.{row_of}
use Rattle.rolling_lines.specs.WorkLaws.{kept_from, kept_then, sound_fits, row_enters, low_fits, low_enters}
use Rattle.rolling_lines.proofs.low_row.Goals as goal

pub returns : goal.returns
returns c =
    let a = c.args in
    let row = row_of a.table a.pixels.now a.w in
    let made = c.make_sound.ensures in
    record {
      past = kept_then (held_lines * a.w) a.held.now _ _ made.past (kept_from (held_lines * a.w) _ _ (search rules) (λ p i. ap (λ (m : ℕ → ℤ). m p) c.row_to.ensures ∙ past_set a.w 5 row _ (omega arith) p i));
      fits = subst (HeldFits a.table a.w) (sym c.row_to.ensures) (low_fits a.table a.w row _ (sound_fits a.table a.w _ made.sound));
      enters = subst (λ (m : ℕ → ℤ). Enters a.table a.w (line_in a.w m 5)) (sym c.row_to.ensures) (low_enters a.table a.w row _ (row_enters a.table a.pixels.now a.w c.requires.0));
      same = λ whole. c.row_to.ensures ∙ ap (λ (l : List ℤ). set_line a.w 5 row (at l)) (made.kept whole);
    }
