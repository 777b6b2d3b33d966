-- `rolling_lines::first_row` meets its contract.
use mathlib.Core.Path.{sym, ◌∙◌, ap, subst}
use mathlib.Core.List.{List}
use Prim.Native.Nat.{ℕ, ◌*◌}
use native.Mathlib.Omega.{arith}
use borrow.Author.Rules.{rules}
use lib.IntN.{ℤ}
use Rattle.slices.specs.Patch.{at}
use Rattle.rolling_lines.specs.LentLines.{held_lines, KeptFrom}
use Rattle.rolling_lines.specs.Memory.{past_set}
use Rattle.rolling_lines.specs.Rows.{row_of}
use Rattle.rolling_lines.specs.SoundLaws.{zero_at_lem, past_zeros}
use Rattle.rolling_lines.specs.WorkLaws.{kept_from, kept_then, zero_same}
use Rattle.rolling_lines.proofs.first_row.Goals as goal

pub returns : goal.returns
returns c =
    let a = c.args in
    let row = row_of a.table a.pixels.now a.w in
    record {
      past = kept_then (held_lines * a.w) a.held.now _ _
          (subst (KeptFrom (held_lines * a.w) a.held.now) (sym c.clear.ensures) (past_zeros a.w a.held.now c.requires.1.room))
          (kept_from (held_lines * a.w) _ _ (search rules) (λ p i. ap (λ (m : ℕ → ℤ). m p) c.row_to.ensures ∙ past_set a.w 0 row _ (omega arith) p i));
      works = λ sound. zero_same a.table a.w row a.held.now c.clear.new.work _ (λ j h. ap (λ (l : List ℤ). at l j) c.clear.ensures ∙ zero_at_lem a.w a.held.now j h) c.row_to.ensures;
    }
