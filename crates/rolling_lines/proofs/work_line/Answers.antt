-- `rolling_lines::work_line` meets its contract.
use mathlib.Core.Path.{◌≡◌, refl, sym, ◌∙◌, ap, subst}
use mathlib.Core.List.{List, []}
use mathlib.Core.Logic.{inl, inr}
use Prim.Native.Nat.{ℕ, ◌*◌, ◌≤◌}
use native.Mathlib.Omega.{arith}
use borrow.Author.Rules.{rules}
use lib.IntN.{ℤ}
use lib.ListN.{length}
use Rattle.width_table.specs.declared.WidthTable.{WidthTable}
use Rattle.slices.specs.Patch.{at}
use Rattle.rolling_lines.specs.declared.Taken.{Taken}
use Rattle.rolling_lines.specs.declared.Taken.TheVariants.{Zero, One, Two, Three, Four, OddMany, EvenMany}
use Rattle.rolling_lines.specs.Schedule.{Line, held_after, line_gives}
use Rattle.rolling_lines.specs.LentLines.{held_lines, held_in, SameHeld}
use Rattle.rolling_lines.specs.Memory.{set_line, past_set}
use Rattle.rolling_lines.specs.Rows.{row_of}
use Rattle.rolling_lines.specs.Worked.{LineWorked, fifth, later}
use Rattle.rolling_lines.specs.WorkLaws.{kept_from, quiet, one_same, three_same, odd_same}
use Rattle.rolling_lines.proofs.work_line.Goals as goal

module _ (t : WidthTable) (w : ℕ) (row : Line) (held out : List ℤ) where
  -- what is said of a line by how many came before it
  abbrev Said : ℕ → List ℤ → List ℤ → Taken → Type 0
  Said n held' out' k = (n ≡ length (line_gives t w k (held_in w held) row)) × LineWorked t w k row held out held' out'

  -- a line that is held as the last high line
  high_line_lem : 1 ≤ w → (k : Taken) {held' : List ℤ} → length held' ≡ length held → at held' ≡ set_line w 1 row (at held)
      → SameHeld w (held_in w held') (held_after t w k (held_in w held) row)
      → line_gives t w k (held_in w held) row ≡ [] → Said 0 held' out k
  high_line_lem some k {held'} long is kept none = (
    sym (ap (λ (lines : List Line). length lines) none),
    (
      record {
        past = kept_from (held_lines * w) held held' long (λ p i. ap (λ (m : ℕ → ℤ). m p) is ∙ past_set w 1 row _ (omega arith) p i);
        works = λ sound. kept;
      },
      quiet t w k row held out some none,
    ),
  )

pub returns-in-Zero : goal.returns-in-Zero
unfolding line_gives
returns-in-Zero c =
    let a = c.args in
    let row = row_of a.table a.pixels.now a.w in
    let said = subst (Said a.table a.w row a.held.now a.out.now 0 _ _) (sym c.in-Zero.is) (refl, (c.first_row.ensures, quiet a.table a.w Zero row a.held.now a.out.now (omega (arith, c.requires.0.side.0)) refl)) in
    record { count = said.0; work = said.1 }

pub returns-in-Two : goal.returns-in-Two
unfolding line_gives
returns-in-Two c =
    let a = c.args in
    let row = row_of a.table a.pixels.now a.w in
    let said = subst (Said a.table a.w row a.held.now a.out.now 0 _ _) (sym c.in-Two.is) (refl, (c.third_row.ensures, quiet a.table a.w Two row a.held.now a.out.now (omega (arith, c.requires.0.side.0)) refl)) in
    record { count = said.0; work = said.1 }

pub returns-in-Four : goal.returns-in-Four
unfolding line_gives
returns-in-Four c =
    let a = c.args in
    let said = subst (Said a.table a.w (row_of a.table a.pixels.now a.w) a.held.now a.out.now 2 _ _) (sym c.in-Four.is) (refl, c.later_row.ensures Four fifth) in
    record { count = said.0; work = said.1 }

pub returns-in-EvenMany : goal.returns-in-EvenMany
unfolding line_gives
returns-in-EvenMany c =
    let a = c.args in
    let said = subst (Said a.table a.w (row_of a.table a.pixels.now a.w) a.held.now a.out.now 2 _ _) (sym c.in-EvenMany.is) (refl, c.later_row-in-EvenMany.ensures EvenMany later) in
    record { count = said.0; work = said.1 }

pub returns-in-One : goal.returns-in-One
unfolding line_gives
returns-in-One c =
    let a = c.args in
    let row = row_of a.table a.pixels.now a.w in
    let some : 1 ≤ a.w = omega (arith, c.requires.0.side.0) in
    let long : length c.row_to.new.held ≡ length a.held.now = search rules in
    let said : Said a.table a.w row a.held.now a.out.now 0 c.row_to.new.held a.out.now a.taken =
    elim c.in-One.is [
      | inl one ↦ subst (Said a.table a.w row a.held.now a.out.now 0 _ _) (sym one) (high_line_lem a.table a.w row a.held.now a.out.now some One long c.row_to.ensures (one_same a.table a.w row a.held.now _ c.row_to.ensures) refl)
      | inr (inl three) ↦ subst (Said a.table a.w row a.held.now a.out.now 0 _ _) (sym three) (high_line_lem a.table a.w row a.held.now a.out.now some Three long c.row_to.ensures (three_same a.table a.w row a.held.now _ c.row_to.ensures) refl)
      | inr (inr odd) ↦ subst (Said a.table a.w row a.held.now a.out.now 0 _ _) (sym odd) (high_line_lem a.table a.w row a.held.now a.out.now some OddMany long c.row_to.ensures (odd_same a.table a.w row a.held.now _ c.row_to.ensures) refl)
    ] in
    record { count = said.0; work = said.1 }
