-- `rolling_lines::work_end` meets its contract.
use mathlib.Core.Path.{◌≡◌, refl, sym, ◌∙◌, ap, subst}
use mathlib.Core.List.{List}
use mathlib.Core.Logic.{inl, inr}
use Prim.Native.Nat.{ℕ, ◌*◌, ◌≤◌}
use native.Mathlib.Omega.{arith}
use borrow.Author.Rules.{rules}
use lib.IntN.{ℤ}
use lib.ListN.{length}
use Rattle.width_table.specs.declared.WidthTable.{WidthTable}
use Rattle.slices.specs.Patch.{at}
use Rattle.rolling_lines.specs.declared.Taken.{Taken}
use Rattle.rolling_lines.specs.declared.Taken.TheVariants.{Zero, Two, Three, Four, OddMany, EvenMany}
use Rattle.rolling_lines.specs.Schedule.{Line, line_gives, end_gives}
use Rattle.rolling_lines.specs.LentLines.{held_lines, out_lines, held_in, Sound, KeptFrom, out_after}
use Rattle.rolling_lines.specs.Program.{HeldFits, PastSame, one_ended, two_ended, even_ended, odd_ended}
use Rattle.rolling_lines.specs.Memory.{moved}
use Rattle.rolling_lines.specs.Worked.{EndWorked, Later, fifth, later}
use Rattle.rolling_lines.specs.WorkLaws.{kept_from, kept_then, sound_fits, one_end_kept, one_ended_lem, two_end_kept, two_ended_lem, even_end_kept, four_ended, many_ended, odd_end_kept, three_ended, odd_ended_lem, quiet_end}
use Rattle.rolling_lines.proofs.work_end.Goals as goal

-- an odd number of lines, from three on: lines taken, and the line in which the P2 before stands (after three lines it is the new one)
data LaterOdd : Taken → ℕ → Type 0 where
  third : LaterOdd Three 2
  odd_many : LaterOdd OddMany 4

-- what is held is sound, and fits the stages
fits : (t : WidthTable) (w : ℕ) (sounded : List ℤ) (table : WidthTable) → Sound t w (held_in w sounded) → table ≡ t → HeldFits table w (at sounded)
fits t w sounded table sound table_is = subst (λ (t : WidthTable). HeldFits t w (at sounded)) (sym table_is) (sound_fits t w sounded sound)

-- what an end begins with: what is held, made sound, and the table of the stages
record Made (t : WidthTable) (w : ℕ) (held out sounded : List ℤ) (table : WidthTable) : Type 0 where
  kept : Sound t w (held_in w held) → sounded ≡ held
  past : KeptFrom (held_lines * w) held sounded
  table_is : table ≡ t
  some : 1 ≤ w
  room : out_lines * w ≤ length out

module _ (t : WidthTable) (w : ℕ) (held out : List ℤ) where
  -- the lines that the end gives
  abbrev gives : Taken → List Line
  gives k = end_gives t w k (held_in w held)

  -- what is said of an end by how many lines came
  abbrev Said : ℕ → List ℤ → List ℤ → Taken → Type 0
  Said n held' out' k = (n ≡ length (gives k)) × EndWorked t w k held out held' out'

module _ {t : WidthTable} {w : ℕ} {held out sounded : List ℤ} {table : WidthTable} (made : Made t w held out sounded table) {taken : Taken} {held' out' : List ℤ} where
  -- an end that changes the output by f, which leaves what is past its lines, and gives them where what was held is sound
  ended : (k : Taken) (n : ℕ) (f : WidthTable → (ℕ → ℤ) → (ℕ → ℤ) → ℕ → ℤ)
      → taken ≡ k → n ≡ length (gives t w held out k) → length held' ≡ length sounded → PastSame w (at sounded) (at held') → at out' ≡ f table (at sounded) (at out)
      → (at out' ≡ f t (at sounded) (at out) → KeptFrom (length (gives t w held out k) * w) out out')
      → (at out' ≡ f t (at held) (at out) → out' ≡ out_after w (gives t w held out k) out)
      → Said t w held out n held' out' taken
  ended k n f came count long past is kept lines =
      let given = is ∙ ap (λ (t : WidthTable). f t (at sounded) (at out)) made.table_is in
      subst (Said t w held out n held' out') (sym came) (
        count,
        record {
          held_past = kept_then (held_lines * w) held sounded held' made.past (kept_from (held_lines * w) sounded held' long past);
          out_past = kept given;
          works = λ sound. lines (given ∙ ap (λ (l : List ℤ). f t (at l) (at out)) (made.kept sound));
        },
      )

  -- after an even number of lines, from four on, and after an odd number, from three on
  even : {k : Taken} {before : ℕ} → Later k before → taken ≡ k → length held' ≡ length sounded → length out' ≡ length out
      → PastSame w (at sounded) (at held') → at out' ≡ even_ended table w before (at sounded) (at out) → Said t w held out 4 held' out' taken
  unfolding end_gives line_gives
  even fifth came long same past is = ended Four 4 (λ t. even_ended t w 2) came refl long past is (even_end_kept t w held made.some out _ made.room same 2 (at sounded)) (four_ended t w held made.some out _ made.room same)
  even later came long same past is = ended EvenMany 4 (λ t. even_ended t w 4) came refl long past is (even_end_kept t w held made.some out _ made.room same 4 (at sounded)) (many_ended t w held made.some out _ made.room same)

  odd : {k : Taken} {before : ℕ} → LaterOdd k before → taken ≡ k → length held' ≡ length sounded → length out' ≡ length out
      → PastSame w (at sounded) (at held') → at out' ≡ odd_ended table w before (at sounded) (at out) → Said t w held out 3 held' out' taken
  unfolding end_gives line_gives
  odd third came long same past is = ended Three 3 (λ t. odd_ended t w 2) came refl long past is (odd_end_kept t w held made.some out _ made.room same 2 (at sounded)) (three_ended t w held made.some out _ made.room same)
  odd odd_many came long same past is = ended OddMany 3 (λ t. odd_ended t w 4) came refl long past is (odd_end_kept t w held made.some out _ made.room same 4 (at sounded)) (odd_ended_lem t w held made.some out _ made.room same)

pub returns-in-Two : goal.returns-in-Two
unfolding end_gives line_gives
returns-in-Two c =
    let a = c.args in
    let made : Made a.table a.w a.held.now a.out.now c.make_sound.new.held c.columns_of-columns.result.table =
    record { kept = c.make_sound.ensures.kept; past = c.make_sound.ensures.past; table_is = c.columns_of-columns.ensures.1; some = omega (arith, c.requires.1.0); room = c.requires.3 } in
    let said = ended made {held' = c.end_two.new.held} {out' = c.end_two.new.out} Two 2 (λ t. two_ended t a.w) c.in-Two.is refl (search rules) c.end_two.ensures.held c.end_two.ensures.out
    (two_end_kept a.table a.w a.held.now made.some a.out.now _ made.room (search rules) (moved a.w 5 0 (at c.make_sound.new.held)))
    (two_ended_lem a.table a.w a.held.now made.some a.out.now _ made.room (search rules)) in
    record { count = said.0; work = said.1 }

pub returns-in-Four : goal.returns-in-Four
returns-in-Four c =
    let a = c.args in
    let made : Made a.table a.w a.held.now a.out.now c.make_sound.new.held c.columns_of-columns.result.table =
    record { kept = c.make_sound.ensures.kept; past = c.make_sound.ensures.past; table_is = c.columns_of-columns.ensures.1; some = omega (arith, c.requires.1.0); room = c.requires.3 } in
    let said = even made {held' = c.end_even.new.held} {out' = c.end_even.new.out} fifth c.in-Four.is (search rules) (search rules) c.end_even.ensures.held c.end_even.ensures.out in
    record { count = said.0; work = said.1 }

pub returns-in-EvenMany : goal.returns-in-EvenMany
returns-in-EvenMany c =
    let a = c.args in
    let made : Made a.table a.w a.held.now a.out.now c.make_sound.new.held c.columns_of-columns.result.table =
    record { kept = c.make_sound.ensures.kept; past = c.make_sound.ensures.past; table_is = c.columns_of-columns.ensures.1; some = omega (arith, c.requires.1.0); room = c.requires.3 } in
    let said = even made {held' = c.end_even-in-EvenMany.new.held} {out' = c.end_even-in-EvenMany.new.out} later c.in-EvenMany.is (search rules) (search rules) c.end_even-in-EvenMany.ensures.held c.end_even-in-EvenMany.ensures.out in
    record { count = said.0; work = said.1 }

pub returns-in-Three : goal.returns-in-Three
returns-in-Three c =
    let a = c.args in
    let made : Made a.table a.w a.held.now a.out.now c.make_sound.new.held c.columns_of-columns.result.table =
    record { kept = c.make_sound.ensures.kept; past = c.make_sound.ensures.past; table_is = c.columns_of-columns.ensures.1; some = omega (arith, c.requires.1.0); room = c.requires.3 } in
    let said = odd made {held' = c.end_odd.new.held} {out' = c.end_odd.new.out} third c.in-Three.is (search rules) (search rules) c.end_odd.ensures.held c.end_odd.ensures.out in
    record { count = said.0; work = said.1 }

pub returns-in-OddMany : goal.returns-in-OddMany
returns-in-OddMany c =
    let a = c.args in
    let made : Made a.table a.w a.held.now a.out.now c.make_sound.new.held c.columns_of-columns.result.table =
    record { kept = c.make_sound.ensures.kept; past = c.make_sound.ensures.past; table_is = c.columns_of-columns.ensures.1; some = omega (arith, c.requires.1.0); room = c.requires.3 } in
    let said = odd made {held' = c.end_odd-in-OddMany.new.held} {out' = c.end_odd-in-OddMany.new.out} odd_many c.in-OddMany.is (search rules) (search rules) c.end_odd-in-OddMany.ensures.held c.end_odd-in-OddMany.ensures.out in
    record { count = said.0; work = said.1 }

pub returns-in-One : goal.returns-in-One
unfolding end_gives
returns-in-One c =
    let a = c.args in
    let some : 1 ≤ a.w = omega (arith, c.requires.1.0) in
    let said = subst (Said a.table a.w a.held.now a.out.now 1 c.make_sound.new.held c.end_one.new.out) (sym c.in-One.is) (
      refl,
      record {
        held_past = c.make_sound.ensures.past;
        out_past = one_end_kept a.table a.w a.held.now some a.out.now _ c.requires.3 (search rules) (at c.make_sound.new.held) c.end_one.ensures;
        works = λ sound. one_ended_lem a.table a.w a.held.now some a.out.now _ c.requires.3 (search rules) (c.end_one.ensures ∙ ap (λ (l : List ℤ). one_ended a.table a.w (at l) (at a.out.now)) (c.make_sound.ensures.kept sound));
      },
    ) in
    record { count = said.0; work = said.1 }

pub returns-in-Zero : goal.returns-in-Zero
unfolding end_gives
returns-in-Zero c =
    let a = c.args in
    let said = subst (Said a.table a.w a.held.now a.out.now 0 c.make_sound.new.held a.out.now) (sym c.in-Zero.is) (refl, quiet_end a.table a.w Zero a.held.now _ a.out.now (omega (arith, c.requires.1.0)) c.make_sound.ensures.past refl) in
    record { count = said.0; work = said.1 }

pub end_two-requires : goal.end_two-requires
end_two-requires c = (search rules, c.columns_of-columns.ensures.0, fits c.args.table c.args.w c.make_sound.new.held _ c.make_sound.ensures.sound c.columns_of-columns.ensures.1, c.requires.3)

pub end_even-requires : goal.end_even-requires
end_even-requires c = (search rules, c.columns_of-columns.ensures.0, fits c.args.table c.args.w c.make_sound.new.held _ c.make_sound.ensures.sound c.columns_of-columns.ensures.1, c.requires.3, inl refl)

pub end_even-requires-in-EvenMany : goal.end_even-requires-in-EvenMany
end_even-requires-in-EvenMany c = (search rules, c.columns_of-columns.ensures.0, fits c.args.table c.args.w c.make_sound.new.held _ c.make_sound.ensures.sound c.columns_of-columns.ensures.1, c.requires.3, inr refl)

pub end_odd-requires : goal.end_odd-requires
end_odd-requires c = (search rules, c.columns_of-columns.ensures.0, fits c.args.table c.args.w c.make_sound.new.held _ c.make_sound.ensures.sound c.columns_of-columns.ensures.1, c.requires.3, inl refl)

pub end_odd-requires-in-OddMany : goal.end_odd-requires-in-OddMany
end_odd-requires-in-OddMany c = (search rules, c.columns_of-columns.ensures.0, fits c.args.table c.args.w c.make_sound.new.held _ c.make_sound.ensures.sound c.columns_of-columns.ensures.1, c.requires.3, inr refl)

pub end_one-requires : goal.end_one-requires
end_one-requires c = (c.requires.0, search rules, (sound_fits c.args.table c.args.w c.make_sound.new.held c.make_sound.ensures.sound).low, c.requires.3)
