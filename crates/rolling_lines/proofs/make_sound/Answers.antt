-- `rolling_lines::make_sound` meets its contract: what is found sound stays, anything else becomes zeros, which are sound.
use Prim.Native.Nat.{◌*◌}
use mathlib.Core.Path.{refl, sym, subst}
use mathlib.Core.List.{List}
use lib.IntN.{ℤ}
use Rattle.rolling_lines.specs.LentLines.{held_lines, held_in, Sound, KeptFrom}
use Rattle.rolling_lines.specs.SoundLaws.{low_unsound, high_unsound, both_sound, zeros_sound, past_zeros}
use Rattle.rolling_lines.proofs.make_sound.Goals as goal
use Rattle.rolling_lines.proofs.make_sound.Goals.{else-columns_sound-via-then-columns_sound+else-columns_sound-2, else-columns_sound-via-else-columns_sound}

pub returns-then-columns_sound-2 : goal.returns-then-columns_sound-2
returns-then-columns_sound-2 c =
    let a = c.args in
    record {
      sound = both_sound a.table a.w a.held.now _ _ c.columns_sound.ensures c.if-columns_sound.true c.columns_sound-then-columns_sound.ensures c.if-columns_sound-2.true;
      kept = λ s. refl;
      past = record { length_kept = refl; past_kept = refl };
    }

pub returns : goal.returns
returns c =
    let a = c.args in
    let e = c.clear.ensures in
    -- one of the two looks found another value
    let unsound : Sound a.table a.w (held_in a.w a.held.now) → ⊥ =
    λ s. elim c.else-columns_sound.branch [
      | else-columns_sound-via-then-columns_sound+else-columns_sound-2 w ↦ high_unsound a.table a.w a.held.now _ w.columns_sound-then-columns_sound.ensures w.if-columns_sound-2.false s
      | else-columns_sound-via-else-columns_sound w ↦ low_unsound a.table a.w a.held.now _ c.columns_sound.ensures w.if-columns_sound.false s
    ] in
    record {
      sound = subst (λ (l : List ℤ). Sound a.table a.w (held_in a.w l)) (sym e) (zeros_sound a.w a.held.now a.table);
      kept = λ h. absurd (unsound h);
      past = subst (KeptFrom (held_lines * a.w) a.held.now) (sym e) (past_zeros a.w a.held.now c.requires.1.room);
    }
