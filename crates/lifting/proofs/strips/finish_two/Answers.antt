-- `lifting::strips::finish_two` meets its contract: the lines are lifted twice, and scaled on their way into the plane.
use mathlib.Core.Path.{◌≡◌, sym, ap, subst, ◌∙◌}
use Prim.Native.Nat.{ℕ, ◌+◌, ◌*◌, ◌<◌}
use native.Mathlib.Omega.{arith}
use lib.IntN.{ℤ}
use Rattle.lines.specs.Lines.{lows, highs}
use Rattle.lines.specs.LineLaws.{first_low_lem, first_high}
use Rattle.lifting.specs.Steps.{scaled_by, FactorSafe}
use Rattle.lifting.specs.Kernels.{worked, second_highs, second_lows}
use Rattle.lifting.specs.Buffers.{BufferHolds, sizes, lift_held, lift_asked}
use Rattle.lifting.specs.Strips.{buffer_of, buffer_lines, plane_lines, both_halves}
use Rattle.slices.specs.PartLaws.{some_lines}
use Rattle.lifting.proofs.strips.finish_two.Goals as goal

-- the lines of a buffer, as the scalings read them
module _ (n : ℕ) {s : ℕ} {l h : ℕ → ℕ → ℤ} {y : ℕ → ℤ} (held : BufferHolds s n l h y) where
  low_at_lem : (i j : ℕ) → i < lows n → j < s → y (0 + i * s + j) ≡ l j i
  low_at_lem i j p g = ap y (omega arith) ∙ held.low i j p g

  high_at_lem : (i j : ℕ) → i < highs n → j < s → y (lows n * s + i * s + j) ≡ h j i
  high_at_lem i j p g = ap y (omega arith) ∙ held.high i j p g

pub lift-requires : goal.lift-requires
lift-requires c =
    record {
      buffer = buffer_of c.requires.strip_room _ (omega arith);
      lift_safe = lift_asked c.args.by.now.first c.requires.strip_room.two c.requires.ready.held (λ j g. (c.requires.ready.safe j g).at_first);
    }

pub lift-requires-2 : goal.lift-requires-2
lift-requires-2 c =
    let held = lift_held c.args.by.now.first c.requires.strip_room.two c.requires.ready.held _ c.lift.ensures in record {
      buffer = buffer_of c.requires.strip_room _ (omega arith);
      lift_safe = lift_asked c.args.by.now.second c.requires.strip_room.two held (λ j g. (c.requires.ready.safe j g).at_second);
    }

pub overflow_add-half : goal.overflow_add-half
overflow_add-half c = omega (arith, c.requires.strip_room.lines.few)

pub scale_lines-requires : goal.scale_lines-requires
scale_lines-requires c =
    let room = c.requires.strip_room in
    let two = room.two in
    let n = c.args.part.h in
    let held = lift_held c.args.by.now.second two (lift_held c.args.by.now.first two c.requires.ready.held _ c.lift.ensures) _ c.lift-2.ensures in record {
      lying = (
        some_lines (buffer_lines room c.lift-2.new.buffer (omega arith)) 0 (lows n) 0 (omega arith) (omega arith) (omega arith),
        some_lines (plane_lines room _ (omega arith)) 0 (lows n) c.args.part.from (omega arith) (omega arith) (omega arith),
      );
      by_index = λ i j p g. subst (FactorSafe c.args.by.now.low) (sym (low_at_lem n held i j p g)) ((c.requires.ready.safe j g).at_lows i p);
    }

pub overflow_mul-half : goal.overflow_mul-half
overflow_mul-half c = let room = c.requires.strip_room in omega (arith, room.room, (sizes c.args.part.w c.args.part.h room.two).all)

pub overflow_mul-half-2 : goal.overflow_mul-half-2
overflow_mul-half-2 c = let room = c.requires.strip_room in omega (arith, room.lines.fits (lows c.args.part.h) (omega (arith, room.two)))

pub overflow_add-part : goal.overflow_add-part
overflow_add-part c = let room = c.requires.strip_room in omega (arith, room.lines.fits (lows c.args.part.h) (omega (arith, room.two)))

pub scale_lines-requires-2 : goal.scale_lines-requires-2
scale_lines-requires-2 c =
    let room = c.requires.strip_room in
    let two = room.two in
    let n = c.args.part.h in
    let held = lift_held c.args.by.now.second two (lift_held c.args.by.now.first two c.requires.ready.held _ c.lift.ensures) _ c.lift-2.ensures in record {
      lying = (
        some_lines (buffer_lines room c.lift-2.new.buffer (omega arith)) (lows n) (highs n) _ (omega arith) (omega arith) (omega arith),
        some_lines (plane_lines room _ (omega arith)) (lows n) (highs n) _ (omega arith) (omega arith) (omega arith),
      );
      by_index = λ i j p g. subst (FactorSafe c.args.by.now.high) (sym (high_at_lem n held i j p g)) ((c.requires.ready.safe j g).at_highs i p);
    }

pub returns : goal.returns
unfolding worked
returns c line held =
    let by = c.args.by.now in
    let n = c.args.part.h in
    let two = c.requires.strip_room.two in
    let low : ℕ → ℕ → ℤ = λ j i. scaled_by by.low (second_lows by.first by.second n (line j) i) in
    let high : ℕ → ℕ → ℤ = λ j i. scaled_by by.high (second_highs by.first by.second n (line j) i) in
    let lifted = lift_held by.second two (lift_held by.first two held _ c.lift.ensures) _ c.lift-2.ensures in
    both_halves c.args.part.from c.args.part.stride c.args.part.w n _ _ _ _ _ _ c.scale_lines.ensures c.scale_lines-2.ensures
    (λ i j p g. ap (scaled_by by.low) (low_at_lem n lifted i j p g) ∙ sym (first_low_lem n (low j) (high j) i p))
    (λ i j p g. ap (scaled_by by.high) (high_at_lem n lifted i j p g) ∙ sym (first_high n (low j) (high j) i))
