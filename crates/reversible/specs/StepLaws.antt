-- What the steps of the forward call leave: samples in, levels, the work area cleared.
use Rattle.std.specs.Prelude.{ℕ, zero, suc, ◌*◌, ◌-◌, ◌<◌, ◌≤◌, ◌^◌, List, ◌≡◌, ℤ, pos, nat_abs, ◌-ℤ◌, length, get_or}
use Rattle.std.proofs.Common.{sym, ◌∙◌, ap, subst, arith, pow_mono}
use Rattle.numbers.specs.Dif.{difs}
use Rattle.numbers.specs.Lists.{over}
use Rattle.lines.specs.Planes.{row_by_row}
use Rattle.lines.specs.PlaneLaws.{side_none, Agree}
use Rattle.slices.specs.Patch.{at, patch_above}
use Rattle.pictures.specs.Pictures.{sample}
use Rattle.pictures.specs.PictureLaws.{pixel_below}
use Rattle.slices.specs.Pixels.{loaded}
use Rattle.pictures.specs.MemoryLaws.{stands_over}
use Rattle.reversible.specs.Reversible.{columns_first, forward}
use Rattle.reversible.specs.ReversibleLaws.{forward_agrees}
use Rattle.reversible.specs.LevelLaws.{BoundedPart, plane_at}
use Rattle.reversible.specs.LoopLaws.{ForwardDone}
use Rattle.reversible.specs.Preconditions.{FirstRoom, ForwardRoom, lines_fit, levels_room, part_here, loaded_at, loaded_sized}
use Rattle.width_table.specs.Table.{max_depth}

-- a pixel less the middle
sample_small : (p q : ℕ) → p ≤ 2 * q → nat_abs (pos p -ℤ pos q) ≤ q
sample_small p q = simp difs (omega arith)

-- a depth has twice as many values as their middle, which is at most 2^11
pub twice_middle : (B : ℕ) → 1 ≤ B → B ≤ max_depth → (2 ^ B ≡ 2 * 2 ^ (B - 1)) × (2 ^ (B - 1) ≤ 2 ^ 11)
twice_middle zero h k = absurd (omega arith)
twice_middle (suc B) h k = let e : suc B - 1 ≡ B = omega arith in (omega (arith, ap (λ (t : ℕ). 2 ^ t) e), subst (λ (t : ℕ). 2 ^ t ≤ 2 ^ 11) (sym e) (pow_mono {i = B} {j = 11} (omega arith)))

module _ {B L w h : ℕ} {pixels : List ℕ} {plane work : ℕ} (room : ForwardRoom B L w h pixels plane work) where
  some_w : 1 ≤ w
  some_w = room.call.room.wide.0

  sample_fits : (k : ℕ) → k < w * h → nat_abs (pos (get_or pixels k 0) -ℤ pos (2 ^ (B - 1))) ≤ 2 ^ 11
  sample_fits k i =
      let m = twice_middle B room.call.depth.0 room.call.depth.1 in
      let p : get_or pixels k 0 < 2 ^ B = pixel_below B w h pixels room.call.room.first room.right k i in
      omega (arith, sample_small (get_or pixels k 0) (2 ^ (B - 1)) (omega arith))

  -- the first level has what it asks
  pub first_room : (l : List ℤ) (buffer : ℕ) → length l ≡ plane → w * h ≤ buffer → FirstRoom B pixels l buffer w h
  first_room l buffer e f =
      let p = room.call.room in record {
        picture = record { depth = room.call.depth; some = some_w; held = p.first; room = omega (arith, p.second); small = sample_fits };
        part = part_here (levels_room room.call plane buffer p.second f) 0 l w h e (sym (side_none w)) (sym (side_none h));
        row = omega (arith, lines_fit w h some_w p.tall.0);
      }

  loaded_samples : (x : ℕ → ℤ) → Agree w h (plane_at w (loaded pixels (2 ^ (B - 1)) w h x)) (sample pixels B w)
  unfolding sample
  loaded_samples x = loaded_at pixels (2 ^ (B - 1)) w h x some_w

  pub loaded_small : (x : ℕ → ℤ) → BoundedPart (2 ^ 11) w h (plane_at w (loaded pixels (2 ^ (B - 1)) w h x))
  loaded_small x = loaded_sized (2 ^ 11) pixels (2 ^ (B - 1)) w h x some_w sample_fits

  -- a picture's plane, worked
  pub worked_plane : (l after : List ℤ) → ForwardDone w h L (loaded pixels (2 ^ (B - 1)) w h (at l)) (at after) → length l ≡ plane → length after ≡ plane
      → after ≡ over (row_by_row w h (forward columns_first L w h (sample pixels B w))) l
  worked_plane l after done e f =
      stands_over w h (forward columns_first L w h (sample pixels B w)) l after some_w (omega (arith, room.call.room.second)) (omega arith)
      (λ r c i j. done.stands r c i j ∙ forward_agrees columns_first L w h (plane_at w (loaded pixels (2 ^ (B - 1)) w h (at l))) (sample pixels B w) (loaded_samples (at l)) r c i j)
      (λ q far. done.beyond q far ∙ patch_above 0 (w * h) _ (at l) q (omega arith))
