-- The levels of the way back one after another in memory: what the loop of the code carries from level to level.
use Prim.Native.Nat.{ℕ, ◌+◌, ◌≤◌, ◌^◌}
use Rattle.std.specs.Prelude.{◌≡◌, refl, ℤ, nat_abs}
use Rattle.std.proofs.Common.{sym, ◌∙◌, add-one, arith}
use Rattle.std.proofs.Math.Path.{subst}
use Rattle.lines.specs.Planes.{Plane, inverse_levels, side}
use Rattle.lines.specs.PlaneLaws.{side_le, Agree}
use Rattle.reversible.specs.Reversible.{Order, inverse_level, inverse}
use Rattle.reversible.specs.ReversibleLaws.{back_forward, back_agrees}
use Rattle.reversible.specs.LevelLaws.{BoundedPart, plane_at}
use Rattle.reversible.proofs.LevelLaws.{forward_sized}
use Rattle.reversible.specs.LoopLaws.{four_pow}
use Rattle.reversible_back.specs.LevelLaws.{level_inverse, back_stands}
use Rattle.width_table.specs.Table.{max_levels}

-- back: of L levels of what stood in memory as x, k are left to invert
pub record BackLeft (order : Order) (L w h k : ℕ) (x y : ℕ → ℤ) : Type 0 where
  pub left : Agree w h (inverse order k w h (plane_at w y)) (inverse order L w h (plane_at w x))

pub one_more : {order : Order} {L w h j : ℕ} {x y : ℕ → ℤ} (k : ℕ) → j ≡ k + 1 → BackLeft order L w h j x y → BackLeft order L w h (k + 1) x y
one_more {order} {L} {w} {h} {x} {y} k e f = subst (λ (n : ℕ). BackLeft order L w h n x y) e f

module _ (w h : ℕ) where
  pub back_none : (order : Order) (L : ℕ) (x : ℕ → ℤ) → BackLeft order L w h L x x
  back_none order L x = record { left = λ r c i j. refl }

  pub back_more : (order : Order) (L k : ℕ) (x y z : ℕ → ℤ) → BackLeft order L w h (k + 1) x y → z ≡ level_inverse order w (side k w) (side k h) y → BackLeft order L w h k x z
  unfolding inverse inverse_levels
  back_more order L k x y z f e =
      let g = subst (λ (n : ℕ). BackLeft order L w h n x y) (add-one k) f in
      subst (λ (m : ℕ → ℤ). BackLeft order L w h k x m) (sym e) (record {
        left = λ r c a b.
            back_agrees order k w h _ (inverse_level order (side k w) (side k h) (plane_at w y))
            (back_stands w h (side k w) (side k h) (side_le k w) (side_le k h) y (plane_at w y) (λ r c i j. refl) order) r c a b
            ∙ g.left r c a b;
      })

  -- where the samples that come out are those of a picture, nothing on the way is large
  pub back_part : (order : Order) (L k : ℕ) → k ≤ max_levels → (x y : ℕ → ℤ) → BackLeft order L w h k x y → BoundedPart (2 ^ 11) w h (inverse order L w h (plane_at w x)) → BoundedPart (2 ^ 21) w h (plane_at w y)
  back_part order L k few x y f small r c a b =
      let found : BoundedPart (2 ^ 11) w h (inverse order k w h (plane_at w y)) = λ r c a b. subst (λ (t : ℤ). nat_abs t ≤ 2 ^ 11) (sym (f.left r c a b)) (small r c a b) in
      subst (λ (p : Plane ℤ). nat_abs (p r c) ≤ 2 ^ 21) (back_forward order k w h (plane_at w y))
      (omega (arith, four_pow k few, forward_sized order w h k (inverse order k w h (plane_at w y)) found r c a b))
