-- The levels one after another in memory: no level, one more, the first, and how large the part is that the next one works.
use Prim.Native.Nat.{ℕ, suc, ◌+◌, ◌<◌, ◌≤◌, ◌^◌}
use Rattle.std.specs.Prelude.{◌≡◌, ℤ, nat_abs}
use Rattle.std.proofs.Math.Path.{refl, subst}
use Rattle.std.proofs.Common.{sym, ◌∙◌, add-one, arith}
use Rattle.lines.specs.Planes.{levels, side}
use Rattle.lines.specs.PlaneLaws.{side_le}
use Rattle.reversible.specs.Reversible.{columns_first, forward}
use Rattle.reversible.specs.LevelLaws.{BoundedPart, plane_at, level_forward, forward_beyond}
use Rattle.reversible.proofs.LevelLaws.{forward_stands, forward_sized}
use Rattle.reversible.specs.LoopLaws.{four_pow, ForwardDone}
use Rattle.width_table.specs.Table.{max_levels}

module _ (w h : ℕ) where
  forward_none : (x : ℕ → ℤ) → ForwardDone w h 0 x x
  unfolding forward levels
  forward_none x = record { stands = λ r c i j. refl; beyond = λ q i. refl }

  pub forward_more : (k : ℕ) (x y z : ℕ → ℤ) → ForwardDone w h k x y → z ≡ level_forward w (side k w) (side k h) y → ForwardDone w h (k + 1) x z
  unfolding forward levels
  forward_more k x y z f e =
      subst (λ (n : ℕ). ForwardDone w h n x z) (sym (add-one k)) (subst (λ (m : ℕ → ℤ). ForwardDone w h (suc k) x m) (sym e) (record {
        stands = forward_stands w h (side k w) (side k h) (side_le k w) (side_le k h) y (forward columns_first k w h (plane_at w x)) f.stands;
        beyond = λ q far. forward_beyond w h (side k w) (side k h) (side_le k w) (side_le k h) y q far ∙ f.beyond q far;
      }))

  pub forward_first : (x z : ℕ → ℤ) → z ≡ level_forward w w h x → ForwardDone w h 1 x z
  unfolding side
  forward_first x z e = forward_more 0 x x z (forward_none x) e

  pub forward_part : (k : ℕ) → k ≤ max_levels → (x y : ℕ → ℤ) → ForwardDone w h k x y → BoundedPart (2 ^ 11) w h (plane_at w x) → BoundedPart (2 ^ 21) (side k w) (side k h) (plane_at w y)
  forward_part k few x y f small r c a b =
      let i : r < h = omega (arith, side_le k h) in
      let j : c < w = omega (arith, side_le k w) in
      subst (λ (t : ℤ). nat_abs t ≤ 2 ^ 21) (sym (f.stands r c i j)) (omega (arith, four_pow k few, forward_sized columns_first w h k (plane_at w x) small r c i j))
