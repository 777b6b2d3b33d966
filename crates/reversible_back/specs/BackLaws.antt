-- The way back in memory: what the code's looks tell, and when the answer is 11.
use Rattle.std.specs.Prelude.{ℕ, ◌+◌, ◌*◌, ◌<◌, ◌≤◌, ◌^◌, Bool, true, false, ◌≡◌, T, ℤ, pos, nat_abs, neg_ℤ}
use Rattle.std.proofs.Common.{sym, subst, arith}
use Rattle.numbers.specs.Abs.{abs_≤}
use Rattle.lines.specs.Planes.{side, inverse_levels}
use Rattle.lines.specs.PlaneLaws.{side_le, Agree}
use Rattle.slices.specs.Parts.{row_of}
use Rattle.pictures.specs.RangeChecks.{Tells, Between}
use Rattle.reversible.specs.Reversible.{Order, inverse}
use Rattle.reversible.specs.LevelLaws.{BoundedPart, plane_at}
use Rattle.reversible_back.specs.LoopLaws.{BackLeft, back_part}
use Rattle.reversible.specs.Preconditions.{LevelsRoom}

-- ---- the answer of all levels back

pub record BackDone (order : Order) (L w h : ℕ) (x y : ℕ → ℤ) (r : Bool) : Type 0 where
  pub done : T r → Agree w h (plane_at w y) (inverse order L w h (plane_at w x))
  pub none : BoundedPart (2 ^ 11) w h (inverse order L w h (plane_at w x)) → T r

-- a size as a look sees it
pub sized_between : (n : ℕ) (z : ℤ) → nat_abs z ≤ n → Between (neg_ℤ (pos n)) (pos n) z
sized_between n z h = (abs_≤ n z).0 h

pub between_sized : (n : ℕ) (z : ℤ) → Between (neg_ℤ (pos n)) (pos n) z → nat_abs z ≤ n
between_sized n z h = (abs_≤ n z).1 h

-- ---- the look before a level

abbrev pub largest : ℕ
largest = 2 ^ 22

module _ (order : Order) {L w h n m : ℕ} (p : LevelsRoom L w h n m) (k : ℕ) (i : k < L) (x y : ℕ → ℤ) (left : BackLeft order L w h (k + 1) x y) (across down : ℕ) (ea : across ≡ side k w) (ed : down ≡ side k h)
    (r : Bool) (look : Tells ((i : ℕ) → i < down → (j : ℕ) → j < across → Between (neg_ℤ (pos largest)) (pos largest) (row_of w 0 y i j)) r) where
  -- the look goes by the plane's rows
  here : (i j : ℕ) → i * w + j ≡ 0 + i * w + j
  here i j = omega arith

  pub look_small : T r → BoundedPart largest (side k w) (side k h) (plane_at w y)
  look_small t a b e f = subst (λ (k : ℕ). nat_abs (y k) ≤ largest) (sym (here a b)) (between_sized largest (row_of w 0 y a b) (look.holds t a (omega arith) b (omega arith)))

  pub look_large : r ≡ false → BackDone order L w h x y false
  look_large e = record {
    done = λ t. absurd t;
    none = λ small. subst T e (look.told (λ a u b v.
        let z = back_part w h order L (k + 1) (omega (arith, p.few)) x y left small a b (omega (arith, side_le k h)) (omega (arith, side_le k w)) in
        sized_between largest (row_of w 0 y a b) (subst (λ (k : ℕ). nat_abs (y k) ≤ largest) (here a b) (omega arith))));
  }

pub back_all : (order : Order) (L w h : ℕ) (x y : ℕ → ℤ) → BackLeft order L w h 0 x y → BackDone order L w h x y true
unfolding inverse inverse_levels
back_all order L w h x y f = record { done = λ t. f.left; none = λ s. tt }
