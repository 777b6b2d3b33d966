-- What the steps of the viewing call ask of each other.
use Prim.Native.Nat.{ℕ, ◌+◌, ◌*◌, ◌^◌, ◌<◌, ◌≤◌}
use Rattle.std.specs.Prelude.{List, ◌≡◌, ℤ, length, Bool, true, false}
use Rattle.lines.specs.Planes.{Plane, side}
use Rattle.width_table.specs.declared.WidthTable.{WidthTable}
use Rattle.slices.specs.Patch.{at}
use Rattle.slices.specs.PatchLines.{line_at}
use Rattle.slices.specs.Parts.{Part}
use Rattle.pictures.specs.Pictures.{plane_of}
use Rattle.precision.specs.Verdict.{IsLevel}
use Rattle.viewing.specs.View.{view_from, view_plane, entering_bits}
use Rattle.viewing.specs.Claims.{Viewable, Stored, EachSmall}
use Rattle.viewing.specs.Words.{Bounded}
use Rattle.viewing.specs.LevelSteps.{SafeLevel}
use Rattle.std.proofs.Math.Path.{sym, ap}
use Rattle.std.proofs.Common.{eq-eqb, ne_eqb}
use Rattle.width_table.specs.Nodes.{G1, LowColumns}
use Rattle.width_table.specs.Table.{fraction_bits}
use Rattle.inverse_lifting.specs.Fixed.{node_bits}

-- a level can be inverted: w columns and h rows, from a plane whose rows are W long to rows of the work area that are S apart
pub record LevelReady (t : WidthTable) (l : ℕ) (plane work : List ℤ) (state line W S w h : ℕ) : Type 0 where
  pub is_level : IsLevel t l
  pub part : Part work S 0 w h
  pub in_plane : (r : ℕ) → r < h → line_at 0 W r + w ≤ length plane
  pub across : w + 6 ≤ line
  pub some : 5 ≤ state
  pub spare : 2 * state ≤ 5 * line
  pub safe : SafeLevel t l W S w h (at plane) (at work)

-- the bits of what it takes as low-low
module _ (t : WidthTable) (l : ℕ) where
  pick : Bool → ℕ
  pick q = elim q [ true ↦ fraction_bits t l LowColumns G1 | false ↦ node_bits ]

  pub low_stored : l ≡ t.levels → fraction_bits t l LowColumns G1 ≡ entering_bits t l LowColumns G1
  unfolding pick
  low_stored e = ap pick (sym (eq-eqb l t.levels e))

  pub low_left : (l ≡ t.levels → ⊥) → node_bits ≡ entering_bits t l LowColumns G1
  unfolding pick
  low_left f = ap pick (sym (ne_eqb l t.levels f))

-- a stored plane can be viewed, with a work area and arrays of so many elements
pub record ViewReady (t : WidthTable) (plane : List ℤ) (work state line w h : ℕ) : Type 0 where
  pub viewable : Viewable t
  pub stored : Stored t w h (plane_of w plane)
  pub second : w * h ≤ length plane
  pub third : w * h ≤ work
  pub across : w + 6 ≤ line
  pub some : 5 ≤ state
  pub spare : 2 * state ≤ 5 * line

-- In the work area x, which was x₀, levels k to 1 are left to invert. What level k takes is `taken`: what the levels above it left
-- stands in the work area, in rows 2^k w apart, and all else in the plane.
pub record LevelsLeft (t : WidthTable) (w h k : ℕ) (plane x₀ x : ℕ → ℤ) : Type 0 where
  pub taken : Plane ℤ
  pub all : k ≡ t.levels → (r c : ℕ) → r < h → c < w → plane (r * w + c) ≡ taken r c
  pub below : (r c : ℕ) → side k h ≤ r → r < h → c < w → plane (r * w + c) ≡ taken r c
  pub beyond : (r c : ℕ) → side k w ≤ c → r < h → c < w → plane (r * w + c) ≡ taken r c
  pub left : (k ≡ t.levels → ⊥) → (r c : ℕ) → r < side k h → c < side k w → x (line_at 0 (w * 2 ^ k) r + c) ≡ taken r c
  pub small : EachSmall t k w h taken
  pub bounded : Bounded w h taken
  pub gives : view_from t k w h taken ≡ view_plane t w h (λ r c. plane (r * w + c))
  pub past : (q : ℕ) → w * h ≤ q → x q ≡ x₀ q
