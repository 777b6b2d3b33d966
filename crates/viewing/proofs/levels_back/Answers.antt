-- `viewing::levels_back` meets its contract. The loop's invariant: so many levels are left to invert.
use mathlib.Core.Path.{◌≡◌, refl, sym, ◌∙◌, subst}
use Prim.Native.Nat.{ℕ, suc, ◌-◌, ◌<◌}
use native.Mathlib.Numerals.{add-one}
use native.Mathlib.Omega.{arith}
use lib.IntN.{ℤ}
use lib.ListN.{length}
use Rattle.slices.specs.Patch.{at}
use Rattle.slices.specs.Runs.{as_type}
use Rattle.viewing.specs.LevelSteps.{level_inverse}
use Rattle.viewing.specs.CallSteps.{LevelReady, LevelsLeft}
use Rattle.viewing.proofs.CallStepLaws.{levels_some, levels_few, left_all, level_ready, left_less}
use Rattle.viewing.proofs.levels_back.Goals as goal

-- level k of those that are left
last-left : {t : _} {w h : ℕ} {p x₀ x : ℕ → ℤ} (k : ℕ) → 1 < k → LevelsLeft t w h k p x₀ x → LevelsLeft t w h (suc (k - 1)) p x₀ x
last-left {t} {w} {h} {p} {x₀} {x} k more left =
    let e : k ≡ suc (k - 1) = omega arith in
    subst (λ (j : ℕ). LevelsLeft t w h j p x₀ x) e left

pub level_back-requires : goal.level_back-requires
level_back-requires c =
    let a = c.args in
    let t = c.loop-k in
    let j : ℕ = t.k - 1 in
    as_type (λ u. LevelReady a.table (sym (add-one j) u) a.plane.now t.work (length t.state) (length t.line) a.w (sym c.spread.ensures u) (sym c.side_after.ensures u) (sym c.side_after-in-loop-k.ensures u))
    (level_ready c.requires j (omega (arith, t.invariant.1)) _ _ (last-left t.k c.loop-k-test.true t.invariant.5) t.work _ _ (omega (arith, t.invariant.2)) (omega (arith, t.invariant.3)) (omega (arith, t.invariant.4)) refl)

pub loop-k-preserved : goal.loop-k-preserved
loop-k-preserved c =
    let a = c.args in
    let t = c.loop-k in
    let j : ℕ = t.k - 1 in
    let more = c.loop-k-test.true in (
      omega arith,
      omega (arith, t.invariant.1),
      omega (arith, t.invariant.2),
      omega (arith, t.invariant.3),
      omega (arith, t.invariant.4),
      left_less c.requires j (omega (arith, t.invariant.1)) _ _ (last-left t.k more t.invariant.5) _
          (c.level_back.ensures ∙ (λ u. level_inverse a.table (add-one j u) a.w (c.spread.ensures u) (c.side_after.ensures u) (c.side_after-in-loop-k.ensures u) (at a.plane.now) (at t.work))),
    )

pub loop-k-init : goal.loop-k-init
loop-k-init c = (levels_some c.requires, omega arith, refl, refl, refl, left_all c.requires _)

pub spread-requires : goal.spread-requires
spread-requires c = (c.requires.stored.width.1, omega (arith, c.loop-k.invariant.1, levels_few c.requires))
