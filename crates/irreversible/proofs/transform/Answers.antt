-- The loop's invariant: after k levels the plane stands, and what lies past it is as it was.
use mathlib.Core.Path.{◌≡◌, refl, sym, ap, ◌∙◌}
use Prim.Native.Nat.{ℕ, ◌-◌, ◌^◌}
use native.Mathlib.Numerals.{add-one}
use native.Mathlib.Omega.{arith}
use mathlib.Core.List.{List}
use lib.IntN.{ℤ}
use Rattle.width_table.specs.declared.WidthTable.{WidthTable}
use Rattle.lines.specs.Lines.{lows}
use Rattle.lines.specs.Planes.{side}
use Rattle.lines.specs.PlaneLaws.{side_le}
use Rattle.slices.specs.Patch.{at}
use Rattle.slices.specs.Runs.{as_type}
use Rattle.slices.specs.Pixels.{loaded}
use Rattle.width_table.specs.Limits.{form_levels}
use Rattle.precision.specs.Promise.{promise}
use Rattle.irreversible.specs.Memory.{level_worked, After}
use Rattle.irreversible.specs.LevelsLaws.{after_none, after_since, after_more, after_all}
use Rattle.irreversible.specs.Ready.{LevelReady, Ready}
use Rattle.irreversible.specs.CallSteps.{level_ready}
use Rattle.irreversible.proofs.transform.Goals as goal

-- the first level
firsts : (table : WidthTable) (pixels : List ℕ) (w h : ℕ) (plane buffer new : List ℤ) → Ready table pixels plane buffer w h → at new ≡ level_worked table 1 w w h (loaded pixels (2 ^ (table.depth - 1)) w h (at plane)) → After table pixels w h 1 (at plane) (at new)
unfolding side
firsts table pixels w h plane buffer new r e =
    let x₀ = at plane in
    let x = loaded pixels (2 ^ (table.depth - 1)) w h x₀ in
    as_type (λ u. After table pixels w h 1 x₀ (sym e u))
    (after_more table pixels w h r.accepted r.picture 0 (form_levels table (promise table r.accepted).form).0 x₀ x
    (after_none table pixels w h x₀ x (omega (arith, r.picture.width.0)) refl))

pub loop-k-init : goal.loop-k-init
unfolding side
loop-k-init c =
    let a = c.args in
    let f = firsts a.table a.pixels.now a.w a.h a.plane.now a.buffer.now c.first_level.new.plane c.requires c.first_level.ensures in
    (omega (arith, (form_levels a.table (promise a.table c.requires.accepted).form).0), refl, refl, refl, refl, record { stands = f.stands; beyond = λ q far. refl })

pub work_level-requires : goal.work_level-requires
work_level-requires c =
    let t = c.loop-k in
    as_type (λ u. LevelReady c.args.table (sym (add-one t.k) u) t.plane t.buffer c.args.w (sym t.invariant.3 u) (sym t.invariant.4 u))
    (level_ready c.args.table c.args.pixels.now c.args.plane.now c.args.buffer.now t.plane t.buffer c.args.w c.args.h c.requires (omega arith) (omega arith) t.k c.loop-k-test.true _ _ t.invariant.5 refl)

pub overflow_add-across-in-loop-k : goal.overflow_add-across-in-loop-k
overflow_add-across-in-loop-k c =
    omega (arith, side_le c.loop-k.k c.args.w, c.requires.picture.width.1)

pub overflow_add-down-in-loop-k : goal.overflow_add-down-in-loop-k
overflow_add-down-in-loop-k c =
    omega (arith, side_le c.loop-k.k c.args.h, c.requires.picture.height.1)

pub loop-k-preserved : goal.loop-k-preserved
unfolding side
loop-k-preserved c =
    let t = c.loop-k in
    let a = c.args in
    let n = add-one t.k in
    let x₀ = at c.first_level.new.plane in
    let e = (λ u. level_worked a.table (sym n u) a.w (sym t.invariant.3 u) (sym t.invariant.4 u) (at t.plane)) ∙ sym c.work_level.ensures in (
      omega arith,
      omega arith,
      omega arith,
      ap lows t.invariant.3 ∙ ap (λ (m : ℕ). side m a.w) (sym n),
      ap lows t.invariant.4 ∙ ap (λ (m : ℕ). side m a.h) (sym n),
      as_type (λ u. After a.table a.pixels.now a.w a.h (sym n u) x₀ (e u))
          (after_more a.table a.pixels.now a.w a.h c.requires.accepted c.requires.picture t.k c.loop-k-test.true x₀ (at t.plane) t.invariant.5),
    )

pub returns : goal.returns
unfolding side
returns c =
    let a = c.args in
    let f = firsts a.table a.pixels.now a.w a.h a.plane.now a.buffer.now c.first_level.new.plane c.requires c.first_level.ensures in
    let last : c.loop-k.k ≡ a.table.levels = omega arith in
    after_all a.table a.pixels.now a.w a.h a.plane.now c.loop-k.plane (omega (arith, c.requires.picture.width.0)) c.requires.second (omega arith)
    (as_type (λ u. After a.table a.pixels.now a.w a.h (last u) (at a.plane.now) (at c.loop-k.plane)) (after_since c.loop-k.invariant.5 f.beyond))

pub first_level-requires : goal.first_level-requires
first_level-requires c = c.requires

pub overflow_add-across : goal.overflow_add-across
overflow_add-across c = omega (arith, c.requires.picture.width.1)

pub overflow_add-down : goal.overflow_add-down
overflow_add-down c = omega (arith, c.requires.picture.height.1)
