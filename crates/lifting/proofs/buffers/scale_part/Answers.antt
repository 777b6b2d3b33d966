-- `lifting::buffers::scale_part` meets its contract: one run, or a loop whose invariant is that the first r lines are done.
use mathlib.Core.Path.{◌≡◌, refl, sym, ap, subst, ◌∙◌}
use mathlib.Core.List.{List}
use Prim.Native.Nat.{ℕ, zero, suc, ◌+◌, ◌*◌, ◌<◌, ◌≤◌}
use native.Mathlib.Omega.{arith}
use lib.IntN.{ℤ}
use lib.ListN.{length}
use Rattle.lifting.specs.Steps.{scaled_by, FactorSafe}
use Rattle.slices.specs.Patch.{at}
use Rattle.slices.specs.PatchLines.{line_at, patch_lines, lines_apart, lines_out, lines_none, lines_more, lines_to, packed_is}
use Rattle.lifting.specs.Buffers.{by_line}
use Rattle.slices.specs.Parts.{Part}
use Rattle.lifting.proofs.buffers.scale_part.Goals as goal

-- lines without a gap lie in the plane as one run
one-run : {l : List ℤ} {stride from w : ℕ} (h : ℕ) → Part l stride from w h → stride ≡ w → from + h * w ≤ length l
one-run zero part e = omega (arith, part.narrow)
one-run {stride} {w} (suc k) part e =
    let s : k * stride ≡ k * w = ap (λ (t : ℕ). k * t) e in
    omega (arith, part.fits k (omega arith))

-- line r is as it was
kept : (from stride w r : ℕ) → w ≤ stride → (new : ℕ → ℕ → ℤ) (x y : ℕ → ℤ) → y ≡ patch_lines (line_at from stride) w r new x → (j : ℕ) → j < w → y (line_at from stride r + j) ≡ x (line_at from stride r + j)
kept from stride w r narrow new x y is j h = ap (λ (g : ℕ → ℤ). g (line_at from stride r + j)) is
    ∙ lines_out (line_at from stride) w new x r _ (λ u v a b. lines_apart from stride w u r narrow (omega arith) v j b h)

pub overflow_mul-part : goal.overflow_mul-part
overflow_mul-part c = omega (arith, one-run c.args.part.h c.requires.part c.if-part.true)

pub scale_here-requires : goal.scale_here-requires
scale_here-requires c =
    let e = c.if-part.true in
    let x = at c.args.plane.now in record {
      n_in_bounds = one-run c.args.part.h c.requires.part e;
      by_index = by_line (λ p. FactorSafe c.args.g (x (c.args.part.from + p))) c.args.part.w c.args.part.h
          (λ r j p q. subst (λ (u : ℕ). FactorSafe c.args.g (x u)) (omega (arith, ap (λ (t : ℕ). r * t) e)) (c.requires.by_index r j p q));
    }

pub returns-then-part : goal.returns-then-part
returns-then-part c =
    let e = c.if-part.true in
    c.scale_here.ensures ∙ packed_is c.args.part.from c.args.part.w c.args.part.h c.args.part.stride _ _ _ e
    (λ r j p q. ap (λ (u : ℕ). scaled_by c.args.g (at c.args.plane.now u)) (omega (arith, ap (λ (c : ℕ). r * c) e)))

pub loop-r-init : goal.loop-r-init
loop-r-init c = (omega arith, refl, lines_none _ _ _ _)

pub overflow_mul-r : goal.overflow_mul-r
overflow_mul-r c = omega (arith, c.requires.part.fits c.loop-r.r c.loop-r-test.true)

pub overflow_add-part : goal.overflow_add-part
overflow_add-part c = omega (arith, c.requires.part.fits c.loop-r.r c.loop-r-test.true)

pub scale_here-requires-in-loop-r : goal.scale_here-requires-in-loop-r
scale_here-requires-in-loop-r c =
    let r = c.loop-r.r in
    let p = c.loop-r-test.true in record {
      n_in_bounds = omega (arith, c.requires.part.fits r p);
      by_index = λ j q. subst (FactorSafe c.args.g) (sym (kept c.args.part.from c.args.part.stride c.args.part.w r (omega (arith, c.requires.part.narrow)) _ _ _ c.loop-r.invariant.2 j q)) (c.requires.by_index r j p q);
    }

pub loop-r-preserved : goal.loop-r-preserved
loop-r-preserved c =
    let r = c.loop-r.r in (
      omega arith,
      omega arith,
      lines_more _ _ _ _ r _ _ _ c.loop-r.invariant.2 c.scale_here-in-loop-r.ensures
          (λ j q. ap (scaled_by c.args.g) (kept c.args.part.from c.args.part.stride c.args.part.w r (omega (arith, c.requires.part.narrow)) _ _ _ c.loop-r.invariant.2 j q)),
    )

pub returns : goal.returns
returns c = lines_to _ _ _ _ _ _ _ c.loop-r.invariant.2 (omega arith)
