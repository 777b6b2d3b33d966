-- Worked lines by computation; the numbers were made by another program too. A line of zeros is safe, so that no premise is empty.
use Rattle.std.specs.Prelude.{ℕ, ◌≤◌, List, [], ◌∷◌, ◌≡◌, refl, ℤ, pos, neg_ℤ, nat_abs, length}
use Rattle.std.proofs.Common.{sym, subst, lit≤}
use Rattle.lines.specs.Lines.{on_highs, on_lows, low_after, high_before, high_after, interleaved}
use Rattle.lines.specs.Planes.{from_one, tabulate}
use Rattle.stages.specs.Fixed.{nearest, cut, scale}
use Rattle.slices.specs.Patch.{at}
use Rattle.inverse_lifting.specs.Fixed.{node_bits, inverse_step, at_g1, at_g2, at_u2, at_p2, at_u1, at_p1, fixed_inverse_long, fixed_inverse, limit}
use Rattle.inverse_lifting.specs.Planes.{Safe}
use Rattle.inverse_lifting.specs.Single.{back_single}

-- a line whose lows have fl bits and whose highs have fh
unfoldable inverted : ℕ → ℕ → List ℤ → List ℤ
inverted fl fh l = tabulate (length l) (fixed_inverse fl fh (length l) (at l))

-- a line of equal samples, nearly; an odd line with few bits; a line of two values; a single value of three bits
lines :
    inverted 20 20 (pos 1048576 ∷ pos 1048576 ∷ pos 0 ∷ pos 0 ∷ []) ∷ inverted 3 2 (pos 5 ∷ neg_ℤ (pos 3) ∷ pos 2 ∷ pos 1 ∷ neg_ℤ (pos 7) ∷ []) ∷ inverted 0 7 (pos 100 ∷ neg_ℤ (pos 100) ∷ []) ∷ inverted 3 2 (neg_ℤ (pos 5) ∷ []) ∷ []
    ≡ (pos 741455 ∷ pos 741454 ∷ pos 741455 ∷ pos 741454 ∷ [])
    ∷ (pos 263345 ∷ pos 376752 ∷ pos 208713 ∷ neg_ℤ (pos 1442603) ∷ pos 1636273 ∷ [])
    ∷ (pos 74724780 ∷ pos 73566244 ∷ [])
    ∷ (neg_ℤ (pos 655360) ∷ [])
    ∷ []
unfolding inverted tabulate fixed_inverse from_one fixed_inverse_long at_p1 at_u1 at_p2 at_u2 at_g2 at_g1 inverse_step nearest cut scale on_highs on_lows low_after high_before high_after interleaved
lines = refl

zeros_safe : (n : ℕ) → Safe node_bits node_bits n (λ k. pos 0)
unfolding at_p1 at_u1 at_p2 at_u2 at_g2 at_g1 inverse_step nearest cut scale on_highs on_lows
zeros_safe n = record {
  enters = λ k h. lit≤ tt;
  small = record {
    long = λ two. record { g1 = λ k h. lit≤ tt; g2 = λ k h. lit≤ tt; u2 = λ k h. lit≤ tt; p2 = λ k h. lit≤ tt; u1 = λ k h. lit≤ tt; p1 = λ k h. lit≤ tt };
    single = λ one k h. subst (λ (v : ℤ). nat_abs v ≤ limit) (sym (back_single node_bits node_bits n (λ k. pos 0) k one)) (lit≤ tt);
  };
}
