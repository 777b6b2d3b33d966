-- What a test of two signed locals says of the numbers that were written to them, where they fit.
use Rattle.std.specs.Prelude.{Bool, true, false, not, ◌≡◌, T, ℤ, ◌≤ℤ◌, ◌<ℤ◌}
use Rattle.std.proofs.Common.{sym, subst, subst₂, SFits, to_z-of_z}
use Rattle.std.specs.Int.Signed.{lt_z, lt_z_yes, lt_z_no}
use Rattle.std.specs.Int.{Width}
use Rattle.numbers.specs.Auto.{rd}

is_true : (b : Bool) → b ≡ true → T b
is_true b e = subst T (sym e) tt

is_false : (b : Bool) → b ≡ false → T (not b)
is_false b e = subst (λ (x : Bool). T (not x)) (sym e) tt

module _ {w : Width} (x y : ℤ) (fx : SFits w x) (fy : SFits w y) where
  pub test_true : lt_z (rd w x) (rd w y) ≡ true → x <ℤ y
  test_true e = subst₂ ◌<ℤ◌ (to_z-of_z fx) (to_z-of_z fy) (lt_z_yes (is_true (lt_z (rd w x) (rd w y)) e))

  pub test_false : lt_z (rd w x) (rd w y) ≡ false → y ≤ℤ x
  test_false e = subst₂ ◌≤ℤ◌ (to_z-of_z fy) (to_z-of_z fx) (lt_z_no {a = rd w x} {b = rd w y} (is_false (lt_z (rd w x) (rd w y)) e))
