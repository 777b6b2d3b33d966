-- A pass inverted, of a single value and of two or more (document 02, job 6), and a single value as it is worked with 64-bit numbers.
use Rattle.std.specs.Prelude.{◌≡◌, List, [], ◌∷◌, ℕ, ◌-◌, ◌^◌, ◌<◌, ◌≤◌, ℤ, pos, ◌*ℤ◌}
use Rattle.std.proofs.Common.{sym, ap, ◌∙◌, arith, lit<, pow_pos}
use Rattle.numbers.specs.Floor.{floor_div, floor_mul_r}
use Rattle.numbers.specs.Quote.{terms, vars, ring}
use Rattle.lines.specs.Lines.{Liftable}
use Rattle.lines.specs.OneLaws.{one_single, one_long}
use Rattle.stages.specs.Fixed.{cut}
use Rattle.stages.proofs.Own.{pow_split}
use Rattle.inverse_lifting.specs.Fixed.{node_bits, fixed_inverse_long, fixed_inverse}
use Rattle.inverse_lifting.specs.Stages.{scaled_by, once}

module _ (fl fh n : ℕ) (y : ℕ → ℤ) (k : ℕ) where
  pub back_single : n < 2 → fixed_inverse fl fh n y k ≡ cut fl node_bits (y k)
  unfolding fixed_inverse
  back_single = one_single (cut fl node_bits) (fixed_inverse_long fl fh) n y k

  pub back_long : Liftable n → fixed_inverse fl fh n y k ≡ fixed_inverse_long fl fh n y k
  unfolding fixed_inverse
  back_long = one_long (cut fl node_bits) (fixed_inverse_long fl fh) n y k

-- 1 at the bits of a node
abbrev pub at_one : ℤ
at_one = pos (2 ^ node_bits)

swap : (a b v : ℤ) → a *ℤ b *ℤ v ≡ v *ℤ a *ℤ b
swap a b v = let ρ : List ℤ = a ∷ b ∷ v ∷ [] in ring ρ (search (terms, vars ρ) depth 30) (search (terms, vars ρ) depth 30) tt

floor_one : (v : ℤ) → floor_div v 1 ≡ v
floor_one v = ap (λ (z : ℤ). floor_div z 1) (sym (once v)) ∙ floor_mul_r v 1 (lit< tt)

-- a value of f bits, times 1 and less its own bits, is at the bits of a node; nothing is cut
pub scaled_one : (f : ℕ) (v : ℤ) → f ≤ node_bits → scaled_by at_one f v ≡ cut f node_bits v
unfolding cut
scaled_one f v h =
    let up = v *ℤ pos (2 ^ (node_bits - f)) in
    let none : 0 ≡ f - node_bits = omega arith in
    ap (λ (p : ℕ). floor_div (pos p *ℤ v) (2 ^ f)) (pow_split f node_bits h)
    ∙ ap (λ (z : ℤ). floor_div z (2 ^ f)) (swap (pos (2 ^ (node_bits - f))) (pos (2 ^ f)) v)
    ∙ floor_mul_r up (2 ^ f) (pow_pos f) ∙ sym (floor_one up) ∙ ap (λ (d : ℕ). floor_div up (2 ^ d)) none

-- a value that has the bits of a node stays
pub back_same : (fh n : ℕ) (y : ℕ → ℤ) (k : ℕ) → n < 2 → fixed_inverse node_bits fh n y k ≡ y k
unfolding cut
back_same fh n y k h = back_single node_bits fh n y k h ∙ floor_mul_r (y k) 1 (lit< tt)
