-- A pass as a kernel of the lifting crate, and what it makes of a line (`worked_fixed`); a single sample as a scaling (`single_fixed`).
use Rattle.std.specs.Prelude.{ℕ, ◌<◌, ◌≡◌, ℤ}
use Rattle.std.proofs.Common.{sym, ◌∙◌}
use Rattle.std.proofs.Math.Path.{fun_ext}
use Rattle.exact.specs.Fractions.{Frac}
use Rattle.exact.specs.Exact.{alpha, beta, gamma, delta, zeta, zeta_inverse}
use Rattle.lines.specs.Lines.{Liftable, on_highs, on_lows, lows_first}
use Rattle.lines.specs.OneLaws.{single_line_lem, long_line_lem}
use Rattle.width_table.specs.Nodes.{Node, P1, U1, P2, U2, G1, G2, Pass}
use Rattle.width_table.specs.declared.WidthTable.{WidthTable}
use Rattle.width_table.specs.Table.{constant_bits, fraction_bits, input_bits}
use Rattle.lifting.specs.declared.Factor.{Factor}
use Rattle.lifting.specs.declared.TwoPairs.{TwoPairs}
use Rattle.lifting.specs.declared.Kernel.{Kernel}
use Rattle.lifting.specs.declared.Kernel.TheVariants.{Two}
use Rattle.lifting.specs.Steps.{applied, scaled_by, SameFactor}
use Rattle.lifting.specs.Passes.{evens, odds}
use Rattle.lifting.specs.Kernels.{worked, SameKernel, same_two, first_highs, first_lows, second_highs, second_lows}
use Rattle.stages.specs.Stages.{Product}
use Rattle.stages.specs.Fixed.{cut, step, scale}
use Rattle.table_meaning.specs.Products.{product_of}
use Rattle.fixed_stages.specs.Fixed.{at_p1, at_u1, at_p2, at_u2, at_g1, at_g2, fixed_long, fixed_pass, fixed_line}
use Rattle.fixed_stages.specs.Steps.{stage_of, scaling_of}
use Rattle.fixed_stages.specs.Kernels.{first_pair, second_pair, kernel_from, kernel_of, single_for, AsStages}
use Rattle.fixed_stages.specs.StepLaws.{step_applied, scale_applied, single_applied}

-- the steps as functions
applied_is : (p : Product) (c : Frac) (F fm fo f : ℕ) → applied (stage_of p c F fm fo f) ≡ step p c F fm fo f
applied_is p c F fm fo f = fun_ext λ own. fun_ext λ x. fun_ext λ y. step_applied p c F fm fo f own x y

scaled_is : (c : Frac) (F fm f : ℕ) → scaled_by (scaling_of c F fm f) ≡ scale c F fm f
scaled_is c F fm f = fun_ext λ x. scale_applied c F fm f x

-- One pass: F the bits of the constants, fp the widths of the products, fi the bits of the input, f those of the nodes.
module _ (F : Node → ℕ) (fp : Node → Product) (fi : ℕ) (f : Node → ℕ) where
  -- what the kernel leaves on its way in the line, and at last
  module _ (n : ℕ) (x : ℕ → ℤ) where
    pub first_highs_lem : first_highs (first_pair F fp fi f) (second_pair F fp fi f) n x ≡ at_p1 F fp fi f n x
    unfolding at_p1
    first_highs_lem = λ u. on_highs (applied_is (fp P1) alpha (F P1) fi fi (f P1) u) n (evens x) (odds x)

    pub first_lows_lem : first_lows (first_pair F fp fi f) (second_pair F fp fi f) n x ≡ at_u1 F fp fi f n x
    unfolding at_u1
    first_lows_lem = λ u. on_lows (applied_is (fp U1) beta (F U1) (f P1) fi (f U1) u) n (evens x) (first_highs_lem u)

    pub second_highs_lem : second_highs (first_pair F fp fi f) (second_pair F fp fi f) n x ≡ at_p2 F fp fi f n x
    unfolding at_p2
    second_highs_lem = λ u. on_highs (applied_is (fp P2) gamma (F P2) (f U1) (f P1) (f P2) u) n (first_lows_lem u) (first_highs_lem u)

    pub second_lows_lem : second_lows (first_pair F fp fi f) (second_pair F fp fi f) n x ≡ at_u2 F fp fi f n x
    unfolding at_u2
    second_lows_lem = λ u. on_lows (applied_is (fp U2) delta (F U2) (f P2) (f U1) (f U2) u) n (first_lows_lem u) (second_highs_lem u)

    pub worked_pass : worked (kernel_from F fp fi f) n x ≡ fixed_long F fp fi f n x
    unfolding worked fixed_long at_g1 at_g2
    worked_pass = λ u. lows_first n (λ i. scaled_is zeta (F G1) (f U2) (f G1) u (second_lows_lem u i)) (λ i. scaled_is zeta_inverse (F G2) (f P2) (f G2) u (second_highs_lem u i))

-- What the kernel makes of a line of two samples or more is the pass.
pub worked_fixed : (t : WidthTable) (l : ℕ) (p : Pass) (n : ℕ) → Liftable n → worked (kernel_of t l p) n ≡ fixed_line t l p n
unfolding kernel_of fixed_line fixed_pass
worked_fixed t l p n works =
    (fun_ext λ x. worked_pass (constant_bits t) (product_of t l p) (input_bits t l p) (fraction_bits t l p) n x)
    ∙ sym (long_line_lem (cut (input_bits t l p) (fraction_bits t l p G1)) (fixed_long (constant_bits t) (product_of t l p) (input_bits t l p) (fraction_bits t l p)) n works)

-- What it makes of a single sample is the pass.
pub single_fixed : (t : WidthTable) (l : ℕ) (p : Pass) (n : ℕ) → n < 2 → (λ x k. scaled_by (single_for t l p) (x k)) ≡ fixed_line t l p n
unfolding fixed_line fixed_pass
single_fixed t l p n one =
    (fun_ext λ x. fun_ext λ k. single_applied (input_bits t l p) (fraction_bits t l p G1) (x k))
    ∙ sym (single_line_lem (cut (input_bits t l p) (fraction_bits t l p G1)) (fixed_long (constant_bits t) (product_of t l p) (input_bits t l p) (fraction_bits t l p)) n one)

-- the same in whatever form kernel and cut are run
module _ (t : WidthTable) (l : ℕ) (p : Pass) (n : ℕ) where
  pub kernel_line : {k : Kernel} → SameKernel (kernel_of t l p) k → Liftable n → worked k n ≡ fixed_line t l p n
  kernel_line e works = (λ u. e.same u n) ∙ worked_fixed t l p n works

  pub factor_line : {g : Factor} → SameFactor (single_for t l p) g → n < 2 → (λ x k. scaled_by g (x k)) ≡ fixed_line t l p n
  factor_line e one = (fun_ext λ x. fun_ext λ k. e.same (x k)) ∙ single_fixed t l p n one

-- The stages that the code hands over make the kernel of the pass.
pub stages_kernel : (t : WidthTable) (l : ℕ) (p : Pass) (s : TwoPairs) → AsStages t l p s → SameKernel (kernel_of t l p) (Two s)
unfolding kernel_of
stages_kernel t l p s a = same_two a.first a.second a.low a.high
