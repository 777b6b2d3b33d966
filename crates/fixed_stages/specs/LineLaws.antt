-- A line: a pass reads its own values only (`value_same`), what it leaves has the bits of its last nodes (`line_sized`), and it can be worked in
-- memory where its values are below 2^10 in magnitude (`line_safe`). The bits of a level of an accepted table are within their limits (`bits_right`).
use Rattle.std.specs.Prelude.{ℕ, ◌-◌, ◌<◌, ◌≤◌, Bool, true, false, ◌≡◌, ltb, ℤ}
use Rattle.std.proofs.Common.{sym, ◌∙◌, subst, arith}
use Rattle.std.proofs.Math.Path.{ap}
use Rattle.numbers.specs.Tests.{ltb-true, by_ltb}
use Rattle.exact.specs.Exact.{alpha, beta, gamma, delta, zeta, zeta_inverse}
use Rattle.lines.specs.Lines.{lows, Liftable, lows_first}
use Rattle.lines.specs.LineLaws.{some_highs_lem, Equal, evens_equal, odds_equal}
use Rattle.lines.specs.Neighbours.{on_highs_equal, on_lows_equal}
use Rattle.lines.specs.OneLaws.{one_single, one_long, by_one}
use Rattle.width_table.specs.Nodes.{Node, P1, U1, P2, U2, G1, G2, Pass, last_node}
use Rattle.width_table.specs.declared.WidthTable.{WidthTable}
use Rattle.width_table.specs.Table.{constant_bits, fraction_bits, input_bits}
use Rattle.lifting.specs.Steps.{FactorSafe}
use Rattle.stages.specs.Stages.{Product}
use Rattle.stages.specs.Fixed.{cut, step, scale}
use Rattle.table_meaning.specs.Products.{product_of}
use Rattle.fixed_stages.specs.Fixed.{at_p1, at_u1, at_p2, at_u2, at_g1, at_g2, value_at, count_at, fixed_long, fixed_pass, fixed_line}
use Rattle.fixed_stages.specs.Safe.{BelowPower, LineBelowPower, BelowPower10, LineBelowPower10, BitsRight, LineSafe}
use Rattle.fixed_stages.specs.Kernels.{kernel_of, single_for}
use Rattle.fixed_stages.specs.SafeLaws.{kernel_safe, single_safe}
use Rattle.width_table.specs.Limits.{form_constants, form_widths, form_input}
use Rattle.precision.specs.Verdict.{AcceptPromise}

-- ---- a pass reads a line's own values only

module _ (F : Node → ℕ) (fp : Node → Product) (fi : ℕ) (f : Node → ℕ) (n : ℕ) (x y : ℕ → ℤ) (works : Liftable n) (same : Equal n x y) where
  -- the same values in a node
  abbrev Same : Node → Type 0
  Same i = Equal (count_at n i) (value_at F fp fi f n x i) (value_at F fp fi f n y i)

  same_P1 : Same P1
  unfolding at_p1
  same_P1 = on_highs_equal n (evens_equal n same) (odds_equal n same) (step (fp P1) alpha (F P1) fi fi (f P1))

  same_U1 : Same U1
  unfolding at_u1
  same_U1 = on_lows_equal n (evens_equal n same) same_P1 (step (fp U1) beta (F U1) (f P1) fi (f U1)) (some_highs_lem n works)

  same_P2 : Same P2
  unfolding at_p2
  same_P2 = on_highs_equal n same_U1 same_P1 (step (fp P2) gamma (F P2) (f U1) (f P1) (f P2))

  same_U2 : Same U2
  unfolding at_u2
  same_U2 = on_lows_equal n same_U1 same_P2 (step (fp U2) delta (F U2) (f P2) (f U1) (f U2)) (some_highs_lem n works)

  -- in every node
  pub value_same : (i : Node) → Same i
  unfolding at_g1 at_g2
  value_same P1 k h = same_P1 k h
  value_same U1 k h = same_U1 k h
  value_same P2 k h = same_P2 k h
  value_same U2 k h = same_U2 k h
  value_same G1 k h = ap (scale zeta (F G1) (f U2) (f G1)) (same_U2 k h)
  value_same G2 k h = ap (scale zeta_inverse (F G2) (f P2) (f G2)) (same_P2 k h)

-- ---- a line in memory

-- a pass can be worked in memory where the line's values are sized
pub line_safe : (t : WidthTable) (l : ℕ) → BitsRight t l → (p : Pass) (n : ℕ) (v : ℕ → ℤ) → LineBelowPower10 t l p n v → ((k : ℕ) → k < n → BelowPower10 (input_bits t l p) (v k)) → (x : ℕ → ℤ) → ((k : ℕ) → k < n → x k ≡ v k) → LineSafe t l p n x
unfolding kernel_of fixed_line fixed_pass
line_safe t l bits p n v inside given x same =
    let F = constant_bits t in
    let fp = product_of t l p in
    let fi = input_bits t l p in
    let f = fraction_bits t l p in
    record {
      long = λ works. kernel_safe F fp fi f (bits p) n x works
          (λ k h. subst (BelowPower10 fi) (sym (same k h)) (given k h))
          (λ i k h. subst (BelowPower10 (f i)) (sym (value_same F fp fi f n x v works same i k h)) (inside.long works i k h));
      single = λ one k h.
          let z : 0 ≡ k = omega arith in
          let left : BelowPower10 (f G1) (cut fi (f G1) (v k)) = subst (BelowPower10 (f G1)) (ap (λ (j : ℕ). fixed_line t l p n v j) z ∙ one_single (cut fi (f G1)) (fixed_long F fp fi f) n v k one) (inside.single (omega arith)) in
          subst (FactorSafe (single_for t l p)) (sym (same k h)) (single_safe fi (f G1) (bits p).enters ((bits p).fractions G1) (v k) (given k h) left);
    }

-- what a pass leaves has the bits of its last nodes
pub line_sized : (e : ℕ) (t : WidthTable) (l : ℕ) (p : Pass) (n : ℕ) (v : ℕ → ℤ) → LineBelowPower e t l p n v → (k : ℕ) → k < n → BelowPower e (fraction_bits t l p (last_node (ltb k (lows n)))) (fixed_line t l p n v k)
unfolding fixed_line fixed_pass fixed_long lows_first
line_sized e t l p n v inside k h =
    let F = constant_bits t in
    let fp = product_of t l p in
    let fi = input_bits t l p in
    let f = fraction_bits t l p in
    by_one _ n
    (λ one.
    let z : 0 ≡ k = omega arith in
    subst (λ (q : Bool). BelowPower e (f (last_node q)) (fixed_line t l p n v k)) (sym (ltb-true k (lows n) (omega arith)))
    (subst (λ (j : ℕ). BelowPower e (f G1) (fixed_line t l p n v j)) z (inside.single (omega arith))))
    (λ works. subst (BelowPower e (f (last_node (ltb k (lows n))))) (sym (one_long (cut fi (f G1)) (fixed_long F fp fi f) n v k works))
    (by_ltb (λ q. BelowPower e (f (last_node q)) (elim q [ true ↦ at_g1 F fp fi f n v k | false ↦ at_g2 F fp fi f n v (k - lows n) ])) k (lows n)
    (λ i. inside.long works G1 k i)
    (λ i. inside.long works G2 (k - lows n) (omega arith))))

-- the limits of a level of an accepted table
module _ (t : WidthTable) (ok : AcceptPromise t) where
  -- all bits of a level
  pub bits_right : (l : ℕ) → 1 ≤ l → l ≤ t.levels → BitsRight t l
  bits_right l a b p = record { constants = form_constants t ok.form; fractions = λ i. (form_widths t ok.form l a b p i).2; enters = form_input t ok.form l a b p }
