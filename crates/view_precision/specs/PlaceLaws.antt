-- The bounds of a pass by number are those of Bounds.
use Rattle.std.specs.Prelude.{ℕ, zero, suc, ◌+◌, ◌-◌, ◌<◌, ◌≤◌, true, false, List, ◌≡◌, set, ◌*◌, ◌^◌}
use Rattle.std.proofs.Math.Bool.{Bool}
use Rattle.std.proofs.Math.Path.{refl, sym, ap, ap₂}
use Rattle.std.proofs.Common.{◌∙◌, lit≤, lit<, eq-eqb, ne_eqb, subst, le-leb}
use native.Mathlib.Omega.{arith}
use Rattle.numbers.specs.Tests.{every, ltb-true, ltb-false, left_false, right_false}
use Rattle.inverse_lifting.specs.Fixed.{node_bits, inverse_bits, max_value}
use Rattle.width_table.specs.Nodes.{Node, P1, U1, P2, U2, G1, G2}
use Rattle.width_table.specs.Table.{max_product_bits}
use Rattle.stages.specs.Stages.{Side, low, high, stage, inverse, uncut, cut_to, bits}
use Rattle.stages.specs.Gains.{lows, highs, node, gain}
use Rattle.stages.specs.GainTable.{inverse_gains}
use Rattle.stages.proofs.GainLaws.{inverse_gain_lem}
use Rattle.stages.specs.Rule as Rule
use Rattle.stages.specs.Rule.{Bound, apart, times_gain, own_lift, own_scale, input_part}
use Rattle.stages.proofs.ProductLaws.{own_wide}
use Rattle.stages.proofs.ValueLaws.{weighed}
use Rattle.stages.proofs.RuleLaws as RuleLaws
use Rattle.stages.proofs.RuleLaws.{times_gain_zero, times_gain_none, weighed_ext, error_sum, bound_start, bound_kept}
use Rattle.view_precision.specs.Bounds.{larger, bound_after, even, odd, inverse_bound, within_max, pass_right}
use Rattle.view_precision.specs.Odd.{own_odd, odd_differs}
use Rattle.view_precision.specs.Places.{stages, sources, scalings, even_stage, node_after, gain_at, bound_from, node_from, total, total_from, inverse_own_error, own_at, owns_below}
use Rattle.bounds_rule.specs.Carried.{carried_to}
use Rattle.std.proofs.Math.Decide.{dec_lt}
use Rattle.std.proofs.lemmas.Bool.{lt-leb}

-- ---- the six stages by number

pub by_stage : (P : ℕ → Type 0) → P 0 → P 1 → P 2 → P 3 → P 4 → P 5 → (j : ℕ) → j < stages → P j
by_stage P a b c d e f zero i = a
by_stage P a b c d e f (suc zero) i = b
by_stage P a b c d e f (suc (suc zero)) i = c
by_stage P a b c d e f (suc (suc (suc zero))) i = d
by_stage P a b c d e f (suc (suc (suc (suc zero)))) i = e
by_stage P a b c d e f (suc (suc (suc (suc (suc zero))))) i = f
by_stage P a b c d e f (suc (suc (suc (suc (suc (suc j)))))) i = absurd (omega arith)

-- ---- one pass

module _ (a b : Bound) where
  abbrev own : ℕ → ℕ
  own = RuleLaws.own_at inverse (apart a b) (λ i. inverse_bits) (λ i. uncut) (λ s. 0) (λ i. node_bits)

  abbrev error : Side → ℕ → ℕ
  error = Rule.error_at inverse (apart a b) (λ i. inverse_bits) (λ i. uncut) (λ s. 0) (λ i. node_bits)

  -- `inverse_bound`, but of the even output that on lines of two values or more
  abbrev long : Node → Bound
  long G1 = inverse_bound a b G1
  long G2 = inverse_bound a b G2
  long U2 = inverse_bound a b U2
  long P2 = inverse_bound a b P2
  long U1 = bound_after a b low 5
  long P1 = inverse_bound a b P1

  pub owns_next : (j : ℕ) → j < stages → set (owns_below a b (j + 2)) (j + 2) (own_at a b (j + 2)) ≡ owns_below a b (j + 3)
  unfolding owns_below
  owns_next = by_stage _ refl refl refl refl refl refl

  -- range plus error of the value that a stage multiplies
  unfoldable pub total_before : ℕ → ℕ
  total_before zero = total a
  total_before (suc zero) = total b
  total_before (suc (suc j)) = total (inverse_bound a b (node_after (suc j)))

  -- the first two multiply what enters
  pub own_is : (j : ℕ) → j < stages → own_at a b (j + 2) ≡ inverse_own_error j (total_before j)
  unfolding own_at inverse_own_error total_before inverse_bound bits RuleLaws.own_at Rule.own_error_of Rule.side_bound
  own_is =
      by_stage _
      (ap (λ (x : Bound). own_scale inverse_bits 0 node_bits (total x)) (bound_start inverse (apart a b) (λ i. inverse_bits) (λ i. uncut) (λ s. 0) (λ i. node_bits) low))
      (ap (λ (x : Bound). own_scale inverse_bits 0 node_bits (total x)) (bound_kept inverse (apart a b) (λ i. inverse_bits) (λ i. uncut) (λ s. 0) (λ i. node_bits) 0 high refl ∙ bound_start inverse (apart a b) (λ i. inverse_bits) (λ i. uncut) (λ s. 0) (λ i. node_bits) high))
      refl refl refl refl

  range_is : (j : ℕ) → j < stages → times_gain a.range (gain_at 0 j) + times_gain b.range (gain_at 1 j) ≡ (long (node_after j)).range
  unfolding inverse_bound odd Rule.side_bound Rule.range_at input_part
  range_is = by_stage _ (at 0 (lit< tt)) (at 1 (lit< tt)) (at 2 (lit< tt)) (at 3 (lit< tt)) (at 4 (lit< tt)) (at 5 (lit< tt))
    where
      at : (j : ℕ) → j < stages → times_gain a.range (gain_at 0 j) + times_gain b.range (gain_at 1 j) ≡ times_gain a.range (gain inverse (stage inverse j).side (suc j) lows) + times_gain b.range (gain inverse (stage inverse j).side (suc j) highs)
      at j h = ap₂ (λ (g h : ℕ). times_gain a.range g + times_gain b.range h) (sym (inverse_gain_lem 0 j (lit< tt) h)) (sym (inverse_gain_lem 1 j (lit< tt) h))

  -- the error of a node by numbers, on lines of two values or more
  error_at_lem : (j : ℕ) → j < stages → error (stage inverse j).side (suc j) ≡ times_gain a.error (gain_at 0 j) + times_gain b.error (gain_at 1 j) + weighed (λ i. gain_at (suc (suc i)) j) own (suc j)
  unfolding input_part
  error_at_lem j h =
      omega (
        arith,
        error_sum inverse (apart a b) (λ i. inverse_bits) (λ i. uncut) (λ s. 0) (λ i. node_bits) (stage inverse j).side (suc j),
        ap (times_gain a.error) (inverse_gain_lem 0 j (lit< tt) h),
        ap (times_gain b.error) (inverse_gain_lem 1 j (lit< tt) h),
        weighed_ext (λ i. gain inverse (stage inverse j).side (suc j) (node i)) (λ i. gain_at (suc (suc i)) j) own (suc j) (λ i l. inverse_gain_lem (suc (suc i)) j (omega arith) h),
      )

  error_is : (j : ℕ) → j < stages → carried_to inverse_gains (owns_below a b sources) j sources ≡ (long (node_after j)).error
  unfolding carried_to owns_below own_at inverse_bound Rule.side_bound weighed
  error_is =
      by_stage _
      (simp times_gain_none (omega (arith, error_at_lem 0 (lit< tt), times_gain_none b.error)))
      (simp times_gain_none (omega (arith, error_at_lem 1 (lit< tt), times_gain_none a.error, times_gain_none (own 0))))
      (simp times_gain_none (omega (arith, error_at_lem 2 (lit< tt))))
      (simp times_gain_none (omega (arith, error_at_lem 3 (lit< tt))))
      (simp times_gain_none (omega (arith, error_at_lem 4 (lit< tt))))
      (omega (arith, error_at_lem 5 (lit< tt), odd_differs a b, ap (times_gain (own 5)) (inverse_gain_lem 7 5 (lit< tt) (lit< tt)), ap (times_gain (own_odd a b)) (inverse_gain_lem 7 5 (lit< tt) (lit< tt))))

  long_is : (j : ℕ) → j < stages → bound_from a.range b.range (owns_below a b sources) j ≡ long (node_after j)
  long_is j h = ap₂ (λ (r e : ℕ). record { range = r; error = e }) (range_is j h) (error_is j h)

  pub node_is : (j : ℕ) → j < stages → node_from a b (owns_below a b sources) j ≡ inverse_bound a b (node_after j)
  unfolding inverse_bound even
  node_is = by_stage _ (long_is 0 (lit< tt)) (long_is 1 (lit< tt)) (long_is 2 (lit< tt)) (long_is 3 (lit< tt)) (ap (λ (x : Bound). larger x a) (long_is 4 (lit< tt))) (long_is 5 (lit< tt))

  -- from what the sources before a stage have of their own
  pub total_is : (j : ℕ) → j < stages → total_from a b (owns_below a b (j + 2)) j ≡ total_before j
  unfolding carried_to owns_below own_at total_before inverse_bound even larger Rule.side_bound weighed
  total_is =
      by_stage _
      refl
      refl
      (simp (times_gain_zero, times_gain_none) (omega (arith, range_is 1 (lit< tt), error_at_lem 1 (lit< tt), times_gain_none a.range, times_gain_none a.error, times_gain_none (own 0))))
      (simp times_gain_zero (omega (arith, range_is 2 (lit< tt), error_at_lem 2 (lit< tt))))
      (simp times_gain_zero (omega (arith, range_is 3 (lit< tt), error_at_lem 3 (lit< tt))))
      (simp times_gain_zero (omega (arith, range_is 4 (lit< tt), error_at_lem 4 (lit< tt))))

  -- one stage more
  pub owns_again : (j : ℕ) → j < stages → set (owns_below a b (j + 2)) (j + 2) (inverse_own_error j (total_from a b (owns_below a b (j + 2)) j)) ≡ owns_below a b (j + 3)
  owns_again j h = ap (λ (r : ℕ). set (owns_below a b (j + 2)) (j + 2) (inverse_own_error j r)) (total_is j h) ∙ ap (set (owns_below a b (j + 2)) (j + 2)) (sym (own_is j h)) ∙ owns_next j h

  -- the same, as the program has it
  pub owns_step : (j : ℕ) → j < stages → {own : List ℕ} {r x : ℕ} → own ≡ owns_below a b (j + 2) → r ≡ total_from a b own j → x ≡ inverse_own_error j r → set own (j + 2) x ≡ owns_below a b (j + 1 + 2)
  owns_step j h {own} {r} {x} e1 e2 e3 =
      let z : j + 3 ≡ j + 1 + 2 = omega arith in
      ap (set own (j + 2)) (e3 ∙ ap (inverse_own_error j) e2)
      ∙ ap (λ (own : List ℕ). set own (j + 2) (inverse_own_error j (total_from a b own j))) e1
      ∙ owns_again j h
      ∙ ap (owns_below a b) z

  pub node_bound_lem : (j : ℕ) → j < stages → {own : List ℕ} {x : Bound} → own ≡ owns_below a b sources → x ≡ node_from a b own j → x ≡ inverse_bound a b (node_after j)
  node_bound_lem j h e1 e2 = e2 ∙ ap (λ (own : List ℕ). node_from a b own j) e1 ∙ node_is j h

pub total_later : (a b : Bound) (own : List ℕ) (j : ℕ) → 2 ≤ j → total_from a b own j ≡ total (node_from a b own (j - 1))
total_later a b own zero h = absurd (omega arith)
total_later a b own (suc zero) h = absurd (omega arith)
total_later a b own (suc (suc j)) h = let z : suc j ≡ suc (suc j) - 1 = omega arith in ap (λ (k : ℕ). total (node_from a b own k)) z

-- the even output and any other
module _ (a b : Bound) (own : List ℕ) (j : ℕ) where
  abbrev picked : Bool → Bound
  picked t = elim t [ true ↦ larger (bound_from a.range b.range own j) a | false ↦ bound_from a.range b.range own j ]

  pub node_even : j ≡ even_stage → larger (bound_from a.range b.range own j) a ≡ node_from a b own j
  node_even h = sym (ap picked (eq-eqb j even_stage h))

  pub node_other : (j ≡ even_stage → ⊥) → bound_from a.range b.range own j ≡ node_from a b own j
  node_other h = sym (ap picked (ne_eqb j even_stage h))

-- the own error of a stage by its kind; a product of the inverse has at most as many bits as a table's, so the limit cuts none
module _ (j r : ℕ) where
  abbrev chosen : Bool → ℕ
  chosen t = elim t [
    | true ↦ own_scale inverse_bits 0 node_bits r
    | false ↦ own_lift uncut inverse_bits node_bits node_bits node_bits r
  ]

  pub own_scales : j < scalings → own_scale inverse_bits 0 node_bits r ≡ inverse_own_error j r
  unfolding inverse_own_error
  own_scales h = sym (ap chosen (ltb-true j scalings h))

  pub own_lifts : scalings ≤ j → own_lift (cut_to max_product_bits) inverse_bits node_bits node_bits node_bits r ≡ inverse_own_error j r
  unfolding inverse_own_error
  own_lifts h = own_wide max_product_bits inverse_bits node_bits node_bits node_bits r (lit≤ tt) ∙ sym (ap chosen (ltb-false j scalings h))

-- ---- the nodes of a pass

-- 2^15
abbrev pub most_node : ℕ
most_node = max_value * 2 ^ 32

module _ (bound : Node → Bound) where
  -- the first j of them are right
  abbrev pub RightBelow : ℕ → Type 0
  RightBelow j = (i : ℕ) → i < j → within_max (bound (node_after i)) ≡ true

  -- one more, or none
  module _ (j : ℕ) (x : Bound) (e : x ≡ bound (node_after j)) where
    pub right_next : RightBelow j → total x ≤ most_node → RightBelow (j + 1)
    right_next before h i l = go (dec_lt i j)
      where
        go : Dec (i < j) → within_max (bound (node_after i)) ≡ true
        go (yes k) = before i k
        go (no k) =
            let z : j ≡ i = omega arith in
            subst (λ (i : ℕ). within_max (bound (node_after i)) ≡ true) z (subst (λ (y : Bound). within_max y ≡ true) e (le-leb (total x) most_node h))

    pub wrong_here : most_node < total x → within_max (bound (node_after j)) ≡ false
    wrong_here h = subst (λ (y : Bound). within_max y ≡ false) e (lt-leb (total x) most_node h)

  pub all_right : RightBelow stages → pass_right bound ≡ true
  unfolding every
  all_right h = simp (h 0 (lit< tt), h 1 (lit< tt), h 2 (lit< tt), h 3 (lit< tt), h 4 (lit< tt), h 5 (lit< tt)) refl

  pub one_wrong : (j : ℕ) → j < stages → within_max (bound (node_after j)) ≡ false → pass_right bound ≡ false
  unfolding every
  one_wrong = by_stage _
      (λ e. left_false (at G1) _ e)
      (λ e. right_false (at G1) _ (left_false (at G2) _ e))
      (λ e. right_false (at G1) _ (right_false (at G2) _ (left_false (at U2) _ e)))
      (λ e. right_false (at G1) _ (right_false (at G2) _ (right_false (at U2) _ (left_false (at P2) _ e))))
      (λ e. right_false (at G1) _ (right_false (at G2) _ (right_false (at U2) _ (right_false (at P2) _ (left_false (at U1) _ e)))))
      (λ e. right_false (at G1) _ (right_false (at G2) _ (right_false (at U2) _ (right_false (at P2) _ (right_false (at U1) _ (left_false (at P1) _ e))))))
    where
      at : Node → Bool
      at n = within_max (bound n)
