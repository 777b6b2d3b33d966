-- What the program reads of a table, what it computes for a pass, and how its steps make the verdict.
use Prim.Native.Nat.{ℕ, zero, suc, ◌+◌, ◌*◌, ◌-◌, ◌^◌, ◌<◌, ◌≤◌}
use Rattle.std.specs.Prelude.{Bool, ◌||◌, not, List, [], ◌∷◌, ◌≡◌, refl, T, eqb, leb, ltb, get_or}
use Rattle.std.proofs.Math.Bool.{true, false}
use Rattle.std.proofs.Common.{sym, ◌∙◌, ap, subst, subst₂, mul-le-mul_right, leb→le, le→leb, lt→ltb, pow_mono, le-ltb}
use native.Mathlib.Omega.{arith}
use Rattle.std.proofs.lemmas.Bool.{lt-leb}
use Rattle.numbers.specs.Tests.{by_ltb}
use Rattle.refusals.specs.Answers.{Answer, passed, refused, asks_giving}
use Rattle.refusals.specs.AnswerLaws.{asks_done, asks_right, asks_wrong}
use Rattle.width_table.specs.declared.WidthTable.{WidthTable}
use Rattle.width_table.specs.Nodes.{Node, G1, G2, Pass, Rows, LowColumns, HighColumns, node_at, node_number, pass_number, pass_nodes}
use Rattle.width_table.specs.Table.{max_constant_bits, max_integer_bits, max_fraction_bits, node_place, constant_bits, integer_bits, fraction_bits, input_bits}
use Rattle.width_table.specs.Readers.{constant_bits_at, integer_bits_at, fraction_bits_at, input_bits_at}
use Rattle.width_table.specs.Limits.{in_nodes, form_constants, form_widths, constant_read, integer_read, fraction_read, cut_read, input_read}
use Rattle.stages.specs.Stages.{Product, cut_to}
use Rattle.stages.specs.Rule.{times_gain, own_lift, own_scale}
use Rattle.bounds_rule.specs.Carried.{as_held, carried_to}
use Rattle.stages.specs.GainTable.{forward_gains}
use Rattle.table_meaning.specs.Products.{product_of}
use Rattle.precision.specs.Bounds.{node_bound, row_bound, pass_bound, bound_of}
use Rattle.precision.specs.Verdict.{fits, judged, first_refusal}
use Rattle.table_meaning.specs.Subbands.{kept_column, kept_at}
use Rattle.precision.specs.Promise.{each_accepts}
use Rattle.precision.specs.Places.{places, most_fitting, largest, gain_at, multiplied, other, fed, bits_of, own_error_at, own_error_of, own_here, owns_of, own_by, judged_as, bound_of_node, At, Limited, Read, Enters, BoundsOf}
use Rattle.precision.specs.ProductReads.{own_number}
use Rattle.width_table.specs.Numbered.{node_of, pass_of, IsNode, IsPass, IsProduct, node_number_lem, pass_number_lem}
use Rattle.precision.specs.PlaceLaws.{by_place, multiplied_place_lem, times_small, carried_start, carried_next, carried_small, own_is, range_is, error_is, total_is, own_small, owns_most}
use Rattle.bounds_rule.specs.declared.Bound as Code
use Rattle.precision.specs.declared.PassBounds.{PassBounds}
use Rattle.precision.specs.declared.Widths.{Widths}

-- ---- passes

pub by_pass : (P : ℕ → Type 0) → P 1 → P 2 → P 3 → (p : ℕ) → IsPass p → P p
by_pass P a b c zero i = absurd (omega arith)
by_pass P a b c (suc zero) i = a
by_pass P a b c (suc (suc zero)) i = b
by_pass P a b c (suc (suc (suc zero))) i = c
by_pass P a b c (suc (suc (suc (suc p)))) i = absurd (omega arith)

-- another pass of the level
pub at_pass : {t : WidthTable} {l p : ℕ} → At t l p → (q : ℕ) → IsPass q → At t l q
at_pass h q i = record { form = h.form; level_from = h.level_from; level_to = h.level_to; pass = i }

-- ---- what is read

-- the fractional bits at a place
module _ {t : WidthTable} {l p : ℕ} (h : At t l p) where
  pub place_input : (k : ℕ) → k ≡ 0 → (input_bits_at t l p ≡ bits_of t l (pass_of p) k) × (input_bits_at t l p ≤ max_fraction_bits)
  place_input k e =
      let r = input_read t h.form l h.level_from h.level_to p h.pass in
      (r.0 ∙ ap (bits_of t l (pass_of p)) (sym e), r.1)

  pub place_node : (k : ℕ) → (k ≡ 0 → ⊥) → k < places → (fraction_bits_at t l p k ≡ bits_of t l (pass_of p) k) × (fraction_bits_at t l p k ≤ max_fraction_bits)
  place_node zero i j = absurd (i refl)
  place_node (suc k) i j = fraction_read t h.form l h.level_from h.level_to p (suc k) h.pass (omega arith, omega arith)

-- what the program reads of the table itself
module _ {t : WidthTable} {l p : ℕ} (h : At t l p) (k : ℕ) (i : IsNode k) where
  pub constant_at : get_or t.constants (k - 1) 0 ≡ constant_bits_at t k
  constant_at = sym ((constant_read t h.form k i).0 ∙ (λ u. get_or t.constants (node_number_lem k i u - 1) 0))

  pub integer_at : (m : ℕ) → m ≡ node_place l p k → get_or t.nodes m 0 ≡ integer_bits_at t l p k
  integer_at m e = ap (λ (m : ℕ). get_or t.nodes m 0) e ∙ sym ((integer_read t h.form l h.level_from h.level_to p k h.pass i).0 ∙ (λ u. get_or t.nodes (node_place l (pass_number_lem p h.pass u) (node_number_lem k i u)) 0))

  pub fraction_at : (m : ℕ) → m ≡ node_place l p k + 1 → get_or t.nodes m 0 ≡ fraction_bits_at t l p k
  fraction_at m e = ap (λ (m : ℕ). get_or t.nodes m 0) e ∙ sym ((fraction_read t h.form l h.level_from h.level_to p k h.pass i).0 ∙ (λ u. get_or t.nodes (node_place l (pass_number_lem p h.pass u) (node_number_lem k i u) + 1) 0))

-- the widths of a pass, as the program holds them
module _ {t : WidthTable} {l p : ℕ} {w : Widths} (h : Read t l p w) where
  bits_are : (k : ℕ) → k < places → (get_or w.fractions k 0 ≡ bits_of t l (pass_of p) k) × (get_or w.fractions k 0 ≤ max_fraction_bits)
  bits_are zero i =
      let r = place_input h.place 0 refl in
      (h.input ∙ r.0, omega (arith, h.input, r.1))
  bits_are (suc k) i =
      let e = h.fraction (suc k) (omega arith, omega arith) in
      let r = place_node h.place (suc k) (λ q. absurd (omega (arith, q))) i in
      (e ∙ r.0, omega (arith, e, r.1))

  constant_are : (k : ℕ) → IsNode k → (get_or w.constants (k - 1) 0 ≡ constant_bits t (node_of k)) × (get_or w.constants (k - 1) 0 ≤ max_constant_bits)
  constant_are k i =
      let r = constant_read t h.place.form k i in
      (h.constant k i ∙ r.0, omega (arith, h.constant k i, r.2))

  pub limited : Limited w
  limited = record {
    constant = λ k i. (constant_are k i).1;
    integer = λ k i. omega (arith, h.integer k i, integer_read t h.place.form l h.place.level_from h.place.level_to p k h.place.pass i);
    fraction = λ k i. (bits_are k i).1;
    product = λ k i. omega (arith, h.product k i, (cut_read t h.place.form l h.place.level_from h.place.level_to p k h.place.pass i).1);
  }

  pub own_read : (k : ℕ) → IsNode k → (r : ℕ) → own_by w k r ≡ own_error_of t l (pass_of p) k r
  unfolding own_by own_error_at
  own_read k i r =
      let c = (constant_are k i).0 in
      let m = (bits_are (multiplied k) (multiplied_place_lem k i)).0 in
      let o = (bits_are (other k) (omega arith)).0 in
      let f = (bits_are k (omega arith)).0 in
      (λ u. elim (ltb k (node_number G1)) [ true ↦ own_lift (cut_to (get_or w.products (k - 1) 0)) (c u) (m u) (o u) (f u) r | false ↦ own_scale (c u) (m u) (f u) r ])
      ∙ by_ltb (λ (x : Bool). own x (cut_to (get_or w.products (k - 1) 0)) ≡ own x (product_of t l (pass_of p) (node_of k))) k (node_number G1) (λ j. lifted (omega arith, omega arith)) (λ j. refl)
    where
      F : ℕ
      F = constant_bits t (node_of k)

      g : ℕ → ℕ
      g = bits_of t l (pass_of p)

      -- by whether the stage lifts, and by the width of its product
      own : Bool → Product → ℕ
      own lifts q = elim lifts [ true ↦ own_lift q F (g (multiplied k)) (g (other k)) (g k) r | false ↦ own_scale F (g (multiplied k)) (g k) r ]

      lifted : IsProduct k → own true (cut_to (get_or w.products (k - 1) 0)) ≡ own true (product_of t l (pass_of p) (node_of k))
      lifted j =
          let (c, C) = constant_are k i in
          let (m, M) = bits_are (multiplied k) (multiplied_place_lem k i) in
          ap (λ (q : ℕ). own true (cut_to q)) (h.product k j)
          ∙ sym (own_number h.place k j F (g (multiplied k)) (g (other k)) (g k) r (omega (arith, c, C)) (omega (arith, m, M)))

-- ---- what is computed for a pass

bound_fed : (t : WidthTable) (l : ℕ) (p : Pass) (n : Node) → bound_of t (node_at l p n) ≡ node_bound (constant_bits t) (product_of t l p) (input_bits t l p) (fed t l p) (fraction_bits t l p) n
unfolding bound_of pass_bound row_bound
bound_fed t l Rows n = refl
bound_fed t l LowColumns n = refl
bound_fed t l HighColumns n = refl

-- x has what v, that enters the pass, carries to each place
abbrev pub Carries : ℕ → List ℕ → Type 0
Carries v x = (i : ℕ) → i < places → get_or x i 0 ≡ times_gain v (gain_at 0 i)

-- and what the places below k have of their own
abbrev pub Errors : WidthTable → ℕ → ℕ → ℕ → List ℕ → Type 0
Errors t l p k x = (i : ℕ) → i < places → get_or x i 0 ≡ carried_to forward_gains (owns_of t l (pass_of p) k) i places

-- what the program holds once the pass is entered
pub record Started (t : WidthTable) (l p : ℕ) (b : Code.Bound) (w : Widths) (ranges errors : List ℕ) : Type 0 where
  pub enters : Enters t l p b
  pub read : Read t l p w
  pub ranges_in : Carries b.range ranges
  pub errors_in : Carries b.error errors

abbrev bound : ℕ → ℕ → Code.Bound
bound r e = record { range = r; error = e }

module _ {t : WidthTable} {l p : ℕ} {b : Code.Bound} (h : Enters t l p b) where
  range_fed : b.range ≡ (fed t l (pass_of p)).range
  range_fed = ap (λ (x : Code.Bound). x.range) h.is

  abbrev pub P : Pass
  P = pass_of p

  small_fed : (fed t l P).range + (fed t l P).error ≤ most_fitting
  small_fed = omega (arith, range_fed, ap (λ (x : Code.Bound). x.error) h.is, h.small)

  owns_small : (k i : ℕ) → get_or (owns_of t l P k) i 0 ≤ largest
  owns_small = owns_most (constant_bits t) (product_of t l P) (input_bits t l P) (fed t l P) (fraction_bits t l P) small_fed (λ n. (form_constants t h.place.form n).0)

  pub errors_start : (x : List ℕ) → Carries b.error x → Errors t l p 1 x
  errors_start x c i j = c i j ∙ ap (λ (e : Code.Bound). times_gain e.error (gain_at 0 i)) h.is ∙ sym (carried_start (constant_bits t) (product_of t l P) (input_bits t l P) (fed t l P) (fraction_bits t l P) i)

  pub ranges_small : (x : List ℕ) → Carries b.range x → (i : ℕ) → i < places → get_or x i 0 ≤ 2 ^ 48
  ranges_small x r i j = omega (arith, r i j, times_small b.range 0 i (omega (arith, h.small)))

  pub errors_small : (k : ℕ) (x : List ℕ) → Errors t l p k x → (i : ℕ) → i < places → get_or x i 0 ≤ places * 2 ^ 48
  errors_small k x e i j = omega (arith, e i j, carried_small (owns_of t l P k) (owns_small k) i places)

  -- the own error of node k
  pub own_here_lem : (k : ℕ) → IsNode k → (x y : List ℕ) → Carries b.range x → Errors t l p k y → {m own : ℕ} → m ≡ multiplied k → own ≡ own_error_of t l P k (get_or x m 0 + get_or y m 0) → own ≡ own_here t l P k
  own_here_lem k i x y r e {m} {own} em eo =
      let n = multiplied k in
      let here : n < places = multiplied_place_lem k i in
      eo
      ∙ ap (λ (m : ℕ). own_error_of t l P k (get_or x m 0 + get_or y m 0)) em
      ∙ ap (λ (z : ℕ). own_error_of t l P k (z + get_or y n 0)) (r n here ∙ ap (λ (z : ℕ). times_gain z (gain_at 0 n)) range_fed)
      ∙ ap (λ (z : ℕ). own_error_of t l P k (times_gain (fed t l P).range (gain_at 0 n) + z)) (e n here)
      ∙ ap (own_error_of t l P k) (total_is (constant_bits t) (product_of t l P) (input_bits t l P) (fed t l P) (fraction_bits t l P) k i)
      ∙ sym (own_is (constant_bits t) (product_of t l P) (input_bits t l P) (fed t l P) (fraction_bits t l P) k i)

  pub own_most : (k : ℕ) → IsNode k → own_here t l P k ≤ largest
  own_most = own_small (constant_bits t) (product_of t l P) (input_bits t l P) (fed t l P) (fraction_bits t l P) small_fed (λ n. (form_constants t h.place.form n).0)

  -- one place more
  pub errors_next : (k : ℕ) → IsNode k → (y z : List ℕ) {own : ℕ} → Errors t l p k y → own ≡ own_here t l P k → ((i : ℕ) → i < places → get_or z i 0 ≡ get_or y i 0 + times_gain own (gain_at k i)) → Errors t l p (k + 1) z
  errors_next k i y z {own} e eo c j q =
      c j q
      ∙ (λ u. e j q u + times_gain (eo u) (gain_at k j))
      ∙ sym (carried_next (constant_bits t) (product_of t l P) (input_bits t l P) (fed t l P) (fraction_bits t l P) j k i)

  -- all of them: the bounds
  bound_is : (k : ℕ) → IsNode k → bound (times_gain b.range (gain_at 0 k)) (carried_to forward_gains (owns_of t l P places) k places) ≡ bound_of_node t l p k
  bound_is k i =
      ap (λ (r : ℕ). bound (times_gain r (gain_at 0 k)) (carried_to forward_gains (owns_of t l P places) k places)) range_fed
      ∙ ap (λ (r : ℕ). bound r (carried_to forward_gains (owns_of t l P places) k places)) (range_is (constant_bits t) (product_of t l P) (input_bits t l P) (fed t l P) (fraction_bits t l P) k i)
      ∙ ap (bound _) (error_is (constant_bits t) (product_of t l P) (input_bits t l P) (fed t l P) (fraction_bits t l P) k i)
      ∙ ap as_held (sym (bound_fed t l P (node_of k)))

  pub all_held : (x : PassBounds) → Read t l p x.widths → Carries b.range x.ranges → Errors t l p places x.errors → BoundsOf t l p x
  all_held x w r e = record {
    widths = w;
    is = λ k i. (λ u. bound (r k (inside k i) u) (e k (inside k i) u)) ∙ bound_is k i;
    small = λ k i. omega (arith, ranges_small x.ranges r k (inside k i), errors_small places x.errors e k (inside k i));
  }
    where
      inside : (k : ℕ) → IsNode k → k < places
      inside k i = omega arith

-- ---- kept nodes

module _ (L l : ℕ) where
  pub kept_early : (p n : ℕ) → IsPass p → IsNode n → n < node_number G1 → kept_at L l (pass_of p) (node_of n) ≡ false
  kept_early p n i j b = by_pass (λ (p : ℕ). kept_at L l (pass_of p) (node_of n) ≡ false) refl (inner (eqb l L)) (inner true) p i
    where
      inner : (t : Bool) → kept_column t (node_of n) ≡ false
      inner t = by_place (λ (n : ℕ). n < node_number G1 → kept_column t (node_of n) ≡ false) (λ h. refl) (λ h. refl) (λ h. refl) (λ h. refl) (λ h. absurd (omega arith)) (λ h. absurd (omega arith)) n j b

  pub kept_high : (p n : ℕ) → (p ≡ pass_number Rows → ⊥) → IsPass p → n ≡ node_number G2 → kept_at L l (pass_of p) (node_of n) ≡ true
  kept_high p n x i e = subst (λ (n : ℕ). kept_at L l (pass_of p) (node_of n) ≡ true) (sym e) (by_pass (λ (p : ℕ). (p ≡ pass_number Rows → ⊥) → kept_at L l (pass_of p) G2 ≡ true) (λ x. absurd (x refl)) (λ x. refl) (λ x. refl) p i x)

  pub kept_low : (p n : ℕ) → p ≡ pass_number HighColumns → n ≡ node_number G1 → kept_at L l (pass_of p) (node_of n) ≡ true
  kept_low p n d e = subst₂ (λ (p n : ℕ). kept_at L l (pass_of p) (node_of n) ≡ true) (sym d) (sym e) refl

  pub kept_last : (p n : ℕ) → p ≡ pass_number LowColumns → n ≡ node_number G1 → kept_at L l (pass_of p) (node_of n) ≡ eqb l L
  kept_last p n d e = subst₂ (λ (p n : ℕ). kept_at L l (pass_of p) (node_of n) ≡ eqb l L) (sym d) (sym e) refl

-- ---- one node

module _ (b : Code.Bound) (IB f : ℕ) (kept : Bool) (place : List ℕ) where
  abbrev reach : ℕ
  reach = b.range + b.error + 2 ^ (32 - f)

  abbrev limit : ℕ
  limit = 2 ^ (IB - 1) * 2 ^ 32

  pub too_wide : limit < reach → judged_as b IB f kept place ≡ refused (6, place)
  unfolding judged_as
  too_wide h = asks_wrong (leb reach limit) _ _ (lt-leb reach limit h)

  fitting : reach ≤ limit → judged_as b IB f kept place ≡ asks_giving (not kept || ltb b.error (2 * 2 ^ (32 - f))) (7, place) passed
  unfolding judged_as
  fitting h = asks_right (leb reach limit) _ _ (le→leb reach limit h)

  pub not_kept : reach ≤ limit → kept ≡ false → judged_as b IB f kept place ≡ passed
  not_kept h k = fitting h ∙ asks_right (not kept || ltb b.error (2 * 2 ^ (32 - f))) _ _ (subst (λ (x : Bool). T (not x || ltb b.error (2 * 2 ^ (32 - f)))) (sym k) tt)

  pub in_error : reach ≤ limit → kept ≡ true → 2 * 2 ^ (32 - f) ≤ b.error → judged_as b IB f kept place ≡ refused (7, place)
  in_error h k e = fitting h ∙ asks_wrong (not kept || ltb b.error (2 * 2 ^ (32 - f))) _ _ (subst (λ (x : Bool). not x || ltb b.error (2 * 2 ^ (32 - f)) ≡ false) (sym k) (le-ltb _ _ e))

  pub kept_well : reach ≤ limit → kept ≡ true → b.error < 2 * 2 ^ (32 - f) → judged_as b IB f kept place ≡ passed
  kept_well h k e = fitting h ∙ asks_right (not kept || ltb b.error (2 * 2 ^ (32 - f))) _ _ (subst (λ (x : Bool). T (not x || ltb b.error (2 * 2 ^ (32 - f)))) (sym k) (lt→ltb _ _ e))

pub judged_is : {t : WidthTable} {l p : ℕ} → At t l p → (n : ℕ) → IsNode n
    → judged_as (bound_of_node t l p n) (integer_bits_at t l p n) (fraction_bits_at t l p n) (kept_at t.levels l (pass_of p) (node_of n)) (l ∷ p ∷ n ∷ []) ≡ judged t (node_at l (pass_of p) (node_of n))
unfolding judged judged_as
judged_is {t} {l} {p} h n i =
    let J : ℕ → ℕ → ℕ → ℕ → Answer Unit = λ IB f q m. judged_as (bound_of_node t l p n) IB f (kept_at t.levels l (pass_of p) (node_of n)) (l ∷ q ∷ m ∷ []) in
    let IB = integer_bits t l (pass_of p) (node_of n) in
    let f = fraction_bits t l (pass_of p) (node_of n) in
    ap (λ (x : ℕ). J x (fraction_bits_at t l p n) p n) (integer_read t h.form l h.level_from h.level_to p n h.pass i).0
    ∙ ap (λ (x : ℕ). J IB x p n) (fraction_read t h.form l h.level_from h.level_to p n h.pass i).0
    ∙ sym (ap (λ (x : ℕ). J IB f x (node_number (node_of n))) (pass_number_lem p h.pass) ∙ ap (λ (x : ℕ). J IB f p x) (node_number_lem n i))

-- an accepted node is small
pub accepted_small : {t : WidthTable} {l p : ℕ} → At t l p → (n : Node) → first_refusal t (pass_nodes l (pass_of p)) ≡ passed → (bound_of t (node_at l (pass_of p) n)).range + (bound_of t (node_at l (pass_of p) n)).error ≤ most_fitting
unfolding judged
accepted_small {t} {l} {p} h n e =
    let q = node_at l (pass_of p) n in
    let w = form_widths t h.form l h.level_from h.level_to (pass_of p) n in
    let IB = integer_bits t l (pass_of p) n in
    let f = fraction_bits t l (pass_of p) n in
    let m = pow_mono {i = IB - 1} {j = max_integer_bits - 1} (omega (arith, w.1)) in
    let x = leb→le ((bound_of t q).range + (bound_of t q).error + 2 ^ (32 - f)) (2 ^ (IB - 1) * 2 ^ 32) (asks_done (fits (bound_of t q) IB f) _ _ (each_accepts t (in_nodes l (pass_of p) n) e)).0 in
    omega (arith, x, mul-le-mul_right (2 ^ 32) m)
