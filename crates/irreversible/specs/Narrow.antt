-- Under every accepted table eleven integer bits do: range plus error of each node is at most 2^10 - 2^-f (`eleven_bits`), and so of what
-- enters a level (`enters_eleven`). At level 1 five do (`five_bits_lem`, `enters_five`). Ranges do not depend on the table, and none is above 865. In a pass no error is larger than three
-- times that of G1 or G2, and what enters has no larger error than either; each G1 or G2 is kept or enters a pass, so that no error is
-- larger than three times that of a kept node, which is below two steps. What the columns of level l leave has at least 2 l integer bits
-- (`least_bits`).
use Prim.Native.Nat.{ℕ, zero, suc, ◌+◌, ◌*◌, ◌-◌, ◌^◌, ◌<◌, ◌≤◌, max}
use Rattle.std.specs.Prelude.{◌≡◌, Bool, ◌&&◌, [], leb, eqb, get_or}
use Rattle.std.proofs.Math.Path.{refl, ap}
use Rattle.std.proofs.Common.{◌∙◌, subst, mul-le-mul_left, leb→le, lit≤, pow_pos}
use Rattle.std.proofs.Math.Bool.{true, false}
use native.Mathlib.Omega.{arith}
use Rattle.std.proofs.Math.Decide.{dec_lt}
use Rattle.std.proofs.Math.Nat.{pow-le-pow_right, le_trans}
use Rattle.std.proofs.Math.Dec.{T, eqb_refl}
use Rattle.numbers.specs.Tests.{both, four}
use Rattle.numbers.specs.Ceiling.{up_div}
use Rattle.stages.specs.Stages.{Side, low, stage, forward, Product}
use Rattle.stages.specs.Gains.{Source, samples, node, gain}
use Rattle.stages.specs.Rule as Rule
use Rattle.stages.specs.Rule.{Bound, times_gain, together, single_error, input_part, range_at}
use Rattle.stages.proofs.ValueLaws.{weighed, nodes_part}
use Rattle.stages.proofs.RuleLaws.{times_least, times_grows, own_at, error_sum}
use Rattle.stages.specs.GainTable.{forward_gains, forward_source}
use Rattle.stages.proofs.GainLaws.{forward_gain_lem}
use Rattle.stages.proofs.ForwardLaws.{single_least}
use Rattle.width_table.specs.Nodes.{Node, P1, U1, P2, U2, G1, G2, Pass, Rows, LowColumns, HighColumns, column_pass, node_at, last_node}
use Rattle.width_table.specs.Limits.{form_levels}
use Rattle.width_table.specs.Numbered.{node_of}
use Rattle.width_table.specs.declared.WidthTable.{WidthTable}
use Rattle.width_table.specs.Table.{max_levels, constant_bits, integer_bits, fraction_bits, input_bits}
use Rattle.table_meaning.specs.Products.{product_of}
use Rattle.precision.specs.Bounds.{bound_after, node_bound, row_bound, pass_bound, entering, bound_of}
use Rattle.table_meaning.specs.Subbands.{kept_at}
use Rattle.precision.specs.Verdict.{AcceptPromise}

-- ---- products by gains

up_least : (a : ℕ) → a ≤ 65536 * up_div a 65536
unfolding up_div
up_least a = omega arith

up_most : (a b : ℕ) → a ≤ 65536 * b → up_div a 65536 ≤ b
unfolding up_div
up_most a b h = omega arith

times_under : (x g h k : ℕ) → g ≤ k * h → times_gain x g ≤ k * times_gain x h
unfolding times_gain
times_under x g h k i = up_most (x * g) _ (omega (arith, mul-le-mul_left x i, mul-le-mul_left k (up_least (x * h))))

-- ---- sums of them

weighed_more : (g o : ℕ → ℕ) (j m : ℕ) → j ≤ m → weighed g o j ≤ weighed g o m
unfolding weighed
weighed_more g o j zero i =
    let e : j ≡ 0 = omega arith in
    omega (arith, ap (weighed g o) e)
weighed_more g o j (suc m) i = go (dec_lt j (suc m)) (λ k. weighed_more g o j m k)
  where
    go : Dec (j < suc m) → (j ≤ m → weighed g o j ≤ weighed g o m) → weighed g o j ≤ weighed g o (suc m)
    go (yes k) before = omega (arith, before (omega arith))
    go (no k) before =
        let e : j ≡ suc m = omega arith in
        omega (arith, ap (weighed g o) e)

weighed_under : (g h o : ℕ → ℕ) (k j : ℕ) → ((i : ℕ) → i < j → g i ≤ k * h i) → weighed g o j ≤ k * weighed h o j
unfolding weighed
weighed_under g h o k zero e = omega arith
weighed_under g h o k (suc j) e = omega (arith, weighed_under g h o k j (λ i l. e i (omega arith)), times_under (o j) (g j) (h j) k (e j (omega arith)))

-- ---- gains to a node, by number

-- the stage that leaves a node, and its side
abbrev stage_of : Node → ℕ
stage_of P1 = 0
stage_of U1 = 1
stage_of P2 = 2
stage_of U2 = 3
stage_of G1 = 4
stage_of G2 = 5

abbrev side_of : Node → Side
side_of n = (stage forward (stage_of n)).side

-- the gain from the input (i = 0) or from node i
abbrev gain_to : Node → ℕ → ℕ
gain_to n i = get_or (get_or forward_gains i []) (suc (stage_of n)) 0

-- the last node of a pass that takes in whatever this one does, by whether it is G1
abbrev is_low : Node → Bool
is_low P1 = false
is_low U1 = false
is_low P2 = false
is_low U2 = true
is_low G1 = true
is_low G2 = false

abbrev last : Node → Node
last n = last_node (is_low n)

-- the test holds of each number below n
below : (ℕ → Bool) → ℕ → Bool
below test zero = true
below test (suc n) = test n && below test n

below_each : (test : ℕ → Bool) (n i : ℕ) → i < n → T (below test n) → T (test i)
unfolding below
below_each test zero i h b = absurd (omega arith)
below_each test (suc n) i h b = go (dec_lt i n) (λ k. below_each test n i k (both (test n) (below test n) b).1)
  where
    go : Dec (i < n) → (i < n → T (test i)) → T (test i)
    go (yes k) before = before k
    go (no k) before = subst (λ (j : ℕ). T (test j)) (omega arith) (both (test n) (below test n) b).0

-- Of the six nodes: they are six, the last node is no earlier, P1 has the largest gain from the input, and each gain is at most three
-- times that to the last node.
tested : (n : Node) → T (leb (stage_of n) 5 && leb (stage_of n) (stage_of (last n)) && leb (gain_to n 0) (gain_to P1 0) && below (λ i. leb (gain_to n i) (3 * gain_to (last n) i)) 7)
unfolding below
tested P1 = tt
tested U1 = tt
tested P2 = tt
tested U2 = tt
tested G1 = tt
tested G2 = tt

module _ (n : Node) where
  parts : T (leb (stage_of n) 5) × T (leb (stage_of n) (stage_of (last n))) × T (leb (gain_to n 0) (gain_to P1 0)) × T (below (λ i. leb (gain_to n i) (3 * gain_to (last n) i)) 7)
  parts = four (leb (stage_of n) 5) (leb (stage_of n) (stage_of (last n))) (leb (gain_to n 0) (gain_to P1 0)) _ (tested n)

  node_six : stage_of n ≤ 5
  node_six = leb→le _ _ parts.0

  last_later : stage_of n ≤ stage_of (last n)
  last_later = leb→le _ _ parts.1

  gain_most : gain_to n 0 ≤ gain_to P1 0
  gain_most = leb→le _ _ parts.2

gain_to_lem : (n : Node) (i : ℕ) → i < 7 → gain forward (side_of n) (suc (stage_of n)) (forward_source i) ≡ gain_to n i
gain_to_lem P1 i h = forward_gain_lem i 1 h (omega arith)
gain_to_lem U1 i h = forward_gain_lem i 2 h (omega arith)
gain_to_lem P2 i h = forward_gain_lem i 3 h (omega arith)
gain_to_lem U2 i h = forward_gain_lem i 4 h (omega arith)
gain_to_lem G1 i h = forward_gain_lem i 5 h (omega arith)
gain_to_lem G2 i h = forward_gain_lem i 6 h (omega arith)

gain_under : (n : Node) (i : ℕ) → i < 7 → gain forward (side_of n) (suc (stage_of n)) (forward_source i) ≤ 3 * gain forward (side_of (last n)) (suc (stage_of (last n))) (forward_source i)
gain_under n i h = rw (gain_to_lem n i h, gain_to_lem (last n) i h) (leb→le (gain_to n i) (3 * gain_to (last n) i) (below_each (λ i. leb (gain_to n i) (3 * gain_to (last n) i)) 7 i h (parts n).3))

-- ---- one pass

module _ (F : Node → ℕ) (fp : Node → Product) (fi : ℕ) (b : Bound) (f : Node → ℕ) where
  -- the error of a single sample is never the larger one
  node_is : (n : Node) → node_bound F fp fi b f n ≡ bound_after F fp fi b f (side_of n) (suc (stage_of n))
  unfolding node_bound Rule.side_bound
  node_is P1 = refl
  node_is U1 = refl
  node_is P2 = refl
  node_is U2 = refl
  node_is G1 =
      let long = bound_after F fp fi b f low 5 in
      let e : max long.error (single_error fi b (f G1)) ≡ long.error = omega (arith, single_least b (λ i. F (node_of (suc i))) (λ i. fp (node_of (suc i))) fi (λ i. f (node_of (suc i)))) in
      ap (λ (x : ℕ). record { range = long.range; error = x }) e
  node_is G2 = refl

  node_range : (n : Node) → (node_bound F fp fi b f n).range ≡ times_gain b.range (gain_to n 0)
  unfolding Rule.side_bound range_at input_part
  node_range n = ap (λ (c : Bound). c.range) (node_is n) ∙ ap (times_gain b.range) (gain_to_lem n 0 (omega arith))

  own : ℕ → ℕ
  own = own_at forward (together b) (λ i. F (node_of (suc i))) (λ i. fp (node_of (suc i))) (λ s. fi) (λ i. f (node_of (suc i)))

  node_error : (n : Node) → (node_bound F fp fi b f n).error ≡ times_gain b.error (gain forward (side_of n) (suc (stage_of n)) samples) + nodes_part forward (side_of n) (suc (stage_of n)) own (suc (stage_of n))
  unfolding Rule.side_bound input_part own
  node_error n = ap (λ (c : Bound). c.error) (node_is n) ∙ error_sum forward (together b) _ _ _ _ (side_of n) (suc (stage_of n))

  error_under : (n : Node) → (node_bound F fp fi b f n).error ≤ 3 * (node_bound F fp fi b f (last n)).error
  error_under n =
      let to : Node → Source → ℕ = λ m i. gain forward (side_of m) (suc (stage_of m)) i in
      omega (
        arith,
        node_error n,
        node_error (last n),
        times_under b.error (to n samples) (to (last n) samples) 3 (gain_under n 0 (omega arith)),
        weighed_under (λ i. to n (node i)) (λ i. to (last n) (node i)) own 3 (suc (stage_of n)) (λ i l. gain_under n (suc i) (omega (arith, node_six n))),
        weighed_more (λ i. to (last n) (node i)) own (suc (stage_of n)) (suc (stage_of (last n))) (omega (arith, last_later n)),
      )

  -- what enters is in what the pass leaves
  enters_under : (q : Bool) → b.error ≤ (node_bound F fp fi b f (last_node q)).error
  enters_under q = omega (arith, node_error (last_node q), times_least b.error (gain forward (side_of (last_node q)) (suc (stage_of (last_node q))) samples) (omega (arith, gain_to_lem (last_node q) 0 (omega arith), large q)))
    where
      large : (q : Bool) → 65536 ≤ gain_to (last_node q) 0
      large true = lit≤ tt
      large false = lit≤ tt

-- ---- the passes of a level

module _ (t : WidthTable) (l : ℕ) (b : Bound) where
  -- the bound of what enters a pass
  abbrev given : Pass → Bound
  given Rows = b
  given LowColumns = row_bound t l b G1
  given HighColumns = row_bound t l b G2

  pass_is : (p : Pass) → pass_bound t l b p ≡ node_bound (constant_bits t) (product_of t l p) (input_bits t l p) (given p) (fraction_bits t l p)
  unfolding pass_bound row_bound
  pass_is Rows = refl
  pass_is LowColumns = refl
  pass_is HighColumns = refl

  pass_range : (p : Pass) (n : Node) → (pass_bound t l b p n).range ≡ times_gain (given p).range (gain_to n 0)
  pass_range p n = rw (pass_is p) (node_range (constant_bits t) (product_of t l p) (input_bits t l p) (given p) (fraction_bits t l p) n)

  pass_error : (p : Pass) (n : Node) → (pass_bound t l b p n).error ≤ 3 * (pass_bound t l b p (last n)).error
  pass_error p n = rw (pass_is p) (error_under (constant_bits t) (product_of t l p) (input_bits t l p) (given p) (fraction_bits t l p) n)

  pass_enters : (p : Pass) (q : Bool) → (given p).error ≤ (pass_bound t l b p (last_node q)).error
  pass_enters p q = rw (pass_is p) (enters_under (constant_bits t) (product_of t l p) (input_bits t l p) (given p) (fraction_bits t l p) q)

-- ---- ranges

-- what enters level l
grown : ℕ → ℕ
grown zero = 0
grown (suc zero) = 2 ^ 31
grown (suc (suc l)) = times_gain (times_gain (grown (suc l)) (gain_to G1 0)) (gain_to G1 0)

grown_is : (t : WidthTable) (l : ℕ) → (entering t l).range ≡ grown l
unfolding entering grown pass_bound
grown_is t zero = refl
grown_is t (suc zero) = refl
grown_is t (suc (suc l)) =
    pass_range t (suc l) (entering t (suc l)) LowColumns G1
    ∙ ap (λ (x : ℕ). times_gain x (gain_to G1 0)) (pass_range t (suc l) (entering t (suc l)) Rows G1 ∙ ap (λ (x : ℕ). times_gain x (gain_to G1 0)) (grown_is t (suc l)))

grown_tested : T (below (λ l. leb (grown l) (grown max_levels)) (max_levels + 1))
unfolding below grown times_gain up_div
grown_tested = tt

-- P1 of the columns of row-low at the last level
largest : ℕ
largest = times_gain (times_gain (grown max_levels) (gain_to G1 0)) (gain_to P1 0)

largest_small : largest ≤ 865 * 2 ^ 32
unfolding largest grown times_gain up_div
largest_small = lit≤ tt

given_most : (t : WidthTable) (l : ℕ) (b : Bound) (p : Pass) → (given t l b p).range ≤ times_gain b.range (gain_to G1 0)
unfolding pass_bound
given_most t l b Rows = times_least b.range (gain_to G1 0) (lit≤ tt)
given_most t l b LowColumns = omega (arith, pass_range t l b Rows G1)
given_most t l b HighColumns = omega (arith, pass_range t l b Rows G2, times_grows b.range b.range (gain_to G2 0) (gain_to G1 0) (omega arith) (lit≤ tt))

-- of a level whose input is at most m
range_under : (t : WidthTable) (l m : ℕ) → grown l ≤ m → (p : Pass) (n : Node) → (pass_bound t l (entering t l) p n).range ≤ times_gain (times_gain m (gain_to G1 0)) (gain_to P1 0)
range_under t l m i p n =
    let j : (given t l (entering t l) p).range ≤ times_gain m (gain_to G1 0) = le_trans (given_most t l (entering t l) p) (times_grows (entering t l).range m (gain_to G1 0) (gain_to G1 0) (omega (arith, grown_is t l)) (omega arith)) in
    rw (pass_range t l (entering t l) p n) (times_grows _ _ (gain_to n 0) (gain_to P1 0) j (gain_most n))

range_most : (t : WidthTable) (l : ℕ) → l ≤ max_levels → (p : Pass) (n : Node) → (pass_bound t l (entering t l) p n).range ≤ largest
unfolding largest
range_most t l h = range_under t l (grown max_levels) (leb→le (grown l) (grown max_levels) (below_each (λ l. leb (grown l) (grown max_levels)) (max_levels + 1) l (omega arith) grown_tested))

-- the same at level 1
first : ℕ
first = times_gain (times_gain (grown 1) (gain_to G1 0)) (gain_to P1 0)

first_small : first ≤ 5 * 2 ^ 32
unfolding first grown times_gain up_div
first_small = lit≤ tt

range_first : (t : WidthTable) (p : Pass) (n : Node) → (pass_bound t 1 (entering t 1) p n).range ≤ first
unfolding first
range_first t = range_under t 1 (grown 1) (omega arith)

-- ---- errors

-- a step of 2^-f
step_most : (f : ℕ) → 2 ^ (32 - f) ≤ 2 ^ 32
step_most f = pow-le-pow_right (omega arith) {j = 32} (omega arith)

module _ (t : WidthTable) (ok : AcceptPromise t) where
  -- of a kept node
  kept_most : (l : ℕ) → 1 ≤ l → l ≤ t.levels → (p : Pass) (n : Node) → T (kept_at t.levels l p n) → (pass_bound t l (entering t l) p n).error ≤ 2 ^ 33
  unfolding bound_of
  kept_most l a b p n k = omega (arith, ok.steps l a b p n k, step_most (fraction_bits t l p n))

  -- of what enters rows and columns: G2 of the columns is kept
  rows_most : (l : ℕ) → 1 ≤ l → l ≤ t.levels → (q : Bool) → (pass_bound t l (entering t l) Rows (last_node q)).error ≤ 2 ^ 33
  unfolding pass_bound
  rows_most l a b true = le_trans (pass_enters t l (entering t l) LowColumns false) (kept_most l a b LowColumns G2 tt)
  rows_most l a b false = le_trans (pass_enters t l (entering t l) HighColumns false) (kept_most l a b HighColumns G2 tt)

  entering_most : (l : ℕ) → 1 ≤ l → l ≤ t.levels → (entering t l).error ≤ 2 ^ 33
  entering_most l a b = le_trans (pass_enters t l (entering t l) Rows false) (rows_most l a b false)

  -- low-low is kept at the last level, and enters the next level at each other
  low_low_most : (l : ℕ) → 1 ≤ l → l ≤ t.levels → (pass_bound t l (entering t l) LowColumns G1).error ≤ 2 ^ 33
  unfolding entering
  low_low_most zero a b = absurd (omega arith)
  low_low_most (suc l) a b = go (dec_lt (suc l) t.levels)
    where
      go : Dec (suc l < t.levels) → (pass_bound t (suc l) (entering t (suc l)) LowColumns G1).error ≤ 2 ^ 33
      go (yes i) = entering_most (suc (suc l)) (omega arith) i
      go (no i) =
          let e : suc l ≡ t.levels = omega arith in
          kept_most (suc l) a b LowColumns G1 (subst (λ (k : ℕ). T (eqb (suc l) k)) e (eqb_refl (suc l)))

  last_most : (l : ℕ) → 1 ≤ l → l ≤ t.levels → (p : Pass) (q : Bool) → (pass_bound t l (entering t l) p (last_node q)).error ≤ 2 ^ 33
  last_most l a b Rows q = rows_most l a b q
  last_most l a b LowColumns true = low_low_most l a b
  last_most l a b LowColumns false = kept_most l a b LowColumns G2 tt
  last_most l a b HighColumns true = kept_most l a b HighColumns G1 tt
  last_most l a b HighColumns false = kept_most l a b HighColumns G2 tt

-- ---- both

pub eleven_bits : (t : WidthTable) → AcceptPromise t → (l : ℕ) → 1 ≤ l → l ≤ t.levels → (p : Pass) (n : Node)
    → (bound_of t (node_at l p n)).range + (bound_of t (node_at l p n)).error + 2 ^ (32 - fraction_bits t l p n) ≤ 2 ^ 10 * 2 ^ 32
unfolding bound_of
eleven_bits t ok l a b p n =
    let few : l ≤ max_levels = omega (arith, (form_levels t ok.form).1) in
    omega (arith, step_most (fraction_bits t l p n), range_most t l few p n, largest_small, pass_error t l (entering t l) p n, last_most t ok l a b p (is_low n))

-- what enters a level
pub enters_eleven : (t : WidthTable) → AcceptPromise t → (l : ℕ) → 1 ≤ l → l ≤ t.levels
    → (entering t l).range + (entering t l).error + 2 ^ (32 - input_bits t l Rows) ≤ 2 ^ 10 * 2 ^ 32
unfolding entering bound_of
enters_eleven t ok zero a b = absurd (omega arith)
enters_eleven t ok (suc zero) a b = omega (arith, step_most t.depth)
enters_eleven t ok (suc (suc l)) a b = eleven_bits t ok (suc l) (omega arith) (omega arith) LowColumns G1

-- the same of level 1
pub five_bits_lem : (t : WidthTable) → AcceptPromise t → (p : Pass) (n : Node)
    → (bound_of t (node_at 1 p n)).range + (bound_of t (node_at 1 p n)).error + 2 ^ (32 - fraction_bits t 1 p n) ≤ 2 ^ 4 * 2 ^ 32
unfolding bound_of
five_bits_lem t ok p n =
    let some : 1 ≤ t.levels = (form_levels t ok.form).0 in
    omega (arith, step_most (fraction_bits t 1 p n), range_first t p n, first_small, pass_error t 1 (entering t 1) p n, last_most t ok 1 (omega arith) some p (is_low n))

pub enters_five : (t : WidthTable) → (entering t 1).range + (entering t 1).error + 2 ^ (32 - input_bits t 1 Rows) ≤ 2 ^ 4 * 2 ^ 32
unfolding entering
enters_five t = omega (arith, step_most t.depth)

-- ---- the least integer bits

-- the range of high-high, which is the least that columns leave
least : ℕ → ℕ
least l = times_gain (times_gain (grown l) (gain_to G2 0)) (gain_to G2 0)

gain_least : (q : Bool) → gain_to G2 0 ≤ gain_to (last_node q) 0
gain_least true = lit≤ tt
gain_least false = lit≤ tt

given_least : (t : WidthTable) (l : ℕ) (q : Bool) → times_gain (grown l) (gain_to G2 0) ≤ (given t l (entering t l) (column_pass q)).range
unfolding pass_bound
given_least t l true = omega (arith, pass_range t l (entering t l) Rows G1, times_grows (grown l) (entering t l).range (gain_to G2 0) (gain_to G1 0) (omega (arith, grown_is t l)) (gain_least true))
given_least t l false = omega (arith, pass_range t l (entering t l) Rows G2, times_grows (grown l) (entering t l).range (gain_to G2 0) (gain_to G2 0) (omega (arith, grown_is t l)) (gain_least false))

range_least : (t : WidthTable) (l : ℕ) (q last : Bool) → least l ≤ (pass_bound t l (entering t l) (column_pass q) (last_node last)).range
unfolding least
range_least t l q last = rw (pass_range t l (entering t l) (column_pass q) (last_node last)) (times_grows _ _ (gain_to G2 0) (gain_to (last_node last) 0) (given_least t l q) (gain_least last))

least_tested : T (below (λ l. leb (2 ^ (2 * l) * 2 ^ 32) (least (suc l))) max_levels)
unfolding below least grown times_gain up_div
least_tested = tt

pub least_bits : (t : WidthTable) → AcceptPromise t → (l : ℕ) → 1 ≤ l → l ≤ t.levels → (q last : Bool) → 2 * l ≤ integer_bits t l (column_pass q) (last_node last)
unfolding bound_of
least_bits t ok zero a b q last = absurd (omega arith)
least_bits t ok (suc l) a b q last = go (dec_lt (integer_bits t (suc l) (column_pass q) (last_node last)) (2 * suc l))
  where
    p : Pass
    p = column_pass q

    n : Node
    n = last_node last

    go : Dec (integer_bits t (suc l) p n < 2 * suc l) → 2 * suc l ≤ integer_bits t (suc l) p n
    go (yes i) =
        absurd (omega (
          arith,
          leb→le (2 ^ (2 * l) * 2 ^ 32) (least (suc l)) (below_each (λ l. leb (2 ^ (2 * l) * 2 ^ 32) (least (suc l))) max_levels l (omega (arith, (form_levels t ok.form).1)) least_tested),
          range_least t (suc l) q last,
          ok.fit (suc l) a b p n,
          pow_pos (32 - fraction_bits t (suc l) p n),
          pow-le-pow_right {n = 2} (lit≤ tt) {i = integer_bits t (suc l) p n - 1} {j = 2 * l} (omega arith),
        ))
    go (no i) = omega arith
