-- The first refusal of a part of the book order, and what the program has of it when it enters a pass.
use Rattle.std.specs.Prelude.{ℕ, zero, suc, ◌+◌, ◌*◌, ◌-◌, ◌^◌, ◌<◌, ◌≤◌, true, false, List, [], ◌∷◌, ◌++◌, ◌≡◌, refl, length, get_or, take, drop}
use Rattle.std.proofs.Common.{sym, ◌∙◌, ap, arith, add-one, lit≤, length-append, take-suc, take_all, take-add, take-take}
use Rattle.std.proofs.Math.Path.{subst}
use Rattle.std.proofs.Math.Decide.{dec_lt}
use Rattle.std.proofs.Math.Dec.{T}
use Rattle.std.proofs.lemmas.List.{take-append-le}
use Rattle.std.proofs.Math.Seq.{take-append-add}
use Rattle.refusals.specs.Answers.{Reason, Answer, done, refused, passed, ◌then◌, answered}
use Rattle.refusals.specs.AnswerLaws.{asks_wrong, asks_right, then_done, then_right, then_refused}
use Rattle.width_table.specs.declared.WidthTable.{WidthTable}
use Rattle.width_table.specs.Nodes.{Node, P1, G1, nodes_per_pass, nodes_per_level, Pass, Rows, LowColumns, HighColumns, TableNode, node_at, pass_nodes, level_nodes, table_order}
use Rattle.width_table.specs.Numbered.{node_of, pass_of, IsNode, IsPass}
use Rattle.width_table.specs.Table.{form_right}
use Rattle.width_table.specs.Changes.{has_node}
use Rattle.stages.specs.Rule.{Bound}
use Rattle.precision.specs.Bounds.{entering, bound_of}
use Rattle.precision.specs.Verdict.{judged, first_refusal, verdict}
use Rattle.precision.specs.BoundCalls.{nodes_before, bound_answer}
use Rattle.precision.specs.Promise.{refusal_++}
use Rattle.precision.specs.Places.{most_fitting, fed, fed_after, At, Enters, Reached, Goes, After}
use Rattle.bounds_rule.specs.Carried.{as_held}
use Rattle.precision.specs.PlaceLaws.{by_place}
use Rattle.precision.specs.JudgeLaws.{by_pass, accepted_small}
use Rattle.bounds_rule.specs.declared.Bound as Code

-- ---- the first part of a list

-- a refusal stays
pub stays : (t : WidthTable) (r : Reason) (ps : List TableNode) (k m : ℕ) → k ≤ m → first_refusal t (take k ps) ≡ refused r → first_refusal t (take m ps) ≡ refused r
stays t r ps k m h e =
    let z : m ≡ k + (m - k) = omega arith in
    ap (λ (m : ℕ). first_refusal t (take m ps)) z ∙ ap (first_refusal t) (take-add k (m - k) ps) ∙ refusal_++ t (take k ps) _ ∙ then_refused _ _ r e

-- what stands before is accepted with it
pub accepted_before : (t : WidthTable) (ps : List TableNode) (k m : ℕ) → k ≤ m → first_refusal t (take m ps) ≡ passed → first_refusal t (take k ps) ≡ passed
accepted_before t ps k m h e =
    let z : k + (m - k) ≡ m = omega arith in
    (then_done (first_refusal t (take k ps)) _ (sym (ap (first_refusal t) (take-add k (m - k) ps) ∙ refusal_++ t (take k ps) _) ∙ ap (λ (m : ℕ). first_refusal t (take m ps)) z ∙ e)).0

-- one node more
one_more : (t : WidthTable) (ps : List TableNode) (k : ℕ) (d : TableNode) → k < length ps → first_refusal t (take k ps) ≡ passed → first_refusal t (take (suc k) ps) ≡ judged t (get_or ps k d)
unfolding first_refusal
one_more t ps k d h e = ap (first_refusal t) (take-suc ps k d h) ∙ refusal_++ t (take k ps) (get_or ps k d ∷ []) ∙ then_right _ _ e ∙ then_passed (judged t (get_or ps k d))
  where
    then_passed : (o : Answer Unit) → o then passed ≡ o
    then_passed (done tt) = refl
    then_passed (refused r) = refl

pub node_next : (t : WidthTable) (l : ℕ) (p : Pass) (k : ℕ) → k < nodes_per_pass → first_refusal t (take k (pass_nodes l p)) ≡ passed → first_refusal t (take (k + 1) (pass_nodes l p)) ≡ judged t (node_at l p (node_of (k + 1)))
node_next t l p k h e =
    let z : k ≡ k + 1 - 1 = omega arith in
    ap (λ (m : ℕ). first_refusal t (take m (pass_nodes l p))) (add-one k)
    ∙ one_more t (pass_nodes l p) k (node_at l p P1) h e
    ∙ ap (λ (m : ℕ). judged t (get_or (pass_nodes l p) m (node_at l p P1))) z
    ∙ ap (judged t) (by_place (λ (m : ℕ). get_or (pass_nodes l p) (m - 1) (node_at l p P1) ≡ node_at l p (node_of m)) refl refl refl refl refl refl (k + 1) (omega arith))

-- ---- book order

book_length : (L : ℕ) → length (table_order L) ≡ L * nodes_per_level
book_length zero = refl
book_length (suc L) = length-append (table_order L) (level_nodes (suc L)) ∙ omega (arith, book_length L)

book_part : (k L : ℕ) → k ≤ L → take (k * nodes_per_level) (table_order L) ≡ table_order k
book_part k zero h = let z : k ≡ 0 = omega arith in subst (λ (k : ℕ). take (k * nodes_per_level) [] ≡ table_order k) (sym z) refl
book_part k (suc L) h = go (dec_lt k (suc L)) (book_part k L)
  where
    go : Dec (k < suc L) → (k ≤ L → take (k * nodes_per_level) (table_order L) ≡ table_order k) → take (k * nodes_per_level) (table_order (suc L)) ≡ table_order k
    go (yes i) before = take-append-le (k * nodes_per_level) (table_order L) (level_nodes (suc L)) (omega (arith, book_length L)) ∙ before (omega arith)
    go (no i) before =
        let z : k ≡ suc L = omega arith in
        subst (λ (j : ℕ). take (k * nodes_per_level) (table_order (suc L)) ≡ table_order j) (sym z) (take_all (k * nodes_per_level) (table_order (suc L)) (omega (arith, book_length (suc L))))

book_next : (t : WidthTable) (k : ℕ) → first_refusal t (table_order k) ≡ passed → first_refusal t (table_order (k + 1)) ≡ first_refusal t (level_nodes (k + 1))
book_next t k e =
    subst (λ (j : ℕ). first_refusal t (table_order j) ≡ first_refusal t (level_nodes j)) (sym (add-one k))
    (refusal_++ t (table_order k) (level_nodes (suc k)) ∙ then_right _ _ e)

pub level_accepted : (t : WidthTable) (k : ℕ) → first_refusal t (table_order k) ≡ passed → first_refusal t (level_nodes (k + 1)) ≡ passed → first_refusal t (table_order (k + 1)) ≡ passed
level_accepted t k d e = book_next t k d ∙ e

pub level_refused : (t : WidthTable) (r : Reason) (k m : ℕ) → k < m → first_refusal t (table_order k) ≡ passed → first_refusal t (level_nodes (k + 1)) ≡ refused r → first_refusal t (table_order m) ≡ refused r
level_refused t r k m h d e =
    sym (ap (first_refusal t) (book_part m m (omega arith)))
    ∙ stays t r (table_order m) ((k + 1) * nodes_per_level) (m * nodes_per_level) (omega arith) (ap (first_refusal t) (book_part (k + 1) m (omega arith)) ∙ book_next t k d ∙ e)

-- the part that ends in level k + 1
level_part : (k L n : ℕ) → suc k ≤ L → n ≤ nodes_per_level → take (k * nodes_per_level + n) (table_order L) ≡ table_order k ++ take n (level_nodes (suc k))
level_part k L n h i =
    sym (take-take (k * nodes_per_level + n) (suc k * nodes_per_level) (table_order L) (omega arith))
    ∙ ap (take (k * nodes_per_level + n)) (book_part (suc k) L h)
    ∙ ap (λ (m : ℕ). take (m + n) (table_order (suc k))) (sym (book_length k))
    ∙ take-append-add (table_order k) (level_nodes (suc k)) n

-- the part of a level that ends in pass p
pass_part : (l p n : ℕ) → IsPass p → n ≤ nodes_per_pass → take ((p - 1) * nodes_per_pass + n) (level_nodes l) ≡ take ((p - 1) * nodes_per_pass) (level_nodes l) ++ take n (pass_nodes l (pass_of p))
pass_part l p n i h =
    take-add ((p - 1) * nodes_per_pass) n (level_nodes l)
    ∙ ap (λ (ps : List TableNode). take ((p - 1) * nodes_per_pass) (level_nodes l) ++ ps)
    (by_pass (λ (p : ℕ). take n (drop ((p - 1) * nodes_per_pass) (level_nodes l)) ≡ take n (pass_nodes l (pass_of p)))
    (take-append-le n (pass_nodes l Rows) (pass_nodes l LowColumns ++ pass_nodes l HighColumns) h)
    (take-append-le n (pass_nodes l LowColumns) (pass_nodes l HighColumns) h)
    refl p i)

-- Before a node come the levels before its own, in its level the passes before its own, and in its pass the nodes before it.
pub before_is : (t : WidthTable) (l p : ℕ) → At t l p → (n : ℕ) → IsNode n → first_refusal t (nodes_before t.levels l p n) ≡ first_refusal t (table_order (l - 1)) then first_refusal t (take ((p - 1) * nodes_per_pass) (level_nodes l)) then first_refusal t (take (n - 1) (pass_nodes l (pass_of p)))
before_is t zero p h n i = absurd (omega (arith, h.level_from))
before_is t (suc k) p h n i =
    let z : suc k - 1 ≡ k = omega arith in
    subst
    (λ (m : ℕ). first_refusal t (take (m * nodes_per_level + ((p - 1) * nodes_per_pass + (n - 1))) (table_order t.levels)) ≡ first_refusal t (table_order m) then first_refusal t (take ((p - 1) * nodes_per_pass) (level_nodes (suc k))) then first_refusal t (take (n - 1) (pass_nodes (suc k) (pass_of p))))
    (sym z)
    (ap (first_refusal t) (level_part k t.levels ((p - 1) * nodes_per_pass + (n - 1)) h.level_to (omega (arith, h.pass)))
    ∙ refusal_++ t (table_order k) _
    ∙ ap (λ (ps : List TableNode). first_refusal t (table_order k) then first_refusal t ps) (pass_part (suc k) p (n - 1) h.pass (omega arith))
    ∙ ap (λ (o : Answer Unit). first_refusal t (table_order k) then o) (refusal_++ t (take ((p - 1) * nodes_per_pass) (level_nodes (suc k))) _))

-- ---- into a pass

-- where a node before it is refused, nothing enters
pub not_reached : (t : WidthTable) (before : List TableNode) (b : Bound) (r : Reason) (held : Code.Bound) → first_refusal t before ≡ refused r → Goes t before b (refused r) held
not_reached t before b r held e = (sym e, λ d. let z : ◌≡◌ {A = ℕ} 0 1 = cc in absurd (omega arith))

-- a pass after one that is refused
pub next_refused : (t : WidthTable) (l p : ℕ) (r : Reason) (b : Bound) (held : Code.Bound) → first_refusal t (take ((p - 1) * nodes_per_pass) (level_nodes l)) ≡ refused r → Goes t (take (p * nodes_per_pass) (level_nodes l)) b (refused r) held
next_refused t l p r b held e = not_reached t _ b r held (stays t r (level_nodes l) ((p - 1) * nodes_per_pass) (p * nodes_per_pass) (omega arith) e)

module _ {t : WidthTable} {l : ℕ} where
  -- what node n of an accepted pass leaves
  left_by : (p : ℕ) (n : Node) (before : List TableNode) (o : Answer Unit) (b : Code.Bound) → At t l p → b ≡ as_held (bound_of t (node_at l (pass_of p) n)) → o ≡ first_refusal t before → (o ≡ passed → first_refusal t (pass_nodes l (pass_of p)) ≡ passed) → Goes t before (bound_of t (node_at l (pass_of p) n)) o b
  left_by p n before o b h d e f = (e, λ x. record { is = d; small = subst (λ (c : Code.Bound). c.range + c.error ≤ most_fitting) (sym d) (accepted_small h n (f x)) })

  -- the same of one pass, which is accepted
  pub left_reached : {p : ℕ} {b : Code.Bound} (n : Node) → At t l p → b ≡ as_held (bound_of t (node_at l (pass_of p) n)) → first_refusal t (pass_nodes l (pass_of p)) ≡ passed → Reached (bound_of t (node_at l (pass_of p) n)) b
  left_reached n h d e = record { is = d; small = subst (λ (c : Code.Bound). c.range + c.error ≤ most_fitting) (sym d) (accepted_small h n e) }

  -- what enters pass p of the level
  pub enters : {p : ℕ} {b : Code.Bound} → At t l p → Reached (fed_after t l (p - 1)) b → Enters t l p b
  enters {p} h x = record {
    place = h;
    is = x.is ∙ by_pass (λ (p : ℕ). as_held (fed_after t l (p - 1)) ≡ as_held (fed t l (pass_of p))) refl refl refl p h.pass;
    small = x.small;
  }

  pub after_none : (k : ℕ) (b : Code.Bound) → k ≡ 0 → Enters t l 1 b → After t l k passed b
  unfolding first_refusal
  after_none k b e h = subst (λ (k : ℕ). After t l k passed b) (sym e) (refl, λ d. record { is = h.is; small = h.small })

  -- a pass after which others come
  pub pass_next : {p : ℕ} → At t l p → first_refusal t (take ((p - 1) * nodes_per_pass) (level_nodes l)) ≡ passed → first_refusal t (take (p * nodes_per_pass) (level_nodes l)) ≡ first_refusal t (pass_nodes l (pass_of p))
  pass_next {p} h e =
      let z : p * nodes_per_pass ≡ (p - 1) * nodes_per_pass + nodes_per_pass = omega (arith, h.pass) in
      ap (λ (m : ℕ). first_refusal t (take m (level_nodes l))) z ∙ ap (first_refusal t) (pass_part l p nodes_per_pass h.pass (omega arith)) ∙ refusal_++ t _ _ ∙ then_right _ _ e

  -- what it leaves then
  pub next_left : {p : ℕ} (n : Node) {o : Answer Unit} {b : Code.Bound} → At t l p → first_refusal t (take ((p - 1) * nodes_per_pass) (level_nodes l)) ≡ passed → o ≡ first_refusal t (pass_nodes l (pass_of p)) → b ≡ as_held (bound_of t (node_at l (pass_of p) n)) → Goes t (take (p * nodes_per_pass) (level_nodes l)) (bound_of t (node_at l (pass_of p) n)) o b
  next_left {p} n {o} {b} h before e d = left_by p n _ o b h d (e ∙ sym (pass_next h before)) (λ x. sym e ∙ x)

  -- it passes, or it stops the passes
  pub pass_passes : {p : ℕ} → At t l p → first_refusal t (take ((p - 1) * nodes_per_pass) (level_nodes l)) ≡ passed → passed ≡ first_refusal t (pass_nodes l (pass_of p)) → first_refusal t (take (p * nodes_per_pass) (level_nodes l)) ≡ passed
  pass_passes h e d = pass_next h e ∙ sym d

  pub pass_stops : {p : ℕ} (k : ℕ) {r : Reason} → At t l p → p ≤ k → first_refusal t (take ((p - 1) * nodes_per_pass) (level_nodes l)) ≡ passed → refused r ≡ first_refusal t (pass_nodes l (pass_of p)) → refused r ≡ first_refusal t (take (k * nodes_per_pass) (level_nodes l))
  pass_stops {p} k {r} h le e d = sym (stays t r (level_nodes l) (p * nodes_per_pass) (k * nodes_per_pass) (omega arith) (pass_next h e ∙ sym d))

module _ (t : WidthTable) (l : ℕ) where
  -- before the first pass
  pub none_before : first_refusal t (take (0 * nodes_per_pass) (level_nodes l)) ≡ passed
  unfolding first_refusal
  none_before = refl

  -- all that are asked for
  pub passes_done : (k m : ℕ) → m ≡ k → first_refusal t (take (k * nodes_per_pass) (level_nodes l)) ≡ passed → passed ≡ first_refusal t (take (m * nodes_per_pass) (level_nodes l))
  passes_done k m e d = sym (ap (λ (m : ℕ). first_refusal t (take (m * nodes_per_pass) (level_nodes l))) e ∙ d)

-- ---- into a level

pub enters_first : (t : WidthTable) → record { range = 2 ^ 31; error = 0 } ≡ as_held (entering t 1)
unfolding entering
enters_first t = refl

pub enters_next : (t : WidthTable) (k : ℕ) → 1 ≤ k → as_held (bound_of t (node_at k LowColumns G1)) ≡ as_held (entering t (k + 1))
unfolding entering bound_of
enters_next t zero h = absurd (omega arith)
enters_next t (suc k) h = ap (λ (j : ℕ). as_held (entering t j)) (sym (add-one (suc k)))

pub level_at : (t : WidthTable) (k : ℕ) → k < t.levels → T (form_right t) → At t (k + 1) 1
level_at t k h f = record { form = f; level_from = omega arith; level_to = omega arith; pass = (lit≤ tt, lit≤ tt) }

-- the level that follows the first l - 1
pub enters_level : {t : WidthTable} {l : ℕ} {b : Code.Bound} → At t l 1 → Reached (entering t (l - 1 + 1)) b → Enters t l 1 b
enters_level {t} {l} h x =
    let z : l - 1 + 1 ≡ l = omega (arith, h.level_from) in
    record { place = h; is = x.is ∙ ap (λ (k : ℕ). as_held (entering t k)) z; small = x.small }

-- ---- the two calls

pub not_formed : (t : WidthTable) → form_right t ≡ false → verdict t ≡ refused (4, [])
unfolding verdict
not_formed t e = asks_wrong (form_right t) _ _ e

pub formed : (t : WidthTable) → form_right t ≡ true → verdict t ≡ first_refusal t (table_order t.levels)
unfolding verdict
formed t e = asks_right (form_right t) _ _ (subst T (sym e) tt)

-- A bound told with answer o: its range and error where o is done, else zeros.
abbrev Tells : Bound → Answer Unit → Answer Unit → ℕ → ℕ → Type 0
Tells b o answer range error = (answer ≡ o) × ((range ≡ answered o b.range 0) × (error ≡ answered o b.error 0))

pub tells : (b : Bound) {u v answer : Answer Unit} {range error : ℕ} → u ≡ v → Tells b v answer range error → Tells b u answer range error
tells b {u} {v} {answer} {range} {error} e = subst (λ (o : Answer Unit). Tells b o answer range error) (sym e)

-- the answer on a node, by where the first refusal stands
module _ {t : WidthTable} {l p : ℕ} (h : At t l p) (n : ℕ) (i : IsNode n) where
  pub level_refuses : (r : Reason) → first_refusal t (table_order (l - 1)) ≡ refused r → first_refusal t (nodes_before t.levels l p n) ≡ refused r
  level_refuses r e = before_is t l p h n i ∙ then_refused _ _ r e

  module _ (levels : first_refusal t (table_order (l - 1)) ≡ passed) where
    pub pass_refuses : (r : Reason) → first_refusal t (take ((p - 1) * nodes_per_pass) (level_nodes l)) ≡ refused r → first_refusal t (nodes_before t.levels l p n) ≡ refused r
    pass_refuses r e = before_is t l p h n i ∙ then_right _ _ levels ∙ then_refused _ _ r e

    pub node_answers : (o : Answer Unit) → first_refusal t (take ((p - 1) * nodes_per_pass) (level_nodes l)) ≡ passed → first_refusal t (take (n - 1) (pass_nodes l (pass_of p))) ≡ o → first_refusal t (nodes_before t.levels l p n) ≡ o
    node_answers o passes e = before_is t l p h n i ∙ then_right _ _ levels ∙ then_right _ _ passes ∙ e

module _ (t : WidthTable) (l p n : ℕ) where
  pub bound_not_formed : form_right t ≡ false → bound_answer t l p n ≡ refused (4, [])
  unfolding bound_answer
  bound_not_formed e = asks_wrong (form_right t) _ _ e

  module _ (f : form_right t ≡ true) where
    pub bound_lacks : has_node t.levels l p n ≡ false → bound_answer t l p n ≡ refused (4, [])
    unfolding bound_answer
    bound_lacks e = asks_right (form_right t) _ _ (subst T (sym f) tt) ∙ asks_wrong (has_node t.levels l p n) _ _ e

    pub bound_has : has_node t.levels l p n ≡ true → bound_answer t l p n ≡ first_refusal t (nodes_before t.levels l p n)
    unfolding bound_answer
    bound_has e = asks_right (form_right t) _ _ (subst T (sym f) tt) ∙ asks_right (has_node t.levels l p n) _ _ (subst T (sym e) tt)
