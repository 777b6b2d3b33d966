-- A table is accepted where the accept promise holds of it, and nowhere else (`promise`, `accept`).
use Rattle.std.specs.Prelude.{ℕ, zero, suc, ◌≤◌, Bool, true, false, ◌||◌, not, List, [], ◌∷◌, ◌++◌, ◌≡◌, refl, T}
use Rattle.std.proofs.Common.{◌∙◌, ap, arith, leb→le, le→leb, ltb→lt}
use Rattle.std.proofs.Math.Dec.{lt→ltb}
use Rattle.numbers.specs.Lists.{In, here, there}
use Rattle.width_table.specs.Nodes.{Node, P1, U1, P2, U2, G1, G2, Pass, Rows, LowColumns, HighColumns, TableNode, node_at, pass_nodes, level_nodes, table_order}
use Rattle.width_table.specs.declared.WidthTable.{WidthTable}
use Rattle.refusals.specs.Answers.{Answer, passed, ◌then◌}
use Rattle.refusals.specs.AnswerLaws.{asks_done, asks_right, then_done, then_assoc, then_right}
use Rattle.width_table.specs.Table.{integer_bits, fraction_bits, form_right}
use Rattle.width_table.specs.Limits.{in_order}
use Rattle.precision.specs.Bounds.{bound_of}
use Rattle.precision.specs.Verdict.{fits, below_two_steps, judged, first_refusal, verdict, Accepted, AcceptPromise}
use Rattle.table_meaning.specs.Subbands.{kept_at}

-- ---- the verdict

pub each_accepts : (t : WidthTable) {p : TableNode} {ps : List TableNode} → In p ps → first_refusal t ps ≡ passed → judged t p ≡ passed
unfolding first_refusal
each_accepts t {p} (here {xs = ps}) e = (then_done (judged t p) (first_refusal t ps) e).0
each_accepts t (there {y = q} {xs = ps} i) e = each_accepts t i (then_done (judged t q) (first_refusal t ps) e).1

-- what a kept node needs
kept_needs : (kept low : Bool) → T (not kept || low) → T kept → T low
kept_needs true low h k = h
kept_needs false low h k = absurd k

needs_kept : (kept low : Bool) → (T kept → T low) → T (not kept || low)
needs_kept true low h = h tt
needs_kept false low h = tt

-- The accept promise.
pub promise : (t : WidthTable) → Accepted t → AcceptPromise t
unfolding verdict judged
promise t e = record {
  form = (asks_done (form_right t) _ _ e).0;
  fit = λ l a b p n. leb→le _ _ (at l a b p n).0;
  steps = λ l a b p n k. ltb→lt _ _ ((at l a b p n).1 k);
}
  where
    at : (l : ℕ) → 1 ≤ l → l ≤ t.levels → (p : Pass) (n : Node) → T (fits (bound_of t (node_at l p n)) (integer_bits t l p n) (fraction_bits t l p n)) × (T (kept_at t.levels l p n) → T (below_two_steps (bound_of t (node_at l p n)) (fraction_bits t l p n)))
    at l a b p n =
        let kept = kept_at t.levels l p n in
        let low = below_two_steps (bound_of t (node_at l p n)) (fraction_bits t l p n) in
        let x = asks_done (fits (bound_of t (node_at l p n)) (integer_bits t l p n) (fraction_bits t l p n)) _ _ (each_accepts t (in_order t.levels l a b p n) (asks_done (form_right t) _ _ e).1) in
        (x.0, kept_needs kept low (asks_done (not kept || low) _ _ x.1).0)

-- ---- and back

abbrev Each : {A : Type 0} → (A → Type 0) → List A → Type 0
Each P [] = Unit
Each P (x ∷ xs) = P x × Each P xs

each_++ : {A : Type 0} (P : A → Type 0) (xs ys : List A) → Each P xs → Each P ys → Each P (xs ++ ys)
each_++ P [] ys h k = k
each_++ P (x ∷ xs) ys h k = (h.0, each_++ P xs ys h.1 k)

each_node : (P : TableNode → Type 0) (l : ℕ) (p : Pass) → ((n : Node) → P (node_at l p n)) → Each P (pass_nodes l p)
each_node P l p f = (f P1, (f U1, (f P2, (f U2, (f G1, (f G2, tt))))))

-- what holds of each pass and node of levels 1 to L holds in book order
each_order : (P : TableNode → Type 0) (L : ℕ) → ((l : ℕ) → 1 ≤ l → l ≤ L → (p : Pass) (n : Node) → P (node_at l p n)) → Each P (table_order L)
each_order P zero f = tt
each_order P (suc k) f =
    each_++ P (table_order k) (level_nodes (suc k)) (each_order P k (λ l a b. f l a (omega arith)))
    (each_++ P (pass_nodes l Rows) (pass_nodes l LowColumns ++ pass_nodes l HighColumns) (each_node P l Rows (at Rows)) (each_++ P (pass_nodes l LowColumns) (pass_nodes l HighColumns) (each_node P l LowColumns (at LowColumns)) (each_node P l HighColumns (at HighColumns))))
  where
    l : ℕ
    l = suc k

    at : (p : Pass) (n : Node) → P (node_at l p n)
    at = f l (omega arith) (omega arith)

all_accept : (t : WidthTable) (ps : List TableNode) → Each (λ p. judged t p ≡ passed) ps → first_refusal t ps ≡ passed
unfolding first_refusal
all_accept t [] h = refl
all_accept t (p ∷ ps) h = then_right (judged t p) (first_refusal t ps) h.0 ∙ all_accept t ps h.1

module _ (t : WidthTable) (ok : AcceptPromise t) where
  node_ok : (l : ℕ) → 1 ≤ l → l ≤ t.levels → (p : Pass) (n : Node) → judged t (node_at l p n) ≡ passed
  unfolding judged
  node_ok l a b p n =
      let kept = kept_at t.levels l p n in
      let low = below_two_steps (bound_of t (node_at l p n)) (fraction_bits t l p n) in
      asks_right (fits (bound_of t (node_at l p n)) (integer_bits t l p n) (fraction_bits t l p n)) _ _ (le→leb _ _ (ok.fit l a b p n))
      ∙ asks_right (not kept || low) _ _ (needs_kept kept low (λ k. lt→ltb _ _ (ok.steps l a b p n k)))

  -- The judge accepts by these rules and by nothing else.
  pub accept : Accepted t
  unfolding verdict
  accept = asks_right (form_right t) _ _ ok.form ∙ all_accept t (table_order t.levels) (each_order (λ p. judged t p ≡ passed) t.levels node_ok)

-- the verdict on two stretches, one after the other
pub refusal_++ : (t : WidthTable) (ps qs : List TableNode) → first_refusal t (ps ++ qs) ≡ first_refusal t ps then first_refusal t qs
unfolding first_refusal
refusal_++ t [] qs = refl
refusal_++ t (p ∷ ps) qs = ap (λ (o : Answer Unit). judged t p then o) (refusal_++ t ps qs) ∙ then_assoc (judged t p) (first_refusal t ps) (first_refusal t qs)
