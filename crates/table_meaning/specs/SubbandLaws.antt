-- Which kept node gave each place of the plane, subband by subband.
use Rattle.std.specs.Prelude.{ℕ, zero, suc, ◌<◌, ◌≤◌, ◌≡◌, Bool, true, false, ◌&&◌}
use Rattle.std.proofs.Common.{sym, ◌∙◌, subst, arith}
use Rattle.std.proofs.Math.Path.{ap}
use Rattle.std.proofs.Math.Decide.{dec_lt}
use Rattle.std.proofs.Math.Dec.{ltb, eqb_refl}
use Rattle.width_table.specs.Nodes.{G1, G2, LowColumns, HighColumns, TableNode, node_at, column_pass, last_node}
use Rattle.lines.specs.Planes.{side}
use Rattle.table_meaning.specs.Subbands.{kept_node, InPart, Kept}
use Rattle.numbers.specs.Tests.{by_ltb, ltb-true, ltb-false, and_true, and_false_l, and_false_r}

-- whether a place lies in the part
pub in_part? : (k w h r c : ℕ) → Dec (InPart k w h r c)
in_part? k w h r c = go (dec_lt r (side k h)) (dec_lt c (side k w))
  where
    go : Dec (r < side k h) → Dec (c < side k w) → Dec (InPart k w h r c)
    go (yes i) (yes j) = yes (i, j)
    go (yes i) (no j) = no (λ z. j z.1)
    go (no i) (yes j) = no (λ z. i z.0)
    go (no i) (no j) = no (λ z. i z.0)

pub part_before : (k w h r c : ℕ) → InPart (suc k) w h r c → InPart k w h r c
unfolding side
part_before k w h r c (i, j) = (omega arith, omega arith)

above : (x n k : ℕ) → x < side (suc k) n → x < side k n
unfolding side
above x n k i = omega arith

under : {a b : ℕ} → a ≤ b → b < a → ⊥
under i j = omega arith

module _ (w h r c : ℕ) where
  pick : ℕ → Bool → TableNode
  pick k t = elim t [ true ↦ node_at (suc k) (column_pass (ltb c (side (suc k) w))) (last_node (ltb r (side (suc k) h))) | false ↦ kept_node k w h r c ]

  pub kept_in : (k : ℕ) → InPart k w h r c → kept_node (suc k) w h r c ≡ node_at (suc k) (column_pass (ltb c (side (suc k) w))) (last_node (ltb r (side (suc k) h)))
  unfolding kept_node pick
  kept_in k i = ap (pick k) (and_true r (side k h) c (side k w) i.0 i.1)

  pub kept_out : (k : ℕ) → ¬ InPart k w h r c → kept_node (suc k) w h r c ≡ kept_node k w h r c
  unfolding kept_node pick
  kept_out k no_part = go (dec_lt r (side k h)) (dec_lt c (side k w))
    where
      go : Dec (r < side k h) → Dec (c < side k w) → pick k (ltb r (side k h) && ltb c (side k w)) ≡ kept_node k w h r c
      go (yes i) (yes j) = absurd (no_part (i, j))
      go (yes i) (no j) = ap (pick k) (and_false_r r (side k h) c (side k w) (omega arith))
      go (no i) (yes j) = ap (pick k) (and_false_l r (side k h) c (side k w) (omega arith))
      go (no i) (no j) = ap (pick k) (and_false_l r (side k h) c (side k w) (omega arith))

  -- a place that k levels leave outside of low-low keeps its node at all later levels
  part_from : (k L : ℕ) → k ≤ L → InPart L w h r c → InPart k w h r c
  part_from k zero i p = subst (λ (j : ℕ). InPart j w h r c) (omega arith) p
  part_from k (suc L) i p = go (dec_lt k (suc L)) (λ j. part_from k L j (part_before L w h r c p))
    where
      go : Dec (k < suc L) → (k ≤ L → InPart k w h r c) → InPart k w h r c
      go (yes j) before = before (omega arith)
      go (no j) before = subst (λ (j : ℕ). InPart j w h r c) (omega arith) p

  later : (k L : ℕ) → k ≤ L → ¬ InPart k w h r c → kept_node L w h r c ≡ kept_node k w h r c
  later k zero i n = ap (λ (j : ℕ). kept_node j w h r c) (omega arith)
  later k (suc L) i n = go (dec_lt k (suc L)) (λ j. kept_out L (λ p. n (part_from k L j p)) ∙ later k L j n)
    where
      go : Dec (k < suc L) → (k ≤ L → kept_node (suc L) w h r c ≡ kept_node k w h r c) → kept_node (suc L) w h r c ≡ kept_node k w h r c
      go (yes j) before = before (omega arith)
      go (no j) before = ap (λ (j : ℕ). kept_node j w h r c) (omega arith)

  kept_level : (L k : ℕ) → k < L → InPart k w h r c → ¬ InPart (suc k) w h r c → kept_node L w h r c ≡ node_at (suc k) (column_pass (ltb c (side (suc k) w))) (last_node (ltb r (side (suc k) h)))
  kept_level L k i p n = later (suc k) L i n ∙ kept_in k p

  by_sides : (l : ℕ) {q q' s s' : Bool} → q ≡ q' → s ≡ s' → node_at l (column_pass q) (last_node s) ≡ node_at l (column_pass q') (last_node s')
  by_sides l {q} {q'} {s} {s'} e d = ap (λ (z : Bool). node_at l (column_pass z) (last_node s)) e ∙ ap (λ (z : Bool). node_at l (column_pass q') (last_node z)) d

  -- LL of level L: G1 of the columns of row-low
  pub kept_LL : (L : ℕ) → 0 < L → r < side L h → c < side L w → kept_node L w h r c ≡ node_at L LowColumns G1
  kept_LL zero z i j = absurd (omega arith)
  kept_LL (suc k) z i j = kept_in k (part_before k w h r c (i, j)) ∙ by_sides (suc k) (ltb-true c (side (suc k) w) j) (ltb-true r (side (suc k) h) i)

  module _ (L k : ℕ) (within : k < L) where
    -- HL of level k + 1, right of its LL: G1 of the columns of row-high
    pub kept_HL : r < side (suc k) h → side (suc k) w ≤ c → c < side k w → kept_node L w h r c ≡ node_at (suc k) HighColumns G1
    kept_HL i j j' = kept_level L k within (above r h k i, j') (λ z. absurd (under j z.1)) ∙ by_sides (suc k) (ltb-false c (side (suc k) w) j) (ltb-true r (side (suc k) h) i)

    -- LH of level k + 1, below its LL: G2 of the columns of row-low
    pub kept_LH : side (suc k) h ≤ r → r < side k h → c < side (suc k) w → kept_node L w h r c ≡ node_at (suc k) LowColumns G2
    kept_LH i i' j = kept_level L k within (i', above c w k j) (λ z. absurd (under i z.0)) ∙ by_sides (suc k) (ltb-true c (side (suc k) w) j) (ltb-false r (side (suc k) h) i)

    -- HH of level k + 1: G2 of the columns of row-high
    pub kept_HH : side (suc k) h ≤ r → r < side k h → side (suc k) w ≤ c → c < side k w → kept_node L w h r c ≡ node_at (suc k) HighColumns G2
    kept_HH i i' j j' = kept_level L k within (i', j') (λ z. absurd (under i z.0)) ∙ by_sides (suc k) (ltb-false c (side (suc k) w) j) (ltb-false r (side (suc k) h) i)

kept_sides : (L l : ℕ) (a b c d : ℕ) → 1 ≤ l → l ≤ L → ¬ ((a < b) × (c < d)) → Kept L (node_at l (column_pass (ltb c d)) (last_node (ltb a b)))
kept_sides L l a b c d least most out =
    by_ltb (λ q. Kept L (node_at l (column_pass q) (last_node (ltb a b)))) c d
    (λ j. by_ltb (λ s. Kept L (node_at l LowColumns (last_node s))) a b (λ i. absurd (out (i, j))) (λ i. record { least = least; most = most; kept = tt }))
    (λ j. by_ltb (λ s. Kept L (node_at l HighColumns (last_node s))) a b (λ i. record { least = least; most = most; kept = tt }) (λ i. record { least = least; most = most; kept = tt }))

kept_outside : (L w h r c : ℕ) → r < h → c < w → (k : ℕ) → k ≤ L → ¬ InPart k w h r c → Kept L (kept_node k w h r c)
unfolding side
kept_outside L w h r c i j zero m out = absurd (out (i, j))
kept_outside L w h r c i j (suc k) m out = go (in_part? k w h r c) (kept_outside L w h r c i j k (omega arith))
  where
    go : Dec (InPart k w h r c) → (¬ InPart k w h r c → Kept L (kept_node k w h r c)) → Kept L (kept_node (suc k) w h r c)
    go (yes p) before = subst (Kept L) (sym (kept_in w h r c k p)) (kept_sides L (suc k) r (side (suc k) h) c (side (suc k) w) (omega arith) m out)
    go (no p) before = subst (Kept L) (sym (kept_out w h r c k p)) (before p)

-- Each place of the plane is given by a kept node.
pub kept_everywhere : (L w h r c : ℕ) → 0 < L → r < h → c < w → Kept L (kept_node L w h r c)
kept_everywhere L w h r c z i j = go (in_part? L w h r c)
  where
    go : Dec (InPart L w h r c) → Kept L (kept_node L w h r c)
    go (yes p) = subst (Kept L) (sym (kept_LL w h r c L z p.0 p.1)) (record { least = omega arith; most = omega arith; kept = eqb_refl L })
    go (no p) = kept_outside L w h r c i j L (omega arith) p
