-- Every pixel before rounding lies within the pixel bound of the exact inverse of what was stored (`within_bound`), and no value on the
-- way is above 2^15 (`sizes`). The first follows from good coefficients, whatever errors they start with (`view_good`).
use Prim.Native.Nat.{ℕ, zero, suc, ◌+◌, ◌*◌, ◌-◌, ◌^◌, ◌<◌, ◌≤◌}
use Rattle.std.specs.Prelude.{◌≡◌, refl, Bool, true, false, ltb, eqb, ℤ, pos, neg_ℤ, nat_abs, ◌≤ℤ◌, ◌<ℤ◌}
use Rattle.std.proofs.Common.{sym, ◌∙◌, ap, subst₂, arith, eqb→eq, pow-add}
use Rattle.std.proofs.Math.Path.{subst}
use Rattle.std.proofs.Math.Decide.{dec_lt}
use Rattle.std.proofs.Math.Dec.{T, eqb_refl}
use Rattle.numbers.specs.Dif.{by_dif, difs}
use Rattle.numbers.specs.Tests.{both, four, is_true}
use Rattle.refusals.specs.Answers.{passed, asks}
use Rattle.refusals.specs.AnswerLaws.{asks_done, then_done}
use Rattle.lines.specs.Lines.{lows}
use Rattle.lines.specs.Planes.{Plane, side, rows, columns, level_columns_first, inverse_levels}
use Rattle.lines.specs.PlaneLaws.{columns_first_in, columns_first_keeps}
use Rattle.exact.specs.Fractions.{Frac}
use Rattle.exact.specs.FracLaws.{≈-sym, ⊕-neg, within_≈, within_zero}
use Rattle.exact.specs.Inverse.{exact_inverse_pass, exact_inverse}
use Rattle.stages.specs.Fixed.{fixed_value}
use Rattle.stages.specs.Rule.{Bound}
use Rattle.stages.proofs.Sound.{Q, Good}
use Rattle.width_table.specs.Nodes.{G1, Pass, Rows, LowColumns, HighColumns, TableNode, column_pass}
use Rattle.width_table.specs.declared.WidthTable.{WidthTable}
use Rattle.width_table.specs.Table.{integer_bits, fraction_bits, form_right}
use Rattle.width_table.specs.Limits.{form_levels, form_widths}
use Rattle.precision.specs.Verdict.{verdict, Accepted, AcceptPromise}
use Rattle.table_meaning.specs.Subbands.{kept_at, kept_node, bits_plane, InPart}
use Rattle.precision.specs.Promise.{promise}
use Rattle.inverse_lifting.specs.Fixed.{node_bits}
use Rattle.view_precision.specs.Bounds.{stored, start_bound, pass_bound, pass_right, level_gives, gives_from, pixel_bound, nodes_right, viewable, view_verdict}
use Rattle.table_meaning.specs.NodeWidths.{InNodeWidth}
use Rattle.table_meaning.specs.SubbandLaws.{part_before, kept_LL, kept_HL, kept_LH, kept_HH, kept_everywhere}
use Rattle.viewing.specs.View.{entering_bits, view_line, view_level, view_from, view_plane, stored_plane, exact_view}
use Rattle.viewing.specs.Claims.{Viewable, Stored, Close, WithinBound, EachSmall, Sizes}
use Rattle.viewing.specs.Level.{Takes, level_good, level_small}

-- ---- a table that viewing does not turn away

module _ (t : WidthTable) (ok : Viewable t) where
  judged : (verdict t ≡ passed) × (asks (viewable t) 13 passed ≡ passed)
  unfolding view_verdict
  judged = then_done (verdict t) _ ok

  pub view_accepted : Accepted t
  view_accepted = judged.0

  pub view_promise : AcceptPromise t
  view_promise = promise t view_accepted

  pub view_right : T (nodes_right t t.levels (start_bound t 0)) × T (ltb (pixel_bound t) (2 ^ (32 - (t.depth + 1))))
  unfolding viewable
  view_right = both (nodes_right t t.levels (start_bound t 0)) (ltb (pixel_bound t) (2 ^ (32 - (t.depth + 1)))) (asks_done (viewable t) _ _ judged.1).0

-- ---- levels inverted

below_side : (k n x : ℕ) → x < side k n → x < n
unfolding side
below_side zero n x j = j
below_side (suc k) n x j = below_side k n x (omega arith)

-- a value is good for a kept node: in its range, and no more than so many of its steps from the exact one
abbrev pub GoodFor : WidthTable → ℕ → TableNode → ℤ → Frac → Type 0
GoodFor t steps n v x = Good (stored t steps n.level n.pass n.node) (fraction_bits t n.level n.pass n.node) v x

-- A plane of which each coefficient is good for its kept node, under a table of right form.
pub record GoodPlane (t : WidthTable) (steps w h : ℕ) (p : Plane ℤ) (q : Plane Frac) : Type 0 where
  pub form : T (form_right t)
  pub good : (r c : ℕ) → r < h → c < w → GoodFor t steps (kept_node t.levels w h r c) (p r c) (q r c)

module _ (t : WidthTable) (steps w h : ℕ) where
  -- Before levels k to 1 are inverted: the low-low of level k is good for a bound, all else for its kept node.
  record Before (k : ℕ) (b : Bound) (p : Plane ℤ) (q : Plane Frac) : Type 0 where
    inside : (r c : ℕ) → InPart k w h r c → Good b (entering_bits t k LowColumns G1) (p r c) (q r c)
    outside : (r c : ℕ) → r < h → c < w → ¬ InPart k w h r c → GoodFor t steps (kept_node t.levels w h r c) (p r c) (q r c)

  -- the bits of the low-low of level k: those of its node at level L, else 20
  last_bits : entering_bits t t.levels LowColumns G1 ≡ fraction_bits t t.levels LowColumns G1
  last_bits = ap (λ (s : Bool). elim s [ true ↦ fraction_bits t t.levels LowColumns G1 | false ↦ node_bits ]) (is_true (eqb t.levels t.levels) (eqb_refl t.levels))

  inner_bits : (k : ℕ) → k < t.levels → entering_bits t k LowColumns G1 ≡ node_bits
  inner_bits k i = go (eqb k t.levels) (eqb→eq k t.levels)
    where
      apart : (a b : ℕ) → a < b → a ≡ b → ⊥
      apart a b x y = omega arith

      go : (s : Bool) → (T s → k ≡ t.levels) → ◌≡◌ {A = ℕ} (elim s [ true ↦ fraction_bits t k LowColumns G1 | false ↦ node_bits ]) node_bits
      go true e = absurd (apart k t.levels i (e tt))
      go false e = refl

  abbrev back_v : ℕ → Plane ℤ → Plane ℤ
  back_v k p = view_level t (suc k) (side k w) (side k h) p

  abbrev back_x : ℕ → Plane Frac → Plane Frac
  back_x k q = level_columns_first exact_inverse_pass (λ low. exact_inverse_pass) (side k w) (side k h) q

  -- no level takes more bits than those of a node
  entering_few : T (form_right t) → (l : ℕ) → 1 ≤ l → l ≤ t.levels → (s : Pass) → entering_bits t l s G1 ≤ node_bits
  entering_few form l a b s = go (kept_at t.levels l s G1)
    where
      go : (q : Bool) → elim q [ true ↦ fraction_bits t l s G1 | false ↦ node_bits ] ≤ node_bits
      go true = (form_widths t form l a b s G1).2
      go false = omega arith

  module _ (form : T (form_right t)) where
    module _ (k : ℕ) (i : k < t.levels) (b : Bound) (p : Plane ℤ) (q : Plane Frac) (s : Before (suc k) b p q) where
      -- what level k + 1 takes
      takes : Takes t steps (suc k) b (side k w) (side k h) p q
      unfolding side
      takes = record {
        few = entering_few form (suc k) (omega arith) i;
        ll = λ r c x y. s.inside r c (x, y);
        lh = λ r c x y. place (lows (side k h) + r) c (omega arith) (omega arith) (λ z. absurd (omega arith)) (kept_LH w h (lows (side k h) + r) c t.levels k i (omega arith) (omega arith) y);
        hl = λ r c x y z. place r c (omega arith) z (λ u. absurd (omega arith)) (kept_HL w h r c t.levels k i x y z);
        hh = λ r c x y z. place (lows (side k h) + r) c (omega arith) z (λ u. absurd (omega arith)) (kept_HH w h (lows (side k h) + r) c t.levels k i (omega arith) (omega arith) y z);
      }
        where
          place : {n : TableNode} (r c : ℕ) → r < side k h → c < side k w → ¬ InPart (suc k) w h r c → kept_node t.levels w h r c ≡ n → GoodFor t steps n (p r c) (q r c)
          place r c x y out e = subst (λ (n : TableNode). GoodFor t steps n (p r c) (q r c)) e (s.outside r c (below_side k h r x) (below_side k w c y) out)

      inside_next : (r c : ℕ) → InPart k w h r c → Good (level_gives t steps (suc k) b) (entering_bits t k LowColumns G1) (back_v k p r c) (back_x k q r c)
      unfolding rows columns
      inside_next r c j =
          subst (λ (f : ℕ). Good (level_gives t steps (suc k) b) f (back_v k p r c) (back_x k q r c)) (sym (inner_bits k i))
          (subst₂ (Good (level_gives t steps (suc k) b) node_bits)
          (sym (columns_first_in (view_line t (suc k) Rows) (λ low. view_line t (suc k) (column_pass low)) (side k w) (side k h) p r c j.0 j.1)) (sym (columns_first_in exact_inverse_pass (λ low. exact_inverse_pass) (side k w) (side k h) q r c j.0 j.1))
          (level_good takes r c j.0 j.1))

      outside_next : (r c : ℕ) → r < h → c < w → ¬ InPart k w h r c → GoodFor t steps (kept_node t.levels w h r c) (back_v k p r c) (back_x k q r c)
      outside_next r c x y out = go (dec_lt r (side k h)) (dec_lt c (side k w))
        where
          N : TableNode
          N = kept_node t.levels w h r c

          old : GoodFor t steps N (p r c) (q r c)
          old = s.outside r c x y (λ z. out (part_before k w h r c z))

          below : side k h ≤ r → GoodFor t steps N (back_v k p r c) (back_x k q r c)
          below z = subst₂ (GoodFor t steps N) (sym ((columns_first_keeps _ _).below (side k w) (side k h) p r c z)) (sym ((columns_first_keeps _ _).below (side k w) (side k h) q r c z)) old

          beyond : side k w ≤ c → GoodFor t steps N (back_v k p r c) (back_x k q r c)
          beyond z = subst₂ (GoodFor t steps N) (sym ((columns_first_keeps _ _).beyond (side k w) (side k h) p r c z)) (sym ((columns_first_keeps _ _).beyond (side k w) (side k h) q r c z)) old

          go : Dec (r < side k h) → Dec (c < side k w) → GoodFor t steps N (back_v k p r c) (back_x k q r c)
          go (yes i') (yes j) = absurd (out (i', j))
          go (yes i') (no j) = beyond (omega arith)
          go (no i') (yes j) = below (omega arith)
          go (no i') (no j) = below (omega arith)

      next : Before k (level_gives t steps (suc k) b) (back_v k p) (back_x k q)
      next = record { inside = inside_next; outside = outside_next }

    after : (k : ℕ) → k ≤ t.levels → (b : Bound) (p : Plane ℤ) (q : Plane Frac) → Before k b p q → (r c : ℕ) → r < h → c < w → Good (gives_from t steps k b) node_bits (view_from t k w h p r c) (exact_inverse k w h q r c)
    unfolding view_from exact_inverse inverse_levels gives_from side
    after zero i b p q s r c x y = subst (λ (f : ℕ). Good b f (p r c) (q r c)) (inner_bits 0 (form_levels t form).0) (s.inside r c (x, y))
    after (suc k) i b p q s r c x y = after k (omega arith) (level_gives t steps (suc k) b) (back_v k p) (back_x k q) (next k i b p q s) r c x y

  module _ {p : Plane ℤ} {q : Plane Frac} (g : GoodPlane t steps w h p q) where
    start : Before t.levels (start_bound t steps) p q
    start = record {
      inside = λ r c j.
          subst (λ (f : ℕ). Good (start_bound t steps) f (p r c) (q r c)) (sym last_bits)
          (subst (λ (n : TableNode). GoodFor t steps n (p r c) (q r c)) (kept_LL w h r c t.levels (form_levels t g.form).0 j.0 j.1) (g.good r c (below_side t.levels h r j.0) (below_side t.levels w c j.1)));
      outside = λ r c x y n. g.good r c x y;
    }

    -- Where each coefficient is good for its kept node, each pixel before rounding is good for what level 1 gives.
    pub view_good : (r c : ℕ) → r < h → c < w → Good (gives_from t steps t.levels (start_bound t steps)) node_bits (view_plane t w h p r c) (exact_inverse t.levels w h q r c)
    unfolding view_plane
    view_good = after g.form t.levels (omega arith) (start_bound t steps) p q start

-- ---- sizes, where coefficients start without error

module _ (t : WidthTable) (w h : ℕ) (form : T (form_right t)) where
  each_small : (k : ℕ) → k ≤ t.levels → (b : Bound) (p : Plane ℤ) (q : Plane Frac) → Before t 0 w h k b p q → T (nodes_right t k b) → EachSmall t k w h p
  unfolding nodes_right
  each_small zero i b p q s right = tt
  each_small (suc k) i b p q s right =
      let P = pass_bound t 0 (suc k) b in
      let (first, second, third, rest) = four (pass_right (P LowColumns)) (pass_right (P HighColumns)) (pass_right (P Rows)) (nodes_right t k (level_gives t 0 (suc k) b)) right in
      let each : (s : Pass) → T (pass_right (P s)) = elim [ Rows ↦ third | LowColumns ↦ first | HighColumns ↦ second ] in (
        level_small (takes t 0 w h form k i b p q s) each,
        each_small k (omega arith) (level_gives t 0 (suc k) b) (back_v t 0 w h k p) (back_x t 0 w h k q) (next t 0 w h form k i b p q s) rest,
      )

-- ---- stored coefficients

held_law : (IB f : ℕ) (v : ℤ) → 1 ≤ IB → InNodeWidth IB f v → nat_abs v * 2 ^ 32 ≤ 2 ^ (IB - 1) * 2 ^ 32 * 2 ^ f
unfolding InNodeWidth
held_law IB f v some h =
    let e : IB + f - 1 ≡ IB - 1 + f = omega arith in
    let p : 2 ^ (IB + f - 1) ≡ 2 ^ (IB - 1) * 2 ^ f = ap (λ (k : ℕ). 2 ^ k) e ∙ pow-add 2 (IB - 1) f in
    law (nat_abs v) (2 ^ (IB + f - 1)) (2 ^ (IB - 1)) (2 ^ f) p (abs_held (2 ^ (IB + f - 1)) v h.0 h.1)
  where
    abs_held : (H : ℕ) (v : ℤ) → neg_ℤ (pos H) ≤ℤ v → v <ℤ pos H → nat_abs v ≤ H
    abs_held H = by_dif _ λ a a'. simp difs (omega arith)

    law : (a H I P : ℕ) → H ≡ I * P → a ≤ H → a * 2 ^ 32 ≤ I * 2 ^ 32 * P
    law a H I P e h = omega arith

module _ (t : WidthTable) (w h : ℕ) (p : Plane ℤ) (ok : Viewable t) (s : Stored t w h p) where
  -- what was stored is good for its kept nodes, without error
  stored_good : GoodPlane t 0 w h p (stored_plane t w h p)
  unfolding stored stored_plane bits_plane fixed_value
  stored_good =
      let form = (view_promise t ok).form in
      record {
        form = form;
        good = λ r c x y.
            let N = kept_node t.levels w h r c in
            let K = kept_everywhere t.levels w h r c (form_levels t form).0 x y in
            record {
              range = record { most = held_law (integer_bits t N.level N.pass N.node) (fraction_bits t N.level N.pass N.node) (p r c) (form_widths t form N.level K.least K.most N.pass N.node).0 (s.held r c x y) };
              error = within_≈ (≈-sym (⊕-neg _)) (within_zero _ Q);
            };
      }

  near : (r c : ℕ) → r < h → c < w → Close (view_plane t w h p r c) (exact_view t w h p r c) (pixel_bound t)
  unfolding exact_view pixel_bound
  near r c x y = (view_good t 0 w h stored_good r c x y).error

  each : EachSmall t t.levels w h p
  each = each_small t w h stored_good.form t.levels (omega arith) (start_bound t 0) p (stored_plane t w h p) (start t 0 w h stored_good) (view_right t ok).0

pub within_bound : WithinBound
within_bound = near

pub sizes : Sizes
sizes = each
