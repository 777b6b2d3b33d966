-- Demand 3 of the one-level transform of a strip, its lines in turn: `lines_near`.
use Prim.Native.Nat.{ℕ, ◌+◌, ◌*◌, ◌<◌, ◌≤◌}
use Rattle.std.specs.Prelude.{Bool, List, ◌≡◌, get_or, ℤ, pos}
use Rattle.std.proofs.Math.Path.{sym, ap, subst}
use Rattle.std.proofs.Common.{◌∙◌, mul_comm}
use native.Mathlib.Omega.{arith}
use Rattle.std.proofs.Math.Decide.{dec_lt}
use Rattle.numbers.specs.Tests.{ltb-true, ltb-false}
use Rattle.lines.specs.Lines.{lows, highs, interleaved}
use Rattle.lines.specs.LineLaws.{even_place_lem, odd_place, by_parity}
use Rattle.lines.specs.Planes.{Plane, rows, levels, side}
use Rattle.lines.specs.RowLaws.{rows_length, rows_at}
use Rattle.exact.specs.Fractions.{Frac}
use Rattle.exact.specs.Picture.{exact_plane}
use Rattle.width_table.specs.Nodes.{G1, G2, TableNode, node_at, last_node}
use Rattle.width_table.specs.declared.WidthTable.{WidthTable}
use Rattle.width_table.specs.Table.{integer_bits, fraction_bits}
use Rattle.precision.specs.Verdict.{Accepted}
use Rattle.irreversible.specs.Transforms.{fixed_after, fixed_plane}
use Rattle.irreversible.specs.Claims.{Strip, Near, InWidth}
use Rattle.table_meaning.specs.Subbands.{kept_node, bits_plane}
use Rattle.table_meaning.specs.NodeWidths.{InNodeWidth}
use Rattle.table_meaning.specs.SubbandLaws.{kept_in}
use Rattle.irreversible.specs.Demand3.{two_steps_strip, widths_strip}
use Rattle.rolling_lines.specs.Schedule.{column_pass_at}
use Rattle.rolling_claims.specs.Claims.{in_turn, first_lines, LinesNear}
use Rattle.rolling_claims.specs.Column.{line_value, low_turn, high_turn}
use Rattle.rolling_claims.specs.LineOrder.{rows_of, turn_is}

-- ---- which row stands where

module _ (h : ℕ) where
  -- the row of a plane that is line i in turn
  turn_row : ℕ → ℕ
  turn_row = interleaved (λ r. r) (λ r. lows h + r)

  row_turn : {A : Type 0} (p : Plane A) (i c : ℕ) → i < h → p (turn_row i) c ≡ in_turn h p i c
  unfolding in_turn turn_row
  row_turn {A} p i c a =
      ap (λ (q : ℕ → A). q c)
      (by_parity (λ i. p (turn_row i) ≡ in_turn h p i) h
      (λ m r. ap p (even_place_lem (λ r. r) (λ r. lows h + r) m) ∙ sym (even_place_lem p (λ i. p (lows h + i)) m))
      (λ m r. ap p (odd_place (λ r. r) (λ r. lows h + r) m) ∙ sym (odd_place p (λ i. p (lows h + i)) m))
      i a)

  turn_in : (i : ℕ) → i < h → turn_row i < h
  unfolding turn_row
  turn_in =
      by_parity (λ i. turn_row i < h) h
      (λ m r. subst (λ (a : ℕ). a < h) (sym (even_place_lem (λ r. r) (λ r. lows h + r) m)) (omega arith))
      (λ m r. subst (λ (a : ℕ). a < h) (sym (odd_place (λ r. r) (λ r. lows h + r) m)) (omega arith))

-- ---- the lines

module _ (t : WidthTable) (one : t.levels ≡ 1) (ok : Accepted t) (strip : List ℕ) (w h : ℕ) (right : Strip t strip w h) where
  line_near : (i c : ℕ) → i < h → c < w
      → Near (in_turn h (fixed_plane t strip w h) i c) (in_turn h (bits_plane t w h) i c) (in_turn h (exact_plane strip t.depth t.levels w h) i c)
  line_near i c a b =
      let v = fixed_plane t strip w h in
      let f = bits_plane t w h in
      let x = exact_plane strip t.depth t.levels w h in
      let r = turn_row h i in
      subst (λ (k : ℤ). Near k (in_turn h f i c) (in_turn h x i c)) (row_turn h v i c a)
      (subst (λ (k : ℕ). Near (v r c) k (in_turn h x i c)) (row_turn h f i c a)
      (subst (λ (k : Frac). Near (v r c) (f r c) k) (row_turn h x i c a) (two_steps_strip t strip w h ok right r c (turn_in h i a) b)))

  -- a value in the width of a node
  abbrev HeldBy : TableNode → ℤ → Type 0
  HeldBy p v = InNodeWidth (integer_bits t p.level p.pass p.node) (fraction_bits t p.level p.pass p.node) v

  abbrev column : ℕ → ℕ → ℤ
  column c r = rows_of t strip w r c

  column_held : (c : ℕ) → c < w → InWidth t 1 (column_pass_at w c) h (column c)
  unfolding fixed_after levels side rows
  column_held c j = (widths_strip t strip w h ok right 0 (omega (arith, one))).in_columns c j

  -- line 2 m is low and kept by G1, line 2 m + 1 is high and kept by G2
  kept_low : (m c : ℕ) → m < lows h → c < w → node_at 1 (column_pass_at w c) G1 ≡ in_turn h (kept_node t.levels w h) (2 * m) c
  unfolding in_turn side
  kept_low m c i j =
      let K = kept_node t.levels w h in
      sym (ap (λ (l : ℕ → TableNode). l c) (even_place_lem K (λ i. K (lows h + i)) m)
      ∙ ap (λ (L : ℕ). kept_node L w h m c) one
      ∙ kept_in w h m c 0 (omega arith, j)
      ∙ ap (λ (b : Bool). node_at 1 (column_pass_at w c) (last_node b)) (ltb-true m (lows h) i))

  kept_high : (m c : ℕ) → m < highs h → c < w → node_at 1 (column_pass_at w c) G2 ≡ in_turn h (kept_node t.levels w h) (2 * m + 1) c
  unfolding in_turn side
  kept_high m c i j =
      let K = kept_node t.levels w h in
      sym (ap (λ (l : ℕ → TableNode). l c) (odd_place K (λ i. K (lows h + i)) m)
      ∙ ap (λ (L : ℕ). kept_node L w h (lows h + m) c) one
      ∙ kept_in w h (lows h + m) c 0 (omega arith, j)
      ∙ ap (λ (b : Bool). node_at 1 (column_pass_at w c) (last_node b)) (ltb-false (lows h + m) (lows h) (omega arith)))

  low_held : (m c : ℕ) → m < lows h → c < w → HeldBy (node_at 1 (column_pass_at w c) G1) (line_value t (column_pass_at w c) h (column c) (2 * m))
  low_held m c i j = go (dec_lt h 2)
    where
      go : Dec (h < 2) → HeldBy (node_at 1 (column_pass_at w c) G1) (line_value t (column_pass_at w c) h (column c) (2 * m))
      go (yes short) =
          let first : 0 ≡ m = omega arith in
          subst (λ (m : ℕ). HeldBy (node_at 1 (column_pass_at w c) G1) (line_value t (column_pass_at w c) h (column c) (2 * m))) first
          (subst (HeldBy (node_at 1 (column_pass_at w c) G1)) (sym (even_place_lem _ _ 0)) ((column_held c j).single (omega (arith, right.height))))
      go (no long) = subst (HeldBy (node_at 1 (column_pass_at w c) G1)) (sym (low_turn t (column_pass_at w c) h (column c) m (omega arith) (omega arith))) ((column_held c j).long (record { least = omega arith }) G1 m i)

  high_held : (m c : ℕ) → m < highs h → c < w → HeldBy (node_at 1 (column_pass_at w c) G2) (line_value t (column_pass_at w c) h (column c) (2 * m + 1))
  high_held m c i j = subst (HeldBy (node_at 1 (column_pass_at w c) G2)) (sym (high_turn t (column_pass_at w c) h (column c) m (omega arith))) ((column_held c j).long (record { least = omega arith }) G2 m i)

  line_held_lem : (i c : ℕ) → i < h → c < w → HeldBy (in_turn h (kept_node t.levels w h) i c) (in_turn h (fixed_plane t strip w h) i c)
  line_held_lem i c a b =
      subst (HeldBy (in_turn h (kept_node t.levels w h) i c)) (sym (turn_is t one strip w h i c a b))
      (by_parity (λ i. HeldBy (in_turn h (kept_node t.levels w h) i c) (line_value t (column_pass_at w c) h (column c) i)) h
      (λ m r. subst (λ (p : TableNode). HeldBy p (line_value t (column_pass_at w c) h (column c) (2 * m))) (kept_low m c r b) (low_held m c r b))
      (λ m r. subst (λ (p : TableNode). HeldBy p (line_value t (column_pass_at w c) h (column c) (2 * m + 1))) (kept_high m c r b) (high_held m c r b))
      i a)

  pub lines_near : (k : ℕ) → k ≤ h → LinesNear t strip w h k (first_lines t strip w h k)
  lines_near k few =
      let P = in_turn h (fixed_plane t strip w h) in
      let some = right.width in
      let value : (i c : ℕ) → i < k → c < w → P i c ≡ get_or (first_lines t strip w h k) (i * w + c) (pos 0) = λ i c a b. sym (rows_at w k some P (pos 0) i c a b) in
      record {
        size = rows_length w k some P ∙ mul_comm w k;
        near = λ i c a b.
            subst (λ (v : ℤ). Near v (in_turn h (bits_plane t w h) i c) (in_turn h (exact_plane strip t.depth t.levels w h) i c)) (value i c a b) (line_near i c (omega arith) b);
        in_width_lem = λ i c a b. subst (HeldBy (in_turn h (kept_node t.levels w h) i c)) (value i c a b) (line_held_lem i c (omega arith) b);
      }
