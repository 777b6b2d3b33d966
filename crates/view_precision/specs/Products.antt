-- Of the table viewing takes depth, levels and the kept nodes' widths alone. It cuts no product (document 02, job 7), so tables that agree
-- in these have the same pixel bound, the same distance from scan to view and the same answer by 13, whatever their products. 4, 6 and 7
-- do go by the products (`products_refused` of Examples).
use Prim.Native.Nat.{ℕ, zero, suc, ◌+◌, ◌*◌, ◌-◌, ◌^◌, ◌≤◌}
use Rattle.std.proofs.Math.Bool.{Bool, ◌&&◌}
use Rattle.std.specs.Prelude.{List, ◌≡◌, T, get_or}
use Rattle.std.proofs.Math.Path.{refl, ap, ap₂}
use Rattle.std.proofs.Common.{◌∙◌, arith}
use Rattle.std.proofs.Math.Dec.{ltb, eqb_refl}
use Rattle.refusals.specs.Answers.{Answer, passed, asks, ◌then◌}
use Rattle.stages.specs.Rule.{Bound}
use Rattle.width_table.specs.Nodes.{Node, G1, G2, Pass, LowColumns, HighColumns, pass_number, node_number}
use Rattle.width_table.specs.declared.WidthTable.{WidthTable}
use Rattle.width_table.specs.Table.{node_place, integer_bits, fraction_bits}
use Rattle.table_meaning.specs.Subbands.{kept_at}
use Rattle.precision.specs.Verdict.{verdict}
use Rattle.view_precision.specs.Bounds.{inverse_bound, pass_gives, stored, from_low, from_high, pass_bound, level_gives, gives_from, start_bound, pixel_bound, steps_allowed, view_distance, pass_right, nodes_right, viewable, view_verdict}

-- the same depth, the same levels, the same widths of kept nodes
pub record SeenAlike (t u : WidthTable) : Type 0 where
  pub depth : t.depth ≡ u.depth
  pub levels : t.levels ≡ u.levels
  pub kept : (l : ℕ) → l ≤ t.levels → (p : Pass) (n : Node) → T (kept_at t.levels l p n) → (integer_bits t l p n ≡ integer_bits u l p n) × (fraction_bits t l p n ≡ fraction_bits u l p n)

module _ {t u : WidthTable} (h : SeenAlike t u) where
  stored_same : (steps l : ℕ) → l ≤ t.levels → (p : Pass) (n : Node) → T (kept_at t.levels l p n) → stored t steps l p n ≡ stored u steps l p n
  unfolding stored
  stored_same steps l i p n k =
      let (integer, fraction) = h.kept l i p n k in
      ap₂ (λ (IB f : ℕ). record { range = 2 ^ (IB - 1) * 2 ^ 32; error = steps * 2 ^ (32 - f) }) integer fraction

  start_same : (steps : ℕ) → start_bound t steps ≡ start_bound u steps
  start_same steps = stored_same steps t.levels (omega arith) LowColumns G1 (eqb_refl t.levels) ∙ ap (λ (l : ℕ). stored u steps l LowColumns G1) h.levels

  -- a level whose low-low has bound b
  module _ (steps l : ℕ) (i : l ≤ t.levels) (b : Bound) where
    low_same : from_low t steps l b ≡ from_low u steps l b
    unfolding from_low
    low_same = ap (pass_gives b) (stored_same steps l i LowColumns G2 tt)

    high_same : from_high t steps l b ≡ from_high u steps l b
    unfolding from_high
    high_same = ap₂ pass_gives (stored_same steps l i HighColumns G1 tt) (stored_same steps l i HighColumns G2 tt)

    gives_same : level_gives t steps l b ≡ level_gives u steps l b
    unfolding level_gives
    gives_same = ap₂ pass_gives low_same high_same

  from_same : (steps k : ℕ) → k ≤ t.levels → (b : Bound) → gives_from t steps k b ≡ gives_from u steps k b
  unfolding gives_from
  from_same steps zero i b = refl
  from_same steps (suc k) i b = from_same steps k (omega arith) (level_gives t steps (suc k) b) ∙ ap (gives_from u steps k) (gives_same steps (suc k) i b)

  error_same : (steps : ℕ) → (gives_from t steps t.levels (start_bound t steps)).error ≡ (gives_from u steps u.levels (start_bound u steps)).error
  error_same steps =
      ap (λ (b : Bound). b.error)
      (from_same steps t.levels (omega arith) (start_bound t steps) ∙ ap₂ (gives_from u steps) h.levels (start_same steps))

  pub seen_bound : pixel_bound t ≡ pixel_bound u
  unfolding pixel_bound
  seen_bound = error_same 0

  pub seen_distance : view_distance t ≡ view_distance u
  unfolding view_distance
  seen_distance = error_same steps_allowed

  nodes_same : (k : ℕ) → k ≤ t.levels → (b : Bound) → nodes_right t k b ≡ nodes_right u k b
  unfolding nodes_right pass_bound
  nodes_same zero i b = refl
  nodes_same (suc k) i b =
      let right : Bound → Bound → Bool = λ a b. pass_right (inverse_bound a b) in
      ap₂ ◌&&◌
      (ap₂ ◌&&◌
      (ap₂ ◌&&◌ (ap (right b) (stored_same 0 (suc k) i LowColumns G2 tt)) (ap₂ right (stored_same 0 (suc k) i HighColumns G1 tt) (stored_same 0 (suc k) i HighColumns G2 tt)))
      (ap₂ right (low_same 0 (suc k) i b) (high_same 0 (suc k) i b)))
      (nodes_same k (omega arith) (level_gives t 0 (suc k) b) ∙ ap (nodes_right u k) (gives_same 0 (suc k) i b))

  -- 13
  pub seen_viewable : viewable t ≡ viewable u
  unfolding viewable
  seen_viewable =
      ap₂ ◌&&◌
      (nodes_same t.levels (omega arith) (start_bound t 0) ∙ ap₂ (nodes_right u) h.levels (start_same 0))
      (ap₂ (λ (bound B : ℕ). ltb bound (2 ^ (32 - (B + 1)))) seen_bound h.depth)

  -- the whole verdict, where 4, 6 and 7 say the same
  pub seen_verdict : verdict t ≡ verdict u → view_verdict t ≡ view_verdict u
  unfolding view_verdict
  seen_verdict e = ap₂ (λ (a : Answer Unit) (s : Bool). a then asks s 13 passed) e seen_viewable

-- tables that differ in no more than constants and products
pub same_nodes : (t u : WidthTable) → t.depth ≡ u.depth → t.levels ≡ u.levels → t.nodes ≡ u.nodes → SeenAlike t u
same_nodes t u depth levels nodes = record {
  depth = depth;
  levels = levels;
  kept = λ l i p n k. (
    ap (λ (w : List ℕ). get_or w (node_place l (pass_number p) (node_number n)) 0) nodes,
    ap (λ (w : List ℕ). get_or w (node_place l (pass_number p) (node_number n) + 1) 0) nodes,
  );
}

pub products_no_matter : (t u : WidthTable) → t.depth ≡ u.depth → t.levels ≡ u.levels → t.nodes ≡ u.nodes
    → (viewable t ≡ viewable u) × (pixel_bound t ≡ pixel_bound u) × (view_distance t ≡ view_distance u)
products_no_matter t u depth levels nodes =
    let h = same_nodes t u depth levels nodes in
    (seen_viewable h, seen_bound h, seen_distance h)
