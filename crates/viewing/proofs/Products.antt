-- Of the table viewing takes depth, levels and the kept nodes' widths alone. It cuts no product (document 02, job 7), so tables that agree
-- in these show the same picture of a plane, whatever their products; and where 4, 6 and 7 say the same of both, every call leaves the same.
use Prim.Native.Nat.{ℕ, zero, suc, ◌*◌, ◌<◌, ◌≤◌}
use Rattle.std.proofs.Math.Bool.{Bool}
use Rattle.std.specs.Prelude.{true, false, ◌≡◌, T, length}
use mathlib.Core.List.{List}
use Rattle.std.proofs.Math.Path.{refl, ap, ap₂, fun_ext}
use Rattle.std.proofs.Common.{◌∙◌, arith}
use Rattle.std.proofs.Math.IntN.{ℤ}
use Rattle.numbers.specs.Lists.{over}
use Rattle.numbers.specs.Tests.{every}
use Rattle.refusals.specs.Answers.{Answer, passed, asks, ◌then◌, answered}
use Rattle.lines.specs.Planes.{Plane, OnLine, side, level_columns_first, inverse_levels, row_by_row}
use Rattle.lines.specs.RowLaws.{tabulate_same, rows_same}
use Rattle.width_table.specs.Nodes.{Node, G1, G2, Pass, Rows, LowColumns, TableNode, node_at, column_pass}
use Rattle.width_table.specs.declared.WidthTable.{WidthTable}
use Rattle.width_table.specs.Table.{integer_bits, fraction_bits}
use Rattle.pictures.specs.Pictures.{side_answer, length_answer, plane_of}
use Rattle.slices.specs.Fronts.{zeroed}
use Rattle.table_meaning.specs.Subbands.{kept_at, kept_node}
use Rattle.precision.specs.Verdict.{verdict}
use Rattle.view_precision.specs.Products.{SeenAlike, seen_verdict, same_nodes}
use Rattle.inverse_lifting.specs.Fixed.{node_bits, fixed_inverse}
use Rattle.table_meaning.specs.SubbandLaws.{kept_everywhere}
use Rattle.viewing.specs.View.{entering_bits, view_line, view_level, view_from, view_plane, pixel, view_picture}
use Rattle.viewing.specs.Calls.{fits_width, in_width, coefficients_right, view_answer_of, view_answer, view_pixels, view_work}

module _ {t u : WidthTable} (s : SeenAlike t u) where
  -- ---- the picture

  entering_same : (l : ℕ) → l ≤ t.levels → (p : Pass) (n : Node) → entering_bits t l p n ≡ entering_bits u l p n
  entering_same l i p n = go (kept_at t.levels l p n) (λ k. (s.kept l i p n k).1) ∙ ap (λ (L : ℕ). elim (kept_at L l p n) [ true ↦ fraction_bits u l p n | false ↦ node_bits ]) s.levels
    where
      go : (q : Bool) → (T q → fraction_bits t l p n ≡ fraction_bits u l p n) → ◌≡◌ {A = ℕ} (elim q [ true ↦ fraction_bits t l p n | false ↦ node_bits ]) (elim q [ true ↦ fraction_bits u l p n | false ↦ node_bits ])
      go true e = e tt
      go false e = refl

  line_same : (l : ℕ) → l ≤ t.levels → (p : Pass) → view_line t l p ≡ view_line u l p
  unfolding view_line
  line_same l i p = ap₂ fixed_inverse (entering_same l i p G1) (entering_same l i p G2)

  level_same : (l : ℕ) → l ≤ t.levels → view_level t l ≡ view_level u l
  level_same l i = ap₂ (λ (row : OnLine ℤ) (column : Bool → OnLine ℤ). level_columns_first row column) (line_same l i Rows) (fun_ext (λ low. line_same l i (column_pass low)))

  from_same : (k : ℕ) → k ≤ t.levels → (w h : ℕ) (p : Plane ℤ) → view_from t k w h p ≡ view_from u k w h p
  unfolding view_from inverse_levels
  from_same zero i w h p = refl
  from_same (suc k) i w h p =
      from_same k (omega arith) w h (view_level t (suc k) (side k w) (side k h) p)
      ∙ ap (λ (level : ℕ → ℕ → Plane ℤ → Plane ℤ). inverse_levels (view_level u) k w h (level (side k w) (side k h) p)) (level_same (suc k) i)

  -- before rounding, and as it is shown
  pub seen_plane : (w h : ℕ) (p : Plane ℤ) → view_plane t w h p ≡ view_plane u w h p
  unfolding view_plane
  seen_plane w h p = from_same t.levels (omega arith) w h p ∙ ap (λ (k : ℕ). view_from u k w h p) s.levels

  pub seen_picture : (w h : ℕ) (p : Plane ℤ) → view_picture t w h p ≡ view_picture u w h p
  unfolding view_picture
  seen_picture w h p =
      let shown : ℕ → Plane ℤ → Plane ℕ = λ B q r c. pixel B (q r c) in
      ap₂ shown s.depth (seen_plane w h p)

  -- ---- 12

  module _ (w h : ℕ) (p : Plane ℤ) where
    width_same : (r c : ℕ) → r < h → c < w → in_width t w h p r c ≡ in_width u w h p r c
    unfolding in_width kept_node
    width_same r c i j = go t.levels s.kept ∙ ap (λ (L : ℕ). fits u (kept_node L w h r c)) s.levels
      where
        fits : WidthTable → TableNode → Bool
        fits v k = fits_width (integer_bits v k.level k.pass k.node) (fraction_bits v k.level k.pass k.node) (p r c)

        at : (k : TableNode) → (integer_bits t k.level k.pass k.node ≡ integer_bits u k.level k.pass k.node) × (fraction_bits t k.level k.pass k.node ≡ fraction_bits u k.level k.pass k.node) → fits t k ≡ fits u k
        at k (integer, fraction) = ap₂ (λ (IB f : ℕ). fits_width IB f (p r c)) integer fraction

        go : (L : ℕ) → ((l : ℕ) → l ≤ L → (q : Pass) (n : Node) → T (kept_at L l q n) → (integer_bits t l q n ≡ integer_bits u l q n) × (fraction_bits t l q n ≡ fraction_bits u l q n))
            → fits t (kept_node L w h r c) ≡ fits u (kept_node L w h r c)
        go zero e = at (node_at 0 LowColumns G1) (e 0 (omega arith) LowColumns G1 tt)
        go (suc L) e =
            let n = kept_node (suc L) w h r c in
            let k = kept_everywhere (suc L) w h r c (omega arith) i j in
            at n (e n.level k.most n.pass n.node k.kept)

  widths_same : (w h : ℕ) (p : Plane ℤ) → row_by_row w h (in_width t w h p) ≡ row_by_row w h (in_width u w h p)
  unfolding row_by_row
  widths_same zero h p = tabulate_same (0 * h) _ _ (λ k i. absurd (omega arith))
  widths_same (suc w) h p = rows_same (suc w) h (omega arith) (in_width t (suc w) h p) (in_width u (suc w) h p) (width_same (suc w) h p)

  pub seen_coefficients : (w h : ℕ) (plane : List ℤ) → coefficients_right t w h plane ≡ coefficients_right u w h plane
  unfolding coefficients_right
  seen_coefficients w h plane = ap (λ (l : List Bool). asks (every (λ q. q) l) 12 passed) (widths_same w h (plane_of w plane))

  -- ---- the call, where 4, 6 and 7 say the same

  module _ (e : verdict t ≡ verdict u) (w h : ℕ) (plane : List ℤ) (pixels : List ℕ) (work : List ℤ) where
    pub seen_answer : view_answer t w h plane pixels work ≡ view_answer u w h plane pixels work
    unfolding view_answer_of
    seen_answer =
        ap₂ (λ (a b : Answer Unit). a then side_answer w h then length_answer (w * h) (length pixels) then length_answer (w * h) (length plane) then length_answer (w * h) (length work) then b)
        (seen_verdict s e) (seen_coefficients w h plane)

    pub seen_pixels : view_pixels t w h plane pixels work ≡ view_pixels u w h plane pixels work
    unfolding view_pixels
    seen_pixels = ap₂ (λ (a : Answer Unit) (q : Plane ℕ). answered a (over (row_by_row w h q) pixels) pixels) seen_answer (seen_picture w h (plane_of w plane))

    pub seen_work : view_work t w h plane pixels work ≡ view_work u w h plane pixels work
    unfolding view_work
    seen_work = ap (λ (a : Answer Unit). answered a (zeroed (w * h) work) work) seen_answer

-- tables that differ in no more than constants and products
pub products_unseen : (t u : WidthTable) → t.depth ≡ u.depth → t.levels ≡ u.levels → t.nodes ≡ u.nodes
    → (w h : ℕ) (p : Plane ℤ) → (view_plane t w h p ≡ view_plane u w h p) × (view_picture t w h p ≡ view_picture u w h p)
products_unseen t u depth levels nodes w h p =
    let s = same_nodes t u depth levels nodes in
    (seen_plane s w h p, seen_picture s w h p)
