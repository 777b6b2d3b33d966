-- Of sides that were admitted before document 02, job 6, greater than 2^(L-1), each transform gives what the papers' equations give alone:
-- the exact transform, the fixed-point one, the 5/3 and its way back in either order of rows and columns, and the plane before rounding of a view.
-- (13 may turn a view's table away where it did not before.)
use Rattle.std.specs.Prelude.{ℕ, ◌-◌, ◌^◌, ◌<◌, List, ◌≡◌, ℤ}
use Rattle.lines.specs.Planes.{level_rows_first, levels, Plane, level_columns_first, inverse_levels}
use Rattle.lines.specs.LongLaws.{long_sides, rows_first_long, levels_long, columns_first_long, inverse_levels_long}
use Rattle.exact.specs.Exact.{exact_long, exact_pass}
use Rattle.exact.specs.Picture.{exact_sample, exact_plane}
use Rattle.width_table.specs.Nodes.{G1, Rows, column_pass}
use Rattle.width_table.specs.declared.WidthTable.{WidthTable}
use Rattle.width_table.specs.Table.{fraction_bits, input_bits}
use Rattle.pictures.specs.Pictures.{sample}
use Rattle.stages.specs.Fixed.{cut}
use Rattle.fixed_stages.specs.Fixed.{fixed_pass, fixed_line}
use Rattle.irreversible.specs.Transforms.{fixed_after, fixed_plane}
use Rattle.lines.specs.Lines.{Liftable}
use Rattle.reversible.specs.Reversible.{Order, columns_first, rows_first, reversible_long, reversible_pass, forward_level, forward, inverse_long, inverse_pass, inverse_level, inverse}
use Rattle.inverse_lifting.specs.Fixed.{node_bits, fixed_inverse}
use Rattle.viewing.specs.View.{entering_bits, view_line, view_from, view_plane}
use Rattle.history.specs.EarlierLifting.{long_line, long_level, long_inverse_level, view_long}

pub exact_unchanged : (pixels : List ℕ) (B L w h : ℕ) → 2 ^ (L - 1) < w → 2 ^ (L - 1) < h → exact_plane pixels B L w h ≡ levels (λ l. level_rows_first exact_long (λ low. exact_long)) L w h (exact_sample pixels B w)
unfolding exact_plane exact_pass
exact_unchanged pixels B L w h wide tall =
    levels_long _ (λ l. level_rows_first exact_long (λ low. exact_long)) (λ l. rows_first_long (λ v. v) exact_long (λ low v. v) (λ low. exact_long)) L w h (long_sides L w wide) (long_sides L h tall) (exact_sample pixels B w)

pub fixed_unchanged : (t : WidthTable) (pixels : List ℕ) (w h : ℕ) → 2 ^ (t.levels - 1) < w → 2 ^ (t.levels - 1) < h
    → fixed_plane t pixels w h ≡ levels (λ l. level_rows_first (long_line t l Rows) (λ low. long_line t l (column_pass low))) t.levels w h (sample pixels t.depth w)
unfolding fixed_plane fixed_after fixed_line fixed_pass
fixed_unchanged t pixels w h wide tall =
    levels_long _ (λ l. level_rows_first (long_line t l Rows) (λ low. long_line t l (column_pass low)))
    (λ l. rows_first_long (cut (input_bits t l Rows) (fraction_bits t l Rows G1)) (long_line t l Rows) (λ low. cut (input_bits t l (column_pass low)) (fraction_bits t l (column_pass low) G1)) (λ low. long_line t l (column_pass low)))
    t.levels w h (long_sides t.levels w wide) (long_sides t.levels h tall) (sample pixels t.depth w)

module _ (w h : ℕ) (wide : Liftable w) (tall : Liftable h) (p : Plane ℤ) where
  level_unchanged : (order : Order) → forward_level order w h p ≡ long_level order w h p
  unfolding reversible_pass
  level_unchanged columns_first = columns_first_long (λ v. v) reversible_long (λ low v. v) (λ low. reversible_long) w h wide tall p
  level_unchanged rows_first = rows_first_long (λ v. v) reversible_long (λ low v. v) (λ low. reversible_long) w h wide tall p

  back_level_unchanged : (order : Order) → inverse_level order w h p ≡ long_inverse_level order w h p
  unfolding inverse_pass
  back_level_unchanged columns_first = rows_first_long (λ v. v) inverse_long (λ low v. v) (λ low. inverse_long) w h wide tall p
  back_level_unchanged rows_first = columns_first_long (λ v. v) inverse_long (λ low v. v) (λ low. inverse_long) w h wide tall p

module _ (order : Order) (L w h : ℕ) (wide : 2 ^ (L - 1) < w) (tall : 2 ^ (L - 1) < h) (p : Plane ℤ) where
  pub forward_unchanged : forward order L w h p ≡ levels (λ l. long_level order) L w h p
  unfolding forward
  forward_unchanged = levels_long (λ l. forward_level order) (λ l. long_level order) (λ l w h v u p. level_unchanged w h v u p order) L w h (long_sides L w wide) (long_sides L h tall) p

  pub back_unchanged : inverse order L w h p ≡ inverse_levels (λ l. long_inverse_level order) L w h p
  unfolding inverse
  back_unchanged = inverse_levels_long (λ l. inverse_level order) (λ l. long_inverse_level order) (λ l w h v u p. back_level_unchanged w h v u p order) L w h (long_sides L w wide) (long_sides L h tall) p

pub view_unchanged : (t : WidthTable) (w h : ℕ) (p : Plane ℤ) → 2 ^ (t.levels - 1) < w → 2 ^ (t.levels - 1) < h
    → view_plane t w h p ≡ inverse_levels (λ l. level_columns_first (view_long t l Rows) (λ low. view_long t l (column_pass low))) t.levels w h p
unfolding view_plane view_from view_line fixed_inverse
view_unchanged t w h p wide tall =
    inverse_levels_long _ (λ l. level_columns_first (view_long t l Rows) (λ low. view_long t l (column_pass low)))
    (λ l. columns_first_long (cut (entering_bits t l Rows G1) node_bits) (view_long t l Rows) (λ low. cut (entering_bits t l (column_pass low) G1) node_bits) (λ low. view_long t l (column_pass low)))
    t.levels w h (long_sides t.levels w wide) (long_sides t.levels h tall) p
