-- A table without tag 5 cuts no product and gives the coefficients that it gave before document 02, job 7 (`old_coefficients`).
use Rattle.std.specs.Prelude.{ℕ, ◌-◌, ◌≡◌, refl, false, List, ℤ}
use Rattle.std.proofs.Common.{◌∙◌, ap}
use Rattle.std.proofs.Math.Path.{fun_ext}
use Rattle.lines.specs.Planes.{OnLine, level_rows_first, levels}
use Rattle.width_table.specs.Nodes.{Node, Pass, Rows, column_pass}
use Rattle.width_table.specs.declared.WidthTable.{WidthTable}
use Rattle.width_table.specs.Table.{constant_bits, fraction_bits, input_bits}
use Rattle.pictures.specs.Pictures.{sample}
use Rattle.stages.specs.Stages.{Product, uncut}
use Rattle.stages.specs.Fixed.{cut_product, step}
use Rattle.table_meaning.specs.ProductLaws.{none_cut}
use Rattle.fixed_stages.specs.Fixed.{at_p1, at_u1, at_p2, at_u2, at_g1, at_g2, fixed_long, fixed_pass, fixed_line}
use Rattle.irreversible.specs.Transforms.{fixed_after, fixed_plane}
use Rattle.history.specs.EarlierLifting.{uncut_step, uncut_p1, uncut_u1, uncut_p2, uncut_u2, uncut_long, uncut_pass, uncut_line, uncut_after, uncut_plane}

-- a pass that cuts none
uncut_pass_lem : (F : Node → ℕ) (fi : ℕ) (f : Node → ℕ) → fixed_pass F (λ n. uncut) fi f ≡ uncut_pass F fi f
unfolding fixed_pass fixed_long at_p1 at_u1 at_p2 at_u2 at_g1 at_g2 step cut_product uncut_pass uncut_long uncut_p1 uncut_u1 uncut_p2 uncut_u2 uncut_step
uncut_pass_lem F fi f = refl

line_uncut : (t : WidthTable) → t.has_products ≡ false → fixed_line t ≡ uncut_line t
unfolding fixed_line uncut_line
line_uncut t e = fun_ext λ l. fun_ext λ p. ap (λ (fp : Node → Product). fixed_pass (constant_bits t) fp (input_bits t l p) (fraction_bits t l p)) (none_cut t l p e) ∙ uncut_pass_lem (constant_bits t) (input_bits t l p) (fraction_bits t l p)

-- Without tag 5 a table gives its old coefficients.
pub old_coefficients : (t : WidthTable) (pixels : List ℕ) (w h : ℕ) → t.has_products ≡ false → fixed_plane t pixels w h ≡ uncut_plane t pixels w h
unfolding fixed_plane fixed_after uncut_plane uncut_after
old_coefficients t pixels w h e = ap (λ (line : ℕ → Pass → OnLine ℤ). levels (λ l. level_rows_first (line l Rows) (λ low. line l (column_pass low))) t.levels w h (sample pixels t.depth w)) (line_uncut t e)
