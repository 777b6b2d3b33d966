-- `viewing::level_back` meets its contract: the columns, then the rows.
use mathlib.Core.Path.{sym, ap, ◌∙◌, subst}
use Prim.Native.Nat.{ℕ}
use native.Mathlib.Omega.{arith}
use lib.IntN.{ℤ}
use Rattle.slices.specs.Parts.{row_of, rows_by}
use Rattle.inverse_lifting.specs.Fixed.{node_bits, fixed_inverse}
use Rattle.inverse_lifting.specs.Planes.{Safe}
use Rattle.viewing.specs.View.{view_line}
use Rattle.viewing.proofs.level_back.Goals as goal

pub rows-requires : goal.rows-requires
rows-requires c =
    let a = c.args in record {
      part = (record { narrow = c.requires.part.narrow; few = c.requires.part.few; wide = c.requires.part.wide; fits = λ r i. omega (arith, c.requires.part.fits r i) }, omega (arith, c.requires.across));
      by_index = (λ r i. subst (λ (f : ℕ → ℤ). Safe node_bits node_bits a.site.w (row_of a.site.stride 0 f r)) (sym c.columns_back.ensures) (c.requires.safe.on_rows r i));
    }

pub returns : goal.returns
unfolding view_line
returns c =
    let a = c.args in
    c.rows.ensures.work ∙ ap (rows_by (fixed_inverse node_bits node_bits) a.site.stride a.site.w a.site.h) c.columns_back.ensures
