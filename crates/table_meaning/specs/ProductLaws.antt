-- A table without tag 5 cuts no product (document 02, job 7).
use Rattle.std.specs.Prelude.{ℕ, Bool, false, ◌≡◌, refl}
use Rattle.std.proofs.Common.{ap}
use Rattle.std.proofs.Math.Path.{fun_ext}
use Rattle.stages.specs.Stages.{uncut}
use Rattle.width_table.specs.Nodes.{Node, P1, U1, P2, U2, G1, G2, Pass}
use Rattle.width_table.specs.declared.WidthTable.{WidthTable}
use Rattle.width_table.specs.Table.{product_width}
use Rattle.table_meaning.specs.Products.{width_of, product_of}

-- no product has a width
pub none_cut : (t : WidthTable) (l : ℕ) (p : Pass) → t.has_products ≡ false → product_of t l p ≡ λ n. uncut
unfolding product_of
none_cut t l p e = fun_ext go
  where
    go : (n : Node) → product_of t l p n ≡ uncut
    go P1 = ap (λ (b : Bool). width_of b (product_width t l p P1)) e
    go U1 = ap (λ (b : Bool). width_of b (product_width t l p U1)) e
    go P2 = ap (λ (b : Bool). width_of b (product_width t l p P2)) e
    go U2 = ap (λ (b : Bool). width_of b (product_width t l p U2)) e
    go G1 = refl
    go G2 = refl
