use mathlib.Core.Path.{sym, ◌∙◌, ap}
use native.Mathlib.Omega.{arith}
use Rattle.refusals.specs.Told.{told}
use Rattle.table_bytes.specs.NameLaws.{Valued, valued}
use Rattle.table_bytes.proofs.value_of.Goals as goal

pub overflow_add-result : goal.overflow_add-result
overflow_add-result c =
    -- what it says of the part
    let part : Valued c.args.bytes.now c.args.tag c.in-Ok.start c.in-Ok.len =
    let a = c.args in valued a.bytes.now a.tag c.in-Ok.start c.in-Ok.len (sym c.value_place.ensures ∙ ap told c.in-Ok.is) in
    omega (arith, part.small)

pub slice_bounds-result-end-in-Ok : goal.slice_bounds-result-end-in-Ok
slice_bounds-result-end-in-Ok c =
    let part : Valued c.args.bytes.now c.args.tag c.in-Ok.start c.in-Ok.len =
    let a = c.args in valued a.bytes.now a.tag c.in-Ok.start c.in-Ok.len (sym c.value_place.ensures ∙ ap told c.in-Ok.is) in
    omega (arith, part.fits)
