-- `inverse_lifting::moved` meets its contract: every number on the way is at most 2^62.
use Prim.Native.Nat.{◌*◌, ◌^◌}
use Rattle.numbers.specs.Auto.{Value, values, v_arg, auto_fits, auto_exact}
use Rattle.inverse_lifting.specs.Fixed.{inverse_bits, limit}
use Rattle.inverse_lifting.proofs.moved.Goals as goal

abbrev given : (c : goal.Start) → Value c.args.own × Value c.args.x × Value c.args.y × Value c.args.c
given c = let p = c.requires in (v_arg _ limit p.0.middle, v_arg _ limit p.0.left, v_arg _ limit p.0.right, v_arg _ (2 * 2 ^ inverse_bits) p.1)

pub overflow_sub-result : goal.overflow_sub-result
overflow_sub-result c = auto_fits (search (values, given c) depth 40) tt

pub overflow_add-result : goal.overflow_add-result
overflow_add-result c = auto_fits (search (values, given c) depth 40) tt

pub overflow_mul-result : goal.overflow_mul-result
overflow_mul-result c = auto_fits (search (values, given c) depth 40) tt

pub overflow_add-result-2 : goal.overflow_add-result-2
overflow_add-result-2 c = auto_fits (search (values, given c) depth 40) tt

pub returns : goal.returns
returns c = auto_exact (search (values, given c) depth 40) tt
