-- `lifting::passes::centred` meets its contract: two numbers below 2^16 differ by less than 2^31.
use native.Mathlib.Omega.{arith}
use mir.Syntax.{w32}
use Rattle.numbers.specs.Auto.{values, v_nat, auto_fits, auto_exact}
use Rattle.lifting.proofs.passes.centred.Goals as goal

pub overflow_sub-result : goal.overflow_sub-result
overflow_sub-result c = auto_fits (search (values, v_nat w32 c.args.pixel 65535 (omega arith), v_nat w32 c.args.middle 65535 (omega arith)) depth 40) tt

pub returns : goal.returns
returns c = auto_exact (search (values, v_nat w32 c.args.pixel 65535 (omega arith), v_nat w32 c.args.middle 65535 (omega arith)) depth 40) tt
