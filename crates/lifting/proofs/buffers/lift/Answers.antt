-- `lifting::buffers::lift` meets its contract.
use mathlib.Core.Path.{ap, sym, subst, ◌∙◌}
use native.Mathlib.Omega.{arith}
use Rattle.lifting.specs.Steps.{applied, Safe}
use Rattle.lifting.specs.Buffers.{AtLows, lows_done, buffer_as}
use Rattle.lifting.proofs.buffers.lift.Goals as goal

pub on_highs-requires : goal.on_highs-requires
on_highs-requires c = record {
  buffer = c.requires.buffer;
  at_highs = c.requires.lift_safe.on_highs_lem;
}

pub on_lows-requires : goal.on_lows-requires
on_lows-requires c = record {
  buffer = buffer_as c.requires.buffer _ (omega arith);
  at_lows = subst (AtLows (Safe c.args.pair.now.lows) c.args.s c.args.n) (sym c.on_highs.ensures) c.requires.lift_safe.on_lows_lem;
}

pub returns : goal.returns
returns c = c.on_lows.ensures ∙ ap (lows_done (applied c.args.pair.now.lows) c.args.s c.args.n) c.on_highs.ensures
