-- `reversible::allowed` meets its contract: the limits, then the room.
use mathlib.Core.Path.{sym, ◌∙◌}
use Rattle.reversible.specs.AnswerLaws.{limits_kept, limits_broken}
use Rattle.reversible.proofs.allowed.Goals as goal

pub returns-then-not-limits_right : goal.returns-then-not-limits_right
returns-then-not-limits_right c = let a = c.args in sym (limits_broken a.depth a.levels _ (sym c.limits_right.ensures ∙ c.if-not-limits_right.true))

pub returns : goal.returns
returns c = let a = c.args in c.room_right.ensures ∙ sym (limits_kept a.depth a.levels _ (sym c.limits_right.ensures ∙ c.if-not-limits_right.false))
