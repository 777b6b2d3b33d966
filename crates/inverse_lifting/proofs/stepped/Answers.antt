-- `inverse_lifting::stepped` meets its contract.
use borrow.Author.Rules.{rules}
use Rattle.inverse_lifting.specs.Steps.{ready_read, stepped_read}
use Rattle.inverse_lifting.proofs.stepped.Goals as goal

pub inner_step-requires : goal.inner_step-requires
inner_step-requires g c =
    let p = c.requires.1 (search rules) in
    (ready_read c.ranges.low c.ranges.high c.requires.0, p.0, p.1)

pub returns-then-this-ne0 : goal.returns-then-this-ne0
returns-then-this-ne0 g c = stepped_read c.ranges.low c.ranges.high c.inner_step.ensures

pub end_step-requires : goal.end_step-requires
end_step-requires g c = ready_read c.ranges.low c.ranges.high c.requires.0

pub returns : goal.returns
returns g c = stepped_read c.ranges.low c.ranges.high c.end_step.ensures
