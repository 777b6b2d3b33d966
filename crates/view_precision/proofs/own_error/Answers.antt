use mathlib.Core.Path.{◌∙◌}
use Rattle.view_precision.specs.PlaceLaws.{own_scales, own_lifts}
use Rattle.view_precision.proofs.own_error.Goals as goal

pub returns-then-stage-lt-SCALING_STAGES : goal.returns-then-stage-lt-SCALING_STAGES
returns-then-stage-lt-SCALING_STAGES c =
    let a = c.args in
    c.own_scale.ensures ∙ own_scales a.stage a.total c.if-stage-lt-SCALING_STAGES.true

pub returns : goal.returns
returns c =
    let a = c.args in
    c.own_lift.ensures ∙ own_lifts a.stage a.total c.if-stage-lt-SCALING_STAGES.false
