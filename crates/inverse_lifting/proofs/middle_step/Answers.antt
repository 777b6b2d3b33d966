-- `inverse_lifting::middle_step` meets its contract: the lines are cut in two, and joined again.
use Rattle.std.specs.Prelude.{◌≡◌, true, ◌++◌, ℕ, ◌-◌, length, drop}
use Rattle.std.proofs.Common.{sym, ap, ◌∙◌, arith}
use Rattle.std.proofs.Math.Seq.{drop-append_seam}
use Rattle.std.proofs.lemmas.List.{take_at}
use Rattle.slices.specs.Runs.{as_type}
use Rattle.inverse_lifting.specs.Columns.{StripStep, StripStepped}
use Rattle.inverse_lifting.proofs.middle_step.Goals as goal

pub steps-requires : goal.steps-requires
steps-requires c =
    let s = c.args in
    let split = c.split_at_mut-even.ensures in
    let rest : length s.lines.now - s.stride ≡ length c.split_at_mut-even.result.1.now = omega (arith, split.back_len) in
    as_type (λ u. StripStep s.high.now s.low.now s.held.now (sym split.front_len u) (rest u) s.b s.i true) c.requires.0

pub returns : goal.returns
returns c =
    let s = c.args in
    let split = c.split_at_mut-even.ensures in
    let us = c.steps.new.even in
    let vs = c.steps.new.odd in
    let long : length us ≡ s.stride = omega (arith, split.front_len, c.steps.auto.even) in
    let is_even = take_at us vs s.stride long in
    let is_odd : drop s.stride (us ++ vs) ≡ vs = ap (λ (n : ℕ). drop n (us ++ vs)) (sym long) ∙ drop-append_seam us vs in
    as_type (λ u. StripStepped s.high.now s.low.now s.held.now c.steps.new.held (split.front u) (sym is_even u) (split.back u) (sym is_odd u) s.b s.i) c.steps.ensures
