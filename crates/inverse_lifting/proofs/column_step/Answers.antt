-- `inverse_lifting::column_step` meets its contract: what is held and what comes next are taken by `stepped`.
use mathlib.Core.Path.{◌≡◌, sym, ap, subst, ◌∙◌}
use borrow.Author.Rules.{rules}
use lib.IntN.{ℤ, pos}
use mathlib.Core.List.{List}
use mir.Syntax.{w32, w64}
use mir.Val.{SFits}
use mir.Facts.{to_z-of_z, sfits_widen}
use Rattle.numbers.specs.Auto.{rd}
use Rattle.lines.specs.Lines.{lows, highs}
use Rattle.slices.specs.Patch.{at}
use Rattle.slices.specs.Runs.{as_type}
use Rattle.inverse_lifting.specs.declared.Pipeline.{Pipeline}
use Rattle.inverse_lifting.specs.Stages.{again, scaled_by, cut_bits, at_inverse, at_zeta}
use Rattle.inverse_lifting.specs.Steps.{SomeReady, Stepped}
use Rattle.inverse_lifting.specs.Columns.{pipeline_in, column_line_lem}
use Rattle.inverse_lifting.proofs.column_step.Goals as goal

abbrev back_in : List ℤ → Pipeline
back_in x = record { g2 = rd w64 (at x 0); u2 = rd w64 (at x 1); p2 = rd w64 (at x 2); u1 = rd w64 (at x 3); even = pos 0; odd = pos 0 }

-- what is held, read back from its bits
held_read : (x : List ℤ) → SFits w64 (at x 0) → SFits w64 (at x 1) → SFits w64 (at x 2) → SFits w64 (at x 3) → back_in x ≡ pipeline_in x
held_read x f0 f1 f2 f3 = λ u. record { g2 = to_z-of_z f0 u; u2 = to_z-of_z f1 u; p2 = to_z-of_z f2 u; u1 = to_z-of_z f3 u; even = pos 0; odd = pos 0 }

-- a coefficient fits 32 bits, and so 64
cast_is : (v : ℤ) → SFits w32 v → rd w64 (rd w32 v) ≡ v
cast_is v fits = to_z-of_z (subst (SFits w64) (sym (to_z-of_z fits)) (sfits_widen tt fits)) ∙ to_z-of_z fits

pub stepped-requires : goal.stepped-requires
stepped-requires g c =
    let a = c.args in
    let n = a.b.lines in
    let held_is : back_in a.held ≡ pipeline_in a.held = held_read a.held (search rules) (search rules) (search rules) (search rules) in
    let low_is : rd w64 c.scaled.result ≡ scaled_by at_inverse (cut_bits a.b.lowbits) a.low =
    again c.scaled.result c.scaled.type_inv ∙ c.scaled.ensures ∙ ap (scaled_by at_inverse (cut_bits a.b.lowbits)) (to_z-of_z c.ranges.low) in
    let high_is : rd w64 c.scaled-2.result ≡ scaled_by at_zeta (cut_bits a.b.highbits) a.high =
    again c.scaled-2.result c.scaled-2.type_inv ∙ c.scaled-2.ensures ∙ ap (scaled_by at_zeta (cut_bits a.b.highbits)) (cast_is a.high c.ranges.high) in (
      as_type (λ u. SomeReady a.i (lows n) (highs n) (sym held_is u) (sym low_is u) (sym high_is u)) (record { line = _; ready = column_line_lem c.requires.ready c.requires.sized.two c.requires.sized.within }),
      c.requires.sized.middle,
    )

pub returns : goal.returns
returns g c =
    let a = c.args in
    let n = a.b.lines in
    let held_is : back_in a.held ≡ pipeline_in a.held = held_read a.held (search rules) (search rules) (search rules) (search rules) in
    let low_is : rd w64 c.scaled.result ≡ scaled_by at_inverse (cut_bits a.b.lowbits) a.low =
    again c.scaled.result c.scaled.type_inv ∙ c.scaled.ensures ∙ ap (scaled_by at_inverse (cut_bits a.b.lowbits)) (to_z-of_z c.ranges.low) in
    let high_is : rd w64 c.scaled-2.result ≡ scaled_by at_zeta (cut_bits a.b.highbits) a.high =
    again c.scaled-2.result c.scaled-2.type_inv ∙ c.scaled-2.ensures ∙ ap (scaled_by at_zeta (cut_bits a.b.highbits)) (cast_is a.high c.ranges.high) in
    as_type (λ u. Stepped a.i (lows n) (highs n) (held_is u) (low_is u) (high_is u) c.stepped.result) c.stepped.ensures
