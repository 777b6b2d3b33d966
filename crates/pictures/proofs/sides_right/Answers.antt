-- `pictures::sides_right` meets its contract: each way out is one rule.
use Rattle.std.proofs.Common.{sym, ◌∙◌}
use Rattle.pictures.specs.PixelLaws.{wide_wrong, tall_wrong, both_right}
use Rattle.pictures.proofs.sides_right.Goals as goal
use Rattle.pictures.proofs.sides_right.Goals.{then-not-side_admitted-via-then-not-side_admitted, then-not-side_admitted-via-else-not-side_admitted+then-not-side_admitted-2}

pub returns-then-not-side_admitted : goal.returns-then-not-side_admitted
returns-then-not-side_admitted c = elim c.then-not-side_admitted.branch [
  | then-not-side_admitted-via-then-not-side_admitted w ↦ sym (wide_wrong _ _ (cc))
  | then-not-side_admitted-via-else-not-side_admitted+then-not-side_admitted-2 w ↦ sym (tall_wrong _ _ (cc) (cc))
]

pub returns : goal.returns
returns c = sym (both_right _ _ (sym c.side_admitted.ensures ∙ c.if-not-side_admitted.false) (sym c.side_admitted-else-not-side_admitted.ensures ∙ c.if-not-side_admitted-2.false))
