-- `lifting::runs::separate_run` meets its contract.
use mathlib.Core.Path.{◌≡◌, refl}
use mathlib.Core.Bool.{Bool}
use Prim.Native.Nat.{ℕ}
use borrow.Author.Rules.{rules}
use Rattle.lifting.specs.declared.BiasedForm.{BiasedForm}
use Rattle.lifting.specs.Forms.{separate_step}
use Rattle.lifting.specs.declared.Step.TheVariants.{Separate}
use Rattle.lifting.proofs.Turn.{run_made}
use Rattle.lifting.proofs.runs.separate_run.Goals as goal

same : (f : BiasedForm) {down down' : Bool} {rise : ℕ} → down ≡ down' → f.by ≡ rise → separate_step down f ≡ Separate down' rise f.c f.base f.cut
same f d e = λ k. Separate (d k) (e k) f.c f.base f.cut

pub returns-then-down : goal.returns-then-down
returns-then-down c = run_made _ _ (same c.args.form c.if-down.true c.if-form-eq0.true) c.run.ensures (λ j v h p. search rules)

pub returns-else-down : goal.returns-else-down
returns-else-down c = run_made _ _ (same c.args.form c.if-down.false c.if-form-eq0.true) c.run-else-down.ensures (λ j v h p. search rules)

pub returns-then-down-2 : goal.returns-then-down-2
returns-then-down-2 c = run_made _ _ (same c.args.form c.if-down-2.true refl) c.run-then-down-2.ensures (λ j v h p. search rules)

pub returns-else-down-2 : goal.returns-else-down-2
returns-else-down-2 c = run_made _ _ (same c.args.form c.if-down-2.false refl) c.run-else-down-2.ensures (λ j v h p. search rules)
