-- `lifting::runs::cut_run` meets its contract.
use mathlib.Core.Path.{◌≡◌, refl}
use mathlib.Core.Bool.{Bool}
use Prim.Native.Nat.{ℕ}
use borrow.Author.Rules.{rules}
use Rattle.lifting.specs.declared.CutForm.{CutForm}
use Rattle.lifting.specs.Forms.{cut_step}
use Rattle.lifting.specs.declared.Step.TheVariants.{BiasedCut}
use Rattle.lifting.proofs.Turn.{run_made}
use Rattle.lifting.proofs.runs.cut_run.Goals as goal

same : (f : CutForm) {down down' : Bool} {k cut : ℕ} → down ≡ down' → f.k ≡ k → f.cut ≡ cut → cut_step down f ≡ BiasedCut down' k f.c f.offset f.first f.up f.base cut
same f b d e = λ u. BiasedCut (b u) (d u) f.c f.offset f.first f.up f.base (e u)

pub returns-then-down : goal.returns-then-down
returns-then-down c = run_made _ _ (same c.args.form c.if-down.true c.if-form-eq0-2.true c.if-form-eq0.true) c.run.ensures (λ j v h p. search rules)

pub returns-else-down : goal.returns-else-down
returns-else-down c = run_made _ _ (same c.args.form c.if-down.false c.if-form-eq0-2.true c.if-form-eq0.true) c.run-else-down.ensures (λ j v h p. search rules)

pub returns-then-down-2 : goal.returns-then-down-2
returns-then-down-2 c = run_made _ _ (same c.args.form c.if-down-2.true refl c.if-form-eq0.true) c.run-then-down-2.ensures (λ j v h p. search rules)

pub returns-else-down-2 : goal.returns-else-down-2
returns-else-down-2 c = run_made _ _ (same c.args.form c.if-down-2.false refl c.if-form-eq0.true) c.run-else-down-2.ensures (λ j v h p. search rules)

pub returns-then-down-3 : goal.returns-then-down-3
returns-then-down-3 c = run_made _ _ (same c.args.form c.if-down-3.true refl refl) c.run-then-down-3.ensures (λ j v h p. search rules)

pub returns-else-down-3 : goal.returns-else-down-3
returns-else-down-3 c = run_made _ _ (same c.args.form c.if-down-3.false refl refl) c.run-else-down-3.ensures (λ j v h p. search rules)
