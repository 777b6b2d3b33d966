-- A single sample (document 02, job 6): cut to f bits it is as good as the rule says (`single_good`).
use Rattle.std.specs.Prelude.{ℕ, ◌≤◌, ℤ}
use Rattle.exact.specs.Fractions.{Frac}
use Rattle.exact.specs.FracLaws.{within_≈, within_⊕, within_most, through}
use Rattle.stages.specs.Rule.{Bound, single_error}
use Rattle.stages.specs.Fixed.{fixed_value, cut}
use Rattle.stages.proofs.Own.{cut_within}
use Rattle.stages.proofs.Sound.{Good}

pub single_good : (fi : ℕ) (b : Bound) (f : ℕ) (v : ℤ) (x : Frac) → f ≤ 32 → Good b fi v x → Good (record { range = b.range; error = single_error fi b f }) f (cut fi f v) x
single_good fi b f v x small g = record {
  range = g.range;
  error = within_≈ (through (fixed_value v fi) x (fixed_value (cut fi f v) f)) (within_⊕ g.error (cut_within fi f v small));
}

-- good within bounds is good within larger ones
pub good_most : {b c : Bound} {f : ℕ} {v : ℤ} {x : Frac} → b.range ≤ c.range → b.error ≤ c.error → Good b f v x → Good c f v x
good_most i j g = record { range = within_most i g.range; error = within_most j g.error }
