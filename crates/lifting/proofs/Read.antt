-- A signed local holds bits. What a step asks and gives of numbers that are read back from their bits is what it asks and gives of the numbers.
use Prim.Native.Nat.{ℕ, ◌<◌, ◌^◌}
use mathlib.Core.Path.{◌≡◌, sym, subst, ◌∙◌}
use lib.IntN.{ℤ}
use lib.Signed.{mag}
use mir.Syntax.{Width, w64}
use mir.Val.{SFits, hbits}
use mir.Facts.{to_z-of_z}
use Rattle.lifting.specs.declared.Step.{Step}
use Rattle.lifting.specs.declared.Step.TheVariants.{Scaled, Cut}
use Rattle.lifting.specs.declared.Factor.{Factor}
use Rattle.lifting.specs.declared.Factor.TheVariants.{Plain}
use Rattle.lifting.specs.Steps.{applied, ended, Safe}
use Rattle.slices.specs.SignedRuns.{back, got}

module _ (w : Width) {s s' : Step} {own x y : ℤ} (fo : SFits w own) (fx : SFits w x) (fy : SFits w y) (same : s ≡ s') where
  path : applied s own x y ≡ applied s' (back w own) (back w x) (back w y)
  path = λ k. applied (same k) (sym (to_z-of_z fo) k) (sym (to_z-of_z fx) k) (sym (to_z-of_z fy) k)

  pub safe_back : Safe s own x y → Safe s' (back w own) (back w x) (back w y)
  safe_back h = subst (λ (t : Type 0). t) (λ k. Safe (same k) (sym (to_z-of_z fo) k) (sym (to_z-of_z fx) k) (sym (to_z-of_z fy) k)) h

  pub applied_back : {r : ℤ} → mag r < 2 ^ hbits w → r ≡ applied s' (back w own) (back w x) (back w y) → back w r ≡ applied s own x y
  applied_back fr e = got w fr (e ∙ sym path)

-- the same at an end
pub ended_back : (w : Width) {s s' : Step} {own x : ℤ} → SFits w own → SFits w x → s ≡ s' → {r : ℤ} → mag r < 2 ^ hbits w → r ≡ ended s' (back w own) (back w x) → back w r ≡ ended s own x
ended_back w fo fx same fr e = got w fr (e ∙ (λ k. ended (sym same k) (to_z-of_z fo k) (to_z-of_z fx k)))

-- a step by another name of its constant
pub scaled_as : {s : Step} {k : ℕ} {c c' : ℤ} {cut : ℕ} → c' ≡ c → s ≡ Scaled k c cut → s ≡ Scaled k c' cut
scaled_as {k} {cut} same e = e ∙ (λ u. Scaled k (sym same u) cut)

pub cut_as : {s : Step} {k : ℕ} {c c' : ℤ} {first up cut : ℕ} → c' ≡ c → s ≡ Cut k c first up cut → s ≡ Cut k c' first up cut
cut_as {k} {first} {up} {cut} same e = e ∙ (λ u. Cut k (sym same u) first up cut)

-- a step or a scaling whose constant was read back
pub scaled_back : {s : Step} {k : ℕ} {c : ℤ} {cut : ℕ} → SFits w64 c → s ≡ Scaled k c cut → s ≡ Scaled k (back w64 c) cut
scaled_back fc e = scaled_as (to_z-of_z fc) e

pub cut_back : {s : Step} {k : ℕ} {c : ℤ} {first up cut : ℕ} → SFits w64 c → s ≡ Cut k c first up cut → s ≡ Cut k (back w64 c) first up cut
cut_back fc e = cut_as (to_z-of_z fc) e

pub plain_back : {g : Factor} {c : ℤ} {cut : ℕ} → SFits w64 c → g ≡ Plain c cut → g ≡ Plain (back w64 c) cut
plain_back {cut} fc e = e ∙ (λ u. Plain (sym (to_z-of_z fc) u) cut)
