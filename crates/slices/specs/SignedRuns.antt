-- A turn of a run on signed numbers: what the step asks and gives there of numbers that are read back from their bits.
use Rattle.std.specs.Prelude.{◌≡◌, List, ℕ, ◌+◌, ◌<◌, ◌^◌, ℤ, set}
use Rattle.std.proofs.Common.{sym, ap, subst, ◌∙◌, to_z-of_z}
use borrow.Author.Rules.{sfits_of}
use Rattle.std.specs.Int.Signed.{mag}
use Rattle.std.specs.Int.{Width}
use mir.Val.{SFits, to_z, of_z, hbits}
use Rattle.slices.specs.Patch.{at}
use Rattle.slices.specs.Runs.{Runs, SafeBy, as_type}
use Rattle.slices.specs.Filling.{Filling, filling_more, filling_own, filling_side}

-- a number read back from its bits
abbrev pub back : Width → ℤ → ℤ
back w z = to_z w (of_z w z)

-- what was read back of a call's result
pub got : (w : Width) {r z : ℤ} → mag r < 2 ^ hbits w → r ≡ z → back w r ≡ z
got w f e = to_z-of_z (sfits_of {w = w} f) ∙ e

pub fits_at : {w : Width} {z z' : ℤ} → z' ≡ z → SFits w z → SFits w z'
fits_at {w} e h = subst (SFits w) (sym e) h

-- a function of a value that was read: what it asks, and what it gives
module _ (w : Width) (z : ℤ) {v : ℤ} (fv : mag v < 2 ^ hbits w) (is : v ≡ z) where
  pub value_safe : (P : ℤ → Type 0) → P z → P (back w v)
  value_safe P h = subst P (sym (got w fv is)) h

  pub value_gives : (f : ℤ → ℤ) {r : ℤ} → mag r < 2 ^ hbits w → r ≡ f (back w v) → back w r ≡ f z
  value_gives f fr e = got w fr (e ∙ ap f (got w fv is))

-- a run of f, its first j places done
abbrev pub Running : (ℤ → ℤ → ℤ → ℤ) → ℕ → ℕ → ℕ → ℕ → List ℤ → List ℤ → ℕ → Type 0
Running f t a b n before = Filling t n (λ i. f (at before (t + i)) (at before (a + i)) (at before (b + i))) before

module _ (w : Width) (f : ℤ → ℤ → ℤ → ℤ) (P : ℤ → ℤ → ℤ → Type 0) {t a b n j : ℕ} {before now : List ℤ} (runs : Runs before t a b n) (h : Running f t a b n before now j) (some : j < n)
    (fo : mag (at now (t + j)) < 2 ^ hbits w) (fx : mag (at now (a + j)) < 2 ^ hbits w) (fy : mag (at now (b + j)) < 2 ^ hbits w) where
  own : back w (at now (t + j)) ≡ at before (t + j)
  own = got w fo (filling_own h)

  left : back w (at now (a + j)) ≡ at before (a + j)
  left = got w fx (filling_side h a runs.off_left some)

  right : back w (at now (b + j)) ≡ at before (b + j)
  right = got w fy (filling_side h b runs.off_right some)

  pub turn_safe : SafeBy P t a b n (at before) → P (back w (at now (t + j))) (back w (at now (a + j))) (back w (at now (b + j)))
  turn_safe safe = as_type (λ k. P (sym own k) (sym left k) (sym right k)) (safe j some)

  pub turn_done : {r : ℤ} → mag r < 2 ^ hbits w → r ≡ f (back w (at now (t + j))) (back w (at now (a + j))) (back w (at now (b + j))) → Running f t a b n before (set now (t + j) (back w r)) (j + 1)
  turn_done fr e = filling_more h some runs.own _ (got w fr (e ∙ (λ k. f (own k) (left k) (right k))))
