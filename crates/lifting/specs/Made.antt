-- What a function makes of the places of a run, one after the other.
use Rattle.std.specs.Prelude.{◌≡◌, refl, List, ◌++◌, ℕ, ◌+◌, ◌<◌, ◌≤◌, ◌^◌, ℤ, pos, length, set, take, drop}
use Rattle.std.proofs.Common.{sym, ap, subst, ◌∙◌, arith, length-set, length-append, length-drop, length-take-le, get_or-set_same, get_or-set_other}
use Rattle.std.proofs.Math.Decide.{dec_lt}
use Rattle.std.specs.Int.Signed.{mag}
use Rattle.std.specs.Int.{w32}
use mir.Val.{hbits}
use Rattle.slices.specs.Patch.{at, patch, patch_none, patch_ext, patch_set, patch_in, patch_part, patch_to}
use Rattle.slices.specs.Runs.{Runs, SafeBy, as_type, own_as_was, side_as_was}
use Rattle.slices.specs.SignedRuns.{back, got}

-- P holds of what now stands at each of n places from t on, and the rest is as before
pub record Made (P : ℕ → ℤ → Type 0) (t n : ℕ) (before now : List ℤ) : Type 0 where
  pub long : length now ≡ length before
  pub rest : at now ≡ patch t n (λ j. at now (t + j)) (at before)
  pub each : (j : ℕ) → j < n → P j (at now (t + j))

pub made_none : (P : ℕ → ℤ → Type 0) (t : ℕ) (l : List ℤ) → Made P t 0 l l
made_none P t l = record { long = refl; rest = patch_none t 0 _ (at l) refl; each = λ j h. absurd (omega arith) }

module _ {P : ℕ → ℤ → Type 0} {t j : ℕ} {before now : List ℤ} (h : Made P t j before now) where
  -- the next place is as before
  pub made_own : at now (t + j) ≡ at before (t + j)
  made_own = own_as_was t j _ (at before) (at now) h.rest

  -- one place more
  pub made_more : t + j < length before → (v : ℤ) → P j v → Made P t (j + 1) before (set now (t + j) v)
  made_more fits v p = record {
    long = length-set now (t + j) v ∙ h.long;
    rest = patch_set t j new (at before) now (pos 0) (h.rest ∙ patch_ext t j _ new (at before) (λ i q. sym (kept i q))) room v (sym here);
    each = λ i q. go i q (dec_lt i j);
  }
    where
      room : t + j < length now
      room = omega (arith, h.long)

      new : ℕ → ℤ
      new i = at (set now (t + j) v) (t + i)

      kept : (i : ℕ) → i < j → new i ≡ at now (t + i)
      kept i q = get_or-set_other now (t + j) (t + i) v (pos 0) (omega arith)

      here : new j ≡ v
      here = get_or-set_same now (t + j) v (pos 0) room

      go : (i : ℕ) → i < j + 1 → Dec (i < j) → P i (new i)
      go i q (yes u) = subst (P i) (sym (kept i u)) (h.each i u)
      go i q (no f) =
          let e : i ≡ j = omega arith in
          rw e (subst (P j) (sym here) p)

-- where P tells what stands there
pub made_is : {P : ℕ → ℤ → Type 0} {t n : ℕ} {before now : List ℤ} → Made P t n before now → (new : ℕ → ℤ) → ((j : ℕ) (r : ℤ) → j < n → P j r → r ≡ new j) → at now ≡ patch t n new (at before)
made_is {t} {n} {before} h new told = h.rest ∙ patch_ext t n _ new (at before) (λ j q. told j _ q (h.each j q))

-- In turn j of a run of steps: what stands at the three places is what stood there, so that a fact holds of the one if it holds of the other.
module _ {t a b n : ℕ} {before : List ℤ} (runs : Runs before t a b n) {P : ℕ → ℤ → Type 0} {j : ℕ} (now : List ℤ) (h : Made P t j before now) (some : j < n)
    (fo : mag (at now (t + j)) < 2 ^ hbits w32) (fx : mag (at now (a + j)) < 2 ^ hbits w32) (fy : mag (at now (b + j)) < 2 ^ hbits w32) where
  same : (Q : ℤ → ℤ → ℤ → Type 0) → Q (at before (t + j)) (at before (a + j)) (at before (b + j)) ≡ Q (back w32 (at now (t + j))) (back w32 (at now (a + j))) (back w32 (at now (b + j)))
  same Q =
      let own = got w32 fo (made_own h) in
      let left = got w32 fx (side_as_was t j _ (at before) (at now) h.rest a n runs.off_left some) in
      let right = got w32 fy (side_as_was t j _ (at before) (at now) h.rest b n runs.off_right some) in
      λ k. Q (sym own k) (sym left k) (sym right k)

  pub turn_asks : (Q : ℤ → ℤ → ℤ → Type 0) → SafeBy Q t a b n (at before) → Q (back w32 (at now (t + j))) (back w32 (at now (a + j))) (back w32 (at now (b + j)))
  turn_asks Q safe = as_type (same Q) (safe j some)

  pub turn_gives : (Q : ℤ → ℤ → ℤ → ℤ → Type 0) {r : ℤ} → mag r < 2 ^ hbits w32 → Q (back w32 (at now (t + j))) (back w32 (at now (a + j))) (back w32 (at now (b + j))) r
      → Q (at before (t + j)) (at before (a + j)) (at before (b + j)) (back w32 r)
  turn_gives Q {r} fr q = as_type (sym (same (λ own x y. Q own x y (back w32 r)))) (subst (Q _ _ _) (sym (got w32 fr refl)) q)

-- the same of one value that was read
pub value_made : (Q : ℤ → ℤ → Type 0) {v z r : ℤ} → mag v < 2 ^ hbits w32 → v ≡ z → mag r < 2 ^ hbits w32 → Q (back w32 v) r → Q z (back w32 r)
value_made Q {r} fv is fr q = subst (λ (u : ℤ). Q u (back w32 r)) (got w32 fv is) (subst (Q _) (sym (got w32 fr refl)) q)

-- A part of a slice, put back into it, is a run of such places; its length may be written otherwise.
module _ (t m n : ℕ) (same : m ≡ n) (before part : List ℤ) (fits : t + n ≤ length before) (long : length part ≡ n) where
  abbrev pub put_part : List ℤ
  put_part = take t before ++ (part ++ drop m (drop t before))

  put_is : at put_part ≡ patch t n (at part) (at before)
  put_is = patch_to t m n (at part) (at before) (at put_part) (patch_part t m (at part) before part (pos 0) (omega (arith, same)) (long ∙ sym same) (λ j h. refl)) same

  put_at : (j : ℕ) → j < n → at put_part (t + j) ≡ at part j
  put_at j h = ap (λ (x : ℕ → ℤ). x (t + j)) put_is ∙ patch_in t n (at part) (at before) j h

  put_long : length put_part ≡ length before
  put_long = simp (length-append, length-drop) (omega (arith, length-take-le t before (omega arith)))

  pub made_part : {P : ℕ → ℤ → Type 0} → ((j : ℕ) → j < n → P j (at part j)) → Made P t n before put_part
  made_part {P} each = record {
    long = put_long;
    rest = put_is ∙ patch_ext t n _ _ (at before) (λ j h. sym (put_at j h));
    each = λ j h. subst (P j) (sym (put_at j h)) (each j h);
  }
