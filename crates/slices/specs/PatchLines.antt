-- Lines of m values in a slice, line i from place line i on, and such lines replaced.
use Rattle.std.specs.Prelude.{◌≡◌, List, ◌⊎◌, ℤ, length}
use Rattle.std.proofs.Math.Path.{refl, ap, fun_ext}
use Rattle.std.proofs.Common.{sym, ◌∙◌, inl, inr, mul-le-mul_right, add-one}
use Prim.Native.Nat.{ℕ, zero, suc, ◌+◌, ◌*◌, ◌-◌, ◌<◌, ◌≤◌, ◌^◌}
use Rattle.std.proofs.Math.Decide.{dec_lt}
use native.Mathlib.Omega.{arith}
use Rattle.slices.specs.Patch.{patch, patch_in, patch_below, patch_above, patch_out, patch_is, patch_ext, patch_none, Place, place, below, inside, above}
use Rattle.slices.specs.Runs.{Apart}

abbrev pub line_at : ℕ → ℕ → ℕ → ℕ
line_at base stride i = base + i * stride

-- n lines of m values, one or more, lie in the slice, and no two of them meet
pub record Lying (l : List ℤ) (base stride n m : ℕ) : Type 0 where
  pub some : 1 ≤ n
  pub few : n < 2 ^ 63
  pub narrow : m ≤ stride
  pub fits : (i : ℕ) → i < n → line_at base stride i + m ≤ length l

-- x, with new i j at value j of line i, i < k
unfoldable pub patch_lines : {A : Type 0} → (ℕ → ℕ) → ℕ → ℕ → (ℕ → ℕ → A) → (ℕ → A) → ℕ → A
patch_lines line m zero new x = x
patch_lines line m (suc k) new x = patch (line k) m (new k) (patch_lines line m k new x)

-- two lines do not meet
pub lines_apart : (base stride m i k : ℕ) → m ≤ stride → (i ≡ k → ⊥) → Apart (line_at base stride i) (line_at base stride k) m
lines_apart base stride m i k narrow ne p q hp hq e = go (dec_lt i k)
  where
    go : Dec (i < k) → ⊥
    go (yes h) = omega (arith, mul-le-mul_right stride h)
    go (no f) = omega (arith, mul-le-mul_right {m = suc k} {n = i} stride (omega arith))

module _ {A : Type 0} (line : ℕ → ℕ) (m : ℕ) (new : ℕ → ℕ → A) (x : ℕ → A) where
  -- what is on none of the first k lines is as it was
  pub lines_out : (k p : ℕ) → ((i j : ℕ) → i < k → j < m → line i + j ≡ p → ⊥) → patch_lines line m k new x p ≡ x p
  unfolding patch_lines
  lines_out zero p off = refl
  lines_out (suc k) p off = patch_out (line k) m (new k) _ p (λ j h e. off k j (omega arith) h (sym e)) ∙ lines_out k p (λ i j h g e. off i j (omega arith) g e)

  pub lines_none : x ≡ patch_lines line m 0 new x
  unfolding patch_lines
  lines_none = refl

  -- one line more
  pub lines_more : (k : ℕ) (y z : ℕ → A) (row : ℕ → A) → y ≡ patch_lines line m k new x → z ≡ patch (line k) m row y → ((j : ℕ) → j < m → row j ≡ new k j) → z ≡ patch_lines line m (k + 1) new x
  unfolding patch_lines
  lines_more k y z row is e same =
      e ∙ patch_ext (line k) m row (new k) y same ∙ ap (patch (line k) m (new k)) is ∙ ap (λ (n : ℕ). patch_lines line m n new x) (sym (add-one k))

  -- c lines more
  pub lines_then : (k c : ℕ) → patch_lines (λ i. line (k + i)) m c (λ i. new (k + i)) (patch_lines line m k new x) ≡ patch_lines line m (k + c) new x
  unfolding patch_lines
  lines_then k zero = ap (λ (n : ℕ). patch_lines line m n new x) (let e : k ≡ k + zero = omega arith in e)
  lines_then k (suc c) = ap (patch (line (k + c)) m (new (k + c))) (lines_then k c) ∙ ap (λ (n : ℕ). patch_lines line m n new x) (let e : suc (k + c) ≡ k + suc c = omega arith in e)

pub lines_ext : {A : Type 0} (line : ℕ → ℕ) (m : ℕ) (old new : ℕ → ℕ → A) (x : ℕ → A) (k : ℕ) → ((i j : ℕ) → i < k → j < m → old i j ≡ new i j) → patch_lines line m k old x ≡ patch_lines line m k new x
unfolding patch_lines
lines_ext line m old new x zero same = refl
lines_ext line m old new x (suc k) same =
    ap (patch (line k) m (old k)) (lines_ext line m old new x k (λ i j h g. same i j (omega arith) g)) ∙ patch_ext (line k) m (old k) (new k) _ (λ j g. same k j (omega arith) g)

-- the same lines, their count written otherwise
pub lines_to : {A : Type 0} (line : ℕ → ℕ) (m k n : ℕ) (new : ℕ → ℕ → A) (x y : ℕ → A) → y ≡ patch_lines line m k new x → k ≡ n → y ≡ patch_lines line m n new x
lines_to line m k n new x y is e = is ∙ ap (λ (u : ℕ). patch_lines line m u new x) e

-- lines without a gap are one run
packed_more : {A : Type 0} (base s k : ℕ) (new x y : ℕ → A) → y ≡ patch base (k * s) new x → patch base (suc k * s) new x ≡ patch (base + k * s) s (λ j. new (k * s + j)) y
packed_more {A} base s k new x y is = sym (patch_is base (suc k * s) new x _
    (λ p h. patch_below (base + k * s) s _ y p (omega arith) ∙ was p ∙ patch_below base (k * s) new x p h)
    (λ j h. go j h (dec_lt j (k * s)))
    (λ p h. patch_above (base + k * s) s _ y p (omega arith) ∙ was p ∙ patch_above base (k * s) new x p (omega arith)))
  where
    was : (p : ℕ) → y p ≡ patch base (k * s) new x p
    was p = ap (λ (g : ℕ → A). g p) is

    go : (j : ℕ) → j < suc k * s → Dec (j < k * s) → patch (base + k * s) s (λ j. new (k * s + j)) y (base + j) ≡ new j
    go j h (yes l) = patch_below (base + k * s) s _ y (base + j) (omega arith) ∙ was (base + j) ∙ patch_in base (k * s) new x j l
    go j h (no f) =
        let e : base + j ≡ base + k * s + (j - k * s) = omega arith in
        ap (patch (base + k * s) s (λ j. new (k * s + j)) y) e ∙ patch_in (base + k * s) s _ y (j - k * s) (omega arith) ∙ ap new (omega arith)

pub packed_lines : {A : Type 0} (base s k : ℕ) (new x : ℕ → A) → patch base (k * s) new x ≡ patch_lines (line_at base s) s k (λ i j. new (i * s + j)) x
unfolding patch_lines
packed_lines base s zero new x = sym (patch_none base (zero * s) new x (omega arith))
packed_lines base s (suc k) new x = packed_more base s k new x _ (sym (packed_lines base s k new x))

pub packed_is : {A : Type 0} (base s k stride : ℕ) (new : ℕ → A) (rows : ℕ → ℕ → A) (x : ℕ → A) → stride ≡ s → ((i j : ℕ) → i < k → j < s → new (i * s + j) ≡ rows i j)
    → patch base (k * s) new x ≡ patch_lines (line_at base stride) s k rows x
packed_is base s k stride new rows x e same = packed_lines base s k new x ∙ lines_ext (line_at base s) s _ rows x k same ∙ (λ u. patch_lines (line_at base (sym e u)) s k rows x)

pub packed_fits : {l : List ℤ} {base stride k s : ℕ} → Lying l base stride k s → stride ≡ s → base + k * s ≤ length l
packed_fits {l} {base} {stride} {k} {s} lie e =
    let a : k * s ≡ suc (k - 1) * s = ap (λ (t : ℕ). t * s) (omega (arith, lie.some)) in
    let b : (k - 1) * stride ≡ (k - 1) * s = ap (λ (t : ℕ). (k - 1) * t) e in
    omega (arith, lie.fits (k - 1) (omega (arith, lie.some)))

-- place p is value j of line i, i < k; or of none of these lines
pub record On (line : ℕ → ℕ) (m k p : ℕ) : Type 0 where
  pub i : ℕ
  pub j : ℕ
  pub among : i < k
  pub within : j < m
  pub is : p ≡ line i + j

abbrev pub Off : (ℕ → ℕ) → ℕ → ℕ → ℕ → Type 0
Off line m k p = (i j : ℕ) → i < k → j < m → line i + j ≡ p → ⊥

pub on_or_off : (line : ℕ → ℕ) (m k p : ℕ) → On line m k p ⊎ Off line m k p
on_or_off line m zero p = inr (λ i j h g e. omega arith)
on_or_off line m (suc k) p = go (place (line k) m p) (on_or_off line m k p)
  where
    later : Off line m k p → ((j : ℕ) → j < m → p ≡ line k + j → ⊥) → Off line m (suc k) p
    later off last i j h g e = by (dec_lt i k)
      where
        by : Dec (i < k) → ⊥
        by (yes l) = off i j l g e
        by (no f) =
            let q : i ≡ k = omega arith in
            last j g (sym e ∙ ap (λ (u : ℕ). line u + j) q)

    rest : ((j : ℕ) → j < m → p ≡ line k + j → ⊥) → On line m k p ⊎ Off line m k p → On line m (suc k) p ⊎ Off line m (suc k) p
    rest last (inl o) = inl (record { i = o.i; j = o.j; among = omega (arith, o.among); within = o.within; is = o.is })
    rest last (inr f) = inr (later f last)

    go : Place (line k) m p → On line m k p ⊎ Off line m k p → On line m (suc k) p ⊎ Off line m (suc k) p
    go (inside j h e) r = inl (record { i = k; j = j; among = omega arith; within = h; is = e })
    go (below h) r = rest (λ j g e. omega arith) r
    go (above h) r = rest (λ j g e. omega arith) r

module _ {A : Type 0} (line : ℕ → ℕ) (m : ℕ) (new : ℕ → ℕ → A) (x : ℕ → A) (apart : (i k : ℕ) → i < k → (p q : ℕ) → p < m → q < m → line i + p ≡ line k + q → ⊥) where
  pub lines_in : (k i j : ℕ) → i < k → j < m → patch_lines line m k new x (line i + j) ≡ new i j
  unfolding patch_lines
  lines_in zero i j h g = absurd (omega arith)
  lines_in (suc k) i j h g = go (λ l. lines_in k i j l g) (dec_lt i k)
    where
      go : (i < k → patch_lines line m k new x (line i + j) ≡ new i j) → Dec (i < k) → patch_lines line m (suc k) new x (line i + j) ≡ new i j
      go r (yes l) = patch_out (line k) m (new k) _ (line i + j) (λ q u e. apart i k l j q g u e) ∙ r l
      go r (no f) =
          let e : i ≡ k = omega arith in
          rw e (patch_in (line k) m (new k) _ j g)

  -- what has the patched lines' values is the patch
  pub lines_is : (n : ℕ) (y : ℕ → A) → ((i j : ℕ) → i < n → j < m → y (line i + j) ≡ new i j) → ((p : ℕ) → Off line m n p → y p ≡ x p) → y ≡ patch_lines line m n new x
  lines_is n y on off = fun_ext λ p. go p (on_or_off line m n p)
    where
      go : (p : ℕ) → On line m n p ⊎ Off line m n p → y p ≡ patch_lines line m n new x p
      go p (inl o) = ap y o.is ∙ on o.i o.j o.among o.within ∙ sym (lines_in n o.i o.j o.among o.within) ∙ ap (patch_lines line m n new x) (sym o.is)
      go p (inr f) = off p f ∙ sym (lines_out line m new x n p f)
