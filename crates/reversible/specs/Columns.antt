-- The columns of a picture worked line by line into a plane: line i of the highs, then line i of the lows.
use Prim.Native.Nat.{ℕ, suc, ◌+◌, ◌*◌, ◌-◌, ◌<◌, ◌≤◌}
use Rattle.std.specs.Prelude.{List, ◌≡◌, refl, ℤ, pos, length, set}
use Rattle.std.proofs.Math.Path.{sym, ap}
use Rattle.std.proofs.Common.{◌∙◌, mul-le-mul_right, mul_comm, get_or-set_same, get_or-set_other}
use native.Mathlib.Omega.{arith}
use Rattle.std.proofs.Math.Decide.{ℕ_discrete}
use Rattle.lines.specs.Lines.{lows, highs, Liftable, low_after, high_before, high_after, on_highs, on_lows}
use Rattle.lines.specs.LineLaws.{some_highs_lem, first_low_lem, first_high, by_half}
use Rattle.lines.specs.Neighbours.{low_after_next, low_after_last, high_before_first, high_before_next, high_after_next, high_after_last}
use Rattle.lifting.specs.declared.Step.TheVariants.{Predict, Update}
use Rattle.lifting.specs.Steps.{applied}
use Rattle.lifting.specs.Passes.{evens, odds}
use Rattle.lifting.specs.Kernels.{worked, SafeKernel, columns_worked}
use Rattle.slices.specs.Patch.{at, patch, patch_in, patch_below, patch_above}
use Rattle.slices.specs.Pixels.{pixel_line, loaded}
use Rattle.lifting.specs.PixelLaws.{pixel_columns_worked}
use Rattle.reversible.specs.Sizes.{forward_kernel}

-- column c of the samples of a picture of w columns
abbrev pub sample_column : List ℕ → ℕ → ℕ → ℕ → ℕ → ℤ
sample_column pixels middle w c r = pixel_line pixels middle (r * w) c

module _ (pixels : List ℕ) (middle w h c : ℕ) where
  -- high i and low i of column c of h samples
  abbrev pub high_at : ℕ → ℤ
  high_at = on_highs (applied Predict) h (evens (sample_column pixels middle w c)) (odds (sample_column pixels middle w c))

  abbrev pub low_at : ℕ → ℤ
  low_at = on_lows (applied Update) h (evens (sample_column pixels middle w c)) high_at

-- a picture whose columns can be worked, and a plane for them
pub record PixelRoom (pixels : List ℕ) (middle plane w h : ℕ) : Type 0 where
  pub some : 1 ≤ w
  pub tall : Liftable h
  pub held : w * h ≤ length pixels
  pub room : w * h ≤ plane
  pub safe : (c : ℕ) → c < w → SafeKernel forward_kernel h (sample_column pixels middle w c)

-- the first n lines of highs, where there are so many, stand in the plane
pub record HighsTo (n : ℕ) (pixels : List ℕ) (middle w h : ℕ) (y : ℕ → ℤ) : Type 0 where
  pub stand : (k c : ℕ) → k < n → k < highs h → c < w → y ((lows h + k) * w + c) ≡ high_at pixels middle w h c k

-- a line of the picture
pub line_in_lem : (w h r : ℕ) → r < h → r * w + w ≤ w * h
line_in_lem w h r i = omega (arith, mul-le-mul_right {m = suc r} {n = h} w i, mul_comm w h)

-- there are no more lines than pixels
pub lines_few : (w h : ℕ) → 1 ≤ w → h ≤ w * h
lines_few w h some = omega (arith, mul-le-mul_right {m = 1} {n = w} h some)

-- what a loop reads past the places that it has written
pub read_past : (to j q : ℕ) (new x y : ℕ → ℤ) → y ≡ patch to j new x → to + j ≤ q → y q ≡ x q
read_past to j q new x y is far = ap (λ (f : ℕ → ℤ). f q) is ∙ patch_above to j new x q far

-- one place more holds what it is to hold
pub place_more : (l : List ℤ) (i : ℕ) (v : ℤ) (new : ℕ → ℤ) → i < length l → ((k : ℕ) → k < i → at l k ≡ new k) → v ≡ new i → (k : ℕ) → k < i + 1 → at (set l i v) k ≡ new k
place_more l i v new fits below here k h = go (ℕ_discrete k i)
  where
    go : Dec (k ≡ i) → at (set l i v) k ≡ new k
    go (yes e) = rw e (get_or-set_same l i v (pos 0) fits ∙ here)
    go (no f) = get_or-set_other l i k v (pos 0) f ∙ below k (omega arith)

-- ---- what a line's step takes, in the middle and at the ends; for values and for what keeps them inside their types

module _ {ℓ} {B : Type ℓ} (f : ℤ → ℤ → ℤ → B) (pixels : List ℕ) (middle w h c : ℕ) where
  abbrev px : ℕ → ℤ
  px from = pixel_line pixels middle from c

  abbrev column : ℕ → ℤ
  column = sample_column pixels middle w c

  module _ (i : ℕ) where
    abbrev own : ℕ
    own = (2 * i + 1) * w

    before_own : own - w ≡ 2 * i * w
    before_own = omega arith

    pub high_middle : i + 1 < lows h → f (px own) (px (own - w)) (px (own + w)) ≡ on_highs f h (evens column) (odds column) i
    unfolding on_highs
    high_middle in-lows =
        let after : own + w ≡ 2 * low_after h i * w = (let e : own + w ≡ 2 * (i + 1) * w = omega arith in e) ∙ ap (λ (t : ℕ). 2 * t * w) (sym (low_after_next h i in-lows)) in
        λ u. f (px own) (px (before_own u)) (px (after u))

    pub high_last : i < highs h → lows h ≤ i + 1 → f (px own) (px (own - w)) (px (own - w)) ≡ on_highs f h (evens column) (odds column) i
    unfolding on_highs
    high_last in-highs last =
        let after : own - w ≡ 2 * low_after h i * w = before_own ∙ ap (λ (t : ℕ). 2 * t * w) (let e : i ≡ lows h - 1 = omega arith in e ∙ sym (low_after_last h i in-highs last)) in
        λ u. f (px own) (px (before_own u)) (px (after u))

    -- the lines of highs beside low i, where they stand at p
    module _ (y : ℕ → ℤ) (stand : HighsTo (i + 1) pixels middle w h y) (in_w_lem : c < w) where
      beside : (p k j : ℕ) → p ≡ (lows h + k) * w → k ≤ i → k < highs h → j ≡ k → y (p + c) ≡ high_at pixels middle w h c j
      beside p k j e m in-highs same = ap (λ (t : ℕ). y (t + c)) e ∙ stand.stand k c (omega arith) in-highs in_w_lem ∙ ap (high_at pixels middle w h c) (sym same)

      pub low_first : Liftable h → i ≡ 0 → f (px (2 * i * w)) (y (lows h * w + c)) (y (lows h * w + c)) ≡ on_lows f h (evens column) (high_at pixels middle w h c) i
      unfolding on_lows
      low_first tall e =
          let here : lows h * w ≡ (lows h + 0) * w = omega arith in
          let x = beside (lows h * w) 0 (high_before i) here (omega arith) (some_highs_lem h tall) (ap high_before e ∙ high_before_first) in
          let z = beside (lows h * w) 0 (high_after h i) here (omega arith) (some_highs_lem h tall) (high_after_next h i (omega (arith, some_highs_lem h tall)) ∙ e) in
          λ u. f (px (2 * i * w)) (x u) (z u)

      pub low_middle : 0 < i → i < highs h → (p : ℕ) → p ≡ (lows h + i - 1) * w → f (px (2 * i * w)) (y (p + c)) (y (p + w + c)) ≡ on_lows f h (evens column) (high_at pixels middle w h c) i
      unfolding on_lows
      low_middle some in-highs p e =
          let before : p ≡ (lows h + (i - 1)) * w = e ∙ ap (λ (t : ℕ). t * w) (omega arith) in
          let back : suc (lows h + (i - 1)) * w ≡ (lows h + i) * w = ap (λ (t : ℕ). t * w) (omega arith) in
          let x = beside p (i - 1) (high_before i) before (omega arith) (omega arith) (high_before_next i some) in
          let z = beside (p + w) i (high_after h i) (omega arith) (omega arith) in-highs (high_after_next h i in-highs) in
          λ u. f (px (2 * i * w)) (x u) (z u)

      pub low_last : 0 < i → i < lows h → highs h ≤ i → (p : ℕ) → p ≡ (lows h + i - 1) * w → f (px (2 * i * w)) (y (p + c)) (y (p + c)) ≡ on_lows f h (evens column) (high_at pixels middle w h c) i
      unfolding on_lows
      low_last some in-lows last p e =
          let before : p ≡ (lows h + (i - 1)) * w = e ∙ ap (λ (t : ℕ). t * w) (omega arith) in
          let x = beside p (i - 1) (high_before i) before (omega arith) (omega arith) (high_before_next i some) in
          let z = beside p (i - 1) (high_after h i) before (omega arith) (omega arith) (high_after_last h i in-lows last ∙ omega arith) in
          λ u. f (px (2 * i * w)) (x u) (z u)

-- ---- the lines one after another

-- n lines of highs and n of lows are done, and nothing past the plane was touched
pub record LinesDone (n m : ℕ) (pixels : List ℕ) (middle w h : ℕ) (x y : ℕ → ℤ) : Type 0 where
  pub highs_stand : HighsTo n pixels middle w h y
  pub lows_stand : (k c : ℕ) → k < m → c < w → y (k * w + c) ≡ low_at pixels middle w h c k
  pub beyond : (q : ℕ) → w * h ≤ q → y q ≡ x q

module _ (pixels : List ℕ) (middle w h : ℕ) where
  pub lines_none : (x : ℕ → ℤ) → LinesDone 0 0 pixels middle w h x x
  lines_none x = record { highs_stand = record { stand = λ k c i. absurd (omega arith) }; lows_stand = λ k c i. absurd (omega arith); beyond = λ q i. refl }

  -- a line before another
  earlier : (k n c : ℕ) → k < n → c < w → k * w + c < n * w
  earlier k n c i j = omega (arith, mul-le-mul_right {m = suc k} {n = n} w i)

  module _ (n m : ℕ) (x y : ℕ → ℤ) (done : LinesDone n m pixels middle w h x y) where
    -- one line of highs more
    pub high_more : (z : ℕ → ℤ) → n < highs h → m ≤ lows h → z ≡ patch ((lows h + n) * w) w (λ c. high_at pixels middle w h c n) y → LinesDone (n + 1) m pixels middle w h x z
    high_more z in-highs in-lows e = record {
      highs_stand = record { stand = λ k c i in-k j. new k c i in-k j (ℕ_discrete k n) };
      lows_stand = λ k c i j. at_z (k * w + c) ∙ patch_below _ _ _ y _ (earlier k (lows h + n) c (omega arith) j) ∙ done.lows_stand k c i j;
      beyond = λ q i. at_z q ∙ patch_above _ _ _ y q (omega (arith, line_in_lem w h (lows h + n) (omega arith))) ∙ done.beyond q i;
    }
      where
        at_z : (q : ℕ) → z q ≡ patch ((lows h + n) * w) w (λ c. high_at pixels middle w h c n) y q
        at_z q = ap (λ (f : ℕ → ℤ). f q) e

        new : (k c : ℕ) → k < n + 1 → k < highs h → c < w → Dec (k ≡ n) → z ((lows h + k) * w + c) ≡ high_at pixels middle w h c k
        new k c i in-k j (yes s) = ap (λ (t : ℕ). z ((lows h + t) * w + c)) s ∙ at_z _ ∙ patch_in _ _ _ y c j ∙ ap (high_at pixels middle w h c) (sym s)
        new k c i in-k j (no f) = at_z _ ∙ patch_below _ _ _ y _ (earlier (lows h + k) (lows h + n) c (omega arith) j) ∙ done.highs_stand.stand k c (omega arith) in-k j

    -- one line of lows more
    pub low_more : (z : ℕ → ℤ) → m < lows h → z ≡ patch (m * w) w (λ c. low_at pixels middle w h c m) y → LinesDone n (m + 1) pixels middle w h x z
    low_more z in-lows e = record {
      highs_stand = record { stand = λ k c i in-k j. at_z _ ∙ patch_above _ _ _ y _ (omega (arith, mul-le-mul_right {m = suc m} {n = lows h + k} w (omega arith))) ∙ done.highs_stand.stand k c i in-k j };
      lows_stand = λ k c i j. new k c i j (ℕ_discrete k m);
      beyond = λ q i. at_z q ∙ patch_above _ _ _ y q (omega (arith, line_in_lem w h m (omega arith))) ∙ done.beyond q i;
    }
      where
        at_z : (q : ℕ) → z q ≡ patch (m * w) w (λ c. low_at pixels middle w h c m) y q
        at_z q = ap (λ (f : ℕ → ℤ). f q) e

        new : (k c : ℕ) → k < m + 1 → c < w → Dec (k ≡ m) → z (k * w + c) ≡ low_at pixels middle w h c k
        new k c i j (yes s) = ap (λ (t : ℕ). z (t * w + c)) s ∙ at_z _ ∙ patch_in _ _ _ y c j ∙ ap (low_at pixels middle w h c) (sym s)
        new k c i j (no f) = at_z _ ∙ patch_below _ _ _ y _ (earlier k m c (omega arith) j) ∙ done.lows_stand k c (omega arith) j

    -- all lines are done
    pub columns_done : {plane : ℕ} → PixelRoom pixels middle plane w h → n ≡ highs h → m ≡ lows h → y ≡ columns_worked forward_kernel w 0 w h (loaded pixels middle w h x)
    unfolding worked
    columns_done p en em = pixel_columns_worked forward_kernel pixels middle w h x p.some p.tall y
        (λ r c i j. by_half (λ r. y (r * w + c) ≡ worked forward_kernel h (sample_column pixels middle w c) r) h
        (λ k a. done.lows_stand k c (omega arith) j ∙ sym (first_low_lem h (low_at pixels middle w h c) (high_at pixels middle w h c) k a))
        (λ k a. done.highs_stand.stand k c (omega arith) a j ∙ sym (first_high h (low_at pixels middle w h c) (high_at pixels middle w h c) k)) r i)
        done.beyond

-- the same picture, and a plane as long
pub room_as : {pixels : List ℕ} {middle plane w h : ℕ} → PixelRoom pixels middle plane w h → (n : ℕ) → n ≡ plane → PixelRoom pixels middle n w h
room_as p n e = record { some = p.some; tall = p.tall; held = p.held; room = omega (arith, p.room); safe = p.safe }

-- all highs stand where as many do as there are
pub highs_all : {n k : ℕ} {pixels : List ℕ} {middle w h : ℕ} {y : ℕ → ℤ} → HighsTo n pixels middle w h y → highs h ≤ n → HighsTo k pixels middle w h y
highs_all s all = record { stand = λ k c i in-k j. s.stand k c (omega arith) in-k j }

-- so many lines of lows, written otherwise
pub lows_to : {n m k : ℕ} {pixels : List ℕ} {middle w h : ℕ} {x y : ℕ → ℤ} → LinesDone n m pixels middle w h x y → m ≡ k → LinesDone n k pixels middle w h x y
lows_to done e = record { highs_stand = done.highs_stand; lows_stand = λ k c i j. done.lows_stand k c (omega arith) j; beyond = done.beyond }
