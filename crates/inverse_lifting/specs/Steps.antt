-- A line inverted step by step, from its first places on (document 02, job 1). Step i takes low i and high i and inverts U2 at low i, P2 at
-- high i - 1, U1 at low i - 1 and P1 at high i - 2, which gives places 2 (i - 2) and 2 (i - 2) + 1. The ends are by cases (document 02,
-- job 2). Past the last low and the last high a step keeps what it has, and what it reads there (the last one again) is not used; so
-- lows n + 2 steps invert a line of n values.
use Rattle.std.specs.Prelude.{◌≡◌, refl, ℤ, nat_abs}
use Rattle.std.proofs.Math.Path.{sym, ap}
use Rattle.std.proofs.Common.{subst, ◌∙◌, SFits, to_z-of_z}
use Prim.Native.Nat.{ℕ, ◌+◌, ◌-◌, ◌<◌, ◌≤◌, min}
use native.Mathlib.Omega.{arith}
use Rattle.std.proofs.Math.Decide.{dec_lt}
use Rattle.exact.specs.Exact.{alpha, beta, gamma, delta}
use Rattle.lines.specs.Lines.{lows, highs, Liftable, low_after, high_before, high_after, on_highs, on_lows}
use Rattle.std.specs.Int.{w64}
use Rattle.slices.specs.Runs.{as_type}
use Rattle.slices.specs.SignedRuns.{back}
use Rattle.inverse_lifting.specs.declared.Pipeline.{Pipeline}
use Rattle.inverse_lifting.specs.Fixed.{inverse_step, at_g1, at_g2, at_u2, at_p2, at_u1, at_p1, SmallLong, limit}
use Rattle.inverse_lifting.specs.Cases.{inverse_step_end}
use Rattle.inverse_lifting.specs.Stages.{Inside, read, inside_read, step_read, end_read, inverse_step_end_lem}

-- ---- one stage in a step

-- Low k of a line of L lows and H highs: inverted by f between two highs, by e beside one (the first low, and the last low of an odd length).
-- Past the last one, what was kept stays.
pub record LowStepped (f : ℤ → ℤ → ℤ → ℤ) (e : ℤ → ℤ → ℤ) (k L H : ℕ) (kept own before after r : ℤ) : Type 0 where
  pub first : k ≡ 0 → k < L → r ≡ e own after
  pub inner : 0 < k → k < H → k < L → r ≡ f own before after
  pub last : 0 < k → H ≤ k → k < L → r ≡ e own before
  pub past : L ≤ k → r ≡ kept

-- what it asks
pub record LowAsks (k L H : ℕ) (own before after : ℤ) : Type 0 where
  pub first : k ≡ 0 → k < L → Inside own after after
  pub inner : 0 < k → k < H → k < L → Inside own before after
  pub last : 0 < k → H ≤ k → k < L → Inside own before before

-- High k: inverted by f between two lows, by e beside one (the last high of an even length).
pub record HighStepped (f : ℤ → ℤ → ℤ → ℤ) (e : ℤ → ℤ → ℤ) (k L H : ℕ) (kept own before after r : ℤ) : Type 0 where
  pub inner : k < H → k + 1 < L → r ≡ f own before after
  pub last : k < H → L ≤ k + 1 → r ≡ e own before
  pub past : H ≤ k → r ≡ kept

pub record HighAsks (k L H : ℕ) (own before after : ℤ) : Type 0 where
  pub inner : k < H → k + 1 < L → Inside own before after
  pub last : k < H → L ≤ k + 1 → Inside own before before

-- of numbers that were read back from their bits
pub low_asks_read : {k L H : ℕ} {own before after : ℤ} → LowAsks k L H own before after → LowAsks k L H (back w64 own) (back w64 before) (back w64 after)
low_asks_read a = record { first = λ z h. inside_read (a.first z h); inner = λ z g h. inside_read (a.inner z g h); last = λ z g h. inside_read (a.last z g h) }

pub high_asks_read : {k L H : ℕ} {own before after : ℤ} → HighAsks k L H own before after → HighAsks k L H (back w64 own) (back w64 before) (back w64 after)
high_asks_read a = record { inner = λ g h. inside_read (a.inner g h); last = λ g h. inside_read (a.last g h) }

module _ {k L H : ℕ} {kept own before after r : ℤ} {f g : ℤ → ℤ → ℤ → ℤ} {e d : ℤ → ℤ → ℤ} (step : f ≡ g) (end : e ≡ d) where
  pub low_read : LowAsks k L H own before after → (L ≤ k → nat_abs kept ≤ limit)
      → LowStepped f e k L H (back w64 kept) (back w64 own) (back w64 before) (back w64 after) r → LowStepped g d k L H kept own before after r
  low_read asks size t = record {
    first = λ z h. end_read end (asks.first z h) (t.first z h);
    inner = λ z i h. step_read step (asks.inner z i h) (t.inner z i h);
    last = λ z i h. end_read end (asks.last z i h) (t.last z i h);
    past = λ h. t.past h ∙ read kept (size h);
  }

  pub high_read : HighAsks k L H own before after → (H ≤ k → nat_abs kept ≤ limit)
      → HighStepped f e k L H (back w64 kept) (back w64 own) (back w64 before) (back w64 after) r → HighStepped g d k L H kept own before after r
  high_read asks size t = record {
    inner = λ i h. step_read step (asks.inner i h) (t.inner i h);
    last = λ i h. end_read end (asks.last i h) (t.last i h);
    past = λ h. t.past h ∙ read kept (size h);
  }

low_in_lem : (n k : ℕ) → k < lows n → min k (lows n - 1) ≡ k
low_in_lem n k h = omega arith

high_in_lem : (n k : ℕ) → k < highs n → min k (highs n - 1) ≡ k
high_in_lem n k h = omega arith

-- what it is of a line of n values, where e is f with the one neighbour on both sides
module _ {f : ℤ → ℤ → ℤ → ℤ} {e : ℤ → ℤ → ℤ} {k L H : ℕ} {kept own before after r : ℤ} (same : (own x : ℤ) → e own x ≡ f own x x) (n : ℕ) (low high : ℕ → ℤ) (lows_are : L ≡ lows n) (highs_are : H ≡ highs n) where
  low_stepped : LowStepped f e k L H kept own before after r → 1 ≤ highs n
      → own ≡ low (min k (lows n - 1)) → (1 ≤ k → before ≡ high (min (k - 1) (highs n - 1))) → after ≡ high (min k (highs n - 1))
      → (L ≤ k → kept ≡ on_lows f n low high (min k (lows n - 1)))
      → r ≡ on_lows f n low high (min k (lows n - 1))
  unfolding on_lows high_before high_after
  low_stepped d some own_is before_is after_is past = go (dec_lt k L) (dec_lt 0 k) (dec_lt k H)
    where
      -- between highs b and a
      step : k < L → {b a : ℤ} → b ≡ high (k - 1) → a ≡ high (min k (highs n - 1)) → f own b a ≡ on_lows f n low high (min k (lows n - 1))
      step h b-is a-is =
          let i : k ≡ min k (lows n - 1) = sym (low_in_lem n k (omega arith)) in
          λ u. f (own_is u) ((b-is ∙ ap (λ (j : ℕ). high (j - 1)) i) u) ((a-is ∙ ap (λ (j : ℕ). high (min j (highs n - 1))) i) u)

      go : Dec (k < L) → Dec (0 < k) → Dec (k < H) → r ≡ on_lows f n low high (min k (lows n - 1))
      go (no h) c b = d.past (omega arith) ∙ past (omega arith)
      go (yes h) (no z) b =
          let i : min k (highs n - 1) ≡ k - 1 = omega arith in
          d.first (omega arith) h ∙ same own after ∙ step h (after_is ∙ ap high i) after_is
      go (yes h) (yes z) (yes g) = d.inner z g h ∙ step h (before_is z ∙ ap high (high_in_lem n (k - 1) (omega arith))) after_is
      go (yes h) (yes z) (no g) =
          let i : min (k - 1) (highs n - 1) ≡ k - 1 = omega arith in
          let j : min (k - 1) (highs n - 1) ≡ min k (highs n - 1) = omega arith in
          d.last z (omega arith) h ∙ same own before ∙ step h (before_is z ∙ ap high i) (before_is z ∙ ap high j)

  high_stepped : HighStepped f e k L H kept own before after r
      → own ≡ high (min k (highs n - 1)) → before ≡ low (min k (lows n - 1)) → after ≡ low (min (k + 1) (lows n - 1))
      → (H ≤ k → kept ≡ on_highs f n low high (min k (highs n - 1)))
      → r ≡ on_highs f n low high (min k (highs n - 1))
  unfolding on_highs low_after
  high_stepped d own_is before_is after_is past = go (dec_lt k H) (dec_lt (k + 1) L)
    where
      -- between the low before it and low a
      step : k < H → {a : ℤ} → a ≡ low (min (k + 1) (lows n - 1)) → f own before a ≡ on_highs f n low high (min k (highs n - 1))
      step h a-is =
          let i : k ≡ min k (highs n - 1) = sym (high_in_lem n k (omega arith)) in
          λ u. f (own_is u) ((before_is ∙ ap low (low_in_lem n k (omega arith) ∙ i)) u) ((a-is ∙ ap (λ (j : ℕ). low (min (j + 1) (lows n - 1))) i) u)

      go : Dec (k < H) → Dec (k + 1 < L) → r ≡ on_highs f n low high (min k (highs n - 1))
      go (no h) c = d.past (omega arith) ∙ past (omega arith)
      go (yes h) (yes g) = d.inner h g ∙ step h after_is
      go (yes h) (no g) =
          let i : min k (lows n - 1) ≡ min (k + 1) (lows n - 1) = omega arith in
          d.last h (omega arith) ∙ same own before ∙ step h (before_is ∙ ap low i)

-- ---- a step

-- step i of a line of L lows and H highs, which takes the scaled values low and high: t was held before it, r is left
pub record Stepped (i L H : ℕ) (t : Pipeline) (low high : ℤ) (r : Pipeline) : Type 0 where
  pub g2 : r.g2 ≡ high
  pub u2 : LowStepped (inverse_step delta) (inverse_step_end delta) i L H t.u2 low t.g2 high r.u2
  pub p2 : 1 ≤ i → HighStepped (inverse_step gamma) (inverse_step_end gamma) (i - 1) L H t.p2 t.g2 t.u2 r.u2 r.p2
  pub u1 : 1 ≤ i → LowStepped (inverse_step beta) (inverse_step_end beta) (i - 1) L H t.u1 t.u2 t.p2 r.p2 r.u1
  pub even : 2 ≤ i → r.even ≡ t.u1
  -- past the last high nothing is said of it
  pub odd : 2 ≤ i → HighStepped (inverse_step alpha) (inverse_step_end alpha) (i - 2) L H r.odd t.p2 t.u1 r.u1 r.odd

-- s has the numbers of r, as far as they count in step i of a line of H highs
pub record SamePipeline (i H : ℕ) (s r : Pipeline) : Type 0 where
  pub g2 : s.g2 ≡ r.g2
  pub u2 : s.u2 ≡ r.u2
  pub p2 : s.p2 ≡ r.p2
  pub u1 : s.u1 ≡ r.u1
  pub even : 2 ≤ i → s.even ≡ r.even
  pub odd : 2 ≤ i → i - 2 < H → s.odd ≡ r.odd

pub stepped_as : {i L H : ℕ} {t r : Pipeline} {low high : ℤ} → Stepped i L H t low high r → {s : Pipeline} → SamePipeline i H s r → Stepped i L H t low high s
stepped_as {i} {L} {H} {t} {r} {low} {high} d {s} e = record {
  g2 = e.g2 ∙ d.g2;
  u2 = as_type (λ u. LowStepped (inverse_step delta) (inverse_step_end delta) i L H t.u2 low t.g2 high (sym e.u2 u)) d.u2;
  p2 = λ h. as_type (λ u. HighStepped (inverse_step gamma) (inverse_step_end gamma) (i - 1) L H t.p2 t.g2 t.u2 (sym e.u2 u) (sym e.p2 u)) (d.p2 h);
  u1 = λ h. as_type (λ u. LowStepped (inverse_step beta) (inverse_step_end beta) (i - 1) L H t.u1 t.u2 t.p2 (sym e.p2 u) (sym e.u1 u)) (d.u1 h);
  even = λ h. e.even h ∙ d.even h;
  odd = λ h. record {
    inner = λ g m. e.odd h g ∙ (d.odd h).inner g m ∙ ap (inverse_step alpha t.p2 t.u1) (sym e.u1);
    last = λ g m. e.odd h g ∙ (d.odd h).last g m;
    past = λ g. refl;
  };
}

-- n values, the lows first, whose lows have fl bits and whose highs have fh
pub record Line : Type 0 where
  pub fl : ℕ
  pub fh : ℕ
  pub n : ℕ
  pub y : ℕ → ℤ

-- it can be inverted: no value on the way is large
pub record Invertible (l : Line) : Type 0 where
  pub two : Liftable l.n
  pub small : SmallLong l.fl l.fh l.n l.y

module _ (l : Line) where
  -- place i, or the last one
  abbrev pub up_to_low : ℕ → ℕ
  up_to_low i = min i (lows l.n - 1)

  abbrev pub up_to_high : ℕ → ℕ
  up_to_high i = min i (highs l.n - 1)

  abbrev pub line_g1 : ℕ → ℤ
  line_g1 = at_g1 l.fl l.fh l.n l.y

  abbrev pub line_g2 : ℕ → ℤ
  line_g2 = at_g2 l.fl l.fh l.n l.y

  abbrev pub line_u2 : ℕ → ℤ
  line_u2 = at_u2 l.fl l.fh l.n l.y

  abbrev pub line_p2 : ℕ → ℤ
  line_p2 = at_p2 l.fl l.fh l.n l.y

  abbrev pub line_u1 : ℕ → ℤ
  line_u1 = at_u1 l.fl l.fh l.n l.y

  abbrev pub line_p1 : ℕ → ℤ
  line_p1 = at_p1 l.fl l.fh l.n l.y

  -- what is held after step i
  pub record PipelineHolds (i : ℕ) (t : Pipeline) : Type 0 where
    pub g2 : t.g2 ≡ line_g2 (up_to_high i)
    pub u2 : t.u2 ≡ line_u2 (up_to_low i)
    pub p2 : 1 ≤ i → t.p2 ≡ line_p2 (up_to_high (i - 1))
    pub u1 : 1 ≤ i → t.u1 ≡ line_u1 (up_to_low (i - 1))

  -- what it gives
  pub record Gives (i : ℕ) (t : Pipeline) : Type 0 where
    pub even : 2 ≤ i → t.even ≡ line_u1 (i - 2)
    pub odd : 2 ≤ i → i - 2 < highs l.n → t.odd ≡ line_p1 (i - 2)

-- step i of a line, ready to be taken
pub record Ready (l : Line) (i L H : ℕ) (t : Pipeline) (low high : ℤ) : Type 0 where
  pub invertible : Invertible l
  pub lows_are : L ≡ lows l.n
  pub highs_are : H ≡ highs l.n
  pub within : i < L + 2
  pub held : 1 ≤ i → PipelineHolds l (i - 1) t
  pub low_is : low ≡ line_g1 l (up_to_low l i)
  pub high_is : high ≡ line_g2 l (up_to_high l i)

-- step i of some line
pub record SomeReady (i L H : ℕ) (t : Pipeline) (low high : ℤ) : Type 0 where
  pub line : Line
  pub ready : Ready line i L H t low high

-- the same of numbers read back from their bits
module _ {i L H : ℕ} {t : Pipeline} {low high : ℤ} (fl : SFits w64 low) (fh : SFits w64 high) where
  pub ready_read : SomeReady i L H t low high → SomeReady i L H t (back w64 low) (back w64 high)
  ready_read q = as_type (λ u. SomeReady i L H t (sym (to_z-of_z fl) u) (sym (to_z-of_z fh) u)) q

  pub stepped_read : {r : Pipeline} → Stepped i L H t (back w64 low) (back w64 high) r → Stepped i L H t low high r
  stepped_read {r} d = as_type (λ u. Stepped i L H t (to_z-of_z fl u) (to_z-of_z fh u) r) d

last_again : {m k : ℕ} → m ≤ k → min (k - 1) (m - 1) ≡ min k (m - 1)
last_again h = omega arith

same_size : {x z : ℤ} → x ≡ z → nat_abs z ≤ limit → nat_abs x ≤ limit
same_size e h = subst (λ (v : ℤ). nat_abs v ≤ limit) (sym e) h

module _ {l : Line} {i L H : ℕ} {t : Pipeline} {low high : ℤ} (q : Ready l i L H t low high) where
  pub some_low : 1 ≤ L
  some_low = let e = q.lows_are in omega (arith, q.invertible.two)

  pub some_high : 1 ≤ H
  some_high = let e = q.highs_are in omega (arith, q.invertible.two)

  pub low_size : nat_abs low ≤ limit
  low_size = same_size q.low_is (q.invertible.small.g1 (up_to_low l i) (omega (arith, some_low, q.lows_are)))

  pub high_size : nat_abs high ≤ limit
  high_size = same_size q.high_is (q.invertible.small.g2 (up_to_high l i) (omega (arith, some_high, q.highs_are)))

  module _ (more : 1 ≤ i) where
    pub g2_size : nat_abs t.g2 ≤ limit
    g2_size = same_size (q.held more).g2 (q.invertible.small.g2 _ (omega (arith, some_high, q.highs_are)))

    pub u2_size : nat_abs t.u2 ≤ limit
    u2_size = same_size (q.held more).u2 (q.invertible.small.u2 _ (omega (arith, some_low, q.lows_are)))

  module _ (more : 2 ≤ i) where
    pub p2_size : nat_abs t.p2 ≤ limit
    p2_size = same_size ((q.held (omega arith)).p2 (omega arith)) (q.invertible.small.p2 _ (omega (arith, some_high, q.highs_are)))

    pub u1_size : nat_abs t.u1 ≤ limit
    u1_size = same_size ((q.held (omega arith)).u1 (omega arith)) (q.invertible.small.u1 _ (omega (arith, some_low, q.lows_are)))

  -- past the last one
  past_low : {k : ℕ} → L ≤ k → up_to_low l (k - 1) ≡ up_to_low l k
  past_low h = let e = q.lows_are in last_again (omega arith)

  past_high : {k : ℕ} → H ≤ k → up_to_high l (k - 1) ≡ up_to_high l k
  past_high h = let e = q.highs_are in last_again (omega arith)

  -- ---- U2 at low i

  pub asks_u2 : LowAsks i L H low t.g2 high
  asks_u2 = record {
    first = λ z h. record { middle = low_size; left = high_size; right = high_size };
    inner = λ z g h. record { middle = low_size; left = g2_size z; right = high_size };
    last = λ z g h. record { middle = low_size; left = g2_size z; right = g2_size z };
  }

  pub u2_is : (u2 : ℤ) → LowStepped (inverse_step delta) (inverse_step_end delta) i L H t.u2 low t.g2 high u2 → u2 ≡ line_u2 l (up_to_low l i)
  unfolding at_u2
  u2_is u2 d = low_stepped (inverse_step_end_lem delta) l.n (line_g1 l) (line_g2 l) q.lows_are q.highs_are d (omega (arith, some_high, q.highs_are))
      q.low_is (λ h. (q.held h).g2) q.high_is
      (λ h. (q.held (omega (arith, some_low))).u2 ∙ ap (line_u2 l) (past_low (omega arith)))

  -- ---- P2 at high i - 1, U1 at low i - 1

  module _ (more : 1 ≤ i) (u2 : ℤ) (done : u2 ≡ line_u2 l (up_to_low l i)) where
    pub asks_p2 : HighAsks (i - 1) L H t.g2 t.u2 u2
    asks_p2 = record {
      inner = λ g h. record { middle = g2_size more; left = u2_size more; right = same_size done (q.invertible.small.u2 _ (omega (arith, some_low, q.lows_are))) };
      last = λ g h. record { middle = g2_size more; left = u2_size more; right = u2_size more };
    }

    pub p2_is : (p2 : ℤ) → HighStepped (inverse_step gamma) (inverse_step_end gamma) (i - 1) L H t.p2 t.g2 t.u2 u2 p2 → p2 ≡ line_p2 l (up_to_high l (i - 1))
    unfolding at_p2
    p2_is p2 d = high_stepped (inverse_step_end_lem gamma) l.n (line_u2 l) (line_g2 l) q.lows_are q.highs_are d
        (q.held more).g2 (q.held more).u2 (done ∙ ap (λ (k : ℕ). line_u2 l (up_to_low l k)) (let e : i ≡ i - 1 + 1 = omega arith in e))
        (λ h. (q.held more).p2 (omega (arith, some_high)) ∙ ap (line_p2 l) (past_high (omega arith)))

  module _ (more : 1 ≤ i) (p2 : ℤ) (done : p2 ≡ line_p2 l (up_to_high l (i - 1))) where
    p2_new_size : nat_abs p2 ≤ limit
    p2_new_size = same_size done (q.invertible.small.p2 _ (omega (arith, some_high, q.highs_are)))

    pub asks_u1 : LowAsks (i - 1) L H t.u2 t.p2 p2
    asks_u1 = record {
      first = λ z h. record { middle = u2_size more; left = p2_new_size; right = p2_new_size };
      inner = λ z g h. record { middle = u2_size more; left = p2_size (omega arith); right = p2_new_size };
      last = λ z g h. record { middle = u2_size more; left = p2_size (omega arith); right = p2_size (omega arith) };
    }

    pub u1_is : (u1 : ℤ) → LowStepped (inverse_step beta) (inverse_step_end beta) (i - 1) L H t.u1 t.u2 t.p2 p2 u1 → u1 ≡ line_u1 l (up_to_low l (i - 1))
    unfolding at_u1
    u1_is u1 d = low_stepped (inverse_step_end_lem beta) l.n (line_u2 l) (line_p2 l) q.lows_are q.highs_are d (omega (arith, some_high, q.highs_are))
        (q.held more).u2 (λ h. (q.held more).p2 h) done
        (λ h. (q.held more).u1 (omega (arith, some_low)) ∙ ap (line_u1 l) (past_low (omega arith)))

  -- ---- P1 at high i - 2

  module _ (more : 2 ≤ i) (u1 : ℤ) (done : u1 ≡ line_u1 l (up_to_low l (i - 1))) where
    pub asks_p1 : HighAsks (i - 2) L H t.p2 t.u1 u1
    asks_p1 = record {
      inner = λ g h. record { middle = p2_size more; left = u1_size more; right = same_size done (q.invertible.small.u1 _ (omega (arith, some_low, q.lows_are))) };
      last = λ g h. record { middle = p2_size more; left = u1_size more; right = u1_size more };
    }

    before_two : i - 1 - 1 ≡ i - 2
    before_two = omega arith

    pub p1_is : (p1 : ℤ) → i - 2 < H → HighStepped (inverse_step alpha) (inverse_step_end alpha) (i - 2) L H p1 t.p2 t.u1 u1 p1 → p1 ≡ line_p1 l (i - 2)
    unfolding at_p1
    p1_is p1 h d = high_stepped (inverse_step_end_lem alpha) l.n (line_u1 l) (line_p2 l) q.lows_are q.highs_are d
        ((q.held (omega arith)).p2 (omega arith) ∙ ap (λ (k : ℕ). line_p2 l (up_to_high l k)) before_two)
        ((q.held (omega arith)).u1 (omega arith) ∙ ap (λ (k : ℕ). line_u1 l (up_to_low l k)) before_two)
        (done ∙ ap (λ (k : ℕ). line_u1 l (up_to_low l k)) (let e : i - 1 ≡ i - 2 + 1 = omega arith in e))
        (λ g. absurd (omega arith))
        ∙ ap (line_p1 l) (high_in_lem l.n (i - 2) (omega (arith, q.highs_are)))

  -- ---- after the step

  module _ {r : Pipeline} (d : Stepped i L H t low high r) where
    u2_done : r.u2 ≡ line_u2 l (up_to_low l i)
    u2_done = u2_is r.u2 d.u2

    p2_done : 1 ≤ i → r.p2 ≡ line_p2 l (up_to_high l (i - 1))
    p2_done h = p2_is h r.u2 u2_done r.p2 (d.p2 h)

    u1_done : 1 ≤ i → r.u1 ≡ line_u1 l (up_to_low l (i - 1))
    u1_done h = u1_is h r.p2 (p2_done h) r.u1 (d.u1 h)

    pub step_held : PipelineHolds l i r
    step_held = record { g2 = d.g2 ∙ q.high_is; u2 = u2_done; p2 = p2_done; u1 = u1_done }

    pub step_gives : Gives l i r
    step_gives = record {
      even = λ h. d.even h ∙ (q.held (omega arith)).u1 (omega arith) ∙ ap (line_u1 l) (low_in_lem l.n (i - 1 - 1) (omega (arith, q.within, q.lows_are)) ∙ (let e : i - 1 - 1 ≡ i - 2 = omega arith in e));
      odd = λ h g. p1_is h r.u1 (u1_done (omega arith)) r.odd (omega (arith, q.highs_are)) (d.odd h);
    }
