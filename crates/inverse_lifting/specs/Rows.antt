-- A row inverted step by step into a line: what the steps ask, and what they leave.
use Rattle.std.specs.Prelude.{◌≡◌, refl, Bool, true, false, List, ℕ, ◌+◌, ◌*◌, ◌-◌, ◌^◌, ◌<◌, ◌≤◌, min, max, pos, nat_abs, length, set}
use Rattle.std.proofs.Math.Path.{sym, ap}
use Rattle.std.proofs.Common.{subst, ◌∙◌, length-set, get_or-set_same, get_or-set_other}
use Rattle.std.proofs.lemmas.Bool.{false≢true}
use native.Mathlib.Omega.{arith}
use Rattle.std.proofs.Math.Decide.{ℕ_discrete}
use Rattle.std.proofs.Math.IntN.{ℤ}
use Rattle.std.specs.Int.{w64}
use Rattle.lines.specs.Lines.{lows, highs, Liftable}
use Rattle.lines.specs.LineLaws.{even_place_lem, odd_place, by_parity}
use Rattle.slices.specs.Patch.{at, patch, patch_in}
use Rattle.slices.specs.PatchLines.{line_at, lines_apart, lines_is}
use Rattle.slices.specs.SignedRuns.{back}
use Rattle.inverse_lifting.specs.declared.Pipeline.{Pipeline}
use Rattle.inverse_lifting.specs.Fixed.{node_bits, inverse_bits, at_g1, at_g2, fixed_inverse_long, fixed_inverse, limit}
use Rattle.inverse_lifting.specs.Planes.{Safe, rows_inverse}
use Rattle.inverse_lifting.specs.Single.{back_same, back_long}
use Rattle.inverse_lifting.specs.Stages.{scaled_by, limit_fits, read, size_read, at_inverse, at_zeta, scaled_inverse, scaled_zeta}
use Rattle.inverse_lifting.specs.Steps.{Line, PipelineHolds, Gives, Stepped, Ready, SomeReady, low_size, high_size, ready_read, stepped_read, line_g1, line_g2, line_u1, line_p1}

-- the w values from a place on; lows and highs have the bits of a node
abbrev pub row_line : (ℕ → ℤ) → ℕ → ℕ → Line
row_line x from w = record { fl = node_bits; fh = node_bits; n = w; y = λ c. x (from + c) }

-- a row can be inverted into a line of so many values
pub record RowReady (work : List ℤ) (line from w : ℕ) : Type 0 where
  pub held : from + w ≤ length work
  pub room : w + 6 ≤ line
  pub short : w < 2 ^ 31
  pub safe : Safe node_bits node_bits w (λ c. at work (from + c))

-- the steps before step i have left their values in z
abbrev pub Stand : Line → ℕ → (ℕ → ℤ) → Type 0
Stand l i z = (k : ℕ) → 2 ≤ k → k < i → (z (2 * k) ≡ line_u1 l (k - 2)) × (k - 2 < highs l.n → z (2 * k + 1) ≡ line_p1 l (k - 2))

-- steps start to end - 1 of a row of two values or more
pub record RowSteps (work line : List ℤ) (from w start end : ℕ) (t : Pipeline) (inner : Bool) : Type 0 where
  pub ready : RowReady work (length line) from w
  pub two : Liftable w
  pub order : start ≤ end
  pub within : end ≤ lows w + 2
  pub middle : inner ≡ true → (2 ≤ start) × ((i : ℕ) → i < end → start ≤ i → i < highs w)
  pub held : 1 ≤ start → PipelineHolds (row_line (at work) from w) (start - 1) t
  pub stand : Stand (row_line (at work) from w) start (at line)

pub record RowStepped (work line : List ℤ) (from w end : ℕ) (t : Pipeline) : Type 0 where
  pub held : 1 ≤ end → PipelineHolds (row_line (at work) from w) (end - 1) t
  pub stand : Stand (row_line (at work) from w) end (at line)

-- the row stands in the line from place 4 on, inverted
abbrev pub RowInverted : List ℤ → List ℤ → ℕ → ℕ → Type 0
RowInverted work line from w = (k : ℕ) → k < w → at line (4 + k) ≡ fixed_inverse node_bits node_bits w (λ c. at work (from + c)) k

-- ---- a step of a row

-- low k and high k, scaled
module _ (x : ℕ → ℤ) (from w k : ℕ) where
  low_scaled : scaled_by at_inverse inverse_bits (x (from + k)) ≡ line_g1 (row_line x from w) k
  unfolding at_g1
  low_scaled = ap (λ (f : ℤ → ℤ). f (x (from + k))) (scaled_inverse node_bits)

  high_scaled : scaled_by at_zeta inverse_bits (x (from + lows w + k)) ≡ line_g2 (row_line x from w) k
  unfolding at_g2
  high_scaled = ap (λ (p : ℕ). scaled_by at_zeta inverse_bits (x p)) (let e : from + lows w + k ≡ from + (lows w + k) = omega arith in e)
      ∙ ap (λ (f : ℤ → ℤ). f (x (from + (lows w + k)))) (scaled_zeta node_bits)

low_place : (i w : ℕ) → 2 ≤ w → min i (lows w - 1) < w
low_place i w h = omega arith

high_place_lem : (i w : ℕ) → 2 ≤ w → lows w + min i (highs w - 1) < w
high_place_lem i w h = omega arith

-- low i and high i of the row, or the last ones, are small
module _ {work : List ℤ} {line from w : ℕ} (q : RowReady work line from w) (two : Liftable w) (i a b : ℕ) (low_at_lem : a ≡ min i (lows w - 1)) (high_at_lem : b ≡ min i (highs w - 1)) where
  low_in_lem : nat_abs (at work (from + a)) ≤ limit
  low_in_lem = q.safe.enters a (omega (arith, low_place i w two.least))

  high_in_lem : nat_abs (at work (from + lows w + b)) ≤ limit
  high_in_lem = subst (λ (p : ℕ). nat_abs (at work p) ≤ limit) (let e : from + (lows w + b) ≡ from + lows w + b = omega arith in e)
      (q.safe.enters (lows w + b) (omega (arith, high_place_lem i w two.least)))

  -- read back from their bits too
  pub low_small : nat_abs (back w64 (at work (from + a))) ≤ limit
  low_small = size_read (at work (from + a)) low_in_lem

  pub high_small : nat_abs (back w64 (at work (from + lows w + b))) ≤ limit
  high_small = size_read (at work (from + lows w + b)) high_in_lem

  -- scaled, they make the step ready
  pub step_ready : (t : Pipeline) (low high : ℤ) → i < lows w + 2 → (1 ≤ i → PipelineHolds (row_line (at work) from w) (i - 1) t)
      → low ≡ scaled_by at_inverse inverse_bits (back w64 (at work (from + a))) → high ≡ scaled_by at_zeta inverse_bits (back w64 (at work (from + lows w + b)))
      → Ready (row_line (at work) from w) i (lows w) (highs w) t low high
  step_ready t low high h held e f = record {
    invertible = record { two = two; small = q.safe.small.long two };
    lows_are = refl;
    highs_are = refl;
    within = h;
    held = held;
    low_is = e ∙ ap (scaled_by at_inverse inverse_bits) (read (at work (from + a)) low_in_lem) ∙ low_scaled (at work) from w a ∙ ap (line_g1 (row_line (at work) from w)) low_at_lem;
    high_is = f ∙ ap (scaled_by at_zeta inverse_bits) (read (at work (from + lows w + b)) high_in_lem) ∙ high_scaled (at work) from w b ∙ ap (line_g2 (row_line (at work) from w)) high_at_lem;
  }

-- the step, of numbers that are read back from their bits
module _ {l : Line} {i L H : ℕ} {t : Pipeline} {low high : ℤ} (q : Ready l i L H t low high) where
  pub step_asked : SomeReady i L H t (back w64 low) (back w64 high)
  step_asked = ready_read (limit_fits (low_size q)) (limit_fits (high_size q)) (record { line = l; ready = q })

  pub step_taken : {r : Pipeline} → Stepped i L H t (back w64 low) (back w64 high) r → Stepped i L H t low high r
  step_taken d = stepped_read (limit_fits (low_size q)) (limit_fits (high_size q)) d

-- two values stored, one after the other
module _ (z : List ℤ) (p : ℕ) (e o : ℤ) where
  abbrev stored : ℕ → ℤ
  stored = at (set (set z p e) (p + 1) o)

  stored_even : p + 1 < length z → stored p ≡ e
  stored_even h = get_or-set_other (set z p e) (p + 1) p o (pos 0) (omega arith) ∙ get_or-set_same z p e (pos 0) (omega arith)

  stored_odd : p + 1 < length z → stored (p + 1) ≡ o
  stored_odd h = get_or-set_same (set z p e) (p + 1) o (pos 0) (simp length-set h)

  stored_other : (k : ℕ) → (k ≡ p → ⊥) → (k ≡ p + 1 → ⊥) → stored k ≡ at z k
  stored_other k f g = get_or-set_other (set z p e) (p + 1) k o (pos 0) g ∙ get_or-set_other z p k e (pos 0) f

pub held_at : {l : Line} {i k : ℕ} {t : Pipeline} → PipelineHolds l i t → i ≡ k → PipelineHolds l k t
held_at {l} {t} h e = subst (λ (j : ℕ). PipelineHolds l j t) e h

-- step i leaves its two values
pub stand_next : (l : Line) (i : ℕ) (z : List ℤ) (t : Pipeline) (e o : ℤ) → Stand l i (at z) → Gives l i t → 2 * i + 1 < length z → e ≡ t.even → o ≡ t.odd
    → Stand l (i + 1) (stored z (2 * i) e o)
stand_next l i z t e o s g fits even odd k two h = go (ℕ_discrete k i)
  where
    go : Dec (k ≡ i) → (stored z (2 * i) e o (2 * k) ≡ line_u1 l (k - 2)) × (k - 2 < highs l.n → stored z (2 * i) e o (2 * k + 1) ≡ line_p1 l (k - 2))
    go (yes q) = rw q (stored_even z (2 * i) e o fits ∙ even ∙ g.even (omega arith), λ p. stored_odd z (2 * i) e o fits ∙ odd ∙ g.odd (omega arith) p)
    go (no f) = let was = s k two (omega arith) in (
      stored_other z (2 * i) e o (2 * k) (omega arith) (omega arith) ∙ was.0,
      λ p. stored_other z (2 * i) e o (2 * k + 1) (omega arith) (omega arith) ∙ was.1 p,
    )

-- ---- the whole row: its first two steps, those away from its ends, and the others

ready_with : {work : List ℤ} {n m from w : ℕ} → RowReady work n from w → m ≡ n → RowReady work m from w
ready_with {work} {from} {w} q e = subst (λ (k : ℕ). RowReady work k from w) (sym e) q

between : (w end i : ℕ) → end ≡ max 2 (highs w) → i < end → 2 ≤ i → i < highs w
between w end i e h g = omega arith

end_within : (w end : ℕ) → end ≡ max 2 (highs w) → (2 ≤ end) × (end ≤ lows w + 2)
end_within w end e = (omega arith, omega arith)

module _ {work : List ℤ} {n from w : ℕ} (q : RowReady work n from w) (two : Liftable w) (line : List ℤ) (as_long : length line ≡ n) (t : Pipeline) where
  pub steps_first : RowSteps work line from w 0 2 t false
  steps_first = record {
    ready = ready_with q as_long;
    two = two;
    order = omega arith;
    within = omega arith;
    middle = λ e. absurd (false≢true e);
    held = λ h. absurd (omega arith);
    stand = λ k two h. absurd (omega arith);
  }

  module _ (end : ℕ) (e : end ≡ max 2 (highs w)) where
    pub steps_inner : RowStepped work line from w 2 t → RowSteps work line from w 2 end t true
    steps_inner d = record {
      ready = ready_with q as_long;
      two = two;
      order = (end_within w end e).0;
      within = (end_within w end e).1;
      middle = λ _. (omega arith, λ i h g. between w end i e h g);
      held = λ h. d.held h;
      stand = d.stand;
    }

    pub steps_last : RowStepped work line from w end t → RowSteps work line from w end (lows w + 2) t false
    steps_last d = record {
      ready = ready_with q as_long;
      two = two;
      order = (end_within w end e).1;
      within = omega arith;
      middle = λ e. absurd (false≢true e);
      held = λ h. d.held h;
      stand = d.stand;
    }

module _ {work line : List ℤ} {from w : ℕ} {t : Pipeline} (d : RowStepped work line from w (lows w + 2) t) where
  long_inverted : (k : ℕ) → k < w → at line (4 + k) ≡ fixed_inverse_long node_bits node_bits w (λ c. at work (from + c)) k
  unfolding fixed_inverse_long
  long_inverted =
      let l = row_line (at work) from w in
      by_parity (λ k. at line (4 + k) ≡ fixed_inverse_long node_bits node_bits w (λ c. at work (from + c)) k) w
      (λ i h. ap (at line) (let e : 4 + 2 * i ≡ 2 * (i + 2) = omega arith in e) ∙ (d.stand (i + 2) (omega arith) (omega arith)).0
      ∙ ap (line_u1 l) (let e : i + 2 - 2 ≡ i = omega arith in e) ∙ sym (even_place_lem (line_u1 l) (line_p1 l) i))
      (λ i h. ap (at line) (let e : 4 + (2 * i + 1) ≡ 2 * (i + 2) + 1 = omega arith in e) ∙ (d.stand (i + 2) (omega arith) (omega arith)).1 (omega arith)
      ∙ ap (line_p1 l) (let e : i + 2 - 2 ≡ i = omega arith in e) ∙ sym (odd_place (line_u1 l) (line_p1 l) i))

  pub row_inverted : Liftable w → RowInverted work line from w
  row_inverted two k h = long_inverted k h ∙ sym (back_long node_bits node_bits w (λ c. at work (from + c)) k two)

-- ---- rows of a single value

-- the row is copied
pub row_single : (work : List ℤ) (from w : ℕ) (x y : ℕ → ℤ) → w < 2 → y ≡ patch 4 w (λ j. at work (from + j)) x → (k : ℕ) → k < w → y (4 + k) ≡ fixed_inverse node_bits node_bits w (λ c. at work (from + c)) k
row_single work from w x y one is k h = ap (λ (f : ℕ → ℤ). f (4 + k)) is ∙ patch_in 4 w (λ j. at work (from + j)) x k h ∙ sym (back_same node_bits w (λ c. at work (from + c)) k one)

-- rows stay as they are
pub rows_single : (stride w h : ℕ) (x : ℕ → ℤ) → w < 2 → w ≤ stride → x ≡ rows_inverse stride w h x
rows_single stride w h x one narrow = lines_is (line_at 0 stride) w _ x (λ i k l. lines_apart 0 stride w i k narrow (omega arith)) h x
    (λ i j p q. sym (back_same node_bits w _ j one))
    (λ p off. refl)
