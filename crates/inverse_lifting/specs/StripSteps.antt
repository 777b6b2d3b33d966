-- One step of a strip in a plane: the places that it reads and writes, and what it leaves, written at once or by way of a line.
use Rattle.std.specs.Prelude.{◌≡◌, refl, true, false, List, [], ◌++◌, ℕ, ◌+◌, ◌*◌, ◌-◌, ◌<◌, ◌≤◌, min, ℤ, pos, length, take, drop}
use Rattle.std.proofs.Common.{sym, ap, ◌∙◌, arith, get_or-append-add, get_or-take, get_or-drop, length-take-le, length-drop, take-append-drop, append-nil}
use Rattle.std.proofs.Math.ListN.{get_or-append, drop_of_length-le}
use Rattle.std.proofs.Math.Decide.{dec_lt}
use Rattle.std.proofs.lemmas.Bool.{false≢true}
use Rattle.lines.specs.Lines.{lows, highs}
use Rattle.numbers.specs.Lists.{rest_whole}
use Rattle.slices.specs.Runs.{as_type}
use Rattle.slices.specs.Patch.{at, patch, patch_in, patch_below, patch_out}
use Rattle.inverse_lifting.specs.declared.ColumnsAt.{ColumnsAt}
use Rattle.inverse_lifting.specs.declared.ColumnsOf.{ColumnsOf}
use Rattle.inverse_lifting.specs.Steps.{stepped_as}
use Rattle.inverse_lifting.specs.Columns.{StripStep, StripStepped}
use Rattle.inverse_lifting.specs.Strips.{Placed, even_place, PlaneStep, PlaneStepped}

-- ---- the lines of step i, of n lines

pub high_line_lem : (n i : ℕ) → 2 ≤ n → lows n + min i (highs n - 1) < n
high_line_lem n i h = omega arith

even_line : (n i : ℕ) → 2 ≤ n → i < lows n + 2 → 2 * (i - 2) < n
even_line n i h g = omega arith

odd_line : (n i : ℕ) → i - 2 < highs n → 2 * (i - 2) + 1 < n
odd_line n i h = omega arith

-- ---- they lie in the work area

module _ {work line : ℕ} {a : ColumnsAt} {b : ColumnsOf} (s : Placed work line a b) (i : ℕ) where
  pub even_fits : i < lows b.lines + 2 → even_place a i + b.columns ≤ work
  even_fits h = s.in_work _ (even_line b.lines i s.two.least h)

  pub odd_fits : i - 2 < highs b.lines → even_place a i + a.stride + b.columns ≤ work
  odd_fits h = omega (arith, s.in_work (2 * (i - 2) + 1) (odd_line b.lines i h))

-- ---- the step can be taken, and goes to slices of so many values

module _ {high low : List ℤ} {held : List (List ℤ)} {work line : ℕ} {a : ColumnsAt} {b : ColumnsOf} {i : ℕ} (q : PlaneStep high low held work line a b i) (even odd : ℕ) (some_even : b.columns ≤ even) (some_odd : b.columns ≤ odd) where
  pub inner_step_lem : 2 ≤ i → i < highs b.lines → StripStep high low held even odd b i true
  inner_step_lem two h = record {
    sized = record { two = q.placed.two; few = q.placed.few; lowbits = q.placed.lowbits; highbits = q.placed.highbits; within = q.within; middle = λ e. (two, h) };
    some_high = q.some_high;
    some_low = q.some_low;
    room = q.room;
    some_even = some_even;
    some_odd = some_odd;
    y = q.y;
    ready = q.ready;
  }

  pub outer_step_lem : StripStep high low held even odd b i false
  outer_step_lem = record {
    sized = record { two = q.placed.two; few = q.placed.few; lowbits = q.placed.lowbits; highbits = q.placed.highbits; within = q.within; middle = λ e. absurd (false≢true e) };
    some_high = q.some_high;
    some_low = q.some_low;
    room = q.room;
    some_even = some_even;
    some_odd = some_odd;
    y = q.y;
    ready = q.ready;
  }

-- the list from place t on, as it is lent
abbrev pub part_from : ℕ → List ℤ → List ℤ
part_from t l = take (length l - t) (drop t l)

-- ---- what it leaves, written at once: the work area from place t on is cut into a line of s values and the rest

beyond : {j n : ℕ} → (j < n → ⊥) → n ≤ j
beyond no_more = omega (arith, no_more)

module _ (work even odd : List ℤ) (t s : ℕ) (fits : t ≤ length work) (long : length even ≡ s) where
  abbrev joined : List ℤ
  joined = take t work ++ (even ++ odd)

  front : length (take t work) ≡ t
  front = length-take-le t work fits

  after : (j : ℕ) → at joined (t + j) ≡ at (even ++ odd) j
  after j = ap (λ (k : ℕ). at joined (k + j)) (sym front) ∙ get_or-append-add (take t work) (even ++ odd) j (pos 0)

  joined_even : (j : ℕ) → j < s → at joined (t + j) ≡ at even j
  joined_even j h = after j ∙ get_or-append even odd (pos 0) j (omega (arith, long))

  joined_odd : (j : ℕ) → at joined (t + s + j) ≡ at odd j
  joined_odd j =
      let e : t + s + j ≡ t + (s + j) = omega arith in
      ap (at joined) e ∙ after (s + j) ∙ ap (λ (k : ℕ). at (even ++ odd) (k + j)) (sym long) ∙ get_or-append-add even odd j (pos 0)

  joined_before : (p : ℕ) → p < t → at joined p ≡ at work p
  joined_before p h = get_or-append (take t work) (even ++ odd) (pos 0) p (omega (arith, front)) ∙ get_or-take t work p (pos 0) h

  -- of both lines the first n places were written
  module _ (was_even was_odd : List ℤ) (n : ℕ) (evens : (p : ℕ) → n ≤ p → at even p ≡ at was_even p) (odds : (p : ℕ) → n ≤ p → at odd p ≡ at was_odd p) (is_even : was_even ≡ take s (drop t work)) (is_odd : was_odd ≡ drop s (drop t work)) where
    joined_other : (p : ℕ) → ((j : ℕ) → j < n → p ≡ t + j → ⊥) → ((j : ℕ) → j < n → p ≡ t + s + j → ⊥) → at joined p ≡ at work p
    joined_other p f g = go (dec_lt p t) (dec_lt p (t + s))
      where
        go : Dec (p < t) → Dec (p < t + s) → at joined p ≡ at work p
        go (yes h) u = joined_before p h
        go (no h) (yes k) =
            let j : ℕ = p - t in
            let e : p ≡ t + j = omega arith in
            ap (at joined) e ∙ joined_even j (omega arith) ∙ evens j (beyond (λ m. f j m e))
            ∙ ap (λ (l : List ℤ). at l j) is_even ∙ get_or-take s (drop t work) j (pos 0) (omega arith) ∙ get_or-drop t work j (pos 0) ∙ ap (at work) (sym e)
        go (no h) (no k) =
            let j : ℕ = p - (t + s) in
            let e : p ≡ t + s + j = omega arith in
            let e' : t + (s + j) ≡ p = omega arith in
            ap (at joined) e ∙ joined_odd j ∙ odds j (beyond (λ m. g j m e))
            ∙ ap (λ (l : List ℤ). at l j) is_odd ∙ get_or-drop s (drop t work) j (pos 0) ∙ get_or-drop t work (s + j) (pos 0) ∙ ap (at work) e'

module _ {high low : List ℤ} {held held' : List (List ℤ)} {work even even' odd odd' : List ℤ} {a : ColumnsAt} {b : ColumnsOf} {i : ℕ} (d : StripStepped high low held held' even even' odd odd' b i) where
  written : 2 ≤ i → i - 2 < highs b.lines → even_place a i ≤ length work → b.columns ≤ a.stride → length even' ≡ a.stride
      → even ≡ take a.stride (drop (even_place a i) work) → odd ≡ drop a.stride (drop (even_place a i) work)
      → PlaneStepped high low held held' work (take (even_place a i) work ++ (even' ++ odd')) a b i
  written two among fits narrow long is_even is_odd = record {
    stepped = λ j h. stepped_as (d.stepped j h) (record {
      g2 = refl;
      u2 = refl;
      p2 = refl;
      u1 = refl;
      even = λ g. joined_even work even' odd' (even_place a i) a.stride fits long j (omega arith);
      odd = λ g k. joined_odd work even' odd' (even_place a i) a.stride fits long j;
    });
    kept = λ p f g. joined_other work even' odd' (even_place a i) a.stride fits long even odd b.columns d.evens d.odds is_even is_odd p (f two) (g two among);
  }

-- as the part of the work area from there on is put back
pub inner_stepped : {high high' low : List ℤ} {held held' : List (List ℤ)} (lines' work : List ℤ) (a : ColumnsAt) {b : ColumnsOf} {i : ℕ} → high ≡ high'
    → 2 ≤ i → i - 2 < highs b.lines → even_place a i + a.stride ≤ length work → b.columns ≤ a.stride → length lines' ≡ length (part_from (even_place a i) work)
    → StripStepped high low held held' (take a.stride (part_from (even_place a i) work)) (take a.stride lines') (drop a.stride (part_from (even_place a i) work)) (drop a.stride lines') b i
    → PlaneStepped high' low held held' work (take (even_place a i) work ++ (lines' ++ drop (length work - even_place a i) (drop (even_place a i) work))) a b i
inner_stepped {low = low} {held = held} {held' = held'} lines' work a {b} {i} from two among fits narrow long d =
    let t = even_place a i in
    let s = a.stride in
    let rest = rest_whole t work in
    let none : drop (length work - t) (drop t work) ≡ [] = drop_of_length-le (drop t work) (omega (arith, length-drop t work)) in
    let is : take t work ++ (take s lines' ++ drop s lines') ≡ take t work ++ (lines' ++ drop (length work - t) (drop t work)) =
    ap (λ (l : List ℤ). take t work ++ l) (take-append-drop s lines' ∙ sym (ap (λ (l : List ℤ). lines' ++ l) none ∙ append-nil lines')) in
    let whole : length lines' ≡ length work - t = omega (arith, ap length rest, length-drop t work) in
    as_type (λ u. PlaneStepped (from u) low held held' work (is u) a b i)
    (written d two among (omega arith) narrow (length-take-le s lines' (omega arith)) (ap (take s) rest) (ap (drop s) rest))

-- ---- by way of a line

from_none : (l : List ℤ) (j : ℕ) → at l (0 + j) ≡ at l j
from_none l j = ap (at l) (omega arith)

module _ {high low : List ℤ} {held held' : List (List ℤ)} {even even' odd odd' : List ℤ} {a : ColumnsAt} {b : ColumnsOf} {i : ℕ} (d : StripStepped high low held held' even even' odd odd' b i) where
  copied : (work work' : List ℤ) → (2 ≤ i → (j : ℕ) → j < b.columns → at work' (even_place a i + j) ≡ at even' j)
      → (2 ≤ i → i - 2 < highs b.lines → (j : ℕ) → j < b.columns → at work' (even_place a i + a.stride + j) ≡ at odd' j)
      → ((p : ℕ) → (2 ≤ i → (j : ℕ) → j < b.columns → p ≡ even_place a i + j → ⊥)
      → (2 ≤ i → i - 2 < highs b.lines → (j : ℕ) → j < b.columns → p ≡ even_place a i + a.stride + j → ⊥) → at work' p ≡ at work p)
      → PlaneStepped high low held held' work work' a b i
  copied work work' evens odds kept = record {
    stepped = λ j h. stepped_as (d.stepped j h) (record { g2 = refl; u2 = refl; p2 = refl; u1 = refl; even = λ two. evens two j h; odd = λ two k. odds two k j h });
    kept = kept;
  }

  -- no line
  pub outer_none : (work : List ℤ) → i < 2 → PlaneStepped high low held held' work work a b i
  outer_none work h = copied work work (λ two. absurd (omega arith)) (λ two. absurd (omega arith)) (λ p f g. refl)

  -- one line
  pub outer_one : (work work' : List ℤ) → 2 ≤ i → highs b.lines ≤ i - 2 → at work' ≡ patch (even_place a i) b.columns (λ j. at even' (0 + j)) (at work) → PlaneStepped high low held held' work work' a b i
  outer_one work work' two past is = copied work work'
      (λ g j h. ap (λ (f : ℕ → ℤ). f (even_place a i + j)) is ∙ patch_in (even_place a i) b.columns _ (at work) j h ∙ from_none even' j)
      (λ g k. absurd (omega arith))
      (λ p f g. ap (λ (z : ℕ → ℤ). z p) is ∙ patch_out (even_place a i) b.columns _ (at work) p (f two))

  -- two lines
  pub outer_two : (work work' : List ℤ) {between : ℕ → ℤ} → b.columns ≤ a.stride → 2 ≤ i → i - 2 < highs b.lines
      → between ≡ patch (even_place a i) b.columns (λ j. at even' (0 + j)) (at work)
      → at work' ≡ patch (even_place a i + a.stride) b.columns (λ j. at odd' (0 + j)) between → PlaneStepped high low held held' work work' a b i
  outer_two work work' {between} narrow two among is then = copied work work'
      (λ g j h. ap (λ (f : ℕ → ℤ). f (even_place a i + j)) then ∙ patch_below (even_place a i + a.stride) b.columns _ between (even_place a i + j) (omega arith)
      ∙ ap (λ (f : ℕ → ℤ). f (even_place a i + j)) is ∙ patch_in (even_place a i) b.columns _ (at work) j h ∙ from_none even' j)
      (λ g k j h. ap (λ (f : ℕ → ℤ). f (even_place a i + a.stride + j)) then ∙ patch_in (even_place a i + a.stride) b.columns _ between j h ∙ from_none odd' j)
      (λ p f g. ap (λ (z : ℕ → ℤ). z p) then ∙ patch_out (even_place a i + a.stride) b.columns _ between p (g two among)
      ∙ ap (λ (z : ℕ → ℤ). z p) is ∙ patch_out (even_place a i) b.columns _ (at work) p (f two))
