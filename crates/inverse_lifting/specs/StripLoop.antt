-- A strip inverted: step after step, each after its low came next.
use Rattle.std.specs.Prelude.{◌≡◌, refl, List, ℕ, ◌+◌, ◌*◌, ◌-◌, ◌<◌, ◌≤◌, min, ℤ, pos, drop}
use Rattle.std.proofs.Math.Path.{sym}
use Rattle.std.proofs.Common.{ap, subst, ◌∙◌, arith, get_or-drop}
use Rattle.std.proofs.Math.Decide.{dec_lt}
use Rattle.lines.specs.Lines.{lows, highs, Liftable}
use Rattle.lines.specs.LineLaws.{even_place_lem, odd_place, by_parity}
use Rattle.slices.specs.Patch.{at}
use Rattle.slices.specs.PatchLines.{line_at, lines_is}
use Rattle.slices.specs.PartLaws.{same_line}
use Rattle.inverse_lifting.specs.declared.ColumnsAt.{ColumnsAt}
use Rattle.inverse_lifting.specs.declared.ColumnsOf.{ColumnsOf}
use Rattle.inverse_lifting.specs.Fixed.{fixed_inverse_long, fixed_inverse}
use Rattle.inverse_lifting.specs.Single.{back_long}
use Rattle.inverse_lifting.specs.Steps.{PipelineHolds, Gives, step_held, step_gives, line_u1, line_p1}
use Rattle.inverse_lifting.specs.Columns.{pipeline_in, pipeline_out, held_of, column_line, ColumnReady, column_line_lem}
use Rattle.inverse_lifting.specs.Strips.{source, inverted, Placed, Fed, high_place, even_place, PlaneStepped, StripReady, source_low, source_high, pick}

-- the steps before step i are taken
pub record StripDone (plane work work' low : List ℤ) (held : List (List ℤ)) (a : ColumnsAt) (b : ColumnsOf) (i : ℕ) : Type 0 where
  pub holds : (j : ℕ) → j < b.columns → 1 ≤ i → PipelineHolds (column_line b (source a b.lines (at plane) (at work) j)) (i - 1) (pipeline_in (held_of held j))
  pub lows_are : (j : ℕ) → j < b.columns → 1 ≤ i → at low j ≡ source a b.lines (at plane) (at work) j (min (i - 1) (lows b.lines - 1))
  pub even : (k j : ℕ) → k < i - 2 → j < b.columns → at work' (line_at a.from a.stride (2 * k) + j) ≡ line_u1 (column_line b (source a b.lines (at plane) (at work) j)) k
  pub odd : (k j : ℕ) → k < i - 2 → k < highs b.lines → j < b.columns → at work' (line_at a.from a.stride (2 * k + 1) + j) ≡ line_p1 (column_line b (source a b.lines (at plane) (at work) j)) k
  pub kept : (p : ℕ) → ((k j : ℕ) → k < i - 2 → j < b.columns → p ≡ line_at a.from a.stride (2 * k) + j → ⊥)
      → ((k j : ℕ) → k < i - 2 → k < highs b.lines → j < b.columns → p ≡ line_at a.from a.stride (2 * k + 1) + j → ⊥) → at work' p ≡ at work p

pub none_taken : (plane work low : List ℤ) (held : List (List ℤ)) (a : ColumnsAt) (b : ColumnsOf) → StripDone plane work work low held a b 0
none_taken plane work low held a b = record {
  holds = λ j h g. absurd (omega arith);
  lows_are = λ j h g. absurd (omega arith);
  even = λ k j h g. absurd (omega arith);
  odd = λ k j h g f. absurd (omega arith);
  kept = λ p f g. refl;
}

last_low : (i L : ℕ) → L ≤ i → 1 ≤ L → min (i - 1) (L - 1) ≡ min i (L - 1)
last_low i L h g = omega arith

high_among : (i n : ℕ) → 2 ≤ n → lows n + min i (highs n - 1) < n
high_among i n h = omega arith

-- different lines do not meet
module _ (a : ColumnsAt) (w : ℕ) (narrow : w ≤ a.stride) where
  other_line : (r k j v : ℕ) → j < w → v < w → (r ≡ k → ⊥) → line_at a.from a.stride r + j ≡ line_at a.from a.stride k + v → ⊥
  other_line r k j v hj hv ne e = ne (same_line a.from a.stride r k j v (omega arith) (omega arith) e).0

module _ {plane work work' low : List ℤ} {held : List (List ℤ)} {a : ColumnsAt} {b : ColumnsOf} {i : ℕ} {line : ℕ} (ready : StripReady plane work line a b) (done : StripDone plane work work' low held a b i) (within : i < lows b.lines + 2) where
  two : Liftable b.lines
  two = ready.placed.two

  apart : (r k j v : ℕ) → j < b.columns → v < b.columns → (r ≡ k → ⊥) → line_at a.from a.stride r + j ≡ line_at a.from a.stride k + v → ⊥
  apart = other_line a b.columns (omega (arith, ready.placed.narrow))

  -- low i is still where it was
  source_now : (j : ℕ) → j < b.columns → i < lows b.lines → source a b.lines (at plane) (at work') j i ≡ source a b.lines (at plane) (at work) j i
  source_now j h g =
      source_low a b.lines (at plane) (at work') j i g
      ∙ ap (λ (z : ℤ). pick (at plane (line_at a.from a.width i + j)) z a.stored)
      (done.kept _ (λ k v l m e. apart (2 * i) (2 * k) j v h m (omega arith) e) (λ k v l q m e. apart (2 * i) (2 * k + 1) j v h m (omega arith) e))
      ∙ sym (source_low a b.lines (at plane) (at work) j i g)

  module _ {low' : List ℤ} (fed : Fed plane work' low low' a b i) where
    low_now : (j : ℕ) → j < b.columns → at low' j ≡ source a b.lines (at plane) (at work) j (min i (lows b.lines - 1))
    low_now j h = go (dec_lt i (lows b.lines))
      where
        go : Dec (i < lows b.lines) → at low' j ≡ source a b.lines (at plane) (at work) j (min i (lows b.lines - 1))
        go (yes l) =
            let e : i ≡ min i (lows b.lines - 1) = omega arith in
            fed.next j h l ∙ source_now j h l ∙ ap (source a b.lines (at plane) (at work) j) e
        go (no f) =
            fed.past j (omega arith) ∙ done.lows_are j h (omega (arith, two)) ∙ ap (source a b.lines (at plane) (at work) j) (last_low i (lows b.lines) (omega arith) (omega (arith, two)))

    abbrev high : List ℤ
    high = drop (high_place a b i) plane

    -- every column can take its step
    pub column_ready : (j : ℕ) → j < b.columns → ColumnReady b i (pipeline_in (held_of held j)) (at low' j) (at high j) (source a b.lines (at plane) (at work) j)
    column_ready j h = record {
      safe = ready.safe j h;
      held = λ g. done.holds j h g;
      low_is = low_now j h;
      high_is = get_or-drop (high_place a b i) plane j (pos 0) ∙ sym (source_high a b.lines (at plane) (at work) j _ (omega arith));
    }

    -- one step more
    module _ {work'' : List ℤ} {held' : List (List ℤ)} (stepped : PlaneStepped high low' held held' work' work'' a b i) where
      gives : (j : ℕ) → (h : j < b.columns)
          → Gives (column_line b (source a b.lines (at plane) (at work) j)) i (pipeline_out (held_of held' j) (at work'' (even_place a i + j)) (at work'' (even_place a i + a.stride + j)))
      gives j h = step_gives (column_line_lem (column_ready j h) two within) (stepped.stepped j h)

      old_even : (k j : ℕ) → k < i - 2 → j < b.columns → at work'' (line_at a.from a.stride (2 * k) + j) ≡ at work' (line_at a.from a.stride (2 * k) + j)
      old_even k j h g = stepped.kept _ (λ l v m e. apart (2 * k) (2 * (i - 2)) j v g m (omega arith) e) (λ l q v m e. apart (2 * k) (2 * (i - 2) + 1) j v g m (omega arith) (omega arith))

      old_odd : (k j : ℕ) → k < i - 2 → j < b.columns → at work'' (line_at a.from a.stride (2 * k + 1) + j) ≡ at work' (line_at a.from a.stride (2 * k + 1) + j)
      old_odd k j h g = stepped.kept _ (λ l v m e. apart (2 * k + 1) (2 * (i - 2)) j v g m (omega arith) e) (λ l q v m e. apart (2 * k + 1) (2 * (i - 2) + 1) j v g m (omega arith) (omega arith))

      pub strip_more : StripDone plane work work'' low' held' a b (i + 1)
      strip_more = record {
        holds = λ j h g.
            let t = step_held (column_line_lem (column_ready j h) two within) (stepped.stepped j h) in
            let e : i ≡ i + 1 - 1 = omega arith in
            subst (λ (k : ℕ). PipelineHolds (column_line b (source a b.lines (at plane) (at work) j)) k (pipeline_in (held_of held' j))) e (record { g2 = t.g2; u2 = t.u2; p2 = t.p2; u1 = t.u1 });
        lows_are = λ j h g. let e : i ≡ i + 1 - 1 = omega arith in low_now j h ∙ ap (λ (k : ℕ). source a b.lines (at plane) (at work) j (min k (lows b.lines - 1))) e;
        even = λ k j h g. evens k j h g (dec_lt k (i - 2));
        odd = λ k j h q g. odds k j h q g (dec_lt k (i - 2));
        kept = λ p f g.
            stepped.kept p (λ l j m e. f (i - 2) j (omega arith) m e) (λ l q j m e. g (i - 2) j (omega arith) q m (omega arith))
            ∙ done.kept p (λ k j h m e. f k j (omega arith) m e) (λ k j h q m e. g k j (omega arith) q m e);
      }
        where
          evens : (k j : ℕ) → k < i + 1 - 2 → j < b.columns → Dec (k < i - 2) → at work'' (line_at a.from a.stride (2 * k) + j) ≡ line_u1 (column_line b (source a b.lines (at plane) (at work) j)) k
          evens k j h g (yes l) = old_even k j l g ∙ done.even k j l g
          evens k j h g (no f) =
              let e : i - 2 ≡ k = omega arith in
              subst (λ (m : ℕ). at work'' (line_at a.from a.stride (2 * m) + j) ≡ line_u1 (column_line b (source a b.lines (at plane) (at work) j)) m) e ((gives j g).even (omega arith))

          odds : (k j : ℕ) → k < i + 1 - 2 → k < highs b.lines → j < b.columns → Dec (k < i - 2) → at work'' (line_at a.from a.stride (2 * k + 1) + j) ≡ line_p1 (column_line b (source a b.lines (at plane) (at work) j)) k
          odds k j h q g (yes l) = old_odd k j l g ∙ done.odd k j l q g
          odds k j h q g (no f) =
              let e : i - 2 ≡ k = omega arith in
              let o : line_at a.from a.stride (2 * (i - 2) + 1) + j ≡ even_place a i + a.stride + j = omega arith in
              subst (λ (m : ℕ). at work'' (line_at a.from a.stride (2 * m + 1) + j) ≡ line_p1 (column_line b (source a b.lines (at plane) (at work) j)) m) e (ap (at work'') o ∙ (gives j g).odd (omega arith) (omega arith))

-- all steps are taken
module _ {plane work work' low : List ℤ} {held : List (List ℤ)} {a : ColumnsAt} {b : ColumnsOf} {line : ℕ} (ready : StripReady plane work line a b) (done : StripDone plane work work' low held a b (lows b.lines + 2)) where
  new : ℕ → ℕ → ℤ
  new r j = fixed_inverse b.lowbits b.highbits b.lines (source a b.lines (at plane) (at work) j) r

  long : (r j : ℕ) → r < b.lines → j < b.columns → at work' (line_at a.from a.stride r + j) ≡ fixed_inverse_long b.lowbits b.highbits b.lines (source a b.lines (at plane) (at work) j) r
  unfolding fixed_inverse_long
  long r j h g = by_parity (λ r. at work' (line_at a.from a.stride r + j) ≡ fixed_inverse_long b.lowbits b.highbits b.lines (source a b.lines (at plane) (at work) j) r) b.lines
      (λ k l. done.even k j (omega arith) g ∙ sym (even_place_lem _ _ k))
      (λ k l. done.odd k j (omega arith) l g ∙ sym (odd_place _ _ k)) r h

  pub strip_all : at work' ≡ inverted a b.lowbits b.highbits b.columns b.lines (at plane) (at work)
  unfolding new
  strip_all = lines_is (line_at a.from a.stride) b.columns new (at work) (λ u v l p q hp hq e. other_line a b.columns (omega (arith, ready.placed.narrow)) u v p q hp hq (omega arith) e) b.lines (at work')
      (λ r j h g. long r j h g ∙ sym (back_long b.lowbits b.highbits b.lines (source a b.lines (at plane) (at work) j) r ready.placed.two))
      (λ p off. done.kept p (λ k j h g e. off (2 * k) j (omega arith) g (sym e)) (λ k j h q g e. off (2 * k + 1) j (omega arith) g (sym e)))

-- of slices as long
pub placed_as : {work line : ℕ} {a : ColumnsAt} {b : ColumnsOf} → Placed work line a b → (w m : ℕ) → w ≡ work → m ≡ line → Placed w m a b
placed_as q w m ew em = record {
  two = q.two;
  few = q.few;
  narrow = q.narrow;
  in_work = λ k h. omega (arith, q.in_work k h);
  spare = omega (arith, q.spare);
  lowbits = q.lowbits;
  highbits = q.highbits;
}
