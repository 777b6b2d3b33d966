-- What is promised of the calls can be kept: whatever is lent, there is an outcome that meets the promise (`line_possible`,
-- `end_possible`). So the claims over calls speak of something: every strip of at least one line can be scanned to its end (`scanned`).
-- And each scan that goes on was left by some calls (`left`), so that any other is answered 14 (`foreign_refused`).
use Rattle.std.specs.Prelude.{ℕ, zero, suc, ◌+◌, ◌*◌, ◌-◌, ◌^◌, ◌<◌, ◌≤◌, Bool, not, ◌≡◌, T, take, drop, replicate, ℤ, pos}
use Rattle.std.proofs.Math.Bool.{true, false}
use mathlib.Core.List.{List, [], ◌∷◌, ◌++◌, append_assoc, append-nil}
use Rattle.std.proofs.Math.Path.{refl, sym, ap, subst}
use Rattle.std.proofs.Common.{◌∙◌, arith, mul-le-mul_right, length-drop, take-append-drop, get_or-drop, drop-drop, length-take-le, pow_pos}
use Rattle.std.proofs.Math.ListN.{length, get_or, get_or-append}
use Rattle.std.proofs.lemmas.List.{length-replicate, get_or-replicate}
use Rattle.std.proofs.Math.Seq.{drop-append-add, length_front}
use Rattle.numbers.specs.Lists.{over}
use Rattle.refusals.specs.Answers.{Answer, done, passed, ◌then◌, answered}
use Rattle.refusals.specs.AnswerLaws.{answered_done}
use Rattle.lines.specs.Planes.{row_by_row}
use Rattle.lines.specs.RowLaws.{place_in, rows_length, rows_at}
use Rattle.width_table.specs.declared.WidthTable.{WidthTable}
use Rattle.pictures.specs.Pictures.{Admitted, plane_of}
use Rattle.width_table.specs.WorkedTables.{usual, cut}
use Rattle.worked_precision.specs.Verdicts.{usual_accepted, cut_accepted}
use Rattle.rolling_lines.specs.declared.Taken.{Taken}
use Rattle.rolling_lines.specs.declared.Taken.TheVariants.{Zero, One, Two, Three, Four, OddMany, EvenMany}
use Rattle.rolling.specs.declared.Scan.{Scan}
use Rattle.rolling_lines.specs.Schedule.{Line, Held, next, any_taken, stacked, held_after, line_gives, end_gives}
use Rattle.rolling.specs.Calls.{begin_answer, scan_of, goes_on, line_answer, worked_row, given_by_line, scan_after, LineCall, end_answer, given_by_end, scan_ended, EndCall}
use Rattle.rolling_lines.specs.LentLines.{held_lines, out_lines, held_in, out_after, SameHeld, KeptFrom}
use Rattle.rolling.specs.AnswerLaws.{on_begun, on_running, on_side, on_unset, line_ended, end_ended}
use Rattle.rolling_claims.specs.Claims.{Calls, begun, line, end, LeftByCalls, ForeignRefused}
use Rattle.rolling_claims.specs.History.{facts, table_kept, count_some, some_count, none_count, goes_on_lem, line_right, right_line, end_right, right_end}

-- ---- lent memory

-- what is written over the front of a slice, up to place n at most, keeps the rest
over_kept : (n : ℕ) (new old : List ℤ) → length new ≤ n → n ≤ length old → KeptFrom n old (over new old)
over_kept n new old few room =
    let k = length new in
    record {
      length_kept = length_front old new k (sym (length-take-le k old (omega arith)));
      past_kept = ap (λ (m : ℕ). drop m (new ++ drop k old)) (split k few) ∙ drop-append-add new (drop k old) (n - k) ∙ drop-drop (n - k) k old ∙ ap (λ (m : ℕ). drop m old) (sym (split k few));
    }
  where
    split : (k : ℕ) → k ≤ n → n ≡ k + (n - k)
    split k i = omega arith

-- the five lines in their places
abbrev held_list : Held → List Line
held_list h = h.low ∷ h.high ∷ h.p1 ∷ h.u1 ∷ h.p2 ∷ []

unfoldable pub held_with : ℕ → Held → List ℤ → List ℤ
held_with w h held = over (row_by_row w 5 (stacked (held_list h))) held

module _ (w : ℕ) (h : Held) (held : List ℤ) (some : 1 ≤ w) where
  at_line : (r c : ℕ) → r < 5 → c < w → plane_of w (held_with w h held) r c ≡ stacked (held_list h) r c
  unfolding held_with
  at_line r c i j =
      let p = row_by_row w 5 (stacked (held_list h)) in
      get_or-append p (drop (length p) held) (pos 0) (r * w + c) (subst (λ (n : ℕ). r * w + c < n) (sym (rows_length w 5 some (stacked (held_list h)))) (place_in w 5 some r c i j))
      ∙ rows_at w 5 some (stacked (held_list h)) (pos 0) r c i j

  same_held : SameHeld w (held_in w (held_with w h held)) h
  unfolding held_in
  same_held = record {
    low = λ c j. at_line 0 c (omega arith) j;
    high = λ c j. at_line 1 c (omega arith) j;
    p1 = λ c j. at_line 2 c (omega arith) j;
    u1 = λ c j. at_line 3 c (omega arith) j;
    p2 = λ c j. at_line 4 c (omega arith) j;
  }

  held_kept : held_lines * w ≤ length held → KeptFrom (held_lines * w) held (held_with w h held)
  unfolding held_with
  held_kept room = over_kept (held_lines * w) (row_by_row w 5 (stacked (held_list h))) held (omega (arith, rows_length w 5 some (stacked (held_list h)))) room

out_kept : (w : ℕ) (lines : List Line) (out : List ℤ) → 1 ≤ w → length lines ≤ out_lines → out_lines * w ≤ length out → KeptFrom (length lines * w) out (out_after w lines out)
out_kept w lines out some few room =
    let m = length lines in
    over_kept (m * w) (row_by_row w m (stacked lines)) out (omega (arith, rows_length w m some (stacked lines))) (omega (arith, mul-le-mul_right w few))

-- ---- at most four lines are given

pub line_few : (t : WidthTable) (w : ℕ) (k : Taken) (held : Held) (x : Line) → length (line_gives t w k held x) ≤ out_lines
unfolding line_gives
line_few t w Zero held x = omega arith
line_few t w One held x = omega arith
line_few t w Two held x = omega arith
line_few t w Three held x = omega arith
line_few t w Four held x = omega arith
line_few t w OddMany held x = omega arith
line_few t w EvenMany held x = omega arith

pub end_few : (t : WidthTable) (w : ℕ) (k : Taken) (held : Held) → length (end_gives t w k held) ≤ out_lines
unfolding end_gives line_gives
end_few t w Zero held = omega arith
end_few t w One held = omega arith
end_few t w Two held = omega arith
end_few t w Three held = omega arith
end_few t w Four held = omega arith
end_few t w OddMany held = omega arith
end_few t w EvenMany held = omega arith

-- ---- a line

module _ (s : Scan) (pixels : List ℕ) (w : ℕ) (held out : List ℤ) where
  unfoldable pub line_held : Answer Unit → List ℤ
  line_held o = answered o (held_with w (held_after s.table w s.taken (held_in w held) (worked_row s pixels w held out)) held) held

  unfoldable pub line_out : Answer Unit → List ℤ
  line_out o = answered o (out_after w (given_by_line s pixels w held out) out) out

  pub line_possible : (let o = line_answer s pixels w held out in LineCall s pixels w held out (o then done (length (given_by_line s pixels w held out))) (answered o (scan_after s pixels w held out) s) (line_held o) (line_out o))
  unfolding line_held line_out given_by_line
  line_possible =
      let want = held_after s.table w s.taken (held_in w held) (worked_row s pixels w held out) in
      let lines = given_by_line s pixels w held out in
      record {
        answer_is = refl;
        scan_is = refl;
        left = record {
          refused_kept = λ r e. (ap line_held e, ap line_out e);
          past_kept = λ e.
              let right = line_right s pixels w held out e in
              let some = right.side.0 in
              subst (λ (o : Answer Unit). KeptFrom (held_lines * w) held (line_held o) × KeptFrom (length lines * w) out (line_out o)) (sym e)
              (held_kept w want held some right.held_room, out_kept w lines out some (line_few s.table w s.taken (held_in w held) (worked_row s pixels w held out)) right.out_room);
          works = λ e sound.
              let some = (line_right s pixels w held out e).side.0 in
              subst (λ (o : Answer Unit). SameHeld w (held_in w (line_held o)) want × (line_out o ≡ out_after w lines out)) (sym e) (same_held w want held some, refl);
        };
      }

-- ---- an end

module _ (s : Scan) (held out : List ℤ) where
  unfoldable pub end_out : Answer Unit → List ℤ
  end_out o = answered o (out_after s.width (given_by_end s held out) out) out

  pub end_possible : (let o = end_answer s held out in EndCall s held out (o then done (length (given_by_end s held out))) (answered o (scan_ended s held out) s) held (end_out o))
  unfolding end_out given_by_end
  end_possible =
      let w = s.width in
      let lines = given_by_end s held out in
      record {
        answer_is = refl;
        scan_is = refl;
        left = record {
          refused_kept = λ r e. (refl, ap end_out e);
          past_kept = λ e.
              let right = end_right s held out e in
              let some = (on_side s right.goes right.some).0 in
              (record { length_kept = refl; past_kept = refl }, subst (λ (o : Answer Unit). KeptFrom (length lines * w) out (end_out o)) (sym e) (out_kept w lines out some (end_few s.table w s.taken (held_in w held)) right.out_room));
          works = λ e sound. subst (λ (o : Answer Unit). end_out o ≡ out_after w lines out) (sym e) refl;
        };
      }

-- ---- calls go on

-- a line of w pixels for a table
record LineFor (t : WidthTable) (w : ℕ) (pixels : List ℕ) : Type 0 where
  long : w ≤ length pixels
  below : (k : ℕ) → k < w → get_or pixels k 0 < 2 ^ t.depth

-- n lines of w pixels accepted, k as far as it matters, and the scan goes on
record Going (t : WidthTable) (w n : ℕ) (k : Taken) (strip : List ℕ) : Type 0 where
  scan : Scan
  held : List ℤ
  given : List ℤ
  calls : Calls t scan held n strip given
  taken : scan.taken ≡ k
  running : scan.ended ≡ false
  width : 1 ≤ n → w ≡ scan.width
  room : held_lines * w ≤ length held

-- n lines accepted, and then the end
pub record FinishedScan (t : WidthTable) (n : ℕ) (strip : List ℕ) : Type 0 where
  pub scan : Scan
  pub held : List ℤ
  pub given : List ℤ
  pub calls : Calls t scan held n strip given
  pub ended : scan.ended ≡ true

module _ (t : WidthTable) (w : ℕ) (side : Admitted w) (out : List ℤ) (room : out_lines * w ≤ length out) where
  line_on : {n : ℕ} {k : Taken} {strip : List ℕ} → Going t w n k strip → (pixels : List ℕ) → LineFor t w pixels → Going t w (suc n) (next k) (strip ++ take w pixels)
  unfolding scan_after line_held
  line_on g pixels l =
      let s = g.scan in
      let held = g.held in
      let f = facts t g.calls in
      let e : line_answer s pixels w held out ≡ passed = right_line s pixels w held out (record {
        goes = goes_on_lem s held _ _ _ f g.running;
        width = λ i. g.width (some_count f.count i);
        side = side;
        long = l.long;
        held_room = g.room;
        out_room = room;
        below = λ k i. subst (λ (t : WidthTable). get_or pixels k 0 < 2 ^ t.depth) (sym (table_kept t g.calls)) (l.below k i);
      }) in
      let m = length (given_by_line s pixels w held out) in
      let call = subst (λ (o : Answer Unit). LineCall s pixels w held out (o then done m) (answered o (scan_after s pixels w held out) s) (line_held s pixels w held out o) (line_out s pixels w held out o)) e (line_possible s pixels w held out) in
      record {
        scan = scan_after s pixels w held out;
        held = line_held s pixels w held out passed;
        given = _;
        calls = line g.calls refl call;
        taken = ap next g.taken;
        running = g.running;
        width = λ i. refl;
        room = omega (arith, g.room, (call.left.past_kept e).0.length_kept);
      }

  end_on : {n : ℕ} {k : Taken} {strip : List ℕ} → Going t w n k strip → 1 ≤ n → FinishedScan t n strip
  unfolding scan_ended
  end_on g some =
      let s = g.scan in
      let held = g.held in
      let f = facts t g.calls in
      let fits : w ≡ s.width = g.width some in
      let e : end_answer s held out ≡ passed = right_end s held out (record {
        goes = goes_on_lem s held _ _ _ f g.running;
        some = count_some f.count some;
        held_room = subst (λ (v : ℕ). held_lines * v ≤ length held) fits g.room;
        out_room = subst (λ (v : ℕ). out_lines * v ≤ length out) fits room;
      }) in
      let m = length (given_by_end s held out) in
      let call = subst (λ (o : Answer Unit). EndCall s held out (o then done m) (answered o (scan_ended s held out) s) held (end_out s held out o)) e (end_possible s held out) in
      record { scan = scan_ended s held out; held = held; given = _; calls = end g.calls refl call; ended = refl }

  -- n lines more, and then the end
  strip_on : (n : ℕ) (rest : List ℕ) → length rest ≡ n * w → ((k : ℕ) → get_or rest k 0 < 2 ^ t.depth) → {m : ℕ} {k : Taken} {strip : List ℕ} → Going t w m k strip → 1 ≤ m + n → FinishedScan t (m + n) (strip ++ rest)
  strip_on zero [] size below {m} {k} {strip} g some = subst (λ (l : List ℕ). FinishedScan t (m + 0) l) (sym (append-nil strip)) (subst (λ (j : ℕ). FinishedScan t j strip) (none m) (end_on g (omega arith)))
    where
      none : (m : ℕ) → m ≡ m + 0
      none m = omega arith
  strip_on zero (a ∷ rest) size below g some = absurd (omega arith)
  strip_on (suc n) rest size below {m} {k} {strip} g some =
      subst (λ (l : List ℕ). FinishedScan t (m + suc n) l) (append_assoc strip (take w rest) (drop w rest) ∙ ap (λ (l : List ℕ). strip ++ l) (take-append-drop w rest))
      (subst (λ (j : ℕ). FinishedScan t j ((strip ++ take w rest) ++ drop w rest)) (more m n)
      (strip_on n (drop w rest) (length-drop w rest ∙ omega (arith, size)) (λ k. subst (λ (a : ℕ). a < 2 ^ t.depth) (sym (get_or-drop w rest k 0)) (below (w + k)))
      (line_on g rest (record { long = omega (arith, size); below = λ k i. below k })) (omega arith)))
    where
      more : (m n : ℕ) → suc m + n ≡ m + suc n
      more m n = omega arith

module _ (t : WidthTable) (e : begin_answer t ≡ passed) where
  -- a scan that has begun
  going_first : (w : ℕ) (held : List ℤ) → held_lines * w ≤ length held → Going t w 0 Zero []
  unfolding scan_of
  going_first w held room = record {
    scan = scan_of t;
    held = held;
    given = [];
    calls = begun held e;
    taken = refl;
    running = answered_done {o = begin_answer t} false true e;
    width = λ i. absurd (omega arith);
    room = room;
  }

  -- Every strip of at least one line of admitted width and of the table's depth can be scanned, in whatever memory is lent.
  pub scanned : (w n : ℕ) → Admitted w → 1 ≤ n → (held out : List ℤ) → held_lines * w ≤ length held → out_lines * w ≤ length out
      → (strip : List ℕ) → length strip ≡ n * w → ((k : ℕ) → get_or strip k 0 < 2 ^ t.depth)
      → FinishedScan t n strip
  scanned w n side some held out held_room out_room strip size below = subst (λ (m : ℕ). FinishedScan t m strip) (first n) (strip_on t w side out out_room n strip size below (going_first w held held_room) (omega arith))
    where
      first : (n : ℕ) → 0 + n ≡ n
      first n = omega arith

-- and there are tables with which a scan begins
pub usual_begins : begin_answer (usual 1) ≡ passed
unfolding begin_answer
usual_begins = usual_accepted 1 (omega arith) (omega arith)

-- some of them with tag 5 (document 02, job 7)
pub cut_begins : begin_answer (cut 1 (7 ∷ 7 ∷ 7 ∷ 7 ∷ [])) ≡ passed
unfolding begin_answer
cut_begins = cut_accepted.0

-- the smallest strip, and one of two lines
pub one_scanned : FinishedScan (usual 1) 1 (10 ∷ [])
one_scanned = scanned (usual 1) usual_begins 1 1 (omega arith, omega arith) (omega arith) (replicate 7 (pos 0)) (replicate 4 (pos 0)) (omega arith) (omega arith) (10 ∷ []) refl below
  where
    below : (k : ℕ) → get_or (10 ∷ []) k 0 < 256
    below zero = omega arith
    below (suc k) = omega arith

pub two_scanned : FinishedScan (usual 1) 2 (10 ∷ 200 ∷ 7 ∷ 255 ∷ [])
two_scanned =
    scanned (usual 1) usual_begins 2 2 (omega arith, omega arith) (omega arith) (replicate 14 (pos 0)) (replicate 8 (pos 0)) (omega arith) (omega arith) (10 ∷ 200 ∷ 7 ∷ 255 ∷ []) refl below
  where
    below : (k : ℕ) → get_or (10 ∷ 200 ∷ 7 ∷ 255 ∷ []) k 0 < 256
    below zero = omega arith
    below (suc zero) = omega arith
    below (suc (suc zero)) = omega arith
    below (suc (suc (suc zero))) = omega arith
    below (suc (suc (suc (suc k)))) = omega arith

-- ---- which scans calls can leave

-- some number of lines, k as far as it matters
record Reached (t : WidthTable) (w : ℕ) (k : Taken) : Type 0 where
  lines : ℕ
  strip : List ℕ
  going : Going t w lines k strip

module _ (t : WidthTable) (e : begin_answer t ≡ passed) (w : ℕ) (side : Admitted w) where
  black : LineFor t w (replicate w 0)
  black = record { long = omega (arith, length-replicate {A = ℕ} w 0); below = λ k i. subst (λ (a : ℕ). a < 2 ^ t.depth) (sym (get_or-replicate w k 0 0 i)) (pow_pos t.depth) }

  reach : {k : Taken} → Reached t w k → Reached t w (next k)
  reach r = record {
    lines = suc r.lines;
    strip = r.strip ++ take w (replicate w 0);
    going = line_on t w side (replicate (out_lines * w) (pos 0)) (omega (arith, length-replicate (out_lines * w) (pos 0))) r.going (replicate w 0) black;
  }

  none : Reached t w Zero
  none = record { lines = 0; strip = []; going = going_first t e w (replicate (held_lines * w) (pos 0)) (omega (arith, length-replicate (held_lines * w) (pos 0))) }

  reached : (k : Taken) → Reached t w k
  reached Zero = none
  reached One = reach none
  reached Two = reach (reach none)
  reached Three = reach (reach (reach none))
  reached Four = reach (reach (reach (reach none)))
  reached OddMany = reach (reach (reach (reach (reach none))))
  reached EvenMany = reach (reach (reach (reach (reach (reach none)))))

same_scan : (a b : Scan) → a.table ≡ b.table → a.width ≡ b.width → a.taken ≡ b.taken → a.ended ≡ b.ended → a ≡ b
same_scan a b p q r e = λ i. record { table = p i; width = q i; taken = r i; ended = e i }

no_line_is : (k : Taken) → T (not (any_taken k)) → Zero ≡ k
no_line_is Zero i = refl
no_line_is One i = absurd i
no_line_is Two i = absurd i
no_line_is Three i = absurd i
no_line_is Four i = absurd i
no_line_is OddMany i = absurd i
no_line_is EvenMany i = absurd i

-- each scan that goes on was left by some calls
module _ (s : Scan) (on : T (goes_on s)) where
  left_some : T (any_taken s.taken) → LeftByCalls s
  left_some i =
      let t = s.table in
      let r = reached t (on_begun s on) s.width (on_side s on i) s.taken in
      let g = r.going in
      let some = some_count (facts t g.calls).count (subst (λ (k : Taken). T (any_taken k)) (sym g.taken) i) in
      let same : g.scan ≡ s = same_scan g.scan s (table_kept t g.calls) (sym (g.width some)) g.taken (g.running ∙ sym (on_running s on)) in
      record { held = g.held; lines = r.lines; strip = r.strip; given = g.given; calls = subst (λ (a : Scan). Calls t a g.held r.lines r.strip g.given) same g.calls }

  left_none : T (not (any_taken s.taken)) → LeftByCalls s
  unfolding scan_of
  left_none i =
      let t = s.table in
      let e = on_begun s on in
      let same : scan_of t ≡ s = same_scan (scan_of t) s refl (sym (on_unset s on i)) (no_line_is s.taken i) (answered_done {o = begin_answer t} false true e ∙ sym (on_running s on)) in
      record { held = []; lines = 0; strip = []; given = []; calls = subst (λ (a : Scan). Calls t a [] 0 [] []) same (begun [] e) }

  pub left : LeftByCalls s
  left = go (any_taken s.taken) left_some left_none
    where
      go : (b : Bool) → (T b → LeftByCalls s) → (T (not b) → LeftByCalls s) → LeftByCalls s
      go true p q = p tt
      go false p q = q tt

pub foreign_refused : ForeignRefused
foreign_refused s foreign = (
  (λ pixels w held out. line_ended s pixels w (length held) (length out) stops),
  (λ held out. end_ended s (length held) (length out) stops),
)
  where
    go : (b : Bool) → (T b → ⊥) → b ≡ false
    go true f = absurd (f tt)
    go false f = refl

    stops : goes_on s ≡ false
    stops = go (goes_on s) (λ on. foreign (left s on))

-- There are such scans: with a width before the first line, for one.
pub wide_foreign : (s : Scan) → T (not (any_taken s.taken)) → ¬ (s.width ≡ 0) → ¬ (LeftByCalls s)
wide_foreign s none wide l = let f = facts s.table l.calls in wide (f.unset (none_count f.count none))
