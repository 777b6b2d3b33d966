-- What a call says that is accepted, and what holds after any calls of a scan, by induction over them (`facts`).
use Rattle.std.specs.Prelude.{ℕ, zero, suc, ◌+◌, ◌*◌, ◌-◌, ◌^◌, ◌<◌, ◌≤◌, Bool, true, false, not, ◌&&◌, ◌||◌, ◌≡◌, eqb, length, get_or, ℤ, pos}
use mathlib.Core.List.{List, [], ◌++◌, append_assoc, append-nil}
use Rattle.std.proofs.Math.Path.{refl, sym, ap, subst}
use Rattle.std.proofs.Common.{◌∙◌, mul_comm, mul-le-mul_right, length-append, get_or-append-add, get_or-take, length-take-le, pow_pos}
use native.Mathlib.Omega.{arith}
use Rattle.std.proofs.Math.Decide.{dec_lt}
use Rattle.std.proofs.Math.Dec.{T, eqb→eq, eqb_refl}
use Rattle.std.proofs.Math.ListN.{take, get_or-append}
use Rattle.numbers.specs.Tests.{both, and_intro}
use Rattle.refusals.specs.Answers.{Reason, Answer, done, refused, passed, answered}
use Rattle.refusals.specs.AnswerLaws.{asks_done, asks_right, then_done, then_right, gives_done, gives_refused, answered_done, answered_refused}
use Rattle.lines.specs.Planes.{row_by_row}
use Rattle.lines.specs.RowLaws.{rows_length}
use Rattle.width_table.specs.declared.WidthTable.{WidthTable}
use Rattle.pictures.specs.Pictures.{side_right, Admitted, length_answer, plane_of}
use Rattle.pictures.specs.PictureLaws.{side_is, side_right_lem, holds_done, holds_right, pixels_done, pixels_right_lem, pixel_below, over_take}
use Rattle.irreversible.specs.Claims.{Strip}
use Rattle.irreversible.specs.Transforms.{fixed_plane}
use Rattle.rolling_lines.specs.declared.Taken.{Taken}
use Rattle.rolling_lines.specs.declared.Taken.TheVariants.{Zero, One, Two, Three, Four, OddMany, EvenMany}
use Rattle.rolling.specs.declared.Scan.{Scan}
use Rattle.rolling_lines.specs.Schedule.{Line, Held, next, any_taken, even_taken, stacked, held_after, line_gives, end_gives}
use Rattle.rolling_lines.specs.LentLines.{SameHeld, Sound, held_lines, out_lines, held_in, out_after}
use Rattle.rolling.specs.Calls.{begin_answer, scan_of, goes_on, line_answer_of, line_answer, worked_row, given_by_line, scan_after, LineCall, end_answer_of, end_answer, given_by_end, scan_ended, EndCall}
use Rattle.rolling.specs.AnswerLaws.{of_unless, as_test, begun_one, begun_accepted, width_is, goes, on_running}
use Rattle.rolling_lines.specs.FiveBits.{row_five, column_five}
use Rattle.rolling_claims.specs.Claims.{HandedOn, Calls, begun, line, line_refused, end, end_refused, ready, in_turn, first_lines}
use Rattle.rolling_claims.specs.Column.{Holding, zero_lines, holding_same, holding_next, line_due, end_due, SoundAt, holding_sound}
use Rattle.rolling_claims.specs.LineOrder.{no_rows, rows_join, rows_of, row_is, turn_is}

-- ---- how many lines

-- n lines, as far as it matters
pub data Count : ℕ → Taken → Type 0 where
  no_line : Count 0 Zero
  first_line : Count 1 One
  second_line : Count 2 Two
  third_line : Count 3 Three
  fourth_line : Count 4 Four
  odd_count : (m n : ℕ) → n ≡ 2 * m + 5 → Count n OddMany
  even_count : (m n : ℕ) → n ≡ 2 * m + 6 → Count n EvenMany

count_next : {n : ℕ} {k : Taken} → Count n k → Count (suc n) (next k)
count_next no_line = first_line
count_next first_line = second_line
count_next second_line = third_line
count_next third_line = fourth_line
count_next fourth_line = odd_count 0 5 refl
count_next (odd_count m n e) = even_count m (suc n) (omega arith)
count_next (even_count m n e) = odd_count (suc m) (suc n) (omega arith)

-- the first line decides
pub count_some : {n : ℕ} {k : Taken} → Count n k → 1 ≤ n → T (any_taken k)
count_some no_line i = absurd (omega arith)
count_some first_line i = tt
count_some second_line i = tt
count_some third_line i = tt
count_some fourth_line i = tt
count_some (odd_count m n e) i = tt
count_some (even_count m n e) i = tt

pub some_count : {n : ℕ} {k : Taken} → Count n k → T (any_taken k) → 1 ≤ n
some_count no_line i = absurd i
some_count first_line i = omega arith
some_count second_line i = omega arith
some_count third_line i = omega arith
some_count fourth_line i = omega arith
some_count (odd_count m n e) i = omega arith
some_count (even_count m n e) i = omega arith

pub none_count : {n : ℕ} {k : Taken} → Count n k → T (not (any_taken k)) → n ≡ 0
none_count no_line i = refl
none_count first_line i = absurd i
none_count second_line i = absurd i
none_count third_line i = absurd i
none_count fourth_line i = absurd i
none_count (odd_count m n e) i = absurd i
none_count (even_count m n e) i = absurd i

even_some : {n : ℕ} {k : Taken} → Count n k → T (even_taken k) → 1 ≤ n
even_some no_line i = absurd i
even_some first_line i = absurd i
even_some second_line i = omega arith
even_some third_line i = omega arith
even_some fourth_line i = omega arith
even_some (odd_count m n e) i = omega arith
even_some (even_count m n e) i = omega arith

-- a line gives what it makes ready, an end what is left
module _ (t : WidthTable) (w : ℕ) (held : Held) where
  pub line_count : (row : Line) (n : ℕ) (k : Taken) → Count n k → (ready n + length (line_gives t w k held row) ≡ ready (suc n)) × (length (line_gives t w k held row) ≤ 4)
  unfolding line_gives
  line_count row n k no_line = (refl, omega arith)
  line_count row n k first_line = (refl, omega arith)
  line_count row n k second_line = (refl, omega arith)
  line_count row n k third_line = (refl, omega arith)
  line_count row n k fourth_line = (refl, omega arith)
  line_count row n k (odd_count m n' e) = (omega arith, omega arith)
  line_count row n k (even_count m n' e) = (omega arith, omega arith)

  pub end_count : (n : ℕ) (k : Taken) → Count n k → 1 ≤ n → (ready n + length (end_gives t w k held) ≡ n) × (length (end_gives t w k held) ≤ 4)
  unfolding end_gives line_gives
  end_count n k no_line i = absurd (omega arith)
  end_count n k first_line i = (refl, omega arith)
  end_count n k second_line i = (refl, omega arith)
  end_count n k third_line i = (refl, omega arith)
  end_count n k fourth_line i = (refl, omega arith)
  end_count n k (odd_count m n' e) i = (omega arith, omega arith)
  end_count n k (even_count m n' e) i = (omega arith, omega arith)

ready_few : (n : ℕ) → ready n ≤ n
ready_few n = omega arith

-- ---- tests

true_false : {A : Type 0} {b : Bool} → b ≡ false → b ≡ true → A
true_false p q = absurd (subst T (sym q ∙ p) tt)

-- a test that is asked only where another holds
unless : (a b : Bool) → (T a → T b) → T (not a || b)
unless true b f = f tt
unless false b f = tt

-- ---- memory that is handed on

-- lines that hold the same, value by value
held_same : (w : ℕ) (left lent : List ℤ) → take (held_lines * w) lent ≡ take (held_lines * w) left → SameHeld w (held_in w lent) (held_in w left)
unfolding held_in
held_same w left lent same = record { low = at_line 0 (omega arith); high = at_line 1 (omega arith); p1 = at_line 2 (omega arith); u1 = at_line 3 (omega arith); p2 = at_line 4 (omega arith) }
  where
    at_line : (r : ℕ) → r < 5 → (c : ℕ) → c < w → plane_of w lent r c ≡ plane_of w left r c
    at_line r i c j =
        let in_lines : r * w + c < held_lines * w = omega (arith, mul-le-mul_right w i) in
        sym (get_or-take (held_lines * w) lent (r * w + c) (pos 0) in_lines) ∙ ap (λ (l : List ℤ). get_or l (r * w + c) (pos 0)) same ∙ get_or-take (held_lines * w) left (r * w + c) (pos 0) in_lines

-- ---- a line that is accepted, and an end

pub record LineRight (s : Scan) (pixels : List ℕ) (w : ℕ) (held out : List ℤ) : Type 0 where
  pub goes : T (goes_on s)
  pub width : T (any_taken s.taken) → w ≡ s.width
  pub side : Admitted w
  pub long : w ≤ length pixels
  pub held_room : held_lines * w ≤ length held
  pub out_room : out_lines * w ≤ length out
  pub below : (k : ℕ) → k < w → get_or pixels k 0 < 2 ^ s.table.depth

module _ (s : Scan) (pixels : List ℕ) (w : ℕ) (held out : List ℤ) where
  abbrev in_turn_lem : Bool
  in_turn_lem = not (any_taken s.taken) || eqb w s.width

  pub line_right : line_answer s pixels w held out ≡ passed → LineRight s pixels w held out
  unfolding line_answer_of
  line_right e =
      let a = asks_done (goes_on s && in_turn_lem) _ _ e in
      let b = asks_done (side_right w) _ _ a.1 in
      let p = then_done (length_answer w (length pixels)) _ b.1 in
      let q = then_done (length_answer (held_lines * w) (length held)) _ p.1 in
      let r = then_done (length_answer (out_lines * w) (length out)) _ q.1 in
      let turn = both (goes_on s) in_turn_lem a.0 in
      let long = holds_done w (length pixels) p.0 in
      record {
        goes = turn.0;
        width = λ i. eqb→eq w s.width (of_unless (any_taken s.taken) (eqb w s.width) turn.1 i);
        side = side_is w b.0;
        long = long;
        held_room = holds_done (held_lines * w) (length held) q.0;
        out_room = holds_done (out_lines * w) (length out) r.0;
        below = λ k i. pixel_below s.table.depth w 1 pixels (omega arith) (pixels_done s.table.depth w 1 pixels r.1) k (omega arith);
      }

  pub right_line : LineRight s pixels w held out → line_answer s pixels w held out ≡ passed
  unfolding line_answer_of
  right_line right =
      asks_right (goes_on s && in_turn_lem) _ _ (and_intro (goes_on s) in_turn_lem right.goes (unless (any_taken s.taken) (eqb w s.width) (λ i. subst (λ (k : ℕ). T (eqb w k)) (right.width i) (eqb_refl w))))
      ∙ asks_right (side_right w) _ _ (side_right_lem w right.side)
      ∙ then_right (length_answer w (length pixels)) _ (holds_right _ _ right.long)
      ∙ then_right (length_answer (held_lines * w) (length held)) _ (holds_right _ _ right.held_room)
      ∙ then_right (length_answer (out_lines * w) (length out)) _ (holds_right _ _ right.out_room)
      ∙ pixels_right_lem s.table.depth w 1 pixels (omega (arith, right.long)) (λ k i. right.below k (omega arith))

pub record EndRight (s : Scan) (held out : List ℤ) : Type 0 where
  pub goes : T (goes_on s)
  pub some : T (any_taken s.taken)
  pub held_room : held_lines * s.width ≤ length held
  pub out_room : out_lines * s.width ≤ length out

module _ (s : Scan) (held out : List ℤ) where
  pub end_right : end_answer s held out ≡ passed → EndRight s held out
  unfolding end_answer_of
  end_right e =
      let a = asks_done (goes_on s && any_taken s.taken) _ _ e in
      let p = then_done (length_answer (held_lines * s.width) (length held)) _ a.1 in
      let turn = both (goes_on s) (any_taken s.taken) a.0 in
      record {
        goes = turn.0;
        some = turn.1;
        held_room = holds_done (held_lines * s.width) (length held) p.0;
        out_room = holds_done (out_lines * s.width) (length out) p.1;
      }

  pub right_end : EndRight s held out → end_answer s held out ≡ passed
  unfolding end_answer_of
  right_end right =
      asks_right (goes_on s && any_taken s.taken) _ _ (and_intro (goes_on s) (any_taken s.taken) right.goes right.some)
      ∙ then_right (length_answer (held_lines * s.width) (length held)) _ (holds_right _ _ right.held_room)
      ∙ holds_right _ _ right.out_room

-- ---- what holds after any calls

-- Before the end, of a strip `all` of h lines of w pixels whose first n were accepted: what is held, and what was given.
pub record Run (t : WidthTable) (k : Taken) (held : List ℤ) (w n : ℕ) (all : List ℕ) (h : ℕ) (given : List ℤ) : Type 0 where
  pub holding : (c : ℕ) → c < w → Holding t w h c (λ r. rows_of t all w r c) (held_in w held) n k
  pub given_is : given ≡ first_lines t all w h (ready n)

pub record Facts (s : Scan) (held : List ℤ) (n : ℕ) (strip : List ℕ) (given : List ℤ) : Type 0 where
  pub begun : begin_answer s.table ≡ passed
  pub count : Count n s.taken
  pub side : 1 ≤ n → Admitted s.width
  pub unset : n ≡ 0 → s.width ≡ 0
  pub size : length strip ≡ n * s.width
  pub below : (k : ℕ) → k < n * s.width → get_or strip k 0 < 2 ^ s.table.depth
  pub before_end : s.ended ≡ false → (w : ℕ) → (1 ≤ n → w ≡ s.width) → (more : List ℕ) (h : ℕ) → n ≤ h → Run s.table s.taken held w n (strip ++ more) h given
  pub after_end : s.ended ≡ true → (1 ≤ n) × (given ≡ first_lines s.table strip s.width n n)

-- a scan goes on before its end
pub goes_on_lem : (s : Scan) (held : List ℤ) (n : ℕ) (strip : List ℕ) (given : List ℤ) → Facts s held n strip given → s.ended ≡ false → T (goes_on s)
goes_on_lem s held n strip given f running =
    as_test (goes s running (width_is s.taken s.width (λ i. f.side (some_count f.count i)) (λ i. f.unset (none_count f.count i))) f.begun)

same_size : (n v w : ℕ) → (1 ≤ n → w ≡ v) → n * v ≡ n * w
same_size zero v w e = omega arith
same_size (suc n) v w e = ap (λ (k : ℕ). suc n * k) (sym (e (omega arith)))

-- one line more, and all pixels are still below B
below_more : (strip pixels : List ℕ) (n w B : ℕ) → length strip ≡ n * w → w ≤ length pixels → ((k : ℕ) → k < n * w → get_or strip k 0 < B) → ((k : ℕ) → k < w → get_or pixels k 0 < B)
    → (k : ℕ) → k < suc n * w → get_or (strip ++ take w pixels) k 0 < B
below_more strip pixels n w B size long old new k i = go (dec_lt k (n * w))
  where
    later : ¬ (k < n * w) → (length strip + (k - n * w) ≡ k) × (k - n * w < w)
    later j = (omega (arith, size), omega arith)

    go : Dec (k < n * w) → get_or (strip ++ take w pixels) k 0 < B
    go (yes j) = subst (λ (a : ℕ). a < B) (sym (get_or-append strip (take w pixels) 0 k (subst (λ (m : ℕ). k < m) (sym size) j))) (old k j)
    go (no j) =
        let b = later j in
        subst (λ (a : ℕ). a < B)
        (sym (ap (λ (m : ℕ). get_or (strip ++ take w pixels) m 0) (sym b.0) ∙ get_or-append-add strip (take w pixels) (k - n * w) 0 ∙ get_or-take w pixels (k - n * w) 0 b.1))
        (new (k - n * w) b.1)

size_more : (strip pixels : List ℕ) (n w : ℕ) → length strip ≡ n * w → w ≤ length pixels → length (strip ++ take w pixels) ≡ suc n * w
size_more strip pixels n w size long = length-append strip (take w pixels) ∙ more_size (length strip) (length (take w pixels)) n w size (length-take-le w pixels long)
  where
    more_size : (a b n w : ℕ) → a ≡ n * w → b ≡ w → a + b ≡ suc n * w
    more_size a b n w p q = omega arith

-- What holds of the held memory as left holds of whatever memory it is handed on in.
pub lent_facts : (s : Scan) (held lent : List ℤ) (n : ℕ) (strip : List ℕ) (given : List ℤ) → Facts s held n strip given → HandedOn s held lent → Facts s lent n strip given
lent_facts s held lent n strip given f same = record {
  begun = f.begun;
  count = f.count;
  side = f.side;
  unset = f.unset;
  size = f.size;
  below = f.below;
  before_end = λ e w fits more h room.
      let r = f.before_end e w fits more h room in
      let again : 1 ≤ n → SameHeld w (held_in w lent) (held_in w held) = λ some. subst (λ (v : ℕ). SameHeld v (held_in v lent) (held_in v held)) (sym (fits some)) (held_same s.width held lent same) in
      record { holding = λ c i. holding_same s.table w h c (λ r. rows_of s.table (strip ++ more) w r c) (held_in w lent) (held_in w held) n s.taken i again (r.holding c i); given_is = r.given_is };
  after_end = f.after_end;
}

-- ---- what is held is sound

module _ (s : Scan) (held : List ℤ) (n : ℕ) (strip : List ℕ) (given : List ℤ) (f : Facts s held n strip given) where
  -- the lines accepted, and any that follow; past their pixels there are zeros
  pub strip_more : (more : List ℕ) → ((k : ℕ) → get_or more k 0 < 2 ^ s.table.depth) → (h : ℕ) → 1 ≤ n → 1 ≤ h → Strip s.table (strip ++ more) s.width h
  strip_more more below h some tall = record { width = (f.side some).0; height = tall; depth = λ k i. go k (dec_lt k (length strip)) }
    where
      go : (k : ℕ) → Dec (k < length strip) → get_or (strip ++ more) k 0 < 2 ^ s.table.depth
      go k (yes j) = subst (λ (a : ℕ). a < 2 ^ s.table.depth) (sym (get_or-append strip more 0 k j)) (f.below k (subst (λ (m : ℕ). k < m) f.size j))
      go k (no j) =
          let e : length strip + (k - length strip) ≡ k = omega arith in
          subst (λ (a : ℕ). a < 2 ^ s.table.depth) (sym (ap (λ (m : ℕ). get_or (strip ++ more) m 0) (sym e) ∙ get_or-append-add strip more (k - length strip) 0)) (below (k - length strip))

  pub strip_now : (h : ℕ) → 1 ≤ n → 1 ≤ h → Strip s.table strip s.width h
  strip_now h some tall = subst (λ (all : List ℕ). Strip s.table all s.width h) (append-nil strip) (strip_more [] (λ k. pow_pos s.table.depth) h some tall)

  module _ (running : s.ended ≡ false) (some : 1 ≤ n) where
    sound_at : (c : ℕ) → c < s.width → SoundAt s.table s.width (suc n) c (λ r. rows_of s.table strip s.width r c) (held_in s.width held)
    sound_at c j =
        let t = s.table in
        let w = s.width in
        let accepted = begun_accepted t f.begun in
        let right = strip_now (suc n) some (omega arith) in
        holding_sound t w (suc n) c (λ r. rows_of t strip w r c) (λ k i. row_five t accepted strip w (suc n) right k c i j) (column_five t accepted strip w (suc n) right (record { least = omega arith }) c j) (held_in w held) n s.taken
        (subst (λ (all : List ℕ). Holding t w (suc n) c (λ r. rows_of t all w r c) (held_in w held) n s.taken) (append-nil strip) ((f.before_end running w (λ i. refl) [] (suc n) (omega arith)).holding c j))
        some (omega arith)

    pub sound_now : Sound s.table s.width (held_in s.width held)
    sound_now = record { low = λ c j. (sound_at c j).low; high = λ c j. (sound_at c j).high; p1 = λ c j. (sound_at c j).p1; u1 = λ c j. (sound_at c j).u1; p2 = λ c j. (sound_at c j).p2 }

module _ (s : Scan) (held : List ℤ) (n : ℕ) (strip : List ℕ) (given : List ℤ) (f : Facts s held n strip given) where
  -- ---- a line

  module _ (pixels : List ℕ) (w : ℕ) (out held' : List ℤ) (e : line_answer s pixels w held out ≡ passed)
      (same : SameHeld w (held_in w held') (held_after s.table w s.taken (held_in w held) (worked_row s pixels w held out))) where
    right : LineRight s pixels w held out
    right = line_right s pixels w held out e

    running : s.ended ≡ false
    running = on_running s right.goes

    fits : 1 ≤ n → w ≡ s.width
    fits i = right.width (count_some f.count i)

    size_now : length strip ≡ n * w
    size_now = f.size ∙ same_size n s.width w fits

    gives : List Line
    gives = given_by_line s pixels w held out

    run_next : (more : List ℕ) (h : ℕ) → suc n ≤ h → Run s.table (next s.taken) held' w (suc n) (strip ++ (take w pixels ++ more)) h (given ++ row_by_row w (length gives) (stacked gives))
    unfolding worked_row given_by_line gives
    run_next more h room =
        let t = s.table in
        let all = strip ++ (take w pixels ++ more) in
        let row = worked_row s pixels w held out in
        let r = f.before_end running w fits (take w pixels ++ more) h (omega arith) in
        let P = in_turn h (fixed_plane t all w h) in
        let row_now : (c : ℕ) → c < w → row c ≡ rows_of t all w n c = row_is t strip pixels more w n size_now right.long in
        let count = line_count t w (held_in w held) row n s.taken f.count in
        let few = ready_few (suc n) in
        record {
          holding = λ c i. holding_same t w h c (λ r. rows_of t all w r c) (held_in w held') (held_after t w s.taken (held_in w held) row) (suc n) (next s.taken) i (λ some. same)
              (holding_next t w h c (λ r. rows_of t all w r c) (held_in w held) row n s.taken (r.holding c i) room (row_now c i));
          given_is =
              ap (λ (l : List ℤ). l ++ row_by_row w (length gives) (stacked gives)) r.given_is
              ∙ rows_join w (ready n) (length gives) right.side.0 P (stacked gives)
              (λ q c i j. line_due t w h c (λ r. rows_of t all w r c) (held_in w held) row n s.taken (r.holding c j) room (row_now c j) q i ∙ sym (turn_is t (begun_one t f.begun) all w h (ready n + q) c (omega arith) j))
              ∙ ap (λ (m : ℕ). row_by_row w m P) count.0;
        }

    line_facts : Facts (scan_after s pixels w held out) held' (suc n) (strip ++ take w pixels) (given ++ row_by_row w (length gives) (stacked gives))
    unfolding scan_after
    line_facts = record {
      begun = f.begun;
      count = count_next f.count;
      side = λ i. right.side;
      unset = λ i. absurd (omega arith);
      size = size_more strip pixels n w size_now right.long;
      below = below_more strip pixels n w (2 ^ s.table.depth) size_now right.long (λ k i. f.below k (subst (λ (m : ℕ). k < m) (sym (same_size n s.width w fits)) i)) right.below;
      before_end = λ r v fits' more h room.
          subst (λ (v : ℕ). Run s.table (next s.taken) held' v (suc n) (strip ++ take w pixels ++ more) h (given ++ row_by_row w (length gives) (stacked gives))) (sym (fits' (omega arith)))
          (subst (λ (all : List ℕ). Run s.table (next s.taken) held' w (suc n) all h (given ++ row_by_row w (length gives) (stacked gives))) (sym (append_assoc strip (take w pixels) more)) (run_next more h room));
      after_end = λ r. true_false running r;
    }

  -- ---- an end

  module _ (out held' : List ℤ) (e : end_answer s held out ≡ passed) where
    ends : EndRight s held out
    ends = end_right s held out e

    line_in_lem : 1 ≤ n
    line_in_lem = some_count f.count ends.some

    rest : List Line
    rest = given_by_end s held out

    whole_given : given ++ row_by_row s.width (length rest) (stacked rest) ≡ first_lines s.table strip s.width n n
    unfolding rest given_by_end
    whole_given =
        let t = s.table in
        let w = s.width in
        let P = in_turn n (fixed_plane t strip w n) in
        let r = subst (λ (all : List ℕ). Run t s.taken held w n all n given) (append-nil strip) (f.before_end (on_running s ends.goes) w (λ i. refl) [] n (omega arith)) in
        let count = end_count t w (held_in w held) n s.taken f.count line_in_lem in
        ap (λ (l : List ℤ). l ++ row_by_row w (length rest) (stacked rest)) r.given_is
        ∙ rows_join w (ready n) (length rest) (f.side line_in_lem).0 P (stacked rest)
        (λ q c i j. end_due t w n c (λ r. rows_of t strip w r c) (held_in w held) n s.taken (r.holding c j) refl q i ∙ sym (turn_is t (begun_one t f.begun) strip w n (ready n + q) c (omega arith) j))
        ∙ ap (λ (m : ℕ). row_by_row w m P) count.0

    end_facts : Facts (scan_ended s held out) held' n strip (given ++ row_by_row s.width (length rest) (stacked rest))
    unfolding scan_ended
    end_facts = record {
      begun = f.begun;
      count = f.count;
      side = f.side;
      unset = f.unset;
      size = f.size;
      below = f.below;
      before_end = λ r. true_false r refl;
      after_end = λ r. (line_in_lem, whole_given);
    }

-- ---- calls

-- what stands first in the output
front : (w m : ℕ) (lines : List Line) (out out' : List ℤ) → 1 ≤ w → m ≡ length lines → out' ≡ out_after w lines out → take (m * w) out' ≡ row_by_row w (length lines) (stacked lines)
front w m lines out out' some e o =
    ap (take (m * w)) o
    ∙ over_take (m * w) (row_by_row w (length lines) (stacked lines)) out (rows_length w (length lines) some (stacked lines) ∙ mul_comm w (length lines) ∙ ap (λ (k : ℕ). k * w) (sym e))

begun_facts : (t : WidthTable) (held : List ℤ) → begin_answer t ≡ passed → Facts (scan_of t) held 0 [] []
unfolding scan_of
begun_facts t held e = record {
  begun = e;
  count = no_line;
  side = λ i. absurd (omega arith);
  unset = λ i. refl;
  size = refl;
  below = λ k i. absurd (omega arith);
  before_end = λ r w same more h room. record { holding = λ c i. zero_lines; given_is = no_rows w (in_turn h (fixed_plane t ([] ++ more) w h)) };
  after_end = λ r. true_false (answered_done {o = begin_answer t} false true e) r;
}

module _ (s : Scan) (held : List ℤ) (n : ℕ) (strip : List ℕ) (given : List ℤ) (f : Facts s held n strip given) where
  after_line : (pixels : List ℕ) (w m : ℕ) (out : List ℤ) (s' : Scan) (held' out' : List ℤ) → LineCall s pixels w held out (done m) s' held' out'
      → Facts s' held' (suc n) (strip ++ take w pixels) (given ++ take (m * w) out')
  unfolding gives
  after_line pixels w m out s' held' out' call =
      let lines = given_by_line s pixels w held out in
      let (passes, counted) = gives_done (line_answer s pixels w held out) (length lines) (sym call.answer_is) in
      let right = line_right s pixels w held out passes in
      let works = call.left.works passes (λ even. let some = even_some f.count even in subst (λ (v : ℕ). Sound s.table v (held_in v held)) (sym (right.width (count_some f.count some))) (sound_now s held n strip given f (on_running s right.goes) some)) in
      subst (λ (l : List ℤ). Facts s' held' (suc n) (strip ++ take w pixels) (given ++ l)) (sym (front w m lines out out' right.side.0 (sym counted) works.1))
      (subst (λ (s : Scan). Facts s held' (suc n) (strip ++ take w pixels) (given ++ row_by_row w (length lines) (stacked lines))) (sym (call.scan_is ∙ answered_done (scan_after s pixels w held out) s passes))
      (line_facts s held n strip given f pixels w out held' passes works.0))

  after_end_call : (m : ℕ) (out : List ℤ) (s' : Scan) (held' out' : List ℤ) → EndCall s held out (done m) s' held' out' → Facts s' held' n strip (given ++ take (m * s.width) out')
  unfolding rest
  after_end_call m out s' held' out' call =
      let lines = given_by_end s held out in
      let (passes, counted) = gives_done (end_answer s held out) (length lines) (sym call.answer_is) in
      let some = line_in_lem s held n strip given f out held' passes in
      let sound = sound_now s held n strip given f (on_running s (end_right s held out passes).goes) some in
      subst (λ (l : List ℤ). Facts s' held' n strip (given ++ l)) (sym (front s.width m lines out out' (f.side some).0 (sym counted) (call.left.works passes sound)))
      (subst (λ (s' : Scan). Facts s' held' n strip (given ++ row_by_row s.width (length lines) (stacked lines))) (sym (call.scan_is ∙ answered_done (scan_ended s held out) s passes))
      (end_facts s held n strip given f out held' passes))

-- a refused call changes nothing
line_same_scan : (s : Scan) (pixels : List ℕ) (w : ℕ) (other out : List ℤ) (r : Reason) (s' : Scan) (other' out' : List ℤ) → LineCall s pixels w other out (refused r) s' other' out' → s ≡ s'
line_same_scan s pixels w other out r s' other' out' call = sym (call.scan_is ∙ answered_refused (scan_after s pixels w other out) s (gives_refused (line_answer s pixels w other out) _ r (sym call.answer_is)))

end_same_scan : (s : Scan) (other out : List ℤ) (r : Reason) (s' : Scan) (other' out' : List ℤ) → EndCall s other out (refused r) s' other' out' → s ≡ s'
end_same_scan s other out r s' other' out' call = sym (call.scan_is ∙ answered_refused (scan_ended s other out) s (gives_refused (end_answer s other out) _ r (sym call.answer_is)))

pub facts : (t : WidthTable) {s : Scan} {held : List ℤ} {n : ℕ} {strip : List ℕ} {given : List ℤ} → Calls t s held n strip given → Facts s held n strip given
facts t (begun held e) = begun_facts t held e
facts t (line {s = s} {held = held} {lent = lent} {n = n} {strip = strip} {given = given} c same call) = after_line s lent n strip given (lent_facts s held lent n strip given (facts t c) same) _ _ _ _ _ _ _ call
facts t (line_refused {s = s} {held = held} {n = n} {strip = strip} {given = given} c call) = subst (λ (s : Scan). Facts s held n strip given) (line_same_scan s _ _ _ _ _ _ _ _ call) (facts t c)
facts t (end {s = s} {held = held} {lent = lent} {n = n} {strip = strip} {given = given} c same call) = after_end_call s lent n strip given (lent_facts s held lent n strip given (facts t c) same) _ _ _ _ _ call
facts t (end_refused {s = s} {held = held} {n = n} {strip = strip} {given = given} c call) = subst (λ (s : Scan). Facts s held n strip given) (end_same_scan s _ _ _ _ _ _ call) (facts t c)

-- either way the scan has the same table
kept : (o : Answer Unit) (a b : Scan) → a.table ≡ b.table → (answered o a b).table ≡ b.table
kept (done u) a b e = e
kept (refused r) a b e = refl

-- the scan keeps its table
pub table_kept : (t : WidthTable) {s : Scan} {held : List ℤ} {n : ℕ} {strip : List ℕ} {given : List ℤ} → Calls t s held n strip given → s.table ≡ t
unfolding scan_of scan_after scan_ended
table_kept t (begun held e) = refl
table_kept t (line {s = s} {lent = lent} {pixels = pixels} {w = w} {out = out} c same call) =
    ap (λ (s : Scan). s.table) call.scan_is ∙ kept (line_answer s pixels w lent out) (scan_after s pixels w lent out) s refl ∙ table_kept t c
table_kept t (line_refused {s = s} c call) = ap (λ (s : Scan). s.table) (sym (line_same_scan s _ _ _ _ _ _ _ _ call)) ∙ table_kept t c
table_kept t (end {s = s} {lent = lent} {out = out} c same call) =
    ap (λ (s : Scan). s.table) call.scan_is ∙ kept (end_answer s lent out) (scan_ended s lent out) s refl ∙ table_kept t c
table_kept t (end_refused {s = s} c call) = ap (λ (s : Scan). s.table) (sym (end_same_scan s _ _ _ _ _ _ call)) ∙ table_kept t c
