-- For the code: what the answers of the calls say of the rules that led to them, and the answer by the rule that does not hold.
use Rattle.std.specs.Prelude.{ℕ, ◌*◌, ◌<◌, ◌≤◌, Bool, ◌&&◌, ◌||◌, ◌⊎◌, List, [], ◌≡◌, refl, length, ℤ}
use Rattle.std.proofs.Math.Bool.{true, false, not, cond}
use Rattle.std.proofs.Math.Path.{sym, ap}
use Rattle.std.proofs.Common.{◌∙◌, subst, arith, inl, inr}
use Rattle.std.proofs.Math.Dec.{T, eqb, eqb→eq, eqb_refl}
use Rattle.numbers.specs.Tests.{is_true, both, left_false, right_false}
use Rattle.refusals.specs.Answers.{Reason, Answer, done, refused, passed, asks, ◌then◌, answered}
use Rattle.refusals.specs.AnswerLaws.{asks_done, asks_wrong, then_done, then_right, then_refused, answered_done, answered_refused}
use Rattle.width_table.specs.declared.WidthTable.{WidthTable}
use Rattle.pictures.specs.Pictures.{side_right, Admitted, length_answer, pixel_answer}
use Rattle.pictures.specs.PictureLaws.{side_is, side_right_lem, holds_done, holds_right, pixels_done, pixel_below}
use Rattle.pictures.specs.PixelLaws.{slice_short}
use Rattle.precision.specs.Verdict.{verdict, Accepted, IsLevel}
use Rattle.rolling_lines.specs.declared.Taken.{Taken}
use Rattle.rolling.specs.declared.Scan.{Scan}
use Rattle.rolling_lines.specs.Schedule.{next, any_taken, line_gives, end_gives}
use Rattle.rolling.specs.Calls.{begin_answer, line_width_right, goes_on, line_answer_of, line_answer, worked_row, given_by_line, scan_after, LineLeft, LineCall, end_answer_of, end_answer, given_by_end, scan_ended, EndLeft, EndCall, scan_of}
use Rattle.rolling_lines.specs.LentLines.{held_lines, out_lines, held_in}
use Rattle.rolling_lines.specs.Memory.{Lent}
use Rattle.rolling_lines.specs.Rows.{LineRight, row_of}
use Rattle.rolling_lines.specs.Worked.{LineWorked, EndWorked}
use Rattle.rolling_lines.specs.declared.Taken.TheVariants.{Zero}

-- ---- tests

not_eqb : (a b : ℕ) → ¬ (a ≡ b) → eqb a b ≡ false
not_eqb a b f = go (eqb a b) (eqb→eq a b)
  where
    go : (t : Bool) → (T t → a ≡ b) → t ≡ false
    go true h = absurd (f (h tt))
    go false h = refl

-- a test that is asked only where another holds
pub of_unless : (a b : Bool) → T (not a || b) → T a → T b
of_unless true b h i = h
of_unless false b h i = absurd i

pub unasked : (a b : Bool) → a ≡ false → not a || b ≡ true
unasked a b e = ap (λ (t : Bool). not t || b) e

pub asked_right : (a b : Bool) → b ≡ true → not a || b ≡ true
asked_right true b e = e
asked_right false b e = refl

pub eqb_true : (a b : ℕ) → a ≡ b → eqb a b ≡ true
eqb_true a b e = is_true (eqb a b) (subst (λ (n : ℕ). T (eqb a n)) e (eqb_refl a))

pub as_test : {b : Bool} → b ≡ true → T b
as_test e = subst T (sym e) tt

is_false : (b : Bool) → T (not b) → b ≡ false
is_false true h = absurd h
is_false false h = refl

pub answered_passed : (o : Answer Unit) → T (answered o true false) → o ≡ passed
answered_passed (done tt) i = refl
answered_passed (refused r) i = absurd i

not_refused : {r : Reason} → refused r ≡ passed → ⊥
not_refused e = subst T (ap (λ (o : Answer Unit). answered o false true) e) tt

-- ---- begin

module _ (t : WidthTable) where
  pub other_levels : ¬ (t.levels ≡ 1) → begin_answer t ≡ refused (14, [])
  unfolding begin_answer
  other_levels f = asks_wrong (eqb t.levels 1) _ _ (not_eqb t.levels 1 f)

  pub one_level : t.levels ≡ 1 → begin_answer t ≡ verdict t
  unfolding begin_answer
  one_level e = ap (λ (b : Bool). asks b 14 (verdict t)) (eqb_true t.levels 1 e)

  -- the scan that begins, or does not
  pub scan_begun_lem : begin_answer t ≡ passed → record { table = t; width = 0; taken = Zero; ended = false } ≡ scan_of t
  unfolding scan_of
  scan_begun_lem e = λ i. record { table = t; width = 0; taken = Zero; ended = sym (answered_done {o = begin_answer t} false true e) i }

  pub scan_refused : {r : Reason} → begin_answer t ≡ refused r → record { table = t; width = 0; taken = Zero; ended = true } ≡ scan_of t
  unfolding scan_of
  scan_refused e = λ i. record { table = t; width = 0; taken = Zero; ended = sym (answered_refused {o = begin_answer t} false true e) i }

  -- a table with which a scan begins
  pub begun_one : begin_answer t ≡ passed → t.levels ≡ 1
  unfolding begin_answer
  begun_one e = eqb→eq t.levels 1 (asks_done (eqb t.levels 1) _ _ e).0

  pub begun_accepted : begin_answer t ≡ passed → Accepted t
  unfolding begin_answer
  begun_accepted e = (asks_done (eqb t.levels 1) _ _ e).1

-- ---- the width of a scan

module _ (k : Taken) (w : ℕ) where
  -- after a line, and before the first
  pub width_some : any_taken k ≡ true → line_width_right k w ≡ side_right w
  unfolding line_width_right
  width_some e = ap (λ (t : Bool). cond t (side_right w) (eqb w 0)) e

  pub width_none : any_taken k ≡ false → line_width_right k w ≡ eqb w 0
  unfolding line_width_right
  width_none e = ap (λ (t : Bool). cond t (side_right w) (eqb w 0)) e

  width_taken : T (line_width_right k w) → T (any_taken k) → T (side_right w)
  unfolding line_width_right
  width_taken h i = go (any_taken k) h i
    where
      go : (a : Bool) → T (cond a (side_right w) (eqb w 0)) → T a → T (side_right w)
      go true h i = h
      go false h i = absurd i

  width_unset : T (line_width_right k w) → T (not (any_taken k)) → w ≡ 0
  unfolding line_width_right
  width_unset h i = go (any_taken k) h i
    where
      go : (a : Bool) → T (cond a (side_right w) (eqb w 0)) → T (not a) → w ≡ 0
      go true h i = absurd i
      go false h i = eqb→eq w 0 h

  pub width_is : (T (any_taken k) → Admitted w) → (T (not (any_taken k)) → w ≡ 0) → line_width_right k w ≡ true
  unfolding line_width_right
  width_is some none = go (any_taken k) some none
    where
      go : (a : Bool) → (T a → Admitted w) → (T (not a) → w ≡ 0) → cond a (side_right w) (eqb w 0) ≡ true
      go true some none = is_true (side_right w) (side_right_lem w (some tt))
      go false some none = eqb_true w 0 (none tt)

-- ---- a scan that goes on

module _ (s : Scan) where
  -- each test that does not hold
  pub ended_on : s.ended ≡ true → goes_on s ≡ false
  unfolding goes_on
  ended_on e = left_false _ _ (right_false (answered (begin_answer s.table) true false) _ (ap not e))

  pub width_on : line_width_right s.taken s.width ≡ false → goes_on s ≡ false
  unfolding goes_on
  width_on e = right_false (answered (begin_answer s.table) true false && not s.ended) _ e

  pub refused_on : {r : Reason} → begin_answer s.table ≡ refused r → goes_on s ≡ false
  unfolding goes_on
  refused_on e = left_false _ _ (left_false _ (not s.ended) (answered_refused {o = begin_answer s.table} true false e))

  -- all of them hold
  pub goes : s.ended ≡ false → line_width_right s.taken s.width ≡ true → begin_answer s.table ≡ passed → goes_on s ≡ true
  unfolding goes_on
  goes e a b = λ i. answered_done {o = begin_answer s.table} true false b i && not (e i) && a i

  module _ (h : T (goes_on s)) where
    tests : T (answered (begin_answer s.table) true false && not s.ended) × T (line_width_right s.taken s.width)
    unfolding goes_on
    tests = both (answered (begin_answer s.table) true false && not s.ended) (line_width_right s.taken s.width) h

    pub on_begun : begin_answer s.table ≡ passed
    on_begun = answered_passed (begin_answer s.table) (both (answered (begin_answer s.table) true false) (not s.ended) tests.0).0

    pub on_running : s.ended ≡ false
    on_running = is_false s.ended (both (answered (begin_answer s.table) true false) (not s.ended) tests.0).1

    pub on_side : T (any_taken s.taken) → Admitted s.width
    on_side i = side_is s.width (width_taken s.taken s.width tests.1 i)

    pub on_unset : T (not (any_taken s.taken)) → s.width ≡ 0
    on_unset i = width_unset s.taken s.width tests.1 i

-- ---- the answer of a line, by lengths

-- a line has its turn where it is the first one, or has the scan's width
pub in_turn : (s : Scan) (w : ℕ) {b : Bool} → b ≡ any_taken s.taken → ((b ≡ true) × (w ≡ s.width)) ⊎ (b ≡ false) → not (any_taken s.taken) || eqb w s.width ≡ true
in_turn s w e (inl (some, same)) = asked_right _ _ (eqb_true w s.width same)
in_turn s w e (inr none) = unasked _ _ (sym e ∙ none)

module _ (s : Scan) (pixels : List ℕ) (w held out : ℕ) where
  abbrev in_turn_lem : Bool
  in_turn_lem = not (any_taken s.taken) || eqb w s.width

  pub line_ended : goes_on s ≡ false → line_answer_of s pixels w held out ≡ refused (14, [])
  unfolding line_answer_of
  line_ended e = asks_wrong (goes_on s && in_turn_lem) _ _ (left_false (goes_on s) in_turn_lem e)

  pub line_other : any_taken s.taken ≡ true → ¬ (w ≡ s.width) → line_answer_of s pixels w held out ≡ refused (14, [])
  unfolding line_answer_of
  line_other a f = asks_wrong (goes_on s && in_turn_lem) _ _ (right_false (goes_on s) in_turn_lem (λ i. not (a i) || not_eqb w s.width f i))

  -- it is its turn
  module _ (on : goes_on s ≡ true) (turn : in_turn_lem ≡ true) where
    abbrev room : Answer Unit
    room = length_answer w (length pixels) then length_answer (held_lines * w) held then length_answer (out_lines * w) out then pixel_answer s.table.depth w 1 pixels

    turned : line_answer_of s pixels w held out ≡ asks (side_right w) 8 room
    unfolding line_answer_of
    turned = λ i. asks (on i && turn i) 14 (asks (side_right w) 8 room)

    pub line_side : side_right w ≡ false → line_answer_of s pixels w held out ≡ refused (8, [])
    line_side e = turned ∙ asks_wrong (side_right w) _ _ e

    -- the side is admitted
    module _ (side : side_right w ≡ true) where
      sided_line : line_answer_of s pixels w held out ≡ room
      sided_line = turned ∙ ap (λ (b : Bool). asks b 8 room) side

      pub line_short : length pixels < w → line_answer_of s pixels w held out ≡ refused (9, [])
      line_short h = sided_line ∙ then_refused (length_answer w (length pixels)) _ _ (slice_short _ _ h)

      -- the pixels are long enough
      module _ (long : w ≤ length pixels) where
        long_line_lem : line_answer_of s pixels w held out ≡ length_answer (held_lines * w) held then length_answer (out_lines * w) out then pixel_answer s.table.depth w 1 pixels
        long_line_lem = sided_line ∙ then_right (length_answer w (length pixels)) _ (holds_right _ _ long)

        pub line_held_lem : held < held_lines * w → line_answer_of s pixels w held out ≡ refused (9, [])
        line_held_lem h = long_line_lem ∙ then_refused (length_answer (held_lines * w) held) _ _ (slice_short _ _ h)

        pub line_out_lem : held_lines * w ≤ held → out < out_lines * w → line_answer_of s pixels w held out ≡ refused (9, [])
        line_out_lem g h = long_line_lem ∙ then_right (length_answer (held_lines * w) held) _ (holds_right _ _ g) ∙ then_refused (length_answer (out_lines * w) out) _ _ (slice_short _ _ h)

        pub line_pixels : held_lines * w ≤ held → out_lines * w ≤ out → line_answer_of s pixels w held out ≡ pixel_answer s.table.depth w 1 pixels
        line_pixels g h = long_line_lem ∙ then_right (length_answer (held_lines * w) held) _ (holds_right _ _ g) ∙ then_right (length_answer (out_lines * w) out) _ (holds_right _ _ h)

-- ---- the answer of an end, by lengths

module _ (s : Scan) (held out : ℕ) where
  pub end_ended : goes_on s ≡ false → end_answer_of s held out ≡ refused (14, [])
  unfolding end_answer_of
  end_ended e = asks_wrong (goes_on s && any_taken s.taken) _ _ (left_false (goes_on s) (any_taken s.taken) e)

  pub end_none : any_taken s.taken ≡ false → end_answer_of s held out ≡ refused (14, [])
  unfolding end_answer_of
  end_none e = asks_wrong (goes_on s && any_taken s.taken) _ _ (right_false (goes_on s) (any_taken s.taken) e)

  -- it is its turn
  module _ (on : goes_on s ≡ true) (some : any_taken s.taken ≡ true) where
    turned_end : end_answer_of s held out ≡ length_answer (held_lines * s.width) held then length_answer (out_lines * s.width) out
    unfolding end_answer_of
    turned_end = λ i. asks (on i && some i) 14 (length_answer (held_lines * s.width) held then length_answer (out_lines * s.width) out)

    pub end_held : held < held_lines * s.width → end_answer_of s held out ≡ refused (9, [])
    end_held h = turned_end ∙ then_refused (length_answer (held_lines * s.width) held) _ _ (slice_short _ _ h)

    pub end_out_lem : held_lines * s.width ≤ held → out < out_lines * s.width → end_answer_of s held out ≡ refused (9, [])
    end_out_lem g h = turned_end ∙ then_right (length_answer (held_lines * s.width) held) _ (holds_right _ _ g) ∙ slice_short _ _ h

    pub end_done : held_lines * s.width ≤ held → out_lines * s.width ≤ out → end_answer_of s held out ≡ passed
    end_done g h = turned_end ∙ then_right (length_answer (held_lines * s.width) held) _ (holds_right _ _ g) ∙ holds_right _ _ h

-- ---- what an accepted line is

module _ (s : Scan) (pixels : List ℕ) (w : ℕ) (held out : List ℤ) where
  module _ (e : line_answer s pixels w held out ≡ passed) where
    pub line_right : LineRight s.table pixels w × Lent held w × (out_lines * w ≤ length out)
    unfolding line_answer_of
    line_right =
        let turn = not (any_taken s.taken) || eqb w s.width in
        let a = asks_done (goes_on s && turn) _ _ e in
        let b = asks_done (side_right w) _ _ a.1 in
        let p = then_done (length_answer w (length pixels)) _ b.1 in
        let q = then_done (length_answer (held_lines * w) (length held)) _ p.1 in
        let r = then_done (length_answer (out_lines * w) (length out)) _ q.1 in
        let starts = on_begun s (both (goes_on s) turn a.0).0 in
        let side = side_is w b.0 in
        let long = holds_done w (length pixels) p.0 in (
          record {
            accepted = begun_accepted s.table starts;
            one = begun_one s.table starts;
            side = side;
            long = long;
            below = λ k i. pixel_below s.table.depth w 1 pixels (omega arith) (pixels_done s.table.depth w 1 pixels r.1) k (omega arith);
          },
          record { narrow = side.1; room = holds_done (held_lines * w) (length held) q.0 },
          holds_done (out_lines * w) (length out) r.0,
        )

    -- what the work leaves is what the call leaves
    pub line_worked : {n : ℕ} {k : Taken} {held' out' : List ℤ} → n ≡ length (line_gives s.table w s.taken (held_in w held) (row_of s.table pixels w)) → k ≡ next s.taken
        → LineWorked s.table w s.taken (row_of s.table pixels w) held out held' out'
        → LineCall s pixels w held out (done n) (record { table = s.table; width = w; taken = k; ended = s.ended }) held' out'
    unfolding given_by_line worked_row scan_after
    line_worked {n} {k} count more work = record {
      answer_is = (λ i. done (count i)) ∙ sym (then_right (line_answer s pixels w held out) _ e);
      scan_is = (λ i. record { table = s.table; width = w; taken = more i; ended = s.ended }) ∙ sym (answered_done {o = line_answer s pixels w held out} _ _ e);
      left = record {
        refused_kept = λ r x. absurd (not_refused (sym x ∙ e));
        past_kept = λ x. (work.0.past, work.1.past);
        works = λ x sound. (work.0.works sound, work.1.works sound);
      };
    }

  -- a line that is refused leaves all as it was
  pub line_stays : (r : Reason) → LineLeft s pixels w held out (refused r) held out
  line_stays r = record { refused_kept = λ r x. (refl, refl); past_kept = λ x. absurd (not_refused x); works = λ x sound. absurd (not_refused x) }

  pub line_kept : {r : Reason} → line_answer s pixels w held out ≡ refused r → LineCall s pixels w held out (refused r) s held out
  line_kept {r} e = record {
    answer_is = sym (then_refused (line_answer s pixels w held out) _ r e);
    scan_is = sym (answered_refused {o = line_answer s pixels w held out} _ _ e);
    left = subst (λ (o : Answer Unit). LineLeft s pixels w held out o held out) (sym e) (line_stays r);
  }

-- ---- what an accepted end is

module _ (s : Scan) (held out : List ℤ) where
  module _ (e : end_answer s held out ≡ passed) where
    pub end_right : IsLevel s.table 1 × Admitted s.width × Lent held s.width × (out_lines * s.width ≤ length out)
    unfolding end_answer_of
    end_right =
        let a = asks_done (goes_on s && any_taken s.taken) _ _ e in
        let p = then_done (length_answer (held_lines * s.width) (length held)) _ a.1 in
        let (on, some) = both (goes_on s) (any_taken s.taken) a.0 in
        let starts = on_begun s on in
        let side = on_side s on some in (
          record { accepted = begun_accepted s.table starts; least = omega arith; most = omega (arith, begun_one s.table starts) },
          side,
          record { narrow = side.1; room = holds_done (held_lines * s.width) (length held) p.0 },
          holds_done (out_lines * s.width) (length out) p.1,
        )

    pub end_worked : {n : ℕ} {held' out' : List ℤ} → n ≡ length (end_gives s.table s.width s.taken (held_in s.width held))
        → EndWorked s.table s.width s.taken held out held' out'
        → EndCall s held out (done n) (record { table = s.table; width = s.width; taken = s.taken; ended = true }) held' out'
    unfolding given_by_end scan_ended
    end_worked {n} count work = record {
      answer_is = (λ i. done (count i)) ∙ sym (then_right (end_answer s held out) _ e);
      scan_is = sym (answered_done {o = end_answer s held out} _ _ e);
      left = record {
        refused_kept = λ r x. absurd (not_refused (sym x ∙ e));
        past_kept = λ x. (work.held_past, work.out_past);
        works = λ x sound. work.works sound;
      };
    }

  -- an end that is refused leaves all as it was
  pub end_stays : (r : Reason) → EndLeft s held out (refused r) held out
  end_stays r = record { refused_kept = λ r x. (refl, refl); past_kept = λ x. absurd (not_refused x); works = λ x sound. absurd (not_refused x) }

  pub end_kept : {r : Reason} → end_answer s held out ≡ refused r → EndCall s held out (refused r) s held out
  end_kept {r} e = record {
    answer_is = sym (then_refused (end_answer s held out) _ r e);
    scan_is = sym (answered_refused {o = end_answer s held out} _ _ e);
    left = subst (λ (o : Answer Unit). EndLeft s held out o held out) (sym e) (end_stays r);
  }
