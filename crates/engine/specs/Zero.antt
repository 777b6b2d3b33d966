-- The answer 0 says that the call was done: every refusal has a number from 1 on. The answer 11 of a 5/3 call back says that its last rule
-- refused: those before it have lower numbers.
use Rattle.std.specs.Prelude.{ℕ, ◌+◌, ◌*◌, ◌-◌, ◌^◌, ◌<◌, ◌≤◌, Bool, true, false, ◌&&◌, ◌||◌, not, List, [], ◌∷◌, ◌≡◌, refl, leb, ltb, eqb, length, get_or, take, drop, ℤ}
use Rattle.std.proofs.Common.{arith}
use Rattle.numbers.specs.Tests.{every}
use Rattle.refusals.specs.Answers.{Answer, done, refused, passed, asks, ◌then◌, code}
use Rattle.refusals.specs.AnswerLaws.{FromOne, done_from_one, asks_from_one, then_from_one, code_zero}
use Rattle.width_table.specs.declared.WidthTable.{WidthTable}
use Rattle.width_table.specs.Nodes.{TableNode, table_order}
use Rattle.width_table.specs.Table.{depth_right, levels_right, form_right, integer_bits, fraction_bits}
use Rattle.table_bytes.specs.Fields.{Field, head_bytes, fields}
use Rattle.table_bytes.specs.Bytes.{announced, headed, field, form_by, levels_in, has_fifth, form, table_in}
use Rattle.pictures.specs.Pictures.{side_right, side_answer, length_answer, pixel_answer, plane_of}
use Rattle.stages.specs.Rule.{Bound}
use Rattle.precision.specs.Bounds.{bound_of}
use Rattle.precision.specs.Verdict.{fits, below_two_steps, place_numbers, judged_by, judged, first_refusal, verdict}
use Rattle.table_meaning.specs.Subbands.{kept_at}
use Rattle.reversible.specs.Reversible.{Order}
use Rattle.reversible.specs.Calls.{limit_answer, forward_answer, has_picture, back_allowed, back_answer}
use Rattle.irreversible.specs.Calls.{fixed_answer_of, fixed_answer}
use Rattle.lines.specs.Planes.{row_by_row}
use Rattle.view_precision.specs.Bounds.{viewable, view_verdict}
use Rattle.viewing.specs.Calls.{in_width, coefficients_right, view_answer_of, view_answer}
use Rattle.rolling.specs.declared.Scan.{Scan}
use Rattle.rolling_lines.specs.Schedule.{any_taken}
use Rattle.rolling.specs.Calls.{begin_answer, goes_on, line_answer_of, line_answer, end_answer_of, end_answer}
use Rattle.rolling_lines.specs.LentLines.{held_lines, out_lines}
use Rattle.scan_bytes.specs.ScanBytes.{scan_length, scan_held, scan_right, scan_in}
use Rattle.table_calls.specs.Calls.{check_answer, answer97}
use Rattle.engine.specs.Answers.{view_check_answer, view_answer97}
use Rattle.engine.specs.ScanAnswers.{begins, scan_begin_answer, scan_line_answer, scan_end_answer}

-- one rule and nothing after it
last_from_one : (t : Bool) (n : ℕ) → 1 ≤ n → FromOne (asks {A = Unit} t n passed)
last_from_one t n h = asks_from_one t (n, []) passed h (done_from_one tt)

headed_from_one : (tag len : ℕ) (bytes : List ℕ) → FromOne (headed tag len bytes)
unfolding headed
headed_from_one tag len bytes =
    asks_from_one (leb head_bytes (length bytes)) (1, []) _ (omega arith)
    (asks_from_one (eqb (get_or bytes 0 0) tag) (2, []) _ (omega arith)
    (asks_from_one (eqb (announced bytes) len) (3, []) _ (omega arith)
    (last_from_one (leb (announced bytes) (length bytes - head_bytes)) 1 (omega arith))))

formed_from_one : (fs : List Field) (bytes : List ℕ) → FromOne (form_by fs bytes)
unfolding form_by field
formed_from_one [] bytes = last_from_one (eqb (length bytes) 0) 5 (omega arith)
formed_from_one (f ∷ fs) bytes =
    then_from_one (field f bytes) _
    (then_from_one (headed f.tag f.size bytes) _ (headed_from_one f.tag f.size bytes) (last_from_one (f.right (take f.size (drop head_bytes bytes))) 4 (omega arith)))
    (formed_from_one fs (drop (head_bytes + f.size) bytes))

form_from_one : (bytes : List ℕ) → FromOne (form bytes)
unfolding form
form_from_one bytes = formed_from_one (fields (has_fifth bytes) (levels_in bytes)) bytes

judged_from_one : (b : Bound) (IB f : ℕ) (kept : Bool) (place : List ℕ) → FromOne (judged_by b IB f kept place)
judged_from_one b IB f kept place = asks_from_one (fits b IB f) (6, place) _ (omega arith) (asks_from_one (not kept || below_two_steps b f) (7, place) passed (omega arith) (done_from_one tt))

first_from_one : (t : WidthTable) (ps : List TableNode) → FromOne (first_refusal t ps)
unfolding first_refusal judged
first_from_one t [] = done_from_one tt
first_from_one t (p ∷ ps) = then_from_one (judged t p) (first_refusal t ps) (judged_from_one (bound_of t p) (integer_bits t p.level p.pass p.node) (fraction_bits t p.level p.pass p.node) (kept_at t.levels p.level p.pass p.node) (place_numbers p)) (first_from_one t ps)

verdict_from_one : (t : WidthTable) → FromOne (verdict t)
unfolding verdict
verdict_from_one t = asks_from_one (form_right t) (4, []) _ (omega arith) (first_from_one t (table_order t.levels))

pub checked_zero : (bytes : List ℕ) → code (check_answer bytes) ≡ 0 → check_answer bytes ≡ passed
unfolding check_answer
checked_zero bytes = code_zero (check_answer bytes) (then_from_one (form bytes) (verdict (table_in bytes)) (form_from_one bytes) (verdict_from_one (table_in bytes)))

sided_from_one : (w h : ℕ) → FromOne (side_answer w h)
unfolding side_answer
sided_from_one w h = last_from_one (side_right w && side_right h) 8 (omega arith)

holds_from_one : (n k : ℕ) → FromOne (length_answer n k)
unfolding length_answer
holds_from_one n k = last_from_one (leb n k) 9 (omega arith)

fixed_from_one : (t : WidthTable) (w h : ℕ) (pixels : List ℕ) (plane work : List ℤ) → FromOne (fixed_answer t w h pixels plane work)
unfolding fixed_answer_of pixel_answer
fixed_from_one t w h pixels plane work =
    then_from_one (verdict t) _ (verdict_from_one t)
    (then_from_one (side_answer w h) _ (sided_from_one w h)
    (then_from_one (length_answer (w * h) (length pixels)) _ (holds_from_one _ _)
    (then_from_one (length_answer (w * h) (length plane)) _ (holds_from_one _ _)
    (then_from_one (length_answer (w * h) (length work)) _ (holds_from_one _ _)
    (last_from_one (every (λ p. ltb p (2 ^ t.depth)) (take (w * h) pixels)) 10 (omega arith))))))

pub zero97 : (bytes : List ℕ) (w h : ℕ) (pixels : List ℕ) (plane work : List ℤ) → code (answer97 bytes w h pixels plane work) ≡ 0 → answer97 bytes w h pixels plane work ≡ passed
unfolding answer97
zero97 bytes w h pixels plane work =
    code_zero (answer97 bytes w h pixels plane work)
    (then_from_one (form bytes) (fixed_answer (table_in bytes) w h pixels plane work) (form_from_one bytes) (fixed_from_one (table_in bytes) w h pixels plane work))

-- ---- viewing

view_verdict_from_one : (t : WidthTable) → FromOne (view_verdict t)
unfolding view_verdict
view_verdict_from_one t = then_from_one (verdict t) _ (verdict_from_one t) (last_from_one (viewable t) 13 (omega arith))

pub view_checked_zero : (bytes : List ℕ) → code (view_check_answer bytes) ≡ 0 → view_check_answer bytes ≡ passed
unfolding view_check_answer
view_checked_zero bytes = code_zero (view_check_answer bytes) (then_from_one (form bytes) (view_verdict (table_in bytes)) (form_from_one bytes) (view_verdict_from_one (table_in bytes)))

view_from_one : (t : WidthTable) (w h : ℕ) (plane : List ℤ) (pixels : List ℕ) (work : List ℤ) → FromOne (view_answer t w h plane pixels work)
unfolding view_answer_of coefficients_right
view_from_one t w h plane pixels work =
    then_from_one (view_verdict t) _ (view_verdict_from_one t)
    (then_from_one (side_answer w h) _ (sided_from_one w h)
    (then_from_one (length_answer (w * h) (length pixels)) _ (holds_from_one _ _)
    (then_from_one (length_answer (w * h) (length plane)) _ (holds_from_one _ _)
    (then_from_one (length_answer (w * h) (length work)) _ (holds_from_one _ _)
    (last_from_one (every (λ q. q) (row_by_row w h (in_width t w h (plane_of w plane)))) 12 (omega arith))))))

pub view_zero97 : (bytes : List ℕ) (w h : ℕ) (plane : List ℤ) (pixels : List ℕ) (work : List ℤ) → code (view_answer97 bytes w h plane pixels work) ≡ 0 → view_answer97 bytes w h plane pixels work ≡ passed
unfolding view_answer97
view_zero97 bytes w h plane pixels work =
    code_zero (view_answer97 bytes w h plane pixels work)
    (then_from_one (form bytes) (view_answer (table_in bytes) w h plane pixels work) (form_from_one bytes) (view_from_one (table_in bytes) w h plane pixels work))

-- ---- 5/3

limited_from_one : (B L : ℕ) → FromOne (limit_answer B L)
limited_from_one B L = last_from_one (depth_right B && levels_right L) 4 (omega arith)

pub zero53 : (B L w h : ℕ) (pixels : List ℕ) (plane work : List ℤ) → code (forward_answer B L w h pixels plane work) ≡ 0 → forward_answer B L w h pixels plane work ≡ passed
unfolding forward_answer pixel_answer
zero53 B L w h pixels plane work =
    code_zero (forward_answer B L w h pixels plane work)
    (then_from_one (limit_answer B L) _ (limited_from_one B L)
    (then_from_one (side_answer w h) _ (sided_from_one w h)
    (then_from_one (length_answer (w * h) (length pixels)) _ (holds_from_one _ _)
    (then_from_one (length_answer (w * h) (length plane)) _ (holds_from_one _ _)
    (then_from_one (length_answer (w * h) (length work)) _ (holds_from_one _ _)
    (last_from_one (every (λ p. ltb p (2 ^ B)) (take (w * h) pixels)) 10 (omega arith)))))))

-- the number of an answer is at most m
rule_at_most : (t : Bool) (n m : ℕ) → n ≤ m → code (asks {A = Unit} t n passed) ≤ m
rule_at_most true n m h = omega arith
rule_at_most false n m h = omega arith

then_at_most : (a b : Answer Unit) (m : ℕ) → code a ≤ m → code b ≤ m → code (a then b) ≤ m
then_at_most (done tt) b m h k = k
then_at_most (refused r) b m h k = h

-- a rule after others that have lower numbers: its number says that they hold and that it refused
last_refused : (a : Answer Unit) (t : Bool) (n : ℕ) → code a < n → code (a then asks t n passed) ≡ n → (a ≡ passed) × (a then asks t n passed ≡ refused (n, []))
last_refused (done tt) true n h e = absurd (omega arith)
last_refused (done tt) false n h e = (refl, refl)
last_refused (refused r) t n h e = absurd (omega arith)

module _ (order : Order) (B L w h : ℕ) (plane : List ℤ) (pixels : List ℕ) (work : List ℤ) where
  pub back_zero53 : code (back_answer order B L w h plane pixels work) ≡ 0 → back_answer order B L w h plane pixels work ≡ passed
  unfolding back_answer back_allowed
  back_zero53 =
      code_zero (back_answer order B L w h plane pixels work)
      (then_from_one (back_allowed B L w h plane pixels work) _
      (then_from_one (limit_answer B L) _ (limited_from_one B L)
      (then_from_one (side_answer w h) _ (sided_from_one w h)
      (then_from_one (length_answer (w * h) (length pixels)) _ (holds_from_one _ _)
      (then_from_one (length_answer (w * h) (length plane)) _ (holds_from_one _ _) (holds_from_one _ _)))))
      (last_from_one (has_picture order B L w h plane) 11 (omega arith)))

  -- 4, 8 and 9 are at most 9
  allowed_at_most : code (back_allowed B L w h plane pixels work) ≤ 9
  unfolding back_allowed side_answer length_answer
  allowed_at_most =
      then_at_most (limit_answer B L) _ 9 (rule_at_most (depth_right B && levels_right L) 4 9 (omega arith))
      (then_at_most (side_answer w h) _ 9 (rule_at_most (side_right w && side_right h) 8 9 (omega arith))
      (then_at_most (length_answer (w * h) (length pixels)) _ 9 (rule_at_most (leb (w * h) (length pixels)) 9 9 (omega arith))
      (then_at_most (length_answer (w * h) (length plane)) _ 9 (rule_at_most (leb (w * h) (length plane)) 9 9 (omega arith))
      (rule_at_most (leb (w * h) (length work)) 9 9 (omega arith)))))

  -- the number 11 says that 4, 8 and 9 do not apply and that the call is refused 11
  pub back_eleven53 : code (back_answer order B L w h plane pixels work) ≡ 11 → (back_allowed B L w h plane pixels work ≡ passed) × (back_answer order B L w h plane pixels work ≡ refused (11, []))
  unfolding back_answer
  back_eleven53 = last_refused (back_allowed B L w h plane pixels work) (has_picture order B L w h plane) 11 (omega (arith, allowed_at_most))

-- ---- a rolling scan

pub scan_begin_zero : (bytes state : List ℕ) → code (scan_begin_answer bytes state) ≡ 0 → scan_begin_answer bytes state ≡ passed
unfolding scan_begin_answer begins begin_answer
scan_begin_zero bytes state =
    code_zero (scan_begin_answer bytes state)
    (then_from_one (begins bytes) _
    (then_from_one (form bytes) _ (form_from_one bytes) (asks_from_one (eqb (table_in bytes).levels 1) (14, []) _ (omega arith) (verdict_from_one (table_in bytes))))
    (last_from_one (leb scan_length (length state)) 9 (omega arith)))

line_from_one : (s : Scan) (pixels : List ℕ) (w : ℕ) (held out : List ℤ) → FromOne (line_answer s pixels w held out)
unfolding line_answer_of pixel_answer
line_from_one s pixels w held out =
    asks_from_one (goes_on s && (not (any_taken s.taken) || eqb w s.width)) (14, []) _ (omega arith)
    (asks_from_one (side_right w) (8, []) _ (omega arith)
    (then_from_one (length_answer w (length pixels)) _ (holds_from_one _ _)
    (then_from_one (length_answer (held_lines * w) (length held)) _ (holds_from_one _ _)
    (then_from_one (length_answer (out_lines * w) (length out)) _ (holds_from_one _ _)
    (last_from_one (every (λ p. ltb p (2 ^ s.table.depth)) (take (w * 1) pixels)) 10 (omega arith))))))

end_from_one : (s : Scan) (held out : List ℤ) → FromOne (end_answer s held out)
unfolding end_answer_of
end_from_one s held out =
    asks_from_one (goes_on s && any_taken s.taken) (14, []) _ (omega arith)
    (then_from_one (length_answer (held_lines * s.width) (length held)) _ (holds_from_one _ _) (holds_from_one _ _))

scan_from_one : (state : List ℕ) → FromOne (scan_in state)
unfolding scan_in
scan_from_one state =
    asks_from_one (leb scan_length (length state)) (9, []) _ (omega arith)
    (asks_from_one (scan_right state) (14, []) _ (omega arith) (done_from_one (scan_held state)))

pub scan_line_zero : (state pixels : List ℕ) (w : ℕ) (held out : List ℤ) → code (scan_line_answer state pixels w held out) ≡ 0 → scan_line_answer state pixels w held out ≡ passed
unfolding scan_line_answer
scan_line_zero state pixels w held out =
    code_zero (scan_line_answer state pixels w held out) (then_from_one (scan_in state) _ (scan_from_one state) (line_from_one (scan_held state) pixels w held out))

pub scan_end_zero : (state : List ℕ) (held out : List ℤ) → code (scan_end_answer state held out) ≡ 0 → scan_end_answer state held out ≡ passed
unfolding scan_end_answer
scan_end_zero state held out = code_zero (scan_end_answer state held out) (then_from_one (scan_in state) _ (scan_from_one state) (end_from_one (scan_held state) held out))
