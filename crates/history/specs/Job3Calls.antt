-- Document 02, job 3, at the C interface: of bytes that document 01, with its four fields, did not refuse 5, the answer of every call that
-- takes a table's bytes changes exactly as reading's does, and what the call is lent holds the same afterwards. The rules after the form
-- stand as they are (without tag 5 they say what they said before job 7: WithoutProducts). (suz_table_form answers by `form` and
-- suz_table_value by `name_answer`: `present_changes`, `Wrong-name` and `name_changes` of width_table.)
use Rattle.std.specs.Prelude.{ℕ, Bool, false, List, ◌≡◌, leb, length, ℤ}
use Rattle.std.proofs.Common.{sym, ◌∙◌}
use Rattle.std.proofs.Math.Path.{ap, subst}
use Rattle.numbers.specs.Lists.{over}
use Rattle.refusals.specs.Answers.{Answer, passed, asks, ◌then◌, answered}
use Rattle.refusals.specs.AnswerLaws.{then_assoc}
use Rattle.width_table.specs.declared.WidthTable.{WidthTable}
use Rattle.table_bytes.specs.Fields.{table_size, value_start, value_length}
use Rattle.table_bytes.specs.Bytes.{levels_in, has_fifth, form, table_in, bytes_of_table}
use Rattle.history.specs.EarlierForms.{earlier_form, earlier_name_answer, NotFive, PresentChanges}
use Rattle.history.specs.Job3Forms.{earlier_four, call_changes, same_after, same_lent, same_named}
use Rattle.precision.specs.Verdict.{verdict}
use Rattle.precision.specs.BoundCalls.{bound_answer}
use Rattle.irreversible.specs.Calls.{fixed_answer, fixed_plane_after, fixed_work}
use Rattle.view_precision.specs.Bounds.{view_verdict, view_distance}
use Rattle.viewing.specs.Calls.{view_answer, view_pixels, view_work}
use Rattle.rolling.specs.Calls.{begin_answer, scan_of}
use Rattle.scan_bytes.specs.ScanBytes.{scan_length, state_bytes}
use Rattle.table_calls.specs.Calls.{check_answer, answer97, plane97, work97}
use Rattle.engine.specs.Answers.{start_after, length_after, table_bound_answer, bound_in, range_after, error_after, new_table_answer, new_table_out, view_check_answer, distance_after, view_answer97, view_pixels97, view_work97}
use Rattle.engine.specs.ScanAnswers.{begins, scan_begin_answer, scan_begin_state}

module _ (bytes : List ℕ) where
  -- suz_table_check
  pub check_changes : PresentChanges bytes (earlier_form bytes then verdict (table_in bytes)) (check_answer bytes)
  unfolding check_answer
  check_changes = call_changes bytes (verdict (table_in bytes))

  -- suz_table_view, suz_view_distance
  abbrev earlier_view_checked : Answer Unit
  earlier_view_checked = earlier_form bytes then view_verdict (table_in bytes)

  pub view_check_changes : PresentChanges bytes earlier_view_checked (view_check_answer bytes)
  unfolding view_check_answer
  view_check_changes = call_changes bytes (view_verdict (table_in bytes))

  pub same_distance : NotFive bytes → (distance : ℕ) → distance_after bytes distance ≡ answered earlier_view_checked (view_distance (table_in bytes)) distance
  unfolding distance_after view_check_answer
  same_distance k distance = same_lent bytes (view_verdict (table_in bytes)) k (view_distance (table_in bytes)) distance

  -- suz_table_value
  pub same_start : NotFive bytes → (tag start : ℕ) → start_after bytes tag start ≡ answered (earlier_name_answer bytes tag) (value_start (levels_in bytes) tag) start
  unfolding start_after
  same_start k tag start = same_named bytes tag k (value_start (levels_in bytes) tag) start

  pub same_length : NotFive bytes → (tag len : ℕ) → length_after bytes tag len ≡ answered (earlier_name_answer bytes tag) (value_length (levels_in bytes) tag) len
  unfolding length_after
  same_length k tag len = same_named bytes tag k (value_length (levels_in bytes) tag) len

  -- suz_table_bound
  module _ (level pass node : ℕ) where
    abbrev earlier_bound : Answer Unit
    earlier_bound = earlier_form bytes then bound_answer (table_in bytes) level pass node

    pub bound_changes : PresentChanges bytes earlier_bound (table_bound_answer bytes level pass node)
    unfolding table_bound_answer
    bound_changes = call_changes bytes (bound_answer (table_in bytes) level pass node)

    pub same_range : NotFive bytes → (range : ℕ) → range_after bytes level pass node range ≡ answered earlier_bound (bound_in bytes level pass node).range range
    unfolding range_after table_bound_answer
    same_range k range = same_lent bytes (bound_answer (table_in bytes) level pass node) k (bound_in bytes level pass node).range range

    pub same_error : NotFive bytes → (error : ℕ) → error_after bytes level pass node error ≡ answered earlier_bound (bound_in bytes level pass node).error error
    unfolding error_after table_bound_answer
    same_error k error = same_lent bytes (bound_answer (table_in bytes) level pass node) k (bound_in bytes level pass node).error error

  -- suz_table_change, suz_table_change_constant (suz_table_change_product came with job 7)
  module _ (change : Answer Unit) (out : List ℕ) where
    -- 4 for the change, and 9 where the lent bytes are too short for a table of four fields or of five
    abbrev rest : Bool → Answer Unit
    rest has_products = change then asks (leb (table_size has_products (levels_in bytes)) (length out)) 9 passed

    pub new_table_changes : PresentChanges bytes (earlier_form bytes then rest false) (new_table_answer bytes change out)
    unfolding new_table_answer
    new_table_changes = subst (λ (o : Answer Unit). PresentChanges bytes o (new_table_answer bytes change out)) (earlier_four bytes rest) (call_changes bytes (rest (has_fifth bytes)))

    pub same_out : NotFive bytes → (new : WidthTable) → new_table_out bytes change out new ≡ answered (earlier_form bytes then rest false) (over (bytes_of_table new) out) out
    unfolding new_table_out new_table_answer
    same_out k new = same_lent bytes (rest (has_fifth bytes)) k (over (bytes_of_table new) out) out ∙ ap (λ (o : Answer Unit). answered o (over (bytes_of_table new) out) out) (earlier_four bytes rest)

  -- suz_forward97
  module _ (w h : ℕ) (pixels : List ℕ) (plane work : List ℤ) where
    pub forward_changes : PresentChanges bytes (earlier_form bytes then fixed_answer (table_in bytes) w h pixels plane work) (answer97 bytes w h pixels plane work)
    unfolding answer97
    forward_changes = call_changes bytes (fixed_answer (table_in bytes) w h pixels plane work)

    pub same_plane : NotFive bytes → plane97 bytes w h pixels plane work ≡ answered (earlier_form bytes) (fixed_plane_after (table_in bytes) w h pixels plane work) plane
    unfolding plane97
    same_plane k = same_after bytes k (fixed_plane_after (table_in bytes) w h pixels plane work) plane

    pub same_work : NotFive bytes → work97 bytes w h pixels plane work ≡ answered (earlier_form bytes) (fixed_work (table_in bytes) w h pixels plane work) work
    unfolding work97
    same_work k = same_after bytes k (fixed_work (table_in bytes) w h pixels plane work) work

  -- suz_view97
  module _ (w h : ℕ) (plane : List ℤ) (pixels : List ℕ) (work : List ℤ) where
    pub view_changes : PresentChanges bytes (earlier_form bytes then view_answer (table_in bytes) w h plane pixels work) (view_answer97 bytes w h plane pixels work)
    unfolding view_answer97
    view_changes = call_changes bytes (view_answer (table_in bytes) w h plane pixels work)

    pub same_view_pixels : NotFive bytes → view_pixels97 bytes w h plane pixels work ≡ answered (earlier_form bytes) (view_pixels (table_in bytes) w h plane pixels work) pixels
    unfolding view_pixels97
    same_view_pixels k = same_after bytes k (view_pixels (table_in bytes) w h plane pixels work) pixels

    pub same_view_work : NotFive bytes → view_work97 bytes w h plane pixels work ≡ answered (earlier_form bytes) (view_work (table_in bytes) w h plane pixels work) work
    unfolding view_work97
    same_view_work k = same_after bytes k (view_work (table_in bytes) w h plane pixels work) work

  -- suz_scan_begin, which came with job 5
  module _ (state : List ℕ) where
    abbrev begin : Answer Unit
    begin = begin_answer (table_in bytes) then asks (leb scan_length (length state)) 9 passed

    begin_answer_lem : form bytes then begin ≡ scan_begin_answer bytes state
    unfolding scan_begin_answer begins
    begin_answer_lem = then_assoc (form bytes) (begin_answer (table_in bytes)) _

    pub begin_changes : PresentChanges bytes (earlier_form bytes then begin) (scan_begin_answer bytes state)
    begin_changes = subst (PresentChanges bytes (earlier_form bytes then begin)) begin_answer_lem (call_changes bytes begin)

    pub same_state : NotFive bytes → scan_begin_state bytes state ≡ answered (earlier_form bytes then begin) (over (state_bytes (scan_of (table_in bytes))) state) state
    unfolding scan_begin_state
    same_state k =
        let new = over (state_bytes (scan_of (table_in bytes))) state in
        ap (λ (o : Answer Unit). answered o new state) (sym begin_answer_lem) ∙ same_lent bytes begin k new state
