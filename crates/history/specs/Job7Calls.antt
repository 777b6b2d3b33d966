-- Document 02, job 7, at the C interface: with a table's bytes in which no byte 5 follows the fourth field, a call answers as before, and
-- what it is lent holds the same afterwards; no product's width can be changed. Each equation has on its right what stood before: the form
-- of four fields (`form_without`), the analysis and the lifting in which no product is cut (`old_verdict`, `old_bound_answer`, `old_bound_of`,
-- `uncut_plane`), the bytes of four fields. Rules of a change, of strips and of viewing, which cuts no product (Products of viewing), stand as
-- they are; what the form in memory asks of products besides holds of every table that is read (`read_formed` of width_table).
-- (suz_table_form answers by `form` and suz_table_value by `name_answer`: `reads_as_before`, and `names_as_before` for every tag but 5, of
-- width_table.)
use Prim.Native.Nat.{ℕ, ◌*◌}
use Rattle.std.proofs.Math.Bool.{Bool, false}
use Rattle.std.specs.Prelude.{true, ◌≡◌, refl, leb, eqb, length, ℤ}
use mathlib.Core.List.{List, []}
use Rattle.std.proofs.Math.Path.{sym, ap, ap₂}
use Rattle.std.proofs.Common.{◌∙◌}
use Rattle.numbers.specs.Lists.{over}
use Rattle.refusals.specs.Answers.{Answer, done, refused, passed, asks, ◌then◌, answered}
use Rattle.refusals.specs.AnswerLaws.{then_assoc}
use Rattle.lines.specs.Planes.{Plane, row_by_row}
use Rattle.width_table.specs.declared.WidthTable.{WidthTable}
use Rattle.width_table.specs.Numbered.{pass_of, node_of}
use Rattle.width_table.specs.Nodes.{node_at}
use Rattle.table_bytes.specs.Fields.{fields, table_size, value_start, value_length, bytes_of}
use Rattle.table_bytes.specs.Bytes.{levels_in, has_fifth, form, table_in, bytes_of_table}
use Rattle.width_table.specs.Changes.{width_answer, with_width, constant_answer, with_constant, with_product}
use Rattle.width_table.specs.FormLaws.{no_products_lem}
use Rattle.history.specs.EarlierForms.{form_without, name_answer_without}
use Rattle.history.specs.Job7Forms.{then_answered, reads_as_before, named_as_before, writes_as_before}
use Rattle.pictures.specs.Pictures.{side_answer, length_answer, pixel_answer, plane_of}
use Rattle.slices.specs.Fronts.{zeroed}
use Rattle.stages.specs.Rule.{Bound}
use Rattle.history.specs.EarlierAnalysis.{old_bound_of, old_verdict, old_bound_answer}
use Rattle.history.specs.Job7Analysis.{old_bounds, old_verdict_lem, old_bound_told}
use Rattle.irreversible.specs.Calls.{fixed_answer_of, fixed_answer, fixed_plane_after, fixed_work}
use Rattle.history.specs.EarlierLifting.{uncut_plane}
use Rattle.history.specs.Job7Lifting.{old_coefficients}
use Rattle.view_precision.specs.Bounds.{view_distance, viewable, view_verdict}
use Rattle.viewing.specs.View.{view_picture}
use Rattle.viewing.specs.Calls.{coefficients_right, view_answer_of, view_answer, view_pixels, view_work}
use Rattle.rolling_lines.specs.declared.Taken.TheVariants.{Zero}
use Rattle.rolling.specs.declared.Scan.{Scan}
use Rattle.rolling.specs.Calls.{begin_answer, scan_of}
use Rattle.scan_bytes.specs.ScanBytes.{scan_length, state_bytes}
use Rattle.table_calls.specs.Calls.{check_answer, answer97, plane97, work97}
use Rattle.engine.specs.Answers.{start_after, length_after, table_bound_answer, bound_in, range_after, error_after, new_table_answer, new_table_out, change_out, constant_change_out, product_change_answer, product_change_out, view_check_answer, distance_after, view_answer97, view_pixels97, view_work97}
use Rattle.engine.specs.ScanAnswers.{begins, scan_begin_answer, scan_begin_state}

answered_none : {B : Type 0} (o : Answer Unit) (old : B) → answered o old old ≡ old
answered_none (done tt) old = refl
answered_none (refused r) old = refl

module _ (bytes : List ℕ) (none : has_fifth bytes ≡ false) where
  abbrev t : WidthTable
  t = table_in bytes

  without : t.has_products ≡ false
  unfolding table_in
  without = none

  -- suz_table_check
  pub old_check : check_answer bytes ≡ form_without bytes then old_verdict t
  unfolding check_answer
  old_check = ap₂ (λ (a b : Answer Unit). a then b) (reads_as_before bytes none) (old_verdict_lem t without)

  -- suz_table_value
  module _ (tag : ℕ) where
    pub old_start : (start : ℕ) → start_after bytes tag start ≡ answered (name_answer_without bytes tag) (value_start (levels_in bytes) tag) start
    unfolding start_after
    old_start start = named_as_before bytes tag (reads_as_before bytes none) (value_start (levels_in bytes) tag) start

    pub old_length : (len : ℕ) → length_after bytes tag len ≡ answered (name_answer_without bytes tag) (value_length (levels_in bytes) tag) len
    unfolding length_after
    old_length len = named_as_before bytes tag (reads_as_before bytes none) (value_length (levels_in bytes) tag) len

  -- suz_table_bound
  module _ (level pass node : ℕ) where
    abbrev told : Bound
    told = old_bound_of t (node_at level (pass_of pass) (node_of node))

    pub old_bound : bound_in bytes level pass node ≡ told
    old_bound = old_bounds t without (node_at level (pass_of pass) (node_of node))

    pub old_bound_answer_lem : table_bound_answer bytes level pass node ≡ form_without bytes then old_bound_answer t level pass node
    unfolding table_bound_answer
    old_bound_answer_lem = ap₂ (λ (a b : Answer Unit). a then b) (reads_as_before bytes none) (old_bound_told t without level pass node)

    pub old_range : (range : ℕ) → range_after bytes level pass node range ≡ answered (form_without bytes then old_bound_answer t level pass node) told.range range
    unfolding range_after
    old_range range = ap₂ (λ (o : Answer Unit) (b : Bound). answered o b.range range) old_bound_answer_lem old_bound

    pub old_error : (error : ℕ) → error_after bytes level pass node error ≡ answered (form_without bytes then old_bound_answer t level pass node) told.error error
    unfolding error_after
    old_error error = ap₂ (λ (o : Answer Unit) (b : Bound). answered o b.error error) old_bound_answer_lem old_bound

  -- suz_table_change, suz_table_change_constant
  module _ (change : Answer Unit) (out : List ℕ) where
    abbrev old_new_table : Answer Unit
    old_new_table = form_without bytes then change then asks (leb (table_size false (levels_in bytes)) (length out)) 9 passed

    pub old_change : new_table_answer bytes change out ≡ old_new_table
    unfolding new_table_answer
    old_change = ap₂ (λ (o : Answer Unit) (has_products : Bool). o then change then asks (leb (table_size has_products (levels_in bytes)) (length out)) 9 passed) (reads_as_before bytes none) none

    old_out : (new : WidthTable) → new.has_products ≡ false → new_table_out bytes change out new ≡ answered old_new_table (over (bytes_of (fields false new.levels) new) out) out
    unfolding new_table_out
    old_out new e = ap₂ (λ (o : Answer Unit) (l : List ℕ). answered o (over l out) out) old_change (writes_as_before new e).0

  module _ (level pass node IB f : ℕ) (out : List ℕ) where
    pub old_width_out : change_out bytes level pass node IB f out ≡ answered (old_new_table (width_answer t level pass node IB f) out) (over (bytes_of (fields false t.levels) (with_width t level pass node IB f)) out) out
    old_width_out = old_out (width_answer t level pass node IB f) out (with_width t level pass node IB f) without

  module _ (node F : ℕ) (out : List ℕ) where
    pub old_constant_out : constant_change_out bytes node F out ≡ answered (old_new_table (constant_answer t node F) out) (over (bytes_of (fields false t.levels) (with_constant t node F)) out) out
    old_constant_out = old_out (constant_answer t node F) out (with_constant t node F) without

  -- suz_table_change_product, which is new: 4 after 1 to 5, and out stays
  module _ (level pass product fp : ℕ) (out : List ℕ) where
    pub no_change : product_change_answer bytes level pass product fp out ≡ form bytes then refused (4, [])
    unfolding new_table_answer
    no_change = ap (λ (change : Answer Unit). form bytes then change then asks (leb (table_size (has_fifth bytes) (levels_in bytes)) (length out)) 9 passed) (sym (no_products_lem t level pass product fp without).0)

    pub out_stays : product_change_out bytes level pass product fp out ≡ out
    unfolding new_table_out
    out_stays =
        let new = over (bytes_of_table (with_product t level pass product fp)) out in
        ap (λ (o : Answer Unit). answered o new out) no_change ∙ sym (then_answered (form bytes) (refused (4, [])) new out) ∙ answered_none (form bytes) out

  -- suz_forward97
  module _ (w h : ℕ) (pixels : List ℕ) (plane work : List ℤ) where
    -- 8, 9, 10
    abbrev pub strip : Answer Unit
    strip = side_answer w h then length_answer (w * h) (length pixels) then length_answer (w * h) (length plane) then length_answer (w * h) (length work) then pixel_answer t.depth w h pixels

    pub old_answer : answer97 bytes w h pixels plane work ≡ form_without bytes then old_verdict t then strip
    unfolding answer97 fixed_answer_of
    old_answer = ap₂ (λ (a b : Answer Unit). a then b then strip) (reads_as_before bytes none) (old_verdict_lem t without)

    -- what stands where the call is done, and where not
    old_after_lem : {B : Type 0} (x y : B) → answered (form bytes) (answered (fixed_answer t w h pixels plane work) x y) y ≡ answered (form_without bytes then old_verdict t then strip) x y
    unfolding answer97
    old_after_lem x y = then_answered (form bytes) (fixed_answer t w h pixels plane work) x y ∙ ap (λ (o : Answer Unit). answered o x y) old_answer

    pub old_plane : plane97 bytes w h pixels plane work ≡ answered (form_without bytes then old_verdict t then strip) (over (row_by_row w h (uncut_plane t pixels w h)) plane) plane
    unfolding plane97 fixed_plane_after
    old_plane =
        ap (λ (p : Plane ℤ). answered (form bytes) (answered (fixed_answer t w h pixels plane work) (over (row_by_row w h p) plane) plane) plane) (old_coefficients t pixels w h without)
        ∙ old_after_lem (over (row_by_row w h (uncut_plane t pixels w h)) plane) plane

    pub old_work : work97 bytes w h pixels plane work ≡ answered (form_without bytes then old_verdict t then strip) (zeroed (w * h) work) work
    unfolding work97 fixed_work
    old_work = old_after_lem (zeroed (w * h) work) work

  -- suz_table_view, suz_view_distance
  abbrev old_view_verdict : Answer Unit
  old_view_verdict = old_verdict t then asks (viewable t) 13 passed

  old_view_verdict_lem : view_verdict t ≡ old_view_verdict
  unfolding view_verdict
  old_view_verdict_lem = ap (λ (o : Answer Unit). o then asks (viewable t) 13 passed) (old_verdict_lem t without)

  pub old_view_check : view_check_answer bytes ≡ form_without bytes then old_view_verdict
  unfolding view_check_answer
  old_view_check = ap₂ (λ (a b : Answer Unit). a then b) (reads_as_before bytes none) old_view_verdict_lem

  pub old_distance : (distance : ℕ) → distance_after bytes distance ≡ answered (form_without bytes then old_view_verdict) (view_distance t) distance
  unfolding distance_after
  old_distance distance = ap (λ (o : Answer Unit). answered o (view_distance t) distance) old_view_check

  -- suz_view97
  module _ (w h : ℕ) (plane : List ℤ) (pixels : List ℕ) (work : List ℤ) where
    -- 8, 9, 12
    abbrev pub shown : Answer Unit
    shown = side_answer w h then length_answer (w * h) (length pixels) then length_answer (w * h) (length plane) then length_answer (w * h) (length work) then coefficients_right t w h plane

    pub old_view : view_answer97 bytes w h plane pixels work ≡ form_without bytes then old_view_verdict then shown
    unfolding view_answer97 view_answer_of
    old_view = ap₂ (λ (a b : Answer Unit). a then b then shown) (reads_as_before bytes none) old_view_verdict_lem

    old_view_after : {B : Type 0} (x y : B) → answered (form bytes) (answered (view_answer t w h plane pixels work) x y) y ≡ answered (form_without bytes then old_view_verdict then shown) x y
    unfolding view_answer97
    old_view_after x y = then_answered (form bytes) (view_answer t w h plane pixels work) x y ∙ ap (λ (o : Answer Unit). answered o x y) old_view

    pub old_view_pixels : view_pixels97 bytes w h plane pixels work ≡ answered (form_without bytes then old_view_verdict then shown) (over (row_by_row w h (view_picture t w h (plane_of w plane))) pixels) pixels
    unfolding view_pixels97 view_pixels
    old_view_pixels = old_view_after (over (row_by_row w h (view_picture t w h (plane_of w plane))) pixels) pixels

    pub old_view_work : view_work97 bytes w h plane pixels work ≡ answered (form_without bytes then old_view_verdict then shown) (zeroed (w * h) work) work
    unfolding view_work97 view_work
    old_view_work = old_view_after (zeroed (w * h) work) work

  -- suz_scan_begin. How long a state is, and the bytes of a scan, are the library's own: job 7 gave them room for tag 5.
  module _ (state : List ℕ) where
    -- 14, then 4, 6 and 7; then 9
    abbrev old_begin : Answer Unit
    old_begin = asks (eqb t.levels 1) 14 (old_verdict t)

    abbrev state_room : Answer Unit
    state_room = asks (leb scan_length (length state)) 9 passed

    pub old_begin_lem : scan_begin_answer bytes state ≡ form_without bytes then old_begin then state_room
    unfolding scan_begin_answer begins begin_answer
    old_begin_lem =
        sym (then_assoc (form bytes) (begin_answer t) state_room)
        ∙ ap₂ (λ (a b : Answer Unit). a then asks (eqb t.levels 1) 14 b then state_room) (reads_as_before bytes none) (old_verdict_lem t without)

    -- a scan that begins: no line is taken, and it has not ended
    abbrev begun : Bool → Scan
    begun ended = record { table = t; width = 0; taken = Zero; ended = ended }

    pub old_state : scan_begin_state bytes state ≡ answered (form_without bytes then old_begin then state_room) (over (state_bytes (begun false)) state) state
    unfolding scan_begin_state scan_of begin_answer
    old_state =
        ap₂ (λ (o v : Answer Unit). answered o (over (state_bytes (begun (answered (asks (eqb t.levels 1) 14 v) false true))) state) state) old_begin_lem (old_verdict_lem t without)
        ∙ not_ended (form_without bytes) old_begin
      where
        left : Bool → List ℕ
        left ended = over (state_bytes (begun ended)) state

        not_ended : (o b : Answer Unit) → answered (o then b then state_room) (left (answered b false true)) state ≡ answered (o then b then state_room) (left false) state
        not_ended (done u) (done v) = refl
        not_ended (done u) (refused r) = refl
        not_ended (refused r) b = refl
