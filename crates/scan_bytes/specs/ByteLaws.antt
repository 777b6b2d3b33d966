-- A scan that was written is read back as itself (`read_written`), and bytes from which one was read are those it is written as
-- (`written_read`). For the code: what each case of reading and writing gives.
use Rattle.std.specs.List.{list_all}
use Rattle.std.specs.Prelude.{ℕ, zero, suc, ◌+◌, ◌*◌, ◌-◌, ◌/◌, ◌%◌, ◌<◌, ◌≤◌, Bool, ◌&&◌, ◌≡◌, get_or, set}
use Rattle.std.proofs.Math.Bool.{true, false}
use mathlib.Core.List.{List, [], ◌∷◌, ◌++◌, append_assoc}
use Rattle.std.proofs.Math.Path.{refl, sym, ap, ap₂}
use Rattle.std.proofs.Common.{◌∙◌, subst, arith, div-add-mod', le→leb, leb→le, lt→ltb, ltb→lt, eqb→eq, get_or-append-add, take-take, take-add, le-ltb}
use Rattle.std.proofs.Math.Dec.{T, leb, ltb, eqb}
use Rattle.std.proofs.Math.ListN.{length, take, drop, replicate, length-append, length-drop, length-replicate, take-append-drop, get_or-append}
use Rattle.std.proofs.lemmas.List.{replicate-append-replicate, drop-append-le, set_at}
use Rattle.std.proofs.Math.Seq.{take_at, drop_at, length_front, length-take-le, drop-drop, append_snoc}
use Rattle.numbers.specs.Lists.{over, next_two, zeros, zeros_right, next_one}
use Rattle.numbers.specs.Tests.{every, three, four, is_true, and_intro, left_false, right_false, by_eqb}
use Rattle.refusals.specs.Answers.{Reason, Answer, done, refused, passed, asks, answered}
use Rattle.refusals.specs.AnswerLaws.{asks_done, gives_done, asks_right, asks_wrong, answered_done, answered_refused}
use Rattle.width_table.specs.declared.WidthTable.{WidthTable}
use Rattle.width_table.specs.Table.{form_right}
use Rattle.table_bytes.specs.Fields.{products_tag, table_size}
use Rattle.table_bytes.specs.Bytes.{headed, field, form_by, levels_in, has_fifth, form, table_in, bytes_of_table, bytes_after}
use Rattle.width_table.specs.Lists.{FullLists}
use Rattle.table_bytes.specs.BytesLaws.{RightForm, right_form, form_long, fifth_written, bytes_length, written_read as tables-read, read_written as tables-back}
use Rattle.table_bytes.specs.ReadLaws.{table_read_lem}
use Rattle.table_bytes.specs.RoundTrip.{written_reads}
use Rattle.table_bytes.specs.WriteLaws.{table_written_lem}
use Rattle.rolling_lines.specs.declared.Taken.{Taken}
use Rattle.rolling_lines.specs.declared.Taken.TheVariants.{Zero, One, Two, Three, Four, OddMany, EvenMany}
use Rattle.rolling.specs.declared.Scan.{Scan}
use Rattle.rolling.specs.AnswerLaws.{answered_passed}
use Rattle.std.proofs.lemmas.Bool.{lt-leb}
use Rattle.scan_bytes.specs.ScanBytes.{table_room, scan_length, taken_number, ended_number, numbers_of, number_bytes, room_bytes, state_bytes, keepable, taken_of, table_end, scan_held, scan_right, scan_in, ended_scan, scan_read, state_after, numbers_after}
use Rattle.std.proofs.lemmas.List.Edits.{sets, sets-eq}

-- ---- what bytes can hold

-- a scan that bytes can hold
pub record Keepable (s : Scan) : Type 0 where
  pub sized : FullLists s.table
  pub form : T (form_right s.table)
  pub one : s.table.levels ≡ 1
  pub narrow : s.width < 65536

pub can_keep : (s : Scan) → T (form_right s.table) → s.table.levels ≡ 1 → s.width < 65536 → keepable s ≡ true
unfolding keepable
can_keep s right one narrow =
    let a = form_right s.table in
    let b = eqb s.table.levels 1 in
    let d = ltb s.width 65536 in
    is_true (a && b && d) (and_intro (a && b) d (and_intro a b right (subst (λ (n : ℕ). T (eqb n 1)) (sym one) tt)) (lt→ltb s.width 65536 narrow))

-- what is read has the lengths of a table's parts
pub kept_is : (s : Scan) → FullLists s.table → keepable s ≡ true → Keepable s
unfolding keepable
kept_is s z e =
    let h = three (form_right s.table) (eqb s.table.levels 1) (ltb s.width 65536) (subst T (sym e) tt) in
    record { sized = z; form = h.0; one = eqb→eq _ _ h.1; narrow = ltb→lt _ _ h.2 }

-- ---- written, then read

taken_back : (k : Taken) → taken_of (taken_number k) ≡ k
taken_back Zero = refl
taken_back One = refl
taken_back Two = refl
taken_back Three = refl
taken_back Four = refl
taken_back OddMany = refl
taken_back EvenMany = refl

taken_few : (k : Taken) → T (leb (taken_number k) 6)
taken_few Zero = tt
taken_few One = tt
taken_few Two = tt
taken_few Three = tt
taken_few Four = tt
taken_few OddMany = tt
taken_few EvenMany = tt

ended_back : (b : Bool) → eqb (ended_number b) 1 ≡ b
ended_back true = refl
ended_back false = refl

ended_few : (b : Bool) → T (leb (ended_number b) 1)
ended_few true = tt
ended_few false = tt

-- a table of one level has room, with tag 5 and without it (document 02, job 7)
table_fits : (has_products : Bool) → table_size has_products 1 ≤ table_room
table_fits true = omega arith
table_fits false = omega arith

pub end_fits : (bytes : List ℕ) → table_end bytes ≤ table_room
end_fits bytes = table_fits (eqb (get_or bytes (table_size false 1) 0) products_tag)

-- no table of another number of levels has as many bytes
as_many : (a : Bool) (L : ℕ) (b : Bool) → table_size a L ≡ table_size b 1 → (a ≡ b) × (L ≡ 1)
as_many true L true h = (refl, omega arith)
as_many true L false h = absurd (omega arith)
as_many false L true h = absurd (omega arith)
as_many false L false h = (refl, omega arith)

module _ (s : Scan) (k : Keepable s) where
  abbrev has_products : Bool
  has_products = s.table.has_products

  abbrev size : ℕ
  size = table_size has_products 1

  abbrev written : List ℕ
  written = bytes_of_table s.table

  abbrev left : List ℕ
  left = replicate (table_room - size) 0

  its_form : RightForm s.table
  its_form = right_form s.table k.sized k.form

  table_long : length written ≡ size
  table_long = bytes_length s.table k.sized its_form ∙ ap (table_size has_products) k.one

  room_long : length (room_bytes s.table) ≡ table_room
  unfolding room_bytes
  room_long = length-append written left ∙ omega (arith, table_long, length-replicate {A = ℕ} (table_room - size) 0, table_fits has_products)

  pub state_long : length (state_bytes s) ≡ scan_length
  unfolding state_bytes
  state_long = length-append (room_bytes s.table) (number_bytes s) ∙ ap (λ (n : ℕ). n + 4) room_long

  -- the byte right after the fourth field: 5 where tag 5 is there, and else 0
  fifth_byte : (more : List ℕ) → eqb (get_or (room_bytes s.table ++ more) (table_size false 1) 0) products_tag ≡ has_products
  unfolding room_bytes table_in
  fifth_byte more = ap (λ (n : ℕ). eqb n products_tag) (get_or-append (written ++ left) more 0 (table_size false 1) (omega (arith, room_long))) ∙ go has_products refl
    where
      go : (x : Bool) → has_products ≡ x → eqb (get_or (written ++ left) (table_size false 1) 0) products_tag ≡ has_products
      go true e =
          let long : length written ≡ table_room = table_long ∙ ap (λ (x : Bool). table_size x 1) e in
          let one : levels_in written ≡ 1 = ap (λ (t : WidthTable). t.levels) (tables-read s.table k.sized its_form) ∙ k.one in
          ap (λ (n : ℕ). eqb n products_tag) (get_or-append written left 0 (table_size false 1) (omega (arith, long)))
          ∙ ap (λ (L : ℕ). eqb (get_or written (table_size false L) 0) products_tag) (sym one)
          ∙ fifth_written s.table k.sized its_form
      go false e =
          let long : length written ≡ table_size false 1 = table_long ∙ ap (λ (x : Bool). table_size x 1) e in
          let here : table_size false 1 ≡ length written + 0 = omega (arith, long) in
          ap (λ (n : ℕ). eqb (get_or (written ++ left) n 0) products_tag) here
          ∙ ap (λ (n : ℕ). eqb n products_tag) (get_or-append-add written left 0 0)
          ∙ ap (λ (x : Bool). eqb (get_or (replicate (table_room - table_size x 1) 0) 0 0) products_tag) e
          ∙ sym e

  module _ (more : List ℕ) where
    abbrev rest : List ℕ
    rest = number_bytes s ++ more

    split : state_bytes s ++ more ≡ room_bytes s.table ++ rest
    unfolding state_bytes
    split = append_assoc (room_bytes s.table) (number_bytes s) more

    ends : table_end (state_bytes s ++ more) ≡ size
    ends = ap (λ (x : Bool). table_size x 1) (ap (λ (l : List ℕ). eqb (get_or l (table_size false 1) 0) products_tag) split ∙ fifth_byte rest)

    at_room : take table_room (state_bytes s ++ more) ≡ room_bytes s.table
    at_room = ap (take table_room) split ∙ take_at (room_bytes s.table) rest table_room room_long

    at_table : take (table_end (state_bytes s ++ more)) (state_bytes s ++ more) ≡ written
    unfolding room_bytes
    at_table =
        ap (λ (n : ℕ). take n (state_bytes s ++ more)) ends
        ∙ sym (take-take size table_room (state_bytes s ++ more) (table_fits has_products))
        ∙ ap (take size) at_room
        ∙ take_at written left size table_long

    at_left : drop (table_end (state_bytes s ++ more)) (take table_room (state_bytes s ++ more)) ≡ left
    unfolding room_bytes
    at_left = ap₂ (λ (n : ℕ) (l : List ℕ). drop n l) ends at_room ∙ drop_at written left size table_long

    at_number : (i : ℕ) → get_or (state_bytes s ++ more) (table_room + i) 0 ≡ get_or rest i 0
    at_number i =
        ap (λ (l : List ℕ). get_or l (table_room + i) 0) split
        ∙ ap (λ (n : ℕ). get_or (room_bytes s.table ++ rest) (n + i) 0) (sym room_long)
        ∙ get_or-append-add (room_bytes s.table) rest i 0

    reads : let l = take (table_end (state_bytes s ++ more)) (state_bytes s ++ more) in (form l ≡ passed) × (table_in l ≡ s.table)
    reads =
        let (formed, back) = written_reads s.table k.sized (is_true (form_right s.table) k.form) in
        subst (λ (l : List ℕ). (form l ≡ passed) × (table_in l ≡ s.table)) (sym at_table) (formed, sym (table_read_lem written formed) ∙ back)

    right : T (scan_right (state_bytes s ++ more))
    unfolding scan_right
    right =
        let b = state_bytes s ++ more in
        let f = answered (form (take (table_end b) b)) true false in
        let z = every (eqb 0) (drop (table_end b) (take table_room b)) in
        let n = leb (get_or b (table_room + 2) 0) 6 in
        let e = leb (get_or b (table_room + 3) 0) 1 in
        and_intro (f && z && n) e
        (and_intro (f && z) n
        (and_intro f z (subst T (sym (answered_done true false reads.0)) tt) (subst (λ (l : List ℕ). T (every (eqb 0) l)) (sym at_left) (zeros_right (table_room - size))))
        (subst (λ (i : ℕ). T (leb i 6)) (sym (at_number 2)) (taken_few s.taken)))
        (subst (λ (i : ℕ). T (leb i 1)) (sym (at_number 3)) (ended_few s.ended))

    width_back : get_or (state_bytes s ++ more) (table_room + 0) 0 * 256 + get_or (state_bytes s ++ more) (table_room + 1) 0 ≡ s.width
    width_back = ap₂ (λ (a b : ℕ). a * 256 + b) (at_number 0) (at_number 1) ∙ div-add-mod' s.width 256

    held_back : scan_held (state_bytes s ++ more) ≡ s
    held_back =
        ap₂ (λ (t : WidthTable) (w : ℕ). record { table = t; width = w; taken = taken_of (get_or (state_bytes s ++ more) (table_room + 2) 0); ended = eqb (get_or (state_bytes s ++ more) (table_room + 3) 0) 1 }) reads.1 width_back
        ∙ ap₂ (λ (n e : ℕ). record { table = s.table; width = s.width; taken = taken_of n; ended = eqb e 1 }) (at_number 2) (at_number 3)
        ∙ ap₂ (λ (n : Taken) (e : Bool). record { table = s.table; width = s.width; taken = n; ended = e }) (taken_back s.taken) (ended_back s.ended)

    pub read_written : scan_in (state_bytes s ++ more) ≡ done s
    unfolding scan_in
    read_written =
        let b = state_bytes s ++ more in
        asks_right (leb scan_length (length b)) _ _ (le→leb scan_length (length b) (omega (arith, length-append (state_bytes s) more, state_long)))
        ∙ asks_right (scan_right b) _ _ right
        ∙ ap done held_back

-- ---- reading

module _ (bytes : List ℕ) where
  pub too_short : length bytes < scan_length → scan_in bytes ≡ refused (9, [])
  unfolding scan_in
  too_short h = asks_wrong (leb scan_length (length bytes)) _ _ (lt-leb scan_length (length bytes) h)

  abbrev tabled : Bool
  tabled = answered (form (take (table_end bytes) bytes)) true false

  abbrev padded : Bool
  padded = every (eqb 0) (drop (table_end bytes) (take table_room bytes))

  abbrev counted : Bool
  counted = leb (get_or bytes (table_room + 2) 0) 6

  abbrev marked : Bool
  marked = leb (get_or bytes (table_room + 3) 0) 1

  module _ (long : scan_length ≤ length bytes) where
    foreign : scan_right bytes ≡ false → scan_in bytes ≡ refused (14, [])
    unfolding scan_in
    foreign e = asks_right (leb scan_length (length bytes)) _ _ (le→leb scan_length (length bytes) long) ∙ asks_wrong (scan_right bytes) _ _ e

    pub not_counted : 6 < get_or bytes (table_room + 2) 0 → scan_in bytes ≡ refused (14, [])
    unfolding scan_right
    not_counted h = foreign (left_false (tabled && padded && counted) marked (right_false (tabled && padded) counted (lt-leb _ 6 h)))

    pub not_marked : 1 < get_or bytes (table_room + 3) 0 → scan_in bytes ≡ refused (14, [])
    unfolding scan_right
    not_marked h = foreign (right_false (tabled && padded && counted) marked (lt-leb _ 1 h))

    pub not_padded : padded ≡ false → scan_in bytes ≡ refused (14, [])
    unfolding scan_right
    not_padded e = foreign (left_false (tabled && padded && counted) marked (left_false (tabled && padded) counted (right_false tabled padded e)))

    pub not_tabled : (r : Reason) → form (take (table_end bytes) bytes) ≡ refused r → scan_in bytes ≡ refused (14, [])
    unfolding scan_right
    not_tabled r e = foreign (left_false (tabled && padded && counted) marked (left_false (tabled && padded) counted (left_false tabled padded (answered_refused true false e))))

    pub found : get_or bytes (table_room + 2) 0 ≤ 6 → get_or bytes (table_room + 3) 0 ≤ 1 → padded ≡ true → form (take (table_end bytes) bytes) ≡ passed → scan_in bytes ≡ done (scan_held bytes)
    unfolding scan_in scan_right
    found h k z e =
        asks_right (leb scan_length (length bytes)) _ _ (le→leb scan_length (length bytes) long)
        ∙ asks_right (tabled && padded && counted && marked) _ _
        (and_intro (tabled && padded && counted) marked
        (and_intro (tabled && padded) counted (and_intro tabled padded (subst T (sym (answered_done true false e)) tt) (subst T (sym z) tt)) (le→leb _ 6 h))
        (le→leb _ 1 k))

  -- the scan that reading gives
  pub scan_read_lem : {s : Scan} → scan_in bytes ≡ done s → scan_read bytes ≡ scan_held bytes
  unfolding scan_read
  scan_read_lem e = answered_done (scan_held bytes) ended_scan e

  pub ended_read : {r : Reason} → scan_in bytes ≡ refused r → scan_read bytes ≡ ended_scan
  unfolding scan_read
  ended_read e = answered_refused (scan_held bytes) ended_scan e

-- ---- the caller's bytes afterwards

module _ (s : Scan) (old : List ℕ) where
  abbrev put : Bool → List ℕ
  put b = elim b [ true ↦ over (state_bytes s) old | false ↦ old ]

  pub not_kept : keepable s ≡ false → old ≡ state_after s old
  unfolding state_after
  not_kept e = sym (ap put (left_false (keepable s) (leb scan_length (length old)) e))

  pub no_room : length old < scan_length → old ≡ state_after s old
  unfolding state_after
  no_room h = sym (ap put (right_false (keepable s) (leb scan_length (length old)) (lt-leb scan_length (length old) h)))

  pub kept : keepable s ≡ true → scan_length ≤ length old → over (state_bytes s) old ≡ state_after s old
  unfolding state_after
  kept e h =
      let b = keepable s && leb scan_length (length old) in
      sym (ap put (is_true b (and_intro (keepable s) (leb scan_length (length old)) (subst T (sym e) tt) (le→leb scan_length (length old) h))))

-- four stores after the table's bytes
module _ (w : ℕ) (k : Taken) (ended : Bool) (old : List ℕ) where
  abbrev renewed : Bool → List ℕ
  renewed b = elim b [ true ↦ take table_room old ++ numbers_of w k ended ++ drop scan_length old | false ↦ old ]

  pub numbers_short : length old < scan_length → old ≡ numbers_after w k ended old
  unfolding numbers_after
  numbers_short h = sym (ap renewed (left_false (leb scan_length (length old)) (ltb w 65536) (lt-leb scan_length (length old) h)))

  pub numbers_wide : 65535 < w → old ≡ numbers_after w k ended old
  unfolding numbers_after
  numbers_wide h = sym (ap renewed (right_false (leb scan_length (length old)) (ltb w 65536) (le-ltb w 65536 (omega arith))))

  module _ (long : scan_length ≤ length old) (narrow : w < 65536) where
    pub numbers_are : numbers_after w k ended old ≡ take table_room old ++ numbers_of w k ended ++ drop scan_length old
    unfolding numbers_after
    numbers_are =
        let b = leb scan_length (length old) && ltb w 65536 in
        ap renewed (is_true b (and_intro (leb scan_length (length old)) (ltb w 65536) (le→leb scan_length (length old) long) (lt→ltb w 65536 narrow)))

    pub numbers_put : sets old table_room (numbers_of w k ended) ≡ numbers_after w k ended old
    numbers_put = sets-eq (numbers_of w k ended) old table_room (omega arith) ∙ sym numbers_are

-- where the table's bytes and the zeros after them stand there already, the scan is written
module _ (s : Scan) (old : List ℕ) (long : scan_length ≤ length old) (narrow : s.width < 65536) (stands : take table_room old ≡ room_bytes s.table) where
  pub numbers_written : numbers_after s.width s.taken s.ended old ≡ over (state_bytes s) old
  unfolding state_bytes
  numbers_written =
      let t = room_bytes s.table in
      let b = number_bytes s in
      let size : length (t ++ b) ≡ scan_length = length-append t b ∙ ap (λ (n : ℕ). n + 4) (ap (λ (l : List ℕ). length l) (sym stands) ∙ length-take-le table_room old (omega arith)) in
      numbers_are s.width s.taken s.ended old long narrow
      ∙ ap₂ (λ (x y : List ℕ). x ++ b ++ y) stands (ap (λ (n : ℕ). drop n old) (sym size))

drop_zeros : (n m : ℕ) → n ≤ m → drop {A = ℕ} n (replicate m 0) ≡ replicate (m - n) 0
drop_zeros n m h =
    let e : m ≡ n + (m - n) = omega arith in
    ap (λ (k : ℕ). drop {A = ℕ} n (replicate k 0)) e
    ∙ ap (drop n) (sym (replicate-append-replicate n (m - n) 0))
    ∙ drop_at (replicate n 0) (replicate (m - n) 0) n (length-replicate n 0)

-- zeros in its room, the table's bytes over them, then the numbers
module _ (s : Scan) (k : Keepable s) (old : List ℕ) (long : scan_length ≤ length old) where
  abbrev cleared : List ℕ
  cleared = over (replicate table_room 0) old

  cleared_long : length cleared ≡ length old
  cleared_long = length_front old (replicate table_room 0) table_room (sym (length-take-le table_room old (omega arith)))

  tabled_over : bytes_after s.table cleared ≡ room_bytes s.table ++ drop table_room old
  unfolding room_bytes
  tabled_over =
      let t = bytes_of_table s.table in
      let n = size s k in
      let fits = table_fits s.table.has_products in
      sym (table_written_lem s.table cleared (is_true (form_right s.table) k.form) (subst (λ (L : ℕ). table_size s.table.has_products L ≤ length cleared) (sym k.one) (omega (arith, cleared_long, fits)))).1
      ∙ ap (λ (m : ℕ). t ++ drop m cleared) (table_long s k)
      ∙ ap (λ (l : List ℕ). t ++ l) (drop-append-le n (replicate table_room 0) (drop table_room old) fits ∙ ap (λ (l : List ℕ). l ++ drop table_room old) (drop_zeros n table_room fits))
      ∙ sym (append_assoc t (left s k) (drop table_room old))

  pub all_written : numbers_after s.width s.taken s.ended (bytes_after s.table cleared) ≡ over (state_bytes s) old
  unfolding state_bytes
  all_written =
      let t = room_bytes s.table in
      let b = number_bytes s in
      let new = t ++ drop table_room old in
      let both : length (t ++ b) ≡ table_room + 4 = length-append t b ∙ ap (λ (n : ℕ). n + 4) (room_long s k) in
      ap (numbers_after s.width s.taken s.ended) tabled_over
      ∙ numbers_written s new (omega (arith, length_front old t table_room (room_long s k ∙ sym (length-take-le table_room old (omega arith))))) k.narrow (take_at t (drop table_room old) table_room (room_long s k))
      ∙ ap (λ (l : List ℕ). (t ++ b) ++ l)
      (ap (λ (n : ℕ). drop n new) both
      ∙ sym (drop-drop 4 table_room new)
      ∙ ap (drop 4) (drop_at t (drop table_room old) table_room (room_long s k))
      ∙ drop-drop 4 table_room old
      ∙ ap (λ (n : ℕ). drop n old) (sym both))

-- ---- the test

module _ (s : Scan) where
  pub not_formed : form_right s.table ≡ false → keepable s ≡ false
  unfolding keepable
  not_formed e = left_false (form_right s.table && eqb s.table.levels 1) (ltb s.width 65536) (left_false (form_right s.table) _ e)

  pub not_one : ¬ (s.table.levels ≡ 1) → keepable s ≡ false
  unfolding keepable
  not_one h = left_false (form_right s.table && eqb s.table.levels 1) (ltb s.width 65536) (right_false (form_right s.table) _ (by_eqb (λ b. b ≡ false) s.table.levels 1 (λ e. absurd (h e)) (λ e. refl)))

  pub by_width : form_right s.table ≡ true → s.table.levels ≡ 1 → keepable s ≡ ltb s.width 65536
  unfolding keepable
  by_width e one = ap₂ (λ (a : Bool) (n : ℕ). a && eqb n 1 && ltb s.width 65536) e one

-- ---- where the table ends

module _ (bytes : List ℕ) where
  pub ends_with_five : get_or bytes (table_size false 1) 0 ≡ products_tag → table_room ≡ table_end bytes
  ends_with_five e = sym (ap (λ (n : ℕ). table_size (eqb n products_tag) 1) e)

  pub ends_with_four : ¬ (get_or bytes (table_size false 1) 0 ≡ products_tag) → table_size false 1 ≡ table_end bytes
  ends_with_four h = by_eqb (λ b. table_size false 1 ≡ table_size b 1) (get_or bytes (table_size false 1) 0) products_tag (λ e. absurd (h e)) (λ e. refl)

  -- the room that it leaves, as the code looks at it
  pub left_looked : (n : ℕ) → n ≡ table_end bytes → table_room ≤ length bytes → every (eqb 0) (take (table_room - n) (drop n bytes)) ≡ padded bytes
  left_looked n at h =
      let fits = end_fits bytes in
      let e : n + (table_room - n) ≡ table_room = omega (arith, fits) in
      ap (every (eqb 0))
      (sym (drop_at (take n bytes) (take (table_room - n) (drop n bytes)) n (length-take-le n bytes (omega (arith, fits))))
      ∙ ap (drop n) (sym (take-add n (table_room - n) bytes) ∙ ap (λ (m : ℕ). take m bytes) e)
      ∙ ap (λ (m : ℕ). drop m (take table_room bytes)) at)

-- ---- zeros

pub is_zero : (n : ℕ) → n ≡ 0 → eqb 0 n ≡ true
is_zero n e = ap (eqb 0) e

pub not_zero : (n : ℕ) → ¬ (n ≡ 0) → eqb 0 n ≡ false
not_zero n h = by_eqb (λ b. b ≡ false) 0 n (λ e. absurd (h (sym e))) (λ e. refl)

-- one zero more
pub zero_next : (i : ℕ) (old : List ℕ) → i < length old → set (replicate i 0 ++ drop i old) i 0 ≡ replicate (i + 1) 0 ++ drop (i + 1) old
zero_next i old h =
    ap (λ (l : List ℕ). set (replicate i 0 ++ l) i 0) (next_one old 0 i h)
    ∙ set_at (replicate i 0) (get_or old i 0) (drop (i + 1) old) 0 i (length-replicate i 0)
    ∙ sym (append_snoc (replicate i 0) 0 (drop (i + 1) old))
    ∙ ap (λ (l : List ℕ). l ++ drop (i + 1) old) (replicate-append-replicate i 1 0)

pub all_zeros : (l : List ℕ) → list_all (λ n. eqb n 0) l ≡ every (eqb 0) l
unfolding every
all_zeros [] = refl
all_zeros (n ∷ l) = ap₂ (λ (a b : Bool). a && b) (go n) (all_zeros l)
  where
    go : (n : ℕ) → eqb n 0 ≡ eqb 0 n
    go zero = refl
    go (suc n) = by_eqb (λ b. b ≡ eqb 0 (suc n)) (suc n) 0 (λ e. absurd (omega arith)) (λ e. by_eqb (λ b. false ≡ b) 0 (suc n) (λ f. absurd (omega arith)) (λ f. refl))

-- ---- what bytes that hold a scan are

pub read_long : (bytes : List ℕ) (s : Scan) → scan_in bytes ≡ done s → scan_length ≤ length bytes
unfolding scan_in
read_long bytes s e = leb→le scan_length (length bytes) (asks_done (leb scan_length (length bytes)) _ _ e).0

pub read_is : (bytes : List ℕ) (s : Scan) → scan_in bytes ≡ done s → scan_held bytes ≡ s
unfolding scan_in
read_is bytes s e =
    let found : done (scan_held bytes) ≡ done s = (asks_done (scan_right bytes) _ _ (asks_done (leb scan_length (length bytes)) _ _ e).1).1 in
    (gives_done passed (scan_held bytes) found).1

-- the tests that it passes, and the bytes of its table
module _ (bytes : List ℕ) (s : Scan) (e : scan_in bytes ≡ done s) where
  tests : T (tabled bytes) × T (padded bytes) × T (counted bytes) × T (marked bytes)
  unfolding scan_in scan_right
  tests = four (tabled bytes) (padded bytes) (counted bytes) (marked bytes) (asks_done (scan_right bytes) _ _ (asks_done (leb scan_length (length bytes)) _ _ e).1).0

  pub read_formed : form (take (table_end bytes) bytes) ≡ passed
  read_formed = answered_passed (form (take (table_end bytes) bytes)) tests.0

  abbrev tagged : Bool
  tagged = eqb (get_or bytes (table_size false 1) 0) products_tag

  read_tagged : has_fifth (take (table_end bytes) bytes) ≡ tagged
  read_tagged =
      let l = take (table_end bytes) bytes in
      (as_many (has_fifth l) (levels_in l) tagged (sym (form_long l read_formed) ∙ length-take-le (table_end bytes) bytes (omega (arith, read_long bytes s e, end_fits bytes)))).0

  room_back : room_bytes (scan_held bytes).table ≡ take table_room bytes
  unfolding room_bytes table_in
  room_back =
      let n = table_end bytes in
      let r = take table_room bytes in
      let long : length (drop n r) ≡ table_room - n = length-drop n r ∙ ap (λ (m : ℕ). m - n) (length-take-le table_room bytes (omega (arith, read_long bytes s e))) in
      ap₂ (λ (l : List ℕ) (x : Bool). l ++ replicate (table_room - table_size x 1) 0) (tables-back (take n bytes) read_formed ∙ sym (take-take n table_room bytes (end_fits bytes))) read_tagged
      ∙ ap (λ (l : List ℕ). take n r ++ l) (sym (zeros (drop n r) tests.1 ∙ ap (λ (m : ℕ). replicate m 0) long))
      ∙ take-append-drop n r

  -- where the table stays, other numbers are another scan
  pub renewed_written : (after : Scan) → after.table ≡ s.table → after.width < 65536 → numbers_after after.width after.taken after.ended bytes ≡ over (state_bytes after) bytes
  renewed_written after same narrow =
      numbers_written after bytes (read_long bytes s e) narrow
      (sym room_back ∙ ap room_bytes (ap (λ (s : Scan). s.table) (read_is bytes s e) ∙ sym same))

-- long enough, and yet no scan
pub read_refused : (bytes : List ℕ) → scan_length ≤ length bytes → (r : Reason) → scan_in bytes ≡ refused r → scan_in bytes ≡ refused (14, [])
unfolding scan_in
read_refused bytes long r e =
    let whole = asks_right (leb scan_length (length bytes)) _ (asks (scan_right bytes) 14 (done (scan_held bytes))) (le→leb scan_length (length bytes) long) in
    whole ∙ go (scan_right bytes) (sym whole ∙ e)
  where
    go : (b : Bool) → asks b 14 (done (scan_held bytes)) ≡ refused r → asks b 14 (done (scan_held bytes)) ≡ refused (14, [])
    go true h = absurd (subst T (ap (λ (o : Answer Scan). answered o true false) h) tt)
    go false h = refl

-- ---- read, then written

count_back : (n : ℕ) → n ≤ 6 → taken_number (taken_of n) ≡ n
count_back zero i = refl
count_back (suc zero) i = refl
count_back (suc (suc zero)) i = refl
count_back (suc (suc (suc zero))) i = refl
count_back (suc (suc (suc (suc zero)))) i = refl
count_back (suc (suc (suc (suc (suc zero))))) i = refl
count_back (suc (suc (suc (suc (suc (suc zero)))))) i = refl
count_back (suc (suc (suc (suc (suc (suc (suc n))))))) i = absurd (omega arith)

mark_back : (n : ℕ) → n ≤ 1 → ended_number (eqb n 1) ≡ n
mark_back zero i = refl
mark_back (suc zero) i = refl
mark_back (suc (suc n)) i = absurd (omega arith)

module _ (bytes : List ℕ) (below : (k : ℕ) → k < length bytes → get_or bytes k 0 < 256) (s : Scan) (e : scan_in bytes ≡ done s) where
  numbers_back : number_bytes (scan_held bytes) ≡ take 4 (drop table_room bytes)
  numbers_back =
      let long = read_long bytes s e in
      let right = tests bytes s e in
      let b : ℕ → ℕ = λ i. get_or bytes (table_room + i) 0 in
      let low : b 1 < 256 = below (table_room + 1) (omega arith) in
      (λ i. high_byte (b 0) (b 1) low i ∷ low_byte (b 0) (b 1) low i ∷ count_back (b 2) (leb→le (b 2) 6 right.2) i ∷ mark_back (b 3) (leb→le (b 3) 1 right.3) i ∷ [])
      ∙ ap (take 4) (sym (next_two bytes 0 table_room (omega arith) ∙ ap (λ (l : List ℕ). b 0 ∷ b 1 ∷ l) (next_two bytes 0 (table_room + 2) (omega arith))))
    where
      high_byte : (a b : ℕ) → b < 256 → (a * 256 + b) / 256 ≡ a
      high_byte a b i = omega arith

      low_byte : (a b : ℕ) → b < 256 → (a * 256 + b) % 256 ≡ b
      low_byte a b i = omega arith

  pub written_read : state_bytes s ≡ take scan_length bytes
  unfolding state_bytes
  written_read =
      ap state_bytes (sym (read_is bytes s e))
      ∙ ap₂ (λ (a b : List ℕ). a ++ b) (room_back bytes s e) numbers_back
      ∙ sym (take-add table_room 4 bytes)

-- zeros hold none
pub zeros_hold_none : (more : List ℕ) → scan_in (replicate scan_length 0 ++ more) ≡ refused (14, [])
unfolding form form_by field headed
zeros_hold_none more =
    let none : List ℕ = replicate scan_length 0 in
    not_tabled (none ++ more) (omega (arith, length-append none more)) (2, []) refl
