-- What the answers of the calls below say of the C interface's calls of a rolling scan.
use Rattle.std.specs.Prelude.{ℕ, ◌<◌, ◌≤◌, true, List, [], ◌≡◌, leb, length, ℤ}
use Rattle.std.proofs.Math.Path.{refl, ap, subst}
use Rattle.std.proofs.Common.{sym, ◌∙◌, arith, le→leb}
use Rattle.std.proofs.Math.Decide.{dec_lt}
use Rattle.numbers.specs.Lists.{over}
use Rattle.refusals.specs.Answers.{Reason, Answer, done, refused, passed, asks, ◌then◌, answered}
use Rattle.refusals.specs.AnswerLaws.{asks_right, asks_wrong, gives_done, then_done, then_right, then_refused, answered_done, answered_refused}
use Rattle.table_bytes.specs.Bytes.{form, table_in}
use Rattle.precision.specs.Promise.{promise}
use Rattle.rolling.specs.declared.Scan.{Scan}
use Rattle.rolling.specs.Calls.{begin_answer, scan_of, line_answer, given_by_line, scan_after, LineLeft, LineCall, end_answer, given_by_end, scan_ended, EndLeft, EndCall}
use Rattle.rolling_lines.specs.LentLines.{out_lines}
use Rattle.rolling.specs.AnswerLaws.{begun_one, begun_accepted, on_side, line_stays, end_stays}
use Rattle.rolling_claims.specs.History.{line_right, end_right}
use Rattle.rolling_claims.specs.Satisfiable.{line_few, end_few}
use Rattle.scan_bytes.specs.ScanBytes.{scan_length, state_bytes, keepable, scan_held, scan_in, state_after, numbers_after}
use Rattle.scan_bytes.specs.ByteLaws.{can_keep, no_room, kept, read_is, renewed_written}
use Rattle.std.proofs.lemmas.Bool.{lt-leb}
use Rattle.engine.specs.ScanAnswers.{begins, scan_begin_answer, scan_begin_state, scan_line_answer, scan_line_state, scan_line_given, ScanLineLeft, scan_end_answer, scan_end_state, scan_end_given, ScanEndLeft, given_after}

-- ---- scans that bytes can hold

module _ (s : Scan) (begun : begin_answer s.table ≡ passed) (narrow : s.width < 65536) where
  pub begun_kept : keepable s ≡ true
  begun_kept = can_keep s (promise s.table (begun_accepted s.table begun)).form (begun_one s.table begun) narrow

-- a scan with the same table, whose width two bytes hold
pub record Renews (s after : Scan) : Type 0 where
  pub table : after.table ≡ s.table
  pub narrow : after.width < 65536

module _ (s : Scan) (pixels : List ℕ) (w : ℕ) (held out : List ℤ) where
  pub line_gives_few : {o : Answer ℕ} {s' : Scan} {held' out' : List ℤ} → LineCall s pixels w held out o s' held' out' → (m : ℕ) → o ≡ done m → m ≤ out_lines
  unfolding given_by_line
  line_gives_few call m e =
      subst (λ (k : ℕ). k ≤ out_lines) (gives_done (line_answer s pixels w held out) (length (given_by_line s pixels w held out)) (sym call.answer_is ∙ e)).1 (line_few s.table w s.taken _ _)

  line_renews : line_answer s pixels w held out ≡ passed → Renews s (scan_after s pixels w held out)
  unfolding scan_after
  line_renews e = record { table = refl; narrow = omega (arith, (line_right s pixels w held out e).side.1) }

module _ (s : Scan) (held out : List ℤ) where
  pub end_gives_few : {o : Answer ℕ} {s' : Scan} {held' out' : List ℤ} → EndCall s held out o s' held' out' → (m : ℕ) → o ≡ done m → m ≤ out_lines
  unfolding given_by_end
  end_gives_few call m e =
      subst (λ (k : ℕ). k ≤ out_lines) (gives_done (end_answer s held out) (length (given_by_end s held out)) (sym call.answer_is ∙ e)).1 (end_few s.table s.width s.taken _)

  end_renews : end_answer s held out ≡ passed → Renews s (scan_ended s held out)
  unfolding scan_ended
  end_renews e = let right = end_right s held out e in record { table = refl; narrow = omega (arith, (on_side s right.goes right.some).1) }

-- ---- begin

module _ (state : List ℕ) where
  -- 9 for a state too short for a scan
  abbrev pub roomy : Answer Unit
  roomy = asks (leb scan_length (length state)) 9 passed

  pub not_roomy : length state < scan_length → roomy ≡ refused (9, [])
  not_roomy h = asks_wrong (leb scan_length (length state)) _ _ (lt-leb scan_length (length state) h)

  pub is_roomy : scan_length ≤ length state → roomy ≡ passed
  is_roomy h = asks_right (leb scan_length (length state)) _ _ (le→leb scan_length (length state) h)

  -- what is written where there is room
  roomy_put : (s : Scan) → keepable s ≡ true → answered roomy (over (state_bytes s) state) state ≡ state_after s state
  roomy_put s can = go (dec_lt (length state) scan_length)
    where
      go : Dec (length state < scan_length) → answered roomy (over (state_bytes s) state) state ≡ state_after s state
      go (yes h) = answered_refused (over (state_bytes s) state) state (not_roomy h) ∙ no_room s state h
      go (no h) = let long : scan_length ≤ length state = omega arith in answered_done (over (state_bytes s) state) state (is_roomy long) ∙ kept s state can long

module _ (bytes state : List ℕ) where
  -- a table that begins no scan
  pub begin_refused : {why : Reason} → begins bytes ≡ refused why → (scan_begin_answer bytes state ≡ refused why) × (scan_begin_state bytes state ≡ state)
  unfolding scan_begin_answer scan_begin_state
  begin_refused e =
      let none = then_refused (begins bytes) (roomy state) _ e in
      (none, answered_refused _ state none)

  -- a table that begins one: 9 alone is left
  pub begin_done : begins bytes ≡ passed → {s : Scan} → s ≡ scan_of (table_in bytes) → (scan_begin_answer bytes state ≡ roomy state) × (state_after s state ≡ scan_begin_state bytes state)
  unfolding scan_begin_answer scan_begin_state begins scan_of
  begin_done e s-is =
      let new = scan_of (table_in bytes) in
      let all = then_right (begins bytes) (roomy state) e in
      let begun = (then_done (form bytes) (begin_answer (table_in bytes)) e).1 in
      (all, ap (λ (s : Scan). state_after s state) s-is ∙ sym (roomy_put state new (begun_kept new begun (omega arith))) ∙ ap (λ (o : Answer Unit). answered o (over (state_bytes new) state) state) (sym all))

-- ---- a line, and the end

module _ (state : List ℕ) where
  -- the answer, the state and the number of lines given, of a call whose answer is o
  abbrev Went : Answer Unit → Scan → ℕ → ℕ → Answer Unit → List ℕ → ℕ → Type 0
  Went o after m given r state' given' = (r ≡ o) × (state' ≡ answered o (over (state_bytes after) state) state) × (given' ≡ answered o m given)

  -- a state that holds no scan
  none : (o : Answer Unit) (after : Scan) (m given : ℕ) {r : Answer Unit} (why : Reason) → scan_in state ≡ refused why → r ≡ refused why → Went (scan_in state then o) after m given r state given
  none o after m given {r} why e r-is = subst (λ (o : Answer Unit). Went o after m given r state given) (sym (then_refused (scan_in state) o why e)) (r-is, refl, refl)

  -- a state that holds one
  some : (s : Scan) → scan_in state ≡ done s → (o : Answer Unit) (after : Scan) (m given : ℕ) → (o ≡ passed → Renews s after)
      → {answer : Answer ℕ} {s' : Scan} {r : Answer Unit} {state' : List ℕ} {given' : ℕ} → answer ≡ o then done m → s' ≡ answered o after s
      → r ≡ answer then passed → state' ≡ answered answer (numbers_after s'.width s'.taken s'.ended state) state → given' ≡ given_after answer given
      → Went (scan_in state then o) after m given r state' given'
  some s e o after m given renews {answer} {s'} {r} {state'} {given'} answer_is scan_is r-is state-is given_is =
      subst (λ (o : Answer Unit). Went o after m given r state' given') (sym (then_right (scan_in state) o e))
      (go o renews (r-is ∙ ap (λ (a : Answer ℕ). a then passed) answer_is) (state-is ∙ (λ i. answered (answer_is i) (numbers (scan_is i)) state)) (given_is ∙ ap (λ (a : Answer ℕ). given_after a given) answer_is))
    where
      numbers : Scan → List ℕ
      numbers s = numbers_after s.width s.taken s.ended state

      go : (o : Answer Unit) → (o ≡ passed → Renews s after) → r ≡ (o then done m) then passed → state' ≡ answered (o then done m) (numbers (answered o after s)) state → given' ≡ given_after (o then done m) given
          → Went o after m given r state' given'
      go (done tt) renews r-is state-is given_is = let k = renews refl in (r-is, state-is ∙ renewed_written state s e after k.table k.narrow, given_is)
      go (refused why) renews r-is state-is given_is = (r-is, state-is, given_is)

  -- the scan that is read is the one that the state holds
  is_held : {s : Scan} → scan_in state ≡ done s → scan_in state ≡ done (scan_held state)
  is_held {s} e = e ∙ ap (λ (s : Scan). done s) (sym (read_is state s e))

module _ (state pixels : List ℕ) (w : ℕ) (held out : List ℤ) (given : ℕ) where
  -- what suz_scan_line leaves
  abbrev LineLeaves : Answer Unit → List ℕ → List ℤ → List ℤ → ℕ → Type 0
  LineLeaves r state' held' out' given' =
      (r ≡ scan_line_answer state pixels w held out)
      × ((state' ≡ scan_line_state state pixels w held out) × ((given' ≡ scan_line_given state pixels w held out given) × ScanLineLeft state pixels w held out held' out'))

  pub line_none : (why : Reason) {r : Answer Unit} → scan_in state ≡ refused why → r ≡ refused why → LineLeaves r state held out given
  unfolding scan_line_answer scan_line_state scan_line_given
  line_none why e r-is =
      let s = scan_held state in
      let own = line_answer s pixels w held out in
      let (a, b, c) = none state own (scan_after s pixels w held out) (length (given_by_line s pixels w held out)) given why e r-is in
      (a, (b, (c, subst (λ (o : Answer Unit). LineLeft s pixels w held out o held out) (sym (then_refused (scan_in state) own why e)) (line_stays s pixels w held out why))))

  pub line_some : {s : Scan} {answer : Answer ℕ} {after : Scan} {r : Answer Unit} {state' : List ℕ} {held' out' : List ℤ} {given' : ℕ} → scan_in state ≡ done s
      → LineCall s pixels w held out answer after held' out' → (r ≡ answer then passed) × ((state' ≡ answered answer (numbers_after after.width after.taken after.ended state) state) × (given' ≡ given_after answer given))
      → LineLeaves r state' held' out' given'
  unfolding scan_line_answer scan_line_state scan_line_given
  line_some {answer = answer} {after} {held' = held'} {out' = out'} e call (r-is, (state-is, given_is)) =
      let s = scan_held state in
      let own = line_answer s pixels w held out in
      let there = subst (λ (s : Scan). LineCall s pixels w held out answer after held' out') (sym (read_is state _ e)) call in
      let (a, b, c) = some state s (is_held state e) own (scan_after s pixels w held out) (length (given_by_line s pixels w held out)) given (line_renews s pixels w held out) there.answer_is there.scan_is r-is state-is given_is in
      (a, (b, (c, subst (λ (o : Answer Unit). LineLeft s pixels w held out o held' out') (sym (then_right (scan_in state) own e)) there.left)))

module _ (state : List ℕ) (held out : List ℤ) (given : ℕ) where
  -- what suz_scan_end leaves
  abbrev EndLeaves : Answer Unit → List ℕ → List ℤ → List ℤ → ℕ → Type 0
  EndLeaves r state' held' out' given' =
      (r ≡ scan_end_answer state held out)
      × ((state' ≡ scan_end_state state held out) × ((given' ≡ scan_end_given state held out given) × ScanEndLeft state held out held' out'))

  pub end_none : (why : Reason) {r : Answer Unit} → scan_in state ≡ refused why → r ≡ refused why → EndLeaves r state held out given
  unfolding scan_end_answer scan_end_state scan_end_given
  end_none why e r-is =
      let s = scan_held state in
      let own = end_answer s held out in
      let (a, b, c) = none state own (scan_ended s held out) (length (given_by_end s held out)) given why e r-is in
      (a, (b, (c, subst (λ (o : Answer Unit). EndLeft s held out o held out) (sym (then_refused (scan_in state) own why e)) (end_stays s held out why))))

  pub end_some : {s : Scan} {answer : Answer ℕ} {after : Scan} {r : Answer Unit} {state' : List ℕ} {held' out' : List ℤ} {given' : ℕ} → scan_in state ≡ done s
      → EndCall s held out answer after held' out' → (r ≡ answer then passed) × ((state' ≡ answered answer (numbers_after after.width after.taken after.ended state) state) × (given' ≡ given_after answer given))
      → EndLeaves r state' held' out' given'
  unfolding scan_end_answer scan_end_state scan_end_given
  end_some {answer = answer} {after} {held' = held'} {out' = out'} e call (r-is, (state-is, given_is)) =
      let s = scan_held state in
      let own = end_answer s held out in
      let there = subst (λ (s : Scan). EndCall s held out answer after held' out') (sym (read_is state _ e)) call in
      let (a, b, c) = some state s (is_held state e) own (scan_ended s held out) (length (given_by_end s held out)) given (end_renews s held out) there.answer_is there.scan_is r-is state-is given_is in
      (a, (b, (c, subst (λ (o : Answer Unit). EndLeft s held out o held' out') (sym (then_right (scan_in state) own e)) there.left)))
