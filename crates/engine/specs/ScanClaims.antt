-- The claim over calls of a rolling scan in the C interface (document 02, jobs 5 and 6): what holds after the calls of a history.
use Prim.Native.Nat.{ℕ, zero, suc, ◌+◌, ◌*◌, ◌-◌, ◌^◌, ◌<◌, ◌≤◌}
use Rattle.std.specs.Prelude.{true, false, ◌↔◌, ◌≡◌, T, leb, eqb, get_or, drop, ℤ, pos}
use mathlib.Core.List.{List, [], ◌∷◌, ◌++◌, append-nil}
use Rattle.std.proofs.Math.Path.{refl, sym, ap, subst}
use Rattle.std.proofs.Common.{◌∙◌, arith, take-append-drop, drop_of_length-le}
use Rattle.std.proofs.Math.Decide.{dec_lt}
use Rattle.std.proofs.Math.ListN.{length, take, replicate}
use Rattle.std.proofs.lemmas.List.{length-replicate}
use Rattle.numbers.specs.Lists.{over}
use Rattle.numbers.specs.Tests.{is_true}
use Rattle.refusals.specs.Answers.{Answer, done, refused, passed, asks, ◌then◌, code, answered}
use Rattle.refusals.specs.AnswerLaws.{then_done, then_right, then_refused, then_assoc, gives_done, answered_done}
use Rattle.width_table.specs.declared.WidthTable.{WidthTable}
use Rattle.width_table.specs.Table.{form_right}
use Rattle.table_bytes.specs.Fields.{Field, head_bytes, fields}
use Rattle.table_bytes.specs.Bytes.{announced, headed, field, form_by, levels_in, has_fifth, form, table_in, bytes_of_table}
use Rattle.width_table.specs.Lists.{FullLists}
use Rattle.table_bytes.specs.ReadLaws.{table_read_lem}
use Rattle.table_bytes.specs.RoundTrip.{read_sized, written_reads}
use Rattle.width_table.specs.WorkedTables.{usual}
use Rattle.slices.specs.Runs.{as_type}
use Rattle.pictures.specs.Pictures.{Admitted, sample}
use Rattle.pictures.specs.PictureLaws.{over_take}
use Rattle.precision.specs.Verdict.{verdict}
use Rattle.precision.specs.Promise.{promise}
use Rattle.worked_precision.specs.Verdicts.{usual_accepted}
use Rattle.irreversible.specs.Claims.{LevelInWidth}
use Rattle.rolling.specs.declared.Scan.{Scan}
use Rattle.rolling.specs.Calls.{begin_answer, scan_of, line_answer, given_by_line, scan_after, LineLeft, LineCall, end_answer, given_by_end, scan_ended, EndLeft, EndCall}
use Rattle.rolling_lines.specs.LentLines.{held_lines, out_lines}
use Rattle.rolling.specs.AnswerLaws.{other_levels, one_level}
use Rattle.rolling_claims.specs.Claims.{HandedOn, Calls, begun, line, line_refused, end, end_refused, LeftByCalls, ready, first_lines, LinesNear}
use Rattle.rolling_claims.specs.History.{facts, table_kept}
use Rattle.rolling_claims.specs.NotFourteen.{Other, done_other, asks_other, then_other, then_fourteen, verdict_other}
use Rattle.rolling_claims.specs.Satisfiable.{scanned, foreign_refused}
use Rattle.rolling_claims.specs.Theorems.{before_end, after_end, refused_keeps, in_widths, near_before_end, near_after_end}
use Rattle.scan_bytes.specs.ScanBytes.{scan_length, state_bytes, table_end, scan_held, scan_in}
use Rattle.scan_bytes.specs.ByteLaws.{Keepable, kept_is, state_long, read_written, read_is, read_refused, read_formed, written_read, zeros_hold_none}
use Rattle.table_calls.specs.Calls.{check_answer}
use Rattle.engine.specs.ScanAnswers.{begins, scan_begin_answer, scan_begin_state, scan_line_answer, scan_line_state, scan_line_given, ScanLineLeft, scan_end_answer, scan_end_state, scan_end_given, ScanEndLeft}
use Rattle.engine.specs.ScanHistory.{StateHandedOn, HeldHandedOn, ByteCalls, c_begun, c_line, c_line_refused, c_end, c_end_refused, LeftState, FinishedByteScan}
use Rattle.engine.specs.ScanLaws.{begun_kept}
use Rattle.engine.specs.Promises.{accepted_checks}
use Rattle.engine.specs.Zero.{checked_zero, scan_begin_zero, scan_line_zero, scan_end_zero}

-- ---- begin

module _ (bytes state : List ℕ) (accepts : code (scan_begin_answer bytes state) ≡ 0) where
  begun_right : (form bytes ≡ passed) × (begin_answer (table_in bytes) ≡ passed)
  unfolding scan_begin_answer begins
  begun_right = then_done (form bytes) _ (then_done (begins bytes) _ (scan_begin_zero bytes state accepts)).0

  -- the state where a scan began
  begun_state : scan_begin_state bytes state ≡ over (state_bytes (scan_of (table_in bytes))) state
  unfolding scan_begin_state
  begun_state = answered_done (over (state_bytes (scan_of (table_in bytes))) state) state (scan_begin_zero bytes state accepts)

headed_other : (tag len : ℕ) (bytes : List ℕ) → Other (headed tag len bytes)
unfolding headed
headed_other tag len bytes =
    asks_other (leb head_bytes (length bytes)) (1, []) _ (λ e. omega arith)
    (asks_other (eqb (get_or bytes 0 0) tag) (2, []) _ (λ e. omega arith)
    (asks_other (eqb (announced bytes) len) (3, []) _ (λ e. omega arith)
    (asks_other (leb (announced bytes) (length bytes - head_bytes)) (1, []) _ (λ e. omega arith) done_other)))

formed_other : (fs : List Field) (bytes : List ℕ) → Other (form_by fs bytes)
unfolding form_by field
formed_other [] bytes = asks_other (eqb (length bytes) 0) (5, []) _ (λ e. omega arith) done_other
formed_other (f ∷ fs) bytes =
    then_other (field f bytes) _
    (then_other (headed f.tag f.size bytes) _ (headed_other f.tag f.size bytes) (asks_other (f.right (take f.size (drop head_bytes bytes))) (4, []) _ (λ e. omega arith) done_other))
    (formed_other fs (drop (head_bytes + f.size) bytes))

form_other : (bytes : List ℕ) → Other (form bytes)
unfolding form
form_other bytes = formed_other (fields (has_fifth bytes) (levels_in bytes)) bytes

-- suz_scan_begin answers 14 for a table of right form that is not of one level, and for no other.
pub c_begin_fourteen : (bytes state : List ℕ) → (code (scan_begin_answer bytes state) ≡ 14) ↔ ((form bytes ≡ passed) × ¬ ((table_in bytes).levels ≡ 1))
unfolding scan_begin_answer begins
c_begin_fourteen bytes state =
    let t = table_in bytes in
    let long = leb scan_length (length state) in
    let last = asks long 9 passed in (
      (λ e.
          let a = then_fourteen (form bytes) (begin_answer t then last) (form_other bytes) (ap (λ (o : Answer Unit). code o) (then_assoc (form bytes) (begin_answer t) last) ∙ e) in
          (a.0, λ one. then_other (verdict t) last (verdict_other t) (asks_other long (9, []) _ (λ e. omega arith) done_other) (ap (λ (o : Answer Unit). code (o then last)) (sym (one_level t one)) ∙ a.1))),
      (λ q. ap (λ (o : Answer Unit). code o) (then_refused (begins bytes) last (14, []) (then_right (form bytes) (begin_answer t) q.0 ∙ other_levels t q.1))),
    )

-- ---- which bytes hold a scan

module _ (bytes : List ℕ) (formed : form bytes ≡ passed) where
  can_hold : {s : Scan} {held : List ℤ} {n : ℕ} {strip : List ℕ} {given : List ℤ} → Calls (table_in bytes) s held n strip given → Keepable s
  can_hold {s} {n = n} calls =
      let f = facts (table_in bytes) calls in
      let narrow : Dec (n < 1) → s.width < 65536 = λ d. elim d [ yes i ↦ omega (arith, f.unset (omega arith)) | no i ↦ omega (arith, (f.side (omega arith)).1) ] in
      kept_is s (subst (λ (t : WidthTable). FullLists t) (sym (table_kept (table_in bytes) calls)) (read_sized bytes formed)) (begun_kept s f.begun (narrow (dec_lt n 1)))

module _ (s : Scan) (k : Keepable s) (state : List ℕ) where
  -- a state whose own bytes are the scan's holds it
  own_reads : take scan_length state ≡ state_bytes s → scan_in state ≡ done s
  own_reads own = subst (λ (l : List ℕ). scan_in l ≡ done s) (ap (λ (l : List ℕ). l ++ drop scan_length state) (sym own) ∙ take-append-drop scan_length state) (read_written s k (drop scan_length state))

  -- and so they are once the scan was written
  over_own : take scan_length (over (state_bytes s) state) ≡ state_bytes s
  over_own = over_take scan_length (state_bytes s) state (state_long s k)

-- ---- histories are those of the scan that the state holds

pub record Kept (bytes state : List ℕ) (held : List ℤ) (n : ℕ) (strip : List ℕ) (all : List ℤ) : Type 0 where
  pub formed : form bytes ≡ passed
  pub scan : Scan
  pub own : take scan_length state ≡ state_bytes scan
  pub calls : Calls (table_in bytes) scan held n strip all

module _ {bytes state : List ℕ} {held : List ℤ} {n : ℕ} {strip : List ℕ} {all : List ℤ} (k : Kept bytes state held n strip all) where
  -- it is read from the state, in whatever memory this is handed on
  pub kept_reads : (now : List ℕ) → StateHandedOn state now → scan_in now ≡ done k.scan
  kept_reads now same = own_reads k.scan (can_hold bytes k.formed k.calls) now (same ∙ k.own)

  pub kept_held : scan_held state ≡ k.scan
  kept_held = read_is state k.scan (kept_reads state refl)

  kept_lent : (lent : List ℤ) → HeldHandedOn state held lent → HandedOn k.scan held lent
  kept_lent lent = subst (λ (s : Scan). HandedOn s held lent) kept_held

-- a call that is not answered 0 leaves what is left by a refusal
refused_leaves : {A : Type 0} (o : Answer Unit) → ¬ (code o ≡ 0) → (x y : A) → answered o x y ≡ y
refused_leaves (done tt) not x y = absurd (not refl)
refused_leaves (refused why) not x y = refl

-- the calls on a state that holds a scan are those on the scan
module _ (state : List ℕ) (s : Scan) (e : scan_in state ≡ done s) where
  module _ (pixels : List ℕ) (w : ℕ) (held out : List ℤ) where
    line_answered : scan_line_answer state pixels w held out ≡ line_answer s pixels w held out
    unfolding scan_line_answer
    line_answered = then_right (scan_in state) _ e ∙ ap (λ (s : Scan). line_answer s pixels w held out) (read_is state s e)

    line_put : scan_line_answer state pixels w held out ≡ passed → scan_line_state state pixels w held out ≡ over (state_bytes (scan_after s pixels w held out)) state
    unfolding scan_line_state
    line_put passes = answered_done _ state passes ∙ ap (λ (s : Scan). over (state_bytes (scan_after s pixels w held out)) state) (read_is state s e)

    line_counted : scan_line_answer state pixels w held out ≡ passed → (given : ℕ) → scan_line_given state pixels w held out given ≡ length (given_by_line s pixels w held out)
    unfolding scan_line_given
    line_counted passes given = answered_done _ given passes ∙ ap (λ (s : Scan). length (given_by_line s pixels w held out)) (read_is state s e)

    line_lines : (held' out' : List ℤ) → ScanLineLeft state pixels w held out held' out' ≡ LineLeft s pixels w held out (line_answer s pixels w held out) held' out'
    line_lines held' out' = λ i. LineLeft (read_is state s e i) pixels w held out (line_answered i) held' out'

    line_call : {held' out' : List ℤ} → scan_line_answer state pixels w held out ≡ passed → ScanLineLeft state pixels w held out held' out'
        → LineCall s pixels w held out (done (length (given_by_line s pixels w held out))) (scan_after s pixels w held out) held' out'
    line_call {held'} {out'} passes left =
        let own = sym line_answered ∙ passes in
        record { answer_is = sym (then_right (line_answer s pixels w held out) _ own); scan_is = sym (answered_done {o = line_answer s pixels w held out} _ s own); left = as_type (line_lines held' out') left }

  module _ (held out : List ℤ) where
    end_answered : scan_end_answer state held out ≡ end_answer s held out
    unfolding scan_end_answer
    end_answered = then_right (scan_in state) _ e ∙ ap (λ (s : Scan). end_answer s held out) (read_is state s e)

    end_put : scan_end_answer state held out ≡ passed → scan_end_state state held out ≡ over (state_bytes (scan_ended s held out)) state
    unfolding scan_end_state
    end_put passes = answered_done _ state passes ∙ ap (λ (s : Scan). over (state_bytes (scan_ended s held out)) state) (read_is state s e)

    end_counted : scan_end_answer state held out ≡ passed → (given : ℕ) → scan_end_given state held out given ≡ length (given_by_end s held out)
    unfolding scan_end_given
    end_counted passes given = answered_done _ given passes ∙ ap (λ (s : Scan). length (given_by_end s held out)) (read_is state s e)

    end_lines : (held' out' : List ℤ) → ScanEndLeft state held out held' out' ≡ EndLeft s held out (end_answer s held out) held' out'
    end_lines held' out' = λ i. EndLeft (read_is state s e i) held out (end_answered i) held' out'

    end_call : {held' out' : List ℤ} → scan_end_answer state held out ≡ passed → ScanEndLeft state held out held' out'
        → EndCall s held out (done (length (given_by_end s held out))) (scan_ended s held out) held' out'
    end_call {held'} {out'} passes left =
        let own = sym end_answered ∙ passes in
        record { answer_is = sym (then_right (end_answer s held out) _ own); scan_is = sym (answered_done {o = end_answer s held out} _ s own); left = as_type (end_lines held' out') left }

module _ (bytes : List ℕ) where
  pub kept_calls : {state : List ℕ} {held : List ℤ} {n : ℕ} {strip : List ℕ} {all : List ℤ} → ByteCalls bytes state held n strip all → Kept bytes state held n strip all
  unfolding scan_line_state scan_end_state
  kept_calls (c_begun state held accepts) =
      let (formed, passes) = begun_right bytes state accepts in
      let s = scan_of (table_in bytes) in
      record { formed = formed; scan = s; own = ap (take scan_length) (begun_state bytes state accepts) ∙ over_own s (can_hold bytes formed (begun held passes)) state; calls = begun held passes }
  kept_calls (c_line {held' = held'} {n} {strip} {all} {out'} now pixels w lent out given before same again accepts left) =
      let k = kept_calls before in
      let s = k.scan in
      let e = kept_reads k now same in
      let passes = scan_line_zero now pixels w lent out accepts in
      let after = scan_after s pixels w lent out in
      let calls = line k.calls (kept_lent k lent again) (line_call now s e pixels w lent out passes left) in
      record {
        formed = k.formed;
        scan = after;
        own = ap (take scan_length) (line_put now s e pixels w lent out passes) ∙ over_own after (can_hold bytes k.formed calls) now;
        calls = subst (λ (g : ℕ). Calls (table_in bytes) after held' (suc n) (strip ++ take w pixels) (all ++ take (g * w) out')) (sym (line_counted now s e pixels w lent out passes given)) calls;
      }
  kept_calls (c_line_refused now pixels w other out before same not) =
      let k = kept_calls before in
      record { formed = k.formed; scan = k.scan; own = ap (take scan_length) (refused_leaves (scan_line_answer now pixels w other out) not _ now) ∙ same ∙ k.own; calls = k.calls }
  kept_calls (c_end {state} {held' = held'} {n} {strip} {all} {out'} now lent out given before same again accepts left) =
      let k = kept_calls before in
      let s = k.scan in
      let e = kept_reads k now same in
      let passes = scan_end_zero now lent out accepts in
      let after = scan_ended s lent out in
      let calls = end k.calls (kept_lent k lent again) (end_call now s e lent out passes left) in
      record {
        formed = k.formed;
        scan = after;
        own = ap (take scan_length) (end_put now s e lent out passes) ∙ over_own after (can_hold bytes k.formed calls) now;
        calls = subst (λ (g : ℕ). Calls (table_in bytes) after held' n strip (all ++ take (g * (scan_held state).width) out')) (sym (end_counted now s e lent out passes given))
            (subst (λ (a : Scan). Calls (table_in bytes) after held' n strip (all ++ take (length (given_by_end s lent out) * a.width) out')) (sym (kept_held k)) calls);
      }
  kept_calls (c_end_refused now other out before same not) =
      let k = kept_calls before in
      record { formed = k.formed; scan = k.scan; own = ap (take scan_length) (refused_leaves (scan_end_answer now other out) not _ now) ∙ same ∙ k.own; calls = k.calls }

-- ---- claims

module _ (bytes state : List ℕ) (held : List ℤ) (n : ℕ) (strip : List ℕ) (all : List ℤ) (calls : ByteCalls bytes state held n strip all) where
  abbrev kept : Kept bytes state held n strip all
  kept = kept_calls bytes calls

  abbrev t : WidthTable
  t = table_in bytes

  -- what holds of the scan holds of what the state holds
  of_scan : (P : Scan → Type 0) → P kept.scan → P (scan_held state)
  of_scan P = subst P (sym (kept_held kept))

  -- Before the end, what came out is each line that is ready, and it is the transform's whatever lines follow.
  pub c_before_end : (scan_held state).ended ≡ false → (more : List ℕ) (h : ℕ) → n ≤ h → all ≡ first_lines t (strip ++ more) (scan_held state).width h (ready n)
  c_before_end =
      of_scan (λ s. s.ended ≡ false → (more : List ℕ) (h : ℕ) → n ≤ h → all ≡ first_lines t (strip ++ more) s.width h (ready n))
      (before_end t kept.scan held n strip all kept.calls)

  -- After the end, what came out is the whole transform of the strip of the lines accepted.
  pub c_after_end : (scan_held state).ended ≡ true → (1 ≤ n) × (all ≡ first_lines t strip (scan_held state).width n n)
  c_after_end = of_scan (λ s. s.ended ≡ true → (1 ≤ n) × (all ≡ first_lines t strip s.width n n)) (after_end t kept.scan held n strip all kept.calls)

  -- So it is once an end is accepted: what came out before and what the end gives are the whole transform.
  pub c_whole : (now : List ℕ) (lent out : List ℤ) (given : ℕ) {held' out' : List ℤ} → StateHandedOn state now → HeldHandedOn state held lent → code (scan_end_answer now lent out) ≡ 0 → ScanEndLeft now lent out held' out'
      → (1 ≤ n) × (all ++ take (scan_end_given now lent out given * (scan_held state).width) out' ≡ first_lines t strip (scan_held state).width n n)
  unfolding scan_ended
  c_whole now lent out given {held'} {out'} same again accepts left =
      let s = kept.scan in
      let e = kept_reads kept now same in
      let passes = scan_end_zero now lent out accepts in
      let whole : ℕ → Scan → Type 0 = λ g a. (1 ≤ n) × (all ++ take (g * a.width) out' ≡ first_lines t strip a.width n n) in
      subst (λ (g : ℕ). whole g (scan_held state)) (sym (end_counted now s e lent out passes given))
      (of_scan (whole (length (given_by_end s lent out)))
      (after_end t (scan_ended s lent out) held' n strip _ (end kept.calls (kept_lent kept lent again) (end_call now s e lent out passes left)) refl))

  -- Demand 3 of all that came out: before the end, whatever lines of the table's depth follow,
  pub c_near_before_end : (scan_held state).ended ≡ false → (more : List ℕ) → ((k : ℕ) → get_or more k 0 < 2 ^ t.depth) → (h : ℕ) → n ≤ h → LinesNear t (strip ++ more) (scan_held state).width h (ready n) all
  c_near_before_end =
      of_scan (λ s. s.ended ≡ false → (more : List ℕ) → ((k : ℕ) → get_or more k 0 < 2 ^ t.depth) → (h : ℕ) → n ≤ h → LinesNear t (strip ++ more) s.width h (ready n) all)
      (near_before_end t kept.scan held n strip all kept.calls)

  -- and after it.
  pub c_near_after_end : (scan_held state).ended ≡ true → LinesNear t strip (scan_held state).width n n all
  c_near_after_end = of_scan (λ s. s.ended ≡ true → LinesNear t strip s.width n n all) (near_after_end t kept.scan held n strip all kept.calls)

  -- No value on the way leaves its width.
  pub c_in_widths : 1 ≤ n → LevelInWidth t 1 (scan_held state).width n (sample strip t.depth (scan_held state).width)
  c_in_widths = of_scan (λ s. 1 ≤ n → LevelInWidth t 1 s.width n (sample strip t.depth s.width)) (in_widths t kept.scan held n strip all kept.calls)

-- ---- there are such histories

-- one scan's bytes over as many others
over_state : (s : Scan) → Keepable s → (state : List ℕ) → length state ≡ scan_length → over (state_bytes s) state ≡ state_bytes s
over_state s k state long = ap (λ (l : List ℕ). state_bytes s ++ l) (drop_of_length-le state {i = length (state_bytes s)} (omega (arith, state_long s k, long))) ∙ append-nil (state_bytes s)

holds_it : (s : Scan) → Keepable s → scan_in (state_bytes s) ≡ done s
holds_it s k = subst (λ (l : List ℕ). scan_in l ≡ done s) (append-nil (state_bytes s)) (read_written s k [])

module _ (bytes : List ℕ) (formed : form bytes ≡ passed) where
  lent_again : (s : Scan) → Keepable s → (held lent : List ℤ) → HandedOn s held lent → HeldHandedOn (state_bytes s) held lent
  lent_again s k held lent = subst (λ (a : Scan). HandedOn a held lent) (sym (read_is (state_bytes s) s (holds_it s k)))

  -- Each history of a scan is one of its bytes in the same memory. (Refused calls, which change nothing, are left out.)
  pub calls_on_bytes : {s : Scan} {held : List ℤ} {n : ℕ} {strip : List ℕ} {given : List ℤ} → Calls (table_in bytes) s held n strip given → ByteCalls bytes (state_bytes s) held n strip given
  unfolding scan_begin_answer begins
  calls_on_bytes (begun held e) =
      let s = scan_of (table_in bytes) in
      let first : List ℕ = replicate scan_length 0 in
      let accepts : code (scan_begin_answer bytes first) ≡ 0 = ap (λ (o : Answer Unit). code o) (then_right (begins bytes) _ (then_right (form bytes) _ formed ∙ e)) in
      subst (λ (l : List ℕ). ByteCalls bytes l held 0 [] []) (begun_state bytes first accepts ∙ over_state s (can_hold bytes formed (begun held e)) first refl) (c_begun first held accepts)
  calls_on_bytes (line {s} {s'} {held} {lent} {held'} {n} {strip} {given} {pixels} {w} {m} {out} {out'} before same call) =
      let k = can_hold bytes formed before in
      let e = holds_it s k in
      let (own, counted) = gives_done (line_answer s pixels w lent out) (length (given_by_line s pixels w lent out)) (sym call.answer_is) in
      let passes = line_answered (state_bytes s) s e pixels w lent out ∙ own in
      let after : scan_after s pixels w lent out ≡ s' = sym (call.scan_is ∙ answered_done _ s own) in
      let state : scan_line_state (state_bytes s) pixels w lent out ≡ state_bytes s' =
      line_put (state_bytes s) s e pixels w lent out passes
      ∙ ap (λ (a : Scan). over (state_bytes a) (state_bytes s)) after
      ∙ over_state s' (can_hold bytes formed (line before same call)) (state_bytes s) (state_long s k) in
      let count : scan_line_given (state_bytes s) pixels w lent out 0 ≡ m = line_counted (state_bytes s) s e pixels w lent out passes 0 ∙ counted in
      as_type (λ i. ByteCalls bytes (state i) held' (suc n) (strip ++ take w pixels) (given ++ take (count i * w) out'))
      (c_line (state_bytes s) pixels w lent out 0 (calls_on_bytes before) refl (lent_again s k held lent same) (ap (λ (o : Answer Unit). code o) passes) (as_type (sym (line_lines (state_bytes s) s e pixels w lent out held' out')) call.left))
  calls_on_bytes (line_refused {s} {s'} {held} {n} {strip} {given} {pixels} {w} {other} {other'} {out} {out'} {r} before call) =
      subst (λ (s : Scan). ByteCalls bytes (state_bytes s) held n strip given) (sym ((refused_keeps s other out r s' other' out').0 pixels w call).0) (calls_on_bytes before)
  calls_on_bytes (end {s} {s'} {held} {lent} {held'} {n} {strip} {given} {m} {out} {out'} before same call) =
      let k = can_hold bytes formed before in
      let e = holds_it s k in
      let (own, counted) = gives_done (end_answer s lent out) (length (given_by_end s lent out)) (sym call.answer_is) in
      let passes = end_answered (state_bytes s) s e lent out ∙ own in
      let after : scan_ended s lent out ≡ s' = sym (call.scan_is ∙ answered_done _ s own) in
      let state : scan_end_state (state_bytes s) lent out ≡ state_bytes s' =
      end_put (state_bytes s) s e lent out passes
      ∙ ap (λ (a : Scan). over (state_bytes a) (state_bytes s)) after
      ∙ over_state s' (can_hold bytes formed (end before same call)) (state_bytes s) (state_long s k) in
      let count : scan_end_given (state_bytes s) lent out 0 ≡ m = end_counted (state_bytes s) s e lent out passes 0 ∙ counted in
      as_type (λ i. ByteCalls bytes (state i) held' n strip (given ++ take (count i * (read_is (state_bytes s) s e i).width) out'))
      (c_end (state_bytes s) lent out 0 (calls_on_bytes before) refl (lent_again s k held lent same) (ap (λ (o : Answer Unit). code o) passes) (as_type (sym (end_lines (state_bytes s) s e lent out held' out')) call.left))
  calls_on_bytes (end_refused {s} {s'} {held} {n} {strip} {given} {other} {other'} {out} {out'} {r} before call) =
      subst (λ (s : Scan). ByteCalls bytes (state_bytes s) held n strip given) (sym ((refused_keeps s other out r s' other' out').1 call).0) (calls_on_bytes before)

-- Under the bytes of every accepted table of one level, every strip of at least one line of admitted width and of the table's depth can be
-- scanned to its end.
pub c_scanned : (bytes : List ℕ) → code (check_answer bytes) ≡ 0 → (table_in bytes).levels ≡ 1
    → (w n : ℕ) → Admitted w → 1 ≤ n → (strip : List ℕ) → length strip ≡ n * w → ((k : ℕ) → get_or strip k 0 < 2 ^ (table_in bytes).depth)
    → FinishedByteScan bytes n strip
unfolding check_answer
c_scanned bytes accepts one w n side some strip size below =
    let t = table_in bytes in
    let (formed, accepted) = then_done (form bytes) (verdict t) (checked_zero bytes accepts) in
    let held = replicate (held_lines * w) (pos 0) in
    let out = replicate (out_lines * w) (pos 0) in
    let r = scanned t (one_level t one ∙ accepted) w n side some held out (omega (arith, length-replicate (held_lines * w) (pos 0))) (omega (arith, length-replicate (out_lines * w) (pos 0))) strip size below in
    let k = can_hold bytes formed r.calls in
    record {
      state = state_bytes r.scan;
      held = r.held;
      all = r.given;
      calls = calls_on_bytes bytes formed r.calls;
      ended = ap (λ (s : Scan). s.ended) (read_is (state_bytes r.scan) r.scan (holds_it r.scan k)) ∙ r.ended;
    }

-- There are such tables and strips: the usual one and a single pixel, for one.
pub c_one_scanned : FinishedByteScan (bytes_of_table (usual 1)) 1 (10 ∷ [])
c_one_scanned =
    let t = usual 1 in
    let sized : FullLists t = record { constants = refl; nodes = refl; products = refl } in
    let ok = usual_accepted 1 (omega arith) (omega arith) in
    let (formed, back) = written_reads t sized (is_true (form_right t) (promise t ok).form) in
    let same : t ≡ table_in (bytes_of_table t) = sym (sym (table_read_lem (bytes_of_table t) formed) ∙ back) in
    c_scanned (bytes_of_table t) (accepted_checks t sized ok) (sym (ap (λ (t : WidthTable). t.levels) same)) 1 1 (omega arith, omega arith) (omega arith) (10 ∷ []) refl
    (λ k. subst (λ (t : WidthTable). get_or (10 ∷ []) k 0 < 2 ^ t.depth) same (below k))
  where
    below : (k : ℕ) → get_or (10 ∷ []) k 0 < 256
    below zero = omega arith
    below (suc k) = omega arith

-- ---- which states calls leave

-- A state of enough bytes that no calls left is answered 14, whatever is lent with it.
module _ (state : List ℕ) (below : (k : ℕ) → k < length state → get_or state k 0 < 256) (long : scan_length ≤ length state) (foreign : ¬ (LeftState (take scan_length state))) where
  not_left : (s : Scan) → scan_in state ≡ done s → ¬ (LeftByCalls s)
  not_left s e l =
      let table = take (table_end state) state in
      let formed = read_formed state s e in
      let same : s.table ≡ table_in table = ap (λ (s : Scan). s.table) (sym (read_is state s e)) in
      let calls = subst (λ (t : WidthTable). Calls t s l.held l.lines l.strip l.given) same l.calls in
      foreign (subst LeftState (written_read state below s e) (record { table = table; held = l.held; lines = l.lines; strip = l.strip; all = l.given; calls = calls_on_bytes table formed calls }))

  answered_14 : (call : Scan → Answer Unit) → ((s : Scan) → ¬ (LeftByCalls s) → call s ≡ refused (14, [])) → code (scan_in state then call (scan_held state)) ≡ 14
  answered_14 call refuses = go (scan_in state) refl
    where
      go : (o : Answer Scan) → scan_in state ≡ o → code (scan_in state then call (scan_held state)) ≡ 14
      go (done s) e = ap (λ (o : Answer Unit). code o) (then_right (scan_in state) _ e ∙ ap call (read_is state s e) ∙ refuses s (not_left s e))
      go (refused why) e = ap (λ (o : Answer Unit). code o) (then_refused (scan_in state) (call (scan_held state)) _ (read_refused state long why e))

  pub c_foreign_line : (pixels : List ℕ) (w : ℕ) (held out : List ℤ) → code (scan_line_answer state pixels w held out) ≡ 14
  unfolding scan_line_answer
  c_foreign_line pixels w held out = answered_14 (λ s. line_answer s pixels w held out) (λ s none. (foreign_refused s none).0 pixels w held out)

  pub c_foreign_end : (held out : List ℤ) → code (scan_end_answer state held out) ≡ 14
  unfolding scan_end_answer
  c_foreign_end held out = answered_14 (λ s. end_answer s held out) (λ s none. (foreign_refused s none).1 held out)

-- There are such states: zeros, for one.
pub zeros_foreign : ¬ (LeftState (replicate scan_length 0))
zeros_foreign l =
    let zeros : List ℕ = replicate scan_length 0 in
    let none : scan_in zeros ≡ refused (14, []) = subst (λ (state : List ℕ). scan_in state ≡ refused (14, [])) (append-nil zeros) (zeros_hold_none []) in
    absurd (subst T (ap (λ (o : Answer Scan). answered o true false) (sym (kept_reads (kept_calls l.table l.calls) zeros refl) ∙ none)) tt)
