-- The claims over calls, proved.
use Rattle.std.specs.Prelude.{ℕ, zero, suc, ◌+◌, ◌*◌, ◌^◌, ◌<◌, ◌≤◌, Bool, true, false, not, ◌&&◌, ◌||◌, List, [], ◌++◌, ◌↔◌, ◌⊎◌, ◌≡◌, refl, T, eqb, length, get_or, ℤ}
use Rattle.std.proofs.Common.{inl, inr, ⊎_elim, sym, ◌∙◌, ap, subst, arith, lt→ltb, eqb→eq}
use Rattle.std.proofs.Math.Decide.{dec_lt}
use Rattle.std.proofs.Math.Dec.{ltb, ltb→lt, eqb_refl}
use Rattle.numbers.specs.Tests.{both, and_intro}
use Rattle.refusals.specs.Answers.{Answer, refused, code}
use Rattle.refusals.specs.AnswerLaws.{asks_wrong, gives_done, gives_refused, answered_done, answered_refused}
use Rattle.lines.specs.Lines.{high_before, interleaved}
use Rattle.lines.specs.LineLaws.{even_place_lem, odd_place, by_parity}
use Rattle.lines.specs.Planes.{levels, side}
use Rattle.width_table.specs.declared.WidthTable.{WidthTable}
use Rattle.pictures.specs.Pictures.{sample, side_right, length_answer}
use Rattle.irreversible.specs.Transforms.{fixed_after, fixed_plane}
use Rattle.irreversible.specs.Claims.{LevelInWidth}
use Rattle.irreversible.specs.Demand3.{widths_strip}
use Rattle.rolling.specs.declared.Scan.{Scan}
use Rattle.rolling_lines.specs.Schedule.{any_taken}
use Rattle.rolling_lines.specs.LentLines.{Sound, held_lines, out_lines, held_in}
use Rattle.rolling.specs.Calls.{goes_on, line_answer_of, line_answer, worked_row, given_by_line, scan_after, end_answer_of, end_answer, given_by_end, scan_ended}
use Rattle.rolling_claims.specs.Claims.{ready_p1, ready_u1, ready_p2, ready_u2, line_ready, ready, ReadyLines, in_turn, first_lines, BeforeEnd, AfterEnd, Counts, OneWidth, BeginFourteen, Fourteen, RefusedKeeps, SoundLeft, InWidths, LinesNear, NearBeforeEnd, NearAfterEnd}
use Rattle.rolling.specs.AnswerLaws.{other_levels, one_level, begun_one, begun_accepted, on_running}
use Rattle.rolling_claims.specs.LineOrder.{no_rows}
use Rattle.rolling_claims.specs.History.{Facts, lent_facts, facts, table_kept, count_some, some_count, line_count, end_count, goes_on_lem, line_right, end_right, strip_more, strip_now, sound_now}
use Rattle.rolling_claims.specs.NearLaws.{lines_near}
use Rattle.rolling_claims.specs.NotFourteen.{asks_other, then_other, asks_first, holds_other, pixels_other, verdict_other}

-- ---- ready lines

module _ (n : ℕ) where
  -- P1 and U1 at i wait for line 2 i + 2, P2 and U2 for line 2 i + 4
  p1_ready : (i : ℕ) → T (ready_p1 n i) ↔ (2 * i + 2 < n)
  unfolding ready_p1
  p1_ready i = (
    (λ h. ltb→lt _ _ (both (ltb (2 * i + 1) n && ltb (2 * i) n) (ltb (2 * i + 2) n) h).1),
    (λ h. and_intro (ltb (2 * i + 1) n && ltb (2 * i) n) (ltb (2 * i + 2) n) (and_intro (ltb (2 * i + 1) n) (ltb (2 * i) n) (lt→ltb (2 * i + 1) n (omega arith)) (lt→ltb (2 * i) n (omega arith))) (lt→ltb _ _ h)),
  )

  u1_ready : (i : ℕ) → T (ready_u1 n i) ↔ (2 * i + 2 < n)
  unfolding ready_u1 high_before
  u1_ready i = (
    (λ h. (p1_ready i).0 (both (ltb (2 * i) n && ready_p1 n (high_before i)) (ready_p1 n i) h).1),
    (λ h. and_intro (ltb (2 * i) n && ready_p1 n (high_before i)) (ready_p1 n i) (and_intro (ltb (2 * i) n) (ready_p1 n (high_before i)) (lt→ltb (2 * i) n (omega arith)) ((p1_ready (high_before i)).1 (omega arith))) ((p1_ready i).1 h)),
  )

  p2_ready : (i : ℕ) → T (ready_p2 n i) ↔ (2 * i + 4 < n)
  unfolding ready_p2
  p2_ready i = (
    (λ h. let a = (u1_ready (i + 1)).0 (both (ready_p1 n i && ready_u1 n i) (ready_u1 n (i + 1)) h).1 in omega arith),
    (λ h. and_intro (ready_p1 n i && ready_u1 n i) (ready_u1 n (i + 1)) (and_intro (ready_p1 n i) (ready_u1 n i) ((p1_ready i).1 (omega arith)) ((u1_ready i).1 (omega arith))) ((u1_ready (i + 1)).1 (omega arith))),
  )

  u2_ready : (i : ℕ) → T (ready_u2 n i) ↔ (2 * i + 4 < n)
  unfolding ready_u2 high_before
  u2_ready i = (
    (λ h. (p2_ready i).0 (both (ready_u1 n i && ready_p2 n (high_before i)) (ready_p2 n i) h).1),
    (λ h. and_intro (ready_u1 n i && ready_p2 n (high_before i)) (ready_p2 n i) (and_intro (ready_u1 n i) (ready_p2 n (high_before i)) ((u1_ready i).1 (omega arith)) ((p2_ready (high_before i)).1 (omega arith))) ((p2_ready i).1 h)),
  )

pub ready_lines : ReadyLines
unfolding line_ready
ready_lines n k =
    by_parity (λ k. (k < ready n) ↔ T (interleaved (ready_u2 n) (ready_p2 n) k)) (suc k)
    (λ i r. subst (λ (b : Bool). (2 * i < ready n) ↔ T b) (sym (even_place_lem (ready_u2 n) (ready_p2 n) i)) ((λ h. (u2_ready n i).1 (omega arith)), (λ h. let a = (u2_ready n i).0 h in omega arith)))
    (λ i r. subst (λ (b : Bool). (2 * i + 1 < ready n) ↔ T b) (sym (odd_place (ready_u2 n) (ready_p2 n) i)) ((λ h. (p2_ready n i).1 (omega arith)), (λ h. let a = (p2_ready n i).0 h in omega arith)))
    k (omega arith)

-- ---- what came out

pub before_end : BeforeEnd
before_end t s held n strip given calls e more h room =
    subst (λ (t : WidthTable). given ≡ first_lines t (strip ++ more) s.width h (ready n)) (table_kept t calls)
    ((facts t calls).before_end e s.width (λ i. refl) more h room).given_is

pub after_end : AfterEnd
after_end t s held h strip given calls e =
    subst (λ (t : WidthTable). (1 ≤ h) × (given ≡ first_lines t strip s.width h h)) (table_kept t calls) ((facts t calls).after_end e)

pub counts : Counts
unfolding given_by_line given_by_end
counts t s held n strip given calls = (
  (λ pixels w m lent out s' lent' out' call.
      let (passes, counted) = gives_done (line_answer s pixels w lent out) (length (given_by_line s pixels w lent out)) (sym call.answer_is) in
      subst (λ (m : ℕ). (ready n + m ≡ ready (suc n)) × (m ≤ 4)) counted (line_count s.table w (held_in w lent) (worked_row s pixels w lent out) n s.taken (facts t calls).count)),
  (λ m lent out s' lent' out' call.
      let (passes, counted) = gives_done (end_answer s lent out) (length (given_by_end s lent out)) (sym call.answer_is) in
      subst (λ (m : ℕ). (ready n + m ≡ n) × (m ≤ 4)) counted
      (end_count s.table s.width (held_in s.width lent) n s.taken (facts t calls).count (some_count (facts t calls).count (end_right s lent out passes).some))),
)

-- ---- one width, and 14

pub one_width : OneWidth
unfolding scan_after
one_width t s held n strip given calls = (
  (facts t calls).size,
  λ pixels w m lent out s' lent' out' call.
      let (passes, counted) = gives_done (line_answer s pixels w lent out) (length (given_by_line s pixels w lent out)) (sym call.answer_is) in
      (ap (λ (s : Scan). s.width) (call.scan_is ∙ answered_done (scan_after s pixels w lent out) s passes), λ i. (line_right s pixels w lent out passes).width (count_some (facts t calls).count i)),
)

pub begin_fourteen : BeginFourteen
begin_fourteen t = ((λ e one. verdict_other t (ap (λ (o : Answer Unit). code o) (sym (one_level t one) ∙ e))), other_levels t)

-- the test of a line, and of an end
line_test : (ended low same : Bool) (n : ℕ) (W : Type 0) → (1 ≤ n → T low) → (T low → 1 ≤ n) → (T same → W) → (W → T same)
    → ((not ended && (not low || same)) ≡ false) ↔ (T ended ⊎ ((1 ≤ n) × ¬ W))
line_test true low same n W a b d e = ((λ q. inl tt), (λ q. refl))
line_test false true true n W a b d e = ((λ q. absurd (subst T q tt)), ⊎_elim (λ i. absurd i) (λ i. absurd (i.1 (d tt))))
line_test false true false n W a b d e = ((λ q. inr (b tt, e)), (λ q. refl))
line_test false false same n W a b d e = ((λ q. absurd (subst T q tt)), ⊎_elim (λ i. absurd i) (λ i. absurd (a i.0)))

end_test : (ended some : Bool) (n : ℕ) → (1 ≤ n → T some) → (T some → 1 ≤ n) → ((not ended && some) ≡ false) ↔ (T ended ⊎ (n ≡ 0))
end_test true some n a b = ((λ q. inl tt), (λ q. refl))
end_test false true n a b = ((λ q. absurd (subst T q tt)), ⊎_elim (λ i. absurd i) (λ i. let z = b tt in absurd (omega arith)))
end_test false false zero a b = ((λ q. inr refl), (λ q. refl))
end_test false false (suc n) a b = absurd (a (omega arith))

-- a scan goes on until its end
goes_is : (s : Scan) (held : List ℤ) (n : ℕ) (strip : List ℕ) (given : List ℤ) → Facts s held n strip given → goes_on s ≡ not s.ended
goes_is s held n strip given f = go (goes_on s) s.ended (goes_on_lem s held n strip given f) (on_running s)
  where
    go : (goes ended : Bool) → (ended ≡ false → T goes) → (T goes → ended ≡ false) → goes ≡ not ended
    go true true p q = absurd (subst T (q tt) tt)
    go true false p q = refl
    go false true p q = refl
    go false false p q = absurd (p refl)

pub fourteen : Fourteen
unfolding line_answer_of end_answer_of
fourteen t s held n strip given calls = (on_line, on_end)
  where
    f : Facts s held n strip given
    f = facts t calls

    on_line : (pixels : List ℕ) (w : ℕ) (other out : List ℤ) → (line_answer s pixels w other out ≡ refused (14, [])) ↔ (T s.ended ⊎ ((1 ≤ n) × ¬ (w ≡ s.width)))
    on_line pixels w other out =
        let same = not (any_taken s.taken) || eqb w s.width in
        let test = subst (λ (goes : Bool). ((goes && same) ≡ false) ↔ (T s.ended ⊎ ((1 ≤ n) × ¬ (w ≡ s.width)))) (sym (goes_is s held n strip given f))
        (line_test s.ended (any_taken s.taken) (eqb w s.width) n (w ≡ s.width) (count_some f.count) (some_count f.count) (eqb→eq w s.width) (λ e. subst (λ (k : ℕ). T (eqb w k)) e (eqb_refl w))) in (
          (λ e. test.0 (asks_first (goes_on s && same) _
              (asks_other (side_right w) (8, []) _ (λ e. omega arith)
              (then_other (length_answer w (length pixels)) _ (holds_other _ _) (then_other (length_answer (held_lines * w) (length other)) _ (holds_other _ _) (then_other (length_answer (out_lines * w) (length out)) _ (holds_other _ _) (pixels_other s.table.depth w 1 pixels))))) (ap (λ (o : Answer Unit). code o) e))),
          (λ q. asks_wrong (goes_on s && same) _ _ (test.1 q)),
        )

    on_end : (other out : List ℤ) → (end_answer s other out ≡ refused (14, [])) ↔ (T s.ended ⊎ (n ≡ 0))
    on_end other out =
        let test = subst (λ (goes : Bool). ((goes && any_taken s.taken) ≡ false) ↔ (T s.ended ⊎ (n ≡ 0))) (sym (goes_is s held n strip given f))
        (end_test s.ended (any_taken s.taken) n (count_some f.count) (some_count f.count)) in (
          (λ e. test.0 (asks_first (goes_on s && any_taken s.taken) _ (then_other (length_answer (held_lines * s.width) (length other)) _ (holds_other _ _) (holds_other _ _)) (ap (λ (o : Answer Unit). code o) e))),
          (λ q. asks_wrong (goes_on s && any_taken s.taken) _ _ (test.1 q)),
        )

pub refused_keeps : RefusedKeeps
refused_keeps s held out r s' held' out' = (
  (λ pixels w call.
      let e = gives_refused (line_answer s pixels w held out) (length (given_by_line s pixels w held out)) r (sym call.answer_is) in
      (call.scan_is ∙ answered_refused (scan_after s pixels w held out) s e, (call.left.refused_kept r e).0, (call.left.refused_kept r e).1)),
  (λ call.
      let e = gives_refused (end_answer s held out) (length (given_by_end s held out)) r (sym call.answer_is) in
      (call.scan_is ∙ answered_refused (scan_ended s held out) s e, (call.left.refused_kept r e).0, (call.left.refused_kept r e).1)),
)

pub sound_left : SoundLeft
sound_left t s held n strip given calls running some lent same =
    subst (λ (t : WidthTable). Sound t s.width (held_in s.width lent)) (table_kept t calls)
    (sound_now s lent n strip given (lent_facts s held lent n strip given (facts t calls) same) running some)

-- ---- demand 3

pub in_widths : InWidths
unfolding fixed_after levels side
in_widths t s held n strip given calls some =
    let f = facts t calls in
    subst (λ (t : WidthTable). LevelInWidth t 1 s.width n (sample strip t.depth s.width)) (table_kept t calls)
    (widths_strip s.table strip s.width n (begun_accepted s.table f.begun) (strip_now s held n strip given f n some some) 0 (omega (arith, begun_one s.table f.begun)))

-- where nothing came out, there is nothing to show
none_near : (t : WidthTable) (strip : List ℕ) (w h k : ℕ) (given : List ℤ) → k ≡ 0 → given ≡ first_lines t strip w h k → LinesNear t strip w h k given
none_near t strip w h k given none e = record {
  size = ap (λ (l : List ℤ). length l) (e ∙ ap (first_lines t strip w h) none ∙ sym (no_rows w (in_turn h (fixed_plane t strip w h)))) ∙ nothing w ∙ ap (λ (m : ℕ). m * w) (sym none);
  near = λ i c a b. absurd (omega arith);
  in_width_lem = λ i c a b. absurd (omega arith);
}
  where
    nothing : (w : ℕ) → 0 ≡ 0 * w
    nothing w = omega arith

pub near_before_end : NearBeforeEnd
near_before_end t s held n strip given calls e more below h room =
    subst (λ (t : WidthTable). ((k : ℕ) → get_or more k 0 < 2 ^ t.depth) → LinesNear t (strip ++ more) s.width h (ready n) given) (table_kept t calls) (λ below. go below (dec_lt n 1)) below
  where
    f : Facts s held n strip given
    f = facts t calls

    given_is : given ≡ first_lines s.table (strip ++ more) s.width h (ready n)
    given_is = (f.before_end e s.width (λ i. refl) more h room).given_is

    go : ((k : ℕ) → get_or more k 0 < 2 ^ s.table.depth) → Dec (n < 1) → LinesNear s.table (strip ++ more) s.width h (ready n) given
    go below (yes none) = none_near s.table (strip ++ more) s.width h (ready n) given (omega arith) given_is
    go below (no some) =
        subst (LinesNear s.table (strip ++ more) s.width h (ready n)) (sym given_is)
        (lines_near s.table (begun_one s.table f.begun) (begun_accepted s.table f.begun) (strip ++ more) s.width h (strip_more s held n strip given f more below h (omega arith) (omega arith)) (ready n) (omega arith))

pub near_after_end : NearAfterEnd
near_after_end t s held h strip given calls e =
    let f = facts t calls in
    let (some, given_is) = f.after_end e in
    subst (λ (t : WidthTable). LinesNear t strip s.width h h given) (table_kept t calls)
    (subst (LinesNear s.table strip s.width h h) (sym given_is)
    (lines_near s.table (begun_one s.table f.begun) (begun_accepted s.table f.begun) strip s.width h (strip_now s held h strip given f h some some) h (omega arith)))
