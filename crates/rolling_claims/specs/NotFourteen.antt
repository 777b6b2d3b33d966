-- Which rules never answer 14.
use Rattle.std.specs.Prelude.{ℕ, ◌*◌, ◌^◌, Bool, true, false, ◌||◌, not, List, [], ◌∷◌, ◌≡◌, refl, leb, ltb, take}
use Rattle.std.proofs.Common.{arith}
use Rattle.numbers.specs.Tests.{every}
use Rattle.refusals.specs.Answers.{Reason, Answer, done, refused, passed, asks, asks_giving, ◌then◌, code}
use Rattle.width_table.specs.Nodes.{TableNode, table_order}
use Rattle.width_table.specs.declared.WidthTable.{WidthTable}
use Rattle.width_table.specs.Table.{integer_bits, fraction_bits, form_right}
use Rattle.pictures.specs.Pictures.{length_answer, pixel_answer}
use Rattle.stages.specs.Rule.{Bound}
use Rattle.precision.specs.Bounds.{bound_of}
use Rattle.precision.specs.Verdict.{fits, below_two_steps, place_numbers, judged_by, judged, first_refusal, verdict}
use Rattle.table_meaning.specs.Subbands.{kept_at}

-- an answer that is not 14, as one number
abbrev pub Other : Answer Unit → Type 0
Other o = ¬ (code o ≡ 14)

pub done_other : Other passed
done_other e = omega arith

pub asks_other : (b : Bool) (r : Reason) (o : Answer Unit) → Other (refused r) → Other o → Other (asks_giving b r o)
asks_other true r o p q = q
asks_other false r o p q = p

pub then_other : (a b : Answer Unit) → Other a → Other b → Other (a then b)
then_other (done u) b p q = q
then_other (refused r) b p q = p

-- a judgement that does not answer 14 held, where one after it does
pub then_fourteen : (a b : Answer Unit) → Other a → code (a then b) ≡ 14 → (a ≡ passed) × (code b ≡ 14)
then_fourteen (done tt) b p e = (refl, e)
then_fourteen (refused r) b p e = absurd (p e)

-- where nothing after a rule answers 14, the rule that does not hold did
pub asks_first : (b : Bool) (o : Answer Unit) → Other o → code (asks b 14 o) ≡ 14 → b ≡ false
asks_first true o q e = absurd (q e)
asks_first false o q e = refl

pub holds_other : (n k : ℕ) → Other (length_answer n k)
unfolding length_answer
holds_other n k = asks_other (leb n k) (9, []) _ (λ e. omega arith) done_other

pub pixels_other : (B w h : ℕ) (pixels : List ℕ) → Other (pixel_answer B w h pixels)
unfolding pixel_answer
pixels_other B w h pixels = asks_other (every (λ p. ltb p (2 ^ B)) (take (w * h) pixels)) (10, []) _ (λ e. omega arith) done_other

-- 4, 6 and 7
judged_other : (b : Bound) (IB f : ℕ) (kept : Bool) (place : List ℕ) → Other (judged_by b IB f kept place)
judged_other b IB f kept place = asks_other (fits b IB f) (6, place) _ (λ e. omega arith) (asks_other (not kept || below_two_steps b f) (7, place) passed (λ e. omega arith) done_other)

first_other : (t : WidthTable) (ps : List TableNode) → Other (first_refusal t ps)
unfolding first_refusal judged
first_other t [] = done_other
first_other t (p ∷ ps) =
    then_other (judged t p) (first_refusal t ps)
    (judged_other (bound_of t p) (integer_bits t p.level p.pass p.node) (fraction_bits t p.level p.pass p.node) (kept_at t.levels p.level p.pass p.node) (place_numbers p))
    (first_other t ps)

pub verdict_other : (t : WidthTable) → Other (verdict t)
unfolding verdict
verdict_other t = asks_other (form_right t) (4, []) _ (λ e. omega arith) (first_other t (table_order t.levels))
