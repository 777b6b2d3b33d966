-- What a right answer says of the rules that led to it.
use Rattle.std.specs.Prelude.{Bool, true, false, ◌≡◌, refl, ℕ, ◌≤◌, T}
use Rattle.std.proofs.Common.{sym, ap, subst, arith}
use Rattle.refusals.specs.Answers.{Reason, Answer, done, refused, passed, asks_giving, ◌then◌, answered, code}

never : {A B : Type 0} (r : Reason) (a : A) → refused r ≡ done a → B
never r a e = let z : ◌≡◌ {A = ℕ} 0 1 = cc in absurd (omega arith)

-- a rule, whether its refusal gives values (`asks_giving`) or not (`asks`)
module _ {A : Type 0} where
  pub asks_done : (t : Bool) (r : Reason) (o : Answer A) {a : A} → asks_giving t r o ≡ done a → T t × (o ≡ done a)
  asks_done true r o e = (tt, e)
  asks_done false r o {a} e = never r a e

  pub asks_right : (t : Bool) (r : Reason) (o : Answer A) → T t → asks_giving t r o ≡ o
  asks_right true r o h = refl
  asks_right false r o h = absurd h

  pub asks_wrong : (t : Bool) (r : Reason) (o : Answer A) → t ≡ false → asks_giving t r o ≡ refused r
  asks_wrong t r o e = ap (λ (t : Bool). asks_giving t r o) e

  -- the rule that is refused does not hold
  pub asks_refused : (t : Bool) (r s : Reason) (a : A) → asks_giving t r (done a) ≡ refused s → t ≡ false
  asks_refused true r s a e = never s a (sym e)
  asks_refused false r s a e = refl

pub then_done : {B : Type 0} (a : Answer Unit) (b : Answer B) {y : B} → a then b ≡ done y → (a ≡ done tt) × (b ≡ done y)
then_done (done tt) b e = (refl, e)
then_done (refused r) b {y} e = never r y e

pub then_assoc : {B : Type 0} (u v : Answer Unit) (w : Answer B) → u then v then w ≡ (u then v) then w
then_assoc (done tt) v w = refl
then_assoc (refused r) v w = refl

-- a judgement, and then what is given where it holds
module _ {B : Type 0} where
  pub gives_done : (a : Answer Unit) (x : B) {y : B} → a then done x ≡ done y → (a ≡ done tt) × (x ≡ y)
  gives_done a x e = let (passes, given) = then_done a (done x) e in (passes, ap gift given)
    where
      gift : Answer B → B
      gift (done y) = y
      gift (refused r) = x

  pub gives_refused : (a : Answer Unit) (x : B) (r : Reason) → a then done x ≡ refused r → a ≡ refused r
  gives_refused (done tt) x r e = never r x (sym e)
  gives_refused (refused s) x r e = ap (λ (o : Answer B). o then done tt) e

module _ {A B : Type 0} where
  pub then_right : (a : Answer A) (b : Answer B) {x : A} → a ≡ done x → a then b ≡ b
  then_right a b e = ap (λ (o : Answer A). o then b) e

  pub then_refused : (a : Answer A) (b : Answer B) (r : Reason) → a ≡ refused r → a then b ≡ refused r
  then_refused a b r e = ap (λ (o : Answer A). o then b) e

  pub answered_done : {o : Answer A} {a : A} (x y : B) → o ≡ done a → answered o x y ≡ x
  answered_done x y e = ap (λ (o : Answer A). answered o x y) e

  pub answered_refused : {o : Answer A} {r : Reason} (x y : B) → o ≡ refused r → answered o x y ≡ y
  answered_refused x y e = ap (λ (o : Answer A). answered o x y) e

-- ---- an answer as one number

-- the refusals of an answer have numbers from 1 on
pub record FromOne {A : Type 0} (a : Answer A) : Type 0 where
  pub least : (r : Reason) → a ≡ refused r → 1 ≤ r.0

pub done_from_one : {A : Type 0} (x : A) → FromOne (done x)
done_from_one x = record { least = λ r e. never r x (sym e) }

pub asks_from_one : {A : Type 0} (t : Bool) (r : Reason) (o : Answer A) → 1 ≤ r.0 → FromOne o → FromOne (asks_giving t r o)
asks_from_one true r o h k = k
asks_from_one false r o h k = record { least = λ s e. let z : r ≡ s = cc in subst (λ (q : Reason). 1 ≤ q.0) z h }

pub then_from_one : {A B : Type 0} (a : Answer A) (b : Answer B) → FromOne a → FromOne b → FromOne (a then b)
then_from_one (done x) b h k = k
then_from_one (refused r) b h k = record { least = λ s e. let z : r ≡ s = cc in subst (λ (q : Reason). 1 ≤ q.0) z (h.least r refl) }

-- then 0 says that the call was done
pub code_zero : (a : Answer Unit) → FromOne a → code a ≡ 0 → a ≡ passed
code_zero (done tt) h e = refl
code_zero (refused r) h e = absurd (omega (arith, h.least r refl))
