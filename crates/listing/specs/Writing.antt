-- Bytes written into a text, one after the other.
use Rattle.std.specs.Prelude.{ℕ, suc, ◌+◌, ◌≤◌, List, [], ◌∷◌, ◌++◌, ◌≡◌, refl, length, set, drop}
use Rattle.std.proofs.Common.{◌∙◌, ap, subst, arith, length-append}
use Rattle.std.proofs.lemmas.List.Edits.{sets, sets-eq}
use Rattle.std.proofs.Math.Seq.{length-sets}
use Rattle.numbers.specs.Lists.{over}

-- bytes stored one by one inside the text, the first at place `at`: the text after it, and the place after the last one
pub record Put (bytes before : List ℕ) (at : ℕ) (after : List ℕ) (next : ℕ) : Type 0 where
  pub text : after ≡ sets before at bytes
  pub end : next ≡ at + length bytes
  pub inside : next ≤ length before

-- all of the bytes, in two parts
sets_then : (a b l : List ℕ) (i : ℕ) → sets (sets l i a) (i + length a) b ≡ sets l i (a ++ b)
sets_then [] b l i = ap (λ (k : ℕ). sets l k b) (omega arith)
sets_then (x ∷ a) b l i =
    let e : i + suc (length a) ≡ suc i + length a = omega arith in
    ap (λ (k : ℕ). sets (sets (set l i x) (suc i) a) k b) e ∙ sets_then a b (set l i x) (suc i)

pub put_length : {bytes before after : List ℕ} {at next : ℕ} → Put bytes before at after next → length after ≡ length before
put_length {bytes} {before} {at} p = ap length p.text ∙ length-sets before at bytes

-- what is written at the front
pub put_over : {bytes before after : List ℕ} {next : ℕ} → Put bytes before 0 after next → after ≡ over bytes before
put_over {bytes} {before} p =
    let e : 0 + length bytes ≡ length bytes = omega arith in
    p.text ∙ sets-eq bytes before 0 (omega (arith, p.end, p.inside)) ∙ ap (λ (k : ℕ). bytes ++ drop k before) e

-- What is still to be written: to store `rest` from `next` on leaves what it leaves to store `all` in the text before.
pub record Leads (all before : List ℕ) (at : ℕ) (rest now : List ℕ) (next : ℕ) : Type 0 where
  pub text : sets now next rest ≡ sets before at all
  pub end : next + length rest ≡ at + length all

pub leads_start : (all before : List ℕ) (at : ℕ) → Leads all before at all before at
leads_start all before at = record { text = refl; end = refl }

pub leads_put : {all before now after : List ℕ} {at next then : ℕ} (bytes rest : List ℕ) → Leads all before at (bytes ++ rest) now next → Put bytes now next after then → Leads all before at rest after then
leads_put {now} {next} bytes rest l p = record {
  text = (λ i. sets (p.text i) (p.end i) rest) ∙ sets_then bytes rest now next ∙ l.text;
  end = omega (arith, p.end, l.end, length-append bytes rest);
}

pub leads_same : {all before now : List ℕ} {at next : ℕ} (rest rest' : List ℕ) → Leads all before at rest now next → rest ≡ rest' → Leads all before at rest' now next
leads_same {all} {before} {now} {at} {next} rest rest' l e = subst (λ (r : List ℕ). Leads all before at r now next) e l

pub leads_end : {all before now : List ℕ} {at next : ℕ} → Leads all before at [] now next → next ≤ length before → Put all before at now next
leads_end l h = record { text = l.text; end = omega (arith, l.end); inside = h }

pub put_then : {a b before middle after : List ℕ} {at next then : ℕ} → Put a before at middle next → Put b middle next after then → Put (a ++ b) before at after then
put_then {a} {b} {before} {at} p q = record {
  text = q.text ∙ (λ i. sets (p.text i) (p.end i) b) ∙ sets_then a b before at;
  end = omega (arith, p.end, q.end, length-append a b);
  inside = omega (arith, q.inside, put_length p);
}

pub put_same : {before after : List ℕ} {at next : ℕ} (bytes bytes' : List ℕ) → Put bytes before at after next → bytes ≡ bytes' → Put bytes' before at after next
put_same {before} {after} {at} {next} bytes bytes' p e = subst (λ (b : List ℕ). Put b before at after next) e p
