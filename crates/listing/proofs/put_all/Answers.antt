-- `listing::put_all` meets its contract: the bytes stored one by one are a part of the text.
use Rattle.std.proofs.Common.{◌≡◌, ℕ, List, ◌+◌, ◌-◌, ◌++◌, length, take, drop, ◌∙◌, sym, ap, arith, append_assoc}
use Rattle.std.proofs.lemmas.List.{drop-drop}
use Rattle.std.proofs.lemmas.List.Edits.{sets-eq}
use Rattle.listing.proofs.put_all.Goals as goal

pub returns : goal.returns
returns c =
    let a = c.args in
    let n = length a.bytes.now in
    let e : a.at + n - a.at ≡ n = omega arith in
    record {
      text =
          (λ i. take a.at a.text.now ++ (c.copy_from_slice.ensures.after i ++ drop (e i) (drop a.at a.text.now)))
          ∙ ap (λ (rest : List ℕ). take a.at a.text.now ++ (a.bytes.now ++ rest)) (drop-drop n a.at a.text.now)
          ∙ sym (sets-eq a.bytes.now a.text.now a.at (omega arith) ∙ append_assoc (take a.at a.text.now) a.bytes.now (drop (a.at + n) a.text.now));
      end = omega arith;
      inside = omega arith;
    }
