-- What a call answers, in the documents' own numbers (document 01, "Why a strip or book comes back"; document 02), and the order of its rules.
use Rattle.std.specs.Prelude.{ℕ, ◌+◌, ◌*◌, Bool, true, false, List, [], ◌∷◌}

-- A refusal gives its number, and values: 6 and 7 give level, pass and node, the others nothing.
abbrev pub Reason : Type 0
Reason = ℕ × List ℕ

-- A call is done, and gives something, or it is refused.
pub data Answer (A : Type 0) : Type 0 where
  done : A → Answer A
  refused : Reason → Answer A

-- Done, with nothing to give besides what stands in lent memory.
abbrev pub passed : Answer Unit
passed = done tt

-- A rule whose refusal gives values: where it does not hold, that is the answer; where it holds, the rules after it decide.
abbrev pub asks_giving : {A : Type 0} → Bool → Reason → Answer A → Answer A
asks_giving true r after = after
asks_giving false r after = refused r

-- A rule whose refusal gives its number alone.
abbrev pub asks : {A : Type 0} → Bool → ℕ → Answer A → Answer A
asks rule number after = asks_giving rule (number, []) after

-- One judgement, and then another.
infixr 20 ◌then◌
abbrev pub ◌then◌ : {A B : Type 0} → Answer A → Answer B → Answer B
done a then after = after
refused r then after = refused r

-- what stands where the call is done, and what where it is refused
abbrev pub answered : {A B : Type 0} → Answer A → B → B → B
answered (done a) x y = x
answered (refused r) x y = y

-- ---- an answer as one number of 32 bits

-- numbers as bytes of one number, the first one lowest
abbrev pub bytes_up : List ℕ → ℕ
bytes_up [] = 0
bytes_up (n ∷ ns) = n + 256 * bytes_up ns

-- 0 where the call is done; else the refusal's number in bits 0 to 7, and its values in the bytes above
abbrev pub code : {A : Type 0} → Answer A → ℕ
code (done a) = 0
code (refused r) = bytes_up (r.0 ∷ r.1)
