-- Values of 32 bits as unsigned numbers: 2 ^ 31 more.
use Rattle.std.specs.Prelude.{◌≡◌, refl, Bool, cond, ℕ, suc, ◌+◌, ◌-◌, ◌<◌, ◌≤◌, ℤ, pos, negsuc, ◌+ℤ◌}
use Rattle.std.proofs.Common.{ap, ◌∙◌, arith, SFits, lt-ltb, le-ltb}
use Rattle.std.proofs.Math.IntN.{sub_ℕ}
use Rattle.std.specs.Int.{w32}

-- z + 2 ^ 31, for a z that an i32 holds
abbrev pub biased : ℤ → ℕ
biased (pos n) = n + 2147483648
biased (negsuc n) = 2147483647 - n

-- a difference by cases
pub sub_le : (a b : ℕ) → b ≤ a → sub_ℕ a b ≡ pos (a - b)
sub_le a b h = ap (λ (t : Bool). cond t (negsuc (b - suc a)) (pos (a - b))) (le-ltb a b h)

pub sub_lt : (a b : ℕ) → a < b → sub_ℕ a b ≡ negsuc (b - suc a)
sub_lt a b h = ap (λ (t : Bool). cond t (negsuc (b - suc a)) (pos (a - b))) (lt-ltb a b h)

pub biased_is : (z : ℤ) → SFits w32 z → z +ℤ pos 2147483648 ≡ pos (biased z)
biased_is (pos n) h = refl
biased_is (negsuc n) h =
    let l : n < 2147483648 = h.sfits in
    sub_le 2147483648 (suc n) (omega arith) ∙ ap pos (omega arith)

pub biased_small : (z : ℤ) → SFits w32 z → biased z < 4294967296
biased_small (pos n) h = let l : n < 2147483648 = h.sfits in omega arith
biased_small (negsuc n) h = let l : n < 2147483648 = h.sfits in omega arith
