-- Pictures and planes in memory (document 01: pictures and planes), and refusals 8, 9 and 10.
use Rattle.std.specs.Prelude.{ℕ, ◌+◌, ◌-◌, ◌*◌, ◌^◌, ◌≤◌, Bool, ◌&&◌, List, take, ℤ, pos, ◌-ℤ◌, nat_le, nat_lt, slice_index, slice_index_or}
use Rattle.numbers.specs.Tests.{every}
use Rattle.refusals.specs.Answers.{Answer, passed, asks}
use Rattle.lines.specs.Planes.{Plane}

-- the limit of a side
abbrev pub max_side : ℕ
max_side = 4096

-- A side is from 1 to 4,096, whatever the levels (document 02, job 6).
abbrev pub side_right : ℕ → Bool
side_right n = nat_le 1 n && nat_le n max_side

-- the same as a statement
abbrev pub Admitted : ℕ → Type 0
Admitted n = (1 ≤ n) × (n ≤ max_side)

-- 8: both sides are admitted.
unfoldable pub side_answer : ℕ → ℕ → Answer Unit
side_answer w h = asks (side_right w && side_right h) 8 passed

-- 9: a lent slice of k elements holds n.
unfoldable pub length_answer : ℕ → ℕ → Answer Unit
length_answer n k = asks (nat_le n k) 9 passed

-- 10: the first w * h pixels are below 2^B.
unfoldable pub pixel_answer : ℕ → ℕ → ℕ → List ℕ → Answer Unit
pixel_answer B w h pixels = asks (every (λ p. nat_lt p (2 ^ B)) (take (w * h) pixels)) 10 passed

-- Pixels lie row by row. A pixel p enters as p - 2^(B-1).
unfoldable pub sample : List ℕ → ℕ → ℕ → Plane ℤ
sample pixels B w r c = pos (slice_index pixels (r * w + c)) -ℤ pos (2 ^ (B - 1))

-- a plane's value at a row and a column, from its elements row by row
abbrev pub plane_of : ℕ → List ℤ → Plane ℤ
plane_of w plane r c = slice_index_or plane (r * w + c) (pos 0)
