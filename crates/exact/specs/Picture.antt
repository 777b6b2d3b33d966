-- The exact transform of a picture (document 01: the exact transform). It is fed the pixels, B, L and the sides, and nothing else.
use Rattle.std.specs.Prelude.{ℕ, ◌+◌, ◌*◌, ◌-◌, ◌^◌, List, pos, ◌-ℤ◌, get_or}
use Rattle.std.proofs.Common.{pow_pos}
use Rattle.lines.specs.Planes.{Plane, OnPart, level_rows_first, levels}
use Rattle.exact.specs.Fractions.{Frac}
use Rattle.exact.specs.Exact.{exact_pass}

-- Pixels lie row by row. A pixel p enters as (p - 2^(B-1)) / 2^B.
unfoldable pub exact_sample : List ℕ → ℕ → ℕ → Plane Frac
exact_sample pixels B w r c = record { num = pos (get_or pixels (r * w + c) 0) -ℤ pos (2 ^ (B - 1)); den = 2 ^ B; above = pow_pos B }

-- a level: the rows, then the columns
abbrev pub exact_level : OnPart Frac
exact_level = level_rows_first exact_pass (λ low. exact_pass)

-- each further level takes this transform's own low-low
unfoldable pub exact_plane : List ℕ → ℕ → ℕ → ℕ → ℕ → Plane Frac
exact_plane pixels B L w h = levels (λ l. exact_level) L w h (exact_sample pixels B w)
