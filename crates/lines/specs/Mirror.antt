-- Samples before the first place of a line and past its last one (document 01: edges).
use Rattle.std.specs.Prelude.{ℕ, suc, ◌*◌, ◌-◌, true, false, ltb, ℤ, pos, negsuc}

-- The place of the sample that stands at place z of a line of n: past the last place the one as far before it (mirrored about the last sample,
-- which is not repeated), before the first the one as far behind it.
abbrev pub mirror : ℕ → ℤ → ℕ
mirror n (pos j) = elim (ltb j n) [ true ↦ j | false ↦ 2 * (n - 1) - j ]
mirror n (negsuc j) = suc j
