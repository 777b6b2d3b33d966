-- Pixels of a slice, each less the middle of its range.
use Rattle.std.specs.Prelude.{ℕ, ◌+◌, ◌*◌, List, ℤ, pos, ◌-ℤ◌, get_or}
use Rattle.slices.specs.Patch.{patch}

-- pixels from a place on
abbrev pub pixel_line : List ℕ → ℕ → ℕ → ℕ → ℤ
pixel_line pixels middle from i = pos (get_or pixels (from + i) 0) -ℤ pos middle

-- a plane with pixels at its front
abbrev pub loaded : List ℕ → ℕ → ℕ → ℕ → (ℕ → ℤ) → ℕ → ℤ
loaded pixels middle w h x = patch 0 (w * h) (λ k. pos (get_or pixels k 0) -ℤ pos middle) x
