-- What is written over the front of a slice.
use Rattle.std.specs.Prelude.{ℕ, List, ℤ, pos, replicate}
use Rattle.numbers.specs.Lists.{over}

-- a work area whose first n elements are zero
abbrev pub zeroed : ℕ → List ℤ → List ℤ
zeroed n work = over (replicate n (pos 0)) work
