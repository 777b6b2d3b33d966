-- The columns of one level worked line by line, as the lines come (document 02, job 5; source document 003, section 3.3): each stage
-- works as soon as its lines are there. Where the table has widths of products, they are cut first (document 02, job 7). Lines are whole
-- numbers without limit.
use Rattle.std.specs.Prelude.{ℕ, Bool, true, false, List, [], ◌∷◌, ◌++◌, ltb, get_or, ℤ, pos}
use Rattle.exact.specs.Exact.{alpha, beta, gamma, delta, zeta, zeta_inverse}
use Rattle.lines.specs.Lines.{lows}
use Rattle.lines.specs.Planes.{Plane}
use Rattle.width_table.specs.Nodes.{P1, U1, P2, U2, G1, G2, Pass, column_pass}
use Rattle.width_table.specs.declared.WidthTable.{WidthTable}
use Rattle.width_table.specs.Table.{constant_bits, fraction_bits, input_bits}
use Rattle.stages.specs.Fixed.{cut, step, scale}
use Rattle.table_meaning.specs.Products.{product_of}
use Rattle.rolling_lines.specs.declared.Taken.{Taken}
use Rattle.rolling_lines.specs.declared.Taken.TheVariants.{Zero, One, Two, Three, Four, OddMany, EvenMany}

-- a value in each column
abbrev pub Line : Type 0
Line = ℕ → ℤ

-- zeros
abbrev pub blank : Line
blank c = pos 0

-- ---- lines taken

-- one line more
abbrev pub next : Taken → Taken
next Zero = One
next One = Two
next Two = Three
next Three = Four
next Four = OddMany
next OddMany = EvenMany
next EvenMany = OddMany

-- at least one line
abbrev pub any_taken : Taken → Bool
any_taken Zero = false
any_taken One = true
any_taken Two = true
any_taken Three = true
any_taken Four = true
any_taken OddMany = true
any_taken EvenMany = true

-- an even number, from two on: the next line is a low line that finds a high line before it
abbrev pub even_taken : Taken → Bool
even_taken Zero = false
even_taken One = false
even_taken Two = true
even_taken Three = false
even_taken Four = true
even_taken OddMany = false
even_taken EvenMany = true

-- P1 and U1 are held from three lines on, P2 from five on
abbrev pub holds_p1 : Taken → Bool
holds_p1 Zero = false
holds_p1 One = false
holds_p1 Two = false
holds_p1 Three = true
holds_p1 Four = true
holds_p1 OddMany = true
holds_p1 EvenMany = true

abbrev pub holds_p2 : Taken → Bool
holds_p2 Zero = false
holds_p2 One = false
holds_p2 Two = false
holds_p2 Three = false
holds_p2 Four = false
holds_p2 OddMany = true
holds_p2 EvenMany = true

-- ---- lines held

-- The last low and high line, worked along the row, and what P1, U1 and P2 left last; zeros where there is none yet.
pub record Held : Type 0 where
  pub low : Line
  pub high : Line
  pub p1 : Line
  pub u1 : Line
  pub p2 : Line

-- the high line before: the one before the first is the first
abbrev pub before : Bool → Line → Line → Line
before true held first = held
before false held first = first

-- lines one under the other
abbrev pub stacked : List Line → Plane ℤ
stacked lines r c = get_or lines r blank c

-- the pass of a column: of w columns the row-low ones stand first
abbrev pub column_pass_at : ℕ → ℕ → Pass
column_pass_at w c = column_pass (ltb c (lows w))

module _ (t : WidthTable) (w : ℕ) where
  -- The stages on lines (source document 003, equation 2): own line, then the lines on its two sides.
  unfoldable pub line_p1 : Line → Line → Line → Line
  line_p1 own x y c = step (product_of t 1 (column_pass_at w c) P1) alpha (constant_bits t P1) (input_bits t 1 (column_pass_at w c)) (input_bits t 1 (column_pass_at w c)) (fraction_bits t 1 (column_pass_at w c) P1) (own c) (x c) (y c)

  unfoldable pub line_u1 : Line → Line → Line → Line
  line_u1 own x y c = step (product_of t 1 (column_pass_at w c) U1) beta (constant_bits t U1) (fraction_bits t 1 (column_pass_at w c) P1) (input_bits t 1 (column_pass_at w c)) (fraction_bits t 1 (column_pass_at w c) U1) (own c) (x c) (y c)

  unfoldable pub line_p2 : Line → Line → Line → Line
  line_p2 own x y c = step (product_of t 1 (column_pass_at w c) P2) gamma (constant_bits t P2) (fraction_bits t 1 (column_pass_at w c) U1) (fraction_bits t 1 (column_pass_at w c) P1) (fraction_bits t 1 (column_pass_at w c) P2) (own c) (x c) (y c)

  unfoldable pub line_u2 : Line → Line → Line → Line
  line_u2 own x y c = step (product_of t 1 (column_pass_at w c) U2) delta (constant_bits t U2) (fraction_bits t 1 (column_pass_at w c) P2) (fraction_bits t 1 (column_pass_at w c) U1) (fraction_bits t 1 (column_pass_at w c) U2) (own c) (x c) (y c)

  unfoldable pub line_g1 : Line → Line
  line_g1 x c = scale zeta (constant_bits t G1) (fraction_bits t 1 (column_pass_at w c) U2) (fraction_bits t 1 (column_pass_at w c) G1) (x c)

  unfoldable pub line_g2 : Line → Line
  line_g2 x c = scale zeta_inverse (constant_bits t G2) (fraction_bits t 1 (column_pass_at w c) P2) (fraction_bits t 1 (column_pass_at w c) G2) (x c)

  -- A single line (document 02, job 6): in each column the only sample, cut to G1's bits.
  unfoldable pub line_single : Line → Line
  line_single x c = cut (input_bits t 1 (column_pass_at w c)) (fraction_bits t 1 (column_pass_at w c) G1) (x c)

  -- A low line x that comes after a high line makes these ready: P1 of that high line, U1 of the low line before it, and P2 and U2 of
  -- the high and the low line before those.
  module _ (k : Taken) (held : Held) (x : Line) where
    unfoldable pub new_p1 : Line
    new_p1 = line_p1 held.high held.low x

    unfoldable pub new_u1 : Line
    new_u1 = line_u1 held.low (before (holds_p1 k) held.p1 new_p1) new_p1

    unfoldable pub new_p2 : Line
    new_p2 = line_p2 held.p1 held.u1 new_u1

    unfoldable pub new_u2 : Line
    new_u2 = line_u2 held.u1 (before (holds_p2 k) held.p2 new_p2) new_p2

    -- held once P1 and U1, or all of them, are ready
    abbrev pub after_first : Held
    after_first = record { low = x; high = held.high; p1 = new_p1; u1 = new_u1; p2 = held.p2 }

    abbrev pub after_low : Held
    after_low = record { low = x; high = held.high; p1 = new_p1; u1 = new_u1; p2 = new_p2 }

    -- a high line is held until the next low line comes
    abbrev pub after_high : Held
    after_high = record { low = held.low; high = x; p1 = held.p1; u1 = held.u1; p2 = held.p2 }

    -- low n, high n
    abbrev pub two_lines : List Line
    two_lines = line_g1 new_u2 ∷ line_g2 new_p2 ∷ []

  -- what is held after a line x that was worked along its row
  unfoldable pub held_after : Taken → Held → Line → Held
  held_after Zero held x = record { low = x; high = blank; p1 = blank; u1 = blank; p2 = blank }
  held_after One held x = after_high One held x
  held_after Two held x = after_first Two held x
  held_after Three held x = after_high Three held x
  held_after Four held x = after_low Four held x
  held_after OddMany held x = after_high OddMany held x
  held_after EvenMany held x = after_low EvenMany held x

  -- the lines that it makes ready, by number, low n before high n
  unfoldable pub line_gives : Taken → Held → Line → List Line
  line_gives Zero held x = []
  line_gives One held x = []
  line_gives Two held x = []
  line_gives Three held x = []
  line_gives Four held x = two_lines Four held x
  line_gives OddMany held x = []
  line_gives EvenMany held x = two_lines EvenMany held x

  -- The end mirrors. After an even number of lines the last low line comes once more, as the low line past the last, and the last U1
  -- serves as the one past it.
  module _ (k : Taken) (held : Held) where
    unfoldable pub last_p2 : Line
    last_p2 = line_p2 held.p1 held.u1 held.u1

    unfoldable pub last_u2 : Line
    last_u2 = line_u2 held.u1 (before (holds_p2 k) held.p2 last_p2) last_p2

    abbrev pub last_two : List Line
    last_two = line_g1 last_u2 ∷ line_g2 last_p2 ∷ []

  abbrev pub end_even : Taken → Held → List Line
  end_even k held = line_gives k held held.low ++ last_two (next k) (held_after k held held.low)

  -- After an odd number the last P1 serves as the one past the last low line, and so does the last P2.
  module _ (k : Taken) (held : Held) where
    unfoldable pub odd_u1 : Line
    odd_u1 = line_u1 held.low held.p1 held.p1

    unfoldable pub odd_p2 : Line
    odd_p2 = line_p2 held.p1 held.u1 odd_u1

    unfoldable pub odd_u2 : Line
    odd_u2 = line_u2 held.u1 (before (holds_p2 k) held.p2 odd_p2) odd_p2

    abbrev pub end_odd : List Line
    end_odd = line_g1 odd_u2 ∷ line_g2 odd_p2 ∷ line_g1 (line_u2 odd_u1 odd_p2 odd_p2) ∷ []

  -- the lines that the end gives (none before the first line: refused)
  unfoldable pub end_gives : Taken → Held → List Line
  end_gives Zero held = []
  end_gives One held = line_single held.low ∷ []
  end_gives Two held = end_even Two held
  end_gives Three held = end_odd Three held
  end_gives Four held = end_even Four held
  end_gives OddMany held = end_odd OddMany held
  end_gives EvenMany held = end_even EvenMany held
