-- For the code: what its changes of lines make of the numbers in one column.
use Rattle.std.specs.Prelude.{ℕ, ◌<◌, ◌≡◌, ℤ}
use Rattle.std.proofs.Common.{◌∙◌, ap}
use Rattle.exact.specs.Exact.{alpha, beta, gamma, delta}
use Rattle.stages.specs.Fixed.{step}
use Rattle.width_table.specs.Nodes.{P1, U1, P2, U2}
use Rattle.width_table.specs.declared.WidthTable.{WidthTable}
use Rattle.width_table.specs.Table.{constant_bits, fraction_bits, input_bits}
use Rattle.table_meaning.specs.Products.{product_of}
use Rattle.rolling_lines.specs.Schedule.{column_pass_at, line_p1, line_u1, line_p2, line_u2}
use Rattle.rolling_lines.specs.Memory.{line_in, moved, column, put, column_set}
use Rattle.rolling_lines.specs.Program.{set_p1, set_u1, set_p2, set_u2, first_done, second_done, first_kept}

-- number `to` becomes number `from`
abbrev pub move : ℕ → ℕ → (ℕ → ℤ) → ℕ → ℤ
move to from u = put to (u from) u

-- P1, U1 and the low line go to their places
abbrev pub keep_first : (ℕ → ℤ) → ℕ → ℤ
keep_first u = move 0 5 (move 3 0 (move 2 6 u))

module _ (t : WidthTable) (w c : ℕ) where
  -- the stages in this column
  abbrev pub at_p1 : ℤ → ℤ → ℤ → ℤ
  at_p1 = step (product_of t 1 (column_pass_at w c) P1) alpha (constant_bits t P1) (input_bits t 1 (column_pass_at w c)) (input_bits t 1 (column_pass_at w c)) (fraction_bits t 1 (column_pass_at w c) P1)

  abbrev pub at_u1 : ℤ → ℤ → ℤ → ℤ
  at_u1 = step (product_of t 1 (column_pass_at w c) U1) beta (constant_bits t U1) (fraction_bits t 1 (column_pass_at w c) P1) (input_bits t 1 (column_pass_at w c)) (fraction_bits t 1 (column_pass_at w c) U1)

  abbrev pub at_p2 : ℤ → ℤ → ℤ → ℤ
  at_p2 = step (product_of t 1 (column_pass_at w c) P2) gamma (constant_bits t P2) (fraction_bits t 1 (column_pass_at w c) U1) (fraction_bits t 1 (column_pass_at w c) P1) (fraction_bits t 1 (column_pass_at w c) P2)

  abbrev pub at_u2 : ℤ → ℤ → ℤ → ℤ
  at_u2 = step (product_of t 1 (column_pass_at w c) U2) delta (constant_bits t U2) (fraction_bits t 1 (column_pass_at w c) P2) (fraction_bits t 1 (column_pass_at w c) U1) (fraction_bits t 1 (column_pass_at w c) U2)

  -- number `own` becomes what a stage makes of it, with numbers a and b beside it
  abbrev pub on : (ℤ → ℤ → ℤ → ℤ) → ℕ → ℕ → ℕ → (ℕ → ℤ) → ℕ → ℤ
  on f own a b u = put own (f (u own) (u a) (u b)) u

  -- the first stages and the second ones
  abbrev pub do_first : ℕ → (ℕ → ℤ) → ℕ → ℤ
  do_first before u = on at_u1 0 before 6 (on at_p1 6 0 5 (move 6 1 u))

  abbrev pub do_second : ℕ → ℕ → (ℕ → ℤ) → ℕ → ℤ
  do_second after before u = on at_u2 3 before 2 (on at_p2 2 3 after u)

  module _ (inside : c < w) where
    pub column_moved : (to from : ℕ) (m : ℕ → ℤ) → column w c (moved w to from m) ≡ move to from (column w c m)
    column_moved to from m = column_set w c inside to (line_in w m from) m

    column_P1 : (own a b : ℕ) (m : ℕ → ℤ) → column w c (set_p1 t w own a b m) ≡ on at_p1 own a b (column w c m)
    unfolding line_p1
    column_P1 own a b m = column_set w c inside own (line_p1 t w (line_in w m own) (line_in w m a) (line_in w m b)) m

    pub column_U1 : (own a b : ℕ) (m : ℕ → ℤ) → column w c (set_u1 t w own a b m) ≡ on at_u1 own a b (column w c m)
    unfolding line_u1
    column_U1 own a b m = column_set w c inside own (line_u1 t w (line_in w m own) (line_in w m a) (line_in w m b)) m

    column_P2 : (own a b : ℕ) (m : ℕ → ℤ) → column w c (set_p2 t w own a b m) ≡ on at_p2 own a b (column w c m)
    unfolding line_p2
    column_P2 own a b m = column_set w c inside own (line_p2 t w (line_in w m own) (line_in w m a) (line_in w m b)) m

    pub column_U2 : (own a b : ℕ) (m : ℕ → ℤ) → column w c (set_u2 t w own a b m) ≡ on at_u2 own a b (column w c m)
    unfolding line_u2
    column_U2 own a b m = column_set w c inside own (line_u2 t w (line_in w m own) (line_in w m a) (line_in w m b)) m

    pub column_first : (before : ℕ) (m : ℕ → ℤ) → column w c (first_done t w before m) ≡ do_first before (column w c m)
    column_first before m =
        column_U1 0 before 6 (set_p1 t w 6 0 5 (moved w 6 1 m))
        ∙ ap (on at_u1 0 before 6) (column_P1 6 0 5 (moved w 6 1 m) ∙ ap (on at_p1 6 0 5) (column_moved 6 1 m))

    pub column_second : (after before : ℕ) (m : ℕ → ℤ) → column w c (second_done t w after before m) ≡ do_second after before (column w c m)
    column_second after before m = column_U2 3 before 2 (set_p2 t w 2 3 after m) ∙ ap (on at_u2 3 before 2) (column_P2 2 3 after m)

    pub column_kept : (m : ℕ → ℤ) → column w c (first_kept w m) ≡ keep_first (column w c m)
    column_kept m =
        column_moved 0 5 (moved w 3 0 (moved w 2 6 m))
        ∙ ap (move 0 5) (column_moved 3 0 (moved w 2 6 m) ∙ ap (move 3 0) (column_moved 2 6 m))
