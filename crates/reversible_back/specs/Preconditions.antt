-- What the functions of the way back ask of their callers.
use Rattle.std.specs.Prelude.{ℕ, ◌*◌, ◌^◌, List, ◌≡◌, refl, ℤ, length}
use Rattle.std.proofs.Common.{sym, subst, arith}
use Rattle.slices.specs.Patch.{at}
use Rattle.reversible.specs.LevelLaws.{BoundedPart, plane_at, rows_from, columns_from, rows_sized, columns_sized}
use Rattle.reversible.specs.Preconditions.{RowsRoom, ColumnsRoom, LevelRoom, room_again, sized_less}
use Rattle.reversible_back.specs.LevelLaws.{back_rows_safe, back_columns_safe}
use Rattle.reversible_back.specs.Sizes.{inverse_kernel, back_grows}

module _ {plane : List ℤ} {buffer W w h : ℕ} where
  -- what the passes over rows and over columns ask
  pub back_columns : LevelRoom (2 ^ 24) plane buffer W w h → ColumnsRoom inverse_kernel plane buffer W w h
  back_columns p = record { part = p.part; column = p.column; safe = back_columns_safe W w h (2 ^ 24) (omega (arith, p.part.narrow)) (at plane) p.small (omega arith) }

  pub back_rows : LevelRoom (2 ^ 24) plane buffer W w h → RowsRoom inverse_kernel plane buffer W w h
  back_rows p = record { part = p.part; row = p.row; safe = back_rows_safe W w h (2 ^ 24) (omega (arith, p.part.narrow)) (at plane) p.small (omega arith) }

  -- a level's first pass has room, and after it the second
  pub first_back : LevelRoom (2 ^ 22) plane buffer W w h → LevelRoom (2 ^ 24) plane buffer W w h
  first_back p = room_again p (2 ^ 24) plane buffer refl refl (sized_less (2 ^ 22) (2 ^ 24) w h (plane_at W (at plane)) (omega arith) p.small)

  module _ (p : LevelRoom (2 ^ 22) plane buffer W w h) (new : List ℤ) (buffer' : ℕ) (e : length new ≡ length plane) (f : buffer' ≡ buffer) where
    after : (x : ℕ → ℤ) → at new ≡ x → BoundedPart (3 * 2 ^ 22) w h (plane_at W x) → LevelRoom (2 ^ 24) new buffer' W w h
    after x is small = room_again p (2 ^ 24) new buffer' e f (subst (λ (x : ℕ → ℤ). BoundedPart (2 ^ 24) w h (plane_at W x)) (sym is) (sized_less (3 * 2 ^ 22) (2 ^ 24) w h (plane_at W x) (omega arith) small))

    pub then_back_columns : at new ≡ rows_from inverse_kernel W w h (at plane) → LevelRoom (2 ^ 24) new buffer' W w h
    then_back_columns is = after _ is (rows_sized W w h (2 ^ 22) (omega (arith, p.part.narrow)) (at plane) p.small inverse_kernel 3 back_grows)

    pub then_back_rows : at new ≡ columns_from inverse_kernel W w h (at plane) → LevelRoom (2 ^ 24) new buffer' W w h
    then_back_rows is = after _ is (columns_sized W w h (2 ^ 22) (omega (arith, p.part.narrow)) (at plane) p.small inverse_kernel 3 back_grows)
