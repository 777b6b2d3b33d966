-- What the functions of the code ask of their callers.
use Rattle.std.specs.Prelude.{ℕ, ◌+◌, ◌*◌, ◌-◌, ◌<◌, ◌≤◌, ◌^◌, List, ◌≡◌, refl, T, ltb, ℤ, pos, nat_abs, ◌-ℤ◌, length, get_or, take}
use Rattle.std.proofs.Common.{sym, ◌∙◌, ap, subst, subst₂, arith, mul-le-mul_right, mul_comm}
use Rattle.numbers.specs.Tests.{every}
use Rattle.lifting.specs.declared.Kernel.{Kernel}
use Rattle.slices.specs.Parts.{Part, row_of, column_of}
use Rattle.lifting.specs.Kernels.{SafeKernel}
use Rattle.slices.specs.Patch.{at, patch_in}
use Rattle.pictures.specs.Pictures.{max_side, Admitted}
use Rattle.pictures.specs.PictureLaws.{Room}
use Rattle.slices.specs.Pixels.{loaded}
use Rattle.lines.specs.Lines.{Liftable}
use Rattle.lines.specs.Planes.{Plane, side}
use Rattle.lines.specs.PlaneLaws.{side_le}
use Rattle.lines.specs.RowLaws.{place_in}
use Rattle.reversible.specs.LevelLaws.{BoundedPart, plane_at, columns_from, forward_rows_safe, forward_columns_safe, columns_sized}
use Rattle.reversible.specs.Sizes.{forward_kernel, forward_grows, forward_safe}
use Rattle.reversible.specs.Columns.{sample_column, PixelRoom}
use Rattle.width_table.specs.Table.{max_levels, max_depth}

-- A part of w columns and h rows, and a line buffer for its rows. Where a row is worked, the kernel's steps fit.
pub record RowsRoom (k : Kernel) (plane : List ℤ) (buffer W w h : ℕ) : Type 0 where
  pub part : Part plane W 0 w h
  pub row : w ≤ buffer
  pub safe : Liftable w → (r : ℕ) → r < h → SafeKernel k w (row_of W 0 (at plane) r)

-- the same of its columns
pub record ColumnsRoom (k : Kernel) (plane : List ℤ) (buffer W w h : ℕ) : Type 0 where
  pub part : Part plane W 0 w h
  pub column : h ≤ buffer
  pub safe : Liftable h → (c : ℕ) → c < w → SafeKernel k h (column_of W 0 (at plane) c)

-- a part with values of size b at most, and a line buffer for its lines
pub record LevelRoom (b : ℕ) (plane : List ℤ) (buffer W w h : ℕ) : Type 0 where
  pub part : Part plane W 0 w h
  pub row : w ≤ buffer
  pub column : h ≤ buffer
  pub small : BoundedPart b w h (plane_at W (at plane))

-- a picture of w columns and h rows with samples of size 2^11 at most, and a plane for it
pub record PictureRoom (B : ℕ) (pixels : List ℕ) (plane w h : ℕ) : Type 0 where
  pub depth : (1 ≤ B) × (B ≤ max_depth)
  pub some : 1 ≤ w
  pub held : w * h ≤ length pixels
  pub room : w * h ≤ plane
  pub small : (k : ℕ) → k < w * h → nat_abs (pos (get_or pixels k 0) -ℤ pos (2 ^ (B - 1))) ≤ 2 ^ 11

-- and a line buffer for its rows
pub record FirstRoom (B : ℕ) (pixels : List ℕ) (plane : List ℤ) (buffer w h : ℕ) : Type 0 where
  pub picture : PictureRoom B pixels (length plane) w h
  pub part : Part plane w 0 w h
  pub row : w ≤ buffer

-- admitted sides, and room for w * h values in the plane and for a line in the line buffer
pub record LevelsRoom (L w h plane buffer : ℕ) : Type 0 where
  pub few : L ≤ max_levels
  pub across : Admitted w
  pub down : Admitted h
  pub room : w * h ≤ plane
  pub row : w ≤ buffer
  pub column : h ≤ buffer

-- a call that is allowed: depth and levels within their limits, admitted sides, slices of a, b and c elements that are long enough
pub record CallRoom (B L w h a b c : ℕ) : Type 0 where
  pub depth : (1 ≤ B) × (B ≤ max_depth)
  pub some : 1 ≤ L
  pub few : L ≤ max_levels
  pub room : Room w h a b c

-- and the picture's pixels are below 2^B
pub record ForwardRoom (B L w h : ℕ) (pixels : List ℕ) (plane work : ℕ) : Type 0 where
  pub call : CallRoom B L w h (length pixels) plane work
  pub right : T (every (λ p. ltb p (2 ^ B)) (take (w * h) pixels))

-- a line fits where the whole plane does
pub lines_fit : (w h : ℕ) → 1 ≤ w → 1 ≤ h → (w ≤ w * h) × (h ≤ w * h)
lines_fit w h a b = (omega (arith, mul-le-mul_right w b, mul_comm w h), omega (arith, mul-le-mul_right h a))

-- the same call with other slices that are long enough
pub other_slices : {B L w h a b c : ℕ} → CallRoom B L w h a b c → (k l m : ℕ) → w * h ≤ k → w * h ≤ l → w * h ≤ m → CallRoom B L w h k l m
other_slices p k l m x y z = record { depth = p.depth; some = p.some; few = p.few; room = record { wide = p.room.wide; tall = p.room.tall; first = x; second = y; third = z } }

pub levels_room : {B L w h a b c : ℕ} → CallRoom B L w h a b c → (plane buffer : ℕ) → w * h ≤ plane → w * h ≤ buffer → LevelsRoom L w h plane buffer
levels_room {w} {h} p plane buffer e f =
    let l = lines_fit w h p.room.wide.0 p.room.tall.0 in
    record { few = p.few; across = p.room.wide; down = p.room.tall; room = e; row = omega arith; column = omega arith }

-- the part that level k + 1 works lies in the plane
pub part_of : (W H k : ℕ) (plane : List ℤ) → W ≤ max_side → H ≤ max_side → W * H ≤ length plane → Part plane W 0 (side k W) (side k H)
part_of W H k plane across few room = record {
  narrow = omega (arith, side_le k W);
  few = omega (arith, side_le k H);
  wide = omega arith;
  fits = λ r i. omega (arith, side_le k W, mul-le-mul_right {m = r + 1} {n = H} W (omega (arith, side_le k H)), mul_comm W H);
}

-- a part lies in any slice of the same length
pub part_as : {W from w h : ℕ} (old new : List ℤ) → length new ≡ length old → Part old W from w h → Part new W from w h
part_as old new e p = record { narrow = p.narrow; few = p.few; wide = p.wide; fits = λ r i. omega (arith, p.fits r i) }

-- the part of level k + 1, its sides written otherwise
pub part_here : {L w h n m : ℕ} → LevelsRoom L w h n m → (k : ℕ) (plane : List ℤ) (across down : ℕ) → length plane ≡ n → across ≡ side k w → down ≡ side k h → Part plane w 0 across down
part_here {w} {h} r k plane across down e ea ed =
    subst₂ (λ (v u : ℕ). Part plane w 0 v u) (sym ea) (sym ed) (part_of w h k plane r.across.1 r.down.1 (omega (arith, r.room)))

-- level k + 1 has what it asks
pub level_room : (b : ℕ) {L w h n m : ℕ} → LevelsRoom L w h n m → (k : ℕ) (plane : List ℤ) (buffer across down : ℕ) → length plane ≡ n → buffer ≡ m → across ≡ side k w → down ≡ side k h
    → BoundedPart b (side k w) (side k h) (plane_at w (at plane)) → LevelRoom b plane buffer w across down
level_room b {w} {h} r k plane buffer across down e f ea ed small = record {
  part = part_here r k plane across down e ea ed;
  row = omega (arith, side_le k w, r.row);
  column = omega (arith, side_le k h, r.column);
  small = subst₂ (λ (v u : ℕ). BoundedPart b v u (plane_at w (at plane))) (sym ea) (sym ed) small;
}

-- ---- the steps of a level fit

-- a plane that holds a picture's samples
pub loaded_at : (pixels : List ℕ) (middle w h : ℕ) (x : ℕ → ℤ) → 1 ≤ w → (r c : ℕ) → r < h → c < w → plane_at w (loaded pixels middle w h x) r c ≡ pos (get_or pixels (r * w + c) 0) -ℤ pos middle
loaded_at pixels middle w h x some r c i j = ap (loaded pixels middle w h x) (let e : r * w + c ≡ 0 + (r * w + c) = omega arith in e) ∙ patch_in 0 (w * h) _ x (r * w + c) (place_in w h some r c i j)

pub loaded_sized : (b : ℕ) (pixels : List ℕ) (middle w h : ℕ) (x : ℕ → ℤ) → 1 ≤ w → ((k : ℕ) → k < w * h → nat_abs (pos (get_or pixels k 0) -ℤ pos middle) ≤ b) → BoundedPart b w h (plane_at w (loaded pixels middle w h x))
loaded_sized b pixels middle w h x some small r c i j = subst (λ (z : ℤ). nat_abs z ≤ b) (sym (loaded_at pixels middle w h x some r c i j)) (small (r * w + c) (place_in w h some r c i j))

-- a room with other values
pub room_again : {a : ℕ} {old : List ℤ} {buffer W w h : ℕ} → LevelRoom a old buffer W w h → (b : ℕ) (new : List ℤ) (buffer' : ℕ) → length new ≡ length old → buffer' ≡ buffer → BoundedPart b w h (plane_at W (at new)) → LevelRoom b new buffer' W w h
room_again {old} p b new buffer' e f small = record { part = part_as old new e p.part; row = omega (arith, p.row); column = omega (arith, p.column); small = small }

-- values of a smaller size
pub sized_less : (a b w h : ℕ) (p : Plane ℤ) → a ≤ b → BoundedPart a w h p → BoundedPart b w h p
sized_less a b w h p i s r c x y = omega (arith, s r c x y)

-- a picture's columns can be worked
pub first_columns_lem : {B plane w h : ℕ} {pixels : List ℕ} → PictureRoom B pixels plane w h → Liftable h → (m : ℕ) → m ≡ 2 ^ (B - 1) → PixelRoom pixels m plane w h
first_columns_lem {B} {plane} {w} {h} {pixels} p tall m e = subst (λ (n : ℕ). PixelRoom pixels n plane w h) (sym e) (record {
  some = p.some;
  tall = tall;
  held = p.held;
  room = p.room;
  safe = λ c j. forward_safe h (2 ^ 11) (sample_column pixels (2 ^ (B - 1)) w c) tall (λ r i. p.small (r * w + c) (place_in w h p.some r c i j)) (omega arith);
})

-- and then its rows
pub first_rows : {B buffer w h : ℕ} {pixels : List ℕ} {plane : List ℤ} → FirstRoom B pixels plane buffer w h → (new : List ℤ) (buffer' : ℕ) → length new ≡ length plane → buffer' ≡ buffer
    → at new ≡ columns_from forward_kernel w w h (loaded pixels (2 ^ (B - 1)) w h (at plane)) → RowsRoom forward_kernel new buffer' w w h
first_rows {B} {w} {h} {pixels} {plane} p new buffer' e f is = record {
  part = part_as plane new e p.part;
  row = omega (arith, p.row);
  safe = forward_rows_safe w w h (2 * 2 ^ 11) (omega arith) (at new)
      (subst (λ (x : ℕ → ℤ). BoundedPart (2 * 2 ^ 11) w h (plane_at w x)) (sym is)
      (columns_sized w w h (2 ^ 11) (omega arith) (loaded pixels (2 ^ (B - 1)) w h (at plane)) (loaded_sized (2 ^ 11) pixels (2 ^ (B - 1)) w h (at plane) p.picture.some p.picture.small) forward_kernel 2 forward_grows))
      (omega arith);
}

module _ {plane : List ℤ} {buffer W w h : ℕ} where
  -- what the passes over rows and over columns ask
  pub forward_columns : LevelRoom (2 ^ 22) plane buffer W w h → ColumnsRoom forward_kernel plane buffer W w h
  forward_columns p = record { part = p.part; column = p.column; safe = forward_columns_safe W w h (2 ^ 22) (omega (arith, p.part.narrow)) (at plane) p.small (omega arith) }

  pub forward_rows_lem : LevelRoom (2 ^ 22) plane buffer W w h → RowsRoom forward_kernel plane buffer W w h
  forward_rows_lem p = record { part = p.part; row = p.row; safe = forward_rows_safe W w h (2 ^ 22) (omega (arith, p.part.narrow)) (at plane) p.small (omega arith) }

  -- a level's first pass has room, and after it the second
  pub first_forward : LevelRoom (2 ^ 21) plane buffer W w h → LevelRoom (2 ^ 22) plane buffer W w h
  first_forward p = room_again p (2 ^ 22) plane buffer refl refl (sized_less (2 ^ 21) (2 ^ 22) w h (plane_at W (at plane)) (omega arith) p.small)

  pub then_forward_rows : LevelRoom (2 ^ 21) plane buffer W w h → (new : List ℤ) (buffer' : ℕ) → length new ≡ length plane → buffer' ≡ buffer → at new ≡ columns_from forward_kernel W w h (at plane) → LevelRoom (2 ^ 22) new buffer' W w h
  then_forward_rows p new buffer' e f is = room_again p (2 ^ 22) new buffer' e f (subst (λ (x : ℕ → ℤ). BoundedPart (2 ^ 22) w h (plane_at W x)) (sym is)
      (columns_sized W w h (2 ^ 21) (omega (arith, p.part.narrow)) (at plane) p.small forward_kernel 2 forward_grows))
