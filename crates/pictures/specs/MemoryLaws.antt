-- A plane in memory under passes: rows and columns of a part worked in place, and what is written at last.
use Rattle.std.specs.Prelude.{◌≡◌, ℕ, ◌+◌, ◌-◌, ◌*◌, ◌/◌, ◌%◌, ◌<◌, ◌≤◌, Bool, true, false, ◌&&◌, List, length, get_or, ℤ, pos, ◌≢◌, nat_le, nat_lt, slice_index_or, refl}
use Rattle.std.proofs.Math.Path.{sym, ap}
use Rattle.std.proofs.Common.{◌∙◌, subst, arith, mul_comm, mod-lt, div-add-mod', div-lt_iff_lt-mul}
use Rattle.std.proofs.Math.Decide.{ℕ_discrete}
use borrow.Author.Tests.{lt-ltb, le-ltb, le-leb, lt-leb}
use Rattle.numbers.specs.Tests.{by_ltb, by_leb}
use Rattle.numbers.specs.Lists.{over}
use Rattle.lines.specs.Lines.{Liftable}
use Rattle.lines.specs.LineLaws.{Equal}
use Rattle.lines.specs.Planes.{Plane, OnLine, from_one, rows, within, row_by_row}
use Rattle.lines.specs.OneLaws.{one_single, one_long, by_one}
use Rattle.lines.specs.PlaneLaws.{by_part, within_in, within_below, within_beyond}
use Rattle.lines.specs.RowLaws.{place_in, rows_length, rows_at}
use Rattle.slices.specs.Patch.{at}
use Rattle.slices.specs.PatchLines.{line_at, lines_apart, lines_out, lines_in}
use Rattle.slices.specs.Parts.{rows_by, columns_by}
use Rattle.slices.specs.FrontLaws.{over_is}

-- the first w columns and h rows of a plane stand row by row
abbrev pub Stands : ℕ → ℕ → (ℕ → ℤ) → Plane ℤ → Type 0
Stands w h x p = (r c : ℕ) → r < h → c < w → x (r * w + c) ≡ p r c

-- ---- a pass reads a line's own values only, as kernels do

abbrev pub Reads : OnLine ℤ → Type 0
Reads pass = (n : ℕ) (x y : ℕ → ℤ) → Equal n x y → Equal n (pass n x) (pass n y)

-- from length 1, where the line of two or more is worked by a pass that does
pub one_reads : (single : ℤ → ℤ) (long : OnLine ℤ) → ((n : ℕ) → Liftable n → (x y : ℕ → ℤ) → Equal n x y → Equal n (long n x) (long n y)) → Reads (from_one single long)
one_reads single long reads n x y e k i = by_one (from_one single long n x k ≡ from_one single long n y k) n
    (λ one. one_single single long n x k one ∙ ap single (e k i) ∙ sym (one_single single long n y k one))
    (λ works. one_long single long n x k works ∙ reads n works x y e k i ∙ sym (one_long single long n y k works))

-- ---- rows and columns worked

-- a place of the plane is one row's and one column's
same_place : (W i j r c : ℕ) → j < W → c < W → i * W + j ≡ r * W + c → (i ≡ r) × (j ≡ c)
same_place W i j r c p q e = go (ℕ_discrete i r)
  where
    go : Dec (i ≡ r) → (i ≡ r) × (j ≡ c)
    go (yes s) = (s, omega (arith, ap (λ (t : ℕ). t * W) s))
    go (no f) = absurd (lines_apart 0 W W i r (omega arith) f j c p q (omega arith))

module _ (pass : OnLine ℤ) (reads : Reads pass) (W H w h : ℕ) (x : ℕ → ℤ) (p : Plane ℤ) (wide : w ≤ W) (tall : h ≤ H) where
  off : (i j r c : ℕ) → j < w → c < W → line_at 0 W i + j ≡ r * W + c → (i ≡ r) × (j ≡ c)
  off i j r c g q e = same_place W i j r c (omega arith) q (omega arith)

  pub rows_stand : Stands W H x p → Stands W H (rows_by pass W w h x) (within w h (rows pass w p) p)
  unfolding rows
  rows_stand s = by_part (λ r c. r < H → c < W → rows_by pass W w h x (r * W + c) ≡ within w h (rows pass w p) p r c) w h
      (λ r c i j a b. ap (rows_by pass W w h x) (omega arith)
      ∙ lines_in (line_at 0 W) w _ x (λ u v l. lines_apart 0 W w u v wide (omega arith)) h r c i j
      ∙ reads w _ _ (λ m q. ap x (omega arith) ∙ s r m a (omega arith)) c j
      ∙ sym (within_in w h _ p r c i j))
      (λ r c i a b. lines_out (line_at 0 W) w _ x h _ (λ u v l q e. let z = off u v r c q b e in omega arith) ∙ s r c a b ∙ sym (within_below w h _ p r c i))
      (λ r c j a b. lines_out (line_at 0 W) w _ x h _ (λ u v l q e. let z = off u v r c q b e in omega arith) ∙ s r c a b ∙ sym (within_beyond w h _ p r c j))

pub rows_beyond : (pass : OnLine ℤ) (W H w h : ℕ) (x : ℕ → ℤ) → w ≤ W → h ≤ H → (q : ℕ) → W * H ≤ q → rows_by pass W w h x q ≡ x q
rows_beyond pass W H w h x wide tall q far = lines_out (line_at 0 W) w _ x h q (λ u v l b e. omega (arith, place_in W H (omega arith) u v (omega arith) (omega arith)))

-- columns `from` to `from + w - 1` of the first h rows worked, all else as it was
unfoldable pub columns_plane : OnLine ℤ → ℕ → ℕ → ℕ → Plane ℤ → Plane ℤ
columns_plane pass from w h p r c = elim (nat_lt r h && (nat_le from c && nat_lt c (from + w))) [ true ↦ pass h (λ m. p m c) r | false ↦ p r c ]

abbrev pick : {A : Type 0} → A → A → Bool → A
pick a b t = elim t [ true ↦ a | false ↦ b ]

and_false : (t : Bool) → t && false ≡ false
and_false true = refl
and_false false = refl

-- a place inside the columns, below them, left and right of them
module _ (pass : OnLine ℤ) (from w h : ℕ) (p : Plane ℤ) (r c : ℕ) where
  pub columns_in : r < h → from ≤ c → c < from + w → columns_plane pass from w h p r c ≡ pass h (λ m. p m c) r
  unfolding columns_plane
  columns_in i a b = ap (pick (pass h (λ m. p m c) r) (p r c)) ((λ u. lt-ltb r h i u && (le-leb from c a u && nat_lt c (from + w))) ∙ lt-ltb c (from + w) b)

  pub columns_below : h ≤ r → columns_plane pass from w h p r c ≡ p r c
  unfolding columns_plane
  columns_below i = ap (pick (pass h (λ m. p m c) r) (p r c)) (λ u. le-ltb r h i u && (nat_le from c && nat_lt c (from + w)))

  pub columns_left : c < from → columns_plane pass from w h p r c ≡ p r c
  unfolding columns_plane
  columns_left a = ap (pick (pass h (λ m. p m c) r) (p r c)) ((λ u. nat_lt r h && (lt-leb from c a u && nat_lt c (from + w))) ∙ and_false (nat_lt r h))

  pub columns_right : from + w ≤ c → columns_plane pass from w h p r c ≡ p r c
  unfolding columns_plane
  columns_right b = ap (pick (pass h (λ m. p m c) r) (p r c)) ((λ u. nat_lt r h && (nat_le from c && le-ltb c (from + w) b u)) ∙ (λ u. nat_lt r h && and_false (nat_le from c) u) ∙ and_false (nat_lt r h))

module _ (pass : OnLine ℤ) (reads : Reads pass) (W H from w h : ℕ) (x : ℕ → ℤ) (p : Plane ℤ) (wide : from + w ≤ W) (tall : h ≤ H) where
  apart : (i j r c : ℕ) → j < w → c < W → line_at from W i + j ≡ r * W + c → (i ≡ r) × (from + j ≡ c)
  apart i j r c g q e = same_place W i (from + j) r c (omega arith) q (omega arith)

  pub columns_stand : Stands W H x p → Stands W H (columns_by pass W from w h x) (columns_plane pass from w h p)
  unfolding columns_plane
  columns_stand s r c a b =
      by_ltb (λ t. columns_by pass W from w h x (r * W + c) ≡ pick (pass h (λ m. p m c) r) (p r c) (t && (nat_le from c && nat_lt c (from + w)))) r h
      (λ i. by_leb (λ t. columns_by pass W from w h x (r * W + c) ≡ pick (pass h (λ m. p m c) r) (p r c) (t && nat_lt c (from + w))) from c
      (λ l. by_ltb (λ t. columns_by pass W from w h x (r * W + c) ≡ pick (pass h (λ m. p m c) r) (p r c) t) c (from + w)
      (λ u. ap (columns_by pass W from w h x) (omega arith)
      ∙ lines_in (line_at from W) w _ x (λ u v l. lines_apart from W w u v (omega arith) (omega arith)) h r (c - from) i (omega arith)
      ∙ reads h _ _ (λ m q. ap x (omega arith) ∙ s m c (omega arith) b) r i)
      (λ u. old (λ m j g q e. let z = apart m j r c q b e in omega arith)))
      (λ l. old (λ m j g q e. let z = apart m j r c q b e in omega arith)))
      (λ i. old (λ m j l q e. let z = apart m j r c q b e in omega arith))
    where
      old : ((i j : ℕ) → i < h → j < w → line_at from W i + j ≢ r * W + c) → columns_by pass W from w h x (r * W + c) ≡ p r c
      old none = lines_out (line_at from W) w _ x h _ none ∙ s r c a b

pub columns_beyond : (pass : OnLine ℤ) (W H from w h : ℕ) (x : ℕ → ℤ) → from + w ≤ W → h ≤ H → (q : ℕ) → W * H ≤ q → columns_by pass W from w h x q ≡ x q
columns_beyond pass W H from w h x wide tall q far = lines_out (line_at from W) w _ x h q (λ u v l b e. omega (arith, place_in W H (omega arith) u (from + v) (omega arith) (omega arith)))

-- ---- what is written over the front of a list

-- a plane that stands at the front of a list, row by row, the rest as it was
pub plane_over : {A : Type 0} (d : A) (w h : ℕ) (p : Plane A) (l l' : List A) → 1 ≤ w → w * h ≤ length l → length l' ≡ length l
    → ((r c : ℕ) → r < h → c < w → slice_index_or l' (r * w + c) d ≡ p r c) → ((q : ℕ) → w * h ≤ q → slice_index_or l' q d ≡ slice_index_or l q d) → l' ≡ over (row_by_row w h p) l
plane_over d w h p l l' some room same s back =
    over_is d (row_by_row w h p) l l' same (omega (arith, rows_length w h some p)) (λ k i. go k (subst (λ (n : ℕ). k < n) (rows_length w h some p) i)) (λ q i. back q (omega (arith, rows_length w h some p)))
  where
    go : (k : ℕ) → k < w * h → slice_index_or l' k d ≡ slice_index_or (row_by_row w h p) k d
    go k i =
        let r : k / w < h = (div-lt_iff_lt-mul some).1 (subst (λ (n : ℕ). k < n) (mul_comm w h) i) in
        ap (λ (m : ℕ). get_or l' m d) (sym (div-add-mod' k w)) ∙ s (k / w) (k % w) r (mod-lt k some) ∙ sym (rows_at w h some p d (k / w) (k % w) r (mod-lt k some)) ∙ ap (λ (m : ℕ). get_or (row_by_row w h p) m d) (div-add-mod' k w)

pub stands_over : (w h : ℕ) (p : Plane ℤ) (l l' : List ℤ) → 1 ≤ w → w * h ≤ length l → length l' ≡ length l → Stands w h (at l') p → ((q : ℕ) → w * h ≤ q → at l' q ≡ at l q) → l' ≡ over (row_by_row w h p) l
stands_over = plane_over (pos 0)
