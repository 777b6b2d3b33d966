-- Where each line's pass has an inverse, a level has, in either order of rows and columns (`rows_first_inverses`, `columns_first_inverses`);
-- and where each level has, the levels have (`levels_left_inverse`, `levels_right_inverse`). All of it up to a relation R that the passes respect.
use Prim.Native.Nat.{ℕ, zero, suc, ◌+◌, ◌<◌, ◌≤◌}
use Rattle.std.specs.Prelude.{Bool, ◌≡◌, refl, ltb}
use Rattle.std.proofs.Common.{sym, ◌∙◌, subst, arith}
use Rattle.lines.specs.Lines.{lows}
use Rattle.lines.specs.Planes.{Plane, OnLine, OnPart, level_rows_first, level_columns_first, levels, inverse_levels, side}
use Rattle.lines.specs.PlaneLaws.{rows_first_in, rows_first_keeps, columns_first_in, columns_first_keeps, by_part, side_le, Alike}

-- an equivalence
pub record Equivalence {A : Type 0} (R : A → A → Type 0) : Type 0 where
  pub reflexive : (x : A) → R x x
  pub symmetric : {x y : A} → R x y → R y x
  pub transitive : {x y z : A} → R x y → R y z → R x z

pub equal : {A : Type 0} → Equivalence (◌≡◌ {A = A})
equal = record { reflexive = λ x. refl; symmetric = λ e. sym e; transitive = λ e f. e ∙ f }

module _ {A : Type 0} (R : A → A → Type 0) where
  -- a pass that reads no more than its n values, and is inverted by another
  pub record LeftInverse (pass inverse : OnLine A) : Type 0 where
    pub reads : (n : ℕ) (x y : ℕ → A) → ((k : ℕ) → k < n → R (x k) (y k)) → (k : ℕ) → k < n → R (pass n x k) (pass n y k)
    pub left_inverse_lem : (n : ℕ) (x : ℕ → A) (k : ℕ) → k < n → R (inverse n (pass n x) k) (x k)

  -- two passes that are inverses of each other
  pub record Inverses (pass inverse : OnLine A) : Type 0 where
    pub there : LeftInverse pass inverse
    pub back : LeftInverse inverse pass

  swapped : {pass inverse : OnLine A} → Inverses pass inverse → Inverses inverse pass
  swapped u = record { there = u.back; back = u.there }

  -- the same of a level: it reads no more than the plane that its part lies in
  pub record LeftInversePart (level inverse : OnPart A) : Type 0 where
    pub reads : (w h W H : ℕ) → w ≤ W → h ≤ H → (p q : Plane A) → Alike R W H p q → Alike R W H (level w h p) (level w h q)
    pub left_inverse_lem : (w h : ℕ) (p : Plane A) (r c : ℕ) → R (inverse w h (level w h p) r c) (p r c)

  pub record InversesPart (level inverse : OnPart A) : Type 0 where
    pub there : LeftInversePart level inverse
    pub back : LeftInversePart inverse level

  part_swapped : {level inverse : OnPart A} → InversesPart level inverse → InversesPart inverse level
  part_swapped u = record { there = u.back; back = u.there }

module _ {A : Type 0} {R : A → A → Type 0} (e : Equivalence R) where
  is : {x y : A} → x ≡ y → R x y
  is {x} q = subst (λ (z : A). R x z) q (e.reflexive x)

  -- equal to values that are alike
  between : {x x' y y' : A} → x ≡ x' → R x' y' → y ≡ y' → R x y
  between a b d = e.transitive (is a) (e.transitive b (e.symmetric (is d)))

  module _ {row inverseRow : OnLine A} {column inverseColumn : Bool → OnLine A} (rowsU : Inverses R row inverseRow) (columnsU : (b : Bool) → Inverses R (column b) (inverseColumn b)) where
    rows_first_left_inverse : LeftInversePart R (level_rows_first row column) (level_columns_first inverseRow inverseColumn)
    rows_first_left_inverse = record {
      reads = λ w h W H in_w_lem in_h_lem p q alike.
          by_part (λ r c. r < H → c < W → R (level_rows_first row column w h p r c) (level_rows_first row column w h q r c)) w h
          (λ r c i j a b. between (rows_first_in row column w h p r c i j)
          ((columnsU (ltb c (lows w))).there.reads h _ _ (λ k ik. rowsU.there.reads w (p k) (q k) (λ m jm. alike k m (omega arith) (omega arith)) c j) r i)
          (rows_first_in row column w h q r c i j))
          (λ r c i a b. between ((rows_first_keeps row column).below w h p r c i) (alike r c a b) ((rows_first_keeps row column).below w h q r c i))
          (λ r c j a b. between ((rows_first_keeps row column).beyond w h p r c j) (alike r c a b) ((rows_first_keeps row column).beyond w h q r c j));
      left_inverse_lem = λ w h p.
          let q : Plane A = level_rows_first row column w h p in
          by_part (λ r c. R (level_columns_first inverseRow inverseColumn w h q r c) (p r c)) w h
          (λ r c i j. e.transitive (is (columns_first_in inverseRow inverseColumn w h q r c i j)) (e.transitive
          (rowsU.back.reads w _ (row w (p r)) (λ k jk.
          e.transitive ((columnsU (ltb k (lows w))).back.reads h (λ m. q m k) (column (ltb k (lows w)) h (λ m. row w (p m) k)) (λ m im. is (rows_first_in row column w h p m k im jk)) r i)
          ((columnsU (ltb k (lows w))).there.left_inverse_lem h (λ m. row w (p m) k) r i)) c j)
          (rowsU.there.left_inverse_lem w (p r) c j)))
          (λ r c i. is ((columns_first_keeps inverseRow inverseColumn).below w h q r c i ∙ (rows_first_keeps row column).below w h p r c i))
          (λ r c j. is ((columns_first_keeps inverseRow inverseColumn).beyond w h q r c j ∙ (rows_first_keeps row column).beyond w h p r c j));
    }

    columns_first_left_inverse : LeftInversePart R (level_columns_first inverseRow inverseColumn) (level_rows_first row column)
    columns_first_left_inverse = record {
      reads = λ w h W H in_w_lem in_h_lem p q alike.
          by_part (λ r c. r < H → c < W → R (level_columns_first inverseRow inverseColumn w h p r c) (level_columns_first inverseRow inverseColumn w h q r c)) w h
          (λ r c i j a b. between (columns_first_in inverseRow inverseColumn w h p r c i j)
          (rowsU.back.reads w _ _ (λ k jk. (columnsU (ltb k (lows w))).back.reads h (λ m. p m k) (λ m. q m k) (λ m im. alike m k (omega arith) (omega arith)) r i) c j)
          (columns_first_in inverseRow inverseColumn w h q r c i j))
          (λ r c i a b. between ((columns_first_keeps inverseRow inverseColumn).below w h p r c i) (alike r c a b) ((columns_first_keeps inverseRow inverseColumn).below w h q r c i))
          (λ r c j a b. between ((columns_first_keeps inverseRow inverseColumn).beyond w h p r c j) (alike r c a b) ((columns_first_keeps inverseRow inverseColumn).beyond w h q r c j));
      left_inverse_lem = λ w h p.
          let q : Plane A = level_columns_first inverseRow inverseColumn w h p in
          by_part (λ r c. R (level_rows_first row column w h q r c) (p r c)) w h
          (λ r c i j. e.transitive (is (rows_first_in row column w h q r c i j)) (e.transitive
          ((columnsU (ltb c (lows w))).there.reads h _ (inverseColumn (ltb c (lows w)) h (λ m. p m c)) (λ k ik.
          e.transitive (rowsU.there.reads w (q k) (inverseRow w (λ m. inverseColumn (ltb m (lows w)) h (λ t. p t m) k)) (λ m jm. is (columns_first_in inverseRow inverseColumn w h p k m ik jm)) c j)
          (rowsU.back.left_inverse_lem w (λ m. inverseColumn (ltb m (lows w)) h (λ t. p t m) k) c j)) r i)
          ((columnsU (ltb c (lows w))).back.left_inverse_lem h (λ m. p m c) r i)))
          (λ r c i. is ((rows_first_keeps row column).below w h q r c i ∙ (columns_first_keeps inverseRow inverseColumn).below w h p r c i))
          (λ r c j. is ((rows_first_keeps row column).beyond w h q r c j ∙ (columns_first_keeps inverseRow inverseColumn).beyond w h p r c j));
    }

    -- A level is inverted by the passes that invert its own, in the other order.
    pub rows_first_inverses : InversesPart R (level_rows_first row column) (level_columns_first inverseRow inverseColumn)
    rows_first_inverses = record { there = rows_first_left_inverse; back = columns_first_left_inverse }

  pub columns_first_inverses : {row inverseRow : OnLine A} {column inverseColumn : Bool → OnLine A} → Inverses R row inverseRow → ((b : Bool) → Inverses R (column b) (inverseColumn b)) → InversesPart R (level_columns_first row column) (level_rows_first inverseRow inverseColumn)
  columns_first_inverses rowsU columnsU = part_swapped R (rows_first_inverses (swapped R rowsU) (λ b. swapped R (columnsU b)))

  -- levels that are inverted one by one
  module _ {level inverse : ℕ → OnPart A} (left_inverse : (l : ℕ) → InversesPart R (level l) (inverse l)) (w h : ℕ) where
    -- they read no more than the plane
    module _ (W H : ℕ) (in_w_lem : w ≤ W) (in_h_lem : h ≤ H) where
      pub levels_read : (L : ℕ) (p q : Plane A) → Alike R W H p q → Alike R W H (levels level L w h p) (levels level L w h q)
      unfolding levels
      levels_read zero p q s = s
      levels_read (suc k) p q s =
          (left_inverse (suc k)).there.reads (side k w) (side k h) W H (omega (arith, side_le k w)) (omega (arith, side_le k h)) _ _
          (levels_read k p q s)

      pub back_reads : (L : ℕ) (p q : Plane A) → Alike R W H p q → Alike R W H (inverse_levels inverse L w h p) (inverse_levels inverse L w h q)
      unfolding inverse_levels
      back_reads zero p q s = s
      back_reads (suc k) p q s =
          back_reads k _ _
          ((left_inverse (suc k)).back.reads (side k w) (side k h) W H (omega (arith, side_le k w)) (omega (arith, side_le k h)) p q s)

    -- Levels 1 to L, inverted, leave the plane as it was.
    pub levels_left_inverse : (L : ℕ) (p : Plane A) (r c : ℕ) → R (inverse_levels inverse L w h (levels level L w h p) r c) (p r c)
    unfolding inverse_levels levels
    levels_left_inverse zero p r c = e.reflexive (p r c)
    levels_left_inverse (suc k) p r c =
        e.transitive
        (back_reads (w + suc c) (h + suc r) (omega arith) (omega arith) k _ (levels level k w h p)
        (λ a b i j. (left_inverse (suc k)).there.left_inverse_lem (side k w) (side k h) (levels level k w h p) a b) r c (omega arith) (omega arith))
        (levels_left_inverse k p r c)

    -- Levels L to 1 inverted, and worked again, leave the plane as it was.
    pub levels_right_inverse : (L : ℕ) (p : Plane A) (r c : ℕ) → R (levels level L w h (inverse_levels inverse L w h p) r c) (p r c)
    unfolding inverse_levels levels
    levels_right_inverse zero p r c = e.reflexive (p r c)
    levels_right_inverse (suc k) p r c =
        let q : Plane A = inverse (suc k) (side k w) (side k h) p in
        e.transitive
        ((left_inverse (suc k)).there.reads (side k w) (side k h) (w + suc c) (h + suc r) (omega (arith, side_le k w)) (omega (arith, side_le k h)) _ q
        (λ a b i j. levels_right_inverse k q a b) r c (omega arith) (omega arith))
        ((left_inverse (suc k)).back.left_inverse_lem (side k w) (side k h) p r c)
