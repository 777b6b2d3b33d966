-- Refusal 12 as the code finds it: subband by subband, each by one look over its part of the plane.
use Rattle.std.specs.Prelude.{ℕ, suc, ◌+◌, ◌*◌, ◌-◌, ◌^◌, ◌<◌, ◌≤◌, Bool, List, [], ◌≡◌, ℤ, pos, neg_ℤ, length}
use Rattle.std.proofs.Math.Bool.{true, false}
use Rattle.std.proofs.Math.Path.{refl, ap, subst}
use Rattle.std.proofs.Common.{sym, ◌∙◌, subst₂, mul-le-mul, mul-le-mul_right, mul_comm, add-one}
use native.Mathlib.Omega.{arith}
use Rattle.std.proofs.Math.Decide.{dec_lt}
use Rattle.std.proofs.Math.Dec.{T}
use Rattle.std.specs.Int.Signed.{le_z, lt_z}
use Rattle.numbers.specs.Tests.{every, both, and_intro}
use Rattle.refusals.specs.Answers.{refused, passed, asks}
use Rattle.lines.specs.Lines.{lows, highs}
use Rattle.lines.specs.Planes.{side, row_by_row}
use Rattle.lines.specs.PlaneLaws.{side_le}
use Rattle.lines.specs.RowLaws.{every_row, every_row_at}
use Rattle.width_table.specs.declared.WidthTable.{WidthTable}
use Rattle.width_table.specs.Nodes.{Node, G1, G2, Pass, LowColumns, HighColumns, TableNode, node_at}
use Rattle.width_table.specs.Table.{integer_bits, fraction_bits}
use Rattle.slices.specs.Patch.{at}
use Rattle.slices.specs.Runs.{as_type}
use Rattle.slices.specs.PatchLines.{line_at}
use Rattle.slices.specs.Parts.{Part, row_of}
use Rattle.width_table.specs.Limits.{form_levels}
use Rattle.precision.specs.Verdict.{Accepted, IsLevel}
use Rattle.precision.specs.Promise.{promise}
use Rattle.pictures.specs.Pictures.{plane_of, Admitted}
use Rattle.pictures.specs.RangeChecks.{Tells, OfBits}
use Rattle.table_meaning.specs.Subbands.{kept_node, InPart}
use Rattle.table_meaning.specs.SubbandLaws.{in_part?, kept_LL, kept_HL, kept_LH, kept_HH}
use Rattle.viewing.specs.Calls.{fits_width, in_width, coefficients_right}

-- ---- one coefficient

-- v is in the width of a node
abbrev pub Fits : WidthTable → ℕ → Pass → Node → ℤ → Type 0
Fits t l p n v = T (fits_width (integer_bits t l p n) (fraction_bits t l p n) v)

-- as a look sees it
module _ (IB f : ℕ) (v : ℤ) where
  fits_bits : T (fits_width IB f v) → OfBits (IB + f - 1) v
  fits_bits h = let z = both (le_z (neg_ℤ (pos (2 ^ (IB + f - 1)))) v) (lt_z v (pos (2 ^ (IB + f - 1)))) h in (record { le = z.0 }, record { lt = z.1 })

  bits_fits : OfBits (IB + f - 1) v → T (fits_width IB f v)
  bits_fits b = and_intro (le_z (neg_ℤ (pos (2 ^ (IB + f - 1)))) v) (lt_z v (pos (2 ^ (IB + f - 1)))) b.0.le b.1.lt

-- ---- the subbands of a level

-- level l of the w columns and h rows at the front of a plane whose rows are W long can be looked at
pub record LookReady (t : WidthTable) (l : ℕ) (plane : List ℤ) (W w h : ℕ) : Type 0 where
  pub is_level : IsLevel t l
  pub part : Part plane W 0 w h

-- each coefficient of a part of w columns and h rows, which starts at a place, is in the width of a node
abbrev pub PartFits : WidthTable → ℕ → Pass → Node → (ℕ → ℤ) → ℕ → ℕ → ℕ → ℕ → Type 0
PartFits t l p n x from W w h = (i : ℕ) → i < h → (j : ℕ) → j < w → Fits t l p n (row_of W from x i j)

-- what a look over their bits tells
pub tells_fits : (t : WidthTable) (l : ℕ) (p : Pass) (n : Node) (x : ℕ → ℤ) (from W w h : ℕ) (r : Bool)
    → Tells ((i : ℕ) → i < h → (j : ℕ) → j < w → OfBits (integer_bits t l p n + fraction_bits t l p n - 1) (row_of W from x i j)) r
    → Tells (PartFits t l p n x from W w h) r
tells_fits t l p n x from W w h r look = record {
  holds = λ e i a j b. bits_fits (integer_bits t l p n) (fraction_bits t l p n) (row_of W from x i j) (look.holds e i a j b);
  told = λ f. look.told (λ i a j b. fits_bits (integer_bits t l p n) (fraction_bits t l p n) (row_of W from x i j) (f i a j b));
}

-- a plane of admitted sides under an accepted table can be looked at
pub record Lookable (t : WidthTable) (w h n : ℕ) : Type 0 where
  pub accepted : Accepted t
  pub width : Admitted w
  pub height : Admitted h
  pub room : w * h ≤ n

-- HL, LH and HH
pub record DetailsFit (t : WidthTable) (l : ℕ) (x : ℕ → ℤ) (W w h : ℕ) : Type 0 where
  pub hl : PartFits t l HighColumns G1 x (lows w) W (highs w) (lows h)
  pub lh : PartFits t l LowColumns G2 x (lows h * W) W (lows w) (highs h)
  pub hh : PartFits t l HighColumns G2 x (lows h * W + lows w) W (highs w) (highs h)

-- the three parts lie in the plane
module _ {plane : List ℤ} {W w h : ℕ} (part : Part plane W 0 w h) where
  pub high_part : (i : ℕ) → i < lows h → line_at (lows w) W i + highs w ≤ length plane
  high_part i a = omega (arith, part.fits i (omega arith))

  pub low_part : (i : ℕ) → i < highs h → line_at (lows h * W) W i + lows w ≤ length plane
  low_part i a = omega (arith, part.fits (lows h + i) (omega arith))

  pub last_part : (i : ℕ) → i < highs h → line_at (lows h * W + lows w) W i + highs w ≤ length plane
  last_part i a = omega (arith, part.fits (lows h + i) (omega arith))

  -- and the place where they start is a machine number
  pub start_small : lows h * W ≤ 2 ^ 31 * 2 ^ 31
  start_small =
      let a : lows h ≤ 2 ^ 31 = omega (arith, part.few) in
      let b : W ≤ 2 ^ 31 = omega (arith, part.wide) in
      mul-le-mul a b

-- what three looks tell of the details
module _ {t : WidthTable} {l : ℕ} {x : ℕ → ℤ} {W w h : ℕ} where
  pub no_hl : (r : Bool) → Tells (PartFits t l HighColumns G1 x (lows w) W (highs w) (lows h)) r → r ≡ false → Tells (DetailsFit t l x W w h) false
  no_hl r look e = record { holds = λ q. absurd q; told = λ d. subst T e (look.told d.hl) }

  pub no_lh : (r : Bool) → Tells (PartFits t l LowColumns G2 x (lows h * W) W (lows w) (highs h)) r → r ≡ false → Tells (DetailsFit t l x W w h) false
  no_lh r look e = record { holds = λ q. absurd q; told = λ d. subst T e (look.told d.lh) }

  pub last_tells : (a b r : Bool) → Tells (PartFits t l HighColumns G1 x (lows w) W (highs w) (lows h)) a → a ≡ true → Tells (PartFits t l LowColumns G2 x (lows h * W) W (lows w) (highs h)) b → b ≡ true
      → Tells (PartFits t l HighColumns G2 x (lows h * W + lows w) W (highs w) (highs h)) r → Tells (DetailsFit t l x W w h) r
  last_tells a b r first d second e third = record {
    holds = λ q. record { hl = first.holds (subst T (sym d) tt); lh = second.holds (subst T (sym e) tt); hh = third.holds q };
    told = λ f. third.told f.hh;
  }

-- ---- all levels

module _ (t : WidthTable) (w h : ℕ) (plane : List ℤ) where
  -- the coefficient at a row and a column is in the width of its kept node
  abbrev pub Right : ℕ → ℕ → Type 0
  Right r c = T (in_width t w h (plane_of w plane) r c)

  abbrev pub AllRight : Type 0
  AllRight = (r c : ℕ) → r < h → c < w → Right r c

  NodeFits : TableNode → ℤ → Type 0
  NodeFits k v = T (fits_width (integer_bits t k.level k.pass k.node) (fraction_bits t k.level k.pass k.node) v)

  module _ (r c l : ℕ) (p : Pass) (n : Node) (kept : kept_node t.levels w h r c ≡ node_at l p n) (k : ℕ) (place : k ≡ r * w + c) where
    to_right : Fits t l p n (at plane k) → Right r c
    unfolding in_width NodeFits
    to_right f = subst (λ (q : TableNode). NodeFits q (plane_of w plane r c)) (sym kept) (subst (λ (m : ℕ). Fits t l p n (at plane m)) place f)

    from_right : Right r c → Fits t l p n (at plane k)
    unfolding in_width NodeFits
    from_right f = subst (λ (m : ℕ). Fits t l p n (at plane m)) (sym place) (subst (λ (q : TableNode). NodeFits q (plane_of w plane r c)) kept f)

  -- the answer
  module _ (some : 1 ≤ w) where
    pub all_right : AllRight → coefficients_right t w h plane ≡ passed
    unfolding coefficients_right
    all_right f = go (every (λ q. q) (row_by_row w h (in_width t w h (plane_of w plane)))) (every_row w h some (λ q. q) (in_width t w h (plane_of w plane)) f)
      where
        go : (b : Bool) → T b → asks b 12 passed ≡ passed
        go true q = refl
        go false q = absurd q

    pub one_wrong : (AllRight → ⊥) → coefficients_right t w h plane ≡ refused (12, [])
    unfolding coefficients_right
    one_wrong f = go (every (λ q. q) (row_by_row w h (in_width t w h (plane_of w plane)))) (λ e. f (every_row_at w h some (λ q. q) (in_width t w h (plane_of w plane)) e))
      where
        go : (b : Bool) → (T b → ⊥) → asks b 12 passed ≡ refused (12, [])
        go true q = absurd (q tt)
        go false q = refl

  -- all that lies outside of the part that k levels leave is right
  pub record RightOutside (k : ℕ) : Type 0 where
    pub outside : (r c : ℕ) → r < h → c < w → ¬ InPart k w h r c → Right r c

  pub right_none : RightOutside 0
  unfolding side
  right_none = record { outside = λ r c i j out. absurd (out (i, j)) }

  module _ (k : ℕ) (within : k < t.levels) where
    -- the details of one level more
    pub right_more : RightOutside k → DetailsFit t (suc k) (at plane) w (side k w) (side k h) → RightOutside (suc k)
    unfolding side
    right_more before d = record { outside = λ r c i j out. go r c i j out (in_part? k w h r c) (dec_lt r (side (suc k) h)) (dec_lt c (side (suc k) w)) }
      where
        rows_from_lem : (a r w : ℕ) → a ≤ r → a * w + (r - a) * w ≡ r * w
        rows_from_lem a r w i = let e : a + (r - a) ≡ r = omega arith in omega (arith, ap (λ (n : ℕ). n * w) e)

        go : (r c : ℕ) → r < h → c < w → ¬ InPart (suc k) w h r c → Dec (InPart k w h r c) → Dec (r < side (suc k) h) → Dec (c < side (suc k) w) → Right r c
        go r c i j out (no p) a b = before.outside r c i j p
        go r c i j out (yes p) (yes a) (yes b) = absurd (out (a, b))
        go r c i j out (yes (p, q)) (yes a) (no b) =
            to_right r c (suc k) HighColumns G1 (kept_HL w h r c t.levels k within a (omega arith) q) _ (omega arith) (d.hl r a (c - side (suc k) w) (omega arith))
        go r c i j out (yes (p, q)) (no a) (yes b) =
            to_right r c (suc k) LowColumns G2 (kept_LH w h r c t.levels k within (omega arith) p b) _ (omega (arith, rows_from_lem (side (suc k) h) r w (omega arith))) (d.lh (r - side (suc k) h) (omega arith) c b)
        go r c i j out (yes (p, q)) (no a) (no b) =
            to_right r c (suc k) HighColumns G2 (kept_HH w h r c t.levels k within (omega arith) p (omega arith) q) _ (omega (arith, rows_from_lem (side (suc k) h) r w (omega arith))) (d.hh (r - side (suc k) h) (omega arith) (c - side (suc k) w) (omega arith))

    -- where all is right the details are
    pub details_right : side k w ≤ w → side k h ≤ h → AllRight → DetailsFit t (suc k) (at plane) w (side k w) (side k h)
    unfolding side
    details_right in_w_lem in_h_lem f = record {
      hl = λ i a j b. from_right i (side (suc k) w + j) (suc k) HighColumns G1 (kept_HL w h i (side (suc k) w + j) t.levels k within a (omega arith) (omega arith)) _ (omega arith) (f i (side (suc k) w + j) (omega arith) (omega arith));
      lh = λ i a j b. from_right (side (suc k) h + i) j (suc k) LowColumns G2 (kept_LH w h (side (suc k) h + i) j t.levels k within (omega arith) (omega arith) b) _ (omega arith) (f (side (suc k) h + i) j (omega arith) (omega arith));
      hh = λ i a j b. from_right (side (suc k) h + i) (side (suc k) w + j) (suc k) HighColumns G2 (kept_HH w h (side (suc k) h + i) (side (suc k) w + j) t.levels k within (omega arith) (omega arith) (omega arith) (omega arith)) _ (omega arith)
          (f (side (suc k) h + i) (side (suc k) w + j) (omega arith) (omega arith));
    }

  -- and the low-low of the last level
  abbrev pub LowLowFits : Type 0
  LowLowFits = PartFits t t.levels LowColumns G1 (at plane) 0 w (side t.levels w) (side t.levels h)

  module _ (some : 0 < t.levels) where
    pub right_all : RightOutside t.levels → LowLowFits → AllRight
    right_all before low r c i j = go (in_part? t.levels w h r c)
      where
        go : Dec (InPart t.levels w h r c) → Right r c
        go (no p) = before.outside r c i j p
        go (yes p) = to_right r c t.levels LowColumns G1 (kept_LL w h r c t.levels some p.0 p.1) _ (omega arith) (low r p.0 c p.1)

    pub low_low_right : side t.levels w ≤ w → side t.levels h ≤ h → AllRight → LowLowFits
    low_low_right in_w_lem in_h_lem f i a j b = from_right i j t.levels LowColumns G1 (kept_LL w h i j t.levels some a b) _ (omega arith) (f i j (omega arith) (omega arith))

-- ---- the loop over the levels, whose sides are written otherwise

module _ (t : WidthTable) (w h : ℕ) (plane : List ℤ) (ready : Lookable t w h (length plane)) where
  in_w_lem : (k : ℕ) → side k w ≤ w
  in_w_lem k = side_le k w

  in_h_lem : (k : ℕ) → side k h ≤ h
  in_h_lem k = side_le k h

  some_levels : 0 < t.levels
  some_levels = (form_levels t (promise t ready.accepted).form).0

  -- the last level of all
  pub last_level : IsLevel t t.levels
  last_level = record { accepted = ready.accepted; least = some_levels; most = omega arith }

  module _ (k : ℕ) (across down : ℕ) (ea : across ≡ side k w) (ed : down ≡ side k h) where
    pub look_part : Part plane w 0 across down
    look_part = subst₂ (λ (u v : ℕ). Part plane w 0 u v) (sym ea) (sym ed) (record {
      narrow = omega (arith, in_w_lem k);
      few = omega (arith, in_h_lem k, ready.height.1);
      wide = omega (arith, ready.width.1);
      fits = λ r i. omega (arith, in_w_lem k, mul-le-mul_right {m = r + 1} {n = h} w (omega (arith, in_h_lem k)), mul_comm w h, ready.room);
    })

    -- details
    module _ (within : k < t.levels) where
      pub look_ready : LookReady t (k + 1) plane w across down
      look_ready = record { is_level = record { accepted = ready.accepted; least = omega arith; most = omega arith }; part = look_part }

      module _ (r : Bool) (look : Tells (DetailsFit t (k + 1) (at plane) w across down) r) where
        seen : Tells (DetailsFit t (suc k) (at plane) w (side k w) (side k h)) r
        seen = as_type (λ u. Tells (DetailsFit t (add-one k u) (at plane) w (ea u) (ed u)) r) look

        pub right_next : r ≡ true → RightOutside t w h plane k → RightOutside t w h plane (k + 1)
        right_next e before = subst (RightOutside t w h plane) (sym (add-one k)) (right_more t w h plane k within before (seen.holds (subst T (sym e) tt)))

        pub details_wrong : r ≡ false → refused (12, []) ≡ coefficients_right t w h plane
        details_wrong e = sym (one_wrong t w h plane ready.width.0 (λ f. subst T e (seen.told (details_right t w h plane k within (in_w_lem k) (in_h_lem k) f))))

    -- low-low
    module _ (last : k ≡ t.levels) (r : Bool) (look : Tells (PartFits t t.levels LowColumns G1 (at plane) 0 w across down) r) where
      low_seen : Tells (LowLowFits t w h plane) r
      low_seen = as_type (λ u. Tells (PartFits t t.levels LowColumns G1 (at plane) 0 w ((ea ∙ ap (λ (n : ℕ). side n w) last) u) ((ed ∙ ap (λ (n : ℕ). side n h) last) u)) r) look

      pub low_low_done : r ≡ true → RightOutside t w h plane k → passed ≡ coefficients_right t w h plane
      low_low_done e before = sym (all_right t w h plane ready.width.0 (right_all t w h plane some_levels (subst (RightOutside t w h plane) last before) (low_seen.holds (subst T (sym e) tt))))

      pub low_low_wrong : r ≡ false → refused (12, []) ≡ coefficients_right t w h plane
      low_low_wrong e = sym (one_wrong t w h plane ready.width.0 (λ f. subst T e (low_seen.told (low_low_right t w h plane some_levels (in_w_lem t.levels) (in_h_lem t.levels) f))))
