-- Demand 3: under every accepted table each coefficient lies less than two of its own steps from the exact one (`two_steps`), and no
-- value on the way leaves its width (`widths`). The same holds of strips of any size (`two_steps_strip`, `widths_strip`).
use Rattle.std.specs.Prelude.{ℕ, zero, suc, ◌+◌, ◌*◌, ◌-◌, ◌^◌, ◌<◌, ◌≤◌, ◌≡◌, Bool, List, ltb, ◌-ℤ◌}
use Rattle.std.proofs.Common.{◌∙◌}
use Rattle.std.proofs.Math.Path.{ap, subst}
use native.Mathlib.Omega.{arith}
use Rattle.std.proofs.Math.Decide.{dec_lt}
use Rattle.std.proofs.Math.Nat.{mul-le-mul_right}
use Rattle.std.proofs.Math.Pow.{pow-add}
use Rattle.std.proofs.Math.ListN.{get_or}
use Rattle.std.proofs.Math.IntN.{pos, nat_abs}
use Rattle.numbers.specs.Dif.{difs}
use Rattle.exact.specs.Fractions.{Frac}
use Rattle.width_table.specs.Nodes.{Node, Pass, Rows, TableNode, column_pass}
use Rattle.width_table.specs.Limits.{form_depth, form_levels, form_widths}
use Rattle.lines.specs.Lines.{lows}
use Rattle.exact.specs.Exact.{exact_pass}
use Rattle.stages.specs.Fixed.{fixed_value}
use Rattle.lines.specs.Planes.{Plane, OnLine, rows, columns, level_rows_first, levels, side}
use Rattle.lines.specs.PlaneLaws.{rows_first_in, rows_first_keeps}
use Rattle.width_table.specs.declared.WidthTable.{WidthTable}
use Rattle.width_table.specs.Table.{max_fraction_bits, integer_bits, fraction_bits, input_bits}
use Rattle.precision.specs.Bounds.{entering, bound_of}
use Rattle.precision.specs.Verdict.{Accepted, AcceptPromise}
use Rattle.exact.specs.Picture.{exact_sample, exact_level, exact_plane}
use Rattle.pictures.specs.Pictures.{sample}
use Rattle.fixed_stages.specs.Fixed.{fixed_line}
use Rattle.irreversible.specs.Transforms.{fixed_after, fixed_plane}
use Rattle.irreversible.specs.Claims.{Picture, Strip, Near, TwoSteps, LevelInWidth, Widths}
use Rattle.table_meaning.specs.Subbands.{kept_node, bits_plane, InPart}
use Rattle.table_meaning.specs.NodeWidths.{InNodeWidth}
use Rattle.precision.specs.Promise.{promise}
use Rattle.exact.specs.FracLaws.{⊕-neg, ≈-sym, within_≈, within_zero}
use Rattle.stages.proofs.Sound.{Q, Good}
use Rattle.irreversible.specs.Pass.{near, holds}
use Rattle.irreversible.specs.LevelPlanes.{row_v, row_x, new_v, new_x}
use Rattle.irreversible.specs.Level.{level_good, level_in_width}
use Rattle.table_meaning.specs.SubbandLaws.{part_before, kept_in, kept_out, kept_LL, kept_everywhere}

-- ---- a level changes its part and nothing else

module _ {A : Type 0} (row : ℕ → OnLine A) (column : ℕ → Bool → OnLine A) (k w h : ℕ) (p : Plane A) (r c : ℕ) where
  abbrev done : ℕ → Plane A
  done j = levels (λ l. level_rows_first (row l) (column l)) j w h p

  level_in : InPart k w h r c → done (suc k) r c ≡ columns (λ c. column (suc k) (ltb c (lows (side k w)))) (side k h) (rows (row (suc k)) (side k w) (done k)) r c
  unfolding levels columns rows
  level_in i = rows_first_in (row (suc k)) (column (suc k)) (side k w) (side k h) (done k) r c i.0 i.1

  level_below : side k h ≤ r → done (suc k) r c ≡ done k r c
  unfolding levels
  level_below i = (rows_first_keeps (row (suc k)) (column (suc k))).below (side k w) (side k h) (done k) r c i

  level_beyond : side k w ≤ c → done (suc k) r c ≡ done k r c
  unfolding levels
  level_beyond i = (rows_first_keeps (row (suc k)) (column (suc k))).beyond (side k w) (side k h) (done k) r c i

-- ---- the pixels

size_law : (a H P : ℕ) → P ≡ 2 * H → a ≤ H → a * 2 ^ 32 ≤ 2 ^ 31 * P
size_law a H P e h = omega arith

pixel_law : (p H : ℕ) → p < 2 * H → nat_abs (pos p -ℤ pos H) ≤ H
pixel_law p H h = simp difs (omega arith)

module _ (t : WidthTable) (ok : AcceptPromise t) (pixels : List ℕ) (w h : ℕ) (strip : Strip t pixels w h) where
  pub exact_after : ℕ → Plane Frac
  exact_after k = levels (λ l. exact_level) k w h (exact_sample pixels t.depth w)

  -- the value at a place is good for a node
  GoodFor : TableNode → ℕ → ℕ → ℕ → Type 0
  GoodFor p k r c = Good (bound_of t p) (fraction_bits t p.level p.pass p.node) (fixed_after t k pixels w h r c) (exact_after k r c)

  -- after k levels: low-low is good for the next level, and all else is good for its kept node
  pub record After (k : ℕ) : Type 0 where
    pub inside : (r c : ℕ) → InPart k w h r c → Good (entering t (suc k)) (input_bits t (suc k) Rows) (fixed_after t k pixels w h r c) (exact_after k r c)
    outside : (r c : ℕ) → r < h → c < w → ¬ InPart k w h r c → GoodFor (kept_node k w h r c) k r c

  pixel_good : (r c : ℕ) → r < h → c < w → Good (record { range = 2 ^ 31; error = 0 }) t.depth (sample pixels t.depth w r c) (exact_sample pixels t.depth w r c)
  unfolding exact_sample sample fixed_value
  pixel_good r c i j =
      let p = get_or pixels (r * w + c) 0 in
      let H = 2 ^ (t.depth - 1) in
      let e : 2 ^ t.depth ≡ 2 * H = ap (λ (k : ℕ). 2 ^ k) (deeper t.depth (form_depth t ok.form).0) ∙ pow-add 2 1 (t.depth - 1) in
      let q : p < 2 ^ t.depth = strip.depth (r * w + c) (omega (arith, mul-le-mul_right w i)) in
      let s : nat_abs (pos p -ℤ pos H) ≤ H = pixel_law p H (omega arith) in
      record {
        range = record { most = size_law (nat_abs (pos p -ℤ pos H)) H (2 ^ t.depth) e s };
        error = within_≈ (≈-sym (⊕-neg (fixed_value (pos p -ℤ pos H) t.depth))) (within_zero 0 Q);
      }
    where
      deeper : (d : ℕ) → 0 < d → d ≡ 1 + (d - 1)
      deeper d z = omega arith

  start : After 0
  unfolding exact_after fixed_after levels side entering
  start = record { inside = λ r c i. pixel_good r c i.0 i.1; outside = λ r c i j n. absurd (n (i, j)) }

  module _ (k : ℕ) (i : k < t.levels) (a : After k) where
    fractions : (p : Pass) (n : Node) → fraction_bits t (suc k) p n ≤ max_fraction_bits
    fractions p n = (form_widths t ok.form (suc k) (omega arith) (omega arith) p n).2

    good_in : (r c : ℕ) → InPart k w h r c → GoodFor (kept_node (suc k) w h r c) (suc k) r c
    unfolding GoodFor bound_of exact_after fixed_after new_v new_x row_v row_x side
    good_in r c p =
        rw (kept_in w h r c k p, level_in (λ l. fixed_line t l Rows) (λ l low. fixed_line t l (column_pass low)) k w h (sample pixels t.depth w) r c p, level_in (λ l. exact_pass) (λ l low. exact_pass) k w h (exact_sample pixels t.depth w) r c p)
        (level_good t (suc k) fractions (side k w) (side k h) (entering t (suc k)) (fixed_after t k pixels w h) (exact_after k) (λ r c i j. a.inside r c (i, j)) r c p.0 p.1)

    good_next : (r c : ℕ) → r < h → c < w → GoodFor (kept_node (suc k) w h r c) (suc k) r c
    unfolding GoodFor exact_after fixed_after
    good_next r c p q = go (dec_lt r (side k h)) (dec_lt c (side k w))
      where
        below : side k h ≤ r → ¬ InPart k w h r c → GoodFor (kept_node (suc k) w h r c) (suc k) r c
        below z n =
            rw (kept_out w h r c k n, level_below (λ l. fixed_line t l Rows) (λ l low. fixed_line t l (column_pass low)) k w h (sample pixels t.depth w) r c z, level_below (λ l. exact_pass) (λ l low. exact_pass) k w h (exact_sample pixels t.depth w) r c z)
            (a.outside r c p q n)

        beyond : side k w ≤ c → ¬ InPart k w h r c → GoodFor (kept_node (suc k) w h r c) (suc k) r c
        beyond z n =
            rw (kept_out w h r c k n, level_beyond (λ l. fixed_line t l Rows) (λ l low. fixed_line t l (column_pass low)) k w h (sample pixels t.depth w) r c z, level_beyond (λ l. exact_pass) (λ l low. exact_pass) k w h (exact_sample pixels t.depth w) r c z)
            (a.outside r c p q n)

        go : Dec (r < side k h) → Dec (c < side k w) → GoodFor (kept_node (suc k) w h r c) (suc k) r c
        go (yes i') (yes j) = good_in r c (i', j)
        go (yes i') (no j) = beyond (omega arith) (λ z. j z.1)
        go (no i') (yes j) = below (omega arith) (λ z. i' z.0)
        go (no i') (no j) = below (omega arith) (λ z. i' z.0)

    inside_next : (r c : ℕ) → InPart (suc k) w h r c → Good (entering t (suc (suc k))) (input_bits t (suc (suc k)) Rows) (fixed_after t (suc k) pixels w h r c) (exact_after (suc k) r c)
    unfolding GoodFor bound_of entering
    inside_next r c p = subst (λ (q : TableNode). GoodFor q (suc k) r c) (kept_LL w h r c (suc k) (omega arith) p.0 p.1) (good_in r c (part_before k w h r c p))

    next : After (suc k)
    next = record { inside = inside_next; outside = λ r c p q n. good_next r c p q }

  pub after : (k : ℕ) → k ≤ t.levels → After k
  after zero i = start
  after (suc k) i = next k i (after k (omega arith))

  good_everywhere : (L : ℕ) → 1 ≤ L → L ≤ t.levels → (r c : ℕ) → r < h → c < w → GoodFor (kept_node L w h r c) L r c
  good_everywhere zero z i r c p q = absurd (omega arith)
  good_everywhere (suc k) z i r c p q = good_next k i (after k (omega arith)) r c p q

  -- each coefficient of the plane is good for its kept node
  good_plane : (r c : ℕ) → r < h → c < w → Good (bound_of t (kept_node t.levels w h r c)) (bits_plane t w h r c) (fixed_plane t pixels w h r c) (exact_plane pixels t.depth t.levels w h r c)
  unfolding fixed_plane bits_plane exact_plane exact_after GoodFor
  good_plane = good_everywhere t.levels (form_levels t ok.form).0 (omega arith)

  result : (r c : ℕ) → r < h → c < w → Near (fixed_plane t pixels w h r c) (bits_plane t w h r c) (exact_plane pixels t.depth t.levels w h r c)
  unfolding bits_plane
  result r c p q =
      let K = kept_everywhere t.levels w h r c (form_levels t ok.form).0 p q in
      let k = kept_node t.levels w h r c in
      near (bound_of t k) (fraction_bits t k.level k.pass k.node) _ _ (omega (arith, (form_widths t ok.form k.level K.least K.most k.pass k.node).2))
      (ok.steps k.level K.least K.most k.pass k.node K.kept)
      (good_plane r c p q)

  in_width_lem : (k : ℕ) → k < t.levels → LevelInWidth t (suc k) (side k w) (side k h) (fixed_after t k pixels w h)
  unfolding bound_of
  in_width_lem k i =
      level_in_width t (suc k) (λ p n. (form_widths t ok.form (suc k) (omega arith) i p n).2) (side k w) (side k h) (entering t (suc k)) (fixed_after t k pixels w h) (exact_after k) (λ r c a b. (after k (omega arith)).inside r c (a, b))
      (λ p n. (form_widths t ok.form (suc k) (omega arith) i p n).0) (λ p n. ok.fit (suc k) (omega arith) i p n)

  kept_held : (r c : ℕ) → r < h → c < w → (let k = kept_node t.levels w h r c in InNodeWidth (integer_bits t k.level k.pass k.node) (fraction_bits t k.level k.pass k.node) (fixed_plane t pixels w h r c))
  unfolding bits_plane
  kept_held r c p q =
      let K = kept_everywhere t.levels w h r c (form_levels t ok.form).0 p q in
      let k = kept_node t.levels w h r c in
      holds (bound_of t k) (fraction_bits t k.level k.pass k.node) (integer_bits t k.level k.pass k.node) _ _ (omega (arith, (form_widths t ok.form k.level K.least K.most k.pass k.node).2))
      (form_widths t ok.form k.level K.least K.most k.pass k.node).0 (ok.fit k.level K.least K.most k.pass k.node)
      (good_plane r c p q)

-- ---- strips of any size

pub two_steps_strip : (t : WidthTable) (pixels : List ℕ) (w h : ℕ) → Accepted t → Strip t pixels w h
    → (r c : ℕ) → r < h → c < w
    → Near (fixed_plane t pixels w h r c) (bits_plane t w h r c) (exact_plane pixels t.depth t.levels w h r c)
two_steps_strip t pixels w h ok strip r c p q = result t (promise t ok) pixels w h strip r c p q

pub widths_strip : (t : WidthTable) (pixels : List ℕ) (w h : ℕ) → Accepted t → Strip t pixels w h
    → (k : ℕ) → k < t.levels
    → LevelInWidth t (suc k) (side k w) (side k h) (fixed_after t k pixels w h)
widths_strip t pixels w h ok strip k i = in_width_lem t (promise t ok) pixels w h strip k i

-- ---- pictures

-- a picture of admitted size is such a strip
pub strip_of : {t : WidthTable} {pixels : List ℕ} {w h : ℕ} → Picture t pixels w h → Strip t pixels w h
strip_of picture = record { width = picture.width.0; height = picture.height.0; depth = picture.depth }

pub two_steps : TwoSteps
two_steps t pixels w h ok picture = two_steps_strip t pixels w h ok (strip_of picture)

pub widths : Widths
widths t pixels w h ok picture = widths_strip t pixels w h ok (strip_of picture)

pub demand_3 : TwoSteps × Widths
demand_3 = (two_steps, widths)

-- Each coefficient of the plane is good for its kept node.
pub plane_good : (t : WidthTable) → AcceptPromise t → (pixels : List ℕ) (w h : ℕ) → Picture t pixels w h → (r c : ℕ) → r < h → c < w
    → Good (bound_of t (kept_node t.levels w h r c)) (bits_plane t w h r c) (fixed_plane t pixels w h r c) (exact_plane pixels t.depth t.levels w h r c)
plane_good t ok pixels w h picture = good_plane t ok pixels w h (strip_of picture)

-- Each coefficient of the plane is in the width of its kept node.
pub kept_widths : (t : WidthTable) (pixels : List ℕ) (w h : ℕ) → Accepted t → Picture t pixels w h → (r c : ℕ) → r < h → c < w
    → InNodeWidth (integer_bits t (kept_node t.levels w h r c).level (kept_node t.levels w h r c).pass (kept_node t.levels w h r c).node)
    (fraction_bits t (kept_node t.levels w h r c).level (kept_node t.levels w h r c).pass (kept_node t.levels w h r c).node) (fixed_plane t pixels w h r c)
kept_widths t pixels w h ok picture = kept_held t (promise t ok) pixels w h (strip_of picture)
