-- For the code: the stages make so little of values of five integer bits that every number fits its machine type, whoever wrote the values.
use Prim.Native.Nat.{ℕ, zero, suc, ◌+◌, ◌*◌, ◌-◌, ◌^◌, ◌<◌, ◌≤◌, max}
use Rattle.std.specs.Prelude.{Bool, true, ◌&&◌, ◌≡◌, leb, ◌+ℤ◌, ◌*ℤ◌}
use Rattle.std.proofs.Common.{sym, ◌∙◌, ap, arith, mul-le-mul_left, mul-le-mul_right, leb→le, pow-add, pow_pos}
use Rattle.std.proofs.Math.Path.{subst}
use Rattle.std.proofs.Math.Decide.{dec_lt}
use Rattle.std.proofs.Math.Nat.{le_trans}
use Rattle.std.proofs.Math.Dec.{T}
use Rattle.std.proofs.Math.IntN.{ℤ, pos, nat_abs}
use Rattle.numbers.specs.Abs.{abs_add, abs_mul}
use Rattle.numbers.specs.Tests.{both}
use Rattle.exact.specs.Fractions.{Frac}
use Rattle.width_table.specs.Nodes.{Node, P1, U1, P2, U2, G1, G2}
use Rattle.width_table.specs.Table.{max_constant_bits}
use Rattle.lifting.specs.Steps.{Safe, FactorSafe}
use Rattle.stages.specs.Stages.{Product, product_bits}
use Rattle.stages.specs.Fixed.{nearest, cut, cut_product, step, scale}
use Rattle.fixed_stages.specs.Constants.{constant_of, ConstantBits}
use Rattle.fixed_stages.specs.Safe.{BelowPower10, Limits}
use Rattle.fixed_stages.specs.Sizes.{floor_size, product_cut}
use Rattle.fixed_stages.specs.Steps.{single_of}
use Rattle.fixed_stages.specs.Kernels.{s_p1, s_u1, s_p2, s_u2, s_g1, s_g2}
use Rattle.fixed_stages.specs.SafeLaws.{step_safe, scale_safe, single_safe}

-- v at f fractional bits is at most b in magnitude
abbrev pub Within : ℕ → ℕ → ℤ → Type 0
Within b f v = nat_abs v ≤ b * 2 ^ f

-- ---- constants, in eighths

abbrev eighths : Node → ℕ
eighths P1 = 16
eighths U1 = 1
eighths P2 = 8
eighths U2 = 4
eighths G1 = 16
eighths G2 = 8

few : Frac → ℕ → ℕ → Bool
few c m zero = true
few c m (suc k) = leb (8 * nat_abs (nearest c (suc k))) (m * 2 ^ suc k) && few c m k

tested : (n : Node) → T (few (constant_of n) (eighths n) max_constant_bits)
unfolding few nearest
tested P1 = tt
tested U1 = tt
tested P2 = tt
tested U2 = tt
tested G1 = tt
tested G2 = tt

few_at : (c : Frac) (m top F : ℕ) → 1 ≤ F → F ≤ top → T (few c m top) → 8 * nat_abs (nearest c F) ≤ m * 2 ^ F
unfolding few
few_at c m zero F a b h = absurd (omega arith)
few_at c m (suc k) F a b h = go (dec_lt F (suc k)) (λ i. few_at c m k F a i parts.1)
  where
    parts : T (leb (8 * nat_abs (nearest c (suc k))) (m * 2 ^ suc k)) × T (few c m k)
    parts = both (leb (8 * nat_abs (nearest c (suc k))) (m * 2 ^ suc k)) (few c m k) h

    go : Dec (F < suc k) → (F ≤ k → 8 * nat_abs (nearest c F) ≤ m * 2 ^ F) → 8 * nat_abs (nearest c F) ≤ m * 2 ^ F
    go (yes i) before = before (omega arith)
    go (no i) before = subst (λ (j : ℕ). 8 * nat_abs (nearest c j) ≤ m * 2 ^ j) (omega arith) (leb→le _ _ parts.0)

-- ---- one stage

-- a power and the rest of it
split : (f top : ℕ) → f ≤ top → 2 ^ (top - f) * 2 ^ f ≡ 2 ^ top
split f top h = sym (pow-add 2 (top - f) f) ∙ ap (λ (k : ℕ). 2 ^ k) (omega arith)

-- an operand, raised to `top` bits
times_power : (a f top : ℕ) (v : ℤ) → f ≤ top → Within a f v → Within a top (v *ℤ pos (2 ^ (top - f)))
times_power a f top v h k =
    subst (λ (t : ℕ). t ≤ a * 2 ^ top) (sym (abs_mul v (pos (2 ^ (top - f)))))
    (le_trans (mul-le-mul_right (2 ^ (top - f)) k) (subst (λ (t : ℕ). a * 2 ^ f * 2 ^ (top - f) ≤ a * t) (split f top h) (omega arith)))

-- A cut to f bits: whole numbers bound what it makes as they bound what it is given.
cut_within : (full f b : ℕ) (z : ℤ) → Within b full z → Within b f (cut full f z)
unfolding cut
cut_within full f b z h =
    let top : ℕ = max full f in
    let e : f - full ≡ top - full = omega arith in
    let g : full - f ≡ top - f = omega arith in
    let y : ℤ = z *ℤ pos (2 ^ (top - full)) in
    let k : nat_abs y ≤ b * 2 ^ f * 2 ^ (top - f) = subst (λ (t : ℕ). nat_abs y ≤ t) (law b (2 ^ (top - f)) (2 ^ f) (2 ^ top) (split f top (omega arith))) (times_power b full top z (omega arith) h) in
    rw e (rw g (floor_size y (b * 2 ^ f) (2 ^ (top - f)) (pow_pos (top - f)) k))
  where
    law : (q P Q T : ℕ) → P * Q ≡ T → q * T ≡ q * Q * P
    law q P Q T e = ap (λ (t : ℕ). q * t) (sym e) ∙ omega arith

module _ (n : Node) (F fm : ℕ) (const : ConstantBits F) where
  -- the product of the constant and of what is at most s
  product_within : (s r : ℕ) (z : ℤ) → Within s fm z → eighths n * s ≤ 8 * r → Within r (F + fm) (nearest (constant_of n) F *ℤ z)
  product_within s r z k few =
      let K = nat_abs (nearest (constant_of n) F) in
      let c : 8 * K ≤ eighths n * 2 ^ F = few_at (constant_of n) (eighths n) max_constant_bits F const.0 const.1 (tested n) in
      subst (λ (t : ℕ). t ≤ r * 2 ^ (F + fm)) (sym (abs_mul (nearest (constant_of n) F) z)) (law (eighths n) K (nat_abs z) s r (2 ^ F) (2 ^ fm) (2 ^ (F + fm)) c k few (sym (pow-add 2 F fm)))
    where
      eighth : (p r : ℕ) → 8 * p ≤ 8 * r → p ≤ r
      eighth p r h = omega arith

      law : (e K p s r A B T : ℕ) → 8 * K ≤ e * A → p ≤ s * B → e * s ≤ 8 * r → A * B ≡ T → K * p ≤ r * T
      law e K p s r A B T c k few q =
          let i : 8 * K * p ≤ e * A * (s * B) = le_trans (mul-le-mul_right p c) (mul-le-mul_left (e * A) k) in
          subst (λ (t : ℕ). K * p ≤ r * t) q (eighth (K * p) (r * (A * B)) (le_trans (omega arith) (le_trans i (le_trans (omega arith) (le_trans (mul-le-mul_right (A * B) few) (omega arith))))))

  -- What a stage P1, U1, P2, U2 makes of values, whatever the width of its product: neither of its cuts adds to a whole bound.
  pub step_grows : (p : Product) (fo f a b d q : ℕ) (own x y : ℤ) → Within a fo own → Within b fm x → Within d fm y → 8 * a + eighths n * (b + d) ≤ 8 * q → Within q f (step p (constant_of n) F fm fo f own x y)
  unfolding step
  step_grows p fo f a b d q own x y ho hx hy small =
      let bits : ℕ = product_bits p (F + fm) in
      let full : ℕ = max fo bits in
      let K : ℤ = cut_product p (F + fm) (nearest (constant_of n) F *ℤ (x +ℤ y)) in
      let A : ℤ = own *ℤ pos (2 ^ (full - fo)) in
      let B : ℤ = K *ℤ pos (2 ^ (full - bits)) in
      let s : nat_abs (x +ℤ y) ≤ (b + d) * 2 ^ fm = le_trans (abs_add x y) (omega (arith, hx, hy)) in
      let i : nat_abs A ≤ a * 2 ^ full = times_power a fo full own (omega arith) ho in
      let j : nat_abs B ≤ (q - a) * 2 ^ full = times_power (q - a) bits full K (omega arith) (product_cut p (F + fm) (q - a) _ (product_within (b + d) (q - a) (x +ℤ y) s (omega arith))) in
      cut_within full f q (A +ℤ B) (le_trans (abs_add A B) (joined a (q - a) q (2 ^ full) (nat_abs A) (nat_abs B) i j (omega arith)))
    where
      joined : (a r q T u v : ℕ) → u ≤ a * T → v ≤ r * T → a + r ≡ q → u + v ≤ q * T
      joined a r q T u v i j e = subst (λ (k : ℕ). u + v ≤ k * T) e (omega (arith, i, j))

  -- what a stage G1, G2 makes of a value
  pub scale_grows : (f b q : ℕ) (x : ℤ) → Within b fm x → eighths n * b ≤ 8 * q → Within q f (scale (constant_of n) F fm f x)
  unfolding scale
  scale_grows f b q x hx small = cut_within (F + fm) f q _ (product_within b q x hx small)

-- ---- the stages of a pass

-- so many bits more are room enough
sized : (b f : ℕ) (v : ℤ) → b < 1024 → Within b f v → BelowPower10 f v
sized b f v h k = subst (λ (t : ℕ). nat_abs v < t) (sym (pow-add 2 10 f)) (omega (arith, k, mul-le-mul_right {m = suc b} {n = 1024} (2 ^ f) h, pow_pos f))

-- In each node the values of a scan are within its limit, from lines within 16 on.
module _ (F : Node → ℕ) (fp : Node → Product) (fi : ℕ) (f : Node → ℕ) (ok : Limits F fi f) where
  module _ (own x y : ℤ) where
    pub P1-grows : Within 16 fi own → Within 16 fi x → Within 16 fi y → Within 81 (f P1) (step (fp P1) (constant_of P1) (F P1) fi fi (f P1) own x y)
    P1-grows ho hx hy = step_grows P1 (F P1) fi (ok.constants P1) (fp P1) fi (f P1) 16 16 16 81 own x y ho hx hy (omega arith)

    pub U1-grows : Within 16 fi own → Within 81 (f P1) x → Within 81 (f P1) y → Within 38 (f U1) (step (fp U1) (constant_of U1) (F U1) (f P1) fi (f U1) own x y)
    U1-grows ho hx hy = step_grows U1 (F U1) (f P1) (ok.constants U1) (fp U1) fi (f U1) 16 81 81 38 own x y ho hx hy (omega arith)

    pub P2-grows : Within 81 (f P1) own → Within 38 (f U1) x → Within 38 (f U1) y → Within 158 (f P2) (step (fp P2) (constant_of P2) (F P2) (f U1) (f P1) (f P2) own x y)
    P2-grows ho hx hy = step_grows P2 (F P2) (f U1) (ok.constants P2) (fp P2) (f P1) (f P2) 81 38 38 158 own x y ho hx hy (omega arith)

    pub U2-grows : Within 38 (f U1) own → Within 158 (f P2) x → Within 158 (f P2) y → Within 197 (f U2) (step (fp U2) (constant_of U2) (F U2) (f P2) (f U1) (f U2) own x y)
    U2-grows ho hx hy = step_grows U2 (F U2) (f P2) (ok.constants U2) (fp U2) (f U1) (f U2) 38 158 158 197 own x y ho hx hy (omega arith)

    -- so each stage may be taken
    pub P1-safe : Within 16 fi own → Within 16 fi x → Within 16 fi y → Safe (s_p1 F fp fi f) own x y
    P1-safe ho hx hy =
        step_safe P1 (F P1) fi (ok.constants P1) ok.enters (f P1) (ok.fractions P1) fi ok.enters own x y
        (sized 16 fi own (omega arith) ho) (sized 16 fi x (omega arith) hx) (sized 16 fi y (omega arith) hy) (fp P1) (sized 81 (f P1) (step (fp P1) (constant_of P1) (F P1) fi fi (f P1) own x y) (omega arith) (P1-grows ho hx hy))

    pub U1-safe : Within 16 fi own → Within 81 (f P1) x → Within 81 (f P1) y → Safe (s_u1 F fp fi f) own x y
    U1-safe ho hx hy =
        step_safe U1 (F U1) (f P1) (ok.constants U1) (ok.fractions P1) (f U1) (ok.fractions U1) fi ok.enters own x y
        (sized 16 fi own (omega arith) ho) (sized 81 (f P1) x (omega arith) hx) (sized 81 (f P1) y (omega arith) hy) (fp U1) (sized 38 (f U1) (step (fp U1) (constant_of U1) (F U1) (f P1) fi (f U1) own x y) (omega arith) (U1-grows ho hx hy))

    pub P2-safe : Within 81 (f P1) own → Within 38 (f U1) x → Within 38 (f U1) y → Safe (s_p2 F fp fi f) own x y
    P2-safe ho hx hy =
        step_safe P2 (F P2) (f U1) (ok.constants P2) (ok.fractions U1) (f P2) (ok.fractions P2) (f P1) (ok.fractions P1) own x y
        (sized 81 (f P1) own (omega arith) ho) (sized 38 (f U1) x (omega arith) hx) (sized 38 (f U1) y (omega arith) hy) (fp P2) (sized 158 (f P2) (step (fp P2) (constant_of P2) (F P2) (f U1) (f P1) (f P2) own x y) (omega arith) (P2-grows ho hx hy))

    pub U2-safe : Within 38 (f U1) own → Within 158 (f P2) x → Within 158 (f P2) y → Safe (s_u2 F fp fi f) own x y
    U2-safe ho hx hy =
        step_safe U2 (F U2) (f P2) (ok.constants U2) (ok.fractions P2) (f U2) (ok.fractions U2) (f U1) (ok.fractions U1) own x y
        (sized 38 (f U1) own (omega arith) ho) (sized 158 (f P2) x (omega arith) hx) (sized 158 (f P2) y (omega arith) hy) (fp U2) (sized 197 (f U2) (step (fp U2) (constant_of U2) (F U2) (f P2) (f U1) (f U2) own x y) (omega arith) (U2-grows ho hx hy))

  pub G1-safe : (x : ℤ) → Within 197 (f U2) x → FactorSafe (s_g1 F fp fi f) x
  G1-safe x h =
      scale_safe G1 (F G1) (f U2) (ok.constants G1) (ok.fractions U2) (f G1) (ok.fractions G1) x (sized 197 (f U2) x (omega arith) h)
      (sized 394 (f G1) (scale (constant_of G1) (F G1) (f U2) (f G1) x) (omega arith) (scale_grows G1 (F G1) (f U2) (ok.constants G1) (f G1) 197 394 x h (omega arith)))

  pub G2-safe : (x : ℤ) → Within 158 (f P2) x → FactorSafe (s_g2 F fp fi f) x
  G2-safe x h =
      scale_safe G2 (F G2) (f P2) (ok.constants G2) (ok.fractions P2) (f G2) (ok.fractions G2) x (sized 158 (f P2) x (omega arith) h)
      (sized 158 (f G2) (scale (constant_of G2) (F G2) (f P2) (f G2) x) (omega arith) (scale_grows G2 (F G2) (f P2) (ok.constants G2) (f G2) 158 158 x h (omega arith)))

-- a single sample may be cut (document 02, job 6)
pub cut_safe : (F : Node → ℕ) (fi : ℕ) (f : Node → ℕ) → Limits F fi f → (x : ℤ) → Within 16 fi x → FactorSafe (single_of fi (f G1)) x
cut_safe F fi f ok x h = single_safe fi (f G1) ok.enters (ok.fractions G1) x (sized 16 fi x (omega arith) h) (sized 16 (f G1) (cut fi (f G1) x) (omega arith) (cut_within fi (f G1) 16 x h))
