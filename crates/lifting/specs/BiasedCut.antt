-- Steps whose product is cut by itself, by unsigned numbers: product and own value are biased, the product is shifted to the right and back to
-- the left, and the sum is shifted and unbiased again.
use Rattle.std.specs.Prelude.{◌≡◌, refl, Bool, List, [], ◌∷◌, ℕ, ◌+◌, ◌-◌, ◌*◌, ◌/◌, ◌^◌, ◌<◌, ◌≤◌, ℤ, pos, ◌+ℤ◌, ◌-ℤ◌, ◌*ℤ◌}
use Rattle.std.proofs.Common.{sym, ap, subst, ◌∙◌, arith, add-mul, mul_comm, mul_assoc, mul_right_comm, mul-le-mul_left, div-mul-le_self, le_trans, pow_mono, pow_pos, pow-add, SFits}
use Rattle.std.specs.Int.Signed.{shr_z}
use Rattle.std.specs.Int.{w32, w64}
use Rattle.numbers.specs.Laws.{twice_times}
use Rattle.numbers.specs.Quote.{terms, vars, ring}
use Rattle.lifting.specs.declared.Step.TheVariants.{Cut, BiasedCut}
use Rattle.lifting.specs.Steps.{signed, signed_sum, product, cut_first, SumSafe, CutSafe, BiasedCutSafe, SameStep}
use Rattle.slices.specs.Biased.{biased, biased_is, biased_small}
use Rattle.lifting.specs.Bias.{unbiased, padded_is, signed_product, signed_sum_fits, fused_most}

-- ---- the sum of such a step

-- ⌊(2 ^ k own + 2 ^ up part) / 2 ^ cut⌋
abbrev pub joined : ℕ → ℕ → ℕ → ℤ → ℤ → ℤ
joined k up cut own part = shr_z (pos (2 ^ k) *ℤ own +ℤ pos (2 ^ up) *ℤ part) (2 ^ cut)

pub record JoinSafe (k up cut : ℕ) (own part : ℤ) : Type 0 where
  pub few : k ≤ 62
  pub rises : up ≤ 62
  pub short : cut < 64
  pub left : SFits w64 (pos (2 ^ k) *ℤ own)
  pub right : SFits w64 (pos (2 ^ up) *ℤ part)
  pub both : SFits w64 (pos (2 ^ k) *ℤ own +ℤ pos (2 ^ up) *ℤ part)
  pub result : SFits w32 (joined k up cut own part)

pub cut_joins : {k : ℕ} {c : ℤ} {first up cut : ℕ} {own x y : ℤ} → CutSafe k c first up cut own x y → JoinSafe k up cut own (product c first x y)
cut_joins h = record { few = h.few; rises = h.rises; short = h.short; left = h.left; right = h.right; both = h.both; result = h.result }

-- both neighbours are x
pub end_joins : (k : ℕ) (c : ℤ) (first up cut : ℕ) (own x : ℤ) → CutSafe k c first up cut own x x → JoinSafe k up cut own (shr_z (pos 2 *ℤ c *ℤ x) (2 ^ first))
end_joins k c first up cut own x h = subst (λ (z : ℤ). JoinSafe k up cut own (shr_z z (2 ^ first))) (sym (twice_times c x)) (cut_joins h)

-- ---- the biased form

cut_sum : (m o u q d h : ℤ) → m *ℤ o +ℤ u *ℤ (q -ℤ d) +ℤ (m *ℤ h +ℤ d *ℤ u) ≡ m *ℤ (o +ℤ h) +ℤ q *ℤ u
cut_sum m o u q d h = let ρ : List ℤ = m ∷ o ∷ u ∷ q ∷ d ∷ h ∷ [] in ring ρ (search (terms, vars ρ) depth 30) (search (terms, vars ρ) depth 30) tt

-- a product that is too large by mid
joined_biased : (m u q mid base cut : ℕ) → m * 2147483648 + mid * u ≡ base * 2 ^ cut → (own : ℤ) → SFits w32 own
    → shr_z (pos m *ℤ own +ℤ pos u *ℤ (pos q -ℤ pos mid)) (2 ^ cut) ≡ pos ((m * biased own + q * u) / 2 ^ cut) -ℤ pos base
joined_biased m u q mid base cut even own fo =
    let z : ℤ = pos m *ℤ own +ℤ pos u *ℤ (pos q -ℤ pos mid) in
    unbiased z _ base (2 ^ cut) (pow_pos cut)
    (ap (λ (n : ℕ). z +ℤ pos n) (mul_comm (2 ^ cut) base ∙ sym even) ∙ cut_sum (pos m) own (pos u) (pos q) (pos mid) (pos 2147483648)
    ∙ ap (λ (w : ℤ). pos m *ℤ w +ℤ pos q *ℤ pos u) (biased_is own fo))

pub biased_cut_is : (down : Bool) (k c offset first up base cut mid : ℕ) → c * 2147483648 + offset ≡ mid * 2 ^ first → 2 ^ k * 2147483648 + mid * 2 ^ up ≡ base * 2 ^ cut
    → (own x y : ℤ) → SFits w32 own → SumSafe x y
    → cut_first k (signed down c) first up cut own x y ≡ pos ((2 ^ k * biased own + (c * biased (signed_sum down x y) + offset) / 2 ^ first * 2 ^ up) / 2 ^ cut) -ℤ pos base
biased_cut_is down k c offset first up base cut mid tied even own x y fo safe =
    ap (joined k up cut own) (ap (λ (z : ℤ). shr_z z (2 ^ first)) (signed_product down c x y) ∙ padded_is c offset mid first tied (signed_sum down x y) (signed_sum_fits down x y safe))
    ∙ joined_biased (2 ^ k) (2 ^ up) ((c * biased (signed_sum down x y) + offset) / 2 ^ first) mid base cut even own fo

-- ---- sizes

-- a number shifted to the right and no further back
pub realigned_small : (t first up : ℕ) → up ≤ first → t / 2 ^ first * 2 ^ up ≤ t
realigned_small t first up h = le_trans (mul-le-mul_left (t / 2 ^ first) (pow_mono h)) (div-mul-le_self t (2 ^ first))

-- the own value's part and the product's
pub whole_small : (m o t p : ℕ) → m ≤ 1073741824 → o < 4294967296 → t ≤ p → p ≤ 1441151880758558720 → m * o + t < 9223372036854775808
whole_small m o t p h l e f = omega (arith, mul-le-mul_left {m = o} {n = 4294967295} m (omega arith))

module _ {down : Bool} {k c offset first up base cut : ℕ} {own x y : ℤ} (h : BiasedCutSafe down k c offset first up base cut own x y) where
  pub product_small : c * biased (signed_sum down x y) + offset ≤ 1441151880758558720
  product_small = omega (arith, fused_most c (biased (signed_sum down x y)) offset (biased_small (signed_sum down x y) (signed_sum_fits down x y h.signedly.sides)), h.room, h.more)

  pub cut_base_small : base < 9223372036854775808
  cut_base_small =
      let own : 2 ^ k ≤ 1073741824 = pow_mono {i = k} {j = 30} h.few in
      let part : h.mid * 2 ^ up ≤ h.mid * 2 ^ first = mul-le-mul_left h.mid (pow_mono h.rises) in
      let one : base * 1 ≤ base * 2 ^ cut = mul-le-mul_left {m = 1} {n = 2 ^ cut} base (pow_pos cut) in
      omega (arith, h.room, h.more, h.tied, h.even)

-- ---- the same step

pub biased_cut_same : (down : Bool) (k c offset first up base cut mid : ℕ) → k ≤ 30 → c < 268435456 → offset ≤ 288230376151711744 → first ≤ 58 → up ≤ first → c * 2147483648 + offset ≡ mid * 2 ^ first
    → 2 ^ k * 2147483648 + mid * 2 ^ up ≡ base * 2 ^ cut → SameStep (Cut k (signed down c) first up cut) (BiasedCut down k c offset first up base cut)
biased_cut_same down k c offset first up base cut mid few room more early rises tied even = record {
  same = λ own x y. refl;
  safe = λ own x y s. record { few = few; room = room; more = more; early = early; rises = rises; mid = mid; tied = tied; even = even; signedly = s };
}

-- m times p, p being 2 ^ (first + cut), and what it is more than the total by
pub record CutPadded (total m p first up cut : ℕ) : Type 0 where
  pub enough : total ≤ m * p
  pub little : m * p - total ≤ 288230376151711744
  pub tied : total + (m * p - total) ≡ m * 2 ^ cut * 2 ^ first
  pub most : m * 2 ^ up ≤ total + 288230376151711744

pub cut_padded : (total m p first up cut : ℕ) → up ≤ first → first + cut ≤ 58 → p ≡ 2 ^ (first + cut) → (total ≤ m * 2 ^ (first + cut)) × (m * 2 ^ (first + cut) ≤ total + 2 ^ (first + cut)) → CutPadded total m p first up cut
cut_padded total m p first up cut rises few e h =
    let l : 2 ^ (first + cut) ≤ 288230376151711744 = pow_mono {i = first + cut} {j = 58} few in
    let f : m * p ≡ m * 2 ^ (first + cut) = ap (λ (n : ℕ). m * n) e in
    let g : m * 2 ^ (first + cut) ≡ m * 2 ^ cut * 2 ^ first = ap (λ (n : ℕ). m * n) (pow-add 2 first cut ∙ mul_comm (2 ^ first) (2 ^ cut)) ∙ sym (mul_assoc m (2 ^ cut) (2 ^ first)) in
    let u : m * 2 ^ up ≤ m * 2 ^ (first + cut) = mul-le-mul_left m (pow_mono {i = up} {j = first + cut} (omega arith)) in
    let a = h.0 in
    let b = h.1 in
    record { enough = omega arith; little = omega arith; tied = omega arith; most = omega arith }

-- what the whole is too large by
pub cut_even : (k m up cut : ℕ) → cut ≤ 31 + k → 2 ^ k * 2147483648 + m * 2 ^ cut * 2 ^ up ≡ (2 ^ (31 + k - cut) + m * 2 ^ up) * 2 ^ cut
cut_even k m up cut h =
    let own : 2 ^ k * 2147483648 ≡ 2 ^ (31 + k - cut) * 2 ^ cut = sym (pow-add 2 k 31) ∙ ap (λ (n : ℕ). 2 ^ n) (let e : k + 31 ≡ 31 + k - cut + cut = omega arith in e) ∙ pow-add 2 (31 + k - cut) cut in
    (λ u. own u + mul_right_comm m (2 ^ cut) (2 ^ up) u) ∙ sym (add-mul (2 ^ (31 + k - cut)) (m * 2 ^ up) (2 ^ cut))
