-- A stage inverted, as it is worked with 64-bit numbers: the cut product of a constant is added to the own value.
use Rattle.std.specs.Prelude.{◌≡◌, refl, List, [], ◌∷◌, ℕ, ◌+◌, ◌*◌, ◌^◌, ◌-◌, ◌<◌, ◌≤◌, ℤ, pos, neg_ℤ, nat_abs, ◌+ℤ◌, ◌-ℤ◌, ◌*ℤ◌}
use Rattle.std.proofs.Common.{sym, ap, subst, ◌∙◌, lt_of_le_of_lt, arith, lit<, to_z-of_z}
use Rattle.std.proofs.Math.Path.{fun_ext}
use Rattle.std.specs.Int.{w64}
use Rattle.std.specs.Int.Signed.{mag}
use mir.Val.{SFits, hbits}
use Rattle.numbers.specs.Floor.{floor_div, floor_add_mul}
use Rattle.numbers.specs.Laws.{twice_times}
use Rattle.numbers.specs.Quote.{terms, vars, ring}
use Rattle.exact.specs.Fractions.{Frac}
use Rattle.exact.specs.Exact.{alpha, beta, gamma, delta, zeta, zeta_inverse}
use Rattle.numbers.specs.Abs.{mag_of_abs}
use Rattle.slices.specs.Runs.{as_type}
use Rattle.slices.specs.SignedRuns.{back, got}
use Rattle.stages.specs.Fixed.{nearest, cut, scale}
use Rattle.inverse_lifting.specs.Fixed.{node_bits, inverse_bits, inverse_step, limit}
use Rattle.inverse_lifting.specs.Cases.{inverse_step_end}

-- a value and its neighbours are in the limit
pub record Inside (own x y : ℤ) : Type 0 where
  pub middle : nat_abs own ≤ limit
  pub left : nat_abs x ≤ limit
  pub right : nat_abs y ≤ limit

-- a constant of at most 2 in magnitude
abbrev pub Constant : ℤ → Type 0
Constant c = nat_abs c ≤ 2 * 2 ^ inverse_bits

-- own + ⌊(0 - c) (x + y) / 2^24⌋
abbrev pub moved_by : ℤ → ℤ → ℤ → ℤ → ℤ
moved_by c own x y = own +ℤ floor_div ((pos 0 -ℤ c) *ℤ (x +ℤ y)) (2 ^ inverse_bits)

-- at an end, where both neighbours are one: own + ⌊(0 - 2 c) x / 2^24⌋
abbrev pub ended_by : ℤ → ℤ → ℤ → ℤ
ended_by c own x = own +ℤ floor_div ((pos 0 -ℤ pos 2 *ℤ c) *ℤ x) (2 ^ inverse_bits)

-- ⌊c x / 2^b⌋
abbrev pub scaled_by : ℤ → ℕ → ℤ → ℤ
scaled_by c b x = floor_div (c *ℤ x) (2 ^ b)

-- the same of a constant that was read back from its bits
pub constant_back : {c : ℤ} → SFits w64 c → Constant c → Constant (back w64 c)
constant_back fits h = subst Constant (sym (to_z-of_z fits)) h

-- numbers in the limit, read back from their bits
pub limit_fits : {z : ℤ} → nat_abs z ≤ limit → SFits w64 z
limit_fits {z} h = record { sfits = mag_of_abs z (lt_of_le_of_lt h (lit< tt)) }

pub read : (z : ℤ) → nat_abs z ≤ limit → back w64 z ≡ z
read z h = to_z-of_z (limit_fits h)

pub size_read : (z : ℤ) → nat_abs z ≤ limit → nat_abs (back w64 z) ≤ limit
size_read z h = subst (λ (v : ℤ). nat_abs v ≤ limit) (sym (read z h)) h

-- a result read back
pub again : (r : ℤ) → mag r < 2 ^ hbits w64 → back w64 r ≡ r
again r ok = got w64 ok refl

pub inside_read : {own x y : ℤ} → Inside own x y → Inside (back w64 own) (back w64 x) (back w64 y)
inside_read {own} {x} {y} h = as_type (λ u. Inside (sym (read own h.middle) u) (sym (read x h.left) u) (sym (read y h.right) u)) h

-- what a step gives of them, between two neighbours and at an end
pub step_read : {own x y r : ℤ} {f g : ℤ → ℤ → ℤ → ℤ} → f ≡ g → Inside own x y → r ≡ f (back w64 own) (back w64 x) (back w64 y) → r ≡ g own x y
step_read {own} {x} {y} same h e = e ∙ (λ u. same u (read own h.middle u) (read x h.left u) (read y h.right u))

pub end_read : {own x r : ℤ} {f g : ℤ → ℤ → ℤ} → f ≡ g → Inside own x x → r ≡ f (back w64 own) (back w64 x) → r ≡ g own x
end_read {own} {x} same h e = e ∙ (λ u. same u (read own h.middle u) (read x h.left u))

-- what `moved` and `moved_end` give
pub moved_got : {c own x y r : ℤ} → SFits w64 c → Inside own x y → mag r < 2 ^ hbits w64 → r ≡ moved_by (back w64 c) (back w64 own) (back w64 x) (back w64 y) → back w64 r ≡ moved_by c own x y
moved_got fits h ok e = got w64 ok (step_read (λ u. moved_by (to_z-of_z fits u)) h e)

pub ended_got : {c own x r : ℤ} → SFits w64 c → Inside own x x → mag r < 2 ^ hbits w64 → r ≡ ended_by (back w64 c) (back w64 own) (back w64 x) → back w64 r ≡ ended_by c own x
ended_got fits h ok e = got w64 ok (end_read (λ u. ended_by (to_z-of_z fits u)) h e)

-- the bits that a scaling of a value of f bits cuts
abbrev pub cut_bits : ℕ → ℕ
cut_bits f = inverse_bits - node_bits + f

sum_law : (own k s m : ℤ) → (own *ℤ m -ℤ k *ℤ s) *ℤ pos 1 ≡ (pos 0 -ℤ k) *ℤ s +ℤ m *ℤ own
sum_law own k s m = let ρ : List ℤ = own ∷ k ∷ s ∷ m ∷ [] in ring ρ (search (terms, vars ρ) depth 30) (search (terms, vars ρ) depth 30) tt

flip : (a b : ℤ) → a +ℤ b ≡ b +ℤ a
flip a b = let ρ : List ℤ = a ∷ b ∷ [] in ring ρ (search (terms, vars ρ) depth 30) (search (terms, vars ρ) depth 30) tt

pub once : (z : ℤ) → z *ℤ pos 1 ≡ z
once z = let ρ : List ℤ = z ∷ [] in ring ρ (search (terms, vars ρ) depth 30) (search (terms, vars ρ) depth 30) tt

-- own less a product, which has 24 bits more, cut once
abbrev less : ℤ → ℤ → ℤ
less own z = cut (inverse_bits + node_bits) node_bits (own *ℤ pos (2 ^ inverse_bits) -ℤ z)

-- own times 2^24 is a multiple of 2^24, so the cut leaves own as it is
less_is : (own k s : ℤ) → own +ℤ floor_div ((pos 0 -ℤ k) *ℤ s) (2 ^ inverse_bits) ≡ less own (k *ℤ s)
unfolding cut
less_is own k s =
    flip own _ ∙ sym (ap (λ (z : ℤ). floor_div z (2 ^ inverse_bits)) (sum_law own k s (pos (2 ^ inverse_bits))) ∙ floor_add_mul ((pos 0 -ℤ k) *ℤ s) own (2 ^ inverse_bits) (lit< tt))

moved_is : (f : Frac) (c : ℤ) → c ≡ nearest f inverse_bits → moved_by c ≡ inverse_step f
unfolding inverse_step
moved_is f c e = fun_ext λ own. fun_ext λ x. fun_ext λ y. less_is own c (x +ℤ y) ∙ ap (λ (k : ℤ). less own (k *ℤ (x +ℤ y))) e

ended_is : (f : Frac) (c : ℤ) → c ≡ nearest f inverse_bits → ended_by c ≡ inverse_step_end f
unfolding inverse_step_end
ended_is f c e = fun_ext λ own. fun_ext λ x. less_is own (pos 2 *ℤ c) x ∙ ap (λ (k : ℤ). less own (pos 2 *ℤ k *ℤ x)) e

-- a stage inverted at an end is the stage inverted with the one neighbour on both sides
pub inverse_step_end_lem : (c : Frac) (own x : ℤ) → inverse_step_end c own x ≡ inverse_step c own x x
unfolding inverse_step inverse_step_end
inverse_step_end_lem c own x = ap (less own) (twice_times (nearest c inverse_bits) x)

scaled_is : (g : Frac) (c : ℤ) (f : ℕ) → c ≡ nearest g inverse_bits → scaled_by c (cut_bits f) ≡ scale g inverse_bits f node_bits
unfolding scale cut
scaled_is g c f e = fun_ext λ x.
    let a : node_bits - (inverse_bits + f) ≡ 0 = omega arith in
    let b : inverse_bits + f - node_bits ≡ cut_bits f = omega arith in
    sym ((λ u. floor_div (nearest g inverse_bits *ℤ x *ℤ pos (2 ^ a u)) (2 ^ b u)) ∙ ap (λ (z : ℤ). floor_div z (2 ^ cut_bits f)) (once (nearest g inverse_bits *ℤ x)) ∙ ap (λ (k : ℤ). floor_div (k *ℤ x) (2 ^ cut_bits f)) (sym e))

-- ---- the constants at 24 bits

abbrev pub at_alpha : ℤ
at_alpha = neg_ℤ (pos 26610918)

abbrev pub at_beta : ℤ
at_beta = neg_ℤ (pos 888859)

abbrev pub at_gamma : ℤ
at_gamma = pos 14812790

abbrev pub at_delta : ℤ
at_delta = pos 7440810

abbrev pub at_zeta : ℤ
at_zeta = pos 19287161

abbrev pub at_inverse : ℤ
at_inverse = pos 14593904

pub moved_alpha : moved_by at_alpha ≡ inverse_step alpha
unfolding nearest
moved_alpha = moved_is alpha _ refl

pub ended_alpha : ended_by at_alpha ≡ inverse_step_end alpha
unfolding nearest
ended_alpha = ended_is alpha _ refl

pub moved_beta : moved_by at_beta ≡ inverse_step beta
unfolding nearest
moved_beta = moved_is beta _ refl

pub ended_beta : ended_by at_beta ≡ inverse_step_end beta
unfolding nearest
ended_beta = ended_is beta _ refl

pub moved_gamma : moved_by at_gamma ≡ inverse_step gamma
unfolding nearest
moved_gamma = moved_is gamma _ refl

pub ended_gamma : ended_by at_gamma ≡ inverse_step_end gamma
unfolding nearest
ended_gamma = ended_is gamma _ refl

pub moved_delta : moved_by at_delta ≡ inverse_step delta
unfolding nearest
moved_delta = moved_is delta _ refl

pub ended_delta : ended_by at_delta ≡ inverse_step_end delta
unfolding nearest
ended_delta = ended_is delta _ refl

pub scaled_zeta : (f : ℕ) → scaled_by at_zeta (cut_bits f) ≡ scale zeta inverse_bits f node_bits
unfolding nearest
scaled_zeta f = scaled_is zeta _ f refl

pub scaled_inverse : (f : ℕ) → scaled_by at_inverse (cut_bits f) ≡ scale zeta_inverse inverse_bits f node_bits
unfolding nearest
scaled_inverse f = scaled_is zeta_inverse _ f refl
