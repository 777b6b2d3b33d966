-- Computed tests: `between`, `every`; and laws of tests.
use Rattle.std.specs.Prelude.{ℕ, ◌<◌, ◌≤◌, Bool, true, false, ◌&&◌, not, List, [], ◌∷◌, ◌≡◌, refl, leb, T, ltb, eqb}
use Rattle.std.proofs.Common.{sym, ◌∙◌, ap, subst, leb→le, le→leb, ltb→lt, nltb→le, lt→ltb, eqb→eq}
use Rattle.std.proofs.Math.Dec.{nleb→lt, eqb_refl}
use Rattle.std.proofs.Math.Arith.{le→nltb}
use Rattle.std.proofs.lemmas.Bool.{lt-leb}

-- least ≤ n ≤ most
abbrev pub between : ℕ → ℕ → ℕ → Bool
between least most n = leb least n && leb n most

-- the test holds of every element
unfoldable pub every : {A : Type 0} → (A → Bool) → List A → Bool
every test [] = true
every test (x ∷ xs) = test x && every test xs

-- ---- laws

pub both : (a b : Bool) → T (a && b) → T a × T b
both true b h = (tt, h)
both false b h = absurd h

pub three : (a b c : Bool) → T (a && b && c) → T a × T b × T c
three a b c h =
    let (i, s) = both (a && b) c h in
    let (j, r) = both a b i in
    (j, r, s)

pub four : (a b c d : Bool) → T (a && b && c && d) → T a × T b × T c × T d
four a b c d h =
    let (i, s) = both (a && b && c) d h in
    let (j, r) = both (a && b) c i in
    let (k, q) = both a b j in
    (k, q, r, s)

pub is_true : (t : Bool) → T t → t ≡ true
is_true true h = refl
is_true false h = absurd h

is_false : (t : Bool) → T (not t) → t ≡ false
is_false true h = absurd h
is_false false h = refl

pub ltb-true : (a b : ℕ) → a < b → ltb a b ≡ true
ltb-true a b h = is_true (ltb a b) (lt→ltb a b h)

pub ltb-false : (a b : ℕ) → b ≤ a → ltb a b ≡ false
ltb-false a b h = is_false (ltb a b) (le→nltb a b h)

and_false : (t : Bool) → t && false ≡ false
and_false true = refl
and_false false = refl

pub left_false : (a b : Bool) → a ≡ false → a && b ≡ false
left_false a b e = ap (λ (t : Bool). t && b) e

pub right_false : (a b : Bool) → b ≡ false → a && b ≡ false
right_false a b e = ap (λ (t : Bool). a && t) e ∙ and_false a

pub and_true : (a b c d : ℕ) → a < b → c < d → ltb a b && ltb c d ≡ true
and_true a b c d h k = ap (λ (t : Bool). t && ltb c d) (ltb-true a b h) ∙ ltb-true c d k

pub and_false_l : (a b c d : ℕ) → b ≤ a → ltb a b && ltb c d ≡ false
and_false_l a b c d h = ap (λ (t : Bool). t && ltb c d) (ltb-false a b h)

pub and_false_r : (a b c d : ℕ) → d ≤ c → ltb a b && ltb c d ≡ false
and_false_r a b c d h = ap (λ (t : Bool). ltb a b && t) (ltb-false c d h) ∙ and_false (ltb a b)

-- what holds of a test by whether it passes
pub by_ltb : (P : Bool → Type 0) (a b : ℕ) → (a < b → P true) → (b ≤ a → P false) → P (ltb a b)
by_ltb P a b yes' no' = go (ltb a b) (ltb→lt a b) (nltb→le a b)
  where
    go : (t : Bool) → (T t → a < b) → (T (not t) → b ≤ a) → P t
    go true h k = yes' (h tt)
    go false h k = no' (k tt)

pub by_leb : (P : Bool → Type 0) (a b : ℕ) → (a ≤ b → P true) → (b < a → P false) → P (leb a b)
by_leb P a b yes' no' = go (leb a b) (leb→le a b) (nleb→lt a b)
  where
    go : (t : Bool) → (T t → a ≤ b) → (T (not t) → b < a) → P t
    go true h k = yes' (h tt)
    go false h k = no' (k tt)

pub by_eqb : (P : Bool → Type 0) (a b : ℕ) → (a ≡ b → P true) → ((a ≡ b → ⊥) → P false) → P (eqb a b)
by_eqb P a b yes' no' = go (eqb a b) (eqb→eq a b) (λ e. subst (λ (k : ℕ). T (eqb a k)) e (eqb_refl a))
  where
    go : (t : Bool) → (T t → a ≡ b) → (a ≡ b → T t) → P t
    go true h k = yes' (h tt)
    go false h k = no' k

pub and_intro : (a b : Bool) → T a → T b → T (a && b)
and_intro true b h k = k
and_intro false b h k = absurd h

pub between_≤ : (a b x : ℕ) → T (between a b x) → (a ≤ x) × (x ≤ b)
between_≤ a b x h =
    let (i, j) = both (leb a x) (leb x b) h in
    (leb→le a x i, leb→le x b j)

pub to_between : (a b x : ℕ) → a ≤ x → x ≤ b → T (between a b x)
to_between a b x h k = and_intro (leb a x) (leb x b) (le→leb a x h) (le→leb x b k)

pub in_limits : (a b x : ℕ) → between a b x ≡ true → (a ≤ x) × (x ≤ b)
in_limits a b x e = between_≤ a b x (subst T (sym e) tt)

pub is_between : (a b x : ℕ) → a ≤ x → x ≤ b → between a b x ≡ true
is_between a b x h k = is_true (between a b x) (to_between a b x h k)

pub below_least : (a b x : ℕ) → x < a → between a b x ≡ false
below_least a b x h = left_false (leb a x) (leb x b) (lt-leb a x h)

pub above_most : (a b x : ℕ) → b < x → between a b x ≡ false
above_most a b x h = right_false (leb a x) (leb x b) (lt-leb x b h)
