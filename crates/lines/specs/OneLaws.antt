-- Laws of passes from length 1: what holds of a single sample and of a line of two or more holds of both.
use Rattle.std.specs.Prelude.{ℕ, ◌<◌, Bool, true, false, ◌≡◌}
use Rattle.std.proofs.Math.Path.{ap, fun_ext}
use Rattle.std.proofs.Common.{subst}
use Rattle.numbers.specs.Tests.{by_ltb, ltb-true, ltb-false}
use Rattle.lines.specs.Lines.{Liftable}
use Rattle.lines.specs.Planes.{OnLine, from_one}
use Rattle.lines.specs.InverseLaws.{Equivalence, LeftInverse, Inverses}

module _ {A : Type 0} (single : A → A) (long : OnLine A) (n : ℕ) where
  module _ (x : ℕ → A) (k : ℕ) where
    abbrev pick : Bool → A
    pick t = elim t [ true ↦ single (x k) | false ↦ long n x k ]

    pub one_single : n < 2 → from_one single long n x k ≡ single (x k)
    unfolding from_one
    one_single h = ap pick (ltb-true n 2 h)

    pub one_long : Liftable n → from_one single long n x k ≡ long n x k
    unfolding from_one
    one_long works = ap pick (ltb-false n 2 works.least)

  -- the whole line
  pub single_line_lem : n < 2 → from_one single long n ≡ (λ x k. single (x k))
  single_line_lem h = fun_ext (λ x. fun_ext (λ k. one_single x k h))

  pub long_line_lem : Liftable n → from_one single long n ≡ long n
  long_line_lem works = fun_ext (λ x. fun_ext (λ k. one_long x k works))

-- a line of one sample, or of two or more
pub by_one : (P : Type 0) (n : ℕ) → (n < 2 → P) → (Liftable n → P) → P
by_one P n one more = by_ltb (λ t. P) n 2 one (λ h. more (record { least = h }))

-- A pass over two samples or more, and what inverts it; where each lets a single sample through as it is, the same holds from length 1.
module _ {A : Type 0} {R : A → A → Type 0} (e : Equivalence R) where
  is : {x y : A} → x ≡ y → R x y
  is {x} q = subst (λ (z : A). R x z) q (e.reflexive x)

  abbrev through : OnLine A → OnLine A
  through = from_one (λ a. a)

  module _ (pass : OnLine A) where
    -- it reads its own values only
    abbrev pub Reads : Type 0
    Reads = (n : ℕ) → Liftable n → (x y : ℕ → A) → ((k : ℕ) → k < n → R (x k) (y k)) → (k : ℕ) → k < n → R (pass n x k) (pass n y k)

    -- it is inverted
    abbrev pub LeftInverseLong : OnLine A → Type 0
    LeftInverseLong inverse = (n : ℕ) → Liftable n → (x : ℕ → A) (k : ℕ) → k < n → R (inverse n (pass n x) k) (x k)

  one_left_inverse : (pass inverse : OnLine A) → Reads pass → Reads inverse → LeftInverseLong pass inverse → LeftInverse R (through pass) (through inverse)
  one_left_inverse pass inverse reads inverse-reads left_inverse_lem = record {
    reads = λ n x y same k i. by_one (R (through pass n x k) (through pass n y k)) n
        (λ j. e.transitive (is (one_single (λ a. a) pass n x k j)) (e.transitive (same k i) (e.symmetric (is (one_single (λ a. a) pass n y k j)))))
        (λ j. e.transitive (is (one_long (λ a. a) pass n x k j)) (e.transitive (reads n j x y same k i) (e.symmetric (is (one_long (λ a. a) pass n y k j)))));
    left_inverse_lem = λ n x k i. by_one (R (through inverse n (through pass n x) k) (x k)) n
        (λ j. e.transitive (is (one_single (λ a. a) inverse n (through pass n x) k j)) (is (one_single (λ a. a) pass n x k j)))
        (λ j. e.transitive (is (one_long (λ a. a) inverse n (through pass n x) k j)) (e.transitive (inverse-reads n j (through pass n x) (pass n x) (λ m q. is (one_long (λ a. a) pass n x m j)) k i) (left_inverse_lem n j x k i)));
  }

  pub one_inverses : (pass inverse : OnLine A) → Reads pass → Reads inverse → LeftInverseLong pass inverse → LeftInverseLong inverse pass → Inverses R (through pass) (through inverse)
  one_inverses pass inverse reads inverse-reads left_inverse right_inverse = record { there = one_left_inverse pass inverse reads inverse-reads left_inverse; back = one_left_inverse inverse pass inverse-reads reads right_inverse }
