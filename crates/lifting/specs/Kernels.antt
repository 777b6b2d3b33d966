-- A kernel over a line, over the rows of a part of a plane, and over its columns.
use Rattle.std.specs.Prelude.{◌≡◌, refl, Bool, true, false, T, ℕ, ◌+◌, ◌<◌, ℤ}
use Rattle.std.proofs.Common.{sym}
use Rattle.std.proofs.Math.Path.{fun_ext}
use Rattle.lines.specs.Lines.{lows, highs, on_highs, on_lows, lows_first, interleaved}
use Rattle.slices.specs.PatchLines.{line_at, patch_lines}
use Rattle.slices.specs.Parts.{row_of, columns_by}
use Rattle.lifting.specs.declared.Step.{Step}
use Rattle.lifting.specs.declared.Factor.{Factor}
use Rattle.lifting.specs.declared.Pair.{Pair}
use Rattle.lifting.specs.declared.TwoPairs.{TwoPairs}
use Rattle.lifting.specs.declared.Kernel.{Kernel}
use Rattle.lifting.specs.declared.Kernel.TheVariants.{One, Two, Inverse}
use Rattle.lifting.specs.Steps.{applied, Safe, SameStep, scaled_by, FactorSafe, SameFactor}
use Rattle.slices.specs.Runs.{as_type}
use Rattle.lifting.specs.Passes.{evens, odds, lifted_highs, lifted_lows, SafePair}

-- ---- two pairs of steps

module _ (first second : Pair) (n : ℕ) (x : ℕ → ℤ) where
  abbrev pub first_highs : ℕ → ℤ
  first_highs = lifted_highs first n (evens x) (odds x)

  abbrev pub first_lows : ℕ → ℤ
  first_lows = lifted_lows first n (evens x) (odds x)

  abbrev pub second_highs : ℕ → ℤ
  second_highs = lifted_highs second n first_lows first_highs

  abbrev pub second_lows : ℕ → ℤ
  second_lows = lifted_lows second n first_lows first_highs

-- ---- a pair of steps inverted: the lows, then the highs, then each to its place

module _ (pair : Pair) (n : ℕ) (y : ℕ → ℤ) where
  abbrev pub lows_inverted : ℕ → ℤ
  lows_inverted = on_lows (applied pair.lows) n y (λ i. y (lows n + i))

  abbrev pub highs_inverted : ℕ → ℤ
  highs_inverted = on_highs (applied pair.highs) n lows_inverted (λ i. y (lows n + i))

-- what a kernel makes of a line of n values
unfoldable pub worked : Kernel → ℕ → (ℕ → ℤ) → ℕ → ℤ
worked (One pair) n x = lows_first n (lifted_lows pair n (evens x) (odds x)) (lifted_highs pair n (evens x) (odds x))
worked (Two by) n x = lows_first n (λ i. scaled_by by.low (second_lows by.first by.second n x i)) (λ i. scaled_by by.high (second_highs by.first by.second n x i))
worked (Inverse pair) n x = interleaved (lows_inverted pair n x) (highs_inverted pair n x)

-- a kernel that is worked forward
abbrev pub forwards : Kernel → Bool
forwards (One pair) = true
forwards (Two by) = true
forwards (Inverse pair) = false

abbrev pub Forward : Kernel → Type 0
Forward k = T (forwards k)

-- ---- every number on the way fits

pub record SafeTwo (by : TwoPairs) (n : ℕ) (x : ℕ → ℤ) : Type 0 where
  pub at_first : SafePair by.first n (evens x) (odds x)
  pub at_second : SafePair by.second n (first_lows by.first by.second n x) (first_highs by.first by.second n x)
  pub at_lows : (i : ℕ) → i < lows n → FactorSafe by.low (second_lows by.first by.second n x i)
  pub at_highs : (i : ℕ) → i < highs n → FactorSafe by.high (second_highs by.first by.second n x i)

pub record SafeInverse (pair : Pair) (n : ℕ) (y : ℕ → ℤ) : Type 0 where
  pub on_lows_lem : (i : ℕ) → i < lows n → on_lows (Safe pair.lows) n y (λ i. y (lows n + i)) i
  pub on_highs_lem : (i : ℕ) → i < highs n → on_highs (Safe pair.highs) n (lows_inverted pair n y) (λ i. y (lows n + i)) i

abbrev pub SafeKernel : Kernel → ℕ → (ℕ → ℤ) → Type 0
SafeKernel (One pair) n x = SafePair pair n (evens x) (odds x)
SafeKernel (Two by) n x = SafeTwo by n x
SafeKernel (Inverse pair) n x = SafeInverse pair n x

-- r does what k does, wherever k may be used
pub record SameKernel (k r : Kernel) : Type 0 where
  pub same : worked r ≡ worked k
  pub way : Forward k → Forward r
  pub safe : (n : ℕ) (x : ℕ → ℤ) → SafeKernel k n x → SafeKernel r n x

-- the steps of r do what those of p do
pub record SamePair (p r : Pair) : Type 0 where
  pub on_highs_lem : SameStep p.highs r.highs
  pub on_lows_lem : SameStep p.lows r.lows

same_applied : {s r : Step} → SameStep s r → applied r ≡ applied s
same_applied e = fun_ext λ own. fun_ext λ x. fun_ext λ y. e.same own x y

same_scaled : {g r : Factor} → SameFactor g r → scaled_by r ≡ scaled_by g
same_scaled e = fun_ext λ x. e.same x

module _ {p r : Pair} (e : SamePair p r) (n : ℕ) {l l' h h' : ℕ → ℤ} (el : l' ≡ l) (eh : h' ≡ h) where
  same_highs : lifted_highs r n l' h' ≡ lifted_highs p n l h
  same_highs = λ u. on_highs (same_applied e.on_highs_lem u) n (el u) (eh u)

  same_lows : lifted_lows r n l' h' ≡ lifted_lows p n l h
  same_lows = λ u. on_lows (same_applied e.on_lows_lem u) n (el u) (same_highs u)

  same_safe : SafePair p n l h → SafePair r n l' h'
  unfolding on_highs on_lows
  same_safe safe = record {
    on_highs_lem = λ i q. e.on_highs_lem.safe _ _ _ (as_type (λ u. on_highs (Safe p.highs) n (sym el u) (sym eh u) i) (safe.on_highs_lem i q));
    on_lows_lem = λ i q. e.on_lows_lem.safe _ _ _ (as_type (λ u. on_lows (Safe p.lows) n (sym el u) (sym same_highs u) i) (safe.on_lows_lem i q));
  }

pub same_two : {p r : TwoPairs} → SamePair p.first r.first → SamePair p.second r.second → SameFactor p.low r.low → SameFactor p.high r.high → SameKernel (Two p) (Two r)
unfolding worked
same_two {p} {r} ep eq eg fg = record {
  same = fun_ext λ n. fun_ext λ x. λ u. lows_first n (λ i. same_scaled eg u (l2 n x u i)) (λ i. same_scaled fg u (h2 n x u i));
  way = λ h. tt;
  safe = λ n x s. record {
    at_first = same_safe ep n refl refl s.at_first;
    at_second = same_safe eq n (same_lows ep n refl refl) (same_highs ep n refl refl) s.at_second;
    at_lows = λ i h. as_type (λ u. FactorSafe r.low (sym (l2 n x) u i)) (eg.safe _ (s.at_lows i h));
    at_highs = λ i h. as_type (λ u. FactorSafe r.high (sym (h2 n x) u i)) (fg.safe _ (s.at_highs i h));
  };
}
  where
    h2 : (n : ℕ) (x : ℕ → ℤ) → second_highs r.first r.second n x ≡ second_highs p.first p.second n x
    h2 n x = same_highs eq n (same_lows ep n refl refl) (same_highs ep n refl refl)

    l2 : (n : ℕ) (x : ℕ → ℤ) → second_lows r.first r.second n x ≡ second_lows p.first p.second n x
    l2 n x = same_lows eq n (same_lows ep n refl refl) (same_highs ep n refl refl)

-- ---- rows and columns of a plane in memory

-- w columns of h rows, from column `from` on: each row by a kernel, and each column by a kernel
abbrev pub rows_worked : Kernel → ℕ → ℕ → ℕ → ℕ → (ℕ → ℤ) → ℕ → ℤ
rows_worked k stride from w h x = patch_lines (line_at from stride) w h (λ r. worked k w (row_of stride from x r)) x

abbrev pub columns_worked : Kernel → ℕ → ℕ → ℕ → ℕ → (ℕ → ℤ) → ℕ → ℤ
columns_worked k = columns_by (worked k)
