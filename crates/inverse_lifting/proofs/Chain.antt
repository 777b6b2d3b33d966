-- The stages of step i, one after the other, of numbers that are read back from their bits: what each asks, and what it gives.
use Rattle.std.specs.Prelude.{◌≡◌, refl, ℤ, pos}
use Rattle.std.specs.Int.{w64}
use Prim.Native.Nat.{ℕ, ◌-◌, ◌<◌, ◌≤◌}
use native.Mathlib.Omega.{arith}
use lib.Dec.{lit≤}
use Rattle.exact.specs.Exact.{alpha, beta, gamma, delta}
use Rattle.slices.specs.SignedRuns.{back}
use Rattle.inverse_lifting.specs.declared.Pipeline.{Pipeline}
use Rattle.inverse_lifting.specs.Fixed.{inverse_step}
use Rattle.inverse_lifting.specs.Cases.{inverse_step_end}
use Rattle.inverse_lifting.specs.Stages.{moved_by, ended_by, at_alpha, at_beta, at_gamma, at_delta, moved_alpha, moved_beta, moved_gamma, moved_delta, ended_alpha, ended_beta, ended_gamma, ended_delta}
use Rattle.inverse_lifting.specs.Steps.{Line, Ready, LowAsks, HighAsks, LowStepped, HighStepped, Stepped, low_asks_read, high_asks_read, low_read, high_read, stepped_as, some_low, some_high, u2_size, p2_size, u1_size, asks_u2, u2_is, asks_p2, p2_is, asks_u1, u1_is, asks_p1, line_u2, line_p2, line_u1, up_to_low, up_to_high}

module _ {l : Line} {i L H : ℕ} {t : Pipeline} {low high : ℤ} (q : Ready l i L H t low high) where
  -- ---- U2

  pub ask_u2 : LowAsks i L H (back w64 low) (back w64 t.g2) (back w64 high)
  ask_u2 = low_asks_read (asks_u2 q)

  module _ {u2 : ℤ} (d : LowStepped (moved_by at_delta) (ended_by at_delta) i L H (back w64 t.u2) (back w64 low) (back w64 t.g2) (back w64 high) u2) where
    u2_took : LowStepped (inverse_step delta) (inverse_step_end delta) i L H t.u2 low t.g2 high u2
    u2_took = low_read moved_delta ended_delta (asks_u2 q) (λ h. u2_size q (omega (arith, some_low q))) d

    u2_at : u2 ≡ line_u2 l (up_to_low l i)
    u2_at = u2_is q u2 u2_took

    -- the first step leaves s
    pub took_one : {s : Pipeline} → i < 1 → s.g2 ≡ high → s.u2 ≡ u2 → Stepped i L H t low high s
    took_one {s} one e-g2 e-u2 =
        stepped_as {r = record { g2 = high; u2 = u2; p2 = s.p2; u1 = s.u1; even = s.even; odd = s.odd }}
        (record { g2 = refl; u2 = u2_took; p2 = λ h. absurd (omega arith); u1 = λ h. absurd (omega arith); even = λ h. absurd (omega arith); odd = λ h. absurd (omega arith) })
        (record { g2 = e-g2; u2 = e-u2; p2 = refl; u1 = refl; even = λ h. refl; odd = λ h g. refl })

    -- ---- P2

    module _ (more : 1 ≤ i) where
      pub ask_p2 : HighAsks (i - 1) L H (back w64 t.g2) (back w64 t.u2) (back w64 u2)
      ask_p2 = high_asks_read (asks_p2 q more u2 u2_at)

      module _ {p2 : ℤ} (e : HighStepped (moved_by at_gamma) (ended_by at_gamma) (i - 1) L H (back w64 t.p2) (back w64 t.g2) (back w64 t.u2) (back w64 u2) p2) where
        p2_took : HighStepped (inverse_step gamma) (inverse_step_end gamma) (i - 1) L H t.p2 t.g2 t.u2 u2 p2
        p2_took = high_read moved_gamma ended_gamma (asks_p2 q more u2 u2_at) (λ h. p2_size q (omega (arith, some_high q))) e

        p2_at : p2 ≡ line_p2 l (up_to_high l (i - 1))
        p2_at = p2_is q more u2 u2_at p2 p2_took

        -- ---- U1

        pub ask_u1 : LowAsks (i - 1) L H (back w64 t.u2) (back w64 t.p2) (back w64 p2)
        ask_u1 = low_asks_read (asks_u1 q more p2 p2_at)

        module _ {u1 : ℤ} (f : LowStepped (moved_by at_beta) (ended_by at_beta) (i - 1) L H (back w64 t.u1) (back w64 t.u2) (back w64 t.p2) (back w64 p2) u1) where
          u1_took : LowStepped (inverse_step beta) (inverse_step_end beta) (i - 1) L H t.u1 t.u2 t.p2 p2 u1
          u1_took = low_read moved_beta ended_beta (asks_u1 q more p2 p2_at) (λ h. u1_size q (omega (arith, some_low q))) f

          u1_at : u1 ≡ line_u1 l (up_to_low l (i - 1))
          u1_at = u1_is q more p2 p2_at u1 u1_took

          -- the second step leaves s
          pub took_two : {s : Pipeline} → i < 2 → s.g2 ≡ high → s.u2 ≡ u2 → s.p2 ≡ p2 → s.u1 ≡ u1 → Stepped i L H t low high s
          took_two {s} two e-g2 e-u2 e-p2 e-u1 =
              stepped_as {r = record { g2 = high; u2 = u2; p2 = p2; u1 = u1; even = s.even; odd = s.odd }}
              (record { g2 = refl; u2 = u2_took; p2 = λ h. p2_took; u1 = λ h. u1_took; even = λ h. absurd (omega arith); odd = λ h. absurd (omega arith) })
              (record { g2 = e-g2; u2 = e-u2; p2 = e-p2; u1 = e-u1; even = λ h. refl; odd = λ h g. refl })

          -- ---- P1

          module _ (two : 2 ≤ i) where
            pub ask_p1 : HighAsks (i - 2) L H (back w64 t.p2) (back w64 t.u1) (back w64 u1)
            ask_p1 = high_asks_read (asks_p1 q two u1 u1_at)

            module _ {p1 : ℤ} (g : HighStepped (moved_by at_alpha) (ended_by at_alpha) (i - 2) L H (back w64 (pos 0)) (back w64 t.p2) (back w64 t.u1) (back w64 u1) p1) where
              p1_took : HighStepped (inverse_step alpha) (inverse_step_end alpha) (i - 2) L H (pos 0) t.p2 t.u1 u1 p1
              p1_took = high_read moved_alpha ended_alpha (asks_p1 q two u1 u1_at) (λ h. lit≤ tt) g

              -- any other step leaves s
              pub took_all : {s : Pipeline} → s.g2 ≡ high → s.u2 ≡ u2 → s.p2 ≡ p2 → s.u1 ≡ u1 → s.even ≡ t.u1 → s.odd ≡ p1 → Stepped i L H t low high s
              took_all {s} e-g2 e-u2 e-p2 e-u1 e-even e-odd =
                  stepped_as {r = record { g2 = high; u2 = u2; p2 = p2; u1 = u1; even = t.u1; odd = p1 }}
                  (record { g2 = refl; u2 = u2_took; p2 = λ h. p2_took; u1 = λ h. u1_took; even = λ h. refl; odd = λ h. record { inner = p1_took.inner; last = p1_took.last; past = λ k. refl } })
                  (record { g2 = e-g2; u2 = e-u2; p2 = e-p2; u1 = e-u1; even = λ h. e-even; odd = λ h k. e-odd })
