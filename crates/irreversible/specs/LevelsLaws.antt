-- The levels in memory, under an accepted table (`After`): what stands after each, and that the next one is safe.
use Rattle.std.specs.Prelude.{ℕ, suc, ◌+◌, ◌*◌, ◌-◌, ◌^◌, ◌<◌, ◌≤◌, List, ◌≡◌, refl, length, get_or, ℤ, pos, ◌-ℤ◌}
use Rattle.std.proofs.Common.{◌∙◌, ap, arith}
use Rattle.numbers.specs.Lists.{over}
use Rattle.lines.specs.Planes.{side, levels, row_by_row}
use Rattle.lines.specs.PlaneLaws.{side_le}
use Rattle.lines.specs.RowLaws.{place_in}
use Rattle.width_table.specs.Nodes.{Rows}
use Rattle.width_table.specs.Limits.{form_levels}
use Rattle.width_table.specs.declared.WidthTable.{WidthTable}
use Rattle.slices.specs.Patch.{at, patch, patch_in, patch_above}
use Rattle.slices.specs.Pixels.{pixel_line}
use Rattle.pictures.specs.Pictures.{sample}
use Rattle.pictures.specs.MemoryLaws.{stands_over}
use Rattle.precision.specs.Verdict.{Accepted}
use Rattle.precision.specs.Promise.{promise}
use Rattle.irreversible.specs.Transforms.{fixed_after, fixed_plane}
use Rattle.irreversible.specs.Claims.{Picture}
use Rattle.irreversible.specs.MagnitudeLaws.{below_power_10}
use Rattle.fixed_stages.specs.LineLaws.{bits_right, line_safe}
use Rattle.irreversible.specs.Memory.{After, level_worked, SafeLevel}
use Rattle.fixed_stages.specs.Safe.{LineSafe}
use Rattle.irreversible.specs.LevelLaws.{level_stands, level_beyond, level_safe}

-- what was there before
pub after_since : {t : WidthTable} {pixels : List ℕ} {w h k : ℕ} {x₀ x₁ x : ℕ → ℤ} → After t pixels w h k x₁ x → ((q : ℕ) → w * h ≤ q → x₁ q ≡ x₀ q) → After t pixels w h k x₀ x
after_since a old = record { stands = a.stands; beyond = λ q far. a.beyond q far ∙ old q far }

-- the samples
pub after_none : (t : WidthTable) (pixels : List ℕ) (w h : ℕ) (x₀ x : ℕ → ℤ) → 1 ≤ w → x ≡ patch 0 (w * h) (λ k. pos (get_or pixels k 0) -ℤ pos (2 ^ (t.depth - 1))) x₀ → After t pixels w h 0 x₀ x
unfolding fixed_after levels sample
after_none t pixels w h x₀ x some e = record {
  stands = λ r c i j. ap (λ (y : ℕ → ℤ). y (r * w + c)) e ∙ ap (patch 0 (w * h) _ x₀) (zero-add (r * w + c)) ∙ patch_in 0 (w * h) _ x₀ (r * w + c) (place_in w h some r c i j);
  beyond = λ q far. ap (λ (y : ℕ → ℤ). y q) e ∙ patch_above 0 (w * h) _ x₀ q (omega arith);
}
  where
    zero-add : (n : ℕ) → n ≡ 0 + n
    zero-add n = omega arith

module _ (t : WidthTable) (pixels : List ℕ) (w h : ℕ) (accepted : Accepted t) (picture : Picture t pixels w h) (k : ℕ) (more : k < t.levels) (x₀ x : ℕ → ℤ) (after : After t pixels w h k x₀ x) where
  -- one level more
  pub after_more : After t pixels w h (suc k) x₀ (level_worked t (suc k) w (side k w) (side k h) x)
  unfolding fixed_after levels
  after_more = record {
    stands = level_stands t (suc k) w h (side k w) (side k h) (side_le k w) (side_le k h) x (fixed_after t k pixels w h) after.stands;
    beyond = λ q far. level_beyond t (suc k) w h (side k w) (side k h) (side_le k w) (side_le k h) x (fixed_after t k pixels w h) after.stands q far ∙ after.beyond q far;
  }

  -- and it is safe
  pub safe_next : SafeLevel t (suc k) w (side k w) (side k h) x
  safe_next =
      level_safe t (suc k) w h (side k w) (side k h) (side_le k w) (side_le k h) x (fixed_after t k pixels w h) after.stands
      (bits_right t (promise t accepted) (suc k) (omega arith) more) (below_power_10 t pixels w h accepted picture k more)

-- the rows of level 1 are safe on the pixels
pub pixels_safe : (t : WidthTable) (pixels : List ℕ) (w h : ℕ) → Accepted t → Picture t pixels w h → (r : ℕ) → r < h → LineSafe t 1 Rows w (pixel_line pixels (2 ^ (t.depth - 1)) (r * w))
unfolding fixed_after levels side sample
pixels_safe t pixels w h accepted picture r i =
    let ok = promise t accepted in
    let s = below_power_10 t pixels w h accepted picture 0 (form_levels t ok.form).0 in
    line_safe t 1 (bits_right t ok 1 (omega arith) (form_levels t ok.form).0) Rows w (sample pixels t.depth w r) (s.in_rows r i) (λ c j. s.given r c i j) _ (λ c j. refl)

-- all levels
pub after_all : (t : WidthTable) (pixels : List ℕ) (w h : ℕ) (old new : List ℤ) → 1 ≤ w → w * h ≤ length old → length new ≡ length old → After t pixels w h t.levels (at old) (at new) → new ≡ over (row_by_row w h (fixed_plane t pixels w h)) old
unfolding fixed_plane
after_all t pixels w h old new some room same after = stands_over w h (fixed_plane t pixels w h) old new some room same after.stands after.beyond
