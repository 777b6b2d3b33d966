-- What the program has after some levels, and its verdict.
use Prim.Native.Nat.{ℕ, zero, suc, ◌+◌, ◌*◌, ◌-◌, ◌^◌, ◌<◌, ◌≤◌}
use Rattle.std.proofs.Math.Bool.{Bool, ◌&&◌}
use Rattle.std.specs.Prelude.{true, false, [], ◌≡◌, refl}
use Rattle.std.proofs.Math.Path.{sym, ap, ap₂, subst}
use Rattle.std.proofs.Common.{◌∙◌, lit≤, pow_mono}
use native.Mathlib.Omega.{arith}
use Rattle.std.proofs.Math.Nat.{mul-le-mul, mul-le-mul_right}
use Rattle.std.proofs.Math.Dec.{T}
use Rattle.numbers.specs.Tests.{ltb-true, ltb-false, left_false, right_false}
use Rattle.refusals.specs.Answers.{Reason, passed, refused}
use Rattle.refusals.specs.AnswerLaws.{asks_done, asks_right, asks_wrong, then_done, then_right, then_refused}
use Rattle.width_table.specs.Nodes.{Node, G1, G2, Pass, LowColumns, HighColumns}
use Rattle.width_table.specs.declared.WidthTable.{WidthTable}
use Rattle.width_table.specs.Table.{max_levels, max_integer_bits, integer_bits, fraction_bits, form_right}
use Rattle.width_table.specs.Limits.{form_levels, form_widths}
use Rattle.stages.specs.Rule.{Bound}
use Rattle.precision.specs.Verdict.{verdict}
use Rattle.view_precision.specs.Bounds.{inverse_bound, pass_gives, stored, from_low, from_high, pass_bound, pass_right, level_gives, gives_from, start_bound, pixel_bound, view_distance, nodes_right, viewable, view_verdict, steps_allowed}
use Rattle.view_precision.specs.Places.{most_entering, AtMostStored, most_fed, SmallFed, level_right, levels_right}
use Rattle.view_precision.specs.SizeLaws.{gives_most}

-- ---- sizes

pub within_small : {n : ℕ} {b : Bound} → n ≤ most_fed → AtMostStored n b → SmallFed b
within_small {n} h w = record { range = omega (arith, w.range); error = omega (arith, w.error) }

module _ (t : WidthTable) (form : T (form_right t)) (steps : ℕ) (few : steps ≤ steps_allowed) (l : ℕ) (least : 1 ≤ l) (most : l ≤ t.levels) where
  pub stored_within : (p : Pass) (n : Node) → AtMostStored 1 (stored t steps l p n)
  unfolding stored
  stored_within p n =
      let w = form_widths t form l least most p n in
      let f = fraction_bits t l p n in
      record {
        range = omega (arith, mul-le-mul_right (2 ^ 32) (pow_mono {i = integer_bits t l p n - 1} {j = max_integer_bits - 1} (omega (arith, w.1))));
        error = omega (arith, mul-le-mul few (pow_mono {i = 32 - f} {j = 32} (omega arith)));
      }

  module _ (b : Bound) (n : ℕ) (h : n ≤ most_entering) (w : AtMostStored n b) where
    pub low_within : AtMostStored (n + 2) (from_low t steps l b)
    unfolding from_low
    low_within = gives_most b (stored t steps l LowColumns G2) n 1 (lit≤ tt) (omega arith) (lit≤ tt) w (stored_within LowColumns G2)

    pub high_within : AtMostStored 3 (from_high t steps l b)
    unfolding from_high
    high_within = gives_most (stored t steps l HighColumns G1) (stored t steps l HighColumns G2) 1 1 (lit≤ tt) (lit≤ tt) (lit≤ tt) (stored_within HighColumns G1) (stored_within HighColumns G2)

    -- a level adds no more than eight times what is stored
    pub level_within : AtMostStored (n + 8) (level_gives t steps l b)
    unfolding level_gives
    level_within = let z : n + 2 + 2 * 3 ≡ n + 8 = omega arith in subst (λ (k : ℕ). AtMostStored k (pass_gives (from_low t steps l b) (from_high t steps l b))) z (gives_most (from_low t steps l b) (from_high t steps l b) (n + 2) 3 (lit≤ tt) (omega arith) (lit≤ tt) low_within high_within)

-- ---- one level, as the program has it

module _ (t : WidthTable) (steps l : ℕ) (b : Bound) where
  pub low_is_lem : {x low : Bound} → x ≡ stored t steps l LowColumns G2 → low ≡ pass_gives b x → low ≡ from_low t steps l b
  unfolding from_low
  low_is_lem e d = d ∙ ap (pass_gives b) e

  pub high_is_lem : {x y high : Bound} → x ≡ stored t steps l HighColumns G1 → y ≡ stored t steps l HighColumns G2 → high ≡ pass_gives x y → high ≡ from_high t steps l b
  unfolding from_high
  high_is_lem e f d = d ∙ ap₂ pass_gives e f

  pub gives_is : {low high rows : Bound} → low ≡ from_low t steps l b → high ≡ from_high t steps l b → rows ≡ pass_gives low high → rows ≡ level_gives t steps l b
  unfolding level_gives
  gives_is e f d = d ∙ ap₂ pass_gives e f

  pub right_is : {x y z low high : Bound} {p q r : Bool}
      → x ≡ stored t steps l LowColumns G2 → p ≡ pass_right (inverse_bound b x)
      → y ≡ stored t steps l HighColumns G1 → z ≡ stored t steps l HighColumns G2 → q ≡ pass_right (inverse_bound y z)
      → low ≡ from_low t steps l b → high ≡ from_high t steps l b → r ≡ pass_right (inverse_bound low high)
      → p && q && r ≡ level_right t steps l b
  unfolding pass_bound
  right_is ex ep ey ez eq el eh er =
      let pass : Bound → Bound → Bool = λ a b. pass_right (inverse_bound a b) in
      ap₂ ◌&&◌ (ap₂ ◌&&◌ (ep ∙ ap (pass b) ex) (eq ∙ ap₂ pass ey ez)) (er ∙ ap₂ pass el eh)

-- ---- the levels, the last first

and_assoc : (x y z : Bool) → (x && y) && z ≡ x && (y && z)
and_assoc true y z = refl
and_assoc false y z = refl

and_right : (x : Bool) → x && true ≡ x
and_right true = refl
and_right false = refl

module _ (t : WidthTable) (steps : ℕ) where
  -- Levels above k are worked: `right` says whether their nodes are right, and b bounds the low-low that level k takes.
  pub record Reached (k : ℕ) (right : Bool) (b : Bound) : Type 0 where
    pub level : k ≤ t.levels
    pub rights : right && levels_right t steps k b ≡ levels_right t steps t.levels (start_bound t steps)
    pub gives : gives_from t steps k b ≡ gives_from t steps t.levels (start_bound t steps)
    pub small : AtMostStored (1 + 8 * (max_levels - k)) b

  pub reached_first : T (form_right t) → steps ≤ steps_allowed → (b : Bound) → b ≡ start_bound t steps → Reached t.levels true b
  reached_first form few b e = record {
    level = omega arith;
    rights = ap (levels_right t steps t.levels) e;
    gives = ap (gives_from t steps t.levels) e;
    small = subst (AtMostStored (1 + 8 * (max_levels - t.levels))) (sym e) (more (stored_within t form steps few t.levels (form_levels t form).0 (omega arith) LowColumns G1));
  }
    where
      more : {b : Bound} → AtMostStored 1 b → AtMostStored (1 + 8 * (max_levels - t.levels)) b
      more w = record { range = omega (arith, w.range); error = omega (arith, w.error) }

  pub reached_next : T (form_right t) → steps ≤ steps_allowed → (k : ℕ) {right right' : Bool} {b b' : Bound} → 0 < k → Reached k right b → right' ≡ (right && level_right t steps k b) → b' ≡ level_gives t steps k b → Reached (k - 1) right' b'
  unfolding levels_right gives_from
  reached_next form few zero h r d e = absurd (omega arith)
  reached_next form few (suc k) {right} {right'} {b} {b'} h r d e =
      let z : k ≡ suc k - 1 = omega arith in
      subst (λ (j : ℕ). Reached j right' b') z next
    where
      level_room : 1 + 8 * (max_levels - suc k) + 8 ≡ 1 + 8 * (max_levels - k)
      level_room = omega (arith, r.level, (form_levels t form).1)

      next : Reached k right' b'
      next = record {
        level = omega (arith, r.level);
        rights = ap₂ (λ (x : Bool) (y : Bound). x && levels_right t steps k y) d e ∙ and_assoc right (level_right t steps (suc k) b) (levels_right t steps k (level_gives t steps (suc k) b)) ∙ r.rights;
        gives = ap (gives_from t steps k) e ∙ r.gives;
        small = subst (λ (n : ℕ). AtMostStored n b') level_room (subst (AtMostStored (1 + 8 * (max_levels - suc k) + 8)) (sym e) (level_within t form steps few (suc k) (omega arith) r.level b (1 + 8 * (max_levels - suc k)) (omega arith) r.small));
      }

  pub reached_small : {k : ℕ} {right : Bool} {b : Bound} → Reached k right b → AtMostStored most_entering b
  reached_small r = record { range = omega (arith, r.small.range); error = omega (arith, r.small.error) }

  -- after level 1
  pub reached_last : {right : Bool} {b : Bound} {k : ℕ} → k ≡ 0 → Reached k right b → (right ≡ levels_right t steps t.levels (start_bound t steps)) × (b ≡ gives_from t steps t.levels (start_bound t steps))
  unfolding levels_right gives_from
  reached_last {right} {b} e r =
      let last = subst (λ (k : ℕ). Reached k right b) e r in
      (sym (and_right right) ∙ last.rights, last.gives)

-- ---- the verdict

levels_right_lem : (t : WidthTable) (k : ℕ) (b : Bound) → levels_right t 0 k b ≡ nodes_right t k b
unfolding levels_right nodes_right
levels_right_lem t zero b = refl
levels_right_lem t (suc k) b = ap (λ (x : Bool). level_right t 0 (suc k) b && x) (levels_right_lem t k (level_gives t 0 (suc k) b))

-- the right side of the second rule of 13: half a grey
abbrev pub half_grey : WidthTable → ℕ
half_grey t = 2 ^ (32 - (t.depth + 1))

module _ (t : WidthTable) where
  pub judge_refuses : (r : Reason) → verdict t ≡ refused r → view_verdict t ≡ refused r
  unfolding view_verdict
  judge_refuses r e = then_refused _ _ r e

  module _ (accepted : verdict t ≡ passed) where
    pub accepted_form : T (form_right t)
    unfolding verdict
    accepted_form = (asks_done (form_right t) _ _ accepted).0

    module _ (right : Bool) (b : Bound) (r : right ≡ levels_right t 0 t.levels (start_bound t 0)) (g : b ≡ gives_from t 0 t.levels (start_bound t 0)) where
      nodes_are : nodes_right t t.levels (start_bound t 0) ≡ right
      nodes_are = sym (r ∙ levels_right_lem t t.levels (start_bound t 0))

      pixel_is : b.error ≡ pixel_bound t
      unfolding pixel_bound
      pixel_is = ap (λ (b : Bound). b.error) g

      pub node_refuses : right ≡ false → view_verdict t ≡ refused (13, [])
      unfolding view_verdict viewable
      node_refuses e = then_right _ _ accepted ∙ asks_wrong (viewable t) _ _ (left_false (nodes_right t t.levels (start_bound t 0)) _ (nodes_are ∙ e))

      pub pixel_refuses : half_grey t ≤ b.error → view_verdict t ≡ refused (13, [])
      unfolding view_verdict viewable
      pixel_refuses h = then_right _ _ accepted ∙ asks_wrong (viewable t) _ _ (right_false (nodes_right t t.levels (start_bound t 0)) _ (ltb-false (pixel_bound t) (half_grey t) (subst (λ (x : ℕ). half_grey t ≤ x) pixel_is h)))

      pub view_passes : right ≡ true → b.error < half_grey t → view_verdict t ≡ passed
      unfolding view_verdict viewable
      view_passes e h =
          then_right _ _ accepted
          ∙ asks_right (viewable t) _ _ (subst T (sym (ap₂ ◌&&◌ (nodes_are ∙ e) (ltb-true (pixel_bound t) (half_grey t) (subst (λ (x : ℕ). x < half_grey t) pixel_is h)))) tt)

-- ---- the distance

module _ (t : WidthTable) where
  pub viewable_accepted : view_verdict t ≡ passed → verdict t ≡ passed
  unfolding view_verdict
  viewable_accepted e = (then_done (verdict t) _ e).0

  pub distance_told : (b : Bound) → b ≡ gives_from t steps_allowed t.levels (start_bound t steps_allowed) → b.error ≡ view_distance t
  unfolding view_distance
  distance_told b g = ap (λ (b : Bound). b.error) g
