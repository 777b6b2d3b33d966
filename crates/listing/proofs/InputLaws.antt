-- The pixels of the input; the rules that the code finds one by one; what its answer says; and how much of the input decides.
use Rattle.std.specs.Prelude.{ℕ, zero, suc, ◌+◌, ◌*◌, ◌-◌, ◌/◌, ◌<◌, ◌≤◌, Bool, true, false, ◌&&◌, List, [], ◌∷◌, ◌≡◌, refl, T, leb, length, take, drop}
use Rattle.std.proofs.Common.{sym, ◌∙◌, le-leb, leb→le, get_or-take}
use Rattle.std.proofs.Math.Path.{ap}
use native.Mathlib.Omega.{arith}
use Rattle.std.proofs.lemmas.Bool.{lt-leb}
use Rattle.std.proofs.Math.ListN.{get_or, length-drop}
use Rattle.std.proofs.Math.Seq.{get_or-drop}
use Rattle.refusals.specs.Answers.{Reason, Answer, done, refused, passed, asks, ◌then◌}
use Rattle.refusals.specs.AnswerLaws.{asks_done, then_done}
use Rattle.width_table.specs.Table.{depth_right, levels_right}
use Rattle.pictures.specs.Pictures.{side_right, Admitted, side_answer, length_answer}
use Rattle.pictures.specs.PictureLaws.{sided_done, holds_done}
use Rattle.listing.specs.Listing.{pairs, head_bytes, max_pixels, max_input, copy_depth, copy_levels, copy_width, copy_height, copy_size, copy_pixels, copy_form}

-- ---- pixels

pairs_length : (l : List ℕ) → length (pairs l) ≡ length l / 2
unfolding pairs
pairs_length [] = refl
pairs_length (a ∷ []) = refl
pairs_length (a ∷ b ∷ l) = omega (arith, pairs_length l)

pairs_at : (l : List ℕ) (k : ℕ) → 2 * k + 1 < length l → get_or (pairs l) k 0 ≡ get_or l (2 * k) 0 * 256 + get_or l (2 * k + 1) 0
unfolding pairs
pairs_at [] k h = absurd (omega arith)
pairs_at (a ∷ []) k h = absurd (omega arith)
pairs_at (a ∷ b ∷ l) zero h = refl
pairs_at (a ∷ b ∷ l) (suc k) h =
    let e : 2 * suc k ≡ suc (suc (2 * k)) = omega arith in
    let f : 2 * suc k + 1 ≡ suc (suc (2 * k + 1)) = omega arith in
    pairs_at l k (omega arith) ∙ sym (λ i. get_or (a ∷ b ∷ l) (e i) 0 * 256 + get_or (a ∷ b ∷ l) (f i) 0)

module _ (bytes : List ℕ) where
  pub pixels_length : length (copy_pixels bytes) ≡ (length bytes - head_bytes) / 2
  unfolding copy_pixels
  pixels_length = pairs_length (drop head_bytes bytes) ∙ ap (λ (n : ℕ). n / 2) (length-drop head_bytes bytes)

  pub pixel_at_lem : (k : ℕ) → head_bytes + 2 * k + 1 < length bytes → get_or (copy_pixels bytes) k 0 ≡ get_or bytes (head_bytes + 2 * k) 0 * 256 + get_or bytes (head_bytes + 2 * k + 1) 0
  unfolding copy_pixels
  pixel_at_lem k h =
      let e : head_bytes + (2 * k + 1) ≡ head_bytes + 2 * k + 1 = omega arith in
      pairs_at (drop head_bytes bytes) k (omega (arith, length-drop head_bytes bytes))
      ∙ (λ i. get_or-drop head_bytes bytes (2 * k) 0 i * 256 + get_or-drop head_bytes bytes (2 * k + 1) 0 i) ∙ ap (λ (n : ℕ). get_or bytes (head_bytes + 2 * k) 0 * 256 + get_or bytes n 0) e

-- ---- the form

-- 8 and 9 apart from what is judged after them
apart : (s t : Bool) (o : Answer Unit) → asks s 8 (asks t 9 o) ≡ (asks s 8 passed then asks t 9 passed) then o
apart true true o = refl
apart true false o = refl
apart false t o = refl

abbrev limits : List ℕ → Bool
limits bytes = depth_right (copy_depth bytes) && levels_right (copy_levels bytes)

abbrev sizes : List ℕ → Answer Unit
sizes bytes = side_answer (copy_width bytes) (copy_height bytes) then length_answer (copy_size bytes) max_pixels

pub sizes_done : (bytes : List ℕ) → sizes bytes ≡ passed → Admitted (copy_width bytes) × Admitted (copy_height bytes) × (copy_size bytes ≤ max_pixels)
sizes_done bytes e =
    let s = then_done (side_answer (copy_width bytes) (copy_height bytes)) _ e in
    let d = sided_done _ _ s.0 in
    (d.0, d.1, holds_done _ _ s.1)

-- what is left when the sizes are right
abbrev body : List ℕ → Answer Unit
body bytes = asks (leb (2 * copy_size bytes) (length bytes - head_bytes)) 1 (asks (leb (length bytes - head_bytes) (2 * copy_size bytes)) 5 passed)

module _ (bytes : List ℕ) where
  in_parts : copy_form bytes ≡ asks (leb head_bytes (length bytes)) 1 (asks (limits bytes) 4 (sizes bytes then body bytes))
  unfolding copy_form side_answer length_answer
  in_parts = ap (λ (o : Answer Unit). asks (leb head_bytes (length bytes)) 1 (asks (limits bytes) 4 o))
      (apart (side_right (copy_width bytes) && side_right (copy_height bytes)) (leb (copy_size bytes) max_pixels) (body bytes))

  pub form_short : length bytes < head_bytes → copy_form bytes ≡ refused (1, [])
  form_short h = in_parts ∙ ap (λ (t : Bool). asks t 1 (asks (limits bytes) 4 (sizes bytes then body bytes))) (lt-leb head_bytes (length bytes) h)

  module _ (whole : head_bytes ≤ length bytes) where
    past_head : copy_form bytes ≡ asks (limits bytes) 4 (sizes bytes then body bytes)
    past_head = in_parts ∙ ap (λ (t : Bool). asks t 1 (asks (limits bytes) 4 (sizes bytes then body bytes))) (le-leb head_bytes (length bytes) whole)

    pub form_limits : limits bytes ≡ false → copy_form bytes ≡ refused (4, [])
    form_limits e = past_head ∙ ap (λ (t : Bool). asks t 4 (sizes bytes then body bytes)) e

    module _ (limited : limits bytes ≡ true) where
      past_limits : copy_form bytes ≡ sizes bytes then body bytes
      past_limits = past_head ∙ ap (λ (t : Bool). asks t 4 (sizes bytes then body bytes)) limited

      pub form_size : (r : Reason) → sizes bytes ≡ refused r → copy_form bytes ≡ refused r
      form_size r e = past_limits ∙ ap (λ (o : Answer Unit). o then body bytes) e

      module _ (room : sizes bytes ≡ passed) where
        at_body : (s t : Bool) → leb (2 * copy_size bytes) (length bytes - head_bytes) ≡ s → leb (length bytes - head_bytes) (2 * copy_size bytes) ≡ t → copy_form bytes ≡ asks s 1 (asks t 5 passed)
        at_body s t e f = past_limits ∙ ap (λ (o : Answer Unit). o then body bytes) room ∙ (λ i. asks (e i) 1 (asks (f i) 5 passed))

        pub form_cut : length bytes - head_bytes < 2 * copy_size bytes → copy_form bytes ≡ refused (1, [])
        form_cut h = at_body false _ (lt-leb (2 * copy_size bytes) (length bytes - head_bytes) h) refl

        pub form_long : 2 * copy_size bytes < length bytes - head_bytes → copy_form bytes ≡ refused (5, [])
        form_long h = at_body true false (le-leb (2 * copy_size bytes) (length bytes - head_bytes) (omega arith)) (lt-leb (length bytes - head_bytes) (2 * copy_size bytes) h)

        pub form_right_lem : length bytes - head_bytes ≡ 2 * copy_size bytes → copy_form bytes ≡ passed
        form_right_lem h = at_body true true (le-leb (2 * copy_size bytes) (length bytes - head_bytes) (omega arith)) (le-leb (length bytes - head_bytes) (2 * copy_size bytes) (omega arith))

-- what a right form says
pub record Formed (bytes : List ℕ) : Type 0 where
  pub limited : T (limits bytes)
  pub wide : Admitted (copy_width bytes)
  pub tall : Admitted (copy_height bytes)
  pub few : copy_size bytes ≤ max_pixels
  pub exact : length bytes ≡ head_bytes + 2 * copy_size bytes

pub form_done : (bytes : List ℕ) → copy_form bytes ≡ passed → Formed bytes
form_done bytes e =
    let a = asks_done (leb head_bytes (length bytes)) _ _ (sym (in_parts bytes) ∙ e) in
    let b = asks_done (limits bytes) _ _ a.1 in
    let c = then_done (sizes bytes) _ b.1 in
    let s = sizes_done bytes c.0 in
    let d = asks_done (leb (2 * copy_size bytes) (length bytes - head_bytes)) _ _ c.1 in
    let f = asks_done (leb (length bytes - head_bytes) (2 * copy_size bytes)) _ _ d.1 in
    record {
      limited = b.0;
      wide = s.0;
      tall = s.1;
      few = s.2;
      exact = omega (arith, leb→le head_bytes (length bytes) a.0, leb→le (2 * copy_size bytes) (length bytes - head_bytes) d.0, leb→le (length bytes - head_bytes) (2 * copy_size bytes) f.0);
    }

-- ---- an input that is too long

-- why an input of so many bytes or more is refused, by its limits and its sizes
abbrev refusal_of : Bool → Answer Unit → Reason
refusal_of false o = (4, [])
refusal_of true (done x) = (5, [])
refusal_of true (refused r) = r

abbrev pub why_long : List ℕ → Reason
why_long bytes = refusal_of (limits bytes) (sizes bytes)

pub form_too_long : (bytes : List ℕ) → max_input ≤ length bytes → copy_form bytes ≡ refused (why_long bytes)
form_too_long bytes h = past_head bytes (omega arith) ∙ go (limits bytes) (sizes bytes) (body bytes) (λ e. past (sizes_done bytes e).2)
  where
    past : copy_size bytes ≤ max_pixels → body bytes ≡ refused (5, [])
    past m = λ i. asks (le-leb (2 * copy_size bytes) (length bytes - head_bytes) (omega arith) i) 1 (asks (lt-leb (length bytes - head_bytes) (2 * copy_size bytes) (omega arith) i) 5 passed)

    go : (l : Bool) (s b : Answer Unit) → (s ≡ passed → b ≡ refused (5, [])) → asks l 4 (s then b) ≡ refused (refusal_of l s)
    go false s b e = refl
    go true (done x) b e = e refl
    go true (refused r) b e = refl

-- the first of them have the same head
pub why_same : (bytes : List ℕ) (n : ℕ) → head_bytes ≤ n → why_long (take n bytes) ≡ why_long bytes
why_same bytes n h = λ i. refusal_of (depth_right (same 0 (omega arith) i) && levels_right (same 1 (omega arith) i))
    (let w = same 2 (omega arith) i * 256 + same 3 (omega arith) i in
    let h = same 4 (omega arith) i * 256 + same 5 (omega arith) i in
    side_answer w h then length_answer (w * h) max_pixels)
  where
    same : (k : ℕ) → k < head_bytes → get_or (take n bytes) k 0 ≡ get_or bytes k 0
    same k g = get_or-take n bytes k 0 (omega arith)
