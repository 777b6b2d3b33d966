-- What refusals 8, 9 and 10 say where they are not given; and what is written over the front of a list.
use Rattle.std.specs.Prelude.{◌≡◌, ℕ, suc, ◌*◌, ◌^◌, ◌<◌, ◌≤◌, Bool, ◌&&◌, T, ltb, List, [], ◌∷◌, length, take, drop, nat_le, nat_lt, slice_index, slice_index_or, refl}
use Rattle.std.proofs.Common.{sym, ◌∙◌, subst, arith, le→leb, leb→le, lt→ltb, ltb→lt, length-append, take_at, get_or-take, length-take-le}
use Rattle.numbers.specs.Tests.{every, both, and_intro}
use Rattle.numbers.specs.Lists.{over}
use Rattle.refusals.specs.Answers.{Answer, done, refused, passed, ◌then◌}
use Rattle.refusals.specs.AnswerLaws.{asks_done, asks_right, then_done, then_right}
use Rattle.lines.specs.RowLaws.{every_at}
use Rattle.pictures.specs.Pictures.{max_side, side_right, Admitted, side_answer, length_answer, pixel_answer}

-- sides are admitted, and three slices of a, b and c elements are long enough
pub record Room (w h a b c : ℕ) : Type 0 where
  pub wide : Admitted w
  pub tall : Admitted h
  pub first : w * h ≤ a
  pub second : w * h ≤ b
  pub third : w * h ≤ c

pub side_is : (n : ℕ) → T (side_right n) → Admitted n
side_is n h = let x = both (nat_le 1 n) (nat_le n max_side) h in (leb→le 1 n x.0, leb→le n max_side x.1)

pub side_right_lem : (n : ℕ) → Admitted n → T (side_right n)
side_right_lem n x = and_intro (nat_le 1 n) (nat_le n max_side) (le→leb _ _ x.0) (le→leb _ _ x.1)

pub sided_done : (w h : ℕ) → side_answer w h ≡ passed → Admitted w × Admitted h
unfolding side_answer
sided_done w h e =
    let s = both (side_right w) (side_right h) (asks_done (side_right w && side_right h) _ _ e).0 in
    (side_is w s.0, side_is h s.1)

pub sided_right : (w h : ℕ) → Admitted w → Admitted h → side_answer w h ≡ passed
unfolding side_answer
sided_right w h a b = asks_right (side_right w && side_right h) _ _ (and_intro (side_right w) (side_right h) (side_right_lem w a) (side_right_lem h b))

pub holds_done : (n k : ℕ) → length_answer n k ≡ passed → n ≤ k
unfolding length_answer
holds_done n k e = leb→le n k (asks_done (nat_le n k) _ _ e).0

pub holds_right : (n k : ℕ) → n ≤ k → length_answer n k ≡ passed
unfolding length_answer
holds_right n k h = asks_right (nat_le n k) _ _ (le→leb n k h)

-- 8, and 9 of three slices
module _ (w h a b c : ℕ) where
  abbrev pub room_answer : Answer Unit
  room_answer = side_answer w h then length_answer (w * h) a then length_answer (w * h) b then length_answer (w * h) c

  -- and what is judged after them
  pub sized_then : {A : Type 0} (after : Answer A) → side_answer w h then length_answer (w * h) a then length_answer (w * h) b then length_answer (w * h) c then after ≡ room_answer then after
  sized_then {A} after = go (side_answer w h) (length_answer (w * h) a) (length_answer (w * h) b) (length_answer (w * h) c)
    where
      go : (s x y z : Answer Unit) → s then x then y then z then after ≡ (s then x then y then z) then after
      go (refused r) x y z = refl
      go (done a) (refused r) y z = refl
      go (done a) (done b) (refused r) z = refl
      go (done a) (done b) (done c) z = refl

  pub sized_done : room_answer ≡ passed → Room w h a b c
  sized_done e =
      let s = then_done (side_answer w h) _ e in
      let x = then_done (length_answer (w * h) a) _ s.1 in
      let y = then_done (length_answer (w * h) b) _ x.1 in
      let d = sided_done w h s.0 in
      record { wide = d.0; tall = d.1; first = holds_done _ _ x.0; second = holds_done _ _ y.0; third = holds_done _ _ y.1 }

  pub sized_right : Room w h a b c → room_answer ≡ passed
  sized_right r =
      then_right (side_answer w h) _ (sided_right w h r.wide r.tall)
      ∙ then_right (length_answer (w * h) a) _ (holds_right _ _ r.first)
      ∙ then_right (length_answer (w * h) b) _ (holds_right _ _ r.second)
      ∙ holds_right _ _ r.third

pub pixels_done : (B w h : ℕ) (pixels : List ℕ) → pixel_answer B w h pixels ≡ passed → T (every (λ p. ltb p (2 ^ B)) (take (w * h) pixels))
unfolding pixel_answer
pixels_done B w h pixels e = (asks_done (every (λ p. ltb p (2 ^ B)) (take (w * h) pixels)) _ _ e).0

-- each of the first w * h pixels is below 2^B
pub pixel_below : (B w h : ℕ) (pixels : List ℕ) → w * h ≤ length pixels → T (every (λ p. ltb p (2 ^ B)) (take (w * h) pixels)) → (k : ℕ) → k < w * h → slice_index pixels k < 2 ^ B
pixel_below B w h pixels room right k q =
    ltb→lt _ _ (subst (λ (n : ℕ). T (nat_lt n (2 ^ B))) (get_or-take (w * h) pixels k 0 q)
    (every_at (λ p. ltb p (2 ^ B)) (take (w * h) pixels) 0 right k (subst (λ (n : ℕ). k < n) (sym (length-take-le (w * h) pixels room)) q)))

every_all : {A : Type 0} (right : A → Bool) (l : List A) (d : A) → ((k : ℕ) → k < length l → T (right (slice_index_or l k d))) → T (every right l)
unfolding every
every_all right [] d h = tt
every_all right (x ∷ l) d h = and_intro (right x) (every right l) (h 0 (omega arith)) (every_all right l d (λ k i. h (suc k) (omega arith)))

-- and where each is, they are right
pub pixels_right_lem : (B w h : ℕ) (pixels : List ℕ) → w * h ≤ length pixels → ((k : ℕ) → k < w * h → slice_index pixels k < 2 ^ B) → pixel_answer B w h pixels ≡ passed
unfolding pixel_answer
pixels_right_lem B w h pixels room below =
    asks_right (every (λ p. ltb p (2 ^ B)) (take (w * h) pixels)) _ _
    (every_all (λ p. ltb p (2 ^ B)) (take (w * h) pixels) 0 (λ k i.
    let q : k < w * h = omega (arith, length-take-le (w * h) pixels room) in
    subst (λ (n : ℕ). T (nat_lt n (2 ^ B))) (sym (get_or-take (w * h) pixels k 0 q)) (lt→ltb _ _ (below k q))))

-- ---- what is written over the front

pub over_take : {A : Type 0} (n : ℕ) (new old : List A) → length new ≡ n → take n (over new old) ≡ new
over_take n new old e = take_at new (drop (length new) old) n e

pub over_length : {A : Type 0} (new old : List A) → length new ≤ length (over new old)
over_length new old = omega (arith, length-append new (drop (length new) old))
