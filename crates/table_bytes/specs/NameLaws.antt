-- Naming a tag: the place and the part of the caller's bytes.
use Prim.Native.Nat.{ℕ, ◌+◌, ◌≤◌}
use Rattle.std.specs.Prelude.{Bool, true, false, List, [], ◌≡◌, refl, drop}
use Rattle.std.proofs.Common.{◌∙◌, arith}
use Rattle.std.proofs.Math.Path.{ap}
use Rattle.std.proofs.Math.ListN.{length, length-drop}
use Rattle.std.proofs.Math.Seq.{length-take-le}
use Rattle.refusals.specs.Answers.{Reason, Answer, done, refused, passed, asks, ◌then◌}
use Rattle.refusals.specs.AnswerLaws.{asks_done, then_done, gives_done}
use Rattle.numbers.specs.Tests.{between_≤}
use Rattle.width_table.specs.Table.{max_levels}
use Rattle.table_bytes.specs.Fields.{depth_tag, products_tag, tag_right, IsTag, table_size, value_start, value_length}
use Rattle.table_bytes.specs.Bytes.{levels_in, has_fifth, form}
use Rattle.table_bytes.specs.Names.{has_tag, name_answer, naming, part_at}
use Rattle.table_bytes.specs.BytesLaws.{form_long, levels_byte, levels_most}
use Rattle.table_bytes.specs.ReadLaws.{value_ends, value_within, value_some}

module _ (bytes : List ℕ) (tag : ℕ) where
  abbrev start : ℕ
  start = value_start (levels_in bytes) tag

  abbrev long : ℕ
  long = value_length (levels_in bytes) tag

  abbrev there : Bool
  there = has_tag bytes tag

  decided : (t : Bool) → tag_right tag ≡ t → (o : Answer Unit) → form bytes ≡ o → (h : Bool) → there ≡ h → naming bytes tag ≡ asks t 2 (o then asks h 2 passed) then done (start, long)
  unfolding naming name_answer
  decided t e o f h g = λ u. asks (e u) 2 (f u then asks (g u) 2 passed) then done (start, long)

  pub name_wrong : tag_right tag ≡ false → naming bytes tag ≡ refused (2, [])
  name_wrong e = decided false e (form bytes) refl there refl

  -- after a right name, the form; then whether there is such a tag
  pub name_refused : tag_right tag ≡ true → (r : Reason) → form bytes ≡ refused r → naming bytes tag ≡ refused r
  name_refused e r f = decided true e (refused r) f there refl

  pub name_lacking : tag_right tag ≡ true → form bytes ≡ passed → there ≡ false → naming bytes tag ≡ refused (2, [])
  name_lacking e f g = decided true e passed f false g

  pub name_right : tag_right tag ≡ true → form bytes ≡ passed → there ≡ true → naming bytes tag ≡ done (start, long)
  name_right e f g = decided true e passed f true g

  -- what the place says of the part: it is there whole, and it is not empty
  pub record Valued (from len : ℕ) : Type 0 where
    pub fits : from + len ≤ length bytes
    pub small : from + len ≤ table_size true max_levels
    pub some : 1 ≤ len
    pub long : length (part_at bytes (naming bytes tag)) ≡ len

  pub valued : (from len : ℕ) → naming bytes tag ≡ done (from, len) → Valued from len
  unfolding naming name_answer
  valued from len e =
      let d = gives_done (name_answer bytes tag) (start, long) e in
      let a = asks_done (tag_right tag) _ _ d.0 in
      let b = then_done (form bytes) _ a.1 in
      let t = asks_done there _ _ b.1 in
      let x : start ≡ from = ap (λ (p : ℕ × ℕ). p.0) d.1 in
      let y : long ≡ len = ap (λ (p : ℕ × ℕ). p.1) d.1 in
      let h : IsTag tag = between_≤ depth_tag products_tag tag a.0 in
      let ends = value_ends (levels_in bytes) tag h in
      let within = value_within (levels_in bytes) (has_fifth bytes) tag h t.0 in
      let fits : from + len ≤ length bytes = omega (arith, within, form_long bytes b.0) in
      record {
        fits = fits;
        small = omega (arith, ends, levels_most bytes b.0);
        some = omega (arith, y, value_some (levels_in bytes) (between_≤ 1 max_levels (levels_in bytes) (levels_byte bytes b.0)).0 tag h);
        long = ap (λ (o : Answer (ℕ × ℕ)). length (part_at bytes o)) e ∙ length-take-le len (drop from bytes) (omega (arith, length-drop from bytes, fits));
      }
