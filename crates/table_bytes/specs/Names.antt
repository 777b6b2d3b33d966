-- Naming a tag (document 01: books as bytes; document 02, job 7: tag 5): the stretch of the caller's own bytes that holds its value.
use Rattle.std.specs.Prelude.{ℕ, Bool, ◌||◌, List, [], leb, take, drop}
use Rattle.refusals.specs.Answers.{Answer, done, refused, passed, asks, ◌then◌}
use Rattle.table_bytes.specs.Fields.{nodes_tag, tag_right, value_start, value_length}
use Rattle.table_bytes.specs.Bytes.{levels_in, has_fifth, form}

-- bytes of a right form have a field of this tag: every table has tags 1 to 4
abbrev pub has_tag : List ℕ → ℕ → Bool
has_tag bytes tag = leb tag nodes_tag || has_fifth bytes

-- The name is judged first (2), then the whole form (1 to 5), then whether tag 5 is there (2).
unfoldable pub name_answer : List ℕ → ℕ → Answer Unit
name_answer bytes tag = asks (tag_right tag) 2 (form bytes then asks (has_tag bytes tag) 2 passed)

-- the call's answer as a place in the caller's bytes: where the value starts, and its length
unfoldable pub naming : List ℕ → ℕ → Answer (ℕ × ℕ)
naming bytes tag = name_answer bytes tag then done (value_start (levels_in bytes) tag, value_length (levels_in bytes) tag)

-- the part of the caller's bytes that lies there: from its start, of its length; empty where the name is refused (no value is empty)
abbrev pub part_at : List ℕ → Answer (ℕ × ℕ) → List ℕ
part_at bytes (done (start, len)) = take len (drop start bytes)
part_at bytes (refused r) = []
