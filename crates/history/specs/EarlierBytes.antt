-- Worked cases of reading before document 02, jobs 3 and 7, on the bytes of TableBytes.
use Rattle.std.specs.Prelude.{◌≡◌, refl, true, false, List, [], ◌∷◌, ◌++◌, map, ℕ, take, set}
use Rattle.numbers.specs.Tests.{every}
use Rattle.refusals.specs.Answers.{code}
use Rattle.width_table.specs.Lists.{widths_right}
use Rattle.table_bytes.specs.Bytes.{bytes_of_table, headed, field, form_by}
use Rattle.history.specs.EarlierForms.{form_without, earlier_headed, earlier_field, earlier_form_by, earlier_form, wrong_tag_cut, wrong_length_cut, comes_to, happens}
use Rattle.worked.specs.TableBytes.{good, tagged, some_heads, head_answers}

-- before job 7, what follows the fourth field was 5
pub fifths_before : map (λ b. code (form_without b)) (good ∷ tagged ∷ (good ++ 5 ∷ []) ∷ take 70 tagged ∷ set good 20 0 ∷ []) ≡ 0 ∷ 5 ∷ 5 ∷ 5 ∷ 4 ∷ []
unfolding form_without form_by field headed every widths_right bytes_of_table
fifths_before = refl

-- heads, in the order of job 3
pub heads_before : map (λ b. code (form_without b)) some_heads ≡ head_answers
unfolding form_without form_by field headed every widths_right
heads_before = refl

-- in the order of document 01
pub earlier_heads : map (λ b. code (earlier_form b)) some_heads ≡ 1 ∷ 2 ∷ 1 ∷ 2 ∷ 3 ∷ 1 ∷ 3 ∷ 1 ∷ 1 ∷ 4 ∷ 1 ∷ 1 ∷ 1 ∷ 1 ∷ 4 ∷ []
unfolding earlier_form earlier_form_by earlier_field earlier_headed every widths_right
earlier_heads = refl

-- and the two cases in which an answer changes
pub changed_heads :
    (map (happens wrong_tag_cut) some_heads ≡ true ∷ false ∷ true ∷ false ∷ false ∷ false ∷ false ∷ false ∷ false ∷ false ∷ false ∷ false ∷ true ∷ false ∷ false ∷ [])
    × (map (happens wrong_length_cut) some_heads ≡ false ∷ false ∷ false ∷ false ∷ false ∷ true ∷ false ∷ true ∷ false ∷ false ∷ false ∷ false ∷ false ∷ true ∷ false ∷ [])
unfolding happens comes_to field headed every
changed_heads = (refl, refl)

-- What follows the fourth field was 5 in either order, and neither case happens there: tag 5, whole, and with a wrong length and a value
-- cut short.
pub fifth_heads :
    let tables : List (List ℕ) = tagged ∷ take 60 (set tagged 58 13) ∷ [] in
    (map (λ b. code (earlier_form b)) tables ≡ 5 ∷ 5 ∷ [])
    × (map (λ b. code (form_without b)) tables ≡ 5 ∷ 5 ∷ [])
    × (map (happens wrong_tag_cut) tables ≡ false ∷ false ∷ [])
    × (map (happens wrong_length_cut) tables ≡ false ∷ false ∷ [])
unfolding earlier_form earlier_form_by earlier_field earlier_headed form_without form_by happens comes_to field headed every widths_right bytes_of_table
fifth_heads = (refl, refl, refl, refl)
