-- Worked cases: what document 01 says of tables, and document 02, job 7, of product widths, on tables of one width.
use Rattle.std.specs.Prelude.{ℕ, zero, suc, ◌+◌, ◌*◌, ◌-◌, ◌≡◌, refl, Bool, true, false, List, [], ◌∷◌, ◌++◌, map, length, replicate, take, drop, set}
use Rattle.std.proofs.Common.{arith}
use Rattle.numbers.specs.Tests.{every}
use Rattle.refusals.specs.Answers.{done, refused, code}
use Rattle.width_table.specs.declared.WidthTable.{WidthTable}
use Rattle.width_table.specs.Nodes.{nodes_per_pass, nodes_per_level, Rows, LowColumns, P2}
use Rattle.width_table.specs.Table.{max_levels, form_right, integer_bits, fraction_bits, input_bits}
use Rattle.width_table.specs.Lists.{node_bytes, product_bytes, widths_right}
use Rattle.table_bytes.specs.Fields.{table_size}
use Rattle.table_bytes.specs.Bytes.{bytes_of_table, headed, field, form_by, form, table_in, table_read, empty_table, write_answer, writing, bytes_after}
use Rattle.width_table.specs.Changes.{width_answer, table_after_width, constant_answer, table_after_constant, product_answer, table_after_product}
use Rattle.table_bytes.specs.Names.{name_answer, naming, part_at}
use Rattle.width_table.specs.Readers.{constant_bits_at, integer_bits_at, fraction_bits_at, product_width_at, cut_at, input_bits_at}

-- ---- tables

abbrev pairs : ℕ → ℕ → ℕ → List ℕ
pairs zero IB f = []
pairs (suc n) IB f = IB ∷ f ∷ pairs n IB f

-- every constant F, every node (IB, f), and no tag 5
abbrev pub uniform : ℕ → ℕ → ℕ → ℕ → ℕ → WidthTable
uniform B L F IB f = record {
  depth = B;
  levels = L;
  constants = replicate nodes_per_pass F;
  nodes = pairs (nodes_per_level * L) IB f ++ replicate (node_bytes max_levels - node_bytes L) 0;
  has_products = false;
  products = replicate (product_bytes max_levels) 0;
}

-- a table with these widths of products; one with tag 5, where every product of its levels is fp wide
abbrev pub with_products : WidthTable → Bool → List ℕ → WidthTable
with_products t has_products l = record { depth = t.depth; levels = t.levels; constants = t.constants; nodes = t.nodes; has_products = has_products; products = l }

abbrev pub cutting : WidthTable → ℕ → WidthTable
cutting t fp = with_products t true (replicate (product_bytes t.levels) fp ++ replicate (product_bytes max_levels - product_bytes t.levels) 0)

-- a table with one of the nodes' numbers put in, and one of the products'
abbrev with : WidthTable → ℕ → ℕ → WidthTable
with t k n = record { depth = t.depth; levels = t.levels; constants = t.constants; nodes = set t.nodes k n; has_products = t.has_products; products = t.products }

abbrev with_number : WidthTable → ℕ → ℕ → WidthTable
with_number t k n = with_products t t.has_products (set t.products k n)

abbrev usual : WidthTable
usual = uniform 8 1 24 12 20

abbrev pub good : List ℕ
good = bytes_of_table usual

-- the same table with tag 5: 15 bytes more
abbrev cut : WidthTable
cut = cutting usual 30

abbrev pub tagged : List ℕ
tagged = bytes_of_table cut

-- 20 + 36 L bytes without tag 5, 23 + 48 L with it
pub sizes : (L : ℕ) → (table_size false L ≡ 20 + 36 * L) × (table_size true L ≡ 23 + 48 * L)
sizes L = (omega arith, omega arith)

pub lengths :
    let tables = uniform 8 1 24 12 20 ∷ uniform 8 2 24 12 20 ∷ uniform 8 3 24 12 20 ∷ uniform 8 4 24 12 20 ∷ uniform 8 5 24 12 20 ∷ [] in
    (map (λ t. length (bytes_of_table t)) tables ≡ 56 ∷ 92 ∷ 128 ∷ 164 ∷ 200 ∷ [])
    × (map (λ t. length (bytes_of_table (cutting t 30))) tables ≡ 71 ∷ 119 ∷ 167 ∷ 215 ∷ 263 ∷ [])
unfolding bytes_of_table
lengths = (refl, refl)

-- ---- reading: answers as numbers, 0 where the call is done

-- the first: a right table; then the bytes end early, another tag, another length, numbers outside their limits, a byte too many
pub readings :
    map (λ b. code (form b)) (
    good ∷ [] ∷ take 2 good ∷ set good 0 9 ∷ set good 2 0 ∷ set good 3 0 ∷ take 4 (set good 3 13) ∷ set good 7 2 ∷ set good 7 6 ∷ set good 11 25 ∷ set good 20 0 ∷ set good 21 21
    ∷ take 55 good ∷ (good ++ (0 ∷ [])) ∷ take 20 (set good 17 5) ∷ [])
    ≡ 0 ∷ 1 ∷ 1 ∷ 2 ∷ 3 ∷ 4 ∷ 4 ∷ 3 ∷ 4 ∷ 4 ∷ 4 ∷ 4 ∷ 1 ∷ 5 ∷ 2 ∷ []
unfolding form form_by field headed every widths_right bytes_of_table
readings = refl

-- Tag 5: a right table; products of 0 and 44 bits; then another byte right after the fourth field (5), the tag alone and its head cut
-- (1), another length (3), also with the value cut short, the value cut short (1), a number above 44 (4), bytes after the value (5),
-- a number above 44 and bytes after it (4), and tag 5 in the place of tag 4 (2).
pub fifths :
    map (λ b. code (form b)) (
    tagged ∷ set tagged 59 0 ∷ set tagged 70 44 ∷ (good ++ 6 ∷ 0 ∷ []) ∷ (good ++ 5 ∷ []) ∷ (good ++ 5 ∷ 0 ∷ []) ∷ (good ++ 5 ∷ 0 ∷ 12 ∷ []) ∷ set tagged 58 13 ∷ take 60 (set tagged 58 13) ∷ take 70 tagged
    ∷ set tagged 59 45 ∷ set tagged 70 45 ∷ (tagged ++ 0 ∷ []) ∷ (tagged ++ 5 ∷ []) ∷ (set tagged 70 45 ++ 0 ∷ []) ∷ (take 17 good ++ drop 56 tagged) ∷ [])
    ≡ 0 ∷ 0 ∷ 0 ∷ 5 ∷ 1 ∷ 1 ∷ 1 ∷ 3 ∷ 3 ∷ 1 ∷ 4 ∷ 4 ∷ 5 ∷ 5 ∷ 4 ∷ 2 ∷ []
unfolding form form_by field headed every widths_right bytes_of_table
fifths = refl

-- Heads with values that are cut short or whole: a tag of 9 is 2 and, after tag 1, a length other than 1 is 3, however many bytes
-- follow; a right head alone is 1; a depth of 0 is 4 though all else is missing; two bytes of a head are 1, whatever they are.
abbrev pub some_heads : List (List ℕ)
some_heads =
    (9 ∷ 0 ∷ 5 ∷ []) ∷ (9 ∷ 0 ∷ 0 ∷ []) ∷ (9 ∷ 0 ∷ 1 ∷ []) ∷ (9 ∷ 0 ∷ 1 ∷ 8 ∷ [])
    ∷ (1 ∷ 0 ∷ 0 ∷ []) ∷ (1 ∷ 0 ∷ 2 ∷ 8 ∷ []) ∷ (1 ∷ 0 ∷ 2 ∷ 8 ∷ 8 ∷ []) ∷ (1 ∷ 1 ∷ 1 ∷ 8 ∷ [])
    ∷ (1 ∷ 0 ∷ 1 ∷ []) ∷ (1 ∷ 0 ∷ 1 ∷ 0 ∷ []) ∷ (1 ∷ 0 ∷ 1 ∷ 8 ∷ []) ∷ (9 ∷ 1 ∷ [])
    ∷ (1 ∷ 0 ∷ 1 ∷ 8 ∷ 9 ∷ 0 ∷ 5 ∷ []) ∷ (1 ∷ 0 ∷ 1 ∷ 8 ∷ 2 ∷ 0 ∷ 5 ∷ []) ∷ (1 ∷ 0 ∷ 1 ∷ 0 ∷ 9 ∷ 0 ∷ 5 ∷ []) ∷ []

abbrev pub head_answers : List ℕ
head_answers = 2 ∷ 2 ∷ 2 ∷ 2 ∷ 3 ∷ 3 ∷ 3 ∷ 3 ∷ 1 ∷ 4 ∷ 1 ∷ 1 ∷ 2 ∷ 3 ∷ 4 ∷ []

pub heads : map (λ b. code (form b)) some_heads ≡ head_answers
unfolding form form_by field headed every widths_right
heads = refl

-- 5 comes after a right fourth field alone; fractional bits 0 are right
pub ends : map (λ b. code (form b)) ((set good 20 0 ++ (0 ∷ [])) ∷ (take 55 good ++ []) ∷ set good 21 0 ∷ []) ≡ 4 ∷ 1 ∷ 0 ∷ []
unfolding form form_by field headed every widths_right bytes_of_table
ends = refl

pub read_back : (table_read good ≡ usual) × (table_read (take 55 good) ≡ empty_table) × (table_read tagged ≡ cut) × (table_read (take 70 tagged) ≡ empty_table)
unfolding table_read table_in form form_by field headed every widths_right bytes_of_table
read_back = (refl, refl, refl, refl)

-- book order: the columns of row-low come second, P2 third; level 2 takes what G1 of those columns leaves
pub order :
    let t = table_in (set (set (set (bytes_of_table (uniform 8 2 24 12 20)) 36 5) 37 7) 41 9) in
    integer_bits t 1 LowColumns P2 ∷ fraction_bits t 1 LowColumns P2 ∷ input_bits t 1 Rows ∷ input_bits t 1 LowColumns ∷ input_bits t 2 Rows ∷ [] ≡ 5 ∷ 7 ∷ 8 ∷ 20 ∷ 9 ∷ []
unfolding table_in bytes_of_table
order = refl

-- ---- the form in memory

-- IB 0 and f 21 at a used level, a number other than 0 at an unused one, limits of depth, levels and constants
pub forms :
    map form_right (usual ∷ uniform 12 5 1 1 0 ∷ with usual 0 0 ∷ with usual 35 21 ∷ with usual 36 1 ∷ with usual 179 1 ∷ uniform 0 1 24 12 20 ∷ uniform 13 1 24 12 20 ∷ uniform 8 0 24 12 20 ∷ uniform 8 6 24 12 20 ∷ uniform 8 1 0 12 20 ∷ uniform 8 1 25 12 20 ∷ empty_table ∷ [])
    ≡ true ∷ true ∷ false ∷ false ∷ false ∷ false ∷ false ∷ false ∷ false ∷ false ∷ false ∷ false ∷ false ∷ []
unfolding form_right every
forms = refl

-- Tag 5: products of 0 and 44 bits; 45, a number other than 0 at an unused level, and one without tag 5
pub product_forms :
    map form_right (cut ∷ cutting (uniform 12 5 1 1 0) 44 ∷ with_number cut 0 0 ∷ with_number cut 11 45 ∷ with_number cut 12 1 ∷ with_number cut 59 1 ∷ with_number usual 0 1 ∷ with_number usual 59 1 ∷ [])
    ≡ true ∷ true ∷ true ∷ false ∷ false ∷ false ∷ false ∷ false ∷ []
unfolding form_right every
product_forms = refl

-- ---- naming a tag

pub names :
    (map (naming good) (1 ∷ 2 ∷ 3 ∷ 4 ∷ []) ≡ done (3, 1) ∷ done (7, 1) ∷ done (11, 6) ∷ done (20, 36) ∷ [])
    × (map (naming tagged) (4 ∷ 5 ∷ []) ≡ done (20, 36) ∷ done (59, 12) ∷ [])
unfolding naming name_answer form form_by field headed every widths_right bytes_of_table
names = (refl, refl)

-- the name is judged before the bytes, and tag 5 where there is none after them
pub no_names :
    (map (λ tag. code (naming good tag)) (0 ∷ 5 ∷ 6 ∷ []) ≡ 2 ∷ 2 ∷ 2 ∷ [])
    × (map (λ tag. code (naming [] tag)) (0 ∷ 4 ∷ 5 ∷ 6 ∷ []) ≡ 2 ∷ 1 ∷ 1 ∷ 2 ∷ [])
    × (map (λ tag. code (naming (good ++ 0 ∷ []) tag)) (1 ∷ 5 ∷ 6 ∷ []) ≡ 5 ∷ 5 ∷ 2 ∷ [])
    × (map (λ tag. code (naming tagged tag)) (0 ∷ 6 ∷ []) ≡ 2 ∷ 2 ∷ [])
unfolding naming name_answer form form_by field headed every widths_right bytes_of_table
no_names = (refl, refl, refl, refl)

pub values :
    let value : List ℕ → ℕ → List ℕ = λ b tag. part_at b (naming b tag) in
    value good 1 ∷ value good 3 ∷ value [] 3 ∷ value tagged 5 ∷ value good 5 ∷ [] ≡ (8 ∷ []) ∷ (24 ∷ 24 ∷ 24 ∷ 24 ∷ 24 ∷ 24 ∷ []) ∷ [] ∷ replicate 12 30 ∷ [] ∷ []
unfolding naming name_answer form form_by field headed every widths_right bytes_of_table
values = refl

-- ---- changes

abbrev change : ℕ → ℕ → ℕ → ℕ → ℕ → ℕ
change l p k IB f = code (width_answer usual l p k IB f)

-- two that are right; a level above L, also for a width of 0; no such level, pass or node; numbers outside their limits
pub changes :
    change 1 1 1 3 7 ∷ change 1 3 6 1 0 ∷ change 2 1 1 3 7 ∷ change 2 1 1 0 0 ∷ change 6 1 1 3 7 ∷ change 0 1 1 3 7 ∷ change 1 4 1 3 7 ∷ change 1 0 1 3 7 ∷ change 1 1 7 3 7 ∷ change 1 1 0 3 7 ∷ change 1 1 1 0 7 ∷ change 1 1 1 13 7 ∷ change 1 1 1 12 21 ∷ []
    ≡ 0 ∷ 0 ∷ 4 ∷ 4 ∷ 4 ∷ 4 ∷ 4 ∷ 4 ∷ 4 ∷ 4 ∷ 4 ∷ 4 ∷ 4 ∷ []
unfolding width_answer form_right every
changes = refl

-- the last node of the table, and the old table where the change is refused
pub changed : (bytes_of_table (table_after_width usual 1 3 6 1 0) ≡ set (set good 54 1) 55 0) × (table_after_width usual 2 1 1 3 7 ≡ usual)
unfolding table_after_width width_answer form_right every bytes_of_table
changed = (refl, refl)

-- a table that is not right is refused 4, though the change would mend it
pub not_mended :
    (width_answer (with usual 0 0) 1 1 1 12 20 ≡ refused (4, []))
    × (table_after_width (with usual 0 0) 1 1 1 12 20 ≡ with usual 0 0)
    × (constant_answer (uniform 8 1 25 12 20) 1 24 ≡ refused (4, []))
unfolding table_after_width width_answer constant_answer form_right every
not_mended = (refl, refl, refl)

-- widths of products: two that are right; without tag 5; a level above L; no such pass or product (G1 has none); 45 bits
pub product_changes :
    let change : WidthTable → ℕ → ℕ → ℕ → ℕ → ℕ = λ t l p k fp. code (product_answer t l p k fp) in
    (change cut 1 1 1 0 ∷ change cut 1 3 4 44 ∷ change usual 1 1 1 0 ∷ change cut 2 1 1 0 ∷ change cut 1 4 1 7 ∷ change cut 1 1 5 7 ∷ change cut 1 1 0 7 ∷ change cut 1 1 1 45 ∷ [] ≡ 0 ∷ 0 ∷ 4 ∷ 4 ∷ 4 ∷ 4 ∷ 4 ∷ 4 ∷ [])
    × (bytes_of_table (table_after_product cut 1 2 3 7) ≡ set tagged 65 7)
    × (table_after_product usual 1 2 3 7 ≡ usual)
unfolding table_after_product product_answer form_right every bytes_of_table
product_changes = (refl, refl, refl)

abbrev change_f : ℕ → ℕ → ℕ
change_f k F = code (constant_answer usual k F)

pub constants :
    (change_f 1 1 ∷ change_f 6 24 ∷ change_f 0 1 ∷ change_f 7 1 ∷ change_f 1 0 ∷ change_f 1 25 ∷ [] ≡ 0 ∷ 0 ∷ 4 ∷ 4 ∷ 4 ∷ 4 ∷ [])
    × ((table_after_constant usual 6 9).constants ≡ 24 ∷ 24 ∷ 24 ∷ 24 ∷ 24 ∷ 9 ∷ [])
unfolding table_after_constant constant_answer form_right every
constants = (refl, refl)

-- ---- writing

-- 4 before 9; a table that no judge would accept is written; bytes past its length stay
pub writes :
    (writing usual (replicate 57 7) ∷ writing usual (replicate 55 7) ∷ writing (uniform 8 1 25 12 20) [] ∷ writing (with usual 36 1) (replicate 57 7) ∷ writing (uniform 8 1 24 2 0) (replicate 56 7) ∷ []
    ≡ done 56 ∷ refused (9, []) ∷ refused (4, []) ∷ refused (4, []) ∷ done 56 ∷ [])
    × (bytes_after usual (replicate 57 7) ≡ good ++ (7 ∷ []))
    × (bytes_after usual (replicate 55 7) ≡ replicate 55 7)
unfolding writing bytes_after write_answer form_right every bytes_of_table
writes = (refl, refl, refl)

-- the same with tag 5; a table without it that has a product is refused 4
pub product_writes :
    (writing cut (replicate 72 7) ∷ writing cut (replicate 70 7) ∷ writing (with_number usual 0 1) (replicate 72 7) ∷ [] ≡ done 71 ∷ refused (9, []) ∷ refused (4, []) ∷ [])
    × (bytes_after cut (replicate 72 7) ≡ tagged ++ 7 ∷ [])
    × (tagged ≡ good ++ 5 ∷ 0 ∷ 12 ∷ replicate 12 30)
unfolding writing bytes_after write_answer form_right every bytes_of_table
product_writes = (refl, refl, refl)

-- ---- widths by number: 0 where there is no such node

pub by_number :
    constant_bits_at usual 1 ∷ constant_bits_at usual 6 ∷ constant_bits_at usual 0 ∷ constant_bits_at usual 7 ∷ integer_bits_at usual 1 3 6 ∷ fraction_bits_at usual 1 3 6 ∷ integer_bits_at usual 2 1 1 ∷ integer_bits_at usual 0 1 1 ∷ fraction_bits_at usual 1 0 1 ∷ fraction_bits_at usual 1 1 7 ∷ input_bits_at usual 1 1 ∷ input_bits_at usual 1 2 ∷ input_bits_at usual 2 1 ∷ input_bits_at usual 6 1 ∷ input_bits_at usual 0 1 ∷ input_bits_at usual 1 0 ∷ input_bits_at usual 1 4 ∷ []
    ≡ 24 ∷ 24 ∷ 0 ∷ 0 ∷ 12 ∷ 20 ∷ 0 ∷ 0 ∷ 0 ∷ 0 ∷ 8 ∷ 20 ∷ 20 ∷ 0 ∷ 0 ∷ 0 ∷ 0 ∷ []
unfolding constant_bits_at integer_bits_at fraction_bits_at input_bits_at
by_number = refl

-- of products: 0 where there is none, and what each is cut to, the limit without tag 5
pub products_by_number :
    (product_width_at cut 1 3 4 ∷ product_width_at cut 2 1 1 ∷ product_width_at cut 1 1 5 ∷ product_width_at cut 1 0 1 ∷ product_width_at usual 1 1 1 ∷ [] ≡ 30 ∷ 0 ∷ 0 ∷ 0 ∷ 0 ∷ [])
    × (cut_at cut 1 1 1 ∷ cut_at usual 1 1 1 ∷ [] ≡ 30 ∷ 44 ∷ [])
unfolding product_width_at cut_at
products_by_number = (refl, refl)
