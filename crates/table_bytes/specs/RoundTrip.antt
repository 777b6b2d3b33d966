-- Tables through bytes and back: a table that was read is of right form and is written as the bytes it was read from;
-- a table of right form that was written is read back as itself; lent bytes past the table's length never change.
use Rattle.std.specs.Prelude.{ℕ, ◌-◌, ◌≤◌, Bool, ◌&&◌, ◌≡◌, eqb, length, take, replicate}
use Rattle.std.proofs.Math.Bool.{true, false}
use mathlib.Core.List.{List}
use Rattle.std.proofs.Math.Path.{refl, sym, ap, subst}
use Rattle.std.proofs.Common.{◌∙◌, arith, take_at}
use Rattle.std.proofs.Math.Dec.{T}
use Rattle.std.proofs.Math.ListN.{drop, length-append, length-drop, length-replicate}
use Rattle.std.proofs.Math.Seq.{drop_at, length-take-le}
use Rattle.numbers.specs.Tests.{every, and_intro, is_true}
use Rattle.numbers.specs.Lists.{over, zeros_right}
use Rattle.refusals.specs.Answers.{Answer, done, refused, passed, answered}
use Rattle.refusals.specs.AnswerLaws.{asks_done}
use Rattle.width_table.specs.declared.WidthTable.{WidthTable}
use Rattle.width_table.specs.Nodes.{nodes_per_pass}
use Rattle.width_table.specs.Table.{max_levels, depth_right, levels_right, constant_right, product_right, form_right}
use Rattle.width_table.specs.Lists.{node_bytes, product_bytes, widths_right, used_products, FullLists, form_lists}
use Rattle.table_bytes.specs.Fields.{constants_tag, nodes_tag, products_tag, table_size, value_start}
use Rattle.table_bytes.specs.Bytes.{levels_in, has_fifth, form, value_in, products_in, table_in, table_read, bytes_of_table, write_answer, writing, bytes_after}
use Rattle.width_table.specs.FormLists.{form_lists_lem}
use Rattle.table_bytes.specs.BytesLaws.{form_done, form_long, four_there, depth_byte, levels_byte, levels_most, nodes_long, products_long, products_right, RightForm, right_form, read_written, form_written, bytes_length, written_read}
use Rattle.table_bytes.specs.ReadLaws.{table_read_lem}
use Rattle.table_bytes.specs.WriteLaws.{table_written_lem}

-- the rules by lists make the form
rules_form : (t : WidthTable) → FullLists t → RightForm t → form_right t ≡ true
unfolding form_lists
rules_form t s r =
    let a = depth_right t.depth in
    let b = levels_right t.levels in
    let c = every constant_right t.constants in
    let d = widths_right (take (node_bytes t.levels) t.nodes) in
    let e = every (eqb 0) (drop (node_bytes t.levels) t.nodes) in
    let f = every product_right (take (used_products t) t.products) in
    let g = every (eqb 0) (drop (used_products t) t.products) in
    let five = and_intro (a && b && c && d) e (and_intro (a && b && c) d (and_intro (a && b) c (and_intro a b r.depth r.levels) r.constants) r.widths) r.unused in
    form_lists_lem t s ∙ is_true (form_lists t) (and_intro (a && b && c && d && e && f) g (and_intro (a && b && c && d && e) f five r.products) r.unused_products)

-- ---- read, then written

module _ (bytes : List ℕ) (e : form bytes ≡ passed) where
  abbrev N : ℕ
  N = node_bytes (levels_in bytes)

  abbrev unused : List ℕ
  unused = replicate (node_bytes max_levels - N) 0

  abbrev M : ℕ
  M = product_bytes (levels_in bytes)

  abbrev used_in : Bool → ℕ
  used_in has_products = elim has_products [ true ↦ M | false ↦ 0 ]

  abbrev rest : List ℕ
  rest = replicate (product_bytes max_levels - M) 0

  -- the products' numbers, with tag 5 and without it
  record ProductsRead (has_products : Bool) : Type 0 where
    pub sized : length (products_in has_products bytes) ≡ product_bytes max_levels
    pub right : T (every product_right (take (used_in has_products) (products_in has_products bytes)))
    pub unused : T (every (eqb 0) (drop (used_in has_products) (products_in has_products bytes)))

  products_read : (has_products : Bool) → has_fifth bytes ≡ has_products → ProductsRead has_products
  unfolding every
  products_read true has_products =
      let v = value_in bytes products_tag in
      let few = levels_most bytes e in
      let long = products_long bytes e has_products in
      record {
        sized = length-append v rest ∙ omega (arith, long, length-replicate {A = ℕ} (product_bytes max_levels - M) 0);
        right = subst (λ (l : List ℕ). T (every product_right l)) (sym (take_at v rest M long)) (products_right bytes e has_products);
        unused = subst (λ (l : List ℕ). T (every (eqb 0) l)) (sym (drop_at v rest M long)) (zeros_right (product_bytes max_levels - M));
      }
  products_read false none = record {
    sized = length-replicate {A = ℕ} (product_bytes max_levels) 0;
    right = tt;
    unused = zeros_right (product_bytes max_levels);
  }

  pub read_sized : FullLists (table_in bytes)
  unfolding table_in
  read_sized =
      let few = levels_most bytes e in
      let start = value_start (levels_in bytes) constants_tag in
      record {
        constants = length-take-le nodes_per_pass (drop start bytes) (omega (arith, length-drop start bytes, four_there bytes e));
        nodes = length-append (value_in bytes nodes_tag) unused ∙ omega (arith, nodes_long bytes e, length-replicate {A = ℕ} (node_bytes max_levels - N) 0);
        products = (products_read (has_fifth bytes) refl).sized;
      }

  -- the rules that it keeps
  read_right : RightForm (table_in bytes)
  unfolding table_in
  read_right = record {
    depth = depth_byte bytes e;
    levels = levels_byte bytes e;
    constants = (form_done bytes e).1.1.0.value;
    widths = subst (λ (l : List ℕ). T (widths_right l)) (sym (take_at (value_in bytes nodes_tag) unused N (nodes_long bytes e))) (form_done bytes e).1.1.1.0.value;
    unused = subst (λ (l : List ℕ). T (every (eqb 0) l)) (sym (drop_at (value_in bytes nodes_tag) unused N (nodes_long bytes e))) (zeros_right (node_bytes max_levels - N));
    products = (products_read (has_fifth bytes) refl).right;
    unused_products = (products_read (has_fifth bytes) refl).unused;
  }

  pub read_formed : form_right (table_in bytes) ≡ true
  read_formed = rules_form (table_in bytes) read_sized read_right

  pub read_writes : (lent : List ℕ) → length bytes ≤ length lent → (writing (table_in bytes) lent ≡ done (length bytes)) × (bytes_after (table_in bytes) lent ≡ over bytes lent)
  unfolding table_in
  read_writes lent h =
      let w = table_written_lem (table_in bytes) lent read_formed (omega (arith, form_long bytes e)) in
      (sym w.0 ∙ ap done (sym (form_long bytes e)), sym w.1 ∙ ap (λ (l : List ℕ). over l lent) (read_written bytes e))

-- ---- written, then read

module _ (t : WidthTable) (s : FullLists t) where
  abbrev size : ℕ
  size = table_size t.has_products t.levels

  right : form_right t ≡ true → RightForm t
  right h = right_form t s (subst T (sym h) tt)

  -- bytes that are read as this table
  abbrev pub ReadsBack : List ℕ → Type 0
  ReadsBack bytes = (form bytes ≡ passed) × (table_read bytes ≡ t)

  pub written_reads : form_right t ≡ true → ReadsBack (bytes_of_table t)
  written_reads h =
      let e = form_written t s (right h) in
      (e, table_read_lem (bytes_of_table t) e ∙ written_read t s (right h))

  pub lent_reads : form_right t ≡ true → (lent : List ℕ) → size ≤ length lent → ReadsBack (take size (bytes_after t lent))
  lent_reads h lent k =
      let e : take size (bytes_after t lent) ≡ bytes_of_table t =
      ap (take size) (sym (table_written_lem t lent h k).1)
      ∙ take_at (bytes_of_table t) (drop (length (bytes_of_table t)) lent) size (bytes_length t s (right h))
      in
      subst ReadsBack (sym e) (written_reads h)

  -- whatever the answer
  pub past_kept : (lent : List ℕ) → drop size (bytes_after t lent) ≡ drop size lent
  unfolding bytes_after write_answer
  past_kept lent = go (write_answer t lent) refl
    where
      go : (o : Answer Unit) → write_answer t lent ≡ o → drop size (answered o (over (bytes_of_table t) lent) lent) ≡ drop size lent
      go (done a) e =
          let long = bytes_length t s (right_form t s (asks_done (form_right t) _ _ e).0) in
          drop_at (bytes_of_table t) (drop (length (bytes_of_table t)) lent) size long ∙ ap (λ (n : ℕ). drop n lent) long
      go (refused r) e = refl
