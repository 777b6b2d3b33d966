use Rattle.std.proofs.Common.{◌≡◌, sym, length, arith}
use Rattle.std.proofs.lemmas.Bool.Decides.{nat_tests}
use Rattle.table_bytes.specs.ReadLaws.{ends_there, more_follows}
use Rattle.table_bytes.proofs.ended.Goals as goal

pub returns-then-is_empty : goal.returns-then-is_empty
returns-then-is_empty c =
    let none : length c.args.bytes.now ≡ 0 = grind (arith, nat_tests) in
    sym (ends_there _ none)

pub returns-else-is_empty : goal.returns-else-is_empty
returns-else-is_empty c =
    let some : length c.args.bytes.now ≡ 0 → ⊥ = grind (arith, nat_tests) in
    sym (more_follows _ some)
