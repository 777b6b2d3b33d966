use Prim.Native.Nat.{ℕ}
use mathlib.Core.Path.{sym, ◌∙◌, ap}
use mathlib.Core.Bool.{false}
use lib.Dec.{ltb}
use lib.ListN.{length}
use Rattle.table_bytes.specs.Fields.{table_size}
use Rattle.table_bytes.specs.BytesLaws.{five_longer}
use Rattle.table_bytes.proofs.has_fifth.Goals as goal

pub returns : goal.returns
returns c =
    let b = c.args.bytes.now in
    ap (λ (n : ℕ). ltb n (length b)) (c.table_size.ensures ∙ ap (table_size false) c.levels_in.ensures) ∙ sym (five_longer b c.requires)
