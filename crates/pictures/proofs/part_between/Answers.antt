-- Each row is looked at by all_between.
use Rattle.std.proofs.Common.{rules}
use Rattle.pictures.proofs.part_between.Goals as goal

pub returns : goal.returns
returns c = c.rows_tell.ensures c.args.least c.args.most (λ row r f. search rules)
