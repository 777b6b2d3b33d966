-- The digits are those of the tenth part, then the last one.
use Rattle.std.proofs.Common.{sym, ap, arith, length}
use Rattle.listing.specs.Writing.{put_length, put_same, put_then}
use Rattle.listing.specs.TextLaws.{natural_one, natural_more, natural_longer}
use Rattle.listing.proofs.+put_natural.Goals as goal

pub put-requires : goal.put-requires
put-requires t c = omega (arith, ap length (natural_one c.args.n (omega arith)))

pub returns-then-n-lt10 : goal.returns-then-n-lt10
returns-then-n-lt10 t c = put_same _ _ c.put.ensures (sym (natural_one c.args.n (omega arith)))

pub put_natural-next-requires : goal.put_natural-next-requires
put_natural-next-requires t c = (omega arith, omega (arith, natural_longer c.args.n (omega arith)))

pub put-requires-2 : goal.put-requires-2
put-requires-2 t c = omega (arith, natural_longer c.args.n (omega arith), put_length c.put_natural-next.ensures)

pub returns : goal.returns
returns t c = put_same _ _ (put_then c.put_natural-next.ensures c.put-2.ensures) (sym (natural_more c.args.n (omega arith)))
