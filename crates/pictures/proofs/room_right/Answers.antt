-- Admitted sides make a size that fits.
use Rattle.std.proofs.Common.{sym, ap, ◌∙◌, arith}
use Rattle.refusals.specs.Told.{told}
use Rattle.pictures.specs.PixelLaws.{size_fits}
use Rattle.pictures.proofs.room_right.Goals as goal

pub overflow_mul-n : goal.overflow_mul-n
overflow_mul-n c = omega (arith, size_fits c.args.w c.args.h (sym c.sides_right.ensures ∙ ap told c.in_ok-sides_right.was))
