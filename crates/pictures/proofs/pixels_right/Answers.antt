-- `pictures::pixels_right` meets its contract: all are below 2^B where the largest is.
use Rattle.std.proofs.Common.{sym, arith}
use Rattle.pictures.specs.PixelLaws.{one_shifted, pixels_small, pixel_large}
use Rattle.pictures.proofs.pixels_right.Goals as goal

pub returns-then-most-depth : goal.returns-then-most-depth
returns-then-most-depth c = let e = one_shifted c.args.depth 16 (omega arith) in sym (pixels_small c.args.depth c.args.w c.args.h _ c.args.pixels.now c.largest-most.ensures (omega arith))

pub returns-else-most-depth : goal.returns-else-most-depth
returns-else-most-depth c = let e = one_shifted c.args.depth 16 (omega arith) in sym (pixel_large c.args.depth c.args.w c.args.h _ c.args.pixels.now c.largest-most.ensures (omega arith))
