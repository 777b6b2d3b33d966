-- `viewing::columns_back` meets its contract: the columns of row-low, then those of row-high.
use mathlib.Core.Path.{◌≡◌, sym, ◌∙◌}
use native.Mathlib.Omega.{arith}
use Rattle.lines.specs.Lines.{lows}
use Rattle.slices.specs.Patch.{at}
use Rattle.slices.specs.Runs.{as_type}
use Rattle.inverse_lifting.specs.Planes.{Safe}
use Rattle.inverse_lifting.specs.Strips.{source, inverted}
use Rattle.viewing.specs.LevelSteps.{low_site, high_site, lowed}
use Rattle.viewing.proofs.columns_back.Goals as goal

pub columns-requires-2 : goal.columns-requires-2
columns-requires-2 c =
    let once : let a = c.args in at c.columns.new.work ≡ lowed a.table a.level a.site.width a.site.stride a.site.w a.site.h (at a.plane.now) (at a.work.now) =
    let a = c.args in
    c.columns.ensures.work
    ∙ (λ u. inverted (low_site a.table a.level a.site.width a.site.stride a.site.w) (c.low_low_bits.ensures.0 u) (c.stored_bits.ensures.0 u) (lows a.site.w) a.site.h (at a.plane.now) (at a.work.now)) in
    let a = c.args in
    let low = c.stored_bits-2.ensures in
    let high = c.stored_bits-3.ensures in record {
      lies = (
        record {
          few = c.requires.part.few;
          narrow = omega (arith, c.requires.part.narrow);
          in_plane = λ r i. omega (arith, c.requires.in_plane r i);
          in_work = λ r i. omega (arith, c.requires.part.fits r i);
        },
        omega (arith, c.requires.some),
        omega (arith, c.requires.spare),
        low.1,
        high.1,
      );
      by_index = (λ j i. as_type (λ u. Safe (sym low.0 u) (sym high.0 u) a.site.h (source (high_site a.table a.level a.site.width a.site.stride a.site.w) a.site.h (at a.plane.now) (sym once u) j)) (c.requires.safe.on_high_columns j i));
    }
