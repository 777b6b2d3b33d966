-- `viewing::show` meets its contract: all levels but the first, its columns, its rows.
use mathlib.Core.Path.{refl}
use native.Mathlib.Omega.{arith}
use Rattle.viewing.proofs.CallStepLaws.{first_ready, rows_ready, pixels_shown, work_cleared}
use Rattle.viewing.proofs.show.Goals as goal

pub columns_back-requires : goal.columns_back-requires
columns_back-requires c = first_ready c.requires.0 _ _ c.levels_back.ensures c.levels_back.new.work _ _ (omega arith) (omega arith) (omega arith) refl

pub finish_rows-requires : goal.finish_rows-requires
finish_rows-requires c = rows_ready c.requires.0 _ _ c.levels_back.ensures c.columns_back.new.work c.columns_back.ensures _ _ (omega arith) (omega arith) c.requires.1

pub returns : goal.returns
returns c =
    let a = c.args in record {
      pixels = pixels_shown c.requires.0 _ _ c.levels_back.ensures c.columns_back.new.work c.columns_back.ensures a.pixels.now _ c.requires.1 (omega (arith, c.finish_rows.auto)) c.finish_rows.ensures.pixels;
      work = work_cleared c.requires.0 _ _ c.levels_back.ensures c.columns_back.new.work c.columns_back.ensures a.work.now _ refl refl (omega (arith, c.finish_rows.auto, c.columns_back.auto, c.levels_back.auto)) c.finish_rows.ensures.work;
    }
