-- `scan_bytes::renew` meets its contract: four bytes after the table's.
use Rattle.std.proofs.Common.{◌≡◌, ◌+◌, ◌++◌, List, ℕ, Bool, true, false, arith, sym, ◌∙◌, refl, ap, take, drop, get_or, append_assoc, [], ◌∷◌, ◌/◌, ◌%◌, ◌<◌}
use Rattle.std.proofs.Math.Seq.{drop-drop}
use Rattle.std.specs.Int.{from_bool}
use borrow.Rule.Slice.PartMut.{put_mid}
use Rattle.scan_bytes.specs.ScanBytes.{table_room, scan_length, numbers_of, ended_number}
use Rattle.scan_bytes.specs.ByteLaws.{numbers_are}
use Rattle.scan_bytes.proofs.renew.Goals as goal

high_lem : (w : ℕ) → w < 65536 → w / 256 % 256 ≡ w / 256
high_lem w h = omega arith

marked : (b : Bool) → from_bool b ≡ ended_number b
marked true = refl
marked false = refl

stored : (old new : List ℕ) → put_mid table_room 4 old new ≡ take table_room old ++ new ++ drop scan_length old
stored old new = sym (append_assoc (take table_room old) new _) ∙ ap (λ (l : List ℕ). take table_room old ++ new ++ l) (drop-drop 4 table_room old)

pub returns : goal.returns
returns c =
    let a = c.args in
    let high : a.width / 256 % 256 ≡ a.width / 256 = high_lem a.width (omega arith) in
    let mark : c.from.result ≡ ended_number a.ended = c.from.ensures ∙ marked a.ended in
    let new : c.copy_from_slice.new.self ≡ numbers_of a.width a.taken a.ended =
    c.copy_from_slice.ensures.after
    ∙ ap (λ (l : List ℕ). get_or l 0 0 ∷ get_or l 1 0 ∷ c.taken_number.result ∷ c.from.result ∷ []) c.to_be_bytes.ensures
    ∙ (λ i. high i ∷ a.width % 256 ∷ c.taken_number.ensures i ∷ mark i ∷ []) in
    ap (put_mid table_room 4 a.state.now) new
    ∙ stored a.state.now (numbers_of a.width a.taken a.ended)
    ∙ sym (numbers_are a.width a.taken a.ended a.state.now (omega arith) (omega arith))
