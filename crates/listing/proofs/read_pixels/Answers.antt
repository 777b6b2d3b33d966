-- `listing::read_pixels` meets its contract: the first i pixels are read.
use Rattle.std.proofs.Common.{◌≡◌, ℕ, suc, ◌+◌, ◌++◌, [], ◌∷◌, length, take, drop, get_or, set, sym, ◌∙◌, ap, arith, take-suc, take_all, length-take-le}
use Rattle.std.proofs.Math.Seq.{take-suc-set}
use Rattle.listing.specs.Listing.{copy_pixels}
use Rattle.listing.proofs.InputLaws.{pixels_length, pixel_at_lem}
use Rattle.listing.proofs.read_pixels.Goals as goal

pub loop-i-preserved : goal.loop-i-preserved
loop-i-preserved c =
    let t = c.loop-i in
    let b = c.args.bytes.now in
    let l = length-take-le c.args.n c.args.pixels.now c.requires.1 in
    let e : t.i + 1 ≡ suc t.i = omega arith in
    let v : c.two.result ≡ get_or (copy_pixels b) t.i 0 = c.two.ensures ∙ sym (pixel_at_lem b t.i (omega arith)) in
    ap (λ (k : ℕ). take k (set t.p-items t.i c.two.result)) e ∙ take-suc-set t.p-items t.i c.two.result (omega arith)
    ∙ (λ j. t.invariant j ++ (v j ∷ [])) ∙ sym (take-suc (copy_pixels b) t.i 0 (omega (arith, pixels_length b)))
    ∙ ap (λ (k : ℕ). take k (copy_pixels b)) (sym e)

pub returns : goal.returns
returns c =
    let t = c.loop-i in
    let a = c.args in
    let l = length-take-le a.n a.pixels.now c.requires.1 in
    let k : a.n ≡ length (copy_pixels a.bytes.now) = omega (arith, pixels_length a.bytes.now) in
    let e = sym (take_all t.i t.p-items (omega arith)) ∙ t.invariant ∙ take_all t.i (copy_pixels a.bytes.now) (omega arith) in
    λ j. e j ++ drop (k j) a.pixels.now
