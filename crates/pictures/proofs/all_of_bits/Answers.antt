-- What is gathered tells of the values passed.
use Rattle.std.proofs.Common.{◌≡◌, ℕ, ◌+◌, ◌*◌, ◌/◌, ◌%◌, ◌^◌, ◌<◌, ◌≤◌, length, ltb, sym, ◌∙◌, subst, arith, rules, pow_mono, to_z-of_z, w32, SFits}
use lib.Bits.{bit_or}
use Rattle.numbers.specs.Auto.{rd}
use Rattle.slices.specs.Patch.{at}
use Rattle.pictures.specs.RangeChecks.{Tells, OfBits, above_least, Gathered, gathered_more, gathered_tells}
use Rattle.pictures.proofs.all_of_bits.Goals as goal

-- the top is a power of two
power : (bits : ℕ) → bits ≤ 31 → 1 * 2 ^ bits % 4294967296 ≡ 2 ^ bits
power bits few = omega (arith, pow_mono {i = bits} {j = 31} few)

pub loop-v-preserved : goal.loop-v-preserved
loop-v-preserved c =
    let l = c.loop-v in
    let a = c.args in
    let fits : SFits w32 (at a.values.now l.v-index) = search rules in
    let held : rd w32 (at a.values.now l.v-index) ≡ at a.values.now l.v-index = to_z-of_z fits in
    let read : c.above-gathered.result ≡ above_least (2 ^ a.bits) (at a.values.now l.v-index) = c.above-gathered.ensures ∙ (λ i. above_least (power a.bits c.requires i) (held i)) in
    λ few. subst (λ (m : ℕ). Gathered a.bits few (at a.values.now) (l.v-index + 1) (bit_or l.gathered m)) (sym read) (gathered_more a.bits few (at a.values.now) l.v-index l.gathered fits (l.invariant few))

pub returns : goal.returns
returns c =
    let a = c.args in
    let l = c.loop-v in
    let end : l.v-index ≡ length a.values.now = omega arith in
    subst (λ (m : ℕ). Tells ((j : ℕ) → j < length a.values.now → OfBits a.bits (at a.values.now j)) (ltb (l.gathered / 2) m)) (sym (power a.bits c.requires))
    (gathered_tells a.bits c.requires (at a.values.now) (length a.values.now) l.gathered (subst (λ (n : ℕ). Gathered a.bits c.requires (at a.values.now) n l.gathered) end (l.invariant c.requires)))
