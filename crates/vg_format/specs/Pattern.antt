-- The bits that an instruction fixes, as a mask and a value.
use Rattle.std.specs.Prelude.{◌≡◌, ℕ, ◌^◌, ◌<◌, Bool, cond, nat_eq, bit_and}
use Rattle.std.specs.Int.{bit_at}
use Rattle.vg_isa.specs.declared.isa.Parts.{Parts}
use Rattle.vg_isa.specs.declared.instr.Instr.{Instr}
use Rattle.vg_format.specs.declared.pattern.Pattern.{Pattern}
use Rattle.vg_format.specs.Matching.{matches}

-- the number has a 1 at the bits that pass the test, and at no other
abbrev pub HasOnes : (ℕ → Bool) → ℕ → Type 0
HasOnes test mask = (k : ℕ) → bit_at mask k ≡ cond (test k) 1 0

-- the word has the pattern's value at the bits of its mask
abbrev pub fits : Pattern → ℕ → Bool
fits p word = nat_eq (bit_and word p.mask) p.value

-- The pattern of an instruction: the words that fit it are those that match the instruction. Its mask is a word,
-- and its value has no bit outside of the mask.
pub record IsPatternOf (d : Parts) (instr : Instr) (p : Pattern) : Type 0 where
  pub tells : (word : ℕ) → matches d word instr ≡ fits p word
  pub mask : p.mask < 2 ^ d.word
  pub value : bit_and p.value p.mask ≡ p.value
