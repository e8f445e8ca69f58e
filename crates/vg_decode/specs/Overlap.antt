-- Words that match two instructions.
use Rattle.std.specs.Prelude.{◌≡◌, ℕ, ◌^◌, ◌<◌, ◌≤◌, ◌⊎◌, IsTrue}
use Rattle.vg_isa.specs.declared.isa.Parts.{Parts}
use Rattle.vg_format.specs.Matching.{matches_at}
use Rattle.vg_decode.specs.declared.build_fault.BuildFault.{BuildFault}
use Rattle.vg_decode.specs.declared.build_fault.BuildFault.TheVariants.{Overlap, OutOfMemory}

-- the instructions of two numbers share a word of the description's width
abbrev pub Share : Parts → ℕ → ℕ → ℕ → Type 0
Share d a b word = (word < 2 ^ d.word) × IsTrue (matches_at d word a) × IsTrue (matches_at d word b)

-- The overlap that is told: the first two instructions, in the order of the text, that share a word, and the least
-- word that they share.
pub record IsFirstOverlap (d : Parts) (a b word : ℕ) : Type 0 where
  pub order : a < b
  pub share : Share d a b word
  pub least : (other : ℕ) → Share d a b other → word ≤ other
  pub first : (i k other : ℕ) → i < k → Share d i k other → (a < i) ⊎ ((a ≡ i) × (b ≤ k))

-- what a fault tells of a description; want of memory tells nothing
abbrev pub IsFaultOf : Parts → BuildFault → Type 0
IsFaultOf d (Overlap a b word) = (word.width ≡ d.word) × IsFirstOverlap d a.0 b.0 word.number
IsFaultOf d OutOfMemory = Unit {0}
