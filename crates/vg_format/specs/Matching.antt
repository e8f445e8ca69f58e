-- Which instruction a word is.
use Rattle.std.specs.Prelude.{◌≡◌, ℕ, ◌^◌, ◌<◌, Bool, false, IsTrue, nat_eq, Option, Some, None, position, slice_get}
use Rattle.std.specs.List.{list_all}
use Rattle.std.specs.Option.{option_map_or}
use Rattle.vg_isa.specs.declared.isa.Parts.{Parts}
use Rattle.vg_isa.specs.declared.instr.Instr.{Instr}
use Rattle.vg_isa.specs.Declaration.{field_of}

-- each field that the instruction's encoding fixes has its value in the word
abbrev pub matches : Parts → ℕ → Instr → Bool
matches d word instr = list_all (λ fix. nat_eq (field_of d fix.0 word).number fix.1.number) instr.fixed

-- the word matches the instruction of this number
abbrev pub matches_at : Parts → ℕ → ℕ → Bool
matches_at d word k = option_map_or (matches d word) (slice_get d.instrs k) false

-- What a word is: the number of the one instruction that it matches, or none where it matches none.
abbrev pub Decodes : Parts → ℕ → Option ℕ → Type 0
Decodes d word None = (k : ℕ) → matches_at d word k ≡ false
Decodes d word (Some i) = IsTrue (matches_at d word i) × ((k : ℕ) → IsTrue (matches_at d word k) → k ≡ i)

-- a word matches no two instructions
abbrev pub MatchesOne : Parts → ℕ → Type 0
MatchesOne d word = (i k : ℕ) → IsTrue (matches_at d word i) → IsTrue (matches_at d word k) → i ≡ k

-- no word of the description's width matches two instructions
abbrev pub IsUnambiguous : Parts → Type 0
IsUnambiguous d = (word : ℕ) → word < 2 ^ d.word → MatchesOne d word

-- the number of the first instruction that a word matches
abbrev pub decoded : Parts → ℕ → Option ℕ
decoded d word = position (matches d word) d.instrs
