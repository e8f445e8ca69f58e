-- The first two candidates that share a word.
use Rattle.std.specs.Prelude.{ℕ, nat_eq, bit_and, bit_or, List, [], ◌∷◌, Option, Some, None, if◌then◌else◌}
use Rattle.std.specs.Option.{option_map_or, option_or}
use Rattle.vg_format.specs.declared.pattern.Pattern.{Pattern}
use Rattle.vg_decode.specs.declared.candidate.Candidate.{Candidate}
use Rattle.vg_decode.specs.declared.pairs.Pair.{Pair}

-- The least word that fits two patterns. There is one where the values agree at the bits that both fix.
abbrev pub shared_word : Pattern → Pattern → Option ℕ
shared_word p q = if nat_eq (bit_and p.value q.mask) (bit_and q.value p.mask) then Some (bit_or p.value q.value) else None

-- the first of a list that shares a word with one before it
abbrev pub first_partner : Candidate → List Candidate → Option Pair
first_partner one [] = None
first_partner one (other ∷ later) =
    option_map_or (λ word. Some (record { a = one.instr; b = other.instr; word = word }))
    (shared_word one.pattern other.pattern) (first_partner one later)

-- the first candidate that shares a word with a later one, and the first of those
abbrev pub first_pair : List Candidate → Option Pair
first_pair [] = None
first_pair (one ∷ later) = option_or (first_partner one later) (first_pair later)
