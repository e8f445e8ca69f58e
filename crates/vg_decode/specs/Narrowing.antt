-- Which candidates a test of a word leaves.
use Rattle.std.specs.Prelude.{ℕ, Bool, ◌||◌, not, nat_eq, bit_and}
use Rattle.vg_decode.specs.declared.candidate.Candidate.{Candidate}

-- a word without a bit of the mask may fit the pattern
abbrev pub may_lack : ℕ → Candidate → Bool
may_lack mask c = nat_eq (bit_and c.pattern.value mask) 0

-- a word with a bit of the mask may fit the pattern
abbrev pub may_have : ℕ → Candidate → Bool
may_have mask c = not (nat_eq (bit_and c.pattern.value mask) 0) || not (nat_eq (bit_and c.pattern.mask mask) mask)
