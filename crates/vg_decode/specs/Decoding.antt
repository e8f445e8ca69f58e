-- What a decoder finds.
use Rattle.std.specs.Prelude.{◌≡◌, ℕ, nat_eq, bit_and, List, [], ◌∷◌, Option, Some, None, if◌then◌else◌}
use Rattle.vg_isa.specs.declared.isa.Parts.{Parts}
use Rattle.vg_format.specs.Matching.{decoded}
use Rattle.vg_format.specs.Pattern.{fits}
use Rattle.vg_decode.specs.declared.candidate.Candidate.{Candidate}
use Rattle.vg_decode.specs.declared.tree.Tree.{Tree, fold-Tree}
use Rattle.vg_decode.specs.declared.tree.Tree.TheOpen.{Tree-F}
use Rattle.vg_decode.specs.declared.decoder.Decoder.{Decoder}

-- the first candidate whose pattern the word fits
abbrev pub first_fit : List Candidate → ℕ → Option ℕ
first_fit [] word = None
first_fit (c ∷ cs) word = if fits c.pattern word then Some c.instr.0 else first_fit cs word

-- one level of a tree, with what is found below each child
abbrev pub finds_step : Tree-F (ℕ → Option ℕ) → ℕ → Option ℕ
finds_step (Tree-F.Leaf cs) word = first_fit cs word
finds_step (Tree-F.Test mask none some) word = if nat_eq (bit_and word mask) 0 then none word else some word

-- the number of the first instruction that the word fits, in the leaf to which the tests of the tree lead
abbrev pub found_in : Tree → ℕ → Option ℕ
found_in tree = fold-Tree (ℕ → Option ℕ) finds_step tree

-- the number of the instruction that a decoder finds for a word
unfoldable pub finds : Decoder → ℕ → Option ℕ
finds decoder word = found_in decoder.tree word

-- A decoder of a description: for each word it finds the first instruction that the word matches.
abbrev pub IsDecoderOf : Parts → Decoder → Type 0
IsDecoderOf d decoder = (word : ℕ) → finds decoder word ≡ decoded d word
