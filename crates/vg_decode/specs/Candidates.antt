-- The candidates of a description.
use Rattle.std.specs.Prelude.{◌≡◌, ℕ, suc, List, [], ◌∷◌}
use Rattle.vg_isa.specs.declared.isa.Parts.{Parts}
use Rattle.vg_isa.specs.declared.instr.Instr.{Instr}
use Rattle.vg_format.specs.Pattern.{IsPatternOf}
use Rattle.vg_decode.specs.declared.candidate.Candidate.{Candidate}

-- a candidate for each instruction, numbered from k on, with its pattern
abbrev pub AreOf : Parts → ℕ → List Instr → List Candidate → Type 0
AreOf d k [] [] = Unit {0}
AreOf d k (instr ∷ instrs) (c ∷ cs) = (c.instr.0 ≡ k) × IsPatternOf d instr c.pattern × AreOf d (suc k) instrs cs
AreOf d k instrs cs = ⊥
