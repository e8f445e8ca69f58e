-- The report of a check.
use Rattle.std.specs.Prelude.{ℕ, ◌∷◌, ◌++◌, List, [], length, codes, decimal}
use Rattle.vg_isa.specs.declared.isa.Parts.{Parts}

-- the name of the architecture, and the number of its instructions
abbrev pub check_report : Parts → List ℕ
check_report d = codes "ok " ++ d.name ++ codes " " ++ decimal (length d.instrs) ++ 10 ∷ []
