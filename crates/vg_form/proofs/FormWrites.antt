-- The instructions of a form write registers only.
use Rattle.std.proofs.Common.{IsTrue, List, [], ◌∷◌, map, refl}
use Rattle.std.specs.List.{list_all}
use Rattle.vg_isa.specs.declared.instr.Instr.{Instr}
use Rattle.vg_form.specs.declared.form.Form.{Form}
use Rattle.vg_form.specs.declared.form.Pair.{Pair}
use Rattle.vg_iss.specs.Kept.{is_memory_free, write_registers}
use Rattle.vg_form.specs.Form.{instr_of, parts_of}

write_registers-instr_of : (pairs : List Pair) → IsTrue (list_all (λ (instr : Instr). write_registers instr.writes) (map instr_of pairs))
write_registers-instr_of [] = refl
write_registers-instr_of (pair ∷ pairs) = write_registers-instr_of pairs

-- the description of a form writes no memory
pub is_memory_free-parts_of : (form : Form) → IsTrue (is_memory_free (parts_of form))
is_memory_free-parts_of form = write_registers-instr_of form.pairs
