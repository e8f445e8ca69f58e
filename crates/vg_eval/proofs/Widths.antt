-- Widths of registers.
use Rattle.std.proofs.Common.{◌≡◌, ℕ, ◌<◌, List, length, get_or, refl, slice_get, Some, sym}
use Rattle.std.proofs.lemmas.Option.{slice_get_read}
use Rattle.vg_isa.specs.declared.declaration.RegDecl.{RegDecl}
use Rattle.vg_isa.specs.Declaration.{register_width}
use Rattle.vg_isa.proofs.Registers.{register_width-at}

-- the width of the declaration at a place
pub declared_width : (regs : List RegDecl) (r : ℕ) (decl : RegDecl) → r < length regs → decl ≡ get_or regs r decl → decl.width ≡ register_width regs r
declared_width regs r decl within is = sym (register_width-at regs r decl (slice_get_read regs (length regs) r decl refl within is))
