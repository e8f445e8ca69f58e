use Rattle.std.proofs.Common.{◌≡◌, map, take, replicate}
use Rattle.vg_isa.specs.declared.declaration.RegDecl.{RegDecl}
use Rattle.vg_isa.specs.Declaration.{register_count}
use Rattle.vg_iss.proofs.registers.zero_files.Given as goal

-- the zeros of the declarations so far
abbrev pub invariant-loop-decl : goal.invariant-loop-decl
invariant-loop-decl l = l.files.items ≡ map (λ (decl : RegDecl). replicate (register_count decl) 0) (take l.decl-index l.isa.regs)
