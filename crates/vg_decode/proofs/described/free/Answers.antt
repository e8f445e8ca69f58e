use Rattle.std.proofs.Common.{◌≡◌, ◌∷◌, [], List, IsTrue, refl, sym, subst}
use Rattle.std.specs.List.{list_all}
use Rattle.std.proofs.lemmas.Bool.{and_from as conjunction}
use Rattle.vg_isa.specs.declared.instr.Instr.{Instr}
use Rattle.vg_isa.specs.Accepted.{is_instr}
use Rattle.vg_decode.proofs.Idle.{free_kept}
use Rattle.vg_decode.proofs.described.free.Goals as goal

pub description-requires-clause-instrs : goal.description-requires-clause-instrs
description-requires-clause-instrs c d is =
    let one : IsTrue (is_instr d c.in_ok-idle.field-0) = subst (λ (i : Instr). IsTrue (is_instr d i)) (sym c.in_ok-idle.ensures) (free_kept d c.in_ok-format.field-0 is) in
    subst (λ (is : List Instr). IsTrue (list_all (is_instr d) is)) (sym c.in_ok-instrs.ensures.items) (conjunction _ _ one refl)
