use Rattle.std.proofs.Common.{◌≡◌, ◌-◌, ◌^◌, ◌&&◌, ◌∷◌, [], List, IsTrue, true, nat_eq, nat_lt, refl, sym, subst, ap, ◌∙◌}
use Rattle.std.specs.List.{list_all}
use Rattle.std.proofs.lemmas.Bool.{and_from as conjunction}
use Rattle.vg_isa.specs.declared.instr.Instr.{Instr}
use Rattle.vg_isa.specs.Declaration.{bits_of}
use Rattle.vg_isa.specs.Accepted.{is_instr}
use Rattle.vg_decode.proofs.Idle.{by_width, field_at, idle, machine_width, one_kept}
use Rattle.vg_decode.proofs.described.crossing.Goals as goal

pub description-requires-clause-instrs : goal.description-requires-clause-instrs
description-requires-clause-instrs c d is =
    let f = c.in_ok-format.field-0 in
    let word = c.args.width in
    let low : c.in_ok-idle.field-0 ≡ idle ((field_at 0, record { width = 9; number = 5 }) ∷ []) = c.in_ok-idle.ensures ∙ rw (c.field_at.ensures, c.of-2.ensures, c.of.ensures) refl in
    let high : c.in_ok-idle-2.field-0 ≡ idle ((field_at 1, record { width = word - 9; number = 3 }) ∷ []) = c.in_ok-idle-2.ensures ∙ rw (c.field_at-2.ensures, c.of-4.ensures, c.of-3.ensures) refl in
    let fit : (nat_eq (word - 9) (bits_of ((word - 1, 9) ∷ [])) && nat_lt 3 (2 ^ (word - 9))) ≡ true =
    by_width (λ n. (nat_eq (n - 9) (bits_of ((n - 1, 9) ∷ [])) && nat_lt 3 (2 ^ (n - 9))) ≡ true) word (machine_width word c.requires) refl refl refl in
    let one : IsTrue (is_instr d c.in_ok-idle.field-0) = subst (λ (i : Instr). IsTrue (is_instr d i)) (sym low) (one_kept d f 0 8 0 9 5 is c.in_ok-format.ensures.low refl) in
    let two : IsTrue (is_instr d c.in_ok-idle-2.field-0) = subst (λ (i : Instr). IsTrue (is_instr d i)) (sym high) (one_kept d f 1 (word - 1) 9 (word - 9) 3 is c.in_ok-format.ensures.high fit) in
    subst (λ (is : List Instr). IsTrue (list_all (is_instr d) is)) (sym c.in_ok-instrs.ensures.items) (conjunction _ _ one (conjunction _ _ two refl))
