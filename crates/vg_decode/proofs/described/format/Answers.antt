use Rattle.std.proofs.Common.{◌≡◌, ◌∷◌, [], List, IsTrue, sym, subst, ◌∙◌}
use Rattle.vg_isa.specs.declared.format.FieldDecl.{FieldDecl}
use Rattle.vg_isa.specs.Accepted.{is_format}
use Rattle.vg_decode.proofs.Idle.{covered}
use Rattle.vg_decode.proofs.described.format.Goals as goal

pub returns-clause-covered : goal.returns-clause-covered
returns-clause-covered c =
    let word = c.args.word in
    let name = c.in_ok-from_slice.field-0 in
    let x = c.in_ok-declared.field-0 in
    let y = c.in_ok-declared-2.field-0 in
    let fields : c.from_vec.result ≡ x ∷ y ∷ [] = c.from_vec.ensures ∙ c.in_ok-fields.ensures.items in
    subst (λ (fs : List FieldDecl). IsTrue (is_format word (record { name = name; fields = fs }))) (sym fields) (covered word name x y c.requires c.in_ok-declared.ensures c.in_ok-declared-2.ensures)
