use Rattle.std.proofs.Common.{◌≡◌, ◌⊎◌, ℕ, List, map, IfErr, IfOk, subst, sym, rules, ◌∙◌}
use Rattle.std.specs.List.{filter}
use Rattle.vg_ast.specs.declared.item.Item.{Item}
use Rattle.vg_isa.specs.declared.isa.Parts.{Parts}
use Rattle.vg_whole.specs.Worths.{constants_by}
use Rattle.vg_inline.specs.Context.{aliases_by, known_as}
use Rattle.vg_inline.specs.InPlace.{known_of}
use Rattle.vg_inline.specs.KeptBehaviour.{behaviour_kept}
use Rattle.vg_inline.proofs.Making.{all_made}
use Rattle.vg_form.specs.declared.fault.FormFault.{FormFault}
use Rattle.vg_form.specs.declared.fault.FormFault.TheVariants.{OutOfMemory, Unlike}
use Rattle.vg_form.specs.declared.form.Form.{Form}
use Rattle.vg_form.specs.Form.{parts_of}
use Rattle.vg_form.specs.Description.{Found, form_of, found, unlike}
use Rattle.vg_form.specs.Given.{form_given}
use Rattle.vg_form.proofs.FormLemmas.{form_same}
use Rattle.vg_form.proofs.making.isa_of.Goals as goal

pub returns-clause-isa : goal.returns-clause-isa
returns-clause-isa c =
    let p = c.args.plain.now in
    let d = p.description in
    let b = c.in_ok-bodies.bodies in
    let of : List Item → Found Form = λ all. form_given d all p.worths p.aliases b.keep b.trees in
    let items : c.in_ok-table.table.items.now ≡ d.items = search rules in
    let read : IfOk c.isa_by.result (λ (isa : Parts). (form : Form) × (of c.in_ok-table.table.items.now ≡ found form) × (isa ≡ parts_of form)) = search rules in
    let here = subst (λ (all : List Item). IfOk c.isa_by.result (λ (isa : Parts). (form : Form) × (of all ≡ found form) × (isa ≡ parts_of form))) items read in
    subst (λ (sought : Found Form). IfOk c.isa_by.result (λ (isa : Parts). (form : Form) × (sought ≡ found form) × (isa ≡ parts_of form)))
    (form_same d (known_of d.items) (constants_by d.items p.worths) (aliases_by d.items p.aliases) (behaviour_kept b.keep d.items (known_as b.keep d.items (constants_by d.items p.worths) (aliases_by d.items p.aliases) b.trees))
    c.requires.folded.constants c.requires.folded.aliases (all_made d.items p.worths p.aliases b c.requires.folded.constants c.requires.folded.aliases c.in_ok-bodies.ensures))
    here

pub returns-clause-fault : goal.returns-clause-fault
returns-clause-fault c =
    let p = c.args.plain.now in
    let d = p.description in
    let b = c.in_ok-bodies.bodies in
    let of : List Item → Found Form = λ all. form_given d all p.worths p.aliases b.keep b.trees in
    let items : c.in_ok-table.table.items.now ≡ d.items = search rules in
    let read : IfErr c.isa_by.result (λ (f : FormFault). (f ≡ OutOfMemory) ⊎ ((at : ℕ) × (f ≡ Unlike at) × (of c.in_ok-table.table.items.now ≡ unlike at))) = search rules in
    let here = subst (λ (all : List Item). IfErr c.isa_by.result (λ (f : FormFault). (f ≡ OutOfMemory) ⊎ ((at : ℕ) × (f ≡ Unlike at) × (of all ≡ unlike at)))) items read in
    subst (λ (sought : Found Form). IfErr c.isa_by.result (λ (f : FormFault). (f ≡ OutOfMemory) ⊎ ((at : ℕ) × (f ≡ Unlike at) × (sought ≡ unlike at))))
    (form_same d (known_of d.items) (constants_by d.items p.worths) (aliases_by d.items p.aliases) (behaviour_kept b.keep d.items (known_as b.keep d.items (constants_by d.items p.worths) (aliases_by d.items p.aliases) b.trees))
    c.requires.folded.constants c.requires.folded.aliases (all_made d.items p.worths p.aliases b c.requires.folded.constants c.requires.folded.aliases c.in_ok-bodies.ensures))
    here
