-- Each description of the grammar is read, a piece at a time.
use Rattle.std.proofs.Common.{◌≡◌, ℕ, Bool, true, false, IsTrue, List, [], ◌∷◌, ◌++◌, map, Option, Some, None, refl, sym, ap, ◌∙◌, append_assoc, append-nil}
use Rattle.std.specs.List.{list_all}
use Rattle.std.specs.Option.{option_map_or}
use Rattle.vg_tok.specs.declared.token.Kind.{Kind}
use Rattle.vg_tok.specs.declared.token.Kind.TheVariants as kind
use Rattle.vg_tok.specs.declared.sign.Sign.TheVariants as signs
use Rattle.vg_tok.specs.declared.word.Word.TheVariants as words
use Rattle.vg_ast.specs.declared.item.Item as tree
use Rattle.vg_ast.specs.declared.role.Role as role_tree
use Rattle.vg_ast.specs.declared.micro_item.MicroItem as micro_tree
use Rattle.vg_ast.specs.declared.desc.Desc.{Desc}
use Rattle.vg_ast.specs.Placed.{Placed, sign}
use Rattle.vg_ast.specs.ConcreteItem.{Item, constant, Role, code_base, MicroItem, stage, IsaHeading, AbiHeading, MicroHeading, Section, Description}
use Rattle.vg_ast.specs.SpellingItem.{Spells, spelled_item, spelled_role, spelled_micro_item, spelled_isa_heading, spelled_abi_heading, spelled_micro_heading}
use Rattle.vg_ast.specs.Grammar.{is_item, is_role, is_description}
use Rattle.vg_ast.specs.TreeItem.{item_of, role_of, micro_item_of, description_of}
use Rattle.vg_ast.specs.Piece.{is_closing}
use Rattle.vg_parse_item.specs.declared.heading.Heading.{Heading}
use Rattle.vg_parse_item.specs.Reading.{abi_heading_piece, closing_piece}
use Rattle.vg_parse_item.specs.Exact.{IsExact, ClosingIsExact, isa_heading_of, abi_heading_of, micro_heading_of}
use Rattle.vg_parse.specs.declared.state.State.{State}
use Rattle.vg_parse.specs.declared.state.State.TheVariants.{Start, InIsa, Behind, InAbi, InMicro}
use Rattle.vg_parse.specs.Run.{isa_step, abi_step, micro_step, micro_begin, abi_begin, behind_step, step, run}
use Rattle.vg_parse.proofs.Pieces.{each, closed, section_pieces, optional_pieces, description_pieces}
use Rattle.vg_parse.proofs.Open.{AreExact, read_spelled, split_true}

-- What isn't read.

abbrev first_is : (Kind → Bool) → List Placed → Bool
first_is test [] = false
first_is test (t ∷ ts) = test t.kind

apart : {A : Type 0} (b : Bool) → b ≡ true → b ≡ false → A
apart b h k = absurd (cc)

-- a piece whose first token begins none of a kind
not_read : {C X : Type 0} {read : List Placed → Option X} {spells : C → List Placed → List Placed} {is_right : C → Bool} {tree_of : C → X}
    → IsExact read spells is_right tree_of → (test : Kind → Bool) → ((c : C) → first_is test (spells c []) ≡ true) → (piece : List Placed) → first_is test piece ≡ false
    → (found : Option X) → read piece ≡ found → read piece ≡ None
not_read exact test begins piece h None e = e
not_read exact test begins piece h (Some x) e =
    let s = read_spelled exact piece x e in
    apart (first_is test piece) (ap (first_is test) s.2 ∙ begins s.0) h

no_closing : ClosingIsExact → (piece : List Placed) → first_is is_closing piece ≡ false → closing_piece piece ≡ None
no_closing exact piece h = not_read exact is_closing (λ at. refl) piece h (closing_piece piece) refl

item_first : (c : Item) → first_is is_closing (spelled_item c []) ≡ false
item_first (constant at n equal value) = refl
item_first _ = refl

role_first : (c : Role) → first_is is_closing (spelled_role c []) ≡ false
role_first (code_base at equal base) = refl
role_first _ = refl

micro_item_first : (c : MicroItem) → first_is is_closing (spelled_micro_item c []) ≡ false
micro_item_first (stage at n acts) = refl
micro_item_first _ = refl

abbrev is_application : Kind → Bool
is_application (kind.Word words.Application) = true
is_application _ = false

-- A part is read up to its `}`.

pub run_more : (state : State) (piece : List Placed) (more : List (List Placed)) (next : State) → step state piece ≡ Some next → run state (piece ∷ more) ≡ run next more
unfolding run
run_more state piece more next h = rw h refl

inner : {X T : Type 0} (state : List T → State) (spells : Spells X) (tree_of : X → T) (is_right : X → Bool)
    → ((x : X) (trees : List T) → IsTrue (is_right x) → step (state trees) (spells x []) ≡ Some (state (trees ++ tree_of x ∷ [])))
    → (xs : List X) (trees : List T) (more : List (List Placed)) → IsTrue (list_all is_right xs)
    → run (state trees) (each spells xs ++ more) ≡ run (state (trees ++ map tree_of xs)) more
inner state spells tree_of is_right one [] trees more h = ap (λ ys. run (state ys) more) (sym (append-nil trees))
inner state spells tree_of is_right one (x ∷ xs) trees more h =
    let s = split_true (is_right x) (list_all is_right xs) h in
    run_more (state trees) (spells x []) (each spells xs ++ more) (state (trees ++ tree_of x ∷ [])) (one x trees s.0)
    ∙ (inner state spells tree_of is_right one xs (trees ++ tree_of x ∷ []) more s.1
    ∙ ap (λ ys. run (state ys) more) (append_assoc trees (tree_of x ∷ []) (map tree_of xs)))

isa_one : AreExact → (heading : Heading) (c : Item) (items : List tree.Item) → IsTrue (is_item c) → step (InIsa heading items) (spelled_item c []) ≡ Some (InIsa heading (items ++ item_of c ∷ []))
unfolding step isa_step
isa_one exact heading c items h = rw (no_closing exact.closing (spelled_item c []) (item_first c), exact.item.complete c h) refl

isa_end : AreExact → (heading : Heading) (items : List tree.Item) (at : ℕ)
    → step (InIsa heading items) (sign signs.CloseBrace at ∷ []) ≡ Some (Behind (record { name = heading.name; items = items; close = at; abi = None; micro = None }))
unfolding step isa_step
isa_end exact heading items at = rw (exact.closing.complete at refl) refl

abi_one : AreExact → (desc : Desc) (heading : Heading) (c : Role) (roles : List role_tree.Role) → IsTrue (is_role c) → step (InAbi desc heading roles) (spelled_role c []) ≡ Some (InAbi desc heading (roles ++ role_of c ∷ []))
unfolding step abi_step
abi_one exact desc heading c roles h = rw (no_closing exact.closing (spelled_role c []) (role_first c), exact.role.complete c h) refl

abi_end : AreExact → (desc : Desc) (heading : Heading) (roles : List role_tree.Role) (at : ℕ)
    → step (InAbi desc heading roles) (sign signs.CloseBrace at ∷ []) ≡ Some (Behind (record desc { abi = Some (record { at = heading.at; name = heading.name; roles = roles; close = at }) }))
unfolding step abi_step
abi_end exact desc heading roles at = rw (exact.closing.complete at refl) refl

micro_one : AreExact → (desc : Desc) (heading : Heading) (c : MicroItem) (items : List micro_tree.MicroItem) → step (InMicro desc heading items) (spelled_micro_item c []) ≡ Some (InMicro desc heading (items ++ micro_item_of c ∷ []))
unfolding step micro_step
micro_one exact desc heading c items = rw (no_closing exact.closing (spelled_micro_item c []) (micro_item_first c), exact.micro_item.complete c refl) refl

micro_end : AreExact → (desc : Desc) (heading : Heading) (items : List micro_tree.MicroItem) (at : ℕ)
    → step (InMicro desc heading items) (sign signs.CloseBrace at ∷ []) ≡ Some (Behind (record desc { micro = Some (record { at = heading.at; name = heading.name; items = items; close = at }) }))
unfolding step micro_step
micro_end exact desc heading items at = rw (exact.closing.complete at refl) refl

-- Headings.

isa_first : AreExact → (h : IsaHeading) → step Start (spelled_isa_heading h []) ≡ Some (InIsa (isa_heading_of h) [])
unfolding step
isa_first exact h = rw (exact.isa_heading.complete h refl) refl

abi_first : AreExact → (isa : Section IsaHeading Item) (h : AbiHeading)
    → step (Behind (description_of (record { isa = isa; abi = None; micro = None }))) (spelled_abi_heading h []) ≡ Some (InAbi (description_of (record { isa = isa; abi = None; micro = None })) (abi_heading_of h) [])
unfolding step behind_step abi_begin
abi_first exact isa h = rw (exact.abi_heading.complete h refl) refl

micro_begun : AreExact → (desc : Desc) (h : MicroHeading) → micro_begin desc (spelled_micro_heading h []) ≡ Some (InMicro desc (micro_heading_of h) [])
unfolding micro_begin
micro_begun exact desc h = rw (exact.micro_heading.complete h refl) refl

no_abi : AreExact → (h : MicroHeading) → abi_heading_piece (spelled_micro_heading h []) ≡ None
no_abi exact h = not_read exact.abi_heading is_application (λ c. refl) (spelled_micro_heading h []) refl (abi_heading_piece (spelled_micro_heading h [])) refl

micro_first : AreExact → (isa : Section IsaHeading Item) (abi : Option (Section AbiHeading Role)) (h : MicroHeading)
    → step (Behind (description_of (record { isa = isa; abi = abi; micro = None }))) (spelled_micro_heading h []) ≡ Some (InMicro (description_of (record { isa = isa; abi = abi; micro = None })) (micro_heading_of h) [])
unfolding step behind_step abi_begin
micro_first exact isa None h = rw (no_abi exact h) (micro_begun exact _ h)
micro_first exact isa (Some abi) h = micro_begun exact _ h

-- Parts.

-- a whole part, from its heading to its `}`
section_read : {H X T : Type 0} (before : State) (state : List T → State) (after : ℕ → List T → State) (spells_heading : Spells H) (spells : Spells X) (tree_of : X → T) (is_right : X → Bool)
    → (section : Section H X) → step before (spells_heading section.heading []) ≡ Some (state [])
    → ((x : X) (trees : List T) → IsTrue (is_right x) → step (state trees) (spells x []) ≡ Some (state (trees ++ tree_of x ∷ [])))
    → ((trees : List T) (at : ℕ) → step (state trees) (sign signs.CloseBrace at ∷ []) ≡ Some (after at trees))
    → IsTrue (list_all is_right section.inner) → (more : List (List Placed))
    → run before (section_pieces spells_heading spells section ++ more) ≡ run (after section.closing (map tree_of section.inner)) more
section_read before state after spells_heading spells tree_of is_right section first one last right more =
    run_more before (spells_heading section.heading []) ((each spells section.inner ++ closed section.closing) ++ more) (state []) first
    ∙ (ap (run (state [])) (append_assoc (each spells section.inner) (closed section.closing) more)
    ∙ (inner state spells tree_of is_right one section.inner [] (closed section.closing ++ more) right
    ∙ run_more (state (map tree_of section.inner)) (sign signs.CloseBrace section.closing ∷ []) more (after section.closing (map tree_of section.inner)) (last (map tree_of section.inner) section.closing)))

isa_read : AreExact → (isa : Section IsaHeading Item) → IsTrue (list_all is_item isa.inner) → (more : List (List Placed))
    → run Start (section_pieces spelled_isa_heading spelled_item isa ++ more) ≡ run (Behind (description_of (record { isa = isa; abi = None; micro = None }))) more
isa_read exact isa right more =
    section_read Start (InIsa (isa_heading_of isa.heading)) (λ at items. Behind (record { name = isa.heading.name; items = items; close = at; abi = None; micro = None }))
    spelled_isa_heading spelled_item item_of is_item isa (isa_first exact isa.heading) (λ c items h. isa_one exact (isa_heading_of isa.heading) c items h)
    (λ items at. isa_end exact (isa_heading_of isa.heading) items at) right more

abi_read : AreExact → (isa : Section IsaHeading Item) (abi : Option (Section AbiHeading Role)) → IsTrue (option_map_or (λ abi. list_all is_role abi.inner) abi true) → (more : List (List Placed))
    → run (Behind (description_of (record { isa = isa; abi = None; micro = None }))) (optional_pieces spelled_abi_heading spelled_role abi ++ more)
    ≡ run (Behind (description_of (record { isa = isa; abi = abi; micro = None }))) more
abi_read exact isa None right more = refl
abi_read exact isa (Some abi) right more =
    let desc : Desc = description_of (record { isa = isa; abi = None; micro = None }) in
    section_read (Behind desc) (InAbi desc (abi_heading_of abi.heading))
    (λ at roles. Behind (record desc { abi = Some (record { at = abi.heading.at; name = abi.heading.name; roles = roles; close = at }) }))
    spelled_abi_heading spelled_role role_of is_role abi (abi_first exact isa abi.heading) (λ c roles h. abi_one exact desc (abi_heading_of abi.heading) c roles h)
    (λ roles at. abi_end exact desc (abi_heading_of abi.heading) roles at) right more

all_right : {X : Type 0} (xs : List X) → IsTrue (list_all (λ (x : X). true) xs)
all_right [] = refl
all_right (x ∷ xs) = all_right xs

micro_read : AreExact → (isa : Section IsaHeading Item) (abi : Option (Section AbiHeading Role)) (micro : Option (Section MicroHeading MicroItem)) (more : List (List Placed))
    → run (Behind (description_of (record { isa = isa; abi = abi; micro = None }))) (optional_pieces spelled_micro_heading spelled_micro_item micro ++ more)
    ≡ run (Behind (description_of (record { isa = isa; abi = abi; micro = micro }))) more
micro_read exact isa abi None more = refl
micro_read exact isa abi (Some micro) more =
    let desc : Desc = description_of (record { isa = isa; abi = abi; micro = None }) in
    section_read (Behind desc) (InMicro desc (micro_heading_of micro.heading))
    (λ at items. Behind (record desc { micro = Some (record { at = micro.heading.at; name = micro.heading.name; items = items; close = at }) }))
    spelled_micro_heading spelled_micro_item micro_item_of (λ _. true) micro (micro_first exact isa abi micro.heading) (λ c items h. micro_one exact desc (micro_heading_of micro.heading) c items)
    (λ items at. micro_end exact desc (micro_heading_of micro.heading) items at) (all_right micro.inner) more

run_none : (state : State) → run state [] ≡ Some state
unfolding run
run_none state = refl

-- each description is read, and gives its tree
pub description_read : AreExact → (d : Description) → IsTrue (is_description d) → run Start (description_pieces d) ≡ Some (Behind (description_of d))
description_read exact d right =
    let s = split_true (list_all is_item d.isa.inner) (option_map_or (λ abi. list_all is_role abi.inner) d.abi true) right in
    let micro = optional_pieces spelled_micro_heading spelled_micro_item d.micro in
    isa_read exact d.isa s.0 (optional_pieces spelled_abi_heading spelled_role d.abi ++ micro)
    ∙ (abi_read exact d.isa d.abi s.1 micro
    ∙ (ap (run (Behind (description_of (record { isa = d.isa; abi = d.abi; micro = None })))) (sym (append-nil micro))
    ∙ (micro_read exact d.isa d.abi d.micro [] ∙ run_none (Behind (description_of d)))))
