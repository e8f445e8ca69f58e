-- Pieces with which something is read begin a description.
use Rattle.std.proofs.Common.{◌≡◌, ℕ, true, IsTrue, List, [], ◌∷◌, ◌++◌, Option, Some, None, refl, sym, ap, subst, ◌∙◌, append_assoc, append-nil}
use Rattle.std.specs.List.{list_all}
use Rattle.std.specs.Option.{option_map_or}
use Rattle.vg_ast.specs.declared.item.Item as tree
use Rattle.vg_ast.specs.declared.role.Role as role_tree
use Rattle.vg_ast.specs.declared.micro_item.MicroItem as micro_tree
use Rattle.vg_ast.specs.declared.desc.Desc.{Desc}
use Rattle.vg_ast.specs.Placed.{Placed}
use Rattle.vg_ast.specs.ConcreteItem.{Item, Role, MicroItem, IsaHeading, AbiHeading, MicroHeading, Section, Description}
use Rattle.vg_ast.specs.SpellingItem.{spelled_item, spelled_role, spelled_micro_item, spelled_isa_heading, spelled_abi_heading, spelled_micro_heading}
use Rattle.vg_ast.specs.Grammar.{is_item, is_role, is_description}
use Rattle.vg_ast.specs.TreeItem.{item_of, role_of, micro_item_of, description_of}
use Rattle.vg_parse_expr.specs.Lexeme.{◌>>=◌}
use Rattle.vg_parse_item.specs.declared.heading.Heading.{Heading}
use Rattle.vg_parse_item.specs.Reading.{item_piece, role_piece, micro_item_piece, isa_heading_piece, abi_heading_piece, micro_heading_piece, closing_piece}
use Rattle.vg_parse_item.specs.Exact.{isa_heading_of, abi_heading_of, micro_heading_of}
use Rattle.vg_parse.specs.declared.state.State.{State}
use Rattle.vg_parse.specs.declared.state.State.TheVariants.{Start, InIsa, Behind, InAbi, InMicro}
use Rattle.vg_parse.specs.Run.{isa_step, abi_step, micro_step, micro_begin, abi_begin, behind_step, step, run}
use Rattle.vg_parse.proofs.Pieces.{closed, section_pieces, optional_pieces, description_pieces}
use Rattle.vg_parse.proofs.Open.{AreExact, both_true, split_true, IsOpen, open_begin, open_more, open_closed, closing_spelled}

-- The descriptions that a part is behind.

abbrev pub isa_alone : Section IsaHeading Item → Description
isa_alone isa = record { isa = isa; abi = None; micro = None }

abbrev pub IsIsaOpen : Heading → List tree.Item → List (List Placed) → Type 0
IsIsaOpen heading items pieces = IsOpen spelled_isa_heading spelled_item isa_heading_of is_item item_of heading items [] pieces

abbrev pub IsAbiOpen : Description → Heading → List role_tree.Role → List (List Placed) → Type 0
IsAbiOpen d heading roles pieces = IsOpen spelled_abi_heading spelled_role abi_heading_of is_role role_of heading roles (description_pieces d) pieces

abbrev pub IsMicroOpen : Description → Heading → List micro_tree.MicroItem → List (List Placed) → Type 0
IsMicroOpen d heading items pieces = IsOpen spelled_micro_heading spelled_micro_item micro_heading_of (λ _. true) micro_item_of heading items (description_pieces d) pieces

-- what is read stands for these pieces
abbrev pub IsAt : State → List (List Placed) → Type 0
IsAt Start pieces = pieces ≡ []
IsAt (InIsa heading items) pieces = IsIsaOpen heading items pieces
IsAt (Behind desc) pieces = (d : Description) × IsTrue (is_description d) × (pieces ≡ description_pieces d) × (desc ≡ description_of d)
IsAt (InAbi desc heading roles) pieces =
    (isa : Section IsaHeading Item) × IsTrue (is_description (isa_alone isa)) × (desc ≡ description_of (isa_alone isa)) × IsAbiOpen (isa_alone isa) heading roles pieces
IsAt (InMicro desc heading items) pieces =
    (isa : Section IsaHeading Item) × (abi : Option (Section AbiHeading Role)) × IsTrue (is_description (record { isa = isa; abi = abi; micro = None }))
    × (desc ≡ description_of (record { isa = isa; abi = abi; micro = None })) × IsMicroOpen (record { isa = isa; abi = abi; micro = None }) heading items pieces

-- A part is closed: a description stands before it.

pub isa_done : (heading : Heading) (items : List tree.Item) (pieces : List (List Placed)) (at : ℕ) → IsIsaOpen heading items pieces
    → IsAt (Behind (record { name = heading.name; items = items; close = at; abi = None; micro = None })) (pieces ++ closed at)
isa_done heading items pieces at o = (
  isa_alone (record { heading = o.from; inner = o.inner; closing = at }),
  both_true (list_all is_item o.inner) true o.right refl,
  open_closed at o ∙ sym (append-nil _),
  rw (o.heading_is, o.trees_are) refl,
)

abi_behind : (isa abi : List (List Placed)) → (isa ++ []) ++ abi ≡ isa ++ (abi ++ [])
abi_behind isa abi = rw (append-nil isa, append-nil abi) refl

micro_behind : (isa abi micro : List (List Placed)) → (isa ++ (abi ++ [])) ++ micro ≡ isa ++ (abi ++ micro)
micro_behind isa abi micro = rw (append-nil abi) (append_assoc isa abi micro)

pub abi_done : (isa : Section IsaHeading Item) (heading : Heading) (roles : List role_tree.Role) (pieces : List (List Placed)) (at : ℕ) → IsTrue (is_description (isa_alone isa))
    → IsAbiOpen (isa_alone isa) heading roles pieces
    → IsAt (Behind (record (description_of (isa_alone isa)) { abi = Some (record { at = heading.at; name = heading.name; roles = roles; close = at }) })) (pieces ++ closed at)
abi_done isa heading roles pieces at right o = (
  record { isa = isa; abi = Some (record { heading = o.from; inner = o.inner; closing = at }); micro = None },
  both_true (list_all is_item isa.inner) (list_all is_role o.inner) (split_true (list_all is_item isa.inner) true right).0 o.right,
  open_closed at o ∙ abi_behind (section_pieces spelled_isa_heading spelled_item isa) (section_pieces spelled_abi_heading spelled_role (record { heading = o.from; inner = o.inner; closing = at })),
  rw (o.heading_is, o.trees_are) refl,
)

pub micro_done : (isa : Section IsaHeading Item) (abi : Option (Section AbiHeading Role)) (heading : Heading) (items : List micro_tree.MicroItem) (pieces : List (List Placed)) (at : ℕ)
    → IsTrue (is_description (record { isa = isa; abi = abi; micro = None })) → IsMicroOpen (record { isa = isa; abi = abi; micro = None }) heading items pieces
    → IsAt (Behind (record (description_of (record { isa = isa; abi = abi; micro = None })) { micro = Some (record { at = heading.at; name = heading.name; items = items; close = at }) })) (pieces ++ closed at)
micro_done isa abi heading items pieces at right o = (
  record { isa = isa; abi = abi; micro = Some (record { heading = o.from; inner = o.inner; closing = at }) },
  right,
  open_closed at o ∙ micro_behind (section_pieces spelled_isa_heading spelled_item isa) (optional_pieces spelled_abi_heading spelled_role abi)
      (section_pieces spelled_micro_heading spelled_micro_item (record { heading = o.from; inner = o.inner; closing = at })),
  rw (o.heading_is, o.trees_are) refl,
)

-- One piece more.

pub some_same : {X : Type 0} {x y : X} → Some x ≡ Some y → x ≡ y
some_same h = cc

pub none_some : {X A : Type 0} {x : X} → None ≡ Some x → A
none_some h = absurd (cc)

-- a piece that is a `}`, or else one more tree
closed_or_more : {X A : Type 0} (closing : Option ℕ) (found : Option X) (close : ℕ → A) (more : X → A) (next : A) (P : A → Type 0)
    → option_map_or (λ at. Some (close at)) closing (found >>= (λ x. Some (more x))) ≡ Some next
    → ((at : ℕ) → closing ≡ Some at → P (close at)) → ((x : X) → found ≡ Some x → P (more x)) → P next
closed_or_more (Some at) found close more next P h f g = subst P (some_same h) (f at refl)
closed_or_more None (Some x) close more next P h f g = subst P (some_same h) (g x refl)
closed_or_more None None close more next P h f g = none_some h

found_one : {X A : Type 0} (found : Option X) (one : X → A) (next : A) (P : A → Type 0) → (found >>= (λ x. Some (one x))) ≡ Some next → ((x : X) → found ≡ Some x → P (one x)) → P next
found_one (Some x) one next P h g = subst P (some_same h) (g x refl)
found_one None one next P h g = none_some h

found_or : {X A : Type 0} (found : Option X) (one : X → A) (other : Option A) (next : A) (P : A → Type 0) → option_map_or (λ x. Some (one x)) found other ≡ Some next
    → ((x : X) → found ≡ Some x → P (one x)) → (other ≡ Some next → P next) → P next
found_or (Some x) one other next P h f g = subst P (some_same h) (f x refl)
found_or None one other next P h f g = g h

isa_sound : AreExact → (heading : Heading) (items : List tree.Item) (pieces : List (List Placed)) (piece : List Placed) (next : State) → IsAt (InIsa heading items) pieces
    → isa_step heading items piece ≡ Some next → IsAt next (pieces ++ piece ∷ [])
unfolding isa_step
isa_sound exact heading items pieces piece next o h =
    closed_or_more (closing_piece piece) (item_piece piece) (λ at. Behind (record { name = heading.name; items = items; close = at; abi = None; micro = None }))
    (λ x. InIsa heading (items ++ x ∷ [])) next (λ state. IsAt state (pieces ++ piece ∷ [])) h
    (λ at e. rw (closing_spelled exact.closing piece at e) (isa_done heading items pieces at o))
    (λ x e. open_more exact.item piece x e o)

abi_sound : AreExact → (desc : Desc) (heading : Heading) (roles : List role_tree.Role) (pieces : List (List Placed)) (piece : List Placed) (next : State) → IsAt (InAbi desc heading roles) pieces
    → abi_step desc heading roles piece ≡ Some next → IsAt next (pieces ++ piece ∷ [])
unfolding abi_step
abi_sound exact desc heading roles pieces piece next (isa, right, is, o) h =
    closed_or_more (closing_piece piece) (role_piece piece) (λ at. Behind (record desc { abi = Some (record { at = heading.at; name = heading.name; roles = roles; close = at }) }))
    (λ x. InAbi desc heading (roles ++ x ∷ [])) next (λ state. IsAt state (pieces ++ piece ∷ [])) h
    (λ at e. rw (closing_spelled exact.closing piece at e, is) (abi_done isa heading roles pieces at right o))
    (λ x e. (isa, right, is, open_more exact.role piece x e o))

micro_sound : AreExact → (desc : Desc) (heading : Heading) (items : List micro_tree.MicroItem) (pieces : List (List Placed)) (piece : List Placed) (next : State) → IsAt (InMicro desc heading items) pieces
    → micro_step desc heading items piece ≡ Some next → IsAt next (pieces ++ piece ∷ [])
unfolding micro_step
micro_sound exact desc heading items pieces piece next (isa, abi, right, is, o) h =
    closed_or_more (closing_piece piece) (micro_item_piece piece) (λ at. Behind (record desc { micro = Some (record { at = heading.at; name = heading.name; items = items; close = at }) }))
    (λ x. InMicro desc heading (items ++ x ∷ [])) next (λ state. IsAt state (pieces ++ piece ∷ [])) h
    (λ at e. rw (closing_spelled exact.closing piece at e, is) (micro_done isa abi heading items pieces at right o))
    (λ x e. (isa, abi, right, is, open_more exact.micro_item piece x e o))

micro_begins : AreExact → (isa : Section IsaHeading Item) (abi : Option (Section AbiHeading Role)) → IsTrue (is_description (record { isa = isa; abi = abi; micro = None })) → (piece : List Placed) (next : State)
    → micro_begin (description_of (record { isa = isa; abi = abi; micro = None })) piece ≡ Some next → IsAt next (description_pieces (record { isa = isa; abi = abi; micro = None }) ++ piece ∷ [])
unfolding micro_begin
micro_begins exact isa abi right piece next h =
    let d : Description = record { isa = isa; abi = abi; micro = None } in
    found_one (micro_heading_piece piece) (λ heading. InMicro (description_of d) heading []) next (λ state. IsAt state (description_pieces d ++ piece ∷ [])) h
    (λ heading e. (
      isa,
      abi,
      right,
      refl,
      open_begin spelled_micro_heading spelled_micro_item micro_heading_of (λ _. true) micro_item_of (description_pieces d) micro_heading_piece exact.micro_heading piece heading e,
    ))

abi_begins : AreExact → (isa : Section IsaHeading Item) → IsTrue (is_description (isa_alone isa)) → (piece : List Placed) (next : State)
    → abi_begin (description_of (isa_alone isa)) piece ≡ Some next → IsAt next (description_pieces (isa_alone isa) ++ piece ∷ [])
unfolding abi_begin
abi_begins exact isa right piece next h =
    let d : Description = isa_alone isa in
    found_or (abi_heading_piece piece) (λ heading. InAbi (description_of d) heading []) (micro_begin (description_of d) piece) next (λ state. IsAt state (description_pieces d ++ piece ∷ [])) h
    (λ heading e. (
      isa,
      right,
      refl,
      open_begin spelled_abi_heading spelled_role abi_heading_of is_role role_of (description_pieces d) abi_heading_piece exact.abi_heading piece heading e,
    ))
    (λ e. micro_begins exact isa None right piece next e)

behind_sound : AreExact → (isa : Section IsaHeading Item) (abi : Option (Section AbiHeading Role)) (micro : Option (Section MicroHeading MicroItem))
    → IsTrue (is_description (record { isa = isa; abi = abi; micro = micro })) → (piece : List Placed) (next : State)
    → behind_step (description_of (record { isa = isa; abi = abi; micro = micro })) piece ≡ Some next → IsAt next (description_pieces (record { isa = isa; abi = abi; micro = micro }) ++ piece ∷ [])
unfolding behind_step
behind_sound exact isa abi (Some micro) right piece next h = none_some h
behind_sound exact isa (Some abi) None right piece next h = micro_begins exact isa (Some abi) right piece next h
behind_sound exact isa None None right piece next h = abi_begins exact isa right piece next h

step_sound : AreExact → (state : State) (pieces : List (List Placed)) (piece : List Placed) (next : State) → IsAt state pieces → step state piece ≡ Some next → IsAt next (pieces ++ piece ∷ [])
unfolding step
step_sound exact Start pieces piece next e h =
    found_one (isa_heading_piece piece) (λ heading. InIsa heading []) next (λ state. IsAt state (pieces ++ piece ∷ [])) h
    (λ heading f. rw e (open_begin spelled_isa_heading spelled_item isa_heading_of is_item item_of [] isa_heading_piece exact.isa_heading piece heading f))
step_sound exact (InIsa heading items) pieces piece next o h = isa_sound exact heading items pieces piece next o h
step_sound exact (Behind desc) pieces piece next (d, right, e, f) h =
    rw e (behind_sound exact d.isa d.abi d.micro right piece next (ap (λ x. behind_step x piece) (sym f) ∙ h))
step_sound exact (InAbi desc heading roles) pieces piece next o h = abi_sound exact desc heading roles pieces piece next o h
step_sound exact (InMicro desc heading items) pieces piece next o h = micro_sound exact desc heading items pieces piece next o h

step_then : AreExact → (state : State) (before : List (List Placed)) (piece : List Placed) (more : List (List Placed)) (last : State) (found : Option State) → step state piece ≡ found
    → ((next : State) → IsAt next (before ++ piece ∷ []) → run next more ≡ Some last → IsAt last ((before ++ piece ∷ []) ++ more))
    → IsAt state before → (found >>= (λ next. run next more)) ≡ Some last → IsAt last (before ++ piece ∷ more)
step_then exact state before piece more last (Some next) e go o h =
    rw (← append_assoc before (piece ∷ []) more) (go next (step_sound exact state before piece next o e) h)
step_then exact state before piece more last None e go o h = none_some h

-- what is read with these pieces stands for them
pub run_sound : AreExact → (state : State) (before pieces : List (List Placed)) (last : State) → IsAt state before → run state pieces ≡ Some last → IsAt last (before ++ pieces)
unfolding run
run_sound exact state before [] last o h = subst (λ s. IsAt s (before ++ [])) (some_same h) (rw (append-nil before) o)
run_sound exact state before (piece ∷ more) last o h =
    step_then exact state before piece more last (step state piece) refl (λ next p e. run_sound exact next (before ++ piece ∷ []) more last p e) o h
