-- The pieces of a description, and that pieces flatten back to their text.
use Rattle.std.proofs.Common.{◌≡◌, ℕ, Bool, true, false, ◌||◌, List, [], ◌∷◌, ◌++◌, map, Option, Some, None, refl, sym, ap, ◌∙◌, append_assoc, append-nil}
use Rattle.vg_tok.specs.declared.sign.Sign.TheVariants as signs
use Rattle.vg_ast.specs.Placed.{Placed, sign}
use Rattle.vg_ast.specs.ConcreteItem.{Section, Description}
use Rattle.vg_ast.specs.SpellingItem.{Spells, spelled_item, spelled_role, spelled_micro_item, spelled_isa_heading, spelled_abi_heading, spelled_micro_heading, spelled_all, spelled_section, spelled_optional_section, spelled_description}
use Rattle.vg_ast.specs.Piece.{Depths, no_depths, depths_behind, begins_piece, closes_part, Cut, cut, cut_before, pieces}
use Rattle.vg_parse.proofs.Whole.{in_part, IsWhole, whole_item, whole_role, whole_micro_item, whole_isa_heading, whole_abi_heading, whole_micro_heading, whole_closing}

-- What pieces flatten to.

abbrev pub flat : List (List Placed) → List Placed
flat [] = []
flat (p ∷ ps) = p ++ flat ps

flat_before : (begins : Bool) (t : Placed) (behind : Cut) (ts : List Placed) → behind.0 ++ flat behind.1 ≡ ts
    → (cut_before begins t behind).0 ++ flat (cut_before begins t behind).1 ≡ t ∷ ts
flat_before true t behind ts h = ap (λ (rest : List Placed). t ∷ rest) h
flat_before false t behind ts h = ap (λ (rest : List Placed). t ∷ rest) h

flat_cut : (d : Depths) (fresh : Bool) (ts : List Placed) → (cut d fresh ts).0 ++ flat (cut d fresh ts).1 ≡ ts
unfolding cut
flat_cut d fresh [] = refl
flat_cut d fresh (t ∷ ts) = flat_before (fresh || begins_piece d t.kind) t (cut (depths_behind t.kind d) (closes_part d t.kind) ts) ts (flat_cut (depths_behind t.kind d) (closes_part d t.kind) ts)

-- nothing stands before a piece that begins
pub fresh_front : (d : Depths) (ts : List Placed) → (cut d true ts).0 ≡ []
unfolding cut
fresh_front d [] = refl
fresh_front d (t ∷ ts) = refl

pub flat_pieces : (ts : List Placed) → flat (pieces ts) ≡ ts
flat_pieces ts = sym (ap (λ front. front ++ flat (pieces ts)) (fresh_front no_depths ts)) ∙ flat_cut no_depths true ts

-- The pieces of a description, by its parts.

abbrev pub each : {X : Type 0} → Spells X → List X → List (List Placed)
each spells xs = map (λ x. spells x []) xs

abbrev pub closed : ℕ → List (List Placed)
closed at = (sign signs.CloseBrace at ∷ []) ∷ []

abbrev pub section_pieces : {H X : Type 0} → Spells H → Spells X → Section H X → List (List Placed)
section_pieces spells_heading spells section = spells_heading section.heading [] ∷ (each spells section.inner ++ closed section.closing)

abbrev pub optional_pieces : {H X : Type 0} → Spells H → Spells X → Option (Section H X) → List (List Placed)
optional_pieces spells_heading spells None = []
optional_pieces spells_heading spells (Some section) = section_pieces spells_heading spells section

abbrev pub description_pieces : Description → List (List Placed)
description_pieces d =
    section_pieces spelled_isa_heading spelled_item d.isa
    ++ (optional_pieces spelled_abi_heading spelled_role d.abi ++ optional_pieces spelled_micro_heading spelled_micro_item d.micro)

cut_inner : {X : Type 0} (spells : Spells X) → ((x : X) (f : Bool) → IsWhole in_part f (spells x) in_part false) → (xs : List X) (at : ℕ) (ts : List Placed) (f : Bool)
    → cut in_part f (spelled_all spells xs (sign signs.CloseBrace at ∷ ts)) ≡ ([], each spells xs ++ (closed at ++ pieces ts))
cut_inner spells wholes [] at ts f =
    (whole_closing at f).cut_whole ts ∙ ap (λ (front : List Placed). ([], (sign signs.CloseBrace at ∷ front) ∷ pieces ts)) (fresh_front no_depths ts)
cut_inner spells wholes (x ∷ xs) at ts f =
    (wholes x f).cut_whole (spelled_all spells xs (sign signs.CloseBrace at ∷ ts))
    ∙ ap (λ (c : Cut). ([], spells x c.0 ∷ c.1)) (cut_inner spells wholes xs at ts false)

pieces_section : {H X : Type 0} (spells_heading : Spells H) (spells : Spells X) → ((h : H) → IsWhole no_depths true (spells_heading h) in_part false)
    → ((x : X) (f : Bool) → IsWhole in_part f (spells x) in_part false) → (section : Section H X) (ts : List Placed)
    → pieces (spelled_section spells_heading spells section ts) ≡ section_pieces spells_heading spells section ++ pieces ts
pieces_section spells_heading spells whole_heading wholes section ts =
    ap (λ (c : Cut). c.1) ((whole_heading section.heading).cut_whole (spelled_all spells section.inner (sign signs.CloseBrace section.closing ∷ ts)))
    ∙ (ap (λ (c : Cut). spells_heading section.heading c.0 ∷ c.1) (cut_inner spells wholes section.inner section.closing ts false)
    ∙ ap (λ (ps : List (List Placed)). spells_heading section.heading [] ∷ ps) (sym (append_assoc (each spells section.inner) (closed section.closing) (pieces ts))))

pieces_optional : {H X : Type 0} (spells_heading : Spells H) (spells : Spells X) → ((h : H) → IsWhole no_depths true (spells_heading h) in_part false)
    → ((x : X) (f : Bool) → IsWhole in_part f (spells x) in_part false) → (section : Option (Section H X)) (ts : List Placed)
    → pieces (spelled_optional_section spells_heading spells section ts) ≡ optional_pieces spells_heading spells section ++ pieces ts
pieces_optional spells_heading spells whole_heading wholes None ts = refl
pieces_optional spells_heading spells whole_heading wholes (Some section) ts = pieces_section spells_heading spells whole_heading wholes section ts

no_pieces : pieces [] ≡ []
unfolding cut
no_pieces = refl

pub pieces_description : (d : Description) → pieces (spelled_description d) ≡ description_pieces d
pieces_description d =
    let micro = spelled_optional_section spelled_micro_heading spelled_micro_item d.micro [] in
    let abi = spelled_optional_section spelled_abi_heading spelled_role d.abi micro in
    pieces_section spelled_isa_heading spelled_item whole_isa_heading whole_item d.isa abi
    ∙ ap (λ ps. section_pieces spelled_isa_heading spelled_item d.isa ++ ps) (pieces_optional spelled_abi_heading spelled_role whole_abi_heading whole_role d.abi micro
    ∙ ap (λ ps. optional_pieces spelled_abi_heading spelled_role d.abi ++ ps) (pieces_optional spelled_micro_heading spelled_micro_item whole_micro_heading whole_micro_item d.micro []
    ∙ (ap (λ ps. optional_pieces spelled_micro_heading spelled_micro_item d.micro ++ ps) no_pieces ∙ append-nil (optional_pieces spelled_micro_heading spelled_micro_item d.micro))))

-- a text with the pieces of a description is that description's
pub spelled_by_pieces : (ts : List Placed) (d : Description) → pieces ts ≡ description_pieces d → ts ≡ spelled_description d
spelled_by_pieces ts d h = sym (flat_pieces ts) ∙ (ap flat (h ∙ sym (pieces_description d)) ∙ flat_pieces (spelled_description d))
