-- What the readers of pieces are held to: a piece is read exactly where it is spelled by a tree of the grammar.
use Rattle.std.specs.Prelude.{◌≡◌, ℕ, Bool, true, IsTrue, List, [], ◌∷◌, Option, Some, IfSome}
use Rattle.vg_tok.specs.declared.sign.Sign.TheVariants as signs
use Rattle.vg_ast.specs.Placed.{Placed, sign}
use Rattle.vg_ast.specs.ConcreteItem.{IsaHeading, AbiHeading, MicroHeading}
use Rattle.vg_ast.specs.SpellingItem.{Spells, spelled_item, spelled_role, spelled_micro_item, spelled_isa_heading, spelled_abi_heading, spelled_micro_heading}
use Rattle.vg_ast.specs.Grammar.{is_item, is_role}
use Rattle.vg_ast.specs.TreeItem.{item_of, role_of, micro_item_of}
use Rattle.vg_parse_item.specs.declared.heading.Heading.{Heading}
use Rattle.vg_parse_item.specs.Reading.{item_piece, role_piece, micro_item_piece, isa_heading_piece, abi_heading_piece, micro_heading_piece, closing_piece}

pub record IsExact {C X : Type 0} (read : List Placed → Option X) (spells : Spells C) (is_right : C → Bool) (tree_of : C → X) : Type 0 where
  -- what is read is spelled by a tree of the grammar, with nothing behind it
  pub sound : (ts : List Placed) → IfSome (read ts) (λ x. (c : C) × IsTrue (is_right c) × (ts ≡ spells c []) × (x ≡ tree_of c))
  -- each tree of the grammar is read
  pub complete : (c : C) → IsTrue (is_right c) → read (spells c []) ≡ Some (tree_of c)

abbrev pub ItemIsExact : Type 0
ItemIsExact = IsExact item_piece spelled_item is_item item_of

abbrev pub RoleIsExact : Type 0
RoleIsExact = IsExact role_piece spelled_role is_role role_of

abbrev pub MicroItemIsExact : Type 0
MicroItemIsExact = IsExact micro_item_piece spelled_micro_item (λ _. true) micro_item_of

abbrev pub isa_heading_of : IsaHeading → Heading
isa_heading_of h = record { at = h.at; name = h.name }

abbrev pub abi_heading_of : AbiHeading → Heading
abi_heading_of h = record { at = h.at; name = h.name }

abbrev pub micro_heading_of : MicroHeading → Heading
micro_heading_of h = record { at = h.at; name = h.name }

abbrev pub IsaHeadingIsExact : Type 0
IsaHeadingIsExact = IsExact isa_heading_piece spelled_isa_heading (λ _. true) isa_heading_of

abbrev pub AbiHeadingIsExact : Type 0
AbiHeadingIsExact = IsExact abi_heading_piece spelled_abi_heading (λ _. true) abi_heading_of

abbrev pub MicroHeadingIsExact : Type 0
MicroHeadingIsExact = IsExact micro_heading_piece spelled_micro_heading (λ _. true) micro_heading_of

-- a `}`, with tokens behind it
abbrev pub spelled_closing : ℕ → List Placed → List Placed
spelled_closing at ts = sign signs.CloseBrace at ∷ ts

abbrev pub ClosingIsExact : Type 0
ClosingIsExact = IsExact closing_piece spelled_closing (λ _. true) (λ at. at)
