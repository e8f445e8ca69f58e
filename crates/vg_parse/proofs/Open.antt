-- A part that is open: its heading and what stands in its braces so far.
use Rattle.std.proofs.Common.{◌≡◌, ℕ, Bool, true, ◌&&◌, IsTrue, List, [], ◌∷◌, ◌++◌, map, Option, Some, IfSome, refl, sym, ap, subst, ◌∙◌, append_assoc}
use Rattle.std.specs.List.{list_all}
use Rattle.std.proofs.lemmas.List.{map-append}
use Rattle.std.proofs.lemmas.List.Folds.{list_all-append}
use Rattle.vg_tok.specs.declared.sign.Sign.TheVariants as signs
use Rattle.vg_ast.specs.Placed.{Placed, sign}
use Rattle.vg_ast.specs.SpellingItem.{Spells}
use Rattle.vg_parse_item.specs.declared.heading.Heading.{Heading}
use Rattle.vg_parse_item.specs.Reading.{closing_piece}
use Rattle.vg_parse_item.specs.Exact.{IsExact, ItemIsExact, RoleIsExact, MicroItemIsExact, IsaHeadingIsExact, AbiHeadingIsExact, MicroHeadingIsExact, ClosingIsExact}
use Rattle.vg_parse.proofs.Pieces.{each, closed, section_pieces}
pub use Rattle.std.proofs.lemmas.Bool.{and_parts as split_true}

-- the readers of pieces read exactly what the grammar has
pub record AreExact : Type 0 where
  pub item : ItemIsExact
  pub role : RoleIsExact
  pub micro_item : MicroItemIsExact
  pub isa_heading : IsaHeadingIsExact
  pub abi_heading : AbiHeadingIsExact
  pub micro_heading : MicroHeadingIsExact
  pub closing : ClosingIsExact

-- what is read is spelled
pub read_spelled : {C X : Type 0} {read : List Placed → Option X} {spells : C → List Placed → List Placed} {is_right : C → Bool} {tree_of : C → X}
    → IsExact read spells is_right tree_of → (piece : List Placed) (x : X) → read piece ≡ Some x → (c : C) × IsTrue (is_right c) × (piece ≡ spells c []) × (x ≡ tree_of c)
read_spelled {C} {X} {read} {spells} {is_right} {tree_of} exact piece x h =
    subst (λ (o : Option X). IfSome o (λ y. (c : C) × IsTrue (is_right c) × (piece ≡ spells c []) × (y ≡ tree_of c))) h (exact.sound piece)

-- the pieces are those of a heading with these trees behind it, after the pieces before
pub record IsOpen {H X T : Type 0} (spells_heading : Spells H) (spells : Spells X) (heading_of : H → Heading) (is_right : X → Bool) (tree_of : X → T) (heading : Heading) (trees : List T) (before pieces : List (List Placed)) : Type 0 where
  pub from : H
  pub inner : List X
  pub right : IsTrue (list_all is_right inner)
  pub pieces_are : pieces ≡ before ++ spells_heading from [] ∷ each spells inner
  pub heading_is : heading ≡ heading_of from
  pub trees_are : trees ≡ map tree_of inner

pub open_begin : {H X T : Type 0} (spells_heading : Spells H) (spells : Spells X) (heading_of : H → Heading) (is_right : X → Bool) (tree_of : X → T) (before : List (List Placed))
    (read : List Placed → Option Heading) → IsExact read spells_heading (λ _. true) heading_of → (piece : List Placed) (heading : Heading) → read piece ≡ Some heading
    → IsOpen spells_heading spells heading_of is_right tree_of heading [] before (before ++ piece ∷ [])
open_begin spells_heading spells heading_of is_right tree_of before read exact piece heading h =
    let s = read_spelled exact piece heading h in record {
      from = s.0;
      inner = [];
      right = refl;
      pieces_are = ap (λ p. before ++ p ∷ []) s.2;
      heading_is = s.3;
      trees_are = refl;
    }

pub both_true : (a b : Bool) → IsTrue a → IsTrue b → IsTrue (a && b)
both_true a b h k = rw (h, k) refl

pub open_more : {H X T : Type 0} {spells_heading : Spells H} {spells : Spells X} {heading_of : H → Heading} {is_right : X → Bool} {tree_of : X → T} {heading : Heading} {trees : List T} {before pieces : List (List Placed)}
    {read : List Placed → Option T} → IsExact read spells is_right tree_of → (piece : List Placed) (x : T) → read piece ≡ Some x
    → IsOpen spells_heading spells heading_of is_right tree_of heading trees before pieces
    → IsOpen spells_heading spells heading_of is_right tree_of heading (trees ++ x ∷ []) before (pieces ++ piece ∷ [])
open_more {H} {X} {T} {spells_heading} {spells} {heading_of} {is_right} {tree_of} {heading} {trees} {before} {pieces} exact piece x h o =
    let s = read_spelled exact piece x h in record {
      from = o.from;
      inner = o.inner ++ s.0 ∷ [];
      right = list_all-append is_right o.inner (s.0 ∷ []) ∙ both_true (list_all is_right o.inner) (list_all is_right (s.0 ∷ [])) o.right (both_true (is_right s.0) true s.1 refl);
      pieces_are = ap (λ ps. ps ++ piece ∷ []) o.pieces_are
          ∙ (append_assoc before (spells_heading o.from [] ∷ each spells o.inner) (piece ∷ [])
          ∙ ap (λ ps. before ++ spells_heading o.from [] ∷ ps) (ap (λ p. each spells o.inner ++ p ∷ []) s.2 ∙ sym (map-append (λ y. spells y []) o.inner (s.0 ∷ []))));
      heading_is = o.heading_is;
      trees_are = ap (λ ys. ys ++ x ∷ []) o.trees_are ∙ (ap (λ y. map tree_of o.inner ++ y ∷ []) s.3 ∙ sym (map-append tree_of o.inner (s.0 ∷ [])));
    }

pub open_closed : {H X T : Type 0} {spells_heading : Spells H} {spells : Spells X} {heading_of : H → Heading} {is_right : X → Bool} {tree_of : X → T} {heading : Heading} {trees : List T} {before pieces : List (List Placed)}
    (at : ℕ) (o : IsOpen spells_heading spells heading_of is_right tree_of heading trees before pieces)
    → pieces ++ closed at ≡ before ++ section_pieces spells_heading spells (record { heading = o.from; inner = o.inner; closing = at })
open_closed {H} {X} {T} {spells_heading} {spells} {heading_of} {is_right} {tree_of} {heading} {trees} {before} at o =
    ap (λ ps. ps ++ closed at) o.pieces_are ∙ append_assoc before (spells_heading o.from [] ∷ each spells o.inner) (closed at)

-- a piece that is read as a closing is a `}`
pub closing_spelled : ClosingIsExact → (piece : List Placed) (at : ℕ) → closing_piece piece ≡ Some at → piece ∷ [] ≡ closed at
closing_spelled exact piece at h =
    let s = read_spelled exact piece at h in
    ap (λ (p : List Placed). p ∷ []) (s.2 ∙ ap (λ (n : ℕ). sign signs.CloseBrace n ∷ []) (sym s.3))
