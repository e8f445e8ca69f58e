-- What stands in the tokens that a reader takes: a tree of the grammar, which spells them.
use Rattle.std.proofs.Common.{◌≡◌, ℕ, zero, suc, Bool, true, nat_le, List, [], ◌∷◌, ◌++◌, length, Some, None, IfSome, IsTrue, refl, ap, ◌∙◌, append_assoc}
use Rattle.vg_tok.specs.declared.sign.Sign.{Sign}
use Rattle.vg_tok.specs.declared.sign.Sign.TheVariants as signs
use Rattle.vg_ast.specs.Placed.{Placed, sign}
use Rattle.vg_ast.specs.Concrete as concrete
use Rattle.vg_ast.specs.ConcreteItem.{Row}
use Rattle.vg_ast.specs.Spelling.{spelled, spelled_type}
use Rattle.vg_ast.specs.SpellingItem.{Spells, spelled_row, spelled_optional_row}
use Rattle.vg_ast.specs.Grouping.{level, is_grouped}
use Rattle.vg_ast.specs.Depth.{depth}
use Rattle.vg_ast.specs.Grammar.{is_expression, is_type, is_row, is_optional_row}
use Rattle.vg_ast.specs.Tree.{tree_of, type_of}
use Rattle.vg_ast.specs.TreeItem.{row_of, optional_row_of}
use Rattle.vg_parse_expr.specs.declared.operand.Operand.{Operand}
use Rattle.vg_parse_expr.specs.declared.operand.SizedType.{SizedType}
use Rattle.vg_parse_expr.specs.Lexeme.{begins_with, sign_at}
use Rattle.vg_parse_expr.specs.Reading.{expression, type_expr}
use Rattle.vg_parse_expr.proofs.Tests.{both-from, three}
use Rattle.vg_parse_expr.proofs.Taking.{then_some, some_map, choose_some, sign_read}
use Rattle.vg_parse_expr.proofs.Sound.{expression_sound, type_sound}
use Rattle.vg_parse_item.specs.ReadingRow.{Reader, row_from, row_at, optional_row_at}
use Rattle.vg_parse_item.specs.Reading.{whole}

-- an expression of at least this level
pub record StandsExpression (least : ℕ) (ts : List Placed) (found : Operand × List Placed) : Type 0 where
  pub c : concrete.Expr
  pub right : is_expression c ≡ true
  pub reaches : nat_le least (level c) ≡ true
  pub spells : ts ≡ spelled c found.1
  pub tree_is : found.0.tree ≡ tree_of c
  pub depth_is : found.0.depth ≡ depth c

pub expression_read : (least : ℕ) (ts : List Placed) → nat_le least 10 ≡ true → IfSome (expression least ts) (StandsExpression least ts)
expression_read least ts h = some_map (expression least ts) _ _
    (λ found s. let p = three (is_grouped s.0) (nat_le least (level s.0)) (nat_le (depth s.0) 64) s.1 in
    record { c = s.0; right = both-from _ _ p.0 p.2; reaches = p.1; spells = s.2; tree_is = s.3; depth_is = s.5 })
    (expression_sound least ts h)

pub record StandsType (ts : List Placed) (found : SizedType × List Placed) : Type 0 where
  pub c : concrete.TypeTree
  pub right : is_type c ≡ true
  pub spells : ts ≡ spelled_type c found.1
  pub tree_is : found.0.tree ≡ type_of c

pub type_read : (ts : List Placed) → IfSome (type_expr ts) (StandsType ts)
type_read ts = some_map (type_expr ts) _ _ (λ found s. record { c = s.0; right = s.1; spells = s.2; tree_is = s.3 }) (type_sound ts)

-- what else is read by a rule of the grammar
pub record Stands {C X : Type 0} (spells_it : Spells C) (is_right : C → Bool) (tree : C → X) (ts : List Placed) (found : X × List Placed) : Type 0 where
  pub c : C
  pub right : is_right c ≡ true
  pub spells : ts ≡ spells_it c found.1
  pub tree_is : found.0 ≡ tree c

abbrev pub IsSound : {C X : Type 0} → Reader X → Spells C → (C → Bool) → (C → X) → Type 0
IsSound read spells is_right tree = (ts : List Placed) → IfSome (read ts) (Stands spells is_right tree ts)

-- Rows, with those in front of them.

record StandsBehind {C X : Type 0} (spells_it : Spells C) (is_right : C → Bool) (tree : C → X) (front : List X) (ts : List Placed) (found : List X × List Placed) : Type 0 where
  c : Row C
  right : is_row is_right c ≡ true
  spells : ts ≡ spelled_row spells_it c found.1
  tree_is : found.0 ≡ front ++ row_of tree c

module _ {C X : Type 0} (read : Reader X) (spells : Spells C) (is_right : C → Bool) (tree : C → X) (sound : IsSound read spells is_right tree) where
  last : (front : List X) (ts : List Placed) (found : X × List Placed) → Stands spells is_right tree ts found
      → StandsBehind spells is_right tree front ts (front ++ found.0 ∷ [], found.1)
  last front ts found f = record {
    c = record { first = f.c; more = [] };
    right = both-from _ _ f.right refl;
    spells = f.spells;
    tree_is = ap (λ (x : X). front ++ x ∷ []) f.tree_is;
  }

  next : (front : List X) (ts : List Placed) (found : X × List Placed) → Stands spells is_right tree ts found
      → (comma : ℕ) (rest : List Placed) → found.1 ≡ sign signs.Comma comma ∷ rest
      → (all : List X × List Placed) → StandsBehind spells is_right tree (front ++ found.0 ∷ []) rest all → StandsBehind spells is_right tree front ts all
  next front ts found f comma rest e all a = record {
    c = record { first = f.c; more = (comma, a.c.first) ∷ a.c.more };
    right = both-from _ _ f.right a.right;
    spells = f.spells ∙ ap (λ (x : List Placed). spells f.c x) (e ∙ ap (λ (x : List Placed). sign signs.Comma comma ∷ x) a.spells);
    tree_is = a.tree_is ∙ (append_assoc front (found.0 ∷ []) (row_of tree a.c) ∙ ap (λ (x : X). front ++ (x ∷ row_of tree a.c)) f.tree_is);
  }

  row_from_read : (fuel : ℕ) (front : List X) (ts : List Placed) → IfSome (row_from read fuel front ts) (StandsBehind spells is_right tree front ts)
  unfolding row_from
  row_from_read zero front ts = tt
  row_from_read (suc fuel) front ts =
      then_some (read ts) _ _ _ (sound ts) (λ found f.
      choose_some (begins_with signs.Comma found.1) _ _ _
      (λ h. then_some (sign_at signs.Comma found.1) _ _ _ (sign_read signs.Comma found.1) (λ comma e.
      some_map (row_from read fuel (front ++ found.0 ∷ []) comma.1) _ _ (λ all a. next front ts found f comma.0 comma.1 e all a)
      (row_from_read fuel (front ++ found.0 ∷ []) comma.1)))
      (λ h. last front ts found f))

  pub row_read : IsSound (row_at read) (spelled_row spells) (is_row is_right) (row_of tree)
  unfolding row_at
  row_read ts = some_map (row_from read (length ts) [] ts) _ _ (λ found s. record { c = s.c; right = s.right; spells = s.spells; tree_is = s.tree_is }) (row_from_read (length ts) [] ts)

  pub optional_row_read : (closing : Sign) → IsSound (optional_row_at closing read) (spelled_optional_row spells) (is_optional_row is_right) (optional_row_of tree)
  unfolding optional_row_at
  optional_row_read closing ts = choose_some (begins_with closing ts) _ _ _
      (λ h. record { c = None; right = refl; spells = refl; tree_is = refl })
      (λ h. some_map (row_at read ts) _ _ (λ found s. record { c = Some s.c; right = s.right; spells = s.spells; tree_is = s.tree_is }) (row_read ts))

-- Pieces.

pub whole_read : {C X : Type 0} (spells : Spells C) (is_right : C → Bool) (tree : C → X) (ts : List Placed) (found : X × List Placed) → Stands spells is_right tree ts found
    → IfSome (whole found) (λ x. (c : C) × IsTrue (is_right c) × (ts ≡ spells c []) × (x ≡ tree c))
whole_read {C = C} {X = X} spells is_right tree ts found s = of_rest found.0 found.1 s.c s.right s.spells s.tree_is
  where
    of_rest : (x : X) (rest : List Placed) (c : C) → IsTrue (is_right c) → ts ≡ spells c rest → x ≡ tree c
        → IfSome (whole (x, rest)) (λ y. (d : C) × IsTrue (is_right d) × (ts ≡ spells d []) × (y ≡ tree d))
    of_rest x [] c r e t = (c, r, e, t)
    of_rest x (u ∷ rest) c r e t = tt
