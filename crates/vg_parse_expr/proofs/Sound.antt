-- What is read is a tree of the grammar, and the tokens in front of what follows spell it.
use Rattle.std.proofs.Common.{◌≡◌, ℕ, zero, suc, ◌+◌, max, true, ◌&&◌, nat_eq, nat_le, List, [], ◌∷◌, ◌++◌, length, Option, Some, None, IfSome, refl, sym, ap, subst, ◌∙◌, arith, append_assoc}
use Rattle.vg_tok.specs.declared.token.Kind.{Kind}
use Rattle.vg_tok.specs.declared.token.Kind.TheVariants as kind
use Rattle.vg_tok.specs.declared.sign.Sign.{Sign}
use Rattle.vg_tok.specs.declared.sign.Sign.TheVariants as signs
use Rattle.vg_tok.specs.declared.word.Word.{Word}
use Rattle.vg_tok.specs.declared.word.Word.TheVariants as words
use Rattle.vg_tok.proofs.Lists.{chosen}
use Rattle.vg_ast.specs.declared.name.Name.{Name}
use Rattle.vg_ast.specs.declared.expr.Expr.{Expr}
use Rattle.vg_ast.specs.declared.expr.Expr.TheVariants as trees
use Rattle.vg_ast.specs.declared.type_expr.BitsKind.{BitsKind}
use Rattle.vg_ast.specs.declared.type_expr.TypeExpr.TheVariants as types
use Rattle.vg_ast.specs.declared.operator.UnaryOperator.{UnaryOperator}
use Rattle.vg_ast.specs.declared.operator.UnaryOperator.TheVariants as unaries
use Rattle.vg_ast.specs.declared.operator.BinaryOperator.{BinaryOperator}
use Rattle.vg_ast.specs.Placed.{Placed, sign, word, name}
use Rattle.vg_ast.specs.Operator.{unary_sign, binary_sign, kind_word, operator_level, left_level, right_level}
use Rattle.vg_ast.specs.Concrete as concrete
use Rattle.vg_ast.specs.Spelling.{spelled, spelled_more, spelled_type}
use Rattle.vg_ast.specs.Grouping.{level, is_grouped, are_more_grouped, is_grouped_type}
use Rattle.vg_ast.specs.Depth.{depth, depth_more, depth_type}
use Rattle.vg_ast.specs.Tree.{tree_of, more_of, type_of}
use Rattle.vg_parse_expr.specs.declared.operand.Operand.{Operand}
use Rattle.vg_parse_expr.specs.declared.operand.SizedType.{SizedType}
use Rattle.vg_parse_expr.specs.declared.infix.Infix.{Infix}
use Rattle.vg_parse_expr.specs.declared.infix.Infix.TheVariants as infixes
use Rattle.vg_parse_expr.specs.Lexeme.{is_sign_kind, begins_with, begins_with_word, sign_at, word_at, name_at}
use Rattle.vg_parse_expr.specs.Lookahead.{is_access}
use Rattle.vg_parse_expr.specs.Reading.{Reader, sized_at, unsized_of, type_by, type_at, bits_kind, arguments_at, call_at, access_at, named_at, join_at, parentheses_at, unary_at, signed_by, operand_by, operand_at, kind_infix, infix_level, infix_left_level, binary_at, cast_at, slice_at, infix_by, taken, rest_step, rest_at, conditional_at, binding_at, expression_by, expression_within, expression, type_expr}
use Rattle.vg_parse_expr.specs.Exact.{ExpressionIsSound, TypeIsSound}
use Rattle.vg_parse_expr.proofs.Tests.{both, both-from, three-from, four-from, le_trans, deeper, least_of_zero, reaches_same}
use Rattle.vg_parse_expr.proofs.Passed.{right_most}
use Rattle.vg_parse_expr.proofs.Taking.{then_some, some_map, choose_some, is_sign, sign_read, word_read, name_read, over_read, operator_token, cast_token, slice_token, bits_token}

-- what stands in the tokens, an expression of at least this level
pub record Stands (least : ℕ) (ts : List Placed) (found : Operand × List Placed) : Type 0 where
  pub c : concrete.Expr
  pub grouped : is_grouped c ≡ true
  pub reaches : nat_le least (level c) ≡ true
  pub shallow : nat_le (depth c) 64 ≡ true
  pub spells : ts ≡ spelled c found.1
  pub tree_is : found.0.tree ≡ tree_of c
  pub level_is : found.0.level ≡ level c
  pub depth_is : found.0.depth ≡ depth c

-- a type
pub record StandsType (ts : List Placed) (found : SizedType × List Placed) : Type 0 where
  pub c : concrete.TypeTree
  pub grouped : is_grouped_type c ≡ true
  pub shallow : nat_le (depth_type c) 64 ≡ true
  pub spells : ts ≡ spelled_type c found.1
  pub tree_is : found.0.tree ≡ type_of c
  pub depth_is : found.0.depth ≡ depth_type c

-- one argument or more, with the `)` behind them
pub record StandArguments (front : List Expr) (deepest : ℕ) (ts : List Placed) (found : (List Expr × ℕ) × List Placed) : Type 0 where
  pub first : concrete.Expr
  pub more : concrete.MoreArguments
  pub closing : ℕ
  pub grouped : (is_grouped first && are_more_grouped more) ≡ true
  pub spells : ts ≡ spelled first (spelled_more more (sign signs.CloseParenthesis closing ∷ found.1))
  pub trees_are : found.0.0 ≡ front ++ (tree_of first ∷ more_of more)
  pub depth_is : found.0.1 ≡ max deepest (max (depth first) (depth_more more))

abbrev pub IsSound : Reader → Type 0
IsSound read = (least : ℕ) (ts : List Placed) → nat_le least 10 ≡ true → IfSome (read least ts) (Stands least ts)

-- Types.

sized_read : (read : Reader) → IsSound read → (b : BitsKind) (at : ℕ) (ts : List Placed) → IfSome (sized_at read b at ts) (StandsType (word (kind_word b) at ∷ ts))
unfolding sized_at
sized_read read sound b at ts =
    then_some (sign_at signs.Less ts) _ _ _ (sign_read signs.Less ts) (λ less l.
    then_some (read 7 less.1) _ _ _ (sound 7 less.1 refl) (λ width w.
    then_some (sign_at signs.Greater width.1) _ _ _ (sign_read signs.Greater width.1) (λ greater g.
    record {
      c = concrete.sized b at less.0 w.c greater.0;
      grouped = both-from _ _ w.grouped w.reaches;
      shallow = w.shallow;
      spells = let s = w.spells in cc;
      tree_is = ap (λ x. types.Sized b at x) w.tree_is;
      depth_is = w.depth_is;
    })))

unsized_read : (k : Kind) (at : ℕ) (ts : List Placed) → IfSome (unsized_of k at ts) (StandsType (record { kind = k; at = at } ∷ ts))
unsized_read (kind.Name text) at ts = record { c = concrete.alias (record { text = text; at = at }); grouped = refl; shallow = refl; spells = refl; tree_is = refl; depth_is = refl }
unsized_read (kind.Word w) at ts = of_word w
  where
    of_word : (w : Word) → IfSome (unsized_of (kind.Word w) at ts) (StandsType (word w at ∷ ts))
    of_word words.Bool = record { c = concrete.bool at; grouped = refl; shallow = refl; spells = refl; tree_is = refl; depth_is = refl }
    of_word _ = tt
unsized_read (kind.Number n) at ts = tt
unsized_read (kind.Str text) at ts = tt
unsized_read (kind.Sign s) at ts = tt

type_read_by : (read : Reader) → IsSound read → (k : Kind) (at : ℕ) (ts : List Placed) (o : Option BitsKind) → bits_kind k ≡ o
    → IfSome (type_by o read k at ts) (StandsType (record { kind = k; at = at } ∷ ts))
type_read_by read sound k at ts None e = unsized_read k at ts
type_read_by read sound k at ts (Some b) e =
    subst (λ (x : Kind). IfSome (sized_at read b at ts) (StandsType (record { kind = x; at = at } ∷ ts))) (sym (bits_token k b e)) (sized_read read sound b at ts)

pub type_read : (read : Reader) → IsSound read → (ts : List Placed) → IfSome (type_at read ts) (StandsType ts)
unfolding type_at
type_read read sound [] = tt
type_read read sound (t ∷ ts) = type_read_by read sound t.kind t.at ts (bits_kind t.kind) refl

-- Operands.

one_argument : (read : Reader) → IsSound read → (front : List Expr) (deepest : ℕ) (ts : List Placed) (found : Operand × List Placed) → Stands 0 ts found
    → (closing : ℕ) (rest : List Placed) → found.1 ≡ sign signs.CloseParenthesis closing ∷ rest
    → StandArguments front deepest ts ((front ++ found.0.tree ∷ [], max deepest found.0.depth), rest)
one_argument read sound front deepest ts found f closing rest e = record {
  first = f.c;
  more = concrete.no_more;
  closing = closing;
  grouped = both-from _ _ f.grouped refl;
  spells = let s = f.spells in cc;
  trees_are = ap (λ (x : Expr). front ++ x ∷ []) f.tree_is;
  depth_is = let d = f.depth_is in omega arith;
}

more_arguments : (front : List Expr) (deepest : ℕ) (ts : List Placed) (found : Operand × List Placed) → Stands 0 ts found
    → (comma : ℕ) (rest : List Placed) → found.1 ≡ sign signs.Comma comma ∷ rest
    → (all : (List Expr × ℕ) × List Placed) → StandArguments (front ++ found.0.tree ∷ []) (max deepest found.0.depth) rest all → StandArguments front deepest ts all
more_arguments front deepest ts found f comma rest e all a = record {
  first = f.c;
  more = concrete.one_more comma a.first a.more;
  closing = a.closing;
  grouped = both-from _ _ f.grouped a.grouped;
  spells = let s = f.spells in let t = a.spells in cc;
  trees_are = a.trees_are ∙ (append_assoc front (found.0.tree ∷ []) (tree_of a.first ∷ more_of a.more) ∙ ap (λ (x : Expr). front ++ (x ∷ tree_of a.first ∷ more_of a.more)) f.tree_is);
  depth_is = let d = f.depth_is in let b = a.depth_is in omega arith;
}

arguments_read : (fuel : ℕ) (read : Reader) → IsSound read → (front : List Expr) (deepest : ℕ) (ts : List Placed)
    → IfSome (arguments_at fuel read front deepest ts) (StandArguments front deepest ts)
unfolding arguments_at
arguments_read zero read sound front deepest ts = tt
arguments_read (suc fuel) read sound front deepest ts =
    then_some (read 0 ts) _ _ _ (sound 0 ts refl) (λ found f.
    choose_some (begins_with signs.CloseParenthesis found.1) _ _ _
    (λ h. then_some (sign_at signs.CloseParenthesis found.1) _ _ _ (sign_read signs.CloseParenthesis found.1) (λ closing e.
    one_argument read sound front deepest ts found f closing.0 closing.1 e))
    (λ h. then_some (sign_at signs.Comma found.1) _ _ _ (sign_read signs.Comma found.1) (λ comma e.
    some_map (arguments_at fuel read (front ++ found.0.tree ∷ []) (max deepest found.0.depth) comma.1) _ _
    (λ all a. more_arguments front deepest ts found f comma.0 comma.1 e all a)
    (arguments_read fuel read sound (front ++ found.0.tree ∷ []) (max deepest found.0.depth) comma.1))))

call_read : (read : Reader) → IsSound read → (n : Name) (opening : ℕ) (ts : List Placed) → IfSome (call_at read n ts) (Stands 10 (name n ∷ sign signs.OpenParenthesis opening ∷ ts))
unfolding call_at
call_read read sound n opening ts = choose_some (begins_with signs.CloseParenthesis ts) _ _ _
    (λ h. then_some (sign_at signs.CloseParenthesis ts) _ _ _ (sign_read signs.CloseParenthesis ts) (λ closing e.
    over_read (trees.Call n []) 12 0 closing.1 (Stands 10 (name n ∷ sign signs.OpenParenthesis opening ∷ ts)) (λ small. record {
      c = concrete.call n opening concrete.no_argument closing.0;
      grouped = refl;
      reaches = refl;
      shallow = refl;
      spells = ap (λ (x : List Placed). name n ∷ sign signs.OpenParenthesis opening ∷ x) e;
      tree_is = refl;
      level_is = refl;
      depth_is = refl;
    })))
    (λ h. then_some (arguments_at (length ts) read [] 0 ts) _ _ _ (arguments_read (length ts) read sound [] 0 ts) (λ found a.
    over_read (trees.Call n found.0.0) 12 found.0.1 found.1 (Stands 10 (name n ∷ sign signs.OpenParenthesis opening ∷ ts)) (λ small. record {
      c = concrete.call n opening (concrete.arguments a.first a.more) a.closing;
      grouped = a.grouped;
      reaches = refl;
      shallow = deeper found.0.1 _ small (let d = a.depth_is in omega arith);
      spells = ap (λ (x : List Placed). name n ∷ sign signs.OpenParenthesis opening ∷ x) a.spells;
      tree_is = ap (λ (x : List Expr). trees.Call n x) a.trees_are;
      level_is = refl;
      depth_is = let d = a.depth_is in omega arith;
    })))

access_read : (read : Reader) → IsSound read → (n : Name) (less : ℕ) (ts : List Placed) → IfSome (access_at read n less ts) (Stands 10 (name n ∷ sign signs.Less less ∷ ts))
unfolding access_at
access_read read sound n less ts =
    then_some (read 7 ts) _ _ _ (sound 7 ts refl) (λ size s.
    then_some (sign_at signs.Greater size.1) _ _ _ (sign_read signs.Greater size.1) (λ greater g.
    then_some (sign_at signs.OpenParenthesis greater.1) _ _ _ (sign_read signs.OpenParenthesis greater.1) (λ opening o.
    then_some (read 0 opening.1) _ _ _ (sound 0 opening.1 refl) (λ address a.
    then_some (sign_at signs.CloseParenthesis address.1) _ _ _ (sign_read signs.CloseParenthesis address.1) (λ closing e.
    over_read (trees.Access n less size.0.tree address.0.tree) 12 (max size.0.depth address.0.depth) closing.1 (Stands 10 (name n ∷ sign signs.Less less ∷ ts)) (λ small.
    let d : max size.0.depth address.0.depth ≡ max (depth s.c) (depth a.c) = let x = s.depth_is in let y = a.depth_is in cc in
    record {
      c = concrete.access n less s.c greater.0 opening.0 a.c closing.0;
      grouped = three-from _ _ _ s.grouped s.reaches a.grouped;
      reaches = refl;
      shallow = deeper _ _ small d;
      spells = let x = s.spells in let y = a.spells in cc;
      tree_is = let x = s.tree_is in let y = a.tree_is in cc;
      level_is = refl;
      depth_is = ap (λ (x : ℕ). 1 + x) d;
    }))))))

leaf_stands : (c : concrete.Expr) (ts rest : List Placed) (found : Operand) → is_grouped c ≡ true → nat_le 10 (level c) ≡ true → nat_le (depth c) 64 ≡ true → ts ≡ spelled c rest
    → found ≡ record { tree = tree_of c; level = level c; depth = depth c } → Stands 10 ts (found, rest)
leaf_stands c ts rest found g r s e f = record { c = c; grouped = g; reaches = r; shallow = s; spells = e; tree_is = ap (λ x. x.tree) f; level_is = ap (λ x. x.level) f; depth_is = ap (λ x. x.depth) f }

named_read : (read : Reader) → IsSound read → (n : Name) (ts : List Placed) → IfSome (named_at read n ts) (Stands 10 (name n ∷ ts))
unfolding named_at
named_read read sound n [] = leaf_stands (concrete.variable n) (name n ∷ []) [] _ refl refl refl refl refl
named_read read sound n (t ∷ ts) =
    choose_some (is_sign_kind signs.OpenParenthesis t.kind) _ _ _
    (λ h. subst (λ (x : Placed). IfSome (call_at read n ts) (Stands 10 (name n ∷ x ∷ ts))) (sym (is_sign signs.OpenParenthesis t h)) (call_read read sound n t.at ts))
    (λ h. choose_some (is_sign_kind signs.Less t.kind && is_access ts) _ _ _
    (λ k. subst (λ (x : Placed). IfSome (access_at read n t.at ts) (Stands 10 (name n ∷ x ∷ ts))) (sym (is_sign signs.Less t (both _ (is_access ts) k).0)) (access_read read sound n t.at ts))
    (λ k. leaf_stands (concrete.variable n) (name n ∷ t ∷ ts) (t ∷ ts) _ refl refl refl refl refl))

join_read : (read : Reader) → IsSound read → (at : ℕ) (ts : List Placed) → IfSome (join_at read at ts) (Stands 10 (word words.Join at ∷ ts))
unfolding join_at
join_read read sound at ts =
    then_some (sign_at signs.OpenParenthesis ts) _ _ _ (sign_read signs.OpenParenthesis ts) (λ opening o.
    then_some (read 0 opening.1) _ _ _ (sound 0 opening.1 refl) (λ high h.
    then_some (sign_at signs.Comma high.1) _ _ _ (sign_read signs.Comma high.1) (λ comma m.
    then_some (read 0 comma.1) _ _ _ (sound 0 comma.1 refl) (λ low l.
    then_some (sign_at signs.CloseParenthesis low.1) _ _ _ (sign_read signs.CloseParenthesis low.1) (λ closing e.
    over_read (trees.Join at high.0.tree low.0.tree) 12 (max high.0.depth low.0.depth) closing.1 (Stands 10 (word words.Join at ∷ ts)) (λ small.
    let d : max high.0.depth low.0.depth ≡ max (depth h.c) (depth l.c) = let x = h.depth_is in let y = l.depth_is in cc in
    record {
      c = concrete.joined at opening.0 h.c comma.0 l.c closing.0;
      grouped = both-from _ _ h.grouped l.grouped;
      reaches = refl;
      shallow = deeper _ _ small d;
      spells = let x = h.spells in let y = l.spells in cc;
      tree_is = let x = h.tree_is in let y = l.tree_is in cc;
      level_is = refl;
      depth_is = ap (λ (x : ℕ). 1 + x) d;
    }))))))

parentheses_read : (read : Reader) → IsSound read → (at : ℕ) (ts : List Placed) → IfSome (parentheses_at read at ts) (Stands 10 (sign signs.OpenParenthesis at ∷ ts))
unfolding parentheses_at
parentheses_read read sound at ts =
    then_some (read 0 ts) _ _ _ (sound 0 ts refl) (λ inner i.
    then_some (sign_at signs.CloseParenthesis inner.1) _ _ _ (sign_read signs.CloseParenthesis inner.1) (λ closing e.
    over_read (trees.Parentheses at inner.0.tree) 12 inner.0.depth closing.1 (Stands 10 (sign signs.OpenParenthesis at ∷ ts)) (λ small. record {
      c = concrete.parentheses at i.c closing.0;
      grouped = i.grouped;
      reaches = refl;
      shallow = deeper _ _ small i.depth_is;
      spells = let x = i.spells in cc;
      tree_is = let x = i.tree_is in cc;
      level_is = refl;
      depth_is = ap (λ (x : ℕ). 1 + x) i.depth_is;
    })))

unary_read : (read : Reader) → IsSound read → (op : UnaryOperator) (at : ℕ) (ts : List Placed) → IfSome (unary_at read op at ts) (Stands 10 (sign (unary_sign op) at ∷ ts))
unfolding unary_at
unary_read read sound op at ts =
    then_some (read 10 ts) _ _ _ (sound 10 ts refl) (λ operand o.
    over_read (trees.Unary op at operand.0.tree) 10 operand.0.depth operand.1 (Stands 10 (sign (unary_sign op) at ∷ ts)) (λ small. record {
      c = concrete.unary op at o.c;
      grouped = both-from _ _ o.grouped o.reaches;
      reaches = refl;
      shallow = deeper _ _ small o.depth_is;
      spells = ap (λ (x : List Placed). sign (unary_sign op) at ∷ x) o.spells;
      tree_is = ap (λ (x : Expr). trees.Unary op at x) o.tree_is;
      level_is = refl;
      depth_is = ap (λ (x : ℕ). 1 + x) o.depth_is;
    }))

signed_read : (read : Reader) → IsSound read → (s : Sign) (at : ℕ) (ts : List Placed) → IfSome (signed_by read s at ts) (Stands 10 (sign s at ∷ ts))
signed_read read sound signs.OpenParenthesis at ts = parentheses_read read sound at ts
signed_read read sound signs.Tilde at ts = unary_read read sound unaries.Complement at ts
signed_read read sound signs.Minus at ts = unary_read read sound unaries.Negate at ts
signed_read read sound signs.Bang at ts = unary_read read sound unaries.Not at ts
signed_read read sound _ at ts = tt

worded_read : (read : Reader) → IsSound read → (w : Word) (at : ℕ) (ts : List Placed) → IfSome (operand_by read (kind.Word w) at ts) (Stands 10 (word w at ∷ ts))
worded_read read sound words.Join at ts = join_read read sound at ts
worded_read read sound _ at ts = tt

operand_read_by : (read : Reader) → IsSound read → (k : Kind) (at : ℕ) (ts : List Placed) → IfSome (operand_by read k at ts) (Stands 10 (record { kind = k; at = at } ∷ ts))
operand_read_by read sound (kind.Number value) at ts = leaf_stands (concrete.number value at) (record { kind = kind.Number value; at = at } ∷ ts) ts _ refl refl refl refl refl
operand_read_by read sound (kind.Name text) at ts = named_read read sound (record { text = text; at = at }) ts
operand_read_by read sound (kind.Sign s) at ts = signed_read read sound s at ts
operand_read_by read sound (kind.Word w) at ts = worded_read read sound w at ts
operand_read_by read sound (kind.Str text) at ts = tt

operand_read : (read : Reader) → IsSound read → (ts : List Placed) → IfSome (operand_at read ts) (Stands 10 ts)
unfolding operand_at
operand_read read sound [] = tt
operand_read read sound (t ∷ ts) = operand_read_by read sound t.kind t.at ts

-- What an expression goes on with.

binary_read : (read : Reader) → IsSound read → (least : ℕ) (all : List Placed) (left : Operand) (op : BinaryOperator) (at : ℕ) (ts : List Placed)
    → Stands least all (left, sign (binary_sign op) at ∷ ts) → nat_le least (operator_level op) ≡ true → nat_le (left_level op) left.level ≡ true
    → IfSome (binary_at read left op at ts) (Stands least all)
unfolding binary_at
binary_read read sound least all left op at ts l h k =
    then_some (read (right_level op) ts) _ _ _ (sound (right_level op) ts (right_most op)) (λ right r.
    over_read (trees.Binary op at left.tree right.0.tree) (operator_level op) (max left.depth right.0.depth) right.1 (Stands least all) (λ small.
    let d : max left.depth right.0.depth ≡ max (depth l.c) (depth r.c) = let x = l.depth_is in let y = r.depth_is in cc in
    record {
      c = concrete.binary l.c op at r.c;
      grouped = four-from _ _ _ _ l.grouped (reaches_same (left_level op) left.level (level l.c) l.level_is k) r.grouped r.reaches;
      reaches = h;
      shallow = deeper _ _ small d;
      spells = let x = l.spells in let y = r.spells in cc;
      tree_is = let x = l.tree_is in let y = r.tree_is in cc;
      level_is = refl;
      depth_is = ap (λ (x : ℕ). 1 + x) d;
    }))

cast_read : (read : Reader) → IsSound read → (least : ℕ) (all : List Placed) (left : Operand) (at : ℕ) (ts : List Placed)
    → Stands least all (left, word words.As at ∷ ts) → nat_le least 9 ≡ true → nat_le 9 left.level ≡ true
    → IfSome (cast_at read left at ts) (Stands least all)
unfolding cast_at
cast_read read sound least all left at ts l h k =
    then_some (type_at read ts) _ _ _ (type_read read sound ts) (λ target t.
    over_read (trees.Cast left.tree at target.0.tree) 9 (max left.depth target.0.depth) target.1 (Stands least all) (λ small.
    let d : max left.depth target.0.depth ≡ max (depth l.c) (depth_type t.c) = let x = l.depth_is in let y = t.depth_is in cc in
    record {
      c = concrete.cast l.c at t.c;
      grouped = three-from _ _ _ l.grouped (reaches_same 9 left.level (level l.c) l.level_is k) t.grouped;
      reaches = h;
      shallow = deeper _ _ small d;
      spells = let x = l.spells in let y = t.spells in cc;
      tree_is = let x = l.tree_is in let y = t.tree_is in cc;
      level_is = refl;
      depth_is = ap (λ (x : ℕ). 1 + x) d;
    }))

slice_read : (read : Reader) → IsSound read → (least : ℕ) (all : List Placed) (left : Operand) (at : ℕ) (ts : List Placed)
    → Stands least all (left, sign signs.OpenBracket at ∷ ts) → nat_le least 11 ≡ true → nat_le 11 left.level ≡ true
    → IfSome (slice_at read left at ts) (Stands least all)
unfolding slice_at
slice_read read sound least all left at ts o j k =
    then_some (read 0 ts) _ _ _ (sound 0 ts refl) (λ high h.
    then_some (sign_at signs.DotDot high.1) _ _ _ (sign_read signs.DotDot high.1) (λ dots m.
    then_some (read 0 dots.1) _ _ _ (sound 0 dots.1 refl) (λ low l.
    then_some (sign_at signs.CloseBracket low.1) _ _ _ (sign_read signs.CloseBracket low.1) (λ closing e.
    over_read (trees.Slice left.tree at high.0.tree low.0.tree) 11 (max left.depth (max high.0.depth low.0.depth)) closing.1 (Stands least all) (λ small.
    let d : max left.depth (max high.0.depth low.0.depth) ≡ max (depth o.c) (max (depth h.c) (depth l.c)) = let x = o.depth_is in let y = h.depth_is in let z = l.depth_is in cc in
    record {
      c = concrete.slice o.c at h.c dots.0 l.c closing.0;
      grouped = four-from _ _ _ _ o.grouped (reaches_same 11 left.level (level o.c) o.level_is k) h.grouped l.grouped;
      reaches = j;
      shallow = deeper _ _ small d;
      spells = let w = o.spells in let x = h.spells in let y = l.spells in cc;
      tree_is = let w = o.tree_is in let x = h.tree_is in let y = l.tree_is in cc;
      level_is = refl;
      depth_is = ap (λ (x : ℕ). 1 + x) d;
    })))))

infix_read : (read : Reader) → IsSound read → (least : ℕ) (all : List Placed) (left : Operand) (i : Infix) (k : Kind) (at : ℕ) (ts : List Placed)
    → kind_infix k ≡ Some i → Stands least all (left, record { kind = k; at = at } ∷ ts) → nat_le least (infix_level i) ≡ true → nat_le (infix_left_level i) left.level ≡ true
    → IfSome (infix_by read left i at ts) (Stands least all)
infix_read read sound least all left (infixes.Operator op) k at ts e l h j =
    binary_read read sound least all left op at ts (subst (λ (x : Kind). Stands least all (left, record { kind = x; at = at } ∷ ts)) (operator_token k op e) l) h j
infix_read read sound least all left infixes.Cast k at ts e l h j =
    cast_read read sound least all left at ts (subst (λ (x : Kind). Stands least all (left, record { kind = x; at = at } ∷ ts)) (cast_token k e) l) h j
infix_read read sound least all left infixes.Slice k at ts e l h j =
    slice_read read sound least all left at ts (subst (λ (x : Kind). Stands least all (left, record { kind = x; at = at } ∷ ts)) (slice_token k e) l) h j

rest_read_by : (read : Reader) → IsSound read → (least : ℕ) (all : List Placed) (left : Operand) (t : Placed) (ts : List Placed) (go : Operand → List Placed → Option (Operand × List Placed))
    → ((found : Operand × List Placed) → Stands least all found → IfSome (go found.0 found.1) (Stands least all)) → Stands least all (left, t ∷ ts)
    → (o : Option Infix) → kind_infix t.kind ≡ o → IfSome (rest_step go read left (t ∷ ts) (taken least left.level o)) (Stands least all)
rest_read_by read sound least all left t ts go again l None e = l
rest_read_by read sound least all left t ts go again l (Some i) e =
    chosen (nat_le least (infix_level i) && nat_le (infix_left_level i) left.level) (Some i) None (λ (o : Option Infix). IfSome (rest_step go read left (t ∷ ts) o) (Stands least all))
    (λ h. let p = both (nat_le least (infix_level i)) (nat_le (infix_left_level i) left.level) h in
    then_some (infix_by read left i t.at ts) _ _ _ (infix_read read sound least all left i t.kind t.at ts e l p.0 p.1) again)
    (λ h. l)

rest_read : (steps : ℕ) (read : Reader) → IsSound read → (least : ℕ) (all : List Placed) (left : Operand) (ts : List Placed) → Stands least all (left, ts)
    → IfSome (rest_at steps read least left ts) (Stands least all)
unfolding rest_at
rest_read zero read sound least all left ts l = l
rest_read (suc steps) read sound least all left [] l = l
rest_read (suc steps) read sound least all left (t ∷ ts) l =
    rest_read_by read sound least all left t ts (rest_at steps read least) (λ found f. rest_read steps read sound least all found.0 found.1 f) l (kind_infix t.kind) refl

-- Whole expressions.

conditional_read : (read : Reader) → IsSound read → (at : ℕ) (ts : List Placed) → IfSome (conditional_at read at ts) (Stands 0 (word words.If at ∷ ts))
unfolding conditional_at
conditional_read read sound at ts =
    then_some (read 0 ts) _ _ _ (sound 0 ts refl) (λ condition c.
    then_some (word_at words.Then condition.1) _ _ _ (word_read words.Then condition.1) (λ one_word m.
    then_some (read 0 one_word.1) _ _ _ (sound 0 one_word.1 refl) (λ one a.
    then_some (word_at words.Else one.1) _ _ _ (word_read words.Else one.1) (λ other_word n.
    then_some (read 0 other_word.1) _ _ _ (sound 0 other_word.1 refl) (λ other b.
    over_read (trees.If at condition.0.tree one.0.tree other.0.tree) 0 (max condition.0.depth (max one.0.depth other.0.depth)) other.1 (Stands 0 (word words.If at ∷ ts)) (λ small.
    let d : max condition.0.depth (max one.0.depth other.0.depth) ≡ max (depth c.c) (max (depth a.c) (depth b.c)) = let x = c.depth_is in let y = a.depth_is in let z = b.depth_is in cc in
    record {
      c = concrete.conditional at c.c one_word.0 a.c other_word.0 b.c;
      grouped = three-from _ _ _ c.grouped a.grouped b.grouped;
      reaches = refl;
      shallow = deeper _ _ small d;
      spells = let w = c.spells in let x = a.spells in let y = b.spells in cc;
      tree_is = let w = c.tree_is in let x = a.tree_is in let y = b.tree_is in cc;
      level_is = refl;
      depth_is = ap (λ (x : ℕ). 1 + x) d;
    }))))))

binding_read : (read : Reader) → IsSound read → (at : ℕ) (ts : List Placed) → IfSome (binding_at read at ts) (Stands 0 (word words.Let at ∷ ts))
unfolding binding_at
binding_read read sound at ts =
    then_some (name_at ts) _ _ _ (name_read ts) (λ n m.
    then_some (sign_at signs.Equal n.1) _ _ _ (sign_read signs.Equal n.1) (λ equal e.
    then_some (read 0 equal.1) _ _ _ (sound 0 equal.1 refl) (λ bound a.
    then_some (word_at words.In bound.1) _ _ _ (word_read words.In bound.1) (λ body_word w.
    then_some (read 0 body_word.1) _ _ _ (sound 0 body_word.1 refl) (λ body b.
    over_read (trees.Let at n.0 bound.0.tree body.0.tree) 0 (max bound.0.depth body.0.depth) body.1 (Stands 0 (word words.Let at ∷ ts)) (λ small.
    let d : max bound.0.depth body.0.depth ≡ max (depth a.c) (depth b.c) = let x = a.depth_is in let y = b.depth_is in cc in
    record {
      c = concrete.binding at n.0 equal.0 a.c body_word.0 b.c;
      grouped = both-from _ _ a.grouped b.grouped;
      reaches = refl;
      shallow = deeper _ _ small d;
      spells = let x = a.spells in let y = b.spells in cc;
      tree_is = let x = a.tree_is in let y = b.tree_is in cc;
      level_is = refl;
      depth_is = ap (λ (x : ℕ). 1 + x) d;
    }))))))

-- what is an expression of any level is one of at least the level 0, and one of least 0 is one of any least that is 0
as_least : (least : ℕ) (ts : List Placed) (found : Operand × List Placed) (old : ℕ) → Stands old ts found → ((n : ℕ) → nat_le old n ≡ true → nat_le least n ≡ true) → Stands least ts found
as_least least ts found old s f = record { c = s.c; grouped = s.grouped; reaches = f (level s.c) s.reaches; shallow = s.shallow; spells = s.spells; tree_is = s.tree_is; level_is = s.level_is; depth_is = s.depth_is }

by_read : (read : Reader) → IsSound read → IsSound (expression_by read)
unfolding expression_by
by_read read sound least ts small =
    choose_some (nat_eq least 0 && begins_with_word words.If ts) _ _ _
    (λ h. let z = (both (nat_eq least 0) _ h).0 in
    then_some (word_at words.If ts) _ _ _ (word_read words.If ts) (λ at e.
    some_map (conditional_at read at.0 at.1) (Stands 0 (word words.If at.0 ∷ at.1)) (Stands least ts)
    (λ found f. as_least least ts found 0 (subst (λ (x : List Placed). Stands 0 x found) (sym e) f) (λ n i. least_of_zero least n z))
    (conditional_read read sound at.0 at.1)))
    (λ h. choose_some (nat_eq least 0 && begins_with_word words.Let ts) _ _ _
    (λ k. let z = (both (nat_eq least 0) _ k).0 in
    then_some (word_at words.Let ts) _ _ _ (word_read words.Let ts) (λ at e.
    some_map (binding_at read at.0 at.1) (Stands 0 (word words.Let at.0 ∷ at.1)) (Stands least ts)
    (λ found f. as_least least ts found 0 (subst (λ (x : List Placed). Stands 0 x found) (sym e) f) (λ n i. least_of_zero least n z))
    (binding_read read sound at.0 at.1)))
    (λ k. then_some (operand_at read ts) _ _ _ (operand_read read sound ts) (λ left l.
    rest_read 64 read sound least ts left.0 left.1 (as_least least ts left 10 l (λ n i. le_trans least 10 n small i)))))

within_read : (fuel : ℕ) → IsSound (expression_within fuel)
unfolding expression_within
within_read zero least ts small = tt
within_read (suc fuel) least ts small = by_read (expression_within fuel) (within_read fuel) least ts small

pub expression_sound : ExpressionIsSound
expression_sound least ts small = some_map (expression least ts) (Stands least ts) _
    (λ found s. (s.c, three-from _ _ _ s.grouped s.reaches s.shallow, s.spells, s.tree_is, s.level_is, s.depth_is)) (within_read 64 least ts small)

pub type_sound : TypeIsSound
type_sound ts = some_map (type_expr ts) (StandsType ts) _
    (λ found s. (s.c, both-from _ _ s.grouped s.shallow, s.spells, s.tree_is, s.depth_is)) (type_read expression (within_read 64) ts)
