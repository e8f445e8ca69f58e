-- A first operand and a type of the grammar are read, where they end.
use Rattle.std.proofs.Common.{◌≡◌, ℕ, zero, suc, ◌+◌, ◌≤◌, max, true, false, not, ◌&&◌, ◌||◌, nat_le, nat_lt, List, [], ◌∷◌, ◌++◌, length, Some, refl, ap, ◌∙◌, arith, append_assoc}
use Rattle.std.proofs.lemmas.Bool.Decides.{nat_tests}
use Rattle.vg_tok.specs.declared.token.Kind.TheVariants as kind
use Rattle.vg_tok.specs.declared.sign.Sign.TheVariants as signs
use Rattle.vg_tok.specs.declared.word.Word.TheVariants as words
use Rattle.vg_ast.specs.declared.name.Name.{Name}
use Rattle.vg_ast.specs.declared.expr.Expr as tree
use Rattle.vg_ast.specs.declared.expr.Expr.TheVariants as trees
use Rattle.vg_ast.specs.declared.type_expr.BitsKind.{BitsKind}
use Rattle.vg_ast.specs.declared.type_expr.BitsKind.TheVariants as kinds
use Rattle.vg_ast.specs.declared.operator.UnaryOperator.{UnaryOperator}
use Rattle.vg_ast.specs.declared.operator.UnaryOperator.TheVariants as unaries
use Rattle.vg_ast.specs.declared.operator.BinaryOperator.{BinaryOperator}
use Rattle.vg_ast.specs.declared.operator.BinaryOperator.TheVariants as binaries
use Rattle.vg_ast.specs.Placed.{Placed, sign, word}
use Rattle.vg_ast.specs.Operator.{unary_sign, binary_sign, kind_word, left_level, right_level}
use Rattle.vg_ast.specs.Concrete.{Expr, number, variable, call, access, joined, parentheses, unary, binary, cast, slice, conditional, binding, Arguments, no_argument, arguments, MoreArguments, no_more, one_more, TypeTree, sized, bool, alias}
use Rattle.vg_ast.specs.Spelling.{spelled, spelled_arguments, spelled_more, spelled_type}
use Rattle.vg_ast.specs.Grouping.{level, is_grouped, are_grouped, are_more_grouped, is_grouped_type}
use Rattle.vg_ast.specs.Depth.{depth, depth_arguments, depth_more, depth_type}
use Rattle.vg_ast.specs.Tree.{tree_of, more_of, type_of}
use Rattle.vg_parse_expr.specs.declared.operand.Operand.{Operand}
use Rattle.vg_parse_expr.specs.Lexeme.{is_sign_kind, begins_with, begins_with_word}
use Rattle.vg_parse_expr.specs.Lookahead.{searches, is_access}
use Rattle.vg_parse_expr.specs.Reading.{Reader, sized_at, type_by, type_at, bits_kind, arguments_at, call_at, access_at, named_at, join_at, parentheses_at, unary_at, signed_by}
use Rattle.vg_parse_expr.specs.Exact.{continues, goes_on_as_access, ends}
use Rattle.vg_parse_expr.proofs.Tests.{both, three, four, none_of-parts, le_trans, one_part, two_parts, room}
use Rattle.vg_parse_expr.proofs.Passed.{outside}
use Rattle.vg_parse_expr.proofs.Taking.{then_is, if_true, if_false, sign_is, over_is}
use Rattle.vg_parse_expr.proofs.Following.{ends_at_sign, ends_at_greater}

-- what reading gives of a tree
abbrev pub whole : Expr → Operand
whole c = record { tree = tree_of c; level = level c; depth = depth c }

-- trees of at most this depth are read where they end
abbrev pub IsComplete : ℕ → Reader → Type 0
IsComplete n read = (least : ℕ) (c : Expr) (rest : List Placed) → is_grouped c ≡ true → nat_le least (level c) ≡ true → nat_le (depth c) n ≡ true → ends least rest ≡ true
    → read least (spelled c rest) ≡ Some (whole c, rest)

-- Types.

bits_kind_of : (b : BitsKind) → bits_kind (kind.Word (kind_word b)) ≡ Some b
bits_kind_of kinds.Bits = refl
bits_kind_of kinds.UInt = refl
bits_kind_of kinds.SInt = refl

sized_is : (n : ℕ) (read : Reader) → IsComplete n read → (b : BitsKind) (at less : ℕ) (width : Expr) (greater : ℕ) (rest : List Placed)
    → is_grouped width ≡ true → nat_le 7 (level width) ≡ true → nat_le (depth width) n ≡ true
    → sized_at read b at (sign signs.Less less ∷ spelled width (sign signs.Greater greater ∷ rest)) ≡ Some (record { tree = type_of (sized b at less width greater); depth = depth width }, rest)
unfolding sized_at
sized_is n read complete b at less width greater rest g l d =
    then_is _ _ (less, spelled width (sign signs.Greater greater ∷ rest)) _ (sign_is signs.Less less _)
    (then_is (read 7 (spelled width (sign signs.Greater greater ∷ rest))) _ (whole width, sign signs.Greater greater ∷ rest) _ (complete 7 width (sign signs.Greater greater ∷ rest) g l d (ends_at_greater greater rest))
    (then_is _ _ (greater, rest) _ (sign_is signs.Greater greater rest) refl))

pub type_is : (n : ℕ) (read : Reader) → IsComplete n read → (c : TypeTree) (rest : List Placed) → is_grouped_type c ≡ true → nat_le (depth_type c) n ≡ true
    → type_at read (spelled_type c rest) ≡ Some (record { tree = type_of c; depth = depth_type c }, rest)
unfolding type_at
type_is n read complete (sized b at less width greater) rest g d =
    let p = both (is_grouped width) (nat_le 7 (level width)) g in
    ap (λ o. type_by o read (kind.Word (kind_word b)) at (sign signs.Less less ∷ spelled width (sign signs.Greater greater ∷ rest))) (bits_kind_of b)
    ∙ sized_is n read complete b at less width greater rest p.0 p.1 d
type_is n read complete (bool at) rest g d = refl
type_is n read complete (alias m) rest g d = refl

-- No tree begins with a sign or word that ends one.

begins_no_close : (c : Expr) (rest : List Placed) → begins_with signs.CloseParenthesis (spelled c rest) ≡ false
begins_no_close (unary unaries.Complement at operand) rest = refl
begins_no_close (unary unaries.Negate at operand) rest = refl
begins_no_close (unary unaries.Not at operand) rest = refl
begins_no_close (binary left op at right) rest = begins_no_close left (sign (binary_sign op) at ∷ spelled right rest)
begins_no_close (cast operand at target) rest = begins_no_close operand (word words.As at ∷ spelled_type target rest)
begins_no_close (slice operand opening high dots low closing) rest =
    begins_no_close operand (sign signs.OpenBracket opening ∷ spelled high (sign signs.DotDot dots ∷ spelled low (sign signs.CloseBracket closing ∷ rest)))
begins_no_close _ rest = refl

operator_some : (op : BinaryOperator) → nat_le 1 (left_level op) ≡ true
operator_some binaries.Or = refl
operator_some _ = refl

-- only `if` and `let` begin with a word of theirs
pub begins_no_word : (c : Expr) (rest : List Placed) → is_grouped c ≡ true → nat_le 1 (level c) ≡ true
    → (begins_with_word words.If (spelled c rest) ≡ false) × (begins_with_word words.Let (spelled c rest) ≡ false)
begins_no_word (binary left op at right) rest g h =
    let p = four (is_grouped left) (nat_le (left_level op) (level left)) (is_grouped right) (nat_le (right_level op) (level right)) g in
    begins_no_word left (sign (binary_sign op) at ∷ spelled right rest) p.0 (le_trans 1 (left_level op) (level left) (operator_some op) p.1)
begins_no_word (cast operand at target) rest g h =
    let p = three (is_grouped operand) (nat_le 9 (level operand)) (is_grouped_type target) g in
    begins_no_word operand (word words.As at ∷ spelled_type target rest) p.0 (le_trans 1 9 (level operand) refl p.1)
begins_no_word (slice operand opening high dots low closing) rest g h =
    let p = four (is_grouped operand) (nat_le 11 (level operand)) (is_grouped high) (is_grouped low) g in
    begins_no_word operand (sign signs.OpenBracket opening ∷ spelled high (sign signs.DotDot dots ∷ spelled low (sign signs.CloseBracket closing ∷ rest))) p.0 (le_trans 1 11 (level operand) refl p.1)
begins_no_word (conditional at condition at_then one at_else other) rest g h = absurd (cc)
begins_no_word (binding at n equal bound at_in body) rest g h = absurd (cc)
begins_no_word _ rest g h = (refl, refl)

-- A tree is spelled with tokens enough.
mutual
  pub longer : (c : Expr) (ts : List Placed) → length ts ≤ length (spelled c ts)
  longer (number value at) ts = omega arith
  longer (variable n) ts = omega arith
  longer (call n opening given closing) ts = omega (arith, longer_arguments given (sign signs.CloseParenthesis closing ∷ ts))
  longer (access n less size greater opening address closing) ts =
      omega (arith, longer address (sign signs.CloseParenthesis closing ∷ ts), longer size (sign signs.Greater greater ∷ sign signs.OpenParenthesis opening ∷ spelled address (sign signs.CloseParenthesis closing ∷ ts)))
  longer (joined at opening high comma low closing) ts =
      omega (arith, longer low (sign signs.CloseParenthesis closing ∷ ts), longer high (sign signs.Comma comma ∷ spelled low (sign signs.CloseParenthesis closing ∷ ts)))
  longer (parentheses opening inner closing) ts = omega (arith, longer inner (sign signs.CloseParenthesis closing ∷ ts))
  longer (unary op at operand) ts = omega (arith, longer operand ts)
  longer (binary left op at right) ts = omega (arith, longer right ts, longer left (sign (binary_sign op) at ∷ spelled right ts))
  longer (cast operand at target) ts = omega (arith, longer_type target ts, longer operand (word words.As at ∷ spelled_type target ts))
  longer (slice operand opening high dots low closing) ts =
      omega (
        arith,
        longer low (sign signs.CloseBracket closing ∷ ts),
        longer high (sign signs.DotDot dots ∷ spelled low (sign signs.CloseBracket closing ∷ ts)),
        longer operand (sign signs.OpenBracket opening ∷ spelled high (sign signs.DotDot dots ∷ spelled low (sign signs.CloseBracket closing ∷ ts))),
      )
  longer (conditional at condition at_then one at_else other) ts =
      omega (arith, longer other ts, longer one (word words.Else at_else ∷ spelled other ts), longer condition (word words.Then at_then ∷ spelled one (word words.Else at_else ∷ spelled other ts)))
  longer (binding at n equal bound at_in body) ts = omega (arith, longer body ts, longer bound (word words.In at_in ∷ spelled body ts))

  longer_arguments : (c : Arguments) (ts : List Placed) → length ts ≤ length (spelled_arguments c ts)
  longer_arguments no_argument ts = omega arith
  longer_arguments (arguments first more) ts = omega (arith, longer_more more ts, longer first (spelled_more more ts))

  longer_more : (c : MoreArguments) (ts : List Placed) → length ts ≤ length (spelled_more c ts)
  longer_more no_more ts = omega arith
  longer_more (one_more comma e more) ts = omega (arith, longer_more more ts, longer e (spelled_more more ts))

  longer_type : (c : TypeTree) (ts : List Placed) → length ts ≤ length (spelled_type c ts)
  longer_type (sized b at less width greater) ts = omega (arith, longer width (sign signs.Greater greater ∷ ts))
  longer_type (bool at) ts = omega arith
  longer_type (alias n) ts = omega arith

abbrev count : MoreArguments → ℕ
count no_more = 0
count (one_more comma e more) = suc (count more)

counted : (more : MoreArguments) (ts : List Placed) → count more + length ts ≤ length (spelled_more more ts)
counted no_more ts = omega arith
counted (one_more comma e more) ts = omega (arith, counted more ts, longer e (spelled_more more ts))

pub at_least_zero : (n : ℕ) → nat_le 0 n ≡ true
at_least_zero n = grind (arith, nat_tests)

-- a part of any level
pub part_is : (n : ℕ) (read : Reader) → IsComplete n read → (c : Expr) (rest : List Placed) → is_grouped c ≡ true → nat_le (depth c) n ≡ true → ends 0 rest ≡ true
    → read 0 (spelled c rest) ≡ Some (whole c, rest)
part_is n read complete c rest g d f = complete 0 c rest g (at_least_zero (level c)) d f

-- Operands.

more_trees : (front : List tree.Expr) (first e : Expr) (more : MoreArguments)
    → (front ++ tree_of first ∷ []) ++ (tree_of e ∷ more_of more) ≡ front ++ (tree_of first ∷ more_of (one_more 0 e more))
more_trees front first e more = append_assoc front (tree_of first ∷ []) (tree_of e ∷ more_of more)

max_zero : (a b : ℕ) → max a b ≡ max a (max b 0)
max_zero a b = omega arith

pub max_assoc : (a b c : ℕ) → max (max a b) c ≡ max a (max b c)
max_assoc a b c = omega arith

arguments_is : (n : ℕ) (read : Reader) → IsComplete n read → (fuel : ℕ) (first : Expr) (more : MoreArguments) (front : List tree.Expr) (deepest closing : ℕ) (rest : List Placed)
    → suc (count more) ≤ fuel → is_grouped first ≡ true → are_more_grouped more ≡ true → nat_le (max (depth first) (depth_more more)) n ≡ true
    → arguments_at fuel read front deepest (spelled first (spelled_more more (sign signs.CloseParenthesis closing ∷ rest)))
    ≡ Some ((front ++ (tree_of first ∷ more_of more), max deepest (max (depth first) (depth_more more))), rest)
unfolding arguments_at
arguments_is n read complete zero first more front deepest closing rest f g h d = absurd (omega arith)
arguments_is n read complete (suc fuel) first no_more front deepest closing rest f g h d =
    then_is (read 0 (spelled first (sign signs.CloseParenthesis closing ∷ rest))) _ (whole first, sign signs.CloseParenthesis closing ∷ rest) _
    (part_is n read complete first (sign signs.CloseParenthesis closing ∷ rest) g (two_parts (depth first) 0 n d).0 (ends_at_sign signs.CloseParenthesis closing rest refl))
    (then_is _ _ (closing, rest) _ (sign_is signs.CloseParenthesis closing rest)
    (ap (λ (x : ℕ). Some ((front ++ tree_of first ∷ [], x), rest)) (max_zero deepest (depth first))))
arguments_is n read complete (suc fuel) first (one_more comma e more) front deepest closing rest f g h d =
    let ts : List Placed = spelled e (spelled_more more (sign signs.CloseParenthesis closing ∷ rest)) in
    let p = both (is_grouped e) (are_more_grouped more) h in
    let q = two_parts (depth first) (max (depth e) (depth_more more)) n d in
    then_is (read 0 (spelled first (sign signs.Comma comma ∷ ts))) _ (whole first, sign signs.Comma comma ∷ ts) _
    (part_is n read complete first (sign signs.Comma comma ∷ ts) g q.0 (ends_at_sign signs.Comma comma ts refl))
    (then_is _ _ (comma, ts) _ (sign_is signs.Comma comma ts)
    (arguments_is n read complete fuel e more (front ++ tree_of first ∷ []) (max deepest (depth first)) closing rest (omega arith) p.0 p.1 q.1
    ∙ (ap (λ (x : List tree.Expr). Some ((x, max (max deepest (depth first)) (max (depth e) (depth_more more))), rest)) (more_trees front first e more)
    ∙ ap (λ (x : ℕ). Some ((front ++ (tree_of first ∷ tree_of e ∷ more_of more), x), rest)) (max_assoc deepest (depth first) (max (depth e) (depth_more more))))))

max_nothing : (a : ℕ) → max 0 a ≡ a
max_nothing a = omega arith

pub call_is : (n : ℕ) (read : Reader) → IsComplete n read → nat_lt n 64 ≡ true → (m : Name) (opening : ℕ) (given : Arguments) (closing : ℕ) (rest : List Placed)
    → are_grouped given ≡ true → nat_le (1 + depth_arguments given) (suc n) ≡ true
    → call_at read m (spelled_arguments given (sign signs.CloseParenthesis closing ∷ rest)) ≡ Some (whole (call m opening given closing), rest)
unfolding call_at
call_is n read complete small m opening no_argument closing rest g d =
    then_is _ _ (closing, rest) _ (sign_is signs.CloseParenthesis closing rest) refl
call_is n read complete small m opening (arguments first more) closing rest g d =
    let end : List Placed = sign signs.CloseParenthesis closing ∷ rest in
    let ts : List Placed = spelled first (spelled_more more end) in
    let p = both (is_grouped first) (are_more_grouped more) g in
    let e : nat_le (max (depth first) (depth_more more)) n ≡ true = one_part (max (depth first) (depth_more more)) n d in
    let enough : suc (count more) ≤ length ts = omega (arith, counted more end, longer first (spelled_more more end)) in
    if_false (begins_with signs.CloseParenthesis ts) _ _ _ (begins_no_close first (spelled_more more end))
    (then_is (arguments_at (length ts) read [] 0 ts) _ ((tree_of first ∷ more_of more, max 0 (max (depth first) (depth_more more))), rest) _
    (arguments_is n read complete (length ts) first more [] 0 closing rest enough p.0 p.1 e)
    (over_is (trees.Call m (tree_of first ∷ more_of more)) 12 (max 0 (max (depth first) (depth_more more))) rest
    (room (max 0 (max (depth first) (depth_more more))) n (ap (λ (x : ℕ). nat_le x n) (max_nothing (max (depth first) (depth_more more))) ∙ e) small)
    ∙ ap (λ (x : ℕ). Some (record { tree = trees.Call m (tree_of first ∷ more_of more); level = 12; depth = 1 + x }, rest)) (max_nothing (max (depth first) (depth_more more)))))

pub access_is : (n : ℕ) (read : Reader) → IsComplete n read → nat_lt n 64 ≡ true → (m : Name) (less : ℕ) (size : Expr) (greater opening : ℕ) (address : Expr) (closing : ℕ) (rest : List Placed)
    → is_grouped (access m less size greater opening address closing) ≡ true → nat_le (1 + max (depth size) (depth address)) (suc n) ≡ true
    → access_at read m less (spelled size (sign signs.Greater greater ∷ sign signs.OpenParenthesis opening ∷ spelled address (sign signs.CloseParenthesis closing ∷ rest)))
    ≡ Some (whole (access m less size greater opening address closing), rest)
unfolding access_at
access_is n read complete small m less size greater opening address closing rest g d =
    let p = three (is_grouped size) (nat_le 7 (level size)) (is_grouped address) g in
    let e : nat_le (max (depth size) (depth address)) n ≡ true = one_part (max (depth size) (depth address)) n d in
    let q = two_parts (depth size) (depth address) n e in
    let end : List Placed = sign signs.CloseParenthesis closing ∷ rest in
    let inner : List Placed = spelled address end in
    let ts : List Placed = sign signs.Greater greater ∷ sign signs.OpenParenthesis opening ∷ inner in
    then_is (read 7 (spelled size ts)) _ (whole size, ts) _ (complete 7 size ts p.0 p.1 q.0 (ends_at_greater greater (sign signs.OpenParenthesis opening ∷ inner)))
    (then_is _ _ (greater, sign signs.OpenParenthesis opening ∷ inner) _ (sign_is signs.Greater greater _)
    (then_is _ _ (opening, inner) _ (sign_is signs.OpenParenthesis opening inner)
    (then_is (read 0 inner) _ (whole address, end) _ (part_is n read complete address end p.2 q.1 (ends_at_sign signs.CloseParenthesis closing rest refl))
    (then_is _ _ (closing, rest) _ (sign_is signs.CloseParenthesis closing rest)
    (over_is (trees.Access m less (tree_of size) (tree_of address)) 12 (max (depth size) (depth address)) rest (room (max (depth size) (depth address)) n e small))))))

pub join_is : (n : ℕ) (read : Reader) → IsComplete n read → nat_lt n 64 ≡ true → (at opening : ℕ) (high : Expr) (comma : ℕ) (low : Expr) (closing : ℕ) (rest : List Placed)
    → is_grouped (joined at opening high comma low closing) ≡ true → nat_le (1 + max (depth high) (depth low)) (suc n) ≡ true
    → join_at read at (sign signs.OpenParenthesis opening ∷ spelled high (sign signs.Comma comma ∷ spelled low (sign signs.CloseParenthesis closing ∷ rest)))
    ≡ Some (whole (joined at opening high comma low closing), rest)
unfolding join_at
join_is n read complete small at opening high comma low closing rest g d =
    let p = both (is_grouped high) (is_grouped low) g in
    let e : nat_le (max (depth high) (depth low)) n ≡ true = one_part (max (depth high) (depth low)) n d in
    let q = two_parts (depth high) (depth low) n e in
    let end : List Placed = sign signs.CloseParenthesis closing ∷ rest in
    let ts : List Placed = sign signs.Comma comma ∷ spelled low end in
    then_is _ _ (opening, spelled high ts) _ (sign_is signs.OpenParenthesis opening _)
    (then_is (read 0 (spelled high ts)) _ (whole high, ts) _ (part_is n read complete high ts p.0 q.0 (ends_at_sign signs.Comma comma (spelled low end) refl))
    (then_is _ _ (comma, spelled low end) _ (sign_is signs.Comma comma _)
    (then_is (read 0 (spelled low end)) _ (whole low, end) _ (part_is n read complete low end p.1 q.1 (ends_at_sign signs.CloseParenthesis closing rest refl))
    (then_is _ _ (closing, rest) _ (sign_is signs.CloseParenthesis closing rest)
    (over_is (trees.Join at (tree_of high) (tree_of low)) 12 (max (depth high) (depth low)) rest (room (max (depth high) (depth low)) n e small))))))

pub parentheses_is : (n : ℕ) (read : Reader) → IsComplete n read → nat_lt n 64 ≡ true → (at : ℕ) (inner : Expr) (closing : ℕ) (rest : List Placed)
    → is_grouped inner ≡ true → nat_le (1 + depth inner) (suc n) ≡ true
    → parentheses_at read at (spelled inner (sign signs.CloseParenthesis closing ∷ rest)) ≡ Some (whole (parentheses at inner closing), rest)
unfolding parentheses_at
parentheses_is n read complete small at inner closing rest g d =
    let e : nat_le (depth inner) n ≡ true = one_part (depth inner) n d in
    let end : List Placed = sign signs.CloseParenthesis closing ∷ rest in
    then_is (read 0 (spelled inner end)) _ (whole inner, end) _ (part_is n read complete inner end g e (ends_at_sign signs.CloseParenthesis closing rest refl))
    (then_is _ _ (closing, rest) _ (sign_is signs.CloseParenthesis closing rest)
    (over_is (trees.Parentheses at (tree_of inner)) 12 (depth inner) rest (room (depth inner) n e small)))

pub unary_is : (n : ℕ) (read : Reader) → IsComplete n read → nat_lt n 64 ≡ true → (op : UnaryOperator) (at : ℕ) (operand : Expr) (rest : List Placed)
    → is_grouped (unary op at operand) ≡ true → nat_le (1 + depth operand) (suc n) ≡ true → ends 10 rest ≡ true
    → unary_at read op at (spelled operand rest) ≡ Some (whole (unary op at operand), rest)
unfolding unary_at
unary_is n read complete small op at operand rest g d f =
    let p = both (is_grouped operand) (nat_le 10 (level operand)) g in
    let e : nat_le (depth operand) n ≡ true = one_part (depth operand) n d in
    then_is (read 10 (spelled operand rest)) _ (whole operand, rest) _ (complete 10 operand rest p.0 p.1 e f)
    (over_is (trees.Unary op at (tree_of operand)) 10 (depth operand) rest (room (depth operand) n e small))

pub unary_signed : (read : Reader) (op : UnaryOperator) (at : ℕ) (ts : List Placed) → signed_by read (unary_sign op) at ts ≡ unary_at read op at ts
unary_signed read unaries.Complement at ts = refl
unary_signed read unaries.Negate at ts = refl
unary_signed read unaries.Not at ts = refl

pub variable_is : (read : Reader) (m : Name) (rest : List Placed) → ends 12 rest ≡ true → named_at read m rest ≡ Some (whole (variable m), rest)
unfolding named_at
variable_is read m [] f = refl
variable_is read m (t ∷ ts) f =
    let p = none_of-parts (continues 12 (t ∷ ts)) (begins_with signs.OpenParenthesis (t ∷ ts)) (goes_on_as_access (t ∷ ts)) (nat_lt 5 12 || not (is_access (t ∷ ts))) f in
    if_false (is_sign_kind signs.OpenParenthesis t.kind) _ _ _ p.1 (if_false (is_sign_kind signs.Less t.kind && is_access ts) _ _ _ p.2 refl)

pub call_named : (read : Reader) (m : Name) (opening : ℕ) (ts : List Placed) → named_at read m (sign signs.OpenParenthesis opening ∷ ts) ≡ call_at read m ts
unfolding named_at
call_named read m opening ts = refl

pub le_self : (n : ℕ) → nat_le n n ≡ true
le_self n = grind (arith, nat_tests)

pub access_named : (read : Reader) (m : Name) (less : ℕ) (size : Expr) (greater opening : ℕ) (ts : List Placed) → is_grouped size ≡ true → nat_le 7 (level size) ≡ true
    → named_at read m (sign signs.Less less ∷ spelled size (sign signs.Greater greater ∷ sign signs.OpenParenthesis opening ∷ ts))
    ≡ access_at read m less (spelled size (sign signs.Greater greater ∷ sign signs.OpenParenthesis opening ∷ ts))
unfolding named_at searches
access_named read m less size greater opening ts g h =
    if_true (is_access (spelled size (sign signs.Greater greater ∷ sign signs.OpenParenthesis opening ∷ ts))) _ _ _ (outside size (sign signs.Greater greater ∷ sign signs.OpenParenthesis opening ∷ ts) 0 g h) refl
