-- The numbers of names, appended in parts; and the names of an expression by those of its parts.
use Rattle.std.proofs.Common.{◌≡◌, ℕ, ◌+◌, ◌<◌, ◌≤◌, length, get_or, take, Bool, true, false, ◌||◌, List, [], ◌∷◌, ◌++◌, map, Option, Some, None, refl, sym, ap, ◌∙◌, append_assoc, append-nil, if◌then◌else◌}
use Rattle.std.specs.Option.{option_to_list}
use Rattle.std.proofs.lemmas.List.{take_more, take_all}
use Rattle.std.specs.List.{list_any}
use Rattle.std.specs.Str.{bytes_eq}
use Rattle.std.specs.Borrow.{Bor}
use Rattle.vg_ast.specs.declared.name.Name.{Name}
use Rattle.vg_ast.specs.declared.operator.UnaryOperator.{UnaryOperator}
use Rattle.vg_ast.specs.declared.operator.BinaryOperator.{BinaryOperator}
use Rattle.vg_ast.specs.declared.type_expr.BitsKind.{BitsKind}
use Rattle.vg_ast.specs.declared.type_expr.TypeExpr.TheVariants as types
use Rattle.vg_ast.specs.declared.expr.Expr.{Expr, fold-roll-Expr}
use Rattle.vg_ast.specs.declared.expr.Expr.TheOpen.{Expr-F}
use Rattle.vg_ast.specs.declared.expr.Expr.TheVariants as tree
use Rattle.vg_ast.specs.declared.expr.Expr.TheVariants.{rolls-Number, rolls-Name, rolls-Call, rolls-Access, rolls-Join, rolls-Parentheses, rolls-Unary, rolls-Binary, rolls-Cast, rolls-Slice, rolls-If, rolls-Let}
use Rattle.vg_ast.specs.declared.parameter.Parameter.{Parameter}
use Rattle.vg_names.specs.Definition.{Text, is_among}
use Rattle.vg_names.specs.Uses.{Names, outer, all_of, names_step, expression_names, type_expr_names, parameter_names}
use Rattle.vg_names.specs.Numbers.{numbers_of, with_numbers}
use Rattle.vg_names.specs.Scoped.{inner_of}

pub numbers_of-append : (number : Text → Option ℕ) (a b : List Text) → numbers_of number (a ++ b) ≡ numbers_of number a ++ numbers_of number b
numbers_of-append number [] b = refl
numbers_of-append number (text ∷ a) b = ap (λ (l : List ℕ). option_to_list (number text) ++ l) (numbers_of-append number a b) ∙ sym (append_assoc (option_to_list (number text)) (numbers_of number a) (numbers_of number b))

pub with_numbers-append : (number : Text → Option ℕ) (front : List ℕ) (a b : List Text) → with_numbers number front (a ++ b) ≡ with_numbers number (with_numbers number front a) b
unfolding with_numbers
with_numbers-append number front a b = ap (λ (l : List ℕ). front ++ l) (numbers_of-append number a b) ∙ sym (append_assoc front (numbers_of number a) (numbers_of number b))

pub with_numbers-nil : (number : Text → Option ℕ) (front : List ℕ) → with_numbers number front [] ≡ front
unfolding with_numbers
with_numbers-nil number front = append-nil front

pub with_numbers-some : (number : Text → Option ℕ) (front : List ℕ) (text : Text) (k : ℕ) → number text ≡ Some k → with_numbers number front (text ∷ []) ≡ front ++ k ∷ []
unfolding with_numbers
with_numbers-some number front text k e = ap (λ (o : Option ℕ). front ++ (option_to_list o ++ [])) e

pub with_numbers-none : (number : Text → Option ℕ) (front : List ℕ) (text : Text) → number text ≡ None → with_numbers number front (text ∷ []) ≡ front
unfolding with_numbers
with_numbers-none number front text e = ap (λ (o : Option ℕ). front ++ (option_to_list o ++ [])) e ∙ append-nil front

pub inner_of-push : (names : List (Bor Text)) (name : Bor Text) (others : List Text) → inner_of (names ++ name ∷ []) others ≡ name.now ∷ inner_of names others
inner_of-push [] name others = refl
inner_of-push (first ∷ names) name others = inner_of-push names name (first.now ∷ others)

-- an inner name is one that is bound, or one of the others
pub is_among-inner_of : (text : Text) (names : List (Bor Text)) (others : List Text) → is_among text (inner_of names others) ≡ (list_any (λ (name : Bor Text). bytes_eq name.now text) names || is_among text others)
is_among-inner_of text [] others = refl
is_among-inner_of text (first ∷ names) others =
    is_among-inner_of text names (first.now ∷ others)
    ∙ swapped (bytes_eq first.now text) (list_any (λ (name : Bor Text). bytes_eq name.now text) names) (is_among text others)
  where
    swapped : (a b c : Bool) → (b || (if a then true else c)) ≡ ((a || b) || c)
    swapped true true c = refl
    swapped true false c = refl
    swapped false b c = refl

-- the names of the arguments of a call
abbrev pub arguments_names : List Expr → Names
arguments_names arguments inner = all_of (map expression_names arguments) inner

pub arguments_names-push : (arguments : List Expr) (argument : Expr) (inner : List Text) → arguments_names (arguments ++ argument ∷ []) inner ≡ arguments_names arguments inner ++ expression_names argument inner
arguments_names-push [] argument inner = append-nil (expression_names argument inner)
arguments_names-push (first ∷ arguments) argument inner =
    ap (λ (l : List Text). expression_names first inner ++ l) (arguments_names-push arguments argument inner)
    ∙ sym (append_assoc (expression_names first inner) (arguments_names arguments inner) (expression_names argument inner))

pub parameter_names-push : (parameters : List Parameter) (parameter : Parameter) → parameter_names (parameters ++ parameter ∷ []) ≡ parameter_names parameters ++ type_expr_names parameter.declared []
parameter_names-push [] parameter = append-nil (type_expr_names parameter.declared [])
parameter_names-push (first ∷ parameters) parameter =
    ap (λ (l : List Text). type_expr_names first.declared [] ++ l) (parameter_names-push parameters parameter)
    ∙ sym (append_assoc (type_expr_names first.declared []) (parameter_names parameters) (type_expr_names parameter.declared []))

with_two : (number : Text → Option ℕ) (front : List ℕ) (a b c : List Text) → with_numbers number front (a ++ b ++ c) ≡ with_numbers number (with_numbers number (with_numbers number front a) b) c
with_two number front a b c = with_numbers-append number front (a ++ b) c ∙ ap (λ (l : List ℕ). with_numbers number l c) (with_numbers-append number front a b)

-- One equation for each way to make an expression.

rolled : (number : Text → Option ℕ) (front : List ℕ) (inner : List Text) {e f : Expr} {names : Names} → e ≡ f → expression_names f ≡ names → with_numbers number front (expression_names e inner) ≡ with_numbers number front (names inner)
rolled number front inner a b = ap (λ (x : Expr). with_numbers number front (expression_names x inner)) a ∙ ap (λ (n : Names). with_numbers number front (n inner)) b

pub names-Number : (number : Text → Option ℕ) (front : List ℕ) (inner : List Text) (value at : ℕ) → with_numbers number front (expression_names (tree.Number value at) inner) ≡ front
names-Number number front inner value at =
    rolled number front inner (sym (rolls-Number value at)) (fold-roll-Expr Names names_step (Expr-F.Number value at))
    ∙ with_numbers-nil number front

pub names-Name : (number : Text → Option ℕ) (front : List ℕ) (inner : List Text) (name : Name) → with_numbers number front (expression_names (tree.Name name) inner) ≡ with_numbers number front (outer name inner)
names-Name number front inner name =
    rolled number front inner (sym (rolls-Name name)) (fold-roll-Expr Names names_step (Expr-F.Name name))

pub names-Call : (number : Text → Option ℕ) (front : List ℕ) (inner : List Text) (name : Name) (arguments : List Expr) → with_numbers number front (expression_names (tree.Call name arguments) inner) ≡ with_numbers number (with_numbers number front (outer name inner)) (arguments_names arguments inner)
names-Call number front inner name arguments =
    rolled number front inner (sym (rolls-Call name arguments)) (fold-roll-Expr Names names_step (Expr-F.Call name arguments))
    ∙ with_numbers-append number front (outer name inner) (arguments_names arguments inner)

pub names-Access : (number : Text → Option ℕ) (front : List ℕ) (inner : List Text) (memory : Name) (at : ℕ) (size address : Expr) → with_numbers number front (expression_names (tree.Access memory at size address) inner) ≡ with_numbers number (with_numbers number (with_numbers number front (outer memory inner)) (expression_names size inner)) (expression_names address inner)
names-Access number front inner memory at size address =
    rolled number front inner (sym (rolls-Access memory at size address)) (fold-roll-Expr Names names_step (Expr-F.Access memory at size address))
    ∙ with_two number front (outer memory inner) (expression_names size inner) (expression_names address inner)

pub names-Join : (number : Text → Option ℕ) (front : List ℕ) (inner : List Text) (at : ℕ) (high low : Expr) → with_numbers number front (expression_names (tree.Join at high low) inner) ≡ with_numbers number (with_numbers number front (expression_names high inner)) (expression_names low inner)
names-Join number front inner at high low =
    rolled number front inner (sym (rolls-Join at high low)) (fold-roll-Expr Names names_step (Expr-F.Join at high low))
    ∙ with_numbers-append number front (expression_names high inner) (expression_names low inner)

pub names-Parentheses : (number : Text → Option ℕ) (front : List ℕ) (inner : List Text) (at : ℕ) (body : Expr) → with_numbers number front (expression_names (tree.Parentheses at body) inner) ≡ with_numbers number front (expression_names body inner)
names-Parentheses number front inner at body =
    rolled number front inner (sym (rolls-Parentheses at body)) (fold-roll-Expr Names names_step (Expr-F.Parentheses at body))

pub names-Unary : (number : Text → Option ℕ) (front : List ℕ) (inner : List Text) (op : UnaryOperator) (at : ℕ) (operand : Expr) → with_numbers number front (expression_names (tree.Unary op at operand) inner) ≡ with_numbers number front (expression_names operand inner)
names-Unary number front inner op at operand =
    rolled number front inner (sym (rolls-Unary op at operand)) (fold-roll-Expr Names names_step (Expr-F.Unary op at operand))

pub names-Binary : (number : Text → Option ℕ) (front : List ℕ) (inner : List Text) (op : BinaryOperator) (at : ℕ) (left right : Expr) → with_numbers number front (expression_names (tree.Binary op at left right) inner) ≡ with_numbers number (with_numbers number front (expression_names left inner)) (expression_names right inner)
names-Binary number front inner op at left right =
    rolled number front inner (sym (rolls-Binary op at left right)) (fold-roll-Expr Names names_step (Expr-F.Binary op at left right))
    ∙ with_numbers-append number front (expression_names left inner) (expression_names right inner)

pub names-Cast_Sized : (number : Text → Option ℕ) (front : List ℕ) (inner : List Text) (operand : Expr) (at : ℕ) (kind : BitsKind) (start : ℕ) (width : Expr) → with_numbers number front (expression_names (tree.Cast operand at (types.Sized kind start width)) inner) ≡ with_numbers number (with_numbers number front (expression_names operand inner)) (expression_names width inner)
names-Cast_Sized number front inner operand at kind start width =
    rolled number front inner (sym (rolls-Cast operand at (types.Sized kind start width))) (fold-roll-Expr Names names_step (Expr-F.Cast operand at (types.Sized kind start width)))
    ∙ with_numbers-append number front (expression_names operand inner) (expression_names width inner)

pub names-Cast_Bool : (number : Text → Option ℕ) (front : List ℕ) (inner : List Text) (operand : Expr) (at start : ℕ) → with_numbers number front (expression_names (tree.Cast operand at (types.Bool start)) inner) ≡ with_numbers number front (expression_names operand inner)
names-Cast_Bool number front inner operand at start =
    rolled number front inner (sym (rolls-Cast operand at (types.Bool start))) (fold-roll-Expr Names names_step (Expr-F.Cast operand at (types.Bool start)))
    ∙ with_numbers-append number front (expression_names operand inner) [] ∙ with_numbers-nil number (with_numbers number front (expression_names operand inner))

pub names-Cast_Alias : (number : Text → Option ℕ) (front : List ℕ) (inner : List Text) (operand : Expr) (at : ℕ) (name : Name) → with_numbers number front (expression_names (tree.Cast operand at (types.Alias name)) inner) ≡ with_numbers number (with_numbers number front (expression_names operand inner)) (outer name inner)
names-Cast_Alias number front inner operand at name =
    rolled number front inner (sym (rolls-Cast operand at (types.Alias name))) (fold-roll-Expr Names names_step (Expr-F.Cast operand at (types.Alias name)))
    ∙ with_numbers-append number front (expression_names operand inner) (outer name inner)

pub names-Slice : (number : Text → Option ℕ) (front : List ℕ) (inner : List Text) (operand : Expr) (at : ℕ) (high low : Expr) → with_numbers number front (expression_names (tree.Slice operand at high low) inner) ≡ with_numbers number (with_numbers number (with_numbers number front (expression_names operand inner)) (expression_names high inner)) (expression_names low inner)
names-Slice number front inner operand at high low =
    rolled number front inner (sym (rolls-Slice operand at high low)) (fold-roll-Expr Names names_step (Expr-F.Slice operand at high low))
    ∙ with_two number front (expression_names operand inner) (expression_names high inner) (expression_names low inner)

pub names-If : (number : Text → Option ℕ) (front : List ℕ) (inner : List Text) (at : ℕ) (condition one other : Expr) → with_numbers number front (expression_names (tree.If at condition one other) inner) ≡ with_numbers number (with_numbers number (with_numbers number front (expression_names condition inner)) (expression_names one inner)) (expression_names other inner)
names-If number front inner at condition one other =
    rolled number front inner (sym (rolls-If at condition one other)) (fold-roll-Expr Names names_step (Expr-F.If at condition one other))
    ∙ with_two number front (expression_names condition inner) (expression_names one inner) (expression_names other inner)

pub names-Let : (number : Text → Option ℕ) (front : List ℕ) (inner : List Text) (at : ℕ) (name : Name) (bound body : Expr) → with_numbers number front (expression_names (tree.Let at name bound body) inner) ≡ with_numbers number (with_numbers number front (expression_names bound inner)) (expression_names body (name.text ∷ inner))
names-Let number front inner at name bound body =
    rolled number front inner (sym (rolls-Let at name bound body)) (fold-roll-Expr Names names_step (Expr-F.Let at name bound body))
    ∙ with_numbers-append number front (expression_names bound inner) (expression_names body (name.text ∷ inner))

-- all arguments of a call were followed
pub call_followed : (number : Text → Option ℕ) (front middle end : List ℕ) (name : Name) (arguments items : List Expr) (i : ℕ) (inner : List Text) (e : Expr) → e ≡ tree.Call name arguments → items ≡ arguments → length items ≤ i
    → middle ≡ with_numbers number front (outer name inner) → end ≡ with_numbers number middle (arguments_names (take i items) inner) → end ≡ with_numbers number front (expression_names e inner)
call_followed number front middle end name arguments items i inner e is same past first rest =
    rest ∙ ap (λ (l : List Expr). with_numbers number middle (arguments_names l inner)) (take_all i items past ∙ same)
    ∙ ap (λ (l : List ℕ). with_numbers number l (arguments_names arguments inner)) first
    ∙ sym (names-Call number front inner name arguments)
    ∙ ap (λ (x : Expr). with_numbers number front (expression_names x inner)) (sym is)

-- one more argument, of those that were followed
pub arguments_more : (number : Text → Option ℕ) (front old new : List ℕ) (arguments : List Expr) (i : ℕ) (argument : Expr) (inner inside : List Text) → i < length arguments → argument ≡ get_or arguments i argument → inside ≡ inner
    → old ≡ with_numbers number front (arguments_names (take i arguments) inner) → new ≡ with_numbers number old (expression_names argument inside) → new ≡ with_numbers number front (arguments_names (take (i + 1) arguments) inner)
arguments_more number front old new arguments i argument inner inside lt read same before more =
    more ∙ ap (λ (l : List Text). with_numbers number old (expression_names argument l)) same
    ∙ ap (λ (l : List ℕ). with_numbers number l (expression_names argument inner)) before
    ∙ sym (with_numbers-append number front (arguments_names (take i arguments) inner) (expression_names argument inner))
    ∙ ap (with_numbers number front) (sym (arguments_names-push (take i arguments) argument inner))
    ∙ ap (λ (l : List Expr). with_numbers number front (arguments_names (take i arguments ++ l) inner)) (ap (λ (e : Expr). e ∷ []) read)
    ∙ ap (λ (l : List Expr). with_numbers number front (arguments_names l inner)) (sym (take_more arguments i argument lt))

-- one more parameter
pub parameters_more : (number : Text → Option ℕ) (front old new : List ℕ) (parameters : List Parameter) (i : ℕ) (parameter : Parameter) (inside : List Text) → i < length parameters → parameter ≡ get_or parameters i parameter → inside ≡ []
    → old ≡ with_numbers number front (parameter_names (take i parameters)) → new ≡ with_numbers number old (type_expr_names parameter.declared inside) → new ≡ with_numbers number front (parameter_names (take (i + 1) parameters))
parameters_more number front old new parameters i parameter inside lt read same before more =
    more ∙ ap (λ (l : List Text). with_numbers number old (type_expr_names parameter.declared l)) same
    ∙ ap (λ (l : List ℕ). with_numbers number l (type_expr_names parameter.declared [])) before
    ∙ sym (with_numbers-append number front (parameter_names (take i parameters)) (type_expr_names parameter.declared []))
    ∙ ap (with_numbers number front) (sym (parameter_names-push (take i parameters) parameter))
    ∙ ap (λ (l : List Parameter). with_numbers number front (parameter_names (take i parameters ++ l))) (ap (λ (p : Parameter). p ∷ []) read)
    ∙ ap (λ (l : List Parameter). with_numbers number front (parameter_names l)) (sym (take_more parameters i parameter lt))

pub ruleset names = (with_numbers-append, with_numbers-nil, with_numbers-some, with_numbers-none, inner_of-push, is_among-inner_of)

pub ruleset expressions = (names-Number, names-Name, names-Call, names-Access, names-Join, names-Parentheses, names-Unary, names-Binary, names-Cast_Sized, names-Cast_Bool, names-Cast_Alias, names-Slice, names-If, names-Let, inner_of-push)
