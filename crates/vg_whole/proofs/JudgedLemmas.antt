-- What an expression is worth and its places by those of its parts, one equation for each way to make one.
use Rattle.std.proofs.Common.{◌≡◌, ℕ, suc, ◌<◌, List, map, drop, get_or, length, ◌∷◌, ◌++◌, Some, None, sym, ap, ◌∙◌}
use Rattle.std.proofs.Math.Seq.{drop-cons}
use Rattle.std.specs.Option.{option_or}
use Rattle.vg_ast.specs.declared.name.Name.{Name}
use Rattle.vg_ast.specs.declared.operator.UnaryOperator.{UnaryOperator}
use Rattle.vg_ast.specs.declared.operator.BinaryOperator.{BinaryOperator}
use Rattle.vg_ast.specs.declared.type_expr.TypeExpr.{TypeExpr}
use Rattle.vg_ast.specs.declared.type_expr.TypeExpr.TheVariants as types
use Rattle.vg_ast.specs.declared.expr.Expr.{Expr, fold-roll-Expr}
use Rattle.vg_ast.specs.declared.expr.Expr.TheOpen.{Expr-F}
use Rattle.vg_ast.specs.declared.expr.Expr.TheVariants as tree
use Rattle.vg_ast.specs.declared.expr.Expr.TheVariants.{rolls-Number, rolls-Name, rolls-Call, rolls-Access, rolls-Join, rolls-Parentheses, rolls-Unary, rolls-Binary, rolls-Cast, rolls-Slice, rolls-If, rolls-Let}
use Rattle.vg_names.specs.First.{first_of}
use Rattle.vg_whole.specs.declared.worth.Worth.{Worth}
use Rattle.vg_whole.specs.declared.worth.Worth.TheVariants as worths
use Rattle.vg_whole.specs.Whole.{Inner, inner_of, or_else, binary_whole, operator_places, Constants, Judges, places_of_all, judged_step, judged}
use Rattle.vg_whole.specs.Overflow.{type_overflows}
use Rattle.vg_names.proofs.FirstLemmas.{first_of_append, first_of_three, first_within}

judged-Number : (c : Constants) (value : ℕ) (at : ℕ) → judged c (tree.Number value at) ≡ judged_step c (Expr-F.Number value at)
judged-Number c value at = ap (λ e. judged c e) (sym (rolls-Number value at)) ∙ fold-roll-Expr Judges (judged_step c) (Expr-F.Number value at)

pub worth-Number : (c : Constants) (inner : Inner Worth) (value : ℕ) (at : ℕ) → (judged c (tree.Number value at) inner).worth ≡ worths.Whole value
worth-Number c inner value at = ap (λ (j : Judges). (j inner).worth) (judged-Number c value at)

pub place-Number : (c : Constants) (inner : Inner Worth) (value : ℕ) (at : ℕ) → first_of (judged c (tree.Number value at) inner).places ≡ None
place-Number c inner value at = ap (λ (j : Judges). first_of (j inner).places) (judged-Number c value at)

judged-Name : (c : Constants) (name : Name) → judged c (tree.Name name) ≡ judged_step c (Expr-F.Name name)
judged-Name c name = ap (λ e. judged c e) (sym (rolls-Name name)) ∙ fold-roll-Expr Judges (judged_step c) (Expr-F.Name name)

pub worth-Name : (c : Constants) (inner : Inner Worth) (name : Name) → (judged c (tree.Name name) inner).worth ≡ or_else (inner_of inner name.text) (c name.text)
worth-Name c inner name = ap (λ (j : Judges). (j inner).worth) (judged-Name c name)

pub place-Name : (c : Constants) (inner : Inner Worth) (name : Name) → first_of (judged c (tree.Name name) inner).places ≡ None
place-Name c inner name = ap (λ (j : Judges). first_of (j inner).places) (judged-Name c name)

judged-Call : (c : Constants) (name : Name) (arguments : List Expr) → judged c (tree.Call name arguments) ≡ judged_step c (Expr-F.Call name (map (judged c) arguments))
judged-Call c name arguments = ap (λ e. judged c e) (sym (rolls-Call name arguments)) ∙ fold-roll-Expr Judges (judged_step c) (Expr-F.Call name arguments)

pub worth-Call : (c : Constants) (inner : Inner Worth) (name : Name) (arguments : List Expr) → (judged c (tree.Call name arguments) inner).worth ≡ worths.Typed
worth-Call c inner name arguments = ap (λ (j : Judges). (j inner).worth) (judged-Call c name arguments)

pub place-Call : (c : Constants) (inner : Inner Worth) (name : Name) (arguments : List Expr) → first_of (judged c (tree.Call name arguments) inner).places ≡ first_of (places_of_all (map (judged c) arguments) inner)
place-Call c inner name arguments = ap (λ (j : Judges). first_of (j inner).places) (judged-Call c name arguments)

judged-Access : (c : Constants) (memory : Name) (at : ℕ) (size : Expr) (address : Expr) → judged c (tree.Access memory at size address) ≡ judged_step c (Expr-F.Access memory at (judged c size) (judged c address))
judged-Access c memory at size address = ap (λ e. judged c e) (sym (rolls-Access memory at size address)) ∙ fold-roll-Expr Judges (judged_step c) (Expr-F.Access memory at size address)

pub worth-Access : (c : Constants) (inner : Inner Worth) (memory : Name) (at : ℕ) (size : Expr) (address : Expr) → (judged c (tree.Access memory at size address) inner).worth ≡ worths.Typed
worth-Access c inner memory at size address = ap (λ (j : Judges). (j inner).worth) (judged-Access c memory at size address)

pub place-Access : (c : Constants) (inner : Inner Worth) (memory : Name) (at : ℕ) (size : Expr) (address : Expr) → first_of (judged c (tree.Access memory at size address) inner).places ≡ option_or (first_of (judged c size inner).places) (first_of (judged c address inner).places)
place-Access c inner memory at size address = ap (λ (j : Judges). first_of (j inner).places) (judged-Access c memory at size address) ∙ first_of_append (judged c size inner).places (judged c address inner).places

judged-Join : (c : Constants) (at : ℕ) (high : Expr) (low : Expr) → judged c (tree.Join at high low) ≡ judged_step c (Expr-F.Join at (judged c high) (judged c low))
judged-Join c at high low = ap (λ e. judged c e) (sym (rolls-Join at high low)) ∙ fold-roll-Expr Judges (judged_step c) (Expr-F.Join at high low)

pub worth-Join : (c : Constants) (inner : Inner Worth) (at : ℕ) (high : Expr) (low : Expr) → (judged c (tree.Join at high low) inner).worth ≡ worths.Typed
worth-Join c inner at high low = ap (λ (j : Judges). (j inner).worth) (judged-Join c at high low)

pub place-Join : (c : Constants) (inner : Inner Worth) (at : ℕ) (high : Expr) (low : Expr) → first_of (judged c (tree.Join at high low) inner).places ≡ option_or (first_of (judged c high inner).places) (first_of (judged c low inner).places)
place-Join c inner at high low = ap (λ (j : Judges). first_of (j inner).places) (judged-Join c at high low) ∙ first_of_append (judged c high inner).places (judged c low inner).places

judged-Parentheses : (c : Constants) (at : ℕ) (body : Expr) → judged c (tree.Parentheses at body) ≡ judged_step c (Expr-F.Parentheses at (judged c body))
judged-Parentheses c at body = ap (λ e. judged c e) (sym (rolls-Parentheses at body)) ∙ fold-roll-Expr Judges (judged_step c) (Expr-F.Parentheses at body)

pub worth-Parentheses : (c : Constants) (inner : Inner Worth) (at : ℕ) (body : Expr) → (judged c (tree.Parentheses at body) inner).worth ≡ (judged c body inner).worth
worth-Parentheses c inner at body = ap (λ (j : Judges). (j inner).worth) (judged-Parentheses c at body)

pub place-Parentheses : (c : Constants) (inner : Inner Worth) (at : ℕ) (body : Expr) → first_of (judged c (tree.Parentheses at body) inner).places ≡ first_of (judged c body inner).places
place-Parentheses c inner at body = ap (λ (j : Judges). first_of (j inner).places) (judged-Parentheses c at body)

judged-Unary : (c : Constants) (op : UnaryOperator) (at : ℕ) (operand : Expr) → judged c (tree.Unary op at operand) ≡ judged_step c (Expr-F.Unary op at (judged c operand))
judged-Unary c op at operand = ap (λ e. judged c e) (sym (rolls-Unary op at operand)) ∙ fold-roll-Expr Judges (judged_step c) (Expr-F.Unary op at operand)

pub worth-Unary : (c : Constants) (inner : Inner Worth) (op : UnaryOperator) (at : ℕ) (operand : Expr) → (judged c (tree.Unary op at operand) inner).worth ≡ worths.Typed
worth-Unary c inner op at operand = ap (λ (j : Judges). (j inner).worth) (judged-Unary c op at operand)

pub place-Unary : (c : Constants) (inner : Inner Worth) (op : UnaryOperator) (at : ℕ) (operand : Expr) → first_of (judged c (tree.Unary op at operand) inner).places ≡ first_of (judged c operand inner).places
place-Unary c inner op at operand = ap (λ (j : Judges). first_of (j inner).places) (judged-Unary c op at operand)

judged-Binary : (c : Constants) (op : BinaryOperator) (at : ℕ) (left : Expr) (right : Expr) → judged c (tree.Binary op at left right) ≡ judged_step c (Expr-F.Binary op at (judged c left) (judged c right))
judged-Binary c op at left right = ap (λ e. judged c e) (sym (rolls-Binary op at left right)) ∙ fold-roll-Expr Judges (judged_step c) (Expr-F.Binary op at left right)

pub worth-Binary : (c : Constants) (inner : Inner Worth) (op : BinaryOperator) (at : ℕ) (left : Expr) (right : Expr) → (judged c (tree.Binary op at left right) inner).worth ≡ binary_whole op (judged c left inner).worth (judged c right inner).worth
worth-Binary c inner op at left right = ap (λ (j : Judges). (j inner).worth) (judged-Binary c op at left right)

pub place-Binary : (c : Constants) (inner : Inner Worth) (op : BinaryOperator) (at : ℕ) (left : Expr) (right : Expr) → first_of (judged c (tree.Binary op at left right) inner).places ≡ option_or (option_or (first_of (judged c left inner).places) (first_of (operator_places op at (judged c left inner).worth (judged c right inner).worth))) (first_of (judged c right inner).places)
place-Binary c inner op at left right = ap (λ (j : Judges). first_of (j inner).places) (judged-Binary c op at left right) ∙ first_of_three (judged c left inner).places (operator_places op at (judged c left inner).worth (judged c right inner).worth) (judged c right inner).places

judged-Slice : (c : Constants) (operand : Expr) (at : ℕ) (high : Expr) (low : Expr) → judged c (tree.Slice operand at high low) ≡ judged_step c (Expr-F.Slice (judged c operand) at (judged c high) (judged c low))
judged-Slice c operand at high low = ap (λ e. judged c e) (sym (rolls-Slice operand at high low)) ∙ fold-roll-Expr Judges (judged_step c) (Expr-F.Slice operand at high low)

pub worth-Slice : (c : Constants) (inner : Inner Worth) (operand : Expr) (at : ℕ) (high : Expr) (low : Expr) → (judged c (tree.Slice operand at high low) inner).worth ≡ worths.Typed
worth-Slice c inner operand at high low = ap (λ (j : Judges). (j inner).worth) (judged-Slice c operand at high low)

pub place-Slice : (c : Constants) (inner : Inner Worth) (operand : Expr) (at : ℕ) (high : Expr) (low : Expr) → first_of (judged c (tree.Slice operand at high low) inner).places ≡ option_or (option_or (first_of (judged c operand inner).places) (first_of (judged c high inner).places)) (first_of (judged c low inner).places)
place-Slice c inner operand at high low = ap (λ (j : Judges). first_of (j inner).places) (judged-Slice c operand at high low) ∙ first_of_three (judged c operand inner).places (judged c high inner).places (judged c low inner).places

judged-If : (c : Constants) (at : ℕ) (condition : Expr) (one : Expr) (other : Expr) → judged c (tree.If at condition one other) ≡ judged_step c (Expr-F.If at (judged c condition) (judged c one) (judged c other))
judged-If c at condition one other = ap (λ e. judged c e) (sym (rolls-If at condition one other)) ∙ fold-roll-Expr Judges (judged_step c) (Expr-F.If at condition one other)

pub worth-If : (c : Constants) (inner : Inner Worth) (at : ℕ) (condition : Expr) (one : Expr) (other : Expr) → (judged c (tree.If at condition one other) inner).worth ≡ worths.Typed
worth-If c inner at condition one other = ap (λ (j : Judges). (j inner).worth) (judged-If c at condition one other)

pub place-If : (c : Constants) (inner : Inner Worth) (at : ℕ) (condition : Expr) (one : Expr) (other : Expr) → first_of (judged c (tree.If at condition one other) inner).places ≡ option_or (option_or (first_of (judged c condition inner).places) (first_of (judged c one inner).places)) (first_of (judged c other inner).places)
place-If c inner at condition one other = ap (λ (j : Judges). first_of (j inner).places) (judged-If c at condition one other) ∙ first_of_three (judged c condition inner).places (judged c one inner).places (judged c other inner).places

judged-Let : (c : Constants) (at : ℕ) (name : Name) (bound : Expr) (body : Expr) → judged c (tree.Let at name bound body) ≡ judged_step c (Expr-F.Let at name (judged c bound) (judged c body))
judged-Let c at name bound body = ap (λ e. judged c e) (sym (rolls-Let at name bound body)) ∙ fold-roll-Expr Judges (judged_step c) (Expr-F.Let at name bound body)

pub worth-Let : (c : Constants) (inner : Inner Worth) (at : ℕ) (name : Name) (bound : Expr) (body : Expr) → (judged c (tree.Let at name bound body) inner).worth ≡ (judged c body ((name.text, (judged c bound inner).worth) ∷ inner)).worth
worth-Let c inner at name bound body = ap (λ (j : Judges). (j inner).worth) (judged-Let c at name bound body)

pub place-Let : (c : Constants) (inner : Inner Worth) (at : ℕ) (name : Name) (bound : Expr) (body : Expr) → first_of (judged c (tree.Let at name bound body) inner).places ≡ option_or (first_of (judged c bound inner).places) (first_of (judged c body ((name.text, (judged c bound inner).worth) ∷ inner)).places)
place-Let c inner at name bound body = ap (λ (j : Judges). first_of (j inner).places) (judged-Let c at name bound body) ∙ first_of_append (judged c bound inner).places (judged c body ((name.text, (judged c bound inner).worth) ∷ inner)).places

pub worth-Cast : (c : Constants) (inner : Inner Worth) (operand : Expr) (at : ℕ) (target : TypeExpr Expr) → (judged c (tree.Cast operand at target) inner).worth ≡ worths.Typed
worth-Cast c inner operand at (types.Sized kind start width) = ap (λ e. (judged c e inner).worth) (sym (rolls-Cast operand at (types.Sized kind start width))) ∙ ap (λ (j : Judges). (j inner).worth) (fold-roll-Expr Judges (judged_step c) (Expr-F.Cast operand at (types.Sized kind start width)))
worth-Cast c inner operand at (types.Bool start) = ap (λ e. (judged c e inner).worth) (sym (rolls-Cast operand at (types.Bool start))) ∙ ap (λ (j : Judges). (j inner).worth) (fold-roll-Expr Judges (judged_step c) (Expr-F.Cast operand at (types.Bool start)))
worth-Cast c inner operand at (types.Alias name) = ap (λ e. (judged c e inner).worth) (sym (rolls-Cast operand at (types.Alias name))) ∙ ap (λ (j : Judges). (j inner).worth) (fold-roll-Expr Judges (judged_step c) (Expr-F.Cast operand at (types.Alias name)))

pub place-Cast : (c : Constants) (inner : Inner Worth) (operand : Expr) (at : ℕ) (target : TypeExpr Expr) → first_of (judged c (tree.Cast operand at target) inner).places ≡ option_or (first_of (judged c operand inner).places) (first_of (type_overflows c target inner))
place-Cast c inner operand at (types.Sized kind start width) =
    ap (λ e. first_of (judged c e inner).places) (sym (rolls-Cast operand at (types.Sized kind start width))) ∙ ap (λ (j : Judges). first_of (j inner).places) (fold-roll-Expr Judges (judged_step c) (Expr-F.Cast operand at (types.Sized kind start width)))
    ∙ first_of_append (judged c operand inner).places (type_overflows c (types.Sized kind start width) inner)
place-Cast c inner operand at (types.Bool start) =
    ap (λ e. first_of (judged c e inner).places) (sym (rolls-Cast operand at (types.Bool start))) ∙ ap (λ (j : Judges). first_of (j inner).places) (fold-roll-Expr Judges (judged_step c) (Expr-F.Cast operand at (types.Bool start)))
    ∙ first_of_append (judged c operand inner).places (type_overflows c (types.Bool start) inner)
place-Cast c inner operand at (types.Alias name) =
    ap (λ e. first_of (judged c e inner).places) (sym (rolls-Cast operand at (types.Alias name))) ∙ ap (λ (j : Judges). first_of (j inner).places) (fold-roll-Expr Judges (judged_step c) (Expr-F.Cast operand at (types.Alias name)))
    ∙ first_of_append (judged c operand inner).places (type_overflows c (types.Alias name) inner)

-- the first place of the rest of a list is that of its first expression, where it has one
pub first_of_some : (c : Constants) (inner : Inner Worth) (xs : List Expr) (i : ℕ) (x : Expr) (at : ℕ) → i < length xs → x ≡ get_or xs i x → first_of (judged c x inner).places ≡ Some at
    → first_of (places_of_all (map (judged c) (drop i xs)) inner) ≡ Some at
first_of_some c inner xs i x at h is e =
    ap (λ (l : List Expr). first_of (places_of_all (map (judged c) l) inner)) (drop-cons xs i x h)
    ∙ ap (λ (y : Expr). first_of ((judged c y inner).places ++ places_of_all (map (judged c) (drop (suc i) xs)) inner)) (sym is)
    ∙ first_within (judged c x inner).places (places_of_all (map (judged c) (drop (suc i) xs)) inner) at e

pub ruleset judged_steps = (worth-Number, place-Number, worth-Name, place-Name, worth-Call, place-Call, worth-Access, place-Access, worth-Join, place-Join, worth-Parentheses, place-Parentheses, worth-Unary, place-Unary, worth-Binary, place-Binary, worth-Slice, place-Slice, worth-If, place-If, worth-Let, place-Let, worth-Cast, place-Cast)
