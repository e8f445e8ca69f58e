-- What is found of each expression, by what is found of its parts.
use Rattle.std.proofs.Common.{◌≡◌, ℕ, suc, Bool, List, [], ◌∷◌, map, length, Option, refl, ap, sym, ◌∙◌}
use Rattle.vg_ast.specs.declared.name.Name.{Name}
use Rattle.vg_ast.specs.declared.operator.UnaryOperator.{UnaryOperator}
use Rattle.vg_ast.specs.declared.operator.BinaryOperator.{BinaryOperator}
use Rattle.vg_ast.specs.declared.type_expr.TypeExpr.{TypeExpr}
use Rattle.vg_ast.specs.declared.type_expr.TypeExpr.TheVariants as types
use Rattle.vg_ast.specs.declared.expr.Expr.{Expr, fold-roll-Expr}
use Rattle.vg_ast.specs.declared.expr.Expr.TheOpen.{Expr-F}
use Rattle.vg_ast.specs.declared.expr.Expr.TheVariants as tree
use Rattle.vg_ast.specs.declared.expr.Expr.TheVariants.{rolls-Number, rolls-Name, rolls-Call, rolls-Access, rolls-Join, rolls-Parentheses, rolls-Unary, rolls-Binary, rolls-Cast, rolls-Slice, rolls-If, rolls-Let}
use Rattle.vg_names.specs.Definition.{Text}
use Rattle.vg_names.specs.First.{first_of}
use Rattle.vg_whole.specs.Whole.{Inner, inner_of, or_else}
use Rattle.vg_type.specs.declared.value_type.ValueType.{ValueType}
use Rattle.vg_type.specs.declared.judgement.Judgement.{Judgement}
use Rattle.vg_type.specs.declared.taking.Taking.{Taking}
use Rattle.vg_type.specs.declared.written.Written.{Written}
use Rattle.vg_type.specs.declared.sort.Sort.{Sort}
use Rattle.vg_type.specs.declared.sort.Sort.TheVariants as sorts
use Rattle.vg_type.specs.Judged.{Judged}
use Rattle.vg_type.specs.Expression.{Scope, Signature, Judges, call_judged, judged, judged_step, called, type_over, type_widths, type_ranges, target_type, is_type_blocked}
use Rattle.vg_type.specs.Found.{first_found, sound_found, parentheses_found, unary_found, binary_found, cast_found, slice_found, join_found, if_found, access_found, let_found}
use Rattle.vg_type.specs.Calls.{taken_from, types_asked, call_found, written_over}
use Rattle.vg_type.proofs.FoundLemmas.{found_parentheses, found_unary, found_binary, found_cast, found_slice, found_join, found_if, found_access, found_let}
use Rattle.vg_type.proofs.CallLemmas.{found_call}

abbrev found : Scope → Inner Sort → Expr → Judgement
found scope inner e = first_found (judged scope e inner)

judged_each : (scope : Scope) (inner : Inner Sort) (xs : List Expr) → map (λ (argument : Judges). argument inner) (map (judged scope) xs) ≡ map (λ e. judged scope e inner) xs
judged_each scope inner [] = refl
judged_each scope inner (x ∷ xs) = ap (λ (l : List Judged). judged scope x inner ∷ l) (judged_each scope inner xs)

as_many : (f : Expr → Judged) (xs : List Expr) → length (map f xs) ≡ length xs
as_many f [] = refl
as_many f (x ∷ xs) = ap (λ (n : ℕ). suc n) (as_many f xs)

judged-Number : (scope : Scope) (value : ℕ) (at : ℕ) → judged scope (tree.Number value at) ≡ judged_step scope (Expr-F.Number value at)
judged-Number scope value at = ap (judged scope) (sym (rolls-Number value at)) ∙ fold-roll-Expr Judges (judged_step scope) (Expr-F.Number value at)

pub found-Number : (scope : Scope) (inner : Inner Sort) (value : ℕ) (at : ℕ) → found scope inner (tree.Number value at) ≡ sound_found at (sorts.Whole value)
found-Number scope inner value at = ap (λ (j : Judges). first_found (j inner)) (judged-Number scope value at) ∙ refl

judged-Name : (scope : Scope) (name : Name) → judged scope (tree.Name name) ≡ judged_step scope (Expr-F.Name name)
judged-Name scope name = ap (judged scope) (sym (rolls-Name name)) ∙ fold-roll-Expr Judges (judged_step scope) (Expr-F.Name name)

pub found-Name : (scope : Scope) (inner : Inner Sort) (name : Name) → found scope inner (tree.Name name) ≡ sound_found name.at (or_else (inner_of inner name.text) (scope.value name.text))
found-Name scope inner name = ap (λ (j : Judges). first_found (j inner)) (judged-Name scope name) ∙ refl

judged-Access : (scope : Scope) (memory : Name) (at : ℕ) (size : Expr) (address : Expr) → judged scope (tree.Access memory at size address) ≡ judged_step scope (Expr-F.Access memory at (judged scope size) (judged scope address))
judged-Access scope memory at size address = ap (judged scope) (sym (rolls-Access memory at size address)) ∙ fold-roll-Expr Judges (judged_step scope) (Expr-F.Access memory at size address)

pub found-Access : (scope : Scope) (inner : Inner Sort) (memory : Name) (at : ℕ) (size : Expr) (address : Expr) → found scope inner (tree.Access memory at size address) ≡ access_found (scope.is_memory memory.text) scope.address memory.at at (found scope inner size) (found scope inner address)
found-Access scope inner memory at size address = ap (λ (j : Judges). first_found (j inner)) (judged-Access scope memory at size address) ∙ found_access scope memory at (judged scope size inner) (judged scope address inner)

judged-Join : (scope : Scope) (at : ℕ) (high : Expr) (low : Expr) → judged scope (tree.Join at high low) ≡ judged_step scope (Expr-F.Join at (judged scope high) (judged scope low))
judged-Join scope at high low = ap (judged scope) (sym (rolls-Join at high low)) ∙ fold-roll-Expr Judges (judged_step scope) (Expr-F.Join at high low)

pub found-Join : (scope : Scope) (inner : Inner Sort) (at : ℕ) (high : Expr) (low : Expr) → found scope inner (tree.Join at high low) ≡ join_found at (found scope inner high) (found scope inner low)
found-Join scope inner at high low = ap (λ (j : Judges). first_found (j inner)) (judged-Join scope at high low) ∙ found_join at (judged scope high inner) (judged scope low inner)

judged-Parentheses : (scope : Scope) (at : ℕ) (body : Expr) → judged scope (tree.Parentheses at body) ≡ judged_step scope (Expr-F.Parentheses at (judged scope body))
judged-Parentheses scope at body = ap (judged scope) (sym (rolls-Parentheses at body)) ∙ fold-roll-Expr Judges (judged_step scope) (Expr-F.Parentheses at body)

pub found-Parentheses : (scope : Scope) (inner : Inner Sort) (at : ℕ) (body : Expr) → found scope inner (tree.Parentheses at body) ≡ parentheses_found at (found scope inner body)
found-Parentheses scope inner at body = ap (λ (j : Judges). first_found (j inner)) (judged-Parentheses scope at body) ∙ found_parentheses at (judged scope body inner)

judged-Unary : (scope : Scope) (op : UnaryOperator) (at : ℕ) (operand : Expr) → judged scope (tree.Unary op at operand) ≡ judged_step scope (Expr-F.Unary op at (judged scope operand))
judged-Unary scope op at operand = ap (judged scope) (sym (rolls-Unary op at operand)) ∙ fold-roll-Expr Judges (judged_step scope) (Expr-F.Unary op at operand)

pub found-Unary : (scope : Scope) (inner : Inner Sort) (op : UnaryOperator) (at : ℕ) (operand : Expr) → found scope inner (tree.Unary op at operand) ≡ unary_found op at (found scope inner operand)
found-Unary scope inner op at operand = ap (λ (j : Judges). first_found (j inner)) (judged-Unary scope op at operand) ∙ found_unary op at (judged scope operand inner)

judged-Binary : (scope : Scope) (op : BinaryOperator) (at : ℕ) (left : Expr) (right : Expr) → judged scope (tree.Binary op at left right) ≡ judged_step scope (Expr-F.Binary op at (judged scope left) (judged scope right))
judged-Binary scope op at left right = ap (judged scope) (sym (rolls-Binary op at left right)) ∙ fold-roll-Expr Judges (judged_step scope) (Expr-F.Binary op at left right)

pub found-Binary : (scope : Scope) (inner : Inner Sort) (op : BinaryOperator) (at : ℕ) (left : Expr) (right : Expr) → found scope inner (tree.Binary op at left right) ≡ binary_found op at (found scope inner left) (found scope inner right)
found-Binary scope inner op at left right = ap (λ (j : Judges). first_found (j inner)) (judged-Binary scope op at left right) ∙ found_binary op at (judged scope left inner) (judged scope right inner)

judged-Slice : (scope : Scope) (operand : Expr) (at : ℕ) (high : Expr) (low : Expr) → judged scope (tree.Slice operand at high low) ≡ judged_step scope (Expr-F.Slice (judged scope operand) at (judged scope high) (judged scope low))
judged-Slice scope operand at high low = ap (judged scope) (sym (rolls-Slice operand at high low)) ∙ fold-roll-Expr Judges (judged_step scope) (Expr-F.Slice operand at high low)

pub found-Slice : (scope : Scope) (inner : Inner Sort) (operand : Expr) (at : ℕ) (high : Expr) (low : Expr) → found scope inner (tree.Slice operand at high low) ≡ slice_found (found scope inner operand) at (found scope inner high) (found scope inner low)
found-Slice scope inner operand at high low = ap (λ (j : Judges). first_found (j inner)) (judged-Slice scope operand at high low) ∙ found_slice (judged scope operand inner) at (judged scope high inner) (judged scope low inner)

judged-If : (scope : Scope) (at : ℕ) (condition : Expr) (one : Expr) (other : Expr) → judged scope (tree.If at condition one other) ≡ judged_step scope (Expr-F.If at (judged scope condition) (judged scope one) (judged scope other))
judged-If scope at condition one other = ap (judged scope) (sym (rolls-If at condition one other)) ∙ fold-roll-Expr Judges (judged_step scope) (Expr-F.If at condition one other)

pub found-If : (scope : Scope) (inner : Inner Sort) (at : ℕ) (condition : Expr) (one : Expr) (other : Expr) → found scope inner (tree.If at condition one other) ≡ if_found at (found scope inner condition) (found scope inner one) (found scope inner other)
found-If scope inner at condition one other = ap (λ (j : Judges). first_found (j inner)) (judged-If scope at condition one other) ∙ found_if at (judged scope condition inner) (judged scope one inner) (judged scope other inner)

judged-Let : (scope : Scope) (at : ℕ) (name : Name) (bound : Expr) (body : Expr) → judged scope (tree.Let at name bound body) ≡ judged_step scope (Expr-F.Let at name (judged scope bound) (judged scope body))
judged-Let scope at name bound body = ap (judged scope) (sym (rolls-Let at name bound body)) ∙ fold-roll-Expr Judges (judged_step scope) (Expr-F.Let at name bound body)

pub found-Let : (scope : Scope) (inner : Inner Sort) (at : ℕ) (name : Name) (bound : Expr) (body : Expr) → found scope inner (tree.Let at name bound body) ≡ let_found at (found scope inner bound) (found scope ((name.text, (judged scope bound inner).sort) ∷ inner) body)
found-Let scope inner at name bound body = ap (λ (j : Judges). first_found (j inner)) (judged-Let scope at name bound body) ∙ found_let at (judged scope bound inner) (judged scope body ((name.text, (judged scope bound inner).sort) ∷ inner))

judged-Call : (scope : Scope) (name : Name) (arguments : List Expr) → judged scope (tree.Call name arguments) ≡ judged_step scope (Expr-F.Call name (map (judged scope) arguments))
judged-Call scope name arguments = ap (judged scope) (sym (rolls-Call name arguments)) ∙ fold-roll-Expr Judges (judged_step scope) (Expr-F.Call name arguments)

pub found-Call : (scope : Scope) (inner : Inner Sort) (name : Name) (arguments : List Expr) → found scope inner (tree.Call name arguments) ≡ call_found name.at (called (inner_of inner name.text) (scope.callee name.text)) (length arguments) (taken_from (types_asked (called (inner_of inner name.text) (scope.callee name.text)) (length arguments)) 0 (map (λ e. judged scope e inner) arguments))
found-Call scope inner name arguments = ap (λ (j : Judges). first_found (j inner)) (judged-Call scope name arguments)
    ∙ ap (λ (A : List Judged). first_found (call_judged name (called (inner_of inner name.text) (scope.callee name.text)) A)) (judged_each scope inner arguments)
    ∙ found_call name (called (inner_of inner name.text) (scope.callee name.text)) (map (λ e. judged scope e inner) arguments)
    ∙ ap (λ (n : ℕ). call_found name.at (called (inner_of inner name.text) (scope.callee name.text)) n (taken_from (types_asked (called (inner_of inner name.text) (scope.callee name.text)) n) 0 (map (λ e. judged scope e inner) arguments)))
    (as_many (λ e. judged scope e inner) arguments)

abbrev over : Scope → Inner Sort → TypeExpr Expr → TypeExpr Judged
over scope inner t = type_over (λ e. judged scope e inner) t

pub found-Cast : (scope : Scope) (inner : Inner Sort) (operand : Expr) (at : ℕ) (target : TypeExpr Expr) → found scope inner (tree.Cast operand at target)
    ≡ cast_found (found scope inner operand) (is_type_blocked scope.aliases (over scope inner target)) (target_type scope.aliases (over scope inner target))
    (first_of (type_widths (over scope inner target))) (first_of (type_ranges (over scope inner target)))
found-Cast scope inner operand at (types.Sized kind start width) =
    ap (λ e. first_found (judged scope e inner)) (sym (rolls-Cast operand at (types.Sized kind start width))) ∙ ap (λ (j : Judges). first_found (j inner)) (fold-roll-Expr Judges (judged_step scope) (Expr-F.Cast operand at (types.Sized kind start width)))
    ∙ found_cast scope.aliases (judged scope operand inner) (over scope inner (types.Sized kind start width))
found-Cast scope inner operand at (types.Bool start) =
    ap (λ e. first_found (judged scope e inner)) (sym (rolls-Cast operand at (types.Bool start))) ∙ ap (λ (j : Judges). first_found (j inner)) (fold-roll-Expr Judges (judged_step scope) (Expr-F.Cast operand at (types.Bool start)))
    ∙ found_cast scope.aliases (judged scope operand inner) (over scope inner (types.Bool start))
found-Cast scope inner operand at (types.Alias name) =
    ap (λ e. first_found (judged scope e inner)) (sym (rolls-Cast operand at (types.Alias name))) ∙ ap (λ (j : Judges). first_found (j inner)) (fold-roll-Expr Judges (judged_step scope) (Expr-F.Cast operand at (types.Alias name)))
    ∙ found_cast scope.aliases (judged scope operand inner) (over scope inner (types.Alias name))

pub ruleset judged_steps = (found-Number, found-Name, found-Parentheses, found-Unary)

-- ---- the same, as the code puts its parts together

pub judge-Join : (scope : Scope) (inner : Inner Sort) (e : Expr) (at : ℕ) (high : Expr) (low : Expr) (high2 low2 : Expr) (high3 low3 r : Judgement) → e ≡ tree.Join at high low
    → high2 ≡ high → low2 ≡ low → high3 ≡ found scope inner high2 → low3 ≡ found scope inner low2
    → r ≡ join_found at high3 low3 → r ≡ found scope inner e
judge-Join scope inner e at high low high2 low2 high3 low3 r is hhigh hlow ghigh glow by =
    by
    ∙ ap (λ (j : Judgement). join_found at j low3) (ghigh ∙ ap (found scope inner) hhigh)
    ∙ ap (λ (j : Judgement). join_found at (found scope inner high) j) (glow ∙ ap (found scope inner) hlow)
    ∙ sym (found-Join scope inner at high low) ∙ ap (found scope inner) (sym is)

pub judge-Binary : (scope : Scope) (inner : Inner Sort) (e : Expr) (op : BinaryOperator) (at : ℕ) (left : Expr) (right : Expr) (left2 right2 : Expr) (left3 right3 r : Judgement) → e ≡ tree.Binary op at left right
    → left2 ≡ left → right2 ≡ right → left3 ≡ found scope inner left2 → right3 ≡ found scope inner right2
    → r ≡ binary_found op at left3 right3 → r ≡ found scope inner e
judge-Binary scope inner e op at left right left2 right2 left3 right3 r is hleft hright gleft gright by =
    by
    ∙ ap (λ (j : Judgement). binary_found op at j right3) (gleft ∙ ap (found scope inner) hleft)
    ∙ ap (λ (j : Judgement). binary_found op at (found scope inner left) j) (gright ∙ ap (found scope inner) hright)
    ∙ sym (found-Binary scope inner op at left right) ∙ ap (found scope inner) (sym is)

pub judge-Slice : (scope : Scope) (inner : Inner Sort) (e : Expr) (operand : Expr) (at : ℕ) (high : Expr) (low : Expr) (operand2 high2 low2 : Expr) (operand3 high3 low3 r : Judgement) → e ≡ tree.Slice operand at high low
    → operand2 ≡ operand → high2 ≡ high → low2 ≡ low → operand3 ≡ found scope inner operand2 → high3 ≡ found scope inner high2 → low3 ≡ found scope inner low2
    → r ≡ slice_found operand3 at high3 low3 → r ≡ found scope inner e
judge-Slice scope inner e operand at high low operand2 high2 low2 operand3 high3 low3 r is hoperand hhigh hlow goperand ghigh glow by =
    by
    ∙ ap (λ (j : Judgement). slice_found j at high3 low3) (goperand ∙ ap (found scope inner) hoperand)
    ∙ ap (λ (j : Judgement). slice_found (found scope inner operand) at j low3) (ghigh ∙ ap (found scope inner) hhigh)
    ∙ ap (λ (j : Judgement). slice_found (found scope inner operand) at (found scope inner high) j) (glow ∙ ap (found scope inner) hlow)
    ∙ sym (found-Slice scope inner operand at high low) ∙ ap (found scope inner) (sym is)

pub judge-If : (scope : Scope) (inner : Inner Sort) (e : Expr) (at : ℕ) (condition : Expr) (one : Expr) (other : Expr) (condition2 one2 other2 : Expr) (condition3 one3 other3 r : Judgement) → e ≡ tree.If at condition one other
    → condition2 ≡ condition → one2 ≡ one → other2 ≡ other → condition3 ≡ found scope inner condition2 → one3 ≡ found scope inner one2 → other3 ≡ found scope inner other2
    → r ≡ if_found at condition3 one3 other3 → r ≡ found scope inner e
judge-If scope inner e at condition one other condition2 one2 other2 condition3 one3 other3 r is hcondition hone hother gcondition gone gother by =
    by
    ∙ ap (λ (j : Judgement). if_found at j one3 other3) (gcondition ∙ ap (found scope inner) hcondition)
    ∙ ap (λ (j : Judgement). if_found at (found scope inner condition) j other3) (gone ∙ ap (found scope inner) hone)
    ∙ ap (λ (j : Judgement). if_found at (found scope inner condition) (found scope inner one) j) (gother ∙ ap (found scope inner) hother)
    ∙ sym (found-If scope inner at condition one other) ∙ ap (found scope inner) (sym is)

pub judge-Access : (scope : Scope) (inner : Inner Sort) (e : Expr) (memory : Name) (at : ℕ) (size address size2 address2 : Expr) (text : Text) (is_memory : Bool) (t : Option ValueType) (size3 address3 r : Judgement)
    → e ≡ tree.Access memory at size address → text ≡ memory.text → is_memory ≡ scope.is_memory text → t ≡ scope.address → size2 ≡ size → address2 ≡ address
    → size3 ≡ found scope inner size2 → address3 ≡ found scope inner address2 → r ≡ access_found is_memory t memory.at at size3 address3 → r ≡ found scope inner e
judge-Access scope inner e memory at size address size2 address2 text is_memory t size3 address3 r is ht hm ha hs hd gs gd by =
    by
    ∙ ap (λ (b : Bool). access_found b t memory.at at size3 address3) (hm ∙ ap scope.is_memory ht)
    ∙ ap (λ (o : Option ValueType). access_found (scope.is_memory memory.text) o memory.at at size3 address3) ha
    ∙ ap (λ (j : Judgement). access_found (scope.is_memory memory.text) scope.address memory.at at j address3) (gs ∙ ap (found scope inner) hs)
    ∙ ap (λ (j : Judgement). access_found (scope.is_memory memory.text) scope.address memory.at at (found scope inner size) j) (gd ∙ ap (found scope inner) hd)
    ∙ sym (found-Access scope inner memory at size address) ∙ ap (found scope inner) (sym is)

pub judge-Let : (scope : Scope) (inner : Inner Sort) (e : Expr) (at : ℕ) (name : Name) (bound body bound2 body2 : Expr) (bound3 body3 r : Judgement)
    → e ≡ tree.Let at name bound body → bound2 ≡ bound → body2 ≡ body → bound3 ≡ found scope inner bound2 → body3 ≡ found scope ((name.text, bound3.sort) ∷ inner) body2
    → r ≡ let_found at bound3 body3 → r ≡ found scope inner e
judge-Let scope inner e at name bound body bound2 body2 bound3 body3 r is hb hy gb gy by =
    let eb : bound3 ≡ found scope inner bound = gb ∙ ap (found scope inner) hb in
    by
    ∙ ap (λ (j : Judgement). let_found at bound3 j)
    (gy ∙ ap (λ (s : Sort). found scope ((name.text, s) ∷ inner) body2) (ap (λ (j : Judgement). j.sort) eb) ∙ ap (found scope ((name.text, (judged scope bound inner).sort) ∷ inner)) hy)
    ∙ ap (λ (j : Judgement). let_found at j (found scope ((name.text, (judged scope bound inner).sort) ∷ inner) body)) eb
    ∙ sym (found-Let scope inner at name bound body) ∙ ap (found scope inner) (sym is)

abbrev cast_by : Judgement → Written → Judgement
cast_by f w = cast_found f w.blocked w.has w.width w.range

pub judge-Cast : (scope : Scope) (inner : Inner Sort) (e : Expr) (operand : Expr) (at : ℕ) (target : TypeExpr Expr) (operand2 : Expr) (operand3 : Judgement) (w : Written) (r : Judgement)
    → e ≡ tree.Cast operand at target → operand2 ≡ operand → operand3 ≡ found scope inner operand2 → w ≡ written_over scope.aliases (over scope inner target)
    → r ≡ cast_found operand3 w.blocked w.has w.width w.range → r ≡ found scope inner e
judge-Cast scope inner e operand at target operand2 operand3 w r is ho go gw by =
    by
    ∙ ap (λ (j : Judgement). cast_by j w) (go ∙ ap (found scope inner) ho)
    ∙ ap (cast_by (found scope inner operand)) gw
    ∙ sym (found-Cast scope inner operand at target) ∙ ap (found scope inner) (sym is)

pub judge-Call : (scope : Scope) (inner : Inner Sort) (name : Name) (arguments : List Expr) (text : Text) (s : Option Signature) (taking : Taking) (r : Judgement)
    → text ≡ name.text → s ≡ called (inner_of inner text) (scope.callee text) → taking ≡ taken_from (types_asked s (length arguments)) 0 (map (λ e. judged scope e inner) arguments)
    → r ≡ call_found name.at s (length arguments) taking → r ≡ found scope inner (tree.Call name arguments)
judge-Call scope inner name arguments text s taking r ht hs hk by =
    let es : s ≡ called (inner_of inner name.text) (scope.callee name.text) = hs ∙ ap (λ (t : Text). called (inner_of inner t) (scope.callee t)) ht in
    by
    ∙ ap (call_found name.at s (length arguments)) hk
    ∙ ap (λ (o : Option Signature). call_found name.at o (length arguments) (taken_from (types_asked o (length arguments)) 0 (map (λ e. judged scope e inner) arguments))) es
    ∙ sym (found-Call scope inner name arguments)
