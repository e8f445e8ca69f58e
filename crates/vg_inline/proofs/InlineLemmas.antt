-- What stands in place of an expression of each kind.
use Rattle.std.proofs.Common.{◌≡◌, ℕ, zero, suc, ◌+◌, ◌<◌, ◌≤◌, List, map, [], ◌∷◌, ◌++◌, Option, Some, None, length, get_or, drop, refl, sym, ap, subst, ◌∙◌, arith}
use Rattle.std.specs.Prelude.{slice_get}
use Rattle.std.proofs.lemmas.List.{drop_more, drop_all}
use Rattle.vg_ast.specs.declared.name.Name.{Name}
use Rattle.vg_ast.specs.declared.operator.UnaryOperator.{UnaryOperator}
use Rattle.vg_ast.specs.declared.operator.BinaryOperator.{BinaryOperator}
use Rattle.vg_ast.specs.declared.parameter.Parameter.{Parameter}
use Rattle.vg_ast.specs.declared.type_expr.TypeExpr.{TypeExpr}
use Rattle.vg_ast.specs.declared.type_expr.TypeExpr.TheVariants as types
use Rattle.vg_ast.specs.declared.expr.Expr.{Expr, fold-roll-Expr, map-Expr, roll-Expr, ind-Expr}
use Rattle.vg_ast.specs.declared.expr.Expr.TheOpen.{Expr-F}
use Rattle.vg_ast.specs.declared.expr.Expr.TheVariants as tree
use Rattle.vg_ast.specs.declared.expr.Expr.TheVariants.{rolls-Number, rolls-Name, rolls-Call, rolls-Access, rolls-Join, rolls-Parentheses, rolls-Unary, rolls-Binary, rolls-Cast, rolls-Slice, rolls-If, rolls-Let}
use Rattle.vg_ast.specs.declared.item.Item.{Item}
use Rattle.vg_ast.specs.declared.item.Item.TheVariants as items
use Rattle.vg_ast.specs.Start.{start_of, start_step}
use Rattle.vg_names.specs.Definition.{item_named}
use Rattle.vg_names.specs.Numbers.{number_named}
use Rattle.vg_whole.specs.declared.worth.Worth.TheVariants.{Whole}
use Rattle.vg_whole.specs.Whole.{Inner, inner_of, binary_whole}
use Rattle.vg_inline.specs.declared.declared.Declared.{Declared}
use Rattle.vg_inline.specs.declared.head.Head.TheVariants as heads
use Rattle.vg_inline.specs.declared.value.Value.{Value}
use Rattle.vg_inline.specs.declared.kept.Kept.{Kept}
use Rattle.vg_inline.specs.Types.{type_of, type_worths}
use Rattle.vg_inline.specs.Inline.{Making, Known, Inlining, typed, whole_or, number_or, named_value, taking_types, callee_of, tree_of, called, start_in, first_start, inlining_step, inlining, inlined}
use Rattle.vg_inline.specs.declared.kept.KeptList.{KeptList}
use Rattle.vg_inline.specs.declared.keep.Keep.{Keep}
use Rattle.vg_inline.specs.Kept.{keeping_as, kept_node, node_over, gathered, no_trees}
use Rattle.vg_inline.specs.Context.{Kepts, taken_at, parameters_called}
use Rattle.vg_inline.proofs.Loops.{regroup, ending}

module _ (X : Type 0) (making : Making X) (all : List Item) (known : Known X) where
  abbrev I : Expr → Inlining X
  I e = inlining making all known e

  abbrev V : Expr → Inner (Value X) → Value X
  V e inner = inlined making all known e inner

  roll : (y : Expr-F Expr) → I (roll-Expr y) ≡ inlining_step making all known (map-Expr Expr (Inlining X) I y)
  roll y = fold-roll-Expr (Inlining X) (inlining_step making all known) y

  -- an expression begins where its first token stands
  abbrev Begins : Expr → Type 0
  Begins e = (I e).start ≡ start_of e

  abbrev Fine : Type 0
  Fine = (e : Expr) × Begins e

  abbrev plain : Fine → Expr
  plain k = k.0

  begin : (y : Expr-F Expr) → start_step (map-Expr (Inlining X) ℕ start_in (map-Expr Expr (Inlining X) I y)) ≡ start_step (map-Expr Expr ℕ start_of y) → Begins (roll-Expr y)
  begin y e = ap start_in (roll y) ∙ e ∙ sym (fold-roll-Expr ℕ start_step y)

  layer : (y : Expr-F Fine) → Begins (roll-Expr (map-Expr Fine Expr plain y))
  layer (Expr-F.Number value at) = begin (Expr-F.Number value at) refl
  layer (Expr-F.Name name) = begin (Expr-F.Name name) refl
  layer (Expr-F.Call name arguments) = begin (Expr-F.Call name (map plain arguments)) refl
  layer (Expr-F.Access memory at width address) = begin (Expr-F.Access memory at width.0 address.0) refl
  layer (Expr-F.Join at high low) = begin (Expr-F.Join at high.0 low.0) refl
  layer (Expr-F.Parentheses at body) = begin (Expr-F.Parentheses at body.0) refl
  layer (Expr-F.Unary op at operand) = begin (Expr-F.Unary op at operand.0) refl
  layer (Expr-F.Binary op at left right) = begin (Expr-F.Binary op at left.0 right.0) left.1
  layer (Expr-F.Slice operand at high low) = begin (Expr-F.Slice operand.0 at high.0 low.0) operand.1
  layer (Expr-F.If at condition one other) = begin (Expr-F.If at condition.0 one.0 other.0) refl
  layer (Expr-F.Let at name bound body) = begin (Expr-F.Let at name bound.0 body.0) refl
  layer (Expr-F.Cast operand at (types.Sized kind place width)) = begin (Expr-F.Cast operand.0 at (types.Sized kind place width.0)) operand.1
  layer (Expr-F.Cast operand at (types.Bool place)) = begin (Expr-F.Cast operand.0 at (types.Bool place)) operand.1
  layer (Expr-F.Cast operand at (types.Alias name)) = begin (Expr-F.Cast operand.0 at (types.Alias name)) operand.1

  pub begins : (e : Expr) → Begins e
  begins = ind-Expr Begins (λ x y is. subst (λ (z : Expr-F Expr). Begins (roll-Expr z)) is (layer y))

  starts : (es : List Expr) → map start_in (map I es) ≡ map start_of es
  starts [] = refl
  starts (e ∷ es) = ap (λ (n : ℕ). n ∷ map start_in (map I es)) (begins e) ∙ ap (λ (l : List ℕ). start_of e ∷ l) (starts es)

  values : (es : List Expr) (inner : Inner (Value X)) → map (λ (i : Inlining X). i.value inner) (map I es) ≡ map (λ (e : Expr). V e inner) es
  values [] inner = refl
  values (e ∷ es) inner = ap (λ (l : List (Value X)). V e inner ∷ l) (values es inner)

  module _ (inner : Inner (Value X)) where
    put : (y : Expr-F Expr) → V (roll-Expr y) inner ≡ (inlining_step making all known (map-Expr Expr (Inlining X) I y)).value inner
    put y = ap (λ (i : Inlining X). i.value inner) (roll y)

    pub inlined-Number : (value at : ℕ) → V (tree.Number value at) inner ≡ record { worth = Whole value; tree = making.node (heads.Whole (Some value)) [] }
    inlined-Number value at = ap (λ (e : Expr). V e inner) (sym (rolls-Number value at)) ∙ put (Expr-F.Number value at)

    pub inlined-Name : (name : Name) → V (tree.Name name) inner ≡ named_value making (inner_of inner name.text) (known.constants name.text) (number_or (number_named all name.text))
    inlined-Name name = ap (λ (e : Expr). V e inner) (sym (rolls-Name name)) ∙ put (Expr-F.Name name)

    pub inlined-Call : (name : Name) (arguments : List Expr) → V (tree.Call name arguments) inner ≡ typed (called making all known (callee_of (inner_of inner name.text) (item_named all name.text)) name (first_start name.at (map start_of arguments)) (map (λ (e : Expr). V e inner) arguments))
    inlined-Call name arguments = ap (λ (e : Expr). V e inner) (sym (rolls-Call name arguments)) ∙ put (Expr-F.Call name arguments)
        ∙ ap (λ (l : List ℕ). typed (called making all known (callee_of (inner_of inner name.text) (item_named all name.text)) name (first_start name.at l) (map (λ (i : Inlining X). i.value inner) (map I arguments)))) (starts arguments)
        ∙ ap (λ (l : List (Value X)). typed (called making all known (callee_of (inner_of inner name.text) (item_named all name.text)) name (first_start name.at (map start_of arguments)) l)) (values arguments inner)

    pub inlined-Access : (memory : Name) (at : ℕ) (width address : Expr) → V (tree.Access memory at width address) inner ≡ typed (making.node (heads.Access memory.at (V width inner).worth (start_of address)) ((V address inner).tree ∷ []))
    inlined-Access memory at width address = ap (λ (e : Expr). V e inner) (sym (rolls-Access memory at width address)) ∙ put (Expr-F.Access memory at width address) ∙ ap (λ (n : ℕ). typed (making.node (heads.Access memory.at (V width inner).worth n) ((V address inner).tree ∷ []))) (begins address)

    pub inlined-Join : (at : ℕ) (high low : Expr) → V (tree.Join at high low) inner ≡ typed (making.node heads.Join ((V high inner).tree ∷ (V low inner).tree ∷ []))
    inlined-Join at high low = ap (λ (e : Expr). V e inner) (sym (rolls-Join at high low)) ∙ put (Expr-F.Join at high low)

    pub inlined-Parentheses : (at : ℕ) (body : Expr) → V (tree.Parentheses at body) inner ≡ V body inner
    inlined-Parentheses at body = ap (λ (e : Expr). V e inner) (sym (rolls-Parentheses at body)) ∙ put (Expr-F.Parentheses at body)

    pub inlined-Unary : (op : UnaryOperator) (at : ℕ) (operand : Expr) → V (tree.Unary op at operand) inner ≡ typed (making.node (heads.Unary op) ((V operand inner).tree ∷ []))
    inlined-Unary op at operand = ap (λ (e : Expr). V e inner) (sym (rolls-Unary op at operand)) ∙ put (Expr-F.Unary op at operand)

    pub worth-Binary : (op : BinaryOperator) (at : ℕ) (left right : Expr) → (V (tree.Binary op at left right) inner).worth ≡ binary_whole op (V left inner).worth (V right inner).worth
    worth-Binary op at left right = ap (λ (v : Value X). v.worth) (ap (λ (e : Expr). V e inner) (sym (rolls-Binary op at left right)) ∙ put (Expr-F.Binary op at left right))

    pub tree-Binary : (op : BinaryOperator) (at : ℕ) (left right : Expr) → (V (tree.Binary op at left right) inner).tree ≡ whole_or making (binary_whole op (V left inner).worth (V right inner).worth) (making.node (heads.Binary op) ((V left inner).tree ∷ (V right inner).tree ∷ []))
    tree-Binary op at left right = ap (λ (v : Value X). v.tree) (ap (λ (e : Expr). V e inner) (sym (rolls-Binary op at left right)) ∙ put (Expr-F.Binary op at left right))

    pub inlined-Slice : (operand : Expr) (at : ℕ) (high low : Expr) → V (tree.Slice operand at high low) inner ≡ typed (making.node (heads.Slice (V high inner).worth (V low inner).worth) ((V operand inner).tree ∷ []))
    inlined-Slice operand at high low = ap (λ (e : Expr). V e inner) (sym (rolls-Slice operand at high low)) ∙ put (Expr-F.Slice operand at high low)

    pub inlined-If : (at : ℕ) (condition one other : Expr) → V (tree.If at condition one other) inner ≡ typed (making.node heads.If ((V condition inner).tree ∷ (V one inner).tree ∷ (V other inner).tree ∷ []))
    inlined-If at condition one other = ap (λ (e : Expr). V e inner) (sym (rolls-If at condition one other)) ∙ put (Expr-F.If at condition one other)

    pub inlined-Let : (at : ℕ) (name : Name) (bound body : Expr) → V (tree.Let at name bound body) inner ≡ V body ((name.text, V bound inner) ∷ inner)
    inlined-Let at name bound body = ap (λ (e : Expr). V e inner) (sym (rolls-Let at name bound body)) ∙ put (Expr-F.Let at name bound body)

    pub inlined-Cast : (operand : Expr) (at : ℕ) (target : TypeExpr Expr) → V (tree.Cast operand at target) inner ≡ typed (making.node (heads.Cast (type_of known.aliases (type_worths (λ (e : Expr). (V e inner).worth) target))) ((V operand inner).tree ∷ []))
    inlined-Cast operand at (types.Sized kind place width) = ap (λ (e : Expr). V e inner) (sym (rolls-Cast operand at (types.Sized kind place width))) ∙ put (Expr-F.Cast operand at (types.Sized kind place width))
    inlined-Cast operand at (types.Bool place) = ap (λ (e : Expr). V e inner) (sym (rolls-Cast operand at (types.Bool place))) ∙ put (Expr-F.Cast operand at (types.Bool place))
    inlined-Cast operand at (types.Alias name) = ap (λ (e : Expr). V e inner) (sym (rolls-Cast operand at (types.Alias name))) ∙ put (Expr-F.Cast operand at (types.Alias name))

    pub call_inlined : (e : Expr) (name : Name) (arguments read : List Expr) → e ≡ tree.Call name arguments → read ≡ arguments
        → typed (called making all known (callee_of (inner_of inner name.text) (item_named all name.text)) name (first_start name.at (map start_of read)) (map (λ (x : Expr). V x inner) read)) ≡ V e inner
    call_inlined e name arguments read is same =
        ap (λ (l : List Expr). typed (called making all known (callee_of (inner_of inner name.text) (item_named all name.text)) name (first_start name.at (map start_of l)) (map (λ (x : Expr). V x inner) l))) same
        ∙ sym (inlined-Call name arguments) ∙ ap (λ (x : Expr). V x inner) (sym is)

pub ruleset inline_steps = (inlined-Number, inlined-Name, inlined-Call, inlined-Access, inlined-Join, inlined-Parentheses, inlined-Unary, worth-Binary, tree-Binary, inlined-Slice, inlined-If, inlined-Let, inlined-Cast)

-- ---- arguments with the types of their parameters

taken_first : (keep : Keep) (declared : Parameter → Declared) (ps : List Parameter) (i : ℕ) (v : Kepts) (rest : List Kepts) → taking_types (keeping_as keep) declared (drop i ps) (v ∷ rest) ≡ taken_at keep declared (slice_get ps i) v ∷ taking_types (keeping_as keep) declared (drop (suc i) ps) rest
taken_first keep declared [] zero v rest = refl
taken_first keep declared [] (suc i) v rest = refl
taken_first keep declared (p ∷ ps) zero v rest = refl
taken_first keep declared (p ∷ ps) (suc i) v rest = taken_first keep declared ps i v rest

-- the arguments before number i stand in the list
abbrev pub Taking : {A : Type 0} → Keep → (Parameter → Declared) → (A → Kepts) → List Parameter → List A → ℕ → List (Option Kept) → Type 0
Taking keep declared f ps xs i done = taking_types (keeping_as keep) declared ps (map f xs) ≡ done ++ taking_types (keeping_as keep) declared (drop i ps) (map f (drop i xs))

pub taking_more : {A : Type 0} (keep : Keep) (declared : Parameter → Declared) (f : A → Kepts) (ps : List Parameter) (xs : List A) (i : ℕ) (x : A) (done next : List (Option Kept)) (v : Kepts) (t : Option Kept)
    → Taking keep declared f ps xs i done → i < length xs → x ≡ get_or xs i x → v ≡ f x → t ≡ taken_at keep declared (slice_get ps i) v → next ≡ done ++ t ∷ [] → Taking keep declared f ps xs (i + 1) next
taking_more keep declared f ps xs i x done next v t h lt read value e g =
    let rest = taking_types (keeping_as keep) declared (drop (i + 1) ps) (map f (drop (i + 1) xs)) in
    h ∙ ap (λ (l : List _). done ++ taking_types (keeping_as keep) declared (drop i ps) (map f l)) (drop_more xs i x lt)
    ∙ ap (λ (y : _). done ++ taking_types (keeping_as keep) declared (drop i ps) (f y ∷ map f (drop (i + 1) xs))) (sym read)
    ∙ ap (λ (l : List (Option Kept)). done ++ l) (taken_first keep declared ps i (f x) (map f (drop (i + 1) xs)))
    ∙ ap (λ (n : ℕ). done ++ taken_at keep declared (slice_get ps i) (f x) ∷ taking_types (keeping_as keep) declared (drop n ps) (map f (drop (i + 1) xs))) (next_number i)
    ∙ ap (λ (w : Kepts). done ++ taken_at keep declared (slice_get ps i) w ∷ rest) (sym value)
    ∙ ap (λ (u : Option Kept). done ++ u ∷ rest) (sym e)
    ∙ regroup done t rest
    ∙ ap (λ (l : List (Option Kept)). l ++ rest) (sym g)
  where
    next_number : (n : ℕ) → suc n ≡ n + 1
    next_number n = omega arith

nothing_taken : (keep : Keep) (declared : Parameter → Declared) (ps : List Parameter) → taking_types (keeping_as keep) declared ps [] ≡ []
nothing_taken keep declared [] = refl
nothing_taken keep declared (p ∷ ps) = refl

pub taking_all : {A : Type 0} (keep : Keep) (declared : Parameter → Declared) (f : A → Kepts) (ps : List Parameter) (xs : List A) (i : ℕ) (done : List (Option Kept)) → Taking keep declared f ps xs i done → length xs ≤ i → done ≡ taking_types (keeping_as keep) declared ps (map f xs)
taking_all keep declared f ps xs i done h le =
    sym
    (h ∙ ap (λ (l : List _). done ++ taking_types (keeping_as keep) declared (drop i ps) (map f l)) (drop_all i xs le)
    ∙ ap (λ (l : List (Option Kept)). done ++ l) (nothing_taken keep declared (drop i ps))
    ∙ ending done)

-- ---- a register of a register file

tree_list : {A : Type 0} (f : A → Kepts) (xs : List A) → map tree_of (map f xs) ≡ map (λ (x : A). (f x).tree) xs
tree_list f [] = refl
tree_list f (x ∷ xs) = ap (λ (l : List (Option Kept)). (f x).tree ∷ l) (tree_list f xs)

called_register : (keep : Keep) (all : List Item) (known : Known (Option Kept)) (item : Option Item) (name : Name) (at : ℕ) (vs : List Kepts) → parameters_called item ≡ None
    → kept_node keep (heads.Indexed (number_or (number_named all name.text)) name.at at) (map tree_of vs) ≡ called (keeping_as keep) all known item name at vs
called_register keep all known (Some (items.Function p n parameters result body)) name at vs e = absurd (cc)
called_register keep all known _ name at vs e = refl

pub register_called : {A : Type 0} (keep : Keep) (all : List Item) (known : Known (Option Kept)) (item : Option Item) (name : Name) (number at : ℕ) (f : A → Kepts) (xs : List A) (list : Option KeptList) → parameters_called item ≡ None
    → number ≡ number_or (number_named all name.text) → list ≡ gathered keep no_trees (map (λ (x : A). (f x).tree) xs) → node_over keep (heads.Indexed number name.at at) list ≡ called (keeping_as keep) all known item name at (map f xs)
register_called keep all known item name number at f xs list is same e =
    ap (λ (k : ℕ). node_over keep (heads.Indexed k name.at at) list) same
    ∙ ap (node_over keep (heads.Indexed (number_or (number_named all name.text)) name.at at)) (e ∙ ap (gathered keep no_trees) (sym (tree_list f xs)))
    ∙ called_register keep all known item name at (map f xs) is
