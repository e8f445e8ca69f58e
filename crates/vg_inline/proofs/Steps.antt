-- What an alias stands for and what a function's body is depends on the names that they use alone.
use Rattle.std.proofs.Common.{◌≡◌, ℕ, ◌+◌, Bool, true, false, List, map, [], ◌∷◌, ◌++◌, Option, Some, None, refl, sym, ap, subst, ◌∙◌, true≢false, if◌then◌else◌}
use Rattle.std.specs.Str.{bytes_eq}
use Rattle.vg_ast.specs.declared.name.Name.{Name}
use Rattle.vg_ast.specs.declared.parameter.Parameter.{Parameter}
use Rattle.vg_ast.specs.declared.type_expr.TypeExpr.{TypeExpr}
use Rattle.vg_ast.specs.declared.type_expr.TypeExpr.TheVariants as types
use Rattle.vg_ast.specs.declared.expr.Expr.{Expr, fold-roll-Expr, map-Expr, roll-Expr, ind-Expr}
use Rattle.vg_ast.specs.declared.expr.Expr.TheOpen.{Expr-F}
use Rattle.vg_ast.specs.declared.expr.Expr.TheVariants as tree
use Rattle.vg_ast.specs.declared.expr.Expr.TheVariants.{rolls-Number, rolls-Name, rolls-Call, rolls-Access, rolls-Join, rolls-Parentheses, rolls-Unary, rolls-Binary, rolls-Cast, rolls-Slice, rolls-If, rolls-Let}
use Rattle.vg_ast.specs.declared.item.Item.{Item}
use Rattle.vg_ast.specs.declared.item.Item.TheVariants as items
use Rattle.vg_ast.specs.Start.{start_of}
use Rattle.vg_names.specs.Definition.{Text, item_named, is_among}
use Rattle.vg_names.proofs.Texts.{among_first, among_left, among_right}
use Rattle.vg_names.specs.Cyclic.{is_replaced}
use Rattle.vg_names.specs.Uses.{Names, outer, all_of, names_step, expression_names, type_expr_names, parameter_names, uses_of}
use Rattle.vg_names.specs.Worked.{IsStep}
use Rattle.vg_whole.specs.Whole.{Inner, inner_of, binary_whole, Constants}
use Rattle.vg_inline.specs.declared.declared.Declared.{Declared}
use Rattle.vg_inline.specs.declared.declared.Declared.TheVariants as type
use Rattle.vg_inline.specs.declared.head.Head.TheVariants as heads
use Rattle.vg_inline.specs.declared.value.Value.{Value}
use Rattle.vg_inline.specs.Types.{Aliases, declared_type, alias_step}
use Rattle.vg_inline.specs.Inline.{Making, typed, whole_or, constant_or, taking_types, callee_of, called, first_start, inlined, parameter_values, with_bodies, body_step}
use Rattle.vg_inline.proofs.InlineLemmas.{inlined-Number, inlined-Name, inlined-Call, inlined-Access, inlined-Join, inlined-Parentheses, inlined-Unary, worth-Binary, tree-Binary, inlined-Slice, inlined-If, inlined-Let, inlined-Cast}

-- ---- aliases

module _ (c : Constants) where
  declared_alike : (a b : Aliases) (t : TypeExpr Expr) → ((text : Text) → is_among text (type_expr_names t []) ≡ true → a text ≡ b text) → declared_type c a t ≡ declared_type c b t
  declared_alike a b (types.Sized kind at width) same = refl
  declared_alike a b (types.Bool at) same = refl
  declared_alike a b (types.Alias name) same = same name.text (among_first name.text [])

  alias_alike : (a b : Aliases) (item : Item) → ((text : Text) → is_among text (uses_of item) ≡ true → a text ≡ b text) → alias_step c a (Some item) ≡ alias_step c b (Some item)
  alias_alike a b (items.Using at name meaning) same = declared_alike a b meaning same
  alias_alike a b _ same = refl

  no_alias : (a : Aliases) (o : Option Item) → is_replaced o ≡ false → alias_step c a o ≡ type.Bool
  no_alias a (Some (items.Using at name meaning)) e = absurd (true≢false e)
  no_alias a _ e = refl

  pub alias_is_step : IsStep Declared type.Bool (alias_step c)
  alias_is_step = record { plainly = no_alias; locally = alias_alike }

-- ---- bodies

abbrev texts_of : {V : Type 0} → Inner V → List Text
texts_of [] = []
texts_of (x ∷ inner) = x.0 ∷ texts_of inner

-- a name that stands for nothing is none of the inner names
unhidden : {V : Type 0} (text : Text) (inner : Inner V) → inner_of inner text ≡ None → is_among text (texts_of inner) ≡ false
unhidden text [] e = refl
unhidden text (x ∷ inner) e = by (bytes_eq x.0 text) (unhidden text inner) e
  where
    by : (t : Bool) → (inner_of inner text ≡ None → is_among text (texts_of inner) ≡ false) → (if t then Some x.1 else inner_of inner text) ≡ None → (if t then true else is_among text (texts_of inner)) ≡ false
    by true again h = absurd (cc)
    by false again h = again h

module _ (X : Type 0) (m : Making X) (all : List Item) (c : Constants) (a : Aliases) where
  module _ (F G : Text → X) where
    -- the functions of these names have the same bodies
    abbrev Agree : List Text → Type 0
    Agree names = (text : Text) → is_among text names ≡ true → F text ≡ G text

    left_of : (xs ys : List Text) → Agree (xs ++ ys) → Agree xs
    left_of xs ys same text e = same text (among_left text xs ys e)

    right_of : (xs ys : List Text) → Agree (xs ++ ys) → Agree ys
    right_of xs ys same text e = same text (among_right text xs ys e)

    abbrev V : Expr → Inner (Value X) → Value X
    V e inner = inlined m all (with_bodies c a F) e inner

    abbrev W : Expr → Inner (Value X) → Value X
    W e inner = inlined m all (with_bodies c a G) e inner

    abbrev Alike : Expr → Type 0
    Alike e = (inner : Inner (Value X)) → Agree (expression_names e (texts_of inner)) → V e inner ≡ W e inner

    abbrev Fine : Type 0
    Fine = (e : Expr) × Alike e

    abbrev plain : Fine → Expr
    plain k = k.0

    called_same : (item : Option Item) (name : Name) (at : ℕ) (vs : List (Value X)) → F name.text ≡ G name.text → called m all (with_bodies c a F) item name at vs ≡ called m all (with_bodies c a G) item name at vs
    called_same (Some (items.Function p n parameters result body)) name at vs e = ap (m.instantiate (taking_types m (λ (p : Parameter). declared_type c a p.declared) parameters vs)) e
    called_same _ name at vs e = refl

    -- a name that is hidden calls nothing
    callee_same : (o : Option (Value X)) (name : Name) (at : ℕ) (vs : List (Value X)) → (o ≡ None → F name.text ≡ G name.text)
        → called m all (with_bodies c a F) (callee_of o (item_named all name.text)) name at vs ≡ called m all (with_bodies c a G) (callee_of o (item_named all name.text)) name at vs
    callee_same None name at vs e = called_same (item_named all name.text) name at vs (e refl)
    callee_same (Some v) name at vs e = refl

    outer_same : (name : Name) (inner : Inner (Value X)) → Agree (outer name (texts_of inner)) → inner_of inner name.text ≡ None → F name.text ≡ G name.text
    outer_same name inner same e = same name.text (ap (λ (t : Bool). is_among name.text (if t then [] else name.text ∷ [])) (unhidden name.text inner e) ∙ among_first name.text [])

    all_same : (fine : List Fine) (inner : Inner (Value X)) → Agree (all_of (map expression_names (map plain fine)) (texts_of inner)) → map (λ (e : Expr). V e inner) (map plain fine) ≡ map (λ (e : Expr). W e inner) (map plain fine)
    all_same [] inner same = refl
    all_same (k ∷ fine) inner same =
        ap (λ (v : Value X). v ∷ map (λ (e : Expr). V e inner) (map plain fine)) (k.1 inner (left_of (expression_names k.0 (texts_of inner)) (all_of (map expression_names (map plain fine)) (texts_of inner)) same))
        ∙ ap (λ (l : List (Value X)). W k.0 inner ∷ l) (all_same fine inner (right_of (expression_names k.0 (texts_of inner)) (all_of (map expression_names (map plain fine)) (texts_of inner)) same))

    names : (y : Expr-F Expr) (e : Expr) (texts : List Text) → roll-Expr y ≡ e → Agree (expression_names e texts) → Agree (names_step (map-Expr Expr Names expression_names y) texts)
    names y e texts is same = subst Agree (ap (λ (x : Expr). expression_names x texts) (sym is) ∙ ap (λ (n : Names). n texts) (fold-roll-Expr Names names_step y)) same

    ap2 : {Z : Type 0} (f : Value X → Value X → Z) (x y z w : Value X) → x ≡ y → z ≡ w → f x z ≡ f y w
    ap2 f x y z w e h = ap (λ (v : Value X). f v z) e ∙ ap (f y) h

    ap3 : {Z : Type 0} (f : Value X → Value X → Value X → Z) (x y z w u v : Value X) → x ≡ y → z ≡ w → u ≡ v → f x z u ≡ f y w v
    ap3 f x y z w u v e h i = ap (λ (t : Value X). f t z u) e ∙ ap2 (f y) z w u v h i

    at : (e : Expr) (inner : Inner (Value X)) (v w : Value X) → V e inner ≡ v → v ≡ w → W e inner ≡ w → V e inner ≡ W e inner
    at e inner v w left same right = left ∙ same ∙ sym right

    layer : (y : Expr-F Fine) → Alike (roll-Expr (map-Expr Fine Expr plain y))
    layer (Expr-F.Number value place) = subst Alike (sym (rolls-Number value place)) (λ inner same. (let kept = names (Expr-F.Number value place) (tree.Number value place) (texts_of inner) (rolls-Number value place) same in at (tree.Number value place) inner _ _ (inlined-Number X m all (with_bodies c a F) inner value place) (refl) (inlined-Number X m all (with_bodies c a G) inner value place)))
    layer (Expr-F.Name name) = subst Alike (sym (rolls-Name name)) (λ inner same. (let kept = names (Expr-F.Name name) (tree.Name name) (texts_of inner) (rolls-Name name) same in at (tree.Name name) inner _ _ (inlined-Name X m all (with_bodies c a F) inner name) (refl) (inlined-Name X m all (with_bodies c a G) inner name)))
    layer (Expr-F.Call name arguments) = subst Alike (sym (rolls-Call name (map plain arguments))) (λ inner same. (let kept = names (Expr-F.Call name (map plain arguments)) (tree.Call name (map plain arguments)) (texts_of inner) (rolls-Call name (map plain arguments)) same in at (tree.Call name (map plain arguments)) inner _ _ (inlined-Call X m all (with_bodies c a F) inner name (map plain arguments)) (
        ap (λ (l : List (Value X)). typed (called m all (with_bodies c a F) (callee_of (inner_of inner name.text) (item_named all name.text)) name (first_start name.at (map start_of (map plain arguments))) l)) (all_same arguments inner (right_of (outer name (texts_of inner)) (all_of (map expression_names (map plain arguments)) (texts_of inner)) kept))
        ∙ ap typed (callee_same (inner_of inner name.text) name (first_start name.at (map start_of (map plain arguments))) (map (λ (e : Expr). W e inner) (map plain arguments)) (outer_same name inner (left_of (outer name (texts_of inner)) (all_of (map expression_names (map plain arguments)) (texts_of inner)) kept)))) (inlined-Call X m all (with_bodies c a G) inner name (map plain arguments))))
    layer (Expr-F.Access memory place width address) = subst Alike (sym (rolls-Access memory place width.0 address.0)) (λ inner same. (let kept = names (Expr-F.Access memory place width.0 address.0) (tree.Access memory place width.0 address.0) (texts_of inner) (rolls-Access memory place width.0 address.0) same in at (tree.Access memory place width.0 address.0) inner _ _ (inlined-Access X m all (with_bodies c a F) inner memory place width.0 address.0) (ap2 (λ (v w : Value X). typed (m.node (heads.Access memory.at v.worth (start_of address.0)) (w.tree ∷ []))) (V width.0 inner) (W width.0 inner) (V address.0 inner) (W address.0 inner) (width.1 inner (right_of (outer memory (texts_of inner)) (expression_names width.0 (texts_of inner)) (left_of ((outer memory (texts_of inner)) ++ (expression_names width.0 (texts_of inner))) (expression_names address.0 (texts_of inner)) kept))) (address.1 inner (right_of ((outer memory (texts_of inner)) ++ (expression_names width.0 (texts_of inner))) (expression_names address.0 (texts_of inner)) kept))) (inlined-Access X m all (with_bodies c a G) inner memory place width.0 address.0)))
    layer (Expr-F.Join place high low) = subst Alike (sym (rolls-Join place high.0 low.0)) (λ inner same. (let kept = names (Expr-F.Join place high.0 low.0) (tree.Join place high.0 low.0) (texts_of inner) (rolls-Join place high.0 low.0) same in at (tree.Join place high.0 low.0) inner _ _ (inlined-Join X m all (with_bodies c a F) inner place high.0 low.0) (ap2 (λ (v w : Value X). typed (m.node heads.Join (v.tree ∷ w.tree ∷ []))) (V high.0 inner) (W high.0 inner) (V low.0 inner) (W low.0 inner) (high.1 inner (left_of (expression_names high.0 (texts_of inner)) (expression_names low.0 (texts_of inner)) kept)) (low.1 inner (right_of (expression_names high.0 (texts_of inner)) (expression_names low.0 (texts_of inner)) kept))) (inlined-Join X m all (with_bodies c a G) inner place high.0 low.0)))
    layer (Expr-F.Parentheses place body) = subst Alike (sym (rolls-Parentheses place body.0)) (λ inner same. (let kept = names (Expr-F.Parentheses place body.0) (tree.Parentheses place body.0) (texts_of inner) (rolls-Parentheses place body.0) same in at (tree.Parentheses place body.0) inner _ _ (inlined-Parentheses X m all (with_bodies c a F) inner place body.0) (body.1 inner kept) (inlined-Parentheses X m all (with_bodies c a G) inner place body.0)))
    layer (Expr-F.Unary op place operand) = subst Alike (sym (rolls-Unary op place operand.0)) (λ inner same. (let kept = names (Expr-F.Unary op place operand.0) (tree.Unary op place operand.0) (texts_of inner) (rolls-Unary op place operand.0) same in at (tree.Unary op place operand.0) inner _ _ (inlined-Unary X m all (with_bodies c a F) inner op place operand.0) (ap (λ (v : Value X). typed (m.node (heads.Unary op) (v.tree ∷ []))) (operand.1 inner kept)) (inlined-Unary X m all (with_bodies c a G) inner op place operand.0)))
    layer (Expr-F.Binary op place left right) = subst Alike (sym (rolls-Binary op place left.0 right.0)) (λ inner same. by inner (names (Expr-F.Binary op place left.0 right.0) (tree.Binary op place left.0 right.0) (texts_of inner) (rolls-Binary op place left.0 right.0) same))
      where
        by : (inner : Inner (Value X)) → Agree (expression_names left.0 (texts_of inner) ++ expression_names right.0 (texts_of inner)) → V (tree.Binary op place left.0 right.0) inner ≡ W (tree.Binary op place left.0 right.0) inner
        by inner kept =
            let w = worth-Binary X m all (with_bodies c a F) inner op place left.0 right.0 ∙ ap2 (λ (v w : Value X). binary_whole op v.worth w.worth) (V left.0 inner) (W left.0 inner) (V right.0 inner) (W right.0 inner) (left.1 inner (left_of (expression_names left.0 (texts_of inner)) (expression_names right.0 (texts_of inner)) kept)) (right.1 inner (right_of (expression_names left.0 (texts_of inner)) (expression_names right.0 (texts_of inner)) kept)) ∙ sym (worth-Binary X m all (with_bodies c a G) inner op place left.0 right.0) in
            let t = tree-Binary X m all (with_bodies c a F) inner op place left.0 right.0 ∙ ap2 (λ (v w : Value X). whole_or m (binary_whole op v.worth w.worth) (m.node (heads.Binary op) (v.tree ∷ w.tree ∷ []))) (V left.0 inner) (W left.0 inner) (V right.0 inner) (W right.0 inner) (left.1 inner (left_of (expression_names left.0 (texts_of inner)) (expression_names right.0 (texts_of inner)) kept)) (right.1 inner (right_of (expression_names left.0 (texts_of inner)) (expression_names right.0 (texts_of inner)) kept)) ∙ sym (tree-Binary X m all (with_bodies c a G) inner op place left.0 right.0) in
            λ i. record { worth = w i; tree = t i }
    layer (Expr-F.Cast operand place (types.Sized kind start width)) = subst Alike (sym (rolls-Cast operand.0 place (types.Sized kind start width.0))) (λ inner same. (let kept = names (Expr-F.Cast operand.0 place (types.Sized kind start width.0)) (tree.Cast operand.0 place (types.Sized kind start width.0)) (texts_of inner) (rolls-Cast operand.0 place (types.Sized kind start width.0)) same in at (tree.Cast operand.0 place (types.Sized kind start width.0)) inner _ _ (inlined-Cast X m all (with_bodies c a F) inner operand.0 place (types.Sized kind start width.0)) (ap2 (λ (v w : Value X). typed (m.node (heads.Cast (type.Sized kind w.worth)) (v.tree ∷ []))) (V operand.0 inner) (W operand.0 inner) (V width.0 inner) (W width.0 inner) (operand.1 inner (left_of (expression_names operand.0 (texts_of inner)) (expression_names width.0 (texts_of inner)) kept)) (width.1 inner (right_of (expression_names operand.0 (texts_of inner)) (expression_names width.0 (texts_of inner)) kept))) (inlined-Cast X m all (with_bodies c a G) inner operand.0 place (types.Sized kind start width.0))))
    layer (Expr-F.Cast operand place (types.Bool start)) = subst Alike (sym (rolls-Cast operand.0 place (types.Bool start))) (λ inner same. (let kept = names (Expr-F.Cast operand.0 place (types.Bool start)) (tree.Cast operand.0 place (types.Bool start)) (texts_of inner) (rolls-Cast operand.0 place (types.Bool start)) same in at (tree.Cast operand.0 place (types.Bool start)) inner _ _ (inlined-Cast X m all (with_bodies c a F) inner operand.0 place (types.Bool start)) (ap (λ (v : Value X). typed (m.node (heads.Cast type.Bool) (v.tree ∷ []))) (operand.1 inner (left_of (expression_names operand.0 (texts_of inner)) [] kept))) (inlined-Cast X m all (with_bodies c a G) inner operand.0 place (types.Bool start))))
    layer (Expr-F.Cast operand place (types.Alias name)) = subst Alike (sym (rolls-Cast operand.0 place (types.Alias name))) (λ inner same. (let kept = names (Expr-F.Cast operand.0 place (types.Alias name)) (tree.Cast operand.0 place (types.Alias name)) (texts_of inner) (rolls-Cast operand.0 place (types.Alias name)) same in at (tree.Cast operand.0 place (types.Alias name)) inner _ _ (inlined-Cast X m all (with_bodies c a F) inner operand.0 place (types.Alias name)) (ap (λ (v : Value X). typed (m.node (heads.Cast (a name.text)) (v.tree ∷ []))) (operand.1 inner (left_of (expression_names operand.0 (texts_of inner)) (outer name (texts_of inner)) kept))) (inlined-Cast X m all (with_bodies c a G) inner operand.0 place (types.Alias name))))
    layer (Expr-F.Slice operand place high low) = subst Alike (sym (rolls-Slice operand.0 place high.0 low.0)) (λ inner same. (let kept = names (Expr-F.Slice operand.0 place high.0 low.0) (tree.Slice operand.0 place high.0 low.0) (texts_of inner) (rolls-Slice operand.0 place high.0 low.0) same in at (tree.Slice operand.0 place high.0 low.0) inner _ _ (inlined-Slice X m all (with_bodies c a F) inner operand.0 place high.0 low.0) (ap3 (λ (u v w : Value X). typed (m.node (heads.Slice v.worth w.worth) (u.tree ∷ []))) (V operand.0 inner) (W operand.0 inner) (V high.0 inner) (W high.0 inner) (V low.0 inner) (W low.0 inner) (operand.1 inner (left_of (expression_names operand.0 (texts_of inner)) (expression_names high.0 (texts_of inner)) (left_of ((expression_names operand.0 (texts_of inner)) ++ (expression_names high.0 (texts_of inner))) (expression_names low.0 (texts_of inner)) kept))) (high.1 inner (right_of (expression_names operand.0 (texts_of inner)) (expression_names high.0 (texts_of inner)) (left_of ((expression_names operand.0 (texts_of inner)) ++ (expression_names high.0 (texts_of inner))) (expression_names low.0 (texts_of inner)) kept))) (low.1 inner (right_of ((expression_names operand.0 (texts_of inner)) ++ (expression_names high.0 (texts_of inner))) (expression_names low.0 (texts_of inner)) kept))) (inlined-Slice X m all (with_bodies c a G) inner operand.0 place high.0 low.0)))
    layer (Expr-F.If place condition one other) = subst Alike (sym (rolls-If place condition.0 one.0 other.0)) (λ inner same. (let kept = names (Expr-F.If place condition.0 one.0 other.0) (tree.If place condition.0 one.0 other.0) (texts_of inner) (rolls-If place condition.0 one.0 other.0) same in at (tree.If place condition.0 one.0 other.0) inner _ _ (inlined-If X m all (with_bodies c a F) inner place condition.0 one.0 other.0) (ap3 (λ (u v w : Value X). typed (m.node heads.If (u.tree ∷ v.tree ∷ w.tree ∷ []))) (V condition.0 inner) (W condition.0 inner) (V one.0 inner) (W one.0 inner) (V other.0 inner) (W other.0 inner) (condition.1 inner (left_of (expression_names condition.0 (texts_of inner)) (expression_names one.0 (texts_of inner)) (left_of ((expression_names condition.0 (texts_of inner)) ++ (expression_names one.0 (texts_of inner))) (expression_names other.0 (texts_of inner)) kept))) (one.1 inner (right_of (expression_names condition.0 (texts_of inner)) (expression_names one.0 (texts_of inner)) (left_of ((expression_names condition.0 (texts_of inner)) ++ (expression_names one.0 (texts_of inner))) (expression_names other.0 (texts_of inner)) kept))) (other.1 inner (right_of ((expression_names condition.0 (texts_of inner)) ++ (expression_names one.0 (texts_of inner))) (expression_names other.0 (texts_of inner)) kept))) (inlined-If X m all (with_bodies c a G) inner place condition.0 one.0 other.0)))
    layer (Expr-F.Let place name bound body) = subst Alike (sym (rolls-Let place name bound.0 body.0)) (λ inner same. (let kept = names (Expr-F.Let place name bound.0 body.0) (tree.Let place name bound.0 body.0) (texts_of inner) (rolls-Let place name bound.0 body.0) same in at (tree.Let place name bound.0 body.0) inner _ _ (inlined-Let X m all (with_bodies c a F) inner place name bound.0 body.0) (ap (λ (v : Value X). V body.0 ((name.text, v) ∷ inner)) (bound.1 inner (left_of (expression_names bound.0 (texts_of inner)) (expression_names body.0 (name.text ∷ texts_of inner)) kept)) ∙ body.1 ((name.text, W bound.0 inner) ∷ inner) (right_of (expression_names bound.0 (texts_of inner)) (expression_names body.0 (name.text ∷ texts_of inner)) kept)) (inlined-Let X m all (with_bodies c a G) inner place name bound.0 body.0)))

    alike : (e : Expr) → Alike e
    alike = ind-Expr Alike (λ x y is. subst (λ (z : Expr-F Expr). Alike (roll-Expr z)) is (layer y))

    parameter_texts : (k : ℕ) (parameters : List Parameter) → texts_of (parameter_values m k parameters) ≡ map (λ (parameter : Parameter). parameter.name.text) parameters
    parameter_texts k [] = refl
    parameter_texts k (parameter ∷ more) = ap (λ (l : List Text). parameter.name.text ∷ l) (parameter_texts (k + 1) more)

    body_alike : (item : Item) → Agree (uses_of item) → body_step m all c a F (Some item) ≡ body_step m all c a G (Some item)
    body_alike (items.Function p name parameters result body) same =
        let texts = map (λ (parameter : Parameter). parameter.name.text) parameters in
        let of_body : Agree (expression_names body (texts_of (parameter_values m 0 parameters))) =
        subst (λ (l : List Text). Agree (expression_names body l)) (sym (parameter_texts 0 parameters)) (right_of (parameter_names parameters ++ type_expr_names result []) (expression_names body texts) same) in
        ap (λ (v : Value X). constant_or m (declared_type c a result) v.worth v.tree) (alike body (parameter_values m 0 parameters) of_body)
    body_alike _ same = refl

  no_body : (F : Text → X) (o : Option Item) → is_replaced o ≡ false → body_step m all c a F o ≡ m.node heads.Missing []
  no_body F (Some (items.Function p name parameters result body)) e = absurd (true≢false e)
  no_body F _ e = refl

  pub body_is_step : IsStep X (m.node heads.Missing []) (body_step m all c a)
  body_is_step = record { plainly = no_body; locally = body_alike }
