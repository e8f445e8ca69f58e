-- What two ways to make trees have in common: where one is the picture of the other at each node and each call, what the one
-- makes of an expression is the picture of what the other does.
use Rattle.std.proofs.Common.{◌≡◌, ℕ, zero, suc, ◌+◌, Bool, true, false, List, map, [], ◌∷◌, Option, Some, None, refl, sym, ap, subst, ◌∙◌, length, if◌then◌else◌}
use Rattle.std.specs.Option.{option_map}
use Rattle.std.specs.Str.{bytes_eq}
use Rattle.vg_ast.specs.declared.name.Name.{Name}
use Rattle.vg_ast.specs.declared.parameter.Parameter.{Parameter}
use Rattle.vg_ast.specs.declared.type_expr.TypeExpr.TheVariants as types
use Rattle.vg_ast.specs.declared.expr.Expr.{Expr, map-Expr, roll-Expr, ind-Expr}
use Rattle.vg_ast.specs.declared.expr.Expr.TheOpen.{Expr-F}
use Rattle.vg_ast.specs.declared.expr.Expr.TheVariants as tree
use Rattle.vg_ast.specs.declared.expr.Expr.TheVariants.{rolls-Number, rolls-Name, rolls-Call, rolls-Access, rolls-Join, rolls-Parentheses, rolls-Unary, rolls-Binary, rolls-Cast, rolls-Slice, rolls-If, rolls-Let}
use Rattle.vg_ast.specs.declared.item.Item.{Item}
use Rattle.vg_ast.specs.declared.item.Item.TheVariants as items
use Rattle.vg_ast.specs.Start.{start_of}
use Rattle.vg_names.specs.Definition.{Text, item_named}
use Rattle.vg_names.specs.Numbers.{number_named}
use Rattle.vg_names.specs.Worked.{worked, worked_within}
use Rattle.vg_whole.specs.declared.worth.Worth.{Worth}
use Rattle.vg_whole.specs.declared.worth.Worth.TheVariants.{Whole, NoValue, Typed}
use Rattle.vg_whole.specs.Whole.{Inner, inner_of, binary_whole, Constants}
use Rattle.vg_inline.specs.declared.declared.Declared.{Declared}
use Rattle.vg_inline.specs.declared.declared.Declared.TheVariants as type
use Rattle.vg_inline.specs.declared.head.Head.{Head}
use Rattle.vg_inline.specs.declared.head.Head.TheVariants as heads
use Rattle.vg_inline.specs.declared.value.Value.{Value}
use Rattle.vg_inline.specs.Types.{Aliases, declared_type}
use Rattle.vg_inline.specs.Inline.{Making, Known, typed, whole_or, constant_or, number_or, named_value, taking_types, callee_of, tree_of, called, first_start, inlined, parameter_values, field_values, with_bodies, body_step, bodies_of}
use Rattle.vg_inline.proofs.InlineLemmas.{inlined-Number, inlined-Name, inlined-Call, inlined-Access, inlined-Join, inlined-Parentheses, inlined-Unary, worth-Binary, tree-Binary, inlined-Slice, inlined-If, inlined-Let, inlined-Cast}

-- one way to make trees is the picture of another
pub record IsPicture (X Y : Type 0) (m : Making X) (n : Making Y) (h : X → Y) : Type 0 where
  pub nodes : (head : Head) (parts : List X) → h (m.node head parts) ≡ n.node head (map h parts)
  pub calls : (arguments : List X) (body : X) → h (m.instantiate arguments body) ≡ n.instantiate (map h arguments) (h body)

module _ (X Y : Type 0) (m : Making X) (n : Making Y) (h : X → Y) (is : IsPicture X Y m n h) where
  abbrev pub pictured : Value X → Value Y
  pictured v = record { worth = v.worth; tree = h v.tree }

  abbrev pub pictures : Inner (Value X) → Inner (Value Y)
  pictures inner = map (λ (x : Text × Value X). (x.0, pictured x.1)) inner

  found : (inner : Inner (Value X)) (text : Text) → inner_of (pictures inner) text ≡ option_map pictured (inner_of inner text)
  found [] text = refl
  found (x ∷ inner) text = by (bytes_eq x.0 text) (found inner text)
    where
      by : (b : Bool) → inner_of (pictures inner) text ≡ option_map pictured (inner_of inner text) → (if b then Some (pictured x.1) else inner_of (pictures inner) text) ≡ option_map pictured (if b then Some x.1 else inner_of inner text)
      by true e = refl
      by false e = e

  wholes : (w : Worth) (t : X) → whole_or n w (h t) ≡ h (whole_or m w t)
  wholes (Whole k) t = sym (is.nodes (heads.Whole (Some k)) [])
  wholes NoValue t = sym (is.nodes (heads.Whole None) [])
  wholes Typed t = refl

  constants : (declared : Declared) (w : Worth) (t : X) → constant_or n declared w (h t) ≡ h (constant_or m declared w t)
  constants declared (Whole k) t = sym (is.nodes (heads.Constant (Some k) declared) [])
  constants declared NoValue t = sym (is.nodes (heads.Constant None declared) [])
  constants declared Typed t = refl

  taken : (declared : Parameter → Declared) (ps : List Parameter) (vs : List (Value X)) → taking_types n declared ps (map pictured vs) ≡ map h (taking_types m declared ps vs)
  taken declared [] [] = refl
  taken declared [] (v ∷ vs) = ap (λ (l : List Y). h v.tree ∷ l) (taken declared [] vs)
  taken declared (p ∷ ps) [] = refl
  taken declared (p ∷ ps) (v ∷ vs) =
      ap (λ (t : Y). t ∷ taking_types n declared ps (map pictured vs)) (constants (declared p) v.worth v.tree)
      ∙ ap (λ (l : List Y). h (constant_or m (declared p) v.worth v.tree) ∷ l) (taken declared ps vs)

  tree_list : (vs : List (Value X)) → map tree_of (map pictured vs) ≡ map h (map tree_of vs)
  tree_list [] = refl
  tree_list (v ∷ vs) = ap (λ (l : List Y). h v.tree ∷ l) (tree_list vs)

  abbrev pub pictured_known : Known X → Known Y
  pictured_known known = record { constants = known.constants; aliases = known.aliases; bodies = λ text. h (known.bodies text) }

  module _ (all : List Item) (known : Known X) where
    calls : (item : Option Item) (name : Name) (at : ℕ) (vs : List (Value X)) → called n all (pictured_known known) item name at (map pictured vs) ≡ h (called m all known item name at vs)
    calls (Some (items.Function p name parameters result body)) callee at vs =
        ap (λ (l : List Y). n.instantiate l (h (known.bodies callee.text))) (taken (λ (p : Parameter). declared_type known.constants known.aliases p.declared) parameters vs)
        ∙ sym (is.calls (taking_types m (λ (p : Parameter). declared_type known.constants known.aliases p.declared) parameters vs) (known.bodies callee.text))
    calls _ callee at vs =
        ap (n.node (heads.Indexed (number_or (number_named all callee.text)) callee.at at)) (tree_list vs)
        ∙ sym (is.nodes (heads.Indexed (number_or (number_named all callee.text)) callee.at at) (map tree_of vs))

    callees : (o : Option (Value X)) (item : Option Item) → callee_of (option_map pictured o) item ≡ callee_of o item
    callees None item = refl
    callees (Some v) item = refl

    names : (o : Option (Value X)) (w : Worth) (item : ℕ) → named_value n (option_map pictured o) w item ≡ pictured (named_value m o w item)
    names None w item =
        ap (λ (t : Y). let v : Value Y = record { worth = w; tree = t } in v)
        (ap (whole_or n w) (sym (is.nodes (heads.Resource item) [])) ∙ wholes w (m.node (heads.Resource item) []))
    names (Some v) w item = refl

    abbrev V : Expr → Inner (Value X) → Value X
    V e inner = inlined m all known e inner

    abbrev W : Expr → Inner (Value Y) → Value Y
    W e inner = inlined n all (pictured_known known) e inner

    abbrev pub Pictured : Expr → Type 0
    Pictured e = (inner : Inner (Value X)) → W e (pictures inner) ≡ pictured (V e inner)

    abbrev Fine : Type 0
    Fine = (e : Expr) × Pictured e

    abbrev plain : Fine → Expr
    plain k = k.0

    all_values : (fine : List Fine) (inner : Inner (Value X)) → map (λ (e : Expr). W e (pictures inner)) (map plain fine) ≡ map pictured (map (λ (e : Expr). V e inner) (map plain fine))
    all_values [] inner = refl
    all_values (k ∷ fine) inner = ap (λ (v : Value Y). v ∷ map (λ (e : Expr). W e (pictures inner)) (map plain fine)) (k.1 inner) ∙ ap (λ (l : List (Value Y)). pictured (V k.0 inner) ∷ l) (all_values fine inner)

    -- a node over the pictures of parts
    over : (head : Head) (parts : List X) (pictured_parts : List Y) → pictured_parts ≡ map h parts → (let v : Value Y = typed (n.node head pictured_parts) in v) ≡ pictured (typed (m.node head parts))
    over head parts ys e = ap (λ (l : List Y). let v : Value Y = typed (n.node head l) in v) e ∙ ap (λ (t : Y). let v : Value Y = typed t in v) (sym (is.nodes head parts))

    part : (k : Fine) (inner : Inner (Value X)) → (W k.0 (pictures inner)).tree ≡ h (V k.0 inner).tree
    part k inner = ap (λ (v : Value Y). v.tree) (k.1 inner)

    worth : (k : Fine) (inner : Inner (Value X)) → (W k.0 (pictures inner)).worth ≡ (V k.0 inner).worth
    worth k inner = ap (λ (v : Value Y). v.worth) (k.1 inner)

    one_part : (k : Fine) (inner : Inner (Value X)) → (W k.0 (pictures inner)).tree ∷ [] ≡ map h ((V k.0 inner).tree ∷ [])
    one_part k inner = ap (λ (t : Y). t ∷ []) (part k inner)

    two_parts : (k l : Fine) (inner : Inner (Value X)) → (W k.0 (pictures inner)).tree ∷ (W l.0 (pictures inner)).tree ∷ [] ≡ map h ((V k.0 inner).tree ∷ (V l.0 inner).tree ∷ [])
    two_parts k l inner = ap (λ (t : Y). t ∷ (W l.0 (pictures inner)).tree ∷ []) (part k inner) ∙ ap (λ (t : List Y). h (V k.0 inner).tree ∷ t) (one_part l inner)

    three_parts : (k l j : Fine) (inner : Inner (Value X)) → (W k.0 (pictures inner)).tree ∷ (W l.0 (pictures inner)).tree ∷ (W j.0 (pictures inner)).tree ∷ [] ≡ map h ((V k.0 inner).tree ∷ (V l.0 inner).tree ∷ (V j.0 inner).tree ∷ [])
    three_parts k l j inner = ap (λ (t : Y). t ∷ (W l.0 (pictures inner)).tree ∷ (W j.0 (pictures inner)).tree ∷ []) (part k inner) ∙ ap (λ (t : List Y). h (V k.0 inner).tree ∷ t) (two_parts l j inner)

    at : (e : Expr) (inner : Inner (Value X)) (w : Value Y) (v : Value X) → W e (pictures inner) ≡ w → w ≡ pictured v → V e inner ≡ v → W e (pictures inner) ≡ pictured (V e inner)
    at e inner w v left same right = left ∙ same ∙ ap pictured (sym right)

    layer : (y : Expr-F Fine) → Pictured (roll-Expr (map-Expr Fine Expr plain y))
    layer (Expr-F.Number value place) = subst Pictured (sym (rolls-Number value place)) (λ inner. at (tree.Number value place) inner _ _ (inlined-Number Y n all (pictured_known known) (pictures inner) value place) (ap (λ (t : Y). let v : Value Y = record { worth = Whole value; tree = t } in v) (sym (is.nodes (heads.Whole (Some value)) []))) (inlined-Number X m all known inner value place))
    layer (Expr-F.Name name) = subst Pictured (sym (rolls-Name name)) (λ inner. at (tree.Name name) inner _ _ (inlined-Name Y n all (pictured_known known) (pictures inner) name) (ap (λ (o : Option (Value Y)). named_value n o (known.constants name.text) (number_or (number_named all name.text))) (found inner name.text) ∙ names (inner_of inner name.text) (known.constants name.text) (number_or (number_named all name.text))) (inlined-Name X m all known inner name))
    layer (Expr-F.Call name arguments) = subst Pictured (sym (rolls-Call name (map plain arguments))) (λ inner. at (tree.Call name (map plain arguments)) inner _ _ (inlined-Call Y n all (pictured_known known) (pictures inner) name (map plain arguments)) (
        ap (λ (o : Option (Value Y)). let v : Value Y = typed (called n all (pictured_known known) (callee_of o (item_named all name.text)) name (first_start name.at (map start_of (map plain arguments))) (map (λ (e : Expr). W e (pictures inner)) (map plain arguments))) in v) (found inner name.text)
        ∙ ap (λ (i : Option Item). let v : Value Y = typed (called n all (pictured_known known) i name (first_start name.at (map start_of (map plain arguments))) (map (λ (e : Expr). W e (pictures inner)) (map plain arguments))) in v) (callees (inner_of inner name.text) (item_named all name.text))
        ∙ ap (λ (l : List (Value Y)). let v : Value Y = typed (called n all (pictured_known known) (callee_of (inner_of inner name.text) (item_named all name.text)) name (first_start name.at (map start_of (map plain arguments))) l) in v) (all_values arguments inner)
        ∙ ap (λ (t : Y). let v : Value Y = typed t in v) (calls (callee_of (inner_of inner name.text) (item_named all name.text)) name (first_start name.at (map start_of (map plain arguments))) (map (λ (e : Expr). V e inner) (map plain arguments)))) (inlined-Call X m all known inner name (map plain arguments)))
    layer (Expr-F.Access memory place width address) = subst Pictured (sym (rolls-Access memory place width.0 address.0)) (λ inner. at (tree.Access memory place width.0 address.0) inner _ _ (inlined-Access Y n all (pictured_known known) (pictures inner) memory place width.0 address.0) (ap (λ (w : Worth). let v : Value Y = typed (n.node (heads.Access memory.at w (start_of address.0)) ((W address.0 (pictures inner)).tree ∷ [])) in v) (worth width inner) ∙ over (heads.Access memory.at (V width.0 inner).worth (start_of address.0)) ((V address.0 inner).tree ∷ []) _ (one_part address inner)) (inlined-Access X m all known inner memory place width.0 address.0))
    layer (Expr-F.Join place high low) = subst Pictured (sym (rolls-Join place high.0 low.0)) (λ inner. at (tree.Join place high.0 low.0) inner _ _ (inlined-Join Y n all (pictured_known known) (pictures inner) place high.0 low.0) (over heads.Join ((V high.0 inner).tree ∷ (V low.0 inner).tree ∷ []) _ (two_parts high low inner)) (inlined-Join X m all known inner place high.0 low.0))
    layer (Expr-F.Parentheses place body) = subst Pictured (sym (rolls-Parentheses place body.0)) (λ inner. at (tree.Parentheses place body.0) inner _ _ (inlined-Parentheses Y n all (pictured_known known) (pictures inner) place body.0) (body.1 inner) (inlined-Parentheses X m all known inner place body.0))
    layer (Expr-F.Unary op place operand) = subst Pictured (sym (rolls-Unary op place operand.0)) (λ inner. at (tree.Unary op place operand.0) inner _ _ (inlined-Unary Y n all (pictured_known known) (pictures inner) op place operand.0) (over (heads.Unary op) ((V operand.0 inner).tree ∷ []) _ (one_part operand inner)) (inlined-Unary X m all known inner op place operand.0))
    layer (Expr-F.Binary op place left right) = subst Pictured (sym (rolls-Binary op place left.0 right.0)) (λ inner. by inner)
      where
        by : (inner : Inner (Value X)) → W (tree.Binary op place left.0 right.0) (pictures inner) ≡ pictured (V (tree.Binary op place left.0 right.0) inner)
        by inner =
            let w : (W (tree.Binary op place left.0 right.0) (pictures inner)).worth ≡ (V (tree.Binary op place left.0 right.0) inner).worth =
            worth-Binary Y n all (pictured_known known) (pictures inner) op place left.0 right.0 ∙ both inner ∙ sym (worth-Binary X m all known inner op place left.0 right.0) in
            let t : (W (tree.Binary op place left.0 right.0) (pictures inner)).tree ≡ h (V (tree.Binary op place left.0 right.0) inner).tree =
            tree-Binary Y n all (pictured_known known) (pictures inner) op place left.0 right.0
            ∙ ap (λ (x : Worth). whole_or n x (n.node (heads.Binary op) ((W left.0 (pictures inner)).tree ∷ (W right.0 (pictures inner)).tree ∷ []))) (both inner)
            ∙ ap (λ (l : List Y). whole_or n (binary_whole op (V left.0 inner).worth (V right.0 inner).worth) (n.node (heads.Binary op) l)) (two_parts left right inner)
            ∙ ap (whole_or n (binary_whole op (V left.0 inner).worth (V right.0 inner).worth)) (sym (is.nodes (heads.Binary op) ((V left.0 inner).tree ∷ (V right.0 inner).tree ∷ [])))
            ∙ wholes (binary_whole op (V left.0 inner).worth (V right.0 inner).worth) (m.node (heads.Binary op) ((V left.0 inner).tree ∷ (V right.0 inner).tree ∷ []))
            ∙ ap h (sym (tree-Binary X m all known inner op place left.0 right.0)) in
            λ i. record { worth = w i; tree = t i }
          where
            both : (inner : Inner (Value X)) → binary_whole op (W left.0 (pictures inner)).worth (W right.0 (pictures inner)).worth ≡ binary_whole op (V left.0 inner).worth (V right.0 inner).worth
            both inner = ap (λ (x : Worth). binary_whole op x (W right.0 (pictures inner)).worth) (worth left inner) ∙ ap (binary_whole op (V left.0 inner).worth) (worth right inner)
    layer (Expr-F.Cast operand place (types.Sized kind start width)) = subst Pictured (sym (rolls-Cast operand.0 place (types.Sized kind start width.0))) (λ inner. at (tree.Cast operand.0 place (types.Sized kind start width.0)) inner _ _ (inlined-Cast Y n all (pictured_known known) (pictures inner) operand.0 place (types.Sized kind start width.0)) (ap (λ (w : Worth). let v : Value Y = typed (n.node (heads.Cast (type.Sized kind w)) ((W operand.0 (pictures inner)).tree ∷ [])) in v) (worth width inner) ∙ over (heads.Cast (type.Sized kind (V width.0 inner).worth)) ((V operand.0 inner).tree ∷ []) _ (one_part operand inner)) (inlined-Cast X m all known inner operand.0 place (types.Sized kind start width.0)))
    layer (Expr-F.Cast operand place (types.Bool start)) = subst Pictured (sym (rolls-Cast operand.0 place (types.Bool start))) (λ inner. at (tree.Cast operand.0 place (types.Bool start)) inner _ _ (inlined-Cast Y n all (pictured_known known) (pictures inner) operand.0 place (types.Bool start)) (over (heads.Cast type.Bool) ((V operand.0 inner).tree ∷ []) _ (one_part operand inner)) (inlined-Cast X m all known inner operand.0 place (types.Bool start)))
    layer (Expr-F.Cast operand place (types.Alias name)) = subst Pictured (sym (rolls-Cast operand.0 place (types.Alias name))) (λ inner. at (tree.Cast operand.0 place (types.Alias name)) inner _ _ (inlined-Cast Y n all (pictured_known known) (pictures inner) operand.0 place (types.Alias name)) (over (heads.Cast (known.aliases name.text)) ((V operand.0 inner).tree ∷ []) _ (one_part operand inner)) (inlined-Cast X m all known inner operand.0 place (types.Alias name)))
    layer (Expr-F.Slice operand place high low) = subst Pictured (sym (rolls-Slice operand.0 place high.0 low.0)) (λ inner. at (tree.Slice operand.0 place high.0 low.0) inner _ _ (inlined-Slice Y n all (pictured_known known) (pictures inner) operand.0 place high.0 low.0) (ap (λ (w : Worth). let v : Value Y = typed (n.node (heads.Slice w (W low.0 (pictures inner)).worth) ((W operand.0 (pictures inner)).tree ∷ [])) in v) (worth high inner) ∙ ap (λ (w : Worth). let v : Value Y = typed (n.node (heads.Slice (V high.0 inner).worth w) ((W operand.0 (pictures inner)).tree ∷ [])) in v) (worth low inner) ∙ over (heads.Slice (V high.0 inner).worth (V low.0 inner).worth) ((V operand.0 inner).tree ∷ []) _ (one_part operand inner)) (inlined-Slice X m all known inner operand.0 place high.0 low.0))
    layer (Expr-F.If place condition one other) = subst Pictured (sym (rolls-If place condition.0 one.0 other.0)) (λ inner. at (tree.If place condition.0 one.0 other.0) inner _ _ (inlined-If Y n all (pictured_known known) (pictures inner) place condition.0 one.0 other.0) (over heads.If ((V condition.0 inner).tree ∷ (V one.0 inner).tree ∷ (V other.0 inner).tree ∷ []) _ (three_parts condition one other inner)) (inlined-If X m all known inner place condition.0 one.0 other.0))
    layer (Expr-F.Let place name bound body) = subst Pictured (sym (rolls-Let place name bound.0 body.0)) (λ inner. at (tree.Let place name bound.0 body.0) inner _ _ (inlined-Let Y n all (pictured_known known) (pictures inner) place name bound.0 body.0) (ap (λ (v : Value Y). W body.0 ((name.text, v) ∷ pictures inner)) (bound.1 inner) ∙ body.1 ((name.text, V bound.0 inner) ∷ inner)) (inlined-Let X m all known inner place name bound.0 body.0))

    pub pictured_expression : (e : Expr) → Pictured e
    pictured_expression = ind-Expr Pictured (λ x y is. subst (λ (z : Expr-F Expr). Pictured (roll-Expr z)) is (layer y))

  parameters : (k : ℕ) (ps : List Parameter) → parameter_values n k ps ≡ pictures (parameter_values m k ps)
  parameters k [] = refl
  parameters k (p ∷ ps) =
      ap (λ (t : Y). (p.name.text, (let v : Value Y = typed t in v)) ∷ parameter_values n (k + 1) ps) (sym (is.nodes (heads.Parameter k) []))
      ∙ ap (λ (l : Inner (Value Y)). (p.name.text, pictured (typed (m.node (heads.Parameter k) []))) ∷ l) (parameters (k + 1) ps)

  pub fields : (k : ℕ) (texts : List Text) → field_values n k texts ≡ pictures (field_values m k texts)
  fields k [] = refl
  fields k (text ∷ more) =
      ap (λ (t : Y). (text, (let v : Value Y = typed t in v)) ∷ field_values n (k + 1) more) (sym (is.nodes (heads.Field k) []))
      ∙ ap (λ (l : Inner (Value Y)). (text, pictured (typed (m.node (heads.Field k) []))) ∷ l) (fields (k + 1) more)

  pub body : (all : List Item) (c : Constants) (a : Aliases) (F : Text → X) (item : Option Item) → body_step n all c a (λ text. h (F text)) item ≡ h (body_step m all c a F item)
  body all c a F (Some (items.Function p name ps result e)) =
      ap (λ (inner : Inner (Value Y)). constant_or n (declared_type c a result) (inlined n all (with_bodies c a (λ text. h (F text))) e inner).worth (inlined n all (with_bodies c a (λ text. h (F text))) e inner).tree) (parameters 0 ps)
      ∙ ap (λ (v : Value Y). constant_or n (declared_type c a result) v.worth v.tree) (pictured_expression all (with_bodies c a F) e (parameter_values m 0 ps))
      ∙ constants (declared_type c a result) (inlined m all (with_bodies c a F) e (parameter_values m 0 ps)).worth (inlined m all (with_bodies c a F) e (parameter_values m 0 ps)).tree
  body all c a F _ = sym (is.nodes heads.Missing [])

  -- the bodies of functions
  bodies_within : (all : List Item) (c : Constants) (a : Aliases) (k : ℕ) (text : Text)
      → worked_within all (n.node heads.Missing []) (body_step n all c a) k text ≡ h (worked_within all (m.node heads.Missing []) (body_step m all c a) k text)
  bodies_within all c a zero text = sym (is.nodes heads.Missing [])
  bodies_within all c a (suc k) text =
      ap (λ (F : Text → Y). body_step n all c a F (item_named all text)) (λ i t. bodies_within all c a k t i)
      ∙ body all c a (worked_within all (m.node heads.Missing []) (body_step m all c a) k) (item_named all text)

  pub pictured_bodies : (all : List Item) (c : Constants) (a : Aliases) → bodies_of n all c a ≡ (λ text. h (bodies_of m all c a text))
  unfolding worked
  pictured_bodies all c a = λ i text. bodies_within all c a (length all) text i
