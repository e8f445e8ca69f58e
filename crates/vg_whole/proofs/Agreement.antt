-- What an expression is worth depends on what its names of items are worth alone.
use Rattle.std.proofs.Common.{◌≡◌, ℕ, Bool, true, false, List, map, [], ◌∷◌, ◌++◌, Some, sym, ap, subst, ◌∙◌, refl, if◌then◌else◌}
use Rattle.std.specs.Str.{bytes_eq}
use Rattle.vg_ast.specs.declared.name.Name.{Name}
use Rattle.vg_ast.specs.declared.type_expr.TypeExpr.TheVariants as types
use Rattle.vg_ast.specs.declared.expr.Expr.{Expr, fold-roll-Expr, roll-Expr, ind-Expr, map-Expr}
use Rattle.vg_ast.specs.declared.expr.Expr.TheOpen.{Expr-F}
use Rattle.vg_names.specs.Definition.{Text, is_among}
use Rattle.vg_names.proofs.Texts.{among_first, among_left, among_right}
use Rattle.vg_names.specs.Uses.{Names, outer, all_of, names_step, expression_names}
use Rattle.vg_whole.specs.declared.worth.Worth.{Worth}
use Rattle.vg_whole.specs.Whole.{Inner, inner_of, or_else, binary_whole, operator_places, has_type, Constants, Judges, Judged, places_of_all, judged_step, judged}

abbrev pub texts_of : Inner Worth → List Text
texts_of inner = map (λ (x : Text × Worth). x.0) inner

-- two ways to value names agree on these
abbrev pub Agree : Constants → Constants → List Text → Type 0
Agree a b names = (text : Text) → is_among text names ≡ true → a text ≡ b text

agree_left : (a b : Constants) (xs ys : List Text) → Agree a b (xs ++ ys) → Agree a b xs
agree_left a b xs ys same text e = same text (among_left text xs ys e)

agree_right : (a b : Constants) (xs ys : List Text) → Agree a b (xs ++ ys) → Agree a b ys
agree_right a b xs ys same text e = same text (among_right text xs ys e)

ap2 : {X : Type 0} (f : Judged → Judged → X) (x y z w : Judged) → x ≡ y → z ≡ w → f x z ≡ f y w
ap2 f x y z w e h = ap (λ (j : Judged). f j z) e ∙ ap (f y) h

ap3 : {X : Type 0} (f : Judged → Judged → Judged → X) (x y z w u v : Judged) → x ≡ y → z ≡ w → u ≡ v → f x z u ≡ f y w v
ap3 f x y z w u v e h i = ap (λ (j : Judged). f j z u) e ∙ ap2 (f y) z w u v h i

abbrev let_of : Name → Judged → Judged → Judged
let_of name bound body = record { worth = body.worth; places = bound.places ++ body.places }

module _ (a b : Constants) where
  -- they judge an expression alike, where they agree on its names
  abbrev Alike : Expr → Type 0
  Alike e = (inner : Inner Worth) → Agree a b (expression_names e (texts_of inner)) → judged a e inner ≡ judged b e inner

  abbrev Known : Type 0
  Known = (e : Expr) × Alike e

  -- through one layer
  through : (x : Expr-F Expr) (ja jb : Judged) (inner : Inner Worth) → judged a (roll-Expr x) inner ≡ ja → judged b (roll-Expr x) inner ≡ jb → ja ≡ jb → judged a (roll-Expr x) inner ≡ judged b (roll-Expr x) inner
  through x ja jb inner ea eb e = ea ∙ e ∙ sym eb

  hidden_or_same : (name : Name) (inner : Inner Worth) → Agree a b (outer name (texts_of inner)) → or_else (inner_of inner name.text) (a name.text) ≡ or_else (inner_of inner name.text) (b name.text)
  hidden_or_same name inner same = by inner (λ e. same name.text e)
    where
      own : (text : Text) → is_among text (text ∷ []) ≡ true
      own text = among_first text []

      by : (inner : Inner Worth) → (is_among name.text (if is_among name.text (texts_of inner) then [] else name.text ∷ []) ≡ true → a name.text ≡ b name.text) → or_else (inner_of inner name.text) (a name.text) ≡ or_else (inner_of inner name.text) (b name.text)
      by [] h = h (own name.text)
      by (x ∷ inner) h = case (bytes_eq x.0 name.text) (by inner) h
        where
          case : (t : Bool) → ((is_among name.text (if is_among name.text (texts_of inner) then [] else name.text ∷ []) ≡ true → a name.text ≡ b name.text) → or_else (inner_of inner name.text) (a name.text) ≡ or_else (inner_of inner name.text) (b name.text))
              → (is_among name.text (if (if t then true else is_among name.text (texts_of inner)) then [] else name.text ∷ []) ≡ true → a name.text ≡ b name.text)
              → or_else (if t then Some x.1 else inner_of inner name.text) (a name.text) ≡ or_else (if t then Some x.1 else inner_of inner name.text) (b name.text)
          case true again g = refl
          case false again g = again g

  all_alike : (known : List Known) (inner : Inner Worth) → Agree a b (all_of (map expression_names (map (λ (k : Known). k.0) known)) (texts_of inner))
      → places_of_all (map (judged a) (map (λ (k : Known). k.0) known)) inner ≡ places_of_all (map (judged b) (map (λ (k : Known). k.0) known)) inner
  all_alike [] inner same = refl
  all_alike (k ∷ known) inner same =
      let here = k.1 inner (agree_left a b (expression_names k.0 (texts_of inner)) (all_of (map expression_names (map (λ (k : Known). k.0) known)) (texts_of inner)) same) in
      let rest = all_alike known inner (agree_right a b (expression_names k.0 (texts_of inner)) (all_of (map expression_names (map (λ (k : Known). k.0) known)) (texts_of inner)) same) in
      ap (λ (j : Judged). j.places ++ places_of_all (map (judged a) (map (λ (k : Known). k.0) known)) inner) here
      ∙ ap (λ (l : List ℕ). (judged b k.0 inner).places ++ l) rest

  layer : (y : Expr-F Known) → Alike (roll-Expr (map-Expr Known Expr (λ (k : Known). k.0) y))
  layer (Expr-F.Number value at) inner same =
      let names : expression_names (roll-Expr (Expr-F.Number value at)) (texts_of inner) ≡ [] = ap (λ (n : Names). n (texts_of inner)) (fold-roll-Expr Names names_step (Expr-F.Number value at)) in
      let kept : Agree a b ([]) = subst (Agree a b) names same in
      ap (λ (j : Judges). j inner) (fold-roll-Expr Judges (judged_step a) (Expr-F.Number value at))
      ∙ refl
      ∙ sym (ap (λ (j : Judges). j inner) (fold-roll-Expr Judges (judged_step b) (Expr-F.Number value at)))
  layer (Expr-F.Name name) inner same =
      let names : expression_names (roll-Expr (Expr-F.Name name)) (texts_of inner) ≡ outer name (texts_of inner) = ap (λ (n : Names). n (texts_of inner)) (fold-roll-Expr Names names_step (Expr-F.Name name)) in
      let kept : Agree a b (outer name (texts_of inner)) = subst (Agree a b) names same in
      ap (λ (j : Judges). j inner) (fold-roll-Expr Judges (judged_step a) (Expr-F.Name name))
      ∙ ap (λ (w : Worth). record { worth = w; places = [] }) (hidden_or_same name inner kept)
      ∙ sym (ap (λ (j : Judges). j inner) (fold-roll-Expr Judges (judged_step b) (Expr-F.Name name)))
  layer (Expr-F.Call name arguments) inner same =
      let names : expression_names (roll-Expr (Expr-F.Call name (map (λ (k : Known). k.0) arguments))) (texts_of inner) ≡ outer name (texts_of inner) ++ (all_of (map expression_names (map (λ (k : Known). k.0) arguments)) (texts_of inner)) = ap (λ (n : Names). n (texts_of inner)) (fold-roll-Expr Names names_step (Expr-F.Call name (map (λ (k : Known). k.0) arguments))) in
      let kept : Agree a b (outer name (texts_of inner) ++ (all_of (map expression_names (map (λ (k : Known). k.0) arguments)) (texts_of inner))) = subst (Agree a b) names same in
      ap (λ (j : Judges). j inner) (fold-roll-Expr Judges (judged_step a) (Expr-F.Call name (map (λ (k : Known). k.0) arguments)))
      ∙ ap has_type (all_alike arguments inner (agree_right a b (outer name (texts_of inner)) (all_of (map expression_names (map (λ (k : Known). k.0) arguments)) (texts_of inner)) kept))
      ∙ sym (ap (λ (j : Judges). j inner) (fold-roll-Expr Judges (judged_step b) (Expr-F.Call name (map (λ (k : Known). k.0) arguments))))
  layer (Expr-F.Access memory at size address) inner same =
      let names : expression_names (roll-Expr (Expr-F.Access memory at size.0 address.0)) (texts_of inner) ≡ (outer memory (texts_of inner) ++ (expression_names size.0 (texts_of inner))) ++ (expression_names address.0 (texts_of inner)) = ap (λ (n : Names). n (texts_of inner)) (fold-roll-Expr Names names_step (Expr-F.Access memory at size.0 address.0)) in
      let kept : Agree a b ((outer memory (texts_of inner) ++ (expression_names size.0 (texts_of inner))) ++ (expression_names address.0 (texts_of inner))) = subst (Agree a b) names same in
      ap (λ (j : Judges). j inner) (fold-roll-Expr Judges (judged_step a) (Expr-F.Access memory at size.0 address.0))
      ∙ ap2 (λ (x y : Judged). has_type (x.places ++ y.places)) (judged a size.0 inner) (judged b size.0 inner) (judged a address.0 inner) (judged b address.0 inner)
      (size.1 inner (agree_right a b (outer memory (texts_of inner)) (expression_names size.0 (texts_of inner)) (agree_left a b (outer memory (texts_of inner) ++ (expression_names size.0 (texts_of inner))) (expression_names address.0 (texts_of inner)) kept)))
      (address.1 inner (agree_right a b (outer memory (texts_of inner) ++ (expression_names size.0 (texts_of inner))) (expression_names address.0 (texts_of inner)) kept))
      ∙ sym (ap (λ (j : Judges). j inner) (fold-roll-Expr Judges (judged_step b) (Expr-F.Access memory at size.0 address.0)))
  layer (Expr-F.Join at high low) inner same =
      let names : expression_names (roll-Expr (Expr-F.Join at high.0 low.0)) (texts_of inner) ≡ (expression_names high.0 (texts_of inner)) ++ (expression_names low.0 (texts_of inner)) = ap (λ (n : Names). n (texts_of inner)) (fold-roll-Expr Names names_step (Expr-F.Join at high.0 low.0)) in
      let kept : Agree a b ((expression_names high.0 (texts_of inner)) ++ (expression_names low.0 (texts_of inner))) = subst (Agree a b) names same in
      ap (λ (j : Judges). j inner) (fold-roll-Expr Judges (judged_step a) (Expr-F.Join at high.0 low.0))
      ∙ ap2 (λ (x y : Judged). has_type (x.places ++ y.places)) (judged a high.0 inner) (judged b high.0 inner) (judged a low.0 inner) (judged b low.0 inner)
      (high.1 inner (agree_left a b (expression_names high.0 (texts_of inner)) (expression_names low.0 (texts_of inner)) kept))
      (low.1 inner (agree_right a b (expression_names high.0 (texts_of inner)) (expression_names low.0 (texts_of inner)) kept))
      ∙ sym (ap (λ (j : Judges). j inner) (fold-roll-Expr Judges (judged_step b) (Expr-F.Join at high.0 low.0)))
  layer (Expr-F.Parentheses at body) inner same =
      let names : expression_names (roll-Expr (Expr-F.Parentheses at body.0)) (texts_of inner) ≡ expression_names body.0 (texts_of inner) = ap (λ (n : Names). n (texts_of inner)) (fold-roll-Expr Names names_step (Expr-F.Parentheses at body.0)) in
      let kept : Agree a b (expression_names body.0 (texts_of inner)) = subst (Agree a b) names same in
      ap (λ (j : Judges). j inner) (fold-roll-Expr Judges (judged_step a) (Expr-F.Parentheses at body.0))
      ∙ body.1 inner kept
      ∙ sym (ap (λ (j : Judges). j inner) (fold-roll-Expr Judges (judged_step b) (Expr-F.Parentheses at body.0)))
  layer (Expr-F.Unary op at operand) inner same =
      let names : expression_names (roll-Expr (Expr-F.Unary op at operand.0)) (texts_of inner) ≡ expression_names operand.0 (texts_of inner) = ap (λ (n : Names). n (texts_of inner)) (fold-roll-Expr Names names_step (Expr-F.Unary op at operand.0)) in
      let kept : Agree a b (expression_names operand.0 (texts_of inner)) = subst (Agree a b) names same in
      ap (λ (j : Judges). j inner) (fold-roll-Expr Judges (judged_step a) (Expr-F.Unary op at operand.0))
      ∙ ap (λ (x : Judged). has_type x.places) (operand.1 inner kept)
      ∙ sym (ap (λ (j : Judges). j inner) (fold-roll-Expr Judges (judged_step b) (Expr-F.Unary op at operand.0)))
  layer (Expr-F.Binary op at left right) inner same =
      let names : expression_names (roll-Expr (Expr-F.Binary op at left.0 right.0)) (texts_of inner) ≡ (expression_names left.0 (texts_of inner)) ++ (expression_names right.0 (texts_of inner)) = ap (λ (n : Names). n (texts_of inner)) (fold-roll-Expr Names names_step (Expr-F.Binary op at left.0 right.0)) in
      let kept : Agree a b ((expression_names left.0 (texts_of inner)) ++ (expression_names right.0 (texts_of inner))) = subst (Agree a b) names same in
      ap (λ (j : Judges). j inner) (fold-roll-Expr Judges (judged_step a) (Expr-F.Binary op at left.0 right.0))
      ∙ ap2 (λ (x y : Judged). record { worth = binary_whole op x.worth y.worth; places = x.places ++ operator_places op at x.worth y.worth ++ y.places }) (judged a left.0 inner) (judged b left.0 inner) (judged a right.0 inner) (judged b right.0 inner)
      (left.1 inner (agree_left a b (expression_names left.0 (texts_of inner)) (expression_names right.0 (texts_of inner)) kept))
      (right.1 inner (agree_right a b (expression_names left.0 (texts_of inner)) (expression_names right.0 (texts_of inner)) kept))
      ∙ sym (ap (λ (j : Judges). j inner) (fold-roll-Expr Judges (judged_step b) (Expr-F.Binary op at left.0 right.0)))
  layer (Expr-F.Cast operand at (types.Sized kind start width)) inner same =
      let names : expression_names (roll-Expr (Expr-F.Cast operand.0 at (types.Sized kind start width.0))) (texts_of inner) ≡ (expression_names operand.0 (texts_of inner)) ++ (expression_names width.0 (texts_of inner)) = ap (λ (n : Names). n (texts_of inner)) (fold-roll-Expr Names names_step (Expr-F.Cast operand.0 at (types.Sized kind start width.0))) in
      let kept : Agree a b ((expression_names operand.0 (texts_of inner)) ++ (expression_names width.0 (texts_of inner))) = subst (Agree a b) names same in
      ap (λ (j : Judges). j inner) (fold-roll-Expr Judges (judged_step a) (Expr-F.Cast operand.0 at (types.Sized kind start width.0)))
      ∙ ap2 (λ (x y : Judged). has_type (x.places ++ y.places)) (judged a operand.0 inner) (judged b operand.0 inner) (judged a width.0 inner) (judged b width.0 inner)
      (operand.1 inner (agree_left a b (expression_names operand.0 (texts_of inner)) (expression_names width.0 (texts_of inner)) kept))
      (width.1 inner (agree_right a b (expression_names operand.0 (texts_of inner)) (expression_names width.0 (texts_of inner)) kept))
      ∙ sym (ap (λ (j : Judges). j inner) (fold-roll-Expr Judges (judged_step b) (Expr-F.Cast operand.0 at (types.Sized kind start width.0))))
  layer (Expr-F.Cast operand at (types.Bool start)) inner same =
      let names : expression_names (roll-Expr (Expr-F.Cast operand.0 at (types.Bool start))) (texts_of inner) ≡ (expression_names operand.0 (texts_of inner)) ++ [] = ap (λ (n : Names). n (texts_of inner)) (fold-roll-Expr Names names_step (Expr-F.Cast operand.0 at (types.Bool start))) in
      let kept : Agree a b ((expression_names operand.0 (texts_of inner)) ++ []) = subst (Agree a b) names same in
      ap (λ (j : Judges). j inner) (fold-roll-Expr Judges (judged_step a) (Expr-F.Cast operand.0 at (types.Bool start)))
      ∙ ap (λ (x : Judged). has_type (x.places ++ [])) (operand.1 inner (agree_left a b (expression_names operand.0 (texts_of inner)) [] kept))
      ∙ sym (ap (λ (j : Judges). j inner) (fold-roll-Expr Judges (judged_step b) (Expr-F.Cast operand.0 at (types.Bool start))))
  layer (Expr-F.Cast operand at (types.Alias name)) inner same =
      let names : expression_names (roll-Expr (Expr-F.Cast operand.0 at (types.Alias name))) (texts_of inner) ≡ (expression_names operand.0 (texts_of inner)) ++ outer name (texts_of inner) = ap (λ (n : Names). n (texts_of inner)) (fold-roll-Expr Names names_step (Expr-F.Cast operand.0 at (types.Alias name))) in
      let kept : Agree a b ((expression_names operand.0 (texts_of inner)) ++ outer name (texts_of inner)) = subst (Agree a b) names same in
      ap (λ (j : Judges). j inner) (fold-roll-Expr Judges (judged_step a) (Expr-F.Cast operand.0 at (types.Alias name)))
      ∙ ap (λ (x : Judged). has_type (x.places ++ [])) (operand.1 inner (agree_left a b (expression_names operand.0 (texts_of inner)) (outer name (texts_of inner)) kept))
      ∙ sym (ap (λ (j : Judges). j inner) (fold-roll-Expr Judges (judged_step b) (Expr-F.Cast operand.0 at (types.Alias name))))
  layer (Expr-F.Slice operand at high low) inner same =
      let names : expression_names (roll-Expr (Expr-F.Slice operand.0 at high.0 low.0)) (texts_of inner) ≡ ((expression_names operand.0 (texts_of inner)) ++ (expression_names high.0 (texts_of inner))) ++ (expression_names low.0 (texts_of inner)) = ap (λ (n : Names). n (texts_of inner)) (fold-roll-Expr Names names_step (Expr-F.Slice operand.0 at high.0 low.0)) in
      let kept : Agree a b (((expression_names operand.0 (texts_of inner)) ++ (expression_names high.0 (texts_of inner))) ++ (expression_names low.0 (texts_of inner))) = subst (Agree a b) names same in
      ap (λ (j : Judges). j inner) (fold-roll-Expr Judges (judged_step a) (Expr-F.Slice operand.0 at high.0 low.0))
      ∙ ap3 (λ (x y z : Judged). has_type ((x.places ++ y.places) ++ z.places)) (judged a operand.0 inner) (judged b operand.0 inner) (judged a high.0 inner) (judged b high.0 inner) (judged a low.0 inner) (judged b low.0 inner)
      (operand.1 inner (agree_left a b (expression_names operand.0 (texts_of inner)) (expression_names high.0 (texts_of inner)) (agree_left a b ((expression_names operand.0 (texts_of inner)) ++ (expression_names high.0 (texts_of inner))) (expression_names low.0 (texts_of inner)) kept)))
      (high.1 inner (agree_right a b (expression_names operand.0 (texts_of inner)) (expression_names high.0 (texts_of inner)) (agree_left a b ((expression_names operand.0 (texts_of inner)) ++ (expression_names high.0 (texts_of inner))) (expression_names low.0 (texts_of inner)) kept)))
      (low.1 inner (agree_right a b ((expression_names operand.0 (texts_of inner)) ++ (expression_names high.0 (texts_of inner))) (expression_names low.0 (texts_of inner)) kept))
      ∙ sym (ap (λ (j : Judges). j inner) (fold-roll-Expr Judges (judged_step b) (Expr-F.Slice operand.0 at high.0 low.0)))
  layer (Expr-F.If at condition one other) inner same =
      let names : expression_names (roll-Expr (Expr-F.If at condition.0 one.0 other.0)) (texts_of inner) ≡ ((expression_names condition.0 (texts_of inner)) ++ (expression_names one.0 (texts_of inner))) ++ (expression_names other.0 (texts_of inner)) = ap (λ (n : Names). n (texts_of inner)) (fold-roll-Expr Names names_step (Expr-F.If at condition.0 one.0 other.0)) in
      let kept : Agree a b (((expression_names condition.0 (texts_of inner)) ++ (expression_names one.0 (texts_of inner))) ++ (expression_names other.0 (texts_of inner))) = subst (Agree a b) names same in
      ap (λ (j : Judges). j inner) (fold-roll-Expr Judges (judged_step a) (Expr-F.If at condition.0 one.0 other.0))
      ∙ ap3 (λ (x y z : Judged). has_type ((x.places ++ y.places) ++ z.places)) (judged a condition.0 inner) (judged b condition.0 inner) (judged a one.0 inner) (judged b one.0 inner) (judged a other.0 inner) (judged b other.0 inner)
      (condition.1 inner (agree_left a b (expression_names condition.0 (texts_of inner)) (expression_names one.0 (texts_of inner)) (agree_left a b ((expression_names condition.0 (texts_of inner)) ++ (expression_names one.0 (texts_of inner))) (expression_names other.0 (texts_of inner)) kept)))
      (one.1 inner (agree_right a b (expression_names condition.0 (texts_of inner)) (expression_names one.0 (texts_of inner)) (agree_left a b ((expression_names condition.0 (texts_of inner)) ++ (expression_names one.0 (texts_of inner))) (expression_names other.0 (texts_of inner)) kept)))
      (other.1 inner (agree_right a b ((expression_names condition.0 (texts_of inner)) ++ (expression_names one.0 (texts_of inner))) (expression_names other.0 (texts_of inner)) kept))
      ∙ sym (ap (λ (j : Judges). j inner) (fold-roll-Expr Judges (judged_step b) (Expr-F.If at condition.0 one.0 other.0)))
  layer (Expr-F.Let at name bound body) inner same =
      let names : expression_names (roll-Expr (Expr-F.Let at name bound.0 body.0)) (texts_of inner) ≡ (expression_names bound.0 (texts_of inner)) ++ (expression_names body.0 (name.text ∷ texts_of inner)) = ap (λ (n : Names). n (texts_of inner)) (fold-roll-Expr Names names_step (Expr-F.Let at name bound.0 body.0)) in
      let kept : Agree a b ((expression_names bound.0 (texts_of inner)) ++ (expression_names body.0 (name.text ∷ texts_of inner))) = subst (Agree a b) names same in
      let same_bound : judged a bound.0 inner ≡ judged b bound.0 inner = bound.1 inner (agree_left a b (expression_names bound.0 (texts_of inner)) (expression_names body.0 (name.text ∷ texts_of inner)) kept) in
      ap (λ (j : Judges). j inner) (fold-roll-Expr Judges (judged_step a) (Expr-F.Let at name bound.0 body.0))
      ∙ ap (λ (x : Judged). let_of name x (judged a body.0 ((name.text, x.worth) ∷ inner))) same_bound
      ∙ ap (λ (x : Judged). let_of name (judged b bound.0 inner) x) (body.1 ((name.text, (judged b bound.0 inner).worth) ∷ inner) (agree_right a b (expression_names bound.0 (texts_of inner)) (expression_names body.0 (name.text ∷ texts_of inner)) kept))
      ∙ sym (ap (λ (j : Judges). j inner) (fold-roll-Expr Judges (judged_step b) (Expr-F.Let at name bound.0 body.0)))

  pub alike : (e : Expr) → Alike e
  alike = ind-Expr Alike (λ x y is. subst (λ (z : Expr-F Expr). Alike (roll-Expr z)) is (layer y))

-- an expression is worth the same to two that agree on its names of items
pub judged_alike : (a b : Constants) (e : Expr) → Agree a b (expression_names e []) → judged a e [] ≡ judged b e []
judged_alike a b e same = alike a b e [] same
