-- What a statement of each kind is with everything in place.
use Rattle.std.proofs.Common.{◌≡◌, ℕ, ◌+◌, ◌<◌, ◌≤◌, List, map, [], ◌∷◌, Option, Some, None, length, get_or, drop, refl, sym, ap, ◌∙◌}
use Rattle.std.proofs.lemmas.List.{drop_more, drop_all}
use Rattle.vg_ast.specs.declared.name.Name.{Name}
use Rattle.vg_ast.specs.declared.expr.Expr.{Expr}
use Rattle.vg_ast.specs.declared.goal.Goal.{Goal}
use Rattle.vg_ast.specs.declared.statement.Statement.{Statement, fold-roll-Statement, map-Statement, roll-Statement}
use Rattle.vg_ast.specs.declared.statement.Statement.TheOpen.{Statement-F}
use Rattle.vg_ast.specs.declared.statement.Statement.TheVariants as trees
use Rattle.vg_ast.specs.declared.statement.Statement.TheVariants.{rolls-Block, rolls-Let, rolls-If, rolls-Assign}
use Rattle.vg_ast.specs.declared.item.Item.{Item}
use Rattle.vg_ast.specs.Start.{start_of}
use Rattle.vg_whole.specs.Whole.{Inner}
use Rattle.vg_inline.specs.declared.value.Value.{Value}
use Rattle.vg_inline.specs.declared.kept.KeptEffect.{KeptEffect}
use Rattle.vg_inline.specs.declared.kept.KeptEffects.{KeptEffects}
use Rattle.vg_inline.specs.Inline.{Known, inlined}
use Rattle.vg_inline.specs.Behaviour.{Stating, Effects, target_of, target_parts, effect_step, effect_of}
use Rattle.vg_inline.specs.declared.keep.Keep.{Keep}
use Rattle.vg_inline.specs.Kept.{added_effect, gathered_effects}

module _ (X Y : Type 0) (s : Stating X Y) (all : List Item) (known : Known X) (inner : Inner (Value X)) where
  abbrev E : Statement → Inner (Value X) → Y
  E x given = effect_of s all known x given

  put : (y : Statement-F Statement) → E (roll-Statement y) inner ≡ effect_step s all known (map-Statement Statement (Effects X Y) E y) inner
  put y = ap (λ (f : Effects X Y). f inner) (fold-roll-Statement (Effects X Y) (effect_step s all known) y)

  each : (body : List Statement) → map (λ (f : Effects X Y). f inner) (map E body) ≡ map (λ (x : Statement). E x inner) body
  each [] = refl
  each (x ∷ body) = ap (λ (l : List Y). E x inner ∷ l) (each body)

  pub state-Block : (at : ℕ) (body : List Statement) → E (trees.Block at body) inner ≡ s.block (map (λ (x : Statement). E x inner) body)
  state-Block at body = ap (λ (x : Statement). E x inner) (sym (rolls-Block at body)) ∙ put (Statement-F.Block at body) ∙ ap s.block (each body)

  pub state-Let : (at : ℕ) (name : Name) (bound : Expr) (body : Statement) → E (trees.Let at name bound body) inner ≡ E body ((name.text, inlined s.making all known bound inner) ∷ inner)
  state-Let at name bound body = ap (λ (x : Statement). E x inner) (sym (rolls-Let at name bound body)) ∙ put (Statement-F.Let at name bound body)

  pub state-If_alone : (at : ℕ) (condition : Expr) (body : Statement) → E (trees.If at condition body None) inner ≡ s.choice (start_of condition) (inlined s.making all known condition inner).tree (E body inner) None
  state-If_alone at condition body = ap (λ (x : Statement). E x inner) (sym (rolls-If at condition body None)) ∙ put (Statement-F.If at condition body None)

  pub state-If_else : (at : ℕ) (condition : Expr) (body other : Statement) → E (trees.If at condition body (Some other)) inner ≡ s.choice (start_of condition) (inlined s.making all known condition inner).tree (E body inner) (Some (E other inner))
  state-If_else at condition body other = ap (λ (x : Statement). E x inner) (sym (rolls-If at condition body (Some other))) ∙ put (Statement-F.If at condition body (Some other))

  pub state-Assign : (goal : Goal) (assigned : Expr) → E (trees.Assign goal assigned) inner ≡ s.assign (target_of s.making all known goal inner) (target_parts s.making all known goal inner) (start_of assigned) (inlined s.making all known assigned inner).tree
  state-Assign goal assigned = ap (λ (x : Statement). E x inner) (sym (rolls-Assign goal assigned)) ∙ put (Statement-F.Assign goal assigned)

  pub block_stated : (e : Statement) (at : ℕ) (body read : List Statement) → e ≡ trees.Block at body → read ≡ body → s.block (map (λ (x : Statement). E x inner) read) ≡ E e inner
  block_stated e at body read is same = ap (λ (l : List Statement). s.block (map (λ (x : Statement). E x inner) l)) same ∙ sym (state-Block at body) ∙ ap (λ (x : Statement). E x inner) (sym is)

pub ruleset state_steps = (state-Block, state-Let, state-If_alone, state-If_else, state-Assign)

-- what is gathered so far, and the rest behind it
abbrev pub Gathering : {A : Type 0} → Keep → (A → Option KeptEffect) → List A → ℕ → Option KeptEffects → Option KeptEffects → Type 0
Gathering keep f xs i first list = gathered_effects keep first (map f xs) ≡ gathered_effects keep list (map f (drop i xs))

pub gathering_more : {A : Type 0} (keep : Keep) (f : A → Option KeptEffect) (xs : List A) (i : ℕ) (x : A) (first list next : Option KeptEffects) (t : Option KeptEffect) → Gathering keep f xs i first list → i < length xs → x ≡ get_or xs i x → t ≡ f x → next ≡ added_effect keep list t → Gathering keep f xs (i + 1) first next
gathering_more keep f xs i x first list next t h lt read e g =
    h ∙ ap (λ (l : List _). gathered_effects keep list (map f l)) (drop_more xs i x lt)
    ∙ ap (λ (y : _). gathered_effects keep (added_effect keep list (f y)) (map f (drop (i + 1) xs))) (sym read)
    ∙ ap (λ (u : Option KeptEffect). gathered_effects keep (added_effect keep list u) (map f (drop (i + 1) xs))) (sym e)
    ∙ ap (λ (l : Option KeptEffects). gathered_effects keep l (map f (drop (i + 1) xs))) (sym g)

pub gathering_all : {A : Type 0} (keep : Keep) (f : A → Option KeptEffect) (xs : List A) (i : ℕ) (first list : Option KeptEffects) → Gathering keep f xs i first list → length xs ≤ i → list ≡ gathered_effects keep first (map f xs)
gathering_all keep f xs i first list h le = sym (h ∙ ap (λ (l : List _). gathered_effects keep list (map f l)) (drop_all i xs le))
