-- What two ways to make statements have in common.
use Rattle.std.proofs.Common.{◌≡◌, ℕ, List, map, [], ◌∷◌, Option, Some, None, refl, sym, ap, subst, ◌∙◌}
use Rattle.std.specs.Option.{option_map}
use Rattle.vg_ast.specs.declared.name.Name.{Name}
use Rattle.vg_ast.specs.declared.expr.Expr.{Expr}
use Rattle.vg_ast.specs.declared.goal.Goal.{Goal}
use Rattle.vg_ast.specs.declared.goal.Goal.TheVariants as goals
use Rattle.vg_ast.specs.declared.statement.Statement.{Statement, map-Statement, roll-Statement, ind-Statement}
use Rattle.vg_ast.specs.declared.statement.Statement.TheOpen.{Statement-F}
use Rattle.vg_ast.specs.declared.statement.Statement.TheVariants.{rolls-Block, rolls-Let, rolls-If, rolls-Assign}
use Rattle.vg_ast.specs.declared.item.Item.{Item}
use Rattle.vg_ast.specs.Start.{start_of}
use Rattle.vg_names.specs.Definition.{item_named, fields_of_format}
use Rattle.vg_whole.specs.Whole.{Inner}
use Rattle.vg_inline.specs.declared.effect.Target.{Target}
use Rattle.vg_inline.specs.declared.effect.Target.TheVariants as targets
use Rattle.vg_inline.specs.declared.value.Value.{Value}
use Rattle.vg_inline.specs.Inline.{Known, inlined, field_values}
use Rattle.vg_inline.specs.Behaviour.{Stating, target_of, target_parts, effect_of}
use Rattle.vg_inline.proofs.Picture.{IsPicture, pictured, pictures, pictured_known, pictured_expression, fields}
use Rattle.vg_inline.proofs.StateLemmas.{state-Block, state-Let, state-If_alone, state-If_else, state-Assign}

pub record IsStatePicture (X Y Z W : Type 0) (s : Stating X Z) (t : Stating Y W) (h : X → Y) (g : Z → W) : Type 0 where
  pub making : IsPicture X Y s.making t.making h
  pub blocks : (body : List Z) → g (s.block body) ≡ t.block (map g body)
  pub choices : (at : ℕ) (condition : X) (body : Z) (other : Option Z) → g (s.choice at condition body other) ≡ t.choice at (h condition) (g body) (option_map g other)
  pub assigns : (target : Target) (parts : List X) (at : ℕ) (value : X) → g (s.assign target parts at value) ≡ t.assign target (map h parts) at (h value)

module _ (X Y Z W : Type 0) (s : Stating X Z) (t : Stating Y W) (h : X → Y) (g : Z → W) (is : IsStatePicture X Y Z W s t h g) (all : List Item) (known : Known X) where
  abbrev there : Known Y
  there = pictured_known X Y s.making t.making h is.making known

  abbrev P : Inner (Value X) → Inner (Value Y)
  P inner = pictures X Y s.making t.making h is.making inner

  expression : (e : Expr) (inner : Inner (Value X)) → inlined t.making all there e (P inner) ≡ pictured X Y s.making t.making h is.making (inlined s.making all known e inner)
  expression e inner = pictured_expression X Y s.making t.making h is.making all known e inner

  tree : (e : Expr) (inner : Inner (Value X)) → (inlined t.making all there e (P inner)).tree ≡ h (inlined s.making all known e inner).tree
  tree e inner = ap (λ (v : Value Y). v.tree) (expression e inner)

  target : (goal : Goal) (inner : Inner (Value X)) → target_of t.making all there goal (P inner) ≡ target_of s.making all known goal inner
  target (goals.Name name) inner = refl
  target (goals.Indexed name index) inner = refl
  target (goals.Access memory at width address) inner = ap (λ (v : Value Y). targets.Access memory.at v.worth (start_of address)) (expression width inner)

  parts : (goal : Goal) (inner : Inner (Value X)) → target_parts t.making all there goal (P inner) ≡ map h (target_parts s.making all known goal inner)
  parts (goals.Name name) inner = refl
  parts (goals.Indexed name index) inner = ap (λ (x : Y). x ∷ []) (tree index inner)
  parts (goals.Access memory at width address) inner = ap (λ (x : Y). x ∷ []) (tree address inner)

  abbrev E : Statement → Inner (Value X) → Z
  E x inner = effect_of s all known x inner

  abbrev F : Statement → Inner (Value Y) → W
  F x inner = effect_of t all there x inner

  abbrev pub Pictured : Statement → Type 0
  Pictured x = (inner : Inner (Value X)) → F x (P inner) ≡ g (E x inner)

  abbrev Fine : Type 0
  Fine = (x : Statement) × Pictured x

  abbrev plain : Fine → Statement
  plain k = k.0

  each : (fine : List Fine) (inner : Inner (Value X)) → map (λ (x : Statement). F x (P inner)) (map plain fine) ≡ map g (map (λ (x : Statement). E x inner) (map plain fine))
  each [] inner = refl
  each (k ∷ fine) inner = ap (λ (w : W). w ∷ map (λ (x : Statement). F x (P inner)) (map plain fine)) (k.1 inner) ∙ ap (λ (l : List W). g (E k.0 inner) ∷ l) (each fine inner)

  layer : (y : Statement-F Fine) → Pictured (roll-Statement (map-Statement Fine Statement plain y))
  layer (Statement-F.Block at body) =
      subst Pictured (sym (rolls-Block at (map plain body)))
      (λ inner. state-Block Y W t all there (P inner) at (map plain body) ∙ ap t.block (each body inner) ∙ sym (is.blocks (map (λ (x : Statement). E x inner) (map plain body)))
      ∙ ap g (sym (state-Block X Z s all known inner at (map plain body))))
  layer (Statement-F.Let at name bound body) =
      subst Pictured (sym (rolls-Let at name bound body.0))
      (λ inner. state-Let Y W t all there (P inner) at name bound body.0
      ∙ ap (λ (v : Value Y). F body.0 ((name.text, v) ∷ P inner)) (expression bound inner)
      ∙ body.1 ((name.text, inlined s.making all known bound inner) ∷ inner)
      ∙ ap g (sym (state-Let X Z s all known inner at name bound body.0)))
  layer (Statement-F.If at condition body None) =
      subst Pictured (sym (rolls-If at condition body.0 None))
      (λ inner. state-If_alone Y W t all there (P inner) at condition body.0
      ∙ ap (λ (x : Y). t.choice (start_of condition) x (F body.0 (P inner)) None) (tree condition inner)
      ∙ ap (λ (w : W). t.choice (start_of condition) (h (inlined s.making all known condition inner).tree) w None) (body.1 inner)
      ∙ sym (is.choices (start_of condition) (inlined s.making all known condition inner).tree (E body.0 inner) None)
      ∙ ap g (sym (state-If_alone X Z s all known inner at condition body.0)))
  layer (Statement-F.If at condition body (Some other)) =
      subst Pictured (sym (rolls-If at condition body.0 (Some other.0)))
      (λ inner. state-If_else Y W t all there (P inner) at condition body.0 other.0
      ∙ ap (λ (x : Y). t.choice (start_of condition) x (F body.0 (P inner)) (Some (F other.0 (P inner)))) (tree condition inner)
      ∙ ap (λ (w : W). t.choice (start_of condition) (h (inlined s.making all known condition inner).tree) w (Some (F other.0 (P inner)))) (body.1 inner)
      ∙ ap (λ (w : W). t.choice (start_of condition) (h (inlined s.making all known condition inner).tree) (g (E body.0 inner)) (Some w)) (other.1 inner)
      ∙ sym (is.choices (start_of condition) (inlined s.making all known condition inner).tree (E body.0 inner) (Some (E other.0 inner)))
      ∙ ap g (sym (state-If_else X Z s all known inner at condition body.0 other.0)))
  layer (Statement-F.Assign goal assigned) =
      subst Pictured (sym (rolls-Assign goal assigned))
      (λ inner. state-Assign Y W t all there (P inner) goal assigned
      ∙ ap (λ (x : Target). t.assign x (target_parts t.making all there goal (P inner)) (start_of assigned) (inlined t.making all there assigned (P inner)).tree) (target goal inner)
      ∙ ap (λ (l : List Y). t.assign (target_of s.making all known goal inner) l (start_of assigned) (inlined t.making all there assigned (P inner)).tree) (parts goal inner)
      ∙ ap (λ (x : Y). t.assign (target_of s.making all known goal inner) (map h (target_parts s.making all known goal inner)) (start_of assigned) x) (tree assigned inner)
      ∙ sym (is.assigns (target_of s.making all known goal inner) (target_parts s.making all known goal inner) (start_of assigned) (inlined s.making all known assigned inner).tree)
      ∙ ap g (sym (state-Assign X Z s all known inner goal assigned)))

  pub pictured_statement : (x : Statement) → Pictured x
  pictured_statement = ind-Statement Pictured (λ x y is. subst (λ (z : Statement-F Statement). Pictured (roll-Statement z)) is (layer y))

  -- what an instruction does
  pub pictured_instruction : (format : Name) (behaviour : Statement) → F behaviour (field_values t.making 0 (fields_of_format (item_named all format.text))) ≡ g (E behaviour (field_values s.making 0 (fields_of_format (item_named all format.text))))
  pictured_instruction format behaviour =
      ap (F behaviour) (fields X Y s.making t.making h is.making 0 (fields_of_format (item_named all format.text)))
      ∙ pictured_statement behaviour (field_values s.making 0 (fields_of_format (item_named all format.text)))
