-- Where some trees are lacking, what is kept over them is what is kept over them all, or nothing is.
use Rattle.std.proofs.Common.{◌≡◌, ℕ, ◌+◌, ◌≤◌, inl, inr, nat_le, Bool, true, false, List, map, [], ◌∷◌, ◌++◌, Option, Some, None, refl, sym, ap, subst, ◌∙◌, arith, if◌then◌else◌}
use Rattle.std.specs.Prelude.{slice_get}
use Rattle.std.specs.Option.{option_map}
use Rattle.std.proofs.lemmas.Bool.{leb-true}
use Rattle.std.proofs.lemmas.Option.{slice_get-map}
use Rattle.vg_inline.specs.declared.head.Head.{Head}
use Rattle.vg_inline.specs.declared.tree.Tree.{Tree, roll-Tree, ind-Tree}
use Rattle.vg_inline.specs.declared.tree.Tree.TheOpen.{Tree-F}
use Rattle.vg_inline.specs.declared.effect.Target.{Target}
use Rattle.vg_inline.specs.declared.keep.Keep.{Keep}
use Rattle.vg_inline.specs.declared.kept.Kept.{Kept}
use Rattle.vg_inline.specs.declared.kept.KeptList.{KeptList}
use Rattle.vg_inline.specs.declared.kept.KeptEffect.{KeptEffect}
use Rattle.vg_inline.specs.declared.kept.KeptEffects.{KeptEffects}
use Rattle.vg_inline.specs.Instantiate.{node, missing, parameter_of}
use Rattle.vg_inline.specs.Inline.{Making}
use Rattle.vg_inline.specs.Behaviour.{Stating}
use Rattle.vg_inline.specs.Kept.{no_trees, added, gathered, node_over, kept_node, kept_argument, filled, filling, argument_nodes, argument_parameters, nodes_of, parameters_in, kept_body, kept_call, keeping_as, no_effects, added_effect, gathered_effects, block_over, kept_block, kept_choice, assign_over, kept_assign, stating_as}
use Rattle.vg_inline.specs.Scheduled.{IsKeptOf}
use Rattle.vg_inline.proofs.TreeLemmas.{filling-node, same_parameter}
use Rattle.vg_inline.proofs.Picture.{IsPicture}
use Rattle.vg_inline.proofs.StatePicture.{IsStatePicture}

-- what is kept, and what would be if nothing were lacking
pub record Pair (X : Type 0) : Type 0 where
  pub less : Option X
  pub more : Option X
  pub below : IsKeptOf less more

abbrev pub less_of : {X : Type 0} → Pair X → Option X
less_of p = p.less

abbrev pub more_of : {X : Type 0} → Pair X → Option X
more_of p = p.more

pub alike : {X : Type 0} {a b c d : Option X} → a ≡ c → b ≡ d → IsKeptOf c d → IsKeptOf a b
alike left right below = elim below [
  | inl none ↦ inl (left ∙ none)
  | inr same ↦ inr (left ∙ same ∙ sym right)
]

module _ (keep : Keep) where
  -- ---- nodes

  nothing_gathered : (ts : List (Option Kept)) → gathered keep None ts ≡ None
  nothing_gathered [] = refl
  nothing_gathered (t ∷ ts) = nothing_gathered ts

  nothing_added : (list : Option KeptList) → added keep list None ≡ None
  nothing_added None = refl
  nothing_added (Some list) = refl

  gathers : (list : Option KeptList) (ps : List (Pair Kept)) → IsKeptOf (gathered keep list (map less_of ps)) (gathered keep list (map more_of ps))
  gathers list [] = inr refl
  gathers list (p ∷ ps) = elim p.below [
    | inl none ↦ inl (ap (λ (t : Option Kept). gathered keep (added keep list t) (map less_of ps)) none ∙ ap (λ (l : Option KeptList). gathered keep l (map less_of ps)) (nothing_added list) ∙ nothing_gathered (map less_of ps))
    | inr same ↦ subst (λ (t : Option Kept). IsKeptOf (gathered keep (added keep list p.less) (map less_of ps)) (gathered keep (added keep list t) (map more_of ps))) same (gathers (added keep list p.less) ps)
  ]

  pub nodes : (h : Head) (ps : List (Pair Kept)) → IsKeptOf (kept_node keep h (map less_of ps)) (kept_node keep h (map more_of ps))
  nodes h ps = elim (gathers no_trees ps) [
    | inl none ↦ inl (ap (node_over keep h) none)
    | inr same ↦ inr (ap (node_over keep h) same)
  ]

  -- ---- bodies with arguments in them

  module _ (arguments : List (Pair Kept)) where
    abbrev Less : List (Option Kept)
    Less = map less_of arguments

    abbrev More : List (Option Kept)
    More = map more_of arguments

    abbrev Fills : Tree → Type 0
    Fills t = IsKeptOf (filling keep Less t) (filling keep More t)

    abbrev Filled : Type 0
    Filled = (t : Tree) × Fills t

    abbrev plain : Filled → Tree
    plain k = k.0

    abbrev pair_of : Filled → Pair Kept
    pair_of k = record { less = filling keep Less k.0; more = filling keep More k.0; below = k.1 }

    lesses : (fine : List Filled) → map less_of (map pair_of fine) ≡ map (filling keep Less) (map plain fine)
    lesses [] = refl
    lesses (k ∷ fine) = ap (λ (l : List (Option Kept)). filling keep Less k.0 ∷ l) (lesses fine)

    mores : (fine : List Filled) → map more_of (map pair_of fine) ≡ map (filling keep More) (map plain fine)
    mores [] = refl
    mores (k ∷ fine) = ap (λ (l : List (Option Kept)). filling keep More k.0 ∷ l) (mores fine)

    argument : (p : ℕ) → IsKeptOf (kept_argument keep (slice_get Less p)) (kept_argument keep (slice_get More p))
    argument p = by (slice_get arguments p) (slice_get-map less_of arguments p) (slice_get-map more_of arguments p)
      where
        by : (o : Option (Pair Kept)) → slice_get Less p ≡ option_map less_of o → slice_get More p ≡ option_map more_of o → IsKeptOf (kept_argument keep (slice_get Less p)) (kept_argument keep (slice_get More p))
        by None l m = inr (ap (kept_argument keep) l ∙ sym (ap (kept_argument keep) m))
        by (Some q) l m = alike (ap (kept_argument keep) l) (ap (kept_argument keep) m) q.below

    fill : (h : Head) (fine : List Filled) → Fills (node h (map plain fine))
    fill h fine = by (parameter_of h (map plain fine)) refl
      where
        at : (given : List (Option Kept)) (o : Option ℕ) → parameter_of h (map plain fine) ≡ o → filling keep given (node h (map plain fine)) ≡ filled keep given o h (map (filling keep given) (map plain fine))
        at given o e =
            filling-node keep given h (map plain fine)
            ∙ ap (λ (q : Option ℕ). filled keep given q h (map (filling keep given) (map plain fine))) (same_parameter h (filling keep given) (map plain fine) ∙ e)

        by : (o : Option ℕ) → parameter_of h (map plain fine) ≡ o → Fills (node h (map plain fine))
        by None e = alike (at Less None e ∙ ap (kept_node keep h) (sym (lesses fine))) (at More None e ∙ ap (kept_node keep h) (sym (mores fine))) (nodes h (map pair_of fine))
        by (Some p) e = alike (at Less (Some p) e) (at More (Some p) e) (argument p)

    fills : (t : Tree) → Fills t
    fills = ind-Tree Fills (λ x y is. subst (λ (z : Tree-F Tree). Fills (roll-Tree z)) is (fill y.head y.parts))

    -- an argument that counts isn't lacking
    same_argument : (p : ℕ) → argument_nodes keep (slice_get Less p) ≤ keep.most → slice_get Less p ≡ slice_get More p
    same_argument p le = by (slice_get arguments p) (slice_get-map less_of arguments p) (slice_get-map more_of arguments p)
      where
        by : (o : Option (Pair Kept)) → slice_get Less p ≡ option_map less_of o → slice_get More p ≡ option_map more_of o → slice_get Less p ≡ slice_get More p
        by None l m = l ∙ sym m
        by (Some q) l m = elim q.below [
          | inl none ↦ absurd (let e = ap (argument_nodes keep) (l ∙ ap (λ (t : Option Kept). Some t) none) in omega arith)
          | inr same ↦ l ∙ ap (λ (t : Option Kept). Some t) same ∙ sym m
        ]

    same_sum : (ps : List ℕ) → nodes_of keep Less ps ≤ keep.most → (nodes_of keep Less ps ≡ nodes_of keep More ps) × (parameters_in Less ps ≡ parameters_in More ps)
    same_sum [] le = (refl, refl)
    same_sum (p ∷ ps) le =
        let here = same_argument p (omega arith) in
        let more = same_sum ps (omega arith) in (
          ap (λ (n : ℕ). n + nodes_of keep Less ps) (ap (argument_nodes keep) here) ∙ ap (λ (n : ℕ). argument_nodes keep (slice_get More p) + n) more.0,
          ap (λ (l : List ℕ). l ++ parameters_in Less ps) (ap argument_parameters here) ∙ ap (λ (l : List ℕ). argument_parameters (slice_get More p) ++ l) more.1,
        )

    bodies : (body : Kept) (n : ℕ) → parameters_in Less body.parameters ≡ parameters_in More body.parameters → IsKeptOf (kept_body keep Less body n) (kept_body keep More body n)
    bodies body n e = by keep.trees
      where
        counted : List ℕ → Option Kept
        counted ps = Some (record { tree = missing; nodes = n; parameters = ps })

        by : (b : Bool) → IsKeptOf (if b then filling keep Less body.tree else counted (parameters_in Less body.parameters)) (if b then filling keep More body.tree else counted (parameters_in More body.parameters))
        by true = fills body.tree
        by false = inr (ap counted e)

    one_body : (body : Option Kept) → IsKeptOf (kept_call keep Less body) (kept_call keep More body)
    one_body None = inr refl
    one_body (Some body) = by (nat_le (body.nodes + nodes_of keep Less body.parameters) keep.most) refl
      where
        by : (b : Bool) → nat_le (body.nodes + nodes_of keep Less body.parameters) keep.most ≡ b → IsKeptOf (kept_call keep Less (Some body)) (kept_call keep More (Some body))
        by false e = inl (ap (λ (b : Bool). if b then kept_body keep Less body (body.nodes + nodes_of keep Less body.parameters) else None) e)
        by true e =
            let n = body.nodes + nodes_of keep Less body.parameters in
            let le : n ≤ keep.most = leb-true n keep.most e in
            let same = same_sum body.parameters (omega arith) in
            let total : n ≡ body.nodes + nodes_of keep More body.parameters = ap (λ (k : ℕ). body.nodes + k) same.0 in
            alike (ap (λ (b : Bool). if b then kept_body keep Less body n else None) e)
            (ap (λ (k : ℕ). if nat_le k keep.most then kept_body keep More body k else None) (sym total) ∙ ap (λ (b : Bool). if b then kept_body keep More body n else None) e)
            (bodies body n same.1)

    pub calls : (body : Pair Kept) → IsKeptOf (kept_call keep Less body.less) (kept_call keep More body.more)
    calls body = elim body.below [
      | inl none ↦ inl (ap (kept_call keep Less) none)
      | inr same ↦ subst (λ (b : Option Kept). IsKeptOf (kept_call keep Less body.less) (kept_call keep More b)) same (one_body body.less)
    ]

  -- both at once
  abbrev pub pairs : Making (Pair Kept)
  pairs = record {
    node = λ h ps. record { less = kept_node keep h (map less_of ps); more = kept_node keep h (map more_of ps); below = nodes h ps };
    instantiate = λ arguments body. record { less = kept_call keep (map less_of arguments) body.less; more = kept_call keep (map more_of arguments) body.more; below = calls arguments body };
  }

  pub less_picture : IsPicture (Pair Kept) (Option Kept) pairs (keeping_as keep) less_of
  less_picture = record { nodes = λ h ps. refl; calls = λ arguments body. refl }

  pub more_picture : IsPicture (Pair Kept) (Option Kept) pairs (keeping_as keep) more_of
  more_picture = record { nodes = λ h ps. refl; calls = λ arguments body. refl }

  -- ---- statements

  no_effects_gathered : (xs : List (Option KeptEffect)) → gathered_effects keep None xs ≡ None
  no_effects_gathered [] = refl
  no_effects_gathered (x ∷ xs) = no_effects_gathered xs

  no_effect_added : (list : Option KeptEffects) → added_effect keep list None ≡ None
  no_effect_added None = refl
  no_effect_added (Some list) = refl

  gathers_effects : (list : Option KeptEffects) (ps : List (Pair KeptEffect)) → IsKeptOf (gathered_effects keep list (map less_of ps)) (gathered_effects keep list (map more_of ps))
  gathers_effects list [] = inr refl
  gathers_effects list (p ∷ ps) = elim p.below [
    | inl none ↦ inl (ap (λ (t : Option KeptEffect). gathered_effects keep (added_effect keep list t) (map less_of ps)) none ∙ ap (λ (l : Option KeptEffects). gathered_effects keep l (map less_of ps)) (no_effect_added list) ∙ no_effects_gathered (map less_of ps))
    | inr same ↦ subst (λ (t : Option KeptEffect). IsKeptOf (gathered_effects keep (added_effect keep list p.less) (map less_of ps)) (gathered_effects keep (added_effect keep list t) (map more_of ps))) same (gathers_effects (added_effect keep list p.less) ps)
  ]

  pub blocks : (ps : List (Pair KeptEffect)) → IsKeptOf (kept_block keep (map less_of ps)) (kept_block keep (map more_of ps))
  blocks ps = elim (gathers_effects no_effects ps) [
    | inl none ↦ inl (ap (block_over keep) none)
    | inr same ↦ inr (ap (block_over keep) same)
  ]

  no_condition : (at : ℕ) (body : Option KeptEffect) (other : Option (Option KeptEffect)) → kept_choice keep at None body other ≡ None
  no_condition at body None = refl
  no_condition at body (Some other) = refl

  no_body : (at : ℕ) (condition : Option Kept) (other : Option (Option KeptEffect)) → kept_choice keep at condition None other ≡ None
  no_body at None None = refl
  no_body at (Some condition) None = refl
  no_body at None (Some other) = refl
  no_body at (Some condition) (Some other) = refl

  no_other : (at : ℕ) (condition : Option Kept) (body : Option KeptEffect) → kept_choice keep at condition body (Some None) ≡ None
  no_other at None body = refl
  no_other at (Some condition) None = refl
  no_other at (Some condition) (Some body) = refl

  others : (at : ℕ) (condition : Option Kept) (body : Option KeptEffect) (other : Option (Pair KeptEffect)) → IsKeptOf (kept_choice keep at condition body (option_map less_of other)) (kept_choice keep at condition body (option_map more_of other))
  others at condition body None = inr refl
  others at condition body (Some other) = elim other.below [
    | inl none ↦ inl (ap (λ (x : Option KeptEffect). kept_choice keep at condition body (Some x)) none ∙ no_other at condition body)
    | inr same ↦ inr (ap (λ (x : Option KeptEffect). kept_choice keep at condition body (Some x)) same)
  ]

  pub choices : (at : ℕ) (condition : Pair Kept) (body : Pair KeptEffect) (other : Option (Pair KeptEffect)) → IsKeptOf (kept_choice keep at condition.less body.less (option_map less_of other)) (kept_choice keep at condition.more body.more (option_map more_of other))
  choices at condition body other = elim condition.below [
    | inl none ↦ inl (ap (λ (x : Option Kept). kept_choice keep at x body.less (option_map less_of other)) none ∙ no_condition at body.less (option_map less_of other))
    | inr one ↦ elim body.below [
      | inl none ↦ inl (ap (λ (x : Option KeptEffect). kept_choice keep at condition.less x (option_map less_of other)) none ∙ no_body at condition.less (option_map less_of other))
      | inr two ↦ subst (λ (x : Option Kept). IsKeptOf (kept_choice keep at condition.less body.less (option_map less_of other)) (kept_choice keep at x body.more (option_map more_of other))) one
          (subst (λ (x : Option KeptEffect). IsKeptOf (kept_choice keep at condition.less body.less (option_map less_of other)) (kept_choice keep at condition.less x (option_map more_of other))) two
          (others at condition.less body.less other))
    ]
  ]

  no_value : (target : Target) (parts : Option KeptList) (at : ℕ) → assign_over keep target parts at None ≡ None
  no_value target None at = refl
  no_value target (Some parts) at = refl

  pub assigns : (target : Target) (ps : List (Pair Kept)) (at : ℕ) (value : Pair Kept) → IsKeptOf (kept_assign keep target (map less_of ps) at value.less) (kept_assign keep target (map more_of ps) at value.more)
  assigns target ps at value = elim (gathers no_trees ps) [
    | inl none ↦ inl (ap (λ (l : Option KeptList). assign_over keep target l at value.less) none)
    | inr one ↦ elim value.below [
      | inl none ↦ inl (ap (assign_over keep target (gathered keep no_trees (map less_of ps)) at) none ∙ no_value target (gathered keep no_trees (map less_of ps)) at)
      | inr two ↦ inr (ap (λ (l : Option KeptList). assign_over keep target l at value.less) one ∙ ap (assign_over keep target (gathered keep no_trees (map more_of ps)) at) two)
    ]
  ]

  abbrev pub stated_pairs : Stating (Pair Kept) (Pair KeptEffect)
  stated_pairs = record {
    making = pairs;
    block = λ ps. record { less = kept_block keep (map less_of ps); more = kept_block keep (map more_of ps); below = blocks ps };
    choice = λ at condition body other. record {
      less = kept_choice keep at condition.less body.less (option_map less_of other);
      more = kept_choice keep at condition.more body.more (option_map more_of other);
      below = choices at condition body other;
    };
    assign = λ target ps at value. record {
      less = kept_assign keep target (map less_of ps) at value.less;
      more = kept_assign keep target (map more_of ps) at value.more;
      below = assigns target ps at value;
    };
  }

  pub less_states : IsStatePicture (Pair Kept) (Option Kept) (Pair KeptEffect) (Option KeptEffect) stated_pairs (stating_as keep) less_of less_of
  less_states = record { making = less_picture; blocks = λ ps. refl; choices = λ at condition body other. refl; assigns = λ target ps at value. refl }

  pub more_states : IsStatePicture (Pair Kept) (Option Kept) (Pair KeptEffect) (Option KeptEffect) stated_pairs (stating_as keep) more_of more_of
  more_states = record { making = more_picture; blocks = λ ps. refl; choices = λ at condition body other. refl; assigns = λ target ps at value. refl }
