-- What is kept of a tree is put together from what is kept of its parts.
use Rattle.std.proofs.Common.{◌≡◌, ℕ, suc, ◌+◌, ◌<◌, ◌≤◌, nat_le, Bool, true, false, List, map, [], ◌∷◌, ◌++◌, Option, Some, None, inl, inr, sym, ap, subst, ◌∙◌, refl, arith, if◌then◌else◌}
use Rattle.std.specs.Prelude.{slice_get}
use Rattle.std.specs.Option.{option_map, option_to_list}
use Rattle.std.proofs.lemmas.Bool.{cases_lt, le-leb, lt-leb}
use Rattle.std.proofs.lemmas.Option.{slice_get-map}
use Rattle.vg_inline.specs.declared.head.Head.{Head}
use Rattle.vg_inline.specs.declared.tree.Tree.{Tree, roll-Tree, ind-Tree}
use Rattle.vg_inline.specs.declared.tree.Tree.TheOpen.{Tree-F}
use Rattle.vg_inline.specs.declared.keep.Keep.{Keep}
use Rattle.vg_inline.specs.declared.kept.Kept.{Kept}
use Rattle.vg_inline.specs.declared.kept.KeptList.{KeptList}
use Rattle.vg_inline.specs.Size.{sum_of, head_nodes, size}
use Rattle.vg_inline.specs.declared.head.Head.TheVariants as heads
use Rattle.vg_inline.specs.Instantiate.{node, argument_or, leaf_parameter, parameter_of, instantiated, instantiate, missing}
use Rattle.vg_inline.specs.Inline.{trees}
use Rattle.vg_inline.specs.Kept.{joined_lists, parameters, shown, kept, within, no_trees, added, gathered, node_over, kept_node, kept_argument, filled, filling, kept_nodes, argument_nodes, argument_parameters, nodes_of, parameters_in, kept_body, kept_call, keeping_as}
use Rattle.vg_inline.proofs.TreeLemmas.{size-node, parameters-node, instantiate-node, filling-node, same_parameter}
use Rattle.vg_inline.proofs.Loops.{ending, regroup}
use Rattle.vg_inline.proofs.Picture.{IsPicture}

-- ---- lists of trees

pub same_list : (ts : List Tree) → map (λ (t : Tree). t) ts ≡ ts
same_list [] = refl
same_list (t ∷ ts) = ap (λ (l : List Tree). t ∷ l) (same_list ts)

-- what is shown of a node over what is shown of its parts is what is shown of the node
shown-node : (keep : Keep) (h : Head) (ts : List Tree) → shown keep (node h (map (shown keep) ts)) ≡ shown keep (node h ts)
shown-node keep h ts = by keep.trees
  where
    by : (b : Bool) → (if b then node h (map (λ (t : Tree). if b then t else missing) ts) else missing) ≡ (if b then node h ts else missing)
    by true = ap (node h) (same_list ts)
    by false = refl

joined_append : (xs : List ℕ) (ys : List ℕ) (zs : List ℕ) → (xs ++ ys) ++ zs ≡ xs ++ (ys ++ zs)
joined_append [] ys zs = refl
joined_append (x ∷ xs) ys zs = ap (λ (l : List ℕ). x ∷ l) (joined_append xs ys zs)

module _ (keep : Keep) where
  abbrev kept_as : Tree → ℕ → List ℕ → Kept
  kept_as t n ps = record { tree = shown keep t; nodes = n; parameters = ps }

  abbrev list_as : List Tree → ℕ → List ℕ → KeptList
  list_as ts n ps = record { trees = map (shown keep) ts; nodes = n; parameters = ps }

  pub few : (n : ℕ) (ps : List ℕ) (t : Tree) → n ≤ keep.most → kept keep n ps t ≡ Some (kept_as t n ps)
  few n ps t le = ap (λ (b : Bool). if b then Some (kept_as t n ps) else None) (le-leb n keep.most le)

  pub many : (n : ℕ) (ps : List ℕ) (t : Tree) → keep.most < n → kept keep n ps t ≡ None
  many n ps t lt = ap (λ (b : Bool). if b then Some (kept_as t n ps) else None) (lt-leb n keep.most lt)

  nothing_gathered : (ts : List (Option Kept)) → gathered keep None ts ≡ None
  nothing_gathered [] = refl
  nothing_gathered (t ∷ ts) = nothing_gathered ts

  map_more : (xs : List Tree) (y : Tree) → map (shown keep) (xs ++ y ∷ []) ≡ map (shown keep) xs ++ shown keep y ∷ []
  map_more [] y = refl
  map_more (x ∷ xs) y = ap (λ (l : List Tree). shown keep x ∷ l) (map_more xs y)

  add_few : (front : List Tree) (n : ℕ) (ps : List ℕ) (t : Tree) → n + size t ≤ keep.most → added keep (Some (list_as front n ps)) (within keep t) ≡ Some (list_as (front ++ t ∷ []) (n + size t) (ps ++ parameters t))
  add_few front n ps t le =
      ap (added keep (Some (list_as front n ps))) (few (size t) (parameters t) t (omega arith))
      ∙ ap (λ (b : Bool). if b then Some (record { trees = map (shown keep) front ++ shown keep t ∷ []; nodes = n + size t; parameters = ps ++ parameters t }) else None) (le-leb (n + size t) keep.most le)
      ∙ ap (λ (l : List Tree). let k : Option KeptList = Some (record { trees = l; nodes = n + size t; parameters = ps ++ parameters t }) in k) (sym (map_more front t))

  add_many : (front : List Tree) (n : ℕ) (ps : List ℕ) (t : Tree) → keep.most < n + size t → added keep (Some (list_as front n ps)) (within keep t) ≡ None
  add_many front n ps t lt = elim (cases_lt (size t) (suc keep.most)) [
    | inl less ↦ ap (added keep (Some (list_as front n ps))) (few (size t) (parameters t) t (omega arith))
        ∙ ap (λ (b : Bool). if b then Some (record { trees = map (shown keep) front ++ shown keep t ∷ []; nodes = n + size t; parameters = ps ++ parameters t }) else None) (lt-leb (n + size t) keep.most lt)
    | inr ge ↦ ap (added keep (Some (list_as front n ps))) (many (size t) (parameters t) t (omega arith))
  ]

  gather_few : (ts front : List Tree) (n : ℕ) (ps : List ℕ) → n + sum_of (map size ts) ≤ keep.most
      → gathered keep (Some (list_as front n ps)) (map (within keep) ts) ≡ Some (list_as (front ++ ts) (n + sum_of (map size ts)) (ps ++ joined_lists (map parameters ts)))
  gather_few [] front n ps le =
      let e : n ≡ n + 0 = omega arith in
      ap (λ (l : List Tree). Some (list_as l n ps)) (sym (ending front)) ∙ ap (λ (k : ℕ). Some (list_as (front ++ []) k ps)) e
      ∙ ap (λ (l : List ℕ). Some (list_as (front ++ []) (n + 0) l)) (sym (ending ps))
  gather_few (t ∷ ts) front n ps le =
      let more : (n + size t) + sum_of (map size ts) ≤ keep.most = omega arith in
      let e : (n + size t) + sum_of (map size ts) ≡ n + (size t + sum_of (map size ts)) = omega arith in
      ap (λ (l : Option KeptList). gathered keep l (map (within keep) ts)) (add_few front n ps t (omega arith))
      ∙ gather_few ts (front ++ t ∷ []) (n + size t) (ps ++ parameters t) more
      ∙ ap (λ (l : List Tree). Some (list_as l ((n + size t) + sum_of (map size ts)) ((ps ++ parameters t) ++ joined_lists (map parameters ts)))) (sym (regroup front t ts))
      ∙ ap (λ (k : ℕ). Some (list_as (front ++ t ∷ ts) k ((ps ++ parameters t) ++ joined_lists (map parameters ts)))) e
      ∙ ap (λ (l : List ℕ). Some (list_as (front ++ t ∷ ts) (n + (size t + sum_of (map size ts))) l)) (joined_append ps (parameters t) (joined_lists (map parameters ts)))

  gather_many : (ts front : List Tree) (n : ℕ) (ps : List ℕ) → n ≤ keep.most → keep.most < n + sum_of (map size ts) → gathered keep (Some (list_as front n ps)) (map (within keep) ts) ≡ None
  gather_many [] front n ps le lt = absurd (omega arith)
  gather_many (t ∷ ts) front n ps le lt = elim (cases_lt (n + size t) (suc keep.most)) [
    | inl less ↦ (let more : keep.most < (n + size t) + sum_of (map size ts) = omega arith in
        ap (λ (l : Option KeptList). gathered keep l (map (within keep) ts)) (add_few front n ps t (omega arith)) ∙ gather_many ts (front ++ t ∷ []) (n + size t) (ps ++ parameters t) (omega arith) more)
    | inr ge ↦ ap (λ (l : Option KeptList). gathered keep l (map (within keep) ts)) (add_many front n ps t (omega arith)) ∙ nothing_gathered (map (within keep) ts)
  ]

  pub gathers_few : (ts : List Tree) → sum_of (map size ts) ≤ keep.most → gathered keep no_trees (map (within keep) ts) ≡ Some (list_as ts (sum_of (map size ts)) (joined_lists (map parameters ts)))
  gathers_few ts le =
      let zero_more : 0 + sum_of (map size ts) ≡ sum_of (map size ts) = omega arith in
      gather_few ts [] 0 [] (omega arith) ∙ ap (λ (k : ℕ). Some (list_as ts k (joined_lists (map parameters ts)))) zero_more

  pub gathers_many : (ts : List Tree) → keep.most < sum_of (map size ts) → gathered keep no_trees (map (within keep) ts) ≡ None
  gathers_many ts lt = gather_many ts [] 0 [] (omega arith) (omega arith)

  -- a node that doesn't have too many nodes, over parts that don't
  node_few : (h : Head) (ts : List Tree) → sum_of (map size ts) ≤ keep.most → within keep (node h ts) ≡ kept_node keep h (map (within keep) ts)
  node_few h ts le =
      let n = head_nodes h + sum_of (map size ts) in
      let ps = joined_lists (map parameters ts) in
      ap (λ (n : ℕ). kept keep n (parameters (node h ts)) (node h ts)) (size-node h ts)
      ∙ ap (λ (l : List ℕ). kept keep n l (node h ts)) (parameters-node h ts ∙ ap (λ (o : Option ℕ). ps ++ option_to_list o) (same_parameter h parameters ts ∙ sym (same_parameter h (shown keep) ts)))
      ∙ ap (λ (t : Tree). let k : Option Kept = if nat_le n keep.most then Some (record { tree = t; nodes = n; parameters = ps ++ option_to_list (parameter_of h (map (shown keep) ts)) }) else None in k) (sym (shown-node keep h ts))
      ∙ ap (node_over keep h) (sym (gathers_few ts le))

  pub within-node : (h : Head) (ts : List Tree) → within keep (node h ts) ≡ kept_node keep h (map (within keep) ts)
  within-node h ts = elim (cases_lt (sum_of (map size ts)) (suc keep.most)) [
    | inl less ↦ node_few h ts (omega arith)
    | inr ge ↦ ap (λ (n : ℕ). kept keep n (parameters (node h ts)) (node h ts)) (size-node h ts)
        ∙ many (head_nodes h + sum_of (map size ts)) (parameters (node h ts)) (node h ts) (omega arith) ∙ ap (node_over keep h) (sym (gathers_many ts (omega arith)))
  ]

  kept_argument_of : (o : Option Tree) → within keep (argument_or o) ≡ kept_argument keep (option_map (within keep) o)
  kept_argument_of None = within-node heads.Missing []
  kept_argument_of (Some t) = refl

-- ---- bodies with arguments in them

module _ (arguments : List Tree) where
  -- the nodes of the arguments in place of these parameters, and the parameters in them
  abbrev nodes_for : List ℕ → ℕ
  nodes_for [] = 0
  nodes_for (p ∷ ps) = size (argument_or (slice_get arguments p)) + nodes_for ps

  abbrev parameters_for : List ℕ → List ℕ
  parameters_for [] = []
  parameters_for (p ∷ ps) = parameters (argument_or (slice_get arguments p)) ++ parameters_for ps

  nodes_append : (xs ys : List ℕ) → nodes_for (xs ++ ys) ≡ nodes_for xs + nodes_for ys
  nodes_append [] ys = omega arith
  nodes_append (x ∷ xs) ys = let e = nodes_append xs ys in omega arith

  parameters_append : (xs ys : List ℕ) → parameters_for (xs ++ ys) ≡ parameters_for xs ++ parameters_for ys
  parameters_append [] ys = refl
  parameters_append (x ∷ xs) ys =
      ap (λ (l : List ℕ). parameters (argument_or (slice_get arguments x)) ++ l) (parameters_append xs ys)
      ∙ sym (joined_append (parameters (argument_or (slice_get arguments x))) (parameters_for xs) (parameters_for ys))

  -- how many nodes a body with arguments in it has, and which parameters
  pub record Counted (t : Tree) : Type 0 where
    pub nodes : size (instantiate arguments t) ≡ size t + nodes_for (parameters t)
    pub inner : parameters (instantiate arguments t) ≡ parameters_for (parameters t)

  abbrev Fine : Type 0
  Fine = (t : Tree) × Counted t

  abbrev plain : Fine → Tree
  plain k = k.0

  all_nodes : (fine : List Fine) → sum_of (map size (map (instantiate arguments) (map plain fine))) ≡ sum_of (map size (map plain fine)) + nodes_for (joined_lists (map parameters (map plain fine)))
  all_nodes [] = refl
  all_nodes (k ∷ fine) =
      let here = k.1.nodes in
      let more = all_nodes fine in
      let e = nodes_append (parameters k.0) (joined_lists (map parameters (map plain fine))) in
      omega arith

  all_inner : (fine : List Fine) → joined_lists (map parameters (map (instantiate arguments) (map plain fine))) ≡ parameters_for (joined_lists (map parameters (map plain fine)))
  all_inner [] = refl
  all_inner (k ∷ fine) =
      ap (λ (l : List ℕ). l ++ joined_lists (map parameters (map (instantiate arguments) (map plain fine)))) k.1.inner
      ∙ ap (λ (l : List ℕ). parameters_for (parameters k.0) ++ l) (all_inner fine)
      ∙ sym (parameters_append (parameters k.0) (joined_lists (map parameters (map plain fine))))

  no_nodes : (h : Head) (p : ℕ) → leaf_parameter h ≡ Some p → head_nodes h ≡ 0
  no_nodes (heads.Parameter q) p e = refl
  no_nodes _ p e = absurd (cc)

  -- a parameter
  count_parameter : (h : Head) (p : ℕ) → leaf_parameter h ≡ Some p → Counted (node h [])
  count_parameter h p e =
      let i = instantiate-node arguments h [] ∙ ap (λ (q : Option ℕ). instantiated arguments q h []) e in
      let own = parameters-node h [] ∙ ap (λ (q : Option ℕ). option_to_list q) e in
      let s = size-node h [] in
      let z = no_nodes h p e in
      let n : nodes_for (p ∷ []) ≡ size (argument_or (slice_get arguments p)) = omega arith in
      record {
        nodes = ap size i ∙ sym n ∙ (let none : size (node h []) ≡ 0 = omega arith in let again : nodes_for (p ∷ []) ≡ size (node h []) + nodes_for (p ∷ []) = omega arith in again)
            ∙ ap (λ (l : List ℕ). size (node h []) + nodes_for l) (sym own);
        inner = ap parameters i ∙ sym (ending (parameters (argument_or (slice_get arguments p)))) ∙ ap parameters_for (sym own);
      }

  -- any other node
  count_node : (h : Head) (fine : List Fine) → parameter_of h (map plain fine) ≡ None → Counted (node h (map plain fine))
  count_node h fine e =
      let ts = map plain fine in
      let i = instantiate-node arguments h ts ∙ ap (λ (q : Option ℕ). instantiated arguments q h (map (instantiate arguments) ts)) (same_parameter h (instantiate arguments) ts ∙ e) in
      let own = parameters-node h ts ∙ ap (λ (q : Option ℕ). joined_lists (map parameters ts) ++ option_to_list q) (same_parameter h parameters ts ∙ e) ∙ ending (joined_lists (map parameters ts)) in
      let own_made = parameters-node h (map (instantiate arguments) ts)
      ∙ ap (λ (q : Option ℕ). joined_lists (map parameters (map (instantiate arguments) ts)) ++ option_to_list q) (same_parameter h parameters (map (instantiate arguments) ts) ∙ same_parameter h (instantiate arguments) ts ∙ e)
      ∙ ending (joined_lists (map parameters (map (instantiate arguments) ts))) in
      record {
        nodes = (let a = ap size i ∙ size-node h (map (instantiate arguments) ts) in let b = size-node h ts in let c = all_nodes fine in let d = ap nodes_for own in omega arith);
        inner = ap parameters i ∙ own_made ∙ all_inner fine ∙ ap parameters_for (sym own);
      }

  count : (h : Head) (fine : List Fine) → Counted (node h (map plain fine))
  count h [] = by (leaf_parameter h) refl
    where
      by : (o : Option ℕ) → leaf_parameter h ≡ o → Counted (node h [])
      by None e = count_node h [] e
      by (Some p) e = count_parameter h p e
  count h (k ∷ fine) = count_node h (k ∷ fine) refl

  pub counted : (t : Tree) → Counted t
  counted = ind-Tree Counted (λ x y is. subst (λ (z : Tree-F Tree). Counted (roll-Tree z)) is (count y.head y.parts))

-- a body with arguments in it, as it is kept
module _ (keep : Keep) (arguments : List Tree) where
  abbrev Ms : List (Option Kept)
  Ms = map (within keep) arguments

  abbrev Fills : Tree → Type 0
  Fills t = within keep (instantiate arguments t) ≡ filling keep Ms t

  abbrev Filled : Type 0
  Filled = (t : Tree) × Fills t

  abbrev just : Filled → Tree
  just k = k.0

  all_same : (fine : List Filled) → map (within keep) (map (instantiate arguments) (map just fine)) ≡ map (filling keep Ms) (map just fine)
  all_same [] = refl
  all_same (k ∷ fine) = ap (λ (m : Option Kept). m ∷ map (within keep) (map (instantiate arguments) (map just fine))) k.1 ∙ ap (λ (l : List (Option Kept)). filling keep Ms k.0 ∷ l) (all_same fine)

  fill_parameter : (h : Head) (p : ℕ) → leaf_parameter h ≡ Some p → Fills (node h [])
  fill_parameter h p e =
      ap (within keep) (instantiate-node arguments h []) ∙ ap (λ (q : Option ℕ). within keep (instantiated arguments q h [])) e
      ∙ kept_argument_of keep (slice_get arguments p) ∙ ap (kept_argument keep) (sym (slice_get-map (within keep) arguments p))
      ∙ sym (filling-node keep Ms h [] ∙ ap (λ (q : Option ℕ). filled keep Ms q h []) e)

  fill_node : (h : Head) (fine : List Filled) → parameter_of h (map just fine) ≡ None → Fills (node h (map just fine))
  fill_node h fine e =
      let ts = map just fine in
      let i = instantiate-node arguments h ts ∙ ap (λ (q : Option ℕ). instantiated arguments q h (map (instantiate arguments) ts)) (same_parameter h (instantiate arguments) ts ∙ e) in
      let f = filling-node keep Ms h ts ∙ ap (λ (q : Option ℕ). filled keep Ms q h (map (filling keep Ms) ts)) (same_parameter h (filling keep Ms) ts ∙ e) in
      ap (within keep) i ∙ within-node keep h (map (instantiate arguments) ts) ∙ ap (kept_node keep h) (all_same fine) ∙ sym f

  fill : (h : Head) (fine : List Filled) → Fills (node h (map just fine))
  fill h [] = by (leaf_parameter h) refl
    where
      by : (o : Option ℕ) → leaf_parameter h ≡ o → Fills (node h [])
      by None e = fill_node h [] e
      by (Some p) e = fill_parameter h p e
  fill h (k ∷ fine) = fill_node h (k ∷ fine) refl

  fills : (t : Tree) → Fills t
  fills = ind-Tree Fills (λ x y is. subst (λ (z : Tree-F Tree). Fills (roll-Tree z)) is (fill y.head y.parts))

  -- an argument counts as many nodes as it has, or too many where it has too many
  argument_few : (p : ℕ) → size (argument_or (slice_get arguments p)) ≤ keep.most
      → (argument_nodes keep (slice_get Ms p) ≡ size (argument_or (slice_get arguments p))) × (argument_parameters (slice_get Ms p) ≡ parameters (argument_or (slice_get arguments p)))
  argument_few p le = by (slice_get arguments p) le (slice_get-map (within keep) arguments p)
    where
      by : (o : Option Tree) → size (argument_or o) ≤ keep.most → slice_get Ms p ≡ option_map (within keep) o
          → (argument_nodes keep (slice_get Ms p) ≡ size (argument_or o)) × (argument_parameters (slice_get Ms p) ≡ parameters (argument_or o))
      by None le e = (ap (argument_nodes keep) e ∙ sym (size-node heads.Missing []), ap argument_parameters e ∙ sym (parameters-node heads.Missing []))
      by (Some t) le e = (
        ap (argument_nodes keep) e ∙ ap (kept_nodes keep) (few keep (size t) (parameters t) t le),
        ap argument_parameters e ∙ ap (λ (o : Option Kept). argument_parameters (Some o)) (few keep (size t) (parameters t) t le),
      )

  argument_many : (p : ℕ) → keep.most < size (argument_or (slice_get arguments p)) → argument_nodes keep (slice_get Ms p) ≡ suc keep.most
  argument_many p lt = by (slice_get arguments p) lt (slice_get-map (within keep) arguments p)
    where
      by : (o : Option Tree) → keep.most < size (argument_or o) → slice_get Ms p ≡ option_map (within keep) o → argument_nodes keep (slice_get Ms p) ≡ suc keep.most
      by None lt e = absurd (let s = size-node heads.Missing [] in omega arith)
      by (Some t) lt e = ap (argument_nodes keep) e ∙ ap (kept_nodes keep) (many keep (size t) (parameters t) t lt)

  sum_few : (ps : List ℕ) → nodes_for arguments ps ≤ keep.most → (nodes_of keep Ms ps ≡ nodes_for arguments ps) × (parameters_in Ms ps ≡ parameters_for arguments ps)
  sum_few [] le = (refl, refl)
  sum_few (p ∷ ps) le =
      let here = argument_few p (omega arith) in
      let more = sum_few ps (omega arith) in (
        ap (λ (n : ℕ). n + nodes_of keep Ms ps) here.0 ∙ ap (λ (n : ℕ). size (argument_or (slice_get arguments p)) + n) more.0,
        ap (λ (l : List ℕ). l ++ parameters_in Ms ps) here.1 ∙ ap (λ (l : List ℕ). parameters (argument_or (slice_get arguments p)) ++ l) more.1,
      )

  sum_many : (ps : List ℕ) (n : ℕ) → keep.most < n + nodes_for arguments ps → keep.most < n + nodes_of keep Ms ps
  sum_many [] n lt = lt
  sum_many (p ∷ ps) n lt = elim (cases_lt (size (argument_or (slice_get arguments p))) (suc keep.most)) [
    | inl less ↦ (
        let here = (argument_few p (omega arith)).0 in
        let regrouped : keep.most < (n + size (argument_or (slice_get arguments p))) + nodes_for arguments ps = omega arith in
        let more = sum_many ps (n + size (argument_or (slice_get arguments p))) regrouped in
        omega arith)
    | inr ge ↦ (let here = argument_many p (omega arith) in omega arith)
  ]

  -- a body that isn't too large by itself
  call_few : (body : Tree) → size body ≤ keep.most → within keep (instantiate arguments body) ≡ kept_call keep Ms (within keep body)
  call_few body le =
      let c = counted arguments body in
      let total = size body + nodes_for arguments (parameters body) in
      let given = ap (kept_call keep Ms) (few keep (size body) (parameters body) body le) in
      elim (cases_lt total (suc keep.most)) [
        | inl less ↦ (
            let sums = sum_few (parameters body) (omega arith) in
            let same : size body + nodes_of keep Ms (parameters body) ≡ total = ap (λ (n : ℕ). size body + n) sums.0 in
            let guard = le-leb (size body + nodes_of keep Ms (parameters body)) keep.most (omega arith) in
            made body c (size body + nodes_of keep Ms (parameters body)) (same ∙ sym c.nodes) sums.1 (omega arith) keep.trees refl
            ∙ sym (given ∙ ap (λ (b : Bool). if b then kept_body keep Ms (kept_as keep body (size body) (parameters body)) (size body + nodes_of keep Ms (parameters body)) else None) guard))
        | inr ge ↦ (
            let guard = lt-leb (size body + nodes_of keep Ms (parameters body)) keep.most (sum_many (parameters body) (size body) (omega arith)) in
            many keep (size (instantiate arguments body)) (parameters (instantiate arguments body)) (instantiate arguments body) (let e = c.nodes in omega arith)
            ∙ sym (given ∙ ap (λ (b : Bool). if b then kept_body keep Ms (kept_as keep body (size body) (parameters body)) (size body + nodes_of keep Ms (parameters body)) else None) guard))
      ]
    where
      made : (body : Tree) → Counted arguments body → (n : ℕ) → n ≡ size (instantiate arguments body) → parameters_in Ms (parameters body) ≡ parameters_for arguments (parameters body) → n ≤ keep.most → (b : Bool) → keep.trees ≡ b
          → within keep (instantiate arguments body) ≡ kept_body keep Ms (kept_as keep body (size body) (parameters body)) n
      made body c n same inner few_nodes true e =
          fills body
          ∙ ap (λ (t : Tree). filling keep Ms t) (sym (ap (λ (b : Bool). if b then body else missing) e))
          ∙ sym (ap (λ (b : Bool). if b then filling keep Ms (shown keep body) else Some (record { tree = missing; nodes = n; parameters = parameters_in Ms (parameters body) })) e)
      made body c n same inner few_nodes false e =
          few keep (size (instantiate arguments body)) (parameters (instantiate arguments body)) (instantiate arguments body) (omega arith)
          ∙ ap (λ (b : Bool). let k : Option Kept = Some (record { tree = if b then instantiate arguments body else missing; nodes = size (instantiate arguments body); parameters = parameters (instantiate arguments body) }) in k) e
          ∙ ap (λ (k : ℕ). let t : Option Kept = Some (record { tree = missing; nodes = k; parameters = parameters (instantiate arguments body) }) in t) (sym same)
          ∙ ap (λ (l : List ℕ). let t : Option Kept = Some (record { tree = missing; nodes = n; parameters = l }) in t) (c.inner ∙ sym inner)
          ∙ sym (ap (λ (b : Bool). if b then filling keep Ms (shown keep body) else Some (record { tree = missing; nodes = n; parameters = parameters_in Ms (parameters body) })) e)

  pub within-instantiate : (body : Tree) → within keep (instantiate arguments body) ≡ kept_call keep Ms (within keep body)
  within-instantiate body = elim (cases_lt (size body) (suc keep.most)) [
    | inl less ↦ call_few body (omega arith)
    | inr ge ↦ (
        let e = (counted arguments body).nodes in
        many keep (size (instantiate arguments body)) (parameters (instantiate arguments body)) (instantiate arguments body) (omega arith)
        ∙ sym (ap (kept_call keep Ms) (many keep (size body) (parameters body) body (omega arith))))
  ]

pub keeping_is_picture : (keep : Keep) → IsPicture Tree (Option Kept) trees (keeping_as keep) (within keep)
keeping_is_picture keep = record { nodes = within-node keep; calls = within-instantiate keep }
