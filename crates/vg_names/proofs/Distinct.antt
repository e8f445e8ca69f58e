-- Where nothing is defined twice, an item has the number of its name.
use Rattle.std.proofs.Common.{◌≡◌, ℕ, zero, suc, ◌+◌, Bool, true, false, ◌||◌, List, [], ◌∷◌, ◌++◌, Option, Some, None, refl, sym, ap, ◌∙◌, append_assoc, arith, true≢false, if◌then◌else◌}
use Rattle.std.specs.Prelude.{slice_get}
use Rattle.std.specs.List.{list_any}
use Rattle.std.specs.Str.{bytes_eq}
use Rattle.std.proofs.lemmas.List.{append-nil}
use Rattle.std.proofs.lemmas.List.Folds.{list_any-append}
use Rattle.std.proofs.lemmas.Bool.{or_parts}
use Rattle.vg_ast.specs.declared.name.Name.{Name}
use Rattle.vg_ast.specs.declared.item.Item.{Item}
use Rattle.vg_ast.specs.declared.item.Item.TheVariants as items
use Rattle.vg_ast.specs.declared.desc.Desc.{Desc}
use Rattle.vg_names.specs.declared.meaning.Meaning.{Meaning}
use Rattle.vg_names.specs.declared.scope.Scope.TheVariants as scopes
use Rattle.vg_names.specs.Definition.{Text, definition_of, defines}
use Rattle.vg_names.specs.Duplicate.{Claim, claim, item_claims, claims_from, micro_claims, same_claim, repeated, duplicates}
use Rattle.vg_names.specs.Table.{number_from}
use Rattle.vg_names.proofs.Texts.{own_text, same_text}
use Rattle.vg_names.specs.Numbers.{number_named}

repeated-append : (front xs ys : List Claim) → repeated front (xs ++ ys) ≡ repeated front xs ++ repeated (front ++ xs) ys
repeated-append front [] ys = ap (λ (l : List Claim). repeated l ys) (sym (append-nil front))
repeated-append front (x ∷ xs) ys =
    let here = if list_any (same_claim x) front then x.name.at ∷ [] else [] in
    ap (λ (l : List ℕ). here ++ l) (repeated-append (front ++ x ∷ []) xs ys ∙ ap (λ (l : List Claim). repeated (front ++ x ∷ []) xs ++ repeated l ys) (append_assoc front (x ∷ []) xs))
    ∙ sym (append_assoc here (repeated (front ++ x ∷ []) xs) (repeated (front ++ x ∷ xs) ys))

nothing_left : (xs ys : List ℕ) → xs ++ ys ≡ [] → xs ≡ []
nothing_left [] ys e = refl
nothing_left (x ∷ xs) ys e = absurd (cc)

nothing_right : (xs ys : List ℕ) → xs ++ ys ≡ [] → ys ≡ []
nothing_right [] ys e = e
nothing_right (x ∷ xs) ys e = absurd (cc)

first_fresh : (front xs : List Claim) (x : Claim) → repeated front (x ∷ xs) ≡ [] → list_any (same_claim x) front ≡ false
first_fresh front xs x e = by (list_any (same_claim x) front) (nothing_left (if list_any (same_claim x) front then x.name.at ∷ [] else []) (repeated (front ++ x ∷ []) xs) e)
  where
    by : (b : Bool) → (if b then x.name.at ∷ [] else []) ≡ [] → b ≡ false
    by false h = refl
    by true h = absurd (cc)

abbrev rest_of : List Claim → List Claim
rest_of [] = []
rest_of (c ∷ cs) = cs

abbrev name_or : Name → Option (Name × Meaning) → Name
name_or name None = name
name_or name (Some definition) = definition.0

-- the first claim of what defines a name is that of the name
first_claim : (k : ℕ) (item : Item) (name : Name) (m : Meaning) → definition_of item ≡ Some (name, m) → item_claims k item ≡ claim scopes.Items name ∷ rest_of (item_claims k item)
first_claim k (items.Constant at n value) name m e = ap (λ (x : Name). claim scopes.Items x ∷ rest_of (item_claims k (items.Constant at n value))) (ap (name_or n) e)
first_claim k (items.Using at n meaning) name m e = ap (λ (x : Name). claim scopes.Items x ∷ rest_of (item_claims k (items.Using at n meaning))) (ap (name_or n) e)
first_claim k (items.Function at n parameters result body) name m e = ap (λ (x : Name). claim scopes.Items x ∷ rest_of (item_claims k (items.Function at n parameters result body))) (ap (name_or n) e)
first_claim k (items.ProgramCounter at n declared) name m e = ap (λ (x : Name). claim scopes.Items x ∷ rest_of (item_claims k (items.ProgramCounter at n declared))) (ap (name_or n) e)
first_claim k (items.Memory at n address cell) name m e = ap (λ (x : Name). claim scopes.Items x ∷ rest_of (item_claims k (items.Memory at n address cell))) (ap (name_or n) e)
first_claim k (items.Register at n declared) name m e = ap (λ (x : Name). claim scopes.Items x ∷ rest_of (item_claims k (items.Register at n declared))) (ap (name_or n) e)
first_claim k (items.RegisterFile at n index declared fixed) name m e = ap (λ (x : Name). claim scopes.Items x ∷ rest_of (item_claims k (items.RegisterFile at n index declared fixed))) (ap (name_or n) e)
first_claim k (items.Format at n declared fields) name m e = ap (λ (x : Name). claim scopes.Items x ∷ rest_of (item_claims k (items.Format at n declared fields))) (ap (name_or n) e)
first_claim k (items.Instruction at n format behaviour) name m e = ap (λ (x : Name). claim scopes.Items x ∷ rest_of (item_claims k (items.Instruction at n format behaviour))) (ap (name_or n) e)
first_claim k (items.Encoding at name' fixes) name m e = absurd (cc)
first_claim k (items.Assembly at name' row) name m e = absurd (cc)

-- an item that defines a name claims it
claims_name : (k : ℕ) (item : Item) (name : Name) → defines name.text (definition_of item) ≡ true → list_any (same_claim (claim scopes.Items name)) (item_claims k item) ≡ true
claims_name k item name e = by (definition_of item) refl e
  where
    by : (o : Option (Name × Meaning)) → definition_of item ≡ o → defines name.text o ≡ true → list_any (same_claim (claim scopes.Items name)) (item_claims k item) ≡ true
    by None d h = absurd (true≢false (sym h))
    by (Some p) d h =
        let c = first_claim k item p.0 p.1 d in
        ap (list_any (same_claim (claim scopes.Items name))) c
        ∙ ap (λ (b : Bool). b || list_any (same_claim (claim scopes.Items name)) (rest_of (item_claims k item))) (ap (λ (t : Text). bytes_eq name.text t) (same_text p.0.text name.text h) ∙ own_text name.text)

-- no item repeats a name that was claimed in front
fresh_names : (all : List Item) (s : ℕ) (front : List Claim) (k : ℕ) (item : Item) (name : Name) (m : Meaning) → repeated front (claims_from s all) ≡ [] → slice_get all k ≡ Some item → definition_of item ≡ Some (name, m)
    → list_any (same_claim (claim scopes.Items name)) front ≡ false
fresh_names [] s front k item name m e at d = absurd (cc)
fresh_names (first ∷ more) s front zero item name m e at d =
    let same : first ≡ item = cc in
    let c = first_claim s first name m (ap definition_of same ∙ d) in
    first_fresh front (rest_of (item_claims s first) ++ claims_from (s + 1) more) (claim scopes.Items name) (sym (ap (λ (l : List Claim). repeated front (l ++ claims_from (s + 1) more)) c) ∙ e)
fresh_names (first ∷ more) s front (suc k) item name m e at d =
    let behind = nothing_right (repeated front (item_claims s first)) (repeated (front ++ item_claims s first) (claims_from (s + 1) more)) (sym (repeated-append front (item_claims s first) (claims_from (s + 1) more)) ∙ e) in
    let h = fresh_names more (s + 1) (front ++ item_claims s first) k item name m behind at d in
    (or_parts (list_any (same_claim (claim scopes.Items name)) front) (list_any (same_claim (claim scopes.Items name)) (item_claims s first))
    (sym (list_any-append (same_claim (claim scopes.Items name)) front (item_claims s first)) ∙ h)).0

-- an item is the first that defines its name
own_from : (all : List Item) (s : ℕ) (front : List Claim) (k : ℕ) (item : Item) (name : Name) (m : Meaning) → repeated front (claims_from s all) ≡ [] → slice_get all k ≡ Some item → definition_of item ≡ Some (name, m)
    → number_from s all name.text ≡ Some (s + k)
own_from [] s front k item name m e at d = absurd (cc)
own_from (first ∷ more) s front zero item name m e at d =
    let same : first ≡ item = cc in
    let mine : defines name.text (definition_of first) ≡ true = ap (defines name.text) (ap definition_of same ∙ d) ∙ own_text name.text in
    let n : s ≡ s + 0 = omega arith in
    ap (λ (b : Bool). if b then Some s else number_from (s + 1) more name.text) mine ∙ ap (λ (i : ℕ). Some i) n
own_from (first ∷ more) s front (suc k) item name m e at d =
    let behind = nothing_right (repeated front (item_claims s first)) (repeated (front ++ item_claims s first) (claims_from (s + 1) more)) (sym (repeated-append front (item_claims s first) (claims_from (s + 1) more)) ∙ e) in
    let h = fresh_names more (s + 1) (front ++ item_claims s first) k item name m behind at d in
    let other : list_any (same_claim (claim scopes.Items name)) (item_claims s first) ≡ false =
    (or_parts (list_any (same_claim (claim scopes.Items name)) front) (list_any (same_claim (claim scopes.Items name)) (item_claims s first))
    (sym (list_any-append (same_claim (claim scopes.Items name)) front (item_claims s first)) ∙ h)).1 in
    let rest = own_from more (s + 1) (front ++ item_claims s first) k item name m behind at d in
    let n : (s + 1) + k ≡ s + suc k = omega arith in
    by (defines name.text (definition_of first)) refl other (rest ∙ ap (λ (i : ℕ). Some i) n)
  where
    by : (b : Bool) → defines name.text (definition_of first) ≡ b → list_any (same_claim (claim scopes.Items name)) (item_claims s first) ≡ false → number_from (s + 1) more name.text ≡ Some (s + suc k)
        → (if b then Some s else number_from (s + 1) more name.text) ≡ Some (s + suc k)
    by true b other rest = absurd (true≢false (sym (claims_name s first name b) ∙ other))
    by false b other rest = rest

pub own_number : (d : Desc) (k : ℕ) (item : Item) (name : Name) (m : Meaning) → duplicates d ≡ [] → slice_get d.items k ≡ Some item → definition_of item ≡ Some (name, m) → number_named d.items name.text ≡ Some k
own_number d k item name m e at is =
    let front = nothing_left (repeated [] (claims_from 0 d.items)) (repeated ([] ++ claims_from 0 d.items) (micro_claims d.micro)) (sym (repeated-append [] (claims_from 0 d.items) (micro_claims d.micro)) ∙ e) in
    let n : 0 + k ≡ k = omega arith in
    own_from d.items 0 [] k item name m front at is ∙ ap (λ (i : ℕ). Some i) n
