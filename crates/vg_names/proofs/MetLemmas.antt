-- The set of the claims that were met, and the first claim that repeats one.
use Rattle.std.proofs.Common.{◌+◌, ◌<◌, length, drop, get_or, add-one, drop-cons, ◌≡◌, ℕ, Bool, true, false, not, rules, refl, ap, sym, ◌∙◌, ◌&&◌, ◌||◌, List, map, [], ◌∷◌, ◌++◌, append_assoc, Some, None, if◌then◌else◌, true≢false}
use Rattle.std.specs.Borrow.{Bor}
use Rattle.std.specs.Option.{option_or}
use Rattle.std.specs.Str.{bytes_eq}
use Rattle.std.specs.List.{list_any}
use Rattle.vg_ast.specs.declared.item.Item.{Item}
use Rattle.vg_names.specs.declared.scope.Scope.{Scope}
use Rattle.vg_names.specs.contracts.scope.ScopePartialEq.TheImpl as derived
use Rattle.vg_names.specs.Definition.{Text}
use Rattle.vg_names.specs.Duplicate.{Claim, same_scope, same_claim, is_single, repeated, claims_from, item_claims}
use Rattle.vg_names.specs.First.{first_of}
use Rattle.vg_names.specs.Met.{Key, key_of, key_text, same_key, repeat_at, first_repeat}

-- the `==` of scopes
pub scope_eq : (a b : Scope) → (derived.ghosts).eq a b ≡ same_scope a b
scope_eq a b = search rules

-- the `==` of a set's keys
abbrev pub met_eq : Scope × Bor Text → Scope × Bor Text → Bool
met_eq x y = (derived.ghosts).eq x.0 y.0 && bytes_eq x.1.now y.1.now

abbrev pub plain : Scope × Bor Text → Key
plain k = (k.0, k.1.now)

pub met_same : (x y : Scope × Bor Text) → met_eq x y ≡ same_key (plain x) (plain y)
met_same x y = ap (λ b. b && bytes_eq x.1.now y.1.now) (scope_eq x.0 y.0)

pub contains_plain : (x : Scope × Bor Text) (ks : List (Scope × Bor Text)) → list_any (met_eq x) ks ≡ list_any (same_key (plain x)) (map plain ks)
contains_plain x [] = refl
contains_plain x (k ∷ ks) = ap (λ b. b || list_any (met_eq x) ks) (met_same x k) ∙ ap (λ b. same_key (plain x) (plain k) || b) (contains_plain x ks)

-- what the answer of an insert says of a claim
pub repeat_inserted : (x : Scope × Bor Text) (ks : List (Scope × Bor Text)) (c : Claim) (added : Bool) → plain x ≡ key_of c → added ≡ not (list_any (met_eq x) ks) → (if added then None else Some c.name.at) ≡ repeat_at (map plain ks) c
repeat_inserted x ks c added same h =
    ap (λ b. if b then None else Some c.name.at) (h ∙ ap not (contains_plain x ks ∙ ap (λ k. list_any (same_key k) (map plain ks)) same))
    ∙ turned (list_any (same_key (key_of c)) (map plain ks))
  where
    turned : (b : Bool) → (if not b then None else Some c.name.at) ≡ (if b then Some c.name.at else None)
    turned true = refl
    turned false = refl

-- two claims of which one scope has no room have one key
pub single_of_same : (s t : Scope) → same_scope s t ≡ true → is_single s ≡ is_single t
single_of_same s t h = search rules

pub same_claim_key : (a b : Claim) → same_claim a b ≡ same_key (key_of a) (key_of b)
same_claim_key a b = by (same_scope a.scope b.scope) refl
  where
    texts : (s t : Bool) → s ≡ t → (s || bytes_eq a.name.text b.name.text) ≡ bytes_eq (if s then [] else a.name.text) (if t then [] else b.name.text)
    texts true true e = refl
    texts false false e = refl
    texts true false e = absurd (true≢false e)
    texts false true e = absurd (true≢false (sym e))

    by : (r : Bool) → same_scope a.scope b.scope ≡ r → (same_scope a.scope b.scope && (is_single a.scope || bytes_eq a.name.text b.name.text)) ≡ (same_scope a.scope b.scope && bytes_eq (key_text a.scope a.name) (key_text b.scope b.name))
    by true e = ap (λ t. same_scope a.scope b.scope && t) (texts (is_single a.scope) (is_single b.scope) (single_of_same a.scope b.scope e))
    by false e = ap (λ r. r && (is_single a.scope || bytes_eq a.name.text b.name.text)) e ∙ sym (ap (λ r. r && bytes_eq (key_text a.scope a.name) (key_text b.scope b.name)) e)

pub same_claims : (c : Claim) (front : List Claim) → list_any (same_claim c) front ≡ list_any (same_key (key_of c)) (map key_of front)
same_claims c [] = refl
same_claims c (f ∷ front) = ap (λ b. b || list_any (same_claim c) front) (same_claim_key c f) ∙ ap (λ b. same_key (key_of c) (key_of f) || b) (same_claims c front)

map_snoc : (front : List Claim) (c : Claim) → map key_of (front ++ c ∷ []) ≡ map key_of front ++ key_of c ∷ []
map_snoc [] c = refl
map_snoc (f ∷ front) c = ap (λ ks. key_of f ∷ ks) (map_snoc front c)

-- the first of the repeated names is that of the first repeated key
pub first_of_repeated : (front cs : List Claim) → first_of (repeated front cs) ≡ first_repeat (map key_of front) cs
first_of_repeated front [] = refl
first_of_repeated front (c ∷ cs) =
    by (first_of_repeated (front ++ c ∷ []) cs) (list_any (same_claim c) front) ∙ ap (λ b. if b then Some c.name.at else first_repeat (map key_of front ++ key_of c ∷ []) cs) (same_claims c front)
  where
    by : first_of (repeated (front ++ c ∷ []) cs) ≡ first_repeat (map key_of (front ++ c ∷ [])) cs → (b : Bool) → first_of ((if b then c.name.at ∷ [] else []) ++ repeated (front ++ c ∷ []) cs) ≡ (if b then Some c.name.at else first_repeat (map key_of front ++ key_of c ∷ []) cs)
    by rest true = refl
    by rest false = rest ∙ ap (λ ks. first_repeat ks cs) (map_snoc front c)

-- claims one behind the other
pub first_repeat_append : (met : List Key) (xs ys : List Claim) → first_repeat met (xs ++ ys) ≡ option_or (first_repeat met xs) (first_repeat (met ++ map key_of xs) ys)
first_repeat_append met [] ys = ap (λ ks. first_repeat ks ys) (search rules)
first_repeat_append met (x ∷ xs) ys = by (first_repeat_append (met ++ key_of x ∷ []) xs ys) (list_any (same_key (key_of x)) met)
  where
    by : first_repeat (met ++ key_of x ∷ []) (xs ++ ys) ≡ option_or (first_repeat (met ++ key_of x ∷ []) xs) (first_repeat ((met ++ key_of x ∷ []) ++ map key_of xs) ys) → (b : Bool) → (if b then Some x.name.at else first_repeat (met ++ key_of x ∷ []) (xs ++ ys)) ≡ option_or (if b then Some x.name.at else first_repeat (met ++ key_of x ∷ []) xs) (first_repeat (met ++ key_of x ∷ map key_of xs) ys)
    by rest true = refl
    by rest false = rest ∙ ap (λ ks. option_or (first_repeat (met ++ key_of x ∷ []) xs) (first_repeat ks ys)) (append_assoc met (key_of x ∷ []) (map key_of xs))

map_key_append : (xs ys : List Claim) → map key_of (xs ++ ys) ≡ map key_of xs ++ map key_of ys
map_key_append [] ys = refl
map_key_append (x ∷ xs) ys = ap (λ ks. key_of x ∷ ks) (map_key_append xs ys)

-- Of all claims from a start on, these are left when those before them are met with no repeat.
pub record IsLeft (start : List Key) (all : List Claim) (met : List Key) (rest : List Claim) : Type 0 where
  pub first : first_repeat start all ≡ first_repeat met rest
  pub keys : start ++ map key_of all ≡ met ++ map key_of rest

module _ (start : List Key) (all : List Claim) where
  pub left_at_start : IsLeft start all start all
  left_at_start = record { first = refl; keys = refl }

  module _ (met : List Key) (block rest : List Claim) (left : IsLeft start all met (block ++ rest)) where
    -- the claims of a block are met
    pub left_behind : (next : List Key) → None ≡ first_repeat met block → next ≡ met ++ map key_of block → IsLeft start all next rest
    left_behind next none keys = record {
      first = left.first ∙ first_repeat_append met block rest ∙ ap (λ o. option_or o (first_repeat (met ++ map key_of block) rest)) (sym none) ∙ ap (λ ks. first_repeat ks rest) (sym keys);
      keys = left.keys ∙ ap (λ ks. met ++ ks) (map_key_append block rest) ∙ sym (append_assoc met (map key_of block) (map key_of rest)) ∙ ap (λ ks. ks ++ map key_of rest) (sym keys);
    }

    -- or one of them repeats a claim
    pub left_within : (at : ℕ) → Some at ≡ first_repeat met block → Some at ≡ first_repeat start all
    left_within at some = sym (left.first ∙ first_repeat_append met block rest ∙ ap (λ o. option_or o (first_repeat (met ++ map key_of block) rest)) (sym some))

  pub none_left : (met : List Key) → IsLeft start all met [] → None ≡ first_repeat start all
  none_left met left = sym left.first

  pub all_met : (met : List Key) → IsLeft start all met [] → met ≡ start ++ map key_of all
  all_met met left = sym (left.keys ∙ search rules)

-- the claims of the items from one on
pub claims_from_drop : (items : List Item) (i : ℕ) (item : Item) → i < length items → item ≡ get_or items i item → claims_from i (drop i items) ≡ item_claims i item ++ claims_from (i + 1) (drop (i + 1) items)
claims_from_drop items i item h e =
    ap (claims_from i) (drop-cons items i item h) ∙ ap (λ n. item_claims i (get_or items i item) ++ claims_from (i + 1) (drop n items)) (sym (add-one i)) ∙ ap (λ x. item_claims i x ++ claims_from (i + 1) (drop (i + 1) items)) (sym e)

-- the first claim that repeats one, after those of the items
pub repeat_in_items : (met : List Key) (xs ys : List Claim) (at : ℕ) → Some at ≡ first_repeat met xs → Some at ≡ first_repeat met (xs ++ ys)
repeat_in_items met xs ys at h = ap (λ o. option_or o (first_repeat (met ++ map key_of xs) ys)) h ∙ sym (first_repeat_append met xs ys)

pub repeat_behind : (met next : List Key) (xs ys : List Claim) → None ≡ first_repeat met xs → next ≡ met ++ map key_of xs → first_repeat next ys ≡ first_repeat met (xs ++ ys)
repeat_behind met next xs ys none keys =
    ap (λ ks. first_repeat ks ys) keys ∙ ap (λ o. option_or o (first_repeat (met ++ map key_of xs) ys)) none ∙ sym (first_repeat_append met xs ys)
