-- The table of the names of items.
use Rattle.std.proofs.Common.{◌≡◌, ℕ, ◌+◌, ◌<◌, Bool, true, false, rules, refl, ap, sym, subst, ◌∙◌, ◌||◌, List, map, [], ◌∷◌, ◌++◌, length, drop, get_or, add-one, drop-cons, Option, Some, None, if◌then◌else◌, true≢false, is_some, cond}
use Rattle.std.specs.Borrow.{Bor}
use Rattle.std.specs.Option.{option_or}
use Rattle.std.specs.Str.{bytes_eq}
use Rattle.std.specs.List.{list_any}
use Rattle.std.proofs.lemmas.List.Folds.{list_any-append}
use Rattle.std.proofs.lemmas.Slice.Eq.{bytes_eq-Decides}
use Rattle.std.proofs.lemmas.Map.Text.{hash_map_updates_str}
use Rattle.std.proofs.lemmas.Bool.{and_parts}
use Rattle.indexmap.specs.IndexSet.{insert_key}
use Rattle.indexmap.specs.IndexMap.{IndexMap, get_by, Updates}
use Rattle.vg_ast.specs.declared.name.Name.{Name}
use Rattle.vg_ast.specs.declared.item.Item.{Item}
use Rattle.vg_names.specs.declared.scope.Scope.{Scope}
use Rattle.vg_names.specs.declared.meaning.Meaning.{Meaning}
use Rattle.vg_names.specs.Definition.{Text, definition_of, defines}
use Rattle.vg_names.specs.Duplicate.{same_scope}
use Rattle.vg_names.specs.Met.{Key, same_key}
use Rattle.vg_names.specs.Table.{number_from, found_at, inside, inside_from, has, Adds, defined_name}
use Rattle.vg_names.proofs.MetLemmas.{met_eq, plain, contains_plain}

pub bytes_eq_sym : (xs ys : List ℕ) → bytes_eq xs ys ≡ bytes_eq ys xs
bytes_eq_sym xs ys = by (bytes_eq xs ys) (bytes_eq ys xs) refl refl
  where
    by : (a b : Bool) → bytes_eq xs ys ≡ a → bytes_eq ys xs ≡ b → bytes_eq xs ys ≡ bytes_eq ys xs
    by true true p q = p ∙ sym q
    by false false p q = p ∙ sym q
    by true false p q = absurd (true≢false (sym ((bytes_eq-Decides ys xs).1 (sym ((bytes_eq-Decides xs ys).0 p))) ∙ q))
    by false true p q = absurd (true≢false (sym ((bytes_eq-Decides xs ys).1 (sym ((bytes_eq-Decides ys xs).0 q))) ∙ p))

or_false : (b : Bool) → (b || false) ≡ b
or_false true = refl
or_false false = refl

or_assoc : (a b c : Bool) → ((a || b) || c) ≡ (a || (b || c))
or_assoc true b c = refl
or_assoc false b c = refl

-- equal keys are one
scope_same : (a b : Scope) → same_scope a b ≡ true → a ≡ b
scope_same a b h = search rules

key_same : (a b : Key) → same_key a b ≡ true → a ≡ b
key_same a b h =
    let p = and_parts (same_scope a.0 b.0) (bytes_eq a.1 b.1) h in
    let s : a.0 ≡ b.0 = scope_same a.0 b.0 p.0 in
    let t : a.1 ≡ b.1 = (bytes_eq-Decides a.1 b.1).0 p.1 in
    λ i. (s i, t i)

pub has_append : (xs ys : List Key) (key : Key) → has (xs ++ ys) key ≡ (has xs key || has ys key)
has_append xs ys key = list_any-append (same_key key) xs ys

map_plain_snoc : (ks : List (Scope × Bor Text)) (x : Scope × Bor Text) → map plain (ks ++ x ∷ []) ≡ map plain ks ++ plain x ∷ []
map_plain_snoc [] x = refl
map_plain_snoc (k ∷ ks) x = ap (λ r. plain k ∷ r) (map_plain_snoc ks x)

-- an insert adds its key
pub adds_inserted : (ks : List (Scope × Bor Text)) (x : Scope × Bor Text) → Adds (map plain ks) (plain x ∷ []) (map plain (insert_key met_eq ks x))
adds_inserted ks x = record { has_both = λ key. by key (list_any (met_eq x) ks) refl }
  where
    present : (key : Key) → has (map plain ks) (plain x) ≡ true → (r : Bool) → same_key key (plain x) ≡ r → has (map plain ks) key ≡ (has (map plain ks) key || (r || false))
    present key there true e = ap (has (map plain ks)) (key_same key (plain x) e) ∙ there ∙ sym (ap (λ b. b || true) (ap (has (map plain ks)) (key_same key (plain x) e) ∙ there))
    present key there false e = sym (or_false (has (map plain ks) key))

    by : (key : Key) (b : Bool) → list_any (met_eq x) ks ≡ b → has (map plain (if b then ks else ks ++ x ∷ [])) key ≡ (has (map plain ks) key || has (plain x ∷ []) key)
    by key true e = present key (sym (contains_plain x ks) ∙ e) (same_key key (plain x)) refl
    by key false e = ap (λ ks. has ks key) (map_plain_snoc ks x) ∙ has_append (map plain ks) (plain x ∷ []) key

-- Of all keys those behind are left to be noted.
pub record IsNoted (start all now rest : List Key) : Type 0 where
  pub both_ways : (key : Key) → (has start key || has all key) ≡ (has now key || has rest key)

pub noted_at_start : (start all : List Key) → IsNoted start all start all
noted_at_start start all = record { both_ways = λ key. refl }

pub noted_behind : (start all now block rest next : List Key) → IsNoted start all now (block ++ rest) → Adds now block next → IsNoted start all next rest
noted_behind start all now block rest next h adds = record {
  both_ways = λ key.
      h.both_ways key ∙ ap (λ b. has now key || b) (has_append block rest key) ∙ sym (or_assoc (has now key) (has block key) (has rest key))
      ∙ ap (λ b. b || has rest key) (sym (adds.has_both key));
}

pub adds_noted : (start all now : List Key) → IsNoted start all now [] → Adds start all now
adds_noted start all now h = record { has_both = λ key. sym (or_false (has now key)) ∙ sym (h.both_ways key) }

pub adds_nothing : (keys : List Key) → Adds keys [] keys
adds_nothing keys = record { has_both = λ key. sym (or_false (has keys key)) }

pub has_from_start : (all now : List Key) → IsNoted [] all now [] → (key : Key) → has now key ≡ has all key
has_from_start all now h key = sym (or_false (has now key)) ∙ sym (h.both_ways key)

pub inside_drop : (items : List Item) (i : ℕ) (item : Item) → i < length items → item ≡ get_or items i item → inside_from i (drop i items) ≡ inside i item ++ inside_from (i + 1) (drop (i + 1) items)
inside_drop items i item h e =
    ap (inside_from i) (drop-cons items i item h) ∙ ap (λ n. inside i (get_or items i item) ++ inside_from (i + 1) (drop n items)) (sym (add-one i))
    ∙ ap (λ x. inside i x ++ inside_from (i + 1) (drop (i + 1) items)) (sym e)

pub adds_name : (ks next : List (Scope × Bor Text)) (x : Scope × Bor Text) (scope : Scope) (text : Text) → next ≡ insert_key met_eq ks x → x.1.now ≡ text → scope ≡ x.0 → Adds (map plain ks) ((scope, text) ∷ []) (map plain next)
adds_name ks next x scope text e t s =
    let same : plain x ≡ (scope, text) = λ i. (sym s i, t i) in
    subst (λ n. Adds (map plain ks) ((scope, text) ∷ []) (map plain n)) (sym e) (subst (λ (k : Key). Adds (map plain ks) (k ∷ []) (map plain (insert_key met_eq ks x))) same (adds_inserted ks x))

none_of : (o : Option ℕ) → is_some o ≡ false → o ≡ None
none_of None h = refl
none_of (Some x) h = absurd (true≢false h)

or_none : (o : Option ℕ) → option_or o None ≡ o
or_none None = refl
or_none (Some x) = refl

-- a name that isn't there gets its number
pub number_noted : {S : Type 0} (m n : IndexMap (Bor Text) ℕ S) (k : Bor Text) (number : ℕ) → is_some (get_by (λ (y : Bor Text). bytes_eq k.now y.now) m) ≡ false
    → Updates (λ (x y : Bor Text). bytes_eq x.now y.now) m n k (Some number)
    → (other : Text) → found_at n other ≡ option_or (found_at m other) (if bytes_eq k.now other then Some number else None)
number_noted m n k number absent updates other = hash_map_updates_str k.now m n (Some number) updates other ∙ by (bytes_eq k.now other) refl
  where
    by : (b : Bool) → bytes_eq k.now other ≡ b → cond b (Some number) (found_at m other) ≡ option_or (found_at m other) (if b then Some number else None)
    by true e = sym (ap (λ o. option_or o (Some number)) (ap (found_at m) (sym ((bytes_eq-Decides k.now other).0 e)) ∙ none_of (found_at m k.now) absent))
    by false e = sym (or_none (found_at m other))

pub defines_none : (d : Option (Name × Meaning)) (other : Text) → None ≡ defined_name d → defines other d ≡ false
defines_none None other h = refl
defines_none (Some d) other h = cc

pub defines_some : (d : Option (Name × Meaning)) (other : Text) (name : Name) → Some name ≡ defined_name d → defines other d ≡ bytes_eq name.text other
defines_some None other name h = cc
defines_some (Some d) other name h = ap (λ o. defines_by o) (sym h)
  where
    defines_by : Option Name → Bool
    defines_by None = false
    defines_by (Some n) = bytes_eq n.text other

number_drop : (items : List Item) (i : ℕ) (item : Item) (text : Text) → i < length items → item ≡ get_or items i item
    → number_from i (drop i items) text ≡ (if defines text (definition_of item) then Some i else number_from (i + 1) (drop (i + 1) items) text)
number_drop items i item text h e =
    ap (λ rest. number_from i rest text) (drop-cons items i item h)
    ∙ ap (λ n. if defines text (definition_of (get_or items i item)) then Some i else number_from (i + 1) (drop n items) text) (sym (add-one i))
    ∙ ap (λ x. if defines text (definition_of x) then Some i else number_from (i + 1) (drop (i + 1) items) text) (sym e)

-- the number of an item is noted
pub number_behind : (items : List Item) (i : ℕ) (item : Item) (text : Text) (old new : Option ℕ) → i < length items → item ≡ get_or items i item
    → option_or old (number_from i (drop i items) text) ≡ number_from 0 items text
    → new ≡ option_or old (if defines text (definition_of item) then Some i else None)
    → option_or new (number_from (i + 1) (drop (i + 1) items) text) ≡ number_from 0 items text
number_behind items i item text old new h e left noted =
    ap (λ o. option_or o (number_from (i + 1) (drop (i + 1) items) text)) noted
    ∙ by old (defines text (definition_of item))
    ∙ ap (option_or old) (sym (number_drop items i item text h e))
    ∙ left
  where
    by : (o : Option ℕ) (b : Bool) → option_or (option_or o (if b then Some i else None)) (number_from (i + 1) (drop (i + 1) items) text) ≡ option_or o (if b then Some i else number_from (i + 1) (drop (i + 1) items) text)
    by None true = refl
    by None false = refl
    by (Some x) b = refl

pub number_at_end : (items : List Item) (text : Text) (found : Option ℕ) → option_or found None ≡ number_from 0 items text → found ≡ number_from 0 items text
number_at_end items text found h = sym (or_none found) ∙ h
