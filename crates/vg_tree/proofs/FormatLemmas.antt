-- The table of the formats of a description, and what their fields are.
use Rattle.std.proofs.Common.{◌≡◌, ℕ, suc, zero, ◌+◌, ◌<◌, Bool, true, false, List, [], ◌∷◌, ◌++◌, length, map, Option, Some, None, refl, sym, ap, ◌∙◌, arith, if◌then◌else◌}
use Rattle.std.specs.Prelude.{get_or, slice_get}
use Rattle.std.specs.List.{range_with_len}
use Rattle.std.specs.Option.{option_map}
use Rattle.std.proofs.lemmas.Option.{slice_get-map, slice_get-get_or}
use Rattle.std.proofs.lemmas.List.FromFn.{length-map-range_with_len, map-range_with_len_more}
use Rattle.vg_ast.specs.declared.item.Item.{Item}
use Rattle.vg_ast.specs.declared.field.Field.{Field}
use Rattle.vg_names.specs.Definition.{Text, definition_of, defines}
use Rattle.vg_names.specs.Table.{number_from}
use Rattle.vg_inline.specs.Inline.{number_or}
use Rattle.vg_whole.specs.Whole.{Constants}
use Rattle.vg_type.specs.declared.sort.Sort.{Sort}
use Rattle.vg_type.specs.ValueType.{sort_of_type}
use Rattle.vg_type.specs.Scope.{field_type}
use Rattle.vg_isa.specs.declared.ids.FormatId.{FormatId}
use Rattle.vg_tree.specs.Resource.{is_format, count_before, format_id, format_numbered, formats_of, with_format}
use Rattle.vg_tree.proofs.ResourceLemmas.{number_at}

-- what fields are, without their names
pub sorts_of_fields : (constants : Constants) (fields : List Field)
    → map (λ (field : Text × Sort). field.1) (map (λ (field : Field). (field.name.text, sort_of_type (field_type constants field))) fields) ≡ map (λ (field : Field). sort_of_type (field_type constants field)) fields
sorts_of_fields constants [] = refl
sorts_of_fields constants (field ∷ more) = ap (λ (sorts : List Sort). sort_of_type (field_type constants field) ∷ sorts) (sorts_of_fields constants more)

within_list : {A : Type 0} (xs : List A) (k : ℕ) (x : A) → k < length xs → x ≡ get_or xs k x → slice_get xs k ≡ Some x
within_list xs k x h e = slice_get-get_or xs k x h ∙ ap Some (sym e)

some_equal : {A : Type 0} (a b : A) → Some a ≡ Some b → a ≡ b
some_equal a b h = cc

from_none : (k : ℕ) → 0 + k ≡ k
from_none k = omega arith

one_on : (k : ℕ) → k + 1 ≡ suc k
one_on k = omega arith

-- ---- numbers of formats

-- the formats in front of the next item
count_more : (k : ℕ) (all : List Item) (item : Item) → slice_get all k ≡ Some item → count_before is_format (suc k) all ≡ with_format (count_before is_format k all) item
count_more k [] item h = absurd (cc)
count_more zero (first ∷ more) item h =
    let e : first ≡ item = some_equal first item h in
    rw (sym e) (by (is_format first))
  where
    by : (b : Bool) → (if b then 1 + 0 else 0) ≡ (if b then 0 + 1 else 0)
    by true = refl
    by false = refl
count_more (suc k) (first ∷ more) item h = by (is_format first) (is_format item) (count_more k more item h)
  where
    by : (b d : Bool) → count_before is_format (suc k) more ≡ (if d then count_before is_format k more + 1 else count_before is_format k more)
        → (if b then 1 + count_before is_format (suc k) more else count_before is_format (suc k) more)
        ≡ (if d then (if b then 1 + count_before is_format k more else count_before is_format k more) + 1 else (if b then 1 + count_before is_format k more else count_before is_format k more))
    by true true e = omega (arith, e)
    by true false e = omega (arith, e)
    by false true e = e
    by false false e = e

-- the first items have been entered
pub record Entered (all : List Item) (k formats : ℕ) (table : List FormatId) : Type 0 where
  pub counted : formats ≡ count_before is_format k all
  pub entered : table ≡ map (format_numbered all) (range_with_len 0 k)

pub one_more : (all : List Item) (k formats next : ℕ) (table longer : List FormatId) (item : Item) → Entered all k formats table → k < length all → item ≡ get_or all k item
    → longer ≡ table ++ record { 0 = formats } ∷ [] → next ≡ with_format formats item → Entered all (k + 1) next longer
one_more all k formats next table longer item e less at l n = let h = within_list all k item less at in record {
  counted = n ∙ ap (λ m. with_format m item) e.counted ∙ sym (count_more k all item h) ∙ ap (λ m. count_before is_format m all) (sym (one_on k));
  entered = l ∙ ap (λ t. t ++ record { 0 = formats } ∷ []) e.entered
      ∙ ap (λ m. let f : FormatId = record { 0 = m } in map (format_numbered all) (range_with_len 0 k) ++ f ∷ []) e.counted
      ∙ sym (map-range_with_len_more (format_numbered all) 0 k k (from_none k));
}

table_within : (all : List Item) (k : ℕ) → k < length all → slice_get (formats_of all) k ≡ Some (format_numbered all k)
table_within all k h =
    slice_get-map (format_numbered all) (range_with_len 0 (length all)) k ∙ ap (option_map (format_numbered all)) (number_at 0 (length all) k h)
    ∙ ap (λ n. Some (format_numbered all n)) (from_none k)

table_length : (all : List Item) → length (formats_of all) ≡ length all
table_length all = length-map-range_with_len (format_numbered all) 0 (length all)

-- the number of a name is that of an item
number_below : (k : ℕ) (all : List Item) (text : Text) (n : ℕ) → number_from k all text ≡ Some n → n < k + length all
number_below k [] text n h = absurd (cc)
number_below k (item ∷ all) text n h = by (defines text (definition_of item)) (number_below (k + 1) all text n) h
  where
    by : (b : Bool) → (number_from (k + 1) all text ≡ Some n → n < k + 1 + length all) → (if b then Some k else number_from (k + 1) all text) ≡ Some n → n < k + length (item ∷ all)
    by true rest e = let same : k ≡ n = some_equal k n e in omega (arith, same)
    by false rest e = let less : n < k + 1 + length all = rest e in omega (arith, less)

pub named_within : (all : List Item) (name : Text) (k : ℕ) (table : List FormatId) → table ≡ formats_of all → Some k ≡ number_from 0 all name → k < length table
named_within all name k table t h = rw (ap length t ∙ table_length all) (let less : k < 0 + length all = number_below 0 all name k (sym h) in omega (arith, less))

pub named_format : (all : List Item) (name : Text) (k : ℕ) (table : List FormatId) (f : FormatId) → table ≡ formats_of all → Some k ≡ number_from 0 all name → slice_get table k ≡ Some f
    → f.0 ≡ format_id all (number_or (number_from 0 all name))
named_format all name k table f t h g =
    ap (λ (x : FormatId). x.0) (some_equal f (format_numbered all k) (sym g ∙ ap (λ (xs : List FormatId). slice_get xs k) t ∙ table_within all k (rw (sym (table_length all) ∙ sym (ap length t)) (named_within all name k table t h))))
    ∙ ap (λ (n : Option ℕ). format_id all (number_or n)) h

pub unnamed_format : (all : List Item) (name : Text) → None ≡ number_from 0 all name → 0 ≡ format_id all (number_or (number_from 0 all name))
unnamed_format all name h = ap (λ (n : Option ℕ). format_id all (number_or n)) h

pub ruleset format_steps = (named_within, named_format, unnamed_format)
