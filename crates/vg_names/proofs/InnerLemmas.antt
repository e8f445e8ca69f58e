-- What the table has of the names inside of one item.
use borrow.Author.Tests.{eqb-true}
use Rattle.std.proofs.Common.{eq-eqb, ◌≡◌, ◌≢◌, ℕ, zero, suc, ◌+◌, ◌<◌, Bool, true, false, refl, arith, ap, sym, ◌∙◌, ◌&&◌, ◌||◌, nat_eq, List, map, [], ◌∷◌, Option, Some, None, length, slice_get, if◌then◌else◌}
use Rattle.std.proofs.lemmas.Option.{slice_get_past, slice_get_read, same_Some, none-some}
use Rattle.std.specs.Borrow.{Bor}
use Rattle.std.specs.Option.{option_copied}
use Rattle.std.specs.Slice.{IsItemAt}
use Rattle.std.specs.Str.{bytes_eq}
use Rattle.std.specs.List.{list_any}
use Rattle.vg_ast.specs.declared.name.Name.{Name}
use Rattle.vg_ast.specs.declared.item.Item.{Item}
use Rattle.vg_ast.specs.declared.item.Item.TheVariants as items
use Rattle.vg_ast.specs.declared.field.Field.{Field}
use Rattle.vg_ast.specs.declared.parameter.Parameter.{Parameter}
use Rattle.vg_names.specs.declared.scope.Scope.{Scope}
use Rattle.vg_names.specs.declared.scope.Scope.TheVariants as scopes
use Rattle.vg_names.specs.Definition.{Text, is_among, fields_of, fields_of_format, fields_of_instruction, item_named, meaning_in, meaning_of, defines, definition_of}
use Rattle.vg_names.specs.Duplicate.{same_scope}
use Rattle.vg_names.specs.Table.{number_from, inside, inside_from, has, parameters_of, format_named}
use Rattle.vg_names.specs.Unknown.{is_encoding_of, has_encoding}
use Rattle.vg_names.proofs.TableLemmas.{has_append, bytes_eq_sym}

and_false : (b : Bool) → false ≡ (b && false)
and_false true = refl
and_false false = refl

eq_self : (n : ℕ) → nat_eq n n ≡ true
eq_self n = eq-eqb n n refl

eq_not : (m n : ℕ) → m ≢ n → nat_eq m n ≡ false
eq_not m n h = by (nat_eq m n) refl
  where
    by : (b : Bool) → nat_eq m n ≡ b → nat_eq m n ≡ false
    by true e = absurd (h (eqb-true m n e))
    by false e = e

fields_named : (i j : ℕ) (text : Text) (fields : List Field)
    → has (map (λ (field : Field). (scopes.Fields j, field.name.text)) fields) (scopes.Fields i, text) ≡ (nat_eq i j && is_among text (map (λ (field : Field). field.name.text) fields))
fields_named i j text [] = and_false (nat_eq i j)
fields_named i j text (field ∷ fields) =
    ap (λ b. (nat_eq i j && bytes_eq text field.name.text) || b) (fields_named i j text fields)
    ∙ ap (λ b. (nat_eq i j && b) || (nat_eq i j && is_among text (map (λ (field : Field). field.name.text) fields))) (bytes_eq_sym text field.name.text)
    ∙ by (nat_eq i j) (bytes_eq field.name.text text) (is_among text (map (λ (field : Field). field.name.text) fields))
  where
    by : (e t r : Bool) → ((e && t) || (e && r)) ≡ (e && (if t then true else r))
    by true true r = refl
    by true false r = refl
    by false t r = refl

parameters_named : (i j : ℕ) (text : Text) (parameters : List Parameter)
    → has (map (λ (parameter : Parameter). (scopes.Parameters j, parameter.name.text)) parameters) (scopes.Parameters i, text) ≡ (nat_eq i j && is_among text (map (λ (parameter : Parameter). parameter.name.text) parameters))
parameters_named i j text [] = and_false (nat_eq i j)
parameters_named i j text (parameter ∷ parameters) =
    ap (λ b. (nat_eq i j && bytes_eq text parameter.name.text) || b) (parameters_named i j text parameters)
    ∙ ap (λ b. (nat_eq i j && b) || (nat_eq i j && is_among text (map (λ (parameter : Parameter). parameter.name.text) parameters))) (bytes_eq_sym text parameter.name.text)
    ∙ by (nat_eq i j) (bytes_eq parameter.name.text text) (is_among text (map (λ (parameter : Parameter). parameter.name.text) parameters))
  where
    by : (e t r : Bool) → ((e && t) || (e && r)) ≡ (e && (if t then true else r))
    by true true r = refl
    by true false r = refl
    by false t r = refl

no_fields : (scope : Scope) (j : ℕ) (text : Text) (fields : List Field) → same_scope scope (scopes.Fields j) ≡ false → has (map (λ (field : Field). (scopes.Fields j, field.name.text)) fields) (scope, text) ≡ false
no_fields scope j text [] h = refl
no_fields scope j text (field ∷ fields) h = ap (λ b. (b && bytes_eq text field.name.text) || has (map (λ (field : Field). (scopes.Fields j, field.name.text)) fields) (scope, text)) h ∙ no_fields scope j text fields h

no_parameters : (scope : Scope) (j : ℕ) (text : Text) (parameters : List Parameter) → same_scope scope (scopes.Parameters j) ≡ false → has (map (λ (parameter : Parameter). (scopes.Parameters j, parameter.name.text)) parameters) (scope, text) ≡ false
no_parameters scope j text [] h = refl
no_parameters scope j text (parameter ∷ parameters) h =
    ap (λ b. (b && bytes_eq text parameter.name.text) || has (map (λ (parameter : Parameter). (scopes.Parameters j, parameter.name.text)) parameters) (scope, text)) h ∙ no_parameters scope j text parameters h

fields_inside : (i j : ℕ) (text : Text) (item : Item) → has (inside j item) (scopes.Fields i, text) ≡ (nat_eq i j && is_among text (fields_of_format (Some item)))
fields_inside i j text (items.Constant at name value) = and_false (nat_eq i j)
fields_inside i j text (items.Using at name meaning) = and_false (nat_eq i j)
fields_inside i j text (items.Function at name parameters result body) = no_parameters (scopes.Fields i) j text parameters refl ∙ and_false (nat_eq i j)
fields_inside i j text (items.ProgramCounter at name declared) = and_false (nat_eq i j)
fields_inside i j text (items.Memory at name address cell) = and_false (nat_eq i j)
fields_inside i j text (items.Register at name declared) = and_false (nat_eq i j)
fields_inside i j text (items.RegisterFile at name index declared reset) = and_false (nat_eq i j)
fields_inside i j text (items.Format at name declared fields) = fields_named i j text fields
fields_inside i j text (items.Instruction at name format behaviour) = and_false (nat_eq i j)
fields_inside i j text (items.Encoding at name fixes) = and_false (nat_eq i j)
fields_inside i j text (items.Assembly at name parts) = and_false (nat_eq i j)

parameters_inside : (i j : ℕ) (text : Text) (item : Item) → has (inside j item) (scopes.Parameters i, text) ≡ (nat_eq i j && is_among text (parameters_of (Some item)))
parameters_inside i j text (items.Constant at name value) = and_false (nat_eq i j)
parameters_inside i j text (items.Using at name meaning) = and_false (nat_eq i j)
parameters_inside i j text (items.Function at name parameters result body) = parameters_named i j text parameters
parameters_inside i j text (items.ProgramCounter at name declared) = and_false (nat_eq i j)
parameters_inside i j text (items.Memory at name address cell) = and_false (nat_eq i j)
parameters_inside i j text (items.Register at name declared) = and_false (nat_eq i j)
parameters_inside i j text (items.RegisterFile at name index declared reset) = and_false (nat_eq i j)
parameters_inside i j text (items.Format at name declared fields) = no_fields (scopes.Parameters i) j text fields refl ∙ and_false (nat_eq i j)
parameters_inside i j text (items.Instruction at name format behaviour) = and_false (nat_eq i j)
parameters_inside i j text (items.Encoding at name fixes) = and_false (nat_eq i j)
parameters_inside i j text (items.Assembly at name parts) = and_false (nat_eq i j)

-- the names under the scope of one item, where each item has those of its own number alone
module _ (scope : ℕ → Scope) (names : Option Item → List Text) (none : names None ≡ []) (text : Text)
    (own : (i j : ℕ) (item : Item) → has (inside j item) (scope i, text) ≡ (nat_eq i j && is_among text (names (Some item)))) where
  not_own : (i j : ℕ) (item : Item) → i ≢ j → has (inside j item) (scope i, text) ≡ false
  not_own i j item h = own i j item ∙ ap (λ b. b && is_among text (names (Some item))) (eq_not i j h)

  not_behind : (i j : ℕ) (all : List Item) → i < j → has (inside_from j all) (scope i, text) ≡ false
  not_behind i j [] h = refl
  not_behind i j (item ∷ all) h =
      has_append (inside j item) (inside_from (j + 1) all) (scope i, text)
      ∙ ap (λ b. b || has (inside_from (j + 1) all) (scope i, text)) (not_own i j item (omega arith))
      ∙ not_behind i (j + 1) all (omega arith)

  or_false : (b : Bool) → (b || false) ≡ b
  or_false true = refl
  or_false false = refl

  at_number : (i j k : ℕ) (all : List Item) → i ≡ j + k → has (inside_from j all) (scope i, text) ≡ is_among text (names (slice_get all k))
  at_number i j k [] e = ap (is_among text) (sym none)
  at_number i j zero (item ∷ all) e =
      let same : i ≡ j = omega arith in
      has_append (inside j item) (inside_from (j + 1) all) (scope i, text)
      ∙ ap (λ b. has (inside j item) (scope i, text) || b) (not_behind i (j + 1) all (omega arith))
      ∙ or_false (has (inside j item) (scope i, text))
      ∙ own i j item
      ∙ ap (λ b. b && is_among text (names (Some item))) (ap (nat_eq i) (sym same) ∙ eq_self i)
  at_number i j (suc k) (item ∷ all) e =
      has_append (inside j item) (inside_from (j + 1) all) (scope i, text)
      ∙ ap (λ b. b || has (inside_from (j + 1) all) (scope i, text)) (not_own i j item (omega arith))
      ∙ at_number i (j + 1) k all (omega arith)

pub has_fields : (all : List Item) (item : ℕ) (text : Text) → has (inside_from 0 all) (scopes.Fields item, text) ≡ is_among text (fields_of_format (slice_get all item))
has_fields all item text = at_number (λ i. scopes.Fields i) fields_of_format refl text (λ i j x. fields_inside i j text x) item 0 item all (omega arith)

pub has_parameters : (all : List Item) (item : ℕ) (text : Text) → has (inside_from 0 all) (scopes.Parameters item, text) ≡ is_among text (parameters_of (slice_get all item))
has_parameters all item text = at_number (λ i. scopes.Parameters i) parameters_of refl text (λ i j x. parameters_inside i j text x) item 0 item all (omega arith)

encoding_inside : (j : ℕ) (text : Text) (item : Item) → has (inside j item) (scopes.Encodings, text) ≡ is_encoding_of text item
encoding_inside j text (items.Constant at name value) = refl
encoding_inside j text (items.Using at name meaning) = refl
encoding_inside j text (items.Function at name parameters result body) = no_parameters scopes.Encodings j text parameters refl
encoding_inside j text (items.ProgramCounter at name declared) = refl
encoding_inside j text (items.Memory at name address cell) = refl
encoding_inside j text (items.Register at name declared) = refl
encoding_inside j text (items.RegisterFile at name index declared reset) = refl
encoding_inside j text (items.Format at name declared fields) = no_fields scopes.Encodings j text fields refl
encoding_inside j text (items.Instruction at name format behaviour) = refl
encoding_inside j text (items.Encoding at name fixes) = by (bytes_eq text name.text) ∙ bytes_eq_sym text name.text
  where
    by : (b : Bool) → (b || false) ≡ b
    by true = refl
    by false = refl
encoding_inside j text (items.Assembly at name parts) = refl

encodings_from : (j : ℕ) (text : Text) (all : List Item) → has (inside_from j all) (scopes.Encodings, text) ≡ list_any (is_encoding_of text) all
encodings_from j text [] = refl
encodings_from j text (item ∷ all) =
    has_append (inside j item) (inside_from (j + 1) all) (scopes.Encodings, text)
    ∙ ap (λ b. b || has (inside_from (j + 1) all) (scopes.Encodings, text)) (encoding_inside j text item)
    ∙ ap (λ b. is_encoding_of text item || b) (encodings_from (j + 1) text all)

pub has_encodings : (all : List Item) (name : Name) → has (inside_from 0 all) (scopes.Encodings, name.text) ≡ has_encoding all name
has_encodings all name = encodings_from 0 name.text all

-- The item of a number.

abbrev pub item_at : List Item → Option ℕ → Option Item
item_at all None = None
item_at all (Some number) = slice_get all number

-- the number of the first item that defines a name, counted from k on, is the place of that item
shifted : (k : ℕ) (all : List Item) (text : Text) (number : ℕ) → number_from k all text ≡ Some number → (place : ℕ) × (number ≡ k + place) × (slice_get all place ≡ item_named all text)
shifted k [] text number h = absurd (none-some number h)
shifted k (item ∷ all) text number h = by (shifted (k + 1) all text number) (defines text (definition_of item)) refl
  where
    by : (number_from (k + 1) all text ≡ Some number → (place : ℕ) × (number ≡ (k + 1) + place) × (slice_get all place ≡ item_named all text)) → (b : Bool) → defines text (definition_of item) ≡ b
        → (place : ℕ) × (number ≡ k + place) × (slice_get (item ∷ all) place ≡ (if defines text (definition_of item) then Some item else item_named all text))
    by rest true e =
        let same : k ≡ number = same_Some k number (sym (ap (λ b. if b then Some k else number_from (k + 1) all text) e) ∙ h) in
        (0, omega arith, sym (ap (λ b. if b then Some item else item_named all text) e))
    by rest false e =
        let r = rest (sym (ap (λ b. if b then Some k else number_from (k + 1) all text) e) ∙ h) in
        (suc r.0, omega arith, r.2 ∙ sym (ap (λ b. if b then Some item else item_named all text) e))

not_defined : (k : ℕ) (all : List Item) (text : Text) → number_from k all text ≡ None → item_named all text ≡ None
not_defined k [] text h = refl
not_defined k (item ∷ all) text h = by (not_defined (k + 1) all text) (defines text (definition_of item)) refl
  where
    by : (number_from (k + 1) all text ≡ None → item_named all text ≡ None) → (b : Bool) → defines text (definition_of item) ≡ b → (if defines text (definition_of item) then Some item else item_named all text) ≡ None
    by rest true e = absurd (none-some k (sym h ∙ ap (λ b. if b then Some k else number_from (k + 1) all text) e))
    by rest false e = ap (λ b. if b then Some item else item_named all text) e ∙ rest (sym (ap (λ b. if b then Some k else number_from (k + 1) all text) e) ∙ h)

pub named_at : (all : List Item) (text : Text) → item_at all (number_from 0 all text) ≡ item_named all text
named_at all text = by (number_from 0 all text) refl
  where
    by : (o : Option ℕ) → number_from 0 all text ≡ o → item_at all o ≡ item_named all text
    by None h = sym (not_defined 0 all text h)
    by (Some number) h =
        let s = shifted 0 all text number h in
        let same : number ≡ s.0 = omega (arith, s.1) in
        ap (slice_get all) same ∙ s.2

-- what a name stands for is what its item defines
pub meaning_named : (all : List Item) (text : Text) (item : Item) → Some item ≡ item_named all text → meaning_of (definition_of item) ≡ meaning_in all text
meaning_named [] text item h = absurd (none-some item (sym h))
meaning_named (x ∷ all) text item h = by (meaning_named all text item) (defines text (definition_of x)) refl
  where
    by : (Some item ≡ item_named all text → meaning_of (definition_of item) ≡ meaning_in all text) → (b : Bool) → defines text (definition_of x) ≡ b
        → meaning_of (definition_of item) ≡ (if defines text (definition_of x) then meaning_of (definition_of x) else meaning_in all text)
    by rest true e =
        ap (λ i. meaning_of (definition_of i)) (same_Some item x (h ∙ ap (λ b. if b then Some x else item_named all text) e))
        ∙ sym (ap (λ b. if b then meaning_of (definition_of x) else meaning_in all text) e)
    by rest false e = rest (h ∙ ap (λ b. if b then Some x else item_named all text) e) ∙ sym (ap (λ b. if b then meaning_of (definition_of x) else meaning_in all text) e)

pub meaning_unnamed : (all : List Item) (text : Text) → None ≡ item_named all text → None ≡ meaning_in all text
meaning_unnamed [] text h = refl
meaning_unnamed (x ∷ all) text h = by (meaning_unnamed all text) (defines text (definition_of x)) refl
  where
    by : (None ≡ item_named all text → None ≡ meaning_in all text) → (b : Bool) → defines text (definition_of x) ≡ b → None ≡ (if defines text (definition_of x) then meaning_of (definition_of x) else meaning_in all text)
    by rest true e = absurd (none-some x (h ∙ ap (λ b. if b then Some x else item_named all text) e))
    by rest false e = rest (h ∙ ap (λ b. if b then Some x else item_named all text) e) ∙ sym (ap (λ b. if b then meaning_of (definition_of x) else meaning_in all text) e)

-- what a slice lends at a place
pub got_at : (all : List Item) (place : ℕ) (got : Option (Bor Item)) → IsItemAt all place got → option_copied got ≡ slice_get all place
got_at all place None g = sym (slice_get_past all place g.3)
got_at all place (Some item) g = sym (slice_get_read all (length all) place item.now refl g.3.0 g.1)

-- the item of a number
pub numbered_item : (all : List Item) (text : Text) (number : ℕ) → Some number ≡ number_from 0 all text → slice_get all number ≡ item_named all text
numbered_item all text number h = ap (item_at all) h ∙ named_at all text

pub unnumbered_item : (all : List Item) (text : Text) → None ≡ number_from 0 all text → None ≡ item_named all text
unnumbered_item all text h = ap (item_at all) h ∙ named_at all text

-- the fields of a format by its number
pub numbered_fields : (all : List Item) (text : Text) (number : ℕ) → Some number ≡ number_from 0 all text → fields_of_format (slice_get all number) ≡ fields_of_format (item_named all text)
numbered_fields all text number h = ap (λ o. fields_of_format (item_at all o)) h ∙ ap fields_of_format (named_at all text)

pub unnumbered_fields : (all : List Item) (text : Text) → None ≡ number_from 0 all text → [] ≡ fields_of_format (item_named all text)
unnumbered_fields all text h = ap (λ o. fields_of_format (item_at all o)) h ∙ ap fields_of_format (named_at all text)

-- the fields of the format that an instruction names
pub no_item : (all : List Item) (text : Text) → None ≡ item_named all text → [] ≡ fields_of all text
no_item all text h = ap (fields_of_instruction all) h

by_format : List Item → Option Name → List Text
by_format all None = []
by_format all (Some format) = fields_of_format (item_named all format.text)

format_fields : (all : List Item) (item : Item) → by_format all (format_named item) ≡ fields_of_instruction all (Some item)
unfolding by_format
format_fields all (items.Constant at name value) = refl
format_fields all (items.Using at name meaning) = refl
format_fields all (items.Function at name parameters result body) = refl
format_fields all (items.ProgramCounter at name declared) = refl
format_fields all (items.Memory at name address cell) = refl
format_fields all (items.Register at name declared) = refl
format_fields all (items.RegisterFile at name index declared reset) = refl
format_fields all (items.Format at name declared fields) = refl
format_fields all (items.Instruction at name format behaviour) = refl
format_fields all (items.Encoding at name fixes) = refl
format_fields all (items.Assembly at name parts) = refl

pub no_format : (all : List Item) (text : Text) (item : Item) → Some item ≡ item_named all text → None ≡ format_named item → [] ≡ fields_of all text
unfolding by_format
no_format all text item h e = ap (by_format all) e ∙ format_fields all item ∙ ap (fields_of_instruction all) h

pub with_format : (all : List Item) (text : Text) (item : Item) (format : Name) → Some item ≡ item_named all text → Some format ≡ format_named item → fields_of_format (item_named all format.text) ≡ fields_of all text
unfolding by_format
with_format all text item format h e = ap (by_format all) e ∙ format_fields all item ∙ ap (fields_of_instruction all) h
