-- A word with one field after another set.
use Rattle.std.proofs.Common.{◌≡◌, ℕ, ◌<◌, ◌^◌, ◌⊎◌, Bool, true, false, ◌&&◌, IsTrue, nat_eq, not, List, [], ◌∷◌, ◌++◌, slice_get, length, Option, Some, None, refl, sym, ap, ◌∙◌, subst, inl, inr}
use Rattle.std.specs.Int.{bit_at}
use Rattle.std.specs.List.{list_all, list_any}
use Rattle.std.specs.Option.{option_map_or}
use Rattle.std.proofs.lemmas.Bool.{and_parts, and_from, or_parts, or_cases, or_left, or_right, not-true}
use Rattle.std.proofs.lemmas.Nat.Bits.{same_from_bits, bit_at-zero}
use Rattle.std.proofs.lemmas.Option.{slice_get_within}
use Rattle.std.proofs.lemmas.List.Folds.{list_all-append}
use Rattle.vg_bits.specs.BitValue.{BitValue, bit_value}
use Rattle.vg_isa.specs.declared.isa.Parts.{Parts}
use Rattle.vg_isa.specs.declared.ids.FieldId.{FieldId}
use Rattle.vg_isa.specs.declared.ids.FormatId.{FormatId}
use Rattle.vg_isa.specs.declared.instr.Instr.{Instr}
use Rattle.vg_isa.specs.Declaration.{bits_of, bits_in, has_field, ranges_of}
use Rattle.vg_isa.specs.Typing.{fits}
use Rattle.vg_isa.specs.Accepted.{is_field_of, is_fixed, is_isa}
use Rattle.vg_isa.specs.Same.{all_differ, same_field}
use Rattle.vg_isa.proofs.Tests.{true-nat_eq, true-nat_lt, nat_eq-true}
use Rattle.vg_isa.proofs.Kept.{fixed_kept, instr_typed}
use Rattle.vg_format.specs.Replaced.{with_ranges, with_fields}
use Rattle.vg_format.specs.Setting.{is_bit_of}
use Rattle.vg_format.specs.Matching.{matches, matches_at}
use Rattle.vg_format.specs.Encoding.{IsEncoded, can_give, fixed_by, have_values, is_bit_of_any}
use Rattle.vg_format.proofs.RangeLemmas.{ranges_keep, same_reading, same_bits}
use Rattle.vg_format.proofs.Apart.{field_ranges_kept}
use Rattle.vg_format.proofs.FieldLemmas.{sets_field, different_apart, field_below, same_value}

-- what a field with a value keeps
pub record KeepsGiven (d : Parts) (format : FormatId) (give : FieldId × BitValue) : Type 0 where
  pub has : has_field d give.0 ≡ true
  pub of_format : give.0.format.0 ≡ format.0
  pub width : give.1.width ≡ bits_of (ranges_of d give.0)
  pub small : give.1.number < 2 ^ give.1.width

pub given_kept : (d : Parts) (format : FormatId) (give : FieldId × BitValue) → is_fixed d format give ≡ true → KeepsGiven d format give
given_kept d format give h =
    let two = and_parts (is_field_of d format give.0 && nat_eq give.1.width (bits_of (ranges_of d give.0))) (fits give.1.width give.1.number) h in
    let one = and_parts (is_field_of d format give.0) (nat_eq give.1.width (bits_of (ranges_of d give.0))) two.0 in
    let field = and_parts (nat_eq give.0.format.0 format.0) (has_field d give.0) one.0 in
    record {
      has = field.1;
      of_format = true-nat_eq give.0.format.0 format.0 field.0;
      width = true-nat_eq give.1.width (bits_of (ranges_of d give.0)) one.1;
      small = true-nat_lt give.1.number (2 ^ give.1.width) two.1;
    }

module _ (d : Parts) (h : IsTrue (is_isa d)) (format : FormatId) where
  abbrev AllGiven : List (FieldId × BitValue) → Type 0
  AllGiven fields = list_all (is_fixed d format) fields ≡ true

  first_given : (give : FieldId × BitValue) (fields : List (FieldId × BitValue)) → AllGiven (give ∷ fields) → KeepsGiven d format give
  first_given give fields all = given_kept d format give (and_parts (is_fixed d format give) (list_all (is_fixed d format) fields) all).0

  rest_given : (give : FieldId × BitValue) (fields : List (FieldId × BitValue)) → AllGiven (give ∷ fields) → AllGiven fields
  rest_given give fields all = (and_parts (is_fixed d format give) (list_all (is_fixed d format) fields) all).1

  -- a bit of no field of the list stays
  pub fields_keep : (fields : List (FieldId × BitValue)) (word k : ℕ) → AllGiven fields → is_bit_of_any d fields k ≡ false → bit_at (with_fields d fields word) k ≡ bit_at word k
  fields_keep [] word k all out = refl
  fields_keep (give ∷ fields) word k all out =
      let parts = or_parts (is_bit_of d give.0 k) (is_bit_of_any d fields k) out in
      let within = (field_ranges_kept d give.0 h (first_given give fields all).has).within in
      fields_keep fields (with_ranges (ranges_of d give.0) word give.1.number) k (rest_given give fields all) parts.1
      ∙ ranges_keep d.word (ranges_of d give.0) word give.1.number k within parts.0

  pub fields_below : (fields : List (FieldId × BitValue)) (word : ℕ) → AllGiven fields → word < 2 ^ d.word → with_fields d fields word < 2 ^ d.word
  fields_below [] word all small = small
  fields_below (give ∷ fields) word all small =
      fields_below fields (with_ranges (ranges_of d give.0) word give.1.number) (rest_given give fields all)
      (field_below d give.0 word give.1.number h (first_given give fields all).has small)

  -- a bit of a field that is none of the list is a bit of none of them
  apart_from_all : (f : FieldId) (fields : List (FieldId × BitValue)) (k : ℕ) → has_field d f ≡ true → f.format.0 ≡ format.0 → AllGiven fields → list_any (λ (g : FieldId × BitValue). same_field f g.0) fields ≡ false → is_bit_of d f k ≡ true → is_bit_of_any d fields k ≡ false
  apart_from_all f [] k has same all differ named = refl
  apart_from_all f (give ∷ fields) k has same all differ named =
      let parts = or_parts (same_field f give.0) (list_any (λ (g : FieldId × BitValue). same_field f g.0) fields) differ in
      let given = first_given give fields all in
      let here : is_bit_of d give.0 k ≡ false = different_apart d f give.0 k h has given.has (same ∙ sym given.of_format) parts.0 named in
      let later : is_bit_of_any d fields k ≡ false = apart_from_all f fields k has same (rest_given give fields all) parts.1 named in
      rw (here, later) refl

  -- different fields all have their values
  pub fields_have : (fields : List (FieldId × BitValue)) (word : ℕ) → AllGiven fields → all_differ (λ (f g : FieldId × BitValue). same_field f.0 g.0) fields ≡ true → have_values d (with_fields d fields word) fields ≡ true
  fields_have [] word all differ = refl
  fields_have (give ∷ fields) word all differ =
      let parts = and_parts (not (list_any (λ (g : FieldId × BitValue). same_field give.0 g.0) fields)) (all_differ (λ (f g : FieldId × BitValue). same_field f.0 g.0) fields) differ in
      let given = first_given give fields all in
      let next = with_ranges (ranges_of d give.0) word give.1.number in
      let sets = sets_field d give.0 (bit_value d.word word) give.1 h given.has given.width given.small in
      let kept : bits_in (ranges_of d give.0) (with_fields d fields next) ≡ bits_in (ranges_of d give.0) next
      = same_reading (ranges_of d give.0) (with_fields d fields next) next (λ k named. fields_keep fields next k (rest_given give fields all)
      (apart_from_all give.0 fields k given.has given.of_format (rest_given give fields all) (not-true _ parts.0) named)) in
      let reads : bits_in (ranges_of d give.0) next ≡ give.1.number = ap (λ (v : BitValue). v.number) sets.reads in
      and_from (nat_eq (bits_in (ranges_of d give.0) (with_fields d fields next)) give.1.number) (have_values d (with_fields d fields next) fields)
      (nat_eq-true _ _ (kept ∙ reads)) (fields_have fields next (rest_given give fields all) parts.1)

pub fields_append : (d : Parts) (xs ys : List (FieldId × BitValue)) (word : ℕ) → with_fields d (xs ++ ys) word ≡ with_fields d ys (with_fields d xs word)
fields_append d [] ys word = refl
fields_append d (give ∷ xs) ys word = fields_append d xs ys (with_ranges (ranges_of d give.0) word give.1.number)

-- words in which fields have the same values have the same bits there
pub values_agree : (d : Parts) (fields : List (FieldId × BitValue)) (a b k : ℕ) → have_values d a fields ≡ true → have_values d b fields ≡ true → is_bit_of_any d fields k ≡ true → bit_at a k ≡ bit_at b k
values_agree d [] a b k p q named = cc
values_agree d (give ∷ fields) a b k p q named =
    let here = and_parts (nat_eq (bits_in (ranges_of d give.0) a) give.1.number) (have_values d a fields) p in
    let there = and_parts (nat_eq (bits_in (ranges_of d give.0) b) give.1.number) (have_values d b fields) q in
    let alike : bits_in (ranges_of d give.0) a ≡ bits_in (ranges_of d give.0) b = true-nat_eq _ _ here.0 ∙ sym (true-nat_eq _ _ there.0) in
    at (same_bits (ranges_of d give.0) a b alike k) (values_agree d fields a b k here.1 there.1) (or_cases (is_bit_of d give.0 k) (is_bit_of_any d fields k) named)
  where
    at : (is_bit_of d give.0 k ≡ true → bit_at a k ≡ bit_at b k) → (is_bit_of_any d fields k ≡ true → bit_at a k ≡ bit_at b k) → (is_bit_of d give.0 k ≡ true) ⊎ (is_bit_of_any d fields k ≡ true) → bit_at a k ≡ bit_at b k
    at first rest (inl e) = first e
    at first rest (inr e) = rest e

-- and the other way round
pub values_carry : (d : Parts) (fields : List (FieldId × BitValue)) (a b : ℕ) → have_values d a fields ≡ true → ((k : ℕ) → is_bit_of_any d fields k ≡ true → bit_at a k ≡ bit_at b k) → have_values d b fields ≡ true
values_carry d [] a b p same = refl
values_carry d (give ∷ fields) a b p same =
    let here = and_parts (nat_eq (bits_in (ranges_of d give.0) a) give.1.number) (have_values d a fields) p in
    let alike : bits_in (ranges_of d give.0) a ≡ bits_in (ranges_of d give.0) b
    = same_reading (ranges_of d give.0) a b (λ k e. same k (or_left (is_bit_of d give.0 k) (is_bit_of_any d fields k) e)) in
    and_from (nat_eq (bits_in (ranges_of d give.0) b) give.1.number) (have_values d b fields) (nat_eq-true _ _ (sym alike ∙ true-nat_eq _ _ here.0))
    (values_carry d fields a b here.1 (λ k e. same k (or_right (is_bit_of d give.0 k) (is_bit_of_any d fields k) e)))

-- ---- the word of an instruction

-- what can be given to an instruction
pub record CanGive (d : Parts) (i : ℕ) (fields : List (FieldId × BitValue)) : Type 0 where
  pub instr : Instr
  pub at : slice_get d.instrs i ≡ Some instr
  pub given : list_all (is_fixed d instr.format) fields ≡ true
  pub differ : all_differ (λ (f g : FieldId × BitValue). same_field f.0 g.0) (instr.fixed ++ fields) ≡ true

pub can_give_kept : (d : Parts) (i : ℕ) (fields : List (FieldId × BitValue)) → can_give d i fields ≡ true → CanGive d i fields
can_give_kept d i fields h = of (slice_get d.instrs i) refl h
  where
    of : (o : Option Instr) → slice_get d.instrs i ≡ o → option_map_or (λ (instr : Instr). list_all (is_fixed d instr.format) fields && all_differ (λ (f g : FieldId × BitValue). same_field f.0 g.0) (instr.fixed ++ fields)) o false ≡ true → CanGive d i fields
    of None at h = cc
    of (Some instr) at h =
        let parts = and_parts (list_all (is_fixed d instr.format) fields) (all_differ (λ (f g : FieldId × BitValue). same_field f.0 g.0) (instr.fixed ++ fields)) h in
        record { instr = instr; at = at; given = parts.0; differ = parts.1 }

pub can_give_within : (d : Parts) (i : ℕ) (fields : List (FieldId × BitValue)) → can_give d i fields ≡ true → i < length d.instrs
can_give_within d i fields h = let can : CanGive d i fields = can_give_kept d i fields h in slice_get_within d.instrs i can.instr can.at

pub given_to : (d : Parts) (i : ℕ) (fields : List (FieldId × BitValue)) (instr : Instr) → can_give d i fields ≡ true → slice_get d.instrs i ≡ Some instr → list_all (is_fixed d instr.format) fields ≡ true
given_to d i fields instr h at =
    let kept : CanGive d i fields = can_give_kept d i fields h in
    subst (λ (x : Instr). list_all (is_fixed d x.format) fields ≡ true) (one_instr (sym kept.at ∙ at)) kept.given
  where
    one_instr : {x y : Instr} → Some x ≡ Some y → x ≡ y
    one_instr e = cc

-- setting the fixed fields, and then those given, gives the word of the instruction
pub fields_encode : (d : Parts) (i : ℕ) (fields : List (FieldId × BitValue)) (instr : Instr) → IsTrue (is_isa d) → can_give d i fields ≡ true → slice_get d.instrs i ≡ Some instr → IsEncoded d i fields (bit_value d.word (with_fields d fields (with_fields d instr.fixed 0)))
fields_encode d i fields instr h can at =
    let kept : CanGive d i fields = can_give_kept d i fields can in
    let same : kept.instr ≡ instr = one_instr (sym kept.at ∙ at) in
    let given : list_all (is_fixed d instr.format) fields ≡ true = subst (λ (x : Instr). list_all (is_fixed d x.format) fields ≡ true) same kept.given in
    let differ : all_differ (λ (f g : FieldId × BitValue). same_field f.0 g.0) (instr.fixed ++ fields) ≡ true
    = subst (λ (x : Instr). all_differ (λ (f g : FieldId × BitValue). same_field f.0 g.0) (x.fixed ++ fields) ≡ true) same kept.differ in
    let fixed : list_all (is_fixed d instr.format) instr.fixed ≡ true = fixed_kept d instr (instr_typed d i instr h at) in
    let all : list_all (is_fixed d instr.format) (instr.fixed ++ fields) ≡ true = list_all-append (is_fixed d instr.format) instr.fixed fields ∙ and_from _ _ fixed given in
    let word = with_fields d fields (with_fields d instr.fixed 0) in
    let whole : with_fields d (instr.fixed ++ fields) 0 ≡ word = fields_append d instr.fixed fields 0 in
    let have : have_values d word (instr.fixed ++ fields) ≡ true
    = subst (λ w. have_values d w (instr.fixed ++ fields) ≡ true) whole (fields_have d h instr.format (instr.fixed ++ fields) 0 all differ) in
    let both = and_parts (have_values d word instr.fixed) (have_values d word fields) (sym (list_all-append (λ (give : FieldId × BitValue). nat_eq (bits_in (ranges_of d give.0) word) give.1.number) instr.fixed fields) ∙ have) in
    let fixed_is : fixed_by d i ≡ instr.fixed = ap (λ o. option_map_or (λ (x : Instr). x.fixed) o []) at in
    record {
      width = refl;
      matches = ap (λ o. option_map_or (matches d word) o false) at ∙ both.0;
      given = both.1;
      rest = λ k out. ap (λ w. bit_at w k) (sym whole)
          ∙ fields_keep d h instr.format (instr.fixed ++ fields) 0 k all (subst (λ xs. is_bit_of_any d (xs ++ fields) k ≡ false) fixed_is out) ∙ bit_at-zero k;
    }
  where
    one_instr : {x y : Instr} → Some x ≡ Some y → x ≡ y
    one_instr e = cc

-- what an instruction matches has the values that its encoding fixes
fixed_have : (d : Parts) (word i : ℕ) → matches_at d word i ≡ true → have_values d word (fixed_by d i) ≡ true
fixed_have d word i h = of (slice_get d.instrs i) h
  where
    of : (o : Option Instr) → option_map_or (matches d word) o false ≡ true → have_values d word (option_map_or (λ (x : Instr). x.fixed) o []) ≡ true
    of None h = cc
    of (Some instr) h = h

all_have : (d : Parts) (i : ℕ) (fields : List (FieldId × BitValue)) (word : BitValue) → IsEncoded d i fields word → have_values d word.number (fixed_by d i ++ fields) ≡ true
all_have d i fields word is =
    list_all-append (λ (give : FieldId × BitValue). nat_eq (bits_in (ranges_of d give.0) word.number) give.1.number) (fixed_by d i) fields
    ∙ and_from _ _ (fixed_have d word.number i is.matches) is.given

-- an instruction with given fields has one word
pub one_word : (d : Parts) (i : ℕ) (fields : List (FieldId × BitValue)) (a b : BitValue) → IsEncoded d i fields a → IsEncoded d i fields b → a ≡ b
one_word d i fields a b p q = same_value a b (p.width ∙ sym q.width) (same_from_bits a.number b.number (λ k. at k (is_bit_of_any d (fixed_by d i ++ fields) k) refl))
  where
    at : (k : ℕ) (s : Bool) → is_bit_of_any d (fixed_by d i ++ fields) k ≡ s → bit_at a.number k ≡ bit_at b.number k
    at k true e = values_agree d (fixed_by d i ++ fields) a.number b.number k (all_have d i fields a p) (all_have d i fields b q) e
    at k false e = p.rest k e ∙ sym (q.rest k e)
