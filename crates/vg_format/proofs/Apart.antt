-- The fields of a format share no bit.
use Rattle.std.proofs.Common.{◌≡◌, ◌≢◌, ℕ, zero, suc, ◌+◌, ◌<◌, ◌≤◌, ◌⊎◌, true, false, cond, IsTrue, nat_lt, List, [], ◌∷◌, ◌++◌, slice_get, Option, Some, None, length, flat_map, arith, refl, sym, ap, ◌∙◌, subst, inl, inr}
use Rattle.std.specs.List.{count_by, list_any}
use Rattle.std.specs.Option.{option_map_or}
use Rattle.std.proofs.lemmas.Bool.Decides.{nat_tests}
use Rattle.std.proofs.lemmas.Bool.{cases_lt}
use Rattle.std.proofs.lemmas.List.Sums.{sum_by-append}
use Rattle.vg_isa.specs.declared.isa.Parts.{Parts}
use Rattle.vg_isa.specs.declared.ids.FieldId.{FieldId}
use Rattle.vg_isa.specs.declared.format.Format.{Format}
use Rattle.vg_isa.specs.declared.format.FieldDecl.{FieldDecl}
use Rattle.vg_isa.specs.Declaration.{are_in_word, bits_of, has_field, ranges_of}
use Rattle.vg_isa.specs.Accepted.{names_bit, is_format, is_isa, ranges_in}
use Rattle.vg_isa.proofs.Tests.{both}
use Rattle.vg_isa.proofs.Cover.{cover_each}
use Rattle.vg_isa.proofs.Fields.{KeepsField, field_kept, format_accepted, ranges_in_word}
use Rattle.vg_format.specs.Setting.{is_bit_of}
use Rattle.vg_format.proofs.RangeLemmas.{Once, none_counted, some_counted, unlisted, lies_within, rest_within}

-- the ranges of a list of fields
abbrev ranges_among : List FieldDecl → List (ℕ × ℕ)
ranges_among fields = flat_map (λ (field : FieldDecl). field.ranges) fields

count_append : (k : ℕ) (xs ys : List (ℕ × ℕ)) → count_by (names_bit k) (xs ++ ys) ≡ count_by (names_bit k) xs + count_by (names_bit k) ys
count_append k xs ys = sum_by-append (λ (x : ℕ × ℕ). cond (names_bit k x) 1 0) xs ys

-- what one field counts, all count
one_counts : (k : ℕ) (fields : List FieldDecl) (j : ℕ) (field : FieldDecl) → slice_get fields j ≡ Some field → count_by (names_bit k) field.ranges ≤ count_by (names_bit k) (ranges_among fields)
one_counts k [] j field at = cc
one_counts k (f ∷ fields) zero field at =
    let same : f ≡ field = cc in
    let alike : count_by (names_bit k) f.ranges ≡ count_by (names_bit k) field.ranges = ap (λ (g : FieldDecl). count_by (names_bit k) g.ranges) same in
    let sum : count_by (names_bit k) (f.ranges ++ ranges_among fields) ≡ count_by (names_bit k) f.ranges + count_by (names_bit k) (ranges_among fields) = count_append k f.ranges (ranges_among fields) in
    omega arith
one_counts k (f ∷ fields) (suc j) field at =
    let later : count_by (names_bit k) field.ranges ≤ count_by (names_bit k) (ranges_among fields) = one_counts k fields j field at in
    let sum : count_by (names_bit k) (f.ranges ++ ranges_among fields) ≡ count_by (names_bit k) f.ranges + count_by (names_bit k) (ranges_among fields) = count_append k f.ranges (ranges_among fields) in
    omega arith

-- what two fields count together, all count
two_count : (k : ℕ) (fields : List FieldDecl) (i j : ℕ) (f g : FieldDecl) → i ≢ j → slice_get fields i ≡ Some f → slice_get fields j ≡ Some g → count_by (names_bit k) f.ranges + count_by (names_bit k) g.ranges ≤ count_by (names_bit k) (ranges_among fields)
two_count k [] i j f g differ at_f at_g = cc
two_count k (x ∷ fields) zero zero f g differ at_f at_g = absurd (differ refl)
two_count k (x ∷ fields) zero (suc j) f g differ at_f at_g =
    let same : x ≡ f = cc in
    let alike : count_by (names_bit k) x.ranges ≡ count_by (names_bit k) f.ranges = ap (λ (y : FieldDecl). count_by (names_bit k) y.ranges) same in
    let later : count_by (names_bit k) g.ranges ≤ count_by (names_bit k) (ranges_among fields) = one_counts k fields j g at_g in
    let sum : count_by (names_bit k) (x.ranges ++ ranges_among fields) ≡ count_by (names_bit k) x.ranges + count_by (names_bit k) (ranges_among fields) = count_append k x.ranges (ranges_among fields) in
    omega arith
two_count k (x ∷ fields) (suc i) zero f g differ at_f at_g =
    let same : x ≡ g = cc in
    let alike : count_by (names_bit k) x.ranges ≡ count_by (names_bit k) g.ranges = ap (λ (y : FieldDecl). count_by (names_bit k) y.ranges) same in
    let later : count_by (names_bit k) f.ranges ≤ count_by (names_bit k) (ranges_among fields) = one_counts k fields i f at_f in
    let sum : count_by (names_bit k) (x.ranges ++ ranges_among fields) ≡ count_by (names_bit k) x.ranges + count_by (names_bit k) (ranges_among fields) = count_append k x.ranges (ranges_among fields) in
    omega arith
two_count k (x ∷ fields) (suc i) (suc j) f g differ at_f at_g =
    let later : count_by (names_bit k) f.ranges + count_by (names_bit k) g.ranges ≤ count_by (names_bit k) (ranges_among fields) = two_count k fields i j f g (λ e. differ (ap suc e)) at_f at_g in
    let sum : count_by (names_bit k) (x.ranges ++ ranges_among fields) ≡ count_by (names_bit k) x.ranges + count_by (names_bit k) (ranges_among fields) = count_append k x.ranges (ranges_among fields) in
    omega arith

-- a bit above a word stands in none of its ranges
pub above_none : (word : ℕ) (ranges : List (ℕ × ℕ)) (k : ℕ) → are_in_word word ranges ≡ true → word ≤ k → list_any (names_bit k) ranges ≡ false
above_none word [] k within above = refl
above_none word (r ∷ ranges) k within above =
    let high : r.0 < word = lies_within word r ranges within in
    let out : names_bit k r ≡ false = unnamed_above r k (omega arith) in
    let rest : list_any (names_bit k) ranges ≡ false = above_none word ranges k (rest_within word r ranges within) above in
    rw (out, rest) refl
  where
    unnamed_above : (s : ℕ × ℕ) (i : ℕ) → s.0 < i → names_bit i s ≡ false
    unnamed_above s i h = grind (arith, nat_tests)

-- the ranges of an accepted format have each bit once at most
format_once : (word : ℕ) (format : Format) → IsTrue (is_format word format) → Once (ranges_in format)
format_once word format h k = at (cases_lt k word)
  where
    one_most : 1 ≤ 1
    one_most = omega arith

    none_most : 0 ≤ 1
    none_most = omega arith

    at : (k < word) ⊎ (word ≤ k) → count_by (names_bit k) (ranges_in format) ≤ 1
    at (inl below) = subst (λ n. n ≤ 1) (sym (cover_each word (ranges_in format) (both _ _ h).1 k below)) one_most
    at (inr above) = subst (λ n. n ≤ 1) (sym (unlisted k (ranges_in format) (above_none word (ranges_in format) k (both _ _ (both _ _ h).0).1 above))) none_most

-- ---- a field of a description

pub record IsDeclared (d : Parts) (f : FieldId) : Type 0 where
  pub format : Format
  pub field : FieldDecl
  pub at_format : slice_get d.formats f.format.0 ≡ Some format
  pub at_field : slice_get format.fields f.index ≡ Some field
  pub ranges : ranges_of d f ≡ field.ranges

pub declared : (d : Parts) (f : FieldId) → has_field d f ≡ true → IsDeclared d f
declared d f has = of_format (slice_get d.formats f.format.0) refl has
  where
    ranges_at : Option Format → List (ℕ × ℕ)
    ranges_at o = option_map_or (λ (format : Format). option_map_or (λ (field : FieldDecl). field.ranges) (slice_get format.fields f.index) []) o []

    of_field : (format : Format) (o : Option FieldDecl) → slice_get d.formats f.format.0 ≡ Some format → slice_get format.fields f.index ≡ o → nat_lt 0 (length (option_map_or (λ (field : FieldDecl). field.ranges) o [])) ≡ true → IsDeclared d f
    of_field format None at_format at_field h = absurd (no_range h)
      where
        no_range : nat_lt 0 (length {A = ℕ × ℕ} []) ≡ true → ⊥
        no_range k = cc
    of_field format (Some field) at_format at_field h = record {
      format = format;
      field = field;
      at_format = at_format;
      at_field = at_field;
      ranges = ap (λ o. option_map_or (λ (x : Format). option_map_or (λ (y : FieldDecl). y.ranges) (slice_get x.fields f.index) []) o []) at_format
          ∙ ap (λ o. option_map_or (λ (y : FieldDecl). y.ranges) o []) at_field;
    }

    of_format : (o : Option Format) → slice_get d.formats f.format.0 ≡ o → nat_lt 0 (length (option_map_or (λ (format : Format). option_map_or (λ (field : FieldDecl). field.ranges) (slice_get format.fields f.index) []) o [])) ≡ true → IsDeclared d f
    of_format None at_format h = absurd (no_range h)
      where
        no_range : nat_lt 0 (length {A = ℕ × ℕ} []) ≡ true → ⊥
        no_range k = cc
    of_format (Some format) at_format h = of_field format (slice_get format.fields f.index) at_format refl h

-- the ranges of a field run downwards within the word, and have each bit once at most
pub record KeepsRanges (d : Parts) (ranges : List (ℕ × ℕ)) : Type 0 where
  pub within : are_in_word d.word ranges ≡ true
  pub few : bits_of ranges ≤ d.word
  pub once : Once ranges

pub field_ranges_kept : (d : Parts) (f : FieldId) → IsTrue (is_isa d) → has_field d f ≡ true → KeepsRanges d (ranges_of d f)
field_ranges_kept d f h has =
    let is : IsDeclared d f = declared d f has in
    let keeps : KeepsField d.word is.field = field_kept d f.format.0 f.index is.format is.field h is.at_format is.at_field in
    let whole : Once (ranges_in is.format) = format_once d.word is.format (format_accepted d f.format.0 is.format h is.at_format) in
    let once : Once is.field.ranges = λ k. part_once k (one_counts k is.format.fields f.index is.field is.at_field) (whole k) in
    let all : KeepsRanges d is.field.ranges = record { within = ranges_in_word d.word is.field.ranges keeps.ranges; few = keeps.few; once = once } in
    subst (KeepsRanges d) (sym is.ranges) all
  where
    part_once : {m n : ℕ} (k : ℕ) → m ≤ n → n ≤ 1 → m ≤ 1
    part_once k p q = omega arith

-- different fields of one format share no bit
pub fields_apart : (d : Parts) (f g : FieldId) → IsTrue (is_isa d) → has_field d f ≡ true → has_field d g ≡ true → f.format.0 ≡ g.format.0 → f.index ≢ g.index → (k : ℕ) → is_bit_of d f k ≡ true → is_bit_of d g k ≡ false
fields_apart d f g h has_f has_g format differ k named =
    let p : IsDeclared d f = declared d f has_f in
    let q : IsDeclared d g = declared d g has_g in
    let same : q.format ≡ p.format = one_format (sym q.at_format ∙ ap (slice_get d.formats) (sym format) ∙ p.at_format) in
    let at_g : slice_get p.format.fields g.index ≡ Some q.field = ap (λ (x : Format). slice_get x.fields g.index) (sym same) ∙ q.at_field in
    let whole : count_by (names_bit k) (ranges_in p.format) ≤ 1 = format_once d.word p.format (format_accepted d f.format.0 p.format h p.at_format) k in
    let two : count_by (names_bit k) p.field.ranges + count_by (names_bit k) q.field.ranges ≤ count_by (names_bit k) (ranges_in p.format)
    = two_count k p.format.fields f.index g.index p.field q.field differ p.at_field at_g in
    let here : 1 ≤ count_by (names_bit k) p.field.ranges = some_counted k p.field.ranges (subst (λ ranges. list_any (names_bit k) ranges ≡ true) p.ranges named) in
    let none : count_by (names_bit k) q.field.ranges ≡ 0 = omega arith in
    subst (λ ranges. list_any (names_bit k) ranges ≡ false) (sym q.ranges) (none_counted k q.field.ranges none)
  where
    one_format : {x y : Format} → Some x ≡ Some y → x ≡ y
    one_format e = cc
