-- Instructions that do nothing, and a format of two fields, keep the rules.
use Rattle.std.proofs.Common.{◌≡◌, ℕ, ◌+◌, ◌-◌, ◌^◌, ◌&&◌, ◌⊎◌, Bool, true, IsTrue, nat_eq, nat_lt, List, [], ◌∷◌, ◌++◌, slice_get, None, refl, sym, subst, inl, inr, arith}
use Rattle.std.specs.List.{list_all}
use Rattle.std.specs.Option.{option_map_or}
use Rattle.std.proofs.lemmas.Bool.{and_from as conjunction}
use Rattle.std.proofs.lemmas.Bool.Decides.{nat_tests}
use Rattle.vg_bits.specs.BitValue.{BitValue}
use Rattle.vg_isa.specs.declared.isa.Parts.{Parts}
use Rattle.vg_isa.specs.declared.ids.FieldId.{FieldId}
use Rattle.vg_isa.specs.declared.instr.Instr.{Instr}
use Rattle.vg_isa.specs.declared.format.Format.{Format}
use Rattle.vg_isa.specs.declared.format.FieldDecl.{FieldDecl}
use Rattle.vg_isa.specs.Declaration.{are_in_word, bits_of, ranges_of}
use Rattle.vg_isa.specs.Accepted.{is_cover, is_fixed, is_format, is_instr, is_machine_width}
use Rattle.vg_isa.proofs.Tests.{both}

-- ---- the format

abbrev pub IsMachineWidth : ℕ → Type 0
IsMachineWidth n = (n ≡ 16) ⊎ ((n ≡ 32) ⊎ (n ≡ 64))

pub machine_width : (n : ℕ) → IsTrue (is_machine_width n) → IsMachineWidth n
machine_width n is = grind (arith, nat_tests)

pub by_width : (P : ℕ → Type 0) (n : ℕ) → IsMachineWidth n → P 16 → P 32 → P 64 → P n
by_width P n is small middle large =
    elim is [ inl e ↦ subst P (sym e) small | inr w ↦ elim w [ inl e ↦ subst P (sym e) middle | inr e ↦ subst P (sym e) large ] ]

-- the lowest nine bits, and those above
abbrev halves : ℕ → List (ℕ × ℕ)
halves word = (8, 0) ∷ (word - 1, 9) ∷ []

pub covered : (word : ℕ) (name : List ℕ) (x y : FieldDecl) → IsTrue (is_machine_width word) → x.ranges ≡ (8, 0) ∷ [] → y.ranges ≡ (word - 1, 9) ∷ [] → IsTrue (is_format word (record { name = name; fields = x ∷ y ∷ [] }))
covered word name x y is low high =
    let cover : (are_in_word word (halves word) && is_cover word (halves word)) ≡ true =
    by_width (λ n. (are_in_word n (halves n) && is_cover n (halves n)) ≡ true) word (machine_width word is) refl refl refl in
    rw (low, high) cover

-- ---- instructions

-- a field of the first format
abbrev pub field_at : ℕ → FieldId
field_at index = record { format = record { 0 = 0 }; index = index }

-- an instruction of the first format that does nothing, and fixes these fields
abbrev pub idle : List (FieldId × BitValue) → Instr
idle fixed = record {
  name = 73 ∷ [];
  format = record { 0 = 0 };
  fixed = fixed;
  writes = [];
  next = None;
  template = None;
  next_spots = None;
  read_spot = None;
}

pub free_kept : (d : Parts) (f : Format) → d.formats ≡ f ∷ [] → IsTrue (is_instr d (idle []))
unfolding is_instr
free_kept d f is = rw is refl

-- the ranges of a field of the first format
abbrev pub ranges_at : Format → ℕ → List (ℕ × ℕ)
ranges_at f index = option_map_or (λ (x : FieldDecl). x.ranges) (slice_get f.fields index) []

-- a field of one range, fixed to a number of its width
pub fixed_kept : (d : Parts) (f : Format) (index high low width number : ℕ) → d.formats ≡ f ∷ [] → ranges_at f index ≡ (high, low) ∷ [] → (nat_eq width (bits_of ((high, low) ∷ [])) && nat_lt number (2 ^ width)) ≡ true → IsTrue (is_fixed d (record { 0 = 0 }) (field_at index, record { width = width; number = number }))
fixed_kept d f index high low width number is ranges fit =
    let one : ranges_of d (field_at index) ≡ (high, low) ∷ [] = rw is ranges in
    rw one fit

pub fixing_kept : (d : Parts) (f : Format) (fix : FieldId × BitValue) → d.formats ≡ f ∷ [] → IsTrue (is_fixed d (record { 0 = 0 }) fix) → IsTrue (is_instr d (idle (fix ∷ [])))
unfolding is_instr
fixing_kept d f fix is fits = rw (fits, is) refl

-- one more
pub all_more : {X : Type 0} (p : X → Bool) (xs : List X) (x : X) → list_all p xs ≡ true → p x ≡ true → list_all p (xs ++ x ∷ []) ≡ true
all_more p [] x all this = conjunction _ _ this refl
all_more p (y ∷ xs) x all this =
    let split = both (p y) (list_all p xs) all in
    conjunction _ _ split.0 (all_more p xs x split.1 this)

-- an instruction that fixes a field of one range to a number of its width
pub one_kept : (d : Parts) (f : Format) (index high low width number : ℕ) → d.formats ≡ f ∷ [] → ranges_at f index ≡ (high, low) ∷ [] → (nat_eq width (bits_of ((high, low) ∷ [])) && nat_lt number (2 ^ width)) ≡ true → IsTrue (is_instr d (idle ((field_at index, record { width = width; number = number }) ∷ [])))
one_kept d f index high low width number is ranges fit =
    fixing_kept d f (field_at index, record { width = width; number = number }) is (fixed_kept d f index high low width number is ranges fit)
