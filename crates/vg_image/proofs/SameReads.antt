-- Two states that read alike are one.
use Rattle.std.proofs.Common.{◌≡◌, ℕ, zero, suc, ◌<◌, ◌≤◌, ◌^◌, Bool, true, false, IsTrue, nat_eq, nat_lt, List, [], ◌∷◌, slice_get, slice_index, Some, None, Option, unwrap_or, arith, refl, sym, ap, ◌∙◌, subst, if◌then◌else◌}
use Rattle.std.specs.Option.{option_map_or}
use Rattle.std.proofs.lemmas.Grind.{same_number_lists}
use Rattle.vg_bits.specs.BitValue.{BitValue}
use Rattle.vg_isa.specs.declared.isa.Parts.{Parts}
use Rattle.vg_isa.specs.declared.declaration.RegDecl.{RegDecl}
use Rattle.vg_isa.specs.Declaration.{has_register, register_count}
use Rattle.vg_isa.specs.Value.{ReadAlike}
use Rattle.vg_isa.proofs.Tests.{both, nat_lt-true, true-nat_eq}
use Rattle.vg_mem.proofs.Bytes.{bytes_same}
use Rattle.vg_image.specs.State.{IsState, State, are_files, is_file_of, is_zero_register, reads_of}
use Rattle.vg_image.proofs.Files.{length-file}

-- what is read of a declaration's numbers
abbrev read_at : RegDecl → List ℕ → ℕ → ℕ
read_at decl numbers i = if option_map_or (λ (z : ℕ). nat_eq z i) decl.zero false then 0 else slice_index numbers i

zero_number : (o : Option ℕ) (numbers : List ℕ) (i : ℕ) → option_map_or (λ (z : ℕ). nat_eq (slice_index numbers z) 0) o true ≡ true → option_map_or (λ (z : ℕ). nat_eq z i) o false ≡ true → slice_index numbers i ≡ 0
zero_number None numbers i h here = cc
zero_number (Some z) numbers i h here = subst (λ (k : ℕ). slice_index numbers k ≡ 0) (true-nat_eq z i here) (true-nat_eq _ 0 h)

-- the numbers are what is read of them
read_number : (decl : RegDecl) (numbers : List ℕ) (i : ℕ) → IsTrue (is_file_of decl numbers) → read_at decl numbers i ≡ slice_index numbers i
read_number decl numbers i h = of (option_map_or (λ (z : ℕ). nat_eq z i) decl.zero false) refl
  where
    of : (b : Bool) → option_map_or (λ (z : ℕ). nat_eq z i) decl.zero false ≡ b → (if b then 0 else slice_index numbers i) ≡ slice_index numbers i
    of true e = sym (zero_number decl.zero numbers i (both _ _ h).1 e)
    of false e = refl

file_same : (decl : RegDecl) (xs ys : List ℕ) → IsTrue (is_file_of decl xs) → IsTrue (is_file_of decl ys) → ((i : ℕ) → i < register_count decl → read_at decl xs i ≡ read_at decl ys i) → xs ≡ ys
file_same decl xs ys g h alike =
    same_number_lists xs ys (length-file decl xs g ∙ sym (length-file decl ys h))
    (λ k within. sym (read_number decl xs k g) ∙ alike k (subst (λ (n : ℕ). k < n) (length-file decl xs g) within) ∙ read_number decl ys k h)

abbrev read_of : List RegDecl → List (List ℕ) → ℕ → ℕ → ℕ
read_of regs files r i = if is_zero_register regs r i then 0 else slice_index (unwrap_or (slice_get files r) []) i

files_same : (regs : List RegDecl) (xs ys : List (List ℕ)) → IsTrue (are_files regs xs) → IsTrue (are_files regs ys) → ((r i : ℕ) → IsTrue (has_register regs r i) → read_of regs xs r i ≡ read_of regs ys r i) → xs ≡ ys
files_same [] [] [] g h alike = refl
files_same [] [] (y ∷ ys) g h alike = cc
files_same [] (x ∷ xs) ys g h alike = cc
files_same (decl ∷ regs) [] ys g h alike = cc
files_same (decl ∷ regs) (x ∷ xs) [] g h alike = cc
files_same (decl ∷ regs) (x ∷ xs) (y ∷ ys) g h alike =
    let left = both (is_file_of decl x) (are_files regs xs) g in
    let right = both (is_file_of decl y) (are_files regs ys) h in
    let here : x ≡ y = file_same decl x y left.0 right.0 (λ i within. alike zero i (nat_lt-true _ _ within)) in
    let rest : xs ≡ ys = files_same regs xs ys left.1 right.1 (λ r i has. alike (suc r) i has) in
    λ j. here j ∷ rest j

pub same_states : (d : Parts) (s t : State) → IsState d s → IsState d t → ReadAlike d (reads_of d s) (reads_of d t) → s ≡ t
same_states d s t g h alike =
    let pc : s.pc ≡ t.pc = ap (λ (v : BitValue). v.number) alike.pc in
    let registers : s.registers ≡ t.registers = files_same d.regs s.registers t.registers g.files h.files (λ r i has. ap (λ (v : BitValue). v.number) (alike.reg r i has)) in
    let bytes : s.bytes ≡ t.bytes = bytes_same (2 ^ d.pc.width) s.bytes t.bytes g.bytes h.bytes alike.byte in
    λ j. record { pc = pc j; registers = registers j; bytes = bytes j }
