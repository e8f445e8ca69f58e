-- What a state reads at a register, and how a write changes it.
use Rattle.std.proofs.Common.{◌≡◌, ℕ, Bool, false, nat_eq, List, [], slice_get, slice_set, Some, Option, unwrap_or, sym, ap, ◌∙◌, get_or, if◌then◌else◌}
use Rattle.std.specs.Option.{option_map_or}
use Rattle.vg_isa.specs.declared.isa.Parts.{Parts}
use Rattle.vg_isa.specs.declared.declaration.RegDecl.{RegDecl}
use Rattle.vg_image.specs.State.{State, is_zero_register, numbers_of, register_number, register_written}

-- whether a declared register reads as 0
zero_at : (regs : List RegDecl) (r i : ℕ) (decl : RegDecl) → slice_get regs r ≡ Some decl → is_zero_register regs r i ≡ option_map_or (λ (z : ℕ). nat_eq z i) decl.zero false
zero_at regs r i decl declared = ap (λ (o : Option RegDecl). option_map_or (λ (x : RegDecl). option_map_or (λ (z : ℕ). nat_eq z i) x.zero false) o false) declared

numbers_of-at : (s : State) (r : ℕ) (numbers : List ℕ) → slice_get s.registers r ≡ Some numbers → numbers_of s r ≡ numbers
numbers_of-at s r numbers here = ap (λ (o : Option (List ℕ)). unwrap_or o []) here

-- what a register reads that isn't the zero register
pub register_number-at : (d : Parts) (s : State) (r i : ℕ) (decl : RegDecl) (numbers : List ℕ) → slice_get d.regs r ≡ Some decl → slice_get s.registers r ≡ Some numbers → false ≡ option_map_or (λ (z : ℕ). nat_eq z i) decl.zero false → register_number d s r i ≡ get_or numbers i 0
register_number-at d s r i decl numbers declared here unset =
    let zero : is_zero_register d.regs r i ≡ false = zero_at d.regs r i decl declared ∙ sym unset in
    ap (λ (b : Bool). if b then 0 else get_or (numbers_of s r) i 0) zero ∙ ap (λ (xs : List ℕ). get_or xs i 0) (numbers_of-at s r numbers here)

-- a write of a register that isn't the zero register
pub register_written-at : (d : Parts) (s : State) (r i n : ℕ) (decl : RegDecl) (numbers : List ℕ) → slice_get d.regs r ≡ Some decl → slice_get s.registers r ≡ Some numbers → false ≡ option_map_or (λ (z : ℕ). nat_eq z i) decl.zero false → register_written d r i n s ≡ record { pc = s.pc; registers = slice_set s.registers r (slice_set numbers i n); bytes = s.bytes }
register_written-at d s r i n decl numbers declared here unset =
    let zero : is_zero_register d.regs r i ≡ false = zero_at d.regs r i decl declared ∙ sym unset in
    let written : List ℕ → State = λ (xs : List ℕ). record { pc = s.pc; registers = slice_set s.registers r (slice_set xs i n); bytes = s.bytes } in
    ap (λ (b : Bool). if b then s else written (numbers_of s r)) zero ∙ ap written (numbers_of-at s r numbers here)
