use Rattle.std.proofs.Common.{◌≡◌, ℕ, ◌<◌, length, get_or, sym, ap, ◌∙◌, subst, List, IsTrue, false, nat_eq}
use Rattle.std.specs.Option.{option_map_or}
use Rattle.vg_iss.specs.declared.iss.Iss.{Iss}
use Rattle.vg_bits.specs.BitValue.{BitValue}
use Rattle.vg_isa.specs.declared.declaration.RegDecl.{RegDecl}
use Rattle.vg_isa.specs.Declaration.{register_width, has_register}
use Rattle.vg_image.specs.State.{register_number}
use Rattle.vg_iss.specs.Simulator.{state_of}
use Rattle.vg_isa.proofs.Registers.{register_width-at}
use Rattle.vg_image.proofs.Files.{KeepsFile, files_within, kept_file, number_fits}
use Rattle.vg_image.proofs.States.{register_number-at}
use Rattle.vg_iss.proofs.iss.Iss.reg.Goals as goal

kept : (self : Iss) (r i : ℕ) (regs : List RegDecl) (decl : RegDecl) (file numbers : List ℕ) → regs ≡ self.isa.now.regs → decl ≡ get_or regs r decl → file ≡ get_or self.registers.items r file → numbers ≡ file → IsTrue (has_register self.isa.now.regs r i) → KeepsFile self.isa.now.regs self.registers.items r i decl numbers
kept self r i regs decl file numbers all is_decl is_file is_numbers has =
    let declared : decl ≡ get_or self.isa.now.regs r decl = is_decl ∙ ap (λ (xs : List RegDecl). get_or xs r decl) all in
    let here : numbers ≡ get_or self.registers.items r numbers = subst (λ (xs : List ℕ). xs ≡ get_or self.registers.items r xs) (sym is_numbers) is_file in
    kept_file self.isa.now.regs self.registers.items r i decl numbers self.files has declared here

same_bits : {v w m n : ℕ} → v ≡ w → m ≡ n → (let a : BitValue = record { width = v; number = m } in let b : BitValue = record { width = w; number = n } in a ≡ b)
same_bits p q = cc

pub index-requires : goal.index-requires
index-requires c =
    let within : c.args.r.0 < length c.args.self.now.registers.items = files_within c.args.self.now.isa.now.regs c.args.self.now.registers.items c.args.r.0 c.args.i c.args.self.now.files c.requires in
    subst (λ (n : ℕ). c.args.r.0 < n) (sym c.args.self.now.registers.ok.0) within

pub bounds-numbers-i : goal.bounds-numbers-i
bounds-numbers-i c = (kept c.args.self.now c.args.r.0 c.args.i c.regs.result.now c.index-regs-r.result c.index.result.now c.as_slice-numbers.result.now c.regs.ensures.value c.index-regs-r.is c.index.ensures c.as_slice-numbers.ensures c.requires).within

pub of-requires-2 : goal.of-requires-2
of-requires-2 c =
    let file : KeepsFile c.args.self.now.isa.now.regs c.args.self.now.registers.items c.args.r.0 c.args.i c.index-regs-r.result c.as_slice-numbers.result.now = kept c.args.self.now c.args.r.0 c.args.i c.regs.result.now c.index-regs-r.result c.index.result.now c.as_slice-numbers.result.now c.regs.ensures.value c.index-regs-r.is c.index.ensures c.as_slice-numbers.ensures c.requires in
    number_fits c.index-regs-r.result c.as_slice-numbers.result.now c.args.i file.fits file.within

pub returns : goal.returns
returns c =
    let file : KeepsFile c.args.self.now.isa.now.regs c.args.self.now.registers.items c.args.r.0 c.args.i c.index-regs-r.result c.as_slice-numbers.result.now = kept c.args.self.now c.args.r.0 c.args.i c.regs.result.now c.index-regs-r.result c.index.result.now c.as_slice-numbers.result.now c.regs.ensures.value c.index-regs-r.is c.index.ensures c.as_slice-numbers.ensures c.requires in
    let unset : false ≡ option_map_or (λ (z : ℕ). nat_eq z c.args.i) c.index-regs-r.result.zero false = sym c.if-is_zero.false ∙ c.is_zero.ensures in
    let width : register_width c.args.self.now.isa.now.regs c.args.r.0 ≡ c.index-regs-r.result.width = register_width-at c.args.self.now.isa.now.regs c.args.r.0 c.index-regs-r.result file.declared in
    let number : register_number c.args.self.now.isa.now (state_of c.args.self.now) c.args.r.0 c.args.i ≡ get_or c.as_slice-numbers.result.now c.args.i 0 =
    register_number-at c.args.self.now.isa.now (state_of c.args.self.now) c.args.r.0 c.args.i c.index-regs-r.result c.as_slice-numbers.result.now file.declared file.here unset in
    c.of-2.ensures ∙ same_bits (sym width) (sym number)
