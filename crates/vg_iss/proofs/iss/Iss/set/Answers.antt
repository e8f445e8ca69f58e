use Rattle.std.proofs.Common.{◌≡◌, ℕ, ◌<◌, ◌^◌, length, get_or, slice_set, sym, ap, ◌∙◌, subst, List, IsTrue, false, nat_eq}
use Rattle.std.specs.Option.{option_map_or}
use Rattle.vg_isa.specs.Declaration.{has_register}
use Rattle.vg_image.specs.State.{is_file_of}
use Rattle.vg_iss.specs.declared.iss.Iss.{Iss}
use Rattle.std.specs.FinMap.{empty}
use Rattle.vg_isa.specs.declared.declaration.RegDecl.{RegDecl}
use Rattle.vg_image.specs.State.{State}
use Rattle.vg_iss.specs.Simulator.{state_of}
use Rattle.vg_isa.proofs.Registers.{register_width-at}
use Rattle.vg_image.proofs.Files.{KeepsFile, files_within, kept_file, set_fits, set_files}
use Rattle.vg_image.proofs.States.{register_written-at}
use Rattle.vg_iss.proofs.iss.Iss.set.Goals as goal

kept : (self : Iss) (r i : ℕ) (regs : List RegDecl) (decl : RegDecl) (numbers : List ℕ) → regs ≡ self.isa.now.regs → decl ≡ get_or regs r decl → numbers ≡ get_or self.registers.items r numbers → IsTrue (has_register self.isa.now.regs r i) → KeepsFile self.isa.now.regs self.registers.items r i decl numbers
kept self r i regs decl numbers all is_decl here has =
    let declared : decl ≡ get_or self.isa.now.regs r decl = is_decl ∙ ap (λ (xs : List RegDecl). get_or xs r decl) all in
    kept_file self.isa.now.regs self.registers.items r i decl numbers self.files has declared here

pub index_mut-numbers-requires : goal.index_mut-numbers-requires
index_mut-numbers-requires c =
    let within : c.args.r.0 < length c.args.self.now.registers.items = files_within c.args.self.now.isa.now.regs c.args.self.now.registers.items c.args.r.0 c.args.index c.args.self.now.files c.requires.register in
    subst (λ (n : ℕ). c.args.r.0 < n) (sym c.args.self.now.registers.ok.0) within

pub set-requires : goal.set-requires
set-requires c = (kept c.args.self.now c.args.r.0 c.args.index c.regs.result.now c.index-regs-r.result c.index_mut-numbers.result.now c.regs.ensures.value c.index-regs-r.is c.index_mut-numbers.ensures.value c.requires.register).within

pub invariant_of-self-clause-files : goal.invariant_of-self-clause-files
invariant_of-self-clause-files c =
    let file : KeepsFile c.args.self.now.isa.now.regs c.args.self.now.registers.items c.args.r.0 c.args.index c.index-regs-r.result c.index_mut-numbers.result.now = kept c.args.self.now c.args.r.0 c.args.index c.regs.result.now c.index-regs-r.result c.index_mut-numbers.result.now c.regs.ensures.value c.index-regs-r.is c.index_mut-numbers.ensures.value c.requires.register in
    let now : c.set.new.self ≡ slice_set c.index_mut-numbers.result.now c.args.index c.args.value.number = c.set.ensures ∙ ap (λ (n : ℕ). slice_set c.index_mut-numbers.result.now c.args.index n) c.value-number.ensures.value in
    let width : c.args.value.width ≡ c.index-regs-r.result.width = c.requires.width ∙ register_width-at c.args.self.now.isa.now.regs c.args.r.0 c.index-regs-r.result file.declared in
    let below : c.args.value.number < 2 ^ c.index-regs-r.result.width = subst (λ (w : ℕ). c.args.value.number < 2 ^ w) width c.value-number.ensures.below in
    set_files c.args.self.now.isa.now.regs c.args.self.now.registers.items c.args.r.0 c.index-regs-r.result c.set.new.self c.args.self.now.files file.declared
    (subst (λ (xs : List ℕ). IsTrue (is_file_of c.index-regs-r.result xs)) (sym now) (set_fits c.index-regs-r.result c.index_mut-numbers.result.now c.args.index c.args.value.number file.fits (sym c.is_zero.ensures ∙ c.if-is_zero.false) below))

pub returns-clause-state : goal.returns-clause-state
returns-clause-state c =
    let file : KeepsFile c.args.self.now.isa.now.regs c.args.self.now.registers.items c.args.r.0 c.args.index c.index-regs-r.result c.index_mut-numbers.result.now = kept c.args.self.now c.args.r.0 c.args.index c.regs.result.now c.index-regs-r.result c.index_mut-numbers.result.now c.regs.ensures.value c.index-regs-r.is c.index_mut-numbers.ensures.value c.requires.register in
    let now : c.set.new.self ≡ slice_set c.index_mut-numbers.result.now c.args.index c.args.value.number = c.set.ensures ∙ ap (λ (n : ℕ). slice_set c.index_mut-numbers.result.now c.args.index n) c.value-number.ensures.value in
    let unset : false ≡ option_map_or (λ (z : ℕ). nat_eq z c.args.index) c.index-regs-r.result.zero false = sym c.if-is_zero.false ∙ c.is_zero.ensures in
    let written : List ℕ → State = λ (xs : List ℕ). record { pc = c.args.self.now.pc; registers = slice_set c.args.self.now.registers.items c.args.r.0 xs; bytes = empty } in
    ap written now ∙ sym (register_written-at c.args.self.now.isa.now (state_of c.args.self.now) c.args.r.0 c.args.index c.args.value.number c.index-regs-r.result c.index_mut-numbers.result.now file.declared file.here unset)
