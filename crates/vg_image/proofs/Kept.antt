-- What a state keeps, and that a step keeps it.
use Rattle.std.proofs.Common.{◌≡◌, ℕ, zero, suc, ◌+◌, ◌/◌, ◌%◌, ◌^◌, ◌<◌, ◌≤◌, Bool, true, false, ◌&&◌, cond, IsTrue, nat_eq, List, [], ◌∷◌, length, slice_get, slice_index, slice_set, Some, None, Option, unwrap_or, arith, refl, sym, ◌∙◌, subst, if◌then◌else◌}
use Rattle.std.specs.Option.{option_map, option_map_or}
use Rattle.std.specs.List.{cons_option, filter_map, list_all, AllByRecursion}
use Rattle.std.specs.FinMap.{empty}
use Rattle.std.proofs.lemmas.Bool.{and_from as conjunction}
use Rattle.std.proofs.lemmas.Bool.Decides.{nat_tests}
use Rattle.std.proofs.lemmas.Nat.{pow_pos, mod_below}
use Rattle.std.proofs.lemmas.List.Elements.{recursion_from_All}
use Rattle.vg_bits.specs.BitValue.{BitValue}
use Rattle.vg_isa.specs.declared.isa.Parts.{Parts}
use Rattle.vg_isa.specs.declared.expr.Expr.{Expr}
use Rattle.vg_isa.specs.declared.instr.Instr.{Instr}
use Rattle.vg_isa.specs.declared.instr.Write.{Write}
use Rattle.vg_isa.specs.declared.declaration.RegDecl.{RegDecl}
use Rattle.vg_isa.specs.declared.write_made.Made.{Made}
use Rattle.vg_isa.specs.declared.ids.ResourceId.{ResourceId}
use Rattle.vg_isa.specs.declared.ids.ResourceId.TheVariants.{Memory, Reg}
use Rattle.vg_isa.specs.Declaration.{register_width}
use Rattle.vg_isa.specs.Typing.{fits, has_width, is_typed, is_write, is_write_of, width_of}
use Rattle.vg_isa.specs.Accepted.{is_instr, is_isa}
use Rattle.vg_isa.specs.Value.{IsLawful, IsValue, Reads, holds, value_of}
use Rattle.vg_isa.specs.Effect.{effect_of, following, made_by}
use Rattle.vg_isa.proofs.Kept.{instr_typed, kept_instr, writes_typed}
use Rattle.vg_isa.proofs.Lawful.{value_is}
use Rattle.vg_isa.proofs.Registers.{register_within}
use Rattle.vg_isa.proofs.Tests.{both, true-nat_eq, true-nat_lt}
use Rattle.vg_image.specs.declared.image.Image.{Image}
use Rattle.vg_image.specs.declared.ending.Ending.{Ending}
use Rattle.vg_image.specs.declared.ending.Ending.TheVariants.{End, StackEnd}
use Rattle.vg_format.specs.Matching.{decoded}
use Rattle.vg_image.specs.Spelling.{IsImage}
use Rattle.vg_mem.specs.Bytes.{AreBytes}
use Rattle.vg_mem.proofs.Bytes.{byte_small, empty_keeps, laid_keeps, stored_keeps}
use Rattle.vg_image.specs.State.{IsState, State, all_written, are_files, first_state, is_file_of, is_zero_register, numbers_of, reads_of, register_written, resource_written, state_after}
use Rattle.vg_image.specs.Step.{Step, Moved, Over, executed, instr_step, step_of, word_at, word_step}
use Rattle.vg_image.specs.Run.{after, behind}
use Rattle.vg_image.proofs.Files.{set_fits, zeros_fit}

-- ---- registers

index_fits : (width : ℕ) (numbers : List ℕ) (i : ℕ) → list_all (fits width) numbers ≡ true → slice_index numbers i < 2 ^ width
index_fits width [] i h = pow_pos width
index_fits width (n ∷ numbers) zero h = true-nat_lt n (2 ^ width) (both (fits width n) (list_all (fits width) numbers) h).0
index_fits width (n ∷ numbers) (suc i) h = index_fits width numbers i (both (fits width n) (list_all (fits width) numbers) h).1

-- each number of a state fits its register
number_fits : (regs : List RegDecl) (files : List (List ℕ)) (r i : ℕ) → IsTrue (are_files regs files) → r < length regs → slice_index (unwrap_or (slice_get files r) []) i < 2 ^ register_width regs r
number_fits [] files r i h within = absurd (omega arith)
number_fits (decl ∷ regs) [] r i h within = cc
number_fits (decl ∷ regs) (numbers ∷ files) zero i h within = index_fits decl.width numbers i (both _ _ (both _ _ (both (is_file_of decl numbers) (are_files regs files) h).0).0).1
number_fits (decl ∷ regs) (numbers ∷ files) (suc r) i h within = number_fits regs files r i (both (is_file_of decl numbers) (are_files regs files) h).1 (omega arith)

-- a number that fits a register may be written to it
files_set : (regs : List RegDecl) (files : List (List ℕ)) (r i n : ℕ) → IsTrue (are_files regs files) → is_zero_register regs r i ≡ false → n < 2 ^ register_width regs r → IsTrue (are_files regs (slice_set files r (slice_set (unwrap_or (slice_get files r) []) i n)))
files_set [] [] r i n h unset below = h
files_set [] (numbers ∷ files) r i n h unset below = cc
files_set (decl ∷ regs) [] r i n h unset below = cc
files_set (decl ∷ regs) (numbers ∷ files) zero i n h unset below =
    let parts = both (is_file_of decl numbers) (are_files regs files) h in
    conjunction _ _ (set_fits decl numbers i n parts.0 unset below) parts.1
files_set (decl ∷ regs) (numbers ∷ files) (suc r) i n h unset below =
    let parts = both (is_file_of decl numbers) (are_files regs files) h in
    conjunction _ _ parts.0 (files_set regs files r i n parts.1 unset below)

-- ---- what a state reads

zero_or_number : (b : Bool) (n m : ℕ) → n < m → (if b then 0 else n) < m
zero_or_number true n m h = omega arith
zero_or_number false n m h = h

-- a state of a description is a lawful one
pub lawful : (d : Parts) (s : State) → IsState d s → IsLawful d (reads_of d s)
lawful d s h = record {
  widths = record { pc = refl; reg = λ r i within. refl };
  pc = h.pc;
  reg = λ r i has. zero_or_number (is_zero_register d.regs r i) (slice_index (numbers_of s r) i) (2 ^ register_width d.regs r) (number_fits d.regs s.registers r i h.files (register_within d.regs r i has));
  byte = λ at within. byte_small (2 ^ d.pc.width) at s.bytes h.bytes;
}

-- ---- writes

-- what writes keep of a state
pub record KeepsStored (d : Parts) (s : State) : Type 0 where
  pub files : IsTrue (are_files d.regs s.registers)
  pub bytes : AreBytes (2 ^ d.pc.width) s.bytes

register_keeps : (d : Parts) (r i n : ℕ) (s : State) → n < 2 ^ register_width d.regs r → KeepsStored d s → KeepsStored d (register_written d r i n s)
register_keeps d r i n s below kept = of (is_zero_register d.regs r i) refl
  where
    of : (b : Bool) → is_zero_register d.regs r i ≡ b → KeepsStored d (if b then s else record { pc = s.pc; registers = slice_set s.registers r (slice_set (numbers_of s r) i n); bytes = s.bytes })
    of true e = kept
    of false e = record { files = files_set d.regs s.registers r i n kept.files e below; bytes = kept.bytes }

-- a value of a write fits its register
abbrev Fits : Parts → ResourceId → BitValue → Type 0
Fits d Memory value = Unit {0}
Fits d (Reg r) value = value.number < 2 ^ register_width d.regs r.0

resource_keeps : (d : Parts) (resource : ResourceId) (at : Option BitValue) (value : BitValue) (s : State) → Fits d resource value → KeepsStored d s → KeepsStored d (resource_written d resource at value s)
resource_keeps d (Reg r) None value s fit kept = register_keeps d r.0 0 value.number s fit kept
resource_keeps d (Reg r) (Some at) value s fit kept = register_keeps d r.0 at.number value.number s fit kept
resource_keeps d Memory (Some at) value s fit kept = record { files = kept.files; bytes = stored_keeps (2 ^ d.pc.width) at.number (value.width / 8) value.number s.bytes (pow_pos d.pc.width) kept.bytes }
resource_keeps d Memory None value s fit kept = kept

module _ (d : Parts) (word : ℕ) (before : Reads) (accepted : IsTrue (is_isa d)) (read : IsLawful d before) where
  value_below : (e : Expr) (width : ℕ) → IsTrue (has_width d width e) → (value_of d e word before).number < 2 ^ width
  value_below e width h =
      let parts = both (is_typed d e) (nat_eq (width_of d e) width) h in
      let value : IsValue (width_of d e) (value_of d e word before) = value_is d word before accepted read e parts.0 in
      let same : (value_of d e word before).width ≡ width = value.width_is ∙ true-nat_eq _ _ parts.1 in
      subst (λ (w : ℕ). (value_of d e word before).number < 2 ^ w) same value.value.below

  write_fits : (resource : ResourceId) (at : Option Expr) (value : Expr) → IsTrue (is_write_of d resource at value) → Fits d resource (value_of d value word before)
  write_fits Memory at value h = tt
  write_fits (Reg r) None value h = value_below value (register_width d.regs r.0) (both _ _ h).1
  write_fits (Reg r) (Some at) value h = value_below value (register_width d.regs r.0) (both _ _ h).1

  made_keeps : (made : Option Made) (mades : List Made) (s : State) → (made_fits : (m : Made) → made ≡ Some m → Fits d m.resource m.value) → KeepsStored d (all_written d mades s) → KeepsStored d (all_written d (cons_option made mades) s)
  made_keeps None mades s fit kept = kept
  made_keeps (Some m) mades s fit kept = resource_keeps d m.resource m.at m.value (all_written d mades s) (fit m refl) kept

  made_fits : (write : Write) (b : Bool) (m : Made) → IsTrue (is_write d write) → (if b then Some (record { resource = write.resource; at = option_map (λ at. value_of d at word before) write.at; value = value_of d write.value word before }) else None) ≡ Some m → Fits d m.resource m.value
  made_fits write true m h is =
      let same = same_made is in
      subst (λ (x : Made). Fits d x.resource x.value) same (write_fits write.resource write.at write.value (both _ _ h).1)
    where
      same_made : {x : Made} → Some x ≡ Some m → x ≡ m
      same_made e = cc
  made_fits write false m h is = absurd (none is)
    where
      none : None ≡ Some m → ⊥
      none e = cc

  writes_keep : (writes : List Write) (s : State) → IsTrue (list_all (is_write d) writes) → KeepsStored d s → KeepsStored d (all_written d (filter_map (λ write. made_by d write word before) writes) s)
  writes_keep [] s h kept = kept
  writes_keep (write ∷ writes) s h kept =
      let parts = both (is_write d write) (list_all (is_write d) writes) h in
      made_keeps (made_by d write word before) (filter_map (λ w. made_by d w word before) writes) s
      (λ m is. made_fits write (holds (value_of d write.guard word before)) m parts.0 is)
      (writes_keep writes s parts.1 kept)

  following_below : (following d before).number < 2 ^ d.pc.width
  following_below = subst (λ (w : ℕ). (following d before).number < 2 ^ w) read.widths.pc (mod_below _ _ (pow_pos before.pc.width))

  next_below : (next : Option (Expr × Expr)) → option_map_or (λ (n : Expr × Expr). has_width d 1 n.0 && has_width d d.pc.width n.1) next true ≡ true → (option_map_or (λ (n : Expr × Expr). if holds (value_of d n.0 word before) then value_of d n.1 word before else following d before) next (following d before)).number < 2 ^ d.pc.width
  next_below None h = following_below
  next_below (Some next) h = either (holds (value_of d next.0 word before))
    where
      either : (b : Bool) → (if b then value_of d next.1 word before else following d before).number < 2 ^ d.pc.width
      either true = value_below next.1 d.pc.width (both _ _ h).1
      either false = following_below

-- ---- steps

-- an instruction leads to a state of the description
instr_keeps : (d : Parts) (instr : Instr) (word : ℕ) (s : State) → IsTrue (is_isa d) → IsTrue (is_instr d instr) → IsState d s → IsState d (state_after d instr word s)
instr_keeps d instr word s accepted typed h =
    let stored_kept : KeepsStored d (all_written d (effect_of d instr word (reads_of d s)) s) = writes_keep d word (reads_of d s) accepted (lawful d s h) instr.writes s (writes_typed d instr typed) (record { files = h.files; bytes = h.bytes }) in
    record {
      pc = next_below d word (reads_of d s) accepted (lawful d s h) instr.next (kept_instr d instr typed).next;
      files = stored_kept.files;
      bytes = stored_kept.bytes;
    }

-- where a step leads, is a state of the description
abbrev LeadsOn : Parts → Step → Type 0
LeadsOn d (Moved t) = IsState d t
LeadsOn d (Over e) = Unit {0}

executed_leads : (d : Parts) (word : ℕ) (s : State) (o : Option Instr) → IsTrue (is_isa d) → IsState d s → ((instr : Instr) → o ≡ Some instr → IsTrue (is_instr d instr)) → LeadsOn d (executed d word s o)
executed_leads d word s None accepted h typed = tt
executed_leads d word s (Some instr) accepted h typed = instr_keeps d instr word s accepted (typed instr refl) h

instr_leads : (d : Parts) (word : ℕ) (s : State) (k : Option ℕ) → IsTrue (is_isa d) → IsState d s → LeadsOn d (instr_step d word s k)
instr_leads d word s None accepted h = tt
instr_leads d word s (Some k) accepted h = executed_leads d word s (slice_get d.instrs k) accepted h (λ instr at. instr_typed d k instr accepted at)

word_leads : (d : Parts) (s : State) (o : Option ℕ) → IsTrue (is_isa d) → IsState d s → LeadsOn d (word_step d s o)
word_leads d s None accepted h = tt
word_leads d s (Some word) accepted h = instr_leads d word s (decoded d word) accepted h

either_leads : (d : Parts) (b : Bool) (e : Ending) (x : Step) → LeadsOn d x → LeadsOn d (if b then Over e else x)
either_leads d true e x h = tt
either_leads d false e x h = h

pub step_leads : (d : Parts) (i : Image) (s : State) → IsTrue (is_isa d) → IsState d s → LeadsOn d (step_of d i s)
step_leads d i s accepted h = either_leads d (nat_eq s.pc i.stop) End _ (either_leads d (nat_eq s.pc i.full) StackEnd _ (word_leads d s (word_at d i s.pc) accepted h))

pub step_kept : (d : Parts) (i : Image) (s t : State) → IsTrue (is_isa d) → IsState d s → step_of d i s ≡ Moved t → IsState d t
step_kept d i s t accepted h moved = subst (LeadsOn d) moved (step_leads d i s accepted h)

behind_kept : (d : Parts) (x : Step) (s : State) → LeadsOn d x → IsState d s → IsState d (behind x s)
behind_kept d (Moved t) s leads h = leads
behind_kept d (Over e) s leads h = h

-- a run leads to a state of the description
pub run_kept : (d : Parts) (i : Image) (n : ℕ) (s : State) → IsTrue (is_isa d) → IsState d s → IsState d (after d i n s)
run_kept d i zero s accepted h = h
run_kept d i (suc n) s accepted h =
    let before : IsState d (after d i n s) = run_kept d i n s accepted h in
    behind_kept d (step_of d i (after d i n s)) (after d i n s) (step_leads d i (after d i n s) accepted before) before

-- the first state is a state of the description
pub first_kept : (d : Parts) (i : Image) → IsImage d i → IsState d (first_state d i)
first_kept d i is = record {
  pc = is.entry;
  files = zeros_fit d.regs;
  bytes = laid_keeps (2 ^ d.pc.width) i.data_base i.bytes empty (empty_keeps (2 ^ d.pc.width)) (recursion_from_All (λ byte. byte < 256) i.bytes is.bytes) is.data_end;
}
