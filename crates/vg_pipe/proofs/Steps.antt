-- Where an instruction stands at a state's program counter, the step is its effect; where none does, no step is done.
use Rattle.std.proofs.Common.{◌≡◌, ℕ, suc, Bool, true, false, nat_eq, slice_get, Option, Some, None, refl, sym, ap, subst, ◌∙◌, if◌then◌else◌}
use Rattle.std.specs.Option.{option_map, option_and_then}
use Rattle.vg_isa.specs.declared.isa.Parts.{Parts}
use Rattle.vg_isa.specs.declared.expr.Expr.{Expr}
use Rattle.vg_isa.specs.declared.instr.Instr.{Instr}
use Rattle.vg_isa.specs.declared.abi.Micro.{Micro}
use Rattle.vg_format.specs.Matching.{decoded}
use Rattle.vg_image.specs.declared.image.Image.{Image}
use Rattle.vg_image.specs.declared.ending.Ending.TheVariants.{End, StackEnd}
use Rattle.vg_image.specs.State.{State, reads_of, state_after}
use Rattle.vg_image.specs.Step.{Step, Moved, Over, step_of, word_step, instr_step, executed, word_at}
use Rattle.vg_image.specs.Run.{after, behind}
use Rattle.vg_cycle.specs.Description.{Fetched}
use Rattle.vg_pipe.specs.Seen.{fetched_of, word_fetched, code_at, next_of, next_in, seen}
use Rattle.vg_pipe.specs.Run.{run_from}

none_some : {X : Type 0} {x : X} → None ≡ Some x → ⊥
none_some e = cc

same_some : {X : Type 0} {x y : X} → Some x ≡ Some y → x ≡ y
same_some e = cc

-- the instruction is the description's, and the step is its effect
abbrev pub Does : Parts → State → Fetched → Step → Type 0
Does d s x step = (instr : Instr) × (slice_get d.instrs x.instr ≡ Some instr) × (step ≡ Moved (state_after d instr x.word s))

instr_case : (d : Parts) (s : State) (x : Fetched) (word k : ℕ) (o : Option Instr) → slice_get d.instrs k ≡ o
    → option_map (λ (instr : Instr). record { instr = k; word = word }) o ≡ Some x → Does d s x (executed d word s o)
instr_case d s x word k None at e = absurd (none_some e)
instr_case d s x word k (Some instr) at e =
    let P : Fetched → Type 0 = λ z. Does d s z (executed d word s (Some instr)) in
    let same : ◌≡◌ {A = Fetched} (record { instr = k; word = word }) x = same_some e in
    subst P same (instr, at, refl)

decoded_case : (d : Parts) (s : State) (x : Fetched) (word : ℕ) (k : Option ℕ) → fetched_of d word k ≡ Some x → Does d s x (instr_step d word s k)
decoded_case d s x word None e = absurd (none_some e)
decoded_case d s x word (Some k) e = instr_case d s x word k (slice_get d.instrs k) refl e

word_case : (d : Parts) (s : State) (x : Fetched) (word : Option ℕ) → word_fetched d word ≡ Some x → Does d s x (word_step d s word)
word_case d s x None e = absurd (none_some e)
word_case d s x (Some word) e = decoded_case d s x word (decoded d word) e

stop_case : (d : Parts) (s : State) (x : Fetched) (word : Option ℕ) (stop full : Bool) → (if stop then None else (if full then None else word_fetched d word)) ≡ Some x
    → Does d s x (if stop then Over End else (if full then Over StackEnd else word_step d s word))
stop_case d s x word true full e = absurd (none_some e)
stop_case d s x word false true e = absurd (none_some e)
stop_case d s x word false false e = word_case d s x word e

-- where an instruction stands at the program counter, the step is its effect
pub code_steps : (d : Parts) (i : Image) (s : State) (x : Fetched) → code_at d i s.pc ≡ Some x → Does d s x (step_of d i s)
code_steps d i s x e = stop_case d s x (word_at d i s.pc) (nat_eq s.pc i.stop) (nat_eq s.pc i.full) e

-- the next program counter of the run is the instruction's
pub run_goes_on : (d : Parts) (micro : Micro) (i : Image) (first : State) (k : ℕ) (x : Fetched) → code_at d i (run_from d i first k).pc ≡ Some x
    → (run_from d i first (suc k)).pc ≡ (seen d micro i).next x (run_from d i first k)
run_goes_on d micro i first k x e =
    let done = code_steps d i (after d i k first) x e in
    let next : next_in d x ≡ done.0.next = ap (option_and_then (λ (instr : Instr). instr.next)) done.1 in
    ap (λ (z : Step). (behind z (after d i k first)).pc) done.2
    ∙ sym (ap (λ (n : Option (Expr × Expr)). (next_of d x.word (reads_of d (after d i k first)) n).number) next)
