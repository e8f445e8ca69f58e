-- What isn't a store, a call or an alloca leaves memory as it is.
use Rattle.std.proofs.Common.{◌≡◌, ℕ, IsTrue, List, [], ◌∷◌, Option, Some, None, ◌++◌, nat_eq, if◌then◌else◌, refl, ap}
use Rattle.std.specs.Prelude.{flat_map}
use Rattle.vg_ir.specs.declared.name.Name.{Name}
use Rattle.vg_ir.specs.declared.instruction.Instruction.{Instruction}
use Rattle.vg_ir.specs.declared.instruction.Instruction.TheVariants as instruction
use Rattle.vg_ir.specs.declared.terminator.Terminator.{Terminator}
use Rattle.vg_ir.specs.declared.terminator.Terminator.TheVariants as terminator
use Rattle.vg_ir.specs.declared.operand.TypedOperand.{TypedOperand}
use Rattle.vg_ir.specs.declared.module.Parts.{Parts}
use Rattle.vg_ir.specs.Lookup.{block_named}
use Rattle.vg_ir.specs.Memory.{Object}
use Rattle.vg_ir.specs.Answer.{Answer, Known, Wrong, Lacking, known, ◌>>=◌}
use Rattle.vg_ir.specs.State.{Placement, Frame, IrState, global_objects, live_objects}
use Rattle.vg_ir.specs.Operands.{operand, typed_operand}
use Rattle.vg_ir.specs.Effect.{Effect, sets_result, sets_bytes, binary_result, compare_result, select_result, cast_result, freeze_result, load_result, element_result, store_result, effect, takes_effect}
use Rattle.vg_ir.specs.Control.{Outcome, Next, go_on, phi_values, in_block, jumped, switch_target, with_result, given_back, returned}
use Rattle.vg_ir.specs.Step.{terminator_step, instruction_step, step_at, ir_step}
use Rattle.vg_ir.specs.Outcomes.{IfNext, IfKnown}
use Rattle.vg_ir.specs.Keeping.{keeps_bytes, keeps_objects, next_keeps_bytes, stays_in_function, next_keeps_objects}
use Rattle.vg_ir.proofs.Binding.{bind_known, go_on-next}

module _ (m : Parts) (p : Placement) (s : IrState) where
  abbrev SameBytes : Effect → Type 0
  SameBytes e = e.set ≡ s.set

  abbrev SameObjects : Effect → Type 0
  SameObjects e = e.objects ≡ s.frame.objects

  sets-bytes : (a : Answer ℕ) (n : Name) → IfKnown (a >>= λ x. Known (sets_result s n x)) SameBytes
  sets-bytes a n = bind_known a (λ x. Known (sets_result s n x)) SameBytes (λ x e. refl)

  sets-objects : (a : Answer ℕ) (n : Name) → IfKnown (a >>= λ x. Known (sets_result s n x)) SameObjects
  sets-objects a n = bind_known a (λ x. Known (sets_result s n x)) SameObjects (λ x e. refl)

  -- an instruction that neither stores nor calls leaves each byte
  pub effect-bytes : (i : Instruction) → IsTrue (keeps_bytes i) → IfKnown (effect m p s i) SameBytes
  effect-bytes (instruction.Binary i) h = sets-bytes (binary_result p s.frame.values i) i.result.name
  effect-bytes (instruction.Compare i) h = sets-bytes (compare_result p s.frame.values i) i.result.name
  effect-bytes (instruction.Select i) h = sets-bytes (select_result p s.frame.values i) i.result.name
  effect-bytes (instruction.Cast i) h = sets-bytes (cast_result p s.frame.values i) i.result.name
  effect-bytes (instruction.Freeze i) h = sets-bytes (freeze_result p s.frame.values i) i.result.name
  effect-bytes (instruction.Alloca i) h = refl
  effect-bytes (instruction.Load i) h = sets-bytes (load_result m p s i) i.result.name
  effect-bytes (instruction.Store i) h = absurd (cc)
  effect-bytes (instruction.ElementPointer i) h = sets-bytes (element_result m p s.frame.values i) i.result.name
  effect-bytes (instruction.Call i) h = absurd (cc)

  -- an instruction that is no alloca leaves the frame's objects
  pub effect-objects : (i : Instruction) → IsTrue (keeps_objects i) → IfKnown (effect m p s i) SameObjects
  effect-objects (instruction.Binary i) h = sets-objects (binary_result p s.frame.values i) i.result.name
  effect-objects (instruction.Compare i) h = sets-objects (compare_result p s.frame.values i) i.result.name
  effect-objects (instruction.Select i) h = sets-objects (select_result p s.frame.values i) i.result.name
  effect-objects (instruction.Cast i) h = sets-objects (cast_result p s.frame.values i) i.result.name
  effect-objects (instruction.Freeze i) h = sets-objects (freeze_result p s.frame.values i) i.result.name
  effect-objects (instruction.Alloca i) h = absurd (cc)
  effect-objects (instruction.Load i) h = sets-objects (load_result m p s i) i.result.name
  effect-objects (instruction.Store i) h = bind_known (store_result m p s i) (λ set. Known (sets_bytes s set)) SameObjects (λ x e. refl)
  effect-objects (instruction.ElementPointer i) h = sets-objects (element_result m p s.frame.values i) i.result.name
  effect-objects (instruction.Call i) h = absurd (cc)

  abbrev BytesStay : IrState → Type 0
  BytesStay t = t.set ≡ s.set

  abbrev ObjectsStay : IrState → Type 0
  ObjectsStay t = live_objects m p t ≡ live_objects m p s

  jumped-bytes : (target : Name) → IfNext (jumped p s target) BytesStay
  jumped-bytes target =
      go_on-next (known (block_named s.frame.function target)) (λ b. go_on (phi_values p s.frame.values s.frame.block b.phis s.frame.values) (λ values. Next (in_block s b values))) BytesStay (λ b eb.
      go_on-next (phi_values p s.frame.values s.frame.block b.phis s.frame.values) (λ values. Next (in_block s b values)) BytesStay (λ values e. refl))

  jumped-objects : (target : Name) → IfNext (jumped p s target) ObjectsStay
  jumped-objects target =
      go_on-next (known (block_named s.frame.function target)) (λ b. go_on (phi_values p s.frame.values s.frame.block b.phis s.frame.values) (λ values. Next (in_block s b values))) ObjectsStay (λ b eb.
      go_on-next (phi_values p s.frame.values s.frame.block b.phis s.frame.values) (λ values. Next (in_block s b values)) ObjectsStay (λ values e. refl))

  given_back-bytes : (given : Option ℕ) (waiting : List Frame) → IfNext (given_back s given waiting) BytesStay
  given_back-bytes given [] = tt
  given_back-bytes given (caller ∷ waiting) =
      go_on-next (known (with_result s.frame.destination given caller.values)) (λ values. Next (record { frame = record caller { values = values }; waiting = waiting; set = s.set })) BytesStay (λ values e. refl)

  returned-bytes : (o : Option TypedOperand) → IfNext (returned p s o) BytesStay
  returned-bytes None = given_back-bytes None s.waiting
  returned-bytes (Some o) =
      go_on-next (typed_operand p s.frame.values o) (λ x. given_back s (Some x.number) s.waiting) BytesStay (λ x e. given_back-bytes (Some x.number) s.waiting)

  terminator-bytes : (t : Terminator) → IfNext (terminator_step p s t) BytesStay
  terminator-bytes (terminator.Jump t) = jumped-bytes t.target.name
  terminator-bytes (terminator.Branch t) =
      go_on-next (operand p s.frame.values 1 t.condition) (λ c. jumped p s (if nat_eq c.number 1 then t.then.name else t.otherwise.name)) BytesStay (λ c e. jumped-bytes (if nat_eq c.number 1 then t.then.name else t.otherwise.name))
  terminator-bytes (terminator.Switch t) =
      go_on-next (typed_operand p s.frame.values t.value) (λ x. jumped p s (switch_target t x)) BytesStay (λ x e. jumped-bytes (switch_target t x))
  terminator-bytes (terminator.Return t) = returned-bytes t.value
  terminator-bytes (terminator.Unreachable at) = tt

  terminator-objects : (t : Terminator) → IsTrue (stays_in_function t) → IfNext (terminator_step p s t) ObjectsStay
  terminator-objects (terminator.Jump t) h = jumped-objects t.target.name
  terminator-objects (terminator.Branch t) h =
      go_on-next (operand p s.frame.values 1 t.condition) (λ c. jumped p s (if nat_eq c.number 1 then t.then.name else t.otherwise.name)) ObjectsStay (λ c e. jumped-objects (if nat_eq c.number 1 then t.then.name else t.otherwise.name))
  terminator-objects (terminator.Switch t) h =
      go_on-next (typed_operand p s.frame.values t.value) (λ x. jumped p s (switch_target t x)) ObjectsStay (λ x e. jumped-objects (switch_target t x))
  terminator-objects (terminator.Return t) h = absurd (cc)
  terminator-objects (terminator.Unreachable at) h = tt

  abbrev behind : List Instruction → Effect → Outcome
  behind left e = Next (takes_effect s e left)

  -- a step that is an effect
  effect-next : (i : Instruction) (left : List Instruction) (P : Effect → Type 0) (Q : IrState → Type 0) → ((e : Effect) → P e → Q (takes_effect s e left)) → IfKnown (effect m p s i) P → IfNext (go_on (effect m p s i) (behind left)) Q
  effect-next i left P Q h k = on (effect m p s i) k
    where
      on : (a : Answer Effect) → IfKnown a P → IfNext (go_on a (behind left)) Q
      on (Known e) k = h e k
      on (Wrong c) k = tt
      on Lacking k = tt

  step-bytes : (i : Instruction) (left : List Instruction) → IsTrue (keeps_bytes i) → IfNext (instruction_step m p s i left) BytesStay
  step-bytes (instruction.Call c) left h = absurd (cc)
  step-bytes i left h = effect-next i left SameBytes BytesStay (λ e k. k) (effect-bytes i h)

  step-objects : (i : Instruction) (left : List Instruction) → IsTrue (keeps_objects i) → IfNext (instruction_step m p s i left) ObjectsStay
  step-objects (instruction.Call c) left h = absurd (cc)
  step-objects i left h =
      effect-next i left SameObjects ObjectsStay (λ e k. ap (λ (os : List Object). global_objects m p ++ os ++ flat_map (λ (f : Frame). f.objects) s.waiting) k) (effect-objects i h)

  on_left-bytes : (left : List Instruction) → IsTrue (next_keeps_bytes left) → IfNext (step_at m p s left) BytesStay
  on_left-bytes [] h = terminator-bytes s.frame.last
  on_left-bytes (i ∷ left) h = step-bytes i left h

  on_left-objects : (left : List Instruction) → IsTrue (next_keeps_objects left s.frame.last) → IfNext (step_at m p s left) ObjectsStay
  on_left-objects [] h = terminator-objects s.frame.last h
  on_left-objects (i ∷ left) h = step-objects i left h

  -- a step that neither stores nor calls leaves each byte
  pub bytes_stay : IsTrue (next_keeps_bytes s.frame.left) → IfNext (ir_step m p s) BytesStay
  bytes_stay h = on_left-bytes s.frame.left h

  -- a step that makes no object, calls nothing and stays in its function leaves the live objects
  pub objects_stay : IsTrue (next_keeps_objects s.frame.left s.frame.last) → IfNext (ir_step m p s) ObjectsStay
  objects_stay h = on_left-objects s.frame.left h
