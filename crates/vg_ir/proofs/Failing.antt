-- A step is undefined in the ten cases alone.
use Rattle.std.proofs.Common.{◌≡◌, ℕ, ◌+◌, ◌-◌, ◌^◌, ◌<◌, Bool, true, false, ◌&&◌, nat_eq, nat_lt, nat_le, List, [], ◌∷◌, Option, Some, None, refl, ap, subst, ◌∙◌, arith}
use Rattle.std.specs.Prelude.{if◌then◌else◌, find, slice_get}
use Rattle.std.proofs.lemmas.Bool.{eqb-true, eqb-false, leb-true, ltb-true, eq-eqb, ne_eqb, le-leb, lt-ltb, and_parts, and_from, both_ways}
use Rattle.vg_bits.specs.BitValue.{BitValue, bit_value}
use Rattle.vg_bits.specs.BitValue as bits
use Rattle.vg_ir.specs.declared.name.Name.{Name}
use Rattle.vg_ir.specs.declared.ty.Ty.{Ty}
use Rattle.vg_ir.specs.declared.ty.Ty.TheOpen.{Ty-F}
use Rattle.vg_ir.specs.declared.operand.Value.TheVariants as value
use Rattle.vg_ir.specs.declared.operand.Value.{Value}
use Rattle.vg_ir.specs.declared.operand.Operand.{Operand}
use Rattle.vg_ir.specs.declared.operand.TypedOperand.{TypedOperand}
use Rattle.vg_ir.specs.declared.operator.BinaryOperator.{BinaryOperator}
use Rattle.vg_ir.specs.declared.operator.BinaryOperator.TheVariants as binary
use Rattle.vg_ir.specs.declared.instruction.Instruction.{Instruction}
use Rattle.vg_ir.specs.declared.instruction.Instruction.TheVariants as instruction
use Rattle.vg_ir.specs.declared.instruction.Index.{Index}
use Rattle.vg_ir.specs.declared.instruction.Call.{Call}
use Rattle.vg_ir.specs.declared.terminator.Terminator.{Terminator}
use Rattle.vg_ir.specs.declared.terminator.Terminator.TheVariants as terminator
use Rattle.vg_ir.specs.declared.block.Phi.{Phi}
use Rattle.vg_ir.specs.declared.block.Incoming.{Incoming}
use Rattle.vg_ir.specs.declared.function.Function.{Function}
use Rattle.vg_ir.specs.declared.module.Parts.{Parts}
use Rattle.vg_ir.specs.Shape.{number_of}
use Rattle.vg_ir.specs.Lookup.{same_name, function_named, block_named}
use Rattle.vg_ir.specs.TypeLayout.{size_of, offset_in}
use Rattle.vg_ir.specs.Memory.{Bytes, Object, object_at, loaded, stored, cleared}
use Rattle.vg_ir.specs.Answer.{Cause, UnsignedByZero, SignedByZero, SignedOverflow, ShiftTooFar, Unreachable, LoadOutside, StoreOutside, LoadUnset, LoadNoBit, StoreConstant, Answer, Known, Wrong, Lacking, ◌>>=◌, known}
use Rattle.vg_ir.specs.Arithmetic.{overflows, binary_value, compared, bit_of, cast_value}
use Rattle.vg_ir.specs.State.{Placement, Values, no_values, with_value, Destination, Frame, IrState, live_objects}
use Rattle.vg_ir.specs.Operands.{value_width, number_at, operand, operand_at, typed_operand}
use Rattle.vg_ir.specs.Address.{index_number, moved_by, element_at, field_number, opened, part_at, inner_at, element_address}
use Rattle.vg_ir.specs.Effect.{Effect, sets_result, sets_bytes, as_loaded, load_value, store_value, binary_result, compare_result, select_result, cast_result, freeze_result, load_result, element_result, store_result, effect, takes_effect}
use Rattle.vg_ir.specs.Control.{Outcome, Next, StackFull, Undefined, go_on, phi_value, phi_values, in_block, jumped, switch_target, bound, fresh_frame, first_block, entered, argument_values, destination_of, behind_call, called, with_result, given_back, returned}
use Rattle.vg_ir.specs.Step.{terminator_step, instruction_step, step_at, ir_step}
use Rattle.vg_ir.specs.Outcomes.{IfUndefined, IfWrong}
use Rattle.vg_ir.specs.Failing.{divides_unsigned, divides_signed, shifts, BinaryFails, LoadFails, StoreFails, EndFails, InstructionFails, LeftFails, StepFails}
use Rattle.vg_ir.proofs.Binding.{bind_wrong, two_wrong, known-wrong, go_on-undefined}

-- ---- parts without a cause

operand-wrong : (p : Placement) (values : Values) (w : ℕ) (o : Operand) (P : Cause → Type 0) → IfWrong (operand p values w o) P
operand-wrong p values w o P = bind_wrong (known (number_at p values w o.value)) (λ x. Known (bit_value w x)) P (known-wrong (number_at p values w o.value) P) (λ x e. tt)

operand_at-wrong : (p : Placement) (values : Values) (t : Ty) (o : Operand) (P : Cause → Type 0) → IfWrong (operand_at p values t o) P
operand_at-wrong p values t o P = bind_wrong (known (value_width p.width t)) (λ w. operand p values w o) P (known-wrong (value_width p.width t) P) (λ w e. operand-wrong p values w o P)

element_at-wrong : (m : Parts) (p : Placement) (values : Values) (t : Ty) (at : ℕ) (i : Index) (P : Cause → Type 0) → IfWrong (element_at m p values t at i) P
element_at-wrong m p values t at i P =
    bind_wrong (operand p values i.ty.width i.operand) (λ index. Known (moved_by p.width at (index_number p.width index) (size_of m p.width t))) P (operand-wrong p values i.ty.width i.operand P) (λ index e. tt)

field_number-wrong : (i : Index) (P : Cause → Type 0) → IfWrong (field_number i) P
field_number-wrong i P = by_value i.operand.value
  where
    by_value : (v : Value) → IfWrong (elim v [ value.Local n ↦ Lacking | value.Global n ↦ Lacking | value.Number n ↦ Known (number_of i.ty.width n) | value.True ↦ Lacking | value.False ↦ Lacking | value.Null ↦ Lacking | value.Undef ↦ Lacking | value.Poison ↦ Lacking ]) P
    by_value (value.Local n) = tt
    by_value (value.Global n) = tt
    by_value (value.Number n) = tt
    by_value value.True = tt
    by_value value.False = tt
    by_value value.Null = tt
    by_value value.Undef = tt
    by_value value.Poison = tt

part_at-wrong : (m : Parts) (p : Placement) (values : Values) (l : Ty-F Ty) (at : ℕ) (i : Index) (P : Cause → Type 0) → IfWrong (part_at m p values l at i) P
part_at-wrong m p values (Ty-F.Int n) at i P = tt
part_at-wrong m p values Ty-F.Ptr at i P = tt
part_at-wrong m p values (Ty-F.Array count element) at i P =
    bind_wrong (element_at m p values element at i) (λ to. Known (element, to)) P (element_at-wrong m p values element at i P) (λ to e. tt)
part_at-wrong m p values (Ty-F.Struct fields) at i P =
    bind_wrong (field_number i) (λ k. known (slice_get fields k) >>= λ field. Known (field, moved_by p.width at 1 (offset_in m p.width fields k))) P (field_number-wrong i P) (λ k e.
    bind_wrong (known (slice_get fields k)) (λ field. Known (field, moved_by p.width at 1 (offset_in m p.width fields k))) P (known-wrong (slice_get fields k) P) (λ field f. tt))
part_at-wrong m p values (Ty-F.Named n) at i P = tt

inner_at-wrong : (m : Parts) (p : Placement) (values : Values) (more : List Index) (t : Ty) (at : ℕ) (P : Cause → Type 0) → IfWrong (inner_at m p values t at more) P
inner_at-wrong m p values [] t at P = tt
inner_at-wrong m p values (i ∷ more) t at P =
    bind_wrong (known (opened m t)) (λ l. part_at m p values l at i >>= λ part. inner_at m p values part.0 part.1 more) P (known-wrong (opened m t) P) (λ l el.
    bind_wrong (part_at m p values l at i) (λ part. inner_at m p values part.0 part.1 more) P (part_at-wrong m p values l at i P) (λ part ep. inner_at-wrong m p values more part.0 part.1 P))

address-wrong : (m : Parts) (p : Placement) (values : Values) (t : Ty) (at : ℕ) (indices : List Index) (P : Cause → Type 0) → IfWrong (element_address m p values t at indices) P
address-wrong m p values t at [] P = tt
address-wrong m p values t at (i ∷ more) P =
    bind_wrong (element_at m p values t at i) (λ to. inner_at m p values t to more) P (element_at-wrong m p values t at i P) (λ to e. inner_at-wrong m p values more t to P)

-- ---- parts with a cause

both_tests : (x y : Bool) → (x && y) ≡ true → (x ≡ true) × (y ≡ true)
both_tests x y h = and_parts x y h

positive : (n : ℕ) → (n ≡ 0 → ⊥) → 0 < n
positive n h = grind (arith, h)

zero_divisor : (op : BinaryOperator) (a b : BitValue) (q : ℕ) → divides_unsigned op ≡ true → (t : Bool) → nat_eq b.number 0 ≡ t → IfWrong (if t then Wrong UnsignedByZero else Known q) (BinaryFails op a b)
zero_divisor op a b q is true e = (is, eqb-true b.number 0 e)
zero_divisor op a b q is false e = tt

signed_cases : (op : BinaryOperator) (a b : BitValue) (q : ℕ) → divides_signed op ≡ true → (t : Bool) → nat_eq b.number 0 ≡ t → IfWrong (if t then Wrong SignedByZero else (if overflows a b then Wrong SignedOverflow else Known q)) (BinaryFails op a b)
signed_cases op a b q is true e = (is, eqb-true b.number 0 e)
signed_cases op a b q is false e = by_overflow (overflows a b) refl
  where
    by_overflow : (t : Bool) → overflows a b ≡ t → IfWrong (if t then Wrong SignedOverflow else Known q) (BinaryFails op a b)
    by_overflow true k =
        let two = both_tests (nat_eq a.number (2 ^ (a.width - 1))) (nat_eq b.number (2 ^ b.width - 1)) k in
        let some : b.number ≡ 0 → ⊥ = eqb-false b.number 0 e in
        (is, positive b.number some, eqb-true a.number (2 ^ (a.width - 1)) two.0, eqb-true b.number (2 ^ b.width - 1) two.1)
    by_overflow false k = tt

far_shift : (op : BinaryOperator) (a b : BitValue) (q : ℕ) → shifts op ≡ true → (t : Bool) → nat_le a.width b.number ≡ t → IfWrong (if t then Wrong ShiftTooFar else Known q) (BinaryFails op a b)
far_shift op a b q is true e = (is, leb-true a.width b.number e)
far_shift op a b q is false e = tt

binary-wrong : (op : BinaryOperator) (a b : BitValue) → IfWrong (binary_value op a b) (BinaryFails op a b)
binary-wrong binary.Add a b = tt
binary-wrong binary.Sub a b = tt
binary-wrong binary.Mul a b = tt
binary-wrong binary.Udiv a b = zero_divisor binary.Udiv a b (bits.udiv a b).number refl (nat_eq b.number 0) refl
binary-wrong binary.Sdiv a b = signed_cases binary.Sdiv a b (bits.sdiv a b).number refl (nat_eq b.number 0) refl
binary-wrong binary.Urem a b = zero_divisor binary.Urem a b (bits.urem a b).number refl (nat_eq b.number 0) refl
binary-wrong binary.Srem a b = signed_cases binary.Srem a b (bits.srem a b).number refl (nat_eq b.number 0) refl
binary-wrong binary.Shl a b = far_shift binary.Shl a b (bits.shl a b).number refl (nat_le a.width b.number) refl
binary-wrong binary.Lshr a b = far_shift binary.Lshr a b (bits.shr a b).number refl (nat_le a.width b.number) refl
binary-wrong binary.Ashr a b = far_shift binary.Ashr a b (bits.sar a b).number refl (nat_le a.width b.number) refl
binary-wrong binary.And a b = tt
binary-wrong binary.Or a b = tt
binary-wrong binary.Xor a b = tt

load-wrong : (objects : List Object) (set : Bytes) (at bytes width : ℕ) → IfWrong (load_value objects set at bytes width) (LoadFails objects set at bytes width)
load-wrong objects set at bytes width = by_object (object_at objects at bytes) refl
  where
    by_bit : (o : Object) (x : ℕ) → object_at objects at bytes ≡ Some o → loaded set at bytes ≡ Some x → (t : Bool) → (nat_eq width 1 && nat_lt 1 x) ≡ t → IfWrong (if t then Wrong LoadNoBit else Known x) (LoadFails objects set at bytes width)
    by_bit o x eo ex true e =
        let two = both_tests (nat_eq width 1) (nat_lt 1 x) e in
        (o, eo, eqb-true width 1 two.0, (x, ex, ltb-true 1 x two.1))
    by_bit o x eo ex false e = tt

    by_bytes : (o : Object) → object_at objects at bytes ≡ Some o → (r : Option ℕ) → loaded set at bytes ≡ r → IfWrong (as_loaded width r) (LoadFails objects set at bytes width)
    by_bytes o eo None e = (o, eo, e)
    by_bytes o eo (Some x) e = by_bit o x eo e (nat_eq width 1 && nat_lt 1 x) refl

    by_object : (r : Option Object) → object_at objects at bytes ≡ r → IfWrong (elim r [ None ↦ Wrong LoadOutside | Some o ↦ as_loaded width (loaded set at bytes) ]) (LoadFails objects set at bytes width)
    by_object None e = e
    by_object (Some o) e = by_bytes o e (loaded set at bytes) refl

store-wrong : (objects : List Object) (set : Bytes) (at bytes x : ℕ) → IfWrong (store_value objects set at bytes x) (StoreFails objects at bytes)
store-wrong objects set at bytes x = by_object (object_at objects at bytes) refl
  where
    by_constant : (o : Object) → object_at objects at bytes ≡ Some o → (t : Bool) → o.constant ≡ t → IfWrong (if t then Wrong StoreConstant else Known (stored set at bytes x)) (StoreFails objects at bytes)
    by_constant o eo true e = (o, eo, e)
    by_constant o eo false e = tt

    by_object : (r : Option Object) → object_at objects at bytes ≡ r → IfWrong (elim r [ None ↦ Wrong StoreOutside | Some o ↦ if o.constant then Wrong StoreConstant else Known (stored set at bytes x) ]) (StoreFails objects at bytes)
    by_object None e = e
    by_object (Some o) e = by_constant o e o.constant refl

-- ---- instructions

module _ (m : Parts) (p : Placement) (s : IrState) where
  no_cause : (a : Answer ℕ) (n : Name) (P : Cause → Type 0) → IfWrong a P → IfWrong (a >>= λ x. Known (sets_result s n x)) P
  no_cause a n P h = bind_wrong a (λ x. Known (sets_result s n x)) P h (λ x e. tt)

  effect-wrong : (i : Instruction) → IfWrong (effect m p s i) (InstructionFails m p s i)
  effect-wrong (instruction.Binary i) =
      no_cause (binary_result p s.frame.values i) i.result.name (InstructionFails m p s (instruction.Binary i))
      (two_wrong (operand_at p s.frame.values i.ty.ty i.left) (operand_at p s.frame.values i.ty.ty i.right) (λ a b. binary_value i.operator a b) (InstructionFails m p s (instruction.Binary i))
      (operand_at-wrong p s.frame.values i.ty.ty i.left (InstructionFails m p s (instruction.Binary i)))
      (operand_at-wrong p s.frame.values i.ty.ty i.right (InstructionFails m p s (instruction.Binary i)))
      (λ a b ea eb. with_operands a b ea eb (binary_value i.operator a b) (binary-wrong i.operator a b)))
    where
      with_operands : (a b : BitValue) → operand_at p s.frame.values i.ty.ty i.left ≡ Known a → operand_at p s.frame.values i.ty.ty i.right ≡ Known b → (v : Answer ℕ) → IfWrong v (BinaryFails i.operator a b) → IfWrong v (InstructionFails m p s (instruction.Binary i))
      with_operands a b ea eb (Known x) h = tt
      with_operands a b ea eb (Wrong c) h = (a, b, ea, eb, h)
      with_operands a b ea eb Lacking h = tt
  effect-wrong (instruction.Compare i) =
      no_cause (compare_result p s.frame.values i) i.result.name (λ c. ⊥)
      (two_wrong (operand_at p s.frame.values i.ty.ty i.left) (operand_at p s.frame.values i.ty.ty i.right) (λ a b. Known (bit_of (compared i.predicate a b))) (λ c. ⊥) (operand_at-wrong p s.frame.values i.ty.ty i.left (λ c. ⊥)) (operand_at-wrong p s.frame.values i.ty.ty i.right (λ c. ⊥)) (λ a b ea eb. tt))
  effect-wrong (instruction.Select i) =
      no_cause (select_result p s.frame.values i) i.result.name (λ c. ⊥)
      (bind_wrong (operand p s.frame.values 1 i.condition) (λ c. operand_at p s.frame.values i.then.ty.ty i.then.operand >>= λ a. operand_at p s.frame.values i.then.ty.ty i.otherwise.operand >>= λ b. Known (if nat_eq c.number 1 then a.number else b.number)) (λ c. ⊥) (operand-wrong p s.frame.values 1 i.condition (λ c. ⊥)) (λ c ec.
      two_wrong (operand_at p s.frame.values i.then.ty.ty i.then.operand) (operand_at p s.frame.values i.then.ty.ty i.otherwise.operand) (λ a b. Known (if nat_eq c.number 1 then a.number else b.number)) (λ c. ⊥) (operand_at-wrong p s.frame.values i.then.ty.ty i.then.operand (λ c. ⊥)) (operand_at-wrong p s.frame.values i.then.ty.ty i.otherwise.operand (λ c. ⊥)) (λ a b ea eb. tt)))
  effect-wrong (instruction.Cast i) =
      no_cause (cast_result p s.frame.values i) i.result.name (λ c. ⊥)
      (bind_wrong (typed_operand p s.frame.values i.operand) (λ a. known (value_width p.width i.target.ty) >>= λ w. Known (cast_value i.operator a w)) (λ c. ⊥) (operand_at-wrong p s.frame.values i.operand.ty.ty i.operand.operand (λ c. ⊥)) (λ a ea.
      bind_wrong (known (value_width p.width i.target.ty)) (λ w. Known (cast_value i.operator a w)) (λ c. ⊥) (known-wrong (value_width p.width i.target.ty) (λ c. ⊥)) (λ w ew. tt)))
  effect-wrong (instruction.Freeze i) =
      no_cause (freeze_result p s.frame.values i) i.result.name (λ c. ⊥)
      (bind_wrong (typed_operand p s.frame.values i.operand) (λ a. Known a.number) (λ c. ⊥) (operand_at-wrong p s.frame.values i.operand.ty.ty i.operand.operand (λ c. ⊥)) (λ a ea. tt))
  effect-wrong (instruction.Alloca i) = tt
  effect-wrong (instruction.Load i) =
      no_cause (load_result m p s i) i.result.name (InstructionFails m p s (instruction.Load i))
      (bind_wrong (known (value_width p.width i.ty.ty)) (λ w. operand p s.frame.values p.width i.pointer >>= λ at. load_value (live_objects m p s) s.set at.number (size_of m p.width i.ty.ty) w) (InstructionFails m p s (instruction.Load i)) (known-wrong (value_width p.width i.ty.ty) (InstructionFails m p s (instruction.Load i))) (λ w ew.
      bind_wrong (operand p s.frame.values p.width i.pointer) (λ at. load_value (live_objects m p s) s.set at.number (size_of m p.width i.ty.ty) w) (InstructionFails m p s (instruction.Load i)) (operand-wrong p s.frame.values p.width i.pointer (InstructionFails m p s (instruction.Load i))) (λ at ea.
      with_address w at (width_is (value_width p.width i.ty.ty) w ew) ea (load_value (live_objects m p s) s.set at.number (size_of m p.width i.ty.ty) w) (load-wrong (live_objects m p s) s.set at.number (size_of m p.width i.ty.ty) w))))
    where
      width_is : (o : Option ℕ) (w : ℕ) → known o ≡ Known w → o ≡ Some w
      width_is None w e = absurd (cc)
      width_is (Some v) w e = ap (λ (a : Answer ℕ). elim a [ Known y ↦ Some y | Wrong c ↦ None | Lacking ↦ None ]) e

      with_address : (w : ℕ) (at : BitValue) → value_width p.width i.ty.ty ≡ Some w → operand p s.frame.values p.width i.pointer ≡ Known at → (v : Answer ℕ) → IfWrong v (LoadFails (live_objects m p s) s.set at.number (size_of m p.width i.ty.ty) w) → IfWrong v (InstructionFails m p s (instruction.Load i))
      with_address w at ew ea (Known x) h = tt
      with_address w at ew ea (Wrong c) h = (w, at, ew, ea, h)
      with_address w at ew ea Lacking h = tt
  effect-wrong (instruction.Store i) =
      bind_wrong (store_result m p s i) (λ set. Known (sets_bytes s set)) (InstructionFails m p s (instruction.Store i))
      (two_wrong (typed_operand p s.frame.values i.value) (operand p s.frame.values p.width i.pointer) (λ x at. store_value (live_objects m p s) s.set at.number (size_of m p.width i.value.ty.ty) x.number) (InstructionFails m p s (instruction.Store i))
      (operand_at-wrong p s.frame.values i.value.ty.ty i.value.operand (InstructionFails m p s (instruction.Store i)))
      (operand-wrong p s.frame.values p.width i.pointer (InstructionFails m p s (instruction.Store i)))
      (λ x at ex ea. with_address x at ex ea (store_value (live_objects m p s) s.set at.number (size_of m p.width i.value.ty.ty) x.number) (store-wrong (live_objects m p s) s.set at.number (size_of m p.width i.value.ty.ty) x.number)))
      (λ set e. tt)
    where
      with_address : (x at : BitValue) → typed_operand p s.frame.values i.value ≡ Known x → operand p s.frame.values p.width i.pointer ≡ Known at → (v : Answer Bytes) → IfWrong v (StoreFails (live_objects m p s) at.number (size_of m p.width i.value.ty.ty)) → IfWrong v (InstructionFails m p s (instruction.Store i))
      with_address x at ex ea (Known set) h = tt
      with_address x at ex ea (Wrong c) h = (x, at, ex, ea, h)
      with_address x at ex ea Lacking h = tt
  effect-wrong (instruction.ElementPointer i) =
      no_cause (element_result m p s.frame.values i) i.result.name (λ c. ⊥)
      (bind_wrong (operand p s.frame.values p.width i.pointer) (λ at. element_address m p s.frame.values i.ty.ty at.number i.indices) (λ c. ⊥) (operand-wrong p s.frame.values p.width i.pointer (λ c. ⊥)) (λ at ea. address-wrong m p s.frame.values i.ty.ty at.number i.indices (λ c. ⊥)))
  effect-wrong (instruction.Call i) = tt

  -- ---- steps

  jumped-wrong : (target : Name) (P : Cause → Type 0) → IfUndefined (jumped p s target) P
  jumped-wrong target P =
      go_on-undefined (known (block_named s.frame.function target)) (λ b. go_on (phi_values p s.frame.values s.frame.block b.phis s.frame.values) (λ values. Next (in_block s b values))) P (known-wrong (block_named s.frame.function target) P) (λ b eb.
      go_on-undefined (phi_values p s.frame.values s.frame.block b.phis s.frame.values) (λ values. Next (in_block s b values)) P (phis-wrong b.phis s.frame.values) (λ values ev. tt))
    where
      phi-wrong : (phi : Phi) → IfWrong (phi_value p s.frame.values s.frame.block phi) P
      phi-wrong phi =
          bind_wrong (known (find (λ (i : Incoming). same_name i.block.name s.frame.block) phi.incoming)) (λ incoming. operand_at p s.frame.values phi.ty.ty incoming.operand >>= λ x. Known x.number) P (known-wrong (find (λ (i : Incoming). same_name i.block.name s.frame.block) phi.incoming) P) (λ incoming e.
          bind_wrong (operand_at p s.frame.values phi.ty.ty incoming.operand) (λ x. Known x.number) P (operand_at-wrong p s.frame.values phi.ty.ty incoming.operand P) (λ x ex. tt))

      phis-wrong : (phis : List Phi) (after : Values) → IfWrong (phi_values p s.frame.values s.frame.block phis after) P
      phis-wrong [] after = tt
      phis-wrong (phi ∷ phis) after =
          bind_wrong (phi_value p s.frame.values s.frame.block phi) (λ x. phi_values p s.frame.values s.frame.block phis (with_value phi.result.name x after)) P (phi-wrong phi) (λ x e. phis-wrong phis (with_value phi.result.name x after))

  given_back-wrong : (given : Option ℕ) (waiting : List Frame) (P : Cause → Type 0) → IfUndefined (given_back s given waiting) P
  given_back-wrong given [] P = tt
  given_back-wrong given (caller ∷ waiting) P =
      go_on-undefined (known (with_result s.frame.destination given caller.values)) (λ values. Next (record { frame = record caller { values = values }; waiting = waiting; set = s.set })) P (known-wrong (with_result s.frame.destination given caller.values) P) (λ values e. tt)

  returned-wrong : (o : Option TypedOperand) (P : Cause → Type 0) → IfUndefined (returned p s o) P
  returned-wrong None P = given_back-wrong None s.waiting P
  returned-wrong (Some o) P =
      go_on-undefined (typed_operand p s.frame.values o) (λ x. given_back s (Some x.number) s.waiting) P (operand_at-wrong p s.frame.values o.ty.ty o.operand P) (λ x e. given_back-wrong (Some x.number) s.waiting P)

  terminator-wrong : (t : Terminator) → IfUndefined (terminator_step p s t) (EndFails t)
  terminator-wrong (terminator.Jump t) = jumped-wrong t.target.name (EndFails (terminator.Jump t))
  terminator-wrong (terminator.Branch t) =
      go_on-undefined (operand p s.frame.values 1 t.condition) (λ c. jumped p s (if nat_eq c.number 1 then t.then.name else t.otherwise.name)) (EndFails (terminator.Branch t)) (operand-wrong p s.frame.values 1 t.condition (EndFails (terminator.Branch t))) (λ c e. jumped-wrong (if nat_eq c.number 1 then t.then.name else t.otherwise.name) (EndFails (terminator.Branch t)))
  terminator-wrong (terminator.Switch t) =
      go_on-undefined (typed_operand p s.frame.values t.value) (λ x. jumped p s (switch_target t x)) (EndFails (terminator.Switch t)) (operand_at-wrong p s.frame.values t.value.ty.ty t.value.operand (EndFails (terminator.Switch t))) (λ x e. jumped-wrong (switch_target t x) (EndFails (terminator.Switch t)))
  terminator-wrong (terminator.Return t) = returned-wrong t.value (EndFails (terminator.Return t))
  terminator-wrong (terminator.Unreachable at) = tt

  entered-wrong : (f : Function) (arguments : List ℕ) (end : ℕ) (destination : Option Destination) (waiting : List Frame) (set : Bytes) (P : Cause → Type 0) → IfUndefined (entered p f arguments end destination waiting set) P
  entered-wrong f arguments end destination waiting set P =
      go_on-undefined (known (bound p.width f.parameters arguments no_values)) (λ values. go_on (known (first_block f.blocks)) (λ entry. Next (record { frame = fresh_frame f entry values (end - p.frame f.name.name) destination; waiting = waiting; set = cleared set (end - p.frame f.name.name) end }))) P (known-wrong (bound p.width f.parameters arguments no_values) P) (λ values ev.
      go_on-undefined (known (first_block f.blocks)) (λ entry. Next (record { frame = fresh_frame f entry values (end - p.frame f.name.name) destination; waiting = waiting; set = cleared set (end - p.frame f.name.name) end })) P (known-wrong (first_block f.blocks) P) (λ entry ee. tt))

  arguments-wrong : (xs : List TypedOperand) (P : Cause → Type 0) → IfWrong (argument_values p s.frame.values xs) P
  arguments-wrong [] P = tt
  arguments-wrong (a ∷ more) P =
      two_wrong (typed_operand p s.frame.values a) (argument_values p s.frame.values more) (λ x xs. Known (x.number ∷ xs)) P (operand_at-wrong p s.frame.values a.ty.ty a.operand P) (arguments-wrong more P) (λ x xs ex exs. tt)

  called-wrong : (c : Call) (left : List Instruction) (P : Cause → Type 0) → IfUndefined (called m p s c left) P
  called-wrong c left P =
      go_on-undefined (known (function_named m c.callee.name)) (λ f. go_on (argument_values p s.frame.values c.arguments) (λ arguments. if nat_lt s.frame.base (p.low + p.frame f.name.name) then StackFull else entered p f arguments s.frame.base (destination_of p c) (behind_call s.frame left ∷ s.waiting) s.set)) P (known-wrong (function_named m c.callee.name) P) (λ f ef.
      go_on-undefined (argument_values p s.frame.values c.arguments) (λ arguments. if nat_lt s.frame.base (p.low + p.frame f.name.name) then StackFull else entered p f arguments s.frame.base (destination_of p c) (behind_call s.frame left ∷ s.waiting) s.set) P (arguments-wrong c.arguments P) (λ arguments ea.
      by_room f arguments (nat_lt s.frame.base (p.low + p.frame f.name.name))))
    where
      by_room : (f : Function) (arguments : List ℕ) (b : Bool) → IfUndefined (if b then StackFull else entered p f arguments s.frame.base (destination_of p c) (behind_call s.frame left ∷ s.waiting) s.set) P
      by_room f arguments true = tt
      by_room f arguments false = entered-wrong f arguments s.frame.base (destination_of p c) (behind_call s.frame left ∷ s.waiting) s.set P

  effect_step-wrong : (i : Instruction) (left : List Instruction) → IfUndefined (go_on (effect m p s i) (λ e. Next (takes_effect s e left))) (InstructionFails m p s i)
  effect_step-wrong i left = go_on-undefined (effect m p s i) (λ e. Next (takes_effect s e left)) (InstructionFails m p s i) (effect-wrong i) (λ e k. tt)

  instruction-wrong : (i : Instruction) (left : List Instruction) → IfUndefined (instruction_step m p s i left) (InstructionFails m p s i)
  instruction-wrong (instruction.Call c) left = called-wrong c left (λ k. ⊥)
  instruction-wrong i left = effect_step-wrong i left

  step_at-wrong : (left : List Instruction) → IfUndefined (step_at m p s left) (LeftFails m p s left)
  step_at-wrong [] = terminator-wrong s.frame.last
  step_at-wrong (i ∷ left) = instruction-wrong i left

  -- where the step is undefined it is one of the cases
  pub only_when : (c : Cause) → ir_step m p s ≡ Undefined c → StepFails m p s c
  only_when c e = subst (λ o. IfUndefined o (StepFails m p s)) e (step_at-wrong s.frame.left)

  -- ---- and back

  unsigned_of : (op : BinaryOperator) (a b : BitValue) (q : ℕ) (c : Cause) → divides_signed op ≡ false → shifts op ≡ false → BinaryFails op a b c → (if nat_eq b.number 0 then Wrong UnsignedByZero else Known q) ≡ Wrong c
  unsigned_of op a b q UnsignedByZero signed far h = ap (λ t. if t then Wrong UnsignedByZero else Known q) (eq-eqb b.number 0 h.1)
  unsigned_of op a b q SignedByZero signed far h = absurd (both_ways (divides_signed op) signed h.0)
  unsigned_of op a b q SignedOverflow signed far h = absurd (both_ways (divides_signed op) signed h.0)
  unsigned_of op a b q ShiftTooFar signed far h = absurd (both_ways (shifts op) far h.0)
  unsigned_of op a b q Unreachable signed far h = absurd h
  unsigned_of op a b q LoadOutside signed far h = absurd h
  unsigned_of op a b q StoreOutside signed far h = absurd h
  unsigned_of op a b q LoadUnset signed far h = absurd h
  unsigned_of op a b q LoadNoBit signed far h = absurd h
  unsigned_of op a b q StoreConstant signed far h = absurd h

  abbrev signed_value_of : Bool → Bool → ℕ → Answer ℕ
  signed_value_of zero over q = if zero then Wrong SignedByZero else (if over then Wrong SignedOverflow else Known q)

  signed_of : (op : BinaryOperator) (a b : BitValue) (q : ℕ) (c : Cause) → divides_unsigned op ≡ false → shifts op ≡ false → BinaryFails op a b c → signed_value_of (nat_eq b.number 0) (overflows a b) q ≡ Wrong c
  signed_of op a b q UnsignedByZero unsigned far h = absurd (both_ways (divides_unsigned op) unsigned h.0)
  signed_of op a b q SignedByZero unsigned far h = ap (λ t. signed_value_of t (overflows a b) q) (eq-eqb b.number 0 h.1)
  signed_of op a b q SignedOverflow unsigned far h =
      let some : nat_eq b.number 0 ≡ false = ne_eqb b.number 0 (not_zero b.number h.1) in
      let over : overflows a b ≡ true = and_from (nat_eq a.number (2 ^ (a.width - 1))) (nat_eq b.number (2 ^ b.width - 1)) (eq-eqb a.number (2 ^ (a.width - 1)) h.2) (eq-eqb b.number (2 ^ b.width - 1) h.3) in
      ap (λ t. signed_value_of t (overflows a b) q) some ∙ ap (λ t. signed_value_of false t q) over
    where
      not_zero : (n : ℕ) → 0 < n → n ≡ 0 → ⊥
      not_zero n h e = omega (arith, h, e)
  signed_of op a b q ShiftTooFar unsigned far h = absurd (both_ways (shifts op) far h.0)
  signed_of op a b q Unreachable unsigned far h = absurd h
  signed_of op a b q LoadOutside unsigned far h = absurd h
  signed_of op a b q StoreOutside unsigned far h = absurd h
  signed_of op a b q LoadUnset unsigned far h = absurd h
  signed_of op a b q LoadNoBit unsigned far h = absurd h
  signed_of op a b q StoreConstant unsigned far h = absurd h

  shift_of : (op : BinaryOperator) (a b : BitValue) (q : ℕ) (c : Cause) → divides_unsigned op ≡ false → divides_signed op ≡ false → BinaryFails op a b c → (if nat_le a.width b.number then Wrong ShiftTooFar else Known q) ≡ Wrong c
  shift_of op a b q UnsignedByZero unsigned signed h = absurd (both_ways (divides_unsigned op) unsigned h.0)
  shift_of op a b q SignedByZero unsigned signed h = absurd (both_ways (divides_signed op) signed h.0)
  shift_of op a b q SignedOverflow unsigned signed h = absurd (both_ways (divides_signed op) signed h.0)
  shift_of op a b q ShiftTooFar unsigned signed h = ap (λ t. if t then Wrong ShiftTooFar else Known q) (le-leb a.width b.number h.1)
  shift_of op a b q Unreachable unsigned signed h = absurd h
  shift_of op a b q LoadOutside unsigned signed h = absurd h
  shift_of op a b q StoreOutside unsigned signed h = absurd h
  shift_of op a b q LoadUnset unsigned signed h = absurd h
  shift_of op a b q LoadNoBit unsigned signed h = absurd h
  shift_of op a b q StoreConstant unsigned signed h = absurd h

  none_of : (op : BinaryOperator) (a b : BitValue) (c : Cause) → divides_unsigned op ≡ false → divides_signed op ≡ false → shifts op ≡ false → BinaryFails op a b c → ⊥
  none_of op a b UnsignedByZero unsigned signed far h = both_ways (divides_unsigned op) unsigned h.0
  none_of op a b SignedByZero unsigned signed far h = both_ways (divides_signed op) signed h.0
  none_of op a b SignedOverflow unsigned signed far h = both_ways (divides_signed op) signed h.0
  none_of op a b ShiftTooFar unsigned signed far h = both_ways (shifts op) far h.0
  none_of op a b Unreachable unsigned signed far h = h
  none_of op a b LoadOutside unsigned signed far h = h
  none_of op a b StoreOutside unsigned signed far h = h
  none_of op a b LoadUnset unsigned signed far h = h
  none_of op a b LoadNoBit unsigned signed far h = h
  none_of op a b StoreConstant unsigned signed far h = h

  binary_of : (op : BinaryOperator) (a b : BitValue) (c : Cause) → BinaryFails op a b c → binary_value op a b ≡ Wrong c
  binary_of binary.Add a b c h = absurd (none_of binary.Add a b c refl refl refl h)
  binary_of binary.Sub a b c h = absurd (none_of binary.Sub a b c refl refl refl h)
  binary_of binary.Mul a b c h = absurd (none_of binary.Mul a b c refl refl refl h)
  binary_of binary.Udiv a b c h = unsigned_of binary.Udiv a b (bits.udiv a b).number c refl refl h
  binary_of binary.Sdiv a b c h = signed_of binary.Sdiv a b (bits.sdiv a b).number c refl refl h
  binary_of binary.Urem a b c h = unsigned_of binary.Urem a b (bits.urem a b).number c refl refl h
  binary_of binary.Srem a b c h = signed_of binary.Srem a b (bits.srem a b).number c refl refl h
  binary_of binary.Shl a b c h = shift_of binary.Shl a b (bits.shl a b).number c refl refl h
  binary_of binary.Lshr a b c h = shift_of binary.Lshr a b (bits.shr a b).number c refl refl h
  binary_of binary.Ashr a b c h = shift_of binary.Ashr a b (bits.sar a b).number c refl refl h
  binary_of binary.And a b c h = absurd (none_of binary.And a b c refl refl refl h)
  binary_of binary.Or a b c h = absurd (none_of binary.Or a b c refl refl refl h)
  binary_of binary.Xor a b c h = absurd (none_of binary.Xor a b c refl refl refl h)

  abbrev load_of_object : Bytes → ℕ → ℕ → ℕ → Option Object → Answer ℕ
  load_of_object set at bytes width r = elim r [ None ↦ Wrong LoadOutside | Some o ↦ as_loaded width (loaded set at bytes) ]

  load_of : (objects : List Object) (set : Bytes) (at bytes width : ℕ) (c : Cause) → LoadFails objects set at bytes width c → load_value objects set at bytes width ≡ Wrong c
  load_of objects set at bytes width LoadOutside h = ap (load_of_object set at bytes width) h
  load_of objects set at bytes width LoadUnset (o, eo, e) = ap (load_of_object set at bytes width) eo ∙ ap (as_loaded width) e
  load_of objects set at bytes width LoadNoBit (o, eo, one, (x, ex, big)) =
      ap (load_of_object set at bytes width) eo ∙ ap (as_loaded width) ex
      ∙ ap (λ t. if t then Wrong LoadNoBit else Known x) (and_from (nat_eq width 1) (nat_lt 1 x) (eq-eqb width 1 one) (lt-ltb 1 x big))
  load_of objects set at bytes width UnsignedByZero h = absurd h
  load_of objects set at bytes width SignedByZero h = absurd h
  load_of objects set at bytes width SignedOverflow h = absurd h
  load_of objects set at bytes width ShiftTooFar h = absurd h
  load_of objects set at bytes width Unreachable h = absurd h
  load_of objects set at bytes width StoreOutside h = absurd h
  load_of objects set at bytes width StoreConstant h = absurd h

  abbrev store_of_object : Bytes → ℕ → ℕ → ℕ → Option Object → Answer Bytes
  store_of_object set at bytes x r = elim r [ None ↦ Wrong StoreOutside | Some o ↦ if o.constant then Wrong StoreConstant else Known (stored set at bytes x) ]

  store_of : (objects : List Object) (set : Bytes) (at bytes x : ℕ) (c : Cause) → StoreFails objects at bytes c → store_value objects set at bytes x ≡ Wrong c
  store_of objects set at bytes x StoreOutside h = ap (store_of_object set at bytes x) h
  store_of objects set at bytes x StoreConstant (o, eo, e) =
      ap (store_of_object set at bytes x) eo ∙ ap (λ t. if t then Wrong StoreConstant else Known (stored set at bytes x)) e
  store_of objects set at bytes x UnsignedByZero h = absurd h
  store_of objects set at bytes x SignedByZero h = absurd h
  store_of objects set at bytes x SignedOverflow h = absurd h
  store_of objects set at bytes x ShiftTooFar h = absurd h
  store_of objects set at bytes x Unreachable h = absurd h
  store_of objects set at bytes x LoadOutside h = absurd h
  store_of objects set at bytes x LoadUnset h = absurd h
  store_of objects set at bytes x LoadNoBit h = absurd h

  abbrev behind : List Instruction → Answer Effect → Outcome
  behind left a = go_on a (λ e. Next (takes_effect s e left))

  bind_of : {A B : Type 0} (a : Answer A) (f : A → Answer B) (x : A) → a ≡ Known x → (a >>= f) ≡ f x
  bind_of a f x e = ap (λ y. y >>= f) e

  instruction_of : (i : Instruction) (left : List Instruction) (c : Cause) → InstructionFails m p s i c → instruction_step m p s i left ≡ Undefined c
  instruction_of (instruction.Binary i) left c (a, b, ea, eb, h) =
      let value : binary_result p s.frame.values i ≡ Wrong c =
      bind_of (operand_at p s.frame.values i.ty.ty i.left) (λ x. operand_at p s.frame.values i.ty.ty i.right >>= λ y. binary_value i.operator x y) a ea
      ∙ bind_of (operand_at p s.frame.values i.ty.ty i.right) (λ y. binary_value i.operator a y) b eb
      ∙ binary_of i.operator a b c h in
      ap (λ v. behind left (v >>= λ x. Known (sets_result s i.result.name x))) value
  instruction_of (instruction.Load i) left c (width, at, ew, ea, h) =
      let value : load_result m p s i ≡ Wrong c =
      bind_of (known (value_width p.width i.ty.ty)) (λ w. operand p s.frame.values p.width i.pointer >>= λ to. load_value (live_objects m p s) s.set to.number (size_of m p.width i.ty.ty) w) width (ap known ew)
      ∙ bind_of (operand p s.frame.values p.width i.pointer) (λ to. load_value (live_objects m p s) s.set to.number (size_of m p.width i.ty.ty) width) at ea
      ∙ load_of (live_objects m p s) s.set at.number (size_of m p.width i.ty.ty) width c h in
      ap (λ v. behind left (v >>= λ x. Known (sets_result s i.result.name x))) value
  instruction_of (instruction.Store i) left c (x, at, ex, ea, h) =
      let value : store_result m p s i ≡ Wrong c =
      bind_of (typed_operand p s.frame.values i.value) (λ y. operand p s.frame.values p.width i.pointer >>= λ to. store_value (live_objects m p s) s.set to.number (size_of m p.width i.value.ty.ty) y.number) x ex
      ∙ bind_of (operand p s.frame.values p.width i.pointer) (λ to. store_value (live_objects m p s) s.set to.number (size_of m p.width i.value.ty.ty) x.number) at ea
      ∙ store_of (live_objects m p s) s.set at.number (size_of m p.width i.value.ty.ty) x.number c h in
      ap (λ v. behind left (v >>= λ set. Known (sets_bytes s set))) value
  instruction_of (instruction.Compare i) left c h = absurd h
  instruction_of (instruction.Select i) left c h = absurd h
  instruction_of (instruction.Cast i) left c h = absurd h
  instruction_of (instruction.Freeze i) left c h = absurd h
  instruction_of (instruction.Alloca i) left c h = absurd h
  instruction_of (instruction.ElementPointer i) left c h = absurd h
  instruction_of (instruction.Call i) left c h = absurd h

  end_of_block : (t : Terminator) (c : Cause) → EndFails t c → terminator_step p s t ≡ Undefined c
  end_of_block (terminator.Unreachable at) Unreachable h = refl
  end_of_block (terminator.Unreachable at) UnsignedByZero h = absurd h
  end_of_block (terminator.Unreachable at) SignedByZero h = absurd h
  end_of_block (terminator.Unreachable at) SignedOverflow h = absurd h
  end_of_block (terminator.Unreachable at) ShiftTooFar h = absurd h
  end_of_block (terminator.Unreachable at) LoadOutside h = absurd h
  end_of_block (terminator.Unreachable at) StoreOutside h = absurd h
  end_of_block (terminator.Unreachable at) LoadUnset h = absurd h
  end_of_block (terminator.Unreachable at) LoadNoBit h = absurd h
  end_of_block (terminator.Unreachable at) StoreConstant h = absurd h
  end_of_block (terminator.Jump t) c h = absurd h
  end_of_block (terminator.Branch t) c h = absurd h
  end_of_block (terminator.Switch t) c h = absurd h
  end_of_block (terminator.Return t) c h = absurd h

  left_of : (left : List Instruction) (c : Cause) → LeftFails m p s left c → step_at m p s left ≡ Undefined c
  left_of [] c h = end_of_block s.frame.last c h
  left_of (i ∷ left) c h = instruction_of i left c h

  -- in each of the cases the step is undefined
  pub whenever : (c : Cause) → StepFails m p s c → ir_step m p s ≡ Undefined c
  whenever c h = left_of s.frame.left c h
