-- The result of each instruction fits the width of its type.
use Rattle.std.proofs.Common.{◌≡◌, ℕ, ◌+◌, ◌*◌, ◌^◌, ◌<◌, Bool, true, false, nat_eq, nat_le, List, [], ◌∷◌, sym, ◌∙◌, arith}
use Rattle.std.specs.Prelude.{if◌then◌else◌, slice_get}
use Rattle.std.proofs.lemmas.Nat.{pow_pos, mod_below}
use Rattle.vg_bits.specs.BitValue.{BitValue, bit_value, IsBitValue}
use Rattle.vg_bits.specs.BitValue as bits
use Rattle.vg_bits.proofs.Ranges as ranges
use Rattle.vg_ir.specs.declared.ty.Ty.{Ty}
use Rattle.vg_ir.specs.declared.ty.Ty.TheOpen.{Ty-F}
use Rattle.vg_ir.specs.declared.operator.BinaryOperator.{BinaryOperator}
use Rattle.vg_ir.specs.declared.operator.BinaryOperator.TheVariants as binary
use Rattle.vg_ir.specs.declared.operator.CastOperator.{CastOperator}
use Rattle.vg_ir.specs.declared.operator.CastOperator.TheVariants as cast
use Rattle.vg_ir.specs.declared.instruction.Binary.{Binary}
use Rattle.vg_ir.specs.declared.instruction.Compare.{Compare}
use Rattle.vg_ir.specs.declared.instruction.Select.{Select}
use Rattle.vg_ir.specs.declared.instruction.Cast.{Cast}
use Rattle.vg_ir.specs.declared.instruction.Freeze.{Freeze}
use Rattle.vg_ir.specs.declared.instruction.ElementPointer.{ElementPointer}
use Rattle.vg_ir.specs.declared.instruction.Index.{Index}
use Rattle.vg_ir.specs.declared.module.Parts.{Parts}
use Rattle.vg_ir.specs.Shape.{has_widths}
use Rattle.vg_ir.specs.Answer.{Cause, Answer, Known, Wrong, Lacking, ◌>>=◌, known}
use Rattle.vg_ir.specs.Arithmetic.{overflows, binary_value, compared, bit_of, cast_value}
use Rattle.vg_ir.specs.State.{Placement, Values}
use Rattle.vg_ir.specs.Operands.{value_width, operand, operand_at, typed_operand}
use Rattle.vg_ir.specs.Address.{index_number, moved_by, element_at, field_number, opened, part_at, inner_at, element_address}
use Rattle.vg_ir.specs.TypeLayout.{size_of, offset_in}
use Rattle.vg_ir.specs.Effect.{binary_result, compare_result, select_result, cast_result, freeze_result, element_result}
use Rattle.vg_ir.specs.Outcomes.{IfKnown}
use Rattle.vg_ir.proofs.Binding.{bind_known, two_known}
use Rattle.vg_ir.proofs.Membership.{some_same}
use Rattle.vg_ir.proofs.Widths.{IsMachine, IsWidth, value_width-is, is_width, HasWidth, IsOf, operand-has, operand_at-is, from_known, Below, below_of, known_bind}

-- a value behind a test for a cause
pub unless : {A : Type 0} (b : Bool) (c : Cause) (a : Answer A) (P : A → Type 0) → IfKnown a P → IfKnown (if b then Wrong c else a) P
unless true c a P h = tt
unless false c a P h = h

-- of two values of one width
pub binary_value-below : (op : BinaryOperator) (a b : BitValue) → IsBitValue a → IsBitValue b → a.width ≡ b.width → IfKnown (binary_value op a b) (λ x. x < 2 ^ a.width)
binary_value-below binary.Add a b h k e = (ranges.IsBitValue-add a b h).below
binary_value-below binary.Sub a b h k e = (ranges.IsBitValue-sub a b h).below
binary_value-below binary.Mul a b h k e = (ranges.IsBitValue-mul a b h).below
binary_value-below binary.Udiv a b h k e = unless (nat_eq b.number 0) _ (Known (bits.udiv a b).number) (λ x. x < 2 ^ a.width) (ranges.IsBitValue-udiv a b h).below
binary_value-below binary.Sdiv a b h k e = unless (nat_eq b.number 0) _ (if overflows a b then Wrong _ else Known (bits.sdiv a b).number) (λ x. x < 2 ^ a.width) (unless (overflows a b) _ (Known (bits.sdiv a b).number) (λ x. x < 2 ^ a.width) (ranges.IsBitValue-sdiv a b h).below)
binary_value-below binary.Urem a b h k e = unless (nat_eq b.number 0) _ (Known (bits.urem a b).number) (λ x. x < 2 ^ a.width) (ranges.IsBitValue-urem a b h).below
binary_value-below binary.Srem a b h k e = unless (nat_eq b.number 0) _ (if overflows a b then Wrong _ else Known (bits.srem a b).number) (λ x. x < 2 ^ a.width) (unless (overflows a b) _ (Known (bits.srem a b).number) (λ x. x < 2 ^ a.width) (ranges.IsBitValue-srem a b h).below)
binary_value-below binary.Shl a b h k e = unless (nat_le a.width b.number) _ (Known (bits.shl a b).number) (λ x. x < 2 ^ a.width) (ranges.IsBitValue-shl a b h).below
binary_value-below binary.Lshr a b h k e = unless (nat_le a.width b.number) _ (Known (bits.shr a b).number) (λ x. x < 2 ^ a.width) (ranges.IsBitValue-shr a b h).below
binary_value-below binary.Ashr a b h k e = unless (nat_le a.width b.number) _ (Known (bits.sar a b).number) (λ x. x < 2 ^ a.width) (ranges.IsBitValue-sar a b h).below
binary_value-below binary.And a b h k e = (ranges.IsBitValue-and a b h).below
binary_value-below binary.Or a b h k e = (ranges.IsBitValue-or a b h k e).below
binary_value-below binary.Xor a b h k e = (ranges.IsBitValue-xor a b h k e).below

-- a cast gives a number of its target's width
pub cast_value-below : (op : CastOperator) (a : BitValue) (n : ℕ) → cast_value op a n < 2 ^ n
cast_value-below cast.Zext a n = mod_below a.number (2 ^ n) (pow_pos n)
cast_value-below cast.Sext a n = ranges.wrapped_below n (bits.signed_value a)
cast_value-below cast.Trunc a n = mod_below a.number (2 ^ n) (pow_pos n)
cast_value-below cast.PtrToInt a n = mod_below a.number (2 ^ n) (pow_pos n)
cast_value-below cast.IntToPtr a n = mod_below a.number (2 ^ n) (pow_pos n)
cast_value-below cast.Bitcast a n = mod_below a.number (2 ^ n) (pow_pos n)

bit_of-below : (b : Bool) → bit_of b < 2 ^ 1
bit_of-below true = omega arith
bit_of-below false = omega arith

module _ (p : Placement) (machine : IsMachine p.width) (values : Values) where
  -- a value of a well formed type
  is_bit_value : (t : Ty) (a : BitValue) → has_widths t ≡ true → IsOf p t a → IsBitValue a
  is_bit_value t a formed is =
      let w : IsWidth a.width = is_width p.width a.width machine (value_width-is p.width t a.width machine formed is.width) in
      record { wide = w.wide; narrow = w.narrow; below = is.below }

  -- a two-operand instruction
  pub binary-below : (i : Binary) → has_widths i.ty.ty ≡ true → IfKnown (binary_result p values i) (Below p i.ty.ty)
  binary-below i formed =
      two_known (operand_at p values i.ty.ty i.left) (operand_at p values i.ty.ty i.right) (λ a b. binary_value i.operator a b) (Below p i.ty.ty) (λ a b ea eb.
      let ha : IsOf p i.ty.ty a = from_known (operand_at p values i.ty.ty i.left) (IsOf p i.ty.ty) a (operand_at-is p values i.ty.ty i.left) ea in
      let hb : IsOf p i.ty.ty b = from_known (operand_at p values i.ty.ty i.right) (IsOf p i.ty.ty) b (operand_at-is p values i.ty.ty i.right) eb in
      let same : a.width ≡ b.width = some_same a.width b.width (sym ha.width ∙ hb.width) in
      widen (binary_value i.operator a b) a ha (binary_value-below i.operator a b (is_bit_value i.ty.ty a formed ha) (is_bit_value i.ty.ty b formed hb) same))
    where
      widen : (v : Answer ℕ) (a : BitValue) → IsOf p i.ty.ty a → IfKnown v (λ x. x < 2 ^ a.width) → IfKnown v (Below p i.ty.ty)
      widen (Known x) a is h = below_of p i.ty.ty a x is h
      widen (Wrong c) a is h = tt
      widen Lacking a is h = tt

  -- a comparison
  pub compare-below : (i : Compare) → IfKnown (compare_result p values i) (λ x. x < 2 ^ 1)
  compare-below i =
      two_known (operand_at p values i.ty.ty i.left) (operand_at p values i.ty.ty i.right) (λ a b. Known (bit_of (compared i.predicate a b))) (λ x. x < 2 ^ 1) (λ a b ea eb. bit_of-below (compared i.predicate a b))

  either : (b : Bool) (t : Ty) (x y : ℕ) → Below p t x → Below p t y → Below p t (if b then x else y)
  either true t x y h k = h
  either false t x y h k = k

  -- a selection
  pub select-below : (i : Select) → IfKnown (select_result p values i) (Below p i.then.ty.ty)
  select-below i =
      bind_known (operand p values 1 i.condition) (λ c. operand_at p values i.then.ty.ty i.then.operand >>= λ a. operand_at p values i.then.ty.ty i.otherwise.operand >>= λ b. Known (if nat_eq c.number 1 then a.number else b.number)) (Below p i.then.ty.ty) (λ c ec.
      two_known (operand_at p values i.then.ty.ty i.then.operand) (operand_at p values i.then.ty.ty i.otherwise.operand) (λ a b. Known (if nat_eq c.number 1 then a.number else b.number)) (Below p i.then.ty.ty) (λ a b ea eb.
      let ha : IsOf p i.then.ty.ty a = from_known (operand_at p values i.then.ty.ty i.then.operand) (IsOf p i.then.ty.ty) a (operand_at-is p values i.then.ty.ty i.then.operand) ea in
      let hb : IsOf p i.then.ty.ty b = from_known (operand_at p values i.then.ty.ty i.otherwise.operand) (IsOf p i.then.ty.ty) b (operand_at-is p values i.then.ty.ty i.otherwise.operand) eb in
      either (nat_eq c.number 1) i.then.ty.ty a.number b.number (below_of p i.then.ty.ty a a.number ha ha.below) (below_of p i.then.ty.ty b b.number hb hb.below)))

  -- a cast
  pub cast-below : (i : Cast) → IfKnown (cast_result p values i) (Below p i.target.ty)
  cast-below i =
      bind_known (typed_operand p values i.operand) (λ a. known (value_width p.width i.target.ty) >>= λ n. Known (cast_value i.operator a n)) (Below p i.target.ty) (λ a ea.
      known_bind (value_width p.width i.target.ty) (λ n. Known (cast_value i.operator a n)) (Below p i.target.ty) (λ n en. (n, en, cast_value-below i.operator a n)))

  -- freeze
  pub freeze-below : (i : Freeze) → IfKnown (freeze_result p values i) (Below p i.operand.ty.ty)
  freeze-below i =
      bind_known (typed_operand p values i.operand) (λ a. Known a.number) (Below p i.operand.ty.ty) (λ a ea.
      let ha : IsOf p i.operand.ty.ty a = from_known (typed_operand p values i.operand) (IsOf p i.operand.ty.ty) a (operand_at-is p values i.operand.ty.ty i.operand.operand) ea in
      below_of p i.operand.ty.ty a a.number ha ha.below)

  -- ---- addresses

  abbrev Address : ℕ → Type 0
  Address x = x < 2 ^ p.width

  moved_by-below : (at index size : ℕ) → moved_by p.width at index size < 2 ^ p.width
  moved_by-below at index size = mod_below (at + index * size) (2 ^ p.width) (pow_pos p.width)

  module _ (m : Parts) where
    element_at-below : (t : Ty) (at : ℕ) (i : Index) → IfKnown (element_at m p values t at i) Address
    element_at-below t at i =
        bind_known (operand p values i.ty.width i.operand) (λ index. Known (moved_by p.width at (index_number p.width index) (size_of m p.width t))) Address (λ index e. moved_by-below at (index_number p.width index) (size_of m p.width t))

    part_at-below : (l : Ty-F Ty) (at : ℕ) (i : Index) → IfKnown (part_at m p values l at i) (λ part. Address part.1)
    part_at-below (Ty-F.Int n) at i = tt
    part_at-below Ty-F.Ptr at i = tt
    part_at-below (Ty-F.Array count element) at i =
        bind_known (element_at m p values element at i) (λ to. Known (element, to)) (λ part. Address part.1) (λ to e. from_known (element_at m p values element at i) Address to (element_at-below element at i) e)
    part_at-below (Ty-F.Struct fields) at i =
        bind_known (field_number i) (λ k. known (slice_get fields k) >>= λ field. Known (field, moved_by p.width at 1 (offset_in m p.width fields k))) (λ part. Address part.1) (λ k ek.
        known_bind (slice_get fields k) (λ field. Known (field, moved_by p.width at 1 (offset_in m p.width fields k))) (λ part. Address part.1) (λ field ef. moved_by-below at 1 (offset_in m p.width fields k)))
    part_at-below (Ty-F.Named n) at i = tt

    inner_at-below : (more : List Index) (t : Ty) (at : ℕ) → Address at → IfKnown (inner_at m p values t at more) Address
    inner_at-below [] t at h = h
    inner_at-below (i ∷ more) t at h =
        known_bind (opened m t) (λ l. part_at m p values l at i >>= λ part. inner_at m p values part.0 part.1 more) Address (λ l el.
        bind_known (part_at m p values l at i) (λ part. inner_at m p values part.0 part.1 more) Address (λ part ep.
        inner_at-below more part.0 part.1 (from_known (part_at m p values l at i) (λ q. Address q.1) part (part_at-below l at i) ep)))

    address-below : (t : Ty) (at : ℕ) (indices : List Index) → Address at → IfKnown (element_address m p values t at indices) Address
    address-below t at [] h = h
    address-below t at (i ∷ more) h =
        bind_known (element_at m p values t at i) (λ to. inner_at m p values t to more) Address (λ to e. inner_at-below more t to (from_known (element_at m p values t at i) Address to (element_at-below t at i) e))

    -- getelementptr
    pub element-below : (i : ElementPointer) → IfKnown (element_result m p values i) Address
    element-below i =
        bind_known (operand p values p.width i.pointer) (λ at. element_address m p values i.ty.ty at.number i.indices) Address (λ at e.
        address-below i.ty.ty at.number i.indices (from_known (operand p values p.width i.pointer) (HasWidth p.width) at (operand-has p values p.width i.pointer) e).below)
