-- What trees that are alike have in common: widths and values.
use Rattle.std.proofs.Common.{◌≡◌, ℕ, suc, ◌+◌, ◌-◌, ◌%◌, ◌^◌, ◌<◌, inl, inr, true, IsTrue, nat_eq, refl, sym, ap, ◌∙◌, subst, arith}
use Rattle.std.specs.Prelude.{◌==◌}
use Rattle.std.proofs.Math.Nat.{add_comm, mul_comm, div-one, mod-eq_of_lt}
use Rattle.std.proofs.lemmas.Nat.{and_comm, or_comm, xor_comm}
use Rattle.std.proofs.lemmas.Bool.{cases_lt}
use Rattle.std.proofs.lemmas.Bool.Decides.{eqb_tells}
use Rattle.vg_bits.specs.BitValue.{BitValue, IsBitValue, bit_value, signed_value, wrapped}
use Rattle.vg_bits.specs.BitValue as bits
use Rattle.vg_bits.proofs.SignedValue.{signed_value-low, signed_value-high, wrapped-pos, wrapped-negsuc}
use Rattle.vg_isa.specs.declared.isa.Parts.{Parts}
use Rattle.vg_isa.specs.declared.expr.Expr.{Expr, fold-roll-Expr, map-Expr, roll-Expr}
use Rattle.vg_isa.specs.declared.expr.Expr.TheOpen.{Expr-F}
use Rattle.vg_isa.specs.declared.operator.BinOp.{BinOp}
use Rattle.vg_isa.specs.declared.operator.BinOp.TheVariants as binop
use Rattle.vg_isa.specs.declared.operator.CastOp.{CastOp}
use Rattle.vg_isa.specs.declared.operator.CastOp.TheVariants.{Extend, SignExtend, Cut, Keep}
use Rattle.vg_isa.specs.Accepted.{is_isa}
use Rattle.vg_isa.specs.Typing.{Typing, binary_fits, is_typed, typing_of, typing_step, width_of}
use Rattle.vg_isa.specs.Value.{IsLawful, IsValue, Reads, binary_value, cast_value, flag, value_of, value_step}
use Rattle.vg_isa.proofs.Tests.{both, true-nat_eq}
use Rattle.vg_isa.proofs.Lawful.{value_is}
use Rattle.vg_graph.specs.Alike.{Alike, commutes, same, turned, chained, within, swapped, cast, slice}
use Rattle.vg_graph.proofs.BuildLemmas.{operand_typed}
use Rattle.vg_graph.proofs.LevelLemmas.{fold_level, map_same}

-- ---- widths

equal_widths : (op : BinOp) (m n : ℕ) → IsTrue (commutes op) → binary_fits op m n ≡ true → nat_eq m n ≡ true
equal_widths binop.Add m n commuting h = h
equal_widths binop.Sub m n commuting h = h
equal_widths binop.Mul m n commuting h = h
equal_widths (binop.MulLong signed) m n commuting h = absurd cc
equal_widths binop.Udiv m n commuting h = h
equal_widths binop.Sdiv m n commuting h = h
equal_widths binop.Urem m n commuting h = h
equal_widths binop.Srem m n commuting h = h
equal_widths binop.And m n commuting h = h
equal_widths binop.Or m n commuting h = h
equal_widths binop.Xor m n commuting h = h
equal_widths binop.Shl m n commuting h = absurd cc
equal_widths binop.Shr m n commuting h = absurd cc
equal_widths binop.Sar m n commuting h = absurd cc
equal_widths binop.Eq m n commuting h = h
equal_widths binop.Lt m n commuting h = h
equal_widths binop.Slt m n commuting h = h

-- the operands of an operator that commutes are typed alike
pub operand_typings : (op : BinOp) (d : Parts) (s t : Typing) → IsTrue (commutes op) → IsTrue (typing_step d (Expr-F.Binary op s t)).is_typed → s ≡ t
operand_typings op d s t commuting h =
    let parts = both _ _ h in
    let typed = both _ _ parts.0 in
    let width : s.width ≡ t.width = true-nat_eq s.width t.width (equal_widths op s.width t.width commuting parts.1) in
    let is : s.is_typed ≡ t.is_typed = typed.0 ∙ sym typed.1 in
    λ i. record { width = width i; is_typed = is i }

pub opened_typing : (d : Parts) (x : Expr-F Expr) → IsTrue (is_typed d (roll-Expr x)) → IsTrue (typing_step d (map-Expr Expr Typing (typing_of d) x)).is_typed
opened_typing d x typed = subst (λ (t : Typing). IsTrue t.is_typed) (fold-roll-Expr Typing (typing_step d) x) typed

-- trees that are alike are typed alike
pub alike_typing : (d : Parts) (e f : Expr) → Alike d e f → typing_of d e ≡ typing_of d f
alike_typing d _ _ (same e) = refl
alike_typing d _ _ (turned e f h) = sym (alike_typing d e f h)
alike_typing d _ _ (chained e f g h k) = alike_typing d e f h ∙ alike_typing d f g k
alike_typing d _ _ (within x a b h) =
    fold_level Typing (typing_step d) x a
    ∙ ap (typing_step d) (map_same Typing x (λ (k : ℕ). typing_of d (a k)) (λ (k : ℕ). typing_of d (b k)) (λ k among. alike_typing d (a k) (b k) (h k)))
    ∙ sym (fold_level Typing (typing_step d) x b)
alike_typing d _ _ (swapped op a b commuting typed) =
    let one : typing_of d a ≡ typing_of d b = operand_typings op d (typing_of d a) (typing_of d b) commuting (opened_typing d (Expr-F.Binary op a b) typed) in
    fold-roll-Expr Typing (typing_step d) (Expr-F.Binary op a b)
    ∙ (λ i. typing_step d (Expr-F.Binary op (one i) (sym one i)))
    ∙ sym (fold-roll-Expr Typing (typing_step d) (Expr-F.Binary op b a))
alike_typing d _ _ (cast op width a is typed) =
    let h = opened_typing d (Expr-F.Cast op width a) typed in
    let a_typed : is_typed d a ≡ true = (both _ _ (both _ _ h).0).0 in
    let both_typed : (typing_step d (Expr-F.Cast op width (typing_of d a))).is_typed ≡ is_typed d a = h ∙ sym a_typed in
    fold-roll-Expr Typing (typing_step d) (Expr-F.Cast op width a) ∙ (λ i. record { width = is i; is_typed = both_typed i })
alike_typing d _ _ (slice a high typed cast_typed) =
    let h = opened_typing d (Expr-F.Slice a high 0) typed in
    let k = opened_typing d (Expr-F.Cast Cut (high + 1) a) cast_typed in
    let width : high + 1 - 0 ≡ high + 1 = omega arith in
    let both_typed : (typing_step d (Expr-F.Slice (typing_of d a) high 0)).is_typed ≡ (typing_step d (Expr-F.Cast Cut (high + 1) (typing_of d a))).is_typed = h ∙ sym k in
    fold-roll-Expr Typing (typing_step d) (Expr-F.Slice a high 0)
    ∙ (λ i. record { width = width i; is_typed = both_typed i })
    ∙ sym (fold-roll-Expr Typing (typing_step d) (Expr-F.Cast Cut (high + 1) a))

pub alike_typed : (d : Parts) (e f : Expr) → Alike d e f → IsTrue (is_typed d e) → IsTrue (is_typed d f)
alike_typed d e f alike typed = subst (λ (t : Typing). IsTrue t.is_typed) (alike_typing d e f alike) typed

-- ---- values

equal_numbers : (a b : ℕ) → (a == b) ≡ (b == a)
equal_numbers a b = elim (eqb_tells a b) [
  | inl w ↦ subst (λ (x : ℕ). (a == x) ≡ (x == a)) w.1 refl
  | inr w ↦ elim (eqb_tells b a) [
    | inl u ↦ absurd (w.1 (sym u.1))
    | inr u ↦ w.0 ∙ sym u.0
  ]
]

-- an operator that commutes, of two values of one width
commuted : (op : BinOp) (a b : BitValue) → IsTrue (commutes op) → a.width ≡ b.width → binary_value op a b ≡ binary_value op b a
commuted binop.Add a b commuting w = λ i. record { width = w i; number = add_comm a.number b.number i % 2 ^ w i }
commuted binop.Sub a b commuting w = absurd cc
commuted binop.Mul a b commuting w = λ i. record { width = w i; number = mul_comm a.number b.number i % 2 ^ w i }
commuted (binop.MulLong signed) a b commuting w = absurd cc
commuted binop.Udiv a b commuting w = absurd cc
commuted binop.Sdiv a b commuting w = absurd cc
commuted binop.Urem a b commuting w = absurd cc
commuted binop.Srem a b commuting w = absurd cc
commuted binop.And a b commuting w = λ i. record { width = w i; number = and_comm a.number b.number i }
commuted binop.Or a b commuting w = λ i. record { width = w i; number = or_comm a.number b.number i }
commuted binop.Xor a b commuting w = λ i. record { width = w i; number = xor_comm a.number b.number i }
commuted binop.Shl a b commuting w = absurd cc
commuted binop.Shr a b commuting w = absurd cc
commuted binop.Sar a b commuting w = absurd cc
commuted binop.Eq a b commuting w = ap flag (equal_numbers a.number b.number)
commuted binop.Lt a b commuting w = absurd cc
commuted binop.Slt a b commuting w = absurd cc

-- the signed number of a value, wrapped to its width, is its number
wrapped_itself : (n a : ℕ) → 0 < n → a < 2 ^ n → wrapped n (signed_value (bit_value n a)) ≡ a
wrapped_itself n a some below = elim (cases_lt a (2 ^ (n - 1))) [
  | inl low ↦ ap (wrapped n) (signed_value-low n a low) ∙ wrapped-pos n a below
  | inr high ↦
      let k : 2 ^ n - suc a < 2 ^ n = omega arith in
      let back : 2 ^ n - 1 - (2 ^ n - suc a) ≡ a = omega arith in
      ap (wrapped n) (signed_value-high n a high below) ∙ wrapped-negsuc n (2 ^ n - suc a) k ∙ back
]

-- a cast to the width of a value gives the value
cast_itself : (op : CastOp) (width m : ℕ) (v : BitValue) → IsValue m v → width ≡ m → cast_value op width v ≡ v
cast_itself Extend width m v h is = let w : width ≡ v.width = is ∙ sym h.width_is in λ i. record { width = w i; number = v.number }
cast_itself SignExtend width m v h is =
    let w : width ≡ v.width = is ∙ sym h.width_is in
    let number : wrapped width (signed_value v) ≡ v.number = ap (λ (n : ℕ). wrapped n (signed_value v)) w ∙ wrapped_itself v.width v.number h.value.wide h.value.below in
    λ i. record { width = w i; number = number i }
cast_itself Cut width m v h is =
    let w : width ≡ v.width = is ∙ sym h.width_is in
    let number : v.number % 2 ^ width ≡ v.number = ap (λ (n : ℕ). v.number % 2 ^ n) w ∙ mod-eq_of_lt h.value.below in
    λ i. record { width = w i; number = number i }
cast_itself Keep width m v h is = refl

-- a slice from bit 0 cuts
slice_cuts : (v : BitValue) (high : ℕ) → bits.slice v high 0 ≡ bits.cut v (high + 1)
slice_cuts v high =
    let w : high + 1 - 0 ≡ high + 1 = omega arith in
    λ i. record { width = w i; number = div-one v.number i % 2 ^ w i }

-- trees that are alike have one value, for a word in a lawful state
module _ (d : Parts) (word : ℕ) (s : Reads) (accepted : IsTrue (is_isa d)) (lawful : IsLawful d s) where
  abbrev value : Expr → BitValue
  value e = value_of d e word s

  pub alike_value : (e f : Expr) → Alike d e f → IsTrue (is_typed d e) → value_of d e word s ≡ value_of d f word s
  alike_value _ _ (same e) typed = refl
  alike_value _ _ (turned e f h) typed = sym (alike_value e f h (alike_typed d f e (turned e f h) typed))
  alike_value _ _ (chained e f g h k) typed = alike_value e f h typed ∙ alike_value f g k (alike_typed d e f h typed)
  alike_value _ _ (within x a b h) typed =
      fold_level BitValue (value_step d word s) x a
      ∙ ap (value_step d word s) (map_same BitValue x (λ (k : ℕ). value (a k)) (λ (k : ℕ). value (b k)) (λ k among. alike_value (a k) (b k) (h k) (operand_typed d x a typed k among)))
      ∙ sym (fold_level BitValue (value_step d word s) x b)
  alike_value _ _ (swapped op a b commuting typed_op) typed =
      let h = opened_typing d (Expr-F.Binary op a b) typed in
      let one : typing_of d a ≡ typing_of d b = operand_typings op d (typing_of d a) (typing_of d b) commuting h in
      let left = value_is d word s accepted lawful a (both _ _ (both _ _ h).0).0 in
      let right = value_is d word s accepted lawful b (both _ _ (both _ _ h).0).1 in
      let widths : (value a).width ≡ (value b).width = left.width_is ∙ ap (λ (t : Typing). t.width) one ∙ sym right.width_is in
      fold-roll-Expr BitValue (value_step d word s) (Expr-F.Binary op a b)
      ∙ commuted op (value a) (value b) commuting widths
      ∙ sym (fold-roll-Expr BitValue (value_step d word s) (Expr-F.Binary op b a))
  alike_value _ _ (cast op width a is typed_cast) typed =
      let h = opened_typing d (Expr-F.Cast op width a) typed in
      fold-roll-Expr BitValue (value_step d word s) (Expr-F.Cast op width a)
      ∙ cast_itself op width (width_of d a) (value a) (value_is d word s accepted lawful a (both _ _ (both _ _ h).0).0) is
  alike_value _ _ (slice a high typed_slice typed_cast) typed =
      fold-roll-Expr BitValue (value_step d word s) (Expr-F.Slice a high 0)
      ∙ slice_cuts (value a) high
      ∙ sym (fold-roll-Expr BitValue (value_step d word s) (Expr-F.Cast Cut (high + 1) a))
