-- Widths of values, and what operands read at them.
use Rattle.std.proofs.Common.{◌≡◌, ℕ, ◌-◌, ◌%◌, ◌^◌, ◌<◌, ◌≤◌, Bool, true, false, nat_lt, Option, Some, None, ◌⊎◌, inl, inr, refl, sym, subst, ◌∙◌, arith}
use Rattle.std.specs.Prelude.{option_and_then, if◌then◌else◌}
use Rattle.std.proofs.lemmas.Bool.{ltb-true}
use Rattle.std.proofs.lemmas.Bool.Decides.{nat_tests}
use Rattle.std.proofs.lemmas.Nat.{pow_pos, mod_below}
use Rattle.vg_bits.specs.BitValue.{BitValue, bit_value}
use Rattle.vg_ir.specs.declared.number.Number.{Number}
use Rattle.vg_ir.specs.declared.ty.Ty.{Ty, out-Ty, fold_out-Ty}
use Rattle.vg_ir.specs.declared.ty.Ty.TheOpen.{Ty-F}
use Rattle.vg_ir.specs.declared.operand.Value.{Value}
use Rattle.vg_ir.specs.declared.operand.Value.TheVariants as value
use Rattle.vg_ir.specs.declared.operand.Operand.{Operand}
use Rattle.vg_ir.specs.Shape.{is_integer_width, has_widths, has_widths_step, number_of}
use Rattle.vg_ir.specs.Answer.{Answer, Known, ◌>>=◌, known}
use Rattle.vg_ir.specs.State.{Placement, Values}
use Rattle.vg_ir.specs.Operands.{value_width, of_width, number_at, operand, operand_at}
use Rattle.vg_ir.specs.Outcomes.{IfKnown}
use Rattle.vg_ir.proofs.Membership.{some_same, none_some}

-- a width that a value may have
pub record IsWidth (n : ℕ) : Type 0 where
  pub wide : 0 < n
  pub narrow : n ≤ 128

-- the width of an integer or of an address, in bits and in whole bytes
abbrev pub IsMachine : ℕ → Type 0
IsMachine w = (w ≡ 16) ⊎ ((w ≡ 32) ⊎ (w ≡ 64))

-- the width of addresses is one of a value
pub machine_width : (w : ℕ) → IsMachine w → IsWidth w
machine_width w (inl e) = record { wide = omega (arith, e); narrow = omega (arith, e) }
machine_width w (inr (inl e)) = record { wide = omega (arith, e); narrow = omega (arith, e) }
machine_width w (inr (inr e)) = record { wide = omega (arith, e); narrow = omega (arith, e) }

abbrev IsFive : ℕ → Type 0
IsFive n = (n ≡ 1) ⊎ ((n ≡ 8) ⊎ ((n ≡ 16) ⊎ ((n ≡ 32) ⊎ (n ≡ 64))))

-- the test, as cases
pub five : (n : ℕ) → is_integer_width n ≡ true → IsFive n
five n h = grind (arith, nat_tests)

-- so is that of an integer
pub five_width : (n : ℕ) → IsFive n → IsWidth n
five_width n (inl e) = record { wide = omega (arith, e); narrow = omega (arith, e) }
five_width n (inr (inl e)) = record { wide = omega (arith, e); narrow = omega (arith, e) }
five_width n (inr (inr (inl e))) = record { wide = omega (arith, e); narrow = omega (arith, e) }
five_width n (inr (inr (inr (inl e)))) = record { wide = omega (arith, e); narrow = omega (arith, e) }
five_width n (inr (inr (inr (inr e)))) = record { wide = omega (arith, e); narrow = omega (arith, e) }

-- the test on a type, at an integer
pub widths-int : (t : Ty) (n : ℕ) → out-Ty t ≡ Ty-F.Int n → has_widths t ≡ is_integer_width n
widths-int t n e = rw (fold_out-Ty Bool has_widths_step t, e) refl

-- a value of a well formed type has a width
pub value_width-is : (w : ℕ) (t : Ty) (n : ℕ) → IsMachine w → has_widths t ≡ true → value_width w t ≡ Some n → IsFive n ⊎ (n ≡ w)
value_width-is w t n machine formed h = by_layer (out-Ty t) refl h
  where
    by_layer : (l : Ty-F Ty) → out-Ty t ≡ l → (elim l [ Ty-F.Int k ↦ Some k | Ty-F.Ptr ↦ Some w | Ty-F.Array count element ↦ None | Ty-F.Struct fields ↦ None | Ty-F.Named name ↦ None ]) ≡ Some n → IsFive n ⊎ (n ≡ w)
    by_layer (Ty-F.Int k) e h = let same : k ≡ n = some_same k n h in inl (subst IsFive same (five k (sym (widths-int t k e) ∙ formed)))
    by_layer Ty-F.Ptr e h = inr (sym (some_same w n h))
    by_layer (Ty-F.Array count element) e h = absurd (none_some n h)
    by_layer (Ty-F.Struct fields) e h = absurd (none_some n h)
    by_layer (Ty-F.Named name) e h = absurd (none_some n h)

-- the width of a value of a well formed type
pub is_width : (w : ℕ) (n : ℕ) → IsMachine w → IsFive n ⊎ (n ≡ w) → IsWidth n
is_width w n machine (inl five) = five_width n five
is_width w n machine (inr e) = subst IsWidth (sym e) (machine_width w machine)

-- ---- operands

-- a number of a width
pub of_width-below : (n x y : ℕ) → of_width n x ≡ Some y → (y ≡ x) × (y < 2 ^ n)
of_width-below n x y h = by_test (nat_lt x (2 ^ n)) refl h
  where
    by_test : (b : Bool) → nat_lt x (2 ^ n) ≡ b → (if b then Some x else None) ≡ Some y → (y ≡ x) × (y < 2 ^ n)
    by_test true e k = let same : x ≡ y = some_same x y k in (sym same, subst (λ z. z < 2 ^ n) same (ltb-true x (2 ^ n) e))
    by_test false e k = absurd (none_some y k)

number_of-below : (n : ℕ) (k : Number) → number_of n k < 2 ^ n
number_of-below n k = by_sign k.negative
  where
    by_sign : (b : Bool) → (if b then ((2 ^ n - k.magnitude % 2 ^ n) % 2 ^ n) else (k.magnitude % 2 ^ n)) < 2 ^ n
    by_sign true = mod_below (2 ^ n - k.magnitude % 2 ^ n) (2 ^ n) (pow_pos n)
    by_sign false = mod_below k.magnitude (2 ^ n) (pow_pos n)

-- what an operand stands for fits the width
pub number_at-below : (p : Placement) (values : Values) (n : ℕ) (v : Value) (x : ℕ) → number_at p values n v ≡ Some x → x < 2 ^ n
number_at-below p values n (value.Local q) x h = by_value (values q) h
  where
    by_value : (o : Option ℕ) → option_and_then (of_width n) o ≡ Some x → x < 2 ^ n
    by_value None k = absurd (none_some x k)
    by_value (Some y) k = (of_width-below n y x k).1
number_at-below p values n (value.Global q) x h = (of_width-below n (p.address q) x h).1
number_at-below p values n (value.Number k) x h = subst (λ z. z < 2 ^ n) (some_same (number_of n k) x h) (number_of-below n k)
number_at-below p values n value.True x h = (of_width-below n 1 x h).1
number_at-below p values n value.False x h = subst (λ z. z < 2 ^ n) (some_same 0 x h) (pow_pos n)
number_at-below p values n value.Null x h = subst (λ z. z < 2 ^ n) (some_same 0 x h) (pow_pos n)
number_at-below p values n value.Undef x h = subst (λ z. z < 2 ^ n) (some_same 0 x h) (pow_pos n)
number_at-below p values n value.Poison x h = subst (λ z. z < 2 ^ n) (some_same 0 x h) (pow_pos n)

-- what holds behind each thing that is found
pub known_bind : {A B : Type 0} (o : Option A) (f : A → Answer B) (P : B → Type 0) → ((x : A) → o ≡ Some x → IfKnown (f x) P) → IfKnown (known o >>= f) P
known_bind None f P h = tt
known_bind (Some x) f P h = h x refl

-- a value of this width
pub record HasWidth (n : ℕ) (a : BitValue) : Type 0 where
  pub width : a.width ≡ n
  pub below : a.number < 2 ^ n

-- an operand at a width is a value of it
pub operand-has : (p : Placement) (values : Values) (n : ℕ) (o : Operand) → IfKnown (operand p values n o) (HasWidth n)
operand-has p values n o =
    known_bind (number_at p values n o.value) (λ x. Known (bit_value n x)) (HasWidth n) (λ x e. record { width = refl; below = number_at-below p values n o.value x e })

-- a value of the width of a type
pub record IsOf (p : Placement) (t : Ty) (a : BitValue) : Type 0 where
  pub width : value_width p.width t ≡ Some a.width
  pub below : a.number < 2 ^ a.width

-- an operand at a type is a value of it
pub operand_at-is : (p : Placement) (values : Values) (t : Ty) (o : Operand) → IfKnown (operand_at p values t o) (IsOf p t)
operand_at-is p values t o =
    known_bind (value_width p.width t) (λ n. operand p values n o) (IsOf p t) (λ n e.
    known_bind (number_at p values n o.value) (λ x. Known (bit_value n x)) (IsOf p t) (λ x k. record { width = e; below = number_at-below p values n o.value x k }))

-- what is known of a value that a part gave
pub from_known : {A : Type 0} (a : Answer A) (P : A → Type 0) (x : A) → IfKnown a P → a ≡ Known x → P x
from_known a P x h e = subst (λ b. IfKnown b P) e h

-- a number fits the width of a type
abbrev pub Below : Placement → Ty → ℕ → Type 0
Below p t x = (n : ℕ) × (value_width p.width t ≡ Some n) × (x < 2 ^ n)

-- a number that fits the value of a type
pub below_of : (p : Placement) (t : Ty) (a : BitValue) (x : ℕ) → IsOf p t a → x < 2 ^ a.width → Below p t x
below_of p t a x is h = (a.width, is.width, h)
