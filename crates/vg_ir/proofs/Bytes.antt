-- What is loaded from bytes fits its width, and what is stored is bytes.
use Rattle.std.proofs.Common.{◌≡◌, ℕ, zero, suc, ◌+◌, ◌-◌, ◌*◌, ◌/◌, ◌%◌, ◌^◌, ◌<◌, ◌≤◌, Bool, true, false, ◌&&◌, nat_eq, nat_lt, nat_le, List, Option, Some, None, ◌⊎◌, inl, inr, refl, sym, ap, subst, ◌∙◌, arith}
use Rattle.std.specs.Prelude.{if◌then◌else◌, option_and_then}
use Rattle.std.proofs.lemmas.Nat.{mod_below}
use Rattle.std.proofs.lemmas.Bool.{eq-eqb, ltb-false}
use Rattle.std.proofs.Math.Nat.{pow-succ'}
use Rattle.vg_ir.specs.declared.ty.Ty.{Ty, out-Ty}
use Rattle.vg_ir.specs.declared.ty.Ty.TheOpen.{Ty-F}
use Rattle.vg_ir.specs.declared.instruction.Load.{Load}
use Rattle.vg_ir.specs.declared.instruction.Store.{Store}
use Rattle.vg_ir.specs.declared.module.Parts.{Parts}
use Rattle.vg_ir.specs.Shape.{has_widths}
use Rattle.vg_ir.specs.TypeLayout.{integer_bytes, layer_layout, layout_within, size_of}
use Rattle.vg_ir.specs.Memory.{Bytes, Object, object_at, joined_byte, loaded, stored, cleared}
use Rattle.vg_ir.specs.Answer.{Answer, Known, Wrong, Lacking, ◌>>=◌, LoadNoBit, LoadOutside, StoreOutside, StoreConstant}
use Rattle.vg_ir.specs.State.{Placement, IrState, live_objects}
use Rattle.vg_ir.specs.Operands.{value_width, operand, typed_operand}
use Rattle.vg_ir.specs.Effect.{as_width, as_loaded, load_value, store_value, load_result, store_result}
use Rattle.vg_ir.specs.Outcomes.{IfKnown}
use Rattle.vg_ir.specs.Sound.{AreBytes}
use Rattle.vg_ir.proofs.Binding.{bind_known}
use Rattle.vg_ir.proofs.Membership.{some_same, none_some}
use Rattle.vg_ir.proofs.Widths.{IsMachine, five, widths-int, known_bind, Below}

-- a byte below others
joined_below : (n low high : ℕ) → low < 256 → high < 256 ^ n → low + 256 * high < 256 ^ suc n
joined_below n low high h k =
    let e : 256 ^ suc n ≡ 256 * 256 ^ n = pow-succ' 256 n in
    omega (arith, e, h, k)

loaded-below : (set : Bytes) (at n x : ℕ) → AreBytes set → loaded set at n ≡ Some x → x < 256 ^ n
loaded-below set at zero x bytes h = subst (λ y. y < 256 ^ 0) (some_same 0 x h) (omega arith)
loaded-below set at (suc n) x bytes h = by_low (set at) refl h (λ y k. loaded-below set (at + 1) n y bytes k)
  where
    by_rest : (low : ℕ) → low < 256 → (o : Option ℕ) → loaded set (at + 1) n ≡ o → joined_byte low o ≡ Some x → ((y : ℕ) → loaded set (at + 1) n ≡ Some y → y < 256 ^ n) → x < 256 ^ suc n
    by_rest low is None e k rest = absurd (none_some x k)
    by_rest low is (Some high) e k rest = subst (λ y. y < 256 ^ suc n) (some_same (low + 256 * high) x k) (joined_below n low high is (rest high e))

    by_low : (o : Option ℕ) → set at ≡ o → option_and_then (λ low. joined_byte low (loaded set (at + 1) n)) o ≡ Some x → ((y : ℕ) → loaded set (at + 1) n ≡ Some y → y < 256 ^ n) → x < 256 ^ suc n
    by_low None e k rest = absurd (none_some x k)
    by_low (Some low) e k rest = by_rest low (bytes at low e) (loaded set (at + 1) n) refl k rest

-- so many bytes hold a number of this width, or they are one byte for an i1
abbrev Holds : ℕ → ℕ → Type 0
Holds bytes n = (n ≡ 1) ⊎ (256 ^ bytes ≡ 2 ^ n)

as_width-below : (n x bytes : ℕ) → Holds bytes n → x < 256 ^ bytes → IfKnown (as_width n x) (λ y. y < 2 ^ n)
as_width-below n x bytes (inl one) h = by_test (nat_lt 1 x) refl
  where
    bit : nat_eq n 1 ≡ true
    bit = eq-eqb n 1 one

    by_test : (b : Bool) → nat_lt 1 x ≡ b → IfKnown (as_width n x) (λ y. y < 2 ^ n)
    by_test true e = rw (bit, e) tt
    by_test false e =
        let small : x < 2 ^ 1 = let le : x ≤ 1 = ltb-false 1 x e in omega (arith, le) in
        let it : x < 2 ^ n = subst (λ k. x < 2 ^ k) (sym one) small in
        rw (bit, e) it
as_width-below n x bytes (inr whole) h = by_test (nat_eq n 1 && nat_lt 1 x)
  where
    by_test : (b : Bool) → IfKnown (if b then Wrong LoadNoBit else Known x) (λ y. y < 2 ^ n)
    by_test true = tt
    by_test false = subst (λ k. x < k) whole h

size-int : (m : Parts) (w : ℕ) (t : Ty) (n : ℕ) → out-Ty t ≡ Ty-F.Int n → size_of m w t ≡ integer_bytes n
unfolding layout_within
size-int m w t n e = ap (λ l. (layer_layout m w (layout_within 32 m w) l).size) e

size-ptr : (m : Parts) (w : ℕ) (t : Ty) → out-Ty t ≡ Ty-F.Ptr → size_of m w t ≡ w / 8
unfolding layout_within
size-ptr m w t e = ap (λ l. (layer_layout m w (layout_within 32 m w) l).size) e

five-holds : (n : ℕ) → (n ≡ 1) ⊎ ((n ≡ 8) ⊎ ((n ≡ 16) ⊎ ((n ≡ 32) ⊎ (n ≡ 64)))) → Holds (integer_bytes n) n
five-holds n (inl e) = inl e
five-holds n (inr (inl e)) = subst (λ k. Holds (integer_bytes k) k) (sym e) (inr refl)
five-holds n (inr (inr (inl e))) = subst (λ k. Holds (integer_bytes k) k) (sym e) (inr refl)
five-holds n (inr (inr (inr (inl e)))) = subst (λ k. Holds (integer_bytes k) k) (sym e) (inr refl)
five-holds n (inr (inr (inr (inr e)))) = subst (λ k. Holds (integer_bytes k) k) (sym e) (inr refl)

machine-holds : (w : ℕ) → IsMachine w → Holds (w / 8) w
machine-holds w (inl e) = subst (λ k. Holds (k / 8) k) (sym e) (inr refl)
machine-holds w (inr (inl e)) = subst (λ k. Holds (k / 8) k) (sym e) (inr refl)
machine-holds w (inr (inr e)) = subst (λ k. Holds (k / 8) k) (sym e) (inr refl)

-- the bytes of a value's type hold a number of its width
size-holds : (m : Parts) (w : ℕ) (t : Ty) (n : ℕ) → IsMachine w → has_widths t ≡ true → value_width w t ≡ Some n → Holds (size_of m w t) n
size-holds m w t n machine formed h = by_layer (out-Ty t) refl h
  where
    by_layer : (l : Ty-F Ty) → out-Ty t ≡ l → (elim l [ Ty-F.Int k ↦ Some k | Ty-F.Ptr ↦ Some w | Ty-F.Array count element ↦ None | Ty-F.Struct fields ↦ None | Ty-F.Named name ↦ None ]) ≡ Some n → Holds (size_of m w t) n
    by_layer (Ty-F.Int k) e h =
        let same : k ≡ n = some_same k n h in
        let is : Holds (integer_bytes k) k = five-holds k (five k (sym (widths-int t k e) ∙ formed)) in
        subst (λ j. Holds (size_of m w t) j) same (subst (λ j. Holds j k) (sym (size-int m w t k e)) is)
    by_layer Ty-F.Ptr e h =
        let same : w ≡ n = some_same w n h in
        subst (λ j. Holds (size_of m w t) j) same (subst (λ j. Holds j w) (sym (size-ptr m w t e)) (machine-holds w machine))
    by_layer (Ty-F.Array count element) e h = absurd (none_some n h)
    by_layer (Ty-F.Struct fields) e h = absurd (none_some n h)
    by_layer (Ty-F.Named name) e h = absurd (none_some n h)

module _ (m : Parts) (p : Placement) (machine : IsMachine p.width) (s : IrState) (bytes : AreBytes s.set) where
  as_loaded-below : (at size n : ℕ) → Holds size n → (o : Option ℕ) → loaded s.set at size ≡ o → IfKnown (as_loaded n o) (λ y. y < 2 ^ n)
  as_loaded-below at size n holds None e = tt
  as_loaded-below at size n holds (Some x) e = as_width-below n x size holds (loaded-below s.set at size x bytes e)

  load_value-below : (objects : List Object) (at size n : ℕ) → Holds size n → IfKnown (load_value objects s.set at size n) (λ y. y < 2 ^ n)
  load_value-below objects at size n holds = by_object (object_at objects at size)
    where
      by_object : (o : Option Object) → IfKnown (elim o [ None ↦ Wrong LoadOutside | Some o ↦ as_loaded n (loaded s.set at size) ]) (λ y. y < 2 ^ n)
      by_object None = tt
      by_object (Some o) = as_loaded-below at size n holds (loaded s.set at size) refl

  -- what is loaded fits its type
  pub load-below : (i : Load) → has_widths i.ty.ty ≡ true → IfKnown (load_result m p s i) (Below p i.ty.ty)
  load-below i formed =
      known_bind (value_width p.width i.ty.ty) (λ n. operand p s.frame.values p.width i.pointer >>= λ at. load_value (live_objects m p s) s.set at.number (size_of m p.width i.ty.ty) n) (Below p i.ty.ty) (λ n en.
      bind_known (operand p s.frame.values p.width i.pointer) (λ at. load_value (live_objects m p s) s.set at.number (size_of m p.width i.ty.ty) n) (Below p i.ty.ty) (λ at ea.
      widen n en (load_value (live_objects m p s) s.set at.number (size_of m p.width i.ty.ty) n) (load_value-below (live_objects m p s) at.number (size_of m p.width i.ty.ty) n (size-holds m p.width i.ty.ty n machine formed en))))
    where
      widen : (n : ℕ) → value_width p.width i.ty.ty ≡ Some n → (v : Answer ℕ) → IfKnown v (λ y. y < 2 ^ n) → IfKnown v (Below p i.ty.ty)
      widen n en (Known x) h = (n, en, h)
      widen n en (Wrong c) h = tt
      widen n en Lacking h = tt

  stored-bytes : (at size x : ℕ) → AreBytes (stored s.set at size x)
  stored-bytes at size x k b h = by_test (nat_le at k && nat_lt k (at + size)) h
    where
      by_test : (t : Bool) → (if t then Some (x / 256 ^ (k - at) % 256) else s.set k) ≡ Some b → b < 256
      by_test true e = subst (λ y. y < 256) (some_same (x / 256 ^ (k - at) % 256) b e) (mod_below (x / 256 ^ (k - at)) 256 (omega arith))
      by_test false e = bytes k b e

  store_value-bytes : (objects : List Object) (at size x : ℕ) → IfKnown (store_value objects s.set at size x) AreBytes
  store_value-bytes objects at size x = by_object (object_at objects at size)
    where
      by_constant : (b : Bool) → IfKnown (if b then Wrong StoreConstant else Known (stored s.set at size x)) AreBytes
      by_constant true = tt
      by_constant false = stored-bytes at size x

      by_object : (o : Option Object) → IfKnown (elim o [ None ↦ Wrong StoreOutside | Some o ↦ if o.constant then Wrong StoreConstant else Known (stored s.set at size x) ]) AreBytes
      by_object None = tt
      by_object (Some o) = by_constant o.constant

  -- a store leaves bytes
  pub store-bytes : (i : Store) → IfKnown (store_result m p s i) AreBytes
  store-bytes i =
      bind_known (typed_operand p s.frame.values i.value) (λ x. operand p s.frame.values p.width i.pointer >>= λ at. store_value (live_objects m p s) s.set at.number (size_of m p.width i.value.ty.ty) x.number) AreBytes (λ x ex.
      bind_known (operand p s.frame.values p.width i.pointer) (λ at. store_value (live_objects m p s) s.set at.number (size_of m p.width i.value.ty.ty) x.number) AreBytes (λ at ea.
      store_value-bytes (live_objects m p s) at.number (size_of m p.width i.value.ty.ty) x.number))

-- bytes that are cleared are bytes
pub cleared-bytes : (set : Bytes) (low high : ℕ) → AreBytes set → AreBytes (cleared set low high)
cleared-bytes set low high bytes k b h = by_test (nat_le low k && nat_lt k high) h
  where
    by_test : (t : Bool) → (if t then None else set k) ≡ Some b → b < 256
    by_test true e = absurd (none_some b e)
    by_test false e = bytes k b e
