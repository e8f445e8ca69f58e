-- The value of a typed tree in a lawful state is a bit value of the tree's width.
use Rattle.std.proofs.Common.{◌≡◌, ℕ, zero, suc, ◌+◌, ◌-◌, ◌*◌, ◌/◌, ◌%◌, ◌^◌, ◌<◌, ◌≤◌, Bool, true, false, ◌&&◌, IsTrue, nat_eq, nat_le, nat_lt, List, [], ◌∷◌, length, slice_get, Some, None, Option, arith, refl, sym, ap, ◌∙◌, subst, if◌then◌else◌}
use Rattle.std.specs.Option.{option_map_or}
use Rattle.std.proofs.lemmas.Nat.{pow_pos, mod_below, pow-add}
use Rattle.vg_bits.specs.BitValue.{BitValue, IsBitValue}
use Rattle.vg_bits.specs.BitValue as bits
use Rattle.std.proofs.lemmas.List.Sums.{sum_by-cons}
use Rattle.vg_bits.proofs.Ranges as range
use Rattle.vg_bits.proofs.Modular.{joined_below}
use Rattle.vg_isa.specs.declared.isa.Parts.{Parts}
use Rattle.vg_isa.specs.declared.format.Format.{Format}
use Rattle.vg_isa.specs.declared.format.FieldDecl.{FieldDecl}
use Rattle.vg_isa.specs.declared.ids.FieldId.{FieldId}
use Rattle.vg_isa.specs.declared.operator.UnOp.{UnOp}
use Rattle.vg_isa.specs.declared.operator.UnOp.TheVariants.{Not, Neg}
use Rattle.vg_isa.specs.declared.operator.BinOp.{BinOp}
use Rattle.vg_isa.specs.declared.operator.BinOp.TheVariants as binop
use Rattle.vg_isa.specs.declared.operator.CastOp.{CastOp}
use Rattle.vg_isa.specs.declared.operator.CastOp.TheVariants.{Extend, SignExtend, Cut, Keep}
use Rattle.vg_isa.specs.declared.expr.Expr.{Expr, fold-roll-Expr, roll-Expr, ind-Expr, map-Expr}
use Rattle.vg_isa.specs.declared.expr.Expr.TheOpen.{Expr-F}
use Rattle.vg_isa.specs.Declaration.{are_in_word, are_ranges, bits_of, bits_in, ranges_of, has_field, has_register, register_width, field_of, is_file}
use Rattle.vg_isa.specs.Typing.{Typing, typing_step, typing_of, is_width, fits, binary_width, binary_fits, cast_fits, is_typed, width_of}
use Rattle.vg_isa.specs.Accepted.{is_isa}
use Rattle.vg_isa.specs.Value.{Reads, IsLawful, IsValue, value_step, value_of, unary_value, binary_value, cast_value, memory_value, loaded, flag, holds}
use Rattle.vg_isa.proofs.Tests.{both, true-nat_eq, true-nat_le, true-nat_lt}
use Rattle.vg_isa.proofs.Kept.{kept, machine_width_least, machine_width_most, word_most}
use Rattle.vg_isa.proofs.Fields.{KeepsField, field_kept}
use Rattle.vg_isa.proofs.Registers.{KeepsWidth, width_kept, file_within, single_within, file_register, single_register}

same_width : (a b : BitValue) (m n : ℕ) → a.width ≡ m → b.width ≡ n → nat_eq m n ≡ true → a.width ≡ b.width
same_width a b m n p q h = p ∙ true-nat_eq m n h ∙ sym q

flag_is : (b : Bool) → IsValue 1 (flag b)
flag_is true = record { value = record { wide = omega arith; narrow = omega arith; below = omega arith }; width_is = refl }
flag_is false = record { value = record { wide = omega arith; narrow = omega arith; below = omega arith }; width_is = refl }

-- ---- operators

unary_is : (op : UnOp) (n : ℕ) (a : BitValue) → IsValue n a → IsValue n (unary_value op a)
unary_is Not n a h = record { value = range.IsBitValue-not a h.value; width_is = h.width_is }
unary_is Neg n a h = record { value = range.IsBitValue-neg a h.value; width_is = h.width_is }

binary_is : (op : BinOp) (m n : ℕ) (a b : BitValue) → IsValue m a → IsValue n b → binary_fits op m n ≡ true → IsValue (binary_width op m) (binary_value op a b)
binary_is binop.Add m n a b p q h = record { value = range.IsBitValue-add a b p.value; width_is = p.width_is }
binary_is binop.Sub m n a b p q h = record { value = range.IsBitValue-sub a b p.value; width_is = p.width_is }
binary_is binop.Mul m n a b p q h = record { value = range.IsBitValue-mul a b p.value; width_is = p.width_is }
binary_is (binop.MulLong signed) m n a b p q h = record {
  value = range.IsBitValue-mul_long a b signed p.value q.value (same_width a b m n p.width_is q.width_is (both _ _ h).0) (subst (λ w. w ≤ 64) (sym p.width_is) (true-nat_le m 64 (both _ _ h).1));
  width_is = ap (λ w. 2 * w) p.width_is;
}
binary_is binop.Udiv m n a b p q h = record { value = range.IsBitValue-udiv a b p.value; width_is = p.width_is }
binary_is binop.Sdiv m n a b p q h = record { value = range.IsBitValue-sdiv a b p.value; width_is = p.width_is }
binary_is binop.Urem m n a b p q h = record { value = range.IsBitValue-urem a b p.value; width_is = p.width_is }
binary_is binop.Srem m n a b p q h = record { value = range.IsBitValue-srem a b p.value; width_is = p.width_is }
binary_is binop.And m n a b p q h = record { value = range.IsBitValue-and a b p.value; width_is = p.width_is }
binary_is binop.Or m n a b p q h = record { value = range.IsBitValue-or a b p.value q.value (same_width a b m n p.width_is q.width_is h); width_is = p.width_is }
binary_is binop.Xor m n a b p q h = record { value = range.IsBitValue-xor a b p.value q.value (same_width a b m n p.width_is q.width_is h); width_is = p.width_is }
binary_is binop.Shl m n a b p q h = record { value = range.IsBitValue-shl a b p.value; width_is = p.width_is }
binary_is binop.Shr m n a b p q h = record { value = range.IsBitValue-shr a b p.value; width_is = p.width_is }
binary_is binop.Sar m n a b p q h = record { value = range.IsBitValue-sar a b p.value; width_is = p.width_is }
binary_is binop.Eq m n a b p q h = flag_is (bits.eq a b)
binary_is binop.Lt m n a b p q h = flag_is (bits.lt a b)
binary_is binop.Slt m n a b p q h = flag_is (bits.slt a b)

cast_is : (op : CastOp) (width m : ℕ) (a : BitValue) → IsValue m a → is_width width ≡ true → cast_fits op width m ≡ true → IsValue width (cast_value op width a)
cast_is Extend width m a h wide fit = record {
  value = range.IsBitValue-extend a width h.value (subst (λ w. w ≤ width) (sym h.width_is) (true-nat_le m width fit)) (true-nat_le width 128 (both _ _ wide).1);
  width_is = refl;
}
cast_is SignExtend width m a h wide fit = record { value = range.IsBitValue-sign_extend a width (true-nat_le 1 width (both _ _ wide).0) (true-nat_le width 128 (both _ _ wide).1); width_is = refl }
cast_is Cut width m a h wide fit = record { value = range.IsBitValue-cut a width (true-nat_le 1 width (both _ _ wide).0) (true-nat_le width 128 (both _ _ wide).1); width_is = refl }
cast_is Keep width m a h wide fit = record { value = h.value; width_is = h.width_is ∙ true-nat_eq m width fit }

slice_is : (m : ℕ) (a : BitValue) (hi lo : ℕ) → IsValue m a → nat_le lo hi ≡ true → nat_lt hi m ≡ true → IsValue (hi + 1 - lo) (bits.slice a hi lo)
slice_is m a hi lo h down within = record { value = range.IsBitValue-slice a hi lo h.value (true-nat_le lo hi down) (subst (λ w. hi < w) (sym h.width_is) (true-nat_lt hi m within)); width_is = refl }

join_is : (m n : ℕ) (a b : BitValue) → IsValue m a → IsValue n b → nat_le (m + n) 128 ≡ true → IsValue (m + n) (bits.join a b)
join_is m n a b p q fit =
    let width : a.width + b.width ≡ m + n = omega (arith, p.width_is, q.width_is) in
    record { value = range.IsBitValue-join a b p.value q.value (subst (λ w. w ≤ 128) (sym width) (true-nat_le (m + n) 128 fit)); width_is = width }

either_is : (c : Bool) (m n : ℕ) (a b : BitValue) → IsValue m a → IsValue n b → nat_eq m n ≡ true → IsValue m (if c then a else b)
either_is true m n a b p q same = p
either_is false m n a b p q same = record { value = q.value; width_is = q.width_is ∙ sym (true-nat_eq m n same) }

-- ---- memory

256_times : (n : ℕ) → 2 ^ (8 * suc n) ≡ 256 * 2 ^ (8 * n)
256_times n = let more : 8 * suc n ≡ 8 + 8 * n = omega arith in ap (λ k. 2 ^ k) more ∙ pow-add 2 8 (8 * n)

loaded_below : (byte : ℕ → ℕ) (space at n : ℕ) → 0 < space → ((a : ℕ) → a < space → byte a < 256) → loaded byte space at n < 2 ^ (8 * n)
loaded_below byte space at zero some small = omega arith
loaded_below byte space at (suc n) some small =
    let first : byte (at % space) < 256 = small (at % space) (mod_below at space some) in
    let rest : loaded byte space (at + 1) n < 2 ^ (8 * n) = loaded_below byte space (at + 1) n some small in
    let more : 2 ^ (8 * suc n) ≡ 256 * 2 ^ (8 * n) = 256_times n in
    omega arith

memory_is : (byte : ℕ → ℕ) (width : ℕ) (at : BitValue) (n : ℕ) → ((a : ℕ) → a < 2 ^ width → byte a < 256) → 0 < n → n ≤ 16 → IsValue (8 * n) (memory_value byte width at n)
memory_is byte width at n small some few = record { value = record { wide = omega arith; narrow = omega arith; below = loaded_below byte (2 ^ width) at.number n (pow_pos width) small }; width_is = refl }

-- ---- fields

-- the bits of ranges are fewer than they have room for
bits_below : (ranges : List (ℕ × ℕ)) (word : ℕ) → bits_in ranges word < 2 ^ bits_of ranges
bits_below [] word = omega arith
bits_below (r ∷ ranges) word =
    let cons : bits_of (r ∷ ranges) ≡ (r.0 + 1 - r.1) + bits_of ranges = sum_by-cons (λ (x : ℕ × ℕ). x.0 + 1 - x.1) r ranges in
    rw cons (joined_below (r.0 + 1 - r.1) (bits_of ranges) (word / 2 ^ r.1 % 2 ^ (r.0 + 1 - r.1)) (bits_in ranges word) (mod_below _ _ (pow_pos (r.0 + 1 - r.1))) (bits_below ranges word))

-- ranges that run downwards have a bit
some_bit : (word : ℕ) (ranges : List (ℕ × ℕ)) → IsTrue (are_ranges word ranges) → 0 < bits_of ranges
some_bit word [] h = cc
some_bit word (r ∷ ranges) h =
    let cons : bits_of (r ∷ ranges) ≡ (r.0 + 1 - r.1) + bits_of ranges = sum_by-cons (λ (x : ℕ × ℕ). x.0 + 1 - x.1) r ranges in
    let down : r.1 ≤ r.0 = true-nat_le _ _ (both _ _ (both (nat_le r.1 r.0 && nat_lt r.0 word) (are_in_word word ranges) (both _ _ h).1).0).0 in
    omega arith

field_bits : (word : ℕ) (field : FieldDecl) (w : ℕ) → word ≤ 64 → KeepsField word field → IsValue (bits_of field.ranges) (record { width = bits_of field.ranges; number = bits_in field.ranges w })
field_bits word field w most kept_field =
    let some : 0 < bits_of field.ranges = some_bit word field.ranges kept_field.ranges in
    let few : bits_of field.ranges ≤ word = kept_field.few in
    record { value = record { wide = some; narrow = omega arith; below = bits_below field.ranges w }; width_is = refl }

-- the field of a word
field_is : (d : Parts) (f : FieldId) (w : ℕ) → IsTrue (is_isa d) → has_field d f ≡ true → IsValue (bits_of (ranges_of d f)) (field_of d f w)
field_is d f w h has = of_format (slice_get d.formats f.format.0) refl has
  where
    Has : List (ℕ × ℕ) → Type 0
    Has ranges = nat_lt 0 (length ranges) ≡ true → IsValue (bits_of ranges) (record { width = bits_of ranges; number = bits_in ranges w })

    none : Has []
    none k = cc

    of_field : (format : Format) (o : Option FieldDecl) → slice_get d.formats f.format.0 ≡ Some format → slice_get format.fields f.index ≡ o → Has (option_map_or (λ (field : FieldDecl). field.ranges) o [])
    of_field format None at_format at_field = none
    of_field format (Some field) at_format at_field = λ k. field_bits d.word field w (word_most d h) (field_kept d f.format.0 f.index format field h at_format at_field)

    of_format : (o : Option Format) → slice_get d.formats f.format.0 ≡ o → Has (option_map_or (λ (format : Format). option_map_or (λ (field : FieldDecl). field.ranges) (slice_get format.fields f.index) []) o [])
    of_format None at_format = none
    of_format (Some format) at_format = of_field format (slice_get format.fields f.index) at_format refl

-- ---- trees

module _ (d : Parts) (word : ℕ) (s : Reads) (h : IsTrue (is_isa d)) (lawful : IsLawful d s) where
  pc_is : IsValue d.pc.width s.pc
  pc_is =
      let most : d.pc.width ≤ 64 = machine_width_most d.pc.width (kept d h).address in
      let least : 16 ≤ d.pc.width = machine_width_least d.pc.width (kept d h).address in
      let same : s.pc.width ≡ d.pc.width = lawful.widths.pc in
      record { value = record { wide = omega arith; narrow = omega arith; below = subst (λ w. s.pc.number < 2 ^ w) (sym same) lawful.pc }; width_is = same }

  register_is : (r i : ℕ) → r < length d.regs → IsTrue (has_register d.regs r i) → IsValue (register_width d.regs r) (s.reg r i)
  register_is r i within has =
      let width : KeepsWidth d.regs r = width_kept d.regs r (kept d h).registers within in
      let same : (s.reg r i).width ≡ register_width d.regs r = lawful.widths.reg r i within in
      let least : 1 ≤ register_width d.regs r = width.least in
      let most : register_width d.regs r ≤ 128 = width.most in
      record { value = record { wide = omega arith; narrow = omega arith; below = subst (λ w. (s.reg r i).number < 2 ^ w) (sym same) (lawful.reg r i has) }; width_is = same }

  indexed_is : (r m : ℕ) (i : BitValue) → IsValue m i → is_file d.regs r m ≡ true → IsValue (register_width d.regs r) (s.reg r i.number)
  indexed_is r m i p file = register_is r i.number (file_within d.regs r m file) (file_register d.regs r m i.number file (subst (λ w. i.number < 2 ^ w) p.width_is p.value.below))

  abbrev Good : Expr → Type 0
  Good e = is_typed d e ≡ true → IsValue (width_of d e) (value_of d e word s)

  abbrev Known : Type 0
  Known = (e : Expr) × Good e

  abbrev plain : Known → Expr
  plain k = k.0

  -- through one level
  through : (x : Expr-F Expr) → ((typing_step d (map-Expr Expr Typing (typing_of d) x)).is_typed ≡ true → IsValue (typing_step d (map-Expr Expr Typing (typing_of d) x)).width (value_step d word s (map-Expr Expr BitValue (λ e. value_of d e word s) x))) → Good (roll-Expr x)
  through x good typed =
      let typing : typing_of d (roll-Expr x) ≡ typing_step d (map-Expr Expr Typing (typing_of d) x) = fold-roll-Expr Typing (typing_step d) x in
      let value : value_of d (roll-Expr x) word s ≡ value_step d word s (map-Expr Expr BitValue (λ e. value_of d e word s) x) = fold-roll-Expr BitValue (value_step d word s) x in
      subst (λ (v : BitValue). IsValue (width_of d (roll-Expr x)) v) (sym value)
      (subst (λ (t : Typing). IsValue t.width (value_step d word s (map-Expr Expr BitValue (λ e. value_of d e word s) x))) (sym typing)
      (good (subst (λ (t : Typing). t.is_typed ≡ true) typing typed)))

  layer : (y : Expr-F Known) → Good (roll-Expr (map-Expr Known Expr plain y))
  layer (Expr-F.Const b) = through (Expr-F.Const b) (λ k. record {
    value = record { wide = true-nat_le 1 b.width (both _ _ (both (is_width b.width) (fits b.width b.number) k).0).0; narrow = true-nat_le b.width 128 (both _ _ (both (is_width b.width) (fits b.width b.number) k).0).1; below = true-nat_lt b.number (2 ^ b.width) (both (is_width b.width) (fits b.width b.number) k).1 };
    width_is = refl;
  })
  layer (Expr-F.Field f) = through (Expr-F.Field f) (λ k. field_is d f word h k)
  layer Expr-F.Pc = through Expr-F.Pc (λ k. pc_is)
  layer (Expr-F.Reg r None) = through (Expr-F.Reg r None) (λ k. register_is r.0 0 (single_within d.regs r.0 k) (single_register d.regs r.0 k))
  layer (Expr-F.Reg r (Some i)) = through (Expr-F.Reg r (Some i.0)) (λ k. indexed_is r.0 (width_of d i.0) (value_of d i.0 word s) (i.1 (both _ _ k).0) (both _ _ k).1)
  layer (Expr-F.Mem a bytes) = through (Expr-F.Mem a.0 bytes) (λ k. memory_is s.byte d.pc.width (value_of d a.0 word s) bytes lawful.byte (true-nat_lt 0 bytes (both _ _ (both _ _ k).0).1) (true-nat_le bytes 16 (both _ _ k).1))
  layer (Expr-F.Unary op a) = through (Expr-F.Unary op a.0) (λ k. unary_is op (width_of d a.0) (value_of d a.0 word s) (a.1 k))
  layer (Expr-F.Binary op a b) = through (Expr-F.Binary op a.0 b.0) (λ k. binary_is op (width_of d a.0) (width_of d b.0) (value_of d a.0 word s) (value_of d b.0 word s) (a.1 (both _ _ (both _ _ k).0).0) (b.1 (both _ _ (both _ _ k).0).1) (both _ _ k).1)
  layer (Expr-F.Cast op width a) = through (Expr-F.Cast op width a.0) (λ k. cast_is op width (width_of d a.0) (value_of d a.0 word s) (a.1 (both _ _ (both _ _ k).0).0) (both _ _ (both _ _ k).0).1 (both _ _ k).1)
  layer (Expr-F.Slice a hi lo) = through (Expr-F.Slice a.0 hi lo) (λ k. slice_is (width_of d a.0) (value_of d a.0 word s) hi lo (a.1 (both _ _ (both _ _ k).0).0) (both _ _ (both _ _ k).0).1 (both _ _ k).1)
  layer (Expr-F.Join a b) = through (Expr-F.Join a.0 b.0) (λ k. join_is (width_of d a.0) (width_of d b.0) (value_of d a.0 word s) (value_of d b.0 word s) (a.1 (both _ _ (both _ _ k).0).0) (b.1 (both _ _ (both _ _ k).0).1) (both _ _ k).1)
  layer (Expr-F.If c a b) = through (Expr-F.If c.0 a.0 b.0) (λ k. either_is (holds (value_of d c.0 word s)) (width_of d a.0) (width_of d b.0) (value_of d a.0 word s) (value_of d b.0 word s) (a.1 (both _ _ (both _ _ (both _ _ (both _ _ k).0).0).0).1) (b.1 (both _ _ (both _ _ (both _ _ k).0).0).1) (both _ _ k).1)

  -- the value of a typed tree
  pub value_is : (e : Expr) → Good e
  value_is = ind-Expr Good (λ x y is. subst (λ (z : Expr-F Expr). Good (roll-Expr z)) is (layer y))
