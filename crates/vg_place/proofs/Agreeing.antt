-- Two states that agree on what a tree reads up to a stage give it the same value, where its stage isn't later.
use Rattle.std.proofs.Common.{◌≡◌, ℕ, zero, suc, ◌+◌, ◌*◌, ◌%◌, ◌^◌, ◌<◌, Bool, true, false, ◌&&◌, ◌||◌, nat_eq, IsTrue, Some, None, refl, sym, ap, subst, ◌∙◌, if◌then◌else◌, arith}
use Rattle.std.proofs.lemmas.Bool.Decides.{nat_tests}
use Rattle.vg_bits.specs.BitValue.{BitValue}
use Rattle.vg_bits.specs.BitValue as bits
use Rattle.vg_isa.specs.declared.isa.Parts.{Parts}
use Rattle.vg_isa.specs.declared.expr.Expr.{Expr, fold-roll-Expr, roll-Expr, ind-Expr, map-Expr}
use Rattle.vg_isa.specs.declared.expr.Expr.TheOpen.{Expr-F}
use Rattle.vg_isa.specs.declared.ids.ResourceId.TheVariants.{Reg}
use Rattle.vg_isa.specs.Value.{Reads, value_of, value_step, unary_value, binary_value, cast_value, memory_value, loaded, holds}
use Rattle.vg_place.specs.declared.stage_table.Stages.{Stages}
use Rattle.vg_place.specs.declared.timing.Timing.{Timing}
use Rattle.vg_place.specs.Stage.{read_stage, timed_step, timed, stage_of}
use Rattle.vg_place.specs.Reading.{covers, is_register_at, is_byte_of, Reading, reads_step, value_in, reading_step, reading, stage_at, SameAt, AgreeOn}

or_left : (a b : Bool) → IsTrue a → IsTrue (a || b)
or_left true b h = refl
or_left false b h = absurd (cc)

or_right : (a b : Bool) → IsTrue b → IsTrue (a || b)
or_right true b h = refl
or_right false b h = h

-- bytes that are the same where they are read are the same together
loaded_same : (f g : ℕ → ℕ) (space at n : ℕ) → ((i : ℕ) → IsTrue (covers space at n i) → f i ≡ g i) → loaded f space at n ≡ loaded g space at n
loaded_same f g space at zero h = refl
loaded_same f g space at (suc n) h =
    let first : f (at % space) ≡ g (at % space) = h (at % space) (or_left (nat_eq (at % space) (at % space)) (covers space (at + 1) n (at % space)) (grind (arith, nat_tests))) in
    let rest : loaded f space (at + 1) n ≡ loaded g space (at + 1) n = loaded_same f g space (at + 1) n (λ i is. h i (or_right (nat_eq (at % space) i) (covers space (at + 1) n i) is)) in
    ap (λ x. x + 256 * loaded f space (at + 1) n) first ∙ ap (λ x. g (at % space) + 256 * x) rest

module _ (d : Parts) (s : Stages) (word u : ℕ) (v w : Reads) where
  -- the reading's value is the tree's
  abbrev Same : Expr → Type 0
  Same e = (reading d word v e).value ≡ value_of d e word v

  abbrev Known : Type 0
  Known = (e : Expr) × Same e

  through : (x : Expr-F Expr) → value_step d word v (value_in (map-Expr Expr Reading (reading d word v) x)) ≡ value_step d word v (map-Expr Expr BitValue (λ e. value_of d e word v) x) → Same (roll-Expr x)
  through x h = ap (λ (z : Reading). z.value) (fold-roll-Expr Reading (reading_step d word v) x) ∙ h ∙ sym (fold-roll-Expr BitValue (value_step d word v) x)

  layer : (y : Expr-F Known) → Same (roll-Expr (map-Expr Known Expr (λ (k : Known). k.0) y))
  layer (Expr-F.Const b) = through (Expr-F.Const b) refl
  layer (Expr-F.Field f) = through (Expr-F.Field f) refl
  layer Expr-F.Pc = through Expr-F.Pc refl
  layer (Expr-F.Reg q None) = through (Expr-F.Reg q None) refl
  layer (Expr-F.Reg q (Some x)) = through (Expr-F.Reg q (Some x.0)) (ap (λ (z : BitValue). v.reg q.0 z.number) x.1)
  layer (Expr-F.Mem a bytes) = through (Expr-F.Mem a.0 bytes) (ap (λ z. memory_value v.byte d.pc.width z bytes) a.1)
  layer (Expr-F.Unary op a) = through (Expr-F.Unary op a.0) (ap (unary_value op) a.1)
  layer (Expr-F.Binary op a b) = through (Expr-F.Binary op a.0 b.0) (ap (λ z. binary_value op z (reading d word v b.0).value) a.1 ∙ ap (binary_value op (value_of d a.0 word v)) b.1)
  layer (Expr-F.Cast op width a) = through (Expr-F.Cast op width a.0) (ap (cast_value op width) a.1)
  layer (Expr-F.Slice a hi lo) = through (Expr-F.Slice a.0 hi lo) (ap (λ z. bits.slice z hi lo) a.1)
  layer (Expr-F.Join a b) = through (Expr-F.Join a.0 b.0) (ap (λ z. bits.join z (reading d word v b.0).value) a.1 ∙ ap (bits.join (value_of d a.0 word v)) b.1)
  layer (Expr-F.If c a b) = through (Expr-F.If c.0 a.0 b.0)
      (ap (λ z. if holds z then (reading d word v a.0).value else (reading d word v b.0).value) c.1
      ∙ ap (λ z. if holds (value_of d c.0 word v) then z else (reading d word v b.0).value) a.1
      ∙ ap (λ z. if holds (value_of d c.0 word v) then value_of d a.0 word v else z) b.1)

  pub reading_value : (e : Expr) → Same e
  reading_value = ind-Expr Same (λ x y is. subst (λ (z : Expr-F Expr). Same (roll-Expr z)) is (layer y))

module _ (d : Parts) (s : Stages) (word u : ℕ) (v w : Reads) (pc : v.pc ≡ w.pc) where
  -- the two states are the same at each of these locations, as far as it is read in the first u stages
  abbrev Agree : (ℕ → ℕ → Bool) → Type 0
  Agree reads = (r i : ℕ) → stage_at s r < u → IsTrue (reads r i) → SameAt v w r i

  abbrev Good : Expr → Type 0
  Good e = Agree (reading d word v e).reads → stage_of s e < u → value_of d e word v ≡ value_of d e word w

  abbrev Fit : Type 0
  Fit = (e : Expr) × Good e

  -- through one level
  level : (x : Expr-F Expr)
      → (Agree (reads_step d (map-Expr Expr Reading (reading d word v) x)) → (timed_step s (map-Expr Expr Timing (timed s) x)).stage < u
      → value_step d word v (map-Expr Expr BitValue (λ e. value_of d e word v) x) ≡ value_step d word w (map-Expr Expr BitValue (λ e. value_of d e word w) x))
      → Good (roll-Expr x)
  level x h agree lt =
      let read : reading d word v (roll-Expr x) ≡ reading_step d word v (map-Expr Expr Reading (reading d word v) x) = fold-roll-Expr Reading (reading_step d word v) x in
      let time : timed s (roll-Expr x) ≡ timed_step s (map-Expr Expr Timing (timed s) x) = fold-roll-Expr Timing (timed_step s) x in
      fold-roll-Expr BitValue (value_step d word v) x
      ∙ h (λ r i l is. agree r i l (subst (λ (z : Reading). IsTrue (z.reads r i)) (sym read) is)) (subst (λ (z : Timing). z.stage < u) time lt)
      ∙ sym (fold-roll-Expr BitValue (value_step d word w) x)

  -- what an operand reads is read
  left : (f g : ℕ → ℕ → Bool) → Agree (λ r i. f r i || g r i) → Agree f
  left f g a r i l is = a r i l (or_left (f r i) (g r i) is)

  right : (f g : ℕ → ℕ → Bool) → Agree (λ r i. f r i || g r i) → Agree g
  right f g a r i l is = a r i l (or_right (f r i) (g r i) is)

  -- a register
  register_same : (q j : ℕ) → Agree (is_register_at q j) → read_stage s (Reg (record { 0 = q })) < u → v.reg q j ≡ w.reg q j
  register_same q j a l = a (suc q) j l (here (nat_eq q q) (nat_eq j j) (grind (arith, nat_tests)) (grind (arith, nat_tests)))
    where
      here : (x y : Bool) → x ≡ true → y ≡ true → IsTrue (x && y)
      here true true e f = refl
      here true false e f = absurd (cc)
      here false y e f = absurd (cc)

  -- memory
  memory_same : (at : BitValue) (bytes : ℕ) → Agree (is_byte_of (2 ^ d.pc.width) at.number bytes) → s.memory.read < u → memory_value v.byte d.pc.width at bytes ≡ memory_value w.byte d.pc.width at bytes
  memory_same at bytes a l =
      ap (λ (n : ℕ). record { width = 8 * bytes; number = n }) (loaded_same v.byte w.byte (2 ^ d.pc.width) at.number bytes (λ i is. a 0 i l is))

  fit : (y : Expr-F Fit) → Good (roll-Expr (map-Expr Fit Expr (λ (k : Fit). k.0) y))
  fit (Expr-F.Const b) = level (Expr-F.Const b) (λ a l. refl)
  fit (Expr-F.Field f) = level (Expr-F.Field f) (λ a l. refl)
  fit Expr-F.Pc = level Expr-F.Pc (λ a l. pc)
  fit (Expr-F.Reg q None) = level (Expr-F.Reg q None) (λ a l. register_same q.0 0 a l)
  fit (Expr-F.Reg q (Some x)) = level (Expr-F.Reg q (Some x.0)) (λ a l.
      (let index : value_of d x.0 word v ≡ value_of d x.0 word w = x.1 (left (reading d word v x.0).reads (is_register_at q.0 (reading d word v x.0).value.number) a) (omega arith) in
      let known : (reading d word v x.0).value ≡ value_of d x.0 word v = reading_value d s word u v w x.0 in
      let own : v.reg q.0 (reading d word v x.0).value.number ≡ w.reg q.0 (reading d word v x.0).value.number
      = register_same q.0 (reading d word v x.0).value.number (right (reading d word v x.0).reads (is_register_at q.0 (reading d word v x.0).value.number) a) (omega arith) in
      ap (λ (z : BitValue). v.reg q.0 z.number) (sym known) ∙ own ∙ ap (λ (z : BitValue). w.reg q.0 z.number) (known ∙ index)))
  fit (Expr-F.Mem x bytes) = level (Expr-F.Mem x.0 bytes) (λ a l.
      (let known : (reading d word v x.0).value ≡ value_of d x.0 word v = reading_value d s word u v w x.0 in
      let at : value_of d x.0 word v ≡ value_of d x.0 word w = x.1 (left (reading d word v x.0).reads (is_byte_of (2 ^ d.pc.width) (reading d word v x.0).value.number bytes) a) (omega arith) in
      let own : memory_value v.byte d.pc.width (reading d word v x.0).value bytes ≡ memory_value w.byte d.pc.width (reading d word v x.0).value bytes
      = memory_same (reading d word v x.0).value bytes (right (reading d word v x.0).reads (is_byte_of (2 ^ d.pc.width) (reading d word v x.0).value.number bytes) a) (omega arith) in
      ap (λ z. memory_value v.byte d.pc.width z bytes) (sym known) ∙ own ∙ ap (λ z. memory_value w.byte d.pc.width z bytes) (known ∙ at)))
  fit (Expr-F.Unary op x) = level (Expr-F.Unary op x.0) (λ a l. ap (unary_value op) (x.1 a (omega arith)))
  fit (Expr-F.Binary op x y) = level (Expr-F.Binary op x.0 y.0) (λ a l.
      ap (λ z. binary_value op z (value_of d y.0 word v)) (x.1 (left (reading d word v x.0).reads (reading d word v y.0).reads a) (omega arith))
      ∙ ap (binary_value op (value_of d x.0 word w)) (y.1 (right (reading d word v x.0).reads (reading d word v y.0).reads a) (omega arith)))
  fit (Expr-F.Cast op width x) = level (Expr-F.Cast op width x.0) (λ a l. ap (cast_value op width) (x.1 a l))
  fit (Expr-F.Slice x hi lo) = level (Expr-F.Slice x.0 hi lo) (λ a l. ap (λ z. bits.slice z hi lo) (x.1 a l))
  fit (Expr-F.Join x y) = level (Expr-F.Join x.0 y.0) (λ a l.
      ap (λ z. bits.join z (value_of d y.0 word v)) (x.1 (left (reading d word v x.0).reads (reading d word v y.0).reads a) (omega arith))
      ∙ ap (bits.join (value_of d x.0 word w)) (y.1 (right (reading d word v x.0).reads (reading d word v y.0).reads a) (omega arith)))
  fit (Expr-F.If c x y) = level (Expr-F.If c.0 x.0 y.0) (λ a l.
      (let branches : Agree (λ r i. (reading d word v x.0).reads r i || (reading d word v y.0).reads r i)
      = right (reading d word v c.0).reads (λ r i. (reading d word v x.0).reads r i || (reading d word v y.0).reads r i) a in
      ap (λ z. if holds z then value_of d x.0 word v else value_of d y.0 word v)
      (c.1 (left (reading d word v c.0).reads (λ r i. (reading d word v x.0).reads r i || (reading d word v y.0).reads r i) a) (omega arith))
      ∙ ap (λ z. if holds (value_of d c.0 word w) then z else value_of d y.0 word v) (x.1 (left (reading d word v x.0).reads (reading d word v y.0).reads branches) (omega arith))
      ∙ ap (λ z. if holds (value_of d c.0 word w) then value_of d x.0 word w else z) (y.1 (right (reading d word v x.0).reads (reading d word v y.0).reads branches) (omega arith))))

  all_fit : (e : Expr) → Good e
  all_fit = ind-Expr Good (λ x y is. subst (λ (z : Expr-F Expr). Good (roll-Expr z)) is (fit y))

-- states that agree on what a tree reads in the first u stages give it the same value, where it is there by then
pub values_agree : (d : Parts) (s : Stages) (word : ℕ) (e : Expr) (u : ℕ) (v w : Reads) → AgreeOn d s word e u v w → stage_of s e < u → value_of d e word v ≡ value_of d e word w
values_agree d s word e u v w a lt = all_fit d s word u v w a.pc e a.same lt
