-- What trees read: of registers by the word alone, of the memory by what is read before.
use Rattle.std.proofs.Common.{◌≡◌, ℕ, zero, suc, ◌+◌, ◌%◌, ◌^◌, Bool, true, false, ◌&&◌, ◌||◌, nat_eq, IsTrue, List, [], ◌∷◌, ◌++◌, Some, None, ◌⊎◌, inl, inr, refl, sym, ap, subst, ◌∙◌, arith}
use Rattle.std.specs.List.{list_all}
use Rattle.std.proofs.lemmas.Bool.Decides.{nat_tests}
use Rattle.vg_bits.specs.BitValue.{BitValue}
use Rattle.vg_isa.specs.declared.isa.Parts.{Parts}
use Rattle.vg_isa.specs.declared.expr.Expr.{Expr, fold-roll-Expr, roll-Expr, ind-Expr, map-Expr}
use Rattle.vg_isa.specs.declared.expr.Expr.TheOpen.{Expr-F}
use Rattle.vg_isa.specs.Value.{Reads, value_of, value_step, cast_value}
use Rattle.vg_isa.specs.Node.{Node, Walked, nodes_below, nodes_of, is_plain_node, is_plain, has_plain_index}
use Rattle.vg_isa.proofs.Tests.{both}
use Rattle.vg_isa.proofs.NodeLemmas.{walk, nodes}
use Rattle.vg_place.specs.declared.stage_table.Stages.{Stages}
use Rattle.vg_place.specs.Reading.{is_register_at, is_byte_of, covers, Reading, reads_step, reading_step, reading}
use Rattle.vg_place.proofs.Agreeing.{reading_value}

pub no : IsTrue false → ⊥
no e = cc

pub or_same : {a b x y : Bool} → a ≡ b → x ≡ y → (a || x) ≡ (b || y)
or_same p q = λ i. p i || q i

pub either : (a b : Bool) → IsTrue (a || b) → IsTrue a ⊎ IsTrue b
either true b h = inl refl
either false b h = inr h

pub or_left : (a b : Bool) → IsTrue a → IsTrue (a || b)
or_left true b h = refl
or_left false b h = absurd (no h)

pub or_right : (a b : Bool) → IsTrue b → IsTrue (a || b)
or_right true b h = refl
or_right false b h = h

-- all of two lists
pub all_front : {X : Type 0} (p : X → Bool) (xs ys : List X) → IsTrue (list_all p (xs ++ ys)) → IsTrue (list_all p xs)
all_front p [] ys h = refl
all_front p (x ∷ xs) ys h = let parts = both (p x) (list_all p (xs ++ ys)) h in and_true (p x) (list_all p xs) parts.0 (all_front p xs ys parts.1)
  where
    and_true : (a b : Bool) → IsTrue a → IsTrue b → IsTrue (a && b)
    and_true true b h k = k
    and_true false b h k = h

pub all_back : {X : Type 0} (p : X → Bool) (xs ys : List X) → IsTrue (list_all p (xs ++ ys)) → IsTrue (list_all p ys)
all_back p [] ys h = h
all_back p (x ∷ xs) ys h = all_back p xs ys (both (p x) (list_all p (xs ++ ys)) h).1

module _ (d : Parts) (s : Stages) (word : ℕ) (v w : Reads) where
  -- ---- plain trees

  abbrev Plain : Expr → Type 0
  Plain e = IsTrue (is_plain e) → value_of d e word v ≡ value_of d e word w

  abbrev PlainTree : Type 0
  PlainTree = (e : Expr) × Plain e

  plain_level : (x : Node)
      → (IsTrue (is_plain_node x) → IsTrue (list_all is_plain_node (nodes_below (map-Expr Expr Walked walk x)))
      → value_step d word v (map-Expr Expr BitValue (λ e. value_of d e word v) x) ≡ value_step d word w (map-Expr Expr BitValue (λ e. value_of d e word w) x))
      → Plain (roll-Expr x)
  plain_level x h p =
      let parts = both (is_plain_node x) (list_all is_plain_node (nodes_below (map-Expr Expr Walked walk x))) (subst (λ (z : List Node). IsTrue (list_all is_plain_node z)) (nodes x) p) in
      fold-roll-Expr BitValue (value_step d word v) x ∙ h parts.0 parts.1 ∙ sym (fold-roll-Expr BitValue (value_step d word w) x)

  plain_fit : (y : Expr-F PlainTree) → Plain (roll-Expr (map-Expr PlainTree Expr (λ (k : PlainTree). k.0) y))
  plain_fit (Expr-F.Const b) = plain_level (Expr-F.Const b) (λ own below. refl)
  plain_fit (Expr-F.Field f) = plain_level (Expr-F.Field f) (λ own below. refl)
  plain_fit Expr-F.Pc = plain_level Expr-F.Pc (λ own below. absurd (no own))
  plain_fit (Expr-F.Reg q None) = plain_level (Expr-F.Reg q None) (λ own below. absurd (no own))
  plain_fit (Expr-F.Reg q (Some x)) = plain_level (Expr-F.Reg q (Some x.0)) (λ own below. absurd (no own))
  plain_fit (Expr-F.Mem a bytes) = plain_level (Expr-F.Mem a.0 bytes) (λ own below. absurd (no own))
  plain_fit (Expr-F.Unary op a) = plain_level (Expr-F.Unary op a.0) (λ own below. absurd (no own))
  plain_fit (Expr-F.Binary op a b) = plain_level (Expr-F.Binary op a.0 b.0) (λ own below. absurd (no own))
  plain_fit (Expr-F.Cast op width a) = plain_level (Expr-F.Cast op width a.0) (λ own below. ap (cast_value op width) (a.1 below))
  plain_fit (Expr-F.Slice a hi lo) = plain_level (Expr-F.Slice a.0 hi lo) (λ own below. absurd (no own))
  plain_fit (Expr-F.Join a b) = plain_level (Expr-F.Join a.0 b.0) (λ own below. absurd (no own))
  plain_fit (Expr-F.If c a b) = plain_level (Expr-F.If c.0 a.0 b.0) (λ own below. absurd (no own))

  -- a tree of fields, constants and casts has one value in all states
  pub plain_value : (e : Expr) → Plain e
  plain_value = ind-Expr Plain (λ x y is. subst (λ (z : Node). Plain (roll-Expr z)) is (plain_fit y))

  -- ---- registers

  abbrev Known : Expr → Type 0
  Known e = IsTrue (list_all has_plain_index (nodes_of e)) → (q j : ℕ) → (reading d word v e).reads (suc q) j ≡ (reading d word w e).reads (suc q) j

  abbrev KnownTree : Type 0
  KnownTree = (e : Expr) × Known e

  known_level : (x : Node)
      → (IsTrue (has_plain_index x) → IsTrue (list_all has_plain_index (nodes_below (map-Expr Expr Walked walk x))) → (q j : ℕ)
      → reads_step d (map-Expr Expr Reading (reading d word v) x) (suc q) j ≡ reads_step d (map-Expr Expr Reading (reading d word w) x) (suc q) j)
      → Known (roll-Expr x)
  known_level x h p q j =
      let parts = both (has_plain_index x) (list_all has_plain_index (nodes_below (map-Expr Expr Walked walk x))) (subst (λ (z : List Node). IsTrue (list_all has_plain_index z)) (nodes x) p) in
      ap (λ (z : Reading). z.reads (suc q) j) (fold-roll-Expr Reading (reading_step d word v) x) ∙ h parts.0 parts.1 q j
      ∙ sym (ap (λ (z : Reading). z.reads (suc q) j) (fold-roll-Expr Reading (reading_step d word w) x))

  known_fit : (y : Expr-F KnownTree) → Known (roll-Expr (map-Expr KnownTree Expr (λ (k : KnownTree). k.0) y))
  known_fit (Expr-F.Const b) = known_level (Expr-F.Const b) (λ own below q j. refl)
  known_fit (Expr-F.Field f) = known_level (Expr-F.Field f) (λ own below q j. refl)
  known_fit Expr-F.Pc = known_level Expr-F.Pc (λ own below q j. refl)
  known_fit (Expr-F.Reg r None) = known_level (Expr-F.Reg r None) (λ own below q j. refl)
  known_fit (Expr-F.Reg r (Some x)) = known_level (Expr-F.Reg r (Some x.0)) (λ own below q j.
      (let value : (reading d word v x.0).value ≡ (reading d word w x.0).value = reading_value d s word 0 v w x.0 ∙ plain_value x.0 own ∙ sym (reading_value d s word 0 w v x.0) in
      or_same (x.1 below q j) (ap (λ (z : BitValue). is_register_at r.0 z.number (suc q) j) value)))
  known_fit (Expr-F.Mem a bytes) = known_level (Expr-F.Mem a.0 bytes) (λ own below q j. or_same (a.1 below q j) refl)
  known_fit (Expr-F.Unary op a) = known_level (Expr-F.Unary op a.0) (λ own below q j. a.1 below q j)
  known_fit (Expr-F.Binary op a b) = known_level (Expr-F.Binary op a.0 b.0) (λ own below q j.
      or_same (a.1 (all_front has_plain_index (nodes_of a.0) (nodes_of b.0) below) q j) (b.1 (all_back has_plain_index (nodes_of a.0) (nodes_of b.0) below) q j))
  known_fit (Expr-F.Cast op width a) = known_level (Expr-F.Cast op width a.0) (λ own below q j. a.1 below q j)
  known_fit (Expr-F.Slice a hi lo) = known_level (Expr-F.Slice a.0 hi lo) (λ own below q j. a.1 below q j)
  known_fit (Expr-F.Join a b) = known_level (Expr-F.Join a.0 b.0) (λ own below q j.
      or_same (a.1 (all_front has_plain_index (nodes_of a.0) (nodes_of b.0) below) q j) (b.1 (all_back has_plain_index (nodes_of a.0) (nodes_of b.0) below) q j))
  known_fit (Expr-F.If c a b) = known_level (Expr-F.If c.0 a.0 b.0) (λ own below q j.
      (let front = all_front has_plain_index (nodes_of c.0 ++ nodes_of a.0) (nodes_of b.0) below in
      or_same (c.1 (all_front has_plain_index (nodes_of c.0) (nodes_of a.0) front) q j)
      (or_same (a.1 (all_back has_plain_index (nodes_of c.0) (nodes_of a.0) front) q j) (b.1 (all_back has_plain_index (nodes_of c.0 ++ nodes_of a.0) (nodes_of b.0) below) q j))))

  -- which registers a tree reads is known from the word, where its indices are plain
  pub registers_known : (e : Expr) → Known e
  registers_known = ind-Expr Known (λ x y is. subst (λ (z : Node). Known (roll-Expr z)) is (known_fit y))

  -- ---- the memory

  abbrev Somewhere : Expr → Type 0
  Somewhere e = (i : ℕ) → IsTrue ((reading d word v e).reads 0 i) → (j : ℕ) × IsTrue ((reading d word w e).reads 0 j)

  abbrev SomeTree : Type 0
  SomeTree = (e : Expr) × Somewhere e

  abbrev Found : (ℕ → ℕ → Bool) → (ℕ → ℕ → Bool) → Type 0
  Found f g = (i : ℕ) → IsTrue (f 0 i) → (j : ℕ) × IsTrue (g 0 j)

  found_or : (f g p q : ℕ → ℕ → Bool) → Found f g → Found p q → Found (λ r i. f r i || p r i) (λ r i. g r i || q r i)
  found_or f g p q a b i h = go (either (f 0 i) (p 0 i) h)
    where
      go : IsTrue (f 0 i) ⊎ IsTrue (p 0 i) → (j : ℕ) × IsTrue (g 0 j || q 0 j)
      go (inl x) = let there : (j : ℕ) × IsTrue (g 0 j) = a i x in (there.0, or_left (g 0 there.0) (q 0 there.0) there.1)
      go (inr x) = let there : (j : ℕ) × IsTrue (q 0 j) = b i x in (there.0, or_right (g 0 there.0) (q 0 there.0) there.1)

  -- so many bytes from one address, and from another
  covered : (space at to bytes : ℕ) → Found (is_byte_of space at bytes) (is_byte_of space to bytes)
  covered space at to zero i h = absurd (no h)
  covered space at to (suc bytes) i h = (to % space, or_left (nat_eq (to % space) (to % space)) (covers space (to + 1) bytes (to % space)) (grind (arith, nat_tests)))

  some_level : (x : Node) → Found (reads_step d (map-Expr Expr Reading (reading d word v) x)) (reads_step d (map-Expr Expr Reading (reading d word w) x)) → Somewhere (roll-Expr x)
  some_level x h i is =
      let there = h i (subst (λ (z : Reading). IsTrue (z.reads 0 i)) (fold-roll-Expr Reading (reading_step d word v) x) is) in
      (there.0, subst (λ (z : Reading). IsTrue (z.reads 0 there.0)) (sym (fold-roll-Expr Reading (reading_step d word w) x)) there.1)

  abbrev of : Reads → Expr → ℕ → ℕ → Bool
  of state e = (reading d word state e).reads

  some_fit : (y : Expr-F SomeTree) → Somewhere (roll-Expr (map-Expr SomeTree Expr (λ (k : SomeTree). k.0) y))
  some_fit (Expr-F.Const b) = some_level (Expr-F.Const b) (λ i h. absurd (no h))
  some_fit (Expr-F.Field f) = some_level (Expr-F.Field f) (λ i h. absurd (no h))
  some_fit Expr-F.Pc = some_level Expr-F.Pc (λ i h. absurd (no h))
  some_fit (Expr-F.Reg r None) = some_level (Expr-F.Reg r None) (λ i h. absurd (no h))
  some_fit (Expr-F.Reg r (Some x)) = some_level (Expr-F.Reg r (Some x.0))
      (found_or (of v x.0) (of w x.0) (is_register_at r.0 (reading d word v x.0).value.number) (is_register_at r.0 (reading d word w x.0).value.number) x.1 (λ i h. absurd (no h)))
  some_fit (Expr-F.Mem a bytes) = some_level (Expr-F.Mem a.0 bytes)
      (found_or (of v a.0) (of w a.0) (is_byte_of (2 ^ d.pc.width) (reading d word v a.0).value.number bytes) (is_byte_of (2 ^ d.pc.width) (reading d word w a.0).value.number bytes) a.1
      (covered (2 ^ d.pc.width) (reading d word v a.0).value.number (reading d word w a.0).value.number bytes))
  some_fit (Expr-F.Unary op a) = some_level (Expr-F.Unary op a.0) a.1
  some_fit (Expr-F.Binary op a b) = some_level (Expr-F.Binary op a.0 b.0) (found_or (of v a.0) (of w a.0) (of v b.0) (of w b.0) a.1 b.1)
  some_fit (Expr-F.Cast op width a) = some_level (Expr-F.Cast op width a.0) a.1
  some_fit (Expr-F.Slice a hi lo) = some_level (Expr-F.Slice a.0 hi lo) a.1
  some_fit (Expr-F.Join a b) = some_level (Expr-F.Join a.0 b.0) (found_or (of v a.0) (of w a.0) (of v b.0) (of w b.0) a.1 b.1)
  some_fit (Expr-F.If c a b) = some_level (Expr-F.If c.0 a.0 b.0)
      (found_or (of v c.0) (of w c.0) (λ r i. of v a.0 r i || of v b.0 r i) (λ r i. of w a.0 r i || of w b.0 r i) c.1 (found_or (of v a.0) (of w a.0) (of v b.0) (of w b.0) a.1 b.1))

  -- a tree that reads memory in one state does in the other
  pub memory_read : (e : Expr) → Somewhere e
  memory_read = ind-Expr Somewhere (λ x y is. subst (λ (z : Node). Somewhere (roll-Expr z)) is (some_fit y))
