-- One level of what stands for a tree, and numbers that are small where there is a type.
use Rattle.std.proofs.Common.{◌≡◌, ℕ, ◌+◌, ◌*◌, ◌-◌, ◌<◌, ◌≤◌, Bool, true, false, ◌&&◌, ◌||◌, not, nat_le, nat_lt, List, map, Some, None, refl, sym, ap, ◌∙◌, arith, if◌then◌else◌}
use Rattle.std.specs.Prelude.{[], ◌∷◌, get_or, length}
use Rattle.std.proofs.lemmas.Bool.Decides.{nat_tests}
use Rattle.std.proofs.lemmas.List.{length-map}
use Rattle.vg_ast.specs.declared.type_expr.BitsKind.{BitsKind}
use Rattle.vg_whole.specs.declared.worth.Worth.TheVariants as worths
use Rattle.vg_inline.specs.declared.declared.Declared.{Declared}
use Rattle.vg_inline.specs.declared.declared.Declared.TheVariants as declared
use Rattle.vg_inline.specs.declared.tree.Tree.{Tree, fold-roll-Tree, roll-out-Tree, out-Tree}
use Rattle.vg_type.specs.declared.value_type.ValueType.{ValueType}
use Rattle.vg_type.specs.declared.value_type.ValueType.TheVariants.{Sized, Bool as BoolType}
use Rattle.vg_type.specs.declared.sort.Sort.TheVariants as sorts
use Rattle.vg_type.specs.ValueType.{type_of, width_of, bits_type}
use Rattle.vg_type.specs.Operator.{slice_type, bytes_type}
use Rattle.vg_isa.specs.declared.expr.Expr.{Expr}
use Rattle.vg_tree.specs.declared.made.Made.{Made}
use Rattle.vg_tree.specs.Made.{Frame, made, made_step, no_tree, node_made, over_two, over_three, nothing_made, tree_where}

pub made_tree : (frame : Frame) (t : Tree) → made frame t ≡ node_made frame (out-Tree t).head (map (made frame) (out-Tree t).parts)
made_tree frame t = ap (made frame) (sym (roll-out-Tree t)) ∙ fold-roll-Tree Made (made_step frame) (out-Tree t)

-- ---- widths of declared types

record IsWidth (n : ℕ) : Type 0 where
  least : 0 < n
  most : n ≤ 128

width_from : (n : ℕ) → (nat_le 1 n && nat_le n 128) ≡ true → IsWidth n
width_from n h = record { least = grind (arith, nat_tests, h); most = grind (arith, nat_tests, h) }

sized_by : (b : Bool) (kind : BitsKind) (n : ℕ) (t : ValueType) → (nat_le 1 n && nat_le n 128) ≡ b → (if b then Some (Sized kind n) else None) ≡ Some t → IsWidth (width_of t)
sized_by true kind n t w h =
    let e : Sized kind n ≡ t = cc in
    rw (sym e) (width_from n w)
sized_by false kind n t w h = absurd (cc)

is_width_of : (d : Declared) (t : ValueType) → type_of d ≡ Some t → IsWidth (width_of t)
is_width_of (declared.Sized kind (worths.Whole n)) t h = sized_by (nat_le 1 n && nat_le n 128) kind n t refl h
is_width_of (declared.Sized kind worths.NoValue) t h = absurd (cc)
is_width_of (declared.Sized kind worths.Typed) t h = absurd (cc)
is_width_of declared.Bool t h =
    let e : BoolType ≡ t = cc in
    rw (sym e) (record { least = omega arith; most = omega arith })

pub declared_least : (d : Declared) (t : ValueType) → type_of d ≡ Some t → 0 < width_of t
declared_least d t h = (is_width_of d t h).least

pub declared_most : (d : Declared) (t : ValueType) → type_of d ≡ Some t → width_of t ≤ 128
declared_most d t h = (is_width_of d t h).most

pub wide_declared : (d : Declared) (t : ValueType) → type_of d ≡ Some t → (nat_le 1 (width_of t) && nat_le (width_of t) 128) ≡ true
wide_declared d t h = by (is_width_of d t h)
  where
    by : IsWidth (width_of t) → (nat_le 1 (width_of t) && nat_le (width_of t) 128) ≡ true
    by w = grind (arith, nat_tests, w.least, w.most)

pub ruleset declared_width = (declared_least, declared_most)

-- ---- what has no type

-- a read of more than 16 bytes
pub size_beyond : (n : ℕ) (e : Expr) → 16 < n → tree_where (bytes_type (sorts.Whole n)) no_tree ≡ tree_where (bytes_type (sorts.Whole n)) e
size_beyond n e h = by (nat_le 1 n && nat_le n 16) refl
  where
    by : (b : Bool) → (nat_le 1 n && nat_le n 16) ≡ b → tree_where (if b then bits_type (8 * n) else None) no_tree ≡ tree_where (if b then bits_type (8 * n) else None) e
    by true w = absurd (grind (arith, nat_tests, h, w))
    by false w = refl

pub ruleset size_within = (size_beyond)

slice_by : (high low : ℕ) (e : Expr) (b : Bool) → b ≡ true → tree_where (if true && not b then bits_type (high + 1 - low) else None) no_tree ≡ tree_where (if true && not b then bits_type (high + 1 - low) else None) e
slice_by high low e true h = refl
slice_by high low e false h = absurd (cc)

-- a slice beyond its operand
pub slice_above : (kind : BitsKind) (width high low : ℕ) (e : Expr) → width ≤ high
    → tree_where (slice_type (sorts.Typed (Sized kind width)) (sorts.Whole high) (sorts.Whole low)) no_tree ≡ tree_where (slice_type (sorts.Typed (Sized kind width)) (sorts.Whole high) (sorts.Whole low)) e
slice_above kind width high low e h = slice_by high low e (nat_lt high low || nat_le width high) (grind (arith, nat_tests, h))

-- a slice whose high bit is below its low one
pub slice_upwards : (kind : BitsKind) (width high low : ℕ) (e : Expr) → high < low
    → tree_where (slice_type (sorts.Typed (Sized kind width)) (sorts.Whole high) (sorts.Whole low)) no_tree ≡ tree_where (slice_type (sorts.Typed (Sized kind width)) (sorts.Whole high) (sorts.Whole low)) e
slice_upwards kind width high low e h = slice_by high low e (nat_lt high low || nat_le width high) (grind (arith, nat_tests, h))

pub ruleset slice_within = (slice_above, slice_upwards)

-- ---- parts

two_parts : (xs : List Tree) (a b : Tree) → 2 ≤ length xs → length xs < 3 → a ≡ get_or xs 0 a → b ≡ get_or xs 1 b → xs ≡ a ∷ b ∷ []
two_parts [] a b l h p q = absurd (omega (arith, l))
two_parts (x ∷ []) a b l h p q = absurd (omega (arith, l))
two_parts (x ∷ y ∷ []) a b l h p q = ap (λ (z : Tree). z ∷ y ∷ []) (sym p) ∙ ap (λ (z : Tree). a ∷ z ∷ []) (sym q)
two_parts (x ∷ y ∷ z ∷ xs) a b l h p q = absurd (omega (arith, h))

three_parts : (xs : List Tree) (c a b : Tree) → 3 ≤ length xs → length xs < 4 → c ≡ get_or xs 0 c → a ≡ get_or xs 1 a → b ≡ get_or xs 2 b → xs ≡ c ∷ a ∷ b ∷ []
three_parts [] c a b l h p q r = absurd (omega (arith, l))
three_parts (x ∷ []) c a b l h p q r = absurd (omega (arith, l))
three_parts (x ∷ y ∷ []) c a b l h p q r = absurd (omega (arith, l))
three_parts (x ∷ y ∷ z ∷ []) c a b l h p q r = ap (λ (w : Tree). w ∷ y ∷ z ∷ []) (sym p) ∙ ap (λ (w : Tree). c ∷ w ∷ z ∷ []) (sym q) ∙ ap (λ (w : Tree). c ∷ a ∷ w ∷ []) (sym r)
three_parts (x ∷ y ∷ z ∷ w ∷ xs) c a b l h p q r = absurd (omega (arith, h))

many_parts : (frame : Frame) (t : Tree) (xs : List Made) → 4 ≤ length xs → node_made frame (out-Tree t).head xs ≡ nothing_made
many_parts frame t [] h = absurd (omega (arith, h))
many_parts frame t (x ∷ []) h = absurd (omega (arith, h))
many_parts frame t (x ∷ y ∷ []) h = absurd (omega (arith, h))
many_parts frame t (x ∷ y ∷ z ∷ []) h = absurd (omega (arith, h))
many_parts frame t (x ∷ y ∷ z ∷ w ∷ xs) h = refl

-- a node over these parts
node_over : (frame : Frame) (t : Tree) (xs ts : List Tree) → xs ≡ (out-Tree t).parts → xs ≡ ts → node_made frame (out-Tree t).head (map (made frame) ts) ≡ made frame t
node_over frame t xs ts e h = sym (made_tree frame t ∙ ap (λ (us : List Tree). node_made frame (out-Tree t).head (map (made frame) us)) (sym e ∙ h))

-- a tree of two parts, of three, and of more
pub made_two : (frame : Frame) (t : Tree) (xs : List Tree) (a b : Tree) (x y : Made) → xs ≡ (out-Tree t).parts → 2 ≤ length xs → length xs < 3 → a ≡ get_or xs 0 a → b ≡ get_or xs 1 b
    → x ≡ made frame a → y ≡ made frame b → over_two (out-Tree t).head x y ≡ made frame t
made_two frame t xs a b x y i l h p q e f =
    ap (λ (z : Made). over_two (out-Tree t).head z y) e ∙ ap (λ (z : Made). over_two (out-Tree t).head (made frame a) z) f
    ∙ node_over frame t xs (a ∷ b ∷ []) i (two_parts xs a b l h p q)

pub made_three : (frame : Frame) (t : Tree) (xs : List Tree) (c a b : Tree) (x y z : Made) → xs ≡ (out-Tree t).parts → 3 ≤ length xs → length xs < 4
    → c ≡ get_or xs 0 c → a ≡ get_or xs 1 a → b ≡ get_or xs 2 b → x ≡ made frame c → y ≡ made frame a → z ≡ made frame b → over_three (out-Tree t).head x y z ≡ made frame t
made_three frame t xs c a b x y z i l h p q r e f g =
    ap (λ (w : Made). over_three (out-Tree t).head w y z) e ∙ ap (λ (w : Made). over_three (out-Tree t).head (made frame c) w z) f
    ∙ ap (λ (w : Made). over_three (out-Tree t).head (made frame c) (made frame a) w) g
    ∙ node_over frame t xs (c ∷ a ∷ b ∷ []) i (three_parts xs c a b l h p q r)

pub made_more : (frame : Frame) (t : Tree) (xs : List Tree) → xs ≡ (out-Tree t).parts → 4 ≤ length xs → nothing_made ≡ made frame t
made_more frame t xs i h =
    sym (many_parts frame t (map (made frame) xs) (rw (length-map xs (made frame)) h)) ∙ node_over frame t xs xs i refl
