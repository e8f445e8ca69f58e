-- The normal form of a tree: it is alike, and two trees are alike exactly where their normal forms are equal.
use Rattle.std.proofs.Common.{◌≡◌, ℕ, zero, suc, ◌+◌, ◌<◌, ◌≤◌, Bool, true, false, ◌&&◌, IsTrue, nat_eq, nat_le, List, [], ◌∷◌, Some, None, refl, sym, ap, ◌∙◌, subst, arith, if◌then◌else◌}
use Rattle.vg_bits.specs.BitValue.{bit_value}
use Rattle.std.proofs.lemmas.Bool.Decides.{nat_tests}
use Rattle.vg_isa.specs.declared.isa.Parts.{Parts}
use Rattle.vg_isa.specs.declared.expr.Expr.{Expr, fold-roll-Expr, ind-Expr, map-Expr, roll-Expr}
use Rattle.vg_isa.specs.declared.expr.Expr.TheOpen.{Expr-F}
use Rattle.vg_isa.specs.declared.operator.BinOp.{BinOp}
use Rattle.vg_isa.specs.declared.operator.CastOp.{CastOp}
use Rattle.vg_isa.specs.declared.operator.CastOp.TheVariants.{Cut}
use Rattle.vg_isa.specs.Accepted.{is_isa}
use Rattle.vg_isa.specs.Declaration.{register_width}
use Rattle.vg_isa.specs.Typing.{Typing, is_typed, typing_step, width_of}
use Rattle.vg_isa.specs.Value.{IsLawful, Reads}
use Rattle.vg_isa.proofs.Tests.{both, nat_eq-true, true-nat_eq, true-nat_lt}
use Rattle.vg_isa.proofs.Lawful.{value_is}
use Rattle.std.proofs.lemmas.Nat.{pow_pos}
use Rattle.vg_graph.specs.Node.{operands_in}
use Rattle.vg_graph.specs.Alike.{Alike, commutes, same, turned, chained, within, swapped, cast, slice}
use Rattle.vg_graph.proofs.BuildLemmas.{AllTyped, operand_typed, operands_typed}
use Rattle.vg_graph.proofs.LevelLemmas.{fold_level, map_same}
use Rattle.vg_norm.specs.NormalTree.{binary_over, cast_over, in_order, is_first, normal_step, normal_tree, slice_over}
use Rattle.vg_norm.proofs.OrderLemmas.{first_exact, first_total}
use Rattle.vg_norm.proofs.AlikeLemmas.{alike_typed, alike_typing, opened_typing}

-- ---- the order of two operands

-- the order of two operands doesn't hang on how they stood
in_order-turned : (op : BinOp) (a b : Expr) → in_order op a b ≡ in_order op b a
in_order-turned op a b = turned_by (is_first a b) (is_first b a) (λ h k. first_exact a b h k) (λ h. first_total a b h)
  where
    turned_by : (p q : Bool) → (p ≡ true → q ≡ true → a ≡ b) → (p ≡ false → q ≡ true) → (if p then roll-Expr (Expr-F.Binary op a b) else roll-Expr (Expr-F.Binary op b a)) ≡ (if q then roll-Expr (Expr-F.Binary op b a) else roll-Expr (Expr-F.Binary op a b))
    turned_by true true exact total = let is : a ≡ b = exact refl refl in λ i. roll-Expr (Expr-F.Binary op (is i) (sym is i))
    turned_by true false exact total = refl
    turned_by false true exact total = refl
    turned_by false false exact total = absurd (let h : false ≡ true = total refl in cc)

-- ---- widths of typed trees

-- a state that reads zeros
zeros : Parts → Reads
zeros d = record { pc = bit_value d.pc.width 0; reg = λ r i. bit_value (register_width d.regs r) 0; byte = λ at. 0 }

zeros_lawful : (d : Parts) → IsLawful d (zeros d)
unfolding zeros
zeros_lawful d = record {
  widths = record { pc = refl; reg = λ r i within. refl };
  pc = pow_pos d.pc.width;
  reg = λ r i has. pow_pos (register_width d.regs r);
  byte = λ at within. omega arith;
}

-- a typed tree has at most 128 bits
pub width_most : (d : Parts) (e : Expr) → IsTrue (is_isa d) → IsTrue (is_typed d e) → width_of d e ≤ 128
width_most d e accepted typed =
    let v = value_is d 0 (zeros d) accepted (zeros_lawful d) e typed in
    subst (λ (w : ℕ). w ≤ 128) v.width_is v.value.narrow

-- and one at least
pub width_least : (d : Parts) (e : Expr) → IsTrue (is_isa d) → IsTrue (is_typed d e) → 0 < width_of d e
width_least d e accepted typed =
    let v = value_is d 0 (zeros d) accepted (zeros_lawful d) e typed in
    subst (λ (w : ℕ). 0 < w) v.width_is v.value.wide

-- a slice from bit 0 is a cast
pub slice_casts : (d : Parts) (a : Expr) (high : ℕ) → IsTrue (is_isa d) → IsTrue (is_typed d (roll-Expr (Expr-F.Slice a high 0))) → IsTrue (is_typed d (roll-Expr (Expr-F.Cast Cut (high + 1) a)))
slice_casts d a high accepted typed =
    let h = opened_typing d (Expr-F.Slice a high 0) typed in
    let a_typed = (both _ _ (both _ _ h).0).0 in
    let below : high < width_of d a = true-nat_lt high (width_of d a) (both _ _ h).1 in
    let most : width_of d a ≤ 128 = width_most d a accepted a_typed in
    subst (λ (t : Typing). IsTrue t.is_typed) (sym (fold-roll-Expr Typing (typing_step d) (Expr-F.Cast Cut (high + 1) a)))
    (joined (is_typed d a) (nat_le 1 (high + 1)) (nat_le (high + 1) 128) (nat_le (high + 1) (width_of d a)) a_typed (le-true 1 (high + 1) (omega arith)) (le-true (high + 1) 128 (omega arith)) (le-true (high + 1) (width_of d a) (omega arith)))
  where
    joined : (p q r s : Bool) → p ≡ true → q ≡ true → r ≡ true → s ≡ true → (p && (q && r) && s) ≡ true
    joined p q r s a b c e = rw (a, b, c, e) refl

    le-true : (m n : ℕ) → m ≤ n → nat_le m n ≡ true
    le-true m n h = grind (arith, nat_tests)

-- ---- one operator over operands that are alike

unfoldable pub at3 : Expr → Expr → Expr → ℕ → Expr
at3 p q r zero = p
at3 p q r (suc zero) = q
at3 p q r (suc (suc k)) = r

pub alike3 : (d : Parts) (p q r p' q' r' : Expr) → Alike d p p' → Alike d q q' → Alike d r r' → (k : ℕ) → Alike d (at3 p q r k) (at3 p' q' r' k)
unfolding at3
alike3 d p q r p' q' r' h k l zero = h
alike3 d p q r p' q' r' h k l (suc zero) = k
alike3 d p q r p' q' r' h k l (suc (suc n)) = l

-- each of these trees is alike to what it becomes
AllAlike : Parts → (Expr → Expr) → List Expr → Type 0
AllAlike d f [] = Unit {0}
AllAlike d f (e ∷ es) = Alike d e (f e) × AllAlike d f es

level_alike : (d : Parts) (f : Expr → Expr) (x : Expr-F Expr) → AllAlike d f (operands_in x) → Alike d (roll-Expr x) (roll-Expr (map-Expr Expr Expr f x))
unfolding at3 AllAlike
level_alike d f (Expr-F.Const b) h = same (roll-Expr (Expr-F.Const b))
level_alike d f (Expr-F.Field n) h = same (roll-Expr (Expr-F.Field n))
level_alike d f Expr-F.Pc h = same (roll-Expr Expr-F.Pc)
level_alike d f (Expr-F.Reg r None) h = same (roll-Expr (Expr-F.Reg r None))
level_alike d f (Expr-F.Reg r (Some a)) h = within (Expr-F.Reg r (Some 0)) (at3 a a a) (at3 (f a) (f a) (f a)) (alike3 d a a a (f a) (f a) (f a) h.0 h.0 h.0)
level_alike d f (Expr-F.Mem a bytes) h = within (Expr-F.Mem 0 bytes) (at3 a a a) (at3 (f a) (f a) (f a)) (alike3 d a a a (f a) (f a) (f a) h.0 h.0 h.0)
level_alike d f (Expr-F.Unary o a) h = within (Expr-F.Unary o 0) (at3 a a a) (at3 (f a) (f a) (f a)) (alike3 d a a a (f a) (f a) (f a) h.0 h.0 h.0)
level_alike d f (Expr-F.Binary o a b) h = within (Expr-F.Binary o 0 1) (at3 a b b) (at3 (f a) (f b) (f b)) (alike3 d a b b (f a) (f b) (f b) h.0 h.1.0 h.1.0)
level_alike d f (Expr-F.Cast o width a) h = within (Expr-F.Cast o width 0) (at3 a a a) (at3 (f a) (f a) (f a)) (alike3 d a a a (f a) (f a) (f a) h.0 h.0 h.0)
level_alike d f (Expr-F.Slice a high low) h = within (Expr-F.Slice 0 high low) (at3 a a a) (at3 (f a) (f a) (f a)) (alike3 d a a a (f a) (f a) (f a) h.0 h.0 h.0)
level_alike d f (Expr-F.Join a b) h = within (Expr-F.Join 0 1) (at3 a b b) (at3 (f a) (f b) (f b)) (alike3 d a b b (f a) (f b) (f b) h.0 h.1.0 h.1.0)
level_alike d f (Expr-F.If c a b) h = within (Expr-F.If 0 1 2) (at3 c a b) (at3 (f c) (f a) (f b)) (alike3 d c a b (f c) (f a) (f b) h.0 h.1.0 h.1.1.0)

-- ---- one level

binary_alike : (d : Parts) (op : BinOp) (a b : Expr) → IsTrue (is_typed d (roll-Expr (Expr-F.Binary op a b))) → Alike d (roll-Expr (Expr-F.Binary op a b)) (binary_over op a b)
binary_alike d op a b typed = by (commutes op) (is_first a b) refl
  where
    by : (c first : Bool) → commutes op ≡ c → Alike d (roll-Expr (Expr-F.Binary op a b)) (if c then (if first then roll-Expr (Expr-F.Binary op a b) else roll-Expr (Expr-F.Binary op b a)) else roll-Expr (Expr-F.Binary op a b))
    by true true is = same (roll-Expr (Expr-F.Binary op a b))
    by true false is = swapped op a b is typed
    by false first is = same (roll-Expr (Expr-F.Binary op a b))

cast_alike : (d : Parts) (op : CastOp) (width : ℕ) (a : Expr) → IsTrue (is_typed d (roll-Expr (Expr-F.Cast op width a))) → Alike d (roll-Expr (Expr-F.Cast op width a)) (cast_over d op width a)
cast_alike d op width a typed = by (nat_eq width (width_of d a)) refl
  where
    by : (c : Bool) → nat_eq width (width_of d a) ≡ c → Alike d (roll-Expr (Expr-F.Cast op width a)) (if c then a else roll-Expr (Expr-F.Cast op width a))
    by true is = cast op width a (true-nat_eq width (width_of d a) is) typed
    by false is = same (roll-Expr (Expr-F.Cast op width a))

slice_alike : (d : Parts) (a : Expr) (high low : ℕ) → IsTrue (is_isa d) → IsTrue (is_typed d (roll-Expr (Expr-F.Slice a high low))) → Alike d (roll-Expr (Expr-F.Slice a high low)) (slice_over d a high low)
slice_alike d a high zero accepted typed =
    let casts = slice_casts d a high accepted typed in
    chained (roll-Expr (Expr-F.Slice a high 0)) (roll-Expr (Expr-F.Cast Cut (high + 1) a)) (cast_over d Cut (high + 1) a) (slice a high typed casts) (cast_alike d Cut (high + 1) a casts)
slice_alike d a high (suc low) accepted typed = same (roll-Expr (Expr-F.Slice a high (suc low)))

step_alike : (d : Parts) (x : Expr-F Expr) → IsTrue (is_isa d) → IsTrue (is_typed d (roll-Expr x)) → Alike d (roll-Expr x) (normal_step d x)
step_alike d (Expr-F.Const b) accepted typed = same (roll-Expr (Expr-F.Const b))
step_alike d (Expr-F.Field n) accepted typed = same (roll-Expr (Expr-F.Field n))
step_alike d Expr-F.Pc accepted typed = same (roll-Expr Expr-F.Pc)
step_alike d (Expr-F.Reg r i) accepted typed = same (roll-Expr (Expr-F.Reg r i))
step_alike d (Expr-F.Mem a bytes) accepted typed = same (roll-Expr (Expr-F.Mem a bytes))
step_alike d (Expr-F.Unary o a) accepted typed = same (roll-Expr (Expr-F.Unary o a))
step_alike d (Expr-F.Binary o a b) accepted typed = binary_alike d o a b typed
step_alike d (Expr-F.Cast o width a) accepted typed = cast_alike d o width a typed
step_alike d (Expr-F.Slice a high low) accepted typed = slice_alike d a high low accepted typed
step_alike d (Expr-F.Join a b) accepted typed = same (roll-Expr (Expr-F.Join a b))
step_alike d (Expr-F.If c a b) accepted typed = same (roll-Expr (Expr-F.If c a b))

-- ---- a tree and its normal form are alike

module _ (d : Parts) (accepted : IsTrue (is_isa d)) where
  abbrev Good : Expr → Type 0
  Good e = IsTrue (is_typed d e) → Alike d e (normal_tree d e)

  abbrev Known : Type 0
  Known = (e : Expr) × Good e

  abbrev plain : Known → Expr
  plain k = k.0

  AllGood : List Expr → Type 0
  AllGood [] = Unit {0}
  AllGood (e ∷ es) = Good e × AllGood es

  all_good : (y : Expr-F Known) → AllGood (operands_in (map-Expr Known Expr plain y))
  unfolding AllGood
  all_good (Expr-F.Const b) = tt
  all_good (Expr-F.Field n) = tt
  all_good Expr-F.Pc = tt
  all_good (Expr-F.Reg r None) = tt
  all_good (Expr-F.Reg r (Some a)) = (a.1, tt)
  all_good (Expr-F.Mem a bytes) = (a.1, tt)
  all_good (Expr-F.Unary o a) = (a.1, tt)
  all_good (Expr-F.Binary o a b) = (a.1, (b.1, tt))
  all_good (Expr-F.Cast o width a) = (a.1, tt)
  all_good (Expr-F.Slice a high low) = (a.1, tt)
  all_good (Expr-F.Join a b) = (a.1, (b.1, tt))
  all_good (Expr-F.If c a b) = (c.1, (a.1, (b.1, tt)))

  all_alike : (es : List Expr) → AllGood es → AllTyped d es → AllAlike d (normal_tree d) es
  unfolding AllGood AllTyped AllAlike
  all_alike [] good typed = tt
  all_alike (e ∷ es) good typed = (good.0 typed.0, all_alike es good.1 typed.1)

  good_level : (x : Expr-F Expr) → AllGood (operands_in x) → Good (roll-Expr x)
  good_level x good typed =
      let operands = all_alike (operands_in x) good (operands_typed d x (opened_typing d x typed)) in
      let over = map-Expr Expr Expr (normal_tree d) x in
      let below : Alike d (roll-Expr x) (roll-Expr over) = level_alike d (normal_tree d) x operands in
      let here : Alike d (roll-Expr over) (normal_step d over) = step_alike d over accepted (alike_typed d (roll-Expr x) (roll-Expr over) below typed) in
      subst (λ (f : Expr). Alike d (roll-Expr x) f) (sym (fold-roll-Expr Expr (normal_step d) x)) (chained (roll-Expr x) (roll-Expr over) (normal_step d over) below here)

  -- a typed tree is alike to its normal form
  pub normal_alike : (e : Expr) → IsTrue (is_typed d e) → Alike d e (normal_tree d e)
  normal_alike = ind-Expr Good (λ x y is. subst (λ (z : Expr-F Expr). Good (roll-Expr z)) is (good_level (map-Expr Known Expr plain y) (all_good y)))

  pub normal_width : (e : Expr) → IsTrue (is_typed d e) → width_of d (normal_tree d e) ≡ width_of d e
  normal_width e typed = sym (ap (λ (t : Typing). t.width) (alike_typing d e (normal_tree d e) (normal_alike e typed)))

  -- trees that are alike have one normal form
  pub normal_same : (e f : Expr) → Alike d e f → IsTrue (is_typed d e) → normal_tree d e ≡ normal_tree d f
  normal_same _ _ (same e) typed = refl
  normal_same _ _ (turned e f h) typed = sym (normal_same e f h (alike_typed d f e (turned e f h) typed))
  normal_same _ _ (chained e f g h k) typed = normal_same e f h typed ∙ normal_same f g k (alike_typed d e f h typed)
  normal_same _ _ (within x a b h) typed =
      fold_level Expr (normal_step d) x a
      ∙ ap (normal_step d) (map_same Expr x (λ (k : ℕ). normal_tree d (a k)) (λ (k : ℕ). normal_tree d (b k)) (λ k among. normal_same (a k) (b k) (h k) (operand_typed d x a typed k among)))
      ∙ sym (fold_level Expr (normal_step d) x b)
  normal_same _ _ (swapped op a b commuting typed_op) typed =
      fold-roll-Expr Expr (normal_step d) (Expr-F.Binary op a b)
      ∙ swapped_step (commutes op) commuting
      ∙ sym (fold-roll-Expr Expr (normal_step d) (Expr-F.Binary op b a))
    where
      swapped_step : (c : Bool) → c ≡ true → (if c then in_order op (normal_tree d a) (normal_tree d b) else roll-Expr (Expr-F.Binary op (normal_tree d a) (normal_tree d b))) ≡ (if c then in_order op (normal_tree d b) (normal_tree d a) else roll-Expr (Expr-F.Binary op (normal_tree d b) (normal_tree d a)))
      swapped_step true is = in_order-turned op (normal_tree d a) (normal_tree d b)
      swapped_step false is = absurd (let h : false ≡ true = is in cc)
  normal_same _ _ (cast op width a is typed_cast) typed =
      let h = opened_typing d (Expr-F.Cast op width a) typed in
      let w : width ≡ width_of d (normal_tree d a) = is ∙ sym (normal_width a (both _ _ (both _ _ h).0).0) in
      fold-roll-Expr Expr (normal_step d) (Expr-F.Cast op width a) ∙ dropped (nat_eq width (width_of d (normal_tree d a))) (nat_eq-true width (width_of d (normal_tree d a)) w)
    where
      dropped : (c : Bool) → c ≡ true → (if c then normal_tree d a else roll-Expr (Expr-F.Cast op width (normal_tree d a))) ≡ normal_tree d a
      dropped true is = refl
      dropped false is = absurd (let h : false ≡ true = is in cc)
  normal_same _ _ (slice a high typed_slice typed_cast) typed =
      fold-roll-Expr Expr (normal_step d) (Expr-F.Slice a high 0) ∙ sym (fold-roll-Expr Expr (normal_step d) (Expr-F.Cast Cut (high + 1) a))

  -- trees with one normal form are alike
  pub same_normal : (e f : Expr) → IsTrue (is_typed d e) → IsTrue (is_typed d f) → normal_tree d e ≡ normal_tree d f → Alike d e f
  same_normal e f e_typed f_typed h =
      chained e (normal_tree d e) f (normal_alike e e_typed) (subst (λ (n : Expr). Alike d n f) (sym h) (turned f (normal_tree d f) (normal_alike f f_typed)))
