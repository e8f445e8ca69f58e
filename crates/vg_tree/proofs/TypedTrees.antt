-- All that stands for trees is typed.
use Rattle.std.proofs.Common.{◌≡◌, ℕ, ◌*◌, Bool, true, false, ◌&&◌, nat_eq, nat_le, nat_lt, List, [], ◌∷◌, ◌++◌, map, Option, Some, None, refl, sym, ap, subst, ◌∙◌, arith, if◌then◌else◌}
use Rattle.std.proofs.lemmas.Bool.Decides.{nat_tests}
use Rattle.vg_ast.specs.declared.type_expr.BitsKind.TheVariants as kinds
use Rattle.vg_whole.specs.declared.worth.Worth.{Worth}
use Rattle.vg_whole.specs.declared.worth.Worth.TheVariants as worths
use Rattle.vg_inline.specs.declared.declared.Declared.{Declared}
use Rattle.vg_inline.specs.declared.head.Head.{Head}
use Rattle.vg_inline.specs.declared.head.Head.TheVariants as heads
use Rattle.vg_inline.specs.declared.tree.Tree.{Tree, fold-roll-Tree, roll-Tree, ind-Tree}
use Rattle.vg_inline.specs.declared.tree.Tree.TheOpen.{Tree-F}
use Rattle.vg_isa.specs.declared.isa.Parts.{Parts}
use Rattle.vg_isa.specs.declared.expr.Expr.{Expr}
use Rattle.vg_isa.specs.declared.expr.Expr.TheOpen.{Expr-F}
use Rattle.vg_isa.specs.declared.expr.Expr.TheVariants as exprs
use Rattle.vg_isa.specs.declared.operator.CastOp.TheVariants as castop
use Rattle.vg_isa.specs.Declaration.{is_file, register_width}
use Rattle.vg_isa.specs.Typing.{Typing, typing_step, typing_of, cast_fits}
use Rattle.vg_isa.proofs.TypingLemmas.{typing-Reg, typing-Mem, typing-Cast}
use Rattle.vg_type.specs.declared.value_type.ValueType.{ValueType}
use Rattle.vg_type.specs.declared.value_type.ValueType.TheVariants.{Sized, Bool as BoolType}
use Rattle.vg_type.specs.declared.sort.Sort.{Sort}
use Rattle.vg_type.specs.declared.sort.Sort.TheVariants as sorts
use Rattle.vg_type.specs.ValueType.{is_width, width_of, bits_type, type_of, whole_or}
use Rattle.vg_type.specs.Operator.{cast_type, bytes_type}
use Rattle.vg_tree.specs.Number.{value_or}
use Rattle.vg_tree.specs.declared.made.Made.{Made}
use Rattle.vg_tree.specs.declared.resource.Resource.{Resource}
use Rattle.vg_tree.specs.Resource.{resource_at, typed_sort}
use Rattle.vg_tree.specs.Made.{Frame, constant, taken, placed, at_place, made_of, nothing_made, whole_made, worth_given, constant_made, field_sort_at, field_tree, resource_tree, resource_made, indexed_made, address_in, access_made, reading_of, is_signed, extension, cast_operator, cast_tree, cast_made, leaf_made, over_one, over_two, over_three, node_made, made_step, made}
use Rattle.vg_tree.specs.TypedMade.{typed, sort_width, IsTypedMade, IsFrameOf}
use Rattle.vg_tree.proofs.MadeLemmas.{wide_declared}
use Rattle.vg_tree.proofs.TypedLemmas.{typing-no_tree, typing-constant, typing-taken, Gives, typed-made_of}
use Rattle.vg_tree.proofs.TypedNodes.{at_type, no_type, typed-unary, typed-binary, typed-slice, typed-join, typed-choice}

module _ (d : Parts) where
  typed-nothing : IsTypedMade d nothing_made
  typed-nothing = record { wide = refl; typing = typing-no_tree d }

  -- ---- casts

  operator_fits : (u : ValueType) (n : ℕ) → cast_fits (cast_operator u n) n (width_of u) ≡ true
  operator_fits u n = by (nat_eq (width_of u) n) (nat_lt n (width_of u)) (is_signed (Some u)) refl refl
    where
      narrow : nat_lt n (width_of u) ≡ true → nat_le n (width_of u) ≡ true
      narrow h = grind (arith, nat_tests, h)

      wide : nat_lt n (width_of u) ≡ false → nat_le (width_of u) n ≡ true
      wide h = grind (arith, nat_tests, h)

      by : (p q signed : Bool) → nat_eq (width_of u) n ≡ p → nat_lt n (width_of u) ≡ q
          → cast_fits (if p then castop.Keep else if q then castop.Cut else extension signed) n (width_of u) ≡ true
      by true q signed e f = e
      by false true signed e f = narrow f
      by false false true e f = wide f
      by false false false e f = wide f

  casted : (u t : ValueType) (e : Expr) → is_width (width_of t) ≡ true → typing_of d e ≡ typed (width_of u) → typing_of d (exprs.Cast (cast_operator u (width_of t)) (width_of t) e) ≡ typed (width_of t)
  casted u t e w h =
      typing-Cast d (cast_operator u (width_of t)) (width_of t) e
      ∙ ap (λ (y : Typing). typing_step d (Expr-F.Cast (cast_operator u (width_of t)) (width_of t) y)) h
      ∙ ap (λ (x : Bool). let y : Typing = record { width = width_of t; is_typed = x && cast_fits (cast_operator u (width_of t)) (width_of t) (width_of u) } in y) w
      ∙ ap (λ (x : Bool). let y : Typing = record { width = width_of t; is_typed = x } in y) (operator_fits u (width_of t))

  gives-cast : (t : Option ValueType) (s : Sort) (e : Expr) → ((u : ValueType) → t ≡ Some u → is_width (width_of u) ≡ true) → typing_of d e ≡ typed (sort_width s) → Gives d (cast_type t s) (cast_tree t s e)
  gives-cast None (sorts.Typed u) e w h = no_type d e
  gives-cast None (sorts.Whole n) e w h = no_type d e
  gives-cast None sorts.NoValue e w h = no_type d e
  gives-cast None sorts.Untyped e w h = no_type d e
  gives-cast (Some BoolType) (sorts.Typed u) e w h = by (nat_eq (width_of u) 1)
    where
      by : (x : Bool) → Gives d (if x then Some BoolType else None) (exprs.Cast (cast_operator u 1) 1 e)
      by true = at_type d BoolType (exprs.Cast (cast_operator u 1) 1 e) refl (casted u BoolType e refl h)
      by false = no_type d (exprs.Cast (cast_operator u 1) 1 e)
  gives-cast (Some (Sized kind n)) (sorts.Typed u) e w h =
      at_type d (Sized kind n) (exprs.Cast (cast_operator u n) n e) (w (Sized kind n) refl) (casted u (Sized kind n) e (w (Sized kind n) refl) h)
  gives-cast (Some BoolType) (sorts.Whole n) e w h = at_type d BoolType (constant 1 n) refl (typing-constant d 1 n refl)
  gives-cast (Some (Sized kind m)) (sorts.Whole n) e w h = at_type d (Sized kind m) (constant m n) (w (Sized kind m) refl) (typing-constant d m n (w (Sized kind m) refl))
  gives-cast (Some BoolType) sorts.NoValue e w h = at_type d BoolType (constant 1 0) refl (typing-constant d 1 0 refl)
  gives-cast (Some (Sized kind m)) sorts.NoValue e w h = at_type d (Sized kind m) (constant m 0) (w (Sized kind m) refl) (typing-constant d m 0 (w (Sized kind m) refl))
  gives-cast (Some BoolType) sorts.Untyped e w h = no_type d (constant 1 0)
  gives-cast (Some (Sized kind m)) sorts.Untyped e w h = no_type d (constant m 0)

  typed-cast : (target : Declared) (a : Made) → IsTypedMade d a → IsTypedMade d (cast_made target a)
  typed-cast target a h =
      typed-made_of d (cast_type (type_of target) a.sort) (cast_tree (type_of target) a.sort a.tree) a.readings
      (gives-cast (type_of target) a.sort a.tree (wide_declared target) h.typing)

  -- ---- constants

  typed-whole : (worth : Worth) → IsTypedMade d (whole_made worth)
  typed-whole (worths.Whole n) = record { wide = refl; typing = typing-constant d 128 n refl }
  typed-whole worths.NoValue = record { wide = refl; typing = typing-constant d 128 0 refl }
  typed-whole worths.Typed = record { wide = refl; typing = typing-constant d 128 0 refl }

  typed-constant : (worth : Worth) (t : Option ValueType) → ((u : ValueType) → t ≡ Some u → is_width (width_of u) ≡ true) → IsTypedMade d (constant_made worth t)
  typed-constant worth None w = typed-nothing
  typed-constant worth (Some t) w = record { wide = w t refl; typing = typing-constant d (width_of t) (value_or worth) (w t refl) }

  -- ---- registers and memory

  at_address : (t : ValueType) (n : ℕ) (a : Expr) → width_of t ≡ d.pc.width → typing_of d a ≡ typed (width_of t) → (nat_le 1 n && nat_le n 16) ≡ true → typing_of d (exprs.Mem a n) ≡ typed (8 * n)
  at_address t n a e h s =
      typing-Mem d a n ∙ ap (λ (y : Typing). typing_step d (Expr-F.Mem y n)) h
      ∙ ap (λ (x : Bool). let y : Typing = record { width = 8 * n; is_typed = x } in y) (fits (nat_eq (width_of t) d.pc.width) (equal_to (width_of t) d.pc.width e) s)
    where
      equal_to : (m k : ℕ) → m ≡ k → nat_eq m k ≡ true
      equal_to m k q = grind (arith, nat_tests, q)

      fits : (x : Bool) → x ≡ true → (nat_le 1 n && nat_le n 16) ≡ true → (true && x && nat_lt 0 n && nat_le n 16) ≡ true
      fits x p q = grind (arith, nat_tests, p, q)

  gives-access : (t : ValueType) (size : Worth) (a : Expr) → width_of t ≡ d.pc.width → typing_of d a ≡ typed (width_of t) → Gives d (bytes_type (whole_or size sorts.Untyped)) (exprs.Mem a (value_or size))
  gives-access t (worths.Whole n) a e h = by (nat_le 1 n && nat_le n 16) refl
    where
      sized : (nat_le 1 n && nat_le n 16) ≡ true → (x : Bool) → is_width (8 * n) ≡ x → Gives d (if x then Some (Sized kinds.Bits (8 * n)) else None) (exprs.Mem a n)
      sized s true w = at_type d (Sized kinds.Bits (8 * n)) (exprs.Mem a n) w (at_address t n a e h s)
      sized s false w = no_type d (exprs.Mem a n)

      by : (x : Bool) → (nat_le 1 n && nat_le n 16) ≡ x → Gives d (if x then bits_type (8 * n) else None) (exprs.Mem a n)
      by true s = sized s (is_width (8 * n)) refl
      by false s = no_type d (exprs.Mem a n)
  gives-access t worths.NoValue a e h = no_type d (exprs.Mem a 0)
  gives-access t worths.Typed a e h = no_type d (exprs.Mem a 0)

  from_file : (r : Resource) (t : ValueType) (i : ValueType) (e : Expr) → is_file d.regs r.id.0 (width_of i) ≡ true → register_width d.regs r.id.0 ≡ width_of t → typing_of d e ≡ typed (width_of i)
      → typing_of d (exprs.Reg r.id (Some e)) ≡ typed (width_of t)
  from_file r t i e f w h =
      typing-Reg d r.id e ∙ ap (λ (y : Typing). typing_step d (Expr-F.Reg r.id (Some y))) h
      ∙ ap (λ (x : Bool). let y : Typing = record { width = register_width d.regs r.id.0; is_typed = x } in y) f
      ∙ ap typed w

  module _ (frame : Frame) (is : IsFrameOf d frame) where
    typed-field : (k : ℕ) → IsTypedMade d (made_of (typed_sort (field_sort_at frame k)) (field_tree frame.format k) [])
    typed-field k = typed-made_of d (typed_sort (field_sort_at frame k)) (field_tree frame.format k) [] (is.fields k)

    typed-resource : (k : ℕ) → IsTypedMade d (resource_made (resource_at frame.setting k))
    typed-resource k = typed-made_of d (resource_at frame.setting k).single (resource_tree (resource_at frame.setting k)) [] (is.singles k)

    typed-indexed : (k : ℕ) (a : Made) → IsTypedMade d a → IsTypedMade d (indexed_made (resource_at frame.setting k) a)
    typed-indexed k a h =
        typed-made_of d (resource_at frame.setting k).gives (exprs.Reg (resource_at frame.setting k).id (Some (at_place (resource_at frame.setting k).index a))) a.readings gives
      where
        gives : Gives d (resource_at frame.setting k).gives (exprs.Reg (resource_at frame.setting k).id (Some (at_place (resource_at frame.setting k).index a)))
        gives t e =
            let f = is.files k t e in
            record {
              wide = f.wide;
              typing = from_file (resource_at frame.setting k) t f.index (at_place (resource_at frame.setting k).index a) f.file f.width
                  (ap (λ (i : Option ValueType). typing_of d (placed i a.sort a.tree)) f.taken ∙ typing-taken d f.index a.sort a.tree f.index_wide h.typing);
            }

    typed-access : (at : ℕ) (size : Worth) (address_at : ℕ) (a : Made) → IsTypedMade d a → IsTypedMade d (access_made (address_in frame.setting) at size address_at a)
    typed-access at size address_at a h =
        subst (λ (t : Option ValueType). IsTypedMade d (access_made t at size address_at a)) (sym is.addressed)
        (typed-made_of d (bytes_type (whole_or size sorts.Untyped)) (exprs.Mem (taken is.address a.sort a.tree) (value_or size))
        (a.readings ++ reading_of at size address_at (taken is.address a.sort a.tree) ∷ [])
        (gives-access is.address size (taken is.address a.sort a.tree) is.address_width (typing-taken d is.address a.sort a.tree is.address_wide h.typing)))

    -- ---- nodes

    typed-leaf : (head : Head) → IsTypedMade d (leaf_made frame head)
    typed-leaf (heads.Whole value) = typed-whole (worth_given value)
    typed-leaf (heads.Constant value given) = typed-constant (worth_given value) (type_of given) (wide_declared given)
    typed-leaf (heads.Field k) = typed-field k
    typed-leaf (heads.Parameter k) = typed-nothing
    typed-leaf heads.Missing = typed-nothing
    typed-leaf (heads.Resource k) = typed-resource k
    typed-leaf (heads.Indexed k at index_at) = typed-nothing
    typed-leaf (heads.Access at size address_at) = typed-nothing
    typed-leaf heads.Join = typed-nothing
    typed-leaf (heads.Unary op) = typed-nothing
    typed-leaf (heads.Binary op) = typed-nothing
    typed-leaf (heads.Cast target) = typed-nothing
    typed-leaf (heads.Slice high low) = typed-nothing
    typed-leaf heads.If = typed-nothing

    typed-one : (head : Head) (a : Made) → IsTypedMade d a → IsTypedMade d (over_one frame head a)
    typed-one (heads.Whole value) a h = typed-nothing
    typed-one (heads.Constant value given) a h = typed-nothing
    typed-one (heads.Field k) a h = typed-nothing
    typed-one (heads.Parameter k) a h = typed-nothing
    typed-one heads.Missing a h = typed-nothing
    typed-one (heads.Resource k) a h = typed-nothing
    typed-one (heads.Indexed k at index_at) a h = typed-indexed k a h
    typed-one (heads.Access at size address_at) a h = typed-access at size address_at a h
    typed-one heads.Join a h = typed-nothing
    typed-one (heads.Unary op) a h = typed-unary d op a h
    typed-one (heads.Binary op) a h = typed-nothing
    typed-one (heads.Cast target) a h = typed-cast target a h
    typed-one (heads.Slice high low) a h = typed-slice d high low a h
    typed-one heads.If a h = typed-nothing

    typed-two : (head : Head) (a b : Made) → IsTypedMade d a → IsTypedMade d b → IsTypedMade d (over_two head a b)
    typed-two (heads.Whole value) a b h k = typed-nothing
    typed-two (heads.Constant value given) a b h k = typed-nothing
    typed-two (heads.Field n) a b h k = typed-nothing
    typed-two (heads.Parameter n) a b h k = typed-nothing
    typed-two heads.Missing a b h k = typed-nothing
    typed-two (heads.Resource n) a b h k = typed-nothing
    typed-two (heads.Indexed n at index_at) a b h k = typed-nothing
    typed-two (heads.Access at size address_at) a b h k = typed-nothing
    typed-two heads.Join a b h k = typed-join d a b h k
    typed-two (heads.Unary op) a b h k = typed-nothing
    typed-two (heads.Binary op) a b h k = typed-binary d op a b h k
    typed-two (heads.Cast target) a b h k = typed-nothing
    typed-two (heads.Slice high low) a b h k = typed-nothing
    typed-two heads.If a b h k = typed-nothing

    typed-three : (head : Head) (c a b : Made) → IsTypedMade d c → IsTypedMade d a → IsTypedMade d b → IsTypedMade d (over_three head c a b)
    typed-three (heads.Whole value) c a b h k l = typed-nothing
    typed-three (heads.Constant value given) c a b h k l = typed-nothing
    typed-three (heads.Field n) c a b h k l = typed-nothing
    typed-three (heads.Parameter n) c a b h k l = typed-nothing
    typed-three heads.Missing c a b h k l = typed-nothing
    typed-three (heads.Resource n) c a b h k l = typed-nothing
    typed-three (heads.Indexed n at index_at) c a b h k l = typed-nothing
    typed-three (heads.Access at size address_at) c a b h k l = typed-nothing
    typed-three heads.Join c a b h k l = typed-nothing
    typed-three (heads.Unary op) c a b h k l = typed-nothing
    typed-three (heads.Binary op) c a b h k l = typed-nothing
    typed-three (heads.Cast target) c a b h k l = typed-nothing
    typed-three (heads.Slice high low) c a b h k l = typed-nothing
    typed-three heads.If c a b h k l = typed-choice d c a b h k l

    -- ---- trees

    abbrev Fine : Tree → Type 0
    Fine t = IsTypedMade d (made frame t)

    abbrev Checked : Type 0
    Checked = (t : Tree) × Fine t

    abbrev plain : Checked → Tree
    plain k = k.0

    typed-node : (head : Head) (fine : List Checked) → IsTypedMade d (node_made frame head (map (made frame) (map plain fine)))
    typed-node head [] = typed-leaf head
    typed-node head (a ∷ []) = typed-one head (made frame a.0) a.1
    typed-node head (a ∷ b ∷ []) = typed-two head (made frame a.0) (made frame b.0) a.1 b.1
    typed-node head (c ∷ a ∷ b ∷ []) = typed-three head (made frame c.0) (made frame a.0) (made frame b.0) c.1 a.1 b.1
    typed-node head (e ∷ c ∷ a ∷ b ∷ more) = typed-nothing

    -- what stands for a tree has the width of what it is
    pub typed-made : (t : Tree) → IsTypedMade d (made frame t)
    typed-made = ind-Tree Fine (λ x y is. subst (λ (z : Tree-F Tree). Fine (roll-Tree z)) is (one y.head y.parts))
      where
        one : (head : Head) (fine : List Checked) → Fine (roll-Tree (record { head = head; parts = map plain fine }))
        one head fine = subst (λ (m : Made). IsTypedMade d m) (sym (fold-roll-Tree Made (made_step frame) (record { head = head; parts = map plain fine }))) (typed-node head fine)
