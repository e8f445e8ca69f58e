-- A node over typed parts is typed.
use Rattle.std.proofs.Common.{◌≡◌, ℕ, ◌+◌, ◌*◌, ◌-◌, Bool, true, false, ◌&&◌, ◌||◌, not, nat_eq, nat_le, nat_lt, ◌++◌, Option, Some, None, refl, ap, subst, ◌∙◌, arith, if◌then◌else◌}
use Rattle.std.proofs.lemmas.Bool.Decides.{nat_tests}
use Rattle.vg_ast.specs.declared.operator.UnaryOperator.{UnaryOperator}
use Rattle.vg_ast.specs.declared.operator.UnaryOperator.TheVariants as unary
use Rattle.vg_ast.specs.declared.operator.BinaryOperator.{BinaryOperator}
use Rattle.vg_ast.specs.declared.operator.BinaryOperator.TheVariants as binary
use Rattle.vg_ast.specs.declared.type_expr.BitsKind.{BitsKind}
use Rattle.vg_ast.specs.declared.type_expr.BitsKind.TheVariants as kinds
use Rattle.vg_whole.specs.declared.worth.Worth.{Worth}
use Rattle.vg_whole.specs.declared.worth.Worth.TheVariants as worths
use Rattle.vg_isa.specs.declared.isa.Parts.{Parts}
use Rattle.vg_isa.specs.declared.expr.Expr.{Expr}
use Rattle.vg_isa.specs.declared.expr.Expr.TheOpen.{Expr-F}
use Rattle.vg_isa.specs.declared.expr.Expr.TheVariants as exprs
use Rattle.vg_isa.specs.declared.operator.UnOp.TheVariants as unop
use Rattle.vg_isa.specs.declared.operator.BinOp.{BinOp}
use Rattle.vg_isa.specs.declared.operator.BinOp.TheVariants as binop
use Rattle.vg_isa.specs.Typing.{Typing, typing_step, typing_of, binary_width, binary_fits}
use Rattle.vg_isa.proofs.TypingLemmas.{typing-Unary, typing-Binary, typing-Slice, typing-Join, typing-If}
use Rattle.vg_type.specs.declared.value_type.ValueType.{ValueType}
use Rattle.vg_type.specs.declared.value_type.ValueType.TheVariants.{Sized, Bool as BoolType}
use Rattle.vg_type.specs.declared.sort.Sort.{Sort}
use Rattle.vg_type.specs.declared.sort.Sort.TheVariants as sorts
use Rattle.vg_type.specs.ValueType.{is_width, width_of, bits_type, sized_type, same_type, common_type, whole_or}
use Rattle.vg_type.specs.Operator.{unary_type, binary_type, operated, is_amount, slice_type, join_type, choice_type}
use Rattle.vg_tree.specs.Number.{value_or}
use Rattle.vg_tree.specs.declared.made.Made.{Made}
use Rattle.vg_tree.specs.Made.{taken, placed, unary_tree, negated, less, either, binary_tree, is_signed, operation_tree, choice_tree, unary_made, binary_made, slice_made, join_made, if_made}
use Rattle.vg_tree.specs.TypedMade.{typed, IsTreeOf, sort_width, IsTypedMade}
use Rattle.vg_tree.proofs.TypedLemmas.{some_equal, both_true, typing-taken, Gives, typed-made_of}

pub equal : (w : ℕ) → nat_eq w w ≡ true
equal w = grind (arith, nat_tests)

module _ (d : Parts) where
  pub at_type : (t : ValueType) (e : Expr) → is_width (width_of t) ≡ true → typing_of d e ≡ typed (width_of t) → Gives d (Some t) e
  at_type t e w h u s = subst (λ (x : ValueType). IsTreeOf d x e) (some_equal t u s) (record { wide = w; typing = h })

  pub no_type : (e : Expr) → Gives d None e
  no_type e u s = absurd (cc)

  -- ---- one operand

  gives-unary : (op : UnaryOperator) (sort : Sort) (e : Expr) → is_width (sort_width sort) ≡ true → typing_of d e ≡ typed (sort_width sort) → Gives d (unary_type op sort) (unary_tree op e)
  gives-unary unary.Complement (sorts.Typed (Sized kind n)) e w h = at_type (Sized kind n) (exprs.Unary unop.Not e) w (typing-Unary d unop.Not e ∙ h)
  gives-unary unary.Complement (sorts.Typed BoolType) e w h = no_type (exprs.Unary unop.Not e)
  gives-unary unary.Complement (sorts.Whole n) e w h = no_type (exprs.Unary unop.Not e)
  gives-unary unary.Complement sorts.NoValue e w h = no_type (exprs.Unary unop.Not e)
  gives-unary unary.Complement sorts.Untyped e w h = no_type (exprs.Unary unop.Not e)
  gives-unary unary.Negate (sorts.Typed (Sized kind n)) e w h = at_type (Sized kind n) (exprs.Unary unop.Neg e) w (typing-Unary d unop.Neg e ∙ h)
  gives-unary unary.Negate (sorts.Typed BoolType) e w h = no_type (exprs.Unary unop.Neg e)
  gives-unary unary.Negate (sorts.Whole n) e w h = no_type (exprs.Unary unop.Neg e)
  gives-unary unary.Negate sorts.NoValue e w h = no_type (exprs.Unary unop.Neg e)
  gives-unary unary.Negate sorts.Untyped e w h = no_type (exprs.Unary unop.Neg e)
  gives-unary unary.Not (sorts.Typed BoolType) e w h = at_type BoolType (exprs.Unary unop.Not e) refl (typing-Unary d unop.Not e ∙ h)
  gives-unary unary.Not (sorts.Typed (Sized kind n)) e w h = no_type (exprs.Unary unop.Not e)
  gives-unary unary.Not (sorts.Whole n) e w h = no_type (exprs.Unary unop.Not e)
  gives-unary unary.Not sorts.NoValue e w h = no_type (exprs.Unary unop.Not e)
  gives-unary unary.Not sorts.Untyped e w h = no_type (exprs.Unary unop.Not e)

  pub typed-unary : (op : UnaryOperator) (a : Made) → IsTypedMade d a → IsTypedMade d (unary_made op a)
  typed-unary op a h = typed-made_of d (unary_type op a.sort) (unary_tree op a.tree) a.readings (gives-unary op a.sort a.tree h.wide h.typing)

  -- ---- two operands of one type

  node : (o : BinOp) (w v : ℕ) (a b : Expr) → binary_fits o w v ≡ true → typing_of d a ≡ typed w → typing_of d b ≡ typed v → typing_of d (exprs.Binary o a b) ≡ typed (binary_width o w)
  node o w v a b f ha hb =
      typing-Binary d o a b
      ∙ ap (λ (t : Typing). typing_step d (Expr-F.Binary o t (typing_of d b))) ha
      ∙ ap (λ (t : Typing). typing_step d (Expr-F.Binary o (typed w) t)) hb
      ∙ ap (λ (x : Bool). let y : Typing = record { width = binary_width o w; is_typed = x } in y) f

  complement : (w : ℕ) (e : Expr) → typing_of d e ≡ typed w → typing_of d (negated e) ≡ typed w
  complement w e h = typing-Unary d unop.Not e ∙ h

  below : (signed : Bool) (w : ℕ) (a b : Expr) → typing_of d a ≡ typed w → typing_of d b ≡ typed w → typing_of d (less signed a b) ≡ typed 1
  below true w a b ha hb = node binop.Slt w w a b (equal w) ha hb
  below false w a b ha hb = node binop.Lt w w a b (equal w) ha hb

  one_of : (signed : Bool) (o p : BinOp) (w : ℕ) (a b : Expr) → typing_of d (exprs.Binary o a b) ≡ typed w → typing_of d (exprs.Binary p a b) ≡ typed w → typing_of d (exprs.Binary (either signed o p) a b) ≡ typed w
  one_of true o p w a b h k = h
  one_of false o p w a b h k = k

  product : (signed : Bool) (kind : BitsKind) (n : ℕ) (a b : Expr) → typing_of d a ≡ typed n → typing_of d b ≡ typed n → Gives d (sized_type kind (2 * n)) (exprs.Binary (binop.MulLong signed) a b)
  product signed kind n a b ha hb = by (is_width (2 * n)) refl
    where
      narrow : is_width (2 * n) ≡ true → (nat_eq n n && nat_le n 64) ≡ true
      narrow h = grind (arith, nat_tests, h)

      by : (x : Bool) → is_width (2 * n) ≡ x → Gives d (if x then Some (Sized kind (2 * n)) else None) (exprs.Binary (binop.MulLong signed) a b)
      by true h = at_type (Sized kind (2 * n)) (exprs.Binary (binop.MulLong signed) a b) h (node (binop.MulLong signed) n n a b (narrow h) ha hb)
      by false h = no_type (exprs.Binary (binop.MulLong signed) a b)

  module _ (signed : Bool) (kind : BitsKind) (n : ℕ) (a b : Expr) (w : is_width n ≡ true) (ha : typing_of d a ≡ typed n) (hb : typing_of d b ≡ typed n) where
    same : (o : BinOp) → binary_fits o n n ≡ true → binary_width o n ≡ n → Gives d (Some (Sized kind n)) (exprs.Binary o a b)
    same o f e = at_type (Sized kind n) (exprs.Binary o a b) w (node o n n a b f ha hb ∙ ap typed e)

    chosen : (o p : BinOp) → binary_fits o n n ≡ true → binary_width o n ≡ n → binary_fits p n n ≡ true → binary_width p n ≡ n → Gives d (Some (Sized kind n)) (exprs.Binary (either signed o p) a b)
    chosen o p f e g k =
        at_type (Sized kind n) (exprs.Binary (either signed o p) a b) w
        (one_of signed o p n a b (node o n n a b f ha hb ∙ ap typed e) (node p n n a b g ha hb ∙ ap typed k))

    sized-operands : (op : BinaryOperator) → Gives d (operated op (Some (Sized kind n))) (binary_tree op signed a b)
    sized-operands binary.Or = same binop.Or (equal n) refl
    sized-operands binary.Xor = same binop.Xor (equal n) refl
    sized-operands binary.And = same binop.And (equal n) refl
    sized-operands binary.Equal = at_type BoolType (exprs.Binary binop.Eq a b) refl (node binop.Eq n n a b (equal n) ha hb)
    sized-operands binary.NotEqual = at_type BoolType (negated (exprs.Binary binop.Eq a b)) refl (complement 1 (exprs.Binary binop.Eq a b) (node binop.Eq n n a b (equal n) ha hb))
    sized-operands binary.Less = at_type BoolType (less signed a b) refl (below signed n a b ha hb)
    sized-operands binary.LessEqual = at_type BoolType (negated (less signed b a)) refl (complement 1 (less signed b a) (below signed n b a hb ha))
    sized-operands binary.Greater = at_type BoolType (less signed b a) refl (below signed n b a hb ha)
    sized-operands binary.GreaterEqual = at_type BoolType (negated (less signed a b)) refl (complement 1 (less signed a b) (below signed n a b ha hb))
    sized-operands binary.ShiftLeft = same binop.Shl refl refl
    sized-operands binary.ShiftRight = chosen binop.Sar binop.Shr refl refl refl refl
    sized-operands binary.Add = same binop.Add (equal n) refl
    sized-operands binary.Subtract = same binop.Sub (equal n) refl
    sized-operands binary.Multiply = same binop.Mul (equal n) refl
    sized-operands binary.MultiplyLong = product signed kind n a b ha hb
    sized-operands binary.Divide = chosen binop.Sdiv binop.Udiv (equal n) refl (equal n) refl
    sized-operands binary.Remainder = chosen binop.Srem binop.Urem (equal n) refl (equal n) refl

  module _ (signed : Bool) (a b : Expr) (ha : typing_of d a ≡ typed 1) (hb : typing_of d b ≡ typed 1) where
    bool-operands : (op : BinaryOperator) → Gives d (operated op (Some BoolType)) (binary_tree op signed a b)
    bool-operands binary.Or = at_type BoolType (exprs.Binary binop.Or a b) refl (node binop.Or 1 1 a b refl ha hb)
    bool-operands binary.Xor = at_type BoolType (exprs.Binary binop.Xor a b) refl (node binop.Xor 1 1 a b refl ha hb)
    bool-operands binary.And = at_type BoolType (exprs.Binary binop.And a b) refl (node binop.And 1 1 a b refl ha hb)
    bool-operands binary.Equal = at_type BoolType (exprs.Binary binop.Eq a b) refl (node binop.Eq 1 1 a b refl ha hb)
    bool-operands binary.NotEqual = at_type BoolType (negated (exprs.Binary binop.Eq a b)) refl (complement 1 (exprs.Binary binop.Eq a b) (node binop.Eq 1 1 a b refl ha hb))
    bool-operands binary.Less = no_type (binary_tree binary.Less signed a b)
    bool-operands binary.LessEqual = no_type (binary_tree binary.LessEqual signed a b)
    bool-operands binary.Greater = no_type (binary_tree binary.Greater signed a b)
    bool-operands binary.GreaterEqual = no_type (binary_tree binary.GreaterEqual signed a b)
    bool-operands binary.ShiftLeft = no_type (binary_tree binary.ShiftLeft signed a b)
    bool-operands binary.ShiftRight = no_type (binary_tree binary.ShiftRight signed a b)
    bool-operands binary.Add = no_type (binary_tree binary.Add signed a b)
    bool-operands binary.Subtract = no_type (binary_tree binary.Subtract signed a b)
    bool-operands binary.Multiply = no_type (binary_tree binary.Multiply signed a b)
    bool-operands binary.MultiplyLong = no_type (binary_tree binary.MultiplyLong signed a b)
    bool-operands binary.Divide = no_type (binary_tree binary.Divide signed a b)
    bool-operands binary.Remainder = no_type (binary_tree binary.Remainder signed a b)

  operands : (op : BinaryOperator) (signed : Bool) (t : ValueType) (a b : Expr) → is_width (width_of t) ≡ true → typing_of d a ≡ typed (width_of t) → typing_of d b ≡ typed (width_of t)
      → Gives d (operated op (Some t)) (binary_tree op signed a b)
  operands op signed (Sized kind n) a b w ha hb = sized-operands signed kind n a b w ha hb op
  operands op signed BoolType a b w ha hb = bool-operands signed a b ha hb op

  -- the type of two operands is that of one of them
  common_wide : (s r : Sort) (t : ValueType) → is_width (sort_width s) ≡ true → is_width (sort_width r) ≡ true → common_type s r ≡ Some t → is_width (width_of t) ≡ true
  common_wide (sorts.Typed u) (sorts.Typed v) t w x h = by (same_type u v) h
    where
      by : (b : Bool) → (if b then Some u else None) ≡ Some t → is_width (width_of t) ≡ true
      by true e = subst (λ (y : ValueType). is_width (width_of y) ≡ true) (some_equal u t e) w
      by false e = absurd (cc)
  common_wide (sorts.Typed u) (sorts.Whole n) t w x h = subst (λ (y : ValueType). is_width (width_of y) ≡ true) (some_equal u t h) w
  common_wide (sorts.Typed u) sorts.NoValue t w x h = subst (λ (y : ValueType). is_width (width_of y) ≡ true) (some_equal u t h) w
  common_wide (sorts.Typed u) sorts.Untyped t w x h = absurd (cc)
  common_wide (sorts.Whole n) (sorts.Typed u) t w x h = subst (λ (y : ValueType). is_width (width_of y) ≡ true) (some_equal u t h) x
  common_wide (sorts.Whole n) (sorts.Whole m) t w x h = absurd (cc)
  common_wide (sorts.Whole n) sorts.NoValue t w x h = absurd (cc)
  common_wide (sorts.Whole n) sorts.Untyped t w x h = absurd (cc)
  common_wide sorts.NoValue (sorts.Typed u) t w x h = subst (λ (y : ValueType). is_width (width_of y) ≡ true) (some_equal u t h) x
  common_wide sorts.NoValue (sorts.Whole m) t w x h = absurd (cc)
  common_wide sorts.NoValue sorts.NoValue t w x h = absurd (cc)
  common_wide sorts.NoValue sorts.Untyped t w x h = absurd (cc)
  common_wide sorts.Untyped r t w x h = absurd (cc)

  -- the operands of an operator that is no shift
  gives-common : (op : BinaryOperator) (s r : Sort) (a b : Expr) → is_width (sort_width s) ≡ true → is_width (sort_width r) ≡ true → typing_of d a ≡ typed (sort_width s) → typing_of d b ≡ typed (sort_width r)
      → Gives d (operated op (common_type s r)) (binary_tree op (is_signed (common_type s r)) (placed (common_type s r) s a) (placed (common_type s r) r b))
  gives-common op s r a b w x ha hb = by (common_type s r) refl
    where
      by : (o : Option ValueType) → common_type s r ≡ o → Gives d (operated op o) (binary_tree op (is_signed o) (placed o s a) (placed o r b))
      by None e = no_type (binary_tree op (is_signed None) a b)
      by (Some t) e =
          let wide = common_wide s r t w x e in
          operands op (is_signed (Some t)) t (taken t s a) (taken t r b) wide (typing-taken d t s a wide ha) (typing-taken d t r b wide hb)

  gives-left : (s r : Sort) (a b : Expr) → is_width (sort_width s) ≡ true → typing_of d a ≡ typed (sort_width s) → typing_of d b ≡ typed (sort_width r)
      → Gives d (binary_type binary.ShiftLeft s r) (operation_tree binary.ShiftLeft s r a b)
  gives-left (sorts.Typed (Sized kind n)) r a b w ha hb = by (is_amount r)
    where
      by : (x : Bool) → Gives d (if x then Some (Sized kind n) else None) (exprs.Binary binop.Shl a b)
      by true = at_type (Sized kind n) (exprs.Binary binop.Shl a b) w (node binop.Shl n (sort_width r) a b refl ha hb)
      by false = no_type (exprs.Binary binop.Shl a b)
  gives-left (sorts.Typed BoolType) r a b w ha hb = no_type (exprs.Binary binop.Shl a b)
  gives-left (sorts.Whole n) r a b w ha hb = no_type (exprs.Binary binop.Shl a b)
  gives-left sorts.NoValue r a b w ha hb = no_type (exprs.Binary binop.Shl a b)
  gives-left sorts.Untyped r a b w ha hb = no_type (exprs.Binary binop.Shl a b)

  gives-right : (s r : Sort) (a b : Expr) → is_width (sort_width s) ≡ true → typing_of d a ≡ typed (sort_width s) → typing_of d b ≡ typed (sort_width r)
      → Gives d (binary_type binary.ShiftRight s r) (operation_tree binary.ShiftRight s r a b)
  gives-right (sorts.Typed (Sized kind n)) r a b w ha hb = by (is_signed (Some (Sized kind n))) (is_amount r)
    where
      by : (signed x : Bool) → Gives d (if x then Some (Sized kind n) else None) (exprs.Binary (either signed binop.Sar binop.Shr) a b)
      by true true = at_type (Sized kind n) (exprs.Binary binop.Sar a b) w (node binop.Sar n (sort_width r) a b refl ha hb)
      by false true = at_type (Sized kind n) (exprs.Binary binop.Shr a b) w (node binop.Shr n (sort_width r) a b refl ha hb)
      by signed false = no_type (exprs.Binary (either signed binop.Sar binop.Shr) a b)
  gives-right (sorts.Typed BoolType) r a b w ha hb = no_type (operation_tree binary.ShiftRight (sorts.Typed BoolType) r a b)
  gives-right (sorts.Whole n) r a b w ha hb = no_type (operation_tree binary.ShiftRight (sorts.Whole n) r a b)
  gives-right sorts.NoValue r a b w ha hb = no_type (operation_tree binary.ShiftRight sorts.NoValue r a b)
  gives-right sorts.Untyped r a b w ha hb = no_type (operation_tree binary.ShiftRight sorts.Untyped r a b)

  gives-binary : (op : BinaryOperator) (s r : Sort) (a b : Expr) → is_width (sort_width s) ≡ true → is_width (sort_width r) ≡ true → typing_of d a ≡ typed (sort_width s) → typing_of d b ≡ typed (sort_width r)
      → Gives d (binary_type op s r) (operation_tree op s r a b)
  gives-binary binary.Or s r a b w x ha hb = gives-common binary.Or s r a b w x ha hb
  gives-binary binary.Xor s r a b w x ha hb = gives-common binary.Xor s r a b w x ha hb
  gives-binary binary.And s r a b w x ha hb = gives-common binary.And s r a b w x ha hb
  gives-binary binary.Equal s r a b w x ha hb = gives-common binary.Equal s r a b w x ha hb
  gives-binary binary.NotEqual s r a b w x ha hb = gives-common binary.NotEqual s r a b w x ha hb
  gives-binary binary.Less s r a b w x ha hb = gives-common binary.Less s r a b w x ha hb
  gives-binary binary.LessEqual s r a b w x ha hb = gives-common binary.LessEqual s r a b w x ha hb
  gives-binary binary.Greater s r a b w x ha hb = gives-common binary.Greater s r a b w x ha hb
  gives-binary binary.GreaterEqual s r a b w x ha hb = gives-common binary.GreaterEqual s r a b w x ha hb
  gives-binary binary.ShiftLeft s r a b w x ha hb = gives-left s r a b w ha hb
  gives-binary binary.ShiftRight s r a b w x ha hb = gives-right s r a b w ha hb
  gives-binary binary.Add s r a b w x ha hb = gives-common binary.Add s r a b w x ha hb
  gives-binary binary.Subtract s r a b w x ha hb = gives-common binary.Subtract s r a b w x ha hb
  gives-binary binary.Multiply s r a b w x ha hb = gives-common binary.Multiply s r a b w x ha hb
  gives-binary binary.MultiplyLong s r a b w x ha hb = gives-common binary.MultiplyLong s r a b w x ha hb
  gives-binary binary.Divide s r a b w x ha hb = gives-common binary.Divide s r a b w x ha hb
  gives-binary binary.Remainder s r a b w x ha hb = gives-common binary.Remainder s r a b w x ha hb

  pub typed-binary : (op : BinaryOperator) (a b : Made) → IsTypedMade d a → IsTypedMade d b → IsTypedMade d (binary_made op a b)
  typed-binary op a b h k =
      typed-made_of d (binary_type op a.sort b.sort) (operation_tree op a.sort b.sort a.tree b.tree) (a.readings ++ b.readings)
      (gives-binary op a.sort b.sort a.tree b.tree h.wide k.wide h.typing k.typing)

  -- ---- joins, slices and conditionals

  gives-join : (s r : Sort) (a b : Expr) → typing_of d a ≡ typed (sort_width s) → typing_of d b ≡ typed (sort_width r) → Gives d (join_type s r) (exprs.Join a b)
  gives-join (sorts.Typed (Sized k m)) (sorts.Typed (Sized l n)) a b ha hb = by (is_width (m + n)) refl
    where
      fits : is_width (m + n) ≡ true → nat_le (m + n) 128 ≡ true
      fits h = (both_true (nat_le 1 (m + n)) (nat_le (m + n) 128) h).1

      joined : is_width (m + n) ≡ true → typing_of d (exprs.Join a b) ≡ typed (m + n)
      joined h =
          typing-Join d a b
          ∙ ap (λ (t : Typing). typing_step d (Expr-F.Join t (typing_of d b))) ha
          ∙ ap (λ (t : Typing). typing_step d (Expr-F.Join (typed m) t)) hb
          ∙ ap (λ (x : Bool). let y : Typing = record { width = m + n; is_typed = x } in y) (fits h)

      by : (x : Bool) → is_width (m + n) ≡ x → Gives d (if x then Some (Sized kinds.Bits (m + n)) else None) (exprs.Join a b)
      by true h = at_type (Sized kinds.Bits (m + n)) (exprs.Join a b) h (joined h)
      by false h = no_type (exprs.Join a b)
  gives-join (sorts.Typed (Sized k m)) (sorts.Typed BoolType) a b ha hb = no_type (exprs.Join a b)
  gives-join (sorts.Typed (Sized k m)) (sorts.Whole n) a b ha hb = no_type (exprs.Join a b)
  gives-join (sorts.Typed (Sized k m)) sorts.NoValue a b ha hb = no_type (exprs.Join a b)
  gives-join (sorts.Typed (Sized k m)) sorts.Untyped a b ha hb = no_type (exprs.Join a b)
  gives-join (sorts.Typed BoolType) r a b ha hb = no_type (exprs.Join a b)
  gives-join (sorts.Whole n) r a b ha hb = no_type (exprs.Join a b)
  gives-join sorts.NoValue r a b ha hb = no_type (exprs.Join a b)
  gives-join sorts.Untyped r a b ha hb = no_type (exprs.Join a b)

  pub typed-join : (a b : Made) → IsTypedMade d a → IsTypedMade d b → IsTypedMade d (join_made a b)
  typed-join a b h k = typed-made_of d (join_type a.sort b.sort) (exprs.Join a.tree b.tree) (a.readings ++ b.readings) (gives-join a.sort b.sort a.tree b.tree h.typing k.typing)

  -- a slice of so many bits
  cut : (n high low : ℕ) (a : Expr) → typing_of d a ≡ typed n → (true && not (nat_lt high low || nat_le n high)) ≡ true → Gives d (bits_type (high + 1 - low)) (exprs.Slice a high low)
  cut n high low a ha h = by (is_width (high + 1 - low)) refl
    where
      inside : (nat_le low high && nat_lt high n) ≡ true
      inside = grind (arith, nat_tests, h)

      sliced : typing_of d (exprs.Slice a high low) ≡ typed (high + 1 - low)
      sliced =
          typing-Slice d a high low
          ∙ ap (λ (t : Typing). typing_step d (Expr-F.Slice t high low)) ha
          ∙ ap (λ (x : Bool). let y : Typing = record { width = high + 1 - low; is_typed = x } in y) inside

      by : (x : Bool) → is_width (high + 1 - low) ≡ x → Gives d (if x then Some (Sized kinds.Bits (high + 1 - low)) else None) (exprs.Slice a high low)
      by true w = at_type (Sized kinds.Bits (high + 1 - low)) (exprs.Slice a high low) w sliced
      by false w = no_type (exprs.Slice a high low)

  gives-slice : (s : Sort) (high low : Worth) (a : Expr) → typing_of d a ≡ typed (sort_width s) → Gives d (slice_type s (whole_or high sorts.Untyped) (whole_or low sorts.Untyped)) (exprs.Slice a (value_or high) (value_or low))
  gives-slice (sorts.Typed (Sized kind n)) (worths.Whole high) (worths.Whole low) a ha = by (true && not (nat_lt high low || nat_le n high)) refl
    where
      by : (x : Bool) → (true && not (nat_lt high low || nat_le n high)) ≡ x → Gives d (if x then bits_type (high + 1 - low) else None) (exprs.Slice a high low)
      by true h = cut n high low a ha h
      by false h = no_type (exprs.Slice a high low)
  gives-slice (sorts.Typed (Sized kind n)) (worths.Whole high) worths.NoValue a ha = no_type (exprs.Slice a high 0)
  gives-slice (sorts.Typed (Sized kind n)) (worths.Whole high) worths.Typed a ha = no_type (exprs.Slice a high 0)
  gives-slice (sorts.Typed (Sized kind n)) worths.NoValue low a ha = no_type (exprs.Slice a 0 (value_or low))
  gives-slice (sorts.Typed (Sized kind n)) worths.Typed low a ha = no_type (exprs.Slice a 0 (value_or low))
  gives-slice (sorts.Typed BoolType) high low a ha = no_type (exprs.Slice a (value_or high) (value_or low))
  gives-slice (sorts.Whole n) high low a ha = no_type (exprs.Slice a (value_or high) (value_or low))
  gives-slice sorts.NoValue high low a ha = no_type (exprs.Slice a (value_or high) (value_or low))
  gives-slice sorts.Untyped high low a ha = no_type (exprs.Slice a (value_or high) (value_or low))

  pub typed-slice : (high low : Worth) (a : Made) → IsTypedMade d a → IsTypedMade d (slice_made high low a)
  typed-slice high low a h =
      typed-made_of d (slice_type a.sort (whole_or high sorts.Untyped) (whole_or low sorts.Untyped)) (exprs.Slice a.tree (value_or high) (value_or low)) a.readings (gives-slice a.sort high low a.tree h.typing)

  gives-choice : (q s r : Sort) (c a b : Expr) → is_width (sort_width s) ≡ true → is_width (sort_width r) ≡ true
      → typing_of d c ≡ typed (sort_width q) → typing_of d a ≡ typed (sort_width s) → typing_of d b ≡ typed (sort_width r) → Gives d (choice_type q s r) (choice_tree s r c a b)
  gives-choice (sorts.Typed BoolType) s r c a b w x hc ha hb = by (common_type s r) refl
    where
      one : (t : ValueType) (p q : Expr) → typing_of d p ≡ typed (width_of t) → typing_of d q ≡ typed (width_of t) → typing_of d (exprs.If c p q) ≡ typed (width_of t)
      one t p q hp hq =
          typing-If d c p q
          ∙ ap (λ (y : Typing). typing_step d (Expr-F.If y (typing_of d p) (typing_of d q))) hc
          ∙ ap (λ (y : Typing). typing_step d (Expr-F.If (typed 1) y (typing_of d q))) hp
          ∙ ap (λ (y : Typing). typing_step d (Expr-F.If (typed 1) (typed (width_of t)) y)) hq
          ∙ ap (λ (y : Bool). let z : Typing = record { width = width_of t; is_typed = y } in z) (equal (width_of t))

      by : (o : Option ValueType) → common_type s r ≡ o → Gives d o (exprs.If c (placed o s a) (placed o r b))
      by None e = no_type (exprs.If c a b)
      by (Some t) e =
          let wide = common_wide s r t w x e in
          at_type t (exprs.If c (taken t s a) (taken t r b)) wide (one t (taken t s a) (taken t r b) (typing-taken d t s a wide ha) (typing-taken d t r b wide hb))
  gives-choice (sorts.Typed (Sized kind n)) s r c a b w x hc ha hb = no_type (choice_tree s r c a b)
  gives-choice (sorts.Whole n) s r c a b w x hc ha hb = no_type (choice_tree s r c a b)
  gives-choice sorts.NoValue s r c a b w x hc ha hb = no_type (choice_tree s r c a b)
  gives-choice sorts.Untyped s r c a b w x hc ha hb = no_type (choice_tree s r c a b)

  pub typed-choice : (c a b : Made) → IsTypedMade d c → IsTypedMade d a → IsTypedMade d b → IsTypedMade d (if_made c a b)
  typed-choice c a b h k l =
      typed-made_of d (choice_type c.sort a.sort b.sort) (choice_tree a.sort b.sort c.tree a.tree b.tree) ((c.readings ++ a.readings) ++ b.readings)
      (gives-choice c.sort a.sort b.sort c.tree a.tree b.tree k.wide l.wide h.typing k.typing l.typing)
