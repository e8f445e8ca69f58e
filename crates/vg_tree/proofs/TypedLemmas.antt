-- Trees that stand for expressions have the widths of their types.
use Rattle.std.proofs.Common.{◌≡◌, ℕ, ◌%◌, ◌^◌, ◌<◌, Bool, true, false, ◌&&◌, nat_eq, nat_lt, List, Option, Some, None, refl, sym, ap, ◌∙◌, arith, if◌then◌else◌}
use Rattle.std.proofs.lemmas.Bool.Decides.{nat_tests}
use Rattle.std.proofs.lemmas.Nat.{pow_pos}
use Rattle.vg_isa.specs.declared.isa.Parts.{Parts}
use Rattle.vg_isa.specs.declared.expr.Expr.{Expr}
use Rattle.vg_isa.specs.declared.expr.Expr.TheVariants as exprs
use Rattle.vg_isa.specs.Typing.{Typing, typing_of}
use Rattle.vg_isa.proofs.TypingLemmas.{typing-Const}
use Rattle.vg_type.specs.declared.value_type.ValueType.{ValueType}
use Rattle.vg_type.specs.declared.value_type.ValueType.TheVariants.{Sized, Bool as BoolType}
use Rattle.vg_type.specs.declared.sort.Sort.{Sort}
use Rattle.vg_type.specs.declared.sort.Sort.TheVariants as sorts
use Rattle.vg_type.specs.ValueType.{is_width, width_of, same_kind, same_type}
use Rattle.vg_tree.specs.declared.reading.Reading.{Reading}
use Rattle.vg_tree.specs.Made.{no_tree, constant, taken, made_of}
use Rattle.vg_tree.specs.TypedMade.{typed, IsTreeOf, sort_width, IsTypedMade}

pub some_equal : {A : Type 0} (a b : A) → Some a ≡ Some b → a ≡ b
some_equal a b h = cc

pub both_true : (a b : Bool) → (a && b) ≡ true → (a ≡ true) × (b ≡ true)
both_true true true h = (refl, refl)
both_true true false h = absurd (cc)
both_true false b h = absurd (cc)

-- types that are equal have one width
pub same_width : (t u : ValueType) → same_type t u ≡ true → width_of t ≡ width_of u
same_width (Sized k m) (Sized l n) h = by (both_true (same_kind k l) (nat_eq m n) h).1
  where
    by : nat_eq m n ≡ true → m ≡ n
    by e = grind (arith, nat_tests, e)
same_width BoolType BoolType h = refl
same_width (Sized k m) BoolType h = absurd (cc)
same_width BoolType (Sized k m) h = absurd (cc)

module _ (d : Parts) where
  pub typing-no_tree : typing_of d no_tree ≡ typed 128
  typing-no_tree = typing-Const d (record { width = 128; number = 0 })

  const_typed : (w n : ℕ) (b : Bool) → nat_lt n (2 ^ w) ≡ b → b ≡ true → is_width w ≡ true → typing_of d (exprs.Const (record { width = w; number = n })) ≡ typed w
  const_typed w n b f t h =
      typing-Const d (record { width = w; number = n })
      ∙ ap (λ (x : Bool). let y : Typing = record { width = w; is_typed = x && nat_lt n (2 ^ w) } in y) h
      ∙ ap (λ (x : Bool). let y : Typing = record { width = w; is_typed = x } in y) (f ∙ t)

  rest_below : (n m : ℕ) → 0 < m → nat_lt (n % m) m ≡ true
  rest_below n m h = grind (arith, nat_tests, h)

  pub typing-constant : (w n : ℕ) → is_width w ≡ true → typing_of d (constant w n) ≡ typed w
  unfolding constant
  typing-constant w n h =
      ap (λ (b : Bool). typing_of d (if b then exprs.Const (record { width = w; number = n % 2 ^ w }) else no_tree)) h
      ∙ const_typed w (n % 2 ^ w) (nat_lt (n % 2 ^ w) (2 ^ w)) refl (rest_below n (2 ^ w) (pow_pos w)) h

  pub typing-taken : (t : ValueType) (sort : Sort) (e : Expr) → is_width (width_of t) ≡ true → typing_of d e ≡ typed (sort_width sort) → typing_of d (taken t sort e) ≡ typed (width_of t)
  typing-taken t (sorts.Typed u) e w h = by (same_type t u) refl
    where
      by : (b : Bool) → same_type t u ≡ b → typing_of d (if b then e else constant (width_of t) 0) ≡ typed (width_of t)
      by true s = h ∙ ap typed (sym (same_width t u s))
      by false s = typing-constant (width_of t) 0 w
  typing-taken t (sorts.Whole n) e w h = typing-constant (width_of t) n w
  typing-taken t sorts.NoValue e w h = typing-constant (width_of t) 0 w
  typing-taken t sorts.Untyped e w h = typing-constant (width_of t) 0 w

  -- what has a type has a tree of it
  abbrev pub Gives : Option ValueType → Expr → Type 0
  Gives t e = (u : ValueType) → t ≡ Some u → IsTreeOf d u e

  pub typed-made_of : (t : Option ValueType) (e : Expr) (readings : List Reading) → Gives t e → IsTypedMade d (made_of t e readings)
  typed-made_of None e readings g = record { wide = refl; typing = typing-no_tree }
  typed-made_of (Some u) e readings g = record { wide = (g u refl).wide; typing = (g u refl).typing }
