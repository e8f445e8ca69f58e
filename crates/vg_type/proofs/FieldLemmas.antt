-- The bits of ranges, added up one range after the other.
use Rattle.std.proofs.Common.{◌≡◌, ℕ, suc, ◌+◌, ◌-◌, ◌<◌, ◌≤◌, Bool, true, false, nat_le, List, length, drop, get_or, add-one, drop-cons, Option, Some, None, refl, ap, sym, ◌∙◌, arith, if◌then◌else◌}
use Rattle.std.proofs.lemmas.Bool.Decides.{nat_tests}
use Rattle.vg_ast.specs.declared.range.Range.{Range}
use Rattle.vg_whole.specs.declared.worth.Worth.{Worth}
use Rattle.vg_whole.specs.declared.worth.Worth.TheVariants as worths
use Rattle.vg_whole.specs.Whole.{Constants}
use Rattle.vg_ast.specs.declared.type_expr.BitsKind.TheVariants as kinds
use Rattle.vg_type.specs.declared.value_type.ValueType.TheVariants.{Sized}
use Rattle.vg_type.specs.ValueType.{is_width, bits_type}
use Rattle.vg_type.specs.Scope.{high_of, low_of, bits_between, bits_named, bits_of, sum_with}
use Rattle.vg_type.specs.Fields.{distance, bits_with}

one_more : (a b d : ℕ) (t : Bool) → nat_le b a ≡ t → (if t then a - b else b - a) ≡ d → (if t then a + 1 - b else b + 1 - a) ≡ d + 1
one_more a b d true h e = grind (arith, nat_tests, h, e)
one_more a b d false h e = grind (arith, nat_tests, h, e)

some_is : (a b : ℕ) → Some a ≡ Some b → a ≡ b
some_is a b e = cc

none_is : {X : Type 0} (d : ℕ) → None ≡ Some d → X
none_is d e = absurd (cc)

between_of : (h l : Worth) (d : ℕ) → distance h l ≡ Some d → bits_between h l ≡ Some (d + 1)
between_of (worths.Whole a) (worths.Whole b) d e = ap (λ (n : ℕ). Some n) (one_more a b d (nat_le b a) refl (some_is (if nat_le b a then a - b else b - a) d e))
between_of (worths.Whole a) worths.NoValue d e = none_is d e
between_of (worths.Whole a) worths.Typed d e = none_is d e
between_of worths.NoValue l d e = none_is d e
between_of worths.Typed l d e = none_is d e

added : (n d : ℕ) (rest : Option ℕ) → bits_of (sum_with (Some n) (sum_with (Some (d + 1)) rest)) ≡ bits_of (sum_with (Some (n + d + 1)) rest)
added n d None = refl
added n d (Some m) =
    let e : n + (d + 1 + m) ≡ n + d + 1 + m = omega arith in
    ap bits_type e

no_more : (rest : Option ℕ) → bits_of (sum_with (Some 0) rest) ≡ bits_of rest
no_more None = refl
no_more (Some m) =
    let e : 0 + m ≡ m = omega arith in
    ap bits_type e

pub from_nothing : (constants : Constants) (ranges : List Range) → bits_with constants 0 ranges ≡ bits_of (bits_named constants ranges)
from_nothing constants ranges = no_more (bits_named constants ranges)

wide : (n : ℕ) → 128 < n → is_width n ≡ false
wide n h = grind (arith, nat_tests, h)

no_type : (n : ℕ) → 128 < n → bits_type n ≡ None
no_type n h = ap (λ (t : Bool). if t then Some (Sized kinds.Bits n) else None) (wide n h)

overfull : (n d : ℕ) (rest : Option ℕ) → 128 ≤ n + d → bits_of (sum_with (Some n) (sum_with (Some (d + 1)) rest)) ≡ None
overfull n d None h = refl
overfull n d (Some m) h = no_type (n + (d + 1 + m)) (omega (arith, h))

module _ (constants : Constants) (xs : List Range) (k n : ℕ) (x : Range) (within : k < length xs) (is : x ≡ get_or xs k x) (d : ℕ) (e : distance (high_of constants x) (low_of constants x) ≡ Some d) where
  from_here : bits_with constants n (drop k xs) ≡ bits_of (sum_with (Some n) (sum_with (Some (d + 1)) (bits_named constants (drop (k + 1) xs))))
  from_here =
      ap (bits_with constants n) (drop-cons xs k x within)
      ∙ ap (λ (y : Range). bits_of (sum_with (Some n) (sum_with (bits_between (high_of constants y) (low_of constants y)) (bits_named constants (drop (suc k) xs))))) (sym is)
      ∙ ap (λ (i : ℕ). bits_of (sum_with (Some n) (sum_with (bits_between (high_of constants x) (low_of constants x)) (bits_named constants (drop i xs))))) (sym (add-one k))
      ∙ ap (λ (o : Option ℕ). bits_of (sum_with (Some n) (sum_with o (bits_named constants (drop (k + 1) xs))))) (between_of (high_of constants x) (low_of constants x) d e)

  pub goes_on : bits_with constants n (drop k xs) ≡ bits_with constants (n + d + 1) (drop (k + 1) xs)
  goes_on = from_here ∙ added n d (bits_named constants (drop (k + 1) xs))

  pub too_many : 128 ≤ n + d → bits_with constants n (drop k xs) ≡ None
  too_many h = from_here ∙ overfull n d (bits_named constants (drop (k + 1) xs)) h
