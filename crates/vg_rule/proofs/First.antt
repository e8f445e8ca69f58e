-- All rules are kept, or one is broken first.
use Rattle.std.proofs.Common.{◌≡◌, ◌⊎◌, inl, inr, ℕ, List, [], ◌∷◌, ◌++◌, Option, Some, None, refl, ap, subst, ◌∙◌}
use Rattle.vg_rule.specs.declared.breach.Breach.{Breach}
use Rattle.vg_rule.specs.declared.rule.Rule.{Rule}
use Rattle.vg_rule.specs.Breach.{breach_at, first_breach, KeepsAll, IsFirst, OneAnswer, AreFirst}
use Rattle.vg_rule.proofs.Asking.{broken_here, kept_here}

some_or_none : {A : Type 0} {o : Option A} (x : A) → o ≡ None → o ≡ Some x → ⊥
some_or_none x none some = absurd (cc)

some_once : {A : Type 0} {o : Option A} (x y : A) → o ≡ Some x → o ≡ Some y → x ≡ y
some_once x y a b = cc

module _ (places : Rule → List ℕ) where
  kept : (rules : List Rule) → first_breach places rules ≡ None → KeepsAll places rules
  kept [] e = tt
  kept (rule ∷ more) e = by (places rule) refl e (kept more)
    where
      by : (l : List ℕ) → places rule ≡ l → breach_at rule l (first_breach places more) ≡ None → (first_breach places more ≡ None → KeepsAll places more) → KeepsAll places (rule ∷ more)
      by [] at e again = (at, again e)
      by (n ∷ others) at e again = absurd (cc)

  keeps : (rules : List Rule) → KeepsAll places rules → first_breach places rules ≡ None
  keeps [] h = refl
  keeps (rule ∷ more) h = kept_here places rule more h.0 ∙ keeps more h.1

  behind_kept : (rule : Rule) (more : List Rule) (breach : Breach) → places rule ≡ [] → IsFirst places more breach → IsFirst places (rule ∷ more) breach
  behind_kept rule more breach none is = record {
    front = rule ∷ is.front;
    behind = is.behind;
    more = is.more;
    among = ap (λ (l : List Rule). rule ∷ l) is.among;
    first = is.first;
    kept = (none, is.kept);
  }

  at_once : (rule : Rule) (more : List Rule) (at : ℕ) (others : List ℕ) → places rule ≡ at ∷ others → IsFirst places (rule ∷ more) (record { rule = rule; at = at })
  at_once rule more at others e = record { front = []; behind = more; more = others; among = refl; first = e; kept = tt }

  broken : (rules : List Rule) (breach : Breach) → first_breach places rules ≡ Some breach → IsFirst places rules breach
  broken [] breach e = absurd (cc)
  broken (rule ∷ more) breach e = by (places rule) refl e (broken more breach)
    where
      some_same : {a b : Breach} → Some a ≡ Some b → a ≡ b
      some_same h = cc

      by : (l : List ℕ) → places rule ≡ l → breach_at rule l (first_breach places more) ≡ Some breach → (first_breach places more ≡ Some breach → IsFirst places more breach) → IsFirst places (rule ∷ more) breach
      by [] at e again = behind_kept rule more breach at (again e)
      by (n ∷ others) at e again = subst (IsFirst places (rule ∷ more)) (some_same e) (at_once rule more n others at)

  behind : (front rest : List Rule) → KeepsAll places front → first_breach places (front ++ rest) ≡ first_breach places rest
  behind [] rest h = refl
  behind (rule ∷ front) rest h = kept_here places rule (front ++ rest) h.0 ∙ behind front rest h.1

  breaks : (rules : List Rule) (breach : Breach) → IsFirst places rules breach → first_breach places rules ≡ Some breach
  breaks rules breach is =
      ap (first_breach places) is.among ∙ behind is.front (breach.rule ∷ is.behind) is.kept ∙ broken_here places breach.rule is.behind breach.at is.more is.first

  pub are_first : (rules : List Rule) → AreFirst places rules
  are_first rules = record { kept = kept rules; keeps = keeps rules; broken = broken rules; breaks = breaks rules }

  pub one_answer : (rules : List Rule) → OneAnswer places rules
  one_answer rules = record { some = by (first_breach places rules) refl; one = once; either = not_both }
    where
      by : (o : Option Breach) → first_breach places rules ≡ o → KeepsAll places rules ⊎ ((breach : Breach) × IsFirst places rules breach)
      by None e = inl (kept rules e)
      by (Some breach) e = inr (breach, broken rules breach e)

      once : (a b : Breach) → IsFirst places rules a → IsFirst places rules b → a ≡ b
      once a b x y = some_once a b (breaks rules a x) (breaks rules b y)

      not_both : (breach : Breach) → IsFirst places rules breach → KeepsAll places rules → ⊥
      not_both breach is h = some_or_none breach (keeps rules h) (breaks rules breach is)
