-- Which of some rules is broken first, whatever the places at which each is broken. The places of a rule stand in the
-- order of the text.
use Rattle.std.specs.Prelude.{◌≡◌, ◌⊎◌, ⊤, ℕ, List, [], ◌∷◌, ◌++◌, Option, Some, None}
use Rattle.vg_rule.specs.declared.breach.Breach.{Breach}
use Rattle.vg_rule.specs.declared.rule.Rule.{Rule}

-- a rule at its first place, or what is broken behind it
abbrev pub breach_at : Rule → List ℕ → Option Breach → Option Breach
breach_at rule [] later = later
breach_at rule (at ∷ more) later = Some (record { rule = rule; at = at })

-- the breach of rules that are asked first, and else of those behind them
abbrev pub or_later : Option Breach → Option Breach → Option Breach
or_later None later = later
or_later (Some breach) later = Some breach

module _ (places : Rule → List ℕ) where
  -- the first of these rules that has a place, at its first place; none where all are kept
  abbrev pub first_breach : List Rule → Option Breach
  first_breach [] = None
  first_breach (rule ∷ more) = breach_at rule (places rule) (first_breach more)

  -- none of these rules is broken anywhere
  abbrev pub KeepsAll : List Rule → Type 0
  KeepsAll [] = ⊤
  KeepsAll (rule ∷ more) = (places rule ≡ []) × KeepsAll more

  -- one of these rules is broken here, it isn't broken before that place, and none of the rules before it is broken
  pub record IsFirst (rules : List Rule) (breach : Breach) : Type 0 where
    pub front : List Rule
    pub behind : List Rule
    pub more : List ℕ
    pub among : rules ≡ front ++ breach.rule ∷ behind
    pub first : places breach.rule ≡ breach.at ∷ more
    pub kept : KeepsAll front

  -- A law: all these rules are kept, or one is broken first at a place; not both, and only one.
  pub record OneAnswer (rules : List Rule) : Type 0 where
    pub some : KeepsAll rules ⊎ ((breach : Breach) × IsFirst rules breach)
    pub one : (a b : Breach) → IsFirst rules a → IsFirst rules b → a ≡ b
    pub either : (breach : Breach) → IsFirst rules breach → KeepsAll rules → ⊥

  -- A law: there is no first breach exactly where all rules are kept, and else it is exactly the one that is broken first.
  pub record AreFirst (rules : List Rule) : Type 0 where
    pub kept : first_breach rules ≡ None → KeepsAll rules
    pub keeps : KeepsAll rules → first_breach rules ≡ None
    pub broken : (breach : Breach) → first_breach rules ≡ Some breach → IsFirst rules breach
    pub breaks : (breach : Breach) → IsFirst rules breach → first_breach rules ≡ Some breach
