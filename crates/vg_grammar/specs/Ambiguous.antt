-- When lines of two instructions, or of one with different values, are written alike.
use Rattle.std.specs.Prelude.{◌≡◌, ◌⊎◌, ◌<◌, ◌≤◌, ⊤, ℕ, List}
use Rattle.vg_isa.specs.declared.isa.Parts.{Parts}
use Rattle.vg_grammar.specs.declared.fault.RulesFault.{RulesFault}
use Rattle.vg_grammar.specs.declared.fault.RulesFault.TheVariants as faults
use Rattle.vg_grammar.specs.Reading.{Reads}

-- the text reads in two different ways: as one of these two instructions, and as the other
pub record IsShared (d : Parts) (a b : ℕ) (text : List ℕ) : Type 0 where
  pub values : List ℕ
  pub others : List ℕ
  pub one : Reads d text (record { instr = a; values = values })
  pub other : Reads d text (record { instr = b; values = others })
  pub differ : (a ≡ b) → (values ≡ others) → ⊥

-- some text reads as both
abbrev pub AreAmbiguous : Parts → ℕ → ℕ → Type 0
AreAmbiguous d a b = (text : List ℕ) × IsShared d a b text

-- a pair stands before another, in the order of the description
abbrev pub ComesBefore : ℕ × ℕ → ℕ × ℕ → Type 0
ComesBefore p q = (p.0 < q.0) ⊎ ((p.0 ≡ q.0) × (p.1 < q.1))

-- no text reads in two ways
abbrev pub IsUnambiguous : Parts → Type 0
IsUnambiguous d = (a b : ℕ) → AreAmbiguous d a b → ⊥

-- the first pair that some text reads as, and such a text
pub record IsFirstAmbiguous (d : Parts) (a b : ℕ) (text : List ℕ) : Type 0 where
  pub in_order : a ≤ b
  pub shared : IsShared d a b text
  pub first : (c e : ℕ) → c ≤ e → ComesBefore (c, e) (a, b) → AreAmbiguous d c e → ⊥

-- What the reader of a description's lines answers where it makes none, beside want of memory; where it makes one, the
-- description is unambiguous.
abbrev pub IsRulesFault : Parts → RulesFault → Type 0
IsRulesFault d (faults.Ambiguous a b text) = IsFirstAmbiguous d a.0 b.0 text
IsRulesFault d faults.OutOfMemory = ⊤
