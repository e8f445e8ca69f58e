-- The one line of a refusal, and the line of usage.
use Rattle.std.specs.Prelude.{ℕ, ◌∷◌, ◌++◌, List, [], codes, decimal}
use Rattle.vg_rule.specs.declared.rule.Rule.{Rule}
use Rattle.vg_rule.specs.Rule.{number_of, name_of}

abbrev pub refusal_line : List ℕ → List ℕ
refusal_line why = codes "refused: " ++ why ++ 10 ∷ []

-- a file has more bytes than its limit
abbrev pub too_long : List ℕ → List ℕ
too_long name = refusal_line (codes "too long " ++ name)

-- a line and a column
abbrev pub place : ℕ × ℕ → List ℕ
place at = decimal at.0 ++ codes ":" ++ decimal at.1

-- a rule of descriptions that is broken at a line and column
abbrev pub rule_broken : Rule → ℕ × ℕ → List ℕ
rule_broken rule at = refusal_line (codes "description " ++ decimal (number_of rule) ++ codes " " ++ name_of rule ++ codes " at " ++ place at)

-- a construct at a line and column that isn't built yet
abbrev pub not_built : ℕ × ℕ → List ℕ
not_built at = refusal_line (codes "not built at " ++ place at)

-- an image's text leaves the spellings at a line
abbrev pub image_refused : ℕ → List ℕ
image_refused line = refusal_line (codes "image line " ++ decimal line)

unfoldable pub usage_line : List ℕ
usage_line = codes "usage: vadlgen check|asm|dis|compile|exec|run|pipe|pipeir|debug|gen .." ++ 10 ∷ []
