-- `check D`: the name of the architecture, and how many instructions it has.
use Rattle.std.specs.Prelude.{ℕ, List, [], ◌∷◌, codes, Option, Some, None, if◌then◌else◌}
use Rattle.std.specs.Str.{bytes_eq}
use Rattle.vg_top.specs.declared.commands.check.Check as code
use Rattle.vg_top.specs.declared.status.Status.TheVariants.{Done}
use Rattle.vg_top.specs.Answers.{Held, Answers, Only, WithFile, Plan}
use Rattle.vg_top.specs.Needs.{nothing_more}
use Rattle.vg_top.specs.Reading.{description_limit, WithDescription}
use Rattle.vg_top.specs.Reports.Check.{check_report}

-- the words of the command
pub record Check : Type 0 where
  pub description : List ℕ

unfoldable pub form : List (List ℕ) → Option Check
form (word ∷ description ∷ []) = if bytes_eq word (codes "check") then Some (record { description = description }) else None
form _ = None

-- the answers to the text of the description
abbrev pub CheckAnswers : List ℕ → Answers
CheckAnswers bytes = WithDescription bytes nothing_more (λ d. Only Done (check_report d))

abbrev pub plan : Check → Plan
plan words = record {
  names = words.description ∷ [];
  answers = λ held. WithFile held words.description description_limit CheckAnswers;
}

-- ---- between the code and the definitions

-- the words that the code has read
abbrev pub words_of : code.Check → Check
words_of check = record { description = check.description.now }
