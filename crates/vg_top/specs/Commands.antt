-- The list of commands.
pub mod Check
pub mod Run
use Rattle.std.specs.Prelude.{ℕ, List, [], Option, Some, None, Bool, true, false}
use Rattle.vg_top.specs.declared.status.Status.TheVariants.{Usage}
use Rattle.vg_top.specs.Answers.{Held, Answers, Only, Plan}
use Rattle.vg_top.specs.Refusal.{usage_line}
use Rattle.vg_top.specs.Commands.Check as check
use Rattle.vg_top.specs.Commands.Run as run

-- the plan that words stand for, or that they are in no form
pub data Asked : Type 1 where
  NoForm : Asked
  Form : Plan → Asked

-- the plan of a command where the words are in its form, and else what the commands behind it say
abbrev pub command : {A : Type 0} → (A → Plan) → Option A → Asked → Asked
command plan None others = others
command plan (Some words) others = Form (plan words)

-- what the words of a command line ask for
abbrev pub asked_by : List (List ℕ) → Asked
asked_by words =
    command check.plan (check.form words)
    (command run.plan (run.form words)
    NoForm)

-- ---- what is asked for

-- the words are in a form
abbrev pub is_form : Asked → Bool
is_form NoForm = false
is_form (Form plan) = true

-- the names of the files that may be asked for
abbrev pub names_in : Asked → List (List ℕ)
names_in NoForm = []
names_in (Form plan) = plan.names

-- the answers that are right; words in no form are answered by the line of usage
abbrev pub answers_in : Asked → Held → Answers
answers_in NoForm held = Only Usage usage_line
answers_in (Form plan) held = plan.answers held

-- This is an answer to these words, where the files are these.
abbrev pub IsAnswer : Held → List (List ℕ) → Answers
IsAnswer held words = answers_in (asked_by words) held
