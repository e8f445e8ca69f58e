-- What is said of a command that asks for a file and goes on with its bytes, by the words of the trait `Task`: the
-- name of that file, its limit, the names behind it, and the answers to its bytes.
use Rattle.std.specs.Prelude.{◌≡◌, ◌≢◌, ℕ, ⊤, List, [], ◌∷◌, ◌++◌}
use Rattle.vg_top.specs.declared.answer.Answer as code
use Rattle.vg_top.specs.declared.next.Next.{Next}
use Rattle.vg_top.specs.declared.next.Next.TheVariants.{Ask, Answer}
use Rattle.vg_top.specs.declared.status.Status.{Status}
use Rattle.vg_top.specs.declared.status.Status.TheVariants as status
use Rattle.vg_top.specs.Answers as answers
use Rattle.vg_top.specs.Answers.{Held, Answers, WithFile}

-- the status of an answer to the bytes of files: no fault, no want of memory and no usage
abbrev pub IsOfFiles : Status → Type 0
IsOfFiles status.ReadFault = ⊥
IsOfFiles status.WriteFault = ⊥
IsOfFiles status.OutOfMemory = ⊥
IsOfFiles status.Usage = ⊥
IsOfFiles _ = ⊤

-- an answer of the code, with the names asked for
abbrev pub answer_with : List (List ℕ) → code.Answer → answers.Answer
answer_with asked answer = record { asked = asked; status = answer.status; text = answer.text.items }

-- an answer with names in front of those that it asks for
abbrev pub behind_names : List (List ℕ) → answers.Answer → answers.Answer
behind_names names answer = record answer { asked = names ++ answer.asked }

module _ {T : Type 0} (name : T → List ℕ) (limit : T → ℕ) (more : T → List (List ℕ)) (behind : T → Held → List ℕ → Answers) where
  -- the answers of a task
  abbrev pub TaskAnswers : T → Held → Answers
  TaskAnswers task held = WithFile held (name task) (limit task) (behind task held)

  -- each answer of the next task is right, or this answer is
  abbrev pub GoesOn : (Held → Answers) → Next T → Type 0
  GoesOn right (Ask task) = (held : Held) (answer : answers.Answer) → TaskAnswers task held answer → right held answer
  GoesOn right (Answer answer) = (held : Held) → right held (answer_with [] answer)

  -- the next task asks for the names that are left; an answer leaves none, where it is no refusal
  abbrev pub NamesLeft : List (List ℕ) → Next T → Type 0
  NamesLeft names (Ask task) = names ≡ name task ∷ more task
  NamesLeft names (Answer answer) = answer.status ≢ status.Refused → names ≡ []

-- an answer is one to the bytes of files
abbrev pub AnswersFiles : {T : Type 0} → Next T → Type 0
AnswersFiles (Ask task) = ⊤
AnswersFiles (Answer answer) = IsOfFiles answer.status
