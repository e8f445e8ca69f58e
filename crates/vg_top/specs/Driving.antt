-- What is said of functions that load files and make an answer, before anything is written.
use Rattle.std.specs.Prelude.{◌≡◌, ℕ, ◌≢◌, ◌<◌, ◌≤◌, ◌⊎◌, ⊤, List, [], ◌∷◌, ◌++◌, length, Option, Some, None, Result, Ok, Err, IfOk, IfSome, Vec}
use Rattle.std.specs.declared.alloc.AllocError.{AllocError}
use Rattle.std.specs.declared.alloc.Global.{Global}
use Rattle.vg_io.specs.Count.{one_more}
use Rattle.vg_top.specs.declared.answer.Answer.{Answer}
use Rattle.vg_top.specs.declared.next.Next.{Next}
use Rattle.vg_top.specs.declared.next.Next.TheVariants as next
use Rattle.vg_top.specs.declared.loading.Loaded.{Loaded}
use Rattle.vg_top.specs.declared.loading.Loaded.TheVariants as loaded
use Rattle.vg_top.specs.declared.status.Status.{Status}
use Rattle.vg_top.specs.declared.status.Status.TheVariants as status
use Rattle.vg_top.specs.Answers.{Held, Answers}
use Rattle.vg_top.specs.Answers as answers
use Rattle.vg_top.specs.Tasks.{IsOfFiles, TaskAnswers, answer_with, behind_names}
use Rattle.vg_top.specs.Theorem.{StopsLoading}

-- ---- one load

-- the bytes of a file that is held, or that it has more than the limit; of a load that failed nothing is known
abbrev pub IsWithin : Option (List ℕ) → ℕ → Loaded → Type 0
IsWithin told limit loaded.Failed = ⊤
IsWithin None limit loaded.TooLong = ⊥
IsWithin (Some bytes) limit loaded.TooLong = limit < length bytes
IsWithin None limit (loaded.Text text) = ⊥
IsWithin (Some bytes) limit (loaded.Text text) = (text.items ≡ bytes) × (length bytes ≤ limit)

-- bytes that were loaded are at most so many
abbrev pub FitsLimit : ℕ → Loaded → Type 0
FitsLimit limit (loaded.Text text) = length text.items ≤ limit
FitsLimit limit _ = ⊤

-- a load that failed was counted once, and no other; one without memory may be
abbrev pub CountsLoaded : Result Loaded AllocError → ℕ → ℕ → Type 0
CountsLoaded (Ok loaded.Failed) before now = now ≡ one_more before
CountsLoaded (Ok loaded.TooLong) before now = now ≡ before
CountsLoaded (Ok (loaded.Text text)) before now = now ≡ before
CountsLoaded (Err e) before now = (now ≡ before) ⊎ (now ≡ one_more before)

-- the name is asked for; where no memory is left it may not be
abbrev pub AsksFor : {T : Type 0} → Result T AllocError → List ℕ → List (List ℕ) → List (List ℕ) → Type 0
AsksFor (Ok _) name before now = now ≡ before ++ name ∷ []
AsksFor (Err e) name before now = (now ≡ before ++ name ∷ []) ⊎ (now ≡ before)

-- ---- answers

-- the status that stands for an outcome
abbrev pub status_of : Result Answer AllocError → Status
status_of (Ok answer) = answer.status
status_of (Err e) = status.OutOfMemory

-- Where the files tell their bytes, the answer is one of these, with the files that were asked for.
abbrev pub AnswersLoads : Option Held → List (List ℕ) → List (List ℕ) → Result Answer AllocError → (Held → Answers) → Type 0
AnswersLoads told before now result right =
    IfOk result (λ answer. IfSome told (λ held. (asked : List (List ℕ)) × (now ≡ before ++ asked) × right held (answer_with asked answer)))

-- the status of an answer to files, or of a load that failed, with which nothing is written
abbrev pub IsReply : Status → List ℕ → Type 0
IsReply status.ReadFault text = text ≡ []
IsReply other text = IsOfFiles other

-- the status of any answer
abbrev pub IsFinal : Status → List ℕ → Type 0
IsFinal status.ReadFault text = text ≡ []
IsFinal status.WriteFault text = ⊥
IsFinal status.OutOfMemory text = ⊥
IsFinal _ text = ⊤

-- what a step leaves in the count of failed loads
abbrev pub StopsStep : {T : Type 0} → Result (Next T) AllocError → ℕ → ℕ → Type 0
StopsStep (Ok (next.Ask task)) before now = now ≡ before
StopsStep (Ok (next.Answer answer)) before now = StopsLoading answer.status before now
StopsStep (Err e) before now = StopsLoading status.OutOfMemory before now

-- a step goes on, or has answered files, or that a load failed
abbrev pub Replies : {T : Type 0} → Next T → Type 0
Replies (next.Ask task) = ⊤
Replies (next.Answer answer) = IsReply answer.status answer.text.items

module _ {T : Type 0} (name : T → List ℕ) (limit : T → ℕ) (more : T → List (List ℕ)) (behind : T → Held → List ℕ → Answers) where
  -- behind the file of a task: each answer of the next task is right, or this answer is
  abbrev pub StepsOn : T → Held → Next T → Type 0
  StepsOn task held (next.Ask other) =
      (answer : answers.Answer) → TaskAnswers name limit more behind other held answer → TaskAnswers name limit more behind task held (behind_names (name task ∷ []) answer)
  StepsOn task held (next.Answer answer) = TaskAnswers name limit more behind task held (answer_with (name task ∷ []) answer)

  -- the next task asks for the names that are left; an answer leaves none, where no file was refused or not loaded
  abbrev pub LeavesNames : List (List ℕ) → Next T → Type 0
  LeavesNames names (next.Ask task) = names ≡ name task ∷ more task
  LeavesNames names (next.Answer answer) = answer.status ≢ status.Refused → answer.status ≢ status.ReadFault → names ≡ []
