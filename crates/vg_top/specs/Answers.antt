-- Answers: which files are asked for, the status, and what is written; and how an answer goes on with files.
use Rattle.std.specs.Prelude.{◌≡◌, ℕ, ◌⊎◌, nat_lt, List, [], ◌∷◌, length, Option, Some, None}
use Rattle.std.specs.Bool.{MatchBool}
use Rattle.vg_top.specs.declared.status.Status.{Status}
use Rattle.vg_top.specs.declared.status.Status.TheVariants.{Refused, ReadFault}
use Rattle.vg_top.specs.Refusal.{too_long}

-- the files by name
abbrev pub Held : Type 0
Held = List ℕ → Option (List ℕ)

-- an answer: the names of the files that are asked for, in order, the status, and the whole text that is written
pub record Answer : Type 0 where
  pub asked : List (List ℕ)
  pub status : Status
  pub text : List ℕ

-- which answers are right
abbrev pub Answers : Type 1
Answers = Answer → Type 0

-- the one answer of this status and text, which asks for no further file
abbrev pub Only : Status → List ℕ → Answers
Only status text answer = (answer.asked ≡ []) × (answer.status ≡ status) × (answer.text ≡ text)

abbrev pub Refuses : List ℕ → Answers
Refuses line = Only Refused line

-- the answer where the file of this name couldn't be loaded: nothing is written, and no further file is asked for
abbrev pub Unread : List ℕ → Answers
Unread name answer = (answer.asked ≡ name ∷ []) × (answer.status ≡ ReadFault) × (answer.text ≡ [])

-- A file that is held is refused where it has more bytes than its limit; with the bytes of any other the answer
-- goes on.
abbrev pub WithBytes : List ℕ → ℕ → Option (List ℕ) → (List ℕ → Answers) → Answers
WithBytes name limit None next answer = ⊥
WithBytes name limit (Some bytes) next answer = MatchBool (nat_lt limit (length bytes)) (Refuses (too_long name) answer) (next bytes answer)

-- The file of this name is asked for. Its load fails, or the answer goes on with its bytes, and may ask for more
-- files. The load of a name that isn't held always fails.
abbrev pub WithFile : Held → List ℕ → ℕ → (List ℕ → Answers) → Answers
WithFile held name limit next answer =
    Unread name answer
    ⊎ ((more : List (List ℕ)) × (answer.asked ≡ name ∷ more) × WithBytes name limit (held name) next (record answer { asked = more }))

-- what a command does: the names of the files that it may ask for, in order, and the answers that are right
pub record Plan : Type 1 where
  pub names : List (List ℕ)
  pub answers : Held → Answers
