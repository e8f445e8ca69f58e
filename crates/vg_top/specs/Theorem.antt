-- The theorem of the program's one call: what it writes, which files it asks for, and why it ends as it does.
use Rattle.std.specs.Prelude.{◌≡◌, ◌≢◌, ℕ, ◌≤◌, ◌⊎◌, ⊤, false, List, [], ◌++◌, take, IfSome}
use Rattle.vg_io.specs.Count.{one_more, Rose}
use Rattle.vg_io.specs.Putting.{NoneCounted, OneCounted}
use Rattle.vg_io.specs.Sink.{append_known}
use Rattle.vg_top.specs.declared.status.Status.{Status}
use Rattle.vg_top.specs.declared.status.Status.TheVariants as status
use Rattle.vg_top.specs.Answers.{Answer}
use Rattle.vg_top.specs.Change.{OutputTold, Change}
use Rattle.vg_top.specs.Commands.{asked_by, is_form, names_in, IsAnswer}
use Rattle.vg_top.specs.Refusal.{usage_line}

-- ---- what is written

-- the writing was cut short
abbrev pub IsCut : Status → Type 0
IsCut status.WriteFault = ⊤
IsCut status.OutOfMemory = ⊤
IsCut _ = ⊥

-- The text of an answer is written whole, and the status is the answer's; or the writing was cut short, and a
-- prefix of the text is written.
abbrev pub Writes : Status → List ℕ → Status → OutputTold → OutputTold → Type 0
Writes wanted text result before after =
    ((result ≡ wanted) × (after.written ≡ append_known before.written text))
    ⊎ (IsCut result × ((n : ℕ) × (after.written ≡ append_known before.written (take n text))))

-- An answer to the words is written, with the files that were asked for; where it is that a load failed, the status is
-- its own. Or no memory was left to make one, and nothing is written.
abbrev pub IsAnswered : List (List ℕ) → Change → Status → Type 0
IsAnswered words c result =
    IfSome c.files.held (λ held.
    ((answer : Answer) × IsAnswer held words answer × (c.files_after.asked ≡ c.files.asked ++ answer.asked)
    × (answer.status ≡ status.ReadFault → result ≡ status.ReadFault) × Writes answer.status answer.text result c.output c.output_after)
    ⊎ ((result ≡ status.OutOfMemory) × (c.output_after.written ≡ c.output.written)))

-- a put has failed, or taken nothing
abbrev pub HasPutFailed : Change → Type 0
HasPutFailed c = Rose c.output.faults c.output_after.faults ⊎ Rose c.output.nones c.output_after.nones

-- Where no put failed and none took nothing: the whole text of an answer to the words is written with its status, or no
-- memory was left.
abbrev pub IsComplete : List (List ℕ) → Change → Status → Type 0
IsComplete words c result =
    IfSome c.files.held (λ held. ¬ HasPutFailed c → result ≢ status.OutOfMemory →
    (answer : Answer) × IsAnswer held words answer × (c.files_after.asked ≡ c.files.asked ++ answer.asked)
    × (answer.status ≡ result) × (c.output_after.written ≡ append_known c.output.written answer.text))

-- ---- which files are asked for, and what fails

-- Which of the names are asked for under a status, and which are left: all where the status is that of a report; and
-- one at least, where there are any, behind a refusal, a fault of writing, and a load that failed.
abbrev pub AsksUnder : List (List ℕ) → List (List ℕ) → Status → Type 0
AsksUnder asked left status.ReadFault = asked ≢ []
AsksUnder asked left status.WriteFault = asked ≡ [] → left ≡ []
AsksUnder asked left status.OutOfMemory = ⊤
AsksUnder asked left status.Refused = asked ≡ [] → left ≡ []
AsksUnder asked left _ = left ≡ []

-- a prefix of the names is asked for, each once and in their order
abbrev pub AsksForNames : List (List ℕ) → List (List ℕ) → List (List ℕ) → Status → Type 0
AsksForNames names before after result =
    (asked left : List (List ℕ)) × (names ≡ asked ++ left) × (after ≡ before ++ asked) × AsksUnder asked left result

-- With a read fault exactly one load failed, and with every other status none did, but that a load without memory may
-- be counted. (The files' count before, and then that after.)
abbrev pub StopsLoading : Status → ℕ → ℕ → Type 0
StopsLoading status.ReadFault before after = after ≡ one_more before
StopsLoading status.OutOfMemory before after = (after ≡ before) ⊎ (after ≡ one_more before)
StopsLoading _ before after = after ≡ before

-- With a write fault exactly one put failed or took nothing, and with every other status none did. (The output's
-- counts of both before, and then those after.)
abbrev pub StopsPutting : Status → ℕ → ℕ → ℕ → ℕ → Type 0
StopsPutting status.WriteFault faults nones faults' nones' = OneCounted faults nones faults' nones'
StopsPutting _ faults nones faults' nones' = NoneCounted faults nones faults' nones'

-- ---- the theorem

-- what a call with these words changes, and its status
pub record Meets (words : List (List ℕ)) (c : Change) (result : Status) : Type 0 where
  -- where the files tell their bytes, what is written answers the words
  pub answered : IsAnswered words c result
  -- and it is written whole where nothing failed
  pub complete : IsComplete words c result
  -- the files that are asked for are those that the words name, whatever the files tell
  pub asked : AsksForNames (names_in (asked_by words)) c.files.asked c.files_after.asked result
  -- usage is written exactly where the words are in no form
  pub no_form : is_form (asked_by words) ≡ false → Writes status.Usage usage_line result c.output c.output_after
  pub usage : result ≡ status.Usage → is_form (asked_by words) ≡ false
  -- the first load that fails ends the call, and then nothing is written
  pub load_at_once : StopsLoading result c.files.faults c.files_after.faults
  pub read : result ≡ status.ReadFault → c.output_after.written ≡ c.output.written
  -- the first put that fails or takes nothing ends the call
  pub put_at_once : StopsPutting result c.output.faults c.output.nones c.output_after.faults c.output_after.nones
  -- the counts never fall, and the files stay
  pub kept_loads : c.files.faults ≤ c.files_after.faults
  pub kept_faults : c.output.faults ≤ c.output_after.faults
  pub kept_nones : c.output.nones ≤ c.output_after.nones
  pub same : c.files_after.held ≡ c.files.held
