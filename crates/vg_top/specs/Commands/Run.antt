-- `run D I N`: the report of the run of an image for at most N steps. The description is read before the image is
-- asked for.
use Rattle.std.specs.Prelude.{ℕ, ◌+◌, Bool, ◌&&◌, nat_eq, List, [], ◌∷◌, codes, length, Option, Some, None, if◌then◌else◌}
use Rattle.std.specs.Bool.{MatchBool}
use Rattle.std.specs.Option.{option_map}
use Rattle.std.specs.Str.{bytes_eq}
use Rattle.vg_isa.specs.declared.isa.Parts.{Parts}
use Rattle.vg_image.specs.declared.image.Image.{Image}
use Rattle.vg_image.specs.State.{first_state}
use Rattle.vg_image.specs.Run.{run_of}
use Rattle.vg_top.specs.declared.commands.run.RunWords.{RunWords}
use Rattle.vg_top.specs.declared.commands.run.Run as code
use Rattle.vg_top.specs.declared.commands.run.Run.TheVariants as stage
use Rattle.vg_top.specs.Answers.{Held, Answers, Only, Refuses, WithFile, Plan}
use Rattle.vg_top.specs.Needs.{nothing_more}
use Rattle.vg_top.specs.Number.{number_up_to, most_steps}
use Rattle.vg_top.specs.Reading.{description_limit, image_limit, WithDescription, WithImage}
use Rattle.vg_top.specs.Refusal.{not_built}
use Rattle.vg_top.specs.Reports.Run.{run_report, run_status}

-- the words of the command
pub record Run : Type 0 where
  pub description : List ℕ
  pub image : List ℕ
  pub bound : ℕ

unfoldable pub form : List (List ℕ) → Option Run
form (word ∷ description ∷ image ∷ bound ∷ []) =
    if bytes_eq word (codes "run")
    then option_map (λ (n : ℕ). record { description = description; image = image; bound = n }) (number_up_to most_steps bound)
    else None
form _ = None

-- the report of the run of an image for at most so many steps, from the first state
abbrev pub Reports : Parts → Image → ℕ → Answers
Reports d i bound =
    let r = run_of d i bound (first_state d i) in
    Only (run_status r.ending) (run_report d i r)

-- An image without data and symbols is run. Another isn't built, at its first line of these: six lines stand before it,
-- and one for each code word.
abbrev pub is_bare : Image → Bool
is_bare i = nat_eq (length i.bytes) 0 && nat_eq (length i.symbols) 0

abbrev pub unbuilt_line : Image → ℕ
unbuilt_line i = length i.code + 7

-- the answers to an image
abbrev pub BareReports : Parts → ℕ → Image → Answers
BareReports d bound i answer = MatchBool (is_bare i) (Reports d i bound answer) (Refuses (not_built (unbuilt_line i, 1)) answer)

-- the answers to the text of the image
abbrev pub ImageAnswers : Parts → ℕ → List ℕ → Answers
ImageAnswers d bound bytes = WithImage d bytes (BareReports d bound)

-- the answers to the text of the description
abbrev pub RunAnswers : Run → Held → List ℕ → Answers
RunAnswers words held bytes = WithDescription bytes nothing_more (λ d. WithFile held words.image image_limit (ImageAnswers d words.bound))

abbrev pub plan : Run → Plan
plan words = record {
  names = words.description ∷ words.image ∷ [];
  answers = λ held. WithFile held words.description description_limit (RunAnswers words held);
}

-- ---- between the code and the definitions

-- the words that the code has read
abbrev pub words_of : RunWords → Run
words_of words = record { description = words.description.now; image = words.image.now; bound = words.bound }

-- the file that a stage asks for
abbrev pub name_at : code.Run → List ℕ
name_at (stage.Begun words) = words.description.now
name_at (stage.Described words processor) = words.image.now

-- and the most bytes that it may have
abbrev pub limit_at : code.Run → ℕ
limit_at (stage.Begun words) = description_limit
limit_at (stage.Described words processor) = image_limit

-- the files behind it
abbrev pub more_at : code.Run → List (List ℕ)
more_at (stage.Begun words) = words.image.now ∷ []
more_at (stage.Described words processor) = []

-- the answers to the text of the file
abbrev pub answers_at : code.Run → Held → List ℕ → Answers
answers_at (stage.Begun words) = RunAnswers (words_of words)
answers_at (stage.Described words processor) = λ held. ImageAnswers processor.isa words.bound
