-- How an answer goes on with the texts of descriptions and images.
use Rattle.std.specs.Prelude.{◌≡◌, ℕ, ◌⊎◌, List, Option, None}
use Rattle.vg_isa.specs.declared.isa.Parts.{Parts}
use Rattle.vg_image.specs.declared.image.Image.{Image}
use Rattle.vg_image.specs.Reading.{IsSpelled, IsFaultLine}
use Rattle.vg_top.specs.declared.needs.Needs.{Needs}
use Rattle.vg_top.specs.declared.reason.Reason.{Reason}
use Rattle.vg_top.specs.Answers.{Answers, Refuses}
use Rattle.vg_top.specs.Description.{IsDescription}
use Rattle.vg_top.specs.Reason.{lacking, IsReason, reason_line}
use Rattle.vg_top.specs.Refusal.{image_refused}

-- a description has at most so many bytes, and an image
abbrev pub description_limit : ℕ
description_limit = 1048576

abbrev pub image_limit : ℕ
image_limit = 8388608

-- the refusal of the text of a description
abbrev pub RefusesDescription : List ℕ → Needs → Answers
RefusesDescription bytes needs answer = (reason : Reason) × IsReason bytes needs reason × Refuses (reason_line bytes reason) answer

-- A description is read that has what the command needs, or the text is refused. What the command needs is asked last.
abbrev pub WithDescription : List ℕ → Needs → (Parts → Answers) → Answers
WithDescription bytes needs next answer =
    ((d : Parts) × IsDescription bytes d × (lacking needs d ≡ None) × next d answer) ⊎ RefusesDescription bytes needs answer

-- the refusal of the text of an image, at the line where it leaves the spellings
abbrev pub RefusesImage : Parts → List ℕ → Answers
RefusesImage d bytes answer = (line : ℕ) × IsFaultLine d bytes line × Refuses (image_refused line) answer

-- an image is read, or the text is refused
abbrev pub WithImage : Parts → List ℕ → (Image → Answers) → Answers
WithImage d bytes next answer = ((i : Image) × IsSpelled d bytes i × next i answer) ⊎ RefusesImage d bytes answer
