-- Which texts are read as images, and the line at which any other text is refused.
use Rattle.std.specs.Prelude.{◌≡◌, ℕ, ◌+◌, ◌<◌, ◌≤◌, List, ◌++◌, length, take}
use Rattle.vg_isa.specs.declared.isa.Parts.{Parts}
use Rattle.vg_image.specs.declared.image.Image.{Image}
use Rattle.vg_image.specs.declared.image_fault.ImageFault.{ImageFault}
use Rattle.vg_image.specs.declared.image_fault.ImageFault.TheVariants as faults
use Rattle.vg_image.specs.Lines.{lines_of}
use Rattle.vg_image.specs.Spelling.{IsImage, spelling}

-- the text is the spelling of this image
pub record IsSpelled (d : Parts) (bytes : List ℕ) (i : Image) : Type 0 where
  pub image : IsImage d i
  pub text : bytes ≡ spelling d i

-- the text is the spelling of no image
abbrev pub IsNoImage : Parts → List ℕ → Type 0
IsNoImage d text = (i : Image) → IsSpelled d text i → ⊥

-- the spelling of some image begins with these lines
abbrev pub IsBeginning : Parts → List (List ℕ) → Type 0
IsBeginning d lines = (i : Image) × IsImage d i × ((more : List (List ℕ)) × (lines_of (spelling d i) ≡ lines ++ more))

-- The line at which a text that is no spelling is refused: the first such that no spelling begins with the lines up to
-- and with it. Where there is none, since each line is right and more must follow, it is one more than the number of
-- lines.
pub record IsFaultLine (d : Parts) (text : List ℕ) (line : ℕ) : Type 0 where
  pub no_image : IsNoImage d text
  pub before : (k : ℕ) → k < line → IsBeginning d (take k (lines_of text))
  pub here : line ≤ length (lines_of text) → IsBeginning d (take line (lines_of text)) → ⊥
  pub within : line ≤ length (lines_of text) + 1

-- what a refusal says; want of memory says nothing
abbrev pub Refuses : Parts → List ℕ → ImageFault → Type 0
Refuses d text (faults.Line line) = IsFaultLine d text line
Refuses d text faults.OutOfMemory = Unit {0}
