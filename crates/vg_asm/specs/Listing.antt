-- The listing of the code of an image.
use Rattle.std.specs.Prelude.{ℕ, ◌+◌, ◌*◌, List, [], ◌∷◌, ◌++◌, codes, flat_map}
use Rattle.std.specs.Option.{unwrap_or}
use Rattle.vg_text.specs.Number.{hexadecimal}
use Rattle.vg_isa.specs.declared.isa.Parts.{Parts}
use Rattle.vg_isa.specs.Declaration.{word_bytes}
use Rattle.vg_image.specs.declared.image.Image.{Image}
use Rattle.vg_image.specs.Lines.{ended_line}
use Rattle.vg_image.specs.Spelling.{address_text}
use Rattle.vg_asm.specs.Shown.{shown}

-- the line of a code word: its address, two digits for each of its bytes, and its line of assembly, `-` where its
-- instruction has no template, or `illegal` where it matches no instruction
abbrev pub listed : Parts → ℕ → ℕ → List ℕ
listed d at word =
    address_text d at ++ codes " " ++ hexadecimal (2 * word_bytes d) word ++ codes " "
    ++ unwrap_or (shown d word) (codes "illegal")

-- the lines of words, the first of them at an address
abbrev pub listed_from : Parts → ℕ → List ℕ → List (List ℕ)
listed_from d at [] = []
listed_from d at (word ∷ words) = listed d at word ∷ listed_from d (at + word_bytes d) words

-- The listing of an image: a line for each code word, with its line feed.
unfoldable pub listing : Parts → Image → List ℕ
listing d i = flat_map ended_line (listed_from d i.base i.code)
