-- The parts of an image's text, as they are written.
use Rattle.std.specs.Prelude.{ℕ, ◌+◌, ◌/◌, List, ◌++◌, codes, flat_map, length, map}
use Rattle.std.specs.List.{range_with_len}
use Rattle.vg_isa.specs.declared.isa.Parts.{Parts}
use Rattle.vg_image.specs.declared.image.Image.{Image}
use Rattle.vg_image.specs.Lines.{ended_line}
use Rattle.vg_image.specs.Spelling.{address_after, data_text}

-- the lines of the name and of the addresses of code
unfoldable pub head_written : Parts → Image → List ℕ
head_written d i =
    ended_line (codes "image " ++ d.name)
    ++ ended_line (address_after d (codes "base ") i.base)
    ++ ended_line (address_after d (codes "entry ") i.entry)
    ++ ended_line (address_after d (codes "stop ") i.stop)
    ++ ended_line (address_after d (codes "full ") i.full)

-- the lines of data
unfoldable pub data_written : List ℕ → List ℕ
data_written bytes = flat_map ended_line (map (data_text bytes) (range_with_len 0 ((length bytes + 15) / 16)))
