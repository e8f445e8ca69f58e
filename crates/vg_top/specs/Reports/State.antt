-- The lines of a state, from what it reads.
use Rattle.std.specs.Prelude.{ℕ, ◌+◌, ◌*◌, ◌/◌, ◌^◌, ◌∷◌, ◌++◌, Bool, ◌&&◌, nat_eq, nat_lt, nat_le, List, [], map, flat_map, length, codes, decimal, Option, Some, None, if◌then◌else◌}
use Rattle.std.specs.List.{list_all, range_with_len}
use Rattle.vg_text.specs.Number.{hexadecimal}
use Rattle.vg_isa.specs.declared.isa.Parts.{Parts}
use Rattle.vg_isa.specs.declared.declaration.RegDecl.{RegDecl}
use Rattle.vg_isa.specs.Declaration.{register_count, word_bytes}
use Rattle.vg_isa.specs.Value.{Reads}
use Rattle.vg_image.specs.declared.image.Image.{Image}
use Rattle.vg_image.specs.Spelling.{address_text, address_line}

-- ---- registers

-- `0x` and a digit for each four bits of a value, and one for what is left of its width
abbrev pub value_text : ℕ → ℕ → List ℕ
value_text width n = codes "0x" ++ hexadecimal ((width + 3) / 4) n

-- a line for a value that isn't 0
abbrev pub value_line : List ℕ → ℕ → ℕ → List ℕ
value_line name width n = if nat_eq n 0 then [] else (name ++ codes " " ++ value_text width n ++ 10 ∷ [])

-- the name of a register of a declaration: with its index in brackets, where it has one
abbrev pub register_name : RegDecl → Option ℕ → ℕ → List ℕ
register_name decl None i = decl.name
register_name decl (Some width) i = decl.name ++ codes "[" ++ decimal i ++ codes "]"

-- the line of the i-th register of the r-th declaration
unfoldable pub register_line : Reads → ℕ → RegDecl → ℕ → List ℕ
register_line s r decl i = value_line (register_name decl decl.index i) decl.width (s.reg r i).number

-- the lines of the r-th declaration, for each of its registers in order
unfoldable pub declaration_lines : Reads → ℕ → RegDecl → List ℕ
declaration_lines s r decl = flat_map (register_line s r decl) (range_with_len 0 (register_count decl))

-- the lines of declarations, the first of which has this number
unfoldable pub register_lines : Reads → ℕ → List RegDecl → List ℕ
register_lines s r [] = []
register_lines s r (decl ∷ decls) = declaration_lines s r decl ++ register_lines s (r + 1) decls

-- ---- memory

-- an address lies in the image's code
abbrev pub in_code : Parts → Image → ℕ → Bool
in_code d i at = nat_le i.base at && nat_lt at (i.base + word_bytes d * length i.code)

-- the byte at an address; 0 in the code
unfoldable pub data_byte : Parts → Image → (ℕ → ℕ) → ℕ → ℕ
data_byte d i byte at = if in_code d i at then 0 else byte at

-- 16 bytes from an address on
unfoldable pub row_of : Parts → Image → (ℕ → ℕ) → ℕ → List ℕ
row_of d i byte at = map (λ k. data_byte d i byte (at + k)) (range_with_len 0 16)

-- a line for 16 bytes, where one of them isn't 0
unfoldable pub row_line : Parts → ℕ → List ℕ → List ℕ
row_line d at row =
    if list_all (λ byte. nat_eq byte 0) row then []
    else (codes "mem " ++ address_text d at ++ codes " " ++ flat_map (hexadecimal 2) row ++ 10 ∷ [])

-- the line of the k-th 16 bytes
unfoldable pub memory_line : Parts → Image → (ℕ → ℕ) → ℕ → List ℕ
memory_line d i byte k = row_line d (16 * k) (row_of d i byte (16 * k))

-- the lines of memory, for each multiple of 16 in rising order
unfoldable pub memory_lines : Parts → Image → (ℕ → ℕ) → List ℕ
memory_lines d i byte = flat_map (memory_line d i byte) (range_with_len 0 (2 ^ d.pc.width / 16))

-- ---- the whole state

-- the program counter, the registers, and the memory outside the image's code
abbrev pub state_lines : Parts → Image → Reads → List ℕ
state_lines d i s = address_line d (codes "pc ") s.pc.number ++ register_lines s 0 d.regs ++ memory_lines d i s.byte
