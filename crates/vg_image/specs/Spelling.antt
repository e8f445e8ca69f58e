-- The text of an image. Each image has one spelling.
use Rattle.std.specs.Prelude.{◌≡◌, ℕ, ◌+◌, ◌*◌, ◌/◌, ◌^◌, ◌<◌, ◌≤◌, ◌%◌, List, [], ◌∷◌, ◌++◌, codes, flat_map, map, length, take, drop, All, IsTrue, Bool, ◌&&◌, ◌||◌, nat_eq, nat_le, nat_lt}
use Rattle.std.specs.List.{range_with_len, list_all}
use Rattle.vg_text.specs.Number.{hexadecimal}
use Rattle.vg_isa.specs.declared.isa.Parts.{Parts}
use Rattle.vg_image.specs.declared.image.Image.{Image}
use Rattle.vg_image.specs.declared.image.Symbol.{Symbol}
use Rattle.vg_isa.specs.Declaration.{word_bytes}
use Rattle.vg_image.specs.Lines.{ended_line}

-- `0x` and a digit for each four bits of an address
abbrev pub address_text : Parts → ℕ → List ℕ
address_text d at = codes "0x" ++ hexadecimal (d.pc.width / 4) at

-- a word and an address
abbrev pub address_after : Parts → List ℕ → ℕ → List ℕ
address_after d word at = word ++ address_text d at

-- the same as a line
abbrev pub address_line : Parts → List ℕ → ℕ → List ℕ
address_line d word at = ended_line (address_after d word at)

-- a code word: two digits for each of its bytes
abbrev pub code_text : Parts → ℕ → List ℕ
code_text d word = codes "code " ++ hexadecimal (2 * word_bytes d) word

-- bytes of data, two digits each
abbrev pub bytes_text : List ℕ → List ℕ
bytes_text bytes = codes "bytes " ++ flat_map (hexadecimal 2) bytes

-- the k-th line of data: 16 bytes, and fewer in the last one
abbrev pub data_text : List ℕ → ℕ → List ℕ
data_text bytes k = bytes_text (take 16 (drop (16 * k) bytes))

abbrev pub symbol_text : Parts → Symbol → List ℕ
symbol_text d symbol = codes "symbol " ++ symbol.name ++ address_after d (codes " ") symbol.at

-- name, addresses, code words, data and symbols in this order
abbrev pub image_lines : Parts → Image → List (List ℕ)
image_lines d i =
    (codes "image " ++ d.name)
    ∷ address_after d (codes "base ") i.base
    ∷ address_after d (codes "entry ") i.entry
    ∷ address_after d (codes "stop ") i.stop
    ∷ address_after d (codes "full ") i.full
    ∷ (map (code_text d) i.code
    ++ (address_after d (codes "data ") i.data_base
    ∷ (map (data_text i.bytes) (range_with_len 0 ((length i.bytes + 15) / 16))
    ++ (map (symbol_text d) i.symbols
    ++ codes "end" ∷ []))))

-- the lines, each with its line feed
unfoldable pub spelling : Parts → Image → List ℕ
spelling d i = flat_map ended_line (image_lines d i)

-- a byte of a word: a letter, a digit, `_`, `.`, `+`, `-`, or one above 127
unfoldable pub is_word_byte : ℕ → Bool
is_word_byte c =
    (nat_le 48 c && nat_le c 57) || (nat_le 65 c && nat_le c 90) || (nat_le 97 c && nat_le c 122)
    || nat_eq c 95 || nat_eq c 46 || nat_eq c 43 || nat_eq c 45 || nat_lt 127 c

-- one or more bytes of a word
abbrev pub is_word : List ℕ → Bool
is_word name = nat_lt 0 (length name) && list_all is_word_byte name

-- a symbol's name is one word, and its address is below 2 ^ W
abbrev pub IsSymbol : Parts → Symbol → Type 0
IsSymbol d symbol = IsTrue (is_word symbol.name) × (symbol.at < 2 ^ d.pc.width)

-- what a spelled image keeps: addresses below 2 ^ W, a base on a word's boundary, words and bytes of their widths, code
-- and data that end at 2 ^ W at most, and symbols
pub record IsImage (d : Parts) (i : Image) : Type 0 where
  pub aligned : i.base % word_bytes d ≡ 0
  pub base : i.base < 2 ^ d.pc.width
  pub entry : i.entry < 2 ^ d.pc.width
  pub stop : i.stop < 2 ^ d.pc.width
  pub full : i.full < 2 ^ d.pc.width
  pub data_base : i.data_base < 2 ^ d.pc.width
  pub words : All (λ word. word < 2 ^ d.word) i.code
  pub code_end : i.base + word_bytes d * length i.code ≤ 2 ^ d.pc.width
  pub bytes : All (λ byte. byte < 256) i.bytes
  pub data_end : i.data_base + length i.bytes ≤ 2 ^ d.pc.width
  pub symbols : All (IsSymbol d) i.symbols
