-- Reading an image line by line: what is read so far, and what a line adds to it.
use Rattle.std.specs.Prelude.{◌≡◌, ℕ, zero, suc, ◌+◌, ◌-◌, ◌*◌, ◌/◌, ◌%◌, ◌^◌, Bool, true, false, ◌&&◌, nat_eq, nat_le, nat_lt, List, [], ◌∷◌, ◌++◌, codes, length, take, drop, Option, Some, None, unwrap_or, Result, Ok, Err, if◌then◌else◌}
use Rattle.vg_text.specs.Number.{hexadecimal_at}
use Rattle.vg_text.specs.Piece.{line_at, rest_after}
use Rattle.vg_isa.specs.declared.isa.Parts.{Parts}
use Rattle.vg_image.specs.declared.image.Image.{Image}
use Rattle.vg_image.specs.declared.image.Symbol.{Symbol}
use Rattle.vg_image.specs.declared.progress.Progress.{Progress}
use Rattle.vg_image.specs.declared.stage.Stage.{Stage}
use Rattle.vg_image.specs.declared.stage.Stage.TheVariants as stages
use Rattle.vg_image.specs.declared.refusal.Refusal.{Refusal}
use Rattle.vg_image.specs.declared.refusal.Refusal.TheVariants as refusals
use Rattle.vg_isa.specs.Declaration.{word_bytes}
use Rattle.vg_image.specs.Spelling.{is_word}

infixl 10 ◌>>=◌
abbrev pub ◌>>=◌ : {A B : Type 0} → Option A → (A → Option B) → Option B
(Some x) >>= f = f x
None >>= f = None

-- what a function returned, seen by view, is what a reader gives, unless memory ran out
abbrev pub Fails : {Y : Type 0} → Refusal → Option Y → Type 0
Fails refusals.OutOfMemory read = Unit {0}
Fails refusals.Wrong read = read ≡ None

abbrev pub Gives : {X Y : Type 0} → (X → Y) → Result X Refusal → Option Y → Type 0
Gives view (Ok x) read = read ≡ Some (view x)
Gives view (Err e) read = Fails e read

-- a value, where nothing is left behind it
abbrev pub whole : {A : Type 0} → A → List ℕ → Option A
whole x [] = Some x
whole x (c ∷ rest) = None

-- a line that is this text
abbrev pub all_read : List ℕ → List ℕ → Option (List ℕ)
all_read text line = rest_after text line >>= λ rest. whole text rest

-- ---- single lines

-- a number that is all of a text, in so many digits
unfoldable pub number_of : ℕ → List ℕ → Option ℕ
number_of digits text = hexadecimal_at digits text >>= λ found. whole found.0 found.1

-- an address of so many digits behind a word and `0x`, which is all of a line
unfoldable pub address_of : List ℕ → ℕ → List ℕ → Option ℕ
address_of word digits line = do
  front ← rest_after word line
  rest ← rest_after (codes "0x") front
  number_of digits rest

-- a byte in front of others
abbrev pub with_byte : ℕ → Option (List ℕ × List ℕ) → Option (List ℕ × List ℕ)
with_byte byte others = others >>= λ read. Some (byte ∷ read.0, read.1)

-- so many bytes of two digits each
unfoldable pub bytes_at : ℕ → List ℕ → Option (List ℕ × List ℕ)
bytes_at zero text = Some ([], text)
bytes_at (suc count) text = hexadecimal_at 2 text >>= λ found. with_byte found.0 (bytes_at count found.1)

-- what was read before, and what is read behind it
abbrev pub with_front : List ℕ → Option (List ℕ × List ℕ) → Option (List ℕ × List ℕ)
with_front front read = read >>= λ x. Some (front ++ x.0, x.1)

-- a symbol's name in front of its address of so many digits
unfoldable pub symbol_of : ℕ → List ℕ → Option Symbol
symbol_of digits text =
    let name = length text - (digits + 3) in
    if is_word (take name text)
    then address_of (codes " ") digits (drop name text) >>= (λ at. Some (record { name = take name text; at = at }))
    else None

-- ---- what a line adds

-- how many digits an address has
abbrev pub address_digits : Parts → ℕ
address_digits d = d.pc.width / 4

-- a line of the description's name, of which there are more where the name has line feeds
unfoldable pub name_line : Progress → List ℕ → Option Progress
name_line p line = elim (line_at p.left) [
  | None ↦ all_read p.left line >>= λ all. Some (record p { stage = stages.Base })
  | Some piece ↦ all_read piece.0 line >>= λ all. Some (record p { stage = stages.Name; left = piece.1 })
]

unfoldable pub first_line : Progress → List ℕ → Option Progress
first_line p line = rest_after (codes "image ") line >>= λ behind. name_line p behind

-- the base is a multiple of the bytes of a word
unfoldable pub base_line : Parts → Progress → List ℕ → Option Progress
base_line d p line = do
  base ← address_of (codes "base ") (address_digits d) line
  if nat_eq (base % word_bytes d) 0 then Some (record p { stage = stages.Entry; image = record p.image { base = base } }) else None

unfoldable pub entry_line : Parts → Progress → List ℕ → Option Progress
entry_line d p line = do
  entry ← address_of (codes "entry ") (address_digits d) line
  Some (record p { stage = stages.Stop; image = record p.image { entry = entry } })

unfoldable pub stop_line : Parts → Progress → List ℕ → Option Progress
stop_line d p line = do
  stop ← address_of (codes "stop ") (address_digits d) line
  Some (record p { stage = stages.Full; image = record p.image { stop = stop } })

unfoldable pub full_line : Parts → Progress → List ℕ → Option Progress
full_line d p line = do
  full ← address_of (codes "full ") (address_digits d) line
  Some (record p { stage = stages.Code; image = record p.image { full = full } })

-- one code word more has room
abbrev pub has_code_room : Parts → Image → Bool
has_code_room d i = nat_le (i.base + word_bytes d * (length i.code + 1)) (2 ^ d.pc.width)

-- a code word behind `code `
unfoldable pub word_line : Parts → Progress → List ℕ → Option Progress
word_line d p behind =
    if has_code_room d p.image
    then number_of (2 * word_bytes d) behind >>= (λ word. Some (record p { image = record p.image { code = p.image.code ++ word ∷ [] } }))
    else None

unfoldable pub data_base_line : Parts → Progress → List ℕ → Option Progress
data_base_line d p line = do
  at ← address_of (codes "data ") (address_digits d) line
  Some (record p { stage = stages.Bytes; image = record p.image { data_base = at } })

unfoldable pub code_line : Parts → Progress → List ℕ → Option Progress
code_line d p line = elim (rest_after (codes "code ") line) [
  | None ↦ data_base_line d p line
  | Some behind ↦ word_line d p behind
]

-- a line has 1 to 16 bytes, and they have room
abbrev pub has_data_room : Parts → Image → ℕ → Bool
has_data_room d i count = nat_lt 0 count && nat_le count 16 && nat_le (i.data_base + length i.bytes + count) (2 ^ d.pc.width)

-- bytes behind `bytes `: others may follow where there are 16
unfoldable pub data_line : Parts → Progress → List ℕ → Option Progress
data_line d p behind =
    let count = length behind / 2 in
    if has_data_room d p.image count
    then with_front p.image.bytes (bytes_at count behind) >>= (λ read.
    whole (record p { stage = if nat_eq count 16 then stages.Bytes else stages.Symbols; image = record p.image { bytes = read.0 } }) read.1)
    else None

unfoldable pub end_line : Progress → List ℕ → Option Progress
end_line p line = all_read (codes "end") line >>= λ all. Some (record p { stage = stages.End })

unfoldable pub symbol_line : Parts → Progress → List ℕ → Option Progress
symbol_line d p line = elim (rest_after (codes "symbol ") line) [
  | None ↦ end_line p line
  | Some behind ↦ symbol_of (address_digits d) behind >>= λ symbol. Some (record p { stage = stages.Symbols; image = record p.image { symbols = p.image.symbols ++ symbol ∷ [] } })
]

unfoldable pub bytes_line : Parts → Progress → List ℕ → Option Progress
bytes_line d p line = elim (rest_after (codes "bytes ") line) [
  | None ↦ symbol_line d p line
  | Some behind ↦ data_line d p behind
]

-- what is read with one line more, where the line may be next
unfoldable pub line_read : Parts → Progress → List ℕ → Option Progress
line_read d p line = elim p.stage [
  | stages.Image ↦ first_line p line
  | stages.Name ↦ name_line p line
  | stages.Base ↦ base_line d p line
  | stages.Entry ↦ entry_line d p line
  | stages.Stop ↦ stop_line d p line
  | stages.Full ↦ full_line d p line
  | stages.Code ↦ code_line d p line
  | stages.Bytes ↦ bytes_line d p line
  | stages.Symbols ↦ symbol_line d p line
  | stages.End ↦ None
]

-- no line may follow
abbrev pub is_ended : Stage → Bool
is_ended stages.End = true
is_ended _ = false

-- what is read before the first line
abbrev pub nothing_read : Parts → Progress
nothing_read d = record {
  stage = stages.Image;
  left = d.name;
  image = record { code = []; base = 0; entry = 0; stop = 0; full = 0; data_base = 0; bytes = []; symbols = [] };
}

-- what is read with more lines
unfoldable pub lines_read : Parts → Progress → List (List ℕ) → Option Progress
lines_read d p [] = Some p
lines_read d p (line ∷ lines) = line_read d p line >>= λ next. lines_read d next lines

-- the first line of a text that isn't empty, and what follows it
abbrev pub line_split : List ℕ → List ℕ × List ℕ
line_split text = unwrap_or (line_at text) (text, [])
