-- What is spelled is read: the lines of an image's spelling give the image.
use Rattle.std.proofs.Common.{◌≡◌, ℕ, zero, suc, ◌+◌, ◌-◌, ◌*◌, ◌/◌, ◌%◌, ◌^◌, ◌<◌, ◌≤◌, Bool, true, false, ◌&&◌, IsTrue, not, eqb, List, [], ◌∷◌, ◌++◌, All, length, map, take, drop, Option, Some, None, refl, ap, sym, ◌∙◌, subst, inl, inr, append_assoc, arith, length-append, length-drop, nat_eq, nat_le, nat_lt, if◌then◌else◌}
use Rattle.std.specs.Prelude.{codes, flat_map}
use Rattle.std.specs.List.{AllByRecursion, list_all}
use Rattle.std.proofs.Math.Nat.{mul-le-mul_left}
use Rattle.std.proofs.lemmas.Bool.{and_from, and_parts}
use Rattle.std.proofs.lemmas.Bool.Decides.{nat_tests}
use Rattle.std.proofs.lemmas.List.{append-nil, length-take-le, nil_from_length, take-append-drop, take_all}
use Rattle.std.proofs.lemmas.List.Elements.{recursion_from_All}
use Rattle.vg_text.specs.Number.{hexadecimal}
use Rattle.vg_text.specs.Piece.{lacks, line_at, rest_after}
use Rattle.vg_text.proofs.Hexadecimal.{lacks-hexadecimal}
use Rattle.vg_text.proofs.Pieces.{append-line_at, lacks-line_at_none, rest_after-append}
use Rattle.vg_isa.specs.declared.isa.Parts.{Parts}
use Rattle.vg_isa.specs.Declaration.{word_bytes}
use Rattle.vg_image.specs.declared.image.Image.{Image}
use Rattle.vg_image.specs.declared.image.Symbol.{Symbol}
use Rattle.vg_image.specs.declared.progress.Progress.{Progress}
use Rattle.vg_image.specs.declared.stage.Stage.{Stage}
use Rattle.vg_image.specs.declared.stage.Stage.TheVariants as stages
use Rattle.vg_image.specs.Lines.{lines_of}
use Rattle.vg_image.specs.Reader.{◌>>=◌, address_digits, address_of, all_read, base_line, bytes_at, bytes_line, code_line, data_base_line, data_line, end_line, entry_line, first_line, full_line, has_code_room, has_data_room, line_read, lines_read, name_line, nothing_read, number_of, stop_line, symbol_line, symbol_of, whole, with_front, word_line}
use Rattle.vg_image.specs.Spelling.{IsImage, IsSymbol, address_after, bytes_text, code_text, is_word, is_word_byte, spelling, symbol_text}
use Rattle.vg_image.proofs.Lines.{AreLines, lines_of-joined_first}
use Rattle.vg_image.proofs.Rows.{data_lines, data_lines-rows, rows_of}
use Rattle.vg_image.proofs.Reached.{data_base_text, head_lines, name_lines, tail_lines}
use Rattle.vg_image.proofs.Steps.{all_append, at, lacks_both, last_of_name, piece_of_name}
use Rattle.vg_image.proofs.Texts.{address_of-spelled, all_read-same, bytes_at-spelled, bytes_spelled, length-bytes_spelled, number_of-spelled, symbol_of-spelled, symbol_spelled}
use Rattle.vg_image.proofs.MachineWidths.{AreWidths, address_space, word_space}

-- ---- lines one behind the other

-- a line that is read, and others behind it
pub read_then : (d : Parts) (p q : Progress) (line : List ℕ) (lines : List (List ℕ)) → line_read d p line ≡ Some q → lines_read d p (line ∷ lines) ≡ lines_read d q lines
unfolding lines_read
read_then d p q line lines is = ap (λ o. o >>= (λ next. lines_read d next lines)) is

-- a line that isn't read
pub stuck : (d : Parts) (p : Progress) (line : List ℕ) (lines : List (List ℕ)) → line_read d p line ≡ None → lines_read d p (line ∷ lines) ≡ None
unfolding lines_read
stuck d p line lines is = ap (λ o. o >>= (λ next. lines_read d next lines)) is

bind_assoc : {A B C : Type 0} (o : Option A) (f : A → Option B) (g : B → Option C) → (o >>= f) >>= g ≡ (o >>= (λ x. f x >>= g))
bind_assoc None f g = refl
bind_assoc (Some x) f g = refl

same_bind : {A B : Type 0} (o : Option A) (f g : A → Option B) → ((x : A) → f x ≡ g x) → (o >>= f) ≡ (o >>= g)
same_bind None f g same = refl
same_bind (Some x) f g same = same x

pub lines_read-append : (d : Parts) (p : Progress) (lines more : List (List ℕ)) → lines_read d p (lines ++ more) ≡ (lines_read d p lines >>= (λ q. lines_read d q more))
unfolding lines_read
lines_read-append d p [] more = refl
lines_read-append d p (line ∷ lines) more =
    same_bind (line_read d p line) (λ next. lines_read d next (lines ++ more)) (λ next. lines_read d next lines >>= (λ q. lines_read d q more)) (λ next. lines_read-append d next lines more)
    ∙ sym (bind_assoc (line_read d p line) (λ next. lines_read d next lines) (λ q. lines_read d q more))

pub none_read : (d : Parts) (p : Progress) → lines_read d p [] ≡ Some p
unfolding lines_read
none_read d p = refl

-- ---- the name

abbrev name_by : Stage → List ℕ → Image → List ℕ → Option (List ℕ × List ℕ) → Option Progress
name_by s left i line o = elim o [ None ↦ all_read left line >>= (λ all. Some (at stages.Base left i)) | Some piece ↦ all_read piece.0 line >>= (λ all. Some (at stages.Name piece.1 i)) ]

name_last : (s : Stage) (left : List ℕ) (i : Image) → line_at left ≡ None → name_line (at s left i) left ≡ Some (at stages.Base left i)
unfolding name_line
name_last s left i is = ap (name_by s left i left) is ∙ ap (λ o. o >>= (λ all. Some (at stages.Base left i))) (all_read-same left)

name_piece : (s : Stage) (left : List ℕ) (i : Image) (piece : List ℕ × List ℕ) → line_at left ≡ Some piece → name_line (at s left i) piece.0 ≡ Some (at stages.Name piece.1 i)
unfolding name_line
name_piece s left i piece is = ap (name_by s left i piece.0) is ∙ ap (λ o. o >>= (λ all. Some (at stages.Name piece.1 i))) (all_read-same piece.0)

at_name : (d : Parts) (left : List ℕ) (i : Image) (line : List ℕ) → line_read d (at stages.Name left i) line ≡ name_line (at stages.Name left i) line
unfolding line_read
at_name d left i line = refl

at_image : (d : Parts) (left : List ℕ) (i : Image) (behind : List ℕ) → line_read d (at stages.Image left i) (codes "image " ++ behind) ≡ name_line (at stages.Image left i) behind
unfolding line_read first_line
at_image d left i behind = ap (λ o. o >>= (λ b. name_line (at stages.Image left i) b)) (rest_after-append (codes "image ") behind)

-- the lines are read up to the base, whatever stands behind them
abbrev ReadsName : Parts → Stage → List ℕ → Image → List (List ℕ) → List (List ℕ) → Type 0
ReadsName d s left i lines rest = (l : List ℕ) × (lines_read d (at s left i) (lines ++ rest) ≡ lines_read d (at stages.Base l i) rest)

names_read : (d : Parts) (i : Image) (rest : List (List ℕ)) (n : ℕ) (left : List ℕ) → length left < n → ReadsName d stages.Name left i (lines_of (left ++ 10 ∷ [])) rest
names_read d i rest zero left within = absurd (omega arith)
names_read d i rest (suc n) left within = of (line_at left) refl (λ more shorter. names_read d i rest n more shorter)
  where
    of : (o : Option (List ℕ × List ℕ)) → line_at left ≡ o → ((more : List ℕ) → length more < n → ReadsName d stages.Name more i (lines_of (more ++ 10 ∷ [])) rest) → ReadsName d stages.Name left i (lines_of (left ++ 10 ∷ [])) rest
    of None is next = (
      left,
      ap (λ ls. lines_read d (at stages.Name left i) (ls ++ rest)) (last_of_name [] left refl (lacks-line_at_none left is))
          ∙ read_then d (at stages.Name left i) (at stages.Base left i) left rest (at_name d left i left ∙ name_last stages.Name left i is),
    )
    of (Some piece) is next =
        let split = append-line_at left piece is in
        let shorter : length piece.1 < n = omega (arith, ap (λ (t : List ℕ). length t) split.0, length-append piece.0 (10 ∷ piece.1)) in
        let others : List (List ℕ) = lines_of (piece.1 ++ 10 ∷ []) in
        let behind = next piece.1 shorter in (
          behind.0,
          ap (λ ls. lines_read d (at stages.Name left i) (ls ++ rest)) (ap (λ t. lines_of (t ++ 10 ∷ [])) split.0 ∙ piece_of_name [] piece.0 piece.1 refl split.1)
              ∙ read_then d (at stages.Name left i) (at stages.Name piece.1 i) piece.0 (others ++ rest) (at_name d left i piece.0 ∙ name_piece stages.Name left i piece is)
              ∙ behind.1,
        )

name_lines_read : (d : Parts) (i : Image) (rest : List (List ℕ)) → ReadsName d stages.Image d.name i (name_lines d) rest
name_lines_read d i rest = of (line_at d.name) refl
  where
    of : (o : Option (List ℕ × List ℕ)) → line_at d.name ≡ o → ReadsName d stages.Image d.name i (name_lines d) rest
    of None is = (
      d.name,
      ap (λ ls. lines_read d (at stages.Image d.name i) (ls ++ rest)) (last_of_name (codes "image ") d.name refl (lacks-line_at_none d.name is))
          ∙ read_then d (at stages.Image d.name i) (at stages.Base d.name i) (codes "image " ++ d.name) rest (at_image d d.name i d.name ∙ name_last stages.Image d.name i is),
    )
    of (Some piece) is =
        let split = append-line_at d.name piece is in
        let others : List (List ℕ) = lines_of (piece.1 ++ 10 ∷ []) in
        let behind = names_read d i rest (suc (length piece.1)) piece.1 (omega arith) in (
          behind.0,
          ap (λ ls. lines_read d (at stages.Image d.name i) (ls ++ rest)) (ap (λ t. lines_of ((codes "image " ++ t) ++ 10 ∷ [])) split.0 ∙ piece_of_name (codes "image ") piece.0 piece.1 refl split.1)
              ∙ read_then d (at stages.Image d.name i) (at stages.Name piece.1 i) (codes "image " ++ piece.0) (others ++ rest) (at_image d d.name i piece.0 ∙ name_piece stages.Image d.name i piece is)
              ∙ behind.1,
        )

-- ---- the four addresses

fits : (d : Parts) (n : ℕ) → AreWidths d → n < 2 ^ d.pc.width → n < 16 ^ address_digits d
fits d n widths below = omega (arith, below, address_space d.pc.width widths.pc)

base_read : (d : Parts) (left : List ℕ) (i : Image) (n : ℕ) → AreWidths d → n < 2 ^ d.pc.width → n % word_bytes d ≡ 0 → line_read d (at stages.Base left i) (address_after d (codes "base ") n) ≡ Some (at stages.Entry left (record i { base = n }))
unfolding line_read base_line
base_read d left i n widths below aligned =
    ap (λ o. o >>= (λ m. if nat_eq (m % word_bytes d) 0 then Some (at stages.Entry left (record i { base = m })) else None)) (address_of-spelled (codes "base ") (address_digits d) n (fits d n widths below))
    ∙ (let on : nat_eq (n % word_bytes d) 0 ≡ true = grind (arith, nat_tests) in ap (λ b. if b then Some (at stages.Entry left (record i { base = n })) else None) on)

entry_read : (d : Parts) (left : List ℕ) (i : Image) (n : ℕ) → AreWidths d → n < 2 ^ d.pc.width → line_read d (at stages.Entry left i) (address_after d (codes "entry ") n) ≡ Some (at stages.Stop left (record i { entry = n }))
unfolding line_read entry_line
entry_read d left i n widths below = ap (λ o. o >>= (λ m. Some (at stages.Stop left (record i { entry = m })))) (address_of-spelled (codes "entry ") (address_digits d) n (fits d n widths below))

stop_read : (d : Parts) (left : List ℕ) (i : Image) (n : ℕ) → AreWidths d → n < 2 ^ d.pc.width → line_read d (at stages.Stop left i) (address_after d (codes "stop ") n) ≡ Some (at stages.Full left (record i { stop = n }))
unfolding line_read stop_line
stop_read d left i n widths below = ap (λ o. o >>= (λ m. Some (at stages.Full left (record i { stop = m })))) (address_of-spelled (codes "stop ") (address_digits d) n (fits d n widths below))

full_read : (d : Parts) (left : List ℕ) (i : Image) (n : ℕ) → AreWidths d → n < 2 ^ d.pc.width → line_read d (at stages.Full left i) (address_after d (codes "full ") n) ≡ Some (at stages.Code left (record i { full = n }))
unfolding line_read full_line
full_read d left i n widths below = ap (λ o. o >>= (λ m. Some (at stages.Code left (record i { full = m })))) (address_of-spelled (codes "full ") (address_digits d) n (fits d n widths below))

-- ---- code words

abbrev code_by : Parts → Progress → List ℕ → Option (List ℕ) → Option Progress
code_by d p line o = elim o [ None ↦ data_base_line d p line | Some behind ↦ word_line d p behind ]

word_read : (d : Parts) (left : List ℕ) (i : Image) (w : ℕ) → AreWidths d → w < 2 ^ d.word → i.base + word_bytes d * (length i.code + 1) ≤ 2 ^ d.pc.width
    → line_read d (at stages.Code left i) (code_text d w) ≡ Some (at stages.Code left (record i { code = i.code ++ w ∷ [] }))
unfolding line_read code_line word_line
word_read d left i w widths below ends =
    let room : has_code_room d i ≡ true = grind (arith, nat_tests) in
    let small : w < 16 ^ (2 * word_bytes d) = omega (arith, below, word_space d.word widths.word) in
    let digits : List ℕ = hexadecimal (2 * word_bytes d) w in
    ap (code_by d (at stages.Code left i) (code_text d w)) (rest_after-append (codes "code ") digits)
    ∙ ap (λ b. if b then number_of (2 * word_bytes d) digits >>= (λ n. Some (at stages.Code left (record i { code = i.code ++ n ∷ [] }))) else None) room
    ∙ ap (λ o. o >>= (λ n. Some (at stages.Code left (record i { code = i.code ++ n ∷ [] })))) (number_of-spelled (2 * word_bytes d) w small)

words_read : (d : Parts) (left : List ℕ) (i : Image) (front words : List ℕ) (rest : List (List ℕ)) → AreWidths d → AllByRecursion (λ w. w < 2 ^ d.word) words → i.base + word_bytes d * (length front + length words) ≤ 2 ^ d.pc.width
    → lines_read d (at stages.Code left (record i { code = front })) (map (code_text d) words ++ rest) ≡ lines_read d (at stages.Code left (record i { code = front ++ words })) rest
words_read d left i front [] rest widths below ends = ap (λ (c : List ℕ). lines_read d (at stages.Code left (record i { code = c })) rest) (sym (append-nil front))
words_read d left i front (w ∷ words) rest widths below ends =
    let one : length front + 1 ≤ length front + length (w ∷ words) = omega arith in
    let room : i.base + word_bytes d * (length front + 1) ≤ 2 ^ d.pc.width = omega (arith, ends, mul-le-mul_left (word_bytes d) one) in
    let count : length (front ++ w ∷ []) + length words ≡ length front + length (w ∷ words) = omega (arith, length-append front (w ∷ [])) in
    read_then d (at stages.Code left (record i { code = front })) (at stages.Code left (record i { code = front ++ w ∷ [] })) (code_text d w) (map (code_text d) words ++ rest) (word_read d left (record i { code = front }) w widths below.0 room)
    ∙ words_read d left i (front ++ w ∷ []) words rest widths below.1 (subst (λ n. i.base + word_bytes d * n ≤ 2 ^ d.pc.width) (sym count) ends)
    ∙ ap (λ (c : List ℕ). lines_read d (at stages.Code left (record i { code = c })) rest) (append_assoc front (w ∷ []) words)

no_word : (d : Parts) (n : ℕ) → rest_after (codes "code ") (address_after d (codes "data ") n) ≡ None
unfolding rest_after
no_word d n = refl

data_base_read : (d : Parts) (left : List ℕ) (i : Image) (n : ℕ) → AreWidths d → n < 2 ^ d.pc.width → line_read d (at stages.Code left i) (address_after d (codes "data ") n) ≡ Some (at stages.Bytes left (record i { data_base = n }))
unfolding line_read code_line data_base_line
data_base_read d left i n widths below =
    ap (code_by d (at stages.Code left i) (address_after d (codes "data ") n)) (no_word d n)
    ∙ ap (λ o. o >>= (λ m. Some (at stages.Bytes left (record i { data_base = m })))) (address_of-spelled (codes "data ") (address_digits d) n (fits d n widths below))

-- ---- bytes of data

-- the stage behind a line of data that is full, or isn't
abbrev pub behind : Bool → Stage
behind b = if b then stages.Bytes else stages.Symbols

abbrev bytes_by : Parts → Progress → List ℕ → Option (List ℕ) → Option Progress
bytes_by d p line o = elim o [ None ↦ symbol_line d p line | Some text ↦ data_line d p text ]

abbrev data_by : Stage → List ℕ → Image → Option (List ℕ × List ℕ) → Option Progress
data_by s left i o = with_front i.bytes o >>= (λ read. whole (at s left (record i { bytes = read.0 })) read.1)

row_count : (row : List ℕ) → length (bytes_spelled row) / 2 ≡ length row
row_count row = omega (arith, length-bytes_spelled row)

row_read : (d : Parts) (left : List ℕ) (i : Image) (row : List ℕ) → AllByRecursion (λ byte. byte < 256) row → 0 < length row → length row ≤ 16 → i.data_base + length i.bytes + length row ≤ 2 ^ d.pc.width
    → line_read d (at stages.Bytes left i) (bytes_text row) ≡ Some (at (behind (nat_eq (length row) 16)) left (record i { bytes = i.bytes ++ row }))
unfolding line_read bytes_line data_line
row_read d left i row below some few ends =
    let s : Stage = behind (nat_eq (length row) 16) in
    let a : nat_lt 0 (length row) ≡ true = grind (arith, nat_tests) in
    let b : nat_le (length row) 16 ≡ true = grind (arith, nat_tests) in
    let c : nat_le (i.data_base + length i.bytes + length row) (2 ^ d.pc.width) ≡ true = grind (arith, nat_tests) in
    let room : has_data_room d i (length row) ≡ true = and_from (nat_lt 0 (length row) && nat_le (length row) 16) _ (and_from (nat_lt 0 (length row)) (nat_le (length row) 16) a b) c in
    let text : List ℕ = bytes_spelled row in
    ap (bytes_by d (at stages.Bytes left i) (bytes_text row)) (rest_after-append (codes "bytes ") text)
    ∙ ap (λ n. if has_data_room d i n then data_by (behind (nat_eq n 16)) left i (bytes_at n text) else None) (row_count row)
    ∙ ap (λ r. if r then data_by s left i (bytes_at (length row) text) else None) room
    ∙ ap (λ t. data_by s left i (bytes_at (length row) t)) (sym (append-nil text))
    ∙ ap (data_by s left i) (bytes_at-spelled row [] below)

all_take : {A : Type 0} (P : A → Type 0) (n : ℕ) (xs : List A) → AllByRecursion P xs → AllByRecursion P (take n xs)
all_take P zero xs h = tt
all_take P (suc n) [] h = tt
all_take P (suc n) (x ∷ xs) h = (h.0, all_take P n xs h.1)

all_drop : {A : Type 0} (P : A → Type 0) (n : ℕ) (xs : List A) → AllByRecursion P xs → AllByRecursion P (drop n xs)
all_drop P zero xs h = h
all_drop P (suc n) [] h = tt
all_drop P (suc n) (x ∷ xs) h = all_drop P n xs h.1

-- the lines of data are read up to a symbol or the end
abbrev ReadsData : Parts → List ℕ → Image → List ℕ → List ℕ → List (List ℕ) → List (List ℕ) → Type 0
ReadsData d left i front bytes lines rest =
    (b : Bool) × (lines_read d (at stages.Bytes left (record i { bytes = front })) (lines ++ rest) ≡ lines_read d (at (behind b) left (record i { bytes = front ++ bytes })) rest)

-- one line of them
one_row : (d : Parts) (left : List ℕ) (i : Image) (front row : List ℕ) (lines : List (List ℕ)) → AllByRecursion (λ byte. byte < 256) row → 0 < length row → length row ≤ 16 → i.data_base + length front + length row ≤ 2 ^ d.pc.width
    → lines_read d (at stages.Bytes left (record i { bytes = front })) (bytes_text row ∷ lines) ≡ lines_read d (at (behind (nat_eq (length row) 16)) left (record i { bytes = front ++ row })) lines
one_row d left i front row lines below some few ends =
    read_then d (at stages.Bytes left (record i { bytes = front })) (at (behind (nat_eq (length row) 16)) left (record i { bytes = front ++ row })) (bytes_text row) lines
    (row_read d left (record i { bytes = front }) row below some few ends)

rows_read : (d : Parts) (left : List ℕ) (i : Image) (rest : List (List ℕ)) (n : ℕ) (bytes front : List ℕ) → n ≡ (length bytes + 15) / 16 → AllByRecursion (λ byte. byte < 256) bytes → i.data_base + length front + length bytes ≤ 2 ^ d.pc.width
    → ReadsData d left i front bytes (map bytes_text (rows_of n bytes)) rest
rows_read d left i rest zero bytes front count below ends =
    let none : bytes ≡ [] = nil_from_length bytes (omega (arith, count)) in
    (true, ap (λ (bs : List ℕ). lines_read d (at stages.Bytes left (record i { bytes = bs })) rest) (sym (append-nil front) ∙ ap (λ bs. front ++ bs) (sym none)))
rows_read d left i rest (suc zero) bytes front count below ends =
    let few : length bytes ≤ 16 = omega (arith, count) in
    let some : 0 < length bytes = omega (arith, count) in
    let all : take 16 bytes ≡ bytes = take_all 16 bytes few in (
      nat_eq (length bytes) 16,
      ap (λ row. lines_read d (at stages.Bytes left (record i { bytes = front })) (bytes_text row ∷ rest)) all
          ∙ one_row d left i front bytes rest below some few ends,
    )
rows_read d left i rest (suc (suc n)) bytes front count below ends =
    let row : List ℕ = take 16 bytes in
    let others : List ℕ = drop 16 bytes in
    let many : 16 ≤ length bytes = omega (arith, count) in
    let whole_row : length row ≡ 16 = length-take-le 16 bytes many in
    let left_over : length others ≡ length bytes - 16 = length-drop 16 bytes in
    let full : nat_eq (length row) 16 ≡ true = grind (arith, nat_tests) in
    let next = rows_read d left i rest (suc n) others (front ++ row) (omega (arith, count, left_over, many)) (all_drop (λ byte. byte < 256) 16 bytes below) (omega (arith, ends, many, left_over, whole_row, length-append front row)) in
    let all : (front ++ row) ++ others ≡ front ++ bytes = append_assoc front row others ∙ ap (λ bs. front ++ bs) (take-append-drop 16 bytes) in (
      next.0,
      one_row d left i front row (map bytes_text (rows_of (suc n) others) ++ rest) (all_take (λ byte. byte < 256) 16 bytes below) (omega (arith, whole_row)) (omega (arith, whole_row)) (omega (arith, ends, many, whole_row))
          ∙ ap (λ b. lines_read d (at (behind b) left (record i { bytes = front ++ row })) (map bytes_text (rows_of (suc n) others) ++ rest)) full
          ∙ next.1
          ∙ ap (λ (bs : List ℕ). lines_read d (at (behind next.0) left (record i { bytes = bs })) rest) all,
    )

data_read : (d : Parts) (left : List ℕ) (i : Image) (bytes : List ℕ) (rest : List (List ℕ)) → All (λ byte. byte < 256) bytes → i.data_base + length bytes ≤ 2 ^ d.pc.width → ReadsData d left i [] bytes (data_lines bytes) rest
data_read d left i bytes rest below ends =
    let read = rows_read d left i rest ((length bytes + 15) / 16) bytes [] refl (recursion_from_All (λ byte. byte < 256) bytes below) (omega (arith, ends)) in
    (read.0, ap (λ ls. lines_read d (at stages.Bytes left (record i { bytes = [] })) (ls ++ rest)) (data_lines-rows bytes) ∙ read.1)

-- ---- symbols and the end

-- a line that isn't one of data
not_bytes : (d : Parts) (b : Bool) (left : List ℕ) (i : Image) (line : List ℕ) → rest_after (codes "bytes ") line ≡ None → line_read d (at (behind b) left i) line ≡ symbol_line d (at (behind b) left i) line
unfolding line_read bytes_line
not_bytes d true left i line none = ap (bytes_by d (at stages.Bytes left i) line) none
not_bytes d false left i line none = refl

symbol_no_bytes : (text : List ℕ) → rest_after (codes "bytes ") (codes "symbol " ++ text) ≡ None
unfolding rest_after
symbol_no_bytes text = refl

end_no_bytes : rest_after (codes "bytes ") (codes "end") ≡ None
unfolding rest_after
end_no_bytes = refl

end_no_symbol : rest_after (codes "symbol ") (codes "end") ≡ None
unfolding rest_after
end_no_symbol = refl

abbrev symbol_by : Parts → Progress → List ℕ → Option (List ℕ) → Option Progress
symbol_by d p line o = elim o [ None ↦ end_line p line | Some text ↦ symbol_of (address_digits d) text >>= (λ symbol. Some (at stages.Symbols p.left (record p.image { symbols = p.image.symbols ++ symbol ∷ [] }))) ]

symbol_line_read : (d : Parts) (s : Stage) (left : List ℕ) (i : Image) (symbol : Symbol) → AreWidths d → IsSymbol d symbol
    → symbol_line d (at s left i) (codes "symbol " ++ symbol_spelled (address_digits d) symbol) ≡ Some (at stages.Symbols left (record i { symbols = i.symbols ++ symbol ∷ [] }))
unfolding symbol_line
symbol_line_read d s left i symbol widths is =
    let text : List ℕ = symbol_spelled (address_digits d) symbol in
    ap (symbol_by d (at s left i) (codes "symbol " ++ text)) (rest_after-append (codes "symbol ") text)
    ∙ ap (λ o. o >>= (λ (x : Symbol). Some (at stages.Symbols left (record i { symbols = i.symbols ++ x ∷ [] })))) (symbol_of-spelled (address_digits d) symbol is.0 (fits d symbol.at widths is.1))

symbol_read : (d : Parts) (b : Bool) (left : List ℕ) (i : Image) (symbol : Symbol) → AreWidths d → IsSymbol d symbol → line_read d (at (behind b) left i) (symbol_text d symbol) ≡ Some (at stages.Symbols left (record i { symbols = i.symbols ++ symbol ∷ [] }))
symbol_read d b left i symbol widths is =
    let text : List ℕ = symbol_spelled (address_digits d) symbol in
    ap (line_read d (at (behind b) left i)) (append_assoc (codes "symbol ") symbol.name (address_after d (codes " ") symbol.at))
    ∙ not_bytes d b left i (codes "symbol " ++ text) (symbol_no_bytes text)
    ∙ symbol_line_read d (behind b) left i symbol widths is

symbols_read : (d : Parts) (left : List ℕ) (i : Image) (rest : List (List ℕ)) (symbols front : List Symbol) (b : Bool) → AreWidths d → AllByRecursion (IsSymbol d) symbols
    → (c : Bool) × (lines_read d (at (behind b) left (record i { symbols = front })) (map (symbol_text d) symbols ++ rest) ≡ lines_read d (at (behind c) left (record i { symbols = front ++ symbols })) rest)
symbols_read d left i rest [] front b widths are = (b, ap (λ (ss : List Symbol). lines_read d (at (behind b) left (record i { symbols = ss })) rest) (sym (append-nil front)))
symbols_read d left i rest (symbol ∷ symbols) front b widths are =
    let next = symbols_read d left i rest symbols (front ++ symbol ∷ []) false widths are.1 in (
      next.0,
      read_then d (at (behind b) left (record i { symbols = front })) (at stages.Symbols left (record i { symbols = front ++ symbol ∷ [] })) (symbol_text d symbol) (map (symbol_text d) symbols ++ rest)
          (symbol_read d b left (record i { symbols = front }) symbol widths are.0)
          ∙ next.1
          ∙ ap (λ (ss : List Symbol). lines_read d (at (behind next.0) left (record i { symbols = ss })) rest) (append_assoc front (symbol ∷ []) symbols),
    )

end_line_read : (d : Parts) (s : Stage) (left : List ℕ) (i : Image) → symbol_line d (at s left i) (codes "end") ≡ Some (at stages.End left i)
unfolding symbol_line end_line
end_line_read d s left i =
    ap (symbol_by d (at s left i) (codes "end")) end_no_symbol
    ∙ ap (λ o. o >>= (λ all. Some (at stages.End left i))) (all_read-same (codes "end"))

end_read : (d : Parts) (b : Bool) (left : List ℕ) (i : Image) → line_read d (at (behind b) left i) (codes "end") ≡ Some (at stages.End left i)
end_read d b left i = not_bytes d b left i (codes "end") end_no_bytes ∙ end_line_read d (behind b) left i

-- ---- all lines

-- code words, data, symbols and the end, behind the four addresses
tail_read : (d : Parts) (left : List ℕ) (i : Image) → AreWidths d → IsImage d i
    → lines_read d (at stages.Code left (record i { code = []; data_base = 0; bytes = []; symbols = [] })) (map (code_text d) i.code ++ (data_base_text d i ∷ (data_lines i.bytes ++ (map (symbol_text d) i.symbols ++ codes "end" ∷ [])))) ≡ Some (at stages.End left i)
tail_read d left i widths is =
    let behind_data : List (List ℕ) = map (symbol_text d) i.symbols ++ codes "end" ∷ [] in
    let behind_code : List (List ℕ) = data_lines i.bytes ++ behind_data in
    let all : 0 + length i.code ≡ length i.code = omega arith in
    let coded : Image = record i { data_base = 0; bytes = []; symbols = [] } in
    let based : Image = record i { bytes = []; symbols = [] } in
    let filled : Image = record i { symbols = [] } in
    let bytes = data_read d left filled i.bytes behind_data is.bytes is.data_end in
    let symbols = symbols_read d left i (codes "end" ∷ []) i.symbols [] bytes.0 widths (recursion_from_All (IsSymbol d) i.symbols is.symbols) in
    words_read d left coded [] i.code (data_base_text d i ∷ behind_code) widths (recursion_from_All (λ w. w < 2 ^ d.word) i.code is.words) (subst (λ n. i.base + word_bytes d * n ≤ 2 ^ d.pc.width) (sym all) is.code_end)
    ∙ read_then d (at stages.Code left coded) (at stages.Bytes left based) (data_base_text d i) behind_code (data_base_read d left coded i.data_base widths is.data_base)
    ∙ bytes.1
    ∙ symbols.1
    ∙ read_then d (at (behind symbols.0) left i) (at stages.End left i) (codes "end") [] (end_read d symbols.0 left i)
    ∙ none_read d (at stages.End left i)

abbrev zero_image : Image
zero_image = record { code = []; base = 0; entry = 0; stop = 0; full = 0; data_base = 0; bytes = []; symbols = [] }

-- the lines of a spelling give the image
pub image_read : (d : Parts) (i : Image) → AreWidths d → IsImage d i → (left : List ℕ) × (lines_read d (nothing_read d) (name_lines d ++ tail_lines d i) ≡ Some (at stages.End left i))
image_read d i widths is =
    let based : Image = record zero_image { base = i.base } in
    let entered : Image = record based { entry = i.entry } in
    let stopped : Image = record entered { stop = i.stop } in
    let headed : Image = record stopped { full = i.full } in
    let name = name_lines_read d zero_image (tail_lines d i) in
    let l : List ℕ = name.0 in (
      l,
      name.1
          ∙ read_then d (at stages.Base l zero_image) (at stages.Entry l based) _ _ (base_read d l zero_image i.base widths is.base is.aligned)
          ∙ read_then d (at stages.Entry l based) (at stages.Stop l entered) _ _ (entry_read d l based i.entry widths is.entry)
          ∙ read_then d (at stages.Stop l entered) (at stages.Full l stopped) _ _ (stop_read d l entered i.stop widths is.stop)
          ∙ read_then d (at stages.Full l stopped) (at stages.Code l headed) _ _ (full_read d l stopped i.full widths is.full)
          ∙ tail_read d l i widths is,
    )

-- ---- the lines of a spelling are one by one its lines

bytes_lack : (bytes : List ℕ) → IsTrue (lacks 10 (bytes_spelled bytes))
bytes_lack [] = refl
bytes_lack (byte ∷ bytes) = lacks_both (hexadecimal 2 byte) (bytes_spelled bytes) (lacks-hexadecimal 10 2 byte (omega arith)) (bytes_lack bytes)

address_lacks : (d : Parts) (word : List ℕ) (n : ℕ) → IsTrue (lacks 10 word) → IsTrue (lacks 10 (address_after d word n))
address_lacks d word n h = lacks_both word (codes "0x" ++ hexadecimal (address_digits d) n) h (lacks_both (codes "0x") (hexadecimal (address_digits d) n) refl (lacks-hexadecimal 10 (address_digits d) n (omega arith)))

code_lacks : (d : Parts) (words : List ℕ) → AreLines (map (code_text d) words)
code_lacks d [] = tt
code_lacks d (w ∷ words) = (lacks_both (codes "code ") (hexadecimal (2 * word_bytes d) w) refl (lacks-hexadecimal 10 (2 * word_bytes d) w (omega arith)), code_lacks d words)

rows_lack : (rows : List (List ℕ)) → AreLines (map bytes_text rows)
rows_lack [] = tt
rows_lack (row ∷ rows) = (lacks_both (codes "bytes ") (bytes_spelled row) refl (bytes_lack row), rows_lack rows)

data_lack : (bytes : List ℕ) → AreLines (data_lines bytes)
data_lack bytes = subst AreLines (sym (data_lines-rows bytes)) (rows_lack (rows_of ((length bytes + 15) / 16) bytes))

word_byte_other : (c : ℕ) → IsTrue (is_word_byte c) → not (eqb c 10) ≡ true
unfolding is_word_byte
word_byte_other c is = grind (arith, nat_tests)

word_lacks : (name : List ℕ) → IsTrue (list_all is_word_byte name) → IsTrue (lacks 10 name)
word_lacks [] is = refl
word_lacks (c ∷ name) is =
    let parts = and_parts (is_word_byte c) (list_all is_word_byte name) is in
    and_from (not (eqb c 10)) (lacks 10 name) (word_byte_other c parts.0) (word_lacks name parts.1)

symbols_lack : (d : Parts) (symbols : List Symbol) → AllByRecursion (IsSymbol d) symbols → AreLines (map (symbol_text d) symbols)
symbols_lack d [] are = tt
symbols_lack d (symbol ∷ symbols) are =
    let name = and_parts (nat_lt 0 (length symbol.name)) (list_all is_word_byte symbol.name) are.0.0 in
    (lacks_both (codes "symbol " ++ symbol.name) (address_after d (codes " ") symbol.at) (lacks_both (codes "symbol ") symbol.name refl (word_lacks symbol.name name.1)) (address_lacks d (codes " ") symbol.at refl), symbols_lack d symbols are.1)

tail_lacks : (d : Parts) (i : Image) → IsImage d i → AreLines (tail_lines d i)
tail_lacks d i is =
    let P : List ℕ → Type 0 = λ line. IsTrue (lacks 10 line) in (
      address_lacks d (codes "base ") i.base refl,
      (
        address_lacks d (codes "entry ") i.entry refl,
        (
          address_lacks d (codes "stop ") i.stop refl,
          (
            address_lacks d (codes "full ") i.full refl,
            all_append P (map (code_text d) i.code) _ (code_lacks d i.code) (
              address_lacks d (codes "data ") i.data_base refl,
              all_append P (data_lines i.bytes) _ (data_lack i.bytes)
                  (all_append P (map (symbol_text d) i.symbols) _ (symbols_lack d i.symbols (recursion_from_All (IsSymbol d) i.symbols is.symbols)) (refl, tt)),
            ),
          ),
        ),
      ),
    )

pub spelling_lines : (d : Parts) (i : Image) → IsImage d i → lines_of (spelling d i) ≡ name_lines d ++ tail_lines d i
unfolding spelling
spelling_lines d i is = lines_of-joined_first (codes "image " ++ d.name) (tail_lines d i) (tail_lacks d i is)
