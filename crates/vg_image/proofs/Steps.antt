-- A line adds to what is read just what the line spells.
use Rattle.std.proofs.Common.{◌≡◌, ℕ, ◌+◌, ◌*◌, ◌/◌, ◌%◌, ◌^◌, ◌<◌, ◌≤◌, ◌⊎◌, Bool, true, false, ◌&&◌, IsTrue, not, eqb, List, [], ◌∷◌, ◌++◌, All, length, map, Option, Some, None, refl, ap, sym, ◌∙◌, subst, append_assoc, arith, length-append, nat_eq, nat_le, nat_lt, if◌then◌else◌}
use Rattle.std.specs.Prelude.{codes}
use Rattle.std.specs.List.{AllByRecursion}
use Rattle.std.proofs.lemmas.Bool.{and_from, and_parts}
use Rattle.std.proofs.lemmas.Bool.Decides.{nat_tests}
use Rattle.std.proofs.lemmas.Option.{none-some, same_Some}
use Rattle.std.proofs.lemmas.List.{append-nil, map-append}
use Rattle.std.proofs.lemmas.List.Elements.{All-from_recursion, recursion_from_All}
use Rattle.vg_text.specs.Piece.{lacks, line_at, rest_after}
use Rattle.vg_text.proofs.Pieces.{append-line_at, append-rest_after, cases_option, lacks-append, lacks-line_at_none}
use Rattle.vg_isa.specs.declared.isa.Parts.{Parts}
use Rattle.vg_isa.specs.Declaration.{word_bytes}
use Rattle.vg_image.specs.declared.image.Image.{Image}
use Rattle.vg_image.specs.declared.image.Symbol.{Symbol}
use Rattle.vg_image.specs.declared.progress.Progress.{Progress}
use Rattle.vg_image.specs.declared.stage.Stage.{Stage}
use Rattle.vg_image.specs.declared.stage.Stage.TheVariants as stages
use Rattle.vg_image.specs.Lines.{lines_of}
use Rattle.vg_image.specs.Reader.{◌>>=◌, address_digits, address_of, all_read, base_line, bytes_at, bytes_line, code_line, data_base_line, data_line, end_line, entry_line, first_line, full_line, has_code_room, has_data_room, line_read, name_line, number_of, stop_line, symbol_line, symbol_of, whole, with_front, word_line}
use Rattle.vg_image.specs.Spelling.{IsImage, IsSymbol, address_after, bytes_text, code_text, symbol_text}
use Rattle.vg_image.proofs.Bind.{bind_elim}
use Rattle.vg_image.proofs.Lines.{lines_of-line, lines_of-none}
use Rattle.vg_image.proofs.Rows.{data_lines, data_lines-more}
use Rattle.vg_image.proofs.Reached.{IsCode, IsData, IsHead, IsRead, IsReadAt, data_base_text, head_image, head_lines, name_lines, tail_lines}
use Rattle.vg_image.proofs.Texts.{bytes_spelled, same-all_read, IsAddress, spelled-address_of, spelled-bytes_at, spelled-number_of, spelled-symbol_of, whole_some}
use Rattle.vg_image.proofs.MachineWidths.{AreWidths, address_space, word_space}

-- what is read, as one value
abbrev pub at : Stage → List ℕ → Image → Progress
at s left i = record { stage = s; left = left; image = i }

-- a line behind others
snoc : (front lines : List (List ℕ)) (line : List ℕ) → (front ++ lines) ++ line ∷ [] ≡ front ++ (lines ++ line ∷ [])
snoc front lines line = append_assoc front lines (line ∷ [])

-- lines that are known, and one more
grown : (front read lines : List (List ℕ)) (line text : List ℕ) → lines ≡ front ++ read → line ≡ text → lines ++ line ∷ [] ≡ front ++ (read ++ text ∷ [])
grown front read lines line text are is = (λ j. are j ++ is j ∷ []) ∙ snoc front read text

-- ---- the name

pub lacks_both : (word text : List ℕ) → IsTrue (lacks 10 word) → IsTrue (lacks 10 text) → IsTrue (lacks 10 (word ++ text))
lacks_both word text a b = lacks-append 10 word text ∙ and_from (lacks 10 word) (lacks 10 text) a b

pub last_of_name : (word left : List ℕ) → IsTrue (lacks 10 word) → IsTrue (lacks 10 left) → lines_of ((word ++ left) ++ 10 ∷ []) ≡ (word ++ left) ∷ []
last_of_name word left a b = lines_of-line (word ++ left) [] (lacks_both word left a b) ∙ ap (λ ls. (word ++ left) ∷ ls) lines_of-none

pub piece_of_name : (word piece more : List ℕ) → IsTrue (lacks 10 word) → IsTrue (lacks 10 piece) → lines_of ((word ++ (piece ++ 10 ∷ more)) ++ 10 ∷ []) ≡ (word ++ piece) ∷ lines_of (more ++ 10 ∷ [])
piece_of_name word piece more a b =
    ap (λ t. lines_of (t ++ 10 ∷ [])) (sym (append_assoc word piece (10 ∷ more)))
    ∙ ap lines_of (append_assoc (word ++ piece) (10 ∷ more) (10 ∷ []))
    ∙ lines_of-line (word ++ piece) (more ++ 10 ∷ []) (lacks_both word piece a b)

named_by : (d : Parts) (s : Stage) (left : List ℕ) (i : Image) (q : Progress) (front : List (List ℕ)) (word behind : List ℕ) (o : Option (List ℕ × List ℕ)) → line_at left ≡ o
    → IsHead d i → IsTrue (lacks 10 word) → name_lines d ≡ front ++ lines_of ((word ++ left) ++ 10 ∷ [])
    → elim o [ None ↦ all_read left behind >>= (λ all. Some (at stages.Base left i)) | Some piece ↦ all_read piece.0 behind >>= (λ all. Some (at stages.Name piece.1 i)) ] ≡ Some q
    → IsRead d q (front ++ (word ++ behind) ∷ [])
named_by d s left i q front word behind None is head without lines found =
    bind_elim (all_read left behind) (λ all. Some (at stages.Base left i)) q (IsRead d q (front ++ (word ++ behind) ∷ [])) found
    (λ all first made.
    let same : behind ≡ left = same-all_read left behind all first in
    subst (λ (p : Progress). IsRead d p (front ++ (word ++ behind) ∷ [])) (same_Some (at stages.Base left i) q made)
    (head, ap (λ t. front ++ (word ++ t) ∷ []) same ∙ ap (λ ls. front ++ ls) (sym (last_of_name word left without (lacks-line_at_none left is))) ∙ sym lines))
named_by d s left i q front word behind (Some piece) is head without lines found =
    bind_elim (all_read piece.0 behind) (λ all. Some (at stages.Name piece.1 i)) q (IsRead d q (front ++ (word ++ behind) ∷ [])) found
    (λ all first made.
    let same : behind ≡ piece.0 = same-all_read piece.0 behind all first in
    let split = append-line_at left piece is in
    let others : List (List ℕ) = lines_of (piece.1 ++ 10 ∷ []) in
    subst (λ (p : Progress). IsRead d p (front ++ (word ++ behind) ∷ [])) (same_Some (at stages.Name piece.1 i) q made) (
      head,
      lines
          ∙ ap (λ t. front ++ lines_of ((word ++ t) ++ 10 ∷ [])) split.0
          ∙ ap (λ ls. front ++ ls) (piece_of_name word piece.0 piece.1 without split.1)
          ∙ sym (append_assoc front ((word ++ piece.0) ∷ []) others)
          ∙ ap (λ t. (front ++ (word ++ t) ∷ []) ++ others) (sym same),
    ))

named : (d : Parts) (s : Stage) (left : List ℕ) (i : Image) (q : Progress) (front : List (List ℕ)) (word behind : List ℕ)
    → IsHead d i → IsTrue (lacks 10 word) → name_lines d ≡ front ++ lines_of ((word ++ left) ++ 10 ∷ []) → name_line (at s left i) behind ≡ Some q → IsRead d q (front ++ (word ++ behind) ∷ [])
unfolding name_line
named d s left i q front word behind head without lines found = named_by d s left i q front word behind (line_at left) refl head without lines found

first : (d : Parts) (left : List ℕ) (i : Image) (line : List ℕ) (q : Progress) (lines : List (List ℕ)) → IsReadAt d stages.Image left i lines → first_line (at stages.Image left i) line ≡ Some q → IsRead d q (lines ++ line ∷ [])
unfolding first_line
first d left i line q lines h found =
    bind_elim (rest_after (codes "image ") line) _ q (IsRead d q (lines ++ line ∷ [])) found
    (λ behind begun more.
    let whole_name : name_lines d ≡ lines ++ lines_of ((codes "image " ++ left) ++ 10 ∷ []) = (λ j. sym h.2 j ++ lines_of ((codes "image " ++ sym h.1 j) ++ 10 ∷ [])) in
    subst (λ t. IsRead d q (lines ++ t ∷ [])) (sym (append-rest_after (codes "image ") line behind begun))
    (named d stages.Image left i q lines (codes "image ") behind h.0 refl whole_name more))

-- ---- the four addresses

abbrev space_is : (d : Parts) → AreWidths d → 16 ^ address_digits d ≡ 2 ^ d.pc.width
space_is d widths = address_space d.pc.width widths.pc

base : (d : Parts) (left : List ℕ) (i : Image) (line : List ℕ) (q : Progress) (lines : List (List ℕ)) → AreWidths d → IsReadAt d stages.Base left i lines → base_line d (at stages.Base left i) line ≡ Some q → IsRead d q (lines ++ line ∷ [])
unfolding base_line
base d left i line q lines widths h found =
    bind_elim (address_of (codes "base ") (address_digits d) line) _ q (IsRead d q (lines ++ line ∷ [])) found
    (λ n begun more. boundary n (nat_eq (n % word_bytes d) 0) refl (spelled-address_of (codes "base ") (address_digits d) n line begun) more)
  where
    boundary : (n : ℕ) (b : Bool) → nat_eq (n % word_bytes d) 0 ≡ b → IsAddress (codes "base ") (address_digits d) line n
        → (if b then Some (at stages.Entry left (record i { base = n })) else None) ≡ Some q → IsRead d q (lines ++ line ∷ [])
    boundary n false is address more = absurd (none-some q more)
    boundary n true is address more =
        subst (λ (p : Progress). IsRead d p (lines ++ line ∷ [])) (same_Some (at stages.Entry left (record i { base = n })) q more) (
          record {
            aligned = grind (arith, nat_tests);
            base = omega (arith, address.below, space_is d widths);
            entry = h.0.entry;
            stop = h.0.stop;
            full = h.0.full;
            data_base = h.0.data_base;
            no_code = h.0.no_code;
            no_bytes = h.0.no_bytes;
            no_symbols = h.0.no_symbols;
          },
          (λ j. h.1 j ++ address.spelled j ∷ []),
        )

entry : (d : Parts) (left : List ℕ) (i : Image) (line : List ℕ) (q : Progress) (lines : List (List ℕ)) → AreWidths d → IsReadAt d stages.Entry left i lines → entry_line d (at stages.Entry left i) line ≡ Some q → IsRead d q (lines ++ line ∷ [])
unfolding entry_line
entry d left i line q lines widths h found =
    bind_elim (address_of (codes "entry ") (address_digits d) line) _ q (IsRead d q (lines ++ line ∷ [])) found
    (λ n begun made.
    let address = spelled-address_of (codes "entry ") (address_digits d) n line begun in
    subst (λ (p : Progress). IsRead d p (lines ++ line ∷ [])) (same_Some (at stages.Stop left (record i { entry = n })) q made) (
      record {
        aligned = h.0.aligned;
        base = h.0.base;
        entry = omega (arith, address.below, space_is d widths);
        stop = h.0.stop;
        full = h.0.full;
        data_base = h.0.data_base;
        no_code = h.0.no_code;
        no_bytes = h.0.no_bytes;
        no_symbols = h.0.no_symbols;
      },
      grown (name_lines d) (address_after d (codes "base ") i.base ∷ []) lines line (address_after d (codes "entry ") n) h.1 address.spelled,
    ))

stop : (d : Parts) (left : List ℕ) (i : Image) (line : List ℕ) (q : Progress) (lines : List (List ℕ)) → AreWidths d → IsReadAt d stages.Stop left i lines → stop_line d (at stages.Stop left i) line ≡ Some q → IsRead d q (lines ++ line ∷ [])
unfolding stop_line
stop d left i line q lines widths h found =
    bind_elim (address_of (codes "stop ") (address_digits d) line) _ q (IsRead d q (lines ++ line ∷ [])) found
    (λ n begun made.
    let address = spelled-address_of (codes "stop ") (address_digits d) n line begun in
    subst (λ (p : Progress). IsRead d p (lines ++ line ∷ [])) (same_Some (at stages.Full left (record i { stop = n })) q made) (
      record {
        aligned = h.0.aligned;
        base = h.0.base;
        entry = h.0.entry;
        stop = omega (arith, address.below, space_is d widths);
        full = h.0.full;
        data_base = h.0.data_base;
        no_code = h.0.no_code;
        no_bytes = h.0.no_bytes;
        no_symbols = h.0.no_symbols;
      },
      grown (name_lines d) (address_after d (codes "base ") i.base ∷ address_after d (codes "entry ") i.entry ∷ []) lines line (address_after d (codes "stop ") n) h.1 address.spelled,
    ))

-- no code words are read before the first
no_words : (d : Parts) (i : Image) (rest : List (List ℕ)) → i.code ≡ [] → map (code_text d) i.code ++ rest ≡ rest
no_words d i rest none = ap (λ ws. map (code_text d) ws ++ rest) none

full : (d : Parts) (left : List ℕ) (i : Image) (line : List ℕ) (q : Progress) (lines : List (List ℕ)) → AreWidths d → IsReadAt d stages.Full left i lines → full_line d (at stages.Full left i) line ≡ Some q → IsRead d q (lines ++ line ∷ [])
unfolding full_line
full d left i line q lines widths h found =
    bind_elim (address_of (codes "full ") (address_digits d) line) _ q (IsRead d q (lines ++ line ∷ [])) found
    (λ n begun made.
    let address = spelled-address_of (codes "full ") (address_digits d) n line begun in
    let now : Image = record i { full = n } in
    let head : IsHead d now =
    record {
      aligned = h.0.aligned;
      base = h.0.base;
      entry = h.0.entry;
      stop = h.0.stop;
      full = omega (arith, address.below, space_is d widths);
      data_base = h.0.data_base;
      no_code = h.0.no_code;
      no_bytes = h.0.no_bytes;
      no_symbols = h.0.no_symbols;
    } in
    subst (λ (p : Progress). IsRead d p (lines ++ line ∷ [])) (same_Some (at stages.Code left now) q made) (
      record { image = head_image d now head; no_bytes = h.0.no_bytes; no_symbols = h.0.no_symbols },
      grown (name_lines d) (address_after d (codes "base ") i.base ∷ address_after d (codes "entry ") i.entry ∷ address_after d (codes "stop ") i.stop ∷ []) lines line (address_after d (codes "full ") n) h.1 address.spelled
          ∙ ap (λ ls. name_lines d ++ head_lines d now ls) (ap (map (code_text d)) (sym h.0.no_code)),
    ))

-- ---- code words

all_more : {A : Type 0} (P : A → Type 0) (xs : List A) (y : A) → AllByRecursion P xs → P y → AllByRecursion P (xs ++ y ∷ [])
all_more P [] y h p = (p, tt)
all_more P (x ∷ xs) y h p = (h.0, all_more P xs y h.1 p)

pub all_append : {A : Type 0} (P : A → Type 0) (xs ys : List A) → AllByRecursion P xs → AllByRecursion P ys → AllByRecursion P (xs ++ ys)
all_append P [] ys h k = k
all_append P (x ∷ xs) ys h k = (h.0, all_append P xs ys h.1 k)

pushed : {A : Type 0} (P : A → Type 0) (xs : List A) (y : A) → All P xs → P y → All P (xs ++ y ∷ [])
pushed P xs y h p = All-from_recursion P (xs ++ y ∷ []) (all_more P xs y (recursion_from_All P xs h) p)

joined : {A : Type 0} (P : A → Type 0) (xs ys : List A) → All P xs → AllByRecursion P ys → All P (xs ++ ys)
joined P xs ys h k = All-from_recursion P (xs ++ ys) (all_append P xs ys (recursion_from_All P xs h) k)

-- a code word more
with_code : (d : Parts) (i : Image) (word : ℕ) → IsCode d i → word < 2 ^ d.word → i.base + word_bytes d * (length i.code + 1) ≤ 2 ^ d.pc.width → IsCode d (record i { code = i.code ++ word ∷ [] })
with_code d i word h below room =
    let count : length (i.code ++ word ∷ []) ≡ length i.code + 1 = length-append i.code (word ∷ []) in
    record {
      image = record {
        aligned = h.image.aligned;
        base = h.image.base;
        entry = h.image.entry;
        stop = h.image.stop;
        full = h.image.full;
        data_base = h.image.data_base;
        words = pushed (λ w. w < 2 ^ d.word) i.code word h.image.words below;
        code_end = subst (λ n. i.base + word_bytes d * n ≤ 2 ^ d.pc.width) (sym count) room;
        bytes = h.image.bytes;
        data_end = h.image.data_end;
        symbols = h.image.symbols;
      };
      no_bytes = h.no_bytes;
      no_symbols = h.no_symbols;
    }

word : (d : Parts) (left : List ℕ) (i : Image) (line behind : List ℕ) (q : Progress) (lines : List (List ℕ)) (b : Bool) → AreWidths d → IsReadAt d stages.Code left i lines → line ≡ codes "code " ++ behind
    → has_code_room d i ≡ b → (if b then number_of (2 * word_bytes d) behind >>= (λ w. Some (at stages.Code left (record i { code = i.code ++ w ∷ [] }))) else None) ≡ Some q → IsRead d q (lines ++ line ∷ [])
word d left i line behind q lines false widths h split room found = absurd (none-some q found)
word d left i line behind q lines true widths h split room found =
    bind_elim (number_of (2 * word_bytes d) behind) _ q (IsRead d q (lines ++ line ∷ [])) found
    (λ w begun made.
    let number = spelled-number_of (2 * word_bytes d) w behind begun in
    let ends : i.base + word_bytes d * (length i.code + 1) ≤ 2 ^ d.pc.width = grind (arith, nat_tests) in
    subst (λ (p : Progress). IsRead d p (lines ++ line ∷ [])) (same_Some (at stages.Code left (record i { code = i.code ++ w ∷ [] })) q made) (
      with_code d i w h.0 (omega (arith, number.1, word_space d.word widths.word)) ends,
      grown (name_lines d) (head_lines d i (map (code_text d) i.code)) lines line (code_text d w) h.1 (split ∙ ap (λ t. codes "code " ++ t) number.0)
          ∙ ap (λ ls. name_lines d ++ head_lines d i ls) (sym (map-append (code_text d) i.code (w ∷ []))),
    ))

word_of : (d : Parts) (left : List ℕ) (i : Image) (line behind : List ℕ) (q : Progress) (lines : List (List ℕ)) → AreWidths d → IsReadAt d stages.Code left i lines → line ≡ codes "code " ++ behind
    → word_line d (at stages.Code left i) behind ≡ Some q → IsRead d q (lines ++ line ∷ [])
unfolding word_line
word_of d left i line behind q lines widths h split found = word d left i line behind q lines (has_code_room d i) widths h split refl found

-- the address of the data, behind which no bytes are read yet
with_data_base : (d : Parts) (i : Image) (n : ℕ) → IsCode d i → n < 2 ^ d.pc.width → IsData d (record i { data_base = n })
with_data_base d i n h below = record {
  image = record {
    aligned = h.image.aligned;
    base = h.image.base;
    entry = h.image.entry;
    stop = h.image.stop;
    full = h.image.full;
    data_base = below;
    words = h.image.words;
    code_end = h.image.code_end;
    bytes = h.image.bytes;
    data_end = subst (λ (bs : List ℕ). n + length bs ≤ 2 ^ d.pc.width) (sym h.no_bytes) (omega (arith, below));
    symbols = h.image.symbols;
  };
  rows = 0;
  full = ap (λ (bs : List ℕ). length bs) h.no_bytes;
  no_symbols = h.no_symbols;
}

data_base_of : (d : Parts) (left : List ℕ) (i : Image) (line : List ℕ) (q : Progress) (lines : List (List ℕ)) → AreWidths d → IsReadAt d stages.Code left i lines → data_base_line d (at stages.Code left i) line ≡ Some q → IsRead d q (lines ++ line ∷ [])
unfolding data_base_line
data_base_of d left i line q lines widths h found =
    bind_elim (address_of (codes "data ") (address_digits d) line) _ q (IsRead d q (lines ++ line ∷ [])) found
    (λ n begun made.
    let address = spelled-address_of (codes "data ") (address_digits d) n line begun in
    let now : Image = record i { data_base = n } in
    let text : List ℕ = address_after d (codes "data ") n in
    let words : List (List ℕ) = map (code_text d) i.code in
    subst (λ (p : Progress). IsRead d p (lines ++ line ∷ [])) (same_Some (at stages.Bytes left now) q made) (
      with_data_base d i n h.0 (omega (arith, address.below, space_is d widths)),
      grown (name_lines d) (head_lines d i words) lines line text h.1 address.spelled
          ∙ ap (λ bs. name_lines d ++ head_lines d now (words ++ (text ∷ data_lines bs))) (sym h.0.no_bytes),
    ))

code_by : (d : Parts) (left : List ℕ) (i : Image) (line : List ℕ) (q : Progress) (lines : List (List ℕ)) (o : Option (List ℕ)) → AreWidths d → IsReadAt d stages.Code left i lines → rest_after (codes "code ") line ≡ o
    → elim o [ None ↦ data_base_line d (at stages.Code left i) line | Some behind ↦ word_line d (at stages.Code left i) behind ] ≡ Some q → IsRead d q (lines ++ line ∷ [])
code_by d left i line q lines None widths h is found = data_base_of d left i line q lines widths h found
code_by d left i line q lines (Some behind) widths h is found = word_of d left i line behind q lines widths h (append-rest_after (codes "code ") line behind is) found

code : (d : Parts) (left : List ℕ) (i : Image) (line : List ℕ) (q : Progress) (lines : List (List ℕ)) → AreWidths d → IsReadAt d stages.Code left i lines → code_line d (at stages.Code left i) line ≡ Some q → IsRead d q (lines ++ line ∷ [])
unfolding code_line
code d left i line q lines widths h found = code_by d left i line q lines (rest_after (codes "code ") line) widths h refl found

-- ---- symbols and the end

-- no symbols are read before the first
symbols_next : (d : Parts) (left : List ℕ) (i : Image) (lines : List (List ℕ)) → IsReadAt d stages.Bytes left i lines → IsReadAt d stages.Symbols left i lines
symbols_next d left i lines h =
    let front : List (List ℕ) → List (List ℕ) = λ ls. name_lines d ++ head_lines d i (map (code_text d) i.code ++ (data_base_text d i ∷ ls)) in
    (h.0.image, h.1 ∙ ap front (sym (append-nil (data_lines i.bytes)) ∙ ap (λ ss. data_lines i.bytes ++ map (symbol_text d) ss) (sym h.0.no_symbols)))

-- lines behind all others that are read
behind_symbols : (d : Parts) (i : Image) (lines : List (List ℕ)) (line text : List ℕ) → lines ≡ name_lines d ++ head_lines d i (map (code_text d) i.code ++ (data_base_text d i ∷ (data_lines i.bytes ++ map (symbol_text d) i.symbols))) → line ≡ text
    → lines ++ line ∷ [] ≡ name_lines d ++ head_lines d i (map (code_text d) i.code ++ (data_base_text d i ∷ (data_lines i.bytes ++ (map (symbol_text d) i.symbols ++ text ∷ []))))
behind_symbols d i lines line text are is =
    let symbols : List (List ℕ) = map (symbol_text d) i.symbols in
    let data_part : List (List ℕ) = data_base_text d i ∷ (data_lines i.bytes ++ symbols) in
    grown (name_lines d) (head_lines d i (map (code_text d) i.code ++ data_part)) lines line text are is
    ∙ ap (λ ls. name_lines d ++ head_lines d i ls)
    (append_assoc (map (code_text d) i.code) data_part (text ∷ [])
    ∙ ap (λ ls. map (code_text d) i.code ++ (data_base_text d i ∷ ls)) (append_assoc (data_lines i.bytes) symbols (text ∷ [])))

with_symbol : (d : Parts) (i : Image) (symbol : Symbol) → IsImage d i → IsSymbol d symbol → IsImage d (record i { symbols = i.symbols ++ symbol ∷ [] })
with_symbol d i symbol h is = record {
  aligned = h.aligned;
  base = h.base;
  entry = h.entry;
  stop = h.stop;
  full = h.full;
  data_base = h.data_base;
  words = h.words;
  code_end = h.code_end;
  bytes = h.bytes;
  data_end = h.data_end;
  symbols = pushed (IsSymbol d) i.symbols symbol h.symbols is;
}

«end» : (d : Parts) (s : Stage) (left : List ℕ) (i : Image) (line : List ℕ) (q : Progress) (lines : List (List ℕ)) → IsReadAt d stages.Symbols left i lines → end_line (at s left i) line ≡ Some q → IsRead d q (lines ++ line ∷ [])
unfolding end_line
«end» d s left i line q lines h found =
    bind_elim (all_read (codes "end") line) _ q (IsRead d q (lines ++ line ∷ [])) found
    (λ all begun made.
    subst (λ (p : Progress). IsRead d p (lines ++ line ∷ [])) (same_Some (at stages.End left i) q made)
    (h.0, behind_symbols d i lines line (codes "end") h.1 (same-all_read (codes "end") line all begun)))

symbol_by : (d : Parts) (s : Stage) (left : List ℕ) (i : Image) (line : List ℕ) (q : Progress) (lines : List (List ℕ)) (o : Option (List ℕ)) → AreWidths d → IsReadAt d stages.Symbols left i lines → rest_after (codes "symbol ") line ≡ o
    → elim o [ None ↦ end_line (at s left i) line | Some behind ↦ symbol_of (address_digits d) behind >>= (λ symbol. Some (at stages.Symbols left (record i { symbols = i.symbols ++ symbol ∷ [] }))) ] ≡ Some q → IsRead d q (lines ++ line ∷ [])
symbol_by d s left i line q lines None widths h is found = «end» d s left i line q lines h found
symbol_by d s left i line q lines (Some behind) widths h is found =
    bind_elim (symbol_of (address_digits d) behind) _ q (IsRead d q (lines ++ line ∷ [])) found
    (λ symbol begun made.
    let text = spelled-symbol_of (address_digits d) behind symbol begun in
    let now : Image = record i { symbols = i.symbols ++ symbol ∷ [] } in
    let spelled : line ≡ symbol_text d symbol =
    append-rest_after (codes "symbol ") line behind is ∙ ap (λ t. codes "symbol " ++ t) text.spelled ∙ sym (append_assoc (codes "symbol ") symbol.name (address_after d (codes " ") symbol.at)) in
    subst (λ (p : Progress). IsRead d p (lines ++ line ∷ [])) (same_Some (at stages.Symbols left now) q made) (
      with_symbol d i symbol h.0 (text.word, omega (arith, text.below, space_is d widths)),
      behind_symbols d i lines line (symbol_text d symbol) h.1 spelled
          ∙ ap (λ ls. name_lines d ++ head_lines d i (map (code_text d) i.code ++ (data_base_text d i ∷ (data_lines i.bytes ++ ls)))) (sym (map-append (symbol_text d) i.symbols (symbol ∷ []))),
    ))

symbol_next : (d : Parts) (s : Stage) (left : List ℕ) (i : Image) (line : List ℕ) (q : Progress) (lines : List (List ℕ)) → AreWidths d → IsReadAt d stages.Symbols left i lines → symbol_line d (at s left i) line ≡ Some q → IsRead d q (lines ++ line ∷ [])
unfolding symbol_line
symbol_next d s left i line q lines widths h found = symbol_by d s left i line q lines (rest_after (codes "symbol ") line) widths h refl found

-- ---- bytes of data

with_bytes : (d : Parts) (i : Image) (more : List ℕ) → IsImage d i → AllByRecursion (λ byte. byte < 256) more → i.data_base + length i.bytes + length more ≤ 2 ^ d.pc.width → IsImage d (record i { bytes = i.bytes ++ more })
with_bytes d i more h below room = record {
  aligned = h.aligned;
  base = h.base;
  entry = h.entry;
  stop = h.stop;
  full = h.full;
  data_base = h.data_base;
  words = h.words;
  code_end = h.code_end;
  bytes = joined (λ byte. byte < 256) i.bytes more h.bytes below;
  data_end = omega (arith, room, length-append i.bytes more);
  symbols = h.symbols;
}

-- the lines with one of data more
with_row : (d : Parts) (i : Image) (more line : List ℕ) (lines : List (List ℕ)) → IsData d i → 0 < length more → length more ≤ 16 → lines ≡ name_lines d ++ head_lines d i (map (code_text d) i.code ++ (data_base_text d i ∷ data_lines i.bytes)) → line ≡ bytes_text more
    → lines ++ line ∷ [] ≡ name_lines d ++ head_lines d i (map (code_text d) i.code ++ (data_base_text d i ∷ data_lines (i.bytes ++ more)))
with_row d i more line lines h some few are is =
    let rows : List (List ℕ) = data_base_text d i ∷ data_lines i.bytes in
    grown (name_lines d) (head_lines d i (map (code_text d) i.code ++ rows)) lines line (bytes_text more) are is
    ∙ ap (λ ls. name_lines d ++ head_lines d i ls)
    (append_assoc (map (code_text d) i.code) rows (bytes_text more ∷ [])
    ∙ ap (λ ls. map (code_text d) i.code ++ (data_base_text d i ∷ ls)) (sym (data_lines-more h.rows i.bytes more h.full some few)))

-- others may follow 16 bytes, and none fewer
after_bytes : (d : Parts) (left : List ℕ) (i : Image) (more line : List ℕ) (lines : List (List ℕ)) (b : Bool) → IsReadAt d stages.Bytes left i lines → nat_eq (length more) 16 ≡ b → AllByRecursion (λ byte. byte < 256) more → i.data_base + length i.bytes + length more ≤ 2 ^ d.pc.width
    → 0 < length more → length more ≤ 16 → line ≡ bytes_text more → IsReadAt d (if b then stages.Bytes else stages.Symbols) left (record i { bytes = i.bytes ++ more }) (lines ++ line ∷ [])
after_bytes d left i more line lines true h is below room some few spelled =
    let all : length more ≡ 16 = grind (arith, nat_tests) in (
      record {
        image = with_bytes d i more h.0.image below room;
        rows = h.0.rows + 1;
        full = omega (arith, length-append i.bytes more, h.0.full, all);
        no_symbols = h.0.no_symbols;
      },
      with_row d i more line lines h.0 some few h.1 spelled,
    )
after_bytes d left i more line lines false h is below room some few spelled =
    let front : List (List ℕ) → List (List ℕ) = λ ls. name_lines d ++ head_lines d i (map (code_text d) i.code ++ (data_base_text d i ∷ ls)) in (
      with_bytes d i more h.0.image below room,
      with_row d i more line lines h.0 some few h.1 spelled
          ∙ ap front (sym (append-nil (data_lines (i.bytes ++ more))) ∙ ap (λ ss. data_lines (i.bytes ++ more) ++ map (symbol_text d) ss) (sym h.0.no_symbols)),
    )

-- what the room for a line says
record HasRoom (d : Parts) (i : Image) (count : ℕ) : Type 0 where
  some : 0 < count
  few : count ≤ 16
  within : i.data_base + length i.bytes + count ≤ 2 ^ d.pc.width

has_room : (d : Parts) (i : Image) (count : ℕ) → has_data_room d i count ≡ true → HasRoom d i count
has_room d i count h =
    let first_two = and_parts (nat_lt 0 count && nat_le count 16) (nat_le (i.data_base + length i.bytes + count) (2 ^ d.pc.width)) h in
    let parts = and_parts (nat_lt 0 count) (nat_le count 16) first_two.0 in
    let a = parts.0 in
    let b = parts.1 in
    let c = first_two.1 in
    record { some = grind (arith, nat_tests, a); few = grind (arith, nat_tests, b); within = grind (arith, nat_tests, c) }

bytes_read : (d : Parts) (left : List ℕ) (i : Image) (line behind : List ℕ) (q : Progress) (lines : List (List ℕ)) (b : Bool) → IsReadAt d stages.Bytes left i lines → line ≡ codes "bytes " ++ behind → has_data_room d i (length behind / 2) ≡ b
    → (if b then with_front i.bytes (bytes_at (length behind / 2) behind) >>= (λ read. whole (at (if nat_eq (length behind / 2) 16 then stages.Bytes else stages.Symbols) left (record i { bytes = read.0 })) read.1) else None) ≡ Some q
    → IsRead d q (lines ++ line ∷ [])
bytes_read d left i line behind q lines false h split room found = absurd (none-some q found)
bytes_read d left i line behind q lines true h split room found =
    let count : ℕ = length behind / 2 in
    let has = has_room d i count room in
    bind_elim (with_front i.bytes (bytes_at count behind)) _ q (IsRead d q (lines ++ line ∷ [])) found
    (λ read begun all. bind_elim (bytes_at count behind) (λ x. Some (i.bytes ++ x.0, x.1)) read (IsRead d q (lines ++ line ∷ [])) begun
    (λ x more_read put.
    let bytes = spelled-bytes_at count behind x more_read in
    let same : (i.bytes ++ x.0, x.1) ≡ read = same_Some (i.bytes ++ x.0, x.1) read put in
    let last = whole_some (at (if nat_eq count 16 then stages.Bytes else stages.Symbols) left (record i { bytes = read.0 })) q read.1 all in
    let none : x.1 ≡ [] = ap (λ (p : List ℕ × List ℕ). p.1) same ∙ last.0 in
    let spelled : line ≡ bytes_text x.0 = split ∙ ap (λ t. codes "bytes " ++ t) (bytes.spelled ∙ ap (λ t. bytes_spelled x.0 ++ t) none ∙ append-nil (bytes_spelled x.0)) in
    let made : at (if nat_eq (length x.0) 16 then stages.Bytes else stages.Symbols) left (record i { bytes = i.bytes ++ x.0 }) ≡ q =
    ap (λ n. at (if nat_eq n 16 then stages.Bytes else stages.Symbols) left (record i { bytes = i.bytes ++ x.0 })) bytes.count_is
    ∙ ap (λ (p : List ℕ × List ℕ). at (if nat_eq count 16 then stages.Bytes else stages.Symbols) left (record i { bytes = p.0 })) same
    ∙ last.1 in
    subst (λ (p : Progress). IsRead d p (lines ++ line ∷ [])) made
    (after_bytes d left i x.0 line lines (nat_eq (length x.0) 16) h refl bytes.below (omega (arith, has.within, bytes.count_is)) (omega (arith, has.some, bytes.count_is)) (omega (arith, has.few, bytes.count_is)) spelled)))

data_of : (d : Parts) (left : List ℕ) (i : Image) (line behind : List ℕ) (q : Progress) (lines : List (List ℕ)) → IsReadAt d stages.Bytes left i lines → line ≡ codes "bytes " ++ behind → data_line d (at stages.Bytes left i) behind ≡ Some q → IsRead d q (lines ++ line ∷ [])
unfolding data_line
data_of d left i line behind q lines h split found = bytes_read d left i line behind q lines (has_data_room d i (length behind / 2)) h split refl found

bytes_by : (d : Parts) (left : List ℕ) (i : Image) (line : List ℕ) (q : Progress) (lines : List (List ℕ)) (o : Option (List ℕ)) → AreWidths d → IsReadAt d stages.Bytes left i lines → rest_after (codes "bytes ") line ≡ o
    → elim o [ None ↦ symbol_line d (at stages.Bytes left i) line | Some behind ↦ data_line d (at stages.Bytes left i) behind ] ≡ Some q → IsRead d q (lines ++ line ∷ [])
bytes_by d left i line q lines None widths h is found = symbol_next d stages.Bytes left i line q lines widths (symbols_next d left i lines h) found
bytes_by d left i line q lines (Some behind) widths h is found = data_of d left i line behind q lines h (append-rest_after (codes "bytes ") line behind is) found

bytes : (d : Parts) (left : List ℕ) (i : Image) (line : List ℕ) (q : Progress) (lines : List (List ℕ)) → AreWidths d → IsReadAt d stages.Bytes left i lines → bytes_line d (at stages.Bytes left i) line ≡ Some q → IsRead d q (lines ++ line ∷ [])
unfolding bytes_line
bytes d left i line q lines widths h found = bytes_by d left i line q lines (rest_after (codes "bytes ") line) widths h refl found

-- ---- any line

pub line_adds : (d : Parts) (s : Stage) (left : List ℕ) (i : Image) (line : List ℕ) (q : Progress) (lines : List (List ℕ)) → AreWidths d → IsReadAt d s left i lines → line_read d (at s left i) line ≡ Some q → IsRead d q (lines ++ line ∷ [])
unfolding line_read
line_adds d stages.Image left i line q lines widths h found = first d left i line q lines h found
line_adds d stages.Name left i line q lines widths h found = named d stages.Name left i q lines [] line h.0 refl h.1 found
line_adds d stages.Base left i line q lines widths h found = base d left i line q lines widths h found
line_adds d stages.Entry left i line q lines widths h found = entry d left i line q lines widths h found
line_adds d stages.Stop left i line q lines widths h found = stop d left i line q lines widths h found
line_adds d stages.Full left i line q lines widths h found = full d left i line q lines widths h found
line_adds d stages.Code left i line q lines widths h found = code d left i line q lines widths h found
line_adds d stages.Bytes left i line q lines widths h found = bytes d left i line q lines widths h found
line_adds d stages.Symbols left i line q lines widths h found = symbol_next d stages.Symbols left i line q lines widths h found
line_adds d stages.End left i line q lines widths h found = absurd (none-some q found)
