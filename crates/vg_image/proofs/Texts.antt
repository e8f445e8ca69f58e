-- The parts of single lines: what is read is spelled so, and what is spelled so is read.
use Rattle.std.proofs.Common.{◌≡◌, ℕ, zero, suc, ◌+◌, ◌-◌, ◌*◌, ◌/◌, ◌^◌, ◌<◌, ◌≤◌, IsTrue, Bool, true, false, List, [], ◌∷◌, ◌++◌, length, take, drop, Option, Some, None, refl, ap, sym, ◌∙◌, subst, append_assoc, arith, length-append, length-drop, if◌then◌else◌}
use Rattle.std.specs.Prelude.{codes, flat_map}
use Rattle.std.specs.List.{AllByRecursion}
use Rattle.std.proofs.lemmas.Option.{none-some, same_Some}
use Rattle.std.proofs.lemmas.List.{append-nil, drop_at, take-append-drop, take_at}
use Rattle.vg_text.specs.Number.{hexadecimal, hexadecimal_at}
use Rattle.vg_text.specs.Piece.{rest_after}
use Rattle.vg_text.proofs.Pieces.{append-rest_after, rest_after-append}
use Rattle.vg_text.proofs.Hexadecimal.{hexadecimal-hexadecimal_at, hexadecimal_at-hexadecimal, length-hexadecimal}
use Rattle.vg_image.specs.declared.image.Symbol.{Symbol}
use Rattle.vg_image.specs.Reader.{◌>>=◌, address_of, all_read, bytes_at, number_of, symbol_of, whole, with_byte}
use Rattle.vg_image.specs.Spelling.{is_word}
use Rattle.vg_image.proofs.Bind.{bind_elim}

-- ---- nothing behind

pub whole_some : {A : Type 0} (x y : A) (rest : List ℕ) → whole x rest ≡ Some y → (rest ≡ []) × (x ≡ y)
whole_some x y [] is = (refl, same_Some x y is)
whole_some x y (c ∷ rest) is = absurd (none-some y is)

pub all_read-same : (text : List ℕ) → all_read text text ≡ Some text
all_read-same text =
    ap (λ t. rest_after text t >>= (λ rest. whole text rest)) (sym (append-nil text))
    ∙ ap (λ o. o >>= (λ rest. whole text rest)) (rest_after-append text [])

pub same-all_read : (text line x : List ℕ) → all_read text line ≡ Some x → line ≡ text
same-all_read text line x is =
    bind_elim (rest_after text line) (λ rest. whole text rest) x (line ≡ text) is
    (λ rest found all. append-rest_after text line rest found ∙ ap (λ t. text ++ t) (whole_some text x rest all).0 ∙ append-nil text)

-- ---- numbers

pub number_of-spelled : (digits n : ℕ) → n < 16 ^ digits → number_of digits (hexadecimal digits n) ≡ Some n
unfolding number_of
number_of-spelled digits n below =
    ap (λ t. hexadecimal_at digits t >>= (λ found. whole found.0 found.1)) (sym (append-nil (hexadecimal digits n)))
    ∙ ap (λ o. o >>= (λ found. whole found.0 found.1)) (hexadecimal_at-hexadecimal digits n [] below)

pub spelled-number_of : (digits n : ℕ) (text : List ℕ) → number_of digits text ≡ Some n → (text ≡ hexadecimal digits n) × (n < 16 ^ digits)
unfolding number_of
spelled-number_of digits n text is =
    bind_elim (hexadecimal_at digits text) (λ found. whole found.0 found.1) n ((text ≡ hexadecimal digits n) × (n < 16 ^ digits)) is
    (λ found first all.
    let end = whole_some found.0 n found.1 all in
    let number = hexadecimal-hexadecimal_at digits text found first in (
      number.0 ∙ (λ j. hexadecimal digits (end.1 j) ++ end.0 j) ∙ append-nil (hexadecimal digits n),
      subst (λ m. m < 16 ^ digits) end.1 number.1,
    ))

-- ---- addresses

-- an address behind a word
abbrev pub address_spelled : List ℕ → ℕ → ℕ → List ℕ
address_spelled word digits n = word ++ (codes "0x" ++ hexadecimal digits n)

pub address_of-spelled : (word : List ℕ) (digits n : ℕ) → n < 16 ^ digits → address_of word digits (address_spelled word digits n) ≡ Some n
unfolding address_of
address_of-spelled word digits n below =
    ap (λ o. o >>= (λ front. rest_after (codes "0x") front >>= (λ rest. number_of digits rest))) (rest_after-append word (codes "0x" ++ hexadecimal digits n))
    ∙ ap (λ o. o >>= (λ rest. number_of digits rest)) (rest_after-append (codes "0x") (hexadecimal digits n))
    ∙ number_of-spelled digits n below

pub record IsAddress (word : List ℕ) (digits : ℕ) (line : List ℕ) (n : ℕ) : Type 0 where
  pub spelled : line ≡ address_spelled word digits n
  pub below : n < 16 ^ digits

pub spelled-address_of : (word : List ℕ) (digits n : ℕ) (line : List ℕ) → address_of word digits line ≡ Some n → IsAddress word digits line n
unfolding address_of
spelled-address_of word digits n line is =
    bind_elim (rest_after word line) (λ front. rest_after (codes "0x") front >>= λ rest. number_of digits rest) n (IsAddress word digits line n) is
    (λ front first more. bind_elim (rest_after (codes "0x") front) (λ rest. number_of digits rest) n (IsAddress word digits line n) more
    (λ rest second last.
    let number = spelled-number_of digits n rest last in
    record {
      spelled = append-rest_after word line front first ∙ ap (λ t. word ++ t) (append-rest_after (codes "0x") front rest second ∙ ap (λ t. codes "0x" ++ t) number.0);
      below = number.1;
    }))

-- ---- bytes

abbrev pub bytes_spelled : List ℕ → List ℕ
bytes_spelled bytes = flat_map (hexadecimal 2) bytes

pub length-bytes_spelled : (bytes : List ℕ) → length (bytes_spelled bytes) ≡ 2 * length bytes
length-bytes_spelled [] = refl
length-bytes_spelled (byte ∷ bytes) = omega (arith, length-append (hexadecimal 2 byte) (bytes_spelled bytes), length-hexadecimal 2 byte, length-bytes_spelled bytes)

pub bytes_at-spelled : (bytes rest : List ℕ) → AllByRecursion (λ byte. byte < 256) bytes → bytes_at (length bytes) (bytes_spelled bytes ++ rest) ≡ Some (bytes, rest)
unfolding bytes_at
bytes_at-spelled [] rest below = refl
bytes_at-spelled (byte ∷ bytes) rest below =
    ap (λ t. hexadecimal_at 2 t >>= (λ found. with_byte found.0 (bytes_at (length bytes) found.1))) (append_assoc (hexadecimal 2 byte) (bytes_spelled bytes) rest)
    ∙ ap (λ o. o >>= (λ found. with_byte found.0 (bytes_at (length bytes) found.1))) (hexadecimal_at-hexadecimal 2 byte (bytes_spelled bytes ++ rest) below.0)
    ∙ ap (with_byte byte) (bytes_at-spelled bytes rest below.1)

pub record AreRead (count : ℕ) (text : List ℕ) (x : List ℕ × List ℕ) : Type 0 where
  pub spelled : text ≡ bytes_spelled x.0 ++ x.1
  pub below : AllByRecursion (λ byte. byte < 256) x.0
  pub count_is : length x.0 ≡ count

pub spelled-bytes_at : (count : ℕ) (text : List ℕ) (x : List ℕ × List ℕ) → bytes_at count text ≡ Some x → AreRead count text x
unfolding bytes_at
spelled-bytes_at zero text x is = subst (AreRead 0 text) (same_Some ([], text) x is) (record { spelled = refl; below = tt; count_is = refl })
spelled-bytes_at (suc count) text x is =
    bind_elim (hexadecimal_at 2 text) (λ found. with_byte found.0 (bytes_at count found.1)) x (AreRead (suc count) text x) is
    (λ found first more. bind_elim (bytes_at count found.1) (λ read. Some (found.0 ∷ read.0, read.1)) x (AreRead (suc count) text x) more
    (λ read others made.
    let number = hexadecimal-hexadecimal_at 2 text found first in
    let tail = spelled-bytes_at count found.1 read others in
    subst (AreRead (suc count) text) (same_Some (found.0 ∷ read.0, read.1) x made)
    (record {
      spelled = number.0 ∙ ap (λ t. hexadecimal 2 found.0 ++ t) tail.spelled ∙ sym (append_assoc (hexadecimal 2 found.0) (bytes_spelled read.0) read.1);
      below = (number.1, tail.below);
      count_is = ap suc tail.count_is;
    })))

-- ---- symbols

-- a symbol's name in front of its address
abbrev pub symbol_spelled : ℕ → Symbol → List ℕ
symbol_spelled digits symbol = symbol.name ++ address_spelled (codes " ") digits symbol.at

abbrev name_read : ℕ → List ℕ → List ℕ → Option Symbol
name_read digits name back = if is_word name then (address_of (codes " ") digits back >>= (λ at. Some (record { name = name; at = at }))) else None

symbol_of-name : (digits : ℕ) (text : List ℕ) → symbol_of digits text ≡ name_read digits (take (length text - (digits + 3)) text) (drop (length text - (digits + 3)) text)
unfolding symbol_of
symbol_of-name digits text = refl

length-address : (digits n : ℕ) → length (address_spelled (codes " ") digits n) ≡ digits + 3
length-address digits n = omega (arith, length-hexadecimal digits n)

name_behind : (digits : ℕ) (symbol : Symbol) → length (symbol_spelled digits symbol) - (digits + 3) ≡ length symbol.name
name_behind digits symbol = omega (arith, length-append symbol.name (address_spelled (codes " ") digits symbol.at), length-address digits symbol.at)

pub symbol_of-spelled : (digits : ℕ) (symbol : Symbol) → IsTrue (is_word symbol.name) → symbol.at < 16 ^ digits → symbol_of digits (symbol_spelled digits symbol) ≡ Some symbol
symbol_of-spelled digits symbol word below =
    let back : List ℕ = address_spelled (codes " ") digits symbol.at in
    symbol_of-name digits (symbol_spelled digits symbol)
    ∙ ap (λ n. name_read digits (take n (symbol_spelled digits symbol)) (drop n (symbol_spelled digits symbol))) (name_behind digits symbol)
    ∙ (λ j. name_read digits (take_at symbol.name back (length symbol.name) refl j) (drop_at symbol.name back (length symbol.name) refl j))
    ∙ ap (λ b. if b then (address_of (codes " ") digits back >>= (λ at. Some (record { name = symbol.name; at = at }))) else None) word
    ∙ ap (λ o. o >>= (λ at. Some (record { name = symbol.name; at = at }))) (address_of-spelled (codes " ") digits symbol.at below)

pub record IsSymbolText (digits : ℕ) (text : List ℕ) (symbol : Symbol) : Type 0 where
  pub spelled : text ≡ symbol_spelled digits symbol
  pub word : IsTrue (is_word symbol.name)
  pub below : symbol.at < 16 ^ digits

named : (digits : ℕ) (text name back : List ℕ) (symbol : Symbol) (b : Bool) → is_word name ≡ b → text ≡ name ++ back
    → (if b then (address_of (codes " ") digits back >>= (λ at. Some (record { name = name; at = at }))) else None) ≡ Some symbol → IsSymbolText digits text symbol
named digits text name back symbol false is split found = absurd (none-some symbol found)
named digits text name back symbol true is split found =
    bind_elim (address_of (codes " ") digits back) (λ at. Some (record { name = name; at = at })) symbol (IsSymbolText digits text symbol) found
    (λ at first made.
    let address = spelled-address_of (codes " ") digits at back first in
    subst (IsSymbolText digits text) (same_Some (record { name = name; at = at }) symbol made)
    (record { spelled = split ∙ ap (λ t. name ++ t) address.spelled; word = is; below = address.below }))

pub spelled-symbol_of : (digits : ℕ) (text : List ℕ) (symbol : Symbol) → symbol_of digits text ≡ Some symbol → IsSymbolText digits text symbol
spelled-symbol_of digits text symbol is =
    let at : ℕ = length text - (digits + 3) in
    named digits text (take at text) (drop at text) symbol (is_word (take at text)) refl (sym (take-append-drop at text)) (sym (symbol_of-name digits text) ∙ is)
