-- The lines of a text, one by one.
use Rattle.std.proofs.Common.{◌≡◌, ℕ, ◌+◌, ◌<◌, IsTrue, not, eqb, List, [], ◌∷◌, ◌++◌, length, Option, Some, None, unwrap_or, refl, ap, sym, ◌∙◌, subst, inl, inr, append_assoc, arith, length-append, if◌then◌else◌}
use Rattle.std.specs.Prelude.{flat_map}
use Rattle.std.specs.List.{AllByRecursion}
use Rattle.std.proofs.lemmas.Bool.{and_parts, cases_eq, eq-eqb, ne_eqb, not-true}
use Rattle.std.proofs.lemmas.List.{append-nil}
use Rattle.vg_text.specs.Piece.{lacks, line_at}
use Rattle.vg_text.proofs.Pieces.{append-line_at, cases_option, lacks-line_at_none}
use Rattle.vg_image.specs.Lines.{ended_line, led_by, lines_of}
use Rattle.vg_image.specs.Reader.{line_split}

-- a line with its line feed, and what follows it
pub lines_of-line : (line rest : List ℕ) → IsTrue (lacks 10 line) → lines_of (line ++ 10 ∷ rest) ≡ line ∷ lines_of rest
unfolding lines_of
lines_of-line [] rest without = refl
lines_of-line (c ∷ line) rest without =
    let parts = and_parts (not (eqb c 10)) (lacks 10 line) without in
    rw (not-true (eqb c 10) parts.0, lines_of-line line rest parts.1) refl

-- a rest without a line feed
pub lines_of-rest : (c : ℕ) (line : List ℕ) → IsTrue (lacks 10 (c ∷ line)) → lines_of (c ∷ line) ≡ (c ∷ line) ∷ []
unfolding lines_of
lines_of-rest c [] without =
    let parts = and_parts (not (eqb c 10)) (lacks 10 []) without in
    rw (not-true (eqb c 10) parts.0) refl
lines_of-rest c (e ∷ line) without =
    let parts = and_parts (not (eqb c 10)) (lacks 10 (e ∷ line)) without in
    rw (not-true (eqb c 10) parts.0) (ap (led_by c) (lines_of-rest e line parts.1))

pub lines_of-none : lines_of [] ≡ []
unfolding lines_of
lines_of-none = refl

-- the first line of a text that isn't empty, and the others
pub record IsSplit (text line rest : List ℕ) : Type 0 where
  pub lines : lines_of text ≡ line ∷ lines_of rest
  pub shorter : length rest < length text

split_at : (c : ℕ) (text : List ℕ) (o : Option (List ℕ × List ℕ)) → line_at (c ∷ text) ≡ o → IsSplit (c ∷ text) (unwrap_or o (c ∷ text, [])).0 (unwrap_or o (c ∷ text, [])).1
split_at c text None is = record {
  lines = lines_of-rest c text (lacks-line_at_none (c ∷ text) is) ∙ ap (λ ls. (c ∷ text) ∷ ls) (sym lines_of-none);
  shorter = omega arith;
}
split_at c text (Some split) is =
    let found = append-line_at (c ∷ text) split is in
    record {
      lines = ap lines_of found.0 ∙ lines_of-line split.0 split.1 found.1;
      shorter = omega (arith, ap length found.0, length-append split.0 (10 ∷ split.1));
    }

pub is_split : (text : List ℕ) → 0 < length text → IsSplit text (line_split text).0 (line_split text).1
is_split [] some = absurd (omega arith)
is_split (c ∷ text) some = split_at c text (line_at (c ∷ text)) refl

-- ---- lines that are put together

-- a text that ends with a line feed has a line
pub record HasFirst (lines : List (List ℕ)) : Type 0 where
  pub first : List ℕ
  pub others : List (List ℕ)
  pub is : lines ≡ first ∷ others

pub ended_has_first : (text : List ℕ) → HasFirst (lines_of (text ++ 10 ∷ []))
unfolding lines_of
ended_has_first [] = record { first = []; others = []; is = refl }
ended_has_first (c ∷ text) =
    let tail = ended_has_first text in
    elim (cases_eq c 10) [
      | inl same ↦ record { first = []; others = lines_of (text ++ 10 ∷ []); is = rw (eq-eqb c 10 same) refl }
      | inr other ↦ record { first = c ∷ tail.first; others = tail.others; is = rw (ne_eqb c 10 other) (ap (led_by c) tail.is) }
    ]

led_joined : (c : ℕ) (lines : List (List ℕ)) → HasFirst lines → flat_map ended_line (led_by c lines) ≡ c ∷ flat_map ended_line lines
led_joined c lines has =
    ap (λ ls. flat_map ended_line (led_by c ls)) has.is ∙ ap (λ ls. c ∷ flat_map ended_line ls) (sym has.is)

-- such a text is its lines
pub joined-lines_of : (text : List ℕ) → flat_map ended_line (lines_of (text ++ 10 ∷ [])) ≡ text ++ 10 ∷ []
unfolding lines_of
joined-lines_of [] = refl
joined-lines_of (c ∷ text) =
    elim (cases_eq c 10) [
      | inl same ↦ rw (eq-eqb c 10 same) (λ j. sym same j ∷ joined-lines_of text j)
      | inr other ↦ rw (ne_eqb c 10 other) (led_joined c (lines_of (text ++ 10 ∷ [])) (ended_has_first text) ∙ ap (λ t. c ∷ t) (joined-lines_of text))
    ]

led_more : (c : ℕ) (lines more : List (List ℕ)) → HasFirst lines → led_by c (lines ++ more) ≡ led_by c lines ++ more
led_more c lines more has =
    ap (λ ls. led_by c (ls ++ more)) has.is ∙ ap (λ ls. led_by c ls ++ more) (sym has.is)

-- what follows a line feed are lines of their own
pub lines_of-ended : (text rest : List ℕ) → lines_of (text ++ 10 ∷ rest) ≡ lines_of (text ++ 10 ∷ []) ++ lines_of rest
unfolding lines_of
lines_of-ended [] rest = refl
lines_of-ended (c ∷ text) rest =
    elim (cases_eq c 10) [
      | inl same ↦ rw (eq-eqb c 10 same) (ap (λ ls. [] ∷ ls) (lines_of-ended text rest))
      | inr other ↦ rw (ne_eqb c 10 other) (ap (led_by c) (lines_of-ended text rest) ∙ led_more c (lines_of (text ++ 10 ∷ [])) (lines_of rest) (ended_has_first text))
    ]

-- lines that have no line feed
abbrev pub AreLines : List (List ℕ) → Type 0
AreLines lines = AllByRecursion (λ line. IsTrue (lacks 10 line)) lines

pub lines_of-joined : (lines : List (List ℕ)) → AreLines lines → lines_of (flat_map ended_line lines) ≡ lines
lines_of-joined [] without = lines_of-none
lines_of-joined (line ∷ lines) without =
    ap lines_of (append_assoc line (10 ∷ []) (flat_map ended_line lines))
    ∙ lines_of-line line (flat_map ended_line lines) without.0
    ∙ ap (λ ls. line ∷ ls) (lines_of-joined lines without.1)

-- a first line that may have line feeds, and lines
pub lines_of-joined_first : (first : List ℕ) (lines : List (List ℕ)) → AreLines lines → lines_of (flat_map ended_line (first ∷ lines)) ≡ lines_of (first ++ 10 ∷ []) ++ lines
lines_of-joined_first first lines without =
    ap lines_of (append_assoc first (10 ∷ []) (flat_map ended_line lines))
    ∙ lines_of-ended first (flat_map ended_line lines)
    ∙ ap (λ ls. lines_of (first ++ 10 ∷ []) ++ ls) (lines_of-joined lines without)

-- lines that are put together end with a line feed
pub joined_ends : (line : List ℕ) (lines : List (List ℕ)) → (front : List ℕ) × (flat_map ended_line (line ∷ lines) ≡ front ++ 10 ∷ [])
joined_ends line [] = (line, append-nil (line ++ 10 ∷ []))
joined_ends line (next ∷ lines) =
    let tail = joined_ends next lines in
    (ended_line line ++ tail.0, ap (λ t. ended_line line ++ t) tail.1 ∙ sym (append_assoc (ended_line line) tail.0 (10 ∷ [])))
