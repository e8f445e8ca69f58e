-- The laws of prefixes and lines.
use Rattle.std.proofs.Common.{length, take, drop, get_or, ◌+◌, ◌<◌, ◌≤◌, ◌≡◌, ◌≢◌, ℕ, Bool, true, false, ◌&&◌, not, eqb, List, [], ◌∷◌, ◌++◌, Option, Some, None, refl, ap, sym, ◌∙◌, subst, inl, inr, ◌⊎◌}
use Rattle.std.specs.Prelude.{IsTrue}
use Rattle.std.specs.Option.{option_copied, MatchOption}
use Rattle.std.proofs.lemmas.Bool.{cases_eq, eq-eqb, ne_eqb, and_parts, and_from, not-true, not_from_false}
use Rattle.std.proofs.lemmas.Option.{none-some, same_Some}
use Rattle.std.proofs.lemmas.List.{take_more, drop_more, take-append-drop, take_all}
use denote.Ref.{Bor}
use Rattle.vg_text.specs.Piece.{rest_after, line_at, lacks}

-- a text that begins with the prefix
pub rest_after-append : (prefix rest : List ℕ) → rest_after prefix (prefix ++ rest) ≡ Some rest
unfolding rest_after
rest_after-append [] rest = refl
rest_after-append (p ∷ prefix) rest = rw (eq-eqb p p refl) (rest_after-append prefix rest)

-- what stands before the rest is the prefix
pub append-rest_after : (prefix text rest : List ℕ) → rest_after prefix text ≡ Some rest → text ≡ prefix ++ rest
unfolding rest_after
append-rest_after [] text rest found = cc
append-rest_after (p ∷ prefix) [] rest found = cc
append-rest_after (p ∷ prefix) (c ∷ text) rest found =
    elim (cases_eq c p) [
      | inl same ↦ let tail = append-rest_after prefix text rest (rw (eq-eqb c p same) at found) in cc
      | inr other ↦ let none = rw (ne_eqb c p other) at found in cc
    ]

-- a line before a line feed
pub line_at-append : (line rest : List ℕ) → IsTrue (lacks 10 line) → line_at (line ++ 10 ∷ rest) ≡ Some (line, rest)
unfolding line_at
line_at-append [] rest without = refl
line_at-append (c ∷ line) rest without =
    let parts = and_parts (not (eqb c 10)) (lacks 10 line) without in
    rw (not-true (eqb c 10) parts.0, line_at-append line rest parts.1) refl

-- there is no line where there is no line feed
pub line_at-none : (text : List ℕ) → IsTrue (lacks 10 text) → line_at text ≡ None
unfolding line_at
line_at-none [] without = refl
line_at-none (c ∷ text) without =
    let parts = and_parts (not (eqb c 10)) (lacks 10 text) without in
    rw (not-true (eqb c 10) parts.0, line_at-none text parts.1) refl

pub cases_option : {A : Type 0} (o : Option A) → (o ≡ None) ⊎ ((x : A) × (o ≡ Some x))
cases_option None = inl refl
cases_option (Some x) = inr (x, refl)

-- the line and the rest with the line feed between them are the text, and no line feed is in the line
pub append-line_at : (text : List ℕ) (split : List ℕ × List ℕ) → line_at text ≡ Some split → (text ≡ split.0 ++ 10 ∷ split.1) × IsTrue (lacks 10 split.0)
unfolding line_at
append-line_at [] split found = absurd (none-some split found)
append-line_at (c ∷ text) split found =
    let IsSplit : List ℕ × List ℕ → Type 0 = λ s. (c ∷ text ≡ s.0 ++ 10 ∷ s.1) × IsTrue (lacks 10 s.0) in
    elim (cases_eq c 10) [
      | inl same ↦
          let here = rw (eq-eqb c 10 same) at found in
          subst IsSplit (same_Some _ _ here) (ap (λ b. b ∷ text) same, refl)
      | inr other ↦ elim (cases_option (line_at text)) [
        | inl none ↦ let no = rw (ne_eqb c 10 other, none) at found in absurd (none-some split no)
        | inr w ↦
            let there = rw (ne_eqb c 10 other, w.1) at found in
            let tail = append-line_at text w.0 w.1 in
            subst IsSplit (same_Some _ _ there) (ap (λ t. c ∷ t) tail.0, and_from (not (eqb c 10)) (lacks 10 w.0.0) (not_from_false _ (ne_eqb c 10 other)) tail.1)
      ]
    ]

-- and there is a line where there is one
pub lacks-line_at_none : (text : List ℕ) → line_at text ≡ None → IsTrue (lacks 10 text)
unfolding line_at
lacks-line_at_none [] found = refl
lacks-line_at_none (c ∷ text) found =
    elim (cases_eq c 10) [
      | inl same ↦ let here = rw (eq-eqb c 10 same) at found in absurd (none-some _ (sym here))
      | inr other ↦ elim (cases_option (line_at text)) [
        | inl none ↦ and_from (not (eqb c 10)) (lacks 10 text) (not_from_false _ (ne_eqb c 10 other)) (lacks-line_at_none text none)
        | inr w ↦ let there = rw (ne_eqb c 10 other, w.1) at found in absurd (none-some _ (sym there))
      ]
    ]

and_assoc : (x y z : Bool) → (x && (y && z)) ≡ ((x && y) && z)
and_assoc true y z = refl
and_assoc false y z = refl

pub lacks-append : (byte : ℕ) (text rest : List ℕ) → lacks byte (text ++ rest) ≡ (lacks byte text && lacks byte rest)
lacks-append byte [] rest = refl
lacks-append byte (c ∷ text) rest = rw (lacks-append byte text rest) (and_assoc (not (eqb c byte)) (lacks byte text) (lacks byte rest))

-- what `strip_prefix` answers
pub rest_after_from_strip : (prefix text : List ℕ) (r : Option (Bor (List ℕ))) → MatchOption r ((rest : List ℕ) → text ≢ prefix ++ rest) (λ x. text ≡ prefix ++ x.now) → option_copied r ≡ rest_after prefix text
rest_after_from_strip prefix text None never =
    elim (cases_option (rest_after prefix text)) [
      | inl none ↦ sym none
      | inr w ↦ absurd (never w.0 (append-rest_after prefix text w.0 w.1))
    ]
rest_after_from_strip prefix text (Some x) is = sym (ap (rest_after prefix) is ∙ rest_after-append prefix x.now)

-- a loop that looks for the line feed: one byte more, and what it finds
pub lacks-take_more : (text : List ℕ) (i : ℕ) → i < length text → get_or text i 0 ≢ 10 → IsTrue (lacks 10 (take i text)) → IsTrue (lacks 10 (take (i + 1) text))
lacks-take_more text i within other without =
    rw (take_more text i 0 within, lacks-append 10 (take i text) (get_or text i 0 ∷ []))
    (and_from (lacks 10 (take i text)) (lacks 10 (get_or text i 0 ∷ [])) without (and_from (not (eqb (get_or text i 0) 10)) true (not_from_false _ (ne_eqb (get_or text i 0) 10 other)) refl))

pub line_at_found : (text : List ℕ) (i : ℕ) → i < length text → get_or text i 0 ≡ 10 → IsTrue (lacks 10 (take i text)) → line_at text ≡ Some (take i text, drop (i + 1) text)
line_at_found text i within here without =
    let split : text ≡ take i text ++ 10 ∷ drop (i + 1) text = sym (take-append-drop i text) ∙ ap (λ t. take i text ++ t) (drop_more text i 0 within ∙ ap (λ b. b ∷ drop (i + 1) text) here) in
    ap line_at split ∙ line_at-append (take i text) (drop (i + 1) text) without

pub line_at_all : (text : List ℕ) (i : ℕ) → length text ≤ i → IsTrue (lacks 10 (take i text)) → line_at text ≡ None
line_at_all text i past without = let P : List ℕ → Type 0 = λ t. IsTrue (lacks 10 t) in line_at-none text (subst P (take_all i text past) without)
