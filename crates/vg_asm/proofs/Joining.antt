-- Texts that are joined one by one.
use Rattle.std.proofs.Common.{IsTrue, Option, Some, subst, get_or, ◌≡◌, ℕ, ◌+◌, ◌<◌, ◌≤◌, Bool, true, false, ◌&&◌, List, [], ◌∷◌, ◌++◌, length, take, drop, map, cond, refl, ap, sym, ◌∙◌, append_assoc, arith}
use Rattle.std.specs.Prelude.{codes, if◌then◌else◌}
use Rattle.std.specs.List.{list_all}
use Rattle.std.specs.Option.{option_map_or}
use Rattle.std.proofs.lemmas.List.{append-nil, map_more}
use Rattle.std.proofs.Math.Seq.{drop-append_seam}
use Rattle.vg_grammar.specs.Lexeme.{begins_word, is_word_byte}
use Rattle.vg_grammar.specs.Line.{ends_word, gap, joined}

-- the last byte of a text decides how it ends
pub ends_word-last : (front : List ℕ) (c : ℕ) → ends_word (front ++ c ∷ []) ≡ is_word_byte c
ends_word-last [] c = refl
ends_word-last (b ∷ []) c = refl
ends_word-last (b ∷ e ∷ front) c = ends_word-last (e ∷ front) c

pub ends_word-append : (front : List ℕ) (c : ℕ) (text : List ℕ) → ends_word (front ++ c ∷ text) ≡ ends_word (c ∷ text)
ends_word-append [] c text = refl
ends_word-append (b ∷ []) c text = refl
ends_word-append (b ∷ e ∷ front) c text = ends_word-append (e ∷ front) c text

pub gap_before_none : (text : List ℕ) → gap text [] ≡ []
gap_before_none text = elim (ends_word text) as (λ b. (if b && false then codes " " else []) ≡ []) [ true ↦ refl | false ↦ refl ]

-- one text more behind those that are joined
pub joined-append : (texts : List (List ℕ)) (text : List ℕ) → joined (texts ++ text ∷ []) ≡ joined texts ++ (gap (joined texts) text ++ text)
joined-append [] text =
    ap (λ t. text ++ t ++ []) (gap_before_none text) ∙ append-nil (text ++ []) ∙ append-nil text
joined-append (first ∷ texts) text = ap (λ more. first ++ gap first more ++ more) (joined-append texts text) ∙ behind first (joined texts) text
  where
    behind : (first more text : List ℕ) → first ++ gap first (more ++ (gap more text ++ text)) ++ (more ++ (gap more text ++ text)) ≡ (first ++ gap first more ++ more) ++ (gap (first ++ gap first more ++ more) text ++ text)
    behind first [] text =
        let none : first ++ gap first [] ++ [] ≡ first = append-nil (first ++ gap first []) ∙ ap (λ t. first ++ t) (gap_before_none first) ∙ append-nil first in
        append_assoc first (gap first text) text ∙ (λ i. sym none i ++ (gap (sym none i) text ++ text))
    behind first (c ∷ cs) text =
        let front : List ℕ = first ++ gap first (c ∷ cs) in
        sym (append_assoc front (c ∷ cs) (gap (c ∷ cs) text ++ text))
        ∙ ap (λ b. (front ++ c ∷ cs) ++ ((if b && begins_word text then codes " " else []) ++ text)) (sym (ends_word-append front c cs))

-- one part more behind a line that stands behind a text
pub one_part_more : {X : Type 0} (f : X → List ℕ) (parts : List X) (i : ℕ) (part : X) (before out new : List ℕ) (start : ℕ) → i < length parts → part ≡ get_or parts i part → start ≡ length before
    → out ≡ before ++ joined (map f (take i parts)) → new ≡ out ++ (gap (drop start out) (f part) ++ f part) → new ≡ before ++ joined (map f (take (i + 1) parts))
one_part_more f parts i part before out new start within is begins so_far pushed =
    let line : List ℕ = joined (map f (take i parts)) in
    let seam : drop start out ≡ line = (λ j. drop (begins j) (so_far j)) ∙ drop-append_seam before line in
    let more : map f (take (i + 1) parts) ≡ map f (take i parts) ++ f part ∷ [] = map_more f parts i part within ∙ ap (λ p. map f (take i parts) ++ f p ∷ []) (sym is) in
    pushed
    ∙ (λ j. so_far j ++ (gap (seam j) (f part) ++ f part))
    ∙ append_assoc before line (gap line (f part) ++ f part)
    ∙ ap (λ t. before ++ t) (sym (ap joined more ∙ joined-append (map f (take i parts)) (f part)))

-- a test that each part of a template passes
pub parts_kept : {X : Type 0} (test : X → Bool) (template : Option (List X)) (parts : List X) → IsTrue (option_map_or (λ (ps : List X). list_all test ps) template true) → template ≡ Some parts → IsTrue (list_all test parts)
parts_kept {X} test template parts kept is = subst (λ (o : Option (List X)). IsTrue (option_map_or (λ (ps : List X). list_all test ps) o true)) is kept
