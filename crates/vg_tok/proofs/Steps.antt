-- One step of each loop over a text.
use Rattle.std.proofs.Common.{◌≡◌, ℕ, suc, ◌+◌, ◌*◌, ◌<◌, ◌≤◌, Bool, true, false, cond, ◌&&◌, eqb, List, [], ◌∷◌, length, get_or, drop, Some, None, refl, sym, ap, ◌∙◌, arith}
use Rattle.std.proofs.lemmas.List.{at_drop_more, at_drop_all, drop_more}
use Rattle.std.proofs.Math.Nat.{mul-le-mul_left}
use Rattle.std.proofs.Common.{length-append, length-drop, ◌||◌}
use Rattle.std.proofs.lemmas.Str.{length-encode}
use Rattle.std.specs.Char.{is_digit, digit_value, len_utf8}
use Rattle.vg_tok.specs.Lexing.{same_text, value_from, byte_len, has_close}
use Rattle.vg_tok.specs.Front.{close_from, digits_from}

pub and_false : (b : Bool) → (b && false) ≡ false
and_false true = refl
and_false false = refl

-- a bound on a choice
cond_elim : {n a b : ℕ} (t : Bool) → n ≤ a → n ≤ b → n ≤ cond t a b
cond_elim true x y = x
cond_elim false x y = y

pub close_from-drop : (text : List ℕ) (i : ℕ) (star : Bool) → i < length text
    → close_from i star (drop i text) ≡ cond (star && eqb (get_or text i 0) 47) (Some (i + 1)) (close_from (i + 1) (eqb (get_or text i 0) 42) (drop (i + 1) text))
close_from-drop text i star h = at_drop_more (close_from i star) text i 0 h

pub close_from-end : (text : List ℕ) (i : ℕ) (star : Bool) → length text ≤ i → close_from i star (drop i text) ≡ None
close_from-end text i star h = at_drop_all (close_from i star) text i h

pub digits_from-drop : (text : List ℕ) (base i len : ℕ) (after : Bool) → i < length text
    → digits_from base i len after (drop i text)
    ≡ cond (is_digit (get_or text i 0) base) (digits_from base (i + 1) (i + 1) true (drop (i + 1) text))
    (cond (after && eqb (get_or text i 0) 39) (digits_from base (i + 1) len false (drop (i + 1) text)) len)
digits_from-drop text base i len after h = at_drop_more (digits_from base i len after) text i 0 h

pub digits_from-end : (text : List ℕ) (base i len : ℕ) (after : Bool) → length text ≤ i → digits_from base i len after (drop i text) ≡ len
digits_from-end text base i len after h = at_drop_all (digits_from base i len after) text i h

pub value_from-drop : (text : List ℕ) (base n i : ℕ) → i < length text
    → value_from base n (drop i text)
    ≡ cond (eqb (get_or text i 0) 39) (value_from base n (drop (i + 1) text)) (value_from base (n * base + digit_value (get_or text i 0)) (drop (i + 1) text))
value_from-drop text base n i h = at_drop_more (value_from base n) text i 0 h

pub value_from-end : (text : List ℕ) (base n i : ℕ) → length text ≤ i → value_from base n (drop i text) ≡ n
value_from-end text base n i h = at_drop_all (value_from base n) text i h

pub same_text-drop : (s t : List ℕ) (i : ℕ) → i < length s → i < length t
    → same_text (drop i s) (drop i t) ≡ (eqb (get_or s i 0) (get_or t i 0) && same_text (drop (i + 1) s) (drop (i + 1) t))
same_text-drop s t i hs ht =
    at_drop_more (λ u. same_text u (drop i t)) s i 0 hs ∙ at_drop_more (λ u. same_text (get_or s i 0 ∷ drop (i + 1) s) u) t i 0 ht

pub same_text-end : (s t : List ℕ) (i : ℕ) → length s ≤ i → length t ≤ i → same_text (drop i s) (drop i t) ≡ true
same_text-end s t i hs ht = at_drop_all (λ u. same_text u (drop i t)) s i hs ∙ at_drop_all (λ u. same_text [] u) t i ht

pub same_text-lengths : (s t : List ℕ) → (length s ≡ length t → ⊥) → same_text s t ≡ false
same_text-lengths [] [] h = absurd (h refl)
same_text-lengths [] (d ∷ ds) h = refl
same_text-lengths (c ∷ cs) [] h = refl
same_text-lengths (c ∷ cs) (d ∷ ds) h =
    rw (same_text-lengths cs ds (λ e. h (ap (λ n. suc n) e))) (and_false (eqb c d))

pub value_from-le : (base n : ℕ) (cs : List ℕ) → 1 ≤ base → n ≤ value_from base n cs
value_from-le base n [] h = omega arith
value_from-le base n (c ∷ cs) h =
    cond_elim (eqb c 39) (value_from-le base n cs h)
    (let e = value_from-le base (n * base + digit_value c) cs h in
    let m : n * 1 ≤ n * base = mul-le-mul_left n h in omega (arith, e, m))

pub ruleset close_steps = (close_from-drop, close_from-end)

pub ruleset digit_steps = (digits_from-drop, digits_from-end)

pub ruleset value_steps = (value_from-drop, value_from-end, value_from-le)

pub ruleset text_steps = (same_text-drop, same_text-end, same_text-lengths)

pub byte_len-cons : (c : ℕ) (cs : List ℕ) → byte_len (c ∷ cs) ≡ len_utf8 c + byte_len cs
byte_len-cons c cs = simp (length-append, length-encode)

pub byte_len-drop : (text : List ℕ) (i : ℕ) → i < length text → byte_len (drop i text) ≡ len_utf8 (get_or text i 0) + byte_len (drop (i + 1) text)
byte_len-drop text i h = at_drop_more byte_len text i 0 h ∙ byte_len-cons (get_or text i 0) (drop (i + 1) text)

pub byte_len-end : (text : List ℕ) (i : ℕ) → length text ≤ i → byte_len (drop i text) ≡ 0
byte_len-end text i h = at_drop_all byte_len text i h

pub ruleset byte_steps = (byte_len-drop, byte_len-end)

has_close-short : (bytes : List ℕ) → length bytes ≤ 1 → has_close bytes ≡ false
has_close-short [] h = refl
has_close-short (b ∷ []) h = refl
has_close-short (b ∷ c ∷ bs) h = absurd (omega arith)

pub has_close-drop : (bytes : List ℕ) (i : ℕ) → i + 1 < length bytes
    → has_close (drop i bytes) ≡ ((eqb (get_or bytes i 0) 42 && eqb (get_or bytes (i + 1) 0) 47) || has_close (drop (i + 1) bytes))
has_close-drop bytes i h =
    let here : i < length bytes = omega arith in
    let first = at_drop_more has_close bytes i 0 here in
    let second = drop_more bytes (i + 1) 0 h in
    first ∙ (ap (λ x. has_close (get_or bytes i 0 ∷ x)) second ∙ ap (λ x. (eqb (get_or bytes i 0) 42 && eqb (get_or bytes (i + 1) 0) 47) || has_close x) (sym second))

pub has_close-end : (bytes : List ℕ) (i : ℕ) → length bytes ≤ i + 1 → has_close (drop i bytes) ≡ false
has_close-end bytes i h = has_close-short (drop i bytes) (rw length-drop (omega arith))

pub ruleset has_close_steps = (has_close-drop, has_close-end)
