-- Each text has tokens or a fault.
use Rattle.std.proofs.Common.{◌≡◌, ◌⊎◌, inl, inr, ℕ, zero, suc, ◌+◌, ◌-◌, ◌<◌, ◌≤◌, Bool, true, false, List, [], ◌∷◌, ◌++◌, length, take, drop, Option, Some, None, refl, sym, ap, subst, ◌∙◌, arith, length-append, length-drop}
use Rattle.std.proofs.Common.{⊎_elim, eqb}
use Rattle.std.proofs.lemmas.Bool.Decides.{nat_tests}
use Rattle.std.proofs.lemmas.List.{take-append-drop, nil_from_length}
use Rattle.std.proofs.lemmas.Str.{IsUtf8-nil, IsUtf8-from_is_utf8, is_utf8-from_IsUtf8, IsUtf8-append, IsUtf8-encode, scalars-chars, encodes-chars}
use Rattle.std.specs.Char.{encode_utf8}
use Rattle.std.specs.Str.{IsUtf8, is_utf8, chars}
use Rattle.vg_tok.specs.declared.token.Token.{Token}
use Rattle.vg_tok.specs.declared.token.Kind.{Kind}
use Rattle.vg_tok.specs.declared.token.Kind.TheVariants as kinds
use Rattle.vg_tok.specs.declared.fault.TokFault.{TokFault}
use Rattle.vg_tok.specs.declared.fault.TokFault.TheVariants as faults
use Rattle.vg_tok.specs.declared.lexeme.Lexeme.{Lexeme}
use Rattle.vg_tok.specs.declared.lexeme.Lexeme.TheVariants as lexemes
use Rattle.vg_tok.specs.Lexing.{has_close, byte_len, AreDecoded, Lexes, IsOpen, IsFault, IsFaultAhead}
use Rattle.vg_tok.specs.Front.{lexeme_at}
use Rattle.vg_tok.specs.Reading.{name_kind, Begins, Means, IsReadTo, HaveTokens, HaveFault}
use Rattle.vg_tok.proofs.Lists.{false≢true}
use Rattle.vg_tok.proofs.Digits.{eqb-same}
use Rattle.vg_tok.proofs.Sound.{means}
use Rattle.vg_tok.proofs.Found.{name_begins, closed_some, begins_fits}
use Rattle.vg_tok.proofs.Decoding.{take-longer, length-encode_positive}
use Rattle.vg_tok.proofs.Rows.{IsReadTo-start, IsReadTo-more, HaveTokens-all, HaveFault-ahead, HaveFault-behind, Lexes-decoded, IsFault-decoded}

-- The longest text at the front of bytes.

-- of the fronts up to n bytes, the longest that is text
record IsLongestText (bytes : List ℕ) (n v : ℕ) : Type 0 where
  within : v ≤ n
  text : IsUtf8 (take v bytes)
  longest : (m : ℕ) → v < m → m ≤ n → IsUtf8 (take m bytes) → ⊥

last_or : (m n : ℕ) → m ≤ suc n → (m ≤ n) ⊎ (m ≡ suc n)
last_or m n k = elim (eqb m (suc n)) as (λ b. eqb m (suc n) ≡ b → (m ≤ n) ⊎ (m ≡ suc n))
    [ true ↦ (λ e. inr (eqb-same m (suc n) e)) | false ↦ (λ e. inl (grind (arith, nat_tests))) ] refl

longest_more : (bytes : List ℕ) (n : ℕ) (b : Bool) → is_utf8 (take (suc n) bytes) ≡ b → (v : ℕ) × IsLongestText bytes n v → (v : ℕ) × IsLongestText bytes (suc n) v
longest_more bytes n true e (v, r) = (
  suc n,
  record {
    within = omega arith;
    text = IsUtf8-from_is_utf8 (take (suc n) bytes) e;
    longest = λ m l k u. absurd (omega arith);
  },
)
longest_more bytes n false e (v, r) = (
  v,
  record {
    within = omega (arith, r.within);
    text = r.text;
    longest = λ m l k u. ⊎_elim (λ (s : m ≤ n). r.longest m l s u)
        (λ (s : m ≡ suc n). false≢true (sym e ∙ is_utf8-from_IsUtf8 (take (suc n) bytes) (subst (λ (z : ℕ). IsUtf8 (take z bytes)) s u))) (last_or m n k);
  },
)

longest_text : (bytes : List ℕ) (n : ℕ) → (v : ℕ) × IsLongestText bytes n v
longest_text bytes zero = (0, record { within = omega arith; text = IsUtf8-nil; longest = λ m l k u. absurd (omega arith) })
longest_text bytes (suc n) = longest_more bytes n (is_utf8 (take (suc n) bytes)) refl (longest_text bytes n)

decoded : (bytes : List ℕ) → (cs : List ℕ) × ((behind : List ℕ) × AreDecoded bytes cs behind)
decoded bytes =
    let f = longest_text bytes (length bytes) in
    let v = f.0 in
    let r = f.1 in (
      chars (take v bytes),
      (
        drop v bytes,
        record {
          scalars = scalars-chars (take v bytes) r.text;
          whole = sym (take-append-drop v bytes) ∙ ap (λ z. z ++ drop v bytes) (sym (encodes-chars (take v bytes) r.text));
          stuck = λ c rest s e.
              (let l = length-encode_positive c in
              let d : length bytes - v ≡ length (encode_utf8 c) + length rest = sym (length-drop v bytes) ∙ (ap length e ∙ length-append (encode_utf8 c) rest) in
              r.longest (v + length (encode_utf8 c)) (omega arith) (omega (arith, r.within))
              (subst IsUtf8 (sym (take-longer v bytes (encode_utf8 c) rest r.within e)) (IsUtf8-append (take v bytes) (encode_utf8 c) r.text (IsUtf8-encode c s))));
        },
      ),
    )

-- A row of elements goes on up to the end of the text or a fault.

abbrev Outcome : List ℕ → List ℕ → Type 0
Outcome cs behind = ((ts : List Token) × HaveTokens cs behind ts) ⊎ ((f : TokFault) × HaveFault cs behind f)

cons_not_nil : (b : ℕ) (bs : List ℕ) → b ∷ bs ≡ [] → ⊥
cons_not_nil b bs h = cc

at_end : (cs behind : List ℕ) (ts : List Token) (rest : List ℕ) (at : ℕ) → IsReadTo cs ts rest at → rest ≡ [] → Outcome cs behind
at_end cs [] ts rest at r e = inl (ts, HaveTokens-all cs [] ts rest at r e refl)
at_end cs (b ∷ behind) ts rest at r e = inr (faults.NotUtf8 at, HaveFault-behind cs (b ∷ behind) ts rest at r e (λ h. cons_not_nil b behind h))

at_fault : (cs behind : List ℕ) (ts : List Token) (rest : List ℕ) (at : ℕ) (f : TokFault) → IsReadTo cs ts rest at → IsFaultAhead at rest behind f → Outcome cs behind
at_fault cs behind ts rest at f r h = inr (f, HaveFault-ahead cs behind ts rest at f r h)

-- the rest is read, where n bounds its length
abbrev Reads : ℕ → Type 0
Reads n = (cs behind : List ℕ) (ts : List Token) (rest : List ℕ) (at : ℕ) → length rest ≤ n → IsReadTo cs ts rest at → Outcome cs behind

past : (n : ℕ) → Reads n → (cs behind : List ℕ) (ts : List Token) (rest : List ℕ) (at : ℕ) (k : Option Kind) (len : ℕ)
    → length rest ≤ suc n → IsReadTo cs ts rest at → Begins rest k len → Outcome cs behind
past n go cs behind ts rest at k len h r b =
    let l : length (drop len rest) ≤ n = omega (arith, length-drop len rest, b.some, begins_fits rest k len b) in
    go cs behind _ (drop len rest) _ l (IsReadTo-more cs ts rest at k len r b)

open_end : (cs behind : List ℕ) (ts : List Token) (rest : List ℕ) (at : ℕ) → IsReadTo cs ts rest at → IsOpen rest → (b : Bool) → has_close behind ≡ b → Outcome cs behind
open_end cs behind ts rest at r m true e = at_fault cs behind ts rest at (faults.NotUtf8 (at + byte_len rest)) r (refl, closed_some behind e, inr (m, e))
open_end cs behind ts rest at r m false e = at_fault cs behind ts rest at (faults.BadChar at) r (inl (refl, inr (m, e)))

by_lexeme : (n : ℕ) → Reads n → (cs behind : List ℕ) (ts : List Token) (rest : List ℕ) (at : ℕ) → length rest ≤ suc n → IsReadTo cs ts rest at
    → (l : Lexeme) → Means l rest → Outcome cs behind
by_lexeme n go cs behind ts rest at h r lexemes.End m = at_end cs behind ts rest at r m
by_lexeme n go cs behind ts rest at h r (lexemes.Gap len) m = past n go cs behind ts rest at None len h r m
by_lexeme n go cs behind ts rest at h r (lexemes.Name len) m =
    past n go cs behind ts rest at (Some (name_kind (take len rest))) len h r (name_begins rest len (name_kind (take len rest)) m refl)
by_lexeme n go cs behind ts rest at h r (lexemes.Str len) m = past n go cs behind ts rest at (Some (kinds.Str m.0)) len h r m.2
by_lexeme n go cs behind ts rest at h r (lexemes.Number v len) m = past n go cs behind ts rest at (Some (kinds.Number v)) len h r m
by_lexeme n go cs behind ts rest at h r (lexemes.Sign s len) m = past n go cs behind ts rest at (Some (kinds.Sign s)) len h r m
by_lexeme n go cs behind ts rest at h r lexemes.Wide m = at_fault cs behind ts rest at (faults.Wide at) r (refl, m)
by_lexeme n go cs behind ts rest at h r (lexemes.RunOn len) m = at_fault cs behind ts rest at (faults.BadChar (at + byte_len m.0)) r (inr (m.0, refl, m.2))
by_lexeme n go cs behind ts rest at h r lexemes.Open m = open_end cs behind ts rest at r m (has_close behind) refl
by_lexeme n go cs behind ts rest at h r lexemes.Bad m = at_fault cs behind ts rest at (faults.BadChar at) r (inl (refl, inl m))

reads : (n : ℕ) → Reads n
reads zero cs behind ts rest at h r = at_end cs behind ts rest at r (nil_from_length rest (omega arith))
reads (suc n) cs behind ts rest at h r = by_lexeme n (reads n) cs behind ts rest at h r (lexeme_at rest) (means rest)

of_outcome : (bytes cs behind : List ℕ) → AreDecoded bytes cs behind → Outcome cs behind → ((ts : List Token) × Lexes bytes ts) ⊎ ((f : TokFault) × IsFault bytes f)
of_outcome bytes cs behind d (inl (ts, h)) = inl (ts, Lexes-decoded bytes cs behind ts d h)
of_outcome bytes cs behind d (inr (f, h)) = inr (f, IsFault-decoded bytes cs behind f d h)

-- each text has tokens or a fault
pub tokens_or_first_fault : (bytes : List ℕ) → ((ts : List Token) × Lexes bytes ts) ⊎ ((f : TokFault) × IsFault bytes f)
tokens_or_first_fault bytes =
    let d = decoded bytes in
    of_outcome bytes d.0 d.1.0 d.1.1 (reads (length d.0) d.0 d.1.0 [] d.0 0 (omega arith) (IsReadTo-start d.0))
