-- Where the characters at the front of bytes end.
use Rattle.std.proofs.Common.{◌≡◌, ℕ, ◌+◌, ◌<◌, ◌≤◌, true, List, [], ◌++◌, length, take, drop, sym, ap, subst, ◌∙◌, arith, append_assoc, length-append}
use Rattle.std.proofs.lemmas.List.{take-append-drop, length-take, drop_all, append-nil, take_at}
use Rattle.std.proofs.lemmas.Str.{encodes_same, IsUtf8-append, IsUtf8-encode, length-encode, len_utf8_bounds}
use Rattle.std.specs.Char.{encode_utf8}
use Rattle.std.specs.Str.{IsUtf8, IsValidUpTo, StartsWithNoChar, encode_utf8_all, all_scalars}
use Rattle.vg_tok.specs.Lexing.{AreDecoded}
use Rattle.vg_tok.specs.Decode.{IsValidFront}

pub scalars-from_encodes : (cs bs : List ℕ) → IsUtf8 bs → encode_utf8_all cs ≡ bs → all_scalars cs ≡ true
scalars-from_encodes cs bs u e =
    let P : List ℕ → Type 0 = λ ds. all_scalars ds ≡ true in
    subst P (encodes_same u.0 cs (u.1.1 ∙ sym e)) u.1.0

pub length-encode_positive : (c : ℕ) → 0 < length (encode_utf8 c)
length-encode_positive c = rw length-encode (omega (arith, (len_utf8_bounds c).0))

pub StartsWithNoChar-nil : StartsWithNoChar []
StartsWithNoChar-nil c rest s e =
    absurd (omega (arith, ap length e, length-append (encode_utf8 c) rest, length-encode_positive c))

pub IsValidFront-whole : (bytes front : List ℕ) → front ≡ bytes → IsUtf8 bytes → IsValidFront bytes front
IsValidFront-whole bytes front e u = record {
  text = subst IsUtf8 (sym e) u;
  whole = rw e (rw (drop_all (length bytes) bytes (omega arith)) (sym (append-nil bytes)));
  stuck = rw e (rw (drop_all (length bytes) bytes (omega arith)) StartsWithNoChar-nil);
}

pub take-longer : (n : ℕ) (bytes front rest : List ℕ) → n ≤ length bytes → drop n bytes ≡ front ++ rest → take (n + length front) bytes ≡ take n bytes ++ front
take-longer n bytes front rest h e =
    let whole : bytes ≡ (take n bytes ++ front) ++ rest =
    sym (take-append-drop n bytes) ∙ (ap (λ x. take n bytes ++ x) e ∙ sym (append_assoc (take n bytes) front rest)) in
    let len : length (take n bytes ++ front) ≡ n + length front =
    length-append (take n bytes) front ∙ ap (λ x. x + length front) (length-take n bytes ∙ omega arith) in
    ap (λ x. take (n + length front) x) whole ∙ take_at (take n bytes ++ front) rest (n + length front) len

pub IsValidFront-up_to : (bytes front : List ℕ) (n : ℕ) → IsValidUpTo bytes n → front ≡ take n bytes → IsValidFront bytes front
IsValidFront-up_to bytes front n v e =
    let len : length front ≡ n = ap length e ∙ (length-take n bytes ∙ omega (arith, v.short)) in
    record {
      text = subst IsUtf8 (sym e) v.front;
      whole = rw len (sym (take-append-drop n bytes) ∙ ap (λ x. x ++ drop n bytes) (sym e));
      stuck = rw len (λ c rest s d.
          v.longest (n + length (encode_utf8 c)) (omega (arith, length-encode_positive c))
          (subst IsUtf8 (sym (take-longer n bytes (encode_utf8 c) rest (omega (arith, v.short)) d))
          (IsUtf8-append (take n bytes) (encode_utf8 c) v.front (IsUtf8-encode c s))));
    }

pub AreDecoded-front : (bytes front cs : List ℕ) → IsValidFront bytes front → all_scalars cs ≡ true → encode_utf8_all cs ≡ front → AreDecoded bytes cs (drop (length front) bytes)
AreDecoded-front bytes front cs v s e = record {
  scalars = s;
  whole = v.whole ∙ ap (λ x. x ++ drop (length front) bytes) (sym e);
  stuck = v.stuck;
}

pub ruleset decoded_steps = (AreDecoded-front)
