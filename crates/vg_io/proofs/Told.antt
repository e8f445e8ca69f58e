-- What a sink tells after several puts.
use Rattle.std.proofs.Common.{◌≡◌, ℕ, List, [], ◌++◌, length, take, drop, Option, None, Some, refl, sym, ◌∙◌, ap, append_assoc, append-nil, take-append-drop}
use Rattle.std.proofs.Math.Seq.{take-append_seam}
use Rattle.vg_io.specs.Sink.{append_known}

-- no bytes change nothing
pub append_known-nil : (told : Option (List ℕ)) → append_known told [] ≡ told
append_known-nil None = refl
append_known-nil (Some before) = ap Some (append-nil before)

-- two pieces are one
pub append_known-append : (told : Option (List ℕ)) (xs ys : List ℕ) → append_known (append_known told xs) ys ≡ append_known told (xs ++ ys)
append_known-append None xs ys = refl
append_known-append (Some before) xs ys = ap Some (append_assoc before xs ys)

-- of a text all but the rest has been put
pub record IsPut (before now : Option (List ℕ)) (text rest : List ℕ) : Type 0 where
  pub front : List ℕ
  pub whole : text ≡ front ++ rest
  pub written : now ≡ append_known before front

-- at first the whole text is the rest
pub IsPut-start : (told : Option (List ℕ)) (text : List ℕ) → IsPut told told text text
IsPut-start told text = record { front = []; whole = refl; written = sym (append_known-nil told) }

-- a put takes the first bytes of the rest
pub IsPut-put : (before now next : Option (List ℕ)) (text rest : List ℕ) (count : ℕ) → IsPut before now text rest → next ≡ append_known now (take count rest) → IsPut before next text (drop count rest)
IsPut-put before now next text rest count put took =
    record {
      front = put.front ++ take count rest;
      whole = put.whole ∙ ap (λ xs. put.front ++ xs) (sym (take-append-drop count rest)) ∙ sym (append_assoc put.front (take count rest) (drop count rest));
      written = took ∙ ap (λ told. append_known told (take count rest)) put.written ∙ append_known-append before put.front (take count rest);
    }

-- with no rest the whole text is written
pub IsPut-whole : (before now : Option (List ℕ)) (text rest : List ℕ) → IsPut before now text rest → rest ≡ [] → now ≡ append_known before text
IsPut-whole before now text rest put none =
    put.written ∙ ap (λ xs. append_known before xs) (sym (put.whole ∙ ap (λ xs. put.front ++ xs) none ∙ append-nil put.front))

-- what is written is a prefix of the text
pub IsPut-prefix : (before now : Option (List ℕ)) (text rest : List ℕ) → IsPut before now text rest → (n : ℕ) × (now ≡ append_known before (take n text))
IsPut-prefix before now text rest put =
    (length put.front, put.written ∙ ap (λ xs. append_known before xs) (sym (ap (take (length put.front)) put.whole ∙ take-append_seam put.front rest)))
