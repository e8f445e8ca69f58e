-- The bytes of an ASCII name.
use Rattle.std.proofs.Common.{◌≡◌, ℕ, ◌<◌, List, [], ◌∷◌, ◌++◌, IsTrue, nat_lt, refl, ap, ◌∙◌, arith}
use Rattle.std.specs.Str.{encode_utf8_all}
use Rattle.std.proofs.lemmas.Bool.Decides.{nat_tests}
use Rattle.std.proofs.lemmas.Bool.{and_parts as both}
use Rattle.std.proofs.lemmas.Str.{encode_ascii}
use Rattle.vg_form.specs.Description.{is_ascii}

below : (c : ℕ) → IsTrue (nat_lt c 128) → c < 128
below c h = grind (arith, nat_tests)

pub ascii_names : (name : List ℕ) → IsTrue (is_ascii name) → encode_utf8_all name ≡ name
ascii_names [] h = refl
ascii_names (c ∷ name) h =
    ap (λ (l : List ℕ). l ++ encode_utf8_all name) (encode_ascii c (below c (both _ _ h).0)) ∙ ap (λ (l : List ℕ). c ∷ l) (ascii_names name (both _ _ h).1)
