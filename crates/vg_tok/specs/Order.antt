-- Where tokens stand.
use Rattle.std.specs.Prelude.{ℕ, ◌<◌, ◌≤◌, List, [], ◌∷◌}
use Rattle.vg_tok.specs.declared.token.Token.{Token}

-- the tokens stand one behind the other, each with at least one byte, from the byte `at` up to the byte `limit`
abbrev pub AreInOrder : ℕ → List Token → ℕ → Type 0
AreInOrder at [] limit = at ≤ limit
AreInOrder at (t ∷ ts) limit = (at ≤ t.start) × (t.start < t.end) × AreInOrder t.end ts limit
