-- Lists of texts as bytes.
use Rattle.std.specs.Prelude.{ℕ, List, map, String, string_bytes}

-- the bytes of these texts
abbrev pub texts : {A : Type 0} → List (String A) → List (List ℕ)
texts xs = map string_bytes xs
