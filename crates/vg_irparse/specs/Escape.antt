-- One escape of a quoted text.
use Rattle.std.specs.Prelude.{ℕ, ◌==◌, if◌then◌else◌, List, [], ◌∷◌, is_some, unwrap_or}
use Rattle.vg_irparse.specs.Text.{hexadecimal}

-- behind a `\` and a byte that is none
abbrev pub digits_at : ℕ → List ℕ → ℕ × ℕ
digits_at d [] = (92, 0)
digits_at d (e ∷ cs) = if is_some (hexadecimal d e) then (unwrap_or (hexadecimal d e) 0, 2) else (92, 0)

-- behind a `\`
abbrev pub backslash_at : List ℕ → ℕ × ℕ
backslash_at [] = (92, 0)
backslash_at (d ∷ cs) = if d == 92 then (92, 1) else digits_at d cs

-- what a byte stands for together with the bytes behind it, and how many of these it takes
abbrev pub escape_at : ℕ → List ℕ → ℕ × ℕ
escape_at c cs = if c == 92 then backslash_at cs else (c, 0)
