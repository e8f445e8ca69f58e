-- Taking one lexeme from the front of a list.
use Rattle.std.specs.Prelude.{ℕ, ◌+◌, Bool, true, false, List, [], ◌∷◌, length, codes, if◌then◌else◌}
use Rattle.std.specs.Str.{bytes_eq}
use Rattle.vg_irparse.specs.declared.role.Wanted.{Wanted}
use Rattle.vg_irparse.specs.Placed.{Placed}
use Rattle.vg_irparse.specs.Answer.{Answer, reads, leaves}

-- these bytes, where they stand, and the lexemes behind them
abbrev pub fixed_at : List ℕ → Wanted → List Placed → Answer (ℕ × List Placed)
fixed_at word wanted [] = leaves 0 wanted
fixed_at word wanted (t ∷ ts) = if bytes_eq t.text word then reads (t.at, ts) else leaves (length ts + 1) wanted

-- a comma, or the sign that ends a list: whether the list has ended, and the lexemes behind
abbrev pub separator_at : List ℕ → Wanted → List Placed → Answer (Bool × List Placed)
separator_at closing wanted [] = leaves 0 wanted
separator_at closing wanted (t ∷ ts) =
    if bytes_eq t.text closing then reads (true, ts)
    else (if bytes_eq t.text (codes ",") then reads (false, ts) else leaves (length ts + 1) wanted)
