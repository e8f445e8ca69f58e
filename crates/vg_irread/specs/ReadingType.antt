-- Reading a type, by how many brackets may stand in one another.
use Rattle.std.specs.Prelude.{ℕ, List, [], ◌∷◌, codes, Option, Some, None}
use Rattle.vg_ir.specs.declared.ty.Ty.{Ty}
use Rattle.vg_ir.specs.declared.ty.TypeAt.{TypeAt}
use Rattle.vg_irparse.specs.declared.role.Role.{Role}
use Rattle.vg_irparse.specs.declared.role.Wanted.{Wanted}
use Rattle.vg_irparse.specs.Placed.{Placed}
use Rattle.vg_irparse.specs.Text.{spot}
use Rattle.vg_irparse.specs.Answer.{Answer, reads, leaves, ◌>>=◌}
use Rattle.vg_irparse.specs.ReadingType.{simple_type, bracketed_at, part_within, placed_type}
use Rattle.vg_irparse.specs.Grammar.{is_type}
use Rattle.vg_irparse.specs.Concrete.{TypeTree}
use Rattle.vg_irparse.specs.Spelling.{spelled_type}
use Rattle.vg_irparse.specs.Tree as tree
use Rattle.vg_irparse.specs.ExactType.{nesting}
use Rattle.vg_irread.specs.Kinds.{Kind, words, local}
use Rattle.vg_irread.specs.Reading.{Reader}
use Rattle.vg_irread.specs.Exact.{Spelling}

abbrev pub type_in : Option Ty → Wanted → ℕ → Placed → List Placed → Answer (TypeAt × List Placed)
type_in (Some t) w d first ts = reads (record { ty = t; at = spot first.at; leaves = [] }, ts)
type_in None w d first ts = bracketed_at (part_within d) w first ts >>= λ p. reads (placed_type first.at p)

-- a type of any kind
abbrev pub type_at : Wanted → Reader TypeAt
type_at w d [] = leaves 0 w
type_at w d (t ∷ ts) = type_in (simple_type t.text) w d t ts

-- types, as they are spelled
abbrev pub a_type : Role → Spelling TypeTree TypeAt
a_type role = record { grammar = is_type; spelled = spelled_type role; means = tree.type_at; nests = nesting }

-- what a type begins with
abbrev pub type_kinds : List Kind
type_kinds =
    words (codes "i1" ∷ codes "i8" ∷ codes "i16" ∷ codes "i32" ∷ codes "i64" ∷ codes "ptr" ∷ codes "[" ∷ codes "{" ∷ []) ∷ local ∷ []
