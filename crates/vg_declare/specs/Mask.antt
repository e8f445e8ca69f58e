-- Sets of the bits of a word, as numbers.
use Rattle.std.specs.Prelude.{◌≡◌, ◌<◌, ◌^◌, ℕ, Bool, true, false, nat_le, List}
use Rattle.std.specs.Int.{bit_at}
use Rattle.std.specs.List.{list_all, list_any}
use Rattle.vg_declare.specs.declared.span.Span.{Span}
use Rattle.vg_declare.specs.FieldCover.{names_bit}

abbrev pub bit_if : Bool → ℕ
bit_if true = 1
bit_if false = 0

-- the low bit isn't above the high one
abbrev pub is_span : Span → Bool
is_span s = nat_le s.low s.high

-- of the bits of a word of this width, a number has those that these spans name, and no others
pub record Names (width named : ℕ) (spans : List Span) : Type 0 where
  pub below : named < 2 ^ width
  pub bits : (b : ℕ) → b < width → bit_at named b ≡ bit_if (list_any (names_bit b) spans)
  pub sorted : list_all is_span spans ≡ true
