-- The rule of phis: those of a block that is reached list exactly the blocks from which an edge leads to it, none of them is
-- listed twice with different operands, and no edge leads to the entry block.
use Rattle.std.specs.Prelude.{◌≡◌, ◌⊎◌, ℕ, suc, Bool, true, false, not, ◌&&◌, ◌||◌, nat_eq, List, [], ◌∷◌, ◌++◌, map, flat_map, length, Option, Some, None, if◌then◌else◌}
use Rattle.std.specs.Option.{option_map_or}
use Rattle.std.specs.List.{list_all, list_any}
use Rattle.vg_ir.specs.declared.name.NameAt.{NameAt}
use Rattle.vg_ir.specs.declared.spot.Spot.{Spot}
use Rattle.vg_ir.specs.declared.operand.Value.{Value}
use Rattle.vg_ir.specs.declared.operand.Value.TheVariants as value
use Rattle.vg_ir.specs.declared.block.Phi.{Phi}
use Rattle.vg_ir.specs.declared.block.Incoming.{Incoming}
use Rattle.vg_ir.specs.declared.block.Block.{Block}
use Rattle.vg_ir.specs.declared.ty.Ty.{Ty}
use Rattle.vg_ir.specs.declared.function.Function.{Function}
use Rattle.vg_ir.specs.declared.module.Parts.{Parts}
use Rattle.vg_ir.specs.Lookup.{same_name}
use Rattle.vg_ir.specs.Shape.{integer_width, number_of}
use Rattle.vg_ircheck.specs.Flow.{names_block, labels_of, has_edge, IsReached, numbers_below}

-- ---- equal operands

-- the number that an operand is at an integer type: modulo 2 to its width, with true as 1 and false as 0
abbrev pub constant_of : Ty → Value → Option ℕ
constant_of t (value.Local n) = None
constant_of t (value.Global n) = None
constant_of t (value.Number n) = Some (number_of (option_map_or (λ width. width) (integer_width t) 64) n)
constant_of t value.True = Some 1
constant_of t value.False = Some 0
constant_of t value.Null = None
constant_of t value.Undef = None
constant_of t value.Poison = None

-- two operands of a type are one: the same name, number or word
abbrev pub same_operand : Ty → Value → Value → Bool
same_operand t (value.Local n) v = elim v [
  | value.Local o ↦ same_name n o
  | value.Global o ↦ false
  | value.Number o ↦ false
  | value.True ↦ false
  | value.False ↦ false
  | value.Null ↦ false
  | value.Undef ↦ false
  | value.Poison ↦ false
]
same_operand t (value.Global n) v = elim v [
  | value.Local o ↦ false
  | value.Global o ↦ same_name n o
  | value.Number o ↦ false
  | value.True ↦ false
  | value.False ↦ false
  | value.Null ↦ false
  | value.Undef ↦ false
  | value.Poison ↦ false
]
same_operand t (value.Number n) v = option_map_or (λ a. option_map_or (nat_eq a) (constant_of t v) false) (constant_of t (value.Number n)) false
same_operand t value.True v = option_map_or (nat_eq 1) (constant_of t v) false
same_operand t value.False v = option_map_or (nat_eq 0) (constant_of t v) false
same_operand t value.Null v = elim v [
  | value.Local o ↦ false
  | value.Global o ↦ false
  | value.Number o ↦ false
  | value.True ↦ false
  | value.False ↦ false
  | value.Null ↦ true
  | value.Undef ↦ false
  | value.Poison ↦ false
]
same_operand t value.Undef v = elim v [
  | value.Local o ↦ false
  | value.Global o ↦ false
  | value.Number o ↦ false
  | value.True ↦ false
  | value.False ↦ false
  | value.Null ↦ false
  | value.Undef ↦ true
  | value.Poison ↦ false
]
same_operand t value.Poison v = elim v [
  | value.Local o ↦ false
  | value.Global o ↦ false
  | value.Number o ↦ false
  | value.True ↦ false
  | value.False ↦ false
  | value.Null ↦ false
  | value.Undef ↦ false
  | value.Poison ↦ true
]

-- ---- one phi

-- what is listed for a block differs from what is listed behind it for the same block
abbrev pub differs_from : Ty → Incoming → List Incoming → Bool
differs_from t i others =
    list_any (λ (j : Incoming). same_name i.block.name j.block.name && not (same_operand t i.operand.value j.operand.value)) others

-- a block is listed twice with different operands
abbrev pub lists_twice : Ty → List Incoming → Bool
lists_twice t [] = false
lists_twice t (i ∷ is) = differs_from t i is || lists_twice t is

-- a phi lists the block of a number
abbrev pub lists_block : Function → Phi → ℕ → Bool
lists_block f p b = list_any (λ (i : Incoming). names_block f b i.block.name) p.incoming

-- the blocks that a phi of a block lists, taken as a set, are those from which an edge leads to it
abbrev pub lists_predecessors : Function → ℕ → Phi → Bool
lists_predecessors f b p =
    list_all (λ a. if has_edge f a b then lists_block f p a else not (lists_block f p a)) (numbers_below (length f.blocks))

-- ---- a module

-- What the rule speaks of: a phi of a block, or the name of a block in the end of another.
pub data Subject : Type 0 where
  OfPhi : Function → ℕ → Phi → Subject
  OfLabel : Function → NameAt → Subject

-- its place
abbrev pub place_of : Subject → Spot
place_of (OfPhi f b p) = p.at
place_of (OfLabel f l) = l.at

-- The rule is broken there: a phi lists one block twice with different operands, or, where its block is reached, others than
-- those from which an edge leads there; or the end of a block names the entry block.
abbrev pub IsBroken : Subject → Type 0
IsBroken (OfPhi f b p) =
    (lists_twice p.ty.ty p.incoming ≡ true) ⊎ (IsReached f b × (lists_predecessors f b p ≡ false))
IsBroken (OfLabel f l) = names_block f 0 l.name ≡ true

-- of a block, in the order of the text
abbrev pub block_subjects : Function → ℕ → Block → List Subject
block_subjects f number b = map (OfPhi f number) b.phis ++ map (OfLabel f) (labels_of b.terminator)

-- of blocks that are counted from a number
abbrev pub subjects_from : Function → ℕ → List Block → List Subject
subjects_from f number [] = []
subjects_from f number (b ∷ bs) = block_subjects f number b ++ subjects_from f (suc number) bs

-- of a module, in the order of the text
abbrev pub subjects_of : Parts → List Subject
subjects_of m = flat_map (λ (f : Function). subjects_from f 0 f.blocks) m.functions
