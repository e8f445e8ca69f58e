-- Values that may be read before they are set.
use Rattle.std.specs.Prelude.{◌≡◌, ℕ, Bool, false, not, List, map, flat_map}
use Rattle.std.specs.List.{list_any}
use Rattle.vg_ir.specs.declared.name.Name.{Name}
use Rattle.vg_ir.specs.declared.name.NameAt.{NameAt}
use Rattle.vg_ir.specs.declared.block.Block.{Block}
use Rattle.vg_ir.specs.declared.function.Function.{Function}
use Rattle.vg_ir.specs.declared.function.Parameter.{Parameter}
use Rattle.vg_ir.specs.declared.module.Parts.{Parts}
use Rattle.vg_ir.specs.Lookup.{same_name}
use Rattle.vg_ircheck.specs.Names.{block_results}
use Rattle.vg_ircheck.specs.Flow.{is_block_with, IsReachedThrough}
use Rattle.vg_ircheck.specs.Uses.{Place, Use, uses_of}

-- a name is among some
abbrev pub is_named_in : Name → List Name → Bool
is_named_in n names = list_any (same_name n) names

-- a name is that of a parameter
abbrev pub is_parameter : Function → Name → Bool
is_parameter f n = list_any (λ (q : Parameter). same_name n q.name.name) f.parameters

-- a block has no definition of a value
abbrev pub passes_by : Function → Name → ℕ → Bool
passes_by f n b = is_block_with f (λ (x : Block). not (list_any (λ (r : NameAt). same_name n r.name) (block_results x))) b

-- A value is unset at a place: some path of edges leads from the entry block to the place without passing its definition. So
-- the path comes to the block of the place through blocks without it, and it doesn't stand in front of the place in that
-- block. A parameter is never unset.
pub record IsUnset (f : Function) (n : Name) (place : Place) : Type 0 where
  pub parameter : is_parameter f n ≡ false
  pub path : IsReachedThrough f (passes_by f n) place.block
  pub behind : is_named_in n place.behind ≡ false

-- a function, and what it reads
abbrev pub Read : Type 0
Read = Function × Use

-- what a module reads, in the order of the text
abbrev pub reads_of : Parts → List Read
reads_of m = flat_map (λ (f : Function). map (λ (u : Use). (f, u)) (uses_of f)) m.functions

-- what is read may be unset
abbrev pub IsUnsetRead : Read → Type 0
IsUnsetRead r = IsUnset r.0 r.1.value r.1.place
