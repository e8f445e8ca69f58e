-- Where globals stand, one behind the other from where data begins; and all that the meaning of a module asks of where things
-- stand.
use Rattle.std.specs.Prelude.{ℕ, ◌+◌, ◌*◌, List, [], ◌∷◌, length, Option, find, if◌then◌else◌}
use Rattle.std.specs.Option.{option_map_or}
use Rattle.vg_ir.specs.declared.name.Name.{Name}
use Rattle.vg_ir.specs.declared.global.Global.{Global}
use Rattle.vg_ir.specs.declared.function.Function.{Function}
use Rattle.vg_ir.specs.declared.module.Parts.{Parts}
use Rattle.vg_ir.specs.Lookup.{same_name, function_named}
use Rattle.vg_ir.specs.TypeLayout.{round_up, size_of}
use Rattle.vg_ir.specs.State.{Placement}
use Rattle.vg_ircheck.specs.Check.{is_entry}
use Rattle.vg_irplace.specs.declared.target.Target.{Target}
use Rattle.vg_irplace.specs.Frames.{align_of, round16, word_bytes, beyond, frame_size, offset_of}

-- where a global begins behind others that end at an address: at the next multiple of its alignment
abbrev pub global_begin : Parts → Target → ℕ → Global → ℕ
global_begin m t at g = round_up at (align_of m t g.ty.ty g.align)

-- where it ends
abbrev pub global_end : Parts → Target → ℕ → Global → ℕ
global_end m t at g = global_begin m t at g + size_of m t.width g.ty.ty

-- the address of the first global of a name, of those behind an address
abbrev pub address_from : Parts → Target → ℕ → List Global → Name → ℕ
address_from m t at [] n = at
address_from m t at (g ∷ gs) n =
    if same_name g.name.name n then global_begin m t at g else address_from m t (global_end m t at g) gs n

-- the address of a global
abbrev pub address_of : Parts → Target → Name → ℕ
address_of m t n = address_from m t t.data_base m.globals n

-- the function in which a run begins
abbrev pub entry_of : Parts → List ℕ → Option Function
entry_of m entry = find (is_entry entry) m.functions

-- the bytes of what is passed to it on the stack
abbrev pub entry_bytes : Parts → Target → List ℕ → ℕ
entry_bytes m t entry =
    option_map_or (λ (f : Function). round16 (word_bytes t * beyond t (length f.parameters))) (entry_of m entry) 0

-- where things stand
abbrev pub placement_of : Parts → Target → List ℕ → Placement
placement_of m t entry = record {
  width = t.width;
  low = t.low;
  high = t.high;
  passed = entry_bytes m t entry;
  address = address_of m t;
  frame = λ f. option_map_or (frame_size m t) (function_named m f) 0;
  offset = λ f n. option_map_or (λ g. offset_of m t g n) (function_named m f) 0;
}
