-- An instruction, by its parts.
use Rattle.std.specs.Prelude.{ℕ, List, Option}
use Rattle.std.specs.Option.{option_map}
use Rattle.vg_bits.specs.BitValue.{BitValue}
use Rattle.vg_isa.specs.declared.expr.Expr.{Expr}
use Rattle.vg_isa.specs.declared.ids.FieldId.{FieldId}
use Rattle.vg_isa.specs.declared.ids.FormatId.{FormatId}
use Rattle.vg_isa.specs.declared.instr.Instr.{Instr}
use Rattle.vg_isa.specs.declared.instr.Part.{Part}
use Rattle.vg_tree.specs.declared.written.Written.{Written}
use Rattle.vg_processor.specs.declared.outcome.Outcome.{Outcome}
use Rattle.vg_processor.specs.declared.read_place.ReadPlace.{ReadPlace}

-- the guard and the value of what is written, and where they stand
abbrev pub trees_of : Option Written → Option (Expr × Expr)
trees_of w = option_map (λ (w : Written). (w.guard, w.value)) w

abbrev pub spots_of : Option Written → Option (Option ℕ × ℕ)
spots_of w = option_map (λ (w : Written). (w.guard_spot, w.value_spot)) w

abbrev pub address_place : Option ReadPlace → Option ℕ
address_place read = option_map (λ (p : ReadPlace). p.address_at) read

abbrev pub instr_from : List ℕ → FormatId → List (FieldId × BitValue) → Option (List Part) → Outcome → Instr
instr_from name format fixed template o =
    record {
      name = name;
      format = format;
      fixed = fixed;
      writes = o.writes;
      next = trees_of o.next;
      template = template;
      next_spots = spots_of o.next;
      read_spot = address_place o.read;
    }
