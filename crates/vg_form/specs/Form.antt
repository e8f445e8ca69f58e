-- The descriptions that are read so far: a name, and instructions with one of two behaviours and with
-- numbers for three fields of their encoding.
use Rattle.std.specs.Prelude.{ℕ, ◌^◌, Bool, ◌&&◌, nat_lt, List, [], ◌∷◌, map, codes, Some, None}
use Rattle.vg_bits.specs.BitValue.{BitValue}
use Rattle.vg_isa.specs.declared.isa.Parts.{Parts}
use Rattle.vg_isa.specs.declared.format.Format.{Format}
use Rattle.vg_isa.specs.declared.format.FieldDecl.{FieldDecl}
use Rattle.vg_isa.specs.declared.declaration.RegDecl.{RegDecl}
use Rattle.vg_isa.specs.declared.instr.Instr.{Instr}
use Rattle.vg_isa.specs.declared.instr.Write.{Write}
use Rattle.vg_isa.specs.declared.ids.FieldId.{FieldId}
use Rattle.vg_isa.specs.declared.ids.ResourceId.TheVariants.{Reg}
use Rattle.vg_isa.specs.declared.expr.Expr.{Expr}
use Rattle.vg_isa.specs.declared.expr.Expr.TheVariants as expr
use Rattle.vg_isa.specs.declared.operator.BinOp.TheVariants as binop
use Rattle.vg_isa.specs.declared.operator.CastOp.TheVariants as castop
use Rattle.vg_form.specs.declared.form.Form.{Form}
use Rattle.vg_form.specs.declared.form.Pair.{Pair}
use Rattle.vg_form.specs.declared.form.Behaviour.{Behaviour}
use Rattle.vg_form.specs.declared.form.Behaviour.TheVariants.{AddRegisters, AddField}

-- the fields of the one format, by their place in it
abbrev pub field_at : ℕ → FieldId
field_at index = record { format = record { 0 = 0 }; index = index }

abbrev pub field_decl : List ℕ → ℕ → ℕ → FieldDecl
field_decl name high low = record { name = name; ranges = (high, low) ∷ [] }

-- f7 [31..25], rs2 [24..20], rs1 [19..15], f3 [14..12], rd [11..7], op [6..0]
abbrev pub fields_r : List FieldDecl
fields_r =
    field_decl (codes "f7") 31 25 ∷ field_decl (codes "rs2") 24 20 ∷ field_decl (codes "rs1") 19 15
    ∷ field_decl (codes "f3") 14 12 ∷ field_decl (codes "rd") 11 7 ∷ field_decl (codes "op") 6 0 ∷ []

-- format R : Bits<32> of these fields
abbrev pub format_r : Format
format_r = record { name = codes "R"; fields = fields_r }

-- X(f) of the field at a place
abbrev pub register_of : ℕ → Expr
register_of index = expr.Reg (record { 0 = 0 }) (Some (expr.Field (field_at index)))

-- X(rs1) + X(rs2), or X(rs1) + rs2 as Bits<32>
abbrev pub value_tree : Behaviour → Expr
value_tree AddRegisters = expr.Binary binop.Add (register_of 2) (register_of 1)
value_tree AddField = expr.Binary binop.Add (register_of 2) (expr.Cast castop.Extend 32 (expr.Field (field_at 1)))

-- X(rd) := the value, under the guard that holds always
abbrev pub write_of : Behaviour → Write
write_of behaviour = record {
  resource = Reg (record { 0 = 0 });
  guard = expr.Const (record { width = 1; number = 1 });
  at = Some (expr.Field (field_at 4));
  value = value_tree behaviour;
  guard_spot = None;
  at_spot = None;
  value_spot = 0;
}

-- the numbers of a pair fit their fields
abbrev pub fits_fields : Pair → Bool
fits_fields pair = nat_lt pair.f7 (2 ^ 7) && nat_lt pair.f3 (2 ^ 3) && nat_lt pair.op (2 ^ 7)

-- the fields that the encoding fixes
abbrev pub fixed_of : Pair → List (FieldId × BitValue)
fixed_of pair =
    (field_at 0, record { width = 7; number = pair.f7 }) ∷ (field_at 3, record { width = 3; number = pair.f3 })
    ∷ (field_at 5, record { width = 7; number = pair.op }) ∷ []

-- the instruction of a pair: one write, no jump, and no line of assembly
abbrev pub instr_of : Pair → Instr
instr_of pair = record {
  name = pair.name;
  format = record { 0 = 0 };
  fixed = fixed_of pair;
  writes = write_of pair.behaviour ∷ [];
  next = None;
  template = None;
  next_spots = None;
  read_spot = None;
}

-- register file X : Bits<5> -> Bits<32> zero 0
abbrev pub register_file : RegDecl
register_file = record { name = codes "X"; index = Some 5; width = 32; zero = Some 0 }

-- the description of a form; it keeps no places of the text
abbrev pub parts_of : Form → Parts
parts_of form = record {
  name = form.name;
  word = 32;
  pc = record { name = codes "PC"; width = 32 };
  memory = codes "MEM";
  regs = register_file ∷ [];
  formats = format_r ∷ [];
  instrs = map instr_of form.pairs;
  abi = None;
  micro = None;
}
