-- The processor that a description stands for, where it keeps all rules.
use Rattle.std.specs.Prelude.{ℕ, ◌+◌, not, nat_eq, nat_le, List, [], ◌∷◌, map, flat_map, encode_utf8_all, Option, Some, None, slice_get, if◌then◌else◌}
use Rattle.std.specs.Option.{option_map}
use Rattle.std.specs.List.{filter, filter_map, list_any}
use Rattle.std.specs.Str.{bytes_eq}
use Rattle.vg_bits.specs.BitValue.{BitValue}
use Rattle.vg_ast.specs.declared.name.Name.{Name}
use Rattle.vg_ast.specs.declared.expr.Expr.{Expr as Written-Expr}
use Rattle.vg_ast.specs.declared.type_expr.TypeExpr.{TypeExpr}
use Rattle.vg_ast.specs.declared.item.Item.{Item}
use Rattle.vg_ast.specs.declared.item.Item.TheVariants as items
use Rattle.vg_ast.specs.declared.field.Field.{Field}
use Rattle.vg_ast.specs.declared.fix.Fix.{Fix}
use Rattle.vg_ast.specs.declared.part.Part.{Part as GivenPart}
use Rattle.vg_ast.specs.declared.part.Part.TheVariants as given
use Rattle.vg_ast.specs.declared.part.NumberFormat.{NumberFormat}
use Rattle.vg_ast.specs.declared.part.NumberFormat.TheVariants as number
use Rattle.vg_ast.specs.declared.register.Register.{Register}
use Rattle.vg_ast.specs.declared.role.Role.{Role}
use Rattle.vg_ast.specs.declared.role.Role.TheVariants as roles
use Rattle.vg_ast.specs.declared.act.Act.{Act as GivenAct}
use Rattle.vg_ast.specs.declared.act.Act.TheVariants as given_acts
use Rattle.vg_ast.specs.declared.micro_item.MicroItem.{MicroItem}
use Rattle.vg_ast.specs.declared.micro_item.MicroItem.TheVariants as lines
use Rattle.vg_ast.specs.declared.abi.Abi.{Abi as GivenAbi}
use Rattle.vg_ast.specs.declared.micro.Micro.{Micro as GivenMicro}
use Rattle.vg_ast.specs.declared.desc.Desc.{Desc}
use Rattle.vg_names.specs.Definition.{Text, item_named, fields_of_format}
use Rattle.vg_names.specs.Numbers.{number_named}
use Rattle.vg_inline.specs.declared.effect.Effect.{Effect}
use Rattle.vg_inline.specs.Inline.{number_or}
use Rattle.vg_inline.specs.InPlace.{Known, behaviour_of, known_of}
use Rattle.vg_type.specs.Scope.{declared_in, width_in, bits_named}
use Rattle.vg_type.specs.Item.{Setting, first_format, setting_of, width_given}
use Rattle.vg_isa.specs.declared.isa.Parts.{Parts}
use Rattle.vg_isa.specs.declared.ids.FieldId.{FieldId}
use Rattle.vg_isa.specs.declared.ids.RegId.{RegId}
use Rattle.vg_isa.specs.declared.declaration.PcDecl.{PcDecl}
use Rattle.vg_isa.specs.declared.declaration.RegDecl.{RegDecl}
use Rattle.vg_isa.specs.declared.format.Format.{Format}
use Rattle.vg_isa.specs.declared.format.FieldDecl.{FieldDecl}
use Rattle.vg_isa.specs.declared.instr.Instr.{Instr}
use Rattle.vg_isa.specs.declared.instr.Write.{Write}
use Rattle.vg_isa.specs.declared.instr.Part.{Part}
use Rattle.vg_isa.specs.declared.instr.Part.TheVariants as parts
use Rattle.vg_isa.specs.declared.abi.Abi.{Abi}
use Rattle.vg_isa.specs.declared.abi.Micro.{Micro}
use Rattle.vg_isa.specs.declared.abi.Stage.{Stage}
use Rattle.vg_isa.specs.declared.abi.Act.{Act}
use Rattle.vg_isa.specs.declared.abi.Act.TheVariants as acts
use Rattle.vg_tree.specs.Number.{width_or}
use Rattle.vg_declare.specs.FieldCover.{field_ends}
use Rattle.vg_declare.specs.AbiRole.{number_of, index_of, return_value, arguments, registers_of, code_base, data_base, stack_ends}
use Rattle.vg_tree.specs.Resource.{is_counter, register_id, format_id, resource_id}
use Rattle.vg_tree.specs.declared.reading.Reading.{Reading}
use Rattle.vg_tree.specs.Made.{Frame}
use Rattle.vg_tree.specs.declared.written.Written.{Written}
use Rattle.vg_tree.specs.Written.{written}
use Rattle.vg_tree.specs.Access.{frame_of}
use Rattle.vg_stage.specs.StageOrder.{effect_writes}

-- a name in UTF-8
abbrev pub bytes_of : Text → List ℕ
bytes_of text = encode_utf8_all text

-- ---- declarations

abbrev pub first_or : ℕ → List ℕ → ℕ
first_or plain [] = plain
first_or plain (n ∷ more) = n

abbrev pub declared_width : Setting → TypeExpr Written-Expr → ℕ
declared_width setting t = width_or (width_in (declared_in setting.globals t))

-- the first program counter
abbrev pub counter_of : Setting → List Item → PcDecl
counter_of setting [] = record { name = []; width = 0 }
counter_of setting (items.ProgramCounter at name type ∷ more) = record { name = bytes_of name.text; width = declared_width setting type }
counter_of setting (item ∷ more) = counter_of setting more

-- the name of the first memory
abbrev pub memory_name : List Item → List ℕ
memory_name [] = []
memory_name (items.Memory at name address cell ∷ more) = bytes_of name.text
memory_name (item ∷ more) = memory_name more

abbrev pub register_decl : Setting → Item → Option RegDecl
register_decl setting (items.Register at name type) =
    Some (record { name = bytes_of name.text; index = None; width = declared_width setting type; zero = None })
register_decl setting (items.RegisterFile at name index type constant) =
    Some (record { name = bytes_of name.text; index = Some (declared_width setting index); width = declared_width setting type; zero = option_map (number_of setting) constant })
register_decl setting _ = None

abbrev pub field_decl : Setting → Field → FieldDecl
field_decl setting field = record { name = bytes_of field.name.text; ranges = field_ends setting.globals.constants field }

abbrev pub format_decl : Setting → Item → Option Format
format_decl setting (items.Format at name type fields) = Some (record { name = bytes_of name.text; fields = map (field_decl setting) fields })
format_decl setting _ = None

-- ---- encodings

-- the number of a name among names, from k on
abbrev pub index_from : ℕ → List Text → Text → ℕ
index_from k [] text = 0
index_from k (name ∷ more) text = if bytes_eq name text then k else index_from (k + 1) more text

abbrev pub field_names : Setting → Text → List Text
field_names setting format = fields_of_format (item_named setting.all format)

-- a field of the format of a name
abbrev pub field_id : Setting → Text → Text → FieldId
field_id setting format field =
    record { format = record { 0 = format_id setting.all (number_or (number_named setting.all format)) }; index = index_from 0 (field_names setting format) field }

abbrev pub field_named : List Field → Text → Option Field
field_named [] text = None
field_named (field ∷ more) text = if bytes_eq field.name.text text then Some field else field_named more text

abbrev pub width_named : Setting → Option Field → ℕ
width_named setting None = 0
width_named setting (Some field) = width_or (bits_named setting.globals.constants field.ranges)

abbrev pub fields_in : Option Item → List Field
fields_in (Some (items.Format at name type fields)) = fields
fields_in _ = []

-- a field that is fixed, with its value
abbrev pub fixed_field : Setting → Text → Fix → FieldId × BitValue
fixed_field setting format fix =
    (field_id setting format fix.name.text, record { width = width_named setting (field_named (fields_in (item_named setting.all format)) fix.name.text); number = number_of setting fix.value })

-- the fields that the encoding of this instruction fixes
abbrev pub fixed_by : Setting → Text → Text → Item → List (FieldId × BitValue)
fixed_by setting instruction format (items.Encoding at name fixes) = if bytes_eq name.text instruction then map (fixed_field setting format) fixes else []
fixed_by setting instruction format _ = []

-- ---- lines of assembly

abbrev pub number_part : NumberFormat → FieldId → Part
number_part number.Decimal field = parts.Decimal field
number_part number.Signed field = parts.Signed field
number_part number.Hex field = parts.Hex field

abbrev pub part_of : Setting → Text → GivenPart → Part
part_of setting format (given.Text at text) = parts.Lit (bytes_of text)
part_of setting format (given.Mnemonic at) = parts.Mnemonic
part_of setting format (given.Register at file field) =
    parts.Register (record { 0 = register_id setting.all (number_or (number_named setting.all file.text)) }) (field_id setting format field.text)
part_of setting format (given.Number form at field) = number_part form (field_id setting format field.text)
part_of setting format (given.Target at field shift) = parts.Target (field_id setting format field.text) (number_of setting shift)

abbrev pub template_by : Setting → Text → Text → Item → Option (List Part)
template_by setting instruction format (items.Assembly at name row) = if bytes_eq name.text instruction then Some (map (part_of setting format) row) else None
template_by setting instruction format _ = None

abbrev pub first_some : {X : Type 0} → List X → Option X
first_some [] = None
first_some (x ∷ xs) = Some x

-- ---- behaviours

-- each number once, where it first stands
abbrev pub once : List ℕ → List ℕ → List ℕ
once met [] = []
once met (k ∷ more) = if list_any (nat_eq k) met then once met more else k ∷ once (k ∷ met) more

-- the numbers of the resources that a behaviour writes, in the order in which it first names them
abbrev pub resources_written : Setting → Effect → List ℕ
resources_written setting x = filter (λ k. not (is_counter (slice_get setting.all k))) (once [] (effect_writes setting x))

abbrev pub write_by : Setting → ℕ → Written → Write
write_by setting k w =
    record { resource = resource_id setting.all k; guard = w.guard; at = w.at; value = w.value; guard_spot = w.guard_spot; at_spot = w.at_spot; value_spot = w.value_spot }

abbrev pub write_to : Frame → Effect → ℕ → Option Write
write_to frame x k = option_map (write_by frame.setting k) (written frame k x)

-- the number of the program counter, if a behaviour writes it
abbrev pub counters_written : Setting → Effect → List ℕ
counters_written setting x = filter (λ k. is_counter (slice_get setting.all k)) (once [] (effect_writes setting x))

abbrev pub written_to : Frame → Effect → Option ℕ → Option Written
written_to frame x None = None
written_to frame x (Some k) = written frame k x

abbrev pub next_of : Frame → Effect → Option Written
next_of frame x = written_to frame x (first_some (counters_written frame.setting x))

-- the memory reads in what a behaviour writes
abbrev pub readings_written : Frame → Effect → List Reading
readings_written frame x = flat_map (λ (w : Written). w.readings) (filter_map (λ k. written frame k x) (once [] (effect_writes frame.setting x)))

-- of two memory reads the first in the text
abbrev pub earlier : Option Reading → Reading → Reading
earlier None r = r
earlier (Some q) r = if nat_le r.at q.at then r else q

abbrev pub first_reading : List Reading → Option Reading
first_reading [] = None
first_reading (r ∷ more) = Some (earlier (first_reading more) r)

abbrev pub instr_of : Setting → Name → Text → Effect → Instr
instr_of setting name format x =
    record {
      name = bytes_of name.text;
      format = record { 0 = format_id setting.all (number_or (number_named setting.all format)) };
      fixed = flat_map (fixed_by setting name.text format) setting.all;
      writes = filter_map (write_to (frame_of setting format) x) (resources_written setting x);
      next = option_map (λ (w : Written). (w.guard, w.value)) (next_of (frame_of setting format) x);
      template = first_some (filter_map (template_by setting name.text format) setting.all);
      next_spots = option_map (λ (w : Written). (w.guard_spot, w.value_spot)) (next_of (frame_of setting format) x);
      read_spot = option_map (λ (r : Reading). r.address_at) (first_reading (readings_written (frame_of setting format) x));
    }

abbrev pub instr_with : Setting → Name → Text → Option Effect → Option Instr
instr_with setting name format x = option_map (instr_of setting name format) x

abbrev pub instruction_of : Setting → Known → Item → Option Instr
instruction_of setting known (items.Instruction at name format behaviour) =
    instr_with setting name format.text (behaviour_of setting.all known (items.Instruction at name format behaviour))
instruction_of setting known _ = None

-- ---- the binary interface

abbrev pub files_of : Setting → List Role → List ℕ
files_of setting front = map (λ (register : Register). register_id setting.all (number_or (number_named setting.all register.file.text))) (flat_map registers_of front)

abbrev pub stack_pointer : Role → List Register
stack_pointer (roles.StackPointer at register) = register ∷ []
stack_pointer _ = []

abbrev pub return_address : Role → List Register
return_address (roles.ReturnAddress at register) = register ∷ []
return_address _ = []

abbrev pub temporaries : Role → List Register
temporaries (roles.Temporaries at registers) = registers
temporaries _ = []

abbrev pub saved : Role → List Register
saved (roles.Saved at registers) = registers
saved _ = []

abbrev pub registers_in : Setting → (Role → List Register) → List Role → List ℕ
registers_in setting of front = map (index_of setting) (flat_map of front)

abbrev pub second_or : ℕ → List ℕ → ℕ
second_or plain [] = plain
second_or plain (n ∷ more) = first_or plain more

abbrev pub abi_of : Setting → GivenAbi → Abi
abi_of setting abi =
    record {
      file = record { 0 = first_or 0 (files_of setting abi.roles) };
      stack_pointer = first_or 0 (registers_in setting stack_pointer abi.roles);
      return_address = first_or 0 (registers_in setting return_address abi.roles);
      return_value = first_or 0 (registers_in setting return_value abi.roles);
      arguments = registers_in setting arguments abi.roles;
      temporaries = registers_in setting temporaries abi.roles;
      saved = registers_in setting saved abi.roles;
      code_base = first_or 0 (flat_map (code_base setting) abi.roles);
      data_base = first_or 0 (flat_map (data_base setting) abi.roles);
      low = first_or 0 (flat_map (stack_ends setting) abi.roles);
      high = second_or 0 (flat_map (stack_ends setting) abi.roles);
    }

-- ---- the stages

abbrev pub act_of : Setting → GivenAct → Act
act_of setting (given_acts.Read at resource) = acts.Read (resource_id setting.all (number_or (number_named setting.all resource.text)))
act_of setting (given_acts.Write at resource) = acts.Write (resource_id setting.all (number_or (number_named setting.all resource.text)))
act_of setting (given_acts.Compute at) = acts.Compute
act_of setting (given_acts.Resolve at) = acts.Resolve

abbrev pub stage_of : Setting → MicroItem → Option Stage
stage_of setting (lines.Stage at name given) = Some (record { name = bytes_of name.text; acts = map (act_of setting) given })
stage_of setting (lines.Forward at resource) = None

abbrev pub forwarded : Setting → MicroItem → Option RegId
forwarded setting (lines.Forward at resource) = Some (record { 0 = register_id setting.all (number_or (number_named setting.all resource.text)) })
forwarded setting (lines.Stage at name given) = None

abbrev pub micro_of : Setting → GivenMicro → Micro
micro_of setting micro = record { stages = filter_map (stage_of setting) micro.items; forward = filter_map (forwarded setting) micro.items }

-- ---- the whole

-- the processor of a description, in a setting of its items, with everything in place of their names
abbrev pub isa_by : Setting → Known → Desc → Parts
isa_by setting known d =
    record {
      name = bytes_of d.name.text;
      word = width_or (width_given setting.globals (first_format setting.all));
      pc = counter_of setting setting.all;
      memory = memory_name setting.all;
      regs = filter_map (register_decl setting) setting.all;
      formats = filter_map (format_decl setting) setting.all;
      instrs = filter_map (instruction_of setting known) setting.all;
      abi = option_map (abi_of setting) d.abi;
      micro = option_map (micro_of setting) d.micro;
    }

-- the processor that a description stands for
unfoldable pub isa_of : Desc → Parts
isa_of d = isa_by (setting_of d.items) (known_of d.items) d
