-- The numbers of a description that a processor has room for. They have it where the rules of types, ranges and limits are
-- kept: widths of values are 1 to 128, and bits and registers are counted by a byte.
use Rattle.std.specs.Prelude.{◌≡◌, ℕ, ◌^◌, Bool, true, ◌&&◌, nat_lt, Option, if◌then◌else◌}
use Rattle.std.specs.Str.{bytes_eq}
use Rattle.std.specs.List.{list_all}
use Rattle.std.specs.Option.{option_map_or}
use Rattle.vg_bits.specs.BitValue.{BitValue}
use Rattle.vg_ast.specs.declared.abi.Abi.{Abi as GivenAbi}
use Rattle.vg_ast.specs.declared.desc.Desc.{Desc}
use Rattle.vg_ast.specs.declared.fix.Fix.{Fix}
use Rattle.vg_ast.specs.declared.item.Item.{Item}
use Rattle.vg_ast.specs.declared.item.Item.TheVariants as items
use Rattle.vg_ast.specs.declared.field.Field.{Field}
use Rattle.vg_ast.specs.declared.range.Range.{Range}
use Rattle.vg_isa.specs.Typing.{is_width, fits}
use Rattle.vg_isa.specs.declared.ids.FieldId.{FieldId}
use Rattle.vg_isa.specs.declared.declaration.RegDecl.{RegDecl}
use Rattle.vg_isa.specs.declared.abi.Abi.{Abi}
use Rattle.vg_names.specs.Definition.{Text}
use Rattle.vg_type.specs.Item.{Setting, first_format, width_given}
use Rattle.vg_tree.specs.Number.{width_or}
use Rattle.vg_declare.specs.FieldCover.{ends_of}
use Rattle.vg_processor.specs.IsaOf.{counter_of, register_decl, fixed_field}
use Rattle.vg_processor.specs.AbiFrom.{abi_from}

abbrev pub is_byte : ℕ → Bool
is_byte n = nat_lt n 256

abbrev pub is_long : ℕ → Bool
is_long n = nat_lt n (2 ^ 64)

-- ---- declarations

abbrev pub holds_register : RegDecl → Bool
holds_register decl = is_width decl.width && option_map_or is_width decl.index true && option_map_or is_byte decl.zero true

abbrev pub holds_register_of : Setting → Item → Bool
holds_register_of setting item = option_map_or holds_register (register_decl setting item) true

abbrev pub holds_range : Setting → Range → Bool
holds_range setting range = is_byte (ends_of setting.globals.constants range).0 && is_byte (ends_of setting.globals.constants range).1

abbrev pub holds_field : Setting → Field → Bool
holds_field setting field = list_all (holds_range setting) field.ranges

abbrev pub holds_format_of : Setting → Item → Bool
holds_format_of setting (items.Format at name given fields) = list_all (holds_field setting) fields
holds_format_of setting _ = true

-- ---- encodings

abbrev pub holds_fixed : FieldId × BitValue → Bool
holds_fixed fix = is_width fix.1.width && fits fix.1.width fix.1.number

abbrev pub holds_fix : Setting → Text → Fix → Bool
holds_fix setting format fix = holds_fixed (fixed_field setting format fix)

abbrev pub holds_fixed_by : Setting → Text → Text → Item → Bool
holds_fixed_by setting instruction format (items.Encoding at name fixes) =
    if bytes_eq name.text instruction then list_all (holds_fix setting format) fixes else true
holds_fixed_by setting instruction format _ = true

-- what all encodings of an instruction fix
abbrev pub holds_instruction : Setting → Item → Bool
holds_instruction setting (items.Instruction at name format behaviour) = list_all (holds_fixed_by setting name.text format.text) setting.all
holds_instruction setting _ = true

-- ---- the binary interface

abbrev pub holds_abi : Abi → Bool
holds_abi abi =
    is_byte abi.stack_pointer && is_byte abi.return_address && is_byte abi.return_value
    && list_all is_byte abi.arguments && list_all is_byte abi.temporaries && list_all is_byte abi.saved
    && is_long abi.code_base && is_long abi.data_base && is_long abi.low && is_long abi.high

abbrev pub holds_interface : Setting → Option GivenAbi → Bool
holds_interface setting abi = option_map_or (λ (abi : GivenAbi). holds_abi (abi_from setting abi.roles)) abi true

-- ---- the whole

-- the width of the first format
abbrev pub word_width : Setting → ℕ
word_width setting = width_or (width_given setting.globals (first_format setting.all))

-- a processor has room for all numbers of a description
pub record IsHeld (setting : Setting) (d : Desc) : Type 0 where
  pub word : is_width (word_width setting) ≡ true
  pub counter : is_width (counter_of setting setting.all).width ≡ true
  pub registers : list_all (holds_register_of setting) setting.all ≡ true
  pub formats : list_all (holds_format_of setting) setting.all ≡ true
  pub instructions : list_all (holds_instruction setting) setting.all ≡ true
  pub interface : holds_interface setting d.abi ≡ true
