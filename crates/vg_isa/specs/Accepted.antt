-- What an accepted description keeps.
use Rattle.std.specs.Prelude.{ℕ, ◌+◌, Bool, true, false, ◌&&◌, ◌||◌, nat_eq, nat_le, nat_lt, List, flat_map, length, slice_get, Option}
use Rattle.std.specs.Option.{option_map_or}
use Rattle.std.specs.List.{list_all, count_by, range_with_len}
use Rattle.vg_bits.specs.BitValue.{BitValue}
use Rattle.vg_isa.specs.declared.isa.Parts.{Parts}
use Rattle.vg_isa.specs.declared.expr.Expr.{Expr}
use Rattle.vg_isa.specs.declared.ids.FieldId.{FieldId}
use Rattle.vg_isa.specs.declared.ids.FormatId.{FormatId}
use Rattle.vg_isa.specs.declared.ids.ResourceId.TheVariants.{Memory}
use Rattle.vg_isa.specs.declared.instr.Instr.{Instr}
use Rattle.vg_isa.specs.declared.instr.Write.{Write}
use Rattle.vg_isa.specs.declared.instr.Part.{Part}
use Rattle.vg_isa.specs.declared.instr.Part.TheVariants as part
use Rattle.vg_isa.specs.declared.format.Format.{Format}
use Rattle.vg_isa.specs.declared.format.FieldDecl.{FieldDecl}
use Rattle.vg_isa.specs.declared.declaration.RegDecl.{RegDecl}
use Rattle.vg_isa.specs.Declaration.{bits_of, ranges_of, are_in_word, has_field, register_count}
use Rattle.vg_isa.specs.Typing.{is_width, fits, has_width, is_write}
use Rattle.vg_isa.specs.Node.{Node, field_in, has_plain_index, is_plain, instr_nodes, accesses_of}
use Rattle.vg_isa.specs.Same.{all_differ, all_same, same_access, same_field, same_resource}
use Rattle.vg_isa.specs.Abi.{is_abi}
use Rattle.vg_isa.specs.Micro.{is_micro}

abbrev pub is_machine_width : ℕ → Bool
is_machine_width n = nat_eq n 16 || nat_eq n 32 || nat_eq n 64

-- ---- registers

-- at most 64 registers, of which one may read as 0
abbrev pub is_register_decl : RegDecl → Bool
is_register_decl decl =
    is_width decl.width
    && option_map_or (λ (w : ℕ). nat_le 1 w && nat_le w 6) decl.index true
    && option_map_or (λ (z : ℕ). nat_lt z (register_count decl)) decl.zero true

-- ---- formats

abbrev pub ranges_in : Format → List (ℕ × ℕ)
ranges_in format = flat_map (λ (field : FieldDecl). field.ranges) format.fields

abbrev pub names_bit : ℕ → ℕ × ℕ → Bool
names_bit b range = nat_le range.1 b && nat_le b range.0

-- each bit of a word stands in one of the ranges, and in one alone
abbrev pub is_cover : ℕ → List (ℕ × ℕ) → Bool
is_cover word ranges = list_all (λ b. nat_eq (count_by (names_bit b) ranges) 1) (range_with_len 0 word)

-- each field has a range, and the ranges run downwards and name each bit of the word once
abbrev pub is_format : ℕ → Format → Bool
is_format word format =
    list_all (λ (field : FieldDecl). nat_lt 0 (length field.ranges)) format.fields
    && are_in_word word (ranges_in format) && is_cover word (ranges_in format)

-- ---- instructions

-- a field of this format
abbrev pub is_field_of : Parts → FormatId → FieldId → Bool
is_field_of d format f = nat_eq f.format.0 format.0 && has_field d f

-- the encoding fixes a field of the format to a value of its width
abbrev pub is_fixed : Parts → FormatId → FieldId × BitValue → Bool
is_fixed d format fix =
    is_field_of d format fix.0 && nat_eq fix.1.width (bits_of (ranges_of d fix.0))
    && fits fix.1.width fix.1.number

abbrev pub are_fixed : Parts → Instr → Bool
are_fixed d instr =
    list_all (is_fixed d instr.format) instr.fixed
    && all_differ (λ (f g : FieldId × BitValue). same_field f.0 g.0) instr.fixed

-- a register's index is made of fields, constants and casts alone
abbrev pub has_plain_at : Write → Bool
has_plain_at write = same_resource Memory write.resource || option_map_or is_plain write.at true

-- each resource has one write at most
abbrev pub are_writes : Parts → Instr → Bool
are_writes d instr =
    list_all (is_write d) instr.writes && list_all has_plain_at instr.writes
    && all_differ (λ (v w : Write). same_resource v.resource w.resource) instr.writes

abbrev pub is_next : Parts → Option (Expr × Expr) → Bool
is_next d next = option_map_or (λ (n : Expr × Expr). has_width d 1 n.0 && has_width d d.pc.width n.1) next true

-- the fields and the indices of all trees; and that all reads of memory have one address and one size
abbrev pub are_nodes : Parts → Instr → Bool
are_nodes d instr =
    list_all (λ (n : Node). option_map_or (is_field_of d instr.format) (field_in n) true) (instr_nodes instr)
    && list_all has_plain_index (instr_nodes instr)
    && all_same same_access (accesses_of instr)

abbrev pub is_register_file : Parts → ℕ → Bool
is_register_file d r = option_map_or (λ (decl : RegDecl). option_map_or (λ (w : ℕ). true) decl.index false) (slice_get d.regs r) false

-- a part of a line of assembly names fields of the format
abbrev pub is_part : Parts → FormatId → Part → Bool
is_part d format (part.Register r f) = is_register_file d r.0 && is_field_of d format f
is_part d format (part.Decimal f) = is_field_of d format f
is_part d format (part.Signed f) = is_field_of d format f
is_part d format (part.Hex f) = is_field_of d format f
is_part d format (part.Target f power) = is_field_of d format f && nat_le power 63
is_part d format _ = true

abbrev pub is_template : Parts → Instr → Bool
is_template d instr = option_map_or (λ (parts : List Part). list_all (is_part d instr.format) parts) instr.template true

unfoldable pub is_instr : Parts → Instr → Bool
is_instr d instr =
    nat_lt instr.format.0 (length d.formats)
    && are_fixed d instr && are_writes d instr && is_next d instr.next && are_nodes d instr && is_template d instr

-- ---- the whole

-- at most 512 instructions, 64 formats and 16 resources, of which the memory is one
abbrev pub is_within_limits : Parts → Bool
is_within_limits d = nat_le (length d.instrs) 512 && nat_le (length d.formats) 64 && nat_le (length d.regs + 1) 16

-- What an accepted description keeps. Names, and that no word matches two instructions, are not in it.
unfoldable pub is_isa : Parts → Bool
is_isa d =
    is_machine_width d.word && is_machine_width d.pc.width
    && list_all is_register_decl d.regs
    && list_all (is_format d.word) d.formats
    && list_all (is_instr d) d.instrs
    && is_within_limits d
    && option_map_or (is_abi d) d.abi true
    && option_map_or (is_micro d) d.micro true
