-- Each item, role, stage line, heading and closing brace is one whole piece.
use Rattle.std.proofs.Common.{◌≡◌, ℕ, ◌<◌, Bool, true, false, ◌||◌, IsTrue, List, [], ◌∷◌, Option, Some, None, refl, ap, ◌∙◌, arith}
use Rattle.vg_tok.specs.declared.token.Kind.TheVariants as kind
use Rattle.vg_tok.specs.declared.sign.Sign.TheVariants as signs
use Rattle.vg_tok.specs.declared.word.Word.{Word}
use Rattle.vg_tok.specs.declared.word.Word.TheVariants as words
use Rattle.vg_ast.specs.declared.part.NumberFormat.{NumberFormat}
use Rattle.vg_ast.specs.declared.part.NumberFormat.TheVariants as formats
use Rattle.vg_ast.specs.Placed.{Placed, sign, word, name, string}
use Rattle.vg_ast.specs.Concrete.{Expr}
use Rattle.vg_ast.specs.ConcreteItem.{Row, Range, Field, Parameter, Fix, Part, text, mnemonic, register_part, number_part, target, Item, constant, using, function, program_counter, memory, register, register_file, format, instruction, encoding, assembly, Register, Role, stack_pointer, return_address, return_value, arguments, temporaries, saved, code_base, data_base, stack, Act, read, write, compute, resolve, MicroItem, stage, forward, IsaHeading, AbiHeading, MicroHeading}
use Rattle.vg_ast.specs.SpellingItem.{Spells, spelled_more, spelled_row, spelled_optional_row, spelled_low, spelled_range, spelled_field, spelled_parameter, spelled_fix, format_word, spelled_part, spelled_zero, spelled_item, spelled_register, spelled_role, spelled_act, spelled_acts, spelled_micro_item, spelled_isa_heading, spelled_abi_heading, spelled_micro_heading}
use Rattle.vg_ast.specs.Piece.{Depths, no_depths, depths_behind, begins_piece, closes_part, is_leading, Cut, cut}
use Rattle.vg_parse.proofs.Leading.{Leads, ◌⨾◌, nothing, is_plain, plain, inside, open_at, close_at, register_at, in_braces, open_brace_at, close_brace_at}
use Rattle.vg_parse.proofs.Quiet.{quiet, quiet_type, quiet_statement}

-- what is open in a part, before and behind each of its pieces
abbrev pub in_part : Depths
in_part = record { braces = 1; parentheses = 0 }

in_some : 0 < in_part.braces
in_some = omega arith

-- Rows.

quiet_row_more : {X : Type 0} (spells : Spells X) (d : Depths) → ((x : X) → Leads d (spells x) d) → (more : List (ℕ × X)) → Leads d (spelled_more spells more) d
quiet_row_more spells d each [] = nothing d
quiet_row_more spells d each (x ∷ more) = plain (sign signs.Comma x.0) d refl ⨾ each x.1 ⨾ quiet_row_more spells d each more

quiet_row : {X : Type 0} (spells : Spells X) (d : Depths) → ((x : X) → Leads d (spells x) d) → (row : Row X) → Leads d (spelled_row spells row) d
quiet_row spells d each row = each row.first ⨾ quiet_row_more spells d each row.more

quiet_optional_row : {X : Type 0} (spells : Spells X) (d : Depths) → ((x : X) → Leads d (spells x) d) → (row : Option (Row X)) → Leads d (spelled_optional_row spells row) d
quiet_optional_row spells d each None = nothing d
quiet_optional_row spells d each (Some row) = quiet_row spells d each row

-- Parts of items.

quiet_low : (low : Option (ℕ × Expr)) (d : Depths) → Leads d (spelled_low low) d
quiet_low None d = nothing d
quiet_low (Some low) d = plain (sign signs.DotDot low.0) d refl ⨾ quiet low.1 d

quiet_range : (range : Range) (d : Depths) → Leads d (spelled_range range) d
quiet_range range d = quiet range.high d ⨾ quiet_low range.low d

quiet_field : (field : Field) (d : Depths) → Leads d (spelled_field field) d
quiet_field field d =
    plain (name field.name) d refl ⨾ plain (sign signs.OpenBracket field.opening) d refl
    ⨾ quiet_row spelled_range d (λ range. quiet_range range d) field.ranges ⨾ plain (sign signs.CloseBracket field.closing) d refl

quiet_parameter : (parameter : Parameter) (d : Depths) → Leads d (spelled_parameter parameter) d
quiet_parameter parameter d = plain (name parameter.name) d refl ⨾ plain (sign signs.Colon parameter.colon) d refl ⨾ quiet_type parameter.declared d

quiet_fix : (fix : Fix) (d : Depths) → Leads d (spelled_fix fix) d
quiet_fix fix d = plain (name fix.name) d refl ⨾ plain (sign signs.Equal fix.equal) d refl ⨾ quiet fix.value d

plain_format : (form : NumberFormat) → IsTrue (is_plain (kind.Word (format_word form)))
plain_format formats.Decimal = refl
plain_format _ = refl

-- a part of an assembly line stands in parentheses
quiet_part : (part : Part) (d : Depths) → Leads (inside d) (spelled_part part) (inside d)
quiet_part (text at characters) d = plain (string characters at) (inside d) refl
quiet_part (mnemonic at) d = plain (word words.Mnemonic at) (inside d) refl
quiet_part (register_part at opening file inner_opening field inner_closing closing) d =
    register_at at d ⨾ open_at opening (inside d) ⨾ plain (name file) (inside (inside d)) refl ⨾ open_at inner_opening (inside (inside d))
    ⨾ plain (name field) (inside (inside (inside d))) refl ⨾ close_at inner_closing (inside (inside d)) ⨾ close_at closing (inside d)
quiet_part (number_part form at opening field closing) d =
    plain (word (format_word form) at) (inside d) (plain_format form) ⨾ open_at opening (inside d) ⨾ plain (name field) (inside (inside d)) refl ⨾ close_at closing (inside d)
quiet_part (target at opening field comma shift closing) d =
    plain (word words.Target at) (inside d) refl ⨾ open_at opening (inside d) ⨾ plain (name field) (inside (inside d)) refl
    ⨾ plain (sign signs.Comma comma) (inside (inside d)) refl ⨾ quiet shift (inside (inside d)) ⨾ close_at closing (inside d)

quiet_zero : (zero : Option (ℕ × Expr)) (d : Depths) → Leads d (spelled_zero zero) d
quiet_zero None d = nothing d
quiet_zero (Some zero) d = plain (word words.Zero zero.0) d refl ⨾ quiet zero.1 d

quiet_register : (reg : Register) (d : Depths) → Leads d (spelled_register reg) d
quiet_register reg d = plain (name reg.file) d refl ⨾ open_at reg.opening d ⨾ quiet reg.index (inside d) ⨾ close_at reg.closing d

quiet_act : (act : Act) (d : Depths) → Leads d (spelled_act act) d
quiet_act (read at resource) d = plain (word words.Read at) d refl ⨾ plain (name resource) d refl
quiet_act (write at resource) d = plain (word words.Write at) d refl ⨾ plain (name resource) d refl
quiet_act (compute at) d = plain (word words.Compute at) d refl
quiet_act (resolve at) d = plain (word words.Resolve at) d refl

quiet_acts : (acts : Option (ℕ × Row Act)) (d : Depths) → Leads d (spelled_acts acts) d
quiet_acts None d = nothing d
quiet_acts (Some acts) d = plain (sign signs.Colon acts.0) d refl ⨾ quiet_row spelled_act d (λ act. quiet_act act d) acts.1

-- Whole pieces.

-- what a tree spells is one piece, from some depths to others, where f says whether a piece begins anyhow, and g whether
-- one begins behind it
pub record IsWhole (d : Depths) (f : Bool) (spells : List Placed → List Placed) (e : Depths) (g : Bool) : Type 0 where
  pub cut_whole : (ts : List Placed) → cut d f (spells ts) ≡ ([], spells (cut e g ts).0 ∷ (cut e g ts).1)

whole_at : (d : Depths) (f : Bool) (t : Placed) (ts : List Placed) (closes : Bool) (e : Depths) → (f || begins_piece d t.kind) ≡ true → closes_part d t.kind ≡ closes → depths_behind t.kind d ≡ e
    → cut d f (t ∷ ts) ≡ ([], (t ∷ (cut e closes ts).0) ∷ (cut e closes ts).1)
unfolding cut
whole_at d f t ts closes e p q r = rw (p, q, r)

whole : {rest : List Placed → List Placed} {c e : Depths} (d : Depths) (f : Bool) (t : Placed) → (f || begins_piece d t.kind) ≡ true → closes_part d t.kind ≡ false → depths_behind t.kind d ≡ c
    → Leads c rest e → IsWhole d f (λ ts. t ∷ rest ts) e false
whole {rest} {c} d f t p q r l = record {
  cut_whole = λ ts. whole_at d f t (rest ts) false c p q r ∙ ap (λ (behind : Cut). ([], (t ∷ behind.0) ∷ behind.1)) (l.cut_behind ts);
}

or_true : (f : Bool) → (f || true) ≡ true
or_true true = refl
or_true false = refl

begins : (f : Bool) (w : Word) → is_leading w ≡ true → (f || begins_piece in_part (kind.Word w)) ≡ true
begins f w h = rw h (or_true f)

-- a piece of a part that begins with this word
led : {rest : List Placed → List Placed} (f : Bool) (w : Word) (at : ℕ) → is_leading w ≡ true → Leads in_part rest in_part → IsWhole in_part f (λ ts. word w at ∷ rest ts) in_part false
led f w at h l = whole in_part f (word w at) (begins f w h) refl refl l

pub whole_item : (item : Item) (f : Bool) → IsWhole in_part f (spelled_item item) in_part false
whole_item (constant at n equal value) f = led f words.Constant at refl (plain (name n) in_part refl ⨾ plain (sign signs.Equal equal) in_part refl ⨾ quiet value in_part)
whole_item (using at n equal meaning) f = led f words.Using at refl (plain (name n) in_part refl ⨾ plain (sign signs.Equal equal) in_part refl ⨾ quiet_type meaning in_part)
whole_item (function at n opening parameters closing arrow result equal body) f =
    led f words.Function at refl (plain (name n) in_part refl ⨾ open_at opening in_part
    ⨾ quiet_optional_row spelled_parameter (inside in_part) (λ parameter. quiet_parameter parameter (inside in_part)) parameters ⨾ close_at closing in_part
    ⨾ plain (sign signs.Arrow arrow) in_part refl ⨾ quiet_type result in_part ⨾ plain (sign signs.Equal equal) in_part refl ⨾ quiet body in_part)
whole_item (program_counter at at_counter n colon declared) f =
    led f words.Program at refl (plain (word words.Counter at_counter) in_part refl ⨾ plain (name n) in_part refl ⨾ plain (sign signs.Colon colon) in_part refl ⨾ quiet_type declared in_part)
whole_item (memory at n colon address arrow cell) f =
    led f words.Memory at refl (plain (name n) in_part refl ⨾ plain (sign signs.Colon colon) in_part refl ⨾ quiet_type address in_part
    ⨾ plain (sign signs.Arrow arrow) in_part refl ⨾ quiet_type cell in_part)
whole_item (register at n colon declared) f =
    led f words.Register at refl (plain (name n) in_part refl ⨾ plain (sign signs.Colon colon) in_part refl ⨾ quiet_type declared in_part)
whole_item (register_file at at_file n colon index arrow declared zero) f =
    led f words.Register at refl (plain (word words.File at_file) in_part refl ⨾ plain (name n) in_part refl ⨾ plain (sign signs.Colon colon) in_part refl ⨾ quiet_type index in_part
    ⨾ plain (sign signs.Arrow arrow) in_part refl ⨾ quiet_type declared in_part ⨾ quiet_zero zero in_part)
whole_item (format at n colon declared equal opening fields closing) f =
    led f words.Format at refl (plain (name n) in_part refl ⨾ plain (sign signs.Colon colon) in_part refl ⨾ quiet_type declared in_part
    ⨾ plain (sign signs.Equal equal) in_part refl ⨾ open_brace_at opening in_part
    ⨾ quiet_row spelled_field (in_braces in_part) (λ field. quiet_field field (in_braces in_part)) fields ⨾ close_brace_at closing in_part in_some)
whole_item (instruction at n colon of_format equal behaviour) f =
    led f words.Instruction at refl (plain (name n) in_part refl ⨾ plain (sign signs.Colon colon) in_part refl ⨾ plain (name of_format) in_part refl
    ⨾ plain (sign signs.Equal equal) in_part refl ⨾ quiet_statement behaviour in_part in_some)
whole_item (encoding at n equal opening fixes closing) f =
    led f words.Encoding at refl (plain (name n) in_part refl ⨾ plain (sign signs.Equal equal) in_part refl ⨾ open_brace_at opening in_part
    ⨾ quiet_optional_row spelled_fix (in_braces in_part) (λ fix. quiet_fix fix (in_braces in_part)) fixes ⨾ close_brace_at closing in_part in_some)
whole_item (assembly at n equal opening parts closing) f =
    led f words.Assembly at refl (plain (name n) in_part refl ⨾ plain (sign signs.Equal equal) in_part refl ⨾ open_at opening in_part
    ⨾ quiet_row spelled_part (inside in_part) (λ part. quiet_part part in_part) parts ⨾ close_at closing in_part)

registers : (equal : ℕ) (row : Row Register) → Leads in_part (λ ts. sign signs.Equal equal ∷ spelled_row spelled_register row ts) in_part
registers equal row = plain (sign signs.Equal equal) in_part refl ⨾ quiet_row spelled_register in_part (λ reg. quiet_register reg in_part) row

pub whole_role : (role : Role) (f : Bool) → IsWhole in_part f (spelled_role role) in_part false
whole_role (stack_pointer at second equal reg) f = led f words.Stack at refl (plain (word words.Pointer second) in_part refl ⨾ plain (sign signs.Equal equal) in_part refl ⨾ quiet_register reg in_part)
whole_role (return_address at second equal reg) f = led f words.Return at refl (plain (word words.Address second) in_part refl ⨾ plain (sign signs.Equal equal) in_part refl ⨾ quiet_register reg in_part)
whole_role (return_value at second equal reg) f = led f words.Return at refl (plain (word words.Value second) in_part refl ⨾ plain (sign signs.Equal equal) in_part refl ⨾ quiet_register reg in_part)
whole_role (arguments at equal row) f = led f words.Arguments at refl (registers equal row)
whole_role (temporaries at equal row) f = led f words.Temporaries at refl (registers equal row)
whole_role (saved at equal row) f = led f words.Saved at refl (registers equal row)
whole_role (code_base at equal base) f = led f words.Code at refl (plain (sign signs.Equal equal) in_part refl ⨾ quiet base in_part)
whole_role (data_base at equal base) f = led f words.Data at refl (plain (sign signs.Equal equal) in_part refl ⨾ quiet base in_part)
whole_role (stack at equal low dots high) f =
    led f words.Stack at refl (plain (sign signs.Equal equal) in_part refl ⨾ quiet low in_part ⨾ plain (sign signs.DotDot dots) in_part refl ⨾ quiet high in_part)

pub whole_micro_item : (item : MicroItem) (f : Bool) → IsWhole in_part f (spelled_micro_item item) in_part false
whole_micro_item (stage at n acts) f = led f words.Stage at refl (plain (name n) in_part refl ⨾ quiet_acts acts in_part)
whole_micro_item (forward at n) f = led f words.Forward at refl (plain (name n) in_part refl)

-- a piece that begins outside of all parts, with a word
opened : {rest : List Placed → List Placed} {c : Depths} (t : Placed) → closes_part no_depths t.kind ≡ false → depths_behind t.kind no_depths ≡ c → Leads c rest in_part → IsWhole no_depths true (λ ts. t ∷ rest ts) in_part false
opened t q r l = whole no_depths true t refl q r l

-- the sign and the brace that a heading ends with
heading_end : (equal opening : ℕ) → Leads no_depths (λ ts. sign signs.Equal equal ∷ sign signs.OpenBrace opening ∷ ts) in_part
heading_end equal opening = plain (sign signs.Equal equal) no_depths refl ⨾ open_brace_at opening no_depths

pub whole_isa_heading : (h : IsaHeading) → IsWhole no_depths true (spelled_isa_heading h) in_part false
whole_isa_heading h =
    opened (word words.Instruction h.at) refl refl (plain (word words.Set h.at_set) no_depths refl ⨾ plain (word words.Architecture h.at_architecture) no_depths refl
    ⨾ plain (name h.name) no_depths refl ⨾ heading_end h.equal h.opening)

pub whole_abi_heading : (h : AbiHeading) → IsWhole no_depths true (spelled_abi_heading h) in_part false
whole_abi_heading h =
    opened (word words.Application h.at) refl refl (plain (word words.Binary h.at_binary) no_depths refl ⨾ plain (word words.Interface h.at_interface) no_depths refl
    ⨾ plain (word words.For h.at_for) no_depths refl ⨾ plain (name h.name) no_depths refl ⨾ heading_end h.equal h.opening)

pub whole_micro_heading : (h : MicroHeading) → IsWhole no_depths true (spelled_micro_heading h) in_part false
whole_micro_heading h =
    opened (word words.Micro h.at) refl refl (plain (word words.Architecture h.at_architecture) no_depths refl ⨾ plain (word words.For h.at_for) no_depths refl
    ⨾ plain (name h.name) no_depths refl ⨾ heading_end h.equal h.opening)

-- the `}` of a part, behind which a piece begins
pub whole_closing : (at : ℕ) (f : Bool) → IsWhole in_part f (λ ts. sign signs.CloseBrace at ∷ ts) no_depths true
whole_closing at f = record { cut_whole = λ ts. whole_at in_part f (sign signs.CloseBrace at) ts true no_depths (or_true f) refl refl }
