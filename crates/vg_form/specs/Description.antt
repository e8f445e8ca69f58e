-- Which descriptions are built so far: those that are this text with everything in place of its names, at any places.
--
--     instruction set architecture T = {
--       program counter PC : Bits<32>
--       memory MEM : Bits<32> -> Bits<8>
--       register file X : Bits<5> -> Bits<32> zero 0
--       format R : Bits<32> = { f7 [31..25], rs2 [24..20], rs1 [19..15], f3 [14..12], rd [11..7], op [6..0] }
--       instruction ADDI : R = X(rd) := X(rs1) + rs2 as Bits<32>
--       encoding ADDI = { f7 = 0, f3 = 0, op = 0x13 }
--       ..
--     }
--
-- with any ASCII name, and 1 to 512 pairs of an instruction and its encoding, whose names are ASCII and whose numbers fit
-- their fields and differ from those of the other pairs. Of other descriptions the first item that isn't so is told.
use Rattle.std.specs.Prelude.{ℕ, Bool, true, false, ◌&&◌, nat_eq, nat_lt, List, [], ◌∷◌, ◌++◌, map, codes, Option, Some, None, if◌then◌else◌, zero, suc}
use Rattle.std.specs.Str.{bytes_eq}
use Rattle.std.specs.List.{filter, list_all, list_any}
use Rattle.vg_ast.specs.declared.expr.Expr.{Expr}
use Rattle.vg_ast.specs.declared.range.Range.{Range}
use Rattle.vg_ast.specs.declared.field.Field.{Field}
use Rattle.vg_ast.specs.declared.fix.Fix.{Fix}
use Rattle.vg_ast.specs.declared.item.Item.{Item}
use Rattle.vg_ast.specs.declared.item.Item.TheVariants as items
use Rattle.vg_ast.specs.declared.name.Name.{Name}
use Rattle.vg_ast.specs.declared.type_expr.TypeExpr.{TypeExpr}
use Rattle.vg_ast.specs.declared.abi.Abi.{Abi}
use Rattle.vg_ast.specs.declared.micro.Micro.{Micro}
use Rattle.vg_ast.specs.declared.desc.Desc.{Desc}
use Rattle.vg_form.specs.declared.form.Form.{Form}
use Rattle.vg_form.specs.declared.form.Pair.{Pair}
use Rattle.vg_form.specs.declared.form.Behaviour.{Behaviour}
use Rattle.vg_form.specs.declared.shape.Shape.{Shape}
use Rattle.vg_form.specs.declared.shape.Shape.TheVariants as shape
use Rattle.vg_form.specs.declared.shape.Operand.TheVariants.{Rd}
use Rattle.vg_names.specs.Numbers.{number_named}
use Rattle.vg_whole.specs.declared.worth.Worth.{Worth}
use Rattle.vg_whole.specs.declared.worth.Worth.TheVariants.{Whole}
use Rattle.vg_whole.specs.Whole.{whole_of}
use Rattle.vg_inline.specs.declared.declared.Declared.{Declared}
use Rattle.vg_inline.specs.declared.tree.Tree.{Tree}
use Rattle.vg_inline.specs.declared.effect.Effect.{Effect, fold-Effect}
use Rattle.vg_inline.specs.declared.effect.Effect.TheOpen.{Effect-F}
use Rattle.vg_inline.specs.declared.effect.Target.{Target}
use Rattle.vg_inline.specs.declared.effect.Target.TheVariants as targets
use Rattle.vg_inline.specs.InPlace.{Known, declared_type, behaviour_of}
use Rattle.vg_inline.specs.Inline.{number_or}
use Rattle.vg_form.specs.Shape.{shape_of, is_whole, is_bits}

-- what is found, or the place of the first thing that isn't as the form asks
pub data Found (X : Type 0) : Type 0 where
  found : X → Found X
  unlike : ℕ → Found X

infixl 10 ◌>>=◌
abbrev pub ◌>>=◌ : {X Y : Type 0} → Found X → (X → Found Y) → Found Y
(found x) >>= next = next x
(unlike at) >>= next = unlike at

abbrev pub found_or : {X : Type 0} → ℕ → Option X → Found X
found_or at None = unlike at
found_or at (Some x) = found x

-- ---- the declarations

abbrev pub is_ascii : List ℕ → Bool
is_ascii name = list_all (λ c. nat_lt c 128) name

-- the place of the first token of an item
abbrev pub place_of : Item → ℕ
place_of (items.Constant at name value) = at
place_of (items.Using at name meaning) = at
place_of (items.Function at name parameters result body) = at
place_of (items.ProgramCounter at name declared) = at
place_of (items.Memory at name address cell) = at
place_of (items.Register at name declared) = at
place_of (items.RegisterFile at name index declared constant) = at
place_of (items.Format at name declared fields) = at
place_of (items.Instruction at name format behaviour) = at
place_of (items.Encoding at name fixes) = at
place_of (items.Assembly at name parts) = at

-- what numbers outside of statements are worth, and what types stand for
pub record Values : Type 0 where
  pub worth : Expr → Worth
  pub declared : TypeExpr Expr → Declared

-- no inner name is in scope there
abbrev pub values_of : Known → Values
values_of known = record { worth = λ e. whole_of known.constants e []; declared = λ t. declared_type known t }

-- an item, and what it does with everything in place, where it is an instruction
abbrev pub Doing : Type 0
Doing = Item × Option Effect

-- Bits<n>
abbrev pub is_word : Values → ℕ → TypeExpr Expr → Bool
is_word values n t = is_bits n (values.declared t)

abbrev pub is_named : Name → List ℕ → Bool
is_named name text = bytes_eq name.text text

-- program counter PC : Bits<32>
abbrev pub is_counter : Values → Item → Bool
is_counter values (items.ProgramCounter at name declared) = is_named name (codes "PC") && is_word values 32 declared
is_counter values _ = false

-- memory MEM : Bits<32> -> Bits<8>
abbrev pub is_memory : Values → Item → Bool
is_memory values (items.Memory at name address cell) = is_named name (codes "MEM") && is_word values 32 address && is_word values 8 cell
is_memory values _ = false

abbrev pub is_low : Values → ℕ → Option Expr → Bool
is_low values n None = false
is_low values n (Some e) = is_whole n (values.worth e)

-- register file X : Bits<5> -> Bits<32> zero 0
abbrev pub is_file : Values → Item → Bool
is_file values (items.RegisterFile at name index declared constant) = is_named name (codes "X") && is_word values 5 index && is_word values 32 declared && is_low values 0 constant
is_file values _ = false

abbrev pub are_ranges : Values → ℕ → ℕ → List Range → Bool
are_ranges values high low (range ∷ []) = is_whole high (values.worth range.high) && is_low values low range.low
are_ranges values high low _ = false

-- name [high..low]
abbrev pub is_field : Values → List ℕ → ℕ → ℕ → Field → Bool
is_field values text high low field = is_named field.name text && are_ranges values high low field.ranges

abbrev pub are_fields : Values → List Field → Bool
are_fields values (f7 ∷ rs2 ∷ rs1 ∷ f3 ∷ rd ∷ op ∷ []) =
    is_field values (codes "f7") 31 25 f7 && is_field values (codes "rs2") 24 20 rs2 && is_field values (codes "rs1") 19 15 rs1
    && is_field values (codes "f3") 14 12 f3 && is_field values (codes "rd") 11 7 rd && is_field values (codes "op") 6 0 op
are_fields values _ = false

-- format R : Bits<32> of those six fields
abbrev pub is_format : Values → Item → Bool
is_format values (items.Format at name declared fields) = is_named name (codes "R") && is_word values 32 declared && are_fields values fields
is_format values _ = false

-- what follows an item that is so; where there is no item the closing brace is told
abbrev pub behind : (Item → Bool) → ℕ → List Doing → Found (List Doing)
behind is close [] = unlike close
behind is close (doing ∷ more) = if is doing.0 then found more else unlike (place_of doing.0)

-- the pairs, behind the declarations
abbrev pub behind_declarations : Values → ℕ → List Doing → Found (List Doing)
behind_declarations values close doings =
    behind (is_counter values) close doings >>= behind (is_memory values) close >>= behind (is_file values) close >>= behind (is_format values) close

-- ---- the pairs

abbrev pub value_of : Shape → Option Behaviour
value_of (shape.Value behaviour) = Some behaviour
value_of _ = None

abbrev pub is_rd : Shape → Bool
is_rd (shape.Field Rd) = true
is_rd _ = false

-- X(rd), where the register file is the item of this number
abbrev pub is_target : ℕ → Target → List Tree → Bool
is_target file (targets.Indexed item at index_at) (index ∷ []) = nat_eq item file && is_rd (shape_of file index)
is_target file _ _ = false

abbrev pub effect_step : ℕ → Effect-F (Option Behaviour) → Option Behaviour
effect_step file (Effect-F.Assign target parts at value) = if is_target file target parts then value_of (shape_of file value) else None
effect_step file _ = None

-- X(rd) := a value
abbrev pub value_written : ℕ → Effect → Option Behaviour
value_written file x = fold-Effect (Option Behaviour) (effect_step file) x

abbrev pub value_in : ℕ → Option Effect → Option Behaviour
value_in file None = None
value_in file (Some x) = value_written file x

-- the number of the register file
abbrev pub file_of : List Item → ℕ
file_of all = number_or (number_named all (codes "X"))

abbrev pub named_behaviour : Name → Option Behaviour → Option (Name × Behaviour)
named_behaviour name None = None
named_behaviour name (Some behaviour) = Some (name, behaviour)

-- an instruction of the format R with an ASCII name, by what it does
abbrev pub instruction_of : ℕ → Item → Option Effect → Option (Name × Behaviour)
instruction_of file (items.Instruction at name format behaviour) effect = if is_ascii name.text && is_named format (codes "R") then named_behaviour name (value_in file effect) else None
instruction_of file _ effect = None

abbrev pub number_below : ℕ → Worth → Option ℕ
number_below limit (Whole n) = if nat_lt n limit then Some n else None
number_below limit _ = None

-- name = a number below the limit
abbrev pub fixed : Values → List ℕ → ℕ → Fix → Option ℕ
fixed values text limit fix = if is_named fix.name text then number_below limit (values.worth fix.value) else None

abbrev pub three : Option ℕ → Option ℕ → Option ℕ → Option (ℕ × ℕ × ℕ)
three (Some f7) (Some f3) (Some op) = Some (f7, f3, op)
three _ _ _ = None

-- f7 = .., f3 = .., op = ..
abbrev pub numbers_of : Values → List Fix → Option (ℕ × ℕ × ℕ)
numbers_of values (f7 ∷ f3 ∷ op ∷ []) = three (fixed values (codes "f7") 128 f7) (fixed values (codes "f3") 8 f3) (fixed values (codes "op") 128 op)
numbers_of values _ = None

-- the encoding of the instruction of this name
abbrev pub encoding_of : Values → Name → Item → Option (ℕ × ℕ × ℕ)
encoding_of values instruction (items.Encoding at name fixes) = if bytes_eq instruction.text name.text then numbers_of values fixes else None
encoding_of values instruction _ = None

-- two encodings with the same three numbers
abbrev pub same_encoding : Pair → Pair → Bool
same_encoding a b = nat_eq a.f7 b.f7 && nat_eq a.f3 b.f3 && nat_eq a.op b.op

-- where an encoding has the numbers of one before it, the name of its instruction is told
abbrev pub apart : List Pair → ℕ → Pair → Found Pair
apart front at pair = if list_any (same_encoding pair) front then unlike at else found pair

-- an instruction and its encoding, where these pairs stand in front
abbrev pub pair_of : ℕ → Values → List Pair → Doing → List Doing → Found Pair
pair_of file values front doing [] = unlike (place_of doing.0)
pair_of file values front doing (other ∷ more) =
    found_or (place_of doing.0) (instruction_of file doing.0 doing.1) >>= λ instruction.
    found_or (place_of other.0) (encoding_of values instruction.0 other.0) >>= λ numbers.
    apart front instruction.0.at (record { name = instruction.0.text; behaviour = instruction.1; f7 = numbers.0; f3 = numbers.1; op = numbers.2 })

-- the pairs up to the end, where these stand in front and so many may follow
abbrev pub pairs_behind : ℕ → Values → ℕ → List Pair → List Doing → Found (List Pair)
pairs_behind file values room front [] = found front
pairs_behind file values zero front (doing ∷ more) = unlike (place_of doing.0)
pairs_behind file values (suc room) front (doing ∷ []) = pair_of file values front doing [] >>= λ pair. pairs_behind file values room (front ++ pair ∷ []) []
pairs_behind file values (suc room) front (doing ∷ other ∷ more) =
    pair_of file values front doing (other ∷ more) >>= λ pair. pairs_behind file values room (front ++ pair ∷ []) more

-- one pair or more; where there is none the closing brace is told
abbrev pub pairs_of : ℕ → Values → ℕ → List Doing → Found (List Pair)
pairs_of file values close [] = unlike close
pairs_of file values close (doing ∷ more) = pairs_behind file values 512 [] (doing ∷ more)

-- ---- the whole

-- there is no other part behind the instruction set
abbrev pub without_abi : Option Abi → Form → Found Form
without_abi None form = found form
without_abi (Some abi) form = unlike abi.at

abbrev pub without_micro : Option Micro → Form → Found Form
without_micro None form = found form
without_micro (Some micro) form = unlike micro.at

abbrev pub name_of : Name → Found (List ℕ)
name_of name = if is_ascii name.text then found name.text else unlike name.at

-- constants, aliases and functions are put in place of their names, and declare nothing that is left
abbrev pub declares : Item → Bool
declares (items.Constant at name value) = false
declares (items.Using at name meaning) = false
declares (items.Function at name parameters result body) = false
declares _ = true

-- the items that are left, each with what it does
abbrev pub doings_of : Desc → Known → List Doing
doings_of d known = map (λ (item : Item). (item, behaviour_of d.items known item)) (filter declares d.items)

abbrev pub form_by : Desc → Values → List Doing → Found Form
form_by d values doings =
    name_of d.name >>= λ name.
    behind_declarations values d.close doings >>= λ rest.
    pairs_of (file_of d.items) values d.close rest >>= λ pairs.
    without_abi d.abi (record { name = name; pairs = pairs }) >>= without_micro d.micro

-- the form of a description with everything in place, or the place of the first thing that isn't of the form
abbrev pub form_of : Desc → Known → Found Form
form_of d known = form_by d (values_of known) (doings_of d known)
