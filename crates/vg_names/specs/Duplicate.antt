-- Names that are defined twice in one scope, and things of which one may stand.
use Rattle.std.specs.Prelude.{ℕ, ◌+◌, Bool, true, false, ◌&&◌, ◌||◌, nat_eq, List, [], ◌∷◌, ◌++◌, map, Option, Some, None, if◌then◌else◌}
use Rattle.std.specs.Str.{bytes_eq}
use Rattle.std.specs.List.{list_any}
use Rattle.vg_ast.specs.declared.name.Name.{Name}
use Rattle.vg_ast.specs.declared.item.Item.{Item}
use Rattle.vg_ast.specs.declared.item.Item.TheVariants as items
use Rattle.vg_ast.specs.declared.field.Field.{Field}
use Rattle.vg_ast.specs.declared.parameter.Parameter.{Parameter}
use Rattle.vg_ast.specs.declared.part.Part.{Part}
use Rattle.vg_ast.specs.declared.part.Part.TheVariants as parts
use Rattle.vg_ast.specs.declared.micro.Micro.{Micro}
use Rattle.vg_ast.specs.declared.micro_item.MicroItem.{MicroItem}
use Rattle.vg_ast.specs.declared.micro_item.MicroItem.TheVariants as lines
use Rattle.vg_ast.specs.declared.desc.Desc.{Desc}
use Rattle.vg_names.specs.declared.scope.Scope.{Scope}
use Rattle.vg_names.specs.declared.scope.Scope.TheVariants as scopes

-- a name that a scope may have once
pub record Claim : Type 0 where
  pub scope : Scope
  pub name : Name

abbrev pub claim : Scope → Name → Claim
claim scope name = record { scope = scope; name = name }

-- the fields that an assembly names
abbrev pub operand_of : Part → List Name
operand_of (parts.Text at text) = []
operand_of (parts.Mnemonic at) = []
operand_of (parts.Register at file field) = field ∷ []
operand_of (parts.Number format at field) = field ∷ []
operand_of (parts.Target at field shift) = field ∷ []

abbrev pub operands_of : List Part → List Name
operands_of [] = []
operands_of (part ∷ more) = operand_of part ++ operands_of more

-- the claims of the item of number k, in the order of the text
abbrev pub item_claims : ℕ → Item → List Claim
item_claims k (items.Constant at name value) = claim scopes.Items name ∷ []
item_claims k (items.Using at name meaning) = claim scopes.Items name ∷ []
item_claims k (items.Function at name parameters result body) =
    claim scopes.Items name ∷ map (λ (parameter : Parameter). claim (scopes.Parameters k) parameter.name) parameters
item_claims k (items.ProgramCounter at name declared) = claim scopes.Items name ∷ claim scopes.ProgramCounter name ∷ []
item_claims k (items.Memory at name address cell) = claim scopes.Items name ∷ claim scopes.Memory name ∷ []
item_claims k (items.Register at name declared) = claim scopes.Items name ∷ []
item_claims k (items.RegisterFile at name index declared zero) = claim scopes.Items name ∷ []
item_claims k (items.Format at name declared fields) =
    claim scopes.Items name ∷ map (λ (field : Field). claim (scopes.Fields k) field.name) fields
item_claims k (items.Instruction at name format behaviour) = claim scopes.Items name ∷ []
item_claims k (items.Encoding at name fixes) = claim scopes.Encodings name ∷ []
item_claims k (items.Assembly at name row) = claim scopes.Assemblies name ∷ map (λ field. claim (scopes.Operands k) field) (operands_of row)

-- the claims of items from number k on
abbrev pub claims_from : ℕ → List Item → List Claim
claims_from k [] = []
claims_from k (item ∷ more) = item_claims k item ++ claims_from (k + 1) more

abbrev pub line_claims : MicroItem → List Claim
line_claims (lines.Stage at name acts) = claim scopes.Stages name ∷ []
line_claims (lines.Forward at resource) = []

abbrev pub stage_claims : List MicroItem → List Claim
stage_claims [] = []
stage_claims (line ∷ more) = line_claims line ++ stage_claims more

abbrev pub micro_claims : Option Micro → List Claim
micro_claims None = []
micro_claims (Some micro) = stage_claims micro.items

-- all claims of a description, in the order of the text
abbrev pub claims : Desc → List Claim
claims d = claims_from 0 d.items ++ micro_claims d.micro

abbrev pub same_scope : Scope → Scope → Bool
same_scope scopes.Items scopes.Items = true
same_scope scopes.ProgramCounter scopes.ProgramCounter = true
same_scope scopes.Memory scopes.Memory = true
same_scope scopes.Encodings scopes.Encodings = true
same_scope scopes.Assemblies scopes.Assemblies = true
same_scope (scopes.Fields j) (scopes.Fields k) = nat_eq j k
same_scope (scopes.Parameters j) (scopes.Parameters k) = nat_eq j k
same_scope (scopes.Operands j) (scopes.Operands k) = nat_eq j k
same_scope scopes.Stages scopes.Stages = true
same_scope _ _ = false

-- a scope of which one thing may stand, whatever its name
abbrev pub is_single : Scope → Bool
is_single scopes.ProgramCounter = true
is_single scopes.Memory = true
is_single _ = false

-- two claims of which one scope has no room
abbrev pub same_claim : Claim → Claim → Bool
same_claim a b = same_scope a.scope b.scope && (is_single a.scope || bytes_eq a.name.text b.name.text)

-- the places of the names that repeat an earlier claim, in the order of the text, where these claims stand in front
abbrev pub repeated : List Claim → List Claim → List ℕ
repeated front [] = []
repeated front (c ∷ cs) = (if list_any (same_claim c) front then c.name.at ∷ [] else []) ++ repeated (front ++ c ∷ []) cs

-- the places at which something is defined for the second time, in the order of the text
abbrev pub duplicates : Desc → List ℕ
duplicates d = repeated [] (claims d)
