-- The acts and `forward`s that were met, by what they do and on what, and the first at fault behind them.
use Rattle.std.specs.Prelude.{ℕ, ◌+◌, Bool, true, false, ◌&&◌, ◌||◌, nat_lt, List, [], ◌∷◌, ◌++◌, map, Option, Some, None, if◌then◌else◌}
use Rattle.std.specs.Borrow.{Bor}
use Rattle.std.specs.List.{list_any}
use Rattle.std.specs.Option.{option_or}
use Rattle.std.specs.Str.{bytes_eq}
use Rattle.indexmap.specs.IndexSet.{IndexSet}
use Rattle.vg_ast.specs.declared.item.Item.{Item}
use Rattle.vg_ast.specs.declared.act.Act.{Act}
use Rattle.vg_ast.specs.declared.act.Act.TheVariants as acts
use Rattle.vg_ast.specs.declared.micro_item.MicroItem.{MicroItem}
use Rattle.vg_ast.specs.declared.micro_item.MicroItem.TheVariants as lines
use Rattle.vg_names.specs.Definition.{Text, item_named}
use Rattle.vg_stage.specs.declared.act_kind.ActKind.{ActKind}
use Rattle.vg_stage.specs.declared.act_kind.ActKind.TheVariants as kinds
use Rattle.vg_tree.specs.Resource.{is_memory}
use Rattle.vg_stage.specs.StageOrder.{Placed, act_start, is_too_late}

-- ---- keys

-- what is done, and the name of the resource on which it is done
abbrev pub Key : Type 0
Key = ActKind × Text

abbrev pub key_of : Act → Key
key_of (acts.Read at resource) = (kinds.Read, resource.text)
key_of (acts.Write at resource) = (kinds.Write, resource.text)
key_of (acts.Compute at) = (kinds.Compute, [])
key_of (acts.Resolve at) = (kinds.Resolve, [])

abbrev pub same_kind : ActKind → ActKind → Bool
same_kind kinds.Read kinds.Read = true
same_kind kinds.Write kinds.Write = true
same_kind kinds.Compute kinds.Compute = true
same_kind kinds.Resolve kinds.Resolve = true
same_kind kinds.Forward kinds.Forward = true
same_kind _ _ = false

abbrev pub same_key : Key → Key → Bool
same_key a b = same_kind a.0 b.0 && bytes_eq a.1 b.1

-- the keys of a set, without where their names lie
abbrev pub keys_met : {S : Type 0} → IndexSet (ActKind × Bor Text) S → List Key
keys_met met = map (λ (k : ActKind × Bor Text). (k.0, k.1.now)) met.keys

abbrev pub is_met : List Key → Key → Bool
is_met met key = list_any (same_key key) met

-- ---- stages

-- a stage, where a test holds
abbrev pub stage_if : Bool → ℕ → Option ℕ
stage_if test s = if test then Some s else None

-- the stage of the first act that passes a test
abbrev pub first_stage : (Act → Bool) → List Placed → Option ℕ
first_stage test [] = None
first_stage test (act ∷ more) = option_or (stage_if (test act.1) act.0) (first_stage test more)

abbrev pub is_write_to : Text → Act → Bool
is_write_to text (acts.Write at resource) = bytes_eq resource.text text
is_write_to text _ = false

-- a stage, if there is one, stands before another
abbrev pub is_earlier : Option ℕ → ℕ → Bool
is_earlier None s = false
is_earlier (Some written) s = nat_lt written s

-- what an act does
abbrev pub does : ActKind → Act → Bool
does kind act = same_kind kind (key_of act).0

abbrev pub placed_at : ℕ → List Act → List Placed
placed_at s given = map (λ (act : Act). (s, act)) given

-- ---- the first at fault

-- the place of an act, where it was met before or is too late for one of all acts
abbrev pub wrong_act : List Placed → List Key → Placed → Option ℕ
wrong_act all met act = if is_met met (key_of act.1) || list_any (is_too_late act) all then Some (act_start act.1) else None

abbrev pub first_wrong_act : List Placed → List Key → List Placed → Option ℕ
first_wrong_act all met [] = None
first_wrong_act all met (act ∷ more) = option_or (wrong_act all met act) (first_wrong_act all (met ++ key_of act.1 ∷ []) more)

-- the place of a `forward` of the memory, or of one that was met before
abbrev pub wrong_forward : List Item → List Key → ℕ → Text → Option ℕ
wrong_forward items met at text = if is_memory (item_named items text) || is_met met (kinds.Forward, text) then Some at else None

-- ---- lines

abbrev pub line_acts : MicroItem → List Act
line_acts (lines.Stage at name given) = given
line_acts (lines.Forward at resource) = []

-- one of the stages has an act that passes a test
abbrev pub lines_have : (Act → Bool) → List MicroItem → Bool
lines_have test all = list_any (λ (line : MicroItem). list_any test (line_acts line)) all

-- the keys of a line, and the first at fault in it, in the stage of a number
abbrev pub line_keys : MicroItem → List Key
line_keys (lines.Stage at name given) = map key_of given
line_keys (lines.Forward at resource) = (kinds.Forward, resource.text) ∷ []

abbrev pub wrong_line : List Item → List Placed → List Key → ℕ → MicroItem → Option ℕ
wrong_line items all met s (lines.Stage at name given) = first_wrong_act all met (placed_at s given)
wrong_line items all met s (lines.Forward at resource) = wrong_forward items met at resource.text

-- the number of the stage behind a line
abbrev pub stage_behind : ℕ → MicroItem → ℕ
stage_behind s (lines.Stage at name given) = s + 1
stage_behind s (lines.Forward at resource) = s

abbrev pub first_wrong_line : List Item → List Placed → List Key → ℕ → List MicroItem → Option ℕ
first_wrong_line items all met s [] = None
first_wrong_line items all met s (line ∷ more) =
    option_or (wrong_line items all met s line) (first_wrong_line items all (met ++ line_keys line) (stage_behind s line) more)
