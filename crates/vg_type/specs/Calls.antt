-- What names call, as the code has it, and what is found of arguments one after the other.
use Rattle.std.specs.Prelude.{ℕ, ◌+◌, Bool, true, false, ◌&&◌, ◌||◌, nat_eq, List, [], ◌∷◌, map, length, is_none, Option, Some, None, slice_get, if◌then◌else◌}
use Rattle.std.specs.List.{list_any}
use Rattle.std.specs.Option.{option_or}
use Rattle.vg_ast.specs.declared.parameter.Parameter.{Parameter}
use Rattle.vg_ast.specs.declared.type_expr.TypeExpr.{TypeExpr}
use Rattle.vg_ast.specs.declared.type_expr.BitsKind.{BitsKind}
use Rattle.vg_names.specs.First.{first_of}
use Rattle.vg_inline.specs.Types.{Aliases}
use Rattle.vg_type.specs.declared.written.Written.{Written}
use Rattle.vg_inline.specs.declared.context.Context.{Context}
use Rattle.vg_type.specs.declared.value_type.ValueType.{ValueType}
use Rattle.vg_type.specs.declared.judgement.Judgement.{Judgement}
use Rattle.vg_type.specs.declared.taking.Taking.{Taking}
use Rattle.vg_type.specs.declared.callee.Callee.{Callee}
use Rattle.vg_type.specs.declared.callee.Callee.TheVariants as callees
use Rattle.vg_type.specs.ValueType.{is_untyped, is_valueless, worth_of, sized}
use Rattle.vg_type.specs.Judged.{Judged, is_argument, told}
use Rattle.vg_type.specs.Expression.{Signature, is_faulty, is_no_width, type_widths, type_ranges, target_type, is_type_blocked}
use Rattle.vg_type.specs.Scope.{type_in}
use Rattle.vg_type.specs.Setting.{globals_in}
use Rattle.vg_type.specs.Found.{first_found, first_unfit, number_width, settled_found}

abbrev pub signature_in : Context → Callee → Option Signature
signature_in x callees.Nothing = None
signature_in x (callees.Function parameters gives) =
    Some (record { parameters = map (λ (parameter : Parameter). type_in (globals_in x) parameter.declared) parameters.now; result = type_in (globals_in x) gives.now })
signature_in x (callees.File index gives) = Some (record { parameters = type_in (globals_in x) index.now ∷ []; result = type_in (globals_in x) gives.now })

abbrev pub flat : Option (Option ValueType) → Option ValueType
flat None = None
flat (Some t) = t

-- the type of the parameter of a number, if it has one
abbrev pub type_at : Option Signature → ℕ → Option ValueType
type_at None k = None
type_at (Some signature) k = flat (slice_get signature.parameters k)

abbrev pub parameter_count : Option Signature → ℕ
parameter_count None = 0
parameter_count (Some signature) = length signature.parameters

abbrev pub gives_type : Option Signature → Option ValueType
gives_type None = None
gives_type (Some signature) = signature.result

abbrev pub is_any_none : List (Option ValueType) → Bool
is_any_none ts = list_any is_none ts

-- a signature with a type that is at fault where it is declared; where nothing is called there is none
abbrev pub is_wrong_signature : Option Signature → Bool
is_wrong_signature None = true
is_wrong_signature (Some signature) = is_faulty signature

-- what is found of one argument after the other

abbrev pub nothing_taken : Taking
nothing_taken = record { untyped = false; width = None; range = None; fits = true }

abbrev pub take_one : Option ValueType → Judgement → Taking
take_one t f = record { untyped = is_untyped f.sort; width = f.width; range = option_or f.range (first_unfit t f); fits = is_argument t f.sort }

abbrev pub both_taken : Taking → Taking → Taking
both_taken a b = record { untyped = a.untyped || b.untyped; width = option_or a.width b.width; range = option_or a.range b.range; fits = a.fits && b.fits }

-- of the arguments from number k on, where parameters have these types
abbrev pub taken_from : (ℕ → Option ValueType) → ℕ → List Judged → Taking
taken_from types k [] = nothing_taken
taken_from types k (j ∷ more) = both_taken (take_one (types k) (first_found j)) (taken_from types (k + 1) more)

-- the types that parameters ask for, where there are so many arguments
abbrev pub types_asked : Option Signature → ℕ → ℕ → Option ValueType
types_asked signature count k = if nat_eq (parameter_count signature) count then type_at signature k else None

abbrev pub call_type : Option Signature → ℕ → Taking → Option ValueType
call_type signature count taking = if nat_eq (parameter_count signature) count && taking.fits then gives_type signature else None

unfoldable pub call_found : ℕ → Option Signature → ℕ → Taking → Judgement
call_found at signature count taking =
    settled_found at (taking.untyped || is_wrong_signature signature) taking.width taking.range (call_type signature count taking)

-- ---- types as they are written

abbrev pub written_over : Aliases → TypeExpr Judged → Written
written_over aliases t =
    record { blocked = is_type_blocked aliases t; has = target_type aliases t; width = first_of (type_widths t); range = first_of (type_ranges t) }

-- a type of this kind, by what is found of its width
abbrev pub sized_found : BitsKind → ℕ → Judgement → Written
sized_found kind at f =
    record {
      blocked = is_valueless f.sort;
      has = sized kind (worth_of f.sort);
      width = number_width f;
      range = option_or (first_of (told (is_no_width f.sort) at)) f.range;
    }
