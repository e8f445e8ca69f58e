-- What is found of goals and indices, by what is found of calls.
use Rattle.std.proofs.Common.{◌≡◌, ℕ, Bool, List, [], ◌∷◌, Option, Some, None, slice_get, refl, sym, ap, ◌∙◌}
use Rattle.vg_ast.specs.declared.name.Name.{Name}
use Rattle.vg_names.specs.Definition.{Text}
use Rattle.vg_type.specs.declared.judgement.Judgement.{Judgement}
use Rattle.vg_type.specs.declared.taking.Taking.{Taking}
use Rattle.vg_type.specs.declared.value_type.ValueType.{ValueType}
use Rattle.vg_type.specs.Judged.{Judged}
use Rattle.vg_type.specs.Expression.{Scope, Signature, call_judged, access_judged}
use Rattle.vg_type.specs.Found.{first_found, access_found}
use Rattle.vg_type.specs.Calls.{flat, type_at, types_asked, gives_type, nothing_taken, take_one, both_taken, call_found}
use Rattle.vg_type.specs.Item.{first_type, index_type}
use Rattle.vg_type.specs.Statement.{register_type}
use Rattle.vg_type.proofs.CallLemmas.{found_call}
use Rattle.vg_type.proofs.FoundLemmas.{found_access}

-- a call over one argument
pub called_once : (name : Name) (callee : Text → Option Signature) (text : Text) (s : Option Signature) (j : Judged) (has : Option ValueType) (f r : Judgement) (one none taking : Taking)
    → text ≡ name.text → s ≡ callee text → has ≡ types_asked s 1 0 → f ≡ first_found j → one ≡ take_one has f → none ≡ nothing_taken → taking ≡ both_taken one none
    → r ≡ call_found name.at s 1 taking → r ≡ first_found (call_judged name (callee name.text) (j ∷ []))
called_once name callee text s j has f r one none taking ht hs ha hf ho hn hk by =
    by
    ∙ ap (call_found name.at s 1) (hk ∙ ap (λ (t : Taking). both_taken t none) (ho ∙ ap (λ (t : Option ValueType). take_one t f) ha ∙ ap (take_one (types_asked s 1 0)) hf) ∙ ap (both_taken (take_one (types_asked s 1 0) (first_found j))) hn)
    ∙ sym (found_call name s (j ∷ []))
    ∙ ap (λ (o : Option Signature). first_found (call_judged name o (j ∷ []))) (hs ∙ ap callee ht)

pub gives_register : (s : Option Signature) → gives_type s ≡ register_type s
gives_register None = refl
gives_register (Some s) = refl

first_at : (ts : List (Option ValueType)) → flat (slice_get ts 0) ≡ first_type ts
first_at [] = refl
first_at (t ∷ ts) = refl

pub index_at : (s : Option Signature) → type_at s 0 ≡ index_type s
index_at None = refl
index_at (Some s) = first_at s.parameters

-- an access to memory, as the code puts its parts together
pub accessed_by : (scope : Scope) (memory : Name) (at : ℕ) (text : Text) (m : Bool) (t : Option ValueType) (size address : Judged) (f g r : Judgement)
    → text ≡ memory.text → m ≡ scope.is_memory text → t ≡ scope.address → f ≡ first_found size → g ≡ first_found address → r ≡ access_found m t memory.at at f g
    → r ≡ first_found (access_judged scope memory at size address)
accessed_by scope memory at text m t size address f g r ht hm ha hf hg by =
    by
    ∙ ap (λ (b : Bool). access_found b t memory.at at f g) (hm ∙ ap scope.is_memory ht)
    ∙ ap (λ (o : Option ValueType). access_found (scope.is_memory memory.text) o memory.at at f g) ha
    ∙ ap (λ (j : Judgement). access_found (scope.is_memory memory.text) scope.address memory.at at j g) hf
    ∙ ap (access_found (scope.is_memory memory.text) scope.address memory.at at (first_found size)) hg
    ∙ sym (found_access scope memory at size address)
