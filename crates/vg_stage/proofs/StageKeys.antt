-- The set of what was met.
use Rattle.std.proofs.Common.{◌≡◌, Bool, true, false, not, rules, refl, ap, ◌∙◌, ◌&&◌, ◌||◌, List, map, [], ◌∷◌}
use Rattle.std.specs.Borrow.{Bor}
use Rattle.std.specs.Str.{bytes_eq}
use Rattle.std.specs.List.{list_any}
use Rattle.vg_names.specs.Definition.{Text}
use Rattle.vg_stage.specs.declared.act_kind.ActKind.{ActKind}
use Rattle.vg_stage.specs.contracts.act_kind.ActKindPartialEq.TheImpl as derived
use Rattle.vg_stage.specs.StageMet.{Key, same_kind, same_key, is_met}

-- the `==` of kinds
kind_eq : (a b : ActKind) → (derived.ghosts).eq a b ≡ same_kind a b
kind_eq a b = search rules

-- the `==` of a set's keys
abbrev pub met_eq : ActKind × Bor Text → ActKind × Bor Text → Bool
met_eq x y = (derived.ghosts).eq x.0 y.0 && bytes_eq x.1.now y.1.now

abbrev pub plain : ActKind × Bor Text → Key
plain k = (k.0, k.1.now)

contains_plain : (x : ActKind × Bor Text) (ks : List (ActKind × Bor Text)) → list_any (met_eq x) ks ≡ is_met (map plain ks) (plain x)
contains_plain x [] = refl
contains_plain x (k ∷ ks) = ap (λ b. (b && bytes_eq x.1.now k.1.now) || list_any (met_eq x) ks) (kind_eq x.0 k.0) ∙ ap (λ b. same_key (plain x) (plain k) || b) (contains_plain x ks)

not_not : (b : Bool) → not (not b) ≡ b
not_not true = refl
not_not false = refl

-- what the answer of an insert says of a key
pub repeat_found : (x : ActKind × Bor Text) (ks : List (ActKind × Bor Text)) (added : Bool) → added ≡ not (list_any (met_eq x) ks) → not added ≡ is_met (map plain ks) (plain x)
repeat_found x ks added h = ap not h ∙ not_not (list_any (met_eq x) ks) ∙ contains_plain x ks
