-- What a module is refused for, in the order in which the rules are asked: types and names, values that may be unset, phis, the
-- function in which the run begins, and counts. Each is asked only where all before it are kept, and told at its first place
-- in the text.
use Rattle.std.specs.Prelude.{◌≡◌, ◌⊎◌, ℕ, Bool, true, false, ◌&&◌, nat_eq, List, [], ◌∷◌, Some}
use Rattle.std.specs.Str.{bytes_eq}
use Rattle.std.specs.List.{list_any}
use Rattle.vg_ir.specs.declared.name.Name.{Name}
use Rattle.vg_ir.specs.declared.spot.Spot.{Spot}
use Rattle.vg_ir.specs.declared.function.Function.{Function}
use Rattle.vg_ir.specs.declared.module.Parts.{Parts}
use Rattle.vg_ircheck.specs.Place.{first_place}
use Rattle.vg_ircheck.specs.Typing.{typing_places}
use Rattle.vg_ircheck.specs.Unset.{Read, reads_of, IsUnsetRead}
use Rattle.vg_ircheck.specs.Phis.{Subject, place_of, subjects_of, IsBroken}
use Rattle.vg_ircheck.specs.Counts.{count_places}

-- ---- the first of a list

-- none of a list has a property
abbrev pub HasNone : {A : Type 0} → (A → Type 0) → List A → Type 0
HasNone P [] = Unit {0}
HasNone P (x ∷ xs) = (P x → ⊥) × HasNone P xs

-- the first of a list that has a property: its head, or the first of the rest where the head hasn't
abbrev pub IsFirst : {A : Type 0} → (A → Type 0) → List A → A → Type 0
IsFirst P [] x = ⊥
IsFirst P (y ∷ ys) x = (P y × (x ≡ y)) ⊎ ((P y → ⊥) × IsFirst P ys x)

-- ---- the rules

-- a function has the name, in the first text of the program
abbrev pub is_entry : List ℕ → Function → Bool
is_entry entry f = nat_eq f.name.name.unit 0 && bytes_eq f.name.name.text entry

-- the function in which the run begins is defined
abbrev pub has_entry : Parts → List ℕ → Bool
has_entry m entry = list_any (is_entry entry) m.functions

-- why a module is refused
pub data Refusal : Type 0 where
  Typing : Spot → Refusal
  Unset : Name → Name → Refusal
  Phi : Spot → Refusal
  NoEntry : Refusal
  Limit : Spot → Refusal

-- the rule of types and names is kept
abbrev pub IsTyped : Parts → Type 0
IsTyped m = typing_places m ≡ []

-- no value that is read may be unset
abbrev pub IsSet : Parts → Type 0
IsSet m = HasNone IsUnsetRead (reads_of m)

-- the rule of phis is kept
abbrev pub HasPhis : Parts → Type 0
HasPhis m = HasNone IsBroken (subjects_of m)

-- A module is accepted: it keeps all rules.
pub record IsAccepted (m : Parts) (entry : List ℕ) : Type 0 where
  pub typed : IsTyped m
  pub set : IsSet m
  pub phis : HasPhis m
  pub entered : has_entry m entry ≡ true
  pub counts : count_places m ≡ []

-- A module is refused for this: a rule is broken, at its first place, and all before it are kept.
abbrev pub IsRefused : Parts → List ℕ → Refusal → Type 0
IsRefused m entry (Typing at) = first_place (typing_places m) ≡ Some at
IsRefused m entry (Unset value block) =
    IsTyped m
    × ((r : Read) × IsFirst IsUnsetRead (reads_of m) r × (r.1.value ≡ value) × (r.1.block ≡ block))
IsRefused m entry (Phi at) =
    IsTyped m × IsSet m × ((s : Subject) × IsFirst IsBroken (subjects_of m) s × (place_of s ≡ at))
IsRefused m entry NoEntry = IsTyped m × IsSet m × HasPhis m × (has_entry m entry ≡ false)
IsRefused m entry (Limit at) =
    IsTyped m × IsSet m × HasPhis m × (has_entry m entry ≡ true) × (first_place (count_places m) ≡ Some at)

-- A law: each module is accepted, or is refused for one thing, and not both.
pub record OneRefusal (m : Parts) (entry : List ℕ) : Type 0 where
  pub one : (a b : Refusal) → IsRefused m entry a → IsRefused m entry b → a ≡ b
  pub none : (a : Refusal) → IsRefused m entry a → IsAccepted m entry → ⊥
  pub some : IsAccepted m entry ⊎ ((a : Refusal) × IsRefused m entry a)
