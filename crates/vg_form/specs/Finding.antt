-- What functions answer, beside what the definitions find.
use Rattle.std.specs.Prelude.{◌≡◌, ℕ, Bool, ◌&&◌, nat_lt, Option, Some, None, Result, Ok, Err}
use Rattle.vg_form.specs.declared.fault.FormFault.{FormFault}
use Rattle.vg_form.specs.declared.fault.FormFault.TheVariants.{Unlike, OutOfMemory}
use Rattle.vg_form.specs.Description.{Found, found, unlike}

-- the fault tells the place, or memory ran out
abbrev pub Tells : {Y : Type 0} → FormFault → Found Y → Type 0
Tells (Unlike at) sought = sought ≡ unlike at
Tells OutOfMemory sought = Unit {0}

-- what a function answered, seen by view, is what is found
abbrev pub FindsSo : {X Y : Type 0} → (X → Y) → Result X FormFault → Found Y → Type 0
FindsSo view (Ok x) sought = sought ≡ found (view x)
FindsSo view (Err fault) sought = Tells fault sought

-- what may be answered, seen by view, is so
abbrev pub SeesSo : {X Y : Type 0} → (X → Y) → Option X → Option Y → Type 0
SeesSo view (Some x) seen = seen ≡ Some (view x)
SeesSo view None seen = seen ≡ None

-- the numbers fit the fields f7, f3 and op
abbrev pub are_fitting : ℕ × ℕ × ℕ → Bool
are_fitting numbers = nat_lt numbers.0 128 && nat_lt numbers.1 8 && nat_lt numbers.2 128
