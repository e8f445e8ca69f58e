-- What a load gives, which names it asks for, when it has failed, and how failures are counted.
use Rattle.std.specs.Prelude.{◌≡◌, ℕ, Bool, true, false, List, [], ◌∷◌, ◌++◌, ◌⊎◌, Option, option_map, take, Result, Ok, Err}
use Rattle.vg_io.specs.Count.{one_more}
use Rattle.vg_io.specs.declared.load_fault.LoadFault.{LoadFault}
use Rattle.vg_io.specs.declared.load_fault.LoadFault.TheVariants.{Failed, OutOfMemory}

-- what a load of at most so many bytes gives of a named file: its first bytes; nothing where no file has the name
abbrev pub beginning : (List ℕ → Option (List ℕ)) → List ℕ → ℕ → Option (List ℕ)
beginning files name most = option_map (take most) (files name)

-- A load appends its name to the names asked for. One that finds no memory may leave them as they were.
abbrev pub Asks : {T : Type 0} → Result T LoadFault → List ℕ → List (List ℕ) → List (List ℕ) → Type 0
Asks (Ok _) name before now = now ≡ before ++ name ∷ []
Asks (Err Failed) name before now = now ≡ before ++ name ∷ []
Asks (Err OutOfMemory) name before now = (now ≡ before ++ name ∷ []) ⊎ (now ≡ before)

-- a load failed, and not for want of memory
abbrev pub load_failed : {T : Type 0} → Result T LoadFault → Bool
load_failed (Ok _) = false
load_failed (Err Failed) = true
load_failed (Err OutOfMemory) = false

-- A load that failed raises the count of failures by one, and one that gave bytes leaves it. One that found no memory
-- does either. (The count before, and then that after.)
abbrev pub CountsLoad : {T : Type 0} → Result T LoadFault → ℕ → ℕ → Type 0
CountsLoad (Ok _) before now = now ≡ before
CountsLoad (Err Failed) before now = now ≡ one_more before
CountsLoad (Err OutOfMemory) before now = (now ≡ before) ⊎ (now ≡ one_more before)
