-- What a put takes of a piece, and what it does to the counts of the output.
use Rattle.std.specs.Prelude.{◌≡◌, ℕ, zero, suc, Bool, true, false, if◌then◌else◌, List, [], ◌∷◌, ◌++◌, Option, option_map, Result, Ok, Err}
use Rattle.vg_io.specs.Count.{one_more}
use Rattle.vg_io.specs.declared.put_fault.PutFault.{PutFault}
use Rattle.vg_io.specs.declared.put_fault.PutFault.TheVariants.{Failed, OutOfMemory}

-- the bytes written, where they are told, with more behind them
abbrev pub append_known : Option (List ℕ) → List ℕ → Option (List ℕ)
append_known told more = option_map (λ before. before ++ more) told

-- how many bytes a put has taken
abbrev pub count_taken : {E : Type 0} → Result ℕ E → ℕ
count_taken (Ok count) = count
count_taken (Err _) = 0

-- a put failed, and not for want of memory
abbrev pub put_failed : {T : Type 0} → Result T PutFault → Bool
put_failed (Ok _) = false
put_failed (Err Failed) = true
put_failed (Err OutOfMemory) = false

-- a put of a piece that isn't empty took nothing, and didn't fail
abbrev pub took_none : {E : Type 0} → Result ℕ E → List ℕ → Bool
took_none (Ok zero) [] = false
took_none (Ok zero) (_ ∷ _) = true
took_none (Ok (suc _)) _ = false
took_none (Err _) _ = false

-- A put that failed raises the count of failures by one, one that took nothing the other count; no other put
-- changes a count. (The counts before, and then those after.)
abbrev pub CountsPut : Result ℕ PutFault → List ℕ → ℕ → ℕ → ℕ → ℕ → Type 0
CountsPut result piece faults nones faults' nones' =
    (faults' ≡ (if put_failed result then one_more faults else faults))
    × (nones' ≡ (if took_none result piece then one_more nones else nones))
