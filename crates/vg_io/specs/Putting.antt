-- What putting a whole text does to the counts of the output.
use Rattle.std.specs.Prelude.{◌≡◌, ◌⊎◌, ℕ, Result, Ok, Err}
use Rattle.vg_io.specs.declared.put_all_fault.PutAllFault.{PutAllFault}
use Rattle.vg_io.specs.declared.put_all_fault.PutAllFault.TheVariants.{Write, OutOfMemory}
use Rattle.vg_io.specs.Count.{one_more}

-- no put failed and none took nothing (the counts before, and then those after)
abbrev pub NoneCounted : ℕ → ℕ → ℕ → ℕ → Type 0
NoneCounted faults nones faults' nones' = (faults' ≡ faults) × (nones' ≡ nones)

-- exactly one put failed or took nothing
abbrev pub OneCounted : ℕ → ℕ → ℕ → ℕ → Type 0
OneCounted faults nones faults' nones' =
    ((faults' ≡ one_more faults) × (nones' ≡ nones)) ⊎ ((faults' ≡ faults) × (nones' ≡ one_more nones))

-- The putting stops at the first put that fails or takes nothing, and answers a write fault; it makes no other put
-- that does so.
abbrev pub StopsAtOnce : {T : Type 0} → Result T PutAllFault → ℕ → ℕ → ℕ → ℕ → Type 0
StopsAtOnce (Ok _) faults nones faults' nones' = NoneCounted faults nones faults' nones'
StopsAtOnce (Err Write) faults nones faults' nones' = OneCounted faults nones faults' nones'
StopsAtOnce (Err OutOfMemory) faults nones faults' nones' = NoneCounted faults nones faults' nones'
