-- What contracts see of files in memory.
use Rattle.std.specs.Prelude.{ℕ, List, [], ◌∷◌, Option, None, Some, if◌then◌else◌, map, String, Vec, string_bytes}
use Rattle.std.specs.Str.{bytes_eq}
use Rattle.vg_io.specs.Schedule.{Schedule}

-- what files in memory have: each name with its bytes, the names loaded so far, and the counts
pub record MemFilesState : Type 0 where
  pub files : List (List ℕ × List ℕ)
  pub schedule : Schedule
  pub faults : ℕ
  pub asked : List (List ℕ)

-- the bytes of the first file with this name
abbrev pub bytes_named : List (List ℕ × List ℕ) → List ℕ → Option (List ℕ)
bytes_named [] name = None
bytes_named (file ∷ files) name = if bytes_eq file.0 name then Some file.1 else bytes_named files name

-- each name and its bytes
abbrev pub named_bytes : {A B : Type 0} → List (String A × Vec ℕ B) → List (List ℕ × List ℕ)
named_bytes files = map (λ file. (string_bytes file.0, file.1.items)) files
