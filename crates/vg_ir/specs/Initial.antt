-- The bytes of globals at the start. All of them are set; what no initialiser speaks of is 0.
use Rattle.std.specs.Prelude.{ℕ, zero, suc, ◌-◌, ◌/◌, ◌%◌, List, [], ◌∷◌, ◌++◌, map, length, replicate, flat_map, unwrap_or}
use Rattle.vg_ir.specs.declared.name.Name.{Name}
use Rattle.vg_ir.specs.declared.ty.Ty.{Ty}
use Rattle.vg_ir.specs.declared.ty.TypeAt.{TypeAt}
use Rattle.vg_ir.specs.declared.initializer.Initializer.{Initializer, out-Initializer}
use Rattle.vg_ir.specs.declared.initializer.Initializer.TheOpen.{Initializer-F}
use Rattle.vg_ir.specs.declared.module.Parts.{Parts}
use Rattle.vg_ir.specs.Shape.{number_of, integer_width}
use Rattle.vg_ir.specs.TypeLayout.{SizeAlign, round_up, layout_of, size_of, type_levels}

-- a number in so many bytes, the least significant first
abbrev pub little_endian : ℕ → ℕ → List ℕ
little_endian zero x = []
little_endian (suc bytes) x = x % 256 ∷ little_endian bytes (x / 256)

-- bytes with zeros behind them up to a length
abbrev pub padded : ℕ → List ℕ → List ℕ
padded size bytes = bytes ++ replicate (size - length bytes) 0

-- fields behind the bytes before them, each at the next multiple of its alignment, with zeros between
abbrev pub fields_bytes : List ℕ → List (SizeAlign × List ℕ) → List ℕ
fields_bytes before [] = before
fields_bytes before (f ∷ fs) = fields_bytes (padded (round_up (length before) f.0.align) before ++ f.1) fs

-- The bytes of what an initialiser at a type is made of, where `inner` gives those of its elements. A text is bytes: each is
-- below 256.
abbrev pub layer_bytes : Parts → ℕ → (Name → ℕ) → (Ty → Initializer → List ℕ) → Ty → Initializer-F Initializer → List ℕ
layer_bytes m width address inner t (Initializer-F.Number n at) =
    little_endian (size_of m width t) (number_of (unwrap_or (integer_width t) 0) n)
layer_bytes m width address inner t (Initializer-F.True at) = little_endian (size_of m width t) 1
layer_bytes m width address inner t (Initializer-F.False at) = replicate (size_of m width t) 0
layer_bytes m width address inner t (Initializer-F.Null at) = replicate (size_of m width t) 0
layer_bytes m width address inner t (Initializer-F.Zero at) = replicate (size_of m width t) 0
layer_bytes m width address inner t (Initializer-F.Undef at) = replicate (size_of m width t) 0
layer_bytes m width address inner t (Initializer-F.Poison at) = replicate (size_of m width t) 0
layer_bytes m width address inner t (Initializer-F.Text text at) = map (λ c. c % 256) text
layer_bytes m width address inner t (Initializer-F.Global n at) = little_endian (width / 8) (address n)
layer_bytes m width address inner t (Initializer-F.Array elements at) =
    flat_map (λ (e : TypeAt × Initializer). inner e.0.ty e.1) elements
layer_bytes m width address inner t (Initializer-F.Struct fields at) =
    padded (size_of m width t) (fields_bytes [] (map (λ (e : TypeAt × Initializer). (layout_of m width e.0.ty, inner e.0.ty e.1)) fields))

-- The bytes of an initialiser at a type, of so many levels of elements in one another. `address` gives the addresses of
-- globals.
unfoldable pub bytes_within : ℕ → Parts → ℕ → (Name → ℕ) → Ty → Initializer → List ℕ
bytes_within zero m width address t i = []
bytes_within (suc levels) m width address t i =
    layer_bytes m width address (bytes_within levels m width address) t (out-Initializer i)

-- the bytes of an initialiser at a type
abbrev pub initial_bytes : Parts → ℕ → (Name → ℕ) → Ty → Initializer → List ℕ
initial_bytes m width address t i = bytes_within type_levels m width address t i
