-- The bytes of globals at the start are bytes.
use Rattle.std.proofs.Common.{◌≡◌, ℕ, zero, suc, ◌-◌, ◌/◌, ◌%◌, ◌<◌, List, [], ◌∷◌, ◌++◌, map, length, replicate, Option, Some, None, ◌⊎◌, inl, inr, sym, subst, arith}
use Rattle.std.specs.Prelude.{flat_map, find, slice_get, unwrap_or, option_and_then}
use Rattle.std.proofs.lemmas.Nat.{mod_below}
use Rattle.vg_ir.specs.declared.name.Name.{Name}
use Rattle.vg_ir.specs.declared.ty.Ty.{Ty}
use Rattle.vg_ir.specs.declared.ty.TypeAt.{TypeAt}
use Rattle.vg_ir.specs.declared.initializer.Initializer.{Initializer, out-Initializer}
use Rattle.vg_ir.specs.declared.initializer.Initializer.TheOpen.{Initializer-F}
use Rattle.vg_ir.specs.declared.global.Global.{Global}
use Rattle.vg_ir.specs.declared.module.Parts.{Parts}
use Rattle.vg_ir.specs.Shape.{number_of, integer_width}
use Rattle.vg_ir.specs.TypeLayout.{round_up, layout_of, size_of, type_levels}
use Rattle.vg_ir.specs.Memory.{lies_in}
use Rattle.vg_ir.specs.Initial.{little_endian, padded, fields_bytes, layer_bytes, bytes_within, initial_bytes}
use Rattle.vg_ir.specs.State.{Placement, global_object}
use Rattle.vg_ir.specs.Run.{global_byte, start_bytes}
use Rattle.vg_ir.specs.Sound.{IsIn, AreBytes}
use Rattle.vg_ir.proofs.Membership.{in-append_cases, flat_map-in, some_same, none_some}

-- each element is a byte
abbrev Bytewise : List ℕ → Type 0
Bytewise xs = (b : ℕ) → IsIn b xs → b < 256

little_endian-bytes : (n x : ℕ) → Bytewise (little_endian n x)
little_endian-bytes zero x b h = absurd h
little_endian-bytes (suc n) x b (inl e) = subst (λ y. y < 256) (sym e) (mod_below x 256 (omega arith))
little_endian-bytes (suc n) x b (inr h) = little_endian-bytes n (x / 256) b h

zeros-bytes : (n : ℕ) → Bytewise (replicate n 0)
zeros-bytes zero b h = absurd h
zeros-bytes (suc n) b (inl e) = subst (λ y. y < 256) (sym e) (omega arith)
zeros-bytes (suc n) b (inr h) = zeros-bytes n b h

append-bytes : (xs ys : List ℕ) → Bytewise xs → Bytewise ys → Bytewise (xs ++ ys)
append-bytes xs ys hx hy b h = by_part (in-append_cases b xs ys h)
  where
    by_part : IsIn b xs ⊎ IsIn b ys → b < 256
    by_part (inl k) = hx b k
    by_part (inr k) = hy b k

text-bytes : (text : List ℕ) → Bytewise (map (λ c. c % 256) text)
text-bytes [] b h = absurd h
text-bytes (c ∷ text) b (inl e) = subst (λ y. y < 256) (sym e) (mod_below c 256 (omega arith))
text-bytes (c ∷ text) b (inr h) = text-bytes text b h

padded-bytes : (size : ℕ) (xs : List ℕ) → Bytewise xs → Bytewise (padded size xs)
padded-bytes size xs h = append-bytes xs (replicate (size - length xs) 0) h (zeros-bytes (size - length xs))

module _ (m : Parts) (width : ℕ) (address : Name → ℕ) where
  abbrev Element : Type 0
  Element = TypeAt × Initializer

  elements-bytes : (inner : Ty → Initializer → List ℕ) → ((t : Ty) (i : Initializer) → Bytewise (inner t i)) → (es : List Element) → Bytewise (flat_map (λ (e : Element). inner e.0.ty e.1) es)
  elements-bytes inner h es b k = of (flat_map-in (λ (e : Element). inner e.0.ty e.1) es b k)
    where
      of : (e : Element) × IsIn e es × IsIn b (inner e.0.ty e.1) → b < 256
      of (e, i, j) = h e.0.ty e.1 b j

  fields-bytes : (inner : Ty → Initializer → List ℕ) → ((t : Ty) (i : Initializer) → Bytewise (inner t i)) → (es : List Element) (before : List ℕ) → Bytewise before → Bytewise (fields_bytes before (map (λ (e : Element). (layout_of m width e.0.ty, inner e.0.ty e.1)) es))
  fields-bytes inner h [] before k = k
  fields-bytes inner h (e ∷ es) before k =
      fields-bytes inner h es (padded (round_up (length before) (layout_of m width e.0.ty).align) before ++ inner e.0.ty e.1)
      (append-bytes (padded (round_up (length before) (layout_of m width e.0.ty).align) before) (inner e.0.ty e.1) (padded-bytes (round_up (length before) (layout_of m width e.0.ty).align) before k) (h e.0.ty e.1))

  none-bytes : Bytewise []
  none-bytes b h = absurd h

  layer-bytes : (inner : Ty → Initializer → List ℕ) → ((t : Ty) (i : Initializer) → Bytewise (inner t i)) → (t : Ty) (l : Initializer-F Initializer) → Bytewise (layer_bytes m width address inner t l)
  layer-bytes inner h t (Initializer-F.Number n at) = little_endian-bytes (size_of m width t) (number_of (unwrap_or (integer_width t) 0) n)
  layer-bytes inner h t (Initializer-F.True at) = little_endian-bytes (size_of m width t) 1
  layer-bytes inner h t (Initializer-F.False at) = zeros-bytes (size_of m width t)
  layer-bytes inner h t (Initializer-F.Null at) = zeros-bytes (size_of m width t)
  layer-bytes inner h t (Initializer-F.Zero at) = zeros-bytes (size_of m width t)
  layer-bytes inner h t (Initializer-F.Undef at) = zeros-bytes (size_of m width t)
  layer-bytes inner h t (Initializer-F.Poison at) = zeros-bytes (size_of m width t)
  layer-bytes inner h t (Initializer-F.Text text at) = text-bytes text
  layer-bytes inner h t (Initializer-F.Global n at) = little_endian-bytes (width / 8) (address n)
  layer-bytes inner h t (Initializer-F.Array elements at) = elements-bytes inner h elements
  layer-bytes inner h t (Initializer-F.Struct fields at) =
      padded-bytes (size_of m width t) (fields_bytes [] (map (λ (e : Element). (layout_of m width e.0.ty, inner e.0.ty e.1)) fields)) (fields-bytes inner h fields [] none-bytes)

  within-bytes : (levels : ℕ) (t : Ty) (i : Initializer) → Bytewise (bytes_within levels m width address t i)
  unfolding bytes_within
  within-bytes zero t i b h = absurd h
  within-bytes (suc levels) t i b h = layer-bytes (bytes_within levels m width address) (within-bytes levels) t (out-Initializer i) b h

-- an element that is read
got : (xs : List ℕ) (k b : ℕ) → slice_get xs k ≡ Some b → IsIn b xs
got [] k b h = absurd (none_some b h)
got (x ∷ xs) zero b h = inl (sym (some_same x b h))
got (x ∷ xs) (suc k) b h = inr (got xs k b h)

-- each byte that is set at the start is below 256
pub start_bytes-below : (m : Parts) (p : Placement) → AreBytes (start_bytes m p)
start_bytes-below m p at b h = by_global (find (λ (g : Global). lies_in at 1 (global_object m p g)) m.globals) h
  where
    by_global : (o : Option Global) → option_and_then (λ (g : Global). global_byte m p g at) o ≡ Some b → b < 256
    by_global None k = absurd (none_some b k)
    by_global (Some g) k =
        within-bytes m p.width p.address type_levels g.ty.ty g.initial b (got (initial_bytes m p.width p.address g.ty.ty g.initial) (at - p.address g.name.name) b k)
