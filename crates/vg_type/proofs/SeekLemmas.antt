-- The first of some names, from one of them on.
use Rattle.std.proofs.Common.{◌≡◌, ℕ, ◌+◌, ◌<◌, Bool, true, false, List, ◌∷◌, map, length, drop, get_or, add-one, drop-cons, Option, Some, ap, sym, ◌∙◌, if◌then◌else◌}
use Rattle.std.specs.Str.{bytes_eq}
use Rattle.vg_names.specs.Definition.{Text}
use Rattle.vg_whole.specs.Whole.{inner_of}

module _ {X Y : Type 0} (entry : X → Text × Y) (xs : List X) (text : Text) (k : ℕ) (x : X) (within : k < length xs) (is : x ≡ get_or xs k x) where
  from_here : map entry (drop k xs) ≡ entry x ∷ map entry (drop (k + 1) xs)
  from_here =
      ap (map entry) (drop-cons xs k x within) ∙ ap (λ n. entry (get_or xs k x) ∷ map entry (drop n xs)) (sym (add-one k))
      ∙ ap (λ y. entry y ∷ map entry (drop (k + 1) xs)) (sym is)

  abbrev choose : (t : Bool) → Option Y → Option Y
  choose t rest = if t then Some (entry x).1 else rest

  -- it is that one, or stands behind it
  pub seek_here : bytes_eq (entry x).0 text ≡ true → inner_of (map entry (drop k xs)) text ≡ Some (entry x).1
  seek_here e = ap (λ l. inner_of l text) from_here ∙ ap (λ t. choose t (inner_of (map entry (drop (k + 1) xs)) text)) e

  pub seek_behind : bytes_eq (entry x).0 text ≡ false → inner_of (map entry (drop k xs)) text ≡ inner_of (map entry (drop (k + 1) xs)) text
  seek_behind e = ap (λ l. inner_of l text) from_here ∙ ap (λ t. choose t (inner_of (map entry (drop (k + 1) xs)) text)) e
