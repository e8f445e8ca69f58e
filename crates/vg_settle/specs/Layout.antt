-- Layouts: where items start when some of them are short, and what a short item reaches.
use Rattle.std.specs.Prelude.{◌≡◌, ℕ, zero, suc, ◌+◌, ◌<◌, ◌≤◌, ℤ, pos, ◌-ℤ◌, ◌*ℤ◌, ◌≤ℤ◌, Bool, false, List, length, slice_get, if◌then◌else◌, Some}
use Rattle.std.specs.List.{slice_index_or}
use Rattle.std.specs.Option.{option_map_or}
use Rattle.vg_settle.specs.declared.item.Short.{Short}
use Rattle.vg_settle.specs.declared.item.Item.{Item}

-- an item is marked, by its number
abbrev pub mark_at : List Bool → ℕ → Bool
mark_at marks k = slice_index_or marks k false

-- the words of an item: those of its short form where it is marked, else its own
abbrev pub words_of : Item → Bool → ℕ
words_of item marked =
    if marked then option_map_or (λ (short : Short). short.words) item.short item.words else item.words

-- the words of the item with this number, and none behind the last
abbrev pub words_at : List Item → List Bool → ℕ → ℕ
words_at items marks k = option_map_or (λ (item : Item). words_of item (mark_at marks k)) (slice_get items k) 0

-- the start of the item with this number, in words: the words of all items in front of it
unfoldable pub start : List Item → List Bool → ℕ → ℕ
start items marks zero = 0
start items marks (suc k) = start items marks k + words_at items marks k

-- The distance of an item in bytes, of so many a word: the start of what it goes to less its own start less its lead,
-- in words.
abbrev pub distance : (bytes from lead to : ℕ) → ℤ
distance bytes from lead to = pos bytes *ℤ (pos to -ℤ pos from -ℤ pos lead)

-- the short form reaches what it goes to, where its item and that start at these places
abbrev pub Reaches : Short → (bytes from to : ℕ) → Type 0
Reaches short bytes from to =
    (short.least ≤ℤ distance bytes from short.lead to) × (distance bytes from short.lead to ≤ℤ short.greatest)

-- in the layout of these marks the short form of the item with this number reaches what it goes to
abbrev pub Fits : List Item → ℕ → List Bool → ℕ → Short → Type 0
Fits items bytes marks k short = Reaches short bytes (start items marks k) (start items marks short.to)

-- a short form is well formed for its item: it has a word behind its lead, is no longer than the item, reaches a
-- distance of 0, and goes to an item or the end
pub record IsShort (items : List Item) (item : Item) (short : Short) : Type 0 where
  pub lead : short.lead < short.words
  pub words : short.words ≤ item.words
  pub least : short.least ≤ℤ pos 0
  pub greatest : pos 0 ≤ℤ short.greatest
  pub to : short.to ≤ length items

-- the item with this number has this short form
pub record HasShort (items : List Item) (k : ℕ) (item : Item) (short : Short) : Type 0 where
  pub item_at : slice_get items k ≡ Some item
  pub short_of : item.short ≡ Some short
