-- What is asked of the items, and which marks settle them.
use Rattle.std.specs.Prelude.{◌≡◌, ℕ, ◌^◌, ◌<◌, ◌⊎◌, Bool, true, false, List, [], length, slice_set, IsSome, Some, slice_get}
use Rattle.vg_settle.specs.declared.item.Short.{Short}
use Rattle.vg_settle.specs.declared.item.Item.{Item}
use Rattle.vg_settle.specs.Layout.{mark_at, start, Fits, IsShort, HasShort}

-- The items and the bytes of a word are such as a code has: 2, 4 or 8 bytes, well formed short forms, and fewer than
-- 2^32 words in all.
pub record IsCode (items : List Item) (bytes : ℕ) : Type 0 where
  pub word_bytes : (bytes ≡ 2) ⊎ (bytes ≡ 4) ⊎ (bytes ≡ 8)
  pub shorts : (k : ℕ) (item : Item) (short : Short) → HasShort items k item short → IsShort items item short
  pub words : start items [] (length items) < 2 ^ 32

-- no unmarked item with a short form would fit if it alone were marked as well
abbrev pub LeavesNone : List Item → ℕ → List Bool → Type 0
LeavesNone items bytes marks =
    (k : ℕ) (item : Item) (short : Short) → HasShort items k item short → mark_at marks k ≡ false
    → Fits items bytes (slice_set marks k true) k short → ⊥

-- The marks settle the items: there is one for each; only items with a short form are marked; in the layout of the
-- marks each marked item reaches what it goes to; and no unmarked item with a short form would fit if it alone were
-- marked as well. Of all marks that leave none so these are the least: an item is marked only where all of them mark
-- it. That is what comes of items that are long at first and are made short one by one, in any order, while one fits.
pub record IsSettled (items : List Item) (bytes : ℕ) (marks : List Bool) : Type 0 where
  pub each : length marks ≡ length items
  pub short : (k : ℕ) (item : Item) → slice_get items k ≡ Some item → mark_at marks k ≡ true → IsSome item.short
  pub fits : (k : ℕ) (item : Item) (short : Short) → HasShort items k item short → mark_at marks k ≡ true
      → Fits items bytes marks k short
  pub no_more : LeavesNone items bytes marks
  pub least : (others : List Bool) → length others ≡ length items → LeavesNone items bytes others
      → (k : ℕ) → mark_at marks k ≡ true → mark_at others k ≡ true
