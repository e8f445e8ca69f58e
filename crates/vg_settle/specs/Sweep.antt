-- Words between the code and the definitions: what a table of starts has, the test of one item, and what a sweep keeps.
use Rattle.std.specs.Prelude.{◌≡◌, ℕ, zero, suc, ◌+◌, ◌-◌, ◌*◌, ◌<◌, ◌≤◌, pos, neg_ℤ, ◌≤ℤ◌, Bool, true, false, List, length, slice_get, slice_index, slice_set, nat_lt, Some, IsSome, MatchBool, MatchOption}
use Rattle.vg_settle.specs.declared.item.Short.{Short}
use Rattle.vg_settle.specs.declared.item.Item.{Item}
use Rattle.vg_settle.specs.Layout.{mark_at, start, Fits, HasShort}
use Rattle.vg_settle.specs.Settled.{LeavesNone}

-- the table has the start of each item, and the end
pub record AreStarts (items : List Item) (marks : List Bool) (starts : List ℕ) : Type 0 where
  pub each : length starts ≡ length items + 1
  pub start_at : (k : ℕ) → k ≤ length items → slice_index starts k ≡ start items marks k

-- The words between the end of an item's lead and what it goes to, where the item would be marked and starts here:
-- ahead, its own words and those between it and there, by the starts so far; back, those from there to it, and its
-- lead.
abbrev pub words_ahead : Short → ℕ → List ℕ → ℕ
words_ahead short k starts = short.words + (slice_index starts short.to - slice_index starts (k + 1)) - short.lead

-- the same for an item that starts at `from` and goes back
abbrev pub words_back : Short → ℕ → List ℕ → ℕ
words_back short from starts = from - slice_index starts short.to + short.lead

-- the short form reaches what it goes to, ahead of its item or not
abbrev pub ReachesBy : Short → (bytes k from : ℕ) → List ℕ → Type 0
ReachesBy short bytes k from starts =
    MatchBool (nat_lt k short.to)
    (pos (bytes * words_ahead short k starts) ≤ℤ short.greatest)
    (short.least ≤ℤ neg_ℤ (pos (bytes * words_back short from starts)))

-- the item has a short form, which reaches what it goes to
abbrev pub FitsBy : Item → (bytes k from : ℕ) → List ℕ → Type 0
FitsBy item bytes k from starts = MatchOption item.short ⊥ (λ (short : Short). ReachesBy short bytes k from starts)

-- the table serves for the test of a short form
pub record CanReach (short : Short) (bytes k from : ℕ) (starts : List ℕ) : Type 0 where
  pub most : bytes ≤ 8
  pub next : k + 1 < length starts
  pub to : short.to < length starts
  pub lead : short.lead ≤ short.words
  pub ahead : k < short.to → slice_index starts (k + 1) ≤ slice_index starts short.to
  pub back : short.to ≤ k → slice_index starts short.to ≤ from

-- the table serves for the test of an item
abbrev pub CanTest : Item → (bytes k from : ℕ) → List ℕ → Type 0
CanTest item bytes k from starts = (short : Short) → item.short ≡ Some short → CanReach short bytes k from starts

-- the item was unmarked and passed the test, and is marked now
pub record IsMarked (item : Item) (bytes k from : ℕ) (starts : List ℕ) (old marks : List Bool) : Type 0 where
  pub unmarked : mark_at old k ≡ false
  pub fits : FitsBy item bytes k from starts
  pub set : marks ≡ slice_set old k true

-- the item was marked or didn't pass the test, and the marks are as they were
pub record IsKept (item : Item) (bytes k from : ℕ) (starts : List ℕ) (old marks : List Bool) : Type 0 where
  pub same : marks ≡ old
  pub unfit : mark_at old k ≡ false → FitsBy item bytes k from starts → ⊥

-- what marks keep from sweep to sweep: all that settles the items but that none is left
pub record AreSound (items : List Item) (bytes : ℕ) (marks : List Bool) : Type 0 where
  pub each : length marks ≡ length items
  pub short : (k : ℕ) (item : Item) → slice_get items k ≡ Some item → mark_at marks k ≡ true → IsSome item.short
  pub fits : (k : ℕ) (item : Item) (short : Short) → HasShort items k item short → mark_at marks k ≡ true
      → Fits items bytes marks k short
  pub least : (others : List Bool) → length others ≡ length items → LeavesNone items bytes others
      → (k : ℕ) → mark_at marks k ≡ true → mark_at others k ≡ true

-- an item counts where it is unmarked
abbrev pub bare : Bool → ℕ
bare true = 0
bare false = 1

-- how many of the first so many items are unmarked
unfoldable pub unmarked : List Bool → ℕ → ℕ
unmarked marks zero = 0
unmarked marks (suc k) = unmarked marks k + bare (mark_at marks k)
