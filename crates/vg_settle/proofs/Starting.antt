-- How the marks and the table of starts begin, and what they say in the end.
use Rattle.std.proofs.Common.{◌≡◌, ℕ, zero, suc, ◌+◌, ◌<◌, ◌≤◌, ◌^◌, Bool, false, List, [], ◌∷◌, ◌++◌, length, get_or, take, drop, replicate, refl, sym, ◌∙◌, subst, arith, inl, inr}
use Rattle.std.proofs.lemmas.Grind.{common_steps}
use Rattle.std.proofs.lemmas.List.{get_or_push, get_or_append_left}
use Rattle.std.proofs.lemmas.Option.{slice_get-get_or}
use Rattle.std.specs.Prelude.{slice_index}
use Rattle.vg_settle.specs.declared.item.Item.{Item}
use Rattle.vg_settle.specs.Layout.{mark_at, words_at, start}
use Rattle.vg_settle.specs.Settled.{LeavesNone, IsSettled}
use Rattle.vg_settle.specs.Sweep.{AreStarts, AreSound}
use Rattle.vg_settle.proofs.Layouts.{same_or_other, words_at-item, start-next, start-same, start-le}

-- the start of the item behind, where none is marked
pub long_next : (items : List Item) (k from : ℕ) (d : Item) → k < length items → from ≡ start items [] k → from + (get_or items k d).words ≡ start items [] (k + 1)
long_next items k from d at from_is =
    let words : words_at items [] k ≡ (get_or items k d).words = words_at-item items [] k (get_or items k d) (slice_get-get_or items k d at) in
    let next : start items [] (k + 1) ≡ start items [] k + words_at items [] k = start-next items [] k in
    omega arith

-- it fits
pub long_fits : (items : List Item) (k from : ℕ) (d : Item) → k < length items → from ≡ start items [] k → start items [] (length items) < 2 ^ 32 → from + (get_or items k d).words < 2 ^ 32
long_fits items k from d at from_is words =
    let next : from + (get_or items k d).words ≡ start items [] (k + 1) = long_next items k from d at from_is in
    let up : start items [] (k + 1) ≤ start items [] (length items) = start-le items [] (k + 1) (length items) (omega arith) in
    omega arith

-- one start more in the table
pub table_pushed : (items : List Item) (starts : List ℕ) (k from : ℕ) → length starts ≡ k → from ≡ start items [] k → ((j : ℕ) → j < k → slice_index starts j ≡ start items [] j)
    → (j : ℕ) → j < k + 1 → slice_index (starts ++ from ∷ []) j ≡ start items [] j
table_pushed items starts k from each from_is done j below =
    elim (same_or_other j k) [
      | inl same ↦
          (let P : ℕ → Type 0 = λ i. slice_index (starts ++ from ∷ []) i ≡ start items [] i in
          subst P (sym same) (get_or_push starts from 0 k each ∙ from_is))
      | inr other ↦ get_or_append_left starts (from ∷ []) 0 j (omega arith) ∙ done j (omega arith)
    ]

-- the whole table
pub table_done : (items : List Item) (starts : List ℕ) (k from : ℕ) → length starts ≡ k → k ≡ length items → from ≡ start items [] k → ((j : ℕ) → j < k → slice_index starts j ≡ start items [] j)
    → length (starts ++ from ∷ []) ≡ length items + 1 → AreStarts items [] (starts ++ from ∷ [])
table_done items starts k from each all from_is done long = record {
  each = long;
  start_at = λ j within. table_pushed items starts k from each from_is done j (omega arith);
}

-- none is marked
pub none_marked : (n k : ℕ) → mark_at (replicate n false) k ≡ false
none_marked zero k = refl
none_marked (suc n) zero = refl
none_marked (suc n) (suc k) = none_marked n k

-- starts where none is marked
pub starts_bare : (items : List Item) (marks : List Bool) (starts : List ℕ) → ((k : ℕ) → mark_at marks k ≡ false) → AreStarts items [] starts → AreStarts items marks starts
starts_bare items marks starts bare are = record {
  each = are.each;
  start_at = λ k within. are.start_at k within ∙ start-same items [] marks k (λ j below. sym (bare j));
}

-- sound marks that leave none settle the items
pub settled : (items : List Item) (bytes : ℕ) (marks : List Bool) → AreSound items bytes marks → LeavesNone items bytes marks → IsSettled items bytes marks
settled items bytes marks sound none = record {
  each = sound.each;
  short = sound.short;
  fits = sound.fits;
  no_more = none;
  least = sound.least;
}

-- a slice that is written back whole
pub written : (len : ℕ) (new old : List Bool) → length new ≡ len → take len (new ++ drop (length new) old) ≡ new
written len new old is = grind (arith, common_steps)
