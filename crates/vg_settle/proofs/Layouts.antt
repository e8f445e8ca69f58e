-- Laws of layouts: what marks do to words and starts.
use Rattle.std.proofs.Common.{◌≡◌, ◌≢◌, ℕ, zero, suc, ◌+◌, ◌-◌, ◌<◌, ◌≤◌, Bool, true, false, List, length, set, Option, Some, None, refl, sym, ◌∙◌, ap, subst, arith, ◌⊎◌, inl, inr, add-zero, add-one}
use Rattle.std.proofs.Math.Nat.{add-suc}
use Rattle.std.proofs.lemmas.List.{get_or-set_same, get_or-set_other}
use Rattle.std.proofs.lemmas.Bool.Decides.{eqb_tells}
use Rattle.std.specs.Prelude.{slice_get}
use Rattle.std.specs.Option.{option_map_or}
use Rattle.vg_settle.specs.declared.item.Short.{Short}
use Rattle.vg_settle.specs.declared.item.Item.{Item}
use Rattle.vg_settle.specs.Layout.{mark_at, words_of, words_at, start, IsShort, HasShort}
use Rattle.vg_settle.specs.Settled.{IsCode}

-- each mark of the first is one of the second
abbrev pub Inside : List Bool → List Bool → Type 0
Inside marks more = (k : ℕ) → mark_at marks k ≡ true → mark_at more k ≡ true

-- the same number or another
pub same_or_other : (j k : ℕ) → (j ≡ k) ⊎ (j ≢ k)
same_or_other j k = elim (eqb_tells j k) [ inl same ↦ inl same.1 | inr other ↦ inr other.1 ]

-- ---- marks

-- the mark that is set
pub mark_at-set : (marks : List Bool) (k : ℕ) → k < length marks → mark_at (set marks k true) k ≡ true
mark_at-set marks k below = get_or-set_same marks k true false below

-- the other marks
pub mark_at-set_other : (marks : List Bool) (k j : ℕ) → j ≢ k → mark_at (set marks k true) j ≡ mark_at marks j
mark_at-set_other marks k j other = get_or-set_other marks k j true false other

-- marks stay when one more is set
pub inside-set : (marks : List Bool) (k : ℕ) → k < length marks → Inside marks (set marks k true)
inside-set marks k below j marked =
    elim (same_or_other j k) [
      | inl same ↦ (let P : ℕ → Type 0 = λ i. mark_at (set marks k true) i ≡ true in subst P (sym same) (mark_at-set marks k below))
      | inr other ↦ mark_at-set_other marks k j other ∙ marked
    ]

-- one more may be set in both
pub inside-set_both : (marks more : List Bool) (k : ℕ) → k < length more → Inside marks more → Inside (set marks k true) (set more k true)
inside-set_both marks more k below inside j marked =
    elim (same_or_other j k) [
      | inl same ↦ (let P : ℕ → Type 0 = λ i. mark_at (set more k true) i ≡ true in subst P (sym same) (mark_at-set more k below))
      | inr other ↦ mark_at-set_other more k j other ∙ inside j (sym (mark_at-set_other marks k j other) ∙ marked)
    ]

-- ---- words

-- an item with a short form has the words of this where it is marked
words_of-short : (item : Item) (short : Short) → item.short ≡ Some short → words_of item true ≡ short.words
words_of-short item short is = ap (λ o. option_map_or (λ (s : Short). s.words) o item.words) is

-- an item is no longer where it is marked
words_of-marked : (item : Item) (o : Option Short) → item.short ≡ o → ((short : Short) → item.short ≡ Some short → short.words ≤ item.words) → option_map_or (λ (s : Short). s.words) o item.words ≤ item.words
words_of-marked item None is shorter = omega arith
words_of-marked item (Some short) is shorter = shorter short is

-- with more marks an item is no longer
words_of-le : (item : Item) (a b : Bool) → ((short : Short) → item.short ≡ Some short → short.words ≤ item.words) → (a ≡ true → b ≡ true) → words_of item b ≤ words_of item a
words_of-le item false false shorter marked = omega arith
words_of-le item true true shorter marked = omega arith
words_of-le item false true shorter marked = words_of-marked item item.short refl shorter
words_of-le item true false shorter marked = let h : false ≡ true = marked refl in absurd (cc h)

-- the words at the number of an item
pub words_at-item : (items : List Item) (marks : List Bool) (k : ℕ) (item : Item) → slice_get items k ≡ Some item → words_at items marks k ≡ words_of item (mark_at marks k)
words_at-item items marks k item is = ap (λ o. option_map_or (λ (i : Item). words_of i (mark_at marks k)) o 0) is

-- with more marks the words at a number are no more
pub words_at-le : (items : List Item) (bytes : ℕ) → IsCode items bytes → (marks more : List Bool) (k : ℕ) → (mark_at marks k ≡ true → mark_at more k ≡ true) → words_at items more k ≤ words_at items marks k
words_at-le items bytes code marks more k marked = go (slice_get items k) refl
  where
    go : (o : Option Item) → slice_get items k ≡ o → option_map_or (λ (i : Item). words_of i (mark_at more k)) o 0 ≤ option_map_or (λ (i : Item). words_of i (mark_at marks k)) o 0
    go None is = omega arith
    go (Some item) is = words_of-le item (mark_at marks k) (mark_at more k) (λ short short_of. (code.shorts k item short (record { item_at = is; short_of = short_of })).words) marked

-- the same mark, the same words
pub words_at-same : (items : List Item) (marks others : List Bool) (k : ℕ) → mark_at marks k ≡ mark_at others k → words_at items marks k ≡ words_at items others k
words_at-same items marks others k same = ap (λ (m : Bool). option_map_or (λ (i : Item). words_of i m) (slice_get items k) 0) same

-- an item with a short form, marked or not, has a word behind the lead
pub lead_within : (items : List Item) (bytes : ℕ) → IsCode items bytes → (marks : List Bool) (k : ℕ) (item : Item) (short : Short) → HasShort items k item short → short.lead < words_at items marks k
lead_within items bytes code marks k item short has =
    let well : IsShort items item short = code.shorts k item short has in
    let words : words_at items marks k ≡ words_of item (mark_at marks k) = words_at-item items marks k item has.item_at in
    let behind : short.lead < short.words = well.lead in
    let longer : short.words ≤ item.words = well.words in
    let both : short.words ≤ words_of item (mark_at marks k) = go (mark_at marks k) longer in
    omega arith
  where
    go : (m : Bool) → short.words ≤ item.words → short.words ≤ words_of item m
    go true longer = let e : words_of item true ≡ short.words = words_of-short item short has.short_of in omega arith
    go false longer = longer

-- a marked item with a short form has its words
pub words_at-marked : (items : List Item) (marks : List Bool) (k : ℕ) (item : Item) (short : Short) → HasShort items k item short → mark_at marks k ≡ true → words_at items marks k ≡ short.words
words_at-marked items marks k item short has marked =
    words_at-item items marks k item has.item_at ∙ ap (words_of item) marked ∙ words_of-short item short has.short_of

-- ---- starts

-- the start of the first item
pub start-zero : (items : List Item) (marks : List Bool) → start items marks 0 ≡ 0
unfolding start
start-zero items marks = refl

-- the start of the item behind
pub start-suc : (items : List Item) (marks : List Bool) (k : ℕ) → start items marks (suc k) ≡ start items marks k + words_at items marks k
unfolding start
start-suc items marks k = refl

-- the same, one on
pub start-next : (items : List Item) (marks : List Bool) (k : ℕ) → start items marks (k + 1) ≡ start items marks k + words_at items marks k
start-next items marks k = ap (start items marks) (add-one k) ∙ start-suc items marks k

-- the same marks in front, the same start
pub start-same : (items : List Item) (marks others : List Bool) (k : ℕ) → ((j : ℕ) → j < k → mark_at marks j ≡ mark_at others j) → start items marks k ≡ start items others k
start-same items marks others zero same = start-zero items marks ∙ sym (start-zero items others)
start-same items marks others (suc k) same =
    let front : start items marks k ≡ start items others k = start-same items marks others k (λ j below. same j (omega arith)) in
    let here : words_at items marks k ≡ words_at items others k = words_at-same items marks others k (same k (omega arith)) in
    let one : start items marks (suc k) ≡ start items marks k + words_at items marks k = start-suc items marks k in
    let two : start items others (suc k) ≡ start items others k + words_at items others k = start-suc items others k in
    omega arith

-- the start of an item further on, the same marks between
span-same_by : (items : List Item) (marks others : List Bool) (a n : ℕ) → ((j : ℕ) → a ≤ j → j < a + n → mark_at marks j ≡ mark_at others j)
    → start items marks (a + n) + start items others a ≡ start items others (a + n) + start items marks a
span-same_by items marks others a zero same =
    let e : start items marks (a + 0) ≡ start items marks a = ap (start items marks) (add-zero a) in
    let f : start items others (a + 0) ≡ start items others a = ap (start items others) (add-zero a) in
    omega arith
span-same_by items marks others a (suc n) same =
    let front = span-same_by items marks others a n (λ j from below. same j from (omega arith)) in
    let here : words_at items marks (a + n) ≡ words_at items others (a + n) = words_at-same items marks others (a + n) (same (a + n) (omega arith) (omega arith)) in
    let one : start items marks (a + suc n) ≡ start items marks (a + n) + words_at items marks (a + n) = ap (start items marks) (add-suc a n) ∙ start-suc items marks (a + n) in
    let two : start items others (a + suc n) ≡ start items others (a + n) + words_at items others (a + n) = ap (start items others) (add-suc a n) ∙ start-suc items others (a + n) in
    omega arith

-- the same marks between two items, the same words between them
pub span-same : (items : List Item) (marks others : List Bool) (a b : ℕ) → a ≤ b → ((j : ℕ) → a ≤ j → j < b → mark_at marks j ≡ mark_at others j)
    → start items marks b + start items others a ≡ start items others b + start items marks a
span-same items marks others a b up same =
    let e : a + (b - a) ≡ b = omega arith in
    let P : ℕ → Type 0 = λ i. start items marks i + start items others a ≡ start items others i + start items marks a in
    subst P e (span-same_by items marks others a (b - a) (λ j from below. same j from (omega arith)))

-- with more marks, no more words between two items
span-le_by : (items : List Item) (bytes : ℕ) → IsCode items bytes → (marks more : List Bool) (a n : ℕ) → Inside marks more
    → start items more (a + n) + start items marks a ≤ start items marks (a + n) + start items more a
span-le_by items bytes code marks more a zero inside =
    let e : start items marks (a + 0) ≡ start items marks a = ap (start items marks) (add-zero a) in
    let f : start items more (a + 0) ≡ start items more a = ap (start items more) (add-zero a) in
    omega arith
span-le_by items bytes code marks more a (suc n) inside =
    let front = span-le_by items bytes code marks more a n inside in
    let here : words_at items more (a + n) ≤ words_at items marks (a + n) = words_at-le items bytes code marks more (a + n) (inside (a + n)) in
    let one : start items marks (a + suc n) ≡ start items marks (a + n) + words_at items marks (a + n) = ap (start items marks) (add-suc a n) ∙ start-suc items marks (a + n) in
    let two : start items more (a + suc n) ≡ start items more (a + n) + words_at items more (a + n) = ap (start items more) (add-suc a n) ∙ start-suc items more (a + n) in
    omega arith

pub span-le : (items : List Item) (bytes : ℕ) → IsCode items bytes → (marks more : List Bool) (a b : ℕ) → a ≤ b → Inside marks more
    → start items more b + start items marks a ≤ start items marks b + start items more a
span-le items bytes code marks more a b up inside =
    let e : a + (b - a) ≡ b = omega arith in
    let P : ℕ → Type 0 = λ i. start items more i + start items marks a ≤ start items marks i + start items more a in
    subst P e (span-le_by items bytes code marks more a (b - a) inside)

-- an item further on doesn't start earlier
start-le_by : (items : List Item) (marks : List Bool) (a n : ℕ) → start items marks a ≤ start items marks (a + n)
start-le_by items marks a zero = let e : start items marks (a + 0) ≡ start items marks a = ap (start items marks) (add-zero a) in omega arith
start-le_by items marks a (suc n) =
    let front = start-le_by items marks a n in
    let one : start items marks (a + suc n) ≡ start items marks (a + n) + words_at items marks (a + n) = ap (start items marks) (add-suc a n) ∙ start-suc items marks (a + n) in
    omega arith

pub start-le : (items : List Item) (marks : List Bool) (a b : ℕ) → a ≤ b → start items marks a ≤ start items marks b
start-le items marks a b up =
    let e : a + (b - a) ≡ b = omega arith in
    let P : ℕ → Type 0 = λ i. start items marks a ≤ start items marks i in
    subst P e (start-le_by items marks a (b - a))
