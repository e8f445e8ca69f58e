-- What marking one item more does: what fits goes on to fit, and the test by a table of starts is that of the definitions.
use Rattle.std.proofs.Common.{◌≡◌, ℕ, ◌+◌, ◌-◌, ◌*◌, ◌<◌, ◌≤◌, Bool, true, List, length, set, Option, Some, None, refl, sym, ◌∙◌, subst, arith, ◌⊎◌, inl, inr, pos, neg_ℤ, ◌≤ℤ◌}
use Rattle.std.proofs.lemmas.Bool.{lt-ltb, le-ltb}
use Rattle.std.specs.Prelude.{slice_get, slice_index, MatchBool, MatchOption}
use Rattle.vg_settle.specs.declared.item.Short.{Short}
use Rattle.vg_settle.specs.declared.item.Item.{Item}
use Rattle.vg_settle.specs.Layout.{mark_at, words_at, start, Fits, IsShort, HasShort}
use Rattle.vg_settle.specs.Settled.{IsCode}
use Rattle.vg_settle.specs.Sweep.{words_ahead, words_back, ReachesBy, FitsBy, CanTest}
use Rattle.vg_settle.proofs.Layouts.{Inside, mark_at-set, mark_at-set_other, lead_within, words_at-marked, start-next, start-same, span-same, span-le, start-le}
use Rattle.vg_settle.proofs.Reaching.{reaches-ahead, reaches-back, near-ahead, near-back, nearer-ahead, nearer-back}

-- what goes ahead starts behind the lead
pub lead_ahead : (items : List Item) (bytes : ℕ) → IsCode items bytes → (marks : List Bool) (k : ℕ) (item : Item) (short : Short) → HasShort items k item short → k < short.to
    → start items marks k + short.lead ≤ start items marks short.to
lead_ahead items bytes code marks k item short has ahead =
    let within : short.lead < words_at items marks k = lead_within items bytes code marks k item short has in
    let next : start items marks (k + 1) ≡ start items marks k + words_at items marks k = start-next items marks k in
    let up : start items marks (k + 1) ≤ start items marks short.to = start-le items marks (k + 1) short.to (omega arith) in
    omega arith

-- with more marks, what fits goes on to fit
pub fits-inside : (items : List Item) (bytes : ℕ) → IsCode items bytes → (marks more : List Bool) (k : ℕ) (item : Item) (short : Short) → HasShort items k item short → Inside marks more
    → Fits items bytes marks k short → Fits items bytes more k short
fits-inside items bytes code marks more k item short has inside fits =
    let well : IsShort items item short = code.shorts k item short has in
    let split : (k < short.to) ⊎ (short.to ≤ k) = grind arith in
    elim split [
      | inl ahead ↦
          nearer-ahead short bytes (start items marks k) (start items marks short.to) (start items more k) (start items more short.to) well.least
          (lead_ahead items bytes code marks k item short has ahead) (lead_ahead items bytes code more k item short has ahead)
          (span-le items bytes code marks more k short.to (omega arith) inside) fits
      | inr back ↦
          nearer-back short bytes (start items marks k) (start items marks short.to) (start items more k) (start items more short.to) well.greatest
          (start-le items marks short.to k back) (start-le items more short.to k back)
          (let less = span-le items bytes code marks more short.to k back inside in omega arith) fits
    ]

-- ---- the test of one item by a table

-- The table of starts when an item is looked at: up to it the starts of the marks so far, behind it those of the marks
-- before the sweep, which are the same from it on.
pub record Stands (items : List Item) (old marks : List Bool) (starts : List ℕ) (k from : ℕ) : Type 0 where
  pub each : length marks ≡ length items
  pub table : length starts ≡ length items + 1
  pub at : k < length items
  pub behind : (j : ℕ) → k ≤ j → mark_at marks j ≡ mark_at old j
  pub done : (j : ℕ) → j ≤ k → slice_index starts j ≡ start items marks j
  pub rest : (j : ℕ) → k < j → j ≤ length items → slice_index starts j ≡ start items old j
  pub from_is : from ≡ start items marks k

-- the table serves for the test
pub can_test : (items : List Item) (bytes : ℕ) → IsCode items bytes → (old marks : List Bool) (starts : List ℕ) (k from : ℕ) (item : Item) → Stands items old marks starts k from
    → slice_get items k ≡ Some item → CanTest item bytes k from starts
can_test items bytes code old marks starts k from item stands item_at short short_of =
    let has : HasShort items k item short = record { item_at = item_at; short_of = short_of } in
    let well : IsShort items item short = code.shorts k item short has in
    let table : length starts ≡ length items + 1 = stands.table in
    let at : k < length items = stands.at in
    let to : short.to ≤ length items = well.to in
    record {
      most = elim code.word_bytes [ inl two ↦ omega arith | inr more ↦ elim more [ inl four ↦ omega arith | inr eight ↦ omega arith ] ];
      next = omega arith;
      to = omega arith;
      lead = let behind : short.lead < short.words = well.lead in omega arith;
      ahead = λ ahead.
          let one : slice_index starts (k + 1) ≡ start items old (k + 1) = stands.rest (k + 1) (omega arith) (omega arith) in
          let two : slice_index starts short.to ≡ start items old short.to = stands.rest short.to ahead to in
          let up : start items old (k + 1) ≤ start items old short.to = start-le items old (k + 1) short.to (omega arith) in
          omega arith;
      back = λ back.
          let one : slice_index starts short.to ≡ start items marks short.to = stands.done short.to back in
          let up : start items marks short.to ≤ start items marks k = start-le items marks short.to k back in
          let from_is : from ≡ start items marks k = stands.from_is in
          omega arith;
    }

-- where an item starts doesn't hang on its own mark
pub start-set : (items : List Item) (marks : List Bool) (k j : ℕ) → j ≤ k → start items (set marks k true) j ≡ start items marks j
start-set items marks k j up = start-same items (set marks k true) marks j (λ i below. mark_at-set_other marks k i (λ same. absurd (omega arith)))

-- what the table says of the words ahead
ahead_is : (items : List Item) (bytes : ℕ) → IsCode items bytes → (old marks : List Bool) (starts : List ℕ) (k from : ℕ) (item : Item) (short : Short) → Stands items old marks starts k from
    → HasShort items k item short → k < short.to
    → words_ahead short k starts ≡ start items (set marks k true) short.to - start items (set marks k true) k - short.lead
ahead_is items bytes code old marks starts k from item short stands has ahead =
    let well : IsShort items item short = code.shorts k item short has in
    let at : k < length marks = (let one = stands.at in let two = stands.each in omega arith) in
    let one : slice_index starts (k + 1) ≡ start items old (k + 1) = stands.rest (k + 1) (omega arith) (let e = stands.at in omega arith) in
    let two : slice_index starts short.to ≡ start items old short.to = stands.rest short.to ahead well.to in
    let up : start items old (k + 1) ≤ start items old short.to = start-le items old (k + 1) short.to (omega arith) in
    let next : start items (set marks k true) (k + 1) ≡ start items (set marks k true) k + words_at items (set marks k true) k = start-next items (set marks k true) k in
    let words : words_at items (set marks k true) k ≡ short.words = words_at-marked items (set marks k true) k item short has (mark_at-set marks k at) in
    let span : start items (set marks k true) short.to + start items old (k + 1) ≡ start items old short.to + start items (set marks k true) (k + 1) =
    span-same items (set marks k true) old (k + 1) short.to (omega arith)
    (λ j above below. mark_at-set_other marks k j (λ same. absurd (omega arith)) ∙ stands.behind j (omega arith)) in
    omega arith

-- what the table says of the words back
back_is : (items : List Item) (old marks : List Bool) (starts : List ℕ) (k from : ℕ) (short : Short) → Stands items old marks starts k from → short.to ≤ k
    → words_back short from starts ≡ start items (set marks k true) k - start items (set marks k true) short.to + short.lead
back_is items old marks starts k from short stands back =
    let one : slice_index starts short.to ≡ start items marks short.to = stands.done short.to back in
    let from_is : from ≡ start items marks k = stands.from_is in
    let two : start items (set marks k true) k ≡ start items marks k = start-set items marks k k (omega arith) in
    let three : start items (set marks k true) short.to ≡ start items marks short.to = start-set items marks k short.to back in
    omega arith

-- what passes the test fits
fits_of : (items : List Item) (bytes : ℕ) → IsCode items bytes → (old marks : List Bool) (starts : List ℕ) (k from : ℕ) (item : Item) (short : Short) → Stands items old marks starts k from
    → HasShort items k item short → ReachesBy short bytes k from starts → Fits items bytes (set marks k true) k short
fits_of items bytes code old marks starts k from item short stands has reaches =
    let well : IsShort items item short = code.shorts k item short has in
    let more : List Bool = set marks k true in
    let P : Bool → Type 0 = λ b. MatchBool b (pos (bytes * words_ahead short k starts) ≤ℤ short.greatest) (short.least ≤ℤ neg_ℤ (pos (bytes * words_back short from starts))) in
    let split : (k < short.to) ⊎ (short.to ≤ k) = grind arith in
    elim split [
      | inl ahead ↦
          (let Q : ℕ → Type 0 = λ x. pos (bytes * x) ≤ℤ short.greatest in
          reaches-ahead short bytes (start items more k) (start items more short.to) (lead_ahead items bytes code more k item short has ahead) well.least
          (subst Q (ahead_is items bytes code old marks starts k from item short stands has ahead) (subst P (lt-ltb k short.to ahead) reaches)))
      | inr back ↦
          (let Q : ℕ → Type 0 = λ x. short.least ≤ℤ neg_ℤ (pos (bytes * x)) in
          reaches-back short bytes (start items more k) (start items more short.to) (start-le items more short.to k back) well.greatest
          (subst Q (back_is items old marks starts k from short stands back) (subst P (le-ltb k short.to back) reaches)))
    ]

-- what fits passes the test
of_fits : (items : List Item) (bytes : ℕ) → IsCode items bytes → (old marks : List Bool) (starts : List ℕ) (k from : ℕ) (item : Item) (short : Short) → Stands items old marks starts k from
    → HasShort items k item short → Fits items bytes (set marks k true) k short → ReachesBy short bytes k from starts
of_fits items bytes code old marks starts k from item short stands has fits =
    let more : List Bool = set marks k true in
    let P : Bool → Type 0 = λ b. MatchBool b (pos (bytes * words_ahead short k starts) ≤ℤ short.greatest) (short.least ≤ℤ neg_ℤ (pos (bytes * words_back short from starts))) in
    let split : (k < short.to) ⊎ (short.to ≤ k) = grind arith in
    elim split [
      | inl ahead ↦
          (let Q : ℕ → Type 0 = λ x. pos (bytes * x) ≤ℤ short.greatest in
          subst P (sym (lt-ltb k short.to ahead))
          (subst Q (sym (ahead_is items bytes code old marks starts k from item short stands has ahead))
          (near-ahead short bytes (start items more k) (start items more short.to) (lead_ahead items bytes code more k item short has ahead) fits)))
      | inr back ↦
          (let Q : ℕ → Type 0 = λ x. short.least ≤ℤ neg_ℤ (pos (bytes * x)) in
          subst P (sym (le-ltb k short.to back))
          (subst Q (sym (back_is items old marks starts k from short stands back))
          (near-back short bytes (start items more k) (start items more short.to) (start-le items more short.to k back) fits)))
    ]

-- an item that passes the test has a short form that fits
pub fits_by : (items : List Item) (bytes : ℕ) → IsCode items bytes → (old marks : List Bool) (starts : List ℕ) (k from : ℕ) (item : Item) → Stands items old marks starts k from
    → slice_get items k ≡ Some item → FitsBy item bytes k from starts → (short : Short) × HasShort items k item short × Fits items bytes (set marks k true) k short
fits_by items bytes code old marks starts k from item stands item_at by = go item.short refl by
  where
    go : (o : Option Short) → item.short ≡ o → MatchOption o ⊥ (λ (short : Short). ReachesBy short bytes k from starts) → (short : Short) × HasShort items k item short × Fits items bytes (set marks k true) k short
    go None is by = absurd by
    go (Some short) is by =
        let has : HasShort items k item short = record { item_at = item_at; short_of = is } in
        (short, has, fits_of items bytes code old marks starts k from item short stands has by)

-- an item with a short form that fits passes the test
pub by_fits : (items : List Item) (bytes : ℕ) → IsCode items bytes → (old marks : List Bool) (starts : List ℕ) (k from : ℕ) (item : Item) (short : Short) → Stands items old marks starts k from
    → HasShort items k item short → Fits items bytes (set marks k true) k short → FitsBy item bytes k from starts
by_fits items bytes code old marks starts k from item short stands has fits =
    let P : Option Short → Type 0 = λ o. MatchOption o ⊥ (λ (s : Short). ReachesBy s bytes k from starts) in
    subst P (sym has.short_of) (of_fits items bytes code old marks starts k from item short stands has fits)
