-- What a sweep keeps from item to item.
use Rattle.std.proofs.Common.{rules, ◌≡◌, ℕ, zero, suc, ◌+◌, ◌<◌, ◌≤◌, ◌^◌, Bool, true, false, List, [], length, set, Option, Some, refl, sym, ◌∙◌, ap, subst, arith, inl, inr, ◌||◌}
use Rattle.std.proofs.lemmas.List.{length-set, get_or-set_same, get_or-set_other}
use Rattle.std.specs.Prelude.{slice_get, slice_index, IsSome}
use Rattle.vg_settle.specs.declared.item.Short.{Short}
use Rattle.vg_settle.specs.declared.item.Item.{Item}
use Rattle.vg_settle.specs.Layout.{mark_at, words_of, words_at, start, Fits, HasShort}
use Rattle.vg_settle.specs.Settled.{IsCode, LeavesNone}
use Rattle.vg_settle.specs.Sweep.{AreStarts, FitsBy, IsMarked, IsKept, AreSound, bare, unmarked}
use Rattle.std.proofs.lemmas.Option.{slice_get_within}
use Rattle.vg_settle.proofs.Layouts.{Inside, same_or_other, mark_at-set, mark_at-set_other, inside-set, inside-set_both, words_at-item, start-zero, start-next, start-le, span-le}
use Rattle.vg_settle.proofs.Marking.{Stands, fits-inside, start-set, fits_by, by_fits}

-- ---- counting what is unmarked

unmarked-zero : (marks : List Bool) → unmarked marks 0 ≡ 0
unfolding unmarked
unmarked-zero marks = refl

unmarked-suc : (marks : List Bool) (k : ℕ) → unmarked marks (suc k) ≡ unmarked marks k + bare (mark_at marks k)
unfolding unmarked
unmarked-suc marks k = refl

-- the same marks, the same count
unmarked-same : (marks others : List Bool) (k : ℕ) → ((j : ℕ) → j < k → mark_at marks j ≡ mark_at others j) → unmarked marks k ≡ unmarked others k
unmarked-same marks others zero same = unmarked-zero marks ∙ sym (unmarked-zero others)
unmarked-same marks others (suc k) same =
    let front : unmarked marks k ≡ unmarked others k = unmarked-same marks others k (λ j below. same j (omega arith)) in
    let here : bare (mark_at marks k) ≡ bare (mark_at others k) = ap bare (same k (omega arith)) in
    let one : unmarked marks (suc k) ≡ unmarked marks k + bare (mark_at marks k) = unmarked-suc marks k in
    let two : unmarked others (suc k) ≡ unmarked others k + bare (mark_at others k) = unmarked-suc others k in
    omega arith

-- one more mark, one less in the count
unmarked-set : (marks : List Bool) (k n : ℕ) → k < length marks → k < n → mark_at marks k ≡ false → unmarked (set marks k true) n < unmarked marks n
unmarked-set marks k zero within below is_bare = absurd (omega arith)
unmarked-set marks k (suc n) within below is_bare =
    let one : unmarked marks (suc n) ≡ unmarked marks n + bare (mark_at marks n) = unmarked-suc marks n in
    let two : unmarked (set marks k true) (suc n) ≡ unmarked (set marks k true) n + bare (mark_at (set marks k true) n) = unmarked-suc (set marks k true) n in
    elim (same_or_other n k) [
      | inl same ↦
          (let front : unmarked (set marks k true) n ≡ unmarked marks n = unmarked-same (set marks k true) marks n (λ j under. mark_at-set_other marks k j (λ e. absurd (omega arith))) in
          let here : bare (mark_at marks n) ≡ 1 = ap bare (ap (mark_at marks) same ∙ is_bare) in
          let there : bare (mark_at (set marks k true) n) ≡ 0 = ap bare (ap (mark_at (set marks k true)) same ∙ mark_at-set marks k within) in
          omega arith)
      | inr other ↦
          (let front : unmarked (set marks k true) n < unmarked marks n = unmarked-set marks k n within (omega arith) is_bare in
          let here : bare (mark_at (set marks k true) n) ≡ bare (mark_at marks n) = ap bare (mark_at-set_other marks k n other) in
          omega arith)
    ]

-- ---- sound marks

-- no marks are sound
pub sound_none : (items : List Item) (bytes : ℕ) (marks : List Bool) → length marks ≡ length items → ((k : ℕ) → mark_at marks k ≡ false) → AreSound items bytes marks
sound_none items bytes marks each all_bare = record {
  each = each;
  short = λ k item item_at marked. (let no = all_bare k in absurd cc);
  fits = λ k item short has marked. (let no = all_bare k in absurd cc);
  least = λ others same leaves k marked. (let no = all_bare k in absurd cc);
}

-- one more mark, of an item that fits with it, leaves marks sound
sound-set : (items : List Item) (bytes : ℕ) → IsCode items bytes → (marks : List Bool) (k : ℕ) (item : Item) (short : Short) → HasShort items k item short → k < length items → mark_at marks k ≡ false
    → AreSound items bytes marks → Fits items bytes (set marks k true) k short → AreSound items bytes (set marks k true)
sound-set items bytes code marks k item short has at is_bare sound fits =
    let within : k < length marks = (let e = sound.each in omega arith) in
    record {
      each = length-set marks k true ∙ sound.each;
      short = λ j other other_at marked. elim (same_or_other j k) [
        | inl same ↦
            (let both : Some other ≡ Some item = sym other_at ∙ ap (slice_get items) same ∙ has.item_at in
            let one : other ≡ item = cc in
            let P : Option Short → Type 0 = λ o. IsSome o in
            subst P (sym (ap (λ (i : Item). i.short) one ∙ has.short_of)) (search rules))
        | inr apart ↦ sound.short j other other_at (sym (mark_at-set_other marks k j apart) ∙ marked)
      ];
      fits = λ j other form has_form marked. elim (same_or_other j k) [
        | inl same ↦
            (let both : Some other ≡ Some item = sym has_form.item_at ∙ ap (slice_get items) same ∙ has.item_at in
            let one : other ≡ item = cc in
            let forms : Some form ≡ Some short = sym has_form.short_of ∙ ap (λ (i : Item). i.short) one ∙ has.short_of in
            let two : form ≡ short = cc in
            let P : ℕ → Type 0 = λ i. Fits items bytes (set marks k true) i form in
            let Q : Short → Type 0 = λ f. Fits items bytes (set marks k true) k f in
            subst P (sym same) (subst Q (sym two) fits))
        | inr apart ↦ fits-inside items bytes code marks (set marks k true) j other form has_form (inside-set marks k within)
            (sound.fits j other form has_form (sym (mark_at-set_other marks k j apart) ∙ marked))
      ];
      least = λ others same leaves j marked. elim (same_or_other j k) [
        | inl here ↦ ap (mark_at others) here ∙ kept others same leaves (mark_at others k) refl
        | inr apart ↦ sound.least others same leaves j (sym (mark_at-set_other marks k j apart) ∙ marked)
      ];
    }
  where
    kept : (others : List Bool) → length others ≡ length items → LeavesNone items bytes others → (b : Bool) → mark_at others k ≡ b → mark_at others k ≡ true
    kept others same leaves true is = is
    kept others same leaves false is =
        let within : k < length others = omega arith in
        absurd (leaves k item short has is
        (fits-inside items bytes code (set marks k true) (set others k true) k item short has (inside-set_both marks others k within (sound.least others same leaves)) fits))

-- ---- a sweep

-- the item with this number, if it is unmarked, wouldn't fit
abbrev pub NoneAt : List Item → ℕ → List Bool → ℕ → Type 0
NoneAt items bytes marks k = (item : Item) (short : Short) → HasShort items k item short → mark_at marks k ≡ false → Fits items bytes (set marks k true) k short → ⊥

-- What holds when a sweep comes to an item: the marks behind are those before the sweep; the table has the starts so far,
-- and behind them those before the sweep; and where no item was marked in the sweep, none of those so far would fit.
pub record Swept (items : List Item) (bytes : ℕ) (old marks : List Bool) (starts : List ℕ) (k from : ℕ) (any : Bool) : Type 0 where
  pub table : length starts ≡ length items + 1
  pub behind : (j : ℕ) → k ≤ j → mark_at marks j ≡ mark_at old j
  pub done : (j : ℕ) → j < k → slice_index starts j ≡ start items marks j
  pub rest : (j : ℕ) → k ≤ j → j ≤ length items → slice_index starts j ≡ start items old j
  pub from_is : from ≡ start items marks k
  pub sound : AreSound items bytes marks
  pub same : any ≡ false → marks ≡ old
  pub none : any ≡ false → (j : ℕ) → j < k → NoneAt items bytes old j
  pub fewer : any ≡ true → unmarked marks (length items) < unmarked old (length items)

-- when a sweep begins
pub swept_first : (items : List Item) (bytes : ℕ) (old : List Bool) (starts : List ℕ) → AreStarts items old starts → AreSound items bytes old → Swept items bytes old old starts 0 0 false
swept_first items bytes old starts are sound = record {
  table = are.each;
  behind = λ j up. refl;
  done = λ j below. absurd (omega arith);
  rest = λ j up within. are.start_at j within;
  from_is = sym (start-zero items old);
  sound = sound;
  same = λ off. refl;
  none = λ off j below. absurd (omega arith);
  fewer = λ on. absurd (cc on);
}

-- how the table stands once the start of the item is in it
pub stands_of : (items : List Item) (bytes : ℕ) (old marks : List Bool) (starts : List ℕ) (k from : ℕ) (any : Bool) → Swept items bytes old marks starts k from any → k < length items
    → Stands items old marks (set starts k from) k from
stands_of items bytes old marks starts k from any swept at = record {
  each = swept.sound.each;
  table = length-set starts k from ∙ swept.table;
  at = at;
  behind = swept.behind;
  done = λ j up. elim (same_or_other j k) [
    | inl same ↦
        (let P : ℕ → Type 0 = λ i. slice_index (set starts k from) i ≡ start items marks i in
        subst P (sym same) (get_or-set_same starts k from 0 (let e = swept.table in omega arith) ∙ swept.from_is))
    | inr other ↦ get_or-set_other starts k j from 0 other ∙ swept.done j (omega arith)
  ];
  rest = λ j above within. get_or-set_other starts k j from 0 (λ same. absurd (omega arith)) ∙ swept.rest j (omega arith) within;
  from_is = swept.from_is;
}

-- the start of the item behind, by the words of this one
next_from : (items : List Item) (marks : List Bool) (k from : ℕ) (item : Item) → slice_get items k ≡ Some item → from ≡ start items marks k
    → from + words_of item (mark_at marks k) ≡ start items marks (k + 1)
next_from items marks k from item item_at from_is =
    let next : start items marks (k + 1) ≡ start items marks k + words_at items marks k = start-next items marks k in
    let words : words_at items marks k ≡ words_of item (mark_at marks k) = words_at-item items marks k item item_at in
    omega arith

-- an item that is left as it was
step_kept : (items : List Item) (bytes : ℕ) → IsCode items bytes → (old marks : List Bool) (starts : List ℕ) (k from : ℕ) (any any' : Bool) (item : Item)
    → Swept items bytes old marks starts k from any → k < length items → slice_get items k ≡ Some item → (any' ≡ any)
    → (mark_at marks k ≡ false → FitsBy item bytes k from (set starts k from) → ⊥)
    → Swept items bytes old marks (set starts k from) (k + 1) (from + words_of item (mark_at marks k)) any'
step_kept items bytes code old marks starts k from any any' item swept at item_at as_before unfit =
    let stands : Stands items old marks (set starts k from) k from = stands_of items bytes old marks starts k from any swept at in
    record {
      table = stands.table;
      behind = λ j up. swept.behind j (omega arith);
      done = λ j below. stands.done j (omega arith);
      rest = λ j up within. stands.rest j (omega arith) within;
      from_is = next_from items marks k from item item_at swept.from_is;
      sound = swept.sound;
      same = λ off. swept.same (sym as_before ∙ off);
      none = λ off j below. elim (same_or_other j k) [
        | inl same ↦ (let P : ℕ → Type 0 = λ i. NoneAt items bytes old i in subst P (sym same) (here (sym as_before ∙ off)))
        | inr other ↦ swept.none (sym as_before ∙ off) j (omega arith)
      ];
      fewer = λ on. swept.fewer (sym as_before ∙ on);
    }
  where
    here : any ≡ false → NoneAt items bytes old k
    here off item' short has is_bare fits =
        let stands : Stands items old marks (set starts k from) k from = stands_of items bytes old marks starts k from any swept at in
        let both : Some item' ≡ Some item = sym has.item_at ∙ item_at in
        let one : item' ≡ item = cc in
        let P : List Bool → Type 0 = λ m. Fits items bytes (set m k true) k short in
        let Q : Item → Type 0 = λ i. FitsBy i bytes k from (set starts k from) in
        unfit (ap (λ (m : List Bool). mark_at m k) (swept.same off) ∙ is_bare)
        (subst Q one (by_fits items bytes code old marks (set starts k from) k from item' short stands has (subst P (sym (swept.same off)) fits)))

-- an item that is marked
step_marked : (items : List Item) (bytes : ℕ) → IsCode items bytes → (old marks : List Bool) (starts : List ℕ) (k from : ℕ) (any any' : Bool) (item : Item)
    → Swept items bytes old marks starts k from any → k < length items → slice_get items k ≡ Some item → any' ≡ true
    → mark_at marks k ≡ false → FitsBy item bytes k from (set starts k from)
    → Swept items bytes old (set marks k true) (set starts k from) (k + 1) (from + words_of item (mark_at (set marks k true) k)) any'
step_marked items bytes code old marks starts k from any any' item swept at item_at on is_bare by =
    let stands : Stands items old marks (set starts k from) k from = stands_of items bytes old marks starts k from any swept at in
    let (short, has, fits) = fits_by items bytes code old marks (set starts k from) k from item stands item_at by in
    let within : k < length marks = (let e = swept.sound.each in omega arith) in
    record {
      table = stands.table;
      behind = λ j up. mark_at-set_other marks k j (λ same. absurd (omega arith)) ∙ swept.behind j (omega arith);
      done = λ j below. stands.done j (omega arith) ∙ sym (start-set items marks k j (omega arith));
      rest = λ j up inside. stands.rest j (omega arith) inside;
      from_is = next_from items (set marks k true) k from item item_at (swept.from_is ∙ sym (start-set items marks k k (omega arith)));
      sound = sound-set items bytes code marks k item short has at is_bare swept.sound fits;
      same = λ off. absurd (cc (sym on ∙ off));
      none = λ off j below. absurd (cc (sym on ∙ off));
      fewer = λ yes. (let less : unmarked (set marks k true) (length items) < unmarked marks (length items) = unmarked-set marks k (length items) within at is_bare in fewer any refl less);
    }
  where
    fewer : (b : Bool) → any ≡ b → unmarked (set marks k true) (length items) < unmarked marks (length items) → unmarked (set marks k true) (length items) < unmarked old (length items)
    fewer true is less = let before : unmarked marks (length items) < unmarked old (length items) = swept.fewer is in omega arith
    fewer false is less = let before : unmarked marks (length items) ≡ unmarked old (length items) = ap (λ (m : List Bool). unmarked m (length items)) (swept.same is) in omega arith

-- what a sweep has seen, with one item more
pub step : (items : List Item) (bytes : ℕ) → IsCode items bytes → (old marks new : List Bool) (starts : List ℕ) (k from words : ℕ) (any marked : Bool) (item : Item)
    → Swept items bytes old marks starts k from any → k < length items → slice_get items k ≡ Some item
    → (marked ≡ true → IsMarked item bytes k from (set starts k from) marks new) → (marked ≡ false → IsKept item bytes k from (set starts k from) marks new)
    → words ≡ words_of item (mark_at new k)
    → Swept items bytes old new (set starts k from) (k + 1) (from + words) (any || marked)
step items bytes code old marks new starts k from words any true item swept at item_at is_marked is_kept words_is =
    let did : IsMarked item bytes k from (set starts k from) marks new = is_marked refl in
    let P : List Bool → Type 0 = λ m. Swept items bytes old m (set starts k from) (k + 1) (from + words_of item (mark_at m k)) (any || true) in
    let Q : ℕ → Type 0 = λ w. Swept items bytes old new (set starts k from) (k + 1) (from + w) (any || true) in
    subst Q (sym words_is) (subst P (sym did.set) (step_marked items bytes code old marks starts k from any (any || true) item swept at item_at (either any) did.unmarked did.fits))
  where
    either : (b : Bool) → (b || true) ≡ true
    either true = refl
    either false = refl
step items bytes code old marks new starts k from words any false item swept at item_at is_marked is_kept words_is =
    let did : IsKept item bytes k from (set starts k from) marks new = is_kept refl in
    let P : List Bool → Type 0 = λ m. Swept items bytes old m (set starts k from) (k + 1) (from + words_of item (mark_at m k)) (any || false) in
    let Q : ℕ → Type 0 = λ w. Swept items bytes old new (set starts k from) (k + 1) (from + w) (any || false) in
    subst Q (sym words_is) (subst P (sym did.same) (step_kept items bytes code old marks starts k from any (any || false) item swept at item_at (either any) did.unfit))
  where
    either : (b : Bool) → (b || false) ≡ b
    either true = refl
    either false = refl

-- where an item starts doesn't change when it is marked, or not
pub start_kept : (items : List Item) (bytes : ℕ) (marks new : List Bool) (starts : List ℕ) (k from : ℕ) (marked : Bool) (item : Item)
    → (marked ≡ true → IsMarked item bytes k from starts marks new) → (marked ≡ false → IsKept item bytes k from starts marks new)
    → start items new k ≡ start items marks k
start_kept items bytes marks new starts k from true item is_marked is_kept =
    ap (λ (m : List Bool). start items m k) (is_marked refl).set ∙ start-set items marks k k (omega arith)
start_kept items bytes marks new starts k from false item is_marked is_kept = ap (λ (m : List Bool). start items m k) (is_kept refl).same

-- a sweep that marked nothing leaves none
pub none_left : (items : List Item) (bytes : ℕ) (old marks : List Bool) (starts : List ℕ) (k from : ℕ) (any : Bool) → Swept items bytes old marks starts k from any → length items ≤ k → any ≡ false
    → LeavesNone items bytes marks
none_left items bytes old marks starts k from any swept all off j item short has is_bare fits =
    let within : j < length items = slice_get_within items j item has.item_at in
    let P : List Bool → Type 0 = λ m. Fits items bytes (set m j true) j short in
    swept.none off j (omega arith) item short has (ap (λ (m : List Bool). mark_at m j) (sym (swept.same off)) ∙ is_bare) (subst P (swept.same off) fits)

-- no marks are inside any
inside_any : (marks : List Bool) → Inside [] marks
inside_any marks k marked = absurd (cc marked)

-- the code is short enough, whatever is marked
pub start_fits : (items : List Item) (bytes : ℕ) → IsCode items bytes → (marks : List Bool) (k : ℕ) → k ≤ length items → start items marks k < 2 ^ 32
start_fits items bytes code marks k within =
    let words : start items [] (length items) < 2 ^ 32 = code.words in
    let up : start items marks k ≤ start items marks (length items) = start-le items marks k (length items) within in
    let less : start items marks (length items) + start items [] 0 ≤ start items [] (length items) + start items marks 0 = span-le items bytes code [] marks 0 (length items) (omega arith) (inside_any marks) in
    let one : start items [] 0 ≡ 0 = start-zero items [] in
    let two : start items marks 0 ≡ 0 = start-zero items marks in
    omega arith

-- the start of the item behind fits
pub next_fits : (items : List Item) (bytes : ℕ) → IsCode items bytes → (marks : List Bool) (k from words : ℕ) (item : Item) → slice_get items k ≡ Some item → from ≡ start items marks k
    → words ≡ words_of item (mark_at marks k) → from + words < 2 ^ 32
next_fits items bytes code marks k from words item item_at from_is words_is =
    let within : k < length items = slice_get_within items k item item_at in
    let next : from + words_of item (mark_at marks k) ≡ start items marks (k + 1) = next_from items marks k from item item_at from_is in
    let fits : start items marks (k + 1) < 2 ^ 32 = start_fits items bytes code marks (k + 1) (omega arith) in
    omega arith
