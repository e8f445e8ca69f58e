-- What the steps of a scan keep of the number of values with a register: no choice is better.
use Rattle.std.proofs.Common.{◌≡◌, ℕ, suc, ◌+◌, ◌<◌, ◌≤◌, ◌⊎◌, inl, inr, Bool, true, false, cond, ◌&&◌, List, [], ◌∷◌, ◌++◌, length, take, Some, sym, refl, ap, ◌∙◌, subst, arith, nat_lt, nat_le}
use Rattle.std.specs.Prelude.{slice_get, count_by}
use Rattle.std.specs.List.{sum_by}
use Rattle.std.proofs.lemmas.Option.{slice_get_within, get_or_from_slice_get}
use Rattle.std.proofs.lemmas.List.Sums.{sum_by-cons, sum_by_push, sum_by-insert, sum_by-take-le, count_by-le-length, get_or-le-sum_by}
use Rattle.std.proofs.lemmas.List.{length_push}
use Rattle.std.proofs.lemmas.List.Edits.{length-insert}
use Rattle.std.proofs.lemmas.Bool.{cases_lt, lt-ltb, le-ltb, le-leb}
use Rattle.vg_goal.specs.Intervals.{Interval, holds}
use Rattle.vg_goal.proofs.Lists.{at_push_before}
use Rattle.vg_alloc.specs.declared.arrival.Arrival.{Arrival}
use Rattle.vg_alloc.specs.Ends.{end_of}
use Rattle.vg_alloc.specs.Active.{InsertsAt}
use Rattle.vg_alloc.specs.Scan.{interval_of, IsAmong, IsFeasibleFor, ended_chosen, ended_active, IsBest}

-- one where the test holds
abbrev one_if : Bool → ℕ
one_if b = cond b 1 0

one_if-le : (b : Bool) → one_if b ≤ 1
one_if-le true = omega arith
one_if-le false = omega arith

-- a count of what passes two tests is no more than that of what passes one that both need
count_le : {X : Type 0} (p q : X → Bool) (xs : List X) → ((k : ℕ) (x : X) → slice_get xs k ≡ Some x → p x ≡ true → q x ≡ true) → count_by p xs ≤ count_by q xs
count_le p q [] implies = omega arith
count_le p q (x ∷ xs) implies =
    let rest = count_le p q xs (λ k y at. implies (suc k) y at) in
    let a = sum_by-cons (λ y. one_if (p y)) x xs in
    let b = sum_by-cons (λ y. one_if (q y)) x xs in
    let here : one_if (p x) ≤ one_if (q x) = by (p x) (q x) (implies 0 x refl) in
    omega arith
  where
    by : (s t : Bool) → (s ≡ true → t ≡ true) → one_if s ≤ one_if t
    by true t h = subst (λ b. 1 ≤ one_if b) (sym (h refl)) (omega arith)
    by false t h = omega arith

-- what passes p passes q or r
count_split : {X : Type 0} (p q r : X → Bool) (xs : List X) → ((k : ℕ) (x : X) → slice_get xs k ≡ Some x → p x ≡ true → (q x ≡ true) ⊎ (r x ≡ true)) → count_by p xs ≤ count_by q xs + count_by r xs
count_split p q r [] either = omega arith
count_split p q r (x ∷ xs) either =
    let rest = count_split p q r xs (λ k y at. either (suc k) y at) in
    let a = sum_by-cons (λ y. one_if (p y)) x xs in
    let b = sum_by-cons (λ y. one_if (q y)) x xs in
    let c = sum_by-cons (λ y. one_if (r y)) x xs in
    let here : one_if (p x) ≤ one_if (q x) + one_if (r x) = by (p x) (q x) (r x) (either 0 x refl) in
    omega arith
  where
    by : (s t u : Bool) → (s ≡ true → (t ≡ true) ⊎ (u ≡ true)) → one_if s ≤ one_if t + one_if u
    by true true u h = omega arith
    by true false true h = omega arith
    by true false false h = elim (h refl) [ inl e ↦ absurd (let no : false ≡ true = e in cc) | inr e ↦ absurd (let no : false ≡ true = e in cc) ]
    by false t u h = omega arith

-- all pass, or none does
count_all : {X : Type 0} (p : X → Bool) (xs : List X) → ((k : ℕ) (x : X) → slice_get xs k ≡ Some x → p x ≡ true) → count_by p xs ≡ length xs
count_all p [] each = refl
count_all p (x ∷ xs) each =
    let rest = count_all p xs (λ k y at. each (suc k) y at) in
    let a = sum_by-cons (λ y. one_if (p y)) x xs in
    let here : one_if (p x) ≡ 1 = ap one_if (each 0 x refl) in
    omega arith

count_none : {X : Type 0} (p : X → Bool) (xs : List X) → ((k : ℕ) (x : X) → slice_get xs k ≡ Some x → p x ≡ false) → count_by p xs ≡ 0
count_none p [] each = refl
count_none p (x ∷ xs) each =
    let rest = count_none p xs (λ k y at. each (suc k) y at) in
    let a = sum_by-cons (λ y. one_if (p y)) x xs in
    let here : one_if (p x) ≡ 0 = ap one_if (each 0 x refl) in
    omega arith

module _ (intervals : List Interval) (saved now : ℕ) (all seen : List Arrival) (registers : ℕ) (active : List ℕ) (best : IsBest intervals saved now all seen registers active) where
  -- time goes on
  pub IsBest-later : (later : ℕ) → now ≤ later → IsBest intervals saved later all seen registers active
  IsBest-later later on = record { best = λ chosen feasible place from. best.best chosen feasible place (omega arith) }

  -- a value that has ended leaves the active ones
  pub IsBest-expired : (v : ℕ) (rest : List ℕ) → active ≡ v ∷ rest → end_of intervals v < now → IsBest intervals saved now all seen registers rest
  IsBest-expired v rest is over = record {
    best = λ chosen feasible place from.
        let before = best.best chosen feasible place from in
        let shorter = ap (λ (xs : List ℕ). length xs) is in
        let counted : ended_active intervals place active ≡ one_if (nat_lt (end_of intervals v) place) + ended_active intervals place rest = ap (ended_active intervals place) is ∙ sum_by-cons (λ u. one_if (nat_lt (end_of intervals u) place)) v rest in
        let ended : one_if (nat_lt (end_of intervals v) place) ≡ 1 = ap one_if (lt-ltb (end_of intervals v) place (omega arith)) in
        omega arith;
  }

  -- a value gets a register where one is free
  pub IsBest-kept : (x : Arrival) (active_then : List ℕ) → end_of intervals x.value ≡ x.last → InsertsAt (end_of intervals) x.value active active_then → IsBest intervals saved now all (seen ++ x ∷ []) (registers + 1) active_then
  IsBest-kept x active_then ends inserts = record {
    best = λ chosen feasible place from.
        let before = best.best chosen feasible place from in
        let longer = ap (λ (xs : List ℕ). length xs) inserts.is ∙ length-insert active inserts.place x.value inserts.within in
        let counted : ended_active intervals place active_then ≡ ended_active intervals place active + one_if (nat_lt (end_of intervals x.value) place) = ap (ended_active intervals place) inserts.is ∙ sum_by-insert (λ u. one_if (nat_lt (end_of intervals u) place)) active inserts.place x.value in
        let arrived = sum_by_push (λ (a : Arrival). one_if (chosen a.value && nat_lt a.last place)) seen x in
        let less : one_if (chosen x.value && nat_lt x.last place) ≤ one_if (nat_lt (end_of intervals x.value) place) = subst (λ (e : ℕ). one_if (chosen x.value && nat_lt x.last place) ≤ one_if (nat_lt e place)) (sym ends) (and_le (chosen x.value) (nat_lt x.last place)) in
        omega arith;
  }
    where
      and_le : (a b : Bool) → one_if (a && b) ≤ one_if b
      and_le true b = omega arith
      and_le false true = omega arith
      and_le false false = omega arith

-- Where all registers are taken by values that hold the place at which a value arrives, no choice is ahead of them.
module _ (intervals : List Interval) (saved now : ℕ) (all seen : List Arrival) (registers : ℕ) (active : List ℕ) (best : IsBest intervals saved now all seen registers active)
    (x : Arrival) (starts : x.first ≡ now) (nonempty : x.first ≤ x.last) (full : saved ≤ length active) (left : (v : ℕ) → IsAmong active v → now ≤ end_of intervals v)
    (count : ℕ) (prefix : seen ++ x ∷ [] ≡ take count all) (begun : (k : ℕ) (a : Arrival) → slice_get (seen ++ x ∷ []) k ≡ Some a → a.first ≤ now) where
  no_choice_ahead : (chosen : ℕ → Bool) → IsFeasibleFor all saved chosen → (place : ℕ) → ended_chosen chosen place (seen ++ x ∷ []) ≤ registers
  no_choice_ahead chosen feasible place =
      let before = best.best chosen feasible now (omega arith) in
      let none : ended_active intervals now active ≡ 0 = count_none (λ v. nat_lt (end_of intervals v) now) active (λ k v at. le-ltb (end_of intervals v) now (left v (k, at))) in
      let split = count_split (λ (a : Arrival). chosen a.value && nat_lt a.last place) (λ a. chosen a.value && nat_lt a.last now) (λ a. chosen a.value && holds now (interval_of a)) (seen ++ x ∷ []) (λ k a at test. ends_or_holds a (begun k a at) (chosen a.value) (nat_lt a.last place) test) in
      let arrived = sum_by_push (λ (a : Arrival). one_if (chosen a.value && nat_lt a.last now)) seen x in
      let lasts : one_if (chosen x.value && nat_lt x.last now) ≡ 0 = ap (λ (b : Bool). one_if (chosen x.value && b)) (le-ltb x.last now (omega arith)) ∙ off (chosen x.value) in
      let held : count_by (λ (a : Arrival). chosen a.value && holds now (interval_of a)) (seen ++ x ∷ []) ≤ count_by (λ (a : Arrival). chosen a.value && holds now (interval_of a)) all =
      subst (λ (xs : List Arrival). count_by (λ (a : Arrival). chosen a.value && holds now (interval_of a)) xs ≤ count_by (λ (a : Arrival). chosen a.value && holds now (interval_of a)) all) (sym prefix)
      (sum_by-take-le (λ (a : Arrival). one_if (chosen a.value && holds now (interval_of a))) all count) in
      let bound = feasible now in
      omega arith
    where
      off : (b : Bool) → one_if (b && false) ≡ 0
      off true = refl
      off false = refl

      ends_or_holds : (a : Arrival) → a.first ≤ now → (c e : Bool) → (c && e) ≡ true → ((c && nat_lt a.last now) ≡ true) ⊎ ((c && holds now (interval_of a)) ≡ true)
      ends_or_holds a first false e test = absurd (let no : false ≡ true = test in cc)
      ends_or_holds a first true e test = elim (cases_lt a.last now) [
        | inl over ↦ inl (lt-ltb a.last now over)
        | inr holding ↦ inr (ap (λ (b : Bool). b && nat_le now a.last) (le-leb a.first now first) ∙ le-leb now a.last holding)
      ]

  -- the new value ends last, and gets no register
  pub IsBest-passed : ((v : ℕ) → IsAmong active v → end_of intervals v ≤ x.last) → IsBest intervals saved now all (seen ++ x ∷ []) registers active
  IsBest-passed last = record {
    best = λ chosen feasible place from. elim (cases_lt x.last place) [
      | inl over ↦
          let every : ended_active intervals place active ≡ length active = count_all (λ v. nat_lt (end_of intervals v) place) active (λ k v at. lt-ltb (end_of intervals v) place (let l = last v (k, at) in omega arith)) in
          let ahead = no_choice_ahead chosen feasible place in
          omega arith
      | inr holding ↦
          let before = best.best chosen feasible place from in
          let arrived = sum_by_push (λ (a : Arrival). one_if (chosen a.value && nat_lt a.last place)) seen x in
          let none : one_if (chosen x.value && nat_lt x.last place) ≡ 0 = ap (λ (b : Bool). one_if (chosen x.value && b)) (le-ltb x.last place holding) ∙ off (chosen x.value) in
          omega arith
    ];
  }
    where
      off : (b : Bool) → one_if (b && false) ≡ 0
      off true = refl
      off false = refl

  -- an active value ends last, and the new value gets its register
  pub IsBest-replaced : (f : ℕ) (rest active_then : List ℕ) → active ≡ rest ++ f ∷ [] → ((v : ℕ) → IsAmong active v → end_of intervals v ≤ end_of intervals f) → x.last < end_of intervals f → end_of intervals x.value ≡ x.last
      → InsertsAt (end_of intervals) x.value rest active_then → IsBest intervals saved now all (seen ++ x ∷ []) registers active_then
  IsBest-replaced f rest active_then is last sooner ends inserts = record {
    best = λ chosen feasible place from.
        let longer = ap (λ (xs : List ℕ). length xs) inserts.is ∙ length-insert rest inserts.place x.value inserts.within in
        let old = ap (λ (xs : List ℕ). length xs) is ∙ length_push rest f in
        let counted : ended_active intervals place active_then ≡ ended_active intervals place rest + one_if (nat_lt (end_of intervals x.value) place) = ap (ended_active intervals place) inserts.is ∙ sum_by-insert (λ u. one_if (nat_lt (end_of intervals u) place)) rest inserts.place x.value in
        let parts : ended_active intervals place active ≡ ended_active intervals place rest + one_if (nat_lt (end_of intervals f) place) = ap (ended_active intervals place) is ∙ sum_by_push (λ u. one_if (nat_lt (end_of intervals u) place)) rest f in
        elim (cases_lt (end_of intervals f) place) [
          | inl over ↦
              let every : ended_active intervals place rest ≡ length rest = count_all (λ v. nat_lt (end_of intervals v) place) rest (λ k v at. lt-ltb (end_of intervals v) place (
              let l = last v (k, ap (λ (xs : List ℕ). slice_get xs k) is ∙ at_push_before rest f k v at) in omega arith
              )) in
              let one : one_if (nat_lt (end_of intervals x.value) place) ≡ 1 = ap one_if (lt-ltb (end_of intervals x.value) place (omega arith)) in
              let ahead = no_choice_ahead chosen feasible place in
              omega arith
          | inr holding ↦
              let before = best.best chosen feasible place from in
              let none : one_if (nat_lt (end_of intervals f) place) ≡ 0 = ap one_if (le-ltb (end_of intervals f) place holding) in
              let arrived = sum_by_push (λ (a : Arrival). one_if (chosen a.value && nat_lt a.last place)) seen x in
              let less : one_if (chosen x.value && nat_lt x.last place) ≤ one_if (nat_lt (end_of intervals x.value) place) = subst (λ (e : ℕ). one_if (chosen x.value && nat_lt x.last place) ≤ one_if (nat_lt e place)) (sym ends) (and_le (chosen x.value) (nat_lt x.last place)) in
              omega arith
        ];
  }
    where
      and_le : (a b : Bool) → one_if (a && b) ≤ one_if b
      and_le true b = omega arith
      and_le false true = omega arith
      and_le false false = omega arith

-- at the end no choice has more members than there are values with a register
pub chosen-le : (intervals : List Interval) (saved now : ℕ) (all : List Arrival) (registers : ℕ) (active : List ℕ) → IsBest intervals saved now all all registers active
    → (chosen : ℕ → Bool) → IsFeasibleFor all saved chosen → count_by (λ (a : Arrival). chosen a.value) all ≤ registers
chosen-le intervals saved now all registers active best chosen feasible =
    let place = now + 1 + sum_by (λ (a : Arrival). a.last) all in
    let before = best.best chosen feasible place (omega arith) in
    let most = count_by-le-length (λ v. nat_lt (end_of intervals v) place) active in
    let every : count_by (λ (a : Arrival). chosen a.value) all ≤ ended_chosen chosen place all = count_le (λ (a : Arrival). chosen a.value) (λ a. chosen a.value && nat_lt a.last place) all (λ k a at test.
    let below = slice_get_within all k a at in
    let read = get_or_from_slice_get all k a a at in
    let part = get_or-le-sum_by (λ (b : Arrival). b.last) all k a below in
    let same = ap (λ (b : Arrival). b.last) read in
    let ended : nat_lt a.last place ≡ true = lt-ltb a.last place (omega arith) in
    ap (λ (b : Bool). b && nat_lt a.last place) test ∙ ended) in
    omega arith
