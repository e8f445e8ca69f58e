-- What the steps of a scan keep of the registers.
use Rattle.std.proofs.Common.{◌≡◌, ◌≢◌, ℕ, zero, suc, ◌+◌, ◌<◌, ◌≤◌, ◌⊎◌, inl, inr, List, [], ◌∷◌, ◌++◌, length, set, Some, sym, refl, ap, ◌∙◌, subst, arith}
use Rattle.std.specs.Prelude.{slice_get, insert}
use Rattle.std.specs.List.Sorted.{IsNonDecreasingBy}
use Rattle.std.proofs.lemmas.Option.{none-some}
use Rattle.std.proofs.lemmas.List.{length-set, get_or-set_same, get_or-set_other, length_push, get_or_default}
use Rattle.std.proofs.lemmas.List.Edits.{length-insert}
use Rattle.std.proofs.lemmas.List.Sorted.{IsNonDecreasingBy-insert}
use Rattle.std.proofs.lemmas.Bool.Decides.{eqb_tells}
use Rattle.vg_goal.specs.declared.place.Place.{Place}
use Rattle.vg_goal.specs.declared.place.Place.TheVariants.{Saved, Slot}
use Rattle.vg_goal.specs.Intervals.{Interval, interval_at, Cross}
use Rattle.vg_goal.proofs.Lists.{at_push, at_push_before, at_push_end, some_same}
use Rattle.vg_alloc.specs.declared.arrival.Arrival.{Arrival}
use Rattle.vg_alloc.specs.Allocation.{place_at}
use Rattle.vg_alloc.specs.Ends.{end_of}
use Rattle.vg_alloc.specs.Active.{Lacks, InsertsAt}
use Rattle.vg_alloc.specs.Scan.{IsAmong, HasArrived, Fits}

-- registers are one where their places are
pub same_register : (a b : ℕ) → Saved a ≡ Saved b → a ≡ b
same_register a b h = cc

-- a slot is no register
pub slot-saved : (a b : ℕ) → Slot a ≡ Saved b → ⊥
slot-saved a b h = cc

-- what stands in a list after a push, and where
at_end : {X : Type 0} (xs : List X) (y : X) (k : ℕ) (x : X) → slice_get (xs ++ y ∷ []) k ≡ Some x → (slice_get xs k ≡ Some x) ⊎ ((k ≡ length xs) × (x ≡ y))
at_end [] y zero x is = inr (refl, sym (some_same y x is))
at_end [] y (suc k) x is = absurd (none-some x is)
at_end (z ∷ zs) y zero x is = inl is
at_end (z ∷ zs) y (suc k) x is = elim (at_end zs y k x is) [
  | inl old ↦ inl old
  | inr new ↦ inr (ap suc new.0, new.1)
]

once_push : (xs : List ℕ) (r : ℕ) → ((j k q : ℕ) → slice_get xs j ≡ Some q → slice_get xs k ≡ Some q → j ≡ k) → (IsAmong xs r → ⊥) → (j k q : ℕ) → slice_get (xs ++ r ∷ []) j ≡ Some q → slice_get (xs ++ r ∷ []) k ≡ Some q → j ≡ k
once_push xs r once new j k q at_j at_k = elim (at_end xs r j q at_j) [
  | inl old_j ↦ elim (at_end xs r k q at_k) [
    | inl old_k ↦ once j k q old_j old_k
    | inr end_k ↦ absurd (new (j, old_j ∙ ap Some end_k.1))
  ]
  | inr end_j ↦ elim (at_end xs r k q at_k) [
    | inl old_k ↦ absurd (new (k, old_k ∙ ap Some end_j.1))
    | inr end_k ↦ end_j.0 ∙ sym end_k.0
  ]
]

-- what is among the values after one is put in
among_insert : (xs : List ℕ) (i y z : ℕ) → IsAmong (insert xs i y) z → IsAmong xs z ⊎ (z ≡ y)
among_insert xs zero y z (zero, is) = inr (sym (some_same y z is))
among_insert xs zero y z (suc k, is) = inl (k, is)
among_insert [] (suc i) y z (zero, is) = inr (sym (some_same y z is))
among_insert [] (suc i) y z (suc k, is) = absurd (none-some z is)
among_insert (x ∷ xs) (suc i) y z (zero, is) = inl (0, is)
among_insert (x ∷ xs) (suc i) y z (suc k, is) = elim (among_insert xs i y z (k, is)) [ inl among ↦ inl (suc among.0, among.1) | inr same ↦ inr same ]

among_insert_old : (xs : List ℕ) (i y z : ℕ) → IsAmong xs z → IsAmong (insert xs i y) z
among_insert_old xs zero y z (k, is) = (suc k, is)
among_insert_old [] (suc i) y z (k, is) = absurd (none-some z is)
among_insert_old (x ∷ xs) (suc i) y z (zero, is) = (0, is)
among_insert_old (x ∷ xs) (suc i) y z (suc k, is) = let found = among_insert_old xs i y z (k, is) in (suc found.0, found.1)

among_insert_new : (xs : List ℕ) (i y : ℕ) → IsAmong (insert xs i y) y
among_insert_new xs zero y = (0, refl)
among_insert_new [] (suc i) y = (0, refl)
among_insert_new (x ∷ xs) (suc i) y = let found = among_insert_new xs i y in (suc found.0, found.1)

-- a place that was written
placed_same : (places : List Place) (v : ℕ) (p : Place) → v < length places → place_at (set places v p) v ≡ p
placed_same places v p below = get_or-set_same places v p (Slot 0) below

placed_other : (places : List Place) (v u : ℕ) (p : Place) → u ≢ v → place_at (set places v p) u ≡ place_at places u
placed_other places v u p other = get_or-set_other places v u p (Slot 0) other

module _ (intervals : List Interval) (saved past now : ℕ) (seen : List Arrival) (places : List Place) (active free : List ℕ) (used : ℕ) (fits : Fits intervals saved past now seen places active free used) where
  -- time goes on
  pub Fits-later : (later : ℕ) → now ≤ later → Fits intervals saved past later seen places active free used
  Fits-later later on =
      let order = fits.order in
      record {
        lengths = fits.lengths;
        forms = fits.forms;
        few = fits.few;
        room = fits.room;
        order = omega arith;
        members = fits.members;
        sorted = fits.sorted;
        began = fits.began;
        held = λ v r is. elim (fits.held v r is) [
          | inl among ↦ inl among
          | inr over ↦ inr (omega arith)
        ];
        idle = λ r v among is. let was = fits.idle r v among is in (was.0, let over = was.1 in omega arith);
        below = fits.below;
        once = fits.once;
        apart = fits.apart;
      }

  -- no active value has ended
  pub Fits-now : ((v : ℕ) → IsAmong active v → now ≤ end_of intervals v) → Fits intervals saved now now seen places active free used
  Fits-now left =
      let order = fits.order in
      record {
        lengths = fits.lengths;
        forms = fits.forms;
        few = fits.few;
        room = fits.room;
        order = omega arith;
        members = λ v among.
            let was = fits.members v among in
            let begins = was.2 in
            (was.0, was.1, omega arith, left v among);
        sorted = fits.sorted;
        began = λ v r is. let was = fits.began v r is in (was.0, was.1, was.2, let begins = was.3 in omega arith);
        held = fits.held;
        idle = fits.idle;
        below = fits.below;
        once = fits.once;
        apart = fits.apart;
      }

  -- no two active values have one register
  alone : (u v r : ℕ) → u ≢ v → IsAmong active u → IsAmong active v → place_at places u ≡ Saved r → place_at places v ≡ Saved r → ⊥
  alone u v r other among_u among_v is_u is_v =
      let x = fits.members u among_u in
      let y = fits.members v among_v in
      let a = x.2 in
      let b = x.3 in
      let c = y.2 in
      let d = y.3 in
      fits.apart u v r other is_u is_v (omega arith, omega arith)

  -- the register of an active value isn't free
  busy : (v r : ℕ) → IsAmong active v → place_at places v ≡ Saved r → IsAmong free r → ⊥
  busy v r among is free_r = (fits.idle r v free_r is).0 among

  -- a value that has ended leaves, and its register is free
  pub Fits-expired : (v r : ℕ) (rest : List ℕ) → active ≡ v ∷ rest → Lacks rest v → IsNonDecreasingBy (end_of intervals) rest → place_at places v ≡ Saved r → end_of intervals v < now → Fits intervals saved past now seen places rest (free ++ r ∷ []) used
  Fits-expired v r rest is gone sorted here over =
      let first : IsAmong active v = (0, ap (λ (xs : List ℕ). slice_get xs 0) is) in
      let later : (u : ℕ) → IsAmong rest u → IsAmong active u = λ u among. (suc among.0, ap (λ (xs : List ℕ). slice_get xs (suc among.0)) is ∙ among.1) in
      let earlier : (u : ℕ) → u ≢ v → IsAmong active u → IsAmong rest u = λ u other among. in_rest u other (subst (λ (xs : List ℕ). IsAmong xs u) is among) in
      let room = fits.room in
      let shorter = ap (λ (xs : List ℕ). length xs) is in
      let longer = length_push free r in
      record {
        lengths = fits.lengths;
        forms = fits.forms;
        few = fits.few;
        room = omega arith;
        order = fits.order;
        members = λ u among. fits.members u (later u among);
        sorted = sorted;
        began = fits.began;
        held = λ u q holds_q. elim (eqb_tells u v) [
          | inl (_, same) ↦ inr (subst (λ (w : ℕ). end_of intervals w < now) (sym same) over)
          | inr (_, other) ↦ elim (fits.held u q holds_q) [ inl among ↦ inl (earlier u other among) | inr done ↦ inr done ]
        ];
        idle = λ q u among holds_q. elim (at_push free r among.0 q among.1) [
          | inl old ↦ let was = fits.idle q u (among.0, old) holds_q in (λ in_it. was.0 (later u in_it), was.1)
          | inr same ↦
              let mine : place_at places u ≡ Saved r = holds_q ∙ ap Saved same in
              elim (eqb_tells u v) [
                | inl (_, equal) ↦ (λ in_it. gone in_it.0 (in_it.1 ∙ ap Some equal), subst (λ (w : ℕ). end_of intervals w < now) (sym equal) over)
                | inr (_, other) ↦ elim (fits.held u r mine) [
                  | inl in_it ↦ absurd (alone u v r other in_it first mine here)
                  | inr done ↦ (λ in_it. alone u v r other (later u in_it) first mine here, done)
                ]
              ]
        ];
        below = λ q among. elim (at_push free r among.0 q among.1) [
          | inl old ↦ fits.below q (among.0, old)
          | inr same ↦ subst (λ (n : ℕ). n < used) (sym same) (fits.began v r here).1
        ];
        once = once_push free r fits.once (busy v r first here);
        apart = fits.apart;
      }
    where
      in_rest : (u : ℕ) → u ≢ v → IsAmong (v ∷ rest) u → IsAmong rest u
      in_rest u other (zero, at) = absurd (other (sym (some_same v u at)))
      in_rest u other (suc k, at) = (k, at)

-- The interval of an active value ends last, and it loses its register.
module _ (intervals : List Interval) (saved now : ℕ) (seen : List Arrival) (places : List Place) (active free : List ℕ) (used : ℕ) (fits : Fits intervals saved now now seen places active free used)
    (f r : ℕ) (rest : List ℕ) (is : active ≡ rest ++ f ∷ []) (gone : Lacks rest f) (sorted : IsNonDecreasingBy (end_of intervals) rest) (here : place_at places f ≡ Saved r) where
  abbrev evicted : List Place
  evicted = set places f (Slot (f + 2))

  last_in : IsAmong active f
  last_in = (length rest, ap (λ (xs : List ℕ). slice_get xs (length rest)) is ∙ at_push_end rest f)

  in_all : (u : ℕ) → IsAmong rest u → IsAmong active u
  in_all u among = (among.0, ap (λ (xs : List ℕ). slice_get xs among.0) is ∙ at_push_before rest f among.0 u among.1)

  in_rest : (u : ℕ) → u ≢ f → IsAmong active u → IsAmong rest u
  in_rest u other among = elim (at_push rest f among.0 u (ap (λ (xs : List ℕ). slice_get xs among.0) (sym is) ∙ among.1)) [
    | inl old ↦ (among.0, old)
    | inr same ↦ absurd (other same)
  ]

  within : f < length places
  within = let a = (fits.began f r here).0 in let b = fits.lengths in omega arith

  -- who holds a register then is another value, and held it before
  before : (u q : ℕ) → place_at evicted u ≡ Saved q → (u ≢ f) × (place_at places u ≡ Saved q)
  before u q holds_q = elim (eqb_tells u f) [
    | inl (_, same) ↦ absurd (slot-saved (f + 2) q (sym (ap (place_at evicted) same ∙ placed_same places f (Slot (f + 2)) within) ∙ holds_q))
    | inr (_, other) ↦ (other, sym (placed_other places f u (Slot (f + 2)) other) ∙ holds_q)
  ]

  -- the law
  pub Fits-evicted : Fits intervals saved now now seen evicted rest (free ++ r ∷ []) used
  Fits-evicted =
      let room = fits.room in
      let shorter = ap (λ (xs : List ℕ). length xs) is ∙ length_push rest f in
      let longer = length_push free r in
      record {
        lengths = length-set places f (Slot (f + 2)) ∙ fits.lengths;
        forms = λ u below. elim (eqb_tells u f) [
          | inl (_, same) ↦ inl (ap (place_at evicted) same ∙ placed_same places f (Slot (f + 2)) within ∙ ap (λ (n : ℕ). Slot (n + 2)) (sym same))
          | inr (_, other) ↦
              let stays = placed_other places f u (Slot (f + 2)) other in
              elim (fits.forms u below) [
                | inl slot ↦ inl (stays ∙ slot)
                | inr register ↦ inr (register.0, register.1, stays ∙ register.2)
              ]
        ];
        few = fits.few;
        room = omega arith;
        order = fits.order;
        members = λ u among.
            let was = fits.members u (in_all u among) in
            let other : u ≢ f = λ same. gone among.0 (among.1 ∙ ap Some same) in
            (was.0, (was.1.0, placed_other places f u (Slot (f + 2)) other ∙ was.1.1), was.2, was.3);
        sorted = sorted;
        began = λ u q holds_q. fits.began u q (before u q holds_q).1;
        held = λ u q holds_q.
            let old = before u q holds_q in
            elim (fits.held u q old.1) [ inl among ↦ inl (in_rest u old.0 among) | inr over ↦ inr over ];
        idle = λ q u among holds_q.
            let old = before u q holds_q in
            elim (at_push free r among.0 q among.1) [
              | inl there ↦ let was = fits.idle q u (among.0, there) old.1 in (λ in_it. was.0 (in_all u in_it), was.1)
              | inr same ↦
                  let mine : place_at places u ≡ Saved r = old.1 ∙ ap Saved same in
                  let alone_in : IsAmong active u → ⊥ = λ in_it. alone intervals saved now now seen places active free used fits u f r old.0 in_it last_in mine here in
                  elim (fits.held u r mine) [
                    | inl in_it ↦ absurd (alone_in in_it)
                    | inr done ↦ (λ in_it. alone_in (in_all u in_it), done)
                  ]
            ];
        below = λ q among. elim (at_push free r among.0 q among.1) [
          | inl old ↦ fits.below q (among.0, old)
          | inr same ↦ subst (λ (n : ℕ). n < used) (sym same) (fits.began f r here).1
        ];
        once = once_push free r fits.once (busy intervals saved now now seen places active free used fits f r last_in here);
        apart = λ u v q other is_u is_v. fits.apart u v q other (before u q is_u).1 (before v q is_v).1;
      }

-- A value arrives and gets a register that no value holds any more.
module _ (intervals : List Interval) (saved now : ℕ) (seen : List Arrival) (places : List Place) (active free : List ℕ) (used : ℕ) (fits : Fits intervals saved now now seen places active free used)
    (x : Arrival) (below : x.value < length intervals) (interval : interval_at intervals x.value ≡ (x.first, x.last)) (starts : x.first ≡ now) (nonempty : x.first ≤ x.last)
    (unplaced : place_at places x.value ≡ Slot (x.value + 2)) (r : ℕ) (free_then : List ℕ) (used_then : ℕ) (more : used ≤ used_then) (few : used_then ≤ saved) (register : r < used_then)
    (left : (u : ℕ) → place_at places u ≡ Saved r → end_of intervals u < now) (part : (q : ℕ) → IsAmong free_then q → IsAmong free q × (q ≢ r))
    (once : (j k q : ℕ) → slice_get free_then j ≡ Some q → slice_get free_then k ≡ Some q → j ≡ k) (room : length active + 1 + length free_then ≡ used_then) where
  abbrev kept : List Place
  kept = set places x.value (Saved r)

  within_places : x.value < length places
  within_places = let b = fits.lengths in omega arith

  -- who holds a register then is the new value, or held it before
  holder : (u q : ℕ) → place_at kept u ≡ Saved q → ((u ≡ x.value) × (q ≡ r)) ⊎ ((u ≢ x.value) × (place_at places u ≡ Saved q))
  holder u q holds_q = elim (eqb_tells u x.value) [
    | inl (_, same) ↦ inl (same, same_register q r (sym holds_q ∙ ap (place_at kept) same ∙ placed_same places x.value (Saved r) within_places))
    | inr (_, other) ↦ inr (other, sym (placed_other places x.value u (Saved r) other) ∙ holds_q)
  ]

  new_place : place_at kept x.value ≡ Saved r
  new_place = placed_same places x.value (Saved r) within_places

  -- the new value had no register
  not_before : (q : ℕ) → place_at places x.value ≡ Saved q → ⊥
  not_before q is = slot-saved (x.value + 2) q (sym unplaced ∙ is)

  begins : (interval_at intervals x.value).0 ≡ now
  begins = ap (λ (i : Interval). i.0) interval ∙ starts

  ends_later : now ≤ end_of intervals x.value
  ends_later = let a = ap (λ (i : Interval). i.1) interval in omega arith

  -- a value that held the register before crosses the new one nowhere
  no_cross : (u : ℕ) → place_at places u ≡ Saved r → Cross (interval_at intervals u) (interval_at intervals x.value) → ⊥
  no_cross u is cross =
      let over = left u is in
      let a = cross.1 in
      let b = begins in
      omega arith

  module _ (active_then : List ℕ) (inserts : InsertsAt (end_of intervals) x.value active active_then) where
    into : (u : ℕ) → IsAmong active_then u → IsAmong active u ⊎ (u ≡ x.value)
    into u among = among_insert active inserts.place x.value u (subst (λ (xs : List ℕ). IsAmong xs u) inserts.is among)

    old_in : (u : ℕ) → IsAmong active u → IsAmong active_then u
    old_in u among = subst (λ (xs : List ℕ). IsAmong xs u) (sym inserts.is) (among_insert_old active inserts.place x.value u among)

    new_in : IsAmong active_then x.value
    new_in = subst (λ (xs : List ℕ). IsAmong xs x.value) (sym inserts.is) (among_insert_new active inserts.place x.value)

    sorted_then : IsNonDecreasingBy (end_of intervals) active_then
    sorted_then =
        subst (IsNonDecreasingBy (end_of intervals)) (sym inserts.is) (
        IsNonDecreasingBy-insert (end_of intervals) active inserts.place x.value fits.sorted inserts.within
        (λ k d lower.
        let below_all : k < length active = let w = inserts.within in omega arith in
        subst (λ (u : ℕ). end_of intervals u ≤ end_of intervals x.value) (get_or_default active k 0 d below_all) (inserts.front k lower below_all))
        (λ k d upper within. subst (λ (u : ℕ). end_of intervals x.value ≤ end_of intervals u) (get_or_default active k 0 d within) (inserts.back k upper within))
        )

    arrived : (u : ℕ) → HasArrived seen u → HasArrived (seen ++ x ∷ []) u
    arrived u has = (has.0, has.1, at_push_before seen x has.0 has.1 has.2, has.3)

    -- the law
    pub Fits-kept : Fits intervals saved now now (seen ++ x ∷ []) kept active_then free_then used_then
    Fits-kept =
        let longer = ap (λ (xs : List ℕ). length xs) inserts.is ∙ length-insert active inserts.place x.value inserts.within in
        record {
          lengths = length-set places x.value (Saved r) ∙ fits.lengths;
          forms = λ u within. elim (eqb_tells u x.value) [
            | inl (_, same) ↦ inr (r, register, ap (place_at kept) same ∙ new_place)
            | inr (_, other) ↦
                let stays = placed_other places x.value u (Saved r) other in
                elim (fits.forms u within) [
                  | inl slot ↦ inl (stays ∙ slot)
                  | inr old ↦ inr (old.0, (let l = old.1 in omega arith), stays ∙ old.2)
                ]
          ];
          few = few;
          room = omega arith;
          order = fits.order;
          members = λ u among. elim (into u among) [
            | inl old ↦
                let was = fits.members u old in
                let other : u ≢ x.value = λ same. not_before was.1.0 (ap (place_at places) (sym same) ∙ was.1.1) in
                (was.0, (was.1.0, placed_other places x.value u (Saved r) other ∙ was.1.1), was.2, was.3)
            | inr same ↦
                subst (λ (w : ℕ). (w < length intervals) × ((q : ℕ) × (place_at kept w ≡ Saved q)) × ((interval_at intervals w).0 ≤ now) × (now ≤ end_of intervals w)) (sym same)
                (below, (r, new_place), (let b = begins in omega arith), ends_later)
          ];
          sorted = sorted_then;
          began = λ u q holds_q. elim (holder u q holds_q) [
            | inl new ↦
                subst (λ (w : ℕ). (w < length intervals) × (q < used_then) × HasArrived (seen ++ x ∷ []) w × ((interval_at intervals w).0 ≤ now)) (sym new.0)
                (below, subst (λ (n : ℕ). n < used_then) (sym new.1) register, (length seen, x, at_push_end seen x, refl), (let b = begins in omega arith))
            | inr old ↦
                let was = fits.began u q old.1 in
                (was.0, (let l = was.1 in omega arith), arrived u was.2, was.3)
          ];
          held = λ u q holds_q. elim (holder u q holds_q) [
            | inl new ↦ inl (subst (IsAmong active_then) (sym new.0) new_in)
            | inr old ↦ elim (fits.held u q old.1) [ inl among ↦ inl (old_in u among) | inr over ↦ inr over ]
          ];
          idle = λ q u among holds_q.
              let free_q = part q among in
              elim (holder u q holds_q) [
                | inl new ↦ absurd (free_q.1 new.1)
                | inr old ↦
                    let was = fits.idle q u free_q.0 old.1 in
                    (λ in_it. elim (into u in_it) [ inl among_u ↦ was.0 among_u | inr same ↦ old.0 same ], was.1)
              ];
          below = λ q among. let l = fits.below q (part q among).0 in omega arith;
          once = once;
          apart = λ u v q other is_u is_v cross. elim (holder u q is_u) [
            | inl new_u ↦ elim (holder v q is_v) [
              | inl new_v ↦ other (new_u.0 ∙ sym new_v.0)
              | inr old_v ↦ no_cross v (old_v.1 ∙ ap Saved new_u.1) (
                  let turned = subst (λ (w : ℕ). Cross (interval_at intervals w) (interval_at intervals v)) new_u.0 cross in (turned.1, turned.0)
                  )
            ]
            | inr old_u ↦ elim (holder v q is_v) [
              | inl new_v ↦ no_cross u (old_u.1 ∙ ap Saved new_v.1) (subst (λ (w : ℕ). Cross (interval_at intervals u) (interval_at intervals w)) new_v.0 cross)
              | inr old_v ↦ fits.apart u v q other old_u.1 old_v.1 cross
            ]
          ];
        }

-- a value arrives and gets no register
pub Fits-passed : (intervals : List Interval) (saved now : ℕ) (seen : List Arrival) (places : List Place) (active free : List ℕ) (used : ℕ) → Fits intervals saved now now seen places active free used
    → (x : Arrival) → Fits intervals saved now now (seen ++ x ∷ []) places active free used
Fits-passed intervals saved now seen places active free used fits x = record {
  lengths = fits.lengths;
  forms = fits.forms;
  few = fits.few;
  room = fits.room;
  order = fits.order;
  members = fits.members;
  sorted = fits.sorted;
  began = λ v r is. let was = fits.began v r is in (was.0, was.1, (was.2.0, was.2.1, at_push_before seen x was.2.0 was.2.1 was.2.2, was.2.3), was.3);
  held = fits.held;
  idle = fits.idle;
  below = fits.below;
  once = fits.once;
  apart = fits.apart;
}
