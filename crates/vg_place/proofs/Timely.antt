-- What the recurrence of time says.
use Rattle.std.proofs.Common.{◌≡◌, ℕ, zero, suc, ◌+◌, ◌<◌, ◌≤◌, max, Bool, true, false, nat_eq, List, [], ◌∷◌, map, slice_get, Some, ◌⊎◌, inl, inr, refl, sym, ap, subst, ◌∙◌, if◌then◌else◌, arith}
use Rattle.std.proofs.lemmas.Bool.Decides.{nat_tests}
use Rattle.std.proofs.lemmas.Bool.{cases_lt}
use Rattle.std.proofs.lemmas.Option.{same_Some}
use Rattle.std.proofs.Math.Nat.{le-max_left, le-max_right, max-eq_left, max-eq_right}
use Rattle.vg_isa.specs.declared.isa.Parts.{Parts}
use Rattle.vg_isa.specs.declared.abi.Micro.{Micro}
use Rattle.vg_place.specs.declared.stage_table.Stages.{Stages}
use Rattle.vg_place.specs.Time.{Executed, Gives, Passes, Place, Skips, TimedRow, Touch, all_had, entry_cycle, fetched_after, free_after, had, had_behind, row_of, timed_rows}
use Rattle.vg_place.specs.Terms.{IsGreatest, IsKnown, IsTerm, KeepsOrder, NoneWrites}

-- ---- the terms of a location

gives_once : {v w : ℕ} → Gives v ≡ Gives w → v ≡ w
gives_once e = cc

skips_once : {v w : ℕ} → Skips v ≡ Skips w → v ≡ w
skips_once e = cc

passes_gives : {v : ℕ} → Passes ≡ Gives v → ⊥
passes_gives e = cc

passes_skips : {v : ℕ} → Passes ≡ Skips v → ⊥
passes_skips e = cc

gives_skips : {v w : ℕ} → Gives v ≡ Skips w → ⊥
gives_skips e = cc

skips_gives : {v w : ℕ} → Skips v ≡ Gives w → ⊥
skips_gives e = cc

either : (a b : ℕ) → (max a b ≡ a) ⊎ (max a b ≡ b)
either a b = elim (cases_lt a b) [ inl less ↦ (let le : a ≤ b = omega arith in inr (max-eq_right le)) | inr more ↦ inl (max-eq_left more) ]

nothing : (l : Place) (u : ℕ) → IsTerm l [] u → ⊥
nothing l u t = go t.place t.stands
  where
    go : (k : ℕ) → slice_get {X = TimedRow Place} [] k ≡ Some t.row → ⊥
    go k e = cc

-- a term of the older rows, where the youngest doesn't write the location
older_term : (l : Place) (row : TimedRow Place) (rows : List (TimedRow Place)) (u : ℕ) → ((v : ℕ) → row.0.touches l ≡ Gives v → ⊥) → IsTerm l rows u → IsTerm l (row ∷ rows) u
older_term l row rows u none t = record { place = suc t.place; row = t.row; stands = t.stands; youngest = young; known = t.known }
  where
    young : NoneWrites l (row ∷ rows) (suc t.place)
    young zero r v below at gives = none v (ap (λ (x : TimedRow Place). x.0.touches l) (same_Some row r at) ∙ gives)
    young (suc m) r v below at gives = t.youngest m r v (omega arith) at gives

-- a term is one of the youngest row, or of those behind it where that doesn't write the location
abbrev Splits : Place → TimedRow Place → List (TimedRow Place) → ℕ → Type 0
Splits l row rows u = IsKnown l row u ⊎ (((v : ℕ) → row.0.touches l ≡ Gives v → ⊥) × IsTerm l rows u)

split : (l : Place) (row : TimedRow Place) (rows : List (TimedRow Place)) (u : ℕ) → IsTerm l (row ∷ rows) u → Splits l row rows u
split l row rows u t = go t.place t.row t.stands t.youngest t.known
  where
    go : (k : ℕ) (r : TimedRow Place) → slice_get (row ∷ rows) k ≡ Some r → NoneWrites l (row ∷ rows) k → IsKnown l r u → Splits l row rows u
    go zero r at young known = inl (subst (λ (x : TimedRow Place). IsKnown l x u) (sym (same_Some row r at)) known)
    go (suc k) r at young known =
        inr (
          (λ v gives. young 0 row v (omega arith) refl gives),
          record { place = k; row = r; stands = at; youngest = λ m x v below here gives. young (suc m) x v (omega arith) here gives; known = known },
        )

front : (l : Place) (row : TimedRow Place) (rows : List (TimedRow Place)) (u : ℕ) → IsKnown l row u → IsTerm l (row ∷ rows) u
front l row rows u known = record { place = 0; row = row; stands = refl; youngest = λ m r v below at gives. absurd (omega arith); known = known }

-- the time of a location is the greatest of its terms
pub had_greatest : (l : Place) (rows : List (TimedRow Place)) → IsGreatest l rows (had l rows)
had_greatest l [] = record { bound = λ u t. absurd (nothing l u t); met = inl refl }
had_greatest l (row ∷ rows) = go (row.0.touches l) refl (had_greatest l rows)
  where
    go : (touch : Touch) → row.0.touches l ≡ touch → IsGreatest l rows (had l rows) → IsGreatest l (row ∷ rows) (had_behind touch row.1 (had l rows))
    go Passes e rest =
        let none : (v : ℕ) → row.0.touches l ≡ Gives v → ⊥ = λ v gives. passes_gives (sym e ∙ gives) in
        record {
          bound = λ u t. elim (split l row rows u t) [
            | inl known ↦ elim known [ inl w ↦ absurd (passes_gives (sym e ∙ w.1)) | inr w ↦ absurd (passes_skips (sym e ∙ w.1)) ]
            | inr older ↦ rest.bound u older.1
          ];
          met = elim rest.met [ inl z ↦ inl z | inr t ↦ inr (older_term l row rows (had l rows) none t) ];
        }
    go (Gives v) e rest = record {
      bound = λ u t. elim (split l row rows u t) [
        | inl known ↦ elim known [
          | inl w ↦ (let same : w.0 ≡ v = gives_once (sym w.1 ∙ e) in let is : u ≡ row.1 v = w.2 ∙ ap row.1 same in omega arith)
          | inr w ↦ absurd (gives_skips (sym e ∙ w.1))
        ]
        | inr older ↦ absurd (older.0 v e)
      ];
      met = inr (front l row rows (row.1 v) (inl (v, e, refl)));
    }
    go (Skips g) e rest =
        let none : (v : ℕ) → row.0.touches l ≡ Gives v → ⊥ = λ v gives. skips_gives (sym e ∙ gives) in
        record {
          bound = λ u t. elim (split l row rows u t) [
            | inl known ↦ elim known [
              | inl w ↦ absurd (skips_gives (sym e ∙ w.1))
              | inr w ↦ (let same : w.0 ≡ g = skips_once (sym w.1 ∙ e) in let is : u ≡ row.1 g = w.2 ∙ ap row.1 same in omega arith)
            ]
            | inr older ↦ (let below : u ≤ had l rows = rest.bound u older.1 in omega arith)
          ];
          met = larger (row.1 g) (had l rows) rest.met (front l row rows (row.1 g) (inr (g, e, refl))) none;
        }
      where
        larger : (a b : ℕ) → (b ≡ 0) ⊎ IsTerm l rows b → IsTerm l (row ∷ rows) a → ((v : ℕ) → row.0.touches l ≡ Gives v → ⊥) → (max a b ≡ 0) ⊎ IsTerm l (row ∷ rows) (max a b)
        larger a b met first none = pick (either a b)
          where
            pick : (max a b ≡ a) ⊎ (max a b ≡ b) → (max a b ≡ 0) ⊎ IsTerm l (row ∷ rows) (max a b)
            pick (inl is) = inr (subst (λ (n : ℕ). IsTerm l (row ∷ rows) n) (sym is) first)
            pick (inr is) = elim met [
              | inl none_there ↦ inl (is ∙ none_there)
              | inr t ↦ inr (subst (λ (n : ℕ). IsTerm l (row ∷ rows) n) (sym is) (older_term l row rows b none t))
            ]

-- ---- the order of cycles

unequal : (m n : ℕ) → (m ≡ n → ⊥) → nat_eq m n ≡ false
unequal m n h = go (nat_eq m n) refl
  where
    go : (b : Bool) → nat_eq m n ≡ b → nat_eq m n ≡ false
    go false e = e
    go true e = absurd (h (grind (arith, nat_tests)))

equal : (m n : ℕ) → m ≡ n → nat_eq m n ≡ true
equal m n h = grind (arith, nat_tests)

module _ (d : Parts) (micro : Micro) (s : Stages) where
  abbrev rows : List Executed → List (TimedRow Place)
  rows earlier = timed_rows s.count s.resolve (map (row_of d micro s) earlier)

  abbrev cycle : List Executed → ℕ → ℕ
  cycle earlier stage = entry_cycle d micro s earlier stage

  stage_behind : (e : Executed) (earlier : List Executed) (stage : ℕ) → cycle (e ∷ earlier) stage + 1 ≤ cycle (e ∷ earlier) (suc stage)
  stage_behind e earlier stage =
      le-max_left (cycle (e ∷ earlier) stage + 1) (max (free_after s.count (suc stage) (rows earlier)) (all_had ((row_of d micro s e).reads (suc stage)) (rows earlier)))

  -- the slot of a stage is free
  slot_free : (e f : Executed) (earlier : List Executed) (stage : ℕ) → free_after s.count (suc stage) (rows (f ∷ earlier)) ≤ cycle (e ∷ f ∷ earlier) (suc stage)
  slot_free e f earlier stage =
      let free : ℕ = free_after s.count (suc stage) (rows (f ∷ earlier)) in
      let here : ℕ = all_had ((row_of d micro s e).reads (suc stage)) (rows (f ∷ earlier)) in
      let inner : free ≤ max free here = le-max_left free here in
      let outer : max free here ≤ max (cycle (e ∷ f ∷ earlier) stage + 1) (max free here) = le-max_right (cycle (e ∷ f ∷ earlier) stage + 1) (max free here) in
      omega (arith, inner, outer)

  -- it is fetched late enough
  fetch_free : (e f : Executed) (earlier : List Executed) → fetched_after s.count s.resolve (rows (f ∷ earlier)) ≤ cycle (e ∷ f ∷ earlier) 0
  fetch_free e f earlier = le-max_left (fetched_after s.count s.resolve (rows (f ∷ earlier))) (all_had ((row_of d micro s e).reads 0) (rows (f ∷ earlier)))

  abbrev decided : Executed → List Executed → ℕ
  decided f earlier = if f.right then 0 else cycle (f ∷ earlier) s.resolve + 1

  abbrev left : Bool → Executed → List Executed → ℕ
  left one f earlier = if one then cycle (f ∷ earlier) 0 + 1 else cycle (f ∷ earlier) 1

  fetch_left : (e f : Executed) (earlier : List Executed) (b : Bool) → nat_eq s.count 1 ≡ b → left b f earlier ≤ cycle (e ∷ f ∷ earlier) 0
  fetch_left e f earlier b is =
      let after : max (decided f earlier) (left (nat_eq s.count 1) f earlier) ≤ cycle (e ∷ f ∷ earlier) 0 = fetch_free e f earlier in
      let one : left (nat_eq s.count 1) f earlier ≤ max (decided f earlier) (left (nat_eq s.count 1) f earlier) = le-max_right (decided f earlier) (left (nat_eq s.count 1) f earlier) in
      let both : left (nat_eq s.count 1) f earlier ≤ cycle (e ∷ f ∷ earlier) 0 = omega (arith, after, one) in
      subst (λ (x : Bool). left x f earlier ≤ cycle (e ∷ f ∷ earlier) 0) is both

  abbrev gone : Bool → Executed → List Executed → ℕ → ℕ
  gone at_end f earlier stage = if at_end then cycle (f ∷ earlier) (suc stage) + 1 else cycle (f ∷ earlier) (suc stage + 1)

  slot_left : (e f : Executed) (earlier : List Executed) (stage : ℕ) (b : Bool) → nat_eq (suc stage + 1) s.count ≡ b → gone b f earlier stage ≤ cycle (e ∷ f ∷ earlier) (suc stage)
  slot_left e f earlier stage b is = subst (λ (x : Bool). gone x f earlier stage ≤ cycle (e ∷ f ∷ earlier) (suc stage)) is (slot_free e f earlier stage)

  apart : (e f : Executed) (earlier : List Executed) (stage : ℕ) → suc stage < s.count → cycle (f ∷ earlier) (suc stage) ≤ cycle (e ∷ f ∷ earlier) stage
  apart e f earlier zero within = fetch_left e f earlier false (unequal s.count 1 (λ is. absurd (omega (arith, within, is))))
  apart e f earlier (suc stage) within =
      let more : suc stage + 1 ≡ suc (suc stage) = omega arith in
      subst (λ (n : ℕ). cycle (f ∷ earlier) n ≤ cycle (e ∷ f ∷ earlier) (suc stage)) more
      (slot_left e f earlier stage false (unequal (suc stage + 1) s.count (λ is. absurd (omega (arith, within, is)))))

  last : (e f : Executed) (earlier : List Executed) (stage : ℕ) → suc stage ≡ s.count → cycle (f ∷ earlier) stage + 1 ≤ cycle (e ∷ f ∷ earlier) stage
  last e f earlier zero at_end = fetch_left e f earlier true (equal s.count 1 (sym at_end))
  last e f earlier (suc stage) at_end =
      let more : suc stage + 1 ≡ s.count = omega (arith, at_end) in
      slot_left e f earlier stage true (equal (suc stage + 1) s.count more)

  wrong : (e f : Executed) (earlier : List Executed) → f.right ≡ false → cycle (f ∷ earlier) s.resolve + 1 ≤ cycle (e ∷ f ∷ earlier) 0
  wrong e f earlier is =
      let after : max (decided f earlier) (left (nat_eq s.count 1) f earlier) ≤ cycle (e ∷ f ∷ earlier) 0 = fetch_free e f earlier in
      let one : decided f earlier ≤ max (decided f earlier) (left (nat_eq s.count 1) f earlier) = le-max_left (decided f earlier) (left (nat_eq s.count 1) f earlier) in
      let both : decided f earlier ≤ cycle (e ∷ f ∷ earlier) 0 = omega (arith, after, one) in
      subst (λ (x : Bool). (if x then 0 else cycle (f ∷ earlier) s.resolve + 1) ≤ cycle (e ∷ f ∷ earlier) 0) is both

  pub keeps_order : KeepsOrder d micro s
  keeps_order = record { stages = stage_behind; apart = apart; last = last; wrong = wrong }
