-- The late part that is told of a description is the first one, and there is none where every part is in time.
use Rattle.std.proofs.Common.{◌≡◌, ◌≢◌, ℕ, zero, suc, ◌+◌, ◌<◌, ◌≤◌, Bool, true, false, nat_lt, nat_eq, ◌⊎◌, inl, inr, slice_get, subst, refl, ap, sym, ◌∙◌, List, [], ◌∷◌, Option, Some, None, length, get_or, drop, drop-cons, arith}
use Rattle.std.proofs.lemmas.Bool.Decides.{nat_tests}
use Rattle.vg_isa.specs.declared.instr.Instr.{Instr}
use Rattle.vg_place.specs.declared.stage_table.Stages.{Stages}
use Rattle.vg_place.specs.declared.late.Late.{Late}
use Rattle.vg_place.specs.declared.late.Found.{Found}
use Rattle.vg_place.specs.Unplaced.{Part, parts_of, late_in, first_of, first_from, first_late, Stands, IsInTime, IsFirst}
use Rattle.vg_place.proofs.Lateness.{AtMost, LeastOf, least_told}

-- what was found stands earlier in the text than a late part of the instruction of this number, or at the same place in no later instruction
abbrev Ahead : Found → ℕ → ℕ → Type 0
Ahead f k at = (f.late.at < at) ⊎ ((f.late.at ≡ at) × (f.instr ≤ k))

abbrev FirstOf : Stages → ℕ → List Instr → Option Found → Option Found → Type 0
FirstOf s k instrs best None = (best ≡ None) × ((j : ℕ) (other : Instr) → slice_get instrs j ≡ Some other → late_in s other ≡ None)
FirstOf s k instrs best (Some f) =
    ((best ≡ Some f) ⊎ ((j : ℕ) × (other : Instr) × (slice_get instrs j ≡ Some other) × (f.instr ≡ k + j) × (late_in s other ≡ Some f.late)))
    × ((b : Found) → best ≡ Some b → Ahead f b.instr b.late.at)
    × ((j : ℕ) (other : Instr) (l : Late) → slice_get instrs j ≡ Some other → late_in s other ≡ Some l → Ahead f (k + j) l.at)

ahead_next : (f g : Found) (k at : ℕ) → Ahead f g.instr g.late.at → Ahead g k at → Ahead f k at
ahead_next f g k at (inl a) (inl b) = inl (omega arith)
ahead_next f g k at (inl a) (inr b) = inl (let e : g.late.at ≡ at = b.0 in omega arith)
ahead_next f g k at (inr a) (inl b) = inl (let e : f.late.at ≡ g.late.at = a.0 in omega arith)
ahead_next f g k at (inr a) (inr b) = inr (a.0 ∙ b.0, let e : f.instr ≤ g.instr = a.1 in let h : g.instr ≤ k = b.1 in omega arith)

-- the next instruction's late part is found only where it stands earlier than what was found before
first_of_is : (best : Option Found) (k : ℕ) (l : Late) → ((b : Found) → best ≡ Some b → b.instr < k)
    → (m : Found) × (first_of best k (Some l) ≡ Some m) × (((m.instr ≡ k) × (m.late ≡ l)) ⊎ (best ≡ Some m)) × Ahead m k l.at × ((b : Found) → best ≡ Some b → Ahead m b.instr b.late.at)
first_of_is None k l h = (record { instr = k; late = l }, refl, inl (refl, refl), inr (refl, omega arith), λ b e. absurd (cc))
first_of_is (Some b) k l h = go (nat_lt l.at b.late.at) refl
  where
    go : (x : Bool) → nat_lt l.at b.late.at ≡ x
        → (m : Found) × (first_of (Some b) k (Some l) ≡ Some m) × (((m.instr ≡ k) × (m.late ≡ l)) ⊎ (Some b ≡ Some m)) × Ahead m k l.at × ((c : Found) → Some b ≡ Some c → Ahead m c.instr c.late.at)
    go true e = (
      record { instr = k; late = l },
      rw e refl,
      inl (refl, refl),
      inr (refl, omega arith),
      λ c f. inl (let s : b ≡ c = cc in let p : b.late.at ≡ c.late.at = ap (λ (z : Found). z.late.at) s in let lt : l.at < b.late.at = grind (arith, nat_tests) in omega arith),
    )
    go false e =
        let before : b.instr < k = h b refl in
        let ge : b.late.at ≤ l.at = grind (arith, nat_tests) in (
          b,
          rw e refl,
          inr refl,
          ahead (nat_eq b.late.at l.at) refl before ge,
          λ c f. (let s : b ≡ c = cc in inr (ap (λ (z : Found). z.late.at) s, let p : b.instr ≡ c.instr = ap (λ (z : Found). z.instr) s in omega arith)),
        )
      where
        ahead : (y : Bool) → nat_eq b.late.at l.at ≡ y → b.instr < k → b.late.at ≤ l.at → Ahead b k l.at
        ahead true f lt le = inr (grind (arith, nat_tests), omega arith)
        ahead false f lt le = inl (let n : b.late.at ≢ l.at = grind (arith, nat_tests) in omega arith)

shifted : (f : Found) (k j at : ℕ) → Ahead f (k + 1 + j) at → Ahead f (k + suc j) at
shifted f k j at (inl a) = inl a
shifted f k j at (inr a) = inr (a.0, let h : f.instr ≤ k + 1 + j = a.1 in omega arith)

pub first_told : (s : Stages) (k : ℕ) (instrs : List Instr) (best : Option Found) → ((b : Found) → best ≡ Some b → b.instr < k) → FirstOf s k instrs best (first_from s k instrs best)
first_told s k [] None h = (refl, λ j other e. absurd (cc))
first_told s k [] (Some f) h = (inl refl, λ b e. (let same : f ≡ b = cc in inr (ap (λ (z : Found). z.late.at) same, let p : f.instr ≡ b.instr = ap (λ (z : Found). z.instr) same in omega arith)), λ j other l e g. absurd (cc))
first_told s k (instr ∷ instrs) best h = go (late_in s instr) refl (λ b g. first_told s (k + 1) instrs b g)
  where
    Rest : Option Found → Type 0
    Rest b = FirstOf s (k + 1) instrs b (first_from s (k + 1) instrs b)

    none : (r : Option Found) → late_in s instr ≡ None → FirstOf s (k + 1) instrs best r → FirstOf s k (instr ∷ instrs) best r
    none None e f = (f.0, here)
      where
        here : (j : ℕ) (other : Instr) → slice_get (instr ∷ instrs) j ≡ Some other → late_in s other ≡ None
        here zero other g = let same : instr ≡ other = cc in ap (late_in s) (sym same) ∙ e
        here (suc j) other g = f.1 j other g
    none (Some r) e f = (elim f.0 [ inl g ↦ inl g | inr g ↦ inr (suc g.0, g.1, g.2, (let p : r.instr ≡ k + 1 + g.0 = g.3 in omega arith), g.4) ], f.1, here)
      where
        here : (j : ℕ) (other : Instr) (l : Late) → slice_get (instr ∷ instrs) j ≡ Some other → late_in s other ≡ Some l → Ahead r (k + j) l.at
        here zero other l g q = absurd (let same : instr ≡ other = cc in let p : late_in s other ≡ None = ap (late_in s) (sym same) ∙ e in cc)
        here (suc j) other l g q = shifted r k j l.at (f.2 j other l g q)

    some : (l : Late) (r : Option Found) → late_in s instr ≡ Some l → FirstOf s (k + 1) instrs (first_of best k (Some l)) r → FirstOf s k (instr ∷ instrs) best r
    some l None e f =
        let m : (m : Found) × (first_of best k (Some l) ≡ Some m) × (((m.instr ≡ k) × (m.late ≡ l)) ⊎ (best ≡ Some m)) × Ahead m k l.at × ((b : Found) → best ≡ Some b → Ahead m b.instr b.late.at) = first_of_is best k l h in
        absurd (let a : None ≡ Some m.0 = sym f.0 ∙ m.1 in cc)
    some l (Some r) e f =
        let m : (m : Found) × (first_of best k (Some l) ≡ Some m) × (((m.instr ≡ k) × (m.late ≡ l)) ⊎ (best ≡ Some m)) × Ahead m k l.at × ((b : Found) → best ≡ Some b → Ahead m b.instr b.late.at) = first_of_is best k l h in
        let a : Ahead r m.0.instr m.0.late.at = f.1 m.0 m.1 in (
          elim f.0 [
            | inl g ↦ (let same : m.0 ≡ r = found_same m.0 r (sym m.1 ∙ g) in
                elim m.2 [
                  | inl q ↦ inr (0, instr, refl, (let p : m.0.instr ≡ r.instr = ap (λ (z : Found). z.instr) same in let u : m.0.instr ≡ k = q.0 in omega arith), e ∙ ap Some (sym q.1) ∙ ap (λ (z : Found). Some z.late) same)
                  | inr q ↦ inl (q ∙ ap Some same)
                ])
            | inr g ↦ inr (suc g.0, g.1, g.2, (let p : r.instr ≡ k + 1 + g.0 = g.3 in omega arith), g.4)
          ],
          λ b g. ahead_next r m.0 b.instr b.late.at a (m.4 b g),
          here m.0 a m.3,
        )
      where
        found_same : (x y : Found) → Some x ≡ Some y → x ≡ y
        found_same x y e = cc

        here : (m : Found) → Ahead r m.instr m.late.at → Ahead m k l.at → (j : ℕ) (other : Instr) (q : Late) → slice_get (instr ∷ instrs) j ≡ Some other → late_in s other ≡ Some q → Ahead r (k + j) q.at
        here m a b zero other q g u =
            let same : instr ≡ other = cc in
            let both : Some l ≡ Some q = sym e ∙ ap (late_in s) same ∙ u in
            let one : l ≡ q = cc in
            let z : k ≡ k + 0 = omega arith in
            let P : ℕ × Late → Type 0 = λ x. Ahead r x.0 x.1.at in
            let w : ◌≡◌ {A = ℕ × Late} (k, l) (k + 0, q) = cc in
            subst P w (ahead_next r m k l.at a b)
        here m a b (suc j) other q g u = shifted r k j q.at (f.2 j other q g u)

    bound : (l : Late) (b : Found) → first_of best k (Some l) ≡ Some b → b.instr < k + 1
    bound l b e =
        let m : (m : Found) × (first_of best k (Some l) ≡ Some m) × (((m.instr ≡ k) × (m.late ≡ l)) ⊎ (best ≡ Some m)) × Ahead m k l.at × ((b : Found) → best ≡ Some b → Ahead m b.instr b.late.at) = first_of_is best k l h in
        let both : Some m.0 ≡ Some b = sym m.1 ∙ e in
        let same : m.0 ≡ b = cc in
        let p : m.0.instr ≡ b.instr = ap (λ (z : Found). z.instr) same in
        elim m.2 [ inl q ↦ (let u : m.0.instr ≡ k = q.0 in omega arith) | inr q ↦ (let u : m.0.instr < k = h m.0 q in omega arith) ]

    go : (o : Option Late) → late_in s instr ≡ o → ((b : Option Found) → ((x : Found) → b ≡ Some x → x.instr < k + 1) → Rest b)
        → FirstOf s k (instr ∷ instrs) best (first_from s (k + 1) instrs (first_of best k (late_in s instr)))
    go None e rest = rw e (none (first_from s (k + 1) instrs best) e (rest best (λ x g. let u : x.instr < k = h x g in omega arith)))
    go (Some l) e rest = rw e (some l (first_from s (k + 1) instrs (first_of best k (Some l))) e (rest (first_of best k (Some l)) (bound l)))

-- what is told of an instruction is a part of it that is late, and is told no later than its others
told_part : (parts : List Part) (l : Late) → LeastOf parts None (Some l) → (p : Part) × Stands p parts × (p.needed < p.ready) × (p.place ≡ l.at) × (p.needed ≡ l.stage)
told_part parts l h = elim h.0 [ inl e ↦ absurd (cc) | inr f ↦ (f.1, (f.0, f.2), f.3, f.4, f.5) ]

told_of : (s : Stages) (instr : Instr) (l : Late) → late_in s instr ≡ Some l → LeastOf (parts_of s instr) None (Some l)
told_of s instr l e = let P : Option Late → Type 0 = λ o. LeastOf (parts_of s instr) None o in subst P e (least_told (parts_of s instr) None)

timely : (s : Stages) (instr : Instr) → late_in s instr ≡ None → (p : Part) → Stands p (parts_of s instr) → p.ready ≤ p.needed
timely s instr e p at =
    let P : Option Late → Type 0 = λ o. LeastOf (parts_of s instr) None o in
    let h : LeastOf (parts_of s instr) None None = subst P e (least_told (parts_of s instr) None) in
    h.1 at.0 p at.1

-- an instruction with a late part has one that is told, no later
late_told : (s : Stages) (instr : Instr) (p : Part) → Stands p (parts_of s instr) → p.needed < p.ready → (l : Late) × (late_in s instr ≡ Some l) × AtMost l p.place p.needed
late_told s instr p at lt = go (late_in s instr) refl
  where
    go : (o : Option Late) → late_in s instr ≡ o → (l : Late) × (late_in s instr ≡ Some l) × AtMost l p.place p.needed
    go None e = absurd (let t : p.ready ≤ p.needed = timely s instr e p at in omega arith)
    go (Some l) e = (l, e, (told_of s instr l e).2 at.0 p at.1 lt)

first_of_all : (s : Stages) (instrs : List Instr) (r : Option Found) → first_late s instrs ≡ r → FirstOf s 0 instrs None r
first_of_all s instrs r e = let P : Option Found → Type 0 = λ o. FirstOf s 0 instrs None o in subst P e (first_told s 0 instrs None (λ b g. absurd (cc)))

pub none_late : (s : Stages) (instrs : List Instr) → first_late s instrs ≡ None → IsInTime s instrs
none_late s instrs e k instr p at stands = timely s instr ((first_of_all s instrs None e).1 k instr at) p stands

pub found_first : (s : Stages) (instrs : List Instr) (f : Found) → first_late s instrs ≡ Some f → IsFirst s instrs f.instr f.late.at f.late.stage
found_first s instrs f e = elim (first_of_all s instrs (Some f) e).0 [ inl g ↦ absurd (cc) | inr g ↦ made g.0 g.1 g.2 g.3 g.4 ]
  where
    made : (j : ℕ) (instr : Instr) → slice_get instrs j ≡ Some instr → f.instr ≡ 0 + j → late_in s instr ≡ Some f.late → IsFirst s instrs f.instr f.late.at f.late.stage
    made j instr at n l =
        let told : (p : Part) × Stands p (parts_of s instr) × (p.needed < p.ready) × (p.place ≡ f.late.at) × (p.needed ≡ f.late.stage) = told_part (parts_of s instr) f.late (told_of s instr f.late l) in
        let number : f.instr ≡ j = omega arith in
        record {
          instr = instr;
          has = ap (slice_get instrs) number ∙ at;
          part = told.0;
          stands = told.1;
          late = told.2;
          place = told.3;
          needed = told.4;
          first = λ k other p other_at stands lt.
              (let t : (x : Late) × (late_in s other ≡ Some x) × AtMost x p.place p.needed = late_told s other p stands lt in
              let a : Ahead f (0 + k) t.0.at = (first_of_all s instrs (Some f) e).2 k other t.0 other_at t.1 in
              join k other p t.0 other_at t.1 t.2 a);
        }
      where
        join : (k : ℕ) (other : Instr) (p : Part) (x : Late) → slice_get instrs k ≡ Some other → late_in s other ≡ Some x → AtMost x p.place p.needed → Ahead f (0 + k) x.at
            → (f.late.at < p.place) ⊎ ((f.late.at ≡ p.place) × ((f.instr < k) ⊎ ((f.instr ≡ k) × (f.late.stage ≤ p.needed))))
        join k other p x oa ox (inl m) (inl a) = inl (omega arith)
        join k other p x oa ox (inr m) (inl a) = inl (let u : x.at ≡ p.place = m.0 in omega arith)
        join k other p x oa ox (inl m) (inr a) = inl (let u : f.late.at ≡ x.at = a.0 in omega arith)
        join k other p x oa ox (inr m) (inr a) = inr (a.0 ∙ m.0, which (nat_lt f.instr k) refl)
          where
            which : (b : Bool) → nat_lt f.instr k ≡ b → (f.instr < k) ⊎ ((f.instr ≡ k) × (f.late.stage ≤ p.needed))
            which true g = inl (grind (arith, nat_tests))
            which false g =
                let ge : k ≤ f.instr = grind (arith, nat_tests) in
                let le : f.instr ≤ 0 + k = a.1 in
                let same : f.instr ≡ k = omega arith in
                let j_k : j ≡ k = omega arith in
                let one : Some instr ≡ Some other = sym at ∙ ap (slice_get instrs) j_k ∙ oa in
                let i : instr ≡ other = cc in
                let both : Some f.late ≡ Some x = sym l ∙ ap (late_in s) i ∙ ox in
                let q : f.late ≡ x = cc in
                let stage : f.late.stage ≡ x.stage = ap (λ (z : Late). z.stage) q in
                let m1 : x.stage ≤ p.needed = m.1 in
                inr (same, omega arith)

-- where every part is in time nothing is told
pub timely_none : (s : Stages) (instrs : List Instr) → IsInTime s instrs → first_late s instrs ≡ None
timely_none s instrs h = go (first_late s instrs) refl
  where
    go : (o : Option Found) → first_late s instrs ≡ o → first_late s instrs ≡ None
    go None e = e
    go (Some f) e =
        let first : IsFirst s instrs f.instr f.late.at f.late.stage = found_first s instrs f e in
        let timely : first.part.ready ≤ first.part.needed = h f.instr first.instr first.part first.has first.stands in
        let late : first.part.needed < first.part.ready = first.late in
        absurd (omega arith)

-- one instruction after another, as a loop goes over them
pub first_step : (s : Stages) (instrs : List Instr) (k : ℕ) (instr : Instr) (best : Option Found) → k < length instrs → instr ≡ get_or instrs k instr
    → first_from s k (drop k instrs) best ≡ first_from s (k + 1) (drop (k + 1) instrs) (first_of best k (late_in s instr))
first_step s instrs k instr best lt at =
    let e : drop k instrs ≡ instr ∷ drop (k + 1) instrs = drop-cons instrs k instr lt ∙ ap (λ z. z ∷ drop (suc k) instrs) (sym at) ∙ (let n : suc k ≡ k + 1 = omega arith in ap (λ m. instr ∷ drop m instrs) n) in
    ap (λ z. first_from s k z best) e
