-- What is told of lists of parts.
use Rattle.std.proofs.Common.{◌≡◌, ◌≢◌, ℕ, zero, suc, ◌+◌, ◌<◌, ◌≤◌, Bool, true, false, nat_lt, nat_eq, ◌⊎◌, inl, inr, slice_get, subst, refl, ap, sym, ◌∙◌, List, [], ◌∷◌, ◌++◌, length, get_or, drop, flat_map, Option, Some, None, if◌then◌else◌, arith, drop-cons}
use Rattle.std.proofs.lemmas.Bool.Decides.{nat_tests}
use Rattle.vg_place.specs.declared.late.Late.{Late}
use Rattle.vg_place.specs.Unplaced.{Part, is_late, sooner, earliest}

-- one list after another
pub earliest-append : (parts more : List Part) (best : Option Late) → earliest (parts ++ more) best ≡ earliest more (earliest parts best)
earliest-append [] more best = refl
earliest-append (part ∷ parts) more best = earliest-append parts more (if is_late part then sooner best (record { at = part.place; stage = part.needed }) else best)

-- one write after another, as a loop goes over them
pub earliest_step : {X : Type 0} (f : X → List Part) (xs : List X) (i : ℕ) (x : X) (best : Option Late) → i < length xs → x ≡ get_or xs i x
    → earliest (flat_map f (drop i xs)) best ≡ earliest (flat_map f (drop (i + 1) xs)) (earliest (f x) best)
earliest_step f xs i x best lt at =
    let e : drop i xs ≡ x ∷ drop (i + 1) xs = drop-cons xs i x lt ∙ ap (λ z. z ∷ drop (suc i) xs) (sym at) ∙ (let n : suc i ≡ i + 1 = omega arith in ap (λ m. x ∷ drop m xs) n) in
    ap (λ z. earliest (flat_map f z) best) e ∙ earliest-append (f x) (flat_map f (drop (i + 1) xs)) best

-- ---- the part that is told of a list

-- a late part is told no later than one with this place and stage
abbrev pub AtMost : Late → ℕ → ℕ → Type 0
AtMost l place needed = (l.at < place) ⊎ ((l.at ≡ place) × (l.stage ≤ needed))

at_most_same : (l : Late) → AtMost l l.at l.stage
at_most_same l = inr (refl, omega arith)

at_most_next : (l m : Late) (place needed : ℕ) → AtMost l m.at m.stage → AtMost m place needed → AtMost l place needed
at_most_next l m place needed (inl a) (inl b) = inl (omega arith)
at_most_next l m place needed (inl a) (inr b) = inl (let e : m.at ≡ place = b.0 in omega arith)
at_most_next l m place needed (inr a) (inl b) = inl (let e : l.at ≡ m.at = a.0 in omega arith)
at_most_next l m place needed (inr a) (inr b) = inr (a.0 ∙ b.0, (let e : l.stage ≤ m.stage = a.1 in let f : m.stage ≤ needed = b.1 in omega arith))

-- what `earliest` gives
abbrev pub LeastOf : List Part → Option Late → Option Late → Type 0
LeastOf parts best None = (best ≡ None) × ((i : ℕ) (p : Part) → slice_get parts i ≡ Some p → p.ready ≤ p.needed)
LeastOf parts best (Some l) =
    ((best ≡ Some l) ⊎ ((i : ℕ) × (p : Part) × (slice_get parts i ≡ Some p) × (p.needed < p.ready) × (p.place ≡ l.at) × (p.needed ≡ l.stage)))
    × ((b : Late) → best ≡ Some b → AtMost l b.at b.stage)
    × ((i : ℕ) (p : Part) → slice_get parts i ≡ Some p → p.needed < p.ready → AtMost l p.place p.needed)

-- of two late parts one is told, and it is told no later than both
sooner_is : (best : Option Late) (c : Late) → (m : Late) × (sooner best c ≡ Some m) × ((m ≡ c) ⊎ (best ≡ Some m)) × AtMost m c.at c.stage × ((b : Late) → best ≡ Some b → AtMost m b.at b.stage)
sooner_is None c = (c, refl, inl refl, at_most_same c, λ b e. absurd (cc))
sooner_is (Some b) c = go (nat_lt c.at b.at) refl (nat_eq c.at b.at) refl (nat_lt c.stage b.stage) refl
  where
    T : Type 0
    T = (m : Late) × (sooner (Some b) c ≡ Some m) × ((m ≡ c) ⊎ (Some b ≡ Some m)) × AtMost m c.at c.stage × ((x : Late) → Some b ≡ Some x → AtMost m x.at x.stage)

    new : sooner (Some b) c ≡ Some c → AtMost c b.at b.stage → T
    new e a = (c, e, inl refl, at_most_same c, λ x h. (let s : b ≡ x = cc in let P : Late → Type 0 = λ z. AtMost c z.at z.stage in subst P s a))

    old : sooner (Some b) c ≡ Some b → AtMost b c.at c.stage → T
    old e a = (b, e, inr refl, a, λ x h. (let s : b ≡ x = cc in let P : Late → Type 0 = λ z. AtMost b z.at z.stage in subst P s (at_most_same b)))

    go : (x : Bool) → nat_lt c.at b.at ≡ x → (y : Bool) → nat_eq c.at b.at ≡ y → (z : Bool) → nat_lt c.stage b.stage ≡ z → T
    go true ex y ey z ez = new (rw ex refl) (inl (grind (arith, nat_tests)))
    go false ex true ey true ez = new (rw (ex, ey, ez) refl) (inr (grind (arith, nat_tests), let lt : c.stage < b.stage = grind (arith, nat_tests) in omega arith))
    go false ex true ey false ez = old (rw (ex, ey, ez) refl) (inr (grind (arith, nat_tests), grind (arith, nat_tests)))
    go false ex false ey z ez = old (rw (ex, ey) refl) (inl (let a : b.at ≤ c.at = grind (arith, nat_tests) in let n : c.at ≢ b.at = grind (arith, nat_tests) in omega arith))

-- a part that isn't late changes nothing
least_over_timely : (part : Part) (parts : List Part) (best r : Option Late) → part.ready ≤ part.needed → LeastOf parts best r → LeastOf (part ∷ parts) best r
least_over_timely part parts best None t h = (h.0, go)
  where
    go : (i : ℕ) (p : Part) → slice_get (part ∷ parts) i ≡ Some p → p.ready ≤ p.needed
    go zero p e = let s : part ≡ p = cc in let P : Part → Type 0 = λ z. z.ready ≤ z.needed in subst P s t
    go (suc i) p e = h.1 i p e
least_over_timely part parts best (Some l) t h = (elim h.0 [ inl e ↦ inl e | inr f ↦ inr (suc f.0, f.1, f.2, f.3, f.4, f.5) ], h.1, go)
  where
    go : (i : ℕ) (p : Part) → slice_get (part ∷ parts) i ≡ Some p → p.needed < p.ready → AtMost l p.place p.needed
    go zero p e lt = absurd (let s : part ≡ p = cc in let P : Part → Type 0 = λ z. z.ready ≤ z.needed in let u : p.ready ≤ p.needed = subst P s t in omega arith)
    go (suc i) p e lt = h.2 i p e lt

-- a late part is one more that may be told
least_over_late : (part : Part) (parts : List Part) (best r : Option Late) → part.needed < part.ready
    → LeastOf parts (sooner best (record { at = part.place; stage = part.needed })) r → LeastOf (part ∷ parts) best r
least_over_late part parts best None t h =
    let s : (m : Late) × (sooner best (record { at = part.place; stage = part.needed }) ≡ Some m) × ((m ≡ record { at = part.place; stage = part.needed }) ⊎ (best ≡ Some m))
    × AtMost m part.place part.needed × ((b : Late) → best ≡ Some b → AtMost m b.at b.stage) = sooner_is best (record { at = part.place; stage = part.needed }) in
    absurd (let a : None ≡ Some s.0 = sym h.0 ∙ s.1 in cc)
least_over_late part parts best (Some l) t h =
    let c : Late = record { at = part.place; stage = part.needed } in
    let s : (m : Late) × (sooner best c ≡ Some m) × ((m ≡ c) ⊎ (best ≡ Some m)) × AtMost m c.at c.stage × ((b : Late) → best ≡ Some b → AtMost m b.at b.stage) = sooner_is best c in
    let a : AtMost l s.0.at s.0.stage = h.1 s.0 s.1 in (
      elim h.0 [
        | inl e ↦ (let m : s.0 ≡ l = some_same s.0 l (sym s.1 ∙ e) in
            elim s.2 [ inl f ↦ inr (0, part, refl, t, ap (λ (z : Late). z.at) (sym f ∙ m), ap (λ (z : Late). z.stage) (sym f ∙ m)) | inr f ↦ inl (f ∙ ap Some m) ])
        | inr f ↦ inr (suc f.0, f.1, f.2, f.3, f.4, f.5)
      ],
      λ b e. at_most_next l s.0 b.at b.stage a (s.4 b e),
      go s.0 a s.3,
    )
  where
    some_same : (x y : Late) → Some x ≡ Some y → x ≡ y
    some_same x y e = cc

    go : (m : Late) → AtMost l m.at m.stage → AtMost m part.place part.needed → (i : ℕ) (p : Part) → slice_get (part ∷ parts) i ≡ Some p → p.needed < p.ready → AtMost l p.place p.needed
    go m a b zero p e lt = let s : part ≡ p = cc in let P : Part → Type 0 = λ z. AtMost l z.place z.needed in subst P s (at_most_next l m part.place part.needed a b)
    go m a b (suc i) p e lt = h.2 i p e lt

pub least_told : (parts : List Part) (best : Option Late) → LeastOf parts best (earliest parts best)
least_told [] None = (refl, λ i p e. absurd (cc))
least_told [] (Some l) = (inl refl, λ b e. (let s : l ≡ b = cc in let P : Late → Type 0 = λ z. AtMost l z.at z.stage in subst P s (at_most_same l)), λ i p e lt. absurd (cc))
least_told (part ∷ parts) best = go (λ b. least_told parts b) (is_late part) refl
  where
    go : ((b : Option Late) → LeastOf parts b (earliest parts b)) → (b : Bool) → is_late part ≡ b
        → LeastOf (part ∷ parts) best (earliest parts (if is_late part then sooner best (record { at = part.place; stage = part.needed }) else best))
    go below true e = rw e (least_over_late part parts best (earliest parts (sooner best (record { at = part.place; stage = part.needed }))) (grind (arith, nat_tests)) (below (sooner best (record { at = part.place; stage = part.needed }))))
    go below false e = rw e (least_over_timely part parts best (earliest parts best) (grind (arith, nat_tests)) (below best))
