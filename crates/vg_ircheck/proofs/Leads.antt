-- Going in steps: what `leads` tells, and that it goes on.
use Rattle.std.proofs.Common.{◌≡◌, ◌⊎◌, inl, inr, Bool, true, false, true≢false, ◌&&◌, ◌||◌, List, [], ◌∷◌, refl, sym, ap, ◌∙◌}
use Rattle.vg_ir.specs.Sound.{IsIn}
use Rattle.vg_ircheck.specs.Steps.{leads}

pub either : (a b : Bool) → (a || b) ≡ true → (a ≡ true) ⊎ (b ≡ true)
either true b h = inl refl
either false b h = inr h

pub both : (a b : Bool) → (a && b) ≡ true → (a ≡ true) × (b ≡ true)
both true b h = (refl, h)
both false b h = absurd (true≢false (sym h))

pub or_left : (a b : Bool) → a ≡ true → (a || b) ≡ true
or_left a b h = ap (λ z. z || b) h

pub or_right : (a b : Bool) → b ≡ true → (a || b) ≡ true
or_right true b h = refl
or_right false b h = h

pub and_both : (a b : Bool) → a ≡ true → b ≡ true → (a && b) ≡ true
and_both a b h k = ap (λ z. z && b) h ∙ k

module _ {A : Type 0} (step : A → A → Bool) where
  -- one step leads, whatever may stand between
  pub one_step : (cs : List A) (a b : A) → step a b ≡ true → leads step cs a b ≡ true
  one_step [] a b h = h
  one_step (c ∷ cs) a b h = or_left (leads step cs a b) (leads step cs a c && leads step cs c b) (one_step cs a b h)

  -- to the last of those that may stand between, and from there
  to_last : (cs : List A) (a c : A) → (leads step cs a c ≡ true) ⊎ ((leads step cs a c && leads step cs c c) ≡ true) → leads step cs a c ≡ true
  to_last cs a c (inl h) = h
  to_last cs a c (inr h) = (both (leads step cs a c) (leads step cs c c) h).0

  from_last : (cs : List A) (c b : A) → (leads step cs c b ≡ true) ⊎ ((leads step cs c c && leads step cs c b) ≡ true) → leads step cs c b ≡ true
  from_last cs c b (inl h) = h
  from_last cs c b (inr h) = (both (leads step cs c c) (leads step cs c b) h).1

  through_last : (cs : List A) (a d b : A) → leads step cs a d ≡ true → leads step cs d b ≡ true → leads step (d ∷ cs) a b ≡ true
  through_last cs a d b h k =
      or_right (leads step cs a b) (leads step cs a d && leads step cs d b) (and_both (leads step cs a d) (leads step cs d b) h k)

  -- two ways one behind the other
  pub goes_on : (cs : List A) (c : A) → IsIn c cs → (a b : A) → leads step cs a c ≡ true → leads step cs c b ≡ true → leads step cs a b ≡ true
  goes_on [] c among a b h k = absurd among
  goes_on (d ∷ cs) c (inl same) a b h k = at_last c same h k
    where
      at_last : (x : A) → x ≡ d → leads step (d ∷ cs) a x ≡ true → leads step (d ∷ cs) x b ≡ true → leads step (d ∷ cs) a b ≡ true
      at_last x e p q =
          let to_d : leads step (d ∷ cs) a d ≡ true = ap (λ y. leads step (d ∷ cs) a y) (sym e) ∙ p in
          let from_d : leads step (d ∷ cs) d b ≡ true = ap (λ y. leads step (d ∷ cs) y b) (sym e) ∙ q in
          through_last cs a d b
          (to_last cs a d (either (leads step cs a d) (leads step cs a d && leads step cs d d) to_d))
          (from_last cs d b (either (leads step cs d b) (leads step cs d d && leads step cs d b) from_d))
  goes_on (d ∷ cs) c (inr among) a b h k =
      by_cases (goes_on cs c among)
      (either (leads step cs a c) (leads step cs a d && leads step cs d c) h)
      (either (leads step cs c b) (leads step cs c d && leads step cs d b) k)
    where
      by_cases : ((x y : A) → leads step cs x c ≡ true → leads step cs c y ≡ true → leads step cs x y ≡ true)
          → (leads step cs a c ≡ true) ⊎ ((leads step cs a d && leads step cs d c) ≡ true)
          → (leads step cs c b ≡ true) ⊎ ((leads step cs c d && leads step cs d b) ≡ true)
          → leads step (d ∷ cs) a b ≡ true
      by_cases on (inl p) (inl q) = or_left (leads step cs a b) (leads step cs a d && leads step cs d b) (on a b p q)
      by_cases on (inl p) (inr q) =
          let parts : (leads step cs c d ≡ true) × (leads step cs d b ≡ true) = both (leads step cs c d) (leads step cs d b) q in
          through_last cs a d b (on a d p parts.0) parts.1
      by_cases on (inr p) (inl q) =
          let parts : (leads step cs a d ≡ true) × (leads step cs d c ≡ true) = both (leads step cs a d) (leads step cs d c) p in
          through_last cs a d b parts.0 (on d b parts.1 q)
      by_cases on (inr p) (inr q) =
          let first : (leads step cs a d ≡ true) × (leads step cs d c ≡ true) = both (leads step cs a d) (leads step cs d c) p in
          let last : (leads step cs c d ≡ true) × (leads step cs d b ≡ true) = both (leads step cs c d) (leads step cs d b) q in
          through_last cs a d b first.0 last.1
