-- Lists cut in two.
use Rattle.std.proofs.Common.{◌≡◌, ◌⊎◌, ℕ, Bool, true, false, cond, List, [], ◌∷◌, ◌++◌, length, refl, sym, ap, ◌∙◌, inl, inr, arith}
use Rattle.std.specs.List.{list_all, prefix_len}
use Rattle.vg_tok.specs.Lexing.{begins_with}
pub use Rattle.std.proofs.lemmas.Bool.{and_parts as both, and_from as both-from, or_parts as neither, false_from_ne_true as is_false}

pub false≢true : {A : Type 0} → false ≡ true → A
false≢true h = absurd (cc)

-- the choice of an `if`
pub chosen : {A : Type 0} (b : Bool) (x y : A) (P : A → Type 0) → (b ≡ true → P x) → (b ≡ false → P y) → P (cond b x y)
chosen true x y P f g = f refl
chosen false x y P f g = g refl

pub head : {A : Type 0} (a b : A) (c d : List A) → a ∷ c ≡ b ∷ d → a ≡ b
head a b c d h = cc

pub tail : {A : Type 0} (a b : A) (c d : List A) → a ∷ c ≡ b ∷ d → c ≡ d
tail a b c d h = cc

pub nil_from_append : {A : Type 0} (c d : List A) → [] ≡ c ++ d → (c ≡ []) × (d ≡ [])
nil_from_append [] d h = (refl, sym h)
nil_from_append (a ∷ c) d h = absurd (cc)

-- of two fronts of a list one begins the other
pub fronts : {A : Type 0} (a b c d : List A) → a ++ b ≡ c ++ d
    → ((m : List A) × (c ≡ a ++ m) × (b ≡ m ++ d)) ⊎ ((m : List A) × (a ≡ c ++ m) × (d ≡ m ++ b))
fronts [] b c d h = inl (c, refl, h)
fronts (x ∷ a) b [] d h = inr (x ∷ a, refl, sym h)
fronts (x ∷ a) b (y ∷ c) d h =
    let e : x ≡ y = cc in
    let t : a ++ b ≡ c ++ d = cc in
    elim (fronts a b c d t) [ inl m ↦ inl (m.0, cc, m.2) | inr m ↦ inr (m.0, cc, m.2) ]

-- the longest front of a text that passes a test
pub record Span (p : ℕ → Bool) (cs : List ℕ) : Type 0 where
  pub front : List ℕ
  pub rest : List ℕ
  pub whole : cs ≡ front ++ rest
  pub len : length front ≡ prefix_len p cs
  pub each : list_all p front ≡ true
  pub stops : begins_with p rest ≡ false

span-cons : (p : ℕ → Bool) (c : ℕ) (cs : List ℕ) (b : Bool) → p c ≡ b → Span p cs → Span p (c ∷ cs)
span-cons p c cs true h s = record {
  front = c ∷ s.front;
  rest = s.rest;
  whole = ap (λ x. c ∷ x) s.whole;
  len = rw h (omega (arith, s.len));
  each = rw h s.each;
  stops = s.stops;
}
span-cons p c cs false h s = record { front = []; rest = c ∷ cs; whole = refl; len = rw h refl; each = refl; stops = h }

pub span : (p : ℕ → Bool) (cs : List ℕ) → Span p cs
span p [] = record { front = []; rest = []; whole = refl; len = refl; each = refl; stops = refl }
span p (c ∷ cs) = span-cons p c cs (p c) refl (span p cs)

-- such a cut is one
pub cut_once : (p : ℕ → Bool) (a b c d : List ℕ) → a ++ b ≡ c ++ d → list_all p a ≡ true → list_all p c ≡ true
    → begins_with p b ≡ false → begins_with p d ≡ false → (a ≡ c) × (b ≡ d)
cut_once p [] b [] d e ha hc hb hd = (refl, e)
cut_once p [] b (y ∷ c) d e ha hc hb hd =
    false≢true (sym hb ∙ (ap (begins_with p) e ∙ (both (p y) (list_all p c) hc).0))
cut_once p (x ∷ a) b [] d e ha hc hb hd =
    false≢true (sym hd ∙ (ap (begins_with p) (sym e) ∙ (both (p x) (list_all p a) ha).0))
cut_once p (x ∷ a) b (y ∷ c) d e ha hc hb hd =
    let i = cut_once p a b c d (tail x y _ _ e) (both (p x) (list_all p a) ha).1 (both (p y) (list_all p c) hc).1 hb hd in
    let h : x ≡ y = head x y _ _ e in
    (cc, i.1)

pub list_all-append : (p : ℕ → Bool) (a b : List ℕ) → list_all p (a ++ b) ≡ true → (list_all p a ≡ true) × (list_all p b ≡ true)
list_all-append p [] b h = (refl, h)
list_all-append p (x ∷ a) b h =
    let h' = both (p x) (list_all p (a ++ b)) h in
    let i = list_all-append p a b h'.1 in
    (both-from (p x) (list_all p a) h'.0 i.0, i.1)

pub list_all-weaker : (p q : ℕ → Bool) → ((c : ℕ) → p c ≡ true → q c ≡ true) → (a : List ℕ) → list_all p a ≡ true → list_all q a ≡ true
list_all-weaker p q w [] h = refl
list_all-weaker p q w (x ∷ a) h =
    let h' = both (p x) (list_all p a) h in
    both-from (q x) (list_all q a) (w x h'.0) (list_all-weaker p q w a h'.1)
