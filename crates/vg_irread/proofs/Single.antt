-- Readers of one lexeme, and of none.
use Rattle.std.proofs.Common.{◌≡◌, ℕ, ◌+◌, ◌≤◌, Bool, true, false, Option, Some, None, List, [], ◌∷◌, ◌++◌, length, refl, sym, ap, ◌∙◌, arith, length-append, inl, inr}
use Rattle.vg_irparse.specs.declared.role.Wanted.{Wanted}
use Rattle.vg_irparse.specs.Placed.{Placed, Slot}
use Rattle.vg_irparse.specs.Answer.{Answer, reads, leaves, too_deep}
use Rattle.vg_irparse.specs.Answer as answer
use Rattle.vg_irread.specs.Kinds.{Kind, is_in}
use Rattle.vg_irread.specs.Reading.{done, token_by, token_at}
use Rattle.vg_irread.specs.Exact.{nothing, single, Found, Tells, Refused, IsExact}

-- ---- answers

pub reads_not : {A B : Type 0} {x : A} {n : ℕ} {w : Wanted} → reads x ≡ leaves n w → B
reads_not h = absurd (cc)

pub leaves_not : {A B : Type 0} {n : ℕ} {w : Wanted} {x : A} → leaves n w ≡ reads x → B
leaves_not h = absurd (cc)

pub deep_not : {A B : Type 0} {x : A} → too_deep ≡ reads x → B
deep_not h = absurd (cc)

pub deep_leaves_not : {A B : Type 0} {n : ℕ} {w : Wanted} → ◌≡◌ {A = Answer A} too_deep (leaves n w) → B
deep_leaves_not h = absurd (cc)

pub same_reads : {A : Type 0} (x y : A) → reads x ≡ reads y → x ≡ y
same_reads x y h = cc

pub places : {A : Type 0} (m n : ℕ) (w v : Wanted) → ◌≡◌ {A = Answer A} (leaves m w) (leaves n v) → (m ≡ n) × (w ≡ v)
places m n w v h = (cc, cc)

-- what a step gave, and what the steps behind it gave
pub bind : {A B : Type 0} (o : Answer A) (f : A → Answer B) (y : B) (P : Type 0) → answer.◌>>=◌ o f ≡ reads y → ((x : A) → o ≡ reads x → f x ≡ reads y → P) → P
bind (reads x) f y P h k = k x refl h
bind (leaves n w) f y P h k = leaves_not h
bind too_deep f y P h k = deep_not h

-- of two steps the first leaves, or it reads and the second leaves
pub bind_leaves : {A B : Type 0} (o : Answer A) (f : A → Answer B) (n : ℕ) (w : Wanted) (P : Type 0) → answer.◌>>=◌ o f ≡ leaves n w
    → (o ≡ leaves n w → P) → ((x : A) → o ≡ reads x → f x ≡ leaves n w → P) → P
bind_leaves (reads x) f n w P h k l = l x refl h
bind_leaves (leaves m v) f n w P h k l = let p = places m n v w h in k (ap (λ z. leaves z v) p.0 ∙ ap (λ z. leaves n z) p.1)
bind_leaves too_deep f n w P h k l = deep_leaves_not h

pub bind_reads : {A B : Type 0} (o : Answer A) (f : A → Answer B) (x : A) → o ≡ reads x → answer.◌>>=◌ o f ≡ f x
bind_reads o f x h = rw h refl

pub bind_tells : {A B : Type 0} (o : Answer A) (f : A → Answer B) (n : ℕ) (w : Wanted) → Tells o n w → Tells (answer.◌>>=◌ o f) n w
bind_tells o f n w (inl h) = inl (rw h refl)
bind_tells o f n w (inr h) = inr (rw h refl)

pub tells_along : {A : Type 0} (x y : Answer A) (n : ℕ) (w : Wanted) → x ≡ y → Tells y n w → Tells x n w
tells_along x y n w e (inl h) = inl (e ∙ h)
tells_along x y n w e (inr h) = inr (e ∙ h)

-- ---- lists

pub no_more : {A : Type 0} (bs cs : List A) → bs ++ cs ≡ cs → bs ≡ []
no_more [] cs h = refl
no_more (b ∷ bs) cs h = absurd (omega (arith, ap length h, length-append bs cs))

-- two cuts with as many behind are one
pub cut_once : {A : Type 0} (a b c d : List A) → a ++ b ≡ c ++ d → length b ≡ length d → a ≡ c
cut_once [] b [] d e n = refl
cut_once [] b (y ∷ c) d e n = absurd (omega (arith, ap length e, length-append c d, n))
cut_once (x ∷ a) b [] d e n = absurd (omega (arith, ap length e, length-append a b, n))
cut_once (x ∷ a) b (y ∷ c) d e n =
    let t : a ++ b ≡ c ++ d = cc in
    let f : x ≡ y = cc in
    let i = cut_once a b c d t n in
    cc

-- ---- one lexeme

-- what a function takes from lexemes is one of these trees, and it takes each of them
pub record Takes {T X : Type 0} (slot : T → Slot) (is : T → Bool) (value : T → X) (kinds : List Kind) (take : Placed → Option X) : Type 0 where
  pub some : T
  pub some_is : is some ≡ true
  pub found : (l : Placed) (x : X) → take l ≡ Some x → (t : T) × (is t ≡ true) × (l ≡ (slot t).lexeme) × (x ≡ value t)
  pub given : (t : T) → is t ≡ true → take ((slot t).lexeme) ≡ Some (value t)
  pub kind : (t : T) → is t ≡ true → is_in kinds ((slot t).lexeme.text) ≡ true

token_sound : {T X : Type 0} {slot : T → Slot} {is : T → Bool} {value : T → X} {kinds : List Kind} {take : Placed → Option X} → Takes slot is value kinds take → (w : Wanted) (d : ℕ)
    → (o : Option X) (t : Placed) (us : List Placed) (x : X) (rest : List Placed) → take t ≡ o → token_by o w us ≡ reads (x, rest) → Found (single slot is value) d (t ∷ us) x rest
token_sound {X = X} {slot = slot} k w d (Some y) t us x rest o h =
    let p = same_reads (y, us) (x, rest) h in
    let f = k.found t y o in
    record {
      tree = f.0;
      is_one = f.1;
      within = omega arith;
      whole = ap (λ (z : Placed). z ∷ us) f.2 ∙ ap (λ (z : X × List Placed). (slot f.0).lexeme ∷ z.1) p;
      same = sym (ap (λ (z : X × List Placed). z.0) p) ∙ f.3;
    }
token_sound k w d None t us x rest o h = leaves_not h

token_again : {X : Type 0} (w : Wanted) (o : Option X) (x : X) (bs : List Placed) (t : Placed) (us vs : List Placed) → token_by o w (bs ++ t ∷ us) ≡ reads (x, t ∷ us) → token_by o w (bs ++ t ∷ vs) ≡ reads (x, t ∷ vs)
token_again {X = X} w (Some y) x bs t us vs h =
    let p = same_reads (y, bs ++ t ∷ us) (x, t ∷ us) h in
    let e = no_more bs (t ∷ us) (ap (λ (z : X × List Placed). z.1) p) in
    let f : y ≡ x = ap (λ (z : X × List Placed). z.0) p in
    ap (λ (z : X). reads (z, bs ++ t ∷ vs)) f ∙ ap (λ (z : List Placed). reads (x, z ++ t ∷ vs)) e
token_again w None x bs t us vs h = leaves_not h

token_whole : {X : Type 0} (w : Wanted) (o : Option X) (x : X) (t : Placed) (us : List Placed) → token_by o w us ≡ reads (x, t ∷ us) → ⊥
token_whole {X = X} w (Some y) x t us h = let p = same_reads (y, us) (x, t ∷ us) h in omega (arith, ap (λ (z : X × List Placed). length z.1) p)
token_whole w None x t us h = leaves_not h

token_refused : {T X : Type 0} {slot : T → Slot} {is : T → Bool} {value : T → X} {kinds : List Kind} {take : Placed → Option X} → Takes slot is value kinds take → (w : Wanted) (d : ℕ)
    → (o : Option X) (t : Placed) (us : List Placed) (n : ℕ) (v : Wanted) → take t ≡ o → token_by o w us ≡ leaves n v → Refused (single slot is value) (token_at take w) d (t ∷ us) n v
token_refused k w d (Some y) t us n v o h = reads_not h
token_refused {slot = slot} {take = take} k w d None t us n v o h =
    let p = places (length us + 1) n w v h in
    record {
      before = [];
      behind = t ∷ us;
      whole = refl;
      count = omega (arith, p.0);
      begun = (k.some, k.some_is, (slot k.some).lexeme ∷ [], refl);
      refuses = λ a others e m l vs.
          let f : t ≡ a = cc in
          let z : take a ≡ None = ap take (sym f) ∙ o in
          inl (rw z (ap (λ u. leaves (length vs + 1) u) p.1));
    }

pub token_exact : {T X : Type 0} {slot : T → Slot} {is : T → Bool} {value : T → X} {kinds : List Kind} {take : Placed → Option X} → Takes slot is value kinds take → (w : Wanted)
    → IsExact (single slot is value) kinds false [] (token_at take w)
token_exact {T} {X} {slot = slot} {is = is} {value = value} {take = take} k w = record {
  some = k.some;
  some_is = k.some_is;
  appends = λ t g ts. refl;
  starts = λ t g. k.kind t g;
  sound = sound;
  complete = λ t g d n rest e. rw (k.given t g) refl;
  again = again;
  placed = placed;
}
  where
    sound : (d : ℕ) (ts : List Placed) (x : X) (rest : List Placed) → token_at take w d ts ≡ reads (x, rest) → Found (single slot is value) d ts x rest
    sound d [] x rest h = leaves_not h
    sound d (t ∷ us) x rest h = token_sound k w d (take t) t us x rest refl h

    again : (d : ℕ) (x : X) (before : List Placed) (t : Placed) (us : List Placed) → token_at take w d (before ++ t ∷ us) ≡ reads (x, t ∷ us)
        → (e : ℕ) → d ≤ e → (vs : List Placed) → token_at take w e (before ++ t ∷ vs) ≡ reads (x, t ∷ vs)
    again d x [] t us h e l vs = absurd (token_whole w (take t) x t us h)
    again d x (b ∷ bs) t us h e l vs = token_again w (take b) x bs t us vs h

    placed : (d : ℕ) (ts : List Placed) (n : ℕ) (v : Wanted) → token_at take w d ts ≡ leaves n v → Refused (single slot is value) (token_at take w) d ts n v
    placed d [] n v h = record {
      before = [];
      behind = [];
      whole = refl;
      count = (places 0 n w v h).0;
      begun = (k.some, k.some_is, (slot k.some).lexeme ∷ [], refl);
      refuses = λ t others e m l us. absurd (cc);
    }
    placed d (t ∷ us) n v h = token_refused k w d (take t) t us n v refl h

-- ---- nothing

pub done_exact : {X : Type 0} (x y : X) → x ≡ y → IsExact (nothing y) [] true [] (done x)
done_exact {X} x y same = record {
  some = tt;
  some_is = refl;
  appends = λ t g ts. refl;
  starts = λ t g. refl;
  sound = λ d ts z rest h.
      let p = same_reads (x, ts) (z, rest) h in
      record { tree = tt; is_one = refl; within = omega arith; whole = ap (λ (u : X × List Placed). u.1) p; same = sym (ap (λ (u : X × List Placed). u.0) p) ∙ same };
  complete = λ t g d n rest e. ap (λ (z : X). reads (z, rest)) same;
  again = λ d z before t us h e l vs.
      let p = same_reads (x, before ++ t ∷ us) (z, t ∷ us) h in
      let f = no_more before (t ∷ us) (ap (λ (u : X × List Placed). u.1) p) in
      ap (λ (u : X). reads (u, before ++ t ∷ vs)) (ap (λ (u : X × List Placed). u.0) p) ∙ ap (λ (u : List Placed). reads (z, u ++ t ∷ vs)) f;
  placed = λ d ts n w h. reads_not h;
}
