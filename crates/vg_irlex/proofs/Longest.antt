-- The longest front of a text that passes a test.
use Rattle.std.proofs.Common.{◌≡◌, ℕ, ◌+◌, ◌<◌, ◌≤◌, Bool, true, false, not, ◌==◌, List, [], ◌∷◌, ◌++◌, length, refl, sym, ap, subst, ◌∙◌, arith}
use Rattle.std.specs.List.{list_all, prefix_len}
use Rattle.vg_irlex.specs.Lexing.{is_nil, ends_quote}
use Rattle.vg_irlex.proofs.Lists.{false≢true, head, tail}

pub record Longest (p : List ℕ → Bool) (cs : List ℕ) (n : ℕ) : Type 0 where
  pub front : List ℕ
  pub rest : List ℕ
  pub whole : cs ≡ front ++ rest
  pub len : length front ≡ n
  pub fits : p front ≡ true
  pub most : (t u : List ℕ) → cs ≡ t ++ u → p t ≡ true → length t ≤ n

-- the test is another one on the fronts of the text
pub on_fronts : (p q : List ℕ → Bool) (cs : List ℕ) (n : ℕ) → ((t u : List ℕ) → cs ≡ t ++ u → p t ≡ q t) → Longest q cs n → Longest p cs n
on_fronts p q cs n same l = record {
  front = l.front;
  rest = l.rest;
  whole = l.whole;
  len = l.len;
  fits = same l.front l.rest l.whole ∙ l.fits;
  most = λ t u e h. l.most t u e (sym (same t u e) ∙ h);
}

cons_most : (p q : List ℕ → Bool) (c : ℕ) (cs : List ℕ) (n : ℕ) → ((t : List ℕ) → p (c ∷ t) ≡ q t) → Longest q cs n
    → (t u : List ℕ) → c ∷ cs ≡ t ++ u → p t ≡ true → length t ≤ n + 1
cons_most p q c cs n same l [] u e h = omega arith
cons_most p q c cs n same l (x ∷ t) u e h =
    let f : c ≡ x = head c x cs (t ++ u) e in
    let P : ℕ → Type 0 = λ z. p (z ∷ t) ≡ true in
    let m = l.most t u (tail c x cs (t ++ u) e) (sym (same t) ∙ subst P (sym f) h) in
    omega (arith, m)

-- behind a first byte the test is another one
pub cons_longest : (p q : List ℕ → Bool) (c : ℕ) (cs : List ℕ) (n : ℕ) → ((t : List ℕ) → p (c ∷ t) ≡ q t) → Longest q cs n → Longest p (c ∷ cs) (n + 1)
cons_longest p q c cs n same l = record {
  front = c ∷ l.front;
  rest = l.rest;
  whole = ap (λ z. c ∷ z) l.whole;
  len = omega (arith, l.len);
  fits = same l.front ∙ l.fits;
  most = cons_most p q c cs n same l;
}

stays_most : (p : List ℕ → Bool) (cs : List ℕ) → ((c : ℕ) (t u : List ℕ) → cs ≡ c ∷ (t ++ u) → p (c ∷ t) ≡ false)
    → (t u : List ℕ) → cs ≡ t ++ u → p t ≡ true → length t ≤ 0
stays_most p cs none [] u e h = omega arith
stays_most p cs none (c ∷ t) u e h = false≢true (sym (none c t u e) ∙ h)

-- no front but the empty one passes
pub stays : (p : List ℕ → Bool) (cs : List ℕ) → p [] ≡ true → ((c : ℕ) (t u : List ℕ) → cs ≡ c ∷ (t ++ u) → p (c ∷ t) ≡ false) → Longest p cs 0
stays p cs nil none = record { front = []; rest = cs; whole = refl; len = refl; fits = nil; most = stays_most p cs none }

pub nil_longest : (cs : List ℕ) → Longest is_nil cs 0
nil_longest cs = stays is_nil cs refl (λ c t u e. refl)

pub no_text : (p : List ℕ → Bool) → p [] ≡ true → Longest p [] 0
no_text p h = stays p [] h (λ c t u e. absurd (cc))

span_step : (p : ℕ → Bool) (c : ℕ) (cs : List ℕ) (b : Bool) → p c ≡ b → Longest (list_all p) cs (prefix_len p cs)
    → Longest (list_all p) (c ∷ cs) (prefix_len p (c ∷ cs))
span_step p c cs true h l =
    let n : prefix_len p (c ∷ cs) ≡ prefix_len p cs + 1 = rw h (omega arith) in
    subst (Longest (list_all p) (c ∷ cs)) (sym n) (cons_longest (list_all p) (list_all p) c cs (prefix_len p cs) (λ t. rw h refl) l)
span_step p c cs false h l =
    let n : prefix_len p (c ∷ cs) ≡ 0 = rw h refl in
    let P : ℕ → Type 0 = λ z. p z ≡ false in
    subst (Longest (list_all p) (c ∷ cs)) (sym n)
    (stays (list_all p) (c ∷ cs) refl (λ d t u e. let g : p d ≡ false = subst P (head c d cs (t ++ u) e) h in rw g refl))

-- the longest front of bytes that pass
pub span_longest : (p : ℕ → Bool) (cs : List ℕ) → Longest (list_all p) cs (prefix_len p cs)
span_longest p [] = no_text (list_all p) refl
span_longest p (c ∷ cs) = span_step p c cs (p c) refl (span_longest p cs)

-- what isn't a quote
abbrev pub is_inner : ℕ → Bool
is_inner c = not (c == 34)

closed_step : (c : ℕ) (cs : List ℕ) (b : Bool) → (c == 34) ≡ b → (prefix_len is_inner cs < length cs → Longest ends_quote cs (prefix_len is_inner cs + 1))
    → prefix_len is_inner (c ∷ cs) < length (c ∷ cs) → Longest ends_quote (c ∷ cs) (prefix_len is_inner (c ∷ cs) + 1)
closed_step c cs true h l k =
    let n : prefix_len is_inner (c ∷ cs) ≡ 0 = rw h refl in
    let P : ℕ → Type 0 = λ m. Longest ends_quote (c ∷ cs) (m + 1) in
    subst P (sym n) (cons_longest ends_quote is_nil c cs 0 (λ t. rw h refl) (nil_longest cs))
closed_step c cs false h l k =
    let n : prefix_len is_inner (c ∷ cs) ≡ prefix_len is_inner cs + 1 = rw h (omega arith) in
    let P : ℕ → Type 0 = λ m. Longest ends_quote (c ∷ cs) (m + 1) in
    subst P (sym n) (cons_longest ends_quote ends_quote c cs (prefix_len is_inner cs + 1) (λ t. rw h refl) (l (omega (arith, k, n))))

-- up to the first quote
pub closed_longest : (cs : List ℕ) → prefix_len is_inner cs < length cs → Longest ends_quote cs (prefix_len is_inner cs + 1)
closed_longest [] h = absurd (omega arith)
closed_longest (c ∷ cs) h = closed_step c cs (c == 34) refl (closed_longest cs) h

open_step : (c : ℕ) (cs : List ℕ) (b : Bool) → (c == 34) ≡ b → ((t u : List ℕ) → cs ≡ t ++ u → length cs ≤ prefix_len is_inner cs → ends_quote t ≡ false)
    → (t u : List ℕ) → cs ≡ t ++ u → length (c ∷ cs) ≤ prefix_len is_inner (c ∷ cs) → ends_quote (c ∷ t) ≡ false
open_step c cs true h none t u e k =
    let n : prefix_len is_inner (c ∷ cs) ≡ 0 = rw h refl in absurd (omega (arith, k, n))
open_step c cs false h none t u e k =
    let n : prefix_len is_inner (c ∷ cs) ≡ prefix_len is_inner cs + 1 = rw h (omega arith) in
    rw h (none t u e (omega (arith, k, n)))

-- where no quote follows, no front ends with one
pub open_none : (cs t u : List ℕ) → cs ≡ t ++ u → length cs ≤ prefix_len is_inner cs → ends_quote t ≡ false
open_none [] [] u e h = refl
open_none [] (x ∷ t) u e h = absurd (cc)
open_none (c ∷ cs) [] u e h = refl
open_none (c ∷ cs) (x ∷ t) u e h =
    let f : c ≡ x = head c x cs (t ++ u) e in
    let P : ℕ → Type 0 = λ z. ends_quote (z ∷ t) ≡ false in
    subst P f (open_step c cs (c == 34) refl (open_none cs) t u (tail c x cs (t ++ u) e) h)
