-- How far a number goes.
use Rattle.std.proofs.Common.{◌≡◌, ℕ, ◌+◌, ◌≤◌, Bool, true, false, cond, ◌&&◌, ◌==◌, eqb, List, [], ◌∷◌, ◌++◌, length, refl, sym, ap, subst, ◌∙◌, arith, lit≤}
use Rattle.std.proofs.lemmas.Bool.Decides.{nat_tests}
use Rattle.std.proofs.lemmas.List.{append_cancel_left}
use Rattle.std.specs.Char.{is_digit}
use Rattle.vg_tok.specs.declared.number.Base.{Base}
use Rattle.vg_tok.specs.declared.number.Base.TheVariants.{Decimal, Hexadecimal, Binary}
use Rattle.vg_tok.specs.Lexing.{begins_with, radix, prefix, go_on, are_digits, IsNumber}
use Rattle.vg_tok.specs.Front.{digits_from, digits_len, base_at}
use Rattle.vg_tok.proofs.Lists.{false≢true, both, both-from, head, tail}
use Rattle.vg_tok.proofs.Spelled.{no_x, no_b}

pub eqb-same : (a b : ℕ) → eqb a b ≡ true → a ≡ b
eqb-same a b h = grind (arith, nat_tests)

-- a quote is no digit
digit-no_quote : (base c : ℕ) → base ≤ 36 → is_digit c base ≡ true → eqb c 39 ≡ false
digit-no_quote base c h d = grind (arith, nat_tests)

go_on-cons : (base c : ℕ) (t : List ℕ) → base ≤ 36 → is_digit c base ≡ true → go_on base (c ∷ t) ≡ go_on base t
go_on-cons base c [] h d = d
go_on-cons base c (e ∷ t) h d = rw (digit-no_quote base c h d, d) refl

go_on-quote : (base d : ℕ) (t : List ℕ) → is_digit d base ≡ true → go_on base (39 ∷ d ∷ t) ≡ go_on base t
go_on-quote base d t h = rw h refl

-- the digits at the front of cs that go on a number, n characters
pub record GoesOn (base : ℕ) (cs : List ℕ) (n : ℕ) : Type 0 where
  pub front : List ℕ
  pub rest : List ℕ
  pub whole : cs ≡ front ++ rest
  pub len : length front ≡ n
  pub each : go_on base front ≡ true
  pub most : (t u : List ℕ) → cs ≡ t ++ u → go_on base t ≡ true → length t ≤ n

nothing_goes-two : (base c y : ℕ) (t : List ℕ) (b : Bool) → eqb c 39 ≡ b → is_digit c base ≡ false → (eqb c 39 ≡ true → is_digit y base ≡ false)
    → cond (eqb c 39) (is_digit y base && go_on base t) (is_digit c base && go_on base (y ∷ t)) ≡ true → {A : Type 0} → A
nothing_goes-two base c y t true e d q h =
    let k : (is_digit y base && go_on base t) ≡ true = rw e at h in
    false≢true (sym (q e) ∙ (both (is_digit y base) (go_on base t) k).0)
nothing_goes-two base c y t false e d q h =
    let k : (is_digit c base && go_on base (y ∷ t)) ≡ true = rw e at h in
    false≢true (sym d ∙ (both (is_digit c base) (go_on base (y ∷ t)) k).0)

-- no digits go on here
nothing_goes : (base c : ℕ) (rest t u : List ℕ) → is_digit c base ≡ false → (eqb c 39 ≡ true → begins_with (λ d. is_digit d base) rest ≡ false)
    → c ∷ rest ≡ t ++ u → go_on base t ≡ true → length t ≤ 0
nothing_goes base c rest [] u d q e h = omega arith
nothing_goes base c rest (x ∷ []) u d q e h =
    let g : c ≡ x = head c x rest u e in
    let P : ℕ → Type 0 = λ z. is_digit z base ≡ true in
    false≢true (sym d ∙ subst P (sym g) h)
nothing_goes base c rest (x ∷ y ∷ t) u d q e h =
    let g : c ≡ x = head c x rest (y ∷ (t ++ u)) e in
    let r : rest ≡ y ∷ (t ++ u) = tail c x rest (y ∷ (t ++ u)) e in
    let P : ℕ → Type 0 = λ z. cond (eqb z 39) (is_digit y base && go_on base t) (is_digit z base && go_on base (y ∷ t)) ≡ true in
    nothing_goes-two base c y t (eqb c 39) refl d (λ k. sym (ap (begins_with (λ (z : ℕ). is_digit z base)) r) ∙ q k) (subst P (sym g) h)

nil_most : (t u : List ℕ) → [] ≡ t ++ u → length t ≤ 0
nil_most [] u e = omega arith
nil_most (x ∷ t) u e = absurd (cc)

stays : (base : ℕ) (cs : List ℕ) → ((t u : List ℕ) → cs ≡ t ++ u → go_on base t ≡ true → length t ≤ 0) → GoesOn base cs 0
stays base cs most = record { front = []; rest = cs; whole = refl; len = refl; each = refl; most = most }

digit_most : (base c : ℕ) (cs : List ℕ) (n : ℕ) → base ≤ 36 → is_digit c base ≡ true → GoesOn base cs n
    → (t u : List ℕ) → c ∷ cs ≡ t ++ u → go_on base t ≡ true → length t ≤ n + 1
digit_most base c cs n h d g [] u e k = omega arith
digit_most base c cs n h d g (x ∷ t) u e k =
    let f : c ≡ x = head c x cs (t ++ u) e in
    let P : ℕ → Type 0 = λ z. go_on base (z ∷ t) ≡ true in
    let r = g.most t u (tail c x cs (t ++ u) e) (sym (go_on-cons base c t h d) ∙ subst P (sym f) k) in
    omega (arith, r)

quote_most : (base d : ℕ) (cs : List ℕ) (n : ℕ) → base ≤ 36 → is_digit d base ≡ true → GoesOn base cs n
    → (t u : List ℕ) → 39 ∷ d ∷ cs ≡ t ++ u → go_on base t ≡ true → length t ≤ n + 2
quote_most base d cs n h k g [] u e q = omega arith
quote_most base d cs n h k g (x ∷ []) u e q = omega arith
quote_most base d cs n h k g (x ∷ y ∷ t) u e q =
    let f : 39 ≡ x = head 39 x (d ∷ cs) (y ∷ (t ++ u)) e in
    let i = tail 39 x (d ∷ cs) (y ∷ (t ++ u)) e in
    let j : d ≡ y = head d y cs (t ++ u) i in
    let m : x ∷ y ∷ t ≡ 39 ∷ d ∷ t = cc in
    let r = g.most t u (tail d y cs (t ++ u) i) (sym (go_on-quote base d t k) ∙ (sym (ap (go_on base) m) ∙ q)) in
    omega (arith, r)

-- one digit more
digit_more : (base c : ℕ) (cs : List ℕ) (n : ℕ) → base ≤ 36 → is_digit c base ≡ true → GoesOn base cs n → GoesOn base (c ∷ cs) (n + 1)
digit_more base c cs n h d g = record {
  front = c ∷ g.front;
  rest = g.rest;
  whole = ap (λ z. c ∷ z) g.whole;
  len = omega (arith, g.len);
  each = go_on-cons base c g.front h d ∙ g.each;
  most = digit_most base c cs n h d g;
}

-- a quote and a digit more
quote_more : (base d : ℕ) (cs : List ℕ) (n : ℕ) → base ≤ 36 → is_digit d base ≡ true → GoesOn base cs n → GoesOn base (39 ∷ d ∷ cs) (n + 2)
quote_more base d cs n h k g = record {
  front = 39 ∷ d ∷ g.front;
  rest = g.rest;
  whole = ap (λ z. 39 ∷ d ∷ z) g.whole;
  len = omega (arith, g.len);
  each = go_on-quote base d g.front k ∙ g.each;
  most = quote_most base d cs n h k g;
}

-- what the code finds where a digit stands before
abbrev Found : ℕ → ℕ → List ℕ → Type 0
Found base i cs = (n : ℕ) × (digits_from base i i true cs ≡ i + n) × GoesOn base cs n

found_two : (base i c d : ℕ) (cs : List ℕ) → base ≤ 36 → (x : Bool) → is_digit c base ≡ x → (y : Bool) → eqb c 39 ≡ y → (z : Bool) → is_digit d base ≡ z
    → Found base (i + 1) (d ∷ cs) → Found base (i + 1 + 1) cs → Found base i (c ∷ d ∷ cs)
found_two base i c d cs h true ex y ey z ez f g = (f.0 + 1, rw ex (f.1 ∙ omega arith), digit_more base c (d ∷ cs) f.0 h ex f.2)
found_two base i c d cs h false ex true ey true ez f g =
    let e : c ≡ 39 = eqb-same c 39 ey in
    let P : ℕ → Type 0 = λ q. GoesOn base (q ∷ d ∷ cs) (g.0 + 2) in
    (g.0 + 2, rw (ex, ey, ez) (g.1 ∙ omega arith), subst P (sym e) (quote_more base d cs g.0 h ez g.2))
found_two base i c d cs h false ex true ey false ez f g =
    (0, rw (ex, ey, ez) (omega arith), stays base (c ∷ d ∷ cs) (λ t u e k. nothing_goes base c (d ∷ cs) t u ex (λ _. ez) e k))
found_two base i c d cs h false ex false ey z ez f g =
    (0, rw (ex, ey) (omega arith), stays base (c ∷ d ∷ cs) (λ t u e k. nothing_goes base c (d ∷ cs) t u ex (λ q. false≢true (sym ey ∙ q)) e k))

found_one : (base i c : ℕ) → base ≤ 36 → (x : Bool) → is_digit c base ≡ x → (y : Bool) → eqb c 39 ≡ y → Found base i (c ∷ [])
found_one base i c h true ex y ey =
    (1, rw ex refl, digit_more base c [] 0 h ex (stays base [] (λ t u e k. nil_most t u e)))
found_one base i c h false ex true ey =
    (0, rw (ex, ey) (omega arith), stays base (c ∷ []) (λ t u e k. nothing_goes base c [] t u ex (λ _. refl) e k))
found_one base i c h false ex false ey =
    (0, rw (ex, ey) (omega arith), stays base (c ∷ []) (λ t u e k. nothing_goes base c [] t u ex (λ _. refl) e k))

found : (base i : ℕ) (cs : List ℕ) → base ≤ 36 → Found base i cs
found base i [] h = (0, omega arith, stays base [] (λ t u e k. nil_most t u e))
found base i (c ∷ []) h = found_one base i c h (is_digit c base) refl (eqb c 39) refl
found base i (c ∷ d ∷ cs) h =
    found_two base i c d cs h (is_digit c base) refl (eqb c 39) refl (is_digit d base) refl
    (found base (i + 1) (d ∷ cs) h) (found base (i + 1 + 1) cs h)

-- the digits at the front of a text
pub record DigitSpan (base : ℕ) (cs : List ℕ) : Type 0 where
  pub front : List ℕ
  pub rest : List ℕ
  pub whole : cs ≡ front ++ rest
  pub len : length front ≡ digits_len base cs
  pub each : are_digits base front ≡ true
  pub most : (t u : List ℕ) → cs ≡ t ++ u → are_digits base t ≡ true → length t ≤ digits_len base cs

span_most : (base c : ℕ) (cs : List ℕ) (n : ℕ) → GoesOn base cs n → (t u : List ℕ) → c ∷ cs ≡ t ++ u → are_digits base t ≡ true → length t ≤ 1 + n
span_most base c cs n g [] u e h = omega arith
span_most base c cs n g (x ∷ t) u e h =
    let r = g.most t u (tail c x cs (t ++ u) e) (both (is_digit x base) (go_on base t) h).1 in omega (arith, r)

digit_span-cons : (base c : ℕ) (cs : List ℕ) → base ≤ 36 → is_digit c base ≡ true → DigitSpan base (c ∷ cs)
digit_span-cons base c cs h d =
    let f = found base 1 cs h in
    let e : digits_len base (c ∷ cs) ≡ 1 + f.0 = rw d f.1 in
    record {
      front = c ∷ f.2.front;
      rest = f.2.rest;
      whole = ap (λ z. c ∷ z) f.2.whole;
      len = omega (arith, f.2.len, e);
      each = both-from (is_digit c base) (go_on base f.2.front) d f.2.each;
      most = λ t u k q. let r = span_most base c cs f.0 f.2 t u k q in omega (arith, r, e);
    }

pub digit_span : (base : ℕ) (cs : List ℕ) → base ≤ 36 → begins_with (λ d. is_digit d base) cs ≡ true → DigitSpan base cs
digit_span base [] h d = false≢true d
digit_span base (c ∷ cs) h d = digit_span-cons base c cs h d

-- The base of a number, and its digits.

pub record NumberAt (cs : List ℕ) (b : Base) : Type 0 where
  pub digits : List ℕ
  pub whole : cs ≡ prefix b ++ digits
  pub first : begins_with (λ d. is_digit d (radix b)) digits ≡ true
  pub base_is : base_at cs ≡ b

number_base : (c d : ℕ) (cs : List ℕ) → is_digit c 10 ≡ true → (x : Bool) → ((c == 48 && d == 120) && begins_with (λ e. is_digit e 16) cs) ≡ x
    → (y : Bool) → ((c == 48 && d == 98) && begins_with (λ e. is_digit e 2) cs) ≡ y → (b : Base) × NumberAt (c ∷ d ∷ cs) b
number_base c d cs h true ex y ey =
    let p = both (c == 48 && d == 120) (begins_with (λ (e : ℕ). is_digit e 16) cs) ex in
    let q = both (eqb c 48) (eqb d 120) p.0 in
    let e : c ≡ 48 = eqb-same c 48 q.0 in
    let f : d ≡ 120 = eqb-same d 120 q.1 in
    (Hexadecimal, record { digits = cs; whole = cc; first = p.1; base_is = rw ex refl })
number_base c d cs h false ex true ey =
    let p = both (c == 48 && d == 98) (begins_with (λ (e : ℕ). is_digit e 2) cs) ey in
    let q = both (eqb c 48) (eqb d 98) p.0 in
    let e : c ≡ 48 = eqb-same c 48 q.0 in
    let f : d ≡ 98 = eqb-same d 98 q.1 in
    (Binary, record { digits = cs; whole = cc; first = p.1; base_is = rw (ex, ey) refl })
number_base c d cs h false ex false ey = (Decimal, record { digits = c ∷ d ∷ cs; whole = refl; first = h; base_is = rw (ex, ey) refl })

pub number_here : (c : ℕ) (cs : List ℕ) → is_digit c 10 ≡ true → (b : Base) × NumberAt (c ∷ cs) b
number_here c [] h = (Decimal, record { digits = c ∷ []; whole = refl; first = h; base_is = refl })
number_here c (d ∷ cs) h = number_base c d cs h _ refl _ refl

radix_le : (b : Base) → radix b ≤ 36
radix_le Decimal = lit≤ tt
radix_le Hexadecimal = lit≤ tt
radix_le Binary = lit≤ tt

pub number_span : (cs : List ℕ) (b : Base) → (at : NumberAt cs b) → DigitSpan (radix b) at.digits
number_span cs b at = digit_span (radix b) at.digits (radix_le b) at.first

-- the base of a number that begins a text is that of the text
digits_begin : (base : ℕ) (d u : List ℕ) → are_digits base d ≡ true → begins_with (λ e. is_digit e base) (d ++ u) ≡ true
digits_begin base [] u h = false≢true h
digits_begin base (x ∷ d) u h = (both (is_digit x base) (go_on base d) h).0

base_hexadecimal : (cs d u : List ℕ) → cs ≡ 48 ∷ 120 ∷ (d ++ u) → are_digits 16 d ≡ true → base_at cs ≡ Hexadecimal
base_hexadecimal cs d u e h = ap base_at e ∙ rw (digits_begin 16 d u h) refl

base_binary : (cs d u : List ℕ) → cs ≡ 48 ∷ 98 ∷ (d ++ u) → are_digits 2 d ≡ true → base_at cs ≡ Binary
base_binary cs d u e h = ap base_at e ∙ rw (digits_begin 2 d u h) refl

-- decimal digits end before the letter of a prefix
before_letter : (x : ℕ) (t u ds : List ℕ) → ((d : List ℕ) → are_digits 10 (48 ∷ x ∷ d) ≡ false) → 48 ∷ x ∷ ds ≡ t ++ u → are_digits 10 t ≡ true → length t ≤ 2
before_letter x [] u ds never e h = omega arith
before_letter x (a ∷ []) u ds never e h = omega arith
before_letter x (a ∷ b ∷ t) u ds never e h =
    let f : 48 ≡ a = head 48 a (x ∷ ds) (b ∷ (t ++ u)) e in
    let g : x ≡ b = head x b ds (t ++ u) (tail 48 a (x ∷ ds) (b ∷ (t ++ u)) e) in
    let k : a ∷ b ∷ t ≡ 48 ∷ x ∷ t = cc in
    false≢true (sym (never t) ∙ (sym (ap (are_digits 10) k) ∙ h))

-- no longer front of the text is a number
pub number_most : (cs t u : List ℕ) (b : Base) (at : NumberAt cs b) (m : ℕ) → cs ≡ t ++ u → IsNumber m t
    → length t ≤ length (prefix b) + digits_len (radix b) at.digits
number_most cs t u Decimal at m e (Decimal, d, h, k, v) =
    let s = number_span cs Decimal at in
    let r = s.most t u (sym at.whole ∙ e) (ap (are_digits 10) h ∙ k) in omega (arith, r)
number_most cs t u Hexadecimal at m e (Hexadecimal, d, h, k, v) =
    let s = number_span cs Hexadecimal at in
    let r = s.most d u (append_cancel_left (48 ∷ 120 ∷ []) at.digits (d ++ u) (sym at.whole ∙ (e ∙ ap (λ z. z ++ u) h))) k in
    omega (arith, r, ap length h)
number_most cs t u Binary at m e (Binary, d, h, k, v) =
    let s = number_span cs Binary at in
    let r = s.most d u (append_cancel_left (48 ∷ 98 ∷ []) at.digits (d ++ u) (sym at.whole ∙ (e ∙ ap (λ z. z ++ u) h))) k in
    omega (arith, r, ap length h)
number_most cs t u Hexadecimal at m e (Decimal, d, h, k, v) =
    let r = before_letter 120 t u at.digits no_x (sym at.whole ∙ e) (ap (are_digits 10) h ∙ k) in omega (arith, r)
number_most cs t u Binary at m e (Decimal, d, h, k, v) =
    let r = before_letter 98 t u at.digits no_b (sym at.whole ∙ e) (ap (are_digits 10) h ∙ k) in omega (arith, r)
number_most cs t u Decimal at m e (Hexadecimal, d, h, k, v) =
    let x = sym at.base_is ∙ base_hexadecimal cs d u (e ∙ ap (λ z. z ++ u) h) k in absurd (cc)
number_most cs t u Decimal at m e (Binary, d, h, k, v) =
    let x = sym at.base_is ∙ base_binary cs d u (e ∙ ap (λ z. z ++ u) h) k in absurd (cc)
number_most cs t u Hexadecimal at m e (Binary, d, h, k, v) =
    let x = sym at.base_is ∙ base_binary cs d u (e ∙ ap (λ z. z ++ u) h) k in absurd (cc)
number_most cs t u Binary at m e (Hexadecimal, d, h, k, v) =
    let x = sym at.base_is ∙ base_hexadecimal cs d u (e ∙ ap (λ z. z ++ u) h) k in absurd (cc)
