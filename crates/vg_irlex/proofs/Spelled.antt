-- The longest lexeme in its place, by its first byte.
use Rattle.std.proofs.Common.{◌≡◌, ℕ, ◌+◌, ◌<◌, ◌≤◌, Bool, true, false, ◌&&◌, ◌||◌, ◌==◌, nat_lt, List, [], ◌∷◌, ◌++◌, length, refl, sym, ap, subst, ◌∙◌, arith}
use Rattle.std.proofs.lemmas.Bool.Decides.{nat_tests}
use Rattle.std.specs.List.{list_all, prefix_len}
use Rattle.std.specs.Char.{is_ascii_digit}
use Rattle.vg_irlex.specs.Lexing.{is_white, may_start_name, may_continue_name, is_run_byte, is_nil, ends_quote, is_quoted, is_bare_name, is_lexeme}
use Rattle.vg_irlex.specs.Front.{begins_with, quoted_len, bare_name_len, behind_quote, behind_c, lexeme_len}
use Rattle.vg_irlex.proofs.Lists.{false≢true, or_false, head, tail}
use Rattle.vg_irlex.proofs.Longest.{Longest, on_fronts, cons_longest, stays, nil_longest, no_text, span_longest, is_inner, closed_longest, open_none}

-- ---- quoted texts

-- whether a quote follows
pub data Quote (cs : List ℕ) : Type 0 where
  closed : (k : ℕ) → quoted_len cs ≡ k + 1 → nat_lt 0 (quoted_len cs) ≡ true → Longest ends_quote cs k → Quote cs
  open_quote : quoted_len cs ≡ 0 → ((t u : List ℕ) → cs ≡ t ++ u → ends_quote t ≡ false) → Quote cs

quote_by : (cs : List ℕ) (b : Bool) → nat_lt (prefix_len is_inner cs) (length cs) ≡ b → Quote cs
unfolding quoted_len
quote_by cs true h =
    let l : prefix_len is_inner cs < length cs = grind (arith, nat_tests) in
    let n : quoted_len cs ≡ prefix_len is_inner cs + 1 + 1 = rw h (omega arith) in
    closed (prefix_len is_inner cs + 1) n (rw n (grind (arith, nat_tests))) (closed_longest cs l)
quote_by cs false h =
    let l : length cs ≤ prefix_len is_inner cs = grind (arith, nat_tests) in
    open_quote (rw h refl) (λ t u e. open_none cs t u e l)

pub quote : (cs : List ℕ) → Quote cs
quote cs = quote_by cs (nat_lt (prefix_len is_inner cs) (length cs)) refl

-- ---- names

-- what may stand behind a `%`: nothing, or a bare name
abbrev pub may_be_bare : List ℕ → Bool
may_be_bare t = is_nil t || is_bare_name t

start_other : (c : ℕ) → may_start_name c ≡ true → (is_ascii_digit c ≡ false) × ((c == 34) ≡ false)
start_other c h = (grind (arith, nat_tests), grind (arith, nat_tests))

digit_other : (c : ℕ) → is_ascii_digit c ≡ true → (may_start_name c ≡ false) × ((c == 34) ≡ false)
digit_other c h = (grind (arith, nat_tests), grind (arith, nat_tests))

bare_start : (a b : Bool) → (((true && a) || (false && b)) || (false && b)) ≡ a
bare_start true b = refl
bare_start false b = refl

word_bare : (c : ℕ) → may_start_name c ≡ true → (t : List ℕ) → may_be_bare (c ∷ t) ≡ list_all may_continue_name t
word_bare c h t = let o = start_other c h in rw (h, o.0, o.1) (or_false _ ∙ or_false _)

digits_bare : (c : ℕ) → is_ascii_digit c ≡ true → (t : List ℕ) → may_be_bare (c ∷ t) ≡ list_all is_ascii_digit t
digits_bare c h t = let o = digit_other c h in rw (o.0, h, o.1) (or_false _)

quote_bare : (t : List ℕ) → may_be_bare (34 ∷ t) ≡ ends_quote t
quote_bare t = refl

bare_quoted : (cs : List ℕ) → Quote cs → Longest may_be_bare (34 ∷ cs) (quoted_len cs)
bare_quoted cs (closed k n p l) = subst (Longest may_be_bare (34 ∷ cs)) (sym n) (cons_longest may_be_bare ends_quote 34 cs k quote_bare l)
bare_quoted cs (open_quote n none) =
    subst (Longest may_be_bare (34 ∷ cs)) (sym n) (stays may_be_bare (34 ∷ cs) refl (λ c t u e.
    let f : c ≡ 34 = sym (head 34 c cs (t ++ u) e) in
    let P : ℕ → Type 0 = λ z. may_be_bare (z ∷ t) ≡ false in
    subst P (sym f) (none t u (tail 34 c cs (t ++ u) e))))

bare_by : (c : ℕ) (cs : List ℕ) (x y z : Bool) → may_start_name c ≡ x → is_ascii_digit c ≡ y → (c == 34) ≡ z
    → Longest may_be_bare (c ∷ cs) (bare_name_len (c ∷ cs))
unfolding bare_name_len
bare_by c cs true y z hx hy hz =
    let n : bare_name_len (c ∷ cs) ≡ prefix_len may_continue_name cs + 1 = rw hx refl in
    subst (Longest may_be_bare (c ∷ cs)) (sym n)
    (cons_longest may_be_bare (list_all may_continue_name) c cs _ (word_bare c hx) (span_longest may_continue_name cs))
bare_by c cs false true z hx hy hz =
    let n : bare_name_len (c ∷ cs) ≡ prefix_len is_ascii_digit cs + 1 = rw (hx, hy) refl in
    subst (Longest may_be_bare (c ∷ cs)) (sym n)
    (cons_longest may_be_bare (list_all is_ascii_digit) c cs _ (digits_bare c hy) (span_longest is_ascii_digit cs))
bare_by c cs false false true hx hy hz =
    let n : bare_name_len (c ∷ cs) ≡ quoted_len cs = rw (hx, hy, hz) refl in
    let e : c ≡ 34 = grind (arith, nat_tests) in
    let P : ℕ → Type 0 = λ z. Longest may_be_bare (z ∷ cs) (quoted_len cs) in
    subst (Longest may_be_bare (c ∷ cs)) (sym n) (subst P (sym e) (bare_quoted cs (quote cs)))
bare_by c cs false false false hx hy hz =
    let n : bare_name_len (c ∷ cs) ≡ 0 = rw (hx, hy, hz) refl in
    subst (Longest may_be_bare (c ∷ cs)) (sym n) (stays may_be_bare (c ∷ cs) refl (λ d t u e.
    let f : c ≡ d = head c d cs (t ++ u) e in
    let P : ℕ → Type 0 = λ z. may_be_bare (z ∷ t) ≡ false in
    subst P f (rw (hx, hy, hz) refl)))

bare : (cs : List ℕ) → Longest may_be_bare cs (bare_name_len cs)
unfolding bare_name_len
bare [] = no_text may_be_bare refl
bare (c ∷ cs) = bare_by c cs (may_start_name c) (is_ascii_digit c) (c == 34) refl refl refl

-- ---- lexemes by their first byte

name_other : (c : ℕ) → (c == 37 || c == 64) ≡ true
    → ((c == 34) ≡ false) × ((c == 99) ≡ false) × (is_run_byte c ≡ false) × (is_white c ≡ false) × ((c == 59) ≡ false)
name_other c h = (grind (arith, nat_tests), grind (arith, nat_tests), grind (arith, nat_tests), grind (arith, nat_tests), grind (arith, nat_tests))

name_test : (a n : Bool) → (((a || false) || false) || (false || (n && true))) ≡ (n || a)
name_test true true = refl
name_test true false = refl
name_test false true = refl
name_test false false = refl

name_lexeme : (c : ℕ) → (c == 37 || c == 64) ≡ true → (t : List ℕ) → is_lexeme (c ∷ t) ≡ may_be_bare t
name_lexeme c h t = let o = name_other c h in rw (h, o.0, o.1, o.2, o.3, o.4) (name_test (is_bare_name t) (is_nil t))

quote_test : (a n : Bool) → (((false || a) || false) || (false || (n && true))) ≡ (n || a)
quote_test true true = refl
quote_test true false = refl
quote_test false true = refl
quote_test false false = refl

quote_lexeme : (t : List ℕ) → is_lexeme (34 ∷ t) ≡ (is_nil t || ends_quote t)
quote_lexeme t = quote_test (ends_quote t) (is_nil t)

-- nothing, or what ends a quote
abbrev may_end_quote : List ℕ → Bool
may_end_quote t = is_nil t || ends_quote t

same_end : (c : ℕ) (t : List ℕ) → may_end_quote (c ∷ t) ≡ ends_quote (c ∷ t)
same_end c t = refl

ends_some : (cs : List ℕ) (k : ℕ) → Longest ends_quote cs k → (t u : List ℕ) → cs ≡ t ++ u → may_end_quote t ≡ true → length t ≤ k
ends_some cs k l [] u e h = omega arith
ends_some cs k l (c ∷ t) u e h = l.most (c ∷ t) u e h

or_true : (a b : Bool) → b ≡ true → (a || b) ≡ true
or_true true b h = refl
or_true false b h = h

behind_quote_by : (cs : List ℕ) → Quote cs → (n : ℕ) × (behind_quote cs ≡ n + 1) × Longest may_end_quote cs n
unfolding behind_quote
behind_quote_by cs (closed k n p l) =
    (k, rw p n, record { front = l.front; rest = l.rest; whole = l.whole; len = l.len; fits = or_true (is_nil l.front) _ l.fits; most = ends_some cs k l })
behind_quote_by cs (open_quote n none) =
    let z : behind_quote cs ≡ 1 = rw n refl in
    (0, z, stays may_end_quote cs refl (λ c t u e. none (c ∷ t) u e))

run_c_test : (q r n : Bool) → (((false || false) || q) || (r || (n && true))) ≡ (q || (r || n))
run_c_test true r n = refl
run_c_test false true n = refl
run_c_test false false true = refl
run_c_test false false false = refl

run_nil : (p : ℕ → Bool) (t : List ℕ) → (list_all p t || is_nil t) ≡ list_all p t
run_nil p [] = refl
run_nil p (c ∷ t) = or_false _

-- what may stand behind a `c`
abbrev may_follow_c : List ℕ → Bool
may_follow_c t = is_quoted t || list_all is_run_byte t

c_lexeme : (t : List ℕ) → is_lexeme (99 ∷ t) ≡ may_follow_c t
c_lexeme t = run_c_test (is_quoted t) (list_all is_run_byte t) (is_nil t) ∙ ap (λ b. is_quoted t || b) (run_nil is_run_byte t)

run_front : (cs : List ℕ) → begins_with 34 cs ≡ false → (t u : List ℕ) → cs ≡ t ++ u → may_follow_c t ≡ list_all is_run_byte t
run_front cs h [] u e = refl
run_front cs h (c ∷ t) u e =
    let f : (c == 34) ≡ false = sym (ap (begins_with 34) e) ∙ h in
    rw f refl

quoted_c : (t : List ℕ) → may_follow_c (34 ∷ t) ≡ ends_quote t
quoted_c t = or_false (ends_quote t)

behind_c_quote : (cs : List ℕ) → Quote cs → (n : ℕ) × (behind_c (34 ∷ cs) ≡ n + 1) × Longest may_follow_c (34 ∷ cs) n
unfolding behind_c
behind_c_quote cs (closed k n p l) =
    let z : behind_c (34 ∷ cs) ≡ quoted_len cs + 1 = rw p refl in
    (k + 1, z ∙ ap (λ m. m + 1) n, cons_longest may_follow_c ends_quote 34 cs k quoted_c l)
behind_c_quote cs (open_quote n none) =
    let z : behind_c (34 ∷ cs) ≡ 1 = rw n refl in (
      0,
      z,
      stays may_follow_c (34 ∷ cs) refl (λ c t u e.
          let f : c ≡ 34 = sym (head 34 c cs (t ++ u) e) in
          let P : ℕ → Type 0 = λ z. may_follow_c (z ∷ t) ≡ false in
          subst P (sym f) (quoted_c t ∙ none t u (tail 34 c cs (t ++ u) e))),
    )

behind_c_by : (cs : List ℕ) (b : Bool) → begins_with 34 cs ≡ b → (n : ℕ) × (behind_c cs ≡ n + 1) × Longest may_follow_c cs n
unfolding behind_c
behind_c_by [] true h = false≢true h
behind_c_by (c ∷ cs) true h =
    let e : c ≡ 34 = grind (arith, nat_tests) in
    let P : ℕ → Type 0 = λ z. (n : ℕ) × (behind_c (z ∷ cs) ≡ n + 1) × Longest may_follow_c (z ∷ cs) n in
    subst P (sym e) (behind_c_quote cs (quote cs))
behind_c_by cs false h =
    (prefix_len is_run_byte cs, rw h refl, on_fronts may_follow_c (list_all is_run_byte) cs _ (run_front cs h) (span_longest is_run_byte cs))

run_test : (r n x : Bool) → (((false || false) || false) || (r || (n && x))) ≡ (r || (n && x))
run_test r n x = refl

run_single : (p : ℕ → Bool) (t : List ℕ) (x : Bool) → (list_all p t || (is_nil t && x)) ≡ list_all p t
run_single p [] x = refl
run_single p (c ∷ t) x = or_false _

run_lexeme : (c : ℕ) → (c == 37 || c == 64) ≡ false → (c == 34) ≡ false → (c == 99) ≡ false → is_run_byte c ≡ true
    → (t : List ℕ) → is_lexeme (c ∷ t) ≡ list_all is_run_byte t
run_lexeme c a q d r t = rw (a, q, d, r) (run_single is_run_byte t _)

single_test : (n : Bool) → (((false || false) || false) || (false || (n && true))) ≡ n
single_test true = refl
single_test false = refl

single_lexeme : (c : ℕ) → (c == 37 || c == 64) ≡ false → (c == 34) ≡ false → (c == 99) ≡ false → is_run_byte c ≡ false
    → is_white c ≡ false → (c == 59) ≡ false → (t : List ℕ) → is_lexeme (c ∷ t) ≡ is_nil t
single_lexeme c a q d r w s t = rw (a, q, d, r, w, s) (single_test (is_nil t))

lexeme_by : (c : ℕ) (cs : List ℕ) (x1 x2 x3 x4 : Bool) → (c == 37 || c == 64) ≡ x1 → (c == 34) ≡ x2 → (c == 99) ≡ x3 → is_run_byte c ≡ x4
    → is_white c ≡ false → (c == 59) ≡ false → Longest is_lexeme (c ∷ cs) (lexeme_len c cs)
unfolding lexeme_len
lexeme_by c cs true x2 x3 x4 h1 h2 h3 h4 w s =
    let n : lexeme_len c cs ≡ bare_name_len cs + 1 = rw h1 refl in
    subst (Longest is_lexeme (c ∷ cs)) (sym n) (cons_longest is_lexeme may_be_bare c cs _ (name_lexeme c h1) (bare cs))
lexeme_by c cs false true x3 x4 h1 h2 h3 h4 w s =
    let n : lexeme_len c cs ≡ behind_quote cs = rw (h1, h2) refl in
    let e : c ≡ 34 = grind (arith, nat_tests) in
    let b = behind_quote_by cs (quote cs) in
    let P : ℕ → Type 0 = λ z. Longest is_lexeme (z ∷ cs) (b.0 + 1) in
    subst (Longest is_lexeme (c ∷ cs)) (sym (n ∙ b.1)) (subst P (sym e) (cons_longest is_lexeme may_end_quote 34 cs b.0 quote_lexeme b.2))
lexeme_by c cs false false true x4 h1 h2 h3 h4 w s =
    let n : lexeme_len c cs ≡ behind_c cs = rw (h1, h2, h3) refl in
    let e : c ≡ 99 = grind (arith, nat_tests) in
    let b = behind_c_by cs (begins_with 34 cs) refl in
    let P : ℕ → Type 0 = λ z. Longest is_lexeme (z ∷ cs) (b.0 + 1) in
    subst (Longest is_lexeme (c ∷ cs)) (sym (n ∙ b.1)) (subst P (sym e) (cons_longest is_lexeme may_follow_c 99 cs b.0 c_lexeme b.2))
lexeme_by c cs false false false true h1 h2 h3 h4 w s =
    let n : lexeme_len c cs ≡ prefix_len is_run_byte cs + 1 = rw (h1, h2, h3, h4) refl in
    subst (Longest is_lexeme (c ∷ cs)) (sym n)
    (cons_longest is_lexeme (list_all is_run_byte) c cs _ (run_lexeme c h1 h2 h3 h4) (span_longest is_run_byte cs))
lexeme_by c cs false false false false h1 h2 h3 h4 w s =
    let n : lexeme_len c cs ≡ 1 = rw (h1, h2, h3, h4) refl in
    subst (Longest is_lexeme (c ∷ cs)) (sym n) (cons_longest is_lexeme is_nil c cs 0 (single_lexeme c h1 h2 h3 h4 w s) (nil_longest cs))

-- the longest lexeme in its place has the length that is found
pub lexeme_longest : (c : ℕ) (cs : List ℕ) → is_white c ≡ false → (c == 59) ≡ false → Longest is_lexeme (c ∷ cs) (lexeme_len c cs)
lexeme_longest c cs w s = lexeme_by c cs (c == 37 || c == 64) (c == 34) (c == 99) (is_run_byte c) refl refl refl refl w s
