-- What is found at the front of a text stands there.
use Rattle.std.proofs.Common.{◌≡◌, ◌≢◌, inl, inr, ℕ, ◌+◌, ◌^◌, ◌<◌, ◌≤◌, Bool, true, false, cond, not, ◌&&◌, ◌||◌, ◌==◌, nat_le, nat_lt, List, [], ◌∷◌, ◌++◌, length, take, drop, Option, Some, None, refl, sym, ap, subst, ◌∙◌, arith, append_assoc, length-append}
use Rattle.std.proofs.lemmas.Bool.Decides.{nat_tests}
use Rattle.std.proofs.lemmas.List.{append-nil, take_at, drop_at, nil_from_length}
use Rattle.std.specs.Option.{option_map_or}
use Rattle.std.specs.List.{list_all, prefix_len}
use Rattle.std.specs.Char.{is_digit}
use Rattle.vg_tok.specs.declared.token.Kind.{Kind}
use Rattle.vg_tok.specs.declared.token.Kind.TheVariants as kinds
use Rattle.vg_tok.specs.declared.sign.Sign.{Sign}
use Rattle.vg_tok.specs.declared.word.Word.{Word}
use Rattle.vg_tok.specs.declared.number.Base.{Base}
use Rattle.vg_tok.specs.declared.lexeme.Lexeme.{Lexeme}
use Rattle.vg_tok.specs.declared.lexeme.Lexeme.TheVariants as lexemes
use Rattle.vg_tok.specs.Tables.{reserved_words, all_signs}
use Rattle.vg_tok.specs.Lexing.{is_white, may_start, may_continue, is_string_char, begins_with, is_name, entry_of, radix, prefix, value_from, IsNumber, Spells, begins_comment, has_close, ends_line, IsLongest, IsToken, BeginsNothing}
use Rattle.vg_tok.specs.Front.{digits_len, close_from, number_of, number_at, string_at, sign_at, block_at, lexeme_at}
use Rattle.vg_tok.specs.Reading.{name_or_word, Begins, Means}
use Rattle.vg_tok.proofs.Lists.{false≢true, both, both-from, chosen, head, tail, Span, span, cut_once, list_all-append}
use Rattle.vg_tok.proofs.Characters.{Letter, Digit, Quote, Other, class, class-quote, class-other}
use Rattle.vg_tok.proofs.Spelled.{class_of, spells-first, one_class, spells-letter, sign-text}
use Rattle.vg_tok.proofs.Elements.{has_close-tail}
use Rattle.vg_tok.proofs.Digits.{eqb-same, NumberAt, number_here, number_span, number_most}
use Rattle.vg_tok.proofs.Steps.{and_false}

or_false : (a b : Bool) → a ≡ false → b ≡ false → (a || b) ≡ false
or_false a b h k = rw (h, k) refl

not_false : (b : Bool) → not b ≡ false → b ≡ true
not_false true h = refl
not_false false h = false≢true (sym h)

zero_star : ◌≡◌ {A = ℕ} 0 42 → ⊥
zero_star h = omega arith

no_comment_bool : (a b c : Bool) → (a && b) ≡ false → (a && c) ≡ false → (a && (b || c)) ≡ false
no_comment_bool true b c h k = or_false b c h k
no_comment_bool false b c h k = refl

-- Comments and white space.

white_means : (c : ℕ) (cs : List ℕ) → is_white c ≡ true → Begins (c ∷ cs) None 1
white_means c cs h = record { text = c ∷ []; rest = cs; whole = refl; len_is = refl; some = omega arith; element = inl (c, refl, h) }

line_ends : (rest : List ℕ) → begins_with (λ c. not (c == 10)) rest ≡ false → ends_line rest ≡ true
line_ends [] h = refl
line_ends (c ∷ rest) h = not_false (c == 10) h

line_means : (c : ℕ) (cs : List ℕ) → (c == 47 && begins_with (λ d. d == 47) cs) ≡ true
    → Begins (c ∷ cs) None (prefix_len (λ d. not (d == 10)) (drop 1 cs) + 2)
line_means c [] h = false≢true (sym (and_false (c == 47)) ∙ h)
line_means c (d ∷ cs) h =
    let p = both (c == 47) (d == 47) h in
    let e : c ≡ 47 = eqb-same c 47 p.0 in
    let f : d ≡ 47 = eqb-same d 47 p.1 in
    let s = span (λ x. not (x == 10)) cs in
    let w = s.whole in
    record {
      text = 47 ∷ 47 ∷ s.front;
      rest = s.rest;
      whole = cc;
      len_is = omega (arith, s.len);
      some = omega arith;
      element = inr (inl (s.front, refl, s.each, line_ends s.rest s.stops));
    }

-- a `*/` that is found is the first
record Closes (p : ℕ) (cs : List ℕ) (i n : ℕ) : Type 0 where
  body : List ℕ
  rest : List ℕ
  whole : p ∷ cs ≡ body ++ (42 ∷ 47 ∷ rest)
  first : has_close (body ++ 42 ∷ []) ≡ false
  place : n + 1 ≡ i + length body + 2

abbrev CloseMeans : ℕ → List ℕ → ℕ → Option ℕ → Type 0
CloseMeans p cs i None = has_close (p ∷ cs) ≡ false
CloseMeans p cs i (Some n) = Closes p cs i n

first_more : (p c : ℕ) (cs body rest : List ℕ) → (p == 42 && c == 47) ≡ false → c ∷ cs ≡ body ++ (42 ∷ 47 ∷ rest)
    → has_close (body ++ 42 ∷ []) ≡ false → has_close (p ∷ (body ++ 42 ∷ [])) ≡ false
first_more p c cs [] rest t e h = or_false (p == 42 && false) false (and_false (p == 42)) refl
first_more p c cs (x ∷ body) rest t e h =
    let f : c ≡ x = head c x cs (body ++ (42 ∷ 47 ∷ rest)) e in
    or_false (p == 42 && x == 47) (has_close (x ∷ (body ++ 42 ∷ []))) (ap (λ z. p == 42 && z == 47) (sym f) ∙ t) h

close_more : (p c i : ℕ) (cs : List ℕ) → (p == 42 && c == 47) ≡ false → (o : Option ℕ) → CloseMeans c cs (i + 1) o → CloseMeans p (c ∷ cs) i o
close_more p c i cs t None h = or_false (p == 42 && c == 47) (has_close (c ∷ cs)) t h
close_more p c i cs t (Some n) h = record {
  body = p ∷ h.body;
  rest = h.rest;
  whole = ap (λ z. p ∷ z) h.whole;
  first = first_more p c cs h.body h.rest t h.whole h.first;
  place = omega (arith, h.place);
}

close_cons : (p c i : ℕ) (cs : List ℕ) (t : Bool) → (p == 42 && c == 47) ≡ t
    → CloseMeans c cs (i + 1) (close_from (i + 1) (c == 42) cs) → CloseMeans p (c ∷ cs) i (close_from i (p == 42) (c ∷ cs))
close_cons p c i cs true t h =
    let q = both (p == 42) (c == 47) t in
    let e : p ≡ 42 = eqb-same p 42 q.0 in
    let f : c ≡ 47 = eqb-same c 47 q.1 in
    let r : Closes p (c ∷ cs) i (i + 1) = record { body = []; rest = cs; whole = cc; first = refl; place = omega arith } in
    let g : close_from i (p == 42) (c ∷ cs) ≡ Some (i + 1) = rw t refl in
    subst (CloseMeans p (c ∷ cs) i) (sym g) r
close_cons p c i cs false t h =
    let g : close_from i (p == 42) (c ∷ cs) ≡ close_from (i + 1) (c == 42) cs = rw t refl in
    subst (CloseMeans p (c ∷ cs) i) (sym g) (close_more p c i cs t (close_from (i + 1) (c == 42) cs) h)

close_means : (p i : ℕ) (cs : List ℕ) → CloseMeans p cs i (close_from i (p == 42) cs)
close_means p i [] = refl
close_means p i (c ∷ cs) = close_cons p c i cs (p == 42 && c == 47) refl (close_means c (i + 1) cs)

-- behind the `/*`
block_found : (cs body rest : List ℕ) (n : ℕ) → 0 ∷ cs ≡ body ++ (42 ∷ 47 ∷ rest) → has_close (body ++ 42 ∷ []) ≡ false → n + 1 ≡ 0 + length body + 2
    → Begins (47 ∷ 42 ∷ cs) None (n + 2)
block_found cs [] rest n e h k = absurd (zero_star (head 0 42 cs (47 ∷ rest) e))
block_found cs (x ∷ body) rest n e h k = record {
  text = 47 ∷ 42 ∷ (body ++ (42 ∷ 47 ∷ []));
  rest = rest;
  whole = ap (λ z. 47 ∷ 42 ∷ z) (tail 0 x cs (body ++ (42 ∷ 47 ∷ rest)) e ∙ sym (append_assoc body (42 ∷ 47 ∷ []) rest));
  len_is = omega (arith, length-append body (42 ∷ 47 ∷ []));
  some = omega arith;
  element = inr (inr (body, refl, has_close-tail x (body ++ 42 ∷ []) h));
}

block_of : (cs : List ℕ) (o : Option ℕ) → CloseMeans 0 cs 0 o → Means (option_map_or (λ n. lexemes.Gap (n + 2)) o lexemes.Open) (47 ∷ 42 ∷ cs)
block_of cs None h = (cs, refl, has_close-tail 0 cs h)
block_of cs (Some n) h = block_found cs h.body h.rest n h.whole h.first h.place

pub block_means : (c : ℕ) (cs : List ℕ) → (c == 47 && begins_with (λ d. d == 42) cs) ≡ true → Means (block_at (drop 1 cs)) (c ∷ cs)
unfolding block_at
block_means c [] h = false≢true (sym (and_false (c == 47)) ∙ h)
block_means c (d ∷ cs) h =
    let p = both (c == 47) (d == 42) h in
    let e : c ≡ 47 = eqb-same c 47 p.0 in
    let f : d ≡ 42 = eqb-same d 42 p.1 in
    let w : 47 ∷ 42 ∷ cs ≡ c ∷ d ∷ cs = cc in
    subst (Means (option_map_or (λ n. lexemes.Gap (n + 2)) (close_from 0 false cs) lexemes.Open)) w (block_of cs (close_from 0 false cs) (close_means 0 0 cs))

-- no comment begins here
no_comment_here : (c : ℕ) (cs : List ℕ) → (c == 47 && begins_with (λ d. d == 47) cs) ≡ false → (c == 47 && begins_with (λ d. d == 42) cs) ≡ false
    → begins_comment (c ∷ cs) ≡ false
no_comment_here c [] h k = refl
no_comment_here c (d ∷ cs) h k = no_comment_bool (c == 47) (d == 47) (d == 42) h k

-- Names and reserved words.

-- a name's spelling goes on with characters that may go on a name
name_goes : (text : List ℕ) (x : ℕ) (more : List ℕ) (k : Kind) → Spells k text → is_name (text ++ x ∷ more) ≡ true → may_continue x ≡ true
name_goes [] x more k s n = let f = spells-first k [] s in let g : [] ≡ f.first ∷ f.others = f.whole in absurd (cc)
name_goes (c ∷ text) x more k s n =
    let a = list_all-append may_continue text (x ∷ more) (both (may_start c) (list_all may_continue (text ++ x ∷ more)) n).1 in
    (both (may_continue x) (list_all may_continue more) a.1).0

name_longest : (k : Kind) (text rest : List ℕ) → Spells k text → class_of k ≡ Letter → begins_with may_continue rest ≡ false
    → (more others : List ℕ) (j : Kind) → rest ≡ more ++ others → Spells j (text ++ more) → more ≡ []
name_longest k text rest s c h [] others j e r = refl
name_longest k text rest s c h (x ∷ more) others j e r =
    let i = one_class j k (text ++ x ∷ more) text [] (x ∷ more) (append-nil (text ++ x ∷ more)) r s in
    let n = spells-letter j (text ++ x ∷ more) r (i ∙ c) in
    false≢true (sym h ∙ (ap (begins_with may_continue) e ∙ name_goes text x more k s n))

name_token : (text rest : List ℕ) (o : Option Word) → entry_of reserved_words text ≡ o → is_name text ≡ true → begins_with may_continue rest ≡ false
    → begins_comment (text ++ rest) ≡ false → IsToken (name_or_word text o) text rest
name_token text rest None e n h c =
    let s : Spells (kinds.Name text) text = (refl, n, e) in
    (record { spells = s; longest = name_longest (kinds.Name text) text rest s refl h; no_comment = c }, tt)
name_token text rest (Some w) e n h c =
    (record { spells = e; longest = name_longest (kinds.Word w) text rest e refl h; no_comment = c }, tt)

pub name_means : (c : ℕ) (cs : List ℕ) → may_start c ≡ true → begins_comment (c ∷ cs) ≡ false → Means (lexemes.Name (prefix_len may_continue cs + 1)) (c ∷ cs)
name_means c cs h n =
    let s = span may_continue cs in
    let w : c ∷ cs ≡ (c ∷ s.front) ++ s.rest = ap (λ z. c ∷ z) s.whole in (
      c ∷ s.front,
      s.rest,
      w,
      omega (arith, s.len),
      omega arith,
      name_token (c ∷ s.front) s.rest _ refl (both-from (may_start c) (list_all may_continue s.front) h s.each) s.stops (ap begins_comment (sym w) ∙ n),
    )

-- Strings.

-- the class of the token that begins a text
first_class : (k : Kind) (c : ℕ) (cs text rest : List ℕ) → c ∷ cs ≡ text ++ rest → Spells k text → class c ≡ class_of k
first_class k c cs text rest e s =
    let f = spells-first k text s in
    let g : c ≡ f.first = head c f.first cs (f.others ++ rest) (e ∙ ap (λ z. z ++ rest) f.whole) in
    ap class g ∙ f.class_is

spells_quote : (k : Kind) (text : List ℕ) → Spells k text → class_of k ≡ Quote
    → (ds : List ℕ) × (text ≡ 34 ∷ (ds ++ 34 ∷ [])) × (ds ≢ []) × (list_all is_string_char ds ≡ true)
spells_quote (kinds.Name cs) text h c = absurd (cc)
spells_quote (kinds.Str cs) text h c = (cs, h.0, h.1, h.2)
spells_quote (kinds.Number n) text h c = absurd (cc)
spells_quote (kinds.Sign s) text h c = absurd (cc)
spells_quote (kinds.Word w) text h c = absurd (cc)

string_longest : (body rest : List ℕ) → Spells (kinds.Str body) (34 ∷ (body ++ 34 ∷ []))
    → (more others : List ℕ) (j : Kind) → rest ≡ more ++ others → Spells j ((34 ∷ (body ++ 34 ∷ [])) ++ more) → more ≡ []
string_longest body rest s more others j e r =
    let t = 34 ∷ (body ++ 34 ∷ []) in
    let q = spells_quote j (t ++ more) r (one_class j (kinds.Str body) (t ++ more) t [] more (append-nil (t ++ more)) r s) in
    let f = tail 34 34 ((body ++ 34 ∷ []) ++ more) (q.0 ++ 34 ∷ []) q.1 in
    let g = cut_once is_string_char body (34 ∷ more) q.0 (34 ∷ []) (sym (append_assoc body (34 ∷ []) more) ∙ f) s.2 q.3 refl refl in
    tail 34 34 more [] g.1

cons_not_nil : (c : ℕ) (cs : List ℕ) → c ∷ cs ≡ [] → ⊥
cons_not_nil c cs h = cc

begun : (x : ℕ) (cs : List ℕ) → begins_with (λ c. c == x) cs ≡ true → (rest : List ℕ) × (cs ≡ x ∷ rest)
begun x [] h = false≢true h
begun x (c ∷ cs) h = let e : c ≡ x = eqb-same c x h in (cs, cc)

lt_test : (m n : ℕ) → m < n → nat_lt m n ≡ true
lt_test m n h = grind (arith, nat_tests)

lt_from_test : (m n : ℕ) → nat_lt m n ≡ true → m < n
lt_from_test m n h = grind (arith, nat_tests)

le_from_test : (m n : ℕ) → nat_le m n ≡ true → m ≤ n
le_from_test m n h = grind (arith, nat_tests)

lt_from_not : (m n : ℕ) → nat_le m n ≡ false → n < m
lt_from_not m n h = grind (arith, nat_tests)

some_len : (cs : List ℕ) (n : ℕ) → n ≡ length cs → cs ≢ [] → 0 < n
some_len [] n e h = absurd (h refl)
some_len (c ∷ cs) n e h = omega arith

some_front : (p : ℕ → Bool) (cs : List ℕ) (s : Span p cs) → nat_lt 0 (prefix_len p cs) ≡ true → s.front ≢ []
some_front p cs s h e = let l = lt_from_test 0 (prefix_len p cs) h in absurd (omega (arith, l, s.len, ap length e))

string_found : (cs : List ℕ) (s : Span is_string_char cs) → nat_lt 0 (prefix_len is_string_char cs) ≡ true
    → (rest : List ℕ) → s.rest ≡ 34 ∷ rest → begins_comment (34 ∷ cs) ≡ false → Means (lexemes.Str (prefix_len is_string_char cs + 2)) (34 ∷ cs)
string_found cs s h rest e n =
    let text = 34 ∷ (s.front ++ 34 ∷ []) in
    let w : cs ≡ s.front ++ (34 ∷ rest) = s.whole ∙ ap (λ z. s.front ++ z) e in
    let v : 34 ∷ cs ≡ text ++ rest = ap (λ z. 34 ∷ z) (w ∙ sym (append_assoc s.front (34 ∷ []) rest)) in
    let p : Spells (kinds.Str s.front) text = (refl, some_front is_string_char cs s h, s.each) in
    let l : IsLongest (kinds.Str s.front) text rest = record { spells = p; longest = string_longest s.front rest p; no_comment = ap begins_comment (sym v) ∙ n } in (
      s.front,
      omega (arith, s.len),
      record { text = text; rest = rest; whole = v; len_is = omega (arith, s.len, length-append s.front (34 ∷ [])); some = omega arith; element = (l, tt) },
      (rest, ap (λ z. 34 ∷ z) w),
    )

string_nothing : (cs : List ℕ) (s : Span is_string_char cs) → (nat_lt 0 (prefix_len is_string_char cs) && begins_with (λ c. c == 34) s.rest) ≡ false
    → BeginsNothing (34 ∷ cs)
string_nothing cs s h = record {
  some = λ e. cons_not_nil 34 cs e;
  no_white = refl;
  no_token = λ k text rest e p.
      (let q = spells_quote k text p (sym (first_class k 34 cs text rest e p) ∙ class-quote) in
      let f : cs ≡ q.0 ++ (34 ∷ rest) = tail 34 34 cs _ (e ∙ ap (λ z. z ++ rest) q.1) ∙ append_assoc q.0 (34 ∷ []) rest in
      let g = cut_once is_string_char s.front s.rest q.0 (34 ∷ rest) (sym s.whole ∙ f) s.each q.3 s.stops refl in
      let l : 0 < prefix_len is_string_char cs = some_len q.0 (prefix_len is_string_char cs) (sym s.len ∙ ap length g.0) q.2 in
      false≢true (sym h ∙ both-from _ _ (lt_test 0 _ l) (ap (begins_with (λ (z : ℕ). z == 34)) g.1)));
}

string_means : (cs : List ℕ) → begins_comment (34 ∷ cs) ≡ false → Means (string_at cs) (34 ∷ cs)
unfolding string_at
string_means cs n =
    let s = span is_string_char cs in
    let m = prefix_len is_string_char cs in
    let d : drop m cs ≡ s.rest = ap (drop m) s.whole ∙ drop_at s.front s.rest m s.len in
    let P : List ℕ → Type 0 = λ r. Means (cond (nat_lt 0 m && begins_with (λ c. c == 34) r) (lexemes.Str (m + 2)) lexemes.Bad) (34 ∷ cs) in
    subst P (sym d) (chosen (nat_lt 0 m && begins_with (λ c. c == 34) s.rest) (lexemes.Str (m + 2)) lexemes.Bad (λ l. Means l (34 ∷ cs))
    (λ h. let q = both (nat_lt 0 m) (begins_with (λ (c : ℕ). c == 34) s.rest) h in
    let r = begun 34 s.rest q.1 in string_found cs s q.0 r.0 r.1 n)
    (λ h. string_nothing cs s h))

pub string_here : (c : ℕ) (cs : List ℕ) → (c == 34) ≡ true → begins_comment (c ∷ cs) ≡ false → Means (string_at cs) (c ∷ cs)
string_here c cs h n =
    let e : c ≡ 34 = eqb-same c 34 h in
    let P : ℕ → Type 0 = λ z. begins_comment (z ∷ cs) ≡ false → Means (string_at cs) (z ∷ cs) in
    subst P (sym e) (string_means cs) n

-- Numbers.

spells_number : (k : Kind) (text : List ℕ) → Spells k text → class_of k ≡ Digit → (n : ℕ) × IsNumber n text
spells_number (kinds.Name cs) text h c = absurd (cc)
spells_number (kinds.Str cs) text h c = absurd (cc)
spells_number (kinds.Number n) text h c = (n, h)
spells_number (kinds.Sign s) text h c = absurd (cc)
spells_number (kinds.Word w) text h c = absurd (cc)

number_longest : (cs : List ℕ) (b : Base) (at : NumberAt cs b) (v : ℕ) (text rest : List ℕ) → cs ≡ text ++ rest
    → length text ≡ length (prefix b) + digits_len (radix b) at.digits → Spells (kinds.Number v) text
    → (more others : List ℕ) (j : Kind) → rest ≡ more ++ others → Spells j (text ++ more) → more ≡ []
number_longest cs b at v text rest w m p more others j e r =
    let q = spells_number j (text ++ more) r (one_class j (kinds.Number v) (text ++ more) text [] more (append-nil (text ++ more)) r p) in
    let f : cs ≡ (text ++ more) ++ others = w ∙ (ap (λ z. text ++ z) e ∙ sym (append_assoc text more others)) in
    let g = number_most cs (text ++ more) others b at q.0 f q.1 in
    nil_from_length more (omega (arith, g, m, length-append text more))

number_some : (v : ℕ) (text : List ℕ) (n : ℕ) → Spells (kinds.Number v) text → length text ≡ n → 0 < n
number_some v text n p m = let f = spells-first (kinds.Number v) text p in omega (arith, m, ap length f.whole)

number_cases : (cs : List ℕ) (v : ℕ) (text rest : List ℕ) (n : ℕ) → cs ≡ text ++ rest → length text ≡ n → IsLongest (kinds.Number v) text rest
    → Means (cond (nat_le (2 ^ 128) v) lexemes.Wide (cond (begins_with may_continue rest) (lexemes.RunOn n) (lexemes.Number v n))) cs
number_cases cs v text rest n w m l =
    chosen (nat_le (2 ^ 128) v) lexemes.Wide _ (λ x. Means x cs)
    (λ h. (v, text, rest, w, l, le_from_test (2 ^ 128) v h))
    (λ h. chosen (begins_with may_continue rest) (lexemes.RunOn n) (lexemes.Number v n) (λ x. Means x cs)
    (λ k. (text, m, (v, rest, w, l, lt_from_not (2 ^ 128) v h, k)))
    (λ k. record { text = text; rest = rest; whole = w; len_is = m; some = number_some v text n l.spells m; element = (l, (lt_from_not (2 ^ 128) v h, k)) }))

number_of_means : (cs : List ℕ) (b : Base) (at : NumberAt cs b) → begins_comment cs ≡ false
    → Means (number_of (radix b) (length (prefix b)) at.digits) cs
number_of_means cs b at c =
    let s = number_span cs b at in
    let n = digits_len (radix b) at.digits in
    let skip = length (prefix b) in
    let f : take n at.digits ≡ s.front = ap (take n) s.whole ∙ take_at s.front s.rest n s.len in
    let g : drop n at.digits ≡ s.rest = ap (drop n) s.whole ∙ drop_at s.front s.rest n s.len in
    let v = value_from (radix b) 0 s.front in
    let text = prefix b ++ s.front in
    let w : cs ≡ text ++ s.rest = at.whole ∙ (ap (λ z. prefix b ++ z) s.whole ∙ sym (append_assoc (prefix b) s.front s.rest)) in
    let m : length text ≡ skip + n = length-append (prefix b) s.front ∙ ap (λ z. skip + z) s.len in
    let p : Spells (kinds.Number v) text = (b, s.front, refl, s.each, refl) in
    let l : IsLongest (kinds.Number v) text s.rest = record {
      spells = p;
      longest = number_longest cs b at v text s.rest w m p;
      no_comment = ap begins_comment (sym w) ∙ c;
    } in
    let P : List ℕ → List ℕ → Type 0 = λ x y. Means (cond (nat_le (2 ^ 128) (value_from (radix b) 0 x)) lexemes.Wide
    (cond (begins_with may_continue y) (lexemes.RunOn (skip + n)) (lexemes.Number (value_from (radix b) 0 x) (skip + n)))) cs in
    subst (λ (x : List ℕ). P x (drop n at.digits)) (sym f) (subst (λ (y : List ℕ). P s.front y) (sym g)
    (number_cases cs v text s.rest (skip + n) w m l))

pub number_means : (c : ℕ) (cs : List ℕ) → is_digit c 10 ≡ true → begins_comment (c ∷ cs) ≡ false → Means (number_at (c ∷ cs)) (c ∷ cs)
unfolding number_at
number_means c cs h n =
    let f = number_here c cs h in
    let all = c ∷ cs in
    let d : drop (length (prefix f.0)) all ≡ f.1.digits =
    ap (drop (length (prefix f.0))) f.1.whole ∙ drop_at (prefix f.0) f.1.digits (length (prefix f.0)) refl in
    let P : Base → Type 0 = λ b. Means (number_of (radix b) (length (prefix b)) (drop (length (prefix b)) all)) all in
    let Q : List ℕ → Type 0 = λ ds. Means (number_of (radix f.0) (length (prefix f.0)) ds) all in
    subst P (sym f.1.base_is) (subst Q (sym d) (number_of_means all f.0 f.1 n))

-- Signs.

spells_sign : (k : Kind) (text : List ℕ) → Spells k text → class_of k ≡ Other → (s : Sign) × (entry_of all_signs text ≡ Some s)
spells_sign (kinds.Name cs) text h c = absurd (cc)
spells_sign (kinds.Str cs) text h c = absurd (cc)
spells_sign (kinds.Number n) text h c = absurd (cc)
spells_sign (kinds.Sign s) text h c = (s, h)
spells_sign (kinds.Word w) text h c = absurd (cc)

empty_sign : (s : Sign) → entry_of all_signs [] ≡ Some s → ⊥
empty_sign s e = false≢true (sign-text [] s e)

sign_short : (x y z : ℕ) (text : List ℕ) (s : Sign) → entry_of all_signs (x ∷ y ∷ z ∷ text) ≡ Some s → ⊥
sign_short x y z text s e =
    let h = both _ (nat_le (length (y ∷ z ∷ text)) 1) (sign-text (x ∷ y ∷ z ∷ text) s e) in
    let l : length (y ∷ z ∷ text) ≤ 1 = le_from_test _ _ h.1 in
    omega arith

-- the token of a text that begins with a sign's character
sign_there : (k : Kind) (c : ℕ) (cs text rest : List ℕ) → class c ≡ Other → c ∷ cs ≡ text ++ rest → Spells k text → (s : Sign) × (entry_of all_signs text ≡ Some s)
sign_there k c cs text rest o e s = spells_sign k text s (sym (first_class k c cs text rest e s) ∙ o)

two_longest : (c d : ℕ) (more : List ℕ) (j : Kind) → class c ≡ Other → Spells j (c ∷ d ∷ more) → more ≡ []
two_longest c d [] j o r = refl
two_longest c d (x ∷ more) j o r =
    let s = sign_there j c (d ∷ x ∷ more) (c ∷ d ∷ x ∷ more) [] o (sym (append-nil (c ∷ d ∷ x ∷ more))) r in
    absurd (sign_short c d x more s.0 s.1)

none_not_some : {A : Type 0} (text : List ℕ) (s : Sign) → entry_of all_signs text ≡ None → entry_of all_signs text ≡ Some s → A
none_not_some text s e f = let g : None ≡ Some s = sym e ∙ f in absurd (cc)

one_longest : (c : ℕ) (cs more others : List ℕ) (j : Kind) → class c ≡ Other
    → ((d : ℕ) (ds : List ℕ) → cs ≡ d ∷ ds → entry_of all_signs (c ∷ d ∷ []) ≡ None)
    → cs ≡ more ++ others → Spells j (c ∷ more) → more ≡ []
one_longest c cs [] others j o two h r = refl
one_longest c cs (d ∷ more) others j o two h r =
    let n = two_longest c d more j o r in
    let s = sign_there j c (d ∷ more) (c ∷ d ∷ more) [] o (sym (append-nil (c ∷ d ∷ more))) r in
    let e : entry_of all_signs (c ∷ d ∷ []) ≡ Some s.0 = ap (λ z. entry_of all_signs (c ∷ d ∷ z)) (sym n) ∙ s.1 in
    none_not_some (c ∷ d ∷ []) s.0 (two d (more ++ others) h) e

none_there : {A : Type 0} (c : ℕ) (cs text rest : List ℕ) (s : Sign) → entry_of all_signs (c ∷ []) ≡ None
    → ((d : ℕ) (ds : List ℕ) → cs ≡ d ∷ ds → entry_of all_signs (c ∷ d ∷ []) ≡ None)
    → c ∷ cs ≡ text ++ rest → entry_of all_signs text ≡ Some s → A
none_there c cs [] rest s e two h t = absurd (empty_sign s t)
none_there c cs (x ∷ []) rest s e two h t =
    let g : c ≡ x = head c x cs rest h in
    let f : entry_of all_signs (c ∷ []) ≡ Some s = ap (λ z. entry_of all_signs (z ∷ [])) g ∙ t in
    none_not_some (c ∷ []) s e f
none_there c cs (x ∷ y ∷ []) rest s e two h t =
    let g : c ≡ x = head c x cs (y ∷ rest) h in
    let f : entry_of all_signs (c ∷ y ∷ []) ≡ Some s = ap (λ z. entry_of all_signs (z ∷ y ∷ [])) g ∙ t in
    none_not_some (c ∷ y ∷ []) s (two y rest (tail c x cs (y ∷ rest) h)) f
none_there c cs (x ∷ y ∷ z ∷ text) rest s e two h t = absurd (sign_short x y z text s t)

two_none : (c d x : ℕ) (ds xs : List ℕ) → d ∷ ds ≡ x ∷ xs → entry_of all_signs (c ∷ d ∷ []) ≡ None → entry_of all_signs (c ∷ x ∷ []) ≡ None
two_none c d x ds xs h e = ap (λ z. entry_of all_signs (c ∷ z ∷ [])) (sym (head d x ds xs h)) ∙ e

two_found : (c d : ℕ) (ds : List ℕ) (s : Sign) → class c ≡ Other → begins_comment (c ∷ d ∷ ds) ≡ false → entry_of all_signs (c ∷ d ∷ []) ≡ Some s
    → Means (lexemes.Sign s 2) (c ∷ d ∷ ds)
two_found c d ds s o n e =
    let l : IsLongest (kinds.Sign s) (c ∷ d ∷ []) ds = record {
      spells = e;
      longest = λ more others j h r. two_longest c d more j o r;
      no_comment = n;
    } in
    record { text = c ∷ d ∷ []; rest = ds; whole = refl; len_is = refl; some = omega arith; element = (l, tt) }

one_found : (c : ℕ) (cs : List ℕ) (s : Sign) → class c ≡ Other → begins_comment (c ∷ cs) ≡ false → entry_of all_signs (c ∷ []) ≡ Some s
    → ((d : ℕ) (ds : List ℕ) → cs ≡ d ∷ ds → entry_of all_signs (c ∷ d ∷ []) ≡ None) → Means (lexemes.Sign s 1) (c ∷ cs)
one_found c cs s o n e two =
    let l : IsLongest (kinds.Sign s) (c ∷ []) cs = record {
      spells = e;
      longest = λ more others j h r. one_longest c cs more others j o two h r;
      no_comment = n;
    } in
    record { text = c ∷ []; rest = cs; whole = refl; len_is = refl; some = omega arith; element = (l, tt) }

none_found : (c : ℕ) (cs : List ℕ) → class c ≡ Other → is_white c ≡ false → entry_of all_signs (c ∷ []) ≡ None
    → ((d : ℕ) (ds : List ℕ) → cs ≡ d ∷ ds → entry_of all_signs (c ∷ d ∷ []) ≡ None) → BeginsNothing (c ∷ cs)
none_found c cs o w e two = record {
  some = λ h. cons_not_nil c cs h;
  no_white = w;
  no_token = λ k text rest h p. (let s = sign_there k c cs text rest o h p in none_there c cs text rest s.0 e two h s.1);
}

sign_one : (c : ℕ) (cs : List ℕ) (o : Option Sign) → entry_of all_signs (c ∷ []) ≡ o → class c ≡ Other → is_white c ≡ false → begins_comment (c ∷ cs) ≡ false
    → ((d : ℕ) (ds : List ℕ) → cs ≡ d ∷ ds → entry_of all_signs (c ∷ d ∷ []) ≡ None)
    → Means (option_map_or (λ s. lexemes.Sign s 1) o lexemes.Bad) (c ∷ cs)
sign_one c cs None e o w n two = none_found c cs o w e two
sign_one c cs (Some s) e o w n two = one_found c cs s o n e two

sign_two : (c d : ℕ) (ds : List ℕ) (t : Option Sign) → entry_of all_signs (c ∷ d ∷ []) ≡ t → class c ≡ Other → is_white c ≡ false → begins_comment (c ∷ d ∷ ds) ≡ false
    → Means (option_map_or (λ s. lexemes.Sign s 2) t (option_map_or (λ s. lexemes.Sign s 1) (entry_of all_signs (c ∷ [])) lexemes.Bad)) (c ∷ d ∷ ds)
sign_two c d ds (Some s) e o w n = two_found c d ds s o n e
sign_two c d ds None e o w n = sign_one c (d ∷ ds) _ refl o w n (λ x xs h. two_none c d x ds xs h e)

sign_single : (c : ℕ) (t : Option Sign) → entry_of all_signs (c ∷ []) ≡ t → class c ≡ Other → is_white c ≡ false
    → Means (option_map_or (λ s. lexemes.Sign s 1) t (option_map_or (λ s. lexemes.Sign s 1) t lexemes.Bad)) (c ∷ [])
sign_single c None e o w = none_found c [] o w e (λ d ds h. absurd (cons_not_nil d ds (sym h)))
sign_single c (Some s) e o w = one_found c [] s o refl e (λ d ds h. absurd (cons_not_nil d ds (sym h)))

pub sign_means : (c : ℕ) (cs : List ℕ) → class c ≡ Other → is_white c ≡ false → begins_comment (c ∷ cs) ≡ false → Means (sign_at (c ∷ cs)) (c ∷ cs)
unfolding sign_at
sign_means c [] o w n = sign_single c _ refl o w
sign_means c (d ∷ ds) o w n = sign_two c d ds _ refl o w n

-- what is found at the front of a text stands there
pub means : (cs : List ℕ) → Means (lexeme_at cs) cs
unfolding lexeme_at
means [] = refl
means (c ∷ cs) =
    let P : Lexeme → Type 0 = λ l. Means l (c ∷ cs) in
    chosen (is_white c) _ _ P (λ h. white_means c cs h) (λ w.
    chosen (c == 47 && begins_with (λ d. d == 47) cs) _ _ P (λ h. line_means c cs h) (λ l.
    chosen (c == 47 && begins_with (λ d. d == 42) cs) _ _ P (λ h. block_means c cs h) (λ b.
    let n = no_comment_here c cs l b in
    chosen (may_start c) _ _ P (λ h. name_means c cs h n) (λ s.
    chosen (is_digit c 10) _ _ P (λ h. number_means c cs h n) (λ d.
    chosen (c == 34) _ _ P (λ h. string_here c cs h n) (λ q.
    sign_means c cs (class-other c w s d q) w n))))))

pub means_at : (l : Lexeme) (cs : List ℕ) → l ≡ lexeme_at cs → Means l cs
means_at l cs e = subst (λ (m : Lexeme). Means m cs) (sym e) (means cs)
