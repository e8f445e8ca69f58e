-- What is found at the front of a text is an element of it.
use Rattle.std.proofs.Common.{◌≡◌, ℕ, ◌+◌, ◌<◌, ◌≤◌, Bool, true, false, not, ◌==◌, List, [], ◌∷◌, ◌++◌, length, refl, sym, ap, subst, ◌∙◌, arith, inl, inr, append_assoc, length-append}
use Rattle.std.proofs.lemmas.Bool.Decides.{nat_tests}
use Rattle.std.specs.List.{list_all, prefix_len}
use Rattle.vg_irlex.specs.declared.front.Front.{Front}
use Rattle.vg_irlex.specs.declared.front.Front.TheVariants.{Gap, Lexeme}
use Rattle.vg_irlex.specs.Lexing.{is_white, is_lexeme, ends_line}
use Rattle.vg_irlex.specs.Front.{lexeme_len, front_of, Begins}
use Rattle.vg_irlex.proofs.Lists.{false≢true, both, both-from}
use Rattle.vg_irlex.proofs.Longest.{Longest, span_longest}
use Rattle.vg_irlex.proofs.Spelled.{lexeme_longest}

-- what is found says
abbrev pub Means : Front → List ℕ → Type 0
Means (Gap n) cs = Begins cs false n
Means (Lexeme n) cs = Begins cs true n

nil_of : (m : List ℕ) (a : List ℕ) → length (a ++ m) ≤ length a → m ≡ []
nil_of [] a h = refl
nil_of (x ∷ m) a h = absurd (omega (arith, length-append a (x ∷ m)))

some_len : (p : List ℕ → Bool) (a : List ℕ) (n : ℕ) → p [] ≡ false → p a ≡ true → length a ≡ n → 0 < n
some_len p [] n z h e = false≢true (sym z ∙ h)
some_len p (x ∷ a) n z h e = omega (arith, e)

-- the longest front is a lexeme in its place
pub lexeme_begins : (cs : List ℕ) (n : ℕ) → Longest is_lexeme cs n → Begins cs true n
lexeme_begins cs n l = record {
  text = l.front;
  rest = l.rest;
  whole = l.whole;
  len_is = l.len;
  some = some_len is_lexeme l.front n refl l.fits l.len;
  placed = record {
    spells = l.fits;
    longest = λ more others e h.
        let w : cs ≡ (l.front ++ more) ++ others = l.whole ∙ (ap (λ z. l.front ++ z) e ∙ sym (append_assoc l.front more others)) in
        let m = l.most (l.front ++ more) others w h in
        nil_of more l.front (omega (arith, m, l.len));
  };
}

white_begins : (c : ℕ) (cs : List ℕ) → is_white c ≡ true → Begins (c ∷ cs) false 1
white_begins c cs h = record { text = c ∷ []; rest = cs; whole = refl; len_is = refl; some = omega arith; placed = inl (c, refl, h) }

one_more : (front : List ℕ) (c : ℕ) → list_all (λ d. not (d == 10)) front ≡ true → (c == 10) ≡ false → list_all (λ d. not (d == 10)) (front ++ c ∷ []) ≡ true
one_more [] c h k = rw k refl
one_more (x ∷ front) c h k =
    let p = both (not (x == 10)) (list_all (λ d. not (d == 10)) front) h in
    both-from (not (x == 10)) (list_all (λ d. not (d == 10)) (front ++ c ∷ [])) p.0 (one_more front c p.1 k)

-- no more bytes of a line than these
abbrev IsMost : List ℕ → List ℕ → Type 0
IsMost cs front = (t u : List ℕ) → cs ≡ t ++ u → list_all (λ d. not (d == 10)) t ≡ true → length t ≤ length front

line_ends_by : (cs front : List ℕ) (c : ℕ) (rest : List ℕ) → cs ≡ front ++ c ∷ rest → IsMost cs front
    → list_all (λ d. not (d == 10)) front ≡ true → (b : Bool) → (c == 10) ≡ b → (c == 10) ≡ true
line_ends_by cs front c rest e most h true k = k
line_ends_by cs front c rest e most h false k =
    let w : cs ≡ (front ++ c ∷ []) ++ rest = e ∙ sym (append_assoc front (c ∷ []) rest) in
    let m = most (front ++ c ∷ []) rest w (one_more front c h k) in
    absurd (omega (arith, m, length-append front (c ∷ [])))

-- behind the bytes of a line stands its end
line_ends : (cs front rest : List ℕ) → cs ≡ front ++ rest → IsMost cs front → list_all (λ d. not (d == 10)) front ≡ true → ends_line rest ≡ true
line_ends cs front [] e most h = refl
line_ends cs front (c ∷ rest) e most h = line_ends_by cs front c rest e most h (c == 10) refl

comment_begins : (cs : List ℕ) → Begins (59 ∷ cs) false (prefix_len (λ d. not (d == 10)) cs + 1)
comment_begins cs =
    let l = span_longest (λ d. not (d == 10)) cs in
    record {
      text = 59 ∷ l.front;
      rest = l.rest;
      whole = ap (λ z. 59 ∷ z) l.whole;
      len_is = omega (arith, l.len);
      some = omega arith;
      placed = inr (l.front, refl, l.fits, line_ends cs l.front l.rest l.whole (λ t u e h. let m = l.most t u e h in omega (arith, m, l.len)) l.fits);
    }

means_by : (c : ℕ) (cs : List ℕ) (x y : Bool) → is_white c ≡ x → (c == 59) ≡ y → Means (front_of c cs) (c ∷ cs)
unfolding front_of
means_by c cs true y h k = rw h (white_begins c cs h)
means_by c cs false true h k =
    let e : c ≡ 59 = grind (arith, nat_tests) in
    let P : ℕ → Type 0 = λ z. Begins (z ∷ cs) false (prefix_len (λ d. not (d == 10)) cs + 1) in
    rw (h, k) (subst P (sym e) (comment_begins cs))
means_by c cs false false h k = rw (h, k) (lexeme_begins (c ∷ cs) (lexeme_len c cs) (lexeme_longest c cs h k))

-- what is found at the front of a text
pub means : (c : ℕ) (cs : List ℕ) → Means (front_of c cs) (c ∷ cs)
means c cs = means_by c cs (is_white c) (c == 59) refl refl

pub gap_found : (text : List ℕ) (c : ℕ) (cs : List ℕ) (len : ℕ) → text ≡ c ∷ cs → Gap len ≡ front_of c cs → Begins text false len
gap_found text c cs len e h =
    subst (λ (z : List ℕ). Begins z false len) (sym e) (subst (λ (f : Front). Means f (c ∷ cs)) (sym h) (means c cs))

pub lexeme_found : (text : List ℕ) (c : ℕ) (cs : List ℕ) (len : ℕ) → text ≡ c ∷ cs → Lexeme len ≡ front_of c cs → Begins text true len
lexeme_found text c cs len e h =
    subst (λ (z : List ℕ). Begins z true len) (sym e) (subst (λ (f : Front). Means f (c ∷ cs)) (sym h) (means c cs))
