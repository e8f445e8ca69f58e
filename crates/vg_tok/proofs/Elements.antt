-- One element at most stands in a place.
use Rattle.std.proofs.Common.{◌≡◌, ◌⊎◌, inl, inr, ℕ, true, false, not, ◌&&◌, ◌==◌, List, [], ◌∷◌, ◌++◌, Option, Some, None, MatchOption, refl, sym, ap, subst, ◌∙◌, arith, append_assoc}
use Rattle.std.proofs.lemmas.List.{append_cancel_left, append-nil}
use Rattle.vg_tok.specs.declared.token.Kind.{Kind}
use Rattle.vg_tok.specs.declared.token.Kind.TheVariants as kinds
use Rattle.vg_tok.specs.Lexing.{is_white, begins_with, Spells, begins_comment, has_close, ends_line, IsLineComment, IsBlockComment, IsWhite, IsGap, IsLongest, IsToken, Element, IsElement}
use Rattle.vg_tok.proofs.Lists.{false≢true, neither, head, tail, fronts, cut_once}
use Rattle.vg_tok.proofs.Characters.{White, class, class-white}
use Rattle.vg_tok.proofs.Spelled.{class_of, spells-first, spells_once}

pub apart : ◌≡◌ {A = ℕ} 47 42 → ⊥
apart h = omega arith

white_none : (k : Kind) → White ≡ class_of k → ⊥
white_none (kinds.Name cs) h = cc
white_none (kinds.Str cs) h = cc
white_none (kinds.Number n) h = cc
white_none (kinds.Sign s) h = cc
white_none (kinds.Word w) h = cc

pub not_white : {A : Type 0} (c : ℕ) → c ≡ 47 → is_white c ≡ true → A
not_white c e w = false≢true (ap is_white (sym e) ∙ w)

longest_from : (j k : Kind) (a b c d m : List ℕ) → c ≡ a ++ m → b ≡ m ++ d → IsLongest j a b → IsLongest k c d → (j ≡ k) × (a ≡ c) × (b ≡ d)
longest_from j k a b c d m e f x y =
    let n : m ≡ [] = x.longest m d k f (subst (Spells k) e y.spells) in
    let h : a ≡ c = sym (e ∙ (ap (λ z. a ++ z) n ∙ append-nil a)) in
    (spells_once j k c (subst (Spells j) h x.spells) y.spells, h, f ∙ ap (λ z. z ++ d) n)

-- the longest token in a place is one
pub longest_once : (j k : Kind) (a b c d : List ℕ) → a ++ b ≡ c ++ d → IsLongest j a b → IsLongest k c d → (j ≡ k) × (a ≡ c) × (b ≡ d)
longest_once j k a b c d e x y = elim (fronts a b c d e) [
  | inl m ↦ longest_from j k a b c d m.0 m.1 m.2 x y
  | inr m ↦ (let r = longest_from k j c d a b m.0 m.1 m.2 y x in (sym r.0, sym r.1, sym r.2))
]

no_white : {A : Type 0} (c : ℕ) (k : Kind) (text others rest : List ℕ) → is_white c ≡ true → Spells k text → c ∷ others ≡ text ++ rest → A
no_white c k text others rest w s e =
    let f = spells-first k text s in
    let h : c ≡ f.first = head c f.first others (f.others ++ rest) (e ∙ ap (λ x. x ++ rest) f.whole) in
    let g : White ≡ class_of k = sym (class-white c w) ∙ (ap class h ∙ f.class_is) in
    absurd (white_none k g)

comment_begins : (text rest : List ℕ) → IsLineComment text rest ⊎ IsBlockComment text → begins_comment (text ++ rest) ≡ true
comment_begins text rest (inl h) = rw h.1 refl
comment_begins text rest (inr h) = rw h.1 refl

-- a token and what stands between tokens are not in one place
pub gap_no_token : {A : Type 0} (k : Kind) (a b c d : List ℕ) → a ++ b ≡ c ++ d → IsGap a b → IsLongest k c d → A
gap_no_token k a b c d e (inl w) t = no_white w.0 k c b d w.2 t.spells (sym (ap (λ x. x ++ b) w.1) ∙ e)
gap_no_token k a b c d e (inr h) t = false≢true (sym t.no_comment ∙ (ap begins_comment (sym e) ∙ comment_begins a b h))

line_stops : (rest : List ℕ) → ends_line rest ≡ true → begins_with (λ c. not (c == 10)) rest ≡ false
line_stops [] h = refl
line_stops (c ∷ rest) h = rw h refl

lines_once : (a b c d : List ℕ) → a ++ b ≡ c ++ d → IsLineComment a b → IsLineComment c d → a ≡ c
lines_once a b c d e x y =
    let f : x.0 ++ b ≡ y.0 ++ d = tail 47 47 _ _ (tail 47 47 _ _ (sym (ap (λ z. z ++ b) x.1) ∙ (e ∙ ap (λ z. z ++ d) y.1))) in
    let r = cut_once (λ c. not (c == 10)) x.0 b y.0 d f x.2 y.2 (line_stops b x.3) (line_stops d y.3) in
    x.1 ∙ (ap (λ z. 47 ∷ 47 ∷ z) r.0 ∙ sym y.1)

pub has_close-tail : (c : ℕ) (cs : List ℕ) → has_close (c ∷ cs) ≡ false → has_close cs ≡ false
has_close-tail c [] h = refl
has_close-tail c (d ∷ cs) h = (neither (c == 42 && d == 47) (has_close (d ∷ cs)) h).1

close_then : {A : Type 0} (r y s : List ℕ) → 47 ∷ r ≡ y ++ (42 ∷ 47 ∷ s) → has_close (42 ∷ (y ++ 42 ∷ [])) ≡ false → A
close_then r [] s e h = absurd (apart (head 47 42 r (47 ∷ s) e))
close_then r (f ∷ y) s e h =
    let g : 47 ≡ f = head 47 f r (y ++ (42 ∷ 47 ∷ s)) e in
    let P : ℕ → Type 0 = λ z. has_close (42 ∷ z ∷ (y ++ 42 ∷ [])) ≡ false in
    let k : has_close (42 ∷ 47 ∷ (y ++ 42 ∷ [])) ≡ false = subst P (sym g) h in
    false≢true (sym k)

pub closes_once : (x r y s : List ℕ) → x ++ (42 ∷ 47 ∷ r) ≡ y ++ (42 ∷ 47 ∷ s) → has_close (x ++ 42 ∷ []) ≡ false → has_close (y ++ 42 ∷ []) ≡ false → (x ≡ y) × (r ≡ s)
closes_once [] r [] s e h k = (refl, tail 47 47 r s (tail 42 42 (47 ∷ r) (47 ∷ s) e))
closes_once [] r (f ∷ y) s e h k =
    let g : 42 ≡ f = head 42 f (47 ∷ r) (y ++ (42 ∷ 47 ∷ s)) e in
    let P : ℕ → Type 0 = λ z. has_close (z ∷ (y ++ 42 ∷ [])) ≡ false in
    close_then r y s (tail 42 f (47 ∷ r) (y ++ (42 ∷ 47 ∷ s)) e) (subst P (sym g) k)
closes_once (f ∷ x) r [] s e h k =
    let g : 42 ≡ f = sym (head f 42 (x ++ (42 ∷ 47 ∷ r)) (47 ∷ s) e) in
    let P : ℕ → Type 0 = λ z. has_close (z ∷ (x ++ 42 ∷ [])) ≡ false in
    close_then s x r (sym (tail f 42 (x ++ (42 ∷ 47 ∷ r)) (47 ∷ s) e)) (subst P (sym g) h)
closes_once (f ∷ x) r (g ∷ y) s e h k =
    let i = closes_once x r y s (tail f g _ _ e) (has_close-tail f (x ++ 42 ∷ []) h) (has_close-tail g (y ++ 42 ∷ []) k) in
    let j : f ≡ g = head f g _ _ e in
    (cc, i.1)

pub block_text : (a b : List ℕ) (x : IsBlockComment a) → a ++ b ≡ 47 ∷ 42 ∷ (x.0 ++ (42 ∷ 47 ∷ b))
block_text a b x = ap (λ z. z ++ b) x.1 ∙ ap (λ z. 47 ∷ 42 ∷ z) (append_assoc x.0 (42 ∷ 47 ∷ []) b)

blocks_once : (a b c d : List ℕ) → a ++ b ≡ c ++ d → IsBlockComment a → IsBlockComment c → a ≡ c
blocks_once a b c d e x y =
    let f = tail 42 42 _ _ (tail 47 47 _ _ (sym (block_text a b x) ∙ (e ∙ block_text c d y))) in
    let r = closes_once x.0 b y.0 d f x.2 y.2 in
    x.1 ∙ (ap (λ z. 47 ∷ 42 ∷ (z ++ (42 ∷ 47 ∷ []))) r.0 ∙ sym y.1)

line_block : {A : Type 0} (a b c d : List ℕ) → a ++ b ≡ c ++ d → IsLineComment a b → IsBlockComment c → A
line_block a b c d e x y =
    absurd (apart (head 47 42 _ _ (tail 47 47 _ _ (sym (ap (λ z. z ++ b) x.1) ∙ (e ∙ block_text c d y)))))

white_comment : {A : Type 0} (a b c d : List ℕ) → a ++ b ≡ c ++ d → IsWhite a → IsLineComment c d ⊎ IsBlockComment c → A
white_comment a b c d e w (inl x) = not_white w.0 (head w.0 47 _ _ (sym (ap (λ z. z ++ b) w.1) ∙ (e ∙ ap (λ z. z ++ d) x.1))) w.2
white_comment a b c d e w (inr y) = not_white w.0 (head w.0 47 _ _ (sym (ap (λ z. z ++ b) w.1) ∙ (e ∙ block_text c d y))) w.2

-- what stands between tokens in a place is one
pub gaps_once : (a b c d : List ℕ) → a ++ b ≡ c ++ d → IsGap a b → IsGap c d → a ≡ c
gaps_once a b c d e (inl v) (inl w) =
    v.1 ∙ (ap (λ z. z ∷ []) (head v.0 w.0 b d (sym (ap (λ z. z ++ b) v.1) ∙ (e ∙ ap (λ z. z ++ d) w.1))) ∙ sym w.1)
gaps_once a b c d e (inl v) (inr y) = white_comment a b c d e v y
gaps_once a b c d e (inr x) (inl w) = white_comment c d a b (sym e) w x
gaps_once a b c d e (inr (inl x)) (inr (inl y)) = lines_once a b c d e x y
gaps_once a b c d e (inr (inr x)) (inr (inr y)) = blocks_once a b c d e x y
gaps_once a b c d e (inr (inl x)) (inr (inr y)) = line_block a b c d e x y
gaps_once a b c d e (inr (inr x)) (inr (inl y)) = line_block c d a b (sym e) y x

kinds_once : (a c b d : List ℕ) → a ++ b ≡ c ++ d → (j k : Option Kind)
    → MatchOption j (IsGap a b) (λ x. IsToken x a b) → MatchOption k (IsGap c d) (λ x. IsToken x c d) → (a ≡ c) × (j ≡ k)
kinds_once a c b d e None None x y = (gaps_once a b c d e x y, refl)
kinds_once a c b d e None (Some k) x y = gap_no_token k a b c d e x y.0
kinds_once a c b d e (Some j) None x y = gap_no_token j c d a b (sym e) y x.0
kinds_once a c b d e (Some j) (Some k) x y = let r = longest_once j k a b c d e x.0 y.0 in (r.1, ap Some r.0)

made : List ℕ → Option Kind → Element
made t o = record { text = t; kind = o }

same_element : (e f : Element) → e.text ≡ f.text → e.kind ≡ f.kind → e ≡ f
unfolding made
same_element e f h k = ap (λ t. made t e.kind) h ∙ ap (λ o. made f.text o) k

-- one element at most stands in a place
pub element_once : (e f : Element) (b d : List ℕ) → e.text ++ b ≡ f.text ++ d → IsElement e b → IsElement f d → (e ≡ f) × (b ≡ d)
element_once e f b d h x y =
    let r = kinds_once e.text f.text b d h e.kind f.kind x y in
    (same_element e f r.0 r.1, append_cancel_left f.text b d (ap (λ z. z ++ b) (sym r.0) ∙ h))
