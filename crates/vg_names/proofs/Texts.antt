-- Names that are equal, and names among others.
use Rattle.std.proofs.Common.{◌≡◌, Bool, true, false, ◌||◌, List, [], ◌∷◌, ◌++◌, refl, sym, ap, ◌∙◌, true≢false, if◌then◌else◌}
use Rattle.std.specs.List.{list_all}
use Rattle.std.specs.Str.{bytes_eq}
use Rattle.std.proofs.lemmas.Bool.{and_parts, and_from}
use Rattle.std.proofs.lemmas.Slice.Eq.{bytes_eq-Decides}
use Rattle.vg_names.specs.Definition.{Text, is_among}

pub same_text : (a b : Text) → bytes_eq a b ≡ true → a ≡ b
same_text a b e = (bytes_eq-Decides a b).0 e

pub own_text : (a : Text) → bytes_eq a a ≡ true
own_text a = (bytes_eq-Decides a a).1 refl

pub among_first : (text : Text) (more : List Text) → is_among text (text ∷ more) ≡ true
among_first text more = ap (λ (t : Bool). if t then true else is_among text more) (own_text text)

-- it is the only one
pub among_one : (own text : Text) → is_among text (own ∷ []) ≡ true → own ≡ text
among_one own text e = same_text own text (only (bytes_eq own text) e)
  where
    only : (b : Bool) → (if b then true else false) ≡ true → b ≡ true
    only true h = refl
    only false h = h

pub among_append : (text : Text) (a b : List Text) → is_among text (a ++ b) ≡ (is_among text a || is_among text b)
among_append text [] b = refl
among_append text (first ∷ a) b = by (bytes_eq first text) (among_append text a b)
  where
    by : (t : Bool) → is_among text (a ++ b) ≡ (is_among text a || is_among text b) → (if t then true else is_among text (a ++ b)) ≡ ((if t then true else is_among text a) || is_among text b)
    by true h = refl
    by false h = h

pub among_left : (text : Text) (a b : List Text) → is_among text a ≡ true → is_among text (a ++ b) ≡ true
among_left text a b e = among_append text a b ∙ ap (λ (x : Bool). x || is_among text b) e

pub among_right : (text : Text) (a b : List Text) → is_among text b ≡ true → is_among text (a ++ b) ≡ true
among_right text a b e = among_append text a b ∙ by (is_among text a) (is_among text b) e
  where
    by : (x y : Bool) → y ≡ true → (x || y) ≡ true
    by true y h = refl
    by false y h = h

pub among_cases : (P : Type 0) (text : Text) (a b : List Text) → (is_among text a ≡ true → P) → (is_among text b ≡ true → P) → is_among text (a ++ b) ≡ true → P
among_cases P text a b f g e = by (is_among text a) f (sym (among_append text a b) ∙ e)
  where
    by : (x : Bool) → (x ≡ true → P) → (x || is_among text b) ≡ true → P
    by true left h = left refl
    by false left h = g h

-- one list more is in front
pub among_moved : (text : Text) (names front rest : List Text) → (is_among text front || is_among text (names ++ rest)) ≡ true → (is_among text (names ++ front) || is_among text rest) ≡ true
among_moved text names front rest e =
    ap (λ (x : Bool). x || is_among text rest) (among_append text names front)
    ∙ by (is_among text front) (is_among text names) (is_among text rest) (sym (ap (λ (x : Bool). is_among text front || x) (among_append text names rest)) ∙ e)
  where
    by : (f n r : Bool) → (f || (n || r)) ≡ true → ((n || f) || r) ≡ true
    by f true r h = refl
    by true false r h = refl
    by false false r h = h

-- all are in front
pub among_all : (text : Text) (front : List Text) → (is_among text front || is_among text []) ≡ true → is_among text front ≡ true
among_all text front e = by (is_among text front) e
  where
    by : (x : Bool) → (x || false) ≡ true → x ≡ true
    by true h = refl
    by false h = h

-- each of a list passes a test that all pass
pub each_of : (test : Text → Bool) (texts : List Text) → list_all test texts ≡ true → (text : Text) → is_among text texts ≡ true → test text ≡ true
each_of test [] h text e = absurd (true≢false (sym e))
each_of test (first ∷ more) h text e = by (bytes_eq first text) refl (each_of test more (and_parts (test first) (list_all test more) h).1 text) e
  where
    by : (b : Bool) → bytes_eq first text ≡ b → (is_among text more ≡ true → test text ≡ true) → (if b then true else is_among text more) ≡ true → test text ≡ true
    by true same again among = ap test (sym (same_text first text same)) ∙ (and_parts (test first) (list_all test more) h).0
    by false other again among = again among

pub all_of_each : (test : Text → Bool) (texts : List Text) → ((text : Text) → is_among text texts ≡ true → test text ≡ true) → list_all test texts ≡ true
all_of_each test [] h = refl
all_of_each test (first ∷ more) h = and_from (test first) (list_all test more) (h first (among_first first more)) (all_of_each test more (λ text e. h text (among_right text (first ∷ []) more e)))
