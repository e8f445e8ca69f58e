-- The first of memory reads.
use Rattle.std.proofs.Common.{◌≡◌, ℕ, ◌+◌, ◌<◌, ◌≤◌, Bool, true, false, nat_le, List, [], ◌∷◌, ◌++◌, length, get_or, drop, Option, Some, None, refl, ap, sym, ◌∙◌, arith, if◌then◌else◌}
use Rattle.std.specs.Option.{option_map}
use Rattle.std.proofs.lemmas.Bool.Decides.{nat_tests}
use Rattle.std.proofs.lemmas.List.{drop_all}
use Rattle.vg_tree.specs.declared.reading.Reading.{Reading}
use Rattle.vg_stage.proofs.StageLemmas.{drop_here}
use Rattle.vg_processor.specs.IsaOf.{earlier, first_reading}
use Rattle.vg_processor.specs.declared.read_place.ReadPlace.{ReadPlace}
use Rattle.vg_processor.specs.Outcome.{place_of, nearer, first_place}

pub nearer_none : (a : Option ReadPlace) → nearer a None ≡ a
nearer_none None = refl
nearer_none (Some a) = refl

three : (a b c : ℕ) (x y z : Option ReadPlace) →
    (if nat_le a b then (if nat_le a c then x else z) else (if nat_le b c then y else z)) ≡ (if nat_le b c then (if nat_le a b then x else y) else (if nat_le a c then x else z))
three a b c x y z = grind (arith, nat_tests)

first_two : (b : Bool) (x y c : ReadPlace) → nearer (if b then Some x else Some y) (Some c) ≡ (if b then (if nat_le x.at c.at then Some x else Some c) else (if nat_le y.at c.at then Some y else Some c))
first_two true x y c = refl
first_two false x y c = refl

last_two : (b : Bool) (x y c : ReadPlace) → nearer (Some c) (if b then Some x else Some y) ≡ (if b then (if nat_le c.at x.at then Some c else Some x) else (if nat_le c.at y.at then Some c else Some y))
last_two true x y c = refl
last_two false x y c = refl

pub nearer_grouped : (a b c : Option ReadPlace) → nearer (nearer a b) c ≡ nearer a (nearer b c)
nearer_grouped None b c = refl
nearer_grouped (Some a) None c = refl
nearer_grouped (Some a) (Some b) None = nearer_none (if nat_le a.at b.at then Some a else Some b)
nearer_grouped (Some a) (Some b) (Some c) = first_two (nat_le a.at b.at) a b c ∙ three a.at b.at c.at (Some a) (Some b) (Some c) ∙ sym (last_two (nat_le b.at c.at) b c a)

chosen : (b : Bool) (r q : Reading) → option_map place_of (Some (if b then r else q)) ≡ (if b then Some (place_of r) else Some (place_of q))
chosen true r q = refl
chosen false r q = refl

with_first : (r : Reading) (o : Option Reading) → option_map place_of (Some (earlier o r)) ≡ nearer (Some (place_of r)) (option_map place_of o)
with_first r None = refl
with_first r (Some q) = chosen (nat_le r.at q.at) r q

pub first_of_both : (xs ys : List Reading) → first_place (xs ++ ys) ≡ nearer (first_place xs) (first_place ys)
first_of_both [] ys = refl
first_of_both (r ∷ xs) ys =
    with_first r (first_reading (xs ++ ys)) ∙ ap (nearer (Some (place_of r))) (first_of_both xs ys) ∙ sym (nearer_grouped (Some (place_of r)) (first_place xs) (first_place ys))
    ∙ ap (λ p. nearer p (first_place ys)) (sym (with_first r (first_reading xs)))

pub place_more : (xs : List Reading) (i : ℕ) (r : Reading) (first next whole : Option ReadPlace) → nearer first (first_place (drop i xs)) ≡ whole → i < length xs → r ≡ get_or xs i r → next ≡ nearer first (Some (place_of r))
    → nearer next (first_place (drop (i + 1) xs)) ≡ whole
place_more xs i r first next whole h within is e =
    ap (λ p. nearer p (first_place (drop (i + 1) xs))) e ∙ nearer_grouped first (Some (place_of r)) (first_place (drop (i + 1) xs))
    ∙ ap (nearer first) (sym (with_first r (first_reading (drop (i + 1) xs)))) ∙ ap (λ (l : List Reading). nearer first (first_place l)) (sym (drop_here xs i r within is)) ∙ h

pub place_all : (xs : List Reading) (i : ℕ) (first whole : Option ReadPlace) → nearer first (first_place (drop i xs)) ≡ whole → length xs ≤ i → first ≡ whole
place_all xs i first whole h past = sym (nearer_none first) ∙ ap (λ (l : List Reading). nearer first (first_place l)) (sym (drop_all i xs past)) ∙ h
