-- Lists that a loop makes: what they are with one element more.
use Rattle.std.proofs.Common.{◌≡◌, ℕ, suc, zero, ◌+◌, ◌<◌, List, [], ◌∷◌, ◌++◌, length, flat_map, take, get_or, slice_get, Option, Some, None, refl, sym, ap, ◌∙◌, arith}
use Rattle.std.specs.Prelude.{encode_utf8, encode_utf8_all}
use Rattle.std.specs.List.{filter_map, cons_option}
use Rattle.std.specs.Option.{option_map, option_to_list}

-- lists by their parts
pub right_nil : {A : Type 0} (xs : List A) → xs ++ [] ≡ xs
right_nil [] = refl
right_nil (x ∷ xs) = ap (λ ys. x ∷ ys) (right_nil xs)

pub grouped : {A : Type 0} (xs ys zs : List A) → (xs ++ ys) ++ zs ≡ xs ++ (ys ++ zs)
grouped [] ys zs = refl
grouped (x ∷ xs) ys zs = ap (λ vs. x ∷ vs) (grouped xs ys zs)

one_on : (k : ℕ) → k + 1 ≡ suc k
one_on k = omega arith

-- ---- characters

encoded_by : (xs : List ℕ) (i c : ℕ) → i < length xs → encode_utf8_all (take (suc i) xs) ≡ encode_utf8_all (take i xs) ++ encode_utf8 (get_or xs i c)
encoded_by [] i c h = absurd (omega (arith, h))
encoded_by (x ∷ xs) zero c h = right_nil (encode_utf8 x)
encoded_by (x ∷ xs) (suc i) c h =
    ap (λ ys. encode_utf8 x ++ ys) (encoded_by xs i c (omega (arith, h))) ∙ sym (grouped (encode_utf8 x) (encode_utf8_all (take i xs)) (encode_utf8 (get_or xs i c)))

pub encoded_more : (xs : List ℕ) (i c : ℕ) (done longer : List ℕ) → done ≡ encode_utf8_all (take i xs) → i < length xs → c ≡ get_or xs i c → longer ≡ done ++ encode_utf8 c
    → longer ≡ encode_utf8_all (take (i + 1) xs)
encoded_more xs i c done longer d h is l =
    l ∙ ap (λ ys. ys ++ encode_utf8 c) d ∙ ap (λ x. encode_utf8_all (take i xs) ++ encode_utf8 x) is ∙ sym (encoded_by xs i c h) ∙ ap (λ n. encode_utf8_all (take n xs)) (sym (one_on i))

-- ---- what some elements give

alone : {Y : Type 0} (o : Option Y) → cons_option o [] ≡ option_to_list o
alone None = refl
alone (Some y) = refl

in_front : {Y : Type 0} (o : Option Y) (ys zs : List Y) → cons_option o (ys ++ zs) ≡ cons_option o ys ++ zs
in_front None ys zs = refl
in_front (Some y) ys zs = refl

given_by : {X Y : Type 0} (f : X → Option Y) (xs : List X) (i : ℕ) (d : X) → i < length xs → filter_map f (take (suc i) xs) ≡ filter_map f (take i xs) ++ option_to_list (f (get_or xs i d))
given_by f [] i d h = absurd (omega (arith, h))
given_by f (x ∷ xs) zero d h = alone (f x)
given_by f (x ∷ xs) (suc i) d h = ap (cons_option (f x)) (given_by f xs i d (omega (arith, h))) ∙ in_front (f x) (filter_map f (take i xs)) (option_to_list (f (get_or xs i d)))

pub given_more : {X Y : Type 0} (f : X → Option Y) (xs : List X) (i : ℕ) (x : X) (o : Option Y) (done longer : List Y) → done ≡ filter_map f (take i xs) → i < length xs → x ≡ get_or xs i x → o ≡ f x
    → longer ≡ done ++ option_to_list o → longer ≡ filter_map f (take (i + 1) xs)
given_more f xs i x o done longer d h is e l =
    l ∙ ap (λ ys. ys ++ option_to_list o) d ∙ ap (λ p. filter_map f (take i xs) ++ option_to_list p) (e ∙ ap f is) ∙ sym (given_by f xs i x h) ∙ ap (λ n. filter_map f (take n xs)) (sym (one_on i))

-- ---- what all elements give

each_by : {X Y : Type 0} (f : X → List Y) (xs : List X) (i : ℕ) (d : X) → i < length xs → flat_map f (take (suc i) xs) ≡ flat_map f (take i xs) ++ f (get_or xs i d)
each_by f [] i d h = absurd (omega (arith, h))
each_by f (x ∷ xs) zero d h = right_nil (f x)
each_by f (x ∷ xs) (suc i) d h = ap (λ ys. f x ++ ys) (each_by f xs i d (omega (arith, h))) ∙ sym (grouped (f x) (flat_map f (take i xs)) (f (get_or xs i d)))

pub each_more : {X Y : Type 0} (f : X → List Y) (xs : List X) (i : ℕ) (x : X) (more done longer : List Y) → done ≡ flat_map f (take i xs) → i < length xs → x ≡ get_or xs i x → more ≡ f x
    → longer ≡ done ++ more → longer ≡ flat_map f (take (i + 1) xs)
each_more f xs i x more done longer d h is e l =
    l ∙ ap (λ ys. ys ++ more) d ∙ ap (λ m. flat_map f (take i xs) ++ m) (e ∙ ap f is) ∙ sym (each_by f xs i x h) ∙ ap (λ n. flat_map f (take n xs)) (sym (one_on i))

-- ---- what is made of the element at a number

same_some : {Y : Type 0} (a b : Y) → Some a ≡ Some b → a ≡ b
same_some a b h = cc

pub made_at : {X Y : Type 0} (f : X → Y) (xs : List X) (n : ℕ) (y : Y) (d : X) → Some y ≡ option_map f (slice_get xs n) → y ≡ f (get_or xs n d)
made_at f [] n y d e = absurd (cc)
made_at f (x ∷ xs) zero y d e = same_some y (f x) e
made_at f (x ∷ xs) (suc n) y d e = made_at f xs n y d e
