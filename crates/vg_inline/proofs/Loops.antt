-- Loops that map a list, and that gather one.
use Rattle.std.proofs.Common.{◌≡◌, ℕ, ◌+◌, ◌<◌, ◌≤◌, List, map, [], ◌∷◌, ◌++◌, Option, length, get_or, drop, sym, ap, ◌∙◌, refl}
use Rattle.std.proofs.lemmas.List.{drop_more, drop_all}
use Rattle.vg_inline.specs.declared.kept.Kept.{Kept}
use Rattle.vg_inline.specs.declared.kept.KeptList.{KeptList}
use Rattle.vg_inline.specs.declared.keep.Keep.{Keep}
use Rattle.vg_inline.specs.Kept.{added, gathered}

pub regroup : {B : Type 0} (xs : List B) (y : B) (zs : List B) → xs ++ y ∷ zs ≡ (xs ++ y ∷ []) ++ zs
regroup [] y zs = refl
regroup (x ∷ xs) y zs = ap (λ (l : List _). x ∷ l) (regroup xs y zs)

pub ending : {B : Type 0} (xs : List B) → xs ++ [] ≡ xs
ending [] = refl
ending (x ∷ xs) = ap (λ (l : List _). x ∷ l) (ending xs)

-- what is mapped so far, before the rest
abbrev pub Mapped : {A B : Type 0} → (A → B) → List A → ℕ → List B → Type 0
Mapped f xs i done = map f xs ≡ done ++ map f (drop i xs)

-- what is gathered so far, and the rest behind it
abbrev pub Gathering : {A : Type 0} → Keep → (A → Option Kept) → List A → ℕ → Option KeptList → Option KeptList → Type 0
Gathering keep f xs i first list = gathered keep first (map f xs) ≡ gathered keep list (map f (drop i xs))

pub gathering_more : {A : Type 0} (keep : Keep) (f : A → Option Kept) (xs : List A) (i : ℕ) (x : A) (first list next : Option KeptList) (t : Option Kept) → Gathering keep f xs i first list → i < length xs → x ≡ get_or xs i x → t ≡ f x → next ≡ added keep list t → Gathering keep f xs (i + 1) first next
gathering_more keep f xs i x first list next t h lt read e g =
    h ∙ ap (λ (l : List _). gathered keep list (map f l)) (drop_more xs i x lt)
    ∙ ap (λ (y : _). gathered keep (added keep list (f y)) (map f (drop (i + 1) xs))) (sym read)
    ∙ ap (λ (u : Option Kept). gathered keep (added keep list u) (map f (drop (i + 1) xs))) (sym e)
    ∙ ap (λ (l : Option KeptList). gathered keep l (map f (drop (i + 1) xs))) (sym g)

pub gathering_all : {A : Type 0} (keep : Keep) (f : A → Option Kept) (xs : List A) (i : ℕ) (first list : Option KeptList) → Gathering keep f xs i first list → length xs ≤ i → list ≡ gathered keep first (map f xs)
gathering_all keep f xs i first list h le = sym (h ∙ ap (λ (l : List _). gathered keep list (map f l)) (drop_all i xs le))
