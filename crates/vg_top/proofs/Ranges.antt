-- Texts that are joined over a range of numbers.
use Rattle.std.proofs.Common.{◌≡◌, ℕ, zero, suc, ◌+◌, ◌-◌, ◌<◌, ◌≤◌, List, [], ◌∷◌, ◌++◌, refl, ap, sym, ◌∙◌, append_assoc, add-one, zero-add, arith, flat_map, append-nil, map}
use Rattle.std.specs.List.{range_with_len}

-- one range behind another
pub range_split : (f : ℕ → List ℕ) (a m n : ℕ) → flat_map f (range_with_len a (m + n)) ≡ flat_map f (range_with_len a m) ++ flat_map f (range_with_len (a + m) n)
range_split f a zero n =
    let e : a ≡ a + 0 = omega arith in
    let same : 0 + n ≡ n = omega arith in
    ap (λ (k : ℕ). flat_map f (range_with_len a k)) same ∙ ap (λ (k : ℕ). flat_map f (range_with_len k n)) e
range_split f a (suc m) n =
    let e : a + 1 + m ≡ a + suc m = omega arith in
    let same : suc m + n ≡ suc (m + n) = omega arith in
    ap (λ (k : ℕ). flat_map f (range_with_len a k)) same
    ∙ ap (λ (l : List ℕ). f a ++ l) (range_split f (a + 1) m n)
    ∙ sym (append_assoc (f a) (flat_map f (range_with_len (a + 1) m)) (flat_map f (range_with_len (a + 1 + m) n)))
    ∙ ap (λ (k : ℕ). f a ++ flat_map f (range_with_len (a + 1) m) ++ flat_map f (range_with_len k n)) e

-- one number more at the end
pub range_more : (f : ℕ → List ℕ) (n : ℕ) → flat_map f (range_with_len 0 (n + 1)) ≡ flat_map f (range_with_len 0 n) ++ f n
range_more f n =
    let e : 0 + n ≡ n = omega arith in
    range_split f 0 n 1 ∙ ap (λ (k : ℕ). flat_map f (range_with_len 0 n) ++ (f k ++ [])) e ∙ ap (λ (l : List ℕ). flat_map f (range_with_len 0 n) ++ l) (append-nil (f n))

-- the text of one number more was appended
pub range_step : (start out new : List ℕ) (f : ℕ → List ℕ) (n : ℕ) → new ≡ out ++ f n → out ≡ start ++ flat_map f (range_with_len 0 n) → new ≡ start ++ flat_map f (range_with_len 0 (n + 1))
range_step start out new f n is so_far =
    is ∙ ap (λ (l : List ℕ). l ++ f n) so_far ∙ append_assoc start (flat_map f (range_with_len 0 n)) (f n) ∙ ap (λ (l : List ℕ). start ++ l) (sym (range_more f n))

-- numbers without a text
pub range_none : (f : ℕ → List ℕ) (a n : ℕ) → ((k : ℕ) → a ≤ k → k < a + n → f k ≡ []) → flat_map f (range_with_len a n) ≡ []
range_none f a zero none = refl
range_none f a (suc n) none =
    ap (λ (l : List ℕ). l ++ flat_map f (range_with_len (a + 1) n)) (none a (omega arith) (omega arith))
    ∙ range_none f (a + 1) n (λ k h g. none k (omega (arith, h)) (omega (arith, g)))

-- numbers without a text behind those that have been joined
pub range_beyond : (f : ℕ → List ℕ) (m n : ℕ) → m ≤ n → ((k : ℕ) → m ≤ k → k < n → f k ≡ []) → flat_map f (range_with_len 0 n) ≡ flat_map f (range_with_len 0 m)
range_beyond f m n h none =
    let e : n ≡ m + (n - m) = omega (arith, h) in
    let e0 : 0 + m ≡ m = omega arith in
    ap (λ (k : ℕ). flat_map f (range_with_len 0 k)) e ∙ range_split f 0 m (n - m)
    ∙ ap (λ (k : ℕ). flat_map f (range_with_len 0 m) ++ flat_map f (range_with_len k (n - m))) e0
    ∙ ap (λ (l : List ℕ). flat_map f (range_with_len 0 m) ++ l) (range_none f m (n - m) (λ k low high. none k low (omega (arith, h, high))))
    ∙ append-nil (flat_map f (range_with_len 0 m))

-- the list of one number more
list_more : (f : ℕ → ℕ) (a n : ℕ) → map f (range_with_len a (suc n)) ≡ map f (range_with_len a n) ++ f (a + n) ∷ []
list_more f a zero = let e : a ≡ a + 0 = omega arith in ap (λ (k : ℕ). f k ∷ []) e
list_more f a (suc n) =
    let e : a + 1 + n ≡ a + suc n = omega arith in
    ap (λ (l : List ℕ). f a ∷ l) (list_more f (a + 1) n) ∙ ap (λ (k : ℕ). f a ∷ (map f (range_with_len (a + 1) n) ++ f k ∷ [])) e

pub list_step : (out new : List ℕ) (f : ℕ → ℕ) (n byte : ℕ) → byte ≡ f n → new ≡ out ++ byte ∷ [] → out ≡ map f (range_with_len 0 n) → new ≡ map f (range_with_len 0 (n + 1))
list_step out new f n byte is pushed so_far =
    let e : n ≡ 0 + n = omega arith in
    let more : suc n ≡ n + 1 = omega arith in
    pushed ∙ ap (λ (l : List ℕ). l ++ byte ∷ []) so_far ∙ ap (λ (b : ℕ). map f (range_with_len 0 n) ++ b ∷ []) (is ∙ ap f e) ∙ sym (list_more f 0 n)
    ∙ ap (λ (k : ℕ). map f (range_with_len 0 k)) more
