-- The lines of data: 16 bytes in each, and 1 to 16 in the last.
use Rattle.std.proofs.Common.{◌≡◌, ℕ, zero, suc, ◌+◌, ◌*◌, ◌/◌, ◌<◌, ◌≤◌, List, [], ◌∷◌, ◌++◌, length, map, take, drop, refl, ap, sym, ◌∙◌, subst, arith, length-append, length-drop}
use Rattle.std.specs.List.{range_with_len}
use Rattle.std.proofs.lemmas.List.{append-nil, drop-append-le, map-append, drop-drop, nil_from_length, take-append-le, take_all}
use Rattle.vg_image.specs.Spelling.{bytes_text, data_text}

-- so many rows of 16 bytes
abbrev pub rows_of : ℕ → List ℕ → List (List ℕ)
rows_of zero bytes = []
rows_of (suc n) bytes = take 16 bytes ∷ rows_of n (drop 16 bytes)

-- the lines of bytes
abbrev pub data_lines : List ℕ → List (List ℕ)
data_lines bytes = map (data_text bytes) (range_with_len 0 ((length bytes + 15) / 16))

rows_from : (n j : ℕ) (bytes : List ℕ) → map (data_text bytes) (range_with_len j n) ≡ map bytes_text (rows_of n (drop (16 * j) bytes))
rows_from zero j bytes = refl
rows_from (suc n) j bytes =
    let next : 16 * (j + 1) ≡ 16 * j + 16 = omega arith in
    let behind : drop (16 * (j + 1)) bytes ≡ drop 16 (drop (16 * j) bytes) = ap (λ k. drop k bytes) next ∙ sym (drop-drop 16 (16 * j) bytes) in
    ap (λ rows. bytes_text (take 16 (drop (16 * j) bytes)) ∷ rows) (rows_from n (j + 1) bytes ∙ ap (λ bs. map bytes_text (rows_of n bs)) behind)

pub data_lines-rows : (bytes : List ℕ) → data_lines bytes ≡ map bytes_text (rows_of ((length bytes + 15) / 16) bytes)
data_lines-rows bytes = rows_from ((length bytes + 15) / 16) 0 bytes

rows_more : (n : ℕ) (bytes more : List ℕ) → length bytes ≡ 16 * n → length more ≤ 16 → rows_of (suc n) (bytes ++ more) ≡ rows_of n bytes ++ more ∷ []
rows_more zero bytes more full few =
    let none : bytes ≡ [] = nil_from_length bytes (omega (arith, full)) in
    ap (λ bs. rows_of 1 (bs ++ more)) none ∙ ap (λ row. row ∷ []) (take_all 16 more few)
rows_more (suc n) bytes more full few =
    let many : 16 ≤ length bytes = omega (arith, full) in
    let behind : length (drop 16 bytes) ≡ 16 * n = omega (arith, full, length-drop 16 bytes) in
    (λ j. take-append-le 16 bytes more many j ∷ rows_of (suc n) (drop-append-le 16 bytes more many j))
    ∙ ap (λ rows. take 16 bytes ∷ rows) (rows_more n (drop 16 bytes) more behind few)

-- one line more behind full ones
pub data_lines-more : (n : ℕ) (bytes more : List ℕ) → length bytes ≡ 16 * n → 0 < length more → length more ≤ 16 → data_lines (bytes ++ more) ≡ data_lines bytes ++ bytes_text more ∷ []
data_lines-more n bytes more full some few =
    let count : (length (bytes ++ more) + 15) / 16 ≡ suc n = omega (arith, full, length-append bytes more) in
    let before : (length bytes + 15) / 16 ≡ n = omega (arith, full) in
    data_lines-rows (bytes ++ more)
    ∙ ap (λ k. map bytes_text (rows_of k (bytes ++ more))) count
    ∙ ap (map bytes_text) (rows_more n bytes more full few)
    ∙ map-append bytes_text (rows_of n bytes) (more ∷ [])
    ∙ ap (λ k. map bytes_text (rows_of k bytes) ++ bytes_text more ∷ []) (sym before)
    ∙ ap (λ rows. rows ++ bytes_text more ∷ []) (sym (data_lines-rows bytes))
