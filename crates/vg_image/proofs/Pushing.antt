-- Reading bytes of a line in a loop.
use Rattle.std.proofs.Common.{◌≡◌, ℕ, zero, suc, ◌+◌, ◌-◌, ◌<◌, ◌≤◌, List, [], ◌∷◌, ◌++◌, Option, Some, None, refl, ap, sym, ◌∙◌, append_assoc, arith}
use Rattle.std.proofs.lemmas.List.{append-nil}
use Rattle.vg_text.specs.Number.{hexadecimal_at}
use Rattle.vg_image.specs.Reader.{◌>>=◌, bytes_at, with_byte, with_front}

bytes_at-suc : (count : ℕ) (text : List ℕ) → bytes_at (suc count) text ≡ (hexadecimal_at 2 text >>= (λ found. with_byte found.0 (bytes_at count found.1)))
unfolding bytes_at
bytes_at-suc count text = refl

bytes_at-zero : (text : List ℕ) → bytes_at 0 text ≡ Some ([], text)
unfolding bytes_at
bytes_at-zero text = refl

regroup : (front : List ℕ) (byte : ℕ) (read : Option (List ℕ × List ℕ)) → with_front front (with_byte byte read) ≡ with_front (front ++ byte ∷ []) read
regroup front byte None = refl
regroup front byte (Some x) = ap (λ (bs : List ℕ). Some (bs, x.1)) (sym (append_assoc front (byte ∷ []) x.0))

one_more : (count i : ℕ) → i < count → count - i ≡ suc (count - (i + 1))
one_more count i within = omega arith

pub goes_on : (front : List ℕ) (count i byte : ℕ) (text behind : List ℕ) (total : Option (List ℕ × List ℕ)) → i < count → hexadecimal_at 2 text ≡ Some (byte, behind)
    → with_front front (bytes_at (count - i) text) ≡ total → with_front (front ++ byte ∷ []) (bytes_at (count - (i + 1)) behind) ≡ total
goes_on front count i byte text behind total within read so_far =
    sym (regroup front byte (bytes_at (count - (i + 1)) behind))
    ∙ sym (ap (λ o. with_front front (o >>= (λ found. with_byte found.0 (bytes_at (count - (i + 1)) found.1)))) read)
    ∙ sym (ap (with_front front) (ap (λ k. bytes_at k text) (one_more count i within) ∙ bytes_at-suc (count - (i + 1)) text))
    ∙ so_far

pub fails : (front : List ℕ) (count i : ℕ) (text : List ℕ) (total : Option (List ℕ × List ℕ)) → i < count → hexadecimal_at 2 text ≡ None
    → with_front front (bytes_at (count - i) text) ≡ total → total ≡ None
fails front count i text total within none so_far =
    sym so_far
    ∙ ap (with_front front) (ap (λ k. bytes_at k text) (one_more count i within) ∙ bytes_at-suc (count - (i + 1)) text)
    ∙ ap (λ o. with_front front (o >>= (λ found. with_byte found.0 (bytes_at (count - (i + 1)) found.1)))) none

pub ends : (front : List ℕ) (count i : ℕ) (text : List ℕ) (total : Option (List ℕ × List ℕ)) → count ≤ i
    → with_front front (bytes_at (count - i) text) ≡ total → total ≡ Some (front, text)
ends front count i text total past so_far =
    let left : count - i ≡ 0 = omega arith in
    sym so_far
    ∙ ap (with_front front) (ap (λ k. bytes_at k text) left ∙ bytes_at-zero text)
    ∙ ap (λ (bs : List ℕ). Some (bs, text)) (append-nil front)
