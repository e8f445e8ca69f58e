-- Lists whose elements are seen by a function, cut where one of them ends.
use Rattle.std.proofs.Common.{◌≡◌, ℕ, ◌≤◌, ◌+◌, List, map, ◌++◌, length, take, drop, ap, sym, ◌∙◌, arith}
use Rattle.std.proofs.Math.Seq.{take-append_seam, drop-append_seam}
use Rattle.std.proofs.lemmas.List.{length-append, length-map, take-map, drop-map}

module _ {X Y : Type 0} (f : X → Y) (n : ℕ) (xs front : List X) (behind : List Y) (cut : n ≡ length front) (is : map f xs ≡ map f front ++ behind) where
  same_length : n ≡ length (map f front)
  same_length = cut ∙ sym (length-map front f)

  pub front_taken : map f (take n xs) ≡ map f front
  front_taken = sym (take-map f n xs) ∙ ap (take n) is ∙ ap (λ m. take m (map f front ++ behind)) same_length ∙ take-append_seam (map f front) behind

  pub tail_dropped : map f (drop n xs) ≡ behind
  tail_dropped = sym (drop-map f n xs) ∙ ap (drop n) is ∙ ap (λ m. drop m (map f front ++ behind)) same_length ∙ drop-append_seam (map f front) behind

  pub is_longer : n ≤ length xs
  is_longer =
      let e : length xs ≡ n + length behind = sym (length-map xs f) ∙ ap length is ∙ length-append (map f front) behind ∙ ap (λ m. m + length behind) (sym same_length) in
      grind arith
