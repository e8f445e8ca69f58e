-- Readers of as many as there are, from the law of steps.
use Rattle.std.proofs.Common.{◌≡◌, ℕ, Bool, true, false, ◌&&◌, List, [], ◌∷◌, ◌++◌, map, refl, sym, ap, subst, ◌∙◌, arith, append_assoc, IsTrue, inl, inr, ◌⊎◌}
use Rattle.std.proofs.lemmas.Bool.{and_parts, and_from}
use Rattle.std.proofs.lemmas.List.{append-nil}
use Rattle.std.specs.List.{list_all}
use Rattle.vg_irread.specs.Kinds.{Kind, apart}
use Rattle.vg_irread.specs.Reading.{Reader, done, skipped_at, row_at, either_at, allowed_at, ◌>>=◌}
use Rattle.vg_irread.specs.Exact.{Spelling, front, Steps, step, are_steps, made_by, run, are_some, skipped, row, both, either, nothing, IsExact}
use Rattle.vg_irread.proofs.Single.{done_exact}
use Rattle.vg_irread.proofs.Pairs.{both_exact}
use Rattle.vg_irread.proofs.Same.{Covers, same_exact}
use Rattle.vg_irread.proofs.Loop.{loop_exact}

module _ {T X : Type 0} {s : Spelling T X} {kinds goes : List Kind} {read : Reader X} (i : IsExact s kinds false goes read) (alone : IsTrue (apart goes kinds)) where
  -- ---- whether there are some

  abbrev skips : Steps T Bool
  skips = record { allows = λ b t. s.grammar t; spelled = s.spelled; makes = λ b t. true; nests = s.nests }

  and_true : (b : Bool) → (b && true) ≡ b
  and_true true = refl
  and_true false = refl

  skip_one : (b : Bool) → IsExact (step skips b) kinds false goes (read >>= λ x. done true)
  skip_one b =
      subst (λ z. IsExact (step skips b) kinds false z (read >>= λ x. done true)) (append-nil goes)
      (same_exact (both_exact i (λ x t g e. done_exact true true refl) (no_apart goes))
      (λ t g. record { other = t.0; is_one = sym (and_true (s.grammar t.0)) ∙ g; same = record { spelled = λ ts. refl; means = refl; nests = omega arith } })
      (λ u g. record { other = (u, tt); is_one = and_true (s.grammar u) ∙ g; same = record { spelled = λ ts. refl; means = refl; nests = omega arith } }))
    where
      no_apart : (ks : List Kind) → apart ks [] ≡ true
      no_apart [] = refl
      no_apart (k ∷ ks) = no_apart ks

  all_skips : (b : Bool) (ts : List T) → are_steps skips b ts ≡ list_all s.grammar ts
  all_skips b [] = refl
  all_skips b (t ∷ ts) = ap (λ z. s.grammar t && z) (all_skips true ts)

  some_stay : (ts : List T) → made_by skips true ts ≡ true
  some_stay [] = refl
  some_stay (t ∷ ts) = some_stay ts

  some_made : (ts : List T) → made_by skips false ts ≡ are_some ts
  some_made [] = refl
  some_made (t ∷ ts) = some_stay ts

  pub skipped_exact : IsExact (skipped s) kinds true (goes ++ kinds) (skipped_at kinds read)
  skipped_exact =
      same_exact (loop_exact {p = skips} skip_one alone false)
      (λ t g. record { other = t; is_one = sym (all_skips false t) ∙ g; same = record { spelled = λ ts. refl; means = some_made t; nests = refl } })
      (λ u g. record { other = u; is_one = all_skips false u ∙ g; same = record { spelled = λ ts. refl; means = sym (some_made u); nests = refl } })

  -- ---- behind those so far

  abbrev pushes : Steps T (List X)
  pushes = record { allows = λ xs t. s.grammar t; spelled = s.spelled; makes = λ xs t. xs ++ s.means t ∷ []; nests = s.nests }

  push_one : (xs : List X) → IsExact (step pushes xs) kinds false goes (read >>= λ x. done (xs ++ x ∷ []))
  push_one xs =
      subst (λ z. IsExact (step pushes xs) kinds false z (read >>= λ x. done (xs ++ x ∷ []))) (append-nil goes)
      (same_exact {s = both s (λ t. nothing (xs ++ s.means t ∷ []))} (both_exact i (λ x t g e. done_exact (xs ++ x ∷ []) (xs ++ s.means t ∷ []) (ap (λ z. xs ++ z ∷ []) e)) (no_apart goes))
      (λ t g. record { other = t.0; is_one = sym (and_true (s.grammar t.0)) ∙ g; same = record { spelled = λ ts. refl; means = refl; nests = omega arith } })
      (λ u g. record { other = (u, tt); is_one = and_true (s.grammar u) ∙ g; same = record { spelled = λ ts. refl; means = refl; nests = omega arith } }))
    where
      no_apart : (ks : List Kind) → apart ks [] ≡ true
      no_apart [] = refl
      no_apart (k ∷ ks) = no_apart ks

  all_pushes : (xs : List X) (ts : List T) → are_steps pushes xs ts ≡ list_all s.grammar ts
  all_pushes xs [] = refl
  all_pushes xs (t ∷ ts) = ap (λ z. s.grammar t && z) (all_pushes (xs ++ s.means t ∷ []) ts)

  pushed_made : (xs : List X) (ts : List T) → made_by pushes xs ts ≡ xs ++ map s.means ts
  pushed_made xs [] = sym (append-nil xs)
  pushed_made xs (t ∷ ts) = pushed_made (xs ++ s.means t ∷ []) ts ∙ append_assoc xs (s.means t ∷ []) (map s.means ts)

  pub row_exact : (xs : List X) → IsExact (row s xs) kinds true (goes ++ kinds) (row_at kinds read xs)
  row_exact xs =
      same_exact (loop_exact {p = pushes} push_one alone xs)
      (λ t g. record { other = t; is_one = sym (all_pushes xs t) ∙ g; same = record { spelled = λ ts. refl; means = pushed_made xs t; nests = refl } })
      (λ u g. record { other = u; is_one = all_pushes xs u ∙ g; same = record { spelled = λ ts. refl; means = sym (pushed_made xs u); nests = refl } })
