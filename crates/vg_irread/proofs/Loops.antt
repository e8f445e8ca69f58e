-- Steps of a loop that reads as many as there are, as the code takes them.
use Rattle.std.proofs.Common.{◌≡◌, ℕ, zero, suc, ◌-◌, ◌<◌, Bool, true, false, List, [], ◌∷◌, ◌++◌, refl, sym, ap, ◌∙◌, arith}
use Rattle.vg_irparse.specs.declared.role.Wanted.{Wanted}
use Rattle.vg_irparse.specs.declared.stop.Stop.{Stop}
use Rattle.vg_irparse.specs.declared.stop.Stop.TheVariants as stops
use Rattle.vg_irparse.specs.Placed.{Placed}
use Rattle.vg_irparse.specs.Answer.{Answer, reads, leaves, Fails}
use Rattle.vg_irparse.specs.Answer as answer
use Rattle.vg_irread.specs.Kinds.{Kind}
use Rattle.vg_irread.specs.Reading.{Reader, done, next_in, many_from, loop_from, ◌>>=◌}
use Rattle.vg_irread.proofs.Single.{bind_reads}

module _ {X : Type 0} (kinds : List Kind) (read : Reader X) where
  pub many_next : (fuel : ℕ) (xs : List X) (d : ℕ) (ts : List Placed) → 0 < fuel → next_in kinds ts ≡ true
      → many_from fuel kinds read xs d ts ≡ answer.◌>>=◌ (read d ts) (λ x. many_from (fuel - 1) kinds read (xs ++ x.0 ∷ []) d x.1)
  many_next zero xs d ts p h = absurd (omega arith)
  many_next (suc fuel) xs d [] p h = absurd (cc)
  many_next (suc fuel) xs d (t ∷ ts) p h =
      let m : suc fuel - 1 ≡ fuel = omega arith in
      rw h (ap (λ f. answer.◌>>=◌ (read d (t ∷ ts)) (λ x. many_from f kinds read (xs ++ x.0 ∷ []) d x.1)) (sym m))

  pub many_stop : (fuel : ℕ) (xs : List X) (d : ℕ) (ts : List Placed) → 0 < fuel → next_in kinds ts ≡ false → many_from fuel kinds read xs d ts ≡ reads (xs, ts)
  many_stop zero xs d ts p h = absurd (omega arith)
  many_stop (suc fuel) xs d [] p h = refl
  many_stop (suc fuel) xs d (t ∷ ts) p h = rw h refl

  -- ---- as the code goes on

  pub many_fails : (e : Stop) (fuel : ℕ) (xs : List X) (d : ℕ) (ts : List Placed) (whole : Answer (List X × List Placed))
      → 0 < fuel → next_in kinds ts ≡ true → Fails e (read d ts) → many_from fuel kinds read xs d ts ≡ whole → Fails e whole
  many_fails stops.OutOfMemory fuel xs d ts whole p h f i = tt
  many_fails (stops.Leaves n w) fuel xs d ts whole p h f i = sym i ∙ (many_next fuel xs d ts p h ∙ rw f refl)

  pub many_ends : (fuel : ℕ) (xs : List X) (d : ℕ) (ts : List Placed) (whole : Answer (List X × List Placed))
      → 0 < fuel → next_in kinds ts ≡ false → many_from fuel kinds read xs d ts ≡ whole → whole ≡ reads (xs, ts)
  many_ends fuel xs d ts whole p h i = sym i ∙ many_stop fuel xs d ts p h

  pub many_goes_on : (fuel : ℕ) (xs : List X) (d : ℕ) (ts : List Placed) (whole : Answer (List X × List Placed)) (x : X) (rest : List Placed) (more : List X)
      → 0 < fuel → next_in kinds ts ≡ true → many_from fuel kinds read xs d ts ≡ whole → read d ts ≡ reads (x, rest) → more ≡ xs ++ x ∷ []
      → many_from (fuel - 1) kinds read more d rest ≡ whole
  many_goes_on fuel xs d ts whole x rest more p h i r m =
      ap (λ z. many_from (fuel - 1) kinds read z d rest) m
      ∙ (sym (many_next fuel xs d ts p h ∙ bind_reads (read d ts) (λ z. many_from (fuel - 1) kinds read (xs ++ z.0 ∷ []) d z.1) (x, rest) r) ∙ i)

-- ---- with a state

module _ {S : Type 0} (kinds : List Kind) (read : S → Reader S) where
  pub loop_next : (fuel : ℕ) (s : S) (d : ℕ) (ts : List Placed) → 0 < fuel → next_in kinds ts ≡ true
      → loop_from fuel kinds read s d ts ≡ answer.◌>>=◌ (read s d ts) (λ x. loop_from (fuel - 1) kinds read x.0 d x.1)
  loop_next zero s d ts p h = absurd (omega arith)
  loop_next (suc fuel) s d [] p h = absurd (cc)
  loop_next (suc fuel) s d (t ∷ ts) p h =
      let m : suc fuel - 1 ≡ fuel = omega arith in
      rw h (ap (λ f. answer.◌>>=◌ (read s d (t ∷ ts)) (λ x. loop_from f kinds read x.0 d x.1)) (sym m))

  pub loop_stop : (fuel : ℕ) (s : S) (d : ℕ) (ts : List Placed) → 0 < fuel → next_in kinds ts ≡ false → loop_from fuel kinds read s d ts ≡ reads (s, ts)
  loop_stop zero s d ts p h = absurd (omega arith)
  loop_stop (suc fuel) s d [] p h = refl
  loop_stop (suc fuel) s d (t ∷ ts) p h = rw h refl

  pub loop_fails : (e : Stop) (fuel : ℕ) (s : S) (d : ℕ) (ts : List Placed) (whole : Answer (S × List Placed))
      → 0 < fuel → next_in kinds ts ≡ true → Fails e (read s d ts) → loop_from fuel kinds read s d ts ≡ whole → Fails e whole
  loop_fails stops.OutOfMemory fuel s d ts whole p h f i = tt
  loop_fails (stops.Leaves n w) fuel s d ts whole p h f i = sym i ∙ (loop_next fuel s d ts p h ∙ rw f refl)

  pub loop_ends : (fuel : ℕ) (s : S) (d : ℕ) (ts : List Placed) (whole : Answer (S × List Placed))
      → 0 < fuel → next_in kinds ts ≡ false → loop_from fuel kinds read s d ts ≡ whole → whole ≡ reads (s, ts)
  loop_ends fuel s d ts whole p h i = sym i ∙ loop_stop fuel s d ts p h

  pub loop_goes_on : (fuel : ℕ) (s : S) (d : ℕ) (ts : List Placed) (whole : Answer (S × List Placed)) (x : S) (rest : List Placed)
      → 0 < fuel → next_in kinds ts ≡ true → loop_from fuel kinds read s d ts ≡ whole → read s d ts ≡ reads (x, rest)
      → loop_from (fuel - 1) kinds read x d rest ≡ whole
  loop_goes_on fuel s d ts whole x rest p h i r =
      sym (loop_next fuel s d ts p h ∙ bind_reads (read s d ts) (λ z. loop_from (fuel - 1) kinds read z.0 d z.1) (x, rest) r) ∙ i

-- ---- whether there are some, and rows

module _ {X : Type 0} (kinds : List Kind) (read : Reader X) where
  abbrev marks : Bool → Reader Bool
  marks b = read >>= λ x. done true

  abbrev pushes : List X → Reader (List X)
  pushes xs = read >>= λ x. done (xs ++ x ∷ [])

  pub skipped_fails : (e : Stop) (fuel : ℕ) (b : Bool) (d : ℕ) (ts : List Placed) (whole : Answer (Bool × List Placed))
      → 0 < fuel → next_in kinds ts ≡ true → Fails e (read d ts) → loop_from fuel kinds marks b d ts ≡ whole → Fails e whole
  skipped_fails stops.OutOfMemory fuel b d ts whole p h f i = tt
  skipped_fails (stops.Leaves n w) fuel b d ts whole p h f i = loop_fails kinds marks (stops.Leaves n w) fuel b d ts whole p h (rw f refl) i

  pub skipped_goes_on : (fuel : ℕ) (b : Bool) (d : ℕ) (ts : List Placed) (whole : Answer (Bool × List Placed)) (x : X) (rest : List Placed)
      → 0 < fuel → next_in kinds ts ≡ true → loop_from fuel kinds marks b d ts ≡ whole → read d ts ≡ reads (x, rest)
      → loop_from (fuel - 1) kinds marks true d rest ≡ whole
  skipped_goes_on fuel b d ts whole x rest p h i r = loop_goes_on kinds marks fuel b d ts whole true rest p h i (bind_reads (read d ts) (λ z. reads (true, z.1)) (x, rest) r)

  pub row_fails : (e : Stop) (fuel : ℕ) (xs : List X) (d : ℕ) (ts : List Placed) (whole : Answer (List X × List Placed))
      → 0 < fuel → next_in kinds ts ≡ true → Fails e (read d ts) → loop_from fuel kinds pushes xs d ts ≡ whole → Fails e whole
  row_fails stops.OutOfMemory fuel xs d ts whole p h f i = tt
  row_fails (stops.Leaves n w) fuel xs d ts whole p h f i = loop_fails kinds pushes (stops.Leaves n w) fuel xs d ts whole p h (rw f refl) i

  pub row_goes_on : (fuel : ℕ) (xs : List X) (d : ℕ) (ts : List Placed) (whole : Answer (List X × List Placed)) (x : X) (rest : List Placed) (more : List X)
      → 0 < fuel → next_in kinds ts ≡ true → loop_from fuel kinds pushes xs d ts ≡ whole → read d ts ≡ reads (x, rest) → more ≡ xs ++ x ∷ []
      → loop_from (fuel - 1) kinds pushes more d rest ≡ whole
  row_goes_on fuel xs d ts whole x rest more p h i r m =
      ap (λ z. loop_from (fuel - 1) kinds pushes z d rest) m
      ∙ loop_goes_on kinds pushes fuel xs d ts whole (xs ++ x ∷ []) rest p h i (bind_reads (read d ts) (λ z. reads (xs ++ z.0 ∷ [], z.1)) (x, rest) r)
