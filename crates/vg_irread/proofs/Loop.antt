-- A reader that takes steps while it can is exact, where none of what may not follow a step begins one.
use Rattle.std.proofs.Common.{◌≡◌, ℕ, zero, suc, ◌+◌, ◌<◌, ◌≤◌, Bool, true, false, cond, List, [], ◌∷◌, ◌++◌, length, map, refl, sym, ap, subst, ◌∙◌, arith, append_assoc, length-append, IsTrue, inr}
use Rattle.std.proofs.lemmas.Bool.{and_parts, and_from}
use Rattle.vg_irparse.specs.declared.role.Wanted.{Wanted}
use Rattle.vg_irparse.specs.Placed.{Placed, Slot, lexemes_of}
use Rattle.vg_irparse.specs.Spelling.{spelled_list}
use Rattle.vg_irparse.specs.Answer.{Answer, reads, leaves, too_deep}
use Rattle.vg_irparse.specs.Answer as answer
use Rattle.vg_irread.specs.Kinds.{Kind, is_in, apart}
use Rattle.vg_irread.specs.Reading.{Reader, loop_from, loop_at}
use Rattle.vg_irread.specs.Exact.{Spelling, front, greatest, Steps, step, are_steps, made_by, run, Found, Ends, Tells, Begins, Refused, Starts, IsExact}
use Rattle.vg_irread.proofs.Apart.{out_of}
use Rattle.vg_irread.proofs.Single.{reads_not, deep_not, deep_leaves_not, same_reads, bind, bind_leaves, bind_reads, bind_tells, tells_along, no_more, cut_once}
use Rattle.vg_irread.proofs.Pairs.{again_over, ends_join}
use Rattle.vg_irread.proofs.Optional.{deciding, deciding_is, starts_before, starts_may}

module _ {T S : Type 0} {p : Steps T S} {kinds goes : List Kind} {read : S → Reader S} (i : (s : S) → IsExact (step p s) kinds false goes (read s)) (alone : IsTrue (apart goes kinds)) where
  -- the lexemes of one step, and of as many as there are
  abbrev one_front : T → List Placed
  one_front t = lexemes_of (p.spelled t [])

  abbrev all_front : List T → List Placed
  all_front ts = lexemes_of (spelled_list p.spelled ts [])

  abbrev deepest : List T → ℕ
  deepest ts = greatest (map p.nests ts)

  front_more : (s : S) (t : T) (ts : List T) → IsTrue (p.allows s t) → all_front (t ∷ ts) ≡ one_front t ++ all_front ts
  front_more s t ts g = (i s).appends t g (spelled_list p.spelled ts [])

  -- the text of a step isn't empty
  some_text : (fa : List Placed) → Starts kinds false fa → 0 < length fa
  some_text [] h = absurd (cc)
  some_text (t ∷ fa) h = omega arith

  loop_starts : (s : S) (ts : List T) → IsTrue (are_steps p s ts) → Starts kinds true (all_front ts)
  loop_starts s [] g = refl
  loop_starts s (t ∷ ts) g =
      let q = and_parts (p.allows s t) (are_steps p (p.makes s t) ts) g in
      subst (λ z. Starts kinds true z) (sym (front_more s t ts q.0)) (starts_may kinds true _ (starts_before kinds (one_front t) (all_front ts) ((i s).starts t q.0)))

  loop_appends : (s : S) (ts : List T) → IsTrue (are_steps p s ts) → (us : List Slot) → lexemes_of (spelled_list p.spelled ts us) ≡ all_front ts ++ lexemes_of us
  loop_appends s [] g us = refl
  loop_appends s (t ∷ ts) g us =
      let q = and_parts (p.allows s t) (are_steps p (p.makes s t) ts) g in
      (i s).appends t q.0 (spelled_list p.spelled ts us)
      ∙ (ap (λ z. one_front t ++ z) (loop_appends (p.makes s t) ts q.1 us)
      ∙ (sym (append_assoc (one_front t) (all_front ts) (lexemes_of us)) ∙ ap (λ z. z ++ lexemes_of us) (sym (front_more s t ts q.0))))

  -- ---- one step

  from_starts : (fuel : ℕ) (s : S) (d : ℕ) (ts : List Placed) → Starts kinds false ts
      → loop_from (suc fuel) kinds read s d ts ≡ answer.◌>>=◌ (read s d ts) (λ x. loop_from fuel kinds read x.0 d x.1)
  from_starts fuel s d [] h = absurd (cc)
  from_starts fuel s d (t ∷ ts) h = rw h refl

  from_end : (fuel : ℕ) (s : S) (d : ℕ) (ts : List Placed) → Ends (goes ++ kinds) ts → loop_from (suc fuel) kinds read s d ts ≡ reads (s, ts)
  from_end fuel s d [] h = refl
  from_end fuel s d (t ∷ ts) h = rw ((out_of goes kinds t.text h).1) refl

  -- ---- what is read is spelled

  record FoundFrom (s : S) (d : ℕ) (ts : List Placed) (made : S) (rest : List Placed) : Type 0 where
    trees : List T
    is_one : IsTrue (are_steps p s trees)
    within : deepest trees ≤ d
    whole : ts ≡ all_front trees ++ rest
    same : made ≡ made_by p s trees

  found_end : (s : S) (d : ℕ) (ts : List Placed) (made : S) (rest : List Placed) → ◌≡◌ {A = Answer (S × List Placed)} (reads (s, ts)) (reads (made, rest)) → FoundFrom s d ts made rest
  found_end s d ts made rest h =
      let q = same_reads (s, ts) (made, rest) h in
      record {
        trees = [];
        is_one = refl;
        within = omega arith;
        whole = ap (λ (z : S × List Placed). z.1) q;
        same = sym (ap (λ (z : S × List Placed). z.0) q);
      }

  found_more : (s : S) (d : ℕ) (ts : List Placed) (x : S) (after : List Placed) (made : S) (rest : List Placed) → Found (step p s) d ts x after → FoundFrom x d after made rest
      → FoundFrom s d ts made rest
  found_more s d ts x after made rest f r = record {
    trees = f.tree ∷ r.trees;
    is_one = and_from (p.allows s f.tree) (are_steps p (p.makes s f.tree) r.trees) f.is_one (subst (λ z. are_steps p z r.trees ≡ true) f.same r.is_one);
    within = let a = f.within in let b = r.within in omega (arith, a, b);
    whole = f.whole ∙ (ap (λ z. one_front f.tree ++ z) r.whole
        ∙ (sym (append_assoc (one_front f.tree) (all_front r.trees) rest) ∙ ap (λ z. z ++ rest) (sym (front_more s f.tree r.trees f.is_one))));
    same = r.same ∙ ap (λ z. made_by p z r.trees) f.same;
  }

  found_from : (fuel : ℕ) (s : S) (d : ℕ) (ts : List Placed) (made : S) (rest : List Placed) → loop_from fuel kinds read s d ts ≡ reads (made, rest) → FoundFrom s d ts made rest
  found_from zero s d ts made rest h = deep_not h
  found_from (suc fuel) s d [] made rest h = found_end s d [] made rest h
  found_from (suc fuel) s d (t ∷ ts) made rest h = by_test (is_in kinds t.text) (λ x us l. found_from fuel x d us made rest l) h
    where
      by_test : (b : Bool) → ((x : S) (us : List Placed) → loop_from fuel kinds read x d us ≡ reads (made, rest) → FoundFrom x d us made rest)
          → cond b (answer.◌>>=◌ (read s d (t ∷ ts)) (λ x. loop_from fuel kinds read x.0 d x.1)) (reads (s, t ∷ ts)) ≡ reads (made, rest) → FoundFrom s d (t ∷ ts) made rest
      by_test true go k =
          bind (read s d (t ∷ ts)) (λ x. loop_from fuel kinds read x.0 d x.1) (made, rest) (FoundFrom s d (t ∷ ts) made rest) k (λ x hx l.
          found_more s d (t ∷ ts) x.0 x.1 made rest ((i s).sound d (t ∷ ts) x.0 x.1 hx) (go x.0 x.1 l))
      by_test false go k = found_end s d (t ∷ ts) made rest k

  -- ---- what is spelled is read

  read_from : (ts : List T) (s : S) → IsTrue (are_steps p s ts) → (fuel : ℕ) (d : ℕ) → deepest ts ≤ d → (rest : List Placed) → Ends (goes ++ kinds) rest
      → length (all_front ts ++ rest) < fuel → loop_from fuel kinds read s d (all_front ts ++ rest) ≡ reads (made_by p s ts, rest)
  read_from ts s g zero d n rest e l = absurd (omega (arith, l))
  read_from [] s g (suc fuel) d n rest e l = from_end fuel s d rest e
  read_from (t ∷ ts) s g (suc fuel) d n rest e l =
      let q = and_parts (p.allows s t) (are_steps p (p.makes s t) ts) g in
      let fa = one_front t in
      let fb = all_front ts in
      let w : all_front (t ∷ ts) ++ rest ≡ fa ++ (fb ++ rest) = ap (λ z. z ++ rest) (front_more s t ts q.0) ∙ append_assoc fa fb rest in
      let c = (i s).complete t q.0 d (omega (arith, n)) (fb ++ rest) (ends_join true goes kinds kinds fb rest alone (loop_starts (p.makes s t) ts q.1) e) in
      let m = some_text fa ((i s).starts t q.0) in
      ap (λ z. loop_from (suc fuel) kinds read s d z) w
      ∙ (from_starts fuel s d (fa ++ (fb ++ rest)) (starts_before kinds fa (fb ++ rest) ((i s).starts t q.0))
      ∙ (bind_reads (read s d (fa ++ (fb ++ rest))) (λ x. loop_from fuel kinds read x.0 d x.1) (p.makes s t, fb ++ rest) c
      ∙ read_from ts (p.makes s t) q.1 fuel d (omega (arith, n)) rest e (omega (arith, l, m, ap length w, length-append fa (fb ++ rest)))))

  -- ---- what is read depends on the next lexeme alone

  from_by : (fuel : ℕ) (s : S) (d : ℕ) (before : List Placed) (t : Placed) (us : List Placed) (b : Bool) → is_in kinds ((deciding before t).text) ≡ b
      → loop_from (suc fuel) kinds read s d (before ++ t ∷ us)
      ≡ cond b (answer.◌>>=◌ (read s d (before ++ t ∷ us)) (λ x. loop_from fuel kinds read x.0 d x.1)) (reads (s, before ++ t ∷ us))
  from_by fuel s d [] t us b h = rw h refl
  from_by fuel s d (a ∷ before) t us b h = rw h refl

  again_from : (fuel : ℕ) (s : S) (d : ℕ) (made : S) (before : List Placed) (t : Placed) (us : List Placed) → loop_from fuel kinds read s d (before ++ t ∷ us) ≡ reads (made, t ∷ us)
      → (e : ℕ) → d ≤ e → (vs : List Placed) (more : ℕ) → length (before ++ t ∷ vs) < more → loop_from more kinds read s e (before ++ t ∷ vs) ≡ reads (made, t ∷ vs)
  again_from zero s d made before t us h e l vs more m = deep_not h
  again_from (suc fuel) s d made before t us h e l vs zero m = absurd (omega (arith, m))
  again_from (suc fuel) s d made before t us h e l vs (suc more) m =
      let b = is_in kinds ((deciding before t).text) in
      from_by more s e before t vs b refl ∙ by_test b (λ x fb k o. again_from fuel x d made fb t us k e l vs more o) (sym (from_by fuel s d before t us b refl) ∙ h)
    where
      by_test : (b : Bool)
          → ((x : S) (fb : List Placed) → loop_from fuel kinds read x d (fb ++ t ∷ us) ≡ reads (made, t ∷ us) → length (fb ++ t ∷ vs) < more → loop_from more kinds read x e (fb ++ t ∷ vs) ≡ reads (made, t ∷ vs))
          → cond b (answer.◌>>=◌ (read s d (before ++ t ∷ us)) (λ x. loop_from fuel kinds read x.0 d x.1)) (reads (s, before ++ t ∷ us)) ≡ reads (made, t ∷ us)
          → cond b (answer.◌>>=◌ (read s e (before ++ t ∷ vs)) (λ x. loop_from more kinds read x.0 e x.1)) (reads (s, before ++ t ∷ vs)) ≡ reads (made, t ∷ vs)
      by_test true go k =
          bind (read s d (before ++ t ∷ us)) (λ x. loop_from fuel kinds read x.0 d x.1) (made, t ∷ us) _ k (λ x hx h2.
          let f = (i s).sound d (before ++ t ∷ us) x.0 x.1 hx in
          let r = found_from fuel x.0 d x.1 made (t ∷ us) h2 in
          let fa = one_front f.tree in
          let fb = all_front r.trees in
          let w : before ++ t ∷ us ≡ fa ++ (fb ++ t ∷ us) = f.whole ∙ ap (λ z. fa ++ z) r.whole in
          let c : before ≡ fa ++ fb = cut_once before (t ∷ us) (fa ++ fb) (t ∷ us) (w ∙ sym (append_assoc fa fb (t ∷ us))) refl in
          let q : read s d (fa ++ (fb ++ t ∷ us)) ≡ reads (x.0, fb ++ t ∷ us) = ap (read s d) (sym w) ∙ (hx ∙ ap (λ z. reads (x.0, z)) r.whole) in
          let o : before ++ t ∷ vs ≡ fa ++ (fb ++ t ∷ vs) = ap (λ z. z ++ t ∷ vs) c ∙ append_assoc fa fb (t ∷ vs) in
          let z = some_text fa ((i s).starts f.tree f.is_one) in
          bind_reads (read s e (before ++ t ∷ vs)) (λ y. loop_from more kinds read y.0 e y.1) (x.0, fb ++ t ∷ vs) (ap (read s e) o ∙ again_over (i s) d x.0 fa fb t us q e l vs)
          ∙ go x.0 fb (ap (loop_from fuel kinds read x.0 d) (sym r.whole) ∙ h2)
          (omega (arith, m, z, ap length o, length-append fa (fb ++ t ∷ vs))))
      by_test false go k =
          let q = same_reads (s, before ++ t ∷ us) (made, t ∷ us) k in
          let f = no_more before (t ∷ us) (ap (λ (u : S × List Placed). u.1) q) in
          ap (λ (u : S). reads (u, before ++ t ∷ vs)) (ap (λ (u : S × List Placed). u.0) q) ∙ ap (λ (u : List Placed). reads (made, u ++ t ∷ vs)) f

  -- ---- what is refused leaves what is spelled

  record RefusedFrom (s : S) (d : ℕ) (ts : List Placed) (n : ℕ) (w : Wanted) : Type 0 where
    before : List Placed
    behind : List Placed
    whole : ts ≡ before ++ behind
    count : length behind ≡ n
    begun : Begins (run p s) before
    refuses : (t : Placed) (others : List Placed) → behind ≡ t ∷ others → (e : ℕ) → d ≤ e → (us : List Placed) (fuel : ℕ)
        → Tells (loop_from fuel kinds read s e (before ++ t ∷ us)) (length us + 1) w

  refused_one : (s : S) (d : ℕ) (t : Placed) (ts : List Placed) (n : ℕ) (w : Wanted) → is_in kinds t.text ≡ true → Refused (step p s) (read s) d (t ∷ ts) n w → RefusedFrom s d (t ∷ ts) n w
  refused_one s d t ts n w m r =
      let b = r.begun in
      record {
        before = r.before;
        behind = r.behind;
        whole = r.whole;
        count = r.count;
        begun = (b.0 ∷ [], and_from (p.allows s b.0) true b.1 refl, b.2, b.3);
        refuses = λ a others q e l us fuel. at_fuel a others q e l us fuel;
      }
    where
      at_fuel : (a : Placed) (others : List Placed) → r.behind ≡ a ∷ others → (e : ℕ) → d ≤ e → (us : List Placed) (fuel : ℕ)
          → Tells (loop_from fuel kinds read s e (r.before ++ a ∷ us)) (length us + 1) w
      at_fuel a others q e l us zero = inr refl
      at_fuel a others q e l us (suc fuel) =
          let f = deciding_is t ts r.before a others (r.whole ∙ ap (λ z. r.before ++ z) q) in
          tells_along _ _ (length us + 1) w (from_by fuel s e r.before a us true (ap (λ (z : Placed). is_in kinds z.text) (sym f) ∙ m))
          (bind_tells (read s e (r.before ++ a ∷ us)) (λ x. loop_from fuel kinds read x.0 e x.1) (length us + 1) w (r.refuses a others q e l us))

  refused_more : (s : S) (d : ℕ) (ts : List Placed) (n : ℕ) (w : Wanted) (x : S) (after : List Placed) → read s d ts ≡ reads (x, after) → Found (step p s) d ts x after → RefusedFrom x d after n w → RefusedFrom s d ts n w
  refused_more s d ts n w x after h f r =
      let b = r.begun in
      record {
        before = one_front f.tree ++ r.before;
        behind = r.behind;
        whole = f.whole ∙ (ap (λ z. one_front f.tree ++ z) r.whole ∙ sym (append_assoc (one_front f.tree) r.before r.behind));
        count = r.count;
        begun = (
          f.tree ∷ b.0,
          and_from (p.allows s f.tree) (are_steps p (p.makes s f.tree) b.0) f.is_one (subst (λ z. are_steps p z b.0 ≡ true) f.same b.1),
          b.2,
          front_more s f.tree b.0 f.is_one ∙ (ap (λ z. one_front f.tree ++ z) b.3 ∙ sym (append_assoc (one_front f.tree) r.before b.2)),
        );
        refuses = λ a others q e l us fuel. at_fuel a others q e l us fuel;
      }
    where
      at_fuel : (a : Placed) (others : List Placed) → r.behind ≡ a ∷ others → (e : ℕ) → d ≤ e → (us : List Placed) (fuel : ℕ)
          → Tells (loop_from fuel kinds read s e ((one_front f.tree ++ r.before) ++ a ∷ us)) (length us + 1) w
      at_fuel a others q e l us zero = inr refl
      at_fuel a others q e l us (suc fuel) =
          let fa = one_front f.tree in
          let o : after ≡ r.before ++ a ∷ others = r.whole ∙ ap (λ z. r.before ++ z) q in
          let k : read s d (fa ++ (r.before ++ a ∷ others)) ≡ reads (x, r.before ++ a ∷ others) =
          ap (read s d) (ap (λ z. fa ++ z) (sym o) ∙ sym f.whole) ∙ (h ∙ ap (λ z. reads (x, z)) o) in
          tells_along _ _ (length us + 1) w
          (ap (λ z. loop_from (suc fuel) kinds read s e z) (append_assoc fa r.before (a ∷ us))
          ∙ (from_starts fuel s e (fa ++ (r.before ++ a ∷ us)) (starts_before kinds fa (r.before ++ a ∷ us) ((i s).starts f.tree f.is_one))
          ∙ bind_reads (read s e (fa ++ (r.before ++ a ∷ us))) (λ z. loop_from fuel kinds read z.0 e z.1) (x, r.before ++ a ∷ us) (again_over (i s) d x fa r.before a others k e l us)))
          (r.refuses a others q e l us fuel)

  refused_from : (fuel : ℕ) (s : S) (d : ℕ) (ts : List Placed) (n : ℕ) (w : Wanted) → loop_from fuel kinds read s d ts ≡ leaves n w → RefusedFrom s d ts n w
  refused_from zero s d ts n w h = deep_leaves_not h
  refused_from (suc fuel) s d [] n w h = reads_not h
  refused_from (suc fuel) s d (t ∷ ts) n w h = by_test (is_in kinds t.text) (λ x us l. refused_from fuel x d us n w l) refl h
    where
      by_test : (b : Bool) → ((x : S) (us : List Placed) → loop_from fuel kinds read x d us ≡ leaves n w → RefusedFrom x d us n w) → is_in kinds t.text ≡ b
          → cond b (answer.◌>>=◌ (read s d (t ∷ ts)) (λ x. loop_from fuel kinds read x.0 d x.1)) (reads (s, t ∷ ts)) ≡ leaves n w → RefusedFrom s d (t ∷ ts) n w
      by_test true go m k =
          bind_leaves (read s d (t ∷ ts)) (λ x. loop_from fuel kinds read x.0 d x.1) n w (RefusedFrom s d (t ∷ ts) n w) k
          (λ l. refused_one s d t ts n w m ((i s).placed d (t ∷ ts) n w l))
          (λ x hx l. refused_more s d (t ∷ ts) n w x.0 x.1 hx ((i s).sound d (t ∷ ts) x.0 x.1 hx) (go x.0 x.1 l))
      by_test false go m k = reads_not k

  -- ---- all of it

  loop_sound : (s : S) (d : ℕ) (ts : List Placed) (made : S) (rest : List Placed) → loop_at kinds read s d ts ≡ reads (made, rest) → Found (run p s) d ts made rest
  loop_sound s d ts made rest h =
      let f = found_from (length ts + 1) s d ts made rest h in
      record { tree = f.trees; is_one = f.is_one; within = f.within; whole = f.whole; same = f.same }

  loop_placed : (s : S) (d : ℕ) (ts : List Placed) (n : ℕ) (w : Wanted) → loop_at kinds read s d ts ≡ leaves n w → Refused (run p s) (loop_at kinds read s) d ts n w
  loop_placed s d ts n w h =
      let r = refused_from (length ts + 1) s d ts n w h in
      record {
        before = r.before;
        behind = r.behind;
        whole = r.whole;
        count = r.count;
        begun = r.begun;
        refuses = λ t others q e l us. r.refuses t others q e l us (length (r.before ++ t ∷ us) + 1);
      }

  pub loop_exact : (s : S) → IsExact (run p s) kinds true (goes ++ kinds) (loop_at kinds read s)
  loop_exact s = record {
    some = [];
    some_is = refl;
    appends = loop_appends s;
    starts = loop_starts s;
    sound = loop_sound s;
    complete = λ ts g d n rest e. read_from ts s g (length (all_front ts ++ rest) + 1) d n rest e (omega arith);
    again = λ d made before t us h e l vs.
        again_from (length (before ++ t ∷ us) + 1) s d made before t us h e l vs (length (before ++ t ∷ vs) + 1) (omega arith);
    placed = loop_placed s;
  }
