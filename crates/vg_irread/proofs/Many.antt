-- A reader of as many as there are is exact, where none of what may not follow one begins another.
use Rattle.std.proofs.Common.{◌≡◌, ℕ, zero, suc, ◌+◌, ◌<◌, ◌≤◌, Bool, true, false, cond, List, [], ◌∷◌, ◌++◌, length, refl, sym, ap, subst, ◌∙◌, arith, append_assoc, length-append, IsTrue, inr}
use Rattle.std.proofs.lemmas.Bool.{and_parts, and_from}
use Rattle.std.proofs.lemmas.List.{append-nil}
use Rattle.std.specs.List.{list_all}
use Rattle.vg_irparse.specs.declared.role.Wanted.{Wanted}
use Rattle.vg_irparse.specs.Placed.{Placed, Slot, lexemes_of}
use Rattle.vg_irparse.specs.Spelling.{spelled_list}
use Rattle.vg_irparse.specs.Answer.{Answer, reads, leaves, too_deep}
use Rattle.vg_irparse.specs.Answer as answer
use Rattle.vg_irread.specs.Kinds.{Kind, is_in, apart}
use Rattle.vg_irread.specs.Reading.{Reader, many_from, many_at}
use Rattle.vg_irread.specs.Exact.{Spelling, front, many, Found, Ends, Tells, Begins, Refused, Starts, IsExact}
use Rattle.vg_irread.proofs.Apart.{out_of}
use Rattle.vg_irread.proofs.Single.{reads_not, deep_not, deep_leaves_not, same_reads, bind, bind_leaves, bind_reads, bind_tells, tells_along, no_more, cut_once}
use Rattle.vg_irread.proofs.Pairs.{again_over, ends_join}
use Rattle.vg_irread.proofs.Optional.{deciding, deciding_is, starts_before, starts_may}

module _ {T X : Type 0} {s : Spelling T X} {kinds goes : List Kind} {read : Reader X} (i : IsExact s kinds false goes read) (alone : IsTrue (apart goes kinds)) where
  front_more : (t : T) (ts : List T) → IsTrue (s.grammar t) → front (many s) (t ∷ ts) ≡ front s t ++ front (many s) ts
  front_more t ts g = i.appends t g (spelled_list s.spelled ts [])

  -- the text of a tree isn't empty
  some_text : (fa : List Placed) → Starts kinds false fa → 0 < length fa
  some_text [] h = absurd (cc)
  some_text (t ∷ fa) h = omega arith

  many_starts : (ts : List T) → IsTrue ((many s).grammar ts) → Starts kinds true (front (many s) ts)
  many_starts [] g = refl
  many_starts (t ∷ ts) g =
      let p = and_parts (s.grammar t) (list_all s.grammar ts) g in
      subst (λ z. Starts kinds true z) (sym (front_more t ts p.0)) (starts_may kinds true _ (starts_before kinds (front s t) (front (many s) ts) (i.starts t p.0)))

  many_appends : (ts : List T) → IsTrue ((many s).grammar ts) → (us : List Slot) → lexemes_of ((many s).spelled ts us) ≡ front (many s) ts ++ lexemes_of us
  many_appends [] g us = refl
  many_appends (t ∷ ts) g us =
      let p = and_parts (s.grammar t) (list_all s.grammar ts) g in
      i.appends t p.0 (spelled_list s.spelled ts us)
      ∙ (ap (λ z. front s t ++ z) (many_appends ts p.1 us)
      ∙ (sym (append_assoc (front s t) (front (many s) ts) (lexemes_of us)) ∙ ap (λ z. z ++ lexemes_of us) (sym (front_more t ts p.0))))

  -- ---- one step

  from_starts : (fuel : ℕ) (xs : List X) (d : ℕ) (ts : List Placed) → Starts kinds false ts
      → many_from (suc fuel) kinds read xs d ts ≡ answer.◌>>=◌ (read d ts) (λ x. many_from fuel kinds read (xs ++ x.0 ∷ []) d x.1)
  from_starts fuel xs d [] h = absurd (cc)
  from_starts fuel xs d (t ∷ ts) h = rw h refl

  from_end : (fuel : ℕ) (xs : List X) (d : ℕ) (ts : List Placed) → Ends (goes ++ kinds) ts → many_from (suc fuel) kinds read xs d ts ≡ reads (xs, ts)
  from_end fuel xs d [] h = refl
  from_end fuel xs d (t ∷ ts) h = rw ((out_of goes kinds t.text h).1) refl

  -- ---- what is read is spelled

  record FoundFrom (xs : List X) (d : ℕ) (ts : List Placed) (ys : List X) (rest : List Placed) : Type 0 where
    trees : List T
    is_one : IsTrue ((many s).grammar trees)
    within : (many s).nests trees ≤ d
    whole : ts ≡ front (many s) trees ++ rest
    same : ys ≡ xs ++ (many s).means trees

  found_end : (xs : List X) (d : ℕ) (ts : List Placed) (ys : List X) (rest : List Placed) → ◌≡◌ {A = Answer (List X × List Placed)} (reads (xs, ts)) (reads (ys, rest)) → FoundFrom xs d ts ys rest
  found_end xs d ts ys rest h =
      let p = same_reads (xs, ts) (ys, rest) h in
      record {
        trees = [];
        is_one = refl;
        within = omega arith;
        whole = ap (λ (z : List X × List Placed). z.1) p;
        same = sym (ap (λ (z : List X × List Placed). z.0) p) ∙ sym (append-nil xs);
      }

  found_more : (xs : List X) (d : ℕ) (ts : List Placed) (x : X) (after : List Placed) (ys : List X) (rest : List Placed) → Found s d ts x after → FoundFrom (xs ++ x ∷ []) d after ys rest
      → FoundFrom xs d ts ys rest
  found_more xs d ts x after ys rest f r = record {
    trees = f.tree ∷ r.trees;
    is_one = and_from (s.grammar f.tree) (list_all s.grammar r.trees) f.is_one r.is_one;
    within = let a = f.within in let b = r.within in omega (arith, a, b);
    whole = f.whole ∙ (ap (λ z. front s f.tree ++ z) r.whole
        ∙ (sym (append_assoc (front s f.tree) (front (many s) r.trees) rest) ∙ ap (λ z. z ++ rest) (sym (front_more f.tree r.trees f.is_one))));
    same = r.same ∙ (append_assoc xs (x ∷ []) ((many s).means r.trees) ∙ ap (λ z. xs ++ z ∷ (many s).means r.trees) f.same);
  }

  found_from : (fuel : ℕ) (xs : List X) (d : ℕ) (ts : List Placed) (ys : List X) (rest : List Placed) → many_from fuel kinds read xs d ts ≡ reads (ys, rest) → FoundFrom xs d ts ys rest
  found_from zero xs d ts ys rest h = deep_not h
  found_from (suc fuel) xs d [] ys rest h = found_end xs d [] ys rest h
  found_from (suc fuel) xs d (t ∷ ts) ys rest h = by_test (is_in kinds t.text) (λ zs us l. found_from fuel zs d us ys rest l) h
    where
      by_test : (b : Bool) → ((zs : List X) (us : List Placed) → many_from fuel kinds read zs d us ≡ reads (ys, rest) → FoundFrom zs d us ys rest) → cond b (answer.◌>>=◌ (read d (t ∷ ts)) (λ x. many_from fuel kinds read (xs ++ x.0 ∷ []) d x.1)) (reads (xs, t ∷ ts)) ≡ reads (ys, rest) → FoundFrom xs d (t ∷ ts) ys rest
      by_test true go k =
          bind (read d (t ∷ ts)) (λ x. many_from fuel kinds read (xs ++ x.0 ∷ []) d x.1) (ys, rest) (FoundFrom xs d (t ∷ ts) ys rest) k (λ x hx l.
          found_more xs d (t ∷ ts) x.0 x.1 ys rest (i.sound d (t ∷ ts) x.0 x.1 hx) (go (xs ++ x.0 ∷ []) x.1 l))
      by_test false go k = found_end xs d (t ∷ ts) ys rest k

  -- ---- what is spelled is read

  read_from : (ts : List T) → IsTrue ((many s).grammar ts) → (fuel : ℕ) (xs : List X) (d : ℕ) → (many s).nests ts ≤ d → (rest : List Placed) → Ends (goes ++ kinds) rest
      → length (front (many s) ts ++ rest) < fuel → many_from fuel kinds read xs d (front (many s) ts ++ rest) ≡ reads (xs ++ (many s).means ts, rest)
  read_from ts g zero xs d n rest e l = absurd (omega (arith, l))
  read_from [] g (suc fuel) xs d n rest e l = from_end fuel xs d rest e ∙ ap (λ (z : List X). reads (z, rest)) (sym (append-nil xs))
  read_from (t ∷ ts) g (suc fuel) xs d n rest e l =
      let p = and_parts (s.grammar t) (list_all s.grammar ts) g in
      let fa = front s t in
      let fb = front (many s) ts in
      let w : front (many s) (t ∷ ts) ++ rest ≡ fa ++ (fb ++ rest) = ap (λ z. z ++ rest) (front_more t ts p.0) ∙ append_assoc fa fb rest in
      let c = i.complete t p.0 d (omega (arith, n)) (fb ++ rest) (ends_join true goes kinds kinds fb rest alone (many_starts ts p.1) e) in
      let m = some_text fa (i.starts t p.0) in
      ap (λ z. many_from (suc fuel) kinds read xs d z) w
      ∙ (from_starts fuel xs d (fa ++ (fb ++ rest)) (starts_before kinds fa (fb ++ rest) (i.starts t p.0))
      ∙ (bind_reads (read d (fa ++ (fb ++ rest))) (λ x. many_from fuel kinds read (xs ++ x.0 ∷ []) d x.1) (s.means t, fb ++ rest) c
      ∙ (read_from ts p.1 fuel (xs ++ s.means t ∷ []) d (omega (arith, n)) rest e (omega (arith, l, m, ap length w, length-append fa (fb ++ rest)))
      ∙ ap (λ (z : List X). reads (z, rest)) (append_assoc xs (s.means t ∷ []) ((many s).means ts)))))

  -- ---- what is read depends on the next lexeme alone

  from_by : (fuel : ℕ) (xs : List X) (d : ℕ) (before : List Placed) (t : Placed) (us : List Placed) (b : Bool) → is_in kinds ((deciding before t).text) ≡ b
      → many_from (suc fuel) kinds read xs d (before ++ t ∷ us)
      ≡ cond b (answer.◌>>=◌ (read d (before ++ t ∷ us)) (λ x. many_from fuel kinds read (xs ++ x.0 ∷ []) d x.1)) (reads (xs, before ++ t ∷ us))
  from_by fuel xs d [] t us b h = rw h refl
  from_by fuel xs d (a ∷ before) t us b h = rw h refl

  again_from : (fuel : ℕ) (xs : List X) (d : ℕ) (ys : List X) (before : List Placed) (t : Placed) (us : List Placed) → many_from fuel kinds read xs d (before ++ t ∷ us) ≡ reads (ys, t ∷ us)
      → (e : ℕ) → d ≤ e → (vs : List Placed) (more : ℕ) → length (before ++ t ∷ vs) < more → many_from more kinds read xs e (before ++ t ∷ vs) ≡ reads (ys, t ∷ vs)
  again_from zero xs d ys before t us h e l vs more m = deep_not h
  again_from (suc fuel) xs d ys before t us h e l vs zero m = absurd (omega (arith, m))
  again_from (suc fuel) xs d ys before t us h e l vs (suc more) m =
      let b = is_in kinds ((deciding before t).text) in
      from_by more xs e before t vs b refl ∙ by_test b (λ zs fb k o. again_from fuel zs d ys fb t us k e l vs more o) (sym (from_by fuel xs d before t us b refl) ∙ h)
    where
      by_test : (b : Bool)
          → ((zs : List X) (fb : List Placed) → many_from fuel kinds read zs d (fb ++ t ∷ us) ≡ reads (ys, t ∷ us) → length (fb ++ t ∷ vs) < more → many_from more kinds read zs e (fb ++ t ∷ vs) ≡ reads (ys, t ∷ vs))
          → cond b (answer.◌>>=◌ (read d (before ++ t ∷ us)) (λ x. many_from fuel kinds read (xs ++ x.0 ∷ []) d x.1)) (reads (xs, before ++ t ∷ us)) ≡ reads (ys, t ∷ us)
          → cond b (answer.◌>>=◌ (read e (before ++ t ∷ vs)) (λ x. many_from more kinds read (xs ++ x.0 ∷ []) e x.1)) (reads (xs, before ++ t ∷ vs)) ≡ reads (ys, t ∷ vs)
      by_test true go k =
          bind (read d (before ++ t ∷ us)) (λ x. many_from fuel kinds read (xs ++ x.0 ∷ []) d x.1) (ys, t ∷ us) _ k (λ x hx h2.
          let f = i.sound d (before ++ t ∷ us) x.0 x.1 hx in
          let r = found_from fuel (xs ++ x.0 ∷ []) d x.1 ys (t ∷ us) h2 in
          let fa = front s f.tree in
          let fb = front (many s) r.trees in
          let w : before ++ t ∷ us ≡ fa ++ (fb ++ t ∷ us) = f.whole ∙ ap (λ z. fa ++ z) r.whole in
          let c : before ≡ fa ++ fb = cut_once before (t ∷ us) (fa ++ fb) (t ∷ us) (w ∙ sym (append_assoc fa fb (t ∷ us))) refl in
          let q : read d (fa ++ (fb ++ t ∷ us)) ≡ reads (x.0, fb ++ t ∷ us) = ap (read d) (sym w) ∙ (hx ∙ ap (λ z. reads (x.0, z)) r.whole) in
          let o : before ++ t ∷ vs ≡ fa ++ (fb ++ t ∷ vs) = ap (λ z. z ++ t ∷ vs) c ∙ append_assoc fa fb (t ∷ vs) in
          let z = some_text fa (i.starts f.tree f.is_one) in
          bind_reads (read e (before ++ t ∷ vs)) (λ y. many_from more kinds read (xs ++ y.0 ∷ []) e y.1) (x.0, fb ++ t ∷ vs) (ap (read e) o ∙ again_over i d x.0 fa fb t us q e l vs)
          ∙ go (xs ++ x.0 ∷ []) fb (ap (many_from fuel kinds read (xs ++ x.0 ∷ []) d) (sym r.whole) ∙ h2)
          (omega (arith, m, z, ap length o, length-append fa (fb ++ t ∷ vs))))
      by_test false go k =
          let p = same_reads (xs, before ++ t ∷ us) (ys, t ∷ us) k in
          let f = no_more before (t ∷ us) (ap (λ (u : List X × List Placed). u.1) p) in
          ap (λ (u : List X). reads (u, before ++ t ∷ vs)) (ap (λ (u : List X × List Placed). u.0) p) ∙ ap (λ (u : List Placed). reads (ys, u ++ t ∷ vs)) f

  -- ---- what is refused leaves what is spelled

  record RefusedFrom (d : ℕ) (ts : List Placed) (n : ℕ) (w : Wanted) : Type 0 where
    before : List Placed
    behind : List Placed
    whole : ts ≡ before ++ behind
    count : length behind ≡ n
    begun : Begins (many s) before
    refuses : (t : Placed) (others : List Placed) → behind ≡ t ∷ others → (e : ℕ) → d ≤ e → (us : List Placed) (fuel : ℕ) (ys : List X)
        → Tells (many_from fuel kinds read ys e (before ++ t ∷ us)) (length us + 1) w

  refused_one : (d : ℕ) (t : Placed) (ts : List Placed) (n : ℕ) (w : Wanted) → is_in kinds t.text ≡ true → Refused s read d (t ∷ ts) n w → RefusedFrom d (t ∷ ts) n w
  refused_one d t ts n w m r =
      let b = r.begun in
      record {
        before = r.before;
        behind = r.behind;
        whole = r.whole;
        count = r.count;
        begun = (b.0 ∷ [], and_from (s.grammar b.0) true b.1 refl, b.2, b.3);
        refuses = λ a others q e l us fuel ys. at_fuel a others q e l us ys fuel;
      }
    where
      at_fuel : (a : Placed) (others : List Placed) → r.behind ≡ a ∷ others → (e : ℕ) → d ≤ e → (us : List Placed) (ys : List X) (fuel : ℕ)
          → Tells (many_from fuel kinds read ys e (r.before ++ a ∷ us)) (length us + 1) w
      at_fuel a others q e l us ys zero = inr refl
      at_fuel a others q e l us ys (suc fuel) =
          let f = deciding_is t ts r.before a others (r.whole ∙ ap (λ z. r.before ++ z) q) in
          tells_along _ _ (length us + 1) w (from_by fuel ys e r.before a us true (ap (λ (z : Placed). is_in kinds z.text) (sym f) ∙ m))
          (bind_tells (read e (r.before ++ a ∷ us)) (λ x. many_from fuel kinds read (ys ++ x.0 ∷ []) e x.1) (length us + 1) w (r.refuses a others q e l us))

  refused_more : (d : ℕ) (ts : List Placed) (n : ℕ) (w : Wanted) (x : X) (after : List Placed) → read d ts ≡ reads (x, after) → Found s d ts x after → RefusedFrom d after n w → RefusedFrom d ts n w
  refused_more d ts n w x after h f r =
      let b = r.begun in
      record {
        before = front s f.tree ++ r.before;
        behind = r.behind;
        whole = f.whole ∙ (ap (λ z. front s f.tree ++ z) r.whole ∙ sym (append_assoc (front s f.tree) r.before r.behind));
        count = r.count;
        begun = (
          f.tree ∷ b.0,
          and_from (s.grammar f.tree) (list_all s.grammar b.0) f.is_one b.1,
          b.2,
          front_more f.tree b.0 f.is_one ∙ (ap (λ z. front s f.tree ++ z) b.3 ∙ sym (append_assoc (front s f.tree) r.before b.2)),
        );
        refuses = λ a others q e l us fuel ys. at_fuel a others q e l us ys fuel;
      }
    where
      at_fuel : (a : Placed) (others : List Placed) → r.behind ≡ a ∷ others → (e : ℕ) → d ≤ e → (us : List Placed) (ys : List X) (fuel : ℕ)
          → Tells (many_from fuel kinds read ys e ((front s f.tree ++ r.before) ++ a ∷ us)) (length us + 1) w
      at_fuel a others q e l us ys zero = inr refl
      at_fuel a others q e l us ys (suc fuel) =
          let fa = front s f.tree in
          let o : after ≡ r.before ++ a ∷ others = r.whole ∙ ap (λ z. r.before ++ z) q in
          let k : read d (fa ++ (r.before ++ a ∷ others)) ≡ reads (x, r.before ++ a ∷ others) =
          ap (read d) (ap (λ z. fa ++ z) (sym o) ∙ sym f.whole) ∙ (h ∙ ap (λ z. reads (x, z)) o) in
          tells_along _ _ (length us + 1) w
          (ap (λ z. many_from (suc fuel) kinds read ys e z) (append_assoc fa r.before (a ∷ us))
          ∙ (from_starts fuel ys e (fa ++ (r.before ++ a ∷ us)) (starts_before kinds fa (r.before ++ a ∷ us) (i.starts f.tree f.is_one))
          ∙ bind_reads (read e (fa ++ (r.before ++ a ∷ us))) (λ z. many_from fuel kinds read (ys ++ z.0 ∷ []) e z.1) (x, r.before ++ a ∷ us) (again_over i d x fa r.before a others k e l us)))
          (r.refuses a others q e l us fuel (ys ++ x ∷ []))

  refused_from : (fuel : ℕ) (xs : List X) (d : ℕ) (ts : List Placed) (n : ℕ) (w : Wanted) → many_from fuel kinds read xs d ts ≡ leaves n w → RefusedFrom d ts n w
  refused_from zero xs d ts n w h = deep_leaves_not h
  refused_from (suc fuel) xs d [] n w h = reads_not h
  refused_from (suc fuel) xs d (t ∷ ts) n w h = by_test (is_in kinds t.text) (λ zs us l. refused_from fuel zs d us n w l) refl h
    where
      by_test : (b : Bool) → ((zs : List X) (us : List Placed) → many_from fuel kinds read zs d us ≡ leaves n w → RefusedFrom d us n w) → is_in kinds t.text ≡ b → cond b (answer.◌>>=◌ (read d (t ∷ ts)) (λ x. many_from fuel kinds read (xs ++ x.0 ∷ []) d x.1)) (reads (xs, t ∷ ts)) ≡ leaves n w → RefusedFrom d (t ∷ ts) n w
      by_test true go m k =
          bind_leaves (read d (t ∷ ts)) (λ x. many_from fuel kinds read (xs ++ x.0 ∷ []) d x.1) n w (RefusedFrom d (t ∷ ts) n w) k
          (λ l. refused_one d t ts n w m (i.placed d (t ∷ ts) n w l))
          (λ x hx l. refused_more d (t ∷ ts) n w x.0 x.1 hx (i.sound d (t ∷ ts) x.0 x.1 hx) (go (xs ++ x.0 ∷ []) x.1 l))
      by_test false go m k = reads_not k

  -- ---- all of it

  many_sound : (d : ℕ) (ts : List Placed) (ys : List X) (rest : List Placed) → many_at kinds read d ts ≡ reads (ys, rest) → Found (many s) d ts ys rest
  many_sound d ts ys rest h =
      let f = found_from (length ts + 1) [] d ts ys rest h in
      record { tree = f.trees; is_one = f.is_one; within = f.within; whole = f.whole; same = f.same }

  many_placed : (d : ℕ) (ts : List Placed) (n : ℕ) (w : Wanted) → many_at kinds read d ts ≡ leaves n w → Refused (many s) (many_at kinds read) d ts n w
  many_placed d ts n w h =
      let r = refused_from (length ts + 1) [] d ts n w h in
      record {
        before = r.before;
        behind = r.behind;
        whole = r.whole;
        count = r.count;
        begun = r.begun;
        refuses = λ t others q e l us. r.refuses t others q e l us (length (r.before ++ t ∷ us) + 1) [];
      }

  pub many_exact : IsExact (many s) kinds true (goes ++ kinds) (many_at kinds read)
  many_exact = record {
    some = [];
    some_is = refl;
    appends = many_appends;
    starts = many_starts;
    sound = many_sound;
    complete = λ ts g d n rest e. read_from ts g (length (front (many s) ts ++ rest) + 1) [] d n rest e (omega arith);
    again = λ d ys before t us h e l vs.
        again_from (length (before ++ t ∷ us) + 1) [] d ys before t us h e l vs (length (before ++ t ∷ vs) + 1) (omega arith);
    placed = many_placed;
  }
