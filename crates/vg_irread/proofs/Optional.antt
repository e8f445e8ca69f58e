-- A reader of what may lack is exact, and one of as many as there are.
use Rattle.std.proofs.Common.{◌≡◌, ℕ, ◌+◌, ◌≤◌, Bool, true, false, Option, Some, None, List, [], ◌∷◌, ◌++◌, length, refl, sym, ap, ◌∙◌, arith, IsTrue}
use Rattle.vg_irparse.specs.declared.role.Wanted.{Wanted}
use Rattle.vg_irparse.specs.Placed.{Placed, Slot, lexemes_of}
use Rattle.vg_irparse.specs.Answer.{reads, leaves}
use Rattle.vg_irread.specs.Kinds.{Kind, is_in}
use Rattle.vg_irread.specs.Reading.{Reader, optional_by, optional_at}
use Rattle.vg_irread.specs.Exact.{Spelling, front, may, Found, Ends, Refused, Starts, IsExact}
use Rattle.vg_irread.proofs.Apart.{out_of}
use Rattle.vg_irread.proofs.Single.{reads_not, same_reads, bind, bind_leaves, bind_reads, bind_tells, tells_along, no_more}

-- ---- the lexeme that decides

-- the first of lexemes, behind which this one stands
abbrev pub deciding : List Placed → Placed → Placed
deciding [] t = t
deciding (b ∷ bs) t = b

pub deciding_is : (t : Placed) (us before : List Placed) (a : Placed) (others : List Placed) → t ∷ us ≡ before ++ a ∷ others → t ≡ deciding before a
deciding_is t us [] a others h = cc
deciding_is t us (b ∷ before) a others h = cc

pub starts_before : (kinds : List Kind) (fa rest : List Placed) → Starts kinds false fa → Starts kinds false (fa ++ rest)
starts_before kinds [] rest h = absurd (cc)
starts_before kinds (t ∷ fa) rest h = h

pub starts_may : (kinds : List Kind) (empty : Bool) (fa : List Placed) → Starts kinds false fa → Starts kinds empty fa
starts_may kinds empty [] h = absurd (cc)
starts_may kinds empty (t ∷ fa) h = h

-- ---- what may lack

module _ {T X : Type 0} {s : Spelling T X} {kinds goes : List Kind} {read : Reader X} (i : IsExact s kinds false goes read) where
  by_starts : (d : ℕ) (ts : List Placed) → Starts kinds false ts → optional_at kinds read d ts ≡ optional_by true read d ts
  by_starts d [] h = absurd (cc)
  by_starts d (t ∷ ts) h = rw h refl

  by_end : (d : ℕ) (ts : List Placed) → Ends (goes ++ kinds) ts → optional_at kinds read d ts ≡ reads (None, ts)
  by_end d [] h = refl
  by_end d (t ∷ ts) h = rw ((out_of goes kinds t.text h).1) refl

  by_next : (d : ℕ) (before : List Placed) (t : Placed) (us : List Placed) (b : Bool) → is_in kinds ((deciding before t).text) ≡ b
      → optional_at kinds read d (before ++ t ∷ us) ≡ optional_by b read d (before ++ t ∷ us)
  by_next d [] t us b h = rw h refl
  by_next d (a ∷ before) t us b h = rw h refl

  optional_appends : (t : Option T) → IsTrue ((may s).grammar t) → (ts : List Slot) → lexemes_of ((may s).spelled t ts) ≡ front (may s) t ++ lexemes_of ts
  optional_appends None g ts = refl
  optional_appends (Some t) g ts = i.appends t g ts

  optional_starts : (t : Option T) → IsTrue ((may s).grammar t) → Starts kinds true (front (may s) t)
  optional_starts None g = refl
  optional_starts (Some t) g = starts_may kinds true (front s t) (i.starts t g)

  found_some : (d : ℕ) (ts : List Placed) (x : X) (rest : List Placed) (y : Option X) → Some x ≡ y → Found s d ts x rest → Found (may s) d ts y rest
  found_some d ts x rest y e f = record { tree = Some f.tree; is_one = f.is_one; within = f.within; whole = f.whole; same = sym e ∙ ap (λ z. Some z) f.same }

  sound_by : (b : Bool) (d : ℕ) (ts : List Placed) (x : Option X) (rest : List Placed) → optional_by b read d ts ≡ reads (x, rest) → Found (may s) d ts x rest
  sound_by true d ts x rest h =
      bind (read d ts) (λ y. reads (Some y.0, y.1)) (x, rest) (Found (may s) d ts x rest) h (λ y hy k.
      let p = same_reads (Some y.0, y.1) (x, rest) k in
      found_some d ts y.0 rest x (ap (λ (z : Option X × List Placed). z.0) p)
      (i.sound d ts y.0 rest (hy ∙ ap (λ (z : List Placed). reads (y.0, z)) (ap (λ (z : Option X × List Placed). z.1) p))))
  sound_by false d ts x rest h =
      let p = same_reads (None, ts) (x, rest) h in
      record {
        tree = None;
        is_one = refl;
        within = omega arith;
        whole = ap (λ (z : Option X × List Placed). z.1) p;
        same = sym (ap (λ (z : Option X × List Placed). z.0) p);
      }

  optional_sound : (d : ℕ) (ts : List Placed) (x : Option X) (rest : List Placed) → optional_at kinds read d ts ≡ reads (x, rest) → Found (may s) d ts x rest
  optional_sound d [] x rest h = sound_by false d [] x rest h
  optional_sound d (t ∷ ts) x rest h = sound_by (is_in kinds t.text) d (t ∷ ts) x rest h

  optional_complete : (t : Option T) → IsTrue ((may s).grammar t) → (d : ℕ) → (may s).nests t ≤ d → (rest : List Placed) → Ends (goes ++ kinds) rest
      → optional_at kinds read d (front (may s) t ++ rest) ≡ reads ((may s).means t, rest)
  optional_complete None g d n rest e = by_end d rest e
  optional_complete (Some t) g d n rest e =
      by_starts d (front s t ++ rest) (starts_before kinds (front s t) rest (i.starts t g))
      ∙ bind_reads (read d (front s t ++ rest)) (λ y. reads (Some y.0, y.1)) (s.means t, rest) (i.complete t g d n rest (ends_only rest e))
    where
      ends_only : (rest : List Placed) → Ends (goes ++ kinds) rest → Ends goes rest
      ends_only [] h = tt
      ends_only (t ∷ rest) h = (out_of goes kinds t.text h).0

  again_by : (b : Bool) (d : ℕ) (x : Option X) (before : List Placed) (t : Placed) (us : List Placed) → optional_by b read d (before ++ t ∷ us) ≡ reads (x, t ∷ us)
      → (e : ℕ) → d ≤ e → (vs : List Placed) → optional_by b read e (before ++ t ∷ vs) ≡ reads (x, t ∷ vs)
  again_by true d x before t us h e l vs =
      bind (read d (before ++ t ∷ us)) (λ y. reads (Some y.0, y.1)) (x, t ∷ us) (optional_by true read e (before ++ t ∷ vs) ≡ reads (x, t ∷ vs)) h (λ y hy k.
      let p = same_reads (Some y.0, y.1) (x, t ∷ us) k in
      let q = hy ∙ ap (λ (z : List Placed). reads (y.0, z)) (ap (λ (z : Option X × List Placed). z.1) p) in
      bind_reads (read e (before ++ t ∷ vs)) (λ z. reads (Some z.0, z.1)) (y.0, t ∷ vs) (i.again d y.0 before t us q e l vs)
      ∙ ap (λ (z : Option X). reads (z, t ∷ vs)) (ap (λ (z : Option X × List Placed). z.0) p))
  again_by false d x before t us h e l vs =
      let p = same_reads (None, before ++ t ∷ us) (x, t ∷ us) h in
      let f = no_more before (t ∷ us) (ap (λ (u : Option X × List Placed). u.1) p) in
      ap (λ (u : Option X). reads (u, before ++ t ∷ vs)) (ap (λ (u : Option X × List Placed). u.0) p) ∙ ap (λ (u : List Placed). reads (x, u ++ t ∷ vs)) f

  optional_again : (d : ℕ) (x : Option X) (before : List Placed) (t : Placed) (us : List Placed) → optional_at kinds read d (before ++ t ∷ us) ≡ reads (x, t ∷ us)
      → (e : ℕ) → d ≤ e → (vs : List Placed) → optional_at kinds read e (before ++ t ∷ vs) ≡ reads (x, t ∷ vs)
  optional_again d x before t us h e l vs =
      let b = is_in kinds ((deciding before t).text) in
      by_next e before t vs b refl ∙ again_by b d x before t us (sym (by_next d before t us b refl) ∙ h) e l vs

  refused_some : (d : ℕ) (t : Placed) (us : List Placed) (n : ℕ) (w : Wanted) → is_in kinds t.text ≡ true → Refused s read d (t ∷ us) n w
      → Refused (may s) (optional_at kinds read) d (t ∷ us) n w
  refused_some d t us n w m r =
      let b = r.begun in
      record {
        before = r.before;
        behind = r.behind;
        whole = r.whole;
        count = r.count;
        begun = (Some b.0, b.1, b.2, b.3);
        refuses = λ a others q e l vs.
            let f = deciding_is t us r.before a others (r.whole ∙ ap (λ z. r.before ++ z) q) in
            tells_along _ _ (length vs + 1) w (by_next e r.before a vs true (ap (λ (z : Placed). is_in kinds z.text) (sym f) ∙ m))
            (bind_tells (read e (r.before ++ a ∷ vs)) (λ z. reads (Some z.0, z.1)) (length vs + 1) w (r.refuses a others q e l vs));
      }

  placed_by : (b : Bool) (d : ℕ) (t : Placed) (us : List Placed) (n : ℕ) (w : Wanted) → is_in kinds t.text ≡ b → optional_by b read d (t ∷ us) ≡ leaves n w
      → Refused (may s) (optional_at kinds read) d (t ∷ us) n w
  placed_by true d t us n w m h =
      bind_leaves (read d (t ∷ us)) (λ z. reads (Some z.0, z.1)) n w (Refused (may s) (optional_at kinds read) d (t ∷ us) n w) h
      (λ k. refused_some d t us n w m (i.placed d (t ∷ us) n w k)) (λ y hy k. reads_not k)
  placed_by false d t us n w m h = reads_not h

  optional_placed : (d : ℕ) (ts : List Placed) (n : ℕ) (w : Wanted) → optional_at kinds read d ts ≡ leaves n w → Refused (may s) (optional_at kinds read) d ts n w
  optional_placed d [] n w h = reads_not h
  optional_placed d (t ∷ us) n w h = placed_by (is_in kinds t.text) d t us n w refl h

  pub optional_exact : IsExact (may s) kinds true (goes ++ kinds) (optional_at kinds read)
  optional_exact = record {
    some = None;
    some_is = refl;
    appends = optional_appends;
    starts = optional_starts;
    sound = optional_sound;
    complete = optional_complete;
    again = optional_again;
    placed = optional_placed;
  }
