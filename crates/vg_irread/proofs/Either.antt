-- A reader of one or another is exact, where neither begins with a lexeme of the other.
use Rattle.std.proofs.Common.{◌≡◌, ◌⊎◌, ℕ, ◌+◌, ◌≤◌, Bool, true, false, cond, List, [], ◌∷◌, ◌++◌, length, refl, sym, ap, ◌∙◌, IsTrue, inl, inr}
use Rattle.vg_irparse.specs.declared.role.Wanted.{Wanted}
use Rattle.vg_irparse.specs.Placed.{Placed, Slot, lexemes_of}
use Rattle.vg_irparse.specs.Answer.{reads, leaves}
use Rattle.vg_irread.specs.Kinds.{Kind, is_in, apart}
use Rattle.vg_irread.specs.Reading.{Reader, either_at}
use Rattle.vg_irread.specs.Exact.{Spelling, front, either, Found, Ends, Refused, Starts, IsExact}
use Rattle.vg_irread.proofs.Apart.{in_left, in_right, out_of, not_in}
use Rattle.vg_irread.proofs.Single.{tells_along}
use Rattle.vg_irread.proofs.Optional.{deciding, deciding_is, starts_before}

nil_not : {A : Type 0} (before : List Placed) (a : Placed) (others : List Placed) → [] ≡ before ++ a ∷ others → A
nil_not [] a others h = absurd (cc)
nil_not (b ∷ before) a others h = absurd (cc)

module _ {A B X : Type 0} {sa : Spelling A X} {sb : Spelling B X} {ka ga kb gb : List Kind} {ra rb : Reader X} (first : IsExact sa ka false ga ra) (second : IsExact sb kb false gb rb)
    (alone : IsTrue (apart ka kb)) where
  left_by : (d : ℕ) (ts : List Placed) → Starts ka false ts → either_at ka ra rb d ts ≡ ra d ts
  left_by d [] h = absurd (cc)
  left_by d (t ∷ ts) h = rw h refl

  right_by : (d : ℕ) (ts : List Placed) → Starts kb false ts → either_at ka ra rb d ts ≡ rb d ts
  right_by d [] h = absurd (cc)
  right_by d (t ∷ ts) h = rw (not_in ka kb t.text alone h) refl

  by_next : (d : ℕ) (before : List Placed) (t : Placed) (us : List Placed) (b : Bool) → is_in ka ((deciding before t).text) ≡ b
      → either_at ka ra rb d (before ++ t ∷ us) ≡ cond b (ra d (before ++ t ∷ us)) (rb d (before ++ t ∷ us))
  by_next d [] t us b h = rw h refl
  by_next d (a ∷ before) t us b h = rw h refl

  starts_left : (fa : List Placed) → Starts ka false fa → Starts (ka ++ kb) false fa
  starts_left [] h = absurd (cc)
  starts_left (t ∷ fa) h = in_left ka kb t.text h

  starts_right : (fa : List Placed) → Starts kb false fa → Starts (ka ++ kb) false fa
  starts_right [] h = absurd (cc)
  starts_right (t ∷ fa) h = in_right ka kb t.text h

  ends_left : (rest : List Placed) → Ends (ga ++ gb) rest → Ends ga rest
  ends_left [] h = tt
  ends_left (t ∷ rest) h = (out_of ga gb t.text h).0

  ends_right : (rest : List Placed) → Ends (ga ++ gb) rest → Ends gb rest
  ends_right [] h = tt
  ends_right (t ∷ rest) h = (out_of ga gb t.text h).1

  appends : (t : A ⊎ B) → IsTrue ((either sa sb).grammar t) → (ts : List Slot) → lexemes_of ((either sa sb).spelled t ts) ≡ front (either sa sb) t ++ lexemes_of ts
  appends (inl a) g ts = first.appends a g ts
  appends (inr b) g ts = second.appends b g ts

  starts : (t : A ⊎ B) → IsTrue ((either sa sb).grammar t) → Starts (ka ++ kb) false (front (either sa sb) t)
  starts (inl a) g = starts_left (front sa a) (first.starts a g)
  starts (inr b) g = starts_right (front sb b) (second.starts b g)

  found_left : (d : ℕ) (ts : List Placed) (x : X) (rest : List Placed) → Found sa d ts x rest → Found (either sa sb) d ts x rest
  found_left d ts x rest f = record { tree = inl f.tree; is_one = f.is_one; within = f.within; whole = f.whole; same = f.same }

  found_right : (d : ℕ) (ts : List Placed) (x : X) (rest : List Placed) → Found sb d ts x rest → Found (either sa sb) d ts x rest
  found_right d ts x rest f = record { tree = inr f.tree; is_one = f.is_one; within = f.within; whole = f.whole; same = f.same }

  sound_by : (b : Bool) (d : ℕ) (ts : List Placed) (x : X) (rest : List Placed) → cond b (ra d ts) (rb d ts) ≡ reads (x, rest) → Found (either sa sb) d ts x rest
  sound_by true d ts x rest h = found_left d ts x rest (first.sound d ts x rest h)
  sound_by false d ts x rest h = found_right d ts x rest (second.sound d ts x rest h)

  sound : (d : ℕ) (ts : List Placed) (x : X) (rest : List Placed) → either_at ka ra rb d ts ≡ reads (x, rest) → Found (either sa sb) d ts x rest
  sound d [] x rest h = sound_by false d [] x rest h
  sound d (t ∷ ts) x rest h = sound_by (is_in ka t.text) d (t ∷ ts) x rest h

  complete : (t : A ⊎ B) → IsTrue ((either sa sb).grammar t) → (d : ℕ) → (either sa sb).nests t ≤ d → (rest : List Placed) → Ends (ga ++ gb) rest
      → either_at ka ra rb d (front (either sa sb) t ++ rest) ≡ reads ((either sa sb).means t, rest)
  complete (inl a) g d n rest e = left_by d (front sa a ++ rest) (starts_before ka (front sa a) rest (first.starts a g)) ∙ first.complete a g d n rest (ends_left rest e)
  complete (inr b) g d n rest e = right_by d (front sb b ++ rest) (starts_before kb (front sb b) rest (second.starts b g)) ∙ second.complete b g d n rest (ends_right rest e)

  again_by : (b : Bool) (d : ℕ) (x : X) (before : List Placed) (t : Placed) (us : List Placed) → cond b (ra d (before ++ t ∷ us)) (rb d (before ++ t ∷ us)) ≡ reads (x, t ∷ us)
      → (e : ℕ) → d ≤ e → (vs : List Placed) → cond b (ra e (before ++ t ∷ vs)) (rb e (before ++ t ∷ vs)) ≡ reads (x, t ∷ vs)
  again_by true d x before t us h e l vs = first.again d x before t us h e l vs
  again_by false d x before t us h e l vs = second.again d x before t us h e l vs

  again : (d : ℕ) (x : X) (before : List Placed) (t : Placed) (us : List Placed) → either_at ka ra rb d (before ++ t ∷ us) ≡ reads (x, t ∷ us)
      → (e : ℕ) → d ≤ e → (vs : List Placed) → either_at ka ra rb e (before ++ t ∷ vs) ≡ reads (x, t ∷ vs)
  again d x before t us h e l vs =
      let b = is_in ka ((deciding before t).text) in
      by_next e before t vs b refl ∙ again_by b d x before t us (sym (by_next d before t us b refl) ∙ h) e l vs

  refused_left : (d : ℕ) (t : Placed) (ts : List Placed) (n : ℕ) (w : Wanted) → is_in ka t.text ≡ true → Refused sa ra d (t ∷ ts) n w → Refused (either sa sb) (either_at ka ra rb) d (t ∷ ts) n w
  refused_left d t ts n w m r =
      let b = r.begun in
      record {
        before = r.before;
        behind = r.behind;
        whole = r.whole;
        count = r.count;
        begun = (inl b.0, b.1, b.2, b.3);
        refuses = λ a others q e l us.
            let f = deciding_is t ts r.before a others (r.whole ∙ ap (λ z. r.before ++ z) q) in
            tells_along _ _ (length us + 1) w (by_next e r.before a us true (ap (λ (z : Placed). is_in ka z.text) (sym f) ∙ m)) (r.refuses a others q e l us);
      }

  refused_right : (d : ℕ) (t : Placed) (ts : List Placed) (n : ℕ) (w : Wanted) → is_in ka t.text ≡ false → Refused sb rb d (t ∷ ts) n w → Refused (either sa sb) (either_at ka ra rb) d (t ∷ ts) n w
  refused_right d t ts n w m r =
      let b = r.begun in
      record {
        before = r.before;
        behind = r.behind;
        whole = r.whole;
        count = r.count;
        begun = (inr b.0, b.1, b.2, b.3);
        refuses = λ a others q e l us.
            let f = deciding_is t ts r.before a others (r.whole ∙ ap (λ z. r.before ++ z) q) in
            tells_along _ _ (length us + 1) w (by_next e r.before a us false (ap (λ (z : Placed). is_in ka z.text) (sym f) ∙ m)) (r.refuses a others q e l us);
      }

  refused_end : (d : ℕ) (n : ℕ) (w : Wanted) → Refused sb rb d [] n w → Refused (either sa sb) (either_at ka ra rb) d [] n w
  refused_end d n w r =
      let b = r.begun in
      record {
        before = r.before;
        behind = r.behind;
        whole = r.whole;
        count = r.count;
        begun = (inr b.0, b.1, b.2, b.3);
        refuses = λ a others q e l us. nil_not r.before a others (r.whole ∙ ap (λ z. r.before ++ z) q);
      }

  placed_by : (b : Bool) (d : ℕ) (t : Placed) (ts : List Placed) (n : ℕ) (w : Wanted) → is_in ka t.text ≡ b → cond b (ra d (t ∷ ts)) (rb d (t ∷ ts)) ≡ leaves n w
      → Refused (either sa sb) (either_at ka ra rb) d (t ∷ ts) n w
  placed_by true d t ts n w m h = refused_left d t ts n w m (first.placed d (t ∷ ts) n w h)
  placed_by false d t ts n w m h = refused_right d t ts n w m (second.placed d (t ∷ ts) n w h)

  placed : (d : ℕ) (ts : List Placed) (n : ℕ) (w : Wanted) → either_at ka ra rb d ts ≡ leaves n w → Refused (either sa sb) (either_at ka ra rb) d ts n w
  placed d [] n w h = refused_end d n w (second.placed d [] n w h)
  placed d (t ∷ ts) n w h = placed_by (is_in ka t.text) d t ts n w refl h

  pub either_exact : IsExact (either sa sb) (ka ++ kb) false (ga ++ gb) (either_at ka ra rb)
  either_exact = record {
    some = inl first.some;
    some_is = first.some_is;
    appends = appends;
    starts = starts;
    sound = sound;
    complete = complete;
    again = again;
    placed = placed;
  }
