-- A reader stays exact where it has no room behind lexemes that begin none of its trees.
use Rattle.std.proofs.Common.{◌≡◌, ℕ, ◌+◌, ◌≤◌, Bool, true, false, cond, List, [], ◌∷◌, ◌++◌, length, refl, sym, ap, ◌∙◌, IsTrue}
use Rattle.vg_irparse.specs.declared.role.Wanted.{Wanted}
use Rattle.vg_irparse.specs.Placed.{Placed}
use Rattle.vg_irparse.specs.Answer.{Answer, reads, leaves, too_deep}
use Rattle.vg_irread.specs.Kinds.{Kind, is_in, apart}
use Rattle.vg_irread.specs.Reading.{Reader, either_at}
use Rattle.vg_irread.specs.Exact.{Spelling, front, Found, Ends, Refused, Starts, IsExact}
use Rattle.vg_irread.proofs.Apart.{not_in}
use Rattle.vg_irread.proofs.Single.{deep_not, deep_leaves_not, tells_along}
use Rattle.vg_irread.proofs.Optional.{deciding, deciding_is, starts_before}
use Rattle.vg_irglobal.specs.ReadingInitial.{no_room}

nil_not : {A : Type 0} (before : List Placed) (a : Placed) (others : List Placed) → [] ≡ before ++ a ∷ others → A
nil_not [] a others h = absurd (cc)
nil_not (b ∷ before) a others h = absurd (cc)

module _ {T X : Type 0} {s : Spelling T X} {kinds goes : List Kind} {read : Reader X} (lid : List Kind) (i : IsExact s kinds false goes read) (alone : IsTrue (apart lid kinds)) where
  past_lid : (d : ℕ) (ts : List Placed) → Starts kinds false ts → either_at lid no_room read d ts ≡ read d ts
  past_lid d [] h = absurd (cc)
  past_lid d (t ∷ ts) h = rw (not_in lid kinds t.text alone h) refl

  by_next : (d : ℕ) (before : List Placed) (t : Placed) (us : List Placed) (b : Bool) → is_in lid ((deciding before t).text) ≡ b
      → either_at lid no_room read d (before ++ t ∷ us) ≡ cond b too_deep (read d (before ++ t ∷ us))
  by_next d [] t us b h = rw h refl
  by_next d (a ∷ before) t us b h = rw h refl

  sound : (d : ℕ) (ts : List Placed) (x : X) (rest : List Placed) → either_at lid no_room read d ts ≡ reads (x, rest) → Found s d ts x rest
  sound d [] x rest h = i.sound d [] x rest h
  sound d (t ∷ ts) x rest h = by_test (is_in lid t.text) h
    where
      by_test : (b : Bool) → cond b too_deep (read d (t ∷ ts)) ≡ reads (x, rest) → Found s d (t ∷ ts) x rest
      by_test true k = deep_not k
      by_test false k = i.sound d (t ∷ ts) x rest k

  complete : (t : T) → IsTrue (s.grammar t) → (d : ℕ) → s.nests t ≤ d → (rest : List Placed) → Ends goes rest → either_at lid no_room read d (front s t ++ rest) ≡ reads (s.means t, rest)
  complete t g d n rest e = past_lid d (front s t ++ rest) (starts_before kinds (front s t) rest (i.starts t g)) ∙ i.complete t g d n rest e

  again : (d : ℕ) (x : X) (before : List Placed) (t : Placed) (us : List Placed) → either_at lid no_room read d (before ++ t ∷ us) ≡ reads (x, t ∷ us)
      → (e : ℕ) → d ≤ e → (vs : List Placed) → either_at lid no_room read e (before ++ t ∷ vs) ≡ reads (x, t ∷ vs)
  again d x before t us h e l vs =
      let b = is_in lid ((deciding before t).text) in
      by_next e before t vs b refl ∙ by_test b (sym (by_next d before t us b refl) ∙ h)
    where
      by_test : (b : Bool) → cond b too_deep (read d (before ++ t ∷ us)) ≡ reads (x, t ∷ us) → cond b too_deep (read e (before ++ t ∷ vs)) ≡ reads (x, t ∷ vs)
      by_test true k = deep_not k
      by_test false k = i.again d x before t us k e l vs

  refused : (d : ℕ) (t : Placed) (ts : List Placed) (n : ℕ) (w : Wanted) → is_in lid t.text ≡ false → Refused s read d (t ∷ ts) n w → Refused s (either_at lid no_room read) d (t ∷ ts) n w
  refused d t ts n w m r = record {
    before = r.before;
    behind = r.behind;
    whole = r.whole;
    count = r.count;
    begun = r.begun;
    refuses = λ a others q e l us.
        let f = deciding_is t ts r.before a others (r.whole ∙ ap (λ z. r.before ++ z) q) in
        tells_along _ _ (length us + 1) w (by_next e r.before a us false (ap (λ (z : Placed). is_in lid z.text) (sym f) ∙ m)) (r.refuses a others q e l us);
  }

  refused_end : (d : ℕ) (n : ℕ) (w : Wanted) → Refused s read d [] n w → Refused s (either_at lid no_room read) d [] n w
  refused_end d n w r = record {
    before = r.before;
    behind = r.behind;
    whole = r.whole;
    count = r.count;
    begun = r.begun;
    refuses = λ a others q e l us. nil_not r.before a others (r.whole ∙ ap (λ z. r.before ++ z) q);
  }

  placed : (d : ℕ) (ts : List Placed) (n : ℕ) (w : Wanted) → either_at lid no_room read d ts ≡ leaves n w → Refused s (either_at lid no_room read) d ts n w
  placed d [] n w h = refused_end d n w (i.placed d [] n w h)
  placed d (t ∷ ts) n w h = by_test (is_in lid t.text) refl h
    where
      by_test : (b : Bool) → is_in lid t.text ≡ b → cond b too_deep (read d (t ∷ ts)) ≡ leaves n w → Refused s (either_at lid no_room read) d (t ∷ ts) n w
      by_test true m k = deep_leaves_not k
      by_test false m k = refused d t ts n w m (i.placed d (t ∷ ts) n w k)

  pub lid_exact : IsExact s kinds false goes (either_at lid no_room read)
  lid_exact = record {
    some = i.some;
    some_is = i.some_is;
    appends = i.appends;
    starts = i.starts;
    sound = sound;
    complete = complete;
    again = again;
    placed = placed;
  }
