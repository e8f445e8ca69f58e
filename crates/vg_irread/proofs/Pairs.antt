-- One exact reader behind another is exact, where what may not follow the one begins no tree of the other.
use Rattle.std.proofs.Common.{◌≡◌, ℕ, ◌+◌, ◌≤◌, max, Bool, true, false, ◌&&◌, List, [], ◌∷◌, ◌++◌, length, refl, sym, ap, subst, ◌∙◌, arith, append_assoc, IsTrue}
use Rattle.std.proofs.lemmas.Bool.{and_parts, and_from}
use Rattle.vg_irparse.specs.declared.role.Wanted.{Wanted}
use Rattle.vg_irparse.specs.Placed.{Placed, Slot, lexemes_of}
use Rattle.vg_irparse.specs.Answer.{reads, leaves}
use Rattle.vg_irread.specs.Kinds.{Kind, apart}
use Rattle.vg_irread.specs.Reading.{Reader, ◌>>=◌}
use Rattle.vg_irread.specs.Exact.{Spelling, front, both, Found, Ends, Refused, Starts, kinds_of, goes_of, IsExact}
use Rattle.vg_irread.proofs.Apart.{in_left, in_right, out_of, not_in}
use Rattle.vg_irread.proofs.Single.{bind, bind_leaves, bind_reads, bind_tells, tells_along, cut_once}

-- ---- beginnings and ends

pub starts_join : (ea eb : Bool) (ka kb : List Kind) (fa fb : List Placed) → Starts ka ea fa → Starts kb eb fb → Starts (kinds_of ea ka kb) (ea && eb) (fa ++ fb)
starts_join ea eb ka kb [] [] h k = and_from ea eb h k
starts_join true eb ka kb [] (t ∷ fb) h k = in_right ka kb t.text k
starts_join false eb ka kb [] (t ∷ fb) h k = absurd (cc)
starts_join true eb ka kb (t ∷ fa) fb h k = in_left ka kb t.text h
starts_join false eb ka kb (t ∷ fa) fb h k = h

ends_left : (ga gb : List Kind) (rest : List Placed) → Ends (ga ++ gb) rest → Ends ga rest
ends_left ga gb [] h = tt
ends_left ga gb (t ∷ rest) h = (out_of ga gb t.text h).0

ends_right : (ga gb : List Kind) (rest : List Placed) → Ends (ga ++ gb) rest → Ends gb rest
ends_right ga gb [] h = tt
ends_right ga gb (t ∷ rest) h = (out_of ga gb t.text h).1

pub ends_second : (eb : Bool) (ga gb : List Kind) (rest : List Placed) → Ends (goes_of eb ga gb) rest → Ends gb rest
ends_second true ga gb rest h = ends_right ga gb rest h
ends_second false ga gb rest h = h

pub ends_join : (eb : Bool) (ga kb gb : List Kind) (fb rest : List Placed) → apart ga kb ≡ true → Starts kb eb fb → Ends (goes_of eb ga gb) rest → Ends ga (fb ++ rest)
ends_join true ga kb gb [] rest a s h = ends_left ga gb rest h
ends_join false ga kb gb [] rest a s h = absurd (cc)
ends_join eb ga kb gb (t ∷ fb) rest a s h = not_in ga kb t.text a s

max_within : (a b d : ℕ) → a ≤ d → b ≤ d → max a b ≤ d
max_within a b d h k = omega (arith, h, k)

max_first : (a b d : ℕ) → max a b ≤ d → a ≤ d
max_first a b d h = omega (arith, h)

max_second : (a b d : ℕ) → max a b ≤ d → b ≤ d
max_second a b d h = omega (arith, h)

-- what is read depends on the next lexeme alone, whichever it is
pub again_over : {T X : Type 0} {s : Spelling T X} {kinds : List Kind} {empty : Bool} {goes : List Kind} {read : Reader X} → IsExact s kinds empty goes read
    → (d : ℕ) (x : X) (before over : List Placed) (t : Placed) (us : List Placed) → read d (before ++ (over ++ t ∷ us)) ≡ reads (x, over ++ t ∷ us)
    → (e : ℕ) → d ≤ e → (vs : List Placed) → read e (before ++ (over ++ t ∷ vs)) ≡ reads (x, over ++ t ∷ vs)
again_over i d x before [] t us h e l vs = i.again d x before t us h e l vs
again_over i d x before (o ∷ over) t us h e l vs = i.again d x before o (over ++ t ∷ us) h e l (over ++ t ∷ vs)

-- ---- one behind another

module _ {A B X Y : Type 0} {sa : Spelling A X} {sb : A → Spelling B Y} {ka : List Kind} {ea : Bool} {ga : List Kind} {ra : Reader X}
    {kb : List Kind} {eb : Bool} {gb : List Kind} {next : X → Reader Y} (first : IsExact sa ka ea ga ra)
    (second : (x : X) (a : A) → IsTrue (sa.grammar a) → x ≡ sa.means a → IsExact (sb a) kb eb gb (next x)) (alone : apart ga kb ≡ true) where
  parts : (p : A × B) → IsTrue ((both sa sb).grammar p) → IsTrue (sa.grammar p.0) × IsTrue ((sb p.0).grammar p.1)
  parts p g = and_parts (sa.grammar p.0) ((sb p.0).grammar p.1) g

  behind_of : (p : A × B) → IsTrue ((both sa sb).grammar p) → IsExact (sb p.0) kb eb gb (next (sa.means p.0))
  behind_of p g = second (sa.means p.0) p.0 ((parts p g).0) refl

  front_both : (p : A × B) → IsTrue ((both sa sb).grammar p) → front (both sa sb) p ≡ front sa p.0 ++ front (sb p.0) p.1
  front_both p g = first.appends p.0 ((parts p g).0) ((sb p.0).spelled p.1 [])

  both_appends : (p : A × B) → IsTrue ((both sa sb).grammar p) → (ts : List Slot) → lexemes_of ((both sa sb).spelled p ts) ≡ front (both sa sb) p ++ lexemes_of ts
  both_appends p g ts =
      let q = parts p g in
      first.appends p.0 q.0 ((sb p.0).spelled p.1 ts)
      ∙ (ap (λ z. front sa p.0 ++ z) ((behind_of p g).appends p.1 q.1 ts)
      ∙ (sym (append_assoc (front sa p.0) (front (sb p.0) p.1) (lexemes_of ts))
      ∙ ap (λ z. z ++ lexemes_of ts) (sym (front_both p g))))

  both_starts : (p : A × B) → IsTrue ((both sa sb).grammar p) → Starts (kinds_of ea ka kb) (ea && eb) (front (both sa sb) p)
  both_starts p g =
      let q = parts p g in
      subst (λ z. Starts (kinds_of ea ka kb) (ea && eb) z) (sym (front_both p g))
      (starts_join ea eb ka kb (front sa p.0) (front (sb p.0) p.1) (first.starts p.0 q.0) ((behind_of p g).starts p.1 q.1))

  both_found : (d : ℕ) (ts : List Placed) (x : X) (after : List Placed) (y : Y) (rest : List Placed) → (f : Found sa d ts x after) → Found (sb f.tree) d after y rest → Found (both sa sb) d ts y rest
  both_found d ts x after y rest f i =
      let g = and_from (sa.grammar f.tree) ((sb f.tree).grammar i.tree) f.is_one i.is_one in
      record {
        tree = (f.tree, i.tree);
        is_one = g;
        within = max_within _ _ d f.within i.within;
        whole = f.whole ∙ (ap (λ z. front sa f.tree ++ z) i.whole
            ∙ (sym (append_assoc (front sa f.tree) (front (sb f.tree) i.tree) rest) ∙ ap (λ z. z ++ rest) (sym (front_both (f.tree, i.tree) g))));
        same = i.same;
      }

  both_sound : (d : ℕ) (ts : List Placed) (y : Y) (rest : List Placed) → (ra >>= next) d ts ≡ reads (y, rest) → Found (both sa sb) d ts y rest
  both_sound d ts y rest h =
      bind (ra d ts) (λ x. next x.0 d x.1) (y, rest) (Found (both sa sb) d ts y rest) h (λ x hx h2.
      let f = first.sound d ts x.0 x.1 hx in
      both_found d ts x.0 x.1 y rest f ((second x.0 f.tree f.is_one f.same).sound d x.1 y rest h2))

  both_complete : (p : A × B) → IsTrue ((both sa sb).grammar p) → (d : ℕ) → (both sa sb).nests p ≤ d → (rest : List Placed) → Ends (goes_of eb ga gb) rest
      → (ra >>= next) d (front (both sa sb) p ++ rest) ≡ reads ((both sa sb).means p, rest)
  both_complete p g d n rest e =
      let q = parts p g in
      let i = behind_of p g in
      let fb = front (sb p.0) p.1 in
      ap (λ z. (ra >>= next) d z) (ap (λ z. z ++ rest) (front_both p g) ∙ append_assoc (front sa p.0) fb rest)
      ∙ (bind_reads (ra d (front sa p.0 ++ (fb ++ rest))) (λ x. next x.0 d x.1) (sa.means p.0, fb ++ rest)
      (first.complete p.0 q.0 d (max_first _ _ d n) (fb ++ rest) (ends_join eb ga kb gb fb rest alone (i.starts p.1 q.1) e))
      ∙ i.complete p.1 q.1 d (max_second _ _ d n) rest (ends_second eb ga gb rest e))

  -- what was read is read again
  both_goes : (d : ℕ) (x : X) (y : Y) (fa fb : List Placed) (t : Placed) (us : List Placed) (a : A) → IsTrue (sa.grammar a) → x ≡ sa.means a
      → ra d (fa ++ (fb ++ t ∷ us)) ≡ reads (x, fb ++ t ∷ us) → next x d (fb ++ t ∷ us) ≡ reads (y, t ∷ us)
      → (e : ℕ) → d ≤ e → (vs : List Placed) → (ra >>= next) e (fa ++ (fb ++ t ∷ vs)) ≡ reads (y, t ∷ vs)
  both_goes d x y fa fb t us a g m h k e l vs =
      bind_reads (ra e (fa ++ (fb ++ t ∷ vs))) (λ z. next z.0 e z.1) (x, fb ++ t ∷ vs) (again_over first d x fa fb t us h e l vs)
      ∙ (second x a g m).again d y fb t us k e l vs

  both_again : (d : ℕ) (y : Y) (before : List Placed) (t : Placed) (us : List Placed) → (ra >>= next) d (before ++ t ∷ us) ≡ reads (y, t ∷ us)
      → (e : ℕ) → d ≤ e → (vs : List Placed) → (ra >>= next) e (before ++ t ∷ vs) ≡ reads (y, t ∷ vs)
  both_again d y before t us h e l vs =
      bind (ra d (before ++ t ∷ us)) (λ x. next x.0 d x.1) (y, t ∷ us) ((ra >>= next) e (before ++ t ∷ vs) ≡ reads (y, t ∷ vs)) h (λ x hx h2.
      let f = first.sound d (before ++ t ∷ us) x.0 x.1 hx in
      let i = (second x.0 f.tree f.is_one f.same).sound d x.1 y (t ∷ us) h2 in
      let fa = front sa f.tree in
      let fb = front (sb f.tree) i.tree in
      let w : before ++ t ∷ us ≡ fa ++ (fb ++ t ∷ us) = f.whole ∙ ap (λ z. fa ++ z) i.whole in
      let c : before ≡ fa ++ fb = cut_once before (t ∷ us) (fa ++ fb) (t ∷ us) (w ∙ sym (append_assoc fa fb (t ∷ us))) refl in
      let k : ra d (fa ++ (fb ++ t ∷ us)) ≡ reads (x.0, fb ++ t ∷ us) = ap (ra d) (sym w) ∙ (hx ∙ ap (λ z. reads (x.0, z)) i.whole) in
      let m : next x.0 d (fb ++ t ∷ us) ≡ reads (y, t ∷ us) = ap (next x.0 d) (sym i.whole) ∙ h2 in
      ap (λ z. (ra >>= next) e z) (ap (λ z. z ++ t ∷ vs) c ∙ append_assoc fa fb (t ∷ vs))
      ∙ both_goes d x.0 y fa fb t us f.tree f.is_one f.same k m e l vs)

  -- the first refuses
  refused_first : (d : ℕ) (ts : List Placed) (n : ℕ) (w : Wanted) → Refused sa ra d ts n w → Refused (both sa sb) (ra >>= next) d ts n w
  refused_first d ts n w r =
      let b = r.begun in
      let i = second (sa.means b.0) b.0 b.1 refl in
      let g = and_from (sa.grammar b.0) ((sb b.0).grammar i.some) b.1 i.some_is in
      let fb = front (sb b.0) i.some in
      record {
        before = r.before;
        behind = r.behind;
        whole = r.whole;
        count = r.count;
        begun = ((b.0, i.some), g, b.2 ++ fb, front_both (b.0, i.some) g ∙ (ap (λ z. z ++ fb) b.3 ∙ append_assoc r.before b.2 fb));
        refuses = λ t others q e l us.
            bind_tells (ra e (r.before ++ t ∷ us)) (λ x. next x.0 e x.1) (length us + 1) w (r.refuses t others q e l us);
      }

  -- the second refuses
  refused_second : (d : ℕ) (ts : List Placed) (n : ℕ) (w : Wanted) (x : X) (after : List Placed) → ra d ts ≡ reads (x, after)
      → (f : Found sa d ts x after) → Refused (sb f.tree) (next x) d after n w → Refused (both sa sb) (ra >>= next) d ts n w
  refused_second d ts n w x after h f r =
      let fa = front sa f.tree in
      let b = r.begun in
      let g = and_from (sa.grammar f.tree) ((sb f.tree).grammar b.0) f.is_one b.1 in
      record {
        before = fa ++ r.before;
        behind = r.behind;
        whole = f.whole ∙ (ap (λ z. fa ++ z) r.whole ∙ sym (append_assoc fa r.before r.behind));
        count = r.count;
        begun = ((f.tree, b.0), g, b.2, front_both (f.tree, b.0) g ∙ (ap (λ z. fa ++ z) b.3 ∙ sym (append_assoc fa r.before b.2)));
        refuses = λ t others q e l us.
            let o : after ≡ r.before ++ t ∷ others = r.whole ∙ ap (λ z. r.before ++ z) q in
            let k : ra d (fa ++ (r.before ++ t ∷ others)) ≡ reads (x, r.before ++ t ∷ others) =
            ap (ra d) (ap (λ z. fa ++ z) (sym o) ∙ sym f.whole) ∙ (h ∙ ap (λ z. reads (x, z)) o) in
            tells_along _ _ (length us + 1) w
            (ap (λ z. (ra >>= next) e z) (append_assoc fa r.before (t ∷ us))
            ∙ bind_reads (ra e (fa ++ (r.before ++ t ∷ us))) (λ z. next z.0 e z.1) (x, r.before ++ t ∷ us) (again_over first d x fa r.before t others k e l us))
            (r.refuses t others q e l us);
      }

  both_placed : (d : ℕ) (ts : List Placed) (n : ℕ) (w : Wanted) → (ra >>= next) d ts ≡ leaves n w → Refused (both sa sb) (ra >>= next) d ts n w
  both_placed d ts n w h =
      bind_leaves (ra d ts) (λ x. next x.0 d x.1) n w (Refused (both sa sb) (ra >>= next) d ts n w) h
      (λ k. refused_first d ts n w (first.placed d ts n w k))
      (λ x hx h2.
      let f = first.sound d ts x.0 x.1 hx in
      refused_second d ts n w x.0 x.1 hx f ((second x.0 f.tree f.is_one f.same).placed d x.1 n w h2))

  pub both_exact : IsExact (both sa sb) (kinds_of ea ka kb) (ea && eb) (goes_of eb ga gb) (ra >>= next)
  both_exact =
      let i = second (sa.means first.some) first.some first.some_is refl in
      record {
        some = (first.some, i.some);
        some_is = and_from (sa.grammar first.some) ((sb first.some).grammar i.some) first.some_is i.some_is;
        appends = both_appends;
        starts = both_starts;
        sound = both_sound;
        complete = both_complete;
        again = both_again;
        placed = both_placed;
      }
