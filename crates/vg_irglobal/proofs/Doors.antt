-- A reader that is exact is so for its trees that begin with a lexeme of some kinds, where it reads behind such a lexeme alone.
use Rattle.std.proofs.Common.{◌≡◌, ℕ, ◌+◌, ◌≤◌, Bool, true, false, cond, ◌&&◌, List, [], ◌∷◌, ◌++◌, length, refl, sym, ap, subst, ◌∙◌, arith, IsTrue, inl}
use Rattle.std.proofs.lemmas.Bool.{and_parts, and_from}
use Rattle.vg_irparse.specs.declared.role.Wanted.{Wanted}
use Rattle.vg_irparse.specs.Placed.{Placed}
use Rattle.vg_irparse.specs.Answer.{Answer, reads, leaves}
use Rattle.vg_irread.specs.Kinds.{Kind, is_in}
use Rattle.vg_irread.specs.Reading.{Reader}
use Rattle.vg_irread.specs.Exact.{Spelling, front, Found, Ends, Tells, Begins, Refused, Starts, IsExact}
use Rattle.vg_irread.proofs.Single.{reads_not, leaves_not, places, tells_along}
use Rattle.vg_irread.proofs.Optional.{deciding, deciding_is, starts_before}
use Rattle.vg_irglobal.specs.ReadingStructure.{behind_door}

-- the trees of a form
abbrev pub of_form : {T X : Type 0} → (T → Bool) → Spelling T X → Spelling T X
of_form form s = record { grammar = λ t. form t && s.grammar t; spelled = s.spelled; means = s.means; nests = s.nests }

nil_not : {A : Type 0} (before : List Placed) (a : Placed) (others : List Placed) → [] ≡ before ++ a ∷ others → A
nil_not [] a others h = absurd (cc)
nil_not (b ∷ before) a others h = absurd (cc)

module _ {T X : Type 0} {s : Spelling T X} {kinds goes : List Kind} {read : Reader X} (form : T → Bool) (door : List Kind) (w : Wanted) (i : IsExact s kinds false goes read)
    (begins : (t : T) → form t ≡ true → IsTrue (s.grammar t) → Starts door false (front s t))
    (only_those : (t : T) → IsTrue (s.grammar t) → Starts door false (front s t) → form t ≡ true)
    (one : T) (one_has : form one ≡ true) (one_is : IsTrue (s.grammar one)) where
  abbrev whole : Reader X
  whole = behind_door door w read

  abbrev formed : Spelling T X
  formed = of_form form s

  -- a tree whose lexemes begin with one of the kinds has the form
  has_form : (t : T) → IsTrue (s.grammar t) → (a : Placed) (ts rest : List Placed) → is_in door a.text ≡ true → a ∷ ts ≡ front s t ++ rest → form t ≡ true
  has_form t g a ts rest m h = only_those t g (by_front (front s t) (i.starts t g) h)
    where
      by_front : (fa : List Placed) → Starts kinds false fa → a ∷ ts ≡ fa ++ rest → Starts door false fa
      by_front [] e k = absurd (cc)
      by_front (b ∷ fa) e k = let f : a ≡ b = cc in ap (λ (z : Placed). is_in door z.text) (sym f) ∙ m

  open_by : (d : ℕ) (ts : List Placed) → Starts door false ts → whole d ts ≡ read d ts
  open_by d [] h = absurd (cc)
  open_by d (t ∷ ts) h = rw h refl

  by_next : (d : ℕ) (before : List Placed) (t : Placed) (us : List Placed) (b : Bool) → is_in door ((deciding before t).text) ≡ b
      → whole d (before ++ t ∷ us) ≡ cond b (read d (before ++ t ∷ us)) (leaves (length (before ++ t ∷ us)) w)
  by_next d [] t us b h = rw h (ap (λ n. cond b (read d (t ∷ us)) (leaves n w)) (omega arith))
  by_next d (a ∷ before) t us b h = rw h (ap (λ n. cond b (read d (a ∷ (before ++ t ∷ us))) (leaves n w)) (omega arith))

  formed_found : (d : ℕ) (a : Placed) (ts : List Placed) (x : X) (rest : List Placed) → is_in door a.text ≡ true → Found s d (a ∷ ts) x rest → Found formed d (a ∷ ts) x rest
  formed_found d a ts x rest m f = record {
    tree = f.tree;
    is_one = and_from (form f.tree) (s.grammar f.tree) (has_form f.tree f.is_one a ts rest m f.whole) f.is_one;
    within = f.within;
    whole = f.whole;
    same = f.same;
  }

  sound : (d : ℕ) (ts : List Placed) (x : X) (rest : List Placed) → whole d ts ≡ reads (x, rest) → Found formed d ts x rest
  sound d [] x rest h = leaves_not h
  sound d (t ∷ ts) x rest h = by_test (is_in door t.text) refl h
    where
      by_test : (b : Bool) → is_in door t.text ≡ b → cond b (read d (t ∷ ts)) (leaves (length ts + 1) w) ≡ reads (x, rest) → Found formed d (t ∷ ts) x rest
      by_test true m k = formed_found d t ts x rest m (i.sound d (t ∷ ts) x rest k)
      by_test false m k = leaves_not k

  complete : (t : T) → IsTrue (formed.grammar t) → (d : ℕ) → s.nests t ≤ d → (rest : List Placed) → Ends goes rest → whole d (front s t ++ rest) ≡ reads (s.means t, rest)
  complete t g d n rest e =
      let p = and_parts (form t) (s.grammar t) g in
      open_by d (front s t ++ rest) (starts_before door (front s t) rest (begins t p.0 p.1)) ∙ i.complete t p.1 d n rest e

  again : (d : ℕ) (x : X) (before : List Placed) (t : Placed) (us : List Placed) → whole d (before ++ t ∷ us) ≡ reads (x, t ∷ us)
      → (e : ℕ) → d ≤ e → (vs : List Placed) → whole e (before ++ t ∷ vs) ≡ reads (x, t ∷ vs)
  again d x before t us h e l vs =
      let b = is_in door ((deciding before t).text) in
      by_next e before t vs b refl ∙ by_test b (sym (by_next d before t us b refl) ∙ h)
    where
      by_test : (b : Bool) → cond b (read d (before ++ t ∷ us)) (leaves (length (before ++ t ∷ us)) w) ≡ reads (x, t ∷ us)
          → cond b (read e (before ++ t ∷ vs)) (leaves (length (before ++ t ∷ vs)) w) ≡ reads (x, t ∷ vs)
      by_test true k = i.again d x before t us k e l vs
      by_test false k = leaves_not k

  one_begins : Begins formed []
  one_begins = (one, and_from (form one) (s.grammar one) one_has one_is, front s one, refl)

  refused_first : (d : ℕ) (t : Placed) (ts : List Placed) (n : ℕ) (v : Wanted) → is_in door t.text ≡ false → ◌≡◌ {A = Answer (X × List Placed)} (leaves (length ts + 1) w) (leaves n v)
      → Refused formed whole d (t ∷ ts) n v
  refused_first d t ts n v m h =
      let p = places (length ts + 1) n w v h in
      record {
        before = [];
        behind = t ∷ ts;
        whole = refl;
        count = omega (arith, p.0);
        begun = one_begins;
        refuses = λ a others q e l us.
            let f : t ≡ a = cc in
            let z : is_in door a.text ≡ false = ap (λ (y : Placed). is_in door y.text) (sym f) ∙ m in
            inl (rw z (ap (λ u. leaves (length us + 1) u) p.1));
      }

  -- a tree that begins with some lexemes of which the first is of the kinds has the form; where none was read, there is one
  formed_begins : (t : Placed) (ts before behind : List Placed) → is_in door t.text ≡ true → t ∷ ts ≡ before ++ behind → Begins s before → Begins formed before
  formed_begins t ts [] behind m q b = one_begins
  formed_begins t ts (a ∷ before) behind m q b =
      let f : t ≡ a = cc in
      let k : is_in door a.text ≡ true = ap (λ (z : Placed). is_in door z.text) (sym f) ∙ m in
      (b.0, and_from (form b.0) (s.grammar b.0) (only_those b.0 b.1 (subst (λ z. Starts door false z) (sym b.3) k)) b.1, b.2, b.3)

  refused_open : (d : ℕ) (t : Placed) (ts : List Placed) (n : ℕ) (v : Wanted) → is_in door t.text ≡ true → Refused s read d (t ∷ ts) n v → Refused formed whole d (t ∷ ts) n v
  refused_open d t ts n v m r = record {
    before = r.before;
    behind = r.behind;
    whole = r.whole;
    count = r.count;
    begun = formed_begins t ts r.before r.behind m r.whole r.begun;
    refuses = λ a others q e l us.
        let f = deciding_is t ts r.before a others (r.whole ∙ ap (λ z. r.before ++ z) q) in
        tells_along _ _ (length us + 1) v (by_next e r.before a us true (ap (λ (z : Placed). is_in door z.text) (sym f) ∙ m)) (r.refuses a others q e l us);
  }

  placed : (d : ℕ) (ts : List Placed) (n : ℕ) (v : Wanted) → whole d ts ≡ leaves n v → Refused formed whole d ts n v
  placed d [] n v h = record {
    before = [];
    behind = [];
    whole = refl;
    count = (places 0 n w v h).0;
    begun = one_begins;
    refuses = λ t others e m l us. absurd (cc);
  }
  placed d (t ∷ ts) n v h = by_test (is_in door t.text) refl h
    where
      by_test : (b : Bool) → is_in door t.text ≡ b → cond b (read d (t ∷ ts)) (leaves (length ts + 1) w) ≡ leaves n v → Refused formed whole d (t ∷ ts) n v
      by_test true m k = refused_open d t ts n v m (i.placed d (t ∷ ts) n v k)
      by_test false m k = refused_first d t ts n v m k

  pub door_exact : IsExact formed door false goes whole
  door_exact = record {
    some = one;
    some_is = and_from (form one) (s.grammar one) one_has one_is;
    appends = λ t g ts. i.appends t ((and_parts (form t) (s.grammar t) g).1) ts;
    starts = λ t g. let p = and_parts (form t) (s.grammar t) g in begins t p.0 p.1;
    sound = sound;
    complete = complete;
    again = again;
    placed = placed;
  }
