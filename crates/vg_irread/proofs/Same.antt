-- A reader that is exact for one spelling is so for another one of the same texts.
use Rattle.std.proofs.Common.{◌≡◌, ℕ, ◌≤◌, Bool, List, [], ◌++◌, sym, ap, subst, ◌∙◌, arith, IsTrue}
use Rattle.vg_irparse.specs.declared.role.Wanted.{Wanted}
use Rattle.vg_irparse.specs.Placed.{Placed, Slot, lexemes_of}
use Rattle.vg_irparse.specs.Answer.{reads}
use Rattle.vg_irread.specs.Kinds.{Kind}
use Rattle.vg_irread.specs.Reading.{Reader}
use Rattle.vg_irread.specs.Exact.{Spelling, front, Found, Ends, Refused, Starts, IsExact}

-- the two trees spell the same and mean the same
pub record Same {T U X : Type 0} (s : Spelling T X) (r : Spelling U X) (t : T) (u : U) : Type 0 where
  pub spelled : (ts : List Slot) → lexemes_of (s.spelled t ts) ≡ lexemes_of (r.spelled u ts)
  pub means : s.means t ≡ r.means u
  pub nests : s.nests t ≡ r.nests u

-- each tree of the one is one of the other
pub record Covers {T U X : Type 0} (s : Spelling T X) (r : Spelling U X) (t : T) : Type 0 where
  pub other : U
  pub is_one : IsTrue (r.grammar other)
  pub same : Same s r t other

module _ {T U X : Type 0} {s : Spelling T X} {r : Spelling U X} {kinds : List Kind} {empty : Bool} {goes : List Kind} {read : Reader X} (i : IsExact s kinds empty goes read)
    (forth : (t : T) → IsTrue (s.grammar t) → Covers s r t)
    (back : (u : U) → IsTrue (r.grammar u) → Covers r s u) where
  same_refused : (d : ℕ) (ts : List Placed) (n : ℕ) (w : Wanted) → Refused s read d ts n w → Refused r read d ts n w
  same_refused d ts n w f =
      let b = f.begun in
      let c = forth b.0 b.1 in
      record {
        before = f.before;
        behind = f.behind;
        whole = f.whole;
        count = f.count;
        begun = (c.other, c.is_one, b.2, sym (c.same.spelled []) ∙ b.3);
        refuses = f.refuses;
      }

  same_found : (d : ℕ) (ts : List Placed) (x : X) (rest : List Placed) → Found s d ts x rest → Found r d ts x rest
  same_found d ts x rest f =
      let c = forth f.tree f.is_one in
      record {
        tree = c.other;
        is_one = c.is_one;
        within = let e = c.same.nests in omega (arith, e, f.within);
        whole = f.whole ∙ ap (λ z. z ++ rest) (c.same.spelled []);
        same = f.same ∙ c.same.means;
      }

  same_appends : (u : U) → IsTrue (r.grammar u) → (ts : List Slot) → lexemes_of (r.spelled u ts) ≡ front r u ++ lexemes_of ts
  same_appends u g ts =
      let c = back u g in
      c.same.spelled ts ∙ (i.appends c.other c.is_one ts ∙ ap (λ z. z ++ lexemes_of ts) (sym (c.same.spelled [])))

  same_complete : (u : U) → IsTrue (r.grammar u) → (d : ℕ) → r.nests u ≤ d → (rest : List Placed) → Ends goes rest → read d (front r u ++ rest) ≡ reads (r.means u, rest)
  same_complete u g d n rest e =
      let c = back u g in
      let m = c.same.nests in
      ap (λ z. read d (z ++ rest)) (c.same.spelled [])
      ∙ (i.complete c.other c.is_one d (omega (arith, m, n)) rest e ∙ ap (λ (z : X). reads (z, rest)) (sym c.same.means))

  pub same_exact : IsExact r kinds empty goes read
  same_exact =
      let c = forth i.some i.some_is in
      record {
        some = c.other;
        some_is = c.is_one;
        appends = same_appends;
        starts = λ u g. let b = back u g in subst (λ z. Starts kinds empty z) (sym (b.same.spelled [])) (i.starts b.other b.is_one);
        sound = λ d ts x rest h. same_found d ts x rest (i.sound d ts x rest h);
        complete = same_complete;
        again = i.again;
        placed = λ d ts n w h. same_refused d ts n w (i.placed d ts n w h);
      }
