-- A reader is exact with more kinds too.
use Rattle.std.proofs.Common.{◌≡◌, ℕ, Bool, true, List, [], ◌∷◌}
use Rattle.std.proofs.lemmas.Bool.{both_ways}
use Rattle.vg_irparse.specs.Placed.{Placed}
use Rattle.vg_irread.specs.Kinds.{Kind, is_in}
use Rattle.vg_irread.specs.Reading.{Reader}
use Rattle.vg_irread.specs.Exact.{Spelling, front, Ends, Starts, IsExact}
use Rattle.vg_irread.proofs.Apart.{fails}

-- each lexeme of the one set is of the other
abbrev pub Within : List Kind → List Kind → Type 0
Within ks ls = (t : List ℕ) → is_in ks t ≡ true → is_in ls t ≡ true

starts_within : (ks ls : List Kind) (e : Bool) (fa : List Placed) → Within ks ls → Starts ks e fa → Starts ls e fa
starts_within ks ls e [] w h = h
starts_within ks ls e (t ∷ fa) w h = w t.text h

ends_within : (ks ls : List Kind) (rest : List Placed) → Within ks ls → Ends ls rest → Ends ks rest
ends_within ks ls [] w h = tt
ends_within ks ls (t ∷ rest) w h = fails (is_in ks t.text) (λ k. both_ways (is_in ls t.text) h (w t.text k))

pub weaker_exact : {T X : Type 0} {s : Spelling T X} {kinds : List Kind} {empty : Bool} {goes : List Kind} {read : Reader X} → IsExact s kinds empty goes read
    → (more : List Kind) → Within kinds more → (others : List Kind) → Within goes others → IsExact s more empty others read
weaker_exact {s = s} {kinds = kinds} {empty = empty} {goes = goes} i more m others o = record {
  some = i.some;
  some_is = i.some_is;
  appends = i.appends;
  starts = λ t g. starts_within kinds more empty (front s t) m (i.starts t g);
  sound = i.sound;
  complete = λ t g d n rest e. i.complete t g d n rest (ends_within goes others rest o e);
  again = i.again;
  placed = i.placed;
}
