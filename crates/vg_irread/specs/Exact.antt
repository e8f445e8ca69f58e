-- When a reader is exact: what it reads is spelled in front, what is spelled is read, where it ends, and where it refuses
-- the lexemes leave what is spelled. Each decision is taken by the next lexeme alone.
use Rattle.std.specs.Prelude.{◌≡◌, ◌⊎◌, ℕ, ◌+◌, ◌≤◌, max, Bool, true, false, ◌&&◌, IsTrue, List, [], ◌∷◌, ◌++◌, length, map, Option}
use mathlib.Core.Logic.{inl, inr}
use Rattle.std.specs.Option.{option_map, option_map_or}
use Rattle.std.specs.List.{list_all}
use Rattle.vg_irparse.specs.declared.role.Role.{Role}
use Rattle.vg_irparse.specs.declared.role.Wanted.{Wanted}
use Rattle.vg_irparse.specs.Placed.{Placed, Mark, Slot, lexemes_of, free, fixed}
use Rattle.vg_irparse.specs.Answer.{Answer, reads, leaves, too_deep}
use Rattle.vg_irparse.specs.Spelling.{spelled_list, spelled_optional}
use Rattle.vg_irread.specs.Kinds.{Kind, is_in}
use Rattle.vg_irread.specs.Reading.{Reader}

-- ---- what is spelled

-- trees: which are of the grammar, the lexemes that each spells in front of others, what it stands for, and how many brackets
-- stand in one another there
pub record Spelling (T X : Type 0) : Type 0 where
  pub grammar : T → Bool
  pub spelled : T → List Slot → List Slot
  pub means : T → X
  pub nests : T → ℕ

-- the lexemes of a tree
abbrev pub front : {T X : Type 0} → Spelling T X → T → List Placed
front s t = lexemes_of (s.spelled t [])

-- nothing
abbrev pub nothing : {X : Type 0} → X → Spelling (Unit {0}) X
nothing x = record { grammar = λ t. true; spelled = λ t ts. ts; means = λ t. x; nests = λ t. 0 }

-- one lexeme of a tree
abbrev pub single : {T X : Type 0} → (T → Slot) → (T → Bool) → (T → X) → Spelling T X
single slot is value = record { grammar = is; spelled = λ t ts. slot t ∷ ts; means = value; nests = λ t. 0 }

-- one lexeme
abbrev pub one : {X : Type 0} → Role → (Placed → Bool) → (Placed → X) → Spelling Placed X
one role is value = single (free role) is value

-- these very bytes, which stand for their place
abbrev pub sign : Role → List ℕ → Spelling Mark ℕ
sign role text = single (fixed role text) (λ m. true) (λ m. m.at)

-- one behind another, which may depend on it and is what both mean
abbrev pub both : {A B X Y : Type 0} → Spelling A X → (A → Spelling B Y) → Spelling (A × B) Y
both first second = record {
  grammar = λ p. first.grammar p.0 && (second p.0).grammar p.1;
  spelled = λ p ts. first.spelled p.0 ((second p.0).spelled p.1 ts);
  means = λ p. (second p.0).means p.1;
  nests = λ p. max (first.nests p.0) ((second p.0).nests p.1);
}

-- one that may lack
abbrev pub may : {T X : Type 0} → Spelling T X → Spelling (Option T) (Option X)
may s = record {
  grammar = λ t. option_map_or s.grammar t true;
  spelled = λ t ts. spelled_optional s.spelled t ts;
  means = λ t. option_map s.means t;
  nests = λ t. option_map_or s.nests t 0;
}

-- the greatest of numbers
abbrev pub greatest : List ℕ → ℕ
greatest [] = 0
greatest (n ∷ ns) = max n (greatest ns)

-- as many as there are
abbrev pub many : {T X : Type 0} → Spelling T X → Spelling (List T) (List X)
many s = record {
  grammar = λ ts. list_all s.grammar ts;
  spelled = λ ts behind. spelled_list s.spelled ts behind;
  means = λ ts. map s.means ts;
  nests = λ ts. greatest (map s.nests ts);
}

-- steps, each of which makes a state of the one before: which a state allows, and what each makes of it
pub record Steps (T S : Type 0) : Type 0 where
  pub allows : S → T → Bool
  pub spelled : T → List Slot → List Slot
  pub makes : S → T → S
  pub nests : T → ℕ

-- one step from a state
abbrev pub step : {T S : Type 0} → Steps T S → S → Spelling T S
step p s = record { grammar = p.allows s; spelled = p.spelled; means = p.makes s; nests = p.nests }

-- each state allows the step from it
abbrev pub are_steps : {T S : Type 0} → Steps T S → S → List T → Bool
are_steps p s [] = true
are_steps p s (t ∷ ts) = p.allows s t && are_steps p (p.makes s t) ts

-- the state behind all steps
abbrev pub made_by : {T S : Type 0} → Steps T S → S → List T → S
made_by p s [] = s
made_by p s (t ∷ ts) = made_by p (p.makes s t) ts

-- as many steps as there are
abbrev pub run : {T S : Type 0} → Steps T S → S → Spelling (List T) S
run p s = record {
  grammar = are_steps p s;
  spelled = spelled_list p.spelled;
  means = made_by p s;
  nests = λ ts. greatest (map p.nests ts);
}

-- there are some
abbrev pub are_some : {T : Type 0} → List T → Bool
are_some [] = false
are_some (t ∷ ts) = true

-- as many as there are, which stand for whether there are some
abbrev pub skipped : {T X : Type 0} → Spelling T X → Spelling (List T) Bool
skipped s = record {
  grammar = λ ts. list_all s.grammar ts;
  spelled = λ ts behind. spelled_list s.spelled ts behind;
  means = λ ts. are_some ts;
  nests = λ ts. greatest (map s.nests ts);
}

-- as many as there are, behind those so far
abbrev pub row : {T X : Type 0} → Spelling T X → List X → Spelling (List T) (List X)
row s xs = record {
  grammar = λ ts. list_all s.grammar ts;
  spelled = λ ts behind. spelled_list s.spelled ts behind;
  means = λ ts. xs ++ map s.means ts;
  nests = λ ts. greatest (map s.nests ts);
}

-- by the alternative
abbrev pub by : {A B C : Type 0} → (A → C) → (B → C) → A ⊎ B → C
by f g (inl a) = f a
by f g (inr b) = g b

-- one or another
abbrev pub either : {A B X : Type 0} → Spelling A X → Spelling B X → Spelling (A ⊎ B) X
either first second = record {
  grammar = by first.grammar second.grammar;
  spelled = by first.spelled second.spelled;
  means = by first.means second.means;
  nests = by first.nests second.nests;
}

-- ---- what an exact reader answers

-- what is read is spelled in front
pub record Found {T X : Type 0} (s : Spelling T X) (d : ℕ) (ts : List Placed) (x : X) (rest : List Placed) : Type 0 where
  pub tree : T
  pub is_one : IsTrue (s.grammar tree)
  pub within : s.nests tree ≤ d
  pub whole : ts ≡ front s tree ++ rest
  pub same : x ≡ s.means tree

-- none of these lexemes follows
abbrev pub Ends : List Kind → List Placed → Type 0
Ends kinds [] = Unit {0}
Ends kinds (t ∷ ts) = is_in kinds t.text ≡ false

-- a refusal at this place, or want of room for brackets
abbrev pub Tells : {A : Type 0} → Answer A → ℕ → Wanted → Type 0
Tells a n w = (a ≡ leaves n w) ⊎ (a ≡ too_deep)

-- a tree is spelled that begins with these lexemes
abbrev pub Begins : {T X : Type 0} → Spelling T X → List Placed → Type 0
Begins {T} s before = (tree : T) × IsTrue (s.grammar tree) × (more : List Placed) × (front s tree ≡ before ++ more)

-- where so many are left a tree begins with the lexemes before, and the next one is refused whatever is behind it
pub record Refused {T X : Type 0} (s : Spelling T X) (read : Reader X) (d : ℕ) (ts : List Placed) (n : ℕ) (w : Wanted) : Type 0 where
  pub before : List Placed
  pub behind : List Placed
  pub whole : ts ≡ before ++ behind
  pub count : length behind ≡ n
  pub begun : Begins s before
  pub refuses : (t : Placed) (others : List Placed) → behind ≡ t ∷ others → (e : ℕ) → d ≤ e → (us : List Placed) → Tells (read e (before ++ t ∷ us)) (length us + 1) w

-- a tree begins with a lexeme of these kinds, or has none where it may be empty
abbrev pub Starts : List Kind → Bool → List Placed → Type 0
Starts kinds empty [] = empty ≡ true
Starts kinds empty (t ∷ ts) = is_in kinds t.text ≡ true

-- the kinds that one behind another may begin with
abbrev pub kinds_of : Bool → List Kind → List Kind → List Kind
kinds_of true first second = first ++ second
kinds_of false first second = first

-- those that may not follow
abbrev pub goes_of : Bool → List Kind → List Kind → List Kind
goes_of true first second = first ++ second
goes_of false first second = second

-- A reader is exact for what is spelled. A tree begins with one of the first kinds, or may be empty; behind a tree none of the
-- last kinds may follow.
pub record IsExact {T X : Type 0} (s : Spelling T X) (kinds : List Kind) (empty : Bool) (goes : List Kind) (read : Reader X) : Type 0 where
  -- there is such a tree
  pub some : T
  pub some_is : IsTrue (s.grammar some)
  -- a tree spells its own lexemes, whatever is behind it
  pub appends : (t : T) → IsTrue (s.grammar t) → (ts : List Slot) → lexemes_of (s.spelled t ts) ≡ front s t ++ lexemes_of ts
  pub starts : (t : T) → IsTrue (s.grammar t) → Starts kinds empty (front s t)
  -- what is read is spelled
  pub sound : (d : ℕ) (ts : List Placed) (x : X) (rest : List Placed) → read d ts ≡ reads (x, rest) → Found s d ts x rest
  -- what is spelled is read
  pub complete : (t : T) → IsTrue (s.grammar t) → (d : ℕ) → s.nests t ≤ d → (rest : List Placed) → Ends goes rest
      → read d (front s t ++ rest) ≡ reads (s.means t, rest)
  -- what is read depends on the next lexeme alone
  pub again : (d : ℕ) (x : X) (before : List Placed) (t : Placed) (us : List Placed) → read d (before ++ t ∷ us) ≡ reads (x, t ∷ us)
      → (e : ℕ) → d ≤ e → (vs : List Placed) → read e (before ++ t ∷ vs) ≡ reads (x, t ∷ vs)
  -- what is refused leaves what is spelled, at its place
  pub placed : (d : ℕ) (ts : List Placed) (n : ℕ) (w : Wanted) → read d ts ≡ leaves n w → Refused s read d ts n w
