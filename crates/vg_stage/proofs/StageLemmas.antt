-- Acts in the order of their stages, and the first of them at fault.
use Rattle.std.proofs.Common.{◌≡◌, ℕ, ◌+◌, ◌≤◌, ◌<◌, nat_lt, Bool, true, false, ◌&&◌, ◌||◌, List, map, [], ◌∷◌, ◌++◌, length, get_or, take, drop, add-one, drop-cons, Option, Some, None, if◌then◌else◌, refl, ap, sym, ◌∙◌, arith}
use Rattle.std.specs.List.{list_any}
use Rattle.std.specs.Option.{option_or}
use Rattle.std.specs.Str.{bytes_eq}
use Rattle.std.proofs.lemmas.List.Folds.{list_any-append, list_any_more}
use Rattle.vg_ast.specs.declared.name.Name.{Name}
use Rattle.vg_ast.specs.declared.act.Act.{Act}
use Rattle.vg_ast.specs.declared.act.Act.TheVariants as acts
use Rattle.vg_ast.specs.declared.micro_item.MicroItem.{MicroItem}
use Rattle.vg_ast.specs.declared.micro_item.MicroItem.TheVariants as lines
use Rattle.vg_names.specs.Definition.{Text, item_named, is_among}
use Rattle.vg_names.specs.First.{first_of}
use Rattle.vg_names.proofs.FirstLemmas.{first_of_append}
use Rattle.vg_names.proofs.TableLemmas.{bytes_eq_sym}
use Rattle.vg_type.specs.Item.{Setting}
use Rattle.vg_type.specs.Judged.{told}
use Rattle.vg_stage.specs.declared.act_kind.ActKind.TheVariants as kinds
use Rattle.vg_tree.specs.Resource.{is_memory}
use Rattle.vg_stage.specs.StageOrder.{Placed, acts_from, act_start, same_act, is_before, is_too_late, is_wrong_act, wrong_acts, is_wrong_forward, wrong_lines}
use Rattle.vg_stage.specs.StageMet.{Key, key_of, same_key, is_met, stage_if, first_stage, is_write_to, is_earlier, does, placed_at, line_acts, stage_behind, wrong_act, first_wrong_act, wrong_forward, first_wrong_line}

-- the rest of a list from one of its elements on
pub drop_here : {X : Type 0} (xs : List X) (i : ℕ) (x : X) → i < length xs → x ≡ get_or xs i x → drop i xs ≡ x ∷ drop (i + 1) xs
drop_here xs i x within is = drop-cons xs i x within ∙ ap (λ n. get_or xs i x ∷ drop n xs) (sym (add-one i)) ∙ ap (λ (y : _). y ∷ drop (i + 1) xs) (sym is)

-- ---- the order of stages

not_below : (k s : ℕ) → s ≤ k → nat_lt k s ≡ false
not_below k s h = grind arith

and_false : (a b : Bool) → b ≡ false → (a && b) ≡ false
and_false true b h = h
and_false false b h = refl

or_both : (a b : Bool) → a ≡ false → b ≡ false → (a || b) ≡ false
or_both a b p q = ap (λ x. x || b) p ∙ q

none_in_row : (act : Act) (s k : ℕ) (rest : List Placed) → s ≤ k → list_any (is_too_late (s, act)) rest ≡ false → (row : List Act) → list_any (is_too_late (s, act)) (placed_at k row ++ rest) ≡ false
none_in_row act s k rest h none [] = none
none_in_row act s k rest h none (a ∷ row) = or_both _ _ (and_false (is_before act a) (nat_lt k s) (not_below k s h)) (none_in_row act s k rest h none row)

-- no act that stands in this stage or behind it is early
none_late : (act : Act) (s k : ℕ) (all : List MicroItem) → s ≤ k → list_any (is_too_late (s, act)) (acts_from k all) ≡ false
none_late act s k [] h = refl
none_late act s k (lines.Forward at resource ∷ more) h = none_late act s k more h
none_late act s k (lines.Stage at name given ∷ more) h = none_in_row act s k (acts_from (k + 1) more) h (none_late act s (k + 1) more (omega arith)) given

-- an act is too late where the first that may not stand before it does, in a row of which this is known of the rest
late_in_row : (act : Act) (test : Act → Bool) → ((a : Act) → is_before act a ≡ test a) → (s k : ℕ) (rest : List Placed) → (s ≤ k → list_any (is_too_late (s, act)) rest ≡ false)
    → list_any (is_too_late (s, act)) rest ≡ is_earlier (first_stage test rest) s → (row : List Act) → list_any (is_too_late (s, act)) (placed_at k row ++ rest) ≡ is_earlier (first_stage test (placed_at k row ++ rest)) s
late_in_row act test same s k rest none known [] = known
late_in_row act test same s k rest none known (a ∷ row) = ap (λ b. (b && nat_lt k s) || list_any (is_too_late (s, act)) (placed_at k row ++ rest)) (same a) ∙ by (late_in_row act test same s k rest none known row) (test a)
  where
    first : (b : Bool) → nat_lt k s ≡ b → (b || list_any (is_too_late (s, act)) (placed_at k row ++ rest)) ≡ b
    first true e = refl
    first false e = let h : s ≤ k = grind arith in none_in_row act s k rest h (none h) row

    by : list_any (is_too_late (s, act)) (placed_at k row ++ rest) ≡ is_earlier (first_stage test (placed_at k row ++ rest)) s → (b : Bool)
        → ((b && nat_lt k s) || list_any (is_too_late (s, act)) (placed_at k row ++ rest)) ≡ is_earlier (option_or (stage_if b k) (first_stage test (placed_at k row ++ rest))) s
    by known true = first (nat_lt k s) refl
    by known false = known

pub late_is : (act : Act) (test : Act → Bool) → ((a : Act) → is_before act a ≡ test a) → (s k : ℕ) (all : List MicroItem) → list_any (is_too_late (s, act)) (acts_from k all) ≡ is_earlier (first_stage test (acts_from k all)) s
late_is act test same s k [] = refl
late_is act test same s k (lines.Forward at resource ∷ more) = late_is act test same s k more
late_is act test same s k (lines.Stage at name given ∷ more) = late_in_row act test same s k (acts_from (k + 1) more) (λ h. none_late act s (k + 1) more (omega (arith, h))) (late_is act test same s (k + 1) more) given

-- a write may not stand before the read of its resource
pub before_read : (at : ℕ) (resource : Name) (a : Act) → is_before (acts.Read at resource) a ≡ is_write_to resource.text a
before_read at resource (acts.Read other_at other) = refl
before_read at resource (acts.Write other_at other) = bytes_eq_sym resource.text other.text
before_read at resource (acts.Compute other_at) = refl
before_read at resource (acts.Resolve other_at) = refl

-- and none before `resolve`
pub before_resolve : (at : ℕ) (a : Act) → is_before (acts.Resolve at) a ≡ does kinds.Write a
before_resolve at (acts.Read other_at other) = refl
before_resolve at (acts.Write other_at other) = refl
before_resolve at (acts.Compute other_at) = refl
before_resolve at (acts.Resolve other_at) = refl

-- an act that may stand anywhere isn't too late
pub never_late : (act : Act) → ((a : Act) → is_before act a ≡ false) → (s : ℕ) (all : List Placed) → list_any (is_too_late (s, act)) all ≡ false
never_late act none s [] = refl
never_late act none s (a ∷ more) = or_both _ _ (ap (λ b. b && nat_lt a.0 s) (none a.1)) (never_late act none s more)

never_write : (at : ℕ) (resource : Name) (a : Act) → is_before (acts.Write at resource) a ≡ false
never_write at resource (acts.Read other_at other) = refl
never_write at resource (acts.Write other_at other) = refl
never_write at resource (acts.Compute other_at) = refl
never_write at resource (acts.Resolve other_at) = refl

never_compute : (at : ℕ) (a : Act) → is_before (acts.Compute at) a ≡ false
never_compute at (acts.Read other_at other) = refl
never_compute at (acts.Write other_at other) = refl
never_compute at (acts.Compute other_at) = refl
never_compute at (acts.Resolve other_at) = refl

-- which acts are too late, of each kind

module _ (act : Act) (s : ℕ) (all : List MicroItem) where
  pub late_Read : (at : ℕ) (resource : Name) → act ≡ acts.Read at resource → list_any (is_too_late (s, act)) (acts_from 0 all) ≡ is_earlier (first_stage (is_write_to resource.text) (acts_from 0 all)) s
  late_Read at resource e = ap (λ (a : Act). list_any (is_too_late (s, a)) (acts_from 0 all)) e ∙ late_is (acts.Read at resource) (is_write_to resource.text) (before_read at resource) s 0 all

  pub late_Resolve : (at : ℕ) → act ≡ acts.Resolve at → list_any (is_too_late (s, act)) (acts_from 0 all) ≡ is_earlier (first_stage (does kinds.Write) (acts_from 0 all)) s
  late_Resolve at e = ap (λ (a : Act). list_any (is_too_late (s, a)) (acts_from 0 all)) e ∙ late_is (acts.Resolve at) (does kinds.Write) (before_resolve at) s 0 all

  pub late_Write : (at : ℕ) (resource : Name) → act ≡ acts.Write at resource → list_any (is_too_late (s, act)) (acts_from 0 all) ≡ false
  late_Write at resource e = ap (λ (a : Act). list_any (is_too_late (s, a)) (acts_from 0 all)) e ∙ never_late (acts.Write at resource) (never_write at resource) s (acts_from 0 all)

  pub late_Compute : (at : ℕ) → act ≡ acts.Compute at → list_any (is_too_late (s, act)) (acts_from 0 all) ≡ false
  late_Compute at e = ap (λ (a : Act). list_any (is_too_late (s, a)) (acts_from 0 all)) e ∙ never_late (acts.Compute at) (never_compute at) s (acts_from 0 all)

-- ---- the first stage of an act

option_assoc : (a b c : Option ℕ) → option_or (option_or a b) c ≡ option_or a (option_or b c)
option_assoc None b c = refl
option_assoc (Some x) b c = refl

option_none : (o : Option ℕ) → option_or o None ≡ o
option_none None = refl
option_none (Some x) = refl

either_stage : (a b : Bool) (s : ℕ) → option_or (stage_if a s) (stage_if b s) ≡ stage_if (a || b) s
either_stage true b s = refl
either_stage false b s = refl

-- one more of these acts is noted
pub noted_more : (test : Act → Bool) (xs : List Act) (i : ℕ) (x : Act) (s : ℕ) (first now next : Option ℕ) → now ≡ option_or first (stage_if (list_any test (take i xs)) s) → i < length xs → x ≡ get_or xs i x → next ≡ option_or now (stage_if (test x) s) → next ≡ option_or first (stage_if (list_any test (take (i + 1) xs)) s)
noted_more test xs i x s first now next h within is e =
    e ∙ ap (λ o. option_or o (stage_if (test x) s)) h ∙ option_assoc first (stage_if (list_any test (take i xs)) s) (stage_if (test x) s)
    ∙ ap (option_or first) (either_stage (list_any test (take i xs)) (test x) s)
    ∙ ap (λ b. option_or first (stage_if (list_any test (take i xs) || b) s)) (ap test is)
    ∙ ap (λ b. option_or first (stage_if b s)) (sym (list_any_more test xs i x within))

first_placed : (test : Act → Bool) (s : ℕ) (row : List Act) (more : List Placed) → first_stage test (placed_at s row ++ more) ≡ option_or (stage_if (list_any test row) s) (first_stage test more)
first_placed test s [] more = refl
first_placed test s (a ∷ row) more =
    ap (option_or (stage_if (test a) s)) (first_placed test s row more)
    ∙ sym (option_assoc (stage_if (test a) s) (stage_if (list_any test row) s) (first_stage test more))
    ∙ ap (λ o. option_or o (first_stage test more)) (either_stage (test a) (list_any test row) s)

first_in_line : (test : Act → Bool) (s : ℕ) (line : MicroItem) (more : List MicroItem) → first_stage test (acts_from s (line ∷ more)) ≡ option_or (stage_if (list_any test (line_acts line)) s) (first_stage test (acts_from (stage_behind s line) more))
first_in_line test s (lines.Stage at name given) more = first_placed test s given (acts_from (s + 1) more)
first_in_line test s (lines.Forward at resource) more = refl

-- the first stage of such an act, from one of the lines on
pub first_from_line : (test : Act → Bool) (s : ℕ) (xs : List MicroItem) (i : ℕ) (x : MicroItem) → i < length xs → x ≡ get_or xs i x → first_stage test (acts_from s (drop i xs)) ≡ option_or (stage_if (list_any test (line_acts x)) s) (first_stage test (acts_from (stage_behind s x) (drop (i + 1) xs)))
first_from_line test s xs i x within is = ap (λ (l : List MicroItem). first_stage test (acts_from s l)) (drop_here xs i x within is) ∙ first_in_line test s x (drop (i + 1) xs)

-- an act of a line is the first
pub first_here : (test : Act → Bool) (s : ℕ) (xs : List MicroItem) (i : ℕ) (x : MicroItem) (row : List Act) (whole : Option ℕ) → first_stage test (acts_from s (drop i xs)) ≡ whole → i < length xs → x ≡ get_or xs i x → row ≡ line_acts x → true ≡ list_any test row → Some s ≡ whole
first_here test s xs i x row whole h within is e some =
    ap (λ b. option_or (stage_if b s) (first_stage test (acts_from (stage_behind s x) (drop (i + 1) xs)))) (some ∙ ap (list_any test) e)
    ∙ sym (first_from_line test s xs i x within is) ∙ h

-- or it stands behind it
pub first_later : (test : Act → Bool) (s : ℕ) (xs : List MicroItem) (i : ℕ) (x : MicroItem) (row : List Act) (t : ℕ) (whole : Option ℕ) → first_stage test (acts_from s (drop i xs)) ≡ whole → i < length xs → x ≡ get_or xs i x → row ≡ line_acts x → false ≡ list_any test row → t ≡ stage_behind s x → first_stage test (acts_from t (drop (i + 1) xs)) ≡ whole
first_later test s xs i x row t whole h within is e none f =
    ap (λ n. first_stage test (acts_from n (drop (i + 1) xs))) f
    ∙ ap (λ b. option_or (stage_if b s) (first_stage test (acts_from (stage_behind s x) (drop (i + 1) xs)))) (none ∙ ap (list_any test) e)
    ∙ sym (first_from_line test s xs i x within is) ∙ h

-- the acts of a line are noted
pub line_noted : (test : Act → Bool) (s : ℕ) (xs : List MicroItem) (i : ℕ) (x : MicroItem) (now next whole : Option ℕ) → option_or now (first_stage test (acts_from s (drop i xs))) ≡ whole → i < length xs → x ≡ get_or xs i x → next ≡ option_or now (stage_if (list_any test (line_acts x)) s) → option_or next (first_stage test (acts_from (stage_behind s x) (drop (i + 1) xs))) ≡ whole
line_noted test s xs i x now next whole h within is e =
    ap (λ o. option_or o (first_stage test (acts_from (stage_behind s x) (drop (i + 1) xs)))) e
    ∙ option_assoc now (stage_if (list_any test (line_acts x)) s) (first_stage test (acts_from (stage_behind s x) (drop (i + 1) xs)))
    ∙ ap (option_or now) (sym (first_from_line test s xs i x within is)) ∙ h

pub line_noted_at : (test : Act → Bool) (s : ℕ) (xs : List MicroItem) (i : ℕ) (x : MicroItem) (row : List Act) (t : ℕ) (now next whole : Option ℕ) → option_or now (first_stage test (acts_from s (drop i xs))) ≡ whole → i < length xs → x ≡ get_or xs i x → row ≡ line_acts x → next ≡ option_or now (stage_if (list_any test row) s) → t ≡ stage_behind s x → option_or next (first_stage test (acts_from t (drop (i + 1) xs))) ≡ whole
line_noted_at test s xs i x row t now next whole h within is e f g =
    ap (λ n. option_or next (first_stage test (acts_from n (drop (i + 1) xs)))) g
    ∙ line_noted test s xs i x now next whole h within is (f ∙ ap (λ (l : List Act). option_or now (stage_if (list_any test l) s)) e)

-- ---- what was met

same_acts : (a o : Act) → same_key (key_of a) (key_of o) ≡ same_act o a
same_acts (acts.Read at resource) (acts.Read other_at other) = bytes_eq_sym resource.text other.text
same_acts (acts.Read at resource) (acts.Write other_at other) = refl
same_acts (acts.Read at resource) (acts.Compute other_at) = refl
same_acts (acts.Read at resource) (acts.Resolve other_at) = refl
same_acts (acts.Write at resource) (acts.Read other_at other) = refl
same_acts (acts.Write at resource) (acts.Write other_at other) = bytes_eq_sym resource.text other.text
same_acts (acts.Write at resource) (acts.Compute other_at) = refl
same_acts (acts.Write at resource) (acts.Resolve other_at) = refl
same_acts (acts.Compute at) (acts.Read other_at other) = refl
same_acts (acts.Compute at) (acts.Write other_at other) = refl
same_acts (acts.Compute at) (acts.Compute other_at) = refl
same_acts (acts.Compute at) (acts.Resolve other_at) = refl
same_acts (acts.Resolve at) (acts.Read other_at other) = refl
same_acts (acts.Resolve at) (acts.Write other_at other) = refl
same_acts (acts.Resolve at) (acts.Compute other_at) = refl
same_acts (acts.Resolve at) (acts.Resolve other_at) = refl

no_forward : (t : Text) (o : Act) → same_key (kinds.Forward, t) (key_of o) ≡ false
no_forward t (acts.Read at resource) = refl
no_forward t (acts.Write at resource) = refl
no_forward t (acts.Compute at) = refl
no_forward t (acts.Resolve at) = refl

no_act : (a : Act) (t : Text) → same_key (key_of a) (kinds.Forward, t) ≡ false
no_act (acts.Read at resource) t = refl
no_act (acts.Write at resource) t = refl
no_act (acts.Compute at) t = refl
no_act (acts.Resolve at) t = refl

-- the keys that were met are those of these acts and of `forward`s of these names
record Shows (front : List Placed) (forwarded : List Text) (met : List Key) : Type 0 where
  acts : (a : Act) → is_met met (key_of a) ≡ list_any (λ (o : Placed). same_act o.1 a) front
  forwards : (t : Text) → is_met met (kinds.Forward, t) ≡ is_among t forwarded

shows_nothing : Shows [] [] []
shows_nothing = record { acts = λ a. refl; forwards = λ t. refl }

or_false : (b : Bool) → (b || false) ≡ b
or_false true = refl
or_false false = refl

keys_of_acts : (s : ℕ) (row : List Act) (a : Act) → is_met (map key_of row) (key_of a) ≡ list_any (λ (o : Placed). same_act o.1 a) (placed_at s row)
keys_of_acts s [] a = refl
keys_of_acts s (o ∷ row) a = ap (λ b. b || is_met (map key_of row) (key_of a)) (same_acts a o) ∙ ap (λ b. same_act o a || b) (keys_of_acts s row a)

no_forwards : (row : List Act) (t : Text) → is_met (map key_of row) (kinds.Forward, t) ≡ false
no_forwards [] t = refl
no_forwards (o ∷ row) t = or_both _ _ (no_forward t o) (no_forwards row t)

shows_acts : (front : List Placed) (forwarded : List Text) (met : List Key) (s : ℕ) (row : List Act) → Shows front forwarded met → Shows (front ++ placed_at s row) forwarded (met ++ map key_of row)
shows_acts front forwarded met s row h = record {
  acts = λ a.
      list_any-append (same_key (key_of a)) met (map key_of row)
      ∙ ap (λ b. b || is_met (map key_of row) (key_of a)) (h.acts a)
      ∙ ap (λ b. list_any (λ (o : Placed). same_act o.1 a) front || b) (keys_of_acts s row a)
      ∙ sym (list_any-append (λ (o : Placed). same_act o.1 a) front (placed_at s row));
  forwards = λ t.
      list_any-append (same_key (kinds.Forward, t)) met (map key_of row)
      ∙ ap (λ b. is_met met (kinds.Forward, t) || b) (no_forwards row t) ∙ or_false (is_met met (kinds.Forward, t)) ∙ h.forwards t;
}

among_first : (t text : Text) (forwarded : List Text) (b : Bool) → b ≡ is_among t forwarded → (b || (bytes_eq t text || false)) ≡ (if bytes_eq text t then true else is_among t forwarded)
among_first t text forwarded b e = ap (λ x. x || (bytes_eq t text || false)) e ∙ ap (λ x. is_among t forwarded || (x || false)) (bytes_eq_sym t text) ∙ turned (is_among t forwarded) (bytes_eq text t)
  where
    turned : (x y : Bool) → (x || (y || false)) ≡ (if y then true else x)
    turned true true = refl
    turned true false = refl
    turned false true = refl
    turned false false = refl

shows_forward : (front : List Placed) (forwarded : List Text) (met : List Key) (text : Text) → Shows front forwarded met → Shows front (text ∷ forwarded) (met ++ (kinds.Forward, text) ∷ [])
shows_forward front forwarded met text h = record {
  acts = λ a.
      list_any-append (same_key (key_of a)) met ((kinds.Forward, text) ∷ [])
      ∙ ap (λ b. is_met met (key_of a) || (b || false)) (no_act a text) ∙ or_false (is_met met (key_of a)) ∙ h.acts a;
  forwards = λ t. list_any-append (same_key (kinds.Forward, t)) met ((kinds.Forward, text) ∷ []) ∙ among_first t text forwarded (is_met met (kinds.Forward, t)) (h.forwards t);
}

-- ---- the first at fault

first_told : (b : Bool) (at : ℕ) (more : List ℕ) → first_of (told b at ++ more) ≡ option_or (if b then Some at else None) (first_of more)
first_told true at more = refl
first_told false at more = refl

first_of_acts : (all front : List Placed) (forwarded : List Text) (met : List Key) (s : ℕ) (row : List Act) → Shows front forwarded met → first_of (wrong_acts all front (placed_at s row)) ≡ first_wrong_act all met (placed_at s row)
first_of_acts all front forwarded met s [] h = refl
first_of_acts all front forwarded met s (a ∷ row) h =
    first_told (is_wrong_act all front (s, a)) (act_start a) (wrong_acts all (front ++ (s, a) ∷ []) (placed_at s row))
    ∙ ap (λ b. option_or (if b || list_any (is_too_late (s, a)) all then Some (act_start a) else None) (first_of (wrong_acts all (front ++ (s, a) ∷ []) (placed_at s row)))) (sym (h.acts a))
    ∙ ap (λ o. option_or (wrong_act all met (s, a)) o) (first_of_acts all (front ++ (s, a) ∷ []) forwarded (met ++ key_of a ∷ []) s row (shows_acts front forwarded met s (a ∷ []) h))

first_of_lines : (setting : Setting) (all front : List Placed) (forwarded : List Text) (met : List Key) (s : ℕ) (rest : List MicroItem) → Shows front forwarded met → first_of (wrong_lines setting all front forwarded s rest) ≡ first_wrong_line setting.all all met s rest
first_of_lines setting all front forwarded met s [] h = refl
first_of_lines setting all front forwarded met s (lines.Stage at name given ∷ more) h =
    first_of_append (wrong_acts all front (placed_at s given)) (wrong_lines setting all (front ++ placed_at s given) forwarded (s + 1) more)
    ∙ ap (λ o. option_or o (first_of (wrong_lines setting all (front ++ placed_at s given) forwarded (s + 1) more))) (first_of_acts all front forwarded met s given h)
    ∙ ap (λ o. option_or (first_wrong_act all met (placed_at s given)) o) (first_of_lines setting all (front ++ placed_at s given) forwarded (met ++ map key_of given) (s + 1) more (shows_acts front forwarded met s given h))
first_of_lines setting all front forwarded met s (lines.Forward at resource ∷ more) h =
    first_told (is_wrong_forward setting forwarded resource) at (wrong_lines setting all front (resource.text ∷ forwarded) s more)
    ∙ ap (λ b. option_or (if is_memory (item_named setting.all resource.text) || b then Some at else None) (first_of (wrong_lines setting all front (resource.text ∷ forwarded) s more))) (sym (h.forwards resource.text))
    ∙ ap (λ o. option_or (wrong_forward setting.all met at resource.text) o) (first_of_lines setting all front (resource.text ∷ forwarded) (met ++ (kinds.Forward, resource.text) ∷ []) s more (shows_forward front forwarded met resource.text h))

-- the first act or `forward` at fault of all lines
pub first_of_wrong_lines : (setting : Setting) (all : List MicroItem) → first_of (wrong_lines setting (acts_from 0 all) [] [] 0 all) ≡ first_wrong_line setting.all (acts_from 0 all) [] 0 all
first_of_wrong_lines setting all = first_of_lines setting (acts_from 0 all) [] [] [] 0 all shows_nothing
