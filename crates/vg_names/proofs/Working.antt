-- Working out the items in an order in which each stands behind all that it uses.
use borrow.Author.Tests.{eqb-true}
use Rattle.std.proofs.Common.{eq-eqb, ◌≡◌, ℕ, zero, suc, ◌+◌, ◌<◌, ◌≤◌, inl, inr, Bool, true, false, ◌&&◌, ◌||◌, not, nat_eq, List, [], ◌∷◌, ◌++◌, length, set, get_or, drop, replicate, Option, Some, None, refl, sym, ap, subst, ◌∙◌, arith, true≢false}
use Rattle.std.specs.Prelude.{slice_get}
use Rattle.std.specs.List.{All, AllByRecursion, list_all, list_any, IsDistinct}
use Rattle.std.proofs.lemmas.List.{length-set, length-replicate, get_or-set_same, get_or-set_other, drop_more}
use Rattle.std.proofs.lemmas.Bool.{and_parts}
use Rattle.std.proofs.Math.Dec.{eqb}
use Rattle.std.proofs.lemmas.Map.Steps.{length-le_from_distinct_below}
use Rattle.std.proofs.lemmas.Option.{slice_get_within, slice_get-get_or}
use Rattle.vg_ast.specs.declared.name.Name.{Name}
use Rattle.vg_ast.specs.declared.item.Item.{Item}
use Rattle.vg_ast.specs.declared.desc.Desc.{Desc}
use Rattle.vg_names.specs.Definition.{Text, item_named, is_among}
use Rattle.vg_names.specs.Duplicate.{duplicates}
use Rattle.vg_names.proofs.Texts.{among_first, among_left, among_right, among_cases, among_moved, among_all}
use Rattle.vg_names.specs.Numbers.{number_named}
use Rattle.vg_names.specs.Uses.{uses_of}
use Rattle.vg_names.specs.Cyclic.{replaced_name, has_name, is_replaced, text_of, text_of_name, names_of, is_before, is_fresh, may_follow, is_order_behind, IsOrder}
use Rattle.vg_names.specs.Worked.{Step, worked_within, worked, value_at, value_by, IsStep, IsWorked}
use Rattle.vg_names.proofs.Lookups.{item_of_number}
use Rattle.vg_names.proofs.Ordered.{used_before, own_named, replaced_ordered, nothing_left, ordered}

-- ---- an order is no longer than the list of the items

-- what may follow is put in place of its name, which doesn't stand in front
follows_named : (all : List Item) (front : List Text) (k : ℕ) → may_follow all front (slice_get all k) ≡ true → (item : Item) × (name : Name) × (slice_get all k ≡ Some item) × (replaced_name item ≡ Some name) × (is_among name.text front ≡ false)
follows_named all front k e = by (slice_get all k) refl e
  where
    fresh : (item : Item) (o : Option Name) → replaced_name item ≡ o → is_fresh front o ≡ true → (name : Name) × (replaced_name item ≡ Some name) × (is_among name.text front ≡ false)
    fresh item None r h = absurd (true≢false (sym h))
    fresh item (Some name) r h = (name, r, not_among (is_among name.text front) refl h)
      where
        not_among : (b : Bool) → is_among name.text front ≡ b → not b ≡ true → b ≡ false
        not_among true a h = absurd (true≢false (sym h))
        not_among false a h = refl

    by : (o : Option Item) → slice_get all k ≡ o → may_follow all front o ≡ true → (item : Item) × (name : Name) × (slice_get all k ≡ Some item) × (replaced_name item ≡ Some name) × (is_among name.text front ≡ false)
    by None at h = absurd (true≢false (sym h))
    by (Some item) at h =
        let f = fresh item (replaced_name item) refl (and_parts (is_fresh front (replaced_name item)) (list_all (is_before all front) (uses_of item)) h).0 in
        (item, f.0, at, f.1, f.2)

-- a number whose name stands in front isn't in an order behind it
absent : (all : List Item) (front : List Text) (ks : List ℕ) (k : ℕ) (item : Item) (name : Name) → slice_get all k ≡ Some item → replaced_name item ≡ Some name → is_among name.text front ≡ true → is_order_behind all front ks ≡ true → AllByRecursion (λ (y : ℕ). eqb k y ≡ false) ks
absent all front [] k item name at named among behind = tt
absent all front (j ∷ ks) k item name at named among behind =
    let parts = and_parts (may_follow all front (slice_get all j)) (is_order_behind all (text_of (slice_get all j) ++ front) ks) behind in
    (by (follows_named all front j parts.0) (eqb k j) refl, absent all (text_of (slice_get all j) ++ front) ks k item name at named (among_right name.text (text_of (slice_get all j)) front among) parts.1)
  where
    owner : Option Item → Option Name
    owner None = None
    owner (Some x) = replaced_name x

    is_owned : Option Name → Bool
    is_owned None = false
    is_owned (Some n) = is_among n.text front

    by : (item : Item) × (other : Name) × (slice_get all j ≡ Some item) × (replaced_name item ≡ Some other) × (is_among other.text front ≡ false) → (b : Bool) → eqb k j ≡ b → b ≡ false
    by f true e =
        let same : Some item ≡ Some f.0 = sym at ∙ ap (slice_get all) (eqb-true k j e) ∙ f.2 in
        let one : Some name ≡ Some f.1 = sym named ∙ ap owner same ∙ f.3 in
        absurd (true≢false (sym among ∙ ap is_owned one ∙ f.4))
    by f false e = refl

distinct_below : (all : List Item) (front : List Text) (ks : List ℕ) → is_order_behind all front ks ≡ true → IsDistinct eqb ks × ((q : ℕ) → list_any (eqb q) ks ≡ true → q < length all)
unfolding IsDistinct
distinct_below all front [] behind = (tt, λ q e. absurd (true≢false (sym e)))
distinct_below all front (k ∷ ks) behind =
    let parts = and_parts (may_follow all front (slice_get all k)) (is_order_behind all (text_of (slice_get all k) ++ front) ks) behind in
    let f = follows_named all front k parts.0 in
    let own : is_among f.1.text (text_of (slice_get all k) ++ front) ≡ true = ap (λ (o : Option Item). is_among f.1.text (text_of o ++ front)) f.2 ∙ ap (λ (o : Option Name). is_among f.1.text (text_of_name o ++ front)) f.3 ∙ among_first f.1.text front in
    let more = distinct_below all (text_of (slice_get all k) ++ front) ks parts.1 in
    ((absent all (text_of (slice_get all k) ++ front) ks k f.0 f.1 f.2 f.3 own parts.1, more.0), λ q. by q (eqb q k) refl f.0 f.2 more.1)
  where
    by : (q : ℕ) (b : Bool) → eqb q k ≡ b → (item : Item) → slice_get all k ≡ Some item → ((q : ℕ) → list_any (eqb q) ks ≡ true → q < length all) → (b || list_any (eqb q) ks) ≡ true → q < length all
    by q true e item at more h = subst (λ (i : ℕ). i < length all) (sym (eqb-true q k e)) (slice_get_within all k item at)
    by q false e item at more h = more q h

pub order_short : (all : List Item) (order : List ℕ) → IsOrder all order → length order ≤ length all
order_short all order is = let d = distinct_below all [] order is.behind in length-le_from_distinct_below order (length all) d.0 d.1

behind_within : (all : List Item) (order : List ℕ) (front : List Text) → is_order_behind all front order ≡ true → (i d : ℕ) → i < length order → get_or order i d < length all
behind_within all [] front h i d l = absurd (omega arith)
behind_within all (k ∷ ks) front h zero d l =
    let f = follows_named all front k (and_parts (may_follow all front (slice_get all k)) (is_order_behind all (text_of (slice_get all k) ++ front) ks) h).0 in
    slice_get_within all k f.0 f.2
behind_within all (k ∷ ks) front h (suc i) d l =
    let less : i < length ks = omega arith in
    behind_within all ks (text_of (slice_get all k) ++ front) (and_parts (may_follow all front (slice_get all k)) (is_order_behind all (text_of (slice_get all k) ++ front) ks) h).1 i d less

-- the numbers of an order are those of items
pub order_within : (d : Desc) (all : List Item) (order : List ℕ) → all ≡ d.items → IsOrder d.items order → All (λ (k : ℕ). k < length all) order
order_within d all order same is = subst (λ (l : List Item). All (λ (k : ℕ). k < length l) order) (sym same) (behind_within d.items order [] is.behind)

pub plain_list : {X : Type 0} (plain : X) (n k : ℕ) → get_or (replicate n plain) k plain ≡ plain
plain_list plain zero k = refl
plain_list plain (suc n) zero = refl
plain_list plain (suc n) (suc k) = plain_list plain n k

-- ---- what is worked out is what each step makes, and nothing else is

module _ (X : Type 0) (plain : X) (step : Step X) (is_step : IsStep X plain step) (d : Desc) (distinct : duplicates d ≡ []) where
  abbrev W : ℕ → Text → X
  W n = worked_within d.items plain step n

  -- from here on the name stands for the same
  abbrev Settled : ℕ → Text → Type 0
  Settled n text = (m : ℕ) → n ≤ m → W (suc m) text ≡ W m text

  unreplaced : (m : ℕ) (text : Text) → is_replaced (item_named d.items text) ≡ false → W m text ≡ plain
  unreplaced zero text e = refl
  unreplaced (suc m) text e = is_step.plainly (W m) (item_named d.items text) e

  next : (n : ℕ) (item : Item) (text : Text) → item_named d.items text ≡ Some item → ((used : Text) → is_among used (uses_of item) ≡ true → is_replaced (item_named d.items used) ≡ true → Settled n used) → Settled (suc n) text
  next n item text named settled zero le = absurd (omega arith)
  next n item text named settled (suc m) le =
      ap (step (W (suc m))) named ∙ is_step.locally (W (suc m)) (W m) item (λ used among. by used among (is_replaced (item_named d.items used)) refl) ∙ sym (ap (step (W m)) named)
    where
      by : (used : Text) → is_among used (uses_of item) ≡ true → (b : Bool) → is_replaced (item_named d.items used) ≡ b → W (suc m) used ≡ W m used
      by used among true e = settled used among e m (omega arith)
      by used among false e = unreplaced (suc m) used e ∙ sym (unreplaced m used e)

  pub is_worked : (order : List ℕ) → IsOrder d.items order → IsWorked d.items step (worked d.items plain step)
  unfolding worked
  is_worked order is text = sym (by (is_replaced (item_named d.items text)) refl)
    where
      by : (b : Bool) → is_replaced (item_named d.items text) ≡ b → W (suc (length d.items)) text ≡ W (length d.items) text
      by true e = ordered d distinct Settled (λ a b t le h m at. h m (omega arith)) next order is text e (length d.items) (order_short d.items order is)
      by false e = unreplaced (suc (length d.items)) text e ∙ sym (unreplaced (length d.items) text e)

  pub only_one : (order : List ℕ) → IsOrder d.items order → (F G : Text → X) → IsWorked d.items step F → IsWorked d.items step G → (text : Text) → F text ≡ G text
  only_one order is F G of_F of_G text = by (is_replaced (item_named d.items text)) refl
    where
      plainly : (t : Text) → is_replaced (item_named d.items t) ≡ false → F t ≡ G t
      plainly t e = of_F t ∙ is_step.plainly F (item_named d.items t) e ∙ sym (of_G t ∙ is_step.plainly G (item_named d.items t) e)

      same : (n : ℕ) (item : Item) (t : Text) → item_named d.items t ≡ Some item → ((used : Text) → is_among used (uses_of item) ≡ true → is_replaced (item_named d.items used) ≡ true → F used ≡ G used) → F t ≡ G t
      same n item t named agree = of_F t ∙ ap (step F) named ∙ is_step.locally F G item (λ used among. used_same used among (is_replaced (item_named d.items used)) refl) ∙ sym (of_G t ∙ ap (step G) named)
        where
          used_same : (used : Text) → is_among used (uses_of item) ≡ true → (b : Bool) → is_replaced (item_named d.items used) ≡ b → F used ≡ G used
          used_same used among true e = agree used among e
          used_same used among false e = plainly used e

      by : (b : Bool) → is_replaced (item_named d.items text) ≡ b → F text ≡ G text
      by true e = ordered d distinct (λ n t. F t ≡ G t) (λ a b t le h. h) same order is text e
      by false e = plainly text e

-- ---- in a list, one item behind the other

-- How far the items have been worked out: those whose names stand in front are.
pub record IsWorking (X : Type 0) (plain : X) (all : List Item) (F : Text → X) (list : List X) (front : List Text) (rest : List ℕ) : Type 0 where
  pub one_each : length list ≡ length all
  pub plainly : (k : ℕ) → is_replaced (slice_get all k) ≡ false → value_at plain list (Some k) ≡ plain
  pub behind : is_order_behind all front rest ≡ true
  pub worked_out : (text : Text) → is_among text front ≡ true → value_by plain all list text ≡ F text
  pub complete : (text : Text) → is_replaced (item_named all text) ≡ true → (is_among text front || is_among text (names_of all rest)) ≡ true

decide : (o : Option ℕ) (k : ℕ) → (b : Bool) × (b ≡ true → o ≡ Some k) × (b ≡ false → o ≡ Some k → ⊥)
decide None k = (false, λ e. absurd (true≢false (sym e)), λ e h. absurd (cc))
decide (Some j) k = (nat_eq j k, (λ e. ap (λ (i : ℕ). Some i) (eqb-true j k e)), (λ e h. (let same : j ≡ k = cc in true≢false (sym (eq-eqb j k same) ∙ e))))

module _ (X : Type 0) (plain : X) (step : Step X) (is_step : IsStep X plain step) where
  unreplaced_in : (all : List Item) (F : Text → X) (list : List X) (front : List Text) (rest : List ℕ) → IsWorking X plain all F list front rest → (text : Text) → is_replaced (item_named all text) ≡ false → value_by plain all list text ≡ plain
  unreplaced_in all F list front rest w text e = by (number_named all text) refl
    where
      by : (o : Option ℕ) → number_named all text ≡ o → value_at plain list o ≡ plain
      by None n = refl
      by (Some k) n = w.plainly k (ap is_replaced (item_of_number all text k n) ∙ e)

  written_other : (list : List X) (k : ℕ) (v : X) (o : Option ℕ) → (o ≡ Some k → ⊥) → value_at plain (set list k v) o ≡ value_at plain list o
  written_other list k v None h = refl
  written_other list k v (Some j) h = get_or-set_other list k j v plain (λ e. h (ap (λ (i : ℕ). Some i) e))

  -- one more
  module _ (d : Desc) (F : Text → X) (are : IsWorked d.items step F) (distinct : duplicates d ≡ []) (list : List X) (front : List Text) (k : ℕ) (ks : List ℕ) (w : IsWorking X plain d.items F list front (k ∷ ks)) (item : Item) (at : slice_get d.items k ≡ Some item) (v : X) (value : v ≡ step (value_by plain d.items list) (Some item)) where
    may_follow_behind : (may_follow d.items front (Some item) && is_order_behind d.items (text_of (Some item) ++ front) ks) ≡ true
    may_follow_behind = ap (λ (o : Option Item). may_follow d.items front o && is_order_behind d.items (text_of o ++ front) ks) (sym at) ∙ w.behind

    follows : may_follow d.items front (Some item) ≡ true
    follows = (and_parts (may_follow d.items front (Some item)) (is_order_behind d.items (text_of (Some item) ++ front) ks) may_follow_behind).0

    replaced : is_replaced (slice_get d.items k) ≡ true
    replaced =
        let f = follows_named d.items front k (ap (may_follow d.items front) at ∙ follows) in
        ap is_replaced f.2 ∙ ap has_name f.3

    known_value : v ≡ step F (Some item)
    known_value = value ∙ is_step.locally (value_by plain d.items list) F item (λ used among. by used among (is_replaced (item_named d.items used)) refl)
      where
        by : (used : Text) → is_among used (uses_of item) ≡ true → (b : Bool) → is_replaced (item_named d.items used) ≡ b → value_by plain d.items list used ≡ F used
        by used among true e = w.worked_out used (used_before d.items front item used follows among e)
        by used among false e = unreplaced_in d.items F list front (k ∷ ks) w used e ∙ sym (are used ∙ is_step.plainly F (item_named d.items used) e)

    inside : k < length list
    inside = let h : k < length d.items = slice_get_within d.items k item at in let e : length list ≡ length d.items = w.one_each in omega arith

    still_plain : (j : ℕ) → is_replaced (slice_get d.items j) ≡ false → value_at plain (set list k v) (Some j) ≡ plain
    still_plain j e = by (nat_eq j k) refl
      where
        by : (b : Bool) → nat_eq j k ≡ b → value_at plain (set list k v) (Some j) ≡ plain
        by true same = absurd (true≢false (sym (ap (λ (i : ℕ). is_replaced (slice_get d.items i)) (eqb-true j k same) ∙ replaced) ∙ e))
        by false other = get_or-set_other list k j v plain (λ same. true≢false (sym (eq-eqb j k same) ∙ other)) ∙ w.plainly j e

    still_worked : (text : Text) → is_among text (text_of (Some item) ++ front) ≡ true → value_by plain d.items (set list k v) text ≡ F text
    still_worked text among = by (decide (number_named d.items text) k).0 refl
      where
        by : (b : Bool) → (decide (number_named d.items text) k).0 ≡ b → value_by plain d.items (set list k v) text ≡ F text
        by true is =
            let number : number_named d.items text ≡ Some k = (decide (number_named d.items text) k).1 is in
            ap (value_at plain (set list k v)) number ∙ get_or-set_same list k v plain inside ∙ known_value
            ∙ ap (step F) (sym at ∙ item_of_number d.items text k number) ∙ sym (are text)
        by false is =
            let other = (decide (number_named d.items text) k).2 is in
            written_other list k v (number_named d.items text) other
            ∙ among_cases (value_by plain d.items list text ≡ F text) text (text_of (Some item)) front (λ own. absurd (other (own_named d k item text distinct at own))) (w.worked_out text) among

    one_more : IsWorking X plain d.items F (set list k v) (text_of (Some item) ++ front) ks
    one_more = record {
      one_each = length-set list k v ∙ w.one_each;
      plainly = still_plain;
      behind = (and_parts (may_follow d.items front (Some item)) (is_order_behind d.items (text_of (Some item) ++ front) ks) may_follow_behind).1;
      worked_out = still_worked;
      complete = λ text e. among_moved text (text_of (Some item)) front (names_of d.items ks) (ap (λ (o : Option Item). is_among text front || is_among text (text_of o ++ names_of d.items ks)) (sym at) ∙ w.complete text e);
    }

  -- The loop over an order.

  abbrev pub Worked : List Item → List X → List ℕ → Type 0
  Worked all list rest = (front : List Text) × IsWorking X plain all (worked all plain step) list front rest

  pub worked_start : (d : Desc) (all : List Item) (order : List ℕ) → all ≡ d.items → IsOrder d.items order → Worked all (replicate (length all) plain) order
  worked_start d all order same is = (
    [],
    record {
      one_each = length-replicate (length all) plain;
      plainly = λ k e. plain_list plain (length all) k;
      behind = ordered_items.behind;
      worked_out = λ text e. absurd (true≢false (sym e));
      complete = λ text e. replaced_ordered all order ordered_items text e;
    },
  )
    where
      ordered_items : IsOrder all order
      ordered_items = subst (λ (l : List Item). IsOrder l order) (sym same) is

  pub worked_step : (d : Desc) (all : List Item) (order : List ℕ) (list : List X) (i : ℕ) (x : Item) (v : X) → all ≡ d.items → duplicates d ≡ [] → IsOrder d.items order
      → All (λ (k : ℕ). k < length all) order → Worked all list (drop i order) → i < length order
      → v ≡ step (value_by plain all list) (Some (get_or all (get_or order i 0) x)) → Worked all (set list (get_or order i 0) v) (drop (i + 1) order)
  worked_step d all order list i x v same distinct is numbers w h value =
      let k = get_or order i 0 in
      let item = get_or all k x in
      let at : slice_get all k ≡ Some item = slice_get-get_or all k x (numbers i 0 h) in
      let now : IsWorking X plain all (worked all plain step) list w.0 (k ∷ drop (i + 1) order) = subst (IsWorking X plain all (worked all plain step) list w.0) (drop_more order i 0 h) w.1 in (
        text_of (Some item) ++ w.0,
        by all same at now value,
      )
    where
      by : (l : List Item) → l ≡ d.items → slice_get l (get_or order i 0) ≡ Some (get_or all (get_or order i 0) x) → IsWorking X plain l (worked l plain step) list w.0 (get_or order i 0 ∷ drop (i + 1) order)
          → v ≡ step (value_by plain l list) (Some (get_or all (get_or order i 0) x))
          → IsWorking X plain l (worked l plain step) (set list (get_or order i 0) v) (text_of (Some (get_or all (get_or order i 0) x)) ++ w.0) (drop (i + 1) order)
      by l e = subst (λ (l : List Item). slice_get l (get_or order i 0) ≡ Some (get_or all (get_or order i 0) x) → IsWorking X plain l (worked l plain step) list w.0 (get_or order i 0 ∷ drop (i + 1) order)
          → v ≡ step (value_by plain l list) (Some (get_or all (get_or order i 0) x))
          → IsWorking X plain l (worked l plain step) (set list (get_or order i 0) v) (text_of (Some (get_or all (get_or order i 0) x)) ++ w.0) (drop (i + 1) order)) (sym e)
          (λ at now value. one_more d (worked d.items plain step) (is_worked X plain step is_step d distinct order is) distinct list w.0 (get_or order i 0) (drop (i + 1) order) now (get_or all (get_or order i 0) x) at v value)

  pub worked_end : (d : Desc) (all : List Item) (order : List ℕ) (list : List X) (i : ℕ) → all ≡ d.items → duplicates d ≡ [] → IsOrder d.items order → Worked all list (drop i order) → (i < length order → ⊥)
      → value_by plain all list ≡ worked all plain step
  worked_end d all order list i same distinct is w h =
      let are : IsWorked all step (worked all plain step) = subst (λ (l : List Item). IsWorked l step (worked l plain step)) (sym same) (is_worked X plain step is_step d distinct order is) in
      let last : IsWorking X plain all (worked all plain step) list w.0 [] = subst (IsWorking X plain all (worked all plain step) list w.0) (nothing_left order i h) w.1 in
      λ j text. finished are last text j
    where
      finished : IsWorked all step (worked all plain step) → IsWorking X plain all (worked all plain step) list w.0 [] → (text : Text) → value_by plain all list text ≡ worked all plain step text
      finished are last text = by (is_replaced (item_named all text)) refl
        where
          by : (b : Bool) → is_replaced (item_named all text) ≡ b → value_by plain all list text ≡ worked all plain step text
          by true e = last.worked_out text (among_all text w.0 (last.complete text e))
          by false e = unreplaced_in all (worked all plain step) list w.0 [] last text e ∙ sym (are text ∙ is_step.plainly (worked all plain step) (item_named all text) e)
