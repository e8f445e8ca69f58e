-- Where there is an order nothing uses itself.
use Rattle.std.proofs.Common.{◌≡◌, ℕ, suc, ◌<◌, ◌≤◌, ◌⊎◌, inl, inr, Bool, true, false, ◌&&◌, List, [], ◌∷◌, ◌++◌, length, Option, Some, None, refl, sym, ap, subst, ◌∙◌, arith, true≢false, if◌then◌else◌}
use Rattle.std.specs.Prelude.{slice_get}
use Rattle.std.proofs.lemmas.Bool.{and_parts}
use Rattle.vg_ast.specs.declared.item.Item.{Item}
use Rattle.vg_ast.specs.declared.desc.Desc.{Desc}
use Rattle.vg_names.specs.Definition.{Text, item_named, is_among}
use Rattle.vg_names.specs.Duplicate.{duplicates}
use Rattle.vg_names.proofs.Texts.{among_cases}
use Rattle.vg_names.specs.Uses.{uses_of}
use Rattle.vg_names.specs.Cyclic.{is_replaced, Uses, Reaches, directly, through, text_of, names_of, may_follow, is_order_behind, IsOrder}
use Rattle.vg_names.proofs.Lookups.{user_replaced}
use Rattle.vg_names.proofs.Ordered.{own_item, replaced_ordered, used_before}

-- how many stand in an order from a name on
abbrev standing_from : List Item → List ℕ → Text → ℕ
standing_from all [] text = 0
standing_from all (k ∷ ks) text = if is_among text (text_of (slice_get all k)) then suc (length ks) else standing_from all ks text

at_most_all : (all : List Item) (order : List ℕ) (text : Text) → standing_from all order text ≤ length order
at_most_all all [] text = omega arith
at_most_all all (k ∷ ks) text = by (is_among text (text_of (slice_get all k))) (at_most_all all ks text)
  where
    by : (t : Bool) → standing_from all ks text ≤ length ks → (if t then suc (length ks) else standing_from all ks text) ≤ suc (length ks)
    by true h = omega arith
    by false h = omega arith

-- From the first name of an order on, all stand: one more than the n behind it. From any other name on, at most those n do.

first_longer : (x y : Bool) (i j n : ℕ) → x ≡ false → i ≤ n → y ≡ true → (if x then suc n else i) < (if y then suc n else j)
first_longer true y i j n other le same = absurd (true≢false other)
first_longer false true i j n other le same = omega arith
first_longer false false i j n other le same = absurd (true≢false (sym same))

still_longer : (x y : Bool) (i j n : ℕ) → x ≡ false → i ≤ n → i < j → (if x then suc n else i) < (if y then suc n else j)
still_longer true y i j n other le lt = absurd (true≢false other)
still_longer false true i j n other le lt = omega arith
still_longer false false i j n other le lt = lt

module _ (d : Desc) (distinct : duplicates d ≡ []) (a b : Text) (usage : Uses d.items a b) where
  -- what is used stands in front, or these numbers are those of an order in which more stand from it on than from its user
  abbrev Precedes : List Text → ℕ → ℕ → Type 0
  Precedes front i j = (is_among b front ≡ true) ⊎ (i < j)

  used_in_front : (front : List Text) (order : List ℕ) → is_order_behind d.items front order ≡ true → is_among a (names_of d.items order) ≡ true → Precedes front (standing_from d.items order a) (standing_from d.items order b)
  used_in_front front [] behind among = absurd (true≢false (sym among))
  used_in_front front (k ∷ ks) behind among = by (λ names. used_in_front names ks) (slice_get d.items k) refl behind among
    where
      by : ((names : List Text) → is_order_behind d.items names ks ≡ true → is_among a (names_of d.items ks) ≡ true → Precedes names (standing_from d.items ks a) (standing_from d.items ks b))
          → (o : Option Item) → slice_get d.items k ≡ o → (may_follow d.items front o && is_order_behind d.items (text_of o ++ front) ks) ≡ true → is_among a (text_of o ++ names_of d.items ks) ≡ true
          → Precedes front (if is_among a (text_of o) then suc (length ks) else standing_from d.items ks a) (if is_among b (text_of o) then suc (length ks) else standing_from d.items ks b)
      by again None at h e = absurd (true≢false (sym h))
      by again (Some item) at h e = cases (is_among a (text_of (Some item))) refl
        where
          follows : may_follow d.items front (Some item) ≡ true
          follows = (and_parts (may_follow d.items front (Some item)) (is_order_behind d.items (text_of (Some item) ++ front) ks) h).0

          cases : (x : Bool) → is_among a (text_of (Some item)) ≡ x
              → Precedes front (if is_among a (text_of (Some item)) then suc (length ks) else standing_from d.items ks a) (if is_among b (text_of (Some item)) then suc (length ks) else standing_from d.items ks b)
          cases true own =
              let named : Some item ≡ Some usage.user = sym (own_item d k item a distinct at own) ∙ usage.found in
              let same : usage.user ≡ item = cc in
              inl (used_before d.items front item b follows (ap (λ (i : Item). is_among b (uses_of i)) (sym same) ∙ usage.used) usage.replaced)
          cases false other =
              let rest = among_cases (is_among a (names_of d.items ks) ≡ true) a (text_of (Some item)) (names_of d.items ks) (λ own. absurd (true≢false (sym own ∙ other))) (λ behind. behind) e in
              let le = at_most_all d.items ks a in
              let x = is_among a (text_of (Some item)) in
              let y = is_among b (text_of (Some item)) in
              elim (again (text_of (Some item) ++ front) (and_parts (may_follow d.items front (Some item)) (is_order_behind d.items (text_of (Some item) ++ front) ks) h).1 rest) [
                | inl before ↦ among_cases (Precedes front (if is_among a (text_of (Some item)) then suc (length ks) else standing_from d.items ks a) (if is_among b (text_of (Some item)) then suc (length ks) else standing_from d.items ks b))
                    b (text_of (Some item)) front (λ here. inr (first_longer x y (standing_from d.items ks a) (standing_from d.items ks b) (length ks) other le here)) (λ there. inl there) before
                | inr lt ↦ inr (still_longer x y (standing_from d.items ks a) (standing_from d.items ks b) (length ks) other le lt)
              ]

  used_stands_longer : (order : List ℕ) → IsOrder d.items order → standing_from d.items order a < standing_from d.items order b
  used_stands_longer order is =
      let user = usage.user in
      let named : is_replaced (item_named d.items a) ≡ true = ap is_replaced usage.found ∙ user_replaced user b usage.used in
      elim (used_in_front [] order is.behind (replaced_ordered d.items order is a named)) [ inl none ↦ absurd (true≢false (sym none)) | inr lt ↦ lt ]

reached_stands_longer : (d : Desc) (order : List ℕ) → duplicates d ≡ [] → IsOrder d.items order → {a b : Text} → Reaches d.items a b → standing_from d.items order a < standing_from d.items order b
reached_stands_longer d order distinct is {a} {b} (directly usage) = used_stands_longer d distinct a b usage order is
reached_stands_longer d order distinct is {a} {b} (through {b = middle} usage way) =
    let first = used_stands_longer d distinct a middle usage order is in
    let rest = reached_stands_longer d order distinct is way in
    omega arith

-- where there is an order nothing uses itself
pub none_reaches_itself : (d : Desc) (order : List ℕ) (a : Text) → duplicates d ≡ [] → IsOrder d.items order → Reaches d.items a a → ⊥
none_reaches_itself d order a distinct is way = let longer = reached_stands_longer d order distinct is way in omega arith
