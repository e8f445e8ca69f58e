-- The first place of lists one behind the other.
use Rattle.std.proofs.Common.{◌≡◌, ℕ, ◌+◌, ◌<◌, List, [], ◌∷◌, ◌++◌, length, drop, get_or, add-one, drop-cons, Option, Some, None, refl, ap, sym, ◌∙◌}
use Rattle.std.specs.Option.{option_or}
use Rattle.vg_ast.specs.declared.item.Item.{Item}
use Rattle.vg_ast.specs.declared.desc.Desc.{Desc}
use Rattle.vg_names.specs.First.{first_of}
use Rattle.vg_names.specs.Unknown.{in_each, item_unknowns, lacking, abi_unknowns, micro_unknowns, unknowns}

-- without a first place there is none
pub nothing_first : (places : List ℕ) → first_of places ≡ None → places ≡ []
nothing_first [] e = refl
nothing_first (at ∷ more) e = absurd (cc)

pub first_of_append : (xs ys : List ℕ) → first_of (xs ++ ys) ≡ option_or (first_of xs) (first_of ys)
first_of_append [] ys = refl
first_of_append (x ∷ xs) ys = refl

-- the first place stands in the second list, where the first has none
pub first_behind : (xs ys : List ℕ) → first_of xs ≡ None → first_of (xs ++ ys) ≡ first_of ys
first_behind xs ys h = first_of_append xs ys ∙ ap (λ o. option_or o (first_of ys)) h

pub first_within : (xs ys : List ℕ) (at : ℕ) → first_of xs ≡ Some at → first_of (xs ++ ys) ≡ Some at
first_within xs ys at h = first_of_append xs ys ∙ ap (λ o. option_or o (first_of ys)) h

pub first_of_three : (xs ys zs : List ℕ) → first_of ((xs ++ ys) ++ zs) ≡ option_or (option_or (first_of xs) (first_of ys)) (first_of zs)
first_of_three xs ys zs = first_of_append (xs ++ ys) zs ∙ ap (λ o. option_or o (first_of zs)) (first_of_append xs ys)

pub first_of_four : (ws xs ys zs : List ℕ) → first_of (((ws ++ xs) ++ ys) ++ zs) ≡ option_or (option_or (option_or (first_of ws) (first_of xs)) (first_of ys)) (first_of zs)
first_of_four ws xs ys zs = first_of_append ((ws ++ xs) ++ ys) zs ∙ ap (λ o. option_or o (first_of zs)) (first_of_three ws xs ys)

-- what the code puts together of the first places of parts
pub three_options : (o ab a b c x y z : Option ℕ) → o ≡ option_or ab c → ab ≡ option_or a b → a ≡ x → b ≡ y → c ≡ z → o ≡ option_or (option_or x y) z
three_options o ab a b c x y z e f g h k = e ∙ ap (λ v. option_or v c) (f ∙ ap (λ v. option_or v b) g ∙ ap (option_or x) h) ∙ ap (option_or (option_or x y)) k

pub unknowns_of_parts : (d : Desc) (all : List Item) (o abc ab a b c e : Option ℕ) → all ≡ d.items → o ≡ option_or abc e → abc ≡ option_or ab c → ab ≡ option_or a b
    → a ≡ first_of (in_each (item_unknowns all) all) → b ≡ first_of (lacking all d.close) → c ≡ first_of (abi_unknowns all d.name d.abi) → e ≡ first_of (micro_unknowns all d.name d.micro)
    → o ≡ first_of (unknowns d)
unknowns_of_parts d all o abc ab a b c e same joined_four joined_three joined_two first second third fourth =
    joined_four
    ∙ ap (λ v. option_or v e) (three_options abc ab a b c _ _ _ joined_three joined_two first second third)
    ∙ ap (option_or (option_or (option_or (first_of (in_each (item_unknowns all) all)) (first_of (lacking all d.close))) (first_of (abi_unknowns all d.name d.abi)))) fourth
    ∙ ap (λ (xs : List Item). option_or (option_or (option_or (first_of (in_each (item_unknowns xs) xs)) (first_of (lacking xs d.close))) (first_of (abi_unknowns xs d.name d.abi))) (first_of (micro_unknowns xs d.name d.micro))) same
    ∙ sym (first_of_four (in_each (item_unknowns d.items) d.items) (lacking d.items d.close) (abi_unknowns d.items d.name d.abi) (micro_unknowns d.items d.name d.micro))

-- The places in each of a list, from one of its elements on.
module _ {X : Type 0} (places : X → List ℕ) (xs : List X) (i : ℕ) (x : X) (within : i < length xs) (is : x ≡ get_or xs i x) (left : first_of (in_each places xs) ≡ first_of (in_each places (drop i xs))) where
  each_drop : in_each places (drop i xs) ≡ places x ++ in_each places (drop (i + 1) xs)
  each_drop =
      ap (in_each places) (drop-cons xs i x within) ∙ ap (λ n. places (get_or xs i x) ++ in_each places (drop n xs)) (sym (add-one i))
      ∙ ap (λ y. places y ++ in_each places (drop (i + 1) xs)) (sym is)

  from_one : first_of (in_each places xs) ≡ option_or (first_of (places x)) (first_of (in_each places (drop (i + 1) xs)))
  from_one = left ∙ ap first_of each_drop ∙ first_of_append (places x) (in_each places (drop (i + 1) xs))

  -- the first place stands behind an element that has none
  pub each_behind : None ≡ first_of (places x) → first_of (in_each places xs) ≡ first_of (in_each places (drop (i + 1) xs))
  each_behind none = from_one ∙ ap (λ o. option_or o (first_of (in_each places (drop (i + 1) xs)))) (sym none)

  pub each_within : (at : ℕ) → Some at ≡ first_of (places x) → Some at ≡ first_of (in_each places xs)
  each_within at some = sym (from_one ∙ ap (λ o. option_or o (first_of (in_each places (drop (i + 1) xs)))) (sym some))

pub ruleset first_steps = (first_of_append, first_behind, first_within)
