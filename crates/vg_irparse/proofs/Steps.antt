-- One step of each loop over a text.
use Rattle.std.proofs.Common.{◌≡◌, ℕ, ◌+◌, ◌*◌, ◌<◌, ◌≤◌, Bool, true, false, cond, eqb, nat_eq, List, [], ◌∷◌, length, get_or, drop, ◌-◌, refl, sym, ap, ◌∙◌, arith, length-drop}
use Rattle.std.proofs.lemmas.List.{at_drop_more, at_drop_all, drop_more, drop_all}
use Rattle.std.proofs.lemmas.Bool.Decides.{nat_tests}
use Rattle.vg_irlex.specs.Lexing.{is_nil, ends_quote}
use Rattle.vg_irparse.specs.Text.{value_from}

pub ends_quote-drop : (text : List ℕ) (i : ℕ) → i < length text
    → ends_quote (drop i text) ≡ cond (eqb (get_or text i 0) 34) (is_nil (drop (i + 1) text)) (ends_quote (drop (i + 1) text))
ends_quote-drop text i h = at_drop_more ends_quote text i 0 h

pub ends_quote-end : (text : List ℕ) (i : ℕ) → length text ≤ i → ends_quote (drop i text) ≡ false
ends_quote-end text i h = at_drop_all ends_quote text i h

last_drop : (text : List ℕ) (i : ℕ) → i < length text → (b : Bool) → nat_eq (i + 1) (length text) ≡ b → nat_eq (length (drop (i + 1) text)) 0 ≡ b
last_drop text i h true e = rw length-drop (let k : i + 1 ≡ length text = grind (arith, nat_tests) in grind (arith, nat_tests))
last_drop text i h false e = rw length-drop (grind (arith, nat_tests))

is_nil-by : (text : List ℕ) (b : Bool) → nat_eq (length text) 0 ≡ b → is_nil text ≡ b
is_nil-by [] b h = h
is_nil-by (c ∷ cs) true h = absurd (let e : length (c ∷ cs) ≡ 0 = grind (arith, nat_tests) in omega (arith, e))
is_nil-by (c ∷ cs) false h = refl

-- nothing stands behind the last byte
pub is_nil-drop : (text : List ℕ) (i : ℕ) → i < length text → is_nil (drop (i + 1) text) ≡ nat_eq (i + 1) (length text)
is_nil-drop text i h = is_nil-by (drop (i + 1) text) _ (last_drop text i h (nat_eq (i + 1) (length text)) refl)

pub ruleset quote_steps = (ends_quote-drop, ends_quote-end, is_nil-drop)

pub value_from-drop : (text : List ℕ) (n i : ℕ) → i < length text → value_from n (drop i text) ≡ value_from (n * 10 + (get_or text i 0 - 48)) (drop (i + 1) text)
value_from-drop text n i h = at_drop_more (value_from n) text i 0 h

pub value_from-end : (text : List ℕ) (n i : ℕ) → length text ≤ i → value_from n (drop i text) ≡ n
value_from-end text n i h = at_drop_all (value_from n) text i h

pub value_from-le : (n : ℕ) (cs : List ℕ) → n ≤ value_from n cs
value_from-le n [] = omega arith
value_from-le n (c ∷ cs) = let e = value_from-le (n * 10 + (c - 48)) cs in omega (arith, e)

pub ruleset value_steps = (value_from-drop, value_from-end, value_from-le)
