-- The rules of the binary interface, put together.
use Rattle.std.proofs.Common.{◌≡◌, ℕ, ◌+◌, ◌^◌, ◌<◌, ◌≤◌, Bool, true, false, not, ◌&&◌, ◌||◌, nat_eq, nat_lt, List, [], ◌∷◌, ◌++◌, length, take, drop, get_or, map, Some, refl, ap, sym, ◌∙◌, arith}
use Rattle.std.specs.List.{list_all, list_any}
use Rattle.std.proofs.lemmas.Bool.{false_from_ne_true, true≢false}
use Rattle.std.proofs.lemmas.Bool.Decides.{nat_tests}
use Rattle.std.proofs.lemmas.List.{take_more}
use Rattle.vg_ast.specs.declared.register.Register.{Register}
use Rattle.vg_ast.specs.declared.role.Role.{Role}
use Rattle.vg_names.specs.First.{first_of}
use Rattle.vg_names.proofs.Texts.{own_text}
use Rattle.vg_type.specs.Item.{Setting}
use Rattle.vg_type.specs.Judged.{told}
use Rattle.vg_type.specs.Scope.{address_width}
use Rattle.vg_tree.specs.Number.{width_or}
use Rattle.vg_declare.specs.AbiRole.{are_complete, are_kept, are_of_one_file, broken_roles, is_good, is_rising, layout_of, role_number, role_start, same_file}
use Rattle.vg_declare.specs.AbiPart.{are_below, bases_of}
use Rattle.vg_declare.specs.Registers.{first_register, is_right}
use Rattle.vg_declare.proofs.MaskLemmas.{all_below, each_below}
use Rattle.vg_declare.proofs.RangeLemmas.{rest_is}

-- ---- registers

list_all_both : {X : Type 0} (p q : X → Bool) (xs : List X) → list_all (λ x. p x && q x) xs ≡ (list_all p xs && list_all q xs)
list_all_both p q [] = refl
list_all_both p q (x ∷ xs) = ap (λ t. (p x && q x) && t) (list_all_both p q xs) ∙ four (p x) (q x) (list_all p xs) (list_all q xs)
  where
    four : (a b c d : Bool) → ((a && b) && (c && d)) ≡ ((a && c) && (b && d))
    four true true c d = refl
    four true false true d = refl
    four true false false d = refl
    four false b c d = refl

good_beside : (setting : Setting) (first : Register) (more : List Register) → list_all (is_right setting first) (first ∷ more) ≡ (list_all (is_good setting) (first ∷ more) && are_of_one_file (first ∷ more))
good_beside setting first more =
    list_all_both (is_good setting) (same_file first) (first ∷ more)
    ∙ ap (λ t. list_all (is_good setting) (first ∷ more) && (t && list_all (same_file first) more)) (own_text first.file.text)

same_first : (first register : Register) → Some first ≡ Some register → first ≡ register
same_first first register e = cc

pub good_with : (setting : Setting) (first : Register) (all : List Register) → Some first ≡ first_register all → list_all (is_right setting first) all ≡ (list_all (is_good setting) all && are_of_one_file all)
good_with setting first [] e = absurd (cc)
good_with setting first (register ∷ more) e =
    ap (λ (r : Register). list_all (is_right setting r) (register ∷ more)) (same_first first register e) ∙ good_beside setting register more

-- ---- roles

eq_sym : (m n : ℕ) → nat_eq m n ≡ nat_eq n m
eq_sym m n = grind (arith, nat_tests)

pub stands_as : (n : ℕ) (roles : List Role) → list_any (nat_eq n) (map role_number roles) ≡ list_any (λ (role : Role). nat_eq (role_number role) n) roles
stands_as n [] = refl
stands_as n (role ∷ more) =
    ap (λ t. t || list_any (nat_eq n) (map role_number more)) (eq_sym n (role_number role)) ∙ ap (λ t. nat_eq (role_number role) n || t) (stands_as n more)

-- a role of this number is lacking
pub lacking : (roles : List Role) (n : ℕ) → n < 9 → list_any (nat_eq n) (map role_number roles) ≡ false → false ≡ are_complete roles
lacking roles n h e =
    let test = λ (k : ℕ). list_any (λ (role : Role). nat_eq (role_number role) k) roles in
    sym (false_from_ne_true (are_complete roles) (λ all. true≢false (sym (each_below test 9 n all h) ∙ sym (stands_as n roles) ∙ e)))

pub none_lacking : (roles : List Role) (n : ℕ) → 9 ≤ n → ((k : ℕ) → k < n → list_any (λ (role : Role). nat_eq (role_number role) k) roles ≡ true) → true ≡ are_complete roles
none_lacking roles n h all = sym (all_below (λ (k : ℕ). list_any (λ (role : Role). nat_eq (role_number role) k) roles) 9 (λ k l. all k (omega arith)))

-- ---- the layout of memory

-- one more number behind those that rise
pub rising_pushed : (ns : List ℕ) (n : ℕ) → is_rising (ns ++ n ∷ []) ≡ (is_rising ns && list_all (λ m. nat_lt m n) ns)
rising_pushed [] n = refl
rising_pushed (m ∷ more) n =
    ap (λ t. t && is_rising (more ++ n ∷ [])) (all_pushed (nat_lt m) more)
    ∙ ap (λ t. (list_all (nat_lt m) more && nat_lt m n) && t) (rising_pushed more n)
    ∙ turn (list_all (nat_lt m) more) (nat_lt m n) (is_rising more) (list_all (λ k. nat_lt k n) more)
  where
    all_pushed : (p : ℕ → Bool) (ms : List ℕ) → list_all p (ms ++ n ∷ []) ≡ (list_all p ms && p n)
    all_pushed p [] = last (p n)
      where
        last : (t : Bool) → (t && true) ≡ t
        last true = refl
        last false = refl
    all_pushed p (k ∷ ms) = ap (λ t. p k && t) (all_pushed p ms) ∙ three (p k) (list_all p ms) (p n)
      where
        three : (a b c : Bool) → (a && (b && c)) ≡ ((a && b) && c)
        three true b c = refl
        three false b c = refl

    turn : (a b c d : Bool) → ((a && b) && (c && d)) ≡ ((a && c) && (b && d))
    turn true true c d = refl
    turn true false true d = refl
    turn true false false d = refl
    turn false b c d = refl

-- the layout is that of the bases and the end of memory
pub layout_is : (setting : Setting) (front : List Role) → layout_of setting front ≡ bases_of setting front ++ 2 ^ width_or (address_width setting.all setting.globals) ∷ []
layout_is setting front = refl

pub laid_out : (setting : Setting) (front : List Role) → (is_rising (bases_of setting front) && are_below (width_or (address_width setting.all setting.globals)) (bases_of setting front)) ≡ is_rising (layout_of setting front)
laid_out setting front = sym (ap is_rising (layout_is setting front) ∙ rising_pushed (bases_of setting front) (2 ^ width_or (address_width setting.all setting.globals)))

-- ---- the rules

pub plainly_broken : (a b c d e f r : Bool) → (a && ((b && c) && (e && f))) ≡ false → false ≡ (a && (b && (c && (d && (e && (f && r))))))
plainly_broken false b c d e f r h = refl
plainly_broken true false c d e f r h = refl
plainly_broken true true false d e f r h = refl
plainly_broken true true true false e f r h = refl
plainly_broken true true true true false f r h = refl
plainly_broken true true true true true false r h = refl
plainly_broken true true true true true true r h = absurd (cc)

pub not_laid_out : (a b c d e f r : Bool) → r ≡ false → false ≡ (a && (b && (c && (d && (e && (f && r))))))
not_laid_out false b c d e f r h = refl
not_laid_out true false c d e f r h = refl
not_laid_out true true false d e f r h = refl
not_laid_out true true true false e f r h = refl
not_laid_out true true true true false f r h = refl
not_laid_out true true true true true false r h = refl
not_laid_out true true true true true true r h = sym h

pub kept_where_they_differ : (a b c d e f r : Bool) → (a && ((b && c) && (e && f))) ≡ true → r ≡ true → d ≡ (a && (b && (c && (d && (e && (f && r))))))
kept_where_they_differ true true true d true true r h k = by d ∙ ap (λ t. d && t) (sym k)
  where
    by : (t : Bool) → t ≡ (t && true)
    by true = refl
    by false = refl
kept_where_they_differ false b c d e f r h k = absurd (cc)
kept_where_they_differ true false c d e f r h k = absurd (cc)
kept_where_they_differ true true false d e f r h k = absurd (cc)
kept_where_they_differ true true true d false f r h k = absurd (cc)
kept_where_they_differ true true true d true false r h k = absurd (cc)

-- ---- the first role that breaks one

module _ (setting : Setting) (roles : List Role) (i : ℕ) (role : Role) (within : i < length roles) (is : role ≡ get_or roles i role)
    (left : first_of (broken_roles setting [] roles) ≡ first_of (broken_roles setting (take i roles) (drop i roles))) where
  front_is : take i roles ++ role ∷ [] ≡ take (i + 1) roles
  front_is = sym (take_more roles i role within ∙ ap (λ (r : Role). take i roles ++ r ∷ []) (sym is))

  on : first_of (broken_roles setting [] roles) ≡ first_of (told (not (are_kept setting (take (i + 1) roles))) (role_start role) ++ broken_roles setting (take (i + 1) roles) (drop (i + 1) roles))
  on =
      left ∙ ap (λ (rest : List Role). first_of (broken_roles setting (take i roles) rest)) (rest_is roles i role within is)
      ∙ ap (λ (front : List Role). first_of (told (not (are_kept setting front)) (role_start role) ++ broken_roles setting front (drop (i + 1) roles))) front_is

  pub role_broken : are_kept setting (take (i + 1) roles) ≡ false → Some (role_start role) ≡ first_of (broken_roles setting [] roles)
  role_broken e = sym (on ∙ ap (λ t. first_of (told (not t) (role_start role) ++ broken_roles setting (take (i + 1) roles) (drop (i + 1) roles))) e)

  pub role_kept : are_kept setting (take (i + 1) roles) ≡ true → first_of (broken_roles setting [] roles) ≡ first_of (broken_roles setting (take (i + 1) roles) (drop (i + 1) roles))
  role_kept e = on ∙ ap (λ t. first_of (told (not t) (role_start role) ++ broken_roles setting (take (i + 1) roles) (drop (i + 1) roles))) e

pub ruleset kept_steps = (plainly_broken, not_laid_out, kept_where_they_differ)

pub ruleset role_steps = (role_broken, role_kept)
