-- The description of a form that is found is accepted.
use Rattle.std.proofs.Common.{◌≡◌, ℕ, zero, suc, ◌+◌, ◌≤◌, Bool, true, false, ◌&&◌, nat_lt, IsTrue, List, [], ◌∷◌, ◌++◌, length, Option, Some, None, refl, sym, ap, subst, ◌∙◌, arith, if◌then◌else◌}
use Rattle.std.specs.Str.{bytes_eq}
use Rattle.std.specs.List.{list_all}
use Rattle.std.proofs.lemmas.List.{length-append}
use Rattle.std.proofs.lemmas.Bool.{and_from}
use Rattle.vg_ast.specs.declared.abi.Abi.{Abi}
use Rattle.vg_ast.specs.declared.desc.Desc.{Desc}
use Rattle.vg_ast.specs.declared.fix.Fix.{Fix}
use Rattle.vg_ast.specs.declared.item.Item.{Item}
use Rattle.vg_ast.specs.declared.item.Item.TheVariants as items
use Rattle.vg_ast.specs.declared.micro.Micro.{Micro}
use Rattle.vg_ast.specs.declared.name.Name.{Name}
use Rattle.vg_whole.specs.declared.worth.Worth.{Worth}
use Rattle.vg_whole.specs.declared.worth.Worth.TheVariants.{Whole}
use Rattle.vg_inline.specs.InPlace.{Known}
use Rattle.vg_isa.specs.Accepted.{is_isa}
use Rattle.vg_form.specs.declared.form.Behaviour.{Behaviour}
use Rattle.vg_form.specs.declared.form.Form.{Form}
use Rattle.vg_form.specs.declared.form.Pair.{Pair}
use Rattle.vg_form.specs.Form.{fits_fields, parts_of}
use Rattle.vg_form.specs.Description as form
use Rattle.vg_form.specs.Description.{Found, found, unlike, ◌>>=◌, Values, Doing, number_below, fixed, is_named, three, numbers_of, encoding_of, instruction_of, apart, pair_of, pairs_behind, pairs_of, without_abi, without_micro, form_of}
use Rattle.vg_form.specs.Finding.{are_fitting}
use Rattle.vg_form.proofs.FormTyping.{is_isa-parts_of}
use Rattle.vg_form.proofs.PairLemmas.{fit_more}

found_same : {X : Type 0} {x y : X} → found x ≡ found y → x ≡ y
found_same e = cc

not_found : {A X : Type 0} {at : ℕ} {x : X} → unlike at ≡ found x → A
not_found e = absurd (cc)

none_some : {A X : Type 0} {x : X} → None ≡ Some x → A
none_some e = absurd (cc)

-- where something is found, each step has found something
step_found : {X Y : Type 0} (sought : Found X) (next : X → Found Y) (y : Y) → (sought >>= next) ≡ found y → (x : X) × (sought ≡ found x) × (next x ≡ found y)
step_found (found x) next y e = (x, refl, e)
step_found (unlike at) next y e = not_found e

some_found : {X : Type 0} (at : ℕ) (o : Option X) (x : X) → form.found_or at o ≡ found x → o ≡ Some x
some_found at None x e = not_found e
some_found at (Some y) x e = ap Some (found_same e)

chosen : {X : Type 0} (t : Bool) (o : Option X) (x : X) → (if t then o else None) ≡ Some x → (t ≡ true) × (o ≡ Some x)
chosen true o x e = (refl, e)
chosen false o x e = none_some e

-- ---- numbers

below : (limit : ℕ) (w : Worth) (n : ℕ) → number_below limit w ≡ Some n → IsTrue (nat_lt n limit)
below limit (Whole m) n e = let both = chosen (nat_lt m limit) (Some m) n e in let same : m ≡ n = cc in subst (λ (k : ℕ). nat_lt k limit ≡ true) same both.0
below limit _ n e = none_some e

fixed_below : (values : Values) (text : List ℕ) (limit : ℕ) (fix : Fix) (n : ℕ) → fixed values text limit fix ≡ Some n → IsTrue (nat_lt n limit)
fixed_below values text limit fix n e =
    below limit (values.worth fix.value) n (chosen (is_named fix.name text) (number_below limit (values.worth fix.value)) n e).1

three_fit : (a b c : Option ℕ) (numbers : ℕ × ℕ × ℕ) → ((n : ℕ) → a ≡ Some n → IsTrue (nat_lt n 128)) → ((n : ℕ) → b ≡ Some n → IsTrue (nat_lt n 8)) → ((n : ℕ) → c ≡ Some n → IsTrue (nat_lt n 128))
    → three a b c ≡ Some numbers → IsTrue (are_fitting numbers)
three_fit (Some x) (Some y) (Some z) numbers f g h e =
    let same : (x, y, z) ≡ numbers = some_same e in
    subst (λ (n : ℕ × ℕ × ℕ). IsTrue (are_fitting n)) same (and_from (nat_lt x 128 && nat_lt y 8) (nat_lt z 128) (and_from (nat_lt x 128) (nat_lt y 8) (f x refl) (g y refl)) (h z refl))
  where
    some_same : {X : Type 0} {x y : X} → Some x ≡ Some y → x ≡ y
    some_same e = cc
three_fit _ _ _ numbers f g h e = none_some e

numbers_fit : (values : Values) (fixes : List Fix) (numbers : ℕ × ℕ × ℕ) → numbers_of values fixes ≡ Some numbers → IsTrue (are_fitting numbers)
numbers_fit values (f7 ∷ f3 ∷ op ∷ []) numbers e =
    three_fit _ _ _ numbers (λ n x. fixed_below values _ 128 f7 n x) (λ n x. fixed_below values _ 8 f3 n x) (λ n x. fixed_below values _ 128 op n x) e
numbers_fit values _ numbers e = none_some e

encoding_fits : (values : Values) (name : Name) (item : Item) (numbers : ℕ × ℕ × ℕ) → encoding_of values name item ≡ Some numbers → IsTrue (are_fitting numbers)
encoding_fits values name (items.Encoding at other fixes) numbers e =
    numbers_fit values fixes numbers (chosen (bytes_eq name.text other.text) (numbers_of values fixes) numbers e).1
encoding_fits values name _ numbers e = none_some e

-- ---- pairs

apart_found : (t : Bool) (at : ℕ) (pair other : Pair) → (if t then unlike at else found pair) ≡ found other → pair ≡ other
apart_found true at pair other e = not_found e
apart_found false at pair other e = found_same e

module _ (file : ℕ) (values : Values) where
  pair_fits : (front : List Pair) (doing other : Doing) (more : List Doing) (pair : Pair) → pair_of file values front doing (other ∷ more) ≡ found pair → IsTrue (fits_fields pair)
  pair_fits front doing other more pair e =
      let one = step_found (form.found_or (form.place_of doing.0) (instruction_of file doing.0 doing.1)) _ pair e in
      let two = step_found (form.found_or (form.place_of other.0) (encoding_of values one.0.0 other.0)) _ pair one.2 in
      let same = apart_found _ _ _ pair two.2 in
      subst (λ (p : Pair). IsTrue (fits_fields p)) same (encoding_fits values one.0.0 other.0 two.0 (some_found _ _ two.0 two.1))

  abbrev AreFit : ℕ → List Pair → List Pair → Type 0
  AreFit room front pairs = IsTrue (list_all fits_fields pairs) × (length pairs ≤ length front + room)

  one_more : (room : ℕ) (front pairs : List Pair) (pair : Pair) → AreFit room (front ++ pair ∷ []) pairs → AreFit (suc room) front pairs
  one_more room front pairs pair h = let l = length-append front (pair ∷ []) in (h.0, omega (arith, l, h.1))

  nothing_more : (room : ℕ) (front pairs : List Pair) → found front ≡ found pairs → IsTrue (list_all fits_fields front) → AreFit room front pairs
  nothing_more room front pairs e fit =
      let same : front ≡ pairs = found_same e in subst (λ (l : List Pair). AreFit room front l) same (fit, omega arith)

  pairs_fit : (room : ℕ) (front : List Pair) (doings : List Doing) (pairs : List Pair) → pairs_behind file values room front doings ≡ found pairs → IsTrue (list_all fits_fields front) → AreFit room front pairs
  pairs_fit zero front [] pairs e fit = nothing_more zero front pairs e fit
  pairs_fit (suc room) front [] pairs e fit = nothing_more (suc room) front pairs e fit
  pairs_fit zero front (doing ∷ more) pairs e fit = not_found e
  pairs_fit (suc room) front (doing ∷ []) pairs e fit = not_found e
  pairs_fit (suc room) front (doing ∷ other ∷ more) pairs e fit =
      let one = step_found (pair_of file values front doing (other ∷ more)) _ pairs e in
      one_more room front pairs one.0 (pairs_fit room (front ++ one.0 ∷ []) more pairs one.2 (fit_more front one.0 fit (pair_fits front doing other more one.0 one.1)))

  all_fit : (close : ℕ) (doings : List Doing) (pairs : List Pair) → pairs_of file values close doings ≡ found pairs → AreFit 512 [] pairs
  all_fit close [] pairs e = not_found e
  all_fit close (doing ∷ more) pairs e = pairs_fit 512 [] (doing ∷ more) pairs e refl

-- ---- the whole

alone : (abi : Option Abi) (micro : Option Micro) (f g : Form) → (without_abi abi f >>= without_micro micro) ≡ found g → f ≡ g
alone None None f g e = found_same e
alone None (Some micro) f g e = not_found e
alone (Some abi) micro f g e = not_found e

pub found_accepted : (d : Desc) (known : Known) (f : Form) → form_of d known ≡ found f → IsTrue (is_isa (parts_of f))
found_accepted d known f e =
    let named = step_found (form.name_of d.name) _ f e in
    let declared = step_found (form.behind_declarations (form.values_of known) d.close (form.doings_of d known)) _ f named.2 in
    let pairs = step_found (pairs_of (form.file_of d.items) (form.values_of known) d.close declared.0) _ f declared.2 in
    let fit = all_fit (form.file_of d.items) (form.values_of known) d.close declared.0 pairs.0 pairs.1 in
    subst (λ (g : Form). IsTrue (is_isa (parts_of g))) (alone d.abi d.micro _ f pairs.2)
    (is_isa-parts_of (record { name = named.0; pairs = pairs.0 }) fit.0 fit.1)
