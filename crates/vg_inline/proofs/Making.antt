-- What is made by the bodies of functions is what instructions do.
use Rattle.std.proofs.Common.{◌≡◌, ℕ, zero, suc, true, List, map, [], ◌∷◌, Option, Some, None, refl, sym, ap, subst, ◌∙◌}
use Rattle.std.specs.Prelude.{slice_get}
use Rattle.std.specs.List.{list_all}
use Rattle.std.specs.Option.{option_map}
use Rattle.vg_ast.specs.declared.desc.Desc.{Desc}
use Rattle.vg_ast.specs.declared.item.Item.{Item}
use Rattle.vg_names.specs.Cyclic.{IsOrder}
use Rattle.vg_names.specs.Duplicate.{duplicates}
use Rattle.vg_names.specs.First.{first_of}
use Rattle.vg_names.specs.Unknown.{in_each}
use Rattle.vg_names.proofs.Working.{is_worked}
use Rattle.vg_whole.specs.Whole.{Constants}
use Rattle.vg_whole.specs.Worths.{constants_of, constants_by}
use Rattle.vg_whole.specs.declared.worth.Worth.{Worth}
use Rattle.vg_inline.specs.declared.declared.Declared.{Declared}
use Rattle.vg_inline.specs.declared.behaviours.Bodies.{Bodies}
use Rattle.vg_inline.specs.declared.context.Context.{Context}
use Rattle.vg_inline.specs.declared.keep.Keep.{Keep}
use Rattle.vg_inline.specs.declared.kept.Kept.{Kept}
use Rattle.vg_inline.specs.Bodies.{AreBodies, trees_up_to}
use Rattle.vg_inline.specs.Context.{aliases_by, aliases_in, bodies_as, bodies_by, constants_in, items_of, known_as, known_in}
use Rattle.vg_inline.specs.Inline.{Known, body_step, bodies_of, with_bodies}
use Rattle.vg_inline.specs.InPlace.{behaviour_of, excesses, known_of}
use Rattle.vg_inline.specs.Kept.{counts, keeping, keeping_as, kept_missing}
use Rattle.vg_inline.specs.KeptBehaviour.{behaviour_kept, item_fits, item_kept_excess}
use Rattle.vg_inline.specs.Types.{Aliases, aliases_of}
use Rattle.vg_inline.specs.Scheduled.{AreWorked, SomeBodies}
use Rattle.vg_inline.proofs.Lacking.{nothing_lacks}
use Rattle.vg_inline.proofs.Steps.{body_is_step}
use Rattle.vg_inline.proofs.WholeBehaviours.{all_whole, kept_known, known_kept}

-- what a context knows, by what is kept and the items
abbrev known_at : Context → Keep → List Item → Known (Option Kept)
known_at x keep all = known_as keep all (constants_by all x.worths.now) (aliases_by all x.aliases.now) x.bodies.now

module _ (all : List Item) (x : Context) (items : items_of x ≡ all) (constants : constants_by all x.worths.now ≡ constants_of all) (aliases : aliases_by all x.aliases.now ≡ aliases_of all (constants_of all)) where
  -- where the numbers of nodes are known, so is that no instruction has more
  fitting : x.keep ≡ counts → bodies_by all x.bodies.now ≡ bodies_of keeping all (constants_of all) (aliases_of all (constants_of all)) → (most : ℕ)
      → list_all (item_fits x.keep (items_of x) (known_in x) most) (items_of x) ≡ true → list_all (item_fits counts all (kept_known counts (known_of all)) most) all ≡ true
  fitting keep bodies most fit =
      let of_items : list_all (item_fits x.keep all (known_at x x.keep all) most) all ≡ true = subst (λ (l : List Item). list_all (item_fits x.keep l (known_at x x.keep l) most) l ≡ true) items fit in
      let of_counts : list_all (item_fits counts all (known_at x counts all) most) all ≡ true = subst (λ (k : Keep). list_all (item_fits k all (known_at x k all) most) all ≡ true) keep of_items in
      let counted : known_at x counts all ≡ kept_known counts (known_of all) = (λ i. record { constants = constants i; aliases = aliases i; bodies = bodies i }) ∙ known_kept counts all in
      subst (λ (k : Known (Option Kept)). list_all (item_fits counts all k most) all ≡ true) counted of_counts

  -- all instructions are made by the trees of the bodies
  pub bodies_made : x.keep ≡ counts → bodies_by all x.bodies.now ≡ bodies_of keeping all (constants_of all) (aliases_of all (constants_of all)) → excesses all ≡ []
      → (most : ℕ) (trees : List (Option Kept)) → bodies_as (trees_up_to most) all trees ≡ bodies_of (keeping_as (trees_up_to most)) all (constants_by all x.worths.now) (aliases_by all x.aliases.now)
      → list_all (item_fits x.keep (items_of x) (known_in x) most) (items_of x) ≡ true → AreBodies all (record { trees = trees; keep = trees_up_to most })
  bodies_made keep bodies none most trees made fit =
      let keeps = trees_up_to most in
      let given : bodies_as keeps all trees ≡ bodies_of (keeping_as keeps) all (constants_of all) (aliases_of all (constants_of all)) = made ∙ (λ i. bodies_of (keeping_as keeps) all (constants i) (aliases i)) in
      let known : known_as keeps all (constants_of all) (aliases_of all (constants_of all)) trees ≡ kept_known keeps (known_of all) =
      (λ i. record { constants = constants_of all; aliases = aliases_of all (constants_of all); bodies = given i }) ∙ known_kept keeps all in
      ap (λ (k : Known (Option Kept)). map (behaviour_kept keeps all k) all) known ∙ all_whole all (known_of all) most all none (fitting keep bodies most fit)

  -- nor do they lack anything where some bodies do, if something is kept of each
  pub some_made : x.keep ≡ counts → bodies_by all x.bodies.now ≡ bodies_of keeping all (constants_of all) (aliases_of all (constants_of all)) → excesses all ≡ []
      → (most : ℕ) (trees : List (Option Kept)) → SomeBodies (trees_up_to most) (items_of x) (constants_in x) (aliases_in x) trees
      → first_of (in_each (item_kept_excess (trees_up_to most) (items_of x) (known_as (trees_up_to most) (items_of x) (constants_in x) (aliases_in x) trees)) (items_of x)) ≡ None
      → list_all (item_fits x.keep (items_of x) (known_in x) most) (items_of x) ≡ true → AreBodies all (record { trees = trees; keep = trees_up_to most })
  some_made keep bodies none most trees some whole fit =
      let keeps = trees_up_to most in
      let lacking : List Item → Known (Option Kept) = λ l. known_as keeps l (constants_by l x.worths.now) (aliases_by l x.aliases.now) trees in
      let a = aliases_of all (constants_of all) in
      let some_of_items : SomeBodies keeps all (constants_by all x.worths.now) (aliases_by all x.aliases.now) trees = subst (λ (l : List Item). SomeBodies keeps l (constants_by l x.worths.now) (aliases_by l x.aliases.now) trees) items some in
      let some_of : SomeBodies keeps all (constants_of all) a trees = subst (λ (b : Aliases). SomeBodies keeps all (constants_of all) b trees) aliases (subst (λ (c : Constants). SomeBodies keeps all c (aliases_by all x.aliases.now) trees) constants some_of_items) in
      let whole_of_items : first_of (in_each (item_kept_excess keeps all (lacking all)) all) ≡ None = subst (λ (l : List Item). first_of (in_each (item_kept_excess keeps l (lacking l)) l) ≡ None) items whole in
      let known : lacking all ≡ with_bodies (constants_of all) a (bodies_as keeps all trees) = (λ i. record { constants = constants i; aliases = aliases i; bodies = bodies_as keeps all trees }) in
      let whole_of : first_of (in_each (item_kept_excess keeps all (with_bodies (constants_of all) a (bodies_as keeps all trees))) all) ≡ None =
      subst (λ (k : Known (Option Kept)). first_of (in_each (item_kept_excess keeps all k) all) ≡ None) known whole_of_items in
      nothing_lacks keeps all (constants_of all) a (bodies_as keeps all trees) (bodies_of (keeping_as keeps) all (constants_of all) a) some_of.kept all (first_none (in_each (item_kept_excess keeps all (with_bodies (constants_of all) a (bodies_as keeps all trees))) all) whole_of)
      ∙ ap (λ (k : Known (Option Kept)). map (behaviour_kept keeps all k) all) (known_kept keeps all) ∙ all_whole all (known_of all) most all none (fitting keep bodies most fit)
    where
      first_none : (xs : List ℕ) → first_of xs ≡ None → xs ≡ []
      first_none [] e = refl
      first_none (k ∷ ks) e = absurd (cc)

-- each body is what its step makes, by the items of the table
pub all_worked : (keep : Keep) (d : Desc) (all : List Item) (order : List ℕ) (worths : List Worth) (aliases : List Declared) → all ≡ d.items → duplicates d ≡ [] → IsOrder d.items order
    → AreWorked keep all (constants_by all worths) (aliases_by all aliases)
all_worked keep d all order worths aliases same distinct ordered =
    subst (λ (l : List Item). AreWorked keep l (constants_by l worths) (aliases_by l aliases)) (sym same)
    (is_worked (Option Kept) (kept_missing keep) (body_step (keeping_as keep) d.items (constants_by d.items worths) (aliases_by d.items aliases)) (body_is_step (Option Kept) (keeping_as keep) d.items (constants_by d.items worths) (aliases_by d.items aliases)) d distinct order ordered)

-- what is made by the bodies, where it is known what constants are worth and what aliases stand for
pub all_made : (all : List Item) (worths : List Worth) (aliases : List Declared) (b : Bodies) → constants_by all worths ≡ constants_of all → aliases_by all aliases ≡ aliases_of all (constants_of all) → AreBodies all b
    → map (behaviour_kept b.keep all (known_as b.keep all (constants_by all worths) (aliases_by all aliases) b.trees)) all ≡ map (behaviour_of all (known_of all)) all
all_made all worths aliases b constant alias are = (λ i. map (behaviour_kept b.keep all (known_as b.keep all (constant i) (alias i) b.trees)) all) ∙ are

pub one_of : {A B : Type 0} (f g : A → B) (xs : List A) (k : ℕ) (y : A) → map f xs ≡ map g xs → slice_get xs k ≡ Some y → Some (f y) ≡ option_map g (slice_get xs k)
one_of f g [] k y same at = absurd (cc)
one_of f g (x ∷ xs) zero y same at =
    let here : x ≡ y = cc in
    let first : f x ≡ g x = cc in
    ap (λ (a : _). Some (f a)) (sym here) ∙ ap (λ (b : _). Some b) first
one_of f g (x ∷ xs) (suc k) y same at =
    let rest : map f xs ≡ map g xs = cc in
    one_of f g xs k y rest at
