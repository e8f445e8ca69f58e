-- The numbers of registers.
use Rattle.std.proofs.Common.{◌≡◌, ℕ, suc, zero, ◌+◌, ◌<◌, ◌≤◌, Bool, List, [], ◌∷◌, length, Some, refl, sym, ap, ◌∙◌, arith, if◌then◌else◌}
use Rattle.std.specs.Prelude.{get_or, slice_get}
use Rattle.std.proofs.lemmas.Option.{slice_get-get_or}
use Rattle.std.proofs.lemmas.List.FromFn.{length-map-range_with_len}
use Rattle.vg_ast.specs.declared.item.Item.{Item}
use Rattle.vg_type.specs.Item.{Setting}
use Rattle.vg_tree.specs.declared.resource.Resource.{Resource}
use Rattle.vg_tree.specs.Resource.{is_register, count_before, register_id, resource_or, resource_at, resources_of, with_register}
use Rattle.vg_tree.proofs.ResourceLemmas.{count_more, found_resource}

one_on : (k : ℕ) → k + 1 ≡ suc k
one_on k = omega arith

pub counted_more : (all : List Item) (k : ℕ) (item : Item) (registers next : ℕ) → registers ≡ count_before is_register k all → k < length all → item ≡ get_or all k item → next ≡ with_register registers item
    → next ≡ count_before is_register (k + 1) all
counted_more all k item registers next c h is n =
    n ∙ ap (λ m. with_register m item) c ∙ sym (count_more k all item (slice_get-get_or all k item h ∙ ap Some (sym is))) ∙ ap (λ m. count_before is_register m all) (sym (one_on k))

some_at : {A : Type 0} (xs : List A) (k : ℕ) → k < length xs → (x : A) × (slice_get xs k ≡ Some x)
some_at [] k h = absurd (omega (arith, h))
some_at (x ∷ xs) zero h = (x, refl)
some_at (x ∷ xs) (suc k) h = some_at xs k (omega (arith, h))

length_of : (setting : Setting) → length (resources_of setting) ≡ length setting.all
length_of setting = length-map-range_with_len (resource_at setting) 0 (length setting.all)

id_within : (setting : Setting) (k : ℕ) → k < length setting.all → (resource_at setting k).id.0 ≡ register_id setting.all k
id_within setting k h = ap (λ o. (resource_or setting (register_id setting.all k) o).id.0) (some_at setting.all k h).1

pub found_register : (setting : Setting) (k : ℕ) (table : List Resource) (r : Resource) → table ≡ resources_of setting → k < length table → r ≡ get_or table k r → r.id.0 ≡ register_id setting.all k
found_register setting k table r t h is =
    ap (λ (x : Resource). x.id.0) (found_resource setting k table r t h is) ∙ id_within setting k (rw (sym (length_of setting) ∙ sym (ap length t)) h)

beyond : (is : Item → Bool) (all : List Item) (k : ℕ) → length all ≤ k → count_before is (length all) all ≡ count_before is k all
beyond is [] zero h = refl
beyond is [] (suc k) h = refl
beyond is (item ∷ more) zero h = absurd (omega (arith, h))
beyond is (item ∷ more) (suc k) h = ap (λ n. if is item then 1 + n else n) (beyond is more k (omega (arith, h)))

pub missed_register : (setting : Setting) (k n : ℕ) (table : List Resource) → table ≡ resources_of setting → length table ≤ k → n ≡ count_before is_register (length setting.all) setting.all → n ≡ register_id setting.all k
missed_register setting k n table t h e = e ∙ beyond is_register setting.all k (rw (sym (length_of setting) ∙ sym (ap length t)) h)
