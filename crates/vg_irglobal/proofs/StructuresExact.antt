-- The reader of named structures is exact.
use Rattle.std.proofs.Common.{◌≡◌, ℕ, ◌+◌, max, Bool, true, false, cond, ◌&&◌, nat_eq, List, [], ◌∷◌, codes, refl, sym, ap, ◌∙◌, arith, IsTrue}
use Rattle.std.proofs.lemmas.Bool.{and_parts, and_from, both_ways}
use Rattle.vg_ir.specs.declared.name.NameAt.{NameAt}
use Rattle.vg_ir.specs.declared.ty.TypeAt.{TypeAt}
use Rattle.vg_ir.specs.declared.module.Structure.{Structure}
use Rattle.vg_irparse.specs.declared.role.Role.TheVariants as roles
use Rattle.vg_irparse.specs.Placed.{Placed, Mark, plain, any_type}
use Rattle.vg_irparse.specs.Text.{is_local}
use Rattle.vg_irparse.specs.ReadingType.{wanted}
use Rattle.vg_irparse.specs.Concrete.{TypeTree, integer, pointer, array, structure, named, MoreTypes, no_more_type}
use Rattle.vg_irparse.specs.ConcreteModule.{StructureTree}
use Rattle.vg_irparse.specs.Grammar.{is_type, are_more_types}
use Rattle.vg_irparse.specs.GrammarModule.{is_structure}
use Rattle.vg_irparse.specs.Tree as tree
use Rattle.vg_irparse.proofs.TypesPlace.{no_mark}
use Rattle.vg_irread.specs.Kinds.{Kind, local, is_in}
use Rattle.vg_irread.specs.Exact.{Spelling, front, one, sign, both, nothing, Starts, IsExact}
use Rattle.vg_irread.specs.ReadingType.{a_type}
use Rattle.vg_irread.proofs.Apart.{not_in}
use Rattle.vg_irread.proofs.Single.{done_exact}
use Rattle.vg_irread.proofs.Pairs.{both_exact}
use Rattle.vg_irread.proofs.Same.{Covers, same_exact}
use Rattle.vg_irread.proofs.TypesExact.{type_exact}
use Rattle.vg_irread.proofs.OperandsExact.{local_exact, sign_exact}
use Rattle.vg_irglobal.specs.ReadingInitial.{only}
use Rattle.vg_irglobal.specs.ReadingStructure.{fields_type_at, structure_at}
use Rattle.vg_irglobal.specs.ExactStructure.{a_structure}
use Rattle.vg_irglobal.proofs.Doors.{of_form, door_exact}

-- { T , .. }
abbrev has_fields : TypeTree → Bool
has_fields (integer width at) = false
has_fields (pointer at) = false
has_fields (array opening n by element closing) = false
has_fields (structure opening first more closing) = true
has_fields (named name) = false

begins : (t : TypeTree) → has_fields t ≡ true → IsTrue (is_type t) → Starts (only (codes "{")) false (front (a_type any_type) t)
begins (integer width at) h g = absurd (cc)
begins (pointer at) h g = absurd (cc)
begins (array opening n by element closing) h g = absurd (cc)
begins (structure opening first more closing) h g = refl
begins (named name) h g = absurd (cc)

no_integer : {A : Type 0} (a b c d : Bool) → is_in (only (codes "{")) (cond a (codes "i1") (cond b (codes "i8") (cond c (codes "i16") (cond d (codes "i32") (codes "i64"))))) ≡ true → A
no_integer true b c d h = absurd (cc)
no_integer false true c d h = absurd (cc)
no_integer false false true d h = absurd (cc)
no_integer false false false true h = absurd (cc)
no_integer false false false false h = absurd (cc)

of_one : (b : Bool) → b ≡ true → cond b true false ≡ true
of_one b h = rw h refl

only_those : (t : TypeTree) → IsTrue (is_type t) → Starts (only (codes "{")) false (front (a_type any_type) t) → has_fields t ≡ true
only_those (integer width at) g h = no_integer (nat_eq width 1) (nat_eq width 8) (nat_eq width 16) (nat_eq width 32) h
only_those (pointer at) g h = absurd (cc)
only_those (array opening n by element closing) g h = absurd (cc)
only_those (structure opening first more closing) g h = refl
only_those (named name) g h = absurd (both_ways (is_in (only (codes "{")) name.text) (not_in (only (codes "{")) (local ∷ []) name.text refl (of_one (is_local name.text) g)) h)

abbrev a_fields_type : Spelling TypeTree TypeAt
a_fields_type = of_form has_fields (a_type any_type)

fields_exact : IsExact a_fields_type (only (codes "{")) false [] fields_type_at
fields_exact =
    door_exact has_fields (only (codes "{")) (wanted roles.AnyType) (type_exact any_type (wanted roles.AnyType)) begins only_those
    (structure no_mark (pointer no_mark) no_more_type no_mark) refl refl

abbrev Parts : Type 0
Parts = Placed × (Mark × (Mark × (TypeTree × Unit {0})))

abbrev made_of : NameAt → TypeAt → Structure
made_of name t = record { name = name; ty = t }

made_same : (n m : NameAt) (t u : TypeAt) → n ≡ m → t ≡ u → made_of n t ≡ made_of m u
made_same n m t u e f = cc

abbrev all_parts : Spelling Parts Structure
all_parts = both (one plain (λ l. is_local l.text) tree.name_at) (λ n. both (sign plain (codes "=")) (λ q. both (sign plain (codes "type")) (λ m.
    both a_fields_type (λ t. nothing (made_of (tree.name_at n) (tree.type_at t))))))

all_exact : IsExact all_parts (local ∷ []) false [] structure_at
unfolding structure_at
all_exact =
    both_exact (local_exact (wanted roles.Plain)) (λ name n g1 e1. both_exact (sign_exact plain (codes "=") (wanted roles.Plain)) (λ q1 q g2 e2.
    both_exact (sign_exact plain (codes "type") (wanted roles.Plain)) (λ m1 m g3 e3. both_exact fields_exact (λ x t g4 e4.
    done_exact _ _ (made_same name (tree.name_at n) x (tree.type_at t) e1 e4)) refl) refl) refl) refl

covers_tree : (name : Placed) (equal word : Mark) (t : TypeTree) → IsTrue (all_parts.grammar (name, (equal, (word, (t, tt))))) → Covers all_parts a_structure (name, (equal, (word, (t, tt))))
covers_tree name equal word (structure opening first more closing) g = record {
  other = record { name = name; equal = equal; word = word; opening = opening; first = first; more = more; closing = closing };
  is_one =
      let p = and_parts (is_local name.text) _ g in
      and_from (is_local name.text) (is_type first && are_more_types more) p.0 (and_parts (is_type first && are_more_types more) true p.1).0;
  same = record { spelled = λ ts. refl; means = refl; nests = omega arith };
}
covers_tree name equal word (integer width at) g = absurd (both_ways _ refl ((and_parts (is_local name.text) false g).1))
covers_tree name equal word (pointer at) g = absurd (both_ways _ refl ((and_parts (is_local name.text) false g).1))
covers_tree name equal word (array opening n by element closing) g = absurd (both_ways _ refl ((and_parts (is_local name.text) false g).1))
covers_tree name equal word (named n) g = absurd (both_ways _ refl ((and_parts (is_local name.text) false g).1))

covers_parts : (s : StructureTree) → IsTrue (is_structure s) → Covers a_structure all_parts s
covers_parts s g = record {
  other = (s.name, (s.equal, (s.word, (structure s.opening s.first s.more s.closing, tt))));
  is_one =
      let p = and_parts (is_local s.name.text) (is_type s.first && are_more_types s.more) g in
      and_from (is_local s.name.text) _ p.0 (and_from (is_type s.first && are_more_types s.more) true p.1 refl);
  same = record { spelled = λ ts. refl; means = refl; nests = omega arith };
}

pub structure_exact : IsExact a_structure (local ∷ []) false [] structure_at
structure_exact = same_exact all_exact (λ p g. covers_tree p.0 p.1.0 p.1.1.0 p.1.1.1.0 g) covers_parts
