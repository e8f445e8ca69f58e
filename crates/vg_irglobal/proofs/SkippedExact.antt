-- The readers of items without a trace are exact.
use Rattle.std.proofs.Common.{◌≡◌, ℕ, Bool, true, false, cond, ◌&&◌, ◌||◌, List, [], ◌∷◌, codes, refl, IsTrue}
use Rattle.std.proofs.lemmas.Bool.{and_parts, and_from}
use Rattle.vg_irlex.specs.Lexing.{is_quoted, is_word_name, are_digits}
use Rattle.vg_irparse.specs.declared.role.Role.TheVariants as roles
use Rattle.vg_irparse.specs.Placed.{Placed, Mark, plain}
use Rattle.vg_irparse.specs.ReadingType.{wanted}
use Rattle.vg_irparse.specs.Words.{is_one_of, target_words}
use Rattle.vg_irparse.specs.ConcreteModule.{ItemTree, source_filename, target, attributes, metadata_line, declaration_line, structure_item, global_item, function_item}
use Rattle.vg_irparse.specs.GrammarModule.{is_item}
use Rattle.vg_irread.specs.Kinds.{label, words, is_in}
use Rattle.vg_irread.specs.Exact.{Spelling, one, sign, both, IsExact}
use Rattle.vg_irread.proofs.Apart.{in_head}
use Rattle.vg_irread.proofs.Pairs.{both_exact}
use Rattle.vg_irread.proofs.Same.{Covers, same_exact}
use Rattle.vg_irread.proofs.OperandsExact.{taken_exact, sign_exact}
use Rattle.vg_irglobal.specs.ReadingInitial.{only}
use Rattle.vg_irglobal.specs.ReadingSkipped.{quoted_at, source_filename_at, target_word_at, target_at}
use Rattle.vg_irglobal.specs.ExactSkipped.{skipped, is_source_filename, is_target}

or_last : (a b : Bool) → b ≡ true → (a || b) ≡ true
or_last true b h = refl
or_last false b h = h

of_one : (b : Bool) → b ≡ true → cond b true false ≡ true
of_one b h = rw h refl

abbrev a_quoted : Spelling Placed (Unit {0})
a_quoted = one plain (λ l. is_quoted l.text) (λ l. tt)

quoted_exact : IsExact a_quoted (label ∷ []) false [] quoted_at
quoted_exact = taken_exact plain is_quoted (λ l. tt) (label ∷ []) (codes "\"a\"") refl (λ t g. in_head label [] t (or_last (is_word_name t || are_digits t) (is_quoted t) g)) (wanted roles.Plain)

abbrev a_target_word : Spelling Placed ℕ
a_target_word = one plain (λ l. is_one_of target_words l.text) (λ l. l.at)

target_word_exact : IsExact a_target_word (words target_words ∷ []) false [] target_word_at
target_word_exact = taken_exact plain (is_one_of target_words) (λ l. l.at) (words target_words ∷ []) (codes "triple") refl (λ t g. of_one (is_one_of target_words t) g) (wanted roles.Plain)

-- ---- source_filename = ".."

abbrev source_parts : Spelling (Mark × (Mark × Placed)) (Unit {0})
source_parts = both (sign plain (codes "source_filename")) (λ m. both (sign plain (codes "=")) (λ q. a_quoted))

source_parts_exact : IsExact source_parts (only (codes "source_filename")) false [] source_filename_at
unfolding source_filename_at
source_parts_exact =
    both_exact (sign_exact plain (codes "source_filename") (wanted roles.Plain)) (λ x m g e. both_exact (sign_exact plain (codes "=") (wanted roles.Plain)) (λ y q h f. quoted_exact) refl) refl

source_back : (i : ItemTree) → (is_source_filename i && is_item i) ≡ true → Covers (skipped is_source_filename) source_parts i
source_back (source_filename at equal text) g = record { other = (at, (equal, text)); is_one = g; same = record { spelled = λ ts. refl; means = refl; nests = refl } }
source_back (target at word equal text) g = absurd (cc)
source_back (attributes at name equal opening inner closing) g = absurd (cc)
source_back (metadata_line at inner) g = absurd (cc)
source_back (declaration_line at inner) g = absurd (cc)
source_back (structure_item s) g = absurd (cc)
source_back (global_item s) g = absurd (cc)
source_back (function_item f) g = absurd (cc)

pub source_filename_exact : IsExact (skipped is_source_filename) (only (codes "source_filename")) false [] source_filename_at
source_filename_exact =
    same_exact source_parts_exact
    (λ p g. record { other = source_filename p.0 p.1.0 p.1.1; is_one = g; same = record { spelled = λ ts. refl; means = refl; nests = refl } }) source_back

-- ---- target word = ".."

abbrev target_parts : Spelling (Mark × (Placed × (Mark × Placed))) (Unit {0})
target_parts = both (sign plain (codes "target")) (λ m. both a_target_word (λ w. both (sign plain (codes "=")) (λ q. a_quoted)))

target_parts_exact : IsExact target_parts (only (codes "target")) false [] target_at
unfolding target_at
target_parts_exact =
    both_exact (sign_exact plain (codes "target") (wanted roles.Plain)) (λ x m g e. both_exact target_word_exact (λ v w k l. both_exact (sign_exact plain (codes "=") (wanted roles.Plain)) (λ y q h f. quoted_exact) refl) refl) refl

target_back : (i : ItemTree) → (is_target i && is_item i) ≡ true → Covers (skipped is_target) target_parts i
target_back (target at word equal text) g = record { other = (at, (word, (equal, text))); is_one = g; same = record { spelled = λ ts. refl; means = refl; nests = refl } }
target_back (source_filename at equal text) g = absurd (cc)
target_back (attributes at name equal opening inner closing) g = absurd (cc)
target_back (metadata_line at inner) g = absurd (cc)
target_back (declaration_line at inner) g = absurd (cc)
target_back (structure_item s) g = absurd (cc)
target_back (global_item s) g = absurd (cc)
target_back (function_item f) g = absurd (cc)

pub target_exact : IsExact (skipped is_target) (only (codes "target")) false [] target_at
target_exact =
    same_exact target_parts_exact
    (λ p g. record { other = target p.0 p.1.0 p.1.1.0 p.1.1.1; is_one = g; same = record { spelled = λ ts. refl; means = refl; nests = refl } }) target_back
