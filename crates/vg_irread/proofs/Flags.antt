-- The reader of flags in their order is exact.
use Rattle.std.proofs.Common.{◌≡◌, ℕ, Bool, true, false, cond, ◌&&◌, Option, Some, None, List, [], ◌∷◌, codes, refl, sym, ap, subst}
use mathlib.Core.Path.{fun_ext}
use Rattle.std.proofs.lemmas.Bool.{and_parts, and_from, both_ways}
use Rattle.std.proofs.lemmas.Slice.Eq.{bytes_eq-Decides}
use Rattle.std.specs.Str.{bytes_eq}
use Rattle.vg_ir.specs.declared.operator.BinaryOperator.{BinaryOperator}
use Rattle.vg_ir.specs.declared.operator.BinaryOperator.TheVariants as operators
use Rattle.vg_irparse.specs.Placed.{Placed, Mark, plain, lexemes_of, marked}
use Rattle.vg_irparse.specs.declared.role.Wanted.{Wanted}
use Rattle.vg_irparse.specs.declared.role.Role.TheVariants as roles
use Rattle.vg_irparse.specs.ReadingType.{wanted}
use Rattle.vg_irparse.specs.Answer.{Answer, reads, leaves}
use Rattle.vg_irparse.specs.Answer as answer
use Rattle.vg_irparse.specs.Words.{same_text, operator_flags}
use Rattle.vg_irparse.specs.Grammar.{are_flags}
use Rattle.vg_irparse.specs.Spelling.{spelled_list, spelled_free}
use Rattle.vg_irparse.proofs.TypesSound.{mark_of, marked_is, text_is}
use Rattle.vg_irread.specs.Kinds.{Kind, words, is_in, apart}
use Rattle.vg_irread.specs.Reading.{optional_by, optional_at, ◌>>=◌}
use Rattle.vg_irread.specs.Exact.{front, both, may, sign, nothing, Starts, IsExact}
use Rattle.vg_irread.specs.ReadingOperand.{sign_at}
use Rattle.vg_irread.specs.ReadingInstruction.{skipped_words, flags_at}
use Rattle.vg_irread.specs.ExactInstruction.{flags}
use Rattle.vg_irread.proofs.Apart.{not_in}
use Rattle.vg_irread.proofs.Single.{done_exact}
use Rattle.vg_irread.proofs.Pairs.{both_exact}
use Rattle.vg_irread.proofs.Optional.{optional_exact}
use Rattle.vg_irread.proofs.Same.{Covers, same_exact}
use Rattle.vg_irread.proofs.Weaker.{Within, weaker_exact}
use Rattle.vg_irread.proofs.OperandsExact.{sign_exact}

-- one word
abbrev pub one_word : List ℕ → List Kind
one_word w = words (w ∷ []) ∷ []

-- the words, one by one
abbrev pub flag_kinds : List (List ℕ) → List Kind
flag_kinds [] = []
flag_kinds (w ∷ ws) = words (w ∷ []) ∷ flag_kinds ws

-- no word comes twice
abbrev pub are_distinct : List (List ℕ) → Bool
are_distinct [] = true
are_distinct (w ∷ ws) = apart (one_word w) (flag_kinds ws) && are_distinct ws

same_bytes : (a : List ℕ) → bytes_eq a a ≡ true
same_bytes a = (bytes_eq-Decides a a).1 refl

swap_by : (a b : List ℕ) (x y : Bool) → bytes_eq a b ≡ x → bytes_eq b a ≡ y → x ≡ y
swap_by a b true true h k = refl
swap_by a b false false h k = refl
swap_by a b true false h k = let e : bytes_eq b a ≡ true = (bytes_eq-Decides b a).1 (sym (text_is a b h)) in absurd (both_ways (bytes_eq b a) k e)
swap_by a b false true h k = let e : bytes_eq a b ≡ true = (bytes_eq-Decides a b).1 (sym (text_is b a k)) in absurd (both_ways (bytes_eq a b) h e)

swap : (a b : List ℕ) → bytes_eq a b ≡ bytes_eq b a
swap a b = swap_by a b (bytes_eq a b) (bytes_eq b a) refl refl

pub flag_read : (w : List ℕ) (ws : List (List ℕ)) (p : Wanted) (d : ℕ) (ts : List Placed) → (optional_at (one_word w) (sign_at w p) >>= λ _. flags_at ws) d ts ≡ flags_at (w ∷ ws) d ts
flag_read w ws p d [] = refl
flag_read w ws p d (t ∷ ts) = by_test (bytes_eq t.text w) refl
  where
    by_test : (b : Bool) → bytes_eq t.text w ≡ b
        → answer.◌>>=◌ (optional_by (cond (cond (bytes_eq w t.text) true false) true false) (sign_at w p) d (t ∷ ts)) (λ x. flags_at ws d x.1)
        ≡ reads (tt, skipped_words ws (cond (bytes_eq t.text w) ts (t ∷ ts)))
    by_test true h = rw (swap w t.text) (rw h (rw h refl))
    by_test false h = rw (swap w t.text) (rw h refl)

more_flags : (w : List ℕ) (ws : List (List ℕ)) (fs : List Placed) → Starts (flag_kinds ws) true (front (flags ws) fs) → apart (one_word w) (flag_kinds ws) ≡ true → are_flags ws fs ≡ true
    → are_flags (w ∷ ws) fs ≡ true
more_flags w ws [] s a h = refl
more_flags w ws (f ∷ fs) s a h = by_test (same_text w f.text) refl
  where
    by_test : (b : Bool) → same_text w f.text ≡ b → cond b (are_flags ws fs) (are_flags ws (f ∷ fs)) ≡ true
    by_test true k = let e = not_in (one_word w) (flag_kinds ws) f.text a s in let z : is_in (one_word w) f.text ≡ true = rw k refl in absurd (both_ways (is_in (one_word w) f.text) e z)
    by_test false k = h

flag_back : (w : List ℕ) (ws : List (List ℕ)) (fs : List Placed) → are_flags (w ∷ ws) fs ≡ true → Covers (flags (w ∷ ws)) (both (may (sign plain w)) (λ _. flags ws)) fs
flag_back w ws [] h = record { other = (None, []); is_one = and_from true (are_flags ws []) refl (none_flags ws); same = record { spelled = λ ts. refl; means = refl; nests = refl } }
  where
    none_flags : (ws : List (List ℕ)) → are_flags ws [] ≡ true
    none_flags [] = refl
    none_flags (v ∷ vs) = refl
flag_back w ws (f ∷ fs) h = by_test (same_text w f.text) refl h
  where
    by_test : (b : Bool) → same_text w f.text ≡ b → cond b (are_flags ws fs) (are_flags ws (f ∷ fs)) ≡ true → Covers (flags (w ∷ ws)) (both (may (sign plain w)) (λ _. flags ws)) (f ∷ fs)
    by_test true k g = record {
      other = (Some (mark_of f), fs);
      is_one = and_from true (are_flags ws fs) refl g;
      same = record {
        spelled = λ ts. ap (λ (z : Placed). z ∷ lexemes_of (spelled_list spelled_free fs ts)) (marked_is f w (sym (text_is w f.text k)));
        means = refl;
        nests = refl;
      };
    }
    by_test false k g = record { other = (None, f ∷ fs); is_one = and_from true (are_flags ws (f ∷ fs)) refl g; same = record { spelled = λ ts. refl; means = refl; nests = refl } }

pub flags_exact : (ws : List (List ℕ)) → are_distinct ws ≡ true → IsExact (flags ws) (flag_kinds ws) true (flag_kinds ws) (flags_at ws)
flags_exact [] h =
    same_exact (done_exact tt tt refl)
    (λ t g. record { other = []; is_one = refl; same = record { spelled = λ ts. refl; means = refl; nests = refl } })
    (λ u g. back u g)
  where
    back : (u : List Placed) → are_flags [] u ≡ true → Covers (flags []) (nothing tt) u
    back [] g = record { other = tt; is_one = refl; same = record { spelled = λ ts. refl; means = refl; nests = refl } }
    back (f ∷ fs) g = absurd (cc)
flags_exact (w ∷ ws) h =
    let p = and_parts (apart (one_word w) (flag_kinds ws)) (are_distinct ws) h in
    let i = flags_exact ws p.1 in
    let both_are = both_exact (optional_exact (sign_exact plain w (wanted roles.Plain))) (λ x a g e. i) p.0 in
    let with_reader = subst (IsExact (both (may (sign plain w)) (λ _. flags ws)) (flag_kinds (w ∷ ws)) true (flag_kinds (w ∷ ws)))
    (fun_ext (λ d. fun_ext (λ ts. flag_read w ws (wanted roles.Plain) d ts))) both_are in
    same_exact with_reader
    (λ t g. forth i p.0 t.0 t.1 ((and_parts _ (are_flags ws t.1) g).1))
    (λ u g. flag_back w ws u g)
  where
    forth : IsExact (flags ws) (flag_kinds ws) true (flag_kinds ws) (flags_at ws) → apart (one_word w) (flag_kinds ws) ≡ true → (m : Option Mark) (fs : List Placed) → are_flags ws fs ≡ true
        → Covers (both (may (sign plain w)) (λ _. flags ws)) (flags (w ∷ ws)) (m, fs)
    forth i a None fs g = record { other = fs; is_one = more_flags w ws fs (i.starts fs g) a g; same = record { spelled = λ ts. refl; means = refl; nests = refl } }
    forth i a (Some m) fs g = record {
      other = marked w m ∷ fs;
      is_one = rw (same_bytes w) g;
      same = record { spelled = λ ts. refl; means = refl; nests = refl };
    }

-- ---- the flags of an operator

abbrev pub operator_flag_kinds : List Kind
operator_flag_kinds = words (codes "nuw" ∷ codes "nsw" ∷ codes "exact" ∷ codes "disjoint" ∷ []) ∷ []

word_of : (w text : List ℕ) (b : Bool) → cond (cond b true false) true false ≡ true → b ≡ true
word_of w text true h = refl
word_of w text false h = h

wrap : (b : Bool) → b ≡ true → cond b true false ≡ true
wrap b h = rw h refl

wrap_within : Within (flag_kinds (codes "nuw" ∷ codes "nsw" ∷ [])) operator_flag_kinds
wrap_within t h = by_test (same_text (codes "nuw") t) (same_text (codes "nsw") t) h
  where
    by_test : (a b : Bool) → cond (cond a true false) true (cond (cond b true false) true false) ≡ true
        → cond (cond a true (cond b true (cond (same_text (codes "exact") t) true (cond (same_text (codes "disjoint") t) true false)))) true false ≡ true
    by_test true b k = refl
    by_test false true k = refl
    by_test false false k = absurd (cc)

exact_within : Within (flag_kinds (codes "exact" ∷ [])) operator_flag_kinds
exact_within t h = by_test (same_text (codes "nuw") t) (same_text (codes "nsw") t) (same_text (codes "exact") t) h
  where
    by_test : (a b c : Bool) → cond (cond c true false) true false ≡ true → cond (cond a true (cond b true (cond c true (cond (same_text (codes "disjoint") t) true false)))) true false ≡ true
    by_test true b c k = refl
    by_test false true c k = refl
    by_test false false true k = refl
    by_test false false false k = absurd (cc)

disjoint_within : Within (flag_kinds (codes "disjoint" ∷ [])) operator_flag_kinds
disjoint_within t h = by_test (same_text (codes "nuw") t) (same_text (codes "nsw") t) (same_text (codes "exact") t) (same_text (codes "disjoint") t) h
  where
    by_test : (a b c d : Bool) → cond (cond d true false) true false ≡ true → cond (cond a true (cond b true (cond c true (cond d true false)))) true false ≡ true
    by_test true b c d k = refl
    by_test false true c d k = refl
    by_test false false true d k = refl
    by_test false false false true k = refl
    by_test false false false false k = absurd (cc)

abbrev OperatorFlags : List (List ℕ) → Type 0
OperatorFlags ws = IsExact (flags ws) operator_flag_kinds true operator_flag_kinds (flags_at ws)

wrap_flags : OperatorFlags (codes "nuw" ∷ codes "nsw" ∷ [])
wrap_flags = weaker_exact (flags_exact (codes "nuw" ∷ codes "nsw" ∷ []) refl) operator_flag_kinds wrap_within operator_flag_kinds wrap_within

exact_flags : OperatorFlags (codes "exact" ∷ [])
exact_flags = weaker_exact (flags_exact (codes "exact" ∷ []) refl) operator_flag_kinds exact_within operator_flag_kinds exact_within

disjoint_flags : OperatorFlags (codes "disjoint" ∷ [])
disjoint_flags = weaker_exact (flags_exact (codes "disjoint" ∷ []) refl) operator_flag_kinds disjoint_within operator_flag_kinds disjoint_within

pub operator_flags_exact : (o : BinaryOperator) → IsExact (flags (operator_flags o)) operator_flag_kinds true operator_flag_kinds (flags_at (operator_flags o))
operator_flags_exact operators.Add = wrap_flags
operator_flags_exact operators.Sub = wrap_flags
operator_flags_exact operators.Mul = wrap_flags
operator_flags_exact operators.Shl = wrap_flags
operator_flags_exact operators.Udiv = exact_flags
operator_flags_exact operators.Sdiv = exact_flags
operator_flags_exact operators.Lshr = exact_flags
operator_flags_exact operators.Ashr = exact_flags
operator_flags_exact operators.Urem = disjoint_flags
operator_flags_exact operators.Srem = disjoint_flags
operator_flags_exact operators.And = disjoint_flags
operator_flags_exact operators.Or = disjoint_flags
operator_flags_exact operators.Xor = disjoint_flags
