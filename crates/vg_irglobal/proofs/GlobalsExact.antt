-- The reader of globals is exact.
use Rattle.std.proofs.Common.{◌≡◌, ℕ, max, Bool, true, false, cond, ◌&&◌, Option, Some, None, is_some, unwrap_or, List, [], ◌∷◌, codes, refl, sym, ap, subst, ◌∙◌, arith, IsTrue}
use Rattle.std.specs.Option.{option_map, option_map_or}
use Rattle.std.proofs.lemmas.Bool.{and_parts, and_from}
use Rattle.vg_irlex.specs.Lexing.{are_digits}
use Rattle.vg_ir.specs.declared.name.NameAt.{NameAt}
use Rattle.vg_ir.specs.declared.ty.TypeAt.{TypeAt}
use Rattle.vg_ir.specs.declared.initializer.Initializer.{Initializer}
use Rattle.vg_ir.specs.declared.global.Global.{Global}
use Rattle.vg_ir.specs.declared.global.Linkage.{Linkage}
use Rattle.vg_ir.specs.declared.global.Linkage.TheVariants as linkages
use Rattle.vg_ir.specs.declared.global.Alignment.{Alignment}
use Rattle.vg_ir.specs.Shape.{integer_width}
use Rattle.vg_irparse.specs.declared.role.Role.TheVariants as roles
use Rattle.vg_irparse.specs.Placed.{Placed, Mark, Slot, plain, any_type}
use Rattle.vg_irparse.specs.Text.{is_global}
use Rattle.vg_irparse.specs.ReadingType.{wanted}
use Rattle.vg_irparse.specs.Words.{same_text, is_one_of, entry_of, linkage_words, address_words}
use Rattle.vg_irparse.specs.Concrete.{TypeTree, InitialTree, AlignTree}
use Rattle.vg_irparse.specs.ConcreteModule.{GlobalTree}
use Rattle.vg_irparse.specs.Grammar.{is_optional, is_text, is_type, is_initial_at, is_align}
use Rattle.vg_irparse.specs.GrammarModule.{is_linkage, kind_words, is_global_item}
use Rattle.vg_irparse.specs.Spelling.{spelled_optional, spelled_free, spelled_align}
use Rattle.vg_irparse.specs.Tree as tree
use Rattle.vg_irparse.specs.TreeModule.{linkage_of, global_of}
use Rattle.vg_irread.specs.Kinds.{Kind, words, global, digits}
use Rattle.vg_irread.specs.Reading.{Reader}
use Rattle.vg_irread.specs.Exact.{Spelling, one, sign, both, nothing, may, IsExact}
use Rattle.vg_irread.specs.ReadingType.{a_type}
use Rattle.vg_irread.specs.ReadingOperand.{global_at}
use Rattle.vg_irread.specs.ReadingInstruction.{words_of}
use Rattle.vg_irread.proofs.Single.{token_exact, done_exact}
use Rattle.vg_irread.proofs.Pairs.{both_exact}
use Rattle.vg_irread.proofs.Same.{Covers, same_exact}
use Rattle.vg_irread.proofs.Optional.{optional_exact}
use Rattle.vg_irread.proofs.TypesExact.{type_exact}
use Rattle.vg_irread.proofs.OperandsExact.{one_takes, taken_exact, sign_exact, width_same}
use Rattle.vg_irglobal.specs.ReadingInitial.{only, comma, initial_at, initial_kinds}
use Rattle.vg_irglobal.specs.ExactInitial.{an_initial}
use Rattle.vg_irglobal.specs.ReadingGlobal.{linkage_word_at, linkage_kinds, linkage_at, dso_local_at, address_word_at, address_kinds, address_at, is_constant, kind_at, alignment, alignment_at, align_at, optional_align_at, global_item_at}
use Rattle.vg_irglobal.specs.ExactGlobal.{a_global}
use Rattle.vg_irglobal.proofs.InitialsExact.{initial_exact}

of_one : (b : Bool) → b ≡ true → cond b true false ≡ true
of_one b h = rw h refl

pub global_name_exact : IsExact (one plain (λ l. is_global l.text) tree.name_at) (global ∷ []) false [] (global_at (wanted roles.Plain))
global_name_exact = taken_exact plain is_global tree.name_at (global ∷ []) (codes "@a") refl (λ t g. of_one (is_global t) g) (wanted roles.Plain)

-- ---- words of tables

pub has_word : {X : Type 0} (table : List (List ℕ × X)) (text : List ℕ) → option_map_or (λ (x : X). true) (entry_of table text) false ≡ true → is_one_of (words_of table) text ≡ true
has_word [] text h = h
has_word {X} (e ∷ es) text h = by_test (same_text e.0 text) (λ k. has_word es text k) h
  where
    by_test : (b : Bool) → (option_map_or (λ (x : X). true) (entry_of es text) false ≡ true → is_one_of (words_of es) text ≡ true)
        → option_map_or (λ (x : X). true) (cond b (Some e.1) (entry_of es text)) false ≡ true → cond b true (is_one_of (words_of es) text) ≡ true
    by_test true go k = refl
    by_test false go k = go k

entry_value : {X : Type 0} (o : Option X) (d : X) → o ≡ cond (option_map_or (λ (x : X). true) o false) (Some (unwrap_or o d)) None
entry_value None d = refl
entry_value (Some x) d = refl

abbrev a_linkage_word : Spelling Placed Linkage
a_linkage_word = one plain (λ l. option_map_or (λ (x : Linkage). true) (entry_of linkage_words l.text) false) (λ l. unwrap_or (entry_of linkage_words l.text) linkages.Private)

linkage_word_exact : IsExact a_linkage_word linkage_kinds false [] linkage_word_at
linkage_word_exact =
    token_exact (one_takes plain (λ l. option_map_or (λ (x : Linkage). true) (entry_of linkage_words l.text) false) (λ l. unwrap_or (entry_of linkage_words l.text) linkages.Private) linkage_kinds
    (λ l. entry_of linkage_words l.text) (λ l. entry_value (entry_of linkage_words l.text) linkages.Private) (record { text = codes "private"; at = 0; fresh = false }) refl
    (λ l g. of_one _ (has_word linkage_words l.text g))) (wanted roles.Plain)

-- the linkage, which may lack
abbrev pub a_linkage : Spelling (Option Placed) (Option Linkage)
a_linkage = record { grammar = is_linkage; spelled = spelled_optional spelled_free; means = linkage_of; nests = λ t. 0 }

some_entry : {X : Type 0} (o : Option X) (d : X) → option_map_or (λ (x : X). true) o false ≡ true → Some (unwrap_or o d) ≡ o
some_entry None d h = absurd (cc)
some_entry (Some x) d h = refl

pub linkage_exact : IsExact a_linkage linkage_kinds true linkage_kinds linkage_at
linkage_exact = same_exact (optional_exact linkage_word_exact) forth back
  where
    forth : (t : Option Placed) → IsTrue ((may a_linkage_word).grammar t) → Covers (may a_linkage_word) a_linkage t
    forth None g = record { other = None; is_one = refl; same = record { spelled = λ ts. refl; means = refl; nests = refl } }
    forth (Some w) g = record { other = Some w; is_one = g; same = record { spelled = λ ts. refl; means = some_entry (entry_of linkage_words w.text) linkages.Private g; nests = refl } }

    back : (t : Option Placed) → IsTrue (is_linkage t) → Covers a_linkage (may a_linkage_word) t
    back None g = record { other = None; is_one = refl; same = record { spelled = λ ts. refl; means = refl; nests = refl } }
    back (Some w) g = record { other = Some w; is_one = g; same = record { spelled = λ ts. refl; means = sym (some_entry (entry_of linkage_words w.text) linkages.Private g); nests = refl } }

-- ---- words without a trace

pub dso_local_exact : IsExact (may (sign plain (codes "dso_local"))) (only (codes "dso_local")) true (only (codes "dso_local")) dso_local_at
dso_local_exact = optional_exact (sign_exact plain (codes "dso_local") (wanted roles.Plain))

abbrev pub an_address_word : Spelling Placed ℕ
an_address_word = one plain (λ l. is_one_of address_words l.text) (λ l. l.at)

pub address_exact : IsExact (may an_address_word) address_kinds true address_kinds address_at
address_exact =
    optional_exact (taken_exact plain (is_one_of address_words) (λ l. l.at) address_kinds (codes "unnamed_addr") refl (λ t g. of_one (is_one_of address_words t) g) (wanted roles.Plain))

abbrev a_kind : Spelling Placed Bool
a_kind = one plain (λ l. is_one_of kind_words l.text) is_constant

kind_exact : IsExact a_kind (words kind_words ∷ []) false [] kind_at
kind_exact = taken_exact plain (is_one_of kind_words) is_constant (words kind_words ∷ []) (codes "global") refl (λ t g. of_one (is_one_of kind_words t) g) (wanted roles.Plain)

-- ---- alignments

abbrev an_alignment : Spelling Placed Alignment
an_alignment = one plain (λ l. are_digits l.text) alignment

alignment_exact : IsExact an_alignment (digits ∷ []) false [] alignment_at
alignment_exact = taken_exact plain are_digits alignment (digits ∷ []) (codes "1") refl (λ t g. of_one (are_digits t) g) (wanted roles.Plain)

abbrev align_parts : Spelling (Mark × (Mark × Placed)) Alignment
align_parts = both (sign plain (codes ",")) (λ c. both (sign plain (codes "align")) (λ m. an_alignment))

align_parts_exact : IsExact align_parts comma false [] align_at
unfolding align_at
align_parts_exact = both_exact (sign_exact plain (codes ",") (wanted roles.Plain)) (λ x c g e. both_exact (sign_exact plain (codes "align") (wanted roles.Plain)) (λ y m h f. alignment_exact) refl) refl

abbrev pub an_align : Spelling AlignTree Alignment
an_align = record { grammar = is_align; spelled = spelled_align; means = tree.alignment_of; nests = λ a. 0 }

pub align_exact : IsExact an_align comma false [] align_at
align_exact =
    same_exact align_parts_exact
    (λ p g. record {
      other = record { comma = p.0; at = p.1.0; number = p.1.1 };
      is_one = g;
      same = record { spelled = λ ts. refl; means = refl; nests = refl };
    })
    (λ a g. record {
      other = (a.comma, (a.at, a.number));
      is_one = g;
      same = record { spelled = λ ts. refl; means = refl; nests = refl };
    })

-- ---- all of it

abbrev Behind : Type 0
Behind = TypeTree × (InitialTree × (Option AlignTree × Unit {0}))

abbrev Parts : Type 0
Parts = Placed × (Mark × (Option Placed × (Option Mark × (Option Placed × (Placed × Behind)))))

tree_of : Parts → GlobalTree
tree_of p = record {
  name = p.0;
  equal = p.1.0;
  linkage = p.1.1.0;
  dso_local = p.1.1.1.0;
  address = p.1.1.1.1.0;
  kind = p.1.1.1.1.1.0;
  ty = p.1.1.1.1.1.1.0;
  initial = p.1.1.1.1.1.1.1.0;
  align = p.1.1.1.1.1.1.1.1.0;
}

abbrev made_of : NameAt → Option Linkage → Bool → TypeAt → Initializer → Option Alignment → Global
made_of name linkage constant t i align = record { name = name; linkage = linkage; constant = constant; ty = t; initial = i; align = align }

made_same : (n m : NameAt) (l k : Option Linkage) (b c : Bool) (t u : TypeAt) (i j : Initializer) (x y : Option Alignment)
    → n ≡ m → l ≡ k → b ≡ c → t ≡ u → i ≡ j → x ≡ y → made_of n l b t i x ≡ made_of m k c u j y
made_same n m l k b c t u i j x y e f g h p q = cc

abbrev behind : Placed → Option Placed → Placed → Spelling Behind Global
behind n l k = both (a_type any_type) (λ t. both (an_initial t) (λ i. both (may an_align) (λ a.
    nothing (made_of (tree.name_at n) (linkage_of l) (is_constant k) (tree.type_at t) (tree.initial_of i) (option_map tree.alignment_of a)))))

abbrev all_parts : Spelling Parts Global
all_parts = both (one plain (λ l. is_global l.text) tree.name_at) (λ n. both (sign plain (codes "=")) (λ q. both a_linkage (λ l. both (may (sign plain (codes "dso_local"))) (λ s.
    both (may an_address_word) (λ a. both a_kind (λ k. behind n l k))))))

initial_exact_at : (t : TypeTree) (v : Option ℕ) → v ≡ integer_width (tree.type_of t) → IsExact (an_initial t) initial_kinds false [] (initial_at v)
initial_exact_at t v e = subst (λ z. IsExact (an_initial t) initial_kinds false [] (initial_at z)) (sym e) (initial_exact t)

all_exact : IsExact all_parts (global ∷ []) false comma global_item_at
unfolding global_item_at
all_exact =
    both_exact global_name_exact (λ name n g1 e1. both_exact (sign_exact plain (codes "=") (wanted roles.Plain)) (λ equal q g2 e2.
    both_exact linkage_exact (λ linkage l g3 e3. both_exact dso_local_exact (λ dso s g4 e4. both_exact address_exact (λ address a g5 e5.
    both_exact kind_exact (λ constant k g6 e6. both_exact (type_exact any_type (wanted roles.AnyType)) (λ x t g7 e7.
    both_exact (initial_exact_at t (integer_width x.ty) (width_same x (tree.type_at t) e7)) (λ i j g8 e8. both_exact (optional_exact align_exact) (λ align b g9 e9.
    done_exact _ _ (made_same name (tree.name_at n) linkage (linkage_of l) constant (is_constant k) x (tree.type_at t) i (tree.initial_of j) align (option_map tree.alignment_of b) e1 e3 e6 e7 e8 e9))
    refl) refl) refl) refl) refl) refl) refl) refl) refl

-- the parts of the grammar, as they stand in it and one behind another
regroup : (n l a k t i x : Bool) → ((n && (l && a)) && ((k && t) && (i && x))) ≡ true → (n && (true && (l && (true && (a && (k && (t && (i && (x && true))))))))) ≡ true
regroup true true true true true true true h = refl
regroup false l a k t i x h = absurd (cc)
regroup true false a k t i x h = absurd (cc)
regroup true true false k t i x h = absurd (cc)
regroup true true true false t i x h = absurd (cc)
regroup true true true true false i x h = absurd (cc)
regroup true true true true true false x h = absurd (cc)
regroup true true true true true true false h = absurd (cc)

group_back : (n l a k t i x : Bool) → (n && (true && (l && (true && (a && (k && (t && (i && (x && true))))))))) ≡ true → ((n && (l && a)) && ((k && t) && (i && x))) ≡ true
group_back true true true true true true true h = refl
group_back false l a k t i x h = absurd (cc)
group_back true false a k t i x h = absurd (cc)
group_back true true false k t i x h = absurd (cc)
group_back true true true false t i x h = absurd (cc)
group_back true true true true false i x h = absurd (cc)
group_back true true true true true false x h = absurd (cc)
group_back true true true true true true false h = absurd (cc)

dso_any : (s : Option Mark) → option_map_or (λ (m : Mark). true) s true ≡ true
dso_any None = refl
dso_any (Some m) = refl

no_nests : {T : Type 0} (s : Option T) → ◌≡◌ {A = ℕ} (option_map_or (λ (m : T). 0) s 0) 0
no_nests None = refl
no_nests (Some m) = refl

covers_tree : (p : Parts) → IsTrue (all_parts.grammar p) → Covers all_parts a_global p
unfolding tree_of
covers_tree p g =
    let s = p.1.1.1.0 in
    let d = no_nests s in
    let e = no_nests p.1.1.1.1.0 in
    let f = no_nests p.1.1.1.1.1.1.1.1.0 in
    record {
      other = tree_of p;
      is_one =
          group_back (is_global p.0.text) (is_linkage p.1.1.0) (is_optional (is_text (is_one_of address_words)) p.1.1.1.1.0) (is_one_of kind_words p.1.1.1.1.1.0.text) (is_type p.1.1.1.1.1.1.0)
          (is_initial_at p.1.1.1.1.1.1.0 p.1.1.1.1.1.1.1.0) (is_optional is_align p.1.1.1.1.1.1.1.1.0)
          (ap (λ z. is_global p.0.text && (true && (is_linkage p.1.1.0 && (z && (is_optional (is_text (is_one_of address_words)) p.1.1.1.1.0 && (is_one_of kind_words p.1.1.1.1.1.0.text
          && (is_type p.1.1.1.1.1.1.0 && (is_initial_at p.1.1.1.1.1.1.0 p.1.1.1.1.1.1.1.0 && (is_optional is_align p.1.1.1.1.1.1.1.1.0 && true))))))))) (sym (dso_any s)) ∙ g);
      same = record { spelled = λ ts. refl; means = refl; nests = omega (arith, d, e, f) };
    }

covers_parts : (t : GlobalTree) → IsTrue (is_global_item t) → Covers a_global all_parts t
covers_parts t g =
    let d = no_nests t.dso_local in
    let e = no_nests t.address in
    let f = no_nests t.align in
    record {
      other = (t.name, (t.equal, (t.linkage, (t.dso_local, (t.address, (t.kind, (t.ty, (t.initial, (t.align, tt)))))))));
      is_one =
          ap (λ z. is_global t.name.text && (true && (is_linkage t.linkage && (z && (is_optional (is_text (is_one_of address_words)) t.address && (is_one_of kind_words t.kind.text
          && (is_type t.ty && (is_initial_at t.ty t.initial && (is_optional is_align t.align && true))))))))) (dso_any t.dso_local)
          ∙ regroup (is_global t.name.text) (is_linkage t.linkage) (is_optional (is_text (is_one_of address_words)) t.address) (is_one_of kind_words t.kind.text) (is_type t.ty)
          (is_initial_at t.ty t.initial) (is_optional is_align t.align) g;
      same = record { spelled = λ ts. refl; means = refl; nests = omega (arith, d, e, f) };
    }

pub global_item_exact : IsExact a_global (global ∷ []) false comma global_item_at
global_item_exact = same_exact all_exact covers_tree covers_parts
