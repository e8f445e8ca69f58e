-- The two laws of images: what is read is spelled so, and any other text is refused at its line.
use Rattle.std.proofs.Common.{◌≡◌, ℕ, zero, suc, ◌+◌, ◌*◌, ◌%◌, ◌^◌, ◌<◌, ◌≤◌, ◌⊎◌, Bool, true, false, IsTrue, eqb, nat_eq, List, [], ◌∷◌, ◌++◌, length, take, drop, Option, Some, None, refl, ap, sym, ◌∙◌, subst, inl, inr, append_assoc, arith, length-append}
use Rattle.std.specs.Prelude.{codes, flat_map}
use Rattle.std.proofs.lemmas.Bool.Decides.{nat_tests}
use Rattle.std.proofs.lemmas.Nat.{pow_pos}
use Rattle.std.proofs.lemmas.Option.{none-some, same_Some}
use Rattle.std.proofs.lemmas.List.{append-nil, append_cancel_left, take-append-drop, take-append-le, take_at, nil_from_length}
use Rattle.vg_isa.specs.declared.isa.Parts.{Parts}
use Rattle.vg_isa.specs.Accepted.{is_isa}
use Rattle.vg_isa.specs.Declaration.{word_bytes}
use Rattle.vg_image.specs.declared.image.Image.{Image}
use Rattle.vg_image.specs.declared.progress.Progress.{Progress}
use Rattle.vg_image.specs.declared.stage.Stage.{Stage}
use Rattle.vg_image.specs.declared.stage.Stage.TheVariants as stages
use Rattle.vg_image.specs.Lines.{ended_line, ends_with_feed, lines_of}
use Rattle.vg_image.specs.declared.refusal.Refusal.{Refusal}
use Rattle.vg_image.specs.declared.refusal.Refusal.TheVariants as refusals
use Rattle.vg_image.specs.Reader.{◌>>=◌, Fails, is_ended, line_read, line_split, lines_read, nothing_read}
use Rattle.vg_image.specs.Reading.{IsBeginning, IsFaultLine, IsNoImage, IsSpelled}
use Rattle.vg_image.specs.Spelling.{IsImage, image_lines, spelling}
use Rattle.vg_image.proofs.Bind.{bind_elim}
use Rattle.vg_image.proofs.Lines.{is_split, joined-lines_of, joined_ends, lines_of-ended, lines_of-none}
use Rattle.vg_image.proofs.Reached.{GoesOn, IsHead, IsRead, IsReadAt, goes_on, name_lines, tail_lines}
use Rattle.vg_image.proofs.Spelled.{image_read, lines_read-append, none_read, read_then, spelling_lines, stuck}
use Rattle.vg_image.proofs.Steps.{at, line_adds}
use Rattle.vg_image.proofs.MachineWidths.{AreWidths, IsMachineWidth, are_widths}

-- ---- lines that are read begin a spelling

lines_add : (d : Parts) (more lines : List (List ℕ)) (p q : Progress) → AreWidths d → IsRead d p lines → lines_read d p more ≡ Some q → IsRead d q (lines ++ more)
unfolding lines_read
lines_add d [] lines p q widths h found = subst (λ (r : Progress). IsRead d r (lines ++ [])) (same_Some p q found) (subst (λ ls. IsRead d p ls) (sym (append-nil lines)) h)
lines_add d (line ∷ more) lines p q widths h found =
    bind_elim (line_read d p line) (λ next. lines_read d next more) q (IsRead d q (lines ++ line ∷ more)) found
    (λ next first others.
    subst (λ ls. IsRead d q ls) (append_assoc lines (line ∷ []) more)
    (lines_add d more (lines ++ line ∷ []) next q widths (line_adds d p.stage p.left p.image line next lines widths h first) others))

none_left : (bytes : ℕ) → 0 % bytes ≡ 0
none_left zero = refl
none_left (suc n) = omega arith

begun : (d : Parts) → IsRead d (nothing_read d) []
begun d =
    let some : 0 < 2 ^ d.pc.width = pow_pos d.pc.width in
    (record { aligned = none_left (word_bytes d); base = some; entry = some; stop = some; full = some; data_base = some; no_code = refl; no_bytes = refl; no_symbols = refl }, refl, refl)

read_goes_on : (d : Parts) (done : List (List ℕ)) (p : Progress) → AreWidths d → lines_read d (nothing_read d) done ≡ Some p → GoesOn d p.image done
read_goes_on d done p widths ran = goes_on d p.stage p.left p.image done (lines_add d done [] (nothing_read d) p widths (begun d) ran)

-- so do fewer of them
fewer : (k : ℕ) (lines more : List (List ℕ)) → lines ++ more ≡ take k lines ++ (drop k lines ++ more)
fewer k lines more = ap (λ ls. ls ++ more) (sym (take-append-drop k lines)) ∙ append_assoc (take k lines) (drop k lines) more

begins : (d : Parts) (done : List (List ℕ)) (p : Progress) (k : ℕ) → AreWidths d → lines_read d (nothing_read d) done ≡ Some p → IsBeginning d (take k done)
begins d done p k widths ran =
    let on = read_goes_on d done p widths ran in
    (p.image, on.image, (drop k done ++ on.more, spelling_lines d p.image on.image ∙ on.lines_are ∙ fewer k done on.more))

-- ---- lines that aren't read begin none

spelling_read : (d : Parts) (i : Image) → AreWidths d → IsImage d i → (left : List ℕ) × (lines_read d (nothing_read d) (lines_of (spelling d i)) ≡ Some (at stages.End left i))
spelling_read d i widths is =
    let read = image_read d i widths is in
    (read.0, ap (lines_read d (nothing_read d)) (spelling_lines d i is) ∙ read.1)

stops : (d : Parts) (done more : List (List ℕ)) (line : List ℕ) (p : Progress) → lines_read d (nothing_read d) done ≡ Some p → line_read d p line ≡ None → lines_read d (nothing_read d) (done ++ line ∷ more) ≡ None
stops d done more line p ran wrong =
    lines_read-append d (nothing_read d) done (line ∷ more)
    ∙ ap (λ o. o >>= (λ q. lines_read d q (line ∷ more))) ran
    ∙ stuck d p line more wrong

begins_none : (d : Parts) (done : List (List ℕ)) (line : List ℕ) (p : Progress) → AreWidths d → lines_read d (nothing_read d) done ≡ Some p → line_read d p line ≡ None → IsBeginning d (done ++ line ∷ []) → ⊥
begins_none d done line p widths ran wrong (i, is, (more, begin)) =
    let read = spelling_read d i widths is in
    let none : lines_read d (nothing_read d) (lines_of (spelling d i)) ≡ None =
    ap (lines_read d (nothing_read d)) (begin ∙ append_assoc done (line ∷ []) more) ∙ stops d done more line p ran wrong in
    none-some (at stages.End read.0 i) (sym none ∙ read.1)

-- ---- a text as far as it is read

-- these lines of the text are read, whose next is this one, and this much of it is left
pub record IsReached (d : Parts) (text : List ℕ) (p : Progress) (line : ℕ) (rest : List ℕ) : Type 0 where
  pub done : List (List ℕ)
  pub ran : lines_read d (nothing_read d) done ≡ Some p
  pub lines : lines_of text ≡ done ++ lines_of rest
  pub count : line ≡ length done + 1
  pub within : line + length rest ≤ length text + 1

pub at_start : (d : Parts) (text : List ℕ) → IsReached d text (nothing_read d) 1 text
at_start d text = record { done = []; ran = none_read d (nothing_read d); lines = refl; count = refl; within = omega arith }

pub at_next : (d : Parts) (text rest : List ℕ) (p q : Progress) (line : ℕ) → 0 < length rest → IsReached d text p line rest → line_read d p (line_split rest).0 ≡ Some q → IsReached d text q (line + 1) (line_split rest).1
at_next d text rest p q line some h found =
    let split = is_split rest some in
    let next : List ℕ = (line_split rest).0 in
    record {
      done = h.done ++ next ∷ [];
      ran = lines_read-append d (nothing_read d) h.done (next ∷ []) ∙ ap (λ o. o >>= (λ r. lines_read d r (next ∷ []))) h.ran ∙ read_then d p q next [] found ∙ none_read d q;
      lines = h.lines ∙ ap (λ ls. h.done ++ ls) split.lines ∙ sym (append_assoc h.done (next ∷ []) (lines_of (line_split rest).1));
      count = omega (arith, h.count, length-append h.done (next ∷ []));
      within = omega (arith, h.within, split.shorter);
    }

-- as far as it is read, a spelling begins with its lines
before_all : (d : Parts) (text rest : List ℕ) (p : Progress) (line : ℕ) → AreWidths d → IsReached d text p line rest → (k : ℕ) → k < line → IsBeginning d (take k (lines_of text))
before_all d text rest p line widths h k below =
    subst (IsBeginning d) (sym (ap (take k) h.lines ∙ take-append-le k h.done (lines_of rest) (omega (arith, h.count)))) (begins d h.done p k widths h.ran)

take_one_more : (done : List (List ℕ)) (line : List ℕ) (more : List (List ℕ)) → take (length done + 1) (done ++ line ∷ more) ≡ done ++ line ∷ []
take_one_more done line more =
    ap (take (length done + 1)) (sym (append_assoc done (line ∷ []) more)) ∙ take_at (done ++ line ∷ []) more (length done + 1) (length-append done (line ∷ []))

-- the next line isn't read
pub at_wrong : (d : Parts) (text rest : List ℕ) (p : Progress) (line : ℕ) → IsTrue (is_isa d) → 0 < length rest → IsReached d text p line rest → line_read d p (line_split rest).0 ≡ None → IsFaultLine d text line
at_wrong d text rest p line accepted some h wrong =
    let widths = are_widths d accepted in
    let next : List ℕ = (line_split rest).0 in
    let more : List (List ℕ) = lines_of (line_split rest).1 in
    let all : lines_of text ≡ h.done ++ next ∷ more = h.lines ∙ ap (λ ls. h.done ++ ls) (is_split rest some).lines in
    let up_to : take line (lines_of text) ≡ h.done ++ next ∷ [] = (λ j. take (h.count j) (all j)) ∙ take_one_more h.done next more in
    record {
      no_image = λ i is.
          let read = spelling_read d i widths is.image in
          let none : lines_read d (nothing_read d) (lines_of (spelling d i)) ≡ None = ap (λ t. lines_read d (nothing_read d) (lines_of t)) (sym is.text) ∙ ap (lines_read d (nothing_read d)) all ∙ stops d h.done more next p h.ran wrong in
          none-some (at stages.End read.0 i) (sym none ∙ read.1);
      before = before_all d text rest p line widths h;
      here = λ within begin. begins_none d h.done next p widths h.ran wrong (subst (IsBeginning d) up_to begin);
      within = omega (arith, h.count, ap (λ (ls : List (List ℕ)). length ls) all, length-append h.done (next ∷ more));
    }

-- ---- the end of a text

pub ends-none : (text : List ℕ) → length text ≡ 0 → ends_with_feed text ≡ false
unfolding ends_with_feed
ends-none [] none = refl
ends-none (c ∷ text) none = absurd (omega arith)

pub ends-snoc : (front : List ℕ) (c : ℕ) → ends_with_feed (front ++ c ∷ []) ≡ eqb c 10
unfolding ends_with_feed
ends-snoc [] c = refl
ends-snoc (b ∷ []) c = refl
ends-snoc (b ∷ e ∷ front) c = ends-snoc (e ∷ front) c

spelling_ends : (d : Parts) (i : Image) → ends_with_feed (spelling d i) ≡ true
unfolding spelling
spelling_ends d i =
    let split = joined_ends (codes "image " ++ d.name) (tail_lines d i) in
    ap ends_with_feed split.1 ∙ ends-snoc split.0 10

feed_behind : (text : List ℕ) → ends_with_feed text ≡ true → (front : List ℕ) × (text ≡ front ++ 10 ∷ [])
unfolding ends_with_feed
feed_behind [] is = cc
feed_behind (c ∷ []) is = ([], ap (λ b. b ∷ []) (eqb-eq c is))
  where
    eqb-eq : (c : ℕ) → eqb c 10 ≡ true → c ≡ 10
    eqb-eq c is = grind (arith, nat_tests)
feed_behind (c ∷ e ∷ text) is = let tail = feed_behind (e ∷ text) is in (c ∷ tail.0, ap (λ t. c ∷ t) tail.1)

-- two texts with the same lines that end with a line feed are one
text_is_lines : (text : List ℕ) → ends_with_feed text ≡ true → flat_map ended_line (lines_of text) ≡ text
text_is_lines text is =
    let split = feed_behind text is in
    ap (λ t. flat_map ended_line (lines_of t)) split.1 ∙ joined-lines_of split.0 ∙ sym split.1

same_lines : (a b : List ℕ) → ends_with_feed a ≡ true → ends_with_feed b ≡ true → lines_of a ≡ lines_of b → a ≡ b
same_lines a b first second same = sym (text_is_lines a first) ∙ ap (flat_map ended_line) same ∙ text_is_lines b second

all_done : (d : Parts) (text rest : List ℕ) (p : Progress) (line : ℕ) → length rest ≡ 0 → (h : IsReached d text p line rest) → lines_of text ≡ h.done
all_done d text rest p line none h =
    h.lines ∙ ap (λ t. h.done ++ lines_of t) (nil_from_length rest none) ∙ ap (λ ls. h.done ++ ls) lines_of-none ∙ append-nil h.done

ended_image : (d : Parts) (s : Stage) (left : List ℕ) (i : Image) (lines : List (List ℕ)) → is_ended s ≡ true → IsReadAt d s left i lines → IsImage d i × (lines ≡ name_lines d ++ tail_lines d i)
ended_image d stages.End left i lines is h = h
ended_image d stages.Image left i lines is h = cc
ended_image d stages.Name left i lines is h = cc
ended_image d stages.Base left i lines is h = cc
ended_image d stages.Entry left i lines is h = cc
ended_image d stages.Stop left i lines is h = cc
ended_image d stages.Full left i lines is h = cc
ended_image d stages.Code left i lines is h = cc
ended_image d stages.Bytes left i lines is h = cc
ended_image d stages.Symbols left i lines is h = cc

pub at_end : (d : Parts) (text rest : List ℕ) (p : Progress) (line : ℕ) → IsTrue (is_isa d) → length rest ≡ 0 → IsReached d text p line rest → is_ended p.stage ≡ true → ends_with_feed text ≡ true → IsSpelled d text p.image
at_end d text rest p line accepted none h last feed =
    let read = ended_image d p.stage p.left p.image h.done last (lines_add d h.done [] (nothing_read d) p (are_widths d accepted) (begun d) h.ran) in
    record {
      image = read.0;
      text = same_lines text (spelling d p.image) feed (spelling_ends d p.image) (all_done d text rest p line none h ∙ read.1 ∙ sym (spelling_lines d p.image read.0));
    }

-- more must follow, or the last line feed is lacking
pub at_short : (d : Parts) (text rest : List ℕ) (p : Progress) (line : ℕ) → IsTrue (is_isa d) → length rest ≡ 0 → IsReached d text p line rest → (is_ended p.stage ≡ false) ⊎ (ends_with_feed text ≡ false) → IsFaultLine d text line
at_short d text rest p line accepted none h lacking =
    let widths = are_widths d accepted in
    let all : lines_of text ≡ h.done = all_done d text rest p line none h in
    record {
      no_image = λ i is.
          let read = spelling_read d i widths is.image in
          let same : p ≡ at stages.End read.0 i =
          same_Some p (at stages.End read.0 i) (sym h.ran ∙ ap (lines_read d (nothing_read d)) (sym all) ∙ ap (λ t. lines_read d (nothing_read d) (lines_of t)) is.text ∙ read.1) in
          none_lacks (ap (λ (q : Progress). is_ended q.stage) same) (ap ends_with_feed is.text ∙ spelling_ends d i) lacking;
      before = before_all d text rest p line widths h;
      here = λ within begin. absurd (omega (arith, h.count, within, ap (λ (ls : List (List ℕ)). length ls) all));
      within = omega (arith, h.count, ap (λ (ls : List (List ℕ)). length ls) all);
    }
  where
    none_lacks : {a b : Bool} → a ≡ true → b ≡ true → (a ≡ false) ⊎ (b ≡ false) → ⊥
    none_lacks x y (inl z) = cc
    none_lacks x y (inr z) = cc

-- ---- one image, one line

-- two images that one text spells are one
pub same_image : (d : Parts) (text : List ℕ) (i j : Image) → IsTrue (is_isa d) → IsSpelled d text i → IsSpelled d text j → i ≡ j
same_image d text i j accepted first second =
    let widths = are_widths d accepted in
    let one = spelling_read d i widths first.image in
    let other = spelling_read d j widths second.image in
    let same : at stages.End one.0 i ≡ at stages.End other.0 j =
    same_Some (at stages.End one.0 i) (at stages.End other.0 j) (sym one.1 ∙ ap (λ t. lines_read d (nothing_read d) (lines_of t)) (sym first.text ∙ second.text) ∙ other.1) in
    ap (λ (p : Progress). p.image) same

-- what is read up to the end goes on with no line
after_end : (d : Parts) (left : List ℕ) (i : Image) (lines : List (List ℕ)) (p : Progress) → lines_read d (at stages.End left i) lines ≡ Some p → lines ≡ []
unfolding lines_read line_read
after_end d left i [] p is = refl
after_end d left i (line ∷ lines) p is = absurd (none-some p is)

-- no spelling is a proper prefix of another
pub no_prefix : (d : Parts) (i j : Image) (rest : List ℕ) → IsTrue (is_isa d) → IsImage d i → IsImage d j → spelling d i ++ rest ≡ spelling d j → rest ≡ []
no_prefix d i j rest accepted first second is =
    let widths = are_widths d accepted in
    let one = spelling_read d i widths first in
    let other = spelling_read d j widths second in
    let split = feed_behind (spelling d i) (spelling_ends d i) in
    let lines : lines_of (spelling d j) ≡ lines_of (spelling d i) ++ lines_of rest =
    ap lines_of (sym is ∙ ap (λ t. t ++ rest) split.1 ∙ append_assoc split.0 (10 ∷ []) rest) ∙ lines_of-ended split.0 rest ∙ ap (λ t. lines_of t ++ lines_of rest) (sym split.1) in
    let goes : lines_read d (at stages.End one.0 i) (lines_of rest) ≡ Some (at stages.End other.0 j) =
    ap (λ o. o >>= (λ q. lines_read d q (lines_of rest))) (sym one.1) ∙ sym (lines_read-append d (nothing_read d) (lines_of (spelling d i)) (lines_of rest)) ∙ ap (lines_read d (nothing_read d)) (sym lines) ∙ other.1 in
    no_lines rest (after_end d one.0 i (lines_of rest) (at stages.End other.0 j) goes)
  where
    no_lines : (rest : List ℕ) → lines_of rest ≡ [] → rest ≡ []
    no_lines [] none = refl
    no_lines (c ∷ rest) none = absurd (not_none (sym (is_split (c ∷ rest) (omega arith)).lines ∙ none))
      where
        not_none : {first : List ℕ} {others : List (List ℕ)} → first ∷ others ≡ [] → ⊥
        not_none e = cc

-- two lines at which one text is refused are one
pub same_line : (d : Parts) (text : List ℕ) (l m : ℕ) → IsFaultLine d text l → IsFaultLine d text m → l ≡ m
same_line d text l m first second = not_apart (not_before d text l m first second) (not_before d text m l second first)
  where
    not_before : (d : Parts) (text : List ℕ) (l m : ℕ) → IsFaultLine d text l → IsFaultLine d text m → l < m → ⊥
    not_before d text l m first second below = first.here (omega (arith, second.within, below)) (second.before l below)

    not_apart : {l m : ℕ} → (l < m → ⊥) → (m < l → ⊥) → l ≡ m
    not_apart f g = omega (arith, f, g)

-- ---- what the code's tests say

pub left_of : (rest : List ℕ) → false ≡ nat_eq (length rest) 0 → 0 < length rest
left_of rest is = grind (arith, nat_tests)

pub none_of : (rest : List ℕ) → true ≡ nat_eq (length rest) 0 → length rest ≡ 0
none_of rest is = grind (arith, nat_tests)

pub not_wrong : (e : Refusal) (read : Option Progress) → e ≡ refusals.Wrong → Fails e read → read ≡ None
not_wrong e read is failed = subst (λ r. Fails r read) is failed
