-- Two answers to the same words and files agree.
use Rattle.std.proofs.Common.{inl, inr, ◌≡◌, ◌≢◌, ◌⊎◌, ℕ, Bool, true, false, List, [], ◌∷◌, length, nat_lt, IsTrue, Option, Some, None, refl, sym, ap, subst, ◌∙◌, arith}
use Rattle.std.specs.Bool.{MatchBool}
use Rattle.vg_isa.specs.declared.isa.Parts.{Parts}
use Rattle.vg_isa.specs.Accepted.{is_isa}
use Rattle.vg_image.specs.declared.image.Image.{Image}
use Rattle.vg_image.specs.declared.ending.Ending.{Ending}
use Rattle.vg_image.specs.declared.ending.Ending.TheVariants as ending
use Rattle.vg_image.specs.Run.{run_of}
use Rattle.vg_image.specs.State.{first_state}
use Rattle.vg_image.proofs.Images.{same_image, same_line}
use Rattle.vg_top.specs.declared.needs.Needs.{Needs}
use Rattle.vg_top.specs.declared.reason.Reason.{Reason}
use Rattle.vg_top.specs.declared.status.Status.{Status}
use Rattle.vg_top.specs.declared.status.Status.TheVariants as status
use Rattle.vg_top.specs.Agreeing.{Agree, FailAlike}
use Rattle.vg_top.specs.Answers.{Held, Answer, Answers, Only, Refuses, WithBytes, WithFile}
use Rattle.vg_top.specs.Commands.{NoForm, command, answers_in, IsAnswer}
use Rattle.vg_top.specs.Commands.Check as check
use Rattle.vg_top.specs.Commands.Run as run
use Rattle.vg_top.specs.Description.{IsDescription}
use Rattle.vg_top.specs.Needs.{nothing_more}
use Rattle.vg_top.specs.Reading.{description_limit, image_limit, WithDescription, WithImage}
use Rattle.vg_top.specs.Reason.{reason_line}
use Rattle.vg_top.specs.Refusal.{image_refused, not_built, too_long, usage_line}
use Rattle.vg_top.specs.Reports.Check.{check_report}
use Rattle.vg_top.specs.Reports.Run.{run_report, run_status}
use Rattle.vg_top.proofs.OneDescription.{one_description}
use Rattle.vg_top.proofs.OneReason.{one_reason, described_or_refused, same_reason}

-- answers of which any two agree, and none of which is one to a load that has failed before a file was asked for
pub record IsOne (P : Answers) : Type 0 where
  pub one : (a b : Answer) → P a → P b → FailAlike a b → Agree a b
  pub begins : (a : Answer) → P a → a.status ≡ status.ReadFault → a.asked ≢ []

one_only : (s : Status) (text : List ℕ) → s ≢ status.ReadFault → IsOne (Only s text)
one_only s text other = record {
  one = λ a b x y f. (x.0 ∙ sym y.0, x.1 ∙ sym y.1, x.2 ∙ sym y.2);
  begins = λ a x e none. other (sym x.1 ∙ e);
}

one_bool : (t : Bool) (P Q : Answers) → IsOne P → IsOne Q → IsOne (λ a. MatchBool t (P a) (Q a))
one_bool true P Q p q = p
one_bool false P Q p q = q

one_bytes : (name : List ℕ) (limit : ℕ) (held : Option (List ℕ)) (next : List ℕ → Answers) → ((bytes : List ℕ) → IsOne (next bytes)) → IsOne (WithBytes name limit held next)
one_bytes name limit None next h = record { one = λ a b x y f. absurd x; begins = λ a x e none. absurd x }
one_bytes name limit (Some bytes) next h =
    one_bool (nat_lt limit (length bytes)) (Refuses (too_long name)) (next bytes) (one_only status.Refused (too_long name) (λ e. cc)) (h bytes)

not_empty : (xs : List (List ℕ)) (x : List ℕ) (more : List (List ℕ)) → xs ≡ x ∷ more → xs ≡ [] → ⊥
not_empty [] x more e n = cc
not_empty (y ∷ xs) x more e n = cc

no_more : (more : List (List ℕ)) → length more ≡ 0 → more ≡ []
no_more [] e = refl
no_more (x ∷ more) e = absurd (omega (arith, e))

module _ (held : Held) (name : List ℕ) (limit : ℕ) (next : List ℕ → Answers) (h : (bytes : List ℕ) → IsOne (next bytes)) where
  bytes_one : IsOne (WithBytes name limit (held name) next)
  bytes_one = one_bytes name limit (held name) next h

  -- one load failed, and the other gave bytes
  apart : (a b : Answer) (more : List (List ℕ)) → a.asked ≡ name ∷ [] → a.status ≡ status.ReadFault → b.asked ≡ name ∷ more → WithBytes name limit (held name) next (record b { asked = more })
      → (((a.status ≢ status.ReadFault) × (b.status ≢ status.ReadFault)) ⊎ ((a.status ≡ status.ReadFault) × (b.status ≡ status.ReadFault) × (length a.asked ≡ length b.asked))) → ⊥
  apart a b more x failed y w (inl f) = f.0 failed
  apart a b more x failed y w (inr f) =
      bytes_one.begins (record b { asked = more }) w f.1 (no_more more (omega (arith, ap length x, ap length y, f.2)))

  turned : (a b : Answer) → FailAlike a b → FailAlike b a
  turned a b (inl f) = inl (f.1, f.0)
  turned a b (inr f) = inr (f.1, f.0, sym f.2)

  behind : (a b : Answer) (more others : List (List ℕ)) → a.asked ≡ name ∷ more → b.asked ≡ name ∷ others → FailAlike a b → FailAlike (record a { asked = more }) (record b { asked = others })
  behind a b more others x y (inl f) = inl f
  behind a b more others x y (inr f) = inr (f.0, f.1, omega (arith, ap length x, ap length y, f.2))

  file_one : (a b : Answer) → WithFile held name limit next a → WithFile held name limit next b → FailAlike a b → Agree a b
  file_one a b (inl x) (inl y) f = (x.0 ∙ sym y.0, x.1 ∙ sym y.1, x.2 ∙ sym y.2)
  file_one a b (inl x) (inr (more, y, w)) f = absurd (apart a b more x.0 x.1 y w f)
  file_one a b (inr (more, x, w)) (inl y) f = absurd (apart b a more y.0 y.1 x w (turned a b f))
  file_one a b (inr (more, x, w)) (inr (others, y, v)) f =
      let agree = bytes_one.one (record a { asked = more }) (record b { asked = others }) w v (behind a b more others x y f) in
      (x ∙ ap (λ (l : List (List ℕ)). name ∷ l) agree.0 ∙ sym y, agree.1, agree.2)

  file_begins : (a : Answer) → WithFile held name limit next a → a.asked ≢ []
  file_begins a (inl x) none = not_empty a.asked name [] x.0 none
  file_begins a (inr (more, x, w)) none = not_empty a.asked name more x none

  one_file : IsOne (WithFile held name limit next)
  one_file = record { one = file_one; begins = λ a x e. file_begins a x }

module _ (bytes : List ℕ) (needs : Needs) (next : Parts → Answers) (h : (d : Parts) → IsDescription bytes d → IsOne (next d)) where
  text_one : (a b : Answer) → WithDescription bytes needs next a → WithDescription bytes needs next b → FailAlike a b → Agree a b
  text_one a b (inl (d, is, l, x)) (inl (e, js, m, y)) f = (h d is).one a b x (subst (λ (p : Parts). next p b) (one_description bytes e d js is) y) f
  text_one a b (inl (d, is, l, x)) (inr (r, js, y)) f = absurd (described_or_refused bytes needs d r is l js)
  text_one a b (inr (r, is, x)) (inl (e, js, m, y)) f = absurd (described_or_refused bytes needs e r js m is)
  text_one a b (inr (r, is, x)) (inr (s, js, y)) f =
      let same : s ≡ r = same_reason bytes needs r s (one_reason bytes needs r s is js) in
      (x.0 ∙ sym y.0, x.1 ∙ sym y.1, x.2 ∙ sym (ap (reason_line bytes) same) ∙ sym y.2)

  text_begins : (a : Answer) → WithDescription bytes needs next a → a.status ≡ status.ReadFault → a.asked ≢ []
  text_begins a (inl (d, is, l, x)) e = (h d is).begins a x e
  text_begins a (inr (r, is, x)) e = λ none. let d : status.Refused ≡ status.ReadFault = sym x.1 ∙ e in cc

  one_text : IsOne (WithDescription bytes needs next)
  one_text = record { one = text_one; begins = text_begins }

module _ (d : Parts) (accepted : IsTrue (is_isa d)) (bytes : List ℕ) (next : Image → Answers) (h : (i : Image) → IsOne (next i)) where
  image_one : (a b : Answer) → WithImage d bytes next a → WithImage d bytes next b → FailAlike a b → Agree a b
  image_one a b (inl (i, is, x)) (inl (j, js, y)) f = (h i).one a b x (subst (λ (k : Image). next k b) (same_image d bytes j i accepted js is) y) f
  image_one a b (inl (i, is, x)) (inr (l, js, y)) f = absurd (js.no_image i is)
  image_one a b (inr (l, is, x)) (inl (j, js, y)) f = absurd (is.no_image j js)
  image_one a b (inr (l, is, x)) (inr (m, js, y)) f =
      let same : l ≡ m = same_line d bytes l m is js in
      (x.0 ∙ sym y.0, x.1 ∙ sym y.1, x.2 ∙ ap image_refused same ∙ sym y.2)

  image_begins : (a : Answer) → WithImage d bytes next a → a.status ≡ status.ReadFault → a.asked ≢ []
  image_begins a (inl (i, is, x)) e = (h i).begins a x e
  image_begins a (inr (l, is, x)) e = λ empty. let d : status.Refused ≡ status.ReadFault = sym x.1 ∙ e in cc

  one_image : IsOne (WithImage d bytes next)
  one_image = record { one = image_one; begins = image_begins }

no_fault : (e : Option Ending) → run_status e ≢ status.ReadFault
no_fault None e = cc
no_fault (Some ending.End) e = cc
no_fault (Some ending.StackEnd) e = cc
no_fault (Some ending.OutOfCode) e = cc
no_fault (Some ending.Illegal) e = cc

-- ---- each command

one_check : (words : check.Check) (held : Held) → IsOne ((check.plan words).answers held)
one_check words held =
    one_file held words.description description_limit check.CheckAnswers
    (λ bytes. one_text bytes nothing_more (λ d. Only status.Done (check_report d)) (λ d is. one_only status.Done (check_report d) (λ e. cc)))

one_report : (d : Parts) (bound : ℕ) (i : Image) → IsOne (run.Reports d i bound)
one_report d bound i =
    let r = run_of d i bound (first_state d i) in one_only (run_status r.ending) (run_report d i r) (no_fault r.ending)

one_bare : (d : Parts) (bound : ℕ) (i : Image) → IsOne (run.BareReports d bound i)
one_bare d bound i =
    let line : List ℕ = not_built (run.unbuilt_line i, 1) in
    one_bool (run.is_bare i) (run.Reports d i bound) (Refuses line) (one_report d bound i) (one_only status.Refused line (λ e. cc))

one_run : (words : run.Run) (held : Held) → IsOne ((run.plan words).answers held)
one_run words held =
    one_file held words.description description_limit (run.RunAnswers words held)
    (λ bytes. one_text bytes nothing_more (λ d. WithFile held words.image image_limit (run.ImageAnswers d words.bound))
    (λ d is. one_file held words.image image_limit (run.ImageAnswers d words.bound)
    (λ text. one_image d is.accepts text (run.BareReports d words.bound) (one_bare d words.bound))))

-- ---- the list of commands

one_asked : (held : Held) (c : Option check.Check) (r : Option run.Run) → IsOne (answers_in (command check.plan c (command run.plan r NoForm)) held)
one_asked held (Some words) r = one_check words held
one_asked held None (Some words) = one_run words held
one_asked held None None = one_only status.Usage usage_line (λ e. cc)

pub one_answer : (held : Held) (words : List (List ℕ)) (a b : Answer) → IsAnswer held words a → IsAnswer held words b → FailAlike a b → Agree a b
one_answer held words a b x y f = (one_asked held (check.form words) (run.form words)).one a b x y f
