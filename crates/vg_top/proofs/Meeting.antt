-- From an answer that was made and written to the theorem of the call.
use Rattle.std.proofs.Common.{inl, inr, ◌≡◌, ◌≢◌, ◌⊎◌, ℕ, ◌≤◌, false, List, [], ◌++◌, take, Option, Some, None, IfSome, refl, sym, ap, subst, ◌∙◌, arith}
use Rattle.vg_io.specs.Count.{one_more, Rose}
use Rattle.vg_io.specs.Sink.{append_known}
use Rattle.vg_io.proofs.Told.{append_known-nil}
use Rattle.vg_top.specs.declared.answer.Answer as code
use Rattle.vg_top.specs.declared.status.Status.{Status}
use Rattle.vg_top.specs.declared.status.Status.TheVariants as status
use Rattle.vg_top.specs.Answers.{Held}
use Rattle.vg_top.specs.Change.{OutputTold, Change}
use Rattle.vg_top.specs.Commands.{asked_by, is_form, names_in, answers_in}
use Rattle.vg_top.specs.Driving.{IsFinal}
use Rattle.vg_top.specs.Refusal.{usage_line}
use Rattle.vg_top.specs.Tasks.{answer_with}
use Rattle.vg_top.specs.Theorem.{IsCut, Writes, IsAnswered, IsComplete, HasPutFailed, AsksUnder, AsksForNames, StopsLoading, StopsPutting, Meets}

-- a writing that was cut short had a cause
cut_cause : (c : Change) (s : Status) → StopsPutting s c.output.faults c.output.nones c.output_after.faults c.output_after.nones → ¬ HasPutFailed c → s ≢ status.OutOfMemory → IsCut s → ⊥
cut_cause c status.WriteFault (inl h) none enough cut = none (inl (omega (arith, h.0)))
cut_cause c status.WriteFault (inr h) none enough cut = none (inr (omega (arith, h.1)))
cut_cause c status.OutOfMemory h none enough cut = enough refl
cut_cause c status.Done h none enough cut = cut
cut_cause c status.Refused h none enough cut = cut
cut_cause c status.Usage h none enough cut = cut
cut_cause c status.ReadFault h none enough cut = cut
cut_cause c status.Running h none enough cut = cut
cut_cause c status.StackFull h none enough cut = cut
cut_cause c status.Illegal h none enough cut = cut
cut_cause c status.OutOfCode h none enough cut = cut

-- what is asked for under a status that cuts the writing short
asks_some : (asked left : List (List ℕ)) (s : Status) (text : List ℕ) → IsFinal s text → AsksUnder asked left s → asked ≡ [] → left ≡ []
asks_some asked left status.Done text f h e = h
asks_some asked left status.Refused text f h e = h e
asks_some asked left status.Usage text f h e = h
asks_some asked left status.ReadFault text f h e = absurd (h e)
asks_some asked left status.WriteFault text f h e = absurd f
asks_some asked left status.OutOfMemory text f h e = absurd f
asks_some asked left status.Running text f h e = h
asks_some asked left status.StackFull text f h e = h
asks_some asked left status.Illegal text f h e = h
asks_some asked left status.OutOfCode text f h e = h

asks_cut : (asked left : List (List ℕ)) (s : Status) → IsCut s → (asked ≡ [] → left ≡ []) → AsksUnder asked left s
asks_cut asked left status.WriteFault cut h = h
asks_cut asked left status.OutOfMemory cut h = tt
asks_cut asked left status.Done cut h = absurd cut
asks_cut asked left status.Refused cut h = absurd cut
asks_cut asked left status.Usage cut h = absurd cut
asks_cut asked left status.ReadFault cut h = absurd cut
asks_cut asked left status.Running cut h = absurd cut
asks_cut asked left status.StackFull cut h = absurd cut
asks_cut asked left status.Illegal cut h = absurd cut
asks_cut asked left status.OutOfCode cut h = absurd cut

-- a load that failed ends with a read fault, so the count stands still where the writing was cut short
loads_none : (s : Status) (text : List ℕ) (before after : ℕ) → IsFinal s text → s ≢ status.ReadFault → StopsLoading s before after → after ≡ before
loads_none status.Done text before after f n h = h
loads_none status.Refused text before after f n h = h
loads_none status.Usage text before after f n h = h
loads_none status.ReadFault text before after f n h = absurd (n refl)
loads_none status.WriteFault text before after f n h = absurd f
loads_none status.OutOfMemory text before after f n h = absurd f
loads_none status.Running text before after f n h = h
loads_none status.StackFull text before after f n h = h
loads_none status.Illegal text before after f n h = h
loads_none status.OutOfCode text before after f n h = h

loads_cut : (s : Status) (before after : ℕ) → IsCut s → after ≡ before → StopsLoading s before after
loads_cut status.WriteFault before after cut h = h
loads_cut status.OutOfMemory before after cut h = inl h
loads_cut status.Done before after cut h = absurd cut
loads_cut status.Refused before after cut h = absurd cut
loads_cut status.Usage before after cut h = absurd cut
loads_cut status.ReadFault before after cut h = absurd cut
loads_cut status.Running before after cut h = absurd cut
loads_cut status.StackFull before after cut h = absurd cut
loads_cut status.Illegal before after cut h = absurd cut
loads_cut status.OutOfCode before after cut h = absurd cut

module _ (words : List (List ℕ)) (c : Change) (answer : code.Answer) (result : Status) where
  abbrev IsTold : Type 0
  IsTold = IfSome c.files.held (λ held. (asked : List (List ℕ)) × (c.files_after.asked ≡ c.files.asked ++ asked) × answers_in (asked_by words) held (answer_with asked answer))

  abbrev IsWritten : Type 0
  IsWritten = Writes answer.status answer.text.items result c.output c.output_after

  answered : (told : Option Held)
      → IfSome told (λ held. (asked : List (List ℕ)) × (c.files_after.asked ≡ c.files.asked ++ asked) × answers_in (asked_by words) held (answer_with asked answer))
      → (answer.status ≡ status.ReadFault → result ≡ status.ReadFault) → IsWritten → IsAnswered words (record c { files = record c.files { held = told } }) result
  answered None told unread writes = tt
  answered (Some held) told unread writes = inl (answer_with told.0 answer, told.2, told.1, unread, writes)

  whole : ¬ HasPutFailed c → result ≢ status.OutOfMemory → StopsPutting result c.output.faults c.output.nones c.output_after.faults c.output_after.nones → IsWritten
      → (answer.status ≡ result) × (c.output_after.written ≡ append_known c.output.written answer.text.items)
  whole none enough puts (inl w) = (sym w.0, w.1)
  whole none enough puts (inr w) = absurd (cut_cause c result puts none enough w.0)

  complete : (told : Option Held)
      → IfSome told (λ held. (asked : List (List ℕ)) × (c.files_after.asked ≡ c.files.asked ++ asked) × answers_in (asked_by words) held (answer_with asked answer))
      → StopsPutting result c.output.faults c.output.nones c.output_after.faults c.output_after.nones → IsWritten
      → IsComplete words (record c { files = record c.files { held = told } }) result
  complete None told puts writes = tt
  complete (Some held) told puts writes =
      λ none enough. let w = whole none enough puts writes in (answer_with told.0 answer, told.2, told.1, w.0, w.1)

  asks : (names : List (List ℕ)) → IsFinal answer.status answer.text.items → IsWritten → AsksForNames names c.files.asked c.files_after.asked answer.status → AsksForNames names c.files.asked c.files_after.asked result
  asks names final (inl w) h = subst (AsksForNames names c.files.asked c.files_after.asked) (sym w.0) h
  asks names final (inr w) (asked, left, is, after, under) = (asked, left, is, after, asks_cut asked left result w.0 (asks_some asked left answer.status answer.text.items final under))

  loads : IsFinal answer.status answer.text.items → (answer.status ≡ status.ReadFault → result ≡ status.ReadFault) → IsWritten
      → StopsLoading answer.status c.files.faults c.files_after.faults → StopsLoading result c.files.faults c.files_after.faults
  loads final unread (inl w) h = subst (λ (s : Status). StopsLoading s c.files.faults c.files_after.faults) (sym w.0) h
  loads final unread (inr w) h =
      loads_cut result c.files.faults c.files_after.faults w.0
      (loads_none answer.status answer.text.items c.files.faults c.files_after.faults final (λ e. subst IsCut (unread e) w.0) h)

  usage : (answer.status ≡ status.Usage → is_form (asked_by words) ≡ false) → IsWritten → result ≡ status.Usage → is_form (asked_by words) ≡ false
  usage h (inl w) e = h (sym w.0 ∙ e)
  usage h (inr w) e = absurd (subst IsCut e w.0)

  no_form : (is_form (asked_by words) ≡ false → (answer.status ≡ status.Usage) × (answer.text.items ≡ usage_line)) → IsWritten
      → is_form (asked_by words) ≡ false → Writes status.Usage usage_line result c.output c.output_after
  no_form h writes is =
      subst (λ (t : List ℕ). Writes status.Usage t result c.output c.output_after) (h is).1
      (subst (λ (s : Status). Writes s answer.text.items result c.output c.output_after) (h is).0 writes)

  -- an answer was made, and written whole or in part
  pub meets_written : IsTold → AsksForNames (names_in (asked_by words)) c.files.asked c.files_after.asked answer.status → IsFinal answer.status answer.text.items
      → (answer.status ≡ status.Usage → is_form (asked_by words) ≡ false)
      → (is_form (asked_by words) ≡ false → (answer.status ≡ status.Usage) × (answer.text.items ≡ usage_line))
      → StopsLoading answer.status c.files.faults c.files_after.faults → c.files.faults ≤ c.files_after.faults → c.files_after.held ≡ c.files.held
      → IsWritten → (result ≡ status.ReadFault → c.output_after.written ≡ c.output.written) → (answer.status ≡ status.ReadFault → result ≡ status.ReadFault)
      → StopsPutting result c.output.faults c.output.nones c.output_after.faults c.output_after.nones → c.output.faults ≤ c.output_after.faults → c.output.nones ≤ c.output_after.nones
      → Meets words c result
  meets_written told asked final is_usage formless at_once kept same writes read unread puts faults nones = record {
    answered = answered c.files.held told unread writes;
    complete = complete c.files.held told puts writes;
    asked = asks (names_in (asked_by words)) final writes asked;
    no_form = no_form formless writes;
    usage = usage is_usage writes;
    load_at_once = loads final unread writes at_once;
    read = read;
    put_at_once = puts;
    kept_loads = kept;
    kept_faults = faults;
    kept_nones = nones;
    same = same;
  }

-- no memory was left to make an answer
pub meets_lost : (words : List (List ℕ)) (c : Change) → c.output_after ≡ c.output → AsksForNames (names_in (asked_by words)) c.files.asked c.files_after.asked status.OutOfMemory
    → StopsLoading status.OutOfMemory c.files.faults c.files_after.faults → c.files.faults ≤ c.files_after.faults → c.files_after.held ≡ c.files.held → Meets words c status.OutOfMemory
meets_lost words c still asked at_once kept same = record {
  answered = lost c.files.held;
  complete = vain c.files.held;
  asked = asked;
  no_form = λ is. inr (tt, (0, ap (λ (o : OutputTold). o.written) still ∙ sym (append_known-nil c.output.written)));
  usage = λ e. cc;
  load_at_once = at_once;
  read = λ e. cc;
  put_at_once = (ap (λ (o : OutputTold). o.faults) still, ap (λ (o : OutputTold). o.nones) still);
  kept_loads = kept;
  kept_faults = omega (arith, ap (λ (o : OutputTold). o.faults) still);
  kept_nones = omega (arith, ap (λ (o : OutputTold). o.nones) still);
  same = same;
}
  where
    lost : (told : Option Held) → IsAnswered words (record c { files = record c.files { held = told } }) status.OutOfMemory
    lost None = tt
    lost (Some held) = inr (refl, ap (λ (o : OutputTold). o.written) still)

    vain : (told : Option Held) → IsComplete words (record c { files = record c.files { held = told } }) status.OutOfMemory
    vain None = tt
    vain (Some held) = λ none enough. absurd (enough refl)
