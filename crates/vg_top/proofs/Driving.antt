-- How a command goes on from file to file.
use Rattle.std.proofs.Common.{inl, inr, ◌≡◌, ◌≢◌, ◌⊎◌, ℕ, ◌≤◌, ◌+◌, List, [], ◌∷◌, ◌++◌, length, nat_lt, true, false, Bool, Option, Some, None, IfSome, Result, Ok, Err, IsErr, Vec, refl, sym, subst, ap, ◌∙◌, append_assoc, append-nil, arith}
use Rattle.std.specs.declared.alloc.Global.{Global}
use Rattle.std.specs.declared.alloc.AllocError.{AllocError}
use Rattle.std.proofs.lemmas.Bool.Decides.{nat_tests}
use Rattle.vg_top.specs.declared.answer.Answer as code
use Rattle.vg_top.specs.declared.next.Next.{Next}
use Rattle.vg_top.specs.declared.next.Next.TheVariants as next
use Rattle.vg_top.specs.declared.loading.Loaded.TheVariants as loaded
use Rattle.vg_top.specs.declared.status.Status.{Status}
use Rattle.vg_top.specs.declared.status.Status.TheVariants as status
use Rattle.vg_top.specs.Answers.{Held, Answer, Answers, WithBytes, WithFile}
use Rattle.vg_top.specs.Tasks.{TaskAnswers, GoesOn, NamesLeft, answer_with, behind_names}
use Rattle.vg_top.specs.Driving.{IsWithin, IsReply, Replies, StepsOn, LeavesNames, status_of}
use Rattle.vg_top.specs.Theorem.{AsksForNames, AsksUnder}

within_limit : (limit n : ℕ) → n ≤ limit → nat_lt limit n ≡ false
within_limit limit n h = grind (arith, nat_tests)

-- a file that was loaded whole goes on with its bytes
at_bytes : (name : List ℕ) (limit : ℕ) (held : Option (List ℕ)) (text : Vec ℕ Global) (right : List ℕ → Answers) (answer : Answer) → IsWithin held limit (loaded.Text text) → right text.items answer → WithBytes name limit held right answer
at_bytes name limit None text right answer within h = absurd within
at_bytes name limit (Some bytes) text right answer within h = rw (within_limit limit (length bytes) within.1) (subst (λ (b : List ℕ). right b answer) within.0 h)

not_none : (names : List (List ℕ)) (last : List ℕ) → names ++ last ∷ [] ≢ []
not_none [] last e = cc
not_none (name ∷ names) last e = cc

asks_under : (asked : List (List ℕ)) (last : List ℕ) (left : List (List ℕ)) (s : Status) (text : List ℕ) → IsReply s text → (s ≢ status.Refused → s ≢ status.ReadFault → left ≡ []) → AsksUnder (asked ++ last ∷ []) left s
asks_under asked last left status.Done text r h = h (λ e. cc) (λ e. cc)
asks_under asked last left status.Refused text r h = λ e. absurd (not_none asked last e)
asks_under asked last left status.Usage text r h = absurd r
asks_under asked last left status.ReadFault text r h = not_none asked last
asks_under asked last left status.WriteFault text r h = absurd r
asks_under asked last left status.OutOfMemory text r h = absurd r
asks_under asked last left status.Running text r h = h (λ e. cc) (λ e. cc)
asks_under asked last left status.StackFull text r h = h (λ e. cc) (λ e. cc)
asks_under asked last left status.Illegal text r h = h (λ e. cc) (λ e. cc)
asks_under asked last left status.OutOfCode text r h = h (λ e. cc) (λ e. cc)

module _ {T : Type 0} (name : T → List ℕ) (limit : T → ℕ) (more : T → List (List ℕ)) (behind : T → Held → List ℕ → Answers) where
  -- the step of a file that was loaded whole
  pub steps_on : (task : T) (told : Option Held) (text : Vec ℕ Global) (bytes : List ℕ) (after : Next T) → bytes ≡ text.items
      → IfSome told (λ held. IsWithin (held (name task)) (limit task) (loaded.Text text))
      → GoesOn name limit more behind (λ held. behind task held bytes) after
      → IfSome told (λ held. StepsOn name limit more behind task held after)
  steps_on task None text bytes after is within h = tt
  steps_on task (Some held) text bytes (next.Ask other) is within h =
      λ answer right. inr (answer.asked, refl, at_bytes (name task) (limit task) (held (name task)) text (behind task held) answer within (subst (λ (b : List ℕ). behind task held b answer) is (h held answer right)))
  steps_on task (Some held) text bytes (next.Answer answer) is within h =
      inr ([], refl, at_bytes (name task) (limit task) (held (name task)) text (behind task held) (answer_with [] answer) within (subst (λ (b : List ℕ). behind task held b (answer_with [] answer)) is (h held)))

  -- a command has asked for these files, and goes on
  pub record IsAlong (first task : T) (told : Option Held) (before now : List (List ℕ)) : Type 0 where
    pub asked : List (List ℕ)
    pub so_far : now ≡ before ++ asked
    pub names : name first ∷ more first ≡ asked ++ (name task ∷ more task)
    pub right : IfSome told (λ held. (answer : Answer) → TaskAnswers name limit more behind task held answer → TaskAnswers name limit more behind first held (behind_names asked answer))

  -- at first no file was asked for
  pub along_start : (task : T) (told : Option Held) (before : List (List ℕ)) → IsAlong task task told before before
  along_start task None before = record { asked = []; so_far = sym (append-nil before); names = refl; right = tt }
  along_start task (Some held) before = record { asked = []; so_far = sym (append-nil before); names = refl; right = λ answer right. right }

  one_more_name : (first task : T) (told : Option Held) (before middle now : List (List ℕ)) (along : IsAlong first task told before middle) → now ≡ middle ++ name task ∷ [] → now ≡ before ++ (along.asked ++ name task ∷ [])
  one_more_name first task told before middle now along here =
      here ∙ ap (λ (m : List (List ℕ)). m ++ name task ∷ []) along.so_far ∙ append_assoc before along.asked (name task ∷ [])

  names_behind : (first task : T) (told : Option Held) (before middle : List (List ℕ)) (along : IsAlong first task told before middle) → name first ∷ more first ≡ along.asked ++ name task ∷ [] ++ more task
  names_behind first task told before middle along = along.names ∙ sym (append_assoc along.asked (name task ∷ []) (more task))

  right_behind : (first task other : T) (told : Option Held) (before middle : List (List ℕ)) (along : IsAlong first task told before middle)
      → IfSome told (λ held. StepsOn name limit more behind task held (next.Ask other))
      → IfSome told (λ held. (answer : Answer) → TaskAnswers name limit more behind other held answer → TaskAnswers name limit more behind first held (behind_names (along.asked ++ name task ∷ []) answer))
  right_behind first task other None before middle along steps = tt
  right_behind first task other (Some held) before middle along steps =
      λ answer right.
      subst (λ (asked : List (List ℕ)). TaskAnswers name limit more behind first held (record { asked = asked; status = answer.status; text = answer.text }))
      (sym (append_assoc along.asked (name task ∷ []) answer.asked))
      (along.right (behind_names (name task ∷ []) answer) (steps answer right))

  -- one file more
  pub along_step : (first task other : T) (told later : Option Held) (before middle now : List (List ℕ)) (after : Next T) → after ≡ next.Ask other → later ≡ told → IsAlong first task told before middle
      → now ≡ middle ++ name task ∷ [] → LeavesNames name limit more behind (more task) after
      → IfSome later (λ held. StepsOn name limit more behind task held after) → IsAlong first other told before now
  along_step first task other told later before middle now after is same along here names steps =
      let left : more task ≡ name other ∷ more other = subst (LeavesNames name limit more behind (more task)) is names in
      let on : IfSome told (λ held. StepsOn name limit more behind task held (next.Ask other)) =
      subst (λ (t : Option Held). IfSome t (λ held. StepsOn name limit more behind task held (next.Ask other))) same
      (subst (λ (n : Next T). IfSome later (λ held. StepsOn name limit more behind task held n)) is steps) in
      record {
        asked = along.asked ++ name task ∷ [];
        so_far = one_more_name first task told before middle now along here;
        names = names_behind first task told before middle along ∙ ap (λ (l : List (List ℕ)). along.asked ++ name task ∷ [] ++ l) left;
        right = right_behind first task other told before middle along on;
      }

  -- the answer
  pub told_answer : (first task : T) (told later : Option Held) (before middle now : List (List ℕ)) (after : Next T) (answer : code.Answer) → after ≡ next.Answer answer → later ≡ told → IsAlong first task told before middle
      → now ≡ middle ++ name task ∷ [] → IfSome later (λ held. StepsOn name limit more behind task held after)
      → IfSome told (λ held. (asked : List (List ℕ)) × (now ≡ before ++ asked) × TaskAnswers name limit more behind first held (answer_with asked answer))
  told_answer first task told later before middle now after answer is same along here steps =
      told_of told along
      (subst (λ (t : Option Held). IfSome t (λ held. StepsOn name limit more behind task held (next.Answer answer))) same
      (subst (λ (n : Next T). IfSome later (λ held. StepsOn name limit more behind task held n)) is steps))
    where
      told_of : (t : Option Held) (along : IsAlong first task t before middle) → IfSome t (λ held. StepsOn name limit more behind task held (next.Answer answer))
          → IfSome t (λ held. (asked : List (List ℕ)) × (now ≡ before ++ asked) × TaskAnswers name limit more behind first held (answer_with asked answer))
      told_of None along steps = tt
      told_of (Some held) along steps =
          (along.asked ++ name task ∷ [], one_more_name first task (Some held) before middle now along here, along.right (answer_with (name task ∷ []) answer) steps)

  -- the names that were asked for, under its status
  pub asks_answer : (first task : T) (told : Option Held) (before middle now : List (List ℕ)) (after : Next T) (answer : code.Answer) → after ≡ next.Answer answer → IsAlong first task told before middle
      → now ≡ middle ++ name task ∷ [] → LeavesNames name limit more behind (more task) after → Replies after
      → AsksForNames (name first ∷ more first) before now answer.status
  asks_answer first task told before middle now after answer is along here names replies = (
    along.asked ++ name task ∷ [],
    more task,
    names_behind first task told before middle along,
    one_more_name first task told before middle now along here,
    asks_under along.asked (name task) (more task) answer.status answer.text.items
        (subst (λ (n : Next T). Replies n) is replies) (subst (LeavesNames name limit more behind (more task)) is names),
  )

  -- and where no memory was left
  asks_none : (first task : T) (told : Option Held) (before middle now : List (List ℕ)) → IsAlong first task told before middle
      → (now ≡ middle ++ name task ∷ []) ⊎ (now ≡ middle) → AsksForNames (name first ∷ more first) before now status.OutOfMemory
  asks_none first task told before middle now along (inl here) =
      (along.asked ++ name task ∷ [], more task, names_behind first task told before middle along, one_more_name first task told before middle now along here, tt)
  asks_none first task told before middle now along (inr here) =
      (along.asked, name task ∷ more task, along.names, here ∙ along.so_far, tt)

  pub asks_lost : (first task : T) (told : Option Held) (before middle now : List (List ℕ)) (result : Result code.Answer AllocError) → IsErr result → IsAlong first task told before middle
      → (now ≡ middle ++ name task ∷ []) ⊎ (now ≡ middle) → AsksForNames (name first ∷ more first) before now (status_of result)
  asks_lost first task told before middle now (Ok answer) lost along asked = cc
  asks_lost first task told before middle now (Err e) lost along asked = asks_none first task told before middle now along asked
