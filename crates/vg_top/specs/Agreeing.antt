-- What two answers to the same words and files share.
use Rattle.std.specs.Prelude.{◌≡◌, ◌≢◌, ◌⊎◌, length}
use Rattle.vg_top.specs.declared.status.Status.TheVariants.{ReadFault}
use Rattle.vg_top.specs.Answers.{Answer}

-- two answers are one
abbrev pub Agree : Answer → Answer → Type 0
Agree a b = (a.asked ≡ b.asked) × (a.status ≡ b.status) × (a.text ≡ b.text)

-- the loads of two answers failed alike: none did, or the last of as many
abbrev pub FailAlike : Answer → Answer → Type 0
FailAlike a b =
    ((a.status ≢ ReadFault) × (b.status ≢ ReadFault))
    ⊎ ((a.status ≡ ReadFault) × (b.status ≡ ReadFault) × (length a.asked ≡ length b.asked))
