-- Reading globals.
use Rattle.std.specs.Prelude.{ℕ, Bool, List, [], ◌∷◌, codes, Option}
use Rattle.vg_irlex.specs.Lexing.{are_digits}
use Rattle.vg_ir.specs.declared.global.Global.{Global}
use Rattle.vg_ir.specs.declared.global.Linkage.{Linkage}
use Rattle.vg_ir.specs.declared.global.Alignment.{Alignment}
use Rattle.vg_ir.specs.Shape.{integer_width}
use Rattle.vg_irparse.specs.declared.role.Role.TheVariants as roles
use Rattle.vg_irparse.specs.Placed.{Placed}
use Rattle.vg_irparse.specs.Text.{digits_value, kept, spot}
use Rattle.vg_irparse.specs.ReadingType.{wanted}
use Rattle.vg_irparse.specs.Words.{same_text, is_one_of, entry_of, linkage_words, address_words}
use Rattle.vg_irparse.specs.GrammarModule.{kind_words}
use Rattle.vg_irread.specs.Kinds.{Kind, words, digits}
use Rattle.vg_irread.specs.Reading.{Reader, done, token_at, optional_at, ◌>>=◌}
use Rattle.vg_irread.specs.ReadingType.{type_at}
use Rattle.vg_irread.specs.ReadingOperand.{sign_at, taken, global_at}
use Rattle.vg_irread.specs.ReadingInstruction.{words_of}
use Rattle.vg_irglobal.specs.ReadingInitial.{only, comma, initial_at}

-- ---- words in front

-- who may name it
abbrev pub linkage_word_at : Reader Linkage
linkage_word_at = token_at (λ l. entry_of linkage_words l.text) (wanted roles.Plain)

abbrev pub linkage_kinds : List Kind
linkage_kinds = words (words_of linkage_words) ∷ []

abbrev pub linkage_at : Reader (Option Linkage)
linkage_at = optional_at linkage_kinds linkage_word_at

-- `dso_local` leaves no trace
abbrev pub dso_local_at : Reader (Option ℕ)
dso_local_at = optional_at (only (codes "dso_local")) (sign_at (codes "dso_local") (wanted roles.Plain))

-- whether the address counts leaves none
abbrev pub address_word_at : Reader ℕ
address_word_at = token_at (taken (is_one_of address_words) (λ l. l.at)) (wanted roles.Plain)

abbrev pub address_kinds : List Kind
address_kinds = words address_words ∷ []

abbrev pub address_at : Reader (Option ℕ)
address_at = optional_at address_kinds address_word_at

-- whether it is a constant
abbrev pub is_constant : Placed → Bool
is_constant l = same_text (codes "constant") l.text

abbrev pub kind_at : Reader Bool
kind_at = token_at (taken (is_one_of kind_words) is_constant) (wanted roles.Plain)

-- ---- alignments

abbrev pub alignment : Placed → Alignment
alignment l = record { bytes = kept (digits_value l.text); at = spot l.at }

abbrev pub alignment_at : Reader Alignment
alignment_at = token_at (taken are_digits alignment) (wanted roles.Plain)

-- , align n
unfoldable pub align_at : Reader Alignment
align_at = do
  _ ← sign_at (codes ",") (wanted roles.Plain)
  _ ← sign_at (codes "align") (wanted roles.Plain)
  alignment_at

abbrev pub optional_align_at : Reader (Option Alignment)
optional_align_at = optional_at comma align_at

-- ---- all of it

-- @name = [linkage] [dso_local] [address] (global | constant) T INIT [, align n]
unfoldable pub global_item_at : Reader Global
global_item_at = do
  name ← global_at (wanted roles.Plain)
  _ ← sign_at (codes "=") (wanted roles.Plain)
  linkage ← linkage_at
  _ ← dso_local_at
  _ ← address_at
  constant ← kind_at
  t ← type_at (wanted roles.AnyType)
  i ← initial_at (integer_width t.ty)
  align ← optional_align_at
  done (record { name = name; linkage = linkage; constant = constant; ty = t; initial = i; align = align })
