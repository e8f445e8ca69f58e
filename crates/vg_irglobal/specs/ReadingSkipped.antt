-- Reading items that leave no trace: the name of the source, and the target.
use Rattle.std.specs.Prelude.{ℕ, List, [], ◌∷◌, codes}
use Rattle.vg_irlex.specs.Lexing.{is_quoted}
use Rattle.vg_irparse.specs.declared.role.Role.TheVariants as roles
use Rattle.vg_irparse.specs.ReadingType.{wanted}
use Rattle.vg_irparse.specs.Words.{is_one_of, target_words}
use Rattle.vg_irread.specs.Reading.{Reader, token_at, ◌>>=◌}
use Rattle.vg_irread.specs.ReadingOperand.{sign_at, taken}

-- a quoted text
abbrev pub quoted_at : Reader (Unit {0})
quoted_at = token_at (taken is_quoted (λ l. tt)) (wanted roles.Plain)

-- source_filename = ".."
unfoldable pub source_filename_at : Reader (Unit {0})
source_filename_at = do
  _ ← sign_at (codes "source_filename") (wanted roles.Plain)
  _ ← sign_at (codes "=") (wanted roles.Plain)
  quoted_at

-- what the target tells
abbrev pub target_word_at : Reader ℕ
target_word_at = token_at (taken (is_one_of target_words) (λ l. l.at)) (wanted roles.Plain)

-- target word = ".."
unfoldable pub target_at : Reader (Unit {0})
target_at = do
  _ ← sign_at (codes "target") (wanted roles.Plain)
  _ ← target_word_at
  _ ← sign_at (codes "=") (wanted roles.Plain)
  quoted_at
