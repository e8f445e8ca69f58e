-- The words of a command line as their bytes.
use Rattle.std.specs.Prelude.{ℕ, List, String, string_bytes}
use Rattle.std.specs.declared.alloc.Global.{Global}

-- the bytes of a word
abbrev pub word_bytes : String Global → List ℕ
word_bytes word = string_bytes word
