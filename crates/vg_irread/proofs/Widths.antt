-- The integer types have 1 to 64 bits.
use Rattle.std.proofs.Common.{ℕ, ◌<◌, ◌≤◌, Bool, true, false, cond, Some, None, List, codes, arith}
use Rattle.std.specs.Prelude.{IfSome}
use Rattle.std.specs.Str.{bytes_eq}
use Rattle.vg_irparse.specs.Words.{entry_of, integer_words}
use Rattle.vg_irread.specs.ReadingOperand.{IsWidth}

is_width : (n : ℕ) → 0 < n → n ≤ 64 → IsWidth n
is_width n h k = record { wide = h; narrow = k }

by_word : (a b c d e : Bool) → IfSome (cond a (Some 1) (cond b (Some 8) (cond c (Some 16) (cond d (Some 32) (cond e (Some 64) None))))) (λ w. IsWidth w)
by_word true b c d e = is_width 1 (omega arith) (omega arith)
by_word false true c d e = is_width 8 (omega arith) (omega arith)
by_word false false true d e = is_width 16 (omega arith) (omega arith)
by_word false false false true e = is_width 32 (omega arith) (omega arith)
by_word false false false false true = is_width 64 (omega arith) (omega arith)
by_word false false false false false = tt

pub widths : (text : List ℕ) → IfSome (entry_of integer_words text) (λ w. IsWidth w)
widths text = by_word (bytes_eq (codes "i1") text) (bytes_eq (codes "i8") text) (bytes_eq (codes "i16") text) (bytes_eq (codes "i32") text) (bytes_eq (codes "i64") text)
