-- The module of a number: 100 functions of drawn operations, and a main function that calls each of them.
use Rattle.std.specs.Prelude.{ℕ, zero, suc, ◌+◌, ◌*◌, List, [], ◌++◌, codes, decimal}
use Rattle.vg_gen.specs.Drawing.{number_after, drawn}

-- the texts of the numbers below this one, in order
unfoldable pub texts : (ℕ → List ℕ) → ℕ → List ℕ
texts text zero = []
texts text (suc n) = texts text n ++ text n

-- the word of an operation
abbrev pub operation : ℕ → List ℕ
operation zero = codes "add"
operation (suc zero) = codes "sub"
operation (suc (suc zero)) = codes "and"
operation (suc (suc (suc zero))) = codes "or"
operation _ = codes "xor"

-- the operands of the instruction that sets %vJ, both drawn below J, where the sequence has come to x
abbrev pub operands : ℕ → ℕ → List ℕ
operands x j =
    codes " i16 %v" ++ decimal (drawn (number_after x 1) j) ++ codes ", %v" ++ decimal (drawn (number_after x 2) j)
    ++ codes "\n"

-- The instruction that sets %vJ, where the sequence has come to x: its operation is drawn first, below 5, and then its
-- operands.
abbrev pub instruction : ℕ → ℕ → List ℕ
instruction x j =
    codes "  %v" ++ decimal j ++ codes " = " ++ operation (drawn (number_after x 1) 5) ++ operands (number_after x 1) j

-- Function K, where the sequence has come to x: 40 instructions of three draws each, for J from 2 to 41, and the return
-- of the last.
abbrev pub function : ℕ → ℕ → List ℕ
function x k =
    codes "define i16 @f" ++ decimal k ++ codes "(i16 %v0, i16 %v1) {\n"
    ++ texts (λ i. instruction (number_after x (3 * i)) (i + 2)) 40
    ++ codes "  ret i16 %v41\n}\n\n"

-- what main passes function K first: its parameter, and then the result of the call before
abbrev pub passed : ℕ → List ℕ
passed zero = codes "(i16 %n"
passed (suc k) = codes "(i16 %r" ++ decimal k

-- the arguments of the call of function K in main, the second of which is K
abbrev pub arguments : ℕ → List ℕ
arguments k = passed k ++ codes ", i16 " ++ decimal k ++ codes ")\n"

-- the call of function K in main
abbrev pub call : ℕ → List ℕ
call k = codes "  %r" ++ decimal k ++ codes " = call i16 @f" ++ decimal k ++ arguments k

-- the function main
abbrev pub main_function : List ℕ
main_function = codes "define i16 @main(i16 %n) {\n" ++ texts call 100 ++ codes "  ret i16 %r99\n}\n"

-- the module of a number, with which the sequence begins: each function takes 120 draws
abbrev pub module_text : ℕ → List ℕ
module_text number = texts (λ k. function (number_after number (120 * k)) k) 100 ++ main_function
