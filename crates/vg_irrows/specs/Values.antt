-- Single instructions, and what they give.
use Rattle.std.specs.Prelude.{ℕ, [], ◌∷◌, Some, None}
use Rattle.vg_ir.specs.declared.ty.Ty.{Ty}
use Rattle.vg_ir.specs.declared.ty.Ty.TheVariants.{Int, Ptr}
use Rattle.vg_ir.specs.declared.operator.BinaryOperator.{BinaryOperator}
use Rattle.vg_ir.specs.declared.operator.Predicate.{Predicate}
use Rattle.vg_ir.specs.declared.operator.CastOperator.{CastOperator}
use Rattle.vg_ir.specs.declared.operator.CastOperator.TheVariants.{PtrToInt, IntToPtr}
use Rattle.vg_ir.specs.declared.instruction.Instruction.{Instruction}
use Rattle.vg_ir.specs.declared.instruction.Instruction.TheVariants as instruction
use Rattle.vg_ir.specs.declared.module.Parts.{Parts}
use Rattle.vg_ir.specs.Run.{ir_run}
use Rattle.vg_irrows.specs.Words.{here, named, name_at, type_at, local, number, negative, binary, compare, cast, load, store, element, index, ret, ret_void, block, functions, stack, at_base, Report, report}
use Rattle.vg_irrows.specs.Causes.{straight_run}

-- `%r = OP i8 a, b` and `ret i8 %r`
abbrev pub byte_of : BinaryOperator → ℕ → ℕ → Report
byte_of op a b = report (straight_run (binary "r" op (Int 8) (number a) (number b) ∷ []) (ret (Int 8) (local "r")) 2)

-- `%r = icmp P i8 a, b` and `ret i1 %r`
abbrev pub bit_of : Predicate → ℕ → ℕ → Report
bit_of op a b = report (straight_run (compare "r" op (Int 8) (number a) (number b) ∷ []) (ret (Int 1) (local "r")) 2)

-- `%r = OP T a to U` and `ret U %r`
abbrev pub cast_of : CastOperator → Ty → ℕ → Ty → Report
cast_of op t a u = report (straight_run (cast "r" op t (number a) u ∷ []) (ret u (local "r")) 2)

-- `%p = inttoptr T a to ptr`, `%r = ptrtoint ptr %p to U` and `ret U %r`
abbrev pub through_address : Ty → ℕ → Ty → Report
through_address t a u =
    report (straight_run (cast "p" IntToPtr t (number a) Ptr ∷ cast "r" PtrToInt Ptr (local "p") u ∷ []) (ret u (local "r")) 3)

-- `%a = alloca i16, i8 -1`: 255 of them
abbrev pub many : Instruction
many = instruction.Alloca (record { at = here; result = name_at "a"; ty = type_at (Int 16); count = Some (record { ty = record { width = 8; at = here }; number = negative 1; at = here }); align = None })

-- a byte is stored so far behind its start, and loaded again
abbrev pub in_many : ℕ → Report
in_many k =
    report (straight_run (many ∷ element "b" (Int 8) (local "a") (index 16 (number k) ∷ []) ∷ store (Int 8) (number 7) (local "b") ∷ load "x" (Int 8) (local "b") ∷ []) (ret (Int 8) (local "x")) 5)

-- define void @f() { ret void }
abbrev pub nothing : Parts
nothing = functions (record { name = name_at "f"; linkage = None; gives = None; parameters = []; blocks = block "0" [] [] ret_void ∷ [] } ∷ [])

-- a run of it on a stack of 80 bytes, of which so many hold what is passed; its frame has 64
abbrev pub nothing_run : ℕ → ℕ → Report
nothing_run passed k = report (ir_run nothing (record (stack 4096 4176 64 at_base) { passed = passed }) (named "f") [] k)
