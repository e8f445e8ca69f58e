-- What a refusal calls each construct that isn't accepted.
use Rattle.std.specs.Prelude.{ℕ, List, codes}
use Rattle.vg_ir.specs.declared.what.What.{What}
use Rattle.vg_ir.specs.declared.what.What.TheVariants as what

-- the name of a construct in a refusal
abbrev pub what_text : What → List ℕ
what_text what.FloatingPoint = codes "floating point"
what_text what.Vector = codes "vector"
what_text what.PackedStruct = codes "packed struct"
what_text what.Atomic = codes "atomic"
what_text what.Exceptions = codes "exceptions"
what_text what.Varargs = codes "varargs"
what_text what.IndirectCall = codes "indirect call"
what_text what.ThreadLocal = codes "thread local"
what_text what.InlineAssembly = codes "inline assembly"
what_text what.ExternalGlobal = codes "external global"
what_text what.Linkage = codes "linkage"
what_text what.IntegerType = codes "integer type"
what_text what.TypedPointer = codes "typed pointer"
what_text what.DynamicAlloca = codes "dynamic alloca"
what_text what.ConstantExpression = codes "constant expression"
what_text what.AggregateValue = codes "aggregate value"
what_text what.ByValueArgument = codes "by value argument"
what_text what.Musttail = codes "musttail"
what_text what.Intrinsic = codes "intrinsic"
what_text what.DebugRecord = codes "debug record"
what_text what.ExternalFunction = codes "external function"
what_text what.FunctionAddress = codes "function address"
