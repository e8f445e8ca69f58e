-- What a place asks of a name, by its test.
use Rattle.std.specs.Prelude.{Bool}
use Rattle.vg_names.specs.declared.meaning.Meaning.{Meaning}
use Rattle.vg_resolve.specs.declared.asked.Asked.{Asked}
use Rattle.vg_resolve.specs.declared.asked.Asked.TheVariants as asked
use Rattle.vg_names.specs.Unknown.{is_value, is_callable, is_alias, is_memory, is_register_file, is_single_goal, is_format, is_instruction, is_resource}

-- the test that a place puts to what its name means
abbrev pub asked_of : Asked → Meaning → Bool
asked_of asked.Value = is_value
asked_of asked.Callable = is_callable
asked_of asked.Alias = is_alias
asked_of asked.Memory = is_memory
asked_of asked.RegisterFile = is_register_file
asked_of asked.SingleGoal = is_single_goal
asked_of asked.Format = is_format
asked_of asked.Instruction = is_instruction
asked_of asked.Resource = is_resource
