-- A small processor, with pipelines of five stages and of one, at which the laws are tried.
use Rattle.std.specs.Prelude.{List, [], ◌∷◌, replicate, Some, None}
use Rattle.std.specs.FinMap.{empty}
use Rattle.vg_isa.specs.declared.isa.Parts.{Parts}
use Rattle.vg_isa.specs.declared.expr.Expr.{Expr}
use Rattle.vg_isa.specs.declared.expr.Expr.TheVariants as tree
use Rattle.vg_isa.specs.declared.operator.BinOp.TheVariants.{Add}
use Rattle.vg_isa.specs.declared.ids.RegId.{RegId}
use Rattle.vg_isa.specs.declared.ids.ResourceId.TheVariants.{Reg}
use Rattle.vg_isa.specs.declared.instr.Instr.{Instr}
use Rattle.vg_isa.specs.declared.instr.Write.{Write}
use Rattle.vg_isa.specs.declared.abi.Act.{Act}
use Rattle.vg_isa.specs.declared.abi.Act.TheVariants as act
use Rattle.vg_isa.specs.declared.abi.Stage.{Stage}
use Rattle.vg_isa.specs.declared.abi.Micro.{Micro}
use Rattle.vg_image.specs.State.{IsState, State}
use Rattle.vg_pipe.specs.Laws.{IsPlanned}

-- the register file
abbrev pub file : RegId
file = record { 0 = 0 }

-- the lowest five bits of a word
abbrev pub index : Expr
index = tree.Field (record { format = record { 0 = 0 }; index = 1 })

-- the register that they name
abbrev pub register : Expr
register = tree.Reg file (Some index)

-- X(index) := X(index) + X(index)
abbrev pub doubling : Write
doubling = record {
  resource = Reg file;
  guard = tree.Const (record { width = 1; number = 1 });
  at = Some index;
  value = tree.Binary Add register register;
  guard_spot = None;
  at_spot = None;
  value_spot = 0;
}

-- the one instruction
abbrev pub double : Instr
double = record {
  name = [];
  format = record { 0 = 0 };
  fixed = [];
  writes = doubling ∷ [];
  next = None;
  template = None;
  next_spots = None;
  read_spot = None;
}

-- the processor, with 32 registers, of which the first reads as 0
abbrev pub doubler : Micro → Parts
doubler micro = record {
  name = [];
  word = 32;
  pc = record { name = []; width = 32 };
  memory = [];
  regs = (record { name = []; index = Some 5; width = 32; zero = Some 0 }) ∷ [];
  formats = (record { name = []; fields = (record { name = []; ranges = (31, 5) ∷ [] }) ∷ (record { name = []; ranges = (4, 0) ∷ [] }) ∷ [] }) ∷ [];
  instrs = double ∷ [];
  abi = None;
  micro = Some micro;
}

abbrev pub stage : List Act → Stage
stage acts = record { name = []; acts = acts }

-- reads in the second stage, computes and decides in the third, and writes in the last
abbrev pub five_stages : Micro
five_stages = record {
  stages = stage [] ∷ stage (act.Read (Reg file) ∷ []) ∷ stage (act.Compute ∷ act.Resolve ∷ []) ∷ stage [] ∷ stage (act.Write (Reg file) ∷ []) ∷ [];
  forward = file ∷ [];
}

-- does all in one stage
abbrev pub one_stage : Micro
one_stage = record { stages = stage (act.Read (Reg file) ∷ act.Compute ∷ act.Resolve ∷ act.Write (Reg file) ∷ []) ∷ []; forward = [] }

-- all registers are 0, and no byte of memory is set
abbrev pub blank : State
blank = record { pc = 0; registers = replicate 32 0 ∷ []; bytes = empty }

-- What the laws ask for.
pub record HasPipeline (micro : Micro) : Type 0 where
  pub planned : IsPlanned (doubler micro) micro
  pub state : IsState (doubler micro) blank
