-- What an accepted description keeps, part by part.
use Rattle.std.proofs.Common.{◌≡◌, ℕ, ◌<◌, ◌≤◌, ◌/◌, ◌^◌, true, IsTrue, nat_lt, length, slice_get, Option, Some, arith, subst}
use Rattle.std.specs.Option.{option_map_or}
use Rattle.std.specs.List.{list_all}
use Rattle.std.proofs.lemmas.Bool.Decides.{nat_tests}
use Rattle.std.proofs.Math.Nat.{pow-le-pow_right}
use Rattle.vg_isa.specs.declared.isa.Parts.{Parts}
use Rattle.vg_isa.specs.declared.instr.Instr.{Instr}
use Rattle.vg_isa.specs.declared.instr.Write.{Write}
use Rattle.vg_isa.specs.declared.expr.Expr.{Expr}
use Rattle.vg_isa.specs.Typing.{is_write, width_of}
use Rattle.vg_isa.specs.Accepted.{is_machine_width, is_register_decl, is_format, is_instr, is_within_limits, is_isa, is_fixed, are_fixed, are_writes, is_next, are_nodes, is_template}
use Rattle.vg_isa.specs.Abi.{is_abi}
use Rattle.vg_isa.specs.Micro.{is_micro}
use Rattle.vg_isa.proofs.Tests.{both, list_all-slice_get, true-nat_eq}

pub record Keeps (d : Parts) : Type 0 where
  pub word : IsTrue (is_machine_width d.word)
  pub address : IsTrue (is_machine_width d.pc.width)
  pub registers : IsTrue (list_all is_register_decl d.regs)
  pub formats : IsTrue (list_all (is_format d.word) d.formats)
  pub instrs : IsTrue (list_all (is_instr d) d.instrs)
  pub limits : IsTrue (is_within_limits d)
  pub abi : IsTrue (option_map_or (is_abi d) d.abi true)
  pub micro : IsTrue (option_map_or (is_micro d) d.micro true)

pub kept : (d : Parts) → IsTrue (is_isa d) → Keeps d
unfolding is_isa
kept d h =
    let seven = (both _ _ h).0 in
    let six = (both _ _ seven).0 in
    let five = (both _ _ six).0 in
    let four = (both _ _ five).0 in
    let three = (both _ _ four).0 in
    let two = (both _ _ three).0 in
    record {
      word = (both _ _ two).0;
      address = (both _ _ two).1;
      registers = (both _ _ three).1;
      formats = (both _ _ four).1;
      instrs = (both _ _ five).1;
      limits = (both _ _ six).1;
      abi = (both _ _ seven).1;
      micro = (both _ _ h).1;
    }

-- what an instruction of an accepted description keeps
pub record KeepsInstr (d : Parts) (instr : Instr) : Type 0 where
  pub format : IsTrue (nat_lt instr.format.0 (length d.formats))
  pub fixed : IsTrue (are_fixed d instr)
  pub writes : IsTrue (are_writes d instr)
  pub next : IsTrue (is_next d instr.next)
  pub nodes : IsTrue (are_nodes d instr)
  pub template : IsTrue (is_template d instr)

pub kept_instr : (d : Parts) (instr : Instr) → IsTrue (is_instr d instr) → KeepsInstr d instr
unfolding is_instr
kept_instr d instr h =
    let five = (both _ _ h).0 in
    let four = (both _ _ five).0 in
    let three = (both _ _ four).0 in
    let two = (both _ _ three).0 in
    record {
      format = (both _ _ two).0;
      fixed = (both _ _ two).1;
      writes = (both _ _ three).1;
      next = (both _ _ four).1;
      nodes = (both _ _ five).1;
      template = (both _ _ h).1;
    }

-- an instruction of an accepted description is accepted
pub instr_typed : (d : Parts) (i : ℕ) (instr : Instr) → IsTrue (is_isa d) → slice_get d.instrs i ≡ Some instr → IsTrue (is_instr d instr)
instr_typed d i instr h at = list_all-slice_get (is_instr d) d.instrs i instr (kept d h).instrs at

-- the writes of an accepted instruction are typed
pub writes_typed : (d : Parts) (instr : Instr) → IsTrue (is_instr d instr) → IsTrue (list_all (is_write d) instr.writes)
writes_typed d instr h = (both _ _ (both _ _ (kept_instr d instr h).writes).0).0

pub write_typed : (d : Parts) (instr : Instr) (k : ℕ) (write : Write) → IsTrue (is_instr d instr) → slice_get instr.writes k ≡ Some write → IsTrue (is_write d write)
write_typed d instr k write h at = list_all-slice_get (is_write d) instr.writes k write (writes_typed d instr h) at

-- a machine width is at most 64
pub machine_width_most : (n : ℕ) → IsTrue (is_machine_width n) → n ≤ 64
machine_width_most n h = grind (arith, nat_tests)

pub machine_width_least : (n : ℕ) → IsTrue (is_machine_width n) → 16 ≤ n
machine_width_least n h = grind (arith, nat_tests)

-- a word is at most 64 bits wide
pub word_most : (d : Parts) → IsTrue (is_isa d) → d.word ≤ 64
word_most d h = machine_width_most d.word (kept d h).word

-- the number of bytes of a word is an address
bytes_fit : (word width : ℕ) → IsTrue (is_machine_width word) → IsTrue (is_machine_width width) → word / 8 < 2 ^ width
bytes_fit word width h k =
    let few : word ≤ 64 = machine_width_most word h in
    let wide : 16 ≤ width = machine_width_least width k in
    let most : 2 ^ 16 ≤ 2 ^ width = pow-le-pow_right two_positive wide in
    omega arith
  where
    two_positive : 0 < 2
    two_positive = omega arith

pub step_fits : (d : Parts) → IsTrue (is_isa d) → d.word / 8 < 2 ^ d.pc.width
step_fits d h = bytes_fit d.word d.pc.width (kept d h).word (kept d h).address

-- the tree of the next program counter has its width
pub next_width : (d : Parts) (instr : Instr) (next : Expr × Expr) → IsTrue (is_instr d instr) → instr.next ≡ Some next → width_of d next.1 ≡ d.pc.width
next_width d instr next h is =
    let typed : IsTrue (is_next d (Some next)) = subst (λ (o : Option (Expr × Expr)). IsTrue (is_next d o)) is (kept_instr d instr h).next in
    true-nat_eq _ _ (both _ _ (both _ _ typed).1).1

-- the fields that an encoding fixes are fields of the format, at their widths
pub fixed_kept : (d : Parts) (instr : Instr) → IsTrue (is_instr d instr) → IsTrue (list_all (is_fixed d instr.format) instr.fixed)
fixed_kept d instr h = (both _ _ (kept_instr d instr h).fixed).0
