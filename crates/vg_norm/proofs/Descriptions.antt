-- The description of the tests keeps the rules of descriptions.
use Rattle.std.proofs.Common.{◌≡◌, ℕ, true, ◌&&◌, nat_eq, IsTrue, List, [], ◌∷◌, ◌++◌, Some, None, refl, sym, ap, ◌∙◌}
use Rattle.std.specs.List.{filter_map, list_all}
use Rattle.std.specs.Option.{option_map_or}
use Rattle.std.proofs.lemmas.Bool.{and_from as conjunction}
use Rattle.vg_isa.specs.declared.isa.Parts.{Parts}
use Rattle.vg_isa.specs.declared.format.Format.{Format}
use Rattle.vg_isa.specs.declared.instr.Instr.{Instr}
use Rattle.vg_isa.specs.declared.expr.Expr.{Expr}
use Rattle.vg_isa.specs.declared.expr.Expr.TheOpen.{Expr-F}
use Rattle.vg_isa.specs.declared.expr.Expr.TheVariants.{Const, Pc, Binary, rolls-Pc}
use Rattle.vg_isa.specs.declared.operator.BinOp.TheVariants.{Add, Mul}
use Rattle.vg_isa.specs.Typing.{Typing, typing_of}
use Rattle.vg_isa.specs.Node.{Node, access_in, field_in, has_plain_index, instr_nodes, nodes_of}
use Rattle.vg_isa.specs.Same.{all_same, same_access}
use Rattle.vg_isa.specs.Accepted.{are_nodes, is_field_of, is_instr, is_isa, is_next}
use Rattle.vg_isa.proofs.TypingLemmas.{typing-Const, typing-Pc, typing-Binary}
use Rattle.vg_isa.proofs.NodeLemmas.{nodes, nodes-Const, nodes-Binary}

nodes-Pc : nodes_of Pc ≡ Expr-F.Pc ∷ []
nodes-Pc = ap nodes_of (sym rolls-Pc) ∙ nodes Expr-F.Pc

abbrev pub four : Expr
four = Const (record { width = 32; number = 4 })

abbrev pub always : Expr
always = Const (record { width = 1; number = 1 })

abbrev pub product : Expr
product = Binary Mul (Binary Add Pc four) (Binary Add four Pc)

abbrev pub instruction : Instr
instruction = record {
  name = 73 ∷ [];
  format = record { 0 = 0 };
  fixed = [];
  writes = [];
  next = Some (always, product);
  template = None;
  next_spots = None;
  read_spot = None;
}

abbrev pub format : Format
format = record { name = 70 ∷ []; fields = (record { name = 102 ∷ []; ranges = (31, 0) ∷ [] }) ∷ [] }

-- the parts of the description, with any names
abbrev pub described : List ℕ → List ℕ → List ℕ → Parts
described name pc memory = record {
  name = name;
  word = 32;
  pc = record { name = pc; width = 32 };
  memory = memory;
  regs = [];
  formats = format ∷ [];
  instrs = instruction ∷ [];
  abi = None;
  micro = None;
}

module _ (name pc memory : List ℕ) where
  abbrev d : Parts
  d = described name pc memory

  four_typing : typing_of d four ≡ record { width = 32; is_typed = true }
  four_typing = typing-Const d (record { width = 32; number = 4 })

  pc_typing : typing_of d Pc ≡ record { width = 32; is_typed = true }
  pc_typing = typing-Pc d

  sum : (a b : Expr) → typing_of d a ≡ record { width = 32; is_typed = true } → typing_of d b ≡ record { width = 32; is_typed = true }
      → typing_of d (Binary Add a b) ≡ record { width = 32; is_typed = true }
  sum a b p q = typing-Binary d Add a b ∙ rw (p, q) refl

  times : (a b : Expr) → typing_of d a ≡ record { width = 32; is_typed = true } → typing_of d b ≡ record { width = 32; is_typed = true }
      → typing_of d (Binary Mul a b) ≡ record { width = 32; is_typed = true }
  times a b p q = typing-Binary d Mul a b ∙ rw (p, q) refl

  product_typing : typing_of d product ≡ record { width = 32; is_typed = true }
  product_typing = times (Binary Add Pc four) (Binary Add four Pc) (sum Pc four pc_typing four_typing) (sum four Pc four_typing pc_typing)

  always_typing : typing_of d always ≡ record { width = 1; is_typed = true }
  always_typing = typing-Const d (record { width = 1; number = 1 })

  product_nodes : nodes_of product ≡ Expr-F.Binary Mul (Binary Add Pc four) (Binary Add four Pc)
      ∷ Expr-F.Binary Add Pc four ∷ Expr-F.Pc ∷ Expr-F.Const (record { width = 32; number = 4 })
      ∷ Expr-F.Binary Add four Pc ∷ Expr-F.Const (record { width = 32; number = 4 }) ∷ Expr-F.Pc ∷ []
  product_nodes =
      nodes-Binary Mul (Binary Add Pc four) (Binary Add four Pc)
      ∙ rw (nodes-Binary Add Pc four, nodes-Binary Add four Pc, nodes-Const (record { width = 32; number = 4 }), nodes-Pc) refl

  always_nodes : nodes_of always ≡ Expr-F.Const (record { width = 1; number = 1 }) ∷ []
  always_nodes = nodes-Const (record { width = 1; number = 1 })

  next_kept : is_next d instruction.next ≡ true
  next_kept =
      conjunction _ _ (ap (λ (t : Typing). t.is_typed && nat_eq t.width 1) always_typing) (ap (λ (t : Typing). t.is_typed && nat_eq t.width 32) product_typing)

  nodes_kept : are_nodes d instruction ≡ true
  nodes_kept =
      let all : instr_nodes instruction ≡ _ = λ i. always_nodes i ++ (product_nodes i ++ []) in
      ap (λ (ns : List Node). list_all (λ (n : Node). option_map_or (is_field_of d instruction.format) (field_in n) true) ns && list_all has_plain_index ns && all_same same_access (filter_map access_in ns)) all

  instruction_kept : is_instr d instruction ≡ true
  unfolding is_instr
  instruction_kept = conjunction _ _ (conjunction _ _ (conjunction _ _ refl next_kept) nodes_kept) refl

  pub described_kept : IsTrue (is_isa d)
  unfolding is_isa
  described_kept =
      conjunction _ _ (conjunction _ _ (conjunction _ _ (conjunction _ _ refl (conjunction _ _ instruction_kept refl)) refl) refl) refl
