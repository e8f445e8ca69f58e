use Rattle.std.proofs.Common.{◌≡◌, ◌<◌, ◌^◌, ℕ, []}
use Rattle.vg_settle.specs.declared.item.Short.{Short}
use Rattle.vg_settle.specs.declared.item.Item.{Item}
use Rattle.vg_settle.specs.Layout.{start, IsShort, HasShort}
use Rattle.vg_settle.proofs.tests.is_code.Given as goal

-- the items so far are well formed, and their words are counted
abbrev pub invariant-loop-item : goal.invariant-loop-item
invariant-loop-item l = record {
  words : l.words ≡ start l.items [] l.item-index;
  below : l.words < 2 ^ 32;
  shorts : (j : ℕ) (item : Item) (short : Short) → j < l.item-index → HasShort l.items j item short → IsShort l.items item short;
}
