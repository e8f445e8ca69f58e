-- The format of an instruction, by its number.
use Rattle.std.proofs.Common.{◌≡◌, ℕ, List, [], Option, Some, None, sym, ap}
use Rattle.std.specs.Prelude.{slice_get}
use Rattle.vg_ast.specs.declared.item.Item.{Item}
use Rattle.vg_names.specs.Definition.{Text, item_named, fields_of_format}
use Rattle.vg_names.proofs.InnerLemmas.{unnumbered_item}
use Rattle.vg_names.specs.Numbers.{number_named}
use Rattle.vg_names.proofs.Lookups.{item_of_number}
use Rattle.vg_whole.specs.Whole.{Inner}
use Rattle.vg_inline.specs.Context.{Kepts}
use Rattle.vg_inline.specs.Inline.{field_values}
use Rattle.vg_inline.specs.declared.keep.Keep.{Keep}
use Rattle.vg_inline.specs.Kept.{keeping_as}

pub format_missing : (keep : Keep) (all : List Item) (text : Text) → number_named all text ≡ None → (let none : Inner Kepts = [] in none) ≡ field_values (keeping_as keep) 0 (fields_of_format (item_named all text))
format_missing keep all text e = ap (λ (o : Option Item). field_values (keeping_as keep) 0 (fields_of_format o)) (unnumbered_item all text (sym e))

pub format_found : (keep : Keep) (all : List Item) (text : Text) (k : ℕ) → number_named all text ≡ Some k → field_values (keeping_as keep) 0 (fields_of_format (slice_get all k)) ≡ field_values (keeping_as keep) 0 (fields_of_format (item_named all text))
format_found keep all text k e = ap (λ (o : Option Item). field_values (keeping_as keep) 0 (fields_of_format o)) (item_of_number all text k e)
