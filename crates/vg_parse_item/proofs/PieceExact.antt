-- Pieces are read exactly.
use Rattle.std.proofs.Common.{true, [], refl}
use Rattle.vg_tok.specs.declared.sign.Sign.TheVariants as signs
use Rattle.vg_tok.specs.declared.word.Word.TheVariants as words
use Rattle.vg_ast.specs.SpellingItem.{spelled_item, spelled_role, spelled_micro_item, spelled_isa_heading, spelled_abi_heading, spelled_micro_heading}
use Rattle.vg_ast.specs.Grammar.{is_item, is_role}
use Rattle.vg_ast.specs.TreeItem.{item_of, role_of, micro_item_of}
use Rattle.vg_parse_expr.specs.Lexeme.{sign_at, word_at, name_at}
use Rattle.vg_parse_expr.proofs.Taking.{then_some, sign_read, word_read, name_read}
use Rattle.vg_parse_item.specs.ReadingItem.{item_at}
use Rattle.vg_parse_item.specs.ReadingRole.{role_at, micro_item_at}
use Rattle.vg_parse_item.specs.Reading.{whole, heading_at, isa_heading_at, abi_heading_at, micro_heading_at, item_piece, role_piece, micro_item_piece, isa_heading_piece, abi_heading_piece, micro_heading_piece, closing_piece}
use Rattle.vg_parse_item.specs.Exact.{ItemIsExact, RoleIsExact, MicroItemIsExact, isa_heading_of, abi_heading_of, micro_heading_of, IsaHeadingIsExact, AbiHeadingIsExact, MicroHeadingIsExact, spelled_closing, ClosingIsExact}
use Rattle.vg_parse_item.proofs.Standing.{IsSound, whole_read}
use Rattle.vg_parse_item.proofs.ItemSound.{item_read}
use Rattle.vg_parse_item.proofs.RoleSound.{role_read, micro_item_read}
use Rattle.vg_parse_item.proofs.Succeeding.{then_is}
use Rattle.vg_parse_item.proofs.ItemComplete.{item_is}
use Rattle.vg_parse_item.proofs.RoleComplete.{role_is, micro_item_is}

pub item_exact : ItemIsExact
unfolding item_piece
item_exact = record {
  sound = λ ts. then_some (item_at ts) whole _ _ (item_read ts) (λ found f. whole_read spelled_item is_item item_of ts found f);
  complete = λ c h. then_is (item_at (spelled_item c [])) whole (item_of c, []) _ (item_is c h) refl;
}

pub role_exact : RoleIsExact
unfolding role_piece
role_exact = record {
  sound = λ ts. then_some (role_at ts) whole _ _ (role_read ts) (λ found f. whole_read spelled_role is_role role_of ts found f);
  complete = λ c h. then_is (role_at (spelled_role c [])) whole (role_of c, []) _ (role_is c h) refl;
}

pub micro_item_exact : MicroItemIsExact
unfolding micro_item_piece
micro_item_exact = record {
  sound = λ ts. then_some (micro_item_at ts) whole _ _ (micro_item_read ts) (λ found f. whole_read spelled_micro_item (λ c. true) micro_item_of ts found f);
  complete = λ c h. then_is (micro_item_at (spelled_micro_item c [])) whole (micro_item_of c, []) _ (micro_item_is c) refl;
}

-- Headings.

isa_heading_read : IsSound isa_heading_at spelled_isa_heading (λ c. true) isa_heading_of
unfolding isa_heading_at heading_at
isa_heading_read ts =
    then_some (word_at words.Instruction ts) _ _ _ (word_read words.Instruction ts) (λ first first_is.
    then_some (word_at words.Set first.1) _ _ _ (word_read words.Set first.1) (λ second second_is.
    then_some (word_at words.Architecture second.1) _ _ _ (word_read words.Architecture second.1) (λ third third_is.
    then_some (name_at third.1) _ _ _ (name_read third.1) (λ n name_is.
    then_some (sign_at signs.Equal n.1) _ _ _ (sign_read signs.Equal n.1) (λ equal equal_is.
    then_some (sign_at signs.OpenBrace equal.1) _ _ _ (sign_read signs.OpenBrace equal.1) (λ opening opening_is. record {
      c = record { at = first.0; at_set = second.0; at_architecture = third.0; name = n.0; equal = equal.0; opening = opening.0 };
      right = refl;
      spells = cc;
      tree_is = refl;
    }))))))

abi_heading_read : IsSound abi_heading_at spelled_abi_heading (λ c. true) abi_heading_of
unfolding abi_heading_at heading_at
abi_heading_read ts =
    then_some (word_at words.Application ts) _ _ _ (word_read words.Application ts) (λ first first_is.
    then_some (word_at words.Binary first.1) _ _ _ (word_read words.Binary first.1) (λ second second_is.
    then_some (word_at words.Interface second.1) _ _ _ (word_read words.Interface second.1) (λ third third_is.
    then_some (word_at words.For third.1) _ _ _ (word_read words.For third.1) (λ fourth fourth_is.
    then_some (name_at fourth.1) _ _ _ (name_read fourth.1) (λ n name_is.
    then_some (sign_at signs.Equal n.1) _ _ _ (sign_read signs.Equal n.1) (λ equal equal_is.
    then_some (sign_at signs.OpenBrace equal.1) _ _ _ (sign_read signs.OpenBrace equal.1) (λ opening opening_is. record {
      c = record { at = first.0; at_binary = second.0; at_interface = third.0; at_for = fourth.0; name = n.0; equal = equal.0; opening = opening.0 };
      right = refl;
      spells = cc;
      tree_is = refl;
    })))))))

micro_heading_read : IsSound micro_heading_at spelled_micro_heading (λ c. true) micro_heading_of
unfolding micro_heading_at heading_at
micro_heading_read ts =
    then_some (word_at words.Micro ts) _ _ _ (word_read words.Micro ts) (λ first first_is.
    then_some (word_at words.Architecture first.1) _ _ _ (word_read words.Architecture first.1) (λ second second_is.
    then_some (word_at words.For second.1) _ _ _ (word_read words.For second.1) (λ third third_is.
    then_some (name_at third.1) _ _ _ (name_read third.1) (λ n name_is.
    then_some (sign_at signs.Equal n.1) _ _ _ (sign_read signs.Equal n.1) (λ equal equal_is.
    then_some (sign_at signs.OpenBrace equal.1) _ _ _ (sign_read signs.OpenBrace equal.1) (λ opening opening_is. record {
      c = record { at = first.0; at_architecture = second.0; at_for = third.0; name = n.0; equal = equal.0; opening = opening.0 };
      right = refl;
      spells = cc;
      tree_is = refl;
    }))))))

pub isa_heading_exact : IsaHeadingIsExact
unfolding isa_heading_piece isa_heading_at heading_at word_at name_at sign_at
isa_heading_exact = record {
  sound = λ ts. then_some (isa_heading_at ts) whole _ _ (isa_heading_read ts) (λ found f. whole_read spelled_isa_heading (λ c. true) isa_heading_of ts found f);
  complete = λ c h. refl;
}

pub abi_heading_exact : AbiHeadingIsExact
unfolding abi_heading_piece abi_heading_at heading_at word_at name_at sign_at
abi_heading_exact = record {
  sound = λ ts. then_some (abi_heading_at ts) whole _ _ (abi_heading_read ts) (λ found f. whole_read spelled_abi_heading (λ c. true) abi_heading_of ts found f);
  complete = λ c h. refl;
}

pub micro_heading_exact : MicroHeadingIsExact
unfolding micro_heading_piece micro_heading_at heading_at word_at name_at sign_at
micro_heading_exact = record {
  sound = λ ts. then_some (micro_heading_at ts) whole _ _ (micro_heading_read ts) (λ found f. whole_read spelled_micro_heading (λ c. true) micro_heading_of ts found f);
  complete = λ c h. refl;
}

pub closing_exact : ClosingIsExact
unfolding closing_piece sign_at
closing_exact = record {
  sound = λ ts. then_some (sign_at signs.CloseBrace ts) whole _ _ (sign_read signs.CloseBrace ts) (λ found e.
      whole_read spelled_closing (λ c. true) (λ at. at) ts found (record { c = found.0; right = refl; spells = e; tree_is = refl }));
  complete = λ c h. refl;
}
