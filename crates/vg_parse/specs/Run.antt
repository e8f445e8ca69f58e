-- Reading a description, a piece at a time.
use Rattle.std.specs.Prelude.{◌≡◌, ◌⊎◌, ℕ, List, [], ◌∷◌, ◌++◌, Option, Some, None, is_some, if◌then◌else◌}
use Rattle.std.specs.Option.{option_map_or}
use Rattle.vg_ast.specs.declared.item.Item.{Item}
use Rattle.vg_ast.specs.declared.role.Role.{Role}
use Rattle.vg_ast.specs.declared.micro_item.MicroItem.{MicroItem}
use Rattle.vg_ast.specs.declared.desc.Desc.{Desc}
use Rattle.vg_tok.specs.declared.token.Token.{Token}
use Rattle.vg_ast.specs.Placed.{Placed, placed}
use Rattle.vg_ast.specs.Piece.{pieces}
use Rattle.vg_ast.specs.Leaving.{BeginsAt, end_of}
use Rattle.vg_parse_expr.specs.Lexeme.{◌>>=◌}
use Rattle.vg_parse_item.specs.declared.heading.Heading.{Heading}
use Rattle.vg_parse_item.specs.Reading.{item_piece, role_piece, micro_item_piece, isa_heading_piece, abi_heading_piece, micro_heading_piece, closing_piece}
use Rattle.vg_parse.specs.declared.state.State.{State}
use Rattle.vg_parse.specs.declared.state.State.TheVariants.{Start, InIsa, Behind, InAbi, InMicro}

-- in the instruction set part: its closing brace, or one more item
unfoldable pub isa_step : Heading → List Item → List Placed → Option State
isa_step heading items piece =
    option_map_or (λ close. Some (Behind (record { name = heading.name; items = items; close = close; abi = None; micro = None })))
    (closing_piece piece)
    (item_piece piece >>= (λ item. Some (InIsa heading (items ++ item ∷ []))))

-- in the application binary interface part: its closing brace, or one more role
unfoldable pub abi_step : Desc → Heading → List Role → List Placed → Option State
abi_step desc heading roles piece =
    option_map_or (λ close. Some (Behind (record desc { abi = Some (record { at = heading.at; name = heading.name; roles = roles; close = close }) })))
    (closing_piece piece)
    (role_piece piece >>= (λ role. Some (InAbi desc heading (roles ++ role ∷ []))))

-- in the micro architecture part: its closing brace, or one more item
unfoldable pub micro_step : Desc → Heading → List MicroItem → List Placed → Option State
micro_step desc heading items piece =
    option_map_or (λ close. Some (Behind (record desc { micro = Some (record { at = heading.at; name = heading.name; items = items; close = close }) })))
    (closing_piece piece)
    (micro_item_piece piece >>= (λ item. Some (InMicro desc heading (items ++ item ∷ []))))

-- the heading of the micro architecture part
unfoldable pub micro_begin : Desc → List Placed → Option State
micro_begin desc piece = micro_heading_piece piece >>= (λ heading. Some (InMicro desc heading []))

-- the heading of the application binary interface part, or that of the micro architecture part
unfoldable pub abi_begin : Desc → List Placed → Option State
abi_begin desc piece = option_map_or (λ heading. Some (InAbi desc heading [])) (abi_heading_piece piece) (micro_begin desc piece)

-- no part stands behind the micro architecture part, and none twice
unfoldable pub behind_step : Desc → List Placed → Option State
behind_step desc piece = if is_some desc.micro then None else (if is_some desc.abi then micro_begin desc piece else abi_begin desc piece)

-- what is read with one more piece, by what was read before it; None where it can't stand there
unfoldable pub step : State → List Placed → Option State
step Start piece = isa_heading_piece piece >>= (λ heading. Some (InIsa heading []))
step (InIsa heading items) piece = isa_step heading items piece
step (Behind desc) piece = behind_step desc piece
step (InAbi desc heading roles) piece = abi_step desc heading roles piece
step (InMicro desc heading items) piece = micro_step desc heading items piece

-- what is read with these pieces
unfoldable pub run : State → List (List Placed) → Option State
run state [] = Some state
run state (piece ∷ more) = step state piece >>= (λ next. run next more)

-- the first piece that can't stand in its place; None where each can
unfoldable pub first_wrong : State → List (List Placed) → Option (List Placed)
first_wrong state [] = None
first_wrong state (piece ∷ more) = option_map_or (λ next. first_wrong next more) (step state piece) (Some piece)

-- the tokens are read as a description with this tree
abbrev pub IsRead : List Token → Desc → Type 0
IsRead tokens desc = run Start (pieces (placed tokens)) ≡ Some (Behind desc)

-- a state that isn't behind a whole part
abbrev pub IsNotBehind : State → Type 0
IsNotBehind state = (desc : Desc) → state ≡ Behind desc → ⊥

-- reading the tokens stops at this place: at a piece that can't stand there, or at the end, within a part
abbrev pub StopsAt : List Token → ℕ → Type 0
StopsAt tokens at =
    ((piece : List Placed) × (first_wrong Start (pieces (placed tokens)) ≡ Some piece) × BeginsAt piece at)
    ⊎ ((state : State) × (run Start (pieces (placed tokens)) ≡ Some state) × IsNotBehind state × (at ≡ end_of tokens))
