-- The write of an assignment, and the second writes of all instructions.
use Rattle.std.proofs.Common.{◌≡◌, ℕ, nat_eq, true, List, [], ◌∷◌, Option, Some, None, get_or, slice_get, if◌then◌else◌, refl, ap, sym, ◌∙◌, arith}
use Rattle.std.specs.Option.{option_map}
use Rattle.vg_ast.specs.declared.item.Item.{Item}
use Rattle.vg_names.specs.First.{first_of}
use Rattle.vg_inline.specs.InPlace.{Known, behaviour_of}
use Rattle.vg_inline.specs.declared.tree.Tree.{Tree}
use Rattle.vg_inline.specs.declared.effect.Target.{Target}
use Rattle.vg_inline.specs.declared.effect.Effect.{Effect, fold-roll-Effect}
use Rattle.vg_inline.specs.declared.effect.Effect.TheOpen.{Effect-F}
use Rattle.vg_inline.specs.declared.effect.Effect.TheVariants as effects
use Rattle.vg_inline.specs.declared.effect.Effect.TheVariants.{rolls-Assign}
use Rattle.vg_isa.specs.declared.expr.Expr.{Expr}
use Rattle.vg_tree.specs.declared.made.Made.{Made}
use Rattle.vg_tree.specs.declared.written.Written.{Written}
use Rattle.vg_tree.specs.Made.{Frame, made}
use Rattle.vg_tree.specs.Access.{in_instruction, part_tree, second_writes}
use Rattle.vg_tree.specs.Written.{alone, first_part, target_number, written, written_step}
use Rattle.vg_type.specs.Item.{Setting, setting_of}
use Rattle.vg_access.specs.Given.{part_written}
use Rattle.vg_access.proofs.Whole.{done_at}

same_number : (n : ℕ) → nat_eq n n ≡ true
same_number n = grind arith

part_alone : (frame : Frame) (target : Target) (part : Option Made) (at : ℕ) (value : Made) → part_written (Some (alone frame target part at value)) ≡ part_tree frame target part
part_alone frame target None at value = refl
part_alone frame target (Some part) at value = refl

-- an assignment writes its item at its own index or address
pub part_assigned : (frame : Frame) (target : Target) (parts : List Tree) (at : ℕ) (v : Tree) → part_written (written frame (target_number frame.setting target) (effects.Assign target parts at v)) ≡ part_tree frame target (first_part frame parts)
part_assigned frame target parts at v =
    ap part_written (
    ap (written frame (target_number frame.setting target)) (sym (rolls-Assign target parts at v))
    ∙ fold-roll-Effect (Option Written) (written_step frame (target_number frame.setting target)) (Effect-F.Assign target parts at v)
    ∙ ap (λ b. if b then Some (alone frame target (first_part frame parts) at (made frame v)) else None) (same_number (target_number frame.setting target)))
    ∙ part_alone frame target (first_part frame parts) at (made frame v)

-- the second writes of one item, where this is known of it
pub item_found : (given all : List Item) (setting : Setting) (known : Known) (n : ℕ) (item : Item) (effect : Option Effect) (found : Option ℕ) → given ≡ all → setting ≡ setting_of all → item ≡ get_or given n item
    → Some effect ≡ option_map (behaviour_of all known) (slice_get all n) → (effect ≡ behaviour_of setting.all known item → found ≡ first_of (in_instruction setting known second_writes item))
    → found ≡ first_of (in_instruction (setting_of all) known second_writes item)
item_found given all setting known n item effect found table is here does h =
    h (done_at (behaviour_of all known) all n effect item does ∙ ap (λ l. behaviour_of l known (get_or l n item)) (sym table) ∙ ap (λ (x : Item). behaviour_of given known x) (sym here) ∙ ap (λ l. behaviour_of l known item) (table ∙ ap (λ (s : Setting). s.all) (sym is)))
    ∙ ap (λ s. first_of (in_instruction s known second_writes item)) is
