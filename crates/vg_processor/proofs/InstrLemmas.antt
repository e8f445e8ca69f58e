-- An instruction, by its parts.
use Rattle.std.proofs.Common.{◌≡◌, ℕ, List, [], flat_map, Option, Some, None, refl, ap, sym, ◌∙◌}
use Rattle.std.specs.List.{filter_map}
use Rattle.std.specs.Option.{option_map}
use Rattle.vg_bits.specs.BitValue.{BitValue}
use Rattle.vg_ast.specs.declared.name.Name.{Name}
use Rattle.vg_ast.specs.declared.item.Item.{Item}
use Rattle.vg_ast.specs.declared.item.Item.TheVariants as items
use Rattle.vg_ast.specs.declared.statement.Statement.{Statement}
use Rattle.vg_names.specs.Definition.{Text}
use Rattle.vg_inline.specs.declared.effect.Effect.{Effect}
use Rattle.vg_inline.specs.InPlace.{Known, behaviour_of}
use Rattle.vg_type.specs.Item.{Setting}
use Rattle.vg_type.specs.Setting.{setting_in}
use Rattle.vg_isa.specs.declared.ids.FieldId.{FieldId}
use Rattle.vg_isa.specs.declared.ids.FormatId.{FormatId}
use Rattle.vg_isa.specs.declared.instr.Instr.{Instr}
use Rattle.vg_isa.specs.declared.instr.Write.{Write}
use Rattle.vg_isa.specs.declared.instr.Part.{Part}
use Rattle.vg_tree.specs.Access.{frame_of}
use Rattle.vg_tree.specs.Fields.{format_given}
use Rattle.vg_tree.specs.Frame.{frame_in}
use Rattle.vg_tree.specs.Made.{Frame}
use Rattle.vg_tree.specs.declared.frame.Frame.{Frame as FrameGiven}
use Rattle.vg_tree.specs.declared.reading.Reading.{Reading}
use Rattle.vg_tree.specs.declared.written.Written.{Written}
use Rattle.vg_stage.specs.StageOrder.{effect_writes}
use Rattle.vg_processor.specs.IsaOf.{bytes_of, fixed_by, first_reading, first_some, instr_of, instr_with, instruction_of, next_of, once, readings_written, resources_written, template_by, write_to}
use Rattle.vg_processor.specs.declared.outcome.Outcome.{Outcome}
use Rattle.vg_processor.specs.Instruction.{address_place, instr_from, spots_of, trees_of}
use Rattle.vg_processor.specs.Outcome.{nothing_done, place_of, with_items}
use Rattle.vg_processor.proofs.OutcomeLemmas.{writes_are, next_is, read_is}

-- the format of the name by which a frame was made
pub format_kept : (given : FrameGiven) (setting : Setting) (name : Text) → frame_in given ≡ frame_of setting name → given.format.0 ≡ format_given (setting_in given.setting.now.context.now) given.name.now
    → given.format.0 ≡ format_given setting name
format_kept given setting name same is = is ∙ ap (λ (f : Frame). f.format) same

place_read : (o : Option Reading) → address_place (option_map place_of o) ≡ option_map (λ (r : Reading). r.address_at) o
place_read None = refl
place_read (Some r) = refl

module _ (setting : Setting) (name : Name) (format : Text) (x : Effect) where
  abbrev made : List ℕ → FormatId → List (FieldId × BitValue) → Option (List Part) → List Write → Option Written → Option ℕ → Instr
  made text id fixed template writes next read =
      record { name = text; format = id; fixed = fixed; writes = writes; next = trees_of next; template = template; next_spots = spots_of next; read_spot = read }

  pub instr_is : (text : List ℕ) (id : FormatId) (fixed : List (FieldId × BitValue)) (template : Option (List Part)) (o : Outcome) → text ≡ bytes_of name.text → id.0 ≡ format_given setting format
      → fixed ≡ flat_map (fixed_by setting name.text format) setting.all → template ≡ first_some (filter_map (template_by setting name.text format) setting.all)
      → o ≡ with_items (frame_of setting format) x nothing_done (once [] (effect_writes setting x)) → instr_from text id fixed template o ≡ instr_of setting name format x
  instr_is text id fixed template o t i f p e =
      let frame = frame_of setting format in
      let all = with_items frame x nothing_done (once [] (effect_writes setting x)) in
      let same_format : id ≡ record { 0 = format_given setting format } = ap (λ n. record { 0 = n }) i in
      let read : address_place all.read ≡ option_map (λ (r : Reading). r.address_at) (first_reading (readings_written frame x)) =
      ap address_place (read_is frame x) ∙ place_read (first_reading (readings_written frame x)) in
      ap (instr_from text id fixed template) e
      ∙ ap (λ (xs : List ℕ). instr_from xs id fixed template all) t
      ∙ ap (λ (k : FormatId). instr_from (bytes_of name.text) k fixed template all) same_format
      ∙ ap (λ (xs : List (FieldId × BitValue)). instr_from (bytes_of name.text) (record { 0 = format_given setting format }) xs template all) f
      ∙ ap (λ (q : Option (List Part)). instr_from (bytes_of name.text) (record { 0 = format_given setting format }) (flat_map (fixed_by setting name.text format) setting.all) q all) p
      ∙ ap
      (λ (ws : List Write). made (bytes_of name.text) (record { 0 = format_given setting format }) (flat_map (fixed_by setting name.text format) setting.all) (first_some (filter_map (template_by setting name.text format) setting.all)) ws all.next (address_place all.read))
      (writes_are frame x)
      ∙ ap
      (λ (w : Option Written). made (bytes_of name.text) (record { 0 = format_given setting format }) (flat_map (fixed_by setting name.text format) setting.all) (first_some (filter_map (template_by setting name.text format) setting.all)) (filter_map (write_to frame x) (resources_written setting x)) w (address_place all.read))
      (next_is frame x)
      ∙ ap
      (λ (r : Option ℕ). made (bytes_of name.text) (record { 0 = format_given setting format }) (flat_map (fixed_by setting name.text format) setting.all) (first_some (filter_map (template_by setting name.text format) setting.all)) (filter_map (write_to frame x) (resources_written setting x)) (next_of frame x) r)
      read

  -- the instruction that an item declares, by what it does
  pub instr_known : (known : Known) (item : Item) (at : ℕ) (given : Name) (behaviour : Statement) (does : Option Effect) (it : Instr) → item ≡ items.Instruction at name given behaviour → does ≡ Some x → format ≡ given.text
      → it ≡ instr_of setting name format x → does ≡ behaviour_of setting.all known item → Some it ≡ instruction_of setting known item
  instr_known known item at given behaviour does it is some same made found =
      ap Some made ∙ ap (λ (text : Text). Some (instr_of setting name text x)) same
      ∙ ap (instr_with setting name given.text) (sym some ∙ found ∙ ap (behaviour_of setting.all known) is) ∙ ap (instruction_of setting known) (sym is)
