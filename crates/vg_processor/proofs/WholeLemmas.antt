-- The whole processor, in the setting of a description.
use Rattle.std.proofs.Common.{◌≡◌, ap, ◌∙◌}
use Rattle.vg_ast.specs.declared.desc.Desc.{Desc}
use Rattle.vg_inline.specs.InPlace.{known_of}
use Rattle.vg_isa.specs.declared.isa.Parts.{Parts}
use Rattle.vg_type.specs.Item.{Setting, setting_of}
use Rattle.vg_processor.specs.IsaOf.{isa_by, isa_of}

pub whole_is : (setting : Setting) (d : Desc) (it : Parts) → it ≡ isa_by setting (known_of d.items) d → setting ≡ setting_of d.items → it ≡ isa_of d
unfolding isa_of
whole_is setting d it e s = e ∙ ap (λ (t : Setting). isa_by t (known_of d.items) d) s
