-- The file of the first register that roles name, and what they name by lists.
use Rattle.std.proofs.Common.{◌≡◌, ℕ, List, [], ◌∷◌, map, flat_map, Some, None, refl, ap, ◌∙◌}
use Rattle.vg_ast.specs.declared.register.Register.{Register}
use Rattle.vg_ast.specs.declared.role.Role.{Role}
use Rattle.vg_names.specs.Numbers.{number_named}
use Rattle.vg_inline.specs.Inline.{number_or}
use Rattle.vg_type.specs.Item.{Setting}
use Rattle.vg_tree.specs.Resource.{register_id}
use Rattle.vg_declare.specs.AbiRole.{registers_of}
use Rattle.vg_processor.specs.IsaOf.{files_of, first_or}
use Rattle.vg_declare.specs.Registers.{first_register}

some_equal : {A : Type 0} (a b : A) → Some a ≡ Some b → a ≡ b
some_equal a b h = cc

none_of : (f : Register → ℕ) (xs : List Register) → None ≡ first_register xs → 0 ≡ first_or 0 (map f xs)
none_of f [] h = refl
none_of f (x ∷ xs) h = absurd (cc)

some_of : (f : Register → ℕ) (xs : List Register) (x : Register) → Some x ≡ first_register xs → f x ≡ first_or 0 (map f xs)
some_of f [] x h = absurd (cc)
some_of f (y ∷ xs) x h = ap f (some_equal x y h)

pub no_file : (setting : Setting) (front : List Role) → None ≡ first_register (flat_map registers_of front) → 0 ≡ first_or 0 (files_of setting front)
no_file setting front h = none_of (λ (register : Register). register_id setting.all (number_or (number_named setting.all register.file.text))) (flat_map registers_of front) h

pub some_file : (setting : Setting) (front : List Role) (x : Register) (n : ℕ) → Some x ≡ first_register (flat_map registers_of front)
    → n ≡ register_id setting.all (number_or (number_named setting.all x.file.text)) → n ≡ first_or 0 (files_of setting front)
some_file setting front x n h e = e ∙ some_of (λ (register : Register). register_id setting.all (number_or (number_named setting.all register.file.text))) (flat_map registers_of front) x h
