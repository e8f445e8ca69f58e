-- What roles name by lists, and the binary interface by it.
use Rattle.std.proofs.Common.{◌≡◌, ℕ, List, [], ◌∷◌, ◌++◌, map, flat_map, refl, ap, ◌∙◌}
use Rattle.vg_ast.specs.declared.register.Register.{Register}
use Rattle.vg_ast.specs.declared.role.Role.{Role}
use Rattle.vg_ast.specs.declared.abi.Abi.{Abi as GivenAbi}
use Rattle.vg_isa.specs.declared.abi.Abi.{Abi}
use Rattle.vg_type.specs.Item.{Setting}
use Rattle.vg_declare.specs.AbiRole.{index_of, return_value, arguments, code_base, data_base, stack_ends}
use Rattle.vg_processor.specs.IsaOf.{abi_of, files_of, first_or, second_or, registers_in, stack_pointer, return_address, temporaries, saved}
use Rattle.vg_processor.specs.AbiFrom.{abi_from}

behind : {Y Z : Type 0} (f : Y → Z) (xs ys : List Y) → map f xs ++ map f ys ≡ map f (xs ++ ys)
behind f [] ys = refl
behind f (x ∷ xs) ys = ap (λ zs. f x ∷ zs) (behind f xs ys)

together : (setting : Setting) (of : Role → List Register) (front : List Role) → flat_map (λ (role : Role). map (index_of setting) (of role)) front ≡ registers_in setting of front
together setting of [] = refl
together setting of (role ∷ more) = ap (λ zs. map (index_of setting) (of role) ++ zs) (together setting of more) ∙ behind (index_of setting) (of role) (flat_map of more)

-- the binary interface of these lists
abbrev given : Setting → List Role → List ℕ → List ℕ → List ℕ → List ℕ → List ℕ → List ℕ → Abi
given setting front stack return value arguments temporaries saved =
    record {
      file = record { 0 = first_or 0 (files_of setting front) };
      stack_pointer = first_or 0 stack;
      return_address = first_or 0 return;
      return_value = first_or 0 value;
      arguments = arguments;
      temporaries = temporaries;
      saved = saved;
      code_base = first_or 0 (flat_map (code_base setting) front);
      data_base = first_or 0 (flat_map (data_base setting) front);
      low = first_or 0 (flat_map (stack_ends setting) front);
      high = second_or 0 (flat_map (stack_ends setting) front);
    }

-- by the numbers that roles name it is that of the description
pub abi_is : (setting : Setting) (abi : GivenAbi) → abi_from setting abi.roles ≡ abi_of setting abi
abi_is setting abi =
    let front = abi.roles in
    let list = λ (of : Role → List Register). flat_map (λ (role : Role). map (index_of setting) (of role)) front in
    let there = registers_in setting in
    ap (λ (xs : List ℕ). given setting front xs (list return_address) (list return_value) (list arguments) (list temporaries) (list saved)) (together setting stack_pointer front)
    ∙ ap (λ (xs : List ℕ). given setting front (there stack_pointer front) xs (list return_value) (list arguments) (list temporaries) (list saved)) (together setting return_address front)
    ∙ ap (λ (xs : List ℕ). given setting front (there stack_pointer front) (there return_address front) xs (list arguments) (list temporaries) (list saved)) (together setting return_value front)
    ∙ ap (λ (xs : List ℕ). given setting front (there stack_pointer front) (there return_address front) (there return_value front) xs (list temporaries) (list saved)) (together setting arguments front)
    ∙ ap (λ (xs : List ℕ). given setting front (there stack_pointer front) (there return_address front) (there return_value front) (there arguments front) xs (list saved)) (together setting temporaries front)
    ∙ ap (λ (xs : List ℕ). given setting front (there stack_pointer front) (there return_address front) (there return_value front) (there arguments front) (there temporaries front) xs) (together setting saved front)
