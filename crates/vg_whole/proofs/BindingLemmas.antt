-- What names are worth among fields and parameters.
use Rattle.std.proofs.Common.{◌≡◌, Bool, true, false, List, [], ◌∷◌, Some, None, refl, ap, ◌∙◌, if◌then◌else◌}
use Rattle.std.specs.Str.{bytes_eq}
use Rattle.vg_names.specs.Definition.{Text, is_among}
use Rattle.vg_whole.specs.declared.worth.Worth.{Worth}
use Rattle.vg_whole.specs.declared.worth.Worth.TheVariants as worths
use Rattle.vg_whole.specs.Whole.{Inner, inner_of, or_else}
use Rattle.vg_whole.specs.Overflow.{typed_names}

among_typed : (names : List Text) (text : Text) → inner_of (typed_names names) text ≡ (if is_among text names then Some worths.Typed else None)
among_typed [] text = refl
among_typed (name ∷ names) text = by (bytes_eq name text) (among_typed names text)
  where
    by : (b : Bool) → inner_of (typed_names names) text ≡ (if is_among text names then Some worths.Typed else None)
        → (if b then Some worths.Typed else inner_of (typed_names names) text) ≡ (if (if b then true else is_among text names) then Some worths.Typed else None)
    by true h = refl
    by false h = h

pub hidden : (names : List Text) (text : Text) (other : Worth) → is_among text names ≡ true → or_else (inner_of (typed_names names) text) other ≡ worths.Typed
hidden names text other h = ap (λ o. or_else o other) (among_typed names text ∙ ap (λ b. if b then Some worths.Typed else None) h)

pub not_hidden : (names : List Text) (text : Text) (other : Worth) → is_among text names ≡ false → or_else (inner_of (typed_names names) text) other ≡ other
not_hidden names text other h = ap (λ o. or_else o other) (among_typed names text ∙ ap (λ b. if b then Some worths.Typed else None) h)

pub bound_here : (name text : Text) (worth : Worth) (inner : Inner Worth) (other : Worth) → bytes_eq name text ≡ true → or_else (inner_of ((name, worth) ∷ inner) text) other ≡ worth
bound_here name text worth inner other h = ap (λ b. or_else (if b then Some worth else inner_of inner text) other) h

pub bound_outside : (name text : Text) (worth : Worth) (inner : Inner Worth) (other : Worth) → bytes_eq name text ≡ false → or_else (inner_of ((name, worth) ∷ inner) text) other ≡ or_else (inner_of inner text) other
bound_outside name text worth inner other h = ap (λ b. or_else (if b then Some worth else inner_of inner text) other) h

pub ruleset binding_steps = (hidden, not_hidden, bound_here, bound_outside)
