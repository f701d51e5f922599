-- Lists of types compared.
use Rattle.std.proofs.Common.{◌≡◌, suc, Bool, true, false, ◌&&◌, List, [], ◌∷◌, length, map, refl, sym, ap, ◌∙◌}
use Rattle.std.proofs.lemmas.List.{length-map}
use Rattle.im_ctype.specs.Types.{CType, void, integer, pointer, array, unsized, struct, function, CTypes, same_type, same_types}
use Rattle.im_types.specs.Compared.{same_result, same_parameters}
use Rattle.im_types.specs.declared.tree.Type as rust
use Rattle.im_types.specs.Shape.{type_of, types_in, listed}

and-false : (b : Bool) → (b && false) ≡ false
and-false true = refl
and-false false = refl

differ : (as' bs : List CType) → (length as' ≡ length bs → ⊥) → same_types (listed as') (listed bs) ≡ false
differ [] [] h = absurd (h refl)
differ (a ∷ as') (b ∷ bs) h =
    ap (λ x. same_type a b && x) (differ as' bs (λ e. h (ap suc e))) ∙ and-false (same_type a b)
differ [] (b ∷ bs) h = refl
differ (a ∷ as') [] h = refl

-- lists of different lengths aren't the same
pub lengths-differ : (ps qs : List rust.Type) → (length ps ≡ length qs → ⊥) → same_types (types_in ps) (types_in qs) ≡ false
lengths-differ ps qs h =
    differ (map {A = rust.Type} type_of ps) (map {A = rust.Type} type_of qs)
    (λ e. h (sym (length-map {A = rust.Type} ps type_of) ∙ e ∙ length-map {A = rust.Type} qs type_of))

-- a function type is compared by its parts
pub by-parts : (r : CType) (ps : CTypes) (t : CType) → same_type (function r ps) t ≡ (same_result r t && same_parameters ps t)
by-parts r ps void = refl
by-parts r ps (integer i) = refl
by-parts r ps (pointer c t) = refl
by-parts r ps (array t n) = refl
by-parts r ps (unsized t) = refl
by-parts r ps (struct n) = refl
by-parts r ps (function s qs) = refl
