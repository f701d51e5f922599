use Rattle.std.proofs.Common.{List, [], ◌∷◌, ◌++◌, refl, sym, ap, subst, ◌∙◌, rules}
use Rattle.im_rv.specs.declared.code.Part.{Part}
use Rattle.im_link.specs.Code.{IsLinkable}
use Rattle.im_link.proofs.Checking.{passes, are_named, linkable_of}
use Rattle.im_trial_machine.proofs.pages.page.Goals as goal

pub returns : goal.returns
unfolding passes are_named
returns c =
    let a : Part = record { name = c.in_ok-from_str.field-0; lines = c.in_ok-from_slice.field-0 } in
    let b : Part = record { name = c.in_ok-from_str-2.field-0; lines = c.in_ok-from_slice-2.field-0 } in
    let one = c.in_ok-push.ensures.items ∙ ap (λ (z : List Part). z ++ a ∷ []) c.new-parts.ensures.items in
    let two = c.in_ok-push-2.ensures.items ∙ ap (λ (z : List Part). z ++ b ∷ []) one in
    subst IsLinkable (sym two) (linkable_of a b _ _ c.in_ok-from_slice.ensures.items c.in_ok-from_slice-2.ensures.items (search rules) refl refl refl)
