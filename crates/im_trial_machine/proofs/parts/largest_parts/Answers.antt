use Rattle.std.proofs.Common.{List, [], ◌∷◌, ◌++◌, sym, ap, subst, ◌∙◌, arith}
use Rattle.im_rv.specs.declared.code.Part.{Part}
use Rattle.im_link.specs.Code.{IsLinkable}
use Rattle.im_trial_machine.proofs.Linkable.{linkable}
use Rattle.im_trial_machine.proofs.parts.largest_parts.Goals as goal

pub returns : goal.returns
returns c =
    let a : Part = record { name = c.in_ok-from_str.field-0; lines = c.in_ok-lines_between.field-0 } in
    let b : Part = record { name = c.in_ok-from_str-2.field-0; lines = c.in_ok-lines_between-2.field-0 } in
    let one = c.in_ok-push.ensures.items ∙ ap (λ (z : List Part). z ++ a ∷ []) c.new-parts.ensures.items in
    let two = c.in_ok-push-2.ensures.items ∙ ap (λ (z : List Part). z ++ b ∷ []) one in
    let m = c.in_ok-lines_between.ensures.count in
    let n = c.in_ok-lines_between-2.ensures.count in
    subst IsLinkable (sym two) (linkable a b c.in_ok-lines_between.ensures.numbered (omega arith) c.in_ok-lines_between-2.ensures.numbered (omega arith))
