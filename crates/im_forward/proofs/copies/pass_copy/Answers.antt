use Rattle.std.proofs.Common.{◌≡◌, ◌≤◌, List, [], ◌∷◌, ◌++◌, refl, sym, ap, ◌∙◌, subst}
use Rattle.im_block.specs.declared.code.Line.TheVariants.{Copy}
use Rattle.im_forward.specs.declared.copies.Known.{Known}
use Rattle.im_forward.specs.Known.{instead_of, AreKnown}
use Rattle.im_forward.proofs.Knowing.{passes_set, passes_copy}
use Rattle.im_forward.proofs.copies.pass_copy.Goals as goal

pub returns-in_ok-push : goal.returns-in_ok-push
returns-in_ok-push c before h =
    let old = c.args.copies.now.items in
    let k : Known = record { register = c.args.to; source = c.instead-source.result } in
    let is : c.instead-source.result ≡ instead_of old c.args.from = c.instead-source.ensures ∙ ap (λ (z : List Known). instead_of z c.args.from) c.deref.ensures.value in
    subst (AreKnown c.args.free (Copy c.args.to c.args.from ∷ before)) (sym (c.in_ok-push.ensures.items ∙ ap (λ (z : List Known). z ++ k ∷ []) c.forget.ensures))
    (passes_copy c.args.free c.args.to c.args.from old k refl is c.if-to-from.true (λ e. c.if-to-source.true (e ∙ sym is)) (subst (λ z. c.args.free ≤ z) is c.if-free-source.true) before h)

pub returns-else-to-from : goal.returns-else-to-from
returns-else-to-from c before h =
    subst (AreKnown c.args.free (Copy c.args.to c.args.from ∷ before)) (sym c.forget.ensures)
    (passes_set c.args.free (Copy c.args.to c.args.from) c.args.to c.args.copies.now.items (λ v. refl) before h)
