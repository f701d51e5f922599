use Rattle.std.proofs.Common.{◌∷◌, sym, ap, ◌∙◌, subst}
use Rattle.im_forward.specs.Known.{is_one, AreKnown}
use Rattle.im_forward.proofs.Knowing.{passes_none, passes_set}
use Rattle.im_forward.proofs.copies.pass_other.Goals as goal

pub returns-in-Some : goal.returns-in-Some
returns-in-Some c free before h =
    subst (AreKnown free (c.args.line ∷ before)) (sym c.forget.ensures)
    (passes_set free c.args.line c.in-Some.register c.args.copies.now.items (λ v. c.set_by.ensures v ∙ ap (λ o. is_one o v) c.in-Some.is) before h)

pub returns-in_default : goal.returns-in_default
returns-in_default c free before h =
    passes_none free c.args.line c.args.copies.now.items (λ v. c.set_by.ensures v ∙ ap (λ o. is_one o v) c.in_default.is) before h
