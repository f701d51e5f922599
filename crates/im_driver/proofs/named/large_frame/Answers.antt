use Rattle.std.proofs.Common.{◌≡◌, length, refl, ap, sym, ◌∙◌}
use Rattle.std.proofs.lemmas.Option.{slice_get_read}
use Rattle.im_typed.specs.declared.program.Func.{Func}
use Rattle.im_driver.proofs.named.large_frame.Goals as goal

pub returns-in-Ok : goal.returns-in-Ok
returns-in-Ok c f at =
    let fs = c.args.functions.now in
    let found = slice_get_read fs (length fs) c.args.number c.index-functions-number.result refl c.requires c.index-functions-number.is in
    let same : c.index-functions-number.result ≡ f = cc in
    (refl, c.in-Ok.ensures.items ∙ c.deref.ensures.value ∙ ap (λ (g : Func). g.name.items) (sym c.index-functions-number.is ∙ same))

pub returns-in-Err : goal.returns-in-Err
returns-in-Err c f at = rw c.whole.ensures tt
