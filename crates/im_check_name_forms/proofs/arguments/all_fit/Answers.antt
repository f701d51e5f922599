use Rattle.std.proofs.Common.{◌+◌, ◌&&◌, drop, ap, sym, ◌∙◌}
use Rattle.std.proofs.lemmas.List.{drop_all}
use Rattle.im_types.specs.Shape.{types_in}
use Rattle.im_check_conversions.specs.im_rules.Demands as d
use Rattle.im_check_name_forms.specs.Lists.{terms_in}
use Rattle.im_check_name_forms.proofs.arguments.all_fit.Goals as goal

pub loop-i-preserved : goal.loop-i-preserved
loop-i-preserved c = λ types.
    let n = c.loop-i.i + 1 in
    let others = d.all_fit (types_in (drop n c.args.parameters.now)) (terms_in types (drop n c.args.arguments.now)) in
    c.loop-i.invariant types ∙ c.fits_at.ensures types ∙ ap (λ b. b && others) c.if-not-fits_at.false

pub returns-then-not-fits_at : goal.returns-then-not-fits_at
returns-then-not-fits_at c = λ types.
    let n = c.loop-i.i + 1 in
    let others = d.all_fit (types_in (drop n c.args.parameters.now)) (terms_in types (drop n c.args.arguments.now)) in
    sym (c.loop-i.invariant types ∙ c.fits_at.ensures types ∙ ap (λ b. b && others) c.if-not-fits_at.true)

pub returns : goal.returns
returns c = λ types.
    let left = terms_in types (drop c.loop-i.i c.args.arguments.now) in
    sym (c.loop-i.invariant types ∙ ap (λ z. d.all_fit (types_in z) left) (drop_all c.loop-i.i c.args.parameters.now c.loop-i-test.false))
