use Rattle.std.proofs.Common.{◌≤◌, ◌-◌, ◌∙◌, sym, ap, subst, if◌then◌else◌, arith}
use Rattle.im_num.specs.declared.values.CellValue.TheVariants.{Inside, Local}
use Rattle.im_image.specs.Contents.{ObjectValue}
use Rattle.im_device.specs.Variables.{reaches}
use Rattle.im_emu.proofs.Layouts.{none_begun, last_begun}
use Rattle.im_emu.proofs.vars.place_among.Goals as goal

pub returns-then-begun-eq0 : goal.returns-then-begun-eq0
returns-then-begun-eq0 c = none_begun c.args.objects.now c.args.address c.begun_by-begun.result c.begun_by-begun.ensures c.if-begun-eq0.true

pub place_in-requires : goal.place_in-requires
place_in-requires c =
    let low = c.begun_by-begun.ensures.low (c.begun_by-begun.result - 1) c.index-objects-begun.result (omega (arith, c.if-begun-eq0.false)) in
    subst (λ (object : ObjectValue). object.at ≤ c.args.address) (sym c.index-objects-begun.is) low

pub returns : goal.returns
returns c =
    let number = c.begun_by-begun.result - 1 in
    c.place_in.ensures
    ∙ ap (λ (object : ObjectValue). if reaches object c.args.address then Inside number (c.args.address - object.at) else Local) c.index-objects-begun.is
    ∙ last_begun c.args.objects.now c.args.address c.begun_by-begun.result c.index-objects-begun.result c.requires c.begun_by-begun.ensures (omega (arith, c.if-begun-eq0.false))
