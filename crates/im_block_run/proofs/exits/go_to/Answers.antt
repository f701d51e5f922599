use Rattle.std.proofs.Common.{◌∙◌, ap, refl, sym}
use Rattle.std.specs.Prelude.{slice_get}
use Rattle.im_block_run.specs.Shown.{setting_of}
use Rattle.im_block_run.proofs.Losing.{got-none, got-some}
use Rattle.im_block_run.proofs.Steps.{no-function, no-block, a-block}
use Rattle.im_block_run.proofs.exits.go_to.Goals as goal

pub returns-in_default : goal.returns-in_default
returns-in_default c = λ s h.
    let u = c.args.code.unit.now in
    let all = u.functions.items in
    let k = c.args.state.now.frame.function in
    no-function u (setting_of c.args.code.setting) c.args.state.now s c.args.block
    (ap (slice_get all) h.running.frame.function ∙ got-none all c.deref.result.now k c.deref.ensures.value c.in_default.ensures.lookup.3)

pub returns-in_default-get : goal.returns-in_default-get
returns-in_default-get c = λ s h.
    let u = c.args.code.unit.now in
    let all = u.functions.items in
    let k = c.args.state.now.frame.function in
    let f = c.in-Some.function.now in
    no-block u (setting_of c.args.code.setting) c.args.state.now s c.args.block f
    (ap (slice_get all) h.running.frame.function ∙ got-some all c.deref.result.now k f c.deref.ensures.value c.in-Some.ensures.lookup.3.0 c.in-Some.ensures.lookup.1)
    (got-none f.blocks.items c.deref-2.result.now c.args.block c.deref-2.ensures.value c.in_default-get.ensures.lookup.3)

pub returns : goal.returns
returns c = λ s h.
    let u = c.args.code.unit.now in
    let all = u.functions.items in
    let a = c.args.state.now in
    let k = a.frame.function in
    let f = c.in-Some.function.now in
    let block = c.in-Some-get.found.now in
    let is = h.running.frame in
    a-block u (setting_of c.args.code.setting) a s c.args.block f block _ h
    (ap (slice_get all) is.function ∙ got-some all c.deref.result.now k f c.deref.ensures.value c.in-Some.ensures.lookup.3.0 c.in-Some.ensures.lookup.1)
    (got-some f.blocks.items c.deref-2.result.now c.args.block block c.deref-2.ensures.value c.in-Some-get.ensures.lookup.3.0 c.in-Some-get.ensures.lookup.1)
    (record { function = is.function; rest = sym c.deref-state.ensures.value; exit = refl; active = is.active; registers = is.registers; to = is.to })
