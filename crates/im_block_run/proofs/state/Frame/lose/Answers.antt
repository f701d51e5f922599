use Rattle.std.proofs.Common.{◌∙◌, ap}
use Rattle.std.specs.Prelude.{slice_get}
use Rattle.im_block_run.proofs.Losing.{got-none, got-some, lost-none, lost-virtual, lost-machine}
use Rattle.im_block_run.proofs.state.Frame.lose.Goals as goal

pub returns-in-None : goal.returns-in-None
returns-in-None c = λ s h.
    let all = c.args.unit.now.functions.items in
    let got = ap (slice_get all) h.function ∙ got-none all c.deref.result.now c.args.self.now.function c.deref.ensures.value c.in-None.ensures.lookup.3 in
    lost-none (slice_get all s.function) c.args.self.now s h got

pub returns-in-Virtual : goal.returns-in-Virtual
returns-in-Virtual c = λ s h.
    let all = c.args.unit.now.functions.items in
    let got = ap (slice_get all) h.function ∙ got-some all c.deref.result.now c.args.self.now.function c.in-Some.function.now c.deref.ensures.value c.in-Some.ensures.lookup.3.0 c.in-Some.ensures.lookup.1 in
    lost-virtual (slice_get all s.function) c.args.self.now s h c.in-Some.function.now got c.in-Virtual.is

pub returns-in-Machine : goal.returns-in-Machine
returns-in-Machine c = λ s h.
    let all = c.args.unit.now.functions.items in
    let got = ap (slice_get all) h.function ∙ got-some all c.deref.result.now c.args.self.now.function c.in-Some.function.now c.deref.ensures.value c.in-Some.ensures.lookup.3.0 c.in-Some.ensures.lookup.1 in
    lost-machine (slice_get all s.function) c.args.self.now s h c.in-Some.function.now c.new.result got c.in-Machine.is c.new.ensures.items
