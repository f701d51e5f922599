use Rattle.std.proofs.Common.{◌∙◌, sym, ap}
use Rattle.im_eval_store.specs.Shown.{shown}
use Rattle.im_eval_store.proofs.Finding.{at-read, held-some}
use Rattle.im_eval_store.specs.declared.value.ObjectName.{ObjectName}
use Rattle.im_block_run.specs.Shown.{plain}
use Rattle.im_block_run.proofs.finish.static_value.Goals as goal

pub returns-in-Some-kind : goal.returns-in-Some-kind
returns-in-Some-kind c = λ last store h.
    let all = c.args.memory.now.activations.items in
    let p : ObjectName = record { activation = 0; depth = 0; number = c.args.number } in
    let at = c.in-Some.at in
    let f = c.in-Some.ensures.found last h.ordered in
    let a = c.index.result.now in
    let x = c.index-object.result.now in
    let s = at-read all p at f.0 a f.1 x f.2 c.index.ensures c.index-object.ensures in
    let it = held-some last all (plain store) p at a x h s in
    it.2.have c.args.offset c.in-Some-kind.field-0 (it.2.cells c.args.offset ∙ sym c.kind.ensures ∙ c.in-Some-kind.is) ∙ sym (ap shown c.value.ensures)
