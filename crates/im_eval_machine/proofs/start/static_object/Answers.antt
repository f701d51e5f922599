use Rattle.std.proofs.Common.{◌<◌, List, ap, sym, ◌∙◌, length, subst}
use Rattle.im_ctype.specs.declared.cell.Cell.{Cell}
use Rattle.im_ctype.specs.Table.{layout_of}
use Rattle.im_store.specs.Statics.{value_at}
use Rattle.im_typed.specs.declared.program.Constant.{Constant}
use Rattle.im_eval_store.proofs.Storing.{in-range}
use Rattle.im_eval_machine.specs.Firsts.{first_values}
use Rattle.im_eval_machine.proofs.start.static_object.Goals as goal

pub returns : goal.returns
returns c =
    let types = c.args.types.now in
    let same = c.in_ok-object.ensures.plan in
    let listed = c.deref.ensures.value ∙ c.in_ok-cells.ensures in record {
      plan_is = ap (λ b. b.now) (c.set_cells.ensures.plan ∙ same);
      have = λ i kind e.
          let lt = in-range c.args.plan.now.kinds.items i kind e in
          let inside = subst (λ b. i < length b.now.kinds.items) (sym same) lt in
          c.set_cells.ensures.values types c.in_ok-object.ensures.values i inside
          ∙ ap (λ (cs : List Cell). value_at cs (first_values types c.deref-2.result.now) i) listed
          ∙ ap (λ (ks : List Constant). value_at (layout_of types c.args.variable.now.object.ty).cells (first_values types ks) i) c.deref-2.ensures.value;
    }
