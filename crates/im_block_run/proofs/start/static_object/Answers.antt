use Rattle.std.proofs.Common.{◌<◌, List, ap, sym, ◌∙◌, length, map, subst}
use Rattle.im_ctype.specs.declared.cell.Cell.{Cell}
use Rattle.im_store.specs.Statics.{value_at}
use Rattle.im_block.specs.declared.unit.Constant.{Constant}
use Rattle.im_block.specs.Meaning.{constant}
use Rattle.im_eval_store.proofs.Storing.{in-range}
use Rattle.im_block_run.proofs.start.static_object.Goals as goal

pub returns : goal.returns
returns c =
    let same = c.in_ok-object.ensures.plan in
    let set = c.in_ok-set_cells.ensures in record {
      plan_is = ap (λ b. b.now) (set.plan ∙ same);
      have = λ i kind e.
          let lt = in-range c.args.plan.now.kinds.items i kind e in
          let inside = subst (λ b. i < length b.now.kinds.items) (sym same) lt in
          set.values c.in_ok-object.ensures.values i inside
          ∙ ap (λ (cs : List Cell). value_at cs (map constant c.deref-2.result.now) i) c.deref.ensures.value
          ∙ ap (λ (ks : List Constant). value_at c.args.one.now.object.cells.items (map constant ks) i) c.deref-2.ensures.value;
    }
