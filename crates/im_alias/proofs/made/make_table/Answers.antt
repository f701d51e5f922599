use Rattle.std.proofs.Common.{◌≡◌, ◌+◌, ◌<◌, length, Some, sym, subst, arith}
use Rattle.std.specs.Prelude.{slice_get}
use Rattle.im_alias.specs.declared.table.RegisterSets.{RegisterSets}
use Rattle.im_alias.specs.declared.table.Table.{Table}
use Rattle.im_alias.specs.Sets.{HaveNothing}
use Rattle.im_alias.proofs.Lists.{got}
use Rattle.im_alias.proofs.Making.{MadeRows, nothing_none, rows_next, objects_next, shape_made}
use Rattle.im_alias.proofs.made.make_table.Goals as goal

pub loop-function-preserved : goal.loop-function-preserved
loop-function-preserved c =
    let l = c.loop-function in
    let u = c.args.unit.now in
    let k = l.function-index in
    let f = c.function-item.result in
    let within : k < length c.deref-function-items.result.now = omega arith in
    let there : slice_get u.functions.items k ≡ Some f = got u.functions.items c.deref-function-items.result.now k f c.deref-function-items.ensures.value within c.function-item.is in
    let row : RegisterSets = record { sets = c.push_empty-in-loop-function-2.new.sets } in
    let wide : length row.sets.items ≡ f.register_count = omega (arith, c.in_ok-push_empty-4.ensures.count, c.new-sets.ensures.len) in
    let empty : HaveNothing row.sets.items = c.in_ok-push_empty-4.ensures.nothing (subst HaveNothing (sym c.new-sets.ensures.items) nothing_none) in
    record {
      objects = omega (arith, objects_next u k f there, c.in_ok-push_empty-3.ensures.count, c.len-in-loop-function.ensures, l.invariant.objects);
      nothing = c.in_ok-push_empty-3.ensures.nothing l.invariant.nothing;
      rows = subst (MadeRows u (k + 1)) (sym c.in_ok-push.ensures.items) (rows_next u k f l.registers.items row there wide empty l.invariant.rows);
    }

pub returns-clause-shape : goal.returns-clause-shape
returns-clause-shape c =
    let l = c.loop-function in
    let u = c.args.unit.now in
    let t : Table = record { objects = l.objects; returned = c.push_empty-2.new.sets; registers = l.registers } in
    let all : l.function-index ≡ length u.functions.items = omega (arith, c.deref-function-items.ensures.len) in
    let returned : length t.returned.items ≡ length u.functions.items = omega (arith, c.in_ok-push_empty-2.ensures.count, c.new-returned.ensures.len, c.len-2.ensures) in
    shape_made u t l.function-index all l.invariant.objects returned l.invariant.rows
