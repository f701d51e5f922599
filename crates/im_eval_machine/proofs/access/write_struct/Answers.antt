use Rattle.std.proofs.Common.{◌≡◌, ◌+◌, ◌<◌, ◌∙◌, drop, length, get_or, sym, ap, arith}
use Rattle.std.proofs.Math.ListN.{drop_of_length-le}
use Rattle.std.proofs.lemmas.Result.{err_from_is_err_and}
use Rattle.std.specs.Prelude.{Some, None, slice_get}
use Rattle.std.specs.Option.{option_map}
use Rattle.im_num.specs.declared.kind.Kind.TheVariants.{I8}
use Rattle.im_ctype.specs.declared.cell.Cell.{Cell}
use Rattle.im_eval_store.specs.Shown.{object_of, shown}
use Rattle.im_eval_machine.specs.Shown.{values}
use Rattle.im_eval_machine.proofs.Rows.{dropped-at, some-dropped}
use Rattle.im_eval_machine.proofs.Accessing.{got-dropped, none-dropped, write-on, write-bad, write-short, write-done}
use Rattle.im_eval_machine.proofs.access.write_struct.Goals as goal

-- what stands in the place of no cell
abbrev no_cell : Cell
no_cell = record { offset = 0; kind = I8 }

pub returns-in-None : goal.returns-in-None
returns-in-None c = λ last store h.
    let l = c.loop-number in
    let p = c.args.place in
    let i = l.invariant last store h in
    let within : l.number < length c.args.cells.now = omega arith in
    let gone : slice_get (values c.args.found.now) l.number ≡ None = sym c.get.ensures ∙ ap (option_map shown) c.in-None.is in
    let next = some-dropped c.args.cells.now l.number within in
    write-short (object_of p.object) p.offset store i.0 c.args.cells.now (values c.args.found.now) (drop l.number c.args.cells.now) (drop l.number (values c.args.found.now)) next.0 next.1 i.2 next.2
    (none-dropped (values c.args.found.now) l.number gone)

pub returns-in_err-write_cell-in-Some : goal.returns-in_err-write_cell-in-Some
returns-in_err-write_cell-in-Some c =
    let r = err_from_is_err_and c.from_residual.result c.from_residual.ensures.1 in
    rw (r.1, r.2) (λ last store h.
    let l = c.loop-number in
    let p = c.args.place in
    let vs = values c.args.found.now in
    let cells = c.args.cells.now in
    let i = l.invariant last store h in
    let within : l.number < length cells = omega arith in
    let got : slice_get vs l.number ≡ Some (shown c.in-Some.value) = sym c.get.ensures ∙ ap (option_map shown) c.in-Some.is in
    write-bad (object_of p.object) p.offset store i.0 cells vs (drop l.number cells) (drop l.number vs) (get_or cells l.number no_cell) (shown c.in-Some.value) (drop (l.number + 1) cells) (drop (l.number + 1) vs) c.in_err-write_cell-in-Some.field-0.0 i.2
    (dropped-at no_cell cells l.number within) (got-dropped vs l.number (shown c.in-Some.value) got) (c.in_err-write_cell-in-Some.ensures last i.0 i.1))

pub loop-number-preserved : goal.loop-number-preserved
loop-number-preserved c = λ last store h.
    let l = c.loop-number in
    let p = c.args.place in
    let vs = values c.args.found.now in
    let cells = c.args.cells.now in
    let i = l.invariant last store h in
    let within : l.number < length cells = omega arith in
    let got : slice_get vs l.number ≡ Some (shown c.in-Some.value) = sym c.get.ensures ∙ ap (option_map shown) c.in-Some.is in
    let w = c.in_ok-write_cell-in-Some.ensures last i.0 i.1 in (
      w.0,
      w.2,
      write-on (object_of p.object) p.offset store i.0 w.0 cells vs (drop l.number cells) (drop l.number vs) (get_or cells l.number no_cell) (shown c.in-Some.value) (drop (l.number + 1) cells) (drop (l.number + 1) vs) i.2
          (dropped-at no_cell cells l.number within) (got-dropped vs l.number (shown c.in-Some.value) got) w.1,
    )

pub returns : goal.returns
returns c = λ last store h.
    let l = c.loop-number in
    let p = c.args.place in
    let i = l.invariant last store h in
    let past = c.loop-number-test.false in
    (i.0, write-done (object_of p.object) p.offset store i.0 c.args.cells.now (values c.args.found.now) (drop l.number c.args.cells.now) (drop l.number (values c.args.found.now)) i.2 (drop_of_length-le c.args.cells.now past), i.1)
