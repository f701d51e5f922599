use Rattle.std.proofs.Common.{◌≡◌, ◌∙◌, ap, sym, List, map, ◌++◌, Bor}
use Rattle.im_typed.specs.Program as p
use Rattle.im_typed.specs.ProgramOf.{expr_of, place_of as typed_place}
use Rattle.im_typed.specs.Runs.{◌>>=◌}
use Rattle.im_typed.specs.Meaning.{value_of, values_of}
use Rattle.im_eval_store.specs.declared.value.Value.{Value}
use Rattle.im_eval_store.specs.Shown.{shown}
use Rattle.im_eval_machine.specs.Small.{small_expr, small_place}
use Rattle.im_eval_tasks.specs.Stack.{in_activation, continues, then_valued}
use Rattle.im_eval_tasks.specs.Tasks.{exprs_in}
use Rattle.im_eval_tasks.proofs.Begins.{reads_, address_, assign_, increment_, convert_, unary_, not_, serve_, comma_, discard_, part_, binary_, move_, move_by_, distance_, compare_, and_, or_, choose_}
use Rattle.im_eval_tasks.proofs.Expressions.{update_}
use Rattle.im_eval_tasks.proofs.Rows.{call_is}
use Rattle.im_eval_tasks.proofs.expression.begin.Goals as goal

pub returns-in-Call : goal.returns-in-Call
returns-in-Call c = λ types g n here ts s.
    let around = in_activation types g n here in
    let f = c.in-Call.function in
    let items = c.in-Call.arguments.items in
    let whole : small_expr (expr_of types c.args.expr.now) ≡ p.Call f (exprs_in types items) =
    ap (λ x. small_expr (expr_of types x)) c.in-Call.is ∙ call_is types f c.in-Call.arguments in
    ap (λ es. then_valued types g n here ts (values_of around (exprs_in types es) >>= (λ vs. around.calls f (map {A = Value} shown c.new.result.items ++ vs))) s) c.deref.ensures.value
    ∙ ap (λ (ready : List Value). then_valued types g n here ts (values_of around (exprs_in types items) >>= (λ vs. around.calls f (map {A = Value} shown ready ++ vs))) s) c.new.ensures.items
    ∙ sym (ap (λ x. then_valued types g n here ts (value_of around x) s) whole)

pub returns-in-Update : goal.returns-in-Update
returns-in-Update c = λ types g n here ts s.
    let by : Bor _ = record { ref_ptr = c.args.expr.ref_ptr; now = c.in-Update.by } in
    let at = small_place (typed_place types c.in-Update.place.value) in
    rw (c.deref-in-Update.ensures, c.in-Update.is)
    (update_ types g n here (λ d. continues types g n here ts d) s at c.in-Update.change by)

pub returns-in-Read : goal.returns-in-Read
returns-in-Read c = λ types g n here ts s.
    let w = c.in-Read in
    rw (c.deref-in-Read.ensures, w.is)
    (reads_ types g n here (λ d. continues types g n here ts d) s (small_place (typed_place types w.place.value)) w.access)

pub returns-in-Address : goal.returns-in-Address
returns-in-Address c = λ types g n here ts s.
    let w = c.in-Address in
    rw (c.deref-in-Address.ensures, w.is)
    (address_ types g n here (λ d. continues types g n here ts d) s (small_place (typed_place types w.place.value)))

pub returns-in-Assign : goal.returns-in-Assign
returns-in-Assign c = λ types g n here ts s.
    let w = c.in-Assign in
    let value : Bor _ = record { ref_ptr = c.args.expr.ref_ptr; now = w.value } in
    rw (c.deref-in-Assign.ensures, w.is)
    (assign_ types g n here (λ d. continues types g n here ts d) s (small_place (typed_place types w.place.value)) w.access value)

pub returns-in-Increment : goal.returns-in-Increment
returns-in-Increment c = λ types g n here ts s.
    let w = c.in-Increment in
    rw (c.deref-in-Increment.ensures, w.is)
    (increment_ types g n here (λ d. continues types g n here ts d) s (small_place (typed_place types w.place.value)) w.change w.old)

pub returns-in-Convert : goal.returns-in-Convert
returns-in-Convert c = λ types g n here ts s.
    let w = c.in-Convert in
    rw (c.deref-in-Convert.ensures, w.is)
    (convert_ types g n here (λ d. continues types g n here ts d) s (small_expr (expr_of types w.operand.value)) w.kind)

pub returns-in-Unary : goal.returns-in-Unary
returns-in-Unary c = λ types g n here ts s.
    let w = c.in-Unary in
    rw (c.deref-in-Unary.ensures, w.is)
    (unary_ types g n here (λ d. continues types g n here ts d) s (small_expr (expr_of types w.operand.value)) w.op w.kind)

pub returns-in-Not : goal.returns-in-Not
returns-in-Not c = λ types g n here ts s.
    let w = c.in-Not in
    rw (c.deref-in-Not.ensures, w.is)
    (not_ types g n here (λ d. continues types g n here ts d) s (small_expr (expr_of types w.operand.value)))

pub returns-in-ServeWith : goal.returns-in-ServeWith
returns-in-ServeWith c = λ types g n here ts s.
    rw (c.deref-in-ServeWith.ensures, c.in-ServeWith.is)
    (serve_ types g n here (λ d. continues types g n here ts d) s (small_expr (expr_of types c.in-ServeWith.operand.value)) c.in-ServeWith.service)

pub returns-in-Comma : goal.returns-in-Comma
returns-in-Comma c = λ types g n here ts s.
    let w = c.in-Comma in
    let right : Bor _ = record { ref_ptr = c.args.expr.ref_ptr; now = w.right } in
    rw (c.deref-in-Comma.ensures, w.is)
    (comma_ types g n here (λ d. continues types g n here ts d) s (small_expr (expr_of types w.left.value)) right)

pub returns-in-Discard : goal.returns-in-Discard
returns-in-Discard c = λ types g n here ts s.
    let w = c.in-Discard in
    rw (c.deref-in-Discard.ensures, w.is)
    (discard_ types g n here (λ d. continues types g n here ts d) s (small_expr (expr_of types w.operand.value)))

pub returns-in-Part : goal.returns-in-Part
returns-in-Part c = λ types g n here ts s.
    let w = c.in-Part in
    rw (c.deref-in-Part.ensures, w.is)
    (part_ types g n here (λ d. continues types g n here ts d) s (small_expr (expr_of types w.whole.value)) w.from w.access)

pub returns-in-Binary : goal.returns-in-Binary
returns-in-Binary c = λ types g n here ts s.
    let w = c.in-Binary in
    let right : Bor _ = record { ref_ptr = c.args.expr.ref_ptr; now = w.right } in
    rw (c.deref-in-Binary.ensures, w.is)
    (binary_ types g n here (λ d. continues types g n here ts d) s (small_expr (expr_of types w.left.value)) w.op w.kind right)

pub returns-in-Move : goal.returns-in-Move
returns-in-Move c = λ types g n here ts s.
    let w = c.in-Move in
    let by : Bor _ = record { ref_ptr = c.args.expr.ref_ptr; now = w.by } in
    rw (c.deref-in-Move.ensures, w.is)
    (move_ types g n here (λ d. continues types g n here ts d) s (small_expr (expr_of types w.pointer.value)) w.size w.back by)

pub returns-in-MoveBy : goal.returns-in-MoveBy
returns-in-MoveBy c = λ types g n here ts s.
    let w = c.in-MoveBy in
    let pointer : Bor _ = record { ref_ptr = c.args.expr.ref_ptr; now = w.pointer } in
    rw (c.deref-in-MoveBy.ensures, w.is)
    (move_by_ types g n here (λ d. continues types g n here ts d) s (small_expr (expr_of types w.by.value)) w.size pointer)

pub returns-in-Distance : goal.returns-in-Distance
returns-in-Distance c = λ types g n here ts s.
    let w = c.in-Distance in
    let right : Bor _ = record { ref_ptr = c.args.expr.ref_ptr; now = w.right } in
    rw (c.deref-in-Distance.ensures, w.is)
    (distance_ types g n here (λ d. continues types g n here ts d) s (small_expr (expr_of types w.left.value)) w.size right)

pub returns-in-Compare : goal.returns-in-Compare
returns-in-Compare c = λ types g n here ts s.
    let w = c.in-Compare in
    let right : Bor _ = record { ref_ptr = c.args.expr.ref_ptr; now = w.right } in
    rw (c.deref-in-Compare.ensures, w.is)
    (compare_ types g n here (λ d. continues types g n here ts d) s (small_expr (expr_of types w.left.value)) w.op w.field-1 right)

pub returns-in-And : goal.returns-in-And
returns-in-And c = λ types g n here ts s.
    let w = c.in-And in
    let right : Bor _ = record { ref_ptr = c.args.expr.ref_ptr; now = w.right } in
    rw (c.deref-in-And.ensures, w.is)
    (and_ types g n here (λ d. continues types g n here ts d) s (small_expr (expr_of types w.left.value)) right)

pub returns-in-Or : goal.returns-in-Or
returns-in-Or c = λ types g n here ts s.
    let w = c.in-Or in
    let right : Bor _ = record { ref_ptr = c.args.expr.ref_ptr; now = w.right } in
    rw (c.deref-in-Or.ensures, w.is)
    (or_ types g n here (λ d. continues types g n here ts d) s (small_expr (expr_of types w.left.value)) right)

pub returns-in-Choose : goal.returns-in-Choose
returns-in-Choose c = λ types g n here ts s.
    let w = c.in-Choose in
    let first : Bor _ = record { ref_ptr = c.args.expr.ref_ptr; now = w.first } in
    let second : Bor _ = record { ref_ptr = c.args.expr.ref_ptr; now = w.second } in
    rw (c.deref-in-Choose.ensures, w.is)
    (choose_ types g n here (λ d. continues types g n here ts d) s (small_expr (expr_of types w.test.value)) first second)
