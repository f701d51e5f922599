use Rattle.std.proofs.Common.{◌≡◌, ◌∙◌, ap, sym, Bool, true, false}
use Rattle.im_store.specs.Numbers.{apply}
use Rattle.im_store.specs.Pointers.{moved_by, bytes_moved, holds}
use Rattle.im_typed.specs.ProgramOf.{expr_of}
use Rattle.im_typed.specs.Meaning.{value_of}
use Rattle.im_typed.specs.Runs.{◌>>=◌, checked, either, in_store}
use Rattle.im_typed.specs.Values.{scalar, number, number_in, truth, value_in}
use Rattle.im_eval_store.specs.Shown.{shown}
use Rattle.im_eval_machine.specs.Small.{small_expr}
use Rattle.im_eval_tasks.specs.Stack.{continues, in_activation, then_valued}
use Rattle.im_eval_tasks.proofs.Begins.{right_binary, right_compare, right_distance, right_holds, right_move_by}
use Rattle.im_eval_tasks.proofs.Expressions.{moved}
use Rattle.im_eval_tasks.proofs.operator.onward.Goals as goal

pub returns-in-Move : goal.returns-in-Move
returns-in-Move c = λ types g n here ts s.
    let right = small_expr (expr_of types c.args.right.now.value) in
    rw (c.deref-in-Move.ensures, c.in-Move.is)
    (moved types g n here (λ d. continues types g n here ts d) s c.in-Move.size c.in-Move.back c.args.value right)

pub returns-in-Ok : goal.returns-in-Ok
returns-in-Ok c = λ types g n here ts s.
    let around = in_activation types g n here in
    let right = small_expr (expr_of types c.args.right.now.value) in
    let w = c.in-Binary in
    rw (c.deref.ensures, w.is)
    (right_binary types g n here (λ d. continues types g n here ts d) s right w.op w.kind c.in-Ok.number
    ∙ sym (ap (λ r. then_valued types g n here ts (checked r >>= (λ x. number_in (value_of around right) >>= (λ y. checked (apply w.op w.kind x y) >>= number))) s) c.in-Ok.ensures))

pub returns-in-Ok-number_of : goal.returns-in-Ok-number_of
returns-in-Ok-number_of c = λ types g n here ts s.
    let around = in_activation types g n here in
    let right = small_expr (expr_of types c.args.right.now.value) in
    let w = c.in-MoveBy in
    rw (c.deref-in-Ok-number_of.ensures, w.is)
    (right_move_by types g n here (λ d. continues types g n here ts d) s right w.size c.in-Ok-number_of.by
    ∙ sym (ap (λ r. then_valued types g n here ts (checked r >>= (λ m. value_in (value_of around right) >>= (λ q. in_store (λ store. moved_by store (bytes_moved w.size false m) q) >>= scalar))) s) c.in-Ok-number_of.ensures))

pub returns-in-Distance : goal.returns-in-Distance
returns-in-Distance c = λ types g n here ts s.
    let right = small_expr (expr_of types c.args.right.now.value) in
    rw (c.deref-in-Distance.ensures, c.in-Distance.is)
    (right_distance types g n here (λ d. continues types g n here ts d) s right c.in-Distance.size c.args.value)

pub returns-in-Compare : goal.returns-in-Compare
returns-in-Compare c = λ types g n here ts s.
    let right = small_expr (expr_of types c.args.right.now.value) in
    rw (c.deref-in-Compare.ensures, c.in-Compare.is)
    (right_compare types g n here (λ d. continues types g n here ts d) s right c.in-Compare.op c.args.value)

pub returns-then-holds : goal.returns-then-holds
returns-then-holds c = λ types g n here ts s.
    let around = in_activation types g n here in
    let right = small_expr (expr_of types c.args.right.now.value) in
    let decides : holds (shown c.args.value) ≡ true = sym c.holds.ensures ∙ c.if-holds.true in
    rw (c.deref-then-holds.ensures, c.in-And.is)
    (right_holds types g n here (λ d. continues types g n here ts d) s right
    ∙ sym (ap (λ (b : Bool). then_valued types g n here ts (either b (value_in (value_of around right) >>= (λ y. truth (holds y))) (truth false)) s) decides))

pub returns-else-holds-2 : goal.returns-else-holds-2
returns-else-holds-2 c = λ types g n here ts s.
    let around = in_activation types g n here in
    let right = small_expr (expr_of types c.args.right.now.value) in
    let decides : holds (shown c.args.value) ≡ false = sym c.holds-in-Or.ensures ∙ c.if-holds-2.false in
    rw (c.deref-else-holds-2.ensures, c.in-Or.is)
    (right_holds types g n here (λ d. continues types g n here ts d) s right
    ∙ sym (ap (λ (b : Bool). then_valued types g n here ts (either b (truth true) (value_in (value_of around right) >>= (λ y. truth (holds y)))) s) decides))
