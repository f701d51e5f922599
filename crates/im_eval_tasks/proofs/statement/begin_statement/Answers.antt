use Rattle.std.proofs.Common.{◌∙◌, ap, sym, refl, Bor, Some}
use Rattle.im_typed.specs.Program as p
use Rattle.im_typed.specs.ProgramOf.{expr_of, stmt_of}
use Rattle.im_typed.specs.Runs.{◌>>=◌, give}
use Rattle.im_typed.specs.Meaning.{does, does_from, entered, out_of_switch, value_of}
use Rattle.im_eval_machine.specs.Small.{small_expr, small_stmt}
use Rattle.im_eval_tasks.specs.Stack.{Flowed, continues, in_activation, then_flowed}
use Rattle.im_eval_tasks.specs.Tasks.{stmts_in}
use Rattle.im_eval_tasks.proofs.Begins.{drop_, branch_, return_, first_}
use Rattle.im_eval_tasks.proofs.Binds.{switch_goes}
use Rattle.im_eval_tasks.proofs.Rows.{block_is, does_later, pieces_are, switch_is}
use Rattle.im_eval_tasks.proofs.statement.begin_statement.Goals as goal

pub returns-in-Initialise : goal.returns-in-Initialise
returns-in-Initialise c = λ types g n here ts s.
    let w = c.in-Initialise in
    rw w.is
    (ap (λ ps. then_flowed types g n here ts (does (in_activation types g n here) n (p.Initialise w.local w.cells ps)) s)
    (sym (pieces_are types w.pieces.items)))

pub returns-in-Block : goal.returns-in-Block
returns-in-Block c = λ types g n here ts s.
    let around = in_activation types g n here in
    let whole = ap (λ x. small_stmt (stmt_of types x)) c.in-Block.is ∙ block_is types c.in-Block.block in
    sym (ap (λ x. then_flowed types g n here ts (does around n x) s) whole)

pub returns-in-Switch : goal.returns-in-Switch
returns-in-Switch c = λ types g n here ts s.
    let w = c.in-Switch in
    let around = in_activation types g n here in
    let items = w.block.items in
    let cases = w.cases.items in
    let whole = ap (λ x. small_stmt (stmt_of types x)) w.is ∙ switch_is types w.value w.cases w.otherwise w.block in
    switch_goes (value_of around (small_expr (expr_of types w.value)) s)
    (λ z. does_from around n (entered z cases w.otherwise) (stmts_in types items) >>= (λ f. give (out_of_switch f)))
    _ (λ f. continues types g n here ts (Flowed f))
    (λ z t. ap (λ m. (m >>= (λ f. give (out_of_switch f))) t) (does_later types around n (entered z cases w.otherwise) items))
    ∙ sym (ap (λ x. then_flowed types g n here ts (does around n x) s) whole)

pub returns-in-Expr : goal.returns-in-Expr
returns-in-Expr c = λ types g n here ts s.
    rw c.in-Expr.is (drop_ types g n here (λ d. continues types g n here ts d) s (small_expr (expr_of types c.in-Expr.value)))

pub returns-in-If : goal.returns-in-If
returns-in-If c = λ types g n here ts s.
    let w = c.in-If in
    let first : Bor _ = record { ref_ptr = c.args.statement.ref_ptr; now = w.first } in
    let second : Bor _ = record { ref_ptr = c.args.statement.ref_ptr; now = w.second } in
    rw w.is (branch_ types g n here (λ d. continues types g n here ts d) s (small_expr (expr_of types w.test)) first second)

pub returns-in-Some : goal.returns-in-Some
returns-in-Some c = λ types g n here ts s.
    rw (c.in-Return.is, c.in-Some.is) (return_ types g n here (λ d. continues types g n here ts d) s (small_expr (expr_of types c.in-Some.value)))

pub returns-in-None : goal.returns-in-None
returns-in-None c = λ types g n here ts s. rw (c.in-Return.is, c.in-None.is) refl

pub returns-in-For : goal.returns-in-For
returns-in-For c = λ types g n here ts s.
    let w = c.in-For in
    rw (c.deref.ensures, w.is)
    (first_ types g n here (λ d. continues types g n here ts d) s (small_stmt (stmt_of types w.first.value)) (record {
      test = record { ref_ptr = c.args.statement.ref_ptr; now = w.test };
      step = Some (record { ref_ptr = c.args.statement.ref_ptr; now = w.step });
      body = record { ref_ptr = c.args.statement.ref_ptr; now = w.body };
    }))
