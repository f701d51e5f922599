use Rattle.std.proofs.Common.{◌≡◌, ◌+◌, ◌∙◌, sym, rules, ap}
use Rattle.im_typed.specs.declared.statement.Stmt.{Stmt}
use Rattle.im_typed.specs.ProgramOf.{expr_of, stmt_of, program_of}
use Rattle.im_lower_relation.specs.Statements.{kind_in}
use Rattle.im_lower_plain.specs.MakeStatement.{make_statement}
use Rattle.im_lower.proofs.Rows.{block_made, switch_done}
use Rattle.im_lower.proofs.statements.+statements.Goals as goal

pub lower_statement-returns-in-Block : goal.lower_statement-returns-in-Block
lower_statement-returns-in-Block t c =
    let g = program_of c.args.prog.now in
    let types = c.args.prog.now.types in
    let same = ap (λ (s : Stmt). make_statement g c.args.base.first c.args.base.low c.args.objects.now (stmt_of types s) c.args.breaks c.args.continues c.args.code.now) c.in-Block.is in
    let made = block_made g c.args.base.first types c.args.base.low c.args.objects.now c.args.breaks c.args.continues c.in-Block.statements c.args.code.now in
    search (rules, same, made)

pub lower_statement-returns-in_ok-put_cases-in-Switch : goal.lower_statement-returns-in_ok-put_cases-in-Switch
lower_statement-returns-in_ok-put_cases-in-Switch t c =
    let g = program_of c.args.prog.now in
    let types = c.args.prog.now.types in
    let s = c.in-Switch in
    let same = ap (λ (x : Stmt). make_statement g c.args.base.first c.args.base.low c.args.objects.now (stmt_of types x) c.args.breaks c.args.continues c.args.code.now) s.is in
    let kind = c.kind_in-kind.ensures types ∙ ap kind_in c.shape_of.ensures in
    let join = c.in_ok-join-in-Switch in
    let labels = c.in_ok-labels-in-Switch in
    let done = switch_done g c.args.base.first types c.args.base.low c.args.objects.now s.value s.cases s.otherwise s.block c.args.breaks c.args.continues c.args.code.now join.join c.close-in-Switch.new.self c.lower_marked.new.code c.put_cases.new.code c.deref-in-Switch.result.now c.deref-in-Switch-2.result.now labels.labels.items c.deref-in-Switch-3.result.now c.kind_in-kind.result join.ensures.number join.ensures.closed c.deref-in-Switch.ensures.value labels.ensures.marked labels.ensures.marks c.deref-in-Switch-3.ensures.value c.deref-in-Switch-2.ensures.value kind c.in_ok-put_cases-in-Switch.ensures in
    let whole = done ∙ sym same in
    search (rules, whole)
