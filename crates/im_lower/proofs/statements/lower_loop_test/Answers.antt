use Rattle.std.proofs.Common.{ℕ, List, length, ap, ◌∙◌}
use Rattle.im_typed.specs.ProgramOf.{expr_of, program_of}
use Rattle.im_block.specs.declared.code.Exit.TheVariants.{Turn}
use Rattle.im_lower_relation.specs.Codes.{Point}
use Rattle.im_lower_plain.specs.Made.{Made, close, start}
use Rattle.im_lower_plain.specs.Make.{make_test}
use Rattle.im_lower_plain.proofs.Growth.{start_blocks}
use Rattle.im_lower.proofs.statements.lower_loop_test.Goals as goal

pub returns-clause-edge : goal.returns-clause-edge
returns-clause-edge c =
    c.in_ok-edge.ensures.number
    ∙ ap (λ (m : Made). length m.blocks) c.in_ok-start.ensures
    ∙ ap (λ (bs : List Point). length bs) (start_blocks (Turn 0) c.args.code.now)

pub returns-clause-made : goal.returns-clause-made
returns-clause-made c =
    let g = program_of c.args.prog.now in
    let e = expr_of c.args.prog.now.types c.args.test.now in
    let low = c.args.base.low in
    let edge = c.in_ok-edge.ensures.number ∙ ap (λ (m : Made). length m.blocks) c.in_ok-start.ensures ∙ ap (λ (bs : List Point). length bs) (start_blocks (Turn 0) c.args.code.now) in
    let closed = c.in_ok-edge.ensures.closed ∙ ap (λ (m : Made). close m) c.in_ok-start.ensures in
    let tested = λ (m : Made) (n : ℕ). make_test g c.args.base.first e low n c.args.join m in
    c.in_ok-lower_test.ensures
    ∙ ap (λ (m : Made). tested m c.in_ok-edge.edge) closed
    ∙ ap (λ (n : ℕ). tested (close (start (Turn 0) c.args.code.now)) n) edge
