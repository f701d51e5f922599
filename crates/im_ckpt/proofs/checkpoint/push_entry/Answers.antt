use Rattle.std.proofs.Common.{◌≡◌, ◌-◌, ◌*◌, rules}
use Rattle.im_rv.specs.declared.instr.Op.TheVariants.{Xori, Slli, Addi, Jal}
use Rattle.im_rv.specs.Lines.{code_lines, line_of, instruction}
use Rattle.im_ckpt.specs.Recovery.{load_line}
use Rattle.im_ckpt.proofs.Pushing.{entry_grown}
use Rattle.im_ckpt.proofs.checkpoint.push_entry.Goals as goal

pub returns : goal.returns
returns c =
    let w : line_of c.lw.result ≡ load_line 4 0 = search rules in
    let x : line_of c.xori.result ≡ instruction Xori 4 4 0 1 = search rules in
    let s : line_of c.slli.result ≡ instruction Slli 4 4 0 7 = search rules in
    let a : line_of c.addi.result ≡ instruction Addi 4 4 0 128 = search rules in
    let j : line_of c.jal.result ≡ instruction Jal 0 0 0 (748 - 24 * c.args.m) = search rules in
    entry_grown (code_lines c.args.lines.now.items) (code_lines c.push_labelled.new.lines.items) (code_lines c.push_all.new.lines.items) c.args.m (line_of c.lw.result) (line_of c.xori.result) (line_of c.slli.result) (line_of c.addi.result) (line_of c.jal.result) w x s a j c.in_ok-push_labelled.ensures c.in_ok-push_all.ensures
