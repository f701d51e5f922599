use Rattle.std.proofs.Common.{ℕ, List, ◌∙◌, ap, subst, sym}
use Rattle.std.specs.List.{flat_map}
use Rattle.std.proofs.lemmas.List.{take_all}
use Rattle.std.proofs.lemmas.List.Folds.{flat_map-map}
use Rattle.im_io.specs.Whole.{SentAll, SentFirst}
use Rattle.im_num.specs.Variables.{variable_of}
use Rattle.im_cmd_lines.specs.Variables.{variable_line}
use Rattle.im_cmd_lines.proofs.Joined.{item_first}
use Rattle.im_cmd_lines.proofs.variables.send_variable_lines.Goals as goal

pub returns-in-Err : goal.returns-in-Err
returns-in-Err g c =
    subst (λ (text : List ℕ). SentFirst text (g.S.Sink.state c.args.sink.now) (g.S.Sink.state c.send_variable_line.new.sink))
    (sym (flat_map-map (variable_line c.args.objects.now) variable_of c.args.variables.now))
    (item_first (λ variable. variable_line c.args.objects.now (variable_of variable)) c.args.variables.now c.loop-variable.variable-index c.variable-item.result _ _ _ c.loop-variable-test.true c.variable-item.is c.loop-variable.invariant c.in-Err.ensures)

pub returns : goal.returns
returns g c =
    subst (λ (text : List ℕ). SentAll text (g.S.Sink.state c.args.sink.now) (g.S.Sink.state c.loop-variable.sink))
    (ap (flat_map (λ variable. variable_line c.args.objects.now (variable_of variable))) (take_all c.loop-variable.variable-index c.args.variables.now c.loop-variable-test.false) ∙ sym (flat_map-map (variable_line c.args.objects.now) variable_of c.args.variables.now))
    c.loop-variable.invariant
