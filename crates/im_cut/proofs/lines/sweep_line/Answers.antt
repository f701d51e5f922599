use Rattle.std.proofs.Common.{List, [], ◌∷◌, ◌++◌, None, ◌∙◌, ap, subst, append_assoc}
use Rattle.im_num.specs.declared.values.Cause.TheVariants.{Dep as DepCut}
use Rattle.im_block.specs.declared.code.Line.{Line}
use Rattle.im_block.specs.declared.code.Line.TheVariants.{Cut}
use Rattle.im_block.specs.declared.access.Access.{Access}
use Rattle.im_cut.specs.Lines.{IsDep, IsDueAt}
use Rattle.im_cut.proofs.Passing.{keeps_line, cuts_more}
use Rattle.im_cut.proofs.lines.sweep_line.Goals as goal

pub returns-in_ok-pass-in-Some : goal.returns-in_ok-pass-in-Some
returns-in_ok-pass-in-Some c =
    let d = c.in-Some.dep in
    let line = c.args.line.now in
    let had = c.args.cut.now.items in
    let deps = c.args.deps.now.items in
    record {
      piece = Cut (DepCut d.read d.write) ∷ line ∷ [];
      put = c.in_ok-push-in-Some-3.ensures.items ∙ ap (λ (t : List Line). t ++ line ∷ []) c.in_ok-push-in-Some.ensures.items ∙ append_assoc had (Cut (DepCut d.read d.write) ∷ []) (line ∷ []);
      sweeps = cuts_more c.args.tags.now line c.args.marks.now c.restart.new.marks _ deps _ d c.in_ok-push-in-Some-2.ensures.items (subst (λ (l : List Access). IsDep c.args.tags.now l line d) c.deref.ensures.value c.in-Some.ensures) c.restart.ensures c.in_ok-pass-in-Some.ensures;
    }

pub returns-in_ok-pass-in-None : goal.returns-in_ok-pass-in-None
returns-in_ok-pass-in-None c =
    record {
      piece = c.args.line.now ∷ [];
      put = c.in_ok-push-in-None.ensures.items;
      sweeps = keeps_line c.args.tags.now c.args.line.now c.args.marks.now _ c.args.deps.now.items (subst (λ (l : List Access). IsDueAt c.args.tags.now l c.args.line.now None) c.deref.ensures.value c.in-None.ensures) c.in_ok-pass-in-None.ensures;
    }
