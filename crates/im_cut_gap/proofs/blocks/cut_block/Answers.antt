use Rattle.std.proofs.Common.{◌≡◌, ◌∙◌, ℕ, List, Option, None, refl, subst, get_or}
use Rattle.im_block.specs.declared.code.Line.{Line}
use Rattle.im_cut_gap.specs.Sweep.{SweepLines}
use Rattle.im_cut_gap.proofs.Tables.{any_default}
use Rattle.im_cut_gap.proofs.blocks.cut_block.Goals as goal

pub returns-clause-sweeps : goal.returns-clause-sweeps
returns-clause-sweeps c =
    let costs = c.args.costs.now.items in
    let number = c.args.number in
    let block = c.args.block.now in
    let start = c.index-start.result.now in
    let lines = c.in_ok-lines.lines.items in
    let end = c.in_ok-lines.end in
    let is : start ≡ get_or costs number None = c.index-start.ensures ∙ any_default costs number start None c.requires.within in
    record {
      end = end;
      lines = subst (λ (m : Option ℕ). SweepLines c.args.most block.exit m block.lines.items lines end) is
          (subst (λ (ls : List Line). SweepLines c.args.most block.exit start ls lines end) c.deref.ensures.value c.in_ok-lines.ensures);
      exit = refl;
      raised = c.hand_on.ensures.raises;
    }
