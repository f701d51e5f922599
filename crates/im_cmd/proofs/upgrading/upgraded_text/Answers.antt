use Rattle.std.proofs.Common.{sym, ◌∙◌}
use Rattle.im_cmd_lines.specs.Refusals.{refused_of}
use Rattle.im_cmd.proofs.Upgrades.{image_unheld, memory_unheld}
use Rattle.im_cmd.proofs.upgrading.upgraded_text.Goals as goal

pub returns-in-Err : goal.returns-in-Err
returns-in-Err c = memory_unheld _ c.args.text.now (sym c.starts_with.ensures.value ∙ c.if-starts_with.true) (refused_of c.in-Err.refusal) c.in-Err.ensures

pub returns-in-Err-upgraded_image : goal.returns-in-Err-upgraded_image
returns-in-Err-upgraded_image c = image_unheld _ c.args.text.now (sym c.starts_with.ensures.value ∙ c.if-starts_with.false) (refused_of c.in-Err-upgraded_image.refusal) c.in-Err-upgraded_image.ensures
