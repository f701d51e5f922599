use Rattle.std.proofs.Common.{◌≡◌, drop}
use Rattle.im_trial.specs.Texts.{all_named, text_named}
use Rattle.im_trial.proofs.texts.Texts.find.Given as goal

abbrev pub invariant-loop-text : goal.invariant-loop-text
invariant-loop-text l = text_named l.name l.self ≡ text_named l.name (all_named (drop l.text-index l.text-items))
