use Rattle.std.proofs.Common.{◌≡◌, drop}
use Rattle.im_trial.specs.Escapes.{unescaped, left_in}
use Rattle.im_trial.proofs.Reading.{put_all}
use Rattle.im_trial.proofs.escapes.unescaped.Given as goal

abbrev pub invariant-loop-byte : goal.invariant-loop-byte
invariant-loop-byte l = unescaped l.text ≡ put_all l.bytes.items (left_in l.within (drop l.byte-index l.text))
