use Rattle.std.proofs.Common.{◌≡◌, drop, map}
use Rattle.im_trial.specs.Numbers.{words_in}
use Rattle.im_trial.proofs.Reading.{put_all}
use Rattle.im_trial.proofs.row.Row.words.Given as goal

abbrev pub invariant-loop-part : goal.invariant-loop-part
invariant-loop-part l =
    words_in (map (λ part. part.now) l.part-items) ≡ put_all l.words.items (words_in (map (λ part. part.now) (drop l.part-index l.part-items)))
