use Rattle.std.proofs.Common.{◌≡◌, List, ℕ, Option, Some, None, MatchResult, sym, subst, arith}
use Rattle.std.proofs.lemmas.Str.Pattern.{strip_prefix_char}
use Rattle.im_trial.specs.Finding.{Refuses}
use Rattle.im_trial.proofs.Naming.{written_plain}
use Rattle.im_trial.proofs.texts.Texts.written.Goals as goal

pub returns-in-None : goal.returns-in-None
returns-in-None c =
    subst (λ (said : Option (List ℕ)). MatchResult c.unescaped.result (λ bytes. said ≡ Some bytes.items) (Refuses said))
    (sym (written_plain c.args.self.now c.args.word.now (strip_prefix_char 64 c.args.word.now None c.in-None.ensures.cases (omega arith))))
    c.unescaped.ensures
