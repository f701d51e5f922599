use Rattle.std.proofs.Common.{[], ◌++◌, sym, subst, append_assoc}
use Rattle.std.proofs.lemmas.List.{append-nil}
use Rattle.im_ctree.specs.Units.{Spells}
use Rattle.im_ctree.proofs.laws.fronts_are_prefixes_law.Goals as goal

pub returns-clause-whole : goal.returns-clause-whole
returns-clause-whole c = λ unit words d. ([], unit, subst (Spells unit) (sym (append-nil words)) d)

pub returns-clause-part : goal.returns-clause-part
returns-clause-part c = λ front rest f. (rest ++ f.0, f.1, subst (Spells f.1) (append_assoc front rest f.0) f.2)
