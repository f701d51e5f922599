-- The next task of a stack.
use Rattle.std.proofs.Common.{◌≡◌, ◌∙◌, ap, List, reverse, [], ◌∷◌, ◌++◌}
use Rattle.std.proofs.lemmas.List.{reverse-append}
use Rattle.im_eval_tasks.specs.Stack.{pending}
use Rattle.im_eval_tasks.specs.declared.tasks.Task.{Task}

pub taken : (all left : List Task) (t : Task) → all ≡ left ++ t ∷ [] → pending all ≡ t ∷ pending left
taken all left t e = ap reverse e ∙ reverse-append left (t ∷ [])
