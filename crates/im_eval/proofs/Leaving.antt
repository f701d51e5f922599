-- An activation ended, and its caller's goes on.
use Rattle.std.proofs.Common.{◌≡◌, subst, sym, ℕ, List, Ok}
use Rattle.im_typed.specs.Programs.{leaving}
use Rattle.im_typed.specs.Runs.{State, goes_on, change}
use Rattle.im_eval_machine.specs.declared.code.Code.{Code}
use Rattle.im_eval_machine.specs.declared.here.Here.{Here}
use Rattle.im_eval_machine.specs.declared.machine.Machine.{Machine}
use Rattle.im_eval_machine.specs.Settings.{setting_of}
use Rattle.im_eval_machine.specs.Shown.{Ends, nothing}
use Rattle.im_eval_tasks.specs.Stack.{Completion, leads}
use Rattle.im_eval_tasks.specs.declared.steps.Next.{Next}
use Rattle.im_eval_tasks.specs.declared.tasks.Task.{Task}
use Rattle.im_eval_steps.specs.Going.{Goes, follows, types_of}
use Rattle.im_eval_steps.proofs.Going.{went}

pub left : (code : Code) (n : ℕ) (now caller : Here) (ts : List Task) (activation depth : ℕ) (s : State) (m : Machine) (next : Next) (done : Completion)
    → now ≡ caller → Ends (nothing {R = Unit {0}}) (Ok tt) m (change (leaving activation depth) s)
    → ((t : State) → leads (types_of code) (setting_of code) n caller ts next t ≡ follows code n caller ts done t)
    → Goes code n now ts (Ok next) m (goes_on (change (leaving activation depth) s) (λ _. follows code n caller ts done))
left code n now caller ts activation depth s m next done same e f =
    subst (λ (h : Here). Goes code n h ts (Ok next) m (goes_on (change (leaving activation depth) s) (λ _. follows code n caller ts done))) (sym same)
    (went code n caller ts (nothing {R = Unit {0}}) tt next m (change (leaving activation depth) s) (λ _. follows code n caller ts done) e f)
