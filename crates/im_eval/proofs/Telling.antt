-- What is told of a run of `main` is the meaning.
use Rattle.std.proofs.Common.{◌≡◌, ◌<◌, ◌∙◌, ap, sym, subst, ℕ, List}
use Rattle.im_typed.specs.Program.{Prog}
use Rattle.im_typed.specs.Programs.{Setting, meaning, outcome_of, run_of_main}
use Rattle.im_typed.specs.Typing.{Each, IsWellTyped}
use Rattle.im_eval_machine.specs.declared.outcome.Outcome.{Outcome}
use Rattle.im_eval_machine.specs.Endings.{EndLive, told}
use Rattle.im_eval.proofs.Living.{statics_live}
use Rattle.im_eval_tasks.proofs.SmallNumbers.{same_prog}
use Rattle.im_eval.specs.Settings.{small_setting}

abbrev pub framed : Prog → List ℕ → ℕ → ℕ → Setting
framed g frames stack capacity = record { prog = g; frames = frames; stack = stack; capacity = capacity }

-- the small view of a well-typed program is the program
same_setting : (g : Prog) (frames : List ℕ) (stack capacity : ℕ) → IsWellTyped g → small_setting g frames stack capacity ≡ framed g frames stack capacity
same_setting g frames stack capacity typed = ap (λ (x : Prog). framed x frames stack capacity) (same_prog g typed)

-- an outcome that tells what the small view does tells the meaning
pub tells : (g : Prog) (frames : List ℕ) (stack capacity : ℕ) (input : List ℕ) (fuel : ℕ) (outcome : Outcome)
    → IsWellTyped g → Each (λ byte. byte < 256) input
    → (EndLive g.statics (run_of_main (small_setting g frames stack capacity) fuel input fuel)
    → outcome_of (small_setting g frames stack capacity) (run_of_main (small_setting g frames stack capacity) fuel input fuel) ≡ told outcome)
    → told outcome ≡ meaning (framed g frames stack capacity) input fuel
unfolding meaning
tells g frames stack capacity input fuel outcome typed bytes concluded =
    let same = same_setting g frames stack capacity typed in
    let live : EndLive g.statics (run_of_main (small_setting g frames stack capacity) fuel input fuel) =
    subst (λ (x : Setting). EndLive g.statics (run_of_main x fuel input fuel)) (sym same) (statics_live (framed g frames stack capacity) typed input fuel bytes) in
    sym (concluded live) ∙ ap (λ (x : Setting). outcome_of x (run_of_main x fuel input fuel)) same
