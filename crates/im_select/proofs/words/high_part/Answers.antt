use Rattle.std.proofs.Common.{◌≡◌, ℕ, ◌+◌, ◌/◌, ◌%◌, to_z, w32, ap, sym, ◌∙◌, arith}
use Rattle.std.proofs.lemmas.Int.{of_z-to_z}
use Rattle.im_rv.specs.Steps as steps
use Rattle.im_select.specs.Emitted.{high_of}
use Rattle.im_select.proofs.Splitting.{high_is}
use Rattle.im_select.proofs.words.high_part.Goals as goal

pub returns-clause-value : goal.returns-clause-value
returns-clause-value c = of_z-to_z w32 ((c.args.word + 2048) % 4294967296 / 4096) (omega arith) ∙ (let h = high_is c.args.word in omega arith)

pub returns-clause-zero : goal.returns-clause-zero
returns-clause-zero c =
    let x : ℕ = (c.args.word + 2048) % 4294967296 / 4096 in
    let h : high_of c.args.word ≡ x = (let i = high_is c.args.word in omega arith) in
    (λ e. h ∙ sym (of_z-to_z w32 x (omega arith)) ∙ ap steps.word e, λ e. ap (to_z w32) (sym h ∙ e))
