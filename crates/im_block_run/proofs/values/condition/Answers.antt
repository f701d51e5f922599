use Rattle.std.proofs.Common.{◌∙◌, sym, true}
use Rattle.std.specs.Prelude.{Bool}
use Rattle.im_store.specs.Checks.{Checked, Fine, Bad}
use Rattle.im_store.specs.Objects.{lives}
use Rattle.im_store.specs.declared.undefined.Undefined.TheVariants.{DeadPointerRead}
use Rattle.im_eval_store.specs.Shown.{object_of}
use Rattle.im_eval_store.proofs.Finding.{if-true, if-false}
use Rattle.im_block_run.specs.Shown.{plain}
use Rattle.im_block_run.proofs.values.condition.Goals as goal

pub returns-then-lives : goal.returns-then-lives
returns-then-lives c = λ last store h.
    let o = object_of c.in-Pointer.place.object in
    let yes : Checked Bool = Fine true in
    rw c.in-Pointer.is (if-true (lives store o) yes (Bad DeadPointerRead) (sym (c.lives.ensures last (plain store) h) ∙ c.if-lives.true))

pub returns-else-lives : goal.returns-else-lives
returns-else-lives c = λ last store h.
    let o = object_of c.in-Pointer.place.object in
    let yes : Checked Bool = Fine true in
    rw c.in-Pointer.is (if-false (lives store o) yes (Bad DeadPointerRead) (sym (c.lives.ensures last (plain store) h) ∙ c.if-lives.false))
