use Rattle.std.proofs.Common.{◌∙◌, sym}
use Rattle.im_store.specs.Checks.{Fine, Bad}
use Rattle.im_store.specs.Objects.{Pointer, lives}
use Rattle.im_store.specs.declared.undefined.Undefined.TheVariants.{DeadPointerRead}
use Rattle.im_eval_store.specs.Shown.{object_of}
use Rattle.im_eval_store.proofs.Finding.{if-true, if-false}
use Rattle.im_block_run.specs.Shown.{plain}
use Rattle.im_block_run.proofs.values.pointer_of.Goals as goal

pub returns-then-lives : goal.returns-then-lives
returns-then-lives c = λ last store h.
    let o = object_of c.in-Pointer.place.object in
    rw c.in-Pointer.is (if-true (lives store o) (Fine (Pointer o c.in-Pointer.place.offset)) (Bad DeadPointerRead) (sym (c.lives.ensures last (plain store) h) ∙ c.if-lives.true))

pub returns-else-lives : goal.returns-else-lives
returns-else-lives c = λ last store h.
    let o = object_of c.in-Pointer.place.object in
    rw c.in-Pointer.is (if-false (lives store o) (Fine (Pointer o c.in-Pointer.place.offset)) (Bad DeadPointerRead) (sym (c.lives.ensures last (plain store) h) ∙ c.if-lives.false))
