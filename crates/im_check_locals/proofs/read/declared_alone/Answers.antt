use Rattle.std.proofs.lemmas.Result.{err_from_is_err_and}
use Rattle.im_check_place.specs.Contexts.{context_of}
use Rattle.im_check_locals.proofs.Behind.{entries_declared}
use Rattle.im_check_locals.proofs.read.declared_alone.Goals as goal

pub returns-in_err-declare_alone : goal.returns-in_err-declare_alone
returns-in_err-declare_alone c =
    let p = err_from_is_err_and c.from_residual.result c.from_residual.ensures.1 in
    rw (p.1, p.2) (rw c.deref.ensures.value at (c.in_err-declare_alone.ensures.asked (context_of c.args.body.now.place)))

pub returns : goal.returns
returns c =
    let b = c.args.body.now in
    let k = context_of b.place in
    let g = c.in_ok-declare_alone.ensures.grown in
    record {
      meets = rw c.deref.ensures.value at (c.in_ok-declare_alone.ensures.asked k);
      entries = g.0;
      behind = entries_declared b _ g.0 g.1;
      scopes = rw c.deref.ensures.value at (c.in_ok-declare_alone.ensures.scopes k);
    }
