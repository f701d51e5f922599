use Rattle.std.proofs.lemmas.Result.{err_from_is_err_and}
use Rattle.im_check_place.specs.Contexts.{context_of}
use Rattle.im_check_locals.proofs.Behind.{entries_declared}
use Rattle.im_check_locals.proofs.read.specified.Goals as goal

pub returns-in_err-q : goal.returns-in_err-q
returns-in_err-q c =
    let p = err_from_is_err_and c.from_residual.result c.from_residual.ensures.1 in
    rw (p.1, p.2) (rw c.deref.ensures.value at (c.in_err-q.ensures (context_of c.args.body.now.place)))

pub returns : goal.returns
returns c =
    let b = c.args.body.now in
    let k = context_of b.place in
    let s = rw c.deref.ensures.value at (c.in_ok-q.ensures k) in
    let g = c.in_ok-mention.ensures.grown in (
      record {
        meets = s.0;
        entries = g.0;
        behind = entries_declared b _ g.0 g.1;
        scopes = rw c.deref-2.ensures.value at (c.in_ok-mention.ensures.scopes k);
      },
      s.1,
    )
