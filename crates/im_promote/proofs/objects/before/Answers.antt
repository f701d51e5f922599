use Rattle.std.proofs.Common.{◌+◌, ap, sym, ◌∙◌}
use Rattle.std.specs.Prelude.{◌&&◌, ◌||◌, not}
use Rattle.im_promote.specs.Written.{reads_object, writes_object}
use Rattle.im_promote.specs.Words.{has}
use Rattle.im_promote.proofs.Bits.{has_or, has_kept}
use Rattle.im_promote.proofs.objects.before.Goals as goal

pub returns-in-Read : goal.returns-in-Read
returns-in-Read c j lt =
    has_or c.named.result c.args.behind j
    ∙ ap (λ z. z || has c.args.behind j) (c.named.ensures j lt)
    ∙ sym (ap (λ z. reads_object z (c.args.base + j) || (not (writes_object z (c.args.base + j)) && has c.args.behind j)) c.in-Read.is)

pub returns-in-Write : goal.returns-in-Write
returns-in-Write c j lt =
    let small = c.named-in-Write.type_inv in
    has_kept c.args.behind c.named-in-Write.result j small lt
    ∙ ap (λ z. not z && has c.args.behind j) (c.named-in-Write.ensures j lt)
    ∙ sym (ap (λ z. reads_object z (c.args.base + j) || (not (writes_object z (c.args.base + j)) && has c.args.behind j)) c.in-Write.is)
