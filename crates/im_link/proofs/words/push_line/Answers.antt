use Rattle.std.proofs.Common.{◌≡◌, length, ◌∙◌, arith}
use Rattle.std.specs.Prelude.{nat_eq}
use Rattle.std.specs.HashMap as hash
use Rattle.std.proofs.lemmas.List.{length_push}
use Rattle.im_link.proofs.Keeping.{kept_at}
use Rattle.im_link.proofs.words.push_line.Goals as goal

pub push_aim-requires : goal.push_aim-requires
push_aim-requires c =
    let at : c.len-at.result ≡ length c.args.words.now.items = c.len-at.ensures ∙ c.args.words.now.ok.0 in
    let room = c.requires in
    omega arith

pub returns-clause-count : goal.returns-clause-count
returns-clause-count c = rw c.in_ok-push.ensures.items (let more = length_push c.args.words.now.items c.encode.result in omega arith)

pub returns-clause-kept : goal.returns-clause-kept
returns-clause-kept c lines kept =
    let at : c.len-at.result ≡ length c.args.words.now.items = c.len-at.ensures ∙ c.args.words.now.ok.0 in
    rw c.in_ok-push.ensures.items
    (kept_at lines c.args.line.now c.args.words.now.items c.encode.result c.args.aims.now.items c.push_aim.new.aims.items (hash.get nat_eq c.args.places.now) (hash.get nat_eq c.note.new.places) c.len-at.result at
    c.encode.ensures.decodes c.in_ok-push_aim.ensures c.in_ok-note.ensures.here c.in_ok-note.ensures.others kept)
