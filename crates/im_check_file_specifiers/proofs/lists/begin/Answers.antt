use Rattle.std.proofs.Common.{OnOk, Option, Vec, ℕ, Global, sym, subst}
use Rattle.im_rules.specs.FileScope.{with_list_begun}
use Rattle.im_check_place.specs.Contexts.{context_of}
use Rattle.im_check_file_place.specs.Files.{file_place_of}
use Rattle.im_check_file_specifiers.proofs.Places.{begun_by}
use Rattle.im_check_file_specifiers.proofs.lists.begin.Goals as goal

pub returns-in_ok-declare_tag-in-Some : goal.returns-in_ok-declare_tag-in-Some
returns-in_ok-declare_tag-in-Some c =
    let scopes = rw c.deref.ensures.value at (c.in_ok-declare_tag-in-Some.ensures (context_of c.args.file.now.place)) in
    rw c.in-Some.is (begun_by c.args.file.now c.declare_tag.new.scope c.push.new.self c.args.at _ c.push.result scopes (rw c.deref-in-Some.ensures.value at c.push.ensures.pushed))
