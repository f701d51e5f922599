use Rattle.std.proofs.Common.{◌≡◌, sym, ◌∙◌}
use Rattle.im_block.specs.Tagged.{reach_of}
use Rattle.im_dep.specs.Sites.{site_of_access}
use Rattle.im_dep.specs.Spans.{covers_by}
use Rattle.im_dep.proofs.Covering.{covers_yes, covers_so}
use Rattle.im_dep.proofs.spans.covers.Goals as goal

pub returns-clause-exact : goal.returns-clause-exact
returns-clause-exact c =
    let w = site_of_access c.args.write.now in
    let r = site_of_access c.args.read.now in
    let tags = c.args.tags.now in
    let value : c.covers_span.result ≡ covers_by tags w r = cc in
    ((λ h. covers_yes (reach_of tags w) w.size (reach_of tags r) r.size (sym value ∙ h)), (λ h. value ∙ covers_so (reach_of tags w) w.size (reach_of tags r) r.size h))
