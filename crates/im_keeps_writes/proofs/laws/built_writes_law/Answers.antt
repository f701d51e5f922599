use Rattle.im_keeps_writes.proofs.Built.{writes_law}
use Rattle.im_keeps_writes.proofs.laws.built_writes_law.Goals as goal

pub returns : goal.returns
returns c = writes_law (record {
  ready = c.ready_law.ensures;
  linkable = c.linkable_law.ensures;
  in_image = c.in_image_law.ensures;
  named = c.named_law.ensures;
  lowers = c.lowers_law.ensures;
  middle = c.middle_law.ensures;
  force = c.force_keeps_law.ensures;
  added = c.added_cuts_law.ensures;
  code = c.cuts_keep_code_law.ensures;
  keeps = c.select_keeps_law.ensures;
  written = c.written_law.ensures;
})
