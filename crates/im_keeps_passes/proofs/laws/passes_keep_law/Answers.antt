use Rattle.im_keeps_passes.proofs.Compose.{composed}
use Rattle.im_keeps_passes.proofs.laws.passes_keep_law.Goals as goal

pub returns : goal.returns
returns c = composed (record {
  each = c.each_line_law.ensures;
  added = c.added_cuts_law.ensures;
  section = c.section_law.ensures;
  code = c.cuts_keep_code_law.ensures;
  places = c.cuts_keep_places_law.ensures;
  force = c.force_keeps_law.ensures;
  written = c.written_law.ensures;
  until = c.until_law.ensures;
  along = c.along_law.ensures;
  gap = c.gap_law.ensures;
  end_kept = c.end_kept_law.ensures;
  run_kept = c.run_kept_law.ensures;
})
