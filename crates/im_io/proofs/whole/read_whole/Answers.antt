use Rattle.im_io.specs.Shelf.{Opened}
use Rattle.im_io.specs.Whole.{ReadsOpen, ReadsWhole}
use Rattle.im_io.proofs.Files.{told_then}
use Rattle.im_io.proofs.Reading.{counts_then, whole_read}
use Rattle.im_io.proofs.whole.read_whole.Goals as goal

pub returns-in-Err-Absent-clause-counts : goal.returns-in-Err-Absent-clause-counts
returns-in-Err-Absent-clause-counts g c = rw c.in-Err-Absent.field-0-is at c.in-Err-Absent.ensures.counts

pub returns-in-Err-Absent-clause-told : goal.returns-in-Err-Absent-clause-told
returns-in-Err-Absent-clause-told g c = rw c.in-Err-Absent.field-0-is at c.in-Err-Absent.ensures.told

pub returns-in-Err-Failed-clause-counts : goal.returns-in-Err-Failed-clause-counts
returns-in-Err-Failed-clause-counts g c = rw c.in-Err-Failed.field-0-is at c.in-Err-Failed.ensures.counts

pub returns-in-Err-Failed-clause-told : goal.returns-in-Err-Failed-clause-told
returns-in-Err-Failed-clause-told g c = rw c.in-Err-Failed.field-0-is at c.in-Err-Failed.ensures.told

pub returns-clause-counts : goal.returns-clause-counts
returns-clause-counts g c = counts_then c.read_open.result _ _ _ c.in-Ok.ensures.counts c.read_open.ensures.counts

pub returns-clause-told : goal.returns-clause-told
returns-clause-told g c = told_then (Opened c.args.name.now) (ReadsOpen (λ bytes. bytes.items) c.args.limit c.read_open.result) (ReadsWhole (λ bytes. bytes.items) c.args.name.now c.args.limit c.read_open.result) _ _ _
    (whole_read (λ bytes. bytes.items) c.args.name.now c.args.limit c.read_open.result) c.in-Ok.ensures.told c.read_open.ensures.told
