use Rattle.im_emu.proofs.Resumed.{resumes}
use Rattle.im_emu.proofs.machine.Machine+PagedMem.resume.Goals as goal

pub returns-clause-reads_back : goal.returns-clause-reads_back
returns-clause-reads_back c =
    λ version form m is. resumes c.args.image.now c.args.text.now c.resumed.result version form m c.resumed.ensures.made c.resumed.ensures.image c.resumed.ensures.wrong is
