use Rattle.im_live.proofs.entry.+greatest_in.Given as goal

abbrev pub decreases-greatest_in : goal.decreases-greatest_in
decreases-greatest_in l = l.n
