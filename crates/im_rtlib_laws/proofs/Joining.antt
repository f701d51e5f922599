-- Pieces in order join.
use Rattle.im_rv_reach.proofs.Orderly.{joined}
use Rattle.im_rtlib_laws.specs.SectionsLaws.{JoinsLaw}

pub joins_law : JoinsLaw
joins_law ts us a b = joined ts us a b
