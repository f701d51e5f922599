-- The mode of a shelf of the host's, by the file that it has open.
use Rattle.im_io.specs.declared.host_shelf.Open.{Open}
use Rattle.im_io.specs.declared.host_shelf.Open.TheVariants as opened
use Rattle.im_io.specs.Shelf.{Mode, Closed, Reading, Writing}

abbrev pub mode_of : {F : Type 0} → Open F → Mode
mode_of opened.Nothing = Closed
mode_of (opened.Reading file) = Reading
mode_of (opened.Writing file) = Writing
