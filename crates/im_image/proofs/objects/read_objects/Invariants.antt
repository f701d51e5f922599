use Rattle.im_image.proofs.Loops.{ObjectsRead}
use Rattle.im_image.proofs.objects.read_objects.Given as goal

abbrev pub invariant-loop : goal.invariant-loop
invariant-loop l = ObjectsRead l.bytes l.statics l.count l.place l.counter l.least l.next l.objects.items
