-- At a place at file scope these are what the rules ask there.
use Rattle.std.proofs.Common.{ℕ, List, [], ◌∷◌}
use Rattle.im_check_items.specs.im_rules.FileScope.{FilePlace, static_size}
use Rattle.im_check_items.specs.im_rules.Initialisers.{Item}
use Rattle.im_check_items.specs.im_rules.TypedUnit.{AreConstants}
use Rattle.im_check_items.specs.im_rules.UnitBreaks as u
use Rattle.im_check_static_values.specs.Firsts.{AreConstant, RefusesItem, this_item, other_item}

pub are_constants : (f : FilePlace) (ps : List Item) → AreConstant (static_size f) f.context.known ps → AreConstants f ps
are_constants f [] h = tt
are_constants f (p ∷ ps) h = (h.0, are_constants f ps h.1)

pub refused_item : (f : FilePlace) (r k : ℕ) (ps : List Item) → RefusesItem (static_size f) f.context.known r k ps → u.RefusedItem f r k ps
refused_item f r k _ (this_item h) = u.this_item h
refused_item f r k _ (other_item h) = u.other_item (refused_item f r k _ h)
