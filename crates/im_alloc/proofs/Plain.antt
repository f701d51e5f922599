-- A line that is no call, by its parts.
use Rattle.std.specs.Prelude.{Some, None}
use Rattle.std.proofs.Common.{◌≡◌, ℕ, List, refl}
use Rattle.im_block.specs.declared.code.Place.{Place}
use Rattle.im_block.specs.declared.code.Place.TheVariants.{Static, Local, Through}
use Rattle.im_block.specs.declared.code.Line.{Line}
use Rattle.im_block.specs.declared.code.Line.TheVariants.{Put, PutNull, Copy, Convert, Unary, Not, Compute, Compare, Move, Distance, Address, Read, Write, Reload, Spill, Cut, Call, Serve}
use Rattle.im_alloc_relation.specs.Homes.{Home, load_place, put_line}
use Rattle.im_alloc.specs.Parts.{pointer_in, load_some, plain_line}

pub place_loads : (h : ℕ → Home) (place : Place) (n : ℕ) (rest : List Line) → load_some h (pointer_in place) 7 n rest ≡ load_place h place n rest
place_loads h (Static object offset) n rest = refl
place_loads h (Local object offset) n rest = refl
place_loads h (Through pointer offset) n rest = refl

abbrev pub IsOwn : Line → Type 0
IsOwn (Call to i first count) = ⊥
IsOwn (Serve to service None) = ⊥
IsOwn (Serve to service (Some from)) = ⊥
IsOwn (Reload to slot access) = ⊥
IsOwn (Spill slot from access) = ⊥
IsOwn line = Unit {0}

pub plain_is : (h : ℕ → Home) (n : ℕ) (line : Line) (rest : List Line) → IsOwn line → plain_line h n line rest ≡ put_line h n line rest
plain_is h n (Put to z) rest own = refl
plain_is h n (PutNull to) rest own = refl
plain_is h n (Copy to from) rest own = refl
plain_is h n (Convert to kind from) rest own = refl
plain_is h n (Unary to op kind from) rest own = refl
plain_is h n (Not to from) rest own = refl
plain_is h n (Compute to op kind left right) rest own = refl
plain_is h n (Compare to op kind left right) rest own = refl
plain_is h n (Move to size back pointer by) rest own = refl
plain_is h n (Distance to size left right) rest own = refl
plain_is h n (Address to place) rest own = place_loads h place n _
plain_is h n (Read to place kind access) rest own = place_loads h place n _
plain_is h n (Write place kind from access) rest own = place_loads h place n _
plain_is h n (Reload to slot access) rest own = absurd own
plain_is h n (Spill slot from access) rest own = absurd own
plain_is h n (Cut cause) rest own = refl
plain_is h n (Call to i first count) rest own = absurd own
plain_is h n (Serve to service None) rest own = absurd own
plain_is h n (Serve to service (Some from)) rest own = absurd own
