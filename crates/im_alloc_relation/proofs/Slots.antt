-- All in slots is valid.
use Rattle.std.specs.Prelude.{Some, None}
use Rattle.std.proofs.Common.{◌≡◌, ◌≢◌, ℕ, ◌≤◌, Bool, [], ◌∷◌, sym, ◌∙◌}
use Rattle.im_block.specs.declared.code.Line.TheVariants.{Put, PutNull, Copy, Convert, Unary, Not, Compute, Compare, Move, Distance, Address, Read, Write, Reload, Spill, Cut, Call, Serve}
use Rattle.im_alloc_relation.specs.Homes.{Home, InRegister, InSlot}
use Rattle.im_alloc_relation.specs.Placing.{KeepsHomes, Survives, Clear, SlotsLaw}

apart : (h : ℕ → Home) (v to : ℕ) → ((q : ℕ) → h q ≡ InSlot q) → v ≢ to → h v ≢ h to
apart h v to each ne e =
    let f : InSlot v ≡ InSlot to = sym (each v) ∙ e ∙ each to in
    ne (cc)

keeps : (h : ℕ → Home) (to : ℕ) (after : ℕ → Bool) → ((q : ℕ) → h q ≡ InSlot q) → KeepsHomes h to after
keeps h to after each v t ne = apart h v to each ne

survives : (h : ℕ → Home) (to : ℕ) (after : ℕ → Bool) → ((q : ℕ) → h q ≡ InSlot q) → Survives h to after
survives h to after each v t ne = (v, each v, apart h v to each ne)

clear : (h : ℕ → Home) (first count : ℕ) → ((q : ℕ) → h q ≡ InSlot q) → count ≤ 8 → Clear h first count
clear h first count each few = record { few = few; apart = λ v r low high e. absurd (let f : InRegister r ≡ InSlot v = sym e ∙ each v in cc) }

pub slots : SlotsLaw
slots h each live [] exit few = tt
slots h each live (Put to z ∷ rest) exit few = (keeps h to _ each, slots h each live rest exit few.1)
slots h each live (PutNull to ∷ rest) exit few = (keeps h to _ each, slots h each live rest exit few.1)
slots h each live (Copy to from ∷ rest) exit few = (keeps h to _ each, slots h each live rest exit few.1)
slots h each live (Convert to kind from ∷ rest) exit few = (keeps h to _ each, slots h each live rest exit few.1)
slots h each live (Unary to op kind from ∷ rest) exit few = (keeps h to _ each, slots h each live rest exit few.1)
slots h each live (Not to from ∷ rest) exit few = (keeps h to _ each, slots h each live rest exit few.1)
slots h each live (Compute to op kind left right ∷ rest) exit few = (keeps h to _ each, slots h each live rest exit few.1)
slots h each live (Compare to op kind left right ∷ rest) exit few = (keeps h to _ each, slots h each live rest exit few.1)
slots h each live (Move to size back pointer by ∷ rest) exit few = (keeps h to _ each, slots h each live rest exit few.1)
slots h each live (Distance to size left right ∷ rest) exit few = (keeps h to _ each, slots h each live rest exit few.1)
slots h each live (Address to place ∷ rest) exit few = (keeps h to _ each, slots h each live rest exit few.1)
slots h each live (Read to place kind access ∷ rest) exit few = (keeps h to _ each, slots h each live rest exit few.1)
slots h each live (Write place kind from access ∷ rest) exit few = (tt, slots h each live rest exit few.1)
slots h each live (Reload to slot access ∷ rest) exit few = absurd few.0
slots h each live (Spill slot from access ∷ rest) exit few = absurd few.0
slots h each live (Cut cause ∷ rest) exit few = (tt, slots h each live rest exit few.1)
slots h each live (Call to i first count ∷ rest) exit few = ((survives h to _ each, clear h first count each few.0), slots h each live rest exit few.1)
slots h each live (Serve to service None ∷ rest) exit few = (survives h to _ each, slots h each live rest exit few.1)
slots h each live (Serve to service (Some from) ∷ rest) exit few = (survives h to _ each, slots h each live rest exit few.1)
