-- The first rule that is broken, of lists one after the other.
use Rattle.std.proofs.Common.{◌≡◌, Bool, true, false, cond, List, [], ◌∷◌, ◌++◌, Option, Some, None, refl, subst}
use Rattle.im_mem_file.specs.declared.fault.MemoryFault.{MemoryFault}
use Rattle.im_mem_file.specs.declared.fault.MemoryFault.TheVariants.{ShortMemory, BadMagic, BadVersion, BadForm, BadPages, BadPage, Trailing, OutOfMemory}
use Rattle.im_mem_file.specs.Faults.{Requirement, first_unmet, IsFaultOf}

kept : (b : Bool) (f : MemoryFault) (x : Option MemoryFault) → cond b x (Some f) ≡ None → (b ≡ true) × (x ≡ None)
kept true f x e = (refl, e)
kept false f x e = absurd cc

stays : (b : Bool) (g f : MemoryFault) (x y : Option MemoryFault) → (x ≡ Some f → y ≡ Some f) → cond b x (Some g) ≡ Some f → cond b y (Some g) ≡ Some f
stays true g f x y h e = h e
stays false g f x y h e = e

-- each rule of a list holds
abbrev pub AllMet : List Requirement → Type 0
AllMet [] = Unit {0}
AllMet (r ∷ rs) = (r.0 ≡ true) × AllMet rs

pub all_met : (rs : List Requirement) → first_unmet rs ≡ None → AllMet rs
all_met [] e = tt
all_met (r ∷ rs) e = let p = kept r.0 r.1 (first_unmet rs) e in (p.0, all_met rs p.1)

pub none_unmet : (rs : List Requirement) → AllMet rs → first_unmet rs ≡ None
none_unmet [] m = refl
none_unmet (r ∷ rs) m = let e : r.0 ≡ true = m.0 in rw e (none_unmet rs m.1)

pub after_none : (xs ys : List Requirement) → first_unmet xs ≡ None → first_unmet (xs ++ ys) ≡ first_unmet ys
after_none [] ys e = refl
after_none (r ∷ xs) ys e = let p = kept r.0 r.1 (first_unmet xs) e in rw p.0 (after_none xs ys p.1)

pub both_none : (xs ys : List Requirement) → first_unmet (xs ++ ys) ≡ None → (first_unmet xs ≡ None) × (first_unmet ys ≡ None)
both_none [] ys e = (refl, e)
both_none (r ∷ xs) ys e =
    let p = kept r.0 r.1 (first_unmet (xs ++ ys)) e in
    let rest = both_none xs ys p.1 in
    (rw p.0 rest.0, rest.1)

after_some : (xs ys : List Requirement) (f : MemoryFault) → first_unmet xs ≡ Some f → first_unmet (xs ++ ys) ≡ Some f
after_some [] ys f e = absurd cc
after_some (r ∷ xs) ys f e = stays r.0 r.1 f (first_unmet xs) (first_unmet (xs ++ ys)) (after_some xs ys f) e

pub stops_in : (xs ys : List Requirement) (f : MemoryFault) → IsFaultOf f (first_unmet xs) → IsFaultOf f (first_unmet (xs ++ ys))
stops_in xs ys (ShortMemory at) e = after_some xs ys (ShortMemory at) e
stops_in xs ys BadMagic e = after_some xs ys BadMagic e
stops_in xs ys (BadVersion version) e = after_some xs ys (BadVersion version) e
stops_in xs ys (BadForm form) e = after_some xs ys (BadForm form) e
stops_in xs ys (BadPages count) e = after_some xs ys (BadPages count) e
stops_in xs ys (BadPage number) e = after_some xs ys (BadPage number) e
stops_in xs ys (Trailing at) e = after_some xs ys (Trailing at) e
stops_in xs ys OutOfMemory e = tt

pub same_fault : (f : MemoryFault) (x y : Option MemoryFault) → x ≡ y → IsFaultOf f x → IsFaultOf f y
same_fault f x y e h = subst (IsFaultOf f) e h
