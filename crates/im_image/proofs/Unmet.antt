-- The first requirement that isn't met, of lists one after the other.
use Rattle.std.proofs.Common.{◌≡◌, ℕ, ◌≤◌, Bool, true, false, cond, ltb, List, [], ◌∷◌, ◌++◌, Option, Some, None, refl, subst}
use Rattle.std.proofs.lemmas.Bool.{ltb-false, le-ltb}
use Rattle.im_image.specs.declared.fault.ImageFault.{ImageFault}
use Rattle.im_image.specs.declared.fault.ImageFault.TheVariants.{ShortImage, BadMagic, BadVersion, BadField, Trailing, OutOfMemory}
use Rattle.im_image.specs.Faults.{Requirement, HasBytes, Meets, first_unmet, IsFaultOf}

left_none : (b : Bool) (f : ImageFault) (x : Option ImageFault) → cond b (Some f) x ≡ None → (b ≡ false) × (x ≡ None)
left_none true f x e = absurd cc
left_none false f x e = (refl, e)

right_none : (b : Bool) (f : ImageFault) (x : Option ImageFault) → cond b x (Some f) ≡ None → (b ≡ true) × (x ≡ None)
right_none true f x e = (refl, e)
right_none false f x e = absurd cc

left_some : (b : Bool) (g f : ImageFault) (x y : Option ImageFault) → (x ≡ Some f → y ≡ Some f) → cond b (Some g) x ≡ Some f → cond b (Some g) y ≡ Some f
left_some true g f x y h e = e
left_some false g f x y h e = h e

right_some : (b : Bool) (g f : ImageFault) (x y : Option ImageFault) → (x ≡ Some f → y ≡ Some f) → cond b x (Some g) ≡ Some f → cond b y (Some g) ≡ Some f
right_some true g f x y h e = h e
right_some false g f x y h e = e

-- each requirement of a list is met
abbrev pub AllMet : ℕ → List Requirement → Type 0
AllMet len [] = Unit {0}
AllMet len (HasBytes n ∷ others) = (n ≤ len) × AllMet len others
AllMet len (Meets rule fault ∷ others) = (rule ≡ true) × AllMet len others

pub all_met : (len : ℕ) (rs : List Requirement) → first_unmet len rs ≡ None → AllMet len rs
all_met len [] e = tt
all_met len (HasBytes n ∷ rs) e = let p = left_none (ltb len n) (ShortImage len) (first_unmet len rs) e in (ltb-false _ _ p.0, all_met len rs p.1)
all_met len (Meets rule fault ∷ rs) e = let p = right_none rule fault (first_unmet len rs) e in (p.0, all_met len rs p.1)

pub none_unmet : (len : ℕ) (rs : List Requirement) → AllMet len rs → first_unmet len rs ≡ None
none_unmet len [] m = refl
none_unmet len (HasBytes n ∷ rs) m = rw (le-ltb len n m.0) (none_unmet len rs m.1)
none_unmet len (Meets rule fault ∷ rs) m = let e : rule ≡ true = m.0 in rw e (none_unmet len rs m.1)

pub after_none : (len : ℕ) (xs ys : List Requirement) → first_unmet len xs ≡ None → first_unmet len (xs ++ ys) ≡ first_unmet len ys
after_none len [] ys e = refl
after_none len (HasBytes n ∷ xs) ys e = let p = left_none (ltb len n) (ShortImage len) (first_unmet len xs) e in rw p.0 (after_none len xs ys p.1)
after_none len (Meets rule fault ∷ xs) ys e = let p = right_none rule fault (first_unmet len xs) e in rw p.0 (after_none len xs ys p.1)

pub both_none : (len : ℕ) (xs ys : List Requirement) → first_unmet len (xs ++ ys) ≡ None → (first_unmet len xs ≡ None) × (first_unmet len ys ≡ None)
both_none len [] ys e = (refl, e)
both_none len (HasBytes n ∷ xs) ys e =
    let p = left_none (ltb len n) (ShortImage len) (first_unmet len (xs ++ ys)) e in
    let r = both_none len xs ys p.1 in
    (rw p.0 r.0, r.1)
both_none len (Meets rule fault ∷ xs) ys e =
    let p = right_none rule fault (first_unmet len (xs ++ ys)) e in
    let r = both_none len xs ys p.1 in
    (rw p.0 r.0, r.1)

after_some : (len : ℕ) (xs ys : List Requirement) (f : ImageFault) → first_unmet len xs ≡ Some f → first_unmet len (xs ++ ys) ≡ Some f
after_some len [] ys f e = absurd cc
after_some len (HasBytes n ∷ xs) ys f e = left_some (ltb len n) (ShortImage len) f (first_unmet len xs) (first_unmet len (xs ++ ys)) (after_some len xs ys f) e
after_some len (Meets rule fault ∷ xs) ys f e = right_some rule fault f (first_unmet len xs) (first_unmet len (xs ++ ys)) (after_some len xs ys f) e

pub stops_in : (len : ℕ) (xs ys : List Requirement) (f : ImageFault) → IsFaultOf f (first_unmet len xs) → IsFaultOf f (first_unmet len (xs ++ ys))
stops_in len xs ys (ShortImage at) e = after_some len xs ys (ShortImage at) e
stops_in len xs ys BadMagic e = after_some len xs ys BadMagic e
stops_in len xs ys (BadVersion version) e = after_some len xs ys (BadVersion version) e
stops_in len xs ys (BadField number) e = after_some len xs ys (BadField number) e
stops_in len xs ys (Trailing at) e = after_some len xs ys (Trailing at) e
stops_in len xs ys OutOfMemory e = tt

pub same_fault : (f : ImageFault) (x y : Option ImageFault) → x ≡ y → IsFaultOf f x → IsFaultOf f y
same_fault f x y e h = subst (IsFaultOf f) e h
