-- Members of structs that are lvalues, or are pointed to.
use Rattle.std.proofs.Common.{◌≡◌, ℕ, zero, suc, ◌||◌, List, [], ◌∷◌, Bool, true, false, refl, subst, arith}
use Rattle.std.specs.Prelude.{Some, slice_get, if◌then◌else◌}
use Rattle.std.proofs.lemmas.List.Elements.{All-head, All-tail}
use Rattle.std.proofs.lemmas.Option.{slice_get_within, get_or_from_slice_get}
use Rattle.im_word.specs.Words.{Name}
use Rattle.im_ctype.specs.declared.member.MemberPlace.{MemberPlace}
use Rattle.im_ctype.specs.Types.{CType, void, integer, pointer, array, unsized, struct, function, Member, Structs, members_at, members_of, is_complete, is_void, is_function}
use Rattle.im_ctype.specs.Layout.{Layout, layout_in, layouts, with_member, empty_layout, MembersAreComplete, AreCompleteFrom, AreComplete}
use Rattle.im_ctype.specs.Members.{place_behind, places_from, places}
use Rattle.im_ctype.proofs.Steps.{member-inside}
use Rattle.im_typed.specs.Program.{Place, Member as MemberAt, Func, Prog}
use Rattle.im_rules.specs.TypeTests.{same_name, has_member}
use Rattle.im_rules.specs.Conversions.{place_among, member_among}
use Rattle.im_rules_sound.specs.Sound.{IsSized, IsSoundPlace}

-- a member and its place, by its number
pub record Stands (ms : List Member) (ps : List MemberPlace) (m : Member) (p : MemberPlace) : Type 0 where
  pub number : ℕ
  pub member : slice_get ms number ≡ Some m
  pub place : slice_get ps number ≡ Some p

pub found : (x : Name) (ms : List Member) (done : List Layout) (so_far : Layout) → has_member x ms ≡ true → Stands ms (places_from done ms so_far) (member_among x ms) (place_among x ms (places_from done ms so_far))
found x [] done so_far e = absurd (cc)
found x (m ∷ ms) done so_far e = by-name (same_name m.name x) e (λ h. found x ms done (with_member so_far (layout_in done m.type)) h)
  where
    by-name : (b : Bool) → (b || has_member x ms) ≡ true → (has_member x ms ≡ true → Stands ms (places_from done ms (with_member so_far (layout_in done m.type))) (member_among x ms) (place_among x ms (places_from done ms (with_member so_far (layout_in done m.type)))))
        → Stands (m ∷ ms) (places_from done (m ∷ ms) so_far) (if b then m else member_among x ms) (if b then place_behind so_far (layout_in done m.type) else place_among x ms (places_from done ms (with_member so_far (layout_in done m.type))))
    by-name true e later = record { number = 0; member = refl; place = refl }
    by-name false e later = let h = later e in record { number = suc h.number; member = h.member; place = h.place }

-- members have complete types, so they are objects

complete-object : (n : ℕ) (t : CType) → is_complete n t ≡ true → (is_void t || is_function t) ≡ false
complete-object n void e = absurd (cc)
complete-object n (integer i) e = refl
complete-object n (pointer d t) e = refl
complete-object n (array t k) e = refl
complete-object n (unsized t) e = refl
complete-object n (struct k) e = refl
complete-object n (function r ps) e = absurd (cc)

member-complete : (k : ℕ) (ms : List Member) (i : ℕ) (m : Member) → MembersAreComplete k ms → slice_get ms i ≡ Some m → is_complete k m.type ≡ true
member-complete k [] i m h e = absurd (cc)
member-complete k (x ∷ xs) zero m h e =
    let same : x ≡ m = cc in
    subst (λ (y : Member). is_complete k y.type ≡ true) same (All-head (λ (y : Member). is_complete k y.type ≡ true) x xs h)
member-complete k (x ∷ xs) (suc i) m h e = member-complete k xs i m (All-tail (λ (y : Member). is_complete k y.type ≡ true) x xs h) e

members-complete : (k : ℕ) (structs : Structs) (n i : ℕ) (m : Member) → AreCompleteFrom k structs → slice_get (members_at (slice_get structs n)) i ≡ Some m → (is_void m.type || is_function m.type) ≡ false
members-complete k [] n i m h e = absurd (cc)
members-complete k (ms ∷ rest) zero i m h e = complete-object k m.type (member-complete k ms i m h.0 e)
members-complete k (ms ∷ rest) (suc n) i m h e = members-complete (suc k) rest n i m h.1 e

module _ (g : Prog) (f : Func) (known : Structs) (complete : AreComplete known) where
  -- the member of that name
  abbrev member : ℕ → Name → Member
  member n x = member_among x (members_of known n)

  pub place-sound : (n : ℕ) (x : Name) (p : Place) → IsSoundPlace g f known (struct n) p → has_member x (members_of known n) ≡ true → IsSized known (member n x).type
      → IsSoundPlace g f known (member n x).type (MemberAt p (place_among x (members_of known n) (places known n)).offset)
  place-sound n x p h has small =
      let at = found x (members_of known n) (layouts known) empty_layout has in
      let inside = member-inside known n at.number (member n x) (place_among x (members_of known n) (places known n)) complete (slice_get_within (members_of known n) at.number (member n x) at.member)
      (get_or_from_slice_get (members_of known n) at.number (member n x) (member n x) at.member)
      (get_or_from_slice_get (places known n) at.number (place_among x (members_of known n) (places known n)) (place_among x (members_of known n) (places known n)) at.place) in
      let fits = h.fits in
      record {
        typed = (h.typed, omega arith);
        fits = omega arith;
        object = members-complete 0 known n at.number (member n x) complete at.member;
        sized = small;
      }
