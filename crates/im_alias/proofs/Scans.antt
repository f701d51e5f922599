-- Sets along lines: smaller sets, other assignments, bounds, and tags.
use Rattle.std.proofs.Common.{◌≡◌, ℕ, zero, suc, ◌+◌, ◌<◌, ◌≤◌, List, [], ◌∷◌, length, Bool, true, false, Option, Some, None, refl, sym, subst, inl, inr, ⊎_elim, arith}
use Rattle.std.specs.Prelude.{slice_get, ◌==◌, if◌then◌else◌, All}
use Rattle.im_block.specs.declared.access.Tag.{Tag}
use Rattle.im_block.specs.declared.access.Tag.TheVariants.{Direct, Through as Among}
use Rattle.im_block.specs.declared.access.Tags.{Tags}
use Rattle.im_block.specs.declared.code.Place.{Place}
use Rattle.im_block.specs.declared.code.Place.TheVariants.{Static, Local, Through}
use Rattle.im_block.specs.declared.code.Line.{Line}
use Rattle.im_block.specs.declared.code.Line.TheVariants.{Put, PutNull, Copy, Convert, Unary, Not, Compute, Compare, Move, Distance, Address, Read, Write, Reload, Spill, Cut, Call, Serve}
use Rattle.im_block.specs.declared.code.Exit.{Exit}
use Rattle.im_block.specs.declared.code.Exit.TheVariants.{Jump, Turn, Branch, Return}
use Rattle.im_block.specs.declared.unit.Function.{Function}
use Rattle.im_block.specs.Sections.{Has}
use Rattle.im_block.specs.Tagged.{tag_of}
use Rattle.im_block_laws.specs.PointsTo.{Sub, PlaceHas, TagFits}
use Rattle.im_alloc_placed.specs.Operands.{PlaceExists}
use Rattle.im_alloc_placed.specs.Placeable.{IsPlaceableLine}
use Rattle.im_alias.specs.PointsAt.{PointsAt, sets_at, with_set, union, addressed, loaded, behind, CallFits, LineFits, LineHasTag, ExitFits, Fit, HaveTags}
use Rattle.im_alias.specs.Least.{Below, TagWithin, LineTagWithin, TagsWithin}
use Rattle.im_alias.specs.Ascending.{IsWithin}
use Rattle.im_alias.specs.Sets.{IsBounded}
use Rattle.im_alias.specs.Scan.{AlikeSets, target_of, given_of, IsReached, Reaches, TagAlike, LineTagAlike, TagsAlike}
use Rattle.im_alias.proofs.Lists.{has_append, has_front, has_back}
use Rattle.im_alias.proofs.Flows.{below_same, full, upto, upto_has}

abbrev pub SubSets : (ℕ → List ℕ) → (ℕ → List ℕ) → Type 0
SubSets a b = (r : ℕ) → Sub (a r) (b r)

abbrev pub Within : ℕ → (ℕ → List ℕ) → Type 0
Within bound sets = (r : ℕ) → IsWithin bound (sets r)

-- behind a line one register has another set
abbrev pub after : Option ℕ → List ℕ → (ℕ → List ℕ) → ℕ → List ℕ
after None set sets r = sets r
after (Some to) set sets r = with_set sets to set r

pub behind_is : (p : PointsAt) (sets : ℕ → List ℕ) (line : Line) (r : ℕ) → behind p sets line r ≡ after (target_of line) (given_of p sets line) sets r
behind_is p sets (Put to z) r = refl
behind_is p sets (PutNull to) r = refl
behind_is p sets (Copy to from) r = refl
behind_is p sets (Convert to kind from) r = refl
behind_is p sets (Unary to op kind from) r = refl
behind_is p sets (Not to from) r = refl
behind_is p sets (Compute to op kind left right) r = refl
behind_is p sets (Compare to op kind left right) r = refl
behind_is p sets (Move to size back pointer by) r = refl
behind_is p sets (Distance to size left right) r = refl
behind_is p sets (Address to place) r = refl
behind_is p sets (Read to place kind access) r = refl
behind_is p sets (Write place kind from access) r = refl
behind_is p sets (Reload to slot access) r = refl
behind_is p sets (Spill slot from access) r = refl
behind_is p sets (Cut cause) r = refl
behind_is p sets (Call to callee first count) r = refl
behind_is p sets (Serve to service None) r = refl
behind_is p sets (Serve to service (Some from)) r = refl

either_sub : (b : Bool) (x y v w : List ℕ) → Sub x v → Sub y w → Sub (if b then x else y) (if b then v else w)
either_sub true x y v w h k = h
either_sub false x y v w h k = k

after_more : (o : Option ℕ) (x y : List ℕ) (a b : ℕ → List ℕ) → Sub x y → SubSets a b → (r : ℕ) → Sub (after o x a r) (after o y b r)
after_more None x y a b h k r = k r
after_more (Some to) x y a b h k r = either_sub (r == to) x (a r) y (b r) h (k r)

pub from_union : (sets : ℕ → List ℕ) (ns : List ℕ) (m : ℕ) → Has (union sets ns) m → (n : ℕ) × Has ns n × Has (sets n) m
from_union sets [] m h = absurd h
from_union sets (x ∷ ns) m h =
    ⊎_elim
    (λ a. (x, inl refl, a))
    (λ b. let k = from_union sets ns m b in (k.0, inr k.1, k.2))
    (has_append (sets x) (union sets ns) m h)

pub in_union : (sets : ℕ → List ℕ) (ns : List ℕ) (n m : ℕ) → Has ns n → Has (sets n) m → Has (union sets ns) m
in_union sets [] n m h k = absurd h
in_union sets (x ∷ ns) n m h k =
    ⊎_elim
    (λ e. has_front (sets x) (union sets ns) m (subst (λ y. Has (sets y) m) (sym e) k))
    (λ t. has_back (sets x) (union sets ns) m (in_union sets ns n m t k))
    h

union_more : (f g : ℕ → List ℕ) (xs ys : List ℕ) → ((n : ℕ) → Sub (f n) (g n)) → Sub xs ys → Sub (union f xs) (union g ys)
union_more f g xs ys h k m a =
    let u = from_union f xs m a in
    in_union g ys u.0 m (k u.0 u.1) (h u.0 m u.2)

module _ (p q : PointsAt) (below : Below p q) (a b : ℕ → List ℕ) (less : SubSets a b) where
  addressed_more : (place : Place) → Sub (addressed a place) (addressed b place)
  addressed_more (Static object offset) = λ n h. h
  addressed_more (Local object offset) = λ n h. h
  addressed_more (Through pointer offset) = less pointer

  loaded_more : (place : Place) → Sub (loaded p a place) (loaded q b place)
  loaded_more (Static object offset) = below.object object
  loaded_more (Local object offset) = below.object object
  loaded_more (Through pointer offset) = union_more p.object q.object (a pointer) (b pointer) below.object (less pointer)

  given_more : (line : Line) → Sub (given_of p a line) (given_of q b line)
  given_more (Copy to from) = less from
  given_more (Move to size back pointer by) = less pointer
  given_more (Address to place) = addressed_more place
  given_more (Read to place kind access) = loaded_more place
  given_more (Call to callee first count) = below.result callee
  given_more line = λ n h. h

  pub behind_more : (line : Line) → SubSets (behind p a line) (behind q b line)
  behind_more line r = subst (λ s. Sub s (behind q b line r)) (sym (behind_is p a line r)) (subst (λ s. Sub (after (target_of line) (given_of p a line) a r) s) (sym (behind_is q b line r)) (after_more (target_of line) (given_of p a line) (given_of q b line) a b (given_more line) less r))

pub behind_alike : (p : PointsAt) (a b : ℕ → List ℕ) (line : Line) → AlikeSets a b → AlikeSets (behind p a line) (behind p b line)
behind_alike p a b line h r = record {
  there = behind_more p p (below_same p) a b (λ s. (h s).there) line r;
  back = behind_more p p (below_same p) b a (λ s. (h s).back) line r;
}

-- smaller sets pass on less
module _ (p : PointsAt) (functions : List Function) (a b : ℕ → List ℕ) (less : SubSets a b) (i j : ℕ) where
  place_more : (place : Place) (n : ℕ) → PlaceHas (sets_at p a) j place n → PlaceHas (sets_at p b) i place n
  place_more (Static object offset) n h = h
  place_more (Local object offset) n h = h
  place_more (Through pointer offset) n h = less pointer n h

  call_less : (first count callee : ℕ) (o : Option Function) → CallFits p b first count callee o → CallFits p a first count callee o
  call_less first count callee None h = tt
  call_less first count callee (Some f) h = λ k few n m. h k few n (less (first + k) n m)

  pub line_less : (line : Line) → LineFits p functions b i line → LineFits p functions a j line
  line_less (Write place kind from access) h = λ n k m x. h n (place_more place n k) m (less from m x)
  line_less (Reload to slot access) h = h
  line_less (Spill slot from access) h = h
  line_less (Call to callee first count) h = call_less first count callee (slice_get functions callee) h
  line_less line h = tt

pub exit_less : (p : PointsAt) (a b : ℕ → List ℕ) (i : ℕ) (exit : Exit) → SubSets a b → ExitFits p b i exit → ExitFits p a i exit
exit_less p a b i (Jump x) less h = λ r n k. h r n (less r n k)
exit_less p a b i (Turn x) less h = λ r n k. h r n (less r n k)
exit_less p a b i (Branch on x y) less h = λ r n k. h r n (less r n k)
exit_less p a b i (Return None) less h = tt
exit_less p a b i (Return (Some r)) less h = λ n k. h n (less r n k)

-- bounds
module _ (bound : ℕ) (p : PointsAt) (bounded : IsBounded bound p) (sets : ℕ → List ℕ) (within : Within bound sets) where
  one_within : (object : ℕ) → object < bound → IsWithin bound (object ∷ [])
  one_within object h n k = ⊎_elim (λ e. subst (λ x. x < bound) e h) (λ x. absurd x) k

  addressed_within : (place : Place) → IsReached bound sets place → IsWithin bound (addressed sets place)
  addressed_within (Static object offset) h = one_within object h
  addressed_within (Local object offset) h = one_within object h
  addressed_within (Through pointer offset) h = within pointer

  loaded_within : (place : Place) → IsWithin bound (loaded p sets place)
  loaded_within (Static object offset) = bounded.object object
  loaded_within (Local object offset) = bounded.object object
  loaded_within (Through pointer offset) = λ m h. let u = from_union p.object (sets pointer) m h in bounded.object u.0 m u.2

  given_within : (line : Line) → Reaches bound sets line → IsWithin bound (given_of p sets line)
  given_within (Copy to from) h = within from
  given_within (Move to size back pointer by) h = within pointer
  given_within (Address to place) h = addressed_within place h
  given_within (Read to place kind access) h = loaded_within place
  given_within (Call to callee first count) h = bounded.result callee
  given_within line h = λ n k. absurd k

  either_within : (b : Bool) (x y : List ℕ) → IsWithin bound x → IsWithin bound y → IsWithin bound (if b then x else y)
  either_within true x y h k = h
  either_within false x y h k = k

  after_within : (o : Option ℕ) (set : List ℕ) → IsWithin bound set → (r : ℕ) → IsWithin bound (after o set sets r)
  after_within None set h r = within r
  after_within (Some to) set h r = either_within (r == to) set (sets r) h (within r)

  pub behind_within : (line : Line) → Reaches bound sets line → Within bound (behind p sets line)
  behind_within line h r = subst (IsWithin bound) (sym (behind_is p sets line r)) (after_within (target_of line) (given_of p sets line) (given_within line h) r)

-- places that exist are in objects below the number of all
pub record HasObjects (bound statics : ℕ) (f : Function) : Type 0 where
  pub statics_few : statics ≤ bound
  pub locals_few : f.first_object + length f.objects.items ≤ bound

pub place_reached : (bound statics : ℕ) (f : Function) (sets : ℕ → List ℕ) (place : Place) → HasObjects bound statics f → Within bound sets → PlaceExists statics f place → IsReached bound sets place
place_reached bound statics f sets (Static object offset) h w e = let a = e.0 in let b = h.statics_few in omega arith
place_reached bound statics f sets (Local object offset) h w e = let a = e.0.1 in let b = h.locals_few in omega arith
place_reached bound statics f sets (Through pointer offset) h w e = w pointer

pub line_reached : (bound statics : ℕ) (f : Function) (sets : ℕ → List ℕ) (line : Line) → HasObjects bound statics f → Within bound sets → IsPlaceableLine statics f line → Reaches bound sets line
line_reached bound statics f sets (Read to place kind access) h w e = place_reached bound statics f sets place h w e
line_reached bound statics f sets (Write place kind from access) h w e = place_reached bound statics f sets place h w e
line_reached bound statics f sets (Address to place) h w e = place_reached bound statics f sets place h w e
line_reached bound statics f sets line h w e = tt

-- the assignment that has all objects everywhere is closed
module _ (bound statics : ℕ) (functions : List Function) (f : Function) (h : HasObjects bound statics f) where
  full_bounded : IsBounded bound (full bound)
  full_bounded = record { register = λ i r. w; object = λ n. w; result = λ i. w }
    where
      w : IsWithin bound (upto bound)
      w = λ n k. down bound n k
        where
          down : (b n : ℕ) → Has (upto b) n → n < b
          down zero n k = absurd k
          down (suc b) n k = ⊎_elim (λ e. omega arith) (λ t. omega (arith, down b n t)) k

  to_full : (sets : ℕ → List ℕ) → Within bound sets → (r : ℕ) → Sub (sets r) (upto bound)
  to_full sets w r n k = upto_has bound n (w r n k)

  call_full : (sets : ℕ → List ℕ) → Within bound sets → (first count callee : ℕ) (o : Option Function) → CallFits (full bound) sets first count callee o
  call_full sets w first count callee None = tt
  call_full sets w first count callee (Some g) = λ k few. to_full sets w (first + k)

  pub line_full : (sets : ℕ → List ℕ) (i : ℕ) (line : Line) → Within bound sets → IsPlaceableLine statics f line → LineFits (full bound) functions sets i line
  line_full sets i (Write place kind from access) w e = λ n k. to_full sets w from
  line_full sets i (Reload to slot access) w e = e
  line_full sets i (Spill slot from access) w e = e
  line_full sets i (Call to callee first count) w e = call_full sets w first count callee (slice_get functions callee)
  line_full sets i line w e = tt

  pub exit_full : (sets : ℕ → List ℕ) (i : ℕ) (exit : Exit) → Within bound sets → ExitFits (full bound) sets i exit
  exit_full sets i (Jump x) w = to_full sets w
  exit_full sets i (Turn x) w = to_full sets w
  exit_full sets i (Branch on x y) w = to_full sets w
  exit_full sets i (Return None) w = tt
  exit_full sets i (Return (Some r)) w = to_full sets w r

  pub fit_full : (sets : ℕ → List ℕ) (i : ℕ) (lines : List Line) (exit : Exit) → Within bound sets → All (IsPlaceableLine statics f) lines → Fit (full bound) functions sets i lines exit
  fit_full sets i [] exit w e = exit_full sets i exit w
  fit_full sets i (line ∷ lines) exit w e =
      let one = e 0 line (omega arith) in
      (line_full sets i line w one, fit_full (behind (full bound) sets line) i lines exit (behind_within bound (full bound) full_bounded sets w line (line_reached bound statics f sets line h w one)) (λ k d l. e (suc k) d (omega arith)))

-- tags
tag_within : (sets : ℕ → List ℕ) (place : Place) (tag : Option Tag) → TagAlike sets place tag → TagWithin sets place tag
tag_within sets place None h = h
tag_within sets (Static object offset) (Some (Direct o d)) h = h
tag_within sets (Local object offset) (Some (Direct o d)) h = h
tag_within sets (Through pointer offset) (Some (Direct o d)) h = h
tag_within sets (Static object offset) (Some (Among objects)) h = h
tag_within sets (Local object offset) (Some (Among objects)) h = h
tag_within sets (Through pointer offset) (Some (Among objects)) h = h.there

line_tag_within : (tags : Tags) (sets : ℕ → List ℕ) (line : Line) → LineTagAlike tags sets line → LineTagWithin tags sets line
line_tag_within tags sets (Read to place kind access) h = tag_within sets place (tag_of tags access) h
line_tag_within tags sets (Write place kind from access) h = tag_within sets place (tag_of tags access) h
line_tag_within tags sets line h = tt

pub tags_within : (p : PointsAt) (tags : Tags) (sets : ℕ → List ℕ) (lines : List Line) → TagsAlike p tags sets lines → TagsWithin p tags sets lines
tags_within p tags sets [] h = tt
tags_within p tags sets (line ∷ rest) h = (line_tag_within tags sets line h.0, tags_within p tags (behind p sets line) rest h.1)

module _ (statics : ℕ) (f : Function) (behind_statics : statics ≤ f.first_object) where
  tag_fits : (p : PointsAt) (sets : ℕ → List ℕ) (i : ℕ) (place : Place) (tag : Option Tag) → PlaceExists statics f place → TagAlike sets place tag → TagFits (sets_at p sets) statics i place tag
  tag_fits p sets i place None e h = tt
  tag_fits p sets i (Static object offset) (Some (Direct o d)) e h = (e.0, h.0, h.1)
  tag_fits p sets i (Local object offset) (Some (Direct o d)) e h = let a = e.0.0 in (omega arith, h.0, h.1)
  tag_fits p sets i (Through pointer offset) (Some (Direct o d)) e h = h
  tag_fits p sets i (Static object offset) (Some (Among objects)) e h = absurd h
  tag_fits p sets i (Local object offset) (Some (Among objects)) e h = absurd h
  tag_fits p sets i (Through pointer offset) (Some (Among objects)) e h = h.back

  line_has_tag : (p : PointsAt) (tags : Tags) (sets : ℕ → List ℕ) (i : ℕ) (line : Line) → IsPlaceableLine statics f line → LineTagAlike tags sets line → LineHasTag p statics tags sets i line
  line_has_tag p tags sets i (Read to place kind access) e h = tag_fits p sets i place (tag_of tags access) e h
  line_has_tag p tags sets i (Write place kind from access) e h = tag_fits p sets i place (tag_of tags access) e h
  line_has_tag p tags sets i line e h = tt

  pub have_tags : (p : PointsAt) (tags : Tags) (sets : ℕ → List ℕ) (i : ℕ) (lines : List Line) → All (IsPlaceableLine statics f) lines → TagsAlike p tags sets lines → HaveTags p statics tags sets i lines
  have_tags p tags sets i [] e h = tt
  have_tags p tags sets i (line ∷ rest) e h =
      (line_has_tag p tags sets i line (e 0 line (omega arith)) h.0, have_tags p tags (behind p sets line) i rest (λ k d l. e (suc k) d (omega arith)) h.1)
