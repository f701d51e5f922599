-- What single functions owe: a register gets its set, objects are gone through, accesses get their tags.
use Rattle.std.proofs.Common.{◌≡◌, ◌≢◌, ℕ, zero, suc, ◌+◌, ◌<◌, List, [], ◌∷◌, ◌++◌, length, get_or, take, Bool, true, false, Option, Some, refl, sym, ap, ◌∙◌, subst, inl, ⊎_elim, arith, eq-eqb}
use Rattle.std.specs.Prelude.{slice_get, slice_set, ◌||◌, ◌==◌, if◌then◌else◌, None}
use Rattle.std.proofs.lemmas.Bool.{eqb-true}
use Rattle.std.proofs.lemmas.List.{take_more, length-set}
use Rattle.std.proofs.lemmas.Option.{slice_get-get_or}
use Rattle.im_block.specs.declared.access.Tag.{Tag}
use Rattle.im_block.specs.declared.access.Tags.{Tags}
use Rattle.im_block.specs.declared.code.Line.{Line}
use Rattle.im_block.specs.declared.code.Line.TheVariants.{Put, PutNull, Copy, Convert, Unary, Not, Compute, Compare, Move, Distance, Address, Read, Write, Reload, Spill, Cut, Call, Serve}
use Rattle.im_block.specs.Sections.{Has}
use Rattle.im_block.specs.Wellformed.{LineWithin, AreApart}
use Rattle.im_block_laws.specs.PointsTo.{Sub}
use Rattle.im_alias.specs.PointsAt.{PointsAt, union}
use Rattle.im_alias.specs.declared.set.ObjectSet.{ObjectSet}
use Rattle.im_alias.specs.declared.table.RegisterSets.{RegisterSets}
use Rattle.im_alias.specs.declared.table.Owner.TheVariants.{Object, Register}
use Rattle.im_alias.specs.declared.table.Table.{Table}
use Rattle.im_alias.specs.declared.found.Tagged.{Tagged}
use Rattle.im_alias.specs.declared.found.Found.{Found}
use Rattle.im_alias.specs.Ascending.{Adds}
use Rattle.im_alias.specs.Sets.{set_in, row_sets, Flowed, Grows}
use Rattle.im_alias.specs.Scan.{Alike, Passes, target_of, given_of, Finds, Agrees, numbers, IsScattered}
use Rattle.im_alias.proofs.Lists.{at_same, at_other, has_append, has_front, has_back}
use Rattle.im_alias.proofs.Flows.{flowed_as, flowed_then}
use Rattle.im_alias.proofs.Scans.{behind_is, after, from_union, in_union}
use Rattle.im_alias.proofs.Whole.{below_next}

pub alike_same : (xs ys : List ℕ) → xs ≡ ys → Alike xs ys
alike_same xs ys e = record { there = λ n h. subst (λ l. Has l n) e h; back = λ n h. subst (λ l. Has l n) (sym e) h }

-- the set at a place
pub set_there : (sets : List ObjectSet) (i : ℕ) (s : ObjectSet) → i < length sets → s ≡ get_or sets i s → set_in (slice_get sets i) ≡ s.members.items
set_there sets i s h e = ap set_in (slice_get-get_or sets i s h) ∙ ap (λ (o : ObjectSet). o.members.items) (sym e)

different : (r to : ℕ) → (r == to) ≡ false → r ≢ to
different r to t e = let k = eq-eqb r to e in cc

-- a register gets the set that its line gives it
pub passes_some : (p : PointsAt) (line : Line) (old new : RegisterSets) (to : ℕ) (s : ObjectSet) → target_of line ≡ Some to → to < length old.sets.items → new.sets.items ≡ slice_set old.sets.items to s → Alike s.members.items (given_of p (row_sets old) line) → Passes p line old new
passes_some p line old new to s e there is alike = record {
  count = ap length is ∙ length-set old.sets.items to s;
  sets = λ r. subst (Alike (row_sets new r)) (sym (behind_is p (row_sets old) line r ∙ ap (λ o. after o given (row_sets old) r) e)) (choose r (r == to) refl);
}
  where
    given : List ℕ
    given = given_of p (row_sets old) line

    choose : (r : ℕ) (b : Bool) → (r == to) ≡ b → Alike (row_sets new r) (if b then given else row_sets old r)
    choose r true t =
        let it : row_sets new r ≡ s.members.items = ap (row_sets new) (eqb-true r to t) ∙ ap (λ l. set_in (slice_get l to)) is ∙ ap set_in (at_same old.sets.items to s there) in
        subst (λ l. Alike l given) (sym it) alike
    choose r false t =
        let other : r ≢ to = different r to t in
        alike_same (row_sets new r) (row_sets old r) (ap (λ l. set_in (slice_get l r)) is ∙ ap set_in (at_other old.sets.items to r s other))

pub target_within : (n to : ℕ) (line : Line) → target_of line ≡ Some to → LineWithin n line → to < n
target_within n to (Put t z) e h = let k : t ≡ to = cc in omega arith
target_within n to (PutNull t) e h = let k : t ≡ to = cc in omega arith
target_within n to (Copy t from) e h = let k : t ≡ to = cc in let l = h.0 in omega arith
target_within n to (Convert t kind from) e h = let k : t ≡ to = cc in let l = h.0 in omega arith
target_within n to (Unary t op kind from) e h = let k : t ≡ to = cc in let l = h.0 in omega arith
target_within n to (Not t from) e h = let k : t ≡ to = cc in let l = h.0 in omega arith
target_within n to (Compute t op kind left right) e h = let k : t ≡ to = cc in let l = h.0 in omega arith
target_within n to (Compare t op kind left right) e h = let k : t ≡ to = cc in let l = h.0 in omega arith
target_within n to (Move t size back pointer by) e h = let k : t ≡ to = cc in let l = h.0 in omega arith
target_within n to (Distance t size left right) e h = let k : t ≡ to = cc in let l = h.0 in omega arith
target_within n to (Address t place) e h = let k : t ≡ to = cc in let l = h.0 in omega arith
target_within n to (Read t place kind access) e h = let k : t ≡ to = cc in let l = h.0 in omega arith
target_within n to (Write place kind from access) e h = cc
target_within n to (Reload t slot access) e h = cc
target_within n to (Spill slot from access) e h = cc
target_within n to (Cut cause) e h = cc
target_within n to (Call t callee first count) e h = let k : t ≡ to = cc in let l = h.0 in omega arith
target_within n to (Serve t service None) e h = let k : t ≡ to = cc in omega arith
target_within n to (Serve t service (Some from)) e h = let k : t ≡ to = cc in let l = h.0 in omega arith

-- objects one after another
take_has : (xs : List ℕ) (k x : ℕ) → k < length xs → x ≡ get_or xs k 0 → take (k + 1) xs ≡ take k xs ++ x ∷ []
take_has xs k x h e = take_more xs k 0 h ∙ ap (λ y. take k xs ++ y ∷ []) (sym e)

pub union_next : (f : ℕ → List ℕ) (xs : List ℕ) (k x : ℕ) (old new : List ℕ) (c : Bool) → k < length xs → x ≡ get_or xs k 0 → Alike old (union f (take k xs)) → Adds old (f x) new c → Alike new (union f (take (k + 1) xs))
union_next f xs k x old new c h e a d =
    let t = take_has xs k x h e in
    subst (λ l. Alike new (union f l)) (sym t) (record {
      there = λ m i. ⊎_elim
          (λ o. let u = from_union f (take k xs) m (a.there m o) in in_union f (take k xs ++ x ∷ []) u.0 m (has_front (take k xs) (x ∷ []) u.0 u.1) u.2)
          (λ n. in_union f (take k xs ++ x ∷ []) x m (has_back (take k xs) (x ∷ []) x (inl refl)) n)
          (d.within m i);
      back = λ m i. let u = from_union f (take k xs ++ x ∷ []) m i in
          ⊎_elim
          (λ o. d.kept m (a.back m (in_union f (take k xs) u.0 m o u.2)))
          (λ n. d.held m (⊎_elim (λ s. subst (λ y. Has (f y) m) (sym s) u.2) (λ z. absurd z) n))
          (has_append (take k xs) (x ∷ []) u.0 u.1);
    })

pub into_next : (from : List ℕ) (xs : List ℕ) (k x : ℕ) (a b d : Table) (c m : Bool) → k < length xs → x ≡ get_or xs k 0 → Flowed (λ p. (n : ℕ) → Has (take k xs) n → Sub from (p.object n)) a b c → Grows (Object x) from b d m → Flowed (λ p. (n : ℕ) → Has (take (k + 1) xs) n → Sub from (p.object n)) a d (c || m)
into_next from xs k x a b d c m h e f g =
    let t = take_has xs k x h e in
    flowed_as (λ p. ((n : ℕ) → Has (take k xs) n → Sub from (p.object n)) × Sub from (p.object x)) (λ p. (n : ℕ) → Has (take (k + 1) xs) n → Sub from (p.object n)) a d (c || m)
    (λ p j n i. ⊎_elim
    (λ o. j.0 n o)
    (λ y. ⊎_elim (λ s. subst (λ z. Sub from (p.object z)) s j.1) (λ z. absurd z) y)
    (has_append (take k xs) (x ∷ []) n (subst (λ l. Has l n) t i)))
    (λ p j. (
      λ n i. j n (subst (λ l. Has l n) (sym t) (has_front (take k xs) (x ∷ []) n i)),
      j x (subst (λ l. Has l x) (sym t) (has_back (take k xs) (x ∷ []) x (inl refl))),
    ))
    (flowed_then (λ p. (n : ℕ) → Has (take k xs) n → Sub from (p.object n)) (λ p. Sub from (p.object x)) a b d c m f g)

-- registers one after another
pub registers_next : (given : ℕ → List ℕ) (callee to : ℕ) (k : ℕ) (a b d : Table) (c m : Bool) → Flowed (λ p. (j : ℕ) → j < k → Sub (given j) (p.register callee (to + j))) a b c → Grows (Register callee (to + k)) (given k) b d m → Flowed (λ p. (j : ℕ) → j < k + 1 → Sub (given j) (p.register callee (to + j))) a d (c || m)
registers_next given callee to k a b d c m f g =
    flowed_as (λ p. ((j : ℕ) → j < k → Sub (given j) (p.register callee (to + j))) × Sub (given k) (p.register callee (to + k))) (λ p. (j : ℕ) → j < k + 1 → Sub (given j) (p.register callee (to + j))) a d (c || m)
    (λ p h j l. ⊎_elim (λ s. subst (λ n. Sub (given n) (p.register callee (to + n))) (sym s) h.1) (λ s. h.0 j s) (below_next j k l))
    (λ p h. (λ j l. h j (omega arith), h k (omega arith)))
    (flowed_then (λ p. (j : ℕ) → j < k → Sub (given j) (p.register callee (to + j))) (λ p. Sub (given k) (p.register callee (to + k))) a b d c m f g)

-- accesses and their tags
numbers_append : (xs : List Tagged) (a : Tagged) → numbers (xs ++ a ∷ []) ≡ numbers xs ++ a.access ∷ []
numbers_append [] a = refl
numbers_append (x ∷ xs) a = ap (λ l. x.access ∷ l) (numbers_append xs a)

get_front : {X : Type 0} (xs ys : List X) (k : ℕ) (x : X) → slice_get xs k ≡ Some x → slice_get (xs ++ ys) k ≡ Some x
get_front [] ys k x e = cc
get_front (y ∷ xs) ys zero x e = e
get_front (y ∷ xs) ys (suc k) x e = get_front xs ys k x e

get_last : {X : Type 0} (xs : List X) (x : X) → slice_get (xs ++ x ∷ []) (length xs) ≡ Some x
get_last [] x = refl
get_last (y ∷ xs) x = get_last xs x

pub agrees_more : (old new : Found) (a : Tagged) (final : Tags) → new.accesses.items ≡ old.accesses.items ++ a ∷ [] → ((j : ℕ) (tag : Tag) → slice_get old.tags.items j ≡ Some tag → slice_get new.tags.items j ≡ Some tag) → Agrees final new → Agrees final old
agrees_more old new a final e more h = record {
  of = λ k b at. h.of k b (subst (λ l. slice_get l k ≡ Some b) (sym e) (get_front old.accesses.items (a ∷ []) k b at));
  tags = λ k tag at. h.tags k tag (more k tag at);
}

pub finds_one : (old new : Found) (a : Tagged) → new.accesses.items ≡ old.accesses.items ++ a ∷ [] → ((j : ℕ) (tag : Tag) → slice_get old.tags.items j ≡ Some tag → slice_get new.tags.items j ≡ Some tag) → Finds old new (a.access ∷ [])
finds_one old new a e more = record {
  numbers = ap numbers e ∙ numbers_append old.accesses.items a;
  more = λ final h. agrees_more old new a final e more h;
}

pub last_access : (old new : Found) (a : Tagged) (final : Tags) → new.accesses.items ≡ old.accesses.items ++ a ∷ [] → Agrees final new → slice_get final.of.items a.access ≡ Some a.tag
last_access old new a final e h = h.of (length old.accesses.items) a (ap (λ l. slice_get l (length old.accesses.items)) e ∙ get_last old.accesses.items a)

-- tags are scattered by their accesses' numbers
numbers_at : (xs : List Tagged) (k : ℕ) (a : Tagged) → slice_get xs k ≡ Some a → slice_get (numbers xs) k ≡ Some a.access
numbers_at [] k a e = cc
numbers_at (x ∷ xs) zero a e = let s : x ≡ a = cc in ap (λ (y : Tagged). Some y.access) s
numbers_at (x ∷ xs) (suc k) a e = numbers_at xs k a e

front_get : (xs ys : List ℕ) (n k v : ℕ) → take n ys ≡ xs → slice_get xs k ≡ Some v → slice_get ys k ≡ Some v
front_get xs ys n k v e at = taken n ys k (subst (λ l. slice_get l k ≡ Some v) (sym e) at)
  where
    taken : (n : ℕ) (ys : List ℕ) (k : ℕ) → slice_get (take n ys) k ≡ Some v → slice_get ys k ≡ Some v
    taken zero ys k h = cc
    taken (suc n) [] k h = h
    taken (suc n) (y ∷ ys) zero h = h
    taken (suc n) (y ∷ ys) (suc k) h = taken n ys k h

some_one : {X : Type 0} (o : Option X) (a b : X) → o ≡ Some a → o ≡ Some b → a ≡ b
some_one o a b e f = cc

pub scatter_next : (accesses : List Tagged) (k : ℕ) (a : Tagged) (of more : List ℕ) (n : ℕ) → AreApart (numbers accesses) → slice_get accesses k ≡ Some a → IsScattered k accesses of → take n more ≡ of → a.access < length more → IsScattered (k + 1) accesses (slice_set more a.access a.tag)
scatter_next accesses k a of more n apart at h front long j b l at_b =
    ⊎_elim
    (λ s. let same : b ≡ a = some_one (slice_get accesses j) b a at_b (subst (λ i. slice_get accesses i ≡ Some a) (sym s) at) in
    subst (λ (y : Tagged). slice_get (slice_set more a.access a.tag) y.access ≡ Some y.tag) (sym same) (at_same more a.access a.tag long))
    (λ s.
    let other : b.access ≢ a.access = λ e. let same : j ≡ k = apart.each j k a.access (subst (λ x. slice_get (numbers accesses) j ≡ Some x) e (numbers_at accesses j b at_b)) (numbers_at accesses k a at) in absurd (omega arith) in
    at_other more a.access b.access a.tag other ∙ front_get of more n b.access b.tag front (h j b s at_b))
    (below_next j k l)
