-- Where a place is, in the typed run and in block code.
use Rattle.std.proofs.Common.{◌≡◌, ℕ, zero, suc, ◌+◌, ◌<◌, ◌≤◌, Bool, true, false, List, refl, sym, ap, ◌∙◌, arith}
use Rattle.std.specs.Prelude.{pos}
use Rattle.im_store.specs.declared.undefined.Undefined.TheVariants.{OutsideObject}
use Rattle.im_store.specs.Checks.{Fine, unless}
use Rattle.im_store.specs.Objects.{Object, static, Value, Number, Null, Pointer, Unset, Store}
use Rattle.im_store.specs.Pointers.{reaches, within, member_at}
use Rattle.im_typed.specs.Program as q
use Rattle.im_typed.specs.Runs as typed
use Rattle.im_typed.specs.Meaning.{Around, local}
use Rattle.im_block.specs.declared.code.Block.{Block}
use Rattle.im_block.specs.declared.code.Place.{Place}
use Rattle.im_block.specs.declared.code.Place.TheVariants.{Static, Local, Through}
use Rattle.im_block.specs.Meaning as m
use Rattle.im_block.specs.Meaning.{Active}
use Rattle.im_lower_relation.specs.Codes.{above, further_in, where_of}
use Rattle.im_lower_relation.specs.Agrees.{Agrees}
use Rattle.im_lower_relation.proofs.Stores.{agree-member}

pub above-more : (a : q.Place) (free : ℕ) → free ≤ above a free
above-more (q.Static n) free = omega arith
above-more (q.Local n) free = omega arith
above-more (q.Target e) free = omega arith
above-more (q.Member a d) free = above-more a free

-- offsets are added

within-is : (store : Store) (o : Object) (j : ℕ) (v : Value) → within store o (pos j) ≡ Fine v → Pointer o j ≡ v
within-is store o j v e = by-reach (reaches (store.shape o) j) e
  where
    by-reach : (c : Bool) → unless c (Pointer o j) OutsideObject ≡ Fine v → Pointer o j ≡ v
    by-reach true h = cc
    by-reach false h = absurd (cc)

member-none : (store : Store) (w v : Value) → member_at store 0 w ≡ Fine v → w ≡ v
member-none store (Pointer o i) v e = let same : i ≡ i + 0 = omega arith in ap (Pointer o) same ∙ within-is store o (i + 0) v e
member-none store (Number z) v e = absurd (cc)
member-none store Null v e = absurd (cc)
member-none store Unset v e = absurd (cc)

pub further-none : (store : Store) (d : ℕ) (w v : Value) → member_at store d w ≡ Fine v → m.further store d w ≡ Fine v
further-none store zero w v e = ap Fine (member-none store w v e)
further-none store (suc d) w v e = e

members-add : (store : Store) (k d : ℕ) (x w v : Value) → member_at store k x ≡ Fine w → member_at store d w ≡ Fine v → member_at store (k + d) x ≡ Fine v
members-add store k d (Pointer o i) w v e h =
    let same : Pointer o (i + k) ≡ w = within-is store o (i + k) w e in
    let sum : i + (k + d) ≡ i + k + d = omega arith in
    ap (λ j. within store o (pos j)) sum ∙ ap (member_at store d) same ∙ h
members-add store k d (Number z) w v e h = absurd (cc)
members-add store k d Null w v e h = absurd (cc)
members-add store k d Unset w v e h = absurd (cc)

further-more : (store : Store) (k d : ℕ) (x w v : Value) → m.further store k x ≡ Fine w → member_at store d w ≡ Fine v → m.further store (k + d) x ≡ Fine v
further-more store zero d x w v e h =
    let same : x ≡ w = cc in
    let none : 0 + d ≡ d = omega arith in
    ap (λ j. m.further store j x) none ∙ further-none store d x v (ap (member_at store d) same ∙ h)
further-more store (suc k) d x w v e h =
    let next : suc k + d ≡ suc (k + d) = omega arith in
    ap (λ j. m.further store j x) next ∙ ap (λ j. member_at store j x) (sym next) ∙ members-add store (suc k) d x w v e h

pub further-in : (place : Place) (by : Active) (registers : ℕ → Value) (store : Store) (d : ℕ) (w v : Value) → m.place_of place by registers store ≡ Fine w → member_at store d w ≡ Fine v → m.place_of (further_in place d) by registers store ≡ Fine v
further-in (Static o offset) by registers store d w v e h = further-more store offset d _ w v e h
further-in (Local o offset) by registers store d w v e h = further-more store offset d _ w v e h
further-in (Through r offset) by registers store d w v e h = further-more store offset d _ w v e h

-- the place of a member hangs on who lives alone
member-kept : (store after : Store) (d : ℕ) (w : Value) → ((o : Object) → after.shape o ≡ store.shape o) → member_at after d w ≡ member_at store d w
member-kept store after d (Pointer o i) same = ap (λ r. unless (reaches r (i + d)) (Pointer o (i + d)) OutsideObject) (same o)
member-kept store after d (Number z) same = refl
member-kept store after d Null same = refl
member-kept store after d Unset same = refl

module _ (c : Around) where
  -- a place has come to this value, with its pointer in a register
  abbrev pub IsPlaceAt : q.Place → ℕ → Value → Store → (ℕ → Value) → Type 0
  IsPlaceAt (q.Static n) free v store registers = v ≡ Pointer (static n) 0
  IsPlaceAt (q.Local n) free v store registers = v ≡ Pointer (local c n) 0
  IsPlaceAt (q.Target e) free v store registers = registers free ≡ v
  IsPlaceAt (q.Member a d) free v store registers = (w : Value) × IsPlaceAt a free w store registers × (member_at store d w ≡ Fine v)

  -- behind a place
  pub record Stood (a : q.Place) (free : ℕ) (registers : ℕ → Value) (v : Value) (t : typed.State) (after : ℕ → Value) (store : Store) : Type 0 where
    pub agrees : Agrees t.world.store store
    pub kept : (x : ℕ) → x < free → after x ≡ registers x
    pub is : IsPlaceAt a free v t.world.store after

  pub place-kept : (a : q.Place) (free : ℕ) (v : Value) (store later : Store) (registers after : ℕ → Value) → ((o : Object) → later.shape o ≡ store.shape o) → ((x : ℕ) → free ≤ x → x < above a free → after x ≡ registers x)
      → IsPlaceAt a free v store registers → IsPlaceAt a free v later after
  place-kept (q.Static n) free v store later registers after shapes same h = h
  place-kept (q.Local n) free v store later registers after shapes same h = h
  place-kept (q.Target e) free v store later registers after shapes same h = same free (omega arith) (omega arith) ∙ h
  place-kept (q.Member a d) free v store later registers after shapes same h =
      (h.0, place-kept a free h.0 store later registers after shapes same h.1, member-kept store later d h.0 shapes ∙ h.2)

  pub designates : (p : q.Prog) (blocks : List Block) (a : q.Place) (free : ℕ) (v : Value) (store left : Store) (registers : ℕ → Value) → Agrees store left → IsPlaceAt a free v store registers
      → m.place_of (where_of p c.first blocks a free) (record { number = c.activation; depth = c.depth }) registers left ≡ Fine v
  designates p blocks (q.Static n) free v store left registers agrees h = ap Fine (sym h)
  designates p blocks (q.Local n) free v store left registers agrees h = ap Fine (sym h)
  designates p blocks (q.Target e) free v store left registers agrees h = ap Fine h
  designates p blocks (q.Member a d) free v store left registers agrees h =
      further-in (where_of p c.first blocks a free) (record { number = c.activation; depth = c.depth }) registers left d h.0 v
      (designates p blocks a free h.0 store left registers agrees h.1) (agree-member store left agrees d h.0 v h.2)
