-- What the arms of single functions owe: constants, writes, arguments, exits and tags.
use Rattle.std.proofs.Common.{◌≡◌, ℕ, ◌+◌, ◌<◌, ◌≤◌, List, [], ◌∷◌, ◌++◌, length, Bool, false, Option, Some, None, refl, sym, ap, ◌∙◌, subst, inl, ⊎_elim, arith}
use Rattle.std.specs.Prelude.{slice_get, ◌||◌}
use Rattle.std.proofs.lemmas.Option.{slice_get_within}
use Rattle.im_num.specs.declared.kind.Kind.{Kind}
use Rattle.im_block.specs.declared.access.Tag.{Tag}
use Rattle.im_block.specs.declared.access.Tag.TheVariants.{Direct, Through as Among}
use Rattle.im_block.specs.declared.access.Tags.{Tags}
use Rattle.im_block.specs.declared.code.Place.{Place}
use Rattle.im_block.specs.declared.code.Place.TheVariants.{Static, Local, Through}
use Rattle.im_block.specs.declared.code.Line.{Line}
use Rattle.im_block.specs.declared.code.Line.TheVariants.{Read, Write, Reload, Spill, Call}
use Rattle.im_block.specs.declared.unit.Constant.{Constant}
use Rattle.im_block.specs.declared.unit.Constant.TheVariants.{Number, Null, Inside}
use Rattle.im_block.specs.declared.unit.Function.{Function}
use Rattle.im_block.specs.Sections.{Has}
use Rattle.im_block.specs.Tagged.{tag_of, tag_in}
use Rattle.im_block_laws.specs.PointsTo.{Sub, ConstantIn}
use Rattle.im_alias.specs.PointsAt.{LineFits, CallFits}
use Rattle.im_alias.specs.declared.set.ObjectSet.{ObjectSet}
use Rattle.im_alias.specs.declared.table.RegisterSets.{RegisterSets}
use Rattle.im_alias.specs.declared.table.Owner.TheVariants.{Object, Register}
use Rattle.im_alias.specs.declared.table.Table.{Table}
use Rattle.im_alias.specs.declared.found.Tagged.{Tagged}
use Rattle.im_alias.specs.declared.found.Found.{Found}
use Rattle.im_alias.specs.Sets.{set_in, row_sets, Flowed, Grows}
use Rattle.im_alias.specs.Scan.{TagAlike, FindsTag, FindsAt, Finds, Agrees, IsAmong, IsSlotless, TakesAll}
use Rattle.im_alias.proofs.Flows.{flowed_as, flowed_start, flowed_then}
use Rattle.im_alias.proofs.Steps.{alike_same, finds_one, last_access}
use Rattle.im_alias.proofs.Whole.{below_next, finds_start}

-- constants
pub value_inside : (n object offset : ℕ) (one : List ℕ) (a b : Table) (c : Bool) → one ≡ object ∷ [] → Grows (Object n) one a b c → Flowed (λ p. ConstantIn (p.object n) (Inside object offset)) a b c
value_inside n object offset one a b c e g =
    flowed_as (λ p. Sub one (p.object n)) (λ p. Has (p.object n) object) a b c
    (λ p h. h object (subst (λ l. Has l object) (sym e) (inl refl)))
    (λ p h m k. ⊎_elim (λ s. subst (Has (p.object n)) s h) (λ z. absurd z) (subst (λ l. Has l m) e k))
    g

pub value_other : (n : ℕ) (v : Constant) (t : Table) → ((object offset : ℕ) → v ≡ Inside object offset → ⊥) → Flowed (λ p. ConstantIn (p.object n) v) t t false
value_other n (Number z) t other = flowed_start (λ p. Unit {0}) t tt
value_other n Null t other = flowed_start (λ p. Unit {0}) t tt
value_other n (Inside object offset) t other = absurd (other object offset refl)

-- writes
pub write_object : (sets : ℕ → List ℕ) (from object : ℕ) (set : List ℕ) (a b : Table) (c : Bool) → sets from ≡ set → Grows (Object object) set a b c → Flowed (λ p. (n : ℕ) → object ≡ n → Sub (sets from) (p.object n)) a b c
write_object sets from object set a b c e g =
    flowed_as (λ p. Sub set (p.object object)) (λ p. (n : ℕ) → object ≡ n → Sub (sets from) (p.object n)) a b c
    (λ p h n s. subst (λ l. Sub l (p.object n)) (sym e) (subst (λ m. Sub set (p.object m)) s h))
    (λ p h. subst (λ l. Sub l (p.object object)) e (h object refl))
    g

pub write_into : (sets : ℕ → List ℕ) (from pointer : ℕ) (set objects : List ℕ) (a b : Table) (c : Bool) → sets from ≡ set → sets pointer ≡ objects → Flowed (λ p. (n : ℕ) → Has objects n → Sub set (p.object n)) a b c → Flowed (λ p. (n : ℕ) → Has (sets pointer) n → Sub (sets from) (p.object n)) a b c
write_into sets from pointer set objects a b c e o f =
    subst (λ l. Flowed (λ p. (n : ℕ) → Has (sets pointer) n → Sub l (p.object n)) a b c) (sym e) (subst (λ l. Flowed (λ p. (n : ℕ) → Has l n → Sub set (p.object n)) a b c) (sym o) f)

-- registers one after another
pub rows_next : (given : ℕ → List ℕ) (i k : ℕ) (a b d : Table) (c m : Bool) → Flowed (λ p. (j : ℕ) → j < k → Sub (given j) (p.register i j)) a b c → Grows (Register i k) (given k) b d m → Flowed (λ p. (j : ℕ) → j < k + 1 → Sub (given j) (p.register i j)) a d (c || m)
rows_next given i k a b d c m f g =
    flowed_as (λ p. ((j : ℕ) → j < k → Sub (given j) (p.register i j)) × Sub (given k) (p.register i k)) (λ p. (j : ℕ) → j < k + 1 → Sub (given j) (p.register i j)) a d (c || m)
    (λ p h j l. ⊎_elim (λ s. subst (λ n. Sub (given n) (p.register i n)) (sym s) h.1) (λ s. h.0 j s) (below_next j k l))
    (λ p h. (λ j l. h j (omega arith), h k (omega arith)))
    (flowed_then (λ p. (j : ℕ) → j < k → Sub (given j) (p.register i j)) (λ p. Sub (given k) (p.register i k)) a b d c m f g)

has_within : (sets : List ObjectSet) (r x : ℕ) (o : Option ObjectSet) → slice_get sets r ≡ o → Has (set_in o) x → r < length sets
has_within sets r x None e h = absurd h
has_within sets r x (Some s) e h = slice_get_within sets r s e

pub rows_all : (spot : RegisterSets) (i n : ℕ) (a b : Table) (c : Bool) → length spot.sets.items ≤ n → Flowed (λ p. (r : ℕ) → r < n → Sub (row_sets spot r) (p.register i r)) a b c → Flowed (λ p. (r : ℕ) → Sub (row_sets spot r) (p.register i r)) a b c
rows_all spot i n a b c few f =
    flowed_as (λ p. (r : ℕ) → r < n → Sub (row_sets spot r) (p.register i r)) (λ p. (r : ℕ) → Sub (row_sets spot r) (p.register i r)) a b c
    (λ p h r x k. let w = has_within spot.sets.items r x (slice_get spot.sets.items r) refl k in h r (omega arith) x k)
    (λ p h r l. h r)
    f

-- lines that pass nothing on
pub line_nothing : (functions : List Function) (sets : ℕ → List ℕ) (line : Line) (t : Table) → IsSlotless line → ((place : Place) (kind : Kind) (from access : ℕ) → line ≡ Write place kind from access → ⊥) → ((to function first count : ℕ) → line ≡ Call to function first count → ⊥) → Flowed (λ p. LineFits p functions sets 0 line) t t false
line_nothing functions sets (Write place kind from access) t s w k = absurd (w place kind from access refl)
line_nothing functions sets (Reload to slot access) t s w k = absurd s
line_nothing functions sets (Spill slot from access) t s w k = absurd s
line_nothing functions sets (Call to function first count) t s w k = absurd (k to function first count refl)
line_nothing functions sets line t s w k = flowed_start (λ p. Unit {0}) t tt

pub callee_in : (functions : List Function) (callee count w : ℕ) (o : Option Function) → slice_get functions callee ≡ o → TakesAll w count o → callee < length functions
callee_in functions callee count w None e h = absurd h
callee_in functions callee count w (Some g) e h = slice_get_within functions callee g e

pub call_flows : (functions : List Function) (sets : ℕ → List ℕ) (callee first count : ℕ) (f : Function) (a b : Table) (c : Bool) → slice_get functions callee ≡ Some f → Flowed (λ p. (k : ℕ) → k < count → Sub (sets (first + k)) (p.register callee (f.first_parameter + k))) a b c → Flowed (λ p. CallFits p sets first count callee (slice_get functions callee)) a b c
call_flows functions sets callee first count f a b c e h = subst (λ o. Flowed (λ p. CallFits p sets first count callee o) a b c) (sym e) h

-- tags
pub direct_static : (sets : ℕ → List ℕ) (object offset k : ℕ) (old new : Found) → FindsTag k (λ o. o ≡ Some (Direct object offset)) old new → FindsTag k (TagAlike sets (Static object offset)) old new
direct_static sets object offset k old new h = record { is = subst (TagAlike sets (Static object offset)) (sym h.is) (refl, refl); more = h.more; accesses = h.accesses }

pub direct_local : (sets : ℕ → List ℕ) (object offset k : ℕ) (old new : Found) → FindsTag k (λ o. o ≡ Some (Direct object offset)) old new → FindsTag k (TagAlike sets (Local object offset)) old new
direct_local sets object offset k old new h = record { is = subst (TagAlike sets (Local object offset)) (sym h.is) (refl, refl); more = h.more; accesses = h.accesses }

among_alike : (sets : ℕ → List ℕ) (pointer offset : ℕ) (objects : List ℕ) (o : Option Tag) → objects ≡ sets pointer → IsAmong objects o → TagAlike sets (Through pointer offset) o
among_alike sets pointer offset objects None e h = absurd h
among_alike sets pointer offset objects (Some (Direct object d)) e h = absurd h
among_alike sets pointer offset objects (Some (Among members)) e h = alike_same members.items (sets pointer) (h ∙ e)

pub among_through : (sets : ℕ → List ℕ) (pointer offset k : ℕ) (objects : List ℕ) (old new : Found) → sets pointer ≡ objects → FindsTag k (IsAmong objects) old new → FindsTag k (TagAlike sets (Through pointer offset)) old new
among_through sets pointer offset k objects old new e h = record { is = among_alike sets pointer offset objects (slice_get new.tags.items k) (sym e) h.is; more = h.more; accesses = h.accesses }

tag_final : (sets : ℕ → List ℕ) (place : Place) (final : Tags) (access k : ℕ) (tags : List Tag) (o : Option Tag) → slice_get tags k ≡ o → TagAlike sets place o → ((tag : Tag) → slice_get tags k ≡ Some tag → slice_get final.tags.items k ≡ Some tag) → slice_get final.of.items access ≡ Some k → TagAlike sets place (tag_of final access)
tag_final sets place final access k tags None e h more of = absurd h
tag_final sets place final access k tags (Some tag) e h more of =
    let is : tag_of final access ≡ Some tag = ap (tag_in final.tags.items) of ∙ more tag e in
    subst (TagAlike sets place) (sym is) h

-- an access was found with its tag
module _ (sets : ℕ → List ℕ) (place : Place) (access k : ℕ) (old mid new : Found) (found : FindsTag k (TagAlike sets place) old mid) (tags : new.tags.items ≡ mid.tags.items) (accesses : new.accesses.items ≡ mid.accesses.items ++ (record { access = access; tag = k }) ∷ []) where
  abbrev one : Tagged
  one = record { access = access; tag = k }

  after_old : new.accesses.items ≡ old.accesses.items ++ one ∷ []
  after_old = accesses ∙ ap (λ l. l ++ one ∷ []) found.accesses

  more_old : (j : ℕ) (tag : Tag) → slice_get old.tags.items j ≡ Some tag → slice_get new.tags.items j ≡ Some tag
  more_old j tag e = subst (λ l. slice_get l j ≡ Some tag) (sym tags) (found.more j tag e)

  pub access_found : Finds old new (access ∷ [])
  access_found = finds_one old new one after_old more_old

  pub access_tag : (final : Tags) → Agrees final new → TagAlike sets place (tag_of final access)
  access_tag final h =
      tag_final sets place final access k new.tags.items (slice_get new.tags.items k) refl
      (subst (λ l. TagAlike sets place (slice_get l k)) (sym tags) found.is)
      (λ tag e. h.tags k tag e)
      (last_access mid new one final accesses h)

pub nothing_found : (sets : ℕ → List ℕ) (line : Line) (found : Found) → IsSlotless line → ((to : ℕ) (place : Place) (kind : Kind) (access : ℕ) → line ≡ Read to place kind access → ⊥) → ((place : Place) (kind : Kind) (from access : ℕ) → line ≡ Write place kind from access → ⊥) → FindsAt sets line found found
nothing_found sets (Read to place kind access) found s r w = absurd (r to place kind access refl)
nothing_found sets (Write place kind from access) found s r w = absurd (w place kind from access refl)
nothing_found sets (Reload to slot access) found s r w = absurd s
nothing_found sets (Spill slot from access) found s r w = absurd s
nothing_found sets line found s r w = record { finds = finds_start found; tag = λ final h. tt }
