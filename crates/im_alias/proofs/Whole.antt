-- Blocks of a function, functions of a unit and statics, one after another.
use Rattle.std.proofs.Common.{◌≡◌, ℕ, ◌+◌, ◌<◌, List, [], ◌∷◌, ◌++◌, length, take, Bool, true, false, Option, Some, refl, sym, ap, ◌∙◌, subst, ⊎_elim, ◌⊎◌, arith, append_assoc, append-nil}
use Rattle.std.specs.Prelude.{slice_get, ◌||◌}
use Rattle.std.proofs.lemmas.List.{take_more}
use Rattle.std.proofs.lemmas.Option.{slice_get_within, get_or_from_slice_get}
use Rattle.im_block.specs.declared.access.Tags.{Tags}
use Rattle.im_block.specs.declared.code.Block.{Block}
use Rattle.im_block.specs.declared.unit.Function.{Function}
use Rattle.im_block.specs.declared.unit.Static.{Static as StaticOf}
use Rattle.im_block.specs.declared.unit.Unit.{Unit as Code}
use Rattle.im_block.specs.declared.unit.Constant.{Constant}
use Rattle.im_block.specs.Wellformed.{accesses_of_lines, accesses_of_blocks, accesses_of_functions}
use Rattle.im_block_laws.specs.PointsTo.{ConstantIn, ConstantsIn}
use Rattle.im_alias.specs.PointsAt.{PointsAt, Fit}
use Rattle.im_alias.specs.declared.table.Table.{Table}
use Rattle.im_alias.specs.declared.found.Found.{Found}
use Rattle.im_alias.specs.Sets.{points, Flowed, StaticsFit}
use Rattle.im_alias.specs.Scan.{Agrees, Finds, TagsAlike, FlowedBlock, BlocksFit, BlocksTagged, FlowedBlocks, FunctionsFit, FunctionsTagged, numbers}
use Rattle.im_alias.proofs.Flows.{flowed_as, flowed_then}

pub below_next : (b k : ℕ) → b < k + 1 → (b ≡ k) ⊎ (b < k)
below_next b k h = grind arith

some_same : {X : Type 0} (o : Option X) (a b : X) → o ≡ Some a → o ≡ Some b → a ≡ b
some_same o a b e f = cc

accesses_append : (xs : List Block) (b : Block) → accesses_of_blocks (xs ++ b ∷ []) ≡ accesses_of_blocks xs ++ accesses_of_lines b.lines.items
accesses_append [] b = append-nil (accesses_of_lines b.lines.items)
accesses_append (x ∷ xs) b = ap (λ l. accesses_of_lines x.lines.items ++ l) (accesses_append xs b) ∙ sym (append_assoc (accesses_of_lines x.lines.items) (accesses_of_blocks xs) (accesses_of_lines b.lines.items))

functions_append : (xs : List Function) (f : Function) → accesses_of_functions (xs ++ f ∷ []) ≡ accesses_of_functions xs ++ accesses_of_blocks f.blocks.items
functions_append [] f = append-nil (accesses_of_blocks f.blocks.items)
functions_append (x ∷ xs) f = ap (λ l. accesses_of_blocks x.blocks.items ++ l) (functions_append xs f) ∙ sym (append_assoc (accesses_of_blocks x.blocks.items) (accesses_of_functions xs) (accesses_of_blocks f.blocks.items))

pub take_next : {X : Type 0} (xs : List X) (k : ℕ) (x : X) → slice_get xs k ≡ Some x → take (k + 1) xs ≡ take k xs ++ x ∷ []
take_next xs k x e = take_more xs k x (slice_get_within xs k x e) ∙ ap (λ y. take k xs ++ y ∷ []) (get_or_from_slice_get xs k x x e)

pub finds_then : (a b c : Found) (x y z : List ℕ) → z ≡ x ++ y → Finds a b x → Finds b c y → Finds a c z
finds_then a b c x y z e f g = record {
  numbers = g.numbers ∙ ap (λ l. l ++ y) f.numbers ∙ append_assoc (numbers a.accesses.items) x y ∙ ap (λ l. numbers a.accesses.items ++ l) (sym e);
  more = λ final h. f.more final (g.more final h);
}

pub finds_start : (a : Found) → Finds a a []
finds_start a = record { numbers = sym (append-nil (numbers a.accesses.items)); more = λ final h. h }

-- what holds of the first ones and of the next
module _ {X : Type 0} (xs : List X) (Q : ℕ → X → Type 0) (k : ℕ) (x : X) (at : slice_get xs k ≡ Some x) where
  pub each_next : ((b : ℕ) (y : X) → b < k → slice_get xs b ≡ Some y → Q b y) → Q k x → (b : ℕ) (y : X) → b < k + 1 → slice_get xs b ≡ Some y → Q b y
  each_next h q b y l e =
      ⊎_elim
      (λ s. let there : slice_get xs k ≡ Some y = subst (λ n. slice_get xs n ≡ Some y) s e in
      let same : x ≡ y = some_same (slice_get xs k) x y at there in
      subst (λ n. Q n y) (sym s) (subst (Q k) same q))
      (λ s. h b y s e)
      (below_next b k l)

  pub each_before : ((b : ℕ) (y : X) → b < k + 1 → slice_get xs b ≡ Some y → Q b y) → ((b : ℕ) (y : X) → b < k → slice_get xs b ≡ Some y → Q b y) × Q k x
  each_before h = (λ b y l e. h b y (omega arith) e, h k x (omega arith) at)

either_false : (c m : Bool) → (c || m) ≡ false → (c ≡ false) × (m ≡ false)
either_false true m e = cc
either_false false true e = cc
either_false false false e = (refl, refl)

pub blocks_next : (u : Code) (i : ℕ) (blocks : List Block) (k : ℕ) (block : Block) (a b d : Table) (x y z : Found) (c m : Bool) → slice_get blocks k ≡ Some block → FlowedBlocks k u i blocks (accesses_of_blocks (take k blocks)) a b x y c → FlowedBlock u i block b d y z m → FlowedBlocks (k + 1) u i blocks (accesses_of_blocks (take (k + 1) blocks)) a d x z (c || m)
blocks_next u i blocks k block a b d x y z c m at f g =
    let One : PointsAt → Type 0 = λ p. Fit p u.functions.items (p.register i) i block.lines.items block.exit in
    let Q = λ (p : PointsAt) (n : ℕ) (bl : Block). Fit p u.functions.items (p.register i) i bl.lines.items bl.exit in
    record {
      flowed = flowed_as (λ p. BlocksFit k u i blocks p × One p) (BlocksFit (k + 1) u i blocks) a d (c || m)
          (λ p h. each_next blocks (Q p) k block at h.0 h.1)
          (λ p h. each_before blocks (Q p) k block at h)
          (flowed_then (BlocksFit k u i blocks) One a b d c m f.flowed g.flowed);
      finds = finds_then x y z (accesses_of_blocks (take k blocks)) (accesses_of_lines block.lines.items) (accesses_of_blocks (take (k + 1) blocks)) (ap accesses_of_blocks (take_next blocks k block at) ∙ accesses_append (take k blocks) block) f.finds g.finds;
      tags = λ e final h.
          let s = either_false c m e in
          let same = (f.flowed.same s.0).0 in
          each_next blocks (λ n bl. TagsAlike (points a) final ((points a).register i) bl.lines.items) k block at
          (f.tags s.0 final (g.finds.more final h))
          (subst (λ p. TagsAlike p final (p.register i) block.lines.items) same (g.tags s.1 final h));
    }

-- the functions of a sweep
pub record FlowedFunctions (k : ℕ) (u : Code) (a b : Table) (x y : Found) (c : Bool) : Type 0 where
  pub flowed : Flowed (λ p. StaticsFit (length u.statics.items) u p × FunctionsFit k u p) a b c
  pub finds : Finds x y (accesses_of_functions (take k u.functions.items))
  pub tags : c ≡ false → (final : Tags) → Agrees final y → FunctionsTagged k u (points a) final

pub functions_next : (u : Code) (k : ℕ) (f : Function) (a b d : Table) (x y z : Found) (c m : Bool) → slice_get u.functions.items k ≡ Some f → FlowedFunctions k u a b x y c → FlowedBlocks (length f.blocks.items) u k f.blocks.items (accesses_of_blocks f.blocks.items) b d y z m → FlowedFunctions (k + 1) u a d x z (c || m)
functions_next u k f a b d x y z c m at h g =
    let One : PointsAt → Type 0 = BlocksFit (length f.blocks.items) u k f.blocks.items in
    let Q = λ (p : PointsAt) (n : ℕ) (fn : Function). BlocksFit (length fn.blocks.items) u n fn.blocks.items p in
    let S : PointsAt → Type 0 = StaticsFit (length u.statics.items) u in
    record {
      flowed = flowed_as (λ p. (S p × FunctionsFit k u p) × One p) (λ p. S p × FunctionsFit (k + 1) u p) a d (c || m)
          (λ p j. (j.0.0, each_next u.functions.items (Q p) k f at j.0.1 j.1))
          (λ p j. let e = each_before u.functions.items (Q p) k f at j.1 in ((j.0, e.0), e.1))
          (flowed_then (λ p. S p × FunctionsFit k u p) One a b d c m h.flowed g.flowed);
      finds = finds_then x y z (accesses_of_functions (take k u.functions.items)) (accesses_of_blocks f.blocks.items) (accesses_of_functions (take (k + 1) u.functions.items)) (ap accesses_of_functions (take_next u.functions.items k f at) ∙ functions_append (take k u.functions.items) f) h.finds g.finds;
      tags = λ e final j.
          let s = either_false c m e in
          let same = (h.flowed.same s.0).0 in
          each_next u.functions.items (λ n fn. BlocksTagged (length fn.blocks.items) n fn.blocks.items (points a) final) k f at
          (h.tags s.0 final (g.finds.more final j))
          (subst (λ p. BlocksTagged (length f.blocks.items) k f.blocks.items p final) same (g.tags s.1 final j));
    }

-- constants, and statics
constants_to : (set : List ℕ) (xs : List Constant) (v : Constant) → ConstantsIn set xs × ConstantIn set v → ConstantsIn set (xs ++ v ∷ [])
constants_to set [] v h = (h.1, tt)
constants_to set (x ∷ xs) v h = (h.0.0, constants_to set xs v (h.0.1, h.1))

constants_from : (set : List ℕ) (xs : List Constant) (v : Constant) → ConstantsIn set (xs ++ v ∷ []) → ConstantsIn set xs × ConstantIn set v
constants_from set [] v h = (tt, h.0)
constants_from set (x ∷ xs) v h = let r = constants_from set xs v h.1 in ((h.0, r.0), r.1)

pub values_next : (n : ℕ) (values : List Constant) (k : ℕ) (v : Constant) (a b d : Table) (c m : Bool) → slice_get values k ≡ Some v → Flowed (λ p. ConstantsIn (p.object n) (take k values)) a b c → Flowed (λ p. ConstantIn (p.object n) v) b d m → Flowed (λ p. ConstantsIn (p.object n) (take (k + 1) values)) a d (c || m)
values_next n values k v a b d c m at f g =
    flowed_as (λ p. ConstantsIn (p.object n) (take k values) × ConstantIn (p.object n) v) (λ p. ConstantsIn (p.object n) (take (k + 1) values)) a d (c || m)
    (λ p h. subst (ConstantsIn (p.object n)) (sym (take_next values k v at)) (constants_to (p.object n) (take k values) v h))
    (λ p h. constants_from (p.object n) (take k values) v (subst (ConstantsIn (p.object n)) (take_next values k v at) h))
    (flowed_then (λ p. ConstantsIn (p.object n) (take k values)) (λ p. ConstantIn (p.object n) v) a b d c m f g)

pub statics_next : (u : Code) (k : ℕ) (s : StaticOf) (a b d : Table) (c m : Bool) → slice_get u.statics.items k ≡ Some s → Flowed (StaticsFit k u) a b c → Flowed (λ p. ConstantsIn (p.object k) s.values.items) b d m → Flowed (StaticsFit (k + 1) u) a d (c || m)
statics_next u k s a b d c m at f g =
    let One : PointsAt → Type 0 = λ p. ConstantsIn (p.object k) s.values.items in
    let Q = λ (p : PointsAt) (n : ℕ) (each : StaticOf). ConstantsIn (p.object n) each.values.items in
    flowed_as (λ p. StaticsFit k u p × One p) (StaticsFit (k + 1) u) a d (c || m)
    (λ p h. each_next u.statics.items (Q p) k s at h.0 h.1)
    (λ p h. each_before u.statics.items (Q p) k s at h)
    (flowed_then (StaticsFit k u) One a b d c m f g)
