-- What is derived is in each closed assignment.
use Rattle.std.proofs.Common.{◌≡◌, ℕ, ◌+◌, List, [], ◌∷◌, Some, refl, subst, ⊎_elim}
use Rattle.std.specs.Prelude.{slice_get}
use Rattle.im_block.specs.declared.code.Place.TheVariants.{Static, Local, Through}
use Rattle.im_block.specs.declared.code.Line.{Line}
use Rattle.im_block.specs.declared.code.Line.TheVariants.{Copy, Move, Address, Read, Write, Call}
use Rattle.im_block.specs.declared.code.Block.{Block}
use Rattle.im_block.specs.declared.unit.Constant.{Constant}
use Rattle.im_block.specs.declared.unit.Constant.TheVariants.{Inside}
use Rattle.im_block.specs.declared.unit.Function.{Function}
use Rattle.im_block.specs.declared.unit.Unit.{Unit as Code}
use Rattle.im_block.specs.Sections.{Has}
use Rattle.im_block_laws.specs.PointsTo.{Points, ExitGives, BlocksGive, CallClosed, LineClosed, ConstantIn, ConstantsIn, LinesAre, IsClosed}
use Rattle.im_alias.specs.Least.{Node, OfRegister, OfObject, set_of, IsLineOf, Derived, First, OfStatic, OfLocal, Behind, Copied, Moved, LoadedStatic, LoadedLocal, LoadedBehind, StoredStatic, StoredLocal, StoredBehind, Passed, Given}

line_in : (P : Line → Type 0) (lines : List Line) (line : Line) → LinesAre P lines → Has lines line → P line
line_in P [] line h there = absurd there
line_in P (x ∷ xs) line h there = ⊎_elim (λ e. subst P e h.0) (λ t. line_in P xs line h.1 t) there

constant_in : (set : List ℕ) (cs : List Constant) (c : Constant) → ConstantsIn set cs → Has cs c → ConstantIn set c
constant_in set [] c h there = absurd there
constant_in set (x ∷ xs) c h there = ⊎_elim (λ e. subst (ConstantIn set) e h.0) (λ t. constant_in set xs c h.1 t) there

exit_in : (points : Points) (i : ℕ) (set : List ℕ) (blocks : List Block) (b : Block) → BlocksGive points i set blocks → Has blocks b → ExitGives points i set b.exit
exit_in points i set [] b h there = absurd there
exit_in points i set (x ∷ xs) b h there = ⊎_elim (λ e. subst (λ (y : Block). ExitGives points i set y.exit) e h.0) (λ t. exit_in points i set xs b h.1 t) there

module _ (u : Code) (points : Points) (closed : IsClosed points u) where
  line_closed : (i : ℕ) (line : Line) → IsLineOf u i line → LineClosed points u.functions.items i line
  line_closed i line l = line_in (LineClosed points u.functions.items i) l.block.lines.items line (closed.lines i l.function l.b l.block l.function_there l.block_there) l.there

  call_closed : (i to callee first count : ℕ) (f : Function) → IsLineOf u i (Call to callee first count) → slice_get u.functions.items callee ≡ Some f → CallClosed points i to first count callee (Some f)
  call_closed i to callee first count f l at = subst (λ o. CallClosed points i to first count callee o) at (line_closed i (Call to callee first count) l)

  pub held : (node : Node) (n : ℕ) → Derived u node n → Has (set_of points node) n
  held node n (First m object offset s at there) =
      constant_in (points.object m) s.values.items (Inside object offset) (closed.statics m s at) there
  held node n (OfStatic i to object offset l) = line_closed i (Address to (Static object offset)) l object refl
  held node n (OfLocal i to object offset l) = line_closed i (Address to (Local object offset)) l object refl
  held node n (Behind i to pointer offset m l d) =
      line_closed i (Address to (Through pointer offset)) l m (held (OfRegister i pointer) m d)
  held node n (Copied i to from m l d) = line_closed i (Copy to from) l m (held (OfRegister i from) m d)
  held node n (Moved i to size back pointer by m l d) = line_closed i (Move to size back pointer by) l m (held (OfRegister i pointer) m d)
  held node n (LoadedStatic i to object offset kind access m l d) =
      line_closed i (Read to (Static object offset) kind access) l object refl m (held (OfObject object) m d)
  held node n (LoadedLocal i to object offset kind access m l d) =
      line_closed i (Read to (Local object offset) kind access) l object refl m (held (OfObject object) m d)
  held node n (LoadedBehind i to pointer offset kind access o m l p d) =
      line_closed i (Read to (Through pointer offset) kind access) l o (held (OfRegister i pointer) o p) m (held (OfObject o) m d)
  held node n (StoredStatic i object offset kind from access m l d) =
      line_closed i (Write (Static object offset) kind from access) l object refl m (held (OfRegister i from) m d)
  held node n (StoredLocal i object offset kind from access m l d) =
      line_closed i (Write (Local object offset) kind from access) l object refl m (held (OfRegister i from) m d)
  held node n (StoredBehind i pointer offset kind from access o m l p d) =
      line_closed i (Write (Through pointer offset) kind from access) l o (held (OfRegister i pointer) o p) m (held (OfRegister i from) m d)
  held node n (Passed i to callee first count k m f l at few d) =
      (call_closed i to callee first count f l at).0 k few m (held (OfRegister i (first + k)) m d)
  held node n (Given i to callee first count r m l back d) =
      let gives = exit_in points callee (points.register i to) back.function.blocks.items back.block ((call_closed i to callee first count back.function l back.function_there).1) back.block_there in
      subst (ExitGives points callee (points.register i to)) back.exit gives m (held (OfRegister callee r) m d)

pub least : (u : Code) (points : Points) → IsClosed points u → (node : Node) (n : ℕ) → Derived u node n → Has (set_of points node) n
least u points closed node n d = held u points closed node n d
