-- One sweep over the blocks of a function, from the last to the first, with marks for each read: whether a path from where a
-- section begins comes here without a write that covers it, and whether one comes here on which it is open.
use Rattle.std.specs.Prelude.{◌≡◌, ◌⊎◌, ℕ, suc, Bool, true, false, List, [], ◌∷◌, ◌++◌, Some, slice_get}
use Rattle.im_num.specs.declared.values.Cause.TheVariants.{Dep as DepCut}
use Rattle.im_block.specs.declared.access.Tags.{Tags}
use Rattle.im_block.specs.declared.access.Dep.{Dep}
use Rattle.im_block.specs.declared.code.Line.{Line}
use Rattle.im_block.specs.declared.code.Line.TheVariants.{Cut}
use Rattle.im_block.specs.declared.code.Block.{Block}
use Rattle.im_block.specs.declared.unit.Function.{Function}
use Rattle.im_block.specs.Meaning.{Site}
use Rattle.im_block.specs.Paths.{WriteStep, steps_of, MeetAt, IsEdge}
use Rattle.im_block.specs.Flow.{clean_after, open_after}
use Rattle.im_dep.specs.Exposed.{dep_of}

pub record Marks : Type 0 where
  pub clean : Site → Bool
  pub opened : Site → Bool

-- where a section begins
abbrev pub fresh : Marks
fresh = record { clean = λ r. true; opened = λ r. false }

abbrev pub passed : (Site → Site → Bool) → Line → Marks → Marks
passed covers line m = record { clean = λ r. clean_after (λ w. covers w r) line (m.clean r); opened = λ r. open_after r line (m.clean r) (m.opened r) }

-- along lines: before a write that may meet an open read a cut is put; before each other line none
pub data SweepLines (tags : Tags) (covers : Site → Site → Bool) : Marks → List Line → List Line → List Dep → Marks → Type 0 where
  Ends : (m : Marks) → SweepLines tags covers m [] [] [] m
  Keeps : (m : Marks) (line : Line) (old new : List Line) (added : List Dep) (n : Marks) → ((w r : Site) → steps_of line ≡ WriteStep w ∷ [] → m.opened r ≡ true → MeetAt tags w r → ⊥) →
      SweepLines tags covers (passed covers line m) old new added n → SweepLines tags covers m (line ∷ old) (line ∷ new) added n
  Cuts : (m : Marks) (w r : Site) (line : Line) (old new : List Line) (added : List Dep) (n : Marks) → steps_of line ≡ WriteStep w ∷ [] → m.opened r ≡ true → MeetAt tags w r →
      SweepLines tags covers (passed covers line fresh) old new added n → SweepLines tags covers m (line ∷ old) (Cut (DepCut r.number w.number) ∷ line ∷ new) (dep_of r w ∷ added) n

-- blocks from number b on; the later ones were swept first
abbrev pub SweepBlocks : Tags → (Site → Site → Bool) → (ℕ → Marks) → (ℕ → Marks) → ℕ → List Block → List Block → List Dep → Type 0
SweepBlocks tags covers starts ends b [] [] added = added ≡ []
SweepBlocks tags covers starts ends b (x ∷ xs) (y ∷ ys) added =
    (later own : List Dep) × (added ≡ later ++ own) × SweepBlocks tags covers starts ends (suc b) xs ys later
    × SweepLines tags covers (starts b) x.lines.items y.lines.items own (ends b) × (y.exit ≡ x.exit)
SweepBlocks tags covers starts ends b [] (y ∷ ys) added = ⊥
SweepBlocks tags covers starts ends b (x ∷ xs) [] added = ⊥

-- an edge comes from a block of which this holds
abbrev pub ComesFrom : List Block → ℕ → (ℕ → Type 0) → Type 0
ComesFrom blocks c P = (p : ℕ) × (block : Block) × (slice_get blocks p ≡ Some block) × IsEdge block.exit c × P p

-- the marks at the start of a block are those at the ends of the blocks before it, and those of the entry
pub record Joined (f : Function) (starts ends : ℕ → Marks) : Type 0 where
  pub entry : (r : Site) → (starts f.entry).clean r ≡ true
  pub clean_on : (p c : ℕ) (block : Block) (r : Site) → slice_get f.blocks.items p ≡ Some block → IsEdge block.exit c → (ends p).clean r ≡ true → (starts c).clean r ≡ true
  pub open_on : (p c : ℕ) (block : Block) (r : Site) → slice_get f.blocks.items p ≡ Some block → IsEdge block.exit c → (ends p).opened r ≡ true → (starts c).opened r ≡ true
  pub clean_from : (c : ℕ) (r : Site) → (starts c).clean r ≡ true → (c ≡ f.entry) ⊎ ComesFrom f.blocks.items c (λ p. (ends p).clean r ≡ true)
  pub open_from : (c : ℕ) (r : Site) → (starts c).opened r ≡ true → ComesFrom f.blocks.items c (λ p. (ends p).opened r ≡ true)

pub record Swept (tags : Tags) (covers : Site → Site → Bool) (old new : Function) (added : List Dep) : Type 0 where
  pub starts : ℕ → Marks
  pub ends : ℕ → Marks
  pub blocks : SweepBlocks tags covers starts ends 0 old.blocks.items new.blocks.items added
  pub joined : Joined new starts ends
  pub rest : new ≡ record old { blocks = new.blocks }
