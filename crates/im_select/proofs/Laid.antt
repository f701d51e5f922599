-- Blocks as they are laid: where each begins, and that what is put for a function is what may stand for it.
use Rattle.std.proofs.Common.{◌≡◌, ◌<◌, inl, inr, ℕ, ◌+◌, ◌^◌, Bool, false, List, [], ◌∷◌, ◌++◌, Option, Some, None, length, refl, sym, ap, ◌∙◌, subst, arith}
use Rattle.std.specs.Prelude.{◌==◌, if◌then◌else◌, slice_get}
use Rattle.std.proofs.lemmas.Option.{slice_get_within}
use Rattle.im_rv.specs.Lines.{CodeLine}
use Rattle.im_block.specs.declared.code.Line.{Line}
use Rattle.im_block.specs.declared.code.Exit.{Exit}
use Rattle.im_block.specs.declared.code.Exit.TheVariants.{Jump}
use Rattle.im_block.specs.declared.code.Block.{Block}
use Rattle.im_alloc_placed.specs.Placed.{IsPlacedBlock}
use Rattle.im_select.specs.Leads.{led, kept}
use Rattle.im_select_relation.specs.Selected.{IsEntry}
use Rattle.im_select_relation.specs.Symbolic.{Lines, Falls, StandsIn, IsSelected}
use Rattle.im_live.specs.Reads.{IsLive}
use Rattle.im_select.specs.declared.branching.Test.{Test}
use Rattle.im_select.specs.declared.distance.Distance.{Distance}
use Rattle.im_select.specs.Emitted.{labelled, is_empty, lines_code, behind_each, taken_test, own_lines, ended_code, Laying, leads_of, next_label, found_code, laid_block, laid_code, laid_order, others_below, kept_order, prologue_code, function_code, entry_label}
use Rattle.im_select.specs.Given.{Given}
use Rattle.im_select.specs.Selects.{Agrees, IsClosedBlock, laying_of}
use Rattle.im_select.proofs.Ordering.{Among, Distinct, itself, order_distinct, order_all}
use Rattle.im_select.proofs.Following.{LeadsOn, LeadOf, Stays, Goes, lead_of, lead_lead, lead_entry, kept_are, kept_all, kept_distinct, kept_first}
use Rattle.im_select.proofs.Standing.{At, after, after_labelled, at_left, at_right, at_labelled}
use Rattle.im_select.proofs.Taking.{takes}
use Rattle.im_select.proofs.Parts.{leads_in, Follows, Alike, IsBlockOf, IsBehind, stands_in, prologue_in}

-- where each block begins, the first of these at line k
abbrev pub starts_in : Laying → ℕ → List ℕ → ℕ → ℕ
starts_in laying k [] b = k
starts_in laying k (x ∷ rest) b = if x == b then k else starts_in laying (after k (laid_block laying x rest)) rest b

-- where each block of a function begins, or the one where it leads
abbrev pub starts_of : Laying → ℕ → ℕ
starts_of laying b = starts_in laying (after 0 (prologue_code laying.frame)) (kept_order laying) (leads_of laying b)

-- blocks begin where they do in this order
abbrev pub Begins : (ℕ → ℕ) → Laying → ℕ → List ℕ → Type 0
Begins starts laying k order = (b : ℕ) → Among order b → starts b ≡ starts_in laying k order b

pub first_start : (laying : Laying) (k x : ℕ) (rest : List ℕ) → starts_in laying k (x ∷ rest) x ≡ k
first_start laying k x rest = ap (λ t. if t then k else starts_in laying (after k (laid_block laying x rest)) rest x) (itself x)

pub later_start : (laying : Laying) (k x : ℕ) (rest : List ℕ) (b : ℕ) → (x == b) ≡ false → starts_in laying k (x ∷ rest) b ≡ starts_in laying (after k (laid_block laying x rest)) rest b
later_start laying k x rest b e = ap (λ t. if t then k else starts_in laying (after k (laid_block laying x rest)) rest b) e

begins_later : (starts : ℕ → ℕ) (laying : Laying) (k x : ℕ) (rest : List ℕ) → Distinct (x ∷ rest) → Begins starts laying k (x ∷ rest) → Begins starts laying (after k (laid_block laying x rest)) rest
begins_later starts laying k x rest d h = λ b a. h b (inr a) ∙ later_start laying k x rest b (d.0 b a)

-- a block begins where the block does to which it leads
abbrev AreLed : Given → (ℕ → ℕ) → Type 0
AreLed given starts = (b : ℕ) → starts b ≡ starts (leads_in given b)

-- the block whose label stands next begins there, and those that lead to it
next_begins : (given : Given) (live : ℕ → ℕ → Bool) (distance : Distance) (starts : ℕ → ℕ) (k : ℕ) (rest : List ℕ) → AreLed given starts → Begins starts (laying_of given live distance) k rest → Follows given starts (next_label given.first_block rest) k
next_begins given live distance starts k [] led h = λ b e. absurd cc
next_begins given live distance starts k (y ∷ rest) led h = λ b e.
    let sum : given.first_block + y ≡ given.first_block + leads_in given b = cc in
    let same : y ≡ leads_in given b = omega arith in
    sym (h y (inl refl) ∙ first_start (laying_of given live distance) k y rest) ∙ ap starts same ∙ sym (led b)

-- what is known of each block
abbrev pub AreBlocks : Given → Type 0
AreBlocks given = (b : ℕ) (block : Block) → slice_get given.function.blocks.items b ≡ Some block → IsPlacedBlock (length given.statics) given.function block × IsClosedBlock given block

block_of : (given : Given) (block : Block) → IsPlacedBlock (length given.statics) given.function block → IsClosedBlock given block → IsBlockOf given block.lines.items block.exit
block_of given block p c = record { placed = p.lines; calls = c.calls; leaves = p.exit; edges = c.edges }

-- a block at line k
laid_in : (w : Lines) (given : Given) (live : ℕ → ℕ → Bool) (distance : Distance) (starts : ℕ → ℕ) (k x : ℕ) (rest : List ℕ) (block : Block) →
    ((b j : ℕ) → IsEntry ((laying_of given live distance).cut b j)) → IsLive given.function.blocks.items live → Agrees w given → given.layout.frame < 2 ^ 32 → Alike (laying_of given live distance).at w.at (length given.statics) given.function → IsBlockOf given block.lines.items block.exit → slice_get given.function.blocks.items x ≡ Some block →
    AreLed given starts → Begins starts (laying_of given live distance) (after k (laid_block (laying_of given live distance) x rest)) rest → At w k (laid_block (laying_of given live distance) x rest) → StandsIn w given.function.blocks.items starts given.layout.frame k block.lines.items block.exit
laid_in w given live distance starts k x rest block o is g small alike h e leads begins a =
    let laying : Laying = laying_of given live distance in
    let next : Option ℕ = next_label given.first_block rest in
    let taken : Option Test = taken_test live block.lines.items block.exit in
    let own : List Line = own_lines taken block.lines.items in
    let t = takes live block.lines.items block.exit in
    let needed : ℕ → ℕ → Bool = behind_each live block.lines.items block.exit in
    let lines : List CodeLine = lines_code laying.at (laying.cut x) needed None 0 own in
    let body : List CodeLine = ended_code distance next given.first_block given.layout.frame taken lines (led (leads_in given) block.exit) in
    let same : laid_block laying x rest ≡ labelled (given.first_block + x) body = ap (found_code laying x next) e in
    let there : At w k body = at_labelled w k (given.first_block + x) body (subst (At w k) same a) in
    let follows : Follows given starts next (after k body) =
    subst (Follows given starts next) (ap (after k) same ∙ after_labelled k (given.first_block + x) body) (next_begins given live distance starts (after k (laid_block laying x rest)) rest leads begins) in
    let behind : IsBehind live needed 0 (own ++ t.tail) block.exit =
    subst (λ (z : List Line). IsBehind live needed 0 z block.exit) (sym t.whole) (λ i r. (let q : i + 0 ≡ i = omega arith in ap (λ z. needed z r) q)) in
    subst (λ (z : List Line). StandsIn w given.function.blocks.items starts given.layout.frame k z block.exit) t.whole
    (stands_in w given live starts laying.at (laying.cut x) needed distance next (is_empty lines) given.layout.frame t.tail block.exit taken (o x) is g small alike t.is 0 k own behind (subst (λ (z : List Line). IsBlockOf given z block.exit) (sym t.whole) h) follows there)

blocks_in : (w : Lines) (given : Given) (live : ℕ → ℕ → Bool) (distance : Distance) (starts : ℕ → ℕ) (k : ℕ) (order : List ℕ) →
    ((b j : ℕ) → IsEntry ((laying_of given live distance).cut b j)) → IsLive given.function.blocks.items live → Agrees w given → given.layout.frame < 2 ^ 32 → Alike (laying_of given live distance).at w.at (length given.statics) given.function → AreBlocks given →
    AreLed given starts → Distinct order → Begins starts (laying_of given live distance) k order → At w k (laid_code (laying_of given live distance) order) →
    (b : ℕ) (block : Block) → Among order b → slice_get given.function.blocks.items b ≡ Some block → StandsIn w given.function.blocks.items starts given.layout.frame (starts b) block.lines.items block.exit
blocks_in w given live distance starts k [] o is g small alike are leads d begins a = λ b block m e. absurd m
blocks_in w given live distance starts k (x ∷ rest) o is g small alike are leads d begins a =
    let laying : Laying = laying_of given live distance in
    let own : List CodeLine = laid_block laying x rest in
    let behind : List CodeLine = laid_code laying rest in
    let later = begins_later starts laying k x rest d begins in
    let right : At w (after k own) behind = at_right w k own behind a in
    λ b block m e. elim m [
      | inl s ↦
          (let here : slice_get given.function.blocks.items x ≡ Some block = ap (slice_get given.function.blocks.items) s ∙ e in
          let p = are x block here in
          let at_k : starts b ≡ k = ap starts (sym s) ∙ begins x (inl refl) ∙ first_start laying k x rest in
          subst (λ z. StandsIn w given.function.blocks.items starts given.layout.frame z block.lines.items block.exit) (sym at_k)
          (laid_in w given live distance starts k x rest block o is g small alike (block_of given block p.0 p.1) here leads later (at_left w k own behind a)))
      | inr r ↦ blocks_in w given live distance starts (after k own) rest o is g small alike are leads d.1 later right b block r e
    ]

-- where the entry begins
pub starts_entry : (laying : Laying) → starts_of laying laying.entry ≡ after 0 (prologue_code laying.frame)
starts_entry laying =
    let k : ℕ = after 0 (prologue_code laying.frame) in
    let others : List ℕ = others_below laying.entry (length laying.blocks) in
    let same = lead_entry laying.blocks laying.entry in
    ap (starts_in laying k (kept_order laying)) same ∙ ap (λ z. starts_in laying k z laying.entry) (kept_first (leads_of laying) laying.entry others same) ∙ first_start laying k laying.entry (kept (leads_of laying) others)

-- a block that only leads on begins where it leads to
passed_in : (w : Lines) (blocks : List Block) (starts : ℕ → ℕ) (entry frame b c : ℕ) (block : Block) → slice_get blocks b ≡ Some block → LeadsOn blocks entry b c → starts b ≡ starts c → StandsIn w blocks starts frame (starts b) block.lines.items block.exit
passed_in w blocks starts entry frame b c block e on same =
    let there = on.there in
    let one : on.block ≡ block = cc in
    let lines : block.lines.items ≡ [] = ap (λ (z : Block). z.lines.items) (sym one) ∙ on.lines in
    let exit : block.exit ≡ Jump c = ap (λ (z : Block). z.exit) (sym one) ∙ on.exit in
    subst (λ (z : List Line). StandsIn w blocks starts frame (starts b) z block.exit) (sym lines) (subst (λ (z : Exit). StandsIn w blocks starts frame (starts b) [] z) (sym exit) (Falls same))

pub function_in : (w : Lines) (given : Given) (live : ℕ → ℕ → Bool) (distance : Distance) (i : ℕ) →
    ((b j : ℕ) → IsEntry ((laying_of given live distance).cut b j)) → IsLive given.function.blocks.items live → Agrees w given → 0 < given.layout.frame → given.layout.frame < 2 ^ 32 → given.function.entry < length given.function.blocks.items → AreBlocks given → Alike (laying_of given live distance).at w.at (length given.statics) given.function →
    At w 0 (function_code i (laying_of given live distance)) → IsSelected w given.layout.frame given.function (starts_of (laying_of given live distance))
function_in w given live distance i o is g some small t are alike a =
    let laying : Laying = laying_of given live distance in
    let blocks : List Block = given.function.blocks.items in
    let count : ℕ = length blocks in
    let entry : ℕ = given.function.entry in
    let order : List ℕ = kept_order laying in
    let head : List CodeLine = prologue_code given.layout.frame in
    let rest : List CodeLine = laid_code laying order in
    let starts : ℕ → ℕ = starts_of laying in
    let r : At w (after 0 head) rest = subst (λ z. At w z rest) (after_labelled 0 (entry_label i) head) (at_right w 0 (labelled (entry_label i) head) rest a) in
    let in_order : ℕ → ℕ = starts_in laying (after 0 head) order in
    let leads : AreLed given starts = λ b. ap in_order (sym (lead_lead blocks entry b)) in
    let begins : Begins starts laying (after 0 head) order = (λ b m. ap in_order (kept_are (leads_of laying) (laid_order entry count) b m).1) in
    let distinct : Distinct order = kept_distinct (leads_of laying) (laid_order entry count) (order_distinct entry count) in
    let each : (b : ℕ) (block : Block) → slice_get blocks b ≡ Some block → LeadOf blocks entry b → StandsIn w blocks starts given.layout.frame (starts b) block.lines.items block.exit =
    (λ b block e l. elim l [
      | Stays s ↦ blocks_in w given live distance starts (after 0 head) order o is g small alike are leads distinct begins r b block (kept_all (leads_of laying) (laid_order entry count) b (order_all entry count b (slice_get_within blocks b block e)) s) e
      | Goes c few on s ↦ passed_in w blocks starts entry given.layout.frame b c block e on (ap in_order s)
    ]) in
    record {
      prologue = prologue_in w given starts given.layout.frame entry g some (sym (starts_entry laying)) (at_labelled w 0 (entry_label i) head (at_left w 0 (labelled (entry_label i) head) rest a));
      blocks = λ b block e. each b block e (lead_of blocks entry b);
    }
