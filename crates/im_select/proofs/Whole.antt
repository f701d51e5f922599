-- The lines of a function are a selection of it.
use Rattle.std.proofs.Common.{◌≡◌, ◌<◌, ◌≤◌, ℕ, suc, Bool, List, Option, Some, None, length, drop, refl, sym, subst, arith}
use Rattle.std.specs.Prelude.{slice_get}
use Rattle.im_rv.specs.Lines.{CodeLine}
use Rattle.im_block.specs.declared.unit.Function.{Function}
use Rattle.im_block.specs.declared.code.Block.{Block}
use Rattle.im_alloc_placed.specs.Placed.{IsPlacedBlock}
use Rattle.im_select_relation.specs.Selected.{IsEntry}
use Rattle.im_live.specs.Reads.{lives_before}
use Rattle.im_live.specs.Entries.{entry_in}
use Rattle.im_live.proofs.Least.{entry_within}
use Rattle.im_select.specs.Given.{Given}
use Rattle.im_select.specs.declared.distance.Distance.TheVariants.{Near}
use Rattle.im_select.specs.Emitted.{Laying, function_code}
use Rattle.im_select.specs.Selects.{laying_of, IsClosedBlock, IsSelectable, IsFunctionCode, IsSelection}
use Rattle.im_select.proofs.Standing.{At, at_start}
use Rattle.im_select.proofs.Laid.{starts_of, function_in}
use Rattle.im_select.proofs.Plain.{lead_at}
use Rattle.im_select.proofs.Counting.{function_few}
use Rattle.im_select.proofs.Naming.{function_accesses, function_causes}
use Rattle.im_select.proofs.Leading.{IsKnown, function_lead, function_only, function_entry, function_blocks}
use Rattle.im_select.proofs.Agreeing.{line_same, words_in, sited_in}
use Rattle.im_select.proofs.Machine.{all_at}

entry_okay : (live : ℕ → ℕ → Bool) (block : Option Block) (j : ℕ) → IsEntry (entry_in live block j)
entry_okay live None j = (omega arith, omega arith)
entry_okay live (Some block) j = entry_within (lives_before live (drop (suc j) block.lines.items) block.exit)

selection_of : (names : Given) (i : ℕ) (lines : List CodeLine) → IsSelectable names i → (e : IsFunctionCode names i lines) → IsSelection names i (function_code i (laying_of names e.live e.distance))
selection_of names i lines s e =
    let laying : Laying = laying_of names e.live e.distance in
    let whole : List CodeLine = function_code i laying in
    let f : Function = names.function in
    let o : (b j : ℕ) → IsEntry (laying.cut b j) = (λ b j. entry_okay e.live (slice_get f.blocks.items b) j) in
    let some : 0 < names.layout.frame = (let b = s.places.layout.bytes in omega arith) in
    let small : names.layout.frame < 4294967296 = (let b = s.places.layout.small in omega arith) in
    let closed : (b : ℕ) (block : Block) → slice_get f.blocks.items b ≡ Some block → IsClosedBlock names block = (λ b block t. all_at (IsClosedBlock names) f.blocks.items b block s.closed t) in
    let near : e.distance ≡ Near → length whole ≤ 1023 = (λ n. subst (λ z. length z ≤ 1023) e.lines_are (e.near n)) in
    let known : IsKnown names e.live e.distance whole = record { entries = o; few = near; closed = closed } in
    record {
      exact = record { live = e.live; is_live = e.is_live; distance = e.distance; lines_are = refl; near = near; far = e.far };
      starts = starts_of laying;
      selected = λ w t g.
          function_in w names e.live e.distance i o e.is_live g some small s.entry
          (λ b block t. (all_at (IsPlacedBlock (length names.statics) f) f.blocks.items b block s.placed.blocks t, closed b block t))
          (λ n line h. (line_same names w n g line h, words_in names w s.places g line h, sited_in names w g line h))
          (subst (At w 0) t (at_start w));
      accesses = function_accesses i laying;
      causes = function_causes i laying;
      entry = function_entry i laying;
      blocks = λ b h. function_blocks i laying b h;
      only = λ k l h. function_only names e.live e.distance whole i known s.entry k l h;
      targets = λ k l line t u. lead_at names whole whole (function_lead names e.live e.distance whole i known) k l line t u;
      words = λ apart. function_few i laying f refl s.entry apart;
    }

pub selection : (names : Given) (i : ℕ) (lines : List CodeLine) → IsSelectable names i → IsFunctionCode names i lines → IsSelection names i lines
selection names i lines s e = subst (IsSelection names i) (sym e.lines_are) (selection_of names i lines s e)
