-- No two cuts side by side, where the old code has none.
use Rattle.std.proofs.Common.{List, [], ◌∷◌, ◌++◌, Option, Some, None, sym, subst}
use Rattle.std.specs.Prelude.{All}
use Rattle.std.proofs.lemmas.List.Elements.{All-head, All-tail}
use Rattle.im_num.specs.declared.values.Cause.{Cause}
use Rattle.im_block.specs.declared.code.Line.{Line}
use Rattle.im_block.specs.declared.code.Line.TheVariants.{Cut}
use Rattle.im_block.specs.declared.code.Exit.{Exit}
use Rattle.im_block.specs.declared.unit.Unit.{Unit as Code}
use Rattle.im_alloc_placed.specs.Apart.{CutsApart, AllApart, IsNoCut, AllUncut}
use Rattle.im_block.proofs.Unitwise.{zip_old}
use Rattle.im_force.specs.Force.{due_behind, due_at, cut_of, forced_lines, due_first, ForcesFunction, Forces}
use Rattle.im_force.proofs.Keeps.{made}

only_one : (due : Option Cause) → CutsApart (cut_of due)
only_one None = tt
only_one (Some cause) = (λ s. s, tt)

line_apart : (line : Line) (lines : List Line) → IsNoCut line → CutsApart lines → CutsApart (line ∷ lines)
line_apart (Cut cause) lines uncut h = absurd (uncut tt)
line_apart line lines uncut h = h

due_apart : (due : Option Cause) (line : Line) (lines : List Line) → IsNoCut line → CutsApart lines → CutsApart (cut_of due ++ line ∷ lines)
due_apart None line lines uncut h = line_apart line lines uncut h
due_apart (Some cause) line lines uncut h = (uncut, line_apart line lines uncut h)

lines_apart : (exit : Exit) (due : Option Cause) (lines : List Line) → All IsNoCut lines → CutsApart (forced_lines exit due lines)
lines_apart exit due [] none = only_one (due_at due exit)
lines_apart exit due (line ∷ lines) none =
    due_apart due line (forced_lines exit (due_behind line) lines) (All-head IsNoCut line lines none) (lines_apart exit (due_behind line) lines (All-tail IsNoCut line lines none))

pub apart : (old new : Code) → Forces old new → AllUncut old → AllApart new
apart old new h none = record {
  each = λ i g b y at there.
      let f = zip_old ForcesFunction old.functions.items new.functions.items i g h.functions at in
      let x = made f.old g f.is b y there in
      subst CutsApart (sym x.is.lines) (lines_apart x.old.exit (due_first f.old.entry b) x.old.lines.items (none.each i f.old b x.old f.at x.at));
}
