-- The part of one function.
use Rattle.std.proofs.Common.{◌≡◌, ◌≤◌, inl, inr, ℕ, ◌+◌, ◌*◌, List, length, Some, refl, sym, ap, ◌∙◌, arith}
use Rattle.std.specs.Prelude.{slice_get}
use Rattle.std.proofs.lemmas.List.{length-map}
use Rattle.std.proofs.lemmas.Option.{slice_get_within, slice_get_cases}
use Rattle.im_rv.specs.declared.code.Line.{Line}
use Rattle.im_rv.specs.declared.code.Part.{Part}
use Rattle.im_rv.specs.Lines.{CodeLine, code_line}
use Rattle.im_link.specs.Parts.{IsPart, part_size}
use Rattle.im_typed.specs.declared.program.Func.{Func as TypedFunction}
use Rattle.im_typed.specs.declared.program.Prog.{Prog}
use Rattle.im_typed.specs.ProgramOf.{func_of, program_of}
use Rattle.im_typed.specs.Program.{Func}
use Rattle.im_typed.specs.Counts.{func_nodes}
use Rattle.im_keeps_writes.specs.FunctionBound.{IsMadeOf, FunctionBoundLaw}
use Rattle.im_link_laws.specs.Program.{part_of, given_at, HasCode}
use Rattle.im_compile.specs.declared.options.Options.{Options}
use Rattle.im_compile.specs.declared.built.Built.{Built}
use Rattle.im_compile.specs.Passed.{IsSource, ReadyLaw}
use Rattle.im_compile.specs.Built.{IsBuilt}
use Rattle.im_keeps_writes.specs.Bound.{bytes_of, BuiltBoundLaw}

-- a part has as many lines as its code
size_is : (parts : List Part) (p : ℕ) (code : List CodeLine) (part : Part) → HasCode parts p code → IsPart parts p part → part_size part ≡ length code
size_is parts p code part has is =
    let other : Part = has.part in
    let there : slice_get parts p ≡ Some other = has.is_part in
    let same : part ≡ other = cc in
    ap (λ (q : Part). part_size q) same ∙ sym (length-map {A = Line} other.lines.items code_line) ∙ ap (λ (l : List CodeLine). length l) has.lines

module _ (ready : ReadyLaw) (law : FunctionBoundLaw) (prog : Prog) (options : Options) (built : Built) (s : IsSource prog) (b : IsBuilt prog options built) where
  made : IsMadeOf (program_of prog) b.code
  made = record {
    lowered = b.passed.lowered;
    sized = b.passed.sized;
    uncut = b.passed.uncut;
    forwarded = b.passed.forwarded;
    registers = b.passed.registers;
    forced = b.passed.forced;
    force = b.passed.force;
    placed = b.passed.placed;
    place = b.passed.place.placed;
    tags = b.passed.tags;
    max_gap = options.max_gap;
    recut = b.passed.recut;
  }

  few : (k : ℕ) (f : Func) (part : Part) → slice_get (program_of prog).funcs k ≡ Some f → IsPart b.parts (part_of k) part → bytes_of part ≤ 256 * (func_nodes f + 1)
  few k f part e is =
      let below = slice_get_within (program_of prog).funcs k f e in
      let count = (ready prog options.max_gap b.code s b.passed).count in
      let typed = length-map {A = TypedFunction} prog.funcs.items (func_of prog.types) in
      elim (slice_get_cases b.code.functions.items k).1 [
        | inl c ↦
            (let found = b.assemble.functions k c.0 c.2 in
            let size = size_is b.parts (part_of k) found.code part found.there is in
            let bound =
            law (program_of prog) b.code made k f c.0 e c.2
            (given_at b.code.functions.items b.addresses k c.0 found.layout) found.code refl found.selection in
            omega arith)
        | inr c ↦ (let le = c.0 in absurd (omega arith))
      ]

pub bounded : ReadyLaw → FunctionBoundLaw → BuiltBoundLaw
bounded ready law prog options built s b k f part e is = few ready law prog options built s b k f part e is
