-- The fault of a pass as that of the chain.
use Rattle.std.proofs.Common.{◌≡◌, ◌<◌, ℕ, ◌*◌, List, Option, Ok, Err, sym, ◌∙◌, arith}
use Rattle.std.specs.Prelude.{◌-◌, ◌^◌, min, Result, IfOk, IfErr, MatchResult}
use Rattle.im_rv.specs.declared.code.Part.{Part}
use Rattle.im_link.specs.declared.linker.Linker.{Linker}
use Rattle.im_link.specs.declared.fault.LinkFault.{LinkFault}
use Rattle.im_link.specs.declared.fault.LinkFault.TheVariants.{Limit, OutOfMemory as NoRoom}
use Rattle.im_link.specs.Code.{IsFaultOf as IsFaultOfLinking}
use Rattle.im_link.specs.Linking.{Holds}
use Rattle.im_link.specs.Parts.{word_count}
use Rattle.im_typed.specs.declared.program.Prog.{Prog}
use Rattle.im_block.specs.declared.unit.Unit.{Unit as Code}
use Rattle.im_compile.specs.declared.built.Built.{Built}
use Rattle.im_compile.specs.declared.fault.CompileFault.{CompileFault}
use Rattle.im_compile.specs.declared.fault.CompileFault.TheVariants.{Frame, Code as TooMuchCode, OutOfMemory}
use Rattle.im_compile.specs.declared.options.Options.{Options}
use Rattle.im_compile.specs.declared.setting_out.Unlinked.{Unlinked}
use Rattle.im_compile.specs.Built.{IsBuilt}
use Rattle.im_compile.specs.Faults.{IsFaultOf, IsFrameFault, IsCodeFault}
use Rattle.im_compile.specs.Made.{IsUnlinkedFrom}
use Rattle.im_compile.specs.Passed.{IsPassed}
use Rattle.im_compile.specs.Ready.{of_link}

pub of_frames : (prog : Prog) (max_gap : Option ℕ) (code : Code) → IsPassed prog max_gap code → (e : CompileFault) → IsFrameFault code.functions.items e → IsFaultOf prog max_gap e
of_frames prog max_gap code passed (Frame i bytes) h = record { code = code; passed = passed; frame = h }
of_frames prog max_gap code passed (TooMuchCode bytes) h = absurd h
of_frames prog max_gap code passed OutOfMemory h = tt

of_code : (prog : Prog) (max_gap : Option ℕ) (unlinked : Unlinked) (a : IsUnlinkedFrom prog max_gap unlinked) (e : CompileFault) → IsCodeFault a.set_out.parts e → IsFaultOf prog max_gap e
of_code prog max_gap unlinked a (Frame i bytes) h = absurd h
of_code prog max_gap unlinked a (TooMuchCode bytes) h =
    let s = a.set_out in
    record {
      parts = s.parts;
      assembled = record { code = a.made.unit; passed = a.is_made.passed; layouts = s.layouts; lay_out = s.lay_out; addresses = unlinked.addresses.items; place_statics = s.place_statics; assemble = s.assemble };
      large = h.0;
      told = h.1;
    }
of_code prog max_gap unlinked a OutOfMemory h = tt

-- what finishing answers
pub of_finishing : (prog : Prog) (options : Options) (unlinked : Unlinked) (a : IsUnlinkedFrom prog options.max_gap unlinked) (result : Result Built CompileFault) →
    IfOk result (IsBuilt prog options) → IfErr result (IsCodeFault a.set_out.parts) → MatchResult result (IsBuilt prog options) (IsFaultOf prog options.max_gap)
of_finishing prog options unlinked a (Ok built) is fault = is
of_finishing prog options unlinked a (Err e) is fault = of_code prog options.max_gap unlinked a e fault

-- all parts that a linker may have are of one size, as far as it is told
same_size : (x y bytes : ℕ) → min x (2 ^ 64 - 1) ≡ min y (2 ^ 64 - 1) → 1044480 < 4 * x → bytes ≡ min (4 * x) (2 ^ 64 - 1) → (1044480 < 4 * y) × (bytes ≡ min (4 * y) (2 ^ 64 - 1))
same_size x y bytes same large told = (omega arith, omega arith)

pub of_link_fault : (linker : Linker) (held parts : List Part) → Holds linker held → Holds linker parts → (e : LinkFault) → IsFaultOfLinking held e → IsCodeFault parts (of_link e)
of_link_fault linker held parts h there (Limit bytes) f = same_size (word_count held) (word_count parts) bytes (sym h.count ∙ there.count) f.0 f.1
of_link_fault linker held parts h there NoRoom f = tt
