-- A source is built and its image stored: the stages put together.
use Rattle.std.proofs.Common.{◌≡◌, ◌≤◌, ℕ, List, Option, Some, None, refl}
use Rattle.std.specs.Prelude.{IfSome}
use Rattle.im_io.specs.Shelf.{ShelfState}
use Rattle.im_image.specs.Text.{image_text}
use Rattle.im_fault.specs.declared.fault.SourceFault.{SourceFault}
use Rattle.im_fault.specs.declared.fault.SourceFault.TheVariants.{Line, Limit, OutOfMemory}
use Rattle.im_cmd_words.specs.declared.command.BuildOptions.{BuildOptions}
use Rattle.im_compile.specs.declared.built.Built.{Built}
use Rattle.im_compile.specs.Passed.{IsGapOption}
use Rattle.im_typed.specs.declared.program.Prog.{Prog}
use Rattle.im_image.specs.Contents.{IsImage}
use Rattle.im_driver.specs.Compiled.{IsCompiled, IsCompiledFrom, IsRefused}
use Rattle.im_cmd_lines.specs.Refusals.{Refused, NoMemory}
use Rattle.im_cmd.specs.Files.{ReadsFile, StoresText}
use Rattle.im_cmd.specs.Builds.{Builds, RefusesBuild, Compiles, RefusesReading, reading_failed, reading_too_long, reading_starved, RefusesSource, source_unreadable, source_too_long, IsBuilt, IsFaulty, built_with, source_limit, source_faulty, source_starved, uncompiled, unwritable}
use Rattle.im_cmd.specs.Stages.{IsBuiltFrom, CompilesFrom, RefusesText, text_faulty, text_starved, RefusesStore, store_failed, store_starved}
use Rattle.im_cmd.proofs.Refusing.{unchanged_read, unchanged_then}

pub gap_option : (max_gap : Option ℕ) → IfSome max_gap (λ gap. (160 ≤ gap) × (gap ≤ 1000000)) → IsGapOption max_gap
gap_option None h = tt
gap_option (Some gap) h = h

pub faulty : (text : List ℕ) (fault : SourceFault) → (fault ≡ OutOfMemory → ⊥) → IsRefused text fault → IsFaulty text fault
faulty text (Line place why) other h = h
faulty text (Limit quantity count) other h = h
faulty text OutOfMemory other h = absurd (other refl)

pub built_from : (text : List ℕ) (building : BuildOptions) (prog : Prog) (built : Built) → IsImage built.image → IsCompiledFrom text (built_with building) prog built → IsBuiltFrom text building prog built
built_from text building prog built is h = record { is_built = record { is_image = is; compiled = h.compiled }; is_made = h.is_made; is_source = h.is_source }

pub is_built_of : (text : List ℕ) (building : BuildOptions) (built : Built) → IsImage built.image → IsCompiled text (built_with building) built → IsBuilt text building built
is_built_of text building built is h = record { is_image = is; compiled = h }

pub compiles_of : (source text : List ℕ) (building : BuildOptions) (built : Built) (a b : ShelfState) → ReadsFile source text source_limit a b → IsBuilt text building built → Compiles source building built a b
compiles_of source text building built a b read h = record { text = text; reads = read; is_built = h }

pub compiles_from : (source text : List ℕ) (building : BuildOptions) (prog : Prog) (built : Built) (a b : ShelfState) → ReadsFile source text source_limit a b
    → IsBuiltFrom text building prog built → CompilesFrom source building prog built a b
compiles_from source text building prog built a b read h =
    record { compiles = record { text = text; reads = read; is_built = h.is_built }; is_made = h.is_made; is_source = h.is_source }

pub text_refused : (source text : List ℕ) (a b : ShelfState) → ReadsFile source text source_limit a b → (r : Refused) → RefusesText source text r → RefusesSource source a b r
text_refused source text a b read r (text_faulty fault h) = source_faulty text fault read h
text_refused source text a b read r text_starved = source_starved (unchanged_read source text source_limit a b read)

pub unread : (source : List ℕ) (a b : ShelfState) (r : Refused) → RefusesReading source a b r → RefusesSource source a b r
unread source a b r (reading_failed h) = source_unreadable h
unread source a b r (reading_too_long h) = source_too_long h
unread source a b r (reading_starved h) = source_starved h

pub store_refused : (source name : List ℕ) (building : BuildOptions) (built : Built) (a b c : ShelfState) → Compiles source building built a b
    → (r : Refused) → RefusesStore name (image_text built.image) b c r → RefusesBuild source name building a c r
store_refused source name building built a b c told r (store_failed part) = unwritable built b told part
store_refused source name building built a b c told r (store_starved same) = uncompiled NoMemory (source_starved (unchanged_then a b c (unchanged_read source told.text source_limit a b told.reads) same))

pub builds : (source name : List ℕ) (building : BuildOptions) (built : Built) (a b c : ShelfState) → Compiles source building built a b
    → StoresText name (image_text built.image) b c → Builds source name building built a c
builds source name building built a b c told h = record { read = b; compiles = told; stores = h }
