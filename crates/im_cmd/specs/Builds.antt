-- A source is compiled, and its image stored.
use Rattle.std.specs.Prelude.{ℕ, ◌+◌, List}
use Rattle.im_io.specs.Shelf.{ShelfState}
use Rattle.im_image.specs.Contents.{IsImage}
use Rattle.im_image.specs.Text.{image_text}
use Rattle.im_cmd_lines.specs.Refusals.{Refused, CannotRead, FileTooLong, BadSource, CannotWrite, NoMemory}
use Rattle.im_fault.specs.declared.fault.Quantity.TheVariants.{Source}
use Rattle.im_fault.specs.declared.fault.SourceFault.{SourceFault}
use Rattle.im_fault.specs.declared.fault.SourceFault.TheVariants.{Limit, OutOfMemory}
use Rattle.im_compile.specs.declared.options.Options.{Options as BuildsWith}
use Rattle.im_compile.specs.declared.built.Built.{Built}
use Rattle.im_cmd_words.specs.declared.command.BuildOptions.{BuildOptions}
use Rattle.im_driver.specs.Compiled.{IsCompiled, IsRefused}
use Rattle.im_cmd.specs.Files.{Unchanged, ReadsFile, RefusesFile, StoresText, StoresPart}

-- bytes of a source
abbrev pub source_limit : ℕ
source_limit = 4194304

-- what is compiled with: the bytes of stack and of output, and the longest gap that is asked for, as the words give them
abbrev pub built_with : BuildOptions → BuildsWith
built_with building = record { stack = building.stack; out_cap = building.out_cap; max_gap = building.max_gap }

-- The image is one, and keeps the meaning of the text's program with so many bytes of stack and of output, with the frames
-- and the longest gap that are told: the headline.
pub record IsBuilt (text : List ℕ) (building : BuildOptions) (built : Built) : Type 0 where
  pub is_image : IsImage built.image
  pub compiled : IsCompiled text (built_with building) built

-- the source was read whole and its text compiled; nothing was stored
pub record Compiles (source : List ℕ) (building : BuildOptions) (built : Built) (old new : ShelfState) : Type 0 where
  pub text : List ℕ
  pub reads : ReadsFile source text source_limit old new
  pub is_built : IsBuilt text building built

-- and then the image was stored
pub record Builds (source image_name : List ℕ) (building : BuildOptions) (built : Built) (old new : ShelfState) : Type 0 where
  pub read : ShelfState
  pub compiles : Compiles source building built old read
  pub stores : StoresText image_name (image_text built.image) read new

-- what is wrong with a text; want of memory is nothing of the text's
abbrev pub IsFaulty : List ℕ → SourceFault → Type 0
IsFaulty text OutOfMemory = ⊥
IsFaulty text fault = IsRefused text fault

-- why a source isn't compiled
pub data RefusesSource (source : List ℕ) (old new : ShelfState) : Refused → Type 0 where
  source_unreadable : RefusesFile source source_limit old new (CannotRead source) → RefusesSource source old new (CannotRead source)
  source_too_long : RefusesFile source source_limit old new (FileTooLong source source_limit)
      → RefusesSource source old new (BadSource source (Limit Source (source_limit + 1)))
  source_faulty : (text : List ℕ) (fault : SourceFault) → ReadsFile source text source_limit old new → IsFaulty text fault
      → RefusesSource source old new (BadSource source fault)
  source_starved : Unchanged old new → RefusesSource source old new NoMemory

-- why a source can't be read
pub data RefusesReading (source : List ℕ) (old new : ShelfState) : Refused → Type 0 where
  reading_failed : RefusesFile source source_limit old new (CannotRead source) → RefusesReading source old new (CannotRead source)
  reading_too_long : RefusesFile source source_limit old new (FileTooLong source source_limit)
      → RefusesReading source old new (BadSource source (Limit Source (source_limit + 1)))
  reading_starved : Unchanged old new → RefusesReading source old new NoMemory

-- why a source isn't built: it isn't compiled, or its image can't be stored
pub data RefusesBuild (source image_name : List ℕ) (building : BuildOptions) (old new : ShelfState) : Refused → Type 0 where
  uncompiled : (r : Refused) → RefusesSource source old new r → RefusesBuild source image_name building old new r
  unwritable : (built : Built) (read : ShelfState) → Compiles source building built old read → StoresPart image_name (image_text built.image) read new
      → RefusesBuild source image_name building old new (CannotWrite image_name)
