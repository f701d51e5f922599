-- One stage after another: what both leave outside.
use Rattle.std.proofs.Common.{ℕ, List, Option, Some, None, refl, ◌∙◌}
use Rattle.im_io.specs.Shelf.{ShelfState, Told, WhereTold, SameFiles}
use Rattle.im_io.specs.Whole.{HasWhole}
use Rattle.im_io.proofs.Files.{told_then, told_as, same_counts}
use Rattle.im_cmd.specs.Files.{Unchanged, ReadsFile}

same_files : (x y z : Told) → SameFiles x y → SameFiles y z → SameFiles x z
same_files x y z h k = record { files = k.files ∙ h.files }

told_same : (told : Option Told) → WhereTold told told SameFiles
told_same None = tt
told_same (Some x) = record { files = refl }

pub unchanged_none : (a : ShelfState) → Unchanged a a
unchanged_none a = record { counts = record { read_faults = refl; write_faults = refl; absences = refl }; files = told_same a.told }

pub unchanged_then : (a b c : ShelfState) → Unchanged a b → Unchanged b c → Unchanged a c
unchanged_then a b c h k = record { counts = same_counts a b c h.counts k.counts; files = told_then SameFiles SameFiles SameFiles a.told b.told c.told same_files h.files k.files }

same_whole : (name bytes : List ℕ) (limit : ℕ) (x y : Told) → HasWhole name bytes limit x y → SameFiles x y
same_whole name bytes limit x y h = record { files = h.files }

-- a file that was read
pub unchanged_read : (name bytes : List ℕ) (limit : ℕ) (a b : ShelfState) → ReadsFile name bytes limit a b → Unchanged a b
unchanged_read name bytes limit a b h = record { counts = h.counts; files = told_as (HasWhole name bytes limit) SameFiles a.told b.told (same_whole name bytes limit) h.files }
