-- Images and memories read from files, and stored in version 2.
use Rattle.std.proofs.Common.{◌≡◌, ◌∙◌, ℕ, List, ap, false, subst, sym, true}
use Rattle.im_io.specs.Shelf.{ShelfState}
use Rattle.im_image.specs.Contents.{ImageValue, IsImage}
use Rattle.im_image.specs.Text.{image_text}
use Rattle.im_image.specs.Upgrade.{upgraded}
use Rattle.im_cmd_lines.specs.Refusals.{Refused, NoMemory}
use Rattle.im_cmd.specs.Files.{ReadsFile, file_starved}
use Rattle.im_cmd.specs.Images.{image_limit}
use Rattle.im_cmd.specs.Upgrades.{IsUpgraded, of_image, is_memory, holds_no_image, holds_no_memory, RefusesUpgrade, upgrade_unread, upgrade_faulty}
use Rattle.im_cmd.specs.Stages.{RefusesImageText, faulty_image, image_starved, RefusesMemory, faulty_memory, memory_starved, RefusesContent, neither_held, content_starved}
use Rattle.im_cmd.proofs.Refusing.{unchanged_read}

pub image_new : (text new_text : List ℕ) (image again : ImageValue) → IsImage image → text ≡ image_text image → again ≡ upgraded image → new_text ≡ image_text again → IsUpgraded text image.version new_text
image_new text new_text image again is is_text new written = subst (λ (t : List ℕ). IsUpgraded text image.version t) (sym (written ∙ ap image_text new)) (of_image image is is_text)

pub image_unheld : (name text : List ℕ) → is_memory text ≡ false → (r : Refused) → RefusesImageText name text r → RefusesContent name text r
image_unheld name text begins r (faulty_image fault e) = neither_held r (holds_no_image fault begins e)
image_unheld name text begins r image_starved = content_starved

pub memory_unheld : (name text : List ℕ) → is_memory text ≡ true → (r : Refused) → RefusesMemory name text r → RefusesContent name text r
memory_unheld name text begins r (faulty_memory fault e) = neither_held r (holds_no_memory fault begins e)
memory_unheld name text begins r memory_starved = content_starved

pub content_refused : (source target text : List ℕ) (a b : ShelfState) → ReadsFile source text image_limit a b → (r : Refused) → RefusesContent source text r → RefusesUpgrade source target a b r
content_refused source target text a b read r (neither_held s h) = upgrade_faulty text s read h
content_refused source target text a b read r content_starved = upgrade_unread NoMemory (file_starved (unchanged_read source text image_limit a b read))
