-- Two runs over a saved memory.
use Rattle.std.proofs.Common.{◌≡◌, ◌∙◌, ℕ, List, ◌++◌, Bool, Option, Some, None, ap, cond, refl, subst, sym}
use Rattle.std.proofs.lemmas.Slice.Eq.{bytes_eq-Decides}
use Rattle.im_io.specs.Shelf.{Files, ShelfState, Told, WhereTold}
use Rattle.im_io.specs.Whole.{HasWhole, HoldsText}
use Rattle.im_mem.specs.Memory.{Mem}
use Rattle.im_rv.specs.declared.step.Went.{Went}
use Rattle.im_rv.specs.declared.step.Went.TheVariants.{On}
use Rattle.im_image.specs.declared.version.Version.TheVariants.{Two}
use Rattle.im_image.specs.Contents.{ImageValue}
use Rattle.im_mem_file.specs.Faults.{memory_at}
use Rattle.im_mem_file.proofs.Again.{memory_again}
use Rattle.im_device.specs.Run.{unless_over}
use Rattle.im_device.specs.Periods.{Device, fresh, power}
use Rattle.im_device.specs.Laws.{behind, on_memory_of}
use Rattle.im_device.proofs.Runs.{split}
use Rattle.im_cmd_words.specs.Named.{Options}
use Rattle.im_cmd.specs.Memories.{Saves, StoresMemory, memory_limit}
use Rattle.im_cmd.specs.Runs.{RunsImage, RunsAndSaves}
use Rattle.im_cmd.specs.Laws.{JoinedLaw, SameEnd}

-- what is read under a name is the text that was stored there
told_text : (name text bytes : List ℕ) (limit : ℕ) (a b c : Option Told) (t : Told) → b ≡ Some t → WhereTold a b (HoldsText name text)
    → WhereTold b c (HasWhole name bytes limit) → bytes ≡ text
told_text name text bytes limit a None c t e h k = let bad : None ≡ Some t = e in cc
told_text name text bytes limit None (Some s) c t e h k = absurd h
told_text name text bytes limit (Some x) (Some s) None t e h k = absurd k
told_text name text bytes limit (Some x) (Some s) (Some y) t e h k =
    let there : Some bytes ≡ Some text =
    sym k.whole ∙ ap (λ (files : Files). files name) h.files ∙ ap (λ (b : Bool). cond b (Some text) (x.files name)) ((bytes_eq-Decides name name).1 refl) in
    cc

pub joined : JoinedLaw
joined image again options later resume name left ended old between new told is_told first named on second =
    let saved : StoresMemory name image.form left.mem first.ran between =
    subst (λ (n : Option (List ℕ)). Saves n image.form left.mem first.ran between) named first.saves in
    let same : second.begins.text ≡ saved.text =
    told_text name saved.text second.begins.text memory_limit first.ran.told between.told second.begun.told told is_told saved.stores.files second.begins.reads.files in
    let says = memory_again saved.text Two image.form left.mem saved.is_text in
    let began : second.first ≡ left.mem = second.begins.memory ∙ ap memory_at same ∙ says.memory_is in
    let rest = power second.periods (fresh left.mem) in
    let ends : ended ≡ rest = second.run ∙ ap (λ (m : Mem). power second.periods (fresh m)) began in
    let whole : power (first.runs.periods ++ second.periods) (fresh first.runs.first) ≡ behind left rest =
    split first.runs.periods second.periods first.runs.first
    ∙ ap (λ (d : Device). unless_over (on_memory_of second.periods) d.went d) (sym first.runs.run)
    ∙ ap (λ (w : Went). unless_over (on_memory_of second.periods) w left) on in
    record {
      went = ap (λ (d : Device). d.went) ends ∙ sym (ap (λ (d : Device). d.went) whole);
      mem = ap (λ (d : Device). d.mem) ends ∙ sym (ap (λ (d : Device). d.mem) whole);
    }
