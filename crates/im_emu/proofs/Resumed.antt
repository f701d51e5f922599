-- What a memory file's text gives back.
use Rattle.std.proofs.Common.{◌≡◌, ℕ, List, Option, None, Result, Ok, Err, refl, ap, ◌∙◌}
use Rattle.std.specs.Prelude.{IfOk, IfErr}
use Rattle.im_mem.specs.Memory.{Mem, view}
use Rattle.im_image.specs.declared.version.Version.{Version}
use Rattle.im_image.specs.declared.form.Form.{Form}
use Rattle.im_image.specs.Contents.{ImageValue}
use Rattle.im_mem_file.specs.declared.fault.MemoryFault.{MemoryFault}
use Rattle.im_mem_file.specs.declared.fault.MemoryFault.TheVariants.{ShortMemory, BadMagic, BadVersion, BadForm, BadPages, BadPage, Trailing, OutOfMemory}
use Rattle.im_mem_file.specs.Text.{MemoryText}
use Rattle.im_mem_file.specs.Faults.{fault_of, memory_at, IsFaultOf}
use Rattle.im_mem_file.proofs.Again.{memory_again}
use Rattle.im_device.specs.Periods.{fresh}
use Rattle.im_emu.specs.State.{Held, device_of}
use Rattle.im_emu.specs.Resume.{IsResumed, Resumes}

only_memory : (fault : MemoryFault) (found : Option MemoryFault) → found ≡ None → IsFaultOf fault found → fault ≡ OutOfMemory
only_memory (ShortMemory at) found e h = absurd cc
only_memory BadMagic found e h = absurd cc
only_memory (BadVersion version) found e h = absurd cc
only_memory (BadForm form) found e h = absurd cc
only_memory (BadPages count) found e h = absurd cc
only_memory (BadPage number) found e h = absurd cc
only_memory (Trailing at) found e h = absurd cc
only_memory OutOfMemory found e h = refl

pub resumes : (image : ImageValue) (text : List ℕ) (r : Result (Held (List ℕ)) MemoryFault) (version : Version) (form : Form) (m : Mem) → IfOk r (λ machine. device_of view machine ≡ fresh (memory_at text)) → IfOk r (λ machine. IsResumed image text machine)
    → IfErr r (λ fault. IsFaultOf fault (fault_of text)) → MemoryText text version form m → Resumes r form m
resumes image text (Ok machine) version form m device has wrong is =
    let says = memory_again text version form m is in
    record { device_is = device ∙ ap fresh says.memory_is; form_is = has.form ∙ says.form_is; refused = tt }
resumes image text (Err fault) version form m device has wrong is =
    let says = memory_again text version form m is in
    record { device_is = tt; form_is = tt; refused = only_memory fault (fault_of text) says.no_fault wrong }
