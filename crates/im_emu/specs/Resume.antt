-- A machine that goes on from a memory file.
use Rattle.std.specs.Prelude.{◌≡◌, ℕ, List, Result, IfOk, IfErr}
use Rattle.im_mem.specs.Memory.{Mem, view}
use Rattle.im_image.specs.declared.form.Form.{Form}
use Rattle.im_image.specs.Contents.{ImageValue}
use Rattle.im_mem_file.specs.declared.fault.MemoryFault.{MemoryFault}
use Rattle.im_mem_file.specs.declared.fault.MemoryFault.TheVariants.{OutOfMemory}
use Rattle.im_mem_file.specs.Faults.{form_at}
use Rattle.im_device.specs.Periods.{fresh}
use Rattle.im_emu.specs.State.{Held, device_of}

-- beside the memory it has the image's version and objects, and the file's form
pub record IsResumed {M : Type 0} (image : ImageValue) (text : List ℕ) (h : Held M) : Type 0 where
  pub version : h.version ≡ image.version
  pub form : h.form ≡ form_at text
  pub objects : h.objects ≡ image.objects

-- the machine has this memory, on which nothing was run, in this form; only want of memory is a refusal
pub record Resumes (result : Result (Held (List ℕ)) MemoryFault) (form : Form) (m : Mem) : Type 0 where
  pub device_is : IfOk result (λ machine. device_of view machine ≡ fresh m)
  pub form_is : IfOk result (λ machine. machine.form ≡ form)
  pub refused : IfErr result (λ fault. fault ≡ OutOfMemory)
