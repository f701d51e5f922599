-- Which part the routine of a service is.
use Rattle.std.proofs.Common.{◌≡◌, ℕ, zero, suc, List, refl, subst, arith}
use Rattle.im_rv.specs.declared.code.Part.{Part}
use Rattle.im_serve.specs.declared.service.Service.{Service}
use Rattle.im_serve.specs.declared.service.Service.TheVariants.{Getchar, Putchar}
use Rattle.im_rtlib.specs.Routines.{service_label, routine}
use Rattle.im_block.specs.declared.unit.Unit.{Unit as Code}
use Rattle.im_select.specs.Selects.{HasLabel}
use Rattle.im_frame.specs.declared.layout.Layout.{Layout}
use Rattle.im_link_laws.specs.Program.{HasCode, IsProgram, routine_part, part_of}

pub routine_there : (u : Code) (statics : List ℕ) (layouts : List Layout) (parts : List Part) → IsProgram u statics layouts parts → (service : Service) → HasCode parts (routine_part service) (routine service)
routine_there u statics layouts parts program Getchar = program.gets
routine_there u statics layouts parts program Putchar = program.puts

-- it begins with its label
pub routine_begins : (service : Service) → HasLabel (routine service) 0 (service_label service)
routine_begins Getchar = record { line = _; there = refl; is = refl }
routine_begins Putchar = record { line = _; there = refl; is = refl }

-- behind recovery and the checkpoint stand the routines of the services, the end for an exhausted stack, the functions and the lines
-- that begin
pub data PartAt : ℕ → Type 0 where
  ServicePart : (service : Service) → PartAt (routine_part service)
  StackPart : PartAt 4
  LaterPart : (i : ℕ) → PartAt (part_of i)

pub part_at : (p : ℕ) → PartAt (suc (suc p))
part_at zero = ServicePart Getchar
part_at (suc zero) = ServicePart Putchar
part_at (suc (suc zero)) = StackPart
part_at (suc (suc (suc i))) = let q : part_of i ≡ suc (suc (suc (suc (suc i)))) = omega arith in subst PartAt q (LaterPart i)
