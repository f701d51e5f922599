-- The lines of services.
use Rattle.std.proofs.Common.{◌≡◌, ℕ, zero, suc, ◌<◌, [], ◌∷◌, refl, sym, ap, ◌∙◌, subst}
use Rattle.std.specs.Prelude.{Some, ℤ, pos, slice_get, None}
use Rattle.im_serve.specs.declared.service.Service.{Service}
use Rattle.im_serve.specs.Services.{Reply, serve}
use Rattle.im_store.specs.Objects.{Value, Number, Store}
use Rattle.im_typed.specs.Program.{Prog}
use Rattle.im_typed.specs.Runs.{World, pay}
use Rattle.im_typed.specs.Runs as typed
use Rattle.im_typed.specs.Meaning.{served}
use Rattle.im_block.specs.declared.code.Line.{Line}
use Rattle.im_block.specs.declared.code.Line.TheVariants.{Serve}
use Rattle.im_block.specs.declared.unit.Registers.TheVariants.{Virtual}
use Rattle.im_block.specs.declared.unit.Function.{Function}
use Rattle.im_block.specs.declared.unit.Unit.{Unit as Code}
use Rattle.im_block.specs.Meaning as m
use Rattle.im_block.specs.Meaning.{Setting, State, Goes, Serves, Frame, step, with_register}
use Rattle.im_lower_relation.specs.Codes.{Point, before}
use Rattle.im_lower_relation.specs.Agrees.{Agrees, Home, Mark, at, Does, Came}
use Rattle.im_lower_relation.proofs.Steps.{stepped, finished, does-later}
use Rattle.im_lower_relation.proofs.Uses.{arrived}

module _ (u : Code) (g : Setting) (p : Prog) (home : Home) (fn : Function) (is : slice_get u.functions.items home.function ≡ Some fn) (virtual : fn.registers ≡ Virtual) where
  -- in block code registers are kept where something else is at work
  pub kept-same : (registers : ℕ → Value) → m.kept_by (m.function_at u g home.function) registers ≡ registers
  kept-same registers = ap (λ r. m.kept_by r registers) is ∙ ap (λ k. m.kept k registers) virtual

  -- the state behind a service
  abbrev gone : Home → Mark → Point → (ℕ → Value) → Store → typed.State → m.Next
  gone home n next registers store s = Goes (at home n next registers store s) (Serves ∷ [])

  module _ (to free : ℕ) (n : Mark) (next : Point) (registers : ℕ → Value) (store : Store) where
    -- the state before the line, with a unit of fuel more
    abbrev from_line : Line → typed.State → State
    from_line line s = at home n (before line next) registers store (record { world = s.world; fuel = suc s.fuel })

    module _ (base : ℕ → Value) (kept : (x : ℕ) → x < free → (x ≡ to → ⊥) → registers x ≡ base x) where
      serve-line : (line : Line) (service : Service) (z : ℤ) (s : typed.State) → Agrees s.world.store store
          → step u g (from_line line s) ≡ m.serves u g to service z next.rest s.fuel (from_line line s)
          → Does u g p home next (from_line line s) (Came base to free) (served g.capacity service z s)
      serve-line line service z s agrees e =
          let reply : Reply = serve service g.capacity z s.world.input s.world.output in
          let t : typed.State = record { world = record s.world { input = reply.input; output = reply.output }; fuel = s.fuel } in
          does-later u g p home {c = at home n next (with_register registers to (Number reply.value)) store t}
          (stepped u g (Serves ∷ [])
          (e ∙ ap (λ r. Goes (record (at home n next registers store t) { frame = record (at home n next registers store t).frame { registers = with_register r to (Number reply.value) } }) (Serves ∷ [])) (kept-same registers)))
          (arrived u g p home next n base registers to free (Number reply.value) store t agrees kept)

      -- a service without a parameter
      pub get-line : (service : Service) (capacity : ℕ) (w : World) (fuel : ℕ) → capacity ≡ g.capacity → Agrees w.store store
          → Does u g p home next (at home n (before (Serve to service None) next) registers store (record { world = w; fuel = fuel })) (Came base to free) (pay fuel w (served capacity service (pos 0)))
      get-line service capacity w zero same agrees = record { by = finished u g [] refl }
      get-line service capacity w (suc fuel) same agrees =
          let s : typed.State = record { world = w; fuel = fuel } in
          subst (λ x. Does u g p home next (from_line (Serve to service None) s) (Came base to free) (served x service (pos 0) s)) (sym same)
          (serve-line (Serve to service None) service (pos 0) s agrees refl)

      -- a service with an argument
      pub put-line : (service : Service) (from : ℕ) (z : ℤ) (capacity : ℕ) (w : World) (fuel : ℕ) → capacity ≡ g.capacity → registers from ≡ Number z → Agrees w.store store
          → Does u g p home next (at home n (before (Serve to service (Some from)) next) registers store (record { world = w; fuel = fuel })) (Came base to free) (pay fuel w (served capacity service z))
      put-line service from z capacity w zero same has agrees = record { by = finished u g [] refl }
      put-line service from z capacity w (suc fuel) same has agrees =
          let s : typed.State = record { world = w; fuel = fuel } in
          let line : State = from_line (Serve to service (Some from)) s in
          subst (λ x. Does u g p home next line (Came base to free) (served x service z s)) (sym same)
          (serve-line (Serve to service (Some from)) service z s agrees
          (ap (λ v. m.on_checked (m.number_of v) (λ y. m.serves u g to service y next.rest fuel line)) has))
