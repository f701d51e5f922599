-- Where the run of a well-typed program ended, its statics live; its input is bytes.
use Rattle.std.proofs.Common.{◌<◌, sym, subst, ℕ, suc, List, [], ◌∷◌, take}
use Rattle.std.specs.Prelude.{Option, Some, None, slice_get, slice_index}
use Rattle.im_store.specs.Statics.{StaticObject}
use Rattle.im_typed.specs.Program.{Func}
use Rattle.im_typed.specs.Runs.{World, Fails, Starves, Exhausts, Answer, Gives, Stops}
use Rattle.im_typed.specs.Programs.{Setting, calls_of, run_of_main, start}
use Rattle.im_typed.specs.Sound.{ArgumentsFit, IsRightAt, IsSoundWorld}
use Rattle.im_typed.specs.Typing.{Each, IsMain, IsWellTyped, parameters}
use Rattle.im_typed.proofs.SoundRuns.{right-called, right-calls, start-sound}
use Rattle.im_eval_machine.specs.Endings.{EndLive}

kept : {A : Type 0} (statics : List StaticObject) (w : World) (P : World → A → Type 0) (r : Answer A) → IsRightAt statics w P r → EndLive statics r
kept statics w P (Gives a t) h = h.0.store.live
kept statics w P (Stops (Fails why)) h = tt
kept statics w P (Stops (Starves output)) h = tt
kept statics w P (Stops (Exhausts output store)) h = h.1.live

main-arguments : (r : Option Func) (w : World) → IsMain r → ArgumentsFit (parameters r) w []
main-arguments None w h = absurd h
main-arguments (Some f) w h = subst (λ (n : ℕ). ArgumentsFit (take n f.objects) w []) (sym h.0) tt

pub statics_live : (g : Setting) → IsWellTyped g.prog → (input : List ℕ) (fuel : ℕ) → Each (λ byte. byte < 256) input → EndLive g.prog.statics (run_of_main g fuel input fuel)
statics_live g typed input fuel bytes =
    let s = start g input fuel in
    let sane : IsSoundWorld g.prog.statics s.world = record { store = start-sound g.prog.statics typed.statics; input = bytes } in
    let right = right-called g typed (calls_of g fuel) fuel g.prog.main [] s (right-calls g typed fuel) sane (main-arguments (slice_get g.prog.funcs g.prog.main) s.world typed.main) in
    kept g.prog.statics s.world _ (run_of_main g fuel input fuel) right.by

-- the bytes that a program reads
pub each-byte : (xs : List ℕ) → ((i : ℕ) → slice_index xs i < 256) → Each (λ (byte : ℕ). byte < 256) xs
each-byte [] h = tt
each-byte (x ∷ xs) h = (h 0, each-byte xs (λ i. h (suc i)))
