-- The frames that are told are those of the source's functions, and have no more bytes than they may need.
use Rattle.std.proofs.Common.{◌≡◌, ◌≤◌, ℕ, zero, suc, List, [], ◌∷◌, map, length, Some, refl, sym, ap, ◌∙◌, subst}
use Rattle.std.specs.Prelude.{option_map, slice_get, slice_index_or}
use Rattle.std.proofs.lemmas.List.{length-map}
use Rattle.std.proofs.lemmas.Option.{slice_get-map}
use Rattle.im_typed.specs.Program as p
use Rattle.im_typed.specs.Counts.{func_need}
use Rattle.im_typed.specs.declared.frames.Frame.{Frame}
use Rattle.im_typed.specs.declared.program.Func.{Func}
use Rattle.im_typed.specs.declared.program.Prog.{Prog}
use Rattle.im_typed.specs.ProgramOf.{func_of, program_of}
use Rattle.im_compile.specs.declared.options.Options.{Options}
use Rattle.im_compile.specs.declared.built.Built.{Built}
use Rattle.im_compile.specs.Built.{IsBuilt}
use Rattle.im_keeps_built.specs.Laws.{frames_of}
use Rattle.im_driver.specs.Compiled.{AreFrames, IsFrameOf}

-- lists that are mapped to the same list
at_same : {X Y Z : Type 0} (u : X → Z) (v : Y → Z) (xs : List X) (ys : List Y) (i : ℕ) (x : X) → map u xs ≡ map v ys → slice_get xs i ≡ Some x → (y : Y) × (slice_get ys i ≡ Some y) × (v y ≡ u x)
at_same u v [] ys i x e at = cc
at_same u v (a ∷ xs) [] i x e at = cc
at_same u v (a ∷ xs) (b ∷ ys) zero x e at =
    let one : a ≡ x = cc in
    let same : v b ≡ u a = cc in
    (b, refl, same ∙ ap u one)
at_same u v (a ∷ xs) (b ∷ ys) (suc i) x e at = let rest : map u xs ≡ map v ys = cc in at_same u v xs ys i x rest at

size_at : (frames : List Frame) (i : ℕ) (frame : Frame) → slice_get frames i ≡ Some frame → slice_index_or (map (λ (f : Frame). f.size) frames) i 0 ≡ frame.size
size_at [] i frame e = cc
size_at (f ∷ frames) zero frame e = let one : f ≡ frame = cc in ap (λ (g : Frame). g.size) one
size_at (f ∷ frames) (suc i) frame e = size_at frames i frame e

module _ (prog : Prog) (options : Options) (built : Built) (b : IsBuilt prog options built)
    (fit : (i need : ℕ) → slice_get (map (λ (f : p.Func). func_need f) (program_of prog).funcs) i ≡ Some need → slice_index_or (frames_of built) i 0 ≤ need) where
  frame_of : (i : ℕ) (f : p.Func) (frame : Frame) → slice_get (program_of prog).funcs i ≡ Some f → slice_get built.frames.frames.items i ≡ Some frame → IsFrameOf f frame
  frame_of i f frame is told =
      let named = at_same (λ (x : Frame). x.name.items) (λ (g : Func). g.name.items) built.frames.frames.items prog.funcs.items i frame b.frames.names told in
      let made : Some (func_of prog.types named.0) ≡ Some f =
      sym (slice_get-map (func_of prog.types) prog.funcs.items i ∙ ap (option_map (func_of prog.types)) named.1) ∙ is in
      let same : func_of prog.types named.0 ≡ f = cc in
      let need : slice_get (map (λ (g : p.Func). func_need g) (program_of prog).funcs) i ≡ Some (func_need f) =
      slice_get-map (λ (g : p.Func). func_need g) (program_of prog).funcs i ∙ ap (option_map (λ (g : p.Func). func_need g)) is in
      record {
        name = sym named.2 ∙ ap (λ (g : p.Func). g.name) same;
        need = subst (λ n. n ≤ func_need f) (size_at built.frames.frames.items i frame told) (fit i (func_need f) need);
      }

  pub frames : AreFrames (program_of prog).funcs built.frames.frames.items
  frames = record {
    count = sym (length-map {A = Frame} built.frames.frames.items (λ (x : Frame). x.name.items)) ∙ ap (λ ns. length ns) b.frames.names
        ∙ length-map {A = Func} prog.funcs.items (λ (g : Func). g.name.items) ∙ sym (length-map {A = Func} prog.funcs.items (func_of prog.types));
    each = frame_of;
  }
