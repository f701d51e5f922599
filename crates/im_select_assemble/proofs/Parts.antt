-- Lists of parts as they grow.
use Rattle.std.proofs.Common.{◌≡◌, ℕ, ◌+◌, List, [], ◌∷◌, ◌++◌, Some, map, length, refl, ap, ◌∙◌, length-append, arith}
use Rattle.std.specs.Prelude.{slice_get}
use Rattle.std.proofs.lemmas.Option.{slice_get_within}
use Rattle.im_rv.specs.declared.code.Line.{Line}
use Rattle.im_rv.specs.declared.code.Part.{Part}
use Rattle.im_rv.specs.Lines.{CodeLine, code_line, code_lines, plain_line}
use Rattle.im_link.proofs.Joining.{get_kept, get_behind}
use Rattle.im_ckpt.specs.Recovery.{recovery}
use Rattle.im_ckpt.specs.Checkpoint.{checkpoint_code}
use Rattle.im_rtlib.specs.Routines.{getchar, putchar, stack}
use Rattle.im_link_laws.specs.Program.{HasCode}
use Rattle.im_select_assemble.specs.Assembled.{Adds, IsRuntime}

pub kept : (old new more : List Part) (q : ℕ) (part : Part) → new ≡ old ++ more → slice_get old q ≡ Some part → slice_get new q ≡ Some part
kept old new more q part e g = ap (λ z. slice_get z q) e ∙ get_kept old more q (slice_get_within old q part g) ∙ g

pub newest : (old new : List Part) (part : Part) (q : ℕ) → new ≡ old ++ part ∷ [] → length old ≡ q → slice_get new q ≡ Some part
newest old new part q e l = ap (λ z. slice_get z q) e ∙ get_behind old (part ∷ []) q 0 (omega arith)

pub longer : (old new : List Part) (part : Part) → new ≡ old ++ part ∷ [] → length new ≡ length old + 1
longer old new part e = ap (length {A = Part}) e ∙ length-append old (part ∷ [])

pub code_kept : (old new : List Part) (p : ℕ) (code : List CodeLine) → ((q : ℕ) (part : Part) → slice_get old q ≡ Some part → slice_get new q ≡ Some part) → HasCode old p code → HasCode new p code
code_kept old new p code k h = record { part = h.part; is_part = k p h.part h.is_part; lines = h.lines }

pub code_new : (old new : List Part) (p : ℕ) (code : List CodeLine) → Adds old new code → length old ≡ p → HasCode new p code
code_new old new p code a l = record { part = a.part; is_part = newest old new a.part p a.added l; lines = a.lines }

pub adds_kept : (old new : List Part) (code : List CodeLine) → Adds old new code → (q : ℕ) (part : Part) → slice_get old q ≡ Some part → slice_get new q ≡ Some part
adds_kept old new code a q part g = kept old new (a.part ∷ []) q part a.added g

pub runtime_of : (a b c d e f : List Part) → a ≡ [] → Adds a b (map plain_line recovery) → Adds b c checkpoint_code → Adds c d getchar → Adds d e putchar → Adds e f stack → IsRuntime f
runtime_of a b c d e f none r k g p s =
    let la : length a ≡ 0 = ap (length {A = Part}) none in
    let lb = longer a b r.part r.added in
    let lc = longer b c k.part k.added in
    let ld = longer c d g.part g.added in
    let le = longer d e p.part p.added in
    let lf = longer e f s.part s.added in
    let kf = adds_kept e f stack s in
    let ke = adds_kept d e putchar p in
    let kd = adds_kept c d getchar g in
    let kc = adds_kept b c checkpoint_code k in
    record {
      count = omega arith;
      recovers = code_kept e f 0 (map plain_line recovery) kf (code_kept d e 0 (map plain_line recovery) ke (code_kept c d 0 (map plain_line recovery) kd (code_kept b c 0 (map plain_line recovery) kc (code_new a b 0 (map plain_line recovery) r la))));
      saves = code_kept e f 1 checkpoint_code kf (code_kept d e 1 checkpoint_code ke (code_kept c d 1 checkpoint_code kd (code_new b c 1 checkpoint_code k (omega arith))));
      gets = code_kept e f 2 getchar kf (code_kept d e 2 getchar ke (code_new c d 2 getchar g (omega arith)));
      puts = code_kept e f 3 putchar kf (code_new d e 3 putchar p (omega arith));
      stops = code_new e f 4 stack s (omega arith);
    }

pub lines_append : (xs ys : List Line) → code_lines (xs ++ ys) ≡ code_lines xs ++ code_lines ys
lines_append [] ys = refl
lines_append (x ∷ xs) ys = ap (λ z. code_line x ∷ z) (lines_append xs ys)
