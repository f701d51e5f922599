-- A linked program is what the law of selection asks for.
use Rattle.std.proofs.Common.{◌≡◌, ◌<◌, ℕ, ◌^◌, true, List, length, sym, ap, ◌∙◌, subst, arith}
use Rattle.std.specs.Prelude.{nat_lt, if◌then◌else◌}
use Rattle.std.proofs.lemmas.Bool.Decides.{nat_tests}
use Rattle.im_rv.specs.Steps.{sum_of}
use Rattle.im_rv.specs.Code.{address}
use Rattle.im_rv_reach.specs.Routines.{SavesAt}
use Rattle.im_link.specs.Parts.{first_of, last_of}
use Rattle.im_rtlib.specs.Routines.{stack_label}
use Rattle.im_rtlib_laws.specs.Standing.{StandFrom, distance}
use Rattle.im_rtlib_laws.specs.Laws.{Serves}
use Rattle.im_rtlib_laws.proofs.Assumed.{serves_law}
use Rattle.im_block.specs.declared.unit.Function.{Function}
use Rattle.im_select_relation.specs.Linking.{Linking, runtime}
use Rattle.im_select.specs.Emitted.{entry_label}
use Rattle.im_link_laws.specs.Program.{part_of, start_code}
use Rattle.im_link_laws.specs.Linking.{linking_of, save_of}
use Rattle.im_link_laws.specs.Laws.{LinkedLaw}
use Rattle.im_link_laws.proofs.Runtimes.{code_stands, routines}
use Rattle.im_link_laws.proofs.Functions.{function_at, entry_in}

lands_at : (pc target : ℕ) → pc < 2 ^ 32 → target < 2 ^ 32 → sum_of pc (distance pc target) ≡ target
lands_at pc target p q = omega arith

saved : (m : ℕ) → m < 32 → save_of m ≡ m
saved m h = let t : nat_lt m 32 ≡ true = grind (arith, nat_tests) in ap (λ b. if b then m else stack_label) t

pub linked : LinkedLaw
linked u statics layouts parts program code place image g at size linkable is_linked places loaded objects =
    let fs : List Function = u.functions.items in
    let p : Linking = linking_of fs place code image at size in
    let n : ℕ = part_of (length fs) in
    let rs = routines u statics layouts parts code place image program linkable is_linked places loaded.code_there loaded.words.bytes in
    let serves : Serves (runtime p g) place = serves_law (runtime p g) place rs (omega arith) (omega arith) in
    let last : last_of parts ≡ n = (let c = program.count in omega arith) in
    let at_begin : address (first_of parts n) ≡ code.entry = ap (λ z. address (first_of parts z)) (sym last) ∙ sym is_linked.entry in
    let start : StandFrom image place code.entry (start_code u.main) = subst (λ z. StandFrom image place z (start_code u.main)) at_begin (code_stands image parts code place linkable is_linked places loaded.code_there n (start_code u.main) program.begins) in
    let low : code.entry < 4294967296 = (let a = is_linked.entry in let b = is_linked.inside in let c = is_linked.size in let d = is_linked.fits in omega arith) in
    record {
      functions = λ i f e. function_at u statics layouts parts program code place image g at size linkable is_linked places loaded.code_there objects i f e;
      first = objects.first;
      near = objects.near;
      statics = objects.statics_there;
      initial = objects.initial;
      stack = loaded.stack;
      words = loaded.words;
      silent = loaded.silent;
      input = loaded.input;
      serves = λ service m x z call none argument. (let q = serves.serves service m x z call none argument in (q.done, q.answer));
      saves = λ m h. subst (λ z. SavesAt (runtime p g) (place z)) (sym (saved m h.1)) (serves.saves m h.0 (let q = h.1 in omega arith));
      call = distance code.entry (place (entry_label u.main));
      lands = lands_at code.entry (place (entry_label u.main)) low (places.small (entry_label u.main)) ∙ ap place (sym (entry_in fs u.main program.main));
      begins = start.0;
      told = start.2.0;
      ends = start.2.2.0;
      one = rs.stack_there.0;
      cause = rs.stack_there.2.0;
      stops = rs.stack_there.2.2.0;
    }
