use Rattle.std.proofs.Common.{◌≡◌, ◌<◌, ◌+◌, ◌-◌, ◌++◌, ◌∷◌, [], ◌∙◌, Some, length, get_or, refl, sym, ap, subst, arith}
use Rattle.std.specs.Prelude.{slice_get, string_bytes}
use Rattle.std.proofs.lemmas.Iterator.Adapters.{YieldsList-from_vec}
use Rattle.std.proofs.lemmas.Iterator.Consumers.{YieldsList-turn, YieldsList-end}
use Rattle.std.proofs.lemmas.List.{append-nil, length_push}
use Rattle.std.proofs.lemmas.Option.{slice_get-get_or, get_or_from_slice_get}
use Rattle.im_block.specs.declared.unit.Function.{Function}
use Rattle.im_link_laws.specs.Program.{first_label}
use Rattle.im_select_assemble.specs.Assembled.{AddsNamedFunctions}
use Rattle.im_select_assemble.specs.Names.{part_names}
use Rattle.im_select_assemble.proofs.Assembling.{at_turn, label_on, selectable_of, function_part, no_functions, functions_on}
use Rattle.im_select_assemble.proofs.Naming.{named_on}
use Rattle.im_select_assemble.proofs.functions.push_functions.Goals as goal

pub loop-function-init : goal.loop-function-init
loop-function-init c = record {
  count = refl;
  label = (let v = c.in_ok-first_block.ensures.value in let n = c.len.ensures in omega arith);
  added = λ parts holds. (parts, holds, record { adds = no_functions c.args.functions.items c.args.program.now parts; named = sym (append-nil (part_names parts)) });
}

pub push_function-requires : goal.push_function-requires
push_function-requires c =
    let fs = c.args.functions.items in
    let layouts = c.args.program.now.layouts.now in
    let i = c.loop-function.number in
    let f = c.in-Some.function in
    let l = get_or layouts i c.index-program-number.result in
    let a = c.requires.2 in
    let same = ap (length {A = Function}) c.requires.1 in
    let h = c.into_iter-function-iterator.ensures.into_iter_gives in
    let t = YieldsList-turn (YieldsList-from_vec {s = c.into_iter-function-iterator.result} fs h.0 (h.1 ∙ c.args.functions.ok.0)) c.loop-function.yielded c.loop-function.function-iterator c.loop-function.yielded_by c.next.result c.next.new.self f c.in-Some.is c.next.ensures.steps in
    let turn = c.loop-function.invariant.count in
    let e : slice_get fs i ≡ Some f = at_turn fs i (length c.loop-function.yielded) f turn t.0 t.1 in
    let below : i < length layouts = (let k = a.count in let b = t.0 in omega arith) in
    let next : c.in_ok-next.next ≡ first_label fs (i + 1) = label_on fs i f c.loop-function.first_block c.in_ok-next.next e c.loop-function.invariant.label (let v = c.in_ok-next.ensures.value in let n = c.len-in-loop-function.ensures in omega arith) in
    selectable_of c.requires.0 c.args.program.now fs i _ c.loop-function.first_block f l a c.requires.1 e (slice_get-get_or layouts i c.index-program-number.result below)
    (let v = c.in_ok-first_block.ensures.value in let n = c.len.ensures in omega arith)
    c.loop-function.invariant.label (let v = c.in_ok-next.ensures.fits in omega arith)

pub loop-function-preserved : goal.loop-function-preserved
loop-function-preserved c =
    let fs = c.args.functions.items in
    let program = c.args.program.now in
    let layouts = program.layouts.now in
    let i = c.loop-function.number in
    let f = c.in-Some.function in
    let l = get_or layouts i c.index-program-number.result in
    let a = c.requires.2 in
    let same = ap (length {A = Function}) c.requires.1 in
    let h = c.into_iter-function-iterator.ensures.into_iter_gives in
    let t = YieldsList-turn (YieldsList-from_vec {s = c.into_iter-function-iterator.result} fs h.0 (h.1 ∙ c.args.functions.ok.0)) c.loop-function.yielded c.loop-function.function-iterator c.loop-function.yielded_by c.next.result c.next.new.self f c.in-Some.is c.next.ensures.steps in
    let turn = c.loop-function.invariant.count in
    let e : slice_get fs i ≡ Some f = at_turn fs i (length c.loop-function.yielded) f turn t.0 t.1 in
    let below : i < length layouts = (let k = a.count in let b = t.0 in omega arith) in
    let within : i < length program.names.now = (let k = a.names in let b = t.0 in omega arith) in
    let g : slice_get layouts i ≡ Some l = slice_get-get_or layouts i c.index-program-number.result below in
    let n : c.in_ok-first_block.first_block - 64 ≡ length fs = (let v = c.in_ok-first_block.ensures.value in let n = c.len.ensures in omega arith) in
    let label = c.loop-function.invariant.label in
    let next : c.in_ok-next.next ≡ first_label fs (i + 1) = label_on fs i f c.loop-function.first_block c.in_ok-next.next e label (let v = c.in_ok-next.ensures.value in let n = c.len-in-loop-function.ensures in omega arith) in
    let selectable = selectable_of c.requires.0 program fs i _ c.loop-function.first_block f l a c.requires.1 e g n label (let v = c.in_ok-next.ensures.fits in omega arith) in
    record {
      count = (let p = length_push c.loop-function.yielded f in omega arith);
      label = next;
      added = λ parts holds.
          let m = c.loop-function.invariant.added parts holds in
          let s = c.in_ok-push_function.ensures m.0 m.1 in (
            s.0,
            s.1,
            record {
              adds = functions_on fs program i parts m.0 s.0 m.2.adds (function_part fs program i _ c.loop-function.first_block f l m.0 s.0 s.2.code e g n label selectable s.2.selection s.2.adds.adds);
              named = named_on program.names.now i (part_names parts) (part_names m.0) (part_names s.0) within m.2.named (λ name is. s.2.adds.named ∙ ap (λ z. part_names m.0 ++ (z ∷ [])) (c.as_str-name.ensures.value ∙ ap string_bytes (get_or_from_slice_get program.names.now i name c.index-program-number-in-loop-function.result is)));
            },
          );
    }

pub returns-clause-adds : goal.returns-clause-adds
returns-clause-adds c = λ parts holds.
    let fs = c.args.functions.items in
    let h = c.into_iter-function-iterator.ensures.into_iter_gives in
    let end = YieldsList-end (YieldsList-from_vec {s = c.into_iter-function-iterator.result} fs h.0 (h.1 ∙ c.args.functions.ok.0)) c.loop-function.yielded c.loop-function.function-iterator c.loop-function.yielded_by c.next.result c.next.new.self c.in-None.is c.next.ensures.steps in
    let m = c.loop-function.invariant.added parts holds in
    (m.0, m.1, subst (λ n. AddsNamedFunctions fs c.args.program.now n parts m.0) (c.loop-function.invariant.count ∙ end.1) m.2)
