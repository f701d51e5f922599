use Rattle.std.proofs.Common.{◌≡◌, ◌≤◌, ◌<◌, ◌+◌, ◌∙◌, List, ap, sym, subst, arith}
use Rattle.std.specs.Prelude.{slice_index_or}
use Rattle.std.proofs.lemmas.Bool.{le-leb, lt-leb}
use Rattle.im_block.specs.Meaning as m
use Rattle.im_eval_store.specs.declared.plan.Plan.{Plan}
use Rattle.im_eval_store.specs.Living.{Holds}
use Rattle.im_eval_machine.specs.Settings.{ArePlans}
use Rattle.im_block_run.specs.Laid.{object_shapes}
use Rattle.im_block_run.specs.Shown.{plain, setting_of}
use Rattle.im_block_run.proofs.Enters.{no-function, no-room, no-entry, has-entered}
use Rattle.im_block_run.proofs.Losing.{got-none, got-some}
use Rattle.im_block_run.proofs.Rows.{layout-of}
use Rattle.im_block_run.proofs.calls.enter.Goals as goal

pub returns-in_default : goal.returns-in_default
returns-in_default c = λ s callers fuel is held begun.
    let u = c.args.code.unit.now in
    let call = c.args.call in
    no-function u (setting_of c.args.code.setting) call.function call.first call.count s.frame.registers callers fuel s
    (got-none u.functions.items c.deref.result.now call.function c.deref.ensures.value c.in_default.ensures.lookup.3)

pub returns-then-depth-code : goal.returns-then-depth-code
returns-then-depth-code c = λ s callers fuel is held begun.
    let u = c.args.code.unit.now in
    let g = setting_of c.args.code.setting in
    let call = c.args.call in
    let f = c.in-Some.function.now in
    let there = got-some u.functions.items c.deref.result.now call.function f c.deref.ensures.value c.in-Some.ensures.lookup.3.0 c.in-Some.ensures.lookup.1 in
    let deep : s.frame.active.depth ≡ c.args.caller.now.depth = ap (λ (x : m.Active). x.depth) is.active in
    let bytes : c.frame_of.result ≡ slice_index_or g.frames call.function 0 = c.frame_of.ensures in
    let past : g.stack < s.frame.active.depth + slice_index_or g.frames call.function 0 = let full = c.if-depth-code.true in omega arith in
    no-room u g call.function call.first call.count s.frame.registers callers fuel s f there c.args.memory.now (lt-leb _ g.stack past)
    (subst (λ n. Holds c.args.memory.now n (plain s.store)) (sym begun) held)

-- the function, and what its frame takes
pub returns-in_default-get : goal.returns-in_default-get
returns-in_default-get c = λ s callers fuel is held begun.
    let u = c.args.code.unit.now in
    let g = setting_of c.args.code.setting in
    let call = c.args.call in
    let f = c.in-Some.function.now in
    let there = got-some u.functions.items c.deref.result.now call.function f c.deref.ensures.value c.in-Some.ensures.lookup.3.0 c.in-Some.ensures.lookup.1 in
    let deep : s.frame.active.depth ≡ c.args.caller.now.depth = ap (λ (x : m.Active). x.depth) is.active in
    let bytes : c.frame_of.result ≡ slice_index_or g.frames call.function 0 = c.frame_of.ensures in
    let fits : s.frame.active.depth + slice_index_or g.frames call.function 0 ≤ g.stack = let full = c.if-depth-code.false in omega arith in
    no-entry u g call.function call.first call.count s.frame.registers callers fuel s f there (le-leb _ g.stack fits)
    (got-none f.blocks.items c.deref-2.result.now f.entry c.deref-2.ensures.value c.in_default-get.ensures.lookup.3)

pub begin-requires : goal.begin-requires
begin-requires c =
    let u = c.args.code.unit.now in
    let all = c.args.code.layouts.now.functions.items in
    let k = c.args.call.function in
    let f = c.in-Some.function.now in
    let v = c.in-Some-get-2.plans.now in
    let there = got-some u.functions.items c.deref.result.now k f c.deref.ensures.value c.in-Some.ensures.lookup.3.0 c.in-Some.ensures.lookup.1 in
    let laid = got-some all c.deref-3.result.now k v c.deref-3.ensures.value c.in-Some-get-2.ensures.lookup.3.0 c.in-Some-get-2.ensures.lookup.1 in
    let plans = layout-of u.functions.items all k f v c.requires.functions there laid in
    subst (λ (ps : List Plan). ArePlans (object_shapes f.objects.items) ps) (sym c.deref-4.ensures.value) plans

pub returns : goal.returns
returns c = λ s callers fuel is held begun.
    let u = c.args.code.unit.now in
    let g = setting_of c.args.code.setting in
    let call = c.args.call in
    let f = c.in-Some.function.now in
    let block = c.in-Some-get.block.now in
    let number = c.in-Some-checked_add.number in
    let depth = c.args.caller.now.depth + c.frame_of.result in
    let there = got-some u.functions.items c.deref.result.now call.function f c.deref.ensures.value c.in-Some.ensures.lookup.3.0 c.in-Some.ensures.lookup.1 in
    let entry = got-some f.blocks.items c.deref-2.result.now f.entry block c.deref-2.ensures.value c.in-Some-get.ensures.lookup.3.0 c.in-Some-get.ensures.lookup.1 in
    let deep : s.frame.active.depth ≡ c.args.caller.now.depth = ap (λ (x : m.Active). x.depth) is.active in
    let bytes : c.frame_of.result ≡ slice_index_or g.frames call.function 0 = c.frame_of.ensures in
    let fits : s.frame.active.depth + slice_index_or g.frames call.function 0 ≤ g.stack = let full = c.if-depth-code.false in omega arith in
    let counted = c.in-Some-checked_add.ensures in
    let next : s.begun + 1 ≡ number = omega arith in
    let down : s.frame.active.depth + slice_index_or g.frames call.function 0 ≡ depth = omega arith in
    let act : m.next_active u g call.function s ≡ record { number = number; depth = depth } =
    ap (λ n. let x : m.Active = record { number = n; depth = s.frame.active.depth + slice_index_or g.frames call.function 0 } in x) next
    ∙ ap (λ n. let x : m.Active = record { number = number; depth = n } in x) down in
    let later : c.args.begun < number = omega arith in
    has-entered u g call.function call.first call.count s.frame.registers callers fuel s f there (le-leb _ g.stack fits) block c.in_ok-frame.frame c.begin.new.memory number depth entry act
    (c.in_ok-frame.ensures s.frame is) (c.in_ok-begin.ensures c.args.begun s.store later held)
