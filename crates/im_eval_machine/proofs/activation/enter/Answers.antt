use Rattle.std.proofs.Common.{◌≡◌, ◌+◌, ◌<◌, ◌≤◌, ◌∙◌, List, length, map, take, refl, sym, ap, subst, slice_index_or}
use Rattle.std.specs.Prelude.{Some, slice_get, sum_by}
use Rattle.std.proofs.lemmas.Option.{slice_get_read}
use Rattle.im_typed.specs.Program.{Func}
use Rattle.im_typed.specs.ProgramOf.{program_of}
use Rattle.im_typed.specs.Programs.{first_object}
use Rattle.im_eval_machine.specs.declared.code.Layout.{Layout}
use Rattle.im_eval_machine.specs.Settings.{setting_of}
use Rattle.im_eval_machine.specs.Shown.{shown_all}
use Rattle.im_eval_machine.specs.Small.{small_func, small_static}
use Rattle.im_eval_machine.proofs.EnterSteps.{no-function, the-function, misses, is-full, has-room}
use Rattle.im_eval_machine.proofs.Rows.{got-past, length-mapped}
use Rattle.im_eval_machine.proofs.activation.enter.Goals as goal

pub returns-in_default : goal.returns-in_default
returns-in_default c =
    let code = c.args.code in
    let all = code.layouts.now.functions.items in
    let k = c.args.function in
    let past : length all ≤ k = subst (λ (xs : List Layout). length xs ≤ k) c.deref.ensures.value c.in_default.ensures.lookup.3 in
    misses (setting_of code) k (shown_all c.args.arguments.now) c.args.machine.now
    (no-function (length (program_of code.prog.now).statics) (program_of code.prog.now).funcs all k c.requires.functions (got-past all k past))

pub returns-then-depth-code : goal.returns-then-depth-code
returns-then-depth-code c =
    let code = c.args.code in
    let all = code.layouts.now.functions.items in
    let k = c.args.function in
    let l = c.in-Some.layout.now in
    let inside : k < length all = subst (λ (xs : List Layout). k < length xs) c.deref.ensures.value c.in-Some.ensures.lookup.3.0 in
    let same : l ≡ slice_index_or all k l = c.in-Some.ensures.lookup.1 ∙ ap (λ (xs : List Layout). slice_index_or xs k l) c.deref.ensures.value in
    let got : slice_get all k ≡ Some l = slice_get_read all (length all) k l refl inside same in
    let r = the-function (length (program_of code.prog.now).statics) (program_of code.prog.now).funcs all k l c.requires.functions got in
    is-full (setting_of code) k (shown_all c.args.arguments.now) c.args.machine.now r.0 r.1.there (subst (λ n. code.stack < c.args.machine.now.depth + n) c.frame_of.ensures c.if-depth-code.true)

pub returns : goal.returns
returns c =
    let code = c.args.code in
    let all = code.layouts.now.functions.items in
    let k = c.args.function in
    let l = c.in-Some.layout.now in
    let inside : k < length all = subst (λ (xs : List Layout). k < length xs) c.deref.ensures.value c.in-Some.ensures.lookup.3.0 in
    let same : l ≡ slice_index_or all k l = c.in-Some.ensures.lookup.1 ∙ ap (λ (xs : List Layout). slice_index_or xs k l) c.deref.ensures.value in
    let got : slice_get all k ≡ Some l = slice_get_read all (length all) k l refl inside same in
    let statics = (program_of code.prog.now).statics in
    let r = the-function (length statics) (program_of code.prog.now).funcs all k l c.requires.functions got in
    let begins : l.first ≡ first_object (setting_of code).prog k = r.1.begins ∙ ap (λ n. n + sum_by (λ (f : Func). length f.objects) (take k (map small_func (program_of code.prog.now).funcs))) (sym (length-mapped small_static statics)) in
    let fits : c.args.machine.now.depth + c.frame_of.result ≤ code.stack = c.if-depth-code.false in
    has-room (setting_of code) k (shown_all c.args.arguments.now) c.args.machine.now c.begin.new.machine r.0 l (c.args.machine.now.depth + c.frame_of.result) c.in_ok-begin.field-0 r.1.there r.1.plans begins
    (ap (λ n. c.args.machine.now.depth + n) c.frame_of.ensures) fits c.in_ok-begin.ensures.fuel c.in_ok-begin.ensures.begun
