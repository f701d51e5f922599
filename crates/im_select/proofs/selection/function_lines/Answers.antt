use Rattle.std.proofs.Common.{◌≡◌, ◌<◌, ◌≤◌, length, ap, ◌∙◌, arith}
use Rattle.im_rv.specs.Lines.{code_lines}
use Rattle.im_live.specs.Words.{starts_have}
use Rattle.im_select.specs.declared.distance.Distance.TheVariants.{Near, Far}
use Rattle.im_select.specs.Emitted.{function_code}
use Rattle.im_select.specs.Given.{given}
use Rattle.im_select.specs.Selects.{laying_of}
use Rattle.im_select.proofs.Lists.{lines_length}
use Rattle.im_select.proofs.Machine.{blocks_machine}
use Rattle.im_select.proofs.selection.function_lines.Goals as goal

pub starts-requires : goal.starts-requires
starts-requires c = blocks_machine (given c.args.names.now) c.requires.placed.blocks c.requires.closed

pub returns-then-len-le-NEAR_LINES : goal.returns-then-len-le-NEAR_LINES
returns-then-len-le-NEAR_LINES c =
    let lines = c.in_ok-lines.lines.items in
    let few : length (code_lines lines) ≤ 1023 = (let e = lines_length lines in let n = c.len.ensures in let t = c.if-len-le-NEAR_LINES.true in omega arith) in
    record {
      live = starts_have c.in_ok-live.live.items;
      is_live = c.in_ok-live.ensures.exact;
      distance = Near;
      lines_are = c.in_ok-lines.ensures ∙ ap (λ z. function_code c.args.number (laying_of (given c.args.names.now) (starts_have z) Near)) c.deref-2.ensures.value;
      near = λ e. few;
      far = λ e. absurd cc;
    }

pub returns : goal.returns
returns c =
    let before = c.in_ok-lines.lines.items in
    let live = starts_have c.in_ok-live.live.items in
    let near = function_code c.args.number (laying_of (given c.args.names.now) live Near) in
    let is_near : code_lines before ≡ near = c.in_ok-lines.ensures ∙ ap (λ z. function_code c.args.number (laying_of (given c.args.names.now) (starts_have z) Near)) c.deref-2.ensures.value in
    let many : 1023 < length near = (let e = lines_length before in let n = c.len.ensures in let t = c.if-len-le-NEAR_LINES.false in let q = ap length is_near in omega arith) in
    record {
      live = live;
      is_live = c.in_ok-live.ensures.exact;
      distance = Far;
      lines_are = c.in_ok-lines-2.ensures ∙ ap (λ z. function_code c.args.number (laying_of (given c.args.names.now) (starts_have z) Far)) c.deref-5.ensures.value;
      near = λ e. absurd cc;
      far = λ e. many;
    }
