use Rattle.std.proofs.Common.{◌≡◌, ◌+◌, ◌-◌, ◌^◌, ◌∙◌, length, rules, arith}
use Rattle.std.specs.Prelude.{min}
use Rattle.im_link.proofs.Whole.{skipped_more, held_more}
use Rattle.im_link.proofs.linker.Linker.add.Goals as goal

pub keep-requires-clause-first : goal.keep-requires-clause-first
keep-requires-clause-first c = c.len-first.ensures ∙ c.args.self.now.words.ok.0

pub keep-requires-clause-room : goal.keep-requires-clause-room
keep-requires-clause-room c =
    let lines : c.len-lines.result ≡ length c.args.part.now.lines.items = c.len-lines.ensures ∙ c.args.part.now.lines.ok.0 in
    let room = c.is_over.ensures.room c.if-is_over.false in
    omega arith

pub returns-then-is_over : goal.returns-then-is_over
returns-then-is_over c parts held =
    let first : c.len-first.result ≡ length c.args.self.now.words.items = c.len-first.ensures ∙ c.args.self.now.words.ok.0 in
    let lines : c.len-lines.result ≡ length c.args.part.now.lines.items = c.len-lines.ensures ∙ c.args.part.now.lines.ok.0 in
    let over = c.is_over.ensures.over c.if-is_over.true in
    let sum = c.saturating_add-self.ensures in
    let count : c.saturating_add-self.result ≡ min (c.args.self.now.count + length c.args.part.now.lines.items) (2 ^ 64 - 1) = search (rules, lines, sum) in
    skipped_more c.args.self.now _ parts c.args.part.now count (omega arith) held

pub returns : goal.returns
returns c parts held =
    let lines : c.len-lines.result ≡ length c.args.part.now.lines.items = c.len-lines.ensures ∙ c.args.part.now.lines.ok.0 in
    let sum = c.saturating_add-self.ensures in
    let same = c.in_ok-keep.ensures.count in
    let count : c.keep.new.linker.count ≡ min (c.args.self.now.count + length c.args.part.now.lines.items) (2 ^ 64 - 1) = search (rules, lines, sum, same) in
    held_more c.args.self.now c.keep.new.linker parts c.args.part.now count (λ k. c.in_ok-keep.ensures.kept parts (record { lines = k.lines; cuts = k.cuts; entry = k.entry })) held
