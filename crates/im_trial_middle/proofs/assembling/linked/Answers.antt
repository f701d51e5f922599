use Rattle.std.proofs.Common.{◌≡◌, length, sym, ap, ◌∙◌, arith}
use Rattle.im_select_assemble.proofs.One.{layouts_of}
use Rattle.im_trial_middle.proofs.assembling.linked.Goals as goal

pub assemble-requires : goal.assemble-requires
assemble-requires c =
    let unit = c.args.unit in
    let layouts : c.deref.result.now ≡ c.in_ok-layouts.layouts.items = c.deref.ensures.value in
    let names : c.deref-2.result.now ≡ c.in_ok-names.names.items = c.deref-2.ensures.value in
    let one = c.requires.one in
    record {
      well_formed = c.requires.well_formed;
      placed = c.requires.placed;
      count = (let a = ap (λ z. length z) (layouts ∙ c.in_ok-layouts.ensures.items) in omega arith);
      layouts = layouts_of unit.functions.items c.deref.result.now c.in_ok-layout.layout c.index.result.now one (layouts ∙ c.in_ok-layouts.ensures.items) c.index.ensures c.in_ok-layout.ensures.gives;
      names = (let a = ap (λ z. length z) (names ∙ c.in_ok-names.ensures.items) in omega arith);
      statics = (let a = ap (λ z. length z) c.requires.none in sym a);
      low = λ n h. absurd (omega arith);
    }

pub finish-requires : goal.finish-requires
finish-requires c =
    let a = c.in_ok-assembled.ensures.parts in
    let linkable = c.linkable_law.ensures c.args.unit _ _ a.parts a.is_program c.requires.named in
    record { parts = a.parts; holds = a.holds; linkable = linkable }
