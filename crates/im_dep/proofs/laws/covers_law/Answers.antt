use Rattle.std.proofs.Common.{◌≡◌, sym, ◌∙◌, true, false}
use Rattle.im_block.specs.Tagged.{reach_of}
use Rattle.im_dep.proofs.Covering.{covers_yes, covers_so}
use Rattle.im_dep.proofs.laws.covers_law.Goals as goal

clash : true ≡ false → ⊥
clash e = cc

pub returns : goal.returns
returns c = λ tags. record {
  yes = λ w r e. covers_yes (reach_of tags w) w.size (reach_of tags r) r.size e;
  no = λ w r e h. clash (sym (covers_so (reach_of tags w) w.size (reach_of tags r) r.size h) ∙ e);
}
