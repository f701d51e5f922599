use Rattle.std.proofs.Common.{sym, ap, ◌∙◌}
use Rattle.im_rv.specs.Decode.{decode}
use Rattle.im_rv.specs.Lines.{line_of}
use Rattle.im_rv.proofs.Encoding.{decode-encoded}
use Rattle.im_rv.proofs.Decoding.{encoded-decoded}
use Rattle.im_rv.proofs.encode.encode.Goals as goal

pub returns-clause-decodes : goal.returns-clause-decodes
returns-clause-decodes c = let i = c.args.i in ap decode c.word_of.ensures ∙ decode-encoded i.op i.rd i.rs1 i.rs2 i.imm i.fits

pub returns-clause-only : goal.returns-clause-only
returns-clause-only c w small h = sym (encoded-decoded w (line_of c.args.i) small h) ∙ sym c.word_of.ensures
