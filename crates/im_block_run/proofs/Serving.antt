-- Bytes of the input and of the output.
use Rattle.std.proofs.Common.{◌≡◌, ◌∙◌, ℕ, ap, sym, refl, List, [], ◌∷◌, ◌++◌, length, Bool, true, false, Bor}
use Rattle.std.specs.Prelude.{pos, negsuc, nat_lt, Vec}
use Rattle.std.specs.declared.alloc.Global.{Global}
use Rattle.im_serve.specs.Services.{byte_in, byte_put, byte_out}
use Rattle.im_store.specs.Objects as o
use Rattle.im_block.specs.declared.code.Line.{Line}
use Rattle.im_block.specs.declared.unit.Unit.{Unit as Blocks}
use Rattle.im_block.specs.Meaning as m
use Rattle.im_block.specs.Meaning.{Setting}
use Rattle.im_block_run.specs.Shown.{IsState}
use Rattle.im_block_run.specs.declared.state.State.{State}

module _ (u : Blocks) (g : Setting) (s : m.State) (to : ℕ) where
  abbrev rest : List Line
  rest = s.frame.spot.rest

  pub gets-none : (fuel : ℕ) → s.input ≡ [] → m.replies u g to (byte_in s.input s.output) rest fuel s ≡ m.served u g to (o.Number (negsuc 0)) rest s.input s.output fuel s
  gets-none fuel e = ap (λ i. m.replies u g to (byte_in i s.output) rest fuel s) e ∙ ap (λ i. m.served u g to (o.Number (negsuc 0)) rest i s.output fuel s) (sym e)

  pub gets-byte : (fuel byte : ℕ) (left : List ℕ) → s.input ≡ byte ∷ left → m.replies u g to (byte_in s.input s.output) rest fuel s ≡ m.served u g to (o.Number (pos byte)) rest left s.output fuel s
  gets-byte fuel byte left e = ap (λ i. m.replies u g to (byte_in i s.output) rest fuel s) e

  abbrev putting : ℕ → ℕ → Bool → m.Next
  putting fuel byte room = m.replies u g to (byte_put room byte s.input s.output) rest fuel s

  pub puts-full : (fuel byte : ℕ) → nat_lt (length s.output) g.capacity ≡ false → m.replies u g to (byte_out g.capacity byte s.input s.output) rest fuel s ≡ m.served u g to (o.Number (negsuc 0)) rest s.input s.output fuel s
  puts-full fuel byte full = ap (putting fuel byte) full

  pub puts-byte : (fuel byte : ℕ) → nat_lt (length s.output) g.capacity ≡ true → m.replies u g to (byte_out g.capacity byte s.input s.output) rest fuel s ≡ m.served u g to (o.Number (pos byte)) rest s.input (s.output ++ byte ∷ []) fuel s
  puts-byte fuel byte room = ap (putting fuel byte) room

pub with-input : (a : State) (s : m.State) (input : Bor (List ℕ)) → IsState a s → IsState (record a { input = input }) (record s { input = input.now })
with-input a s input h = record {
  running = record { frame = h.running.frame; callers = h.running.callers; input = refl; output = h.running.output; fuel = h.running.fuel };
  begun = h.begun;
  held = h.held;
}

pub with-output : (a : State) (s : m.State) (output : Vec ℕ Global) (byte : ℕ) → IsState a s → output.items ≡ a.output.items ++ byte ∷ [] → IsState (record a { output = output }) (record s { output = s.output ++ byte ∷ [] })
with-output a s output byte h e = record {
  running = record { frame = h.running.frame; callers = h.running.callers; input = h.running.input; output = ap (λ (bytes : List ℕ). bytes ++ byte ∷ []) h.running.output ∙ sym e; fuel = h.running.fuel };
  begun = h.begun;
  held = h.held;
}
