-- For private contracts: what a frame is told as, and what a fault of a pass is called here.
use Rattle.std.specs.Prelude.{◌≡◌, ℕ, List}
use Rattle.im_link.specs.declared.fault.LinkFault.{LinkFault}
use Rattle.im_link.specs.declared.fault.LinkFault.TheVariants.{Limit, OutOfMemory as NoRoom}
use Rattle.im_typed.specs.declared.frames.Frame.{Frame as FrameOf}
use Rattle.im_frame.specs.declared.layout.Layout.{Layout}
use Rattle.im_frame.specs.declared.fault.FrameFault.{FrameFault}
use Rattle.im_frame.specs.declared.fault.FrameFault.TheVariants.{Limit as TooLarge, OutOfMemory as NoHeap}
use Rattle.im_compile.specs.declared.fault.CompileFault.{CompileFault}
use Rattle.im_compile.specs.declared.fault.CompileFault.TheVariants.{Frame, Code as TooMuchCode, OutOfMemory}

pub record IsFrameOf (name : List ℕ) (layout : Layout) (frame : FrameOf) : Type 0 where
  pub named : frame.name.items ≡ name
  pub size : frame.size ≡ layout.frame

abbrev pub of_link : LinkFault → CompileFault
of_link (Limit bytes) = TooMuchCode bytes
of_link NoRoom = OutOfMemory

abbrev pub of_frame : ℕ → FrameFault → CompileFault
of_frame i (TooLarge bytes) = Frame i bytes
of_frame i NoHeap = OutOfMemory
