-- What a handle owns: a sender, or nothing.
use Rattle.std.specs.Prelude.{◌≡◌, Bool, true, false, Option, Some, None, []}
use base.Fml.{Fml, ftrue, ffalse}
use base.Stored.{Coded}
use Rattle.std.specs.Coded.{coded_option}
use denote.RawPtr.{Ptr}
use Rattle.std.specs.Box.Ownership.{box_owns}
use Rattle.std.specs.Global.{Global}
use Rattle.std_heap.specs.contracts.GlobalAllocator.TheImpl.{ghosts}
use Rattle.steered_sender.specs.declared.steered.Control.{Control}
use Rattle.steered_sender.specs.Standing.{StandsFor, began_at, first, start_of}
use Rattle.capi.specs.contracts.sender.Sender.{the_row}

abbrev pub holds : Bool → Global → Ptr → Option the_row.Denot → Fml
holds true alloc ptr (Some sender) = box_owns (ghosts.dealloc_token alloc) the_row ptr sender
holds false alloc ptr None = ftrue
holds live alloc ptr held = ffalse

abbrev pub held_coded : Coded (Option the_row.Denot)
held_coded = coded_option the_row.coded

-- a new sender that this control steers: it stands for what the control asks for first, and has no packets and was
-- told of none
pub record IsNew (sender : the_row.Denot) (control : Control) : Type 0 where
  pub stands : StandsFor sender.steered (first control)
  pub began : began_at sender.steered.steering ≡ start_of control
  pub kept : sender.kept ≡ []
  pub findings : sender.findings ≡ []

-- there is a sender, of which this holds
abbrev pub HoldsOne : Option the_row.Denot → (the_row.Denot → Type 0) → Type 0
HoldsOne None P = ⊥
HoldsOne (Some sender) P = P sender
