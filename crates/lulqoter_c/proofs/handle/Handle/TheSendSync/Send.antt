-- A handle may go to another thread: what it holds may, and the block is freed anywhere.
use mathlib.Core.Bool.{Bool, true, false}
use mir.Raw.{raw}
use base.Shift.{Keyless}
use denote.Memory.{lone}
use denote.RawPtr.{Ptr}
use denote.Struct.Struct.{exits_of}
use denote.Struct.Owning.{shape, fields, to}
use denote.Param.Send.{IsSend, AllSend, owning_send, struct_send, sendable}
use Rattle.std.specs.Prelude.{Option, Some, None}
use Rattle.std.specs.Global.{Global}
use Rattle.std.proofs.Crossing as heap
use Rattle.std_alloc.proofs.SendSync.{quiet, lies}
use Rattle.std_heap.proofs.Global.TheSendSync as block
use Rattle.capi.specs.contracts.sender.Sender as Sender
use Rattle.capi.proofs.sender.Sender.TheSendSync.{the_send as sender}
use Rattle.lulqoter_c.specs.Holds.{holds}
use Rattle.lulqoter_c.specs.contracts.handle.Handle.{the_row, the_type}

held : (live : Bool) (alloc : Global) (ptr : Ptr) (o : Option Sender.the_row.Denot) → Keyless (holds live alloc ptr o)
held true alloc ptr (Some s) = (lies Sender.the_row sender ptr s, heap.frees.frees alloc (raw (lone Sender.the_row.mir)) ptr)
held true alloc ptr None = tt
held false alloc ptr (Some s) = tt
held false alloc ptr None = tt

pub send : IsSend the_row
send =
    let all : AllSend (fields the_type) = (search sendable, (search sendable, (block.the_field_send, tt))) in
    owning_send the_type all (λ d. held d.live d.alloc d.ptr d.held) (λ k. quiet (to the_type) (exits_of k (fields the_type)) ((struct_send (shape the_type) all).leaving k))
