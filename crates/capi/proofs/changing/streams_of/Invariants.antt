use Rattle.std.proofs.Common.{◌≡◌, map, take}
use Rattle.capi.specs.Changing.{stream_of}
use Rattle.capi.proofs.changing.streams_of.Given as goal

abbrev pub invariant-loop-stream : goal.invariant-loop-stream
invariant-loop-stream l = l.streams.items ≡ map stream_of (take l.stream-index l.given)
