-- What is told of the lines of a trace that a live sender served.
use Rattle.std.specs.Prelude.{◌≡◌, List, [], ◌++◌, codes, length}
use Rattle.std.specs.String.{string_bytes}
use Rattle.std.specs.List.{flat_map}
use Rattle.live_sender.specs.Live.{Live, StandsFor}
use Rattle.call_trace.specs.declared.trace.Line.{Line}
use Rattle.call_trace.specs.Ordered.{ordered}
use Rattle.reply_text.specs.Text.{line_of}
use Rattle.run_top.specs.Replay.{seen_from}
use Rattle.gcc_live.specs.declared.telling.Told.{Told}

-- the sender stands for the history of these lines; the lines of its entries are spelled, and its glances are kept
pub record AreTold (sender : Live) (told : Told) (lines : List Line) : Type 0 where
  pub stands : StandsFor sender (ordered lines)
  pub text : string_bytes told.text ≡ codes "gcc-history 1\n" ++ flat_map line_of (ordered lines)
  pub calls : told.calls ≡ length (ordered lines)
  pub glances : told.glances.items ≡ seen_from [] lines
