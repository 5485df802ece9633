use Rattle.std.proofs.Common.{◌≡◌, ◌+◌, ◌-◌, drop, take, length, arith, length-drop}
use Rattle.std.proofs.lemmas.List.{take_all}
use Rattle.call_trace.proofs.Lines.{line_at, none_at}
use Rattle.call_trace.proofs.reading.next_line.Goals as goal

pub returns-then-feed-bytes-clause-some : goal.returns-then-feed-bytes-clause-some
returns-then-feed-bytes-clause-some c =
    let bytes = c.args.bytes.now in
    let feed = c.find-feed.result in
    let all : take (length bytes - (feed + 1)) (drop (feed + 1) bytes) ≡ drop (feed + 1) bytes = take_all (length bytes - (feed + 1)) (drop (feed + 1) bytes) (omega (arith, length-drop (feed + 1) bytes)) in
    rw all (line_at bytes feed c.find-feed.ensures.place c.if-feed-bytes.true)

pub returns-else-feed-bytes-clause-none : goal.returns-else-feed-bytes-clause-none
returns-else-feed-bytes-clause-none c = none_at c.args.bytes.now c.find-feed.result c.find-feed.ensures.place c.if-feed-bytes.false
