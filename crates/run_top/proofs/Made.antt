-- Each line of a made trace asks, so that serving them leaves an entry for each.
use Rattle.std.proofs.Common.{◌≡◌, ℕ, ◌+◌, ◌*◌, ◌<◌, ◌≤◌, List, [], ◌∷◌, ◌++◌, length, map, arith, length-append}
use Rattle.std.proofs.lemmas.List.{length-map}
use Rattle.send_core.specs.declared.call.Entry.{Entry}
use Rattle.call_trace.specs.Ordered.{served, added, ordered}
use Rattle.call_trace.specs.Making.{line_of, milliseconds, made}

served-asks : (actors : ℕ) (es h : List Entry) → length (served h (map (line_of actors) es)) ≡ length h + length es
unfolding served
served-asks actors [] h = omega arith
served-asks actors (e ∷ es) h =
    let one = length-append h (added h (line_of actors e)) in
    let rest = served-asks actors es (h ++ added h (line_of actors e)) in
    omega (arith, one, rest)

pub made_some : (seed calls : ℕ) → 1 ≤ calls → length (made seed calls 1).lines ≡ calls → 0 < length (ordered (made seed calls 1).lines)
unfolding made ordered
made_some seed calls some all =
    let entries = (milliseconds seed calls (5 * calls)).history in
    let served_all = served-asks 1 entries [] in
    let as_many = length-map entries (line_of 1) in
    omega (arith, served_all, as_many, some, all)
