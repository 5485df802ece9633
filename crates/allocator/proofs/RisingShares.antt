-- Shares are one for each stream, in rising order of id.
use Rattle.std.proofs.Common.{◌≡◌, ℕ, List, [], ◌∷◌, length, map, AllPairs, refl, ap, arith}
use Rattle.std.proofs.lemmas.List.Elements.{All-map}
use Rattle.std.proofs.lemmas.List.{length-map}
use Rattle.std.proofs.lemmas.List.Kept.{AllPairs-cons}
use Rattle.allocator.specs.declared.stream.Stream.{Stream}
use Rattle.allocator.specs.Streams.{id_of, HasLesserId}
use Rattle.allocator.specs.Order.{in_order}
use Rattle.gcc_units.specs.declared.shared_types.Share.{Share}
use Rattle.allocator.specs.Shares.{shares, given, share_in, share_id, HasLesserShareId}
use Rattle.allocator.proofs.Placed.{AllPairs-head, AllPairs-tail}

-- shares are one for each stream, in rising order of id
ids-shares_in : (given : List Share) (streams : List Stream) → map share_id (map (share_in given) streams) ≡ map id_of streams
ids-shares_in given [] = refl
ids-shares_in given (s ∷ ss) = ap (λ ids. s.id ∷ ids) (ids-shares_in given ss)

pub ids-shares : (total : ℕ) (streams : List Stream) → map share_id (shares total streams) ≡ map id_of streams
unfolding shares
ids-shares total streams = ids-shares_in (given total (in_order streams)) streams

rising-shares_in : (given : List Share) (streams : List Stream) → AllPairs HasLesserId streams → AllPairs HasLesserShareId (map (share_in given) streams)
rising-shares_in given [] rising = λ i j d l m. absurd (omega arith)
rising-shares_in given (s ∷ ss) rising =
    AllPairs-cons HasLesserShareId (share_in given s) (map (share_in given) ss)
    (All-map (HasLesserShareId (share_in given s)) (share_in given) ss (AllPairs-head HasLesserId s ss rising))
    (rising-shares_in given ss (AllPairs-tail HasLesserId s ss rising))

pub rising-shares : (total : ℕ) (streams : List Stream) → AllPairs HasLesserId streams → AllPairs HasLesserShareId (shares total streams)
unfolding shares
rising-shares total streams rising = rising-shares_in (given total (in_order streams)) streams rising

pub length-shares : (total : ℕ) (streams : List Stream) → length (shares total streams) ≡ length streams
unfolding shares
length-shares total streams = length-map streams (share_in (given total (in_order streams)))
