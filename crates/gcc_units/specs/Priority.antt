-- Which class of packets goes first.
use Rattle.std.specs.Prelude.{ℕ}
use Rattle.gcc_units.specs.declared.class.Class.{Class}
use Rattle.gcc_units.specs.declared.class.Class.TheVariants.{Audio, Retransmission, Video, Fec}

-- the priority, the least first: video and forward error correction share one
abbrev pub rank_of : Class → ℕ
rank_of Audio = 0
rank_of Retransmission = 1
rank_of Video = 2
rank_of Fec = 2
