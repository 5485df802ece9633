use Rattle.live_sender.proofs.Counting.{are-within}
use Rattle.live_sender.proofs.sums.SentTotals.add.Goals as goal

pub add-requires-clause-packets : goal.add-requires-clause-packets
add-requires-clause-packets c = (are-within _ _ c.requires).audio.packets

pub add-requires-clause-bytes : goal.add-requires-clause-bytes
add-requires-clause-bytes c = (are-within _ _ c.requires).audio.bytes

pub add-requires-in-Media-clause-packets : goal.add-requires-in-Media-clause-packets
add-requires-in-Media-clause-packets c = (are-within _ _ c.requires).media.packets

pub add-requires-in-Media-clause-bytes : goal.add-requires-in-Media-clause-bytes
add-requires-in-Media-clause-bytes c = (are-within _ _ c.requires).media.bytes

pub add-requires-in-Probe-clause-packets : goal.add-requires-in-Probe-clause-packets
add-requires-in-Probe-clause-packets c = (are-within _ _ c.requires).probes.packets

pub add-requires-in-Probe-clause-bytes : goal.add-requires-in-Probe-clause-bytes
add-requires-in-Probe-clause-bytes c = (are-within _ _ c.requires).probes.bytes

pub add-requires-in-Padding-clause-packets : goal.add-requires-in-Padding-clause-packets
add-requires-in-Padding-clause-packets c = (are-within _ _ c.requires).padding.packets

pub add-requires-in-Padding-clause-bytes : goal.add-requires-in-Padding-clause-bytes
add-requires-in-Padding-clause-bytes c = (are-within _ _ c.requires).padding.bytes
