-- What records do, all together.
use Rattle.std.proofs.Common.{Bool, List}
use Rattle.std.specs.List.{flat_map, list_any}
use Rattle.pace_budget.specs.Level.{Deed}
use Rattle.pacer.specs.declared.sent.Sent.{Sent}
use Rattle.pacer.specs.Pace.{deed_of, is_media}

-- what records spend from the media level
abbrev pub spending : List Sent → List Deed
spending records = flat_map deed_of records

-- some record is of kind Media
abbrev pub has_media : List Sent → Bool
has_media records = list_any (λ (r : Sent). is_media r.kind) records
