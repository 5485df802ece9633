-- A NACK that is being answered: one verdict after the other.
use Rattle.std.specs.Prelude.{◌≡◌, ℕ, ◌+◌, ◌-◌, ◌++◌, List, [], ◌∷◌, count_by, slice_set}
use Rattle.std.specs.List.{flat_map}
use Rattle.nack_rtx.specs.declared.resender.Verdict.{Verdict}
use Rattle.nack_rtx.specs.declared.resender.Verdict.TheVariants.{Unknown, Spent, Again}
use Rattle.nack_rtx.specs.declared.resender.Answering.{Answering}
use Rattle.nack_rtx.specs.declared.resender.RtxSettings.{RtxSettings}
use Rattle.nack_rtx.specs.Resending.{Account, left, verdicts, resend_in, is_unknown, is_spent}
use Rattle.nack_rtx.specs.Held.{Held}
use Rattle.nack_rtx.specs.Keeping.{Keeps, with_counts}

-- the stored counts after a verdict, and all resends
abbrev pub counted : ℕ → List ℕ → Verdict → List ℕ
counted first counts Unknown = counts
counted first counts Spent = counts
counted first counts (Again place times resend) = slice_set counts (place - first) times

abbrev pub more_resends : ℕ → Verdict → ℕ
more_resends resends Unknown = resends
more_resends resends Spent = resends
more_resends resends (Again place times resend) = resends + 1

pub record IsTold (before now : Answering) (first : ℕ) (v : Verdict) : Type 0 where
  pub counts : now.counts ≡ counted first before.counts v
  pub resends : now.resends ≡ more_resends before.resends v
  pub list : now.answered.resends.items ≡ before.answered.resends.items ++ resend_in v
  pub unknown : now.answered.unknown ≡ before.answered.unknown + count_by is_unknown (v ∷ [])
  pub spent : now.answered.spent ≡ before.answered.spent + count_by is_spent (v ∷ [])

-- what was told of the first numbers, and the counts after them
pub record Works (h : Held) (w : Answering) (s : RtxSettings) (media : ℕ) (a : Account) (seqs : List ℕ) : Type 0 where
  pub keeps : Keeps (with_counts h w.counts w.resends) (left s media a seqs)
  pub list : w.answered.resends.items ≡ flat_map resend_in (verdicts s media a seqs)
  pub unknown : w.answered.unknown ≡ count_by is_unknown (verdicts s media a seqs)
  pub spent : w.answered.spent ≡ count_by is_spent (verdicts s media a seqs)
