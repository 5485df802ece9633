-- What the laws of the link speak of.
use Rattle.std.specs.Prelude.{ℕ, if◌then◌else◌, List, sum}
use Rattle.gcc_units.specs.Walk.{each_by}
use Rattle.link_path.specs.declared.link.LinkSettings.{LinkSettings}
use Rattle.link_path.specs.Link.{Offer, is_dropped, line_time}

abbrev pub time_of : LinkSettings → List Offer → Offer → ℕ
time_of s before o = if is_dropped s before o then 0 else line_time s o

abbrev pub bytes_of : LinkSettings → List Offer → Offer → ℕ
bytes_of s before o = if is_dropped s before o then 0 else o.size

-- the times on the line, and the bytes, of those of the packets that are not dropped, where others were offered before them
abbrev pub times_through : LinkSettings → List Offer → List Offer → ℕ
times_through s before os = sum (each_by (time_of s) before os)

abbrev pub bytes_through : LinkSettings → List Offer → List Offer → ℕ
bytes_through s before os = sum (each_by (bytes_of s) before os)
