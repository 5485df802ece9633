-- The lines that tell of NACKs.
use Rattle.std.specs.Prelude.{ℕ, List, [], ◌++◌, length, codes}
use Rattle.std.specs.List.{flat_map}
use Rattle.std.specs.Fmt.{decimal}
use Rattle.gcc_units.specs.Walk.{each_by}
use Rattle.resending.specs.declared.nack_line.NackLine.{NackLine}

-- `nack <k> named <n> resent <n> unknown <n> spent <n>`
abbrev pub nack_text : ℕ → NackLine → List ℕ
nack_text k line =
    codes "nack " ++ decimal k ++ codes " named " ++ decimal line.named ++ codes " resent " ++ decimal line.resent
    ++ codes " unknown " ++ decimal line.unknown ++ codes " spent " ++ decimal line.spent ++ codes "\n"

-- a line for each, which are numbered from 0
abbrev pub nack_lines : List NackLine → List ℕ
nack_lines lines = flat_map (λ (line : List ℕ). line) (each_by (λ before l. nack_text (length before) l) [] lines)
