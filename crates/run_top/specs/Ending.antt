-- The exit code and the text of a status.
use Rattle.std.specs.Prelude.{ℕ, List, [], ◌++◌, codes}
use Rattle.std.specs.Fmt.{decimal}
use Rattle.run_top.specs.declared.status.Status.{Status}
use Rattle.run_top.specs.declared.status.Status.TheVariants.{Done, Usage, BadTrace, ReadFault, WriteFault, NoMemory, Differs}

abbrev pub code_of : Status → ℕ
code_of Done = 0
code_of Usage = 2
code_of (BadTrace line reason) = 3
code_of ReadFault = 4
code_of WriteFault = 5
code_of NoMemory = 6
code_of (Differs entry) = 8

abbrev pub place_text : ℕ → ℕ → List ℕ
place_text line reason = codes "line " ++ decimal line ++ codes " reason " ++ decimal reason

abbrev pub text_of : Status → List ℕ
text_of Done = []
text_of Usage = codes "usage\n"
text_of (BadTrace line reason) = codes "bad trace: " ++ place_text line reason ++ codes "\n"
text_of ReadFault = codes "read fault\n"
text_of WriteFault = codes "write fault\n"
text_of NoMemory = codes "no memory\n"
text_of (Differs entry) = codes "differs: entry " ++ decimal entry ++ codes "\n"
