-- Exit codes and notes.
use Rattle.std.specs.Prelude.{ℕ, List, [], ◌∷◌, ◌++◌, codes}
use Rattle.std.specs.Fmt.{decimal}
use Rattle.a95_base.specs.Fault.{fault_number}
use Rattle.loop_tree.specs.Stuck.{stuck_number}
use Rattle.f95a_core.specs.declared.status.Status.{Status}
use Rattle.f95a_core.specs.declared.status.Status.TheVariants as status

abbrev pub code_of : Status → ℕ
code_of status.Done = 0
code_of (status.Refused phase line rule) = 1
code_of status.Usage = 2
code_of (status.Fault kind line) = 3
code_of (status.TextRefused line) = 4
code_of (status.Stuck why) = 5
code_of status.TurnLimit = 6
code_of status.InputTooLong = 7
code_of status.ReadFault = 8
code_of status.WriteFault = 9
code_of status.Memory = 10

-- the line that a status writes as its note, without the line feed
abbrev pub message : Status → List ℕ
message status.Done = []
message (status.Refused phase line rule) = codes "f95a: refused: phase "
    ++ (decimal phase ++ (codes ", line " ++ (decimal line.0 ++ (codes ", rule P" ++ decimal rule.0))))
message status.Usage = codes "f95a: usage"
message (status.Fault kind line) = codes "f95a: fault F" ++ (decimal (fault_number kind) ++ (codes " at line " ++ decimal line.0))
message (status.TextRefused line) = codes "f95a: text refused at line " ++ decimal line.0
message (status.Stuck why) = codes "f95a: stuck S" ++ decimal (stuck_number why)
message status.TurnLimit = codes "f95a: turn limit"
message status.InputTooLong = codes "f95a: input too long"
message status.ReadFault = codes "f95a: read fault"
message status.WriteFault = codes "f95a: write fault"
message status.Memory = codes "f95a: no memory"

-- the whole note: none where all went well
abbrev pub note : Status → List ℕ
note status.Done = []
note other = message other ++ 10 ∷ []
