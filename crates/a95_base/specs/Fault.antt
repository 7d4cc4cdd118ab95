-- The printed numbers of the runtime faults.
use Rattle.std.specs.Prelude.{ℕ, Option, Some, None, ◌==◌, if◌then◌else◌}
use Rattle.a95_base.specs.declared.fault.FaultKind.{FaultKind}
use Rattle.a95_base.specs.declared.fault.FaultKind.TheVariants as kind

abbrev pub fault_number : FaultKind → ℕ
fault_number kind.ZeroDivide = 1
fault_number kind.Bounds = 2
fault_number kind.Shape = 3
fault_number kind.ZeroStep = 4
fault_number kind.ManyOne = 5
fault_number kind.Overlap = 6
fault_number kind.TooLarge = 7
fault_number kind.NotAllocated = 8
fault_number kind.Allocated = 9
fault_number kind.EndOfInput = 10
fault_number kind.BadInput = 11
fault_number kind.CharRange = 12
fault_number kind.CallDepth = 13
fault_number kind.Argument = 14
fault_number kind.DummyShape = 15

-- the kind with this number
abbrev pub kind_of : ℕ → Option FaultKind
kind_of n =
    if n == 1 then Some kind.ZeroDivide else (
    if n == 2 then Some kind.Bounds else (
    if n == 3 then Some kind.Shape else (
    if n == 4 then Some kind.ZeroStep else (
    if n == 5 then Some kind.ManyOne else (
    if n == 6 then Some kind.Overlap else (
    if n == 7 then Some kind.TooLarge else (
    if n == 8 then Some kind.NotAllocated else (
    if n == 9 then Some kind.Allocated else (
    if n == 10 then Some kind.EndOfInput else (
    if n == 11 then Some kind.BadInput else (
    if n == 12 then Some kind.CharRange else (
    if n == 13 then Some kind.CallDepth else (
    if n == 14 then Some kind.Argument else (
    if n == 15 then Some kind.DummyShape else None))))))))))))))
