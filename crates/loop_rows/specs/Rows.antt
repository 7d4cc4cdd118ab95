-- What the code of a row that begins no turn comes to, against the definition's step.
use Rattle.std.specs.Prelude.{◌≡◌, Bool, true, false, List, [], ◌∷◌, ◌++◌, ⊤, Result, Ok, Err}
use Rattle.a95_base.specs.Record.{record_text}
use Rattle.loop_tree.specs.declared.tree.Function.{Function}
use Rattle.loop_tree.specs.State.{State, Stuck, Next, Goes, Ends}
use Rattle.loop_heap.specs.declared.halt.Halt.{Halt}
use Rattle.loop_heap.specs.declared.halt.Halt.TheVariants as halt
use Rattle.loop_rows.specs.declared.state.Core.{Core}
use Rattle.loop_rows.specs.Shown.{shown}

-- the program is stuck where `next` is what its step does; nothing is said where memory was refused
abbrev pub HaltsSo : Next → Halt → Type 0
HaltsSo next (halt.Stuck why) = next ≡ Ends (Stuck why)
HaltsSo next halt.Memory = ⊤

-- the row did what `next` is
abbrev pub Obeyed : {A : Type 0} → Next → List Function → Core → Result A Halt → Type 0
Obeyed next functions new (Ok done) = next ≡ Goes false [] (shown functions new)
Obeyed next functions new (Err halt) = HaltsSo next halt

-- the record was written
abbrev pub without_record : State → State
without_record s = record s { pending = [] }

-- the same of a row that gathers a record, and answers whether it is to be written
abbrev pub Gathered : Next → List Function → Core → Result Bool Halt → Type 0
Gathered next functions new (Ok true) =
    next ≡ Goes false (record_text new.pending ++ 10 ∷ []) (without_record (shown functions new))
Gathered next functions new (Ok false) = next ≡ Goes false [] (shown functions new)
Gathered next functions new (Err halt) = HaltsSo next halt
