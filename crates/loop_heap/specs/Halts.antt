-- What is answered where a result may be missing.
use Rattle.std.specs.Prelude.{◌≡◌, ⊤, Result, Ok, Err}
use Rattle.loop_tree.specs.declared.stuck.StuckState.{StuckState}
use Rattle.loop_heap.specs.declared.halt.Halt.{Halt}
use Rattle.loop_heap.specs.declared.halt.Halt.TheVariants as halt

-- the answer is this result or this stuck state, unless an allocation was refused
abbrev pub Yields : {A : Type 0} → Result A StuckState → Result A Halt → Type 0
Yields meant (Ok a) = meant ≡ Ok a
Yields meant (Err (halt.Stuck why)) = meant ≡ Err why
Yields meant (Err halt.Memory) = ⊤

-- of a stuck state that was answered
abbrev pub IfStuck : {A : Type 0} → Result A Halt → (StuckState → Type 0) → Type 0
IfStuck (Err (halt.Stuck why)) P = P why
IfStuck other P = ⊤
