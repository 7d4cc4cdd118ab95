-- What a lowered tree stands for: an element tree of the source that has the same value, in this state and in each later one that
-- leaves the variables and the scalars taken so far.
use Rattle.std.proofs.Common.{◌≡◌, refl, sym, ap, subst, ◌∙◌, ℕ, ◌<◌, ◌≤◌, arith, List, [], ◌∷◌}
use Rattle.std.specs.Prelude.{Option, Some, None, Result, Ok, Err, slice_index_or}
use Rattle.a95_base.specs.declared.fault.FaultKind.{FaultKind}
use Rattle.a95_base.specs.declared.scalar.Scalar.{Scalar}
use Rattle.nest_tree.proofs.Stays.{set_other}
use Rattle.f95_unit.specs.Plain.{Entity}
use Rattle.array_meaning.specs.Values.{scalar_value}
use Rattle.array_meaning.specs.State as source
use Rattle.array_meaning.specs.State.{State, Variable, no_variable}
use Rattle.array_meaning.specs.Trees as trees
use Rattle.nest_tree.specs.declared.unit.Sort.{Sort}
use Rattle.nest_tree.specs.Plain.{Tree, Trees, Fixed}
use Rattle.nest_tree.specs.State.{cells_of, NestState, memory_of, with_memory, Step, sees, given, set_at, with_kept}
use Rattle.nest_tree.specs.Elements.{element, elements}
use Rattle.nest_tree.specs.Statements.{Caller, applied}
use Rattle.nest_tree.specs.Sound.{sort_of_scalar}
use Rattle.control_lower.specs.Trees.{sort_at}

-- ---- values of a sort

abbrev pub HasSort : Sort → Scalar → Type 0
HasSort s x = sort_of_scalar x ≡ Some s

-- a scalar variable that holds a value
pub record HoldsOne (s : Sort) (v : Variable) : Type 0 where
  pub value : Scalar
  pub held : v.held ≡ Some (record { bounds = []; elements = value ∷ [] })
  pub typed : HasSort s value
  pub like : HasSort s v.blank

pub record Holds (entities : List Entity) (variables : List Variable) : Type 0 where
  pub holds : (n : ℕ) (s : Sort) → sort_at entities n ≡ Some s → HoldsOne s (slice_index_or variables n no_variable)

abbrev pub value_or : {A : Type 0} → A → Result A FaultKind → A
value_or other (Ok a) = a
value_or other (Err kind) = other

abbrev pub ok : {A : Type 0} → A → Result A FaultKind
ok a = Ok a

abbrev pub kind_or : {A : Type 0} → FaultKind → Result A FaultKind → FaultKind
kind_or other (Ok a) = other
kind_or other (Err kind) = kind

abbrev pub err : FaultKind → Result Scalar FaultKind
err kind = Err kind

pub err_same : (kind other : FaultKind) → err kind ≡ err other → kind ≡ other
err_same kind other h = ap (λ r. kind_or kind r) h

abbrev pub some_or : {A : Type 0} → A → Option A → A
some_or other None = other
some_or other (Some a) = a

pub ok_same : {A : Type 0} (a b : A) → ok a ≡ ok b → a ≡ b
ok_same a b h = ap (λ r. value_or a r) h

abbrev IsErr : {A : Type 0} → Result A FaultKind → Type 0
IsErr (Ok a) = ⊥
IsErr (Err kind) = Unit {0}

pub err_ok : {A : Type 0} (kind : FaultKind) (a : A) (r : Result A FaultKind) → r ≡ Err kind → r ≡ Ok a → ⊥
err_ok kind a r e h = subst (λ q. IsErr q) (sym e ∙ h) tt

-- ---- later states

abbrev pub kept_in : NestState → ℕ → Scalar
kept_in n k = n.cells.temps.setting.kept k

-- the variables are the same, and the scalars below k
pub record Later (k : ℕ) (n n' : NestState) : Type 0 where
  pub variables : n'.cells.plain.variables ≡ n.cells.plain.variables
  pub kept : (j : ℕ) → j < k → kept_in n' j ≡ kept_in n j

-- and all else that the source has, and the record that is being made
pub record From (k : ℕ) (n n' : NestState) : Type 0 where
  pub plain : n'.cells.plain ≡ n.cells.plain
  pub kept : (j : ℕ) → j < k → kept_in n' j ≡ kept_in n j
  pub pending : n'.pending ≡ n.pending

pub from_here : (k : ℕ) (n : NestState) → From k n n
from_here k n = record { plain = refl; kept = λ j h. refl; pending = refl }

pub from_then : (k k' : ℕ) (n m l : NestState) → k ≤ k' → From k n m → From k' m l → From k n l
from_then k k' n m l up h g = record {
  plain = g.plain ∙ h.plain;
  kept = λ j below. g.kept j (omega (arith, below, up)) ∙ h.kept j below;
  pending = g.pending ∙ h.pending;
}

pub later_of : (k k' : ℕ) (n n' : NestState) → k ≤ k' → From k' n n' → Later k n n'
later_of k k' n n' up h = record {
  variables = ap (λ p. p.variables) h.plain;
  kept = λ j below. h.kept j
      (omega (arith, below, up));
}

pub later_then : (k k' : ℕ) (n m l : NestState) → k ≤ k' → Later k n m → Later k' m l → Later k n l
later_then k k' n m l up h g = record {
  variables = g.variables ∙ h.variables;
  kept = λ j below. g.kept j (omega (arith, below, up)) ∙ h.kept j below;
}

-- one scalar takes a value
abbrev pub kept_at : NestState → ℕ → Scalar → NestState
kept_at n k x = with_memory n (with_kept (memory_of n.cells) k x)

pub set_here : {A : Type 0} (f : ℕ → A) (k : ℕ) (a : A) → set_at f k a k ≡ a
set_here f k a = grind arith

pub from_kept : (k j : ℕ) (n : NestState) (x : Scalar) → k ≤ j → From k n (kept_at n j x)
from_kept k j n x up = record {
  plain = refl;
  kept = λ i below. set_other n.cells.temps.setting.kept j i x (λ e. absurd (omega (arith, e, below, up)));
  pending = refl;
}

-- ---- trees

module _ (constants : List Scalar) (calls : Caller) (scalls : trees.Caller) (line : ℕ) where
  abbrev pub value : List ℕ → Tree → Step Scalar
  value turn t = element cells_of constants (applied calls) line turn t

  abbrev pub values : List ℕ → Trees → Step (List (ℕ × Scalar))
  values turn ts = elements cells_of constants (applied calls) line turn ts

  pub record Stands (k : ℕ) (s : Sort) (n : NestState) (t : Tree) (u : trees.Tree) : Type 0 where
    pub result : Result Scalar FaultKind
    pub nest : (turn : List ℕ) (n' : NestState) → Later k n n' → value turn t n' ≡ given line result n'
    pub source : (i : ℕ) (p : State) → trees.element scalls line u i p ≡ source.given line result p
    pub typed : (x : Scalar) → result ≡ Ok x → HasSort s x
    pub shape : trees.shape u ≡ Ok []

  pub stands_later : (k k' : ℕ) (s : Sort) (n n' : NestState) (t : Tree) (u : trees.Tree) → k ≤ k' → Later k n n' → Stands k s n t u
      → Stands k' s n' t u
  stands_later k k' s n n' t u up h st = record {
    result = st.result;
    nest = λ turn m l. st.nest turn m (later_then k k' n n' m up h l);
    source = st.source;
    typed = st.typed;
    shape = st.shape;
  }

  pub reads_kept : (turn : List ℕ) (j : ℕ) (x : Scalar) (m : NestState) → kept_in m j ≡ x
      → value turn (Fixed j) m ≡ given line (Ok x) m
  unfolding sees given
  reads_kept turn j x m h = rw h refl

  held_source : (i : ℕ) (x : Scalar) (p : State) → trees.element scalls line (trees.held (scalar_value x)) i p ≡ source.given line
      (Ok x) p
  unfolding source.given
  held_source i x p = refl

  -- a value alone
  pub stands_kept : (k j : ℕ) (s : Sort) (n : NestState) (x : Scalar) → j < k → kept_in n j ≡ x → HasSort s x
      → Stands k s n (Fixed j) (trees.held (scalar_value x))
  stands_kept k j s n x below e typed = record {
    result = Ok x;
    nest = λ turn m l. reads_kept turn j x m (l.kept j below ∙ e);
    source = λ i p. held_source i x p;
    typed = λ y h. subst (HasSort s) (ok_same x y h) typed;
    shape = refl;
  }
