-- A store into a scalar variable, by a nest's statement and by the source.
use Rattle.std.proofs.Common.{◌≡◌, refl, sym, ap, subst, ◌∙◌, ℕ, zero, suc, ◌<◌, arith, List, [], ◌∷◌}
use Rattle.std.specs.Prelude.{Some, None, Ok, Err, ◌⊎◌, length, slice_index_or, slice_set, filter_map, zip}
use Rattle.std.proofs.Common.{inl, inr}
use Rattle.std.proofs.lemmas.List.{get_or-set_other, get_or-set_same}
use Rattle.std.proofs.lemmas.Option.{none-some, same_Some}
use Rattle.std.proofs.lemmas.Bool.{cases_eq}
use Rattle.a95_base.specs.declared.fault.FaultKind.TheVariants as fault
use Rattle.a95_base.specs.declared.fault.FaultKind.{FaultKind}
use Rattle.a95_base.specs.declared.scalar.Scalar.{Scalar}
use Rattle.a95_base.specs.declared.scalar.Scalar.TheVariants as scalar
use Rattle.a95_base.specs.Steps.{pure, stop, behind as goes_on, ◌>>=◌, ◌>>◌}
use Rattle.f95_unit.specs.Plain.{Program, Entity, at, Whole, AllOf}
use Rattle.array_meaning.specs.State as source
use Rattle.array_meaning.specs.State.{State, Variable, no_variable, changed}
use Rattle.array_meaning.specs.Trees as trees
use Rattle.array_meaning.specs.Expressions.{designate}
use Rattle.array_meaning.specs.Assignments.{fitting, has_shape_of, truths_under, store_of}
use Rattle.array_meaning.specs.Sections.{is_one_one}
use Rattle.array_meaning.specs.Control.{Next}
use Rattle.nest_tree.specs.declared.access.Name.TheVariants as name
use Rattle.nest_tree.specs.declared.unit.Sort.{Sort}
use Rattle.nest_tree.specs.Plain.{Tree}
use Rattle.nest_tree.specs.State.{NestState, memory_of, with_memory, with_block, By, sees, given, changes}
use Rattle.nest_tree.specs.Statements.{Caller, acts}
use Rattle.control_lower.specs.Trees.{sort_at}
use Rattle.control_lower.specs.Units.{store}
use Rattle.control_lower.proofs.Stands.{HasSort, Holds, HoldsOne, value}
use Rattle.control_lower.proofs.Parts.{designate_scalar}

-- ---- the variable after a store

abbrev pub variable_after : Variable → Scalar → Scalar → Variable
variable_after v old x = record v { held = Some (record { bounds = []; elements = changed v.blank None old x ∷ [] }) }

abbrev pub plain_after : State → ℕ → Scalar → Scalar → State
plain_after p j old x =
    record p { variables = slice_set p.variables j (variable_after (slice_index_or p.variables j no_variable) old x) }

abbrev pub nest_after : NestState → ℕ → Scalar → Scalar → NestState
nest_after n j old x = with_memory n (with_block (memory_of n.cells) (name.Own j)
    (variable_after (slice_index_or n.cells.plain.variables j no_variable) old x))

changed_sort : (s : Sort) (blank old x : Scalar) → HasSort s blank → HasSort s x → HasSort s (changed blank None old x)
changed_sort s (scalar.Int z) old x h g = g
changed_sort s (scalar.Log b) old x h g = g
changed_sort s (scalar.Text bytes) old x h g = h

pub after_holds : (s : Sort) (v : Variable) (x : Scalar) → (one : HoldsOne s v) → HasSort s x
    → HoldsOne s (variable_after v one.value x)
after_holds s v x one h = record {
  value = changed v.blank None one.value x;
  held = refl;
  typed = changed_sort s v.blank one.value x one.like h;
  like = one.like;
}

-- a variable that holds something stands in the list
beyond : (vs : List Variable) (j : ℕ) → (j < length vs) ⊎ (slice_index_or vs j no_variable ≡ no_variable)
beyond [] j = inr refl
beyond (v ∷ vs) zero = inl (omega arith)
beyond (v ∷ vs) (suc j) = next (beyond vs j)
  where
    next : (j < length vs) ⊎ (slice_index_or vs j no_variable ≡ no_variable)
        → (suc j < suc (length vs)) ⊎ (slice_index_or vs j no_variable ≡ no_variable)
    next (inl h) = inl (omega (arith, h))
    next (inr h) = inr h

is_there : (s : Sort) (vs : List Variable) (j : ℕ) → HoldsOne s (slice_index_or vs j no_variable) → j < length vs
is_there s vs j one = by (beyond vs j)
  where
    by : (j < length vs) ⊎ (slice_index_or vs j no_variable ≡ no_variable) → j < length vs
    by (inl h) = h
    by (inr e) = absurd (none-some (record { bounds = []; elements = one.value ∷ [] }) (sym (ap (λ v. v.held) e) ∙ one.held))

holds_at : (entities : List Entity) (vs : List Variable) (j : ℕ) (s : Sort) (v : Variable) → Holds entities vs → j < length vs
    → sort_at entities j ≡ Some s
    → HoldsOne s v → (i : ℕ) (t : Sort) → sort_at entities i ≡ Some t → (i ≡ j) ⊎ (i ≡ j → ⊥)
    → HoldsOne t (slice_index_or (slice_set vs j v) i no_variable)
holds_at entities vs j s v holds there h one i t g (inl e) =
    let same : s ≡ t = same_Some s t (sym h ∙ ap (λ k. sort_at entities k) (sym e) ∙ g) in
    subst (λ w. HoldsOne t w) (sym (ap (λ k. slice_index_or (slice_set vs j v) k no_variable) e
    ∙ get_or-set_same vs j v no_variable there))
    (subst (λ w. HoldsOne w v) same one)
holds_at entities vs j s v holds there h one i t g (inr out) =
    subst (λ w. HoldsOne t w) (sym (get_or-set_other vs j i v no_variable out)) (holds.holds i t g)

pub holds_after : (entities : List Entity) (vs : List Variable) (j : ℕ) (s : Sort) (x : Scalar) → Holds entities vs
    → (h : sort_at entities j ≡ Some s)
    → (one : HoldsOne s (slice_index_or vs j no_variable)) → HasSort s x
    → Holds entities (slice_set vs j (variable_after (slice_index_or vs j no_variable) one.value x))
holds_after entities vs j s x holds h one typed = record {
  holds = λ i t g. holds_at entities vs j s (variable_after (slice_index_or vs j no_variable) one.value x) holds
      (is_there s vs j one) h
      (after_holds s (slice_index_or vs j no_variable) x one typed) i t g (cases_eq i j);
}

-- ---- the statements

module _ (unit : Program) (calls : Caller) (scalls : trees.Caller) (line : ℕ) where
  pub store_ok : (j : ℕ) (t : Tree) (old x : Scalar) (n : NestState)
      → value unit.constants calls scalls line [] t n ≡ given line (Ok x) n
      → (slice_index_or n.cells.plain.variables j no_variable).held ≡ Some (record { bounds = []; elements = old ∷ [] })
      → acts unit.constants calls [] (store line j t) n ≡ pure Next (nest_after n j old x)
  unfolding ◌>>=◌ ◌>>◌ goes_on given sees changes pure
  store_ok j t old x n h g = rw (g, h) (rw g refl)

  pub store_err : (j : ℕ) (t : Tree) (old : Scalar) (kind : FaultKind) (n : NestState)
      → value unit.constants calls scalls line [] t n ≡ given line (Err kind) n
      → (slice_index_or n.cells.plain.variables j no_variable).held ≡ Some (record { bounds = []; elements = old ∷ [] })
      → acts unit.constants calls [] (store line j t) n ≡ stop (By (source.Faults kind line)) n
  unfolding ◌>>=◌ ◌>>◌ goes_on given sees changes pure stop
  store_err j t old kind n h g = rw (g, h) refl

  pub store_one_is : (j : ℕ) (old x : Scalar) (p : State)
      → (slice_index_or p.variables j no_variable).held ≡ Some (record { bounds = []; elements = old ∷ [] })
      → source.store_one j x p ≡ pure tt (plain_after p j old x)
  unfolding source.store_all source.set_variable
  store_one_is j old x p h = rw h refl

  -- the end of an assignment, behind the parts of its value
  abbrev pub rest_of : ℕ → trees.Tree → source.Step (Unit {0})
  rest_of j t = do
    s ← designate unit scalls line [] (at j Whole AllOf)
    source.given line (fitting (trees.shape t) s.extents)
    source.unless (has_shape_of None s.extents) fault.Shape line
    source.unless (is_one_one s.places) fault.ManyOne line
    xs ← trees.masked_from scalls line 0 (truths_under None s.extents) t
    source.store_all s.variable s.bytes (filter_map store_of (zip s.places xs))

  pub rest_ok : (j : ℕ) (u : trees.Tree) (old x : Scalar) (p : State) → trees.shape u ≡ Ok []
      → trees.element scalls line u 0 p ≡ source.given line (Ok x) p
      → (slice_index_or p.variables j no_variable).held ≡ Some (record { bounds = []; elements = old ∷ [] })
      → (rest_of j u >> pure Next) p ≡ pure Next (plain_after p j old x)
  unfolding ◌>>=◌ ◌>>◌ goes_on source.given source.unless trees.masked_from source.store_all source.set_variable pure
  rest_ok j u old x p h g k = rw (designate_scalar unit calls scalls line j old p k) (rw h (rw g (rw k refl)))

  pub rest_err : (j : ℕ) (u : trees.Tree) (old : Scalar) (kind : FaultKind) (p : State) → trees.shape u ≡ Ok []
      → trees.element scalls line u 0 p ≡ source.given line (Err kind) p
      → (slice_index_or p.variables j no_variable).held ≡ Some (record { bounds = []; elements = old ∷ [] })
      → (rest_of j u >> pure Next) p ≡ stop (source.Faults kind line) p
  unfolding ◌>>=◌ ◌>>◌ goes_on source.given source.unless trees.masked_from source.store_all source.set_variable pure stop
  rest_err j u old kind p h g k = rw (designate_scalar unit calls scalls line j old p k) (rw h (rw g refl))
