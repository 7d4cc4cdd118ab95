-- The parts of an expression, each once, in the order of the text, an inner part before the one that contains it: subscripts,
-- bounds and scalar array elements, constructors, references to functions that aren't elemental, and references whose value is a
-- scalar. What is left is the element tree. An array designator is tested and read at its place among the parts.
use Rattle.std.specs.Prelude.{ℕ, ℤ, pos, zero, suc, ◌+ℤ◌, Bool, true, false, not, ◌&&◌, nat_le, Option, Some, None, is_some, List}
use Rattle.std.specs.Prelude.{[], ◌∷◌, ◌++◌, map, length, slice_index_or}
use Rattle.std.specs.Ordering.{int_eq}
use Rattle.a95_base.specs.declared.fault.FaultKind.TheVariants as fault
use Rattle.a95_base.specs.declared.scalar.Scalar.{Scalar}
use Rattle.a95_base.specs.declared.scalar.Scalar.TheVariants as scalar
use Rattle.a95_base.specs.declared.scalar.Kind.TheVariants as kind
use Rattle.a95_base.specs.Steps.{pure, ◌>>=◌, ◌>>◌}
use Rattle.a95_base.specs.Limits.{most_elements}
use Rattle.a95_base.specs.Text.{trim}
use Rattle.f95_unit.specs.declared.facts.Facts.{Facts}
use Rattle.f95_unit.specs.declared.operation.Inquiry.{Inquiry}
use Rattle.f95_unit.specs.declared.operation.Inquiry.TheVariants as inquiry
use Rattle.f95_unit.specs.declared.operation.Reduction.{Reduction}
use Rattle.f95_unit.specs.declared.operation.Reduction.TheVariants as reduction
use Rattle.f95_unit.specs.declared.unit.DeclaredType.{DeclaredType}
use Rattle.f95_unit.specs.declared.unit.DeclaredType.TheVariants as declared
use Rattle.f95_unit.specs.declared.unit.Length.TheVariants as long
use Rattle.f95_unit.specs.Plain.{Expr, typed, Literal, Constant, Index, Named, Brackets, Unary, Binary, Constructor, Elementwise}
use Rattle.f95_unit.specs.Plain.{Trim, Asked, Reduced, Rearranged, Called, Designator, at, Access, Whole, Subscripted, Subscripts}
use Rattle.f95_unit.specs.Plain.{no_subscript, subscript, Subscript, One, Vector, SubscriptTriplet, Bound, Absent, Given, Part}
use Rattle.f95_unit.specs.Plain.{AllOf, BytesOf, Items, no_item, value, loop, Arguments, no_argument, argument, Subject, Name, Of}
use Rattle.f95_unit.specs.Plain.{call, no_stmt, Entity, Procedure, Program}
use Rattle.array_meaning.specs.Values.{Value, nothing, integer_of, truth_of, text_of, length_of, blank_of, scalar_value}
use Rattle.array_meaning.specs.Values.{vector_value, only}
use Rattle.array_meaning.specs.Scalars.{elemental_of}
use Rattle.array_meaning.specs.State.{Dimension, counted_from_one, Variable, Step, unless, choose, given, allocated_array, turn}
use Rattle.array_meaning.specs.State.{variable}
use Rattle.array_meaning.specs.Sections.{Picked, Single, Listed, Stepped, triplet_count, all_picked, Section, placed, read_section}
use Rattle.array_meaning.specs.Reductions.{inquired, reduction_of}
use Rattle.array_meaning.specs.Rearrangements.{rearrangement_of}
use Rattle.array_meaning.specs.Trees.{Tree, Held, UnaryOf, BinaryOf, Each, CallEach, Trees, no_tree, tree, held, bracketed, Passed}
use Rattle.array_meaning.specs.Trees.{Caller, shape, like, valued, passed, paired}

-- ---- what an expression carries

abbrev pub facts_of : Expr → Facts
facts_of (typed facts node) = facts

abbrev pub has_no_extents : List (Option ℕ) → Bool
has_no_extents [] = true
has_no_extents (n ∷ more) = false

abbrev pub is_scalar_expr : Expr → Bool
is_scalar_expr e = has_no_extents (facts_of e).extents

abbrev pub known_length : Option ℕ → ℕ
known_length None = 0
known_length (Some n) = n

-- what an element of a constructor is like
abbrev pub like_facts : Facts → Scalar
like_facts facts = blank_of facts.kind (known_length facts.length)

-- ---- declarations

-- what a variable of a type starts with; a length `*` is that of the actual
abbrev pub blank_of_type : DeclaredType → Scalar
blank_of_type declared.Integer = blank_of kind.Int 0
blank_of_type declared.Logical = blank_of kind.Log 0
blank_of_type (declared.Character (long.Fixed n)) = blank_of kind.Text n
blank_of_type (declared.Character long.Assumed) = blank_of kind.Text 0

-- a procedure by its number
abbrev pub no_procedure : Procedure
no_procedure = record { line = 0; recursive = false; pure = false; elemental = false; entities = []; result = None; body = no_stmt }

abbrev pub procedure_at : Program → ℕ → Procedure
procedure_at unit p = slice_index_or unit.procedures p no_procedure

-- what the result of a function is like
abbrev pub blank_at : List Entity → ℕ → Scalar
blank_at [] n = nothing
blank_at (e ∷ more) zero = blank_of_type e.of
blank_at (e ∷ more) (suc n) = blank_at more n

abbrev pub like_result : List Entity → Option ℕ → Scalar
like_result entities None = nothing
like_result entities (Some n) = blank_at entities n

abbrev pub result_like : Procedure → Scalar
result_like q = like_result q.entities q.result

-- ---- steps on integers

-- the value of a scalar INTEGER expression
abbrev pub number_of_value : Step Value → Step ℤ
number_of_value evaluated = do
  v ← evaluated
  pure (integer_of (only v))

-- the rounds of an implied DO: a turn, and what the values of its body add
unfoldable pub rounds : ℕ → ℤ → ℤ → (ℤ → List Scalar → Step (List Scalar)) → List Scalar → Step (List Scalar)
rounds zero i step body xs = pure xs
rounds (suc n) i step body xs = do
  turn
  ys ← body i xs
  rounds n (i +ℤ step) step body ys

-- a constructor's values with those of one more: the limit is tested right behind it
abbrev pub gathered : ℕ → List Scalar → Value → Step (List Scalar)
gathered line xs v = do
  unless (nat_le (length (xs ++ v.elements)) most_elements) fault.TooLarge line
  pure (xs ++ v.elements)

-- what is asked about the variable of a bare name: ALLOCATED of any, the rest of one that is allocated
abbrev pub asked : ℕ → Inquiry → Option ℕ → Variable → Step Value
asked line inquiry.Allocated dim v = pure (scalar_value (scalar.Log (is_some v.held)))
asked line which dim v = do
  a ← allocated_array line v.held
  pure (inquired which dim a.bounds v.blank)

-- MATMUL evaluates its arguments one after the other; so do references with an argument that is a scalar
abbrev pub is_place_by_place : Reduction → Expr → Expr → Bool
is_place_by_place reduction.Matmul e f = false
is_place_by_place which e f = not (is_scalar_expr e) && not (is_scalar_expr f)

module _ (unit : Program) (calls : Caller) (line : ℕ) where
  abbrev mutual
    -- the parts of an expression; `ix` has the values of the indices of FORALL and implied DO that stand around
    pub prepare : List ℤ → Expr → Step Tree
    prepare ix (typed f (Literal x)) = pure (held (scalar_value x))
    prepare ix (typed f (Constant n)) = pure (held (scalar_value (slice_index_or unit.constants n nothing)))
    prepare ix (typed f (Index k)) = pure (held (scalar_value (scalar.Int (slice_index_or ix k (pos 0)))))
    prepare ix (typed f (Named d)) = do
      s ← designate ix d
      v ← read_section line s
      pure (Held v (Some s))
    prepare ix (typed f (Brackets e)) = do
      t ← prepare ix e
      pure (bracketed t)
    prepare ix (typed f (Unary op e)) = do
      t ← prepare ix e
      pure (UnaryOf op t)
    prepare ix (typed f (Binary op e g)) = do
      t ← prepare ix e
      u ← prepare ix g
      pure (BinaryOf op t u)
    prepare ix (typed f (Constructor items)) = do
      xs ← gather ix items []
      pure (held (vector_value (like_facts f) xs))
    -- a reference to an elemental function is a part where it is a scalar
    prepare ix (typed f (Elementwise which es)) =
        choose (has_no_extents f.extents)
        (do
          vs ← values ix es
          x ← given line (elemental_of which (map (λ v. (v.0, only v.1)) vs))
          pure (held (scalar_value x)))
        (do
          ts ← trees ix es
          pure (Each which ts))
    prepare ix (typed f (Trim e)) = do
      v ← valued calls line (prepare ix e)
      pure (held (scalar_value (scalar.Text (trim (text_of (only v))))))
    prepare ix (typed f (Asked which dim subject)) = do
      v ← answer ix which dim subject
      pure (held v)
    prepare ix (typed f (Reduced which dim es)) = do
      vs ← reduction_values ix which es
      v ← given line (reduction_of which dim vs)
      pure (held v)
    prepare ix (typed f (Rearranged which dim es)) = do
      vs ← values ix es
      v ← given line (rearrangement_of which dim vs)
      pure (held v)
    prepare ix (typed f (Called (call p es))) =
        choose ((procedure_at unit p).elemental && not (has_no_extents f.extents))
        (do
          ts ← trees ix es
          pure (CallEach p (result_like (procedure_at unit p)) ts))
        (do
          vs ← actuals ix es
          v ← calls p line vs
          pure (held v))

    -- arguments: of an elemental reference the trees, else each evaluated wholly before the next one
    pub trees : List ℤ → Arguments → Step Trees
    trees ix no_argument = pure no_tree
    trees ix (argument place e es) = do
      t ← prepare ix e
      ts ← trees ix es
      pure (tree place t ts)

    pub values : List ℤ → Arguments → Step (List (ℕ × Value))
    values ix no_argument = pure []
    values ix (argument place e es) = do
      v ← valued calls line (prepare ix e)
      vs ← values ix es
      pure ((place, v) ∷ vs)

    pub actuals : List ℤ → Arguments → Step (List (ℕ × Passed))
    actuals ix no_argument = pure []
    actuals ix (argument place e es) = do
      v ← passed calls line (prepare ix e)
      vs ← actuals ix es
      pure ((place, v) ∷ vs)

    -- two array arguments of a reduction are evaluated place by place
    pub reduction_values : List ℤ → Reduction → Arguments → Step (List (ℕ × Value))
    reduction_values ix which no_argument = pure []
    reduction_values ix which (argument place e no_argument) = do
      v ← valued calls line (prepare ix e)
      pure ((place, v) ∷ [])
    reduction_values ix which (argument place e (argument other g more)) =
        choose (is_place_by_place which e g)
        (paired calls line place other (prepare ix e) (prepare ix g))
        (do
          v ← valued calls line (prepare ix e)
          w ← valued calls line (prepare ix g)
          pure ((place, v) ∷ (other, w) ∷ []))

    -- an inquiry evaluates the parts of what it asks about, and no element
    pub answer : List ℤ → Inquiry → Option ℕ → Subject → Step Value
    answer ix which dim (Name n) = do
      v ← variable n
      asked line which dim v
    answer ix which dim (Of e) = do
      t ← prepare ix e
      extents ← given line (shape t)
      pure (inquired which dim (counted_from_one extents) (like t))

    -- a designator: allocated, then its subscripts, then the bounds of a substring, then its tests
    pub designate : List ℤ → Designator → Step Section
    designate ix (at n access part) = do
      v ← variable n
      a ← allocated_array line v.held
      picked ← pick ix a.bounds access
      bounds ← part_bounds ix (length_of v.blank) part
      placed line n v a picked bounds

    pub pick : List ℤ → List Dimension → Access → Step (List Picked)
    pick ix bounds Whole = pure (all_picked bounds)
    pick ix bounds (Subscripted ss) = pick_each ix bounds ss

    pub pick_each : List ℤ → List Dimension → Subscripts → Step (List Picked)
    pick_each ix bounds no_subscript = pure []
    pick_each ix [] (subscript s ss) = pure []
    pick_each ix (d ∷ bounds) (subscript s ss) = do
      picked ← pick_one ix d s
      more ← pick_each ix bounds ss
      pure (picked ∷ more)

    -- bounds that a triplet leaves out are the declared ones
    pub pick_one : List ℤ → Dimension → Subscript → Step Picked
    pick_one ix d (One e) = do
      i ← number_of_value (valued calls line (prepare ix e))
      pure (Single i)
    pick_one ix d (Vector e) = do
      v ← valued calls line (prepare ix e)
      pure (Listed (map integer_of v.elements))
    pick_one ix d (SubscriptTriplet first last stride) = do
      f ← bound_or ix d.lower first
      l ← bound_or ix d.upper last
      s ← bound_or ix (pos 1) stride
      pure (Stepped f l s)

    pub bound_or : List ℤ → ℤ → Bound → Step ℤ
    bound_or ix absent Absent = pure absent
    bound_or ix absent (Given e) = number_of_value (valued calls line (prepare ix e))

    pub part_bounds : List ℤ → ℕ → Part → Step (Option (ℤ × ℤ))
    part_bounds ix len AllOf = pure None
    part_bounds ix len (BytesOf first last) = do
      f ← bound_or ix (pos 1) first
      l ← bound_or ix (pos len) last
      pure (Some (f, l))

    -- the values of a constructor, one after the other, behind those that stand already
    pub gather : List ℤ → Items → List Scalar → Step (List Scalar)
    gather ix no_item xs = pure xs
    gather ix (value e more) xs = do
      v ← valued calls line (prepare ix e)
      ys ← gathered line xs v
      gather ix more ys
    gather ix (loop body first last step more) xs = do
      f ← number_of_value (valued calls line (prepare ix first))
      l ← number_of_value (valued calls line (prepare ix last))
      s ← bound_or ix (pos 1) step
      unless (not (int_eq s (pos 0))) fault.ZeroStep line
      ys ← rounds (triplet_count f l s) f s (λ i zs. gather (ix ++ i ∷ []) body zs) xs
      gather ix more ys

  -- the value of an expression, of a scalar INTEGER one, of a scalar LOGICAL one
  abbrev pub evaluate : List ℤ → Expr → Step Value
  evaluate ix e = valued calls line (prepare ix e)

  abbrev pub integer : List ℤ → Expr → Step ℤ
  integer ix e = number_of_value (evaluate ix e)

  abbrev pub truth : List ℤ → Expr → Step Bool
  truth ix e = do
    v ← evaluate ix e
    pure (truth_of (only v))
