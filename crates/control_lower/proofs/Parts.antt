-- An expression's parts, and the tree that is left: the statements come to what preparing it comes to, and the tree stands for the
-- element tree.
use Rattle.std.proofs.Common.{◌≡◌, refl, sym, ap, subst, ◌∙◌, ℕ, suc, ◌<◌, ◌≤◌, arith, length-append, Bool, true, List, [], ◌∷◌}
use Rattle.std.proofs.Common.{◌++◌}
use Rattle.std.specs.Prelude.{Option, Some, None, Result, Ok, Err, length, map, pos, slice_get, slice_index_or, unwrap_or}
use Rattle.std.proofs.lemmas.Option.{unwrap_or-slice_get, none-some}
use Rattle.a95_base.specs.declared.fault.FaultKind.{FaultKind}
use Rattle.a95_base.specs.declared.scalar.Scalar.{Scalar}
use Rattle.a95_base.specs.declared.scalar.Scalar.TheVariants as scalar
use Rattle.a95_base.specs.Steps.{pure, stop, behind as goes_on, ◌>>=◌, ◌>>◌}
use Rattle.a95_base.specs.Text.{trim}
use Rattle.a95_base.specs.Integer.{wrapped}
use Rattle.f95_unit.specs.declared.facts.Facts.{Facts}
use Rattle.f95_unit.specs.declared.operation.Inquiry.TheVariants as inquiry
use Rattle.f95_unit.specs.declared.operation.UnaryOp.{UnaryOp}
use Rattle.f95_unit.specs.declared.operation.BinaryOp.{BinaryOp}
use Rattle.f95_unit.specs.declared.operation.Elemental.{Elemental}
use Rattle.a95_base.proofs.Steps.{assoc}
use Rattle.f95_unit.specs.Plain.{Program, Entity, Expr, typed, Literal, Constant, Index, Named, Brackets, Unary, Binary}
use Rattle.f95_unit.specs.Plain.{Constructor, Elementwise, Trim, Asked, Reduced, Rearranged, Called, at, Whole, Subscripted, AllOf}
use Rattle.f95_unit.specs.Plain.{BytesOf, Arguments, no_argument, argument, Name, Of}
use Rattle.array_meaning.specs.Values.{Value, scalar_value, only, text_of, length_of, nothing}
use Rattle.array_meaning.specs.Scalars.{elemental_of}
use Rattle.array_meaning.specs.State as source
use Rattle.array_meaning.specs.State.{State, Array, Variable, no_variable}
use Rattle.array_meaning.specs.Sections.{Section, read_section}
use Rattle.array_meaning.specs.Trees as trees
use Rattle.array_meaning.specs.Expressions.{prepare, designate, evaluate, values as source_values, trees as source_trees}
use Rattle.array_meaning.specs.Expressions.{has_no_extents}
use Rattle.array_meaning.specs.Control.{Next}
use Rattle.nest_tree.specs.declared.unit.Sort.{Sort}
use Rattle.nest_tree.specs.declared.unit.Sort.TheVariants as sort
use Rattle.nest_tree.specs.declared.access.Name.TheVariants as name
use Rattle.nest_tree.specs.declared.tree.Question.TheVariants as question
use Rattle.nest_tree.specs.Plain as nest
use Rattle.nest_tree.specs.Plain.{Tree, Trees, Fixed, Set, no_tree, tree, Statements, no_statement, statement, joined}
use Rattle.nest_tree.specs.State.{NestState, By, sees, given}
use Rattle.nest_tree.specs.Statements.{Caller}
use Rattle.nest_tree.specs.Sound.{sort_of_some, unary_sort, binary_sort}
use Rattle.control_lower.specs.Trees.{sort_of, sort_of_expr, sorts_of, sort_at, Lowered, one, held, whole, lowered, arguments}
use Rattle.control_lower.proofs.Agree.{Agrees, agrees_pure, agrees_stop, agrees_map, run, Ends, parts_then, run_next, run_halt}
use Rattle.control_lower.proofs.Agree.{run_none}
use Rattle.control_lower.proofs.Stands.{HasSort, Holds, HoldsOne, Later, From, from_here, from_then, later_of, kept_in, kept_at}
use Rattle.control_lower.proofs.Stands.{set_here, from_kept, value, values, Stands, stands_later, stands_kept, ok_same, err_ok}
use Rattle.control_lower.proofs.Stands.{err_same}
use Rattle.control_lower.proofs.Operators.{stands_unary, stands_binary, one_result, nest_one, IsAlone, only_is, whole_ok, whole_err}
use Rattle.control_lower.proofs.Operators.{set_ok, set_err}
use Rattle.control_lower.proofs.Sorts.{AreOf, wrapped_sort, unary_gives, binary_gives, elemental_gives}
use Rattle.control_lower.proofs.Premises.{AreScalars, IsScalar}

-- ---- more scalars are taken

pub taken_more : (xs : List Sort) (s : Sort) → length (xs ++ s ∷ []) ≡ suc (length xs)
taken_more xs s = length-append xs (s ∷ []) ∙ omega arith

mutual
  pub taken_grow : (line : ℕ) (e : Expr) (taken : List Sort) → length taken ≤ length (lowered line taken e).scalars
  taken_grow line (typed f (Literal x)) taken = omega arith
  taken_grow line (typed f (Constant n)) taken = omega arith
  taken_grow line (typed f (Index k)) taken = omega arith
  taken_grow line (typed f (Named d)) taken = omega arith
  taken_grow line (typed f (Brackets e)) taken = taken_grow line e taken
  taken_grow line (typed f (Unary op e)) taken = taken_grow line e taken
  taken_grow line (typed f (Binary op e g)) taken =
      omega (arith, taken_grow line e taken, taken_grow line g (lowered line taken e).scalars)
  taken_grow line (typed f (Constructor items)) taken = omega arith
  taken_grow line (typed f (Elementwise which es)) taken =
      omega (arith, arguments_grow line es taken, taken_more (arguments line taken es).scalars (sort_of f))
  taken_grow line (typed f (Trim e)) taken = omega (
    arith,
    taken_grow line e taken,
    taken_more (lowered line taken e).scalars
        sort.Text,
  )
  taken_grow line (typed f (Asked which dim (Name n))) taken = omega arith
  taken_grow line (typed f (Asked which dim (Of e))) taken = omega arith
  taken_grow line (typed f (Reduced which dim es)) taken = omega arith
  taken_grow line (typed f (Rearranged which dim es)) taken = omega arith
  taken_grow line (typed f (Called c)) taken = omega arith

  pub arguments_grow : (line : ℕ) (es : Arguments) (taken : List Sort) → length taken ≤ length (arguments line taken es).scalars
  arguments_grow line no_argument taken = omega arith
  arguments_grow line (argument place e es) taken =
      omega (
        arith,
        taken_grow line e taken,
        taken_more (lowered line taken e).scalars (sort_of_expr e),
        arguments_grow line es ((lowered line taken e).scalars ++ sort_of_expr e ∷ []),
      )

pub holds_from : (entities : List Entity) (k : ℕ) (n n' : NestState) → From k n n' → Holds entities n.cells.plain.variables
    → Holds entities n'.cells.plain.variables
holds_from entities k n n' h holds = rw h.plain holds

module _ (unit : Program) (calls : Caller) (scalls : trees.Caller) (line : ℕ) where
  pub record Prepared (k k' : ℕ) (s : Sort) (n : NestState) (t : Tree) (u : trees.Tree) (n' : NestState) : Type 0 where
    pub from : From k n n'
    pub stands : Stands unit.constants calls scalls line k' s n' t u

  -- a value that a scalar holds
  pub record Valued (k j : ℕ) (s : Sort) (n : NestState) (v : Value) (n' : NestState) : Type 0 where
    pub from : From k n n'
    pub alone : IsAlone unit.constants calls scalls line v (kept_in n' j)
    pub typed : HasSort s (kept_in n' j)

  module _ (k j : ℕ) (s : Sort) (n : NestState) (up : k ≤ j) where
    kept_by : (t : Tree) (u : trees.Tree) (n' : NestState) → From k n n' → trees.shape u ≡ Ok [] → (r : Result Scalar FaultKind)
        → value unit.constants calls scalls line [] t n' ≡ given line r n'
        → trees.element scalls line u 0 n'.cells.plain ≡ source.given line r n'.cells.plain
        → ((x : Scalar) → r ≡ Ok x → HasSort s x)
        → Agrees (Ends (Valued k j s n)) (run unit.constants calls (statement (Set line j t) no_statement) n')
        (trees.whole scalls line u n'.cells.plain)
    kept_by t u n' from shape (Ok x) e g sorted =
        rw (
          run_next unit.constants calls (Set line j t) no_statement n' (kept_at n' j x)
              (set_ok unit.constants calls scalls line j t x n' e),
          run_none unit.constants calls (kept_at n' j x),
          whole_ok unit.constants calls scalls line u x n'.cells.plain shape g,
        )
        (agrees_pure (Ends (Valued k j s n)) Next (record { extents = []; like = trees.like u; elements = x ∷ [] })
        (kept_at n' j x) n'.cells.plain refl (
          refl,
          record {
            from = from_then k k n n' (kept_at n' j x) (omega arith) from (from_kept k j n' x up);
            alone = record { extents = refl; elements = ap (λ y. y ∷ []) (sym (set_here n'.cells.temps.setting.kept j x)) };
            typed = subst (HasSort s) (sym (set_here n'.cells.temps.setting.kept j x)) (sorted x refl);
          },
        ))
    kept_by t u n' from shape (Err kind) e g sorted =
        rw (
          run_halt unit.constants calls (Set line j t) no_statement (By (source.Faults kind line)) n' n'
              (set_err unit.constants calls scalls line j t kind n' e),
          whole_err unit.constants calls scalls line u kind n'.cells.plain
              shape g,
        )
        (agrees_stop (Ends (Valued k j s n)) (source.Faults kind line) n' n'.cells.plain refl)

    -- the value held
    pub held_ends : (l : Lowered) (prep : source.Step trees.Tree) (p : State) → length l.scalars ≡ j
        → Agrees (Ends (Prepared k j s n l.tree)) (run unit.constants calls l.parts n) (prep p)
        → Agrees (Ends (Valued k j s n)) (run unit.constants calls (held line s l).parts n) (trees.valued scalls line prep p)
    held_ends l prep p e h = rw e
        (parts_then unit.constants calls (Prepared k j s n l.tree) (Ends (Valued k j s n)) l.parts
        (statement (Set line j l.tree) no_statement)
        prep (trees.whole scalls line) n p h
        (λ u n' r. kept_by l.tree u n' r.from r.stands.shape r.stands.result
        (r.stands.nest [] n' (later_of j j n' n' (omega arith) (from_here j n')))
        (r.stands.source 0 n'.cells.plain) r.stands.typed))

  -- ---- leaves

  leaf : (k : ℕ) (s : Sort) (n : NestState) (t : Tree) (u : trees.Tree) → Stands unit.constants calls scalls line k s n t u
      → Agrees (Ends (Prepared k k s n t)) (run unit.constants calls no_statement n) (pure u n.cells.plain)
  leaf k s n t u st = rw (run_none unit.constants calls n)
      (agrees_pure (Ends (Prepared k k s n t)) Next u n n.cells.plain refl (refl, record { from = from_here k n; stands = st }))

  held_source : (i : ℕ) (x : Scalar) (v : Value) (section : Option Section) (p : State) → v.extents ≡ [] → v.elements ≡ x ∷ []
      → trees.element scalls line (trees.Held v section) i p ≡ source.given line (Ok x) p
  unfolding source.given
  held_source i x v section p e g = rw (e, g) refl

  stands_value : (k : ℕ) (s : Sort) (n : NestState) (t : Tree) (x : Scalar) (v : Value) (section : Option Section)
      → ((turn : List ℕ) (m : NestState) → Later k n m → value unit.constants calls scalls line turn t m ≡ given line (Ok x) m)
      → v.extents ≡ [] → v.elements ≡ x ∷ [] → HasSort s x
      → Stands unit.constants calls scalls line k s n t (trees.Held v section)
  stands_value k s n t x v section gives e g sorted = record {
    result = Ok x;
    nest = gives;
    source = λ i p. held_source i x v section p e g;
    typed = λ y h. subst (HasSort s) (ok_same x y h) sorted;
    shape = ap (λ extents. Ok extents) e;
  }

  constant_by : (x : Option Scalar) (s : Sort) → sort_of_some x ≡ Some s → HasSort s (unwrap_or x nothing)
  constant_by None s h = absurd (none-some s h)
  constant_by (Some x) s h = h

  pub constant_sort : (xs : List Scalar) (n : ℕ) (s : Sort) → sort_of_some (slice_get xs n) ≡ Some s
      → HasSort s (slice_index_or xs n nothing)
  constant_sort xs n s h = subst (HasSort s) (unwrap_or-slice_get xs n nothing) (constant_by (slice_get xs n) s h)

  pub literal_value : (x : Scalar) (turn : List ℕ) (m : NestState)
      → value unit.constants calls scalls line turn (nest.Literal x) m ≡ given line (Ok x) m
  unfolding pure given
  literal_value x turn m = refl

  pub constant_value : (j : ℕ) (turn : List ℕ) (m : NestState)
      → value unit.constants calls scalls line turn (nest.Constant j) m ≡ given line
      (Ok (slice_index_or unit.constants j nothing)) m
  unfolding pure given
  constant_value j turn m = refl

  -- ---- a scalar variable

  read_value : (j : ℕ) (x : Scalar) (turn : List ℕ) (m : NestState)
      → (slice_index_or m.cells.plain.variables j no_variable).held ≡ Some (record { bounds = []; elements = x ∷ [] })
      → value unit.constants calls scalls line turn (nest.Read (whole j)) m ≡ given line (Ok x) m
  unfolding sees given
  read_value j x turn m h = rw h refl

  abbrev pub section_of_scalar : ℕ → Section
  section_of_scalar j = record { variable = j; extents = []; places = 0 ∷ []; bytes = None; addressed = true }

  pub designate_scalar : (j : ℕ) (x : Scalar) (p : State)
      → (slice_index_or p.variables j no_variable).held ≡ Some (record { bounds = []; elements = x ∷ [] })
      → designate unit scalls line [] (at j Whole AllOf) p ≡ pure (section_of_scalar j) p
  unfolding source.variable source.allocated_array source.unless ◌>>=◌ ◌>>◌ goes_on pure
  designate_scalar j x p h = rw h refl

  abbrev value_of_scalar : ℕ → Scalar → State → Value
  value_of_scalar j x p = record { extents = []; like = (slice_index_or p.variables j no_variable).blank; elements = x ∷ [] }

  read_scalar : (j : ℕ) (x : Scalar) (p : State)
      → (slice_index_or p.variables j no_variable).held ≡ Some (record { bounds = []; elements = x ∷ [] })
      → read_section line (section_of_scalar j) p ≡ pure (value_of_scalar j x p) p
  unfolding source.variable source.allocated_array ◌>>=◌ goes_on pure
  read_scalar j x p h = rw h refl

  prepare_scalar : (f : Facts) (j : ℕ) (x : Scalar) (p : State)
      → (slice_index_or p.variables j no_variable).held ≡ Some (record { bounds = []; elements = x ∷ [] })
      → prepare unit scalls line [] (typed f (Named (at j Whole AllOf))) p
      ≡ pure (trees.Held (value_of_scalar j x p) (Some (section_of_scalar j))) p
  unfolding ◌>>=◌ goes_on pure
  prepare_scalar f j x p h = rw (designate_scalar j x p h) (rw (read_scalar j x p h) refl)

  length_value : (j : ℕ) (turn : List ℕ) (m : NestState)
      → value unit.constants calls scalls line turn (nest.Wrapped (nest.Asked question.Length (name.Own j))) m
      ≡ given line (Ok (scalar.Int (wrapped (pos (length_of (slice_index_or m.cells.plain.variables j no_variable).blank))))) m
  unfolding sees given ◌>>=◌ goes_on pure
  length_value j turn m = refl

  prepare_length : (f : Facts) (dim : Option ℕ) (j : ℕ) (x : Scalar) (p : State)
      → (slice_index_or p.variables j no_variable).held ≡ Some (record { bounds = []; elements = x ∷ [] })
      → prepare unit scalls line [] (typed f (Asked inquiry.Len dim (Name j))) p
      ≡ pure (trees.held (scalar_value (scalar.Int (wrapped (pos (length_of (slice_index_or p.variables j no_variable).blank)))))) p
  unfolding source.variable source.allocated_array ◌>>=◌ goes_on pure
  prepare_length f dim j x p h = rw h refl

  bracketed_source : (u : trees.Tree) (i : ℕ) (p : State)
      → trees.element scalls line (trees.bracketed u) i p ≡ trees.element scalls line u i p
  bracketed_source (trees.Held v section) i p = refl
  bracketed_source (trees.UnaryOf op u) i p = refl
  bracketed_source (trees.BinaryOf op u v) i p = refl
  bracketed_source (trees.Each which us) i p = refl
  bracketed_source (trees.CallEach q x us) i p = refl

  bracketed_shape : (u : trees.Tree) → trees.shape (trees.bracketed u) ≡ trees.shape u
  bracketed_shape (trees.Held v section) = refl
  bracketed_shape (trees.UnaryOf op u) = refl
  bracketed_shape (trees.BinaryOf op u v) = refl
  bracketed_shape (trees.Each which us) = refl
  bracketed_shape (trees.CallEach q x us) = refl

  stands_bracketed : (k : ℕ) (s : Sort) (n : NestState) (t : Tree) (u : trees.Tree)
      → Stands unit.constants calls scalls line k s n t u
      → Stands unit.constants calls scalls line k s n t (trees.bracketed u)
  stands_bracketed k s n t u st = record {
    result = st.result;
    nest = st.nest;
    source = λ i p. bracketed_source u i p ∙ st.source i p;
    typed = st.typed;
    shape = bracketed_shape u ∙ st.shape;
  }

  -- ---- arguments

  abbrev pub alone_all : List (ℕ × Value) → List (ℕ × Scalar)
  alone_all vs = map (λ v. (v.0, only v.1)) vs

  pub record Passed (k k' : ℕ) (ss : List (ℕ × Option Sort)) (n : NestState) (ts : Trees) (vs : List (ℕ × Value)) (n' : NestState)
      : Type 0 where
    pub from : From k n n'
    pub nest : (turn : List ℕ) (m : NestState) → Later k' n' m
        → values unit.constants calls scalls line turn ts m ≡ pure (alone_all vs) m
    pub sorts : AreOf ss (alone_all vs)

  fixed_value : (turn : List ℕ) (j : ℕ) (x : Scalar) (m : NestState) → kept_in m j ≡ x
      → value unit.constants calls scalls line turn (Fixed j) m ≡ pure x m
  unfolding sees pure
  fixed_value turn j x m h = rw h refl

  values_more : (turn : List ℕ) (place j : ℕ) (ts : Trees) (x : Scalar) (xs : List (ℕ × Scalar)) (m : NestState) → kept_in m j ≡ x
      → values unit.constants calls scalls line turn ts m ≡ pure xs m
      → values unit.constants calls scalls line turn (tree place (Fixed j) ts) m ≡ pure ((place, x) ∷ xs) m
  unfolding sees pure ◌>>=◌ goes_on
  values_more turn place j ts x xs m h g = rw h (rw g refl)

  passed_more : (k j k' place : ℕ) (s : Sort) (ss : List (ℕ × Option Sort)) (n n' n'' : NestState) (ts : Trees) (v : Value)
      (vs : List (ℕ × Value))
      → k ≤ j → suc j ≤ k' → Valued k j s n v n' → Passed (suc j) k' ss n' ts vs n''
      → Passed k k' ((place, Some s) ∷ ss) n (tree place (Fixed j) ts) ((place, v) ∷ vs) n''
  passed_more k j k' place s ss n n' n'' ts v vs up up' one all =
      let is : kept_in n'' j ≡ only v = all.from.kept j (omega arith)
      ∙ sym (only_is unit.constants calls scalls line v (kept_in n' j) one.alone) in
      record {
        from = from_then k (suc j) n n' n'' (omega (arith, up)) one.from all.from;
        nest = λ turn m l. values_more turn place j ts (only v) (alone_all vs) m (l.kept j (omega (arith, up')) ∙ is)
            (all.nest turn m l);
        sorts = (
          refl,
          sym (subst (HasSort s) (sym (only_is unit.constants calls scalls line v (kept_in n' j) one.alone))
              one.typed),
          all.sorts,
        );
      }

  each_value : (which : Elemental) (ts : Trees) (xs : List (ℕ × Scalar)) (n : NestState)
      → values unit.constants calls scalls line [] ts n ≡ pure xs n
      → value unit.constants calls scalls line [] (nest.Each which ts) n ≡ given line (elemental_of which xs) n
  unfolding pure ◌>>=◌ goes_on
  each_value which ts xs n h = rw h refl

  abbrev trees_then : (es : Arguments) (which : Elemental) → source.Step trees.Tree
  trees_then es which = source_trees unit scalls line [] es >>= (λ ts. pure (trees.Each which ts))

  chosen : (b : Bool) (m q : source.Step trees.Tree) (p : State) → b ≡ true → source.choose b m q p ≡ m p
  unfolding source.choose
  chosen b m q p h = rw h refl

  given_ok : (r : Result Scalar FaultKind) (x : Scalar) (p : State) → r ≡ Ok x
      → (source.given line r >>= (λ x. pure (trees.held (scalar_value x)))) p ≡ pure (trees.held (scalar_value x)) p
  unfolding source.given ◌>>=◌ goes_on pure
  given_ok r x p h = rw h refl

  given_err : (r : Result Scalar FaultKind) (kind : FaultKind) (p : State) → r ≡ Err kind
      → (source.given line r >>= (λ x. pure (trees.held (scalar_value x)))) p ≡ stop (source.Faults kind line) p
  unfolding source.given ◌>>=◌ goes_on pure stop
  given_err r kind p h = rw h refl

  abbrev trimmed : Value → trees.Tree
  trimmed v = trees.held (scalar_value (scalar.Text (trim (text_of (only v)))))

  trim_by : (u : trees.Tree) (x : Scalar) (p : State)
      → trees.whole scalls line u p ≡ pure (record { extents = []; like = trees.like u; elements = x ∷ [] }) p
      → (trees.whole scalls line u >>= (λ v. pure (trimmed v))) p ≡ pure
      (trees.held (scalar_value (scalar.Text (trim (text_of x))))) p
  unfolding ◌>>=◌ goes_on pure
  trim_by u x p h = rw h refl

  stop_by : (u : trees.Tree) (kind : FaultKind) (p : State) → trees.whole scalls line u p ≡ stop (source.Faults kind line) p
      → (trees.whole scalls line u >>= (λ v. pure (trimmed v))) p ≡ stop (source.Faults kind line) p
  unfolding ◌>>=◌ goes_on pure stop
  stop_by u kind p h = rw h refl

  trim_ok : (u : trees.Tree) (r : Result Scalar FaultKind) (y : Scalar) (p : State) → trees.shape u ≡ Ok []
      → trees.element scalls line u 0 p ≡ source.given line r p → one_result (λ x. scalar.Text (trim (text_of x))) r ≡ Ok y
      → (trees.whole scalls line u >>= (λ v. pure (trimmed v))) p ≡ pure (trees.held (scalar_value y)) p
  trim_ok u (Ok x) y p h g e = rw (sym (ok_same (scalar.Text (trim (text_of x))) y e))
      (trim_by u x p (whole_ok unit.constants calls scalls line u x p h g))
  trim_ok u (Err kind) y p h g e = absurd (err_ok kind y (Err kind) refl e)

  trim_err : (u : trees.Tree) (r : Result Scalar FaultKind) (kind : FaultKind) (p : State) → trees.shape u ≡ Ok []
      → trees.element scalls line u 0 p ≡ source.given line r p → one_result (λ x. scalar.Text (trim (text_of x))) r ≡ Err kind
      → (trees.whole scalls line u >>= (λ v. pure (trimmed v))) p ≡ stop (source.Faults kind line) p
  trim_err u (Ok x) kind p h g e = absurd (err_ok kind (scalar.Text (trim (text_of x))) (Ok (scalar.Text (trim (text_of x)))) e
      refl)
  trim_err u (Err other) kind p h g e = rw (sym (err_same other kind e))
      (stop_by u other p (whole_err unit.constants calls scalls line u other p h g))

  trim_sort : (r : Result Scalar FaultKind) (y : Scalar) → one_result (λ x. scalar.Text (trim (text_of x))) r ≡ Ok y
      → HasSort sort.Text y
  trim_sort (Ok x) y e = subst (HasSort sort.Text) (ok_same (scalar.Text (trim (text_of x))) y e) refl
  trim_sort (Err kind) y e = absurd (err_ok kind y (Err kind) refl e)

  module _ (k j k' : ℕ) (s : Sort) (n : NestState) (up : k ≤ j) (below : j < k') where
    -- a scalar holds the value of a tree, and the source goes on with it as a part
    part_by : (t : Tree) (n' : NestState) → From k n n' → (r : Result Scalar FaultKind)
        → value unit.constants calls scalls line [] t n' ≡ given line r n'
        → (q : source.Step trees.Tree)
        → ((x : Scalar) → r ≡ Ok x → (q n'.cells.plain ≡ pure (trees.held (scalar_value x)) n'.cells.plain) × HasSort s x)
        → ((kind : FaultKind) → r ≡ Err kind → q n'.cells.plain ≡ stop (source.Faults kind line) n'.cells.plain)
        → Agrees (Ends (Prepared k k' s n (Fixed j))) (run unit.constants calls (statement (Set line j t) no_statement) n')
        (q n'.cells.plain)
    part_by t n' from (Ok x) e q fine fault =
        rw (
          run_next unit.constants calls (Set line j t) no_statement n' (kept_at n' j x)
              (set_ok unit.constants calls scalls line j t x n' e),
          run_none unit.constants calls (kept_at n' j x),
          (fine x refl).0,
        )
        (agrees_pure (Ends (Prepared k k' s n (Fixed j))) Next (trees.held (scalar_value x)) (kept_at n' j x) n'.cells.plain refl (
          refl,
          record {
            from = from_then k k n n' (kept_at n' j x) (omega arith) from (from_kept k j n' x up);
            stands = stands_kept unit.constants calls scalls line k' j s (kept_at n' j x) x below
                (set_here n'.cells.temps.setting.kept j x) (fine x refl).1;
          },
        ))
    part_by t n' from (Err kind) e q fine fault =
        rw (
          run_halt unit.constants calls (Set line j t) no_statement (By (source.Faults kind line)) n' n'
              (set_err unit.constants calls scalls line j t kind n' e),
          fault kind refl,
        )
        (agrees_stop (Ends (Prepared k k' s n (Fixed j))) (source.Faults kind line) n' n'.cells.plain refl)

    -- the value of an elemental function
    each_part : (which : Elemental) (ts : Trees) (ss : List (ℕ × Option Sort)) (vs : List (ℕ × Value)) (n0 n' : NestState)
        → From k n n' → values unit.constants calls scalls line [] ts n' ≡ pure (alone_all vs) n'
        → ((x : Scalar) → elemental_of which (alone_all vs) ≡ Ok x → HasSort s x)
        → Agrees (Ends (Prepared k k' s n (Fixed j))) (run unit.constants calls
        (statement (Set line j (nest.Each which ts)) no_statement) n')
        ((source.given line (elemental_of which (alone_all vs)) >>= (λ x. pure (trees.held (scalar_value x)))) n'.cells.plain)
    each_part which ts ss vs n0 n' from e sorted =
        part_by (nest.Each which ts) n' from (elemental_of which (alone_all vs)) (each_value which ts (alone_all vs) n' e)
        (source.given line (elemental_of which (alone_all vs)) >>= (λ x. pure (trees.held (scalar_value x))))
        (λ x h. (given_ok (elemental_of which (alone_all vs)) x n'.cells.plain h, sorted x h))
        (λ kind h. given_err (elemental_of which (alone_all vs)) kind n'.cells.plain h)

    -- TRIM
    trim_part : (t : Tree) (u : trees.Tree) (n' : NestState) → From k n n' → s ≡ sort.Text
        → Stands unit.constants calls scalls line j sort.Text n' t u
        → Agrees (Ends (Prepared k k' s n (Fixed j))) (run unit.constants calls
        (statement (Set line j (nest.Trim t)) no_statement) n')
        ((trees.whole scalls line u >>= (λ v. pure (trimmed v))) n'.cells.plain)
    trim_part t u n' from text st =
        part_by (nest.Trim t) n' from (one_result (λ x. scalar.Text (trim (text_of x))) st.result)
        (nest_one line (λ x. scalar.Text (trim (text_of x))) st.result (value unit.constants calls scalls line [] t) n'
        (st.nest [] n' (later_of j j n' n' (omega arith) (from_here j n'))))
        (trees.whole scalls line u >>= (λ v. pure (trimmed v)))
        (λ x h. (
          trim_ok u st.result x n'.cells.plain st.shape (st.source 0 n'.cells.plain) h,
          subst (λ w. HasSort w x) (sym text)
              (trim_sort st.result x h),
        ))
        (λ kind h. trim_err u st.result kind n'.cells.plain st.shape (st.source 0 n'.cells.plain) h)

-- ---- expressions

module _ (unit : Program) (entities : List Entity) (calls : Caller) (scalls : trees.Caller) (line : ℕ) where
  abbrev pub PreparedAs : (e : Expr) (taken : List Sort) (n : NestState) → Type 0
  PreparedAs e taken n =
      Agrees (Ends (Prepared unit calls scalls line (length taken) (length (lowered line taken e).scalars) (sort_of_expr e) n
      (lowered line taken e).tree))
      (run unit.constants calls (lowered line taken e).parts n) (prepare unit scalls line [] e n.cells.plain)

  abbrev pub PassedAs : (es : Arguments) (taken : List Sort) (n : NestState) → Type 0
  PassedAs es taken n =
      Agrees (Ends (Passed unit calls scalls line (length taken) (length (arguments line taken es).scalars) (sorts_of es) n
      (arguments line taken es).trees))
      (run unit.constants calls (arguments line taken es).parts n) (source_values unit scalls line [] es n.cells.plain)

  abbrev pub ValuedAs : (e : Expr) (taken : List Sort) (n : NestState) → Type 0
  ValuedAs e taken n =
      Agrees (Ends (Valued unit calls scalls line (length taken) (length (lowered line taken e).scalars) (sort_of_expr e) n))
      (run unit.constants calls (held line (sort_of_expr e) (lowered line taken e)).parts n)
      (evaluate unit scalls line [] e n.cells.plain)

  pub held_as : (e : Expr) (taken : List Sort) (n : NestState) → PreparedAs e taken n → ValuedAs e taken n
  held_as e taken n h = held_ends unit calls scalls line (length taken) (length (lowered line taken e).scalars) (sort_of_expr e) n
      (taken_grow line e taken) (lowered line taken e) (prepare unit scalls line [] e) n.cells.plain refl h

  named : (f : Facts) (j : ℕ) (taken : List Sort) (n : NestState) → sort_at entities j ≡ Some (sort_of f)
      → Holds entities n.cells.plain.variables
      → PreparedAs (typed f (Named (at j Whole AllOf))) taken n
  named f j taken n h holds =
      let one : HoldsOne (sort_of f) (slice_index_or n.cells.plain.variables j no_variable) = holds.holds j (sort_of f) h in
      rw (prepare_scalar unit calls scalls line f j one.value n.cells.plain one.held)
      (leaf unit calls scalls line (length taken) (sort_of f) n (nest.Read (whole j))
      (trees.Held (value_of_scalar unit calls scalls line j one.value n.cells.plain)
      (Some (section_of_scalar unit calls scalls line j)))
      (stands_value unit calls scalls line (length taken) (sort_of f) n (nest.Read (whole j)) one.value
      (value_of_scalar unit calls scalls line j one.value n.cells.plain) (Some (section_of_scalar unit calls scalls line j))
      (λ turn m l. read_value unit calls scalls line j one.value turn m (rw l.variables one.held)) refl refl one.typed))

  asked : (f : Facts) (dim : Option ℕ) (j : ℕ) (taken : List Sort) (n : NestState) → sort_at entities j ≡ Some sort.Text
      → sort.Int ≡ sort_of f
      → Holds entities n.cells.plain.variables → PreparedAs (typed f (Asked inquiry.Len dim (Name j))) taken n
  asked f dim j taken n h g holds =
      let one : HoldsOne sort.Text (slice_index_or n.cells.plain.variables j no_variable) = holds.holds j sort.Text h in
      let x : Scalar = scalar.Int (wrapped (pos (length_of (slice_index_or n.cells.plain.variables j no_variable).blank))) in
      rw (prepare_length unit calls scalls line f dim j one.value n.cells.plain one.held)
      (leaf unit calls scalls line (length taken) (sort_of f) n (nest.Wrapped (nest.Asked question.Length (name.Own j)))
      (trees.held (scalar_value x))
      (stands_value unit calls scalls line (length taken) (sort_of f) n (nest.Wrapped (nest.Asked question.Length (name.Own j))) x
      (scalar_value x) None
      (λ turn m l. length_value unit calls scalls line j turn m
      ∙ ap (λ vs. given line (Ok (scalar.Int (wrapped (pos (length_of (slice_index_or vs j no_variable).blank))))) m)
      l.variables)
      refl refl (subst (λ w. HasSort w x) g (wrapped_sort
      (pos (length_of (slice_index_or n.cells.plain.variables j no_variable).blank))))))

  elementwise : (f : Facts) (which : Elemental) (es : Arguments) (taken : List Sort) (n : NestState)
      → has_no_extents f.extents ≡ true
      → ((xs : List (ℕ × Scalar)) → AreOf (sorts_of es) xs → (x : Scalar) → elemental_of which xs ≡ Ok x → HasSort (sort_of f) x)
      → PassedAs es taken n → PreparedAs (typed f (Elementwise which es)) taken n
  elementwise f which es taken n e gives h =
      let more : length ((arguments line taken es).scalars ++ sort_of f ∷ []) ≡ suc (length (arguments line taken es).scalars) =
      taken_more (arguments line taken es).scalars (sort_of f) in
      rw (chosen unit calls scalls line (has_no_extents f.extents)
      (source_values unit scalls line [] es >>= (λ vs. (source.given line
      (elemental_of which (alone_all unit calls scalls line vs)) >>= (λ x. pure (trees.held (scalar_value x))))))
      (trees_then unit calls scalls line es which) n.cells.plain e)
      (parts_then unit.constants calls
      (Passed unit calls scalls line (length taken) (length (arguments line taken es).scalars) (sorts_of es) n
      (arguments line taken es).trees)
      (Ends (Prepared unit calls scalls line (length taken) (length ((arguments line taken es).scalars ++ sort_of f ∷ []))
      (sort_of f) n (Fixed (length (arguments line taken es).scalars))))
      (arguments line taken es).parts (statement (Set line (length (arguments line taken es).scalars)
      (nest.Each which (arguments line taken es).trees)) no_statement)
      (source_values unit scalls line [] es) (λ vs. (source.given line (elemental_of which (alone_all unit calls scalls line vs))
      >>= (λ x. pure (trees.held (scalar_value x)))))
      n n.cells.plain h
      (λ vs n' r. each_part unit calls scalls line (length taken) (length (arguments line taken es).scalars)
      (length ((arguments line taken es).scalars ++ sort_of f ∷ [])) (sort_of f) n (arguments_grow line es taken)
      (omega (arith, more))
      which (arguments line taken es).trees (sorts_of es) vs n n' r.from
      (r.nest [] n' (later_of (length (arguments line taken es).scalars) (length (arguments line taken es).scalars) n' n'
      (omega arith) (from_here (length (arguments line taken es).scalars) n')))
      (λ x g. gives (alone_all unit calls scalls line vs) r.sorts x g)))

  binary_case : (f : Facts) (op : BinaryOp) (e g : Expr) (taken : List Sort) (n : NestState)
      → Holds entities n.cells.plain.variables
      → binary_sort op (Some (sort_of_expr e)) (Some (sort_of_expr g)) ≡ Some (sort_of f)
      → PreparedAs e taken n
      → ((m : NestState) → Holds entities m.cells.plain.variables → PreparedAs g (lowered line taken e).scalars m)
      → PreparedAs (typed f (Binary op e g)) taken n
  binary_case f op e g taken n holds sorted first next =
      parts_then unit.constants calls
      (Prepared unit calls scalls line (length taken) (length (lowered line taken e).scalars) (sort_of_expr e) n
      (lowered line taken e).tree)
      (Ends (Prepared unit calls scalls line (length taken) (length (lowered line (lowered line taken e).scalars g).scalars)
      (sort_of f) n
      (nest.Binary op (lowered line taken e).tree (lowered line (lowered line taken e).scalars g).tree)))
      (lowered line taken e).parts (lowered line (lowered line taken e).scalars g).parts
      (prepare unit scalls line [] e) (λ u. (prepare unit scalls line [] g >>= (λ v. pure (trees.BinaryOf op u v)))) n
      n.cells.plain first
      (λ u n' r. agrees_map
      (Ends (Prepared unit calls scalls line (length (lowered line taken e).scalars)
      (length (lowered line (lowered line taken e).scalars g).scalars)
      (sort_of_expr g) n' (lowered line (lowered line taken e).scalars g).tree))
      (Ends (Prepared unit calls scalls line (length taken) (length (lowered line (lowered line taken e).scalars g).scalars)
      (sort_of f) n
      (nest.Binary op (lowered line taken e).tree (lowered line (lowered line taken e).scalars g).tree)))
      (λ v. trees.BinaryOf op u v)
      (run unit.constants calls (lowered line (lowered line taken e).scalars g).parts n') (prepare unit scalls line [] g)
      n'.cells.plain
      (next n' (holds_from entities (length taken) n n' r.from holds))
      (λ flow v n'' q. (
        q.0,
        record {
          from = from_then (length taken) (length (lowered line taken e).scalars) n n' n'' (taken_grow line e taken) r.from
              q.1.from;
          stands = stands_binary unit.constants calls scalls line op
              (length (lowered line (lowered line taken e).scalars g).scalars)
              (sort_of_expr e) (sort_of_expr g) (sort_of f) n'' (lowered line taken e).tree
              (lowered line (lowered line taken e).scalars g).tree u v
              (binary_gives op (sort_of_expr e) (sort_of_expr g) (sort_of f) sorted)
              (stands_later unit.constants calls scalls line (length (lowered line taken e).scalars)
              (length (lowered line (lowered line taken e).scalars g).scalars)
              (sort_of_expr e) n' n'' (lowered line taken e).tree u (taken_grow line g (lowered line taken e).scalars)
              (later_of (length (lowered line taken e).scalars) (length (lowered line taken e).scalars) n' n'' (omega arith)
              q.1.from) r.stands)
              q.1.stands;
        },
      )))

  unary_case : (f : Facts) (op : UnaryOp) (e : Expr) (taken : List Sort) (n : NestState)
      → unary_sort op (Some (sort_of_expr e)) ≡ Some (sort_of f) → PreparedAs e taken n → PreparedAs (typed f (Unary op e)) taken n
  unary_case f op e taken n sorted h = agrees_map
      (Ends (Prepared unit calls scalls line (length taken) (length (lowered line taken e).scalars) (sort_of_expr e) n
      (lowered line taken e).tree))
      (Ends (Prepared unit calls scalls line (length taken) (length (lowered line taken e).scalars) (sort_of f) n
      (nest.Unary op (lowered line taken e).tree)))
      (λ u. trees.UnaryOf op u) (run unit.constants calls (lowered line taken e).parts n) (prepare unit scalls line [] e)
      n.cells.plain h
      (λ flow u n' q. (
        q.0,
        record {
          from = q.1.from;
          stands = stands_unary unit.constants calls scalls line op (length (lowered line taken e).scalars) (sort_of_expr e)
              (sort_of f) n'
              (lowered line taken e).tree u (unary_gives op (sort_of_expr e) (sort_of f) sorted) q.1.stands;
        },
      ))

  brackets_case : (f : Facts) (e : Expr) (taken : List Sort) (n : NestState)
      → sort_of_expr e ≡ sort_of f → PreparedAs e taken n → PreparedAs (typed f (Brackets e)) taken n
  brackets_case f e taken n same h = rw (sym same) (agrees_map
      (Ends (Prepared unit calls scalls line (length taken) (length (lowered line taken e).scalars) (sort_of_expr e) n
      (lowered line taken e).tree))
      (Ends (Prepared unit calls scalls line (length taken) (length (lowered line taken e).scalars) (sort_of_expr e) n
      (lowered line taken e).tree))
      trees.bracketed (run unit.constants calls (lowered line taken e).parts n) (prepare unit scalls line [] e) n.cells.plain h
      (λ flow u n' q. (
        q.0,
        record {
          from = q.1.from;
          stands = stands_bracketed unit calls scalls line (length (lowered line taken e).scalars) (sort_of_expr e) n'
              (lowered line taken e).tree u q.1.stands;
        },
      )))

  trim_case : (f : Facts) (e : Expr) (taken : List Sort) (n : NestState) → sort_of_expr e ≡ sort.Text → sort.Text ≡ sort_of f
      → PreparedAs e taken n → PreparedAs (typed f (Trim e)) taken n
  trim_case f e taken n text is h =
      let more : length ((lowered line taken e).scalars ++ sort.Text ∷ []) ≡ suc (length (lowered line taken e).scalars) =
      taken_more (lowered line taken e).scalars sort.Text in
      rw (
        sym is,
        assoc (prepare unit scalls line [] e) (trees.whole scalls line) (λ v. pure (trimmed unit calls scalls line v))
            n.cells.plain,
      )
      (parts_then unit.constants calls
      (Prepared unit calls scalls line (length taken) (length (lowered line taken e).scalars) (sort_of_expr e) n
      (lowered line taken e).tree)
      (Ends (Prepared unit calls scalls line (length taken) (length ((lowered line taken e).scalars ++ sort.Text ∷ [])) sort.Text n
      (Fixed (length (lowered line taken e).scalars))))
      (lowered line taken e).parts (statement (Set line (length (lowered line taken e).scalars)
      (nest.Trim (lowered line taken e).tree)) no_statement)
      (prepare unit scalls line [] e) (λ u. (trees.whole scalls line u >>= (λ v. pure (trimmed unit calls scalls line v)))) n
      n.cells.plain h
      (λ u n' r. trim_part unit calls scalls line (length taken) (length (lowered line taken e).scalars)
      (length ((lowered line taken e).scalars ++ sort.Text ∷ [])) sort.Text n (taken_grow line e taken) (omega (arith, more))
      (lowered line taken e).tree u n' r.from refl
      (subst (λ w. Stands unit.constants calls scalls line (length (lowered line taken e).scalars) w n'
      (lowered line taken e).tree u) text r.stands)))

  argument_case : (place : ℕ) (e : Expr) (es : Arguments) (taken : List Sort) (n : NestState)
      → Holds entities n.cells.plain.variables
      → PreparedAs e taken n
      → ((m : NestState) → Holds entities m.cells.plain.variables
      → PassedAs es ((lowered line taken e).scalars ++ sort_of_expr e ∷ []) m)
      → PassedAs (argument place e es) taken n
  argument_case place e es taken n holds first next =
      let more : length ((lowered line taken e).scalars ++ sort_of_expr e ∷ []) ≡ suc (length (lowered line taken e).scalars) =
      taken_more (lowered line taken e).scalars (sort_of_expr e) in
      parts_then unit.constants calls
      (Valued unit calls scalls line (length taken) (length (lowered line taken e).scalars) (sort_of_expr e) n)
      (Ends (Passed unit calls scalls line (length taken)
      (length (arguments line ((lowered line taken e).scalars ++ sort_of_expr e ∷ []) es).scalars)
      ((place, Some (sort_of_expr e)) ∷ sorts_of es) n (tree place (Fixed (length (lowered line taken e).scalars))
      (arguments line ((lowered line taken e).scalars ++ sort_of_expr e ∷ []) es).trees)))
      (held line (sort_of_expr e) (lowered line taken e)).parts
      (arguments line ((lowered line taken e).scalars ++ sort_of_expr e ∷ []) es).parts
      (evaluate unit scalls line [] e) (λ v. (source_values unit scalls line [] es >>= (λ vs. pure ((place, v) ∷ vs)))) n
      n.cells.plain
      (held_as e taken n first)
      (λ v n' r. agrees_map
      (Ends (Passed unit calls scalls line (length ((lowered line taken e).scalars ++ sort_of_expr e ∷ []))
      (length (arguments line ((lowered line taken e).scalars ++ sort_of_expr e ∷ []) es).scalars) (sorts_of es) n'
      (arguments line ((lowered line taken e).scalars ++ sort_of_expr e ∷ []) es).trees))
      (Ends (Passed unit calls scalls line (length taken)
      (length (arguments line ((lowered line taken e).scalars ++ sort_of_expr e ∷ []) es).scalars)
      ((place, Some (sort_of_expr e)) ∷ sorts_of es) n (tree place (Fixed (length (lowered line taken e).scalars))
      (arguments line ((lowered line taken e).scalars ++ sort_of_expr e ∷ []) es).trees)))
      (λ vs. (place, v) ∷ vs)
      (run unit.constants calls (arguments line ((lowered line taken e).scalars ++ sort_of_expr e ∷ []) es).parts n')
      (source_values unit scalls line [] es) n'.cells.plain
      (next n' (holds_from entities (length taken) n n' r.from holds))
      (λ flow vs n'' q. (
        q.0,
        passed_more unit calls scalls line (length taken) (length (lowered line taken e).scalars)
            (length (arguments line ((lowered line taken e).scalars ++ sort_of_expr e ∷ []) es).scalars) place (sort_of_expr e)
            (sorts_of es) n n' n''
            (arguments line ((lowered line taken e).scalars ++ sort_of_expr e ∷ []) es).trees v vs (taken_grow line e taken)
            (omega (arith, more, arguments_grow line es ((lowered line taken e).scalars ++ sort_of_expr e ∷ []))) r
            (subst (λ k. Passed unit calls scalls line k (length
            (arguments line ((lowered line taken e).scalars ++ sort_of_expr e ∷ []) es).scalars)
            (sorts_of es) n' (arguments line ((lowered line taken e).scalars ++ sort_of_expr e ∷ []) es).trees vs n'') more q.1),
      )))

  no_argument_case : (taken : List Sort) (n : NestState) → PassedAs no_argument taken n
  no_argument_case taken n = rw (run_none unit.constants calls n)
      (agrees_pure (Ends (Passed unit calls scalls line (length taken) (length taken) [] n no_tree)) Next [] n n.cells.plain refl
      (refl, record { from = from_here (length taken) n; nest = λ turn m l. refl; sorts = tt }))

  literal_case : (f : Facts) (x : Scalar) (taken : List Sort) (n : NestState) → HasSort (sort_of f) x
      → PreparedAs (typed f (Literal x)) taken n
  literal_case f x taken n h = leaf unit calls scalls line (length taken) (sort_of f) n (nest.Literal x)
      (trees.held (scalar_value x))
      (stands_value unit calls scalls line (length taken) (sort_of f) n (nest.Literal x) x (scalar_value x) None
      (λ turn m l. literal_value unit calls scalls line x turn m) refl refl h)

  constant_case : (f : Facts) (j : ℕ) (taken : List Sort) (n : NestState)
      → sort_of_some (slice_get unit.constants j) ≡ Some (sort_of f)
      → PreparedAs (typed f (Constant j)) taken n
  constant_case f j taken n h =
      let x : Scalar = slice_index_or unit.constants j nothing in
      leaf unit calls scalls line (length taken) (sort_of f) n (nest.Constant j) (trees.held (scalar_value x))
      (stands_value unit calls scalls line (length taken) (sort_of f) n (nest.Constant j) x (scalar_value x) None
      (λ turn m l. constant_value unit calls scalls line j turn m) refl refl
      (constant_sort unit calls scalls line unit.constants j (sort_of f) h))

  mutual
    pub prepared : (e : Expr) → IsScalar unit.constants entities e → (taken : List Sort) (n : NestState)
        → Holds entities n.cells.plain.variables
        → PreparedAs e taken n
    prepared (typed f (Literal x)) h taken n holds = literal_case f x taken n h
    prepared (typed f (Constant j)) h taken n holds = constant_case f j taken n h
    prepared (typed f (Index level)) h taken n holds = absurd h
    prepared (typed f (Named (at j Whole AllOf))) h taken n holds = named f j taken n h holds
    prepared (typed f (Named (at j Whole (BytesOf first last)))) h taken n holds = absurd h
    prepared (typed f (Named (at j (Subscripted ss) part))) h taken n holds = absurd h
    prepared (typed f (Brackets e)) h taken n holds = brackets_case f e taken n h.1 (prepared e h.0 taken n holds)
    prepared (typed f (Unary op e)) h taken n holds = unary_case f op e taken n h.1 (prepared e h.0 taken n holds)
    prepared (typed f (Binary op e g)) h taken n holds = binary_case f op e g taken n holds h.2 (prepared e h.0 taken n holds)
        (λ m holds'. prepared g h.1 (lowered line taken e).scalars m holds')
    prepared (typed f (Constructor items)) h taken n holds = absurd h
    prepared (typed f (Elementwise which es)) h taken n holds = elementwise f which es taken n h.1
        (λ xs sorts x e. elemental_gives which (sorts_of es) (sort_of f) h.3 h.2 xs sorts x e) (passed es h.0 taken n holds)
    prepared (typed f (Trim e)) h taken n holds = trim_case f e taken n h.1 h.2 (prepared e h.0 taken n holds)
    prepared (typed f (Asked inquiry.Len dim (Name j))) h taken n holds = asked f dim j taken n h.0 h.1 holds
    prepared (typed f (Asked inquiry.Size dim (Name j))) h taken n holds = absurd h
    prepared (typed f (Asked inquiry.Shape dim (Name j))) h taken n holds = absurd h
    prepared (typed f (Asked inquiry.Lbound dim (Name j))) h taken n holds = absurd h
    prepared (typed f (Asked inquiry.Ubound dim (Name j))) h taken n holds = absurd h
    prepared (typed f (Asked inquiry.Allocated dim (Name j))) h taken n holds = absurd h
    prepared (typed f (Asked inquiry.Len dim (Of e))) h taken n holds = absurd h
    prepared (typed f (Asked inquiry.Size dim (Of e))) h taken n holds = absurd h
    prepared (typed f (Asked inquiry.Shape dim (Of e))) h taken n holds = absurd h
    prepared (typed f (Asked inquiry.Lbound dim (Of e))) h taken n holds = absurd h
    prepared (typed f (Asked inquiry.Ubound dim (Of e))) h taken n holds = absurd h
    prepared (typed f (Asked inquiry.Allocated dim (Of e))) h taken n holds = absurd h
    prepared (typed f (Reduced which dim es)) h taken n holds = absurd h
    prepared (typed f (Rearranged which dim es)) h taken n holds = absurd h
    prepared (typed f (Called c)) h taken n holds = absurd h

    pub passed : (es : Arguments) → AreScalars unit.constants entities es → (taken : List Sort) (n : NestState)
        → Holds entities n.cells.plain.variables
        → PassedAs es taken n
    passed no_argument h taken n holds = no_argument_case taken n
    passed (argument place e es) h taken n holds = argument_case place e es taken n holds (prepared e h.0 taken n holds)
        (λ m holds'. passed es h.1 ((lowered line taken e).scalars ++ sort_of_expr e ∷ []) m holds')
