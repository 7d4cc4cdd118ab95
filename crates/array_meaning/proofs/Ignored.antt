-- A part that doesn't name a variable comes to the same whatever that holds: one line a case. A store changes its variable alone.
use Rattle.std.proofs.Common.{◌≡◌, ◌≢◌, refl, ap, ◌∙◌, ℕ, ℤ, zero, suc, ◌+ℤ◌, Bool, true, false, List, [], ◌∷◌, ◌++◌}
use Rattle.std.specs.Prelude.{Option, Some, None, Result, Ok, Err}
use Rattle.std.proofs.lemmas.List.{get_or-set_other}
use Rattle.a95_base.specs.declared.fault.FaultKind.{FaultKind}
use Rattle.a95_base.specs.declared.scalar.Scalar.{Scalar}
use Rattle.a95_base.specs.Steps.{Ran, pure, stop, behind, ◌>>=◌, ◌>>◌}
use Rattle.f95_unit.specs.declared.operation.Inquiry.{Inquiry}
use Rattle.f95_unit.specs.declared.operation.Inquiry.TheVariants as inquiry
use Rattle.f95_unit.specs.declared.operation.Reduction.{Reduction}
use Rattle.a95_base.specs.Lists.{Every}
use Rattle.f95_unit.specs.Plain.{Expr, typed, Literal, Constant, Index, Named, Brackets, Unary, Binary, Constructor, Elementwise}
use Rattle.f95_unit.specs.Plain.{Trim, Asked, Reduced, Rearranged, Called, Designator, at, Access, Whole, Subscripted, Subscripts}
use Rattle.f95_unit.specs.Plain.{no_subscript, subscript, Subscript, One, Vector, SubscriptTriplet, Bound, Absent, Given, Part}
use Rattle.f95_unit.specs.Plain.{AllOf, BytesOf, Items, no_item, value, loop, Arguments, no_argument, argument, Subject, Name, Of}
use Rattle.f95_unit.specs.Plain.{call, Entity, Program}
use Rattle.array_meaning.specs.Values.{Value}
use Rattle.array_meaning.specs.State.{Dimension, Array, Variable, no_variable, State, Halt, Step, fault_at, unless, choose, given}
use Rattle.array_meaning.specs.State.{allocated_array, turn_from, turn, variable, set_variable, store_all, inside}
use Rattle.array_meaning.specs.Sections.{Picked, Section, placed, read_section}
use Rattle.array_meaning.specs.Trees.{Tree, Held, UnaryOf, BinaryOf, Each, CallEach, Trees, no_tree, tree, Caller, element}
use Rattle.array_meaning.specs.Trees.{elements, all_from, pairs_from, whole, valued, passed, paired}
use Rattle.array_meaning.specs.Expressions.{number_of_value, rounds, gathered, asked, prepare, trees, values, actuals}
use Rattle.array_meaning.specs.Expressions.{reduction_values, answer, designate, pick, pick_each, pick_one, bound_or, part_bounds}
use Rattle.array_meaning.specs.Expressions.{gather, procedure_at}
use Rattle.array_meaning.specs.Frames.{Avoids, AvoidsArguments, AvoidsSubject, AvoidsDesignator, AvoidsAccess, AvoidsSubscripts}
use Rattle.array_meaning.specs.Frames.{AvoidsSubscript, AvoidsBound, AvoidsPart, AvoidsItems, with_variable, Ignores, CallIgnores}
use Rattle.array_meaning.specs.Frames.{ValuesIgnoreOthers, FunctionCallsIgnore, StoresLeaveOthers}
use Rattle.array_meaning.specs.Calls.{Actuals, is_out, body_acts, copy_back, copies_back, called}
use Rattle.array_meaning.specs.Purity.{Refers, RefersArguments, RefersSubject, RefersDesignator, RefersAccess, RefersSubscripts}
use Rattle.array_meaning.specs.Purity.{RefersSubscript, RefersBound, RefersPart, RefersItems}
use Rattle.array_meaning.proofs.Kept.{Preorder, CallsIn, CallsInAll, keeps_prepare}
use Rattle.array_meaning.proofs.Wholeness.{Gives, gives_pure, gives_then, gives_next, gives_any}

-- the section that a designator names is one of its own variable
placed_own : (line n : ℕ) (v : Variable) (a : Array) (picked : List Picked) (part : Option (ℤ × ℤ)) → Gives
    (λ s. s.variable ≡ n) (placed line n v a picked part)
placed_own line n v a picked part = gives_next (λ s. s.variable ≡ n) _
    (gives_next (λ s. s.variable ≡ n) _ (gives_next (λ s. s.variable ≡ n) _
    (gives_pure (λ s. s.variable ≡ n) _ refl)))

designates_own : (unit : Program) (calls : Caller) (line : ℕ) (ix : List ℤ) (n : ℕ) (access : Access) (part : Part)
    → Gives (λ s. s.variable ≡ n) (designate unit calls line ix (at n access part))
designates_own unit calls line ix n access part =
    gives_then (λ v. Unit {0}) (λ s. s.variable ≡ n) (gives_any _)
    (λ v u. gives_then (λ a. Unit {0}) (λ s. s.variable ≡ n) (gives_any _)
    (λ a u. gives_then (λ p. Unit {0}) (λ s. s.variable ≡ n) (gives_any _)
    (λ picked u. gives_then (λ b. Unit {0}) (λ s. s.variable ≡ n) (gives_any _)
    (λ bounds u. placed_own line n v a picked bounds))))

-- any two states
abbrev anything : Preorder
anything = record { relation = λ s t. Unit {0}; same = λ s. tt; join = λ a b c h g. tt; turns = λ s n e. tt }

-- an element tree has calls of the expression's procedures alone
pub calls_of : (P : ℕ → Type 0) (unit : Program) (calls : Caller) (line : ℕ) (ix : List ℤ) (e : Expr) → Refers P e
    → Gives (CallsIn P) (prepare unit calls line ix e)
calls_of P unit calls line ix e h = record {
  gives = (keeps_prepare anything P calls (λ p q l actuals s. tt) line unit ix e h).gives;
}

module _ (hidden : ℕ) (instead : Variable) where
  moved : {A : Type 0} → Ran Halt State A → Ran Halt State A
  moved r = record { came = r.came; after = with_variable hidden instead r.after }

  -- ---- one step behind another

  ignores_behind : {A B : Type 0} (f : A → Step B) (came : Result A Halt) (s : State) →
      ((a : A) → came ≡ Ok a → Ignores hidden instead (f a))
      → behind f came (with_variable hidden instead s) ≡ moved (behind f came s)
  unfolding behind moved
  ignores_behind f (Ok a) s g = (g a refl).ignores s
  ignores_behind f (Err halt) s g = refl

  ignores_knowing : {A B : Type 0} (Q : A → Type 0) {m : Step A} {f : A → Step B} → Ignores hidden instead m → Gives Q m
      → ((a : A) → Q a → Ignores hidden instead (f a)) → Ignores hidden instead (m >>= f)
  unfolding ◌>>=◌ moved
  ignores_knowing Q {m = m} {f = f} h q g = record {
    ignores = λ s. ap (λ r. behind f r.came r.after) (h.ignores s) ∙ ignores_behind f (m s).came (m s).after
        (λ a e. g a (q.gives s a e));
  }

  ignores_then : {A B : Type 0} {m : Step A} {f : A → Step B} → Ignores hidden instead m →
      ((a : A) → Ignores hidden instead (f a)) → Ignores hidden instead (m >>= f)
  ignores_then {m = m} h g = ignores_knowing (λ a. Unit {0}) h (gives_any m) (λ a u. g a)

  ignores_next : {A B : Type 0} {m : Step A} {n : Step B} → Ignores hidden instead m → Ignores hidden instead n
      → Ignores hidden instead (m >> n)
  unfolding ◌>>◌ ◌>>=◌
  ignores_next {n = n} h g = record { ignores = (ignores_then {f = λ a. n} h (λ a. g)).ignores }

  ignores_choose : {A : Type 0} (b : Bool) {m n : Step A} → Ignores hidden instead m → Ignores hidden instead n
      → Ignores hidden instead (choose b m n)
  unfolding choose
  ignores_choose true h g = record { ignores = h.ignores }
  ignores_choose false h g = record { ignores = g.ignores }

  -- ---- single steps

  ignores_pure : {A : Type 0} (a : A) → Ignores hidden instead (pure a)
  unfolding pure
  ignores_pure a = record { ignores = λ s. refl }

  ignores_unless : (b : Bool) (kind : FaultKind) (line : ℕ) → Ignores hidden instead (unless b kind line)
  unfolding unless pure stop
  ignores_unless true kind line = record { ignores = λ s. refl }
  ignores_unless false kind line = record { ignores = λ s. refl }

  ignores_given : {A : Type 0} (line : ℕ) (r : Result A FaultKind) → Ignores hidden instead (given line r)
  unfolding given pure stop
  ignores_given line (Ok a) = record { ignores = λ s. refl }
  ignores_given line (Err kind) = record { ignores = λ s. refl }

  ignores_allocated : (line : ℕ) (held : Option Array) → Ignores hidden instead (allocated_array line held)
  unfolding allocated_array pure stop
  ignores_allocated line (Some a) = record { ignores = λ s. refl }
  ignores_allocated line None = record { ignores = λ s. refl }

  ignores_variable : (n : ℕ) → n ≢ hidden → Ignores hidden instead (variable n)
  unfolding variable pure
  ignores_variable n h = record {
    ignores = λ s. ap (λ v. record { came = Ok v; after = with_variable hidden instead s })
        (get_or-set_other s.variables hidden n instead no_variable h);
  }

  turn_ignores : (k : ℕ) (s : State) → turn_from k (with_variable hidden instead s) ≡ moved (turn_from k s)
  unfolding turn_from pure stop moved
  turn_ignores zero s = refl
  turn_ignores (suc k) s = refl

  ignores_turn : Ignores hidden instead turn
  unfolding turn moved
  ignores_turn = record { ignores = λ s. turn_ignores s.left s }

  -- ---- element trees

  module _ (calls : Caller) (line : ℕ) where
    abbrev Same : ℕ → Type 0
    Same = CallIgnores hidden instead calls

    mutual
      ignores_element : (t : Tree) (k : ℕ) → CallsIn Same t → Ignores hidden instead (element calls line t k)
      ignores_element (Held v section) k g = ignores_pure _
      ignores_element (UnaryOf op t) k g = ignores_then (ignores_element t k g) (λ x. ignores_pure _)
      ignores_element (BinaryOf op t u) k g = ignores_then (ignores_element t k g.0)
          (λ x. ignores_then (ignores_element u k g.1) (λ y. ignores_given _ _))
      ignores_element (Each which ts) k g = ignores_then (ignores_elements ts k g) (λ xs. ignores_given _ _)
      ignores_element (CallEach p x ts) k g = ignores_then (ignores_elements ts k g.1)
          (λ xs. ignores_then (g.0 _ _) (λ v. ignores_pure _))

      ignores_elements : (ts : Trees) (k : ℕ) → CallsInAll Same ts → Ignores hidden instead (elements calls line ts k)
      ignores_elements no_tree k g = ignores_pure _
      ignores_elements (tree place t ts) k g = ignores_then (ignores_element t k g.0)
          (λ x. ignores_then (ignores_elements ts k g.1) (λ xs. ignores_pure _))

    ignores_all : (k n : ℕ) (t : Tree) → CallsIn Same t → Ignores hidden instead (all_from calls line k n t)
    unfolding all_from
    ignores_all k zero t g = ignores_pure _
    ignores_all k (suc n) t g = ignores_then (ignores_element t k g)
        (λ x. ignores_then (ignores_all (suc k) n t g) (λ xs. ignores_pure _))

    ignores_pairs : (k n : ℕ) (t u : Tree) → CallsIn Same t → CallsIn Same u → Ignores hidden instead
        (pairs_from calls line k n t u)
    unfolding pairs_from
    ignores_pairs k zero t u g h = ignores_pure _
    ignores_pairs k (suc n) t u g h = ignores_then (ignores_element t k g)
        (λ x. ignores_then (ignores_element u k h)
        (λ y. ignores_then (ignores_pairs (suc k) n t u g h) (λ more. ignores_pure _)))

    ignores_whole : (t : Tree) → CallsIn Same t → Ignores hidden instead (whole calls line t)
    unfolding whole
    ignores_whole t g = ignores_then (ignores_given _ _)
        (λ extents. ignores_then (ignores_all _ _ t g) (λ xs. ignores_pure _))

    ignores_valued : {m : Step Tree} → Ignores hidden instead m → Gives (CallsIn Same) m → Ignores hidden instead
        (valued calls line m)
    ignores_valued h g = ignores_knowing (CallsIn Same) h g (λ t p. ignores_whole t p)

    ignores_passed : {m : Step Tree} → Ignores hidden instead m → Gives (CallsIn Same) m → Ignores hidden instead
        (passed calls line m)
    ignores_passed h g = ignores_knowing (CallsIn Same) h g (λ t p. ignores_then (ignores_whole t p) (λ v. ignores_pure _))

    ignores_paired : (place other : ℕ) {m n : Step Tree} → Ignores hidden instead m → Gives (CallsIn Same) m
        → Ignores hidden instead n → Gives (CallsIn Same) n → Ignores hidden instead (paired calls line place other m n)
    ignores_paired place other h g i j = ignores_knowing (CallsIn Same) h g
        (λ t p. ignores_knowing (CallsIn Same) i j
        (λ u q. ignores_then (ignores_given _ _)
        (λ extents. ignores_then (ignores_pairs _ _ t u p q) (λ both. ignores_pure _))))

  -- ---- steps on integers, sections, rounds

  ignores_number : {m : Step Value} → Ignores hidden instead m → Ignores hidden instead (number_of_value m)
  ignores_number h = ignores_then h (λ v. ignores_pure _)

  ignores_read_section : (line : ℕ) (s : Section) → s.variable ≢ hidden → Ignores hidden instead (read_section line s)
  ignores_read_section line s h = ignores_then (ignores_variable _ h) (λ v. ignores_then (ignores_allocated _ _)
      (λ a. ignores_pure _))

  ignores_placed : (line n : ℕ) (v : Variable) (a : Array) (picked : List Picked) (part : Option (ℤ × ℤ))
      → Ignores hidden instead (placed line n v a picked part)
  ignores_placed line n v a picked part = ignores_next (ignores_unless _ _ _)
      (ignores_next (ignores_unless _ _ _) (ignores_next (ignores_unless _ _ _) (ignores_pure _)))

  ignores_rounds : (n : ℕ) (i step : ℤ) {body : ℤ → List Scalar → Step (List Scalar)} →
      ((i : ℤ) (xs : List Scalar) → Ignores hidden instead (body i xs)) → (xs : List Scalar) → Ignores hidden instead
      (rounds n i step body xs)
  unfolding rounds
  ignores_rounds zero i step h xs = ignores_pure _
  ignores_rounds (suc n) i step h xs = ignores_next ignores_turn
      (ignores_then (h i xs) (λ ys. ignores_rounds n (i +ℤ step) step h ys))

  ignores_gathered : (line : ℕ) (xs : List Scalar) (v : Value) → Ignores hidden instead (gathered line xs v)
  ignores_gathered line xs v = ignores_next (ignores_unless _ _ _) (ignores_pure _)

  ignores_asked : (line : ℕ) (which : Inquiry) (dim : Option ℕ) (v : Variable) → Ignores hidden instead (asked line which dim v)
  ignores_asked line inquiry.Allocated dim v = ignores_pure _
  ignores_asked line which dim v = ignores_then (ignores_allocated _ _) (λ a. ignores_pure _)

  -- ---- parts

  module _ (unit : Program) (calls : Caller) (line : ℕ) where
    abbrev Alike : ℕ → Type 0
    Alike = CallIgnores hidden instead calls

    calls_in : (ix : List ℤ) (e : Expr) → Refers Alike e → Gives (CallsIn Alike) (prepare unit calls line ix e)
    calls_in ix e g = calls_of Alike unit calls line ix e g

    mutual
      ignores_prepare : (ix : List ℤ) (e : Expr) → Avoids hidden e → Refers Alike e
          → Ignores hidden instead (prepare unit calls line ix e)
      ignores_prepare ix (typed f (Literal x)) h g = ignores_pure _
      ignores_prepare ix (typed f (Constant n)) h g = ignores_pure _
      ignores_prepare ix (typed f (Index k)) h g = ignores_pure _
      ignores_prepare ix (typed f (Named d)) h g = ignores_named ix d h g
      ignores_prepare ix (typed f (Brackets e)) h g = ignores_then (ignores_prepare ix e h g) (λ t. ignores_pure _)
      ignores_prepare ix (typed f (Unary op e)) h g = ignores_then (ignores_prepare ix e h g) (λ t. ignores_pure _)
      ignores_prepare ix (typed f (Binary op e b)) h g = ignores_then (ignores_prepare ix e h.0 g.0)
          (λ t. ignores_then (ignores_prepare ix b h.1 g.1) (λ u. ignores_pure _))
      ignores_prepare ix (typed f (Constructor items)) h g = ignores_then (ignores_gather ix items [] h g)
          (λ xs. ignores_pure _)
      ignores_prepare ix (typed f (Elementwise which es)) h g = ignores_choose _
          (ignores_then (ignores_values ix es h g) (λ vs. ignores_then (ignores_given _ _) (λ x. ignores_pure _)))
          (ignores_then (ignores_trees ix es h g) (λ ts. ignores_pure _))
      ignores_prepare ix (typed f (Trim e)) h g = ignores_then (ignores_valued calls line (ignores_prepare ix e h g)
          (calls_in ix e g))
          (λ v. ignores_pure _)
      ignores_prepare ix (typed f (Asked which dim subject)) h g = ignores_then (ignores_answer ix which dim subject h g)
          (λ v. ignores_pure _)
      ignores_prepare ix (typed f (Reduced which dim es)) h g = ignores_then (ignores_reduction_values ix which es h g)
          (λ vs. ignores_then (ignores_given _ _) (λ v. ignores_pure _))
      ignores_prepare ix (typed f (Rearranged which dim es)) h g = ignores_then (ignores_values ix es h g)
          (λ vs. ignores_then (ignores_given _ _) (λ v. ignores_pure _))
      ignores_prepare ix (typed f (Called (call p es))) h g = ignores_choose _
          (ignores_then (ignores_trees ix es h g.1) (λ ts. ignores_pure _))
          (ignores_then (ignores_actuals ix es h g.1) (λ vs. ignores_then (g.0 _ _) (λ v. ignores_pure _)))

      ignores_trees : (ix : List ℤ) (es : Arguments) → AvoidsArguments hidden es → RefersArguments Alike es
          → Ignores hidden instead
          (trees unit calls line ix es)
      ignores_trees ix no_argument h g = ignores_pure _
      ignores_trees ix (argument place e es) h g = ignores_then (ignores_prepare ix e h.0 g.0)
          (λ t. ignores_then (ignores_trees ix es h.1 g.1) (λ ts. ignores_pure _))

      ignores_values : (ix : List ℤ) (es : Arguments) → AvoidsArguments hidden es → RefersArguments Alike es
          → Ignores hidden instead
          (values unit calls line ix es)
      ignores_values ix no_argument h g = ignores_pure _
      ignores_values ix (argument place e es) h g = ignores_then (ignores_valued calls line (ignores_prepare ix e h.0 g.0)
          (calls_in ix e g.0))
          (λ v. ignores_then (ignores_values ix es h.1 g.1) (λ vs. ignores_pure _))

      ignores_actuals : (ix : List ℤ) (es : Arguments) → AvoidsArguments hidden es → RefersArguments Alike es
          → Ignores hidden instead
          (actuals unit calls line ix es)
      ignores_actuals ix no_argument h g = ignores_pure _
      ignores_actuals ix (argument place e es) h g = ignores_then (ignores_passed calls line (ignores_prepare ix e h.0 g.0)
          (calls_in ix e g.0))
          (λ v. ignores_then (ignores_actuals ix es h.1 g.1) (λ vs. ignores_pure _))

      ignores_reduction_values : (ix : List ℤ) (which : Reduction) (es : Arguments) → AvoidsArguments hidden es
          → RefersArguments Alike es
          → Ignores hidden instead (reduction_values unit calls line ix which es)
      ignores_reduction_values ix which no_argument h g = ignores_pure _
      ignores_reduction_values ix which (argument place e no_argument) h g = ignores_then
          (ignores_valued calls line (ignores_prepare ix e h.0 g.0) (calls_in ix e g.0)) (λ v. ignores_pure _)
      ignores_reduction_values ix which (argument place e (argument other f more)) h g = ignores_choose _
          (ignores_paired calls line place other (ignores_prepare ix e h.0 g.0) (calls_in ix e g.0)
          (ignores_prepare ix f h.1.0 g.1.0)
          (calls_in ix f g.1.0))
          (ignores_then (ignores_valued calls line (ignores_prepare ix e h.0 g.0) (calls_in ix e g.0))
          (λ v. ignores_then (ignores_valued calls line (ignores_prepare ix f h.1.0 g.1.0) (calls_in ix f g.1.0))
          (λ w. ignores_pure _)))

      ignores_answer : (ix : List ℤ) (which : Inquiry) (dim : Option ℕ) (subject : Subject) → AvoidsSubject hidden subject
          → RefersSubject Alike subject
          → Ignores hidden instead (answer unit calls line ix which dim subject)
      ignores_answer ix which dim (Name n) h g = ignores_then (ignores_variable n h) (λ v. ignores_asked line which dim v)
      ignores_answer ix which dim (Of e) h g = ignores_then (ignores_prepare ix e h g)
          (λ t. ignores_then (ignores_given _ _) (λ extents. ignores_pure _))

      ignores_named : (ix : List ℤ) (d : Designator) → AvoidsDesignator hidden d → RefersDesignator Alike d
          → Ignores hidden instead (designate unit calls line ix d >>= (λ s. read_section line s >>= (λ v. pure (Held v
          (Some s)))))
      ignores_named ix (at n access part) h g = ignores_knowing (λ s. s.variable ≡ n)
          (ignores_then (ignores_variable n h.0)
          (λ v. ignores_then (ignores_allocated _ _) (λ a. ignores_then (ignores_pick ix _ access h.1 g.0)
          (λ picked. ignores_then (ignores_part_bounds ix _ part h.2 g.1)
          (λ bounds. ignores_placed line n v a picked bounds)))))
          (designates_own unit calls line ix n access part)
          (λ s e. ignores_then (ignores_read_section line s (rw e h.0)) (λ v. ignores_pure _))

      ignores_pick : (ix : List ℤ) (bounds : List Dimension) (access : Access) → AvoidsAccess hidden access
          → RefersAccess Alike access
          → Ignores hidden instead (pick unit calls line ix bounds access)
      ignores_pick ix bounds Whole h g = ignores_pure _
      ignores_pick ix bounds (Subscripted ss) h g = ignores_pick_each ix bounds ss h g

      ignores_pick_each : (ix : List ℤ) (bounds : List Dimension) (ss : Subscripts) → AvoidsSubscripts hidden ss
          → RefersSubscripts Alike ss
          → Ignores hidden instead (pick_each unit calls line ix bounds ss)
      ignores_pick_each ix bounds no_subscript h g = ignores_pure _
      ignores_pick_each ix [] (subscript s ss) h g = ignores_pure _
      ignores_pick_each ix (d ∷ bounds) (subscript s ss) h g = ignores_then (ignores_pick_one ix d s h.0 g.0)
          (λ picked. ignores_then (ignores_pick_each ix bounds ss h.1 g.1) (λ more. ignores_pure _))

      ignores_pick_one : (ix : List ℤ) (d : Dimension) (s : Subscript) → AvoidsSubscript hidden s → RefersSubscript Alike s
          → Ignores hidden instead
          (pick_one unit calls line ix d s)
      ignores_pick_one ix d (One e) h g = ignores_then
          (ignores_number (ignores_valued calls line (ignores_prepare ix e h g) (calls_in ix e g))) (λ i. ignores_pure _)
      ignores_pick_one ix d (Vector e) h g = ignores_then (ignores_valued calls line (ignores_prepare ix e h g)
          (calls_in ix e g))
          (λ v. ignores_pure _)
      ignores_pick_one ix d (SubscriptTriplet first last stride) h g = ignores_then (ignores_bound_or ix _ first h.0 g.0)
          (λ f. ignores_then (ignores_bound_or ix _ last h.1 g.1)
          (λ l. ignores_then (ignores_bound_or ix _ stride h.2 g.2) (λ s. ignores_pure _)))

      ignores_bound_or : (ix : List ℤ) (absent : ℤ) (b : Bound) → AvoidsBound hidden b → RefersBound Alike b
          → Ignores hidden instead
          (bound_or unit calls line ix absent b)
      ignores_bound_or ix absent Absent h g = ignores_pure _
      ignores_bound_or ix absent (Given e) h g = ignores_number (ignores_valued calls line (ignores_prepare ix e h g)
          (calls_in ix e g))

      ignores_part_bounds : (ix : List ℤ) (len : ℕ) (part : Part) → AvoidsPart hidden part → RefersPart Alike part
          → Ignores hidden instead
          (part_bounds unit calls line ix len part)
      ignores_part_bounds ix len AllOf h g = ignores_pure _
      ignores_part_bounds ix len (BytesOf first last) h g = ignores_then (ignores_bound_or ix _ first h.0 g.0)
          (λ f. ignores_then (ignores_bound_or ix _ last h.1 g.1) (λ l. ignores_pure _))

      ignores_gather : (ix : List ℤ) (items : Items) (xs : List Scalar) → AvoidsItems hidden items
          → RefersItems Alike items → Ignores hidden instead
          (gather unit calls line ix items xs)
      ignores_gather ix no_item xs h g = ignores_pure _
      ignores_gather ix (value e more) xs h g = ignores_then (ignores_valued calls line (ignores_prepare ix e h.0 g.0)
          (calls_in ix e g.0))
          (λ v. ignores_then (ignores_gathered line xs v) (λ ys. ignores_gather ix more ys h.1 g.1))
      ignores_gather ix (loop body first last step more) xs h g = ignores_then
          (ignores_number (ignores_valued calls line (ignores_prepare ix first h.1 g.1) (calls_in ix first g.1)))
          (λ f. ignores_then (ignores_number (ignores_valued calls line (ignores_prepare ix last h.2 g.2)
          (calls_in ix last g.2)))
          (λ l. ignores_then (ignores_bound_or ix _ step h.3 g.3)
          (λ s. ignores_next (ignores_unless _ _ _)
          (ignores_then (ignores_rounds _ f s (λ i zs. ignores_gather (ix ++ i ∷ []) body zs h.0 g.0) xs)
          (λ ys. ignores_gather ix more ys h.4 g.4)))))

pub values_ignore_others : ValuesIgnoreOthers
values_ignore_others unit calls line k v ix e g h = ignores_valued k v calls line (ignores_prepare k v unit calls line ix e h g)
    (calls_in k v unit calls line ix e g)

-- ---- calls

module _ (hidden : ℕ) (instead : Variable) where
  ignores_fault : {A : Type 0} (kind : FaultKind) (line : ℕ) → Ignores hidden instead (fault_at {A = A} kind line)
  unfolding fault_at stop
  ignores_fault kind line = record { ignores = λ s. refl }

  -- the caller's variables are out of sight
  ignores_inside : (own : List Variable) (body : Step (Unit {0})) → Ignores hidden instead (inside own body)
  unfolding inside
  ignores_inside own body = record { ignores = λ s. refl }

  ignores_copy : (modified : Bool) (xs : List Scalar) (section : Option Section) → modified ≡ false → Ignores hidden instead
      (copy_back modified xs section)
  ignores_copy false xs section h = ignores_pure hidden instead _
  ignores_copy true xs section h = cc

  ignores_copies : (own : List Variable) (entities : List Entity) (actuals : Actuals) → Every
      (λ (e : Entity). is_out e.role ≡ false) entities
      → Ignores hidden instead (copies_back own entities actuals)
  unfolding copies_back
  ignores_copies (v ∷ own) (e ∷ entities) actuals h = ignores_next hidden instead (ignores_copy _ _ _ h.0)
      (ignores_copies own entities actuals h.1)
  ignores_copies [] entities actuals h = ignores_pure hidden instead _
  ignores_copies (v ∷ own) [] actuals h = ignores_pure hidden instead _

pub function_calls_ignore : FunctionCallsIgnore
function_calls_ignore unit zero p k v h line actuals = ignores_next k v (ignores_unless k v _ _ _) (ignores_fault k v _ _)
function_calls_ignore unit (suc depth) p k v h line actuals = ignores_next k v (ignores_unless k v _ _ _)
    (ignores_next k v (ignores_turn k v)
    (ignores_then k v (ignores_inside k v _ (body_acts unit (called unit depth) line actuals (procedure_at unit p)))
    (λ own. ignores_next k v (ignores_copies k v own _ actuals h) (ignores_pure k v _))))

-- ---- stores

pub stores_leave_others : StoresLeaveOthers
unfolding store_all set_variable pure
stores_leave_others n bytes stores s = record {
  variables = λ k d h. get_or-set_other s.variables n k _ d h;
  input = refl;
  written = refl;
  left = refl;
}
