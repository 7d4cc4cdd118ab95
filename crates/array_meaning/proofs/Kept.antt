-- A relation between the states before and after, kept by each step and so by all of them: through element trees and the parts of
-- expressions, if the calls that they make keep it.
use Rattle.std.proofs.Common.{◌≡◌, refl, ap, subst, ℕ, ℤ, zero, suc, ◌+ℤ◌, Bool, true, false, List, [], ◌∷◌, ◌++◌}
use Rattle.std.specs.Prelude.{Option, Some, None, Result, Ok, Err}
use Rattle.a95_base.specs.declared.fault.FaultKind.{FaultKind}
use Rattle.a95_base.specs.declared.scalar.Scalar.{Scalar}
use Rattle.a95_base.specs.Steps.{pure, stop, behind, ◌>>=◌, ◌>>◌}
use Rattle.f95_unit.specs.declared.operation.Inquiry.{Inquiry}
use Rattle.f95_unit.specs.declared.operation.Inquiry.TheVariants as inquiry
use Rattle.f95_unit.specs.declared.operation.Reduction.{Reduction}
use Rattle.f95_unit.specs.Plain.{Expr, typed, Literal, Constant, Index, Named, Brackets, Unary, Binary, Constructor, Elementwise}
use Rattle.f95_unit.specs.Plain.{Trim, Asked, Reduced, Rearranged, Called, Designator, at, Access, Whole, Subscripted, Subscripts}
use Rattle.f95_unit.specs.Plain.{no_subscript, subscript, Subscript, One, Vector, SubscriptTriplet, Bound, Absent, Given, Part}
use Rattle.f95_unit.specs.Plain.{AllOf, BytesOf, Items, no_item, value, loop, Arguments, no_argument, argument, Subject, Name, Of}
use Rattle.f95_unit.specs.Plain.{call, Program}
use Rattle.array_meaning.specs.Values.{Value}
use Rattle.array_meaning.specs.State.{Dimension, Array, Variable, State, Halt, Step, fault_at, unless, choose, given}
use Rattle.array_meaning.specs.State.{allocated_array, turn_from, turn, variable}
use Rattle.array_meaning.specs.Sections.{Picked, Section, placed, read_section}
use Rattle.array_meaning.specs.Trees.{Tree, Held, UnaryOf, BinaryOf, Each, CallEach, Trees, no_tree, tree, bracketed, Passed}
use Rattle.array_meaning.specs.Trees.{Caller, element, elements, all_from, masked_from, pairs_from, whole, valued, passed, paired}
use Rattle.array_meaning.specs.Expressions.{number_of_value, rounds, gathered, asked, prepare, trees, values, actuals}
use Rattle.array_meaning.specs.Expressions.{reduction_values, answer, designate, pick, pick_each, pick_one, bound_or, part_bounds}
use Rattle.array_meaning.specs.Expressions.{gather, evaluate, integer, truth}
use Rattle.array_meaning.specs.Purity.{Refers, RefersArguments, RefersSubject, RefersDesignator, RefersAccess, RefersSubscripts}
use Rattle.array_meaning.specs.Purity.{RefersSubscript, RefersBound, RefersPart, RefersItems, Changes}

pub record Preorder : Type 1 where
  pub relation : State → State → Type 0
  pub same : (s : State) → relation s s
  pub join : (a b c : State) → relation a b → relation b c → relation a c
  pub turns : (s : State) (n : ℕ) → s.left ≡ suc n → relation s (record s { left = n })

-- the state goes by the relation, and of a value that a step comes to something holds
pub record Keeps (R : Preorder) {A : Type 0} (Q : A → Type 0) (m : Step A) : Type 0 where
  pub goes : Changes R.relation m
  pub gives : (s : State) (a : A) → (m s).came ≡ Ok a → Q a

abbrev pub Any : {A : Type 0} → A → Type 0
Any a = Unit {0}

-- the procedures of an element tree
abbrev mutual
  pub CallsIn : (ℕ → Type 0) → Tree → Type 0
  CallsIn P (Held v section) = Unit {0}
  CallsIn P (UnaryOf op t) = CallsIn P t
  CallsIn P (BinaryOf op t u) = CallsIn P t × CallsIn P u
  CallsIn P (Each which ts) = CallsInAll P ts
  CallsIn P (CallEach p like ts) = P p × CallsInAll P ts

  pub CallsInAll : (ℕ → Type 0) → Trees → Type 0
  CallsInAll P no_tree = Unit {0}
  CallsInAll P (tree place t ts) = CallsIn P t × CallsInAll P ts

in_brackets : (P : ℕ → Type 0) (t : Tree) → CallsIn P t → CallsIn P (bracketed t)
in_brackets P (Held v section) h = tt
in_brackets P (UnaryOf op t) h = h
in_brackets P (BinaryOf op t u) h = h
in_brackets P (Each which ts) h = h
in_brackets P (CallEach p like ts) h = h

value_or : {A : Type 0} → A → Result A Halt → A
value_or d (Ok a) = a
value_or d (Err halt) = d

module _ (R : Preorder) where
  -- ---- one step behind another

  goes_behind : {A B : Type 0} (f : A → Step B) (came : Result A Halt) (s : State) →
      ((a : A) → came ≡ Ok a → Changes R.relation (f a))
      → R.relation s (behind f came s).after
  unfolding behind
  goes_behind f (Ok a) s g = g a refl s
  goes_behind f (Err halt) s g = R.same s

  gives_behind : {A B : Type 0} (Q : B → Type 0) (f : A → Step B) (came : Result A Halt) (s : State)
      → ((a : A) → came ≡ Ok a → (b : B) → (f a s).came ≡ Ok b → Q b) → (b : B) → (behind f came s).came ≡ Ok b → Q b
  unfolding behind
  gives_behind Q f (Ok a) s g b e = g a refl b e
  gives_behind Q f (Err halt) s g b e = cc

  pub keeps_then : {A B : Type 0} {P : A → Type 0} {Q : B → Type 0} {m : Step A} {f : A → Step B} → Keeps R P m →
      ((a : A) → P a → Keeps R Q (f a)) → Keeps R Q (m >>= f)
  unfolding ◌>>=◌
  keeps_then {Q = Q} {m = m} {f = f} h g = record {
    goes = λ s. R.join s (m s).after _ (h.goes s) (goes_behind f (m s).came (m s).after (λ a e. (g a (h.gives s a e)).goes));
    gives = λ s b e. gives_behind Q f (m s).came (m s).after (λ a e. (g a (h.gives s a e)).gives (m s).after) b e;
  }

  pub keeps_next : {A B : Type 0} {P : A → Type 0} {Q : B → Type 0} {m : Step A} {n : Step B} → Keeps R P m → Keeps R Q n
      → Keeps R Q (m >> n)
  unfolding ◌>>◌ ◌>>=◌
  keeps_next {Q = Q} {n = n} h g = record {
    goes = (keeps_then {Q = Q} {f = λ a. n} h (λ a p. g)).goes;
    gives =
        (keeps_then {Q = Q} {f = λ a. n} h (λ a p. g)).gives;
  }

  pub keeps_choose : {A : Type 0} {Q : A → Type 0} (b : Bool) {m n : Step A} → Keeps R Q m → Keeps R Q n → Keeps R Q (choose b m n)
  unfolding choose
  keeps_choose true h g = record { goes = h.goes; gives = h.gives }
  keeps_choose false h g = record { goes = g.goes; gives = g.gives }

  -- ---- single steps

  pub keeps_pure : {A : Type 0} (Q : A → Type 0) (a : A) → Q a → Keeps R Q (pure a)
  unfolding pure value_or
  keeps_pure Q a h = record { goes = λ s. R.same s; gives = λ s b e. subst Q (ap (value_or a) e) h }

  pub kept : {A : Type 0} (a : A) → Keeps R Any (pure a)
  unfolding pure
  kept a = record { goes = λ s. R.same s; gives = λ s b e. tt }

  pub keeps_fault : {A : Type 0} (kind : FaultKind) (line : ℕ) → Keeps R Any (fault_at {A = A} kind line)
  unfolding fault_at stop
  keeps_fault kind line = record { goes = λ s. R.same s; gives = λ s b e. tt }

  pub keeps_stop : {A : Type 0} (halt : Halt) → Keeps R Any (stop {A = A} halt)
  unfolding stop
  keeps_stop halt = record { goes = λ s. R.same s; gives = λ s b e. tt }

  pub keeps_unless : (b : Bool) (kind : FaultKind) (line : ℕ) → Keeps R Any (unless b kind line)
  unfolding unless pure stop
  keeps_unless true kind line = record { goes = λ s. R.same s; gives = λ s b e. tt }
  keeps_unless false kind line = record { goes = λ s. R.same s; gives = λ s b e. tt }

  pub keeps_given : {A : Type 0} (line : ℕ) (r : Result A FaultKind) → Keeps R Any (given line r)
  unfolding given pure stop
  keeps_given line (Ok a) = record { goes = λ s. R.same s; gives = λ s b e. tt }
  keeps_given line (Err kind) = record { goes = λ s. R.same s; gives = λ s b e. tt }

  pub keeps_allocated : (line : ℕ) (held : Option Array) → Keeps R Any (allocated_array line held)
  unfolding allocated_array pure stop
  keeps_allocated line (Some a) = record { goes = λ s. R.same s; gives = λ s b e. tt }
  keeps_allocated line None = record { goes = λ s. R.same s; gives = λ s b e. tt }

  pub keeps_variable : (n : ℕ) → Keeps R Any (variable n)
  unfolding variable pure
  keeps_variable n = record { goes = λ s. R.same s; gives = λ s b e. tt }

  turn_goes : (n : ℕ) (s : State) → s.left ≡ n → R.relation s (turn_from n s).after
  unfolding turn_from pure stop
  turn_goes zero s e = R.same s
  turn_goes (suc n) s e = R.turns s n e

  pub keeps_turn : Keeps R Any turn
  unfolding turn
  keeps_turn = record { goes = λ s. turn_goes s.left s refl; gives = λ s b e. tt }

  -- a call, of which nothing more is asked
  pub keeps_call : {A : Type 0} {m : Step A} → Changes R.relation m → Keeps R Any m
  keeps_call h = record { goes = h; gives = λ s b e. tt }

  -- ---- steps on integers, sections, rounds

  pub keeps_number : {m : Step Value} → Keeps R Any m → Keeps R Any (number_of_value m)
  keeps_number h = keeps_then h (λ v p. kept _)

  keeps_read_section : (line : ℕ) (s : Section) → Keeps R Any (read_section line s)
  keeps_read_section line s = keeps_then (keeps_variable _) (λ v p. keeps_then (keeps_allocated _ _) (λ a p. kept _))

  keeps_placed : (line n : ℕ) (v : Variable) (a : Array) (picked : List Picked) (part : Option (ℤ × ℤ)) → Keeps R Any
      (placed line n v a picked part)
  keeps_placed line n v a picked part = keeps_next (keeps_unless _ _ _)
      (keeps_next (keeps_unless _ _ _) (keeps_next (keeps_unless _ _ _) (kept _)))

  keeps_rounds : (n : ℕ) (i step : ℤ) {body : ℤ → List Scalar → Step (List Scalar)} →
      ((i : ℤ) (xs : List Scalar) → Keeps R Any (body i xs)) → (xs : List Scalar)
      → Keeps R Any (rounds n i step body xs)
  unfolding rounds
  keeps_rounds zero i step h xs = kept _
  keeps_rounds (suc n) i step h xs = keeps_next keeps_turn (keeps_then (h i xs) (λ ys p. keeps_rounds n (i +ℤ step) step h ys))

  keeps_gathered : (line : ℕ) (xs : List Scalar) (v : Value) → Keeps R Any (gathered line xs v)
  keeps_gathered line xs v = keeps_next (keeps_unless _ _ _) (kept _)

  keeps_asked : (line : ℕ) (which : Inquiry) (dim : Option ℕ) (v : Variable) → Keeps R Any (asked line which dim v)
  keeps_asked line inquiry.Allocated dim v = kept _
  keeps_asked line which dim v = keeps_then (keeps_allocated _ _) (λ a p. kept _)

  -- ---- element trees

  module _ (P : ℕ → Type 0) (calls : Caller)
      (goes : (p : ℕ) → P p → (line : ℕ) (actuals : List (ℕ × Passed)) → Changes R.relation (calls p line actuals)) (line : ℕ) where
    mutual
      pub keeps_element : (t : Tree) (k : ℕ) → CallsIn P t → Keeps R Any (element calls line t k)
      keeps_element (Held v section) k h = kept _
      keeps_element (UnaryOf op t) k h = keeps_then (keeps_element t k h) (λ x p. kept _)
      keeps_element (BinaryOf op t u) k h = keeps_then (keeps_element t k h.0)
          (λ x p. keeps_then (keeps_element u k h.1) (λ y p. keeps_given _ _))
      keeps_element (Each which ts) k h = keeps_then (keeps_elements ts k h) (λ xs p. keeps_given _ _)
      keeps_element (CallEach p x ts) k h = keeps_then (keeps_elements ts k h.1)
          (λ xs q. keeps_then (keeps_call (goes p h.0 _ _)) (λ v q. kept _))

      pub keeps_elements : (ts : Trees) (k : ℕ) → CallsInAll P ts → Keeps R Any (elements calls line ts k)
      keeps_elements no_tree k h = kept _
      keeps_elements (tree place t ts) k h = keeps_then (keeps_element t k h.0)
          (λ x p. keeps_then (keeps_elements ts k h.1) (λ xs p. kept _))

    pub keeps_all : (k n : ℕ) (t : Tree) → CallsIn P t → Keeps R Any (all_from calls line k n t)
    unfolding all_from
    keeps_all k zero t h = kept _
    keeps_all k (suc n) t h = keeps_then (keeps_element t k h) (λ x p. keeps_then (keeps_all (suc k) n t h) (λ xs p. kept _))

    pub keeps_masked : (k : ℕ) (mask : List Bool) (t : Tree) → CallsIn P t → Keeps R Any (masked_from calls line k mask t)
    unfolding masked_from
    keeps_masked k [] t h = kept _
    keeps_masked k (true ∷ mask) t h = keeps_then (keeps_element t k h)
        (λ x p. keeps_then (keeps_masked (suc k) mask t h) (λ xs p. kept _))
    keeps_masked k (false ∷ mask) t h = keeps_then (keeps_masked (suc k) mask t h) (λ xs p. kept _)

    keeps_pairs : (k n : ℕ) (t u : Tree) → CallsIn P t → CallsIn P u → Keeps R Any (pairs_from calls line k n t u)
    unfolding pairs_from
    keeps_pairs k zero t u h g = kept _
    keeps_pairs k (suc n) t u h g = keeps_then (keeps_element t k h)
        (λ x p. keeps_then (keeps_element u k g) (λ y p. keeps_then (keeps_pairs (suc k) n t u h g) (λ more p. kept _)))

    keeps_whole : (t : Tree) → CallsIn P t → Keeps R Any (whole calls line t)
    unfolding whole
    keeps_whole t h = keeps_then (keeps_given _ _) (λ extents p. keeps_then (keeps_all _ _ t h) (λ xs p. kept _))

    keeps_valued : {m : Step Tree} → Keeps R (CallsIn P) m → Keeps R Any (valued calls line m)
    keeps_valued h = keeps_then h (λ t p. keeps_whole t p)

    keeps_passed : {m : Step Tree} → Keeps R (CallsIn P) m → Keeps R Any (passed calls line m)
    keeps_passed h = keeps_then h (λ t p. keeps_then (keeps_whole t p) (λ v q. kept _))

    keeps_paired : (place other : ℕ) {m n : Step Tree} → Keeps R (CallsIn P) m → Keeps R (CallsIn P) n → Keeps R Any
        (paired calls line place other m n)
    keeps_paired place other h g = keeps_then h
        (λ t p. keeps_then g
        (λ u q. keeps_then (keeps_given _ _) (λ extents r. keeps_then (keeps_pairs _ _ t u p q) (λ both r. kept _))))

    -- ---- parts

    module _ (unit : Program) where
      mutual
        pub keeps_prepare : (ix : List ℤ) (e : Expr) → Refers P e → Keeps R (CallsIn P) (prepare unit calls line ix e)
        keeps_prepare ix (typed f (Literal x)) h = keeps_pure (CallsIn P) _ tt
        keeps_prepare ix (typed f (Constant n)) h = keeps_pure (CallsIn P) _ tt
        keeps_prepare ix (typed f (Index k)) h = keeps_pure (CallsIn P) _ tt
        keeps_prepare ix (typed f (Named d)) h = keeps_then (keeps_designate ix d h)
            (λ s p. keeps_then (keeps_read_section line s) (λ v p. keeps_pure (CallsIn P) _ tt))
        keeps_prepare ix (typed f (Brackets e)) h = keeps_then (keeps_prepare ix e h)
            (λ t p. keeps_pure (CallsIn P) _ (in_brackets P t p))
        keeps_prepare ix (typed f (Unary op e)) h = keeps_then (keeps_prepare ix e h) (λ t p. keeps_pure (CallsIn P) _ p)
        keeps_prepare ix (typed f (Binary op e g)) h = keeps_then (keeps_prepare ix e h.0)
            (λ t p. keeps_then (keeps_prepare ix g h.1) (λ u q. keeps_pure (CallsIn P) _ (p, q)))
        keeps_prepare ix (typed f (Constructor items)) h = keeps_then (keeps_gather ix items [] h)
            (λ xs p. keeps_pure (CallsIn P) _ tt)
        keeps_prepare ix (typed f (Elementwise which es)) h = keeps_choose _
            (keeps_then (keeps_values ix es h) (λ vs p. keeps_then (keeps_given _ _) (λ x p. keeps_pure (CallsIn P) _ tt)))
            (keeps_then (keeps_trees ix es h) (λ ts p. keeps_pure (CallsIn P) _ p))
        keeps_prepare ix (typed f (Trim e)) h = keeps_then (keeps_valued (keeps_prepare ix e h))
            (λ v p. keeps_pure (CallsIn P) _ tt)
        keeps_prepare ix (typed f (Asked which dim subject)) h = keeps_then (keeps_answer ix which dim subject h)
            (λ v p. keeps_pure (CallsIn P) _ tt)
        keeps_prepare ix (typed f (Reduced which dim es)) h = keeps_then (keeps_reduction_values ix which es h)
            (λ vs p. keeps_then (keeps_given _ _) (λ v p. keeps_pure (CallsIn P) _ tt))
        keeps_prepare ix (typed f (Rearranged which dim es)) h = keeps_then (keeps_values ix es h)
            (λ vs p. keeps_then (keeps_given _ _) (λ v p. keeps_pure (CallsIn P) _ tt))
        keeps_prepare ix (typed f (Called (call p es))) h = keeps_choose _
            (keeps_then (keeps_trees ix es h.1) (λ ts q. keeps_pure (CallsIn P) _ (h.0, q)))
            (keeps_then (keeps_actuals ix es h.1)
            (λ vs q. keeps_then (keeps_call (goes p h.0 _ _)) (λ v q. keeps_pure (CallsIn P) _ tt)))

        pub keeps_trees : (ix : List ℤ) (es : Arguments) → RefersArguments P es → Keeps R (CallsInAll P) (trees unit calls line ix
            es)
        keeps_trees ix no_argument h = keeps_pure (CallsInAll P) _ tt
        keeps_trees ix (argument place e es) h = keeps_then (keeps_prepare ix e h.0)
            (λ t p. keeps_then (keeps_trees ix es h.1) (λ ts q. keeps_pure (CallsInAll P) _ (p, q)))

        pub keeps_values : (ix : List ℤ) (es : Arguments) → RefersArguments P es → Keeps R Any (values unit calls line ix es)
        keeps_values ix no_argument h = kept _
        keeps_values ix (argument place e es) h = keeps_then (keeps_valued (keeps_prepare ix e h.0))
            (λ v p. keeps_then (keeps_values ix es h.1) (λ vs p. kept _))

        pub keeps_actuals : (ix : List ℤ) (es : Arguments) → RefersArguments P es → Keeps R Any (actuals unit calls line ix es)
        keeps_actuals ix no_argument h = kept _
        keeps_actuals ix (argument place e es) h = keeps_then (keeps_passed (keeps_prepare ix e h.0))
            (λ v p. keeps_then (keeps_actuals ix es h.1) (λ vs p. kept _))

        keeps_reduction_values : (ix : List ℤ) (which : Reduction) (es : Arguments) → RefersArguments P es → Keeps R Any
            (reduction_values unit calls line ix which es)
        keeps_reduction_values ix which no_argument h = kept _
        keeps_reduction_values ix which (argument place e no_argument) h = keeps_then (keeps_valued (keeps_prepare ix e h.0))
            (λ v p. kept _)
        keeps_reduction_values ix which (argument place e (argument other g more)) h = keeps_choose _
            (keeps_paired place other (keeps_prepare ix e h.0) (keeps_prepare ix g h.1.0))
            (keeps_then (keeps_valued (keeps_prepare ix e h.0))
            (λ v p. keeps_then (keeps_valued (keeps_prepare ix g h.1.0)) (λ w p. kept _)))

        keeps_answer : (ix : List ℤ) (which : Inquiry) (dim : Option ℕ) (subject : Subject) → RefersSubject P subject
            → Keeps R Any (answer unit calls line ix which dim subject)
        keeps_answer ix which dim (Name n) h = keeps_then (keeps_variable n) (λ v p. keeps_asked line which dim v)
        keeps_answer ix which dim (Of e) h = keeps_then (keeps_prepare ix e h)
            (λ t p. keeps_then (keeps_given _ _) (λ extents p. kept _))

        pub keeps_designate : (ix : List ℤ) (d : Designator) → RefersDesignator P d → Keeps R Any (designate unit calls line ix d)
        keeps_designate ix (at n access part) h = keeps_then (keeps_variable n)
            (λ v p. keeps_then (keeps_allocated _ _) (λ a p. keeps_then (keeps_pick ix _ access h.0)
            (λ picked p. keeps_then (keeps_part_bounds ix _ part h.1) (λ bounds p. keeps_placed line n v a picked bounds))))

        keeps_pick : (ix : List ℤ) (bounds : List Dimension) (access : Access) → RefersAccess P access → Keeps R Any
            (pick unit calls line ix bounds access)
        keeps_pick ix bounds Whole h = kept _
        keeps_pick ix bounds (Subscripted ss) h = keeps_pick_each ix bounds ss h

        keeps_pick_each : (ix : List ℤ) (bounds : List Dimension) (ss : Subscripts) → RefersSubscripts P ss → Keeps R Any
            (pick_each unit calls line ix bounds ss)
        keeps_pick_each ix bounds no_subscript h = kept _
        keeps_pick_each ix [] (subscript s ss) h = kept _
        keeps_pick_each ix (d ∷ bounds) (subscript s ss) h = keeps_then (keeps_pick_one ix d s h.0)
            (λ picked p. keeps_then (keeps_pick_each ix bounds ss h.1) (λ more p. kept _))

        keeps_pick_one : (ix : List ℤ) (d : Dimension) (s : Subscript) → RefersSubscript P s → Keeps R Any
            (pick_one unit calls line ix d s)
        keeps_pick_one ix d (One e) h = keeps_then (keeps_number (keeps_valued (keeps_prepare ix e h))) (λ i p. kept _)
        keeps_pick_one ix d (Vector e) h = keeps_then (keeps_valued (keeps_prepare ix e h)) (λ v p. kept _)
        keeps_pick_one ix d (SubscriptTriplet first last stride) h = keeps_then (keeps_bound_or ix _ first h.0)
            (λ f p. keeps_then (keeps_bound_or ix _ last h.1)
            (λ l p. keeps_then (keeps_bound_or ix _ stride h.2) (λ s p. kept _)))

        pub keeps_bound_or : (ix : List ℤ) (absent : ℤ) (b : Bound) → RefersBound P b → Keeps R Any
            (bound_or unit calls line ix absent b)
        keeps_bound_or ix absent Absent h = kept _
        keeps_bound_or ix absent (Given e) h = keeps_number (keeps_valued (keeps_prepare ix e h))

        keeps_part_bounds : (ix : List ℤ) (len : ℕ) (part : Part) → RefersPart P part → Keeps R Any
            (part_bounds unit calls line ix len part)
        keeps_part_bounds ix len AllOf h = kept _
        keeps_part_bounds ix len (BytesOf first last) h = keeps_then (keeps_bound_or ix _ first h.0)
            (λ f p. keeps_then (keeps_bound_or ix _ last h.1) (λ l p. kept _))

        keeps_gather : (ix : List ℤ) (items : Items) (xs : List Scalar) → RefersItems P items → Keeps R Any
            (gather unit calls line ix items xs)
        keeps_gather ix no_item xs h = kept _
        keeps_gather ix (value e more) xs h = keeps_then (keeps_valued (keeps_prepare ix e h.0))
            (λ v p. keeps_then (keeps_gathered line xs v) (λ ys p. keeps_gather ix more ys h.1))
        keeps_gather ix (loop body first last step more) xs h = keeps_then
            (keeps_number (keeps_valued (keeps_prepare ix first h.1)))
            (λ f p. keeps_then (keeps_number (keeps_valued (keeps_prepare ix last h.2)))
            (λ l p. keeps_then (keeps_bound_or ix _ step h.3)
            (λ s p. keeps_next (keeps_unless _ _ _)
            (keeps_then (keeps_rounds _ f s (λ i zs. keeps_gather (ix ++ i ∷ []) body zs h.0) xs)
            (λ ys p. keeps_gather ix more ys h.4)))))

      pub keeps_evaluate : (ix : List ℤ) (e : Expr) → Refers P e → Keeps R Any (evaluate unit calls line ix e)
      keeps_evaluate ix e h = keeps_valued (keeps_prepare ix e h)

      pub keeps_integer : (ix : List ℤ) (e : Expr) → Refers P e → Keeps R Any (integer unit calls line ix e)
      keeps_integer ix e h = keeps_number (keeps_evaluate ix e h)

      pub keeps_truth : (ix : List ℤ) (e : Expr) → Refers P e → Keeps R Any (truth unit calls line ix e)
      keeps_truth ix e h = keeps_then (keeps_evaluate ix e h) (λ v p. kept _)
