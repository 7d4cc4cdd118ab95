-- One more turn, for element trees and for the parts of expressions: one line a case.
use Rattle.std.proofs.Common.{ℕ, ℤ, zero, suc, ◌+ℤ◌, Bool, true, false, List, [], ◌∷◌, ◌++◌}
use Rattle.std.specs.Prelude.{Option}
use Rattle.a95_base.specs.declared.scalar.Scalar.{Scalar}
use Rattle.a95_base.proofs.Turns.{grows_then, grows_next, steady_pure}
use Rattle.f95_unit.specs.declared.operation.Inquiry.{Inquiry}
use Rattle.f95_unit.specs.declared.operation.Inquiry.TheVariants as inquiry
use Rattle.f95_unit.specs.declared.operation.Reduction.{Reduction}
use Rattle.f95_unit.specs.Plain.{Expr, typed, Literal, Constant, Index, Named, Brackets, Unary, Binary, Constructor, Elementwise}
use Rattle.f95_unit.specs.Plain.{Trim, Asked, Reduced, Rearranged, Called, Designator, at, Access, Whole, Subscripted, Subscripts}
use Rattle.f95_unit.specs.Plain.{no_subscript, subscript, Subscript, One, Vector, SubscriptTriplet, Bound, Absent, Given, Part}
use Rattle.f95_unit.specs.Plain.{AllOf, BytesOf, Items, no_item, value, loop, Arguments, no_argument, argument, Subject, Name, Of}
use Rattle.f95_unit.specs.Plain.{call, Program}
use Rattle.array_meaning.specs.Values.{Value}
use Rattle.array_meaning.specs.State.{Dimension, Array, Variable, Step}
use Rattle.array_meaning.specs.Sections.{Picked, Section, placed, read_section}
use Rattle.array_meaning.specs.Trees.{Tree, Held, UnaryOf, BinaryOf, Each, CallEach, Trees, no_tree, tree, Passed, Caller, element}
use Rattle.array_meaning.specs.Trees.{elements, all_from, masked_from, pairs_from, whole, valued, passed, paired}
use Rattle.array_meaning.specs.Expressions.{number_of_value, rounds, gathered, asked, prepare, trees, values, actuals}
use Rattle.array_meaning.specs.Expressions.{reduction_values, answer, designate, pick, pick_each, pick_one, bound_or, part_bounds}
use Rattle.array_meaning.specs.Expressions.{gather, evaluate, integer, truth}
use Rattle.array_meaning.proofs.Turns.{Steady, steady_unless, steady_given, steady_allocated}
use Rattle.array_meaning.proofs.Turns.{steady_variable, steady_turn, grows_choose}

-- what is done to a call that is compared with itself
abbrev pub SteadyCalls : Caller → Type 0
SteadyCalls calls = (p line : ℕ) (actuals : List (ℕ × Passed)) → Steady (calls p line actuals)

module _ (calls : Caller) (line : ℕ) (same : SteadyCalls calls) where
  mutual
    pub steady_element : (t : Tree) (k : ℕ) → Steady (element calls line t k)
    steady_element (Held v section) k = steady_pure _
    steady_element (UnaryOf op t) k = grows_then (steady_element t k) (λ x. steady_pure _)
    steady_element (BinaryOf op t u) k = grows_then (steady_element t k)
        (λ x. grows_then (steady_element u k) (λ y. steady_given _ _))
    steady_element (Each which ts) k = grows_then (steady_elements ts k) (λ xs. steady_given _ _)
    steady_element (CallEach p x ts) k = grows_then (steady_elements ts k) (λ xs. grows_then (same _ _ _) (λ v. steady_pure _))

    pub steady_elements : (ts : Trees) (k : ℕ) → Steady (elements calls line ts k)
    steady_elements no_tree k = steady_pure _
    steady_elements (tree place t ts) k = grows_then (steady_element t k)
        (λ x. grows_then (steady_elements ts k) (λ xs. steady_pure _))

  pub steady_all : (k n : ℕ) (t : Tree) → Steady (all_from calls line k n t)
  unfolding all_from
  steady_all k zero t = steady_pure _
  steady_all k (suc n) t = grows_then (steady_element t k) (λ x. grows_then (steady_all (suc k) n t) (λ xs. steady_pure _))

  pub steady_masked : (k : ℕ) (mask : List Bool) (t : Tree) → Steady (masked_from calls line k mask t)
  unfolding masked_from
  steady_masked k [] t = steady_pure _
  steady_masked k (true ∷ mask) t = grows_then (steady_element t k)
      (λ x. grows_then (steady_masked (suc k) mask t) (λ xs. steady_pure _))
  steady_masked k (false ∷ mask) t = grows_then (steady_masked (suc k) mask t) (λ xs. steady_pure _)

  pub steady_pairs : (k n : ℕ) (t u : Tree) → Steady (pairs_from calls line k n t u)
  unfolding pairs_from
  steady_pairs k zero t u = steady_pure _
  steady_pairs k (suc n) t u = grows_then (steady_element t k)
      (λ x. grows_then (steady_element u k) (λ y. grows_then (steady_pairs (suc k) n t u) (λ more. steady_pure _)))

  pub steady_whole : (t : Tree) → Steady (whole calls line t)
  unfolding whole
  steady_whole t = grows_then (steady_given _ _) (λ extents. grows_then (steady_all _ _ t) (λ xs. steady_pure _))

  pub steady_valued : {m : Step Tree} → Steady m → Steady (valued calls line m)
  steady_valued h = grows_then h (λ t. steady_whole t)

  pub steady_passed : {m : Step Tree} → Steady m → Steady (passed calls line m)
  steady_passed h = grows_then h (λ t. grows_then (steady_whole t) (λ v. steady_pure _))

  pub steady_paired : (place other : ℕ) {m n : Step Tree} → Steady m → Steady n → Steady (paired calls line place other m n)
  steady_paired place other h g = grows_then h
      (λ t. grows_then g
      (λ u. grows_then (steady_given _ _) (λ extents. grows_then (steady_pairs _ _ t u) (λ both. steady_pure _))))

-- ---- steps on integers, sections, rounds

pub steady_number : {m : Step Value} → Steady m → Steady (number_of_value m)
steady_number h = grows_then h (λ v. steady_pure _)

pub steady_read_section : (line : ℕ) (s : Section) → Steady (read_section line s)
steady_read_section line s = grows_then (steady_variable _) (λ v. grows_then (steady_allocated _ _) (λ a. steady_pure _))

pub steady_placed : (line n : ℕ) (v : Variable) (a : Array) (picked : List Picked) (part : Option (ℤ × ℤ)) → Steady
    (placed line n v a picked part)
steady_placed line n v a picked part = grows_next (steady_unless _ _ _)
    (grows_next (steady_unless _ _ _) (grows_next (steady_unless _ _ _) (steady_pure _)))

pub steady_rounds : (n : ℕ) (i step : ℤ) {body : ℤ → List Scalar → Step (List Scalar)} →
    ((i : ℤ) (xs : List Scalar) → Steady (body i xs)) → (xs : List Scalar) → Steady (rounds n i step body xs)
unfolding rounds
steady_rounds zero i step h xs = steady_pure _
steady_rounds (suc n) i step h xs = grows_next steady_turn (grows_then (h i xs) (λ ys. steady_rounds n (i +ℤ step) step h ys))

pub steady_gathered : (line : ℕ) (xs : List Scalar) (v : Value) → Steady (gathered line xs v)
steady_gathered line xs v = grows_next (steady_unless _ _ _) (steady_pure _)

pub steady_asked : (line : ℕ) (which : Inquiry) (dim : Option ℕ) (v : Variable) → Steady (asked line which dim v)
steady_asked line inquiry.Allocated dim v = steady_pure _
steady_asked line which dim v = grows_then (steady_allocated _ _) (λ a. steady_pure _)

-- ---- parts

module _ (unit : Program) (calls : Caller) (line : ℕ) (same : SteadyCalls calls) where
  mutual
    pub steady_prepare : (ix : List ℤ) (e : Expr) → Steady (prepare unit calls line ix e)
    steady_prepare ix (typed f (Literal x)) = steady_pure _
    steady_prepare ix (typed f (Constant n)) = steady_pure _
    steady_prepare ix (typed f (Index k)) = steady_pure _
    steady_prepare ix (typed f (Named d)) = grows_then (steady_designate ix d)
        (λ s. grows_then (steady_read_section line s) (λ v. steady_pure _))
    steady_prepare ix (typed f (Brackets e)) = grows_then (steady_prepare ix e) (λ t. steady_pure _)
    steady_prepare ix (typed f (Unary op e)) = grows_then (steady_prepare ix e) (λ t. steady_pure _)
    steady_prepare ix (typed f (Binary op e g)) = grows_then (steady_prepare ix e)
        (λ t. grows_then (steady_prepare ix g) (λ u. steady_pure _))
    steady_prepare ix (typed f (Constructor items)) = grows_then (steady_gather ix items []) (λ xs. steady_pure _)
    steady_prepare ix (typed f (Elementwise which es)) = grows_choose _
        (grows_then (steady_values ix es) (λ vs. grows_then (steady_given _ _) (λ x. steady_pure _)))
        (grows_then (steady_trees ix es) (λ ts. steady_pure _))
    steady_prepare ix (typed f (Trim e)) = grows_then (steady_valued calls line same (steady_prepare ix e)) (λ v. steady_pure _)
    steady_prepare ix (typed f (Asked which dim subject)) = grows_then (steady_answer ix which dim subject) (λ v. steady_pure _)
    steady_prepare ix (typed f (Reduced which dim es)) = grows_then (steady_reduction_values ix which es)
        (λ vs. grows_then (steady_given _ _) (λ v. steady_pure _))
    steady_prepare ix (typed f (Rearranged which dim es)) = grows_then (steady_values ix es)
        (λ vs. grows_then (steady_given _ _) (λ v. steady_pure _))
    steady_prepare ix (typed f (Called (call p es))) = grows_choose _
        (grows_then (steady_trees ix es) (λ ts. steady_pure _))
        (grows_then (steady_actuals ix es) (λ vs. grows_then (same _ _ _) (λ v. steady_pure _)))

    pub steady_trees : (ix : List ℤ) (es : Arguments) → Steady (trees unit calls line ix es)
    steady_trees ix no_argument = steady_pure _
    steady_trees ix (argument place e es) = grows_then (steady_prepare ix e)
        (λ t. grows_then (steady_trees ix es) (λ ts. steady_pure _))

    pub steady_values : (ix : List ℤ) (es : Arguments) → Steady (values unit calls line ix es)
    steady_values ix no_argument = steady_pure _
    steady_values ix (argument place e es) = grows_then (steady_valued calls line same (steady_prepare ix e))
        (λ v. grows_then (steady_values ix es) (λ vs. steady_pure _))

    pub steady_actuals : (ix : List ℤ) (es : Arguments) → Steady (actuals unit calls line ix es)
    steady_actuals ix no_argument = steady_pure _
    steady_actuals ix (argument place e es) = grows_then (steady_passed calls line same (steady_prepare ix e))
        (λ v. grows_then (steady_actuals ix es) (λ vs. steady_pure _))

    pub steady_reduction_values : (ix : List ℤ) (which : Reduction) (es : Arguments) → Steady
        (reduction_values unit calls line ix which es)
    steady_reduction_values ix which no_argument = steady_pure _
    steady_reduction_values ix which (argument place e no_argument) = grows_then
        (steady_valued calls line same (steady_prepare ix e)) (λ v. steady_pure _)
    steady_reduction_values ix which (argument place e (argument other g more)) = grows_choose _
        (steady_paired calls line same place other (steady_prepare ix e) (steady_prepare ix g))
        (grows_then (steady_valued calls line same (steady_prepare ix e))
        (λ v. grows_then (steady_valued calls line same (steady_prepare ix g)) (λ w. steady_pure _)))

    pub steady_answer : (ix : List ℤ) (which : Inquiry) (dim : Option ℕ) (subject : Subject) → Steady
        (answer unit calls line ix which dim subject)
    steady_answer ix which dim (Name n) = grows_then (steady_variable n) (λ v. steady_asked line which dim v)
    steady_answer ix which dim (Of e) = grows_then (steady_prepare ix e)
        (λ t. grows_then (steady_given _ _) (λ extents. steady_pure _))

    pub steady_designate : (ix : List ℤ) (d : Designator) → Steady (designate unit calls line ix d)
    steady_designate ix (at n access part) = grows_then (steady_variable n)
        (λ v. grows_then (steady_allocated _ _) (λ a. grows_then (steady_pick ix _ access)
        (λ picked. grows_then (steady_part_bounds ix _ part) (λ bounds. steady_placed line n v a picked bounds))))

    pub steady_pick : (ix : List ℤ) (bounds : List Dimension) (access : Access) → Steady (pick unit calls line ix bounds access)
    steady_pick ix bounds Whole = steady_pure _
    steady_pick ix bounds (Subscripted ss) = steady_pick_each ix bounds ss

    pub steady_pick_each : (ix : List ℤ) (bounds : List Dimension) (ss : Subscripts) → Steady
        (pick_each unit calls line ix bounds ss)
    steady_pick_each ix bounds no_subscript = steady_pure _
    steady_pick_each ix [] (subscript s ss) = steady_pure _
    steady_pick_each ix (d ∷ bounds) (subscript s ss) = grows_then (steady_pick_one ix d s)
        (λ picked. grows_then (steady_pick_each ix bounds ss) (λ more. steady_pure _))

    pub steady_pick_one : (ix : List ℤ) (d : Dimension) (s : Subscript) → Steady (pick_one unit calls line ix d s)
    steady_pick_one ix d (One e) = grows_then (steady_number (steady_valued calls line same (steady_prepare ix e)))
        (λ i. steady_pure _)
    steady_pick_one ix d (Vector e) = grows_then (steady_valued calls line same (steady_prepare ix e)) (λ v. steady_pure _)
    steady_pick_one ix d (SubscriptTriplet first last stride) = grows_then (steady_bound_or ix _ first)
        (λ f. grows_then (steady_bound_or ix _ last) (λ l. grows_then (steady_bound_or ix _ stride) (λ s. steady_pure _)))

    pub steady_bound_or : (ix : List ℤ) (absent : ℤ) (b : Bound) → Steady (bound_or unit calls line ix absent b)
    steady_bound_or ix absent Absent = steady_pure _
    steady_bound_or ix absent (Given e) = steady_number (steady_valued calls line same (steady_prepare ix e))

    pub steady_part_bounds : (ix : List ℤ) (len : ℕ) (part : Part) → Steady (part_bounds unit calls line ix len part)
    steady_part_bounds ix len AllOf = steady_pure _
    steady_part_bounds ix len (BytesOf first last) = grows_then (steady_bound_or ix _ first)
        (λ f. grows_then (steady_bound_or ix _ last) (λ l. steady_pure _))

    pub steady_gather : (ix : List ℤ) (items : Items) (xs : List Scalar) → Steady (gather unit calls line ix items xs)
    steady_gather ix no_item xs = steady_pure _
    steady_gather ix (value e more) xs = grows_then (steady_valued calls line same (steady_prepare ix e))
        (λ v. grows_then (steady_gathered line xs v) (λ ys. steady_gather ix more ys))
    steady_gather ix (loop body first last step more) xs = grows_then
        (steady_number (steady_valued calls line same (steady_prepare ix first)))
        (λ f. grows_then (steady_number (steady_valued calls line same (steady_prepare ix last)))
        (λ l. grows_then (steady_bound_or ix _ step)
        (λ s. grows_next (steady_unless _ _ _)
        (grows_then (steady_rounds _ f s (λ i zs. steady_gather (ix ++ i ∷ []) body zs) xs) (λ ys. steady_gather ix more ys)))))

  pub steady_evaluate : (ix : List ℤ) (e : Expr) → Steady (evaluate unit calls line ix e)
  steady_evaluate ix e = steady_valued calls line same (steady_prepare ix e)

  pub steady_integer : (ix : List ℤ) (e : Expr) → Steady (integer unit calls line ix e)
  steady_integer ix e = steady_number (steady_evaluate ix e)

  pub steady_truth : (ix : List ℤ) (e : Expr) → Steady (truth unit calls line ix e)
  steady_truth ix e = grows_then (steady_evaluate ix e) (λ v. steady_pure _)
