-- Which indices a typed expression names, by their numbers: all of them, or those alone that stand in the triplets of sections.
use Rattle.std.specs.Prelude.{ℕ, Bool, true, if◌then◌else◌, List, [], ◌∷◌, ◌++◌}
use Rattle.f95_unit.specs.Plain.{Expr, typed, Node, Literal, Constant, Index, Named, Brackets, Unary, Binary, Constructor}
use Rattle.f95_unit.specs.Plain.{Elementwise, Trim, Asked, Reduced, Rearranged, Called, Designator, at, Access, Whole, Subscripted}
use Rattle.f95_unit.specs.Plain.{Subscripts, no_subscript, subscript, Subscript, One, Vector, SubscriptTriplet, Bound, Absent}
use Rattle.f95_unit.specs.Plain.{Given, Part, AllOf, BytesOf, Items, no_item, value, loop, Arguments, no_argument, argument}
use Rattle.f95_unit.specs.Plain.{Subject, Name, Of, Call, call}

-- `all` says whether those outside triplets count
abbrev mutual
  pub levels_in : (all : Bool) → Expr → List ℕ
  levels_in all (typed f node) = node_levels all node

  pub node_levels : Bool → Node → List ℕ
  node_levels all (Literal x) = []
  node_levels all (Constant n) = []
  node_levels all (Index k) = if all then k ∷ [] else []
  node_levels all (Named d) = designator_levels all d
  node_levels all (Brackets e) = levels_in all e
  node_levels all (Unary op e) = levels_in all e
  node_levels all (Binary op e g) = levels_in all e ++ levels_in all g
  node_levels all (Constructor items) = item_levels all items
  node_levels all (Elementwise which es) = argument_levels all es
  node_levels all (Trim e) = levels_in all e
  node_levels all (Asked which d subject) = subject_levels all subject
  node_levels all (Reduced which d es) = argument_levels all es
  node_levels all (Rearranged which d es) = argument_levels all es
  node_levels all (Called c) = call_levels all c

  pub designator_levels : Bool → Designator → List ℕ
  designator_levels all (at n access part) = access_levels all access ++ part_levels all part

  pub access_levels : Bool → Access → List ℕ
  access_levels all Whole = []
  access_levels all (Subscripted ss) = subscripts_levels all ss

  pub subscripts_levels : Bool → Subscripts → List ℕ
  subscripts_levels all no_subscript = []
  subscripts_levels all (subscript s more) = subscript_levels all s ++ subscripts_levels all more

  pub subscript_levels : Bool → Subscript → List ℕ
  subscript_levels all (One e) = levels_in all e
  subscript_levels all (Vector e) = levels_in all e
  subscript_levels all (SubscriptTriplet f l s) = bound_levels true f ++ (bound_levels true l ++ bound_levels true s)

  pub bound_levels : Bool → Bound → List ℕ
  bound_levels all Absent = []
  bound_levels all (Given e) = levels_in all e

  pub part_levels : Bool → Part → List ℕ
  part_levels all AllOf = []
  part_levels all (BytesOf f l) = bound_levels all f ++ bound_levels all l

  pub item_levels : Bool → Items → List ℕ
  item_levels all no_item = []
  item_levels all (value e more) = levels_in all e ++ item_levels all more
  item_levels all (loop body f l s more) =
      item_levels all body ++ (levels_in all f ++ (levels_in all l ++ (bound_levels all s ++ item_levels all more)))

  pub argument_levels : Bool → Arguments → List ℕ
  argument_levels all no_argument = []
  argument_levels all (argument place e more) = levels_in all e ++ argument_levels all more

  pub subject_levels : Bool → Subject → List ℕ
  subject_levels all (Name n) = []
  subject_levels all (Of e) = levels_in all e

  pub call_levels : Bool → Call → List ℕ
  call_levels all (call p es) = argument_levels all es
