-- Assignments: the parts of the right side, those of the left side, the shapes, the test for an element that is stored into
-- twice, all elements, then all stores. WHERE does that at the true places of a mask, FORALL for all its indices before any store.
use Rattle.std.specs.Prelude.{ℕ, ℤ, pos, ◌*◌, Bool, true, false, not, ◌&&◌, nat_le, if◌then◌else◌, Option, Some, None, List, []}
use Rattle.std.specs.Prelude.{◌∷◌, ◌++◌, map, length, replicate, zip, filter_map, Result, Ok, Err}
use Rattle.std.specs.Ordering.{int_eq}
use Rattle.a95_base.specs.declared.fault.FaultKind.{FaultKind}
use Rattle.a95_base.specs.declared.fault.FaultKind.TheVariants as fault
use Rattle.a95_base.specs.declared.scalar.Scalar.{Scalar}
use Rattle.a95_base.specs.Steps.{pure, ◌>>=◌, ◌>>◌}
use Rattle.a95_base.specs.Limits.{most_elements}
use Rattle.f95_unit.specs.Plain.{Expr, Designator, at, Assign, Where, masked, MaskedBody, no_masked, assigning, narrowed, Others}
use Rattle.f95_unit.specs.Plain.{no_other, elsewhere, Triplet, Forall, Program}
use Rattle.array_meaning.specs.Values.{size_of, is_scalar, is_shape, choices, truth_of}
use Rattle.array_meaning.specs.State.{Step, unless, given, store_all}
use Rattle.array_meaning.specs.Sections.{triplet_values, is_one_one}
use Rattle.array_meaning.specs.Trees.{Caller, Tree, shape, all_from, masked_from}
use Rattle.array_meaning.specs.Expressions.{prepare, designate, integer, truth, bound_or}

-- the value of a store fits what is stored into: equal shapes, or a scalar
abbrev pub fitting : Result (List ℕ) FaultKind → List ℕ → Result (Unit {0}) FaultKind
fitting (Err kind) target = Err kind
fitting (Ok extents) target = if is_scalar extents then Ok tt else (if is_shape extents target then Ok tt else Err fault.Shape)

-- the variable of a left side
abbrev pub variable_of : Designator → ℕ
variable_of (at n access part) = n

abbrev pub target_variable : Assign → ℕ
target_variable a = variable_of a.target.designator

-- ---- masks

-- the shape of a WHERE construct, and at which of its elements something acts
pub record Control : Type 0 where
  pub extents : List ℕ
  pub truths : List Bool

-- all elements where no WHERE stands around
abbrev pub truths_under : Option Control → List ℕ → List Bool
truths_under None extents = replicate (size_of extents) true
truths_under (Some c) extents = c.truths

abbrev pub has_shape_of : Option Control → List ℕ → Bool
has_shape_of None extents = true
has_shape_of (Some c) extents = is_shape c.extents extents

-- the elements where both are true, and where the first is true and the second isn't
abbrev pub both : List Bool → List Bool → List Bool
both (a ∷ as') (b ∷ bs) = (a && b) ∷ both as' bs
both as' bs = []

abbrev pub but_not : List Bool → List Bool → List Bool
but_not (a ∷ as') (b ∷ bs) = (a && not b) ∷ but_not as' bs
but_not as' bs = []

abbrev pub with_truths : Control → List Bool → Control
with_truths c truths = record c { truths = truths }

-- what was evaluated at the true places
abbrev pub store_at : ℕ → Option Scalar → Option (ℕ × Scalar)
store_at k None = None
store_at k (Some x) = Some (k, x)

abbrev pub store_of : (ℕ × Option Scalar) → Option (ℕ × Scalar)
store_of p = store_at p.0 p.1

abbrev pub truth_there : Option Scalar → Bool
truth_there None = false
truth_there (Some x) = truth_of x

module _ (unit : Program) (calls : Caller) where
  -- an assignment by itself, or in a WHERE
  abbrev pub assigned : Option Control → Assign → Step (Unit {0})
  assigned control a = do
    t ← prepare unit calls a.line [] a.value
    s ← designate unit calls a.line [] a.target.designator
    given a.line (fitting (shape t) s.extents)
    unless (has_shape_of control s.extents) fault.Shape a.line
    unless (is_one_one s.places) fault.ManyOne a.line
    xs ← masked_from calls a.line 0 (truths_under control s.extents) t
    store_all s.variable s.bytes (filter_map store_of (zip s.places xs))

  -- ---- WHERE

  -- the outermost mask gives the shape; that of every other one has to be the same
  abbrev pub control_of : ℕ → Option Control → Tree → Step Control
  control_of line None t = do
    extents ← given line (shape t)
    pure (record { extents = extents; truths = replicate (size_of extents) true })
  control_of line (Some c) t = do
    extents ← given line (shape t)
    unless (is_shape c.extents extents) fault.Shape line
    pure c

  -- a mask, evaluated at the true places of the control alone
  abbrev pub mask_truths : ℕ → Control → Tree → Step (List Bool)
  mask_truths line c t = do
    xs ← masked_from calls line 0 c.truths t
    pure (map truth_there xs)

  abbrev mutual
    -- the body acts where the mask is true, each ELSEWHERE where no mask before was: at the pending places
    pub where_acts : Option Control → Where → Step (Unit {0})
    where_acts around (masked line mask body others) = do
      t ← prepare unit calls line [] mask
      c ← control_of line around t
      truths ← mask_truths line c t
      masked_act (with_truths c (both c.truths truths)) body
      others_act (with_truths c (but_not c.truths truths)) others

    pub masked_act : Control → MaskedBody → Step (Unit {0})
    masked_act c no_masked = pure tt
    masked_act c (assigning a more) = do
      assigned (Some c) a
      masked_act c more
    masked_act c (narrowed w more) = do
      where_acts (Some c) w
      masked_act c more

    pub others_act : Control → Others → Step (Unit {0})
    others_act pending no_other = pure tt
    others_act pending (elsewhere line None body more) = do
      masked_act pending body
      others_act (with_truths pending (map (λ b. false) pending.truths)) more
    others_act pending (elsewhere line (Some mask) body more) = do
      t ← prepare unit calls line [] mask
      c ← control_of line (Some pending) t
      truths ← mask_truths line c t
      masked_act (with_truths c (both c.truths truths)) body
      others_act (with_truths c (but_not c.truths truths)) more

  -- ---- FORALL

  -- the values of each triplet; a stride of 0 is found before the next triplet is evaluated
  unfoldable pub index_lists : ℕ → List Triplet → Step (List (List ℤ))
  index_lists line [] = pure []
  index_lists line (t ∷ more) = do
    f ← integer unit calls line [] t.first
    l ← integer unit calls line [] t.last
    s ← bound_or unit calls line [] (pos 1) t.stride
    unless (not (int_eq s (pos 0))) fault.ZeroStep line
    lists ← index_lists line more
    pure (triplet_values f l s ∷ lists)

  -- the combinations at which the mask is true
  unfoldable pub active_of : ℕ → Expr → List (List ℤ) → Step (List (List ℤ))
  active_of line mask [] = pure []
  active_of line mask (ix ∷ more) = do
    b ← truth unit calls line ix mask
    active ← active_of line mask more
    pure (if b then ix ∷ active else active)

  abbrev pub active : ℕ → Option Expr → List (List ℤ) → Step (List (List ℤ))
  active line None combinations = pure combinations
  active line (Some mask) combinations = active_of line mask combinations

  -- where one combination stores, and what; `all` is the number of all combinations
  abbrev pub one_combination : ℕ → Assign → List ℤ → Step (List (ℕ × Scalar))
  one_combination all a ix = do
    t ← prepare unit calls a.line ix a.value
    s ← designate unit calls a.line ix a.target.designator
    given a.line (fitting (shape t) s.extents)
    unless (nat_le (all * size_of s.extents) most_elements) fault.TooLarge a.line
    xs ← all_from calls a.line 0 (size_of s.extents) t
    pure (zip s.places xs)

  unfoldable pub each_combination : ℕ → Assign → List (List ℤ) → Step (List (ℕ × Scalar))
  each_combination all a [] = pure []
  each_combination all a (ix ∷ more) = do
    stores ← one_combination all a ix
    rest ← each_combination all a more
    pure (stores ++ rest)

  -- all combinations of one assignment, the test, all stores; then the next assignment
  unfoldable pub indexed : ℕ → List (List ℤ) → List Assign → Step (Unit {0})
  indexed all combinations [] = pure tt
  indexed all combinations (a ∷ more) = do
    stores ← each_combination all a combinations
    unless (is_one_one (map (λ p. p.0) stores)) fault.ManyOne a.line
    store_all (target_variable a) None stores
    indexed all combinations more

  abbrev pub forall_acts : Forall → Step (Unit {0})
  forall_acts f = do
    lists ← index_lists f.line f.triplets
    unless (nat_le (size_of (map length lists)) most_elements) fault.TooLarge f.line
    combinations ← active f.line f.mask (choices lists)
    indexed (size_of (map length lists)) combinations f.body
