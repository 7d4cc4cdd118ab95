-- What is lowered fits: each tree has the sort of its expression, each statement may stand where it stands.
use Rattle.std.proofs.Common.{◌≡◌, refl, sym, ap, subst, ◌∙◌, ℕ, zero, pos, ◌^◌, ◌≤◌, arith, Bool, true, false, List, []}
use Rattle.std.proofs.Common.{◌∷◌, ◌++◌}
use Rattle.std.specs.Prelude.{if◌then◌else◌, Option, Some, None, ◌&&◌, is_some, option_map, nat_eq, length}
use Rattle.std.specs.Prelude.{slice_get}
use Rattle.std.proofs.lemmas.Bool.{both_ways}
use Rattle.std.proofs.lemmas.Int.{ints}
use Rattle.std.proofs.lemmas.Option.{none-some, slice_get-map, get_or_from_slice_get, slice_get_within, same_Some}
use Rattle.a95_base.specs.declared.fault.FaultKind.TheVariants as fault
use Rattle.a95_base.specs.declared.scalar.Kind.{Kind}
use Rattle.a95_base.specs.declared.scalar.Kind.TheVariants as kind
use Rattle.a95_base.specs.Lists.{Every}
use Rattle.f95_unit.specs.declared.operation.BinaryOp.{BinaryOp}
use Rattle.f95_unit.specs.declared.operation.BinaryOp.TheVariants as binary
use Rattle.f95_unit.specs.declared.operation.Inquiry.TheVariants as inquiry
use Rattle.f95_unit.specs.declared.operation.UnaryOp.TheVariants as unary
use Rattle.f95_unit.specs.declared.stmt.Range.{Range}
use Rattle.f95_unit.specs.declared.stmt.Range.TheVariants as range
use Rattle.f95_unit.specs.Plain.{Expr, typed, Literal, Constant, Index, Named, Brackets, Unary, Binary, Constructor, Elementwise}
use Rattle.f95_unit.specs.Plain.{Trim}
use Rattle.f95_unit.specs.Plain.{Asked, Reduced, Rearranged, Called, Name, Of, Arguments, no_argument, argument, at}
use Rattle.f95_unit.specs.Plain.{Whole}
use Rattle.f95_unit.specs.Plain.{Subscripted, AllOf, BytesOf, Bound, Absent, Given, Entity, Program}
use Rattle.nest_tree.specs.declared.access.Name.TheVariants as name
use Rattle.nest_tree.specs.declared.tree.Exact.{Exact}
use Rattle.nest_tree.specs.declared.tree.Exact.TheVariants as exact
use Rattle.nest_tree.specs.declared.tree.Question.TheVariants as question
use Rattle.nest_tree.specs.declared.unit.Role.TheVariants as role
use Rattle.nest_tree.specs.declared.unit.Sort.{Sort}
use Rattle.nest_tree.specs.declared.unit.Sort.TheVariants as sort
use Rattle.nest_tree.specs.Plain as nest
use Rattle.nest_tree.specs.Plain.{Tree, tree, Statements, no_statement, statement, joined, Fixed, Number}
use Rattle.nest_tree.specs.Plain.{Exactly, Wrapped, Set, Test}
use Rattle.nest_tree.specs.Sound as sound
use Rattle.nest_tree.specs.Sound.{Scope, serves, some_serves, served_by, sort_if}
use Rattle.nest_tree.specs.Sound.{sort_of_type, unary_sort, binary_sort}
use Rattle.nest_tree.specs.Sound.{elemental_sort, exact_sort, both_serve, of_declared, declared_at, sort_of_name}
use Rattle.nest_tree.specs.Sound.{has_rank, may_store}
use Rattle.nest_tree.specs.Sound.{may_store_role, fits_access, fits_64_bits, gives, sets, stores_in, FitsStatement, FitsAll}
use Rattle.nest_tree.specs.Elements.{least_exact}
use Rattle.control_lower.specs.Trees.{sort_of, sort_of_expr, sort_of_kind, sorts_of, sort_of_entity, sort_at, Lowered, LoweredAll}
use Rattle.control_lower.specs.Trees.{one, held, whole, lowered, arguments}
use Rattle.control_lower.specs.Units.{LoweredList, store, nonzero, step_of, same_tree, in_range, in_ranges, not_taken, declared_of}
use Rattle.control_lower.specs.Units.{procedure_with, lowered_unit}
use Rattle.control_lower.specs.Settled.{has_order}
use Rattle.std.specs.Cmp.Derive.{both_true}
use Rattle.a95_base.proofs.Lists.{each_at}
use Rattle.nest_tree.proofs.Sorts.{serves_itself}
use Rattle.control_lower.proofs.Sorts.{le_true, lt_true}
use Rattle.control_lower.proofs.Premises.{IsConstant, IsRange, IsScalar, AreScalars, IsBound, IsOwnScalar}
use Rattle.control_lower.proofs.Sizes.{Extends, extends_then, extends_more, last_there, expr_grows}
use Rattle.control_lower.proofs.Sizes.{arguments_grow}
use Rattle.control_lower.proofs.Start.{entity_sort}

-- ---- sorts

all_three : (a b c : Bool) → a ≡ true → b ≡ true → c ≡ true → (a && b && c) ≡ true
all_three a b c h g k = rw (h, g, k) refl

all_four : (a b c d : Bool) → a ≡ true → b ≡ true → c ≡ true → d ≡ true → (a && b && c && d) ≡ true
all_four a b c d h g k l = rw (h, g, k, l) refl

pub small_fits : (n : ℕ) → n ≤ 2 ^ 20 → fits_64_bits (pos n) ≡ true
small_fits n h = both_true
    (le_true least_exact (pos n) (omega (arith, ints))) (lt_true (pos n) (pos (2 ^ 63)) (omega (arith, ints, h)))

pub fits_joined : (c : Scope) (d : Option ℕ) (p q : Statements) → FitsAll c d p → FitsAll c d q → FitsAll c d (joined p q)
fits_joined c d no_statement q h g = g
fits_joined c d (statement s more) q h g = (h.0, fits_joined c d more q h.1 g)

module _ (unit : Program) (list : LoweredList) (owns : Every IsOwnScalar unit.main.entities) where
  abbrev pub entities : List Entity
  entities = unit.main.entities

  abbrev pub scope : Scope
  scope = record { unit = lowered_unit unit; own = procedure_with unit.main list; loops = 0 }

  abbrev pub IsHere : ℕ → Sort → Type 0
  IsHere k s = slice_get list.scalars k ≡ Some s

  -- ---- variables

  pub record There (n : ℕ) (s : Sort) : Type 0 where
    pub entity : Entity
    pub at : declared_at scope.own n ≡ Some (declared_of entity)
    pub sorted : sort_of_type entity.of ≡ s

  pub there_as : (n : ℕ) (e : Entity) → slice_get entities n ≡ Some e → There n (sort_of_type e.of)
  there_as n e h = record {
    entity = e;
    at = slice_get-map declared_of entities n
        ∙ ap (λ o. option_map declared_of o) h;
    sorted = refl;
  }

  there_by : (n : ℕ) (s : Sort) (o : Option Entity) → slice_get entities n ≡ o → sort_of_entity o ≡ Some s → There n s
  there_by n s None h g = absurd (none-some s g)
  there_by n s (Some e) h g =
      let own : IsOwnScalar e = subst IsOwnScalar (get_or_from_slice_get entities n e e h) (each_at IsOwnScalar entities n e owns (slice_get_within entities n e h)) in
      let same : sort_of_type e.of ≡ s = same_Some (sort_of_type e.of) s (sym (entity_sort e own) ∙ g) in
      subst (λ w. There n w) same (there_as n e h)

  pub there_of : (n : ℕ) (s : Sort) → sort_at entities n ≡ Some s → There n s
  there_of n s h = there_by n s (slice_get entities n) refl h

  pub name_sort : (n : ℕ) (s : Sort) → There n s → sort_of_name scope.own (name.Own n) ≡ Some s
  name_sort n s h = ap (λ o. of_declared None (λ d. Some (sort_of_type d.of)) o) h.at ∙ ap Some h.sorted

  pub rank_there : (n : ℕ) (s : Sort) → There n s → has_rank scope.own (name.Own n) 0 ≡ true
  rank_there n s h = ap (λ o. of_declared false (λ d. nat_eq d.rank 0) o) h.at

  may_store_there : (n : ℕ) (s : Sort) → There n s → may_store scope.own (name.Own n) ≡ true
  may_store_there n s h = ap (λ o. is_some o && may_store_role (of_declared (role.Value 0) (λ d. d.role) o)) h.at

  access_fits : (n : ℕ) (s : Sort) → There n s → fits_access scope (whole n) ≡ true
  access_fits n s h = all_three (has_rank scope.own (name.Own n) 0) true true (rank_there n s h) refl refl

  read_sort : (n : ℕ) (s : Sort) → There n s → sound.sort_of scope (nest.Read (whole n)) ≡ Some s
  read_sort n s h = ap (λ b. if b then sort_of_name scope.own (name.Own n) else None) (access_fits n s h) ∙ name_sort n s h

  length_sort : (n : ℕ) → There n sort.Text → sound.sort_of scope (Wrapped (nest.Asked question.Length (name.Own n))) ≡ Some
      sort.Int
  length_sort n h = ap (λ o. sort_if (some_serves (sort_if (some_serves o sort.Text) sort.Exact) sort.Exact) sort.Int)
      (name_sort n sort.Text h)

  -- ---- trees

  abbrev pub HasSort : Tree → Sort → Type 0
  HasSort t s = sound.sort_of scope t ≡ Some s

  pub gives_log : (t : Tree) → HasSort t sort.Log → gives scope t sort.Log ≡ true
  gives_log t h = ap (λ o. some_serves o sort.Log) h

  pub set_fits : (k : ℕ) (t : Tree) (asked s : Sort) → IsHere k asked → HasSort t s → serves s asked ≡ true → sets scope k t ≡ true
  set_fits k t asked s h g is = ap (λ o. served_by o (sound.sort_of scope t)) h ∙ ap (λ o. served_by (Some asked) o) g ∙ is

  exact_if : (op : Exact) (a b : Sort) → serves a sort.Exact ≡ true → serves b sort.Exact ≡ true
      → sort_if (both_serve (Some a) (Some b) sort.Exact) (exact_sort op) ≡ Some (exact_sort op)
  exact_if op a b h g = rw (h, g) refl

  pub exact_fits : (op : Exact) (t u : Tree) (a b : Sort) → HasSort t a → HasSort u b → serves a sort.Exact ≡ true
      → serves b sort.Exact ≡ true
      → HasSort (Exactly op t u) (exact_sort op)
  exact_fits op t u a b h g x y = ap (λ o. sort_if (both_serve o (sound.sort_of scope u) sort.Exact) (exact_sort op)) h
      ∙ ap (λ o. sort_if (both_serve (Some a) o sort.Exact) (exact_sort op)) g ∙ exact_if op a b x y

  wrapped_fits : (t : Tree) → HasSort t sort.Exact → HasSort (Wrapped t) sort.Int
  wrapped_fits t h = ap (λ o. sort_if (some_serves o sort.Exact) sort.Int) h

  not_fits : (t : Tree) → HasSort t sort.Log → HasSort (nest.Unary unary.Not t) sort.Log
  not_fits t h = ap (λ o. unary_sort unary.Not o) h

  pub binary_fits : (op : BinaryOp) (t u : Tree) (a b s : Sort) → HasSort t a → HasSort u b
      → binary_sort op (Some a) (Some b) ≡ Some s
      → HasSort (nest.Binary op t u) s
  binary_fits op t u a b s h g k = ap (λ o. binary_sort op o (sound.sort_of scope u)) h ∙ ap (λ o. binary_sort op (Some a) o) g ∙ k

  trim_fits : (t : Tree) → HasSort t sort.Text → HasSort (nest.Trim t) sort.Text
  trim_fits t h = ap (λ o. sort_if (some_serves o sort.Text) sort.Text) h

  -- ---- expressions

  pub record Fits (l : Lowered) (s : Sort) : Type 0 where
    pub parts : (d : Option ℕ) → FitsAll scope d l.parts
    pub sorted : HasSort l.tree s

  record FitsArguments (l : LoweredAll) (ss : List (ℕ × Option Sort)) : Type 0 where
    parts : (d : Option ℕ) → FitsAll scope d l.parts
    sorted : sound.sorts_of scope l.trees ≡ ss

  abbrev pub IsTaken : List Sort → Type 0
  IsTaken taken = Extends taken list.scalars

  here_last : (taken : List Sort) (s : Sort) → IsTaken (taken ++ s ∷ []) → IsHere (length taken) s
  here_last taken s h = h.there (length taken) s (last_there taken s)

  module _ (line : ℕ) where
    pub held_fits : (s asked : Sort) (l : Lowered) → Fits l s → serves s asked ≡ true → IsTaken (l.scalars ++ asked ∷ [])
        → Fits (held line asked l) asked
    held_fits s asked l h is taken = record {
      parts = λ d. fits_joined scope d l.parts (statement (Set line (length l.scalars) l.tree) no_statement) (h.parts d)
          (set_fits (length l.scalars) l.tree asked s (here_last l.scalars asked taken) h.sorted is, tt);
      sorted = here_last l.scalars asked taken;
    }

    leaf_fits : (taken : List Sort) (t : Tree) (s : Sort) → HasSort t s → Fits (one no_statement t taken) s
    leaf_fits taken t s h = record { parts = λ d. tt; sorted = h }

    mutual
      pub expr_fits : (e : Expr) → IsScalar unit.constants entities e → (taken : List Sort) → IsTaken (lowered line taken e).scalars
          → Fits (lowered line taken e) (sort_of_expr e)
      expr_fits (typed f (Literal x)) h taken k = leaf_fits taken (nest.Literal x) (sort_of f) h
      expr_fits (typed f (Constant n)) h taken k = leaf_fits taken (nest.Constant n) (sort_of f) h
      expr_fits (typed f (Index level)) h taken k = absurd h
      expr_fits (typed f (Named (at n Whole AllOf))) h taken k =
          leaf_fits taken (nest.Read (whole n)) (sort_of f) (read_sort n (sort_of f) (there_of n (sort_of f) h))
      expr_fits (typed f (Named (at n Whole (BytesOf first last)))) h taken k = absurd h
      expr_fits (typed f (Named (at n (Subscripted ss) part))) h taken k = absurd h
      expr_fits (typed f (Brackets e)) h taken k =
          let g = expr_fits e h.0 taken k in
          record { parts = g.parts; sorted = g.sorted ∙ ap Some h.1 }
      expr_fits (typed f (Unary op e)) h taken k =
          let g = expr_fits e h.0 taken k in
          record { parts = g.parts; sorted = ap (λ o. unary_sort op o) g.sorted ∙ h.1 }
      expr_fits (typed f (Binary op e e')) h taken k =
          let more : List Sort = (lowered line taken e).scalars in
          let up = (expr_grows line e' more).kept in
          let g = expr_fits e h.0 taken (extends_then more (lowered line more e').scalars list.scalars up k) in
          let g' = expr_fits e' h.1 more k in
          record {
            parts = λ d. fits_joined scope d (lowered line taken e).parts (lowered line more e').parts (g.parts d) (g'.parts d);
            sorted = binary_fits op (lowered line taken e).tree (lowered line more e').tree (sort_of_expr e) (sort_of_expr e')
                (sort_of f) g.sorted g'.sorted h.2;
          }
      expr_fits (typed f (Constructor items)) h taken k = absurd h
      expr_fits (typed f (Elementwise which es)) h taken k =
          let l : LoweredAll = arguments line taken es in
          let g = arguments_fit es h.0 taken (extends_then l.scalars (l.scalars ++ sort_of f ∷ []) list.scalars
          (extends_more l.scalars (sort_of f)) k) in
          held_fits (sort_of f) (sort_of f) (one l.parts (nest.Each which l.trees) l.scalars)
          (record { parts = g.parts; sorted = ap (λ o. elemental_sort which o) g.sorted ∙ h.3 }) (serves_itself (sort_of f)) k
      expr_fits (typed f (Trim e)) h taken k =
          let l : Lowered = lowered line taken e in
          let g = expr_fits e h.0 taken (extends_then l.scalars (l.scalars ++ sort.Text ∷ []) list.scalars
          (extends_more l.scalars sort.Text) k) in
          let r = held_fits sort.Text sort.Text (one l.parts (nest.Trim l.tree) l.scalars)
          (record { parts = g.parts; sorted = trim_fits l.tree (g.sorted ∙ ap Some h.1) }) refl k in
          record { parts = r.parts; sorted = r.sorted ∙ ap Some h.2 }
      expr_fits (typed f (Asked inquiry.Len dim (Name n))) h taken k =
          leaf_fits taken (Wrapped (nest.Asked question.Length (name.Own n))) (sort_of f)
          (length_sort n (there_of n sort.Text h.0) ∙ ap Some h.1)
      expr_fits (typed f (Asked inquiry.Size dim (Name n))) h taken k = absurd h
      expr_fits (typed f (Asked inquiry.Shape dim (Name n))) h taken k = absurd h
      expr_fits (typed f (Asked inquiry.Lbound dim (Name n))) h taken k = absurd h
      expr_fits (typed f (Asked inquiry.Ubound dim (Name n))) h taken k = absurd h
      expr_fits (typed f (Asked inquiry.Allocated dim (Name n))) h taken k = absurd h
      expr_fits (typed f (Asked inquiry.Len dim (Of e))) h taken k = absurd h
      expr_fits (typed f (Asked inquiry.Size dim (Of e))) h taken k = absurd h
      expr_fits (typed f (Asked inquiry.Shape dim (Of e))) h taken k = absurd h
      expr_fits (typed f (Asked inquiry.Lbound dim (Of e))) h taken k = absurd h
      expr_fits (typed f (Asked inquiry.Ubound dim (Of e))) h taken k = absurd h
      expr_fits (typed f (Asked inquiry.Allocated dim (Of e))) h taken k = absurd h
      expr_fits (typed f (Reduced which dim es)) h taken k = absurd h
      expr_fits (typed f (Rearranged which dim es)) h taken k = absurd h
      expr_fits (typed f (Called called)) h taken k = absurd h

      arguments_fit : (es : Arguments) → AreScalars unit.constants entities es → (taken : List Sort)
          → IsTaken (arguments line taken es).scalars
          → FitsArguments (arguments line taken es) (sorts_of es)
      arguments_fit no_argument h taken k = record { parts = λ d. tt; sorted = refl }
      arguments_fit (argument place e es) h taken k =
          let l : Lowered = lowered line taken e in
          let more : List Sort = l.scalars ++ sort_of_expr e ∷ [] in
          let now : IsTaken more = extends_then more (arguments line more es).scalars list.scalars
          (arguments_grow line es more).kept k in
          let g = expr_fits e h.0 taken (extends_then l.scalars more list.scalars (extends_more l.scalars (sort_of_expr e)) now) in
          let one : Fits (held line (sort_of_expr e) l) (sort_of_expr e) = held_fits (sort_of_expr e) (sort_of_expr e) l g
          (serves_itself (sort_of_expr e)) now in
          let rest = arguments_fit es h.1 more k in
          record {
            parts = λ d. fits_joined scope d (held line (sort_of_expr e) l).parts (arguments line more es).parts (one.parts d)
                (rest.parts d);
            sorted = ap (λ o. (place, o) ∷ sound.sorts_of scope (arguments line more es).trees) one.sorted
                ∙ ap (λ ss. (place, Some (sort_of_expr e)) ∷ ss) rest.sorted;
          }

    -- ---- stores

    pub store_fits : (d : Option ℕ) (n : ℕ) (t : Tree) (s : Sort) → sort_at entities n ≡ Some s → HasSort t s
        → FitsStatement scope d (store line n t)
    store_fits d n t s h g =
        let there : There n s = there_of n s h in
        let stores : stores_in scope (name.Own n) t ≡ true = both_true (may_store_there n s there)
        (ap (λ o. served_by o (sound.sort_of scope t)) (name_sort n s there) ∙ ap (λ o. served_by (Some s) o) g
        ∙ serves_itself s) in
        all_three (fits_access scope (whole n)) true (stores_in scope (name.Own n) t) (access_fits n s there) refl stores

    -- ---- CASE

    abbrev sort_of' : Kind → Sort
    sort_of' k = sort_of_kind k

    same_fits : (k : Kind) (x n : ℕ) → IsHere x (sort_of' k) → IsConstant unit.constants (sort_of' k) n
        → HasSort (same_tree (sort_of' k) (Fixed x) (nest.Constant n)) sort.Log
    same_fits kind.Int x n h g = binary_fits binary.Equal (Fixed x) (nest.Constant n) sort.Int sort.Int sort.Log h g refl
    same_fits kind.Log x n h g = binary_fits binary.Equivalent (Fixed x) (nest.Constant n) sort.Log sort.Log sort.Log h g refl
    same_fits kind.Text x n h g = binary_fits binary.Equal (Fixed x) (nest.Constant n) sort.Text sort.Text sort.Log h g refl

    ordered_fits : (op : BinaryOp) (k : Kind) (x n : ℕ) → has_order (sort_of' k) ≡ true → IsHere x (sort_of' k)
        → IsConstant unit.constants (sort_of' k) n
        → binary_sort op (Some sort.Int) (Some sort.Int) ≡ Some sort.Log
        → binary_sort op (Some sort.Text) (Some sort.Text) ≡ Some sort.Log
        → HasSort (nest.Binary op (Fixed x) (nest.Constant n)) sort.Log
    ordered_fits op kind.Int x n o h g i t = binary_fits op (Fixed x) (nest.Constant n) sort.Int sort.Int sort.Log h g i
    ordered_fits op kind.Log x n o h g i t = absurd (both_ways false refl o)
    ordered_fits op kind.Text x n o h g i t = binary_fits op (Fixed x) (nest.Constant n) sort.Text sort.Text sort.Log h g t

    range_fits : (k : Kind) (x : ℕ) (r : Range) → IsHere x (sort_of' k) → IsRange unit.constants (sort_of' k) r
        → HasSort (in_range (sort_of' k) (Fixed x) r) sort.Log
    range_fits k x (range.One n) h g = same_fits k x n h g
    range_fits k x (range.From n) h g = ordered_fits binary.GreaterEqual k x n g.0 h g.1 refl refl
    range_fits k x (range.UpTo n) h g = ordered_fits binary.LessEqual k x n g.0 h g.1 refl refl
    range_fits k x (range.Between n m) h g =
        binary_fits binary.And (nest.Binary binary.GreaterEqual (Fixed x) (nest.Constant n))
        (nest.Binary binary.LessEqual (Fixed x) (nest.Constant m))
        sort.Log sort.Log sort.Log (ordered_fits binary.GreaterEqual k x n g.0 h g.1 refl refl)
        (ordered_fits binary.LessEqual k x m g.0 h g.2 refl refl) refl

    pub ranges_fit : (k : Kind) (x : ℕ) (rs : List Range) → IsHere x (sort_of' k) → Every (IsRange unit.constants (sort_of' k)) rs
        → HasSort (in_ranges (sort_of' k) (Fixed x) rs) sort.Log
    ranges_fit k x [] h g = refl
    ranges_fit k x (r ∷ rs) h g = binary_fits binary.Or (in_range (sort_of' k) (Fixed x) r) (in_ranges (sort_of' k) (Fixed x) rs)
        sort.Log sort.Log sort.Log
        (range_fits k x r h g.0) (ranges_fit k x rs h g.1) refl

    pub not_taken_fits : (flag : ℕ) → IsHere flag sort.Log → HasSort (not_taken flag) sort.Log
    not_taken_fits flag h = not_fits (Fixed flag) h

    -- ---- the step of a DO

    pub record FitsStep (l : Lowered) : Type 0 where
      pub parts : (d : Option ℕ) → FitsAll scope d l.parts
      pub step : Sort
      pub sorted : HasSort l.tree step
      pub exact : serves step sort.Exact ≡ true

    pub step_fits : (b : Bound) → IsBound unit.constants entities b → (taken : List Sort) → IsTaken (step_of line taken b).scalars
        → FitsStep (step_of line taken b)
    step_fits Absent h taken k = record { parts = λ d. tt; step = sort.Exact; sorted = refl; exact = refl }
    step_fits (Given e) h taken k =
        let l : Lowered = lowered line taken e in
        let g = expr_fits e h.1 taken (extends_then l.scalars (l.scalars ++ sort.Int ∷ []) list.scalars
        (extends_more l.scalars sort.Int) k) in
        let r : Fits (held line sort.Int l) sort.Int = held_fits sort.Int sort.Int l
        (record { parts = g.parts; sorted = g.sorted ∙ ap Some h.0 }) refl k in
        let same : HasSort (Exactly exact.Same (Fixed (length l.scalars)) (Number (pos 0))) sort.Log =
        exact_fits exact.Same (Fixed (length l.scalars)) (Number (pos 0)) sort.Int sort.Exact r.sorted refl refl refl in
        record {
          parts = λ d. fits_joined scope d (held line sort.Int l).parts
              (statement (Test line fault.ZeroStep (nonzero (Fixed (length l.scalars)))) no_statement)
              (r.parts d) (
                gives_log (nonzero (Fixed (length l.scalars)))
                    (not_fits (Exactly exact.Same (Fixed (length l.scalars)) (Number (pos 0))) same),
                tt,
              );
          step = sort.Int;
          sorted = r.sorted;
          exact = refl;
        }
