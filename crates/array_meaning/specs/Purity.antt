-- What a pure procedure may do, by its text, and what a call of it changes.
use Rattle.std.specs.Prelude.{◌≡◌, ℕ, ◌≤◌, Bool, true, false, ◌||◌, Option, Some, None, List}
use Rattle.a95_base.specs.Lists.{Every}
use Rattle.f95_unit.specs.Plain.{Expr, typed, Literal, Constant, Index, Named, Brackets, Unary, Binary, Constructor, Elementwise}
use Rattle.f95_unit.specs.Plain.{Trim, Asked, Reduced, Rearranged, Called, Designator, at, Access, Whole, Subscripted, Subscripts}
use Rattle.f95_unit.specs.Plain.{no_subscript, subscript, Subscript, One, Vector, SubscriptTriplet, Bound, Absent, Given, Part}
use Rattle.f95_unit.specs.Plain.{AllOf, BytesOf, Items, no_item, value, loop, Arguments, no_argument, argument, Subject, Name, Of}
use Rattle.f95_unit.specs.Plain.{call, Assign, Where, masked, MaskedBody, no_masked, assigning, narrowed, Others, no_other}
use Rattle.f95_unit.specs.Plain.{elsewhere, Triplet, Forall, Span, Allocation, Stmt, Assigns, Masks, ForAll, Calls, Allocate}
use Rattle.f95_unit.specs.Plain.{Deallocate, Print, Read, If, Select, Do, While, Forever, Exit, Cycle, Return, Stop, Stmts, no_stmt}
use Rattle.f95_unit.specs.Plain.{stmt, Branches, no_branch, branch, Cases, no_case, case, Bounds, Scalars, Explicit, Assumed}
use Rattle.f95_unit.specs.Plain.{Deferred, Entity, Procedure, Program}
use Rattle.array_meaning.specs.State.{State, Step}
use Rattle.array_meaning.specs.Trees.{Passed}
use Rattle.array_meaning.specs.Expressions.{procedure_at}
use Rattle.array_meaning.specs.Calls.{is_out, called}

-- ---- each procedure that an expression calls has a property

module _ (P : ℕ → Type 0) where
  abbrev mutual
    pub Refers : Expr → Type 0
    Refers (typed f (Literal x)) = Unit {0}
    Refers (typed f (Constant n)) = Unit {0}
    Refers (typed f (Index i)) = Unit {0}
    Refers (typed f (Named d)) = RefersDesignator d
    Refers (typed f (Brackets e)) = Refers e
    Refers (typed f (Unary op e)) = Refers e
    Refers (typed f (Binary op e g)) = Refers e × Refers g
    Refers (typed f (Constructor items)) = RefersItems items
    Refers (typed f (Elementwise which es)) = RefersArguments es
    Refers (typed f (Trim e)) = Refers e
    Refers (typed f (Asked which dim subject)) = RefersSubject subject
    Refers (typed f (Reduced which dim es)) = RefersArguments es
    Refers (typed f (Rearranged which dim es)) = RefersArguments es
    Refers (typed f (Called (call p es))) = P p × RefersArguments es

    pub RefersArguments : Arguments → Type 0
    RefersArguments no_argument = Unit {0}
    RefersArguments (argument place e es) = Refers e × RefersArguments es

    pub RefersSubject : Subject → Type 0
    RefersSubject (Name n) = Unit {0}
    RefersSubject (Of e) = Refers e

    pub RefersDesignator : Designator → Type 0
    RefersDesignator (at n access part) = RefersAccess access × RefersPart part

    pub RefersAccess : Access → Type 0
    RefersAccess Whole = Unit {0}
    RefersAccess (Subscripted ss) = RefersSubscripts ss

    pub RefersSubscripts : Subscripts → Type 0
    RefersSubscripts no_subscript = Unit {0}
    RefersSubscripts (subscript s ss) = RefersSubscript s × RefersSubscripts ss

    pub RefersSubscript : Subscript → Type 0
    RefersSubscript (One e) = Refers e
    RefersSubscript (Vector e) = Refers e
    RefersSubscript (SubscriptTriplet first last stride) = RefersBound first × RefersBound last × RefersBound stride

    pub RefersBound : Bound → Type 0
    RefersBound Absent = Unit {0}
    RefersBound (Given e) = Refers e

    pub RefersPart : Part → Type 0
    RefersPart AllOf = Unit {0}
    RefersPart (BytesOf first last) = RefersBound first × RefersBound last

    pub RefersItems : Items → Type 0
    RefersItems no_item = Unit {0}
    RefersItems (value e more) = Refers e × RefersItems more
    RefersItems (loop body first last step more) = RefersItems body × Refers first × Refers last × RefersBound step × RefersItems
        more

  abbrev pub RefersMaybe : Option Expr → Type 0
  RefersMaybe None = Unit {0}
  RefersMaybe (Some e) = Refers e

-- ---- the text of a pure procedure: no PRINT, no READ, no STOP, and calls of pure procedures alone

-- PURE or ELEMENTAL
abbrev pub is_pure : Procedure → Bool
is_pure q = q.pure || q.elemental

-- no dummy is modified, as in each function
abbrev pub HasNoOut : Procedure → Type 0
HasNoOut q = Every (λ (e : Entity). is_out e.role ≡ false) q.entities

module _ (unit : Program) where
  abbrev pub IsPure : ℕ → Type 0
  IsPure p = is_pure (procedure_at unit p) ≡ true

  abbrev pub IsPureFunction : ℕ → Type 0
  IsPureFunction p = IsPure p × HasNoOut (procedure_at unit p)

  abbrev pub CallsPure : Expr → Type 0
  CallsPure e = Refers IsPureFunction e

  abbrev pub PureAssign : Assign → Type 0
  PureAssign a = CallsPure a.value × RefersDesignator IsPureFunction a.target.designator

  abbrev mutual
    pub PureWhere : Where → Type 0
    PureWhere (masked line mask body others) = CallsPure mask × PureMasked body × PureOthers others

    pub PureMasked : MaskedBody → Type 0
    PureMasked no_masked = Unit {0}
    PureMasked (assigning a more) = PureAssign a × PureMasked more
    PureMasked (narrowed w more) = PureWhere w × PureMasked more

    pub PureOthers : Others → Type 0
    PureOthers no_other = Unit {0}
    PureOthers (elsewhere line mask body more) = RefersMaybe IsPureFunction mask × PureMasked body × PureOthers more

  abbrev pub PureTriplet : Triplet → Type 0
  PureTriplet t = CallsPure t.first × CallsPure t.last × RefersBound IsPureFunction t.stride

  abbrev pub PureForall : Forall → Type 0
  PureForall f = Every PureTriplet f.triplets × RefersMaybe IsPureFunction f.mask × Every PureAssign f.body

  abbrev pub PureSpan : Span → Type 0
  PureSpan s = RefersBound IsPureFunction s.lower × CallsPure s.upper

  abbrev pub PureAllocation : Allocation → Type 0
  PureAllocation a = Every PureSpan a.spans

  abbrev mutual
    pub PureStmt : Stmt → Type 0
    PureStmt (Assigns a) = PureAssign a
    PureStmt (Masks w) = PureWhere w
    PureStmt (ForAll f) = PureForall f
    PureStmt (Calls line (call p es)) = IsPure p × RefersArguments IsPureFunction es
    PureStmt (Allocate line objects) = Every PureAllocation objects
    PureStmt (Deallocate line names) = Unit {0}
    PureStmt (Print line es) = ⊥
    PureStmt (Read line targets) = ⊥
    PureStmt (If branches otherwise) = PureBranches branches × PureStmts otherwise
    PureStmt (Select line e cases otherwise) = CallsPure e × PureCases cases × PureStmts otherwise
    PureStmt (Do line n first last step body) = CallsPure first × CallsPure last × RefersBound IsPureFunction step × PureStmts body
    PureStmt (While line e body) = CallsPure e × PureStmts body
    PureStmt (Forever line body) = PureStmts body
    PureStmt (Exit line out) = Unit {0}
    PureStmt (Cycle line out) = Unit {0}
    PureStmt (Return line) = Unit {0}
    PureStmt (Stop line) = ⊥

    pub PureStmts : Stmts → Type 0
    PureStmts no_stmt = Unit {0}
    PureStmts (stmt s more) = PureStmt s × PureStmts more

    pub PureBranches : Branches → Type 0
    PureBranches no_branch = Unit {0}
    PureBranches (branch line e body more) = CallsPure e × PureStmts body × PureBranches more

    pub PureCases : Cases → Type 0
    PureCases no_case = Unit {0}
    PureCases (case ranges body more) = PureStmts body × PureCases more

  abbrev pub PureBounds : Bounds → Type 0
  PureBounds Scalars = Unit {0}
  PureBounds (Explicit spans) = Every PureSpan spans
  PureBounds (Assumed lowers) = Every (RefersBound IsPureFunction) lowers
  PureBounds (Deferred rank) = Unit {0}

  abbrev pub PureEntity : Entity → Type 0
  PureEntity e = PureBounds e.bounds × RefersMaybe IsPureFunction e.initial

  -- each procedure that says that it is pure has the text of one
  abbrev pub KeepsPure : Type 0
  KeepsPure = (p : ℕ) → IsPure p → Every PureEntity (procedure_at unit p).entities × PureStmts (procedure_at unit p).body

-- ---- what it changes

-- no input is read, nothing is written, and no turn comes back
abbrev pub Still : State → State → Type 0
Still before after = (after.input ≡ before.input) × (after.written ≡ before.written) × (after.left ≤ before.left)

-- turns alone are taken
abbrev pub TurnsAlone : State → State → Type 0
TurnsAlone before after = (after ≡ record before { left = after.left }) × (after.left ≤ before.left)

abbrev pub Changes : {A : Type 0} → (State → State → Type 0) → Step A → Type 0
Changes R m = (s : State) → R s (m s).after

-- a call of a pure procedure reads no input and writes nothing; one of a pure function takes turns alone
abbrev pub PureCallsAreStill : Type 0
PureCallsAreStill = (unit : Program) → KeepsPure unit → (depth p line : ℕ) (actuals : List (ℕ × Passed)) → IsPure unit p
    → Changes Still (called unit depth p line actuals)

abbrev pub PureFunctionsTakeTurns : Type 0
PureFunctionsTakeTurns = (unit : Program) → KeepsPure unit → (depth p line : ℕ) (actuals : List (ℕ × Passed))
    → IsPureFunction unit p
    → Changes TurnsAlone (called unit depth p line actuals)
