-- Whole units.
use Rattle.std.proofs.Common.{◌≡◌, refl, sym, ap, ℕ, suc, arith, List, [], ◌∷◌}
use Rattle.std.specs.Prelude.{Option, Some, None, Result, Ok, Err, length, map}
use Rattle.a95_base.specs.Steps.{Ran, pure, behind as goes_on, ◌>>=◌, ◌>>◌}
use Rattle.a95_base.proofs.Steps.{value_unread}
use Rattle.a95_base.specs.Lists.{Every}
use Rattle.f95_unit.specs.declared.unit.DeclaredType.{DeclaredType}
use Rattle.f95_unit.specs.declared.unit.Role.{Role}
use Rattle.f95_unit.specs.declared.unit.Role.TheVariants as source_role
use Rattle.f95_unit.specs.Plain.{Program, Entity, Expr, Bounds, Scalars, at, Whole, AllOf}
use Rattle.array_meaning.specs.State as source
use Rattle.array_meaning.specs.State.{State}
use Rattle.array_meaning.specs.Trees as trees
use Rattle.array_meaning.specs.Calls as calls_of
use Rattle.array_meaning.specs.Assignments.{assigned}
use Rattle.array_meaning.specs.Control as control
use Rattle.array_meaning.specs.Control.{Flow, Next}
use Rattle.array_meaning.specs.Run as source_run_of
use Rattle.nest_tree.specs.declared.unit.Sort.{Sort}
use Rattle.nest_tree.specs.Plain.{Statements, no_statement, joined}
use Rattle.nest_tree.specs.State.{NestState, Halt, By, Stray}
use Rattle.nest_tree.specs.Statements.{Caller}
use Rattle.nest_tree.specs.Run as nest_run_of
use Rattle.nest_tree.specs.Run.{Does, as_nest}
use Rattle.control_lower.specs.Units.{initial, initials, lowered_all, lowered_unit}
use Rattle.control_lower.specs.Laws.{LoweredDoes}
use Rattle.control_lower.proofs.Agree.{AgreeBy, Agrees, agrees_then, agrees_pure, agrees_weak, assoc_next, run, Ends, parts_then}
use Rattle.control_lower.proofs.Agree.{run_none}
use Rattle.control_lower.proofs.Stands.{Holds}
use Rattle.control_lower.proofs.Simple.{runs_assign}
use Rattle.control_lower.proofs.Runs.{Goes, FlowR, goes_here, goes_then}
use Rattle.control_lower.proofs.Statements.{runs_all}
use Rattle.control_lower.proofs.Start.{with_variables, first_of, made, nothing_first, source_first, start_holds}
use Rattle.control_lower.proofs.Premises.{lowered_of, AreInitials, IsInitial, IsLowered, IsOwnScalar}

module _ (unit : Program) (entities : List Entity) (calls : Caller) (scalls : trees.Caller) where
  -- an assignment without what comes behind it
  ended_by : (k : ℕ) (n : NestState) (came : Result Flow Halt) (m : NestState) (came' : Result (Unit {0}) source.Halt) (s : State)
      → AgreeBy (FlowR unit entities calls k n) came m (goes_on (λ a. pure Next) came' s).came
      (goes_on (λ a. pure Next) came' s).after
      → AgreeBy (Ends (λ u n'. Goes entities k n n')) came m came' s
  unfolding goes_on pure
  ended_by k n (Ok flow) m (Ok u) s h = (h.0, h.1)
  ended_by k n (Ok flow) m (Err e) s h = absurd h
  ended_by k n (Err (By e)) m (Ok u) s h = absurd h
  ended_by k n (Err (By e)) m (Err e') s h = h
  ended_by k n (Err Stray) m (Ok u) s h = absurd h
  ended_by k n (Err Stray) m (Err e') s h = absurd h

  ended : (k : ℕ) (n : NestState) (r : Ran Halt NestState Flow) (m : source.Step (Unit {0})) (s : State)
      → Agrees (FlowR unit entities calls k n) r ((m >> pure Next) s) → Agrees (Ends (λ u n'. Goes entities k n n')) r (m s)
  unfolding ◌>>◌
  ended k n r m s h = record { by = ended_by k n r.came r.after (m s).came (m s).after h.by }

  abbrev pub InitialsAgree : (list : Statements) (q : source.Step (Unit {0})) → Type 0
  InitialsAgree list q = (n : NestState) → Holds entities n.cells.plain.variables → n.pending ≡ []
      → Agrees (Ends (λ u n'. Goes entities 0 n n')) (run unit.constants calls list n) (q n.cells.plain)

  none_agrees : InitialsAgree no_statement (pure tt)
  none_agrees n holds pending = rw (run_none unit.constants calls n)
      (agrees_pure (Ends (λ u n'. Goes entities 0 n n')) Next tt n n.cells.plain refl
      (refl, goes_here unit entities calls 0 n holds pending))

  one_initial : (line j : ℕ) (e : Option Expr) (taken : List Sort) → IsInitial unit.constants entities j e
      → InitialsAgree (initial line j e taken).list (calls_of.initial_acts unit scalls line j e)
  one_initial line j None taken h = none_agrees
  one_initial line j (Some e) taken h = λ n holds pending.
      ended 0 n (run unit.constants calls (initial line j (Some e) taken).list n)
      (assigned unit scalls None (calls_of.initial_of unit scalls line j e)) n.cells.plain
      (agrees_weak (FlowR unit entities calls (length taken) n) (FlowR unit entities calls 0 n)
      (run unit.constants calls (initial line j (Some e) taken).list n)
      ((assigned unit scalls None (calls_of.initial_of unit scalls line j e) >> pure Next) n.cells.plain)
      ((runs_assign unit entities calls scalls (calls_of.initial_of unit scalls line j e) (at j Whole AllOf) taken refl h).runs n
      holds pending)
      (λ flow flow' l r. (
        r.0,
        goes_then unit entities calls 0 0 n n l (omega arith)
            (goes_here unit entities calls 0 n holds pending) (lower_goes (length taken) n l r.1),
      )))
    where
      lower_goes : (k : ℕ) (n l : NestState) → Goes entities k n l → Goes entities 0 n l
      lower_goes k n l g = record {
        kept = λ j below. g.kept j (omega (arith, below));
        pending = g.pending;
        left = g.left;
        holds =
            g.holds;
      }

  pub initials_agree : (j : ℕ) (taken : List Sort) (es : List Entity) → AreInitials unit.constants entities j es
      → InitialsAgree (initials j taken es).list (calls_of.initials_act unit scalls j es)
  unfolding initials calls_of.initials_act
  initials_agree j taken [] h = none_agrees
  initials_agree j taken (e ∷ es) h = λ n holds pending.
      rw (value_unread (calls_of.initial_acts unit scalls e.line j e.initial) (calls_of.initials_act unit scalls (suc j) es)
      n.cells.plain)
      (parts_then unit.constants calls (λ u n'. Goes entities 0 n n') (Ends (λ u n'. Goes entities 0 n n'))
      (initial e.line j e.initial taken).list (initials (suc j) (initial e.line j e.initial taken).scalars es).list
      (calls_of.initial_acts unit scalls e.line j e.initial) (λ u. calls_of.initials_act unit scalls (suc j) es) n n.cells.plain
      (one_initial e.line j e.initial taken h.0 n holds pending)
      (λ u n' g. agrees_weak (Ends (λ u l. Goes entities 0 n' l)) (Ends (λ u l. Goes entities 0 n l))
      (run unit.constants calls (initials (suc j) (initial e.line j e.initial taken).scalars es).list n')
      (calls_of.initials_act unit scalls (suc j) es n'.cells.plain)
      (initials_agree (suc j) (initial e.line j e.initial taken).scalars es h.1 n' g.holds g.pending)
      (λ flow u l r. (r.0, goes_then unit entities calls 0 0 n n' l (omega arith) g r.1))))

  own_declared : (line j : ℕ) (of : DeclaredType) (bounds : Bounds) (r : Role) (p : State) → bounds ≡ Scalars → r ≡ source_role.Own
      → calls_of.declaration_acts unit scalls 0 [] j r of bounds line p ≡ pure tt p
  own_declared line j of bounds r p b o = rw (b, o) refl

  pub declared_is : (j : ℕ) (es : List Entity) → Every IsOwnScalar es → (p : State)
      → calls_of.declarations_act unit scalls 0 [] j es p ≡ pure tt p
  unfolding calls_of.declarations_act ◌>>◌ goes_on pure
  declared_is j [] h p = refl
  declared_is j (e ∷ es) h p = rw (own_declared e.line j e.of e.bounds e.role p h.0.scalar_bounds h.0.own)
      (declared_is (suc j) es h.1 p)

-- ---- runs

end_by : (came : Result (Unit {0}) Halt) (n : NestState) (came' : Result (Unit {0}) source.Halt) (s : State)
    → AgreeBy (λ a b l. Unit {0}) came n came' s
    → nest_run_of.run_of (record { came = came; after = n }) ≡ as_nest (source_run_of.run_of (record { came = came'; after = s }))
end_by (Ok u) n (Ok v) s h = rw h.0 refl
end_by (Ok u) n (Err e) s h = absurd h
end_by (Err (By e)) n (Ok v) s h = absurd h
end_by (Err (By source.Stopped)) n (Err e') s h = rw (sym h.0, h.1) refl
end_by (Err (By (source.Faults kind line))) n (Err e') s h = rw (sym h.0, h.1) refl
end_by (Err (By source.OutOfTurns)) n (Err e') s h = rw (sym h.0, h.1) refl
end_by (Err Stray) n (Ok v) s h = absurd h
end_by (Err Stray) n (Err e') s h = absurd h

module _ (unit : Program) (h : IsLowered unit) where
  abbrev es : List Entity
  es = unit.main.entities

  abbrev calls : Caller
  calls = nest_run_of.called (lowered_unit unit) source_run_of.most_calls

  abbrev scalls : trees.Caller
  scalls = calls_of.called unit source_run_of.most_calls

  abbrev inits : Statements
  inits = (initials 0 [] es).list

  abbrev body : Statements
  body = (lowered_all (initials 0 [] es).scalars unit.main.body).list

  abbrev source_body : source.Step Flow
  source_body = control.all_act unit scalls unit.main.body

  abbrev source_inits : source.Step (Unit {0})
  source_inits = calls_of.initials_act unit scalls 0 es

  body_agrees : (n : NestState) → Holds es n.cells.plain.variables → n.pending ≡ []
      → Agrees (λ flow flow' l. Unit {0}) (run unit.constants calls (joined inits body) n)
      ((source_inits >>= (λ u. source_body)) n.cells.plain)
  body_agrees n holds pending =
      parts_then unit.constants calls (λ u n'. Goes es 0 n n') (λ flow flow' l. Unit {0}) inits body source_inits
      (λ u. source_body) n n.cells.plain
      (initials_agree unit es calls scalls 0 [] es h.initials n holds pending)
      (λ u n' g. agrees_weak (FlowR unit es calls (length (initials 0 [] es).scalars) n') (λ flow flow' l. Unit {0})
      (run unit.constants calls body n') (source_body n'.cells.plain)
      ((runs_all unit es calls scalls 0 unit.main.body h.body (initials 0 [] es).scalars).runs n' g.holds g.pending)
      (λ flow flow' l r. tt))

  main_agrees : (n : NestState) → Holds es n.cells.plain.variables → n.pending ≡ []
      → Agrees {A = Unit {0}} {B = Unit {0}} (λ a b l. Unit {0})
      ((run unit.constants calls (joined inits body) >> pure (tt {0})) n)
      ((source_inits >> (source_body >> pure (tt {0}))) n.cells.plain)
  main_agrees n holds pending =
      rw (
        value_unread (run unit.constants calls (joined inits body)) (pure (tt {0})) n,
        value_unread source_inits (source_body >> pure (tt {0})) n.cells.plain,
        sym (assoc_next (λ u. source_body) (pure (tt {0})) source_inits n.cells.plain),
        value_unread (source_inits >>= (λ u. source_body)) (pure (tt {0})) n.cells.plain,
      )
      (agrees_then (λ flow flow' l. Unit {0}) (λ a b l. Unit {0}) (run unit.constants calls (joined inits body))
      (source_inits >>= (λ u. source_body))
      (λ flow. pure (tt {0})) (λ flow. pure (tt {0})) n n.cells.plain (body_agrees n holds pending)
      (λ flow flow' l r. agrees_pure (λ a b m. Unit {0}) (tt {0}) (tt {0}) l l.cells.plain refl (tt {0})))

  abbrev begun : List ℕ → ℕ → NestState
  begun input turns = with_variables (nest_run_of.start (lowered_unit unit) input turns) (map first_of es)

  nest_begins : (input : List ℕ) (turns : ℕ) → nest_run_of.main_acts (lowered_unit unit)
      (nest_run_of.start (lowered_unit unit) input turns)
      ≡ (run unit.constants calls (joined inits body) >> pure tt) (begun input turns)
  unfolding ◌>>◌
  nest_begins input turns = ap (λ r. goes_on (λ flow. pure tt) r.came r.after)
      (made unit.constants calls (joined inits body) 0 es [] (nest_run_of.start (lowered_unit unit) input turns) h.scalars refl
      (nothing_first es))

  source_begins : (input : List ℕ) (turns : ℕ) → source_run_of.main_acts unit (source_run_of.start unit input turns)
      ≡ (source_inits >> (source_body >> pure tt)) (begun input turns).cells.plain
  unfolding ◌>>◌ goes_on pure
  source_begins input turns = rw (
    declared_is unit es calls scalls 0 es h.scalars (source_run_of.start unit input turns),
    source_first es h.scalars,
  ) refl

  pub does : Does (lowered_unit unit) (source_run_of.source_run unit)
  does = record {
    does = λ input turns. rw (nest_begins input turns, source_begins input turns)
        (end_by ((run unit.constants calls (joined inits body) >> pure tt) (begun input turns)).came
        ((run unit.constants calls (joined inits body) >> pure tt) (begun input turns)).after
        ((source_inits >> (source_body >> pure tt)) (begun input turns).cells.plain).came
        ((source_inits >> (source_body >> pure tt)) (begun input turns).cells.plain).after
        (main_agrees (begun input turns) (start_holds es h.scalars) refl).by);
  }

pub lowered_does : LoweredDoes
lowered_does unit settled lowers = does unit (lowered_of unit settled lowers)
