-- A store leaves what stands elsewhere, so what reads elsewhere comes to the same; a call of a pure function sees its actuals
-- alone.
use Rattle.std.proofs.Common.{◌≡◌, refl, sym, ap, ◌∙◌, subst, inl, inr, ℕ, zero, suc, Bool, true, false, ◌&&◌, List, [], ◌∷◌}
use Rattle.std.proofs.Common.{length}
use Rattle.std.specs.Prelude.{Option, Some, None, nat_eq, slice_index_or, slice_set, Result, Ok, Err}
use Rattle.std.specs.List.{list_any}
use Rattle.std.proofs.lemmas.Bool.{cases_eq, cases_lt, eq-eqb, eqb-false, not-true, or_parts}
use Rattle.std.proofs.lemmas.List.{get_or-set_same, get_or-set_other}
use Rattle.std.proofs.Math.Seq.{set_out}
use Rattle.a95_base.specs.declared.fault.FaultKind.{FaultKind}
use Rattle.a95_base.specs.declared.scalar.Scalar.{Scalar}
use Rattle.a95_base.specs.Lists.{Every}
use Rattle.a95_base.specs.Steps.{Ran, pure, stop, behind, ◌>>=◌, ◌>>◌}
use Rattle.f95_unit.specs.Plain.{Entity, Program}
use Rattle.array_meaning.specs.State.{Array, Variable, no_variable, State, Halt, Step, Substring, changed, with_stored, held_after}
use Rattle.array_meaning.specs.State.{stored_in, fault_at, unless, turn_from, turn, set_variable, store_all, inside}
use Rattle.array_meaning.specs.Sections.{Section}
use Rattle.array_meaning.specs.Expressions.{evaluate, procedure_at}
use Rattle.array_meaning.specs.Calls.{Actuals, is_out, body_acts, copy_back, copies_back, called}
use Rattle.array_meaning.specs.Purity.{HasNoOut}
use Rattle.array_meaning.specs.Reads.{ArraysAgree, VariablesAgree, AllAgree, SameWith, PureFunctionsSeeActuals, is_spared}
use Rattle.array_meaning.specs.Reads.{ValuesIgnoreStores}
use Rattle.array_meaning.proofs.SameReads.{evaluates_alike, values_come_of_reads}
use Rattle.array_meaning.proofs.PureCalls.{pure_functions_take_turns}

-- ---- stores

stored_elsewhere : (blank : Scalar) (bytes : Substring) (stores : List (ℕ × Scalar)) (xs : List Scalar) (k : ℕ) (d : Scalar)
    → list_any (λ (store : ℕ × Scalar). nat_eq store.0 k) stores ≡ false
    → slice_index_or xs k d ≡ slice_index_or (with_stored blank bytes stores xs) k d
stored_elsewhere blank bytes [] xs k d h = refl
stored_elsewhere blank bytes (store ∷ stores) xs k d h =
    let parts = or_parts (nat_eq store.0 k) (list_any (λ (p : ℕ × Scalar). nat_eq p.0 k) stores) h in
    let new : Scalar = changed blank bytes (slice_index_or xs store.0 blank) store.1 in
    sym (get_or-set_other xs store.0 k new d (λ e. eqb-false store.0 k parts.0 (sym e)))
    ∙ stored_elsewhere blank bytes stores (slice_set xs store.0 new) k d parts.1

arrays_agree : (among : ℕ → Bool) (held : Option Array) → ArraysAgree among held held
arrays_agree among None = tt
arrays_agree among (Some a) = (refl, λ k d h. refl)

agree_same : (among : ℕ → Bool) (v : Variable) → VariablesAgree among v v
agree_same among v = record { blank = refl; held = arrays_agree among v.held }

not_stored : (n k : ℕ) (stores : List (ℕ × Scalar)) → is_spared n stores n k ≡ true
    → list_any (λ (store : ℕ × Scalar). nat_eq store.0 k) stores ≡ false
not_stored n k stores h =
    let any : Bool = list_any (λ (store : ℕ × Scalar). nat_eq store.0 k) stores in
    subst (λ b. (b && any) ≡ false) (eq-eqb n n refl) (not-true (nat_eq n n && any) h)

held_agrees : (n : ℕ) (blank : Scalar) (bytes : Substring) (stores : List (ℕ × Scalar)) (held : Option Array)
    → ArraysAgree (is_spared n stores n) held (held_after blank bytes stores held)
held_agrees n blank bytes stores None = tt
held_agrees n blank bytes stores (Some a) =
    (refl, λ k d h. stored_elsewhere blank bytes stores a.elements k d (not_stored n k stores h))

agree_behind_store : (vs : List Variable) (n : ℕ) (bytes : Substring) (stores : List (ℕ × Scalar))
    → AllAgree (is_spared n stores) vs (slice_set vs n (stored_in (slice_index_or vs n no_variable) bytes stores))
agree_behind_store vs n bytes stores k =
    let v : Variable = slice_index_or vs n no_variable in
    let w : Variable = stored_in v bytes stores in
    let there : List Variable = slice_set vs n w in
    let same : VariablesAgree (is_spared n stores k) (slice_index_or vs k no_variable) (slice_index_or vs k no_variable) =
    agree_same (is_spared n stores k) (slice_index_or vs k no_variable) in
    elim (cases_eq k n) [
      | inl e ↦ elim (cases_lt n (length vs)) [
        | inl below ↦ subst (λ j. VariablesAgree (is_spared n stores j) (slice_index_or vs j no_variable)
            (slice_index_or there j no_variable)) (sym e)
            (subst (λ x. VariablesAgree (is_spared n stores n) v x) (sym (get_or-set_same vs n w no_variable below))
            (record { blank = refl; held = held_agrees n v.blank bytes stores v.held }))
        | inr above ↦ subst (λ x. VariablesAgree (is_spared n stores k) (slice_index_or vs k no_variable)
            (slice_index_or x k no_variable)) (sym (set_out vs n w above)) same
      ]
      | inr other ↦ subst (λ x. VariablesAgree (is_spared n stores k) (slice_index_or vs k no_variable) x)
          (sym (get_or-set_other vs n k w no_variable other)) same
    ]

pub values_ignore_stores : ValuesIgnoreStores
unfolding store_all set_variable pure
values_ignore_stores unit calls line s n bytes stores ix e g h =
    let others : List Variable = slice_set s.variables n (stored_in (slice_index_or s.variables n no_variable) bytes stores) in
    let agree : AllAgree (is_spared n stores) s.variables others = agree_behind_store s.variables n bytes stores in
    let one = evaluate unit calls line ix e s in
    let left : s.variables ≡ one.after.variables = ap (λ (x : State). x.variables) (sym
    (evaluates_alike unit calls line s others (is_spared n stores) ix e g h agree).after_one) in
    values_come_of_reads unit calls line s others (is_spared n stores) ix e g h agree
    ∙ ap (λ vs. record {
      came = one.came;
      after = record one.after { variables = slice_set vs n (stored_in (slice_index_or vs n no_variable) bytes stores) };
    }) left

-- ---- calls

-- a step that comes to the same whatever all variables hold
record Blind {A : Type 0} (m : Step A) : Type 0 where
  pub blind : (others : List Variable) (s : State) → SameWith others m s

with_others : {A : Type 0} → List Variable → Ran Halt State A → Ran Halt State A
with_others others r = record { came = r.came; after = record r.after { variables = others } }

blind_behind : {A B : Type 0} (f : A → Step B) (came : Result A Halt) (others : List Variable) (s : State) →
    ((a : A) → Blind (f a)) → behind f came (record s { variables = others }) ≡ with_others others (behind f came s)
unfolding behind with_others
blind_behind f (Ok a) others s h = (h a).blind others s
blind_behind f (Err halt) others s h = refl

blind_then : {A B : Type 0} {m : Step A} {f : A → Step B} → Blind m → ((a : A) → Blind (f a)) → Blind (m >>= f)
unfolding ◌>>=◌ with_others
blind_then {m = m} {f = f} h g = record {
  blind = λ others s. ap (λ r. behind f r.came r.after) (h.blind others s) ∙ blind_behind f (m s).came others (m s).after g;
}

blind_next : {A B : Type 0} {m : Step A} {n : Step B} → Blind m → Blind n → Blind (m >> n)
unfolding ◌>>◌ ◌>>=◌
blind_next {n = n} h g = record { blind = (blind_then {f = λ a. n} h (λ a. g)).blind }

blind_pure : {A : Type 0} (a : A) → Blind (pure a)
unfolding pure
blind_pure a = record { blind = λ others s. refl }

blind_unless : (b : Bool) (kind : FaultKind) (line : ℕ) → Blind (unless b kind line)
unfolding unless pure stop
blind_unless true kind line = record { blind = λ others s. refl }
blind_unless false kind line = record { blind = λ others s. refl }

blind_fault : {A : Type 0} (kind : FaultKind) (line : ℕ) → Blind (fault_at {A = A} kind line)
unfolding fault_at stop
blind_fault kind line = record { blind = λ others s. refl }

turn_blind : (n : ℕ) (others : List Variable) (s : State)
    → turn_from n (record s { variables = others }) ≡ with_others others (turn_from n s)
unfolding turn_from pure stop with_others
turn_blind zero others s = refl
turn_blind (suc n) others s = refl

blind_turn : Blind turn
unfolding turn with_others
blind_turn = record { blind = λ others s. turn_blind s.left others s }

blind_inside : (own : List Variable) (body : Step (Unit {0})) → Blind (inside own body)
unfolding inside
blind_inside own body = record { blind = λ others s. refl }

blind_copy : (modified : Bool) (xs : List Scalar) (section : Option Section) → modified ≡ false → Blind (copy_back modified xs
    section)
blind_copy false xs section h = blind_pure _
blind_copy true xs section h = cc

blind_copies : (own : List Variable) (entities : List Entity) (actuals : Actuals)
    → Every (λ (e : Entity). is_out e.role ≡ false) entities → Blind (copies_back own entities actuals)
unfolding copies_back
blind_copies (v ∷ own) (e ∷ entities) actuals h = blind_next (blind_copy _ _ _ h.0) (blind_copies own entities actuals h.1)
blind_copies [] entities actuals h = blind_pure _
blind_copies (v ∷ own) [] actuals h = blind_pure _

blind_called : (unit : Program) (depth p line : ℕ) (actuals : Actuals) → HasNoOut (procedure_at unit p)
    → Blind (called unit depth p line actuals)
blind_called unit zero p line actuals h = blind_next (blind_unless _ _ _) (blind_fault _ _)
blind_called unit (suc depth) p line actuals h = blind_next (blind_unless _ _ _)
    (blind_next blind_turn
    (blind_then (blind_inside _ (body_acts unit (called unit depth) line actuals (procedure_at unit p)))
    (λ own. blind_next (blind_copies own _ actuals h) (blind_pure _))))

pub pure_functions_see_actuals : PureFunctionsSeeActuals
pure_functions_see_actuals unit keeps depth p is = record {
  sees = λ line actuals others s. (blind_called unit depth p line actuals is.1).blind others s;
  takes = λ line actuals s. pure_functions_take_turns unit keeps depth p line actuals is s;
}
