-- The start of a unit: its scalar variables are made, and hold what the source's hold.
use Rattle.std.proofs.Common.{◌≡◌, refl, sym, ap, subst, ◌∙◌, ℕ, zero, suc, ◌≤◌, arith, true, List, [], ◌∷◌, ◌++◌, append_assoc}
use Rattle.std.proofs.Common.{length-append}
use Rattle.std.specs.Prelude.{Some, length, map, replicate, slice_index_or, slice_set, nat_le}
use Rattle.std.proofs.Math.Seq.{set-append_seam}
use Rattle.std.proofs.lemmas.Bool.Decides.{nat_tests}
use Rattle.std.proofs.lemmas.Option.{none-some, same_Some}
use Rattle.std.proofs.lemmas.List.{length-replicate}
use Rattle.a95_base.specs.Steps.{pure, behind as goes_on, ◌>>◌}
use Rattle.a95_base.specs.Lists.{Every}
use Rattle.a95_base.specs.declared.scalar.Scalar.{Scalar}
use Rattle.a95_base.specs.Limits.{longest_text}
use Rattle.f95_unit.specs.declared.unit.DeclaredType.{DeclaredType}
use Rattle.f95_unit.specs.declared.unit.DeclaredType.TheVariants as declared
use Rattle.f95_unit.specs.declared.unit.Length.TheVariants as long
use Rattle.f95_unit.specs.declared.unit.Role.{Role}
use Rattle.f95_unit.specs.declared.unit.Role.TheVariants as source_role
use Rattle.f95_unit.specs.Plain.{Entity, Scalars, Bounds}
use Rattle.array_meaning.specs.State.{Variable, no_variable, fresh}
use Rattle.array_meaning.specs.Expressions.{blank_of_type}
use Rattle.array_meaning.specs.Calls as calls_of
use Rattle.array_meaning.specs.Control.{Next}
use Rattle.nest_tree.specs.declared.unit.Sort.{Sort}
use Rattle.nest_tree.specs.Plain.{Statements, joined}
use Rattle.nest_tree.specs.State.{NestState, changes}
use Rattle.nest_tree.specs.Statements.{Caller, acts}
use Rattle.nest_tree.specs.Run as nest_run_of
use Rattle.nest_tree.specs.Sound.{sort_of_type}
use Rattle.control_lower.specs.Trees.{sort_at, sort_of_own}
use Rattle.control_lower.specs.Units.{declared_of, make, makes}
use Rattle.control_lower.proofs.Agree.{run, run_next}
use Rattle.control_lower.proofs.Stands.{Holds, HoldsOne}
use Rattle.control_lower.proofs.Premises.{HasLength, IsOwnScalar}

abbrev pub with_variables : NestState → List Variable → NestState
with_variables n vs = record n { cells = record n.cells { plain = record n.cells.plain { variables = vs } } }

abbrev pub first_of : Entity → Variable
first_of e = fresh (blank_of_type e.of) []

abbrev pub none_of : Entity → Variable
none_of e = nest_run_of.nothing_held e.of

short_text : (k : ℕ) → k ≤ longest_text → nat_le (length {A = ℕ} (replicate k 32)) longest_text ≡ true
short_text k h = let blank : ℕ = 32 in let same : length (replicate k blank) ≡ k = length-replicate k blank in grind
    (arith, nat_tests, h, same)

module _ (constants : List Scalar) (calls : Caller) where
  make_by : (line j : ℕ) (of : DeclaredType) → HasLength of → (e : Entity) → e.of ≡ of → (n : NestState)
      → acts constants calls [] (make j e) n ≡ pure Next (with_variables n
      (slice_set n.cells.plain.variables j (fresh (blank_of_type of) [])))
  unfolding ◌>>◌ goes_on changes pure
  make_by line j declared.Integer h e is n = rw is refl
  make_by line j declared.Logical h e is n = rw is refl
  make_by line j (declared.Character (long.Fixed k)) h e is n = rw (is, short_text k h) refl
  make_by line j (declared.Character long.Assumed) h e is n = absurd h

  pub made : (rest : Statements) (j : ℕ) (es : List Entity) (before : List Variable) (n : NestState) → Every IsOwnScalar es
      → j ≡ length before
      → n.cells.plain.variables ≡ before ++ map none_of es
      → run constants calls (joined (makes j es) rest) n ≡ run constants calls rest (with_variables n (before ++ map first_of es))
  unfolding makes
  made rest j [] before n h at is = ap (λ vs. run constants calls rest (with_variables n vs)) is
  made rest j (e ∷ es) before n h at is =
      let seam : slice_set (before ++ none_of e ∷ map none_of es) (length before) (first_of e) ≡ before ++ first_of e ∷ map
      none_of es =
      set-append_seam before (none_of e) (map none_of es) (first_of e) in
      let one : acts constants calls [] (make j e) n ≡ pure Next (with_variables n (before ++ first_of e ∷ map none_of es)) =
      make_by e.line j e.of h.0.long_enough e refl n
      ∙ ap (λ vs. pure Next (with_variables n vs)) (ap (λ vs. slice_set vs j (first_of e)) is
      ∙ ap (λ i. slice_set (before ++ none_of e ∷ map none_of es) i (first_of e)) at ∙ seam) in
      run_next constants calls (make j e) (joined (makes (suc j) es) rest) n
      (with_variables n (before ++ first_of e ∷ map none_of es)) one
      ∙ made rest (suc j) es (before ++ first_of e ∷ []) (with_variables n (before ++ first_of e ∷ map none_of es)) h.1
      (ap suc at ∙ sym (length-append before (first_of e ∷ []) ∙ omega arith))
      (sym (append_assoc before (first_of e ∷ []) (map none_of es)))
      ∙ ap (λ vs. run constants calls rest (with_variables n vs)) (append_assoc before (first_of e ∷ []) (map first_of es))

pub nothing_first : (es : List Entity) → map (λ d. nest_run_of.start_of [] d.of d.role) (map declared_of es) ≡ map none_of es
nothing_first [] = refl
nothing_first (e ∷ es) = ap (λ vs. none_of e ∷ vs) (nothing_first es)

own_start : (of : DeclaredType) (bounds : Bounds) (r : Role) → bounds ≡ Scalars → r ≡ source_role.Own
    → calls_of.start_of [] r of bounds ≡ fresh (blank_of_type of) []
own_start of bounds r b o = rw (b, o) refl

pub source_first : (es : List Entity) → Every IsOwnScalar es → calls_of.variables_at_start [] es ≡ map first_of es
source_first [] h = refl
source_first (e ∷ es) h = rw (own_start e.of e.bounds e.role h.0.scalar_bounds h.0.own, source_first es h.1) refl

-- ---- what they hold

own_sort : (of : DeclaredType) → HasLength of → sort_of_own of Scalars source_role.Own ≡ Some (sort_of_type of)
own_sort declared.Integer h = refl
own_sort declared.Logical h = refl
own_sort (declared.Character (long.Fixed k)) h = refl
own_sort (declared.Character long.Assumed) h = absurd h

first_holds : (of : DeclaredType) → HasLength of → HoldsOne (sort_of_type of) (fresh (blank_of_type of) [])
first_holds declared.Integer h = record { value = blank_of_type declared.Integer; held = refl; typed = refl; like = refl }
first_holds declared.Logical h = record { value = blank_of_type declared.Logical; held = refl; typed = refl; like = refl }
first_holds (declared.Character (long.Fixed k)) h = record
    { value = blank_of_type (declared.Character (long.Fixed k)); held = refl; typed = refl; like = refl }
first_holds (declared.Character long.Assumed) h = absurd h

pub entity_sort : (e : Entity) → IsOwnScalar e → sort_of_own e.of e.bounds e.role ≡ Some (sort_of_type e.of)
entity_sort e h = ap (λ b. sort_of_own e.of b e.role) h.scalar_bounds ∙ ap (λ r. sort_of_own e.of Scalars r) h.own
    ∙ own_sort e.of h.long_enough

all_hold : (es : List Entity) → Every IsOwnScalar es → (j : ℕ) (s : Sort) → sort_at es j ≡ Some s
    → HoldsOne s (slice_index_or (map first_of es) j no_variable)
all_hold [] h j s is = absurd (none-some s is)
all_hold (e ∷ es) h zero s is =
    subst (λ w. HoldsOne w (first_of e)) (same_Some (sort_of_type e.of) s (sym (entity_sort e h.0) ∙ is))
    (first_holds e.of h.0.long_enough)
all_hold (e ∷ es) h (suc j) s is = all_hold es h.1 j s is

pub start_holds : (es : List Entity) → Every IsOwnScalar es → Holds es (map first_of es)
start_holds es h = record { holds = all_hold es h }
