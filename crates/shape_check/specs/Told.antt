-- What a statement of a source is in the typed unit, with all questions that it asks at its lines, and the values of its CASEs.
-- What
-- has no type, though no rule of this phase says why, is left out, and its line is kept: it refers to what has no value.
use Rattle.std.specs.Prelude.{ℕ, List, [], ◌∷◌, ◌++◌, Option, Some, None}
use Rattle.a95_base.specs.declared.scalar.Scalar.{Scalar}
use Rattle.f95_unit.specs.Plain.{Stmt, Stmts, no_stmt, stmt}
use Rattle.well_typed.specs.Questions.{Question, Posed}
use Rattle.shape_check.specs.Found.{Found}

pub record Told (A : Type 0) : Type 0 where
  pub is : A
  pub posed : List Posed
  pub values : List Scalar
  pub missing : List ℕ

abbrev pub told : {A : Type 0} → A → Told A
told a = record { is = a; posed = []; values = []; missing = [] }

abbrev pub mapped_told : {A B : Type 0} → (A → B) → Told A → Told B
mapped_told f t = record { is = f t.is; posed = t.posed; values = t.values; missing = t.missing }

abbrev pub both_told : {A B : Type 0} → Told A → Told B → Told (A × B)
both_told t u = record {
  is = (t.is, u.is);
  posed = t.posed ++ u.posed;
  values = t.values ++ u.values;
  missing = t.missing ++ u.missing;
}

abbrev pub posed_at : ℕ → List Question → List Posed
posed_at line [] = []
posed_at line (q ∷ more) = record { line = line; question = q } ∷ posed_at line more

-- questions beside
abbrev pub also_posed : {A : Type 0} → ℕ → List Question → Told A → Told A
also_posed line qs t =
    record { is = t.is; posed = posed_at line qs ++ t.posed; values = t.values; missing = t.missing }

abbrev pub line_if_none : {A : Type 0} → ℕ → Option A → List ℕ
line_if_none line None = line ∷ []
line_if_none line (Some a) = []

-- what is made at a line, or nothing
abbrev pub told_at : {A : Type 0} → ℕ → Found A → Told (Option A)
told_at line m = record { is = m.made; posed = posed_at line m.asked; values = []; missing = line_if_none line m.made }

abbrev pub maybe_stmt : Option Stmt → Stmts
maybe_stmt None = no_stmt
maybe_stmt (Some s) = stmt s no_stmt

abbrev pub stmt_told : ℕ → Found Stmt → Told Stmts
stmt_told line m = mapped_told maybe_stmt (told_at line m)
