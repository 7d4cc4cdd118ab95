-- The list of a source's breaks, rule by rule.
use Rattle.std.proofs.Common.{ℕ, List, [], ◌∷◌, refl, sym, subst, inl, inr, ◌≡◌}
use Rattle.a95_base.specs.declared.breaks.Break.{Break}
use Rattle.a95_base.specs.Breaks.{AreBroken, broken_at}
use Rattle.a95_base.specs.Lists.{Member}
use Rattle.a95_base.specs.Rules.{declared_twice, undeclared, wrong_attributes, wrong_dummy, not_constant, constant_faults}
use Rattle.a95_base.specs.Rules.{rank_too_great, wrong_length, shape_too_large, unknown_use, host_variable, wrong_result}
use Rattle.a95_base.specs.Rules.{no_specification_expression}
use Rattle.a95_base.proofs.First.{first_is_least, none_among}
use Rattle.a95_base.proofs.Lists.{Member-append_left, Member-append_right, Member-append_cases, Member-map, Member-from_map}
use Rattle.names_types.specs.Plain.{Source}
use Rattle.names_types.specs.Rules.{declared_twice_on, undeclared_on, wrong_attributes_on, wrong_dummy_on, not_constant_on}
use Rattle.names_types.specs.Rules.{constant_faults_on, rank_too_great_on, wrong_length_on, shape_too_large_on, unknown_use_on}
use Rattle.names_types.specs.Rules.{host_variable_on, wrong_result_on, no_specification_on, anywhere, Breaks, is_declared_twice}
use Rattle.names_types.specs.Rules.{is_undeclared_name, has_wrong_attributes, has_wrong_dummy, has_no_constant, has_constant_faults}
use Rattle.names_types.specs.Rules.{has_great_rank, has_wrong_length_at, has_large_shape, has_unknown_use, names_host_variable}
use Rattle.names_types.specs.Rules.{has_wrong_result, has_no_specification}
use Rattle.names_types.specs.Listed.{Ruled, breaks_of_rule, breaks_of_rules, all_rules, breaks_of}
use Rattle.names_types.specs.Laws.{ListedAreBroken, FirstIsLeast, NoneIsUnbroken}
use Rattle.names_types.specs.View.{source_of}
use Rattle.names_types.specs.Broken.{IsBroken}

module _ (s : Source) where
  listed : (rs : List Ruled) (r : Ruled) → Member rs r → (line : ℕ) → Member (anywhere r.1 s) line
      → Member (breaks_of_rules s rs) (broken_at line r.0)
  listed [] r h line m = absurd h
  listed (x ∷ more) r (inl e) line m =
      Member-append_left (breaks_of_rule s x) (breaks_of_rules s more) (broken_at line r.0)
      (subst (λ (q : Ruled). Member (breaks_of_rule s q) (broken_at line r.0)) (sym e)
      (Member-map (λ n. broken_at n r.0) (anywhere r.1 s) line m))
  listed (x ∷ more) r (inr h) line m =
      Member-append_right (breaks_of_rule s x) (breaks_of_rules s more) (broken_at line r.0) (listed more r h line m)

  moved : {q r : Ruled} → q ≡ r → (line : ℕ) → (Member (anywhere q.1 s) line → Breaks s line q.0)
      → Member (anywhere r.1 s) line → Breaks s line r.0
  moved e line holds m = subst (λ (p : Ruled). Member (anywhere p.1 s) line → Breaks s line p.0) e holds m

  breaks : (r : Ruled) → Member all_rules r → (line : ℕ) → Member (anywhere r.1 s) line → Breaks s line r.0
  breaks r (inl e) line m = moved e line (is_declared_twice line) m
  breaks r (inr (inl e)) line m = moved e line (is_undeclared_name line) m
  breaks r (inr (inr (inl e))) line m = moved e line (has_wrong_attributes line) m
  breaks r (inr (inr (inr (inl e)))) line m = moved e line (has_wrong_dummy line) m
  breaks r (inr (inr (inr (inr (inl e))))) line m = moved e line (has_no_constant line) m
  breaks r (inr (inr (inr (inr (inr (inl e)))))) line m = moved e line (has_constant_faults line) m
  breaks r (inr (inr (inr (inr (inr (inr (inl e))))))) line m = moved e line (has_great_rank line) m
  breaks r (inr (inr (inr (inr (inr (inr (inr (inl e)))))))) line m = moved e line (has_wrong_length_at line) m
  breaks r (inr (inr (inr (inr (inr (inr (inr (inr (inl e))))))))) line m = moved e line (has_large_shape line) m
  breaks r (inr (inr (inr (inr (inr (inr (inr (inr (inr (inl e)))))))))) line m = moved e line (has_unknown_use line) m
  breaks r (inr (inr (inr (inr (inr (inr (inr (inr (inr (inr (inl e))))))))))) line m = moved e line (names_host_variable line) m
  breaks r (inr (inr (inr (inr (inr (inr (inr (inr (inr (inr (inr (inl e)))))))))))) line m = moved e line (has_wrong_result line) m
  breaks r (inr (inr (inr (inr (inr (inr (inr (inr (inr (inr (inr (inr (inl e))))))))))))) line m =
      moved e line (has_no_specification line) m
  breaks r (inr (inr (inr (inr (inr (inr (inr (inr (inr (inr (inr (inr (inr h))))))))))))) line m = absurd h

  of_rule : (r : Ruled) → Member all_rules r → (b : Break) → Member (breaks_of_rule s r) b → Breaks s b.line b.rule
  of_rule r among b m =
      let found = Member-from_map (λ n. broken_at n r.0) (anywhere r.1 s) b m in
      subst (λ (d : Break). Breaks s d.line d.rule) found.1.1 (breaks r among found.0 found.1.0)

  of_rules : (rs : List Ruled) → ((r : Ruled) → Member rs r → Member all_rules r) → (b : Break)
      → Member (breaks_of_rules s rs) b → Breaks s b.line b.rule
  of_rules [] among b m = absurd m
  of_rules (r ∷ more) among b m = elim (Member-append_cases (breaks_of_rule s r) (breaks_of_rules s more) b m) [
    | inl here ↦ of_rule r (among r (inl refl)) b here
    | inr there ↦ of_rules more (λ q h. among q (inr h)) b there
  ]

  complete : (line rule : ℕ) → Breaks s line rule → Member (breaks_of s) (broken_at line rule)
  complete _ _ (is_declared_twice line m) =
      listed all_rules (declared_twice, declared_twice_on)
      (inl refl) line m
  complete _ _ (is_undeclared_name line m) =
      listed all_rules (undeclared, undeclared_on)
      (inr (inl refl)) line m
  complete _ _ (has_wrong_attributes line m) =
      listed all_rules (wrong_attributes, wrong_attributes_on)
      (inr (inr (inl refl))) line m
  complete _ _ (has_wrong_dummy line m) =
      listed all_rules (wrong_dummy, wrong_dummy_on)
      (inr (inr (inr (inl refl)))) line m
  complete _ _ (has_no_constant line m) =
      listed all_rules (not_constant, not_constant_on)
      (inr (inr (inr (inr (inl refl))))) line m
  complete _ _ (has_constant_faults line m) =
      listed all_rules (constant_faults, constant_faults_on)
      (inr (inr (inr (inr (inr (inl refl)))))) line m
  complete _ _ (has_great_rank line m) =
      listed all_rules (rank_too_great, rank_too_great_on)
      (inr (inr (inr (inr (inr (inr (inl refl))))))) line m
  complete _ _ (has_wrong_length_at line m) =
      listed all_rules (wrong_length, wrong_length_on)
      (inr (inr (inr (inr (inr (inr (inr (inl refl)))))))) line m
  complete _ _ (has_large_shape line m) =
      listed all_rules (shape_too_large, shape_too_large_on)
      (inr (inr (inr (inr (inr (inr (inr (inr (inl refl))))))))) line m
  complete _ _ (has_unknown_use line m) =
      listed all_rules (unknown_use, unknown_use_on)
      (inr (inr (inr (inr (inr (inr (inr (inr (inr (inl refl)))))))))) line m
  complete _ _ (names_host_variable line m) =
      listed all_rules (host_variable, host_variable_on)
      (inr (inr (inr (inr (inr (inr (inr (inr (inr (inr (inl refl))))))))))) line m
  complete _ _ (has_wrong_result line m) =
      listed all_rules (wrong_result, wrong_result_on)
      (inr (inr (inr (inr (inr (inr (inr (inr (inr (inr (inr (inl refl)))))))))))) line m
  complete _ _ (has_no_specification line m) =
      listed all_rules (no_specification_expression, no_specification_on)
      (inr (inr (inr (inr (inr (inr (inr (inr (inr (inr (inr (inr (inl refl))))))))))))) line m

  pub are_broken : AreBroken (Breaks s) (breaks_of s)
  are_broken = record { sound = of_rules all_rules (λ r h. h); complete = complete }

pub listed_are_broken : ListedAreBroken
listed_are_broken s = are_broken (source_of s)

pub first_is_least_of : FirstIsLeast
first_is_least_of s b e = first_is_least (IsBroken s) (breaks_of (source_of s)) b (listed_are_broken s) e

pub none_is_unbroken : NoneIsUnbroken
none_is_unbroken s e line rule h =
    none_among (breaks_of (source_of s)) e (broken_at line rule) ((listed_are_broken s).complete line rule h)
