-- The list of a source's breaks has all that it breaks, and nothing else.
use Rattle.std.proofs.Common.{ℕ, Bool, true, false, List, [], ◌∷◌, refl, sym, subst, inl, inr, ◌≡◌, cond, map, filter}
use Rattle.a95_base.specs.declared.breaks.Break.{Break}
use Rattle.a95_base.specs.Breaks.{broken_at}
use Rattle.a95_base.specs.Lists.{Member}
use Rattle.a95_base.specs.Rules.{wrong_kind_or_rank, extents_differ, wrong_intrinsic_arguments, wrong_designator, wrong_store}
use Rattle.a95_base.specs.Rules.{wrong_case, wrong_mask, wrong_forall, wrong_constructor, wrong_read_item}
use Rattle.a95_base.proofs.First.{first_is_least, none_among}
use Rattle.a95_base.proofs.Lists.{Member-append_left, Member-append_right, Member-append_cases}
use Rattle.shape_check.specs.Statements.{Source}
use Rattle.well_typed.specs.Questions.{Question, Posed}
use Rattle.well_typed.specs.Rules.{has_wrong_kinds, has_other_extents, has_wrong_arguments, has_wrong_subscripts, has_wrong_store}
use Rattle.well_typed.specs.Rules.{has_wrong_case, has_wrong_mask, has_wrong_index, has_wrong_values, has_wrong_item}
use Rattle.shape_check.specs.Units.{posed}
use Rattle.shape_check.specs.Broken.{Breaks, kinds_dont_fit, extents_dont_fit, arguments_dont_fit, designates_nothing}
use Rattle.shape_check.specs.Broken.{may_not_store, case_doesnt_fit, mask_doesnt_fit, forall_doesnt_fit, values_dont_fit}
use Rattle.shape_check.specs.Broken.{item_doesnt_fit}
use Rattle.shape_check.specs.Listed.{Ruled, breaks_of_rule, breaks_of_rules, all_rules, breaks_of}
use Rattle.shape_check.specs.Laws.{ListedAreBroken, FirstIsLeast, NoneIsUnbroken}

-- ---- the lines of one rule

lines : (rule : ℕ) (test : Question → Bool) → List Posed → List Break
lines rule test ps = breaks_of_rule ps (rule, test)

first_in : (rule : ℕ) (q : Posed) (t : Bool) (bs : List Posed) → t ≡ true
    → Member (map (λ (p : Posed). broken_at p.line rule) (cond t (q ∷ bs) bs)) (broken_at q.line rule)
first_in rule q true bs e = inl refl
first_in rule q false bs e = cc

later_in : (rule : ℕ) (q : Posed) (t : Bool) (bs : List Posed) (b : Break)
    → Member (map (λ (p : Posed). broken_at p.line rule) bs) b
    → Member (map (λ (p : Posed). broken_at p.line rule) (cond t (q ∷ bs) bs)) b
later_in rule q true bs b m = inr m
later_in rule q false bs b m = m

is_listed : (rule : ℕ) (test : Question → Bool) (ps : List Posed) (p : Posed) → Member ps p → test p.question ≡ true
    → Member (breaks_of_rule ps (rule, test)) (broken_at p.line rule)
is_listed rule test [] p among e = absurd among
is_listed rule test (q ∷ ps) p (inl same) e =
    subst (λ (x : Posed). Member (breaks_of_rule (q ∷ ps) (rule, test)) (broken_at x.line rule)) same
    (first_in rule q (test q.question) (filter (λ (x : Posed). test x.question) ps)
    (subst (λ (x : Posed). test x.question ≡ true) (sym same) e))
is_listed rule test (q ∷ ps) p (inr among) e =
    later_in rule q (test q.question) (filter (λ (x : Posed). test x.question) ps) (broken_at p.line rule)
    (is_listed rule test ps p among e)

-- what a list of a rule has comes of a question that breaks it
first_or_later : (rule : ℕ) (q : Posed) (t : Bool) (bs : List Posed) (b : Break) (P : Type 0)
    → (t ≡ true → broken_at q.line rule ≡ b → P) → (Member (map (λ (p : Posed). broken_at p.line rule) bs) b → P)
    → Member (map (λ (p : Posed). broken_at p.line rule) (cond t (q ∷ bs) bs)) b → P
first_or_later rule q true bs b P f g (inl e) = f refl e
first_or_later rule q true bs b P f g (inr m) = g m
first_or_later rule q false bs b P f g m = g m

from_listed : (rule : ℕ) (test : Question → Bool) (ps all : List Posed) (P : ℕ → ℕ → Type 0)
    → ((p : Posed) → Member ps p → Member all p) → ((p : Posed) → Member all p → test p.question ≡ true → P p.line rule)
    → (b : Break) → Member (breaks_of_rule ps (rule, test)) b → P b.line b.rule
from_listed rule test [] all P among holds b m = absurd m
from_listed rule test (q ∷ ps) all P among holds b m =
    first_or_later rule q (test q.question) (filter (λ (x : Posed). test x.question) ps) b (P b.line b.rule)
    (λ e same. subst (λ (d : Break). P d.line d.rule) same (holds q (among q (inl refl)) e))
    (from_listed rule test ps all P (λ p h. among p (inr h)) holds b) m

-- ---- all rules

module _ (s : Source) where
  moved : {q r : Ruled} → q ≡ r
      → ((p : Posed) → Member (posed s) p → q.1 p.question ≡ true → Breaks s p.line q.0)
      → (p : Posed) → Member (posed s) p → r.1 p.question ≡ true → Breaks s p.line r.0
  moved e holds p among h =
      subst (λ (x : Ruled). x.1 p.question ≡ true → Breaks s p.line x.0) e (holds p among) h

  breaks : (r : Ruled) → Member all_rules r → (p : Posed) → Member (posed s) p → r.1 p.question ≡ true → Breaks s p.line r.0
  breaks r (inl e) = moved e kinds_dont_fit
  breaks r (inr (inl e)) = moved e extents_dont_fit
  breaks r (inr (inr (inl e))) = moved e arguments_dont_fit
  breaks r (inr (inr (inr (inl e)))) = moved e designates_nothing
  breaks r (inr (inr (inr (inr (inl e))))) = moved e may_not_store
  breaks r (inr (inr (inr (inr (inr (inl e)))))) = moved e case_doesnt_fit
  breaks r (inr (inr (inr (inr (inr (inr (inl e))))))) = moved e mask_doesnt_fit
  breaks r (inr (inr (inr (inr (inr (inr (inr (inl e)))))))) = moved e forall_doesnt_fit
  breaks r (inr (inr (inr (inr (inr (inr (inr (inr (inl e))))))))) = moved e values_dont_fit
  breaks r (inr (inr (inr (inr (inr (inr (inr (inr (inr (inl e)))))))))) = moved e item_doesnt_fit
  breaks r (inr (inr (inr (inr (inr (inr (inr (inr (inr (inr h)))))))))) = absurd h

  of_rules : (rs : List Ruled) → ((r : Ruled) → Member rs r → Member all_rules r) → (b : Break)
      → Member (breaks_of_rules (posed s) rs) b → Breaks s b.line b.rule
  of_rules [] among b m = absurd m
  of_rules (r ∷ more) among b m = elim (Member-append_cases (breaks_of_rule (posed s) r) (breaks_of_rules (posed s) more) b m) [
    | inl here ↦ from_listed r.0 r.1 (posed s) (posed s) (Breaks s) (λ p h. h) (breaks r (among r (inl refl))) b here
    | inr there ↦ of_rules more (λ q h. among q (inr h)) b there
  ]

  in_rules : (rs : List Ruled) (r : Ruled) → Member rs r → (p : Posed) → Member (posed s) p → r.1 p.question ≡ true
      → Member (breaks_of_rules (posed s) rs) (broken_at p.line r.0)
  in_rules [] r h p among e = absurd h
  in_rules (x ∷ more) r (inl same) p among e =
      Member-append_left (breaks_of_rule (posed s) x) (breaks_of_rules (posed s) more) (broken_at p.line r.0)
      (subst (λ (q : Ruled). Member (breaks_of_rule (posed s) q) (broken_at p.line r.0)) (sym same)
      (is_listed r.0 r.1 (posed s) p among e))
  in_rules (x ∷ more) r (inr h) p among e =
      Member-append_right (breaks_of_rule (posed s) x) (breaks_of_rules (posed s) more) (broken_at p.line r.0)
      (in_rules more r h p among e)

  complete : (line rule : ℕ) → Breaks s line rule → Member (breaks_of s) (broken_at line rule)
  complete _ _ (kinds_dont_fit p m e) = in_rules all_rules (wrong_kind_or_rank, has_wrong_kinds) (inl refl) p m e
  complete _ _ (extents_dont_fit p m e) = in_rules all_rules (extents_differ, has_other_extents) (inr (inl refl)) p m e
  complete _ _ (arguments_dont_fit p m e) =
      in_rules all_rules (wrong_intrinsic_arguments, has_wrong_arguments) (inr (inr (inl refl))) p m e
  complete _ _ (designates_nothing p m e) =
      in_rules all_rules (wrong_designator, has_wrong_subscripts) (inr (inr (inr (inl refl)))) p m e
  complete _ _ (may_not_store p m e) =
      in_rules all_rules (wrong_store, has_wrong_store) (inr (inr (inr (inr (inl refl))))) p m e
  complete _ _ (case_doesnt_fit p m e) =
      in_rules all_rules (wrong_case, has_wrong_case) (inr (inr (inr (inr (inr (inl refl)))))) p m e
  complete _ _ (mask_doesnt_fit p m e) =
      in_rules all_rules (wrong_mask, has_wrong_mask) (inr (inr (inr (inr (inr (inr (inl refl))))))) p m e
  complete _ _ (forall_doesnt_fit p m e) =
      in_rules all_rules (wrong_forall, has_wrong_index) (inr (inr (inr (inr (inr (inr (inr (inl refl)))))))) p m e
  complete _ _ (values_dont_fit p m e) =
      in_rules all_rules (wrong_constructor, has_wrong_values) (inr (inr (inr (inr (inr (inr (inr (inr (inl refl))))))))) p m e
  complete _ _ (item_doesnt_fit p m e) =
      in_rules all_rules (wrong_read_item, has_wrong_item) (inr (inr (inr (inr (inr (inr (inr (inr (inr (inl refl)))))))))) p m e

pub listed_are_broken : ListedAreBroken
listed_are_broken s = record { sound = of_rules s all_rules (λ r h. h); complete = complete s }

pub first_is_least_of : FirstIsLeast
first_is_least_of s b e = first_is_least (Breaks s) (breaks_of s) b (listed_are_broken s) e

pub none_is_unbroken : NoneIsUnbroken
none_is_unbroken s e line rule h = none_among (breaks_of s) e (broken_at line rule) ((listed_are_broken s).complete line rule h)
