-- At each question its least rule is enough: the first break is the same.
use Rattle.std.proofs.Common.{◌≡◌, ◌<◌, ◌≤◌, ◌⊎◌, ℕ, Bool, true, false, not, ◌||◌, List, [], ◌∷◌, Option, Some, None, refl, sym}
use Rattle.std.proofs.Common.{◌∙◌, subst, ap, ap₂, inl, inr, ⊎_elim, arith}
use Rattle.std.specs.Option.{is_none, unwrap_or}
use Rattle.a95_base.specs.declared.breaks.Break.{Break}
use Rattle.a95_base.specs.Breaks.{broken_at, first_of, first_from}
use Rattle.a95_base.specs.Lists.{Member, Every}
use Rattle.a95_base.specs.Rules.{wrong_kind_or_rank, extents_differ, wrong_intrinsic_arguments, wrong_designator, wrong_store}
use Rattle.a95_base.specs.Rules.{wrong_case, wrong_mask, wrong_forall, wrong_constructor, wrong_read_item}
use Rattle.a95_base.proofs.First.{Before, IsFirst, first_of_is}
use Rattle.names_types.specs.Plain as source
use Rattle.f95_unit.specs.Plain.{Expr}
use Rattle.well_typed.specs.Questions.{Question, Posed}
use Rattle.well_typed.specs.Rules.{has_wrong_kinds, has_other_extents, has_wrong_arguments, has_wrong_subscripts, has_wrong_store}
use Rattle.well_typed.specs.Rules.{has_wrong_case, has_wrong_mask, has_wrong_index, has_wrong_values, has_wrong_item}
use Rattle.well_typed.specs.Rules.{is_settled, rule_if, rule_of}
use Rattle.well_typed.proofs.Settled.{settled_breaks_none}
use Rattle.shape_check.specs.Statements.{Source}
use Rattle.shape_check.specs.Names.{Names}
use Rattle.shape_check.specs.Expressions.{expr_of}
use Rattle.shape_check.specs.Units.{posed}
use Rattle.shape_check.specs.Broken.{Breaks, kinds_dont_fit, extents_dont_fit, arguments_dont_fit, designates_nothing}
use Rattle.shape_check.specs.Broken.{may_not_store}
use Rattle.shape_check.specs.Broken.{case_doesnt_fit, mask_doesnt_fit, forall_doesnt_fit, values_dont_fit, item_doesnt_fit}
use Rattle.shape_check.specs.Listed.{breaks_of}
use Rattle.shape_check.specs.Asked.{lesser_rule, asked_rule, with_break, breaks_told}
use Rattle.shape_check.specs.Laws.{ToldIsFirst, MadeBreaksNone}
use Rattle.shape_check.proofs.Listing.{listed_are_broken}
use Rattle.shape_check.proofs.Gives.{Holds, AllSettled, Gives}
use Rattle.shape_check.proofs.Typed.{gives_expr}

-- ---- one question

-- it tells a rule, and no greater one
record AtMost (o : Option ℕ) (n : ℕ) : Type 0 where
  rule : ℕ
  told : o ≡ Some rule
  least : rule ≤ n

here : (a : Bool) (n : ℕ) (later : Option ℕ) → a ≡ true → AtMost (rule_if a n later) n
here true n later e = record { rule = n; told = refl; least = omega arith }
here false n later e = cc

later_on : (a : Bool) (m n : ℕ) (later : Option ℕ) → m ≤ n → AtMost later n → AtMost (rule_if a m later) n
later_on true m n later h t = record { rule = m; told = refl; least = h }
later_on false m n later h t = t

abbrev from_10 : Question → Option ℕ
from_10 q = rule_if (has_wrong_item q) wrong_read_item None

abbrev from_9 : Question → Option ℕ
from_9 q = rule_if (has_wrong_values q) wrong_constructor (from_10 q)

abbrev from_8 : Question → Option ℕ
from_8 q = rule_if (has_wrong_index q) wrong_forall (from_9 q)

abbrev from_7 : Question → Option ℕ
from_7 q = rule_if (has_wrong_mask q) wrong_mask (from_8 q)

abbrev from_6 : Question → Option ℕ
from_6 q = rule_if (has_wrong_case q) wrong_case (from_7 q)

abbrev from_5 : Question → Option ℕ
from_5 q = rule_if (has_wrong_store q) wrong_store (from_6 q)

abbrev from_4 : Question → Option ℕ
from_4 q = rule_if (has_wrong_subscripts q) wrong_designator (from_5 q)

abbrev from_3 : Question → Option ℕ
from_3 q = rule_if (has_wrong_arguments q) wrong_intrinsic_arguments (from_4 q)

abbrev from_2 : Question → Option ℕ
from_2 q = rule_if (has_other_extents q) extents_differ (from_3 q)

abbrev from_1 : Question → Option ℕ
from_1 q = rule_if (has_wrong_kinds q) wrong_kind_or_rank (from_2 q)

at_most_1 : (q : Question) → has_wrong_kinds q ≡ true → AtMost (rule_of q) wrong_kind_or_rank
at_most_1 q e = here (has_wrong_kinds q) wrong_kind_or_rank _ e

at_most_2 : (q : Question) → has_other_extents q ≡ true → AtMost (rule_of q) extents_differ
at_most_2 q e =
    later_on (has_wrong_kinds q) wrong_kind_or_rank extents_differ _ (omega arith) (here (has_other_extents q) extents_differ _ e)

at_most_3 : (q : Question) → has_wrong_arguments q ≡ true → AtMost (rule_of q) wrong_intrinsic_arguments
at_most_3 q e =
    later_on (has_wrong_kinds q) wrong_kind_or_rank wrong_intrinsic_arguments _ (omega arith)
    (later_on (has_other_extents q) extents_differ wrong_intrinsic_arguments _ (omega arith)
    (here (has_wrong_arguments q) wrong_intrinsic_arguments _ e))

at_most_4 : (q : Question) → has_wrong_subscripts q ≡ true → AtMost (rule_of q) wrong_designator
at_most_4 q e =
    later_on (has_wrong_kinds q) wrong_kind_or_rank wrong_designator _ (omega arith)
    (later_on (has_other_extents q) extents_differ wrong_designator _ (omega arith)
    (later_on (has_wrong_arguments q) wrong_intrinsic_arguments wrong_designator _ (omega arith)
    (here (has_wrong_subscripts q) wrong_designator _ e)))

at_most_5 : (q : Question) → has_wrong_store q ≡ true → AtMost (rule_of q) wrong_store
at_most_5 q e =
    later_on (has_wrong_kinds q) wrong_kind_or_rank wrong_store _ (omega arith)
    (later_on (has_other_extents q) extents_differ wrong_store _ (omega arith)
    (later_on (has_wrong_arguments q) wrong_intrinsic_arguments wrong_store _ (omega arith)
    (later_on (has_wrong_subscripts q) wrong_designator wrong_store _ (omega arith)
    (here (has_wrong_store q) wrong_store _ e))))

at_most_6 : (q : Question) → has_wrong_case q ≡ true → AtMost (rule_of q) wrong_case
at_most_6 q e =
    later_on (has_wrong_kinds q) wrong_kind_or_rank wrong_case _ (omega arith)
    (later_on (has_other_extents q) extents_differ wrong_case _ (omega arith)
    (later_on (has_wrong_arguments q) wrong_intrinsic_arguments wrong_case _ (omega arith)
    (later_on (has_wrong_subscripts q) wrong_designator wrong_case _ (omega arith)
    (later_on (has_wrong_store q) wrong_store wrong_case _ (omega arith)
    (here (has_wrong_case q) wrong_case _ e)))))

at_most_7 : (q : Question) → has_wrong_mask q ≡ true → AtMost (rule_of q) wrong_mask
at_most_7 q e =
    later_on (has_wrong_kinds q) wrong_kind_or_rank wrong_mask _ (omega arith)
    (later_on (has_other_extents q) extents_differ wrong_mask _ (omega arith)
    (later_on (has_wrong_arguments q) wrong_intrinsic_arguments wrong_mask _ (omega arith)
    (later_on (has_wrong_subscripts q) wrong_designator wrong_mask _ (omega arith)
    (later_on (has_wrong_store q) wrong_store wrong_mask _ (omega arith)
    (later_on (has_wrong_case q) wrong_case wrong_mask _ (omega arith)
    (here (has_wrong_mask q) wrong_mask _ e))))))

at_most_8 : (q : Question) → has_wrong_index q ≡ true → AtMost (rule_of q) wrong_forall
at_most_8 q e =
    later_on (has_wrong_kinds q) wrong_kind_or_rank wrong_forall _ (omega arith)
    (later_on (has_other_extents q) extents_differ wrong_forall _ (omega arith)
    (later_on (has_wrong_arguments q) wrong_intrinsic_arguments wrong_forall _ (omega arith)
    (later_on (has_wrong_subscripts q) wrong_designator wrong_forall _ (omega arith)
    (later_on (has_wrong_store q) wrong_store wrong_forall _ (omega arith)
    (later_on (has_wrong_case q) wrong_case wrong_forall _ (omega arith)
    (later_on (has_wrong_mask q) wrong_mask wrong_forall _ (omega arith)
    (here (has_wrong_index q) wrong_forall _ e)))))))

at_most_9 : (q : Question) → has_wrong_values q ≡ true → AtMost (rule_of q) wrong_constructor
at_most_9 q e =
    later_on (has_wrong_kinds q) wrong_kind_or_rank wrong_constructor _ (omega arith)
    (later_on (has_other_extents q) extents_differ wrong_constructor _ (omega arith)
    (later_on (has_wrong_arguments q) wrong_intrinsic_arguments wrong_constructor _ (omega arith)
    (later_on (has_wrong_subscripts q) wrong_designator wrong_constructor _ (omega arith)
    (later_on (has_wrong_store q) wrong_store wrong_constructor _ (omega arith)
    (later_on (has_wrong_case q) wrong_case wrong_constructor _ (omega arith)
    (later_on (has_wrong_mask q) wrong_mask wrong_constructor _ (omega arith)
    (later_on (has_wrong_index q) wrong_forall wrong_constructor _ (omega arith)
    (here (has_wrong_values q) wrong_constructor _ e))))))))

at_most_10 : (q : Question) → has_wrong_item q ≡ true → AtMost (rule_of q) wrong_read_item
at_most_10 q e =
    later_on (has_wrong_kinds q) wrong_kind_or_rank wrong_read_item _ (omega arith)
    (later_on (has_other_extents q) extents_differ wrong_read_item _ (omega arith)
    (later_on (has_wrong_arguments q) wrong_intrinsic_arguments wrong_read_item _ (omega arith)
    (later_on (has_wrong_subscripts q) wrong_designator wrong_read_item _ (omega arith)
    (later_on (has_wrong_store q) wrong_store wrong_read_item _ (omega arith)
    (later_on (has_wrong_case q) wrong_case wrong_read_item _ (omega arith)
    (later_on (has_wrong_mask q) wrong_mask wrong_read_item _ (omega arith)
    (later_on (has_wrong_index q) wrong_forall wrong_read_item _ (omega arith)
    (later_on (has_wrong_values q) wrong_constructor wrong_read_item _ (omega arith)
    (here (has_wrong_item q) wrong_read_item _ e)))))))))

-- ---- all questions

some_is : (m n : ℕ) → Some m ≡ Some n → m ≡ n
some_is m n e = ap (λ o. unwrap_or o m) e

told_one : (o : Option ℕ) (line rule : ℕ) (bs : List Break) → o ≡ Some rule → Member (with_break o line bs) (broken_at line rule)
told_one None line rule bs e = cc
told_one (Some r) line rule bs e = inl (ap (broken_at line) (some_is r rule e))

kept : (o : Option ℕ) (line : ℕ) (bs : List Break) (b : Break) → Member bs b → Member (with_break o line bs) b
kept None line bs b m = m
kept (Some r) line bs b m = inr m

is_told : (ps : List Posed) (p : Posed) (rule : ℕ) → Member ps p → rule_of p.question ≡ Some rule
    → Member (breaks_told ps) (broken_at p.line rule)
is_told [] p rule among e = absurd among
is_told (q ∷ ps) p rule (inl same) e = subst (λ (x : Posed). Member (breaks_told (q ∷ ps)) (broken_at x.line rule)) same
    (told_one (rule_of q.question) q.line rule (breaks_told ps)
    (subst (λ (x : Posed). rule_of x.question ≡ Some rule) (sym same) e))
is_told (q ∷ ps) p rule (inr among) e =
    kept (rule_of q.question) q.line (breaks_told ps) (broken_at p.line rule) (is_told ps p rule among e)

-- it comes of a question that breaks the rule
either_rule : (a : Bool) (n : ℕ) (later : Option ℕ) (P : ℕ → Type 0) → (a ≡ true → P n)
    → ((r : ℕ) → later ≡ Some r → P r) → (r : ℕ) → rule_if a n later ≡ Some r → P r
either_rule true n later P f g r e = subst P (some_is n r e) (f refl)
either_rule false n later P f g r e = g r e

rule_breaks : (s : Source) (p : Posed) → Member (posed s) p → (r : ℕ) → rule_of p.question ≡ Some r → Breaks s p.line r
rule_breaks s p among = either_rule (has_wrong_kinds p.question) wrong_kind_or_rank _ (Breaks s p.line) (kinds_dont_fit p among)
    (either_rule (has_other_extents p.question) extents_differ _ (Breaks s p.line) (extents_dont_fit p among)
    (either_rule (has_wrong_arguments p.question) wrong_intrinsic_arguments _ (Breaks s p.line) (arguments_dont_fit p among)
    (either_rule (has_wrong_subscripts p.question) wrong_designator _ (Breaks s p.line) (designates_nothing p among)
    (either_rule (has_wrong_store p.question) wrong_store _ (Breaks s p.line) (may_not_store p among)
    (either_rule (has_wrong_case p.question) wrong_case _ (Breaks s p.line) (case_doesnt_fit p among)
    (either_rule (has_wrong_mask p.question) wrong_mask _ (Breaks s p.line) (mask_doesnt_fit p among)
    (either_rule (has_wrong_index p.question) wrong_forall _ (Breaks s p.line) (forall_doesnt_fit p among)
    (either_rule (has_wrong_values p.question) wrong_constructor _ (Breaks s p.line) (values_dont_fit p among)
    (either_rule (has_wrong_item p.question) wrong_read_item _ (Breaks s p.line) (item_doesnt_fit p among)
    (λ r e. cc))))))))))

with_listed : (s : Source) (o : Option ℕ) (p : Posed) (bs : List Break) → ((r : ℕ) → o ≡ Some r → Breaks s p.line r)
    → ((b : Break) → Member bs b → Member (breaks_of s) b) → (b : Break) → Member (with_break o p.line bs) b
    → Member (breaks_of s) b
with_listed s None p bs f g b m = g b m
with_listed s (Some r) p bs f g b (inl same) =
    subst (λ (x : Break). Member (breaks_of s) x) same ((listed_are_broken s).complete p.line r (f r refl))
with_listed s (Some r) p bs f g b (inr m) = g b m

told_is_listed : (s : Source) (ps : List Posed) → ((p : Posed) → Member ps p → Member (posed s) p) → (b : Break)
    → Member (breaks_told ps) b → Member (breaks_of s) b
told_is_listed s [] among b m = absurd m
told_is_listed s (p ∷ ps) among b m = with_listed s (rule_of p.question) p (breaks_told ps)
    (rule_breaks s p (among p (inl refl))) (told_is_listed s ps (λ q h. among q (inr h))) b m

-- each break has one in the list that comes no later
record Earlier (bs : List Break) (b : Break) : Type 0 where
  found : Break
  among : Member bs found
  before : Before found b

earlier : (s : Source) (p : Posed) (n : ℕ) → Member (posed s) p → AtMost (rule_of p.question) n
    → Earlier (breaks_told (posed s)) (broken_at p.line n)
earlier s p n m t = record {
  found = broken_at p.line t.rule;
  among = is_told (posed s) p t.rule m t.told;
  before = record { order = inr (refl, t.least) };
}

has_earlier : (s : Source) (line rule : ℕ) → Breaks s line rule → Earlier (breaks_told (posed s)) (broken_at line rule)
has_earlier s _ _ (kinds_dont_fit p m e) = earlier s p wrong_kind_or_rank m (at_most_1 p.question e)
has_earlier s _ _ (extents_dont_fit p m e) = earlier s p extents_differ m (at_most_2 p.question e)
has_earlier s _ _ (arguments_dont_fit p m e) = earlier s p wrong_intrinsic_arguments m (at_most_3 p.question e)
has_earlier s _ _ (designates_nothing p m e) = earlier s p wrong_designator m (at_most_4 p.question e)
has_earlier s _ _ (may_not_store p m e) = earlier s p wrong_store m (at_most_5 p.question e)
has_earlier s _ _ (case_doesnt_fit p m e) = earlier s p wrong_case m (at_most_6 p.question e)
has_earlier s _ _ (mask_doesnt_fit p m e) = earlier s p wrong_mask m (at_most_7 p.question e)
has_earlier s _ _ (forall_doesnt_fit p m e) = earlier s p wrong_forall m (at_most_8 p.question e)
has_earlier s _ _ (values_dont_fit p m e) = earlier s p wrong_constructor m (at_most_9 p.question e)
has_earlier s _ _ (item_doesnt_fit p m e) = earlier s p wrong_read_item m (at_most_10 p.question e)

-- ---- the first of both lists

same_break : (a b : Break) → (a.line < b.line) ⊎ ((a.line ≡ b.line) × (a.rule ≤ b.rule))
    → (b.line < a.line) ⊎ ((b.line ≡ a.line) × (b.rule ≤ a.rule)) → a ≡ b
same_break a b (inl h) (inl g) = absurd (omega (arith, h, g))
same_break a b (inl h) (inr g) = absurd (omega (arith, h, g.0))
same_break a b (inr h) (inl g) = absurd (omega (arith, h.0, g))
same_break a b (inr h) (inr g) = ap₂ broken_at h.0 (omega (arith, h.1, g.1))

chained_with : (a b c : Break) → Before a b → Before b c → (a.line < c.line) ⊎ ((a.line ≡ c.line) × (a.rule ≤ c.rule))
chained_with a b c x y = chain x.order y.order
  where
    chain : (a.line < b.line) ⊎ ((a.line ≡ b.line) × (a.rule ≤ b.rule))
        → (b.line < c.line) ⊎ ((b.line ≡ c.line) × (b.rule ≤ c.rule)) → (a.line < c.line) ⊎ ((a.line ≡ c.line) × (a.rule ≤ c.rule))
    chain (inl h) (inl g) = inl (omega (arith, h, g))
    chain (inl h) (inr g) = inl (omega (arith, h, g.0))
    chain (inr h) (inl g) = inl (omega (arith, h.0, g))
    chain (inr h) (inr g) = inr (omega (arith, h.0, g.0), omega (arith, h.1, g.1))

one_first : (ls bs : List Break) (a b : Break) → ((x : Break) → Member bs x → Member ls x)
    → ((x : Break) → Member ls x → Earlier bs x) → IsFirst a ls → IsFirst b bs → a ≡ b
one_first ls bs a b back forth f g = let t = forth a f.among in
    same_break a b (f.before b (back b g.among)).order (chained_with b t.found a (g.before t.found t.among) t.before)

same_first : (ls bs : List Break) → ((x : Break) → Member bs x → Member ls x)
    → ((x : Break) → Member ls x → Earlier bs x) → first_of ls ≡ first_of bs
same_first [] [] back forth = refl
same_first [] (b ∷ bs) back forth = absurd (back b (inl refl))
same_first (a ∷ ls) [] back forth = absurd (forth a (inl refl)).among
same_first (a ∷ ls) (b ∷ bs) back forth = ap Some (one_first (a ∷ ls) (b ∷ bs) (first_from a ls) (first_from b bs) back forth
    (first_of_is (a ∷ ls) (first_from a ls) refl) (first_of_is (b ∷ bs) (first_from b bs) refl))

pub told_is_first : ToldIsFirst
told_is_first s = same_first (breaks_of s) (breaks_told (posed s)) (told_is_listed s (posed s) (λ p h. h))
    (λ x m. has_earlier s x.line x.rule ((listed_are_broken s).sound x m))

-- ---- what is made

none_of : (q : Question) → is_settled q ≡ true → is_settled q ≡ is_none (rule_of q) → rule_of q ≡ None
none_of q e same = no_rule (rule_of q) (sym same ∙ e)
  where
    no_rule : (o : Option ℕ) → is_none o ≡ true → o ≡ None
    no_rule None h = refl
    no_rule (Some r) h = cc

none_asked : (qs : List Question) → AllSettled qs → asked_rule qs ≡ None
none_asked [] h = refl
none_asked (q ∷ more) h =
    ap₂ lesser_rule (none_of q h.0 (settled_breaks_none q)) (none_asked more h.1)

settled_of : (qs : List Question) (o : Option Expr) (t : Expr) → o ≡ Some t → Holds (λ (x : Expr). AllSettled qs) o → AllSettled qs
settled_of qs None t e h = cc
settled_of qs (Some x) t e h = h

pub made_breaks_none : MadeBreaksNone
made_breaks_none c e t made =
    none_asked (expr_of c e).asked (settled_of (expr_of c e).asked (expr_of c e).made t made (gives_expr c e).settled)
