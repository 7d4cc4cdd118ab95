-- What holds of all bytes: one source, which breaks nothing.
use Rattle.std.proofs.Common.{◌≡◌, ℕ, List, [], ◌∷◌, sym, ◌∙◌, ap, subst, refl, inl, inr}
use Rattle.a95_base.specs.Lists.{Member}
use Rattle.f95_lexer.specs.declared.token.Statement.{Statement}
use Rattle.f95_lexer.specs.declared.token.Token.{Token}
use Rattle.f95_lexer.specs.Spelling.{Cuts}
use Rattle.f95_lexer.specs.Rules as text
use Rattle.f95_tree.specs.declared.form.Form.{Form}
use Rattle.f95_tree.specs.declared.source.Source.{Source}
use Rattle.f95_parser.specs.Rules.{IsOfForm, Broken}
use Rattle.f95_nesting.specs.Nesting.{Lined, Nests}
use Rattle.f95_nesting.specs.Nesting as nesting
use Rattle.f95_reader.specs.Reading.{IsFormOf, AreForms, HasForms, BreaksInForm, BreaksInNesting, IsBroken, in_text, in_form}
use Rattle.f95_reader.specs.Reading.{in_nesting, ReadsSource}
use Rattle.f95_reader.proofs.Judgements.{formed_breaks_none}

abbrev pub OneForm : Type 0
OneForm = (tokens : List Token) (a b : Form) → IsOfForm tokens a → IsOfForm tokens b → a ≡ b

abbrev pub OneCut : Type 0
OneCut = (bytes : List ℕ) (a b : List Statement) (m n : ℕ) → Cuts bytes a m → Cuts bytes b n → (a ≡ b) × (m ≡ n)

abbrev pub OneNesting : Type 0
OneNesting = (forms : List Lined) (a b : Source) → Nests forms a → Nests forms b → a ≡ b

abbrev pub CutsUnbroken : Type 0
CutsUnbroken = (bytes : List ℕ) (statements : List Statement) (feeds line rule : ℕ) → Cuts bytes statements feeds →
    text.IsBroken bytes line rule → ⊥

same_form : OneForm → (s : Statement) (f g : Lined) → IsFormOf s f → IsFormOf s g → f ≡ g
same_form one s f g a b = ap (λ l. (l, f.1)) (a.line ∙ sym b.line) ∙ ap (λ x. (g.0, x)) (one s.tokens f.1 g.1 a.form b.form)

same_forms : OneForm → (ss : List Statement) (fs gs : List Lined) → AreForms ss fs → AreForms ss gs → fs ≡ gs
same_forms one [] [] [] a b = refl
same_forms one [] [] (g ∷ gs) a b = absurd b
same_forms one [] (f ∷ fs) gs a b = absurd a
same_forms one (s ∷ ss) [] gs a b = absurd a
same_forms one (s ∷ ss) (f ∷ fs) [] a b = absurd b
same_forms one (s ∷ ss) (f ∷ fs) (g ∷ gs) a b = ap (λ x. x ∷ fs) (same_form one s f g a.0 b.0)
    ∙ ap (λ xs. g ∷ xs) (same_forms one ss fs gs a.1 b.1)

-- bytes have the same forms and line feeds, however they are read
pub has_one : OneForm → OneCut → (bytes : List ℕ) (fs gs : List Lined) (m n : ℕ) → HasForms bytes fs m → HasForms bytes gs n →
    (fs ≡ gs) × (m ≡ n)
has_one one cut bytes fs gs m n a b =
    let same = cut bytes a.statements b.statements m n a.cut b.cut in
    (same_forms one b.statements fs gs (subst (λ ss. AreForms ss fs) same.0 a.are) b.are, same.1)

pub one_source : OneForm → OneCut → OneNesting → (bytes : List ℕ) (a b : Source) → ReadsSource bytes a → ReadsSource bytes b → a ≡ b
one_source one cut nest bytes a b r q =
    let same = has_one one cut bytes r.forms q.forms r.feeds q.feeds r.has q.has in
    nest q.forms a b (subst (λ fs. Nests fs a) same.0 r.nests) q.nests

member_formed : (ss : List Statement) (fs : List Lined) (s : Statement) → AreForms ss fs → Member ss s → (f : Lined) × IsFormOf s f
member_formed [] fs s a m = absurd m
member_formed (t ∷ ss) [] s a m = absurd a
member_formed (t ∷ ss) (f ∷ fs) s a (inl e) = (f, subst (λ (x : Statement). IsFormOf x f) e a.0)
member_formed (t ∷ ss) (f ∷ fs) s a (inr m) = member_formed ss fs s a.1 m

pub forms_break_none : (ss : List Statement) (fs : List Lined) (s : Statement) (line rule : ℕ) → AreForms ss fs → Member ss s →
    Broken s.line.0 s.tokens line rule → ⊥
forms_break_none ss fs s line rule a m b = let f = member_formed ss fs s a m in formed_breaks_none s f.0 line rule f.1 b

pub breaks_nothing : OneForm → OneCut → CutsUnbroken → (bytes : List ℕ) (s : Source) (phase line rule : ℕ) → ReadsSource bytes s →
    IsBroken bytes phase line rule → ⊥
breaks_nothing one cut whole bytes s phase line rule r (in_text b) = whole bytes r.has.statements r.feeds line rule r.has.cut b
breaks_nothing one cut whole bytes s phase line rule r (in_form b) =
    let same = cut bytes b.statements r.has.statements b.feeds r.feeds b.cut r.has.cut in
    forms_break_none r.has.statements r.forms b.statement line rule r.has.are (subst (λ ss. Member ss b.statement) same.0 b.among)
    b.broken
breaks_nothing one cut whole bytes s phase line rule r (in_nesting b) =
    let same = has_one one cut bytes b.forms r.forms b.feeds r.feeds b.has r.has in
    r.unbroken line rule
    (subst (λ n. nesting.IsBroken r.forms n line rule) same.1
    (subst (λ fs. nesting.IsBroken fs b.feeds line rule) same.0 b.broken))
