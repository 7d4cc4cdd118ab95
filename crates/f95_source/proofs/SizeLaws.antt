-- The terminals of a source's statements are among those of its forms, of which bytes have at most twice as many as bytes.
use Rattle.std.proofs.Common.{◌≡◌, ℕ, ◌+◌, ◌*◌, ◌≤◌, Bool, true, List, [], ◌∷◌, ◌++◌, length, map, Option, Some, None, sym, ◌∙◌, ap}
use Rattle.std.proofs.Common.{subst, refl, arith}
use Rattle.std.specs.List.{sum_by}
use Rattle.std.proofs.lemmas.List.Sums.{sum_by-cons}
use Rattle.a95_base.specs.declared.source.Line.{Line}
use Rattle.f95_tree.specs.Forms.{spell_form, declaration_text, action_text}
use Rattle.f95_tree.specs.declared.action.Action.{Action}
use Rattle.f95_tree.specs.declared.declaration.Declaration.{Declaration}
use Rattle.f95_tree.specs.declared.terminal.UnitWord.TheVariants as word
use Rattle.f95_tree.specs.declared.source.Main.{Main}
use Rattle.f95_tree.specs.declared.source.Section.{Section}
use Rattle.f95_tree.specs.declared.source.Source.{Source}
use Rattle.f95_tree.specs.declared.source.Statement.{Statement, roll-Statement}
use Rattle.f95_tree.specs.declared.source.Statement.TheOpen.{Statement-F, Branch-F, Case-F, Otherwise-F}
use Rattle.f95_tree.specs.declared.source.Statement.TheOpen as layer
use Rattle.f95_tree.specs.declared.source.Statement.TheFolds.{ind-Statement, map-Statement, fold-roll-Statement}
use Rattle.f95_tree.specs.declared.source.Branch.{Branch}
use Rattle.f95_tree.specs.declared.source.Case.{Case}
use Rattle.f95_tree.specs.declared.source.Otherwise.{Otherwise}
use Rattle.f95_nesting.specs.Nesting.{Lined, Nests, forms_of}
use Rattle.f95_nesting.specs.Placed.{Text, Context, Body, Part, Range, together, in_main, statement_at, branch_at, case_at}
use Rattle.f95_nesting.specs.Placed.{otherwise_at, statement_text, statements_text, declared, use_placed, implicit_text}
use Rattle.f95_nesting.specs.Placed.{section_text, contains_text, unit_end, program_text, program_name, is_filled, main_text}
use Rattle.f95_nesting.specs.Placed.{modules_text, source_text}
use Rattle.f95_reader.specs.Reading.{HasForms, ReadsSource}
use Rattle.f95_reader.specs.Sizes.{terminal_count}
use Rattle.rank_one.specs.declared.unit.Unit as unit
use Rattle.rank_one.specs.Typed.{size_of}
use Rattle.rank_one.specs.Sizes.{terminals_at, statement_terminals, terminals_in}
use Rattle.f95_source.specs.Sizes.{IsWithin}

-- the terminals of a text
abbrev counted : Text → ℕ
counted t = terminal_count (forms_of t)

counted_append : (t u : Text) → counted (t ++ u) ≡ counted t + counted u
counted_append [] u = omega arith
counted_append (p ∷ t) u = let h = counted_append t u in omega (arith, h)

first_counted : (t u : Text) → counted t ≤ counted (t ++ u)
first_counted t u = let e = counted_append t u in omega (arith, e)

second_counted : (t u : Text) → counted u ≤ counted (t ++ u)
second_counted t u = let e = counted_append t u in omega (arith, e)

-- ---- statements

abbrev IsAmong : Statement → Type 0
IsAmong x = (c : Context) → statement_terminals x ≤ counted (statement_text x c)

abbrev Any : {A : Type 0} → A → Type 0
Any x = Unit {0}

abbrev firsts : {A : Type 0} {Q : A → Type 0} → List ((x : A) × Q x) → List A
firsts xs = map (λ p. p.0) xs

abbrev Layer : Type 0
Layer = Statement-F Statement Branch Case Otherwise

block_among : (z : Layer) → statement_terminals (roll-Statement z) ≡ 0 → IsAmong (roll-Statement z)
block_among z none = λ c. subst (λ n. n ≤ counted (statement_text (roll-Statement z) c)) (sym none) (omega arith)

action_among : (l : Line) (a : Action) → IsAmong (roll-Statement (layer.Action l a))
action_among l a = λ c.
    let left : statement_terminals (roll-Statement (layer.Action l a)) ≡ length (action_text a) =
    fold-roll-Statement ℕ (Unit {0}) (Unit {0}) (Unit {0}) terminals_at (λ _. tt) (λ _. tt) (λ _. tt) (layer.Action l a) in
    let right : counted (statement_text (roll-Statement (layer.Action l a)) c) ≡ length (action_text a) + 0 =
    ap (λ (b : Body). counted (b c))
    (fold-roll-Statement Body Part Range Part statement_at branch_at case_at otherwise_at (layer.Action l a)) in
    omega (arith, left, right)

layer_among : (y : Statement-F ((x : Statement) × IsAmong x) ((x : Branch) × Any x) ((x : Case) × Any x) ((x : Otherwise) × Any x))
    → IsAmong
    (roll-Statement
    (map-Statement ((x : Statement) × IsAmong x) ((x : Branch) × Any x) ((x : Case) × Any x) ((x : Otherwise) × Any x) Statement
    Branch Case Otherwise (λ p. p.0) (λ p. p.0) (λ p. p.0) (λ p. p.0) y))
layer_among (layer.Action l a) = action_among l a
layer_among (layer.If l e a) =
    block_among (layer.If l e a)
    (fold-roll-Statement ℕ (Unit {0}) (Unit {0}) (Unit {0}) terminals_at (λ _. tt) (λ _. tt) (λ _. tt) (layer.If l e a))
layer_among (layer.IfBlock l n e xs bs None end) = block_among (layer.IfBlock l n e (firsts xs) (firsts bs) None end)
    (fold-roll-Statement ℕ (Unit {0}) (Unit {0}) (Unit {0}) terminals_at (λ _. tt) (λ _. tt) (λ _. tt)
    (layer.IfBlock l n e (firsts xs) (firsts bs) None end))
layer_among (layer.IfBlock l n e xs bs (Some o) end) = block_among (layer.IfBlock l n e (firsts xs) (firsts bs) (Some o.0) end)
    (fold-roll-Statement ℕ (Unit {0}) (Unit {0}) (Unit {0}) terminals_at (λ _. tt) (λ _. tt) (λ _. tt)
    (layer.IfBlock l n e (firsts xs) (firsts bs) (Some o.0) end))
layer_among (layer.Select l n e ks end) = block_among (layer.Select l n e (firsts ks) end)
    (fold-roll-Statement ℕ (Unit {0}) (Unit {0}) (Unit {0}) terminals_at (λ _. tt) (λ _. tt) (λ _. tt)
    (layer.Select l n e (firsts ks) end))
layer_among (layer.Do l n k xs end) = block_among (layer.Do l n k (firsts xs) end)
    (fold-roll-Statement ℕ (Unit {0}) (Unit {0}) (Unit {0}) terminals_at (λ _. tt) (λ _. tt) (λ _. tt)
    (layer.Do l n k (firsts xs) end))
layer_among (layer.Where b) =
    block_among (layer.Where b)
    (fold-roll-Statement ℕ (Unit {0}) (Unit {0}) (Unit {0}) terminals_at (λ _. tt) (λ _. tt) (λ _. tt) (layer.Where b))
layer_among (layer.Forall l h xs end) = block_among (layer.Forall l h xs end)
    (fold-roll-Statement ℕ (Unit {0}) (Unit {0}) (Unit {0}) terminals_at (λ _. tt) (λ _. tt) (λ _. tt) (layer.Forall l h xs end))

statement_among : (x : Statement) → IsAmong x
statement_among = ind-Statement IsAmong Any Any Any (λ x y is. subst (λ z. IsAmong (roll-Statement z)) is (layer_among y))
    (λ x y is. tt) (λ x y is. tt) (λ x y is. tt)

statements_among : (xs : List Statement) (c : Context) → sum_by statement_terminals xs ≤ counted (statements_text xs c)
statements_among [] c = omega arith
statements_among (x ∷ xs) c =
    let first = statement_among x c in
    let rest = statements_among xs c in
    let left = sum_by-cons statement_terminals x xs in
    let right = counted_append (statement_text x c) (statements_text xs c) in
    omega (arith, first, rest, left, right)

-- ---- declarations

abbrev declared_terminals : Line × Declaration → ℕ
declared_terminals d = length (declaration_text d.1)

declarations_among : (ds : List (Line × Declaration)) → sum_by declared_terminals ds ≤ counted (map declared ds)
declarations_among [] = omega arith
declarations_among (d ∷ ds) =
    let rest = declarations_among ds in
    let left = sum_by-cons declared_terminals d ds in
    omega (arith, rest, left)

section_among : (s : Section) → sum_by declared_terminals s.declarations ≤ counted (section_text s)
section_among s =
    let own = declarations_among s.declarations in
    let outer = second_counted (map use_placed s.uses) (implicit_text s.implicit ++ map declared s.declarations) in
    let inner = second_counted (implicit_text s.implicit) (map declared s.declarations) in
    omega (arith, own, outer, inner)

-- ---- a source

abbrev pub end_text : Main → Text
end_text m = contains_text m.procedures ++ unit_end word.Program true (program_name m.opening) (is_filled m.procedures) m.end ∷ []

main_among : (m : Main) → sum_by declared_terminals m.section.declarations + sum_by statement_terminals m.body
    ≤ counted (main_text m)
main_among m =
    let section = section_among m.section in
    let body = statements_among m.body in_main in
    let whole = counted_append (program_text m.opening) (section_text m.section ++ (statements_text m.body in_main ++ end_text m))
    in
    let most = counted_append (section_text m.section) (statements_text m.body in_main ++ end_text m) in
    let last = counted_append (statements_text m.body in_main) (end_text m) in
    omega (arith, section, body, whole, most, last)

source_among : (s : Source) → terminals_in s ≤ counted (source_text s)
source_among s =
    let main = main_among s.main in
    let whole = second_counted (modules_text s.modules) (main_text s.main) in
    omega (arith, main, whole)

-- the terminals of a source are among those of the forms that nest to it
nested_among : (forms : List Lined) (s : Source) → Nests forms s → terminals_in s ≤ terminal_count forms
nested_among forms s n = subst (λ fs. terminals_in s ≤ terminal_count fs) n.printed (source_among s)

abbrev pub TerminalsWithin : Type 0
TerminalsWithin = (bytes : List ℕ) (forms : List Lined) (feeds : ℕ) → HasForms bytes forms feeds → terminal_count forms ≤ 2
    * length bytes

pub size_within : TerminalsWithin → (bytes : List ℕ) (s : Source) (u : unit.Unit) → ReadsSource bytes s → size_of u ≤ terminals_in s
    → IsWithin u bytes
size_within within bytes s u r few =
    let among = nested_among r.forms s r.nests in
    let most = within bytes r.forms r.feeds r.has in
    omega (arith, few, among, most)
