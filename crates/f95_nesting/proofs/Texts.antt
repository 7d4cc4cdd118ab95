-- The text of each kind of node, and of lists with one item more.
use Rattle.std.proofs.Common.{◌≡◌, ℕ, Bool, true, false, ◌&&◌, ◌||◌, List, [], ◌∷◌, ◌++◌, map, Option, Some, None, sym, ◌∙◌, ap}
use Rattle.std.proofs.Common.{refl, append_assoc, append-nil}
use Rattle.std.specs.Prelude.{option_map, not}
use Rattle.a95_base.specs.declared.source.Line.{Line}
use Rattle.f95_tree.specs.Forms.{Word}
use Rattle.f95_tree.specs.declared.action.Action.{Action}
use Rattle.f95_tree.specs.declared.action.Action.TheVariants as act
use Rattle.f95_tree.specs.declared.action.Header.{Header}
use Rattle.f95_tree.specs.declared.action.Assignment.{Assignment}
use Rattle.f95_tree.specs.declared.expression.Expression.{Expression}
use Rattle.f95_tree.specs.declared.form.Form.TheVariants as of
use Rattle.f95_tree.specs.declared.form.BlockForm.TheVariants as block_of
use Rattle.f95_tree.specs.declared.form.Control.{Control}
use Rattle.f95_tree.specs.declared.source.Ending.{Ending}
use Rattle.f95_tree.specs.declared.source.Module.{Module}
use Rattle.f95_tree.specs.declared.source.Subprogram.{Subprogram}
use Rattle.f95_tree.specs.declared.source.Statement.{Statement}
use Rattle.f95_tree.specs.declared.source.Statement.TheVariants as statement
use Rattle.f95_tree.specs.declared.source.Statement.TheOpen as layer
use Rattle.f95_tree.specs.declared.source.Statement.TheFolds.{fold-roll-Statement, fold-roll-Branch, fold-roll-Case}
use Rattle.f95_tree.specs.declared.source.Statement.TheFolds.{fold-roll-Otherwise}
use Rattle.f95_tree.specs.declared.source.Branch.{Branch}
use Rattle.f95_tree.specs.declared.source.Case.{Case}
use Rattle.f95_tree.specs.declared.source.Otherwise.{Otherwise}
use Rattle.f95_tree.specs.declared.source.WhereStatement.{WhereStatement}
use Rattle.f95_tree.specs.declared.source.WhereStatement.TheVariants as where_statement
use Rattle.f95_tree.specs.declared.source.WhereStatement.TheOpen as where_layer
use Rattle.f95_tree.specs.declared.source.WhereStatement.TheFolds.{fold-roll-WhereStatement, fold-roll-ElseWhere}
use Rattle.f95_tree.specs.declared.source.WhereStatement.TheFolds.{fold-roll-WhereBlock}
use Rattle.f95_tree.specs.declared.source.WhereBlock.{WhereBlock}
use Rattle.f95_tree.specs.declared.source.ElseWhere.{ElseWhere}
use Rattle.f95_nesting.specs.declared.open.BranchHead.{BranchHead}
use Rattle.f95_nesting.specs.declared.open.CaseHead.{CaseHead}
use Rattle.f95_nesting.specs.Lists.{is_absent}
use Rattle.f95_nesting.specs.Placed.{Placed, placed, Text, together, Context, Body, Part, Other, Range, parts_text, ranges_text}
use Rattle.f95_nesting.specs.Placed.{others_text, assignments_text, parting, case_form, branch_at, otherwise_at, case_at}
use Rattle.f95_nesting.specs.Placed.{statement_at, statement_text, branch_text, case_range, otherwise_text, statements_text}
use Rattle.f95_nesting.specs.Placed.{where_statement_at, elsewhere_at, where_block_at, where_statement_text, elsewhere_other}
use Rattle.f95_nesting.specs.Placed.{where_block_text, subprogram_text, subprograms_text, module_text, modules_text}
use Rattle.f95_nesting.specs.Machine.{branch_of, otherwise_of, case_of, elsewhere_of, where_block, seen_after}

-- ---- lists with one item more

pub map_snoc : {A B : Type 0} (f : A → B) (xs : List A) (x : A) → map f (xs ++ x ∷ []) ≡ map f xs ++ f x ∷ []
map_snoc f [] x = refl
map_snoc f (y ∷ xs) x = ap (λ t. f y ∷ t) (map_snoc f xs x)

pub together_snoc : {C : Type 0} (xs : List (C → Text)) (x : C → Text) (c : C) → together (xs ++ x ∷ []) c ≡ together xs c ++ x c
together_snoc [] x c = append-nil (x c)
together_snoc (y ∷ xs) x c = ap (λ t. y c ++ t) (together_snoc xs x c) ∙ sym (append_assoc (y c) (together xs c) (x c))

pub parts_snoc : (ps : List Part) (p : Part) (n : Option Word) (c : Context) → parts_text (ps ++ p ∷ []) n c ≡ parts_text ps n c
    ++ p n c
parts_snoc [] p n c = append-nil (p n c)
parts_snoc (q ∷ ps) p n c = ap (λ t. q n c ++ t) (parts_snoc ps p n c) ∙ sym (append_assoc (q n c) (parts_text ps n c) (p n c))

pub ranges_snoc : (rs : List Range) (r : Range) (n : Option Word) (seen : Bool) (c : Context) →
    ranges_text (rs ++ r ∷ []) n seen c ≡ ranges_text rs n seen c ++ r.text n (seen_after seen rs) c
ranges_snoc [] r n seen c = append-nil (r.text n seen c)
ranges_snoc (q ∷ rs) r n seen c = ap (λ t. q.text n seen c ++ t) (ranges_snoc rs r n (seen || q.default) c)
    ∙ sym (append_assoc (q.text n seen c) (ranges_text rs n (seen || q.default) c) (r.text n (seen_after (seen || q.default) rs) c))

-- whether the last one has no mask
abbrev pub last_unmasked : Bool → List Other → Bool
last_unmasked after [] = after
last_unmasked after (o ∷ os) = last_unmasked o.unmasked os

pub last_snoc : (os : List Other) (o : Other) (after : Bool) → last_unmasked after (os ++ o ∷ []) ≡ o.unmasked
last_snoc [] o after = refl
last_snoc (q ∷ os) o after = last_snoc os o q.unmasked

pub others_snoc : (os : List Other) (o : Other) (after : Bool) (d : ℕ) → others_text after (os ++ o ∷ []) d ≡ others_text after os d
    ++ o.text (last_unmasked after os) d
others_snoc [] o after d = append-nil (o.text after d)
others_snoc (q ∷ os) o after d = ap (λ t. q.text after d ++ t) (others_snoc os o q.unmasked d)
    ∙ sym (append_assoc (q.text after d) (others_text q.unmasked os d) (o.text (last_unmasked q.unmasked os) d))

pub assignments_snoc : (xs : List (Line × Assignment)) (x : Line × Assignment) (d : ℕ) →
    assignments_text (xs ++ x ∷ []) d ≡ assignments_text xs d ++ placed x.0 (of.Action (act.Assignment x.1)) false d true ∷ []
assignments_snoc [] x d = refl
assignments_snoc (y ∷ xs) x d = ap (λ t. placed y.0 (of.Action (act.Assignment y.1)) false d true ∷ t) (assignments_snoc xs x d)

pub subprograms_snoc : (ps : List Subprogram) (p : Subprogram) → subprograms_text (ps ++ p ∷ []) ≡ subprograms_text ps
    ++ subprogram_text p
subprograms_snoc [] p = append-nil (subprogram_text p)
subprograms_snoc (q ∷ ps) p = ap (λ t. subprogram_text q ++ t) (subprograms_snoc ps p)
    ∙ sym (append_assoc (subprogram_text q) (subprograms_text ps) (subprogram_text p))

pub modules_snoc : (ms : List Module) (m : Module) → modules_text (ms ++ m ∷ []) ≡ modules_text ms ++ module_text m
modules_snoc [] m = append-nil (module_text m)
modules_snoc (n ∷ ms) m = ap (λ t. module_text n ++ t) (modules_snoc ms m)
    ∙ sym (append_assoc (module_text n) (modules_text ms) (module_text m))

-- ---- statements

pub text-Action : (l : Line) (a : Action) → statement_text (statement.Action l a) ≡ statement_at (layer.Action l a)
text-Action l a = ap statement_text (sym (statement.rolls-Action l a))
    ∙ fold-roll-Statement Body Part Range Part statement_at branch_at case_at otherwise_at (layer.Action l a)

pub text-If : (l : Line) (e : Expression) (a : Action) → statement_text (statement.If l e a) ≡ statement_at (layer.If l e a)
text-If l e a = ap statement_text (sym (statement.rolls-If l e a))
    ∙ fold-roll-Statement Body Part Range Part statement_at branch_at case_at otherwise_at (layer.If l e a)

pub text-IfBlock : (l : Line) (n : Option Word) (e : Expression) (xs : List Statement) (bs : List Branch) (o : Option Otherwise)
    (end : Ending) →
    statement_text (statement.IfBlock l n e xs bs o end) ≡ statement_at
    (layer.IfBlock l n e (map statement_text xs) (map branch_text bs) (option_map otherwise_text o) end)
text-IfBlock l n e xs bs None end = ap statement_text (sym (statement.rolls-IfBlock l n e xs bs None end))
    ∙ fold-roll-Statement Body Part Range Part statement_at branch_at case_at otherwise_at (layer.IfBlock l n e xs bs None end)
text-IfBlock l n e xs bs (Some o) end = ap statement_text (sym (statement.rolls-IfBlock l n e xs bs (Some o) end))
    ∙ fold-roll-Statement Body Part Range Part statement_at branch_at case_at otherwise_at (layer.IfBlock l n e xs bs (Some o) end)

pub text-Select : (l : Line) (n : Option Word) (e : Expression) (ks : List Case) (end : Ending) →
    statement_text (statement.Select l n e ks end) ≡ statement_at (layer.Select l n e (map case_range ks) end)
text-Select l n e ks end = ap statement_text (sym (statement.rolls-Select l n e ks end))
    ∙ fold-roll-Statement Body Part Range Part statement_at branch_at case_at otherwise_at (layer.Select l n e ks end)

pub text-Do : (l : Line) (n : Option Word) (k : Control) (xs : List Statement) (end : Ending) →
    statement_text (statement.Do l n k xs end) ≡ statement_at (layer.Do l n k (map statement_text xs) end)
text-Do l n k xs end = ap statement_text (sym (statement.rolls-Do l n k xs end))
    ∙ fold-roll-Statement Body Part Range Part statement_at branch_at case_at otherwise_at (layer.Do l n k xs end)

pub text-Where : (b : WhereBlock) → statement_text (statement.Where b) ≡ statement_at (layer.Where b)
text-Where b = ap statement_text (sym (statement.rolls-Where b))
    ∙ fold-roll-Statement Body Part Range Part statement_at branch_at case_at otherwise_at (layer.Where b)

pub text-Forall : (l : Line) (h : Header) (xs : List (Line × Assignment)) (end : Line) →
    statement_text (statement.Forall l h xs end) ≡ statement_at (layer.Forall l h xs end)
text-Forall l h xs end = ap statement_text (sym (statement.rolls-Forall l h xs end))
    ∙ fold-roll-Statement Body Part Range Part statement_at branch_at case_at otherwise_at (layer.Forall l h xs end)

pub text-Branch : (k : BranchHead) (xs : List Statement) (n : Option Word) (c : Context) →
    branch_text (branch_of k xs) n c ≡ parting k.line (block_of.ElseIf k.condition k.name) k.name n c true ∷ statements_text xs c
text-Branch k xs n c = ap (λ (p : Part). p n c) (fold-roll-Branch Body Part Range Part statement_at branch_at case_at otherwise_at
    (record { line = k.line; condition = k.condition; name = k.name; body = xs }))

pub text-Otherwise : (l : Line) (own : Option Word) (xs : List Statement) (n : Option Word) (c : Context) →
    otherwise_text (otherwise_of l own xs) n c ≡ parting l (block_of.Else own) own n c true ∷ statements_text xs c
text-Otherwise l own xs n c =
    ap (λ (p : Part). p n c) (fold-roll-Otherwise Body Part Range Part statement_at branch_at case_at otherwise_at
    (record { line = l; name = own; body = xs }))

pub range-Case : (k : CaseHead) (xs : List Statement) →
    case_range (case_of k xs) ≡ case_at (record { line = k.line; ranges = k.ranges; name = k.name; body = map statement_text xs })
range-Case k xs = fold-roll-Case Body Part Range Part statement_at branch_at case_at otherwise_at
    (record { line = k.line; ranges = k.ranges; name = k.name; body = xs })

pub statements_snoc : (xs : List Statement) (x : Statement) (c : Context) → statements_text (xs ++ x ∷ []) c ≡ statements_text xs c
    ++ statement_text x c
statements_snoc xs x c = ap (λ (t : List Body). together t c) (map_snoc statement_text xs x)
    ∙ together_snoc (map statement_text xs) (statement_text x) c

pub branches_snoc : (bs : List Branch) (k : BranchHead) (xs : List Statement) (n : Option Word) (c : Context) →
    parts_text (map branch_text (bs ++ branch_of k xs ∷ [])) n c
    ≡ parts_text (map branch_text bs) n c ++ parting k.line (block_of.ElseIf k.condition k.name) k.name n c true
    ∷ statements_text xs c
branches_snoc bs k xs n c = ap (λ (t : List Part). parts_text t n c) (map_snoc branch_text bs (branch_of k xs))
    ∙ parts_snoc (map branch_text bs) (branch_text (branch_of k xs)) n c
    ∙ ap (λ t. parts_text (map branch_text bs) n c ++ t) (text-Branch k xs n c)

-- the CASE behind these
abbrev pub case_placed : List Case → CaseHead → Option Word → Context → Placed
case_placed ks k n c = parting k.line (case_form k.ranges k.name) k.name n c
    (not (is_absent k.ranges && seen_after false (map case_range ks)))

pub cases_snoc : (ks : List Case) (k : CaseHead) (xs : List Statement) (n : Option Word) (c : Context) →
    ranges_text (map case_range (ks ++ case_of k xs ∷ [])) n false c ≡ ranges_text (map case_range ks) n false c
    ++ case_placed ks k n c ∷ statements_text xs c
cases_snoc ks k xs n c = ap (λ (t : List Range). ranges_text t n false c) (map_snoc case_range ks (case_of k xs))
    ∙ ranges_snoc (map case_range ks) (case_range (case_of k xs)) n false c
    ∙ ap (λ (r : Range). ranges_text (map case_range ks) n false c ++ r.text n (seen_after false (map case_range ks)) c)
    (range-Case k xs)

-- ---- WHERE

pub where_text-Assignment : (l : Line) (a : Assignment) → where_statement_text (where_statement.Assignment l a)
    ≡ where_statement_at (where_layer.Assignment l a)
where_text-Assignment l a = ap where_statement_text (sym (where_statement.rolls-Assignment l a))
    ∙ fold-roll-WhereStatement (ℕ → Text) Other (ℕ → Text) where_statement_at elsewhere_at where_block_at
    (where_layer.Assignment l a)

pub where_text-Where : (l : Line) (m : Expression) (a : Assignment) → where_statement_text (where_statement.Where l m a)
    ≡ where_statement_at (where_layer.Where l m a)
where_text-Where l m a = ap where_statement_text (sym (where_statement.rolls-Where l m a))
    ∙ fold-roll-WhereStatement (ℕ → Text) Other (ℕ → Text) where_statement_at elsewhere_at where_block_at (where_layer.Where l m a)

pub where_text-Block : (b : WhereBlock) → where_statement_text (where_statement.Block b) ≡ where_block_text b
where_text-Block b = ap where_statement_text (sym (where_statement.rolls-Block b))
    ∙ fold-roll-WhereStatement (ℕ → Text) Other (ℕ → Text) where_statement_at elsewhere_at where_block_at (where_layer.Block b)

pub other-ElseWhere : (l : Line) (m : Option Expression) (xs : List WhereStatement) →
    elsewhere_other (elsewhere_of l m xs) ≡ elsewhere_at (record { line = l; mask = m; body = map where_statement_text xs })
other-ElseWhere l m xs = fold-roll-ElseWhere (ℕ → Text) Other (ℕ → Text) where_statement_at elsewhere_at where_block_at
    (record { line = l; mask = m; body = xs })

pub text-WhereBlock : (l : Line) (m : Expression) (xs : List WhereStatement) (os : List ElseWhere) (end : Line) →
    where_block_text (where_block l m xs os end)
    ≡ where_block_at (record { line = l; mask = m; body = map where_statement_text xs; others = map elsewhere_other os; end = end })
text-WhereBlock l m xs os end = fold-roll-WhereBlock (ℕ → Text) Other (ℕ → Text) where_statement_at elsewhere_at where_block_at
    (record { line = l; mask = m; body = xs; others = os; end = end })

abbrev pub where_statements_text : List WhereStatement → ℕ → Text
where_statements_text xs d = together (map where_statement_text xs) d

pub where_statements_snoc : (xs : List WhereStatement) (x : WhereStatement) (d : ℕ) →
    where_statements_text (xs ++ x ∷ []) d ≡ where_statements_text xs d ++ where_statement_text x d
where_statements_snoc xs x d = ap (λ (t : List (ℕ → Text)). together t d) (map_snoc where_statement_text xs x)
    ∙ together_snoc (map where_statement_text xs) (where_statement_text x) d

-- the ELSEWHERE behind these
abbrev pub elsewhere_placed : List ElseWhere → Line → Option Expression → ℕ → Placed
elsewhere_placed os l m d = placed l (of.Block (block_of.ElseWhere m)) false d (not (last_unmasked false (map elsewhere_other os)))

pub elsewheres_snoc : (os : List ElseWhere) (l : Line) (m : Option Expression) (xs : List WhereStatement) (d : ℕ) →
    others_text false (map elsewhere_other (os ++ elsewhere_of l m xs ∷ [])) d
    ≡ others_text false (map elsewhere_other os) d ++ elsewhere_placed os l m d ∷ where_statements_text xs d
elsewheres_snoc os l m xs d = ap (λ (t : List Other). others_text false t d) (map_snoc elsewhere_other os (elsewhere_of l m xs))
    ∙ others_snoc (map elsewhere_other os) (elsewhere_other (elsewhere_of l m xs)) false d
    ∙ ap (λ (o : Other). others_text false (map elsewhere_other os) d ++ o.text (last_unmasked false (map elsewhere_other os)) d)
    (other-ElseWhere l m xs)

pub elsewheres_last : (os : List ElseWhere) (l : Line) (m : Option Expression) (xs : List WhereStatement) →
    last_unmasked false (map elsewhere_other (os ++ elsewhere_of l m xs ∷ [])) ≡ is_absent m
elsewheres_last os l m xs = ap (λ (t : List Other). last_unmasked false t) (map_snoc elsewhere_other os (elsewhere_of l m xs))
    ∙ last_snoc (map elsewhere_other os) (elsewhere_other (elsewhere_of l m xs)) false
    ∙ ap (λ (o : Other). o.unmasked) (other-ElseWhere l m xs)
