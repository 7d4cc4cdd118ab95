-- What is printed is read again: CASE, FORALL and WHERE, and with them all statements.
use Rattle.std.proofs.Common.{◌≡◌, ℕ, suc, Bool, true, false, List, [], ◌∷◌, ◌++◌, map, Option, Some, None, sym, ◌∙◌, ap, subst}
use Rattle.std.proofs.Common.{refl, append_assoc, append-nil}
use Rattle.std.specs.Prelude.{not, ◌&&◌, ◌||◌}
use Rattle.a95_base.specs.Lists.{Every}
use Rattle.f95_tree.specs.declared.source.Statement.TheOpen.{Statement-F}
use Rattle.f95_tree.specs.declared.source.Statement.TheOpen as layer
use Rattle.f95_tree.specs.declared.source.Statement.TheFolds.{ind-Statement, map-Statement}
use Rattle.f95_tree.specs.declared.source.WhereStatement.TheOpen.{WhereStatement-F}
use Rattle.f95_tree.specs.declared.source.WhereStatement.TheOpen as where_layer
use Rattle.f95_tree.specs.declared.source.WhereStatement.TheFolds.{ind-WhereBlock, map-WhereStatement}
use Rattle.a95_base.specs.declared.source.Line.{Line}
use Rattle.std.proofs.lemmas.Bool.{and_parts, not-true}
use Rattle.a95_base.proofs.Lists.{every_inside}
use Rattle.f95_tree.specs.Forms.{Word}
use Rattle.f95_tree.specs.declared.action.Action.TheVariants as act
use Rattle.f95_tree.specs.declared.action.Header.{Header}
use Rattle.f95_tree.specs.declared.action.Assignment.{Assignment}
use Rattle.f95_tree.specs.declared.expression.Expression.{Expression}
use Rattle.f95_tree.specs.declared.form.Form.TheVariants as of
use Rattle.f95_tree.specs.declared.form.BlockForm.TheVariants as block_of
use Rattle.f95_tree.specs.declared.form.CaseRange.{CaseRange}
use Rattle.f95_tree.specs.declared.source.Ending.{Ending}
use Rattle.f95_tree.specs.declared.source.Statement.{Statement, roll-Statement}
use Rattle.f95_tree.specs.declared.source.Statement.TheVariants as statement
use Rattle.f95_tree.specs.declared.source.Branch.{Branch, roll-Branch}
use Rattle.f95_tree.specs.declared.source.Case.{Case, roll-Case}
use Rattle.f95_tree.specs.declared.source.Otherwise.{Otherwise, roll-Otherwise}
use Rattle.f95_tree.specs.declared.source.WhereStatement.{WhereStatement, roll-WhereStatement}
use Rattle.f95_tree.specs.declared.source.WhereStatement.TheVariants as where_statement
use Rattle.f95_tree.specs.declared.source.WhereBlock.{WhereBlock, roll-WhereBlock}
use Rattle.f95_tree.specs.declared.source.ElseWhere.{ElseWhere, roll-ElseWhere}
use Rattle.f95_nesting.specs.declared.open.Block.TheVariants as block
use Rattle.f95_nesting.specs.declared.open.SelectHead.{SelectHead}
use Rattle.f95_nesting.specs.declared.open.CaseHead.{CaseHead}
use Rattle.f95_nesting.specs.declared.open.Frame.{Frame}
use Rattle.f95_nesting.specs.declared.open.WherePart.{WherePart}
use Rattle.f95_nesting.specs.declared.open.WherePart.TheVariants as part
use Rattle.f95_nesting.specs.declared.open.WhereFrame.{WhereFrame}
use Rattle.f95_nesting.specs.declared.open.Inner.TheVariants as inner
use Rattle.f95_nesting.specs.declared.open.Body.{Body}
use Rattle.f95_nesting.specs.Lists.{is_absent}
use Rattle.f95_nesting.specs.Placed.{placed, Text, Context, deeper, opening, parting, case_form, block_end, Range, Other}
use Rattle.f95_nesting.specs.Placed.{ranges_text, others_text, assignments_text, statements_text, case_range, where_statement_text}
use Rattle.f95_nesting.specs.Placed.{elsewhere_other, where_block_text}
use Rattle.f95_nesting.specs.Nesting.{all_stand}
use Rattle.f95_nesting.specs.Machine.{context, deep, only_if, body, more, open_block, body_move, branch_head, select_head}
use Rattle.f95_nesting.specs.Machine.{case_head, case_of, select_block, has_default, seen_after, next_case, where_frame, in_where}
use Rattle.f95_nesting.specs.Machine.{end_where, more_where, elsewhere_of, where_block, parted_where}
use Rattle.f95_nesting.proofs.Texts.{last_unmasked, last_snoc, elsewheres_last, where_statements_text, map_snoc, text-Select}
use Rattle.f95_nesting.proofs.Texts.{text-Where, text-Forall, range-Case, where_text-Assignment, where_text-Where, where_text-Block}
use Rattle.f95_nesting.proofs.Texts.{other-ElseWhere, text-WhereBlock}
use Rattle.f95_nesting.proofs.Again.{Reads, all_both, nothing, one, first, after, to, rewritten, firsts}
use Rattle.f95_nesting.proofs.Again.{ending_is, ReadsStatement, ReadsStatements, ReadsBranch, ReadsOtherwise, every_read}
use Rattle.f95_nesting.proofs.Again.{read_action, read_if, read_do, read_branch, read_otherwise, read_if_block}

-- ---- SELECT CASE

seen_snoc : (rs : List Range) (r : Range) (seen : Bool) → seen_after seen (rs ++ r ∷ []) ≡ (seen_after seen rs || r.default)
seen_snoc [] r seen = refl
seen_snoc (q ∷ rs) r seen = seen_snoc rs r (seen || q.default)

default_snoc : (ks : List Case) (k : Case) → has_default (ks ++ k ∷ []) ≡ (has_default ks || (case_range k).default)
default_snoc ks k = ap (λ (z : List Range). seen_after false z) (map_snoc case_range ks k)
    ∙ seen_snoc (map case_range ks) (case_range k) false

-- a SELECT block with these CASEs so far
record InSelect (c : Context) (fs : List Frame) (before : List Statement) (h : SelectHead) (ks : List Case) (b : Body) : Type 0
  where
    pub on_case : (l : Line) (ranges : Option (List CaseRange)) (n : Option Word) → body_move c b l (of.Block (case_form ranges n))
        ≡ next_case fs before h ks (case_head l ranges n)
    pub on_end : (l : Line) (n : Option Word) → body_move c b l (of.Block (block_of.EndSelect n))
        ≡ Some (more fs before (select_block h ks l n))

record InCases (c : Context) (fs : List Frame) (before : List Statement) (h : SelectHead) (ks : List Case) (b : Body)
    (t : Text) : Type 0 where
  pub next : Body
  pub inside : InSelect c fs before h ks next
  pub reads : Reads c (Some b) t (Some next)

abbrev ReadsCase : Case → Type 0
ReadsCase x = (c : Context) (fs : List Frame) (before : List Statement) (h : SelectHead) (ks : List Case) (b : Body) →
    InSelect c fs before h ks b → all_stand ((case_range x).text h.name (has_default ks) (deeper (context c fs))) ≡ true →
    InCases c fs before h (ks ++ x ∷ []) b ((case_range x).text h.name (has_default ks) (deeper (context c fs)))

case_on : (c : Context) (fs : List Frame) (before : List Statement) (h : SelectHead) (ks : List Case) (k : CaseHead)
    (xs : List Statement)
    (l : Line) (ranges : Option (List CaseRange)) (n : Option Word) →
    body_move c (body (record { before = before; block = block.Case h ks k } ∷ fs) (inner.Statements xs)) l
    (of.Block (case_form ranges n)) ≡ next_case fs before h (ks ++ case_of k xs ∷ []) (case_head l ranges n)
case_on c fs before h ks k xs l None n = refl
case_on c fs before h ks k xs l (Some ranges) n = refl

select_on : (c : Context) (fs : List Frame) (before : List Statement) (h : SelectHead) (l : Line) (ranges : Option (List CaseRange))
    (n : Option Word) →
    body_move c (body fs (inner.Select before h)) l (of.Block (case_form ranges n))
    ≡ next_case fs before h [] (case_head l ranges n)
select_on c fs before h l None n = refl
select_on c fs before h l (Some ranges) n = refl

read_case : (k : CaseHead) (xs : List Statement) → Every ReadsStatement xs → ReadsCase (case_of k xs)
read_case k xs every c fs before h ks b i s =
    let d = deeper (context c fs) in let seen = has_default ks in let st = not (is_absent k.ranges && seen) in
    let p = parting k.line (case_form k.ranges k.name) k.name h.name d st in
    let f : Frame = record { before = before; block = block.Case h ks k } in
    record {
      next = body (f ∷ fs) (inner.Statements xs);
      inside = record { on_case = case_on c fs before h ks k xs; on_end = λ l n. refl };
      reads = rewritten c (Some b) (Some (body (f ∷ fs) (inner.Statements xs))) _ _
          (ap (λ (r : Range). r.text h.name seen d) (range-Case k xs)) (λ s.
          let a = and_parts st (all_stand (statements_text xs d)) s in
          first c b p (Some (body (f ∷ fs) (inner.Statements []))) _ _
          (i.on_case k.line k.ranges k.name ∙ ap (λ z. only_if z (open_block fs before (block.Case h ks k))) a.0)
          (every_read xs every c (f ∷ fs) [] a.1)) s;
    }

every_case : (xs : List Case) → Every ReadsCase xs → (c : Context) (fs : List Frame) (before : List Statement) (h : SelectHead)
    (ks : List Case) (b : Body) (seen : Bool) → has_default ks ≡ seen →
    InSelect c fs before h ks b → all_stand (ranges_text (map case_range xs) h.name seen (deeper (context c fs))) ≡ true →
    InCases c fs before h (ks ++ xs) b (ranges_text (map case_range xs) h.name seen (deeper (context c fs)))
every_case [] every c fs before h ks b seen is i s =
    record { next = b; inside = subst (λ z. InSelect c fs before h z b) (sym (append-nil ks)) i; reads = nothing c (Some b) }
every_case (x ∷ xs) every c fs before h ks b seen is i s =
    let d = deeper (context c fs) in let r = case_range x in
    let a = all_both (r.text h.name seen d) (ranges_text (map case_range xs) h.name (seen || r.default) d) s in
    let p = every.0 c fs before h ks b i (ap (λ z. all_stand (r.text h.name z d)) is ∙ a.0) in
    let q = every_case xs every.1 c fs before h (ks ++ x ∷ []) p.next (seen || r.default)
    (default_snoc ks x ∙ ap (λ z. z || r.default) is) p.inside a.1 in
    record {
      next = q.next;
      inside = subst (λ z. InSelect c fs before h z q.next) (append_assoc ks (x ∷ []) xs) q.inside;
      reads = after c (Some b) (Some p.next) (Some q.next) _ _
          (subst (λ z. Reads c (Some b) (r.text h.name z d) (Some p.next)) is p.reads) q.reads;
    }

read_select : (l : Line) (n : Option Word) (e : Expression) (ks : List Case) (end : Ending) → Every ReadsCase ks →
    ReadsStatement (statement.Select l n e ks end)
read_select l n e ks end every c fs done =
    let d = context c fs in let h = select_head l n e in let t = ranges_text (map case_range ks) n false (deeper d) in let q =
    block_end block_of.EndSelect n d end in
    rewritten c _ _ _ _ (ap (λ (z : Context → Text). z d) (text-Select l n e ks end)) (λ s.
    let a = all_both t (q ∷ []) s in let b0 = body fs (inner.Select done h) in
    let p = every_case ks every c fs done h [] b0 false refl (record { on_case = select_on c fs done h; on_end = λ l n. refl }) a.0
    in
    first c (body fs (inner.Statements done)) (opening l (block_of.Select n e) d) (Some b0) _ _ refl
    (after c _ (Some p.next) _ t (q ∷ []) p.reads
    (one c p.next q (Some (more fs done (statement.Select l n e ks end)))
    (p.inside.on_end end.line end.name ∙ ap (λ z. Some (more fs done (statement.Select l n e ks z)))
    (ending_is end (and_parts (is_absent end.word) true a.1).0)))))

-- ---- FORALL

every_assignment : (xs : List (Line × Assignment)) (c : Context) (fs : List Frame) (before : List Statement) (k : Line) (h : Header)
    (done : List (Line × Assignment)) →
    Reads c (Some (body fs (inner.Forall before k h done))) (assignments_text xs (suc (context c fs).blocks))
    (Some (body fs (inner.Forall before k h (done ++ xs))))
every_assignment [] c fs before k h done =
    to c _ _ _ [] (ap (λ z. Some (body fs (inner.Forall before k h z))) (sym (append-nil done))) (nothing c _)
every_assignment (x ∷ xs) c fs before k h done =
    first c (body fs (inner.Forall before k h done))
    (placed x.0 (of.Action (act.Assignment x.1)) false (suc (context c fs).blocks) true)
    (Some (body fs (inner.Forall before k h (done ++ x ∷ [])))) _ _ refl
    (to c _ _ _ (assignments_text xs (suc (context c fs).blocks))
    (ap (λ z. Some (body fs (inner.Forall before k h z))) (append_assoc done (x ∷ []) xs))
    (every_assignment xs c fs before k h (done ++ x ∷ [])))

read_forall : (l : Line) (h : Header) (xs : List (Line × Assignment)) (end : Line) → ReadsStatement (statement.Forall l h xs end)
read_forall l h xs end c fs done =
    let d = context c fs in let q = placed end (of.Block block_of.EndForall) false (suc d.blocks) true in
    rewritten c _ _ _ _ (ap (λ (z : Context → Text). z d) (text-Forall l h xs end)) (λ s.
    first c (body fs (inner.Statements done)) (opening l (block_of.Forall h) d) (Some (body fs (inner.Forall done l h []))) _ _ refl
    (after c _ (Some (body fs (inner.Forall done l h xs))) _ (assignments_text xs (suc d.blocks)) (q ∷ [])
    (every_assignment xs c fs done l h [])
    (one c (body fs (inner.Forall done l h xs)) q (Some (more fs done (statement.Forall l h xs end))) refl)))

-- ---- WHERE

-- how many blocks the statements of the innermost WHERE stand in
abbrev at_where : Context → List Frame → List WhereFrame → ℕ
at_where c fs ws = suc (deep (context c fs).blocks ws)

abbrev ReadsWhereStatement : WhereStatement → Type 0
ReadsWhereStatement x = (c : Context) (fs : List Frame) (before : List Statement) (ws : List WhereFrame) (w : WhereFrame) →
    all_stand (where_statement_text x (at_where c fs ws)) ≡ true →
    Reads c (Some (in_where fs before ws w)) (where_statement_text x (at_where c fs ws))
    (Some (in_where fs before ws (more_where w x)))

every_where : (xs : List WhereStatement) → Every ReadsWhereStatement xs →
    (c : Context) (fs : List Frame) (before : List Statement) (ws : List WhereFrame) (l : Line) (m : Expression) (p : WherePart)
    (done : List WhereStatement) →
    all_stand (where_statements_text xs (at_where c fs ws)) ≡ true →
    Reads c (Some (in_where fs before ws (where_frame l m p done))) (where_statements_text xs (at_where c fs ws))
    (Some (in_where fs before ws (where_frame l m p (done ++ xs))))
every_where [] every c fs before ws l m p done s = to c _ _ _ []
    (ap (λ z. Some (in_where fs before ws (where_frame l m p z))) (sym (append-nil done))) (nothing c _)
every_where (x ∷ xs) every c fs before ws l m p done s =
    let d = at_where c fs ws in
    let a = all_both (where_statement_text x d) (where_statements_text xs d) s in
    after c _ (Some (in_where fs before ws (where_frame l m p (done ++ x ∷ [])))) _ (where_statement_text x d)
    (where_statements_text xs d) (every.0 c fs before ws (where_frame l m p done) a.0)
    (to c _ _ _ (where_statements_text xs d)
    (ap (λ z. Some (in_where fs before ws (where_frame l m p z))) (append_assoc done (x ∷ []) xs))
    (every_where xs every.1 c fs before ws l m p (done ++ x ∷ []) a.1))

-- a WHERE block with these parts so far
record InWhere (c : Context) (fs : List Frame) (before : List Statement) (ws : List WhereFrame) (l : Line) (m : Expression)
    (main : List WhereStatement) (os : List ElseWhere) (b : Body) : Type 0 where
  pub on_else : (k : Line) (n : Option Expression) → last_unmasked false (map elsewhere_other os) ≡ false →
      body_move c b k (of.Block (block_of.ElseWhere n)) ≡ Some
      (in_where fs before ws (where_frame l m (part.Behind main os k n) []))
  pub on_end : (k : Line) → body_move c b k (of.Block block_of.EndWhere) ≡ Some (end_where fs before ws (where_block l m main os k))

record InOthers (c : Context) (fs : List Frame) (before : List Statement) (ws : List WhereFrame) (l : Line) (m : Expression)
    (main : List WhereStatement) (os : List ElseWhere) (b : Body) (t : Text) : Type 0 where
  pub next : Body
  pub inside : InWhere c fs before ws l m main os next
  pub reads : Reads c (Some b) t (Some next)

abbrev ReadsElseWhere : ElseWhere → Type 0
ReadsElseWhere x = (c : Context) (fs : List Frame) (before : List Statement) (ws : List WhereFrame) (l : Line) (m : Expression)
    (main : List WhereStatement) (os : List ElseWhere) (b : Body) →
    InWhere c fs before ws l m main os b →
    all_stand ((elsewhere_other x).text (last_unmasked false (map elsewhere_other os)) (at_where c fs ws)) ≡ true →
    InOthers c fs before ws l m main (os ++ x ∷ []) b
    ((elsewhere_other x).text (last_unmasked false (map elsewhere_other os)) (at_where c fs ws))

not_false : (b : Bool) → b ≡ false → not b ≡ true
not_false false h = refl
not_false true h = absurd (cc)

read_elsewhere : (k : Line) (n : Option Expression) (xs : List WhereStatement) → Every ReadsWhereStatement xs →
    ReadsElseWhere (elsewhere_of k n xs)
read_elsewhere k n xs every c fs before ws l m main os b i s =
    let d = at_where c fs ws in let last = last_unmasked false (map elsewhere_other os) in
    let p = placed k (of.Block (block_of.ElseWhere n)) false d (not last) in
    let v = where_frame l m (part.Behind main os k n) xs in
    record {
      next = in_where fs before ws v;
      inside = record {
        on_else = λ j o h. ap (λ z. parted_where fs before ws v (only_if z (part.Behind main (os ++ elsewhere_of k n xs ∷ []) j o)))
            (not_false (is_absent n) (sym (elsewheres_last os k n xs) ∙ h));
        on_end = λ j. refl;
      };
      reads = rewritten c (Some b) (Some (in_where fs before ws v)) _ _ (ap (λ (o : Other). o.text last d) (other-ElseWhere k n xs))
          (λ s.
          let a = and_parts (not last) (all_stand (where_statements_text xs d)) s in
          first c b p (Some (in_where fs before ws (where_frame l m (part.Behind main os k n) []))) _ _
          (i.on_else k n (not-true last a.0))
          (every_where xs every c fs before ws l m (part.Behind main os k n) [] a.1)) s;
    }

every_other : (xs : List ElseWhere) → Every ReadsElseWhere xs →
    (c : Context) (fs : List Frame) (before : List Statement) (ws : List WhereFrame) (l : Line) (m : Expression)
    (main : List WhereStatement) (os : List ElseWhere) (b : Body)
    (last : Bool) → last_unmasked false (map elsewhere_other os) ≡ last →
    InWhere c fs before ws l m main os b → all_stand (others_text last (map elsewhere_other xs) (at_where c fs ws)) ≡ true →
    InOthers c fs before ws l m main (os ++ xs) b (others_text last (map elsewhere_other xs) (at_where c fs ws))
every_other [] every c fs before ws l m main os b last is i s =
    record {
      next = b;
      inside = subst (λ z. InWhere c fs before ws l m main z b) (sym (append-nil os)) i;
      reads =
          nothing c (Some b);
    }
every_other (x ∷ xs) every c fs before ws l m main os b last is i s =
    let d = at_where c fs ws in let o = elsewhere_other x in
    let a = all_both (o.text last d) (others_text o.unmasked (map elsewhere_other xs) d) s in
    let p = every.0 c fs before ws l m main os b i (ap (λ z. all_stand (o.text z d)) is ∙ a.0) in
    let q = every_other xs every.1 c fs before ws l m main (os ++ x ∷ []) p.next o.unmasked
    (ap (λ (z : List Other). last_unmasked false z) (map_snoc elsewhere_other os x) ∙ last_snoc (map elsewhere_other os) o false)
    p.inside a.1 in
    record {
      next = q.next;
      inside = subst (λ z. InWhere c fs before ws l m main z q.next) (append_assoc os (x ∷ []) xs) q.inside;
      reads = after c (Some b) (Some p.next) (Some q.next) _ _ (subst (λ z. Reads c (Some b) (o.text z d) (Some p.next)) is p.reads)
          q.reads;
    }

-- behind a statement that may open it
abbrev ReadsWhereBlock : WhereBlock → Type 0
ReadsWhereBlock x = (c : Context) (fs : List Frame) (before : List Statement) (ws : List WhereFrame) (b : Body) →
    ((l : Line) (m : Expression) → body_move c b l (of.Block (block_of.Where m))
    ≡ Some (in_where fs before ws (where_frame l m part.First []))) →
    all_stand (where_block_text x (deep (context c fs).blocks ws)) ≡ true →
    Reads c (Some b) (where_block_text x (deep (context c fs).blocks ws)) (Some (end_where fs before ws x))

read_where_block : (l : Line) (m : Expression) (xs : List WhereStatement) (os : List ElseWhere) (end : Line) →
    Every ReadsWhereStatement xs → Every ReadsElseWhere os → ReadsWhereBlock (where_block l m xs os end)
read_where_block l m xs os end hx ho c fs before ws b opens =
    let d = deep (context c fs).blocks ws in let tx = where_statements_text xs (suc d) in let tl =
    others_text false (map elsewhere_other os) (suc d) in
    let q = placed end (of.Block block_of.EndWhere) false (suc d) true in
    rewritten c _ _ _ _ (ap (λ (z : ℕ → Text). z d) (text-WhereBlock l m xs os end)) (λ s.
    let ax = all_both tx (tl ++ q ∷ []) s in let ao = all_both tl (q ∷ []) ax.1 in
    let b0 = in_where fs before ws (where_frame l m part.First xs) in
    let p = every_other os ho c fs before ws l m xs [] b0 false refl (record { on_else = λ k n h. refl; on_end = λ k. refl }) ao.0
    in
    first c b (placed l (of.Block (block_of.Where m)) false (suc d) true)
    (Some (in_where fs before ws (where_frame l m part.First []))) _ _ (opens l m)
    (after c _ (Some b0) _ tx (tl ++ q ∷ []) (every_where xs hx c fs before ws l m part.First [] ax.0)
    (after c _ (Some p.next) _ tl (q ∷ []) p.reads
    (one c p.next q (Some (end_where fs before ws (where_block l m xs os end))) (p.inside.on_end end)))))

read_where_assignment : (l : Line) (a : Assignment) → ReadsWhereStatement (where_statement.Assignment l a)
read_where_assignment l a c fs before ws w = rewritten c _ _ _ _
    (ap (λ (z : ℕ → Text). z (at_where c fs ws)) (where_text-Assignment l a)) (λ s.
    one c (in_where fs before ws w) (placed l (of.Action (act.Assignment a)) false (at_where c fs ws) true) _ refl)

read_where_where : (l : Line) (m : Expression) (a : Assignment) → ReadsWhereStatement (where_statement.Where l m a)
read_where_where l m a c fs before ws w = rewritten c _ _ _ _ (ap (λ (z : ℕ → Text). z (at_where c fs ws)) (where_text-Where l m a))
    (λ s.
    one c (in_where fs before ws w) (placed l (of.Action (act.Where m a)) false (at_where c fs ws) true) _ refl)

read_inner_where : (b : WhereBlock) → ReadsWhereBlock b → ReadsWhereStatement (where_statement.Block b)
read_inner_where b h c fs before ws w = rewritten c _ _ _ _ (ap (λ (z : ℕ → Text). z (at_where c fs ws)) (where_text-Block b)) (λ s.
    h c fs before (w ∷ ws) (in_where fs before ws w) (λ l m. refl) s)

read_where : (b : WhereBlock) → ReadsWhereBlock b → ReadsStatement (statement.Where b)
read_where b h c fs done = rewritten c _ _ _ _ (ap (λ (z : Context → Text). z (context c fs)) (text-Where b)) (λ s.
    h c fs done [] (body fs (inner.Statements done)) (λ l m. refl) s)

-- ---- all of them

abbrev WhereInside : Type 0
WhereInside = (x : WhereStatement) × ReadsWhereStatement x

abbrev ElseInside : Type 0
ElseInside = (x : ElseWhere) × ReadsElseWhere x

abbrev BlockInside : Type 0
BlockInside = (x : WhereBlock) × ReadsWhereBlock x

where_layer_reads : (y : WhereStatement-F WhereInside ElseInside BlockInside) →
    ReadsWhereStatement
    (roll-WhereStatement
    (map-WhereStatement WhereInside ElseInside BlockInside WhereStatement ElseWhere WhereBlock (λ p. p.0) (λ p. p.0) (λ p. p.0)
    y))
where_layer_reads (where_layer.Assignment l a) = subst ReadsWhereStatement (sym (where_statement.rolls-Assignment l a))
    (read_where_assignment l a)
where_layer_reads (where_layer.Where l m a) = subst ReadsWhereStatement (sym (where_statement.rolls-Where l m a))
    (read_where_where l m a)
where_layer_reads (where_layer.Block b) = subst ReadsWhereStatement (sym (where_statement.rolls-Block b.0))
    (read_inner_where b.0 b.1)

every_where_block : (b : WhereBlock) → ReadsWhereBlock b
every_where_block = ind-WhereBlock ReadsWhereStatement ReadsElseWhere ReadsWhereBlock
    (λ x y is. subst (λ z. ReadsWhereStatement (roll-WhereStatement z)) is (where_layer_reads y))
    (λ x y is. subst (λ z. ReadsElseWhere (roll-ElseWhere z)) is
    (read_elsewhere y.line y.mask (firsts ReadsWhereStatement y.body) (every_inside ReadsWhereStatement y.body)))
    (λ x y is. subst (λ z. ReadsWhereBlock (roll-WhereBlock z)) is
    (read_where_block y.line y.mask (firsts ReadsWhereStatement y.body) (firsts ReadsElseWhere y.others) y.end
    (every_inside ReadsWhereStatement y.body) (every_inside ReadsElseWhere y.others)))

abbrev StatementInside : Type 0
StatementInside = (x : Statement) × ReadsStatement x

abbrev BranchInside : Type 0
BranchInside = (x : Branch) × ReadsBranch x

abbrev CaseInside : Type 0
CaseInside = (x : Case) × ReadsCase x

abbrev OtherwiseInside : Type 0
OtherwiseInside = (x : Otherwise) × ReadsOtherwise x

layer_reads : (y : Statement-F StatementInside BranchInside CaseInside OtherwiseInside) →
    ReadsStatement
    (roll-Statement
    (map-Statement StatementInside BranchInside CaseInside OtherwiseInside Statement Branch Case Otherwise (λ p. p.0) (λ p. p.0)
    (λ p. p.0) (λ p. p.0) y))
layer_reads (layer.Action l a) = subst ReadsStatement (sym (statement.rolls-Action l a)) (read_action l a)
layer_reads (layer.If l e a) = subst ReadsStatement (sym (statement.rolls-If l e a)) (read_if l e a)
layer_reads (layer.IfBlock l n e xs bs None end) = subst ReadsStatement
    (sym (statement.rolls-IfBlock l n e (firsts ReadsStatement xs) (firsts ReadsBranch bs) None end))
    (read_if_block l n e (firsts ReadsStatement xs) (firsts ReadsBranch bs) None end (every_inside ReadsStatement xs)
    (every_inside ReadsBranch bs) tt)
layer_reads (layer.IfBlock l n e xs bs (Some o) end) = subst ReadsStatement
    (sym (statement.rolls-IfBlock l n e (firsts ReadsStatement xs) (firsts ReadsBranch bs) (Some o.0) end))
    (read_if_block l n e (firsts ReadsStatement xs) (firsts ReadsBranch bs) (Some o.0) end (every_inside ReadsStatement xs)
    (every_inside ReadsBranch bs) o.1)
layer_reads (layer.Select l n e ks end) = subst ReadsStatement (sym (statement.rolls-Select l n e (firsts ReadsCase ks) end))
    (read_select l n e (firsts ReadsCase ks) end (every_inside ReadsCase ks))
layer_reads (layer.Do l n k xs end) = subst ReadsStatement (sym (statement.rolls-Do l n k (firsts ReadsStatement xs) end))
    (read_do l n k (firsts ReadsStatement xs) end (every_inside ReadsStatement xs))
layer_reads (layer.Where b) = subst ReadsStatement (sym (statement.rolls-Where b)) (read_where b (every_where_block b))
layer_reads (layer.Forall l h xs end) = subst ReadsStatement (sym (statement.rolls-Forall l h xs end)) (read_forall l h xs end)

pub read_statement : (x : Statement) → ReadsStatement x
read_statement = ind-Statement ReadsStatement ReadsBranch ReadsCase ReadsOtherwise
    (λ x y is. subst (λ z. ReadsStatement (roll-Statement z)) is (layer_reads y))
    (λ x y is. subst (λ z. ReadsBranch (roll-Branch z)) is
    (read_branch (branch_head y.line y.condition y.name) (firsts ReadsStatement y.body) (every_inside ReadsStatement y.body)))
    (λ x y is. subst (λ z. ReadsCase (roll-Case z)) is
    (read_case (case_head y.line y.ranges y.name) (firsts ReadsStatement y.body) (every_inside ReadsStatement y.body)))
    (λ x y is. subst (λ z. ReadsOtherwise (roll-Otherwise z)) is
    (read_otherwise y.line y.name (firsts ReadsStatement y.body) (every_inside ReadsStatement y.body)))

each_reads : (xs : List Statement) → Every ReadsStatement xs
each_reads [] = tt
each_reads (x ∷ xs) = (read_statement x, each_reads xs)

-- the statements of a body are read again
pub read_statements : (xs : List Statement) → ReadsStatements xs
read_statements xs = every_read xs (each_reads xs)
