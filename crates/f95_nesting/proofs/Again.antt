-- What is printed is read again: the statements of a body.
use Rattle.std.proofs.Common.{◌≡◌, true, List, [], ◌∷◌, ◌++◌, map, Option, Some, None, sym, ◌∙◌, ap, subst, refl}
use Rattle.std.proofs.Common.{append_assoc, append-nil}
use Rattle.std.specs.Prelude.{◌&&◌, option_map}
use Rattle.a95_base.specs.Lists.{Every}
use Rattle.a95_base.specs.declared.source.Line.{Line}
use Rattle.std.proofs.lemmas.Bool.{and_parts}
use Rattle.f95_tree.specs.Forms.{Word}
use Rattle.f95_tree.specs.declared.terminal.UnitWord.{UnitWord}
use Rattle.f95_tree.specs.declared.action.Action.{Action}
use Rattle.f95_tree.specs.declared.expression.Expression.{Expression}
use Rattle.f95_tree.specs.declared.form.Form.{Form}
use Rattle.f95_tree.specs.declared.form.Form.TheVariants as of
use Rattle.f95_tree.specs.declared.form.BlockForm.TheVariants as block_of
use Rattle.f95_tree.specs.declared.form.Control.{Control}
use Rattle.f95_tree.specs.declared.source.Ending.{Ending}
use Rattle.f95_tree.specs.declared.source.Statement.{Statement}
use Rattle.f95_tree.specs.declared.source.Statement.TheVariants as statement
use Rattle.f95_tree.specs.declared.source.Branch.{Branch}
use Rattle.f95_tree.specs.declared.source.Otherwise.{Otherwise}
use Rattle.f95_nesting.specs.declared.open.Block.TheVariants as block
use Rattle.f95_nesting.specs.declared.open.IfHead.{IfHead}
use Rattle.f95_nesting.specs.declared.open.BranchHead.{BranchHead}
use Rattle.f95_nesting.specs.declared.open.Frame.{Frame}
use Rattle.f95_nesting.specs.declared.open.Inner.TheVariants as inner
use Rattle.f95_nesting.specs.declared.open.Body.{Body}
use Rattle.f95_nesting.specs.Lists.{is_absent}
use Rattle.f95_nesting.specs.Placed.{Placed, Text, Context, deeper, inside_do, action_stands, ordinary, opening, parting, block_end}
use Rattle.f95_nesting.specs.Placed.{parts_text, last_part_text, statement_text, statements_text, branch_text, otherwise_text}
use Rattle.f95_nesting.specs.Nesting.{Lined, bare, forms_of, all_stand}
use Rattle.f95_nesting.specs.Machine.{context, only_if, body, more, open_block, body_move, ending, if_head, branch_head, branch_of}
use Rattle.f95_nesting.specs.Machine.{otherwise_of, if_block}
use Rattle.f95_nesting.proofs.Texts.{text-Action, text-If, text-IfBlock, text-Do, text-Branch, text-Otherwise}
use Rattle.f95_nesting.proofs.Complete.{run_body}

-- a run over a text leads from one to the other
pub record Reads (c : Context) (o : Option Body) (t : Text) (r : Option Body) : Type 0 where
  pub goes : (rest : List Lined) → run_body c o (forms_of t ++ rest) ≡ run_body c r rest

pub forms_append : (t u : Text) → forms_of (t ++ u) ≡ forms_of t ++ forms_of u
forms_append [] u = refl
forms_append (p ∷ t) u = ap (λ z. bare p ∷ z) (forms_append t u)

pub all_both : (t u : Text) → all_stand (t ++ u) ≡ true → (all_stand t ≡ true) × (all_stand u ≡ true)
all_both [] u h = (refl, h)
all_both (p ∷ t) u h = let a = and_parts p.stands (all_stand (t ++ u)) h in let b = all_both t u a.1 in
    (ap (λ x. x && all_stand t) a.0 ∙ b.0, b.1)

pub nothing : (c : Context) (o : Option Body) → Reads c o [] o
nothing c o = record { goes = λ rest. refl }

pub one : (c : Context) (b : Body) (p : Placed) (r : Option Body) → body_move c b p.line p.form ≡ r → Reads c (Some b) (p ∷ []) r
one c b p r is = record { goes = λ rest. ap (λ o. run_body c o rest) is }

pub first : (c : Context) (b : Body) (p : Placed) (q : Option Body) (t : Text) (r : Option Body) → body_move c b p.line p.form ≡ q →
    Reads c q t r → Reads c (Some b) (p ∷ t) r
first c b p q t r is h = record { goes = λ rest. ap (λ o. run_body c o (forms_of t ++ rest)) is ∙ h.goes rest }

pub after : (c : Context) (o q r : Option Body) (t u : Text) → Reads c o t q → Reads c q u r → Reads c o (t ++ u) r
after c o q r t u h g = record {
  goes = λ rest.
      ap (run_body c o) (ap (λ z. z ++ rest) (forms_append t u) ∙ append_assoc (forms_of t) (forms_of u) rest)
      ∙ h.goes (forms_of u ++ rest) ∙ g.goes rest;
}

pub to : (c : Context) (o q r : Option Body) (t : Text) → q ≡ r → Reads c o t q → Reads c o t r
to c o q r t is h = subst (λ z. Reads c o t z) is h

-- the same text, written otherwise
pub rewritten : (c : Context) (o r : Option Body) (t u : Text) → t ≡ u → (all_stand u ≡ true → Reads c o u r) → all_stand t ≡ true →
    Reads c o t r
rewritten c o r t u is h s = subst (λ z. Reads c o z r) (sym is) (h (sym (ap all_stand is) ∙ s))

abbrev pub firsts : {A : Type 0} (S : A → Type 0) → List ((x : A) × S x) → List A
firsts {A} S xs = map (λ (p : (x : A) × S x). p.0) xs

ending_at : (l : Line) (w : Option UnitWord) (n : Option Word) → is_absent w ≡ true → ending l None n ≡ ending l w n
ending_at l None n h = refl
ending_at l (Some w) n h = absurd (cc)

pub ending_is : (e : Ending) → is_absent e.word ≡ true → ending e.line None e.name ≡ e
ending_is e h = ending_at e.line e.word e.name h

-- ---- statements

abbrev pub ReadsStatement : Statement → Type 0
ReadsStatement x = (c : Context) (fs : List Frame) (done : List Statement) → all_stand (statement_text x (context c fs)) ≡ true →
    Reads c (Some (body fs (inner.Statements done))) (statement_text x (context c fs)) (Some (more fs done x))

abbrev pub ReadsStatements : List Statement → Type 0
ReadsStatements xs = (c : Context) (fs : List Frame) (done : List Statement) → all_stand (statements_text xs (context c fs)) ≡ true
    →
    Reads c (Some (body fs (inner.Statements done))) (statements_text xs (context c fs))
    (Some (body fs (inner.Statements (done ++ xs))))

pub every_read : (xs : List Statement) → Every ReadsStatement xs → ReadsStatements xs
every_read [] h c fs done s = to c _ _ _ [] (ap (λ z. Some (body fs (inner.Statements z))) (sym (append-nil done)))
    (nothing c (Some (body fs (inner.Statements done))))
every_read (x ∷ xs) h c fs done s =
    let a = all_both (statement_text x (context c fs)) (statements_text xs (context c fs)) s in
    after c _ (Some (more fs done x)) _ (statement_text x (context c fs)) (statements_text xs (context c fs)) (h.0 c fs done a.0)
    (to c _ _ _ (statements_text xs (context c fs)) (ap (λ z. Some (body fs (inner.Statements z))) (append_assoc done (x ∷ []) xs))
    (every_read xs h.1 c fs (done ++ x ∷ []) a.1))

-- one statement that stands by itself
alone : (c : Context) (fs : List Frame) (done : List Statement) (x : Statement) (l : Line) (f : Form) (a : Action) →
    body_move c (body fs (inner.Statements done)) l f ≡ only_if (action_stands (context c fs) a) (more fs done x) →
    statement_text x (context c fs) ≡ ordinary (context c fs) l f a ∷ [] → all_stand (statement_text x (context c fs)) ≡ true →
    Reads c (Some (body fs (inner.Statements done))) (statement_text x (context c fs)) (Some (more fs done x))
alone c fs done x l f a moves is = rewritten c _ _ _ _ is (λ s.
    one c (body fs (inner.Statements done)) (ordinary (context c fs) l f a) (Some (more fs done x))
    (moves ∙ ap (λ b. only_if b (more fs done x)) (and_parts (action_stands (context c fs) a) true s).0))

pub read_action : (l : Line) (a : Action) → ReadsStatement (statement.Action l a)
read_action l a c fs done = alone c fs done (statement.Action l a) l (of.Action a) a refl
    (ap (λ (t : Context → Text). t (context c fs)) (text-Action l a))

pub read_if : (l : Line) (e : Expression) (a : Action) → ReadsStatement (statement.If l e a)
read_if l e a c fs done = alone c fs done (statement.If l e a) l (of.If e a) a refl
    (ap (λ (t : Context → Text). t (context c fs)) (text-If l e a))

pub read_do : (l : Line) (n : Option Word) (k : Control) (xs : List Statement) (e : Ending) → Every ReadsStatement xs →
    ReadsStatement (statement.Do l n k xs e)
read_do l n k xs e h c fs done =
    let d = context c fs in let f : Frame = record { before = done; block = block.Do (record { line = l; name = n; control = k }) }
    in
    let t = statements_text xs (inside_do n d) in let q = block_end block_of.EndDo n d e in
    rewritten c _ _ _ _ (ap (λ (z : Context → Text). z d) (text-Do l n k xs e)) (λ s.
    let a = all_both t (q ∷ []) s in
    first c (body fs (inner.Statements done)) (opening l (block_of.Do n k) d) (Some (body (f ∷ fs) (inner.Statements []))) _ _ refl
    (after c _ (Some (body (f ∷ fs) (inner.Statements xs))) _ t (q ∷ []) (every_read xs h c (f ∷ fs) [] a.0)
    (one c (body (f ∷ fs) (inner.Statements xs)) q (Some (more fs done (statement.Do l n k xs e)))
    (ap (λ z. Some (more fs done (statement.Do l n k xs z))) (ending_is e (and_parts (is_absent e.word) true a.1).0)))))

-- ---- IF

-- an IF block with these parts so far
pub record InIf (c : Context) (fs : List Frame) (before : List Statement) (h : IfHead) (main : List Statement) (bs : List Branch)
    (b : Body) : Type 0 where
  pub on_else_if : (l : Line) (e : Expression) (n : Option Word) → body_move c b l (of.Block (block_of.ElseIf e n))
      ≡ Some (open_block fs before (block.ElseIf h main bs (branch_head l e n)))
  pub on_else : (l : Line) (n : Option Word) → body_move c b l (of.Block (block_of.Else n))
      ≡ Some (open_block fs before (block.Else h main bs l n))
  pub on_end : (l : Line) (n : Option Word) → body_move c b l (of.Block (block_of.EndIf n))
      ≡ Some (more fs before (if_block h main bs None l n))

pub record InParts (c : Context) (fs : List Frame) (before : List Statement) (h : IfHead) (main : List Statement) (bs : List Branch)
    (b : Body) (t : Text) : Type 0 where
  pub next : Body
  pub inside : InIf c fs before h main bs next
  pub reads : Reads c (Some b) t (Some next)

-- with what is its last part
pub record InLast (c : Context) (fs : List Frame) (before : List Statement) (h : IfHead) (main : List Statement) (bs : List Branch)
    (o : Option Otherwise) (b : Body) (t : Text) : Type 0 where
  pub next : Body
  pub on_end : (l : Line) (n : Option Word) → body_move c next l (of.Block (block_of.EndIf n))
      ≡ Some (more fs before (if_block h main bs o l n))
  pub reads : Reads c (Some b) t (Some next)

abbrev pub ReadsBranch : Branch → Type 0
ReadsBranch x = (c : Context) (fs : List Frame) (before : List Statement) (h : IfHead) (main : List Statement) (bs : List Branch)
    (b : Body) →
    InIf c fs before h main bs b → all_stand (branch_text x h.name (deeper (context c fs))) ≡ true →
    InParts c fs before h main (bs ++ x ∷ []) b (branch_text x h.name (deeper (context c fs)))

abbrev pub ReadsOtherwise : Otherwise → Type 0
ReadsOtherwise x = (c : Context) (fs : List Frame) (before : List Statement) (h : IfHead) (main : List Statement) (bs : List Branch)
    (b : Body) →
    InIf c fs before h main bs b → all_stand (otherwise_text x h.name (deeper (context c fs))) ≡ true →
    InLast c fs before h main bs (Some x) b (otherwise_text x h.name (deeper (context c fs)))

pub read_branch : (k : BranchHead) (xs : List Statement) → Every ReadsStatement xs → ReadsBranch (branch_of k xs)
read_branch k xs every c fs before h main bs b i s =
    let d = deeper (context c fs) in let p = parting k.line (block_of.ElseIf k.condition k.name) k.name h.name d true in
    let f : Frame = record { before = before; block = block.ElseIf h main bs k } in
    record {
      next = body (f ∷ fs) (inner.Statements xs);
      inside = record { on_else_if = λ l e n. refl; on_else = λ l n. refl; on_end = λ l n. refl };
      reads = rewritten c (Some b) (Some (body (f ∷ fs) (inner.Statements xs))) _ _ (text-Branch k xs h.name d) (λ s.
          first c b p (Some (body (f ∷ fs) (inner.Statements []))) _ _ (i.on_else_if k.line k.condition k.name)
          (every_read xs every c (f ∷ fs) [] s)) s;
    }

pub read_otherwise : (l : Line) (n : Option Word) (xs : List Statement) → Every ReadsStatement xs →
    ReadsOtherwise (otherwise_of l n xs)
read_otherwise l n xs every c fs before h main bs b i s =
    let d = deeper (context c fs) in let p = parting l (block_of.Else n) n h.name d true in
    let f : Frame = record { before = before; block = block.Else h main bs l n } in
    record {
      next = body (f ∷ fs) (inner.Statements xs);
      on_end = λ k m. refl;
      reads = rewritten c (Some b) (Some (body (f ∷ fs) (inner.Statements xs))) _ _ (text-Otherwise l n xs h.name d) (λ s.
          first c b p (Some (body (f ∷ fs) (inner.Statements []))) _ _ (i.on_else l n) (every_read xs every c (f ∷ fs) [] s)) s;
    }

every_branch : (xs : List Branch) → Every ReadsBranch xs → (c : Context) (fs : List Frame) (before : List Statement) (h : IfHead)
    (main : List Statement) (bs : List Branch) (b : Body) →
    InIf c fs before h main bs b → all_stand (parts_text (map branch_text xs) h.name (deeper (context c fs))) ≡ true →
    InParts c fs before h main (bs ++ xs) b (parts_text (map branch_text xs) h.name (deeper (context c fs)))
every_branch [] every c fs before h main bs b i s =
    record { next = b; inside = subst (λ z. InIf c fs before h main z b) (sym (append-nil bs)) i; reads = nothing c (Some b) }
every_branch (x ∷ xs) every c fs before h main bs b i s =
    let d = deeper (context c fs) in
    let a = all_both (branch_text x h.name d) (parts_text (map branch_text xs) h.name d) s in
    let p = every.0 c fs before h main bs b i a.0 in
    let q = every_branch xs every.1 c fs before h main (bs ++ x ∷ []) p.next p.inside a.1 in
    record {
      next = q.next;
      inside = subst (λ z. InIf c fs before h main z q.next) (append_assoc bs (x ∷ []) xs) q.inside;
      reads = after c (Some b) (Some p.next) (Some q.next) _ _ p.reads q.reads;
    }

abbrev pub Maybe : {A : Type 0} → (A → Type 0) → Option A → Type 0
Maybe S None = Unit {0}
Maybe S (Some x) = S x

last_read : (o : Option Otherwise) → Maybe ReadsOtherwise o →
    (c : Context) (fs : List Frame) (before : List Statement) (h : IfHead) (main : List Statement) (bs : List Branch) (b : Body) →
    InIf c fs before h main bs b → all_stand (last_part_text (option_map otherwise_text o) h.name (deeper (context c fs))) ≡ true →
    InLast c fs before h main bs o b (last_part_text (option_map otherwise_text o) h.name (deeper (context c fs)))
last_read None m c fs before h main bs b i s = record { next = b; on_end = i.on_end; reads = nothing c (Some b) }
last_read (Some x) m c fs before h main bs b i s = m c fs before h main bs b i s

pub read_if_block : (l : Line) (n : Option Word) (e : Expression) (xs : List Statement) (bs : List Branch) (o : Option Otherwise)
    (end : Ending) →
    Every ReadsStatement xs → Every ReadsBranch bs → Maybe ReadsOtherwise o → ReadsStatement (statement.IfBlock l n e xs bs o end)
read_if_block l n e xs bs o end hx hb ho c fs done =
    let d = context c fs in let h = if_head l n e in let f : Frame = record { before = done; block = block.If h } in
    let tx = statements_text xs (deeper d) in let tb = parts_text (map branch_text bs) n (deeper d) in let tl =
    last_part_text (option_map otherwise_text o) n (deeper d) in
    let q = block_end block_of.EndIf n d end in
    rewritten c _ _ _ _ (ap (λ (z : Context → Text). z d) (text-IfBlock l n e xs bs o end)) (λ s.
    let ax = all_both tx (tb ++ (tl ++ q ∷ [])) s in let ab = all_both tb (tl ++ q ∷ []) ax.1 in let ao =
    all_both tl (q ∷ []) ab.1 in
    let b0 = body (f ∷ fs) (inner.Statements xs) in
    let pb = every_branch bs hb c fs done h xs [] b0
    (record { on_else_if = λ l e n. refl; on_else = λ l n. refl; on_end = λ l n. refl }) ab.0 in
    let po = last_read o ho c fs done h xs bs pb.next pb.inside ao.0 in
    first c (body fs (inner.Statements done)) (opening l (block_of.If n e) d) (Some (body (f ∷ fs) (inner.Statements []))) _ _ refl
    (after c _ (Some b0) _ tx (tb ++ (tl ++ q ∷ [])) (every_read xs hx c (f ∷ fs) [] ax.0)
    (after c _ (Some pb.next) _ tb (tl ++ q ∷ []) pb.reads
    (after c _ (Some po.next) _ tl (q ∷ []) po.reads
    (one c po.next q (Some (more fs done (statement.IfBlock l n e xs bs o end)))
    (po.on_end end.line end.name ∙ ap (λ z. Some (more fs done (statement.IfBlock l n e xs bs o z)))
    (ending_is end (and_parts (is_absent end.word) true ao.1).0)))))))
