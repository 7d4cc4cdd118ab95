-- What statements become fits, and so does the whole unit: what is lowered is sound.
use Rattle.std.proofs.Common.{◌≡◌, refl, ap, subst, ◌∙◌, ℕ, suc, pos, ◌+◌, ◌^◌, ◌≤◌, arith, Bool, true, false, List, []}
use Rattle.std.proofs.Common.{◌∷◌, ◌++◌}
use Rattle.std.specs.Prelude.{Option, Some, None, ◌&&◌, ◌||◌, is_some, length, map, max, slice_get}
use Rattle.std.specs.List.{list_all}
use Rattle.std.proofs.Math.Nat.{le-max_left, le-max_right}
use Rattle.a95_base.specs.declared.scalar.Kind.{Kind}
use Rattle.a95_base.specs.declared.scalar.Kind.TheVariants as kind
use Rattle.a95_base.specs.declared.scalar.Scalar.TheVariants as scalar
use Rattle.a95_base.specs.Lists.{Every}
use Rattle.nest_tree.proofs.Sorts.{serves_itself}
use Rattle.f95_unit.specs.declared.operation.BinaryOp.TheVariants as binary
use Rattle.f95_unit.specs.declared.unit.DeclaredType.{DeclaredType}
use Rattle.f95_unit.specs.declared.unit.DeclaredType.TheVariants as declared
use Rattle.f95_unit.specs.declared.unit.Length.TheVariants as long
use Rattle.f95_unit.specs.Plain.{Expr, Designator, at, Whole, Subscripted, AllOf, BytesOf, Bound, Stmt, Assigns, Masks, ForAll}
use Rattle.f95_unit.specs.Plain.{Calls, Allocate}
use Rattle.f95_unit.specs.Plain.{Deallocate, Print, Read, If, Select, Do, While, Forever, Exit, Cycle, Return, Stop, Stmts, no_stmt}
use Rattle.f95_unit.specs.Plain.{stmt}
use Rattle.f95_unit.specs.Plain.{Branches, no_branch, branch, Cases, no_case, case, Entity, Program}
use Rattle.array_meaning.specs.Expressions.{facts_of}
use Rattle.array_meaning.specs.Run.{source_run}
use Rattle.nest_tree.specs.declared.access.Name.TheVariants as name
use Rattle.nest_tree.specs.declared.statement.Made.TheVariants as made
use Rattle.nest_tree.specs.declared.tree.Exact.TheVariants as exact
use Rattle.nest_tree.specs.declared.unit.Role.TheVariants as role
use Rattle.nest_tree.specs.declared.unit.Sort.{Sort}
use Rattle.nest_tree.specs.declared.unit.Sort.TheVariants as sort
use Rattle.nest_tree.specs.Plain as nest
use Rattle.nest_tree.specs.Plain.{Tree, Statements, no_statement, statement, joined, Literal, Fixed, Number, Binary}
use Rattle.nest_tree.specs.Plain.{Exactly, Wrapped, Set, Put}
use Rattle.nest_tree.specs.Sound as sound
use Rattle.nest_tree.specs.Sound.{Scope, some_serves, served_by, is_own_role, may_make, of_declared}
use Rattle.nest_tree.specs.Sound.{sort_of_name}
use Rattle.nest_tree.specs.Sound.{fits_spans, fits_blank, gives, FitsStatement, FitsAll, all_braces}
use Rattle.nest_tree.specs.Sound.{numbers_of, count_dummies}
use Rattle.nest_tree.specs.Sound.{has_own_length, has_own_rank, result_is_last, are_declared, FitsProcedure, Sound}
use Rattle.nest_tree.specs.Sound.{sort_of_scalar}
use Rattle.nest_tree.proofs.TurnsOfRuns.{does_not_stray}
use Rattle.control_lower.specs.Trees.{sort_of_expr, sort_of_kind, sort_at, Lowered, held, lowered}
use Rattle.control_lower.specs.Units.{LoweredList, store, stored, items, step_of, count_tree, counting, not_taken, taking}
use Rattle.control_lower.specs.Units.{in_ranges}
use Rattle.control_lower.specs.Units.{lowered_stmt, lowered_all, branches, cases, blank_for, make, makes, initial, initials}
use Rattle.control_lower.specs.Units.{declared_of}
use Rattle.control_lower.specs.Units.{main_list, procedure_with, lowered_unit, with_flag, first_then}
use Rattle.control_lower.specs.Limits.{entities_nodes, stmts_nodes, stmts_blocks, branches_blocks, cases_blocks}
use Rattle.control_lower.specs.Limits.{IsWithinLimits}
use Rattle.control_lower.specs.Laws.{LoweredIsSound}
use Rattle.control_lower.proofs.Premises.{IsScalar, IsStore, IsOf, IsBound, IsStmt, AreStmts, AreBranches, AreCases, IsInitial}
use Rattle.control_lower.proofs.Premises.{AreInitials, HasLength, IsOwnScalar, IsLowered, lowered_of, constants_of}
use Rattle.control_lower.proofs.Sizes.{Extends, extends_self, extends_then, extends_more, last_there, joined_nodes, joined_braces}
use Rattle.control_lower.proofs.Sizes.{expr_grows}
use Rattle.control_lower.proofs.SizesOfLists.{step_grows, items_grow, all_grow, branches_grow}
use Rattle.control_lower.proofs.SizesOfLists.{cases_grow, makes_nodes, makes_braces, initials_grow}
use Rattle.control_lower.proofs.Fits.{small_fits, fits_joined, entities, scope, IsHere, There, there_as}
use Rattle.control_lower.proofs.Fits.{name_sort, rank_there, HasSort, gives_log, set_fits}
use Rattle.control_lower.proofs.Fits.{exact_fits, binary_fits, Fits, IsTaken, held_fits, expr_fits, store_fits, ranges_fit}
use Rattle.control_lower.proofs.Fits.{not_taken_fits, FitsStep, step_fits}
use Rattle.control_lower.proofs.Whole.{does}

module _ (unit : Program) (list : LoweredList) (owns : Every IsOwnScalar unit.main.entities) where
  abbrev Here : ℕ → Sort → Type 0
  Here k s = IsHere unit list owns k s

  abbrev Taken : List Sort → Type 0
  Taken taken = IsTaken unit list owns taken

  abbrev at' : Scope
  at' = scope unit list owns

  abbrev vars : List Entity
  vars = entities unit list owns

  -- ---- stores and records

  pub stored_fits : (line : ℕ) (d : Designator) (e : Expr) (taken : List Sort) (depth : Option ℕ) → IsStore unit.constants vars d e
      → Taken (stored line d (lowered line taken e)).scalars → FitsAll at' depth (stored line d (lowered line taken e)).list
  stored_fits line (at n Whole AllOf) e taken depth h k =
      let g = expr_fits unit list owns line e h.1 taken k in
      fits_joined at' depth (lowered line taken e).parts (statement (store line n (lowered line taken e).tree) no_statement)
      (g.parts depth)
      (store_fits unit list owns line depth n (lowered line taken e).tree (sort_of_expr e) h.0 g.sorted, tt)
  stored_fits line (at n Whole (BytesOf first last)) e taken depth h k = absurd h
  stored_fits line (at n (Subscripted ss) part) e taken depth h k = absurd h

  put_by : (k : Kind) → (some_serves (Some (sort_of_kind k)) sort.Int || some_serves (Some (sort_of_kind k)) sort.Log ||
      some_serves (Some (sort_of_kind k)) sort.Text) ≡ true
  put_by kind.Int = refl
  put_by kind.Log = refl
  put_by kind.Text = refl

  put_fits : (t : Tree) (k : Kind) → HasSort unit list owns t (sort_of_kind k)
      → (gives at' t sort.Int || gives at' t sort.Log || gives at' t sort.Text) ≡ true
  put_fits t k h = ap (λ o. some_serves o sort.Int || some_serves o sort.Log || some_serves o sort.Text) h ∙ put_by k

  items_fit : (line : ℕ) (es : List Expr) → Every (λ e. IsScalar unit.constants vars e) es → (taken : List Sort) (depth : Option ℕ)
      → Taken (items line taken es).scalars → FitsAll at' depth (items line taken es).list
  unfolding items
  items_fit line [] h taken depth k = (tt, tt)
  items_fit line (e ∷ es) h taken depth k =
      let l : Lowered = lowered line taken e in
      let g = expr_fits unit list owns line e h.0 taken (extends_then l.scalars (items line l.scalars es).scalars list.scalars
      (items_grow line es l.scalars).kept k) in
      fits_joined at' depth l.parts (statement (Put line l.tree) (items line l.scalars es).list) (g.parts depth)
      (put_fits l.tree (facts_of e).kind g.sorted, items_fit line es h.1 l.scalars depth k)

  -- ---- DO

  module _ (line : ℕ) where
    do_fits : (depth j : ℕ) (first last : Expr) (step : Bound) (taken : List Sort) (body : List Sort → LoweredList)
        → sort_at vars j ≡ Some sort.Int → IsOf unit.constants vars sort.Int first → IsOf unit.constants vars sort.Int last
        → IsBound unit.constants vars step
        → ((more : List Sort) → Extends more (body more).scalars)
        → ((more : List Sort) → Taken (body more).scalars → FitsAll at' (Some (suc depth)) (body more).list)
        → Taken (first_then line j (lowered line taken first) (λ more. held line sort.Int (lowered line more last))
        (λ more. step_of line more step) body).scalars
        → FitsAll at' (Some depth) (first_then line j (lowered line taken first)
        (λ more. held line sort.Int (lowered line more last)) (λ more. step_of line more step) body).list
    do_fits depth j first last step taken body there hf hl hs grows fits k =
        let f0 : Lowered = lowered line taken first in
        let f : Lowered = held line sort.Exact f0 in
        let l0 : Lowered = lowered line f.scalars last in
        let l : Lowered = held line sort.Int l0 in
        let s : Lowered = step_of line l.scalars step in
        let counted : List Sort = s.scalars ++ sort.Exact ∷ [] in
        let inner : LoweredList = body counted in
        let value : ℕ = length f0.scalars in
        let count : ℕ = length s.scalars in
        let kc : Taken counted = extends_then counted inner.scalars list.scalars (grows counted) k in
        let ks : Taken s.scalars = extends_then s.scalars counted list.scalars (extends_more s.scalars sort.Exact) kc in
        let kl : Taken l.scalars = extends_then l.scalars s.scalars list.scalars (step_grows line step l.scalars).kept ks in
        let kl0 : Taken l0.scalars = extends_then l0.scalars l.scalars list.scalars (extends_more l0.scalars sort.Int) kl in
        let kf : Taken f.scalars = extends_then f.scalars l0.scalars list.scalars (expr_grows line last f.scalars).kept kl0 in
        let kf0 : Taken f0.scalars = extends_then f0.scalars f.scalars list.scalars (extends_more f0.scalars sort.Exact) kf in
        let gf0 = expr_fits unit list owns line first hf.1 taken kf0 in
        let gf : Fits unit list owns f sort.Exact = held_fits unit list owns line sort.Int sort.Exact f0
        (record { parts = gf0.parts; sorted = gf0.sorted ∙ ap Some hf.0 }) refl kf in
        let gl0 = expr_fits unit list owns line last hl.1 f.scalars kl0 in
        let gl : Fits unit list owns l sort.Int = held_fits unit list owns line sort.Int sort.Int l0
        (record { parts = gl0.parts; sorted = gl0.sorted ∙ ap Some hl.0 }) refl kl in
        let gs : FitsStep unit list owns line s = step_fits unit list owns line step hs l.scalars ks in
        let here : Here count sort.Exact = kc.there count sort.Exact (last_there s.scalars sort.Exact) in
        let minus : HasSort unit list owns (Exactly exact.Minus l.tree (Fixed value)) sort.Exact =
        exact_fits unit list owns exact.Minus l.tree (Fixed value) sort.Int sort.Exact gl.sorted gf.sorted refl refl in
        let plus : HasSort unit list owns (Exactly exact.Plus (Exactly exact.Minus l.tree (Fixed value)) s.tree) sort.Exact =
        exact_fits unit list owns exact.Plus (Exactly exact.Minus l.tree (Fixed value)) s.tree sort.Exact gs.step minus
        gs.sorted refl gs.exact in
        let over : HasSort unit list owns (Exactly exact.Over
        (Exactly exact.Plus (Exactly exact.Minus l.tree (Fixed value)) s.tree) s.tree) sort.Exact =
        exact_fits unit list owns exact.Over (Exactly exact.Plus (Exactly exact.Minus l.tree (Fixed value)) s.tree) s.tree
        sort.Exact gs.step plus gs.sorted refl gs.exact in
        let total : HasSort unit list owns (count_tree (Fixed value) l.tree s.tree) sort.Exact =
        exact_fits unit list owns exact.Most (Exactly exact.Over
        (Exactly exact.Plus (Exactly exact.Minus l.tree (Fixed value)) s.tree) s.tree) (Number (pos 0))
        sort.Exact sort.Exact over refl refl refl in
        let less : HasSort unit list owns (Exactly exact.Minus (Fixed count) (Number (pos 1))) sort.Exact =
        exact_fits unit list owns exact.Minus (Fixed count) (Number (pos 1)) sort.Exact sort.Exact here refl refl refl in
        let next : HasSort unit list owns (Exactly exact.Plus (Fixed value) s.tree) sort.Exact =
        exact_fits unit list owns exact.Plus (Fixed value) s.tree sort.Exact gs.step gf.sorted gs.sorted refl gs.exact in
        let below : HasSort unit list owns (Exactly exact.Below (Number (pos 0)) (Fixed count)) sort.Log =
        exact_fits unit list owns exact.Below (Number (pos 0)) (Fixed count) sort.Exact sort.Exact refl here refl refl in
        let wrapped : HasSort unit list owns (Wrapped (Fixed value)) sort.Int = ap
        (λ o. sound.sort_if (some_serves o sort.Exact) sort.Int) gf.sorted in
        let turns : FitsStatement at' (Some depth) (counting line j value count s.tree inner.list) = (
          (store_fits unit list owns line None j (Wrapped (Fixed value)) sort.Int there wrapped, tt),
          gives_log unit list owns (Exactly exact.Below (Number (pos 0)) (Fixed count)) below,
          (
            set_fits unit list owns count (Exactly exact.Minus (Fixed count) (Number (pos 1))) sort.Exact sort.Exact here less
                refl,
            (
              set_fits unit list owns value (Exactly exact.Plus (Fixed value) s.tree) sort.Exact sort.Exact gf.sorted next refl,
              fits counted k,
            ),
          ),
        ) in
        let tail : Statements = statement (Set line count (count_tree (Fixed value) l.tree s.tree))
        (statement (counting line j value count s.tree inner.list) no_statement) in
        let ft : FitsAll at' (Some depth) tail = (
          set_fits unit list owns count (count_tree (Fixed value) l.tree s.tree)
              sort.Exact sort.Exact here total refl,
          (turns, tt),
        ) in
        fits_joined at' (Some depth) f.parts (joined l.parts (joined s.parts tail)) (gf.parts (Some depth))
        (fits_joined at' (Some depth) l.parts (joined s.parts tail) (gl.parts (Some depth))
        (fits_joined at' (Some depth) s.parts tail (gs.parts (Some depth)) ft))

  -- ---- statements

  abbrev FitsIn : ℕ → LoweredList → Type 0
  FitsIn depth l = FitsAll at' (Some depth) l.list

  branches_kept : (around flag : ℕ) (bs : Branches) (otherwise : Stmts) (taken : List Sort)
      → Extends taken (branches around flag taken bs (λ later. lowered_all later otherwise)).scalars
  branches_kept around flag bs otherwise taken =
      (branches_grow around flag bs (λ later. lowered_all later otherwise) (stmts_nodes otherwise) (stmts_blocks otherwise)
      (max (branches_blocks bs) (stmts_blocks otherwise)) (le-max_left (branches_blocks bs) (stmts_blocks otherwise))
      (le-max_right (branches_blocks bs) (stmts_blocks otherwise)) (λ later. all_grow otherwise later) taken).kept

  cases_kept : (line : ℕ) (s : Sort) (sel flag : ℕ) (cs : Cases) (otherwise : Stmts) (taken : List Sort)
      → Extends taken (cases line s (Fixed sel) flag taken cs (λ later. lowered_all later otherwise)).scalars
  cases_kept line s sel flag cs otherwise taken =
      (cases_grow line s sel flag cs (λ later. lowered_all later otherwise) (stmts_nodes otherwise) (stmts_blocks otherwise)
      (max (cases_blocks cs) (stmts_blocks otherwise)) (le-max_left (cases_blocks cs) (stmts_blocks otherwise))
      (le-max_right (cases_blocks cs) (stmts_blocks otherwise)) (λ later. all_grow otherwise later) taken).kept

  mutual
    stmt_fits : (depth : ℕ) (s : Stmt) → IsStmt unit.constants vars depth s → (taken : List Sort)
        → Taken (lowered_stmt taken s).scalars
        → FitsIn depth (lowered_stmt taken s)
    stmt_fits depth (Assigns a) h taken k = stored_fits a.line a.target.designator a.value taken (Some depth) h k
    stmt_fits depth (Masks w) h taken k = absurd h
    stmt_fits depth (ForAll f) h taken k = absurd h
    stmt_fits depth (Calls line c) h taken k = absurd h
    stmt_fits depth (Allocate line objects) h taken k = absurd h
    stmt_fits depth (Deallocate line names) h taken k = absurd h
    stmt_fits depth (Print line es) h taken k = items_fit line es h taken (Some depth) k
    stmt_fits depth (Read line targets) h taken k = absurd h
    stmt_fits depth (If no_branch otherwise) h taken k = all_fit depth otherwise h.1 taken k
    stmt_fits depth (If (branch line e body no_branch) otherwise) h taken k =
        let l : Lowered = lowered line taken e in
        let inner : LoweredList = lowered_all l.scalars body in
        let other : LoweredList = lowered_all inner.scalars otherwise in
        let ki : Taken inner.scalars = extends_then inner.scalars other.scalars list.scalars
        (all_grow otherwise inner.scalars).kept k in
        let kl : Taken l.scalars = extends_then l.scalars inner.scalars list.scalars (all_grow body l.scalars).kept ki in
        let g = expr_fits unit list owns line e h.0.0.1 taken kl in
        fits_joined at' (Some depth) l.parts (statement (nest.If line l.tree inner.list other.list) no_statement)
        (g.parts (Some depth)) (
          (
            gives_log unit list owns l.tree (g.sorted ∙ ap Some h.0.0.0),
            all_fit depth body h.0.1 l.scalars ki,
            all_fit depth
                otherwise h.1 inner.scalars k,
          ),
          tt,
        )
    stmt_fits depth (If (branch line e body (branch line' e' body' rest)) otherwise) h taken k =
        let flagged : List Sort = taken ++ sort.Log ∷ [] in
        let all : Branches = branch line e body (branch line' e' body' rest) in
        let kf : Taken flagged = extends_then flagged (branches line (length taken) flagged all
        (λ later. lowered_all later otherwise)).scalars list.scalars
        (branches_kept line (length taken) all otherwise flagged) k in
        let here : Here (length taken) sort.Log = kf.there (length taken) sort.Log (last_there taken sort.Log) in (
          set_fits unit list owns (length taken) (Literal (scalar.Log false)) sort.Log sort.Log here refl refl,
          branches_fit depth line (length taken) (branch line e body (branch line' e' body' rest)) otherwise h.0
              (λ later up. all_fit depth otherwise h.1 later up) here flagged k,
        )
    stmt_fits depth (Select line e choices otherwise) h taken k =
        let l : Lowered = lowered line taken e in
        let x : Lowered = held line (sort_of_expr e) l in
        let flagged : List Sort = x.scalars ++ sort.Log ∷ [] in
        let kf : Taken flagged = extends_then flagged
        (cases line (sort_of_expr e) x.tree (length x.scalars) flagged choices (λ later. lowered_all later otherwise)).scalars
        list.scalars
        (cases_kept line (sort_of_expr e) (length l.scalars) (length x.scalars) choices otherwise flagged) k in
        let kx : Taken x.scalars = extends_then x.scalars flagged list.scalars (extends_more x.scalars sort.Log) kf in
        let kl : Taken l.scalars = extends_then l.scalars x.scalars list.scalars (extends_more l.scalars (sort_of_expr e)) kx in
        let here : Here (length x.scalars) sort.Log = kf.there (length x.scalars) sort.Log (last_there x.scalars sort.Log) in
        let sel : Here (length l.scalars) (sort_of_expr e) = kx.there (length l.scalars) (sort_of_expr e)
        (last_there l.scalars (sort_of_expr e)) in
        let g : Fits unit list owns x (sort_of_expr e) = held_fits unit list owns line (sort_of_expr e) (sort_of_expr e) l
        (expr_fits unit list owns line e h.0 taken kl) (serves_itself (sort_of_expr e)) kx in
        fits_joined at' (Some depth) x.parts (with_flag line x.scalars
        (λ more. cases line (sort_of_expr e) x.tree (length x.scalars) more choices
        (λ later. lowered_all later otherwise))).list
        (g.parts (Some depth)) (
          set_fits unit list owns (length x.scalars) (Literal (scalar.Log false)) sort.Log sort.Log here refl refl,
          cases_fit depth line (facts_of e).kind (length l.scalars) (length x.scalars) choices otherwise h.1
              (λ later up. all_fit depth otherwise h.2 later up) sel here flagged k,
        )
    stmt_fits depth (Do line j first last step body) h taken k =
        do_fits line depth j first last step taken (λ more. lowered_all more body) h.0 h.1 h.2 h.3
        (λ more. (all_grow body more).kept)
        (λ more up. all_fit (suc depth) body h.4 more up) k
    stmt_fits depth (While line e body) h taken k =
        let l : Lowered = lowered line taken e in
        let inner : LoweredList = lowered_all l.scalars body in
        let kl : Taken l.scalars = extends_then l.scalars inner.scalars list.scalars (all_grow body l.scalars).kept k in
        let g = expr_fits unit list owns line e h.0.1 taken kl in
        ((g.parts None, gives_log unit list owns l.tree (g.sorted ∙ ap Some h.0.0), all_fit (suc depth) body h.1 l.scalars k), tt)
    stmt_fits depth (Forever line body) h taken k = ((tt, refl, all_fit (suc depth) body h taken k), tt)
    stmt_fits depth (Exit line out) h taken k = (h, tt)
    stmt_fits depth (Cycle line out) h taken k = (h, tt)
    stmt_fits depth (Return line) h taken k = (refl, tt)
    stmt_fits depth (Stop line) h taken k = (tt, tt)

    pub all_fit : (depth : ℕ) (ss : Stmts) → AreStmts unit.constants vars depth ss → (taken : List Sort)
        → Taken (lowered_all taken ss).scalars
        → FitsIn depth (lowered_all taken ss)
    all_fit depth no_stmt h taken k = tt
    all_fit depth (stmt s more) h taken k =
        let l : LoweredList = lowered_stmt taken s in
        fits_joined at' (Some depth) l.list (lowered_all l.scalars more).list
        (stmt_fits depth s h.0 taken (extends_then l.scalars (lowered_all l.scalars more).scalars list.scalars
        (all_grow more l.scalars).kept k))
        (all_fit depth more h.1 l.scalars k)

    branches_fit : (depth around flag : ℕ) (bs : Branches) (otherwise : Stmts) → AreBranches unit.constants vars depth bs
        → ((later : List Sort) → Taken (lowered_all later otherwise).scalars → FitsIn depth (lowered_all later otherwise))
        → Here flag sort.Log → (taken : List Sort) → Taken (branches around flag taken bs
        (λ later. lowered_all later otherwise)).scalars
        → FitsIn depth (branches around flag taken bs (λ later. lowered_all later otherwise))
    branches_fit depth around flag no_branch otherwise h g here taken k =
        ((gives_log unit list owns (not_taken flag) (not_taken_fits unit list owns around flag here), g taken k, tt), tt)
    branches_fit depth around flag (branch line e body rest) otherwise h g here taken k =
        let l : Lowered = lowered line taken e in
        let inner : LoweredList = lowered_all l.scalars body in
        let ki : Taken inner.scalars = extends_then inner.scalars
        (branches around flag inner.scalars rest (λ later. lowered_all later otherwise)).scalars list.scalars
        (branches_kept around flag rest otherwise inner.scalars) k in
        let kl : Taken l.scalars = extends_then l.scalars inner.scalars list.scalars (all_grow body l.scalars).kept ki in
        let x = expr_fits unit list owns line e h.0.1 taken kl in (
          (
            gives_log unit list owns (not_taken flag) (not_taken_fits unit list owns around flag here),
            fits_joined at' (Some depth) l.parts (statement (nest.If line l.tree (taking line flag inner) no_statement)
                no_statement)
                (x.parts (Some depth)) (
                  (
                    gives_log unit list owns l.tree (x.sorted ∙ ap Some h.0.0),
                    (
                      set_fits unit list owns flag (Literal (scalar.Log true)) sort.Log sort.Log here refl refl,
                      all_fit depth body h.1
                          l.scalars ki,
                    ),
                    tt,
                  ),
                  tt,
                ),
            tt,
          ),
          branches_fit depth around flag rest otherwise h.2 g here inner.scalars k,
        )

    cases_fit : (depth line : ℕ) (s : Kind) (sel flag : ℕ) (cs : Cases) (otherwise : Stmts)
        → AreCases unit.constants vars depth (sort_of_kind s) cs
        → ((later : List Sort) → Taken (lowered_all later otherwise).scalars → FitsIn depth (lowered_all later otherwise))
        → Here sel (sort_of_kind s) → Here flag sort.Log → (taken : List Sort)
        → Taken (cases line (sort_of_kind s) (Fixed sel) flag taken cs (λ later. lowered_all later otherwise)).scalars
        → FitsIn depth (cases line (sort_of_kind s) (Fixed sel) flag taken cs (λ later. lowered_all later otherwise))
    cases_fit depth line s sel flag no_case otherwise h g is here taken k =
        ((gives_log unit list owns (not_taken flag) (not_taken_fits unit list owns line flag here), g taken k, tt), tt)
    cases_fit depth line s sel flag (case ranges body rest) otherwise h g is here taken k =
        let inner : LoweredList = lowered_all taken body in
        let ki : Taken inner.scalars = extends_then inner.scalars
        (cases line (sort_of_kind s) (Fixed sel) flag inner.scalars rest (λ later. lowered_all later otherwise)).scalars
        list.scalars
        (cases_kept line (sort_of_kind s) sel flag rest otherwise inner.scalars) k in
        let test : Tree = Binary binary.And (not_taken flag) (in_ranges (sort_of_kind s) (Fixed sel) ranges) in
        let sorted : HasSort unit list owns test sort.Log = binary_fits unit list owns binary.And (not_taken flag)
        (in_ranges (sort_of_kind s) (Fixed sel) ranges)
        sort.Log sort.Log sort.Log (not_taken_fits unit list owns line flag here)
        (ranges_fit unit list owns line s sel ranges is h.0) refl in (
          (
            gives_log unit list owns test sorted,
            (
              set_fits unit list owns flag (Literal (scalar.Log true)) sort.Log sort.Log here refl refl,
              all_fit depth body h.1 taken
                  ki,
            ),
            tt,
          ),
          cases_fit depth line s sel flag rest otherwise h.2 g is here inner.scalars k,
        )

  -- ---- declarations

  blank_fits : (of : DeclaredType) → HasLength of → fits_blank at'.own (blank_for of) ≡ true
  blank_fits declared.Integer h = refl
  blank_fits declared.Logical h = refl
  blank_fits (declared.Character (long.Fixed n)) h = small_fits n (omega (arith, h))
  blank_fits (declared.Character long.Assumed) h = absurd h

  blank_sort : (of : DeclaredType) → HasLength of → served_by (Some (sound.sort_of_type of))
      (Some (sound.sort_of_blank (blank_for of))) ≡ true
  blank_sort declared.Integer h = refl
  blank_sort declared.Logical h = refl
  blank_sort (declared.Character (long.Fixed n)) h = refl
  blank_sort (declared.Character long.Assumed) h = absurd h

  four : (a b c d : Bool) → a ≡ true → b ≡ true → c ≡ true → d ≡ true → (a && b && c && d) ≡ true
  four a b c d h g k l = rw (h, g, k, l) refl

  make_fits : (depth : Option ℕ) (j : ℕ) (e : Entity) → slice_get vars j ≡ Some e → IsOwnScalar e
      → FitsStatement at' depth (make j e)
  make_fits depth j e h own =
      let there : There unit list owns j (sound.sort_of_type e.of) = there_as unit list owns j e h in
      four (may_make made.New at'.own (name.Own j)) (served_by (sort_of_name at'.own (name.Own j))
      (Some (sound.sort_of_blank (blank_for e.of))))
      (fits_blank at'.own (blank_for e.of)) (fits_spans at'.own (name.Own j) [])
      (ap (λ o. is_some o && is_own_role (of_declared (role.Value 0) (λ d. d.role) o)) there.at)
      (ap (λ o. served_by o (Some (sound.sort_of_blank (blank_for e.of))))
      (name_sort unit list owns j (sound.sort_of_type e.of) there) ∙ blank_sort e.of own.long_enough)
      (blank_fits e.of own.long_enough)
      (ap (λ b. b && true) (rank_there unit list owns j (sound.sort_of_type e.of) there))

  abbrev Stand : ℕ → List Entity → Type 0
  Stand j es = (i : ℕ) (e : Entity) → slice_get es i ≡ Some e → slice_get vars (j + i) ≡ Some e

  makes_fit : (depth : Option ℕ) (j : ℕ) (es : List Entity) → Every IsOwnScalar es → Stand j es → FitsAll at' depth (makes j es)
  unfolding makes
  makes_fit depth j [] h s = tt
  makes_fit depth j (e ∷ es) h s =
      let here : j + 0 ≡ j = omega arith in (
        make_fits depth j e (subst (λ i. slice_get vars i ≡ Some e) here (s 0 e refl)) h.0,
        makes_fit depth (suc j) es h.1 (λ i d g. subst (λ k. slice_get vars k ≡ Some d) (omega arith) (s (suc i) d g)),
      )

  initial_fits : (depth : Option ℕ) (line j : ℕ) (e : Option Expr) → IsInitial unit.constants vars j e → (taken : List Sort)
      → Taken (initial line j e taken).scalars → FitsAll at' depth (initial line j e taken).list
  initial_fits depth line j None h taken k = tt
  initial_fits depth line j (Some e) h taken k = stored_fits line (at j Whole AllOf) e taken depth h k

  initials_fit : (depth : Option ℕ) (j : ℕ) (es : List Entity) → AreInitials unit.constants vars j es → (taken : List Sort)
      → Taken (initials j taken es).scalars → FitsAll at' depth (initials j taken es).list
  unfolding initials
  initials_fit depth j [] h taken k = tt
  initials_fit depth j (e ∷ es) h taken k =
      let l : LoweredList = initial e.line j e.initial taken in
      fits_joined at' depth l.list (initials (suc j) l.scalars es).list
      (initial_fits depth e.line j e.initial h.0 taken
      (extends_then l.scalars (initials (suc j) l.scalars es).scalars list.scalars (initials_grow (suc j) es l.scalars).kept k))
      (initials_fit depth (suc j) es h.1 l.scalars k)

  pub main_fits : AreInitials unit.constants vars 0 vars → AreStmts unit.constants vars 0 unit.main.body
      → Taken (lowered_all (initials 0 [] vars).scalars unit.main.body).scalars
      → FitsAll at' (Some 0) (main_list unit.main).list
  main_fits hi hb k =
      let i : LoweredList = initials 0 [] vars in
      let b : LoweredList = lowered_all i.scalars unit.main.body in
      fits_joined at' (Some 0) (makes 0 vars) (joined i.list b.list)
      (makes_fit (Some 0) 0 vars owns (λ j e h. subst (λ k. slice_get vars k ≡ Some e) (omega arith) h))
      (fits_joined at' (Some 0) i.list b.list
      (initials_fit (Some 0) 0 vars hi [] (extends_then i.scalars b.scalars list.scalars (all_grow unit.main.body i.scalars).kept
      k))
      (all_fit 0 unit.main.body hb i.scalars k))

-- ---- the whole

own_dummies : (es : List Entity) → count_dummies (map declared_of es) ≡ 0
own_dummies [] = refl
own_dummies (e ∷ es) = own_dummies es

has_own : (of : DeclaredType) (count : ℕ) → HasLength of
    → (has_own_length of role.Own && has_own_rank 0 role.Own && result_is_last count role.Own) ≡ true
has_own declared.Integer count h = refl
has_own declared.Logical count h = refl
has_own (declared.Character (long.Fixed n)) count h = refl
has_own (declared.Character long.Assumed) count h = absurd h

own_declared : (es : List Entity) (count : ℕ) → Every IsOwnScalar es
    → list_all (λ d. has_own_length d.of d.role && has_own_rank d.rank d.role && result_is_last count d.role) (map declared_of es)
    ≡ true
own_declared [] count h = refl
own_declared (e ∷ es) count h = rw (has_own e.of count h.0.long_enough) (own_declared es count h.1)

are_own : (es : List Entity) → Every IsOwnScalar es → are_declared (map declared_of es) ≡ true
are_own es h = rw (own_dummies es, own_declared es 0 h) refl

length_map : (es : List Entity) → length (map declared_of es) ≡ length es
length_map [] = refl
length_map (e ∷ es) = ap suc (length_map es)

entities_few : (es : List Entity) → length es ≤ entities_nodes es
entities_few [] = omega arith
entities_few (e ∷ es) = omega (arith, entities_few es)

module _ (unit : Program) (h : IsLowered unit) (small : IsWithinLimits unit) where
  abbrev es : List Entity
  es = unit.main.entities

  abbrev i : LoweredList
  i = initials 0 [] es

  abbrev b : LoweredList
  b = lowered_all i.scalars unit.main.body

  few_numbers : numbers_of (procedure_with unit.main (main_list unit.main)) ≤ 2 ^ 31
  few_numbers =
      let gi = initials_grow 0 es [] in
      let gb = all_grow unit.main.body i.scalars in
      omega (
        arith,
        gi.nodes,
        gb.nodes,
        small.few_nodes,
        joined_nodes (makes 0 es) (joined i.list b.list),
        joined_nodes i.list
            b.list,
        makes_nodes 0 es,
        length_map es,
        entities_few es,
      )

  few_braces : all_braces (main_list unit.main).list ≤ 990
  few_braces =
      let gi = initials_grow 0 es [] in
      let gb = all_grow unit.main.body i.scalars in
      joined_braces (makes 0 es) (joined i.list b.list) 990 (omega (arith, makes_braces 0 es))
      (joined_braces i.list b.list 990 (omega (arith, gi.braces)) (omega (arith, gb.braces, small.few_blocks)))

  fits_main : FitsProcedure (lowered_unit unit) (lowered_unit unit).main
  fits_main = record {
    body = main_fits unit (main_list unit.main) h.scalars h.initials h.body (extends_self b.scalars);
    declared = are_own es h.scalars;
    few_braces = few_braces;
    small_numbers = few_numbers;
  }

  pub sound_of : list_all (λ x. is_some (sort_of_scalar x)) unit.constants ≡ true → Sound (lowered_unit unit)
  sound_of constants = record {
    fits = record {
      main = fits_main;
      no_dummies = own_dummies es;
      procedures = tt;
      constants = constants;
      few = omega arith;
    };
    never_strays = λ input turns. (does_not_stray (lowered_unit unit) (source_run unit) (does unit h) input turns).0;
  }

pub lowered_is_sound : LoweredIsSound
lowered_is_sound unit settled lowers small = sound_of unit (lowered_of unit settled lowers) small (constants_of unit settled)
