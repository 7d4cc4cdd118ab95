-- The lines of an element tree leave its value in its atom, or end in its fault.
use Rattle.std.proofs.Common.{◌≡◌, ℕ, suc, ◌<◌, ◌≤◌, Bool, true, false, ◌&&◌, List, [], ◌∷◌, ◌++◌, Some, refl, sym, ap, ◌∙◌, subst, arith, ℤ, pos, length, nat_le}
use Rattle.std.specs.Prelude.{slice_get, slice_index_or}
use Rattle.std.specs.List.{list_all}
use Rattle.std.proofs.lemmas.Option.{get_or_from_slice_get}
use Rattle.std.proofs.lemmas.Bool.Decides.{nat_tests}
use Rattle.a95_base.specs.declared.scalar.Scalar.{Scalar}
use Rattle.a95_base.specs.declared.scalar.Scalar.TheVariants as scalar
use Rattle.a95_base.specs.Integer.{wrapped}
use Rattle.a95_base.specs.Text.{trim}
use Rattle.a95_base.specs.Steps.{pure, ◌>>=◌}
use Rattle.a95_base.proofs.Wrapping.{wrapped-wrapped}
use Rattle.std.proofs.lemmas.Bool.{and_parts}
use Rattle.a95_base.proofs.Tests.{some_behind}
use Rattle.nest_tree.proofs.Sorts.{sort_if_some}
use Rattle.f95_unit.specs.declared.operation.UnaryOp.{UnaryOp}
use Rattle.f95_unit.specs.declared.operation.BinaryOp.{BinaryOp}
use Rattle.array_meaning.specs.Values.{nothing, integer_of, text_of, length_of}
use Rattle.array_meaning.specs.Scalars.{unary_of, binary_of, elemental_of}
use Rattle.nest_tree.specs.declared.access.Access.{Access}
use Rattle.nest_tree.specs.declared.tree.Exact.{Exact}
use Rattle.nest_tree.specs.declared.unit.Sort.TheVariants as sort
use Rattle.nest_tree.specs.Plain.{Tree, Literal, Number, Constant, Fixed, Read, Cell, Entry, Turn, Place, Asked, Unary, Binary, Exactly, Wrapped, Each, Trim, Len, Applied, Trees, no_tree, tree}
use Rattle.nest_tree.specs.State.{memory_of, cells_of, Step, found, given, block_in, NestState}
use Rattle.nest_tree.specs.Places.{at_turn, looked, element_there, subscripts}
use Rattle.nest_tree.specs.Elements.{int, exact_of, element, elements}
use Rattle.nest_tree.specs.Sound.{Scope, some_serves, both_serve, sort_if, sort_of, sort_of_name, exact_sort, fits_access, fits_portion, has_rank, fits_along, is_loop, fits_64_bits}
use Rattle.loop_tree.specs.declared.atom.Atom.TheVariants as atom
use Rattle.loop_tree.specs.declared.atom.TextAtom.TheVariants as text
use Rattle.loop_tree.specs.declared.row.IntValue.TheVariants as int_row
use Rattle.loop_tree.specs.declared.row.TextValue.TheVariants as words
use Rattle.loop_tree.specs.declared.tree.Function.{Function}
use Rattle.loop_tree.specs.Lines.{flats}
use Rattle.loop_tree.specs.Values.{number_at, text_at}
use Rattle.loop_laws.specs.At.{value_of, bytes_of, Variables}
use Rattle.nest_emit.specs.Numbers.{array_number, first_free, scalar_number, loop_number}
use Rattle.nest_emit.specs.Trees.{set, say, unary_lines, binary_lines, place_atom, place_lines, cell_lines, part_lines, atom_of, words_of, tree_lines, exact_lines, trees_lines, each_lines}
use Rattle.nest_emit.specs.Emits.{emits_access, emits_tree, emits_elemental, emits_trees}
use Rattle.nest_emit.specs.Meets.{DoesAt}
use Rattle.nest_emit.specs.Kin.{IsOf, Shows, cells_of as block_cells, held, cells_held, block_of, Stands, StandsIf, Around, Kin, AtTurn, Keeps}
use Rattle.nest_emit.proofs.Runs.{regroup, pured, looked as found_does, sees_it, parts}
use Rattle.nest_emit.proofs.Values.{some_is, served, shows_as, exact_shown, text_shown, stands_for, scalar_sorted, known_sorted, array_below}
use Rattle.nest_emit.proofs.Rows.{read_wrap, read_trim, read_length, set_does, say_does}
use Rattle.nest_emit.proofs.Operators.{unary_asks, unary_fits, unary_does}
use Rattle.nest_emit.proofs.Binary.{asks, binary_fits, binary_does}
use Rattle.nest_emit.proofs.Indices.{number_below, small_wrap, wrap_fits}
use Rattle.nest_emit.proofs.Places.{place_does}
use Rattle.nest_emit.proofs.Kin.{keeps_all, keeps_then, keeps_less, turn_kept}
use Rattle.nest_tree.specs.Statements.{Caller, applied}
use Rattle.nest_emit.proofs.Portions.{portion_does}
use Rattle.nest_emit.proofs.Leaves.{aiming, cell_does, exact_does, steady}
use Rattle.nest_emit.proofs.Evaluates.{Evaluates, gives_served}
use Rattle.nest_emit.proofs.Asked.{asked_law}
use Rattle.nest_emit.proofs.Cells.{cell_law, place_law}
use Rattle.f95_unit.specs.declared.operation.Elemental.{Elemental}
use Rattle.nest_emit.proofs.Arguments.{AllShown, AllSorted, all_sorted, still_shown}
use Rattle.nest_emit.proofs.Elementals.{elemental_does}
use Rattle.loop_tree.specs.declared.tree.CodeLine.{CodeLine}
use Rattle.loop_tree.specs.State.{Brace}

length_fits : (b : Bool) → some_serves (sort_if b sort.Exact) sort.Exact ≡ true → b ≡ true
length_fits true h = refl
length_fits false h = cc

module _ (functions : List Function) (limit : ℕ) (c : Scope) (nests : ℕ) (calls : Caller) (line : ℕ) (turn : List ℕ) where
  abbrev Law : Tree → Type 0
  Law x = Evaluates functions limit c nests calls line turn x

  abbrev value : Tree → Step Scalar
  value x = element cells_of c.unit.constants (applied calls) line turn x

  abbrev values : Trees → Step (List (ℕ × Scalar))
  values ts = elements cells_of c.unit.constants (applied calls) line turn ts

  literal_law : (x : Scalar) → Law (Literal x)
  literal_law x = record {
    does = λ s is t free {around} {n} {w} kin turned at {lines} {braces} go next.
        pured x go n (next n w x kin (keeps_all t w) (record { of = scalar_sorted x s is; value = stands_for s x }));
  }

  number_law : (z : ℤ) → Law (Number z)
  number_law z = record {
    does = λ s is t free {around} {n} {w} kin turned at {lines} {braces} go next.
        let e = sort_if_some (fits_64_bits z) sort.Exact s is in
        pured (int z) go n (next n w (int z) kin (keeps_all t w)
        (subst (λ r. Shows r z (bytes_of w (text.Variable t)) (int z)) e.1
        (record { of = (refl, wrap_fits z e.0); value = refl })));
  }

  constant_law : (i : ℕ) → Law (Constant i)
  constant_law i = record {
    does = λ s is t free {around} {n} {w} kin turned at {lines} {braces} go next.
        let known = known_sorted (slice_get c.unit.constants i) s is in
        let same : slice_index_or c.unit.constants i nothing ≡ known.0 = get_or_from_slice_get c.unit.constants i known.0 nothing
        known.1 in
        let x = slice_index_or c.unit.constants i nothing in
        pured x go n (next n w x kin (keeps_all t w)
        (record { of = subst (λ y. IsOf s y) (sym same) known.2; value = stands_for s x }));
  }

  fixed_law : (i : ℕ) → Law (Fixed i)
  fixed_law i = record {
    does = λ s is t free {around} {n} {w} kin turned at {lines} {braces} go next.
        sees_it (λ m. Some (m.temps.setting.kept i)) go n (λ a e.
        let same : n.cells.temps.setting.kept i ≡ a = cc in
        next n w a kin (keeps_all t w)
        (subst (λ y. Shows s (number_at w.ints (scalar_number c.own i)) (text_at w.texts (scalar_number c.own i)) y) same
        (kin.scalars i s is)));
  }

  turn_law : (loop : ℕ) → Law (Turn loop)
  turn_law loop = record {
    does = λ s is t free {around} {n} {w} kin turned at {lines} {braces} go next.
        let e = sort_if_some (is_loop c loop) sort.Exact s is in
        let range = and_parts (nat_le 1 loop) (nat_le loop c.loops) e.0 in
        let first : 1 ≤ loop = grind (arith, nat_tests, range.0) in
        let last : loop ≤ c.loops = grind (arith, nat_tests, range.1) in
        let z = int (pos (at_turn turn loop)) in
        pured z go n (next n w z kin (keeps_all t w)
        (subst (λ r. Shows r (number_at w.indices (loop_number nests loop)) (bytes_of w (text.Variable t)) z) e.1
        (record {
          of = (refl, small_wrap (at_turn turn loop) (turned.small loop first last));
          value = turned.each loop first last;
        })));
  }

  read_law : (a : Access) → emits_access a ≡ true → Law (Read a)
  read_law a emits = record {
    does = λ s is t free {around} {n} {w} kin turned at {lines} {braces} go next.
        let fit = some_behind (fits_access c a) (sort_of_name c.own a.name) s is in
        let q = c.own in
        let array = array_number q a.name in
        let both = and_parts (has_rank q a.name (length a.dimensions) && list_all (λ d. fits_along c d.along) a.dimensions)
        (fits_portion q a.name a.portion) fit.0 in
        let alongs = and_parts (has_rank q a.name (length a.dimensions)) (list_all (λ d. fits_along c d.along) a.dimensions)
        both.0 in
        let m = memory_of n.cells in
        let blank = (block_in m a.name).blank in
        sees_it (λ m'. looked m' turn a) go n (λ x e.
        let aim = aiming (block_in m a.name) (block_in m a.name).held m turn a (λ aim'. Some (element_there aim')) x e in
        let el = aim.0 in
        let here : (block_in m a.name).held ≡ Some el.array = el.there in
        let stands : Stands s w.ints array el.array = subst (λ o. StandsIf s w.ints array o) here
        (kin.arrays.whole a.name s fit.1) in
        let below = number_below el.array.bounds (subscripts m.temps.setting turn a.dimensions) el.number el.placed in
        let place_at = place_atom q nests t a.dimensions in
        let last = part_lines q t a.portion in
        parts (place_lines q nests t array 0 a.dimensions) (cell_lines (sort_of_name q a.name) t array place_at ++ last) lines
        (place_does c nests turn array (array_below q a.name s fit.1) t w
        (flats (cell_lines (sort_of_name q a.name) t array place_at ++ last) ++ lines) 0 a.dimensions
        free kin turned emits alongs.1 el.array.bounds (omega (arith, stands.rank)) stands.bounds el.number el.placed
        (λ u k keep number.
        let sight : held u.blocks (block_of s u array) ≡ Some (block_cells s el.array.elements) = k.arrays.seen a.name s fit.1
        ∙ ap (cells_held s) here in
        let few : el.number < 9223372036854775808 = omega (arith, below, stands.small) in
        let inside : el.number < length el.array.elements = subst (λ i. el.number < i) (sym stands.sized) below in
        parts (cell_lines (sort_of_name q a.name) t array place_at) last lines
        (subst (λ o. DoesAt functions limit n u (flats (cell_lines o t array place_at) ++ (flats last ++ lines)) braces (go x n))
        (sym fit.1)
        (cell_does t u (flats last ++ lines) free k s array place_at el.array.elements el.number blank sight stands.sorted
        (number ∙ small_wrap el.number few) inside (λ u' k' keep' shown.
        portion_does a.name s fit.1 el.array here el.number inside t u' lines free k' a.portion both.1 el.part shown
        (λ v k'' keep'' shown'.
        next n v x k'' (keeps_then (keeps_then keep keep') keep'')
        (subst (λ y. Shows s (number_at v.ints t) (text_at v.texts t) y) (some_is aim.1) shown'))))))));
  }

  unary_law : (op : UnaryOp) (x : Tree) → Law x → Law (Unary op x)
  unary_law op x law = record {
    does = λ s is t free {around} {n} {w} kin turned at {lines} {braces} go next.
        let fit = unary_fits op (sort_of c x) s is in
        regroup (value x) (λ y. pure (unary_of op y)) go n
        (parts (tree_lines c nests t x) (unary_lines op t (atom_of c nests t x)) lines
        (gives_served law (unary_asks op) fit.0 t free kin turned at (λ y. pure (unary_of op y) >>= go) (λ m u y k keep sh.
        pured (unary_of op y) go m
        (unary_does t u lines free k op (atom_of c nests t x) (bytes_of u (words_of c nests t x)) y sh (λ u' k' keep' shown.
        next m u' (unary_of op y) k' (keeps_then keep keep')
        (subst (λ r. Shows r (number_at u'.ints t) (text_at u'.texts t) (unary_of op y)) fit.1 shown))))));
  }

  binary_law : (op : BinaryOp) (x y : Tree) → Law x → Law y → Law (Binary op x y)
  binary_law op x y law law' = record {
    does = λ s is t free {around} {n} {w} kin turned at {lines} {braces} go next.
        let texts = some_serves (sort_of c x) sort.Text in
        let fit = binary_fits op (sort_of c x) (sort_of c y) s is in
        let a = atom_of c nests t x in
        let d = words_of c nests t x in
        let b = atom_of c nests (suc t) y in
        let e = words_of c nests (suc t) y in
        let last = binary_lines texts op t a b d e in
        let free' : first_free c.own ≤ suc t = omega (arith, free) in
        let sx = served (sort_of c x) (asks op texts) fit.0 in
        let sy = served (sort_of c y) (asks op texts) fit.1 in
        regroup (value x) (λ z. value y >>= (λ z'. given line (binary_of op z z'))) go n
        (parts (tree_lines c nests t x) (tree_lines c nests (suc t) y ++ last) lines
        (gives_served law (asks op texts) fit.0 t free kin turned at
        (λ z. (value y >>= (λ z'. given line (binary_of op z z'))) >>= go) (λ m u z k keep sh.
        regroup (value y) (λ z'. given line (binary_of op z z')) go m
        (parts (tree_lines c nests (suc t) y) last lines
        (gives_served law' (asks op texts) fit.1 (suc t) free' k (turn_kept keep.indices turned) (keep.line ∙ at)
        (λ z'. given line (binary_of op z z') >>= go)
        (λ m' u' z' k' keep' sh'.
        let same = steady c nests t x sx.sort sx.is free keep' in
        binary_does t u' lines free k' line (keep'.line ∙ keep.line ∙ at) a b d e z z' go
        (λ v keeps. (steady c nests t x sx.sort sx.is free (keeps_less (omega arith) keeps)).0)
        (λ v keeps. (steady c nests (suc t) y sy.sort sy.is free' keeps).0) op texts
        (shows_as same.0 same.1 sh) sh' (λ u'' y' k'' keep'' shown.
        next m' u'' y' k'' (keeps_then (keeps_then keep (keeps_less (omega arith) keep')) keep'')
        (subst (λ r. Shows r (number_at u''.ints t) (text_at u''.texts t) y') fit.2 shown))))))));
  }

  exactly_law : (op : Exact) (x y : Tree) → Law x → Law y → Law (Exactly op x y)
  exactly_law op x y law law' = record {
    does = λ s is t free {around} {n} {w} kin turned at {lines} {braces} go next.
        let fit = sort_if_some (both_serve (sort_of c x) (sort_of c y) sort.Exact) (exact_sort op) s is in
        let two = and_parts (some_serves (sort_of c x) sort.Exact) (some_serves (sort_of c y) sort.Exact) fit.0 in
        let a = atom_of c nests t x in
        let b = atom_of c nests (suc t) y in
        let last = exact_lines op t a b in
        let free' : first_free c.own ≤ suc t = omega (arith, free) in
        let sx = served (sort_of c x) sort.Exact two.0 in
        let sy = served (sort_of c y) sort.Exact two.1 in
        regroup (value x) (λ z. value y >>= (λ z'. found (exact_of op (integer_of z) (integer_of z')))) go n
        (parts (tree_lines c nests t x) (tree_lines c nests (suc t) y ++ last) lines
        (gives_served law sort.Exact two.0 t free kin turned at
        (λ z. (value y >>= (λ z'. found (exact_of op (integer_of z) (integer_of z')))) >>= go) (λ m u z k keep sh.
        regroup (value y) (λ z'. found (exact_of op (integer_of z) (integer_of z'))) go m
        (parts (tree_lines c nests (suc t) y) last lines
        (gives_served law' sort.Exact two.1 (suc t) free' k (turn_kept keep.indices turned) (keep.line ∙ at)
        (λ z'. found (exact_of op (integer_of z) (integer_of z')) >>= go) (λ m' u' z' k' keep' sh'.
        let same = steady c nests t x sx.sort sx.is free keep' in
        found_does (exact_of op (integer_of z) (integer_of z')) go m' (λ y' there.
        exact_does t u' lines free k' a b z z' y' (same.0 ∙ exact_shown sh) (exact_shown sh') sh.of.1 sh'.of.1
        (λ v keeps. (steady c nests t x sx.sort sx.is free (keeps_less (omega arith) keeps)).0)
        (λ v keeps. (steady c nests (suc t) y sy.sort sy.is free' keeps).0) op there (λ u'' k'' keep'' shown.
        next m' u'' y' k'' (keeps_then (keeps_then keep (keeps_less (omega arith) keep')) keep'')
        (subst (λ r. Shows r (number_at u''.ints t) (text_at u''.texts t) y') fit.1 shown)))))))));
  }

  wrapped_law : (x : Tree) → Law x → Law (Wrapped x)
  wrapped_law x law = record {
    does = λ s is t free {around} {n} {w} kin turned at {lines} {braces} go next.
        let fit = sort_if_some (some_serves (sort_of c x) sort.Exact) sort.Int s is in
        let a = atom_of c nests t x in
        regroup (value x) (λ y. pure (int (wrapped (integer_of y)))) go n
        (parts (tree_lines c nests t x) (set t (int_row.Wrap a) ∷ []) lines
        (gives_served law sort.Exact fit.0 t free kin turned at (λ y. pure (int (wrapped (integer_of y))) >>= go)
        (λ m u y k keep sh.
        let z = int (wrapped (integer_of y)) in
        pured z go m
        (set_does t u [] lines free k (int_row.Wrap a) (wrapped (value_of u a)) refl (read_wrap u a) (λ u' k' keep' there.
        next m u' z k' (keeps_then keep keep')
        (subst (λ r. Shows r (number_at u'.ints t) (text_at u'.texts t) z) fit.1
        (record { of = (refl, wrapped-wrapped (integer_of y)); value = there ∙ ap wrapped (exact_shown sh) })))))));
  }

  -- the length of a text, of which no limit is known, is wrapped
  wrapped_length_law : (x : Tree) → Law x → Law (Wrapped (Len x))
  wrapped_length_law x law = record {
    does = λ s is t free {around} {n} {w} kin turned at {lines} {braces} go next.
        let gives_text = sort_if_some (some_serves (sort_if (some_serves (sort_of c x) sort.Text) sort.Exact) sort.Exact) sort.Int s is
        in
        let fit = length_fits (some_serves (sort_of c x) sort.Text) gives_text.0 in
        let d = words_of c nests t x in
        let last = set t (int_row.Wrap (atom.Int t)) ∷ [] in
        let measure = λ (y : Scalar). pure (int (pos (length_of y))) in
        let wrap = λ (y : Scalar). pure (int (wrapped (integer_of y))) in
        regroup (value x >>= measure) wrap go n (regroup (value x) measure (λ y. wrap y >>= go) n
        (parts (tree_lines c nests t x ++ (set t (int_row.Length d) ∷ [])) last lines
        (parts (tree_lines c nests t x) (set t (int_row.Length d) ∷ []) (flats last ++ lines)
        (gives_served law sort.Text fit t free kin turned at (λ y. measure y >>= (λ z. wrap z >>= go)) (λ m u y k keep sh.
        pured (int (pos (length_of y))) (λ z. wrap z >>= go) m (pured (int (wrapped (pos (length_of y)))) go m
        (set_does t u [] (flats last ++ lines) free k (int_row.Length d) (pos (length (bytes_of u d))) refl (read_length u d)
        (λ u' k' keep' there.
        set_does t u' [] lines free k' (int_row.Wrap (atom.Int t)) (wrapped (number_at u'.ints t)) refl (read_wrap u' (atom.Int t))
        (λ v k'' keep'' value'.
        next m v (int (wrapped (pos (length_of y)))) k'' (keeps_then (keeps_then keep keep') keep'')
        (subst (λ r. Shows r (number_at v.ints t) (text_at v.texts t) (int (wrapped (pos (length_of y))))) gives_text.1
        (record {
          of = (refl, wrapped-wrapped (pos (length_of y)));
          value = value' ∙ ap wrapped (there ∙ ap (λ (b : List ℕ). pos (length b)) (text_shown sh));
        })))))))))));
  }

  trim_law : (x : Tree) → Law x → Law (Trim x)
  trim_law x law = record {
    does = λ s is t free {around} {n} {w} kin turned at {lines} {braces} go next.
        let fit = sort_if_some (some_serves (sort_of c x) sort.Text) sort.Text s is in
        let d = words_of c nests t x in
        regroup (value x) (λ y. pure (scalar.Text (trim (text_of y)))) go n
        (parts (tree_lines c nests t x) (say t (words.Trim d) ∷ []) lines
        (gives_served law sort.Text fit.0 t free kin turned at (λ y. pure (scalar.Text (trim (text_of y))) >>= go)
        (λ m u y k keep sh.
        let z = scalar.Text (trim (text_of y)) in
        pured z go m
        (say_does t u [] lines free k (words.Trim d) (trim (bytes_of u d)) (read_trim u d) (λ u' k' keep' there.
        next m u' z k' (keeps_then keep keep')
        (subst (λ r. Shows r (number_at u'.ints t) (text_at u'.texts t) z) fit.1
        (record { of = refl; value = there ∙ ap trim (text_shown sh) })))))));
  }

  -- arguments in the order of the text, each in a variable of its own
  record LawAll (ts : Trees) : Type 0 where
    does : (t : ℕ) → first_free c.own ≤ t → {around : Around} {n : NestState} {w : Variables} →
        Kin c.own around n w → AtTurn nests c.loops turn w → w.line ≡ line → {lines : List CodeLine} {braces : List Brace} →
        (go : List (ℕ × Scalar) → Step (Unit {0})) →
        ((m : NestState) (u : Variables) (xs : List (ℕ × Scalar)) → Kin c.own around m u → Keeps t w u →
        AllShown c nests u t ts xs →
        DoesAt functions limit m u lines braces (go xs m)) →
        AllSorted c ts → DoesAt functions limit n w (flats (trees_lines c nests t ts) ++ lines) braces ((values ts >>= go) n)

  no_tree_law : LawAll no_tree
  no_tree_law = record {
    does = λ t free {around} {n} {w} kin turned at {lines} {braces} go next sorted. pured [] go n
        (next n w [] kin (keeps_all t w) tt);
  }

  next_tree_law : (place : ℕ) (x : Tree) (ts : Trees) → Law x → LawAll ts → LawAll (tree place x ts)
  next_tree_law place x ts law laws = record {
    does = λ t free {around} {n} {w} kin turned at {lines} {braces} go next sorted.
        let free' : first_free c.own ≤ suc t = omega (arith, free) in
        let s = sorted.0.0 in
        regroup (value x) (λ y. values ts >>= (λ ys. pure ((place, y) ∷ ys))) go n
        (parts (tree_lines c nests t x) (trees_lines c nests (suc t) ts) lines
        (law.does s sorted.0.1 t free kin turned at (λ y. (values ts >>= (λ ys. pure ((place, y) ∷ ys))) >>= go)
        (λ m u y k keep sh.
        regroup (values ts) (λ ys. pure ((place, y) ∷ ys)) go m
        (laws.does (suc t) free' k (turn_kept keep.indices turned) (keep.line ∙ at) (λ ys. pure ((place, y) ∷ ys) >>= go)
        (λ m' u' ys k' keep' all.
        pured ((place, y) ∷ ys) go m' (next m' u' ((place, y) ∷ ys) k' (keeps_then keep (keeps_less (omega arith) keep'))
        (refl, (λ r is. still_shown c nests t x s sorted.0.1 free keep' y sh r is), all))) sorted.1))));
  }

  each_law : (which : Elemental) (ts : Trees) → emits_elemental which ≡ true → LawAll ts → Law (Each which ts)
  each_law which ts emits laws = record {
    does = λ s is t free {around} {n} {w} kin turned at {lines} {braces} go next.
        regroup (values ts) (λ xs. given line (elemental_of which xs)) go n
        (parts (trees_lines c nests t ts) (each_lines c nests which t ts) lines
        (laws.does t free kin turned at (λ xs. given line (elemental_of which xs) >>= go) (λ m u xs k keep all.
        elemental_does functions limit c braces nests t u lines free k line (keep.line ∙ at) ts xs all go which s emits is (λ u' y k' keep' shown.
        next m u' y k' (keeps_then keep keep') shown)) (all_sorted c which ts s is)));
  }

  mutual
    pub tree_does : (x : Tree) → emits_tree x ≡ true → Law x
    tree_does (Literal x) h = literal_law x
    tree_does (Number z) h = number_law z
    tree_does (Constant i) h = constant_law i
    tree_does (Fixed i) h = fixed_law i
    tree_does (Read a) h = read_law a h
    tree_does (Cell n x) h = cell_law functions limit c nests calls line turn n x (tree_does x h)
    tree_does (Entry l x) h = cc
    tree_does (Turn loop) h = turn_law loop
    tree_does (Place a) h = place_law functions limit c nests calls line turn a h
    tree_does (Asked q n) h = asked_law functions limit c nests calls line turn q n h
    tree_does (Unary op x) h = unary_law op x (tree_does x h)
    tree_does (Binary op x y) h =
        let two = and_parts (emits_tree x) (emits_tree y) h in binary_law op x y (tree_does x two.0) (tree_does y two.1)
    tree_does (Exactly op x y) h =
        let two = and_parts (emits_tree x) (emits_tree y) h in
        exactly_law op x y (tree_does x two.0) (tree_does y two.1)
    tree_does (Wrapped (Len x)) h = wrapped_length_law x (tree_does x h)
    tree_does (Wrapped x) h = wrapped_law x (tree_does x h)
    tree_does (Each which xs) h =
        let two = and_parts (emits_elemental which) (emits_trees xs) h in each_law which xs two.0 (trees_do xs two.1)
    tree_does (Trim x) h = trim_law x (tree_does x h)
    tree_does (Len x) h = cc
    tree_does (Applied i b p xs) h = cc

    trees_do : (ts : Trees) → emits_trees ts ≡ true → LawAll ts
    trees_do no_tree h = no_tree_law
    trees_do (tree place x ts) h =
        let two = and_parts (emits_tree x) (emits_trees ts) h in next_tree_law place x ts (tree_does x two.0) (trees_do ts two.1)
