-- The lines of a piece store its value into the element that it aims at; those of a statement that frees free the block.
use Rattle.std.proofs.Common.{◌≡◌, ◌≢◌, ℕ, suc, ◌<◌, ◌≤◌, Bool, true, false, ◌&&◌, List, [], ◌∷◌, ◌++◌, Option, Some, None, refl, sym, ap, ◌∙◌, subst, arith, ℤ, pos, length}
use Rattle.std.specs.Prelude.{Ok, map, set, slice_get, is_some}
use Rattle.std.specs.List.{list_all}
use Rattle.std.proofs.lemmas.List.{length-map, map-set, get_or-map}
use Rattle.a95_base.specs.declared.scalar.Scalar.{Scalar}
use Rattle.a95_base.specs.declared.scalar.Scalar.TheVariants as scalar
use Rattle.a95_base.specs.Steps.{Ran, pure, ◌>>=◌, ◌>>◌}
use Rattle.a95_base.specs.Text.{fit, part_of, over}
use Rattle.std.proofs.lemmas.Bool.{and_parts}
use Rattle.a95_base.proofs.Tests.{clash}
use Rattle.array_meaning.specs.Values.{truth_of, text_of, length_of, integer_of}
use Rattle.array_meaning.specs.State.{Array, Substring, changed}
use Rattle.array_meaning.specs.Sections.{is_part, part_bytes}
use Rattle.array_meaning.specs.Control.{Next}
use Rattle.nest_tree.specs.declared.access.Access.{Access}
use Rattle.nest_tree.specs.declared.access.Name.{Name}
use Rattle.nest_tree.specs.declared.access.Name.TheVariants as name
use Rattle.nest_tree.specs.declared.access.Portion.{Portion}
use Rattle.nest_tree.specs.declared.unit.Sort.{Sort}
use Rattle.nest_tree.specs.declared.unit.Sort.TheVariants as sort
use Rattle.nest_tree.specs.Plain.{Tree, Guard, Piece, Procedure, Store, Free, StoreCell}
use Rattle.nest_tree.specs.State.{NestState, Memory, memory_of, with_memory, cells_of, Halt, Step, on, changes, reads, block_in, with_block}
use Rattle.nest_tree.specs.Places.{amount, portion_of, is_aimed, put_as, with_elements, stored, stored_at, subscripts, freed, without_array, stored_cell}
use Rattle.nest_tree.specs.declared.access.Dimension.{Dimension}
use Rattle.nest_tree.specs.Elements.{where_true, guarded}
use Rattle.nest_tree.specs.Statements.{Caller, applied, put_if, piece_acts}
use Rattle.nest_tree.specs.Sound.{Scope, serves, some_serves, gives, sort_of, served_by, sort_of_name, sort_of_type, of_declared, role_of, of_name, is_own_role, may_store, may_free, fits_guard, stores_in, fits_access, fits_along, fits_amount, fits_portion, has_rank, is_own_text}
use Rattle.nest_tree.specs.declared.unit.Declared.{Declared}
use Rattle.nest_tree.specs.declared.unit.Role.{Role}
use Rattle.loop_tree.specs.declared.atom.Atom.{Atom}
use Rattle.loop_tree.specs.declared.atom.Atom.TheVariants as atom
use Rattle.loop_tree.specs.declared.atom.TextAtom.{TextAtom}
use Rattle.loop_tree.specs.declared.atom.TextAtom.TheVariants as text
use Rattle.loop_tree.specs.declared.row.IntValue.TheVariants as int_row
use Rattle.loop_tree.specs.declared.row.TextValue.TheVariants as words
use Rattle.loop_tree.specs.declared.row.BlockRow.TheVariants as block_row
use Rattle.loop_tree.specs.declared.row.Row.TheVariants as row
use Rattle.loop_tree.specs.declared.tree.CodeLine.{CodeLine}
use Rattle.loop_tree.specs.declared.tree.CodeLine.TheVariants as code
use Rattle.loop_tree.specs.declared.tree.Stmt.{Stmt}
use Rattle.loop_tree.specs.declared.tree.Stmt.TheVariants as stmt
use Rattle.loop_tree.specs.declared.tree.Function.{Function}
use Rattle.loop_tree.specs.Lines.{flats}
use Rattle.loop_tree.specs.State.{Brace, Choice, Ints, Texts, with_cells, without}
use Rattle.loop_tree.specs.Values.{number_at, text_at, block_at, text_value, and_then, text_cell, sub, replaced, fitted}
use Rattle.loop_tree.specs.Machine as machine
use Rattle.loop_laws.specs.At.{Variables, value_of, bytes_of, number_of, text_read, with_int, with_text, with_blocks}
use Rattle.loop_laws.proofs.Numbered.{with_at_same, with_at_other}
use Rattle.loop_laws.proofs.Rows.{step_int, step_text, step_store_int, step_store_text, step_free}
use Rattle.loop_laws.proofs.Within.{text_within, change_there, store_int_within, store_text_within, cells_there, freed_there}
use Rattle.nest_emit.specs.Numbers.{array_number, length_number, first_free}
use Rattle.nest_emit.specs.Trees.{set as set_row, say, amount_atom, number_for, place_atom, place_lines, atom_of, words_of, reference_to, tree_lines}
use Rattle.nest_emit.specs.Statements.{at_line, store, stored_lines, store_lines, piece_lines, lines_of}
use Rattle.nest_emit.specs.Emits.{emits_access, emits_tree, emits_guard, emits_piece}
use Rattle.nest_emit.specs.Meets.{DoesAt}
use Rattle.nest_emit.specs.Kin.{IsOf, Shows, is_text, is_text_scalar, cells_of as block_cells, held, cells_held, block_of, Stands, StandsIf, Around, Kin, AtTurn, Keeps, Stays}
use Rattle.nest_emit.proofs.Runs.{told, regroup, regroup_next, pured, sees_it, changed as changes_does, parts, row_gives, if_does, behind_close}
use Rattle.nest_emit.proofs.Values.{some_is, shows_as, is_true, array_below, reference_is, served, exact_shown}
use Rattle.nest_emit.proofs.Rows.{read_length, read_text_cell}
use Rattle.nest_emit.proofs.Texts.{length-fit, part, part_is, sub_is, replaced_is}
use Rattle.nest_emit.proofs.Portions.{OwnText, own_text, read_part, blank_in, element_in, element_long}
use Rattle.nest_emit.proofs.Indices.{number_below, small_wrap}
use Rattle.nest_emit.proofs.Places.{amount_shown, place_does}
use Rattle.nest_emit.proofs.Acts.{line_does}
use Rattle.nest_emit.proofs.Leaves.{aiming, texts_there, steady}
use Rattle.nest_emit.proofs.Performs.{Performs, evaluated, value_does}
use Rattle.nest_emit.proofs.Arrays.{Living, living, cells_stored, known, kin_stored, kin_freed}
use Rattle.nest_emit.proofs.Kin.{keeps_all, keeps_then, keeps_less, keeps_int, keeps_text, stays_then, stays_kept, stays_less, kin_line, kin_int, kin_text}
use Rattle.nest_emit.proofs.Cells.{numbering}
use Rattle.nest_emit.proofs.Evaluates.{gives_served}
use Rattle.nest_emit.proofs.Trees.{tree_does}

-- ---- what is stored

-- what isn't an element of a declared text variable takes what it is given
unchanged : (blank old x : Scalar) (bytes : Substring) → is_text_scalar blank ≡ false → changed blank bytes old x ≡ x
unchanged (scalar.Int z) old x bytes h = refl
unchanged (scalar.Log b) old x bytes h = refl
unchanged (scalar.Text text) old x bytes h = cc

not_text : (o : Option Sort) → some_serves o sort.Text ≡ false → is_text o ≡ false
not_text None h = refl
not_text (Some sort.Exact) h = refl
not_text (Some sort.Int) h = refl
not_text (Some sort.Log) h = refl
not_text (Some sort.Text) h = cc

put_plain : (q : Procedure) (n : Name) (s : Sort) (blank old x : Scalar) (bytes : Substring) → is_own_text q n ≡ false →
    sort_of_name q n ≡ Some s →
    (is_text (Some s) ≡ false → is_text_scalar blank ≡ false) → put_as n blank bytes old x ≡ x
put_plain q (name.Own i) s blank old x bytes other is plain =
    unchanged blank old x bytes (plain (ap is_text (sym is) ∙ not_text (sort_of_name q (name.Own i)) other))
put_plain q (name.Temp i) s blank old x bytes other is plain = refl

pub not_own : (q : Procedure) (n : Name) (s : Sort) → is_own_text q n ≡ false → sort_of_name q n ≡ Some s → (i : ℕ) →
    n ≡ name.Own i → s ≡ sort.Text → ⊥
not_own q n s other is i own text =
    clash (is_own_text q n) (ap (is_own_text q) own ∙ ap (λ o. some_serves o sort.Text)
    (ap (sort_of_name q) (sym own) ∙ is ∙ ap Some text)) other

put_own : (n : Name) (i : ℕ) → n ≡ name.Own i → (blank old x : Scalar) (bytes : Substring) →
    put_as n blank bytes old x ≡ changed blank bytes old x
put_own n i own blank old x bytes = ap (λ k. put_as k blank bytes old x) own

-- ---- the row that stores

module _ {functions : List Function} {limit : ℕ} {q : Procedure} {around : Around} {st : NestState} {v : Variables}
    {braces : List Brace}
    {r : Ran Halt NestState (Unit {0})} (n : Name) (lines : List CodeLine) (at a : Atom) (d : TextAtom) (array : Array)
    (there : (block_in (memory_of st.cells) n).held ≡ Some array) (kin : Kin q around st v) (k : ℕ)
    (placed : value_of v at ≡ pos k)
    (inside : k < length array.elements) (x : Scalar) where
  number_stored : (s : Sort) → is_text (Some s) ≡ false →
      block_of s v (array_number q n) ≡ block_at v.int_blocks (array_number q n) →
      block_cells s array.elements ≡ Ints (map number_for array.elements) → sort_of_name q n ≡ Some s →
      value_of v a ≡ number_for x → IsOf s x →
      ((i : ℕ) → n ≡ name.Own i → s ≡ sort.Text → length_of x ≡ length_of (blank_in st n)) →
      ((l : Living v.blocks (block_of s v (array_number q n)) (block_cells s array.elements)) →
      Kin q around (with_memory st
      (with_block (memory_of st.cells) n (with_elements (block_in (memory_of st.cells) n) array (set array.elements k x))))
      (with_blocks v (with_cells v.blocks l.number (block_cells s (set array.elements k x)))) →
      DoesAt functions limit st (with_blocks v (with_cells v.blocks l.number (block_cells s (set array.elements k x)))) lines
      braces r) →
      DoesAt functions limit st v (flats (stmt.Row (row.Block (block_row.StoreInt (array_number q n) at a)) ∷ []) ++ lines) braces
      r
  number_stored s plain same cells is value of long_text behind =
      let sight : held v.blocks (block_of s v (array_number q n)) ≡ Some (block_cells s array.elements) = kin.arrays.seen n s is
      ∙ ap (cells_held s) there in
      let l = living v.blocks (block_of s v (array_number q n)) (block_cells s array.elements) sight in
      let new = block_cells s (set array.elements k x) in
      let long : k < length (map number_for array.elements) = subst (λ m. k < m) (sym (length-map array.elements number_for))
      inside in
      row_gives (step_store_int (array_number q n) at a) [] lines
      (change_there v.blocks (block_at v.int_blocks (array_number q n)) l.number (Ints (map number_for array.elements)) new
      (machine.store_int (value_of v at) (value_of v a)) (sym same ∙ l.named) (l.there ∙ ap Some cells)
      (store_int_within (map number_for array.elements) (value_of v at) (value_of v a) k placed long
      ∙ ap (λ z. Ok (Ints (set (map number_for array.elements) k z))) value
      ∙ ap Ok (sym (cells_stored s array.elements k x plain))))
      (behind l (kin_stored n s is array there kin k x of long_text l))

  pub store_does : (s : Sort) → sort_of_name q n ≡ Some s → Shows s (value_of v a) (bytes_of v d) x →
      ((i : ℕ) → n ≡ name.Own i → s ≡ sort.Text → length_of x ≡ length_of (blank_in st n)) →
      ((l : Living v.blocks (block_of s v (array_number q n)) (block_cells s array.elements)) →
      Kin q around (with_memory st
      (with_block (memory_of st.cells) n (with_elements (block_in (memory_of st.cells) n) array (set array.elements k x))))
      (with_blocks v (with_cells v.blocks l.number (block_cells s (set array.elements k x)))) →
      DoesAt functions limit st (with_blocks v (with_cells v.blocks l.number (block_cells s (set array.elements k x)))) lines
      braces r) →
      DoesAt functions limit st v (flats (store (Some s) (array_number q n) at a d ∷ []) ++ lines) braces r
  store_does sort.Exact is sh long_text behind = number_stored sort.Exact refl refl refl is sh.value sh.of long_text behind
  store_does sort.Int is sh long_text behind = number_stored sort.Int refl refl refl is sh.value sh.of long_text behind
  store_does sort.Log is sh long_text behind = number_stored sort.Log refl refl refl is sh.value sh.of long_text behind
  store_does sort.Text is sh long_text behind =
      let sight : held v.blocks (block_of sort.Text v (array_number q n)) ≡ Some (block_cells sort.Text array.elements) =
      kin.arrays.seen n sort.Text is ∙ ap (cells_held sort.Text) there in
      let l = living v.blocks (block_of sort.Text v (array_number q n)) (block_cells sort.Text array.elements) sight in
      let long : k < length (map text_of array.elements) = subst (λ m. k < m) (sym (length-map array.elements text_of)) inside in
      row_gives (step_store_text (array_number q n) at d) [] lines
      (change_there v.blocks (block_at v.text_blocks (array_number q n)) l.number (Texts (map text_of array.elements))
      (block_cells sort.Text (set array.elements k x))
      (machine.store_text (value_of v at) (bytes_of v d)) l.named l.there
      (store_text_within (map text_of array.elements) (value_of v at) (bytes_of v d) k placed long
      ∙ ap (λ z. Ok (Texts (set (map text_of array.elements) k z))) sh.value
      ∙ ap (λ (c : List (List ℕ)). Ok (Texts c)) (sym (map-set text_of array.elements k x))))
      (behind l (kin_stored n sort.Text is array there kin k x sh.of long_text l))

-- ---- the rows that store a value into an element, or into bytes of it

read_fit : (v : Variables) (d : TextAtom) (a : Atom) → text_read v (words.Fit d a) ≡ fitted (bytes_of v d) (value_of v a)
unfolding text_value
read_fit v d a = refl

read_over : (v : Variables) (d e : TextAtom) (a : Atom) →
    text_read v (words.Over d a e) ≡ replaced (bytes_of v d) (value_of v a) (bytes_of v e)
unfolding text_value
read_over v d e a = refl

abbrev with_stored : NestState → Name → Array → ℕ → Scalar → NestState
with_stored st n array number y = with_memory st (with_block (memory_of st.cells) n
    (with_elements (block_in (memory_of st.cells) n) array (set array.elements number y)))

module _ (functions : List Function) (limit : ℕ) (braces : List Brace) (r : Ran Halt NestState (Unit {0})) {q : Procedure}
    {around : Around} {st : NestState} (n : Name) (s : Sort) (is : sort_of_name q n ≡ Some s) (lines : List CodeLine)
    (array : Array) (there : (block_in (memory_of st.cells) n).held ≡ Some array) (number : ℕ)
    (inside : number < length array.elements) (x : Scalar) (nests t : ℕ) (free : first_free q ≤ t) {v : Variables}
    (kin : Kin q around st v) (at a : Atom) (d : TextAtom) (placed : value_of v at ≡ pos number)
    (shown : (u : Variables) → Keeps (suc t) v u → Shows s (value_of u a) (bytes_of u d) x) where
  abbrev old : Scalar
  old = element_in st n array number

  abbrev put_in : Option Portion → Scalar
  put_in portion = put_as n (blank_in st n) (part_bytes (portion_of st.cells.temps.setting portion)) old x

  -- what goes on with the new element
  abbrev Goes_on : Scalar → Type 0
  Goes_on y = (u : Variables) → Kin q around (with_stored st n array number y) u → Stays q nests t v u →
      DoesAt functions limit st u lines braces r

  store_plain : (portion : Option Portion) → is_own_text q n ≡ false → Goes_on (put_in portion) →
      DoesAt functions limit st v (flats (store (sort_of_name q n) (array_number q n) at a d ∷ []) ++ lines) braces r
  store_plain portion other next =
      let same : put_in portion ≡ x = put_plain q n s (blank_in st n) old x
      (part_bytes (portion_of st.cells.temps.setting portion)) other is (kin.arrays.plain n s is) in
      subst (λ o. DoesAt functions limit st v (flats (store o (array_number q n) at a d ∷ []) ++ lines) braces r) (sym is)
      (store_does n lines at a d array there kin number placed inside x s is (shown v (keeps_all (suc t) v))
      (λ i own text. absurd (not_own q n s other is i own text)) (λ l kin'.
      subst Goes_on same next (with_blocks v (with_cells v.blocks l.number (block_cells s (set array.elements number x)))) kin'
      (record { ints = λ y below from. refl; indices = λ y below. refl })))

  -- a text of the variable's length, which stands in variable t
  store_text : (own : OwnText q n) (u : Variables) → Kin q around st u → Stays q nests t v u → value_of u at ≡ pos number →
      (bytes : List ℕ) → text_at u.texts t ≡ bytes → length bytes ≡ length_of (blank_in st n) → Goes_on (scalar.Text bytes) →
      DoesAt functions limit st u
      (flats (store (Some sort.Text) (array_number q n) at a (text.Variable t) ∷ []) ++ lines) braces r
  store_text own u kin' stay placed' bytes value long next =
      store_does n lines at a (text.Variable t) array there kin' number placed' inside (scalar.Text bytes) sort.Text own.named
      (record { of = refl; value = value }) (λ i own' text. long) (λ l kin''.
      next (with_blocks u (with_cells u.blocks l.number (block_cells sort.Text (set array.elements number (scalar.Text bytes)))))
      kin'' (record { ints = stay.ints; indices = stay.indices }))

  fit_whole : (own : OwnText q n) → Goes_on (put_in None) →
      DoesAt functions limit st v (flats (say t (words.Fit d (atom.Int (length_number (array_number q n))))
      ∷ store (Some sort.Text) (array_number q n) at a (text.Variable t) ∷ []) ++ lines) braces r
  fit_whole own next =
      let text_sort : s ≡ sort.Text = some_is (sym is ∙ own.named) in
      let blank = blank_in st n in
      let known_it = known n s is array there kin own.number own.own text_sort in
      let size = length_of blank in
      let bytes = fit size (text_of x) in
      let same : put_in None ≡ scalar.Text bytes = put_own n own.number own.own blank old x None
      ∙ ap (λ y. changed y None old x) known_it.text in
      let sh : Shows sort.Text (value_of v a) (bytes_of v d) x = subst (λ k. Shows k (value_of v a) (bytes_of v d) x) text_sort
      (shown v (keeps_all (suc t) v)) in
      let length_there : number_at v.ints (length_number (array_number q n)) ≡ pos size =
      ap (λ k. number_at v.ints (length_number (array_number q k))) own.own ∙ known_it.length in
      row_gives (step_text t (words.Fit d (atom.Int (length_number (array_number q n)))))
      (store (Some sort.Text) (array_number q n) at a (text.Variable t) ∷ []) lines
      (read_fit v d (atom.Int (length_number (array_number q n))) ∙ ap (λ b. fitted b (number_at v.ints
      (length_number (array_number q n)))) sh.value ∙ ap (λ z. fitted (text_of x) z) length_there)
      (store_text own (with_text v t bytes) (kin_text t bytes free kin)
      (record { ints = λ y below from. refl; indices = λ y below. refl }) placed bytes (with_at_same [] v.texts t bytes)
      (length-fit size (text_of x)) (subst Goes_on same next))

  fit_part : (own : OwnText q n) (p : Portion) → fits_amount q p.first ≡ true → fits_amount q p.last ≡ true →
      is_part (length_of (blank_in st n)) (portion_of st.cells.temps.setting (Some p)) ≡ true →
      ((u : Variables) (z : ℤ) → value_of (with_int u (suc (suc t)) z) at ≡ value_of u at) → Goes_on (put_in (Some p)) →
      DoesAt functions limit st v (flats (stored_lines q n t at true (Some p) a d) ++ lines) braces r
  fit_part own p low high parted still next =
      let text_sort : s ≡ sort.Text = some_is (sym is ∙ own.named) in
      let blank = blank_in st n in
      let known_it = known n s is array there kin own.number own.own text_sort in
      let reference = array_number q n in
      let first = amount_atom q p.first in
      let last = amount_atom q p.last in
      let f = amount st.cells.temps.setting p.first in
      let l = amount st.cells.temps.setting p.last in
      let places = part f l in
      let before = text_of old in
      let old_long : length before ≡ length_of blank = element_long n s is array there number inside kin own in
      let long : length_of blank ≤ length before = omega (arith, old_long) in
      let bytes = part_of before places.0 places.1 in
      let new = fit (length bytes) (text_of x) in
      let all = replaced_is before new (length_of blank) f l long parted (length-fit (length bytes) (text_of x)) in
      let result = over before places.0 new in
      let same : put_in (Some p) ≡ scalar.Text result =
      put_own n own.number own.own blank old x (part_bytes (Some (f, l)))
      ∙ ap (λ e. changed blank e old x) (part_is f l) ∙ ap (λ y. changed y (Some places) old x) known_it.text in
      let one = suc t in
      let two = suc (suc t) in
      let v1 = with_text v one before in
      let v2 = with_text v1 two bytes in
      let v3 = with_int v2 two (pos (length bytes)) in
      let v4 = with_text v3 t new in
      let v5 = with_text v4 t result in
      let kin1 = kin_text one before (omega (arith, free)) kin in
      let kin2 = kin_text two bytes (omega (arith, free)) kin1 in
      let kin3 = kin_int two (pos (length bytes)) (omega (arith, free)) kin2 in
      let kin4 = kin_text t new free kin3 in
      let kin5 = kin_text t result free kin4 in
      let keep3 : Keeps one v v3 = keeps_then (keeps_text one v before)
      (keeps_then (keeps_less (omega arith) (keeps_text two v1 bytes)) (keeps_less (omega arith) (keeps_int two v2 (pos (length bytes)))))
      in
      let sh : Shows sort.Text (value_of v3 a) (bytes_of v3 d) x = subst (λ k. Shows k (value_of v3 a) (bytes_of v3 d) x) text_sort
      (shown v3 keep3) in
      let apart : two ≢ one = omega arith in
      let below : t ≢ one = omega arith in
      let there1 : text_at v1.texts one ≡ before = with_at_same [] v.texts one before in
      let there2 : text_at v2.texts one ≡ before = with_at_other [] v1.texts two one bytes apart ∙ there1 in
      let there4 : text_at v4.texts one ≡ before = with_at_other [] v3.texts t one new below ∙ there2 in
      let sight : held v.blocks (block_of sort.Text v reference) ≡ Some (block_cells sort.Text array.elements) =
      kin.arrays.seen n sort.Text own.named ∙ ap (cells_held sort.Text) there in
      let many : number < length (map text_of array.elements) = subst (λ m. number < m) (sym (length-map array.elements text_of)) inside
      in
      let tail5 = store (Some sort.Text) reference at a (text.Variable t) ∷ [] in
      let tail4 = say t (words.Over (text.Variable one) first (text.Variable t)) ∷ tail5 in
      let tail3 = say t (words.Fit d (atom.Int two)) ∷ tail4 in
      let tail2 = set_row two (int_row.Length (text.Variable two)) ∷ tail3 in
      let tail1 = say two (words.Part (text.Variable one) first last) ∷ tail2 in
      row_gives (step_text one (words.Cell reference at)) tail1 lines
      (read_text_cell v reference at
      ∙ ap (λ cells. and_then cells (λ c. text_cell c (value_of v at)))
      (texts_there v.blocks (block_at v.text_blocks reference) (map text_of array.elements) sight)
      ∙ text_within (map text_of array.elements) (value_of v at) number placed many
      ∙ ap Ok (get_or-map text_of array.elements number blank [] inside))
      (row_gives (step_text two (words.Part (text.Variable one) first last)) tail2 lines
      (read_part v1 (text.Variable one) first last ∙ ap (λ b. sub b (value_of v1 first) (value_of v1 last)) there1
      ∙ ap (λ z. sub before z (value_of v1 last)) (amount_shown p.first low kin1)
      ∙ ap (λ z. sub before f z) (amount_shown p.last high kin1) ∙ sub_is before (length_of blank) f l long parted)
      (row_gives (step_int two (int_row.Length (text.Variable two))) tail3 lines
      (read_length v2 (text.Variable two) ∙ ap (λ (b : List ℕ). Ok (pos (length b))) (with_at_same [] v1.texts two bytes))
      (row_gives (step_text t (words.Fit d (atom.Int two))) tail4 lines
      (read_fit v3 d (atom.Int two) ∙ ap (λ b. fitted b (number_at v3.ints two)) sh.value
      ∙ ap (λ z. fitted (text_of x) z) (with_at_same (pos 0) v2.ints two (pos (length bytes))))
      (row_gives (step_text t (words.Over (text.Variable one) first (text.Variable t))) tail5 lines
      (read_over v4 (text.Variable one) (text.Variable t) first
      ∙ ap (λ b. replaced b (value_of v4 first) (text_at v4.texts t)) there4
      ∙ ap (λ z. replaced before z (text_at v4.texts t)) (amount_shown p.first low kin4)
      ∙ ap (λ b. replaced before f b) (with_at_same [] v3.texts t new) ∙ all.is)
      (store_text own v5 kin5 (record {
        ints = λ y less from. let ne : two ≢ y = omega (arith, less) in with_at_other (pos 0) v2.ints two y (pos (length bytes)) ne;
        indices = λ y less. refl;
      }) (still v2 (pos (length bytes)) ∙ placed) result (with_at_same [] v4.texts t result) (all.long ∙ old_long)
      (subst Goes_on same next))))))

  pub stored_does : (portion : Option Portion) → fits_portion q n portion ≡ true →
      is_part (length_of (blank_in st n)) (portion_of st.cells.temps.setting portion) ≡ true →
      ((u : Variables) (z : ℤ) → value_of (with_int u (suc (suc t)) z) at ≡ value_of u at) → Goes_on (put_in portion) →
      DoesAt functions limit st v (flats (stored_lines q n t at (is_own_text q n) portion a d) ++ lines) braces r
  stored_does portion fits parted still next = by (is_own_text q n) refl portion fits parted next
    where
      by : (b : Bool) → is_own_text q n ≡ b → (portion : Option Portion) → fits_portion q n portion ≡ true →
          is_part (length_of (blank_in st n)) (portion_of st.cells.temps.setting portion) ≡ true → Goes_on (put_in portion) →
          DoesAt functions limit st v (flats (stored_lines q n t at b portion a d) ++ lines) braces r
      by false e portion' fits' parted' next' = store_plain portion' e next'
      by true e None fits' parted' next' = fit_whole (own_text q n e) next'
      by true e (Some p) fits' parted' next' =
          let two = and_parts (is_own_text q n && fits_amount q p.first) (fits_amount q p.last) fits' in
          let one = and_parts (is_own_text q n) (fits_amount q p.first) two.0 in
          fit_part (own_text q n e) p one.1 two.1 parted' still next'

-- ---- names

abbrev free_row : Option Sort → ℕ → Stmt
free_row o array = stmt.Row (row.Block (block_row.Free (reference_to o array)))

freed_is : (o : Option Array) (other new : Memory) → on o (λ a. Some other) ≡ Some new → (a : Array) × (o ≡ Some a) × (other ≡ new)
freed_is None other new h = cc
freed_is (Some a) other new h = (a, refl, some_is h)

declared_sort : (f : Role → Bool) (o : Option Declared) (r : Role) → (is_some o && f r) ≡ true →
    (s : Sort) × (of_declared None (λ d. Some (sort_of_type d.of)) o ≡ Some s)
declared_sort f None r h = cc
declared_sort f (Some d) r h = (sort_of_type d.of, refl)

block_sort : (temp : Bool) (o : Option Sort) → (is_some o && temp) ≡ true → (s : Sort) × (o ≡ Some s)
block_sort temp None h = cc
block_sort temp (Some s) h = (s, refl)

-- an array that something may be done with has a sort
pub named_sort : (f : Role → Bool) (q : Procedure) (n : Name) → of_name true f q n ≡ true →
    (s : Sort) × (sort_of_name q n ≡ Some s)
named_sort f q (name.Own i) h = declared_sort f (slice_get q.variables i) (role_of q i) h
named_sort f q (name.Temp i) h = block_sort true (slice_get q.blocks i) h

-- ---- a piece

place_still : (q : Procedure) (nests t : ℕ) (dimensions : List Dimension) (u : Variables) (z : ℤ) →
    value_of (with_int u (suc t) z) (place_atom q nests t dimensions) ≡ value_of u (place_atom q nests t dimensions)
place_still q nests t [] u z = refl
place_still q nests t (d ∷ more) u z = let ne : suc t ≢ t = omega arith in with_at_other (pos 0) u.ints (suc t) t z ne

module _ (functions : List Function) (limit : ℕ) (c : Scope) (nests : ℕ) (calls : Caller) (turn : List ℕ) (target : Access)
    (access : emits_access target ≡ true) (fits : fits_access c target ≡ true) (s : Sort)
    (named : sort_of_name c.own target.name ≡ Some s) where
  -- a value that stands in its atom, into the element
  placed_does : (t : ℕ) → first_free c.own ≤ t → {around : Around} {m : NestState} {u : Variables} → Kin c.own around m u →
      AtTurn nests c.loops turn u →
      (a : Atom) (d : TextAtom) (z : Scalar) →
      ((u' : Variables) → Keeps (suc t) u u' → Shows s (value_of u' a) (bytes_of u' d) z) →
      (lines : List CodeLine) (braces : List Brace) (go : Unit {0} → Step (Unit {0})) →
      ((m' : NestState) (u' : Variables) → Kin c.own around m' u' → Stays c.own nests t u u' →
      DoesAt functions limit m' u' lines braces (go tt m')) →
      DoesAt functions limit m u (flats (place_lines c.own nests (suc t) (array_number c.own target.name) 0 target.dimensions
      ++ stored_lines c.own target.name t (place_atom c.own nests (suc t) target.dimensions) (is_own_text c.own target.name)
      target.portion a d) ++ lines) braces
      ((put_if turn target (Some z) >>= go) m)
  placed_does t free {around} {m} {u} kin turned a d z shown lines braces go next =
      let q = c.own in
      let array = array_number q target.name in
      let both = and_parts (has_rank q target.name (length target.dimensions) && list_all
      (λ d'. fits_along c d'.along) target.dimensions)
      (fits_portion q target.name target.portion) fits in
      let alongs = and_parts (has_rank q target.name (length target.dimensions))
      (list_all (λ d'. fits_along c d'.along) target.dimensions) both.0 in
      let mem = memory_of m.cells in
      let at = place_atom q nests (suc t) target.dimensions in
      changes_does (stored_at turn target z) go m (λ new e.
      let aim = aiming (block_in mem target.name) (block_in mem target.name).held mem turn target
      (λ aim'. Some (stored target.name aim' z mem)) new e in
      let to = aim.0 in
      let stands : Stands s u.ints array to.array = subst (λ o. StandsIf s u.ints array o) to.there
      (kin.arrays.whole target.name s named) in
      let below = number_below to.array.bounds (subscripts mem.temps.setting turn target.dimensions) to.number to.placed in
      let rows = stored_lines q target.name t at (is_own_text q target.name) target.portion a d in
      subst (λ (nm : Memory). DoesAt functions limit m u
      (flats (place_lines q nests (suc t) array 0 target.dimensions ++ rows) ++ lines) braces (go tt (with_memory m nm)))
      (some_is aim.1)
      (parts (place_lines q nests (suc t) array 0 target.dimensions) rows lines
      (place_does c nests turn array (array_below q target.name s named) (suc t) u (flats rows ++ lines) 0 target.dimensions
      (omega (arith, free)) kin turned access alongs.1
      to.array.bounds (omega (arith, stands.rank)) stands.bounds to.number to.placed (λ u' k' keep number.
      let few : to.number < 9223372036854775808 = omega (arith, below, stands.small) in
      let inside : to.number < length to.array.elements = subst (λ i. to.number < i) (sym stands.sized) below in
      let y = put_as target.name (blank_in m target.name) (part_bytes (portion_of mem.temps.setting target.portion))
      (element_in m target.name to.array to.number) z in
      stored_does functions limit braces (go tt (with_stored m target.name to.array to.number y)) target.name s named lines to.array to.there to.number inside z nests t free k' at a d
      (number ∙ small_wrap to.number few) (λ w keep'. shown w (keeps_then keep keep')) target.portion both.1 to.part
      (place_still q nests (suc t) target.dimensions) (λ w kin' stay.
      next (with_stored m target.name to.array to.number y) w kin' (stays_then (stays_kept (keeps_less (omega arith) keep)) stay))))))

  module _ (line : ℕ) (x : Tree) (emits : emits_tree x ≡ true) (r : Sort) (typed : sort_of c x ≡ Some r)
      (serves_it : serves r s ≡ true) where
    abbrev put_it : Option Scalar → Step (Unit {0})
    put_it = put_if turn target

    -- the value of the piece, and its store
    valued_does : (t : ℕ) → first_free c.own ≤ t → {around : Around} {n : NestState} {w : Variables} → Kin c.own around n w →
        AtTurn nests c.loops turn w →
        (lines : List CodeLine) (braces : List Brace) (go : Unit {0} → Step (Unit {0})) →
        ((m : NestState) (u : Variables) → Kin c.own around m u → Stays c.own nests t w u →
        DoesAt functions limit m u lines braces (go tt m)) →
        DoesAt functions limit n w (flats (at_line line ∷ store_lines c nests t target x) ++ lines) braces
        ((where_true cells_of c.unit.constants (applied calls) line turn x true >>= (λ y. put_it y >>= go)) n)
    valued_does t free {around} {n} {w} kin turned lines braces go next =
        let a = atom_of c nests t x in
        let d = words_of c nests t x in
        let more = place_lines c.own nests (suc t) (array_number c.own target.name) 0 target.dimensions
        ++ stored_lines c.own target.name t (place_atom c.own nests (suc t) target.dimensions) (is_own_text c.own target.name)
        target.portion a d in
        let asked : gives c x s ≡ true = ap (λ o. some_serves o s) typed ∙ serves_it in
        regroup (evaluated functions limit c nests calls turn line x) (λ z. pure (Some z)) (λ y. put_it y >>= go) n
        (value_does functions limit c nests calls turn line x emits s asked t free kin turned more lines
        (λ z. pure (Some z) >>= (λ y. put_it y >>= go)) (λ m u z k stay at turn' sh.
        pured (Some z) (λ y. put_it y >>= go) m
        (placed_does t free k turn' a d z
        (λ u' keep. let same = steady c nests t x r typed free keep in shows_as same.0 same.1 sh) lines braces go
        (λ m' u' k' stay'. next m' u' k' (stays_then stay stay')))))

-- the sort of an array, and that of a value that may be stored into it
record StoredSort (c : Scope) (n : Name) (x : Tree) : Type 0 where
  of : Sort
  named : sort_of_name c.own n ≡ Some of
  from : Sort
  typed : sort_of c x ≡ Some from
  fits : serves from of ≡ true

stored_by : (o p : Option Sort) → served_by o p ≡ true →
    (of : Sort) × (o ≡ Some of) × ((from : Sort) × (p ≡ Some from) × (serves from of ≡ true))
stored_by None p h = cc
stored_by (Some of) None h = cc
stored_by (Some of) (Some from) h = (of, refl, (from, refl, h))

stored_sort : (c : Scope) (n : Name) (x : Tree) → stores_in c n x ≡ true → StoredSort c n x
stored_sort c n x h =
    let two = and_parts (may_store c.own n) (served_by (sort_of_name c.own n) (sort_of c x)) h in
    let is = stored_by (sort_of_name c.own n) (sort_of c x) two.1 in
    record { of = is.0; named = is.1; from = is.2.0; typed = is.2.1; fits = is.2.2 }

module _ (functions : List Function) (limit : ℕ) (c : Scope) (nests : ℕ) (calls : Caller) (turn : List ℕ) (depth : Option ℕ) where
  abbrev where_it : ℕ → Tree → Bool → Step (Option Scalar)
  where_it line x b = where_true cells_of c.unit.constants (applied calls) line turn x b

  -- a guard in front of a piece
  guarded_does : (guard : Option Guard) → emits_guard guard ≡ true → fits_guard c guard ≡ true →
      (target : Access) (line : ℕ) (x : Tree)
      (t : ℕ) → first_free c.own ≤ t → {around : Around} {n : NestState} {w : Variables} → Kin c.own around n w →
      AtTurn nests c.loops turn w →
      (lines : List CodeLine) (braces : List Brace) (go : Unit {0} → Step (Unit {0})) →
      ((m : NestState) (u : Variables) → Kin c.own around m u → AtTurn nests c.loops turn u →
      (ls : List CodeLine) (bs : List Brace) →
      ((m' : NestState) (u' : Variables) → Kin c.own around m' u' → Stays c.own nests t u u' →
      DoesAt functions limit m' u' ls bs (go tt m')) →
      DoesAt functions limit m u (flats (at_line line ∷ store_lines c nests t target x) ++ ls) bs
      ((where_it line x true >>= (λ y. put_if turn target y >>= go)) m)) →
      ((m : NestState) (u : Variables) → Kin c.own around m u → Stays c.own nests t w u →
      DoesAt functions limit m u lines braces (go tt m)) →
      DoesAt functions limit n w (flats (piece_lines c nests t target guard line x) ++ lines) braces
      ((guarded cells_of c.unit.constants (applied calls) line turn guard x >>= (λ y. put_if turn target y >>= go)) n)
  guarded_does None emits fits target line x t free {around} {n} {w} kin turned lines braces go valued next = valued n w kin
      turned lines braces next
  guarded_does (Some guard) emits fits target line x t free {around} {n} {w} kin turned lines braces go valued next =
      let a = atom_of c nests t guard.test in
      let body = at_line line ∷ store_lines c nests t target x in
      let k = λ (y : Option Scalar). put_if turn target y >>= go in
      regroup (evaluated functions limit c nests calls turn guard.line guard.test) (λ b. where_it line x (truth_of b)) k n
      (value_does functions limit c nests calls turn guard.line guard.test emits sort.Log fits t free kin turned
      (stmt.If a body ∷ []) lines
      (λ b. where_it line x (truth_of b) >>= k) (λ m u z kin' stay at turn' sh.
      if_does a body [] lines
      (λ h. told (ap (λ b. (where_it line x b >>= k) m) (is_true sh h))
      (valued m u kin' turn' (code.Close ∷ lines) (Choice ∷ braces)
      (λ m' u' kin'' stay'. behind_close lines (next m' u' kin'' (stays_then stay stay')))))
      (λ h. told (ap (λ b. (where_it line x b >>= k) m) (is_true sh h)) (pured None k m (pured tt go m (next m u kin' stay))))))

  pub piece_law : (p : Piece) → emits_piece p ≡ true → fits_access c p.target ≡ true → fits_guard c p.guard ≡ true →
      stores_in c p.target.name p.value ≡ true →
      Performs functions limit c nests calls turn depth (Store p)
  piece_law p emits access guard value = record {
    does = λ t free {around} {n} {w} enough kin turned {lines} {braces} go out next.
        let last = λ (done : Unit {0}). pure Next >>= go in
        let three = and_parts (emits_access p.target && emits_guard p.guard) (emits_tree p.value) emits in
        let two = and_parts (emits_access p.target) (emits_guard p.guard) three.0 in
        let to = stored_sort c p.target.name p.value value in
        let guarding = guarded cells_of c.unit.constants (applied calls) p.line turn p.guard p.value in
        regroup_next (piece_acts c.unit.constants calls turn p) (pure Next) go n
        (regroup_next (reads (λ m. is_aimed m turn p.target)) (guarding >>= put_if turn p.target) last n
        (sees_it (λ m. is_aimed m turn p.target) (λ done. (guarding >>= put_if turn p.target) >>= last) n (λ done e.
        regroup guarding (put_if turn p.target) last n
        (guarded_does p.guard two.1 guard p.target p.line p.value t free kin turned lines braces last
        (λ m u kin' turn' ls bs behind.
        valued_does functions limit c nests calls turn p.target two.0 access to.of to.named p.line p.value three.1 to.from
        to.typed to.fits
        t free kin' turn' ls bs last behind)
        (λ m u kin' stay. pured Next go m (next m u kin' stay))))));
  }

  -- ---- an array that is freed

  pub free_law : (line : ℕ) (n : Name) → may_free c.own n ≡ true → Performs functions limit c nests calls turn depth (Free line n)
  free_law line name fits = record {
    does = λ t free {around} {n} {w} enough kin turned {lines} {braces} go out next.
        let q = c.own in
        let s = named_sort is_own_role q name fits in
        let array = array_number q name in
        let mem = memory_of n.cells in
        let v = record w { line = line } in
        let kin' = kin_line line kin in
        regroup_next (changes (freed name)) (pure Next) go n
        (changes_does (freed name) (λ done. pure Next >>= go) n (λ new e.
        let held_it = freed_is (block_in mem name).held (with_block mem name (without_array (block_in mem name))) new e in
        subst (λ (nm : Memory). DoesAt functions limit n w (flats (lines_of c nests t (Free line name)) ++ lines) braces
        ((pure Next >>= go) (with_memory n nm))) held_it.2
        (pured Next go (with_memory n (with_block mem name (without_array (block_in mem name))))
        (line_does line (free_row (sort_of_name q name) array ∷ []) lines
        (subst (λ o. DoesAt functions limit n v (flats (free_row o array ∷ []) ++ lines) braces
        (go Next (with_memory n (with_block mem name (without_array (block_in mem name)))))) (sym s.1)
        (let sight : held v.blocks (block_of s.0 v array) ≡ Some (block_cells s.0 held_it.0.elements) = kin'.arrays.seen name s.0
        s.1 ∙ ap (cells_held s.0) held_it.1 in
        let l = living v.blocks (block_of s.0 v array) (block_cells s.0 held_it.0.elements) sight in
        let same = reference_is s.0 v array ∙ l.named in
        row_gives (step_free (reference_to (Some s.0) array)) [] lines
        (cells_there v.blocks (number_of v (reference_to (Some s.0) array)) l.number (block_cells s.0 held_it.0.elements) same
        l.there)
        (subst (λ bs. DoesAt functions limit n (with_blocks v bs) lines braces
        (go Next (with_memory n (with_block mem name (without_array (block_in mem name))))))
        (sym (freed_there v.blocks (number_of v (reference_to (Some s.0) array)) l.number same))
        (next (with_memory n (with_block mem name (without_array (block_in mem name)))) (with_blocks v (without v.blocks l.number))
        (kin_freed name s.0 s.1 held_it.0 held_it.1 kin' l) (record { ints = λ x h g. refl; indices = λ x h. refl })))))))));
  }

  -- ---- an element by its number

  pub store_cell_law : (line : ℕ) (n : Name) (i x : Tree) → (emits_tree i && emits_tree x) ≡ true →
      (gives c i sort.Exact && stores_in c n x) ≡ true → Performs functions limit c nests calls turn depth (StoreCell line n i x)
  store_cell_law line n i x emits fits = record {
    does = λ t free {around} {n = st} {w} enough kin turned {lines} {braces} go out next.
        let both = and_parts (emits_tree i) (emits_tree x) emits in
        let fit = and_parts (gives c i sort.Exact) (stores_in c n x) fits in
        let to = stored_sort c n x fit.1 in
        let si = served (sort_of c i) sort.Exact fit.0 in
        let q = c.own in
        let array = array_number q n in
        let a = atom_of c nests t i in
        let b = atom_of c nests (suc t) x in
        let d = words_of c nests (suc t) x in
        let free' : first_free q ≤ suc t = omega (arith, free) in
        let asked : gives c x to.of ≡ true = ap (λ o. some_serves o to.of) to.typed ∙ to.fits in
        let rows = stored_lines q n (suc t) a (is_own_text q n) None b d in
        let f = λ (z y : Scalar) (m : Memory). stored_cell n (integer_of z) y m in
        let rest = λ (z : Scalar). evaluated functions limit c nests calls turn line x >>= (λ y. changes (f z y) >> pure Next) in
        regroup (evaluated functions limit c nests calls turn line i) rest go st
        (value_does functions limit c nests calls turn line i both.0 sort.Exact fit.0 t free kin turned
        (tree_lines c nests (suc t) x ++ rows) lines
        (λ z. rest z >>= go) (λ m u z k stay at turn' sh.
        regroup (evaluated functions limit c nests calls turn line x) (λ y. changes (f z y) >> pure Next) go m
        (parts (tree_lines c nests (suc t) x) rows lines
        (gives_served (tree_does functions limit c nests calls line turn x both.1) to.of asked (suc t) free' k turn' at
        (λ y. (changes (f z y) >> pure Next) >>= go) (λ m' u' y k' keep sh'.
        regroup_next (changes (f z y)) (pure Next) go m'
        (changes_does (f z y) (λ done. pure Next >>= go) m' (λ new e.
        let mem = memory_of m'.cells in
        let v = block_in mem n in
        let el = numbering v v.held (integer_of z) (λ aim. Some (stored n aim y mem)) new e in
        let stands : Stands to.of u'.ints array el.0.array = subst (λ o. StandsIf to.of u'.ints array o) el.0.there
        (k'.arrays.whole n to.of to.named) in
        let inside : el.0.number < length el.0.array.elements = subst (λ l. el.0.number < l) (sym stands.sized) el.0.inside in
        let final = with_stored m' n el.0.array el.0.number
        (put_as n (blank_in m' n) None (element_in m' n el.0.array el.0.number) y) in
        subst (λ (nm : Memory). DoesAt functions limit m' u' (flats rows ++ lines) braces
        ((pure Next >>= go) (with_memory m' nm))) (some_is el.1)
        (pured Next go final
        (stored_does functions limit braces (go Next final) n to.of to.named lines el.0.array el.0.there el.0.number inside y nests (suc t) free' k' a b d
        ((steady c nests t i si.sort si.is free keep).0 ∙ exact_shown sh ∙ el.0.index)
        (λ u'' keep'. let same = steady c nests (suc t) x to.from to.typed free' keep' in shows_as same.0 same.1 sh') None refl refl
        (λ u'' z'. (steady c nests t i si.sort si.is free
        (keeps_less {t = suc t} (omega arith) (keeps_int (suc (suc (suc t))) u'' z'))).0) (λ u'' kin' stay'.
        next final u'' kin' (stays_then stay (stays_then (stays_kept (keeps_less (omega arith) keep)) (stays_less (omega arith) stay')))))))))))));
  }
