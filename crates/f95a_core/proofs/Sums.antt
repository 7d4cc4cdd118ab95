-- The lines of a right side leave its element in the atom that is stored.
use Rattle.std.proofs.Common.{◌≡◌, ◌≢◌, ℕ, ◌<◌, ◌≤◌, Bool, true, false, List, [], ◌∷◌, ◌++◌, Option, Some, Ok, Err, refl, ap, ◌∙◌}
use Rattle.std.proofs.Common.{sym, subst, arith, ℤ, pos, length, nat_lt}
use Rattle.std.specs.Prelude.{if◌then◌else◌, fold, ◌+ℤ◌, ◌-ℤ◌, ◌*ℤ◌}
use Rattle.std.specs.Int.{w64, int_wrap}
use Rattle.std.proofs.lemmas.Bool.Decides.{nat_tests}
use Rattle.a95_base.specs.Integer.{wrapped, product_of}
use Rattle.a95_base.specs.Lists.{Every}
use Rattle.rank_one.specs.declared.unit.Sum.{Sum}
use Rattle.rank_one.specs.declared.unit.Addend.{Addend}
use Rattle.rank_one.specs.declared.unit.Term.{Term}
use Rattle.rank_one.specs.declared.unit.Factor.{Factor}
use Rattle.rank_one.specs.declared.unit.Factor.TheVariants as factor
use Rattle.rank_one.specs.Meaning.{array_at, added}
use Rattle.loop_tree.specs.declared.stuck.StuckState.TheVariants as stuck
use Rattle.loop_tree.specs.declared.atom.Atom.{Atom}
use Rattle.loop_tree.specs.declared.atom.Atom.TheVariants as atom
use Rattle.loop_tree.specs.declared.atom.Operator.{Operator}
use Rattle.loop_tree.specs.declared.atom.Operator.TheVariants as operator
use Rattle.loop_tree.specs.declared.row.IntValue.{IntValue}
use Rattle.loop_tree.specs.declared.row.IntValue.TheVariants as int
use Rattle.loop_tree.specs.declared.row.Row.TheVariants as row
use Rattle.loop_tree.specs.declared.tree.CodeLine.{CodeLine}
use Rattle.loop_tree.specs.declared.tree.CodeLine.TheVariants as code
use Rattle.loop_tree.specs.declared.tree.Stmt.{Stmt}
use Rattle.loop_tree.specs.declared.tree.Function.{Function}
use Rattle.loop_tree.specs.Lines.{flats}
use Rattle.loop_tree.specs.State.{Brace, Cells, Ints, Block, Goes, with_at, cells_numbered, cells_or_stuck}
use Rattle.loop_tree.specs.Values.{number_at, block_at, atom_in, and_then, ints_at, ints_of, int_cell}
use Rattle.loop_tree.specs.Machine.{step}
use Rattle.f95a_core.specs.Lowered.{set_row, load, factor_atom, times, product_code, product_atom, term_code, term_atom, sign, plus}
use Rattle.f95a_core.specs.Lowered.{addends_code, addends_atom, sum_code, sum_atom, is_factor, value_code, value_atom}
use Rattle.loop_laws.proofs.Braces.{first_row, split}
use Rattle.f95a_core.proofs.Reaching.{Good, silent}
use Rattle.f95a_core.proofs.Rows.{Vars, at, step_wrap, step_multiply, step_add, step_subtract, step_cell}
use Rattle.loop_laws.proofs.Numbered.{with_at_same, with_at_other}

-- ---- the element of a right side at a place

abbrev pub factor_at : List (List ℤ) → ℕ → Factor → ℤ
factor_at arrays i (factor.Number n) = pos n
factor_at arrays i (factor.Array p) = number_at (array_at arrays p) i

abbrev pub term_from : List (List ℤ) → ℕ → ℤ → List Factor → ℤ
term_from arrays i x factors = fold (λ y f. product_of y (factor_at arrays i f)) x factors

abbrev pub term_at : List (List ℤ) → ℕ → Term → ℤ
term_at arrays i term = term_from arrays i (factor_at arrays i term.first) term.rest

abbrev pub sum_from : List (List ℤ) → ℕ → ℤ → List Addend → ℤ
sum_from arrays i x addends = fold (λ y a. added a.minus y (term_at arrays i a.term)) x addends

abbrev pub sum_at : List (List ℤ) → ℕ → Sum → ℤ
sum_at arrays i sum = sum_from arrays i (term_at arrays i sum.first) sum.rest

-- what the rows leave of a term and of a sum: the operations wrap at 64 bits alone
abbrev pub wide_term_from : List (List ℤ) → ℕ → ℤ → List Factor → ℤ
wide_term_from arrays i x factors = fold (λ y f. int_wrap w64 (y *ℤ factor_at arrays i f)) x factors

abbrev pub wide_term_at : List (List ℤ) → ℕ → Term → ℤ
wide_term_at arrays i term = wide_term_from arrays i (factor_at arrays i term.first) term.rest

abbrev pub either_way : Bool → ℤ → ℤ → ℤ
either_way true x y = x -ℤ y
either_way false x y = x +ℤ y

abbrev pub wide_sum_from : List (List ℤ) → ℕ → ℤ → List Addend → ℤ
wide_sum_from arrays i x addends = fold (λ y a. int_wrap w64 (either_way a.minus y (wide_term_at arrays i a.term))) x addends

abbrev pub wide_sum_at : List (List ℤ) → ℕ → Sum → ℤ
wide_sum_at arrays i sum = wide_sum_from arrays i (wide_term_at arrays i sum.first) sum.rest

-- and of the right side
abbrev pub stored_at : List (List ℤ) → ℕ → Sum → ℤ
stored_at arrays i sum = if is_factor sum then wide_sum_at arrays i sum else wrapped (wide_sum_at arrays i sum)

-- the place is one of each array that is named
abbrev pub FactorHas : List (List ℤ) → ℕ → Factor → Type 0
FactorHas arrays i (factor.Number n) = Unit {0}
FactorHas arrays i (factor.Array p) = (p < length arrays) × (i < length (array_at arrays p))

pub record TermHas (arrays : List (List ℤ)) (i : ℕ) (term : Term) : Type 0 where
  pub first : FactorHas arrays i term.first
  pub rest : Every (FactorHas arrays i) term.rest

pub record SumHas (arrays : List (List ℤ)) (i : ℕ) (sum : Sum) : Type 0 where
  pub first : TermHas arrays i sum.first
  pub rest : Every (λ (a : Addend). TermHas arrays i a.term) sum.rest

-- ---- the arrays in the blocks

-- array p is in block p, which bp leads to
pub record Holds (arrays : List (List ℤ)) (blocks : List Block) (references : List (Option ℕ)) (made : ℕ) : Type 0 where
  pub cells : (p : ℕ) → p < length arrays → cells_numbered blocks p ≡ Some (Ints (array_at arrays p))
  pub named : (p : ℕ) → p < length arrays → block_at references p ≡ Some p
  pub fewer : length arrays ≤ made

-- the integers of the block of a reference
pub ints_there : (blocks : List Block) (references : List (Option ℕ)) (b n : ℕ) (cells : List ℤ) → block_at references b ≡ Some n →
    cells_numbered blocks n ≡ Some (Ints cells)
    → ints_at blocks (block_at references b) ≡ Ok cells
ints_there blocks references b n cells named there =
    ap (λ (r : Option ℕ). ints_at blocks r) named ∙ ap (λ (o : Option Cells). and_then (cells_or_stuck o) ints_of) there

-- a cell within its block
pub cell_there : (cells : List ℤ) (z : ℤ) (i : ℕ) → z ≡ pos i → i < length cells → int_cell cells z ≡ Ok (number_at cells i)
cell_there cells z i e h =
    let within : nat_lt i (length cells) ≡ true = grind (arith, nat_tests) in
    ap (int_cell cells) e ∙ ap (λ (t : Bool). and_then (if t then Ok i else Err stuck.OutsideBlock) (λ p. Ok (number_at cells p)))
    within

module _ (functions : List Function) (final written : List ℕ) (cost : ℕ) where
  -- one row in front
  pub row_goes : (v w : Vars) (n : ℕ) (value : IntValue) (more : List Stmt) (rest : List CodeLine) (braces : List Brace)
      → step functions (at v (code.Row (row.Int n value) ∷ (flats more ++ rest)) braces)
      ≡ Goes false [] (at w (flats more ++ rest) braces)
      → Good functions final cost written (at w (flats more ++ rest) braces) →
      Good functions final cost written (at v (flats (set_row n value ∷ more) ++ rest) braces)
  row_goes v w n value more rest braces e g =
      subst (λ (ls : List CodeLine). Good functions final cost written (at v ls braces))
      (sym (first_row (row.Int n value) more rest))
      (silent functions final cost written (at v (code.Row (row.Int n value) ∷ (flats more ++ rest)) braces)
      (at w (flats more ++ rest) braces) e g)

  module _ (arrays : List (List ℤ)) (i : ℕ) (v : Vars) (holds : Holds arrays v.blocks v.references v.made)
      (is : number_at v.indices 1 ≡ pos i) (braces : List Brace) where
    abbrev with_ints : List ℤ → Vars
    with_ints ints = record v { ints = ints }

    -- from these integers on, the run is good
    abbrev Goes_on : List ℤ → List CodeLine → Type 0
    Goes_on ints rest = Good functions final cost written (at (record v { ints = ints }) rest braces)

    abbrev value_in : List ℤ → Atom → ℤ
    value_in ints a = atom_in ints v.indices a

    -- at most i_n and i2 have changed
    record Keeps (n : ℕ) (before after : List ℤ) : Type 0 where
      others : (p : ℕ) → n ≢ p → 2 ≢ p → number_at after p ≡ number_at before p

    keeps_all : (n : ℕ) (ints : List ℤ) → Keeps n ints ints
    keeps_all n ints = record { others = λ p h k. refl }

    keeps_set : (n : ℕ) (ints : List ℤ) (z : ℤ) → Keeps n ints (with_at (pos 0) ints n z)
    keeps_set n ints z = record { others = λ p h k. with_at_other (pos 0) ints n p z h }

    keeps_more : (n : ℕ) (a b c : List ℤ) → Keeps n a b → Keeps n b c → Keeps n a c
    keeps_more n a b c h k = record { others = λ p x y. k.others p x y ∙ h.others p x y }

    keeps_second : (n : ℕ) (a b : List ℤ) → Keeps 2 a b → Keeps n a b
    keeps_second n a b h = record { others = λ p x y. h.others p y y }

    -- an atom that does not change with them
    record Steady (n : ℕ) (a : Atom) : Type 0 where
      same : (before after : List ℤ) → Keeps n before after → value_in after a ≡ value_in before a

    steady_int : (n m : ℕ) → n ≢ m → 2 ≢ m → Steady n (atom.Int m)
    steady_int n m h k = record { same = λ before after kept. kept.others m h k }

    steady_factor : (n m : ℕ) → n ≢ m → 2 ≢ m → (f : Factor) → Steady n (factor_atom m f)
    steady_factor n m h k (factor.Number z) = record { same = λ before after kept. refl }
    steady_factor n m h k (factor.Array p) = steady_int n m h k

    steady_product : (n m : ℕ) → n ≢ m → 2 ≢ m → (left : Atom) → Steady n left → (fs : List Factor) →
        Steady n (product_atom m left fs)
    steady_product n m h k left st [] = st
    steady_product n m h k left st (f ∷ fs) = steady_product n m h k (atom.Int m) (steady_int n m h k) fs

    load_goes : (f : Factor) → FactorHas arrays i f → (n : ℕ) (ints : List ℤ) (more : List Stmt) (rest : List CodeLine)
        → ((after : List ℤ) → value_in after (factor_atom n f) ≡ factor_at arrays i f → Keeps n ints after →
        Goes_on after (flats more ++ rest))
        → Goes_on ints (flats (load n f ++ more) ++ rest)
    load_goes (factor.Number z) has n ints more rest go = go ints refl (keeps_all n ints)
    load_goes (factor.Array p) has n ints more rest go =
        let x = number_at (array_at arrays p) i in
        let after = with_at (pos 0) ints n x in
        row_goes (with_ints ints) (with_ints after) n (int.Cell p (atom.Loop 1)) more rest braces
        (step_cell functions (with_ints ints) (flats more ++ rest) braces n p (atom.Loop 1) (array_at arrays p) x
        (ints_there v.blocks v.references p p (array_at arrays p) (holds.named p has.0) (holds.cells p has.0))
        (cell_there (array_at arrays p) (number_at v.indices 1) i is has.1))
        (go after (with_at_same (pos 0) ints n x) (keeps_set n ints x))

    -- an operation on two atoms
    operation_goes : (n : ℕ) (left : Atom) (op : Operator) (right : Atom) (g : ℤ → ℤ → ℤ)
        → ((ints : List ℤ) (rest : List CodeLine) → step functions
        (at (with_ints ints) (code.Row (row.Int n (int.Operation left op right)) ∷ rest) braces)
        ≡ Goes false []
        (at (with_ints (with_at (pos 0) ints n (int_wrap w64 (g (value_in ints left) (value_in ints right))))) rest braces))
        → (ints : List ℤ) (x y : ℤ) → value_in ints left ≡ x → value_in ints right ≡ y → (rest : List CodeLine)
        → ((after : List ℤ) → number_at after n ≡ int_wrap w64 (g x y) → Keeps n ints after → Goes_on after rest)
        → Goes_on ints (flats (set_row n (int.Operation left op right) ∷ []) ++ rest)
    operation_goes n left op right g one ints x y first second rest go =
        let z = int_wrap w64 (g (value_in ints left) (value_in ints right)) in
        row_goes (with_ints ints) (with_ints (with_at (pos 0) ints n z)) n (int.Operation left op right) [] rest braces
        (one ints rest)
        (go (with_at (pos 0) ints n z)
        (with_at_same (pos 0) ints n z ∙ ap (λ k. int_wrap w64 (g k (value_in ints right))) first
        ∙ ap (λ k. int_wrap w64 (g x k)) second)
        (keeps_set n ints z))

    -- ---- terms, in i0 or i1

    module _ (n : ℕ) (apart : 2 ≢ n) where
      times_goes : (left : Atom) → Steady 2 left → (f : Factor) → FactorHas arrays i f → (x : ℤ) (ints : List ℤ) →
          value_in ints left ≡ x → (rest : List CodeLine)
          → ((after : List ℤ) → number_at after n ≡ int_wrap w64 (x *ℤ factor_at arrays i f) → Keeps n ints after →
          Goes_on after rest)
          → Goes_on ints (flats (times n left f) ++ rest)
      times_goes left steady f has x ints first rest go =
          let right = factor_atom 2 f in
          load_goes f has 2 ints (set_row n (int.Operation left operator.Multiply right) ∷ []) rest (λ mid second loaded.
          operation_goes n left operator.Multiply right (λ p q. p *ℤ q)
          (λ ints' behind. step_multiply functions (with_ints ints') behind braces n left right)
          mid x (factor_at arrays i f) (steady.same ints mid loaded ∙ first) second rest (λ after value kept.
          go after value (keeps_more n ints mid after (keeps_second n ints mid loaded) kept)))

      product_goes : (fs : List Factor) → Every (FactorHas arrays i) fs → (left : Atom) → Steady 2 left → (x : ℤ) (ints : List ℤ) →
          value_in ints left ≡ x → (rest : List CodeLine)
          → ((after : List ℤ) → value_in after (product_atom n left fs) ≡ wide_term_from arrays i x fs → Keeps n ints after →
          Goes_on after rest)
          → Goes_on ints (flats (product_code n left fs) ++ rest)
      product_goes [] has left steady x ints first rest go = go ints first (keeps_all n ints)
      product_goes (f ∷ fs) has left steady x ints first rest go =
          subst (λ (ls : List CodeLine). Goes_on ints ls) (sym (split (times n left f) (product_code n (atom.Int n) fs) rest))
          (times_goes left steady f has.0 x ints first (flats (product_code n (atom.Int n) fs) ++ rest) (λ mid now kept.
          product_goes fs has.1 (atom.Int n) (steady_int 2 n apart apart) (int_wrap w64 (x *ℤ factor_at arrays i f)) mid now rest
          (λ after last more.
          go after last (keeps_more n ints mid after kept more))))

      term_goes : (t : Term) → TermHas arrays i t → (ints : List ℤ) (rest : List CodeLine)
          → ((after : List ℤ) → value_in after (term_atom n t) ≡ wide_term_at arrays i t → Keeps n ints after → Goes_on after rest)
          → Goes_on ints (flats (term_code n t) ++ rest)
      term_goes t has ints rest go =
          load_goes t.first has.first n ints (product_code n (factor_atom n t.first) t.rest) rest (λ mid loaded kept.
          product_goes t.rest has.rest (factor_atom n t.first) (steady_factor 2 n apart apart t.first) (factor_at arrays i t.first)
          mid loaded rest (λ after last more.
          go after last (keeps_more n ints mid after kept more)))

    -- ---- sums, in i0

    one_not_zero : ◌≢◌ {A = ℕ} 1 0
    one_not_zero = omega arith

    two_not_zero : ◌≢◌ {A = ℕ} 2 0
    two_not_zero = omega arith

    two_not_one : ◌≢◌ {A = ℕ} 2 1
    two_not_one = omega arith

    plus_goes : (left : Atom) → Steady 1 left → (more : Addend) → TermHas arrays i more.term → (x : ℤ) (ints : List ℤ) →
        value_in ints left ≡ x → (rest : List CodeLine)
        → ((after : List ℤ) → number_at after 0 ≡ int_wrap w64 (either_way more.minus x (wide_term_at arrays i more.term)) →
        Goes_on after rest)
        → Goes_on ints (flats (plus left more) ++ rest)
    plus_goes left steady more has x ints first rest go =
        let right = term_atom 1 more.term in
        let last = set_row 0 (int.Operation left (sign more.minus) right) ∷ [] in
        subst (λ (ls : List CodeLine). Goes_on ints ls) (sym (split (term_code 1 more.term) last rest))
        (term_goes 1 two_not_one more.term has ints (flats last ++ rest) (λ mid second kept.
        by more.minus mid (steady.same ints mid kept ∙ first) second (λ after e. go after e)))
      where
        by : (minus : Bool) (mid : List ℤ) → value_in mid left ≡ x → value_in mid (term_atom 1 more.term)
            ≡ wide_term_at arrays i more.term
            → ((after : List ℤ) → number_at after 0 ≡ int_wrap w64 (either_way minus x (wide_term_at arrays i more.term)) →
            Goes_on after rest)
            → Goes_on mid (flats (set_row 0 (int.Operation left (sign minus) (term_atom 1 more.term)) ∷ []) ++ rest)
        by true mid one two go =
            operation_goes 0 left operator.Subtract (term_atom 1 more.term) (λ p q. p -ℤ q)
            (λ ints' behind. step_subtract functions (with_ints ints') behind braces 0 left (term_atom 1 more.term))
            mid x (wide_term_at arrays i more.term) one two rest (λ after value kept. go after value)
        by false mid one two go =
            operation_goes 0 left operator.Add (term_atom 1 more.term) (λ p q. p +ℤ q)
            (λ ints' behind. step_add functions (with_ints ints') behind braces 0 left (term_atom 1 more.term))
            mid x (wide_term_at arrays i more.term) one two rest (λ after value kept. go after value)

    addends_go : (more : List Addend) → Every (λ (a : Addend). TermHas arrays i a.term) more → (left : Atom) → Steady 1 left →
        (x : ℤ) (ints : List ℤ) → value_in ints left ≡ x → (rest : List CodeLine)
        → ((after : List ℤ) → value_in after (addends_atom left more) ≡ wide_sum_from arrays i x more → Goes_on after rest)
        → Goes_on ints (flats (addends_code left more) ++ rest)
    addends_go [] has left steady x ints first rest go = go ints first
    addends_go (a ∷ more) has left steady x ints first rest go =
        subst (λ (ls : List CodeLine). Goes_on ints ls) (sym (split (plus left a) (addends_code (atom.Int 0) more) rest))
        (plus_goes left steady a has.0 x ints first (flats (addends_code (atom.Int 0) more) ++ rest) (λ mid now.
        addends_go more has.1 (atom.Int 0) (steady_int 1 0 one_not_zero two_not_zero)
        (int_wrap w64 (either_way a.minus x (wide_term_at arrays i a.term))) mid now rest go))

    sum_goes : (s : Sum) → SumHas arrays i s → (ints : List ℤ) (rest : List CodeLine)
        → ((after : List ℤ) → value_in after (sum_atom s) ≡ wide_sum_at arrays i s → Goes_on after rest)
        → Goes_on ints (flats (sum_code s) ++ rest)
    sum_goes s has ints rest go =
        let left = term_atom 0 s.first in
        let steady = steady_product 1 0 one_not_zero two_not_zero (factor_atom 0 s.first.first)
        (steady_factor 1 0 one_not_zero two_not_zero s.first.first) s.first.rest in
        subst (λ (ls : List CodeLine). Goes_on ints ls) (sym (split (term_code 0 s.first) (addends_code left s.rest) rest))
        (term_goes 0 two_not_zero s.first has.first ints (flats (addends_code left s.rest) ++ rest) (λ mid value kept.
        addends_go s.rest has.rest left steady (wide_term_at arrays i s.first) mid value rest go))

    -- a right side is left in the atom that is stored
    pub value_goes : (s : Sum) → SumHas arrays i s → (ints : List ℤ) (rest : List CodeLine)
        → ((after : List ℤ) → atom_in after v.indices (value_atom s) ≡ stored_at arrays i s → Goes_on after rest)
        → Goes_on ints (flats (value_code s) ++ rest)
    value_goes s has ints rest go =
        let last = (if is_factor s then [] else set_row 0 (int.Wrap (sum_atom s)) ∷ []) in
        subst (λ (ls : List CodeLine). Goes_on ints ls) (sym (split (sum_code s) last rest))
        (sum_goes s has ints (flats last ++ rest) (λ mid value. by (is_factor s) mid value go))
      where
        by : (alone : Bool) (mid : List ℤ) → value_in mid (sum_atom s) ≡ wide_sum_at arrays i s
            → ((after : List ℤ) → value_in after (if alone then sum_atom s else atom.Int 0)
            ≡ (if alone then wide_sum_at arrays i s else wrapped (wide_sum_at arrays i s)) → Goes_on after rest)
            → Goes_on mid (flats (if alone then [] else set_row 0 (int.Wrap (sum_atom s)) ∷ []) ++ rest)
        by true mid value go = go mid value
        by false mid value go =
            let z = wrapped (value_in mid (sum_atom s)) in
            row_goes (with_ints mid) (with_ints (with_at (pos 0) mid 0 z)) 0 (int.Wrap (sum_atom s)) [] rest braces
            (step_wrap functions (with_ints mid) rest braces 0 (sum_atom s))
            (go (with_at (pos 0) mid 0 z) (with_at_same (pos 0) mid 0 z ∙ ap wrapped value))
