-- What the lines of a list of statements do is what the statements mean.
use Rattle.std.proofs.Common.{◌≡◌, ◌≢◌, ◌⊎◌, inl, inr, ℕ, zero, suc, ◌+◌, ◌<◌, ◌≤◌, ◌^◌, true, List, [], ◌∷◌}
use Rattle.std.proofs.Common.{◌++◌, refl, ap, ◌∙◌, sym, subst, arith, ℤ, pos, length, nat_le, nat_lt}
use Rattle.std.specs.Prelude.{set, fold}
use Rattle.std.specs.List.{flat_map, list_all}
use Rattle.std.proofs.lemmas.List.{get_or-set_same, get_or-set_other, get_or_past}
use Rattle.std.proofs.Math.ListN.{length-set}
use Rattle.std.proofs.lemmas.Bool.{leb-true, and_parts}
use Rattle.std.proofs.lemmas.Bool.Decides.{nat_tests}
use Rattle.a95_base.specs.Lists.{Every}
use Rattle.a95_base.proofs.Wrapping.{wrapped_small}
use Rattle.a95_base.proofs.Lists.{list_all_parts}
use Rattle.rank_one.specs.declared.unit.Array.{Array}
use Rattle.rank_one.specs.declared.unit.Statement.{Statement}
use Rattle.rank_one.specs.declared.unit.Action.{Action}
use Rattle.rank_one.specs.declared.unit.Action.TheVariants.{Assign, Print}
use Rattle.rank_one.specs.declared.unit.Sum.{Sum}
use Rattle.rank_one.specs.declared.unit.Addend.{Addend}
use Rattle.rank_one.specs.declared.unit.Term.{Term}
use Rattle.rank_one.specs.declared.unit.Factor.{Factor}
use Rattle.rank_one.specs.declared.unit.Factor.TheVariants as factor
use Rattle.rank_one.specs.Meaning as meaning
use Rattle.rank_one.specs.Meaning.{array_at, sum_value, elements, after}
use Rattle.rank_one.specs.Typed.{factors_of, factors_of_term, has_extent, is_typed_factor, extent_at, is_typed_action}
use Rattle.loop_tree.specs.declared.tree.CodeLine.{CodeLine}
use Rattle.loop_tree.specs.declared.tree.CodeLine.TheVariants as code
use Rattle.loop_tree.specs.declared.tree.Stmt.{Stmt}
use Rattle.loop_tree.specs.declared.tree.Function.{Function}
use Rattle.loop_tree.specs.Lines.{flats}
use Rattle.loop_tree.specs.State.{Brace}
use Rattle.loop_tree.specs.Values.{number_at}
use Rattle.f95a_core.specs.Lowered.{extent_of, action_code, statements_code}
use Rattle.f95a_core.proofs.Reaching.{Good, ended, cheaper}
use Rattle.f95a_core.proofs.Rows.{Vars, at, step_end}
use Rattle.f95a_core.proofs.Sums.{Holds}
use Rattle.f95a_core.proofs.Elements.{FactorFits, TermFits, SumFits, sum_shows, sum_int, IsInt}
use Rattle.f95a_core.proofs.Actions.{IsThere, shown_cost, assignment_does, printing_does}

-- ---- what a typed statement gives

pub extent_is : (decls : List Array) (p : ℕ) → extent_at decls p ≡ extent_of decls p
extent_is [] p = refl
extent_is (a ∷ decls) zero = refl
extent_is (a ∷ decls) (suc p) = extent_is decls p

-- an array of an extent is there, and has it
pub extent_there : (decls : List Array) (n p : ℕ) → has_extent decls n p ≡ true → (p < length decls) × (extent_of decls p ≡ n)
extent_there [] n p h = cc
extent_there (a ∷ decls) n zero h = let same : a.extent ≡ n = grind (arith, nat_tests) in (omega arith, same)
extent_there (a ∷ decls) n (suc p) h = let more = extent_there decls n p h in (omega (arith, more.0), more.1)

pub small_extent : (decls : List Array) (p : ℕ) → list_all (λ (a : Array). nat_le a.extent (2 ^ 24)) decls ≡ true →
    extent_of decls p ≤ 2 ^ 24
small_extent [] p h = omega arith
small_extent (a ∷ decls) zero h = let front =
    (and_parts (nat_le a.extent (2 ^ 24)) (list_all (λ (a : Array). nat_le a.extent (2 ^ 24)) decls) h).0 in
    leb-true a.extent (2 ^ 24) front
small_extent (a ∷ decls) (suc p) h =
    small_extent decls p (and_parts (nat_le a.extent (2 ^ 24)) (list_all (λ (a : Array). nat_le a.extent (2 ^ 24)) decls) h).1

-- the arrays of a state are those of the declarations
pub record Stands (decls : List Array) (arrays : List (List ℤ)) : Type 0 where
  pub counted : length arrays ≡ length decls
  pub sized : (p : ℕ) → length (array_at arrays p) ≡ extent_of decls p
  pub ints : (p i : ℕ) → IsInt (number_at (array_at arrays p) i)

module _ (decls : List Array) (arrays : List (List ℤ)) (stands : Stands decls arrays) (n : ℕ) where
  factor_fits : (f : Factor) → is_typed_factor decls n f ≡ true → FactorFits arrays n f
  factor_fits (factor.Number k) h = let small = leb-true k 2147483647 h in omega arith
  factor_fits (factor.Array p) h =
      let there = extent_there decls n p h in
      (subst (λ m. p < m) (sym stands.counted) there.0, stands.sized p ∙ there.1)

  factors_fit : (fs : List Factor) → list_all (is_typed_factor decls n) fs ≡ true → Every (FactorFits arrays n) fs
  factors_fit [] h = tt
  factors_fit (f ∷ fs) h = let parts = and_parts (is_typed_factor decls n f) (list_all (is_typed_factor decls n) fs) h in
      (factor_fits f parts.0, factors_fit fs parts.1)

  term_fits : (t : Term) → list_all (is_typed_factor decls n) (factors_of_term t) ≡ true → TermFits arrays n t
  term_fits t h = let parts = and_parts (is_typed_factor decls n t.first) (list_all (is_typed_factor decls n) t.rest) h in
      record { first = factor_fits t.first parts.0; rest = factors_fit t.rest parts.1 }

  addends_fit : (more : List Addend) → list_all (is_typed_factor decls n) (flat_map (λ (a : Addend). factors_of_term a.term) more)
      ≡ true → Every (λ (a : Addend). TermFits arrays n a.term) more
  addends_fit [] h = tt
  addends_fit (a ∷ more) h =
      let parts = list_all_parts (is_typed_factor decls n) (factors_of_term a.term)
      (flat_map (λ (a : Addend). factors_of_term a.term) more) h in
      (term_fits a.term parts.0, addends_fit more parts.1)

  sum_fits : (s : Sum) → list_all (is_typed_factor decls n) (factors_of s) ≡ true → SumFits arrays n s
  sum_fits s h =
      let parts = list_all_parts (is_typed_factor decls n) (factors_of_term s.first)
      (flat_map (λ (a : Addend). factors_of_term a.term) s.rest) h in
      record { first = term_fits s.first parts.0; rest = addends_fit s.rest parts.1 }

pub zero_int : IsInt (pos 0)
zero_int = record { kept = wrapped_small 0 (omega arith) }

-- an assignment leaves the arrays as declared
stands_after : (decls : List Array) (arrays : List (List ℤ)) (t n : ℕ) (s : Sum) → extent_of decls t ≡ n → t < length arrays →
    SumFits arrays n s → Stands decls arrays
    → Stands decls (set arrays t (elements n (sum_value arrays s)))
stands_after decls arrays t n s extent here fits st = record {
  counted = length-set arrays t xs ∙ st.counted;
  sized = λ p. size_by p (grind arith);
  ints = λ p i. int_by p i (grind arith) (grind arith);
}
  where
    xs : List ℤ
    xs = elements n (sum_value arrays s)

    size_by : (p : ℕ) → (p ≡ t) ⊎ (p ≢ t) → length (array_at (set arrays t xs) p) ≡ extent_of decls p
    size_by p (inl e) =
        ap (λ q. length (array_at (set arrays t xs) q)) e ∙ ap (λ (c : List ℤ). length c) (get_or-set_same arrays t xs [] here)
        ∙ (sum_shows arrays n s fits).size
        ∙ sym extent ∙ ap (λ q. extent_of decls q) (sym e)
    size_by p (inr e) = ap (λ (c : List ℤ). length c) (get_or-set_other arrays t p xs [] e) ∙ st.sized p

    new_at : (p i : ℕ) → p ≡ t → number_at (array_at (set arrays t xs) p) i ≡ number_at xs i
    new_at p i e = ap (λ q. number_at (array_at (set arrays t xs) q) i) e
        ∙ ap (λ (c : List ℤ). number_at c i) (get_or-set_same arrays t xs [] here)

    int_by : (p i : ℕ) → (p ≡ t) ⊎ (p ≢ t) → (i < n) ⊎ (n ≤ i) → IsInt (number_at (array_at (set arrays t xs) p) i)
    int_by p i (inl e) (inl within) =
        subst (λ z. IsInt z) (sym (new_at p i e ∙ (sum_shows arrays n s fits).each i within))
        (sum_int arrays n i (λ q. st.ints q i) s fits)
    int_by p i (inl e) (inr beyond) =
        let past : length xs ≤ i = omega (arith, (sum_shows arrays n s fits).size) in
        subst (λ z. IsInt z) (sym (new_at p i e ∙ get_or_past xs i (pos 0) past)) zero_int
    int_by p i (inr e) q = subst (λ z. IsInt z) (sym (ap (λ (c : List ℤ). number_at c i) (get_or-set_other arrays t p xs [] e)))
        (st.ints p i)

-- ---- a list of statements

-- the turns of the loops of an action, and of all of them
abbrev pub action_cost : List Array → Action → ℕ
action_cost decls (Assign t sum) = extent_of decls t + extent_of decls t
action_cost decls (Print places) = shown_cost decls places

abbrev pub statements_cost : List Array → List Statement → ℕ
statements_cost decls [] = 0
statements_cost decls (s ∷ ss) = statements_cost decls ss + action_cost decls s.action

places_there : (decls : List Array) (arrays : List (List ℤ)) → list_all (λ (a : Array). nat_le a.extent (2 ^ 24)) decls ≡ true →
    Stands decls arrays
    → (ps : List ℕ) → list_all (λ p. nat_lt p (length decls)) ps ≡ true → Every (IsThere decls arrays) ps
places_there decls arrays small stands [] h = tt
places_there decls arrays small stands (p ∷ ps) h =
    let parts = and_parts (nat_lt p (length decls)) (list_all (λ q. nat_lt q (length decls)) ps) h in
    let below : p < length decls = leb-true (suc p) (length decls) parts.0 in (
      record {
        here = subst (λ m. p < m) (sym stands.counted) below;
        size = stands.sized p;
        small = small_extent decls p small;
        ints = λ i. stands.ints p i;
      },
      places_there decls arrays small stands ps parts.1,
    )

module _ (functions : List Function) (final : List ℕ) (decls : List Array)
    (small : list_all (λ (a : Array). nat_le a.extent (2 ^ 24)) decls ≡ true) where
  -- an action in front of statements
  action_goes : (line : ℕ) (action : Action) → is_typed_action decls action ≡ true → (s : meaning.State) → Stands decls s.arrays
      → (cost : ℕ) (more : List Stmt) (rest : List CodeLine) (braces : List Brace) (v : Vars) →
      Holds s.arrays v.blocks v.references v.made → v.pending ≡ []
      → ((w : Vars) → Stands decls (after action s).arrays → Holds (after action s).arrays w.blocks w.references w.made →
      w.pending ≡ []
      → Good functions final cost (after action s).written (at w (flats more ++ rest) braces))
      → Good functions final (cost + action_cost decls action) s.written
      (at v (flats (action_code decls line action ++ more) ++ rest) braces)
  action_goes line (Assign t sum) typed s stands cost more rest braces v holds clean go =
      let n = extent_of decls t in
      let parts = and_parts (nat_lt t (length decls)) (list_all (is_typed_factor decls (extent_at decls t)) (factors_of sum)) typed in
      let here : t < length s.arrays = subst (λ m. t < m) (sym stands.counted) (leb-true (suc t) (length decls) parts.0) in
      let fits =
      sum_fits decls s.arrays stands n sum
      (subst (λ m. list_all (is_typed_factor decls m) (factors_of sum) ≡ true) (extent_is decls t) parts.1) in
      cheaper functions final (cost + n + n) (cost + (n + n)) s.written
      (at v (flats (action_code decls line (Assign t sum) ++ more) ++ rest) braces) (omega arith)
      (assignment_does functions final s.written decls s.arrays stands.counted line t n sum here refl (stands.sized t)
      (small_extent decls t small) fits cost more rest braces v holds clean
      (λ w kept empty. go w
      (subst (λ m. Stands decls (set s.arrays t (elements m (sum_value s.arrays sum)))) (sym (stands.sized t))
      (stands_after decls s.arrays t n sum refl here fits stands))
      (subst (λ m. Holds (set s.arrays t (elements m (sum_value s.arrays sum))) w.blocks w.references w.made) (sym (stands.sized t))
      kept) empty))
  action_goes line (Print places) typed s stands cost more rest braces v holds clean go =
      let parts = and_parts (nat_lt 0 (length places)) (list_all (λ p. nat_lt p (length decls)) places) typed in
      printing_does functions final s.written decls s.arrays stands.counted line places
      (places_there decls s.arrays small stands places parts.1) cost more rest braces v holds clean
      (λ w kept empty. go w stands kept empty)

  pub statements_go : (ss : List Statement) → list_all (λ (s : Statement). is_typed_action decls s.action) ss ≡ true →
      (s : meaning.State) → Stands decls s.arrays
      → (fold (λ (x : meaning.State) (statement : Statement). after statement.action x) s ss).written ≡ final
      → (v : Vars) → Holds s.arrays v.blocks v.references v.made → v.pending ≡ []
      → Good functions final (statements_cost decls ss) s.written (at v (flats (statements_code decls ss) ++ code.Close ∷ []) [])
  statements_go [] typed s stands all v holds clean = ended functions final s.written (at v (code.Close ∷ []) [])
      (step_end functions v [] []) all
  statements_go (x ∷ ss) typed s stands all v holds clean =
      let parts = and_parts (is_typed_action decls x.action) (list_all (λ (s : Statement). is_typed_action decls s.action) ss) typed in
      action_goes x.line x.action parts.0 s stands (statements_cost decls ss) (statements_code decls ss) (code.Close ∷ []) [] v
      holds clean
      (λ w stood kept empty. statements_go ss parts.1 (after x.action s) stood all w kept empty)
