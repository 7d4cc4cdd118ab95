-- Names in lists of declarations and of dummies.
use Rattle.std.proofs.Common.{◌≡◌, ℕ, zero, suc, ◌+◌, ◌-◌, ◌≤◌, nat_lt, Bool, true, false, cond, not, ◌&&◌, ◌||◌, List, [], ◌∷◌, ◌++◌}
use Rattle.std.proofs.Common.{take, length, Option, Some, None, refl, sym, ap, ◌∙◌, append_assoc, arith}
use Rattle.std.specs.Prelude.{nat_eq, slice_get, option_map, if◌then◌else◌}
use Rattle.std.specs.List.{position_from, find, filter, filter_map, list_any, cons_option}
use Rattle.std.specs.Cmp.Lexicographic.{pointwise}
use Rattle.std.proofs.Math.Bool.{or-false, and-false}
use Rattle.std.proofs.lemmas.Bool.Decides.{nat_tests}
use Rattle.std.proofs.lemmas.List.Folds.{list_any-append}
use Rattle.std.proofs.lemmas.Slice.Eq.{bytes_eq-Decides}
use Rattle.std.proofs.lemmas.Option.{same_Some, none-some}
use Rattle.a95_base.proofs.Tests.{next_place}
use Rattle.std.proofs.lemmas.Bool.{lt-ltb}
use Rattle.f95_tree.specs.Forms.{Word}
use Rattle.intrinsic_table.specs.Finding.{is_word}
use Rattle.name_table.specs.Places.{first_place}
use Rattle.names_types.specs.declared.meaning.Meaning.{Meaning}
use Rattle.names_types.specs.Rules.{first_line}
use Rattle.names_types.specs.Scopes.{Meant, meant, Entry, Form, Brings, Declares, Types, Begins, Object, of_object, is_integer_scalar, is_among, first_of}
use Rattle.scope_names.specs.Tables.{meant_by, names_of}
use Rattle.scope_names.proofs.MeantBy.{behind}
use Rattle.scope_entries.specs.View.{entry_of, entries_of}
use Rattle.scope_entries.specs.declared.entry.Entry.{Entry as Written}
use Rattle.known_scopes.specs.Asked.{repeats_from, repeats_of, integers_from, integers_in}
use Rattle.known_scopes.specs.Found.{first_found_line}
use Rattle.known_scopes.specs.Uses.{name_brought, value_brought, brought_name, brought_value}
use Rattle.known_scopes.specs.View.{brought_to}

-- ---- what USE brings

meant_brought : (es : List Entry) → meant_by (filter_map brought_name es) (filter_map brought_value es) ≡ brought_to es
meant_brought [] = refl
meant_brought (e ∷ es) = by e.name e.form (meant_brought es)
  where
    by : (name : Word) (f : Form) → meant_by (filter_map brought_name es) (filter_map brought_value es) ≡ brought_to es
        → meant_by (cons_option (name_brought name f) (filter_map brought_name es))
        (cons_option (value_brought f) (filter_map brought_value es))
        ≡ brought_to (record { line = 0; name = name; form = f } ∷ es)
    by name (Brings place m) e = ap (λ more. meant name m ∷ more) e
    by name (Declares o) e = e
    by name (Types t) e = e
    by name Begins e = e

pub brought_is : (ns : List Word) (ms : List Meaning) (es : List Entry) → ns ≡ filter_map brought_name es
    → ms ≡ filter_map brought_value es → meant_by ns ms ≡ brought_to es
brought_is ns ms es e f =
    ap (λ xs. meant_by xs ms) e ∙ (ap (λ ys. meant_by (filter_map brought_name es) ys) f ∙ meant_brought es)

-- ---- names that stand twice

one_less : (n : ℕ) → nat_lt 1 (suc n) ≡ nat_lt 0 n
one_less zero = refl
one_less (suc n) = let both : nat_lt 1 (suc (suc n)) ≡ true = grind (arith, nat_tests) in both ∙ sym (lt-ltb 0 (suc n) (omega arith))

some_is_any : {A : Type 0} (test : A → Bool) (xs : List A) → nat_lt 0 (length (filter test xs)) ≡ list_any test xs
some_is_any test [] = refl
some_is_any test (x ∷ xs) = by (test x) (some_is_any test xs)
  where
    by : (b : Bool) → nat_lt 0 (length (filter test xs)) ≡ list_any test xs
        → nat_lt 0 (length (cond b (x ∷ filter test xs) (filter test xs))) ≡ (b || list_any test xs)
    by true e = lt-ltb 0 (suc (length (filter test xs))) (omega arith)
    by false e = e

-- whether a second one stands there, where one was seen or wasn't
abbrev pub second : {A : Type 0} → Bool → (A → Bool) → List A → Bool
second seen test xs = if seen then list_any test xs else nat_lt 1 (length (filter test xs))

second_here : {A : Type 0} (test : A → Bool) (x : A) (xs : List A) → test x ≡ true
    → second false test (x ∷ xs) ≡ second true test xs
second_here test x xs e =
    ap (λ b. nat_lt 1 (length (cond b (x ∷ filter test xs) (filter test xs)))) e
    ∙ (one_less (length (filter test xs)) ∙ some_is_any test xs)

second_not_here : {A : Type 0} (seen : Bool) (test : A → Bool) (x : A) (xs : List A) → test x ≡ false
    → second seen test (x ∷ xs) ≡ second seen test xs
second_not_here true test x xs e = ap (λ b. b || list_any test xs) e
second_not_here false test x xs e = ap (λ b. nat_lt 1 (length (cond b (x ∷ filter test xs) (filter test xs)))) e

pub second_step : {A : Type 0} (seen next : Bool) (test : A → Bool) (x : A) (xs : List A) (whole : Bool)
    → second seen test (x ∷ xs) ≡ whole → test x ≡ true → seen ≡ false → next ≡ true → second next test xs ≡ whole
second_step seen next test x xs whole before here first e =
    ap (λ b. second b test xs) e ∙ (sym (second_here test x xs here) ∙ (ap (λ b. second b test (x ∷ xs)) (sym first) ∙ before))

pub second_skip : {A : Type 0} (seen next : Bool) (test : A → Bool) (x : A) (xs : List A) (whole : Bool)
    → second seen test (x ∷ xs) ≡ whole → test x ≡ false → next ≡ seen → second next test xs ≡ whole
second_skip seen next test x xs whole before other e =
    ap (λ b. second b test xs) e ∙ (sym (second_not_here seen test x xs other) ∙ before)

-- one name further
module _ (before repeats more whole : List Word) (d : Word) where
  pub repeats_taken : is_among before d ≡ true → repeats ++ repeats_from before (d ∷ more) ≡ whole
      → (repeats ++ d ∷ []) ++ repeats_from (before ++ d ∷ []) more ≡ whole
  repeats_taken e f =
      append_assoc repeats (d ∷ []) (repeats_from (before ++ d ∷ []) more)
      ∙ (ap (λ b. repeats ++ (if b then d ∷ repeats_from (before ++ d ∷ []) more else repeats_from (before ++ d ∷ []) more)) (sym e)
      ∙ f)

  pub repeats_left : is_among before d ≡ false → repeats ++ repeats_from before (d ∷ more) ≡ whole
      → repeats ++ repeats_from (before ++ d ∷ []) more ≡ whole
  repeats_left e f =
      ap (λ b. repeats ++ (if b then d ∷ repeats_from (before ++ d ∷ []) more else repeats_from (before ++ d ∷ []) more)) (sym e)
      ∙ f

module _ (before names : List Word) (more : List Entry) (whole : List Word) (d : Entry) where
  pub integers_taken : (not (is_among before d.name) && of_object is_integer_scalar d.form) ≡ true
      → names ++ integers_from before (d ∷ more) ≡ whole
      → (names ++ d.name ∷ []) ++ integers_from (before ++ d.name ∷ []) more ≡ whole
  integers_taken e f =
      append_assoc names (d.name ∷ []) (integers_from (before ++ d.name ∷ []) more)
      ∙ (ap (λ b. names ++ (if b then d.name ∷ integers_from (before ++ d.name ∷ []) more
      else integers_from (before ++ d.name ∷ []) more)) (sym e) ∙ f)

  pub integers_left : (not (is_among before d.name) && of_object is_integer_scalar d.form) ≡ false
      → names ++ integers_from before (d ∷ more) ≡ whole
      → names ++ integers_from (before ++ d.name ∷ []) more ≡ whole
  integers_left e f =
      ap (λ b. names ++ (if b then d.name ∷ integers_from (before ++ d.name ∷ []) more
      else integers_from (before ++ d.name ∷ []) more)) (sym e) ∙ f

module _ (name : Word) where
  repeated_from : (before names : List Word)
      → list_any (is_word name) (repeats_from before names) ≡ second (is_among before name) (is_word name) names
  repeated_from before [] = by (is_among before name)
    where
      by : (b : Bool) → false ≡ second b (is_word name) []
      by true = refl
      by false = refl
  repeated_from before (d ∷ more) = by (is_word name d) refl (repeated_from (before ++ d ∷ []) more)
    where
      grown : is_among (before ++ d ∷ []) name ≡ (is_among before name || (is_word name d || false))
      grown = list_any-append (is_word name) before (d ∷ [])

      skip : (t : Bool) → is_word name d ≡ false
          → list_any (is_word name) (if t then d ∷ repeats_from (before ++ d ∷ []) more else repeats_from (before ++ d ∷ []) more)
          ≡ list_any (is_word name) (repeats_from (before ++ d ∷ []) more)
      skip true e = ap (λ b. b || list_any (is_word name) (repeats_from (before ++ d ∷ []) more)) e
      skip false e = refl

      here : (t : Bool) → is_among before name ≡ t → is_word name d ≡ true
          → list_any (is_word name) (repeats_from (before ++ d ∷ []) more)
          ≡ second (is_among (before ++ d ∷ []) name) (is_word name) more
          → list_any (is_word name) (if t then d ∷ repeats_from (before ++ d ∷ []) more else repeats_from (before ++ d ∷ []) more)
          ≡ second t (is_word name) (d ∷ more)
      here true u e next =
          ap (λ b. b || list_any (is_word name) (repeats_from (before ++ d ∷ []) more)) e
          ∙ sym (ap (λ b. b || list_any (is_word name) more) e)
      here false u e next =
          let now : is_among (before ++ d ∷ []) name ≡ true = grown ∙ (ap (λ b. b || (is_word name d || false)) u
          ∙ ap (λ b. b || false) e) in
          next ∙ (ap (λ b. second b (is_word name) more) now ∙ sym (second_here (is_word name) d more e))

      by : (b : Bool) → is_word name d ≡ b
          → list_any (is_word name) (repeats_from (before ++ d ∷ []) more)
          ≡ second (is_among (before ++ d ∷ []) name) (is_word name) more
          → list_any (is_word name) (repeats_from before (d ∷ more)) ≡ second (is_among before name) (is_word name) (d ∷ more)
      by true e next =
          let same : name ≡ d = (bytes_eq-Decides name d).0 e in
          ap (λ w. list_any (is_word name)
          (if is_among before w then d ∷ repeats_from (before ++ d ∷ []) more else repeats_from (before ++ d ∷ []) more)) (sym same)
          ∙ here (is_among before name) refl e next
      by false e next =
          let now : is_among (before ++ d ∷ []) name ≡ is_among before name = grown ∙ (ap (λ b. is_among before name || (b || false)) e
          ∙ or-false (is_among before name)) in
          skip (is_among before d) e ∙ (next ∙ (ap (λ b. second b (is_word name) more) now
          ∙ sym (second_not_here (is_among before name) (is_word name) d more e)))

  pub repeated_is : (names repeats : List Word) → repeats ≡ repeats_of names
      → list_any (pointwise nat_eq name) repeats ≡ nat_lt 1 (length (filter (is_word name) names))
  repeated_is names repeats e = ap (λ xs. list_any (is_word name) xs) e ∙ repeated_from [] names

  -- ---- declarations of a name

  pub some_is : (test : Object → Bool) (es : List Entry) (names : List Word)
      → names ≡ names_of (filter (λ (e : Entry). of_object test e.form) es)
      → list_any (pointwise nat_eq name) names
      ≡ list_any (λ (e : Entry). of_object test e.form) (filter (λ (e : Entry). is_word name e.name) es)
  some_is test es names e = ap (λ xs. list_any (is_word name) xs) e ∙ walk es
    where
      walk : (es : List Entry) → list_any (is_word name) (names_of (filter (λ (e : Entry). of_object test e.form) es))
          ≡ list_any (λ (e : Entry). of_object test e.form) (filter (λ (e : Entry). is_word name e.name) es)
      walk [] = refl
      walk (e ∷ es) = by (of_object test e.form) (is_word name e.name) refl refl (walk es)
        where
          by : (a b : Bool) → of_object test e.form ≡ a → is_word name e.name ≡ b
              → list_any (is_word name) (names_of (filter (λ (e : Entry). of_object test e.form) es))
              ≡ list_any (λ (e : Entry). of_object test e.form) (filter (λ (e : Entry). is_word name e.name) es)
              → list_any (is_word name) (names_of (cond a (e ∷ filter (λ (e : Entry). of_object test e.form) es)
              (filter (λ (e : Entry). of_object test e.form) es)))
              ≡ list_any (λ (e : Entry). of_object test e.form) (cond b (e ∷ filter (λ (e : Entry). is_word name e.name) es)
              (filter (λ (e : Entry). is_word name e.name) es))
          by true true f g next =
              ap (λ t. t || list_any (is_word name) (names_of (filter (λ (e : Entry). of_object test e.form) es))) g
              ∙ sym (ap (λ t. t || list_any (λ (e : Entry). of_object test e.form) (filter (λ (e : Entry). is_word name e.name) es)) f)
          by true false f g next =
              ap (λ t. t || list_any (is_word name) (names_of (filter (λ (e : Entry). of_object test e.form) es))) g ∙ next
          by false true f g next =
              next ∙ sym (ap (λ t. t || list_any (λ (e : Entry). of_object test e.form) (filter (λ (e : Entry). is_word name e.name) es)) f)
          by false false f g next = next

  -- the names whose first declaration is that of a scalar INTEGER
  pub integer_is : (es : List Entry) (names : List Word) → names ≡ integers_in es
      → list_any (pointwise nat_eq name) names
      ≡ list_any (λ (e : Entry). of_object is_integer_scalar e.form) (first_of (filter (λ (e : Entry). is_word name e.name) es))
  integer_is es names e = ap (λ xs. list_any (is_word name) xs) e ∙ walk [] es
    where
      firsts : List Entry → Bool
      firsts es = list_any (λ (e : Entry). of_object is_integer_scalar e.form) (first_of (filter (λ (e : Entry). is_word name e.name) es))

      walk : (before : List Word) (es : List Entry)
          → list_any (is_word name) (integers_from before es) ≡ (not (is_among before name) && firsts es)
      walk before [] = sym (and-false (not (is_among before name)))
      walk before (e ∷ es) = by (is_word name e.name) refl (walk (before ++ e.name ∷ []) es)
        where
          rest : Bool
          rest = list_any (is_word name) (integers_from (before ++ e.name ∷ []) es)

          grown : is_among (before ++ e.name ∷ []) name ≡ (is_among before name || (is_word name e.name || false))
          grown = list_any-append (is_word name) before (e.name ∷ [])

          choice : (t : Bool) → list_any (is_word name) (if t then e.name ∷ integers_from (before ++ e.name ∷ []) es
              else integers_from (before ++ e.name ∷ []) es) ≡ ((t && is_word name e.name) || rest)
          choice true = refl
          choice false = refl

          first_here : (b : Bool) → is_word name e.name ≡ b → firsts (e ∷ es)
              ≡ (if b then of_object is_integer_scalar e.form || false else firsts es)
          first_here b f = ap (λ t. list_any (λ (e : Entry). of_object is_integer_scalar e.form)
              (first_of (cond t (e ∷ filter (λ (e : Entry). is_word name e.name) es) (filter (λ (e : Entry). is_word name e.name) es)))) f
              ∙ cases b
            where
              cases : (b : Bool) → list_any (λ (e : Entry). of_object is_integer_scalar e.form)
                  (first_of (cond b (e ∷ filter (λ (e : Entry). is_word name e.name) es) (filter (λ (e : Entry). is_word name e.name) es)))
                  ≡ (if b then of_object is_integer_scalar e.form || false else firsts es)
              cases true = refl
              cases false = refl

          hit : (a t : Bool) → (((not a && t) && true) || (not (a || (true || false)) && firsts es)) ≡ (not a && (t || false))
          hit true t = refl
          hit false true = refl
          hit false false = refl

          by : (b : Bool) → is_word name e.name ≡ b
              → list_any (is_word name) (integers_from (before ++ e.name ∷ []) es)
              ≡ (not (is_among (before ++ e.name ∷ []) name) && firsts es)
              → list_any (is_word name) (integers_from before (e ∷ es)) ≡ (not (is_among before name) && firsts (e ∷ es))
          by true f next =
              let same : name ≡ e.name = (bytes_eq-Decides name e.name).0 f in
              let t = of_object is_integer_scalar e.form in
              choice (not (is_among before e.name) && t)
              ∙ (ap (λ w. ((not (is_among before w) && t) && is_word name e.name) || rest) (sym same)
              ∙ (ap (λ r. ((not (is_among before name) && t) && is_word name e.name) || r)
              (next ∙ ap (λ u. not u && firsts es) grown)
              ∙ (ap (λ b. ((not (is_among before name) && t) && b) || (not (is_among before name || (b || false)) && firsts es)) f
              ∙ (hit (is_among before name) t ∙ ap (λ x. not (is_among before name) && x) (sym (first_here true f))))))
          by false f next =
              let t = of_object is_integer_scalar e.form in
              choice (not (is_among before e.name) && t)
              ∙ (ap (λ r. ((not (is_among before e.name) && t) && is_word name e.name) || r)
              (next ∙ ap (λ u. not u && firsts es) grown)
              ∙ (ap (λ b. ((not (is_among before e.name) && t) && b) || (not (is_among before name || (b || false)) && firsts es)) f
              ∙ (missed (is_among before e.name) t (is_among before name)
              ∙ ap (λ x. not (is_among before name) && x) (sym (first_here false f)))))
            where
              missed : (a t d : Bool) → (((not a && t) && false) || (not (d || (false || false)) && firsts es)) ≡ (not d && firsts es)
              missed true true true = refl
              missed true true false = refl
              missed true false true = refl
              missed true false false = refl
              missed false true true = refl
              missed false true false = refl
              missed false false true = refl
              missed false false false = refl

  pub first_line_is : (heading : ℕ) (es : List Entry) (o : Option Entry) → o ≡ find (λ (e : Entry). is_word name e.name) es
      → first_found_line heading o ≡ first_line heading (filter (λ (e : Entry). is_word name e.name) es)
  first_line_is heading es o e = ap (λ f. first_found_line heading f) e ∙ walk es
    where
      walk : (es : List Entry) → first_found_line heading (find (λ (e : Entry). is_word name e.name) es)
          ≡ first_line heading (filter (λ (e : Entry). is_word name e.name) es)
      walk [] = refl
      walk (e ∷ es) = by (is_word name e.name) (walk es)
        where
          by : (b : Bool) → first_found_line heading (find (λ (e : Entry). is_word name e.name) es)
              ≡ first_line heading (filter (λ (e : Entry). is_word name e.name) es)
              → first_found_line heading (cond b (Some e) (find (λ (e : Entry). is_word name e.name) es))
              ≡ first_line heading (cond b (e ∷ filter (λ (e : Entry). is_word name e.name) es)
              (filter (λ (e : Entry). is_word name e.name) es))
          by true next = refl
          by false next = next

  found_from : (es : List Written) (i p : ℕ) → position_from (pointwise nat_eq name) i (names_of (entries_of es)) ≡ Some p
      → option_map entry_of (slice_get es (p - i)) ≡ find (λ (e : Entry). is_word name e.name) (entries_of es)
  found_from [] i p e = absurd (none-some p e)
  found_from (x ∷ es) i p e =
      by (pointwise nat_eq name x.name.now) e (behind (pointwise nat_eq name) (i + 1) p (names_of (entries_of es)))
      (found_from es (i + 1) p)
    where
      by : (b : Bool) → cond b (Some i) (position_from (pointwise nat_eq name) (i + 1) (names_of (entries_of es))) ≡ Some p
          → (position_from (pointwise nat_eq name) (i + 1) (names_of (entries_of es)) ≡ Some p → i + 1 ≤ p)
          → (position_from (pointwise nat_eq name) (i + 1) (names_of (entries_of es)) ≡ Some p
          → option_map entry_of (slice_get es (p - (i + 1))) ≡ find (λ (e : Entry). is_word name e.name) (entries_of es))
          → option_map entry_of (slice_get (x ∷ es) (p - i))
          ≡ cond b (Some (entry_of x)) (find (λ (e : Entry). is_word name e.name) (entries_of es))
      by true e far next =
          let same : i ≡ p = same_Some i p e in
          let here : p - i ≡ 0 = omega (arith, same) in
          ap (λ k. option_map entry_of (slice_get (x ∷ es) k)) here
      by false e far next = ap (λ k. option_map entry_of (slice_get (x ∷ es) k)) (next_place i p (far e)) ∙ next e

  nowhere_from : (es : List Entry) (i : ℕ) → position_from (pointwise nat_eq name) i (names_of es) ≡ None
      → None ≡ find (λ (e : Entry). is_word name e.name) es
  nowhere_from [] i e = refl
  nowhere_from (x ∷ es) i e = by (pointwise nat_eq name x.name) e (nowhere_from es (i + 1))
    where
      by : (b : Bool) → cond b (Some i) (position_from (pointwise nat_eq name) (i + 1) (names_of es)) ≡ None
          → (position_from (pointwise nat_eq name) (i + 1) (names_of es) ≡ None → None ≡ find (λ (e : Entry). is_word name e.name) es)
          → None ≡ cond b (Some x) (find (λ (e : Entry). is_word name e.name) es)
      by true e next = absurd (none-some i (sym e))
      by false e next = next e

  -- a name that is found at a place is declared first by the declaration there
  pub found_at : (es : List Written) (p : ℕ) → first_place name (names_of (entries_of es)) ≡ Some p
      → option_map entry_of (slice_get es p) ≡ find (λ (e : Entry). is_word name e.name) (entries_of es)
  found_at es p e =
      let same : p ≡ p - 0 = omega arith in ap (λ k. option_map entry_of (slice_get es k)) same ∙ found_from es 0 p e

  pub found_nowhere : (es : List Entry) → first_place name (names_of es) ≡ None → None ≡ find (λ (e : Entry). is_word name e.name) es
  found_nowhere es e = nowhere_from es 0 e

-- ---- the first meanings

take_meant : (place : ℕ) (ns : List Word) (ms : List Meaning) → meant_by ns (take place ms) ≡ take place (meant_by ns ms)
take_meant zero ns ms = none ns
  where
    none : (ns : List Word) → meant_by ns [] ≡ []
    none [] = refl
    none (n ∷ ns) = refl
take_meant (suc place) [] ms = refl
take_meant (suc place) (n ∷ ns) [] = refl
take_meant (suc place) (n ∷ ns) (m ∷ ms) = ap (λ more. meant n m ∷ more) (take_meant place ns ms)

pub meant_first : (place : ℕ) (ns : List Word) (ms some : List Meaning) (all : List Meant) → some ≡ take place ms
    → meant_by ns ms ≡ all → meant_by ns some ≡ take place all
meant_first place ns ms some all e f =
    ap (λ xs. meant_by ns xs) e ∙ (take_meant place ns ms ∙ ap (λ xs. take place xs) f)
