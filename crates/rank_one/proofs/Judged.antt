-- What is noted along a source is exactly what it breaks.
use Rattle.std.proofs.Common.{◌≡◌, ℕ, ◌⊎◌, inl, inr, ⊎_elim, Bool, true, false, not, ◌||◌, nat_lt, List, [], ◌∷◌, ◌++◌, map}
use Rattle.std.proofs.Common.{fold, Option, Some, None, refl, sym, ◌∙◌, ap, subst, cond, append_assoc, append-nil, suc}
use Rattle.std.specs.Prelude.{is_some, unwrap_or}
use Rattle.std.specs.List.{flat_map}
use Rattle.std.specs.Option.{option_map}
use Rattle.std.specs.Str.{bytes_eq}
use Rattle.std.proofs.lemmas.Bool.{le-leb, leb-true, not-true, or_left, or_right, or_cases}
use Rattle.a95_base.specs.declared.breaks.Break.{Break}
use Rattle.a95_base.specs.declared.source.Line.{Line}
use Rattle.a95_base.specs.Breaks.{IsLeast, AreBroken, broken_at, first_of, noted}
use Rattle.a95_base.specs.Limits.{most_elements}
use Rattle.a95_base.specs.Lists.{Member}
use Rattle.a95_base.specs.Rules.{not_yet}
use Rattle.a95_base.proofs.First.{first_is_least, none_among, noted_here}
use Rattle.a95_base.proofs.Lists.{Member-append_left, Member-append_right, Member-append_cases, Member-map, Member-from_map}
use Rattle.a95_base.proofs.Lists.{split_at, Member-flat_map, Member-from_flat_map}
use Rattle.a95_base.proofs.Texts.{same_bytes}
use Rattle.a95_base.proofs.Tests.{or_assoc}
use Rattle.f95_tree.specs.declared.declaration.Declaration.{Declaration}
use Rattle.f95_tree.specs.declared.source.Source.{Source}
use Rattle.f95_tree.specs.declared.source.Statement.{Statement}
use Rattle.f95_tree.specs.declared.source.Subprogram.{Subprogram}
use Rattle.rank_one.specs.declared.form.NamedAction.{NamedAction}
use Rattle.rank_one.specs.declared.form.NamedArray.{NamedArray}
use Rattle.rank_one.specs.declared.symbols.Symbol.{Symbol}
use Rattle.rank_one.specs.Conditions.{place_of, is_conforming, is_declared}
use Rattle.rank_one.specs.Forms.{arrays_in, named_in, statement_line}
use Rattle.rank_one.specs.Noting.{not_yet_at, undeclared_at, is_refused, symbols_breaks, arrays_breaks, declarations_breaks}
use Rattle.rank_one.specs.Noting.{action_breaks, statement_breaks, implicit_breaks, procedures_breaks, module_break, use_break}
use Rattle.rank_one.specs.Noting.{around_breaks, not_yet_breaks, name_breaks, names_breaks, undeclared_breaks}
use Rattle.rank_one.specs.Reading.{symbol_on, with_symbol, symbols_in, declared_in, symbols_of, IsNotYet, has_module, has_use}
use Rattle.rank_one.specs.Reading.{has_implicit, other_declaration, large_extent, declared_twice, other_statement, unequal_extents}
use Rattle.rank_one.specs.Reading.{has_procedures, IsUndeclared, unknown_name, IsBuilt, AreDeclared}
use Rattle.rank_one.proofs.Choices.{yes, no, by_test}
use Rattle.rank_one.proofs.SymbolLaws.{no_place, place_cons}

-- ---- lists

noted_is : (b : Bool) (x y : Break) → Member (noted b x) y → (b ≡ true) × (x ≡ y)
noted_is true x y (inl e) = (refl, e)
noted_is true x y (inr h) = absurd h
noted_is false x y h = absurd h

-- ---- names that are declared

mapped_some : {A B : Type 0} (f : A → B) (o : Option A) → is_some (option_map f o) ≡ is_some o
mapped_some f None = refl
mapped_some f (Some x) = refl

-- the same names are declared in both
abbrev Same : List Symbol → List Symbol → Type 0
Same a b = (name : List ℕ) → is_some (place_of a name) ≡ is_some (place_of b name)

tested : (b : Bool) (o : Option ℕ) → is_some (cond b (Some 0) o) ≡ (b || is_some o)
tested true o = refl
tested false o = refl

found_cons : (s : Symbol) (symbols : List Symbol) (name : List ℕ) → is_some (place_of (s ∷ symbols) name)
    ≡ (bytes_eq s.name name || is_some (place_of symbols name))
found_cons s symbols name =
    ap is_some (place_cons s symbols name)
    ∙ (tested (bytes_eq s.name name) (option_map suc (place_of symbols name))
    ∙ ap (λ b. bytes_eq s.name name || b) (mapped_some suc (place_of symbols name)))

found_push : (symbols : List Symbol) (x : Symbol) (name : List ℕ) → is_some (place_of (symbols ++ x ∷ []) name)
    ≡ (is_some (place_of symbols name) || bytes_eq x.name name)
found_push [] x name = found_cons x [] name
    ∙ (ap (λ o. bytes_eq x.name name || is_some o) (no_place name)
    ∙ (turned (bytes_eq x.name name) ∙ ap (λ o. is_some o || bytes_eq x.name name) (sym (no_place name))))
  where
    turned : (b : Bool) → (b || false) ≡ (false || b)
    turned true = refl
    turned false = refl
found_push (s ∷ symbols) x name =
    found_cons s (symbols ++ x ∷ []) name
    ∙ (ap (λ b. bytes_eq s.name name || b) (found_push symbols x name)
    ∙ (sym (or_assoc (bytes_eq s.name name) (is_some (place_of symbols name)) (bytes_eq x.name name))
    ∙ ap (λ b. b || bytes_eq x.name name) (sym (found_cons s symbols name))))

-- a name of equal bytes is the same
same_found : (symbols : List Symbol) (x : Symbol) (name : List ℕ) → is_some (place_of symbols x.name) ≡ true
    → is_some (place_of symbols name) ≡ (is_some (place_of symbols name) || bytes_eq x.name name)
same_found symbols x name h = by_test (bytes_eq x.name name)
    (λ e. let is : is_some (place_of symbols name) ≡ true = ap (λ n. is_some (place_of symbols n)) (sym (same_bytes x.name name e))
    ∙ h in
    is ∙ sym (or_left (is_some (place_of symbols name)) (bytes_eq x.name name) is))
    (λ e. sym (ap (λ b. is_some (place_of symbols name) || b) e ∙ ended (is_some (place_of symbols name))))
  where
    ended : (b : Bool) → (b || false) ≡ b
    ended true = refl
    ended false = refl

more_found : (before symbols : List Symbol) (x : Symbol) → Same before symbols → Same (before ++ x ∷ []) (with_symbol symbols x)
more_found before symbols x same = λ name.
    found_push before x name
    ∙ (ap (λ b. b || bytes_eq x.name name) (same name)
    ∙ by_test (is_some (place_of symbols x.name))
    (λ h. sym (same_found symbols x name h) ∙ ap (λ s. is_some (place_of s name)) (sym (yes symbols (symbols ++ x ∷ []) h)))
    (λ h. sym (found_push symbols x name) ∙ ap (λ s. is_some (place_of s name)) (sym (no symbols (symbols ++ x ∷ []) h))))

-- ---- arrays, as they are declared one after another

-- an array that is refused where it stands
pub record Refused (all : List Symbol) (line : ℕ) : Type 0 where
  pub before : List Symbol
  pub it : Symbol
  pub behind : List Symbol
  pub all_is : all ≡ before ++ it ∷ behind
  pub line_is : it.array.line ≡ line
  pub why : (is_some (place_of before it.name) || nat_lt most_elements it.array.extent) ≡ true

symbols_sound : (all before symbols xs : List Symbol) → all ≡ before ++ xs → Same before symbols → (b : Break) →
    Member (symbols_breaks symbols xs) b
    → (l : ℕ) × (Refused all l × (not_yet_at l ≡ b))
symbols_sound all before symbols [] is same b h = absurd h
symbols_sound all before symbols (x ∷ xs) is same b h = ⊎_elim
    (λ (k : Member (noted (is_refused symbols x) (not_yet_at x.array.line)) b).
    let two = noted_is (is_refused symbols x) (not_yet_at x.array.line) b k in (
      x.array.line,
      (
        record {
          before = before;
          it = x;
          behind = xs;
          all_is = is;
          line_is = refl;
          why = ap (λ f. f || nat_lt most_elements x.array.extent) (same x.name) ∙ two.0;
        },
        two.1,
      ),
    ))
    (λ (k : Member (symbols_breaks (with_symbol symbols x) xs) b).
    symbols_sound all (before ++ x ∷ []) (with_symbol symbols x) xs (is ∙ sym (append_assoc before (x ∷ []) xs))
    (more_found before symbols x same) b k)
    (Member-append_cases (noted (is_refused symbols x) (not_yet_at x.array.line)) (symbols_breaks (with_symbol symbols x) xs) b h)

-- one that is refused is noted
symbols_complete : (done symbols before : List Symbol) (x : Symbol) (behind : List Symbol) → Same done symbols
    → (is_some (place_of (done ++ before) x.name) || nat_lt most_elements x.array.extent) ≡ true
    → Member (symbols_breaks symbols (before ++ x ∷ behind)) (not_yet_at x.array.line)
symbols_complete done symbols [] x behind same why =
    Member-append_left (noted (is_refused symbols x) (not_yet_at x.array.line)) (symbols_breaks (with_symbol symbols x) behind)
    (not_yet_at x.array.line)
    (noted_here (is_refused symbols x) (not_yet_at x.array.line)
    (ap (λ f. f || nat_lt most_elements x.array.extent)
    (sym (ap (λ d. is_some (place_of d x.name)) (append-nil done) ∙ same x.name)) ∙ why))
symbols_complete done symbols (y ∷ before) x behind same why =
    Member-append_right (noted (is_refused symbols y) (not_yet_at y.array.line))
    (symbols_breaks (with_symbol symbols y) (before ++ x ∷ behind)) (not_yet_at x.array.line)
    (symbols_complete (done ++ y ∷ []) (with_symbol symbols y) before x behind (more_found done symbols y same)
    (ap (λ d. is_some (place_of d x.name) || nat_lt most_elements x.array.extent) (append_assoc done (y ∷ []) before) ∙ why))

breaks_apart : (symbols xs ys : List Symbol) → symbols_breaks symbols (xs ++ ys) ≡ symbols_breaks symbols xs
    ++ symbols_breaks (fold with_symbol symbols xs) ys
breaks_apart symbols [] ys = refl
breaks_apart symbols (x ∷ xs) ys =
    ap (λ m. noted (is_refused symbols x) (not_yet_at x.array.line) ++ m) (breaks_apart (with_symbol symbols x) xs ys)
    ∙ sym (append_assoc (noted (is_refused symbols x) (not_yet_at x.array.line)) (symbols_breaks (with_symbol symbols x) xs)
    (symbols_breaks (fold with_symbol (with_symbol symbols x) xs) ys))

-- a declaration of another form
pub record Other (ds : List (Line × Declaration)) (b : Break) : Type 0 where
  pub it : Line × Declaration
  pub among : Member ds it
  pub other : arrays_in it.1 ≡ None
  pub break_is : not_yet_at it.0.0 ≡ b

-- what is noted of declarations is noted of their arrays, or stands at a declaration of another form
declarations_parts : (symbols : List Symbol) (ds : List (Line × Declaration)) (b : Break) →
    Member (declarations_breaks symbols ds) b
    → Other ds b ⊎ Member (symbols_breaks symbols (declared_in ds)) b
declarations_parts symbols [] b h = absurd h
declarations_parts symbols (d ∷ ds) b h = ⊎_elim
    (λ (k : Member (arrays_breaks symbols d.0.0 (arrays_in d.1)) b). here (arrays_in d.1) refl k)
    (λ (k : Member (declarations_breaks (fold with_symbol symbols (symbols_in d)) ds) b). ⊎_elim
    (λ (o : Other ds b). inl (record { it = o.it; among = inr o.among; other = o.other; break_is = o.break_is }))
    (λ (m : Member (symbols_breaks (fold with_symbol symbols (symbols_in d)) (declared_in ds)) b).
    inr (subst (λ z. Member z b) (sym (breaks_apart symbols (symbols_in d) (declared_in ds)))
    (Member-append_right (symbols_breaks symbols (symbols_in d)) _ b m)))
    (declarations_parts (fold with_symbol symbols (symbols_in d)) ds b k))
    (Member-append_cases (arrays_breaks symbols d.0.0 (arrays_in d.1))
    (declarations_breaks (fold with_symbol symbols (symbols_in d)) ds) b h)
  where
    here : (o : Option (List NamedArray)) → arrays_in d.1 ≡ o → Member (arrays_breaks symbols d.0.0 o) b →
        Other (d ∷ ds) b ⊎ Member (symbols_breaks symbols (declared_in (d ∷ ds))) b
    here None is (inl e) = inl (record { it = d; among = inl refl; other = is; break_is = e })
    here None is (inr k) = absurd k
    here (Some arrays) is k =
        let own : symbols_in d ≡ map (symbol_on d.0.0) arrays =
        ap (λ (o : Option (List NamedArray)). map (symbol_on d.0.0) (unwrap_or o [])) is in
        inr (subst (λ z. Member z b) (sym (breaks_apart symbols (symbols_in d) (declared_in ds)))
        (Member-append_left (symbols_breaks symbols (symbols_in d)) _ b
        (subst (λ z. Member (symbols_breaks symbols z) b) (sym own) k)))

declarations_other : (symbols : List Symbol) (ds : List (Line × Declaration)) (d : Line × Declaration) → Member ds d →
    arrays_in d.1 ≡ None
    → Member (declarations_breaks symbols ds) (not_yet_at d.0.0)
declarations_other symbols [] d h is = absurd h
declarations_other symbols (x ∷ ds) d (inl e) is =
    Member-append_left (arrays_breaks symbols x.0.0 (arrays_in x.1)) _ (not_yet_at d.0.0)
    (subst (λ (z : Line × Declaration). Member (arrays_breaks symbols z.0.0 (arrays_in z.1)) (not_yet_at d.0.0)) (sym e)
    (subst (λ (o : Option (List NamedArray)). Member (arrays_breaks symbols d.0.0 o) (not_yet_at d.0.0)) (sym is) (inl refl)))
declarations_other symbols (x ∷ ds) d (inr h) is =
    Member-append_right (arrays_breaks symbols x.0.0 (arrays_in x.1)) _ (not_yet_at d.0.0)
    (declarations_other (fold with_symbol symbols (symbols_in x)) ds d h is)

declarations_arrays : (symbols : List Symbol) (ds : List (Line × Declaration)) (b : Break) →
    Member (symbols_breaks symbols (declared_in ds)) b
    → Member (declarations_breaks symbols ds) b
declarations_arrays symbols [] b h = absurd h
declarations_arrays symbols (d ∷ ds) b h = ⊎_elim
    (λ (k : Member (symbols_breaks symbols (symbols_in d)) b). Member-append_left (arrays_breaks symbols d.0.0 (arrays_in d.1)) _ b
    (here (arrays_in d.1) k))
    (λ (k : Member (symbols_breaks (fold with_symbol symbols (symbols_in d)) (declared_in ds)) b).
    Member-append_right (arrays_breaks symbols d.0.0 (arrays_in d.1)) _ b
    (declarations_arrays (fold with_symbol symbols (symbols_in d)) ds b k))
    (Member-append_cases (symbols_breaks symbols (symbols_in d))
    (symbols_breaks (fold with_symbol symbols (symbols_in d)) (declared_in ds)) b
    (subst (λ z. Member z b) (breaks_apart symbols (symbols_in d) (declared_in ds)) h))
  where
    here : (o : Option (List NamedArray)) → Member (symbols_breaks symbols (map (symbol_on d.0.0) (unwrap_or o []))) b →
        Member (arrays_breaks symbols d.0.0 o) b
    here None k = absurd k
    here (Some arrays) k = k

nothing_same : Same [] []
nothing_same = λ name. refl

-- ---- all that isn't built yet

module _ (s : Source) where
  abbrev Says : Break → Type 0
  Says b = IsNotYet s b.line b.rule

  abbrev decls : List (Line × Declaration)
  decls = s.main.section.declarations

  implicit_sound : (o : Option Line) → s.main.section.implicit ≡ o → (b : Break) → Member (implicit_breaks o) b → Says b
  implicit_sound None is b h = absurd h
  implicit_sound (Some l) is b (inl e) = subst Says e (has_implicit l is)
  implicit_sound (Some l) is b (inr h) = absurd h

  procedures_sound : (o : Option (Line × List Subprogram)) → s.main.procedures ≡ o → (b : Break) → Member (procedures_breaks o) b →
      Says b
  procedures_sound None is b h = absurd h
  procedures_sound (Some c) is b (inl e) = subst Says e (has_procedures c is)
  procedures_sound (Some c) is b (inr h) = absurd h

  around_sound : (b : Break) → Member (around_breaks s) b → Says b
  around_sound b h = ⊎_elim
      (λ (k : Member (map module_break s.modules) b). let r = Member-from_map module_break s.modules b k in
      subst Says r.1.1 (has_module r.0 r.1.0))
      (λ (k : Member
      (map use_break s.main.section.uses ++ (implicit_breaks s.main.section.implicit ++ procedures_breaks s.main.procedures))
      b). ⊎_elim
      (λ (m : Member (map use_break s.main.section.uses) b). let r = Member-from_map use_break s.main.section.uses b m in
      subst Says r.1.1 (has_use r.0 r.1.0))
      (λ (m : Member (implicit_breaks s.main.section.implicit ++ procedures_breaks s.main.procedures) b). ⊎_elim
      (λ (n : Member (implicit_breaks s.main.section.implicit) b). implicit_sound s.main.section.implicit refl b n)
      (λ (n : Member (procedures_breaks s.main.procedures) b). procedures_sound s.main.procedures refl b n)
      (Member-append_cases (implicit_breaks s.main.section.implicit) (procedures_breaks s.main.procedures) b m))
      (Member-append_cases (map use_break s.main.section.uses)
      (implicit_breaks s.main.section.implicit ++ procedures_breaks s.main.procedures) b k))
      (Member-append_cases (map module_break s.modules)
      (map use_break s.main.section.uses ++ (implicit_breaks s.main.section.implicit ++ procedures_breaks s.main.procedures)) b
      h)

  refused_says : (l : ℕ) → Refused (declared_in decls) l → IsNotYet s l not_yet
  refused_says l r = subst (λ z. IsNotYet s z not_yet) r.line_is (⊎_elim
      (λ (k : is_some (place_of r.before r.it.name) ≡ true). declared_twice r.before r.it r.behind r.all_is k)
      (λ (k : nat_lt most_elements r.it.array.extent ≡ true). large_extent r.it
      (subst (λ z. Member z r.it) (sym r.all_is) (Member-append_right r.before (r.it ∷ r.behind) r.it (inl refl)))
      (leb-true (suc most_elements) r.it.array.extent k))
      (or_cases (is_some (place_of r.before r.it.name)) (nat_lt most_elements r.it.array.extent) r.why))

  declarations_sound : (b : Break) → Member (declarations_breaks [] decls) b → Says b
  declarations_sound b h = ⊎_elim
      (λ (o : Other decls b). subst Says o.break_is (other_declaration o.it o.among o.other))
      (λ (m : Member (symbols_breaks [] (declared_in decls)) b).
      let r = symbols_sound (declared_in decls) [] [] (declared_in decls) refl nothing_same b m in
      subst Says r.1.1 (refused_says r.0 r.1.0))
      (declarations_parts [] decls b h)

  statement_sound : (x : Statement) → Member s.main.body x → (o : Option NamedAction) → named_in x ≡ o → (b : Break)
      → Member (action_breaks (symbols_of s) (statement_line x) o) b → Says b
  statement_sound x among None is b (inl e) = subst Says e (other_statement x among is)
  statement_sound x among None is b (inr h) = absurd h
  statement_sound x among (Some a) is b h =
      let two = noted_is (not (is_conforming (symbols_of s) a)) (not_yet_at (statement_line x)) b h in
      subst Says two.1 (unequal_extents x among a is (not-true (is_conforming (symbols_of s) a) two.0))

  sound : (b : Break) → Member (not_yet_breaks s) b → Says b
  sound b h = ⊎_elim
      (λ (k : Member (around_breaks s) b). around_sound b k)
      (λ (k : Member (declarations_breaks [] decls ++ flat_map (statement_breaks (symbols_of s)) s.main.body) b). ⊎_elim
      (λ (m : Member (declarations_breaks [] decls) b). declarations_sound b m)
      (λ (m : Member (flat_map (statement_breaks (symbols_of s)) s.main.body) b).
      let r = Member-from_flat_map (statement_breaks (symbols_of s)) s.main.body b m in statement_sound r.0 r.1.0 (named_in r.0) refl b r.1.1)
      (Member-append_cases (declarations_breaks [] decls) (flat_map (statement_breaks (symbols_of s)) s.main.body) b k))
      (Member-append_cases (around_breaks s)
      (declarations_breaks [] decls ++ flat_map (statement_breaks (symbols_of s)) s.main.body) b h)

  in_around : (b : Break) → Member (around_breaks s) b → Member (not_yet_breaks s) b
  in_around b h =
      Member-append_left (around_breaks s) (declarations_breaks [] decls ++ flat_map (statement_breaks (symbols_of s)) s.main.body)
      b h

  in_declarations : (b : Break) → Member (declarations_breaks [] decls) b → Member (not_yet_breaks s) b
  in_declarations b h = Member-append_right (around_breaks s)
      (declarations_breaks [] decls ++ flat_map (statement_breaks (symbols_of s)) s.main.body) b
      (Member-append_left (declarations_breaks [] decls) (flat_map (statement_breaks (symbols_of s)) s.main.body) b h)

  in_body : (b : Break) (x : Statement) → Member s.main.body x → Member (statement_breaks (symbols_of s) x) b →
      Member (not_yet_breaks s) b
  in_body b x among h = Member-append_right (around_breaks s)
      (declarations_breaks [] decls ++ flat_map (statement_breaks (symbols_of s)) s.main.body) b
      (Member-append_right (declarations_breaks [] decls) (flat_map (statement_breaks (symbols_of s)) s.main.body) b
      (Member-flat_map (statement_breaks (symbols_of s)) s.main.body x b among h))

  behind_modules : (b : Break) →
      Member (map use_break s.main.section.uses ++ (implicit_breaks s.main.section.implicit ++ procedures_breaks s.main.procedures))
      b → Member (not_yet_breaks s) b
  behind_modules b h = in_around b (Member-append_right (map module_break s.modules) _ b h)

  refused_noted : (before : List Symbol) (x : Symbol) (behind : List Symbol) → declared_in decls ≡ before ++ x ∷ behind
      → (is_some (place_of before x.name) || nat_lt most_elements x.array.extent) ≡ true →
      Member (not_yet_breaks s) (not_yet_at x.array.line)
  refused_noted before x behind is why = in_declarations (not_yet_at x.array.line)
      (declarations_arrays [] decls (not_yet_at x.array.line)
      (subst (λ z. Member (symbols_breaks [] z) (not_yet_at x.array.line)) (sym is)
      (symbols_complete [] [] before x behind nothing_same why)))

  complete : (line rule : ℕ) → IsNotYet s line rule → Member (not_yet_breaks s) (broken_at line rule)
  complete _ _ (has_module m among) =
      in_around _ (Member-append_left (map module_break s.modules) _ _ (Member-map module_break s.modules m among))
  complete _ _ (has_use u among) =
      behind_modules _
      (Member-append_left (map use_break s.main.section.uses) _ _ (Member-map use_break s.main.section.uses u among))
  complete _ _ (has_implicit l is) =
      behind_modules _
      (Member-append_right (map use_break s.main.section.uses) _ _
      (Member-append_left (implicit_breaks s.main.section.implicit) _ _
      (subst (λ o. Member (implicit_breaks o) (not_yet_at l.0)) (sym is) (inl refl))))
  complete _ _ (other_declaration d among is) = in_declarations _ (declarations_other [] decls d among is)
  complete _ _ (large_extent x among large) =
      let split = split_at (declared_in decls) x among in
      refused_noted split.before x split.behind split.is
      (or_right _ (nat_lt most_elements x.array.extent) (le-leb (suc most_elements) x.array.extent large))
  complete _ _ (declared_twice before x behind is found) =
      refused_noted before x behind is (or_left (is_some (place_of before x.name)) (nat_lt most_elements x.array.extent) found)
  complete _ _ (other_statement x among is) =
      in_body _ x among
      (subst (λ o. Member (action_breaks (symbols_of s) (statement_line x) o) (not_yet_at (statement_line x))) (sym is)
      (inl refl))
  complete _ _ (unequal_extents x among a is unequal) =
      in_body _ x among
      (subst (λ o. Member (action_breaks (symbols_of s) (statement_line x) o) (not_yet_at (statement_line x))) (sym is)
      (noted_here (not (is_conforming (symbols_of s) a)) (not_yet_at (statement_line x)) (ap not unequal)))
  complete _ _ (has_procedures c is) =
      behind_modules _
      (Member-append_right (map use_break s.main.section.uses) _ _
      (Member-append_right (implicit_breaks s.main.section.implicit) _ _
      (subst (λ o. Member (procedures_breaks o) (not_yet_at c.0.0)) (sym is) (inl refl))))

  are_noted : AreBroken (IsNotYet s) (not_yet_breaks s)
  are_noted = record { sound = sound; complete = complete }

  -- ---- names

  name_sound : (x : Statement) → Member s.main.body x → (o : Option NamedAction) → named_in x ≡ o → (b : Break)
      → Member (name_breaks (symbols_of s) (statement_line x) o) b → IsUndeclared s b.line b.rule
  name_sound x among None is b h = absurd h
  name_sound x among (Some a) is b h =
      let two = noted_is (not (is_declared (symbols_of s) a)) (undeclared_at (statement_line x)) b h in
      subst (λ z. IsUndeclared s z.line z.rule) two.1 (unknown_name x among a is (not-true (is_declared (symbols_of s) a) two.0))

  names_sound : (b : Break) → Member (undeclared_breaks s) b → IsUndeclared s b.line b.rule
  names_sound b h =
      let r = Member-from_flat_map (names_breaks (symbols_of s)) s.main.body b h in name_sound r.0 r.1.0 (named_in r.0) refl b r.1.1

  names_complete : (line rule : ℕ) → IsUndeclared s line rule → Member (undeclared_breaks s) (broken_at line rule)
  names_complete _ _ (unknown_name x among a is unknown) =
      Member-flat_map (names_breaks (symbols_of s)) s.main.body x (undeclared_at (statement_line x)) among
      (subst (λ o. Member (name_breaks (symbols_of s) (statement_line x) o) (undeclared_at (statement_line x))) (sym is)
      (noted_here (not (is_declared (symbols_of s) a)) (undeclared_at (statement_line x)) (ap not unknown)))

  names_noted : AreBroken (IsUndeclared s) (undeclared_breaks s)
  names_noted = record { sound = names_sound; complete = names_complete }

pub built_by : (s : Source) → first_of (not_yet_breaks s) ≡ None → IsBuilt s
built_by s e = λ line rule h. none_among (not_yet_breaks s) e (broken_at line rule) (complete s line rule h)

pub declared_by : (s : Source) → first_of (undeclared_breaks s) ≡ None → AreDeclared s
declared_by s e = λ line rule h. none_among (undeclared_breaks s) e (broken_at line rule) (names_complete s line rule h)

pub form_refused : (s : Source) (f : Break) → first_of (not_yet_breaks s) ≡ Some f → IsLeast (IsNotYet s) f.line f.rule
form_refused s f e = first_is_least (IsNotYet s) (not_yet_breaks s) f (are_noted s) e

pub name_refused : (s : Source) (f : Break) → first_of (undeclared_breaks s) ≡ Some f → IsLeast (IsUndeclared s) f.line f.rule
name_refused s f e = first_is_least (IsUndeclared s) (undeclared_breaks s) f (names_noted s) e
