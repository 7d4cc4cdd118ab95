-- Breaks that are told part by part.
use Rattle.std.proofs.Common.{◌≡◌, ℕ, suc, ◌+◌, ◌<◌, Bool, true, false, cond, List, [], ◌∷◌, ◌++◌, map, drop, take, length, Option, Some, None}
use Rattle.std.proofs.Common.{nat_lt, get_or, ◌||◌, ◌&&◌, not, refl, sym, ap, ◌∙◌, append_assoc, arith, ◌≤◌, zero}
use Rattle.std.specs.Prelude.{nat_eq}
use Rattle.std.specs.List.{filter, flat_map, list_any, position_from}
use Rattle.std.specs.Cmp.Lexicographic.{pointwise}
use Rattle.std.proofs.lemmas.Bool.Decides.{nat_tests}
use Rattle.std.proofs.lemmas.List.{append-nil, map-append, drop_all}
use Rattle.a95_base.specs.declared.breaks.Break.{Break}
use Rattle.a95_base.specs.Breaks.{broken_at}
use Rattle.a95_base.specs.declared.scalar.Kind.{Kind}
use Rattle.a95_base.specs.declared.scalar.Kind.TheVariants as kind
use Rattle.f95_tree.specs.Forms.{Word}
use Rattle.intrinsic_table.specs.Finding.{is_word}
use Rattle.name_table.specs.Places.{first_place}
use Rattle.names_types.specs.declared.meaning.Meaning.{Meaning}
use Rattle.names_types.specs.declared.sense.Sense.{Sense}
use Rattle.names_types.specs.Rules.{lines_where, Demand, demand, form_demands, length_exprs, constant_bounds, initial_exprs}
use Rattle.names_types.specs.Rules.{site_line, name_line, declares, has_wrong_length}
use Rattle.names_types.specs.Scopes.{Scope, Object, Entry, Meant, meant, Sited, site, sited_from, entry_meaning, kind_of, entries, sites}
use Rattle.names_types.specs.Scopes.{has_intent, is_dummy, meanings}
use Rattle.scope_names.specs.Tables.{names_of}
use Rattle.scope_names.proofs.MeantBy.{behind}
use Rattle.scope_rules.specs.Told.{told, all_told, on_lines, line_if}
use Rattle.scope_rules.specs.declared.rules.DemandRule.{DemandRule}
use Rattle.scope_rules.specs.declared.rules.SiteRule.{SiteRule}
use Rattle.scope_rules.specs.declared.rules.SiteRule.TheVariants as of_site
use Rattle.scope_rules.specs.declared.rules.ObjectRule.{ObjectRule}
use Rattle.scope_rules.specs.declared.rules.ObjectRule.TheVariants as of_object
use Rattle.scope_rules.specs.declared.rules.DemandRule.TheVariants as of_demand
use Rattle.scope_rules.specs.Sites.{object_test, object_rule, demand_test, demand_rule, told_demands}
use Rattle.scope_rules.specs.Sites.{site_breaks, site_rule, site_lines}
use Rattle.scope_rules.specs.Asking.{told_object}

-- ---- one part behind the other

pub all_told-append : (found : Option Break) (xs ys : List Break) → all_told found (xs ++ ys) ≡ all_told (all_told found xs) ys
all_told-append found [] ys = refl
all_told-append found (x ∷ xs) ys = all_told-append (told found x) xs ys

lines_where-append : {A : Type 0} (line : A → ℕ) (test : A → Bool) (xs ys : List A)
    → lines_where line test (xs ++ ys) ≡ lines_where line test xs ++ lines_where line test ys
lines_where-append line test [] ys = refl
lines_where-append line test (x ∷ xs) ys = by (test x) (lines_where-append line test xs ys)
  where
    by : (b : Bool) → lines_where line test (xs ++ ys) ≡ lines_where line test xs ++ lines_where line test ys
        → map line (cond b (x ∷ filter test (xs ++ ys)) (filter test (xs ++ ys)))
        ≡ map line (cond b (x ∷ filter test xs) (filter test xs)) ++ lines_where line test ys
    by true e = ap (λ more. line x ∷ more) e
    by false e = e

pub on_lines-append : (rule : ℕ) (xs ys : List ℕ) → on_lines rule (xs ++ ys) ≡ on_lines rule xs ++ on_lines rule ys
on_lines-append rule xs ys = map-append (λ line. broken_at line rule) xs ys

told_demands-append : (rule : DemandRule) (c : Scope) (xs ys : List Demand)
    → told_demands rule c (xs ++ ys) ≡ told_demands rule c xs ++ told_demands rule c ys
told_demands-append rule c xs ys =
    ap (λ ls. on_lines (demand_rule rule) ls) (lines_where-append (λ (d : Demand). d.line) (demand_test rule c) xs ys)
    ∙ on_lines-append (demand_rule rule) (lines_where (λ (d : Demand). d.line) (demand_test rule c) xs)
    (lines_where (λ (d : Demand). d.line) (demand_test rule c) ys)

-- a declaration's length, its bounds, and its initial value
pub told_three : (rule : DemandRule) (c : Scope) (line : ℕ) (sense : Word → Sense) (o : Object) (b0 b1 b2 b3 : Option Break)
    → b1 ≡ all_told b0 (told_demands rule c (map (demand line kind.Int sense) (length_exprs o.of)))
    → b2 ≡ all_told b1 (told_demands rule c (map (demand line kind.Int sense) (constant_bounds c o)))
    → b3 ≡ all_told b2 (told_demands rule c (map (demand line (kind_of o.of) sense) (initial_exprs o o.initial)))
    → b3 ≡ all_told b0 (told_object rule c line sense o)
told_three rule c line sense o b0 b1 b2 b3 e1 e2 e3 =
    let L = map (demand line kind.Int sense) (length_exprs o.of) in
    let B = map (demand line kind.Int sense) (constant_bounds c o) in
    let I = map (demand line (kind_of o.of) sense) (initial_exprs o o.initial) in
    let two : map (demand line kind.Int sense) (length_exprs o.of ++ constant_bounds c o) ≡ L ++ B =
    map-append (demand line kind.Int sense) (length_exprs o.of) (constant_bounds c o) in
    let whole : told_object rule c line sense o ≡ (told_demands rule c L ++ told_demands rule c B) ++ told_demands rule c I =
    ap (λ ds. told_demands rule c (ds ++ I)) two ∙ (told_demands-append rule c (L ++ B) I
    ∙ ap (λ bs. bs ++ told_demands rule c I) (told_demands-append rule c L B)) in
    e3 ∙ (ap (λ b. all_told b (told_demands rule c I)) (e2 ∙ (ap (λ b. all_told b (told_demands rule c B)) e1
    ∙ sym (all_told-append b0 (told_demands rule c L) (told_demands rule c B))))
    ∙ (sym (all_told-append b0 (told_demands rule c L ++ told_demands rule c B) (told_demands rule c I))
    ∙ ap (λ bs. all_told b0 bs) (sym whole)))

-- ---- what is told at each declaration is what the rule has for the scope

by_tests : (rule : ℕ) (line : Sited → ℕ) (test : Sited → Bool) (ss : List Sited)
    → flat_map (λ (s : Sited). on_lines rule (line_if (test s) (line s))) ss ≡ on_lines rule (lines_where line test ss)
by_tests rule line test [] = refl
by_tests rule line test (s ∷ ss) = by (test s) (by_tests rule line test ss)
  where
    by : (b : Bool)
        → flat_map (λ (s : Sited). on_lines rule (line_if (test s) (line s))) ss ≡ on_lines rule (lines_where line test ss)
        → on_lines rule (line_if b (line s)) ++ flat_map (λ (s : Sited). on_lines rule (line_if (test s) (line s))) ss
        ≡ on_lines rule (map line (cond b (s ∷ filter test ss) (filter test ss)))
    by true e = ap (λ more. broken_at (line s) rule ∷ more) e
    by false e = e

by_demands : (rule : DemandRule) (c : Scope) (f : Sited → List Demand) (ss : List Sited)
    → flat_map (λ (s : Sited). told_demands rule c (f s)) ss ≡ told_demands rule c (flat_map f ss)
by_demands rule c f [] = refl
by_demands rule c f (s ∷ ss) =
    ap (λ more. told_demands rule c (f s) ++ more) (by_demands rule c f ss)
    ∙ sym (told_demands-append rule c (f s) (flat_map f ss))

pub of_scope : (rule : SiteRule) (c : Scope)
    → flat_map (site_breaks rule c) (sites c) ≡ on_lines (site_rule rule) (site_lines rule c)
of_scope of_site.DeclaredTwice c =
    by_tests (site_rule of_site.DeclaredTwice) site_line
    (λ (s : Sited). list_any (λ (e : Entry). is_word s.entry.name e.name) s.earlier) (sites c)
of_scope of_site.IntendedOther c =
    by_tests (site_rule of_site.IntendedOther) (λ (s : Sited). name_line s.entry.line c s.entry.name)
    (λ (s : Sited). declares (λ t o. has_intent o && not (is_dummy c t.entry.name)) s s.entry.form) (sites c)
of_scope of_site.WrongLength c =
    by_tests (site_rule of_site.WrongLength) site_line (λ (s : Sited). has_wrong_length c s s.entry.form) (sites c)
of_scope (of_site.OfObject of_object.WrongAttributes) c =
    by_tests (object_rule of_object.WrongAttributes) site_line
    (λ (s : Sited). declares (object_test of_object.WrongAttributes c) s s.entry.form) (sites c)
of_scope (of_site.OfObject of_object.RankTooGreat) c =
    by_tests (object_rule of_object.RankTooGreat) site_line
    (λ (s : Sited). declares (object_test of_object.RankTooGreat c) s s.entry.form) (sites c)
of_scope (of_site.OfObject of_object.ShapeTooLarge) c =
    by_tests (object_rule of_object.ShapeTooLarge) site_line
    (λ (s : Sited). declares (object_test of_object.ShapeTooLarge c) s s.entry.form) (sites c)
of_scope (of_site.OfObject of_object.NoSpecification) c =
    by_tests (object_rule of_object.NoSpecification) site_line
    (λ (s : Sited). declares (object_test of_object.NoSpecification c) s s.entry.form) (sites c)
of_scope (of_site.OfDemand of_demand.NotConstant) c =
    by_demands of_demand.NotConstant c (λ (s : Sited). form_demands c s s.entry.form) (sites c)
of_scope (of_site.OfDemand of_demand.ConstantFault) c =
    by_demands of_demand.ConstantFault c (λ (s : Sited). form_demands c s s.entry.form) (sites c)

-- ---- one declaration after the other

abbrev meant_of : Sited → Meant
meant_of s = meant s.entry.name s.meaning

-- what is left of the sites behind a place begins with the declaration there
pub record Here (all : List Sited) (before_all : List Entry) (meanings_all : List Meant) (i : ℕ) (e : Entry) : Type 0 where
  pub meaning : Meaning
  pub is : drop i all ≡ site e meaning (take i before_all) (take i meanings_all) ∷ drop (suc i) all

record HereFrom (all : List Sited) (earlier : List Entry) (before : List Meant) (es : List Entry) (i : ℕ) (e : Entry) : Type 0 where
  meaning : Meaning
  is : drop i all ≡ site e meaning (earlier ++ take i es) (before ++ take i (map meant_of all)) ∷ drop (suc i) all

module _ (own : List Word) (host : List Meant) where
  here_from : (earlier : List Entry) (before : List Meant) (es : List Entry) (i : ℕ) (e : Entry) → i < length es → e ≡ get_or es i e
      → HereFrom (sited_from own host earlier before es) earlier before es i e
  here_from earlier before [] i e h is = absurd (grind (arith, h))
  here_from earlier before (x ∷ es) zero e h is = record {
    meaning = entry_meaning own host before x;
    is = let same : x ≡ e = sym is in
        let now = entry_meaning own host before x in
        let rest = sited_from own host (earlier ++ x ∷ []) (before ++ meant x.name now ∷ []) es in
        ap (λ y. site y now earlier before ∷ rest) same
        ∙ (ap (λ xs. site e now xs before ∷ rest) (sym (append-nil earlier))
        ∙ ap (λ ys. site e now (earlier ++ []) ys ∷ rest) (sym (append-nil before)));
  }
  here_from earlier before (x ∷ es) (suc i) e h is =
      let now = entry_meaning own host before x in
      let more = meant x.name now in
      let rest = sited_from own host (earlier ++ x ∷ []) (before ++ more ∷ []) es in
      let next = here_from (earlier ++ x ∷ []) (before ++ more ∷ []) es i e (omega (arith, h)) is in
      record {
        meaning = next.meaning;
        is = next.is
            ∙ (ap (λ xs. site e next.meaning xs ((before ++ more ∷ []) ++ take i (map meant_of rest)) ∷ drop (suc i) rest)
            (append_assoc earlier (x ∷ []) (take i es))
            ∙ ap (λ ys. site e next.meaning (earlier ++ x ∷ take i es) ys ∷ drop (suc i) rest)
            (append_assoc before (more ∷ []) (take i (map meant_of rest))));
      }

pub here : (c : Scope) (i : ℕ) (e : Entry) → i < length (entries c) → e ≡ get_or (entries c) i e
    → Here (sites c) (entries c) (meanings c) i e
here c i e h is =
    let found = here_from (names_of (entries c)) c.host [] [] (entries c) i e h is in
    record { meaning = found.meaning; is = found.is }

length_sited : (own : List Word) (host : List Meant) (earlier : List Entry) (before : List Meant) (es : List Entry)
    → length (sited_from own host earlier before es) ≡ length es
length_sited own host earlier before [] = refl
length_sited own host earlier before (e ∷ es) =
    ap suc (length_sited own host (earlier ++ e ∷ []) (before ++ meant e.name (entry_meaning own host before e) ∷ []) es)

pub length_sites : (c : Scope) → length (sites c) ≡ length (entries c)
length_sites c = length_sited (names_of (entries c)) c.host [] [] (entries c)

-- what is told behind so many declarations comes to what is told of all
pub record Telling (f : Sited → List Break) (ss : List Sited) (first now : Option Break) (i : ℕ) : Type 0 where
  pub same : all_told now (flat_map f (drop i ss)) ≡ all_told first (flat_map f ss)

pub telling_step : {f : Sited → List Break} {ss : List Sited} {first now next : Option Break} {i : ℕ} (s : Sited)
    → Telling f ss first now i → drop i ss ≡ s ∷ drop (suc i) ss → next ≡ all_told now (f s) → Telling f ss first next (i + 1)
telling_step {f} {ss} {first} {now} {next} {i} s t split e =
    let more : i + 1 ≡ suc i = omega arith in
    record {
      same = ap (λ n. all_told next (flat_map f (drop n ss))) more
          ∙ (ap (λ b. all_told b (flat_map f (drop (suc i) ss))) e
          ∙ (sym (all_told-append now (f s) (flat_map f (drop (suc i) ss)))
          ∙ (ap (λ xs. all_told now (flat_map f xs)) (sym split) ∙ t.same)));
    }

pub telling_end : {f : Sited → List Break} {ss : List Sited} {first now : Option Break} {i : ℕ} → Telling f ss first now i
    → length ss ≡ i → now ≡ all_told first (flat_map f ss)
telling_end {f} {ss} {first} {now} {i} t end =
    let none : drop i ss ≡ [] = drop_all i ss (omega (arith, end)) in
    ap (λ xs. all_told now (flat_map f xs)) (sym none) ∙ t.same

-- ---- a name that stands before

abbrev is_before : Option ℕ → ℕ → Bool
is_before None n = false
is_before (Some p) n = nat_lt p n

module _ (name : Word) where
  far : (i : ℕ) (o : Option ℕ) → ((p : ℕ) → o ≡ Some p → i ≤ p) → false ≡ is_before o (i + 0)
  far i None h = refl
  far i (Some p) h = grind (arith, nat_tests, h p refl)

  before_from : (es : List Entry) (i place : ℕ)
      → list_any (λ (e : Entry). is_word name e.name) (take place es)
      ≡ is_before (position_from (pointwise nat_eq name) i (names_of es)) (i + place)
  before_from [] i zero = refl
  before_from [] i (suc n) = refl
  before_from (x ∷ es) i zero =
      far i (position_from (pointwise nat_eq name) i (names_of (x ∷ es)))
      (λ p e. behind (pointwise nat_eq name) i p (names_of (x ∷ es)) e)
  before_from (x ∷ es) i (suc n) = by (is_word name x.name) (before_from es (i + 1) n)
    where
      by : (b : Bool) → list_any (λ (e : Entry). is_word name e.name) (take n es)
          ≡ is_before (position_from (pointwise nat_eq name) (i + 1) (names_of es)) ((i + 1) + n)
          → (b || list_any (λ (e : Entry). is_word name e.name) (take n es))
          ≡ is_before (cond b (Some i) (position_from (pointwise nat_eq name) (i + 1) (names_of es))) (i + suc n)
      by true e = grind (arith, nat_tests)
      by false e =
          let same : (i + 1) + n ≡ i + suc n = omega arith in
          e ∙ ap (λ k. is_before (position_from (pointwise nat_eq name) (i + 1) (names_of es)) k) same

  pub stands_before_none : (es : List Entry) (place : ℕ) → first_place name (names_of es) ≡ None
      → false ≡ list_any (λ (e : Entry). is_word name e.name) (take place es)
  stands_before_none es place e = sym (before_from es 0 place ∙ ap (λ o. is_before o (0 + place)) e)

  pub stands_before_some : (es : List Entry) (place p : ℕ) → first_place name (names_of es) ≡ Some p
      → nat_lt p place ≡ list_any (λ (e : Entry). is_word name e.name) (take place es)
  stands_before_some es place p e =
      let same : place ≡ 0 + place = omega arith in
      let found : list_any (λ (e : Entry). is_word name e.name) (take place es) ≡ is_before (Some p) (0 + place) =
      before_from es 0 place ∙ ap (λ o. is_before o (0 + place)) e in
      ap (λ n. nat_lt p n) same ∙ sym found
