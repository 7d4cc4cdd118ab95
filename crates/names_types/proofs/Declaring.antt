-- Declarations of one scope, and names of its host.
use Rattle.std.proofs.Common.{◌≡◌, ℕ, Bool, true, false, not, ◌&&◌, ◌||◌, cond, List, [], ◌∷◌, ◌++◌, map, Option, Some, None, refl}
use Rattle.std.proofs.Common.{ap, ◌∙◌, arith}
use Rattle.std.specs.List.{list_any, filter}
use Rattle.std.specs.Option.{is_none}
use Rattle.a95_base.specs.Lists.{Every, Pairwise}
use Rattle.a95_base.proofs.Lists.{each_from_has, Member-flat_map, no_member}
use Rattle.std.proofs.lemmas.Bool.{or_parts}
use Rattle.f95_tree.specs.Forms.{Word}
use Rattle.intrinsic_table.specs.Finding.{is_word}
use Rattle.names_types.specs.Keywords.{intrinsic_named}
use Rattle.names_types.specs.Scopes.{Entry, Meaning, Meant, Scope, Sited, site, sited_from, entry_meaning, meant, own_names}
use Rattle.names_types.specs.Scopes.{entries, scopes, is_own, means_variable, meaning_in}
use Rattle.names_types.specs.Rules.{site_line, declared_twice_on, is_declared_twice}
use Rattle.names_types.specs.Laws.{IsOther, DeclaresEachOnce, EachDeclaredOnce, HostIsDeclared}

-- ---- lists

any_snoc : {A : Type 0} (f : A → Bool) (xs : List A) (x : A) → list_any f (xs ++ x ∷ []) ≡ false
    → (list_any f xs ≡ false) × (f x ≡ false)
any_snoc f [] x e = (refl, (or_parts (f x) false e).0)
any_snoc f (y ∷ xs) x e =
    let both = or_parts (f y) (list_any f (xs ++ x ∷ [])) e in
    let rest = any_snoc f xs x both.1 in
    (ap (λ b. b || list_any f xs) both.0 ∙ rest.0, rest.1)

-- ---- where rule 18 holds on no line

is_taken : List Entry → Entry → Bool
is_taken earlier e = list_any (λ (d : Entry). is_word e.name d.name) earlier

cons_is_not_nil : {A : Type 0} (x : A) (xs : List A) → x ∷ xs ≡ [] → ⊥
cons_is_not_nil x xs e = grind (arith, e)

module _ (own : List Word) (host : List Meant) where
  abbrev lines : List Sited → List ℕ
  lines ss = map site_line (filter (λ (s : Sited). list_any (λ (e : Entry). is_word s.entry.name e.name) s.earlier) ss)

  first_line : (t : Bool) (s : Sited) (ss : List Sited) → map site_line (cond t (s ∷ ss) ss) ≡ []
      → (t ≡ false) × (map site_line ss ≡ [])
  first_line true s ss e = absurd (cons_is_not_nil (site_line s) (map site_line ss) e)
  first_line false s ss e = (refl, e)

  each_fresh : (earlier : List Entry) (before : List Meant) (es : List Entry) → lines (sited_from own host earlier before es) ≡ []
      → Every (λ (e : Entry). list_any (λ (d : Entry). is_word e.name d.name) earlier ≡ false) es × Pairwise IsOther es
  each_fresh earlier before [] h = (tt, tt)
  each_fresh earlier before (e ∷ more) h =
      let split = first_line (list_any (λ (d : Entry). is_word e.name d.name) earlier)
      (site e (entry_meaning own host before e) earlier before)
      (filter (λ (s : Sited). list_any (λ (d : Entry). is_word s.entry.name d.name) s.earlier)
      (sited_from own host (earlier ++ e ∷ []) (before ++ meant e.name (entry_meaning own host before e) ∷ []) more)) h in
      let rest = each_fresh (earlier ++ e ∷ []) (before ++ meant e.name (entry_meaning own host before e) ∷ []) more split.1 in
      ((split.0, earlier_free more rest.0), (last_free more rest.0, rest.1))
    where
      earlier_free : (xs : List Entry)
          → Every (λ (x : Entry). list_any (λ (d : Entry). is_word x.name d.name) (earlier ++ e ∷ []) ≡ false) xs
          → Every (λ (x : Entry). list_any (λ (d : Entry). is_word x.name d.name) earlier ≡ false) xs
      earlier_free [] p = tt
      earlier_free (x ∷ xs) p = ((any_snoc (λ (d : Entry). is_word x.name d.name) earlier e p.0).0, earlier_free xs p.1)

      last_free : (xs : List Entry)
          → Every (λ (x : Entry). list_any (λ (d : Entry). is_word x.name d.name) (earlier ++ e ∷ []) ≡ false) xs
          → Every (IsOther e) xs
      last_free [] p = tt
      last_free (x ∷ xs) p = ((any_snoc (λ (d : Entry). is_word x.name d.name) earlier e p.0).1, last_free xs p.1)

each_once : (c : Scope) → declared_twice_on c ≡ [] → DeclaresEachOnce c
each_once c h = (each_fresh (own_names c) c.host [] [] (entries c) h).1

pub each_declared_once : EachDeclaredOnce
each_declared_once s none = each_from_has DeclaresEachOnce (scopes s)
    (λ c among. each_once c (no_member (declared_twice_on c)
    (λ line m. none line (is_declared_twice line (Member-flat_map declared_twice_on (scopes s) c line among m)))))

-- ---- names of the host

known : (m : Option Meaning) → means_variable m ≡ true → is_none m ≡ false
known None e = absurd (grind (arith, e))
known (Some m) e = refl

undeclared_not : (own : Bool) (m : Option Meaning) (no_intrinsic : Bool) → (not own && means_variable m) ≡ true
    → (not own && (is_none m && no_intrinsic)) ≡ false
undeclared_not true m no_intrinsic e = refl
undeclared_not false m no_intrinsic e = ap (λ b. b && no_intrinsic) (known m e)

pub host_is_declared : HostIsDeclared
host_is_declared c name h = undeclared_not (is_own c name) (meaning_in c.host name) (is_none (intrinsic_named name)) h
