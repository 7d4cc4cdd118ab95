-- The meanings of a scope's names, one declaration after the other.
use Rattle.std.proofs.Common.{◌≡◌, ℕ, suc, ◌+◌, ◌<◌, List, [], ◌∷◌, ◌++◌, map, length, drop, drop-cons, get_or, refl, sym, ap}
use Rattle.std.proofs.Common.{subst, ◌∙◌, append_assoc, length-append, arith}
use Rattle.std.proofs.lemmas.List.{append-nil, drop_all, drop-map}
use Rattle.f95_tree.specs.Forms.{Word}
use Rattle.names_types.specs.declared.meaning.Meaning.{Meaning}
use Rattle.names_types.specs.Scopes.{Meant, meant, Entry, entry_meaning}
use Rattle.scope_names.specs.Tables.{meant_by, names_of, all_meant}
use Rattle.scope_names.proofs.MeantBy.{meant_from, meant_more, meant_is_from}

-- so many meanings of a scope with these declarations are known, in this host
pub record Filled (host : List Meant) (es : List Entry) (own : List Word) (ms : List Meaning) (i : ℕ) : Type 0 where
  pub names : own ≡ names_of es
  pub counted : length ms ≡ i
  pub same : meant_by own ms ++ meant_from (names_of es) host (meant_by own ms) (drop i es) ≡ meant_from (names_of es) host [] es

meant_none : (ns : List Word) → meant_by ns [] ≡ []
meant_none [] = refl
meant_none (n ∷ ns) = refl

module _ (host : List Meant) (es : List Entry) (own : List Word) where
  pub filled_start : (ms : List Meaning) → own ≡ names_of es → ms ≡ [] → Filled host es own ms 0
  filled_start ms names none =
      let empty : meant_by own ms ≡ [] = ap (λ xs. meant_by own xs) none ∙ meant_none own in
      record {
        names = names;
        counted = ap length none;
        same = ap (λ xs. xs ++ meant_from (names_of es) host xs es) empty;
      }

  pub filled_step : (ms : List Meaning) (i : ℕ) (e : Entry) (m : Meaning) → Filled host es own ms i → i < length es →
      e ≡ get_or es i e
      → m ≡ entry_meaning own host (meant_by own ms) e → Filled host es own (ms ++ m ∷ []) (i + 1)
  filled_step ms i e m f within is meaning =
      let next : suc i ≡ i + 1 = omega arith in
      let split : drop i es ≡ e ∷ drop (i + 1) es =
      drop-cons es i e within ∙ (ap (λ (x : Entry). x ∷ drop (suc i) es) (sym is) ∙ ap (λ n. e ∷ drop n es) next) in
      let here : drop (length ms) own ≡ e.name ∷ names_of (drop (i + 1) es) =
      ap (λ n. drop n own) f.counted ∙ (ap (λ ns. drop i ns) f.names
      ∙ (drop-map (λ (x : Entry). x.name) i es ∙ ap (λ xs. names_of xs) split)) in
      let more : meant_by own (ms ++ m ∷ []) ≡ meant_by own ms ++ meant e.name m ∷ [] =
      meant_more own (names_of (drop (i + 1) es)) ms e.name m here in
      let said : m ≡ entry_meaning (names_of es) host (meant_by own ms) e =
      meaning ∙ ap (λ ns. entry_meaning ns host (meant_by own ms) e) f.names in
      let whole = meant_from (names_of es) host [] es in
      let before : meant_by own ms ++ meant_from (names_of es) host (meant_by own ms) (e ∷ drop (i + 1) es) ≡ whole =
      subst (λ xs. meant_by own ms ++ meant_from (names_of es) host (meant_by own ms) xs ≡ whole) split f.same in
      let after : meant_by own ms
      ++ (meant e.name m ∷ meant_from (names_of es) host (meant_by own ms ++ meant e.name m ∷ []) (drop (i + 1) es)) ≡ whole =
      ap (λ x. meant_by own ms
      ++ (meant e.name x ∷ meant_from (names_of es) host (meant_by own ms ++ meant e.name x ∷ []) (drop (i + 1) es))) said
      ∙ before in
      record {
        names = f.names;
        counted = omega (arith, length-append ms (m ∷ []), f.counted);
        same = ap (λ xs. xs ++ meant_from (names_of es) host xs (drop (i + 1) es)) more
            ∙ (append_assoc (meant_by own ms) (meant e.name m ∷ [])
            (meant_from (names_of es) host (meant_by own ms ++ meant e.name m ∷ []) (drop (i + 1) es))
            ∙ after);
      }

  pub filled_end : (ms : List Meaning) (i : ℕ) → Filled host es own ms i → length es ≡ i → meant_by own ms ≡ all_meant host es
  filled_end ms i f end =
      let none : drop i es ≡ [] = drop_all i es (omega (arith, end)) in
      sym (append-nil (meant_by own ms))
      ∙ (ap (λ xs. meant_by own ms ++ meant_from (names_of es) host (meant_by own ms) xs) (sym none)
      ∙ (f.same ∙ sym (meant_is_from (names_of es) host [] [] es)))
