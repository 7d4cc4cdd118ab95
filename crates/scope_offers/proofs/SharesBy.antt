-- The shares are those of the sites of a module's scope.
use Rattle.std.proofs.Common.{◌≡◌, ℕ, Bool, true, false, cond, List, [], ◌∷◌, ◌++◌, map, filter, refl, sym, ap, subst, ◌∙◌}
use Rattle.std.specs.Prelude.{if◌then◌else◌}
use Rattle.f95_tree.specs.Forms.{Word}
use Rattle.names_types.specs.declared.meaning.Meaning.{Meaning}
use Rattle.names_types.specs.declared.meaning.Share.{Share}
use Rattle.names_types.specs.Scopes.{Meant, meant, Entry, Sited, site, sited_from, entry_meaning, share_of, is_shared}
use Rattle.scope_names.specs.Tables.{meant_by, names_of}
use Rattle.scope_offers.specs.Shares.{share, shares_by}

head_same : (x y : Meant) (xs ys : List Meant) → x ∷ xs ≡ y ∷ ys → x ≡ y
head_same x y xs ys e = cc

tail_same : (x y : Meant) (xs ys : List Meant) → x ∷ xs ≡ y ∷ ys → xs ≡ ys
tail_same x y xs ys e = cc

pub shares_are : (place : ℕ) (own : List Word) (host : List Meant) (earlier : List Entry) (before : List Meant) (es : List Entry) (ms : List Meaning)
    → meant_by (names_of es) ms ≡ map (λ (s : Sited). meant s.entry.name s.meaning) (sited_from own host earlier before es)
    → map (share_of place) (filter (λ (s : Sited). is_shared s.meaning) (sited_from own host earlier before es)) ≡ shares_by place es ms
shares_are place own host earlier before [] ms e = refl
shares_are place own host earlier before (x ∷ es) [] e = absurd (let z : ⊥ = cc in z)
shares_are place own host earlier before (x ∷ es) (m ∷ ms) e =
    let here = entry_meaning own host before x in
    let rest = sited_from own host (earlier ++ x ∷ []) (before ++ meant x.name here ∷ []) es in
    let same : m ≡ here = ap (λ (t : Meant). t.meaning) (head_same (meant x.name m) (meant x.name here) (meant_by (names_of es) ms)
    (map (λ (s : Sited). meant s.entry.name s.meaning) rest) e) in
    let more : map (share_of place) (filter (λ (s : Sited). is_shared s.meaning) rest) ≡ shares_by place es ms =
    shares_are place own host (earlier ++ x ∷ []) (before ++ meant x.name here ∷ []) es ms
    (tail_same (meant x.name m) (meant x.name here) (meant_by (names_of es) ms) (map (λ (s : Sited). meant s.entry.name s.meaning) rest) e) in
    by (is_shared here) rest more
    ∙ ap (λ n. if is_shared n then share place x n ∷ shares_by place es ms else shares_by place es ms) (sym same)
  where
    by : (b : Bool) (rest : List Sited) → map (share_of place) (filter (λ (s : Sited). is_shared s.meaning) rest) ≡ shares_by place es ms
        → map (share_of place) (cond b (site x (entry_meaning own host before x) earlier before ∷ filter (λ (s : Sited). is_shared s.meaning) rest)
        (filter (λ (s : Sited). is_shared s.meaning) rest))
        ≡ (if b then share place x (entry_meaning own host before x) ∷ shares_by place es ms else shares_by place es ms)
    by true rest f = ap (λ ss. share place x (entry_meaning own host before x) ∷ ss) f
    by false rest f = f
