-- Tokens, one after another.
use Rattle.std.proofs.Common.{◌≡◌, ℕ, suc, ◌+◌, ◌<◌, ◌≤◌, max, length, get_or, drop, drop-cons, add-one, List, [], ◌∷◌, ◌++◌}
use Rattle.std.proofs.Common.{append_assoc, refl, sym, ◌∙◌, ap, arith}
use Rattle.std.proofs.lemmas.List.{drop_all}
use Rattle.f95_lexer.specs.declared.token.Token.{Token}
use Rattle.f95_tree.specs.Spelling.{Text}
use Rattle.f95_parser.specs.Tokens.{terminals_at, terminals_from, open_behind}
use Rattle.f95_parser.specs.Rules.{most_open}

cut : (t : Token) (ts : List Token) (i : ℕ) → i < length ts → t ≡ get_or ts i t → drop i ts ≡ t ∷ drop (i + 1) ts
cut t ts i h is = rw (add-one, drop-cons ts i t) (ap (λ x. x ∷ drop (suc i) ts) (sym is))

joined : (m n k : ℕ) → max (max m n) k ≡ max m (max n k)
joined m n k = omega arith

pub deeper : (t : Token) (ts : List Token) (i m n m' n' r : ℕ) → i < length ts → t ≡ get_or ts i t → m' ≡ max m n →
    n' ≡ open_behind n t →
    max m (most_open n (drop i ts)) ≡ r → max m' (most_open n' (drop (i + 1) ts)) ≡ r
deeper t ts i m n m' n' r h is hm hn before =
    let c = cut t ts i h is in
    ap (λ k. max k (most_open n' (drop (i + 1) ts))) hm ∙ ap (λ k. max (max m n) (most_open k (drop (i + 1) ts))) hn
    ∙ joined m n (most_open (open_behind n t) (drop (i + 1) ts)) ∙ ap (λ xs. max m (most_open n xs)) (sym c) ∙ before

pub further : (t : Token) (ts : List Token) (i n n' : ℕ) (done more r : Text) → i < length ts → t ≡ get_or ts i t →
    more ≡ done ++ terminals_at n t → n' ≡ open_behind n t →
    done ++ terminals_from n (drop i ts) ≡ r → more ++ terminals_from n' (drop (i + 1) ts) ≡ r
further t ts i n n' done more r h is hm hn before =
    let c = cut t ts i h is in
    ap (λ d. d ++ terminals_from n' (drop (i + 1) ts)) hm ∙ ap
    (λ k. (done ++ terminals_at n t) ++ terminals_from k (drop (i + 1) ts)) hn
    ∙ append_assoc done (terminals_at n t) (terminals_from (open_behind n t) (drop (i + 1) ts))
    ∙ ap (λ xs. done ++ terminals_from n xs) (sym c) ∙ before

pub none_left : (ts : List Token) (i : ℕ) → length ts ≤ i → drop i ts ≡ []
none_left ts i h = drop_all i ts h
