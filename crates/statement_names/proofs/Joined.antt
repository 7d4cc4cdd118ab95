-- Names of one part behind those of another.
use Rattle.std.proofs.Common.{◌≡◌, List, [], ◌∷◌, ◌++◌, ap, ◌∙◌, append_assoc}

-- the names of an implied DO, one part after the other
pub joined : {A : Type 0} (n0 n1 n2 n3 n4 n5 : List A) (x : A) (body first last step more : List A)
    → n1 ≡ n0 ++ x ∷ [] → n2 ≡ n1 ++ body → n3 ≡ n2 ++ first → n4 ≡ n3 ++ last → n5 ≡ n4 ++ step
    → n5 ++ more ≡ n0 ++ (x ∷ (body ++ (first ++ (last ++ (step ++ more)))))
joined n0 n1 n2 n3 n4 n5 x body first last step more e1 e2 e3 e4 e5 =
    ap (λ n. n ++ more) e5 ∙ (append_assoc n4 step more
    ∙ (ap (λ n. n ++ (step ++ more)) e4 ∙ (append_assoc n3 last (step ++ more)
    ∙ (ap (λ n. n ++ (last ++ (step ++ more))) e3 ∙ (append_assoc n2 first (last ++ (step ++ more))
    ∙ (ap (λ n. n ++ (first ++ (last ++ (step ++ more)))) e2 ∙ (append_assoc n1 body (first ++ (last ++ (step ++ more)))
    ∙ (ap (λ n. n ++ (body ++ (first ++ (last ++ (step ++ more))))) e1
    ∙ append_assoc n0 (x ∷ []) (body ++ (first ++ (last ++ (step ++ more))))))))))))
