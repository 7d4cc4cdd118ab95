-- The steps of the code that makes the greedy choice.
use Rattle.std.proofs.Common.{◌≡◌, ℕ, suc, ◌+◌, ◌-◌, ◌<◌, ◌≤◌, Bool, true, false, not, List, [], ◌∷◌, ◌++◌, length, set, take}
use Rattle.std.proofs.Common.{replicate, Option, Some, None, refl, sym, ap, ◌∙◌, subst, arith, append_assoc}
use Rattle.std.specs.Prelude.{IsSome, IfSome, IfNone, find, option_map, option_and_then}
use Rattle.std.proofs.lemmas.Bool.{not-true, false≢true}
use Rattle.std.proofs.lemmas.List.{take_all, take_more_set, append-nil, length-take}
use Rattle.a95_base.specs.Lists.{Member, Permuted, down_to_one}
use Rattle.a95_base.proofs.Lists.{each_has}
use Rattle.a95_base.proofs.Permuted.{length-down_to_one, each_from_one, Member-down_to_one, permuted_back, Permuted-Member}
use Rattle.rank_shape.specs.declared.distance.Entry.{Entry}
use Rattle.rank_shape.specs.Order.{Level, IsOrder, levels}
use Rattle.rank_shape.specs.Fields.{loops_of-levels}
use Rattle.loop_order.specs.Legal.{IsLegal}
use Rattle.loop_order.specs.Choice.{is_up, some_entry, suits, unsettled, without, choice, chosen}
use Rattle.loop_order.specs.Left.{is_taken, loops_left, open_distances}
use Rattle.loop_order.proofs.Signs.{Every-filter}
use Rattle.loop_order.proofs.Choices.{choice_legal, choice_none, find_some}
use Rattle.loop_order.proofs.Lefts.{all_open_at_first, all_left_at_first, one_more_taken, one_more_settled}

map_same : {A : Type 0} (o : Option A) → option_map (λ (x : A). x) o ≡ o
map_same None = refl
map_same (Some x) = refl

map_twice : {A B C : Type 0} (f : A → B) (g : B → C) (o : Option A) → option_map g (option_map f o) ≡ option_map (λ x. g (f x)) o
map_twice f g None = refl
map_twice f g (Some x) = refl

-- what has been chosen so far, before what is left of the choice
abbrev pub chosen_so_far : List Level → Option (List Level) → Option (List Level)
chosen_so_far outer = option_map (λ inner. outer ++ inner)

pub start : (rank : ℕ) (distances : List (List Entry)) → choice rank (down_to_one rank) distances
    ≡ choice (rank - 0) (loops_left rank (replicate rank false)) (open_distances (replicate rank false) distances)
start rank distances =
    let none : rank - 0 ≡ rank = omega arith in
    sym (ap (λ n. choice n (loops_left rank (replicate rank false)) (open_distances (replicate rank false) distances)) none
    ∙ ap (λ ls. choice rank ls (open_distances (replicate rank false) distances)) (all_left_at_first rank rank)
    ∙ ap (choice rank (down_to_one rank)) (all_open_at_first rank distances))

pub start_level : (rank : ℕ) (loops : List ℕ) (downs : List Bool) (distances : List (List Entry)) →
    choice rank (down_to_one rank) distances ≡ chosen_so_far (levels (take 0 loops) (take 0 downs))
    (choice (rank - 0) (loops_left rank (replicate rank false)) (open_distances (replicate rank false) distances))
start_level rank loops downs distances =
    start rank distances
    ∙ sym (map_same
    (choice (rank - 0) (loops_left rank (replicate rank false)) (open_distances (replicate rank false) distances)))

-- a loop that is left is none of those taken
pub record IsLeft (rank : ℕ) (taken : List Bool) (loop : ℕ) : Type 0 where
  pub least : 1 ≤ loop
  pub most : loop ≤ rank
  pub free : is_taken taken loop ≡ false

pub found_left : (rank : ℕ) (taken : List Bool) (p : ℕ → Bool) (loop : ℕ) → Some loop ≡ find p (loops_left rank taken) →
    IsLeft rank taken loop
found_left rank taken p loop found =
    let known = find_some p (loops_left rank taken) loop (sym found) in
    let here = each_has (λ l. ((1 ≤ l) × (l ≤ rank)) × (not (is_taken taken l) ≡ true)) (loops_left rank taken) loop
    (Every-filter (λ l. (1 ≤ l) × (l ≤ rank)) (λ l. not (is_taken taken l)) (down_to_one rank)
    (each_from_one rank rank (omega arith))) known.1 in
    record { least = here.0.0; most = here.0.1; free = not-true (is_taken taken loop) here.1 }

-- one more level
pub step : (rank : ℕ) (taken : List Bool) (distances : List (List Entry)) (count loop : ℕ) → length taken ≡ rank →
    Some loop ≡ find (λ l. suits l (open_distances taken distances)) (loops_left rank taken) →
    choice (suc count) (loops_left rank taken) (open_distances taken distances)
    ≡ option_map (λ inner. record { number = loop; down = some_entry is_up loop (open_distances taken distances) } ∷ inner)
    (choice count (loops_left rank (set taken (loop - 1) true)) (open_distances (set taken (loop - 1) true) distances))
step rank taken distances count loop long found =
    let known = found_left rank taken (λ l. suits l (open_distances taken distances)) loop found in
    let head : List Level → List Level =
    λ inner. record { number = loop; down = some_entry is_up loop (open_distances taken distances) } ∷ inner in
    ap (option_and_then
    (λ l. option_map (λ inner. record { number = l; down = some_entry is_up l (open_distances taken distances) } ∷ inner)
    (choice count (without l (loops_left rank taken)) (unsettled l (open_distances taken distances))))) (sym found)
    ∙ ap (λ ls. option_map head (choice count ls (unsettled loop (open_distances taken distances))))
    (sym (one_more_taken rank taken loop known.least known.most (omega (arith, known.most)) known.free))
    ∙ ap (λ ds. option_map head (choice count (loops_left rank (set taken (loop - 1) true)) ds))
    (sym (one_more_settled taken loop distances known.least (omega (arith, known.most))))

levels_push : (loops : List ℕ) (downs : List Bool) (n : ℕ) (d : Bool) → length loops ≡ length downs →
    levels (loops ++ n ∷ []) (downs ++ d ∷ []) ≡ levels loops downs ++ record { number = n; down = d } ∷ []
levels_push [] [] n d e = refl
levels_push [] (x ∷ downs) n d e = absurd (omega arith)
levels_push (x ∷ loops) [] n d e = absurd (omega arith)
levels_push (x ∷ loops) (y ∷ downs) n d e = ap (λ ls. record { number = x; down = y } ∷ ls)
    (levels_push loops downs n d (omega arith))

regroup : (outer : List Level) (here : Level) (inside : Option (List Level)) → option_map (λ inner. outer ++ (here ∷ inner)) inside
    ≡ option_map (λ inner. (outer ++ here ∷ []) ++ inner) inside
regroup outer here None = refl
regroup outer here (Some inner) = ap Some (sym (append_assoc outer (here ∷ []) inner))

-- the invariant of the loop, one level on
pub one_more_level : (rank level loop : ℕ) (taken downs : List Bool) (loops : List ℕ) (distances : List (List Entry)) (down : Bool)
    (whole : Option (List Level)) → level < rank → length loops ≡ rank → length downs ≡ rank → length taken ≡ rank →
    whole ≡ chosen_so_far (levels (take level loops) (take level downs))
    (choice (rank - level) (loops_left rank taken) (open_distances taken distances)) →
    Some loop ≡ find (λ l. suits l (open_distances taken distances)) (loops_left rank taken) →
    down ≡ some_entry is_up loop (open_distances taken distances) →
    whole ≡ chosen_so_far (levels (take (level + 1) (set loops level loop)) (take (level + 1) (set downs level down)))
    (choice (rank - (level + 1)) (loops_left rank (set taken (loop - 1) true))
    (open_distances (set taken (loop - 1) true) distances))
one_more_level rank level loop taken downs loops distances down whole below loops_long downs_long taken_long before found down_is =
    let count : ℕ = rank - (level + 1) in
    let one_more : rank - level ≡ suc count = omega arith in
    let here : Level = record { number = loop; down = down } in
    let outer : List Level = levels (take level loops) (take level downs) in
    let inside : Option (List Level) = choice count (loops_left rank (set taken (loop - 1) true))
    (open_distances (set taken (loop - 1) true) distances) in
    before
    ∙ ap (λ n. option_map (λ inner. outer ++ inner) (choice n (loops_left rank taken) (open_distances taken distances))) one_more
    ∙ ap (option_map (λ inner. outer ++ inner)) (step rank taken distances count loop taken_long found)
    ∙ map_twice (λ inner. record { number = loop; down = some_entry is_up loop (open_distances taken distances) } ∷ inner)
    (λ inner. outer ++ inner) inside
    ∙ ap (λ b. let level_is : Level = record { number = loop; down = b } in
    option_map (λ inner. outer ++ (level_is ∷ inner)) inside) (sym down_is)
    ∙ regroup outer here inside
    ∙ ap (λ ls. option_map (λ inner. ls ++ inner) inside)
    (sym (ap (λ ns. levels ns (take (level + 1) (set downs level down))) (take_more_set loops level loop (omega arith))
    ∙ ap (levels (take level loops ++ loop ∷ [])) (take_more_set downs level down (omega arith))
    ∙ levels_push (take level loops) (take level downs) loop down
    (omega (arith, length-take level loops, length-take level downs))))

-- where nothing suits, there is no choice
pub gives_up : (rank level : ℕ) (taken : List Bool) (outer : List Level) (distances : List (List Entry))
    (whole : Option (List Level)) → level < rank → whole ≡ chosen_so_far outer
    (choice (rank - level) (loops_left rank taken) (open_distances taken distances)) →
    None ≡ find (λ l. suits l (open_distances taken distances)) (loops_left rank taken) → None ≡ whole
gives_up rank level taken outer distances whole below before found =
    let one_more : rank - level ≡ suc (rank - (level + 1)) = omega arith in
    sym (before
    ∙ ap (λ n. option_map (λ inner. outer ++ inner) (choice n (loops_left rank taken) (open_distances taken distances))) one_more
    ∙ ap (λ f. option_map (λ inner. outer ++ inner)
    (option_and_then
    (λ l. option_map (λ inner. record { number = l; down = some_entry is_up l (open_distances taken distances) } ∷ inner)
    (choice (rank - (level + 1)) (without l (loops_left rank taken)) (unsettled l (open_distances taken distances)))) f))
    (sym found))

-- all levels are there
pub whole_choice : (rank level : ℕ) (taken downs : List Bool) (loops : List ℕ) (distances : List (List Entry)) → rank ≤ level →
    length loops ≡ rank → length downs ≡ rank → choice rank (down_to_one rank) distances
    ≡ chosen_so_far (levels (take level loops) (take level downs))
    (choice (rank - level) (loops_left rank taken) (open_distances taken distances)) → choice rank (down_to_one rank) distances
    ≡ Some (levels loops downs)
whole_choice rank level taken downs loops distances above loops_long downs_long before =
    let none_more : rank - level ≡ 0 = omega arith in
    before
    ∙ ap (λ n. option_map (λ inner. levels (take level loops) (take level downs) ++ inner)
    (choice n (loops_left rank taken) (open_distances taken distances))) none_more
    ∙ ap Some
    (append-nil (levels (take level loops) (take level downs))
    ∙ ap (λ ns. levels ns (take level downs)) (take_all level loops (omega arith))
    ∙ ap (levels loops) (take_all level downs (omega arith)))

-- the order made of the levels is the choice
pub made_is : (rank : ℕ) (loops : List ℕ) (downs : List Bool) (distances : List (List Entry)) (made : Option (List Level)) →
    length loops ≡ rank → length downs ≡ rank → choice rank (down_to_one rank) distances ≡ Some (levels loops downs) →
    (((k : ℕ) → 1 ≤ k → k ≤ rank → Member loops k) → IsSome made) → IfSome made (λ order. order ≡ levels loops downs) →
    made ≡ choice rank (down_to_one rank) distances
made_is rank loops downs distances None loops_long downs_long chosen some is =
    let suited = choice_legal rank (down_to_one rank) distances (levels loops downs) (length-down_to_one rank) chosen in
    let named : Permuted loops (down_to_one rank) =
    (let P : List ℕ → Type 0 = λ ns. Permuted ns (down_to_one rank) in
    subst P (loops_of-levels loops downs (omega arith)) suited.named) in
    absurd (false≢true (some (λ k least most. Permuted-Member k (permuted_back named) (Member-down_to_one rank k least most))))
made_is rank loops downs distances (Some order) loops_long downs_long chosen some is = ap Some is ∙ sym chosen

-- ---- what the choice promises

pub choice_allowed : (rank : ℕ) (distances : List (List Entry)) (r : Option (List Level)) →
    r ≡ choice rank (down_to_one rank) distances → IfSome r (λ order. IsOrder rank order × IsLegal order distances)
choice_allowed rank distances None is = tt
choice_allowed rank distances (Some order) is =
    let suited = choice_legal rank (down_to_one rank) distances order (length-down_to_one rank) (sym is) in
    (suited.named, suited.legal)

pub choice_misses_none : (rank : ℕ) (distances : List (List Entry)) (r : Option (List Level)) →
    r ≡ choice rank (down_to_one rank) distances →
    IfNone r ((order : List Level) → IsOrder rank order → IsLegal order distances → ⊥)
choice_misses_none rank distances None is = choice_none rank (down_to_one rank) distances (length-down_to_one rank) (sym is)
choice_misses_none rank distances (Some order) is = tt
