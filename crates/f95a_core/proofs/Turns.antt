-- A loop over 0, 1, .., n - 1: what its body does to a fact from each turn to the next, the loop does to it from the first to the
-- last.
use Rattle.std.proofs.Common.{◌≡◌, ℕ, suc, ◌+◌, ◌-◌, ◌<◌, ◌≤◌, ◌^◌, List, ◌∷◌, ◌++◌, refl, subst, arith, ℤ, pos}
use Rattle.loop_tree.specs.declared.atom.Atom.TheVariants as atom
use Rattle.loop_tree.specs.declared.tree.CodeLine.{CodeLine}
use Rattle.loop_tree.specs.declared.tree.CodeLine.TheVariants as code
use Rattle.loop_tree.specs.declared.tree.Stmt.{Stmt}
use Rattle.loop_tree.specs.declared.tree.Stmt.TheVariants as stmt
use Rattle.loop_tree.specs.declared.tree.Function.{Function}
use Rattle.loop_tree.specs.Lines.{flats}
use Rattle.loop_tree.specs.State.{Brace}
use Rattle.loop_tree.specs.Values.{number_at}
use Rattle.loop_tree.specs.Run.{configuration}
use Rattle.loop_laws.specs.Statements.{Points}
use Rattle.loop_laws.proofs.Statements.{upward_loop}
use Rattle.f95a_core.proofs.Reaching.{Good, written_within, turns_are}
use Rattle.f95a_core.proofs.Rows.{Vars, full, at, with_index}

module _ (functions : List Function) (final written : List ℕ) (extent : ℕ) (body : List Stmt) (Inv : ℕ → Vars → Type 0) where
  -- a turn of the body, whatever comes behind it
  pub record Round : Type 0 where
    pub does : (cost i : ℕ) (v : Vars) (rest : List CodeLine) (braces : List Brace) → i < extent → number_at v.indices 1 ≡ pos i →
        Inv i v
        → ((w : Vars) → number_at w.indices 1 ≡ pos i → Inv (suc i) w → Good functions final cost written (at w rest braces))
        → Good functions final cost written (at v (flats body ++ rest) braces)
    pub moves : (i : ℕ) (v : Vars) (z : ℤ) → Inv i v → Inv i (with_index v z)

  -- between two turns: how many there were, what is known then, and the turns that any loop and call had begun
  record Between : Type 0 where
    number : ℕ
    variables : Vars
    known : Inv number variables
    begun : ℕ
    limit : ℕ

  abbrev points : ℕ → Points Between
  points cost = record {
    number = λ p. p.number;
    variables = λ p. full p.variables;
    turns = λ p. p.begun;
    written = λ p. written;
    expected = λ p. written_within p.limit (p.begun + (cost + (extent - p.number))) final;
  }

  -- the whole loop, and what comes behind it
  pub loop_does : Round → extent ≤ 2 ^ 24 → (cost : ℕ) (more : List Stmt) (rest : List CodeLine) (braces : List Brace) (v : Vars) →
      Inv 0 v
      → ((w : Vars) → Inv extent w → Good functions final cost written (at w (flats more ++ rest) braces))
      → Good functions final (cost + extent) written
      (at v (flats (stmt.ForUp 1 (atom.Number (pos extent)) body ∷ more) ++ rest) braces)
  loop_does r small cost more rest braces v inv go = record {
    go = λ turns limit.
        turns_are functions final
        (configuration turns written (at v (flats (stmt.ForUp 1 (atom.Number (pos extent)) body ∷ more) ++ rest) braces)) limit
        (turns + (cost + (extent - 0))) (turns + (cost + extent)) (omega arith)
        (upward_loop (points cost) functions 1 (atom.Number (pos extent)) body more extent rest braces (omega arith)
        (record {
          bounded = λ p is. refl;
          round = λ p within is next.
              turns_are functions final
              (configuration (p.begun + 1) written (at p.variables (flats body ++ code.Close ∷ (flats more ++ rest)) _)) p.limit
              (p.begun + 1 + (cost + (extent - suc p.number))) (p.begun + (cost + (extent - p.number))) (omega arith)
              ((r.does (cost + (extent - suc p.number)) p.number p.variables (code.Close ∷ (flats more ++ rest)) _ within is p.known
              (λ w now later. record {
                go = λ begun most.
                    let counted : suc p.number ≡ p.number + 1 = omega arith in
                    next (record {
                      number = suc p.number;
                      variables = with_index w (pos (suc p.number));
                      known =
                          r.moves (suc p.number) w (pos (suc p.number)) later;
                      begun = begun;
                      limit = most;
                    })
                    (full w) counted now refl;
              })).go (p.begun + 1) p.limit);
          left = λ p all.
              turns_are functions final (configuration p.begun written (at p.variables (flats more ++ rest) braces)) p.limit
              (p.begun + cost) (p.begun + (cost + (extent - p.number))) (omega arith)
              ((go p.variables (subst (λ (n : ℕ). Inv n p.variables) all p.known)).go p.begun p.limit);
        })
        (record { number = 0; variables = with_index v (pos 0); known = r.moves 0 v (pos 0) inv; begun = turns; limit = limit })
        (full v) refl refl);
  }
