-- The run of the program of a unit, from its start.
use Rattle.std.proofs.Common.{◌≡◌, ◌≢◌, ◌⊎◌, inl, inr, ℕ, zero, suc, ◌+◌, ◌<◌, ◌≤◌, ◌^◌, true, List, [], ◌∷◌, ◌++◌, Some, None}
use Rattle.std.proofs.Common.{refl, ap, ◌∙◌, sym, subst, arith, ℤ, pos, length, nat_le, append-nil, append_assoc, length-append}
use Rattle.std.specs.Prelude.{map, replicate}
use Rattle.std.specs.List.{list_all}
use Rattle.std.proofs.lemmas.List.{length-map, get_or_append_left, get_or_past}
use Rattle.std.proofs.Math.ListN.{length-replicate, get_or-replicate}
use Rattle.std.proofs.Math.Seq.{get_or-append_seam}
use Rattle.std.proofs.lemmas.Bool.{and_parts}
use Rattle.rank_one.specs.declared.unit.Unit.{Unit}
use Rattle.rank_one.specs.declared.unit.Array.{Array}
use Rattle.rank_one.specs.Meaning as meaning
use Rattle.rank_one.specs.Meaning.{array_at}
use Rattle.rank_one.specs.Typed.{IsTyped}
use Rattle.loop_tree.specs.declared.atom.Atom.TheVariants as atom
use Rattle.loop_tree.specs.declared.row.BlockRow.TheVariants as block
use Rattle.loop_tree.specs.declared.row.ControlRow.TheVariants as control
use Rattle.loop_tree.specs.declared.row.Row.TheVariants as row
use Rattle.loop_tree.specs.declared.tree.CodeLine.{CodeLine}
use Rattle.loop_tree.specs.declared.tree.CodeLine.TheVariants as code
use Rattle.loop_tree.specs.declared.tree.Stmt.{Stmt}
use Rattle.loop_tree.specs.declared.tree.Stmt.TheVariants as stmt
use Rattle.loop_tree.specs.declared.tree.Function.{Function}
use Rattle.loop_tree.specs.Lines.{flats}
use Rattle.loop_tree.specs.State.{Brace, Ints, with_at, cells_numbered}
use Rattle.loop_tree.specs.Values.{number_at, block_at}
use Rattle.loop_tree.specs.Run.{start}
use Rattle.f95a_core.specs.Lowered.{extent_of, declared_code, statements_code, program_of}
use Rattle.f95a_core.proofs.Reaching.{Good}
use Rattle.f95a_core.proofs.Rows.{Vars, at, step_line, step_new}
use Rattle.loop_laws.proofs.Numbered.{with_at_same, with_at_other, made_here, made_elsewhere}
use Rattle.f95a_core.proofs.Sums.{Holds}
use Rattle.f95a_core.proofs.Elements.{IsInt}
use Rattle.f95a_core.proofs.Loops.{row_before}
use Rattle.f95a_core.proofs.Statements.{Stands, zero_int, statements_cost, statements_go}

-- ---- declarations

-- one more array, in the block that is made for it
holds_next : (done : List (List ℤ)) (v : Vars) (n : ℕ) → Holds done v.blocks v.references v.made → v.made ≡ length done
    → Holds (done ++ replicate n (pos 0) ∷ []) (record { number = v.made; cells = Ints (replicate n (pos 0)) } ∷ v.blocks)
    (with_at None v.references (length done) (Some v.made)) (v.made + 1)
holds_next done v n h e = record {
  cells = λ p here. cells_by p (grind (arith, length-append done (replicate n (pos 0) ∷ [])));
  named = λ p here. named_by p (grind (arith, length-append done (replicate n (pos 0) ∷ [])));
  fewer = omega (arith, length-append done (replicate n (pos 0) ∷ []));
}
  where
    cells_by : (p : ℕ) → (p < length done) ⊎ (p ≡ length done)
        → cells_numbered (record { number = v.made; cells = Ints (replicate n (pos 0)) } ∷ v.blocks) p
        ≡ Some (Ints (array_at (done ++ replicate n (pos 0) ∷ []) p))
    cells_by p (inl before) =
        let ne : v.made ≢ p = omega arith in
        made_elsewhere v.blocks v.made p (Ints (replicate n (pos 0))) ne ∙ h.cells p before
        ∙ ap (λ (c : List ℤ). Some (Ints c)) (sym (get_or_append_left done (replicate n (pos 0) ∷ []) [] p before))
    cells_by p (inr last) =
        ap (λ q. cells_numbered (record { number = v.made; cells = Ints (replicate n (pos 0)) } ∷ v.blocks) q) (last ∙ sym e)
        ∙ made_here v.blocks v.made (Ints (replicate n (pos 0)))
        ∙ ap (λ (c : List ℤ). Some (Ints c))
        (sym (ap (λ q. array_at (done ++ replicate n (pos 0) ∷ []) q) last
        ∙ get_or-append_seam done (replicate n (pos 0)) [] []))

    named_by : (p : ℕ) → (p < length done) ⊎ (p ≡ length done) → block_at (with_at None v.references (length done) (Some v.made)) p
        ≡ Some p
    named_by p (inl before) =
        let ne : length done ≢ p = omega arith in
        with_at_other None v.references (length done) p (Some v.made) ne ∙ h.named p before
    named_by p (inr last) =
        ap (λ q. block_at (with_at None v.references (length done) (Some v.made)) q) last
        ∙ with_at_same None v.references (length done) (Some v.made) ∙ ap Some (e ∙ sym last)

abbrev zeros_of : List Array → List (List ℤ)
zeros_of decls = map (λ (a : Array). replicate a.extent (pos 0)) decls

module _ (functions : List Function) (final written : List ℕ) (cost : ℕ) (more : List Stmt) (rest : List CodeLine)
    (braces : List Brace) where
  declared_go : (decls : List Array) → list_all (λ (a : Array). nat_le a.extent (2 ^ 24)) decls ≡ true →
      (done : List (List ℤ)) (number : ℕ) → number ≡ length done
      → (v : Vars) → Holds done v.blocks v.references v.made → v.made ≡ length done → v.pending ≡ []
      → ((w : Vars) → Holds (done ++ zeros_of decls) w.blocks w.references w.made → w.pending ≡ [] →
      Good functions final cost written (at w (flats more ++ rest) braces))
      → Good functions final cost written (at v (flats (declared_code number decls ++ more) ++ rest) braces)
  declared_go [] small done number at_number v holds count clean go =
      go v (subst (λ (arrays : List (List ℤ)). Holds arrays v.blocks v.references v.made) (sym (append-nil done)) holds) clean
  declared_go (a ∷ decls) small done number at_number v holds count clean go =
      let n = a.extent in
      let z = replicate n (pos 0) in
      let parts = and_parts (nat_le n (2 ^ 24)) (list_all (λ (b : Array). nat_le b.extent (2 ^ 24)) decls) small in
      let u : Vars = record v { line = a.line } in
      let x : Vars = record u {
        references = with_at None v.references (length done) (Some v.made);
        blocks = record { number = v.made; cells = Ints z } ∷ v.blocks;
        made = v.made + 1;
      } in
      let longer : length (done ++ z ∷ []) ≡ length done + 1 = omega (arith, length-append done (z ∷ [])) in
      let later = declared_code (length done + 1) decls ++ more in
      let make = stmt.Row (row.Block (block.New (length done) (atom.Number (pos n)))) in
      subst (λ k. Good functions final cost written (at v (flats (declared_code k (a ∷ decls) ++ more) ++ rest) braces))
      (sym at_number)
      (row_before functions final written cost v u (row.Control (control.At a.line)) (make ∷ later) rest braces
      (step_line functions v (flats (make ∷ later) ++ rest) braces a.line)
      (row_before functions final written cost u x (row.Block (block.New (length done) (atom.Number (pos n)))) later rest braces
      (step_new functions u (flats later ++ rest) braces (length done) n parts.0)
      (declared_go decls parts.1 (done ++ z ∷ []) (length done + 1) (sym longer) x (holds_next done u n holds count)
      (ap (λ k. k + 1) count ∙ sym longer) clean
      (λ w kept empty. go w
      (subst (λ (arrays : List (List ℤ)). Holds arrays w.blocks w.references w.made)
      (append_assoc done (z ∷ []) (zeros_of decls)) kept) empty))))

-- ---- the whole program

zeros_are : (decls : List Array) (p i : ℕ) → number_at (array_at (zeros_of decls) p) i ≡ pos 0
zeros_are [] p i = refl
zeros_are (a ∷ decls) zero i = by a.extent (grind arith)
  where
    by : (n : ℕ) → (i < n) ⊎ (n ≤ i) → number_at (replicate n (pos 0)) i ≡ pos 0
    by n (inl within) = get_or-replicate n i (pos 0) (pos 0) within
    by n (inr beyond) = get_or_past (replicate n (pos 0)) i (pos 0) (subst (λ m. m ≤ i) (sym (length-replicate n (pos 0))) beyond)
zeros_are (a ∷ decls) (suc p) i = zeros_are decls p i

zeros_sized : (decls : List Array) (p : ℕ) → length (array_at (zeros_of decls) p) ≡ extent_of decls p
zeros_sized [] p = refl
zeros_sized (a ∷ decls) zero = length-replicate a.extent (pos 0)
zeros_sized (a ∷ decls) (suc p) = zeros_sized decls p

start_stands : (decls : List Array) → Stands decls (zeros_of decls)
start_stands decls = record {
  counted = length-map decls (λ (a : Array). replicate a.extent (pos 0));
  sized = zeros_sized decls;
  ints = λ p i. subst (λ z. IsInt z) (sym (zeros_are decls p i)) zero_int;
}

-- nothing is there before the first line
abbrev nothing : List ℕ → Vars
nothing input = record { ints = []; indices = []; references = []; line = 0; blocks = []; made = 0; pending = []; input = input }

-- From the start of the program the run ends, having written what the source writes.
pub unit_goes : (unit : Unit) → IsTyped unit → (input : List ℕ) →
    Good (program_of unit) (meaning.output unit) (statements_cost unit.arrays unit.statements) [] (start (program_of unit) input)
unit_goes unit typed input =
    let functions = program_of unit in
    let final = meaning.output unit in
    let cost = statements_cost unit.arrays unit.statements in
    declared_go functions final [] cost (statements_code unit.arrays unit.statements) (code.Close ∷ []) [] unit.arrays typed.extents
    [] 0 refl (nothing input)
    (record { cells = λ p here. absurd (omega arith); named = λ p here. absurd (omega arith); fewer = omega arith }) refl refl
    (λ w kept empty. statements_go functions final unit.arrays typed.extents unit.statements typed.statements (meaning.start unit)
    (start_stands unit.arrays) refl w kept empty)
