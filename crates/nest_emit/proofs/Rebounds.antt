-- A block that gets other bounds for as many elements.
use Rattle.std.proofs.Common.{◌≡◌, ◌⊎◌, inl, inr, ℕ, ◌+◌, ◌*◌, ◌<◌, ◌≤◌, Bool, true, false, ◌&&◌, List, ◌∷◌, ◌++◌, Option, Some, None, refl, sym, ap, ◌∙◌, subst, arith, ℤ, length}
use Rattle.std.specs.List.{list_all}
use Rattle.std.proofs.lemmas.List.{length-map}
use Rattle.std.proofs.lemmas.Bool.Decides.{nat_tests}
use Rattle.a95_base.specs.Lists.{Every}
use Rattle.a95_base.specs.Steps.{pure, ◌>>=◌}
use Rattle.std.proofs.lemmas.Bool.{and_parts}
use Rattle.array_meaning.specs.Values.{size_of}
use Rattle.array_meaning.specs.State.{Dimension as Bounds, dimension, extents_of, Array, Variable}
use Rattle.array_meaning.specs.Control.{Next}
use Rattle.nest_tree.specs.declared.access.Name.{Name}
use Rattle.nest_tree.specs.declared.statement.Span.{Span}
use Rattle.nest_tree.specs.declared.unit.Sort.{Sort}
use Rattle.nest_tree.specs.Plain.{Procedure, Rebound}
use Rattle.nest_tree.specs.State.{NestState, Memory, memory_of, with_memory, on, changes, where_holds, block_in, with_block}
use Rattle.nest_tree.specs.Places.{amount, bounds_for, are_as_many, with_bounds, rebound}
use Rattle.nest_tree.specs.Statements.{Caller}
use Rattle.nest_tree.specs.Sound.{Scope, sort_of_name, is_block, is_block_role, fits_amount, fits_spans, has_rank}
use Rattle.loop_tree.specs.declared.tree.Function.{Function}
use Rattle.loop_tree.specs.Lines.{flats}
use Rattle.loop_laws.specs.At.{Variables}
use Rattle.nest_emit.specs.Numbers.{array_number, first_free}
use Rattle.nest_emit.specs.Statements.{at_line, bounds_lines}
use Rattle.nest_emit.specs.Emits.{emits_span}
use Rattle.nest_emit.specs.Meets.{DoesAt}
use Rattle.nest_emit.specs.Kin.{cells_held, BoundsAt, Narrow, Stands, StandsIf, GrowsIf, Around, Kin}
use Rattle.nest_emit.proofs.Runs.{regroup_next, pured, changed}
use Rattle.nest_emit.proofs.Acts.{line_does}
use Rattle.nest_emit.proofs.Values.{some_is, array_below}
use Rattle.nest_emit.proofs.Performs.{Performs, Placed, line_stays}
use Rattle.nest_emit.proofs.Arrays.{kin_array, known}
use Rattle.nest_emit.proofs.Making.{Moved, bounds_do}
use Rattle.nest_emit.proofs.Makes.{spans_narrow}
use Rattle.nest_emit.proofs.Pieces.{named_sort}
use Rattle.nest_emit.proofs.Kin.{kin_line}

-- what has other bounds
record Rebounded (o : Option Array) (m : Memory) (n : Name) (v : Variable) (bounds : List Bounds) (new : Memory) : Type 0 where
  array : Array
  there : o ≡ Some array
  many : size_of (extents_of bounds) ≡ size_of (extents_of array.bounds)
  is : with_block m n (with_bounds v array bounds) ≡ new

rebounded : (o : Option Array) (m : Memory) (n : Name) (v : Variable) (bounds : List Bounds) (new : Memory) →
    on o (λ h. where_holds (are_as_many bounds h.bounds) (Some (with_block m n (with_bounds v h bounds)))) ≡ Some new →
    Rebounded o m n v bounds new
rebounded None m n v bounds new h = cc
rebounded (Some a) m n v bounds new h = by (are_as_many bounds a.bounds) refl h
  where
    by : (b : Bool) → are_as_many bounds a.bounds ≡ b → where_holds b (Some (with_block m n (with_bounds v a bounds))) ≡ Some new →
        Rebounded (Some a) m n v bounds new
    by true e g = record { array = a; there = refl; many = grind (arith, nat_tests, e); is = some_is g }
    by false e g = cc

module _ {q : Procedure} {around : Around} {st : NestState} {v : Variables} (n : Name) (s : Sort) (is : sort_of_name q n ≡ Some s)
    (kin : Kin q around st v) (t : ℕ) (free : first_free q ≤ t) (js : List ℤ) (moved : Moved (array_number q n) t v.ints js)
    (a : Array) (there : (block_in (memory_of st.cells) n).held ≡ Some a) (bounds : List Bounds) (rank : length bounds ≤ 7)
    (narrow : Every Narrow bounds) (at : BoundsAt js (array_number q n) 0 bounds)
    (many : size_of (extents_of bounds) ≡ size_of (extents_of a.bounds)) where
  wider : (x : ℕ) → (x < 16 * array_number q n) ⊎ (16 * array_number q n + 16 ≤ x) →
      (x < 16 * array_number q n) ⊎ (16 * array_number q n + 15 ≤ x)
  wider x (inl less) = inl less
  wider x (inr more) = inr (omega (arith, more))

  kin_rebound : Kin q around
      (with_memory st (with_block (memory_of st.cells) n (with_bounds (block_in (memory_of st.cells) n) a bounds)))
      (record v { ints = js })
  kin_rebound =
      let old : Stands s v.ints (array_number q n) a = subst (λ o. StandsIf s v.ints (array_number q n) o) there
      (kin.arrays.whole n s is) in
      let within = array_below q n s is in
      kin_array is (record {
        others = λ k r h ne. refl;
        ints = λ y below side. moved.same y (omega (arith, below, free)) (wider y side);
        texts = λ y below. refl;
        here = kin.arrays.seen n s is ∙ ap (cells_held s) there;
        stands = record {
          sized = old.sized ∙ sym many;
          small = omega (arith, old.small, many);
          sorted = old.sorted;
          rank = rank;
          narrow = narrow;
          bounds = at;
        };
        plain = λ text. kin.arrays.plain n s is text;
        grows = subst (λ o. GrowsIf s (block_in (memory_of st.cells) n).blank o) there (kin.arrays.grows n s is);
        fitted = λ i own text.
            let f = known n s is a there kin i own text in
            let number : array_number q n ≡ i = ap (array_number q) own in record {
              text = f.text;
              length = moved.same (16 * i + 15) (omega (arith, number, within, free)) (inr (omega (arith, number))) ∙ f.length;
              small = f.small;
              elements = f.elements;
            };
        apart = kin.arrays.apart;
        below = kin.arrays.below;
        rest = record { pending = refl; input = refl; callers = refl };
      }) kin

module _ (functions : List Function) (limit : ℕ) (c : Scope) (nests : ℕ) (calls : Caller) (turn : List ℕ) (depth : Option ℕ)
    (placed : Placed c nests) where
  pub rebound_law : (line : ℕ) (n : Name) (spans : List Span) → list_all (emits_span c.own) spans ≡ true →
      (is_block c.own n && fits_spans c.own n spans) ≡ true →
      Performs functions limit c nests calls turn depth (Rebound line n spans)
  rebound_law line name spans emits fits = record {
    does = λ t free {around} {n} {w} enough kin turned {lines} {braces} go out next.
        let q = c.own in
        let two = and_parts (is_block q name) (fits_spans q name spans) fits in
        let s = named_sort is_block_role q name two.0 in
        let fit = and_parts (has_rank q name (length spans))
        (list_all (λ s'. fits_amount q s'.lower && fits_amount q s'.upper) spans) two.1 in
        let few : length spans ≤ 7 = placed.ranks name (length spans) fit.0 in
        let array = array_number q name in
        let below = array_below q name s.0 s.1 in
        let mem = memory_of n.cells in
        let st = n.cells.temps.setting in
        let bounds = bounds_for st spans in
        let rank : length bounds ≤ 7 =
        omega (arith, few, length-map spans (λ (y : Span). dimension (amount st y.lower) (amount st y.upper))) in
        let kin' = kin_line line kin in
        let v = record w { line = line } in
        let last = λ (done : Unit {0}). pure Next >>= go in
        let rows = bounds_lines q array t 0 spans in
        regroup_next (changes (rebound name spans)) (pure Next) go n
        (changed (rebound name spans) last n (λ new e.
        let r = rebounded (block_in mem name).held mem name (block_in mem name) bounds new e in
        let final = with_memory n (with_block mem name (with_bounds (block_in mem name) r.array bounds)) in
        subst (λ (nm : Memory). DoesAt functions limit n w (flats (at_line line ∷ rows) ++ lines) braces
        (last tt (with_memory n nm))) r.is
        (pured Next go final
        (line_does line rows lines
        (bounds_do array below t free kin' spans 0 (omega (arith, few)) fit.1 v.ints (record { same = λ y h g. refl }) lines braces
        (λ js moved kept at count.
        next final (record v { ints = js })
        (kin_rebound name s.0 s.1 kin' t free js moved r.array r.there bounds rank (spans_narrow spans emits fit.1 kin') at r.many)
        (line_stays line (record {
          ints = λ y less from. moved.same y less (inr (omega (arith, below, from)));
          indices = λ y less. refl;
        }))))))));
  }
