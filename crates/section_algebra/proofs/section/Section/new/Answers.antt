use Rattle.std.proofs.Common.{◌≡◌, ◌≢◌, ℤ, pos, ◌+◌, List, ◌++◌, get_or, take, drop, set, subst, sym, ap, ◌∙◌, FitsSigned, w64, of_z, rules, arith}
use Rattle.std.proofs.lemmas.Int.{to_z-of_z}
use Rattle.std.proofs.lemmas.List.{length-set, drop_more, drop_all}
use Rattle.a95_base.specs.Lists.{Every}
use Rattle.section_algebra.specs.Section.{triplet_count, triplets}
use Rattle.section_algebra.proofs.Readings.{read, read_integer, integer_at, count_read}
use Rattle.section_algebra.proofs.Sections.{whole_counts, new_step, new_end, new_section, new_fields}
use Rattle.section_algebra.proofs.section.Section.new.Goals as goal

pub triplet_count-requires-clause-first : goal.triplet_count-requires-clause-first
triplet_count-requires-clause-first g c = read_integer _ (integer_at c.args.lower c.loop-dim.dim c.requires.lower (omega arith))

pub triplet_count-requires-clause-last : goal.triplet_count-requires-clause-last
triplet_count-requires-clause-last g c = read_integer _ (integer_at c.args.upper c.loop-dim.dim c.requires.upper (omega arith))

pub triplet_count-requires-clause-stride : goal.triplet_count-requires-clause-stride
triplet_count-requires-clause-stride g c = read_integer _ (integer_at c.args.stride c.loop-dim.dim c.requires.stride (omega arith))

pub loop-dim-preserved : goal.loop-dim-preserved
loop-dim-preserved g c =
    let l : ℤ = get_or c.args.lower c.loop-dim.dim (pos 0) in
    let u : ℤ = get_or c.args.upper c.loop-dim.dim (pos 0) in
    let s : ℤ = get_or c.args.stride c.loop-dim.dim (pos 0) in
    let wide : FitsSigned w64 c.triplet_count.result = search rules in
    let here : read c.triplet_count.result ≡ pos (triplet_count l u s) =
    to_z-of_z w64 c.triplet_count.result wide ∙ c.triplet_count.ensures
    ∙ ap pos (count_read l u s (integer_at c.args.lower c.loop-dim.dim c.requires.lower (omega arith))
    (integer_at c.args.upper c.loop-dim.dim c.requires.upper (omega arith))
    (integer_at c.args.stride c.loop-dim.dim c.requires.stride (omega arith))) in
    record {
      long = length-set c.loop-dim.count c.loop-dim.dim _ ∙ c.loop-dim.invariant.long;
      same =
          ap (λ z. take (c.loop-dim.dim + 1) (set c.loop-dim.count c.loop-dim.dim z)
          ++ whole_counts (triplets (drop (c.loop-dim.dim + 1) c.args.lower) (drop (c.loop-dim.dim + 1) c.args.upper)
          (drop (c.loop-dim.dim + 1) c.args.stride))) here
          ∙ new_step c.args.lower c.args.upper c.args.stride c.loop-dim.count c.loop-dim.dim (pos 0) (pos 0) (pos 0)
          (omega arith) (omega arith) (omega arith) (omega (arith, c.loop-dim.invariant.long))
          ∙ c.loop-dim.invariant.same;
      steps =
          λ later.
          let P : List ℤ → Type 0 = Every (λ z. z ≢ pos 0) in
          c.loop-dim.invariant.steps (subst P (sym (drop_more c.args.stride c.loop-dim.dim (pos 0) (omega arith)))
          ((λ e. c.if-stride-dim-eq0.false (ap (of_z w64) e)), later));
    }

made : (g : _) (c : goal.After-loop-dim g) → c.loop-dim.count ≡ whole_counts (triplets c.args.lower c.args.upper c.args.stride)
made g c =
    sym (new_end c.args.lower c.args.upper c.args.stride c.loop-dim.count c.loop-dim.dim (omega arith)
    (omega (arith, c.loop-dim.invariant.long))) ∙ c.loop-dim.invariant.same

pub invariant_of-result : goal.invariant_of-result
invariant_of-result g c =
    let P : List ℤ → Type 0 = Every (λ z. z ≢ pos 0) in
    new_fields g.row.R c.args.lower c.args.upper c.args.stride c.loop-dim.count (omega arith) (omega arith) (omega arith)
    (made g c) c.requires.ranked c.requires.lower c.requires.upper c.requires.stride
    (c.loop-dim.invariant.steps (subst P (sym (drop_all c.loop-dim.dim c.args.stride (omega arith))) tt))

pub returns-clause-section : goal.returns-clause-section
returns-clause-section g c =
    new_section g.row.R c.args.lower c.args.upper c.args.stride c.loop-dim.count (omega arith) (omega arith) (omega arith)
    (made g c)
