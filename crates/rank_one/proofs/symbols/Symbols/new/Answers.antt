use Rattle.std.proofs.Common.{◌≡◌, ◌∙◌, ap, sym, nat_cmp, length, arith}
use Rattle.std.specs.BTreeMap.{is_at}
use Rattle.std.specs.Map.{lookup}
use Rattle.std.specs.Cmp.Lexicographic.{slice_cmp}
use Rattle.rank_one.specs.Conditions.{place_of}
use Rattle.rank_one.proofs.SymbolLaws.{no_place}
use Rattle.rank_one.proofs.symbols.Symbols.new.Goals as goal

pub invariant_of-result : goal.invariant_of-result
invariant_of-result c = (
  (λ name.
      ap (λ es. lookup (is_at (λ k. slice_cmp nat_cmp name k.now)) es) c.new-2.ensures.empty
      ∙ sym (ap (λ symbols. place_of symbols name) c.new.ensures.items ∙ no_place name)),
  omega (arith, ap length c.new.ensures.items),
)
