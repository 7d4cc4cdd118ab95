use Rattle.std.proofs.Common.{◌≡◌, ◌∙◌, ◌++◌, ◌∷◌, [], ap, sym, nat_cmp, Some, None, length, arith, cond}
use Rattle.std.specs.BTreeMap.{get_by}
use Rattle.std.specs.Str.{bytes_eq}
use Rattle.std.specs.Cmp.Lexicographic.{slice_cmp}
use Rattle.std.proofs.lemmas.Map.Text.{btree_map_updates_str}
use Rattle.rank_one.specs.Conditions.{place_of}
use Rattle.rank_one.proofs.SymbolLaws.{place_push}
use Rattle.rank_one.proofs.symbols.Symbols.push.Goals as goal

pub invariant_of-self-in-Ok : goal.invariant_of-self-in-Ok
invariant_of-self-in-Ok c = (
  (λ name.
      let before = c.self.inside.symbols.items in
      let fresh : place_of before c.args.symbol.name ≡ None = ap (λ symbols. place_of symbols c.args.symbol.name) c.self.view_is
      ∙ c.requires in
      let items : c.push.new.self.items ≡ before ++ c.args.symbol ∷ [] = c.in_ok-push.ensures.items in
      let found : get_by (λ k. slice_cmp nat_cmp name k.now) c.insert.new.self
      ≡ cond (bytes_eq c.as_slice-name.result.now name) (Some c.len-place.result)
      (get_by (λ k. slice_cmp nat_cmp name k.now) c.self.inside.places)
      = btree_map_updates_str c.as_slice-name.result.now c.self.inside.places c.insert.new.self (Some c.len-place.result)
      c.in-Ok.ensures.updates name in
      found
      ∙ (ap (λ o. cond (bytes_eq c.as_slice-name.result.now name) (Some c.len-place.result) o) (c.self.invariant.0 name)
      ∙ (ap (λ word. cond (bytes_eq word name) (Some c.len-place.result) (place_of before name)) c.as_slice-name.ensures
      ∙ (ap (λ n. cond (bytes_eq c.args.symbol.name name) (Some n) (place_of before name)) (omega arith)
      ∙ (sym (place_push before c.args.symbol name fresh)
      ∙ ap (λ symbols. place_of symbols name) (sym items)))))),
  omega (arith, ap length c.in_ok-push.ensures.items),
)
