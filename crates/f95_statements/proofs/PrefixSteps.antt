-- Prefixes, one after another.
use Rattle.std.proofs.Common.{◌≡◌, ℕ, ◌<◌, length, List, [], ◌∷◌, Option, Some, None, refl, sym, ◌∙◌, ap, arith}
use Rattle.std.specs.Prelude.{option_map}
use Rattle.f95_tree.specs.declared.form.Prefix.{Prefix}
use Rattle.f95_tree.specs.declared.terminal.Terminal.{Terminal}
use Rattle.f95_tree.specs.Spelling.{Text}
use Rattle.f95_expressions.proofs.Read.{mapped}
use Rattle.f95_statements.specs.Declarations.{as_prefix, next_prefix, or_more, prefixes_of}

pub shorter : (ts : Text) (p : Prefix × Text) → next_prefix ts ≡ Some p → length p.1 < length ts
shorter [] p h = absurd (cc)
shorter (t ∷ ts) p h = mapped (λ x. (x, ts)) (as_prefix t) p h
    (λ x hx is. let q : ts ≡ p.1 = ap (λ (p : Prefix × Text). p.1) is in omega (arith, ap length q))

abbrev pair : Text → Prefix → Prefix × Text
pair ts p = (p, ts)

stop_at : (o : Option Prefix) (done : List Prefix) (t : Terminal) (ts : Text) → option_map (pair ts) o ≡ None →
    or_more o (done, t ∷ ts) (λ p. prefixes_of (p ∷ done) ts) ≡ (done, t ∷ ts)
stop_at None done t ts h = refl
stop_at (Some p) done t ts h = absurd (cc)

pub prefix_stop : (done : List Prefix) (ts : Text) → next_prefix ts ≡ None → prefixes_of done ts ≡ (done, ts)
prefix_stop done [] h = refl
prefix_stop done (t ∷ ts) h = stop_at (as_prefix t) done t ts h

step_at : (o : Option Prefix) (done : List Prefix) (t : Terminal) (ts : Text) (p : Prefix × Text) → option_map (pair ts) o ≡ Some p
    →
    or_more o (done, t ∷ ts) (λ p. prefixes_of (p ∷ done) ts) ≡ prefixes_of (p.0 ∷ done) p.1
step_at None done t ts p h = absurd (cc)
step_at (Some x) done t ts p h = let q : (x, ts) ≡ p = cc in ap (λ (p : Prefix × Text). prefixes_of (p.0 ∷ done) p.1) q

pub prefix_step : (done : List Prefix) (ts : Text) (p : Prefix × Text) → next_prefix ts ≡ Some p →
    prefixes_of done ts ≡ prefixes_of (p.0 ∷ done) p.1
prefix_step done [] p h = absurd (cc)
prefix_step done (t ∷ ts) p h = step_at (as_prefix t) done t ts p h
