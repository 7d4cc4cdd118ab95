-- Runs, one step after another.
use Rattle.std.proofs.Common.{◌≡◌, ℕ, suc, ◌+◌, ◌<◌, length, get_or, drop, drop-cons, add-one, Bool, true, false, List, [], ◌∷◌}
use Rattle.std.proofs.Common.{Option, Some, None, refl, sym, ◌∙◌, ap, ◌⊎◌, inl, inr}
use Rattle.std.specs.Prelude.{option_and_then, option_map}
use Rattle.f95_tree.specs.declared.terminal.Terminal.{Terminal}
use Rattle.f95_expressions.specs.declared.pending.Field.{Field}
use Rattle.f95_expressions.specs.declared.pending.Machine.{Machine}
use Rattle.f95_expressions.specs.declared.pending.Machine.TheVariants as machine
use Rattle.f95_expressions.specs.declared.pending.Pending.{Pending}
use Rattle.f95_expressions.specs.declared.pending.Pending.TheVariants as pending
use Rattle.f95_tree.specs.declared.expression.Value.{Value}
use Rattle.f95_tree.specs.declared.expression.Value.TheVariants as v
use Rattle.f95_expressions.specs.declared.pending.Bracket.TheVariants as kind
use Rattle.f95_expressions.specs.Machine.{Stack, Found, step, run, ended, row_of, reduce, field_of, row_found, closed_found}
use Rattle.f95_expressions.specs.Machine.{closed_at, is_closed, ending_of, row_ending}

stopped : (ts : List Terminal) → run machine.Stops ts ≡ None
stopped [] = refl
stopped (t ∷ ts) = stopped ts

-- a row goes on by one step
pub row_step : (m : Machine) (t : Terminal) (ts : List Terminal) → option_and_then row_found (run m (t ∷ ts))
    ≡ option_and_then row_found (run (step m t) ts)
row_step (machine.Closed fs) t ts = ap (option_and_then row_found) (sym (stopped ts))
row_step (machine.Waits s) t ts = refl
row_step m t ts = refl

pub row_end : (m : Machine) → option_and_then row_found (run m []) ≡ option_and_then row_found (ended m)
row_end m = refl

found_row : (fs : List Field) (o : Option Field) → option_and_then row_found (option_map (λ f. (f ∷ fs, None)) o)
    ≡ option_map (λ f. f ∷ fs) o
found_row fs None = refl
found_row fs (Some f) = refl

-- a row by the bracket on top and what lies below it
abbrev pub row_parted : List Pending → Option Value → Option (List Field)
row_parted [] last = None
row_parted (p ∷ []) last = option_and_then row_ending (ending_of (Some p) last)
row_parted (p ∷ q ∷ s) last = None

pub row_parts : (s : Stack) (last : Option Value) → option_and_then row_found (row_of s last) ≡ row_parted s last
row_parts [] last = refl
row_parts (pending.Open kind.Row fs left g ∷ []) last = found_row fs (field_of left g last)
row_parts (pending.Open kind.Plain fs left g ∷ []) last = refl
row_parts (pending.Open k fs left g ∷ []) last = refl
row_parts (pending.Left a op ∷ []) last = refl
row_parts (pending.Before h ∷ []) last = refl
row_parts (pending.Open kind.Row fs left g ∷ p ∷ s) last = refl
row_parts (pending.Open kind.Plain fs left g ∷ p ∷ s) last = refl
row_parts (pending.Open k fs left g ∷ p ∷ s) last = refl
row_parts (pending.Left a op ∷ p ∷ s) last = refl
row_parts (pending.Before h ∷ p ∷ s) last = refl

pub row_on : (m n : Machine) (t : Terminal) (ts : List Terminal) (i : ℕ) (r : Option (List Field)) → i < length ts →
    t ≡ get_or ts i t → n ≡ step m t →
    option_and_then row_found (run m (drop i ts)) ≡ r → option_and_then row_found (run n (drop (i + 1) ts)) ≡ r
row_on m n t ts i r h is stepped before =
    let cut : drop i ts ≡ t ∷ drop (i + 1) ts = rw (add-one, drop-cons ts i t) (ap (λ x. x ∷ drop (suc i) ts) (sym is)) in
    ap (λ m. option_and_then row_found (run m (drop (i + 1) ts))) stepped ∙ sym (row_step m t (drop (i + 1) ts))
    ∙ ap (λ xs. option_and_then row_found (run m xs)) (sym cut) ∙ before

-- ---- brackets

pub open_on : (m : Machine) (t : Terminal) (ts : List Terminal) → is_closed m ≡ false → run m (t ∷ ts) ≡ run (step m t) ts
open_on (machine.Closed fs) t ts h = absurd (cc)
open_on (machine.Waits s) t ts h = refl
open_on m t ts h = refl

no_rest : (fs : List Field) (o : Option Field) → option_and_then closed_found (option_map (λ f. (f ∷ fs, None)) o) ≡ None
no_rest fs None = refl
no_rest fs (Some f) = refl

row_closes_none : (s : Stack) (last : Option Value) → option_and_then closed_found (row_of s last) ≡ None
row_closes_none [] last = refl
row_closes_none (pending.Open kind.Row fs left g ∷ []) last = no_rest fs (field_of left g last)
row_closes_none (pending.Open kind.Plain fs left g ∷ []) last = refl
row_closes_none (pending.Open k fs left g ∷ []) last = refl
row_closes_none (pending.Left a op ∷ s) last = refl
row_closes_none (pending.Before h ∷ s) last = refl
row_closes_none (pending.Open kind.Row fs left g ∷ p ∷ s) last = refl
row_closes_none (pending.Open kind.Plain fs left g ∷ p ∷ s) last = refl
row_closes_none (pending.Open k fs left g ∷ p ∷ s) last = refl

-- where nothing is left, only a closed bracket is found
pub closed_end : (m : Machine) → option_and_then closed_found (run m []) ≡ closed_at m []
closed_end (machine.Closed fs) = refl
closed_end (machine.Waits s) = row_closes_none s None
closed_end (machine.Holds s x) = row_closes_none (reduce 0 s x).stack (Some (v.One (reduce 0 s x).expression))
closed_end (machine.Did s w) = row_closes_none s (Some w)
closed_end machine.Stops = refl

pub closed_stays : (m : Machine) (ts : List Terminal) → is_closed m ≡ true → option_and_then closed_found (run m ts)
    ≡ closed_at m ts
closed_stays (machine.Closed fs) [] h = refl
closed_stays (machine.Closed fs) (t ∷ ts) h = refl
closed_stays (machine.Waits s) ts h = absurd (cc)
closed_stays m ts h = absurd (cc)

-- where the machine is closed or nothing is left
pub closed_either : (m : Machine) (ts : List Terminal) → (is_closed m ≡ true) ⊎ (ts ≡ []) → option_and_then closed_found (run m ts)
    ≡ closed_at m ts
closed_either m ts (inl h) = closed_stays m ts h
closed_either m ts (inr h) = ap (λ ts. option_and_then closed_found (run m ts)) h ∙ closed_end m ∙ ap (closed_at m) (sym h)
