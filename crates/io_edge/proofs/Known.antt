-- What several calls of a sink do together, for the crates above. Beside these, std's `KnownBytes` has `Appends-trans`,
-- `Consumes-trans` and `Consumes-all`.
use Rattle.std.proofs.Common.{ℕ, ◌+◌, min, List, [], ◌++◌, Some, None, length, take, take_all, sym, subst, ◌∙◌, arith, append-nil}
use Rattle.std.specs.Prelude.{Option}
use Rattle.std.proofs.Math.Seq.{take-append-add}
use Rattle.std.proofs.lemmas.List.{take-append-le, take_min}
use Rattle.std.specs.Io.KnownBytes.{Appends, Keeps}
use Rattle.std.proofs.KnownBytes.{Appends-trans}
use Rattle.io_edge.specs.Known.{AppendsPrefix}

-- a call that leaves the bytes appended nothing
pub kept_appends : (old new : Option (List ℕ)) → Keeps old new → Appends old new []
kept_appends None new k = tt
kept_appends (Some xs) None k = absurd k
kept_appends (Some xs) (Some ys) k = k ∙ sym (append-nil xs)

pub appends_kept : (old mid new : Option (List ℕ)) (piece : List ℕ) → Appends old mid piece → Keeps mid new → Appends old new piece
appends_kept None mid new piece a k = tt
appends_kept (Some xs) None new piece a k = absurd a
appends_kept (Some xs) (Some ys) None piece a k = absurd k
appends_kept (Some xs) (Some ys) (Some zs) piece a k = k ∙ a

-- all of a piece is a front of it, and so is nothing
pub whole_front : (old new : Option (List ℕ)) (piece : List ℕ) → Appends old new piece → AppendsPrefix old new piece
whole_front old new piece a = (length piece, subst (Appends old new) (sym (take_all (length piece) piece (omega arith))) a)

pub kept_front : (old new : Option (List ℕ)) (piece : List ℕ) → Keeps old new → AppendsPrefix old new piece
kept_front old new piece k = (0, kept_appends old new k)

-- a piece, and then a front of the next, are a front of both
pub front_behind : (old mid new : Option (List ℕ)) (first next : List ℕ) → Appends old mid first → AppendsPrefix mid new next
    → AppendsPrefix old new (first ++ next)
front_behind old mid new first next a f = (
  length first + f.0,
  subst (Appends old new) (sym (take-append-add first next f.0)) (Appends-trans old mid new first (take f.0 next) a f.1),
)

-- a front of a piece is a front of the piece with more behind it
pub front_more : (old new : Option (List ℕ)) (piece more : List ℕ) → AppendsPrefix old new piece
    → AppendsPrefix old new (piece ++ more)
front_more old new piece more f =
    let n = min f.0 (length piece) in
    (n, subst (Appends old new) (sym (take-append-le n piece more (omega arith) ∙ take_min f.0 piece)) f.1)
