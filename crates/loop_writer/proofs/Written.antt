-- One piece after another is written: what is left of the text, and what was written where the writing stops.
use Rattle.std.proofs.Common.{◌≡◌, ℕ, ◌≤◌, ◌^◌, List, [], ◌∷◌, ◌++◌, refl, ap, ◌∙◌, sym, subst, append-nil}
use Rattle.std.specs.Prelude.{Option, Result, Ok, Err, OnOk, OnErr}
use Rattle.std.specs.Io.KnownBytes.{Appends}
use Rattle.std.proofs.KnownBytes.{Appends-nil}
use Rattle.io_edge.specs.Known.{AppendsPrefix}
use Rattle.loop_tree.specs.Text.{text_of_program}
use Rattle.loop_writer.specs.declared.pieces.Piece.{Piece}
use Rattle.loop_writer.specs.declared.pieces.Piece.TheVariants.{Begin, Code}
use Rattle.loop_writer.specs.Pieces.{functions_of, BeginsMain, IsCutOff}
use Rattle.loop_writer.specs.Printed.{begun_text, end_text, piece_text, count_behind, pieces_text, FitsPiece, Leaves, BreaksOff}
use Rattle.loop_writer.proofs.Left.{part_then, part_breaks, stops_here, last_put}
use Rattle.loop_writer.proofs.Progress.{Progress, at_first, one_more, so_far, all_given}
use Rattle.loop_writer.proofs.Texts.{text_before, text_parts, before_more}

-- so much of the pieces was given, and this is held of their text
pub record Written (all left : List Piece) (n : ℕ) (old now : Option (List ℕ)) (held : List ℕ) : Type 0 where
  pub progress : Progress all left n
  pub text : Leaves old now held (text_before progress.given)

pub begins : (bytes : Option (List ℕ)) (all left : List Piece) (held : List ℕ) → all ≡ Begin [] ∷ left → held ≡ begun_text
    → Written all left 1 bytes bytes held
begins bytes all left held is e = record {
  progress = at_first all left is;
  text = record { put = []; appended = Appends-nil bytes; is = e ∙ sym (append-nil begun_text) };
}

module _ (all left : List Piece) (n : ℕ) (old mid : Option (List ℕ)) (held : List ℕ) (w : Written all left n old mid held) where
  whole_is : text_of_program (functions_of all) ≡ text_before w.progress.given ++ pieces_text n left
  whole_is = ap (λ (l : List Piece). text_of_program (functions_of l)) w.progress.is
      ∙ text_parts n w.progress.given left w.progress.count

  so_far_is : text_of_program (functions_of (Begin [] ∷ w.progress.given)) ≡ text_before w.progress.given ++ end_text
  so_far_is =
      ap (λ (l : List Piece). text_of_program (functions_of (Begin [] ∷ l))) (sym (append-nil w.progress.given))
      ∙ text_parts n w.progress.given [] w.progress.count

  -- nothing more is written
  pub stops : AppendsPrefix old mid (text_of_program (functions_of all))
  stops = subst (AppendsPrefix old mid) (sym whole_is)
      (stops_here old mid held (text_before w.progress.given) (pieces_text n left) w.text)

  pub stops_cut : IsCutOff old mid all
  stops_cut = record {
    given = Begin [] ∷ w.progress.given;
    later = left;
    is = w.progress.is;
    program = so_far all left n w.progress;
    prefix = subst (AppendsPrefix old mid) (sym so_far_is) (stops_here old mid held (text_before w.progress.given) end_text w.text);
  }

  -- one more piece is put behind what is held
  module _ (next : List Piece) (piece : Piece) (m : ℕ) (is : left ≡ piece ∷ next) (fits : FitsPiece piece)
      (count : m ≡ count_behind n piece) (few : n ≤ 2 ^ 32 → m ≤ 2 ^ 32)
      (longer : List ℕ) (put : longer ≡ held ++ piece_text n piece) where
    abbrev more : Progress all next m
    more = one_more all left next n m piece w.progress is fits count few

    before_is : text_before w.progress.given ++ piece_text n piece ≡ text_before more.given
    before_is = before_more n w.progress.given piece w.progress.count

    pub goes_on : (new : Option (List ℕ)) (after : List ℕ) → Leaves mid new after longer → Written all next m old new after
    goes_on new after f = record {
      progress = more;
      text = subst (Leaves old new after) before_is
          (part_then old mid new held (piece_text n piece) after (text_before w.progress.given) w.text
          (subst (Leaves mid new after) put f));
    }

    breaks : (new : Option (List ℕ)) (rest : List ℕ) → BreaksOff mid new longer
        → AppendsPrefix old new (text_before more.given ++ rest)
    breaks new rest f =
        subst (λ (l : List ℕ). AppendsPrefix old new (l ++ rest)) before_is
        (part_breaks old mid new held (piece_text n piece) (text_before w.progress.given) rest w.text
        (subst (BreaksOff mid new) put f))

    pub breaks_in_piece : (new : Option (List ℕ)) → BreaksOff mid new longer
        → AppendsPrefix old new (text_of_program (functions_of all))
    breaks_in_piece new f =
        subst (AppendsPrefix old new)
        (sym (ap (λ (l : List Piece). text_of_program (functions_of l)) more.is ∙ text_parts m more.given next more.count))
        (breaks new (pieces_text m next) f)

    pub cut_in_piece : (new : Option (List ℕ)) → BreaksOff mid new longer → IsCutOff old new all
    cut_in_piece new f = record {
      given = Begin [] ∷ more.given;
      later = next;
      is = more.is;
      program = so_far all next m more;
      prefix = subst (AppendsPrefix old new)
          (sym (ap (λ (l : List Piece). text_of_program (functions_of (Begin [] ∷ l))) (sym (append-nil more.given))
          ∙ text_parts m more.given [] more.count))
          (breaks new end_text f);
    }

  -- no piece is left
  module _ (none : left ≡ []) (last : List ℕ) (ended : last ≡ held ++ end_text) (new : Option (List ℕ)) where
    end_is : text_before w.progress.given ++ end_text ≡ text_of_program (functions_of all)
    end_is = sym so_far_is ∙ ap (λ (l : List Piece). text_of_program (functions_of l)) (sym (all_given all left n w.progress none))

    pub all_written : Appends mid new last → Appends old new (text_of_program (functions_of all))
    all_written a =
        subst (Appends old new) end_is
        (last_put old mid new held end_text (text_before w.progress.given) w.text (subst (Appends mid new) ended a))

    last_breaks : BreaksOff mid new last → AppendsPrefix old new (text_before w.progress.given ++ end_text)
    last_breaks f =
        subst (AppendsPrefix old new) (append-nil (text_before w.progress.given ++ end_text))
        (part_breaks old mid new held end_text (text_before w.progress.given) [] w.text (subst (BreaksOff mid new) ended f))

    pub breaks_at_end : BreaksOff mid new last → AppendsPrefix old new (text_of_program (functions_of all))
    breaks_at_end f = subst (AppendsPrefix old new) end_is (last_breaks f)

    pub cut_at_end : BreaksOff mid new last → IsCutOff old new all
    cut_at_end f = record {
      given = Begin [] ∷ w.progress.given;
      later = left;
      is = w.progress.is;
      program = so_far all left n w.progress;
      prefix = subst (AppendsPrefix old new) (sym so_far_is) (last_breaks f);
    }

-- nothing was given
pub cut_at_first : (bytes : Option (List ℕ)) (all : List Piece) → BeginsMain all → IsCutOff bytes bytes all
cut_at_first bytes [] h = absurd h
cut_at_first bytes (Begin parameters ∷ later) h = record {
  given = Begin [] ∷ [];
  later = later;
  is = ap (λ ps. Begin ps ∷ later) h;
  program = so_far (Begin [] ∷ later) later 1 (at_first (Begin [] ∷ later) later refl);
  prefix = (0, Appends-nil bytes);
}
cut_at_first bytes (Code code ∷ later) h = absurd h

-- ---- clauses on an answer

pub on_ok : {T E P Q : Type 0} (r : Result T E) → (P → Q) → OnOk r P → OnOk r Q
on_ok (Ok a) step h = step h
on_ok (Err e) step h = tt

pub always_ok : {T E Q : Type 0} (r : Result T E) → Q → OnOk r Q
always_ok (Ok a) h = h
always_ok (Err e) h = tt

pub on_err : {T E P Q : Type 0} (r : Result T E) → (P → Q) → OnErr r P → OnErr r Q
on_err (Ok a) step h = tt
on_err (Err e) step h = step h

pub always_err : {T E Q : Type 0} (r : Result T E) → Q → OnErr r Q
always_err (Ok a) h = tt
always_err (Err e) h = h
