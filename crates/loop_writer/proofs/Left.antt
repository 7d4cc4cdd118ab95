-- What is left of a text that is written part by part.
use Rattle.std.proofs.Common.{◌≡◌, ℕ, List, [], ◌++◌, Option, refl, ap, ◌∙◌, sym, subst, append_assoc, append-nil}
use Rattle.std.specs.Io.KnownBytes.{Appends, Keeps}
use Rattle.std.proofs.KnownBytes.{Appends-nil, Appends-trans}
use Rattle.io_edge.specs.Known.{AppendsPrefix}
use Rattle.io_edge.proofs.Known.{whole_front, kept_front, front_behind, front_more}
use Rattle.loop_writer.specs.Printed.{Leaves, BreaksOff}

pub nothing_put : (bytes : Option (List ℕ)) (whole : List ℕ) → Leaves bytes bytes whole whole
nothing_put bytes whole = record { put = []; appended = Appends-nil bytes; is = refl }

pub all_put : (old new : Option (List ℕ)) (held left : List ℕ) → left ≡ [] → Appends old new held → Leaves old new left held
all_put old new held left empty a = record { put = held; appended = a; is = ap (λ (l : List ℕ). held ++ l) empty ∙ append-nil held }

pub nothing_kept : (old new : Option (List ℕ)) (whole : List ℕ) → Keeps old new → BreaksOff old new whole
nothing_kept old new whole k = record { prefix = kept_front old new whole k }

pub cut_short : (old new : Option (List ℕ)) (whole : List ℕ) → AppendsPrefix old new whole → BreaksOff old new whole
cut_short old new whole f = record { prefix = f }

-- one more part behind the text of which this is left
pub part_then : (old mid new : Option (List ℕ)) (held part after before : List ℕ) → Leaves old mid held before
    → Leaves mid new after (held ++ part) → Leaves old new after (before ++ part)
part_then old mid new held part after before f g = record {
  put = f.put ++ g.put;
  appended = Appends-trans old mid new f.put g.put f.appended g.appended;
  is = append_assoc f.put g.put after
      ∙ (ap (λ (l : List ℕ). f.put ++ l) g.is ∙ (sym (append_assoc f.put held part) ∙ ap (λ (l : List ℕ). l ++ part) f.is));
}

-- what was put is a prefix of the text with anything behind it
pub stops_here : (old new : Option (List ℕ)) (held before more : List ℕ) → Leaves old new held before
    → AppendsPrefix old new (before ++ more)
stops_here old new held before more f =
    front_more old new before more
    (subst (AppendsPrefix old new) f.is (front_more old new f.put held (whole_front old new f.put f.appended)))

-- what breaks off within the next part
pub part_breaks : (old mid new : Option (List ℕ)) (held part before more : List ℕ) → Leaves old mid held before
    → BreaksOff mid new (held ++ part) → AppendsPrefix old new ((before ++ part) ++ more)
part_breaks old mid new held part before more f g =
    front_more old new (before ++ part) more
    (subst (AppendsPrefix old new) (sym (append_assoc f.put held part) ∙ ap (λ (l : List ℕ). l ++ part) f.is)
    (front_behind old mid new f.put (held ++ part) f.appended g.prefix))

-- the last part
pub last_put : (old mid new : Option (List ℕ)) (held part before : List ℕ) → Leaves old mid held before
    → Appends mid new (held ++ part) → Appends old new (before ++ part)
last_put old mid new held part before f a =
    subst (Appends old new) (sym (append_assoc f.put held part) ∙ ap (λ (l : List ℕ). l ++ part) f.is)
    (Appends-trans old mid new f.put (held ++ part) f.appended a)
