-- Each intrinsic is found by its name, so no two have one name.
use Rattle.std.proofs.Common.{◌≡◌, ◌≢◌, Bool, true, false, List, [], ◌∷◌, Option, Some, None, refl, sym, ap, ◌∙◌, cond, IfSome}
use Rattle.std.proofs.lemmas.Slice.Eq.{bytes_eq-Decides}
use Rattle.intrinsic_table.specs.declared.intrinsic.Intrinsic.{Intrinsic}
use Rattle.intrinsic_table.specs.declared.intrinsic.Intrinsic.TheVariants as intrinsic
use Rattle.intrinsic_table.specs.Table.{Word}
use Rattle.intrinsic_table.specs.Interface.{name_of}
use Rattle.intrinsic_table.specs.Finding.{is_word, first_named, beginning}
use Rattle.intrinsic_table.specs.TableLaws.{NamesDiffer}

-- the look-up of the code
abbrev pub found : Word → Option Intrinsic
found [] = None
found (byte ∷ more) = first_named (beginning byte) (byte ∷ more)

pub each_is_found : (which : Intrinsic) → found (name_of which) ≡ Some which
each_is_found intrinsic.Abs = refl
each_is_found intrinsic.Mod = refl
each_is_found intrinsic.Modulo = refl
each_is_found intrinsic.Sign = refl
each_is_found intrinsic.Max = refl
each_is_found intrinsic.Min = refl
each_is_found intrinsic.Iand = refl
each_is_found intrinsic.Ior = refl
each_is_found intrinsic.Ieor = refl
each_is_found intrinsic.Merge = refl
each_is_found intrinsic.Ichar = refl
each_is_found intrinsic.Char = refl
each_is_found intrinsic.LenTrim = refl
each_is_found intrinsic.Index = refl
each_is_found intrinsic.Adjustl = refl
each_is_found intrinsic.Adjustr = refl
each_is_found intrinsic.Trim = refl
each_is_found intrinsic.Size = refl
each_is_found intrinsic.Shape = refl
each_is_found intrinsic.Lbound = refl
each_is_found intrinsic.Ubound = refl
each_is_found intrinsic.Allocated = refl
each_is_found intrinsic.Len = refl
each_is_found intrinsic.Sum = refl
each_is_found intrinsic.Product = refl
each_is_found intrinsic.Maxval = refl
each_is_found intrinsic.Minval = refl
each_is_found intrinsic.All = refl
each_is_found intrinsic.Any = refl
each_is_found intrinsic.Count = refl
each_is_found intrinsic.Maxloc = refl
each_is_found intrinsic.Minloc = refl
each_is_found intrinsic.DotProduct = refl
each_is_found intrinsic.Matmul = refl
each_is_found intrinsic.Transpose = refl
each_is_found intrinsic.Cshift = refl
each_is_found intrinsic.Eoshift = refl
each_is_found intrinsic.Spread = refl
each_is_found intrinsic.Pack = refl
each_is_found intrinsic.Unpack = refl
each_is_found intrinsic.Reshape = refl

pub names_differ : NamesDiffer
names_differ v w e = let same : Some v ≡ Some w = sym (each_is_found v) ∙ (ap found e ∙ each_is_found w) in cc

-- what is found has the name
first_is : (name : Word) (b : Bool) (which w : Intrinsic) (more : Option Intrinsic) → is_word (name_of which) name ≡ b
    → (more ≡ Some w → name_of w ≡ name) → cond b (Some which) more ≡ Some w → name_of w ≡ name
first_is name true which w more h later e =
    let same : which ≡ w = cc in ap name_of (sym same) ∙ (bytes_eq-Decides (name_of which) name).0 h
first_is name false which w more h later e = later e

pub named_so : (among : List Intrinsic) (name : Word) (w : Intrinsic) → first_named among name ≡ Some w → name_of w ≡ name
named_so [] name w e = cc
named_so (which ∷ more) name w e =
    first_is name (is_word (name_of which) name) which w (first_named more name) refl (named_so more name w) e

-- where none is found, none has the name
pub none_named_so : (name : Word) → found name ≡ None → (w : Intrinsic) → name_of w ≢ name
none_named_so name none w e = let some : Some w ≡ found name = sym (each_is_found w) ∙ ap found e in cc

pub named_if_some : (among : List Intrinsic) (name : Word) (r : Option Intrinsic)
    → r ≡ first_named among name → IfSome r (λ w. name_of w ≡ name)
named_if_some among name (Some w) e = named_so among name w (sym e)
named_if_some among name None e = tt
