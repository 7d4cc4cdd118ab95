-- How an intrinsic is found by its name: among those whose names begin with the same byte.
use Rattle.std.specs.Prelude.{ℕ, Bool, ◌==◌, nat_eq, List, [], ◌∷◌, Option, Some, None, if◌then◌else◌}
use Rattle.std.specs.Cmp.Lexicographic.{pointwise}
use Rattle.intrinsic_table.specs.declared.intrinsic.Intrinsic.{Intrinsic}
use Rattle.intrinsic_table.specs.declared.intrinsic.Intrinsic.TheVariants as intrinsic
use Rattle.intrinsic_table.specs.Table.{Word}
use Rattle.intrinsic_table.specs.Interface.{name_of}

abbrev pub is_word : Word → Word → Bool
is_word word other = pointwise nat_eq word other

-- the first of them with this name
abbrev pub first_named : List Intrinsic → Word → Option Intrinsic
first_named [] name = None
first_named (which ∷ more) name = if is_word (name_of which) name then Some which else first_named more name

-- those whose names begin with this byte
abbrev pub beginning : ℕ → List Intrinsic
beginning byte =
    if byte == 97 then intrinsic.Abs ∷ intrinsic.All ∷ intrinsic.Any ∷ intrinsic.Allocated
    ∷ intrinsic.Adjustl ∷ intrinsic.Adjustr ∷ []
    else (if byte == 99 then intrinsic.Char ∷ intrinsic.Count ∷ intrinsic.Cshift ∷ []
    else (if byte == 100 then intrinsic.DotProduct ∷ []
    else (if byte == 101 then intrinsic.Eoshift ∷ []
    else (if byte == 105 then intrinsic.Iand ∷ intrinsic.Ior ∷ intrinsic.Ieor ∷ intrinsic.Ichar ∷ intrinsic.Index ∷ []
    else (if byte == 108 then intrinsic.Len ∷ intrinsic.Lbound ∷ intrinsic.LenTrim ∷ []
    else (if byte == 109 then intrinsic.Mod ∷ intrinsic.Max ∷ intrinsic.Min ∷ intrinsic.Merge ∷ intrinsic.Modulo
    ∷ intrinsic.Maxval ∷ intrinsic.Minval ∷ intrinsic.Maxloc ∷ intrinsic.Minloc ∷ intrinsic.Matmul ∷ []
    else (if byte == 112 then intrinsic.Pack ∷ intrinsic.Product ∷ []
    else (if byte == 114 then intrinsic.Reshape ∷ []
    else (if byte == 115 then intrinsic.Sum ∷ intrinsic.Sign ∷ intrinsic.Size ∷ intrinsic.Shape ∷ intrinsic.Spread ∷ []
    else (if byte == 116 then intrinsic.Trim ∷ intrinsic.Transpose ∷ []
    else (if byte == 117 then intrinsic.Ubound ∷ intrinsic.Unpack ∷ []
    else [])))))))))))
