-- The intrinsics, in one table: the name of each, its sort, and its arguments in order, first those that must be given and then
-- those that may be absent.
use Rattle.std.specs.Prelude.{ℕ, List, [], ◌∷◌, codes}
use Prim.Native.String.{String}
use Rattle.intrinsic_table.specs.declared.intrinsic.Intrinsic.{Intrinsic}
use Rattle.intrinsic_table.specs.declared.intrinsic.Intrinsic.TheVariants as intrinsic
use Rattle.intrinsic_table.specs.declared.intrinsic.Sort.{Sort}
use Rattle.intrinsic_table.specs.declared.intrinsic.Sort.TheVariants.{Elemental, ScalarText, Inquiry, Reduction, Rearranging}

-- the bytes of a name, in lower case
abbrev pub Word : Type 0
Word = List ℕ

-- the keywords of the arguments: those that are needed, and behind them those that may be absent; or `a1`, `a2` and so on to
-- `a4294967295`, of which the first two are needed
pub data Arguments : Type 0 where
  Takes : (needed optional : List Word) → Arguments
  Numbered : Arguments

pub record Row : Type 0 where
  pub name : Word
  pub sort : Sort
  pub arguments : Arguments

abbrev pub words : List String → List Word
words [] = []
words (s ∷ ss) = codes s ∷ words ss

abbrev row : String → Sort → List String → List String → Row
row name sort needed optional = record { name = codes name; sort = sort; arguments = Takes (words needed) (words optional) }

abbrev numbered : String → Sort → Row
numbered name sort = record { name = codes name; sort = sort; arguments = Numbered }

abbrev pub row_of : Intrinsic → Row
row_of intrinsic.Abs = row "abs" Elemental ("a" ∷ []) []
row_of intrinsic.Mod = row "mod" Elemental ("a" ∷ "p" ∷ []) []
row_of intrinsic.Modulo = row "modulo" Elemental ("a" ∷ "p" ∷ []) []
row_of intrinsic.Sign = row "sign" Elemental ("a" ∷ "b" ∷ []) []
row_of intrinsic.Max = numbered "max" Elemental
row_of intrinsic.Min = numbered "min" Elemental
row_of intrinsic.Iand = row "iand" Elemental ("i" ∷ "j" ∷ []) []
row_of intrinsic.Ior = row "ior" Elemental ("i" ∷ "j" ∷ []) []
row_of intrinsic.Ieor = row "ieor" Elemental ("i" ∷ "j" ∷ []) []
row_of intrinsic.Merge = row "merge" Elemental ("tsource" ∷ "fsource" ∷ "mask" ∷ []) []
row_of intrinsic.Ichar = row "ichar" Elemental ("c" ∷ []) []
row_of intrinsic.Char = row "char" Elemental ("i" ∷ []) []
row_of intrinsic.LenTrim = row "len_trim" Elemental ("string" ∷ []) []
row_of intrinsic.Index = row "index" Elemental ("string" ∷ "substring" ∷ []) []
row_of intrinsic.Adjustl = row "adjustl" Elemental ("string" ∷ []) []
row_of intrinsic.Adjustr = row "adjustr" Elemental ("string" ∷ []) []
row_of intrinsic.Trim = row "trim" ScalarText ("string" ∷ []) []
row_of intrinsic.Size = row "size" Inquiry ("array" ∷ []) ("dim" ∷ [])
row_of intrinsic.Shape = row "shape" Inquiry ("source" ∷ []) []
row_of intrinsic.Lbound = row "lbound" Inquiry ("array" ∷ []) ("dim" ∷ [])
row_of intrinsic.Ubound = row "ubound" Inquiry ("array" ∷ []) ("dim" ∷ [])
row_of intrinsic.Allocated = row "allocated" Inquiry ("array" ∷ []) []
row_of intrinsic.Len = row "len" Inquiry ("string" ∷ []) []
row_of intrinsic.Sum = row "sum" Reduction ("array" ∷ []) ("dim" ∷ "mask" ∷ [])
row_of intrinsic.Product = row "product" Reduction ("array" ∷ []) ("dim" ∷ "mask" ∷ [])
row_of intrinsic.Maxval = row "maxval" Reduction ("array" ∷ []) ("dim" ∷ "mask" ∷ [])
row_of intrinsic.Minval = row "minval" Reduction ("array" ∷ []) ("dim" ∷ "mask" ∷ [])
row_of intrinsic.All = row "all" Reduction ("mask" ∷ []) ("dim" ∷ [])
row_of intrinsic.Any = row "any" Reduction ("mask" ∷ []) ("dim" ∷ [])
row_of intrinsic.Count = row "count" Reduction ("mask" ∷ []) ("dim" ∷ [])
row_of intrinsic.Maxloc = row "maxloc" Reduction ("array" ∷ []) ("mask" ∷ [])
row_of intrinsic.Minloc = row "minloc" Reduction ("array" ∷ []) ("mask" ∷ [])
row_of intrinsic.DotProduct = row "dot_product" Reduction ("vector_a" ∷ "vector_b" ∷ []) []
row_of intrinsic.Matmul = row "matmul" Reduction ("matrix_a" ∷ "matrix_b" ∷ []) []
row_of intrinsic.Transpose = row "transpose" Rearranging ("matrix" ∷ []) []
row_of intrinsic.Cshift = row "cshift" Rearranging ("array" ∷ "shift" ∷ []) ("dim" ∷ [])
row_of intrinsic.Eoshift = row "eoshift" Rearranging ("array" ∷ "shift" ∷ []) ("boundary" ∷ "dim" ∷ [])
row_of intrinsic.Spread = row "spread" Rearranging ("source" ∷ "dim" ∷ "ncopies" ∷ []) []
row_of intrinsic.Pack = row "pack" Rearranging ("array" ∷ "mask" ∷ []) ("vector" ∷ [])
row_of intrinsic.Unpack = row "unpack" Rearranging ("vector" ∷ "mask" ∷ "field" ∷ []) []
row_of intrinsic.Reshape = row "reshape" Rearranging ("source" ∷ "shape" ∷ []) ("pad" ∷ "order" ∷ [])
