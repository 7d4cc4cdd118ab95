-- The names that expressions and declarations name. The variables of implied DOs are among them, since they must be declared too;
-- keywords aren't.
use Rattle.std.specs.Prelude.{ℕ, List, [], ◌∷◌, ◌++◌, map, Option, Some, None}
use Rattle.std.specs.List.{flat_map}
use Rattle.f95_tree.specs.Forms.{Word}
use Rattle.names_types.specs.declared.mention.Mention.{Mention}
use Rattle.names_types.specs.Plain.{Expr, Literal, Named, Bracketed, Constructor, Signed, Binary, Reference, Whole, Applied, Substring, Bound, Absent, Given, Items, no_item, plain, keyword, triplet, Values, no_value, value, loop, Number, Computed, Assumed, TypeSpec, Integer, Logical, Character, Dim, Upper, Both, Lower, Deferred, Attribute, Parameter, Allocatable, Dimension, Intended, Entity, Declaration}

abbrev mutual
  pub names_in : Expr → List Word
  names_in (Literal x) = []
  names_in (Named r) = names_in_reference r
  names_in (Bracketed e) = names_in e
  names_in (Constructor values) = names_in_values values
  names_in (Signed s e) = names_in e
  names_in (Binary op e f) = names_in e ++ names_in f

  pub names_in_reference : Reference → List Word
  names_in_reference (Whole name) = name ∷ []
  names_in_reference (Applied name items) = name ∷ names_in_items items
  names_in_reference (Substring name items lower upper) =
      name ∷ (names_in_items items ++ (names_in_bound lower ++ names_in_bound upper))

  pub names_in_bound : Bound → List Word
  names_in_bound Absent = []
  names_in_bound (Given e) = names_in e

  pub names_in_items : Items → List Word
  names_in_items no_item = []
  names_in_items (plain e more) = names_in e ++ names_in_items more
  names_in_items (keyword name e more) = names_in e ++ names_in_items more
  names_in_items (triplet lower upper stride more) =
      names_in_bound lower ++ (names_in_bound upper ++ (names_in_bound stride ++ names_in_items more))

  pub names_in_values : Values → List Word
  names_in_values no_value = []
  names_in_values (value e more) = names_in e ++ names_in_values more
  names_in_values (loop body variable first last step more) =
      variable ∷ (names_in_values body ++ (names_in first ++ (names_in last ++ (names_in_bound step ++ names_in_values more))))

-- ---- declarations

abbrev pub names_in_maybe : {A : Type 0} → (A → List Word) → Option A → List Word
names_in_maybe names None = []
names_in_maybe names (Some x) = names x

abbrev pub names_in_type : TypeSpec → List Word
names_in_type Integer = []
names_in_type Logical = []
names_in_type (Character (Number n)) = []
names_in_type (Character (Computed e)) = names_in e
names_in_type (Character Assumed) = []

abbrev pub names_in_dim : Dim → List Word
names_in_dim (Upper upper) = names_in upper
names_in_dim (Both lower upper) = names_in lower ++ names_in upper
names_in_dim (Lower lower) = names_in lower
names_in_dim Deferred = []

abbrev pub names_in_attribute : Attribute → List Word
names_in_attribute Parameter = []
names_in_attribute Allocatable = []
names_in_attribute (Dimension dims) = flat_map names_in_dim dims
names_in_attribute (Intended i) = []

abbrev pub names_in_entity : Entity → List Word
names_in_entity e = names_in_maybe (flat_map names_in_dim) e.dims ++ names_in_maybe names_in e.initial

-- all that a declaration names, bounds of DIMENSION that no entity uses too
abbrev pub names_in_declaration : Declaration → List Word
names_in_declaration d = names_in_type d.of ++ (flat_map names_in_attribute d.attributes ++ flat_map names_in_entity d.entities)

abbrev pub mention : ℕ → Word → Mention
mention line name = record { line = line; name = name }

abbrev pub mentions_on : ℕ → List Word → List Mention
mentions_on line names = map (mention line) names

abbrev pub mentions_in_declarations : List Declaration → List Mention
mentions_in_declarations ds = flat_map (λ (d : Declaration). mentions_on d.line (names_in_declaration d)) ds
