-- Dimensions, bounds and what has them: spelled as the fields that they are taken from, and taken again.
use Rattle.std.proofs.Common.{◌≡◌, Bool, true, ◌&&◌, List, [], ◌∷◌, ◌++◌, map, Option, Some, None, sym, ◌∙◌, ap, refl}
use Rattle.std.proofs.Common.{append_assoc, append-nil}
use Rattle.std.specs.Prelude.{option_map, option_and_then}
use Rattle.std.proofs.Math.Bool.{and-true}
use Rattle.f95_tree.specs.declared.expression.Expression.{Expression}
use Rattle.f95_tree.specs.declared.expression.Expression.TheVariants as e
use Rattle.f95_tree.specs.declared.expression.Reference.{Reference}
use Rattle.f95_tree.specs.declared.expression.Reference.TheVariants as r
use Rattle.f95_tree.specs.declared.expression.Item.{Item}
use Rattle.f95_tree.specs.declared.expression.Item.TheVariants as i
use Rattle.f95_tree.specs.declared.expression.Value.TheVariants as v
use Rattle.f95_tree.specs.declared.declaration.Dim.{Dim}
use Rattle.f95_tree.specs.declared.declaration.Dim.TheVariants as dim
use Rattle.f95_tree.specs.declared.action.Allocation.{Allocation}
use Rattle.f95_tree.specs.declared.action.Bound.{Bound}
use Rattle.f95_tree.specs.declared.action.Bound.TheVariants as bound
use Rattle.f95_tree.specs.declared.terminal.Terminal.TheVariants as terminal
use Rattle.f95_tree.specs.declared.terminal.Punctuation.TheVariants as mark
use Rattle.f95_tree.specs.Spelling.{Text, punctuated, commas, in_brackets, expression, item}
use Rattle.f95_tree.specs.Grades.{all, some, well, well_item}
use Rattle.f95_tree.specs.Forms.{dim_text, dims_text, bound_text, allocation_text}
use Rattle.f95_tree.specs.WellFormed.{well_dim, well_bound}
use Rattle.f95_tree.proofs.Nodes.{item-Plain, item-Triplet, well_item-Plain, well_item-Triplet, reference-Items}
use Rattle.f95_tree.proofs.Nodes.{well_reference-Items}
use Rattle.f95_tree.proofs.Views.{seen-Plain, seen-Keyword, seen-Triplet, seen-Whole, seen-Items, seen-Substring}
use Rattle.f95_tree.proofs.Induction.{item_cases, reference_cases}
use Rattle.f95_expressions.specs.declared.pending.Field.{Field}
use Rattle.f95_expressions.specs.Fields.{field_text, well_field}
use Rattle.f95_expressions.proofs.Read.{mapped, chained}
use Rattle.f95_parts.specs.Parts.{picked, filled, dim_of, dim_in, dim_of_bounds, dims_of, bound_of, bound_in, bound_of_bounds}
use Rattle.f95_parts.specs.Parts.{bounds_of, reference_of, allocation, allocation_in, allocation_named, allocation_of}
use Rattle.f95_parts.proofs.PartLaws.{reference_field, reference_sound, reference_again, reference_text, reference_well}

-- ---- dimensions

abbrev pub dim_item : Dim → Item
dim_item (dim.Upper upper) = i.Plain upper
dim_item (dim.Both lower upper) = i.Triplet (Some lower) (Some upper) None
dim_item (dim.Lower lower) = i.Triplet (Some lower) None None
dim_item dim.Deferred = i.Triplet None None None

triplet_dim : (a b c : Option Expression) (d : Dim) → dim_of_bounds a b c ≡ Some d → i.Triplet a b c ≡ dim_item d
triplet_dim None None None d h = let q : dim.Deferred ≡ d = cc in ap dim_item q
triplet_dim None None (Some c) d h = absurd (cc)
triplet_dim None (Some b) c d h = absurd (cc)
triplet_dim (Some a) None None d h = let q : dim.Lower a ≡ d = cc in ap dim_item q
triplet_dim (Some a) None (Some c) d h = absurd (cc)
triplet_dim (Some a) (Some b) None d h = let q : dim.Both a b ≡ d = cc in ap dim_item q
triplet_dim (Some a) (Some b) (Some c) d h = absurd (cc)

abbrev DimSound : Item → Type 0
DimSound x = (d : Dim) → dim_of x ≡ Some d → x ≡ dim_item d

dim_sound : (x : Item) → DimSound x
dim_sound = item_cases DimSound
    (λ u d h. let q = sym (ap dim_in (seen-Plain u)) ∙ h in let p : dim.Upper u ≡ d = cc in ap dim_item p)
    (λ n x d h. let q = sym (ap dim_in (seen-Keyword n x)) ∙ h in absurd (cc))
    (λ a b c d h. triplet_dim a b c d (sym (ap dim_in (seen-Triplet a b c)) ∙ h))

dim_again : (d : Dim) → dim_of (dim_item d) ≡ Some d
dim_again (dim.Upper u) = ap dim_in (seen-Plain u)
dim_again (dim.Both l u) = ap dim_in (seen-Triplet (Some l) (Some u) None)
dim_again (dim.Lower l) = ap dim_in (seen-Triplet (Some l) None None)
dim_again dim.Deferred = ap dim_in (seen-Triplet None None None)

dim_spelled : (d : Dim) → item (dim_item d) ≡ dim_text d
dim_spelled (dim.Upper u) = item-Plain u
dim_spelled (dim.Both l u) = item-Triplet (Some l) (Some u) None
    ∙ ap (λ t. expression l ++ punctuated mark.Colon t) (append-nil (expression u))
dim_spelled (dim.Lower l) = item-Triplet (Some l) None None
dim_spelled dim.Deferred = item-Triplet None None None

dim_well : (d : Dim) → well_item (dim_item d) ≡ well_dim d
dim_well (dim.Upper u) = well_item-Plain u
dim_well (dim.Both l u) = well_item-Triplet (Some l) (Some u) None ∙ ap (λ b. well l && b) (and-true (well u))
dim_well (dim.Lower l) = well_item-Triplet (Some l) None None ∙ and-true (well l)
dim_well dim.Deferred = well_item-Triplet None None None

-- ---- bounds

abbrev pub bound_item : Bound → Item
bound_item (bound.Upper upper) = i.Plain upper
bound_item (bound.Both lower upper) = i.Triplet (Some lower) (Some upper) None

triplet_bound : (a b c : Option Expression) (d : Bound) → bound_of_bounds a b c ≡ Some d → i.Triplet a b c ≡ bound_item d
triplet_bound None b c d h = absurd (cc)
triplet_bound (Some a) None c d h = absurd (cc)
triplet_bound (Some a) (Some b) None d h = let q : bound.Both a b ≡ d = cc in ap bound_item q
triplet_bound (Some a) (Some b) (Some c) d h = absurd (cc)

abbrev BoundSound : Item → Type 0
BoundSound x = (d : Bound) → bound_of x ≡ Some d → x ≡ bound_item d

bound_sound : (x : Item) → BoundSound x
bound_sound = item_cases BoundSound
    (λ u d h. let q = sym (ap bound_in (seen-Plain u)) ∙ h in let p : bound.Upper u ≡ d = cc in ap bound_item p)
    (λ n x d h. let q = sym (ap bound_in (seen-Keyword n x)) ∙ h in absurd (cc))
    (λ a b c d h. triplet_bound a b c d (sym (ap bound_in (seen-Triplet a b c)) ∙ h))

bound_again : (d : Bound) → bound_of (bound_item d) ≡ Some d
bound_again (bound.Upper u) = ap bound_in (seen-Plain u)
bound_again (bound.Both l u) = ap bound_in (seen-Triplet (Some l) (Some u) None)

bound_spelled : (d : Bound) → item (bound_item d) ≡ bound_text d
bound_spelled (bound.Upper u) = item-Plain u
bound_spelled (bound.Both l u) = item-Triplet (Some l) (Some u) None
    ∙ ap (λ t. expression l ++ punctuated mark.Colon t) (append-nil (expression u))

bound_well : (d : Bound) → well_item (bound_item d) ≡ well_bound d
bound_well (bound.Upper u) = well_item-Plain u
bound_well (bound.Both l u) = well_item-Triplet (Some l) (Some u) None ∙ ap (λ b. well l && b) (and-true (well u))

-- ---- lists of items

record Picked {A : Type 0} (g : A → Item) (done bs : List A) (xs : List Item) : Type 0 where
  pub rest : List A
  pub all_of : bs ≡ done ++ rest
  pub items : xs ≡ map g rest

picked_sound : {A : Type 0} (make : Item → Option A) (g : A → Item) → ((x : Item) (a : A) → make x ≡ Some a → x ≡ g a) →
    (done bs : List A) (xs : List Item) → picked make done xs ≡ Some bs → Picked g done bs xs
picked_sound make g sound done bs [] h = let q : done ≡ bs = cc in
    record { rest = []; all_of = sym q ∙ sym (append-nil done); items = refl }
picked_sound make g sound done bs (x ∷ xs) h = chained (λ a. picked make (done ++ a ∷ []) xs) (make x) bs h (λ a ha hs.
    let more = picked_sound make g sound (done ++ a ∷ []) bs xs hs in record {
      rest = a ∷ more.rest;
      all_of = more.all_of ∙ append_assoc done (a ∷ []) more.rest;
      items = ap (λ x. x ∷ xs) (sound x a ha) ∙ ap (λ xs. g a ∷ xs) more.items;
    })

all_picked : {A : Type 0} (make : Item → Option A) (g : A → Item) → ((x : Item) (a : A) → make x ≡ Some a → x ≡ g a) →
    (bs : List A) (xs : List Item) → picked make [] xs ≡ Some bs → xs ≡ map g bs
all_picked make g sound bs xs h = let p = picked_sound make g sound [] bs xs h in p.items ∙ ap (map g) (sym p.all_of)

picked_again : {A : Type 0} (make : Item → Option A) (g : A → Item) → ((a : A) → make (g a) ≡ Some a) →
    (done bs : List A) → picked make done (map g bs) ≡ Some (done ++ bs)
picked_again make g back done [] = ap Some (sym (append-nil done))
picked_again make g back done (b ∷ bs) =
    ap (option_and_then (λ a. picked make (done ++ a ∷ []) (map g bs))) (back b)
    ∙ picked_again make g back (done ++ b ∷ []) bs ∙ ap Some (append_assoc done (b ∷ []) bs)

filled_sound : {A : Type 0} (xs ys : List A) → filled xs ≡ Some ys → (xs ≡ ys) × (some ys ≡ true)
filled_sound [] ys h = absurd (cc)
filled_sound (x ∷ xs) ys h = let q : x ∷ xs ≡ ys = cc in (q, sym (ap some q))

filled_again : {A : Type 0} (xs : List A) → some xs ≡ true → filled xs ≡ Some xs
filled_again [] h = absurd (cc)
filled_again (x ∷ xs) h = refl

pub same_texts : {A : Type 0} (g : A → Item) (text : A → Text) → ((a : A) → item (g a) ≡ text a) → (as' : List A) →
    map item (map g as') ≡ map text as'
same_texts g text same [] = refl
same_texts g text same (a ∷ more) = ap (λ t. t ∷ map item (map g more)) (same a)
    ∙ ap (λ ts. text a ∷ ts) (same_texts g text same more)

pub same_wells : {A : Type 0} (g : A → Item) (w : A → Bool) → ((a : A) → well_item (g a) ≡ w a) → (as' : List A) →
    map well_item (map g as') ≡ map w as'
same_wells g w same [] = refl
same_wells g w same (a ∷ more) = ap (λ t. t ∷ map well_item (map g more)) (same a) ∙ ap (λ ts. w a ∷ ts) (same_wells g w same more)

pub dims_sound : (xs : List Item) (ds : List Dim) → dims_of xs ≡ Some ds → (xs ≡ map dim_item ds) × (some ds ≡ true)
dims_sound xs ds h = chained filled (picked dim_of [] xs) ds h (λ es he hf.
    let f = filled_sound es ds hf in (all_picked dim_of dim_item dim_sound es xs he ∙ ap (map dim_item) f.0, f.1))

pub dims_again : (ds : List Dim) → some ds ≡ true → dims_of (map dim_item ds) ≡ Some ds
dims_again ds h = ap (option_and_then filled) (picked_again dim_of dim_item dim_again [] ds) ∙ filled_again ds h

pub dims_spelled : (ds : List Dim) → in_brackets (commas (map item (map dim_item ds))) ≡ dims_text ds
dims_spelled ds = ap (λ ts. in_brackets (commas ts)) (same_texts dim_item dim_text dim_spelled ds)

pub dims_well : (ds : List Dim) → all (map well_item (map dim_item ds)) ≡ all (map well_dim ds)
dims_well ds = ap all (same_wells dim_item well_dim dim_well ds)

bounds_sound : (xs : List Item) (ds : List Bound) → bounds_of xs ≡ Some ds → (xs ≡ map bound_item ds) × (some ds ≡ true)
bounds_sound xs ds h = chained filled (picked bound_of [] xs) ds h (λ es he hf.
    let f = filled_sound es ds hf in (all_picked bound_of bound_item bound_sound es xs he ∙ ap (map bound_item) f.0, f.1))

bounds_again : (ds : List Bound) → some ds ≡ true → bounds_of (map bound_item ds) ≡ Some ds
bounds_again ds h = ap (option_and_then filled) (picked_again bound_of bound_item bound_again [] ds) ∙ filled_again ds h

-- ---- allocations

abbrev pub allocation_reference : Allocation → Reference
allocation_reference a = r.Items a.name (map bound_item a.bounds)

abbrev pub allocation_field : Allocation → Field
allocation_field a = reference_field (allocation_reference a)

abbrev AllocationSound : Reference → Type 0
AllocationSound x = (a : Allocation) → allocation_named x ≡ Some a → (x ≡ allocation_reference a) × (some a.bounds ≡ true)

allocation_sound_in : (x : Reference) → AllocationSound x
allocation_sound_in = reference_cases AllocationSound
    (λ n a h. let q = sym (ap allocation_in (seen-Whole n)) ∙ h in absurd (cc))
    (λ n xs a h. mapped (allocation n) (bounds_of xs) a (sym (ap allocation_in (seen-Items n xs)) ∙ h) (λ bs hb is.
    let b = bounds_sound xs bs hb in
    (ap (r.Items n) b.0 ∙ ap allocation_reference is, sym (ap (λ (a : Allocation). some a.bounds) is) ∙ b.1)))
    (λ n xs b c a h. let q = sym (ap allocation_in (seen-Substring n xs b c)) ∙ h in absurd (cc))

pub allocation_sound : (f : Field) (a : Allocation) → allocation_of f ≡ Some a → (f ≡ allocation_field a) × (some a.bounds ≡ true)
allocation_sound f a h = chained allocation_named (reference_of f) a h (λ x hx hn.
    let s = allocation_sound_in x a hn in (reference_sound f x hx ∙ ap reference_field s.0, s.1))

pub allocation_again : (a : Allocation) → some a.bounds ≡ true → allocation_of (allocation_field a) ≡ Some a
allocation_again a h = ap (option_and_then allocation_named) (reference_again (allocation_reference a))
    ∙ ap allocation_in (seen-Items a.name (map bound_item a.bounds)) ∙ ap (option_map (allocation a.name)) (bounds_again a.bounds h)

pub allocation_spelled : (a : Allocation) → field_text (allocation_field a) ≡ allocation_text a
allocation_spelled a = reference_text (allocation_reference a) ∙ reference-Items a.name (map bound_item a.bounds)
    ∙ ap (λ ts. terminal.Name a.name ∷ in_brackets (commas ts)) (same_texts bound_item bound_text bound_spelled a.bounds)

pub allocation_well : (a : Allocation) → well_field (allocation_field a) ≡ all (map well_bound a.bounds)
allocation_well a = reference_well (allocation_reference a) ∙ well_reference-Items a.name (map bound_item a.bounds)
    ∙ ap all (same_wells bound_item well_bound bound_well a.bounds)
