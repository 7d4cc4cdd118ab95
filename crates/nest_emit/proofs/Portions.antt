-- Bytes of an element of a declared text variable.
use Rattle.std.proofs.Common.{◌≡◌, ℕ, ◌<◌, ◌≤◌, true, ◌&&◌, List, [], ◌++◌, Option, Some, None, refl, sym, ap, ◌∙◌, subst, arith, length}
use Rattle.std.specs.Prelude.{get_or}
use Rattle.a95_base.specs.declared.scalar.Scalar.{Scalar}
use Rattle.a95_base.specs.declared.scalar.Scalar.TheVariants as scalar
use Rattle.a95_base.specs.Text.{part_of}
use Rattle.a95_base.specs.Steps.{Ran}
use Rattle.a95_base.proofs.Lists.{each_at}
use Rattle.std.proofs.lemmas.Bool.{and_parts}
use Rattle.array_meaning.specs.Values.{text_of, length_of}
use Rattle.array_meaning.specs.State.{Array, bytes_of as bytes_in}
use Rattle.array_meaning.specs.Sections.{is_part, part_bytes}
use Rattle.nest_tree.specs.declared.access.Name.{Name}
use Rattle.nest_tree.specs.declared.access.Name.TheVariants as name
use Rattle.nest_tree.specs.declared.access.Portion.{Portion}
use Rattle.nest_tree.specs.declared.unit.Sort.{Sort}
use Rattle.nest_tree.specs.declared.unit.Sort.TheVariants as sort
use Rattle.nest_tree.specs.Plain.{Procedure}
use Rattle.nest_tree.specs.State.{NestState, memory_of, Halt, block_in}
use Rattle.nest_tree.specs.Places.{amount, portion_of}
use Rattle.nest_tree.specs.Sound.{some_serves, sort_of_name, is_own_text, fits_amount, fits_portion}
use Rattle.loop_tree.specs.declared.atom.Atom.{Atom}
use Rattle.loop_tree.specs.declared.atom.TextAtom.{TextAtom}
use Rattle.loop_tree.specs.declared.atom.TextAtom.TheVariants as text
use Rattle.loop_tree.specs.declared.row.TextValue.TheVariants as words
use Rattle.loop_tree.specs.declared.tree.CodeLine.{CodeLine}
use Rattle.loop_tree.specs.declared.tree.Function.{Function}
use Rattle.loop_tree.specs.Lines.{flats}
use Rattle.loop_tree.specs.State.{Brace}
use Rattle.loop_tree.specs.Values.{number_at, text_at, text_value, sub}
use Rattle.loop_laws.specs.At.{Variables, value_of, bytes_of, text_read}
use Rattle.nest_emit.specs.Numbers.{first_free}
use Rattle.nest_emit.specs.Trees.{amount_atom, part_lines}
use Rattle.nest_emit.specs.Meets.{DoesAt}
use Rattle.nest_emit.specs.Kin.{Shows, Around, Kin, Keeps}
use Rattle.nest_emit.proofs.Values.{some_is}
use Rattle.nest_emit.proofs.Rows.{say_does}
use Rattle.nest_emit.proofs.Places.{amount_shown}
use Rattle.nest_emit.proofs.Texts.{part, part_is, sub_is}
use Rattle.nest_emit.proofs.Arrays.{known}
use Rattle.nest_emit.proofs.Kin.{keeps_all}

-- ---- a declared text variable

pub record OwnText (q : Procedure) (n : Name) : Type 0 where
  pub number : ℕ
  pub own : n ≡ name.Own number
  pub named : sort_of_name q n ≡ Some sort.Text

serves_text : (o : Option Sort) → some_serves o sort.Text ≡ true → o ≡ Some sort.Text
serves_text None h = cc
serves_text (Some sort.Exact) h = cc
serves_text (Some sort.Int) h = cc
serves_text (Some sort.Log) h = cc
serves_text (Some sort.Text) h = refl

pub own_text : (q : Procedure) (n : Name) → is_own_text q n ≡ true → OwnText q n
own_text q (name.Own i) h = record { number = i; own = refl; named = serves_text (sort_of_name q (name.Own i)) h }
own_text q (name.Temp i) h = cc

-- ---- what is read

pub read_part : (v : Variables) (d : TextAtom) (a b : Atom) →
    text_read v (words.Part d a b) ≡ sub (bytes_of v d) (value_of v a) (value_of v b)
unfolding text_value
read_part v d a b = refl

abbrev pub blank_in : NestState → Name → Scalar
blank_in st n = (block_in (memory_of st.cells) n).blank

abbrev pub element_in : NestState → Name → Array → ℕ → Scalar
element_in st n array number = get_or array.elements number (blank_in st n)

-- an element of a declared text variable has the length of the variable
pub element_long : {q : Procedure} {around : Around} {st : NestState} {v : Variables} (n : Name) (s : Sort) →
    sort_of_name q n ≡ Some s → (array : Array) → (block_in (memory_of st.cells) n).held ≡ Some array → (number : ℕ) →
    number < length array.elements → Kin q around st v → OwnText q n →
    length_of (element_in st n array number) ≡ length_of (blank_in st n)
element_long {st = st} n s is array there number inside kin own =
    let text : s ≡ sort.Text = some_is (sym is ∙ own.named) in
    each_at (λ y. length_of y ≡ length_of (blank_in st n)) array.elements number (blank_in st n)
    (known n s is array there kin own.number own.own text).elements inside

module _ {functions : List Function} {limit : ℕ} {q : Procedure} {around : Around} {st : NestState} {braces : List Brace}
    {r : Ran Halt NestState (Unit {0})} (n : Name) (s : Sort) (is : sort_of_name q n ≡ Some s) (array : Array)
    (there : (block_in (memory_of st.cells) n).held ≡ Some array) (number : ℕ) (inside : number < length array.elements) where
  -- the bytes of the element that stands in variable t
  pub portion_does : (t : ℕ) (u : Variables) (lines : List CodeLine) → first_free q ≤ t → Kin q around st u →
      (portion : Option Portion) → fits_portion q n portion ≡ true →
      is_part (length_of (blank_in st n)) (portion_of st.cells.temps.setting portion) ≡ true →
      Shows s (number_at u.ints t) (text_at u.texts t) (element_in st n array number) →
      ((w : Variables) → Kin q around st w → Keeps t u w → Shows s (number_at w.ints t) (text_at w.texts t)
      (bytes_in (part_bytes (portion_of st.cells.temps.setting portion)) (element_in st n array number)) →
      DoesAt functions limit st w lines braces r) →
      DoesAt functions limit st u (flats (part_lines q t portion) ++ lines) braces r
  portion_does t u lines free kin None fits parted shown next = next u kin (keeps_all t u) shown
  portion_does t u lines free kin (Some p) fits parted shown next =
      let two = and_parts (is_own_text q n && fits_amount q p.first) (fits_amount q p.last) fits in
      let one = and_parts (is_own_text q n) (fits_amount q p.first) two.0 in
      let own = own_text q n one.0 in
      let text_sort : s ≡ sort.Text = some_is (sym is ∙ own.named) in
      let first = amount st.cells.temps.setting p.first in
      let last = amount st.cells.temps.setting p.last in
      let sh : Shows sort.Text (number_at u.ints t) (text_at u.texts t) (element_in st n array number) =
      subst (λ k. Shows k (number_at u.ints t) (text_at u.texts t) (element_in st n array number)) text_sort shown in
      let long : length_of (blank_in st n) ≤ length (text_of (element_in st n array number)) = omega (arith, element_long n s is array there number inside kin own) in
      let bytes = part_of (text_of (element_in st n array number)) (part first last).0 (part first last).1 in
      say_does t u [] lines free kin (words.Part (text.Variable t) (amount_atom q p.first) (amount_atom q p.last)) bytes
      (read_part u (text.Variable t) (amount_atom q p.first) (amount_atom q p.last)
      ∙ ap (λ x. sub x (value_of u (amount_atom q p.first)) (value_of u (amount_atom q p.last))) sh.value
      ∙ ap (λ z. sub (text_of (element_in st n array number)) z (value_of u (amount_atom q p.last))) (amount_shown p.first one.1 kin)
      ∙ ap (λ z. sub (text_of (element_in st n array number)) first z) (amount_shown p.last two.1 kin)
      ∙ sub_is (text_of (element_in st n array number)) (length_of (blank_in st n)) first last long parted) (λ w k keep value.
      next w k keep
      (subst (λ e. Shows s (number_at w.ints t) (text_at w.texts t) (bytes_in e (element_in st n array number))) (sym (part_is first last))
      (subst (λ y. Shows y (number_at w.ints t) (text_at w.texts t) (scalar.Text bytes)) (sym text_sort)
      (record { of = refl; value = value }))))
