-- What bytes read as is typed: its lines are lines of the bytes, and it has no more arrays than the bytes have terminals.
use Rattle.std.proofs.Common.{◌≡◌, ℕ, ◌+◌, ◌*◌, ◌≤◌, ◌<◌, ◌^◌, List, [], ◌∷◌, ◌++◌, length, map, Option, Some, None, sym, ap, subst}
use Rattle.std.proofs.Common.{refl, arith}
use Rattle.std.proofs.lemmas.List.{length-map}
use Rattle.a95_base.specs.Lists.{Every}
use Rattle.a95_base.proofs.Lists.{Every-left, Every-right, Every-from_map, Every-weaker}
use Rattle.a95_base.specs.declared.source.Line.{Line}
use Rattle.f95_tree.specs.declared.declaration.Declaration.{Declaration}
use Rattle.f95_tree.specs.declared.source.Main.{Main}
use Rattle.f95_tree.specs.declared.source.Section.{Section}
use Rattle.f95_tree.specs.declared.source.Source.{Source}
use Rattle.f95_tree.specs.declared.source.Statement.{Statement, roll-Statement}
use Rattle.f95_tree.specs.declared.source.Statement.TheOpen.{Statement-F, Branch-F, Case-F, Otherwise-F}
use Rattle.f95_tree.specs.declared.source.Statement.TheOpen as layer
use Rattle.f95_tree.specs.declared.source.Statement.TheFolds.{ind-Statement, map-Statement, fold-roll-Statement}
use Rattle.f95_tree.specs.declared.source.Branch.{Branch}
use Rattle.f95_tree.specs.declared.source.Case.{Case}
use Rattle.f95_tree.specs.declared.source.Otherwise.{Otherwise}
use Rattle.f95_tree.specs.declared.source.WhereBlock.{WhereBlock, roll-WhereBlock}
use Rattle.f95_tree.specs.declared.source.WhereStatement.{WhereStatement}
use Rattle.f95_tree.specs.declared.source.ElseWhere.{ElseWhere}
use Rattle.f95_tree.specs.declared.source.WhereStatement.TheOpen.{WhereBlock-F}
use Rattle.f95_tree.specs.declared.source.WhereStatement.TheFolds.{ind-WhereBlock, fold-roll-WhereBlock}
use Rattle.f95_nesting.specs.Nesting.{Lined, forms_of, bare}
use Rattle.f95_nesting.specs.Placed.{Placed, Text, Context, Body, Part, Range, Other, in_main, where_statement_at, elsewhere_at}
use Rattle.f95_nesting.specs.Placed.{where_block_at, where_block_text, statement_at, branch_at, case_at, otherwise_at}
use Rattle.f95_nesting.specs.Placed.{statement_text, statements_text, declared, use_placed, implicit_text, section_text}
use Rattle.f95_nesting.specs.Placed.{contains_text, unit_end, program_text, main_text, modules_text, source_text}
use Rattle.f95_reader.specs.Reading.{HasForms, ReadsSource}
use Rattle.rank_one.specs.declared.unit.Unit as unit
use Rattle.rank_one.specs.declared.symbols.Symbol.{Symbol}
use Rattle.rank_one.specs.Forms.{where_line, statement_line, line_at}
use Rattle.rank_one.specs.Reading.{symbols_of, LineFits, StatementFits, Fits, IsUnit}
use Rattle.rank_one.specs.Typed.{IsTyped, size_of}
use Rattle.rank_one.specs.Sizes.{terminals_in}
use Rattle.f95_source.specs.Source.{Reads}
use Rattle.f95_source.specs.Sizes.{IsWithin}
use Rattle.f95_source.proofs.SizeLaws.{TerminalsWithin, size_within, end_text}

abbrev pub LinesWithin : Type 0
LinesWithin = (bytes : List ℕ) (forms : List Lined) (feeds : ℕ) → HasForms bytes forms feeds →
    Every (λ (f : Lined). f.0.0 ≤ length bytes) forms

abbrev Any : {A : Type 0} → A → Type 0
Any x = Unit {0}

abbrev firsts : {A : Type 0} {Q : A → Type 0} → List ((x : A) × Q x) → List A
firsts xs = map (λ p. p.0) xs

-- the first of some statements stands on this line
abbrev BeginsOn : ℕ → Text → Type 0
BeginsOn line [] = ⊥
BeginsOn line (p ∷ t) = p.line.0 ≡ line

-- ---- a statement's first line

abbrev WhereFirst : WhereBlock → Type 0
WhereFirst b = (d : ℕ) → BeginsOn (where_line b) (where_block_text b d)

where_first : (z : WhereBlock-F WhereStatement ElseWhere WhereBlock) → WhereFirst (roll-WhereBlock z)
where_first z = λ d.
    let line = fold-roll-WhereBlock (Unit {0}) (Unit {0}) ℕ (λ _. tt) (λ _. tt) (λ b. b.line.0) z in
    let text =
    ap (λ (b : ℕ → Text). b d)
    (fold-roll-WhereBlock (ℕ → Text) Other (ℕ → Text) where_statement_at elsewhere_at where_block_at z) in
    subst (λ t. BeginsOn (where_line (roll-WhereBlock z)) t) (sym text) (sym line)

every_where : (b : WhereBlock) → WhereFirst b
every_where = ind-WhereBlock Any Any WhereFirst (λ x y is. tt) (λ x y is. tt)
    (λ x y is. subst (λ z. WhereFirst (roll-WhereBlock z)) is (where_first _))

abbrev First : Statement → Type 0
First x = (c : Context) → BeginsOn (statement_line x) (statement_text x c)

abbrev Layer : Type 0
Layer = Statement-F Statement Branch Case Otherwise

by_first : (x : Statement) (c : Context) (n : ℕ) (t : Text) → statement_line x ≡ n → statement_text x c ≡ t → BeginsOn n t →
    BeginsOn (statement_line x) (statement_text x c)
by_first x c n t line text begins = subst (λ u. BeginsOn (statement_line x) u) (sym text)
    (subst (λ m. BeginsOn m t) (sym line) begins)

-- the line and the text of a layer
layer_first : (y : Statement-F ((x : Statement) × First x) ((x : Branch) × Any x) ((x : Case) × Any x) ((x : Otherwise) × Any x))
    → First (roll-Statement
    (map-Statement ((x : Statement) × First x) ((x : Branch) × Any x) ((x : Case) × Any x) ((x : Otherwise) × Any x) Statement
    Branch Case Otherwise (λ p. p.0) (λ p. p.0) (λ p. p.0) (λ p. p.0) y))
layer_first (layer.Action l a) = λ c. let z : Layer = layer.Action l a in
    by_first (roll-Statement z) c _ _
    (fold-roll-Statement ℕ (Unit {0}) (Unit {0}) (Unit {0}) line_at (λ _. tt) (λ _. tt) (λ _. tt) z)
    (ap (λ (b : Body). b c) (fold-roll-Statement Body Part Range Part statement_at branch_at case_at otherwise_at z)) refl
layer_first (layer.If l e a) = λ c. let z : Layer = layer.If l e a in
    by_first (roll-Statement z) c _ _
    (fold-roll-Statement ℕ (Unit {0}) (Unit {0}) (Unit {0}) line_at (λ _. tt) (λ _. tt) (λ _. tt) z)
    (ap (λ (b : Body). b c) (fold-roll-Statement Body Part Range Part statement_at branch_at case_at otherwise_at z)) refl
layer_first (layer.IfBlock l n e xs bs None end) = λ c. let z : Layer = layer.IfBlock l n e (firsts xs) (firsts bs) None end in
    by_first (roll-Statement z) c _ _
    (fold-roll-Statement ℕ (Unit {0}) (Unit {0}) (Unit {0}) line_at (λ _. tt) (λ _. tt) (λ _. tt) z)
    (ap (λ (b : Body). b c) (fold-roll-Statement Body Part Range Part statement_at branch_at case_at otherwise_at z)) refl
layer_first (layer.IfBlock l n e xs bs (Some o) end) = λ c. let z : Layer =
    layer.IfBlock l n e (firsts xs) (firsts bs) (Some o.0) end in
    by_first (roll-Statement z) c _ _
    (fold-roll-Statement ℕ (Unit {0}) (Unit {0}) (Unit {0}) line_at (λ _. tt) (λ _. tt) (λ _. tt) z)
    (ap (λ (b : Body). b c) (fold-roll-Statement Body Part Range Part statement_at branch_at case_at otherwise_at z)) refl
layer_first (layer.Select l n e ks end) = λ c. let z : Layer = layer.Select l n e (firsts ks) end in
    by_first (roll-Statement z) c _ _
    (fold-roll-Statement ℕ (Unit {0}) (Unit {0}) (Unit {0}) line_at (λ _. tt) (λ _. tt) (λ _. tt) z)
    (ap (λ (b : Body). b c) (fold-roll-Statement Body Part Range Part statement_at branch_at case_at otherwise_at z)) refl
layer_first (layer.Do l n k xs end) = λ c. let z : Layer = layer.Do l n k (firsts xs) end in
    by_first (roll-Statement z) c _ _
    (fold-roll-Statement ℕ (Unit {0}) (Unit {0}) (Unit {0}) line_at (λ _. tt) (λ _. tt) (λ _. tt) z)
    (ap (λ (b : Body). b c) (fold-roll-Statement Body Part Range Part statement_at branch_at case_at otherwise_at z)) refl
layer_first (layer.Where b) = λ c. let z : Layer = layer.Where b in
    by_first (roll-Statement z) c _ _
    (fold-roll-Statement ℕ (Unit {0}) (Unit {0}) (Unit {0}) line_at (λ _. tt) (λ _. tt) (λ _. tt) z)
    (ap (λ (b : Body). b c) (fold-roll-Statement Body Part Range Part statement_at branch_at case_at otherwise_at z))
    (every_where b c.blocks)
layer_first (layer.Forall l h xs end) = λ c. let z : Layer = layer.Forall l h xs end in
    by_first (roll-Statement z) c _ _
    (fold-roll-Statement ℕ (Unit {0}) (Unit {0}) (Unit {0}) line_at (λ _. tt) (λ _. tt) (λ _. tt) z)
    (ap (λ (b : Body). b c) (fold-roll-Statement Body Part Range Part statement_at branch_at case_at otherwise_at z)) refl

every_first : (x : Statement) → First x
every_first = ind-Statement First Any Any Any (λ x y is. subst (λ z. First (roll-Statement z)) is (layer_first y)) (λ x y is. tt)
    (λ x y is. tt) (λ x y is. tt)

-- ---- lines

module _ (most : ℕ) where
  abbrev Within : Placed → Type 0
  Within p = p.line.0 ≤ most

  abbrev DeclaredWithin : Line × Declaration → Type 0
  DeclaredWithin d = d.0.0 ≤ most

  abbrev StatedWithin : Statement → Type 0
  StatedWithin x = statement_line x ≤ most

  begun_within : (line : ℕ) (t : Text) → BeginsOn line t → Every Within t → line ≤ most
  begun_within line [] b h = absurd b
  begun_within line (p ∷ t) b h = subst (λ n. n ≤ most) b h.0

  stated_within : (xs : List Statement) (c : Context) → Every Within (statements_text xs c) → Every StatedWithin xs
  stated_within [] c h = tt
  stated_within (x ∷ xs) c h =
      let first = Every-left Within (statement_text x c) (statements_text xs c) h in
      let rest = Every-right Within (statement_text x c) (statements_text xs c) h in
      (begun_within (statement_line x) (statement_text x c) (every_first x c) first, stated_within xs c rest)

  declared_within : (s : Section) → Every Within (section_text s) → Every DeclaredWithin s.declarations
  declared_within s h =
      let behind = Every-right Within (map use_placed s.uses) (implicit_text s.implicit ++ map declared s.declarations) h in
      Every-from_map Within declared s.declarations
      (Every-right Within (implicit_text s.implicit) (map declared s.declarations) behind)

  main_within : (m : Main) → Every Within (main_text m) → Every DeclaredWithin m.section.declarations × Every StatedWithin m.body
  main_within m h =
      let rest = statements_text m.body in_main ++ end_text m in
      let opened = Every-right Within (program_text m.opening) (section_text m.section ++ rest) h in
      let behind = Every-right Within (section_text m.section) rest opened in (
        declared_within m.section (Every-left Within (section_text m.section) rest opened),
        stated_within m.body in_main (Every-left Within (statements_text m.body in_main) (end_text m) behind),
      )

  source_within : (s : Source) → Every Within (source_text s) → Every DeclaredWithin s.main.section.declarations
      × Every StatedWithin s.main.body
  source_within s h = main_within s.main (Every-right Within (modules_text s.modules) (main_text s.main) h)

  text_within : (t : Text) → Every (λ (f : Lined). f.0.0 ≤ most) (forms_of t) → Every Within t
  text_within t h = Every-from_map (λ (f : Lined). f.0.0 ≤ most) bare t h

-- ---- the whole

arrays_few : (bytes : List ℕ) (s : Source) (u : unit.Unit) → IsUnit s u → IsWithin u bytes → length (symbols_of s) ≤ 2
    * length bytes
arrays_few bytes s u is few =
    let same = length-map (symbols_of s) (λ (x : Symbol). x.array) in
    let arrays = ap (λ (v : unit.Unit). length v.arrays) is.is in
    omega (arith, same, arrays, few)

module _ (terminals : TerminalsWithin) (lines : LinesWithin)
    (sizes : (s : Source) (u : unit.Unit) → IsUnit s u → size_of u ≤ terminals_in s) where
  pub unit_within : (bytes : List ℕ) (u : unit.Unit) → Reads bytes u → IsWithin u bytes
  unit_within bytes u r = size_within terminals bytes r.source u r.reads (sizes r.source u r.is)

  fits : (bytes : List ℕ) (u : unit.Unit) → (r : Reads bytes u) → Fits r.source
  fits bytes u r =
      let few = arrays_few bytes r.source u r.is (unit_within bytes u r) in
      let short : length bytes ≤ 1048576 = r.reads.has.cut.short in
      let forms : Every (λ (f : Lined). f.0.0 ≤ length bytes) (forms_of (source_text r.source)) =
      subst (Every (λ (f : Lined). f.0.0 ≤ length bytes)) (sym r.reads.nests.printed)
      (lines bytes r.reads.forms r.reads.feeds r.reads.has) in
      let within = source_within (length bytes) r.source (text_within (length bytes) (source_text r.source) forms) in
      record {
        count = omega (arith, few, short);
        declarations = Every-weaker (DeclaredWithin (length bytes)) LineFits (λ d h. omega (arith, short, h))
            r.source.main.section.declarations within.0;
        statements = Every-weaker (StatedWithin (length bytes)) StatementFits (λ x h. omega (arith, short, h)) r.source.main.body
            within.1;
      }

  pub unit_typed : ((s : Source) (u : unit.Unit) → Fits s → IsUnit s u → IsTyped u) → (bytes : List ℕ) (u : unit.Unit) →
      Reads bytes u → IsTyped u
  unit_typed typed bytes u r = typed r.source u (fits bytes u r) r.is
