-- A source as the list of its statements, each in its place: whether it may stand there, how many blocks it stands in, and whether
-- it bears a name that differs from that of its opening.
use Rattle.std.specs.Prelude.{ℕ, suc, Bool, true, false, not, ◌&&◌, ◌||◌, nat_eq, List, [], ◌∷◌, ◌++◌, map, Option, Some, None}
use Rattle.std.specs.Cmp.Lexicographic.{pointwise}
use Rattle.a95_base.specs.declared.source.Line.{Line}
use Rattle.f95_tree.specs.Forms.{Word}
use Rattle.f95_tree.specs.declared.terminal.UnitWord.{UnitWord}
use Rattle.f95_tree.specs.declared.terminal.UnitWord.TheVariants as word
use Rattle.f95_tree.specs.declared.action.Action.{Action}
use Rattle.f95_tree.specs.declared.action.Action.TheVariants as act
use Rattle.f95_tree.specs.declared.action.Assignment.{Assignment}
use Rattle.f95_tree.specs.declared.declaration.Declaration.{Declaration}
use Rattle.f95_tree.specs.declared.form.Form.{Form}
use Rattle.f95_tree.specs.declared.form.Form.TheVariants as of
use Rattle.f95_tree.specs.declared.form.UnitForm.{UnitForm}
use Rattle.f95_tree.specs.declared.form.UnitForm.TheVariants as unit_of
use Rattle.f95_tree.specs.declared.form.BlockForm.{BlockForm}
use Rattle.f95_tree.specs.declared.form.BlockForm.TheVariants as block_of
use Rattle.f95_tree.specs.declared.form.CaseRange.{CaseRange}
use Rattle.f95_tree.specs.declared.form.Heading.{Heading}
use Rattle.f95_tree.specs.declared.form.Heading.TheVariants as heading_of
use Rattle.f95_tree.specs.declared.source.Source.{Source}
use Rattle.f95_tree.specs.declared.source.Module.{Module}
use Rattle.f95_tree.specs.declared.source.Main.{Main}
use Rattle.f95_tree.specs.declared.source.Subprogram.{Subprogram}
use Rattle.f95_tree.specs.declared.source.Section.{Section}
use Rattle.f95_tree.specs.declared.source.Ending.{Ending}
use Rattle.f95_tree.specs.declared.source.Statement.{Statement}
use Rattle.f95_tree.specs.declared.source.Branch.{Branch}
use Rattle.f95_tree.specs.declared.source.Case.{Case}
use Rattle.f95_tree.specs.declared.source.Otherwise.{Otherwise}
use Rattle.f95_tree.specs.declared.source.Statement.TheOpen.{Statement-F, Branch-F, Case-F, Otherwise-F}
use Rattle.f95_tree.specs.declared.source.Statement.TheOpen as layer
use Rattle.f95_tree.specs.declared.source.Statement.TheFolds.{fold-Statement, fold-Branch, fold-Case, fold-Otherwise}
use Rattle.f95_tree.specs.declared.source.WhereStatement.{WhereStatement}
use Rattle.f95_tree.specs.declared.source.WhereBlock.{WhereBlock}
use Rattle.f95_tree.specs.declared.source.ElseWhere.{ElseWhere}
use Rattle.f95_tree.specs.declared.source.WhereStatement.TheOpen.{WhereStatement-F, ElseWhere-F, WhereBlock-F}
use Rattle.f95_tree.specs.declared.source.WhereStatement.TheOpen as where_layer
use Rattle.f95_tree.specs.declared.source.WhereStatement.TheFolds.{fold-WhereStatement, fold-ElseWhere, fold-WhereBlock}
use Rattle.f95_nesting.specs.Lists.{some, is_absent}

pub record Placed : Type 0 where
  pub line : Line
  pub form : Form
  -- it bears a name that differs from that of its opening
  pub misnamed : Bool
  -- the blocks that it stands in, with the one that it opens, parts or ends
  pub depth : ℕ
  pub stands : Bool

abbrev pub Text : Type 0
Text = List Placed

abbrev pub placed : Line → Form → Bool → ℕ → Bool → Placed
placed l f m d s = record { line = l; form = f; misnamed = m; depth = d; stands = s }

-- a statement without a name, in no block, that may stand where it does
abbrev pub outside : Line → Form → Placed
outside l f = placed l f false 0 true

-- a name, where there is one, against that of the opening
abbrev pub differs : Option Word → Option Word → Bool
differs None opening = false
differs (Some n) None = true
differs (Some n) (Some m) = not (pointwise nat_eq n m)

-- texts one after another
abbrev pub together : {C : Type 0} → List (C → Text) → C → Text
together [] c = []
together (x ∷ xs) c = x c ++ together xs c

-- What a statement stands in.

pub record Context : Type 0 where
  pub procedure : Bool
  pub blocks : ℕ
  -- the names of the DO blocks, the innermost first
  pub dos : List (Option Word)

abbrev pub deeper : Context → Context
deeper c = record { procedure = c.procedure; blocks = suc c.blocks; dos = c.dos }

abbrev pub inside_do : Option Word → Context → Context
inside_do n c = record { procedure = c.procedure; blocks = suc c.blocks; dos = n ∷ c.dos }

abbrev pub is_named : Word → Option Word → Bool
is_named n None = false
is_named n (Some m) = pointwise nat_eq n m

abbrev pub is_named_among : Word → List (Option Word) → Bool
is_named_among n [] = false
is_named_among n (m ∷ ms) = is_named n m || is_named_among n ms

-- whether EXIT and CYCLE may stand: in a DO, of their name where they have one
abbrev pub leaves : List (Option Word) → Option Word → Bool
leaves dos None = some dos
leaves dos (Some n) = is_named_among n dos

abbrev pub action_stands : Context → Action → Bool
action_stands c (act.Exit n) = leaves c.dos n
action_stands c (act.Cycle n) = leaves c.dos n
action_stands c act.Return = c.procedure
action_stands c _ = true

abbrev pub ordinary : Context → Line → Form → Action → Placed
ordinary c l f a = placed l f false c.blocks (action_stands c a)

-- WHERE blocks, by the number of blocks around.

-- an ELSEWHERE: whether it has no mask, and its text, by whether the one before it has none
pub record Other : Type 0 where
  pub unmasked : Bool
  pub text : Bool → ℕ → Text

-- an ELSEWHERE without mask comes last
abbrev pub others_text : Bool → List Other → ℕ → Text
others_text after [] d = []
others_text after (o ∷ os) d = o.text after d ++ others_text o.unmasked os d

abbrev pub where_statement_at : WhereStatement-F (ℕ → Text) Other (ℕ → Text) → ℕ → Text
where_statement_at (where_layer.Assignment l a) d = placed l (of.Action (act.Assignment a)) false d true ∷ []
where_statement_at (where_layer.Where l mask a) d = placed l (of.Action (act.Where mask a)) false d true ∷ []
where_statement_at (where_layer.Block b) d = b d

abbrev pub elsewhere_at : ElseWhere-F (ℕ → Text) Other (ℕ → Text) → Other
elsewhere_at o = record {
  unmasked = is_absent o.mask;
  text = λ after d. placed o.line (of.Block (block_of.ElseWhere o.mask)) false d (not after) ∷ together o.body d;
}

abbrev pub where_block_at : WhereBlock-F (ℕ → Text) Other (ℕ → Text) → ℕ → Text
where_block_at b d = placed b.line (of.Block (block_of.Where b.mask)) false (suc d) true
    ∷ (together b.body (suc d)
    ++ (others_text false b.others (suc d) ++ placed b.end (of.Block block_of.EndWhere) false (suc d) true ∷ []))

abbrev pub where_statement_text : WhereStatement → ℕ → Text
where_statement_text = fold-WhereStatement (ℕ → Text) Other (ℕ → Text) where_statement_at elsewhere_at where_block_at

abbrev pub elsewhere_other : ElseWhere → Other
elsewhere_other = fold-ElseWhere (ℕ → Text) Other (ℕ → Text) where_statement_at elsewhere_at where_block_at

abbrev pub where_block_text : WhereBlock → ℕ → Text
where_block_text = fold-WhereBlock (ℕ → Text) Other (ℕ → Text) where_statement_at elsewhere_at where_block_at

-- Statements and blocks, by what they stand in.

abbrev pub Body : Type 0
Body = Context → Text

-- ELSE IF, and ELSE, by the name of IF
abbrev pub Part : Type 0
Part = Option Word → Context → Text

-- a CASE: whether it is DEFAULT, and its text, by the name of SELECT CASE and by whether a DEFAULT stands before it
pub record Range : Type 0 where
  pub default : Bool
  pub text : Option Word → Bool → Context → Text

abbrev pub parts_text : List Part → Part
parts_text [] n c = []
parts_text (p ∷ ps) n c = p n c ++ parts_text ps n c

abbrev pub last_part_text : Option Part → Part
last_part_text None n c = []
last_part_text (Some p) n c = p n c

-- CASE DEFAULT stands at most once in a block
abbrev pub ranges_text : List Range → Option Word → Bool → Context → Text
ranges_text [] n seen c = []
ranges_text (r ∷ rs) n seen c = r.text n seen c ++ ranges_text rs n (seen || r.default) c

abbrev pub assignments_text : List (Line × Assignment) → ℕ → Text
assignments_text [] d = []
assignments_text (a ∷ xs) d = placed a.0 (of.Action (act.Assignment a.1)) false d true ∷ assignments_text xs d

-- the statement that opens a block
abbrev pub opening : Line → BlockForm → Context → Placed
opening l b c = placed l (of.Block b) false (suc c.blocks) true

-- one that parts a block
abbrev pub parting : Line → BlockForm → Option Word → Option Word → Context → Bool → Placed
parting l b own n c s = placed l (of.Block b) (differs own n) c.blocks s

-- END and the word of a block
abbrev pub block_end : (Option Word → BlockForm) → Option Word → Context → Ending → Placed
block_end form n c end = placed end.line (of.Block (form end.name)) (differs end.name n) (suc c.blocks) (is_absent end.word)

abbrev pub case_form : Option (List CaseRange) → Option Word → BlockForm
case_form None n = block_of.CaseDefault n
case_form (Some ranges) n = block_of.Case ranges n

abbrev pub branch_at : Branch-F Body Part Range Part → Part
branch_at b n c = parting b.line (block_of.ElseIf b.condition b.name) b.name n c true ∷ together b.body c

abbrev pub otherwise_at : Otherwise-F Body Part Range Part → Part
otherwise_at o n c = parting o.line (block_of.Else o.name) o.name n c true ∷ together o.body c

abbrev pub case_at : Case-F Body Part Range Part → Range
case_at k = record {
  default = is_absent k.ranges;
  text = λ n seen c. parting k.line (case_form k.ranges k.name) k.name n c (not (is_absent k.ranges && seen)) ∷ together k.body c;
}

abbrev pub statement_at : Statement-F Body Part Range Part → Body
statement_at (layer.Action l a) c = ordinary c l (of.Action a) a ∷ []
statement_at (layer.If l condition a) c = ordinary c l (of.If condition a) a ∷ []
statement_at (layer.IfBlock l n condition body branches other end) c =
    opening l (block_of.If n condition) c ∷ (together body (deeper c) ++ (parts_text branches n (deeper c)
    ++ (last_part_text other n (deeper c) ++ block_end block_of.EndIf n c end ∷ [])))
statement_at (layer.Select l n selector cases end) c =
    opening l (block_of.Select n selector) c ∷ (ranges_text cases n false (deeper c) ++ block_end block_of.EndSelect n c end ∷ [])
statement_at (layer.Do l n control body end) c =
    opening l (block_of.Do n control) c ∷ (together body (inside_do n c) ++ block_end block_of.EndDo n c end ∷ [])
statement_at (layer.Where b) c = where_block_text b c.blocks
statement_at (layer.Forall l header xs end) c =
    opening l (block_of.Forall header) c
    ∷ (assignments_text xs (suc c.blocks) ++ placed end (of.Block block_of.EndForall) false (suc c.blocks) true ∷ [])

abbrev pub statement_text : Statement → Body
statement_text = fold-Statement Body Part Range Part statement_at branch_at case_at otherwise_at

abbrev pub branch_text : Branch → Part
branch_text = fold-Branch Body Part Range Part statement_at branch_at case_at otherwise_at

abbrev pub case_range : Case → Range
case_range = fold-Case Body Part Range Part statement_at branch_at case_at otherwise_at

abbrev pub otherwise_text : Otherwise → Part
otherwise_text = fold-Otherwise Body Part Range Part statement_at branch_at case_at otherwise_at

abbrev pub statements_text : List Statement → Body
statements_text xs c = together (map statement_text xs) c

-- Units.

abbrev pub use_placed : Line × Word × Option (List Word) → Placed
use_placed u = outside u.0 (of.Unit (unit_of.Use u.1 u.2))

abbrev pub implicit_text : Option Line → Text
implicit_text None = []
implicit_text (Some l) = outside l (of.Unit unit_of.ImplicitNone) ∷ []

abbrev pub declared : Line × Declaration → Placed
declared d = outside d.0 (of.Declaration d.1)

abbrev pub section_text : Section → Text
section_text s = map use_placed s.uses ++ (implicit_text s.implicit ++ map declared s.declarations)

abbrev pub same_unit : UnitWord → UnitWord → Bool
same_unit word.Program word.Program = true
same_unit word.«Module» word.«Module» = true
same_unit word.Subroutine word.Subroutine = true
same_unit word.Function word.Function = true
same_unit _ _ = false

-- END alone, or END with a word and maybe a name
abbrev pub unit_end_form : Option UnitWord → Option Word → UnitForm
unit_end_form None n = unit_of.End
unit_end_form (Some w) n = unit_of.EndUnit w n

-- whether a unit of this word may end so; a procedure doesn't end by END alone
abbrev pub may_end : UnitWord → Bool → Option UnitWord → Option Word → Bool
may_end w alone None None = alone
may_end w alone None (Some _) = false
may_end w alone (Some v) n = same_unit w v

abbrev pub unit_end : UnitWord → Bool → Option Word → Bool → Ending → Placed
unit_end w alone n filled end =
    placed end.line (of.Unit (unit_end_form end.word end.name)) (differs end.name n) 0 (may_end w alone end.word end.name && filled)

abbrev pub heading_word : Heading → UnitWord
heading_word (heading_of.Subroutine _ _) = word.Subroutine
heading_word (heading_of.Function _ _ _) = word.Function

abbrev pub heading_name : Heading → Word
heading_name (heading_of.Subroutine n _) = n
heading_name (heading_of.Function n _ _) = n

-- what the statements of a main program stand in
abbrev pub in_main : Context
in_main = record { procedure = false; blocks = 0; dos = [] }

abbrev pub in_procedure : Context
in_procedure = record { procedure = true; blocks = 0; dos = [] }

abbrev pub subprogram_text : Subprogram → Text
subprogram_text p = outside p.line (of.Unit (unit_of.Procedure p.procedure))
    ∷ (section_text p.section ++ (statements_text p.body in_procedure
    ++ unit_end (heading_word p.procedure.heading) false (Some (heading_name p.procedure.heading)) true p.end ∷ []))

abbrev pub subprograms_text : List Subprogram → Text
subprograms_text [] = []
subprograms_text (p ∷ ps) = subprogram_text p ++ subprograms_text ps

-- CONTAINS with procedures
abbrev pub contains_text : Option (Line × List Subprogram) → Text
contains_text None = []
contains_text (Some c) = outside c.0 (of.Unit unit_of.Contains) ∷ subprograms_text c.1

-- behind CONTAINS there is at least one procedure
abbrev pub is_filled : Option (Line × List Subprogram) → Bool
is_filled None = true
is_filled (Some c) = some c.1

abbrev pub module_text : Module → Text
module_text m = outside m.line (of.Unit (unit_of.«Module» m.name)) ∷ (section_text m.section ++ (contains_text m.procedures
    ++ unit_end word.«Module» true (Some m.name) (is_filled m.procedures) m.end ∷ []))

abbrev pub modules_text : List Module → Text
modules_text [] = []
modules_text (m ∷ ms) = module_text m ++ modules_text ms

abbrev pub program_text : Option (Line × Word) → Text
program_text None = []
program_text (Some o) = outside o.0 (of.Unit (unit_of.Program o.1)) ∷ []

abbrev pub program_name : Option (Line × Word) → Option Word
program_name None = None
program_name (Some o) = Some o.1

abbrev pub main_text : Main → Text
main_text m = program_text m.opening ++ (section_text m.section ++ (statements_text m.body in_main ++ (contains_text m.procedures
    ++ unit_end word.Program true (program_name m.opening) (is_filled m.procedures) m.end ∷ [])))

abbrev pub source_text : Source → Text
source_text s = modules_text s.modules ++ main_text s.main
