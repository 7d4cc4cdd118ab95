-- Which words are reserved, and what each stands for; and the words that are left out.
use Rattle.std.specs.Prelude.{ℕ, Bool, true, false, ◌||◌, nat_eq, List, [], ◌∷◌, Option, Some, None, codes, if◌then◌else◌}
use Rattle.f95_tree.specs.declared.terminal.Keyword.{Keyword}
use Rattle.f95_tree.specs.declared.terminal.Keyword.TheVariants as keyword
use Rattle.f95_tree.specs.declared.terminal.UnitWord.TheVariants as unit
use Rattle.f95_tree.specs.declared.terminal.TypeWord.TheVariants as type_word
use Rattle.f95_tree.specs.declared.terminal.PrefixWord.TheVariants as prefix_word
use Rattle.f95_tree.specs.declared.terminal.BlockWord.TheVariants as block
use Rattle.f95_tree.specs.declared.terminal.ActionWord.TheVariants as action
use Rattle.f95_tree.specs.Forms.{Word}
use Rattle.f95_parts.specs.Views.{is}

-- a keyword, or two that are joined
abbrev pub Keywords : Type 0
Keywords = Keyword × Option Keyword

abbrev pub one : Keyword → Option Keywords
one k = Some (k, None)

abbrev pub two : Keyword → Keyword → Option Keywords
two k l = Some (k, Some l)

-- what begins an action
abbrev pub action_word : Word → Option Keywords
action_word w =
    if is (codes "call") w then one (keyword.Action action.Call)
    else (if is (codes "allocate") w then one (keyword.Action action.Allocate)
    else (if is (codes "deallocate") w then one (keyword.Action action.Deallocate)
    else (if is (codes "print") w then one (keyword.Action action.Print)
    else (if is (codes "write") w then one (keyword.Action action.Write)
    else (if is (codes "read") w then one (keyword.Action action.Read)
    else (if is (codes "stop") w then one (keyword.Action action.Stop)
    else (if is (codes "return") w then one (keyword.Action action.Return)
    else (if is (codes "continue") w then one (keyword.Action action.Continue)
    else (if is (codes "exit") w then one (keyword.Action action.Exit)
    else (if is (codes "cycle") w then one (keyword.Action action.Cycle)
    else None))))))))))

-- what begins or parts a block
abbrev pub block_word : Word → Option Keywords
block_word w =
    if is (codes "if") w then one (keyword.Block block.If)
    else (if is (codes "select") w then one (keyword.Block block.Select)
    else (if is (codes "do") w then one (keyword.Block block.Do)
    else (if is (codes "where") w then one (keyword.Block block.Where)
    else (if is (codes "forall") w then one (keyword.Block block.Forall)
    else (if is (codes "else") w then one keyword.Else
    else (if is (codes "elseif") w then two keyword.Else (keyword.Block block.If)
    else (if is (codes "elsewhere") w then two keyword.Else (keyword.Block block.Where)
    else (if is (codes "case") w then one keyword.Case
    else (if is (codes "selectcase") w then two (keyword.Block block.Select) keyword.Case
    else action_word w)))))))))

-- what ends a block or a unit
abbrev pub end_word : Word → Option Keywords
end_word w =
    if is (codes "end") w then one keyword.End
    else (if is (codes "endif") w then two keyword.End (keyword.Block block.If)
    else (if is (codes "endselect") w then two keyword.End (keyword.Block block.Select)
    else (if is (codes "enddo") w then two keyword.End (keyword.Block block.Do)
    else (if is (codes "endwhere") w then two keyword.End (keyword.Block block.Where)
    else (if is (codes "endforall") w then two keyword.End (keyword.Block block.Forall)
    else (if is (codes "endprogram") w then two keyword.End (keyword.Unit unit.Program)
    else (if is (codes "endmodule") w then two keyword.End (keyword.Unit unit.Module)
    else (if is (codes "endsubroutine") w then two keyword.End (keyword.Unit unit.Subroutine)
    else (if is (codes "endfunction") w then two keyword.End (keyword.Unit unit.Function)
    else block_word w)))))))))

-- every reserved word
abbrev pub reserved : Word → Option Keywords
reserved w =
    if is (codes "program") w then one (keyword.Unit unit.Program)
    else (if is (codes "module") w then one (keyword.Unit unit.Module)
    else (if is (codes "subroutine") w then one (keyword.Unit unit.Subroutine)
    else (if is (codes "function") w then one (keyword.Unit unit.Function)
    else (if is (codes "integer") w then one (keyword.«Type» type_word.Integer)
    else (if is (codes "logical") w then one (keyword.«Type» type_word.Logical)
    else (if is (codes "character") w then one (keyword.«Type» type_word.Character)
    else (if is (codes "recursive") w then one (keyword.Prefix prefix_word.Recursive)
    else (if is (codes "pure") w then one (keyword.Prefix prefix_word.Pure)
    else (if is (codes "elemental") w then one (keyword.Prefix prefix_word.Elemental)
    else (if is (codes "contains") w then one keyword.Contains
    else (if is (codes "implicit") w then one keyword.Implicit
    else (if is (codes "use") w then one keyword.Use
    else end_word w))))))))))))

-- words that begin statements which this language leaves out, and which may be names
abbrev pub is_left_out_shape : Word → Bool
is_left_out_shape w =
    is (codes "allocatable") w || is (codes "common") w || is (codes "complex") w || is (codes "data") w
    || is (codes "dimension") w || is (codes "double") w || is (codes "doubleprecision") w
    || is (codes "equivalence") w

abbrev pub is_left_out_trait : Word → Bool
is_left_out_trait w =
    is (codes "external") w || is (codes "intent") w || is (codes "intrinsic") w || is (codes "namelist") w
    || is (codes "optional") w || is (codes "parameter") w || is (codes "pointer") w

abbrev pub is_left_out_access : Word → Bool
is_left_out_access w =
    is (codes "private") w || is (codes "public") w || is (codes "real") w || is (codes "save") w
    || is (codes "sequence") w || is (codes "target") w || is (codes "type") w

abbrev pub is_left_out_jump : Word → Bool
is_left_out_jump w =
    is (codes "assign") w || is (codes "backspace") w || is (codes "block") w || is (codes "blockdata") w
    || is (codes "close") w || is (codes "endfile") w || is (codes "entry") w || is (codes "format") w
    || is (codes "go") w

abbrev pub is_left_out_transfer : Word → Bool
is_left_out_transfer w =
    is (codes "goto") w || is (codes "include") w || is (codes "inquire") w || is (codes "interface") w
    || is (codes "nullify") w || is (codes "open") w || is (codes "pause") w || is (codes "rewind") w

abbrev pub is_left_out : Word → Bool
is_left_out w = is_left_out_shape w || is_left_out_trait w || is_left_out_access w || is_left_out_jump w || is_left_out_transfer w
