-- How a text is read, line after line. No public clause cites this file: it says how the private functions work. What is
-- read and what is refused stands in Refused.antt.
use Rattle.std.specs.Prelude.{◌≡◌, ℕ, ◌+◌, ◌^◌, ◌==◌, Bool, true, false, ◌&&◌, ◌||◌, nat_lt, nat_le, if◌then◌else◌, List, [], ◌∷◌}
use Rattle.std.specs.Prelude.{◌++◌, length, drop, codes, filter_map, Option, Some, None}
use Rattle.std.specs.List.{list_any}
use Rattle.std.specs.Str.{bytes_eq}
use Rattle.loop_tree.specs.declared.atom.Letter.{Letter}
use Rattle.loop_tree.specs.declared.atom.Letter.TheVariants as letter
use Rattle.loop_tree.specs.declared.row.Row.{Row}
use Rattle.loop_tree.specs.declared.tree.Stmt.{Stmt}
use Rattle.loop_tree.specs.declared.tree.Stmt.TheVariants as stmt
use Rattle.loop_tree.specs.declared.tree.CodeLine.{CodeLine}
use Rattle.loop_tree.specs.declared.tree.CodeLine.TheVariants as code
use Rattle.loop_tree.specs.Text.{spell, function_head}
use Rattle.loop_tree.specs.Program.{leaves_row}
use Rattle.loop_text.specs.declared.level.Level.{Level}
use Rattle.loop_text.specs.declared.level.LevelKind.{LevelKind}
use Rattle.loop_text.specs.declared.level.LevelKind.TheVariants as kind
use Rattle.loop_text.specs.declared.reader.Reader.{Reader}
use Rattle.loop_text.specs.Guess.{number_on, line_on}

-- ---- levels

abbrev pub is_loop : LevelKind → Bool
is_loop (kind.If a) = false
is_loop (kind.Else a first) = false
is_loop (kind.ForUp k bound) = true
is_loop (kind.ForDown k bound) = true
is_loop kind.Forever = true

-- a loop is open
abbrev pub in_loop : List Level → Bool
in_loop levels = list_any (λ (level : Level). is_loop level.kind) levels

-- the statement that a level and the statements in it make
abbrev pub closed : LevelKind → List Stmt → Stmt
closed (kind.If a) body = stmt.If a body
closed (kind.Else a first) body = stmt.IfElse a first body
closed (kind.ForUp k bound) body = stmt.ForUp k bound body
closed (kind.ForDown k bound) body = stmt.ForDown k bound body
closed kind.Forever body = stmt.Forever body

-- ---- heads

abbrev pub letter_at : ℕ → Option Letter
letter_at c =
    if c == 105 then Some letter.Int else (
    if c == 115 then Some letter.Text else (
    if c == 98 then Some letter.Ints else (
    if c == 99 then Some letter.Texts else None)))

-- the letters behind the number of a function
abbrev pub letters_on : List ℕ → List Letter
letters_on bytes = filter_map letter_at (number_on (drop 6 bytes)).rest

-- ---- lines

abbrev pub start_with : Reader → List ℕ → Option Reader
start_with r bytes = if bytes_eq bytes (codes "/* LoopC 1 */") then Some (record r { started = true }) else None

-- a further function may begin, with these parameters: function 0 has none
abbrev pub may_begin : ℕ → ℕ → Bool
may_begin functions parameters = nat_lt functions (2 ^ 32) &&
    (nat_le parameters (2 ^ 32) && (nat_lt 0 functions || (parameters == 0)))

abbrev pub begin : Reader → List ℕ → List Letter → Option Reader
begin r bytes parameters =
    if bytes_eq bytes (function_head (length r.functions) parameters) then (
    if may_begin (length r.functions) (length parameters) then Some (record r { within = true; parameters = parameters }) else None)
    else None

-- a break or continue stands in a loop
abbrev pub may_stand : Row → List Level → Bool
may_stand row levels = if leaves_row row then in_loop levels else true

unfoldable pub add_row : Reader → Row → Option Reader
add_row r row = if may_stand row r.levels then Some (record r { body = r.body ++ stmt.Row row ∷ [] }) else None

-- at most 1,000 braces are open, the function's own among them
unfoldable pub open_level : Reader → LevelKind → Option Reader
open_level r kind = if nat_lt (length r.levels + 1) 1000 then Some
    (record r { levels = record { kind = kind; outer = r.body } ∷ r.levels; body = [] }) else None

abbrev pub else_of : Reader → LevelKind → List Stmt → List Level → Option Reader
else_of r (kind.If a) outer levels =
    Some (record r { levels = record { kind = kind.Else a r.body; outer = outer } ∷ levels; body = [] })
else_of r other outer levels = None

abbrev pub else_in : Reader → List Level → Option Reader
else_in r [] = None
else_in r (level ∷ levels) = else_of r level.kind level.outer levels

abbrev pub close_in : Reader → List Level → Reader
close_in r [] =
    record r {
      within = false;
      functions = r.functions ++ record { parameters = r.parameters; body = r.body } ∷ [];
      parameters = [];
      body = [];
    }
close_in r (level ∷ levels) = record r { levels = levels; body = level.outer ++ closed level.kind r.body ∷ [] }

unfoldable pub add_line : Reader → CodeLine → Option Reader
add_line r (code.Row row) = add_row r row
add_line r (code.If a) = open_level r (kind.If a)
add_line r code.Else = else_in r r.levels
add_line r (code.ForUp k bound) = open_level r (kind.ForUp k bound)
add_line r (code.ForDown k bound) = open_level r (kind.ForDown k bound)
add_line r code.Forever = open_level r kind.Forever
add_line r code.Close = Some (close_in r r.levels)

unfoldable pub go_on : Reader → List ℕ → CodeLine → Option Reader
go_on r bytes line = if bytes_eq bytes (spell line) then add_line r line else None

-- one more line, if a text may go on with it
unfoldable pub accept : Reader → List ℕ → Option Reader
accept r bytes = if r.started then (if r.within then go_on r bytes (line_on bytes) else begin r bytes (letters_on bytes)) else
    start_with r bytes

-- before the first line
abbrev pub nothing_read : Reader
nothing_read = record { started = false; within = false; functions = []; parameters = []; levels = []; body = [] }

-- what a method that takes a line answers and leaves
abbrev pub Took : Option Reader → Bool → Reader → Type 0
Took o true new = o ≡ Some new
Took o false new = o ≡ None

-- line after line
abbrev pub accept_in : Option Reader → List ℕ → Option Reader
accept_in None bytes = None
accept_in (Some r) bytes = accept r bytes

abbrev pub reads : Option Reader → List (List ℕ) → Option Reader
reads o [] = o
reads o (bytes ∷ lines) = reads (accept_in o bytes) lines

-- what was read is a whole text
abbrev pub is_text : Reader → Bool
is_text r = if r.within then false else nat_lt 0 (length r.functions)
