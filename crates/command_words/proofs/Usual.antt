-- What `clap` makes of the words that are mostly written: where its walk stands behind each, and that none is refused.
use Rattle.std.proofs.Common.{◌≡◌, ◌∙◌, ap, ap₂, refl, sym, cond, true≢false, ne_eqb, codes, true, false, not, List, [], ◌∷◌}
use Rattle.std.proofs.Common.{◌++◌, Some, None}
use Rattle.std.specs.Prelude.{ℕ, Bool, ◌&&◌, Option, fold, length, nat_le, option_map, option_and_then, if◌then◌else◌, is_some}
use Rattle.std.specs.List.{list_all}
use Rattle.std.proofs.lemmas.Bool.{and_parts}
use Rattle.a95_base.specs.Input.{is_digit, is_number, number_of}
use Rattle.std.specs.Str.{bytes_eq}
use Rattle.clap.specs.Words.{Kinds, Text, built}
use Rattle.clap.specs.Kinds.{or_else}
use Rattle.clap.specs.Lexer.{strip_byte}
use Rattle.clap.specs.Simple.{Shape, entered}
use Rattle.clap.specs.Faults.{check_fault, defaults_fault, entered_fault, settle_fault, step_fault, turn_fault, walk_fault}
use Rattle.clap.specs.Faults.{word_fault}
use Rattle.clap.specs.Walk.{Held, Step, Waiting, Walk, after_step, arg_by_index, finished, idle, is_empty, nothing_held, option}
use Rattle.clap.specs.Walk.{plain_word, settled, to_positional, value, walked, word_met}
use Rattle.clap.proofs.OnLiterals.{clap_on_literals}
use Rattle.clap.proofs.SimpleLemmas.{is_false}
use Rattle.command_words.specs.CommandLine.{command_line}
use Rattle.command_words.specs.Commands.{Command, RunFile, asked_by, command_named, command_of, turns_of}
use Rattle.command_words.specs.UsualWords.{UsualWords, is_plain}

no_hyphen : (word : Text) → is_plain word ≡ true → strip_byte 45 word ≡ None
no_hyphen [] e = refl
no_hyphen (c ∷ cs) e = rw (is_false _ e) refl

no_dashes : (word : Text) → is_plain word ≡ true → bytes_eq word (45 ∷ 45 ∷ []) ≡ false
no_dashes [] e = refl
no_dashes (c ∷ cs) e = rw (is_false _ e) refl

-- the command line as it is built
abbrev line : Shape
line = (built command_line).top

-- a plain word is no flag, and isn't refused as one
met_idle : (position : ℕ) (word : Text) (h : Held) → is_plain word ≡ true
    → word_met line.rules [] false idle position word h ≡ plain_word line.rules idle word h
met_idle position word h e = rw (no_hyphen word e, no_dashes word e, no_hyphen word e) refl

met_option : (id : Text) (position : ℕ) (word : Text) (h : Held) → is_plain word ≡ true
    → word_met line.rules [] false (option id) position word h ≡ plain_word line.rules (option id) word h
met_option id position word h e = rw (no_hyphen word e, no_dashes word e, no_hyphen word e) refl

passes_idle : (word : Text) (h : Held) → is_plain word ≡ true → word_fault line [] false idle word h ≡ []
passes_idle word h e = rw (no_hyphen word e, no_dashes word e, no_hyphen word e) refl

passes_option : (id word : Text) (h : Held) → is_plain word ≡ true → word_fault line [] false (option id) word h ≡ []
passes_option id word h e = rw (no_hyphen word e, no_dashes word e, no_hyphen word e) refl

-- what is left to do behind the words
abbrev kinds_behind : Kinds → Walk → Kinds
kinds_behind kinds w =
    or_else kinds (or_else (entered_fault (built command_line) w.stopped) (or_else (settle_fault line.rules false w.held)
    (or_else (defaults_fault (settled line.rules w.held).rows line.rules)
    (check_fault line (finished line.rules w.held) (is_some (entered (built command_line) w.stopped))))))

abbrev behind : Kinds → Walk → Option Command
behind kinds w =
    option_and_then asked_by (if is_empty (kinds_behind kinds w) then Some (finished line.rules w.held) else None)

none_is : command_of [] ≡ None
unfolding clap_on_literals
none_is = refl

-- a walk between two words that no option ends and no subcommand stops
abbrev at : Held → Waiting → ℕ → Walk
at h waiting position = record { held = h; waiting = waiting; position = position; is_trailing = false; stopped = None }

abbrev comes_to : Walk → List Text → Option Command
comes_to w words = behind (walk_fault line [] w words) (fold (walked line.rules []) w words)

-- a plain word is the value of the next positional
abbrev given : Held → ℕ → Text → Walk
given h position word = to_positional line.rules (arg_by_index line.rules position) word (at h idle position) h

-- or that of the option that waits for it
abbrev said : Held → Text → ℕ → Text → Walk
said h id position word =
    let met = plain_word line.rules (option id) word h in
    after_step line.rules word (at h (option id) position) met.0 met.1

given_is : (h : Held) (position : ℕ) (word : Text) → is_plain word ≡ true
    → walked line.rules [] (at h idle position) word ≡ given h position word
unfolding walked
given_is h position word e = ap (λ met. after_step line.rules word (at h idle position) met.0 met.1) (met_idle position word h e)

said_is : (h : Held) (id : Text) (position : ℕ) (word : Text) → is_plain word ≡ true
    → walked line.rules [] (at h (option id) position) word ≡ said h id position word
unfolding walked
said_is h id position word e =
    ap (λ met. after_step line.rules word (at h (option id) position) met.0 met.1) (met_option id position word h e)

-- what refuses a plain word: that the positional takes no value
given_fault : (h : Held) (position : ℕ) (word : Text) → is_plain word ≡ true
    → turn_fault line [] (at h idle position) word ≡ step_fault line position h value
given_fault h position word e =
    ap₂ (λ ks met. or_else ks (step_fault line position met.0 met.1)) (passes_idle word h e) (met_idle position word h e)

goes_on : (w next : Walk) (kinds : Kinds) (word : Text) (rest : List Text)
    → turn_fault line [] w word ≡ kinds → walked line.rules [] w word ≡ next
    → comes_to w (word ∷ rest) ≡ behind (or_else kinds (walk_fault line [] next rest)) (fold (walked line.rules []) next rest)
unfolding walk_fault
goes_on w next kinds word rest fault goes =
    ap₂ (λ ks v. behind (or_else ks (walk_fault line [] v rest)) (fold (walked line.rules []) v rest)) fault goes

given_next : (h : Held) (position : ℕ) (word : Text) (rest : List Text) → is_plain word ≡ true
    → step_fault line position h value ≡ []
    → comes_to (at h idle position) (word ∷ rest) ≡ comes_to (given h position word) rest
given_next h position word rest e passes =
    goes_on _ _ [] word rest (given_fault h position word e ∙ passes) (given_is h position word e)

said_next : (h : Held) (id : Text) (position : ℕ) (word : Text) (rest : List Text) → is_plain word ≡ true
    → comes_to (at h (option id) position) (word ∷ rest) ≡ comes_to (said h id position word) rest
said_next h id position word rest e =
    let step = λ (ks : Kinds) (met : Held × Step). or_else ks (step_fault line position met.0 met.1) in
    goes_on _ _ [] word rest (ap₂ step (passes_option id word h e) (met_option id position word h e))
    (said_is h id position word e)

-- what is held behind COMMAND, behind OPERAND too, and behind `--turns`
abbrev held_1 : Text → Held
held_1 command = (given nothing_held 1 command).held

abbrev held_2 : Text → Text → Held
held_2 command file = (given (held_1 command) 2 file).held

abbrev waits : Held → Held
waits h = record (settled line.rules h) { pending = Some (codes "turns", []) }

two_words : (command file : Text) (rest : List Text) → is_plain command ≡ true → is_plain file ≡ true
    → command_of (command ∷ file ∷ rest) ≡ comes_to (at (held_2 command file) idle 3) rest
unfolding clap_on_literals
two_words command file rest e f =
    given_next nothing_held 1 command (file ∷ rest) e refl ∙ given_next (held_1 command) 2 file rest f refl

then_turns : (command file digits : Text) → is_plain digits ≡ true
    → comes_to (at (held_2 command file) idle 3) (codes "--turns" ∷ digits ∷ []) ≡ command_named command file (Some digits)
unfolding clap_on_literals
then_turns command file digits e = said_next (waits (held_2 command file)) (codes "turns") 3 digits [] e

then_joined : (command file digits : Text)
    → comes_to (at (held_2 command file) idle 3) ((codes "--turns=" ++ digits) ∷ []) ≡ command_named command file (Some digits)
unfolding clap_on_literals
then_joined command file digits = refl

turns_first : (command file digits : Text) → is_plain command ≡ true → is_plain file ≡ true → is_plain digits ≡ true
    → command_of (command ∷ codes "--turns" ∷ digits ∷ file ∷ []) ≡ command_named command file (Some digits)
unfolding clap_on_literals
turns_first command file digits e f g =
    given_next nothing_held 1 command (codes "--turns" ∷ digits ∷ file ∷ []) e refl
    ∙ said_next (waits (held_1 command)) (codes "turns") 2 digits (file ∷ []) g
    ∙ given_next (said (waits (held_1 command)) (codes "turns") 2 digits).held 2 file [] f refl

two_are : (command file : Text) → is_plain command ≡ true → is_plain file ≡ true
    → command_of (command ∷ file ∷ []) ≡ command_named command file None
unfolding clap_on_literals
two_are command file e f = two_words command file [] e f

one_is : (command : Text) → is_plain command ≡ true → command_of (command ∷ []) ≡ None
unfolding clap_on_literals
one_is command e = given_next nothing_held 1 command [] e refl

three_are : (command file word : Text) → is_plain command ≡ true → is_plain file ≡ true → is_plain word ≡ true
    → command_of (command ∷ file ∷ word ∷ []) ≡ None
unfolding clap_on_literals
three_are command file word e f g =
    two_words command file (word ∷ []) e f
    ∙ goes_on (at (held_2 command file) idle 3) (given (held_2 command file) 3 word)
    (step_fault line 3 (held_2 command file) value) word []
    (given_fault (held_2 command file) 3 word g) (given_is (held_2 command file) 3 word g)

number_of_turns : (digits : Text) (n : ℕ) → turns_of digits ≡ Some n → is_number digits ≡ true
number_of_turns digits n e = go (is_number digits) (nat_le (length digits) 38) e
  where
    go : (a b : Bool) → cond (a && b) (Some (number_of digits)) None ≡ Some n → a ≡ true
    go true b e = refl
    go false b e = absurd (true≢false (sym (ap is_some e)))

plain_number : (digits : Text) → is_number digits ≡ true → is_plain digits ≡ true
plain_number [] e = refl
plain_number (c ∷ cs) e =
    let digit = (and_parts (is_digit c) (list_all is_digit cs) e).0 in
    ap not (ne_eqb c 45 (λ same. true≢false (sym digit ∙ ap is_digit same)))

plain_turns : (digits : Text) (n : ℕ) → turns_of digits ≡ Some n → is_plain digits ≡ true
plain_turns digits n e = plain_number digits (number_of_turns digits n e)

pub usual : UsualWords
usual = record {
  build = λ file e. two_are (codes "build") file refl e;
  run = λ file e. two_are (codes "run") file refl e;
  turns = λ file digits n e d. two_words (codes "run") file (codes "--turns" ∷ digits ∷ []) refl e
      ∙ then_turns (codes "run") file digits (plain_turns digits n d) ∙ ap (option_map (RunFile file)) d;
  joined = λ file digits n e d. two_words (codes "run") file ((codes "--turns=" ++ digits) ∷ []) refl e
      ∙ then_joined (codes "run") file digits ∙ ap (option_map (RunFile file)) d;
  before = λ file digits n e d. turns_first (codes "run") file digits refl e (plain_turns digits n d)
      ∙ ap (option_map (RunFile file)) d;
  none = none_is;
  alone = one_is;
  three = three_are;
  other = λ command file e f not_build not_run. two_are command file e f ∙ rw (not_build, not_run) refl;
  build_turns = λ file digits e g. two_words (codes "build") file (codes "--turns" ∷ digits ∷ []) refl e
      ∙ then_turns (codes "build") file digits g;
}
