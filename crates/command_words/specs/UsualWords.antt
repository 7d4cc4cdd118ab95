-- The commands as they are mostly written, and words that are none.
use Rattle.std.specs.Prelude.{◌≡◌, ℕ, ◌^◌, ◌==◌, Bool, true, false, not, [], ◌∷◌, ◌++◌, codes, Some, None}
use Rattle.std.specs.Str.{bytes_eq}
use Rattle.clap.specs.Words.{Text}
use Rattle.command_words.specs.Commands.{BuildFile, RunFile, command_of, turns_of}

-- the word doesn't begin with a hyphen (45), as options do
abbrev pub is_plain : Text → Bool
is_plain [] = true
is_plain (c ∷ cs) = not (c == 45)

pub record UsualWords : Type 0 where
  -- build FILE
  pub build : (file : Text) → is_plain file ≡ true → command_of (codes "build" ∷ file ∷ []) ≡ Some (BuildFile file)
  -- run FILE
  pub run : (file : Text) → is_plain file ≡ true → command_of (codes "run" ∷ file ∷ []) ≡ Some (RunFile file (10 ^ 12))
  -- run FILE --turns N
  pub turns : (file digits : Text) (n : ℕ) → is_plain file ≡ true → turns_of digits ≡ Some n
      → command_of (codes "run" ∷ file ∷ codes "--turns" ∷ digits ∷ []) ≡ Some (RunFile file n)
  -- run FILE --turns=N
  pub joined : (file digits : Text) (n : ℕ) → is_plain file ≡ true → turns_of digits ≡ Some n
      → command_of (codes "run" ∷ file ∷ (codes "--turns=" ++ digits) ∷ []) ≡ Some (RunFile file n)
  -- run --turns N FILE
  pub before : (file digits : Text) (n : ℕ) → is_plain file ≡ true → turns_of digits ≡ Some n
      → command_of (codes "run" ∷ codes "--turns" ∷ digits ∷ file ∷ []) ≡ Some (RunFile file n)
  -- words that are no command: none, a plain one alone, three, another command, or turns beside `build`
  pub none : command_of [] ≡ None
  pub alone : (word : Text) → is_plain word ≡ true → command_of (word ∷ []) ≡ None
  pub three : (one two third : Text) → is_plain one ≡ true → is_plain two ≡ true → is_plain third ≡ true
      → command_of (one ∷ two ∷ third ∷ []) ≡ None
  pub other : (command file : Text) → is_plain command ≡ true → is_plain file ≡ true → bytes_eq command (codes "build") ≡ false
      → bytes_eq command (codes "run") ≡ false → command_of (command ∷ file ∷ []) ≡ None
  pub build_turns : (file digits : Text) → is_plain file ≡ true → is_plain digits ≡ true
      → command_of (codes "build" ∷ file ∷ codes "--turns" ∷ digits ∷ []) ≡ None
