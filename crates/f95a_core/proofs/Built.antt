-- What is written of the program of a unit that was read.
use Rattle.std.proofs.Common.{◌≡◌, ◌∙◌, ap, refl, sym, subst, ℕ, ◌≤◌, List, length, Option}
use Rattle.std.specs.Io.KnownBytes.{Appends}
use Rattle.io_edge.specs.Known.{AppendsPrefix}
use Rattle.rank_one.specs.declared.unit.Unit.{Unit}
use Rattle.rank_one.specs.Typed.{IsTyped}
use Rattle.f95_source.specs.Sizes.{IsWithin}
use Rattle.f95_source.specs.Source.{Reads}
use Rattle.loop_tree.specs.declared.tree.Function.{Function}
use Rattle.loop_tree.specs.Text.{text_of_program}
use Rattle.loop_writer.specs.declared.pieces.Piece.{Piece}
use Rattle.loop_writer.specs.Pieces.{functions_of, text_of}
use Rattle.f95a_core.specs.Outside.{Stream, IsTold, Told}
use Rattle.f95a_core.specs.Building.{Compiles, Builds, WritesText, WritesPrefix}
use Rattle.f95a_core.specs.Lowered.{program_of, pieces_of}
use Rattle.f95a_core.proofs.Both.{follows_it}
use Rattle.f95a_core.proofs.Grammatical.{program_fits}
use Rattle.f95a_core.proofs.Lowering.{pieces_are}

-- bytes that read as a unit
pub record Read (bytes : List ℕ) (unit : Unit) : Type 0 where
  pub reads : Reads bytes unit
  pub typed : IsTyped unit
  pub size : IsWithin unit bytes

pub compiles : (bytes : List ℕ) (unit : Unit) (left : List Piece) (program : List Function) → Read bytes unit →
    left ≡ pieces_of unit → program ≡ functions_of left → Compiles bytes program
compiles bytes unit left program read e f =
    subst (λ (p : List Function). Compiles bytes p) (sym (f ∙ ap functions_of e ∙ pieces_are unit))
    (record { unit = unit; reads = read.reads; follows = follows_it unit read.typed (length bytes) read.size })

builds : (bytes : List ℕ) (unit : Unit) → Read bytes unit → Builds bytes (text_of_program (program_of unit))
builds bytes unit read = record {
  program = program_of unit;
  reads = record { text = refl; program = program_fits unit read.typed };
  compiles = record { unit = unit; reads = read.reads; follows = follows_it unit read.typed (length bytes) read.size };
}

text_is : (unit : Unit) (left : List Piece) → left ≡ pieces_of unit → text_of left ≡ text_of_program (program_of unit)
text_is unit left e = ap text_of e ∙ ap text_of_program (pieces_are unit)

pub writes_text : (told : Option (List ℕ)) (bytes : List ℕ) (unit : Unit) (left : List Piece) (out out' : Stream) →
    IsTold told bytes → Read bytes unit → left ≡ pieces_of unit →
    Appends out.bytes out'.bytes (text_of left) → Told told (WritesText out out')
writes_text told bytes unit left out out' is read e appended = record {
  bytes = bytes;
  is = is;
  holds = record {
    text = text_of_program (program_of unit);
    builds = builds bytes unit read;
    appended =
        subst (Appends out.bytes out'.bytes) (text_is unit left e) appended;
  };
}

pub writes_prefix : (told : Option (List ℕ)) (bytes : List ℕ) (unit : Unit) (left : List Piece) (out out' : Stream) →
    IsTold told bytes → Read bytes unit → left ≡ pieces_of unit →
    AppendsPrefix out.bytes out'.bytes (text_of left) → Told told (WritesPrefix out out')
writes_prefix told bytes unit left out out' is read e appended = record {
  bytes = bytes;
  is = is;
  holds = record {
    text = text_of_program (program_of unit);
    builds = builds bytes unit read;
    appended =
        subst (AppendsPrefix out.bytes out'.bytes) (text_is unit left e) appended;
  };
}
