-- Texts, references and arguments that are spelled right are taken for what they spell.
use Rattle.std.proofs.Common.{◌≡◌, ℕ, zero, suc, pos, negsuc, ◌+◌, ◌*◌, ◌/◌, ◌%◌, ◌^◌, ◌<◌, ◌≤◌, ◌==◌, Bool, true, false, List, []}
use Rattle.std.proofs.Common.{◌∷◌, ◌++◌, length, drop, codes, flat_map, if◌then◌else◌, refl, sym, ◌∙◌, ap, arith, append_assoc}
use Rattle.std.proofs.Common.{append-nil, length-append}
use Rattle.std.proofs.lemmas.Bool.Decides.{nat_tests}
use Rattle.std.specs.List.{AllByRecursion}
use Rattle.a95_base.specs.Input.{is_digit}
use Rattle.loop_tree.specs.declared.atom.Atom.{Atom}
use Rattle.loop_tree.specs.declared.atom.Atom.TheVariants as atom
use Rattle.loop_tree.specs.declared.atom.TextAtom.{TextAtom}
use Rattle.loop_tree.specs.declared.atom.TextAtom.TheVariants as text
use Rattle.loop_tree.specs.declared.atom.Reference.{Reference}
use Rattle.loop_tree.specs.declared.atom.Reference.TheVariants as reference
use Rattle.loop_tree.specs.declared.atom.Argument.{Argument}
use Rattle.loop_tree.specs.declared.atom.Argument.TheVariants as argument
use Rattle.loop_tree.specs.Text.{atom_text, is_plain, octal, byte_text, bytes_text, text_atom_text, reference_text, argument_text}
use Rattle.loop_tree.specs.Text.{listed_by}
use Rattle.loop_tree.specs.Program.{FitsByte, FitsAtom, FitsText, FitsReference, FitsArgument}
use Rattle.loop_text.specs.Guess.{byte_at, begins_atom, escape_onto, quoted_onto, behind_quote, literal_text}
use Rattle.loop_text.specs.Guess.{variable_text, text_on, begins_text, ints_reference, texts_reference, reference_on, ArgumentOn}
use Rattle.loop_text.specs.Guess.{int_argument, text_argument, block_argument, argument_on, arguments_onto, arguments_on}
use Rattle.loop_text.proofs.Numbers.{index_again, atom_again, first_digit}

-- ---- texts between quotes

escape_digit : (n d : ℕ) → d < 8 → n * 8 + d < 256 → escape_onto n (48 + d) ≡ n * 8 + d
escape_digit n d h small = omega arith

escape_again : (c : ℕ) → c < 256 → escape_onto (escape_onto (escape_onto 0 (48 + c / 64)) (48 + c / 8 % 8)) (48 + c % 8) ≡ c
escape_again c h =
    let first : escape_onto 0 (48 + c / 64) ≡ c / 64 = escape_digit 0 (c / 64) (omega arith) (omega arith) ∙ omega arith in
    let second : escape_onto (c / 64) (48 + c / 8 % 8) ≡ c / 8 = escape_digit (c / 64) (c / 8 % 8) (omega arith) (omega arith)
    ∙ omega arith in
    let third : escape_onto (c / 8) (48 + c % 8) ≡ c = escape_digit (c / 8) (c % 8) (omega arith) (omega arith) ∙ omega arith in
    ap (λ n. escape_onto (escape_onto n (48 + c / 8 % 8)) (48 + c % 8)) first
    ∙ (ap (λ n. escape_onto n (48 + c % 8)) second ∙ third)

plain_is_no_quote : (c : ℕ) → is_plain c ≡ true → (c == 34) ≡ false
plain_is_no_quote c e = grind (arith, nat_tests)

plain_is_no_backslash : (c : ℕ) → is_plain c ≡ true → (c == 92) ≡ false
plain_is_no_backslash c e = grind (arith, nat_tests)

-- one byte, whichever way it is spelled
one_byte : (done : List ℕ) (c : ℕ) (rest : List ℕ) (b : Bool) → c < 256 → is_plain c ≡ b →
    quoted_onto done 0 0 ((if b then c ∷ [] else (92 ∷ octal c)) ++ rest) ≡ quoted_onto (done ++ c ∷ []) 0 0 rest
one_byte done c rest true h e = rw (plain_is_no_quote c e, plain_is_no_backslash c e) refl
one_byte done c rest false h e = ap (λ n. quoted_onto (done ++ n ∷ []) 0 0 rest) (escape_again c h)

behind_byte : (c : ℕ) (rest : List ℕ) (b : Bool) → is_plain c ≡ b → behind_quote 0 ((if b then c ∷ [] else (92 ∷ octal c)) ++ rest)
    ≡ behind_quote 0 rest
behind_byte c rest true e = rw (plain_is_no_quote c e, plain_is_no_backslash c e) refl
behind_byte c rest false e = refl

quoted_again : (done bytes rest : List ℕ) → AllByRecursion FitsByte bytes → quoted_onto done 0 0 (bytes_text bytes ++ 34 ∷ rest)
    ≡ done ++ bytes
quoted_again done [] rest h = sym (append-nil done)
quoted_again done (c ∷ cs) rest h =
    ap (quoted_onto done 0 0) (append_assoc (byte_text c) (bytes_text cs) (34 ∷ rest))
    ∙ (one_byte done c (bytes_text cs ++ 34 ∷ rest) (is_plain c) h.0 refl
    ∙ (quoted_again (done ++ c ∷ []) cs rest h.1 ∙ append_assoc done (c ∷ []) cs))

behind_again : (bytes rest : List ℕ) → behind_quote 0 (bytes_text bytes ++ 34 ∷ rest) ≡ rest
behind_again [] rest = refl
behind_again (c ∷ cs) rest =
    ap (behind_quote 0) (append_assoc (byte_text c) (bytes_text cs) (34 ∷ rest))
    ∙ (behind_byte c (bytes_text cs ++ 34 ∷ rest) (is_plain c) refl ∙ behind_again cs rest)

pub text_again : (t : TextAtom) (rest : List ℕ) → FitsText t → is_digit (byte_at rest 0) ≡ false →
    text_on (text_atom_text t ++ rest) ≡ record { value = t; rest = rest }
unfolding text_on
text_again (text.Variable n) rest h e = ap variable_text (index_again n rest h e)
text_again (text.Literal bytes) rest h e =
    ap literal_text (append_assoc (bytes_text bytes) (34 ∷ []) rest)
    ∙ (ap (λ bs. record { value = text.Literal bs; rest = behind_quote 0 (bytes_text bytes ++ 34 ∷ rest) })
    (quoted_again [] bytes rest h)
    ∙ ap (λ bs. record { value = text.Literal bytes; rest = bs }) (behind_again bytes rest))

pub reference_again : (r : Reference) (rest : List ℕ) → FitsReference r → is_digit (byte_at rest 0) ≡ false →
    reference_on (reference_text r ++ rest) ≡ record { value = r; rest = rest }
unfolding reference_on
reference_again (reference.Ints n) rest h e = ap ints_reference (index_again n rest h e)
reference_again (reference.Texts n) rest h e = ap texts_reference (index_again n rest h e)

-- ---- what an atom begins with

pub atom_begins : (a : Atom) (rest : List ℕ) → FitsAtom a → begins_atom (byte_at (atom_text a ++ rest) 0) ≡ true
atom_begins (atom.Int n) rest h = refl
atom_begins (atom.Loop k) rest h = refl
atom_begins (atom.Number (pos n)) rest h = let low : n < 2 ^ 64 = omega arith in rw (first_digit n low rest) refl
atom_begins (atom.Number (negsuc n)) rest h = refl

pub text_begins : (t : TextAtom) (rest : List ℕ) → begins_text (byte_at (text_atom_text t ++ rest) 0) ≡ true
text_begins (text.Variable n) rest = refl
text_begins (text.Literal bytes) rest = refl

-- ---- arguments of a call

pub argument_again : (a : Argument) (rest : List ℕ) → FitsArgument a → is_digit (byte_at rest 0) ≡ false →
    argument_on (argument_text a ++ rest) ≡ record { value = a; rest = rest }
unfolding argument_on
argument_again (argument.Int a) rest h e = rw (atom_begins a rest h) (ap int_argument (atom_again a rest h e))
argument_again (argument.Text (text.Variable n)) rest h e = ap text_argument (text_again (text.Variable n) rest h e)
argument_again (argument.Text (text.Literal bytes)) rest h e = ap text_argument (text_again (text.Literal bytes) rest h e)
argument_again (argument.Block (reference.Ints n)) rest h e = ap block_argument (reference_again (reference.Ints n) rest h e)
argument_again (argument.Block (reference.Texts n)) rest h e = ap block_argument (reference_again (reference.Texts n) rest h e)

digit_is_no_bracket : (c : ℕ) → is_digit c ≡ true → (c == 41) ≡ false
digit_is_no_bracket c e = grind (arith, nat_tests)

argument_opens : (a : Argument) (rest : List ℕ) → FitsArgument a → (byte_at (argument_text a ++ rest) 0 == 41) ≡ false
argument_opens (argument.Int (atom.Int n)) rest h = refl
argument_opens (argument.Int (atom.Loop k)) rest h = refl
argument_opens (argument.Int (atom.Number (pos n))) rest h = let low : n < 2 ^ 64 = omega arith in
    digit_is_no_bracket _ (first_digit n low rest)
argument_opens (argument.Int (atom.Number (negsuc n))) rest h = refl
argument_opens (argument.Text (text.Variable n)) rest h = refl
argument_opens (argument.Text (text.Literal bytes)) rest h = refl
argument_opens (argument.Block (reference.Ints n)) rest h = refl
argument_opens (argument.Block (reference.Texts n)) rest h = refl

-- the arguments behind the first, and the bracket
abbrev others_text : List Argument → List ℕ → List ℕ
others_text arguments rest = flat_map (λ y. codes ", " ++ argument_text y) arguments ++ 41 ∷ rest

-- one more of them
other_first : (b : Argument) (more : List Argument) (rest : List ℕ) → others_text (b ∷ more) rest ≡ 44 ∷ 32
    ∷ (argument_text b ++ others_text more rest)
other_first b more rest =
    ap (λ bs. 44 ∷ 32 ∷ bs) (append_assoc (argument_text b) (flat_map (λ y. codes ", " ++ argument_text y) more) (41 ∷ rest))

-- what is done with an argument and what stands behind it
abbrev go_on : List Argument → ℕ → ArgumentOn → List Argument
go_on done most a = if byte_at a.rest 0 == 44 then arguments_onto (done ++ a.value ∷ []) most (drop 2 a.rest) else
    (done ++ a.value ∷ [])

one_argument : (done : List Argument) (most : ℕ) (a : Argument) (rest : List ℕ) → FitsArgument a → is_digit (byte_at rest 0) ≡ false
    → arguments_onto done (suc most) (argument_text a ++ rest) ≡ go_on done most (record { value = a; rest = rest })
unfolding arguments_onto
one_argument done most a rest h e = ap (go_on done most) (argument_again a rest h e)

arguments_more : (done : List Argument) (most : ℕ) (a : Argument) (more : List Argument) (rest : List ℕ) → FitsArgument a →
    AllByRecursion FitsArgument more → length more ≤ most →
    arguments_onto done (suc most) (argument_text a ++ others_text more rest) ≡ done ++ a ∷ more
arguments_more done most a [] rest h hs l = one_argument done most a (41 ∷ rest) h refl
arguments_more done zero a (b ∷ more) rest h hs l = absurd (omega arith)
arguments_more done (suc most) a (b ∷ more) rest h hs l =
    ap (λ bs. arguments_onto done (suc (suc most)) (argument_text a ++ bs)) (other_first b more rest)
    ∙ (one_argument done (suc most) a (44 ∷ 32 ∷ (argument_text b ++ others_text more rest)) h refl
    ∙ (arguments_more (done ++ a ∷ []) most b more rest hs.0 hs.1 (omega arith) ∙ append_assoc done (a ∷ []) (b ∷ more)))

others_long : (more : List Argument) (rest : List ℕ) → length more < length (others_text more rest)
others_long [] rest = omega arith
others_long (b ∷ more) rest =
    let first : length (others_text (b ∷ more) rest) ≡ suc (suc (length (argument_text b ++ others_text more rest))) =
    ap length (other_first b more rest) in
    omega (arith, first, length-append (argument_text b) (others_text more rest), others_long more rest)

listed_first : (a : Argument) (more : List Argument) (rest : List ℕ) → listed_by argument_text (a ∷ more) ++ 41 ∷ rest
    ≡ argument_text a ++ others_text more rest
listed_first a more rest = append_assoc (argument_text a) (flat_map (λ y. codes ", " ++ argument_text y) more) (41 ∷ rest)

with_fuel : (n : ℕ) (a : Argument) (more : List Argument) (rest : List ℕ) → FitsArgument a → AllByRecursion FitsArgument more →
    length more < n → arguments_onto [] n (argument_text a ++ others_text more rest) ≡ a ∷ more
with_fuel zero a more rest h hs l = absurd (omega arith)
with_fuel (suc n) a more rest h hs l = arguments_more [] n a more rest h hs (omega arith)

pub arguments_again : (arguments : List Argument) (rest : List ℕ) → AllByRecursion FitsArgument arguments →
    arguments_on (listed_by argument_text arguments ++ 41 ∷ rest) ≡ arguments
unfolding arguments_on
arguments_again [] rest h = refl
arguments_again (a ∷ more) rest h =
    ap arguments_on (listed_first a more rest)
    ∙ rw (argument_opens a (others_text more rest) h.0)
    (with_fuel (length (argument_text a ++ others_text more rest)) a more rest h.0 h.1
    (omega (arith, length-append (argument_text a) (others_text more rest), others_long more rest)))

-- one turn of the reader of arguments
turn_at : (done : List Argument) (m : ℕ) (bytes : List ℕ) → byte_at ((argument_on bytes).rest) 0 ≡ 44 →
    arguments_onto done (suc m) bytes ≡ arguments_onto (done ++ (argument_on bytes).value ∷ []) m
    (drop 2 ((argument_on bytes).rest))
unfolding arguments_onto
turn_at done m bytes comma = rw comma refl

pub arguments_next : (done all : List Argument) (n m : ℕ) (bytes behind rest : List ℕ) (value : Argument) → n ≡ suc m →
    behind ≡ (argument_on bytes).rest → byte_at behind 0 ≡ 44 →
    value ≡ (argument_on bytes).value → all ≡ done ++ value ∷ [] → rest ≡ drop 2 behind → arguments_onto done n bytes
    ≡ arguments_onto all m rest
arguments_next done all n m bytes behind rest value e b comma v a r =
    let here : byte_at ((argument_on bytes).rest) 0 ≡ 44 = ap (λ bs. byte_at bs 0) (sym b) ∙ comma in
    let turn = turn_at done m bytes here in
    cc
