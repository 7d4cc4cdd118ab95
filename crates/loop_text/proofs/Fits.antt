-- Whatever a line is taken for has numbers in range, where its bytes are bytes.
use Rattle.std.proofs.Common.{ℕ, ℤ, FitsSigned, zero, suc, ◌+◌, ◌-◌, ◌*◌, ◌%◌, ◌<◌, ◌^◌, ◌==◌, Bool, true, false, if◌then◌else◌}
use Rattle.std.proofs.Common.{List, [], ◌∷◌, ◌++◌, length, drop, codes, arith}
use Rattle.std.proofs.lemmas.Int.{ints}
use Rattle.std.specs.Int.{w64, cast_signed, cast_unsigned, int_wrapping_neg}
use Rattle.std.specs.List.{AllByRecursion}
use Rattle.a95_base.specs.Input.{is_digit}
use Rattle.loop_tree.specs.declared.atom.Argument.{Argument}
use Rattle.loop_tree.specs.Program.{FitsNumber, FitsByte, FitsAtom, FitsText, FitsReference, FitsArgument, FitsInt, FitsWords}
use Rattle.loop_tree.specs.Program.{FitsBlock, FitsRow, FitsLine}
use Rattle.loop_text.specs.Guess.{byte_at, begins, NumberOn, number_onto, number_on, index_on, AtomOn, atom_on}
use Rattle.loop_text.specs.Guess.{begins_atom, escape_onto, quoted_onto, ends_quote, escape_left, behind_quote, TextOn, text_on}
use Rattle.loop_text.specs.Guess.{begins_text, ReferenceOn, reference_on, ArgumentOn, argument_on, arguments_onto, arguments_on}
use Rattle.loop_text.specs.Guess.{operator_on, operator_length, operation_on, int_cell_on, int_power_on, int_xor_on, int_index_on}
use Rattle.loop_text.specs.Guess.{int_compare_on, int_plain_on, int_call_on, int_value_on, text_cell_on, text_join_on, text_part_on}
use Rattle.loop_text.specs.Guess.{text_over_on, text_fit_on, text_call_on, text_value_on, store_int_on, store_text_on}
use Rattle.loop_text.specs.Guess.{ints_value_on, new_text_on, texts_value_on, ints_row_on, texts_row_on, int_row_on, text_row_on}
use Rattle.loop_text.specs.Guess.{call_on, variable_row_on, grow_on, built_in_on, for_on, loop_on, word_on, line_on}

-- a fact of a value, by a name that keeps the value in sight
record Holds {A : Type 0} (P : A → Type 0) (x : A) : Type 0 where
  fact : P x

fact_of : {A : Type 0} (P : A → Type 0) (x : A) → Holds P x → P x
fact_of P x h = h.fact

-- either branch of a test
fits_if : {A : Type 0} (P : A → Type 0) (b : Bool) (x y : A) → Holds P x → Holds P y → Holds P (if b then x else y)
fits_if P true x y h k = h
fits_if P false x y h k = k

abbrev pub AreBytes : List ℕ → Type 0
AreBytes bytes = AllByRecursion FitsByte bytes

pub bytes_drop : (n : ℕ) (bytes : List ℕ) → AreBytes bytes → AreBytes (drop n bytes)
bytes_drop zero bytes h = h
bytes_drop (suc n) [] h = tt
bytes_drop (suc n) (c ∷ cs) h = bytes_drop n cs h.1

bytes_more : (bytes : List ℕ) (c : ℕ) → AreBytes bytes → c < 256 → AreBytes (bytes ++ c ∷ [])
bytes_more [] c h small = (small, tt)
bytes_more (b ∷ bytes) c h small = (h.0, bytes_more bytes c h.1 small)

-- ---- numbers

abbrev FitsNumberOn : NumberOn → Type 0
FitsNumberOn n = (n.value < 2 ^ 64) × AreBytes n.rest

number_fits : (n : ℕ) (bytes : List ℕ) → n < 2 ^ 64 → AreBytes bytes → FitsNumberOn (number_onto n bytes)
number_fits n [] small h = (small, tt)
number_fits n (c ∷ cs) small h =
    fact_of FitsNumberOn (number_onto n (c ∷ cs))
    (fits_if FitsNumberOn (is_digit c) _ _
    (record { fact = number_fits (((n * 10) % 2 ^ 64 + (c - 48)) % 2 ^ 64) cs (omega arith) h.1 })
    (record { fact = (small, h) }))

abbrev FitsIndexOn : NumberOn → Type 0
FitsIndexOn n = FitsNumber n.value × AreBytes n.rest

index_fits : (bytes : List ℕ) → AreBytes bytes → FitsIndexOn (index_on bytes)
index_fits bytes h = (omega arith, (number_fits 0 bytes (omega arith) h).1)

-- ---- atoms

abbrev FitsAtomOn : AtomOn → Type 0
FitsAtomOn a = FitsAtom a.value × AreBytes a.rest

signed_fits : (n : ℕ) → n < 2 ^ 64 → FitsSigned w64 (cast_signed w64 n)
signed_fits n h = omega (arith, ints)

negative_fits : (z : ℤ) → FitsSigned w64 (int_wrapping_neg w64 z)
negative_fits z = signed_fits ((2 ^ 64 - cast_unsigned w64 z) % 2 ^ 64) (omega arith)

atom_fits : (bytes : List ℕ) → AreBytes bytes → FitsAtomOn (atom_on bytes)
unfolding atom_on
atom_fits bytes h =
    let behind = bytes_drop 1 bytes h in
    let index = index_fits (drop 1 bytes) behind in
    let below = number_fits 0 (drop 1 bytes) (omega arith) behind in
    let whole = number_fits 0 bytes (omega arith) h in
    fact_of FitsAtomOn (atom_on bytes)
    (fits_if FitsAtomOn (byte_at bytes 0 == 105) _ _ (record { fact = (index.0, index.1) })
    (fits_if FitsAtomOn (byte_at bytes 0 == 107) _ _ (record { fact = (index.0, index.1) })
    (fits_if FitsAtomOn (byte_at bytes 0 == 45) _ _
    (record { fact = (negative_fits (cast_signed w64 (number_on (drop 1 bytes)).value), below.1) })
    (record { fact = (signed_fits (number_on bytes).value whole.0, whole.1) }))))

-- ---- texts, references and arguments

quoted_fits : (done : List ℕ) (left n : ℕ) (bytes : List ℕ) → AreBytes done → AreBytes bytes →
    AreBytes (quoted_onto done left n bytes)
quoted_fits done left n [] d h = d
quoted_fits done left n (c ∷ cs) d h =
    fact_of AreBytes (quoted_onto done left n (c ∷ cs))
    (fits_if AreBytes (left == 0) _ _
    (fits_if AreBytes (c == 34) _ _ (record { fact = d })
    (fits_if AreBytes (c == 92) _ _ (record { fact = quoted_fits done 3 0 cs d h.1 })
    (record { fact = quoted_fits (done ++ c ∷ []) 0 0 cs (bytes_more done c d h.0) h.1 })))
    (fits_if AreBytes (left == 1) _ _
    (record {
      fact = quoted_fits (done ++ escape_onto n c ∷ []) 0 0 cs (bytes_more done (escape_onto n c) d (omega arith)) h.1;
    }) (record { fact = quoted_fits done (left - 1) (escape_onto n c) cs d h.1 })))

behind_fits : (left : ℕ) (bytes : List ℕ) → AreBytes bytes → AreBytes (behind_quote left bytes)
behind_fits left [] h = tt
behind_fits left (c ∷ cs) h =
    fact_of AreBytes (behind_quote left (c ∷ cs))
    (fits_if AreBytes (ends_quote left c) _ _ (record { fact = h.1 }) (record { fact = behind_fits (escape_left left c) cs h.1 }))

abbrev FitsTextOn : TextOn → Type 0
FitsTextOn t = FitsText t.value × AreBytes t.rest

text_fits : (bytes : List ℕ) → AreBytes bytes → FitsTextOn (text_on bytes)
unfolding text_on
text_fits bytes h =
    let behind = bytes_drop 1 bytes h in
    let index = index_fits (drop 1 bytes) behind in
    fact_of FitsTextOn (text_on bytes)
    (fits_if FitsTextOn (byte_at bytes 0 == 34) _ _
    (record { fact = (quoted_fits [] 0 0 (drop 1 bytes) tt behind, behind_fits 0 (drop 1 bytes) behind) })
    (record { fact = (index.0, index.1) }))

abbrev FitsReferenceOn : ReferenceOn → Type 0
FitsReferenceOn r = FitsReference r.value × AreBytes r.rest

reference_fits : (bytes : List ℕ) → AreBytes bytes → FitsReferenceOn (reference_on bytes)
unfolding reference_on
reference_fits bytes h =
    let index = index_fits (drop 1 bytes) (bytes_drop 1 bytes h) in
    fact_of FitsReferenceOn (reference_on bytes)
    (fits_if FitsReferenceOn (byte_at bytes 0 == 98) _ _ (record { fact = (index.0, index.1) })
    (record { fact = (index.0, index.1) }))

abbrev FitsArgumentOn : ArgumentOn → Type 0
FitsArgumentOn a = FitsArgument a.value × AreBytes a.rest

argument_fits : (bytes : List ℕ) → AreBytes bytes → FitsArgumentOn (argument_on bytes)
unfolding argument_on
argument_fits bytes h =
    let a = atom_fits bytes h in
    let t = text_fits bytes h in
    let r = reference_fits bytes h in
    fact_of FitsArgumentOn (argument_on bytes)
    (fits_if FitsArgumentOn (begins_atom (byte_at bytes 0)) _ _ (record { fact = (a.0, a.1) })
    (fits_if FitsArgumentOn (begins_text (byte_at bytes 0)) _ _ (record { fact = (t.0, t.1) }) (record { fact = (r.0, r.1) })))

abbrev AreArguments : List Argument → Type 0
AreArguments arguments = AllByRecursion FitsArgument arguments

arguments_more : (done : List Argument) (a : Argument) → AreArguments done → FitsArgument a → AreArguments (done ++ a ∷ [])
arguments_more [] a d h = (h, tt)
arguments_more (b ∷ done) a d h = (d.0, arguments_more done a d.1 h)

onto_fits : (done : List Argument) (most : ℕ) (bytes : List ℕ) → AreArguments done → AreBytes bytes →
    AreArguments (arguments_onto done most bytes)
unfolding arguments_onto
onto_fits done zero bytes d h = d
onto_fits done (suc most) bytes d h =
    let a = argument_fits bytes h in
    let more = arguments_more done (argument_on bytes).value d a.0 in
    fact_of AreArguments (arguments_onto done (suc most) bytes)
    (fits_if AreArguments (byte_at ((argument_on bytes).rest) 0 == 44) _ _
    (record {
      fact = onto_fits (done ++ (argument_on bytes).value ∷ []) most (drop 2 ((argument_on bytes).rest)) more
          (bytes_drop 2 ((argument_on bytes).rest) a.1);
    }) (record { fact = more }))

arguments_fit : (bytes : List ℕ) → AreBytes bytes → AreArguments (arguments_on bytes)
unfolding arguments_on
arguments_fit bytes h =
    fact_of AreArguments (arguments_on bytes)
    (fits_if AreArguments (byte_at bytes 0 == 41) _ _ (record { fact = tt })
    (record { fact = onto_fits [] (length bytes) bytes tt h }))

-- ---- values

second_fits : (rest : List ℕ) → AreBytes rest → FitsAtomOn (atom_on (drop 2 rest))
second_fits rest h = atom_fits (drop 2 rest) (bytes_drop 2 rest h)

second_text_fits : (rest : List ℕ) → AreBytes rest → FitsTextOn (text_on (drop 2 rest))
second_text_fits rest h = text_fits (drop 2 rest) (bytes_drop 2 rest h)

operation_fits : (a : AtomOn) → FitsAtomOn a → FitsInt (operation_on a)
unfolding operation_on
operation_fits a h =
    let place = operator_length (operator_on (drop 1 a.rest)) + 2 in
    fact_of FitsInt (operation_on a)
    (fits_if FitsInt (byte_at a.rest 0 == 32) _ _
    (record { fact = (h.0, (atom_fits (drop place a.rest) (bytes_drop place a.rest h.1)).0) }) (record { fact = h.0 }))

two_atoms_fit : (a : AtomOn) → FitsAtomOn a → FitsAtom a.value × FitsAtom (atom_on (drop 2 a.rest)).value
two_atoms_fit a h = (h.0, (second_fits a.rest h.1).0)

two_texts_fit : (t : TextOn) → FitsTextOn t → FitsText t.value × FitsText (text_on (drop 2 t.rest)).value
two_texts_fit t h = (h.0, (second_text_fits t.rest h.1).0)

int_plain_fits : (bytes : List ℕ) → AreBytes bytes → FitsInt (int_plain_on bytes)
unfolding int_plain_on int_power_on int_xor_on
int_plain_fits bytes h =
    let at6 = atom_fits (drop 6 bytes) (bytes_drop 6 bytes h) in
    let at7 = atom_fits (drop 7 bytes) (bytes_drop 7 bytes h) in
    let reference = reference_fits (drop 7 bytes) (bytes_drop 7 bytes h) in
    fact_of FitsInt (int_plain_on bytes)
    (fits_if FitsInt (begins bytes (codes "f_wrap(")) _ _ (record { fact = at7.0 })
    (fits_if FitsInt (begins bytes (codes "f_pow(")) _ _ (record { fact = two_atoms_fit (atom_on (drop 6 bytes)) at6 })
    (fits_if FitsInt (begins bytes (codes "f_xor(")) _ _ (record { fact = two_atoms_fit (atom_on (drop 6 bytes)) at6 })
    (fits_if FitsInt (begins bytes (codes "f_size(")) _ _ (record { fact = reference.0 })
    (fits_if FitsInt (begins bytes (codes "f_live(")) _ _ (record { fact = reference.0 })
    (fits_if FitsInt (begins bytes (codes "f_depth(")) _ _ (record { fact = tt })
    (fits_if FitsInt (begins bytes (codes "f_more(")) _ _ (record { fact = tt })
    (fits_if FitsInt (begins bytes (codes "f_look(")) _ _ (record { fact = at7.0 }) (record { fact = at7.0 })))))))))

int_call_fits : (bytes : List ℕ) → AreBytes bytes → FitsInt (int_call_on bytes)
unfolding int_call_on int_index_on int_compare_on
int_call_fits bytes h =
    let at6 = text_fits (drop 6 bytes) (bytes_drop 6 bytes h) in
    let at7 = text_fits (drop 7 bytes) (bytes_drop 7 bytes h) in
    let at8 = text_fits (drop 8 bytes) (bytes_drop 8 bytes h) in
    fact_of FitsInt (int_call_on bytes)
    (fits_if FitsInt (begins bytes (codes "f_len(")) _ _ (record { fact = at6.0 })
    (fits_if FitsInt (begins bytes (codes "f_index(")) _ _ (record { fact = two_texts_fit (text_on (drop 8 bytes)) at8 })
    (fits_if FitsInt (begins bytes (codes "f_code(")) _ _ (record { fact = at7.0 })
    (fits_if FitsInt (begins bytes (codes "f_cmp(")) _ _ (record { fact = two_texts_fit (text_on (drop 6 bytes)) at6 })
    (record { fact = int_plain_fits bytes h })))))

cell_fits : (n : NumberOn) → FitsIndexOn n → FitsNumber n.value × FitsAtom (atom_on (drop 1 n.rest)).value
cell_fits n h = (h.0, (atom_fits (drop 1 n.rest) (bytes_drop 1 n.rest h.1)).0)

int_value_fits : (bytes : List ℕ) → AreBytes bytes → FitsInt (int_value_on bytes)
unfolding int_value_on int_cell_on
int_value_fits bytes h =
    fact_of FitsInt (int_value_on bytes)
    (fits_if FitsInt (begins_atom (byte_at bytes 0)) _ _ (record { fact = operation_fits (atom_on bytes) (atom_fits bytes h) })
    (fits_if FitsInt (byte_at bytes 0 == 98) _ _
    (record { fact = cell_fits (index_on (drop 1 bytes)) (index_fits (drop 1 bytes) (bytes_drop 1 bytes h)) })
    (record { fact = int_call_fits bytes h })))

text_part_fits : (t : TextOn) → FitsTextOn t → FitsWords (text_part_on t)
unfolding text_part_on
text_part_fits t h = let a = second_fits t.rest h.1 in (h.0, a.0, (second_fits ((atom_on (drop 2 t.rest)).rest) a.1).0)

text_over_fits : (t : TextOn) → FitsTextOn t → FitsWords (text_over_on t)
unfolding text_over_on
text_over_fits t h = let a = second_fits t.rest h.1 in (h.0, a.0, (second_text_fits ((atom_on (drop 2 t.rest)).rest) a.1).0)

text_call_fits : (bytes : List ℕ) → AreBytes bytes → FitsWords (text_call_on bytes)
unfolding text_call_on text_join_on text_fit_on
text_call_fits bytes h =
    let at6 = text_fits (drop 6 bytes) (bytes_drop 6 bytes h) in
    let at7 = text_fits (drop 7 bytes) (bytes_drop 7 bytes h) in
    let at8 = text_fits (drop 8 bytes) (bytes_drop 8 bytes h) in
    fact_of FitsWords (text_call_on bytes)
    (fits_if FitsWords (begins bytes (codes "f_cat(")) _ _ (record { fact = two_texts_fit (text_on (drop 6 bytes)) at6 })
    (fits_if FitsWords (begins bytes (codes "f_sub(")) _ _ (record { fact = text_part_fits (text_on (drop 6 bytes)) at6 })
    (fits_if FitsWords (begins bytes (codes "f_over(")) _ _ (record { fact = text_over_fits (text_on (drop 7 bytes)) at7 })
    (fits_if FitsWords (begins bytes (codes "f_fit(")) _ _
    (record { fact = (at6.0, (second_fits ((text_on (drop 6 bytes)).rest) at6.1).0) })
    (fits_if FitsWords (begins bytes (codes "f_trim(")) _ _ (record { fact = at7.0 })
    (fits_if FitsWords (begins bytes (codes "f_left(")) _ _ (record { fact = at7.0 })
    (fits_if FitsWords (begins bytes (codes "f_right(")) _ _ (record { fact = at8.0 })
    (record { fact = (atom_fits (drop 6 bytes) (bytes_drop 6 bytes h)).0 }))))))))

text_value_fits : (bytes : List ℕ) → AreBytes bytes → FitsWords (text_value_on bytes)
unfolding text_value_on text_cell_on
text_value_fits bytes h =
    fact_of FitsWords (text_value_on bytes)
    (fits_if FitsWords (begins_text (byte_at bytes 0)) _ _ (record { fact = (text_fits bytes h).0 })
    (fits_if FitsWords (byte_at bytes 0 == 99) _ _
    (record { fact = cell_fits (index_on (drop 1 bytes)) (index_fits (drop 1 bytes) (bytes_drop 1 bytes h)) })
    (record { fact = text_call_fits bytes h })))

-- ---- rows

ints_value_fits : (n : ℕ) (bytes : List ℕ) → FitsNumber n → AreBytes bytes → FitsBlock (ints_value_on n bytes)
unfolding ints_value_on
ints_value_fits n bytes k h =
    let at6 = atom_fits (drop 6 bytes) (bytes_drop 6 bytes h) in
    let at7 = atom_fits (drop 7 bytes) (bytes_drop 7 bytes h) in
    fact_of FitsBlock (ints_value_on n bytes)
    (fits_if FitsBlock (begins bytes (codes "f_new(")) _ _ (record { fact = (k, at6.0) })
    (fits_if FitsBlock (begins bytes (codes "f_temp(")) _ _ (record { fact = (k, at7.0) })
    (fits_if FitsBlock (begins bytes (codes "f_copy(")) _ _ (record { fact = (k, at7.0) })
    (fits_if FitsBlock (begins bytes (codes "f_mark(")) _ _ (record { fact = (k, at7.0) })
    (record { fact = (k, (index_fits (drop 1 bytes) (bytes_drop 1 bytes h)).0) })))))

texts_value_fits : (n : ℕ) (bytes : List ℕ) → FitsNumber n → AreBytes bytes → FitsBlock (texts_value_on n bytes)
unfolding texts_value_on new_text_on
texts_value_fits n bytes k h =
    let at11 = atom_fits (drop 11 bytes) (bytes_drop 11 bytes h) in
    let at12 = atom_fits (drop 12 bytes) (bytes_drop 12 bytes h) in
    fact_of FitsBlock (texts_value_on n bytes)
    (fits_if FitsBlock (begins bytes (codes "f_new_text(")) _ _
    (record { fact = (k, at11.0, (second_fits ((atom_on (drop 11 bytes)).rest) at11.1).0) })
    (fits_if FitsBlock (begins bytes (codes "f_temp_text(")) _ _ (record { fact = (k, at12.0) })
    (fits_if FitsBlock (begins bytes (codes "f_copy_text(")) _ _ (record { fact = (k, at12.0) })
    (record { fact = (k, (index_fits (drop 1 bytes) (bytes_drop 1 bytes h)).0) }))))

ints_row_fits : (n : NumberOn) → FitsIndexOn n → FitsBlock (ints_row_on n)
unfolding ints_row_on store_int_on
ints_row_fits n h =
    let i = atom_fits (drop 1 n.rest) (bytes_drop 1 n.rest h.1) in
    let rest = (atom_on (drop 1 n.rest)).rest in
    fact_of FitsBlock (ints_row_on n)
    (fits_if FitsBlock (byte_at n.rest 0 == 91) _ _
    (record { fact = (h.0, i.0, (atom_fits (drop 4 rest) (bytes_drop 4 rest i.1)).0) })
    (record { fact = ints_value_fits n.value (drop 3 n.rest) h.0 (bytes_drop 3 n.rest h.1) }))

texts_row_fits : (n : NumberOn) → FitsIndexOn n → FitsBlock (texts_row_on n)
unfolding texts_row_on store_text_on
texts_row_fits n h =
    let i = atom_fits (drop 1 n.rest) (bytes_drop 1 n.rest h.1) in
    let rest = (atom_on (drop 1 n.rest)).rest in
    fact_of FitsBlock (texts_row_on n)
    (fits_if FitsBlock (byte_at n.rest 0 == 91) _ _
    (record { fact = (h.0, i.0, (text_fits (drop 4 rest) (bytes_drop 4 rest i.1)).0) })
    (record { fact = texts_value_fits n.value (drop 3 n.rest) h.0 (bytes_drop 3 n.rest h.1) }))

variable_row_fits : (letter : ℕ) (n : NumberOn) → FitsIndexOn n → FitsRow (variable_row_on letter n)
unfolding variable_row_on int_row_on text_row_on call_on
variable_row_fits letter n h =
    fact_of FitsRow (variable_row_on letter n)
    (fits_if FitsRow (letter == 105) _ _ (record { fact = (h.0, int_value_fits (drop 3 n.rest) (bytes_drop 3 n.rest h.1)) })
    (fits_if FitsRow (letter == 115) _ _ (record { fact = (h.0, text_value_fits (drop 3 n.rest) (bytes_drop 3 n.rest h.1)) })
    (fits_if FitsRow (letter == 98) _ _ (record { fact = ints_row_fits n h })
    (fits_if FitsRow (letter == 99) _ _ (record { fact = texts_row_fits n h })
    (record { fact = (h.0, arguments_fit (drop 1 n.rest) (bytes_drop 1 n.rest h.1)) })))))

built_in_fits : (bytes : List ℕ) → AreBytes bytes → FitsRow (built_in_on bytes)
unfolding built_in_on grow_on
built_in_fits bytes h =
    let reference = reference_fits (drop 7 bytes) (bytes_drop 7 bytes h) in
    let at10 = atom_fits (drop 10 bytes) (bytes_drop 10 bytes h) in
    fact_of FitsRow (built_in_on bytes)
    (fits_if FitsRow (begins bytes (codes "f_at(")) _ _ (record { fact = (index_fits (drop 5 bytes) (bytes_drop 5 bytes h)).0 })
    (fits_if FitsRow (begins bytes (codes "f_grow(")) _ _
    (record { fact = (reference.0, (second_fits ((reference_on (drop 7 bytes)).rest) reference.1).0) })
    (fits_if FitsRow (begins bytes (codes "f_free(")) _ _ (record { fact = reference.0 })
    (fits_if FitsRow (begins bytes (codes "f_stop(")) _ _ (record { fact = tt })
    (fits_if FitsRow (begins bytes (codes "f_fault(")) _ _ (record { fact = tt })
    (fits_if FitsRow (begins bytes (codes "f_put_int(")) _ _ (record { fact = at10.0 })
    (fits_if FitsRow (begins bytes (codes "f_put_log(")) _ _ (record { fact = at10.0 })
    (fits_if FitsRow (begins bytes (codes "f_put_text(")) _ _
    (record { fact = (text_fits (drop 11 bytes) (bytes_drop 11 bytes h)).0 })
    (fits_if FitsRow (begins bytes (codes "f_record(")) _ _ (record { fact = tt }) (record { fact = tt }))))))))))

-- ---- lines

loop_fits : (k : NumberOn) → FitsIndexOn k → FitsLine (loop_on k)
unfolding loop_on for_on
loop_fits k h =
    let first = atom_fits (drop 3 k.rest) (bytes_drop 3 k.rest h.1) in
    let rest = (atom_on (drop 3 k.rest)).rest in
    let test = index_fits (drop 3 rest) (bytes_drop 3 rest first.1) in
    let behind = (index_on (drop 3 rest)).rest in
    fact_of FitsLine (loop_on k)
    (fits_if FitsLine (byte_at ((atom_on (drop 3 k.rest)).rest) 0 == 59) _ _
    (record { fact = (h.0, (atom_fits (drop 3 behind) (bytes_drop 3 behind test.1)).0) }) (record { fact = (h.0, first.0) }))

word_fits : (bytes : List ℕ) → AreBytes bytes → FitsLine (word_on bytes)
unfolding word_on
word_fits bytes h =
    fact_of FitsLine (word_on bytes)
    (fits_if FitsLine (begins bytes (codes "f_")) _ _ (record { fact = built_in_fits bytes h })
    (fits_if FitsLine (begins bytes (codes "for (k")) _ _
    (record { fact = loop_fits (index_on (drop 6 bytes)) (index_fits (drop 6 bytes) (bytes_drop 6 bytes h)) })
    (fits_if FitsLine (begins bytes (codes "if (")) _ _ (record { fact = (atom_fits (drop 4 bytes) (bytes_drop 4 bytes h)).0 })
    (fits_if FitsLine (begins bytes (codes "} else")) _ _ (record { fact = tt })
    (fits_if FitsLine (begins bytes (codes "}")) _ _ (record { fact = tt })
    (fits_if FitsLine (begins bytes (codes "while")) _ _ (record { fact = tt })
    (fits_if FitsLine (begins bytes (codes "break")) _ _ (record { fact = tt })
    (fits_if FitsLine (begins bytes (codes "continue")) _ _ (record { fact = tt }) (record { fact = tt })))))))))

pub line_fits : (bytes : List ℕ) → AreBytes bytes → FitsLine (line_on bytes)
unfolding line_on
line_fits bytes h =
    fact_of FitsLine (line_on bytes)
    (fits_if FitsLine (is_digit (byte_at bytes 1)) _ _
    (record {
      fact = variable_row_fits (byte_at bytes 0) (index_on (drop 1 bytes))
          (index_fits (drop 1 bytes) (bytes_drop 1 bytes h));
    }) (record { fact = word_fits bytes h }))
