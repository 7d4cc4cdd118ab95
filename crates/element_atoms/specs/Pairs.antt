-- The atoms of the two trees of an operator.
use Rattle.std.specs.Prelude.{suc}
use Rattle.loop_tree.specs.declared.atom.Atom.{Atom}
use Rattle.loop_tree.specs.declared.atom.TextAtom.{TextAtom}
use Rattle.element_atoms.specs.Positions.{atom_at, words_at}
use Rattle.element_atoms.specs.declared.pair.Pair.{Pair}
use Rattle.element_atoms.specs.declared.position.Position.{Position}

abbrev pub first_atom : Position → Pair → Atom
first_atom p pair = atom_at p pair.t pair.x.now

abbrev pub second_atom : Position → Pair → Atom
second_atom p pair = atom_at p (suc pair.t) pair.y.now

abbrev pub first_words : Position → Pair → TextAtom
first_words p pair = words_at p pair.t pair.x.now

abbrev pub second_words : Position → Pair → TextAtom
second_words p pair = words_at p (suc pair.t) pair.y.now
