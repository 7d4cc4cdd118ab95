use Rattle.std.proofs.Common.{◌∙◌, ap}
use Rattle.f95_tree.specs.declared.source.Statement.TheVariants as statement
use Rattle.rank_one.proofs.Again.{named_again, declaration_again}
use Rattle.rank_one.proofs.Stated.{stated, declaration_known}
use Rattle.rank_one.proofs.laws.forms_as_printed.Goals as goal

pub returns-clause-statement : goal.returns-clause-statement
returns-clause-statement c = λ x a h. let s = stated x a h in record {
  line = s.line;
  tree = ap (λ done. statement.Action s.line done) s.acted.tree ∙ s.is;
  fits = s.acted.fits;
}

pub returns-clause-stated : goal.returns-clause-stated
returns-clause-stated c = named_again

pub returns-clause-declaration : goal.returns-clause-declaration
returns-clause-declaration c = declaration_known

pub returns-clause-declared : goal.returns-clause-declared
returns-clause-declared c = declaration_again
