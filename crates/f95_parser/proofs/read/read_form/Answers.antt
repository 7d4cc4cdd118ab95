use Rattle.std.proofs.Common.{◌<◌, sym, ◌∙◌, subst}
use Rattle.f95_parser.specs.Rules.{too_many_open}
use Rattle.f95_parser.proofs.FormLaws.{of_form, formless}
use Rattle.f95_parser.proofs.read.read_form.Goals as goal

pub refusal-requires : goal.refusal-requires
refusal-requires c =
    formless c.args.tokens.now (sym c.in_ok-form_in.ensures ∙ c.in-None.is)

pub returns-then-most_open-gt-MOST_OPEN-clause-refused : goal.returns-then-most_open-gt-MOST_OPEN-clause-refused
returns-then-most_open-gt-MOST_OPEN-clause-refused c =
    too_many_open (
      c.in-Some.form,
      of_form c.args.tokens.now c.in-Some.form
          (sym c.in_ok-form_in.ensures ∙ c.in-Some.is),
      subst (λ n. 64 < n) c.most_open.ensures c.if-most_open-gt-MOST_OPEN.true,
    )

pub returns-else-most_open-gt-MOST_OPEN-clause-read : goal.returns-else-most_open-gt-MOST_OPEN-clause-read
returns-else-most_open-gt-MOST_OPEN-clause-read c =
    of_form c.args.tokens.now c.in-Some.form
    (sym c.in_ok-form_in.ensures ∙ c.in-Some.is)
