use Rattle.std.proofs.Common.{rules, ◌≡◌, ◌∙◌, ap, ap₂, codes, true}
use Rattle.std.proofs.lemmas.Result.{IfOk-weaker}
use Rattle.clap.specs.Words.{app_of, rule_of, with_rule}
use Rattle.clap.specs.Simple.{app_of_fields, on_top}
use Rattle.command_words.specs.CommandLine.{option, plain_line, required, without_flags}
use Rattle.command_words.proofs.line.command_line.Goals as goal

pub returns : goal.returns
returns c =
    let command_is : rule_of c.required-command.result ≡ required (codes "COMMAND") = search rules in
    let operand_is : rule_of c.required-operand.result ≡ required (codes "OPERAND") = search rules in
    let turns_is : rule_of c.long-turns.result ≡ option (codes "turns") = search rules in
    let flags_are : app_of c.disable_version_flag.result ≡ plain_line =
    ap app_of_fields c.disable_version_flag.ensures
    ∙ ap (λ f. app_of_fields (record f { disable_version_flag = true })) c.disable_help_flag.ensures
    ∙ ap (λ f. app_of_fields (record f { disable_help_flag = true; disable_version_flag = true })) c.no_binary_name.ensures
    ∙ ap (on_top without_flags) c.new-4.ensures.app in
    let one = c.in_ok-arg.ensures.shape (search rules) ∙ ap₂ with_rule flags_are command_is in
    let two = c.in_ok-arg-2.ensures.shape (search rules) ∙ ap₂ with_rule one operand_is in
    IfOk-weaker c.arg-3.result _ _ (λ line added. added.shape (search rules) ∙ ap₂ with_rule two turns_is) c.arg-3.ensures
