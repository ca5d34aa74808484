use Rattle.std.proofs.Common.{◌∙◌, ap, Some, true}
use Rattle.clap.specs.{Words.{Rule, rule_of}, declared.builder.ArgAction.TheVariants.Set, declared.builder.arg.Arg.Arg}
use Rattle.office_command_line.proofs.builders.word.Goals as goal

pub returns : goal.returns
returns c = record {
  rule = ap rule_of c.help.ensures ∙ ap rule_of c.action.ensures
      ∙ ap (λ (r : Rule). record r { action = Some Set }) (ap rule_of c.required.ensures ∙ ap (λ (r : Rule). record r { required = true }) c.new.ensures.rule);
  local = ap (λ (a : Arg). a.global) c.help.ensures ∙ ap (λ (a : Arg). a.global) c.action.ensures ∙ ap (λ (a : Arg). a.global) c.required.ensures ∙ c.new.ensures.optional.1;
}
